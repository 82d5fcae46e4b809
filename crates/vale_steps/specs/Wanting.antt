-- How much a port wants of a batch.
use Rattle.std.specs.Prelude.{ℕ, Bool, ◌<◌, ◌^◌, nat_lt, List, [], ◌∷◌, length, sum, Option, Some, None}
use Rattle.std.specs.List.{range_with_len}
use Rattle.nm_types.specs.declared.id.PortId.{PortId}
use Rattle.vale_batch.specs.declared.lists.Want.{Want}
use Rattle.vale_batch.specs.Wants.{Wanted, wanted}
use Rattle.nm_types.specs.Frames.{Frame}
use Rattle.vale_entry.specs.declared.entry.Dest.{Dest}
use Rattle.vale_parts.specs.Batches.{dest_wanted, with_want}
use Rattle.vale_port.specs.Ports.{sizes_of}

-- fewer than 2^32 frames, in fewer than 2^32 slots
pub record IsSmall (want : Wanted) : Type 0 where
  pub places : length want.places < 2 ^ 32
  pub sizes : length want.sizes < 2 ^ 32
  pub slots : sum want.sizes < 2 ^ 32

abbrev pub IsSmallWant : Want → Type 0
IsSmallWant want = IsSmall (wanted want)

-- fewer than 2^32 frames of these sizes, in fewer than 2^32 slots
pub record AreSmall (sizes : List ℕ) : Type 0 where
  pub count : length sizes < 2 ^ 32
  pub slots : sum sizes < 2 ^ 32

-- all frames of these sizes
abbrev pub want_all : PortId → List ℕ → Wanted
want_all to sizes = record { to = to; places = range_with_len 0 (length sizes); sizes = sizes }

-- the wants of an entry with its monitor's, if it has one, who wants all frames of these sizes, if there
-- are some
abbrev pub wants_with : Option PortId → List ℕ → List Wanted → List Wanted
wants_with None sizes wants = wants
wants_with (Some to) [] wants = wants
wants_with (Some to) (size ∷ sizes) wants = with_want (want_all to (size ∷ sizes)) wants

-- the slots of each frame, as a monitor, if there is one, is told them
abbrev pub sizes_for : Option PortId → List Frame → List ℕ
sizes_for None frames = []
sizes_for (Some to) frames = sizes_of frames

abbrev pub dest_in : Want → Dest
dest_in want = dest_wanted (wanted want)

-- the want of a port behind this one
abbrev pub is_behind : ℕ → Want → Bool
is_behind port want = nat_lt port want.to.0
