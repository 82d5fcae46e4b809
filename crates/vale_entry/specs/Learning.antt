-- What a switch learns: pairs of an address and the port behind which it was seen, newest first. A
-- pair is never removed. A newer pair hides all older ones of its bucket, also where its port is no
-- longer open, so nothing older comes back.
use Rattle.std.specs.Prelude.{ℕ, Bool, ◌&&◌, ◌==◌, if◌then◌else◌, List, ◌∷◌, find, fold, Option, Some, None, bytes_eq}
pub use Rattle.nm_types.specs.Addresses.{is_short, destination_address, source_address, is_group, is_learnable, bucket_of}
use Rattle.nm_types.specs.Frames.{Frame}
use Rattle.nm_types.specs.Names.{switch_of}
use Rattle.vale_entry.specs.World.{Port, Pair, is_open}

-- the pairs after a frame that the port sends
abbrev pub learned : Port → List Pair → Frame → List Pair
learned sender pairs frame =
    if is_learnable frame then
    record { switch = switch_of sender.name; address = source_address frame; port = sender.id }
    ∷ pairs
    else pairs

abbrev pub learned_of_batch : Port → List Pair → List Frame → List Pair
learned_of_batch sender pairs frames = fold (learned sender) pairs frames

abbrev pub is_in_bucket : List ℕ → ℕ → Pair → Bool
is_in_bucket switch bucket pair = (bucket_of pair.address == bucket) && bytes_eq pair.switch switch

-- the port of the newest pair of the bucket, if the address is that pair's and the port is open
abbrev pub port_of_pair : List Port → List ℕ → Option Pair → Option ℕ
port_of_pair ports address None = None
port_of_pair ports address (Some pair) =
    if bytes_eq pair.address address && is_open ports pair.port then Some pair.port else None

abbrev pub port_of_address : List Port → List Pair → List ℕ → List ℕ → Option ℕ
port_of_address ports pairs switch address =
    port_of_pair ports address (find (is_in_bucket switch (bucket_of address)) pairs)
