-- A sync and a get record no bytes of frames.
use Rattle.std.proofs.Common.{ℕ, Bool, true, false, ◌≡◌, List, refl}
use Rattle.nm_types.specs.declared.id.PortId.{PortId}
use Rattle.vale_entry.specs.declared.entry.Reply.{Reply}
use Rattle.vale_entry.specs.Room.{bytes_of}
use Rattle.vale_steps.specs.Reading.{read_ask}

pub no-bytes : (pipe : Bool) (at : PortId) (back : List ℕ) (reply : Reply) → bytes_of (read_ask pipe at back) reply ≡ 0
no-bytes true at back reply = refl
no-bytes false at back reply = refl

pub ruleset reads = (no-bytes)
