-- What a session has once the bytes of a buffer have been lent to be written.
use Rattle.std.specs.Prelude.{ℕ, List, take}
use Rattle.nm_types.specs.Limits.{buffer_bytes}
use Rattle.nm_types.specs.OwnPorts.{OwnState}
use Rattle.nm_types.specs.OwnEdits.{with_written}
use Rattle.nm_port.specs.Regions.{SideState}

-- all bytes of a named buffer are written; it has no more than there are in a buffer
abbrev pub with_all_written : OwnState → ℕ → List ℕ → OwnState
with_all_written s idx bytes = with_written idx (take buffer_bytes bytes) s

abbrev pub side_written : SideState → ℕ → List ℕ → SideState
side_written s idx bytes = record s { own = with_all_written s.own idx bytes }
