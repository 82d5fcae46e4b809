-- The extra buffers of a port as its user sees them, and the bytes of a buffer.
use Rattle.std.specs.Prelude.{ℕ, nat_le, ◌==◌, if◌then◌else◌, List, length, slice_get, Option, Some, None}
use Rattle.nm_types.specs.SyncChecks.{contains_index}
use Rattle.nm_types.specs.OwnPorts.{OwnPort, OwnState, bytes_at, named_of}
use Rattle.nm_types.specs.OwnEdits.{extra_number}
use Rattle.nm_port.specs.declared.port.UserPort.{UserPort}

abbrev pub head_of_extras : OwnPort → ℕ
head_of_extras p = p.extra_head

-- the buffer in an extra position counted from 1, and 0 for 0; none where there is no such position
abbrev pub extra_numbered : ℕ → OwnPort → Option ℕ
extra_numbered number p = if nat_le number (length p.extra) then Some (extra_number p number) else None

-- the buffer in an extra position counted from 0; none where there is no such position
abbrev pub extra_at : ℕ → OwnPort → Option ℕ
extra_at at p = slice_get p.extra at

-- a port whose list of extra buffers begins with another, if it is the port of this id
abbrev pub port_headed_if : ℕ → ℕ → UserPort → UserPort
port_headed_if id idx p = if p.id.0 == id then record p { extra_head = idx } else p

-- the bytes of a buffer that the user may name
abbrev pub named_bytes : OwnState → ℕ → Option (List ℕ)
named_bytes s idx = if contains_index (named_of s) idx then Some (bytes_at s idx) else None
