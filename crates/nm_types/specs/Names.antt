-- Names of ports. `valeS:P` is the port P of the switch S, `pipeS{` the master end and `pipeS}` the
-- slave end of the pipe S, `monS` a monitor. S and P are of letters, digits, `_` and `-`; neither is
-- empty but the S of a switch. A name has at most 16 bytes.
use Rattle.std.specs.Prelude.{ℕ, Bool, true, false, ◌||◌, ◌&&◌, ◌==◌, ◌+◌, ◌-◌, ◌≡◌, nat_lt, nat_le, nat_eq, if◌then◌else◌, List, length, take, drop, codes, slice_index, slice_set, Option, Some, None, is_some, position}
use Rattle.std.specs.List.{starts_with, list_all, before_first}
use Rattle.nm_types.specs.Limits.{name_bytes}
use Rattle.nm_types.specs.declared.name.Kind.{Kind}
use Rattle.nm_types.specs.declared.name.Kind.TheVariants.{Vale, Master, Slave, Monitor}

abbrev pub is_word_byte : ℕ → Bool
is_word_byte b = (nat_le 97 b && nat_le b 122) || (nat_le 65 b && nat_le b 90) || (nat_le 48 b && nat_le b 57) || (b == 95) || (b == 45)

abbrev pub are_word_bytes : List ℕ → Bool
are_word_bytes text = list_all is_word_byte text

-- a part of a name that is not empty
abbrev pub is_word : List ℕ → Bool
is_word text = nat_lt 0 (length text) && are_word_bytes text

-- a switch and its port, `S:P`, cut at the first colon
abbrev pub is_switch_port_at : List ℕ → Option ℕ → Bool
is_switch_port_at rest None = false
is_switch_port_at rest (Some colon) = are_word_bytes (take colon rest) && is_word (drop (colon + 1) rest)

abbrev pub colon_in : List ℕ → Option ℕ
colon_in rest = position (λ b. b == 58) rest

abbrev pub is_switch_port : List ℕ → Bool
is_switch_port rest = is_switch_port_at rest (colon_in rest)

-- the end of a pipe that its last byte tells: `{` or `}`
abbrev pub pipe_end : ℕ → Option Kind
pipe_end b = if b == 123 then Some Master else (if b == 125 then Some Slave else None)

abbrev pub pipe_kind : List ℕ → Option Kind
pipe_kind rest = if is_word (take (length rest - 1) rest) then pipe_end (slice_index rest (length rest - 1)) else None

-- what the name names, or none where the text is no name
abbrev pub kind_of : List ℕ → Option Kind
kind_of text =
    if nat_lt name_bytes (length text) then None
    else (if starts_with nat_eq text (codes "vale") then (if is_switch_port (drop 4 text) then Some Vale else None)
    else (if starts_with nat_eq text (codes "pipe") then pipe_kind (drop 4 text)
    else (if starts_with nat_eq text (codes "mon") then (if is_word (drop 3 text) then Some Monitor else None)
    else None)))

unfoldable pub is_name : List ℕ → Bool
is_name text = is_some (kind_of text)

abbrev pub IsName : List ℕ → Type 0
IsName text = is_name text ≡ true

-- the switch of a switch port's name
unfoldable pub switch_of : List ℕ → List ℕ
switch_of text = before_first (λ b. b == 58) (drop 4 text)

abbrev pub is_switch_port_kind : Option Kind → Bool
is_switch_port_kind (Some Vale) = true
is_switch_port_kind _ = false

abbrev pub is_pipe_kind : Option Kind → Bool
is_pipe_kind (Some Master) = true
is_pipe_kind (Some Slave) = true
is_pipe_kind _ = false

abbrev pub is_monitor_kind : Option Kind → Bool
is_monitor_kind (Some Monitor) = true
is_monitor_kind _ = false

-- a port of a VALE switch
unfoldable pub is_switch_port_name : List ℕ → Bool
is_switch_port_name text = is_switch_port_kind (kind_of text)

-- an end of a pipe
unfoldable pub is_pipe_name : List ℕ → Bool
is_pipe_name text = is_pipe_kind (kind_of text)

unfoldable pub is_monitor_name : List ℕ → Bool
is_monitor_name text = is_monitor_kind (kind_of text)

abbrev pub peer_byte : ℕ → ℕ
peer_byte b = if b == 123 then 125 else 123

-- the name of a pipe's other end: its last byte is exchanged
unfoldable pub peer_name : List ℕ → List ℕ
peer_name text = slice_set text (length text - 1) (peer_byte (slice_index text (length text - 1)))
