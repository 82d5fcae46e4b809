-- The limits. The code's constants are tied to these numbers by `laws::limits_are_defined`.
use Rattle.std.specs.Prelude.{ℕ}

-- the slots of a ring
abbrev pub least_ring : ℕ
least_ring = 2

abbrev pub most_ring : ℕ
most_ring = 4096

-- the extra buffers of a port
abbrev pub most_extra : ℕ
most_extra = 1024

-- the buffers of a pool, and those of a pool whose script names no number
abbrev pub most_pool : ℕ
most_pool = 262144

abbrev pub default_pool : ℕ
default_pool = 8192

abbrev pub buffer_bytes : ℕ
buffer_bytes = 2048

-- the frames of one send: one slot of the largest ring always stays with the kernel side
abbrev pub most_batch : ℕ
most_batch = 4095

-- the bytes of one frame, and the slots that it takes at most
abbrev pub most_frame_bytes : ℕ
most_frame_bytes = 131072

abbrev pub most_frame_slots : ℕ
most_frame_slots = 64

abbrev pub most_switches : ℕ
most_switches = 4

abbrev pub most_switch_ports : ℕ
most_switch_ports = 254

abbrev pub most_pipe_ends : ℕ
most_pipe_ends = 32

abbrev pub most_monitors : ℕ
most_monitors = 32

-- all ports that can be there at once
abbrev pub most_ports : ℕ
most_ports = 1080

abbrev pub name_bytes : ℕ
name_bytes = 16

-- the buckets of a learning table
abbrev pub buckets : ℕ
buckets = 1024

-- a record's entries, stored and promised, and its bytes of frames
abbrev pub most_entries : ℕ
most_entries = 16777216

abbrev pub most_bytes : ℕ
most_bytes = 1073741824

-- those of a record with a transcript of the first version
abbrev pub first_most_entries : ℕ
first_most_entries = 8388608

abbrev pub first_most_bytes : ℕ
first_most_bytes = 536870912

-- the bytes of a transcript's text that is read
abbrev pub most_text : ℕ
most_text = 268435456

-- a script: its users, bytes and lines, the sum of its counts, and the bytes and frames that it plays
abbrev pub most_users : ℕ
most_users = 64

abbrev pub most_script_bytes : ℕ
most_script_bytes = 1048576

abbrev pub most_script_lines : ℕ
most_script_lines = 10000

abbrev pub most_counts : ℕ
most_counts = 1000000

abbrev pub most_capture_bytes : ℕ
most_capture_bytes = 67108864

abbrev pub most_played : ℕ
most_played = 1000000
