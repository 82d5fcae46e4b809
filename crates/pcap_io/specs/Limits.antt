-- The sizes of a capture's parts, in bytes. The code's constants are tied to these numbers by
-- `laws::limits_are_defined`.
use Rattle.std.specs.Prelude.{ℕ}

-- the header of a capture
abbrev pub header_bytes : ℕ
header_bytes = 24

-- the four numbers before a record's captured bytes
abbrev pub head_bytes : ℕ
head_bytes = 16

-- the most captured bytes of a record
abbrev pub most_captured : ℕ
most_captured = 262144
