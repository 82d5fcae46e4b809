-- What is written of a capture.
use Rattle.std.specs.Prelude.{◌≡◌, ℕ, ◌^◌, ◌<◌, ◌≤◌, List, [], ◌∷◌, ◌++◌, length, flat_map}
use Rattle.byteorder.specs.Endian.{little_bytes}
use Rattle.pcap_io.specs.Limits.{most_captured}
use Rattle.pcap_io.specs.declared.record.Record.{Record}

-- the header of a written capture: little-endian, microseconds, version 2.4, no zone, 262,144 bytes a
-- record at most, Ethernet
abbrev pub header_text : List ℕ
header_text =
    0xd4 ∷ 0xc3 ∷ 0xb2 ∷ 0xa1 ∷ 2 ∷ 0 ∷ 4 ∷ 0
    ∷ 0 ∷ 0 ∷ 0 ∷ 0 ∷ 0 ∷ 0 ∷ 0 ∷ 0 ∷ 0 ∷ 0 ∷ 4 ∷ 0 ∷ 1 ∷ 0 ∷ 0 ∷ 0 ∷ []

-- the numbers of a written record, little-endian, of which all bytes are captured
unfoldable pub head_text : ℕ → ℕ → ℕ → List ℕ
head_text seconds fraction len =
    little_bytes 4 seconds ++ little_bytes 4 fraction ++ little_bytes 4 len ++ little_bytes 4 len

-- a written record
abbrev pub record_text : ℕ → ℕ → List ℕ → List ℕ
record_text seconds fraction bytes = head_text seconds fraction (length bytes) ++ bytes

-- a record that can be written
pub record IsWritable (r : Record) : Type 0 where
  pub seconds : r.seconds < 2 ^ 32
  pub fraction : r.fraction < 2 ^ 32
  pub original : r.original ≡ length r.bytes
  pub limit : length r.bytes ≤ most_captured

-- a written capture of these records
abbrev pub capture_text : List Record → List ℕ
capture_text records = header_text ++ flat_map (λ r. record_text r.seconds r.fraction r.bytes) records
