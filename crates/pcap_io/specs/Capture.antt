-- What bytes are a capture, and of which records.
use Rattle.std.specs.Prelude.{◌≡◌, ℕ, ◌+◌, ◌%◌, ◌^◌, ◌≤◌, ◌==◌, ◌||◌, List, [], ◌∷◌, length, take, drop, Option, None, Some, if◌then◌else◌}
use Rattle.byteorder.specs.Endian.{big_number, little_number}
use Rattle.pcap_io.specs.Limits.{header_bytes, head_bytes, most_captured}
use Rattle.pcap_io.specs.declared.order.Order.{Order}
use Rattle.pcap_io.specs.declared.order.Order.TheVariants.{Big, Little}
use Rattle.pcap_io.specs.declared.record.Record.{Record}

-- reads the number in the first bytes, of which the first argument says how many
abbrev pub Reader : Type 0
Reader = ℕ → List ℕ → ℕ

-- how each order reads a number
abbrev pub number_in : Order → Reader
number_in Big = big_number
number_in Little = little_number

-- the order that the first four bytes choose, read as a big-endian number; the second of each pair is
-- for captures whose fractions are nanoseconds
abbrev pub order_of : ℕ → Option Order
order_of magic =
    if (magic == 0xa1b2c3d4) || (magic == 0xa1b23c4d) then Some Big
    else (if (magic == 0xd4c3b2a1) || (magic == 0x4d3cb2a1) then Some Little else None)

-- the bytes begin with a header of version 2.4 for Ethernet
pub record BeginsWithHeader (number : Reader) (bytes : List ℕ) : Type 0 where
  pub there : header_bytes ≤ length bytes
  pub major : number 2 (drop 4 bytes) ≡ 2
  pub minor : number 2 (drop 6 bytes) ≡ 4
  pub link : number 4 (drop 20 bytes) % 2 ^ 16 ≡ 1

-- the bytes begin with this record: four numbers, the third of which counts the captured bytes that
-- follow
pub record BeginsWith (number : Reader) (text : List ℕ) (r : Record) : Type 0 where
  pub there : head_bytes + length r.bytes ≤ length text
  pub seconds : r.seconds ≡ number 4 text
  pub fraction : r.fraction ≡ number 4 (drop 4 text)
  pub captured : length r.bytes ≡ number 4 (drop 8 text)
  pub original : r.original ≡ number 4 (drop 12 text)
  pub bytes : r.bytes ≡ take (length r.bytes) (drop head_bytes text)
  pub limit : length r.bytes ≤ most_captured

-- the bytes are these records, one after another, and nothing more
abbrev pub AreRecords : Reader → List ℕ → List Record → Type 0
AreRecords number text [] = text ≡ []
AreRecords number text (r ∷ rs) =
    BeginsWith number text r × AreRecords number (drop (head_bytes + length r.bytes) text) rs

-- the bytes are a capture of these records
pub record IsCapture (bytes : List ℕ) (records : List Record) : Type 0 where
  pub order : Order
  pub magic : order_of (big_number 4 bytes) ≡ Some order
  pub header : BeginsWithHeader (number_in order) bytes
  pub body : AreRecords (number_in order) (drop header_bytes bytes) records
