-- What is wrong with bytes that are no capture: the first fault, in the order of reading.
use Rattle.std.specs.Prelude.{◌≡◌, ℕ, zero, suc, ◌+◌, ◌%◌, ◌^◌, ◌==◌, ◌&&◌, nat_lt, List, [], ◌∷◌, length, drop, Option, None, Some, MatchOption, Result, Ok, Err, if◌then◌else◌}
use Rattle.byteorder.specs.Endian.{big_number}
use Rattle.pcap_io.specs.Limits.{header_bytes, head_bytes, most_captured}
use Rattle.pcap_io.specs.declared.order.Order.{Order}
use Rattle.pcap_io.specs.declared.record.Record.{Record}
use Rattle.pcap_io.specs.declared.fault.PcapFault.{PcapFault}
use Rattle.pcap_io.specs.declared.fault.PcapFault.TheVariants.{BadMagic, BadVersion, BadLink, LongRecord, Truncated, NoMemory}
use Rattle.pcap_io.specs.Capture.{Reader, number_in, order_of, IsCapture}

-- the size of a record with `left` bytes from its start on, which counts `captured` bytes; or what is
-- wrong with it at the offset `at`
abbrev pub size_of : ℕ → ℕ → ℕ → Result ℕ PcapFault
size_of at captured left =
    if nat_lt most_captured captured then Err (LongRecord at captured)
    else (if nat_lt left (head_bytes + captured) then Err (Truncated at) else Ok (head_bytes + captured))

-- the same for the record with which these bytes begin
abbrev pub record_size : Reader → ℕ → List ℕ → Result ℕ PcapFault
record_size number at text =
    if nat_lt (length text) head_bytes then Err (Truncated at)
    else size_of at (number 4 (drop 8 text)) (length text)

-- the fault of one record, or else that of the records after it
abbrev pub goes_on : Result ℕ PcapFault → (ℕ → Option PcapFault) → Option PcapFault
goes_on (Err fault) behind = Some fault
goes_on (Ok size) behind = behind size

-- the first fault among the next records, at most as many as the second argument says, from the
-- offset `at` on
abbrev pub fault_among : Reader → ℕ → ℕ → List ℕ → Option PcapFault
fault_among number zero at text = None
fault_among number (suc most) at [] = None
fault_among number (suc most) at (b ∷ text) =
    goes_on (record_size number at (b ∷ text))
    (λ size. fault_among number most (at + size) (drop size (b ∷ text)))

-- the first fault of all records from the offset `at` on; there are no more records than bytes
abbrev pub fault_from : Reader → ℕ → List ℕ → Option PcapFault
fault_from number at text = fault_among number (length text) at text

-- what is wrong with a header of 24 bytes
abbrev pub header_fault : Reader → List ℕ → Option PcapFault
header_fault number bytes =
    if (number 2 (drop 4 bytes) == 2) && (number 2 (drop 6 bytes) == 4)
    then (if number 4 (drop 20 bytes) % 2 ^ 16 == 1 then None
    else Some (BadLink (number 4 (drop 20 bytes))))
    else Some (BadVersion (number 2 (drop 4 bytes)) (number 2 (drop 6 bytes)))

-- the first of two
abbrev pub first_of_both : Option PcapFault → Option PcapFault → Option PcapFault
first_of_both None other = other
first_of_both (Some fault) other = Some fault

-- the first fault of bytes whose magic is good
abbrev pub fault_past_magic : Reader → List ℕ → Option PcapFault
fault_past_magic number bytes =
    if nat_lt (length bytes) header_bytes then Some (Truncated 0)
    else first_of_both (header_fault number bytes)
    (fault_from number header_bytes (drop header_bytes bytes))

-- the same, or that the magic chose no order
abbrev pub fault_in_order : List ℕ → Option Order → Option PcapFault
fault_in_order bytes None = Some (BadMagic (big_number 4 bytes))
fault_in_order bytes (Some order) = fault_past_magic (number_in order) bytes

-- the first thing that is wrong with a capture, in the order of reading
abbrev pub first_fault : List ℕ → Option PcapFault
first_fault bytes =
    if nat_lt (length bytes) 4 then Some (Truncated 0)
    else fault_in_order bytes (order_of (big_number 4 bytes))

-- the fault that was found is this one; out of memory is no fault of the bytes
abbrev pub Blames : Option PcapFault → PcapFault → Type 0
Blames found NoMemory = Unit {0}
Blames found (BadMagic magic) = found ≡ Some (BadMagic magic)
Blames found (BadVersion major minor) = found ≡ Some (BadVersion major minor)
Blames found (BadLink link) = found ≡ Some (BadLink link)
Blames found (LongRecord offset len) = found ≡ Some (LongRecord offset len)
Blames found (Truncated offset) = found ≡ Some (Truncated offset)

-- the bytes are a capture of some records, or have a first fault, and never both
abbrev pub IsCaptureOrFaulty : List ℕ → Type 0
IsCaptureOrFaulty bytes = MatchOption (first_fault bytes)
    ((records : List Record) × IsCapture bytes records)
    (λ _. (records : List Record) → ¬ IsCapture bytes records)
