-- What holds of all bytes and records of captures.
use Rattle.std.specs.Prelude.{◌≡◌, ℕ, List, All}
use Rattle.pcap_io.specs.declared.record.Record.{Record}
use Rattle.pcap_io.specs.Capture.{IsCapture}
use Rattle.pcap_io.specs.Faults.{IsCaptureOrFaulty}
use Rattle.pcap_io.specs.Written.{capture_text, IsWritable}

-- bytes are a capture of some records, or have a first fault, and never both
abbrev pub CapturesHaveNoFault : Type 0
CapturesHaveNoFault = (bytes : List ℕ) → IsCaptureOrFaulty bytes

-- the bytes of a capture determine its records
abbrev pub BytesDetermineRecords : Type 0
BytesDetermineRecords = (bytes : List ℕ) (records others : List Record)
    → IsCapture bytes records → IsCapture bytes others → records ≡ others

-- what is written, the header and then records, is a capture of these records
abbrev pub WrittenIsReadAgain : Type 0
WrittenIsReadAgain = (records : List Record)
    → All IsWritable records → IsCapture (capture_text records) records
