-- Worked captures, as theorems that hold by computation.
use Rattle.std.specs.Prelude.{ℕ, ◌≡◌, List, [], ◌∷◌, ◌++◌, map, drop, replicate, Some, None, Ok, Err, refl}
use Rattle.byteorder.specs.Endian.{little_number, big_bytes}
use Rattle.pcap_io.specs.declared.record.Record.{Record}
use Rattle.pcap_io.specs.declared.fault.PcapFault.TheVariants.{BadMagic, BadVersion, BadLink, LongRecord, Truncated}
use Rattle.pcap_io.specs.Faults.{size_of, first_fault}
use Rattle.pcap_io.specs.Written.{header_text, head_text, capture_text}

-- What is written: two numbers of two bytes stand behind the magic, and four of four bytes behind those.

written_halves : map (λ (at : ℕ). little_number 2 (drop at header_text)) (4 ∷ 6 ∷ []) ≡ 2 ∷ 4 ∷ []
written_halves = refl

written_numbers : map (λ (at : ℕ). little_number 4 (drop at header_text)) (0 ∷ 8 ∷ 12 ∷ 16 ∷ 20 ∷ []) ≡ 0xa1b2c3d4 ∷ 0 ∷ 0 ∷ 262144 ∷ 1 ∷ []
written_numbers = refl

abbrev small : Record
small = record { seconds = 0x01020304; fraction = 5; original = 3; bytes = 7 ∷ 8 ∷ 9 ∷ [] }

written_capture : capture_text (small ∷ small ∷ []) ≡ header_text ++ 4 ∷ 3 ∷ 2 ∷ 1 ∷ 5 ∷ 0 ∷ 0 ∷ 0 ∷ 3 ∷ 0 ∷ 0 ∷ 0 ∷ 3 ∷ 0 ∷ 0 ∷ 0 ∷ 7 ∷ 8 ∷ 9 ∷ 4 ∷ 3 ∷ 2 ∷ 1 ∷ 5 ∷ 0 ∷ 0 ∷ 0 ∷ 3 ∷ 0 ∷ 0 ∷ 0 ∷ 3 ∷ 0 ∷ 0 ∷ 0 ∷ 7 ∷ 8 ∷ 9 ∷ []
unfolding head_text
written_capture = refl

empty_capture : capture_text [] ≡ 0xd4 ∷ 0xc3 ∷ 0xb2 ∷ 0xa1 ∷ 2 ∷ 0 ∷ 4 ∷ 0 ∷ 0 ∷ 0 ∷ 0 ∷ 0 ∷ 0 ∷ 0 ∷ 0 ∷ 0 ∷ 0 ∷ 0 ∷ 4 ∷ 0 ∷ 1 ∷ 0 ∷ 0 ∷ 0 ∷ []
empty_capture = refl

-- What is read.

-- the magic tells the order of all that follows; there are two for each
abbrev begun : ℕ → List ℕ → List ℕ
begun magic halves = big_bytes 4 magic ++ halves ++ replicate 12 0

four_magics : map first_fault ((begun 0xa1b2c3d4 (0 ∷ 2 ∷ 0 ∷ 4 ∷ []) ++ 0 ∷ 0 ∷ 0 ∷ 1 ∷ []) ∷ (begun 0xa1b23c4d (0 ∷ 2 ∷ 0 ∷ 4 ∷ []) ++ 0 ∷ 0 ∷ 0 ∷ 1 ∷ []) ∷ (begun 0xd4c3b2a1 (2 ∷ 0 ∷ 4 ∷ 0 ∷ []) ++ 1 ∷ 0 ∷ 0 ∷ 0 ∷ []) ∷ (begun 0x4d3cb2a1 (2 ∷ 0 ∷ 4 ∷ 0 ∷ []) ++ 1 ∷ 0 ∷ 0 ∷ 0 ∷ []) ∷ []) ≡ None ∷ None ∷ None ∷ None ∷ []
four_magics = refl

other_order : first_fault (begun 0xa1b2c3d4 (2 ∷ 0 ∷ 4 ∷ 0 ∷ []) ++ 1 ∷ 0 ∷ 0 ∷ 0 ∷ []) ≡ Some (BadVersion 512 1024)
other_order = refl

-- A capture of the other order, with fractions of nanoseconds, a zone, and bytes that were not captured.

abbrev big_header : List ℕ
big_header = 0xa1 ∷ 0xb2 ∷ 0x3c ∷ 0x4d ∷ 0 ∷ 2 ∷ 0 ∷ 4 ∷ 255 ∷ 255 ∷ 255 ∷ 255 ∷ 0 ∷ 0 ∷ 0 ∷ 9 ∷ 0 ∷ 0 ∷ 0 ∷ 1 ∷ 0xab ∷ 0xcd ∷ 0 ∷ 1 ∷ []

abbrev big_record : List ℕ
big_record = 1 ∷ 2 ∷ 3 ∷ 4 ∷ 255 ∷ 255 ∷ 255 ∷ 255 ∷ 0 ∷ 0 ∷ 0 ∷ 2 ∷ 0 ∷ 0 ∷ 5 ∷ 220 ∷ 7 ∷ 8 ∷ []

sound_captures : map first_fault (big_header ∷ (big_header ++ big_record) ∷ (big_header ++ big_record ++ big_record) ∷ header_text ∷ []) ≡ None ∷ None ∷ None ∷ None ∷ []
sound_captures = refl

-- What is wrong, in the order of reading.

too_short : map first_fault ([] ∷ (0xa1 ∷ 0xb2 ∷ 0x3c ∷ []) ∷ (0xa1 ∷ 0xb2 ∷ 0x3c ∷ 0x4d ∷ []) ∷ (0xa1 ∷ 0xb2 ∷ 0x3c ∷ 0x4d ∷ replicate 19 9) ∷ []) ≡ Some (Truncated 0) ∷ Some (Truncated 0) ∷ Some (Truncated 0) ∷ Some (Truncated 0) ∷ []
too_short = refl

-- a magic is told as a big-endian number, also of few bytes
bad_magics : map first_fault ((1 ∷ 2 ∷ 3 ∷ 4 ∷ []) ∷ (0x4d ∷ 0x3c ∷ 0xb2 ∷ 0xa2 ∷ replicate 20 0) ∷ []) ≡ Some (BadMagic 0x01020304) ∷ Some (BadMagic 0x4d3cb2a2) ∷ []
bad_magics = refl

abbrev headed : ℕ → ℕ → ℕ → List ℕ
headed major minor link = big_bytes 4 0xa1b2c3d4 ++ big_bytes 2 major ++ big_bytes 2 minor ++ replicate 12 0 ++ big_bytes 4 link

-- the version comes before the link, of which the low half alone is judged, and the header before records
bad_headers : map first_fault (headed 2 4 1 ∷ headed 2 5 2 ∷ headed 3 4 2 ∷ headed 4 2 1 ∷ headed 2 4 0x00020001 ∷ headed 2 4 0x00010002 ∷ headed 2 4 0 ∷ (headed 2 4 113 ++ 1 ∷ []) ∷ []) ≡ None ∷ Some (BadVersion 2 5) ∷ Some (BadVersion 3 4) ∷ Some (BadVersion 4 2) ∷ None ∷ Some (BadLink 0x00010002) ∷ Some (BadLink 0) ∷ Some (BadLink 113) ∷ []
bad_headers = refl

-- a record is told by where it begins
bad_records : map first_fault ((big_header ++ 1 ∷ []) ∷ (big_header ++ big_record ++ replicate 15 0) ∷ (big_header ++ big_record ++ replicate 16 0) ∷ (big_header ++ replicate 8 0 ++ 0 ∷ 0 ∷ 0 ∷ 1 ∷ 0 ∷ 0 ∷ 0 ∷ 1 ∷ []) ∷ (big_header ++ big_record ++ replicate 8 0 ++ 0 ∷ 4 ∷ 0 ∷ 1 ∷ 0 ∷ 0 ∷ 0 ∷ 1 ∷ []) ∷ []) ≡ Some (Truncated 24) ∷ Some (Truncated 42) ∷ None ∷ Some (Truncated 24) ∷ Some (LongRecord 42 262145) ∷ []
bad_records = refl

-- a record has 262,144 captured bytes at most
record_sizes : size_of 24 262144 262160 ≡ Ok 262160
record_sizes = refl

long_record : size_of 24 262145 16 ≡ Err (LongRecord 24 262145)
long_record = refl

cut_record : size_of 24 262144 262159 ≡ Err (Truncated 24)
cut_record = refl
