use Rattle.std.proofs.Common.{◌≡◌, ℕ, ◌≤◌, false, List, length, drop, nat_lt, Option, None, Some, MatchOption, refl, sym, ◌∙◌, subst, arith, le-ltb, inl, inr}
use Rattle.std.proofs.lemmas.Bool.{cases_Bool, ltb-false}
use Rattle.byteorder.specs.Endian.{big_number}
use Rattle.pcap_io.specs.declared.order.Order.{Order}
use Rattle.pcap_io.specs.declared.record.Record.{Record}
use Rattle.pcap_io.specs.declared.fault.PcapFault.{PcapFault}
use Rattle.pcap_io.specs.declared.fault.PcapFault.TheVariants.{Truncated}
use Rattle.pcap_io.specs.Capture.{Reader, number_in, order_of, BeginsWithHeader, AreRecords, IsCapture}
use Rattle.pcap_io.specs.Faults.{first_of_both, header_fault, fault_from, fault_past_magic, fault_in_order, first_fault, IsCaptureOrFaulty}
use Rattle.pcap_io.proofs.Headers.{good_header, no_header_fault}
use Rattle.pcap_io.proofs.Records.{records_where_no_fault, no_fault_of_records, same_records}

-- where the magic chose an order, the first fault is past it
pub fault_where_ordered : (bytes : List ℕ) (order : Order) → 4 ≤ length bytes → order_of (big_number 4 bytes) ≡ Some order → first_fault bytes ≡ fault_past_magic (number_in order) bytes
fault_where_ordered bytes order there chosen =
    let long : nat_lt (length bytes) 4 ≡ false = le-ltb (length bytes) 4 there in
    rw (long, chosen) refl

-- a capture has no fault
pub no_fault_of_capture : (bytes : List ℕ) (records : List Record) → IsCapture bytes records → first_fault bytes ≡ None
no_fault_of_capture bytes records capture =
    let header : BeginsWithHeader (number_in capture.order) bytes = capture.header in
    let long : nat_lt (length bytes) 24 ≡ false = le-ltb (length bytes) 24 header.there in
    fault_where_ordered bytes capture.order (omega (arith, header.there)) capture.magic
    ∙ rw (long, no_header_fault (number_in capture.order) bytes header) (no_fault_of_records (number_in capture.order) (length (drop 24 bytes)) 24 (drop 24 bytes) records capture.body)

-- neither of two where there is no first
none_of_both : (a b : Option PcapFault) → first_of_both a b ≡ None → (a ≡ None) × (b ≡ None)
none_of_both None b none = (refl, none)
none_of_both (Some fault) b none = cc

-- bytes with no fault past the magic are a header and records
parts_where_no_fault : (number : Reader) (bytes : List ℕ) → fault_past_magic number bytes ≡ None → BeginsWithHeader number bytes × ((records : List Record) × AreRecords number (drop 24 bytes) records)
parts_where_no_fault number bytes none = elim (cases_Bool (nat_lt (length bytes) 24)) [
  | inl short ↦ let no : Some (Truncated 0) ≡ None = rw short at none in cc
  | inr long ↦ let both : first_of_both (header_fault number bytes) (fault_from number 24 (drop 24 bytes)) ≡ None = rw long at none in
      let each : (header_fault number bytes ≡ None) × (fault_from number 24 (drop 24 bytes) ≡ None) = none_of_both (header_fault number bytes) (fault_from number 24 (drop 24 bytes)) both in
      (good_header number bytes (ltb-false (length bytes) 24 long) each.0, records_where_no_fault number (length (drop 24 bytes)) 24 (drop 24 bytes) (omega arith) each.1)
]

-- the same where the magic chose an order, or none
capture_where_ordered : (bytes : List ℕ) (chosen : Option Order) → order_of (big_number 4 bytes) ≡ chosen → fault_in_order bytes chosen ≡ None → (records : List Record) × IsCapture bytes records
capture_where_ordered bytes None magic none = cc
capture_where_ordered bytes (Some order) magic none =
    let parts : BeginsWithHeader (number_in order) bytes × ((records : List Record) × AreRecords (number_in order) (drop 24 bytes) records) = parts_where_no_fault (number_in order) bytes none in
    (parts.1.0, record { order = order; magic = magic; header = parts.0; body = parts.1.1 })

-- bytes with no fault are a capture
pub capture_where_no_fault : (bytes : List ℕ) → first_fault bytes ≡ None → (records : List Record) × IsCapture bytes records
capture_where_no_fault bytes none = elim (cases_Bool (nat_lt (length bytes) 4)) [
  | inl short ↦ let no : Some (Truncated 0) ≡ None = rw short at none in cc
  | inr long ↦ capture_where_ordered bytes (order_of (big_number 4 bytes)) refl (rw long at none)
]

-- bytes are a capture of one list of records at most
pub same_capture : (bytes : List ℕ) (rs ss : List Record) → IsCapture bytes rs → IsCapture bytes ss → rs ≡ ss
same_capture bytes rs ss first second =
    let same : first.order ≡ second.order = cc in
    same_records (number_in first.order) (drop 24 bytes) rs ss first.body (subst (λ (o : Order). AreRecords (number_in o) (drop 24 bytes) ss) (sym same) second.body)

-- no capture has a fault
not_both : (bytes : List ℕ) (records : List Record) (fault : PcapFault) → IsCapture bytes records → first_fault bytes ≡ Some fault → ⊥
not_both bytes records fault capture some = let no : Some fault ≡ None = sym some ∙ no_fault_of_capture bytes records capture in cc

-- the same by what was found
capture_or_found : (bytes : List ℕ) (found : Option PcapFault) → first_fault bytes ≡ found → MatchOption found ((records : List Record) × IsCapture bytes records) (λ _. (records : List Record) → ¬ IsCapture bytes records)
capture_or_found bytes None none = capture_where_no_fault bytes none
capture_or_found bytes (Some fault) some = λ records capture. not_both bytes records fault capture some

-- exactly one of the two
pub capture_or_faulty : (bytes : List ℕ) → IsCaptureOrFaulty bytes
capture_or_faulty bytes = capture_or_found bytes (first_fault bytes) refl

pub ruleset captures = (fault_where_ordered)
