use Rattle.std.proofs.Common.{◌≡◌, ℕ, zero, suc, ◌+◌, ◌<◌, ◌≤◌, false, List, [], ◌∷◌, ◌++◌, length, take, drop, nat_lt, Option, None, Some, Result, Ok, Err, refl, sym, ap, ap₂, ◌∙◌, subst, arith, append_assoc, length-drop, length-take-le, le-ltb}
use Rattle.std.proofs.lemmas.List.{take_rest}
use Rattle.std.proofs.lemmas.Bool.Decides.{nat_tests}
use Rattle.pcap_io.specs.declared.record.Record.{Record}
use Rattle.pcap_io.specs.declared.fault.PcapFault.{PcapFault}
use Rattle.pcap_io.specs.Capture.{Reader, BeginsWith, AreRecords}
use Rattle.pcap_io.specs.Faults.{record_size, goes_on, fault_among, fault_from}

-- a whole record, by its numbers
record IsWhole (number : Reader) (text : List ℕ) (size : ℕ) : Type 0 where
  head : 16 ≤ length text
  counted : size ≡ 16 + number 4 (drop 8 text)
  there : size ≤ length text
  limit : number 4 (drop 8 text) ≤ 262144

-- where the size is told, the record is whole
whole_of : (number : Reader) (at size : ℕ) (text : List ℕ) → record_size number at text ≡ Ok size → IsWhole number text size
whole_of number at size text told = record {
  head = grind (arith, nat_tests);
  counted = grind (arith, nat_tests);
  there = grind (arith, nat_tests);
  limit = grind (arith, nat_tests);
}

-- a record's size is told where the bytes begin with it
size_of_first : (number : Reader) (at : ℕ) (text : List ℕ) (r : Record) → BeginsWith number text r → record_size number at text ≡ Ok (16 + length r.bytes)
size_of_first number at text r first =
    let head : nat_lt (length text) 16 ≡ false = le-ltb (length text) 16 (omega (arith, first.there)) in
    let limit : nat_lt 262144 (number 4 (drop 8 text)) ≡ false = le-ltb 262144 (number 4 (drop 8 text)) (omega (arith, first.limit, first.captured)) in
    let there : nat_lt (length text) (16 + number 4 (drop 8 text)) ≡ false = le-ltb (length text) (16 + number 4 (drop 8 text)) (omega (arith, first.there, first.captured)) in
    rw (head, limit, there) (ap (λ n. Ok (16 + n)) (sym first.captured))

-- both ways of going on are the same at the size that is told
goes_on_same : (r : Result ℕ PcapFault) (f g : ℕ → Option PcapFault) → ((size : ℕ) → r ≡ Ok size → f size ≡ g size) → goes_on r f ≡ goes_on r g
goes_on_same (Err fault) f g same = refl
goes_on_same (Ok size) f g same = same size refl

-- any bound on the number of records that is at least the length gives the same fault
fault_among-bound : (number : Reader) (most other at : ℕ) (text : List ℕ) → length text ≤ most → length text ≤ other → fault_among number most at text ≡ fault_among number other at text
fault_among-bound number zero zero at text enough also = refl
fault_among-bound number zero (suc other) at [] enough also = refl
fault_among-bound number zero (suc other) at (b ∷ text) enough also = absurd (omega arith)
fault_among-bound number (suc most) zero at [] enough also = refl
fault_among-bound number (suc most) zero at (b ∷ text) enough also = absurd (omega arith)
fault_among-bound number (suc most) (suc other) at [] enough also = refl
fault_among-bound number (suc most) (suc other) at (b ∷ text) enough also =
    goes_on_same (record_size number at (b ∷ text)) (λ size. fault_among number most (at + size) (drop size (b ∷ text))) (λ size. fault_among number other (at + size) (drop size (b ∷ text)))
    (λ size told. let whole : IsWhole number (b ∷ text) size = whole_of number at size (b ∷ text) told in
    fault_among-bound number most other (at + size) (drop size (b ∷ text))
    (omega (arith, whole.counted, length-drop size (b ∷ text)))
    (omega (arith, whole.counted, length-drop size (b ∷ text))))

-- the faults behind a whole record are those of all
pub fault_behind : (number : Reader) (at size : ℕ) (text : List ℕ) → record_size number at text ≡ Ok size → fault_from number at text ≡ fault_from number (at + size) (drop size text)
fault_behind number at size [] told = cc
fault_behind number at size (b ∷ text) told =
    let whole : IsWhole number (b ∷ text) size = whole_of number at size (b ∷ text) told in
    rw told (fault_among-bound number (length text) (length (drop size (b ∷ text))) (at + size) (drop size (b ∷ text))
    (omega (arith, whole.counted, length-drop size (b ∷ text))) (omega arith))

-- the fault of the first record is the first
pub fault_here : (number : Reader) (at : ℕ) (text : List ℕ) (fault : PcapFault) → record_size number at text ≡ Err fault → 0 < length text → fault_from number at text ≡ Some fault
fault_here number at [] fault wrong some = absurd (omega arith)
fault_here number at (b ∷ text) fault wrong some = rw wrong refl

-- one more record
pub records_more : (number : Reader) (all rest : List ℕ) (size : ℕ) (done : List Record) (r : Record) → BeginsWith number rest r → size ≡ 16 + length r.bytes →
    ((rs : List Record) → AreRecords number rest rs → AreRecords number all (done ++ rs)) →
    (rs : List Record) → AreRecords number (drop size rest) rs → AreRecords number all ((done ++ r ∷ []) ++ rs)
records_more number all rest size done r first fits more rs others =
    rw append_assoc (more (r ∷ rs) (first, rw fits at others))

-- the record with which bytes begin, by its numbers
first_record : Reader → List ℕ → Record
first_record number text = record {
  seconds = number 4 text;
  fraction = number 4 (drop 4 text);
  original = number 4 (drop 12 text);
  bytes = take (number 4 (drop 8 text)) (drop 16 text);
}

-- a whole record is the first, before those behind it
first_of_whole : (number : Reader) (text : List ℕ) (size : ℕ) (rs : List Record) → IsWhole number text size → AreRecords number (drop size text) rs → AreRecords number text (first_record number text ∷ rs)
unfolding first_record
first_of_whole number text size rs whole behind =
    let counted : length (take (number 4 (drop 8 text)) (drop 16 text)) ≡ number 4 (drop 8 text) =
    length-take-le (number 4 (drop 8 text)) (drop 16 text) (omega (arith, whole.counted, whole.there, length-drop 16 text)) in (
      record {
        there = omega (arith, counted, whole.counted, whole.there);
        seconds = refl;
        fraction = refl;
        captured = counted;
        original = refl;
        bytes = ap (λ n. take n (drop 16 text)) (sym counted);
        limit = omega (arith, counted, whole.limit);
      },
      subst (λ n. AreRecords number (drop n text) rs) (whole.counted ∙ ap (λ n. 16 + n) (sym counted)) behind,
    )

-- where going on finds no fault, there is a size, and no fault behind it
size_where_no_fault : (r : Result ℕ PcapFault) (behind : ℕ → Option PcapFault) → goes_on r behind ≡ None → (size : ℕ) × (r ≡ Ok size) × (behind size ≡ None)
size_where_no_fault (Err fault) behind none = cc
size_where_no_fault (Ok size) behind none = (size, refl, none)

-- bytes with no fault are records
pub records_where_no_fault : (number : Reader) (most at : ℕ) (text : List ℕ) → length text ≤ most → fault_among number most at text ≡ None → (rs : List Record) × AreRecords number text rs
records_where_no_fault number most at [] enough none = ([], refl)
records_where_no_fault number zero at (b ∷ text) enough none = absurd (omega arith)
records_where_no_fault number (suc most) at (b ∷ text) enough none =
    let (size, told, behind) = size_where_no_fault (record_size number at (b ∷ text)) (λ size. fault_among number most (at + size) (drop size (b ∷ text))) none in
    let whole : IsWhole number (b ∷ text) size = whole_of number at size (b ∷ text) told in
    let (rs, are) = records_where_no_fault number most (at + size) (drop size (b ∷ text)) (omega (arith, whole.counted, length-drop size (b ∷ text))) behind in
    (first_record number (b ∷ text) ∷ rs, first_of_whole number (b ∷ text) size rs whole are)

-- records have no fault
pub no_fault_of_records : (number : Reader) (most at : ℕ) (text : List ℕ) (rs : List Record) → AreRecords number text rs → fault_among number most at text ≡ None
no_fault_of_records number zero at text rs are = refl
no_fault_of_records number (suc most) at [] rs are = refl
no_fault_of_records number (suc most) at (b ∷ text) [] are = cc
no_fault_of_records number (suc most) at (b ∷ text) (r ∷ rs) are =
    rw (size_of_first number at (b ∷ text) r are.0) (no_fault_of_records number most (at + (16 + length r.bytes)) (drop (16 + length r.bytes) (b ∷ text)) rs are.1)

-- two records with which the same bytes begin
same_first : (number : Reader) (text : List ℕ) (r s : Record) → BeginsWith number text r → BeginsWith number text s → r ≡ s
same_first number text r s first second =
    let seconds : r.seconds ≡ s.seconds = first.seconds ∙ sym second.seconds in
    let fraction : r.fraction ≡ s.fraction = first.fraction ∙ sym second.fraction in
    let original : r.original ≡ s.original = first.original ∙ sym second.original in
    let counted : length r.bytes ≡ length s.bytes = first.captured ∙ sym second.captured in
    let bytes : r.bytes ≡ s.bytes = first.bytes ∙ ap (λ n. take n (drop 16 text)) counted ∙ sym second.bytes in
    λ i. record { seconds = seconds i; fraction = fraction i; original = original i; bytes = bytes i }

-- the bytes determine their records
pub same_records : (number : Reader) (text : List ℕ) (rs ss : List Record) → AreRecords number text rs → AreRecords number text ss → rs ≡ ss
same_records number text [] [] are also = refl
same_records number text [] (s ∷ ss) are also = absurd (omega (arith, ap length are, also.0.there))
same_records number text (r ∷ rs) [] are also = absurd (omega (arith, ap length also, are.0.there))
same_records number text (r ∷ rs) (s ∷ ss) are also =
    let same : r ≡ s = same_first number text r s are.0 also.0 in
    ap₂ (λ x xs. x ∷ xs) same (same_records number (drop (16 + length r.bytes) text) rs ss are.1
    (subst (λ (x : Record). AreRecords number (drop (16 + length x.bytes) text) ss) (sym same) also.1))

pub ruleset records = (fault_behind, fault_here, records_more, take_rest)
