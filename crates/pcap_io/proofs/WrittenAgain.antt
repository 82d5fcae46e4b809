use Rattle.std.proofs.Common.{◌≡◌, ℕ, suc, ◌+◌, ◌^◌, ◌<◌, List, [], ◌∷◌, ◌++◌, All, length, drop, flat_map, refl, sym, ◌∙◌, subst, arith, length-append}
use Rattle.std.proofs.Math.Seq.{take-append_seam, drop-append_seam, drop-append-add}
use Rattle.byteorder.specs.Endian.{little_number}
use Rattle.byteorder.specs.Numbers.{little_number-reads_back}
use Rattle.pcap_io.specs.declared.order.Order.TheVariants.{Little}
use Rattle.pcap_io.specs.declared.record.Record.{Record}
use Rattle.pcap_io.specs.Capture.{BeginsWith, AreRecords, IsCapture}
use Rattle.pcap_io.specs.Written.{head_text, record_text, capture_text, IsWritable}

-- a written record is read again
record_again : (r : Record) (rest : List ℕ) → IsWritable r → BeginsWith little_number (record_text r.seconds r.fraction r.bytes ++ rest) r
unfolding head_text
record_again r rest fits =
    let text : List ℕ = record_text r.seconds r.fraction r.bytes ++ rest in
    let count : length r.bytes < 2 ^ 32 = omega (arith, fits.limit) in
    record {
      there = omega (arith, length-append r.bytes rest);
      seconds = sym (little_number-reads_back 4 r.seconds (drop 4 text) fits.seconds);
      fraction = sym (little_number-reads_back 4 r.fraction (drop 8 text) fits.fraction);
      captured = sym (little_number-reads_back 4 (length r.bytes) (drop 12 text) count);
      original = fits.original ∙ sym (little_number-reads_back 4 (length r.bytes) (drop 16 text) count);
      bytes = sym (take-append_seam r.bytes rest);
      limit = fits.limit;
    }

-- what is behind a written record
behind_record : (r : Record) (rest : List ℕ) → drop (16 + length r.bytes) (record_text r.seconds r.fraction r.bytes ++ rest) ≡ rest
unfolding head_text
behind_record r rest =
    drop-append-add (head_text r.seconds r.fraction (length r.bytes)) (r.bytes ++ rest) (length r.bytes) ∙ drop-append_seam r.bytes rest

-- written records are read again
records_again : (records : List Record) → All IsWritable records → AreRecords little_number (flat_map (λ r. record_text r.seconds r.fraction r.bytes) records) records
records_again [] fits = refl
records_again (r ∷ rs) fits =
    let behind : List ℕ = flat_map (λ (x : Record). record_text x.seconds x.fraction x.bytes) rs in (
      record_again r behind (fits 0 r (omega arith)),
      subst (λ text. AreRecords little_number text rs) (sym (behind_record r behind)) (records_again rs (λ k d below. fits (suc k) d (omega arith))),
    )

-- a written capture is read again
pub capture_again : (records : List Record) → All IsWritable records → IsCapture (capture_text records) records
capture_again records fits = record {
  order = Little;
  magic = refl;
  header = record { there = omega arith; major = refl; minor = refl; link = refl };
  body = records_again records fits;
}
