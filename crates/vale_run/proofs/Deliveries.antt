-- A legal history with no session left delivers.
use Rattle.std.proofs.Common.{ℕ, zero, suc, ◌+◌, ◌≡◌, ◌++◌, List, [], ◌∷◌, take, drop, slice_get, Some, sym, ◌∙◌, ap}
use Rattle.vale_entry.specs.declared.entry.Entry.{Entry}
use Rattle.vale_entry.specs.Legal.{IsLegal, fresh_standing, world_of}
use Rattle.vale_entry.specs.Delivered.{put_by}
use Rattle.vale_entry.specs.Fate.{puts_at}
use Rattle.vale_entry.proofs.Worlds.{legal-take, follows-at, length-front}
use Rattle.vale_entry.proofs.ReadInOrder.{read-prefix}
use Rattle.vale_entry.proofs.GivenOnly.{given-only}
use Rattle.vale_entry.proofs.Puts.{puts-once}
use Rattle.vale_entry.proofs.Fates.{dropped-counted, none-pending}
use Rattle.vale_entry.proofs.SharedOnce.{wanted-shared}
use Rattle.vale_entry.proofs.Causes.{dropped-cause}
use Rattle.vale_entry.proofs.Counts.{replies-count}
use Rattle.vale_entry.proofs.SenderOrder.{sender-order}
use Rattle.vale_entry.proofs.Lone.{sends-tell}
use Rattle.vale_entry.proofs.Wanting.{replies-name}
use Rattle.vale_entry.proofs.PutsOfReply.{puts-of_reply}
use Rattle.vale_entry.proofs.LeasesEnded.{leases-done_once}
use Rattle.vale_entry.proofs.OutCounted.{out-counted}
use Rattle.vale_entry.proofs.CountersSummed.{counters-sums}
use Rattle.vale_entry.proofs.HistoryLaws.{buffers-parted, holdings-agree}
use Rattle.vale_run.specs.Delivery.{HaveOneOwner, Delivers}

front-of : (pool : ℕ) (history : List Entry) (count : ℕ) → IsLegal pool history → IsLegal pool (take count history)
front-of pool history count legal = legal-take (fresh_standing pool) history count legal

-- an entry with those before it and those behind it
cut-at : (history : List Entry) (n : ℕ) (entry : Entry) → slice_get history n ≡ Some entry → history ≡ take n history ++ entry ∷ drop (suc n) history
cut-at [] n entry there = absurd cc
cut-at (e ∷ history) zero entry there = let same : e ≡ entry = cc in ap (λ (x : Entry). x ∷ history) same
cut-at (e ∷ history) (suc n) entry there = ap (λ (es : List Entry). e ∷ es) (cut-at history n entry there)

put-as-told : (pool : ℕ) (history : List Entry) (count : ℕ) (entry : Entry) → slice_get history count ≡ Some entry → (to : ℕ)
    → puts_at pool history (count + 1) to ≡ put_by to (world_of pool (take count history)) entry.ask entry.reply
put-as-told pool history count entry there to =
    let rest = drop (suc count) history in
    ap (λ (h : List Entry). puts_at pool h (count + 1) to) (cut-at history count entry there)
    ∙ (ap (λ (n : ℕ). puts_at pool (take count history ++ entry ∷ rest) (n + 1) to) (sym (length-front history count entry there))
    ∙ puts-of_reply pool (take count history) entry rest to)

one-owner : (pool : ℕ) (history : List Entry) (count : ℕ) → IsLegal pool history
    → HaveOneOwner pool (take count history)
one-owner pool history count legal =
    let front = front-of pool history count legal in
    record {
      parted = buffers-parted pool (take count history) front;
      agrees = holdings-agree pool
          (take count history) front;
    }

pub delivers : (pool : ℕ) (history : List Entry) → IsLegal pool history
    → (world_of pool history).sessions ≡ [] → Delivers pool history
delivers pool history legal left = record {
  read_in_order = read-prefix pool history legal;
  given_where_wanted = given-only pool history legal;
  put_once = puts-once pool history legal;
  shared_once = wanted-shared pool history legal;
  dropped_counted = dropped-counted pool history legal;
  dropped_for_cause = λ count entry there. dropped-cause pool (take count history) entry
      (front-of pool history count legal)
      (follows-at (fresh_standing pool) history count entry legal there);
  replies_count = replies-count pool history legal;
  in_sender_order = sender-order pool history legal;
  none_pending = none-pending pool history legal left;
  named_wanting = replies-name pool history legal;
  short_and_lone = sends-tell pool history legal;
  put_as_told = put-as-told pool history;
  leases_done_once = λ count. leases-done_once pool (take count history) (front-of pool history count legal);
  out_counted = λ count. out-counted pool (take count history) (front-of pool history count legal);
  counters_are_sums = λ count. counters-sums pool (take count history) (front-of pool history count legal);
  one_owner = λ count. one-owner pool history count legal;
}
