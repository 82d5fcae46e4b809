-- Grants and the Dones of their leases settle a session.
use Rattle.std.proofs.Common.{ℕ, suc, ◌+◌, ◌-◌, ◌<◌, ◌≤◌, ◌≡◌, List, [], ◌∷◌, ◌++◌, length, take, Some, refl, sym, ◌∙◌, ap, subst, arith, slice_get, append-nil, length-append, inl, inr}
use Rattle.std.specs.List.{AllByRecursion as Each}
use Rattle.std.proofs.lemmas.List.{take-append-le}
use Rattle.std.proofs.lemmas.List.Sums.{sum_by-append, sum_by-cons}
use Rattle.std.proofs.lemmas.Option.{slice_get_within}
use mathlib.Core.List.{IsPrefix}
use Rattle.nm_types.proofs.Lists.{each-joined}
use Rattle.nm_turn.specs.Numbered.{Stands, IsPicked, numbered}
use Rattle.nm_turn.specs.Passes.{NoRootPast}
use Rattle.nm_turn.specs.Shares.{IsWhole}
use Rattle.nm_turn.proofs.Prefixes.{prefix_self, prefix_shorter, prefix_get}
use Rattle.nm_turn.proofs.Telling.{told_then}
use Rattle.vale_entry.specs.declared.entry.Ask.{Ask}
use Rattle.vale_entry.specs.declared.entry.Entry.{Entry}
use Rattle.vale_entry.specs.declared.entry.Reply.{Reply}
use Rattle.vale_entry.specs.Legal.{standing_of, kept_ask, IsLegal, Follows}
use Rattle.vale_own.specs.Own.{own_of}
use Rattle.vale_own.specs.OwnEntries.{own_after_entry}
use Rattle.vale_own.proofs.OwnKept.{own-kept, legal-split}
use Rattle.vale_own.proofs.OwnEntry.{own-entries}
use Rattle.vale_book.specs.Recorded.{standing}
use Rattle.vale_fabric.specs.declared.kept.Fixed.{Fixed}
use Rattle.vale_fabric.specs.declared.settling.Shares.{Shares}
use Rattle.vale_fabric.specs.Roots.{root_of}
use Rattle.vale_fabric.specs.Fabrics.{Knowing, seen_in, before_in, earlier, entry_by, Makes}
use Rattle.vale_fabric.specs.Settling.{settling_ask, IsSettling, IsSettlingIn, given_in, full_in, gone_in, both, Settling}
use Rattle.vale_fabric.proofs.Others.{others-beyond}

-- ---- one entry of a session for which the pass speaks

-- the history before it is legal and begins with what was seen, and what is the session's own is the same
pub record Before (fixed : Fixed) (v w : Knowing) (session : ℕ) : Type 0 where
  pub legal : IsLegal fixed.pool (earlier w.seen)
  pub same : own_of session (standing (before_in fixed w)) ≡ own_of session (standing (seen_in fixed v))

pub before-is : {fixed : Fixed} {v w : Knowing} {ask : Ask} (session : ℕ) → Makes fixed v w ask → IsPicked v.mine (numbered 1 v.seen) → Stands session v.mine → Before fixed v w session
before-is {fixed} {v} {w} {ask} session m picked speaks =
    let h = earlier w.seen in
    let e = entry_by m.session ask m.reply in
    let count : length w.seen ≡ length h + 1 = ap length m.seen ∙ length-append h (e ∷ []) in
    let past = (m.told.stand 0 (length w.seen) e refl).0 in
    let ends : IsPrefix h w.seen = (e ∷ [], sym m.seen) in
    let begins = prefix_shorter v.seen h w.seen m.told.begins ends (omega (arith, count, past)) in
    let legal : IsLegal fixed.pool h = (legal-split fixed.pool h (e ∷ []) (subst (IsLegal fixed.pool) m.seen m.legal)).0 in
    let no_root : NoRootPast root_of v.seen v.mine h = λ at x later here.
    let within = slice_get_within h at x here in
    m.told.others at x later (prefix_get h w.seen at x ends here) (λ st. other e (length w.seen) (length h) at within count st) in
    let o = others-beyond h v.seen v.mine session begins no_root picked speaks in
    record {
      legal = legal;
      same = ap (λ (l : List Entry). own_of session (standing_of fixed.pool l)) o.1
          ∙ own-kept fixed.pool v.seen o.0 session (subst (IsLegal fixed.pool) o.1 legal) o.2;
    }
  where
    other : (x : Entry) (n k at : ℕ) → at < k → n ≡ k + 1 → Stands (at + 1) ((n, x) ∷ []) → ⊥
    other x n k at within count (inl e) = omega (arith, within, count, e)
    other x n k at within count (inr e) = e

-- what it makes of the session's own
pub own-made : {fixed : Fixed} {v w : Knowing} {ask : Ask} (m : Makes fixed v w ask) → IsLegal fixed.pool (earlier w.seen)
    → own_of m.session (standing (seen_in fixed w)) ≡ own_after_entry (standing (before_in fixed w)) (kept_ask ask) m.reply (own_of m.session (standing (before_in fixed w)))
own-made {fixed} {v} {w} {ask} m legal =
    let h = earlier w.seen in
    let e = entry_by m.session ask m.reply in
    let follows : Follows (standing_of fixed.pool h) e = (legal-split fixed.pool h (e ∷ []) (subst (IsLegal fixed.pool) m.seen m.legal)).1.0 in
    ap (λ (l : List Entry). own_of m.session (standing_of fixed.pool l)) m.seen ∙ own-entries fixed.pool h e legal follows

settles-one : {fixed : Fixed} {v w : Knowing} {ask : Ask} (m : Makes fixed v w ask) → settling_ask (own_of m.session (standing (before_in fixed w))) ≡ Some ask
    → IsSettling fixed m.session (earlier w.seen) (entry_by m.session ask m.reply)
settles-one {fixed} {v} {w} {ask} m next = record { ask = ask; reply = m.reply; next = next; entry_is = refl; steps = m.steps; room = m.room }

abbrev shares_of : Reply → Shares
shares_of reply = record { given = given_in reply; full = full_in reply; gone = gone_in reply }

pub settling-one : {fixed : Fixed} {v w : Knowing} {ask : Ask} (session : ℕ) (reply : Reply) (m : Makes fixed v w ask) → m.session ≡ session → m.reply ≡ reply
    → settling_ask (own_of session (standing (before_in fixed w))) ≡ Some ask → Settling fixed v w session (shares_of reply)
settling-one {fixed} {v} {w} {ask} session reply m whose said next =
    let e = entry_by m.session ask m.reply in
    let one = λ (f : Reply → ℕ). sym (sum_by-cons (λ (made : ℕ × Entry). f made.1.reply) (length w.seen, e) []) in
    record {
      added = (length w.seen, e) ∷ [];
      told = m.told;
      each = (subst (λ (n : ℕ). IsSettling fixed n (earlier w.seen) e) whose (settles-one m (subst (λ (n : ℕ). settling_ask (own_of n (standing (before_in fixed w))) ≡ Some ask) (sym whose) next)), tt);
      shares_are = record {
        given = ap given_in (sym said) ∙ (sum-one (given_in e.reply) ∙ one given_in);
        full = ap full_in (sym said) ∙ (sum-one (full_in e.reply) ∙ one full_in);
        gone = ap gone_in (sym said) ∙ (sum-one (gone_in e.reply) ∙ one gone_in);
      };
      legal = m.legal;
      whole = m.whole;
    }
  where
    sum-one : (n : ℕ) → n ≡ n + 0
    sum-one n = omega arith

-- ---- one after another

each-on : {X : Type 0} (P Q : X → Type 0) (xs : List X) → ((k : ℕ) (x : X) → slice_get xs k ≡ Some x → P x → Q x) → Each P xs → Each Q xs
each-on P Q [] on all = tt
each-on P Q (x ∷ xs) on all = (on 0 x refl all.0, each-on P Q xs (λ k y e. on (suc k) y e) all.1)

pub settling-then : {fixed : Fixed} {v w x : Knowing} {session : ℕ} {a b : Shares} → Settling fixed v w session a → Settling fixed w x session b → Settling fixed v x session (both a b)
settling-then {fixed} {v} {w} {x} {session} {a} {b} s t =
    let goes_on : IsPrefix w.seen x.seen = t.told.begins in
    let same = λ (n : ℕ) (few : n ≤ length w.seen). take-append-le n w.seen goes_on.0 few in
    let lifted = each-on (IsSettlingIn fixed session w.seen) (IsSettlingIn fixed session x.seen) s.added (λ k made here is.
    let at = (s.told.stand k made.0 made.1 here).1 in
    let within = slice_get_within w.seen (made.0 - 1) made.1 at in
    let fits : made.0 - 1 ≤ length w.seen = omega (arith, within) in
    subst (λ (l : List Entry). IsSettling fixed session l made.1) (sym (same (made.0 - 1) fits) ∙ ap (take (made.0 - 1)) goes_on.1) is) s.each in
    record {
      added = s.added ++ t.added;
      told = told_then root_of v w x w.seen x.seen s.added t.added s.told t.told;
      each = each-joined (IsSettlingIn fixed session x.seen) s.added t.added lifted t.each;
      shares_are = record {
        given = plus a.given b.given _ _ s.shares_are.given t.shares_are.given ∙ sym (sum_by-append (λ (made : ℕ × Entry). given_in made.1.reply) s.added t.added);
        full = plus a.full b.full _ _ s.shares_are.full t.shares_are.full ∙ sym (sum_by-append (λ (made : ℕ × Entry). full_in made.1.reply) s.added t.added);
        gone = plus a.gone b.gone _ _ s.shares_are.gone t.shares_are.gone ∙ sym (sum_by-append (λ (made : ℕ × Entry). gone_in made.1.reply) s.added t.added);
      };
      legal = t.legal;
      whole = λ is. t.whole (subst IsWhole (sym s.told.part) is);
    }
  where
    plus : (i j k l : ℕ) → i ≡ k → j ≡ l → i + j ≡ k + l
    plus i j k l e f = omega (arith, e, f)

-- nothing was made yet
pub settling-none : {fixed : Fixed} {v : Knowing} {session : ℕ} → IsPicked v.mine (numbered 1 v.seen) → IsLegal fixed.pool v.seen → (IsWhole v.part → v.mine ≡ numbered 1 v.seen)
    → Settling fixed v v session (record { given = 0; full = 0; gone = 0 })
settling-none {fixed} {v} {session} picked legal whole = record {
  added = [];
  told = record {
    begins = prefix_self v.seen;
    seen = refl;
    part = refl;
    mine = sym (append-nil v.mine);
    picked = picked;
    stand = λ k number e here. absurd cc;
    others = λ at e later here not_added.
        let within = slice_get_within v.seen at e here in
        absurd (omega (arith, within, later));
  };
  each = tt;
  shares_are = record { given = refl; full = refl; gone = refl };
  legal = legal;
  whole = whole;
}
