-- What was passed at a gate, one entry behind another.
use Rattle.std.proofs.Common.{ℕ, ◌≡◌, Bool, false, if◌then◌else◌, List, [], ◌∷◌, ◌++◌, length, Some, None, refl, sym, ◌∙◌, ap, append_assoc, append-nil}
use Rattle.std.specs.Prelude.{flat_map}
use Rattle.std.proofs.lemmas.Grind.{flat_map-append}
use Rattle.nm_io.specs.declared.gate.Stage.{Stage}
use Rattle.nm_io.specs.declared.gate.Stage.TheVariants.{Granted, Filled, Done}
use Rattle.vale_entry.specs.declared.entry.Ask.{Ask}
use Rattle.vale_entry.specs.declared.entry.Ask.TheVariants as asks
use Rattle.vale_entry.specs.declared.entry.Entry.{Entry}
use Rattle.nm_types.specs.declared.id.LeaseId.{LeaseId}
use Rattle.vale_entry.specs.Legal.{kept_ask}
use Rattle.vale_fabric.specs.declared.kept.Fixed.{Fixed}
use Rattle.vale_fabric.specs.Fabrics.{Knowing, Makes, entry_by}
use Rattle.vale_fabric.specs.Passing.{Passed, passed_with, lease_stages, completes, stages_at, HasPassed}

passed-none : (before : Passed) → passed_with [] before ≡ before
passed-none None = refl
passed-none (Some all) = ap (λ (l : List (ℕ × Stage)). Some l) (append-nil all)

passed-more : (one two : List (ℕ × Stage)) (before : Passed) → passed_with two (passed_with one before) ≡ passed_with (one ++ two) before
passed-more one two None = refl
passed-more one two (Some all) = ap (λ (l : List (ℕ × Stage)). Some l) (append_assoc all one two)

-- no entry was made, and nothing passed
pub passed-nothing : (user : ℕ) (v : Knowing) (before : Passed) → HasPassed user v v before before
passed-nothing user v before = record { added = []; mine = sym (append-nil v.mine); passed = sym (passed-none before) }

-- what was passed of entries, and then of others
pub passed-then : {user : ℕ} {v w x : Knowing} {a b c : Passed} → HasPassed user v w a b → HasPassed user w x b c → HasPassed user v x a c
passed-then {user} {v} {w} {x} {a} {b} {c} one two =
    let first = flat_map (stages_at user) one.added in
    let second = flat_map (stages_at user) two.added in
    record {
      added = one.added ++ two.added;
      mine = two.mine ∙ (ap (λ (l : List (ℕ × Entry)). l ++ two.added) one.mine ∙ append_assoc v.mine one.added two.added);
      passed = two.passed ∙ (ap (passed_with second) one.passed ∙ (passed-more first second a
          ∙ ap (λ (l : List (ℕ × Stage)). passed_with l a) (sym (flat_map-append (stages_at user) one.added two.added))));
    }

-- an entry that completes no lease
pub passed-by : {fixed : Fixed} {v w : Knowing} {ask : Ask} (user : ℕ) (before : Passed) → Makes fixed v w ask → completes (kept_ask ask) ≡ false → HasPassed user v w before before
passed-by {fixed} {v} {w} {ask} user before m other = record {
  added = (length w.seen, entry_by m.session ask m.reply) ∷ [];
  mine = m.told.mine;
  passed = sym (ap (λ (b : Bool). passed_with ((if b then lease_stages user else []) ++ []) before) other ∙ passed-none before);
}

-- and one that does
pub passed-lease : {fixed : Fixed} {v w : Knowing} {lease : LeaseId} {a b c d : Passed} (user : ℕ) → Makes fixed v w (asks.Done lease)
    → b ≡ passed_with ((user, Granted) ∷ []) a → c ≡ passed_with ((user, Filled) ∷ []) b → d ≡ passed_with ((user, Done) ∷ []) c → HasPassed user v w a d
passed-lease {fixed} {v} {w} {lease} {a} {b} {c} {d} user m granted filled done =
    let two : c ≡ passed_with ((user, Granted) ∷ (user, Filled) ∷ []) a = filled ∙ (ap (passed_with ((user, Filled) ∷ [])) granted ∙ passed-more ((user, Granted) ∷ []) ((user, Filled) ∷ []) a) in
    let three : d ≡ passed_with (lease_stages user) a = done ∙ (ap (passed_with ((user, Done) ∷ [])) two ∙ passed-more ((user, Granted) ∷ (user, Filled) ∷ []) ((user, Done) ∷ []) a) in
    record {
      added = (length w.seen, entry_by m.session (asks.Done lease) m.reply) ∷ [];
      mine = m.told.mine;
      passed = three ∙ ap (λ (l : List (ℕ × Stage)). passed_with l a) (sym (append-nil (lease_stages user)));
    }
