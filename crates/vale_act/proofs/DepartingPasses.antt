-- What passes keep of the sessions that came by them.
use Rattle.std.proofs.Common.{ℕ, ◌-◌, ◌≡◌, ◌⊎◌, inl, inr, List, [], sym, ◌∙◌, ap, subst, append-nil}
use mathlib.Core.List.{IsPrefix}
use Rattle.nm_turn.specs.Numbered.{Stands, merged}
use Rattle.nm_turn.proofs.Numbered.{Stands-merged, merged-Stands_left, merged-Stands_right}
use Rattle.nm_turn.proofs.Prefixes.{prefix_get, prefix_self}
use Rattle.vale_entry.specs.declared.entry.Entry.{Entry}
use Rattle.vale_fabric.specs.Fabrics.{Knowing}
use Rattle.vale_act.specs.Leaving.{HasMadeLeave, EntersOnlyAt, OnlyComes, EachLeaves, RefusedMakesNothing, NobodyHasCome, ForkedEachLeaves, LearnedEachLeaves, MetEachLeaves}

-- what stands in a pass that has seen more
pub enters-later : {At Then : ℕ → Type 0} {v w : Knowing} {number : ℕ} → IsPrefix v.seen w.seen → (At number → Then number) → EntersOnlyAt At v number → EntersOnlyAt Then w number
enters-later {At} {Then} {v} {w} {number} begins then e = record {
  entry = e.entry;
  there = prefix_get v.seen w.seen (number - 1) e.entry begins e.there;
  enters = λ comes. then (e.enters comes);
}

pub leave-later : {v w : Knowing} {session : ℕ} → IsPrefix v.seen w.seen → ((number : ℕ) → Stands number v.mine → Stands number w.mine) → HasMadeLeave v session → HasMadeLeave w session
leave-later {v} {w} {session} begins more l = record {
  number = l.number;
  own = more l.number l.own;
  entry = l.entry;
  there = prefix_get v.seen w.seen (l.number - 1) l.entry begins l.there;
  leaves = l.leaves;
}

stands-in : (number : ℕ) (xs ys : List (ℕ × Entry)) → xs ≡ ys → Stands number xs → Stands number ys
stands-in number xs ys same st = subst (λ (l : List (ℕ × Entry)). Stands number l) same st

-- one that met a pass with no entry has its own alone
met-own : (number : ℕ) (mine other joined : List (ℕ × Entry)) → other ≡ [] → joined ≡ merged mine other → Stands number joined → Stands number mine
met-own number mine other joined none both st = by (Stands-merged number mine [] (stands-in number joined (merged mine []) (both ∙ ap (merged mine) none) st))
  where
    by : Stands number mine ⊎ Stands {E = Entry} number [] → Stands number mine
    by (inl own) = own
    by (inr out) = absurd out

-- one that has seen more, and made nothing
pub learner-once : (session : ℕ) (v w : Knowing) → w.mine ≡ v.mine → IsPrefix v.seen w.seen → OnlyComes session v → OnlyComes session w
learner-once session v w mine begins only number st = enters-later begins (λ is. is) (only number (stands-in number w.mine v.mine mine st))

pub meeting-once : (session : ℕ) (v other joined : Knowing) → other.mine ≡ [] → joined.mine ≡ merged v.mine other.mine → IsPrefix v.seen joined.seen
    → OnlyComes session v → OnlyComes session joined
meeting-once session v other joined none mine begins only number st =
    enters-later begins (λ is. is) (only number (met-own number v.mine other.mine joined.mine none mine st))

pub refused-nothing : RefusedMakesNothing
refused-nothing fixed began knows number fault none (inl same) = ap (λ (v : Knowing). v.mine) same.0 ∙ none
refused-nothing fixed began knows number fault none (inr refused) = refused.none.told.mine ∙ (append-nil began.mine ∙ none)

pub nobody-came : NobodyHasCome
nobody-came main none number st = absurd (stands-in number main.mine [] none st)

pub learned-leaves : LearnedEachLeaves
learned-leaves main next mine begins each number st =
    enters-later begins (leave-later begins (λ n own. stands-in n main.mine next.mine (sym mine) own)) (each number (stands-in number next.mine main.mine mine st))

-- what stands among the own entries of one of two passes stands among those of the joined one
in-joined-left : (number : ℕ) (main left joined : Knowing) → joined.mine ≡ merged main.mine left.mine → Stands number main.mine → Stands number joined.mine
in-joined-left number main left joined mine own =
    stands-in number (merged main.mine left.mine) joined.mine (sym mine) (merged-Stands_left number main.mine left.mine own)

in-joined-right : (number : ℕ) (main left joined : Knowing) → joined.mine ≡ merged main.mine left.mine → Stands number left.mine → Stands number joined.mine
in-joined-right number main left joined mine own =
    stands-in number (merged main.mine left.mine) joined.mine (sym mine) (merged-Stands_right number main.mine left.mine own)

pub met-leaves : MetEachLeaves
met-leaves main other joined made both none each number st =
    let mine : joined.mine ≡ merged main.mine other.mine = ap (λ (v : Knowing). v.mine) made in
    let begins = both.0.begins in
    enters-later begins (leave-later begins (λ n own. in-joined-left n main other joined mine own)) (each number (met-own number main.mine other.mine joined.mine none mine st))

pub forked-leaves : ForkedEachLeaves
forked-leaves main next kept each =
    learned-leaves main next (ap (λ (v : Knowing). v.mine) kept) (subst (IsPrefix main.seen) (sym (ap (λ (v : Knowing). v.seen) kept)) (prefix_self main.seen)) each

-- the main pass takes in one by which a session came, and left
pub takes-in : (session : ℕ) (main left joined : Knowing) → joined.mine ≡ merged main.mine left.mine → IsPrefix main.seen joined.seen → IsPrefix left.seen joined.seen
    → OnlyComes session left → HasMadeLeave left session → EachLeaves main → EachLeaves joined
takes-in session main left joined mine begins learned only leave each number st =
    by (Stands-merged number main.mine left.mine (stands-in number joined.mine (merged main.mine left.mine) mine st))
  where
    late : HasMadeLeave joined session
    late = leave-later learned (λ n own. in-joined-right n main left joined mine own) leave

    by : Stands number main.mine ⊎ Stands number left.mine → EntersOnlyAt (HasMadeLeave joined) joined number
    by (inl own) = enters-later begins (leave-later begins (λ n o. in-joined-left n main left joined mine o)) (each number own)
    by (inr own) = enters-later learned (λ is. subst (HasMadeLeave joined) (sym is) late) (only number own)
