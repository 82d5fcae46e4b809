-- The main pass and a user's session learn from one another.
use Rattle.std.proofs.Common.{◌≡◌, ℕ, List, [], ◌∷◌, ◌++◌, map, refl, sym, ap, ◌∙◌, subst}
use mathlib.Core.List.{IsPrefix}
use Rattle.nm_turn.specs.declared.view.Share.{Share}
use Rattle.nm_turn.specs.Numbered.{merged}
use Rattle.nm_turn.specs.Passes.{Knows, HasAll, forked_view, joined_view, kept_view}
use Rattle.nm_turn.specs.Rule.{part_of}
use Rattle.nm_turn.specs.Shares.{IsWhole, half, both_parts, AddUp}
use Rattle.nm_types.specs.declared.fault.StepFault.{StepFault}
use Rattle.std.specs.Prelude.{Option, None}
use Rattle.nm_user.specs.Sessions.{IsThere}
use Rattle.vale_entry.specs.declared.entry.Entry.{Entry}
use Rattle.vale_fabric.specs.Fabrics.{Knowing}
use Rattle.vale_fabric.specs.Roots.{root_of}
use Rattle.vale_player.specs.Players.{PlayerState}
use Rattle.vale_act.specs.Seats.{IsHeld, KeepHeld, with_knows, HasLearned, HasSaid, Meets, Tells}
use Rattle.vale_act.specs.declared.seat.Seat.TheVariants.{There}
use Rattle.vale_act.proofs.Merging.{merged-none}
use Rattle.vale_act.proofs.Weights.{add-meets, add-tells, add-forks, add-joins, half-not-whole}

-- what two passes that are made one have
abbrev parts : List Knowing → List Share
parts passes = map part_of passes

-- a pass that makes nothing is taken in
pub joined-mine : (v w other : Knowing) → w ≡ joined_view v other → other.mine ≡ [] → Knows root_of w.seen v.seen v.mine → w.mine ≡ v.mine
joined-mine v w other joined none known =
    ap (λ (x : Knowing). x.mine) joined ∙ (ap (merged v.mine) none ∙ merged-none 1 v.seen v.mine known.stands)

module _ (v w : Knowing) (p q : PlayerState) (other : Knowing) (fault : Option StepFault) where
  knows-is : (k : Knowing) → q ≡ with_knows k p → q.session.knows ≡ k
  knows-is k same = ap (λ (x : PlayerState). x.session.knows) same

  pub meets-there : w ≡ kept_view v → other ≡ forked_view v → q ≡ with_knows (joined_view p.session.knows other) p
      → Knows root_of q.session.knows.seen p.session.knows.seen p.session.knows.mine × Knows root_of q.session.knows.seen other.seen other.mine
      → IsThere None q.session → Meets v w (There p fault) (There q fault)
  meets-there kept given joined known there =
      let knows = knows-is (joined_view p.session.knows other) joined in
      let part : w.part ≡ half v.part = ap (λ (x : Knowing). x.part) kept in
      let given-part : other.part ≡ half v.part = ap (λ (x : Knowing). x.part) given in
      let both : q.session.knows.part ≡ both_parts p.session.knows.part (half v.part) = ap (λ (x : Knowing). x.part) knows ∙ ap (both_parts p.session.knows.part) given-part in
      record {
        seen = ap (λ (x : Knowing). x.seen) kept;
        mine = ap (λ (x : Knowing). x.mine) kept;
        held = λ rest h. record {
          whole = subst (λ (x : Share). AddUp (x ∷ q.session.knows.part ∷ parts rest)) (sym part)
              (subst (λ (x : Share). AddUp (half v.part ∷ x ∷ parts rest)) (sym both) (add-meets v.part p.session.knows.part (parts rest) h.whole));
          all = λ is. absurd (half-not-whole v.part (p.session.knows.part ∷ parts rest) h.whole (subst IsWhole part is));
        };
        seat = (
          q,
          (
            refl,
            record {
              same = joined ∙ ap (λ (k : Knowing). with_knows k p) (sym knows);
              mine = joined-mine p.session.knows q.session.knows other knows (ap (λ (x : Knowing). x.mine) given) known.0;
              seen = known.0.begins;
              news = subst (λ (l : List Entry). IsPrefix l q.session.knows.seen) (ap (λ (x : Knowing). x.seen) given) known.1.begins;
              there = there;
            },
          ),
        );
      }

  pub tells-there : q ≡ with_knows (kept_view p.session.knows) p → other ≡ forked_view p.session.knows → w ≡ joined_view v other
      → Knows root_of w.seen v.seen v.mine × Knows root_of w.seen other.seen other.mine
      → (IsWhole w.part → HasAll w.seen w.seen w.mine)
      → IsThere None p.session → Tells v w (There p fault) (There q fault)
  tells-there kept given joined known whole there =
      let knows = knows-is (kept_view p.session.knows) kept in
      let part : q.session.knows.part ≡ half p.session.knows.part = ap (λ (x : Knowing). x.part) knows in
      let given-part : other.part ≡ half p.session.knows.part = ap (λ (x : Knowing). x.part) given in
      let both : w.part ≡ both_parts v.part (half p.session.knows.part) = ap (λ (x : Knowing). x.part) joined ∙ ap (both_parts v.part) given-part in
      record {
        begins = known.0.begins;
        mine = joined-mine v w other joined (ap (λ (x : Knowing). x.mine) given) known.0;
        held = λ rest h. record {
          whole = subst (λ (x : Share). AddUp (x ∷ q.session.knows.part ∷ parts rest)) (sym both)
              (subst (λ (x : Share). AddUp (both_parts v.part (half p.session.knows.part) ∷ x ∷ parts rest)) (sym part) (add-tells v.part p.session.knows.part (parts rest) h.whole));
          all = λ is. (whole is).all_mine;
        };
        seat = (
          q,
          (
            refl,
            record {
              same = kept;
              seen = subst (λ (l : List Entry). IsPrefix l w.seen) (ap (λ (x : Knowing). x.seen) given) known.1.begins;
              there = there;
            },
          ),
        );
      }
