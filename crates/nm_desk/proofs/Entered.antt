-- A user comes, as a desk.
use Rattle.std.proofs.Common.{ℕ, ◌+◌, ◌^◌, ◌<◌, ◌≡◌, Bool, [], ◌∷◌, ◌++◌, length, length-append, Some, None, option_map, refl, sym, ◌∙◌, ap, subst, inl, inr}
use Rattle.std.specs.Prelude.{if◌then◌else◌}
use Rattle.std.proofs.lemmas.Bool.{lt-ltb}
use Rattle.nm_types.specs.OwnPorts.{empty_own}
use Rattle.nm_types.specs.declared.fault.StepFault.{StepFault}
use Rattle.nm_types.specs.declared.fault.StepFault.TheVariants.{NoMemory}
use Rattle.nm_port.specs.Regions.{SideState, AllOf}
use Rattle.vale_entry.specs.declared.entry.Ask.{Ask}
use Rattle.vale_entry.specs.declared.entry.Ask.TheVariants.{Enter}
use Rattle.vale_entry.specs.declared.entry.Entry.{Entry}
use Rattle.vale_entry.specs.declared.entry.Reply.TheVariants as replies
use Rattle.vale_entry.specs.Legal.{IsLegal, Follows, step, enter_step, session_and_reply, entry_by}
use Rattle.vale_entry.proofs.Worlds.{count-world_of, legal-push}
use Rattle.vale_own.specs.Own.{is_settled_own}
use Rattle.vale_own.specs.SideAsks.{HasSide, IsSettled}
use Rattle.vale_own.proofs.OwnEntry.{own-entries}
use Rattle.vale_own.proofs.SideKept.{side-begins}
use Rattle.vale_own.specs.Recorded.{Recorded, standing, after_ask, after_outcome, HasRoom, IsRefusal}
use Rattle.nm_desk.specs.Desks.{side_of, desk_of}
use Rattle.nm_desk.specs.Calls.{HasEntered, IsRefused, with_entry}

module _ (b new : Recorded) (user number : ℕ) (few : user < 2 ^ 64) (legal : IsLegal b.pool b.entries) (made : new ≡ after_ask b (Enter user)) (id : number ≡ length new.entries) where
  steps : step (standing b) (Enter user) ≡ Some (enter_step (standing b))
  steps = ap (λ (fits : Bool). if fits then Some (enter_step (standing b)) else None) (lt-ltb user (2 ^ 64) few)

  abbrev session : ℕ
  session = (enter_step (standing b)).session

  abbrev entry : Entry
  entry = entry_by session (Enter user) replies.Made

  news : new ≡ with_entry b session (Enter user) replies.Made
  news = made ∙ ap (after_outcome b (Enter user)) steps

  who : number ≡ session
  who = id ∙ ap (λ (rec : Recorded). length rec.entries) news ∙ length-append b.entries (entry ∷ []) ∙ sym (ap (λ (n : ℕ). n + 1) (count-world_of b.pool b.entries))

  follows : Follows (standing b) entry
  follows = ap (option_map session_and_reply) steps

  -- its side, and that it has neither an offer nor a lease
  side : HasSide b.pool (b.entries ++ entry ∷ []) session None (empty_own b.pool)
  side = record { legal = legal-push b.pool b.entries entry legal follows; of = side-begins b.pool b.entries entry user legal follows refl }

  settled : IsSettled b.pool (b.entries ++ entry ∷ []) session
  settled = ap is_settled_own (own-entries b.pool b.entries entry legal follows)

  pub has-entered : (own : SideState) → own ≡ record { own = empty_own b.pool; regions = [] } → HasRoom b (Enter user) → HasEntered b new user (desk_of number None own)
  has-entered own is room = record {
    desk = record {
      side = subst (λ (o : SideState). HasSide new.pool new.entries number None o.own) (sym is)
          (subst (λ (rec : Recorded). HasSide rec.pool rec.entries number None (empty_own b.pool)) (sym news)
          (subst (λ (n : ℕ). HasSide b.pool (b.entries ++ entry ∷ []) n None (empty_own b.pool)) (sym who) side));
      region = subst (λ (o : SideState). AllOf new.region (side_of (desk_of number None o))) (sym is) tt;
    };
    settled = subst (λ (rec : Recorded). IsSettled rec.pool rec.entries number) (sym news) (subst (IsSettled b.pool (b.entries ++ entry ∷ [])) (sym who) settled);
    room = room;
    book = news ∙ ap (λ (n : ℕ). with_entry b n (Enter user) replies.Made) (sym who);
    id = id;
    shut = refl;
    own = ap (λ (o : SideState). o.own) is ∙ ap (λ (rec : Recorded). empty_own rec.pool) (sym news);
  }

pub no-memory : (b new : Recorded) (ask : Ask) → new ≡ b → IsRefused b new ask NoMemory
no-memory b new ask same = record { refusal = inl refl; book = same }

pub refused : (b new : Recorded) (ask : Ask) (fault : StepFault) → IsRefusal b ask fault → new ≡ b → IsRefused b new ask fault
refused b new ask fault full same = record { refusal = inr full; book = same }
