-- What stands of each user of the unit under way.
use Rattle.std.proofs.Common.{ℕ, ◌<◌, ◌≤◌, ◌≡◌, List, length, take, slice_get, Some, sym, ◌∙◌, ap, subst, arith}
use Rattle.std.specs.List.{AllByRecursion}
use Rattle.vale_entry.specs.declared.entry.Entry.{Entry}
use Rattle.vale_entry.specs.Laws.{Rise}
use Rattle.vale_entry.specs.Legal.{standing_of}
use Rattle.vale_entry.proofs.Counting.{count_of}
use Rattle.vale_script.specs.Script.{Program}
use Rattle.vale_replay.specs.Tasks.{Captures}
use Rattle.vale_replay.specs.Machine.{Machine}
use Rattle.vale_replay.specs.Replay.{Cast, UnitShare, EachShare, ReplaysShare, Reaches, starting, units_of}
use Rattle.vale_replay.proofs.Parts.{WithPlace, Anywhere, each-placed, everywhere}
use Rattle.vale_replay.proofs.Members.{each-weaker, AreApart, numbers_at, place_of, few-one}
use Rattle.vale_replay.proofs.Joins.{split-in, units-apart, apart-at}
use Rattle.vale_replay.proofs.Sessions.{starting-same}
use Rattle.vale_replay.proofs.Owing.{owed_turns}
use Rattle.vale_replay.proofs.TaskSides.{KeepsSide, rest-side}
use Rattle.vale_replay.proofs.Sides.{AreForeign, each-with, IsPairedShare, SidesOn, foreign-at, rises-at, reached-sides, all-at, units-paired}

-- A user of the unit under way: it began with its session's side, which owed nothing, and its entries
-- are all that its sessions have in the unit.
pub record ShareOn (pool : ℕ) (h : List Entry) (first : ℕ) (share : UnitShare) (before : Machine) (ns : List ℕ) (after : Machine) : Type 0 where
  pub replays : ReplaysShare pool h share before ns after
  pub rise : Rise first ns (length h)
  pub foreign : AreForeign h ns first (length h) (starting share before).session
  pub starts : KeepsSide pool (standing_of pool (take first h)) (starting share before)
  pub settled : owed_turns (standing_of pool (take first h)) (starting share before).session ≡ 0

pub reached-each : (program : Program) (captures : Captures) (h : List Entry) (nows : Cast) (r : Reaches program captures h nows) (S : UnitShare → Machine → List ℕ → Machine → Type 0)
    → ((share : UnitShare) (before : Machine) (ns : List ℕ) (after : Machine) → ShareOn program.pool h r.first share before ns after → S share before ns after)
    → EachShare S r.cast r.unit r.lists r.afters
reached-each program captures h nows r S f =
    each-weaker Known S r.cast r.unit r.lists r.afters
    (λ share before ns after known. f share before ns after (record {
      replays = known.0.0;
      rise = rises-at program.pool h r.first (length h) ns known.0.0.rise r.forward (inside share ns known.0.1.0);
      foreign = foreign share before ns known.0.1.1 known.0.1.0;
      starts = rest-side program.pool (standing_of program.pool (take r.first h)) (record before { tasks = share.tasks before }) (share.tasks before) (on.sides (place_of share) before known.0.1.1) (known.1.0 before);
      settled = ap (owed_turns (standing_of program.pool (take r.first h))) (starting-same share before).session ∙ on.settled (place_of share) before known.0.1.1;
    }))
    (each-with (WithPlace (ReplaysShare program.pool h) r.cast r.unit r.lists) IsPairedShare Anywhere r.cast r.unit r.lists r.afters paired (everywhere r.afters)
    (each-placed (ReplaysShare program.pool h) r.cast r.unit r.lists r.afters apart r.replays))
  where
    Known : UnitShare → Machine → List ℕ → Machine → Type 0
    Known share before ns after = WithPlace (ReplaysShare program.pool h) r.cast r.unit r.lists share before ns after × (IsPairedShare share × Anywhere after)

    apart : AreApart r.unit
    apart = apart-at r.count (units_of program captures) r.unit (units-apart program captures) r.there

    paired : AllByRecursion IsPairedShare r.unit
    paired = all-at (AllByRecursion IsPairedShare) r.count (units_of program captures) r.unit (units-paired program captures) r.there

    on : SidesOn program.pool h r.cast r.first
    on = reached-sides program captures h nows r

    foreign : (share : UnitShare) (before : Machine) (ns : List ℕ) → slice_get r.cast.users (place_of share) ≡ Some before
        → numbers_at (place_of share) r.unit r.lists ≡ ns → AreForeign h ns r.first (length h) (starting share before).session
    foreign share before ns here is =
        subst (λ (ms : List ℕ). AreForeign h ms r.first (length h) (starting share before).session) is
        (subst (AreForeign h (numbers_at (place_of share) r.unit r.lists) r.first (length h)) (sym (starting-same share before).session)
        (foreign-at program.pool h r.cast r.first r.unit r.lists r.afters (length h) (place_of share) before apart r.replays r.split on.come here))

    inside : (share : UnitShare) (ns : List ℕ) → numbers_at (place_of share) r.unit r.lists ≡ ns
        → (b : ℕ) → 1 ≤ count_of b ns → (r.first < b) × (b ≤ length h)
    inside share ns is b some =
        let at : 1 ≤ count_of b (numbers_at (place_of share) r.unit r.lists) = subst (λ (ms : List ℕ). 1 ≤ count_of b ms) (sym is) some in
        let few = few-one b (place_of share) r.unit r.lists in
        split-in r.first (length h) r.lists b r.split (omega (arith, few, at))
