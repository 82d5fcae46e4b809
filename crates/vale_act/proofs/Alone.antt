-- One user at a time: it comes, does a line, or leaves.
use Rattle.std.proofs.Common.{◌≡◌, ℕ, ◌+◌, ◌⊎◌, inl, inr, List, [], ◌∷◌, ◌++◌, map, length, Option, Some, None, Result, Ok, Err, OnOk, IfErr, IfOk, Vec, refl, sym, ap, ◌∙◌, subst, arith, append-nil, append_assoc}
use Rattle.std.specs.declared.alloc.Global.{Global}
use mathlib.Core.List.{IsPrefix}
use Rattle.nm_turn.specs.declared.view.Share.{Share}
use Rattle.nm_turn.specs.Numbered.{numbers, merged}
use Rattle.nm_turn.specs.Passes.{Knows, HasAll, forked_view, joined_view, kept_view}
use Rattle.nm_turn.specs.Rule.{part_of}
use Rattle.nm_turn.specs.Shares.{IsWhole, half, both_parts, AddUp}
use Rattle.nm_turn.proofs.Prefixes.{prefix_self, prefix_trans}
use Rattle.nm_types.specs.declared.fault.StepFault.{StepFault}
use Rattle.nm_types.specs.declared.fault.StepFault.TheVariants.{RecordFull, NoMemory}
use Rattle.nm_types.specs.declared.fault.Part.{Part}
use Rattle.vale_entry.specs.declared.entry.Ask.TheVariants.{Enter}
use Rattle.vale_entry.specs.declared.entry.Entry.{Entry}
use Rattle.vale_fabric.specs.declared.fabric.Fabric.{Fabric}
use Rattle.vale_fabric.specs.declared.kept.Fixed.{Fixed}
use Rattle.vale_fabric.specs.Fabrics.{Knowing, fixed_in}
use Rattle.vale_fabric.specs.Roots.{root_of}
use Rattle.nm_user.specs.Calls.{IsRefused}
use Rattle.nm_user.specs.Leaving.{IsLeft}
use Rattle.vale_script.specs.declared.script.Act.{Act}
use Rattle.vale_script.specs.declared.script.Act.TheVariants as acts
use Rattle.vale_replay.specs.Machine.{Machine, Save, closing_tasks, resting}
use Rattle.vale_replay.specs.Replay.{times_among}
use Rattle.vale_replay.specs.Tasks.{Task, Arrive, EndLine, tasks_of, tasks_of_lines}
use Rattle.vale_player.specs.Players.{PlayerState, Does, DoesLine, HasEntered, IsStill, Stops, machine_of}
use Rattle.vale_player.specs.Users.{HasCome, HasWorked}
use Rattle.vale_act.specs.Units.{IsFullAt, IsOn, IsSame, PlaysAt, WorksAt, knows_at, times_made}
use Rattle.vale_act.specs.Seats.{ActsLine, Closes, Comes, ComesNot, FullAlone, HasActed, HasLearned, HasMet, HasSaid, HasTold, IsDeed, IsSeated, KeepHeld, LineAt, Meets, PlaysAlone, StopsAlone, Tells, line_tasks, with_knows}
use Rattle.vale_act.specs.declared.seat.Seat.{Seat}
use Rattle.vale_act.specs.declared.seat.Seat.TheVariants.{Away, There, Gone}
use Rattle.vale_act.proofs.BlockParts.{does-part, stops-part}
use Rattle.vale_player.proofs.Closing.{closing-played}
use Rattle.vale_act.proofs.DeedTasks.{acts-need}
use Rattle.vale_act.proofs.Held.{keep-as, keep-then}
use Rattle.vale_act.proofs.Learning.{joined-mine}
use Rattle.vale_act.proofs.SharesPasses.{joined-both, cut-whole, made-added, front-free}
use Rattle.vale_act.proofs.SharesWork.{absent-at, coming-at, full-enter-stop-at, full-stop-at, leaving-at, work-at, none-added}
use Rattle.vale_player.proofs.Stays.{user-begins}
use Rattle.vale_act.proofs.Weights.{add-forks, add-joins, half-not-whole}

abbrev parts : List Knowing → List Share
parts passes = map part_of passes

-- ---- counts

mine-as : (n : ℕ) (v w : Knowing) (passes : List Knowing) → w.mine ≡ v.mine → times_made n (w ∷ passes) ≡ times_made n (v ∷ passes)
mine-as n v w passes same = ap (λ (l : List (ℕ × Entry)). times_among n (numbers l ∷ map (λ (x : Knowing). numbers x.mine) passes)) same

-- a user's pass, and the main one that has made nothing
made-alone : (n : ℕ) (v w began knows was now : Knowing) (added : List (ℕ × Entry)) → w.mine ≡ v.mine → began.mine ≡ was.mine → now.mine ≡ knows.mine → knows.mine ≡ began.mine ++ added
    → times_made n (w ∷ now ∷ []) ≡ times_made n (v ∷ was ∷ []) + times_among n (numbers added ∷ [])
made-alone n v w began knows was now added main first last mine =
    let grown : now.mine ≡ was.mine ++ added = last ∙ (mine ∙ ap (λ (l : List (ℕ × Entry)). l ++ added) first) in
    let one = mine-as n v w (now ∷ []) main in
    let two = front-free n v now [] in
    let three = made-added n was now added (v ∷ []) grown in
    let four = front-free n was v [] in
    omega (arith, one, two, three, four)

made-none : (n : ℕ) (v w : Knowing) (added : List (ℕ × Entry)) → w.mine ≡ v.mine → added ≡ [] → times_made n (w ∷ []) ≡ times_made n (v ∷ []) + times_among n (numbers added ∷ [])
made-none n v w added same none =
    let one = mine-as n v w [] same in
    let nothing : times_among n (numbers added ∷ []) ≡ 0 = ap (λ (l : List (ℕ × Entry)). times_among n (numbers l ∷ [])) none in
    omega (arith, one, nothing)

pub same-begins : (v w : Knowing) → w.seen ≡ v.seen → IsPrefix v.seen w.seen
same-begins v w same = subst (IsPrefix v.seen) (sym same) (prefix_self v.seen)

-- ---- a user that is not there

absent-alone : (pool number : ℕ) (tasks : Machine → List Task) (v w : Knowing) → (plays : PlaysAt pool number tasks v w Away Away) × (plays.added ≡ []) → w.mine ≡ v.mine → PlaysAlone pool number tasks v w Away Away
absent-alone pool number tasks v w absent same = record { plays = absent.0; made = λ n. made-none n v w absent.0.added same absent.1 }

-- ---- a user leaves

pub closes-away : (pool : ℕ) (v m : Knowing) (before met after : Seat) → Meets v m before met → met ≡ Away → after ≡ Away → Closes pool v m before after
closes-away pool v m Away met after meets is left =
    let begins = same-begins v m meets.seen in
    subst (Closes pool v m Away) (sym left) (record {
      begins = begins;
      held = subst (λ (s : Seat). KeepHeld v [] m (knows_at s)) is meets.held;
      gone = refl;
      plays = λ number seated. absent-alone pool number closing_tasks v m (absent-at pool number closing_tasks v m (tt, tt) begins) meets.mine;
    })
closes-away pool v m (There p fault) met after meets is left = let met-is = meets.seat.1.0 in absurd cc
closes-away pool v m (Gone saves) met after meets is left = let met-is : met ≡ Gone saves = meets.seat in absurd cc

module _ (pool : ℕ) (v m w left : Knowing) (p player : PlayerState) (fault : Option StepFault) (saves : Vec Save Global)
    (learned : HasLearned v p player) (seen : m.seen ≡ v.seen) (mine : m.mine ≡ v.mine)
    (of : player.session.fixed.pool ≡ pool) (leaves : IsLeft player.session left) (saved : saves.items ≡ player.saves)
    (joined : w ≡ joined_view m left) (known : Knows root_of w.seen m.seen m.mine × Knows root_of w.seen left.seen left.mine) (whole : IsWhole w.part → HasAll w.seen w.seen w.mine) where
  left-works : WorksAt pool p.number closing_tasks player.session.knows left v w (There p fault) (Gone saves)
  left-works = leaving-at pool p player left v w fault saves learned.same learned.there of (saved ∙ ap (λ (x : PlayerState). x.saves) learned.same) leaves learned.news known.1.begins

  left-part : left.part ≡ player.session.knows.part
  left-part =
      let now = machine_of player (closing_tasks (machine_of player [])) in
      let worked : HasWorked player.session.fixed.pool player.session.knows left (resting now) (record now { session = None; own = leaves.last.own; tasks = [] }) =
      closing-played player.session left player.session.knows (resting now) now learned.there (user-begins player.session now (record { session = refl; own = refl })) refl leaves in
      worked.works.part

  left-held : KeepHeld m (player.session.knows ∷ []) w []
  left-held rest h =
      let part : w.part ≡ both_parts m.part left.part = ap (λ (x : Knowing). x.part) joined in
      record {
        whole = subst (λ (x : Share). AddUp (x ∷ parts rest)) (sym part) (add-joins m.part left.part (parts rest) (subst (λ (x : Share). AddUp (m.part ∷ x ∷ parts rest)) (sym left-part) h.whole));
        all = λ is. (whole is).all_mine;
      }

  left-alone : PlaysAlone pool p.number closing_tasks v w (There p fault) (Gone saves)
  left-alone = record {
    plays = left-works.plays;
    made = λ n. joined-both n m left w [] (ap (λ (x : Knowing). x.mine) joined) ∙ made-alone n v m player.session.knows left p.session.knows left left-works.plays.added mine learned.mine refl left-works.mine;
  }

  pub leaves-there : KeepHeld v (p.session.knows ∷ []) m (player.session.knows ∷ []) → Closes pool v w (There p fault) (Gone saves)
  leaves-there keep = record {
    begins = subst (λ (l : List Entry). IsPrefix l w.seen) seen known.0.begins;
    held = keep-then v m w (p.session.knows ∷ []) (player.session.knows ∷ []) [] keep left-held;
    gone = refl;
    plays = λ number seated. subst (λ (n : ℕ). PlaysAlone pool n closing_tasks v w (There p fault) (Gone saves)) seated left-alone;
  }

pub closes-there : (pool : ℕ) (v m w left : Knowing) (before met after : Seat) (player : PlayerState) (fault : Option StepFault) (saves : Vec Save Global)
    → Meets v m before met → met ≡ There player fault → after ≡ Gone saves
    → player.session.fixed.pool ≡ pool → IsLeft player.session left → saves.items ≡ player.saves
    → w ≡ joined_view m left → Knows root_of w.seen m.seen m.mine × Knows root_of w.seen left.seen left.mine → (IsWhole w.part → HasAll w.seen w.seen w.mine)
    → Closes pool v w before after
closes-there pool v m w left Away met after player fault saves meets is gone of leaves saved joined known whole = let met-is : met ≡ Away = meets.seat in absurd cc
closes-there pool v m w left (Gone other) met after player fault saves meets is gone of leaves saved joined known whole = let met-is : met ≡ Gone other = meets.seat in absurd cc
closes-there pool v m w left (There p before) met after player fault saves meets is gone of leaves saved joined known whole =
    let met-is = meets.seat.1.0 in
    let both : There meets.seat.0 before ≡ There player fault = sym met-is ∙ is in
    let same : meets.seat.0 ≡ player = cc in
    let keep : KeepHeld v (p.session.knows ∷ []) m (player.session.knows ∷ []) = subst (λ (s : Seat). KeepHeld v (p.session.knows ∷ []) m (knows_at s)) is meets.held in
    subst (Closes pool v w (There p before)) (sym gone)
    (leaves-there pool v m w left p player before saves (subst (HasLearned v p) same meets.seat.1.1) meets.seen meets.mine of leaves saved joined known whole keep)

-- ---- a user comes

pub comes-there : (fabric : Fabric) (number : ℕ) (v w began : Knowing) (p : PlayerState) → w ≡ kept_view v → began ≡ forked_view v → HasEntered fabric began number p → Comes fabric number v w p
comes-there fabric number v w began p kept given entered =
    let part : w.part ≡ half v.part = ap (λ (x : Knowing). x.part) kept in
    let given-part : began.part ≡ half v.part = ap (λ (x : Knowing). x.part) given in
    let own : p.session.knows.part ≡ half v.part = (entered.comes []).works.part ∙ given-part in
    record {
      seen = ap (λ (x : Knowing). x.seen) kept;
      mine = ap (λ (x : Knowing). x.mine) kept;
      held = λ rest h. record {
        whole = subst (λ (x : Share). AddUp (x ∷ p.session.knows.part ∷ parts rest)) (sym part) (subst (λ (x : Share). AddUp (half v.part ∷ x ∷ parts rest)) (sym own) (add-forks v.part (parts rest) h.whole));
        all = λ is. absurd (half-not-whole v.part (parts rest) h.whole (subst IsWhole part is));
      };
      began = began;
      began_seen = ap (λ (x : Knowing). x.seen) given;
      began_mine = ap (λ (x : Knowing). x.mine) given;
      entered = entered;
    }

record Refused (began knows : Knowing) : Type 0 where
  part : knows.part ≡ began.part
  mine : knows.mine ≡ began.mine

refused-keeps : (fixed : Fixed) (number : ℕ) (began knows : Knowing) (fault : StepFault) → IsRefused fixed began knows (Enter number) fault → Refused began knows
refused-keeps fixed number began knows fault (inl same) = record { part = ap (λ (x : Knowing). x.part) same.0; mine = ap (λ (x : Knowing). x.mine) same.0 }
refused-keeps fixed number began knows fault (inr full) = record { part = full.none.told.part; mine = full.none.told.mine ∙ append-nil began.mine }

pub comes-not : (fixed : Fixed) (number : ℕ) (v kept began knows w : Knowing) (fault : StepFault) → kept ≡ kept_view v → began ≡ forked_view v → IsRefused fixed began knows (Enter number) fault
    → w ≡ joined_view kept knows → Knows root_of w.seen kept.seen kept.mine × Knows root_of w.seen knows.seen knows.mine → (IsWhole w.part → HasAll w.seen w.seen w.mine)
    → ComesNot fixed number v w fault
comes-not fixed number v kept began knows w fault cut given refused joined known whole =
    let keeps = refused-keeps fixed number began knows fault refused in
    let part : kept.part ≡ half v.part = ap (λ (x : Knowing). x.part) cut in
    let own : knows.part ≡ half v.part = keeps.part ∙ ap (λ (x : Knowing). x.part) given in
    let both : w.part ≡ both_parts (half v.part) (half v.part) = ap (λ (x : Knowing). x.part) joined ∙ (λ i. both_parts (part i) (own i)) in
    let none : knows.mine ≡ [] = keeps.mine ∙ ap (λ (x : Knowing). x.mine) given in
    record {
      begins = subst (λ (l : List Entry). IsPrefix l w.seen) (ap (λ (x : Knowing). x.seen) cut) known.0.begins;
      mine = joined-mine kept w knows joined none known.0 ∙ ap (λ (x : Knowing). x.mine) cut;
      held = λ rest h. record {
        whole = subst (λ (x : Share). AddUp (x ∷ parts rest)) (sym both) (add-joins (half v.part) (half v.part) (parts rest) (add-forks v.part (parts rest) h.whole));
        all = λ is. (whole is).all_mine;
      };
      began = began;
      began_seen = ap (λ (x : Knowing). x.seen) given;
      knows = knows;
      knows_seen = known.1.begins;
      knows_mine = keeps.mine;
      refused = refused;
    }

-- ---- what is told

told-same : (w : Knowing) (q r : PlayerState) → HasSaid w q r → IsSame q r
told-same w q r said = said.same ∙ ap (λ (k : Knowing). with_knows k q) (sym (ap (λ (x : PlayerState). x.session.knows) said.same))

told-mine : (w : Knowing) (q r : PlayerState) → HasSaid w q r → r.session.knows.mine ≡ q.session.knows.mine
told-mine w q r said = ap (λ (x : PlayerState). x.session.knows.mine) said.same

module _ (fabric : Fabric) (number : ℕ) (records : List ℕ → List (List ℕ)) where
  abbrev fixed : Fixed
  fixed = fixed_in fabric

  -- a line with which its user comes
  abbrev entering : Machine → List Task
  entering = line_tasks records acts.Enter

  pub line-enters : (v m w : Knowing) (p : PlayerState) (after : Seat) → Comes fabric number v m p → Tells m w (There p None) after
      → LineAt fixed number entering v w Away after (Ok tt)
  line-enters v m w p after comes tells =
      let r = tells.seat.0 in
      let said = tells.seat.1.1 in
      let began = comes.began in
      let begins : IsPrefix v.seen w.seen = subst (λ (l : List Entry). IsPrefix l w.seen) comes.seen tells.begins in
      let works : WorksAt fixed.pool number entering began p.session.knows v w Away (There r None) =
      coming-at fabric number entering p r began v w None refl comes.entered (told-same w p r said) said.there (subst (IsPrefix v.seen) (sym comes.began_seen) (prefix_self v.seen)) said.seen in
      let made : (n : ℕ) → times_made n (w ∷ r.session.knows ∷ []) ≡ times_made n (v ∷ []) + times_among n (numbers works.plays.added ∷ []) = λ n.
      let one = made-alone n v w began p.session.knows began r.session.knows works.plays.added (tells.mine ∙ comes.mine) refl (told-mine w p r said) works.mine in
      let two = cut-whole n v v began [] refl comes.began_mine in
      omega (arith, one, two) in
      let keep = keep-then v m w [] (p.session.knows ∷ []) (knows_at after) comes.held tells.held in
      subst (λ (s : Seat). LineAt fixed number entering v w Away s (Ok tt)) (sym tells.seat.1.0) (record {
        begins = begins;
        held = subst (λ (s : Seat). KeepHeld v [] w (knows_at s)) tells.seat.1.0 keep;
        seat = ap (λ (x : PlayerState). x.number) said.same ∙ comes.entered.number_is;
        plays = record { plays = works.plays; made = made };
        stops = tt;
      })

  stops-entering : (v w : Knowing) (fault : StepFault) → ComesNot fixed number v w fault → StopsAlone fixed number entering v w Away Away fault
  stops-entering v w NoMemory comes = tt
  stops-entering v w (RecordFull what used want) comes =
      let full : IsFullAt fixed number entering (RecordFull what used want) comes.began comes.knows v w Away Away =
      full-enter-stop-at fixed number entering (EndLine ∷ []) comes.began comes.knows v w what used want Away refl comes.refused (subst (IsPrefix v.seen) (sym comes.began_seen) (prefix_self v.seen)) comes.knows_seen in
      record {
        count = length comes.knows.seen;
        call = full.call;
        stops = full.stops;
        made = λ n. made-none n v w full.stops.replays.added comes.mine (none-added comes.began.mine full.stops.replays.added (sym comes.knows_mine ∙ full.mine));
        forward = full.forward;
        seen = full.seen;
        refusal = full.refusal;
      }

  pub line-not-enters : (v w : Knowing) (fault : StepFault) → ComesNot fixed number v w fault → LineAt fixed number entering v w Away Away (Err fault)
  line-not-enters v w fault comes = record { begins = comes.begins; held = comes.held; seat = tt; plays = tt; stops = stops-entering v w fault comes }

  module _ (act : Act) where
    abbrev tasks : Machine → List Task
    tasks = line_tasks records act

    abbrev all : List Task
    all = tasks_of_lines records (act ∷ [])

    module _ (v m w : Knowing) (p met q r : PlayerState) (fault : Option StepFault) (is-number : p.number ≡ number) (is-fixed : p.session.fixed ≡ fixed)
        (learned : HasLearned v p met) (said : HasSaid w q r) (main : w.mine ≡ v.mine) where
      module _ (done : Result (Unit {0}) StepFault) (acts : ActsLine records act met q done) where
        ran-fixed : q.session.fixed ≡ fixed
        ran-fixed = acts.still.fixed ∙ (ap (λ (x : PlayerState). x.session.fixed) learned.same ∙ is-fixed)

        ran-number : r.number ≡ number
        ran-number = ap (λ (x : PlayerState). x.number) said.same ∙ (acts.still.number ∙ (ap (λ (x : PlayerState). x.number) learned.same ∙ is-number))

      acts-part : (done : Result (Unit {0}) StepFault) → ActsLine records act met q done → q.session.knows.part ≡ met.session.knows.part
      acts-part (Ok x) acts = does-part met q all acts.does
      acts-part (Err stop) acts = stops-part met q all stop acts.stops

      acts-plays : (done : Result (Unit {0}) StepFault) → ActsLine records act met q done → OnOk done (PlaysAlone fixed.pool number tasks v w (There p fault) (There r fault))
      acts-plays (Err stop) acts = tt
      acts-plays (Ok x) acts =
          let works : WorksAt fixed.pool p.number tasks met.session.knows q.session.knows v w (There p fault) (There r fault) =
          work-at fixed.pool tasks p met q r v w fault fault learned.same (told-same w q r said) acts.still said.there (ap (λ (f : Fixed). f.pool) (ran-fixed (Ok x) acts)) acts.does learned.news said.seen in
          subst (λ (n : ℕ). PlaysAlone fixed.pool n tasks v w (There p fault) (There r fault)) is-number (record {
            plays = works.plays;
            made = λ n. made-alone n v w met.session.knows q.session.knows p.session.knows r.session.knows works.plays.added main learned.mine (told-mine w q r said) works.mine;
          })

      full-alone : (what : Part) (used want : ℕ) → ActsLine records act met q (Err (RecordFull what used want)) → FullAlone fixed number tasks (RecordFull what used want) v w (There p fault) (There r fault)
      full-alone what used want acts =
          let full : IsFullAt fixed p.number tasks (RecordFull what used want) met.session.knows q.session.knows v w (There p fault) (There r fault) =
          full-stop-at fixed tasks p met q v w fault what used want (There r fault) learned.same (ran-fixed (Err (RecordFull what used want)) acts) acts.stops learned.news said.seen in
          subst (λ (n : ℕ). FullAlone fixed n tasks (RecordFull what used want) v w (There p fault) (There r fault)) is-number (record {
            count = length q.session.knows.seen;
            call = full.call;
            stops = full.stops;
            made = λ n. made-alone n v w met.session.knows q.session.knows p.session.knows r.session.knows full.stops.replays.added main learned.mine (told-mine w q r said) full.mine;
            forward = full.forward;
            seen = full.seen;
            refusal = full.refusal;
          })

      acts-stops : (done : Result (Unit {0}) StepFault) → ActsLine records act met q done → IfErr done (StopsAlone fixed number tasks v w (There p fault) (There r fault))
      acts-stops (Ok x) acts = tt
      acts-stops (Err NoMemory) acts = tt
      acts-stops (Err (RecordFull what used want)) acts = full-alone what used want acts

      pub acts-there : (done : Result (Unit {0}) StepFault) → ActsLine records act met q done → IsPrefix v.seen w.seen
          → KeepHeld v (p.session.knows ∷ []) m (met.session.knows ∷ []) → KeepHeld m (q.session.knows ∷ []) w (r.session.knows ∷ [])
          → LineAt fixed number tasks v w (There p fault) (There r fault) done
      acts-there done acts begins first last = record {
        begins = begins;
        held = λ rest h. last rest (keep-as m (met.session.knows ∷ []) (q.session.knows ∷ []) (ap (λ (x : Share). x ∷ []) (acts-part done acts)) rest (first rest h));
        seat = ran-number done acts;
        plays = acts-plays done acts;
        stops = acts-stops done acts;
      }

    -- any other line
    pub line-acts : (v m w : Knowing) (before met ran after : Seat) (done : Result (Unit {0}) StepFault) → IsSeated number before → IsOn fabric before → (before ≡ Away → IsDeed act)
        → Meets v m before met → HasActed records act done met ran → Tells m w ran after → LineAt fixed number tasks v w before after done
    line-acts v m w (Gone saves) met ran after done seated on deed meets acted tells = absurd seated
    line-acts v m w Away met ran after done seated on deed meets acted tells =
        let acted' = subst (λ (s : Seat). HasActed records act done s ran) meets.seat acted in
        let is : after ≡ Away = subst (λ (s : Seat). HasTold w s after) acted'.0 tells.seat in
        let begins : IsPrefix v.seen w.seen = subst (λ (l : List Entry). IsPrefix l w.seen) meets.seen tells.begins in
        let main : w.mine ≡ v.mine = tells.mine ∙ meets.mine in
        let first : KeepHeld v [] m [] = subst (λ (s : Seat). KeepHeld v [] m (knows_at s)) meets.seat meets.held in
        let last : KeepHeld m [] w [] = subst (λ (s : Seat). KeepHeld m [] w (knows_at s)) is (subst (λ (s : Seat). KeepHeld m (knows_at s) w (knows_at after)) acted'.0 tells.held) in
        let at : LineAt fixed number tasks v w Away Away (Ok tt) = record {
          begins = begins;
          held = keep-then v m w [] [] [] first last;
          seat = tt;
          plays = absent-alone fixed.pool number tasks v w (absent-at fixed.pool number tasks v w (acts-need records (act ∷ []) (deed refl, tt)) begins) main;
          stops = tt;
        } in
        subst (λ (s : Seat). LineAt fixed number tasks v w Away s done) (sym is) (subst (LineAt fixed number tasks v w Away Away) (sym acted'.1) at)
    line-acts v m w (There p fault) met ran after done seated on deed meets acted tells =
        let p1 = meets.seat.0 in
        let acted' = subst (λ (s : Seat). HasActed records act done s ran) meets.seat.1.0 acted in
        let q = acted'.0 in
        let told = subst (λ (s : Seat). HasTold w s after) acted'.1.0 tells.seat in
        let r = told.0 in
        let first : KeepHeld v (p.session.knows ∷ []) m (p1.session.knows ∷ []) = subst (λ (s : Seat). KeepHeld v (p.session.knows ∷ []) m (knows_at s)) meets.seat.1.0 meets.held in
        let last : KeepHeld m (q.session.knows ∷ []) w (r.session.knows ∷ []) =
        subst (λ (s : Seat). KeepHeld m (q.session.knows ∷ []) w (knows_at s)) told.1.0 (subst (λ (s : Seat). KeepHeld m (knows_at s) w (knows_at after)) acted'.1.0 tells.held) in
        subst (λ (s : Seat). LineAt fixed number tasks v w (There p fault) s done) (sym told.1.0)
        (acts-there v m w p p1 q r fault seated on.1 meets.seat.1.1 told.1.1 (tells.mine ∙ meets.mine) done acted'.1.1
        (subst (λ (l : List Entry). IsPrefix l w.seen) meets.seen tells.begins) first last)

-- ---- what the user of a seat has done

stops-more : (p q : PlayerState) (xs ys : List Task) (fault : StepFault) → Stops p q xs fault → Stops p q (xs ++ ys) fault
stops-more p q xs ys fault stops rest began first come = stops (ys ++ rest) began first (subst (λ (ts : List Task). HasCome began first p.session (machine_of p ts)) (append_assoc xs ys rest) come)

pub has-acted : (records : List ℕ → List (List ℕ)) (act : Act) (done : Result (Unit {0}) StepFault) (before : Seat) (p q : PlayerState) (fault : Option StepFault) → before ≡ There p fault
    → IsStill p q → OnOk done (DoesLine p q (tasks_of records act)) → IfErr done (Stops p q (tasks_of records act)) → HasActed records act done before (There q fault)
has-acted records act done before p q fault is still does stops =
    subst (λ (s : Seat). HasActed records act done s (There q fault)) (sym is) (q, (refl, record { still = still; does = by-ok done does; stops = by-err done stops }))
  where
    all-is : tasks_of_lines records (act ∷ []) ≡ tasks_of records act ++ EndLine ∷ []
    all-is = append-nil (tasks_of records act ++ EndLine ∷ [])

    by-ok : (r : Result (Unit {0}) StepFault) → OnOk r (DoesLine p q (tasks_of records act)) → OnOk r (Does p q (tasks_of_lines records (act ∷ [])))
    by-ok (Ok x) d = subst (Does p q) (sym all-is) d
    by-ok (Err e) d = tt

    by-err : (r : Result (Unit {0}) StepFault) → IfErr r (Stops p q (tasks_of records act)) → IfErr r (Stops p q (tasks_of_lines records (act ∷ [])))
    by-err (Ok x) s = tt
    by-err (Err e) s = subst (λ (ts : List Task). Stops p q ts e) (sym all-is) (stops-more p q (tasks_of records act) (EndLine ∷ []) e s)
