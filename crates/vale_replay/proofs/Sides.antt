-- Each user of a history under way holds what its session does.
use Rattle.std.proofs.Common.{Bool, true, false, cond, ℕ, zero, suc, ◌+◌, ◌-◌, ◌<◌, ◌≤◌, ◌≡◌, ◌⊎◌, inl, inr, List, [], ◌∷◌, ◌++◌, length, map, filter, take, drop, slice_get, Option, Some, None, option_map, refl, sym, ◌∙◌, ap, subst, arith, All, take-append-drop}
use Rattle.std.specs.Prelude.{◌==◌, option_and_then}
use Rattle.std.specs.Option.{option_or, option_map_or}
use Rattle.std.specs.List.{range_with_len, AllByRecursion}
use Rattle.std.proofs.lemmas.Bool.{eqb-true, ne_eqb, cases_Bool}
use Rattle.std.proofs.lemmas.List.{take-take, take_all}
use Rattle.std.proofs.lemmas.List.Elements.{All-from_recursion}
use Rattle.std.proofs.lemmas.Option.{same_Some}
use Rattle.nm_types.specs.declared.id.SessionId.{SessionId}
use Rattle.nm_types.specs.OwnPorts.{OwnState, empty_own}
use Rattle.vale_entry.specs.declared.entry.Ask.{Ask}
use Rattle.vale_entry.specs.declared.entry.Entry.{Entry}
use Rattle.vale_entry.specs.OwnCalls.{finish_call}
use Rattle.vale_entry.specs.Holdings.{buffers_of_session}
use Rattle.vale_entry.specs.Laws.{Rise}
use Rattle.vale_entry.specs.Legal.{Standing, standing_of, IsLegal}
use Rattle.vale_entry.proofs.Counting.{count_of, count_of-cons}
use Rattle.vale_entry.proofs.Rising.{rise-bounds}
use Rattle.vale_own.specs.Laws.{IsOfOther}
use Rattle.vale_own.specs.Side.{buffers_on}
use Rattle.vale_own.proofs.OwnKept.{legal-split}
use Rattle.vale_own.proofs.SideEntries.{others-keep}
use Rattle.vale_script.specs.declared.script.Line.{Line}
use Rattle.vale_script.specs.declared.script.Unit.{Unit as ReadUnit}
use Rattle.vale_script.specs.declared.script.Unit.TheVariants as parts
use Rattle.vale_script.specs.Script.{Program}
use Rattle.vale_replay.specs.Tasks.{Captures, Task, FinishPort, records_of}
use Rattle.vale_replay.specs.Machine.{Machine, new_machine, settling_call, call_of_task, call_of_tasks}
use Rattle.vale_replay.specs.Replay.{Cast, UnitShare, ScriptUnit, TakesTurn, TakesTurns, EachShare, ReplaysShare, ReplaysUnit, ReplaysUnits, AreSplit, NeedsNoCall, HasPlayed, Reaches, IsUnderWay, acts_of, cast_of, closing_unit, has_line, share_of, shares_of, starting, times_among, units_of, user_count, with_afters}
use Rattle.vale_replay.specs.Owners.{HoldsItsOwn, UsersHoldTheirOwn, times_in}
use Rattle.vale_replay.proofs.Numbers.{rise-above}
use Rattle.vale_replay.proofs.Legal.{played-legal}
use Rattle.vale_replay.proofs.Sessions.{IsOwnSession, own-back, own-entry, starting-same, turn-on}
use Rattle.vale_replay.proofs.Members.{AreApart, Member, HasMember, numbers_at, few-one, member, has-member}
use Rattle.vale_replay.proofs.Joins.{HaveCome, come-next, sessions-apart, split-has, split-in, others-from, units-apart, take-apart, apart-at, first-come, or-first}
use Rattle.vale_replay.proofs.OneState.{narrow, from-first}
use Rattle.vale_replay.proofs.Owing.{owed_turns, owed-same, settled-owes}
use Rattle.vale_replay.proofs.TaskSides.{SideOf, ArePaired, AreInOrder, KeepsSide, rest-side, lines-paired, closing-paired}
use Rattle.vale_replay.proofs.TurnSides.{turn-side}

-- Entries of others.

-- the entries of a range, all of others
record Between (pool : ℕ) (h : List Entry) (from last : ℕ) (session : ℕ) : Type 0 where
  more : List Entry
  whole : take from h ++ more ≡ take last h
  legal : IsLegal pool (take from h ++ more)
  others : All (IsOfOther session) more

between : (pool : ℕ) (h : List Entry) (from last : ℕ) (x : SessionId) → from ≤ last → IsLegal pool (take last h)
    → ((k : ℕ) (e : Entry) → from ≤ k → k < last → slice_get h k ≡ Some e → IsOfOther x.0 e) → Between pool h from last x.0
between pool h from last x up legal others =
    let cut : take from (take last h) ≡ take from h = take-take from last h up in
    let whole : take from h ++ drop from (take last h) ≡ take last h = ap (λ (es : List Entry). es ++ drop from (take last h)) (sym cut) ∙ take-append-drop from (take last h) in
    record {
      more = drop from (take last h);
      whole = whole;
      legal = subst (IsLegal pool) (sym whole) legal;
      others = All-from_recursion (IsOfOther x.0) (drop from (take last h)) (others-from x.0 from last h others);
    }

side-on : (pool : ℕ) (h : List Entry) (from last : ℕ) (session : Option SessionId) (shut : Option ℕ) (own : OwnState)
    → from ≤ last → IsLegal pool (take last h)
    → ((x : SessionId) (k : ℕ) (e : Entry) → session ≡ Some x → from ≤ k → k < last → slice_get h k ≡ Some e → IsOfOther x.0 e)
    → SideOf pool (standing_of pool (take from h)) session shut own → SideOf pool (standing_of pool (take last h)) session shut own
side-on pool h from last None shut own up legal others side = side
side-on pool h from last (Some x) shut own up legal others side =
    let b = between pool h from last x up legal (λ k e low high there. others x k e refl low high there) in
    subst (λ (es : List Entry). SideOf pool (standing_of pool es) (Some x) shut own) b.whole
    (others-keep pool (take from h) b.more x.0 shut own b.legal b.others side)

pub owed-on : (pool : ℕ) (h : List Entry) (from last : ℕ) (session : Option SessionId)
    → from ≤ last → IsLegal pool (take last h)
    → ((x : SessionId) (k : ℕ) (e : Entry) → session ≡ Some x → from ≤ k → k < last → slice_get h k ≡ Some e → IsOfOther x.0 e)
    → owed_turns (standing_of pool (take last h)) session ≡ owed_turns (standing_of pool (take from h)) session
owed-on pool h from last None up legal others = refl
owed-on pool h from last (Some x) up legal others =
    let b = between pool h from last x up legal (λ k e low high there. others x k e refl low high there) in
    ap (λ (es : List Entry). owed_turns (standing_of pool es) (Some x)) (sym b.whole) ∙ owed-same pool (take from h) b.more x b.legal b.others

pub keeps-on : (pool : ℕ) (h : List Entry) (from last : ℕ) (user : Machine)
    → from ≤ last → IsLegal pool (take last h)
    → ((x : SessionId) (k : ℕ) (e : Entry) → user.session ≡ Some x → from ≤ k → k < last → slice_get h k ≡ Some e → IsOfOther x.0 e)
    → KeepsSide pool (standing_of pool (take from h)) user → KeepsSide pool (standing_of pool (take last h)) user
keeps-on pool h from last user up legal others keeps =
    record { shut = keeps.shut; side = side-on pool h from last user.session keeps.shut user.own up legal others keeps.side; order = keeps.order }

-- the entries of the range that have none of a user's numbers are of none of its sessions
abbrev pub AreForeign : List Entry → List ℕ → ℕ → ℕ → Option SessionId → Type 0
AreForeign h ns from last session =
    (x : SessionId) (k : ℕ) (e : Entry) → IsOwnSession session ns x → from ≤ k → k < last → count_of (k + 1) ns ≡ 0 → slice_get h k ≡ Some e → IsOfOther x.0 e

-- What holds of a user before some turns, with the numbers that are left, holds behind the last of
-- them, where the entries of others between two of them leave it, and each turn leaves it.
pub turns-along : (pool : ℕ) (h : List Entry) (P : List ℕ → ℕ → Machine → Type 0) (last : ℕ)
    → ((ns : List ℕ) (from n : ℕ) (m : Machine) → from ≤ n → n ≤ last
    → ((x : SessionId) (k : ℕ) (e : Entry) → m.session ≡ Some x → from ≤ k → k < n → slice_get h k ≡ Some e → IsOfOther x.0 e) → P ns from m → P ns n m)
    → ((ns : List ℕ) (n : ℕ) (m after : Machine) → n < last → P ((n + 1) ∷ ns) n m → TakesTurn pool h m (n + 1) after → P ns (n + 1) after)
    → (from : ℕ) (user : Machine) (ns : List ℕ) (after : Machine) → Rise from ns last → from ≤ last
    → AreForeign h ns from last user.session → P ns from user → TakesTurns pool h user ns after → P [] last after
turns-along pool h P last on turn from user [] after rise up foreign keeps turns =
    subst (P [] last) (sym turns) (on [] from last user up (omega arith) (λ x k e is low high there. foreign x k e (inl is) low high refl there) keeps)
turns-along pool h P last on turn from user (n ∷ ns) after rise up foreign keeps turns =
    turns-along pool h P last on turn n turns.0 ns after rise.1 below later behind turns.1.1
  where
    above : from < n
    above = rise.0

    below : n ≤ last
    below = rise-bounds n ns last rise.1

    number : n - 1 + 1 ≡ n
    number = omega (arith, above)

    before : P (n ∷ ns) (n - 1) user
    before = on (n ∷ ns) from (n - 1) user (omega (arith, above)) (omega (arith, below))
        (λ x k e is low high there. foreign x k e (inl is) low (omega (arith, high, below)) (rise-above (k + 1) (n ∷ ns) last (k + 1) (omega (arith, high, above), rise.1) (omega arith)) there) keeps

    behind : P ns n turns.0
    behind = subst (λ (k : ℕ). P ns k turns.0) number
        (turn ns (n - 1) user turns.0 (omega (arith, above, below)) (subst (λ (k : ℕ). P (k ∷ ns) (n - 1) user) (sym number) before) (subst (λ (k : ℕ). TakesTurn pool h user k turns.0) (sym number) turns.1.0))

    later : AreForeign h ns n last turns.0.session
    later x k e own low high none there =
        let miss : (n == (k + 1)) ≡ false = ne_eqb n (k + 1) (λ is. omega (arith, is, low)) in
        let all : count_of (k + 1) (n ∷ ns) ≡ 0 = count_of-cons (k + 1) n ns ∙ ap (λ (b : Bool). cond b 1 0 + count_of (k + 1) ns) miss ∙ omega (arith, none) in
        foreign x k e (own-back n user.session turns.0.session ns x (turn-on pool h user n turns.0 turns.1.0).session own) (omega (arith, above, low)) high all there

pub turns-side : (pool : ℕ) (h : List Entry) (from last : ℕ) (user : Machine) (ns : List ℕ) (after : Machine)
    → ((n : ℕ) → n ≤ last → IsLegal pool (take n h)) → last ≤ length h → Rise from ns last → from ≤ last
    → AreForeign h ns from last user.session → KeepsSide pool (standing_of pool (take from h)) user → TakesTurns pool h user ns after
    → KeepsSide pool (standing_of pool (take last h)) after
turns-side pool h from last user ns after legal within rise up foreign keeps turns =
    turns-along pool h (λ numbers n m. KeepsSide pool (standing_of pool (take n h)) m) last
    (λ numbers low n m above below others keeps. keeps-on pool h low n m above (legal n below) others keeps)
    (λ numbers n m next below keeps turn. turn-side pool h m n next (legal n (omega (arith, below))) (omega (arith, below, within)) keeps turn)
    from user ns after rise up foreign keeps turns

-- Units.

abbrev pub IsPairedShare : UnitShare → Type 0
IsPairedShare share = (m : Machine) → ArePaired (share.tasks m)

-- what holds of each share and of each user behind it, beside its entries
abbrev WithBoth : ℕ → List Entry → (Machine → Type 0) → UnitShare → Machine → List ℕ → Machine → Type 0
WithBoth pool h Q share before ns after = ReplaysShare pool h share before ns after × (IsPairedShare share × Q after)

pub each-with : (R : UnitShare → Machine → List ℕ → Machine → Type 0) (P : UnitShare → Type 0) (Q : Machine → Type 0) (cast : Cast) (unit : ScriptUnit) (lists : List (List ℕ)) (afters : List Machine)
    → AllByRecursion P unit → AllByRecursion Q afters → EachShare R cast unit lists afters
    → EachShare (λ (share : UnitShare) (before : Machine) (ns : List ℕ) (after : Machine). R share before ns after × (P share × Q after)) cast unit lists afters
each-with R P Q cast [] [] [] ps qs each = tt
each-with R P Q cast (share ∷ shares) (ns ∷ lists) (a ∷ afters) ps qs each =
    ((each.0.0, each.0.1, (each.0.2, (ps.0, qs.0))), each-with R P Q cast shares lists afters ps.1 qs.1 each.1)
each-with R P Q cast _ _ _ ps qs each = absurd each

with-both : (pool : ℕ) (h : List Entry) (Q : Machine → Type 0) (cast : Cast) (unit : ScriptUnit) (lists : List (List ℕ)) (afters : List Machine)
    → AllByRecursion IsPairedShare unit → AllByRecursion Q afters
    → EachShare (ReplaysShare pool h) cast unit lists afters → EachShare (WithBoth pool h Q) cast unit lists afters
with-both pool h Q = each-with (ReplaysShare pool h) IsPairedShare Q

-- between units no port is shut, and no session owes anything
abbrev pub HaveSettled : ℕ → Standing → Cast → Type 0
HaveSettled pool s cast = (i : ℕ) (u : Machine) → slice_get cast.users i ≡ Some u → owed_turns s u.session ≡ 0

abbrev pub HaveSides : ℕ → Standing → Cast → Type 0
HaveSides pool s cast = (i : ℕ) (u : Machine) → slice_get cast.users i ≡ Some u → SideOf pool s u.session None u.own

pub foreign-at : (pool : ℕ) (h : List Entry) (cast : Cast) (first : ℕ) (unit : ScriptUnit) (lists : List (List ℕ)) (afters : List Machine) (last i : ℕ) (before : Machine)
    → AreApart unit → EachShare (ReplaysShare pool h) cast unit lists afters → AreSplit first last lists
    → HaveCome first cast → slice_get cast.users i ≡ Some before → AreForeign h (numbers_at i unit lists) first last before.session
foreign-at pool h cast first unit lists afters last i before apart each split come here x k e own low high none there same =
    by_who (has-member (ReplaysShare pool h) cast unit lists afters (k + 1) apart each (omega (arith, once)))
  where
    once : times_among (k + 1) lists ≡ 1
    once = split-has first last lists (k + 1) split (omega (arith, low)) (omega (arith, high))

    by_place : (who : HasMember (ReplaysShare pool h) cast unit lists (k + 1))
        → ((i == who.place) ≡ true) ⊎ ((i == who.place) ≡ false) → ⊥
    by_place who (inl e') =
        let is : i ≡ who.place = eqb-true i who.place e' in
        let some : 1 ≤ count_of (k + 1) (numbers_at i unit lists) = subst (λ (j : ℕ). 1 ≤ count_of (k + 1) (numbers_at j unit lists)) (sym is) who.some in
        omega (arith, none, some)
    by_place who (inr e') =
        let at : k + 1 - 1 ≡ k = omega arith in
        let mine : e.session ≡ x = ap (λ (y : ℕ). record { 0 = y }) same in
        let theirs : IsOwnSession who.before.session (numbers_at who.place unit lists) e.session =
        subst (λ (s : Option SessionId). IsOwnSession s (numbers_at who.place unit lists) e.session) (starting-same who.share who.before).session
        (own-entry pool h (k + 1) (starting who.share who.before) (numbers_at who.place unit lists) who.after e who.goes.turns who.some (ap (slice_get h) at ∙ there)) in
        sessions-apart cast first unit lists last i who.place before who.before x come split e' here who.here own (subst (IsOwnSession who.before.session (numbers_at who.place unit lists)) mine theirs)

    by_who : HasMember (ReplaysShare pool h) cast unit lists (k + 1) → ⊥
    by_who who = by_place who (cases_Bool (i == who.place))

pub rises-at : (pool : ℕ) (h : List Entry) (first last : ℕ) (ns : List ℕ) → Rise 0 ns (length h)
    → first ≤ last → ((b : ℕ) → 1 ≤ count_of b ns → (first < b) × (b ≤ last)) → Rise first ns last
rises-at pool h first last ns rise up inside = from-first first ns last (narrow 0 ns (length h) last rise (omega arith) (λ b some. (inside b some).1)) up (λ b some. (inside b some).0)

-- the users behind a unit
unit-sides : (pool : ℕ) (h : List Entry) (Q : Machine → Type 0) (cast : Cast) (first : ℕ) (unit : ScriptUnit) (lists : List (List ℕ)) (afters : List Machine) (last i : ℕ) (u : Machine)
    → AreApart unit → AllByRecursion IsPairedShare unit → AllByRecursion Q afters → EachShare (ReplaysShare pool h) cast unit lists afters → AreSplit first last lists
    → first ≤ last → last ≤ length h → ((n : ℕ) → n ≤ last → IsLegal pool (take n h)) → HaveCome first cast → HaveSides pool (standing_of pool (take first h)) cast
    → slice_get (with_afters unit afters cast.users) i ≡ Some u
    → SideOf pool (standing_of pool (take last h)) u.session None u.own ⊎ (KeepsSide pool (standing_of pool (take last h)) u × Q u)
unit-sides pool h Q cast first unit lists afters last i u apart paired qs each split up within legal come sides at = by_how m.how
  where
    m : Member (WithBoth pool h Q) cast unit lists i u
    m = member (WithBoth pool h Q) cast cast.users unit lists afters i u apart (with-both pool h Q cast unit lists afters paired qs each) refl at

    foreign : AreForeign h (numbers_at i unit lists) first last m.before.session
    foreign = foreign-at pool h cast first unit lists afters last i m.before apart each split come m.here

    inside : (b : ℕ) → 1 ≤ count_of b (numbers_at i unit lists) → (first < b) × (b ≤ last)
    inside b some = let few = few-one b i unit lists in split-in first last lists b split (omega (arith, few, some))

    by_how : ((numbers_at i unit lists ≡ []) × (u ≡ m.before)) ⊎ ((share : UnitShare) × WithBoth pool h Q share m.before (numbers_at i unit lists) u)
        → SideOf pool (standing_of pool (take last h)) u.session None u.own ⊎ (KeepsSide pool (standing_of pool (take last h)) u × Q u)
    by_how (inl none) = inl (subst (λ (v : Machine). SideOf pool (standing_of pool (take last h)) v.session None v.own) (sym none.1)
        (side-on pool h first last m.before.session None m.before.own up (legal last (omega arith))
        (λ x k e is low high there. foreign x k e (inl is) low high (ap (count_of (k + 1)) none.0) there) (sides i m.before m.here)))
    by_how (inr some) =
        let starts = rest-side pool (standing_of pool (take first h)) (record m.before { tasks = some.0.tasks m.before }) (some.0.tasks m.before) (sides i m.before m.here) (some.1.1.0 m.before) in
        inr (
          turns-side pool h first last (starting some.0 m.before) (numbers_at i unit lists) u legal within (rises-at pool h first last (numbers_at i unit lists) some.1.0.rise up inside) up
              (subst (AreForeign h (numbers_at i unit lists) first last) (sym (starting-same some.0 m.before).session) foreign) starts some.1.0.turns,
          some.1.1.1,
        )

pub or-second : (x y : Option Ask) → option_or x y ≡ None → y ≡ None
or-second None y e = e
or-second (Some a) y e = absurd cc

-- the users behind a unit owe nothing
unit-settled : (pool : ℕ) (h : List Entry) (cast : Cast) (first : ℕ) (unit : ScriptUnit) (lists : List (List ℕ)) (afters : List Machine) (last i : ℕ) (u : Machine)
    → AreApart unit → AllByRecursion IsPairedShare unit → AllByRecursion (NeedsNoCall pool (take last h)) afters → EachShare (ReplaysShare pool h) cast unit lists afters → AreSplit first last lists
    → first ≤ last → IsLegal pool (take last h) → HaveCome first cast → HaveSettled pool (standing_of pool (take first h)) cast
    → slice_get (with_afters unit afters cast.users) i ≡ Some u → owed_turns (standing_of pool (take last h)) u.session ≡ 0
unit-settled pool h cast first unit lists afters last i u apart paired ended each split up legal come settled at = by_how m.how
  where
    m : Member (WithBoth pool h (NeedsNoCall pool (take last h))) cast unit lists i u
    m = member (WithBoth pool h (NeedsNoCall pool (take last h))) cast cast.users unit lists afters i u apart (with-both pool h (NeedsNoCall pool (take last h)) cast unit lists afters paired ended each) refl at

    foreign : AreForeign h (numbers_at i unit lists) first last m.before.session
    foreign = foreign-at pool h cast first unit lists afters last i m.before apart each split come m.here

    by_how : ((numbers_at i unit lists ≡ []) × (u ≡ m.before)) ⊎ ((share : UnitShare) × WithBoth pool h (NeedsNoCall pool (take last h)) share m.before (numbers_at i unit lists) u)
        → owed_turns (standing_of pool (take last h)) u.session ≡ 0
    by_how (inl none) =
        ap (λ (v : Machine). owed_turns (standing_of pool (take last h)) v.session) none.1
        ∙ owed-on pool h first last m.before.session up legal (λ x k e is low high there. foreign x k e (inl is) low high (ap (count_of (k + 1)) none.0) there)
        ∙ settled i m.before m.here
    by_how (inr some) =
        settled-owes pool (take last h) legal u.session
        (or-first (option_and_then (settling_call (standing_of pool (take last h)).world) u.session) (call_of_tasks u u.tasks) some.1.1.1)

-- a user that needs no call has no port that is shut
keeps-ends : (pool : ℕ) (h : List Entry) (u : Machine) → NeedsNoCall pool h u
    → KeepsSide pool (standing_of pool h) u → SideOf pool (standing_of pool h) u.session None u.own
keeps-ends pool h u ended keeps = by_shut keeps.shut u.tasks none keeps.side keeps.order
  where
    none : call_of_tasks u u.tasks ≡ None
    none = or-second (option_and_then (settling_call (standing_of pool h).world) u.session) (call_of_tasks u u.tasks) ended

    by_shut : (shut : Option ℕ) (tasks : List Task) → call_of_tasks u tasks ≡ None
        → SideOf pool (standing_of pool h) u.session shut u.own
        → AreInOrder shut u.own tasks → SideOf pool (standing_of pool h) u.session None u.own
    by_shut None tasks e side order = side
    by_shut (Some id) (FinishPort name ∷ tasks) e side order =
        let call : call_of_task u (FinishPort name) ≡ Some (finish_call u.own order.0.0) = ap (option_map (finish_call u.own)) order.0.1 in
        let clash : None ≡ Some (finish_call u.own order.0.0) = sym e ∙ call in
        absurd cc
    by_shut (Some id) _ e side order = absurd order

-- Units one after another.

pub record SidesOn (pool : ℕ) (h : List Entry) (cast : Cast) (last : ℕ) : Type 0 where
  pub sides : HaveSides pool (standing_of pool (take last h)) cast
  pub settled : HaveSettled pool (standing_of pool (take last h)) cast
  pub come : HaveCome last cast

units-sides : (pool : ℕ) (h : List Entry) (cast : Cast) (first : ℕ) (units : List ScriptUnit) (next : Cast) (last : ℕ)
    → AllByRecursion AreApart units → AllByRecursion (AllByRecursion IsPairedShare) units → ((n : ℕ) → n ≤ length h → IsLegal pool (take n h)) → last ≤ length h
    → SidesOn pool h cast first → ReplaysUnits pool h cast first units next last → SidesOn pool h next last
units-sides pool h cast first [] next last apart paired legal within on r = subst (SidesOn pool h next) (sym r.1) (subst (λ (c : Cast). SidesOn pool h c first) (sym r.0) on)
units-sides pool h cast first (unit ∷ units) next last apart paired legal within on r =
    units-sides pool h r.0 number units next last apart.1 paired.1 legal within (subst (λ (c : Cast). SidesOn pool h c number) (sym one.others) (record {
      sides = λ i u at. by_user i u (unit-sides pool h (NeedsNoCall pool (take number h)) cast first unit one.lists one.afters number i u apart.0 paired.0 one.ended one.replays one.split one.forward one.within (λ n below. let up = one.within in legal n (omega (arith, below, up))) on.come on.sides at);
      settled = λ i u at. unit-settled pool h cast first unit one.lists one.afters number i u apart.0 paired.0 one.ended one.replays one.split one.forward (let up = one.within in legal number up) on.come on.settled at;
      come = come-next pool h cast first unit one.lists one.afters number apart.0 one.replays one.split one.forward on.come;
    })) r.1.1.1
  where
    number : ℕ
    number = r.1.0

    one : ReplaysUnit pool h cast first unit r.0 number
    one = r.1.1.0

    by_user : (i : ℕ) (u : Machine)
        → SideOf pool (standing_of pool (take number h)) u.session None u.own ⊎ (KeepsSide pool (standing_of pool (take number h)) u × NeedsNoCall pool (take number h) u)
        → SideOf pool (standing_of pool (take number h)) u.session None u.own
    by_user i u (inl side) = side
    by_user i u (inr both) = keeps-ends pool (take number h) u both.1 both.0

-- The units of a script.

block-paired : (records : List ℕ → List (List ℕ)) (lines : List Line) (ns : List ℕ)
    → AllByRecursion IsPairedShare (map (λ user. share_of records user (acts_of lines user)) ns)
block-paired records lines [] = tt
block-paired records lines (n ∷ ns) = (λ m. lines-paired records (acts_of lines n), block-paired records lines ns)

unit-paired : (records : List ℕ → List (List ℕ)) (count : ℕ) (unit : ReadUnit)
    → AllByRecursion IsPairedShare (shares_of records count unit)
unit-paired records count (parts.Single line) = (λ m. lines-paired records (line.act ∷ []), tt)
unit-paired records count (parts.Block lines) = block-paired records lines (filter (has_line lines) (range_with_len 1 count))

lines-paired_all : (records : List ℕ → List (List ℕ)) (count : ℕ) (units : List ReadUnit)
    → AllByRecursion (AllByRecursion IsPairedShare) (map (shares_of records count) units)
lines-paired_all records count [] = tt
lines-paired_all records count (unit ∷ units) = (unit-paired records count unit, lines-paired_all records count units)

closings-paired : (ns : List ℕ) → AllByRecursion (AllByRecursion IsPairedShare) (map closing_unit ns)
closings-paired [] = tt
closings-paired (n ∷ ns) = ((closing-paired, tt), closings-paired ns)

both-all : (P : ScriptUnit → Type 0) (xs ys : List ScriptUnit) → AllByRecursion P xs → AllByRecursion P ys
    → AllByRecursion P (xs ++ ys)
both-all P [] ys front back = back
both-all P (x ∷ xs) ys front back = (front.0, both-all P xs ys front.1 back)

pub units-paired : (program : Program) (captures : Captures)
    → AllByRecursion (AllByRecursion IsPairedShare) (units_of program captures)
units-paired program captures =
    both-all (AllByRecursion IsPairedShare) (map (shares_of (records_of program.files captures) (user_count program)) program.units) (map closing_unit (range_with_len 1 (user_count program)))
    (lines-paired_all (records_of program.files captures) (user_count program) program.units) (closings-paired (range_with_len 1 (user_count program)))

take-all : (P : ScriptUnit → Type 0) (count : ℕ) (units : List ScriptUnit) → AllByRecursion P units
    → AllByRecursion P (take count units)
take-all P zero units all = tt
take-all P (suc count) [] all = tt
take-all P (suc count) (unit ∷ units) all = (all.0, take-all P count units all.1)

pub all-at : (P : ScriptUnit → Type 0) (count : ℕ) (units : List ScriptUnit) (unit : ScriptUnit)
    → AllByRecursion P units → slice_get units count ≡ Some unit → P unit
all-at P count [] unit all at = absurd cc
all-at P zero (u ∷ units) unit all at = subst P (same_Some u unit at) all.0
all-at P (suc count) (u ∷ units) unit all at = all-at P count units unit all.1 at

-- at first no user has anything
new-own : (pool low count i : ℕ) (u : Machine)
    → slice_get (map (new_machine pool) (range_with_len low count)) i ≡ Some u
    → (u.session ≡ None) × (u.own ≡ empty_own pool)
new-own pool low zero i u at = absurd cc
new-own pool low (suc count) zero u at =
    let is : new_machine pool low ≡ u = same_Some (new_machine pool low) u at in
    (ap (λ (m : Machine). m.session) (sym is), ap (λ (m : Machine). m.own) (sym is))
new-own pool low (suc count) (suc i) u at = new-own pool (low + 1) count i u at

first-sides : (program : Program) (h : List Entry) → SidesOn program.pool h (cast_of program) 0
first-sides program h = record {
  sides = λ i u at.
      let new = new-own program.pool 1 (user_count program) i u at in
      subst (λ (x : Option SessionId). SideOf program.pool (standing_of program.pool (take 0 h)) x None u.own) (sym new.0) (new.1, refl);
  settled = λ i u at.
      let new = new-own program.pool 1 (user_count program) i u at in
      ap (owed_turns (standing_of program.pool (take 0 h))) new.0;
  come = first-come program;
}

-- What a user holds.

pub holds-by : (pool : ℕ) (s : Standing) (user : Machine) (session : Option SessionId) (shut : Option ℕ)
    → user.session ≡ session → SideOf pool s session shut user.own → HoldsItsOwn s user
holds-by pool s user None shut is side b =
    ap (λ (o : OwnState). times_in b (buffers_on o)) side.0
    ∙ ap (λ (x : Option SessionId). times_in b (option_map_or (λ (y : SessionId). buffers_of_session s.holdings.sessions y.0) x [])) (sym is)
holds-by pool s user (Some x) shut is side b =
    sym (side.of.buffers b) ∙ ap (λ (y : Option SessionId). times_in b (option_map_or (λ (z : SessionId). buffers_of_session s.holdings.sessions z.0) y [])) (sym is)

pub each-from : (P : Machine → Type 0) (users : List Machine)
    → ((i : ℕ) (u : Machine) → slice_get users i ≡ Some u → P u) → AllByRecursion P users
each-from P [] f = tt
each-from P (u ∷ users) f = (f 0 u refl, each-from P users (λ i v at. f (suc i) v at))

nothing-more : (users : List Machine) → AllByRecursion (λ (u : Machine). Unit {0}) users
nothing-more [] = tt
nothing-more (u ∷ users) = (tt, nothing-more users)

-- what each user of a history under way has on its side, with the port of it that is shut, and that
-- no session is that of two
pub record StandsOnSides (pool : ℕ) (h : List Entry) (cast : Cast) : Type 0 where
  pub sides : (i : ℕ) (u : Machine) → slice_get cast.users i ≡ Some u
      → (shut : Option ℕ) × SideOf pool (standing_of pool h) u.session shut u.own
  pub come : HaveCome (length h) cast

pub legal-at : (program : Program) (captures : Captures) (h : List Entry) (nows : Cast)
    → IsUnderWay program captures h nows → (n : ℕ) → n ≤ length h → IsLegal program.pool (take n h)
legal-at program captures h nows way n within =
    (legal-split program.pool (take n h) (drop n h) (subst (IsLegal program.pool) (sym (take-append-drop n h)) (played-legal program captures h nows way))).0

-- the users where the unit under way begins
pub reached-sides : (program : Program) (captures : Captures) (h : List Entry) (nows : Cast)
    → (r : Reaches program captures h nows) → SidesOn program.pool h r.cast r.first
reached-sides program captures h nows r =
    units-sides program.pool h (cast_of program) 0 (take r.count (units_of program captures)) r.cast r.first (take-apart r.count (units_of program captures) (units-apart program captures))
    (take-all (AllByRecursion IsPairedShare) r.count (units_of program captures) (units-paired program captures)) (legal-at program captures h nows (inr r)) r.forward (first-sides program h) r.units

pub users-sides : (program : Program) (captures : Captures) (h : List Entry) (nows : Cast)
    → IsUnderWay program captures h nows → StandsOnSides program.pool h nows
users-sides program captures h nows way = by_way way
  where
    legal : (n : ℕ) → n ≤ length h → IsLegal program.pool (take n h)
    legal = legal-at program captures h nows way

    whole : take (length h) h ≡ h
    whole = take_all (length h) h (omega arith)

    played : HasPlayed program captures h nows → StandsOnSides program.pool h nows
    played p =
        let on = units-sides program.pool h (cast_of program) 0 (units_of program captures) nows (length h) (units-apart program captures) (units-paired program captures) legal (omega arith) (first-sides program h) p.units in
        record { sides = λ i u at. (None, subst (λ (es : List Entry). SideOf program.pool (standing_of program.pool es) u.session None u.own) whole (on.sides i u at)); come = on.come }

    by_side : (u : Machine)
        → SideOf program.pool (standing_of program.pool (take (length h) h)) u.session None u.own ⊎ (KeepsSide program.pool (standing_of program.pool (take (length h) h)) u × Unit {0})
        → (shut : Option ℕ) × SideOf program.pool (standing_of program.pool h) u.session shut u.own
    by_side u (inl side) = (None, subst (λ (es : List Entry). SideOf program.pool (standing_of program.pool es) u.session None u.own) whole side)
    by_side u (inr both) =
        let keeps = both.0 in
        (keeps.shut, subst (λ (es : List Entry). SideOf program.pool (standing_of program.pool es) u.session keeps.shut u.own) whole keeps.side)

    reached : Reaches program captures h nows → StandsOnSides program.pool h nows
    reached r =
        let apart = apart-at r.count (units_of program captures) r.unit (units-apart program captures) r.there in
        let on = reached-sides program captures h nows r in
        record {
          sides = λ i u at. by_side u (unit-sides program.pool h (λ (m : Machine). Unit {0}) r.cast r.first r.unit r.lists r.afters (length h) i u apart
              (all-at (AllByRecursion IsPairedShare) r.count (units_of program captures) r.unit (units-paired program captures) r.there) (nothing-more r.afters) r.replays r.split r.forward (omega arith) legal on.come on.sides
              (ap (λ (c : Cast). slice_get c.users i) (sym r.nows_are) ∙ at));
          come = subst (HaveCome (length h)) (sym r.nows_are) (come-next program.pool h r.cast r.first r.unit r.lists r.afters (length h) apart r.replays r.split r.forward on.come);
        }

    by_way : HasPlayed program captures h nows ⊎ Reaches program captures h nows
        → StandsOnSides program.pool h nows
    by_way (inl p) = played p
    by_way (inr r) = reached r

pub users-hold : UsersHoldTheirOwn
users-hold program captures h nows way =
    let stands = users-sides program captures h nows way in
    each-from (HoldsItsOwn (standing_of program.pool h)) nows.users
    (λ i u at. let side = stands.sides i u at in holds-by program.pool (standing_of program.pool h) u u.session side.0 refl side.1)
