-- Units that users play each by entries of its own are replayed, where these are all entries.
use Rattle.std.proofs.Common.{Bool, true, false, cond, ℕ, zero, suc, ◌+◌, ◌-◌, ◌<◌, ◌≤◌, ◌≡◌, ◌⊎◌, inl, inr, List, [], ◌∷◌, ◌++◌, length, map, filter, take, drop, Option, Some, None, slice_get, refl, sym, ◌∙◌, ap, subst, arith, take-append-drop}
use Rattle.std.specs.Prelude.{◌==◌, ◌&&◌, nat_lt, nat_le, option_and_then}
use Rattle.std.specs.Option.{option_or}
use Rattle.std.specs.List.{range_with_len, AllByRecursion}
use Rattle.std.proofs.lemmas.Bool.{eqb-true, eq-eqb, ne_eqb, cases_Bool, cases_lt, lt-ltb, le-ltb, le-leb, lt-leb}
use Rattle.std.proofs.lemmas.List.{take-take}
use Rattle.std.proofs.lemmas.List.Elements.{All-from_recursion}
use Rattle.std.proofs.lemmas.Option.{same_Some}
use Rattle.nm_types.specs.declared.id.SessionId.{SessionId}
use Rattle.vale_entry.specs.declared.entry.Ask.{Ask}
use Rattle.vale_entry.specs.declared.entry.Entry.{Entry}
use Rattle.vale_entry.specs.Laws.{Rise}
use Rattle.vale_entry.specs.Legal.{standing_of, IsLegal}
use Rattle.vale_entry.proofs.Counting.{count_of, count_of-cons}
use Rattle.vale_own.specs.Laws.{IsOfOther}
use Rattle.vale_script.specs.declared.script.Line.{Line}
use Rattle.vale_script.specs.declared.script.Unit.{Unit as ReadUnit}
use Rattle.vale_script.specs.declared.script.Unit.TheVariants as parts
use Rattle.vale_script.specs.Script.{Program}
use Rattle.vale_replay.specs.Tasks.{Captures, records_of}
use Rattle.vale_replay.specs.Machine.{Machine, new_machine, settling_call, call_of_tasks}
use Rattle.vale_replay.specs.Replay.{Cast, UnitShare, ScriptUnit, EachShare, PlaysUser, ReplaysShare, AreSplit, NeedsNoCall, ReplaysUnit, ReplaysUnits, acts_of, cast_after, cast_of, closing_unit, has_line, last_behind, share_of, shares_of, starting, times_among, units_of, user_count, with_afters}
use Rattle.vale_replay.specs.Joined.{PlaysShare, IsWithin, TurnsOfUnit, TurnsOfUnits, lists_in, JoinsUsers}
use Rattle.vale_replay.proofs.Numbers.{rise-cut, rise-past, rise-wider, range-rises}
use Rattle.vale_replay.proofs.Legal.{FollowsAt, shares-follow, legal-to}
use Rattle.vale_replay.proofs.Others.{settling-same}
use Rattle.vale_replay.proofs.Sessions.{IsOwnSession, starting-same, own-after, own-entry, number-after}
use Rattle.vale_replay.proofs.Members.{AreApart, Member, HasMember, numbers_at, member, has-member, few-one, few-two, among-cons, each-weaker, all-afters, have-same, rise-apart}

-- Numbers that are split.

pub split-in : (first last : ℕ) (lists : List (List ℕ)) (b : ℕ) → AreSplit first last lists
    → 1 ≤ times_among b lists → (first < b) × (b ≤ last)
split-in first last lists b split some = by_low (cases_lt first b)
  where
    by_high : first < b → (last < b) ⊎ (b ≤ last) → (first < b) × (b ≤ last)
    by_high up (inl past) =
        let one : nat_lt first b ≡ true = lt-ltb first b up in
        let none : nat_le b last ≡ false = lt-leb b last past in
        let is : times_among b lists ≡ 0 = split b ∙ ap (λ (x : Bool). cond (x && nat_le b last) 1 0) one ∙ ap (λ (x : Bool). cond x 1 0) none in
        absurd (omega (arith, is, some))
    by_high up (inr down) = (up, down)

    by_low : (first < b) ⊎ (b ≤ first) → (first < b) × (b ≤ last)
    by_low (inl up) = by_high up (cases_lt last b)
    by_low (inr less) =
        let none : nat_lt first b ≡ false = le-ltb first b less in
        let is : times_among b lists ≡ 0 = split b ∙ ap (λ (x : Bool). cond (x && nat_le b last) 1 0) none in
        absurd (omega (arith, is, some))

pub split-has : (first last : ℕ) (lists : List (List ℕ)) (b : ℕ) → AreSplit first last lists
    → first < b → b ≤ last → times_among b lists ≡ 1
split-has first last lists b split up down =
    let one : nat_lt first b ≡ true = lt-ltb first b up in
    let two : nat_le b last ≡ true = le-leb b last down in
    split b ∙ ap (λ (x : Bool). cond (x && nat_le b last) 1 0) one ∙ ap (λ (x : Bool). cond x 1 0) two

pub split-below : (first last : ℕ) (lists : List (List ℕ)) (b : ℕ) → AreSplit first last lists
    → b ≤ first → times_among b lists ≡ 0
split-below first last lists b split less =
    let none : nat_lt first b ≡ false = le-ltb first b less in
    split b ∙ ap (λ (x : Bool). cond (x && nat_le b last) 1 0) none

one-most : (b : Bool) → cond b 1 0 ≤ 1
one-most true = omega arith
one-most false = omega arith

pub split-most : (first last : ℕ) (lists : List (List ℕ)) (b : ℕ) → AreSplit first last lists
    → times_among b lists ≤ 1
split-most first last lists b split = let is = split b in let most = one-most (nat_lt first b && nat_le b last) in omega (arith, is, most)

-- numbers that stand once in a range, and nowhere else, are split
pub split-from : (first last : ℕ) (lists : List (List ℕ))
    → ((b : ℕ) → first < b → b ≤ last → times_among b lists ≡ 1)
    → ((b : ℕ) → b ≤ first → times_among b lists ≡ 0)
    → ((b : ℕ) → last < b → times_among b lists ≡ 0) → AreSplit first last lists
split-from first last lists once below above b = by_low (cases_lt first b)
  where
    by_high : first < b → (last < b) ⊎ (b ≤ last)
        → times_among b lists ≡ cond (nat_lt first b && nat_le b last) 1 0
    by_high up (inl past) =
        let one : nat_lt first b ≡ true = lt-ltb first b up in
        let none : nat_le b last ≡ false = lt-leb b last past in
        rw (one, none) (above b past)
    by_high up (inr down) =
        let one : nat_lt first b ≡ true = lt-ltb first b up in
        let two : nat_le b last ≡ true = le-leb b last down in
        rw (one, two) (once b up down)

    by_low : (first < b) ⊎ (b ≤ first)
        → times_among b lists ≡ cond (nat_lt first b && nat_le b last) 1 0
    by_low (inl up) = by_high up (cases_lt last b)
    by_low (inr less) =
        let none : nat_lt first b ≡ false = le-ltb first b less in
        rw none (below b less)

-- The users between units: their sessions have begun, and are different ones.

pub record HaveCome (first : ℕ) (cast : Cast) : Type 0 where
  pub begun : (i : ℕ) (u : Machine) (x : SessionId) → slice_get cast.users i ≡ Some u
      → u.session ≡ Some x → x.0 ≤ first
  pub one : (i j : ℕ) (u v : Machine) (x : SessionId) → slice_get cast.users i ≡ Some u
      → slice_get cast.users j ≡ Some v → u.session ≡ Some x → v.session ≡ Some x → i ≡ j
  pub numbers : (i : ℕ) (u : Machine) → slice_get cast.users i ≡ Some u → u.number ≡ i + 1

-- so no session is that of two cast, by what they had before a unit and the numbers that they
-- have in it
pub sessions-apart : (cast : Cast) (first : ℕ) (unit : ScriptUnit) (lists : List (List ℕ)) (last i j : ℕ) (u v : Machine) (x : SessionId)
    → HaveCome first cast → AreSplit first last lists → (i == j) ≡ false
    → slice_get cast.users i ≡ Some u → slice_get cast.users j ≡ Some v → IsOwnSession u.session (numbers_at i unit lists) x → IsOwnSession v.session (numbers_at j unit lists) x → ⊥
sessions-apart cast first unit lists last i j u v x come split e at at' (inl one) (inl two) =
    let same : (i == j) ≡ true = eq-eqb i j (come.one i j u v x at at' one two) in
    let clash : true ≡ false = sym same ∙ e in
    absurd cc
sessions-apart cast first unit lists last i j u v x come split e at at' (inl one) (inr two) =
    let low = come.begun i u x at one in
    let few = few-one x.0 j unit lists in
    let in' = (split-in first last lists x.0 split (omega (arith, few, two))).0 in
    absurd (omega (arith, low, in'))
sessions-apart cast first unit lists last i j u v x come split e at at' (inr one) (inl two) =
    let low = come.begun j v x at' two in
    let few = few-one x.0 i unit lists in
    let in' = (split-in first last lists x.0 split (omega (arith, few, one))).0 in
    absurd (omega (arith, low, in'))
sessions-apart cast first unit lists last i j u v x come split e at at' (inr one) (inr two) =
    let few = few-two x.0 i j unit lists e in
    let most = split-most first last lists x.0 split in
    absurd (omega (arith, few, most, one, two))

-- the session of a user behind the unit is one of its own
member-session : (pool : ℕ) (h : List Entry) (cast : Cast) (unit : ScriptUnit) (lists : List (List ℕ)) (i : ℕ) (u : Machine) (x : SessionId) (m : Member (ReplaysShare pool h) cast unit lists i u)
    → u.session ≡ Some x → IsOwnSession m.before.session (numbers_at i unit lists) x
member-session pool h cast unit lists i u x m is = by_how m.how
  where
    by_how : ((numbers_at i unit lists ≡ []) × (u ≡ m.before)) ⊎ ((share : UnitShare) × ReplaysShare pool h share m.before (numbers_at i unit lists) u)
        → IsOwnSession m.before.session (numbers_at i unit lists) x
    by_how (inl none) = inl (ap (λ (n : Machine). n.session) (sym none.1) ∙ is)
    by_how (inr some) =
        subst (λ (s : Option SessionId). IsOwnSession s (numbers_at i unit lists) x) (starting-same some.0 m.before).session
        (own-after pool h (starting some.0 m.before) (numbers_at i unit lists) u x some.1.turns is)

pub come-next : (pool : ℕ) (h : List Entry) (cast : Cast) (first : ℕ) (unit : ScriptUnit) (lists : List (List ℕ)) (afters : List Machine) (last : ℕ)
    → AreApart unit → EachShare (ReplaysShare pool h) cast unit lists afters
    → AreSplit first last lists → first ≤ last → HaveCome first cast → HaveCome last (cast_after unit afters cast)
come-next pool h cast first unit lists afters last apart each split up come = record {
  begun = begun;
  one = λ i j u v x at at' is is'. by_place i j u v x at at' is is' (cases_Bool (i == j));
  numbers = λ i u at. number i u (at-place i u at);
}
  where
    at-place : (i : ℕ) (u : Machine) → slice_get (with_afters unit afters cast.users) i ≡ Some u
        → Member (ReplaysShare pool h) cast unit lists i u
    at-place i u at = member (ReplaysShare pool h) cast cast.users unit lists afters i u apart each refl at

    low : (i : ℕ) (u : Machine) (x : SessionId) (m : Member (ReplaysShare pool h) cast unit lists i u)
        → IsOwnSession m.before.session (numbers_at i unit lists) x → x.0 ≤ last
    low i u x m (inl is) = let least = come.begun i m.before x m.here is in omega (arith, least, up)
    low i u x m (inr some) =
        let few = few-one x.0 i unit lists in
        (split-in first last lists x.0 split (omega (arith, few, some))).1

    begun : (i : ℕ) (u : Machine) (x : SessionId)
        → slice_get (with_afters unit afters cast.users) i ≡ Some u → u.session ≡ Some x → x.0 ≤ last
    begun i u x at is =
        let m = at-place i u at in
        low i u x m (member-session pool h cast unit lists i u x m is)

    by_place : (i j : ℕ) (u v : Machine) (x : SessionId)
        → slice_get (with_afters unit afters cast.users) i ≡ Some u → slice_get (with_afters unit afters cast.users) j ≡ Some v
        → u.session ≡ Some x → v.session ≡ Some x → ((i == j) ≡ true) ⊎ ((i == j) ≡ false) → i ≡ j
    by_place i j u v x at at' is is' (inl e) = eqb-true i j e
    by_place i j u v x at at' is is' (inr e) =
        let m = at-place i u at in
        let n = at-place j v at' in
        absurd (sessions-apart cast first unit lists last i j m.before n.before x come split e m.here n.here
        (member-session pool h cast unit lists i u x m is) (member-session pool h cast unit lists j v x n is'))

    number : (i : ℕ) (u : Machine) → Member (ReplaysShare pool h) cast unit lists i u
        → u.number ≡ i + 1
    number i u m = by_how m.how
      where
        by_how : ((numbers_at i unit lists ≡ []) × (u ≡ m.before)) ⊎ ((share : UnitShare) × ReplaysShare pool h share m.before (numbers_at i unit lists) u)
            → u.number ≡ i + 1
        by_how (inl none) = ap (λ (n : Machine). n.number) none.1 ∙ come.numbers i m.before m.here
        by_how (inr some) =
            number-after pool h (starting some.0 m.before) (numbers_at i unit lists) u some.1.turns
            ∙ (starting-same some.0 m.before).number ∙ come.numbers i m.before m.here

-- What a user owes.

-- nothing that the user was offered or leased is left to do
abbrev pub OwesNothing : ℕ → List Entry → Option SessionId → Type 0
OwesNothing pool h session = option_and_then (settling_call (standing_of pool h).world) session ≡ None

pub or-first : (x y : Option Ask) → option_or x y ≡ None → x ≡ None
or-first None y e = refl
or-first (Some a) y e = absurd cc

pub needs-owes : (pool : ℕ) (h : List Entry) (user : Machine) → NeedsNoCall pool h user
    → OwesNothing pool h user.session
needs-owes pool h user e = or-first (option_and_then (settling_call (standing_of pool h).world) user.session) (call_of_tasks user user.tasks) e

pub owes-needs : (pool : ℕ) (h : List Entry) (user : Machine) → user.tasks ≡ []
    → OwesNothing pool h user.session → NeedsNoCall pool h user
owes-needs pool h user none owes =
    ap (λ (ask : Option Ask). option_or ask (call_of_tasks user user.tasks)) owes ∙ ap (call_of_tasks user) none

pub others-from : (session from last : ℕ) (h : List Entry)
    → ((at : ℕ) (e : Entry) → from ≤ at → at < last → slice_get h at ≡ Some e → IsOfOther session e)
    → AllByRecursion (IsOfOther session) (drop from (take last h))
others-from session from zero h others = none from
  where
    none : (n : ℕ) → AllByRecursion (IsOfOther session) (drop n [])
    none zero = tt
    none (suc n) = tt
others-from session zero (suc last) [] others = tt
others-from session (suc from) (suc last) [] others = tt
others-from session zero (suc last) (e ∷ h) others = (
  others 0 e (omega arith) (omega arith) refl,
  others-from session 0 last h (λ at x low high there. others (suc at) x (omega arith) (omega (arith, high)) there),
)
others-from session (suc from) (suc last) (e ∷ h) others =
    others-from session from last h (λ at x low high there. others (suc at) x (omega (arith, low)) (omega (arith, high)) there)

-- entries of others leave what a user owes
pub settles-same : (pool : ℕ) (h : List Entry) (from last : ℕ) (x : SessionId) → from ≤ last
    → IsLegal pool (take last h)
    → ((at : ℕ) (e : Entry) → from ≤ at → at < last → slice_get h at ≡ Some e → IsOfOther x.0 e)
    → settling_call (standing_of pool (take last h)).world x ≡ settling_call (standing_of pool (take from h)).world x
settles-same pool h from last x up legal others =
    let cut : take from (take last h) ≡ take from h = take-take from last h up in
    let whole : take from h ++ drop from (take last h) ≡ take last h = ap (λ (es : List Entry). es ++ drop from (take last h)) (sym cut) ∙ take-append-drop from (take last h) in
    let all = All-from_recursion (IsOfOther x.0) (drop from (take last h)) (others-from x.0 from last h others) in
    ap (λ (es : List Entry). settling_call (standing_of pool es).world x) (sym whole)
    ∙ settling-same pool (take from h) (drop from (take last h)) x (subst (IsLegal pool) (sym whole) legal) all

-- where a user owed nothing last, in the unit: behind its last entry, or before the unit
record OwedNothing (pool : ℕ) (h : List Entry) (first last : ℕ) (numbers : List ℕ) (session : Option SessionId) : Type 0 where
  from : ℕ
  low : first ≤ from
  high : from ≤ last
  owes : OwesNothing pool (take from h) session
  none : (b : ℕ) → from < b → count_of b numbers ≡ 0

pub last-counted : (n : ℕ) (ns : List ℕ) → 1 ≤ count_of (last_behind n ns) (n ∷ ns)
last-counted n [] =
    let hit : (n == n) ≡ true = eq-eqb n n refl in
    let front : count_of n (n ∷ []) ≡ cond (n == n) 1 0 + 0 = count_of-cons n n [] in
    let one : count_of n (n ∷ []) ≡ 1 = front ∙ ap (λ (b : Bool). cond b 1 0 + 0) hit in
    omega (arith, one)
last-counted n (m ∷ ns) =
    let rest = last-counted m ns in
    let front = count_of-cons (last_behind m ns) n (m ∷ ns) in
    omega (arith, front, rest)

played-owed : (pool : ℕ) (h : List Entry) (first last : ℕ) (before : Machine) (ns : List ℕ) (after : Machine)
    → ((b : ℕ) → 1 ≤ count_of b ns → (first < b) × (b ≤ last)) → first ≤ last
    → OwesNothing pool (take first h) before.session → PlaysUser pool h before ns after → OwedNothing pool h first last ns after.session
played-owed pool h first last before [] after inside up owes plays = record {
  from = first;
  low = omega arith;
  high = up;
  owes = ap (λ (m : Machine). option_and_then (settling_call (standing_of pool (take first h)).world) m.session) plays.replays.turns ∙ owes;
  none = λ b past. refl;
}
played-owed pool h first last before (n ∷ ns) after inside up owes plays =
    let in' = inside (last_behind n ns) (last-counted n ns) in
    let low = in'.0 in
    record {
      from = last_behind n ns;
      low = omega (arith, low);
      high = in'.1;
      owes = needs-owes pool (take (last_behind n ns) h) after plays.ended;
      none = λ b past. rise-past 0 (n ∷ ns) (last_behind n ns) b (rise-cut 0 (n ∷ ns) (length h) (last_behind n ns) plays.replays.rise (omega arith)) past;
    }

-- each of the users owes nothing
abbrev pub AllOweNothing : ℕ → List Entry → Cast → Type 0
AllOweNothing pool h cast = (i : ℕ) (u : Machine) → slice_get cast.users i ≡ Some u → OwesNothing pool h u.session

pub replays-share : (pool : ℕ) (h : List Entry) (share : UnitShare) (before : Machine) (ns : List ℕ) (after : Machine)
    → PlaysShare pool h share before ns after → ReplaysShare pool h share before ns after
replays-share pool h share before ns after plays = plays.replays

member-owed : (pool : ℕ) (h : List Entry) (cast : Cast) (first : ℕ) (unit : ScriptUnit) (lists : List (List ℕ)) (last i : ℕ) (u : Machine)
    → AreSplit first last lists → first ≤ last → AllOweNothing pool (take first h) cast
    → Member (PlaysShare pool h) cast unit lists i u → OwedNothing pool h first last (numbers_at i unit lists) u.session
member-owed pool h cast first unit lists last i u split up owes m = by_how m.how
  where
    inside : (b : ℕ) → 1 ≤ count_of b (numbers_at i unit lists) → (first < b) × (b ≤ last)
    inside b some = let few = few-one b i unit lists in split-in first last lists b split (omega (arith, few, some))

    by_how : ((numbers_at i unit lists ≡ []) × (u ≡ m.before)) ⊎ ((share : UnitShare) × PlaysShare pool h share m.before (numbers_at i unit lists) u)
        → OwedNothing pool h first last (numbers_at i unit lists) u.session
    by_how (inl none) = record {
      from = first;
      low = omega arith;
      high = up;
      owes = ap (λ (n : Machine). option_and_then (settling_call (standing_of pool (take first h)).world) n.session) none.1 ∙ owes i m.before m.here;
      none = λ b past. ap (count_of b) none.0;
    }
    by_how (inr some) =
        played-owed pool h first last (starting some.0 m.before) (numbers_at i unit lists) u inside up
        (ap (option_and_then (settling_call (standing_of pool (take first h)).world)) (starting-same some.0 m.before).session ∙ owes i m.before m.here) some.1

-- a user that owed nothing before a unit owes nothing behind it
owes-next : (pool : ℕ) (h : List Entry) (cast : Cast) (first : ℕ) (unit : ScriptUnit) (lists : List (List ℕ)) (afters : List Machine) (last : ℕ)
    → AreApart unit → EachShare (PlaysShare pool h) cast unit lists afters → AreSplit first last lists → first ≤ last
    → HaveCome first cast → IsLegal pool (take last h) → AllOweNothing pool (take first h) cast → AllOweNothing pool (take last h) (cast_after unit afters cast)
owes-next pool h cast first unit lists afters last apart each split up come legal owes i u at = by_session u.session refl
  where
    m : Member (PlaysShare pool h) cast unit lists i u
    m = member (PlaysShare pool h) cast cast.users unit lists afters i u apart each refl at

    weak : EachShare (ReplaysShare pool h) cast unit lists afters
    weak = each-weaker (PlaysShare pool h) (ReplaysShare pool h) cast unit lists afters (replays-share pool h) each

    n : Member (ReplaysShare pool h) cast unit lists i u
    n = member (ReplaysShare pool h) cast cast.users unit lists afters i u apart weak refl at

    owed : OwedNothing pool h first last (numbers_at i unit lists) u.session
    owed = member-owed pool h cast first unit lists last i u split up owes m

    apart-from : (x : SessionId) (k : ℕ) (e : Entry) → u.session ≡ Some x → owed.from ≤ k → k < last
        → slice_get h k ≡ Some e
        → HasMember (ReplaysShare pool h) cast unit lists (k + 1) → e.session.0 ≡ x.0 → ⊥
    apart-from x k e is low high there who same = by_place (cases_Bool (i == who.place))
      where
        by_place : ((i == who.place) ≡ true) ⊎ ((i == who.place) ≡ false) → ⊥
        by_place (inl here) =
            let is' : i ≡ who.place = eqb-true i who.place here in
            let none : count_of (k + 1) (numbers_at i unit lists) ≡ 0 = owed.none (k + 1) (omega (arith, low)) in
            let some : 1 ≤ count_of (k + 1) (numbers_at i unit lists) = subst (λ (j : ℕ). 1 ≤ count_of (k + 1) (numbers_at j unit lists)) (sym is') who.some in
            omega (arith, none, some)
        by_place (inr other) =
            let at' : k + 1 - 1 ≡ k = omega arith in
            let mine : e.session ≡ x = ap (λ (y : ℕ). record { 0 = y }) same in
            let own : IsOwnSession who.before.session (numbers_at who.place unit lists) e.session =
            subst (λ (s : Option SessionId). IsOwnSession s (numbers_at who.place unit lists) e.session) (starting-same who.share who.before).session
            (own-entry pool h (k + 1) (starting who.share who.before) (numbers_at who.place unit lists) who.after e who.goes.turns who.some (ap (slice_get h) at' ∙ there)) in
            sessions-apart cast first unit lists last i who.place n.before who.before x come split other n.here who.here
            (member-session pool h cast unit lists i u x n is) (subst (IsOwnSession who.before.session (numbers_at who.place unit lists)) mine own)

    by_session : (s : Option SessionId) → u.session ≡ s
        → OwesNothing pool (take last h) u.session
    by_session None is = ap (option_and_then (settling_call (standing_of pool (take last h)).world)) is
    by_session (Some x) is =
        ap (option_and_then (settling_call (standing_of pool (take last h)).world)) is
        ∙ settles-same pool h owed.from last x owed.high legal
        (λ k e low high there same.
        let first_low = owed.low in
        let once : times_among (k + 1) lists ≡ 1 = split-has first last lists (k + 1) split (omega (arith, first_low, low)) (omega (arith, high)) in
        apart-from x k e is low high there (has-member (ReplaysShare pool h) cast unit lists afters (k + 1) apart weak (omega (arith, once))) same)
        ∙ (ap (option_and_then (settling_call (standing_of pool (take owed.from h)).world)) (sym is) ∙ owed.owes)

-- Units.

-- a unit whose numbers are all of its range
joined-unit : (pool : ℕ) (h : List Entry) (cast : Cast) (first : ℕ) (unit : ScriptUnit) (lists : List (List ℕ)) (next : Cast) (last : ℕ)
    → AreApart unit → AreSplit first last lists → last ≤ length h → HaveCome first cast
    → IsLegal pool (take last h) → AllOweNothing pool (take first h) cast → TurnsOfUnit pool h cast first unit lists next last → ReplaysUnit pool h cast first unit next last
joined-unit pool h cast first unit lists next last apart split within come legal owes turns = record {
  lists = lists;
  afters = turns.afters;
  forward = turns.forward;
  within = within;
  split = split;
  replays = each-weaker (PlaysShare pool h) (ReplaysShare pool h) cast unit lists turns.afters (replays-share pool h) turns.plays;
  ended = all-afters (PlaysShare pool h) (λ (u : Machine). OwesNothing pool (take last h) u.session) (NeedsNoCall pool (take last h)) cast cast.users unit lists turns.afters apart turns.plays
      (λ share before ns after plays owed. owes-needs pool (take last h) after plays.no_task owed) (have-same cast.users unit)
      (owes-next pool h cast first unit lists turns.afters last apart turns.plays split turns.forward come legal owes);
  others = turns.others;
}

pub units-forward : (pool : ℕ) (h : List Entry) (cast : Cast) (first : ℕ) (units : List ScriptUnit) (lists : List (List (List ℕ))) (next : Cast) (last : ℕ)
    → TurnsOfUnits pool h cast first units lists next last → first ≤ last
units-forward pool h cast first [] [] next last turns = let is : last ≡ first = turns.1 in omega (arith, is)
units-forward pool h cast first (unit ∷ units) (lists ∷ more) next last turns =
    let up = turns.1.1.0.forward in
    let rest = units-forward pool h turns.0 turns.1.0 units more next last turns.1.1.1 in
    omega (arith, up, rest)
units-forward pool h cast first [] (lists ∷ more) next last turns = absurd turns
units-forward pool h cast first (unit ∷ units) [] next last turns = absurd turns

-- no number outside the range of units stands in their lists
abbrev pub IsOutside : ℕ → ℕ → ℕ → Type 0
IsOutside first last b = (b ≤ first) ⊎ (last < b)

outside-list : (first last b : ℕ) (ns : List ℕ) → IsOutside first last b
    → AllByRecursion (IsWithin first last) ns → count_of b ns ≡ 0
outside-list first last b [] out inside = refl
outside-list first last b (n ∷ ns) out inside =
    let rest = outside-list first last b ns out inside.1 in
    let front : count_of b (n ∷ ns) ≡ cond (n == b) 1 0 + count_of b ns = count_of-cons b n ns in
    let miss : (n == b) ≡ false = ne_eqb n b (λ e. by_out out inside.0 e) in
    let here : count_of b (n ∷ ns) ≡ 0 + count_of b ns = front ∙ ap (λ (x : Bool). cond x 1 0 + count_of b ns) miss in
    omega (arith, here, rest)
  where
    by_out : IsOutside first last b → IsWithin first last n → n ≡ b → ⊥
    by_out (inl below) in' e = let up = in'.0 in omega (arith, below, up, e)
    by_out (inr past) in' e = let down = in'.1 in omega (arith, past, down, e)

pub outside-lists : (first last b : ℕ) (lists : List (List ℕ)) → IsOutside first last b
    → AllByRecursion (AllByRecursion (IsWithin first last)) lists → times_among b lists ≡ 0
outside-lists first last b [] out inside = refl
outside-lists first last b (ns ∷ lists) out inside =
    let one = outside-list first last b ns out inside.0 in
    let rest = outside-lists first last b lists out inside.1 in
    let all = among-cons b ns lists in
    omega (arith, one, rest, all)

pub among-append : (b : ℕ) (lists more : List (List ℕ))
    → times_among b (lists ++ more) ≡ times_among b lists + times_among b more
among-append b [] more = omega arith
among-append b (ns ∷ lists) more =
    let one = among-cons b ns (lists ++ more) in
    let two = among-cons b ns lists in
    let rest = among-append b lists more in
    omega (arith, one, two, rest)

pub outside-units : (pool : ℕ) (h : List Entry) (cast : Cast) (first : ℕ) (units : List ScriptUnit) (lists : List (List (List ℕ))) (next : Cast) (last b : ℕ)
    → TurnsOfUnits pool h cast first units lists next last → IsOutside first last b
    → times_among b (lists_in lists) ≡ 0
outside-units pool h cast first [] [] next last b turns out = refl
outside-units pool h cast first (unit ∷ units) (lists ∷ more) next last b turns out =
    let all = among-append b lists (lists_in more) in
    let one = outside-lists first turns.1.0 b lists (front out) turns.1.1.0.inside in
    let rest = outside-units pool h turns.0 turns.1.0 units more next last b turns.1.1.1 (back out) in
    omega (arith, all, one, rest)
  where
    front : IsOutside first last b → IsOutside first turns.1.0 b
    front (inl below) = inl below
    front (inr past) = let up = units-forward pool h turns.0 turns.1.0 units more next last turns.1.1.1 in inr (omega (arith, past, up))

    back : IsOutside first last b → IsOutside turns.1.0 last b
    back (inl below) = let up = turns.1.1.0.forward in inl (omega (arith, below, up))
    back (inr past) = inr past
outside-units pool h cast first [] (lists ∷ more) next last b turns out = absurd turns
outside-units pool h cast first (unit ∷ units) [] next last b turns out = absurd turns

-- units whose numbers are all of their range, and the cast behind them
pub record Joined (pool : ℕ) (h : List Entry) (cast : Cast) (first : ℕ) (units : List ScriptUnit) (next : Cast) (last : ℕ) : Type 0 where
  pub replays : ReplaysUnits pool h cast first units next last
  pub come : HaveCome last next
  pub owes : AllOweNothing pool (take last h) next

pub joined-units : (pool : ℕ) (h : List Entry) (cast : Cast) (first : ℕ) (units : List ScriptUnit) (lists : List (List (List ℕ))) (next : Cast) (last : ℕ)
    → AllByRecursion AreApart units → ((n : ℕ) → n ≤ last → IsLegal pool (take n h))
    → last ≤ length h → ((b : ℕ) → first < b → b ≤ last → times_among b (lists_in lists) ≡ 1)
    → HaveCome first cast → AllOweNothing pool (take first h) cast
    → TurnsOfUnits pool h cast first units lists next last → Joined pool h cast first units next last
joined-units pool h cast first [] [] next last apart legal within once come owes turns = record {
  replays = turns;
  come = subst (λ (n : ℕ). HaveCome n next) (sym turns.1) (subst (HaveCome first) (sym turns.0) come);
  owes = subst (λ (n : ℕ). AllOweNothing pool (take n h) next) (sym turns.1) (subst (AllOweNothing pool (take first h)) (sym turns.0) owes);
}
joined-units pool h cast first (unit ∷ units) (lists ∷ more) next last apart legal within once come owes turns =
    let rest = joined-units pool h turns.0 number units more next last apart.1 legal within later come_on owes' turns.1.1.1 in
    record { replays = (turns.0, (number, (replays, rest.replays))); come = rest.come; owes = rest.owes }
  where
    number : ℕ
    number = turns.1.0

    turn : TurnsOfUnit pool h cast first unit lists turns.0 number
    turn = turns.1.1.0

    up : number ≤ last
    up = units-forward pool h turns.0 number units more next last turns.1.1.1

    all : (b : ℕ) → times_among b (lists_in (lists ∷ more)) ≡ times_among b lists + times_among b (lists_in more)
    all b = among-append b lists (lists_in more)

    later : (b : ℕ) → number < b → b ≤ last → times_among b (lists_in more) ≡ 1
    later b low high =
        let front = turn.forward in
        let one = once b (omega (arith, front, low)) high in
        let none = outside-lists first number b lists (inr low) turn.inside in
        let both = all b in
        omega (arith, one, none, both)

    here : (b : ℕ) → first < b → b ≤ number → times_among b lists ≡ 1
    here b low high =
        let one = once b low (omega (arith, high, up)) in
        let none = outside-units pool h turns.0 number units more next last b turns.1.1.1 (inl high) in
        let both = all b in
        omega (arith, one, none, both)

    split : AreSplit first number lists
    split = split-from first number lists here (λ b below. outside-lists first number b lists (inl below) turn.inside) (λ b past. outside-lists first number b lists (inr past) turn.inside)

    replays : ReplaysUnit pool h cast first unit turns.0 number
    replays = joined-unit pool h cast first unit lists turns.0 number apart.0 split (omega (arith, up, within)) come (legal number up) owes turn

    come_on : HaveCome number turns.0
    come_on = subst (HaveCome number) (sym turn.others) (come-next pool h cast first unit lists turn.afters number apart.0 (each-weaker (PlaysShare pool h) (ReplaysShare pool h) cast unit lists turn.afters (replays-share pool h) turn.plays) split turn.forward come)

    owes' : AllOweNothing pool (take number h) turns.0
    owes' = subst (AllOweNothing pool (take number h)) (sym turn.others) (owes-next pool h cast first unit lists turn.afters number apart.0 turn.plays split turn.forward come (legal number up) owes)
joined-units pool h cast first [] (lists ∷ more) next last apart legal within once come owes turns = absurd turns
joined-units pool h cast first (unit ∷ units) [] next last apart legal within once come owes turns = absurd turns

-- each entry that has a number in the lists follows what stands before it
pub units-turns-follow : (pool : ℕ) (h : List Entry) (cast : Cast) (first : ℕ) (units : List ScriptUnit) (lists : List (List (List ℕ))) (next : Cast) (last b : ℕ)
    → TurnsOfUnits pool h cast first units lists next last → 1 ≤ times_among b (lists_in lists)
    → FollowsAt pool h b
units-turns-follow pool h cast first [] [] next last b turns some = absurd (omega (arith, some))
units-turns-follow pool h cast first (unit ∷ units) (lists ∷ more) next last b turns some =
    by_here (cases_lt 0 (times_among b lists)) (units-turns-follow pool h turns.0 turns.1.0 units more next last b turns.1.1.1)
  where
    by_here : (0 < times_among b lists) ⊎ (times_among b lists ≤ 0)
        → (1 ≤ times_among b (lists_in more) → FollowsAt pool h b) → FollowsAt pool h b
    by_here (inl here) rest =
        let t = turns.1.1.0 in
        shares-follow pool h b cast unit lists t.afters (each-weaker (PlaysShare pool h) (ReplaysShare pool h) cast unit lists t.afters (replays-share pool h) t.plays) (omega (arith, here))
    by_here (inr none) rest =
        let all = among-append b lists (lists_in more) in
        rest (omega (arith, all, none, some))
units-turns-follow pool h cast first [] (lists ∷ more) next last b turns some = absurd turns
units-turns-follow pool h cast first (unit ∷ units) [] next last b turns some = absurd turns

-- The units of a script, and its cast at first.

rise-filter : (test : ℕ → Bool) (low : ℕ) (ns : List ℕ) (high : ℕ) → Rise low ns high
    → Rise low (filter test ns) high
rise-filter test low [] high rise = rise
rise-filter test low (n ∷ ns) high rise = by_test (test n) (rise-filter test n ns high rise.1)
  where
    by_test : (b : Bool) → Rise n (filter test ns) high
        → Rise low (cond b (n ∷ filter test ns) (filter test ns)) high
    by_test true rest = (rise.0, rest)
    by_test false rest = let up = rise.0 in rise-wider low n (filter test ns) high (omega (arith, up)) rest

block-users : (records : List ℕ → List (List ℕ)) (lines : List Line) (ns : List ℕ)
    → map (λ (share : UnitShare). share.user) (map (λ user. share_of records user (acts_of lines user)) ns) ≡ ns
block-users records lines [] = refl
block-users records lines (n ∷ ns) = ap (λ (ms : List ℕ). n ∷ ms) (block-users records lines ns)

unit-apart : (records : List ℕ → List (List ℕ)) (count : ℕ) (unit : ReadUnit)
    → AreApart (shares_of records count unit)
unit-apart records count (parts.Single line) = (tt, tt)
unit-apart records count (parts.Block lines) =
    let ns = filter (has_line lines) (range_with_len 1 count) in
    rise-apart 0 (map (λ user. share_of records user (acts_of lines user)) ns) (0 + count)
    (subst (λ (ms : List ℕ). Rise 0 ms (0 + count)) (sym (block-users records lines ns)) (rise-filter (has_line lines) 0 (range_with_len 1 count) (0 + count) (range-rises 0 count)))

lines-apart : (records : List ℕ → List (List ℕ)) (count : ℕ) (units : List ReadUnit)
    → AllByRecursion AreApart (map (shares_of records count) units)
lines-apart records count [] = tt
lines-apart records count (unit ∷ units) = (unit-apart records count unit, lines-apart records count units)

closings-apart : (ns : List ℕ) → AllByRecursion AreApart (map closing_unit ns)
closings-apart [] = tt
closings-apart (n ∷ ns) = ((tt, tt), closings-apart ns)

both-apart : (xs ys : List ScriptUnit) → AllByRecursion AreApart xs → AllByRecursion AreApart ys
    → AllByRecursion AreApart (xs ++ ys)
both-apart [] ys front back = back
both-apart (x ∷ xs) ys front back = (front.0, both-apart xs ys front.1 back)

pub units-apart : (program : Program) (captures : Captures)
    → AllByRecursion AreApart (units_of program captures)
units-apart program captures =
    both-apart (map (shares_of (records_of program.files captures) (user_count program)) program.units) (map closing_unit (range_with_len 1 (user_count program)))
    (lines-apart (records_of program.files captures) (user_count program) program.units) (closings-apart (range_with_len 1 (user_count program)))

pub take-apart : (count : ℕ) (units : List ScriptUnit) → AllByRecursion AreApart units
    → AllByRecursion AreApart (take count units)
take-apart zero units apart = tt
take-apart (suc count) [] apart = tt
take-apart (suc count) (unit ∷ units) apart = (apart.0, take-apart count units apart.1)

pub apart-at : (count : ℕ) (units : List ScriptUnit) (unit : ScriptUnit)
    → AllByRecursion AreApart units → slice_get units count ≡ Some unit → AreApart unit
apart-at count [] unit apart at = absurd cc
apart-at zero (u ∷ units) unit apart at = subst AreApart (same_Some u unit at) apart.0
apart-at (suc count) (u ∷ units) unit apart at = apart-at count units unit apart.1 at

new-at : (pool low count i : ℕ) (u : Machine)
    → slice_get (map (new_machine pool) (range_with_len low count)) i ≡ Some u
    → (u.session ≡ None) × (u.number ≡ i + low)
new-at pool low zero i u at = absurd cc
new-at pool low (suc count) zero u at =
    let is : new_machine pool low ≡ u = same_Some (new_machine pool low) u at in
    let number : u.number ≡ low = ap (λ (m : Machine). m.number) (sym is) in
    (ap (λ (m : Machine). m.session) (sym is), omega (arith, number))
new-at pool low (suc count) (suc i) u at =
    let rest = new-at pool (low + 1) count i u at in
    let number = rest.1 in
    (rest.0, omega (arith, number))

first-users : (pool count : ℕ) → HaveCome 0 (record { users = map (new_machine pool) (range_with_len 1 count) })
first-users pool count = record {
  begun = λ i u x at is. let none = (new-at pool 1 count i u at).0 in let clash : None ≡ Some x = sym none ∙ is in absurd cc;
  one = λ i j u v x at at' is is'. let none = (new-at pool 1 count i u at).0 in let clash : None ≡ Some x = sym none ∙ is in absurd cc;
  numbers = λ i u at. (new-at pool 1 count i u at).1;
}

pub first-come : (program : Program) → HaveCome 0 (cast_of program)
first-come program = first-users program.pool (user_count program)

pub first-owes : (program : Program) (h : List Entry)
    → AllOweNothing program.pool h (cast_of program)
first-owes program h i u at =
    ap (option_and_then (settling_call (standing_of program.pool h).world)) (new-at program.pool 1 (user_count program) i u at).0

pub joins-users : JoinsUsers
joins-users program captures h lists cast turns split =
    let joined = joined-units program.pool h (cast_of program) 0 (units_of program captures) lists cast (length h) (units-apart program captures) legal (omega arith) once
    (first-come program) (first-owes program (take 0 h)) turns.turns in
    record { files = turns.files; units = joined.replays }
  where
    once : (b : ℕ) → 0 < b → b ≤ length h → times_among b (lists_in lists) ≡ 1
    once b up down = split-has 0 (length h) (lists_in lists) b split up down

    follows : (b : ℕ) → 0 < b → b ≤ length h → FollowsAt program.pool h b
    follows b up down =
        let one = once b up down in
        units-turns-follow program.pool h (cast_of program) 0 (units_of program captures) lists cast (length h) b turns.turns (omega (arith, one))

    legal : (n : ℕ) → n ≤ length h → IsLegal program.pool (take n h)
    legal n within = legal-to program.pool h (length h) follows n within
