-- A block, whose users have their lines one behind another.
use Rattle.std.proofs.Common.{ℕ, zero, suc, ◌+◌, ◌-◌, ◌<◌, ◌≡◌, ◌⊎◌, inl, inr, Bool, true, false, cond, List, [], ◌∷◌, ◌++◌, length, map, filter, slice_get, slice_set, Some, refl, sym, ◌∙◌, ap, subst, arith, append_assoc, length-append}
use Rattle.std.specs.Prelude.{◌==◌, flat_map}
use Rattle.std.specs.List.{range_with_len, list_any, AllByRecursion}
use Rattle.std.proofs.lemmas.Bool.{cases_Bool, eq-eqb}
use Rattle.nm_types.proofs.Tests.{or_first, or_second}
use Rattle.nm_turn.specs.Numbered.{numbers}
use Rattle.vale_entry.specs.declared.entry.Ask.{Ask}
use Rattle.vale_entry.specs.declared.entry.Entry.{Entry}
use Rattle.vale_fabric.specs.Fabrics.{Knowing}
use Rattle.vale_script.specs.declared.script.Line.{Line}
use Rattle.vale_replay.specs.Machine.{Machine}
use Rattle.vale_replay.specs.Replay.{UnitShare, ScriptUnit, EachShare, acts_of, has_line, is_share_of, share_of, times_among, with_afters}
use Rattle.vale_replay.specs.Joined.{PlaysShare, IsWithin}
use Rattle.vale_replay.specs.Stops.{PlaysOrStops}
use Rattle.vale_act.specs.declared.seat.Seat.{Seat}
use Rattle.vale_act.specs.Units.{AreUsersFrom, IsUserAt, PlayBlockFrom, PlaysBlockAt, ReplayBlockFrom, ReplaysBlockAt, StopBlockFrom, StopsBlockAt, BlockIsUnit, BlockStops, knows_at, times_made}
use Rattle.vale_act.proofs.SharesCounts.{made-block, made-idle, made-more}

-- ---- the shares of a block

-- those of so many users from a number on
abbrev shares_from : (List ℕ → List (List ℕ)) → List Line → ℕ → ℕ → ScriptUnit
shares_from records lines number count = map (λ user. share_of records user (acts_of lines user)) (filter (has_line lines) (range_with_len number count))

-- a user that has lines has the first of them
shares-more : (records : List ℕ → List (List ℕ)) (lines : List Line) (number count : ℕ) → has_line lines number ≡ true
    → shares_from records lines number (suc count) ≡ share_of records number (acts_of lines number) ∷ shares_from records lines (number + 1) count
shares-more records lines number count e =
    let rest : List ℕ = filter (has_line lines) (range_with_len (number + 1) count) in
    ap (λ (b : Bool). map (λ user. share_of records user (acts_of lines user)) (cond b (number ∷ rest) rest)) e

-- and one that has none has none
shares-idle : (records : List ℕ → List (List ℕ)) (lines : List Line) (number count : ℕ) → has_line lines number ≡ false
    → shares_from records lines number (suc count) ≡ shares_from records lines (number + 1) count
shares-idle records lines number count e =
    let rest : List ℕ = filter (has_line lines) (range_with_len (number + 1) count) in
    ap (λ (b : Bool). map (λ user. share_of records user (acts_of lines user)) (cond b (number ∷ rest) rest)) e

-- ---- the users from a number on, behind those of smaller numbers

place-here : (front : List Machine) (user : Machine) (users : List Machine) (number : ℕ) → length front + 1 ≡ number → slice_get (front ++ user ∷ users) (number - 1) ≡ Some user
place-here [] user users number count = let at : 0 ≡ number - 1 = omega (arith, count) in ap (slice_get (user ∷ users)) (sym at)
place-here (first ∷ front) user users number count =
    let rest = place-here front user users (number - 1) (omega (arith, count)) in
    let at : number - 1 ≡ suc (number - 1 - 1) = omega (arith, count) in
    ap (slice_get (first ∷ (front ++ user ∷ users))) at ∙ rest

set-here : (front : List Machine) (user later : Machine) (users : List Machine) (number : ℕ) → length front + 1 ≡ number → slice_set (front ++ user ∷ users) (number - 1) later ≡ front ++ later ∷ users
set-here [] user later users number count = let at : number - 1 ≡ 0 = omega (arith, count) in ap (λ (i : ℕ). slice_set (user ∷ users) i later) at
set-here (first ∷ front) user later users number count =
    let rest = set-here front user later users (number - 1) (omega (arith, count)) in
    let at : number - 1 ≡ suc (number - 1 - 1) = omega (arith, count) in
    ap (λ (i : ℕ). slice_set (first ∷ (front ++ user ∷ users)) i later) at ∙ ap (λ (l : List Machine). first ∷ l) rest

-- one of them goes to the front
to-front : (front : List Machine) (user : Machine) (users : List Machine) → (front ++ user ∷ []) ++ users ≡ front ++ user ∷ users
to-front front user users = append_assoc front (user ∷ []) users

front-more : (front : List Machine) (user : Machine) (number : ℕ) → length front + 1 ≡ number → length (front ++ user ∷ []) + 1 ≡ number + 1
front-more front user number count = let all = length-append front (user ∷ []) in omega (arith, all, count)

-- ---- what they make of the shares

-- where all of these users have come, in front of which stand others
record ComesFrom (pool number : ℕ) (main next : Knowing) (shares : ScriptUnit) (afters : List Seat) (lists : List (List ℕ)) (front users : List Machine) : Type 0 where
  laters : List Machine
  each : EachShare (PlaysShare pool next.seen) (record { users = front ++ users }) shares lists laters
  news : List Machine
  are : AreUsersFrom pool number afters news
  become : (others : List Machine) → length others + 1 ≡ number → with_afters shares laters (others ++ users) ≡ others ++ news

record PlayFrom (pool number : ℕ) (main next : Knowing) (shares : ScriptUnit) (befores afters : List Seat) : Type 0 where
  lists : List (List ℕ)
  comes : (front users : List Machine) → length front + 1 ≡ number → AreUsersFrom pool number befores users → ComesFrom pool number main next shares afters lists front users
  inside : AllByRecursion (AllByRecursion (IsWithin (length main.seen) (length next.seen))) lists
  made : (n : ℕ) → times_made n (flat_map knows_at afters) ≡ times_made n (flat_map knows_at befores) + times_among n lists

come-none : (pool number : ℕ) (main next : Knowing) (front users : List Machine) → AreUsersFrom pool number [] users → ComesFrom pool number main next [] [] [] front users
come-none pool number main next front [] are = record { laters = []; each = tt; news = []; are = tt; become = λ others count. refl }
come-none pool number main next front (user ∷ users) are = absurd are

play-none : (pool number : ℕ) (main next : Knowing) → PlayFrom pool number main next [] [] []
play-none pool number main next = record {
  lists = [];
  comes = λ front users count are. come-none pool number main next front users are;
  inside = tt;
  made = λ n. omega arith;
}

-- a user that plays its share
come-more : (pool number : ℕ) (main next : Knowing) (share : UnitShare) (shares : ScriptUnit) (before after : Seat) (afters : List Seat) (ns : List ℕ) (lists : List (List ℕ)) (front : List Machine) (user later : Machine) (users : List Machine)
    → share.user ≡ number → length front + 1 ≡ number
    → PlaysShare pool next.seen share user ns later → IsUserAt pool number after later
    → ComesFrom pool (number + 1) main next shares afters lists (front ++ user ∷ []) users
    → ComesFrom pool number main next (share ∷ shares) (after ∷ afters) (ns ∷ lists) front (user ∷ users)
come-more pool number main next share shares before after afters ns lists front user later users is count plays at rest = record {
  laters = later ∷ rest.laters;
  each = ((user, here, plays), subst (λ (l : List Machine). EachShare (PlaysShare pool next.seen) (record { users = l }) shares lists rest.laters) (to-front front user users) rest.each);
  news = later ∷ rest.news;
  are = (at, rest.are);
  become = become;
}
  where
    here : slice_get (front ++ user ∷ users) (share.user - 1) ≡ Some user
    here = ap (λ (k : ℕ). slice_get (front ++ user ∷ users) (k - 1)) is ∙ place-here front user users number count

    become : (others : List Machine) → length others + 1 ≡ number → with_afters (share ∷ shares) (later ∷ rest.laters) (others ++ user ∷ users) ≡ others ++ later ∷ rest.news
    become others many =
        let set : slice_set (others ++ user ∷ users) (share.user - 1) later ≡ (others ++ later ∷ []) ++ users =
        ap (λ (k : ℕ). slice_set (others ++ user ∷ users) (k - 1) later) is ∙ (set-here others user later users number many ∙ sym (to-front others later users)) in
        ap (with_afters shares rest.laters) set ∙ (rest.become (others ++ later ∷ []) (front-more others later number many) ∙ to-front others later rest.news)

-- and one that has none
come-idle : (pool number : ℕ) (main next : Knowing) (shares : ScriptUnit) (after : Seat) (afters : List Seat) (lists : List (List ℕ)) (front : List Machine) (user : Machine) (users : List Machine)
    → IsUserAt pool number after user
    → ComesFrom pool (number + 1) main next shares afters lists (front ++ user ∷ []) users
    → ComesFrom pool number main next shares (after ∷ afters) lists front (user ∷ users)
come-idle pool number main next shares after afters lists front user users at rest = record {
  laters = rest.laters;
  each = subst (λ (l : List Machine). EachShare (PlaysShare pool next.seen) (record { users = l }) shares lists rest.laters) (to-front front user users) rest.each;
  news = user ∷ rest.news;
  are = (at, rest.are);
  become = λ others many.
      ap (with_afters shares rest.laters) (sym (to-front others user users)) ∙ (rest.become (others ++ user ∷ []) (front-more others user number many) ∙ to-front others user rest.news);
}

play-more : (pool number : ℕ) (main next : Knowing) (records : List ℕ → List (List ℕ)) (lines : List Line) (shares : ScriptUnit) (before after : Seat) (befores afters : List Seat)
    → PlaysBlockAt pool number records lines main next before after → PlayFrom pool (number + 1) main next shares befores afters
    → PlayFrom pool number main next (share_of records number (acts_of lines number) ∷ shares) (before ∷ befores) (after ∷ afters)
play-more pool number main next records lines shares before after befores afters one rest = record {
  lists = numbers one.plays.added ∷ rest.lists;
  comes = comes;
  inside = (one.plays.inside, rest.inside);
  made = λ n. made-more n before after befores afters (numbers one.plays.added) rest.lists (one.made n) (rest.made n);
}
  where
    share : UnitShare
    share = share_of records number (acts_of lines number)

    comes : (front users : List Machine) → length front + 1 ≡ number → AreUsersFrom pool number (before ∷ befores) users
        → ComesFrom pool number main next (share ∷ shares) (after ∷ afters) (numbers one.plays.added ∷ rest.lists) front users
    comes front [] count are = absurd are
    comes front (user ∷ users) count are =
        let went = one.plays.plays user are.0 in
        come-more pool number main next share shares before after afters (numbers one.plays.added) rest.lists front user went.0 users refl count went.1.0 went.1.1
        (rest.comes (front ++ user ∷ []) users (front-more front user number count) are.1)

play-idle : (pool number : ℕ) (main next : Knowing) (records : List ℕ → List (List ℕ)) (lines : List Line) (shares : ScriptUnit) (before after : Seat) (befores afters : List Seat)
    → has_line lines number ≡ false → PlaysBlockAt pool number records lines main next before after → PlayFrom pool (number + 1) main next shares befores afters
    → PlayFrom pool number main next shares (before ∷ befores) (after ∷ afters)
play-idle pool number main next records lines shares before after befores afters none one rest = record {
  lists = rest.lists;
  comes = comes;
  inside = rest.inside;
  made = λ n. made-idle n before after befores afters (numbers one.plays.added) rest.lists (ap (λ (l : List (ℕ × Entry)). numbers l) (one.idle none).0) (one.made n) (rest.made n);
}
  where
    comes : (front users : List Machine) → length front + 1 ≡ number → AreUsersFrom pool number (before ∷ befores) users
        → ComesFrom pool number main next shares (after ∷ afters) rest.lists front users
    comes front [] count are = absurd are
    comes front (user ∷ users) count are =
        come-idle pool number main next shares after afters rest.lists front user users ((one.idle none).1 user are.0)
        (rest.comes (front ++ user ∷ []) users (front-more front user number count) are.1)

play-from : (pool number : ℕ) (records : List ℕ → List (List ℕ)) (lines : List Line) (main next : Knowing) (befores afters : List Seat)
    → PlayBlockFrom pool number records lines main next befores afters → PlayFrom pool number main next (shares_from records lines number (length befores)) befores afters
play-from pool number records lines main next [] [] all = play-none pool number main next
play-from pool number records lines main next [] (after ∷ afters) all = absurd all
play-from pool number records lines main next (before ∷ befores) [] all = absurd all
play-from pool number records lines main next (before ∷ befores) (after ∷ afters) all =
    by_line (cases_Bool (has_line lines number)) (play-from pool (number + 1) records lines main next befores afters all.1)
  where
    by_line : (has_line lines number ≡ true) ⊎ (has_line lines number ≡ false)
        → PlayFrom pool (number + 1) main next (shares_from records lines (number + 1) (length befores)) befores afters
        → PlayFrom pool number main next (shares_from records lines number (suc (length befores))) (before ∷ befores) (after ∷ afters)
    by_line (inl e) rest =
        subst (λ (s : ScriptUnit). PlayFrom pool number main next s (before ∷ befores) (after ∷ afters)) (sym (shares-more records lines number (length befores) e))
        (play-more pool number main next records lines (shares_from records lines (number + 1) (length befores)) before after befores afters all.0 rest)
    by_line (inr e) rest =
        subst (λ (s : ScriptUnit). PlayFrom pool number main next s (before ∷ befores) (after ∷ afters)) (sym (shares-idle records lines number (length befores) e))
        (play-idle pool number main next records lines (shares_from records lines (number + 1) (length befores)) before after befores afters e all.0 rest)

pub block-unit : BlockIsUnit
block-unit pool records lines main next befores afters begins mine all =
    let played = play-from pool 1 records lines main next befores afters all in
    record {
      begins = begins;
      lists = played.lists;
      plays = λ cast are.
          let come = played.comes [] cast.users refl are in
          (come.laters, (come.each, subst (AreUsersFrom pool 1 afters) (sym (come.become [] refl)) come.are));
      inside = played.inside;
      made = λ n. made-block n main next befores afters played.lists mine (played.made n);
    }

-- ---- where one of them stops

record StopFrom (pool number count user : ℕ) (call : Ask) (main next : Knowing) (shares : ScriptUnit) (befores afters : List Seat) : Type 0 where
  lists : List (List ℕ)
  works : (front users : List Machine) → length front + 1 ≡ number → AreUsersFrom pool number befores users
      → (laters : List Machine) × EachShare (PlaysOrStops pool next.seen count user call) (record { users = front ++ users }) shares lists laters
  inside : AllByRecursion (AllByRecursion (IsWithin (length main.seen) (length next.seen))) lists
  made : (n : ℕ) → times_made n (flat_map knows_at afters) ≡ times_made n (flat_map knows_at befores) + times_among n lists

stop-none : (pool number count user : ℕ) (call : Ask) (main next : Knowing) → StopFrom pool number count user call main next [] [] []
stop-none pool number count user call main next = record { lists = []; works = works; inside = tt; made = λ n. omega arith }
  where
    works : (front users : List Machine) → length front + 1 ≡ number → AreUsersFrom pool number [] users
        → (laters : List Machine) × EachShare (PlaysOrStops pool next.seen count user call) (record { users = front ++ users }) [] [] laters
    works front [] many are = ([], tt)
    works front (other ∷ users) many are = absurd are

-- what one of them has added
record StopAt (pool number count user : ℕ) (call : Ask) (main next : Knowing) (share : UnitShare) (before after : Seat) : Type 0 where
  ns : List ℕ
  works : (user' : Machine) → IsUserAt pool number before user' → (later : Machine) × PlaysOrStops pool next.seen count user call share user' ns later
  inside : AllByRecursion (IsWithin (length main.seen) (length next.seen)) ns
  made : (n : ℕ) → times_made n (knows_at after) ≡ times_made n (knows_at before) + times_among n (ns ∷ [])

stop-more : (pool number count user : ℕ) (call : Ask) (main next : Knowing) (share : UnitShare) (shares : ScriptUnit) (before after : Seat) (befores afters : List Seat)
    → share.user ≡ number → StopAt pool number count user call main next share before after → StopFrom pool (number + 1) count user call main next shares befores afters
    → StopFrom pool number count user call main next (share ∷ shares) (before ∷ befores) (after ∷ afters)
stop-more pool number count user call main next share shares before after befores afters is one rest = record {
  lists = one.ns ∷ rest.lists;
  works = works;
  inside = (one.inside, rest.inside);
  made = λ n. made-more n before after befores afters one.ns rest.lists (one.made n) (rest.made n);
}
  where
    works : (front users : List Machine) → length front + 1 ≡ number → AreUsersFrom pool number (before ∷ befores) users
        → (laters : List Machine) × EachShare (PlaysOrStops pool next.seen count user call) (record { users = front ++ users }) (share ∷ shares) (one.ns ∷ rest.lists) laters
    works front [] many are = absurd are
    works front (here ∷ users) many are =
        let went = one.works here are.0 in
        let more = rest.works (front ++ here ∷ []) users (front-more front here number many) are.1 in
        let at : slice_get (front ++ here ∷ users) (share.user - 1) ≡ Some here = ap (λ (k : ℕ). slice_get (front ++ here ∷ users) (k - 1)) is ∙ place-here front here users number many in
        (went.0 ∷ more.0, ((here, at, went.1), subst (λ (l : List Machine). EachShare (PlaysOrStops pool next.seen count user call) (record { users = l }) shares rest.lists more.0) (to-front front here users) more.1))

stop-idle : (pool number count user : ℕ) (call : Ask) (main next : Knowing) (shares : ScriptUnit) (before after : Seat) (befores afters : List Seat) (ns : List ℕ)
    → ns ≡ [] → ((n : ℕ) → times_made n (knows_at after) ≡ times_made n (knows_at before) + times_among n (ns ∷ [])) → StopFrom pool (number + 1) count user call main next shares befores afters
    → StopFrom pool number count user call main next shares (before ∷ befores) (after ∷ afters)
stop-idle pool number count user call main next shares before after befores afters ns none made rest = record {
  lists = rest.lists;
  works = works;
  inside = rest.inside;
  made = λ n. made-idle n before after befores afters ns rest.lists none (made n) (rest.made n);
}
  where
    works : (front users : List Machine) → length front + 1 ≡ number → AreUsersFrom pool number (before ∷ befores) users
        → (laters : List Machine) × EachShare (PlaysOrStops pool next.seen count user call) (record { users = front ++ users }) shares rest.lists laters
    works front [] many are = absurd are
    works front (here ∷ users) many are =
        let more = rest.works (front ++ here ∷ []) users (front-more front here number many) are.1 in
        (more.0, subst (λ (l : List Machine). EachShare (PlaysOrStops pool next.seen count user call) (record { users = l }) shares rest.lists more.0) (to-front front here users) more.1)

-- those of smaller numbers play, those of greater ones replay, and the one between stops
at-smaller : (pool number count user : ℕ) (call : Ask) (records : List ℕ → List (List ℕ)) (lines : List Line) (main next : Knowing) (before after : Seat) → number < user
    → PlaysBlockAt pool number records lines main next before after → StopAt pool number count user call main next (share_of records number (acts_of lines number)) before after
at-smaller pool number count user call records lines main next before after less one = record {
  ns = numbers one.plays.added;
  works = λ here at. let went = one.plays.plays here at in (went.0, record { replays = went.1.0.replays; smaller = λ below. went.1.0; stops = λ is. absurd (omega (arith, less, is)) });
  inside = one.plays.inside;
  made = one.made;
}

at-greater : (pool number count user : ℕ) (call : Ask) (records : List ℕ → List (List ℕ)) (lines : List Line) (main next : Knowing) (before after : Seat) → user < number
    → ReplaysBlockAt pool number records lines main next before after → StopAt pool number count user call main next (share_of records number (acts_of lines number)) before after
at-greater pool number count user call records lines main next before after more one = record {
  ns = numbers one.replays.added;
  works = λ here at. let went = one.replays.replays here at in (went.0, record { replays = went.1; smaller = λ below. absurd (omega (arith, more, below)); stops = λ is. absurd (omega (arith, more, is)) });
  inside = one.replays.inside;
  made = one.made;
}

at-same : (pool number count user : ℕ) (call : Ask) (records : List ℕ → List (List ℕ)) (lines : List Line) (main next : Knowing) (before after : Seat) → number ≡ user
    → StopsBlockAt pool number records lines count call main next before after → StopAt pool number count user call main next (share_of records number (acts_of lines number)) before after
at-same pool number count user call records lines main next before after same one = record {
  ns = numbers one.stops.replays.added;
  works = λ here at. let went = one.stops.replays.replays here at in (went.0, record { replays = went.1; smaller = λ below. absurd (omega (arith, same, below)); stops = λ is. one.stops.stops here at });
  inside = one.stops.replays.inside;
  made = one.made;
}

replay-from : (pool number count user : ℕ) (call : Ask) (records : List ℕ → List (List ℕ)) (lines : List Line) (main next : Knowing) (befores afters : List Seat) → user < number
    → ReplayBlockFrom pool number records lines main next befores afters → StopFrom pool number count user call main next (shares_from records lines number (length befores)) befores afters
replay-from pool number count user call records lines main next [] [] past all = stop-none pool number count user call main next
replay-from pool number count user call records lines main next [] (after ∷ afters) past all = absurd all
replay-from pool number count user call records lines main next (before ∷ befores) [] past all = absurd all
replay-from pool number count user call records lines main next (before ∷ befores) (after ∷ afters) past all =
    by_line (cases_Bool (has_line lines number)) (replay-from pool (number + 1) count user call records lines main next befores afters (omega (arith, past)) all.1)
  where
    by_line : (has_line lines number ≡ true) ⊎ (has_line lines number ≡ false)
        → StopFrom pool (number + 1) count user call main next (shares_from records lines (number + 1) (length befores)) befores afters
        → StopFrom pool number count user call main next (shares_from records lines number (suc (length befores))) (before ∷ befores) (after ∷ afters)
    by_line (inl e) rest =
        subst (λ (s : ScriptUnit). StopFrom pool number count user call main next s (before ∷ befores) (after ∷ afters)) (sym (shares-more records lines number (length befores) e))
        (stop-more pool number count user call main next (share_of records number (acts_of lines number)) (shares_from records lines (number + 1) (length befores)) before after befores afters refl
        (at-greater pool number count user call records lines main next before after past all.0) rest)
    by_line (inr e) rest =
        subst (λ (s : ScriptUnit). StopFrom pool number count user call main next s (before ∷ befores) (after ∷ afters)) (sym (shares-idle records lines number (length befores) e))
        (stop-idle pool number count user call main next (shares_from records lines (number + 1) (length befores)) before after befores afters (numbers all.0.replays.added) (ap (λ (l : List (ℕ × Entry)). numbers l) (all.0.idle e)) all.0.made rest)

-- with the one that stops among them
record StopIn (pool number count user : ℕ) (call : Ask) (main next : Knowing) (shares : ScriptUnit) (befores afters : List Seat) : Type 0 where
  from : StopFrom pool number count user call main next shares befores afters
  there : list_any (is_share_of user) shares ≡ true

stop-from : (pool number left count user : ℕ) (call : Ask) (records : List ℕ → List (List ℕ)) (lines : List Line) (main next : Knowing) (befores afters : List Seat) → number + left ≡ user
    → StopBlockFrom pool number left records lines count call main next befores afters → StopIn pool number count user call main next (shares_from records lines number (length befores)) befores afters
stop-from pool number zero count user call records lines main next [] afters at all = absurd all
stop-from pool number (suc left) count user call records lines main next [] afters at all = absurd all
stop-from pool number zero count user call records lines main next (before ∷ befores) [] at all = absurd all
stop-from pool number (suc left) count user call records lines main next (before ∷ befores) [] at all = absurd all
stop-from pool number zero count user call records lines main next (before ∷ befores) (after ∷ afters) at all =
    let same : number ≡ user = omega (arith, at) in
    let rest = replay-from pool (number + 1) count user call records lines main next befores afters (omega (arith, same)) all.1 in
    let share : UnitShare = share_of records number (acts_of lines number) in
    let shares : ScriptUnit = shares_from records lines (number + 1) (length befores) in
    subst (λ (s : ScriptUnit). StopIn pool number count user call main next s (before ∷ befores) (after ∷ afters)) (sym (shares-more records lines number (length befores) all.0.there))
    (record {
      from = stop-more pool number count user call main next share shares before after befores afters refl (at-same pool number count user call records lines main next before after same all.0) rest;
      there = or_first (number == user) (list_any (is_share_of user) shares) (eq-eqb number user same);
    })
stop-from pool number (suc left) count user call records lines main next (before ∷ befores) (after ∷ afters) at all =
    by_line (cases_Bool (has_line lines number)) (stop-from pool (number + 1) left count user call records lines main next befores afters (omega (arith, at)) all.1)
  where
    less : number < user
    less = omega (arith, at)

    by_line : (has_line lines number ≡ true) ⊎ (has_line lines number ≡ false)
        → StopIn pool (number + 1) count user call main next (shares_from records lines (number + 1) (length befores)) befores afters
        → StopIn pool number count user call main next (shares_from records lines number (suc (length befores))) (before ∷ befores) (after ∷ afters)
    by_line (inl e) rest =
        subst (λ (s : ScriptUnit). StopIn pool number count user call main next s (before ∷ befores) (after ∷ afters)) (sym (shares-more records lines number (length befores) e))
        (record {
          from = stop-more pool number count user call main next (share_of records number (acts_of lines number)) (shares_from records lines (number + 1) (length befores)) before after befores afters refl
              (at-smaller pool number count user call records lines main next before after less all.0) rest.from;
          there = or_second (number == user) (list_any (is_share_of user) (shares_from records lines (number + 1) (length befores))) rest.there;
        })
    by_line (inr e) rest =
        subst (λ (s : ScriptUnit). StopIn pool number count user call main next s (before ∷ befores) (after ∷ afters)) (sym (shares-idle records lines number (length befores) e))
        (record {
          from = stop-idle pool number count user call main next (shares_from records lines (number + 1) (length befores)) before after befores afters (numbers all.0.plays.added)
              (ap (λ (l : List (ℕ × Entry)). numbers l) (all.0.idle e).0) all.0.made rest.from;
          there = rest.there;
        })

pub block-stops : BlockStops
block-stops fixed records lines at count call fault main next befores afters begins mine all forward seen refusal =
    let stopped = stop-from fixed.pool 1 at count (at + 1) call records lines main next befores afters (omega arith) all in
    record {
      begins = begins;
      lists = stopped.from.lists;
      works = λ cast are. stopped.from.works [] cast.users refl are;
      inside = stopped.from.inside;
      made = λ n. made-block n main next befores afters stopped.from.lists mine (stopped.from.made n);
      of_unit = stopped.there;
      forward = forward;
      seen = seen;
      refusal = refusal;
    }
