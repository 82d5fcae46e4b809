-- The users of a unit, by their places among all users: which numbers are whose.
use Rattle.std.proofs.Common.{Bool, true, false, cond, ℕ, zero, suc, ◌+◌, ◌-◌, ◌<◌, ◌≤◌, ◌≡◌, ◌⊎◌, inl, inr, List, [], ◌∷◌, map, slice_get, slice_set, Some, refl, sym, ◌∙◌, ap, subst, arith}
use Rattle.std.specs.Prelude.{◌==◌, ◌||◌, flat_map}
use Rattle.std.specs.List.{list_any, AllByRecursion}
use Rattle.std.proofs.lemmas.Bool.{eqb-true, eq-eqb, ne_eqb, cases_Bool, cases_lt}
use Rattle.std.proofs.lemmas.Option.{same_Some}
use Rattle.vale_entry.specs.Laws.{Rise}
use Rattle.vale_entry.proofs.Counting.{count_of, count_of-append}
use Rattle.vale_replay.specs.Machine.{Machine}
use Rattle.vale_replay.specs.Replay.{Cast, UnitShare, ScriptUnit, EachShare, is_share_of, times_among, with_afters}

-- Places of a list.

pub get-same : {X : Type 0} (xs : List X) (i : ℕ) (x old : X) → slice_get xs i ≡ Some old
    → slice_get (slice_set xs i x) i ≡ Some x
get-same [] i x old here = absurd cc
get-same (y ∷ ys) zero x old here = refl
get-same (y ∷ ys) (suc i) x old here = get-same ys i x old here

pub get-other : {X : Type 0} (xs : List X) (i j : ℕ) (x : X) → (i == j) ≡ false
    → slice_get (slice_set xs i x) j ≡ slice_get xs j
get-other [] i j x e = refl
get-other (y ∷ ys) zero zero x e = absurd cc
get-other (y ∷ ys) zero (suc j) x e = refl
get-other (y ∷ ys) (suc i) zero x e = refl
get-other (y ∷ ys) (suc i) (suc j) x e = get-other ys i j x (ne_eqb i j (λ same. absurd (suc-apart i j same e)))
  where
    suc-apart : (i j : ℕ) → i ≡ j → (suc i == suc j) ≡ false → ⊥
    suc-apart i j same e = let hit : (suc i == suc j) ≡ true = eq-eqb (suc i) (suc j) (ap (λ n. suc n) same) in absurd cc

-- Shares of different users.

abbrev pub place_of : UnitShare → ℕ
place_of share = share.user - 1

abbrev pub IsElsewhere : ℕ → UnitShare → Type 0
IsElsewhere place share = (place_of share == place) ≡ false

abbrev pub AreApart : ScriptUnit → Type 0
AreApart [] = Unit {0}
AreApart (share ∷ shares) = AllByRecursion (IsElsewhere (place_of share)) shares × AreApart shares

-- the numbers of the user at this place
abbrev pub numbers_at : ℕ → ScriptUnit → List (List ℕ) → List ℕ
numbers_at place [] lists = []
numbers_at place (share ∷ shares) [] = []
numbers_at place (share ∷ shares) (numbers ∷ lists) =
    cond (place_of share == place) numbers (numbers_at place shares lists)

none-elsewhere : (i : ℕ) (unit : ScriptUnit) (lists : List (List ℕ))
    → AllByRecursion (IsElsewhere i) unit → numbers_at i unit lists ≡ []
none-elsewhere i [] lists away = refl
none-elsewhere i (share ∷ shares) [] away = refl
none-elsewhere i (share ∷ shares) (ns ∷ lists) away =
    ap (λ (b : Bool). cond b ns (numbers_at i shares lists)) away.0 ∙ none-elsewhere i shares lists away.1

pub after-elsewhere : (i : ℕ) (unit : ScriptUnit) (afters users : List Machine)
    → AllByRecursion (IsElsewhere i) unit
    → slice_get (with_afters unit afters users) i ≡ slice_get users i
after-elsewhere i [] afters users away = refl
after-elsewhere i (share ∷ shares) [] users away = refl
after-elsewhere i (share ∷ shares) (after ∷ afters) users away =
    after-elsewhere i shares afters (slice_set users (place_of share) after) away.1 ∙ get-other users (place_of share) i after away.0

-- a user behind the unit: one that has no share in it is as it was, and each other is where its
-- numbers have brought it
pub record Member (R : UnitShare → Machine → List ℕ → Machine → Type 0) (cast : Cast) (unit : ScriptUnit) (lists : List (List ℕ)) (place : ℕ) (after : Machine) : Type 0 where
  pub before : Machine
  pub here : slice_get cast.users place ≡ Some before
  pub how : ((numbers_at place unit lists ≡ []) × (after ≡ before)) ⊎ ((share : UnitShare) × R share before (numbers_at place unit lists) after)

member-here : (R : UnitShare → Machine → List ℕ → Machine → Type 0) (cast : Cast) (users' : List Machine) (share : UnitShare) (shares : ScriptUnit) (ns : List ℕ) (lists : List (List ℕ)) (a : Machine) (afters : List Machine) (i : ℕ) (after before : Machine)
    → AllByRecursion (IsElsewhere (place_of share)) shares → (place_of share == i) ≡ true
    → slice_get cast.users (place_of share) ≡ Some before → R share before ns a
    → slice_get users' i ≡ slice_get cast.users i
    → slice_get (with_afters (share ∷ shares) (a ∷ afters) users') i ≡ Some after → Member R cast (share ∷ shares) (ns ∷ lists) i after
member-here R cast users' share shares ns lists a afters i after before away e here r same found =
    let is : place_of share ≡ i = eqb-true (place_of share) i e in
    let numbers : ns ≡ numbers_at i (share ∷ shares) (ns ∷ lists) = ap (λ (b : Bool). cond b ns (numbers_at i shares lists)) (sym e) in
    let here' : slice_get cast.users i ≡ Some before = ap (slice_get cast.users) (sym is) ∙ here in
    let old : slice_get users' (place_of share) ≡ Some before = ap (slice_get users') is ∙ same ∙ here' in
    let new : slice_get (with_afters (share ∷ shares) (a ∷ afters) users') i ≡ Some a =
    ap (slice_get (with_afters (share ∷ shares) (a ∷ afters) users')) (sym is)
    ∙ after-elsewhere (place_of share) shares afters (slice_set users' (place_of share) a) away ∙ get-same users' (place_of share) a before old in
    let after_is : a ≡ after = same_Some a after (sym new ∙ found) in
    record {
      before = before;
      here = here';
      how = inr (share, subst (λ (m : Machine). R share before (numbers_at i (share ∷ shares) (ns ∷ lists)) m) after_is (subst (λ (ms : List ℕ). R share before ms a) numbers r));
    }

member-there : (R : UnitShare → Machine → List ℕ → Machine → Type 0) (cast : Cast) (share : UnitShare) (shares : ScriptUnit) (ns : List ℕ) (lists : List (List ℕ)) (i : ℕ) (after : Machine)
    → (place_of share == i) ≡ false
    → Member R cast shares lists i after → Member R cast (share ∷ shares) (ns ∷ lists) i after
member-there R cast share shares ns lists i after e m =
    let numbers : numbers_at i shares lists ≡ numbers_at i (share ∷ shares) (ns ∷ lists) = ap (λ (b : Bool). cond b ns (numbers_at i shares lists)) (sym e) in
    record { before = m.before; here = m.here; how = subst (λ (ms : List ℕ). ((ms ≡ []) × (after ≡ m.before)) ⊎ ((s : UnitShare) × R s m.before ms after)) numbers m.how }

pub member : (R : UnitShare → Machine → List ℕ → Machine → Type 0) (cast : Cast) (users' : List Machine) (unit : ScriptUnit) (lists : List (List ℕ)) (afters : List Machine) (i : ℕ) (after : Machine)
    → AreApart unit → EachShare R cast unit lists afters → slice_get users' i ≡ slice_get cast.users i
    → slice_get (with_afters unit afters users') i ≡ Some after → Member R cast unit lists i after
member R cast users' [] [] [] i after apart each same found = record { before = after; here = sym same ∙ found; how = inl (refl, refl) }
member R cast users' (share ∷ shares) (ns ∷ lists) (a ∷ afters) i after apart each same found =
    by_here (cases_Bool (place_of share == i)) (member R cast (slice_set users' (place_of share) a) shares lists afters i after apart.1 each.1)
  where
    by_here : ((place_of share == i) ≡ true) ⊎ ((place_of share == i) ≡ false)
        → (slice_get (slice_set users' (place_of share) a) i ≡ slice_get cast.users i → slice_get (with_afters shares afters (slice_set users' (place_of share) a)) i ≡ Some after → Member R cast shares lists i after)
        → Member R cast (share ∷ shares) (ns ∷ lists) i after
    by_here (inl e) rest = member-here R cast users' share shares ns lists a afters i after each.0.0 apart.0 e each.0.1 each.0.2 same found
    by_here (inr e) rest = member-there R cast share shares ns lists i after e (rest (get-other users' (place_of share) i a e ∙ same) found)
member R cast users' _ _ _ i after apart each same found = absurd each

-- Numbers of two cast are different ones.

pub among-cons : (b : ℕ) (ns : List ℕ) (lists : List (List ℕ))
    → times_among b (ns ∷ lists) ≡ count_of b ns + times_among b lists
among-cons b ns lists = count_of-append b ns (flat_map (λ (numbers : List ℕ). numbers) lists)

few-by : (b i : ℕ) (ns rest : List ℕ) (times : ℕ) (here : Bool) → count_of b rest ≤ times
    → count_of b (cond here ns rest) ≤ count_of b ns + times
few-by b i ns rest times true few = omega (arith, few)
few-by b i ns rest times false few = omega (arith, few)

pub few-one : (b i : ℕ) (unit : ScriptUnit) (lists : List (List ℕ))
    → count_of b (numbers_at i unit lists) ≤ times_among b lists
few-one b i [] lists = omega arith
few-one b i (share ∷ shares) [] = omega arith
few-one b i (share ∷ shares) (ns ∷ lists) =
    let rest = few-by b i ns (numbers_at i shares lists) (times_among b lists) (place_of share == i) (few-one b i shares lists) in
    let all = among-cons b ns lists in
    omega (arith, rest, all)

few-places : (b i j : ℕ) (share : UnitShare) (shares : ScriptUnit) (ns : List ℕ) (lists : List (List ℕ)) (x y : Bool)
    → (i == j) ≡ false → (place_of share == i) ≡ x → (place_of share == j) ≡ y
    → count_of b (numbers_at i shares lists) + count_of b (numbers_at j shares lists) ≤ times_among b lists
    → count_of b (cond x ns (numbers_at i shares lists)) + count_of b (cond y ns (numbers_at j shares lists)) ≤ count_of b ns + times_among b lists
few-places b i j share shares ns lists true true e one two rest =
    let same : (i == j) ≡ true = eq-eqb i j (sym (eqb-true (place_of share) i one) ∙ eqb-true (place_of share) j two) in
    let clash : true ≡ false = sym same ∙ e in
    absurd cc
few-places b i j share shares ns lists true false e one two rest = let less = few-one b j shares lists in omega (arith, less)
few-places b i j share shares ns lists false true e one two rest = let less = few-one b i shares lists in omega (arith, less)
few-places b i j share shares ns lists false false e one two rest = omega (arith, rest)

pub few-two : (b i j : ℕ) (unit : ScriptUnit) (lists : List (List ℕ)) → (i == j) ≡ false
    → count_of b (numbers_at i unit lists) + count_of b (numbers_at j unit lists) ≤ times_among b lists
few-two b i j [] lists e = omega arith
few-two b i j (share ∷ shares) [] e = omega arith
few-two b i j (share ∷ shares) (ns ∷ lists) e =
    let all = among-cons b ns lists in
    let both = few-places b i j share shares ns lists (place_of share == i) (place_of share == j) e refl refl (few-two b i j shares lists e) in
    omega (arith, both, all)

-- each number of the lists is of one of the users
pub record HasMember (R : UnitShare → Machine → List ℕ → Machine → Type 0) (cast : Cast) (unit : ScriptUnit) (lists : List (List ℕ)) (b : ℕ) : Type 0 where
  pub place : ℕ
  pub share : UnitShare
  pub before : Machine
  pub after : Machine
  pub here : slice_get cast.users place ≡ Some before
  pub goes : R share before (numbers_at place unit lists) after
  pub some : 1 ≤ count_of b (numbers_at place unit lists)

has-here : (R : UnitShare → Machine → List ℕ → Machine → Type 0) (cast : Cast) (share : UnitShare) (shares : ScriptUnit) (ns : List ℕ) (lists : List (List ℕ)) (b : ℕ) (before after : Machine)
    → slice_get cast.users (place_of share) ≡ Some before → R share before ns after → 1 ≤ count_of b ns → HasMember R cast (share ∷ shares) (ns ∷ lists) b
has-here R cast share shares ns lists b before after here r some =
    let hit : (place_of share == place_of share) ≡ true = eq-eqb (place_of share) (place_of share) refl in
    let numbers : ns ≡ numbers_at (place_of share) (share ∷ shares) (ns ∷ lists) = ap (λ (x : Bool). cond x ns (numbers_at (place_of share) shares lists)) (sym hit) in
    record {
      place = place_of share;
      share = share;
      before = before;
      after = after;
      here = here;
      goes = subst (λ (ms : List ℕ). R share before ms after) numbers r;
      some = subst (λ (ms : List ℕ). 1 ≤ count_of b ms) numbers some;
    }

has-there : (R : UnitShare → Machine → List ℕ → Machine → Type 0) (cast : Cast) (share : UnitShare) (shares : ScriptUnit) (ns : List ℕ) (lists : List (List ℕ)) (b : ℕ)
    → AllByRecursion (IsElsewhere (place_of share)) shares
    → HasMember R cast shares lists b → HasMember R cast (share ∷ shares) (ns ∷ lists) b
has-there R cast share shares ns lists b away m = by_here (cases_Bool (place_of share == m.place))
  where
    by_here : ((place_of share == m.place) ≡ true) ⊎ ((place_of share == m.place) ≡ false)
        → HasMember R cast (share ∷ shares) (ns ∷ lists) b
    by_here (inl e) =
        let is : place_of share ≡ m.place = eqb-true (place_of share) m.place e in
        let none : numbers_at m.place shares lists ≡ [] = ap (λ i. numbers_at i shares lists) (sym is) ∙ none-elsewhere (place_of share) shares lists away in
        let zero' : count_of b (numbers_at m.place shares lists) ≡ 0 = ap (count_of b) none in
        let some = m.some in
        absurd (omega (arith, zero', some))
    by_here (inr e) =
        let numbers : numbers_at m.place shares lists ≡ numbers_at m.place (share ∷ shares) (ns ∷ lists) = ap (λ (x : Bool). cond x ns (numbers_at m.place shares lists)) (sym e) in
        record {
          place = m.place;
          share = m.share;
          before = m.before;
          goes = subst (λ (ms : List ℕ). R m.share m.before ms m.after) numbers m.goes;
          after = m.after;
          here = m.here;
          some = subst (λ (ms : List ℕ). 1 ≤ count_of b ms) numbers m.some;
        }

pub has-member : (R : UnitShare → Machine → List ℕ → Machine → Type 0) (cast : Cast) (unit : ScriptUnit) (lists : List (List ℕ)) (afters : List Machine) (b : ℕ)
    → AreApart unit → EachShare R cast unit lists afters → 1 ≤ times_among b lists
    → HasMember R cast unit lists b
has-member R cast [] [] [] b apart each some = absurd (omega (arith, some))
has-member R cast (share ∷ shares) (ns ∷ lists) (a ∷ afters) b apart each some =
    by_here (cases_lt 0 (count_of b ns)) (has-member R cast shares lists afters b apart.1 each.1)
  where
    by_here : (0 < count_of b ns) ⊎ (count_of b ns ≤ 0)
        → (1 ≤ times_among b lists → HasMember R cast shares lists b)
        → HasMember R cast (share ∷ shares) (ns ∷ lists) b
    by_here (inl here) rest = has-here R cast share shares ns lists b each.0.0 a each.0.1 each.0.2 (omega (arith, here))
    by_here (inr none) rest =
        let all = among-cons b ns lists in
        has-there R cast share shares ns lists b apart.0 (rest (omega (arith, all, none, some)))
has-member R cast _ _ _ b apart each some = absurd each

-- What holds of each share.

pub each-weaker : (R S : UnitShare → Machine → List ℕ → Machine → Type 0) (cast : Cast) (unit : ScriptUnit) (lists : List (List ℕ)) (afters : List Machine)
    → ((share : UnitShare) (before : Machine) (ns : List ℕ) (after : Machine) → R share before ns after → S share before ns after)
    → EachShare R cast unit lists afters → EachShare S cast unit lists afters
each-weaker R S cast [] [] [] f each = tt
each-weaker R S cast (share ∷ shares) (ns ∷ lists) (a ∷ afters) f each =
    ((each.0.0, each.0.1, f share each.0.0 ns a each.0.2), each-weaker R S cast shares lists afters f each.1)
each-weaker R S cast _ _ _ f each = absurd each

-- the places of the shares have the same cast as before
abbrev pub HaveSame : List Machine → List Machine → ScriptUnit → Type 0
HaveSame users others unit =
    AllByRecursion (λ (share : UnitShare). slice_get others (place_of share) ≡ slice_get users (place_of share)) unit

pub have-same : (users : List Machine) (unit : ScriptUnit) → HaveSame users users unit
have-same users [] = tt
have-same users (share ∷ shares) = (refl, have-same users shares)

pub other-place : (i j : ℕ) → (i == j) ≡ false → (j == i) ≡ false
other-place i j e = ne_eqb j i (λ is. apart-eq (sym is))
  where
    apart-eq : i ≡ j → ⊥
    apart-eq is = let hit : (i == j) ≡ true = eq-eqb i j is in let clash : true ≡ false = sym hit ∙ e in absurd cc

pub still-same : (users users' : List Machine) (place : ℕ) (a : Machine) (unit : ScriptUnit)
    → AllByRecursion (IsElsewhere place) unit → HaveSame users users' unit
    → HaveSame users (slice_set users' place a) unit
still-same users users' place a [] away same = tt
still-same users users' place a (share ∷ shares) away same =
    (get-other users' place (place_of share) a (other-place (place_of share) place away.0) ∙ same.0, still-same users users' place a shares away.1 same.1)

-- what holds of all users behind the unit holds of those that have a share in it
pub all-afters : (R : UnitShare → Machine → List ℕ → Machine → Type 0) (P Q : Machine → Type 0) (cast : Cast) (users' : List Machine) (unit : ScriptUnit) (lists : List (List ℕ)) (afters : List Machine)
    → AreApart unit → EachShare R cast unit lists afters
    → ((share : UnitShare) (before : Machine) (ns : List ℕ) (after : Machine) → R share before ns after → P after → Q after)
    → HaveSame cast.users users' unit
    → ((i : ℕ) (u : Machine) → slice_get (with_afters unit afters users') i ≡ Some u → P u)
    → AllByRecursion Q afters
all-afters R P Q cast users' [] [] [] apart each f same all = tt
all-afters R P Q cast users' (share ∷ shares) (ns ∷ lists) (a ∷ afters) apart each f same all = (
  f share each.0.0 ns a each.0.2 (all (place_of share) a new),
  all-afters R P Q cast (slice_set users' (place_of share) a) shares lists afters apart.1 each.1 f (still-same cast.users users' (place_of share) a shares apart.0 same.1) all,
)
  where
    new : slice_get (with_afters (share ∷ shares) (a ∷ afters) users') (place_of share) ≡ Some a
    new = after-elsewhere (place_of share) shares afters (slice_set users' (place_of share) a) apart.0 ∙ get-same users' (place_of share) a each.0.0 (same.0 ∙ each.0.1)
all-afters R P Q cast users' _ _ _ apart each f same all = absurd each

-- a user that has a share in the unit, behind it
pub record HasShare (R : UnitShare → Machine → List ℕ → Machine → Type 0) (afters next : List Machine) (user : ℕ) : Type 0 where
  pub share : UnitShare
  pub before : Machine
  pub ns : List ℕ
  pub now : Machine
  pub is : share.user ≡ user
  pub order : ℕ
  pub at : slice_get afters order ≡ Some now
  pub here : slice_get next (user - 1) ≡ Some now
  pub goes : R share before ns now

pub has-share : (R : UnitShare → Machine → List ℕ → Machine → Type 0) (cast : Cast) (users' : List Machine) (unit : ScriptUnit) (lists : List (List ℕ)) (nows : List Machine) (user : ℕ)
    → AreApart unit → EachShare R cast unit lists nows
    → HaveSame cast.users users' unit
    → list_any (is_share_of user) unit ≡ true → HasShare R nows (with_afters unit nows users') user
has-share R cast users' [] [] [] user apart each same some = absurd cc
has-share R cast users' (share ∷ shares) (ns ∷ lists) (a ∷ nows) user apart each same some =
    by_here (cases_Bool (share.user == user)) (has-share R cast (slice_set users' (place_of share) a) shares lists nows user apart.1 each.1 (still-same cast.users users' (place_of share) a shares apart.0 same.1))
  where
    new : slice_get (with_afters (share ∷ shares) (a ∷ nows) users') (place_of share) ≡ Some a
    new = after-elsewhere (place_of share) shares nows (slice_set users' (place_of share) a) apart.0 ∙ get-same users' (place_of share) a each.0.0 (same.0 ∙ each.0.1)

    by_here : ((share.user == user) ≡ true) ⊎ ((share.user == user) ≡ false)
        → (list_any (is_share_of user) shares ≡ true → HasShare R nows (with_afters shares nows (slice_set users' (place_of share) a)) user)
        → HasShare R (a ∷ nows) (with_afters (share ∷ shares) (a ∷ nows) users') user
    by_here (inl e) rest =
        let is : share.user ≡ user = eqb-true share.user user e in
        record { share = share; before = each.0.0; ns = ns; now = a; is = is; order = 0; at = refl; here = ap (λ k. slice_get (with_afters (share ∷ shares) (a ∷ nows) users') (k - 1)) (sym is) ∙ new; goes = each.0.2 }
    by_here (inr e) rest =
        let later : list_any (is_share_of user) shares ≡ true = ap (λ (b : Bool). b || list_any (is_share_of user) shares) (sym e) ∙ some in
        let r = rest later in
        record { share = r.share; before = r.before; ns = r.ns; now = r.now; is = r.is; order = suc r.order; at = r.at; here = r.here; goes = r.goes }
has-share R cast users' _ _ _ user apart each same some = absurd each

-- Shares whose cast rise are of different cast.

pub rise-elsewhere : (low place : ℕ) (unit : ScriptUnit) (high : ℕ)
    → Rise low (map (λ (share : UnitShare). share.user) unit) high → place < low
    → AllByRecursion (IsElsewhere place) unit
rise-elsewhere low place [] high rise past = tt
rise-elsewhere low place (share ∷ shares) high rise past =
    let up = rise.0 in
    (ne_eqb (place_of share) place (λ e. omega (arith, up, past, e)), rise-elsewhere share.user place shares high rise.1 (omega (arith, up, past)))

pub rise-apart : (low : ℕ) (unit : ScriptUnit) (high : ℕ)
    → Rise low (map (λ (share : UnitShare). share.user) unit) high → AreApart unit
rise-apart low [] high rise = tt
rise-apart low (share ∷ shares) high rise =
    let up = rise.0 in
    (rise-elsewhere share.user (place_of share) shares high rise.1 (omega (arith, up)), rise-apart share.user shares high rise.1)
