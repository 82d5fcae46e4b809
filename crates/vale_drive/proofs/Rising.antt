-- Buffers of a session in the order of their indices.
use Rattle.std.proofs.Common.{ℕ, suc, ◌+◌, ◌<◌, ◌≤◌, ◌≡◌, Bool, true, false, cond, nat_lt, ◌==◌, List, [], ◌∷◌, length, get_or, refl, sym, ◌∙◌, ap, subst, arith, zero, slice_set, Option}
use Rattle.std.specs.List.{AllByRecursion as Each}
use Rattle.std.specs.List.Sorted.{IsPermutation, IsNonDecreasingBy}
use Rattle.std.proofs.lemmas.Bool.{ne_eqb, eq-eqb, ltb-true, ltb-false}
use Rattle.std.proofs.lemmas.List.Elements.{recursion_from_All, All-from_recursion}
use Rattle.std.proofs.lemmas.List.Sorted.{IsPermutation-map, All-permutation, sum_by-IsPermutation}
use Rattle.nm_region.specs.Buffers.{Buffer, indices_of}
use Rattle.vale_entry.specs.Holdings.{with_free, all_with_free}
use Rattle.vale_entry.proofs.Counting.{count_of, count_of-cons}
use Rattle.vale_entry.proofs.Freeing.{count-all_with_free}
use Rattle.vale_book.specs.Recorded.{Recorded, standing}
use Rattle.vale_own.specs.Own.{own_of}
use Rattle.vale_serve.specs.declared.users.User.{User}
use Rattle.vale_serve.specs.Exchange.{HasSorted, index_of}
use Rattle.vale_serve.specs.Users.{AreSame, IsRoom, HasOffers, AreHeldAs, HasOwn, IsUser, IsAsker}
use Rattle.vale_drive.specs.Winding.{rising}
use Rattle.vale_serve.proofs.Keeping.{same-ports}
use Rattle.nm_types.specs.declared.id.SessionId.{SessionId}
use Rattle.vale_entry.specs.World.{Port, is_session}
use Rattle.vale_entry.proofs.ListLaws.{each-at}
use Rattle.vale_book.specs.declared.asking.PortSeen.{PortSeen}
use Rattle.vale_serve.specs.Joined.{AreUsersOf}
use Rattle.vale_serve.proofs.Asked.{OwnerAt, set-same}
use Rattle.vale_serve.proofs.Sought.{session-there}

-- ---- numbers that do not fall

-- each at least the one before it, and the first at least the one given
abbrev Climbs : ℕ → List ℕ → Type 0
Climbs low [] = Unit {0}
Climbs low (n ∷ ns) = (low ≤ n) × Climbs n ns

abbrev one_if : Bool → ℕ
one_if b = cond b 1 0

climb-none : (b low : ℕ) (ns : List ℕ) → b < low → Climbs low ns → count_of b ns ≡ 0
climb-none b low [] h c = refl
climb-none b low (n ∷ ns) h c =
    let first = c.0 in
    let rest = climb-none b n ns (omega arith) c.1 in
    let front = count_of-cons b n ns in
    let miss : (n == b) ≡ false = ne_eqb n b (λ k. omega arith) in
    let none = ap one_if miss in
    omega (arith, rest, front, none)

first-counted : (n : ℕ) (ns : List ℕ) → count_of n (n ∷ ns) ≡ 1 + count_of n ns
first-counted n ns =
    let front = count_of-cons n n ns in
    let hit = ap one_if (eq-eqb n n refl) in
    omega (arith, front, hit)

-- what lies before the first of a list that climbs is not in it
not-first : (x y : ℕ) (xs ys : List ℕ) → x < y → Climbs y ys → count_of x (x ∷ xs) ≡ count_of x (y ∷ ys) → ⊥
not-first x y xs ys above d both =
    let none = climb-none x y (y ∷ ys) above (omega arith, d) in
    let one = first-counted x xs in
    omega arith

-- two lists that climb and have the same numbers are the same
same_by : (x y : ℕ) (xs ys : List ℕ) (less more : Bool) → nat_lt x y ≡ less → nat_lt y x ≡ more → Climbs x xs → Climbs y ys
    → ((b : ℕ) → count_of b (x ∷ xs) ≡ count_of b (y ∷ ys)) → (((b : ℕ) → count_of b xs ≡ count_of b ys) → xs ≡ ys)
    → x ∷ xs ≡ y ∷ ys
same_by x y xs ys true more e f c d same later = absurd (not-first x y xs ys (ltb-true x y e) d (same x))
same_by x y xs ys false true e f c d same later = absurd (not-first y x ys xs (ltb-true y x f) c (sym (same y)))
same_by x y xs ys false false e f c d same later =
    let one = ltb-false x y e in
    let two = ltb-false y x f in
    let first : x ≡ y = omega arith in
    let rest : xs ≡ ys = later (λ b.
    let both = same b in
    let left = count_of-cons b x xs in
    let right = count_of-cons b y ys in
    let hits = ap (λ (n : ℕ). one_if (n == b)) first in
    omega (arith, both, left, right, hits)) in
    ap (λ (n : ℕ). n ∷ xs) first ∙ ap (λ (ns : List ℕ). y ∷ ns) rest

climb-same : (low high : ℕ) (xs ys : List ℕ) → Climbs low xs → Climbs high ys → ((b : ℕ) → count_of b xs ≡ count_of b ys) → xs ≡ ys
climb-same low high [] [] c d same = refl
climb-same low high [] (y ∷ ys) c d same =
    let one = first-counted y ys in
    let none = same y in
    absurd (omega arith)
climb-same low high (x ∷ xs) [] c d same =
    let one = first-counted x xs in
    let none = same x in
    absurd (omega arith)
climb-same low high (x ∷ xs) (y ∷ ys) c d same =
    same_by x y xs ys (nat_lt x y) (nat_lt y x) refl refl c.1 d.1 same (λ left. climb-same x y xs ys c.1 d.1 left)

climb_by : (low b n : ℕ) (ns more : List ℕ) (below : Bool) → nat_lt b n ≡ below → low ≤ b → low ≤ n → Climbs n ns → (n ≤ b → Climbs n more)
    → Climbs low (cond below (b ∷ n ∷ ns) (n ∷ more))
climb_by low b n ns more true t above first c later = let past = ltb-true b n t in (above, (omega arith, c))
climb_by low b n ns more false t above first c later = (first, later (ltb-false b n t))

climb-with_free : (low b : ℕ) (free : List ℕ) → low ≤ b → Climbs low free → Climbs low (with_free b free)
climb-with_free low b [] above c = (above, tt)
climb-with_free low b (n ∷ ns) above c =
    climb_by low b n ns (with_free b ns) (nat_lt b n) refl above c.0 c.1 (λ past. climb-with_free n b ns past c.1)

climb-all : (bs free : List ℕ) → Climbs 0 free → Climbs 0 (all_with_free bs free)
climb-all [] free c = c
climb-all (b ∷ bs) free c = climb-all bs (with_free b free) (climb-with_free 0 b free (omega arith) c)

climb-from : (low : ℕ) (bufs : List Buffer) → ((j : ℕ) (d : Buffer) → j < length bufs → low ≤ (get_or bufs j d).index) → IsNonDecreasingBy index_of bufs → Climbs low (indices_of bufs)
climb-from low [] least up = tt
climb-from low (x ∷ xs) least up =
    (least 0 x (omega arith), climb-from x.index xs (λ j d h. up 0 (suc j) d (omega arith) (omega (arith, h))) (λ i j d le h. up (suc i) (suc j) d (omega (arith, le)) (omega (arith, h))))

-- ---- the buffers of a session

-- buffers that rise are those of the same numbers, each at its place
pub rising-is : (bufs : List Buffer) (own : List ℕ) → IsNonDecreasingBy index_of bufs → AreSame (indices_of bufs) own → indices_of bufs ≡ rising own
rising-is bufs own up same =
    climb-same 0 0 (indices_of bufs) (rising own) (climb-from 0 bufs (λ j d h. omega arith) up) (climb-all own [] tt)
    (λ b. let here = same b in let all = count-all_with_free b own [] in let none : ◌≡◌ {A = ℕ} (count_of b []) 0 = refl in omega (arith, here, all, none))

abbrev one-at : ℕ → ℕ → ℕ
one-at n m = cond (m == n) 1 0

pub moved-same : (old new : List Buffer) (own : List ℕ) → IsPermutation old new → AreSame (indices_of old) own → AreSame (indices_of new) own
moved-same old new own moved same = λ n.
    sum_by-IsPermutation (one-at n) (indices_of old) (indices_of new) (IsPermutation-map index_of old new moved) ∙ same n

pub moved-each : (P : Buffer → Type 0) (old new : List Buffer) → IsPermutation old new → Each P old → Each P new
moved-each P old new moved all = recursion_from_All P new (All-permutation P old new moved (All-from_recursion P old all))

pub sorted-kept : (b : Recorded) (old new : User) → HasSorted old new → IsUser b old → IsUser b new
sorted-kept b old new sorted is = kept (sym sorted.id)
  where
    kept : old.id ≡ new.id → IsUser b new
    kept id =
        let own = own_of old.id.0 (standing b) in
        subst (λ i. HasOwn b (own_of i.0 (standing b)) new) id (record {
          offers = subst (λ x. HasOffers own.offers x) (sym sorted.sent) is.offers;
          leases = subst (λ v. AreHeldAs b own.leases v.items) (sym sorted.leases) is.leases;
          rise = is.rise;
          buffers = moved-same old.bufs.items new.bufs.items own.buffers sorted.bufs is.buffers;
          region_is = moved-each _ old.bufs.items new.bufs.items sorted.bufs is.region_is;
          lease_room = rw (sorted.leases, sorted.sent) is.lease_room;
          rooms = subst (λ v. Each IsRoom v.items) (sym sorted.rooms) is.rooms;
          room_each = same-ports old new own.ports sorted.rooms is.room_each;
        })

-- the session of a port that is shut, once its buffers rise
pub record SortedAt (b : Recorded) (users : List User) (place : ℕ) (found : Option Port) (seen : PortSeen) (new : User) : Type 0 where
  pub is : IsUser b new
  pub there : is_session (standing b).world new.id.0 ≡ true
  pub asker : IsAsker new found seen
  pub kept : AreUsersOf b (slice_set users place new)

pub sorted-at : (b : Recorded) (users : List User) (place : ℕ) (found : Option Port) (seen : PortSeen) (old new : User) → AreUsersOf b users → OwnerAt users found seen place old → HasSorted old new
    → SortedAt b users place found seen new
sorted-at b users place found seen old new k at sorted =
    let is = sorted-kept b old new sorted (each-at (IsUser b) users place old k.each at.here) in
    let id : new.id.0 ≡ old.id.0 = ap (λ (i : SessionId). i.0) sorted.id in
    record {
      is = is;
      there = ap (is_session (standing b).world) id ∙ session-there b users place old k at.here;
      asker = record { port = at.seen_so.port; found_is = at.seen_so.found_is; is_seen = at.seen_so.is_seen; mine = at.seen_so.mine ∙ sym id };
      kept = set-same users place b old new k at.here sorted.id is;
    }

pub set-here : (users : List User) (place : ℕ) (new user : User) → place < length users → user ≡ get_or (slice_set users place new) place user → user ≡ new
set-here [] place new user within is = absurd (omega (arith, within))
set-here (u ∷ us) zero new user within is = is
set-here (u ∷ us) (suc place) new user within is = set-here us place new user (omega (arith, within)) is
