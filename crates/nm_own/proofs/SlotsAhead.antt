-- How many slots are ahead of a ring's head, once frames were put there.
use Rattle.std.proofs.Common.{ℕ, zero, suc, ◌≡◌, ◌≤◌, ◌<◌, ◌+◌, ◌⊎◌, true, false, [], nat_eq, min, inl, inr, refl, sym, ◌∙◌, ap, arith, Option, Some, None}
use Rattle.std.specs.Prelude.{is_none}
use Rattle.std.proofs.lemmas.Bool.{cases_Bool, cases_eq}
use Rattle.std.proofs.lemmas.Bool.Decides.{nat_tests}
use Rattle.nm_types.specs.declared.id.Side.TheVariants.{Tx}
use Rattle.nm_types.specs.declared.refusal.RingFault.{RingFault}
use Rattle.nm_types.specs.Positions.{RingState, IsRing, FitsRing, dist, step_on}
use Rattle.nm_types.specs.SyncChecks.{ring_refusal}
use Rattle.nm_types.proofs.RingChecks.{is_beyond-not}
use Rattle.nm_types.proofs.RingSteps.{dist-below, dist-cases, dist-add, dist_self, dist_split, step_on-below}
use Rattle.nm_slot.proofs.CheckLaws.{passed_positions_fit}
use Rattle.nm_port.specs.RingSlots.{RingSlots, head_has_slot, slots_ahead}
use Rattle.nm_own.specs.CopiesIn.{ring_behind}

none_is : (o : Option RingFault) → is_none o ≡ true → o ≡ None
none_is None e = refl
none_is (Some x) e = absurd cc

pub fits_is : (ring : RingState) → is_none (ring_refusal ring ring.head ring.cur) ≡ true → FitsRing ring ring.head ring.cur
fits_is ring e =
    let none : ring_refusal ring ring.head ring.cur ≡ None = none_is (ring_refusal ring ring.head ring.cur) e in
    passed_positions_fit Tx false 0 [] ring [] (rw none refl)

refuses_none : (ring : RingState) → FitsRing ring ring.head ring.cur → is_none (ring_refusal ring ring.head ring.cur) ≡ true
refuses_none ring fits =
    let head = is_beyond-not ring.size ring.accepted_head ring.last_tail ring.head fits.head_within fits.head_reach in
    let cur = is_beyond-not ring.size ring.head ring.last_tail ring.cur fits.cur_within fits.cur_reach in
    rw (head, cur) refl

-- a ring whose head and cur are at the position behind its head
abbrev stepped : RingState → RingState
stepped ring = record ring { head = step_on ring.size ring.head 1; cur = step_on ring.size ring.head 1 }

pub record Steps (ring : RingState) : Type 0 where
  pub fits : FitsRing (stepped ring) (stepped ring).head (stepped ring).cur
  pub nearer : dist ring.size (step_on ring.size ring.head 1) ring.last_tail + 1 ≡ dist ring.size ring.head ring.last_tail

room_for_one : (near rest far size : ℕ) → near + rest ≡ far → 0 < rest → far < size → near + 1 < size
room_for_one near rest far size whole some below = omega arith

reaches : (near rest far next : ℕ) → near + rest ≡ far → 0 < rest → next ≡ near + 1 → next ≤ far
reaches near rest far next whole some one = omega arith

one_nearer : (near rest far next left : ℕ) → near + rest ≡ far → next ≡ near + 1 → next + left ≡ far → left + 1 ≡ rest
one_nearer near rest far next left whole one after = omega arith

none_from : (d n : ℕ) → d ≡ 0 → d ≤ n
none_from d n e = omega arith

steps : (ring : RingState) → IsRing ring → FitsRing ring ring.head ring.cur → 0 < dist ring.size ring.head ring.last_tail → Steps ring
steps ring is fits some =
    let last : ring.last_tail < ring.size = omega (arith, is.within, is.one_tail) in
    let next = step_on ring.size ring.head 1 in
    let near = dist ring.size ring.accepted_head ring.head in
    let rest = dist ring.size ring.head ring.last_tail in
    let far = dist ring.size ring.accepted_head ring.last_tail in
    let whole : near + rest ≡ far = dist_split ring.size ring.accepted_head ring.head ring.last_tail is.accepted fits.head_within last fits.head_reach in
    let below : far < ring.size = dist-below ring.size ring.accepted_head ring.last_tail is.accepted in
    let one : dist ring.size ring.accepted_head next ≡ near + 1 = dist-add ring.size ring.accepted_head ring.head 1 is.accepted fits.head_within (room_for_one near rest far ring.size whole some below) in
    let within : next < ring.size = step_on-below ring.size ring.head 1 fits.head_within in
    let reach = reaches near rest far (dist ring.size ring.accepted_head next) whole some one in
    let after = dist_split ring.size ring.accepted_head next ring.last_tail is.accepted within last reach in
    record {
      fits = record { head_within = within; cur_within = within; head_reach = reach; cur_reach = none_from (dist ring.size next next) (dist ring.size next ring.last_tail) (dist_self ring.size next within) };
      nearer = one_nearer near rest far (dist ring.size ring.accepted_head next) (dist ring.size next ring.last_tail) whole one after;
    }

none_below : {X : Type 0} → 0 < 0 → X
none_below h = absurd (let none : ⊥ = omega (arith, h) in none)

-- where some are ahead the head has a slot
pub has_slot : (ring : RingState) → IsRing ring → 0 < slots_ahead ring → head_has_slot ring ≡ true
has_slot ring is some = elim (cases_Bool (is_none (ring_refusal ring ring.head ring.cur))) [
  | inl e ↦ (let far : 0 < dist ring.size ring.head ring.last_tail = rw e at some in
      let apart : nat_eq ring.head ring.tail ≡ false = differ ring is (fits_is ring e).head_within far in
      rw (e, apart) refl)
  | inr e ↦ none_below (rw e at some)
]
  where
    differ : (ring : RingState) → IsRing ring → ring.head < ring.size → 0 < dist ring.size ring.head ring.last_tail → nat_eq ring.head ring.tail ≡ false
    differ ring is within far = elim (cases_eq ring.head ring.tail) [
      | inl same ↦ (let none : dist ring.size ring.head ring.last_tail ≡ 0 = ap (dist ring.size ring.head) (sym is.one_tail ∙ sym same) ∙ dist_self ring.size ring.head within in none_below (rw none at far))
      | inr other ↦ grind (arith, nat_tests)
    ]

-- where none is ahead it has none
pub has_no_slot : (ring : RingState) → IsRing ring → slots_ahead ring ≡ 0 → head_has_slot ring ≡ false
has_no_slot ring is none = elim (cases_Bool (is_none (ring_refusal ring ring.head ring.cur))) [
  | inl e ↦ (let here : dist ring.size ring.head ring.last_tail ≡ 0 = rw e at none in
      let last : ring.last_tail < ring.size = omega (arith, is.within, is.one_tail) in
      let within = (fits_is ring e).head_within in
      let same : ring.head ≡ ring.last_tail = at_tail (dist ring.size ring.head ring.last_tail) ring.size ring.head ring.last_tail here within (dist-cases ring.size ring.head ring.last_tail within last) in
      let alike : nat_eq ring.head ring.tail ≡ true = grind (arith, nat_tests, same, is.one_tail) in
      rw (e, alike) refl)
  | inr e ↦ rw e refl
]
  where
    at_tail : (d size head tail : ℕ) → d ≡ 0 → head < size → (head + d ≡ tail) ⊎ (head + d ≡ tail + size) → head ≡ tail
    at_tail d size head tail none within there = grind arith

-- a frame that is put takes one of them
one_taken : (ring : RingState) → IsRing ring → 0 < slots_ahead ring → slots_ahead (stepped ring) + 1 ≡ slots_ahead ring
one_taken ring is some = elim (cases_Bool (is_none (ring_refusal ring ring.head ring.cur))) [
  | inl e ↦ (let far : 0 < dist ring.size ring.head ring.last_tail = rw e at some in
      let s = steps ring is (fits_is ring e) far in
      let now : slots_ahead (stepped ring) ≡ dist ring.size (step_on ring.size ring.head 1) ring.last_tail = rw (refuses_none (stepped ring) s.fits) refl in
      let was : slots_ahead ring ≡ dist ring.size ring.head ring.last_tail = rw e refl in
      ap (λ (n : ℕ). n + 1) now ∙ (s.nearer ∙ sym was))
  | inr e ↦ none_below (rw e at some)
]

-- a ring behind so many frames
pub record Behind (count len : ℕ) (r : RingSlots) : Type 0 where
  pub is : IsRing (ring_behind count len r).ring
  pub left : slots_ahead (ring_behind count len r).ring + count ≡ slots_ahead r.ring

nothing_put : (n : ℕ) → n + 0 ≡ n
nothing_put n = omega arith

some_left : (left count all : ℕ) → left + count ≡ all → suc count ≤ all → 0 < left
some_left left count all e h = omega arith

fewer_left : (now left count all : ℕ) → now + 1 ≡ left → left + count ≡ all → now + suc count ≡ all
fewer_left now left count all one e = omega arith

less : (count all : ℕ) → suc count ≤ all → count ≤ all
less count all h = omega arith

pub behind : (count len : ℕ) (r : RingSlots) → IsRing r.ring → count ≤ slots_ahead r.ring → Behind count len r
behind zero len r is h = record { is = is; left = nothing_put (slots_ahead r.ring) }
behind (suc count) len r is h =
    let all = slots_ahead r.ring in
    let b = behind count len r is (less count all h) in
    let ring = (ring_behind count len r).ring in
    let one = one_taken ring b.is (some_left (slots_ahead ring) count all b.left h) in
    record {
      is = record { is_size = b.is.is_size; accepted = b.is.accepted; within = b.is.within; one_tail = b.is.one_tail };
      left = fewer_left (slots_ahead (stepped ring)) (slots_ahead ring) count all one b.left;
    }

-- one more finds a slot
pub finds_slot : (count len : ℕ) (r now : RingSlots) → IsRing r.ring → now ≡ ring_behind count len r → count < slots_ahead r.ring → head_has_slot now.ring ≡ true
finds_slot count len r now is at more =
    let all = slots_ahead r.ring in
    let b = behind count len r is (less count all (omega (arith, more))) in
    let ring = (ring_behind count len r).ring in
    ap (λ (x : RingSlots). head_has_slot x.ring) at ∙ has_slot ring b.is (some_left (slots_ahead ring) count all b.left (omega (arith, more)))

-- behind all of them none is left
pub none_left : (len : ℕ) (r : RingSlots) → IsRing r.ring → head_has_slot (ring_behind (slots_ahead r.ring) len r).ring ≡ false
none_left len r is =
    let all = slots_ahead r.ring in
    let b = behind all len r is (omega arith) in
    let ring = (ring_behind all len r).ring in
    has_no_slot ring b.is (no_more (slots_ahead ring) all b.left)
  where
    no_more : (left all : ℕ) → left + all ≡ all → left ≡ 0
    no_more left all e = omega arith

-- what is below the least of two is below the first
pub under_least : (put seen ahead count least : ℕ) → seen ≡ ahead → least ≡ min seen count → put < least → put < ahead
under_least put seen ahead count least is at h = grind arith
