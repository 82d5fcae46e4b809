-- One port of a session's side is changed, and buffers go and come: what stays of the side.
use Rattle.std.proofs.Common.{ℕ, zero, suc, ◌+◌, ◌≤◌, ◌≡◌, Bool, true, false, cond, ◌==◌, nat_eq, List, [], ◌∷◌, map, fold, set, flat_map, length, get_or, Some, refl, sym, ◌∙◌, ap, ap₂, arith, inl, inr}
use Rattle.std.specs.Prelude.{find}
use Rattle.std.specs.List.{AllByRecursion as Each, IsDistinct}
use Rattle.std.proofs.lemmas.Bool.{cases_Bool, eqb-true, eqb-false, ne_eqb}
use Rattle.std.proofs.lemmas.List.{length-set, get_or-set_other}
use Rattle.nm_types.specs.Buffers.{cleared_but}
use Rattle.nm_types.specs.OwnPorts.{OwnPort, OwnState, Arrival, buffers_in, port_if}
use Rattle.nm_types.specs.OwnSyncs.{without_bytes_of, with_arrival, bytes_after, buffers_of_arrivals}
use Rattle.vale_entry.specs.World.{Port, changed_at}
use Rattle.vale_entry.specs.Holdings.{contains}
use Rattle.vale_entry.proofs.Counting.{count_of, count_of-cons, count_of-append, contains-none}
use Rattle.vale_own.specs.Side.{buffers_on, id_of, IsSoundPort, IsSound}

-- ports of other ids
pub others-same : (id : ℕ) (change : OwnPort → OwnPort) (ports : List OwnPort) → Each (λ y. nat_eq id y ≡ false) (map id_of ports) → map (port_if id change) ports ≡ ports
others-same id change [] apart = refl
others-same id change (p ∷ ports) apart =
    let other : (p.id.0 == id) ≡ false = ne_eqb p.id.0 id (λ e. eqb-false id p.id.0 apart.0 (sym e)) in
    rw other (ap (λ (qs : List OwnPort). p ∷ qs) (others-same id change ports apart.1))

module _ (id : ℕ) (change : OwnPort → OwnPort) where
  -- the first port is the one that is found, and no other is changed
  rest-same : (p : OwnPort) (ports : List OwnPort) → (p.id.0 == id) ≡ true → Each (λ y. nat_eq p.id.0 y ≡ false) (map id_of ports) → map (port_if id change) ports ≡ ports
  rest-same p ports here apart = others-same id change ports (rw (eqb-true p.id.0 id here) at apart)

  pub changed-each : (ports : List OwnPort) (p : OwnPort) → IsDistinct nat_eq (map id_of ports) → find (λ (q : OwnPort). q.id.0 == id) ports ≡ Some p → Each IsSoundPort ports → IsSoundPort (change p)
      → Each IsSoundPort (map (port_if id change) ports)
  unfolding IsDistinct
  changed-each [] p apart found each new = tt
  changed-each (q ∷ ports) p apart found each new = elim (cases_Bool (q.id.0 == id)) [
    | inl here ↦ (let is : q ≡ p = (let first : Some q ≡ Some p = rw here at found in cc) in
        let made : IsSoundPort (change q) = rw is new in
        rw here (made, rw (rest-same q ports here apart.0) each.1))
    | inr other ↦ rw other (each.0, changed-each ports p apart.1 (rw other at found) each.1 new)
  ]

  pub changed-ids : ((q : OwnPort) → (change q).id ≡ q.id) → (ports : List OwnPort) → map id_of (map (port_if id change) ports) ≡ map id_of ports
  changed-ids keeps [] = refl
  changed-ids keeps (q ∷ ports) = ap₂ (λ (n : ℕ) (ns : List ℕ). n ∷ ns) (by (q.id.0 == id)) (changed-ids keeps ports)
    where
      by : (b : Bool) → id_of (cond b (change q) q) ≡ q.id.0
      by true = ap (λ i. i.0) (keeps q)
      by false = refl

  pub changed-counts : (b less more : ℕ) (ports : List OwnPort) (p : OwnPort) → IsDistinct nat_eq (map id_of ports) → find (λ (q : OwnPort). q.id.0 == id) ports ≡ Some p
      → count_of b (buffers_in (change p)) + less ≡ count_of b (buffers_in p) + more
      → count_of b (flat_map buffers_in (map (port_if id change) ports)) + less ≡ count_of b (flat_map buffers_in ports) + more
  unfolding IsDistinct
  changed-counts b less more [] p apart found moved = absurd cc
  changed-counts b less more (q ∷ ports) p apart found moved =
      let old = count_of-append b (buffers_in q) (flat_map buffers_in ports) in
      elim (cases_Bool (q.id.0 == id)) [
        | inl here ↦ (let is : q ≡ p = (let first : Some q ≡ Some p = rw here at found in cc) in
            let here-moved : count_of b (buffers_in (change q)) + less ≡ count_of b (buffers_in q) + more = rw is moved in
            let new = count_of-append b (buffers_in (change q)) (flat_map buffers_in ports) in
            rw (here, rest-same q ports here apart.0) (omega (arith, old, new, here-moved)))
        | inr other ↦ (let rest = changed-counts b less more ports p apart.1 (rw other at found) moved in
            let new = count_of-append b (buffers_in q) (flat_map buffers_in (map (port_if id change) ports)) in
            rw other (omega (arith, old, new, rest)))
      ]

  -- what is seen of the ports
  pub changed-same : (see : OwnPort → Port) → ((q : OwnPort) → see (change q) ≡ see q) → (ports : List OwnPort) → map see (map (port_if id change) ports) ≡ map see ports
  changed-same see keeps [] = refl
  changed-same see keeps (q ∷ ports) = ap₂ (λ (x : Port) (xs : List Port). x ∷ xs) (by (q.id.0 == id)) (changed-same see keeps ports)
    where
      by : (b : Bool) → see (cond b (change q) q) ≡ see q
      by true = keeps q
      by false = refl

  pub changed-seen : (see : OwnPort → Port) (f : Port → Port) → ((q : OwnPort) → (see q).id ≡ q.id.0) → (ports : List OwnPort) (p : OwnPort) → IsDistinct nat_eq (map id_of ports) → find (λ (q : OwnPort). q.id.0 == id) ports ≡ Some p
      → see (change p) ≡ f (see p) → map see (map (port_if id change) ports) ≡ changed_at id f (map see ports)
  unfolding IsDistinct
  changed-seen see f ids [] p apart found new = refl
  changed-seen see f ids (q ∷ ports) p apart found new = elim (cases_Bool (q.id.0 == id)) [
    | inl here ↦ (let is : q ≡ p = (let first : Some q ≡ Some p = rw here at found in cc) in
        let made : see (change q) ≡ f (see q) = rw is new in
        let at : ((see q).id == id) ≡ true = ap (λ (n : ℕ). n == id) (ids q) ∙ here in
        rw (here, at) (ap₂ (λ (x : Port) (xs : List Port). x ∷ xs) made (rest ports apart.0 here)))
    | inr other ↦ (let at : ((see q).id == id) ≡ false = ap (λ (n : ℕ). n == id) (ids q) ∙ other in
        rw (other, at) (ap (λ (xs : List Port). see q ∷ xs) (changed-seen see f ids ports p apart.1 (rw other at found) new)))
  ]
    where
      rest : (qs : List OwnPort) → Each (λ y. nat_eq q.id.0 y ≡ false) (map id_of qs) → (q.id.0 == id) ≡ true → map see (map (port_if id change) qs) ≡ changed_at id f (map see qs)
      rest [] others here = refl
      rest (x ∷ qs) others here =
          let is = eqb-true q.id.0 id here in
          let other : (x.id.0 == id) ≡ false = ne_eqb x.id.0 id (λ e. eqb-false q.id.0 x.id.0 others.0 (is ∙ sym e)) in
          let at : ((see x).id == id) ≡ false = ap (λ (n : ℕ). n == id) (ids x) ∙ other in
          rw (other, at) (ap (λ (xs : List Port). see x ∷ xs) (rest qs others.1 here))

-- bytes of buffers that go and come
gone-length : (gone : List ℕ) (bytes : List (List ℕ)) → length (fold without_bytes_of bytes gone) ≡ length bytes
gone-length [] bytes = refl
gone-length (b ∷ gone) bytes = gone-length gone (set bytes b []) ∙ length-set bytes b []

came-length : (came : List Arrival) (bytes : List (List ℕ)) → length (fold with_arrival bytes came) ≡ length bytes
came-length [] bytes = refl
came-length (a ∷ came) bytes = came-length came (with_arrival bytes a) ∙ length-set bytes a.buffer (cleared_but a.bytes)

pub bytes-length : (gone : List ℕ) (came : List Arrival) (bytes : List (List ℕ)) → length (bytes_after gone came bytes) ≡ length bytes
bytes-length gone came bytes = came-length came (fold without_bytes_of bytes gone) ∙ gone-length gone bytes

pub set-blank : (bytes : List (List ℕ)) (at b : ℕ) → get_or bytes b [] ≡ [] → get_or (set bytes at []) b [] ≡ []
set-blank [] at b e = e
set-blank (x ∷ bytes) zero zero e = refl
set-blank (x ∷ bytes) zero (suc b) e = e
set-blank (x ∷ bytes) (suc at) zero e = e
set-blank (x ∷ bytes) (suc at) (suc b) e = set-blank bytes at b e

set-here : (bytes : List (List ℕ)) (b : ℕ) → get_or (set bytes b []) b [] ≡ []
set-here [] b = refl
set-here (x ∷ bytes) zero = refl
set-here (x ∷ bytes) (suc b) = set-here bytes b

gone-still : (gone : List ℕ) (bytes : List (List ℕ)) (b : ℕ) → get_or bytes b [] ≡ [] → get_or (fold without_bytes_of bytes gone) b [] ≡ []
gone-still [] bytes b e = e
gone-still (x ∷ gone) bytes b e = gone-still gone (set bytes x []) b (set-blank bytes x b e)

gone-blank : (gone : List ℕ) (bytes : List (List ℕ)) (b : ℕ) → contains b gone ≡ true → get_or (fold without_bytes_of bytes gone) b [] ≡ []
gone-blank [] bytes b e = absurd cc
gone-blank (x ∷ gone) bytes b e = elim (cases_Bool (x == b)) [
  | inl here ↦ gone-still gone (set bytes x []) b (ap (λ (n : ℕ). get_or (set bytes x []) n []) (sym (eqb-true x b here)) ∙ set-here bytes x)
  | inr other ↦ gone-blank gone (set bytes x []) b (rw other at e)
]

abbrev pub one_if : Bool → ℕ
one_if b = cond b 1 0

pub came-other : (came : List Arrival) (bytes : List (List ℕ)) (b : ℕ) → count_of b (buffers_of_arrivals came) ≡ 0 → get_or (fold with_arrival bytes came) b [] ≡ get_or bytes b []
came-other [] bytes b none = refl
came-other (a ∷ came) bytes b none =
    let all = count_of-cons b a.buffer (buffers_of_arrivals came) in
    elim (cases_Bool (a.buffer == b)) [
      | inl here ↦ absurd (let one : one_if (a.buffer == b) ≡ one_if true = ap one_if here in omega (arith, all, none, one))
      | inr other ↦ (let no : one_if (a.buffer == b) ≡ one_if false = ap one_if other in
          came-other came (with_arrival bytes a) b (omega (arith, all, none, no))
          ∙ get_or-set_other bytes a.buffer b (cleared_but a.bytes) [] (λ e. eqb-false a.buffer b other (sym e)))
    ]

-- a side once some buffers have gone from its places, and some have come
pub record Moved (s new : OwnState) (gone : List ℕ) (came : List Arrival) : Type 0 where
  pub pool_is : new.pool ≡ s.pool
  pub each : Each IsSoundPort new.ports
  pub apart : IsDistinct nat_eq (map id_of new.ports)
  pub bytes : new.bytes ≡ bytes_after gone came s.bytes
  pub less : (b : ℕ) → count_of b gone ≤ count_of b (buffers_on s)
  pub moved : (b : ℕ) → count_of b (buffers_on new) + count_of b gone ≡ count_of b (buffers_on s) + count_of b (buffers_of_arrivals came)

pub moved-sound : (s new : OwnState) (gone : List ℕ) (came : List Arrival) → IsSound s → ((b : ℕ) → count_of b (buffers_on s) + count_of b (buffers_of_arrivals came) ≤ 1) → Moved s new gone came → IsSound new
moved-sound s new gone came sound apart k = record {
  each = k.each;
  apart = k.apart;
  cells = ap (λ (bytes : List (List ℕ)). length bytes) k.bytes ∙ (bytes-length gone came s.bytes ∙ (sound.cells ∙ ap (λ (n : ℕ). n + 2) (sym k.pool_is)));
  blank = λ b none. ap (λ (bytes : List (List ℕ)). get_or bytes b []) k.bytes ∙ blank-at b none;
}
  where
    blank-at : (b : ℕ) → count_of b (buffers_on new) ≡ 0 → get_or (bytes_after gone came s.bytes) b [] ≡ []
    blank-at b none =
        let all = k.moved b in
        let fewer = k.less b in
        let one = apart b in
        let no : count_of b (buffers_of_arrivals came) ≡ 0 = omega (arith, all, fewer, one, none) in
        came-other came (fold without_bytes_of s.bytes gone) b no ∙ elim (cases_Bool (contains b gone)) [
          | inl out ↦ gone-blank gone s.bytes b out
          | inr stays ↦ (let not = contains-none b gone stays in gone-still gone s.bytes b (sound.blank b (omega (arith, all, not, none, no))))
        ]
