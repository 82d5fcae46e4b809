-- What an opening makes of a session's side.
use Rattle.std.proofs.Common.{ℕ, ◌+◌, ◌-◌, ◌<◌, ◌≤◌, ◌≡◌, ◌⊎◌, Bool, true, false, cond, not, ◌&&◌, nat_le, ◌==◌, nat_eq, List, [], ◌∷◌, ◌++◌, map, fold, take, drop, flat_map, length, get_or, Option, Some, None, refl, sym, ◌∙◌, ap, arith, inl, inr}
use Rattle.std.specs.List.{AllByRecursion as Each, IsDistinct, zip}
use Rattle.std.proofs.lemmas.Bool.{cases_Bool, and_parts, eqb-true, eqb-false, eq-eqb, ne_eqb, leb-true}
use Rattle.std.proofs.lemmas.List.{length-map, length-set, length-drop, length-take-le, get_or-set_other, map-append}
use Rattle.nm_types.specs.Limits.{most_extra, most_ring}
use Rattle.nm_types.specs.declared.fault.OpenFault.{OpenFault}
use Rattle.nm_types.specs.declared.fault.OpenFault.TheVariants.{BadSize}
use Rattle.nm_types.specs.Names.{is_monitor_name}
use Rattle.nm_types.specs.Positions.{IsRingSize, dist, step_on, opened_tx, opened_rx}
use Rattle.nm_types.specs.Chain.{linked, opened_links}
use Rattle.nm_types.specs.Buffers.{cleared_but}
use Rattle.nm_types.specs.OwnPorts.{OwnPort, OwnState, Arrival, buffers_in, held_if}
use Rattle.nm_types.specs.OwnSyncs.{opened_tx_ring, opened_port, opened_slot, with_link, with_arrival, buffers_of_arrivals, own_after_open}
use Rattle.nm_types.proofs.RingSteps.{dist-below, dist-cases, dist_self, dist_behind}
use Rattle.vale_entry.specs.World.{World, Port, free_count}
use Rattle.nm_types.specs.Openings.{open_refusal as names_refusal}
use Rattle.vale_entry.specs.Opening.{is_ring_size, are_sizes, names_of, refusal_or_room, open_refusal}
use Rattle.vale_entry.proofs.Counting.{count_of, count_of-cons, count_of-append}
use Rattle.vale_entry.proofs.Each.{each-append}
use Rattle.vale_own.specs.Side.{buffers_on, size_if, id_of, port_of_side, IsPending, IsTxRing, IsTxRingIf, IsRxRing, IsSoundPort, IsSound}
use Rattle.vale_own.proofs.SidePlaces.{each-slot}
use Rattle.vale_own.proofs.SideMoves.{bytes-length, one_if, came-other}
use Rattle.vale_own.proofs.Arriving.{count-taken}

-- the sizes of a port that is not refused
pub record Sized (tx rx : ℕ) : Type 0 where
  pub tx_size : (tx ≡ 0) ⊎ IsRingSize tx
  pub rx_size : IsRingSize rx

sizes-by : (b : Bool) (rest : Option OpenFault) → cond (not b) (Some BadSize) rest ≡ None → b ≡ true
sizes-by true rest e = refl
sizes-by false rest e = absurd cc

refusal-none : (refusal : Option OpenFault) (want have : ℕ) → refusal_or_room refusal want have ≡ None → refusal ≡ None
refusal-none (Some fault) want have e = absurd cc
refusal-none None want have e = refl

ring-size : (size : ℕ) → is_ring_size size ≡ true → IsRingSize size
ring-size size e = let parts = and_parts (nat_le 2 size) (nat_le size most_ring) e in (leb-true 2 size parts.0, leb-true size most_ring parts.1)

pub opened-allowed : (w : World) (name : List ℕ) (tx rx extra : ℕ) → open_refusal w name tx rx extra ≡ None → are_sizes name tx rx extra ≡ true
opened-allowed w name tx rx extra e = sizes-by (are_sizes name tx rx extra) _ (refusal-none (names_refusal (names_of w.ports) name tx rx extra) (tx + rx + extra) (free_count w) e)

pub opened-sizes : (w : World) (name : List ℕ) (tx rx extra : ℕ) → open_refusal w name tx rx extra ≡ None → Sized tx rx
opened-sizes w name tx rx extra e =
    let sizes = opened-allowed w name tx rx extra e in
    let rings = and_parts _ (is_ring_size rx && nat_le extra most_extra) sizes in
    let ring = and_parts (is_ring_size rx) (nat_le extra most_extra) rings.1 in
    record { tx_size = by (is_monitor_name name) rings.0; rx_size = ring-size rx ring.0 }
  where
    by : (b : Bool) → cond b (tx == 0) (is_ring_size tx) ≡ true → (tx ≡ 0) ⊎ IsRingSize tx
    by true is = inl (eqb-true tx 0 is)
    by false is = inr (ring-size tx is)

-- the rings of an opened port
opened-whole : (size : ℕ) → IsRingSize size → dist size (step_on size (size - 1) 1) 0 ≡ 0
opened-whole size is =
    let behind = dist_behind size 0 (size - 1) (omega (arith, is.0)) (omega (arith, is.0)) in
    let all = dist-cases size 0 (size - 1) (omega (arith, is.0)) (omega (arith, is.0)) in
    let below = dist-below size 0 (size - 1) (omega (arith, is.0)) in
    none (dist size (step_on size (size - 1) 1) 0) (dist size 0 (size - 1)) size behind all below is.0
  where
    none : (e d size : ℕ) → e ≡ size - 1 - d → (0 + d ≡ size - 1) ⊎ (0 + d ≡ size - 1 + size) → d < size → 2 ≤ size → e ≡ 0
    none e d size is all below two = grind arith

opened-tx : (size : ℕ) (bufs : List ℕ) → (size ≡ 0) ⊎ IsRingSize size → length bufs ≡ size → IsTxRingIf (opened_tx_ring size bufs)
opened-tx size bufs is long = elim (cases_Bool (size == 0)) [
  | inl none ↦ rw none tt
  | inr some ↦ rw some (ring (sized is some))
]
  where
    sized : (size ≡ 0) ⊎ IsRingSize size → (size == 0) ≡ false → IsRingSize size
    sized (inl zero-is) some = absurd (let both = eq-eqb size 0 zero-is in cc)
    sized (inr fits) some = fits

    ring : IsRingSize size → IsTxRing (record { ring = opened_tx size; slots = map opened_slot bufs; held = bufs })
    ring fits = record {
      positions = record { is_size = fits; accepted = omega (arith, fits.0); within = omega (arith, fits.0); one_tail = refl };
      slots = length-map bufs opened_slot ∙ long;
      held = long;
      pending = each-slot (IsPending (record { ring = opened_tx size; slots = map opened_slot bufs; held = bufs })) size (step_on size (size - 1) 1) (dist size (step_on size (size - 1) 1) 0)
          (λ k below. absurd (let none = opened-whole size fits in omega (arith, none, below)));
    }

opened-rx-is : (size : ℕ) → IsRingSize size → IsRxRing (record { ring = opened_rx size; slots = []; held = [] })
opened-rx-is size fits =
    let none = dist_self size 0 (omega (arith, fits.0)) in
    record {
      positions = record { is_size = fits; accepted = omega (arith, fits.0); within = omega (arith, fits.0); one_tail = refl };
      slots = sym none;
      held = sym none;
    }

-- its buffers
opened-held : (b tx : ℕ) (bufs : List ℕ) → count_of b (held_if (opened_tx_ring tx (take tx bufs)) ++ ([] ++ drop tx bufs)) ≡ count_of b bufs
opened-held b tx bufs = elim (cases_Bool (tx == 0)) [
  | inl none ↦ rw none (let is = eqb-true tx 0 none in ap (λ (n : ℕ). count_of b (drop n bufs)) is)
  | inr some ↦ rw some (count_of-append b (take tx bufs) (drop tx bufs) ∙ count-taken b tx bufs)
]

-- links
links-length : (pairs : List (ℕ × ℕ)) (bytes : List (List ℕ)) → length (fold with_link bytes pairs) ≡ length bytes
links-length [] bytes = refl
links-length ((buffer, next) ∷ pairs) bytes = links-length pairs (with_link bytes (buffer, next)) ∙ length-set bytes buffer (linked next (cleared_but []))

links-other : (extras nexts : List ℕ) (bytes : List (List ℕ)) (b : ℕ) → count_of b extras ≡ 0 → get_or (fold with_link bytes (zip extras nexts)) b [] ≡ get_or bytes b []
links-other [] nexts bytes b none = refl
links-other (x ∷ extras) [] bytes b none = refl
links-other (x ∷ extras) (next ∷ nexts) bytes b none =
    let all = count_of-cons b x extras in
    elim (cases_Bool (x == b)) [
      | inl here ↦ absurd (let one : one_if (x == b) ≡ one_if true = ap one_if here in omega (arith, all, none, one))
      | inr other ↦ (let no : one_if (x == b) ≡ one_if false = ap one_if other in
          links-other extras nexts (with_link bytes (x, next)) b (omega (arith, all, none, no))
          ∙ get_or-set_other bytes x b (linked next (cleared_but [])) [] (λ e. eqb-false x b other (sym e)))
    ]

flat-last : (ports : List OwnPort) (p : OwnPort) (b : ℕ) → count_of b (flat_map buffers_in (ports ++ p ∷ [])) ≡ count_of b (flat_map buffers_in ports) + count_of b (buffers_in p)
flat-last [] p b = let all = count_of-append b (buffers_in p) [] in omega (arith, all)
flat-last (q ∷ ports) p b =
    let rest = flat-last ports p b in
    let new = count_of-append b (buffers_in q) (flat_map buffers_in (ports ++ p ∷ [])) in
    let old = count_of-append b (buffers_in q) (flat_map buffers_in ports) in
    omega (arith, rest, new, old)

distinct-last : (ns : List ℕ) (n : ℕ) → Each (λ (m : ℕ). m < n) ns → IsDistinct nat_eq ns → IsDistinct nat_eq (ns ++ n ∷ [])
unfolding IsDistinct
distinct-last [] n below apart = (tt, tt)
distinct-last (m ∷ ns) n below apart =
    (each-append (λ y. nat_eq m y ≡ false) ns (n ∷ []) apart.0 (ne_eqb m n (λ e. let less = below.0 in omega (arith, less, e)), tt), distinct-last ns n below.1 apart.1)

module _ (id : ℕ) (name : List ℕ) (tx rx extra : ℕ) (came : List Arrival) (s : OwnState) (sound : IsSound s) (later : Each (λ (n : ℕ). n < id) (map id_of s.ports)) (sized : Sized tx rx) (enough : length (buffers_of_arrivals came) ≡ tx + extra) where
  abbrev bufs : List ℕ
  bufs = buffers_of_arrivals came

  abbrev port : OwnPort
  port = opened_port id name tx rx bufs

  front : length (take tx bufs) ≡ tx
  front = length-take-le tx bufs (omega (arith, enough))

  behind : length (drop tx bufs) ≡ extra
  behind = let all = length-drop tx bufs in omega (arith, all, enough)

  pub opened-counts : (b : ℕ) → count_of b (buffers_on (own_after_open id name tx rx came s)) + 0 ≡ count_of b (buffers_on s) + count_of b bufs
  opened-counts b = let all = flat-last s.ports port b in let new = opened-held b tx bufs in omega (arith, all, new)

  pub opened-sound : IsSound (own_after_open id name tx rx came s)
  opened-sound = record {
    each = each-append IsSoundPort s.ports (port ∷ []) sound.each (record { tx = opened-tx tx (take tx bufs) sized.tx_size front; rx = opened-rx-is rx sized.rx_size }, tt);
    apart = rw (map-append id_of s.ports (port ∷ [])) (distinct-last (map id_of s.ports) id later sound.apart);
    cells = links-length (zip (drop tx bufs) (opened_links (drop tx bufs))) (fold with_arrival s.bytes came) ∙ (bytes-length [] came s.bytes ∙ sound.cells);
    blank = λ b none.
        let all = opened-counts b in
        let cut = count-taken b tx bufs in
        links-other (drop tx bufs) (opened_links (drop tx bufs)) (fold with_arrival s.bytes came) b (omega (arith, all, none, cut))
        ∙ (came-other came s.bytes b (omega (arith, all, none)) ∙ sound.blank b (omega (arith, all, none)));
  }

  pub opened-ports : (session : ℕ) → map (port_of_side session None) (own_after_open id name tx rx came s).ports
      ≡ map (port_of_side session None) s.ports ++ (record { id = id; session = session; name = name; tx = tx; rx = rx; extra = extra; shutting = false; out = 0; line = [] }) ∷ []
  opened-ports session = map-append (port_of_side session None) s.ports (port ∷ []) ∙ ap (λ (p : Port). map (port_of_side session None) s.ports ++ p ∷ []) seen
    where
      size-is : size_if (opened_tx_ring tx (take tx bufs)) ≡ tx
      size-is = elim (cases_Bool (tx == 0)) [
        | inl none ↦ rw none (sym (eqb-true tx 0 none))
        | inr some ↦ rw some refl
      ]

      seen : port_of_side session None port ≡ record { id = id; session = session; name = name; tx = tx; rx = rx; extra = extra; shutting = false; out = 0; line = [] }
      seen = rw (size-is, behind) refl
