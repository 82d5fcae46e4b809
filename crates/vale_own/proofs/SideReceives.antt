-- What a receive sync makes of a session's side.
use Rattle.std.proofs.Common.{ℕ, zero, suc, ◌+◌, ◌-◌, ◌<◌, ◌≤◌, ◌≡◌, ◌==◌, List, [], ◌∷◌, ◌++◌, map, take, drop, flat_map, length, get_or, Option, Some, None, option_map, refl, sym, ◌∙◌, ap, arith, length-append}
use Rattle.std.specs.List.{range_with_len}
use Rattle.std.proofs.lemmas.List.{length-map, length-drop, take-map}
use Rattle.nm_types.specs.declared.id.Side.TheVariants.{Rx}
use Rattle.nm_types.specs.Positions.{RingState, IsRing, dist, step_on, slots_from, pushed_slots}
use Rattle.nm_types.specs.OwnPorts.{OwnRing, OwnPort, OwnState, Arrival, buffers_in, held_if, buffer_in, port_with_id, with_ring_on, pushed_in, refusal_in}
use Rattle.nm_types.specs.OwnSyncs.{published, ring_after_receive, own_after_receive, after_exchange, buffers_of_arrivals, back_on, bytes_after}
use Rattle.nm_types.proofs.RingSteps.{dist-below, dist-step_on, dist-add, dist_split, length-slots_from}
use Rattle.vale_entry.specs.World.{changed_at}
use Rattle.vale_entry.specs.OwnCalls.{back_in}
use Rattle.vale_entry.proofs.Counting.{count_of, count_of-append}
use Rattle.vale_entry.proofs.Each.{each-find}
use Rattle.vale_own.specs.OwnEntries.{received_port}
use Rattle.vale_own.specs.Side.{buffers_on, port_of_side, IsRxRing, IsSoundPort, IsSound}
use Rattle.vale_own.proofs.Trading.{ring_renamed, port_renamed}
use Rattle.vale_own.proofs.SidePlaces.{in-port, in-ports}
use Rattle.vale_own.proofs.SideExchange.{traded, fits, sound-port, holds-names, exchanged-counts}
use Rattle.vale_own.proofs.SideSound.{Exchanged, exchanged}
use Rattle.vale_own.proofs.SideOffers.{accepted-ring}
use Rattle.vale_own.proofs.SideMoves.{changed-each, changed-ids, changed-counts, changed-seen, Moved}
use Rattle.vale_own.proofs.SideSends.{renamed-seen, ring-keeps-id}
use Rattle.vale_own.proofs.Arriving.{count-taken}

-- the first places of a receive ring are those of its first slots
drop-next : (xs : List ℕ) (a : ℕ) → a < length xs → drop a xs ≡ get_or xs a 0 ∷ drop (a + 1) xs
drop-next [] a below = absurd (omega arith)
drop-next (x ∷ xs) zero below = refl
drop-next (x ∷ xs) (suc a) below = let sums : suc a + 1 ≡ suc (a + 1) = omega arith in drop-next xs a (omega arith) ∙ ap (λ (n : ℕ). get_or xs a 0 ∷ drop n (x ∷ xs)) (sym sums)

front-from : (r : OwnRing) (first n : ℕ) → IsRing r.ring → first + n ≤ length r.held → first + n ≤ r.ring.size
    → map (buffer_in Rx r) (map (step_on r.ring.size r.ring.accepted_head) (range_with_len first n)) ≡ take n (drop first r.held)
front-from r first zero is within inside = refl
front-from r first (suc n) is within inside =
    let rest = front-from r (first + 1) n is (omega arith) (omega arith) in
    let steps = dist-step_on r.ring.size r.ring.accepted_head first is.accepted (omega arith) in
    let next = drop-next r.held first (omega arith) in
    rw (steps, next) (ap (λ (bs : List ℕ). get_or r.held first 0 ∷ bs) rest)

pub front-places : (r : OwnRing) (n : ℕ) → IsRing r.ring → n ≤ length r.held → n ≤ r.ring.size → map (buffer_in Rx r) (slots_from r.ring.size r.ring.accepted_head n) ≡ take n r.held
front-places r n is within inside = front-from r 0 n is (omega arith) (omega arith)

pub arrivals-length : (came : List Arrival) → length (buffers_of_arrivals came) ≡ length came
arrivals-length came = length-map came (λ (a : Arrival). a.buffer)

module _ (id : ℕ) (s : OwnState) (p : OwnPort) (sound : IsSound s) (once : (b : ℕ) → count_of b (buffers_on s) ≤ 1) (found : port_with_id s id ≡ Some p) (passes : refusal_in Rx s p p.rx ≡ None) (came : List Arrival) (room : length p.rx.held + length came < p.rx.ring.size) where
  abbrev to : ℕ → ℕ
  to = traded Rx id s p p.rx sound once found refl passes

  abbrev ring : RingState
  ring = p.rx.ring

  abbrev back : ℕ
  back = length (pushed_slots ring ring.head)

  port-is : IsSoundPort p
  port-is = sound-port Rx id s p p.rx sound once found refl passes

  back-is : back ≡ dist ring.size ring.accepted_head ring.head
  back-is = length-slots_from ring.size ring.accepted_head (dist ring.size ring.accepted_head ring.head)

  pub back-few : back ≤ length p.rx.held
  back-few =
      let count = back-is in
      let reach = (fits Rx id s p p.rx sound once found refl passes).head_reach in
      let held = port-is.rx.held in
      omega (arith, count, reach, held)

  traded-side : Exchanged Rx id s p to
  traded-side = exchanged Rx id s p p.rx sound once found refl passes

  received-ring : IsRxRing (ring_after_receive came (ring_renamed to p.rx))
  received-ring =
      let is = port-is.rx in
      let in-reach = fits Rx id s p p.rx sound once found refl passes in
      let tail : ring.last_tail < ring.size = (let w = is.positions.within in let o = is.positions.one_tail in omega arith) in
      let split = dist_split ring.size ring.accepted_head ring.head ring.last_tail is.positions.accepted in-reach.head_within tail in-reach.head_reach in
      let count = back-is in
      let slots = is.slots in
      let held = is.held in
      let far = dist-add ring.size ring.head ring.last_tail (length came) in-reach.head_within tail (omega (arith, split, room, held)) in
      record {
        positions = accepted-ring ring is.positions in-reach (length came);
        slots = length-append (drop back p.rx.slots) (map published came) ∙ sums (length (drop back p.rx.slots)) (length (map published came)) (length p.rx.slots) (length-drop back p.rx.slots) (length-map came published) slots count split far;
        held = length-append (drop back (map to p.rx.held)) (buffers_of_arrivals came)
            ∙ sums (length (drop back (map to p.rx.held))) (length (buffers_of_arrivals came)) (length (map to p.rx.held)) (length-drop back (map to p.rx.held)) (arrivals-length came) (length-map p.rx.held to ∙ held) count split far;
      }
    where
      sums : (a b k : ℕ) → a ≡ k - back → b ≡ length came → k ≡ dist ring.size ring.accepted_head ring.last_tail → back ≡ dist ring.size ring.accepted_head ring.head
          → dist ring.size ring.accepted_head ring.head + dist ring.size ring.head ring.last_tail ≡ dist ring.size ring.accepted_head ring.last_tail
          → dist ring.size ring.head (step_on ring.size ring.last_tail (length came)) ≡ dist ring.size ring.head ring.last_tail + length came
          → a + b ≡ dist ring.size ring.head (step_on ring.size ring.last_tail (length came))
      sums a b k ea eb ek count split far = omega (arith, ea, eb, ek, count, split, far)

  -- the buffers that go back stood in the first places
  pub gone-are : take back (map to p.rx.held) ≡ back_in p
  gone-are =
      let few = back-few in
      let count = back-is in
      let within = dist-below ring.size ring.accepted_head ring.head port-is.rx.positions.accepted in
      take-map to back p.rx.held
      ∙ (ap (map to) (sym (ap (λ (n : ℕ). map (buffer_in Rx p.rx) (slots_from ring.size ring.accepted_head n)) (sym count) ∙ front-places p.rx back port-is.rx.positions few (omega (arith, count, within))))
      ∙ holds-names Rx id s p p.rx sound once found refl passes)

  now-counts : (b : ℕ) → count_of b (flat_map buffers_in (after_exchange Rx id s).ports) ≡ count_of b (buffers_on s)
  now-counts = exchanged-counts Rx id s p p.rx sound once found refl passes

  back-names : back_on id s ≡ back_in p
  back-names = rw found refl

  port-counts : (b : ℕ) → count_of b (buffers_in (with_ring_on Rx (ring_after_receive came) (port_renamed to p))) + count_of b (back_in p) ≡ count_of b (buffers_in (port_renamed to p)) + count_of b (buffers_of_arrivals came)
  port-counts b =
      let held = map to p.rx.held in
      let tx = held_if (option_map (ring_renamed to) p.tx) in
      let extra = map to p.extra in
      let cut = count-taken b back held in
      let gone = ap (count_of b) gone-are in
      let old = count_of-append b tx (held ++ extra) in
      let old-rest = count_of-append b held extra in
      let new = count_of-append b tx ((drop back held ++ buffers_of_arrivals came) ++ extra) in
      let new-rest = count_of-append b (drop back held ++ buffers_of_arrivals came) extra in
      let new-held = count_of-append b (drop back held) (buffers_of_arrivals came) in
      omega (arith, cut, gone, old, old-rest, new, new-rest, new-held)

  pub received-moved : Moved s (own_after_receive id came s) (back_in p) came
  received-moved = record {
    pool_is = refl;
    each = changed-each id (with_ring_on Rx (ring_after_receive came)) (after_exchange Rx id s).ports (port_renamed to p) traded-side.sound.apart traded-side.found traded-side.sound.each
        (record { tx = (each-find IsSoundPort (λ (x : OwnPort). x.id.0 == id) (after_exchange Rx id s).ports (port_renamed to p) traded-side.sound.each traded-side.found).tx; rx = received-ring });
    apart = rw (changed-ids id (with_ring_on Rx (ring_after_receive came)) (ring-keeps-id Rx (ring_after_receive came)) (after_exchange Rx id s).ports) traded-side.sound.apart;
    bytes = ap (λ (gone : List ℕ). bytes_after gone came s.bytes) back-names;
    less = λ b.
        let cut = count-taken b back (map to p.rx.held) in
        let gone = ap (count_of b) gone-are in
        let port = in-port Rx (port_renamed to p) (ring_renamed to p.rx) b refl in
        let all = in-ports id (after_exchange Rx id s).ports (port_renamed to p) b traded-side.found in
        let same = now-counts b in
        omega (arith, cut, gone, port, all, same);
    moved = λ b.
        let same = now-counts b in
        let all = changed-counts id (with_ring_on Rx (ring_after_receive came)) b (count_of b (back_in p)) (count_of b (buffers_of_arrivals came)) (after_exchange Rx id s).ports (port_renamed to p) traded-side.sound.apart traded-side.found (port-counts b) in
        omega (arith, same, all);
  }

  pub received-ports : (session : ℕ) (shut : Option ℕ) → map (port_of_side session shut) (own_after_receive id came s).ports ≡ changed_at id (received_port (length came) (length (back_in p))) (map (port_of_side session shut) s.ports)
  received-ports session shut =
      changed-seen id (with_ring_on Rx (ring_after_receive came)) (port_of_side session shut) (received_port (length came) (length (back_in p))) (λ q. refl) (after_exchange Rx id s).ports (port_renamed to p) traded-side.sound.apart traded-side.found seen
      ∙ ap (changed_at id (received_port (length came) (length (back_in p)))) (ap (map (port_of_side session shut)) traded-side.ports ∙ renamed-seen session shut to s.ports)
    where
      names-length : length (back_in p) ≡ back
      names-length = length-map (pushed_in Rx p.rx) (λ x. x.slot.buf_idx) ∙ length-map (pushed_slots ring ring.head) _

      out-is : length (drop back (map to p.rx.held) ++ buffers_of_arrivals came) ≡ length (map to p.rx.held) + length came - length (back_in p)
      out-is =
          let both = length-append (drop back (map to p.rx.held)) (buffers_of_arrivals came) in
          let rest = length-drop back (map to p.rx.held) in
          let more = arrivals-length came in
          let names = names-length in
          let same = length-map p.rx.held to in
          let few = back-few in
          omega (arith, both, rest, more, names, same, few)

      seen : port_of_side session shut (with_ring_on Rx (ring_after_receive came) (port_renamed to p)) ≡ received_port (length came) (length (back_in p)) (port_of_side session shut (port_renamed to p))
      seen = rw out-is refl
