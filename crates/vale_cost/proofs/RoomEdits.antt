-- What a user writes on its own side makes no more wait than it puts.
use Rattle.std.proofs.Common.{ℕ, zero, suc, ◌+◌, ◌<◌, ◌≤◌, ◌≡◌, Bool, true, false, cond, not, ◌&&◌, ◌==◌, nat_le, List, [], ◌∷◌, map, length, Option, Some, None, option_map, refl, sym, ◌∙◌, ap, ap₂, subst, arith, length-append}
use Rattle.std.specs.Prelude.{◌*◌, option_and_then, is_none, find}
use Rattle.std.specs.Option.{option_map_or}
use Rattle.std.specs.List.{AllByRecursion as Each}
use Rattle.std.proofs.lemmas.Bool.{and_parts, leb-true, leb-false}
use Rattle.nm_types.specs.declared.id.Side.{Side}
use Rattle.nm_types.specs.declared.id.Side.TheVariants.{Tx}
use Rattle.nm_types.specs.Positions.{RingState, IsRing, FitsRing, dist, step_on, is_user_slot, pending_slots, pushed_slots}
use Rattle.nm_types.specs.Slots.{SlotState}
use Rattle.nm_types.specs.Limits.{buffer_bytes}
use Rattle.nm_types.specs.Parts.{slots_of_bytes, parts_of}
use Rattle.nm_types.specs.SyncChecks.{ring_refusal}
use Rattle.nm_types.specs.OwnPorts.{OwnRing, OwnPort, OwnState, port_with_id, port_with_name, port_if, ring_on, ring_at, slot_in, with_slot}
use Rattle.nm_types.specs.OwnEdits.{SlotPlace, has_slots, with_all_back, ring_at_positions, slot_written, with_user_slot, with_written_slot, with_slot_field, user_slot_at, slot_of_place, slot_naming, with_two_slots, with_slots_swapped, with_slot_of_place, with_written, with_part, with_part_on, with_parts, with_frame, ring_with_part, extra_number, with_head_of_chain, link_in, with_extra_link_in, with_extra_link}
use Rattle.nm_types.specs.declared.slot.SlotWrite.{SlotWrite}
use Rattle.nm_types.proofs.PartLemmas.{length-parts}
use Rattle.nm_types.proofs.RingSteps.{length-slots_from, dist-below, dist-add, step_on-below}
use Rattle.vale_entry.proofs.Each.{each-find}
use Rattle.vale_script.specs.declared.script.Act.{Act}
use Rattle.vale_script.specs.declared.script.Act.TheVariants as acts
use Rattle.vale_replay.specs.Edits.{change_found, at_port, poked, field_written, changed_by}
use Rattle.vale_own.proofs.SideEditing.{ring-there, written-ports}
use Rattle.vale_own.proofs.SideExchange.{ring-passes}
use Rattle.vale_cost.specs.Completeness.{Cost, Sends, Bytes, Calls, Opens, one_if_some, cost_of_ring, slots_waiting, sends_waiting, waiting, IsPlainAct}
use Rattle.vale_cost.proofs.RoomViews.{View, AreTidy, IsRingIf, IsRingAt, ring_of, seen, views, weight, total, with_view, view_if, waiting-views, total-changed, each-id, ids-changed, rings-all, find-seen, seen-tx, seen-rx, seen-still}

-- ---- edits that leave the views

still-at : (name : List ℕ) (change : ℕ → OwnState → OwnState) (s : OwnState) → ((id : ℕ) → views (change id s) ≡ views s) → views (at_port name change s) ≡ views s
still-at name change s each = by (port_with_name s name)
  where
    by : (found : Option OwnPort) → views (change_found change s found) ≡ views s
    by None = refl
    by (Some p) = each p.id.0

still-slot : (side : Side) (id at : ℕ) (slot : SlotState) (s : OwnState) → views (with_user_slot side id at slot s) ≡ views s
still-slot side id at slot s = seen-still id (λ (r : OwnRing). cond (is_user_slot r.ring at) (with_slot side at slot r) r) side (λ r. by r (is_user_slot r.ring at)) s.ports
  where
    by : (r : OwnRing) (b : Bool) → (cond b (with_slot side at slot r) r).ring ≡ r.ring
    by r true = refl
    by r false = refl

still-poke : (side : Side) (id at : ℕ) (write : SlotWrite) (s : OwnState) → views (with_slot_field side id at write s) ≡ views s
still-poke side id at write s = by (user_slot_at side s id at)
  where
    by : (found : Option SlotState) → views (with_written_slot side id at write s found) ≡ views s
    by None = refl
    by (Some slot) = still-slot side id at (slot_written write slot) s

still-swap : (announce : Bool) (here there : SlotPlace) (s : OwnState) → views (with_slots_swapped announce here there s) ≡ views s
still-swap announce here there s = by (slot_of_place s here) (slot_of_place s there)
  where
    by : (one other : Option SlotState) → views (with_two_slots announce here there s one other) ≡ views s
    by (Some a) (Some b) =
        still-slot there.side there.port there.at (slot_naming announce a.buf_idx b) (with_slot_of_place here (slot_naming announce b.buf_idx a) s)
        ∙ still-slot here.side here.port here.at (slot_naming announce b.buf_idx a) s
    by (Some a) None = refl
    by None other = refl

still-head : (id idx : ℕ) (s : OwnState) → views (with_head_of_chain id idx s) ≡ views s
still-head id idx s = over s.ports
  where
    by : (p : OwnPort) (b : Bool) → seen (cond b (record p { extra_head = idx }) p) ≡ seen p
    by p true = refl
    by p false = refl

    over : (ports : List OwnPort) → map seen (map (port_if id (λ (p : OwnPort). record p { extra_head = idx })) ports) ≡ map seen ports
    over [] = refl
    over (p ∷ ports) = ap₂ (λ (v : View) (vs : List View). v ∷ vs) (by p (p.id.0 == id)) (over ports)

still-link : (id from to : ℕ) (s : OwnState) → views (with_extra_link id from to s) ≡ views s
still-link id from to s = by (port_with_id s id)
  where
    link : (p : OwnPort) (at next : ℕ) → views (link_in id p at next s) ≡ views s
    link p zero next = still-head id next s
    link p (suc at) next = refl

    by-test : (p : OwnPort) (b : Bool) → views (cond b (link_in id p from (extra_number p to) s) s) ≡ views s
    by-test p true = link p from (extra_number p to)
    by-test p false = refl

    by : (found : Option OwnPort) → views (with_extra_link_in id from to s found) ≡ views s
    by None = refl
    by (Some p) = by-test p (nat_le from (length p.extra) && nat_le to (length p.extra))

pub act-still : (act : Act) (s : OwnState) → IsPlainAct act → views (changed_by act s) ≡ views s
act-still (acts.Rx name keep) s plain = still-at name with_all_back s (λ id. seen-rx id (λ (r : OwnRing). ring_at_positions r.ring.tail r.ring.tail r) s.ports)
act-still (acts.Fwd from to count) s plain = absurd plain
act-still (acts.Poke name side slot field value) s plain = still-at name (poked side slot field value) s (λ id. still-poke side id slot (field_written field value) s)
act-still (acts.Move name side head cur) s plain = absurd plain
act-still (acts.Swap name side slot other other_side other_slot quiet) s plain =
    still-at name (λ id. at_port other (λ other_id. with_slots_swapped (not quiet) (record { side = side; port = id; at = slot }) (record { side = other_side; port = other_id; at = other_slot }))) s
    (λ id. still-at other (λ other_id. with_slots_swapped (not quiet) (record { side = side; port = id; at = slot }) (record { side = other_side; port = other_id; at = other_slot })) s
    (λ other_id. still-swap (not quiet) (record { side = side; port = id; at = slot }) (record { side = other_side; port = other_id; at = other_slot }) s))
act-still (acts.Extra name i j) s plain = still-at name (λ id. with_extra_link id i j) s (λ id. still-link id i j s)
act-still _ s plain = refl

-- ---- a frame that is put

abbrev stepped_ring : RingState → RingState
stepped_ring ring = record ring { head = step_on ring.size ring.head 1; cur = step_on ring.size ring.head 1 }

one-farther : (ring : RingState) → IsRing ring → ring.head < ring.size → dist ring.size ring.accepted_head (step_on ring.size ring.head 1) ≤ dist ring.size ring.accepted_head ring.head + 1
one-farther ring is inside = by (nat_le ring.size (dist ring.size ring.accepted_head ring.head + 1)) refl
  where
    by : (b : Bool) → nat_le ring.size (dist ring.size ring.accepted_head ring.head + 1) ≡ b
        → dist ring.size ring.accepted_head (step_on ring.size ring.head 1) ≤ dist ring.size ring.accepted_head ring.head + 1
    by true e =
        let full = leb-true ring.size (dist ring.size ring.accepted_head ring.head + 1) e in
        let below = dist-below ring.size ring.accepted_head (step_on ring.size ring.head 1) is.accepted in
        omega (arith, full, below)
    by false e =
        let room = leb-false ring.size (dist ring.size ring.accepted_head ring.head + 1) e in
        let same = dist-add ring.size ring.accepted_head ring.head 1 is.accepted inside room in
        omega (arith, same)

one-more : (pipe : Bool) (ring : RingState) → IsRing ring → ring.head < ring.size → slots_waiting pipe (stepped_ring ring) ≤ slots_waiting pipe ring + 1
one-more pipe ring is inside = by pipe
  where
    pushed : length (pushed_slots (stepped_ring ring) (stepped_ring ring).head) ≤ length (pushed_slots ring ring.head) + 1
    pushed =
        let new = length-slots_from ring.size ring.accepted_head (dist ring.size ring.accepted_head (step_on ring.size ring.head 1)) in
        let old = length-slots_from ring.size ring.accepted_head (dist ring.size ring.accepted_head ring.head) in
        let farther = one-farther ring is inside in
        omega (arith, new, old, farther)

    by : (b : Bool) → slots_waiting b (stepped_ring ring) ≤ slots_waiting b ring + 1
    by true =
        let one = length-append (pending_slots ring) (pushed_slots (stepped_ring ring) (stepped_ring ring).head) in
        let other = length-append (pending_slots ring) (pushed_slots ring ring.head) in
        omega (arith, one, other, pushed)
    by false = pushed

-- so many steps
abbrev stepped_times : ℕ → RingState → RingState
stepped_times zero ring = ring
stepped_times (suc count) ring = stepped_times count (stepped_ring ring)

stepped-is : (ring : RingState) → IsRing ring → IsRing (stepped_ring ring)
stepped-is ring is = record { is_size = is.is_size; accepted = is.accepted; within = is.within; one_tail = is.one_tail }

stepped-was : (ring : RingState) → IsRing (stepped_ring ring) → IsRing ring
stepped-was ring is = record { is_size = is.is_size; accepted = is.accepted; within = is.within; one_tail = is.one_tail }

times-is : (count : ℕ) (ring : RingState) → IsRing ring → IsRing (stepped_times count ring)
times-is zero ring is = is
times-is (suc count) ring is = times-is count (stepped_ring ring) (stepped-is ring is)

times-was : (count : ℕ) (ring : RingState) → IsRing (stepped_times count ring) → IsRing ring
times-was zero ring is = is
times-was (suc count) ring is = stepped-was ring (times-was count (stepped_ring ring) is)

slots-more : (count : ℕ) (pipe : Bool) (ring : RingState) → IsRing ring → ring.head < ring.size → slots_waiting pipe (stepped_times count ring) ≤ slots_waiting pipe ring + count
slots-more zero pipe ring is inside = omega arith
slots-more (suc count) pipe ring is inside =
    let one = one-more pipe ring is inside in
    let rest = slots-more count pipe (stepped_ring ring) (stepped-is ring is) (step_on-below ring.size ring.head 1 inside) in
    omega (arith, one, rest)

sends-most : (pipe : Bool) (ring : RingState) → sends_waiting pipe ring ≤ 1
sends-most true ring = omega arith
sends-most false ring = by (length (pushed_slots ring ring.head))
  where
    by : (n : ℕ) → one_if_some n ≤ 1
    by zero = omega arith
    by (suc n) = omega arith

-- what a frame of so many slots adds to what waits
abbrev pub added : Cost → ℕ → ℕ
added Sends slots = 1
added Bytes slots = buffer_bytes * slots
added Calls slots = 0
added (Opens switch) slots = 0

cost-more : (c : Cost) (count : ℕ) (pipe : Bool) (ring : RingState) → IsRing ring → ring.head < ring.size → cost_of_ring c pipe (stepped_times count ring) ≤ cost_of_ring c pipe ring + added c count
cost-more Sends count pipe ring is inside = let most = sends-most pipe (stepped_times count ring) in omega (arith, most)
cost-more Bytes count pipe ring is inside = let more = slots-more count pipe ring is inside in omega (arith, more)
cost-more Calls count pipe ring is inside = omega arith
cost-more (Opens switch) count pipe ring is inside = omega arith

-- what an edit makes of a side: it stays tidy, and so much more waits at most
pub record IsEdit (s new : OwnState) (more : Cost → ℕ) : Type 0 where
  pub tidy : AreTidy (views s) → AreTidy (views new)
  pub back : AreTidy (views new) → AreTidy (views s)
  pub less : (c : Cost) → AreTidy (views s) → waiting c new ≤ waiting c s + more c
  pub ids : (k : ℕ) → Each (λ (v : View). v.id ≤ k) (views s) → Each (λ (v : View). v.id ≤ k) (views new)

pub still-edit : (s new : OwnState) (more : Cost → ℕ) → views new ≡ views s → IsEdit s new more
still-edit s new more same = record {
  tidy = λ tidy. subst AreTidy (sym same) tidy;
  back = λ tidy. subst AreTidy same tidy;
  less = λ c tidy. let one = waiting-views c new in let other = waiting-views c s in let e = ap (total c) same in omega (arith, one, other, e);
  ids = λ k all. subst (Each (λ (v : View). v.id ≤ k)) (sym same) all;
}

rings-before : (id count : ℕ) (vs : List View) → Each IsRingAt (map (view_if id (stepped_times count)) vs) → Each IsRingAt vs
rings-before id count [] all = tt
rings-before id count (v ∷ vs) all = (by (v.id == id) all.0, rings-before id count vs all.1)
  where
    ring-of : (ring : Option RingState) → IsRingIf (option_map (stepped_times count) ring) → IsRingIf ring
    ring-of None is = tt
    ring-of (Some r) is = times-was count r is

    by : (b : Bool) → IsRingAt (cond b (with_view (stepped_times count) v) v) → IsRingIf v.ring
    by true is = ring-of v.ring is
    by false is = is

some-none : {X : Type 0} (o : Option X) → is_none o ≡ true → o ≡ None
some-none None e = refl
some-none (Some x) e = absurd cc

weight-stepped : (c : Cost) (count : ℕ) (v : View) → IsRingAt v → ((ring : RingState) → v.ring ≡ Some ring → ring.head < ring.size)
    → weight c (with_view (stepped_times count) v) ≤ weight c v + added c count
weight-stepped c count v is inside = by v.ring refl is
  where
    by : (ring : Option RingState) → v.ring ≡ ring → IsRingIf ring
        → weight c (with_view (stepped_times count) (record { id = v.id; pipe = v.pipe; ring = ring })) ≤ weight c (record { id = v.id; pipe = v.pipe; ring = ring }) + added c count
    by None e is' = omega arith
    by (Some ring) e is' = cost-more c count v.pipe ring is' (inside ring e)

find-ring : (id : ℕ) (vs : List View) (v : View) → Each IsRingAt vs → find (λ (w : View). w.id == id) vs ≡ Some v → IsRingAt v
find-ring id vs v all e = each-find IsRingAt (λ (w : View). w.id == id) vs v all e

frame-put : (id count : ℕ) (s : OwnState) (new : OwnState) (p : OwnPort) (r : OwnRing) → port_with_id s id ≡ Some p → p.tx ≡ Some r → r.ring.head < r.ring.size
    → views new ≡ map (view_if id (stepped_times count)) (views s) → IsEdit s new (λ c. added c count)
frame-put id count s new p r found has within same = record {
  tidy = λ tidy. subst AreTidy (sym same) (record { apart = rw (ids-changed id (stepped_times count) (views s)) tidy.apart; rings = rings-all id (stepped_times count) (times-is count) (views s) tidy.rings });
  back = λ tidy.
      let t = subst AreTidy same tidy in
      record { apart = rw (← ids-changed id (stepped_times count) (views s)) t.apart; rings = rings-before id count (views s) t.rings };
  less = λ c tidy.
      let there = find-seen id s.ports p found in
      let change = total-changed id (stepped_times count) c (views s) (seen p) tidy.apart there in
      let more = weight-stepped c count (seen p) (find-ring id (views s) (seen p) tidy.rings there) inside in
      let after = waiting-views c new ∙ ap (total c) same in
      let before = waiting-views c s in
      omega (arith, change, more, after, before);
  ids = λ k all. subst (Each (λ (v : View). v.id ≤ k)) (sym same) (each-id id (stepped_times count) k (views s) all);
}
  where
    inside : (ring : RingState) → (seen p).ring ≡ Some ring → ring.head < ring.size
    inside ring e =
        let is : Some r.ring ≡ Some ring = sym (ap (option_map ring_of) has) ∙ e in
        let one : r.ring ≡ ring = cc in
        subst (λ (x : RingState). x.head < x.size) one within

-- ---- part by part

views-twice : (id : ℕ) (f g : RingState → RingState) (vs : List View) → map (view_if id g) (map (view_if id f) vs) ≡ map (view_if id (λ ring. g (f ring))) vs
views-twice id f g [] = refl
views-twice id f g (v ∷ vs) = ap₂ (λ (w : View) (ws : List View). w ∷ ws) (by (v.id == id) refl v.ring refl) (views-twice id f g vs)
  where
    by : (b : Bool) → (v.id == id) ≡ b → (ring : Option RingState) → v.ring ≡ ring → view_if id g (cond b (with_view f v) v) ≡ cond b (with_view (λ ring. g (f ring)) v) v
    by true is None has = rw (is, has) refl
    by true is (Some r) has = rw (is, has) refl
    by false is ring has = rw is refl

-- a part is put where there is a ring, and the ring is one step farther
part-views : (id : ℕ) (more : Bool) (part : List ℕ) (s : OwnState) (r : OwnRing) → ring_at Tx s id ≡ Some r → views (with_part id more part s) ≡ map (view_if id stepped_ring) (views s)
part-views id more part s r at =
    let t = with_written (slot_in Tx r r.ring.head).buf_idx part s in
    ap (λ (o : Option OwnRing). views (with_part_on id more part s o)) at
    ∙ (seen-tx id (ring_with_part more part) stepped_ring (λ x. refl) t.ports
    ∙ ap (λ (ports : List OwnPort). map (view_if id stepped_ring) (map seen ports)) (written-ports (slot_in Tx r r.ring.head).buf_idx part s))

-- and the ring is there still
part-there : (id : ℕ) (more : Bool) (part : List ℕ) (s : OwnState) (r : OwnRing) → ring_at Tx s id ≡ Some r → ring_at Tx (with_part id more part s) id ≡ Some (ring_with_part more part r)
part-there id more part s r at =
    let idx = (slot_in Tx r r.ring.head).buf_idx in
    let t = with_written idx part s in
    let there : ring_at Tx t id ≡ Some r = ap (λ (ports : List OwnPort). option_and_then (ring_on Tx) (find (λ (p : OwnPort). p.id.0 == id) ports)) (written-ports idx part s) ∙ at in
    ap (λ (o : Option OwnRing). ring_at Tx (with_part_on id more part s o) id) at ∙ ring-there id (ring_with_part more part) t r there

parts-views : (id : ℕ) (parts : List (List ℕ)) (s : OwnState) (r : OwnRing) → ring_at Tx s id ≡ Some r → views (with_parts id parts s) ≡ map (view_if id (stepped_times (length parts))) (views s)
parts-views id [] s r at = sym (views-same id (views s))
  where
    views-same : (id : ℕ) (vs : List View) → map (view_if id (stepped_times 0)) vs ≡ vs
    views-same id [] = refl
    views-same id (v ∷ vs) = ap₂ (λ (w : View) (ws : List View). w ∷ ws) (by (v.id == id) v.ring refl) (views-same id vs)
      where
        by : (b : Bool) (ring : Option RingState) → v.ring ≡ ring → cond b (with_view (stepped_times 0) v) v ≡ v
        by true None has = ap (λ (o : Option RingState). record { id = v.id; pipe = v.pipe; ring = option_map (stepped_times 0) o }) has ∙ ap (λ (o : Option RingState). record { id = v.id; pipe = v.pipe; ring = o }) (sym has)
        by true (Some x) has = ap (λ (o : Option RingState). record { id = v.id; pipe = v.pipe; ring = option_map (stepped_times 0) o }) has ∙ ap (λ (o : Option RingState). record { id = v.id; pipe = v.pipe; ring = o }) (sym has)
        by false ring has = refl
parts-views id (part ∷ parts) s r at =
    let more = not (length parts == 0) in
    parts-views id parts (with_part id more part s) (ring_with_part more part r) (part-there id more part s r at)
    ∙ (ap (map (view_if id (stepped_times (length parts)))) (part-views id more part s r at)
    ∙ views-twice id stepped_ring (stepped_times (length parts)) (views s))

pub frame-edit : (id : ℕ) (bytes : List ℕ) (s : OwnState) → IsEdit s (with_frame id bytes s) (λ c. added c (slots_of_bytes bytes))
frame-edit id bytes s = by-port (port_with_id s id) refl
  where
    n : ℕ
    n = slots_of_bytes bytes

    by-room : (p : OwnPort) (r : OwnRing) (b : Bool) → port_with_id s id ≡ Some p → p.tx ≡ Some r → has_slots n r ≡ b
        → IsEdit s (cond b (with_parts id (parts_of bytes) s) s) (λ c. added c n)
    by-room p r false found has room = still-edit s s (λ c. added c n) refl
    by-room p r true found has room =
        let at : ring_at Tx s id ≡ Some r = ap (option_and_then (ring_on Tx)) found ∙ has in
        let fits : FitsRing r.ring r.ring.head r.ring.cur = ring-passes r.ring (some-none (ring_refusal r.ring r.ring.head r.ring.cur) (and_parts (is_none (ring_refusal r.ring r.ring.head r.ring.cur)) (nat_le n (dist r.ring.size r.ring.head r.ring.tail)) room).0) in
        let count : length (parts_of bytes) ≡ n = length-parts n bytes in
        frame-put id n s (with_parts id (parts_of bytes) s) p r found has fits.head_within
        (parts-views id (parts_of bytes) s r at ∙ ap (λ (k : ℕ). map (view_if id (stepped_times k)) (views s)) count)

    by-ring : (p : OwnPort) (tx : Option OwnRing) → port_with_id s id ≡ Some p → p.tx ≡ tx
        → IsEdit s (cond (option_map_or (has_slots n) tx false) (with_parts id (parts_of bytes) s) s) (λ c. added c n)
    by-ring p None found has = still-edit s s (λ c. added c n) refl
    by-ring p (Some r) found has = by-room p r (has_slots n r) found has refl

    by-port : (found : Option OwnPort) → port_with_id s id ≡ found
        → IsEdit s (cond (option_map_or (has_slots n) (option_and_then (ring_on Tx) found) false) (with_parts id (parts_of bytes) s) s) (λ c. added c n)
    by-port None e = still-edit s s (λ c. added c n) refl
    by-port (Some p) e = by-ring p p.tx e refl
