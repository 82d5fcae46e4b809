-- What an entry of a session's own takes of what waits on its side.
use Rattle.std.proofs.Common.{ℕ, zero, suc, ◌+◌, ◌-◌, ◌*◌, ◌<◌, ◌≤◌, ◌≡◌, Bool, true, false, cond, not, ◌==◌, List, [], ◌∷◌, ◌++◌, map, take, length, Option, Some, None, option_map, refl, sym, ◌∙◌, ap, subst, arith, length-append}
use Rattle.std.specs.Prelude.{◌%◌}
use Rattle.std.proofs.lemmas.Bool.{eqb-false}
use Rattle.std.proofs.lemmas.List.{length-map, length-drop}
use Rattle.std.proofs.lemmas.List.Sums.{sum_by-cons, sum_by-append}
use Rattle.std.proofs.lemmas.List.{map-append}
use Rattle.nm_types.specs.declared.id.PortId.{PortId}
use Rattle.nm_types.specs.declared.id.SessionId.{SessionId}
use Rattle.nm_types.specs.declared.id.Side.{Side}
use Rattle.nm_types.specs.declared.id.Side.TheVariants.{Tx, Rx}
use Rattle.nm_types.specs.declared.fault.SyncFault.{SyncFault}
use Rattle.nm_types.specs.Frames.{Frame, bytes_of_frames}
use Rattle.nm_types.specs.Names.{is_pipe_name}
use Rattle.nm_types.specs.Positions.{RingState, IsRing, FitsRing, dist, pending_slots, pushed_slots, opened_tx, step_on}
use Rattle.nm_types.specs.Reset.{reset_positions}
use Rattle.nm_types.specs.Slots.{pushed_frames}
use Rattle.nm_types.specs.OwnPorts.{OwnRing, OwnPort, OwnState, Arrival, bytes_at, named_of, is_whole, pushed_at, pushed_in, refusal_in, port_with_id, pushed_on}
use Rattle.nm_types.specs.OwnSyncs.{accepted, offered_slots, opened_port, buffers_of_arrivals, after_exchange, ring_after_send, ring_after_put, ring_after_receive, ring_after_reset, own_after_send, own_after_put, own_after_receive, own_after_reset, own_after_open, own_after_finish}
use Rattle.nm_types.proofs.JoinedFrames.{passed-sent}
use Rattle.nm_types.proofs.RingSteps.{length-slots_from, dist_self}
use Rattle.nm_types.proofs.Sizes.{length-size}
use Rattle.vale_entry.specs.declared.entry.Ask.{Ask}
use Rattle.vale_entry.specs.declared.entry.Ask.TheVariants.{Enter, Open, Send, Grant, Done, Sync, Reset, Shut, Finish, Leave, Put, PutKept, Get, Watch, Stat}
use Rattle.vale_entry.specs.declared.entry.Item.{Item}
use Rattle.vale_entry.specs.declared.entry.Reply.{Reply}
use Rattle.vale_entry.specs.declared.entry.Reply.TheVariants as replies
use Rattle.vale_entry.specs.OwnCalls.{or_reset, offered_items, item_at, own_by}
use Rattle.vale_entry.specs.Legal.{kept_items}
use Rattle.vale_entry.specs.Room.{bytes_of}
use Rattle.vale_entry.proofs.FrameBytes.{frames-slots}
use Rattle.std.proofs.Math.Nat.{mod_self}
use Rattle.vale_entry.proofs.Each.{each-find}
use Rattle.vale_own.specs.Side.{IsTxCall, IsPutCall, IsOfSide}
use Rattle.vale_own.proofs.SideExchange.{sync-fits, sync-passes}
use Rattle.vale_own.proofs.SideOffers.{left-pending}
use Rattle.vale_cost.specs.Completeness.{Cost, Sends, Bytes, Calls, Opens, cost, sends_of_ask, calls_of_ask, opened_by, one_if_some, cost_of_ring, slots_waiting, sends_waiting, waiting}
use Rattle.vale_cost.proofs.RoomViews.{AreTidy, IsRingIf, IsRingAt, is_view_at, ring_of, seen, views, weight, total, with_view, view_if, waiting-views, total-changed, total-less, find-seen, seen-tx, seen-rx, seen-exchanged, total-filter}

-- what an entry costs beside what it takes of what waits: its call pays it
abbrev pub call_of : Cost → Ask → Reply → ℕ
call_of Sends ask reply = 0
call_of Bytes ask reply = 0
call_of Calls ask reply = calls_of_ask ask
call_of (Opens switch) ask reply = opened_by switch ask reply

-- an entry brings a buffer for each frame that a pipe took, and each of those fits a buffer
abbrev pub BringsKept : Ask → Reply → List Arrival → Type 0
BringsKept (PutKept port offered) reply came = (length came ≡ length (kept_items reply)) × (bytes_of (PutKept port offered) reply ≤ 2048 * length (kept_items reply))
BringsKept (Put port offered) reply came = ⊥
BringsKept _ reply came = Unit {0}

-- ---- what waits in a ring

pub still-pushed : (ring : RingState) → ring.head < ring.size → (n : ℕ) → length (pushed_slots (accepted n ring) (accepted n ring).head) ≡ 0
still-pushed ring inside n = length-slots_from ring.size ring.head (dist ring.size ring.head ring.head) ∙ dist_self ring.size ring.head inside

none-pushed : (ring : RingState) → IsRing ring → length (pushed_slots (reset_positions ring) (reset_positions ring).head) ≡ 0
none-pushed ring is = length-slots_from ring.size ring.accepted_head (dist ring.size ring.accepted_head ring.accepted_head) ∙ dist_self ring.size ring.accepted_head is.accepted

slots-reset : (pipe : Bool) (ring : RingState) → IsRing ring → slots_waiting pipe (reset_positions ring) ≤ slots_waiting pipe ring
slots-reset pipe ring is = by pipe
  where
    by : (b : Bool) → slots_waiting b (reset_positions ring) ≤ slots_waiting b ring
    by true =
        let one = length-append (pending_slots ring) (pushed_slots (reset_positions ring) (reset_positions ring).head) in
        let other = length-append (pending_slots ring) (pushed_slots ring ring.head) in
        omega (arith, one, other, none-pushed ring is)
    by false = omega (arith, none-pushed ring is)

pub sends-none : (pipe : Bool) (ring : RingState) → length (pushed_slots ring ring.head) ≡ 0 → sends_waiting pipe ring ≡ 0
sends-none true ring none = refl
sends-none false ring none = ap one_if_some none

reset-less : (c : Cost) (pipe : Bool) (ring : RingState) → IsRing ring → cost_of_ring c pipe (reset_positions ring) ≤ cost_of_ring c pipe ring
reset-less Sends pipe ring is = let none = sends-none pipe (reset_positions ring) (none-pushed ring is) in omega (arith, none)
reset-less Bytes pipe ring is = let less = slots-reset pipe ring is in omega (arith, less)
reset-less Calls pipe ring is = omega arith
reset-less (Opens switch) pipe ring is = omega arith

put-less : (ring : RingState) → IsRing ring → FitsRing ring ring.head ring.cur → (n : ℕ) → n ≤ length (pending_slots ring ++ pushed_slots ring ring.head)
    → slots_waiting true (accepted n ring) + n ≡ slots_waiting true ring
put-less ring is fits n few =
    let all = length-append (pending_slots ring) (pushed_slots ring ring.head) in
    let one = length-slots_from ring.size (step_on ring.size ring.last_tail 1) (dist ring.size (step_on ring.size ring.last_tail 1) ring.accepted_head) in
    let two = length-slots_from ring.size ring.accepted_head (dist ring.size ring.accepted_head ring.head) in
    let left = ap (λ (xs : List ℕ). length xs) (left-pending ring is fits n (omega (arith, few, all, one, two))) in
    let dropped = length-drop n (pending_slots ring ++ pushed_slots ring ring.head) in
    let none = still-pushed ring fits.head_within n in
    let both = length-append (pending_slots (accepted n ring)) (pushed_slots (accepted n ring) (accepted n ring).head) in
    omega (arith, few, left, dropped, none, both)

-- ---- syncs of a transmit ring

weight-of : (c : Cost) (p : OwnPort) (r : OwnRing) (pipe : Bool) → p.tx ≡ Some r → is_pipe_name p.name ≡ pipe → weight c (seen p) ≡ cost_of_ring c pipe r.ring
weight-of c p r pipe has is = rw (has, is) refl

weight-with : (c : Cost) (g : RingState → RingState) (p : OwnPort) (r : OwnRing) (pipe : Bool) → p.tx ≡ Some r → is_pipe_name p.name ≡ pipe
    → weight c (with_view g (seen p)) ≡ cost_of_ring c pipe (g r.ring)
weight-with c g p r pipe has is = rw (has, is) refl

tx-changed : (c : Cost) (own new : OwnState) (id : ℕ) (g : RingState → RingState) (p : OwnPort) (r : OwnRing) (pipe : Bool) → AreTidy (views own) → port_with_id own id ≡ Some p
    → p.tx ≡ Some r → is_pipe_name p.name ≡ pipe → views new ≡ map (view_if id g) (views own)
    → waiting c new + cost_of_ring c pipe r.ring ≡ waiting c own + cost_of_ring c pipe (g r.ring)
tx-changed c own new id g p r pipe tidy found has is same =
    let change = total-changed id g c (views own) (seen p) tidy.apart (find-seen id own.ports p found) in
    let before = waiting-views c own in
    let after = waiting-views c new ∙ ap (total c) same in
    let one = weight-of c p r pipe has is in
    let two = weight-with c g p r pipe has is in
    omega (arith, change, before, after, one, two)

pub record SentAs (o : Option SyncFault) (pipe : Bool) (sent frames : List Frame) : Type 0 where
  pub none : o ≡ None
  pub is : pipe ≡ false
  pub frames_are : sent ≡ frames

pub sent-as : (o : Option SyncFault) (pipe : Bool) (id at : PortId) (items : List Item) (sent frames : List Frame)
    → or_reset o id Tx (cond pipe (Put id items) (Send id sent)) ≡ Send at frames → SentAs o pipe sent frames
sent-as None false id at items sent frames e = record { none = refl; is = refl; frames_are = cc }
sent-as None true id at items sent frames e = absurd cc
sent-as (Some fault) pipe id at items sent frames e = absurd cc

pub record PutAs (o : Option SyncFault) (pipe : Bool) (items offered : List Item) : Type 0 where
  pub none : o ≡ None
  pub is : pipe ≡ true
  pub items_are : items ≡ offered

pub put-as : (o : Option SyncFault) (pipe : Bool) (id at : PortId) (items offered : List Item) (sent : List Frame)
    → or_reset o id Tx (cond pipe (Put id items) (Send id sent)) ≡ Put at offered → PutAs o pipe items offered
put-as None true id at items offered sent e = record { none = refl; is = refl; items_are = cc }
put-as None false id at items offered sent e = absurd cc
put-as (Some fault) pipe id at items offered sent e = absurd cc

abbrev pub sent_ring : RingState → RingState
sent_ring ring = accepted (length (pushed_slots ring ring.head)) ring

pub ring-is : (own : OwnState) (id : ℕ) (p : OwnPort) (r : OwnRing) → AreTidy (views own) → port_with_id own id ≡ Some p → p.tx ≡ Some r → IsRing r.ring
ring-is own id p r tidy found has = by p.tx has (each-find IsRingAt (is_view_at id) (views own) (seen p) tidy.rings (find-seen id own.ports p found))
  where
    by : (tx : Option OwnRing) → tx ≡ Some r → IsRingIf (option_map ring_of tx) → IsRing r.ring
    by None e is = absurd cc
    by (Some x) e is = let same : x ≡ r = cc in subst (λ (y : OwnRing). IsRing y.ring) same is

-- what a sync of a switch's port takes
record IsTaken (frames : List Frame) (count : ℕ) : Type 0 where
  sends : one_if_some (length frames) ≤ one_if_some count
  bytes : bytes_of_frames frames ≤ 2048 * count

some-less : (few many : ℕ) → few ≤ many → one_if_some few ≤ one_if_some many
some-less zero many less = omega arith
some-less (suc few) zero less = absurd (omega (arith, less))
some-less (suc few) (suc many) less = omega arith

taken-of : (own : OwnState) (p : OwnPort) (r : OwnRing) → refusal_in Tx own p r ≡ None → IsTaken (pushed_frames (bytes_at own) (pushed_in Tx r)) (length (pushed_slots r.ring r.ring.head))
taken-of own p r none =
    let frames = pushed_frames (bytes_at own) (pushed_in Tx r) in
    let sent = passed-sent (bytes_at own) (is_whole p) own.pool (named_of own) (pushed_in Tx r) (sync-passes Tx own p r none) in
    let within = sent.within in
    let many = length-map (pushed_slots r.ring r.ring.head) (pushed_at Tx r) in
    let short = frames-slots frames in
    let fewer = length-size frames in
    record { sends = some-less (length frames) (length (pushed_slots r.ring r.ring.head)) (omega (arith, fewer, within, many)); bytes = omega (arith, short, within, many) }

sent-less : (c : Cost) (port : PortId) (frames : List Frame) (reply : Reply) (ring : RingState) → ring.head < ring.size → IsTaken frames (length (pushed_slots ring ring.head))
    → cost_of_ring c false (sent_ring ring) + cost c (Send port frames) reply ≤ cost_of_ring c false ring + call_of c (Send port frames) reply
sent-less Sends port frames reply ring inside taken =
    let none = sends-none false (sent_ring ring) (still-pushed ring inside (length (pushed_slots ring ring.head))) in
    let less = taken.sends in
    omega (arith, none, less)
sent-less Bytes port frames reply ring inside taken =
    let none = still-pushed ring inside (length (pushed_slots ring ring.head)) in
    let less = taken.bytes in
    omega (arith, none, less)
sent-less Calls port frames reply ring inside taken = omega arith
sent-less (Opens switch) port frames reply ring inside taken = omega arith

send-spends : (c : Cost) (own : OwnState) (port : PortId) (frames : List Frame) (reply : Reply) → AreTidy (views own) → IsTxCall own port.0 (Send port frames)
    → waiting c (own_after_send port.0 own) + cost c (Send port frames) reply ≤ waiting c own + call_of c (Send port frames) reply
send-spends c own port frames reply sound t =
    let a = sent-as (refusal_in Tx own t.port t.ring) (is_pipe_name t.port.name) t.port.id port (offered_items own t.ring) (pushed_frames (bytes_at own) (pushed_in Tx t.ring)) frames t.is in
    let fits = sync-fits Tx own t.port t.ring a.none in
    let seen-new = seen-tx port.0 ring_after_send sent_ring (λ r. refl) (after_exchange Tx port.0 own).ports ∙ ap (map (view_if port.0 sent_ring)) (seen-exchanged Tx port.0 (pushed_on Tx port.0 own) own.ports) in
    let change = tx-changed c own (own_after_send port.0 own) port.0 sent_ring t.port t.ring false sound t.found t.has a.is seen-new in
    let taken = subst (λ (fs : List Frame). IsTaken fs (length (pushed_slots t.ring.ring t.ring.ring.head))) a.frames_are (taken-of own t.port t.ring a.none) in
    let less = sent-less c port frames reply t.ring.ring fits.head_within taken in
    omega (arith, change, less)

pub less-taken : {X : Type 0} (n : ℕ) (xs : List X) → length (take n xs) ≤ length xs
less-taken zero xs = omega arith
less-taken (suc n) [] = omega arith
less-taken (suc n) (x ∷ xs) = let rest = less-taken n xs in omega (arith, rest)

-- what a sync of a pipe's end takes
put-cost : (c : Cost) (port : PortId) (offered : ℕ) (reply : Reply) (ring : RingState) (n : ℕ) → slots_waiting true (accepted n ring) + n ≡ slots_waiting true ring
    → bytes_of (PutKept port offered) reply ≤ 2048 * n
    → cost_of_ring c true (accepted n ring) + cost c (PutKept port offered) reply ≤ cost_of_ring c true ring + call_of c (PutKept port offered) reply
put-cost Sends port offered reply ring n less short = omega arith
put-cost Bytes port offered reply ring n less short = omega (arith, less, short)
put-cost Calls port offered reply ring n less short = omega arith
put-cost (Opens switch) port offered reply ring n less short = omega arith

put-spends : (c : Cost) (own : OwnState) (port : PortId) (left_offered : ℕ) (reply : Reply) (came : List Arrival) → AreTidy (views own) → IsPutCall own port.0 reply
    → BringsKept (PutKept port left_offered) reply came
    → waiting c (own_after_put port.0 came own) + cost c (PutKept port left_offered) reply ≤ waiting c own + call_of c (PutKept port left_offered) reply
put-spends c own port left_offered reply came sound p brings =
    let call = p.call in
    let many = brings.0 in
    let short = brings.1 in
    let a = put-as (refusal_in Tx own call.port call.ring) (is_pipe_name call.port.name) call.port.id (record { 0 = port.0 }) (offered_items own call.ring) p.offered (pushed_frames (bytes_at own) (pushed_in Tx call.ring)) call.is in
    let fits = sync-fits Tx own call.port call.ring a.none in
    let n : ℕ = length (buffers_of_arrivals came) in
    let as_many : n ≡ length came = length-map came _ in
    let seen-new = seen-tx port.0 (ring_after_put (buffers_of_arrivals came)) (accepted n) (λ r. refl) (after_exchange Tx port.0 own).ports ∙ ap (map (view_if port.0 (accepted n))) (seen-exchanged Tx port.0 (pushed_on Tx port.0 own) own.ports) in
    let change = tx-changed c own (own_after_put port.0 came own) port.0 (accepted n) call.port call.ring true sound call.found call.has a.is seen-new in
    let taken = ap (λ (xs : List Item). length xs) p.taken in
    let few = less-taken (length (kept_items reply)) p.offered in
    let offered = sym (ap (λ (xs : List Item). length xs) a.items_are) ∙ length-map (offered_slots call.ring) (item_at own call.ring) in
    let less = put-less call.ring.ring (ring-is own port.0 call.port call.ring sound call.found call.has) fits n (omega (arith, as_many, many, taken, few, offered)) in
    let cost-less = put-cost c port left_offered reply call.ring.ring n less (omega (arith, as_many, many, short)) in
    omega (arith, change, cost-less)

-- ---- other entries

receive-spends : (c : Cost) (own : OwnState) (id : ℕ) (came : List Arrival) → waiting c (own_after_receive id came own) ≡ waiting c own
receive-spends c own id came =
    waiting-views c (own_after_receive id came own)
    ∙ (ap (total c) (seen-rx id (ring_after_receive came) (after_exchange Rx id own).ports ∙ seen-exchanged Rx id (pushed_on Rx id own) own.ports) ∙ sym (waiting-views c own))

reset-spends : (c : Cost) (own : OwnState) (id : ℕ) (side : Side) → AreTidy (views own) → waiting c (own_after_reset id side own) ≤ waiting c own
reset-spends c own id Rx sound =
    let same = waiting-views c (own_after_reset id Rx own) ∙ (ap (total c) (seen-rx id (ring_after_reset Rx) own.ports) ∙ sym (waiting-views c own)) in
    omega (arith, same)
reset-spends c own id Tx sound =
    let after = waiting-views c (own_after_reset id Tx own) ∙ ap (total c) (seen-tx id (ring_after_reset Tx) reset_positions (λ r. refl) own.ports) in
    let before = waiting-views c own in
    let less = total-less id reset_positions c (reset-less c) (views own) sound.rings in
    omega (arith, after, before, less)

finish-spends : (c : Cost) (own : OwnState) (id : ℕ) (bufs : List ℕ) → waiting c (own_after_finish id bufs own) ≤ waiting c own
finish-spends c own id bufs =
    let after = waiting-views c (own_after_finish id bufs own) in
    let before = waiting-views c own in
    let less = total-filter c (λ (p : OwnPort). not (p.id.0 == id)) own.ports in
    omega (arith, after, before, less)

-- nothing waits at a port that was just opened
opened-none : (c : Cost) (pipe : Bool) (size : ℕ) → 0 < size → cost_of_ring c pipe (opened_tx size) ≡ 0
opened-none c pipe size some = by c
  where
    none : dist size 0 0 ≡ 0
    none = dist_self size 0 some

    pushed : length (pushed_slots (opened_tx size) 0) ≡ 0
    pushed = length-slots_from size 0 (dist size 0 0) ∙ none

    first : step_on size (size - 1) 1 ≡ 0
    first = let same : size - 1 + 1 ≡ size = omega (arith, some) in ap (λ (n : ℕ). n % size) same ∙ mod_self size

    pending : length (pending_slots (opened_tx size)) ≡ 0
    pending = length-slots_from size (step_on size (size - 1) 1) (dist size (step_on size (size - 1) 1) 0) ∙ (ap (λ (n : ℕ). dist size n 0) first ∙ none)

    slots : (b : Bool) → slots_waiting b (opened_tx size) ≡ 0
    slots true = let both = length-append (pending_slots (opened_tx size)) (pushed_slots (opened_tx size) 0) in omega (arith, both, pushed, pending)
    slots false = pushed

    by : (d : Cost) → cost_of_ring d pipe (opened_tx size) ≡ 0
    by Sends = sends-none pipe (opened_tx size) pushed
    by Bytes = let same = slots pipe in omega (arith, same)
    by Calls = refl
    by (Opens switch) = refl

opened-weight : (c : Cost) (id : ℕ) (name : List ℕ) (tx rx : ℕ) (bufs : List ℕ) → weight c (seen (opened_port id name tx rx bufs)) ≡ 0
opened-weight c id name tx rx bufs = by (tx == 0) refl
  where
    by : (b : Bool) → (tx == 0) ≡ b → weight c (seen (opened_port id name tx rx bufs)) ≡ 0
    by true is = rw is refl
    by false is =
        let other : tx ≡ 0 → ⊥ = eqb-false tx 0 is in
        rw is (opened-none c (is_pipe_name name) tx (positive tx other))
      where
        positive : (n : ℕ) → (n ≡ 0 → ⊥) → 0 < n
        positive zero other = absurd (other refl)
        positive (suc n) other = omega arith

open-spends : (c : Cost) (own : OwnState) (id : ℕ) (name : List ℕ) (tx rx : ℕ) (came : List Arrival) → waiting c (own_after_open id name tx rx came own) ≡ waiting c own
open-spends c own id name tx rx came =
    let new = opened_port id name tx rx (buffers_of_arrivals came) in
    let after = waiting-views c (own_after_open id name tx rx came own) ∙ (ap (total c) (map-append seen own.ports (new ∷ [])) ∙ sum_by-append (weight c) (views own) (seen new ∷ [])) in
    let one = sum_by-cons (weight c) (seen new) [] in
    let none = opened-weight c id name tx rx (buffers_of_arrivals came) in
    let before = waiting-views c own in
    omega (arith, after, one, none, before)

-- ---- an entry that takes nothing of what waits

abbrev Paid : Cost → Ask → Reply → Type 0
Paid c ask reply = cost c ask reply ≤ call_of c ask reply

-- what no Send has, and no Put
abbrev KeepsNone : Ask → Reply → Type 0
KeepsNone ask reply = (sends_of_ask ask ≡ 0) × (bytes_of ask reply ≡ 0)

paid : (c : Cost) (ask : Ask) (reply : Reply) → KeepsNone ask reply → Paid c ask reply
paid Sends ask reply none = let zero_sends = none.0 in omega (arith, zero_sends)
paid Bytes ask reply none = let zero_bytes = none.1 in omega (arith, zero_bytes)
paid Calls ask reply none = omega arith
paid (Opens switch) ask reply none = omega arith

still-spends : (c : Cost) (own new : OwnState) (ask : Ask) (reply : Reply) → waiting c new ≤ waiting c own → KeepsNone ask reply
    → waiting c new + cost c ask reply ≤ waiting c own + call_of c ask reply
still-spends c own new ask reply less none = let most = paid c ask reply none in omega (arith, most, less)

same-spends : (c : Cost) (own : OwnState) (ask : Ask) (reply : Reply) → KeepsNone ask reply → waiting c own + cost c ask reply ≤ waiting c own + call_of c ask reply
same-spends c own ask reply none = still-spends c own own ask reply (omega arith) none

opens-spend : (c : Cost) (number : ℕ) (session : SessionId) (name : List ℕ) (tx rx extra : ℕ) (reply : Reply) (came : List Arrival) (own : OwnState)
    → waiting c (own_by number (Open session name tx rx extra) reply came own) + cost c (Open session name tx rx extra) reply ≤ waiting c own + call_of c (Open session name tx rx extra) reply
opens-spend c number session name tx rx extra replies.Opened came own =
    let same = open-spends c own number name tx rx came in
    still-spends c own (own_after_open number name tx rx came own) (Open session name tx rx extra) replies.Opened (omega (arith, same)) (refl, refl)
opens-spend c number session name tx rx extra reply came own = same-spends c own (Open session name tx rx extra) reply (refl, refl)

-- what an entry takes no longer waits, and what else it costs its call pays
pub own-spends : (c : Cost) (number : ℕ) (shut : Option ℕ) (ask : Ask) (reply : Reply) (came : List Arrival) (own : OwnState) → AreTidy (views own) → IsOfSide shut own ask reply → BringsKept ask reply came
    → waiting c (own_by number ask reply came own) + cost c ask reply ≤ waiting c own + call_of c ask reply
own-spends c number shut (Enter user) reply came own sound of brings = absurd of
own-spends c number shut (Open session name tx rx extra) reply came own sound of brings = opens-spend c number session name tx rx extra reply came own
own-spends c number shut (Send port frames) reply came own sound of brings = send-spends c own port frames reply sound of
own-spends c number shut (Grant origin to) reply came own sound of brings = same-spends c own (Grant origin to) reply (refl, refl)
own-spends c number shut (Done lease) reply came own sound of brings = same-spends c own (Done lease) reply (refl, refl)
own-spends c number shut (Sync port back) reply came own sound of brings =
    let same = receive-spends c own port.0 came in
    still-spends c own (own_after_receive port.0 came own) (Sync port back) reply (omega (arith, same)) (refl, refl)
own-spends c number shut (Reset port side fault) reply came own sound of brings =
    still-spends c own (own_after_reset port.0 side own) (Reset port side fault) reply (reset-spends c own port.0 side sound) (refl, refl)
own-spends c number shut (Shut port) reply came own sound of brings = same-spends c own (Shut port) reply (refl, refl)
own-spends c number shut (Finish port bufs chain) reply came own sound of brings =
    still-spends c own (own_after_finish port.0 bufs own) (Finish port bufs chain) reply (finish-spends c own port.0 bufs) (refl, refl)
own-spends c number shut (Leave session) reply came own sound of brings = absurd of
own-spends c number shut (Put port offered) reply came own sound of brings = absurd brings
own-spends c number shut (PutKept port offered) reply came own sound of brings = put-spends c own port offered reply came sound of brings
own-spends c number shut (Get port back) reply came own sound of brings =
    let same = receive-spends c own port.0 came in
    still-spends c own (own_after_receive port.0 came own) (Get port back) reply (omega (arith, same)) (refl, refl)
own-spends c number shut (Watch monitor target sides) reply came own sound of brings = same-spends c own (Watch monitor target sides) reply (refl, refl)
own-spends c number shut (Stat port) reply came own sound of brings = same-spends c own (Stat port) reply (refl, refl)
