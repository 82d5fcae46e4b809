-- What a receive sync brings is what its entry reads.
use Rattle.std.proofs.Common.{ℕ, ◌+◌, ◌-◌, ◌<◌, ◌≤◌, ◌≡◌, ◌==◌, Bool, true, false, cond, List, [], ◌∷◌, ◌++◌, map, find, fold, take, drop, flat_map, length, slice_get, Option, Some, None, option_map, refl, sym, ◌∙◌, ap, subst, arith}
use Rattle.std.specs.Prelude.{if◌then◌else◌, nat_le}
use Rattle.std.specs.Option.{option_map_or}
use Rattle.std.specs.List.{zip}
use Rattle.std.proofs.lemmas.Bool.{eqb-true, eq-eqb, and_parts, leb-true}
use Rattle.nm_types.specs.Frames.{Frame}
use Rattle.nm_types.specs.Parts.{HeldPart, cut_frames}
use Rattle.nm_types.specs.Positions.{RingState, step_on}
use Rattle.nm_types.specs.Slots.{Pushed}
use Rattle.nm_types.specs.declared.fault.SyncFault.{SyncFault}
use Rattle.nm_types.specs.declared.id.PortId.{PortId}
use Rattle.nm_types.specs.declared.id.Side.{Side}
use Rattle.nm_types.specs.declared.id.Side.TheVariants.{Rx}
use Rattle.nm_types.specs.Names.{is_pipe_name}
use Rattle.nm_types.specs.OwnPorts.{OwnPort, OwnState, Arrival, port_if, port_with_id, with_ring_on, refusal_in, pushed_on, pushed_count}
use Rattle.nm_types.specs.OwnSyncs.{without_bytes_of, buffers_of_arrivals, after_slot, after_exchange, back_on, port_swapped, buffer_on, ring_after_receive, own_after_receive}
use Rattle.vale_entry.specs.declared.entry.Ask.{Ask}
use Rattle.vale_entry.specs.declared.entry.Ask.TheVariants.{Sync, Get}
use Rattle.vale_entry.specs.declared.entry.Dest.{Dest}
use Rattle.vale_entry.specs.declared.entry.Entry.{Entry}
use Rattle.vale_entry.specs.declared.entry.Reply.{Reply}
use Rattle.vale_entry.specs.declared.entry.Reply.TheVariants.{Gave}
use Rattle.vale_entry.specs.World.{Port, open_port}
use Rattle.vale_entry.specs.Arrivals.{arrivals_of, part_arrival, delivered_parts, given_at, given_arrivals}
use Rattle.vale_entry.specs.Delivered.{read_by, of_entry_in, frames_at}
use Rattle.vale_entry.specs.Delivery.{ready_lots, delivered_frames}
use Rattle.vale_entry.specs.Holdings.{delivered_buffers, is_buffer_index}
use Rattle.vale_entry.specs.OwnCalls.{own_by, or_reset, back_in, rx_call}
use Rattle.vale_entry.specs.Legal.{Standing, IsLegal, standing_of, kept_ask, step, session_and_reply, made_at, can_reset, reset_step, fresh_standing}
use Rattle.vale_entry.proofs.Counting.{count_of, count_of-append}
use Rattle.vale_entry.proofs.Each.{each-find}
use Rattle.vale_entry.proofs.ListLaws.{place-of}
use Rattle.vale_entry.proofs.PortAt.{find-map}
use Rattle.vale_entry.proofs.HistoryLaws.{history-stands}
use Rattle.vale_entry.proofs.Worlds.{legal-take}
use Rattle.vale_own.specs.Own.{own_of, buffers_of_lease}
use Rattle.vale_own.specs.Side.{IsSoundPort, buffers_on}
use Rattle.vale_own.proofs.Buffers.{buffers-apart, came-length, size-parts}
use Rattle.vale_own.proofs.SidePlaces.{in-port, in-ports}
use Rattle.vale_book.specs.Reading.{read_ask}
use Rattle.vale_fabric.specs.Fabrics.{entry_by}
use Rattle.nm_user.specs.declared.receiving.Received.{Received}
use Rattle.nm_user.specs.Sessions.{SessionState, IsThere}
use Rattle.nm_user.specs.Receives.{IsReceived}
use Rattle.nm_user.specs.Saving.{bytes_of_frame, read_of, ReceivedAreRead}
use Rattle.nm_user.proofs.Receives.{call-of, stepped}
use Rattle.nm_user.proofs.JoinedParts.{part_in_arrival}
use Rattle.nm_user.proofs.SavingRing.{Came, frames-came}

-- ---- the call

abbrev is-gave : Reply → Bool
is-gave (Gave count to) = true
is-gave _ = false

abbrev count-gave : Reply → ℕ
count-gave (Gave count to) = count
count-gave _ = 0

abbrev gives : Option (ℕ × Reply) → Bool
gives made = option_map_or (λ (m : ℕ × Reply). is-gave m.1) made false

-- a receive sync that is answered with frames was refused by no check
resets-none : (now : Standing) (id : PortId) (fault : SyncFault) (found : Option Port) (session count : ℕ) (to : List Dest)
    → option_map session_and_reply (made_at (can_reset Rx fault) (reset_step now) found) ≡ Some (session, Gave count to) → ⊥
resets-none now id fault None session count to e = absurd cc
resets-none now id fault (Some p) session count to e = by (can_reset Rx fault p) e
  where
    by : (b : Bool) → option_map session_and_reply (if b then Some (reset_step now p) else None) ≡ Some (session, Gave count to) → ⊥
    by true is = absurd (let bad : false ≡ true = ap gives is in cc)
    by false is = absurd cc

gave-none : (now : Standing) (o : Option SyncFault) (id : PortId) (ask : Ask) (session count : ℕ) (to : List Dest)
    → option_map session_and_reply (step now (or_reset o id Rx ask)) ≡ Some (session, Gave count to) → o ≡ None
gave-none now None id ask session count to e = refl
gave-none now (Some fault) id ask session count to e = absurd (resets-none now id fault (open_port now.world.ports id.0) session count to e)

-- what a read reads, brings and makes of what its session has
read-reads : (pipe : Bool) (now : Standing) (port : PortId) (back : List ℕ) (id : ℕ) (at : Port) (reply : Reply) → port.0 ≡ id
    → open_port now.world.ports port.0 ≡ Some at → read_by id now.world (kept_ask (read_ask pipe port back)) reply ≡ delivered_frames at
read-reads pipe now port back id at reply same found = by pipe (eq-eqb port.0 id same)
  where
    hit : (b : Bool) → b ≡ true → cond b (frames_at delivered_frames (open_port now.world.ports port.0)) [] ≡ delivered_frames at
    hit true e = ap (frames_at delivered_frames) found
    hit false e = absurd cc

    by : (p : Bool) → (port.0 == id) ≡ true → read_by id now.world (kept_ask (read_ask p port back)) reply ≡ delivered_frames at
    by true e = hit (port.0 == id) e
    by false e = hit (port.0 == id) e

read-makes : (pipe : Bool) (n : ℕ) (now : Standing) (port : PortId) (back : List ℕ) (count : ℕ) (to : List Dest) (own : OwnState)
    → own_by n (kept_ask (read_ask pipe port back)) (Gave count to) (arrivals_of now (kept_ask (read_ask pipe port back)) (Gave count to)) own ≡ own_after_receive port.0 (given_at now port.0) own
read-makes true n now port back count to own = refl
read-makes false n now port back count to own = refl

-- ---- what is given to it

arrived-parts : (buffers : List ℕ) (parts : List HeldPart) → length buffers ≡ length parts → map part_in_arrival (map part_arrival (zip buffers parts)) ≡ parts
arrived-parts [] [] e = refl
arrived-parts [] (p ∷ ps) e = absurd (omega (arith, e))
arrived-parts (b ∷ bs) [] e = absurd (omega (arith, e))
arrived-parts (b ∷ bs) (p ∷ ps) e = ap (λ (rest : List HeldPart). p ∷ rest) (arrived-parts bs ps (omega (arith, e)))

pub record Given (now : Standing) (id : ℕ) (at : Port) : Type 0 where
  pub parts : map part_in_arrival (given_at now id) ≡ cut_frames (map bytes_of_frame (delivered_frames at))

given : (pool : ℕ) (history : List Entry) (port : PortId) (at : Port) → IsLegal pool history → open_port (standing_of pool history).world.ports port.0 ≡ Some at → Given (standing_of pool history) port.0 at
given pool history port at legal found =
    let now = standing_of pool history in
    let k = history-stands pool history legal in
    let many = came-length now port.0 at found k.numbered k.held in
    let all : given_at now port.0 ≡ given_arrivals now at = ap (λ (o : Option Port). option_map_or (given_arrivals now) o []) found in
    record {
      parts = ap (map part_in_arrival) all ∙ arrived-parts (delivered_buffers at.id (length (ready_lots at)) now.holdings.ports) (delivered_parts at) (many ∙ sym (size-parts (delivered_frames at)));
    }

-- ---- the ring that has got it

-- the port that is found, once ports are exchanged: its receive ring has the same positions
found-exchanged : (side : Side) (id : ℕ) (pushed : List Pushed) (ports : List OwnPort) (p : OwnPort) → find (λ (q : OwnPort). q.id.0 == id) ports ≡ Some p
    → (q : OwnPort) × (find (λ (x : OwnPort). x.id.0 == id) (fold (after_slot side id) ports pushed) ≡ Some q) × (q.rx.ring ≡ p.rx.ring)
found-exchanged side id [] ports p found = (p, found, refl)
found-exchanged side id (x ∷ pushed) ports p found =
    let a = buffer_on side id ports x.at in
    let b = x.slot.buf_idx in
    found-exchanged side id pushed (map (port_swapped a b) ports) (port_swapped a b p)
    (find-map (port_swapped a b) (λ (q : OwnPort). q.id.0 == id) (λ q. refl) ports ∙ ap (option_map (port_swapped a b)) found)

id-kept : (id : ℕ) (came : List Arrival) (b : Bool) (p : OwnPort) → (let change : OwnPort → OwnPort = with_ring_on Rx (ring_after_receive came) in cond b (change p) p).id.0 ≡ p.id.0
id-kept id came true p = refl
id-kept id came false p = refl

pub record Got (s : OwnState) (id : ℕ) (came : List Arrival) (p : OwnPort) : Type 0 where
  pub old : OwnPort
  pub same : old.rx.ring ≡ p.rx.ring
  pub found : port_with_id (own_after_receive id came s) id ≡ Some (with_ring_on Rx (ring_after_receive came) old)

got : (s : OwnState) (id : ℕ) (came : List Arrival) (p : OwnPort) → port_with_id s id ≡ Some p → Got s id came p
got s id came p found =
    let now = found-exchanged Rx id (pushed_on Rx id s) s.ports p found in
    let change = port_if id (with_ring_on Rx (ring_after_receive came)) in
    let passes = (place-of (λ (q : OwnPort). q.id.0 == id) (after_exchange Rx id s).ports now.0 now.1).passes in
    record {
      old = now.0;
      same = now.2;
      found = find-map change (λ (q : OwnPort). q.id.0 == id) (λ q. ap (λ (n : ℕ). n == id) (id-kept id came (q.id.0 == id) q)) (after_exchange Rx id s).ports
          ∙ (ap (option_map change) now.1 ∙ ap (λ (b : Bool). Some (cond b (with_ring_on Rx (ring_after_receive came) now.0) now.0)) passes);
    }

within-pool : (pool b n length : ℕ) → n ≤ cond (is_buffer_index pool b) 1 0 → 1 ≤ n → length ≡ pool + 2 → b < length
within-pool pool b n length most some long = by (is_buffer_index pool b) refl most
  where
    by : (is : Bool) → is_buffer_index pool b ≡ is → n ≤ cond is 1 0 → b < length
    by true e le = let high = leb-true b (pool + 1) (and_parts (nat_le 2 b) (nat_le b (pool + 1)) e).1 in omega (arith, high, long)
    by false e le = absurd (omega (arith, le, some))

at-most-one : (n m : ℕ) (is : Bool) → m ≤ cond is 1 0 → n ≤ m → n ≤ 1
at-most-one n m true most few = omega (arith, most, few)
at-most-one n m false most few = omega (arith, most, few)

came-here : {t : SessionState} (s : OwnState) (id : ℕ) (came : List Arrival) (p : OwnPort) (g : Got s id came p) → IsThere None t → t.own ≡ own_after_receive id came s
    → Came t.own id (with_ring_on Rx (ring_after_receive came) g.old) came
came-here {t} s id came p g there own =
    let port = with_ring_on Rx (ring_after_receive came) g.old in
    let here : port_with_id t.own id ≡ Some port = ap (λ (o : OwnState). port_with_id o id) own ∙ g.found in
    record {
      found = here;
      sound = (each-find IsSoundPort (λ (q : OwnPort). q.id.0 == id) t.own.ports port there.side.sound.each here).rx;
      front = drop (pushed_count g.old.rx) g.old.rx.slots;
      slots = refl;
      behind = drop (pushed_count g.old.rx) g.old.rx.held;
      held = refl;
      base = fold without_bytes_of s.bytes (back_on id s);
      bytes = ap (λ (o : OwnState). o.bytes) own;
      once = λ b. at-most-one (count_of b (buffers_of_arrivals came)) (counted b) (is_buffer_index t.fixed.pool b) (apart b) (part b port here (drop (pushed_count g.old.rx) g.old.rx.held) refl);
      within = λ b some.
          let cells = there.side.sound.cells ∙ ap (λ (n : ℕ). n + 2) there.side.of.pool_is in
          let few = part b port here (drop (pushed_count g.old.rx) g.old.rx.held) refl in
          within-pool t.fixed.pool b (counted b) (length t.own.bytes) (apart b) (omega (arith, few, some)) cells;
    }
  where
    counted : ℕ → ℕ
    counted b = count_of b (buffers_on t.own)

    apart : (b : ℕ) → counted b ≤ cond (is_buffer_index t.fixed.pool b) 1 0
    apart b =
        let own = own_of t.id (standing_of t.fixed.pool t.knows.seen) in
        let all = buffers-apart t.fixed.pool t.knows.seen t.id b there.legal in
        let both = count_of-append b own.buffers (flat_map buffers_of_lease own.leases) in
        let same = there.side.of.buffers b in
        omega (arith, all, both, same)

    part : (b : ℕ) (port : OwnPort) → port_with_id t.own id ≡ Some port → (behind : List ℕ) → port.rx.held ≡ behind ++ buffers_of_arrivals came → count_of b (buffers_of_arrivals came) ≤ counted b
    part b port here behind held =
        let ring = in-port Rx port port.rx b refl in
        let all = in-ports id t.own.ports port b here in
        let split = ap (count_of b) held ∙ count_of-append b behind (buffers_of_arrivals came) in
        omega (arith, ring, all, split)

-- ---- the law

-- the read of a receive sync, and what it found
pub record IsRead (s t : SessionState) (id : ℕ) (received : Received) : Type 0 where
  pub at : Port
  pub came : List Arrival
  pub parts : map part_in_arrival came ≡ cut_frames (map bytes_of_frame (read_of t.fixed.pool t.knows.seen id received.entry))
  pub own : t.own ≡ own_after_receive id came s.own
  pub gave : received.gave ≡ length (read_of t.fixed.pool t.knows.seen id received.entry)

pub is-read : {s t : SessionState} {id : ℕ} {received : Received} → IsThere None t → IsReceived s t id received → IsRead s t id received
is-read {s} {t} {id} {received} there is =
    let p = is.at.port in
    let sync = is.synced in
    let pool = t.fixed.pool in
    let history = take (sync.number - 1) t.knows.seen in
    let now = standing_of pool history in
    let back = back_in p in
    let pipe = is_pipe_name p.name in
    let none = gave-none now (refusal_in Rx s.own p p.rx) p.id _ s.id received.gave is.to sync.steps in
    let call : rx_call s.own p ≡ read_ask pipe p.id back = ap (λ (o : Option SyncFault). or_reset o p.id Rx (let get : Ask = Get p.id back in let sync : Ask = Sync p.id back in if pipe then get else sync)) none ∙ call-of pipe p.id back in
    let st = stepped pipe now p.id back s.id (Gave received.gave is.to) (subst (λ (ask : Ask). option_map session_and_reply (step now ask) ≡ Some (s.id, Gave received.gave is.to)) call sync.steps) in
    let same : p.id.0 ≡ id = eqb-true p.id.0 id (place-of (λ (q : OwnPort). q.id.0 == id) s.own.ports p is.at.found).passes in
    let given-here = given pool history p.id st.at (legal-take (fresh_standing pool) t.knows.seen (sync.number - 1) there.legal) st.found in
    let entry = entry_by s.id (rx_call s.own p) (Gave received.gave is.to) in
    let stands : slice_get t.knows.seen (sync.number - 1) ≡ Some entry = (sync.told.stand 0 sync.number entry refl).1 in
    let reads : of_entry_in read_by id now.world entry ≡ delivered_frames st.at = ap (λ (ask : Ask). read_by id now.world (kept_ask ask) entry.reply) call ∙ read-reads pipe now p.id back id st.at entry.reply same st.found in
    let read : read_of pool t.knows.seen id sync.number ≡ delivered_frames st.at = ap (λ (o : Option Entry). option_map_or (of_entry_in read_by id now.world) o []) stands ∙ reads in
    let numbered : read_of pool t.knows.seen id received.entry ≡ delivered_frames st.at = ap (read_of pool t.knows.seen id) is.entry ∙ read in
    let made = ap (λ (ask : Ask). own_by sync.number (kept_ask ask) (Gave received.gave is.to) (arrivals_of now (kept_ask ask) (Gave received.gave is.to)) s.own) call ∙ read-makes pipe sync.number now p.id back received.gave is.to s.own in
    record {
      at = st.at;
      came = given_at now p.id.0;
      parts = given-here.parts ∙ ap (λ (frames : List Frame). cut_frames (map bytes_of_frame frames)) (sym numbered);
      own = sync.own ∙ (made ∙ ap (λ (n : ℕ). own_after_receive n (given_at now p.id.0) s.own) same);
      gave = sym (ap count-gave st.reply_is) ∙ ap (λ (frames : List Frame). length frames) (sym numbered);
    }

pub received-are-read : ReceivedAreRead
received-are-read s t id received before there is =
    let p = is.at.port in
    let r = is-read there is in
    let g = got s.own id r.came p is.at.found in
    let port = with_ring_on Rx (ring_after_receive r.came) g.old in
    let positions = (each-find IsSoundPort (λ (q : OwnPort). q.id.0 == id) s.own.ports p before.side.sound.each is.at.found).rx.positions in
    let frames = map bytes_of_frame (read_of t.fixed.pool t.knows.seen id received.entry) in
    let size : g.old.rx.ring.size ≡ p.rx.ring.size = ap (λ (ring : RingState). ring.size) g.same in
    let tail : g.old.rx.ring.last_tail ≡ p.rx.ring.tail = ap (λ (ring : RingState). ring.last_tail) g.same ∙ sym positions.one_tail in
    let within : p.rx.ring.tail < g.old.rx.ring.size = (let inside = positions.within in omega (arith, size, inside)) in
    frames-came t.own id p.rx.ring.tail port r.came frames (came-here s.own id r.came p g there r.own) within (ap (λ (at : ℕ). step_on g.old.rx.ring.size at (length r.came)) tail) r.parts
