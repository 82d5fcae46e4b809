-- Who holds what after a Sync, a Get and a Put.
use Rattle.std.proofs.Common.{ℕ, zero, suc, ◌+◌, ◌≤◌, ◌≡◌, true, false, cond, ◌==◌, List, [], ◌∷◌, ◌++◌, map, length, take, drop, sum_by, flat_map, Some, refl, sym, ◌∙◌, ap, subst, arith, slice_get, slice_set, length-append, length-drop, append-nil, ap₂, sum}
use Rattle.std.specs.List.{AllByRecursion as Each, list_all, prefix_len}
use Rattle.std.proofs.lemmas.List.{length-take-le, drop-map, take-map, take-append-drop, length-map}
use Rattle.std.proofs.lemmas.List.Sums.{sum_by-take-drop, sum-map}
use Rattle.std.proofs.lemmas.List.Concat.{flat_map-append, length-flat_map}
use Rattle.std.proofs.lemmas.Bool.{and_parts, leb-true, eqb-false, eq-eqb, ne_eqb}
use Rattle.nm_types.specs.Frames.{slots_of, size_of_frames}
use Rattle.vale_entry.specs.World.{Port, open_port, changed_at, space_of, due_of}
use Rattle.vale_entry.specs.Delivery.{is_done_lot, ready_lots, delivered_frames, frames_of_lot, port_after_sync}
use Rattle.vale_entry.specs.Holdings.{holds_all, Holdings, PortBuffers, SessionBuffers, PortAgrees, is_buffer_index, contains, are_distinct, due_of_session, sessions_given, sessions_less, buffers_without, buffers_of_session, delivered_buffers, changed_buffers, with_returned, holdings_after_sync, with_put_buffers, first_idle, holdings_after_put}
use Rattle.vale_entry.specs.Legal.{Standing, sync_step, put_step}
use Rattle.vale_entry.specs.Laws.{Rise, id_of_port, id_of_held, id_of_session, IsThere, IsPortOf}
use Rattle.vale_entry.specs.Pipe.{peer_of, index_of_item, indices_of, frames_of_items, port_after_put, is_pipe_item}
use Rattle.vale_entry.specs.declared.entry.Item.{Item}
use Rattle.vale_entry.proofs.Follows.{CanReceive, CanKeep}
use Rattle.vale_entry.proofs.ListLaws.{each-at, sum-at, sum-set, sum-flat_map}
use Rattle.vale_entry.proofs.Counting.{count_of, count_of-append, count-away, length-away}
use Rattle.vale_entry.proofs.Agreeing.{agree-ids, agree-at, due_for, due-set, SessionPlace, users-named, session-place, each-set_key, moved-place}
use Rattle.vale_entry.proofs.InStep.{zip-set}
use Rattle.vale_entry.proofs.Places.{open-place, changed_at-place, changed_buffers-place, buffers_of_session-place, delivered_buffers-place, PeerPlace, peer-place, first_idle-place}
use Rattle.vale_entry.proofs.Numbered.{Numbered}
use Rattle.vale_entry.proofs.Roomy.{HasRoom, Roomy, with_lot-size, delivered-size, items-size, taken-few}
use Rattle.vale_entry.proofs.Holding.{whole, size_of_lot, at_port, at_session, times_held, IsPaid, AreHeld, Held, HeldNext, once-by}
use Rattle.vale_entry.proofs.HeldGrants.{lots-pushed}

-- Sync
take-of_take : {X : Type 0} (n : ℕ) (xs : List X) → take (length (take n xs)) xs ≡ take n xs
take-of_take zero xs = refl
take-of_take (suc n) [] = refl
take-of_take (suc n) (x ∷ xs) = let rest = take-of_take n xs in cc

-- the buffers of the lots delivered are as many as their frames take
pub delivered-length : (port : Port) (held : PortBuffers) → PortAgrees port held
    → length (flat_map whole (take (length (ready_lots port)) held.lots))
    ≡ size_of_frames (delivered_frames port)
delivered-length port held a =
    let n = length (ready_lots port) in
    let lists : length (flat_map whole (take n held.lots))
    ≡ sum_by (λ (list : List ℕ). length list) (take n held.lots)
    = length-flat_map whole (take n held.lots) in
    let frames : size_of_frames (delivered_frames port) ≡ sum_by size_of_lot (ready_lots port) =
    sum-flat_map slots_of frames_of_lot (ready_lots port) in
    let one = sum-map (λ (list : List ℕ). length list) (take n held.lots) in
    let two = sum-map size_of_lot (ready_lots port) in
    let ready : take n port.line ≡ ready_lots port =
    take-of_take (prefix_len is_done_lot port.line) port.line in
    let sizes : map (λ (list : List ℕ). length list) (take n held.lots)
    ≡ map size_of_lot (ready_lots port) =
    sym (take-map (λ (list : List ℕ). length list) n held.lots) ∙ ap (take n) a.lots ∙ take-map
    size_of_lot n port.line ∙ ap (map size_of_lot) ready in
    let same = ap sum sizes in
    omega arith

agrees-synced :
    (back : List ℕ) (port : Port) (held : PortBuffers) → length back ≤ port.out → HasRoom port
    → PortAgrees port held
    → PortAgrees (port_after_sync (length back) port)
    (with_returned (length (ready_lots port)) back held)
agrees-synced back port held few room a =
    let idle = a.idle in
    let joined = length-append held.idle back in
    let sizes = delivered-size port in
    let fits = room.fits in
    record {
      id = a.id;
      idle = omega arith;
      lots =
          sym (drop-map (λ (list : List ℕ). length list) (length (ready_lots port)) held.lots) ∙ ap
          (drop (length (ready_lots port))) a.lots
          ∙ drop-map size_of_lot (length (ready_lots port)) port.line;
    }

-- what a sync moves at the port
returned-count : (b n : ℕ) (back : List ℕ) (held : PortBuffers)
    → at_port b (with_returned n back held) + count_of b (flat_map whole (take n held.lots))
    ≡ at_port b held + count_of b back
returned-count b n back held =
    let cut : flat_map whole held.lots
    ≡ flat_map whole (take n held.lots) ++ flat_map whole (drop n held.lots) =
    ap (flat_map whole) (sym (take-append-drop n held.lots)) ∙ flat_map-append whole
    (take n held.lots) (drop n held.lots) in
    let counts = ap (count_of b) cut in
    let parts =
    count_of-append b (flat_map whole (take n held.lots)) (flat_map whole (drop n held.lots)) in
    let old = count_of-append b held.idle (flat_map whole held.lots) in
    let new = count_of-append b (held.idle ++ back) (flat_map whole (drop n held.lots)) in
    let idle = count_of-append b held.idle back in
    omega arith

-- a session holds no buffer twice
pub held-once :
    (pool : ℕ) (sessions : List ℕ) (ports : List Port) (x : Holdings) (i : ℕ)
    (user : SessionBuffers)
    → AreHeld pool sessions ports x
    → slice_get x.sessions i ≡ Some user
    → (b : ℕ) → count_of b user.buffers ≤ 1
held-once pool sessions ports x i user h e b =
    let part = sum-at (at_session b) x.sessions i user e in
    let all = once-by (times_held b x) (is_buffer_index pool b) (h.parted b) in
    omega arith

-- another session's dues
due-other :
    (ports : List Port) (i : ℕ) (port changed : Port) (session : ℕ) → slice_get ports i ≡ Some port
    → changed.session ≡ port.session
    → (port.session == session) ≡ false
    → due_of_session (slice_set ports i changed) session ≡ due_of_session ports session
due-other ports i port changed session e same other =
    let sum = due-set ports i port changed session e in
    let old : due_for session port ≡ 0 = rw other refl in
    let new : due_for session changed ≡ 0 =
    ap (λ (k : ℕ). cond (k == session) (due_of changed) 0) same ∙ rw other refl in
    omega arith

-- the session's own dues: what it brings back goes, what is delivered comes
due-own :
    (ports : List Port) (i : ℕ) (port : Port) (session : ℕ) (back delivered buffers : List ℕ)
    → slice_get ports i ≡ Some port
    → port.session ≡ session → length back ≤ port.out
    → length delivered ≡ size_of_frames (delivered_frames port)
    → length (buffers_without back buffers) + length back ≡ length buffers
    → length buffers ≡ due_of_session ports session
    → length (buffers_without back buffers ++ delivered)
    ≡ due_of_session (slice_set ports i (port_after_sync (length back) port)) session
due-own ports i port session back delivered buffers e own few size away here =
    let sum = due-set ports i port (port_after_sync (length back) port) session e in
    let mine : (port.session == session) ≡ true = eq-eqb port.session session own in
    let old : due_for session port ≡ due_of port = rw mine refl in
    let new :
    due_for session (port_after_sync (length back) port)
    ≡ due_of (port_after_sync (length back) port) =
    rw mine refl in
    let joined = length-append (buffers_without back buffers) delivered in
    omega arith

synced-at :
    (pool high : ℕ) (sessions : List ℕ) (ports : List Port) (x : Holdings) (back : List ℕ)
    (port : Port) (i : ℕ) (held : PortBuffers) (user : SessionPlace x.sessions port.session)
    → Rise 0 (map id_of_port ports) high → Rise 0 (map id_of_held x.ports) high
    → Rise 0 (map id_of_session x.sessions) high
    → slice_get ports i ≡ Some port → slice_get x.ports i ≡ Some held → PortAgrees port held
    → HasRoom port
    → length back ≤ port.out → list_all (λ b. contains b user.held.buffers) back ≡ true
    → are_distinct back ≡ true
    → AreHeld pool sessions ports x
    → AreHeld pool sessions (changed_at port.id (port_after_sync (length back)) ports)
    (holdings_after_sync port.id port.session (length (ready_lots port)) back x)
synced-at pool high sessions ports x back port i held user port_rise held_rise user_rise e f a
    room few within distinct h =
    let n = length (ready_lots port) in
    let change = port_after_sync (length back) in
    let move = with_returned n back in
    let given = flat_map whole (take n held.lots) in
    let after_user : SessionBuffers =
    record user.held { buffers = buffers_without back user.held.buffers ++ given } in
    let ports_are : changed_at port.id change ports ≡ slice_set ports i (change port) =
    changed_at-place change ports high i port port_rise e in
    let helds_are : changed_buffers port.id move x.ports ≡ slice_set x.ports i (move held) =
    subst (λ (k : ℕ). changed_buffers k move x.ports ≡ slice_set x.ports i (move held)) a.id
    (changed_buffers-place move x.ports high i held held_rise f) in
    let given_are : delivered_buffers port.id n x.ports ≡ given =
    subst (λ (k : ℕ). delivered_buffers k n x.ports ≡ given) a.id
    (delivered_buffers-place n x.ports high i held held_rise f) in
    let users_are : sessions_given port.session (delivered_buffers port.id n x.ports)
    (sessions_less port.session back x.sessions)
    ≡ slice_set x.sessions user.place after_user =
    ap
    (λ (more : List ℕ).
    sessions_given port.session more (sessions_less port.session back x.sessions)) given_are
    ∙ moved-place back given x.sessions high port.session user_rise user in
    let once = held-once pool sessions ports x user.place user.held h user.here in
    let away = length-away back user.held.buffers distinct within once in
    let size = delivered-length port held a in
    let old = each-at (IsPaid ports) x.sessions user.place user.held h.dues user.here in
    let own =
    due-own ports i port user.held.session back given user.held.buffers e (sym user.id_is) few size
    away old in
    let dues : Each (IsPaid (slice_set ports i (change port)))
    (slice_set x.sessions user.place after_user) =
    each-set_key id_of_session (IsPaid ports) (IsPaid (slice_set ports i (change port)))
    0 x.sessions high user.place user.held after_user user_rise user.here
    (λ z other here. here ∙ sym (due-other ports i port (change port) z.session e refl
    (ne_eqb port.session z.session
    (λ same. eqb-false z.session user.held.session other (sym same ∙ sym user.id_is))))) h.dues own in
    record {
      ports_agree =
          rw (ports_are, helds_are)
          (zip-set PortAgrees ports x.ports i (change port) (move held) h.ports_agree
          (agrees-synced back port held few room a));
      session_ids = users-named x.sessions user after_user _ users_are refl ∙ h.session_ids;
      dues = rw (ports_are, users_are) dues;
      parted = λ b.
          let before = h.parted b in
          let helds_sum = sum-set (at_port b) x.ports i held (move held) f in
          let helds_same = ap (sum_by (at_port b)) helds_are in
          let users_sum =
          sum-set (at_session b) x.sessions user.place user.held after_user user.here in
          let users_same = ap (sum_by (at_session b)) users_are in
          let moved = returned-count b n back held in
          let left = count-away b back user.held.buffers distinct within (once b) in
          let joined = count_of-append b (buffers_without back user.held.buffers) given in
          omega arith;
    }

-- a port's session holds buffers at a place, and what it brings is among them
pub record Holder (high session : ℕ) (x : Holdings) (bufs : List ℕ) : Type 0 where
  pub rise : Rise 0 (map id_of_session x.sessions) high
  pub user : SessionPlace x.sessions session
  pub within : list_all (λ b. contains b user.held.buffers) bufs ≡ true
  pub distinct : are_distinct bufs ≡ true

pub holder :
    (s : Standing) (i : ℕ) (port : Port) (bufs : List ℕ) → slice_get s.world.ports i ≡ Some port
    → holds_all s.holdings port.session bufs ≡ true → Numbered s → Held s
    → Holder s.world.entry_count port.session s.holdings bufs
holder s i port bufs here all n h =
    let w = s.world in
    let x = s.holdings in
    let rise : Rise 0 (map id_of_session x.sessions) w.entry_count =
    rw h.session_ids n.sessions_rise in
    let owned : IsThere w.sessions port.session =
    each-at (IsPortOf w.sessions) w.ports i port n.ports_owned here in
    let among : IsThere (map id_of_session x.sessions) port.session = rw h.session_ids owned in
    let user = session-place x.sessions port.session among in
    let holds =
    and_parts (list_all (λ b. contains b (buffers_of_session x.sessions port.session)) bufs)
    (are_distinct bufs) all in
    let own : buffers_of_session x.sessions port.session ≡ user.held.buffers =
    subst (λ (k : ℕ). buffers_of_session x.sessions k ≡ user.held.buffers) user.id_is
    (buffers_of_session-place x.sessions w.entry_count user.place user.held rise user.here) in
    record {
      rise = rise;
      user = user;
      within = subst (λ (bs : List ℕ). list_all (λ b. contains b bs) bufs ≡ true) own holds.0;
      distinct = holds.1;
    }

pub held_synced :
    (s : Standing) (back : List ℕ) (id : ℕ) (port : Port) → open_port s.world.ports id ≡ Some port
    → CanReceive s back port
    → Numbered s → Roomy s → Held s
    → HeldNext (sync_step s back port)
held_synced s back id port e can n roomy h =
    let w = s.world in
    let x = s.holdings in
    let p = open-place w.ports w.entry_count id port n.ports_rise e in
    let a = agree-at w.ports x.ports p.place port h.ports_agree p.here in
    let holds = holder s p.place port back p.here can.held n h in
    synced-at w.pool w.entry_count w.sessions w.ports x back port p.place a.held holds.user
    n.ports_rise (rw (agree-ids w.ports x.ports h.ports_agree) n.ports_rise) holds.rise p.here
    a.here a.agrees (each-at HasRoom w.ports p.place port roomy.roomy p.here)
    (leb-true (length back) port.out can.few) holds.within holds.distinct h

-- Put
agrees-put :
    (number session : ℕ) (items : List Item) (peer : Port) (held : PortBuffers)
    → list_all is_pipe_item items ≡ true → length items ≤ space_of peer → HasRoom peer
    → PortAgrees peer held
    → PortAgrees (port_after_put number session (frames_of_items items) peer)
    (with_put_buffers (indices_of items) held)
agrees-put number session [] peer held sound few room a = a
agrees-put number session (item ∷ items) peer held sound few room a =
    let taken = indices_of (item ∷ items) in
    let frames = frames_of_items (item ∷ items) in
    let count : length taken ≡ length (item ∷ items) = length-map (item ∷ items) index_of_item in
    let size = items-size (item ∷ items) sound in
    let some : (length taken == 0) ≡ false = ne_eqb (length taken) 0 (λ e. omega (arith, e)) in
    let idle = a.idle in
    let left = length-drop (length taken) held.idle in
    let line = with_lot-size number session true frames peer.line in
    let fits = room.fits in
    let lots =
    lots-pushed held.lots taken peer.line
    (record { number = number; session = session; frames = frames; is_done = true })
    (omega (arith, count, size)) a.lots in
    rw some (record {
      id = a.id;
      idle = omega (arith, idle, left, line, fits, few, size, count);
      lots = lots;
    })

-- a put moves buffers from the session to a lot, and from idle to the session
put-count :
    (b : ℕ) (taken : List ℕ) (held : PortBuffers)
    → at_port b (with_put_buffers taken held) + count_of b (take (length taken) held.idle) ≡ at_port
    b held + count_of b taken
put-count b [] held = refl
put-count b (t ∷ ts) held =
    let taken : List ℕ = t ∷ ts in
    let some : (length taken == 0) ≡ false = ne_eqb (length taken) 0 (λ e. omega (arith, e)) in
    let cut = sum_by-take-drop (λ (y : ℕ). cond (y == b) 1 0) held.idle (length taken) in
    let lots :
    flat_map whole (held.lots ++ taken ∷ []) ≡ flat_map whole held.lots ++ (taken ++ []) =
    flat_map-append whole held.lots (taken ∷ []) in
    let counts = ap (count_of b) lots in
    let one = count_of-append b (flat_map whole held.lots) (taken ++ []) in
    let two = ap (count_of b) (append-nil taken) in
    let new =
    count_of-append b (drop (length taken) held.idle) (flat_map whole (held.lots ++ taken ∷ [])) in
    let old = count_of-append b held.idle (flat_map whole held.lots) in
    rw some (omega (arith, cut, counts, one, two, new, old))

-- whose dues a put leaves
due-put :
    (ports : List Port) (i : ℕ) (peer changed : Port) (session : ℕ) → slice_get ports i ≡ Some peer
    → changed.session ≡ peer.session → due_of changed ≡ due_of peer
    → due_of_session (slice_set ports i changed) session ≡ due_of_session ports session
due-put ports i peer changed session e owner due =
    let sum = due-set ports i peer changed session e in
    let same : due_for session changed ≡ due_for session peer =
    ap₂ (λ (k d : ℕ). cond (k == session) d 0) owner due in
    omega (arith, sum, same)

put-at :
    (pool high number : ℕ) (sessions : List ℕ) (ports : List Port) (x : Holdings)
    (items : List Item) (session : ℕ) (peer : Port) (p : PeerPlace ports peer) (held : PortBuffers)
    (user : SessionPlace x.sessions session) → Rise 0 (map id_of_held x.ports) high
    → Rise 0 (map id_of_session x.sessions) high
    → slice_get x.ports p.place ≡ Some held → PortAgrees peer held → HasRoom peer
    → list_all is_pipe_item items ≡ true → length items ≤ space_of peer
    → list_all (λ b. contains b user.held.buffers) (indices_of items) ≡ true
    → are_distinct (indices_of items) ≡ true
    → AreHeld pool sessions ports x
    → AreHeld pool sessions
    (changed_at peer.id (port_after_put number session (frames_of_items items)) ports)
    (holdings_after_put peer.id session (indices_of items) x)
put-at pool high number sessions ports x items session peer p held user held_rise user_rise f a
    room sound few within distinct h =
    let taken = indices_of items in
    let change = port_after_put number session (frames_of_items items) in
    let move = with_put_buffers taken in
    let given = take (length taken) held.idle in
    let after_user : SessionBuffers =
    record user.held { buffers = buffers_without taken user.held.buffers ++ given } in
    let ports_are : changed_at peer.id change ports ≡ slice_set ports p.place (change peer) =
    p.changes change in
    let helds_are : changed_buffers peer.id move x.ports ≡ slice_set x.ports p.place (move held) =
    subst (λ (k : ℕ). changed_buffers k move x.ports ≡ slice_set x.ports p.place (move held)) a.id
    (changed_buffers-place move x.ports high p.place held held_rise f) in
    let given_are : first_idle peer.id (length taken) x.ports ≡ given =
    subst (λ (k : ℕ). first_idle k (length taken) x.ports ≡ given) a.id
    (first_idle-place (length taken) x.ports high p.place held held_rise f) in
    let users_are : sessions_given session (first_idle peer.id (length taken) x.ports)
    (sessions_less session taken x.sessions)
    ≡ slice_set x.sessions user.place after_user =
    ap (λ (more : List ℕ). sessions_given session more (sessions_less session taken x.sessions))
    given_are ∙ moved-place taken given x.sessions high session user_rise user in
    let once = held-once pool sessions ports x user.place user.held h user.here in
    let away = length-away taken user.held.buffers distinct within once in
    let count : length taken ≡ length items = length-map items index_of_item in
    let idle = a.idle in
    let size : length given ≡ length taken =
    length-take-le (length taken) held.idle (omega (arith, count, idle, few)) in
    let joined = length-append (buffers_without taken user.held.buffers) given in
    let old = each-at (IsPaid ports) x.sessions user.place user.held h.dues user.here in
    let same_due = due-put ports p.place peer (change peer) user.held.session p.here refl refl in
    let own :
    length (buffers_without taken user.held.buffers ++ given)
    ≡ due_of_session (slice_set ports p.place (change peer)) user.held.session =
    omega (arith, away, size, joined, old, same_due) in
    let dues : Each (IsPaid (slice_set ports p.place (change peer)))
    (slice_set x.sessions user.place after_user) =
    each-set_key id_of_session (IsPaid ports) (IsPaid (slice_set ports p.place (change peer))) 0
    x.sessions high user.place user.held after_user user_rise user.here
    (λ z other here.
    here ∙ sym (due-put ports p.place peer (change peer) z.session p.here refl refl)) h.dues own in
    record {
      ports_agree =
          rw (ports_are, helds_are)
          (zip-set PortAgrees ports x.ports p.place (change peer) (move held) h.ports_agree
          (agrees-put number session items peer held sound few room a));
      session_ids = users-named x.sessions user after_user _ users_are refl ∙ h.session_ids;
      dues = rw (ports_are, users_are) dues;
      parted = λ b.
          let before = h.parted b in
          let helds_sum = sum-set (at_port b) x.ports p.place held (move held) f in
          let helds_same = ap (sum_by (at_port b)) helds_are in
          let users_sum =
          sum-set (at_session b) x.sessions user.place user.held after_user user.here in
          let users_same = ap (sum_by (at_session b)) users_are in
          let moved = put-count b taken held in
          let left = count-away b taken user.held.buffers distinct within (once b) in
          let both = count_of-append b (buffers_without taken user.held.buffers) given in
          omega (arith, before, helds_sum, helds_same, users_sum, users_same, moved, left, both);
    }

pub held_put :
    (s : Standing) (id offered : ℕ) (items : List Item) (port peer : Port)
    → open_port s.world.ports id ≡ Some port → CanKeep s offered items port
    → peer_of s.world.ports port ≡ Some peer
    → Numbered s → Roomy s → Held s
    → HeldNext (put_step s items port peer)
held_put s id offered items port peer e can found n roomy h =
    let w = s.world in
    let x = s.holdings in
    let own_place = open-place w.ports w.entry_count id port n.ports_rise e in
    let p = peer-place w.ports w.entry_count port peer n.ports_rise found in
    let a = agree-at w.ports x.ports p.place peer h.ports_agree p.here in
    let holds = holder s own_place.place port (indices_of items) own_place.here can.held n h in
    put-at w.pool w.entry_count (w.entry_count + 1) w.sessions w.ports x items port.session peer p
    a.held holds.user (rw (agree-ids w.ports x.ports h.ports_agree) n.ports_rise) holds.rise a.here
    a.agrees (each-at HasRoom w.ports p.place peer roomy.roomy p.here)
    can.sound (taken-few s offered items port peer can found) holds.within holds.distinct h
