-- Who holds what after an Enter, an Open, a Grant and a Done.
use Rattle.std.proofs.Common.{ℕ, ◌+◌, ◌-◌, ◌<◌, ◌≤◌, ◌≡◌, Bool, true, false, cond, ◌==◌, List, [], ◌∷◌, ◌++◌, map, length, take, drop, sum_by, flat_map, Option, Some, None, refl, sym, ◌∙◌, ap, subst, arith, slice_get, slice_set, length-append, length-drop, append-nil, ap₂}
use Rattle.std.specs.List.{AllByRecursion as Each}
use Rattle.std.proofs.lemmas.List.{map-append, length-take-le, drop-drop}
use Rattle.std.proofs.lemmas.List.Sums.{sum_by-cons, sum_by_push, sum_by-take-drop}
use Rattle.std.proofs.lemmas.List.Concat.{flat_map-append}
use Rattle.std.proofs.lemmas.Bool.{eqb-true, eqb-false, eq-eqb, ne_eqb}
use Rattle.nm_types.specs.Frames.{Frame, slots_of, size_of_frames}
use Rattle.nm_types.proofs.PartLemmas.{slots-some}
use Rattle.vale_entry.specs.World.{Port, Lot, Offer, is_session, open_port, changed_at, space_of, due_of, buffers_of}
use Rattle.vale_entry.specs.Opening.{open_refusal, opened_port}
use Rattle.vale_entry.specs.Grant.{longest_fitting, given_at, port_after_grant}
use Rattle.vale_entry.specs.Delivery.{lot_after_done, done_if, port_after_done}
use Rattle.vale_entry.specs.Holdings.{Holdings, PortBuffers, SessionBuffers, PortAgrees, due_of_session, sessions_given, session_given, changed_buffers, with_lot_buffers, holdings_after_grant}
use Rattle.vale_entry.specs.Legal.{Standing, enter_step, open_step_by, grant_step, done_step}
use Rattle.vale_entry.specs.Laws.{Rise, id_of_port, id_of_held, id_of_session, IsThere, IsPortOf}
use Rattle.vale_entry.proofs.ListLaws.{each-at, sum-set, sum-map_same}
use Rattle.vale_entry.proofs.Each.{each-append, each-map, each-weaker, changed_at-same}
use Rattle.vale_entry.proofs.Counting.{count_of, count_of-append}
use Rattle.vale_entry.proofs.Agreeing.{agree-ids, agree-at, agree-map, due_for, due-sum, due-set, due-push, due-none, among-bound, session-place, given-place, changed_buffers-same, sum-changed_buffers}
use Rattle.vale_entry.proofs.InStep.{zip-set, zip-push}
use Rattle.vale_entry.proofs.Places.{open-place, changed_buffers-place}
use Rattle.vale_entry.proofs.Numbered.{Numbered}
use Rattle.vale_entry.proofs.Roomy.{HasRoom, Roomy, opened-room, longest_fitting-size, with_lot-size, size-after_done}
use Rattle.vale_entry.proofs.Holding.{whole, size_of_lot, at_port, at_session, IsPaid, AreHeld, Held, HeldNext, HasFree}

-- Enter
owner-before :
    (count : ℕ) (sessions : List ℕ) (port : Port) → Rise 0 sessions count
    → IsThere sessions port.session → port.session < count + 1
owner-before count sessions port rise owned =
    let bound = among-bound 0 sessions count port.session rise owned in omega arith

pub held_enter : (s : Standing) → Numbered s → Held s → HeldNext (enter_step s)
held_enter s n h =
    let w = s.world in
    let x = s.holdings in
    let new : SessionBuffers = record { session = w.entry_count + 1; buffers = [] } in
    let ids = h.session_ids in
    let owners = each-weaker (IsPortOf w.sessions)
    (λ (port : Port). port.session < w.entry_count + 1)
    (λ port owned. owner-before w.entry_count w.sessions port n.sessions_rise owned) w.ports
    n.ports_owned in
    record {
      ports_agree = h.ports_agree;
      session_ids = rw (map-append, ids) refl;
      dues =
          each-append (IsPaid w.ports) x.sessions (new ∷ []) h.dues
          (sym (due-none w.ports (w.entry_count + 1) owners), tt);
      parted = λ b.
          let before = h.parted b in
          let more = sum_by_push (at_session b) x.sessions new in
          omega arith;
    }

-- Open
opened-length : (tx rx extra : ℕ) (free : List ℕ) → tx + rx + extra ≤ length free
    → length (take tx free ++ take extra (drop (tx + rx) free)) ≡ tx + extra
opened-length tx rx extra free fits =
    let front : length (take tx free) ≡ tx = length-take-le tx free (omega arith) in
    let left = length-drop (tx + rx) free in
    let back : length (take extra (drop (tx + rx) free)) ≡ extra =
    length-take-le extra (drop (tx + rx) free) (omega arith) in
    let all = length-append (take tx free) (take extra (drop (tx + rx) free)) in
    omega arith

opened-count : (b tx rx extra : ℕ) (free : List ℕ)
    → count_of b (take tx free ++ take extra (drop (tx + rx) free)) + count_of b
    (take rx (drop tx free)) + count_of b (drop (tx + rx + extra) free)
    ≡ count_of b free
opened-count b tx rx extra free =
    let test : ℕ → ℕ = λ (y : ℕ). cond (y == b) 1 0 in
    let one = sum_by-take-drop test free tx in
    let two = sum_by-take-drop test (drop tx free) rx in
    let three = sum_by-take-drop test (drop (tx + rx) free) extra in
    let first : count_of b (drop rx (drop tx free)) ≡ count_of b (drop (tx + rx) free) =
    ap (count_of b) (drop-drop rx tx free) in
    let second : count_of b (drop extra (drop (tx + rx) free))
    ≡ count_of b (drop (tx + rx + extra) free) =
    ap (count_of b) (drop-drop extra (tx + rx) free) in
    let sum = count_of-append b (take tx free) (take extra (drop (tx + rx) free)) in
    omega arith

given_by :
    (session : ℕ) (more : List ℕ) (held : SessionBuffers) (ports : List Port) (port : Port)
    (mine : Bool)
    → (held.session == session) ≡ mine
    → port.session ≡ session → length more ≡ due_of port
    → length held.buffers ≡ due_of_session ports held.session
    → length (cond mine (record held { buffers = held.buffers ++ more }) held).buffers
    ≡ due_of_session (ports ++ port ∷ [])
    (cond mine (record held { buffers = held.buffers ++ more }) held).session
given_by session more held ports port true t owner size here =
    let same : held.session ≡ session = eqb-true held.session session t in
    let hit : (port.session == held.session) ≡ true =
    eq-eqb port.session held.session (owner ∙ sym same) in
    let due = due-push ports port held.session in
    let mine : due_for held.session port ≡ due_of port = rw hit refl in
    let all = length-append held.buffers more in
    omega arith
given_by session more held ports port false t owner size here =
    let miss : (port.session == held.session) ≡ false =
    ne_eqb port.session held.session (λ e. eqb-false held.session session t (sym e ∙ owner)) in
    let due = due-push ports port held.session in
    let none : due_for held.session port ≡ 0 = rw miss refl in
    omega arith

pub held_opened :
    (s : Standing) (session : ℕ) (name : List ℕ) (tx rx extra : ℕ)
    → is_session s.world session ≡ true
    → open_refusal s.world name tx rx extra ≡ None → Numbered s → Roomy s → HasFree s → Held s
    → HeldNext (open_step_by None s session name tx rx extra)
held_opened s session name tx rx extra found e n roomy free h =
    let w = s.world in
    let x = s.holdings in
    let port = opened_port (w.entry_count + 1) session name tx rx extra in
    let new : PortBuffers =
    record { port = w.entry_count + 1; idle = take rx (drop tx x.free); lots = [] } in
    let more = take tx x.free ++ take extra (drop (tx + rx) x.free) in
    let facts = opened-room w name tx rx extra e in
    let room : tx + rx + extra ≤ w.pool - sum_by buffers_of w.ports = facts.0 in
    let least : 2 ≤ rx = facts.1 in
    let count : length x.free + sum_by buffers_of w.ports ≡ w.pool = free.count in
    let fits : tx + rx + extra ≤ length x.free = omega arith in
    let given : length more ≡ tx + extra = opened-length tx rx extra x.free fits in
    let size : length more ≡ due_of port = omega arith in
    let left = length-drop tx x.free in
    let idle : length (take rx (drop tx x.free)) ≡ rx =
    length-take-le rx (drop tx x.free) (omega arith) in
    let among : IsThere (map id_of_session x.sessions) session = rw h.session_ids found in
    let p = session-place x.sessions session among in
    let rise : Rise 0 (map id_of_session x.sessions) w.entry_count =
    rw h.session_ids n.sessions_rise in
    let changed = given-place more x.sessions w.entry_count session rise p in
    let agrees : PortAgrees port new = record { id = refl; idle = omega arith; lots = refl } in
    record {
      ports_agree = zip-push PortAgrees w.ports x.ports port new h.ports_agree agrees;
      session_ids = ids_kept session more x.sessions ∙ h.session_ids;
      dues = each-map (IsPaid w.ports) (IsPaid (w.ports ++ port ∷ []))
          (session_given session more)
          (λ held here.
          given_by session more held w.ports port (held.session == session) refl refl size here)
          x.sessions h.dues;
      parted = λ b.
          let before = h.parted b in
          let ports = sum_by_push (at_port b) x.ports new in
          let at_new : at_port b new ≡ count_of b (take rx (drop tx x.free)) =
          ap (count_of b) (append-nil (take rx (drop tx x.free))) in
          let sessions =
          sum-set (at_session b) x.sessions p.place p.held
          (record p.held { buffers = p.held.buffers ++ more }) p.here in
          let same = ap (sum_by (at_session b)) changed in
          let joined = count_of-append b p.held.buffers more in
          let free_parts = opened-count b tx rx extra x.free in
          omega arith;
    }
  where
    id_kept : (session : ℕ) (more : List ℕ) (held : SessionBuffers) (mine : Bool)
        → id_of_session (cond mine (record held { buffers = held.buffers ++ more }) held)
        ≡ held.session
    id_kept session more held true = refl
    id_kept session more held false = refl

    ids_kept : (session : ℕ) (more : List ℕ) (helds : List SessionBuffers)
        → map id_of_session (sessions_given session more helds) ≡ map id_of_session helds
    ids_kept session more [] = refl
    ids_kept session more (held ∷ helds) =
        let here = id_kept session more held (held.session == session) in
        let rest = ids_kept session more helds in
        cc

-- Grant
pub lots-pushed :
    (lists : List (List ℕ)) (taken : List ℕ) (line : List Lot) (lot : Lot)
    → length taken ≡ size_of_frames lot.frames
    → map (λ (list : List ℕ). length list) lists ≡ map size_of_lot line
    → map (λ (list : List ℕ). length list) (lists ++ taken ∷ [])
    ≡ map size_of_lot (line ++ lot ∷ [])
lots-pushed lists taken line lot here e =
    map-append (λ (list : List ℕ). length list) lists (taken ∷ [])
    ∙ ap₂ (λ (sizes : List ℕ) (n : ℕ). sizes ++ n ∷ []) e here
    ∙ sym (map-append size_of_lot line (lot ∷ []))

agrees-granted :
    (number session : ℕ) (given : List Frame) (port : Port) (held : PortBuffers)
    → size_of_frames given ≤ space_of port → HasRoom port
    → PortAgrees port held
    → PortAgrees (port_after_grant number session given port)
    (with_lot_buffers (size_of_frames given) held)
agrees-granted number session [] port held few room a = a
agrees-granted number session (frame ∷ frames) port held few room a =
    let given = frame ∷ frames in
    let size : size_of_frames given ≡ slots_of frame + size_of_frames frames =
    sum_by-cons slots_of frame frames in
    let first = slots-some (length frame.bytes) in
    let some : (size_of_frames given == 0) ≡ false =
    ne_eqb (size_of_frames given) 0 (λ e. omega arith) in
    let idle = a.idle in
    let taken : length (take (size_of_frames given) held.idle) ≡ size_of_frames given =
    length-take-le (size_of_frames given) held.idle (omega arith) in
    let left = length-drop (size_of_frames given) held.idle in
    let line = with_lot-size number session false given port.line in
    let fits = room.fits in
    rw some (record {
      id = a.id;
      idle = omega arith;
      lots = lots-pushed held.lots (take (size_of_frames given) held.idle) port.line _ taken a.lots;
    })

-- a grant moves buffers from idle to a lot
grant_moves_by : (b size : ℕ) (held : PortBuffers) (none : Bool)
    → at_port b
    (cond none held
    (record held { idle = drop size held.idle; lots = held.lots ++ take size held.idle ∷ [] }))
    ≡ at_port b held
grant_moves_by b size held true = refl
grant_moves_by b size held false =
    let cut = sum_by-take-drop (λ (y : ℕ). cond (y == b) 1 0) held.idle size in
    let lots : flat_map whole (held.lots ++ take size held.idle ∷ [])
    ≡ flat_map whole held.lots ++ (take size held.idle ++ [])
    = flat_map-append whole held.lots (take size held.idle ∷ []) in
    let counts = ap (count_of b) lots in
    let one = count_of-append b (flat_map whole held.lots) (take size held.idle ++ []) in
    let two = ap (count_of b) (append-nil (take size held.idle)) in
    let new =
    count_of-append b (drop size held.idle) (flat_map whole (held.lots ++ take size held.idle ∷ []))
    in
    let old = count_of-append b held.idle (flat_map whole held.lots) in
    omega arith

-- dues stay where a change keeps a port's session and due
dues-kept :
    (ports : List Port) (i : ℕ) (port changed : Port) (helds : List SessionBuffers)
    → slice_get ports i ≡ Some port
    → changed.session ≡ port.session → due_of changed ≡ due_of port
    → Each (IsPaid ports) helds
    → Each (IsPaid (slice_set ports i changed)) helds
dues-kept ports i port changed helds e session due all =
    each-weaker (IsPaid ports) (IsPaid (slice_set ports i changed))
    (λ held here.
    let sum = due-set ports i port changed held.session e in
    let same : due_for held.session changed ≡ due_for held.session port =
    ap₂ (λ (k d : ℕ). cond (k == held.session) d 0) session due in
    omega arith) helds all

held-granted :
    (pool number session id : ℕ) (frames : List Frame) (sessions : List ℕ) (high : ℕ)
    (ports : List Port) (x : Holdings) (at : Option Port)
    → open_port ports id ≡ at
    → Rise 0 (map id_of_port ports) high → Each HasRoom ports → AreHeld pool sessions ports x
    → AreHeld pool sessions
    (changed_at id (port_after_grant number session (given_at at frames)) ports)
    (holdings_after_grant id (size_of_frames (given_at at frames)) x)
held-granted pool number session id frames sessions high ports x None e rise roomy h =
    let same = changed_at-same id (port_after_grant number session []) (λ port. refl) ports in
    let held = changed_buffers-same id (with_lot_buffers 0) (λ y. refl) x.ports in
    let new : Holdings = record x { ports = x.ports } in
    rw (same, held) h
held-granted pool number session id frames sessions high ports x (Some port) e rise roomy h =
    let given = longest_fitting (space_of port) frames in
    let change = port_after_grant number session given in
    let p = open-place ports high id port rise e in
    let a = agree-at ports x.ports p.place port h.ports_agree p.here in
    let rises : Rise 0 (map id_of_held x.ports) high =
    rw (agree-ids ports x.ports h.ports_agree) rise in
    let id_is : a.held.port ≡ id = a.agrees.id ∙ p.id_is in
    let move = with_lot_buffers (size_of_frames given) in
    let moved : changed_buffers id move x.ports ≡ slice_set x.ports p.place (move a.held) =
    subst (λ (k : ℕ). changed_buffers k move x.ports ≡ slice_set x.ports p.place (move a.held))
    id_is (changed_buffers-place move x.ports high p.place a.held rises a.here) in
    let room : HasRoom port = each-at HasRoom ports p.place port roomy p.here in
    let agrees =
    agrees-granted number session given port a.held (longest_fitting-size (space_of port) frames)
    room a.agrees in
    record {
      ports_agree =
          rw (p.changes change, moved)
          (zip-set PortAgrees ports x.ports p.place (change port) (move a.held) h.ports_agree agrees);
      session_ids = h.session_ids;
      dues =
          rw (p.changes change)
          (dues-kept ports p.place port (change port) x.sessions p.here refl refl h.dues);
      parted = λ b.
          let before = h.parted b in
          let ports_sum =
          sum-changed_buffers (at_port b) id move
          (λ held. grant_moves_by b (size_of_frames given) held (size_of_frames given == 0)) x.ports
          in
          omega arith;
    }

pub held_grant :
    (s : Standing) (offer : Offer) → Numbered s → Roomy s → Held s → HeldNext (grant_step s offer)
held_grant s offer n roomy h =
    let w = s.world in
    held-granted w.pool (w.entry_count + 1) offer.session offer.to offer.frames w.sessions
    w.entry_count w.ports s.holdings (open_port w.ports offer.to) refl n.ports_rise roomy.roomy h

-- Done
done-same_size :
    (b : Bool) (lot : Lot) → size_of_frames (done_if b lot).frames ≡ size_of_frames lot.frames
done-same_size true lot = refl
done-same_size false lot = refl

sizes-after_done : (number : ℕ) (line : List Lot)
    → map size_of_lot (map (lot_after_done number) line) ≡ map size_of_lot line
sizes-after_done number [] = refl
sizes-after_done number (lot ∷ lots) =
    let here = done-same_size (lot.number == number) lot in
    let rest = sizes-after_done number lots in
    cc

agrees-done :
    (number : ℕ) (port : Port) (held : PortBuffers) → PortAgrees port held
    → PortAgrees (port_after_done number port) held
agrees-done number port held a =
    let size = size-after_done number port.line in
    let idle = a.idle in
    record
    { id = a.id; idle = omega arith; lots = a.lots ∙ sym (sizes-after_done number port.line) }

-- sessions are paid where ports change that leave what each session is due
pub dues-same :
    (ports later : List Port)
    → ((session : ℕ) → sum_by (due_for session) later ≡ sum_by (due_for session) ports)
    → (users : List SessionBuffers) → Each (IsPaid ports) users → Each (IsPaid later) users
dues-same ports later same users paid =
    each-weaker (IsPaid ports) (IsPaid later)
    (λ held here.
    let old = due-sum ports held.session in
    let new = due-sum later held.session in
    let still = same held.session in
    omega arith) users paid

pub held_done : (s : Standing) (number : ℕ) (lot : Lot) → Held s → HeldNext (done_step s number lot)
held_done s number lot h =
    let w = s.world in
    record {
      ports_agree =
          agree-map (port_after_done number) (agrees-done number) w.ports s.holdings.ports
          h.ports_agree;
      session_ids = h.session_ids;
      dues =
          dues-same w.ports (map (port_after_done number) w.ports)
          (λ session.
          sum-map_same (due_for session) (due_for session) (port_after_done number) (λ port. refl)
          w.ports) s.holdings.sessions h.dues;
      parted = h.parted;
    }
