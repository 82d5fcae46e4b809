-- After every legal history each buffer of the pool is held once, and the buffers held agree with
-- the world: a port's idle ones with its space, its lots with their frames, a session's with its
-- dues.
use Rattle.std.proofs.Common.{ℕ, ◌+◌, ◌≡◌, Bool, true, false, ◌==◌, List, [], ◌++◌, map, length, sum_by, flat_map, filter, not, Some, refl, sym, ◌∙◌, ap, subst, arith, slice_get, slice_set, length-append, sum}
use Rattle.std.specs.List.{AllByRecursion as Each, list_all, remove}
use Rattle.std.proofs.lemmas.List.Sums.{sum-map, count_by-le-length}
use Rattle.std.proofs.lemmas.List.Concat.{length-flat_map}
use Rattle.std.proofs.lemmas.List.Elements.{All-from_recursion}
use Rattle.std.proofs.lemmas.Bool.{and_parts, eqb-true, eqb-false, eq-eqb, ne_eqb}
use Rattle.vale_entry.specs.declared.entry.Entry.{Entry}
use Rattle.vale_entry.specs.World.{World, Port, changed_at, changed_if, due_of, buffers_of}
use Rattle.vale_entry.specs.Closing.{shut, shutting_port, ports_without, sessions_without}
use Rattle.vale_entry.specs.Holdings.{Holdings, PortBuffers, SessionBuffers, PortAgrees, Agrees, IsParted, all_free, buffers_at_port, contains, are_distinct, holds_all, due_of_session, sessions_less, buffers_without, holdings_after_finish, buffers_of_port}
use Rattle.vale_entry.specs.Legal.{Standing, after, shut_step, can_finish, finish_step, leave_step}
use Rattle.vale_entry.specs.Laws.{Rise, id_of_held, id_of_session}
use Rattle.vale_entry.proofs.Follows.{EachKind, after-by}
use Rattle.vale_entry.proofs.ListLaws.{each-at, sum-set}
use Rattle.vale_entry.proofs.Each.{each-weaker, sum-changed_at}
use Rattle.vale_entry.proofs.Counting.{count_of, count_of-append, count-away, length-away, count-pool}
use Rattle.vale_entry.proofs.Freeing.{count-all_with_free}
use Rattle.vale_entry.proofs.Removals.{each-filter, filter-at_key, sum-remove, sum-filter_same, map-filter}
use Rattle.vale_entry.proofs.Closings.{CanLeave}
use Rattle.vale_entry.proofs.Agreeing.{agree-ids, agree-at, agree-map, due_for, due-remove, due-without, less-place, SessionPlace, each-set_key, users-named}
use Rattle.vale_entry.proofs.InStep.{zip-remove}
use Rattle.vale_entry.proofs.Places.{buffers_of_port-place, shutting-place}
use Rattle.vale_entry.proofs.Numbered.{Numbered}
use Rattle.vale_entry.proofs.Roomy.{HasRoom, Roomy}
use Rattle.vale_entry.proofs.Holding.{whole, size_of_lot, at_port, at_session, times-held, IsPaid, AreHeld, Held, HeldNext, HasFree}
use Rattle.vale_entry.proofs.HeldGrants.{dues-same, held_done, held_enter, held_grant, held_opened}
pub use Rattle.vale_entry.proofs.HeldExchanges.{delivered-length, held-once}
use Rattle.vale_entry.proofs.HeldExchanges.{held_put, held_synced, holder}

-- Shut
agrees-shut :
    (shuts : Bool) (port : Port) (held : PortBuffers) → PortAgrees port held
    → PortAgrees (changed_if shuts shut port) held
agrees-shut true port held a = record { id = a.id; idle = a.idle; lots = a.lots }
agrees-shut false port held a = a

held_shut : (s : Standing) (port : Port) → Held s → HeldNext (shut_step s port)
held_shut s port h =
    let w = s.world in
    record {
      ports_agree =
          agree-map (λ (p : Port). changed_if (p.id == port.id) shut p)
          (λ p held a. agrees-shut (p.id == port.id) p held a) w.ports s.holdings.ports
          h.ports_agree;
      session_ids = h.session_ids;
      dues =
          dues-same w.ports (changed_at port.id shut w.ports)
          (λ session. sum-changed_at (due_for session) port.id shut (λ p. refl) w.ports)
          s.holdings.sessions h.dues;
      parted = h.parted;
    }

-- Finish
-- what a port's session holds for it, and what the port holds, are all its buffers
pub held-length : (port : Port) (held : PortBuffers) → HasRoom port → PortAgrees port held
    → length (buffers_at_port held) + due_of port ≡ buffers_of port
held-length port held room a =
    let idle = a.idle in
    let fits = room.fits in
    let lists :
    length (flat_map whole held.lots) ≡ sum_by (λ (list : List ℕ). length list) held.lots =
    length-flat_map whole held.lots in
    let one = sum-map (λ (list : List ℕ). length list) held.lots in
    let two = sum-map size_of_lot port.line in
    let same = ap sum (a.lots) in
    let joined = length-append held.idle (flat_map whole held.lots) in
    omega arith

-- another session is due what it was, and the port's own less by the port's
due-others :
    (ports : List Port) (i : ℕ) (port : Port) (session : ℕ) → slice_get ports i ≡ Some port
    → (port.session == session) ≡ false
    → due_of_session (remove ports i) session ≡ due_of_session ports session
due-others ports i port session e other =
    let sum = due-remove ports i port session e in
    let none : due_for session port ≡ 0 = rw other refl in
    omega arith

due-left :
    (ports : List Port) (i : ℕ) (port : Port) (session : ℕ) (bufs buffers : List ℕ)
    → slice_get ports i ≡ Some port
    → port.session ≡ session → length bufs ≡ due_of port
    → length (buffers_without bufs buffers) + length bufs ≡ length buffers
    → length buffers ≡ due_of_session ports session
    → length (buffers_without bufs buffers) ≡ due_of_session (remove ports i) session
due-left ports i port session bufs buffers e own all away here =
    let sum = due-remove ports i port session e in
    let mine : (port.session == session) ≡ true = eq-eqb port.session session own in
    let due : due_for session port ≡ due_of port = rw mine refl in
    omega arith

finished-at :
    (pool high : ℕ) (sessions : List ℕ) (ports : List Port) (x : Holdings) (bufs : List ℕ)
    (port : Port) (i : ℕ) (held : PortBuffers) (user : SessionPlace x.sessions port.session)
    → Rise 0 (map id_of_held x.ports) high → Rise 0 (map id_of_session x.sessions) high
    → slice_get ports i ≡ Some port → ports_without port.id ports ≡ remove ports i
    → slice_get x.ports i ≡ Some held → held.port ≡ port.id
    → length bufs ≡ due_of port → list_all (λ b. contains b user.held.buffers) bufs ≡ true
    → are_distinct bufs ≡ true
    → AreHeld pool sessions ports x
    → AreHeld pool sessions (ports_without port.id ports)
    (holdings_after_finish port.id port.session bufs x)
finished-at pool high sessions ports x bufs port i held user held_rise user_rise e ports_are f
    id_is all within distinct h =
    let after_user : SessionBuffers =
    record user.held { buffers = buffers_without bufs user.held.buffers } in
    let helds_are : filter (λ (y : PortBuffers). not (y.port == port.id)) x.ports
    ≡ remove x.ports i =
    subst (λ (k : ℕ). filter (λ (y : PortBuffers). not (y.port == k)) x.ports ≡ remove x.ports i)
    id_is (filter-at_key id_of_held 0 x.ports high i held held_rise f) in
    let own_are : buffers_of_port port.id x.ports ≡ buffers_at_port held =
    subst (λ (k : ℕ). buffers_of_port k x.ports ≡ buffers_at_port held) id_is
    (buffers_of_port-place x.ports high i held held_rise f) in
    let users_are :
    sessions_less port.session bufs x.sessions ≡ slice_set x.sessions user.place after_user =
    less-place bufs x.sessions high port.session user_rise user in
    let once = held-once pool sessions ports x user.place user.held h user.here in
    let away = length-away bufs user.held.buffers distinct within once in
    let old = each-at (IsPaid ports) x.sessions user.place user.held h.dues user.here in
    let own =
    due-left ports i port user.held.session bufs user.held.buffers e (sym user.id_is) all away old
    in
    let dues : Each (IsPaid (remove ports i)) (slice_set x.sessions user.place after_user) =
    each-set_key id_of_session (IsPaid ports) (IsPaid (remove ports i)) 0 x.sessions high user.place
    user.held after_user user_rise user.here
    (λ z other here. here ∙ sym (due-others ports i port z.session e
    (ne_eqb port.session z.session
    (λ same. eqb-false z.session user.held.session other (sym same ∙ sym user.id_is))))) h.dues own in
    record {
      ports_agree = rw (ports_are, helds_are) (zip-remove PortAgrees ports x.ports i h.ports_agree);
      session_ids = users-named x.sessions user after_user _ users_are refl ∙ h.session_ids;
      dues = rw (ports_are, users_are) dues;
      parted = λ b.
          let before = h.parted b in
          let freed = count-all_with_free b (buffers_of_port port.id x.ports ++ bufs) x.free in
          let joined = count_of-append b (buffers_of_port port.id x.ports) bufs in
          let own_same = ap (count_of b) own_are in
          let helds_sum = sum-remove (at_port b) x.ports i held f in
          let helds_same = ap (sum_by (at_port b)) helds_are in
          let users_sum =
          sum-set (at_session b) x.sessions user.place user.held after_user user.here in
          let users_same = ap (sum_by (at_session b)) users_are in
          let left = count-away b bufs user.held.buffers distinct within (once b) in
          omega arith;
    }

pub held_finished :
    (s : Standing) (bufs : List ℕ) (id : ℕ) (port : Port)
    → shutting_port s.world.ports id ≡ Some port → can_finish s bufs port ≡ true
    → Numbered s → Held s
    → Held (finish_step s bufs port).next
held_finished s bufs id port e can n h =
    let w = s.world in
    let x = s.holdings in
    let p = shutting-place w.ports w.entry_count id port n.ports_rise e in
    let a = agree-at w.ports x.ports p.place port h.ports_agree p.here in
    let parts = and_parts (length bufs == due_of port) (holds_all x port.session bufs) can in
    let holds = holder s p.place port bufs p.here parts.1 n h in
    finished-at w.pool w.entry_count w.sessions w.ports x bufs port p.place a.held holds.user
    (rw (agree-ids w.ports x.ports h.ports_agree) n.ports_rise) holds.rise p.here p.goes a.here
    a.agrees.id (eqb-true (length bufs) (due_of port) parts.0) holds.within holds.distinct h

-- Leave
-- a session that is due nothing holds nothing
left-nothing :
    (session : ℕ) (ports : List Port) (b : ℕ) (held : SessionBuffers)
    → due_of_session ports session ≡ 0 → IsPaid ports held
    → not (held.session == session) ≡ false
    → at_session b held ≡ 0
left-nothing session ports b held none paid goes = by_test (held.session == session) refl goes
  where
    by_test :
        (mine : Bool) → (held.session == session) ≡ mine → not mine ≡ false → at_session b held ≡ 0
    by_test false t g = absurd cc
    by_test true t g =
        let same = ap (due_of_session ports) (eqb-true held.session session t) in
        let few = count_by-le-length (λ (y : ℕ). y == b) held.buffers in
        omega arith

held_leave :
    (s : Standing) (session : ℕ) → CanLeave s.world session → Held s
    → HeldNext (leave_step s session)
held_leave s session can h =
    let w = s.world in
    let x = s.holdings in
    let none = due-without w.ports session can.no_port in
    let stays : SessionBuffers → Bool = λ (held : SessionBuffers). not (held.session == session) in
    record {
      ports_agree = h.ports_agree;
      session_ids =
          map-filter id_of_session (λ (k : ℕ). not (k == session)) x.sessions ∙ ap
          (sessions_without session) h.session_ids;
      dues = each-filter (IsPaid w.ports) stays x.sessions h.dues;
      parted = λ b.
          let before = h.parted b in
          let same =
          sum-filter_same (at_session b) stays x.sessions
          (each-weaker (IsPaid w.ports)
          (λ (held : SessionBuffers). stays held ≡ false → at_session b held ≡ 0)
          (λ held paid goes. left-nothing session w.ports b held none paid goes) x.sessions
          h.dues) in
          omega arith;
    }

held_kinds :
    (s : Standing) → Numbered s → Roomy s → HasFree s → Held s
    → EachKind s (λ ask made. HeldNext made)
held_kinds s n roomy free h = record {
  enters = λ user fits. held_enter s n h;
  quiet = λ ask session reply quiet. h;
  opens =
      λ session name tx rx extra can refusal. held_opened s session.0 name tx rx extra can.here
      refusal n roomy free h;
  sends = λ from frames port e can settled. h;
  grants = λ origin to offer first same. held_grant s offer n roomy h;
  completes = λ lease lot e. held_done s lease.0 lot h;
  receives = λ ask at back port receives e can. held_synced s back at.0 port e can n roomy h;
  puts =
      λ at offered items port peer e can found. held_put s at.0 offered items port peer e can found
      n roomy h;
  watches = λ at target sides port found e can there none. h;
  shuts = λ at port e settled. held_shut s port h;
  finishes = λ at bufs chain port fits e can out. held_finished s bufs at.0 port e can n h;
  leaves = λ session can. held_leave s session.0 can h;
}

pub held_entry :
    (s : Standing) (e : Entry) → Numbered s → Roomy s → HasFree s → Held s → Held (after s e)
held_entry s e n roomy free h = after-by s Held e h (held_kinds s n roomy free h)

pub held_fresh : (pool : ℕ) → AreHeld pool [] [] (all_free pool)
held_fresh pool = record {
  ports_agree = tt;
  session_ids = refl;
  dues = tt;
  parted = λ b. let all = count-pool pool b in omega arith;
}

-- in the words of the definitions
pub held-parted :
    (pool : ℕ) (sessions : List ℕ) (ports : List Port) (x : Holdings)
    → AreHeld pool sessions ports x → IsParted pool x
held-parted pool sessions ports x h = λ b. times-held b x ∙ h.parted b

pub held-agrees : (w : World) (x : Holdings) → AreHeld w.pool w.sessions w.ports x → Agrees w x
held-agrees w x h = record {
  ports_agree = h.ports_agree;
  session_ids = h.session_ids;
  dues = All-from_recursion (IsPaid w.ports) x.sessions h.dues;
}
