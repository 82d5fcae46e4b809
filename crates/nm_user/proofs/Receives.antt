-- A sync that reads what was granted to a port.
use Rattle.std.proofs.Common.{ℕ, ◌+◌, ◌^◌, ◌<◌, ◌≤◌, ◌==◌, ◌≡◌, Bool, true, false, cond, List, [], ◌∷◌, length, map, sym, ap, subst, arith, refl, ◌∙◌, Option, Some, None, IsSome, Result, Ok, Err, IfOk}
use Rattle.std.specs.Prelude.{All, IfSome, option_map, option_and_then, if◌then◌else◌}
use Rattle.std.specs.Option.{option_map_or}
use Rattle.std.specs.List.{AllByRecursion as Each, zip}
use Rattle.std.proofs.lemmas.List.{length-map}
use Rattle.std.proofs.lemmas.List.Elements.{recursion_from_All}
use Rattle.nm_types.specs.Names.{is_pipe_name}
use Rattle.nm_types.specs.Positions.{RingState, dist, pushed_slots}
use Rattle.nm_types.specs.Parts.{HeldPart}
use Rattle.nm_types.specs.Slots.{Pushed, pushed_names}
use Rattle.nm_region.specs.Buffers.{indices_of}
use Rattle.nm_types.specs.declared.fault.SyncFault.{SyncFault}
use Rattle.nm_types.specs.declared.id.PortId.{PortId}
use Rattle.nm_types.specs.declared.id.Side.TheVariants.{Rx}
use Rattle.nm_types.specs.OwnPorts.{OwnPort, OwnRing, OwnState, Arrival, port_with_id, ring_at, ring_on, refusal_in, refusal_at, pushed_at, pushed_in}
use Rattle.nm_types.specs.OwnSyncs.{back_on, buffers_of_arrivals, own_after_receive}
use Rattle.nm_types.proofs.RingSteps.{dist-below, length-slots_from}
use Rattle.nm_port.specs.Own.{ring_of}
use Rattle.nm_turn.specs.Shares.{IsWhole}
use Rattle.vale_line.specs.declared.got.Got.{Got}
use Rattle.vale_line.specs.Gots.{buffers_of}
use Rattle.vale_entry.specs.declared.entry.Ask.{Ask}
use Rattle.vale_entry.specs.declared.entry.Ask.TheVariants.{Sync, Get}
use Rattle.vale_entry.specs.declared.entry.Dest.{Dest}
use Rattle.vale_entry.specs.declared.entry.Reply.{Reply}
use Rattle.vale_entry.specs.declared.entry.Reply.TheVariants.{Gave}
use Rattle.vale_entry.specs.World.{Port, open_port}
use Rattle.vale_entry.specs.Holdings.{is_buffer_index}
use Rattle.vale_entry.specs.Arrivals.{arrivals_of, part_arrival, delivered_parts, given_at, given_arrivals}
use Rattle.vale_entry.specs.OwnCalls.{own_by, or_reset, back_in, rx_call}
use Rattle.vale_entry.specs.Legal.{Standing, standing_of, kept_ask, step, session_and_reply, made_at, can_sync, can_get, sync_step, offers_of_sync}
use Rattle.vale_entry.proofs.Counting.{count_of}
use Rattle.vale_entry.proofs.Each.{each-find}
use Rattle.vale_own.specs.Own.{Own, own_of, is_settled_own}
use Rattle.vale_own.specs.OwnEntries.{own_after_entry, own_received}
use Rattle.vale_own.specs.Asker.{asks, is_enter}
use Rattle.vale_own.specs.Side.{IsSoundPort, IsSoundSideOf, IsOfSide, shut_after}
use Rattle.vale_own.specs.SideAsks.{MayAsk as MayBeAsked, RefusalFits}
use Rattle.vale_own.specs.SideLaws.{ComeAsMany, IsNewTo, HasRoomFor}
use Rattle.vale_own.proofs.Arriving.{arrivals-apart, buffers-come-new}
use Rattle.vale_own.proofs.SideExchange.{sync-fits}
use Rattle.vale_own.proofs.SideArrivals.{arrivals-many}
use Rattle.vale_own.proofs.SideSyncing.{receive-asked}
use Rattle.vale_parts.specs.Batches.{dests_wanted}
use Rattle.vale_batch.specs.Wants.{Wanted}
use Rattle.vale_book.specs.Offering.{OffersState}
use Rattle.vale_book.specs.Reading.{IsGiven, IsOffered, read_ask}
use Rattle.vale_book.specs.Recorded.{standing}
use Rattle.vale_fabric.specs.declared.settling.Shares.{Shares}
use Rattle.vale_fabric.specs.Fabrics.{Knowing, Answers, MayAsk, seen_in, before_in, earlier, entry_by}
use Rattle.vale_fabric.specs.Settling.{Settling, Settles}
use Rattle.vale_fabric.proofs.Settlements.{settling-none}
use Rattle.nm_user.specs.Sessions.{SessionState, IsThere, standing_seen}
use Rattle.nm_user.specs.Receiving.{arrivals_in, CanCome}
use Rattle.nm_user.proofs.Later.{between, same-own}
use Rattle.nm_user.proofs.After.{IsHere, after_call, here-after, own-next, there-settled, last, whose}
use Rattle.nm_user.proofs.Plain.{has-side, asked, may, has-open, HasOpen}
use Rattle.nm_user.proofs.Sends.{Ends, as-own, no-offers, still-settled}
use Rattle.nm_user.proofs.Settled.{here-settled}
use Rattle.nm_user.proofs.ReceivesCome.{arrivals-are, can-come}

-- ---- the call

-- a port has a receive ring
pub has-ring : (own : OwnState) (id : ℕ) → IsSome (port_with_id own id) → IsSome (ring_at Rx own id)
has-ring own id some = by (port_with_id own id) some
  where
    by : (found : Option OwnPort) → IsSome found → IsSome (option_and_then (ring_on Rx) found)
    by None none = absurd cc
    by (Some p) there = refl

pub call-of : (pipe : Bool) (id : PortId) (back : List ℕ) → (let get : Ask = Get id back in let sync : Ask = Sync id back in if pipe then get else sync) ≡ read_ask pipe id back
call-of true id back = refl
call-of false id back = refl

-- the receive sync of a port is a read of it
pub record Reads (own : OwnState) (port : PortId) (pipe : Bool) : Type 0 where
  pub rx : OwnPort
  pub found : port_with_id own port.0 ≡ Some rx
  pub id_is : rx.id ≡ port
  pub ring_is : ring_at Rx own port.0 ≡ Some rx.rx
  pub passes : refusal_in Rx own rx rx.rx ≡ None
  pub is : rx_call own rx ≡ read_ask pipe port (back_on port.0 own)

pub reads : (own : OwnState) (port : PortId) (pipe : Bool) → IsSome (port_with_id own port.0) → IfSome (port_with_id own port.0) (λ (p : OwnPort). is_pipe_name p.name ≡ pipe)
    → refusal_at Rx port.0 own ≡ None → Reads own port pipe
reads own port pipe some named refused =
    let h : HasOpen own port = has-open own port some in
    let at : ring_at Rx own port.0 ≡ Some h.port.rx = ap (option_and_then (ring_on Rx)) h.found in
    let passes : refusal_in Rx own h.port h.port.rx ≡ None = sym (ap (option_and_then (λ (p : OwnPort). option_and_then (refusal_in Rx own p) (ring_on Rx p))) h.found) ∙ refused in
    let name : is_pipe_name h.port.name ≡ pipe = subst (λ (o : Option OwnPort). IfSome o (λ (p : OwnPort). is_pipe_name p.name ≡ pipe)) h.found named in
    let back : back_on port.0 own ≡ back_in h.port = ap (λ (o : Option OwnRing). pushed_names (option_map_or (pushed_in Rx) o [])) at in
    let get : Ask = Get h.port.id (back_in h.port) in
    let sync : Ask = Sync h.port.id (back_in h.port) in
    record {
      rx = h.port;
      found = h.found;
      id_is = h.id_is;
      ring_is = at;
      passes = passes;
      is = ap (λ (o : Option SyncFault). or_reset o h.port.id Rx (if is_pipe_name h.port.name then get else sync)) passes
          ∙ (ap (λ (b : Bool). if b then get else sync) name
          ∙ (call-of pipe h.port.id (back_in h.port)
          ∙ (ap (λ (i : PortId). read_ask pipe i (back_in h.port)) h.id_is ∙ ap (read_ask pipe port) (sym back))));
    }

abbrev pub reading : OwnState → PortId → Bool → Ask
reading own port pipe = read_ask pipe port (back_on port.0 own)

-- the call of a receive sync, whose refusal has numbers that fit, is the session's to ask
pub rx-asks : {s : SessionState} {port : PortId} (ask : Ask) → IsThere None s → (at : OwnPort) → port_with_id s.own port.0 ≡ Some at → at.id ≡ port → RefusalFits (refusal_in Rx s.own at at.rx) → rx_call s.own at ≡ ask
    → asks (standing_seen s.fixed s.knows) s.id ask ≡ true
rx-asks {s} {port} ask t at found id_is fits is =
    let pool = s.fixed.pool in
    let id : port.0 ≡ at.id.0 = ap (λ (i : PortId). i.0) (sym id_is) in
    let there : port_with_id s.own at.id.0 ≡ Some at = subst (λ (n : ℕ). port_with_id s.own n ≡ Some at) id found in
    asked ask t (subst (MayBeAsked pool s.knows.seen s.id) is (receive-asked pool s.knows.seen s.id None s.own at (has-side t) t.settled (there, refl) fits))

pub read-asks : {s : SessionState} {port : PortId} {pipe : Bool} → IsThere None s → Reads s.own port pipe → asks (standing_seen s.fixed s.knows) s.id (reading s.own port pipe) ≡ true
read-asks {s} {port} {pipe} t c = rx-asks (reading s.own port pipe) t c.rx c.found c.id_is (subst RefusalFits (sym c.passes) refl) c.is

-- ---- its entry, of either kind

enters-none : (pipe : Bool) (port : PortId) (back : List ℕ) → is_enter (read_ask pipe port back) ≡ false
enters-none true port back = refl
enters-none false port back = refl

read-kept : (pipe : Bool) (port : PortId) (back : List ℕ) → kept_ask (read_ask pipe port back) ≡ read_ask pipe port back
read-kept true port back = refl
read-kept false port back = refl

read-shuts-none : (pipe : Bool) (port : PortId) (back : List ℕ) → shut_after (kept_ask (read_ask pipe port back)) None ≡ None
read-shuts-none true port back = refl
read-shuts-none false port back = refl

read-comes : (pipe : Bool) (now : Standing) (port : PortId) (back : List ℕ) (count : ℕ) (to : List Dest) → arrivals_of now (kept_ask (read_ask pipe port back)) (Gave count to) ≡ given_at now port.0
read-comes true now port back count to = refl
read-comes false now port back count to = refl

read-makes : (pipe : Bool) (n : ℕ) (port : PortId) (back : List ℕ) (reply : Reply) (came : List Arrival) (own : OwnState) → own_by n (kept_ask (read_ask pipe port back)) reply came own ≡ own_after_receive port.0 came own
read-makes true n port back reply came own = refl
read-makes false n port back reply came own = refl

read-changes : (pipe : Bool) (now : Standing) (port : PortId) (back : List ℕ) (reply : Reply) (own : Own)
    → own_after_entry now (kept_ask (read_ask pipe port back)) reply own ≡ option_map_or (own_received now back own) (open_port now.world.ports port.0) own
read-changes true now port back reply own = refl
read-changes false now port back reply own = refl

read-of : (pipe : Bool) (own : OwnState) (port : PortId) (back : List ℕ) (p : OwnPort) (reply : Reply) → port_with_id own port.0 ≡ Some p → rx_call own p ≡ read_ask pipe port back → IsOfSide None own (kept_ask (read_ask pipe port back)) reply
read-of true own port back p reply found is = record { port = p; found = found; is = is }
read-of false own port back p reply found is = record { port = p; found = found; is = is }

many-of : (pipe : Bool) (own : OwnState) (port : PortId) (back : List ℕ) (reply : Reply) (n : ℕ) → ComeAsMany own (kept_ask (read_ask pipe port back)) reply n → HasRoomFor own port.0 n
many-of true own port back reply n as_many = as_many
many-of false own port back reply n as_many = as_many

-- the step that it makes
pub record Stepped (now : Standing) (port : PortId) (back : List ℕ) (session : ℕ) (reply : Reply) : Type 0 where
  pub at : Port
  pub found : open_port now.world.ports port.0 ≡ Some at
  pub session_is : at.session ≡ session
  pub reply_is : (sync_step now back at).reply ≡ reply

abbrev made-by : Option (ℕ × Reply) → ℕ
made-by made = option_map_or (λ (m : ℕ × Reply). m.0) made 0

abbrev made-reply : Option (ℕ × Reply) → Reply
made-reply made = option_map_or (λ (m : ℕ × Reply). m.1) made (Gave 0 [])

stepped-at : (now : Standing) (port : PortId) (back : List ℕ) (test : Port → Bool) (found : Option Port) (session : ℕ) (reply : Reply) → open_port now.world.ports port.0 ≡ found
    → option_map session_and_reply (made_at test (sync_step now back) found) ≡ Some (session, reply) → Stepped now port back session reply
stepped-at now port back test None session reply there e = absurd cc
stepped-at now port back test (Some p) session reply there e = by (test p) e
  where
    by : (b : Bool) → option_map session_and_reply (if b then Some (sync_step now back p) else None) ≡ Some (session, reply) → Stepped now port back session reply
    by true is = record { at = p; found = there; session_is = ap made-by is; reply_is = ap made-reply is }
    by false is = absurd cc

pub stepped : (pipe : Bool) (now : Standing) (port : PortId) (back : List ℕ) (session : ℕ) (reply : Reply) → option_map session_and_reply (step now (read_ask pipe port back)) ≡ Some (session, reply) → Stepped now port back session reply
stepped true now port back session reply e = stepped-at now port back (can_get now back) (open_port now.world.ports port.0) session reply refl e
stepped false now port back session reply e = stepped-at now port back (can_sync now back) (open_port now.world.ports port.0) session reply refl e

-- ---- a read that was answered

once-by : (n m : ℕ) (is : Bool) → n + m ≤ cond is 1 0 → 0 + m ≤ 1
once-by n m true le = omega (arith, le)
once-by n m false le = omega (arith, le)

abbrev dests-in : Reply → List Dest
dests-in (Gave count to) = to
dests-in _ = []

module _ (s : SessionState) (w : Knowing) (port : PortId) (pipe : Bool) (count : ℕ) (to : List Dest) (t : IsThere None s) (c : Reads s.own port pipe)
    (a : Answers s.fixed s.knows w (reading s.own port pipe) (Gave count to)) where
  abbrev back : List ℕ
  back = back_on port.0 s.own

  abbrev ask : Ask
  ask = reading s.own port pipe

  abbrev pool : ℕ
  pool = s.fixed.pool

  abbrev now : Standing
  now = standing_of s.fixed.pool (earlier w.seen)

  abbrev came : List Arrival
  came = given_at now port.0

  pub mine : a.makes.session ≡ s.id
  mine = whose t a.makes (enters-none pipe port back) (read-asks t c)

  pub found-step : Stepped now port back a.makes.session (Gave count to)
  found-step = stepped pipe now port back a.makes.session (Gave count to)
      (subst (λ (r : Reply). option_map session_and_reply (step now ask) ≡ Some (a.makes.session, r)) a.reply_is a.makes.steps)

  of-side : (reply : Reply) → IsOfSide None s.own (kept_ask ask) reply
  of-side reply = read-of pipe s.own port back c.rx reply c.found c.is

  -- what it makes of what the session has
  pub own-is : own_by (length w.seen) (kept_ask ask) (Gave count to) (arrivals_of (standing (before_in s.fixed w)) (kept_ask ask) (Gave count to)) s.own ≡ own_after_receive port.0 came s.own
  own-is = ap (λ (cs : List Arrival). own_by (length w.seen) (kept_ask ask) (Gave count to) cs s.own) (read-comes pipe now port back count to) ∙ read-makes pipe (length w.seen) port back (Gave count to) came s.own

  -- ---- what is offered of it is settled

  settled-none : to ≡ [] → is_settled_own (own_of s.id (standing_seen s.fixed w)) ≡ true
  settled-none none =
      let own = own_of s.id (standing_of pool s.knows.seen) in
      let st = found-step in
      let dests = ap dests-in st.reply_is in
      let offers : offers_of_sync now.world st.at ≡ [] = no-offers (offers_of_sync now.world st.at) (dests ∙ none) in
      let changes = read-changes pipe now port back a.makes.reply own ∙ ap (λ (o : Option Port). option_map_or (own_received now back own) o own) st.found in
      let still : is_settled_own (own_received now back own st.at) ≡ true = still-settled own (offers_of_sync now.world st.at) offers t.settled in
      ap is_settled_own (own-next t a.makes mine ∙ changes) ∙ still

  pub read-ends : {x : Knowing} {shares : Shares} (o : OffersState) → to ≡ dests_wanted o.wants → IsOffered (before_in s.fixed w) (seen_in s.fixed w) port o
      → (o.wants ≡ [] → (x ≡ w) × (shares ≡ record { given = 0; full = 0; gone = 0 })) → (1 ≤ length o.wants → Settles s.fixed w x o.session shares) → Ends s w x shares
  read-ends {x} {shares} o are offered none some = by o.wants refl
    where
      by : (wants : List Wanted) → o.wants ≡ wants → Ends s w x shares
      by [] is =
          let nothing = none is in
          let settled = settled-none (are ∙ ap dests_wanted is) in
          let here : Settling s.fixed w w s.id (record { given = 0; full = 0; gone = 0 }) = settling-none a.makes.told.picked a.makes.legal (λ is-whole. a.makes.whole (subst IsWhole a.makes.told.part is-whole)) in
          record {
            settling = subst (λ (z : Knowing). Settling s.fixed w z s.id shares) (sym nothing.0) (subst (Settling s.fixed w w s.id) (sym nothing.1) here);
            settled = ap (λ (z : Knowing). is_settled_own (own_of s.id (standing_seen s.fixed z))) nothing.0 ∙ settled;
          }
      by (want ∷ wants) is =
          let few : 1 ≤ length o.wants = subst (λ (ws : List Wanted). 1 ≤ length ws) (sym is) (omega arith) in
          let st = found-step in
          let of : o.session ≡ s.id = (offered st.at st.found).session_is ∙ (st.session_is ∙ mine) in
          let ends = some few in
          record {
            settling = subst (λ (n : ℕ). Settling s.fixed w x n shares) of ends.settling;
            settled = subst (λ (n : ℕ). is_settled_own (own_of n (standing_seen s.fixed x)) ≡ true) of ends.settled;
          }

  pub read-there : {x : Knowing} {shares : Shares} → Ends s w x shares → IsThere None (record s { knows = x; own = own_after_receive port.0 came s.own })
  read-there {x} {shares} ends =
      let here = here-after t a.makes mine (of-side a.makes.reply) in
      let shut-none = subst (λ (o : Option ℕ). IsHere o (after_call s w ask a.makes.reply)) (read-shuts-none pipe port back) here in
      let made = ap (λ (r : Reply). own_by (length w.seen) (kept_ask ask) r (arrivals_of now (kept_ask ask) r) s.own) a.reply_is ∙ own-is in
      let has = subst (λ (o : OwnState). IsHere None (record s { knows = w; own = o })) made shut-none in
      there-settled (here-settled has ends.settling) ends.settled

  -- ---- the frames that came

  side-then : IsSoundSideOf pool a.makes.session None (own_of a.makes.session now) s.own
  side-then =
      let b = between s.id a.makes t.come t.speaks in
      subst (λ (n : ℕ). IsSoundSideOf pool n None (own_of n now) s.own) (sym mine) (subst (λ (o : Own). IsSoundSideOf pool s.id None o s.own) (sym (same-own b)) t.side)

  arrivals-then : arrivals_of now (kept_ask ask) a.makes.reply ≡ came
  arrivals-then = ap (λ (r : Reply). arrivals_of now (kept_ask ask) r) a.reply_is ∙ read-comes pipe now port back count to

  pub come-so : CanCome port.0 (own_after_receive port.0 [] s.own) came
  come-so =
      let h = earlier w.seen in
      let m = a.makes in
      let e = entry_by m.session ask m.reply in
      let l = last m in
      let side = side-then in
      let new = recursion_from_All (IsNewTo pool s.own) _ (buffers-come-new pool h e None s.own l.legal l.follows side) in
      let new-here = subst (λ (cs : List Arrival). Each (IsNewTo pool s.own) (buffers_of_arrivals cs)) arrivals-then new in
      let new-own = subst (λ (n : ℕ). Each (IsNewTo n s.own) (buffers_of_arrivals came)) (sym side.of.pool_is) new-here in
      let as_many = arrivals-many pool h e None s.own l.legal l.follows side in
      let room = many-of pipe s.own port back m.reply _ as_many c.rx c.found in
      let count-is = ap (λ (cs : List Arrival). length cs) arrivals-then in
      let sound = each-find IsSoundPort (λ (p : OwnPort). p.id.0 == port.0) s.own.ports c.rx side.sound.each c.found in
      can-come port.0 s.own c.rx c.found c.passes sound.rx [] came (omega (arith, room, count-is)) new-own (λ b.
      once-by (count_of b (own_of m.session now).buffers) (count_of b (buffers_of_arrivals came)) (is_buffer_index pool b)
      (subst (λ (cs : List Arrival). count_of b (own_of m.session now).buffers + count_of b (buffers_of_arrivals cs) ≤ cond (is_buffer_index pool b) 1 0) arrivals-then (arrivals-apart pool h e b l.legal l.follows)))

  pub came-are : (gots : List Got) → IsGiven (before_in s.fixed w) port gots → came ≡ arrivals_in gots
  came-are gots given =
      let st = found-step in
      let of = given st.at st.found in
      ap (λ (o : Option Port). option_map_or (given_arrivals now) o []) st.found
      ∙ (ap (λ (bs : List ℕ). map part_arrival (zip bs (delivered_parts st.at))) (sym of.buffers)
      ∙ (ap (λ (parts : List HeldPart). map part_arrival (zip (indices_of (buffers_of gots)) parts)) (sym of.parts) ∙ arrivals-are gots))

-- ---- before the call

pub record ReadsHere (s : SessionState) (port : PortId) (pipe : Bool) : Type 0 where
  pub there : IsThere None s
  pub reads : Reads s.own port pipe

pub reads-here : {seen now : SessionState} {own : OwnState} (port : PortId) (pipe : Bool) → seen ≡ now → seen.own ≡ own → IsThere None seen → IsSome (port_with_id now.own port.0)
    → IfSome (port_with_id now.own port.0) (λ (p : OwnPort). is_pipe_name p.name ≡ pipe) → refusal_at Rx port.0 now.own ≡ None → ReadsHere (record seen { own = own }) port pipe
reads-here {seen} {now} {own} port pipe e f there some named refused =
    let at = as-own e f in
    let same : now.own ≡ own = ap (λ (s : SessionState). s.own) at in
    record {
      there = subst (IsThere None) (e ∙ at) there;
      reads = reads own port pipe (subst (λ (o : OwnState). IsSome (port_with_id o port.0)) same some)
          (subst (λ (o : OwnState). IfSome (port_with_id o port.0) (λ (p : OwnPort). is_pipe_name p.name ≡ pipe)) same named)
          (subst (λ (o : OwnState). refusal_at Rx port.0 o ≡ None) same refused);
    }

pub may-read : {s : SessionState} {port : PortId} {pipe : Bool} → ReadsHere s port pipe → MayAsk s.fixed s.knows (reading s.own port pipe)
may-read k = may k.there (read-asks k.there k.reads)

-- the port whose ring passes
passes-in : (own : OwnState) (id : ℕ) (r : OwnRing) → ring_at Rx own id ≡ Some r → refusal_at Rx id own ≡ None → (p : OwnPort) × (refusal_in Rx own p r ≡ None)
passes-in own id r at refused = by (port_with_id own id) at refused
  where
    by : (o : Option OwnPort) → option_and_then (ring_on Rx) o ≡ Some r → option_and_then (λ (p : OwnPort). option_and_then (refusal_in Rx own p) (ring_on Rx p)) o ≡ None → (p : OwnPort) × (refusal_in Rx own p r ≡ None)
    by None at refused = absurd cc
    by (Some p) at refused = (let same : p.rx ≡ r = cc in (p, subst (λ (x : OwnRing). refusal_in Rx own p x ≡ None) same refused))

-- the buffers that go back are no more than the user has slots
pub few-back : (own : OwnState) (id : ℕ) (ring : RingState) → Some ring ≡ option_map ring_of (ring_at Rx own id) → refusal_at Rx id own ≡ None → length (back_on id own) ≤ dist ring.size ring.accepted_head ring.last_tail
few-back own id ring e refused = by (ring_at Rx own id) refl e
  where
    by : (found : Option OwnRing) → ring_at Rx own id ≡ found → Some ring ≡ option_map ring_of found → length (back_on id own) ≤ dist ring.size ring.accepted_head ring.last_tail
    by None at is = absurd cc
    by (Some r) at is =
        let same : ring ≡ r.ring = cc is in
        let of = passes-in own id r at refused in
        let reach = (sync-fits Rx own of.0 r of.1).head_reach in
        let pushed : length (back_on id own) ≡ length (pushed_names (pushed_in Rx r)) = ap (λ (o : Option OwnRing). length (pushed_names (option_map_or (pushed_in Rx) o []))) at in
        let names = length-map (pushed_in Rx r) (λ (x : Pushed). x.slot.buf_idx) in
        let slots = length-map (pushed_slots r.ring r.ring.head) (pushed_at Rx r) in
        let count = length-slots_from r.ring.size r.ring.accepted_head (dist r.ring.size r.ring.accepted_head r.ring.head) in
        subst (λ (g : RingState). length (back_on id own) ≤ dist g.size g.accepted_head g.last_tail) (sym same) (omega (arith, reach, pushed, names, slots, count))

pub few-gone : {s : SessionState} {port : PortId} {pipe : Bool} → ReadsHere s port pipe → length (back_on port.0 s.own) < 2 ^ 32
few-gone {s} {port} {pipe} k =
    let c = k.reads in
    let ring = c.rx.rx.ring in
    let refused : refusal_at Rx port.0 s.own ≡ None = ap (option_and_then (λ (p : OwnPort). option_and_then (refusal_in Rx s.own p) (ring_on Rx p))) c.found ∙ c.passes in
    let back = few-back s.own port.0 ring (sym (ap (option_map ring_of) c.ring_is)) refused in
    let sound = each-find IsSoundPort (λ (p : OwnPort). p.id.0 == port.0) s.own.ports c.rx k.there.side.sound.each c.found in
    let below = dist-below ring.size ring.accepted_head ring.last_tail sound.rx.positions.accepted in
    let most = sound.rx.positions.is_size.1 in
    omega (arith, back, below, most)

pub enough : {X E : Type 0} (n count : ℕ) (room : X → ℕ) (r : Result X E) → n ≤ count → IfOk r (λ x. count ≤ room x) → IfOk r (λ x. n ≤ room x)
enough n count room (Ok x) few has = omega (arith, few, has)
enough n count room (Err e) few has = has
