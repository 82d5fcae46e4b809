-- What an entry of a side makes of it is what its session has then.
use Rattle.std.proofs.Common.{ℕ, zero, suc, ◌+◌, ◌<◌, ◌≤◌, ◌≡◌, Bool, true, false, cond, ◌==◌, List, [], ◌∷◌, ◌++◌, map, take, drop, length, get_or, Option, Some, None, refl, sym, ◌∙◌, ap, ap₂, subst, arith}
use Rattle.std.specs.Prelude.{find, replicate}
use Rattle.std.specs.Option.{option_map_or}
use Rattle.std.specs.List.{AllByRecursion as Each, IsDistinct}
use Rattle.std.proofs.lemmas.Bool.{eqb-true, and_parts}
use Rattle.std.proofs.lemmas.List.{length-map, length-drop, length-take-le}
use Rattle.vale_entry.proofs.Roomy.{opened-room}
use Rattle.nm_types.specs.Frames.{Frame, size_of_frames}
use Rattle.nm_types.specs.declared.id.PortId.{PortId}
use Rattle.nm_types.specs.declared.id.SessionId.{SessionId}
use Rattle.nm_types.specs.declared.id.Chain.{Chain}
use Rattle.nm_types.specs.declared.id.Side.TheVariants.{Tx, Rx}
use Rattle.nm_types.specs.OwnPorts.{OwnPort, OwnState, Arrival, empty_own, buffers_in, port_with_id, refusal_in}
use Rattle.nm_types.specs.OwnSyncs.{buffers_of_arrivals, offered_slots, own_after_receive, own_after_put, own_after_send, own_after_reset, own_after_open, own_after_finish}
use Rattle.vale_entry.specs.declared.entry.Ask.{Ask}
use Rattle.vale_entry.specs.declared.entry.Ask.TheVariants.{Enter, Open, Sync, Get, PutKept, Shut, Finish, Send}
use Rattle.vale_entry.specs.declared.entry.Entry.{Entry}
use Rattle.vale_entry.specs.declared.entry.Item.{Item}
use Rattle.vale_entry.specs.declared.entry.Reply.{Reply}
use Rattle.vale_entry.specs.declared.entry.Reply.TheVariants.{PeerGone, Opened, Made}
use Rattle.vale_entry.specs.World.{Port, open_port, is_open_at, changed_if, changed_at}
use Rattle.vale_entry.specs.Opening.{open_refusal, opened_port}
use Rattle.vale_entry.specs.Arrivals.{arrivals_of, given_at, lent_arrivals}
use Rattle.vale_entry.specs.Closing.{is_port_of, is_shutting_at, shutting_port, ports_without}
use Rattle.vale_entry.specs.Delivery.{delivered_frames}
use Rattle.vale_entry.specs.Holdings.{is_buffer_index}
use Rattle.vale_entry.specs.Laws.{id_of_port}
use Rattle.vale_entry.specs.OwnCalls.{own_by, own_after, offered_items, back_in}
use Rattle.vale_entry.specs.Pipe.{peer_of, indices_of}
use Rattle.vale_entry.specs.Legal.{Standing, standing_of, kept_items, send_step, sync_step, put_step, finish_step}
use Rattle.vale_entry.proofs.Worlds.{count-world_of}
use Rattle.vale_entry.proofs.HistoryLaws.{Stands, history-stands}
use Rattle.vale_entry.proofs.Follows.{EachKind, IsQuiet, resets, finds_no_peer, Receives, by_sync, by_get, CanKeep, follows-by}
use Rattle.vale_entry.proofs.Removals.{each-filter}
use Rattle.vale_entry.proofs.Each.{each-map, each-unmap}
use Rattle.vale_entry.proofs.ListLaws.{place-of}
use Rattle.vale_entry.proofs.Counting.{count_of}
use Rattle.vale_own.specs.Own.{Own, own_of, port_alone}
use Rattle.vale_own.specs.OwnEntries.{own_after_entry, own_received, received_port, given_up}
use Rattle.vale_own.specs.Side.{buffers_on, id_of, is_shut, port_of_side, IsSound, IsSoundSideOf, IsTxCall, IsRxCall, IsFinishCall, IsPutCall, IsOfSide, shut_after}
use Rattle.vale_own.specs.SideLaws.{SideBegins, SideIsKept}
use Rattle.vale_own.proofs.Sounds.{Sound, sound-of}
use Rattle.vale_own.proofs.Moved.{buffers-moved}
use Rattle.vale_own.proofs.Newcomers.{rise-below}
use Rattle.vale_own.proofs.OwnEntry.{own-entries}
use Rattle.vale_own.proofs.Arriving.{arrivals-apart}
use Rattle.vale_own.proofs.SideMoves.{Moved, moved-sound}
use Rattle.vale_own.proofs.SideSends.{sent-moved, sent-ports}
use Rattle.vale_own.proofs.SideReceives.{received-moved, received-ports}
use Rattle.vale_own.proofs.SidePuts.{put-moved, put-ports}
use Rattle.vale_own.proofs.SideResets.{reset-moved, reset-ports, finish-moved, finish-ports}
use Rattle.vale_own.proofs.SideOpens.{opened-sizes, opened-counts, opened-sound, opened-ports}
use Rattle.vale_own.proofs.SideArrivals.{given-count, given-room, lent-count, opened-count}
use Rattle.vale_own.proofs.SideCalls.{sends-none, puts-none, syncs-none, gets-none, seen-as, shutting-own, open-id, shutting-id}

abbrev shut-port : Port → Port
shut-port port = record port { shutting = true }

-- what is known before an entry of the side
record Before (pool : ℕ) (s : Standing) (shut : Option ℕ) (side : OwnState) (ask : Ask) (session : ℕ) (reply : Reply) : Type 0 where
  of : IsSoundSideOf pool session shut (own_of session s) side
  call : IsOfSide shut side ask reply
  moved : (b : ℕ) → count_of b (own_after_entry s ask reply (own_of session s)).buffers + count_of b (given_up ask reply) ≡ count_of b (own_of session s).buffers + count_of b (buffers_of_arrivals (arrivals_of s ask reply))
  new : (b : ℕ) → count_of b (own_of session s).buffers + count_of b (buffers_of_arrivals (arrivals_of s ask reply)) ≤ 1

abbrev Kept : ℕ → Standing → Option ℕ → OwnState → Ask → ℕ → Reply → Type 0
Kept pool s shut side ask session reply =
    Before pool s shut side ask session reply
    → IsSoundSideOf pool session (shut_after ask shut) (own_after_entry s ask reply (own_of session s)) (own_by (s.world.entry_count + 1) ask reply (arrivals_of s ask reply) side)

-- a side from which buffers went, and to which buffers came, as they did for its session
kept-by : (pool session : ℕ) (shut then : Option ℕ) (own next : Own) (side new : OwnState) (gone : List ℕ) (came : List Arrival)
    → IsSoundSideOf pool session shut own side → next.there ≡ own.there → next.ports ≡ map (port_of_side session then) new.ports
    → ((b : ℕ) → count_of b next.buffers + count_of b gone ≡ count_of b own.buffers + count_of b (buffers_of_arrivals came))
    → ((b : ℕ) → count_of b own.buffers + count_of b (buffers_of_arrivals came) ≤ 1)
    → Moved side new gone came → IsSoundSideOf pool session then next new
kept-by pool session shut then own next side new gone came of there ports moved apart k = record {
  of = record {
    there = there ∙ of.of.there;
    pool_is = k.pool_is ∙ of.of.pool_is;
    ports = ports;
    buffers = λ b.
        let one = moved b in
        let two = k.moved b in
        let three = of.of.buffers b in
        omega (arith, one, two, three);
  };
  sound = moved-sound side new gone came of.sound (λ b. let one = apart b in let two = of.of.buffers b in omega (arith, one, two)) k;
}

-- what a side's session has apart from offers and leases
same-own : (pool session : ℕ) (shut : Option ℕ) (own next : Own) (side : OwnState) → next.there ≡ own.there → next.ports ≡ own.ports → next.buffers ≡ own.buffers → IsSoundSideOf pool session shut own side → IsSoundSideOf pool session shut next side
same-own pool session shut own next side there ports buffers of = record {
  of = record { there = there ∙ of.of.there; pool_is = of.of.pool_is; ports = ports ∙ of.of.ports; buffers = λ b. ap (count_of b) buffers ∙ of.of.buffers b };
  sound = of.sound;
}

-- an opening takes as many of the free buffers as it asks for
pub record OpensWith (free : List ℕ) (tx rx extra : ℕ) : Type 0 where
  pub front : length (take tx free) ≡ tx
  pub behind : length (take extra (drop (tx + rx) free)) ≡ extra

pub opens-with : (pool : ℕ) (s : Standing) (name : List ℕ) (tx rx extra : ℕ) → Stands pool s → open_refusal s.world name tx rx extra ≡ None → OpensWith s.holdings.free tx rx extra
opens-with pool s name tx rx extra stands refusal =
    let room = (opened-room s.world name tx rx extra refusal).0 in
    let count = stands.free.count in
    let left = length-drop (tx + rx) s.holdings.free in
    record {
      front = length-take-le tx s.holdings.free (omega (arith, room, count));
      behind = length-take-le extra (drop (tx + rx) s.holdings.free) (omega (arith, room, count, left));
    }

module _ (pool : ℕ) (s : Standing) (shut : Option ℕ) (side : OwnState) (stands : Stands pool s) (known : Sound s) where
  once-on : (session : ℕ) (came : List Arrival) → IsSoundSideOf pool session shut (own_of session s) side → ((b : ℕ) → count_of b (own_of session s).buffers + count_of b (buffers_of_arrivals came) ≤ 1) → (b : ℕ) → count_of b (buffers_on side) ≤ 1
  once-on session came of new b = let one = new b in let two = of.of.buffers b in omega (arith, one, two)

  -- a send
  kept-send : (from : PortId) (frames : List Frame) (port : Port) (reply : Reply) → open_port s.world.ports from.0 ≡ Some port → Kept pool s shut side (Send from frames) port.session reply
  kept-send from frames port reply e k =
      let c : IsTxCall side from.0 (Send from frames) = k.call in
      let passes = sends-none (refusal_in Tx side c.port c.ring) _ c.port.id from _ _ frames c.is in
      let once = once-on port.session [] k.of k.new in
      let own = own_of port.session s in
      kept-by pool port.session shut shut own (own_after_entry s (Send from frames) reply own) side (own_after_send from.0 side) [] [] k.of
      (rw e refl)
      (rw e (k.of.of.ports ∙ sym (sent-ports from.0 side c.port c.ring k.of.sound once c.found c.has passes port.session shut)))
      k.moved k.new (sent-moved from.0 side c.port c.ring k.of.sound once c.found c.has passes)

  -- a receive sync
  kept-received : (ask : Ask) (at : PortId) (back : List ℕ) (port : Port) (p : OwnPort) (came : List Arrival) → open_port s.world.ports at.0 ≡ Some port
      → IsSoundSideOf pool port.session shut (own_of port.session s) side → came ≡ given_at s at.0 → port_with_id side at.0 ≡ Some p → refusal_in Rx side p p.rx ≡ None → back_in p ≡ back
      → ((b : ℕ) → count_of b (option_map_or (own_received s back (own_of port.session s)) (open_port s.world.ports at.0) (own_of port.session s)).buffers + count_of b back ≡ count_of b (own_of port.session s).buffers + count_of b (buffers_of_arrivals came))
      → ((b : ℕ) → count_of b (own_of port.session s).buffers + count_of b (buffers_of_arrivals came) ≤ 1)
      → IsSoundSideOf pool port.session shut (option_map_or (own_received s back (own_of port.session s)) (open_port s.world.ports at.0) (own_of port.session s)) (own_after_receive at.0 came side)
  kept-received ask at back port p came e of is found passes names moved new =
      let own = own_of port.session s in
      let once = once-on port.session came of new in
      let id-is : port.id ≡ at.0 = open-id at.0 port (place-of (is_open_at at.0) s.world.ports port e).passes in
      let given : length came ≡ size_of_frames (delivered_frames port) = ap (λ (all-came : List Arrival). length all-came) is ∙ given-count s at port e stands.numbered stands.held in
      let room : length p.rx.held + length came < p.rx.ring.size = rw is (given-room pool s shut side at port p stands known of e found) in
      let k = received-moved at.0 side p of.sound once found passes came room in
      kept-by pool port.session shut shut own (option_map_or (own_received s back own) (open_port s.world.ports at.0) own) side (own_after_receive at.0 came side) (back_in p) came of
      (rw e refl)
      (rw e (ap (λ (i : ℕ). changed_at i (received_port (size_of_frames (delivered_frames port)) (length back)) own.ports) id-is
      ∙ (ap (λ (n : ℕ). changed_at at.0 (received_port n (length back)) own.ports) (sym given)
      ∙ (ap (λ (bs : List ℕ). changed_at at.0 (received_port (length came) (length bs)) own.ports) (sym names)
      ∙ (ap (changed_at at.0 (received_port (length came) (length (back_in p)))) of.of.ports
      ∙ sym (received-ports at.0 side p of.sound once found passes came room port.session shut))))))
      (rw names moved) new k

  kept-receives : (ask : Ask) (at : PortId) (back : List ℕ) (port : Port) → Receives ask at back → open_port s.world.ports at.0 ≡ Some port → Kept pool s shut side ask port.session (sync_step s back port).reply
  kept-receives ask at back port (by_sync at' back') e k =
      let c : IsRxCall side at.0 (Sync at back) = k.call in
      let parts = syncs-none (refusal_in Rx side c.port c.port.rx) _ c.port.id at (back_in c.port) back c.is in
      kept-received ask at back port c.port (given_at s at.0) e k.of refl c.found parts.0 parts.1 k.moved k.new
  kept-receives ask at back port (by_get at' back') e k =
      let c : IsRxCall side at.0 (Get at back) = k.call in
      let parts = gets-none (refusal_in Rx side c.port c.port.rx) _ c.port.id at (back_in c.port) back c.is in
      kept-received ask at back port c.port (given_at s at.0) e k.of refl c.found parts.0 parts.1 k.moved k.new

  -- a put, of which the other end takes some frames or none
  kept-put : (at : PortId) (offered : ℕ) (items : List Item) (port : Port) (reply : Reply) (came : List Arrival) → open_port s.world.ports at.0 ≡ Some port
      → (k : Before pool s shut side (PutKept at offered) port.session reply) → arrivals_of s (PutKept at offered) reply ≡ came → kept_items reply ≡ items → given_up (PutKept at offered) reply ≡ indices_of items → length came ≡ length items
      → (own_after_entry s (PutKept at offered) reply (own_of port.session s)).there ≡ (own_of port.session s).there
      → (own_after_entry s (PutKept at offered) reply (own_of port.session s)).ports ≡ (own_of port.session s).ports
      → IsSoundSideOf pool port.session shut (own_after_entry s (PutKept at offered) reply (own_of port.session s)) (own_after_put at.0 came side)
  kept-put at offered items port reply came e k is kept gone count there ports =
      let c : IsPutCall side at.0 reply = k.call in
      let parts = puts-none (refusal_in Tx side c.call.port c.call.ring) _ c.call.port.id at (offered_items side c.call.ring) c.offered _ c.call.is in
      let own = own_of port.session s in
      let new : (b : ℕ) → count_of b own.buffers + count_of b (buffers_of_arrivals came) ≤ 1 = (λ b. rw (← is) (k.new b)) in
      let once = once-on port.session came k.of new in
      let taken : items ≡ take (length came) (offered_items side c.call.ring) =
      sym kept ∙ (c.taken ∙ (ap (λ (xs : List Item). take (length xs) c.offered) kept ∙ (ap (λ (n : ℕ). take n c.offered) (sym count) ∙ ap (take (length came)) (sym parts.1)))) in
      let few : length came ≤ length (offered_slots c.call.ring) = less (length came) items (offered_items side c.call.ring) taken count (length-map (offered_slots c.call.ring) _) in
      let goes : given_up (PutKept at offered) reply ≡ indices_of (take (length came) (offered_items side c.call.ring)) = gone ∙ ap indices_of taken in
      kept-by pool port.session shut shut own (own_after_entry s (PutKept at offered) reply own) side (own_after_put at.0 came side) (indices_of (take (length came) (offered_items side c.call.ring))) came k.of
      there
      (ports ∙ (k.of.of.ports ∙ sym (put-ports at.0 side c.call.port c.call.ring k.of.sound once c.call.found c.call.has parts.0 came few port.session shut)))
      (λ b. rw (← goes, ← is) (k.moved b)) new (put-moved at.0 side c.call.port c.call.ring k.of.sound once c.call.found c.call.has parts.0 came few)
    where
      less : (n : ℕ) (xs ys : List Item) → xs ≡ take n ys → n ≡ length xs → length ys ≡ length (offered_slots (k.call).call.ring) → n ≤ length (offered_slots (k.call).call.ring)
      less n xs ys is-taken long all =
          let short = take-short n ys in
          let same = ap (λ (zs : List Item). length zs) is-taken in
          omega (arith, short, same, long, all)
        where
          take-short : (m : ℕ) (zs : List Item) → length (take m zs) ≤ length zs
          take-short zero zs = omega arith
          take-short (suc m) [] = omega arith
          take-short (suc m) (z ∷ zs) = let rest = take-short m zs in omega (arith, rest)

  kept-puts : (at : PortId) (offered : ℕ) (items : List Item) (port peer : Port) → open_port s.world.ports at.0 ≡ Some port → CanKeep s offered items port → peer_of s.world.ports port ≡ Some peer
      → Kept pool s shut side (PutKept at offered) port.session (put_step s items port peer).reply
  kept-puts at offered items port peer e can found k =
      rw came (kept-put at offered items port (put_step s items port peer).reply (lent_arrivals s.holdings.ports peer.id (length items)) e k came refl refl count (rw (e, found) refl) (rw (e, found) refl))
    where
      came : arrivals_of s (PutKept at offered) (put_step s items port peer).reply ≡ lent_arrivals s.holdings.ports peer.id (length items)
      came = rw (e, found) refl

      count : length (lent_arrivals s.holdings.ports peer.id (length items)) ≡ length items
      count = lent-count s offered items port peer can found stands.numbered stands.held

  -- what changes nothing for others
  kept-quiet : (ask : Ask) (by : ℕ) (reply : Reply) → IsQuiet s ask by reply → Kept pool s shut side ask by reply
  kept-quiet ask by reply (resets at sd fault port e can) k =
      kept-by pool port.session shut shut (own_of port.session s) (own_of port.session s) side (own_after_reset at.0 sd side) [] [] k.of refl
      (k.of.of.ports ∙ sym (reset-ports at.0 sd side port.session shut)) k.moved k.new (reset-moved at.0 sd side k.of.sound)
  kept-quiet ask by reply (finds_no_peer at offered port e few none) k = kept-put at offered [] port PeerGone [] e k refl refl refl refl refl refl
  kept-quiet ask by reply _ k = k.of

  -- an opening
  over-ids : (ports : List OwnPort) → Each (λ (q : OwnPort). q.id.0 < s.world.entry_count + 1) ports → Each (λ (n : ℕ). n < s.world.entry_count + 1) (map id_of ports)
  over-ids [] all = tt
  over-ids (q ∷ ports) all = (all.0, over-ids ports all.1)

  -- the ports of a side are older than the entry
  pub ids-older : (session : ℕ) → IsSoundSideOf pool session shut (own_of session s) side → Each (λ (n : ℕ). n < s.world.entry_count + 1) (map id_of side.ports)
  ids-older session of =
      let number = s.world.entry_count + 1 in
      let ids : Each (λ (p : Port). p.id < number) (own_of session s).ports =
      each-filter (λ (p : Port). p.id < number) (is_port_of session) (map port_alone s.world.ports)
      (each-map (λ (p : Port). p.id ≤ s.world.entry_count) (λ (p : Port). p.id < number) port_alone (λ p le. omega (arith, le)) s.world.ports
      (each-unmap (λ (n : ℕ). n ≤ s.world.entry_count) id_of_port s.world.ports (rise-below 0 (map id_of_port s.world.ports) s.world.entry_count stands.numbered.ports_rise))) in
      over-ids side.ports (each-unmap (λ (p : Port). p.id < number) (port_of_side session shut) side.ports (rw (← of.of.ports) ids))

  kept-open : (session : SessionId) (name : List ℕ) (tx rx extra : ℕ) → open_refusal s.world name tx rx extra ≡ None → Kept pool s shut side (Open session name tx rx extra) session.0 Opened
  kept-open session name tx rx extra refusal k =
      let own = own_of session.0 s in
      let came = arrivals_of s (Open session name tx rx extra) Opened in
      let enough = opened-count pool s name tx rx extra stands refusal in
      let none : shut ≡ None = k.call in
      let number = s.world.entry_count + 1 in
      let later : Each (λ (n : ℕ). n < number) (map id_of side.ports) = ids-older session.0 k.of in
      let sized = opened-sizes s.world name tx rx extra refusal in
      let moves = opened-counts number name tx rx extra came side k.of.sound later sized enough in
      record {
        of = record {
          there = k.of.of.there;
          pool_is = k.of.of.pool_is;
          ports = ap (λ (ps : List Port). ps ++ opened_port number session.0 name tx rx extra ∷ []) (k.of.of.ports ∙ ap (λ (o : Option ℕ). map (port_of_side session.0 o) side.ports) none)
              ∙ (sym (opened-ports number name tx rx extra came side k.of.sound later sized enough session.0) ∙ ap (λ (o : Option ℕ). map (port_of_side session.0 o) (own_after_open number name tx rx came side).ports) (sym none));
          buffers = λ b.
              let one = k.moved b in
              let two = moves b in
              let three = k.of.of.buffers b in
              omega (arith, one, two, three);
        };
        sound = opened-sound number name tx rx extra came side k.of.sound later sized enough;
      }

  -- a port that is shut, and one that goes
  shut-ports : (id session : ℕ) (ports : List OwnPort) → changed_at id shut-port (map (port_of_side session None) ports) ≡ map (port_of_side session (Some id)) ports
  shut-ports id session [] = refl
  shut-ports id session (q ∷ ports) = ap₂ (λ (x : Port) (xs : List Port). x ∷ xs) (by (q.id.0 == id) refl) (shut-ports id session ports)
    where
      by : (b : Bool) → (q.id.0 == id) ≡ b → changed_if (q.id.0 == id) shut-port (port_of_side session None q) ≡ port_of_side session (Some id) q
      by true is = rw is refl
      by false is = rw is refl

  kept-shut : (at : PortId) (port : Port) → Kept pool s shut side (Shut at) port.session Made
  kept-shut at port k =
      let none : shut ≡ None = k.call in
      let own = own_of port.session s in
      record {
        of = record {
          there = k.of.of.there;
          pool_is = k.of.of.pool_is;
          ports = ap (changed_at at.0 shut-port) (k.of.of.ports ∙ ap (λ (o : Option ℕ). map (port_of_side port.session o) side.ports) none) ∙ shut-ports at.0 port.session side.ports;
          buffers = k.of.of.buffers;
        };
        sound = k.of.sound;
      }

  shut-some : (o : Option ℕ) (id : ℕ) → is_shut o id ≡ true → o ≡ Some id
  shut-some None id is = absurd cc
  shut-some (Some at) id is = ap (λ (n : ℕ). Some n) (sym (eqb-true id at is))

  kept-finish : (at : PortId) (bufs : List ℕ) (chain : Chain) (port : Port) (reply : Reply) → shutting_port s.world.ports at.0 ≡ Some port → Kept pool s shut side (Finish at bufs chain) port.session reply
  kept-finish at bufs chain port reply e k =
      let c : IsFinishCall side at.0 (Finish at bufs chain) = k.call in
      let own = own_of port.session s in
      let names : buffers_in c.port ≡ bufs = finishes-with c.port.id at (buffers_in c.port) bufs _ chain c.is in
      let here = ap (find (is_shutting_at at.0)) (sym k.of.of.ports) ∙ shutting-own at.0 s port known e in
      let seen : port_alone port ≡ port_of_side port.session shut c.port = seen-as (is_shutting_at at.0) at.0 port.session shut side.ports c.port (port_alone port) (shutting-id at.0) k.of.sound.apart c.found here in
      let shutting = (and_parts (port.id == at.0) port.shutting (place-of (is_shutting_at at.0) s.world.ports port e).passes).1 in
      let id-is : c.port.id.0 ≡ at.0 = eqb-true c.port.id.0 at.0 (place-of (λ (q : OwnPort). q.id.0 == at.0) side.ports c.port c.found).passes in
      let is : shut ≡ Some at.0 = shut-some shut at.0 (ap (is_shut shut) (sym id-is) ∙ (sym (ap (λ (q : Port). q.shutting) seen) ∙ shutting)) in
      kept-by pool port.session shut None own (own_after_entry s (Finish at bufs chain) reply own) side (own_after_finish at.0 bufs side) (buffers_in c.port) [] k.of refl
      (ap (ports_without at.0) (k.of.of.ports ∙ ap (λ (o : Option ℕ). map (port_of_side port.session o) side.ports) is) ∙ sym (finish-ports at.0 port.session side.ports))
      (rw names k.moved) k.new
      (rw (← names) (finish-moved at.0 side c.port k.of.sound c.found))
    where
      finishes-with : (id to : PortId) (xs ys : List ℕ) (one other : Chain) → Finish id xs one ≡ Finish to ys other → xs ≡ ys
      finishes-with id to xs ys one other same = cc

  kept-kinds : EachKind s (λ ask made. Kept pool s shut side ask made.session made.reply)
  kept-kinds = record {
    enters = λ user fits k. absurd k.call;
    quiet = λ ask by reply quiet k. kept-quiet ask by reply quiet k;
    opens = λ session name tx rx extra can refusal k. kept-open session name tx rx extra refusal k;
    sends = λ from frames port e can settled k. kept-send from frames port (send_step s frames port).reply e k;
    grants = λ origin to offer first same k. same-own pool offer.session shut (own_of offer.session s) _ side (rw first refl) (rw first refl) (rw first refl) k.of;
    completes = λ lease lot e k. same-own pool lot.session shut (own_of lot.session s) _ side refl refl refl k.of;
    receives = λ ask at back port receives e can k. kept-receives ask at back port receives e k;
    puts = λ at offered items port peer e can found k. kept-puts at offered items port peer e can found k;
    watches = λ at target sides port found e can there none k. k.of;
    shuts = λ at port e settled k. kept-shut at port k;
    finishes = λ at bufs chain port fits e can out k. kept-finish at bufs chain port (finish_step s bufs port).reply e k;
    leaves = λ session can k. absurd k.call;
  }

abbrev KeptAt : ℕ → Standing → Option ℕ → OwnState → Entry → Standing → Type 0
KeptAt pool s shut side e t = Kept pool s shut side e.ask e.session.0 e.reply

once-by : (n : ℕ) (is : Bool) → n ≤ cond is 1 0 → n ≤ 1
once-by n true le = le
once-by n false le = omega (arith, le)

pub side-kept : SideIsKept
side-kept pool past e shut side legal follows of call =
    let s = standing_of pool past in
    let own = own-entries pool past e legal follows in
    let before : Before pool s shut side e.ask e.session.0 e.reply = record {
      of = of;
      call = call;
      moved = λ b. ap (λ (o : Own). count_of b o.buffers + count_of b (given_up e.ask e.reply)) (sym own) ∙ buffers-moved pool past e b legal follows;
      new = λ b. once-by _ (is_buffer_index pool b) (arrivals-apart pool past e b legal follows);
    } in
    let made = follows-by s (KeptAt pool s shut side) e follows (kept-kinds pool s shut side (history-stands pool past legal) (sound-of pool past legal)) before in
    let count = count-world_of pool past in
    let numbered : IsSoundSideOf pool e.session.0 (shut_after e.ask shut) (own_after_entry s e.ask e.reply (own_of e.session.0 s)) (own_after (length past + 1) e (arrivals_of s e.ask e.reply) side) =
    subst (λ (n : ℕ). IsSoundSideOf pool e.session.0 (shut_after e.ask shut) (own_after_entry s e.ask e.reply (own_of e.session.0 s)) (own_by (n + 1) e.ask e.reply (arrivals_of s e.ask e.reply) side)) count made in
    rw own numbered

-- a side without ports
blank-cells : (n b : ℕ) → get_or (replicate n (let none : List ℕ = [] in none)) b [] ≡ []
blank-cells zero b = refl
blank-cells (suc n) zero = refl
blank-cells (suc n) (suc b) = blank-cells n b

cell-count : (n : ℕ) → length (replicate n (let none : List ℕ = [] in none)) ≡ n
cell-count zero = refl
cell-count (suc n) = ap (λ (k : ℕ). suc k) (cell-count n)

empty-sound : (pool : ℕ) → IsSound (empty_own pool)
unfolding IsDistinct
empty-sound pool = record { each = tt; apart = tt; cells = cell-count (pool + 2); blank = λ b none. blank-cells (pool + 2) b }

pub side-begins : SideBegins
side-begins pool past e user legal follows is =
    let s = standing_of pool past in
    let own : own_of e.session.0 (standing_of pool (past ++ e ∷ [])) ≡ own_after_entry s (Enter user) e.reply (own_of e.session.0 s) =
    own-entries pool past e legal follows ∙ ap (λ (ask : Ask). own_after_entry s ask e.reply (own_of e.session.0 s)) is in
    rw own (record { of = record { there = refl; pool_is = refl; ports = refl; buffers = λ b. refl }; sound = empty-sound pool })
