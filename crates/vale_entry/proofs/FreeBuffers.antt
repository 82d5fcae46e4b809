-- The free buffers rise strictly, so that taking from the front takes the smallest; they are as
-- many as the ports leave of the pool.
use Rattle.std.proofs.Common.{ℕ, ◌+◌, ◌-◌, ◌≤◌, ◌≡◌, true, ◌==◌, List, [], ◌∷◌, ◌++◌, length, map, drop, sum_by, Some, None, refl, ap, subst, arith, length-drop, length-append}
use Rattle.std.specs.List.{range_with_len}
use Rattle.std.proofs.lemmas.List.Sums.{sum_by_push}
use Rattle.std.proofs.lemmas.Bool.{and_parts, eqb-true}
use Rattle.std.proofs.lemmas.List.FromFn.{length-range_with_len}
use Rattle.vale_entry.specs.declared.entry.Entry.{Entry}
use Rattle.vale_entry.specs.World.{Port, Lot, Offer, buffers_of, due_of}
use Rattle.vale_entry.specs.Opening.{open_refusal, opened_port}
use Rattle.vale_entry.specs.Grant.{granted_frames, port_after_grant}
use Rattle.vale_entry.specs.Delivery.{port_after_done, port_after_sync}
use Rattle.vale_entry.specs.Closing.{shut, shutting_port}
use Rattle.vale_entry.specs.Holdings.{buffers_of_port, buffers_at_port, is_buffer_index, holds_all}
use Rattle.vale_entry.specs.Legal.{Standing, Outcome, after, open_step_by, grant_step, sync_step, shut_step, can_finish, finish_step, done_step, put_step}
use Rattle.vale_entry.specs.Laws.{Rise, id_of_held}
use Rattle.vale_entry.specs.Pipe.{frames_of_items, port_after_put}
use Rattle.vale_entry.specs.declared.entry.Item.{Item}
use Rattle.vale_entry.proofs.Follows.{EachKind, after-by}
use Rattle.vale_entry.proofs.ListLaws.{each-at, sum-map_same}
use Rattle.vale_entry.proofs.Each.{sum-changed_at}
use Rattle.vale_entry.proofs.Rising.{rise-drop, rise-range}
use Rattle.vale_entry.proofs.Removals.{sum-remove}
use Rattle.vale_entry.proofs.Freeing.{count-all_with_free, length-all_with_free, rise-all_with_free, held-bounds}
use Rattle.vale_entry.proofs.Agreeing.{agree-ids, agree-at}
use Rattle.vale_entry.proofs.Places.{buffers_of_port-place, shutting-place}
use Rattle.vale_entry.proofs.Numbered.{Numbered}
use Rattle.vale_entry.proofs.Roomy.{HasRoom, Roomy, opened-room}
use Rattle.vale_entry.proofs.Holding.{AreFree, times_held, Held, HasFree, once-by}
use Rattle.vale_entry.proofs.Held.{held-length, held_finished}

abbrev HasFreeNext : Outcome → Type 0
HasFreeNext made = HasFree made.next

free_open :
    (s : Standing) (session : ℕ) (name : List ℕ) (tx rx extra : ℕ)
    → open_refusal s.world name tx rx extra ≡ None → Roomy s → HasFree s
    → HasFreeNext (open_step_by None s session name tx rx extra)
free_open s session name tx rx extra e roomy f =
    let w = s.world in
    let port = opened_port (w.entry_count + 1) session name tx rx extra in
    let room : tx + rx + extra ≤ w.pool - sum_by buffers_of w.ports =
    (opened-room w name tx rx extra e).0 in
    let before : sum_by buffers_of w.ports ≤ w.pool = roomy.within in
    let sum :
    sum_by buffers_of (w.ports ++ port ∷ []) ≡ sum_by buffers_of w.ports + (tx + rx + extra) =
    sum_by_push buffers_of w.ports port in
    let left : length (drop (tx + rx + extra) s.holdings.free)
    ≡ length s.holdings.free - (tx + rx + extra) =
    length-drop (tx + rx + extra) s.holdings.free in
    let count : length s.holdings.free + sum_by buffers_of w.ports ≡ w.pool = f.count in
    record {
      rise = rise-drop 1 (tx + rx + extra) s.holdings.free (w.pool + 1) f.rise;
      count = omega arith;
    }

free_grant : (s : Standing) (offer : Offer) → HasFree s → HasFreeNext (grant_step s offer)
free_grant s offer f =
    let change =
    port_after_grant (s.world.entry_count + 1) offer.session (granted_frames s.world offer) in
    record {
      rise = f.rise;
      count = rw (sum-changed_at buffers_of offer.to change (λ port. refl) s.world.ports) f.count;
    }

free_done :
    (s : Standing) (number : ℕ) (lot : Lot) → HasFree s → HasFreeNext (done_step s number lot)
free_done s number lot f = record {
  rise = f.rise;
  count =
      rw (sum-map_same buffers_of buffers_of (port_after_done number) (λ port. refl) s.world.ports)
      f.count;
}

free_sync :
    (s : Standing) (back : List ℕ) (port : Port) → HasFree s → HasFreeNext (sync_step s back port)
free_sync s back port f = record {
  rise = f.rise;
  count =
      rw
      (sum-changed_at buffers_of port.id (port_after_sync (length back)) (λ p. refl) s.world.ports)
      f.count;
}

free_put :
    (s : Standing) (items : List Item) (port peer : Port) → HasFree s
    → HasFreeNext (put_step s items port peer)
free_put s items port peer f = record {
  rise = f.rise;
  count =
      rw
      (sum-changed_at buffers_of peer.id
      (port_after_put (s.world.entry_count + 1) port.session (frames_of_items items)) (λ p. refl)
      s.world.ports) f.count;
}

free_shut : (s : Standing) (port : Port) → HasFree s → HasFreeNext (shut_step s port)
free_shut s port f = record {
  rise = f.rise;
  count = rw (sum-changed_at buffers_of port.id shut (λ p. refl) s.world.ports) f.count;
}

-- the buffers that come back are held once, so each finds its place, and they are all the port's
free_finish :
    (s : Standing) (bufs : List ℕ) (id : ℕ) (port : Port)
    → shutting_port s.world.ports id ≡ Some port → can_finish s bufs port ≡ true
    → Numbered s → Roomy s → Held s → HasFree s
    → HasFreeNext (finish_step s bufs port)
free_finish s bufs id port e can n roomy h f =
    let w = s.world in
    let x = s.holdings in
    let p = shutting-place w.ports w.entry_count id port n.ports_rise e in
    let a = agree-at w.ports x.ports p.place port h.ports_agree p.here in
    let helds_rise : Rise 0 (map id_of_held x.ports) w.entry_count =
    rw (agree-ids w.ports x.ports h.ports_agree) n.ports_rise in
    let next = held_finished s bufs id port e can n h in
    let back = buffers_of_port port.id x.ports ++ bufs in
    let y = (finish_step s bufs port).next.holdings in
    let own : buffers_of_port port.id x.ports ≡ buffers_at_port a.held =
    subst (λ (k : ℕ). buffers_of_port k x.ports ≡ buffers_at_port a.held) a.agrees.id
    (buffers_of_port-place x.ports w.entry_count p.place a.held helds_rise a.here) in
    let own_length = ap (λ (bs : List ℕ). length bs) own in
    let given : length bufs ≡ due_of port =
    eqb-true (length bufs) (due_of port)
    (and_parts (length bufs == due_of port) (holds_all x port.session bufs) can).0 in
    let sizes =
    held-length port a.held (each-at HasRoom w.ports p.place port roomy.roomy p.here) a.agrees in
    let joined = length-append (buffers_of_port port.id x.ports) bufs in
    let freed = length-all_with_free back x.free in
    let ports_sum = sum-remove buffers_of w.ports p.place port p.here in
    let ports_same = ap (sum_by buffers_of) p.goes in
    let count : length x.free + sum_by buffers_of w.ports ≡ w.pool = f.count in
    record {
      rise = rise-all_with_free 1 back x.free (w.pool + 1)
          (λ b some.
          held-bounds w.pool b (times_held b y) (next.parted b)
          (let all = count-all_with_free b back x.free in omega arith))
          (λ b.
          let all = count-all_with_free b back x.free in
          let once = once-by (times_held b y) (is_buffer_index w.pool b) (next.parted b) in
          omega arith) f.rise;
      count = omega arith;
    }

free_kinds :
    (s : Standing) → Numbered s → Roomy s → Held s → HasFree s
    → EachKind s (λ ask made. HasFreeNext made)
free_kinds s n roomy h f = record {
  enters = λ user fits. f;
  quiet = λ ask session reply quiet. f;
  opens =
      λ session name tx rx extra can refusal. free_open s session.0 name tx rx extra refusal roomy
      f;
  sends = λ from frames port e can settled. f;
  grants = λ origin to offer first same. free_grant s offer f;
  completes = λ lease lot e. free_done s lease.0 lot f;
  receives = λ ask at back port receives e can. free_sync s back port f;
  puts = λ at offered items port peer e can found. free_put s items port peer f;
  watches = λ at target sides port found e can there none. f;
  shuts = λ at port e settled. free_shut s port f;
  finishes = λ at bufs chain port fits e can out. free_finish s bufs at.0 port e can n roomy h f;
  leaves = λ session can. f;
}

pub free_entry :
    (s : Standing) (e : Entry) → Numbered s → Roomy s → Held s → HasFree s → HasFree (after s e)
free_entry s e n roomy h f = after-by s HasFree e f (free_kinds s n roomy h f)

pub free_fresh : (pool : ℕ) → AreFree pool [] (range_with_len 2 pool)
free_fresh pool =
    let all = length-range_with_len 2 pool in record { rise = rise-range 1 pool; count = omega arith }
