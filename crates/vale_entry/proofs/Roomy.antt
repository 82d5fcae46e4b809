-- After every legal history no lot is empty, each port has a slot to spare, and the ports have no
-- more buffers than the pool.
use Rattle.std.proofs.Common.{ℕ, ◌+◌, ◌-◌, ◌≤◌, ◌≡◌, Bool, true, false, cond, not, ◌&&◌, nat_lt, nat_le, ◌==◌, List, [], ◌∷◌, ◌++◌, map, length, drop, sum_by, Option, Some, None, refl, ap, arith, min, ◌∙◌}
use Rattle.std.specs.List.{AllByRecursion as Each, list_all, prefix_len}
use Rattle.std.proofs.lemmas.List.Sums.{sum_by-cons, sum_by-append, sum_by_push}
use Rattle.std.proofs.lemmas.Bool.{and_parts, ltb-false, leb-true}
use Rattle.nm_types.specs.Limits.{most_extra, most_ring}
use Rattle.nm_types.specs.Frames.{Frame, slots_of, size_of_frames}
use Rattle.nm_types.specs.declared.fault.OpenFault.{OpenFault}
use Rattle.nm_types.specs.declared.fault.OpenFault.TheVariants.{BadSize, NoBuffers}
use Rattle.vale_entry.specs.declared.entry.Entry.{Entry}
use Rattle.vale_entry.specs.World.{World, Port, Lot, Offer, open_port, changed_at, size_of_line, space_of, buffers_of, free_count}
use Rattle.nm_types.specs.Openings.{open_refusal as names_refusal}
use Rattle.vale_entry.specs.Opening.{is_ring_size, are_sizes, names_of, refusal_or_room, open_refusal, opened_port}
use Rattle.vale_entry.specs.Grant.{longest_fitting, given_at, with_lot, port_after_grant}
use Rattle.vale_entry.specs.Delivery.{is_done_lot, ready_lots, frames_of_lot, delivered_frames, done_if, lot_after_done, port_after_done, port_after_sync}
use Rattle.vale_entry.specs.Closing.{shut}
use Rattle.vale_entry.specs.Legal.{Standing, Outcome, after, open_step_by, grant_step, sync_step, shut_step, finish_step, done_step, put_step}
use Rattle.vale_entry.specs.Laws.{Rise, id_of_port, IsFilled}
use Rattle.nm_types.specs.Sendable.{fits_buffer}
use Rattle.nm_types.proofs.PartLemmas.{slots-one}
use Rattle.vale_entry.specs.Pipe.{peer_of, taken_count, frames_of_items, is_pipe_item, port_after_put}
use Rattle.vale_entry.specs.declared.entry.Item.{Item}
use Rattle.vale_entry.proofs.Follows.{EachKind, after-by, CanKeep}
use Rattle.vale_entry.proofs.ListLaws.{each-at, each-set, sum-map_same, sum-flat_map, front-rest}
use Rattle.vale_entry.proofs.Each.{each-changed_at, changed_at-same, sum-changed_at, each-append, each-map, each-drop}
use Rattle.vale_entry.proofs.Removals.{each-filter, sum-filter_less}
use Rattle.vale_entry.proofs.Places.{open-place, peer-place}
use Rattle.vale_entry.proofs.Numbered.{Numbered}

-- no lot is empty, and beside what is out and what is queued one slot is left
pub record HasRoom (port : Port) : Type 0 where
  pub lots_filled : Each IsFilled port.line
  pub fits : port.out + size_of_line port.line + 1 ≤ port.rx

-- each port has room, and all ports together have no more buffers than the pool
pub record AreRoomy (pool : ℕ) (ports : List Port) : Type 0 where
  pub roomy : Each HasRoom ports
  pub within : sum_by buffers_of ports ≤ pool

-- a port that is not refused
sizes_by : (b : Bool) (rest : Option OpenFault) → cond (not b) (Some BadSize) rest ≡ None → b ≡ true
sizes_by true rest e = refl
sizes_by false rest e = absurd cc

room_by : (b : Bool) (fault : OpenFault) → cond b (Some fault) None ≡ None → b ≡ false
room_by true fault e = absurd cc
room_by false fault e = refl

room-none :
    (refusal : Option OpenFault) (want have : ℕ) → refusal_or_room refusal want have ≡ None
    → (refusal ≡ None) × (want ≤ have)
room-none (Some fault) want have e = absurd cc
room-none None want have e =
    (refl, ltb-false have want (room_by (nat_lt have want) (NoBuffers want have) e))

pub opened-room :
    (w : World) (name : List ℕ) (tx rx extra : ℕ) → open_refusal w name tx rx extra ≡ None
    → (tx + rx + extra ≤ free_count w) × (2 ≤ rx)
opened-room w name tx rx extra e =
    let parts =
    room-none (names_refusal (names_of w.ports) name tx rx extra) (tx + rx + extra) (free_count w) e in
    let sizes = sizes_by (are_sizes name tx rx extra) _ parts.0 in
    let rings = and_parts _ (is_ring_size rx && nat_le extra most_extra) sizes in
    let ring = and_parts (is_ring_size rx) (nat_le extra most_extra) rings.1 in
    let least = and_parts (nat_le 2 rx) (nat_le rx most_ring) ring.0 in
    (parts.1, leb-true 2 rx least.0)

-- the ready lots and those behind them
pub delivered-size : (port : Port)
    → size_of_frames (delivered_frames port) + size_of_line
    (drop (length (ready_lots port)) port.line)
    ≡ size_of_line port.line
delivered-size port =
    let lots = ready_lots port in
    let left = drop (length lots) port.line in
    let all : size_of_line (lots ++ left) ≡ size_of_line port.line =
    ap size_of_line (front-rest (prefix_len is_done_lot port.line) port.line) in
    let sum = sum_by-append (λ (lot : Lot). size_of_frames lot.frames) lots left in
    let frames = sum-flat_map slots_of frames_of_lot lots in
    omega arith

-- what the step leaves
abbrev pub Roomy : Standing → Type 0
Roomy s = AreRoomy s.world.pool s.world.ports

abbrev RoomyNext : Outcome → Type 0
RoomyNext made = Roomy made.next

roomy_open :
    (s : Standing) (session : ℕ) (name : List ℕ) (tx rx extra : ℕ)
    → open_refusal s.world name tx rx extra ≡ None → Roomy s
    → RoomyNext (open_step_by None s session name tx rx extra)
roomy_open s session name tx rx extra e n =
    let w = s.world in
    let port = opened_port (w.entry_count + 1) session name tx rx extra in
    let facts = opened-room w name tx rx extra e in
    let room : tx + rx + extra ≤ w.pool - sum_by buffers_of w.ports = facts.0 in
    let least : 2 ≤ rx = facts.1 in
    let before : sum_by buffers_of w.ports ≤ w.pool = n.within in
    let sum :
    sum_by buffers_of (w.ports ++ port ∷ []) ≡ sum_by buffers_of w.ports + (tx + rx + extra) =
    sum_by_push buffers_of w.ports port in
    let fresh : HasRoom port = record { lots_filled = tt; fits = omega arith } in
    record {
      roomy = each-append HasRoom w.ports (port ∷ []) n.roomy (fresh, tt);
      within = omega arith;
    }

-- a grant gives no more than there is space for
fitting_by :
    (frame : Frame) (room : ℕ) (more : List Frame) (b : Bool) → nat_le (slots_of frame) room ≡ b
    → size_of_frames more ≤ room - slots_of frame
    → size_of_frames (cond b (frame ∷ more) []) ≤ room
fitting_by frame room more false t rest = omega arith
fitting_by frame room more true t rest =
    let fits : slots_of frame ≤ room = leb-true (slots_of frame) room t in
    let sum : size_of_frames (frame ∷ more) ≡ slots_of frame + size_of_frames more =
    sum_by-cons slots_of frame more in
    omega arith

pub longest_fitting-size :
    (room : ℕ) (frames : List Frame) → size_of_frames (longest_fitting room frames) ≤ room
longest_fitting-size room [] = omega arith
longest_fitting-size room (frame ∷ frames) =
    fitting_by frame room (longest_fitting (room - slots_of frame) frames)
    (nat_le (slots_of frame) room) refl (longest_fitting-size (room - slots_of frame) frames)

pub with_lot-size : (number session : ℕ) (done : Bool) (frames : List Frame) (line : List Lot)
    → size_of_line (with_lot number session done frames line)
    ≡ size_of_line line + size_of_frames frames
with_lot-size number session done [] line = omega arith
with_lot-size number session done (frame ∷ frames) line =
    sum_by_push (λ (lot : Lot). size_of_frames lot.frames) line _

with_lot-filled :
    (number session : ℕ) (done : Bool) (frames : List Frame) (line : List Lot) → Each IsFilled line
    → Each IsFilled (with_lot number session done frames line)
with_lot-filled number session done [] line all = all
with_lot-filled number session done (frame ∷ frames) line all =
    each-append IsFilled line _ all (omega arith, tt)

-- a port with one lot more that it has space for
lot-room :
    (number session : ℕ) (done : Bool) (frames : List Frame) (port : Port)
    → size_of_frames frames ≤ space_of port → HasRoom port
    → HasRoom (record port { line = with_lot number session done frames port.line })
lot-room number session done frames port few h =
    let sum = with_lot-size number session done frames port.line in
    let fits : port.out + size_of_line port.line + 1 ≤ port.rx = h.fits in
    record {
      lots_filled = with_lot-filled number session done frames port.line h.lots_filled;
      fits = omega arith;
    }

granted-room : (number session : ℕ) (frames : List Frame) (port : Port) → HasRoom port
    → HasRoom (port_after_grant number session (longest_fitting (space_of port) frames) port)
granted-room number session frames port h =
    lot-room number session false (longest_fitting (space_of port) frames) port
    (longest_fitting-size (space_of port) frames) h

-- items of a pipe take one slot each
pub items-size :
    (items : List Item) → list_all is_pipe_item items ≡ true
    → size_of_frames (frames_of_items items) ≡ length items
items-size [] sound = refl
items-size (item ∷ items) sound =
    let parts = and_parts (is_pipe_item item) (list_all is_pipe_item items) sound in
    let fits = (and_parts (fits_buffer item.bytes) (not item.bytes.no_learn) parts.0).0 in
    let one = slots-one (length item.bytes.bytes) (leb-true (length item.bytes.bytes) 2048 fits) in
    let rest = items-size items parts.1 in
    let sum = sum_by-cons slots_of item.bytes (frames_of_items items) in
    omega (arith, rest, sum, one)

-- no more of them are taken than there is space for
pub taken-few :
    (s : Standing) (offered : ℕ) (items : List Item) (port peer : Port)
    → CanKeep s offered items port → peer_of s.world.ports port ≡ Some peer
    → length items ≤ space_of peer
taken-few s offered items port peer can found =
    let taken : length items ≡ min offered (space_of peer) =
    can.taken ∙ ap (λ (o : Option Port). taken_count o offered) found in
    omega (arith, taken)

roomy-granted :
    (pool number session id : ℕ) (frames : List Frame) (high : ℕ) (ports : List Port)
    (at : Option Port)
    → open_port ports id ≡ at
    → Rise 0 (map id_of_port ports) high
    → AreRoomy pool ports
    → AreRoomy pool (changed_at id (port_after_grant number session (given_at at frames)) ports)
roomy-granted pool number session id frames high ports None e rise n =
    rw (changed_at-same id (port_after_grant number session []) (λ port. refl) ports) n
roomy-granted pool number session id frames high ports (Some port) e rise n =
    let p = open-place ports high id port rise e in
    let change = port_after_grant number session (longest_fitting (space_of port) frames) in
    let old : HasRoom port = each-at HasRoom ports p.place port n.roomy p.here in
    record {
      roomy =
          rw (p.changes change)
          (each-set HasRoom ports p.place (change port) n.roomy
          (granted-room number session frames port old));
      within = rw (sum-changed_at buffers_of id change (λ q. refl) ports) n.within;
    }

roomy_grant : (s : Standing) (offer : Offer) → Numbered s → Roomy s → RoomyNext (grant_step s offer)
roomy_grant s offer numbered n =
    let w = s.world in
    roomy-granted w.pool (w.entry_count + 1) offer.session offer.to offer.frames w.entry_count
    w.ports (open_port w.ports offer.to) refl numbered.ports_rise n

roomy_put :
    (s : Standing) (offered : ℕ) (items : List Item) (port peer : Port)
    → CanKeep s offered items port → peer_of s.world.ports port ≡ Some peer → Numbered s → Roomy s
    → RoomyNext (put_step s items port peer)
roomy_put s offered items port peer can found numbered n =
    let w = s.world in
    let p = peer-place w.ports w.entry_count port peer numbered.ports_rise found in
    let few = taken-few s offered items port peer can found in
    let size = items-size items can.sound in
    let change = port_after_put (w.entry_count + 1) port.session (frames_of_items items) in
    let old : HasRoom peer = each-at HasRoom w.ports p.place peer n.roomy p.here in
    record {
      roomy = rw (p.changes change) (each-set HasRoom w.ports p.place (change peer) n.roomy
          (lot-room (w.entry_count + 1) port.session true (frames_of_items items) peer
          (omega (arith, few, size)) old));
      within = rw (sum-changed_at buffers_of peer.id change (λ q. refl) w.ports) n.within;
    }

done_if-size :
    (b : Bool) (lot : Lot) → size_of_frames (done_if b lot).frames ≡ size_of_frames lot.frames
done_if-size true lot = refl
done_if-size false lot = refl

done_if-filled : (b : Bool) (lot : Lot) → IsFilled lot → IsFilled (done_if b lot)
done_if-filled true lot here = here
done_if-filled false lot here = here

pub size-after_done :
    (number : ℕ) (line : List Lot)
    → size_of_line (map (lot_after_done number) line) ≡ size_of_line line
size-after_done number line =
    sum-map_same (λ (lot : Lot). size_of_frames lot.frames)
    (λ (lot : Lot). size_of_frames lot.frames) (lot_after_done number)
    (λ lot. done_if-size (lot.number == number) lot) line

done-room : (number : ℕ) (port : Port) → HasRoom port → HasRoom (port_after_done number port)
done-room number port h = record {
  lots_filled =
      each-map IsFilled IsFilled (lot_after_done number)
      (λ lot here. done_if-filled (lot.number == number) lot here) port.line h.lots_filled;
  fits = rw (size-after_done number port.line) h.fits;
}

roomy_done : (s : Standing) (number : ℕ) (lot : Lot) → Roomy s → RoomyNext (done_step s number lot)
roomy_done s number lot n = record {
  roomy =
      each-map HasRoom HasRoom (port_after_done number) (done-room number) s.world.ports n.roomy;
  within =
      rw (sum-map_same buffers_of buffers_of (port_after_done number) (λ port. refl) s.world.ports)
      n.within;
}

synced-room : (returned : ℕ) (port : Port) → HasRoom port → HasRoom (port_after_sync returned port)
synced-room returned port h =
    let sizes = delivered-size port in
    let fits : port.out + size_of_line port.line + 1 ≤ port.rx = h.fits in
    record {
      lots_filled = each-drop IsFilled (length (ready_lots port)) port.line h.lots_filled;
      fits = omega arith;
    }

roomy_sync :
    (s : Standing) (back : List ℕ) (port : Port) → Roomy s → RoomyNext (sync_step s back port)
roomy_sync s back port n =
    let change = port_after_sync (length back) in
    record {
      roomy =
          each-changed_at HasRoom HasRoom port.id change (λ p here. here)
          (synced-room (length back)) s.world.ports n.roomy;
      within = rw (sum-changed_at buffers_of port.id change (λ p. refl) s.world.ports) n.within;
    }

roomy_shut : (s : Standing) (port : Port) → Roomy s → RoomyNext (shut_step s port)
roomy_shut s port n = record {
  roomy =
      each-changed_at HasRoom HasRoom port.id shut (λ p here. here)
      (λ p here. record { lots_filled = here.lots_filled; fits = here.fits }) s.world.ports n.roomy;
  within = rw (sum-changed_at buffers_of port.id shut (λ p. refl) s.world.ports) n.within;
}

roomy_finish :
    (s : Standing) (bufs : List ℕ) (port : Port) → Roomy s → RoomyNext (finish_step s bufs port)
roomy_finish s bufs port n =
    let stays : Port → Bool = λ (p : Port). not (p.id == port.id) in
    let less = sum-filter_less buffers_of stays s.world.ports in
    let before : sum_by buffers_of s.world.ports ≤ s.world.pool = n.within in
    record { roomy = each-filter HasRoom stays s.world.ports n.roomy; within = omega arith }

roomy_kinds : (s : Standing) → Numbered s → Roomy s → EachKind s (λ ask made. RoomyNext made)
roomy_kinds s numbered n = record {
  enters = λ user fits. n;
  quiet = λ ask session reply quiet. n;
  opens = λ session name tx rx extra can refusal. roomy_open s session.0 name tx rx extra refusal n;
  sends = λ from frames port e can settled. n;
  grants = λ origin to offer first same. roomy_grant s offer numbered n;
  completes = λ lease lot e. roomy_done s lease.0 lot n;
  receives = λ ask at back port receives e can. roomy_sync s back port n;
  puts =
      λ at offered items port peer e can found. roomy_put s offered items port peer can found
      numbered n;
  watches = λ at target sides port found e can there none. n;
  shuts = λ at port e settled. roomy_shut s port n;
  finishes = λ at bufs chain port fits e can out. roomy_finish s bufs port n;
  leaves = λ session can. n;
}

pub roomy_entry : (s : Standing) (e : Entry) → Numbered s → Roomy s → Roomy (after s e)
roomy_entry s e numbered n = after-by s Roomy e n (roomy_kinds s numbered n)
