-- What the step of an ask wants of a record is little: room for itself and twice its offers, which
-- are no more than the ports, and the bytes of one batch.
use Rattle.std.proofs.Common.{ℕ, zero, suc, ◌+◌, ◌*◌, ◌≤◌, ◌≡◌, Bool, true, false, not, cond, ◌&&◌, nat_le, List, [], ◌∷◌, map, take, length, Option, Some, None, option_map, refl, arith}
use Rattle.std.specs.List.{list_all, cons_option}
use Rattle.std.proofs.lemmas.Bool.{and_parts, leb-true}
use Rattle.std.proofs.lemmas.List.{length-map}
use Rattle.std.proofs.lemmas.List.Sums.{sum_by-cons}
use Rattle.nm_types.specs.Frames.{Frame, bytes_of_frames, size_of_frames}
use Rattle.nm_types.specs.Limits.{buffer_bytes, most_batch}
use Rattle.nm_types.specs.Names.{is_switch_port_name, is_pipe_name}
use Rattle.nm_types.specs.Sendable.{is_sendable, is_frame, fits_buffer}
use Rattle.nm_types.specs.declared.id.PortId.{PortId}
use Rattle.nm_types.specs.declared.id.SessionId.{SessionId}
use Rattle.nm_types.specs.declared.id.Sides.{Sides}
use Rattle.nm_types.specs.declared.fault.OpenFault.{OpenFault}
use Rattle.vale_entry.specs.declared.entry.Ask.{Ask}
use Rattle.vale_entry.specs.declared.entry.Ask.TheVariants.{Enter, Open, Send, Grant, Done, Sync, Reset, Shut, Finish, Leave, Put, PutKept, Get, Watch, Stat}
use Rattle.vale_entry.specs.declared.entry.Entry.{Entry}
use Rattle.vale_entry.specs.declared.entry.Item.{Item}
use Rattle.vale_entry.specs.World.{Port, Watch as Watcher, open_port, is_settled, transmit_monitor, receive_monitor}
use Rattle.vale_entry.specs.Opening.{open_refusal}
use Rattle.vale_entry.specs.Offers.{offers_of, offer_to, dest_of, dests_of, wanted_frames, monitored_frames}
use Rattle.vale_entry.specs.Grant.{first_offer}
use Rattle.vale_entry.specs.Delivery.{lease_at, delivered_frames}
use Rattle.vale_entry.specs.Closing.{shutting_port, can_leave}
use Rattle.vale_entry.specs.Monitors.{open_port_as, watch_of, can_watch}
use Rattle.vale_entry.specs.Pipe.{peer_of, taken_count, frames_of_items, indices_of, is_pipe_item}
use Rattle.vale_entry.specs.Holdings.{holds_all}
use Rattle.vale_entry.specs.Room.{bytes_of}
use Rattle.vale_entry.specs.Laws.{Rise, id_of_port}
use Rattle.vale_entry.specs.Legal.{Standing, Outcome, step, world_of, made_at, fits_u64, fits_chain, enter_step, can_open, open_step_by, can_send, send_step, named_of, is_offer_next, grant_step, done_step, can_sync, can_get, sync_step, can_reset, reset_step, can_shut, shut_step, can_go, finish_step, finish_step_at, leave_step, can_put, can_offer, put_step_by, put_step_at, watch_step_by, watch_step_of, stat_step}
use Rattle.vale_entry.proofs.Numbered.{world-numbered}
use Rattle.vale_entry.proofs.Worlds.{count-world_of}
use Rattle.vale_entry.proofs.FrameBytes.{frames-slots}

-- ports are no more than entries, and offers no more than ports

rise-few :
    (low : ℕ) (ns : List ℕ) (high : ℕ) → Rise low ns high → length ns + low ≤ high
rise-few low [] high rise = omega (arith, rise)
rise-few low (n ∷ ns) high rise =
    let rest = rise-few n ns high rise.1 in
    let here = rise.0 in
    omega (arith, rest, here)

pub ports-few : (pool : ℕ) (h : List Entry) → length (world_of pool h).ports ≤ length h
ports-few pool h =
    let w = world_of pool h in
    let rise = rise-few 0 (map id_of_port w.ports) w.entry_count (world-numbered pool h).ports_rise
    in
    let count = count-world_of pool h in
    let same = length-map w.ports id_of_port in
    omega (arith, rise, count, same)

offers-few :
    (origin session : ℕ) (wanted : Port → List Frame) (ports : List Port)
    → length (offers_of origin session wanted ports) ≤ length ports
offers-few origin session wanted [] = omega arith
offers-few origin session wanted (port ∷ ports) =
    by_frames (wanted port) (offers-few origin session wanted ports)
  where
    by_frames :
        (frames : List Frame) → length (offers_of origin session wanted ports) ≤ length ports
        → length
        (cons_option (offer_to origin session port.id frames)
        (offers_of origin session wanted ports))
        ≤ suc (length ports)
    by_frames [] rest = omega (arith, rest)
    by_frames (frame ∷ frames) rest = omega (arith, rest)

dests-few :
    (origin session : ℕ) (wanted : Port → List Frame) (ports : List Port)
    → length (dests_of (offers_of origin session wanted ports)) ≤ length ports
dests-few origin session wanted ports =
    let offers = offers-few origin session wanted ports in
    let same = length-map (offers_of origin session wanted ports) dest_of in
    omega (arith, offers, same)

sendable-bytes :
    (frames : List Frame) → is_sendable frames ≡ true → bytes_of_frames frames ≤ buffer_bytes * most_batch
sendable-bytes frames may =
    let parts =
    and_parts (nat_le (length frames) most_batch)
    (nat_le (size_of_frames frames) most_batch && list_all is_frame frames) may in
    let rest =
    and_parts (nat_le (size_of_frames frames) most_batch) (list_all is_frame frames) parts.1 in
    let size = leb-true (size_of_frames frames) most_batch rest.0 in
    let all = frames-slots frames in
    omega (arith, size, all)

-- and so have those of the items that a pipe's other end takes
items-few :
    (count : ℕ) (items : List Item) → list_all is_pipe_item items ≡ true
    → bytes_of_frames (frames_of_items (take count items)) ≤ buffer_bytes * length items
items-few zero items fit = omega arith
items-few (suc count) [] fit = omega arith
items-few (suc count) (item ∷ items) fit =
    let parts = and_parts (is_pipe_item item) (list_all is_pipe_item items) fit in
    let fits = and_parts (fits_buffer item.bytes) (not item.bytes.no_learn) parts.0 in
    let here = leb-true (length item.bytes.bytes) buffer_bytes fits.0 in
    let rest = items-few count items parts.1 in
    let cut =
    sum_by-cons (λ (f : Frame). length f.bytes) item.bytes (frames_of_items (take count items)) in
    omega (arith, here, rest, cut)

-- so a step wants little

pub record WantsLittle (ports : ℕ) (ask : Ask) (made : Outcome) : Type 0 where
  pub room : made.want ≤ 3 + 2 * ports
  pub bytes : bytes_of ask made.reply ≤ buffer_bytes * most_batch

abbrev pub Little : ℕ → Ask → Option Outcome → Type 0
Little ports ask None = Unit {0}
Little ports ask (Some made) = WantsLittle ports ask made

little-if :
    (ports : ℕ) (ask : Ask) (b : Bool) (made : Outcome) → (b ≡ true → WantsLittle ports ask made)
    → Little ports ask (cond b (Some made) None)
little-if ports ask true made little = little refl
little-if ports ask false made little = tt

little-at :
    {X : Type 0} (ports : ℕ) (ask : Ask) (test : X → Bool) (make : X → Outcome) (found : Option X)
    → ((x : X) → test x ≡ true → WantsLittle ports ask (make x))
    → Little ports ask (made_at test make found)
little-at ports ask test make None little = tt
little-at ports ask test make (Some x) little =
    little-if ports ask (test x) (make x) (little x)

little-of :
    {X : Type 0} (ports : ℕ) (ask : Ask) (make : X → Outcome) (found : Option X)
    → ((x : X) → WantsLittle ports ask (make x)) → Little ports ask (option_map make found)
little-of ports ask make None little = tt
little-of ports ask make (Some x) little = little x

open-little :
    (ports : ℕ) (s : Standing) (id : SessionId) (session : ℕ) (name : List ℕ) (tx rx extra : ℕ)
    (refusal : Option OpenFault)
    → WantsLittle ports (Open id name tx rx extra) (open_step_by refusal s session name tx rx extra)
open-little ports s id session name tx rx extra None =
    record { room = omega arith; bytes = omega arith }
open-little ports s id session name tx rx extra (Some fault) =
    record { room = omega arith; bytes = omega arith }

send-little :
    (s : Standing) (id : PortId) (frames : List Frame) (port : Port)
    → can_send s.world frames port ≡ true
    → WantsLittle (length s.world.ports) (Send id frames) (send_step s frames port)
send-little s id frames port can =
    let named =
    and_parts (is_switch_port_name port.name) (is_settled s.world port.session && is_sendable frames)
    can in
    let settled = and_parts (is_settled s.world port.session) (is_sendable frames) named.1 in
    let dests =
    dests-few (s.world.entry_count + 1) port.session
    (wanted_frames port (transmit_monitor s.world port.id) (named_of s.world port frames))
    s.world.ports in
    record { room = omega (arith, dests); bytes = sendable-bytes frames settled.1 }

sync-room :
    (s : Standing) (back : List ℕ) (port : Port)
    → (sync_step s back port).want ≤ 3 + 2 * length s.world.ports
sync-room s back port =
    let dests =
    dests-few (s.world.entry_count + 1) port.session
    (monitored_frames (receive_monitor s.world port.id) (delivered_frames port)) s.world.ports in
    omega (arith, dests)

put-room :
    (s : Standing) (items : List Item) (port : Port) (peer : Option Port)
    → (put_step_by s items port peer).want ≤ 3 + 2 * length s.world.ports
put-room s items port None = omega arith
put-room s items port (Some peer) =
    let dests =
    dests-few (s.world.entry_count + 1) port.session
    (monitored_frames (transmit_monitor s.world port.id) (frames_of_items items)) s.world.ports in
    omega (arith, dests)

put-bytes :
    (s : Standing) (id : PortId) (count : ℕ) (offered : List Item) (port : Port)
    (peer : Option Port)
    → list_all is_pipe_item offered ≡ true
    → bytes_of (Put id offered) (put_step_by s (take count offered) port peer).reply
    ≤ buffer_bytes * length offered
put-bytes s id count offered port None fit = omega arith
put-bytes s id count offered port (Some peer) fit = items-few count offered fit

put-little :
    (s : Standing) (id : PortId) (offered : List Item) (port : Port)
    → can_put s offered port ≡ true
    → WantsLittle (length s.world.ports) (Put id offered) (put_step_at s offered port)
put-little s id offered port can =
    let peer = peer_of s.world.ports port in
    let count = taken_count peer (length offered) in
    let outer = and_parts (can_offer s offered port) (nat_le (length offered) most_batch) can in
    let pipe = and_parts (is_pipe_name port.name)
    (is_settled s.world port.session
    && (list_all is_pipe_item offered && holds_all s.holdings port.session (indices_of offered)))
    outer.0 in
    let settled = and_parts (is_settled s.world port.session)
    (list_all is_pipe_item offered && holds_all s.holdings port.session (indices_of offered)) pipe.1
    in
    let fits =
    and_parts (list_all is_pipe_item offered) (holds_all s.holdings port.session (indices_of offered))
    settled.1 in
    let few = leb-true (length offered) most_batch outer.1 in
    let bytes = put-bytes s id count offered port peer fits.0 in
    record { room = put-room s (take count offered) port peer; bytes = omega (arith, few, bytes) }

watched-little :
    (ports : ℕ) (s : Standing) (id : PortId) (name : List ℕ) (sides : Sides) (monitor target : Port)
    (watch : Option Watcher)
    → WantsLittle ports (Watch id name sides) (watch_step_by s sides monitor target watch)
watched-little ports s id name sides monitor target None =
    record { room = omega arith; bytes = omega arith }
watched-little ports s id name sides monitor target (Some watch) =
    record { room = omega arith; bytes = omega arith }

watch-little :
    (ports : ℕ) (s : Standing) (id : PortId) (name : List ℕ) (sides : Sides) (monitor : Port)
    (found : Option Port)
    → WantsLittle ports (Watch id name sides) (watch_step_of s sides monitor found)
watch-little ports s id name sides monitor None =
    record { room = omega arith; bytes = omega arith }
watch-little ports s id name sides monitor (Some target) =
    watched-little ports s id name sides monitor target (watch_of s.world.watches target.id)

finish-little :
    (ports : ℕ) (s : Standing) (ask : Ask) (bufs : List ℕ) (fits : Bool) (found : Option Port)
    → ((port : Port) → WantsLittle ports ask (finish_step s bufs port))
    → Little ports ask (cond fits (finish_step_at s bufs found) None)
finish-little ports s ask bufs true found little =
    little-at ports ask (can_go s bufs) (finish_step s bufs) found (λ port can. little port)
finish-little ports s ask bufs false found little = tt

pub step-little : (s : Standing) (ask : Ask) → Little (length s.world.ports) ask (step s ask)
step-little s (Enter user) =
    little-if (length s.world.ports) (Enter user) (fits_u64 user) (enter_step s)
    (λ fits. record { room = omega arith; bytes = omega arith })
step-little s (Open session name tx rx extra) =
    little-if (length s.world.ports) (Open session name tx rx extra)
    (can_open s.world session.0 name tx rx extra)
    (open_step_by (open_refusal s.world name tx rx extra) s session.0 name tx rx extra)
    (λ can.
    open-little (length s.world.ports) s session session.0 name tx rx extra
    (open_refusal s.world name tx rx extra))
step-little s (Send port frames) =
    little-at (length s.world.ports) (Send port frames) (can_send s.world frames)
    (send_step s frames) (open_port s.world.ports port.0) (send-little s port frames)
step-little s (Grant origin to) =
    little-at (length s.world.ports) (Grant origin to) (is_offer_next to.0) (grant_step s)
    (first_offer s.world origin)
    (λ offer can. record { room = omega arith; bytes = omega arith })
step-little s (Done lease) =
    little-of (length s.world.ports) (Done lease) (done_step s lease.0)
    (lease_at s.world.ports lease.0) (λ lot. record { room = omega arith; bytes = omega arith })
step-little s (Sync port back) =
    little-at (length s.world.ports) (Sync port back) (can_sync s back) (sync_step s back)
    (open_port s.world.ports port.0)
    (λ p can. record { room = sync-room s back p; bytes = omega arith })
step-little s (Reset port side fault) =
    little-at (length s.world.ports) (Reset port side fault) (can_reset side fault) (reset_step s)
    (open_port s.world.ports port.0) (λ p can. record { room = omega arith; bytes = omega arith })
step-little s (Shut port) =
    little-at (length s.world.ports) (Shut port) (can_shut s.world) (shut_step s)
    (open_port s.world.ports port.0) (λ p can. record { room = omega arith; bytes = omega arith })
step-little s (Finish port bufs chain) =
    finish-little (length s.world.ports) s (Finish port bufs chain) bufs (fits_chain chain)
    (shutting_port s.world.ports port.0) (λ p. record { room = omega arith; bytes = omega arith })
step-little s (Leave session) =
    little-if (length s.world.ports) (Leave session) (can_leave s.world session.0)
    (leave_step s session.0) (λ can. record { room = omega arith; bytes = omega arith })
step-little s (Put port offered) =
    little-at (length s.world.ports) (Put port offered) (can_put s offered)
    (put_step_at s offered) (open_port s.world.ports port.0) (put-little s port offered)
step-little s (PutKept port offered) = tt
step-little s (Get port back) =
    little-at (length s.world.ports) (Get port back) (can_get s back) (sync_step s back)
    (open_port s.world.ports port.0)
    (λ p can. record { room = sync-room s back p; bytes = omega arith })
step-little s (Watch monitor target sides) =
    little-at (length s.world.ports) (Watch monitor target sides) (can_watch target)
    (λ port. watch_step_of s sides port (open_port_as s.world.ports target))
    (open_port s.world.ports monitor.0)
    (λ p can.
    watch-little (length s.world.ports) s monitor target sides p
    (open_port_as s.world.ports target))
step-little s (Stat port) =
    little-of (length s.world.ports) (Stat port) (stat_step s) (open_port s.world.ports port.0)
    (λ p. record { room = omega arith; bytes = omega arith })
