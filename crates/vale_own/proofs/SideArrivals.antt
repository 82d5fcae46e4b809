-- How many buffers an entry brings.
use Rattle.std.proofs.Common.{ℕ, ◌+◌, ◌<◌, ◌≡◌, List, [], ◌++◌, map, take, drop, length, Some, None, Option, refl, sym, ◌∙◌, ap, arith, length-append}
use Rattle.std.specs.Prelude.{find}
use Rattle.std.specs.Option.{option_map_or}
use Rattle.std.proofs.lemmas.List.{length-map, length-drop, length-take-le}
use Rattle.nm_types.specs.declared.id.PortId.{PortId}
use Rattle.nm_types.specs.Frames.{size_of_frames}
use Rattle.nm_types.specs.OwnPorts.{OwnPort, OwnState, Arrival, port_with_id}
use Rattle.nm_types.specs.OwnSyncs.{buffers_of_arrivals}
use Rattle.vale_entry.specs.declared.entry.Ask.{Ask}
use Rattle.vale_entry.specs.declared.entry.Entry.{Entry}
use Rattle.vale_entry.specs.declared.entry.Item.{Item}
use Rattle.vale_entry.specs.declared.entry.Reply.{Reply}
use Rattle.vale_entry.specs.World.{Port, open_port, is_open_at}
use Rattle.vale_entry.specs.Opening.{open_refusal}
use Rattle.vale_entry.specs.Arrivals.{arrivals_of, given_at, given_arrivals, lent_arrivals, opened_arrivals, blank_arrival, delivered_parts}
use Rattle.vale_entry.specs.Delivery.{delivered_frames, ready_lots}
use Rattle.vale_entry.specs.Holdings.{delivered_buffers, first_idle}
use Rattle.vale_entry.specs.Laws.{Rise, id_of_held}
use Rattle.vale_entry.specs.Pipe.{peer_of}
use Rattle.vale_entry.specs.Legal.{Standing, standing_of, sync_step}
use Rattle.vale_entry.proofs.HistoryLaws.{Stands, history-stands}
use Rattle.vale_entry.proofs.Follows.{EachKind, IsQuiet, refused_open, Receives, by_sync, by_get, CanKeep, follows-by}
use Rattle.vale_entry.proofs.Numbered.{Numbered}
use Rattle.vale_entry.proofs.Holding.{Held}
use Rattle.vale_entry.proofs.Roomy.{HasRoom, opened-room, delivered-size, taken-few}
use Rattle.vale_entry.proofs.Places.{peer-place, first_idle-place}
use Rattle.vale_entry.proofs.Agreeing.{agree-at, agree-ids}
use Rattle.vale_entry.proofs.Each.{each-find}
use Rattle.vale_own.specs.Own.{own_of, port_alone}
use Rattle.vale_own.specs.Side.{port_of_side, IsSoundSideOf}
use Rattle.vale_own.specs.SideLaws.{ComeAsMany, ArrivalsAreAsMany}
use Rattle.vale_own.proofs.Sounds.{Sound, sound-of}
use Rattle.vale_own.proofs.Buffers.{blank-buffers, frame-buffers, came-length, size-parts}
use Rattle.vale_own.proofs.SideCalls.{seen-as, open-own, open-id}

-- a sync brings one for each part of a frame
pub given-count : (s : Standing) (at : PortId) (port : Port) → open_port s.world.ports at.0 ≡ Some port → Numbered s → Held s → length (given_at s at.0) ≡ size_of_frames (delivered_frames port)
given-count s at port e n h =
    let many = came-length s at.0 port e n h in
    let bufs = frame-buffers (delivered_buffers port.id (length (ready_lots port)) s.holdings.ports) (delivered_parts port) (many ∙ sym (size-parts (delivered_frames port))) in
    let all : given_at s at.0 ≡ given_arrivals s port = ap (λ (o : Option Port). option_map_or (given_arrivals s) o []) e in
    sym (length-map (given_at s at.0) (λ (a : Arrival). a.buffer)) ∙ (ap (λ (came : List Arrival). length (buffers_of_arrivals came)) all ∙ (ap (λ (bs : List ℕ). length bs) bufs ∙ many))

-- for which the ring has room
pub given-room : (pool : ℕ) (s : Standing) (shut : Option ℕ) (side : OwnState) (at : PortId) (port : Port) (p : OwnPort) → Stands pool s → Sound s → IsSoundSideOf pool port.session shut (own_of port.session s) side → open_port s.world.ports at.0 ≡ Some port → port_with_id side at.0 ≡ Some p
    → length p.rx.held + length (given_at s at.0) < p.rx.ring.size
given-room pool s shut side at port p stands known of e found =
    let seen : port_alone port ≡ port_of_side port.session shut p = seen-as (is_open_at at.0) at.0 port.session shut side.ports p (port_alone port) (open-id at.0) of.sound.apart found (ap (find (is_open_at at.0)) (sym of.of.ports) ∙ open-own at.0 s port known e) in
    let out : port.out ≡ length p.rx.held = ap (λ (q : Port). q.out) seen in
    let rx : port.rx ≡ p.rx.ring.size = ap (λ (q : Port). q.rx) seen in
    let fits = (each-find HasRoom (is_open_at at.0) s.world.ports port stands.roomy.roomy e).fits in
    let size = delivered-size port in
    let count = given-count s at port e stands.numbered stands.held in
    omega (arith, out, rx, fits, size, count)

-- a put one for each frame taken
pub lent-count : (s : Standing) (offered : ℕ) (items : List Item) (port peer : Port) → CanKeep s offered items port → peer_of s.world.ports port ≡ Some peer → Numbered s → Held s → length (lent_arrivals s.holdings.ports peer.id (length items)) ≡ length items
lent-count s offered items port peer can found n h =
    let p = peer-place s.world.ports s.world.entry_count port peer n.ports_rise found in
    let there = agree-at s.world.ports s.holdings.ports p.place peer h.ports_agree p.here in
    let rise : Rise 0 (map id_of_held s.holdings.ports) s.world.entry_count = rw (agree-ids s.world.ports s.holdings.ports h.ports_agree) n.ports_rise in
    let first : first_idle peer.id (length items) s.holdings.ports ≡ take (length items) there.held.idle =
    ap (λ (i : ℕ). first_idle i (length items) s.holdings.ports) (sym there.agrees.id) ∙ first_idle-place (length items) s.holdings.ports s.world.entry_count p.place there.held rise there.here in
    let few = taken-few s offered items port peer can found in
    let idle = there.agrees.idle in
    length-map (first_idle peer.id (length items) s.holdings.ports) blank_arrival ∙ (ap (λ (bs : List ℕ). length bs) first ∙ length-take-le (length items) there.held.idle (omega (arith, few, idle)))

-- an opening those of its transmit slots and extra positions
pub opened-count : (pool : ℕ) (s : Standing) (name : List ℕ) (tx rx extra : ℕ) → Stands pool s → open_refusal s.world name tx rx extra ≡ None → length (buffers_of_arrivals (opened_arrivals tx rx extra s.holdings.free)) ≡ tx + extra
opened-count pool s name tx rx extra stands refusal =
    let bufs = blank-buffers (take tx s.holdings.free ++ take extra (drop (tx + rx) s.holdings.free)) in
    let room = (opened-room s.world name tx rx extra refusal).0 in
    let count = stands.free.count in
    let front = length-take-le tx s.holdings.free (omega (arith, room, count)) in
    let left = length-drop (tx + rx) s.holdings.free in
    let behind = length-take-le extra (drop (tx + rx) s.holdings.free) (omega (arith, room, count, left)) in
    let both = length-append (take tx s.holdings.free) (take extra (drop (tx + rx) s.holdings.free)) in
    ap (λ (bs : List ℕ). length bs) bufs ∙ omega (arith, front, behind, both)

module _ (pool : ℕ) (s : Standing) (shut : Option ℕ) (side : OwnState) (stands : Stands pool s) (known : Sound s) where
  abbrev AsMany : Ask → ℕ → Reply → Type 0
  AsMany ask session reply = IsSoundSideOf pool session shut (own_of session s) side → ComeAsMany side ask reply (length (arrivals_of s ask reply))

  many-quiet : (ask : Ask) (by : ℕ) (reply : Reply) → IsQuiet s ask by reply → AsMany ask by reply
  many-quiet ask by reply (refused_open session name tx rx extra fault can e) of = refl
  many-quiet ask by reply _ of = refl

  many-receives : (ask : Ask) (at : PortId) (back : List ℕ) (port : Port) → Receives ask at back → open_port s.world.ports at.0 ≡ Some port → AsMany ask port.session (sync_step s back port).reply
  many-receives ask at back port (by_sync at' back') e of = λ p found. given-room pool s shut side at port p stands known of e found
  many-receives ask at back port (by_get at' back') e of = λ p found. given-room pool s shut side at port p stands known of e found

  many-kinds : EachKind s (λ ask made. AsMany ask made.session made.reply)
  many-kinds = record {
    enters = λ user fits of. refl;
    quiet = λ ask by reply quiet of. many-quiet ask by reply quiet of;
    opens = λ session name tx rx extra can refusal of. sym (length-map (opened_arrivals tx rx extra s.holdings.free) (λ (a : Arrival). a.buffer)) ∙ opened-count pool s name tx rx extra stands refusal;
    sends = λ from frames port e can settled of. refl;
    grants = λ origin to offer first same of. refl;
    completes = λ lease lot e of. refl;
    receives = λ ask at back port receives e can of. many-receives ask at back port receives e of;
    puts = λ at offered items port peer e can found of. rw (e, found) (lent-count s offered items port peer can found stands.numbered stands.held);
    watches = λ at target sides port found e can there none of. refl;
    shuts = λ at port e settled of. refl;
    finishes = λ at bufs chain port fits e can out of. refl;
    leaves = λ session can of. refl;
  }

abbrev AsManyAt : ℕ → Standing → Option ℕ → OwnState → Entry → Standing → Type 0
AsManyAt pool s shut side e t = IsSoundSideOf pool e.session.0 shut (own_of e.session.0 s) side → ComeAsMany side e.ask e.reply (length (arrivals_of s e.ask e.reply))

pub arrivals-many : ArrivalsAreAsMany
arrivals-many pool past e shut side legal follows of =
    let s = standing_of pool past in
    follows-by s (AsManyAt pool s shut side) e follows (many-kinds pool s shut side (history-stands pool past legal) (sound-of pool past legal)) of
