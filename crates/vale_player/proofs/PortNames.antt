-- Ports keep their ids and their names, whatever a session does but open and close them.
use Rattle.std.proofs.Common.{ℕ, ◌≡◌, ◌==◌, Bool, true, false, not, cond, List, [], ◌∷◌, map, Option, Some, None, Result, Ok, Err, IfOk, IfErr, refl, sym, ◌∙◌, ap, ap₂, subst}
use Rattle.std.specs.Prelude.{fold, OnOk}
use Rattle.std.specs.List.{AllByRecursion}
use Rattle.nm_types.specs.declared.fault.OpenFault.{OpenFault}
use Rattle.nm_types.specs.declared.fault.OpenFault.TheVariants as opens
use Rattle.nm_types.specs.declared.fault.StepFault.{StepFault}
use Rattle.nm_types.specs.declared.fault.StepFault.TheVariants as steps
use Rattle.nm_types.specs.declared.fault.SyncFault.{SyncFault}
use Rattle.nm_types.specs.declared.fault.SyncFault.TheVariants as faults
use Rattle.nm_types.specs.declared.fault.WatchFault.{WatchFault}
use Rattle.nm_types.specs.declared.fault.WatchFault.TheVariants as watches
use Rattle.nm_types.specs.declared.id.Counts.{Counts}
use Rattle.nm_types.specs.declared.id.PortId.{PortId}
use Rattle.nm_types.specs.declared.id.Side.{Side}
use Rattle.nm_types.specs.declared.id.Side.TheVariants.{Tx, Rx}
use Rattle.nm_types.specs.declared.id.Sides.{Sides}
use Rattle.nm_types.specs.Frames.{Frame}
use Rattle.nm_types.specs.Names.{is_pipe_name}
use Rattle.nm_types.specs.Slots.{Pushed, pushed_frames}
use Rattle.nm_types.specs.OwnPorts.{OwnRing, OwnPort, OwnState, Arrival, bytes_at, port_if, with_ring_on, pushed_in, pushed_on, refusal_in}
use Rattle.nm_types.specs.OwnSyncs.{port_swapped, buffer_on, after_slot, ring_after_send, ring_after_put, ring_after_receive, ring_after_reset, buffers_of_arrivals}
use Rattle.vale_entry.specs.declared.entry.Ask.TheVariants.{Send, Put, Get, Sync, Watch, Stat}
use Rattle.vale_entry.specs.declared.entry.Ask.{Ask}
use Rattle.vale_entry.specs.declared.entry.Item.{Item}
use Rattle.vale_entry.specs.declared.entry.Reply.{Reply}
use Rattle.vale_entry.specs.declared.entry.Reply.TheVariants as replies
use Rattle.vale_entry.specs.World.{Port}
use Rattle.vale_entry.specs.Legal.{kept_ask}
use Rattle.vale_entry.specs.OwnCalls.{or_reset, offered_items, tx_call, rx_call, back_in, own_by}
use Rattle.vale_own.specs.Own.{own_of}
use Rattle.vale_own.specs.Side.{port_of_side}
use Rattle.vale_replay.proofs.FitRings.{each-filter}
use Rattle.nm_user.specs.declared.leaving.Detached.{Detached}
use Rattle.nm_user.specs.declared.receiving.Received.{Received}
use Rattle.nm_user.specs.Sessions.{SessionState, IsThere, standing_seen}
use Rattle.nm_user.specs.Calls.{Made, MadeNone}
use Rattle.nm_user.specs.Ports.{OpensNot, WatchesNot}
use Rattle.nm_user.specs.Syncs.{IsUnsent, SyncsNot}
use Rattle.nm_user.specs.Receives.{IsReceived}
use Rattle.nm_user.specs.Leaving.{IsDetached}
use Rattle.nm_user.proofs.Opened.{opening}
use Rattle.vale_player.specs.declared.frames.SyncEnd.{SyncEnd}
use Rattle.vale_player.specs.declared.frames.SyncEnd.TheVariants as ends
use Rattle.vale_player.specs.Syncing.{EndsTx}
use Rattle.vale_player.specs.Kept.{KeptFrames, Keeps, KeepsNamed, ReceivesNothing, is_one_of}

-- a port by its id and its name
abbrev Label : Type 0
Label = ℕ × List ℕ

abbrev label : OwnPort → Label
label p = (p.id.0, p.name)

abbrev labels : List OwnPort → List Label
labels ports = map label ports

-- the ports are the same
abbrev pub SamePorts : SessionState → SessionState → Type 0
SamePorts s t = labels t.own.ports ≡ labels s.own.ports

-- ---- ports that are changed

map-labels : (change : OwnPort → OwnPort) → ((p : OwnPort) → label (change p) ≡ label p) → (ports : List OwnPort) → labels (map change ports) ≡ labels ports
map-labels change each [] = refl
map-labels change each (p ∷ ports) = ap₂ (λ (f : Label) (fs : List Label). f ∷ fs) (each p) (map-labels change each ports)

ring-label : (side : Side) (f : OwnRing → OwnRing) (p : OwnPort) → label (with_ring_on side f p) ≡ label p
ring-label Tx f p = refl
ring-label Rx f p = refl

ring-labels : (side : Side) (id : ℕ) (f : OwnRing → OwnRing) (ports : List OwnPort) → labels (map (port_if id (with_ring_on side f)) ports) ≡ labels ports
ring-labels side id f ports = map-labels (port_if id (with_ring_on side f)) (λ p. by p (p.id.0 == id)) ports
  where
    by : (p : OwnPort) (b : Bool) → label (cond b (with_ring_on side f p) p) ≡ label p
    by p true = ring-label side f p
    by p false = refl

exchange-labels : (side : Side) (id : ℕ) (pushed : List Pushed) (ports : List OwnPort) → labels (fold (after_slot side id) ports pushed) ≡ labels ports
exchange-labels side id [] ports = refl
exchange-labels side id (x ∷ pushed) ports =
    exchange-labels side id pushed (after_slot side id ports x) ∙ map-labels (port_swapped (buffer_on side id ports x.at) x.slot.buf_idx) (λ p. refl) ports

-- ---- syncs

module _ (number : ℕ) (id : PortId) (reply : Reply) (came : List Arrival) (s : OwnState) where
  abbrev exchanged : Side → List OwnPort
  exchanged side = fold (after_slot side id.0) s.ports (pushed_on side id.0 s)

  synced-labels : (side : Side) (f : OwnRing → OwnRing) → labels (map (port_if id.0 (with_ring_on side f)) (exchanged side)) ≡ labels s.ports
  synced-labels side f = ring-labels side id.0 f (exchanged side) ∙ exchange-labels side id.0 (pushed_on side id.0 s) s.ports

  tx-labels : (fault : Option SyncFault) (is_pipe : Bool) (offered : List Item) (frames : List Frame)
      → labels (own_by number (kept_ask (or_reset fault id Tx (cond is_pipe (Put id offered) (Send id frames)))) reply came s).ports ≡ labels s.ports
  tx-labels (Some fault) is_pipe offered frames = ring-labels Tx id.0 (ring_after_reset Tx) s.ports
  tx-labels None true offered frames = synced-labels Tx (ring_after_put (buffers_of_arrivals came))
  tx-labels None false offered frames = synced-labels Tx ring_after_send

  rx-labels : (fault : Option SyncFault) (is_pipe : Bool) (back : List ℕ)
      → labels (own_by number (kept_ask (or_reset fault id Rx (cond is_pipe (Get id back) (Sync id back)))) reply came s).ports ≡ labels s.ports
  rx-labels (Some fault) is_pipe back = ring-labels Rx id.0 (ring_after_reset Rx) s.ports
  rx-labels None true back = synced-labels Rx (ring_after_receive came)
  rx-labels None false back = synced-labels Rx (ring_after_receive came)

tx-ports : (number : ℕ) (s : OwnState) (p : OwnPort) (r : OwnRing) (reply : Reply) (came : List Arrival) (t : OwnState) → t ≡ own_by number (kept_ask (tx_call s p r)) reply came s
    → labels t.ports ≡ labels s.ports
tx-ports number s p r reply came t made =
    ap (λ (o : OwnState). labels o.ports) made
    ∙ tx-labels number p.id reply came s (refusal_in Tx s p r) (is_pipe_name p.name) (offered_items s r) (pushed_frames (bytes_at s) (pushed_in Tx r))

rx-ports : (number : ℕ) (s : OwnState) (p : OwnPort) (reply : Reply) (came : List Arrival) (t : OwnState) → t ≡ own_by number (kept_ask (rx_call s p)) reply came s
    → labels t.ports ≡ labels s.ports
rx-ports number s p reply came t made =
    ap (λ (o : OwnState). labels o.ports) made ∙ rx-labels number p.id reply came s (refusal_in Rx s p p.rx) (is_pipe_name p.name) (back_in p)

none-ports : (s t : SessionState) (ask : Ask) (fault : StepFault) → MadeNone s t ask fault → SamePorts s t
none-ports s t ask fault none = ap (λ (x : SessionState). labels x.own.ports) none.same

pub sync-ports : (s t : SessionState) (at : ℕ) (r : Result SyncEnd StepFault) → IfOk r (EndsTx s t at) → IfErr r (IsUnsent s t at) → SamePorts s t
sync-ports s t at (Ok ends.Passed) e none = tx-ports e.came.synced.number s.own e.tx.port e.tx.ring e.came.reply _ t.own e.came.synced.own
sync-ports s t at (Ok ends.PeerGone) e none = tx-ports _ s.own e.tx.port e.tx.ring _ _ t.own e.came.1.own
sync-ports s t at (Ok ends.Refused) e none = tx-ports _ s.own e.tx.port e.tx.ring _ _ t.own e.came.1.own
sync-ports s t at (Err fault) e none = none-ports s t _ fault none.none

pub received-ports : (s t : SessionState) (at : ℕ) (received : Received) → IsReceived s t at received → SamePorts s t
received-ports s t at received is = rx-ports is.synced.number s.own is.at.port _ _ t.own is.synced.own

-- a receive sync that a check refused, or that made no entry
module _ (s t : SessionState) (p : OwnPort) where
  made-rx : (reply : Reply) → Made s t (rx_call s.own p) reply → SamePorts s t
  made-rx reply made = rx-ports _ s.own p reply _ t.own made.own

  not-ports : (refusal : Option SyncFault) (fault : SyncFault) → SyncsNot s t (rx_call s.own p) refusal fault → SamePorts s t
  not-ports refusal faults.PeerGone not = made-rx replies.PeerGone not.1
  not-ports refusal (faults.RecordFull what used want) not = none-ports s t (rx_call s.own p) (steps.RecordFull what used want) not
  not-ports refusal faults.NoMemory not = none-ports s t (rx_call s.own p) steps.NoMemory not
  not-ports refusal _ not = made-rx replies.Made not.1

pub untaken-ports : (s t : SessionState) (at : ℕ) → ReceivesNothing s t at → SamePorts s t
untaken-ports s t at r = not-ports s t r.not.at.port _ r.fault r.not.not

-- ---- other calls

module _ (s t : SessionState) where
  pub unopened-ports : (name : List ℕ) (tx rx extra : ℕ) (fault : OpenFault) → OpensNot s t (opening s name tx rx extra) fault → SamePorts s t
  unopened-ports name tx rx extra opens.BadSize made = ap (λ (o : OwnState). labels o.ports) made.own
  unopened-ports name tx rx extra opens.SwitchesFull made = ap (λ (o : OwnState). labels o.ports) made.own
  unopened-ports name tx rx extra opens.PortsFull made = ap (λ (o : OwnState). labels o.ports) made.own
  unopened-ports name tx rx extra opens.NameTaken made = ap (λ (o : OwnState). labels o.ports) made.own
  unopened-ports name tx rx extra (opens.NoBuffers want have) made = ap (λ (o : OwnState). labels o.ports) made.own
  unopened-ports name tx rx extra (opens.RecordFull what used want) none = none-ports s t _ _ none
  unopened-ports name tx rx extra opens.NoMemory none = none-ports s t _ _ none

  unwatched-ports : (port : PortId) (target : List ℕ) (sides : Sides) (fault : WatchFault) → WatchesNot s t (Watch port target sides) fault → SamePorts s t
  unwatched-ports port target sides watches.NoTarget made = ap (λ (o : OwnState). labels o.ports) made.own
  unwatched-ports port target sides (watches.Watched by) made = ap (λ (o : OwnState). labels o.ports) made.own
  unwatched-ports port target sides (watches.RecordFull what used want) none = none-ports s t _ _ none
  unwatched-ports port target sides watches.NoMemory none = none-ports s t _ _ none

  pub watch-ports : (port : PortId) (target : List ℕ) (sides : Sides) (r : Result PortId WatchFault) → IfOk r (λ at. Made s t (Watch port target sides) (replies.Watching at))
      → IfErr r (WatchesNot s t (Watch port target sides)) → SamePorts s t
  watch-ports port target sides (Ok at) made not = ap (λ (o : OwnState). labels o.ports) made.own
  watch-ports port target sides (Err fault) made not = unwatched-ports port target sides fault not

  pub stat-ports : (port : PortId) (r : Result Counts StepFault) → IfOk r (λ counts. Made s t (Stat port) (replies.Counted counts)) → IfErr r (MadeNone s t (Stat port)) → SamePorts s t
  stat-ports port (Ok counts) made not = ap (λ (o : OwnState). labels o.ports) made.own
  stat-ports port (Err fault) made not = none-ports s t _ fault not

-- ---- on the session's own side

abbrev label_of : Port → Label
label_of port = (port.id, port.name)

standing-labels : (session : ℕ) (ports : List OwnPort) → map label_of (map (port_of_side session None) ports) ≡ labels ports
standing-labels session [] = refl
standing-labels session (p ∷ ports) = ap (λ (ls : List Label). label p ∷ ls) (standing-labels session ports)

-- the ports are those that stand
labels-there : (s : SessionState) → IsThere None s → labels s.own.ports ≡ map label_of (own_of s.id (standing_seen s.fixed s.knows)).ports
labels-there s there = sym (standing-labels s.id s.own.ports) ∙ ap (map label_of) (sym there.side.of.ports)

pub edited-ports : (s t : SessionState) (own : OwnState) → t ≡ record s { own = own } → IsThere None s → IsThere None t → SamePorts s t
edited-ports s t own made here there =
    labels-there t there ∙ (ap (λ (x : SessionState). map label_of (own_of x.id (standing_seen x.fixed x.knows)).ports) made ∙ sym (labels-there s here))

-- ---- so each of a name stays kept

module _ (names : List (List ℕ)) (kept : Option (List KeptFrames)) where
  abbrev LabelKept : Label → Type 0
  LabelKept l = is_one_of names l.1 ≡ true → Keeps kept l.0

  to-labels : (ports : List OwnPort) → AllByRecursion (KeepsNamed names kept) ports → AllByRecursion LabelKept (labels ports)
  to-labels [] all = tt
  to-labels (p ∷ ports) all = (all.0, to-labels ports all.1)

  of-labels : (ports : List OwnPort) → AllByRecursion LabelKept (labels ports) → AllByRecursion (KeepsNamed names kept) ports
  of-labels [] all = tt
  of-labels (p ∷ ports) all = (all.0, of-labels ports all.1)

  pub named-stay : (s t : SessionState) → SamePorts s t → AllByRecursion (KeepsNamed names kept) s.own.ports → AllByRecursion (KeepsNamed names kept) t.own.ports
  named-stay s t same all = of-labels t.own.ports (subst (AllByRecursion LabelKept) (sym same) (to-labels s.own.ports all))

  -- and when one is closed
  pub named-left : (s t : SessionState) (closed : ℕ) (detached : Detached) → IsDetached s t closed detached → AllByRecursion (KeepsNamed names kept) s.own.ports → AllByRecursion (KeepsNamed names kept) t.own.ports
  named-left s t closed detached d all =
      subst (λ (o : OwnState). AllByRecursion (KeepsNamed names kept) o.ports) (sym d.own)
      (each-filter (KeepsNamed names kept) (λ (p : OwnPort). not (p.id.0 == closed)) s.own.ports all)
