-- A name goes on naming the port that it names: frames that are put and transmit syncs leave names, ids
-- and rings where they are.
use Rattle.std.proofs.Common.{ℕ, zero, suc, ◌++◌, length, drop, ◌≡◌, Bool, true, false, not, cond, List, [], ◌∷◌, map, Option, Some, None, option_map, refl, sym, ◌∙◌, ap, ap₂}
use Rattle.std.specs.Prelude.{find, fold, bytes_eq, ◌==◌, option_and_then}
use Rattle.nm_types.specs.declared.id.PortId.{PortId}
use Rattle.nm_types.specs.declared.id.Side.{Side}
use Rattle.nm_types.specs.declared.id.Side.TheVariants.{Tx}
use Rattle.nm_types.specs.declared.fault.StepFault.{StepFault}
use Rattle.nm_types.specs.declared.fault.SyncFault.{SyncFault}
use Rattle.nm_types.specs.Names.{is_pipe_name}
use Rattle.nm_types.specs.Frames.{Frame}
use Rattle.nm_types.specs.Slots.{Pushed, pushed_frames}
use Rattle.nm_types.specs.SyncChecks.{contains_index}
use Rattle.nm_types.specs.OwnPorts.{OwnRing, OwnPort, OwnState, Arrival, bytes_at, with_bytes, port_if, with_ring_on, ring_at, slot_in, named_of, pushed_in, pushed_on, refusal_in}
use Rattle.nm_types.specs.OwnEdits.{has_room, ring_with_part, with_written, with_part_on, with_part, with_parts, with_frame}
use Rattle.nm_types.specs.Parts.{parts_of}
use Rattle.nm_types.specs.OwnSyncs.{ring_swapped, port_swapped, buffer_on, after_slot, ring_after_send, ring_after_put, ring_after_reset, buffers_of_arrivals}
use Rattle.vale_entry.specs.declared.entry.Ask.TheVariants.{Send, Put}
use Rattle.vale_entry.specs.declared.entry.Item.{Item}
use Rattle.vale_entry.specs.declared.entry.Reply.{Reply}
use Rattle.vale_entry.specs.Legal.{kept_ask}
use Rattle.vale_entry.specs.OwnCalls.{or_reset, offered_items, tx_call, own_by}
use Rattle.vale_replay.proofs.PutRooms.{same-ports}
use Rattle.nm_user.specs.Sessions.{SessionState}
use Rattle.nm_own.specs.Copies.{with_copies}
use Rattle.nm_user.specs.Syncs.{IsUnsent}
use Rattle.vale_player.specs.declared.frames.SyncEnd.{SyncEnd}
use Rattle.vale_player.specs.declared.frames.SyncEnd.TheVariants as ends
use Rattle.vale_player.specs.Syncing.{id_with_ring, sender_named, EndsTx}

-- ---- what a name finds

-- a port by its name, with its id if it has a transmit ring
abbrev Face : Type 0
Face = List ℕ × Option PortId

abbrev face : OwnPort → Face
face p = (p.name, id_with_ring p)

abbrev faces : List OwnPort → List Face
faces ports = map face ports

abbrev id_on : Face → Option PortId
id_on f = f.1

abbrev found_in : List ℕ → List Face → Option PortId
found_in name fs = option_and_then id_on (find (λ (f : Face). bytes_eq name f.0) fs)

found-by-face : (name : List ℕ) (ports : List OwnPort) → option_and_then id_with_ring (find (λ (p : OwnPort). bytes_eq name p.name) ports) ≡ found_in name (faces ports)
found-by-face name [] = refl
found-by-face name (p ∷ ports) = by (bytes_eq name p.name) (found-by-face name ports)
  where
    by : (b : Bool) → option_and_then id_with_ring (find (λ (q : OwnPort). bytes_eq name q.name) ports) ≡ found_in name (faces ports)
        → option_and_then id_with_ring (cond b (Some p) (find (λ (q : OwnPort). bytes_eq name q.name) ports)) ≡ option_and_then id_on (cond b (Some (face p)) (find (λ (f : Face). bytes_eq name f.0) (faces ports)))
    by true rest = refl
    by false rest = rest

same-faces : (name : List ℕ) (s t : OwnState) → faces t.ports ≡ faces s.ports → sender_named t name ≡ sender_named s name
same-faces name s t same = found-by-face name t.ports ∙ (ap (found_in name) same ∙ sym (found-by-face name s.ports))

-- ---- ports that are changed

map-faces : (change : OwnPort → OwnPort) → ((p : OwnPort) → face (change p) ≡ face p) → (ports : List OwnPort) → faces (map change ports) ≡ faces ports
map-faces change each [] = refl
map-faces change each (p ∷ ports) = ap₂ (λ (f : Face) (fs : List Face). f ∷ fs) (each p) (map-faces change each ports)

if-face : (id : ℕ) (change : OwnPort → OwnPort) → ((p : OwnPort) → face (change p) ≡ face p) → (p : OwnPort) → face (port_if id change p) ≡ face p
if-face id change each p = by (p.id.0 == id)
  where
    by : (b : Bool) → face (cond b (change p) p) ≡ face p
    by true = each p
    by false = refl

id-there : (id : PortId) (f : OwnRing → OwnRing) (tx : Option OwnRing) → option_map (λ (r : OwnRing). id) (option_map f tx) ≡ option_map (λ (r : OwnRing). id) tx
id-there id f None = refl
id-there id f (Some r) = refl

ring-face : (f : OwnRing → OwnRing) (p : OwnPort) → face (with_ring_on Tx f p) ≡ face p
ring-face f p = ap (λ (o : Option PortId). (p.name, o)) (id-there p.id f p.tx)

ring-faces : (id : ℕ) (f : OwnRing → OwnRing) (ports : List OwnPort) → faces (map (port_if id (with_ring_on Tx f)) ports) ≡ faces ports
ring-faces id f ports = map-faces (port_if id (with_ring_on Tx f)) (if-face id (with_ring_on Tx f) (ring-face f)) ports

swapped-face : (a b : ℕ) (p : OwnPort) → face (port_swapped a b p) ≡ face p
swapped-face a b p = ap (λ (o : Option PortId). (p.name, o)) (id-there p.id (ring_swapped a b) p.tx)

exchange-faces : (side : Side) (id : ℕ) (pushed : List Pushed) (ports : List OwnPort) → faces (fold (after_slot side id) ports pushed) ≡ faces ports
exchange-faces side id [] ports = refl
exchange-faces side id (x ∷ pushed) ports =
    let here = buffer_on side id ports x.at in
    exchange-faces side id pushed (after_slot side id ports x) ∙ map-faces (port_swapped here x.slot.buf_idx) (swapped-face here x.slot.buf_idx) ports

-- ---- a frame that is put

part-faces : (id : ℕ) (more : Bool) (part : List ℕ) (s : OwnState) → faces (with_part id more part s).ports ≡ faces s.ports
part-faces id more part s = on (ring_at Tx s id)
  where
    on : (found : Option OwnRing) → faces (with_part_on id more part s found).ports ≡ faces s.ports
    on None = refl
    on (Some r) =
        let idx = (slot_in Tx r r.ring.head).buf_idx in
        ring-faces id (ring_with_part more part) (with_written idx part s).ports ∙ ap faces (same-ports (contains_index (named_of s) idx) (with_bytes idx (part ++ drop (length part) (bytes_at s idx)) s) s refl)

parts-faces : (id : ℕ) (parts : List (List ℕ)) (s : OwnState) → faces (with_parts id parts s).ports ≡ faces s.ports
parts-faces id [] s = refl
parts-faces id (part ∷ parts) s =
    let more = not (length parts == 0) in
    parts-faces id parts (with_part id more part s) ∙ part-faces id more part s

frame-faces : (id : ℕ) (bytes : List ℕ) (s : OwnState) → faces (with_frame id bytes s).ports ≡ faces s.ports
frame-faces id bytes s = by (has_room s id (length bytes))
  where
    by : (b : Bool) → faces (cond b (with_parts id (parts_of bytes) s) s).ports ≡ faces s.ports
    by true = parts-faces id (parts_of bytes) s
    by false = refl

pub frame-names : (id : ℕ) (bytes : List ℕ) (s : OwnState) (name : List ℕ) → sender_named (with_frame id bytes s) name ≡ sender_named s name
frame-names id bytes s name = same-faces name s (with_frame id bytes s) (frame-faces id bytes s)

pub copies-names : (count id : ℕ) (bytes : List ℕ) (s : OwnState) (name : List ℕ) → sender_named (with_copies count id bytes s) name ≡ sender_named s name
copies-names zero id bytes s name = refl
copies-names (suc count) id bytes s name = frame-names id bytes (with_copies count id bytes s) name ∙ copies-names count id bytes s name

-- ---- a transmit sync

module _ (number : ℕ) (id : PortId) (reply : Reply) (came : List Arrival) (s : OwnState) where
  pushed-out : faces (fold (after_slot Tx id.0) s.ports (pushed_on Tx id.0 s)) ≡ faces s.ports
  pushed-out = exchange-faces Tx id.0 (pushed_on Tx id.0 s) s.ports

  call-faces : (fault : Option SyncFault) (is_pipe : Bool) (offered : List Item) (frames : List Frame)
      → faces (own_by number (kept_ask (or_reset fault id Tx (cond is_pipe (Put id offered) (Send id frames)))) reply came s).ports ≡ faces s.ports
  call-faces (Some fault) is_pipe offered frames = ring-faces id.0 (ring_after_reset Tx) s.ports
  call-faces None true offered frames =
      ring-faces id.0 (ring_after_put (buffers_of_arrivals came)) (fold (after_slot Tx id.0) s.ports (pushed_on Tx id.0 s)) ∙ pushed-out
  call-faces None false offered frames = ring-faces id.0 ring_after_send (fold (after_slot Tx id.0) s.ports (pushed_on Tx id.0 s)) ∙ pushed-out

tx-names : (number : ℕ) (s : OwnState) (p : OwnPort) (r : OwnRing) (reply : Reply) (came : List Arrival) (t : OwnState) (name : List ℕ) → t ≡ own_by number (kept_ask (tx_call s p r)) reply came s
    → sender_named t name ≡ sender_named s name
tx-names number s p r reply came t name made =
    same-faces name s t (ap (λ (o : OwnState). faces o.ports) made
    ∙ call-faces number p.id reply came s (refusal_in Tx s p r) (is_pipe_name p.name) (offered_items s r) (pushed_frames (bytes_at s) (pushed_in Tx r)))

pub ends-names : (s t : SessionState) (id : ℕ) (end : SyncEnd) (name : List ℕ) → EndsTx s t id end → sender_named t.own name ≡ sender_named s.own name
ends-names s t id ends.Passed name e = tx-names e.came.synced.number s.own e.tx.port e.tx.ring e.came.reply _ t.own name e.came.synced.own
ends-names s t id ends.PeerGone name e = tx-names _ s.own e.tx.port e.tx.ring _ _ t.own name e.came.1.own
ends-names s t id ends.Refused name e = tx-names _ s.own e.tx.port e.tx.ring _ _ t.own name e.came.1.own

pub unsent-names : (s t : SessionState) (id : ℕ) (fault : StepFault) (name : List ℕ) → IsUnsent s t id fault → sender_named t.own name ≡ sender_named s.own name
unsent-names s t id fault name e = ap (λ (x : SessionState). sender_named x.own name) e.none.same
