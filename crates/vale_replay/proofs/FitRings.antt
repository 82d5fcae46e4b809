-- The numbers of what a user has fit their fields: its edits and its entries leave it so.
use Rattle.std.proofs.Common.{Bool, true, false, cond, not, ℕ, zero, suc, ◌+◌, ◌<◌, ◌≤◌, ◌≡◌, ◌⊎◌, inl, inr, List, [], ◌∷◌, ◌++◌, length, map, fold, filter, take, drop, slice_set, Option, Some, None, option_map, refl, sym, ◌∙◌, subst, arith}
use Rattle.std.specs.Prelude.{◌==◌, option_and_then, slice_index_or}
use Rattle.std.specs.Option.{option_map_or}
use Rattle.std.specs.List.{zip, AllByRecursion as Each}
use Rattle.std.proofs.lemmas.Bool.{eq-eqb}
use Rattle.std.proofs.lemmas.Nat.{mod_below}
use Rattle.std.proofs.lemmas.List.{length-take}
use Rattle.std.proofs.lemmas.Option.{same_Some}
use Rattle.nm_types.specs.Limits.{most_ring}
use Rattle.nm_types.specs.declared.id.Side.{Side}
use Rattle.nm_types.specs.declared.id.Side.TheVariants.{Tx, Rx}
use Rattle.nm_types.specs.declared.slot.SlotWrite.{SlotWrite}
use Rattle.nm_types.specs.declared.slot.SlotWrite.TheVariants.{BufIdx, Len, Flags, Ptr}
use Rattle.nm_types.specs.Exchange.{swapped}
use Rattle.nm_types.specs.Parts.{first_parts, parts_of, slots_of_length}
use Rattle.nm_types.specs.Positions.{IsRingSize, is_user_slot, opened_tx, step_on, user_slots, pushed_slots, advanced}
use Rattle.nm_types.specs.Slots.{SlotState, Pushed, slot_after_push}
use Rattle.nm_types.specs.SyncChecks.{contains_index, is_tx}
use Rattle.nm_types.specs.Reset.{reset_slot}
use Rattle.nm_types.specs.OwnPorts.{OwnRing, OwnPort, OwnState, Arrival, blank_slot, buffer_in, slot_in, index_of, with_slot, ring_on, ring_at, port_if, with_port, with_ring, with_ring_on, named_of, port_with_id, pushed_at, pushed_in, pushed_on, pushed_count, is_whole_at}
use Rattle.nm_types.specs.OwnEdits.{SlotPlace, ring_at_positions, with_positions, with_all_back, user_slot, user_slot_at, with_user_slot, slot_written, with_written_slot, with_slot_field, slot_naming, slot_of_place, with_two_slots, with_slots_swapped, has_room, slot_with_part, ring_with_part, with_written, with_part_on, with_parts, with_frame, sent_slot, ring_forwarding, with_heads_forwarded, with_slots_forwarded, frame_slots, can_forward, with_next_forwarded, frames_forwarded, with_forwarded, link_in, with_extra_link_in, with_extra_link, extra_number}
use Rattle.nm_types.specs.OwnSyncs.{ring_swapped, port_swapped, buffer_on, after_slot, after_exchange, with_push_cleared, slots_after_push, ring_after_send, own_after_send, taken_slots, with_slot_refilled, with_place_refilled, ring_after_put, own_after_put, offered_slots, buffers_of_arrivals, published, ring_after_receive, own_after_receive, with_slot_reset, ring_after_reset, own_after_reset, opened_slot, opened_tx_ring, opened_port, own_after_open, own_after_finish}
use Rattle.vale_entry.proofs.Each.{each-append, each-drop, each-find, each-map, each-take}
use Rattle.vale_own.specs.SideAsks.{HasFields, SlotFits}
use Rattle.vale_own.proofs.SideOpens.{Sized}
use Rattle.vale_replay.specs.MayCall.{HasFieldsIf, PortFits}

abbrev pub FitsWord : ℕ → Type 0
FitsWord n = n < 4294967296

-- a ring whose positions, slots and buffers fit
pub record IsFitRing (r : OwnRing) : Type 0 where
  pub some : 1 ≤ r.ring.size
  pub few : r.ring.size ≤ most_ring
  pub head : FitsWord r.ring.head
  pub cur : FitsWord r.ring.cur
  pub tail : FitsWord r.ring.tail
  pub accepted : FitsWord r.ring.accepted_head
  pub last : FitsWord r.ring.last_tail
  pub slots : Each SlotFits r.slots
  pub held : Each FitsWord r.held

abbrev pub IsFitRingIf : Option OwnRing → Type 0
IsFitRingIf None = Unit {0}
IsFitRingIf (Some r) = IsFitRing r

pub record IsFitPort (p : OwnPort) : Type 0 where
  pub tx : IsFitRingIf p.tx
  pub rx : IsFitRing p.rx

abbrev pub IsFit : OwnState → Type 0
IsFit s = Each IsFitPort s.ports

fields-of : (r : OwnRing) → IsFitRing r → HasFields r
fields-of r fit = record { head = fit.head; cur = fit.cur; slots = fit.slots }

fields-if : (o : Option OwnRing) → IsFitRingIf o → HasFieldsIf o
fields-if None fit = tt
fields-if (Some r) fit = fields-of r fit

port-fits : (p : OwnPort) → IsFitPort p → PortFits p
port-fits p fit = record { tx = fields-if p.tx fit.tx; rx = fields-of p.rx fit.rx }

pub ports-fit : (ports : List OwnPort) → Each IsFitPort ports → Each PortFits ports
ports-fit [] all = tt
ports-fit (p ∷ ports) all = (port-fits p all.0, ports-fit ports all.1)

-- Lists.

pub each-set : {X : Type 0} (P : X → Type 0) (xs : List X) (i : ℕ) (x : X) → Each P xs → P x → Each P (slice_set xs i x)
each-set P [] i x all here = tt
each-set P (y ∷ ys) zero x all here = (here, all.1)
each-set P (y ∷ ys) (suc i) x all here = (all.0, each-set P ys i x all.1 here)

each-at : {X : Type 0} (P : X → Type 0) (xs : List X) (i : ℕ) (d : X) → Each P xs → P d → P (slice_index_or xs i d)
each-at P [] i d all none = none
each-at P (x ∷ xs) zero d all none = all.0
each-at P (x ∷ xs) (suc i) d all none = each-at P xs i d all.1 none

pub each-filter : {X : Type 0} (P : X → Type 0) (test : X → Bool) (xs : List X) → Each P xs → Each P (filter test xs)
each-filter P test [] all = tt
each-filter P test (x ∷ xs) all = by (test x) (each-filter P test xs all.1)
  where
    by : (b : Bool) → Each P (filter test xs) → Each P (cond b (x ∷ filter test xs) (filter test xs))
    by true rest = (all.0, rest)
    by false rest = rest

fold-keeps : {A B : Type 0} (P : B → Type 0) (Q : A → Type 0) (f : B → A → B) → ((b : B) (a : A) → P b → Q a → P (f b a)) → (b : B) (xs : List A) → P b → Each Q xs → P (fold f b xs)
fold-keeps P Q f keeps b [] here all = here
fold-keeps P Q f keeps b (x ∷ xs) here all = fold-keeps P Q f keeps (f b x) xs (keeps b x here all.0) all.1

anything : {A : Type 0} (xs : List A) → Each (λ (x : A). Unit {0}) xs
anything [] = tt
anything (x ∷ xs) = (tt, anything xs)

fold-always : {A B : Type 0} (P : B → Type 0) (f : B → A → B) → ((b : B) (a : A) → P b → P (f b a)) → (b : B) (xs : List A) → P b → P (fold f b xs)
fold-always {A} P f keeps b xs here = fold-keeps P (λ (x : A). Unit {0}) f (λ b' a one two. keeps b' a one) b xs here (anything xs)

-- Slots and places of a ring.

blank-fits : SlotFits blank_slot
blank-fits = (omega arith, omega arith)

slot-fits : (side : Side) (r : OwnRing) (at : ℕ) → IsFitRing r → SlotFits (slot_in side r at)
slot-fits side r at fit = each-at SlotFits r.slots (index_of side r.ring at) blank_slot fit.slots blank-fits

place-fits : (side : Side) (r : OwnRing) (at : ℕ) → IsFitRing r → FitsWord (buffer_in side r at)
place-fits side r at fit = each-at FitsWord r.held (index_of side r.ring at) 0 fit.held (omega arith)

stepped-fits : (size at k : ℕ) → 1 ≤ size → size ≤ most_ring → FitsWord (step_on size at k)
stepped-fits size at k some few = let below = mod_below (at + k) size some in omega (arith, below, few)

moved-ring : (r : OwnRing) (head cur : ℕ) → IsFitRing r → FitsWord head → FitsWord cur → IsFitRing (ring_at_positions head cur r)
moved-ring r head cur fit one two = record { some = fit.some; few = fit.few; head = one; cur = two; tail = fit.tail; accepted = fit.accepted; last = fit.last; slots = fit.slots; held = fit.held }

slots-ring : (r : OwnRing) (slots : List SlotState) → IsFitRing r → Each SlotFits slots → IsFitRing (record r { slots = slots })
slots-ring r slots fit all = record { some = fit.some; few = fit.few; head = fit.head; cur = fit.cur; tail = fit.tail; accepted = fit.accepted; last = fit.last; slots = all; held = fit.held }

slot-ring : (side : Side) (at : ℕ) (slot : SlotState) (r : OwnRing) → SlotFits slot → IsFitRing r → IsFitRing (with_slot side at slot r)
slot-ring side at slot r here fit = slots-ring r (slice_set r.slots (index_of side r.ring at) slot) fit (each-set SlotFits r.slots (index_of side r.ring at) slot fit.slots here)

-- Ports.

found-port : (s : OwnState) (id : ℕ) (p : OwnPort) → IsFit s → port_with_id s id ≡ Some p → IsFitPort p
found-port s id p fit e = each-find IsFitPort (λ (q : OwnPort). q.id.0 == id) s.ports p fit e

side-ring : (side : Side) (p : OwnPort) (r : OwnRing) → IsFitPort p → ring_on side p ≡ Some r → IsFitRing r
side-ring Tx p r fit e = subst IsFitRingIf e fit.tx
side-ring Rx p r fit e = subst IsFitRing (same_Some p.rx r e) fit.rx

found-ring : (side : Side) (s : OwnState) (id : ℕ) (r : OwnRing) → IsFit s → ring_at side s id ≡ Some r → IsFitRing r
found-ring side s id r fit e = by (port_with_id s id) refl e
  where
    by : (o : Option OwnPort) → port_with_id s id ≡ o → option_and_then (ring_on side) o ≡ Some r → IsFitRing r
    by None is e' = absurd cc
    by (Some p) is e' = side-ring side p r (found-port s id p fit is) e'

port-fit : (id : ℕ) (change : OwnPort → OwnPort) → ((p : OwnPort) → IsFitPort p → IsFitPort (change p)) → (s : OwnState) → IsFit s → IsFit (with_port id change s)
port-fit id change keeps s fit = each-map IsFitPort IsFitPort (port_if id change) (λ p here. by p (p.id.0 == id) here) s.ports fit
  where
    by : (p : OwnPort) (b : Bool) → IsFitPort p → IsFitPort (cond b (change p) p)
    by p true here = keeps p here
    by p false here = here

ring-if : (f : OwnRing → OwnRing) → ((r : OwnRing) → IsFitRing r → IsFitRing (f r)) → (o : Option OwnRing) → IsFitRingIf o → IsFitRingIf (option_map f o)
ring-if f keeps None fit = tt
ring-if f keeps (Some r) fit = keeps r fit

ring-port : (side : Side) (f : OwnRing → OwnRing) → ((r : OwnRing) → IsFitRing r → IsFitRing (f r)) → (p : OwnPort) → IsFitPort p → IsFitPort (with_ring_on side f p)
ring-port Tx f keeps p fit = record { tx = ring-if f keeps p.tx fit.tx; rx = fit.rx }
ring-port Rx f keeps p fit = record { tx = fit.tx; rx = keeps p.rx fit.rx }

ring-fit : (side : Side) (id : ℕ) (f : OwnRing → OwnRing) → ((r : OwnRing) → IsFitRing r → IsFitRing (f r)) → (s : OwnState) → IsFit s → IsFit (with_ring side id f s)
ring-fit side id f keeps s fit = port-fit id (with_ring_on side f) (ring-port side f keeps) s fit

-- Edits.

pub positions-fit : (side : Side) (id head cur : ℕ) (s : OwnState) → FitsWord head → FitsWord cur → IsFit s → IsFit (with_positions side id head cur s)
positions-fit side id head cur s one two fit = ring-fit side id (ring_at_positions head cur) (λ r here. moved-ring r head cur here one two) s fit

pub all_back-fit : (id : ℕ) (s : OwnState) → IsFit s → IsFit (with_all_back id s)
all_back-fit id s fit = ring-fit Rx id (λ (r : OwnRing). ring_at_positions r.ring.tail r.ring.tail r) (λ r here. moved-ring r r.ring.tail r.ring.tail here here.tail here.tail) s fit

user-slot-fit : (side : Side) (id at : ℕ) (slot : SlotState) (s : OwnState) → SlotFits slot → IsFit s → IsFit (with_user_slot side id at slot s)
user-slot-fit side id at slot s here fit = ring-fit side id (λ (r : OwnRing). cond (is_user_slot r.ring at) (with_slot side at slot r) r) (λ r ring. by r (is_user_slot r.ring at) ring) s fit
  where
    by : (r : OwnRing) (b : Bool) → IsFitRing r → IsFitRing (cond b (with_slot side at slot r) r)
    by r true ring = slot-ring side at slot r here ring
    by r false ring = ring

found-slot : (side : Side) (s : OwnState) (id at : ℕ) (slot : SlotState) → IsFit s → user_slot_at side s id at ≡ Some slot → SlotFits slot
found-slot side s id at slot fit e = by_ring (ring_at side s id) refl e
  where
    by_user : (r : OwnRing) (b : Bool) → IsFitRing r → cond b (Some (slot_in side r at)) None ≡ Some slot → SlotFits slot
    by_user r true ring e' = subst SlotFits (same_Some (slot_in side r at) slot e') (slot-fits side r at ring)
    by_user r false ring e' = absurd cc

    by_ring : (o : Option OwnRing) → ring_at side s id ≡ o → option_and_then (λ (r : OwnRing). user_slot side r at) o ≡ Some slot → SlotFits slot
    by_ring None is e' = absurd cc
    by_ring (Some r) is e' = by_user r (is_user_slot r.ring at) (found-ring side s id r fit is) e'

abbrev pub WriteFits : SlotWrite → Type 0
WriteFits (BufIdx idx) = FitsWord idx
WriteFits (Len len) = len < 65536
WriteFits _ = Unit {0}

written-fits : (write : SlotWrite) (slot : SlotState) → WriteFits write → SlotFits slot → SlotFits (slot_written write slot)
written-fits (BufIdx idx) slot here fit = (here, fit.1)
written-fits (Len len) slot here fit = (fit.0, here)
written-fits (Flags flags) slot here fit = fit
written-fits (Ptr ptr) slot here fit = fit

pub field-fit : (side : Side) (id at : ℕ) (write : SlotWrite) (s : OwnState) → WriteFits write → IsFit s → IsFit (with_slot_field side id at write s)
field-fit side id at write s here fit = by (user_slot_at side s id at) refl
  where
    by : (o : Option SlotState) → user_slot_at side s id at ≡ o → IsFit (with_written_slot side id at write s o)
    by None is = fit
    by (Some slot) is = user-slot-fit side id at (slot_written write slot) s (written-fits write slot here (found-slot side s id at slot fit is)) fit

pub swapped-fit : (announce : Bool) (here there : SlotPlace) (s : OwnState) → IsFit s → IsFit (with_slots_swapped announce here there s)
swapped-fit announce here there s fit = by (slot_of_place s here) (slot_of_place s there) refl refl
  where
    by : (a b : Option SlotState) → slot_of_place s here ≡ a → slot_of_place s there ≡ b → IsFit (with_two_slots announce here there s a b)
    by (Some a) (Some b) one two =
        let first = found-slot here.side s here.port here.at a fit one in
        let second = found-slot there.side s there.port there.at b fit two in
        let x = slot_naming announce b.buf_idx a in
        let y = slot_naming announce a.buf_idx b in
        user-slot-fit there.side there.port there.at y (with_user_slot here.side here.port here.at x s) (first.0, second.1)
        (user-slot-fit here.side here.port here.at x s (second.0, first.1) fit)
    by (Some a) None one two = fit
    by None b one two = fit

written-fit : (idx : ℕ) (bytes : List ℕ) (s : OwnState) → IsFit s → IsFit (with_written idx bytes s)
written-fit idx bytes s fit = by (contains_index (named_of s) idx)
  where
    by : (b : Bool) → IsFit (cond b (record s { bytes = slice_set s.bytes idx (bytes ++ drop (length bytes) (slice_index_or s.bytes idx [])) }) s)
    by true = fit
    by false = fit

abbrev IsShort : List ℕ → Type 0
IsShort part = length part ≤ 2048

part-fit : (id : ℕ) (more : Bool) (part : List ℕ) (s : OwnState) (o : Option OwnRing) → ring_at Tx s id ≡ o → IsShort part → IsFit s → IsFit (with_part_on id more part s o)
part-fit id more part s None is short fit = fit
part-fit id more part s (Some r) is short fit =
    ring-fit Tx id (ring_with_part more part) (λ q ring.
    let slot = slot-fits Tx q q.ring.head ring in
    let next = stepped-fits q.ring.size q.ring.head 1 ring.some ring.few in
    moved-ring (with_slot Tx q.ring.head (slot_with_part more part (slot_in Tx q q.ring.head)) q) (step_on q.ring.size q.ring.head 1) (step_on q.ring.size q.ring.head 1)
    (slot-ring Tx q.ring.head (slot_with_part more part (slot_in Tx q q.ring.head)) q (slot.0, omega (arith, short)) ring) next next)
    (with_written (slot_in Tx r r.ring.head).buf_idx part s) (written-fit (slot_in Tx r r.ring.head).buf_idx part s fit)

parts-short : (count : ℕ) (bytes : List ℕ) → Each IsShort (first_parts count bytes)
parts-short zero bytes = tt
parts-short (suc count) bytes = (let cut = length-take 2048 bytes in omega (arith, cut), parts-short count (drop 2048 bytes))

parts-fit : (id : ℕ) (parts : List (List ℕ)) (s : OwnState) → Each IsShort parts → IsFit s → IsFit (with_parts id parts s)
parts-fit id [] s short fit = fit
parts-fit id (part ∷ parts) s short fit =
    parts-fit id parts (with_part_on id (not (length parts == 0)) part s (ring_at Tx s id)) short.1 (part-fit id (not (length parts == 0)) part s (ring_at Tx s id) refl short.0 fit)

pub frame-fit : (id : ℕ) (bytes : List ℕ) (s : OwnState) → IsFit s → IsFit (with_frame id bytes s)
frame-fit id bytes s fit = by (has_room s id (length bytes))
  where
    by : (b : Bool) → IsFit (cond b (with_parts id (parts_of bytes) s) s)
    by true = parts-fit id (parts_of bytes) s (parts-short (slots_of_length (length bytes)) bytes) fit
    by false = fit

forwarding-ring : (side : Side) (slot : SlotState) (r : OwnRing) → SlotFits slot → IsFitRing r → IsFitRing (ring_forwarding side slot r)
forwarding-ring side slot r here fit =
    moved-ring (with_slot side r.ring.head slot r) (step_on r.ring.size r.ring.head 1) (step_on r.ring.size r.ring.cur 1) (slot-ring side r.ring.head slot r here fit)
    (stepped-fits r.ring.size r.ring.head 1 fit.some fit.few) (stepped-fits r.ring.size r.ring.cur 1 fit.some fit.few)

heads-fit : (from to : ℕ) (s : OwnState) (rx tx : Option OwnRing) → ring_at Rx s from ≡ rx → ring_at Tx s to ≡ tx → IsFit s → IsFit (with_heads_forwarded from to s rx tx)
heads-fit from to s (Some rx) (Some tx) one two fit =
    let got = slot_in Rx rx rx.ring.head in
    let free = slot_in Tx tx tx.ring.head in
    let first = slot-fits Rx rx rx.ring.head (found-ring Rx s from rx fit one) in
    let second = slot-fits Tx tx tx.ring.head (found-ring Tx s to tx fit two) in
    ring-fit Tx to (ring_forwarding Tx (sent_slot got free)) (λ r ring. forwarding-ring Tx (sent_slot got free) r (first.0, first.1) ring)
    (with_ring Rx from (ring_forwarding Rx (slot_naming true free.buf_idx got)) s)
    (ring-fit Rx from (ring_forwarding Rx (slot_naming true free.buf_idx got)) (λ r ring. forwarding-ring Rx (slot_naming true free.buf_idx got) r (second.0, first.1) ring) s fit)
heads-fit from to s (Some rx) None one two fit = fit
heads-fit from to s None tx one two fit = fit

slots-fit : (count from to : ℕ) (s : OwnState) → IsFit s → IsFit (with_slots_forwarded count from to s)
slots-fit zero from to s fit = fit
slots-fit (suc count) from to s fit =
    slots-fit count from to (with_heads_forwarded from to s (ring_at Rx s from) (ring_at Tx s to)) (heads-fit from to s (ring_at Rx s from) (ring_at Tx s to) refl refl fit)

next-fit : (others : OwnState → OwnState) → ((s : OwnState) → IsFit s → IsFit (others s)) → (whole : Bool) (from to : ℕ) (s : OwnState) (rx tx : Option OwnRing) → IsFit s → IsFit (with_next_forwarded others whole from to s rx tx)
next-fit others keeps whole from to s (Some rx) (Some tx) fit = by (can_forward whole rx tx)
  where
    by : (b : Bool) → IsFit (cond b (others (with_slots_forwarded (frame_slots rx) from to s)) s)
    by true = keeps (with_slots_forwarded (frame_slots rx) from to s) (slots-fit (frame_slots rx) from to s fit)
    by false = fit
next-fit others keeps whole from to s (Some rx) None fit = fit
next-fit others keeps whole from to s None tx fit = fit

frames-fit : (whole : Bool) (count from to : ℕ) (s : OwnState) → IsFit s → IsFit (frames_forwarded whole count from to s)
frames-fit whole zero from to s fit = fit
frames-fit whole (suc count) from to s fit =
    next-fit (frames_forwarded whole count from to) (λ t here. frames-fit whole count from to t here) whole from to s (ring_at Rx s from) (ring_at Tx s to) fit

pub forwarded-fit : (count from to : ℕ) (s : OwnState) → IsFit s → IsFit (with_forwarded count from to s)
forwarded-fit count from to s fit = frames-fit (is_whole_at s to) count from to s fit

link-fit : (id : ℕ) (p : OwnPort) (from next : ℕ) (s : OwnState) → IsFit s → IsFit (link_in id p from next s)
link-fit id p zero next s fit = port-fit id (λ (q : OwnPort). record q { extra_head = next }) (λ q here. record { tx = here.tx; rx = here.rx }) s fit
link-fit id p (suc at) next s fit = fit

pub linked-fit : (id from to : ℕ) (s : OwnState) → IsFit s → IsFit (with_extra_link id from to s)
linked-fit id from to s fit = by (port_with_id s id)
  where
    within : (p : OwnPort) (b : Bool) → IsFit (cond b (link_in id p from (extra_number p to) s) s)
    within p true = link-fit id p from (extra_number p to) s fit
    within p false = fit

    by : (o : Option OwnPort) → IsFit (with_extra_link_in id from to s o)
    by None = fit
    by (Some p) = within p _

-- What entries make.

swapped-fits : (a b idx : ℕ) → FitsWord a → FitsWord b → FitsWord idx → FitsWord (swapped a b idx)
swapped-fits a b idx one two fit = by (idx == a) (idx == b)
  where
    by : (x y : Bool) → FitsWord (cond x b (cond y a idx))
    by true y = two
    by false true = one
    by false false = fit

swapped-ring : (a b : ℕ) → FitsWord a → FitsWord b → (r : OwnRing) → IsFitRing r → IsFitRing (ring_swapped a b r)
swapped-ring a b one two r fit = record {
  some = fit.some;
  few = fit.few;
  head = fit.head;
  cur = fit.cur;
  tail = fit.tail;
  accepted = fit.accepted;
  last = fit.last;
  slots = fit.slots;
  held = each-map FitsWord FitsWord (swapped a b) (λ idx here. swapped-fits a b idx one two here) r.held fit.held;
}

swapped-port : (a b : ℕ) → FitsWord a → FitsWord b → (p : OwnPort) → IsFitPort p → IsFitPort (port_swapped a b p)
swapped-port a b one two p fit = record { tx = ring-if (ring_swapped a b) (swapped-ring a b one two) p.tx fit.tx; rx = swapped-ring a b one two p.rx fit.rx }

side-place : (side : Side) (at : ℕ) (p : OwnPort) → IsFitPort p → FitsWord (option_map_or (λ (r : OwnRing). buffer_in side r at) (ring_on side p) 0)
side-place side at p fit = by (ring_on side p) refl
  where
    by : (o : Option OwnRing) → ring_on side p ≡ o → FitsWord (option_map_or (λ (r : OwnRing). buffer_in side r at) o 0)
    by None is = omega arith
    by (Some r) is = place-fits side r at (side-ring side p r fit is)

buffer-fits : (side : Side) (id : ℕ) (ports : List OwnPort) (at : ℕ) → Each IsFitPort ports → FitsWord (buffer_on side id ports at)
buffer-fits side id [] at fit = omega arith
buffer-fits side id (p ∷ ports) at fit = by (p.id.0 == id) (buffer-fits side id ports at fit.1)
  where
    by : (b : Bool) → FitsWord (buffer_on side id ports at) → FitsWord (cond b (option_map_or (λ (r : OwnRing). buffer_in side r at) (ring_on side p) 0) (buffer_on side id ports at))
    by true rest = side-place side at p fit.0
    by false rest = rest

abbrev PushFits : Pushed → Type 0
PushFits pushed = SlotFits pushed.slot

pushed-fit : (side : Side) (r : OwnRing) (ats : List ℕ) → IsFitRing r → Each PushFits (map (pushed_at side r) ats)
pushed-fit side r [] fit = tt
pushed-fit side r (at ∷ ats) fit = (slot-fits side r at fit, pushed-fit side r ats fit)

pushes-fit : (side : Side) (id : ℕ) (s : OwnState) → IsFit s → Each PushFits (pushed_on side id s)
pushes-fit side id s fit = by (ring_at side s id) refl
  where
    by : (o : Option OwnRing) → ring_at side s id ≡ o → Each PushFits (option_map_or (pushed_in side) o [])
    by None is = tt
    by (Some r) is = pushed-fit side r (pushed_slots r.ring r.ring.head) (found-ring side s id r fit is)

exchange-fit : (side : Side) (id : ℕ) (s : OwnState) → IsFit s → IsFit (after_exchange side id s)
exchange-fit side id s fit =
    fold-keeps (Each IsFitPort) PushFits (after_slot side id)
    (λ ports pushed all here. each-map IsFitPort IsFitPort (port_swapped (buffer_on side id ports pushed.at) pushed.slot.buf_idx)
    (swapped-port (buffer_on side id ports pushed.at) pushed.slot.buf_idx (buffer-fits side id ports pushed.at all) here.0) ports all)
    s.ports (pushed_on side id s) fit (pushes-fit side id s fit)

cleared-fit : (slots : List SlotState) (at : ℕ) → Each SlotFits slots → Each SlotFits (with_push_cleared slots at)
cleared-fit slots at all =
    let here = each-at SlotFits slots at blank_slot all blank-fits in
    each-set SlotFits slots at (slot_after_push (slice_index_or slots at blank_slot)) all (here.0, here.1)

push-fit : (r : OwnRing) → IsFitRing r → Each SlotFits (slots_after_push r.ring r.slots)
push-fit r fit = fold-always (Each SlotFits) with_push_cleared cleared-fit r.slots (pushed_slots r.ring r.ring.head) fit.slots

accepted-ring : (r : OwnRing) (count : ℕ) (slots : List SlotState) (held : List ℕ) → IsFitRing r → Each SlotFits slots → Each FitsWord held
    → IsFitRing (record { ring = advanced r.ring r.ring.head r.ring.cur (step_on r.ring.size r.ring.last_tail count); slots = slots; held = held })
accepted-ring r count slots held fit one two =
    let next = stepped-fits r.ring.size r.ring.last_tail count fit.some fit.few in
    record { some = fit.some; few = fit.few; head = fit.head; cur = fit.cur; tail = next; accepted = fit.head; last = next; slots = one; held = two }

send-ring : (r : OwnRing) → IsFitRing r → IsFitRing (ring_after_send r)
send-ring r fit = accepted-ring r (pushed_count r) (slots_after_push r.ring r.slots) r.held fit (push-fit r fit) fit.held

pub send-fit : (id : ℕ) (s : OwnState) → IsFit s → IsFit (own_after_send id s)
send-fit id s fit = ring-fit Tx id ring_after_send send-ring (after_exchange Tx id s) (exchange-fit Tx id s fit)

abbrev SecondFits : ℕ × ℕ → Type 0
SecondFits pair = FitsWord pair.1

zip-fit : (ats came : List ℕ) → Each FitsWord came → Each SecondFits (zip ats came)
zip-fit [] came all = tt
zip-fit (at ∷ ats) [] all = tt
zip-fit (at ∷ ats) (b ∷ came) all = (all.0, zip-fit ats came all.1)

put-ring : (came : List ℕ) → Each FitsWord came → (r : OwnRing) → IsFitRing r → IsFitRing (ring_after_put came r)
put-ring came all r fit =
    let pairs = zip-fit (take (length came) (offered_slots r)) came all in
    accepted-ring r (length came) (fold with_slot_refilled (slots_after_push r.ring r.slots) (taken_slots came r)) (fold with_place_refilled r.held (taken_slots came r)) fit
    (fold-keeps (Each SlotFits) SecondFits with_slot_refilled (λ slots pair ok here. each-set SlotFits slots pair.0 (record (slice_index_or slots pair.0 blank_slot) { buf_idx = pair.1 }) ok (here, (each-at SlotFits slots pair.0 blank_slot ok blank-fits).1))
    (slots_after_push r.ring r.slots) (taken_slots came r) (push-fit r fit) pairs)
    (fold-keeps (Each FitsWord) SecondFits with_place_refilled (λ held pair ok here. each-set FitsWord held pair.0 pair.1 ok here) r.held (taken_slots came r) fit.held pairs)

-- what comes, in buffers whose numbers fit
pub record ComesFit (came : List Arrival) : Type 0 where
  pub buffers : Each FitsWord (buffers_of_arrivals came)
  pub lengths : Each (λ (a : Arrival). length a.bytes < 65536) came

pub put-fit : (id : ℕ) (came : List Arrival) (s : OwnState) → ComesFit came → IsFit s → IsFit (own_after_put id came s)
put-fit id came s comes fit = ring-fit Tx id (ring_after_put (buffers_of_arrivals came)) (put-ring (buffers_of_arrivals came) comes.buffers) (after_exchange Tx id s) (exchange-fit Tx id s fit)

published-fit : (came : List Arrival) → Each FitsWord (buffers_of_arrivals came) → Each (λ (a : Arrival). length a.bytes < 65536) came → Each SlotFits (map published came)
published-fit [] buffers lengths = tt
published-fit (a ∷ came) buffers lengths = ((buffers.0, lengths.0), published-fit came buffers.1 lengths.1)

receive-ring : (came : List Arrival) → ComesFit came → (r : OwnRing) → IsFitRing r → IsFitRing (ring_after_receive came r)
receive-ring came comes r fit =
    accepted-ring r (length came) (drop (pushed_count r) r.slots ++ map published came) (drop (pushed_count r) r.held ++ buffers_of_arrivals came) fit
    (each-append SlotFits (drop (pushed_count r) r.slots) (map published came) (each-drop SlotFits (pushed_count r) r.slots fit.slots) (published-fit came comes.buffers comes.lengths))
    (each-append FitsWord (drop (pushed_count r) r.held) (buffers_of_arrivals came) (each-drop FitsWord (pushed_count r) r.held fit.held) comes.buffers)

pub receive-fit : (id : ℕ) (came : List Arrival) (s : OwnState) → ComesFit came → IsFit s → IsFit (own_after_receive id came s)
receive-fit id came s comes fit = ring-fit Rx id (ring_after_receive came) (receive-ring came comes) (after_exchange Rx id s) (exchange-fit Rx id s fit)

zeroed-fits : (b : Bool) (len : ℕ) → len < 65536 → cond b 0 len < 65536
zeroed-fits true len fit = omega arith
zeroed-fits false len fit = fit

reset-ring : (side : Side) (r : OwnRing) → IsFitRing r → IsFitRing (ring_after_reset side r)
reset-ring side r fit = record {
  some = fit.some;
  few = fit.few;
  head = fit.accepted;
  cur = fit.accepted;
  tail = fit.last;
  accepted = fit.accepted;
  last = fit.last;
  slots = fold-always (Each SlotFits) (with_slot_reset side r) (λ slots at ok.
      let here = each-at SlotFits slots (index_of side r.ring at) blank_slot ok blank-fits in
      each-set SlotFits slots (index_of side r.ring at) (reset_slot side (buffer_in side r at) (slice_index_or slots (index_of side r.ring at) blank_slot)) ok
      (place-fits side r at fit, zeroed-fits (is_tx side) (slice_index_or slots (index_of side r.ring at) blank_slot).len here.1)) r.slots (user_slots r.ring) fit.slots;
  held = fit.held;
}

pub reset-fit : (id : ℕ) (side : Side) (s : OwnState) → IsFit s → IsFit (own_after_reset id side s)
reset-fit id side s fit = ring-fit side id (ring_after_reset side) (reset-ring side) s fit

opened-slots : (buffers : List ℕ) → Each FitsWord buffers → Each SlotFits (map opened_slot buffers)
opened-slots [] all = tt
opened-slots (b ∷ buffers) all = ((all.0, omega arith), opened-slots buffers all.1)

opened-tx : (size : ℕ) (buffers : List ℕ) → (size ≡ 0) ⊎ IsRingSize size → Each FitsWord buffers → IsFitRingIf (opened_tx_ring size buffers)
opened-tx size buffers sized all = by (size == 0) refl
  where
    some-size : (size ≡ 0) ⊎ IsRingSize size → (size == 0) ≡ false → IsRingSize size
    some-size (inl none) e = let zero-is : (size == 0) ≡ true = eq-eqb size 0 none in let clash : true ≡ false = sym zero-is ∙ e in absurd cc
    some-size (inr is) e = is

    ring : IsRingSize size → IsFitRing (record { ring = opened_tx size; slots = map opened_slot buffers; held = buffers })
    ring is =
        let more = is.0 in
        let few = is.1 in
        record { some = omega (arith, more); few = few; head = omega arith; cur = omega arith; tail = omega (arith, few); accepted = omega arith; last = omega (arith, few); slots = opened-slots buffers all; held = all }

    by : (b : Bool) → (size == 0) ≡ b → IsFitRingIf (cond b None (Some (record { ring = opened_tx size; slots = map opened_slot buffers; held = buffers })))
    by true e = tt
    by false e = ring (some-size sized e)

pub open-fit : (number : ℕ) (name : List ℕ) (tx rx : ℕ) (came : List Arrival) (s : OwnState) → Sized tx rx → ComesFit came → IsFit s → IsFit (own_after_open number name tx rx came s)
open-fit number name tx rx came s sized comes fit =
    each-append IsFitPort s.ports (opened_port number name tx rx (buffers_of_arrivals came) ∷ []) fit (
      record {
        tx = opened-tx tx (take tx (buffers_of_arrivals came)) sized.tx_size (each-take FitsWord tx (buffers_of_arrivals came) comes.buffers);
        rx = (let more = sized.rx_size.0 in record { some = omega (arith, more); few = sized.rx_size.1; head = omega arith; cur = omega arith; tail = omega arith; accepted = omega arith; last = omega arith; slots = tt; held = tt });
      },
      tt,
    )

pub finish-fit : (id : ℕ) (gone : List ℕ) (s : OwnState) → IsFit s → IsFit (own_after_finish id gone s)
finish-fit id gone s fit = each-filter IsFitPort (λ (p : OwnPort). not (p.id.0 == id)) s.ports fit
