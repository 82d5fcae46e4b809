-- After every legal history no frame in a line, and none that is offered, is longer than frames are.
use Rattle.std.proofs.Common.{ℕ, ◌+◌, ◌-◌, ◌≡◌, Bool, true, false, cond, not, ◌&&◌, ◌==◌, nat_le, List, [], ◌∷◌, ◌++◌, map, filter, length, Option, Some, None, refl, arith}
use Rattle.std.specs.Prelude.{flat_map}
use Rattle.std.specs.List.{AllByRecursion as Each, list_all, prefix_len}
use Rattle.std.proofs.lemmas.Bool.{and_parts, leb-true, le-leb}
use Rattle.nm_types.specs.Limits.{most_batch, most_frame_bytes}
use Rattle.nm_types.specs.Frames.{Frame, slots_of, size_of_frames}
use Rattle.nm_types.specs.Names.{is_switch_port_name}
use Rattle.nm_types.specs.Sendable.{AreFrames, is_frame, fits_buffer, is_sendable, fit_slots}
use Rattle.nm_types.proofs.Tests.{both_true}
use Rattle.vale_entry.specs.declared.entry.Entry.{Entry}
use Rattle.vale_entry.specs.declared.entry.Item.{Item}
use Rattle.vale_entry.specs.World.{World, Port, Pair, Lot, Offer, transmit_monitor, receive_monitor, open_port, space_of, changed_at, is_settled}
use Rattle.vale_entry.specs.Opening.{opened_port}
use Rattle.vale_entry.specs.Learning.{learned}
use Rattle.vale_entry.specs.Lookup.{Named, named_frames}
use Rattle.vale_entry.specs.Offers.{is_monitor, is_wanted_at, frame_of, wanted_frames, wanted_if, monitored_frames, offers_of}
use Rattle.vale_entry.specs.Grant.{longest_fitting, given_at, granted_frames, with_lot, port_after_grant, first_offer}
use Rattle.vale_entry.specs.Delivery.{is_done_lot, ready_lots, frames_of_lot, delivered_frames, done_if, lot_after_done, port_after_done, port_after_sync}
use Rattle.vale_entry.specs.Closing.{shut}
use Rattle.vale_entry.specs.Pipe.{frames_of_items, is_pipe_item, port_after_put}
use Rattle.vale_entry.specs.Legal.{Standing, Outcome, after, named_of, can_send, offers_of_send, offers_of_sync, offers_of_put, send_step, grant_step, done_step, sync_step, put_step}
use Rattle.vale_entry.specs.Laws.{LotHasFrames, OfferHasFrames, HaveFrames, LinesHaveFrames}
use Rattle.vale_entry.proofs.Each.{each-append, each-map, each-all, each-drop, each-find, each-changed_at, each-offered, each-without_first, each-take}
use Rattle.vale_entry.proofs.Removals.{each-filter}
use Rattle.vale_entry.proofs.Steps.{legal-by}
use Rattle.vale_entry.proofs.Follows.{EachKind, CanKeep, after-by}

-- Lists of frames.

abbrev IsWhole : Frame → Type 0
IsWhole frame = is_frame frame ≡ true

from-each : (frames : List Frame) → Each IsWhole frames → AreFrames frames
from-each [] all = refl
from-each (frame ∷ frames) all = both_true (is_frame frame) (list_all is_frame frames) all.0 (from-each frames all.1)

pub to-each : (frames : List Frame) → AreFrames frames → Each IsWhole frames
to-each [] all = tt
to-each (frame ∷ frames) all =
    let parts = and_parts (is_frame frame) (list_all is_frame frames) all in
    (parts.0, to-each frames parts.1)

pub frames-append : (xs ys : List Frame) → AreFrames xs → AreFrames ys → AreFrames (xs ++ ys)
frames-append [] ys a b = b
frames-append (x ∷ xs) ys a b =
    let parts = and_parts (is_frame x) (list_all is_frame xs) a in
    both_true (is_frame x) (list_all is_frame (xs ++ ys)) parts.0 (frames-append xs ys parts.1 b)

-- a prefix that fits
fitting-frames : (room : ℕ) (frames : List Frame) → AreFrames frames → AreFrames (longest_fitting room frames)
fitting-frames room [] all = refl
fitting-frames room (frame ∷ frames) all =
    let parts = and_parts (is_frame frame) (list_all is_frame frames) all in
    by_test (nat_le (slots_of frame) room) parts.0 (fitting-frames (room - slots_of frame) frames parts.1)
  where
    by_test :
        (b : Bool) → IsWhole frame → AreFrames (longest_fitting (room - slots_of frame) frames)
        → AreFrames (cond b (frame ∷ longest_fitting (room - slots_of frame) frames) [])
    by_test true here rest = both_true (is_frame frame) (list_all is_frame (longest_fitting (room - slots_of frame) frames)) here rest
    by_test false here rest = refl

given-frames : (found : Option Port) (frames : List Frame) → AreFrames frames → AreFrames (given_at found frames)
given-frames None frames all = refl
given-frames (Some port) frames all = fitting-frames (space_of port) frames all

-- the frames that a batch is named for, and those that a port wants of it
abbrev NamesWhole : Named → Type 0
NamesWhole named = IsWhole (frame_of named)

named-whole :
    (ports : List Port) (sender : Port) (pairs : List Pair) (frames : List Frame)
    → Each IsWhole frames → Each NamesWhole (named_frames ports sender pairs frames)
named-whole ports sender pairs [] all = tt
named-whole ports sender pairs (frame ∷ frames) all =
    (all.0, named-whole ports sender (learned sender pairs frame) frames all.1)

named-frames : (named : List Named) → Each NamesWhole named → AreFrames (map frame_of named)
named-frames [] all = refl
named-frames (n ∷ ns) all = both_true (is_frame (frame_of n)) (list_all is_frame (map frame_of ns)) all.0 (named-frames ns all.1)

wanted-whole :
    (sender : Port) (monitor : Option ℕ) (named : List Named) (port : Port)
    → Each NamesWhole named → AreFrames (wanted_frames sender monitor named port)
wanted-whole sender monitor named port all =
    named-frames (filter (is_wanted_at sender monitor port) named)
    (each-filter NamesWhole (is_wanted_at sender monitor port) named all)

monitored-whole :
    (monitor : Option ℕ) (frames : List Frame) (port : Port) → AreFrames frames
    → AreFrames (monitored_frames monitor frames port)
monitored-whole monitor frames port all = by_test (is_monitor monitor port)
  where
    by_test : (b : Bool) → AreFrames (wanted_if b frames)
    by_test true = all
    by_test false = refl

offers-whole :
    (origin session : ℕ) (wanted : Port → List Frame) (ports : List Port)
    → ((p : Port) → AreFrames (wanted p))
    → Each OfferHasFrames (offers_of origin session wanted ports)
offers-whole origin session wanted ports whole =
    each-offered OfferHasFrames origin session wanted ports (each-all _ whole ports)

-- Lines.

abbrev LineHasFrames : Port → Type 0
LineHasFrames port = Each LotHasFrames port.line

with-lot :
    (number session : ℕ) (done : Bool) (frames : List Frame) (line : List Lot) → AreFrames frames
    → Each LotHasFrames line → Each LotHasFrames (with_lot number session done frames line)
with-lot number session done [] line whole all = all
with-lot number session done (frame ∷ frames) line whole all = each-append LotHasFrames line _ all (whole, tt)

done-if : (b : Bool) (lot : Lot) → LotHasFrames lot → LotHasFrames (done_if b lot)
done-if true lot here = here
done-if false lot here = here

lots-frames : (lots : List Lot) → Each LotHasFrames lots → AreFrames (flat_map frames_of_lot lots)
lots-frames [] all = refl
lots-frames (lot ∷ lots) all = frames-append lot.frames (flat_map frames_of_lot lots) all.0 (lots-frames lots all.1)

-- what a port delivers
pub delivered-whole : (port : Port) → Each LotHasFrames port.line → AreFrames (delivered_frames port)
delivered-whole port all =
    lots-frames (ready_lots port) (each-take LotHasFrames (prefix_len is_done_lot port.line) port.line all)

items-whole : (items : List Item) → list_all is_pipe_item items ≡ true → AreFrames (frames_of_items items)
items-whole [] sound = refl
items-whole (item ∷ items) sound =
    let parts = and_parts (is_pipe_item item) (list_all is_pipe_item items) sound in
    let fits = (and_parts (fits_buffer item.bytes) (not item.bytes.no_learn) parts.0).0 in
    let few = leb-true (length item.bytes.bytes) 2048 fits in
    both_true (is_frame item.bytes) (list_all is_frame (frames_of_items items))
    (le-leb (length item.bytes.bytes) most_frame_bytes (omega (arith, few))) (items-whole items parts.1)

sent-whole : (w : World) (frames : List Frame) (port : Port) → can_send w frames port ≡ true → AreFrames frames
sent-whole w frames port can =
    let named = and_parts (is_switch_port_name port.name) (is_settled w port.session && is_sendable frames) can in
    let settled = and_parts (is_settled w port.session) (is_sendable frames) named.1 in
    let few = and_parts (nat_le (length frames) most_batch) (fit_slots most_batch frames) settled.1 in
    (and_parts (nat_le (size_of_frames frames) most_batch) (list_all is_frame frames) few.1).1

-- Each kind of entry.

abbrev pub Whole : Standing → Type 0
Whole s = HaveFrames s.world.ports s.world.offers

abbrev WholeNext : Outcome → Type 0
WholeNext made = Whole made.next

module _ (s : Standing) (k : Whole s) where
  abbrev w : World
  w = s.world

  changed :
      (id : ℕ) (change : Port → Port) → ((p : Port) → LineHasFrames p → LineHasFrames (change p))
      → Each LineHasFrames (changed_at id change w.ports)
  changed id change keeps =
      each-changed_at LineHasFrames LineHasFrames id change (λ p all. all) keeps w.ports k.lines

  whole_send :
      (frames : List Frame) (port : Port) → can_send w frames port ≡ true
      → WholeNext (send_step s frames port)
  whole_send frames port can =
      let all = sent-whole w frames port can in
      let named = named-whole w.ports port w.pairs frames (to-each frames all) in
      record {
        lines = k.lines;
        offered = each-append OfferHasFrames w.offers (offers_of_send w port frames) k.offered
            (offers-whole (w.entry_count + 1) port.session
            (wanted_frames port (transmit_monitor w port.id) (named_of w port frames)) w.ports
            (λ p. wanted-whole port (transmit_monitor w port.id) (named_of w port frames) p named));
      }

  whole_grant :
      (origin : ℕ) (offer : Offer) → first_offer w origin ≡ Some offer
      → WholeNext (grant_step s offer)
  whole_grant origin offer first =
      let mine : OfferHasFrames offer = each-find OfferHasFrames _ w.offers offer k.offered first in
      let given = given-frames (open_port w.ports offer.to) offer.frames mine in
      record {
        lines = changed offer.to
            (port_after_grant (w.entry_count + 1) offer.session (granted_frames w offer))
            (λ p all. with-lot (w.entry_count + 1) offer.session false (granted_frames w offer) p.line given all);
        offered = each-without_first OfferHasFrames offer.origin w.offers k.offered;
      }

  whole_done : (number : ℕ) (lot : Lot) → WholeNext (done_step s number lot)
  whole_done number lot = record {
    lines =
        each-map LineHasFrames LineHasFrames (port_after_done number)
        (λ p all. each-map LotHasFrames LotHasFrames (lot_after_done number)
        (λ l here. done-if (l.number == number) l here) p.line all) w.ports k.lines;
    offered = k.offered;
  }

  whole_sync :
      (id : ℕ) (back : List ℕ) (port : Port) → open_port w.ports id ≡ Some port
      → WholeNext (sync_step s back port)
  whole_sync id back port found =
      let mine : LineHasFrames port = each-find LineHasFrames _ w.ports port k.lines found in
      record {
        lines = changed port.id (port_after_sync (length back))
            (λ p all. each-drop LotHasFrames (length (ready_lots p)) p.line all);
        offered = each-append OfferHasFrames w.offers (offers_of_sync w port) k.offered
            (offers-whole (w.entry_count + 1) port.session
            (monitored_frames (receive_monitor w port.id) (delivered_frames port)) w.ports
            (λ p. monitored-whole (receive_monitor w port.id) (delivered_frames port) p (delivered-whole port mine)));
      }

  whole_put :
      (offered : ℕ) (items : List Item) (port peer : Port) → CanKeep s offered items port
      → WholeNext (put_step s items port peer)
  whole_put offered items port peer can =
      let all = items-whole items can.sound in
      record {
        lines = changed peer.id
            (port_after_put (w.entry_count + 1) port.session (frames_of_items items))
            (λ p lots. with-lot (w.entry_count + 1) port.session true (frames_of_items items) p.line all lots);
        offered = each-append OfferHasFrames w.offers (offers_of_put w port (frames_of_items items)) k.offered
            (offers-whole (w.entry_count + 1) port.session
            (monitored_frames (transmit_monitor w port.id) (frames_of_items items)) w.ports
            (λ p. monitored-whole (transmit_monitor w port.id) (frames_of_items items) p all));
      }

  whole_kinds : EachKind s (λ ask made. WholeNext made)
  whole_kinds = record {
    enters = λ user fits. k;
    quiet = λ ask session reply quiet. k;
    opens = λ session name tx rx extra can refusal. record {
      lines = each-append LineHasFrames w.ports
          (opened_port (w.entry_count + 1) session.0 name tx rx extra ∷ []) k.lines (tt, tt);
      offered = k.offered;
    };
    sends = λ from frames port e can settled. whole_send frames port can;
    grants = λ origin to offer first same. whole_grant origin offer first;
    completes = λ lease lot e. whole_done lease.0 lot;
    receives = λ ask at back port receives e can. whole_sync at.0 back port e;
    puts = λ at offered items port peer e can found. whole_put offered items port peer can;
    watches = λ at target sides port found e can there none. record { lines = k.lines; offered = k.offered };
    shuts = λ at port e settled. record { lines = changed port.id shut (λ p all. all); offered = k.offered };
    finishes = λ at bufs chain port fits e can out. record {
      lines = each-filter LineHasFrames (λ (p : Port). not (p.id == port.id)) w.ports k.lines;
      offered = k.offered;
    };
    leaves = λ session can. record { lines = k.lines; offered = k.offered };
  }

pub whole_entry : (s : Standing) (e : Entry) → Whole s → Whole (after s e)
whole_entry s e k = after-by s Whole e k (whole_kinds s k)

pub lines-have_frames : LinesHaveFrames
lines-have_frames pool h legal =
    legal-by Whole (λ s e k follows. whole_entry s e k) pool h legal (record { lines = tt; offered = tt })
