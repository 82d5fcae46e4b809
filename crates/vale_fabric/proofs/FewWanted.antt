-- The frames that ports want of one entry are fewer than 2^32, though each is counted once for each port.
use Rattle.std.proofs.Common.{ℕ, ◌+◌, ◌*◌, ◌≤◌, ◌≡◌, true, List, [], ◌∷◌, drop, length, sum_by, Option, Some, None, refl, sym, ◌∙◌, ap, subst, arith, slice_get}
use Rattle.std.specs.List.{AllByRecursion as Each, cons_option}
use Rattle.std.specs.Option.{option_map_or}
use Rattle.std.proofs.lemmas.List.{length-map}
use Rattle.std.proofs.lemmas.List.Sums.{sum_by-cons}
use Rattle.nm_types.specs.Limits.{most_batch, most_pool, most_ring}
use Rattle.nm_types.specs.Frames.{Frame}
use Rattle.nm_types.specs.declared.id.PortId.{PortId}
use Rattle.vale_batch.specs.Wants.{Wanted}
use Rattle.vale_entry.specs.declared.entry.Ask.{Ask}
use Rattle.vale_entry.specs.declared.entry.Item.{Item}
use Rattle.vale_entry.specs.declared.entry.Reply.{Reply}
use Rattle.vale_entry.specs.declared.entry.Reply.TheVariants.{Shared}
use Rattle.vale_entry.specs.declared.entry.Entry.{Entry}
use Rattle.vale_entry.specs.World.{World, Port, Offer, open_port, is_open_at, buffers_of, space_of, transmit_monitor, receive_monitor}
use Rattle.vale_entry.specs.Offers.{offers_of, offer_to, wanted_frames, monitored_frames}
use Rattle.vale_entry.specs.Grant.{grant_reply_at}
use Rattle.vale_entry.specs.Delivery.{delivered_frames}
use Rattle.vale_entry.specs.Pipe.{frame_of_item, frames_of_items, peer_of}
use Rattle.vale_entry.specs.Legal.{Standing, standing_of, world_of, can_send, named_of, offers_of_send, offers_of_sync, offers_of_put, IsLegal, Follows}
use Rattle.vale_entry.proofs.Each.{each-find}
use Rattle.vale_entry.proofs.Follows.{EachKind, Left, IsQuiet, refused_open, resets, finds_no_peer, finds_no_target, finds_watched, counts, Receives, by_sync, by_get, CanKeep, follows-by}
use Rattle.vale_entry.proofs.HistoryLaws.{history-stands}
use Rattle.vale_entry.proofs.Numbered.{Numbered}
use Rattle.vale_entry.proofs.Roomy.{HasRoom, Roomy}
use Rattle.vale_entry.proofs.Shares.{fitting-few}
use Rattle.vale_entry.proofs.Within.{wanted-few, monitored-few, length-named, delivered-few, sent-few, kept-few}
use Rattle.vale_book.proofs.RingSizes.{HasRing, Rings, rings-small}
use Rattle.vale_parts.specs.Batches.{IsOfferOf, AreOffersOf}
use Rattle.vale_parts.specs.Offering.{offers_started}
use Rattle.vale_fabric.specs.Settling.{frames_wanted, given_in, full_in, gone_in}

abbrev pub offered : Offer → ℕ
offered offer = length offer.frames

-- ---- what an entry offers

-- to each port at most as many frames as a send has
few-each : (origin session : ℕ) (wanted : Port → List Frame) → ((p : Port) → length (wanted p) ≤ most_batch) → (ports : List Port) → sum_by offered (offers_of origin session wanted ports) ≤ length ports * most_batch
few-each origin session wanted few [] = omega arith
few-each origin session wanted few (p ∷ ps) = by (wanted p) (few p) (few-each origin session wanted few ps)
  where
    by : (frames : List Frame) → length frames ≤ most_batch → sum_by offered (offers_of origin session wanted ps) ≤ length ps * most_batch
        → sum_by offered (cons_option (offer_to origin session p.id frames) (offers_of origin session wanted ps)) ≤ length (p ∷ ps) * most_batch
    by [] few rest = omega (arith, rest)
    by (f ∷ fs) few rest =
        let sum = sum_by-cons offered (record { origin = origin; session = session; to = p.id; frames = f ∷ fs }) (offers_of origin session wanted ps) in
        omega (arith, few, rest, sum)

-- each port has a buffer
ports-few : (ports : List Port) → Each HasRoom ports → length ports ≤ sum_by buffers_of ports
ports-few [] all = omega arith
ports-few (p ∷ ps) all =
    let rest = ports-few ps all.1 in
    let fits = all.0.fits in
    let sum = sum_by-cons buffers_of p ps in
    omega (arith, rest, fits, sum)

abbrev FewStarted : Standing → Entry → Standing → Type 0
FewStarted s e left = sum_by offered (offers_started s.world e.ask e.reply) ≤ most_pool * most_batch

module _ (s : Standing) (n : Numbered s) (room : Roomy s) (low : s.world.pool ≤ most_pool) (rings : Rings s) where
  abbrev w : World
  w = s.world

  few-made : (session : ℕ) (wanted : Port → List Frame) → ((p : Port) → length (wanted p) ≤ most_batch) → sum_by offered (offers_of (w.entry_count + 1) session wanted w.ports) ≤ most_pool * most_batch
  few-made session wanted few =
      let each = few-each (w.entry_count + 1) session wanted few w.ports in
      let ports = ports-few w.ports room.roomy in
      let within = room.within in
      omega (arith, each, ports, within, low)

  nothing : 0 ≤ most_pool * most_batch
  nothing = omega arith

  quiet : (ask : Ask) (session : ℕ) (reply : Reply) → IsQuiet s ask session reply → sum_by offered (offers_started w ask reply) ≤ most_pool * most_batch
  quiet _ _ _ (refused_open session name tx rx extra fault can e) = nothing
  quiet _ _ _ (resets at side fault port e can) = nothing
  quiet _ _ _ (finds_no_peer at count port e few gone) = nothing
  quiet _ _ _ (finds_no_target at target sides port e can none) = nothing
  quiet _ _ _ (finds_watched at target sides port found watch e can there some) = nothing
  quiet _ _ _ (counts at port e) = nothing

  at-port : (make : Port → List Offer) (found : Option Port) (port : Port) → found ≡ Some port → sum_by offered (make port) ≤ most_pool * most_batch → sum_by offered (option_map_or make found []) ≤ most_pool * most_batch
  at-port make found port e few = subst (λ (x : Option Port). sum_by offered (option_map_or make x []) ≤ most_pool * most_batch) (sym e) few

  send : (frames : List Frame) (port : Port) → can_send w frames port ≡ true → sum_by offered (offers_of_send w port frames) ≤ most_pool * most_batch
  send frames port can =
      let most = sent-few w frames port can in
      let named = length-named w.ports port w.pairs frames in
      few-made port.session (wanted_frames port (transmit_monitor w port.id) (named_of w port frames)) (λ p.
      let few = wanted-few port (transmit_monitor w port.id) (named_of w port frames) p in
      omega (arith, few, named, most))

  sync : (at : PortId) (port : Port) → open_port w.ports at.0 ≡ Some port → sum_by offered (offers_of_sync w port) ≤ most_pool * most_batch
  sync at port e =
      let fits = (each-find HasRoom (is_open_at at.0) w.ports port room.roomy e).fits in
      let ring : port.rx ≤ most_ring = each-find HasRing (is_open_at at.0) w.ports port rings e in
      let given = delivered-few port in
      few-made port.session (monitored_frames (receive_monitor w port.id) (delivered_frames port)) (λ p.
      let few = monitored-few (receive_monitor w port.id) (delivered_frames port) p in
      omega (arith, few, given, fits, ring))

  read : (ask : Ask) (at : PortId) (back : List ℕ) (reply : Reply) (port : Port) → Receives ask at back → open_port w.ports at.0 ≡ Some port → sum_by offered (offers_started w ask reply) ≤ most_pool * most_batch
  read _ _ _ reply port (by_sync at back) e = at-port (offers_of_sync w) (open_port w.ports at.0) port e (sync at port e)
  read _ _ _ reply port (by_get at back) e = at-port (offers_of_sync w) (open_port w.ports at.0) port e (sync at port e)

  put : (count : ℕ) (items : List Item) (port peer : Port) → CanKeep s count items port → peer_of w.ports port ≡ Some peer → sum_by offered (offers_of_put w port (frames_of_items items)) ≤ most_pool * most_batch
  put count items port peer can found =
      let most = kept-few s count items port peer can found in
      let frames = length-map items frame_of_item in
      few-made port.session (monitored_frames (transmit_monitor w port.id) (frames_of_items items)) (λ p.
      let few = monitored-few (transmit_monitor w port.id) (frames_of_items items) p in
      omega (arith, few, frames, most))

  kinds : EachKind s (Left s (FewStarted s))
  kinds = record {
    enters = λ user fits. nothing;
    quiet = quiet;
    opens = λ session name tx rx extra can refusal. nothing;
    sends = λ from frames port e can settled. at-port (λ (p : Port). offers_of_send w p frames) (open_port w.ports from.0) port e (send frames port can);
    grants = λ origin to offer first same. nothing;
    completes = λ lease lot e. nothing;
    receives = λ ask at back port receives e can. read ask at back _ port receives e;
    puts = λ at count items port peer e can found. at-port (λ (p : Port). offers_of_put w p (frames_of_items items)) (open_port w.ports at.0) port e (put count items port peer can found);
    watches = λ at target sides port found e can there none. nothing;
    shuts = λ at port e settled. nothing;
    finishes = λ at bufs chain port fits e can out. nothing;
    leaves = λ session can. nothing;
  }

pub few-started : (pool : ℕ) (h : List Entry) (e : Entry) → pool ≤ most_pool → IsLegal pool h → Follows (standing_of pool h) e → sum_by offered (offers_started (world_of pool h) e.ask e.reply) ≤ most_pool * most_batch
few-started pool h e low legal follows =
    let s = standing_of pool h in
    let stands = history-stands pool h legal in
    let is = stands.pool_is in
    follows-by s (FewStarted s) e follows (kinds s stands.numbered stands.roomy (omega (arith, is, low)) (rings-small pool h legal))

-- ---- as it is wanted

as-many : (frames : List Frame) (want : Wanted) (offer : Offer) → IsOfferOf frames want offer → length want.places ≡ length offer.frames
as-many frames want offer is =
    sym (length-map want.places (slice_get frames)) ∙ (ap length is.places ∙ length-map offer.frames (λ (f : Frame). let some : Option Frame = Some f in some))

abbrev places_in : Wanted → ℕ
places_in want = length want.places

pub wanted-sum : (frames : List Frame) (wants : List Wanted) (offers : List Offer) → AreOffersOf frames wants offers → frames_wanted wants ≡ sum_by offered offers
wanted-sum frames [] [] are = refl
wanted-sum frames [] (o ∷ os) are = absurd are
wanted-sum frames (w ∷ ws) [] are = absurd are
wanted-sum frames (w ∷ ws) (o ∷ os) are =
    let rest = wanted-sum frames ws os are.1 in
    let here = as-many frames w o are.0 in
    let one = sum_by-cons places_in w ws in
    let two = sum_by-cons offered o os in
    omega (arith, rest, here, one, two)

-- the first offer's frames, and those of the others
pub wanted-first : (frames : List Frame) (wants : List Wanted) (offer : Offer) (offers rest : List Offer) → offers ≡ offer ∷ rest → AreOffersOf frames wants offers
    → length offer.frames + frames_wanted (drop 1 wants) ≡ frames_wanted wants
wanted-first frames wants offer offers rest e are = by wants (subst (AreOffersOf frames wants) e are)
  where
    by : (ws : List Wanted) → AreOffersOf frames ws (offer ∷ rest) → length offer.frames + frames_wanted (drop 1 ws) ≡ frames_wanted ws
    by [] all = absurd all
    by (w ∷ ws) all =
        let here = as-many frames w offer all.0 in
        let sum = sum_by-cons places_in w ws in
        omega (arith, here, sum)

-- a grant shares all of an offer's frames out
pub all-shared : (found : Option Port) (frames : List Frame) (given full gone : ℕ) → grant_reply_at found frames ≡ Shared given full gone → given + full + gone ≡ length frames
all-shared None frames given full gone e =
    let a = ap given_in e in
    let b = ap full_in e in
    let c = ap gone_in e in
    omega (arith, a, b, c)
all-shared (Some port) frames given full gone e =
    let a = ap given_in e in
    let b = ap full_in e in
    let c = ap gone_in e in
    let few = fitting-few (space_of port) frames in
    omega (arith, a, b, c, few)
