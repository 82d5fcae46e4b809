-- What a sync and a get tell of what they give.
use Rattle.std.proofs.Common.{ℕ, Bool, true, false, ◌≡◌, ◌<◌, ◌+◌, List, length, Some, option_map, Result, Ok, Err, IfOk, sym, ◌∙◌, ap, arith}
use Rattle.std.proofs.lemmas.List.{length-map}
use Rattle.nm_types.specs.Frames.{Frame}
use Rattle.nm_types.specs.Limits.{most_ring}
use Rattle.nm_types.specs.declared.id.PortId.{PortId}
use Rattle.vale_line.specs.declared.got.Got.{Got}
use Rattle.vale_line.specs.Gots.{frames_in, IsCut}
use Rattle.vale_line.proofs.CutLemmas.{cut-from}
use Rattle.vale_entry.specs.declared.entry.Entry.{Entry}
use Rattle.vale_entry.specs.declared.entry.Reply.{Reply}
use Rattle.vale_entry.specs.declared.entry.Reply.TheVariants.{Gave}
use Rattle.vale_entry.specs.Delivery.{delivered_frames}
use Rattle.vale_entry.specs.Legal.{Standing, Outcome, step, reply_of, reply_to}
use Rattle.vale_port.specs.Kept.{bytes_of}
use Rattle.vale_port.specs.Lists.{OfSeat}
use Rattle.vale_port.specs.Ports.{Gives}
use Rattle.vale_port.specs.Seat.{Seat, seats_of}
use Rattle.vale_port.proofs.Lists.{seats-at}
use Rattle.vale_port.proofs.SeatTies.{size-held}
use Rattle.vale_parts.specs.Batches.{dests_wanted}
use Rattle.vale_book.specs.declared.book.Book.TheInside.{Inside}
use Rattle.vale_steps.specs.declared.reading.Reading.{Reading}
use Rattle.vale_steps.specs.declared.reading.Synced.{Synced}
use Rattle.vale_book.specs.BookView.{IsBook}
use Rattle.vale_steps.specs.Monitored.{offers_to}
use Rattle.vale_steps.specs.Offering.{OffersState}
use Rattle.vale_steps.specs.Reading.{read_ask, wants_read}
use Rattle.vale_book.proofs.Moves.{before}
use Rattle.vale_book.proofs.ReadMoves.{IsReading, read_made, entry-is}
use Rattle.vale_book.proofs.RingSizes.{delivered-few}

-- ---- what the port's seat gives

abbrev GivesAt : Inside → Reading → List Got → Type 0
GivesAt b r gots = OfSeat (λ (seat : Seat). Gives seat gots) b.ports.items r.place

-- so many whole frames, in few buffers
record AreGiven (r : Reading) (gots : List Got) : Type 0 where
  frames : length (frames_in gots) ≡ r.frames
  cut : IsCut gots
  few : length gots < most_ring

given : (b : Inside) (r : Reading) (sizes back : List ℕ) (gots : List Got) → IsBook b → IsReading b r sizes back → GivesAt b r gots → AreGiven r gots
given b r sizes back gots k is gives =
    let s = before b in
    let port = is.at.port in
    let here = is.at.here.at in
    let g = gives (seats_of s.world.ports s.holdings.ports) (record { port = port; held = here.held }) k.stands.ports_are
    (seats-at s.world.ports s.holdings.ports r.place port here.held here.here here.held_here) in
    let few = delivered-few b.pool.buffers b.history.entries r.place port k.stands.legal here.here in
    let size = size-held (delivered_frames port) gots g.parts in
    record {
      frames = ap (λ (bs : List (List ℕ)). length bs) g.bytes ∙ (length-map (delivered_frames port) (λ (f : Frame). f.bytes) ∙ sym is.frames);
      cut = cut-from (bytes_of (delivered_frames port)) gots g.parts;
      few = omega (arith, few, size);
    }

-- ---- the reply

reply-read : (pipe : Bool) (s : Standing) (at : PortId) (back : List ℕ) (made : Outcome) → step s (read_ask pipe at back) ≡ Some made → reply_to s (read_ask pipe at back) ≡ Some made.reply
reply-read true s at back made is = ap (option_map reply_of) is
reply-read false s at back made is = ap (option_map reply_of) is

abbrev Said : Inside → Reading → List ℕ → Synced → Type 0
Said b r back x = reply_to (before b) (read_ask r.is_pipe r.at back) ≡ Some (Gave (length (frames_in x.got.items)) (dests_wanted x.offers.wants))

pub said-on : {E : Type 0} (made : Result Synced E) (b : Inside) (r : Reading) (sizes back : List ℕ) → IsBook b → IsReading b r sizes back
    → IfOk made (λ (x : Synced). GivesAt b r x.got.items)
    → IfOk made (λ (x : Synced). x.offers ≡ offers_to (length b.history.entries + 1) r.session (wants_read r sizes))
    → IfOk made (Said b r back)
said-on (Err e) b r sizes back k is gives offers = tt
said-on (Ok x) b r sizes back k is gives offers =
    let made = read_made b r sizes back is in
    let count = (given b r sizes back x.got.items k is gives).frames in
    let reply : made.reply ≡ Gave r.frames (dests_wanted (wants_read r sizes)) = ap (λ (e : Entry). e.reply) (entry-is b r sizes back k is) in
    let gave : Gave r.frames (dests_wanted (wants_read r sizes)) ≡ Gave (length (frames_in x.got.items)) (dests_wanted x.offers.wants) =
    ap (λ (n : ℕ). Gave n (dests_wanted (wants_read r sizes))) (sym count) ∙ ap (λ (o : OffersState). Gave (length (frames_in x.got.items)) (dests_wanted o.wants)) (sym offers) in
    reply-read r.is_pipe (before b) r.at back made is.at.step_is ∙ ap (λ (reply : Reply). Some reply) (reply ∙ gave)

-- ---- cut, and few

pub cut-on : {E : Type 0} (made : Result Synced E) (b : Inside) (r : Reading) (sizes back : List ℕ) → IsBook b → IsReading b r sizes back
    → IfOk made (λ (x : Synced). GivesAt b r x.got.items) → IfOk made (λ (x : Synced). IsCut x.got.items)
cut-on (Err e) b r sizes back k is gives = tt
cut-on (Ok x) b r sizes back k is gives = (given b r sizes back x.got.items k is gives).cut

pub few-on : {E : Type 0} (made : Result Synced E) (b : Inside) (r : Reading) (sizes back : List ℕ) → IsBook b → IsReading b r sizes back
    → IfOk made (λ (x : Synced). GivesAt b r x.got.items) → IfOk made (λ (x : Synced). length x.got.items < most_ring)
few-on (Err e) b r sizes back k is gives = tt
few-on (Ok x) b r sizes back k is gives = (given b r sizes back x.got.items k is gives).few
