-- What a book tells of a port is what stands of it in the world.
use Rattle.std.proofs.Common.{ℕ, Bool, true, ◌≡◌, List, length, Option, Some, None, is_some, Result, Ok, Err, IfOk, refl, sym, ◌∙◌, ap, subst}
use Rattle.std.specs.Prelude.{Vec}
use Rattle.std.specs.declared.alloc.Global.{Global}
use Rattle.std.proofs.lemmas.List.{length-map}
use Rattle.nm_types.specs.declared.id.PortId.{PortId}
use Rattle.nm_types.specs.declared.id.Side.TheVariants.{Rx}
use Rattle.nm_watch.specs.Watching.{monitor_of}
use Rattle.vale_entry.specs.World.{Port, open_port, receive_monitor}
use Rattle.vale_entry.specs.Delivery.{delivered_frames}
use Rattle.vale_entry.specs.Legal.{is_met}
use Rattle.vale_port.specs.Lists.{IsFoundAt, IsNotFound, OfSeat}
use Rattle.vale_port.specs.Ports.{PortState, sizes_of}
use Rattle.vale_port.specs.Seat.{Seat, port_of, seats_of}
use Rattle.vale_port.proofs.Lists.{are-length, seats-ports, seats-at}
use Rattle.vale_book.specs.declared.asking.PortSeen.{PortSeen}
use Rattle.vale_book.specs.declared.asking.Ready.{Ready}
use Rattle.vale_book.specs.declared.book.Book.TheInside.{Inside}
use Rattle.vale_book.specs.Asking.{IsSeen, IsSeenAs, AreReady, IsReady}
use Rattle.vale_book.specs.BookView.{IsBook}
use Rattle.vale_book.proofs.Found.{IsOpenHere, open_at, open-here}
use Rattle.vale_parts.specs.Ids.{id_of}
use Rattle.vale_book.proofs.Moves.{before}
use Rattle.vale_book.proofs.Standing.{ports-rising, found-some, not-found}

pub seen-found : {b : Inside} {search' : List Port → Option Port} {place : ℕ} {seen : PortSeen} → IsBook b → IsFoundAt search' b.ports.items place
    → OfSeat (λ (seat : Seat). IsSeen seat.port seen) b.ports.items place → IsSeenAs (search' (before b).world.ports) (Some seen)
seen-found {b} {search'} {place} k found is =
    let pool = b.pool.buffers in
    let h = b.history.entries in
    let f = found-some pool h b search' place k.stands found in
    let w = (before b).world in
    let x = (before b).holdings in
    let at = f.here.at in
    let told = is (seats_of w.ports x.ports) (record { port = f.port; held = at.held }) (ports-rising pool h b k.stands).stand
    (seats-at w.ports x.ports place f.port at.held at.here at.held_here) in
    rw f.here.found told

pub seen-none : (b : Inside) (search' : List Port → Option Port) → IsBook b → IsNotFound search' b.ports.items → IsSeenAs (search' (before b).world.ports) None
seen-none b search' k none = rw (not-found b.pool.buffers b.history.entries b search' k.stands none) tt

pub as-many : (b : Inside) → IsBook b → length b.ports.items ≡ length (before b).world.ports
as-many b k =
    let w = (before b).world in
    let x = (before b).holdings in
    let are = ports-rising b.pool.buffers b.history.entries b k.stands in
    let seats = seats_of w.ports x.ports in
    sym (are-length seats b.ports.items are.stand) ∙ (sym (length-map seats port_of) ∙ ap (λ (ps : List Port). length ps) (seats-ports w.ports x.ports are.agree))

-- what is ready at a port

abbrev any : Port → Bool
any port = true

some-same : (p q : Port) → Some p ≡ Some q → p ≡ q
some-same p q e = cc

same-some : (found : Option PortId) → is_some found ≡ is_some (id_of found)
same-some None = refl
same-some (Some id) = refl

pub ready-found : (b : Inside) (at : PortId) (place : ℕ) (ready : Ready) → IsBook b → IsFoundAt (open_at at.0) b.ports.items place
    → OfSeat (λ (seat : Seat). AreReady seat.port ready) b.ports.items place → ready.is_watched ≡ is_some (monitor_of b.watches at.0 Rx)
    → (seen : Port) → open_port (before b).world.ports at.0 ≡ Some seen → IsReady (before b).world seen ready
ready-found b at place ready k found are watched seen is =
    let w = (before b).world in
    let x = (before b).holdings in
    let o : IsOpenHere b at.0 place any = open-here b at.0 place any k found (ap (is_met any) is) in
    let here = o.here.at in
    let same : o.port ≡ seen = some-same o.port seen (sym o.here.found ∙ is) in
    subst (λ (p : Port). IsReady w p ready) same (record {
      are = are (seats_of w.ports x.ports) (record { port = o.port; held = here.held }) k.stands.ports_are (seats-at w.ports x.ports place o.port here.held here.here here.held_here);
      watched = watched ∙ (same-some (monitor_of b.watches at.0 Rx) ∙ ap is_some (k.stands.parts_are.watches_are.receive at.0 ∙ ap (receive_monitor w) (sym o.id_is)));
    })

pub ready-none : (b : Inside) (at : PortId) (ready : Ready) → IsBook b → IsNotFound (open_at at.0) b.ports.items
    → (seen : Port) → open_port (before b).world.ports at.0 ≡ Some seen → IsReady (before b).world seen ready
ready-none b at ready k none seen is = absurd (let gone = not-found b.pool.buffers b.history.entries b (open_at at.0) k.stands none in let both : None ≡ Some seen = sym gone ∙ is in cc)

-- the sizes of what is ready
pub sizes-found : {E : Type 0} (made : Result (Vec ℕ Global) E) (b : Inside) (at : PortId) (place : ℕ) (ports : List PortState) → IsBook b → ports ≡ b.ports.items → IsFoundAt (open_at at.0) b.ports.items place
    → IfOk made (λ (sizes : Vec ℕ Global). OfSeat (λ (seat : Seat). sizes.items ≡ sizes_of (delivered_frames seat.port)) ports place)
    → IfOk made (λ (sizes : Vec ℕ Global). (seen : Port) → open_port (before b).world.ports at.0 ≡ Some seen → sizes.items ≡ sizes_of (delivered_frames seen))
sizes-found (Err e) b at place ports k same found are = tt
sizes-found (Ok sizes) b at place ports k same found are = λ seen is.
    let w = (before b).world in
    let x = (before b).holdings in
    let o : IsOpenHere b at.0 place any = open-here b at.0 place any k found (ap (is_met any) is) in
    let here = o.here.at in
    let own : o.port ≡ seen = some-same o.port seen (sym o.here.found ∙ is) in
    let told : sizes.items ≡ sizes_of (delivered_frames o.port) =
    subst (λ (ps : List PortState). OfSeat (λ (seat : Seat). sizes.items ≡ sizes_of (delivered_frames seat.port)) ps place) same are
    (seats_of w.ports x.ports) (record { port = o.port; held = here.held }) k.stands.ports_are (seats-at w.ports x.ports place o.port here.held here.here here.held_here) in
    subst (λ (p : Port). sizes.items ≡ sizes_of (delivered_frames p)) own told

pub sizes-none : (b : Inside) (at : PortId) (sizes : List ℕ) → IsBook b → IsNotFound (open_at at.0) b.ports.items
    → (seen : Port) → open_port (before b).world.ports at.0 ≡ Some seen → sizes ≡ sizes_of (delivered_frames seen)
sizes-none b at sizes k none seen is = absurd (let gone = not-found b.pool.buffers b.history.entries b (open_at at.0) k.stands none in let both : None ≡ Some seen = sym gone ∙ is in cc)
