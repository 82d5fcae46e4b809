use Rattle.std.proofs.Common.{ℕ, ◌≡◌, List, length, Option, refl, ◌∙◌}
use Rattle.vale_line.specs.Leased.{Leased}
use Rattle.vale_steps.specs.Offering.{OffersStand}
use Rattle.vale_book.specs.BookView.{recorded}
use Rattle.vale_own.specs.Recorded.{standing}
use Rattle.vale_batch.specs.Wants.{wanted}
use Rattle.vale_entry.specs.declared.entry.Ask.TheVariants.{Grant}
use Rattle.vale_entry.specs.World.{Port, open_port}
use Rattle.vale_entry.specs.Legal.{grant_step}
use Rattle.vale_book.specs.declared.book.Book.TheInside.{Inside}
use Rattle.vale_book.proofs.Moves.{before, moved, record-moved, had-room}
use Rattle.vale_book.proofs.Standing.{IsFound, by-ids, found-some, not-found}
use Rattle.vale_book.proofs.Grants.{IsGrant, IsGranted, Known, known, known-is, known_seen, LeaseTells, GiveTells, grant-by, entry-is, number-new, sizes-fit, counted-there, counts-fit, leases-told, reply-told, offers-taken, left-stand, first-want, give-call, lose-call, shared-by}
use Rattle.vale_book.proofs.book.Book.grant.Goals as goal
use Rattle.vale_book.proofs.book.Book.grant.Goals.{After-count, After-lose, After-self, In-Some}

abbrev offered : After-self → Known
offered c = known c.entry-origin.result c.session-session.result c.take_next-want.new.offers

seen : (c : After-self) → known_seen (offered c) ≡ c.take_next-want.new.offers
seen c = known-is c.entry-origin.result c.session-session.result c.take_next-want.new.offers c.entry-origin.ensures c.session-session.ensures

-- the grant that is asked
granted : (c : After-self) → IsGrant c.self.inside c.entry-origin.result c.session-session.result.0 (wanted c.take_next-want.result.0)
granted c =
    grant-by c.self.inside c.args.self.now c.args.offers.now c.take_next-want.new.offers (offered c) (wanted c.take_next-want.result.0) c.self.invariant c.self.view_is c.requires.stand
    c.take_next-want.ensures.want (seen c)

entry : (c : After-self) → c.args.offers.now.entry ≡ c.entry-origin.result
entry c = entry-is c.args.offers.now c.take_next-want.new.offers (offered c) (wanted c.take_next-want.result.0) c.take_next-want.ensures.want (seen c)

-- and the offers that are left
stands : (c : After-self) (next : Inside) (given full gone : ℕ) (lease : Option Leased) → IsGranted c.self.inside next c.entry-origin.result c.take_next-want.result.0.to given full gone lease
    → next.pool ≡ c.self.inside.pool → OffersStand (standing (recorded next)) c.take_next-want.new.offers
stands c next given full gone lease =
    left-stand c.self.inside next c.args.self.now c.args.offers.now c.take_next-want.new.offers (offered c) (wanted c.take_next-want.result.0) given full gone lease c.self.invariant c.self.view_is
    c.requires.stand c.take_next-want.ensures.want (seen c)

-- its port, where that is open
there : (c : In-Some) → IsFound c.self.inside.pool.buffers c.self.inside.history.entries c.self.inside (λ (all : List Port). open_port all c.take_next-want.result.0.to.0) c.in-Some.place
there c =
    let b = c.self.inside in
    found-some b.pool.buffers b.history.entries b (λ (all : List Port). open_port all c.take_next-want.result.0.to.0) c.in-Some.place c.self.invariant.stands (rw (← c.deref.ensures.value) c.in-Some.ensures.some)

pub offered_port-requires : goal.offered_port-requires
offered_port-requires c =
    let b = c.self.inside in
    rw c.deref.ensures.value (by-ids b.pool.buffers b.history.entries b c.self.invariant.stands)

pub give-granted-requires-clause-new : goal.give-granted-requires-clause-new
give-granted-requires-clause-new c =
    let f = there (goal.at.give-granted-requires-clause-new c).In-Some in
    λ p here. number-new c.self.inside c.in-Some.place f.port p c.self.invariant f.here.at here

pub give-granted-requires-clause-sizes : goal.give-granted-requires-clause-sizes
give-granted-requires-clause-sizes c =
    sizes-fit c.self.inside c.entry-origin.result c.session-session.result.0 (wanted c.take_next-want.result.0) c.self.invariant (granted (goal.at.give-granted-requires-clause-sizes c).After-self)

pub count-requires-clause-there : goal.count-requires-clause-there
count-requires-clause-there c =
    let f = there (goal.at.count-requires-clause-there c).In-Some in
    rw c.give-granted.ensures.to (counted-there c.self.inside c.take_next-want.result.0.to.0 f.port c.self.invariant f.here.found)

pub count-requires-clause-fits : goal.count-requires-clause-fits
count-requires-clause-fits c =
    let at = goal.at.count-requires-clause-fits c in
    let b = c.self.inside in
    let want = wanted c.take_next-want.result.0 in
    let f = there at.In-Some in
    let e = c.give-granted.ensures in
    let r = c.give-granted.result in
    let tells : LeaseTells b want.sizes c.in-Some.place r.lease c.give-granted.new.ports.items = record { seats = e.seats; some = e.some; none = e.none } in
    let s = shared-by b c.entry-origin.result c.session-session.result.0 want c.in-Some.place f.port r.lease r.given r.full c.give-granted.new.ports.items c.self.invariant (granted at.After-self) f.here tells e.given e.full in
    rw e.to (counts-fit b c.session-session.result c.entry-origin.result want c.in-Some.place f.port r.lease r.given r.full c.self.invariant s)

-- ---- The port is open.

abbrev next : After-count → Inside
next c = record c.self.inside { history = c.give-granted.new.history; ports = c.give-granted.new.ports; tally = c.count.new.tally }

given : (c : After-count)
    → IsGranted c.self.inside (next c) c.entry-origin.result c.take_next-want.result.0.to c.give-granted.result.given c.give-granted.result.full 0 c.give-granted.result.lease
given c =
    let at = goal.at.invariant_of-self c in
    let b = c.self.inside in
    let want = wanted c.take_next-want.result.0 in
    let e = c.give-granted.ensures in
    let r = c.give-granted.result in
    let tells : LeaseTells b want.sizes c.in-Some.place r.lease c.give-granted.new.ports.items = record { seats = e.seats; some = e.some; none = e.none } in
    let told : GiveTells b c.session-session.result c.entry-origin.result want c.in-Some.place r.given r.full r.lease c.give-granted.new.history c.give-granted.new.ports.items =
    record { given_is = e.given; full_is = e.full; entries = e.entries; promised = e.promised; limits = e.limits; tells = tells; leases = e.lease; lots = e.lot; kept = e.kept } in
    give-call b (next c) c.session-session.result c.entry-origin.result want c.in-Some.place (there at.In-Some).port r.given r.full r.lease c.self.invariant (granted at.After-self) (there at.In-Some).here told
    (record { sessions = refl; parts = refl; region = refl; buffers = refl; pool = refl }) (c.count.ensures ∙ (rw e.to refl))

pub invariant_of-self : goal.invariant_of-self
invariant_of-self c = let g = given c in moved c.self.inside (next c) (Grant c.entry-origin.result c.take_next-want.result.0.to) (grant_step (before c.self.inside) g.offer) c.self.invariant g.moves

pub returns-in-Some : goal.returns-in-Some
returns-in-Some c =
    let s = (goal.at.returns-in-Some c).After-self in
    let b = c.self.inside in
    let want = wanted c.take_next-want.result.0 in
    let e = c.give-granted.ensures in
    let r = c.give-granted.result in
    let g = given c in
    rw (← c.self.view_is, entry s, e.to, e.gone) (record {
      made = record-moved b (next c) (Grant c.entry-origin.result want.to) (grant_step (before b) g.offer) g.moves;
      said = reply-told b (next c) c.entry-origin.result want.to r.given r.full 0 r.lease g;
      room = had-room b (next c) (Grant c.entry-origin.result want.to) (grant_step (before b) g.offer) g.moves;
      offers = offers-taken c.args.offers.now c.take_next-want.new.offers (offered s) want c.take_next-want.ensures.want (seen s);
      stand = stands s (next c) r.given r.full 0 r.lease g refl;
      want = rw e.want (first-want c.args.offers.now c.take_next-want.new.offers want c.take_next-want.ensures.want);
      to = rw e.want refl;
      given = g.given_is;
      lease = leases-told b (next c) c.entry-origin.result want.to r.given r.full 0 r.lease g;
    })

-- ---- The port is not open.

abbrev next-lost : After-lose → Inside
next-lost c = record c.self.inside { history = c.lose.new.history }

lost : (c : After-lose) → IsGrant c.self.inside c.entry-origin.result c.session-session.result.0 (wanted c.take_next-want.result.0)
    → IsGranted c.self.inside (next-lost c) c.entry-origin.result c.take_next-want.result.0.to 0 0 (length (wanted c.take_next-want.result.0).sizes) c.lose.result.lease
lost c g =
    let b = c.self.inside in
    let want = wanted c.take_next-want.result.0 in
    let e = c.lose.ensures in
    let gone = not-found b.pool.buffers b.history.entries b (λ (all : List Port). open_port all want.to.0) c.self.invariant.stands (rw (← c.deref.ensures.value) c.in-None.ensures.none) in
    lose-call b (next-lost c) c.session-session.result c.entry-origin.result want c.lose.result.lease c.self.invariant g gone e.lease
    (record { sessions = refl; parts = refl; region = refl; buffers = refl; pool = refl }) e.entries e.limits e.promised refl refl

pub invariant_of-self-in-None-1 : goal.invariant_of-self-in-None-1
invariant_of-self-in-None-1 c =
    let at = goal.at.invariant_of-self-in-None-1 c in
    let l = lost at.After-lose (granted at.After-self) in
    moved c.self.inside (next-lost at.After-lose) (Grant c.entry-origin.result c.take_next-want.result.0.to) (grant_step (before c.self.inside) l.offer) c.self.invariant l.moves

pub returns-in-None : goal.returns-in-None
returns-in-None c =
    let at = goal.at.returns-in-None c in
    let s = at.After-self in
    let b = c.self.inside in
    let want = wanted c.take_next-want.result.0 in
    let e = c.lose.ensures in
    let gone = length want.sizes in
    let l = lost at.After-lose (granted s) in
    let next = next-lost at.After-lose in
    rw (← c.self.view_is, entry s, e.to, e.given.0, e.given.1, e.gone) (record {
      made = record-moved b next (Grant c.entry-origin.result want.to) (grant_step (before b) l.offer) l.moves;
      said = reply-told b next c.entry-origin.result want.to 0 0 gone c.lose.result.lease l;
      room = had-room b next (Grant c.entry-origin.result want.to) (grant_step (before b) l.offer) l.moves;
      offers = offers-taken c.args.offers.now c.take_next-want.new.offers (offered s) want c.take_next-want.ensures.want (seen s);
      stand = stands s next 0 0 gone c.lose.result.lease l refl;
      want = rw e.want (first-want c.args.offers.now c.take_next-want.new.offers want c.take_next-want.ensures.want);
      to = rw e.want refl;
      given = l.given_is;
      lease = leases-told b next c.entry-origin.result want.to 0 0 gone c.lose.result.lease l;
    })
