use Rattle.std.proofs.Common.{sym, subst, OnOk, OnErr, refl}
use Rattle.std.proofs.lemmas.Result.{IfErr-weaker}
use Rattle.nm_region.specs.Buffers.{indices_of}
use Rattle.vale_entry.specs.declared.entry.Ask.{Ask}
use Rattle.vale_entry.specs.Legal.{IsEnabled}
use Rattle.vale_book.specs.declared.book.Book.TheInside.{Inside}
use Rattle.vale_steps.specs.Reading.{read_ask}
use Rattle.vale_own.specs.Recorded.{Recorded, standing}
use Rattle.vale_book.proofs.Moves.{Moves, Stays, kept-on, after-on, room-on}
use Rattle.vale_book.proofs.ReadMoves.{never-missing, returned, IsAsked, IsReading, read-known, sized, sizes-small, read_made, count-fits, is-counted, IsRest, read-moves, read-stays, read-full, given-on, offered-on}
use Rattle.vale_book.proofs.ReadTold.{said-on, cut-on, few-on}
use Rattle.vale_book.proofs.Standing.{by-ids}
use Rattle.vale_book.proofs.book.Book.read.Goals as goal

-- what is known before the sizes of what is ready are
asked : (c : goal.After-read-arg-4-1) → IsAsked c.self.inside c.reading_at-reading.result (indices_of c.args.back.items)
asked c =
    let e = c.reading_at-reading.ensures in
    let back = indices_of c.args.back.items in
    let enabled = subst (λ (x : Recorded). IsEnabled (standing x) (read_ask c.args.is_pipe c.args.port back)) (sym c.self.view_is) c.requires.enabled in
    read-known c.self.inside c.reading_at-reading.result c.args.is_pipe c.args.port back c.in-Some.place c.deref.result.now c.deref-2.result.now c.self.invariant enabled
    c.deref.ensures.value c.deref-2.ensures.value c.in-Some.ensures.some e.at e.place e.pipe e.session e.frames e.monitor

known-before : (c : goal.After-read-arg-4-1) → IsReading c.self.inside c.reading_at-reading.result c.in-Ok.sizes.items (indices_of c.args.back.items)
known-before c =
    sized c.self.inside c.reading_at-reading.result c.in-Ok.sizes.items (indices_of c.args.back.items) c.deref-3.result.now c.self.invariant c.deref-3.ensures.value
    (asked c) c.in-Ok.ensures

known : (c : goal.After-read) → IsReading c.self.inside c.reading_at-reading.result c.in-Ok.sizes.items (indices_of c.args.back.items)
known c = known-before c.before

pub offered_port-requires : goal.offered_port-requires
offered_port-requires c =
    let b = c.self.inside in
    rw c.deref.ensures.value (by-ids b.pool.buffers b.history.entries b c.self.invariant.stands)

pub unreachable-requires : goal.unreachable-requires
unreachable-requires c =
    let back = indices_of c.args.back.items in
    let enabled = subst (λ (x : Recorded). IsEnabled (standing x) (read_ask c.args.is_pipe c.args.port back)) (sym c.self.view_is) c.requires.enabled in
    never-missing c.self.inside c.args.is_pipe c.args.port back c.self.invariant enabled (rw c.deref.ensures.value at c.in_default.ensures.none)

pub read-requires-clause-returned : goal.read-requires-clause-returned
read-requires-clause-returned c =
    let r = c.reading_at-reading.result in
    returned c.self.inside r.is_pipe r.at c.args.back.items r.place (known-before c).at

pub read-requires-clause-small : goal.read-requires-clause-small
read-requires-clause-small c =
    sizes-small c.self.inside c.reading_at-reading.result c.in-Ok.sizes.items (indices_of c.args.back.items) c.deref-3.result.now c.self.invariant c.deref-3.ensures.value
    (asked c) c.in-Ok.ensures

pub read-requires-clause-counted : goal.read-requires-clause-counted
read-requires-clause-counted c = is-counted c.self.inside c.reading_at-reading.result c.in-Ok.sizes.items (indices_of c.args.back.items) c.self.invariant (known-before c)

pub read-requires-clause-fits : goal.read-requires-clause-fits
read-requires-clause-fits c = count-fits c.self.inside c.reading_at-reading.result c.in-Ok.sizes.items (indices_of c.args.back.items) c.self.invariant (known-before c)

abbrev next : goal.After-read → Inside
next c = record c.self.inside { history = c.read.new.history; ports = c.read.new.ports; tally = c.read.new.tally }

abbrev ask : goal.After-read → Ask
ask c = read_ask c.reading_at-reading.result.is_pipe c.reading_at-reading.result.at (indices_of c.args.back.items)

rest : (c : goal.After-read) → IsRest c.self.inside (next c)
rest c = record { sessions = refl; parts = refl; region = refl; buffers = refl }

moves : (c : goal.After-read) → OnOk c.read.result (Moves c.self.inside (next c) (ask c) (read_made c.self.inside c.reading_at-reading.result c.in-Ok.sizes.items (indices_of c.args.back.items) (known c)))
moves c =
    let b = c.self.inside in
    let e = c.read.ensures in
    let of = rw (← c.self.view_is) at c.requires.of in
    read-moves c.read.result b (next c) c.reading_at-reading.result c.in-Ok.sizes.items c.args.back.items c.self.invariant (known c) of e.entries e.promised e.limits e.fits e.seats e.line e.tally (rest c)

stays : (c : goal.After-read) → OnErr c.read.result (Stays c.self.inside (next c))
stays c = read-stays c.read.result c.self.inside (next c) c.read.ensures.limits c.read.ensures.err (rest c)

pub invariant_of-self : goal.invariant_of-self
invariant_of-self c = kept-on c.read.result c.self.inside (next c) (ask c) (read_made c.self.inside c.reading_at-reading.result c.in-Ok.sizes.items (indices_of c.args.back.items) (known c)) c.self.invariant (moves c) (stays c)

pub returns-clause-made : goal.returns-clause-made
returns-clause-made c =
    let e = c.reading_at-reading.ensures in
    let made = after-on c.read.result c.self.inside (next c) (ask c) (read_made c.self.inside c.reading_at-reading.result c.in-Ok.sizes.items (indices_of c.args.back.items) (known c)) (moves c) in
    rw (← c.self.view_is) (rw (e.pipe, e.at) at made)

pub returns-clause-room : goal.returns-clause-room
returns-clause-room c =
    let e = c.reading_at-reading.ensures in
    let room = room-on c.read.result c.self.inside (next c) (ask c) (read_made c.self.inside c.reading_at-reading.result c.in-Ok.sizes.items (indices_of c.args.back.items) (known c)) (moves c) in
    rw (← c.self.view_is) (rw (e.pipe, e.at) at room)

pub returns-clause-full : goal.returns-clause-full
returns-clause-full c =
    let e = c.reading_at-reading.ensures in
    let full = IfErr-weaker c.read.result _ _ (λ refused. read-full c.self.inside c.reading_at-reading.result c.in-Ok.sizes.items (indices_of c.args.back.items) refused.0 c.self.invariant (known c)) c.read.ensures.full in
    rw (← c.self.view_is) (rw (e.pipe, e.at) at full)

pub returns-clause-got : goal.returns-clause-got
returns-clause-got c =
    let e = c.reading_at-reading.ensures in
    let got = given-on c.read.result c.self.inside c.reading_at-reading.result c.in-Ok.sizes.items (indices_of c.args.back.items) c.self.invariant (known c) c.read.ensures.gives c.read.ensures.got in
    rw (← c.self.view_is) (rw e.at at got)

pub returns-clause-offers : goal.returns-clause-offers
returns-clause-offers c =
    let e = c.reading_at-reading.ensures in
    let offered = offered-on c.read.result c.self.inside (next c) c.reading_at-reading.result c.in-Ok.sizes.items (indices_of c.args.back.items) c.self.invariant (known c) refl c.read.ensures.entries c.read.ensures.offers in
    rw (← c.self.view_is) (rw e.at at offered)

pub returns-clause-said : goal.returns-clause-said
returns-clause-said c =
    let e = c.reading_at-reading.ensures in
    let said = said-on c.read.result c.self.inside c.reading_at-reading.result c.in-Ok.sizes.items (indices_of c.args.back.items) c.self.invariant (known c) c.read.ensures.gives c.read.ensures.offers in
    rw (← c.self.view_is) (rw (e.pipe, e.at) at said)

pub returns-clause-cut : goal.returns-clause-cut
returns-clause-cut c = cut-on c.read.result c.self.inside c.reading_at-reading.result c.in-Ok.sizes.items (indices_of c.args.back.items) c.self.invariant (known c) c.read.ensures.gives

pub returns-clause-few : goal.returns-clause-few
returns-clause-few c = few-on c.read.result c.self.inside c.reading_at-reading.result c.in-Ok.sizes.items (indices_of c.args.back.items) c.self.invariant (known c) c.read.ensures.gives
