use Rattle.std.proofs.Common.{arith, ◌≡◌, sym, subst, ◌∙◌, length, OnOk, refl}
use Rattle.std.proofs.lemmas.Result.{IfErr-weaker}
use Rattle.vale_entry.specs.declared.entry.Ask.TheVariants.{Put}
use Rattle.vale_entry.specs.declared.entry.Reply.TheVariants.{PeerGone}
use Rattle.vale_entry.specs.Legal.{IsEnabled, unchanged}
use Rattle.vale_book.specs.declared.book.Book.TheInside.{Inside}
use Rattle.vale_steps.specs.declared.putting.Putting.{Putting}
use Rattle.vale_steps.specs.Putting.{items_of}
use Rattle.vale_own.specs.Recorded.{Recorded, standing}
use Rattle.vale_book.proofs.Moves.{Moves, before, kept-on, after-on, room-on}
use Rattle.vale_book.proofs.ReadMoves.{IsRest}
use Rattle.vale_book.proofs.PutMoves.{never-missing, IsGone, IsPutting, putting_of, CountsFit, count-items, pipe-known, gone-known, peer-missing, putting-known, gone-moves, gone-stays, gone-full, gone-on, new-here, counts-fit, put_made, put-moves, put-stays, put-full, put-on}
use Rattle.vale_book.proofs.PutsTold.{fit-parts}
use Rattle.vale_book.proofs.book.Book.put.Goals as goal

-- ---- the port

pub unreachable-requires : goal.unreachable-requires
unreachable-requires c =
    let items = items_of c.args.pending.now.items in
    let enabled = subst (λ (x : Recorded). IsEnabled (standing x) (Put c.args.port items)) (sym c.self.view_is) c.requires.enabled in
    never-missing c.self.inside c.args.port items c.self.invariant enabled (rw c.deref.ensures.value at c.in_default.ensures.none)

pub peer_of-requires-clause-pipe : goal.peer_of-requires-clause-pipe
peer_of-requires-clause-pipe c =
    let items = items_of c.args.pending.now.items in
    let enabled = subst (λ (x : Recorded). IsEnabled (standing x) (Put c.args.port items)) (sym c.self.view_is) c.requires.enabled in
    pipe-known c.self.inside c.args.port items c.in-Some.place c.deref.result.now c.deref-3.result.now c.self.invariant enabled c.deref.ensures.value c.deref-3.ensures.value c.in-Some.ensures.some

pub unreachable-requires-in_default-open_port : goal.unreachable-requires-in_default-open_port
unreachable-requires-in_default-open_port c =
    let items = items_of c.args.pending.now.items in
    let enabled = subst (λ (x : Recorded). IsEnabled (standing x) (Put c.args.port items)) (sym c.self.view_is) c.requires.enabled in
    peer-missing c.self.inside c.args.port items c.in-Some.place c.in-Some-peer_of.peer c.deref.result.now c.deref-3.result.now c.deref-in-Some-peer_of.result.now c.self.invariant enabled
    c.deref.ensures.value c.deref-3.ensures.value c.deref-in-Some-peer_of.ensures.value c.in-Some.ensures.some c.in-Some-peer_of.ensures.peer c.peer_of.ensures.names c.in_default-open_port.ensures.none

-- ---- the other end is not open

gone : (c : goal.After-put_nowhere) → IsGone c.self.inside c.args.port (items_of c.args.pending.now.items) c.session_at-session.result c.len-offered.result
gone c =
    let items = items_of c.args.pending.now.items in
    let enabled = subst (λ (x : Recorded). IsEnabled (standing x) (Put c.args.port items)) (sym c.self.view_is) c.requires.enabled in
    let count : length c.args.pending.now.items ≡ c.len-offered.result = omega (arith, c.args.pending.now.ok.0, c.len-offered.ensures) in
    gone-known c.self.inside c.args.port items c.in-Some.place c.session_at-session.result c.len-offered.result c.deref.result.now c.deref-2.result.now c.deref-3.result.now c.self.invariant enabled
    c.deref.ensures.value c.deref-2.ensures.value c.deref-3.ensures.value c.in-Some.ensures.some c.session_at-session.ensures c.in-None.ensures.peer c.peer_of.ensures.names
    (count-items c.args.pending.now.items ∙ count)

abbrev next-gone : goal.After-put_nowhere → Inside
next-gone c = record c.self.inside { history = c.put_nowhere.new.history }

gone-rest : (c : goal.After-put_nowhere) → IsRest c.self.inside (next-gone c)
gone-rest c = record { sessions = refl; parts = refl; region = refl; buffers = refl }

moves-gone : (c : goal.After-put_nowhere) → OnOk c.put_nowhere.result (Moves c.self.inside (next-gone c) (Put c.args.port (items_of c.args.pending.now.items)) (unchanged (before c.self.inside) (gone c).port.session PeerGone))
moves-gone c =
    let e = c.put_nowhere.ensures in
    gone-moves c.put_nowhere.result c.self.inside (next-gone c) c.args.port (items_of c.args.pending.now.items) c.session_at-session.result c.len-offered.result c.self.invariant (gone c)
    e.entries e.promised e.limits e.fits refl refl (gone-rest c)

pub invariant_of-self : goal.invariant_of-self
invariant_of-self c =
    let e = c.put_nowhere.ensures in
    kept-on c.put_nowhere.result c.self.inside (next-gone c) (Put c.args.port (items_of c.args.pending.now.items)) (unchanged (before c.self.inside) (gone c).port.session PeerGone) c.self.invariant
    (moves-gone c) (gone-stays c.put_nowhere.result c.self.inside (next-gone c) e.err e.promised e.limits refl refl (gone-rest c))

pub returns-in-None-clause-made : goal.returns-in-None-clause-made
returns-in-None-clause-made c =
    rw (← c.self.view_is) (after-on c.put_nowhere.result c.self.inside (next-gone c) (Put c.args.port (items_of c.args.pending.now.items)) (unchanged (before c.self.inside) (gone c).port.session PeerGone) (moves-gone c))

pub returns-in-None-clause-room : goal.returns-in-None-clause-room
returns-in-None-clause-room c =
    rw (← c.self.view_is) (room-on c.put_nowhere.result c.self.inside (next-gone c) (Put c.args.port (items_of c.args.pending.now.items)) (unchanged (before c.self.inside) (gone c).port.session PeerGone) (moves-gone c))

pub returns-in-None-clause-gone : goal.returns-in-None-clause-gone
returns-in-None-clause-gone c =
    rw (← c.self.view_is) (gone-on c.put_nowhere.result c.self.inside c.args.port (items_of c.args.pending.now.items) c.session_at-session.result c.len-offered.result (gone c))

pub returns-in-None-clause-full : goal.returns-in-None-clause-full
returns-in-None-clause-full c =
    rw (← c.self.view_is) (IfErr-weaker c.put_nowhere.result _ _
    (λ fault. gone-full c.self.inside c.args.port (items_of c.args.pending.now.items) c.session_at-session.result c.len-offered.result fault c.self.invariant (gone c)) c.put_nowhere.ensures.full)

-- ---- the other end is open

abbrev putting-before : goal.After-put_to_peer-arg-in-Some-peer_of-4-1 → Putting
putting-before c = putting_of c.args.port c.session_at-session.result c.in-Some-peer_of.peer c.in-Some-open_port.there c.len-offered.result c.taken_by.result c.of.result

known-before : (c : goal.After-put_to_peer-arg-in-Some-peer_of-4-1) → IsPutting c.self.inside (putting-before c) c.args.pending.now.items
known-before c =
    let gots = c.args.pending.now.items in
    let enabled = subst (λ (x : Recorded). IsEnabled (standing x) (Put c.args.port (items_of gots))) (sym c.self.view_is) c.requires.enabled in
    let count : length c.args.pending.now.items ≡ c.len-offered.result = omega (arith, c.args.pending.now.ok.0, c.len-offered.ensures) in
    putting-known c.self.inside c.args.port c.session_at-session.result c.in-Some-peer_of.peer c.in-Some.place c.in-Some-open_port.there c.len-offered.result c.taken_by.result c.of.result gots
    c.deref.result.now c.deref-2.result.now c.deref-3.result.now c.deref-in-Some-peer_of.result.now c.deref-in-Some-peer_of-2.result.now c.self.invariant enabled
    c.deref.ensures.value c.deref-2.ensures.value c.deref-3.ensures.value c.deref-in-Some-peer_of.ensures.value c.deref-in-Some-peer_of-2.ensures.value
    c.in-Some.ensures.some c.session_at-session.ensures c.in-Some-peer_of.ensures.peer c.peer_of.ensures.names c.in-Some-open_port.ensures.some count c.taken_by.ensures.seat c.of.ensures

fits : (c : goal.After-put_to_peer-arg-in-Some-peer_of-4-1) → CountsFit c.self.inside (putting-before c)
fits c =
    counts-fit c.self.inside (putting-before c) c.args.pending.now.items
    c.self.invariant (known-before c)

pub put_to_peer-requires-clause-new : goal.put_to_peer-requires-clause-new
put_to_peer-requires-clause-new c =
    new-here c.self.inside (putting-before c) c.args.pending.now.items (known-before c)

pub put_to_peer-requires-clause-fits : goal.put_to_peer-requires-clause-fits
put_to_peer-requires-clause-fits c = fit-parts c.args.pending.now.items (known-before c).pipe

pub put_to_peer-requires-clause-own : goal.put_to_peer-requires-clause-own
put_to_peer-requires-clause-own c = (fits c).own

pub put_to_peer-requires-clause-own_fits : goal.put_to_peer-requires-clause-own_fits
put_to_peer-requires-clause-own_fits c = (fits c).own_fits

pub put_to_peer-requires-clause-other : goal.put_to_peer-requires-clause-other
put_to_peer-requires-clause-other c = (fits c).other

pub put_to_peer-requires-clause-other_fits : goal.put_to_peer-requires-clause-other_fits
put_to_peer-requires-clause-other_fits c = (fits c).other_fits

abbrev putting : goal.After-put_to_peer → Putting
putting c = putting_of c.args.port c.session_at-session.result c.in-Some-peer_of.peer c.in-Some-open_port.there c.len-offered.result c.taken_by.result c.of.result

known : (c : goal.After-put_to_peer) → IsPutting c.self.inside (putting c) c.args.pending.now.items
known c = known-before c.before

abbrev next : goal.After-put_to_peer → Inside
next c = record c.self.inside { history = c.put_to_peer.new.history; ports = c.put_to_peer.new.ports; tally = c.put_to_peer.new.tally }

rest : (c : goal.After-put_to_peer) → IsRest c.self.inside (next c)
rest c = record { sessions = refl; parts = refl; region = refl; buffers = refl }

moves : (c : goal.After-put_to_peer) → OnOk c.put_to_peer.result (Moves c.self.inside (next c) (Put c.args.port (items_of c.args.pending.now.items)) (put_made c.self.inside (putting c) c.args.pending.now.items (known c)))
moves c =
    let e = c.put_to_peer.ensures in
    let of = rw (← c.self.view_is) at c.requires.of in
    put-moves c.put_to_peer.result c.self.inside (next c) (putting c) c.args.pending.now.items c.self.invariant (known c) of c.requires.single
    e.entries e.promised e.limits e.fits e.seats e.line e.tally (rest c)

pub invariant_of-self-in-Some-peer_of : goal.invariant_of-self-in-Some-peer_of
invariant_of-self-in-Some-peer_of c =
    let e = c.put_to_peer.ensures in
    kept-on c.put_to_peer.result c.self.inside (next c) (Put c.args.port (items_of c.args.pending.now.items)) (put_made c.self.inside (putting c) c.args.pending.now.items (known c)) c.self.invariant
    (moves c) (put-stays c.put_to_peer.result c.self.inside (next c) c.put_to_peer.new.pending.items c.args.pending.now.items e.limits e.err (rest c))

pub returns-in-Some-open_port-clause-made : goal.returns-in-Some-open_port-clause-made
returns-in-Some-open_port-clause-made c =
    rw (← c.self.view_is) (after-on c.put_to_peer.result c.self.inside (next c) (Put c.args.port (items_of c.args.pending.now.items)) (put_made c.self.inside (putting c) c.args.pending.now.items (known c)) (moves c))

pub returns-in-Some-open_port-clause-room : goal.returns-in-Some-open_port-clause-room
returns-in-Some-open_port-clause-room c =
    rw (← c.self.view_is) (room-on c.put_to_peer.result c.self.inside (next c) (Put c.args.port (items_of c.args.pending.now.items)) (put_made c.self.inside (putting c) c.args.pending.now.items (known c)) (moves c))

pub returns-in-Some-open_port-clause-full : goal.returns-in-Some-open_port-clause-full
returns-in-Some-open_port-clause-full c =
    rw (← c.self.view_is) (IfErr-weaker c.put_to_peer.result _ _ (λ fault. put-full c.self.inside (putting c) c.args.pending.now.items fault c.self.invariant (known c)) c.put_to_peer.ensures.full)

pub returns-in-Some-open_port-clause-put : goal.returns-in-Some-open_port-clause-put
returns-in-Some-open_port-clause-put c =
    let e = c.put_to_peer.ensures in
    rw (← c.self.view_is) (put-on c.put_to_peer.result c.self.inside (next c) (putting c) c.args.pending.now.items c.self.invariant (known c) refl e.entries e.put e.idle e.back)
