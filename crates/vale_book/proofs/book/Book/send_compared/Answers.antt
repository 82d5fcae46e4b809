use Rattle.std.proofs.Common.{◌+◌, ◌∙◌, List, length, map, refl, sym, ap, subst}
use Rattle.std.specs.Vec.{with_item}
use Rattle.nm_types.specs.Names.{switch_of}
use Rattle.vale_entry.specs.declared.entry.Ask.TheVariants.{Send}
use Rattle.vale_entry.specs.declared.entry.Ask.{Ask}
use Rattle.vale_entry.specs.Legal.{IsEnabled, Outcome, can_send}
use Rattle.vale_port.specs.Lists.{AreOpenOn}
use Rattle.vale_port.specs.Ports.{open_ids}
use Rattle.vale_port.proofs.Lookups.{open-on}
use Rattle.vale_book.specs.declared.book.Book.TheInside.{Inside}
use Rattle.vale_steps.specs.declared.tables.NamedTable.{NamedTable}
use Rattle.vale_steps.specs.NamedTables.{table_seen}
use Rattle.vale_book.specs.BookView.{parts_in}
use Rattle.vale_own.specs.Recorded.{Recorded, standing}
use Rattle.vale_book.proofs.Moves.{Moves, before, moved, stayed, record-moved, had-room}
use Rattle.vale_book.proofs.Found.{IsOpenHere, open-here, never-missing}
use Rattle.vale_book.proofs.SendMoves.{IsSending, send_made, can-parts, can-look_up, ids-rise, send-at, send-table, sender-counted, counts-fit_offers, send-moves, said-sent, sent-stand, table-same, full-sent}
use Rattle.vale_book.proofs.book.Book.send_compared.Goals.{In-Some, After-count, After-send-sent}
use Rattle.vale_book.proofs.Standing.{by-ids}
use Rattle.vale_book.proofs.book.Book.send_compared.Goals as goal

-- the sender's port stands at the place found
here : (c : In-Some) → IsOpenHere c.self.inside c.args.port.0 c.in-Some.place (can_send (before c.self.inside).world c.args.batch.now)
here c =
    let can = subst (λ (r : Recorded). IsEnabled (standing r) (Send c.args.port c.args.batch.now)) (sym c.self.view_is) c.requires in
    open-here c.self.inside c.args.port.0 c.in-Some.place (can_send (before c.self.inside).world c.args.batch.now) c.self.invariant (rw c.deref.ensures.value at c.in-Some.ensures.some) can

-- all that the call looked up
sending : (c : After-send-sent) → IsSending c.self.inside c.args.port c.in-Some.place c.args.batch.now (open_ids (switch_of c.name_at-name.result) c.deref-5.result.now) c.of-monitor.result c.session_at-session.result c.in-Some-table_of.at c.index_mut.result.now
sending c =
    let can = subst (λ (r : Recorded). IsEnabled (standing r) (Send c.args.port c.args.batch.now)) (sym c.self.view_is) c.requires in
    let found = rw c.deref.ensures.value at c.in-Some.ensures.some in
    let whose = rw c.deref-2.ensures.value at c.session_at-session.ensures in
    let named = rw c.deref-3.ensures.value at c.name_at-name.ensures in
    let there = rw c.deref-4.ensures.value at c.table_of.ensures in
    let open' : AreOpenOn (switch_of c.name_at-name.result) c.self.inside.ports.items (open_ids (switch_of c.name_at-name.result) c.deref-5.result.now) = rw c.deref-5.ensures.value (λ seats are. open-on (switch_of c.name_at-name.result) seats c.self.inside.ports.items are) in
    send-at c.self.inside c.args.port c.in-Some.place c.args.batch.now (open_ids (switch_of c.name_at-name.result) c.deref-5.result.now) c.of-monitor.result c.session_at-session.result c.name_at-name.result c.in-Some-table_of.at c.index_mut.result.now c.self.invariant can found
    whose named (sym there ∙ c.in-Some-table_of.is) c.index_mut.ensures.value open' c.of-monitor.ensures

-- the step, behind what was looked up
sent : (c : After-count) → IsSending c.self.inside c.args.port c.in-Some.place c.args.batch.now (open_ids (switch_of c.name_at-name.result) c.deref-5.result.now) c.of-monitor.result c.session_at-session.result c.in-Some-table_of.at c.index_mut.result.now
sent c = sending (goal.at.invariant_of-self c).After-send-sent

abbrev next : After-count → Inside
next c = record c.self.inside {
  history = c.send-sent.new.history;
  tables = with_item c.self.inside.tables c.in-Some-table_of.at (record { label = c.index_mut.result.now.label; table = c.send-sent.new.table });
  tally = c.count.new.tally;
}

abbrev ask : After-count → Ask
ask c = Send c.args.port c.args.batch.now

abbrev made : After-count → Outcome
made c = send_made c.self.inside c.args.port c.in-Some.place c.args.batch.now (sent c).here

moves : (c : After-count) → Moves c.self.inside (next c) (ask c) (made c)
moves c =
    let e = c.in-Ok.ensures in
    send-moves c.self.inside (next c) c.args.port c.in-Some.place c.args.batch.now (open_ids (switch_of c.name_at-name.result) c.deref-5.result.now) c.of-monitor.result c.session_at-session.result c.in-Some-table_of.at c.index_mut.result.now c.self.invariant (sent c) e.entries e.promised e.limits e.fits
    (rw e.table refl) (c.count.ensures ∙ (rw (e.offers, c.len.ensures) refl)) refl refl refl refl refl refl

pub offered_port-requires : goal.offered_port-requires
offered_port-requires c =
    let b = c.self.inside in
    rw c.deref.ensures.value (by-ids b.pool.buffers b.history.entries b c.self.invariant.stands)

pub unreachable-requires : goal.unreachable-requires
unreachable-requires c =
    let b = c.self.inside in
    let can = subst (λ (r : Recorded). IsEnabled (standing r) (Send c.args.port c.args.batch.now)) (sym c.self.view_is) c.requires in
    never-missing b c.args.port.0 (can_send (before b).world c.args.batch.now) c.self.invariant (rw c.deref.ensures.value at c.in_default.ensures.none) can

pub unreachable-requires-in_default-table_of : goal.unreachable-requires-in_default-table_of
unreachable-requires-in_default-table_of c =
    let can = subst (λ (r : Recorded). IsEnabled (standing r) (Send c.args.port c.args.batch.now)) (sym c.self.view_is) c.requires in
    let found = rw c.deref.ensures.value at c.in-Some.ensures.some in
    let named = rw c.deref-3.ensures.value at c.name_at-name.ensures in
    let there = rw c.deref-4.ensures.value at c.table_of.ensures in
    send-table c.self.inside c.args.port c.in-Some.place c.args.batch.now c.name_at-name.result c.self.invariant can found named (sym there ∙ c.in_default-table_of.is)

pub send-sent-requires-clause-frames : goal.send-sent-requires-clause-frames
send-sent-requires-clause-frames c =
    can-look_up c.args.batch.now (can-parts c.self.inside c.args.port c.in-Some.place c.args.batch.now (here (goal.at.send-sent-requires-clause-frames c).In-Some)).1

pub send-sent-requires-clause-ports : goal.send-sent-requires-clause-ports
send-sent-requires-clause-ports c =
    let switch = switch_of c.name_at-name.result in
    rw c.deref-5.ensures.value (ids-rise c.self.inside switch (open_ids switch c.self.inside.ports.items) c.self.invariant (λ seats are. open-on switch seats c.self.inside.ports.items are))

pub count-requires-clause-there : goal.count-requires-clause-there
count-requires-clause-there c = sender-counted c.self.inside c.args.port c.in-Some.place c.args.batch.now c.self.invariant (here (goal.at.count-requires-clause-there c).In-Some)

pub count-requires-clause-fits : goal.count-requires-clause-fits
count-requires-clause-fits c =
    let s = sending (goal.at.count-requires-clause-fits c).After-send-sent in
    counts-fit_offers c.self.inside c.args.port c.in-Some.place c.args.batch.now (open_ids (switch_of c.name_at-name.result) c.deref-5.result.now) c.of-monitor.result c.session_at-session.result c.in-Some-table_of.at c.index_mut.result.now (length c.self.inside.history.entries + 1) c.len.result c.in-Ok.offers c.self.invariant s c.in-Ok.ensures.offers c.len.ensures

pub invariant_of-self : goal.invariant_of-self
invariant_of-self c = moved c.self.inside (next c) (ask c) (made c) c.self.invariant (moves c)

pub invariant_of-self-in-Err : goal.invariant_of-self-in-Err
invariant_of-self-in-Err c =
    let b = c.self.inside in
    let e = c.in-Err.ensures in
    let next : Inside = record b {
      history = c.send-sent.new.history;
      tables = with_item b.tables c.in-Some-table_of.at (record { label = c.index_mut.result.now.label; table = c.send-sent.new.table });
    } in
    let same = table-same b.tables.items c.in-Some-table_of.at c.index_mut.result.now c.send-sent.new.table c.index_mut.ensures.value e.err.2 in
    stayed b next c.self.invariant (record {
      entries = e.err.0;
      limits = e.limits;
      promised = e.err.1;
      sessions = refl;
      ports = refl;
      parts = ap (λ (tables : List NamedTable). record (parts_in b) { tables = map table_seen tables }) same;
      region = refl;
      buffers = refl;
    })

pub returns-in-Ok-clause-made : goal.returns-in-Ok-clause-made
returns-in-Ok-clause-made c = rw (← c.self.view_is) (record-moved c.self.inside (next c) (ask c) (made c) (moves c))

pub returns-in-Ok-clause-said : goal.returns-in-Ok-clause-said
returns-in-Ok-clause-said c =
    rw (← c.self.view_is) (said-sent c.self.inside c.args.port c.in-Some.place c.args.batch.now (open_ids (switch_of c.name_at-name.result) c.deref-5.result.now) c.of-monitor.result c.session_at-session.result c.in-Some-table_of.at c.index_mut.result.now (length c.self.inside.history.entries + 1) c.in-Ok.offers c.self.invariant (sent c) c.in-Ok.ensures.offers)

pub returns-in-Ok-clause-offers : goal.returns-in-Ok-clause-offers
returns-in-Ok-clause-offers c =
    sent-stand c.self.inside (next c) c.args.port c.in-Some.place c.args.batch.now (open_ids (switch_of c.name_at-name.result) c.deref-5.result.now) c.of-monitor.result c.session_at-session.result c.in-Some-table_of.at c.index_mut.result.now c.in-Ok.offers c.self.invariant (sent c) refl c.in-Ok.ensures.entries c.in-Ok.ensures.offers

pub returns-in-Ok-clause-room : goal.returns-in-Ok-clause-room
returns-in-Ok-clause-room c = rw (← c.self.view_is) (had-room c.self.inside (next c) (ask c) (made c) (moves c))

pub returns-in-Err-clause-full : goal.returns-in-Err-clause-full
returns-in-Err-clause-full c =
    let s = sending (goal.at.returns-in-Err-clause-full c).After-send-sent in
    rw (← c.self.view_is) (full-sent c.self.inside c.args.port c.in-Some.place c.args.batch.now (open_ids (switch_of c.name_at-name.result) c.deref-5.result.now) c.of-monitor.result c.session_at-session.result c.in-Some-table_of.at c.index_mut.result.now c.in-Err.fault c.self.invariant s c.in-Err.ensures.full)
