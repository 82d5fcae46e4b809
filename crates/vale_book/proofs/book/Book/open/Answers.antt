use Rattle.std.proofs.Common.{◌≡◌, ◌≤◌, ◌+◌, length, None, ◌∙◌, ap, refl, true}
use Rattle.nm_types.specs.Limits.{most_switches}
use Rattle.nm_region.specs.Buffers.{indices_of}
use Rattle.vale_names.specs.Ports.{fresh_port}
use Rattle.vale_entry.specs.declared.entry.Ask.TheVariants.{Open}
use Rattle.vale_entry.specs.Legal.{can_open, open_step_by}
use Rattle.vale_parts.specs.Ids.{port_id}
use Rattle.vale_book.specs.declared.book.Book.TheInside.{Inside}
use Rattle.vale_book.proofs.Moves.{Moves, Stays, before, moved, stayed, record-stayed}
use Rattle.vale_book.proofs.OpenMoves.{comes-out, can-go-back, not-counted, room-to-count, with_tables, tables-few, tables-kept, open-moves, front-is, idle-is}
use Rattle.vale_book.proofs.OpenRefusals.{IsBeside, refused-recorded, refused-kept, refused-said, recorded-as, full-said}
use Rattle.vale_book.proofs.book.Book.open.Goals as goal
use Rattle.vale_book.proofs.book.Book.open.Goals.{After-add_port}

pub name_port-requires : goal.name_port-requires
name_port-requires c = record { out = comes-out c.self.inside c.len.result c.args.name.now c.self.invariant c.len.ensures.len }

pub add_port-requires-clause-back : goal.add_port-requires-clause-back
add_port-requires-clause-back c = can-go-back c.self.inside c.self.invariant

pub open-requires-clause-new : goal.open-requires-clause-new
open-requires-clause-new c = not-counted c.self.inside c.len.result c.self.invariant c.len.ensures.len

pub open-requires-clause-room : goal.open-requires-clause-room
open-requires-clause-room c =
    room-to-count c.self.inside (fresh_port c.args.name.now (port_id (c.len.result + 1))) c.name_port.new.names c.self.invariant c.in-Ok.ensures.joins c.in-Ok.ensures.names

-- ---- The port is opened.

abbrev added : After-add_port → Inside
added c = record c.self.inside { pool = c.add_port.new.pool; history = c.add_port.new.history; ports = c.add_port.new.ports; tables = c.add_port.new.tables }

abbrev opened : goal.After-open → Inside
opened c = record (added (goal.at.invariant_of-self c).After-add_port) { names = c.name_port.new.names; tally = c.open.new.self }

moves : (c : goal.After-open) → Moves (with_tables c.self.inside (opened c)) (opened c) (Open c.args.session c.args.name.now c.args.tx c.args.rx c.args.extra)
    (open_step_by None (before c.self.inside) c.args.session.0 c.args.name.now c.args.tx c.args.rx c.args.extra)
moves c =
    let can : can_open (before c.self.inside).world c.args.session.0 c.args.name.now c.args.tx c.args.rx c.args.extra ≡ true = rw (← c.self.view_is) at c.requires in
    let named = c.in-Ok.ensures in
    let made = c.in-Ok-add_port.ensures in
    open-moves c.self.inside (opened c) c.len.result c.args.session c.args.name.now c.args.tx c.args.rx c.args.extra c.self.invariant can c.len.ensures.len named.refusal named.joins
    made.entries made.promised made.limits made.fits made.there made.kept made.few made.ports made.pool c.open.ensures refl refl refl refl

few : (c : goal.After-open) → length c.add_port.new.tables.items ≤ most_switches
few c =
    tables-few c.self.inside (opened c) c.len.result c.args.session c.args.name.now c.args.tx c.args.rx c.args.extra c.self.invariant c.in-Ok.ensures.refusal c.in-Ok-add_port.ensures.few

pub invariant_of-self : goal.invariant_of-self
invariant_of-self c =
    moved (with_tables c.self.inside (opened c)) (opened c) (Open c.args.session c.args.name.now c.args.tx c.args.rx c.args.extra)
    (open_step_by None (before c.self.inside) c.args.session.0 c.args.name.now c.args.tx c.args.rx c.args.extra)
    (tables-kept c.self.inside (opened c) c.self.invariant c.in-Ok-add_port.ensures.kept (few c)) (moves c)

pub returns-in-Ok-add_port-clause-made : goal.returns-in-Ok-add_port-clause-made
returns-in-Ok-add_port-clause-made c =
    rw (← c.self.view_is) (recorded-as (with_tables c.self.inside (opened c)) (opened c) (Open c.args.session c.args.name.now c.args.tx c.args.rx c.args.extra)
    (open_step_by None (before c.self.inside) c.args.session.0 c.args.name.now c.args.tx c.args.rx c.args.extra) (moves c))

pub returns-in-Ok-add_port-clause-tx : goal.returns-in-Ok-add_port-clause-tx
returns-in-Ok-add_port-clause-tx c =
    let b = c.self.inside in
    rw (← c.self.view_is) (ap indices_of c.in-Ok-add_port.ensures.opened.tx_are ∙ front-is b.pool.free (before b).holdings.free c.args.tx c.self.invariant.stands.parts_are.free_are)

pub returns-in-Ok-add_port-clause-rx : goal.returns-in-Ok-add_port-clause-rx
returns-in-Ok-add_port-clause-rx c =
    let b = c.self.inside in
    rw (← c.self.view_is) (c.in-Ok-add_port.ensures.opened.rx_are ∙ idle-is b.pool.free (before b).holdings.free c.args.tx c.args.rx c.self.invariant.stands.parts_are.free_are)

pub returns-in-Ok-add_port-clause-extra : goal.returns-in-Ok-add_port-clause-extra
returns-in-Ok-add_port-clause-extra c =
    let b = c.self.inside in
    rw (← c.self.view_is) (ap indices_of c.in-Ok-add_port.ensures.opened.extra_are
    ∙ idle-is b.pool.free (before b).holdings.free (c.args.tx + c.args.rx) c.args.extra c.self.invariant.stands.parts_are.free_are)

-- ---- There is no room for it.

abbrev full : goal.After-from → Inside
full c = record (added (goal.at.invariant_of-self-in-Err-add_port c).After-add_port) { names = c.gone.new.self }

stays : (c : goal.After-from) → Stays (with_tables c.self.inside (full c)) (full c)
stays c =
    let b = c.self.inside in
    let same = c.in-Err-add_port.ensures.err in
    let names : c.gone.new.self ≡ b.names = c.gone.ensures ∙ comes-out b c.len.result c.args.name.now c.self.invariant c.len.ensures.len c.name_port.new.names c.in-Ok.ensures.joins in
    record {
      entries = same.0;
      limits = c.in-Err-add_port.ensures.limits;
      promised = same.1;
      sessions = refl;
      ports = same.2;
      parts = rw (names, same.3) refl;
      region = refl;
      buffers = refl;
    }

pub invariant_of-self-in-Err-add_port : goal.invariant_of-self-in-Err-add_port
invariant_of-self-in-Err-add_port c =
    let few =
    tables-few c.self.inside (full c) c.len.result c.args.session c.args.name.now c.args.tx c.args.rx c.args.extra c.self.invariant c.in-Ok.ensures.refusal c.in-Err-add_port.ensures.few in
    stayed (with_tables c.self.inside (full c)) (full c) (tables-kept c.self.inside (full c) c.self.invariant c.in-Err-add_port.ensures.kept few) (stays c)

pub returns-in-Err-add_port-clause-unopened : goal.returns-in-Err-add_port-clause-unopened
returns-in-Err-add_port-clause-unopened c =
    let can : can_open (before c.self.inside).world c.args.session.0 c.args.name.now c.args.tx c.args.rx c.args.extra ≡ true = rw (← c.self.view_is) at c.requires in
    rw (← c.self.view_is, c.from.ensures) (full-said c.self.inside (full c) c.len.result c.args.session c.args.name.now c.args.tx c.args.rx c.args.extra c.in-Err-add_port.fault c.self.invariant can c.in-Ok.ensures.refusal
    (record-stayed (with_tables c.self.inside (full c)) (full c) (stays c)) c.in-Err-add_port.ensures.full)

-- ---- It is refused.

pub refuse-requires : goal.refuse-requires
refuse-requires c =
    refused-recorded c.self.inside c.len.result c.args.session c.args.name.now c.args.tx c.args.rx c.args.extra c.in-Err.fault c.self.invariant c.in-Err.ensures.refusal

abbrev refused : goal.After-refuse → Inside
refused c = record c.self.inside { history = c.refuse.new.history; names = c.name_port.new.names }

beside : (c : goal.After-refuse) → IsBeside c.self.inside (refused c)
beside c = record {
  entries = refl;
  promised = c.refuse.ensures.promised;
  limits = c.refuse.ensures.limits;
  sessions = refl;
  ports = refl;
  parts = rw c.in-Err.ensures.err refl;
  region = refl;
  buffers = refl;
}

pub invariant_of-self-in-Err : goal.invariant_of-self-in-Err
invariant_of-self-in-Err c =
    let can : can_open (before c.self.inside).world c.args.session.0 c.args.name.now c.args.tx c.args.rx c.args.extra ≡ true = rw (← c.self.view_is) at c.requires in
    refused-kept c.self.inside (refused c) c.len.result c.args.session c.args.name.now c.args.tx c.args.rx c.args.extra c.in-Err.fault c.refuse.result c.self.invariant can c.in-Err.ensures.refusal (beside c) c.refuse.ensures.answer

pub returns-in-Err-clause-unopened : goal.returns-in-Err-clause-unopened
returns-in-Err-clause-unopened c =
    let can : can_open (before c.self.inside).world c.args.session.0 c.args.name.now c.args.tx c.args.rx c.args.extra ≡ true = rw (← c.self.view_is) at c.requires in
    rw (← c.self.view_is) (refused-said c.self.inside (refused c) c.len.result c.args.session c.args.name.now c.args.tx c.args.rx c.args.extra c.in-Err.fault c.refuse.result c.self.invariant can c.in-Err.ensures.refusal (beside c) c.refuse.ensures.answer)
