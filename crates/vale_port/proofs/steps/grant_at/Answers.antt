use Rattle.std.proofs.Common.{◌≡◌, []}
use Rattle.vale_line.specs.Leased.{Leased, buffer_count}
use Rattle.vale_line.specs.Lines.{granted_sizes, leased, with_lease}
use Rattle.vale_port.specs.Laws.{with_line}
use Rattle.vale_port.specs.Ports.{PortState}
use Rattle.vale_port.specs.Seat.{seat_given}
use Rattle.vale_port.proofs.Places.{changes-at, lease-of_seat, none-of_seat, none-of_state, some-of_state, some-set, none-set}
use Rattle.vale_port.proofs.steps.grant_at.Goals as goal

pub returns-clause-seats : goal.returns-clause-seats
returns-clause-seats c = λ offer same.
    changes-at (seat_given c.args.id.0 offer) c.args.ports.now.items c.args.place c.index_mut.result.now c.grant.new.self c.index_mut.ensures.value
    (λ seat is. c.grant.ensures.seat seat offer is same)

pub returns-clause-some : goal.returns-clause-some
returns-clause-some c =
    lease-of_seat c.args.id.0 c.args.want.now c.args.ports.now.items c.args.place c.index_mut.result.now c.grant.result c.index_mut.ensures.value c.grant.ensures.some

pub returns-clause-none : goal.returns-clause-none
returns-clause-none c =
    none-of_seat c.args.want.now c.args.ports.now.items c.args.place c.index_mut.result.now c.grant.result c.index_mut.ensures.value c.grant.ensures.none

pub returns-clause-refused : goal.returns-clause-refused
returns-clause-refused c =
    none-of_state (λ (p : PortState). granted_sizes c.args.want.now p.line ≡ []) c.args.ports.now.items c.args.place c.index_mut.result.now c.grant.result
    c.index_mut.ensures.value c.grant.ensures.refused

pub returns-clause-lease : goal.returns-clause-lease
returns-clause-lease c =
    some-of_state (λ (p : PortState) (lease : Leased). lease ≡ leased c.args.id p.id (granted_sizes c.args.want.now p.line) p.line) c.args.ports.now.items c.args.place
    c.index_mut.result.now c.grant.result c.index_mut.ensures.value c.grant.ensures.lease

pub returns-clause-lot : goal.returns-clause-lot
returns-clause-lot c =
    some-set (λ (lease : Leased) (p : PortState). with_line (with_lease c.args.id (buffer_count lease) p.line) p) c.args.ports.now.items c.args.place
    c.index_mut.result.now c.grant.new.self c.grant.result c.index_mut.ensures.value c.grant.ensures.lot

pub returns-clause-kept : goal.returns-clause-kept
returns-clause-kept c =
    none-set c.args.ports.now.items c.args.place c.index_mut.result.now c.grant.new.self c.grant.result c.index_mut.ensures.value c.grant.ensures.kept
