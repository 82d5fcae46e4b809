use Rattle.std.proofs.Common.{◌≡◌}
use Rattle.vale_line.specs.Lines.{given_by_sync, ready_gots}
use Rattle.vale_port.specs.Laws.{with_line}
use Rattle.vale_port.specs.Ports.{PortState, Gives}
use Rattle.nm_region.specs.Buffers.{indices_of}
use Rattle.vale_port.specs.Seat.{Seat, seat_synced}
use Rattle.vale_port.proofs.Places.{changes-at, of-seat, set-of_state, state-of}
use Rattle.vale_port.proofs.steps.sync_at.Goals as goal

pub returns-clause-seats : goal.returns-clause-seats
returns-clause-seats c =
    changes-at (seat_synced (indices_of c.args.back.items)) c.args.ports.now.items c.args.place c.index_mut.result.now c.sync.new.self c.index_mut.ensures.value c.sync.ensures.seat

pub returns-clause-gives : goal.returns-clause-gives
returns-clause-gives c =
    of-seat (λ (seat : Seat). Gives seat c.sync.result.items) c.args.ports.now.items c.args.place c.index_mut.result.now c.index_mut.ensures.value c.sync.ensures.gives

pub returns-clause-got : goal.returns-clause-got
returns-clause-got c =
    state-of (λ (p : PortState). c.sync.result.items ≡ ready_gots p.line.lots) c.args.ports.now.items c.args.place c.index_mut.result.now c.index_mut.ensures.value c.sync.ensures.got

pub returns-clause-line : goal.returns-clause-line
returns-clause-line c =
    set-of_state (λ (p : PortState). with_line (given_by_sync c.args.back.items p.line) p) c.args.ports.now.items c.args.place c.index_mut.result.now c.sync.new.self
    c.index_mut.ensures.value c.sync.ensures.line
