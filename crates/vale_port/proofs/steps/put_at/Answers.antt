use Rattle.vale_port.specs.Laws.{with_line, line_after_put}
use Rattle.vale_port.specs.Ports.{PortState}
use Rattle.std.proofs.Common.{◌≡◌, length, min, take}
use Rattle.nm_region.specs.Buffers.{indices_of}
use Rattle.vale_line.specs.Gots.{buffers_of}
use Rattle.vale_line.specs.Lines.{space_of as line_space}
use Rattle.vale_entry.specs.Pipe.{taken_count}
use Rattle.std.specs.Prelude.{Some}
use Rattle.vale_port.specs.Seat.{Seat, seat_put}
use Rattle.vale_port.proofs.Places.{changes-at, of-seat, set-of_state, state-of}
use Rattle.vale_port.proofs.steps.put_at.Goals as goal

pub returns-clause-number : goal.returns-clause-number
returns-clause-number c =
    state-of (λ (p : PortState). length c.put.result.items ≡ min (length c.args.pending.now.items) (line_space p.line)) c.args.ports.now.items c.args.place
    c.index_mut.result.now c.index_mut.ensures.value c.put.ensures.count

pub returns-clause-took : goal.returns-clause-took
returns-clause-took c =
    of-seat (λ (seat : Seat). length c.put.result.items ≡ taken_count (Some seat.port) (length c.args.pending.now.items)) c.args.ports.now.items c.args.place
    c.index_mut.result.now c.index_mut.ensures.value c.put.ensures.took

pub returns-clause-seats : goal.returns-clause-seats
returns-clause-seats c = λ session frames bytes.
    let taken = take (length c.put.result.items) c.args.pending.now.items in
    changes-at (seat_put c.args.id.0 session frames (indices_of (buffers_of taken))) c.args.ports.now.items c.args.place c.index_mut.result.now c.put.new.self
    c.index_mut.ensures.value (λ seat is. c.put.ensures.seat seat session frames is bytes)

pub returns-clause-idle : goal.returns-clause-idle
returns-clause-idle c =
    of-seat (λ (seat : Seat). indices_of c.put.result.items ≡ take (length c.put.result.items) seat.held.idle) c.args.ports.now.items c.args.place
    c.index_mut.result.now c.index_mut.ensures.value c.put.ensures.idle

pub returns-clause-back : goal.returns-clause-back
returns-clause-back c =
    state-of (λ (p : PortState). c.put.result.items ≡ take (length c.put.result.items) p.line.idle) c.args.ports.now.items c.args.place c.index_mut.result.now
    c.index_mut.ensures.value c.put.ensures.back

pub returns-clause-line : goal.returns-clause-line
returns-clause-line c =
    let taken = take (length c.put.result.items) c.args.pending.now.items in
    set-of_state (λ (p : PortState). with_line (line_after_put c.args.id taken p.line) p) c.args.ports.now.items c.args.place c.index_mut.result.now c.put.new.self
    c.index_mut.ensures.value c.put.ensures.line
