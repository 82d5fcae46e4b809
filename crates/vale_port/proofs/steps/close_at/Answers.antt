use Rattle.std.proofs.Common.{vec_capacity, ◌++◌, ◌≡◌, ◌≤◌, get_or, length, rules}
use Rattle.vale_line.specs.Gots.{buffers_of, frames_in}
use Rattle.vale_line.specs.Lines.{held_gots}
use Rattle.vale_port.specs.Ports.{PortState, due_of_state}
use Rattle.nm_region.specs.Buffers.{indices_of}
use Rattle.vale_entry.specs.Closing.{unread_count}
use Rattle.vale_entry.specs.Holdings.{buffers_at_port}
use Rattle.vale_port.specs.Seat.{Seat}
use Rattle.vale_port.proofs.Places.{of-seat, state-of}
use Rattle.vale_port.proofs.steps.close_at.Goals as goal

pub returns-clause-held : goal.returns-clause-held
returns-clause-held c =
    let here : c.remove.result ≡ get_or c.args.ports.now.items c.args.place c.remove.result = search rules in
    of-seat (λ (seat : Seat). indices_of c.close.result.0.items ≡ buffers_at_port seat.held) c.args.ports.now.items c.args.place c.remove.result here c.close.ensures.held

pub returns-clause-unread : goal.returns-clause-unread
returns-clause-unread c =
    let here : c.remove.result ≡ get_or c.args.ports.now.items c.args.place c.remove.result = search rules in
    of-seat (λ (seat : Seat). c.close.result.1 ≡ unread_count seat.port) c.args.ports.now.items c.args.place c.remove.result here c.close.ensures.unread

pub returns-clause-buffers : goal.returns-clause-buffers
returns-clause-buffers c =
    let here : c.remove.result ≡ get_or c.args.ports.now.items c.args.place c.remove.result = search rules in
    state-of (λ (p : PortState). c.close.result.0.items ≡ p.line.idle ++ buffers_of (held_gots p.line.lots)) c.args.ports.now.items c.args.place c.remove.result here c.close.ensures.buffers

pub returns-clause-unread_here : goal.returns-clause-unread_here
returns-clause-unread_here c =
    let here : c.remove.result ≡ get_or c.args.ports.now.items c.args.place c.remove.result = search rules in
    state-of (λ (p : PortState). c.close.result.1 ≡ length (frames_in (held_gots p.line.lots))) c.args.ports.now.items c.args.place c.remove.result here c.close.ensures.unread_here

pub returns-clause-room : goal.returns-clause-room
returns-clause-room c =
    let here : c.remove.result ≡ get_or c.args.ports.now.items c.args.place c.remove.result = search rules in
    state-of (λ (p : PortState). due_of_state p ≤ vec_capacity c.close.result.2) c.args.ports.now.items c.args.place c.remove.result here c.close.ensures.room
