use Rattle.std.proofs.Common.{ℕ, ◌+◌, List, length, take, ap, subst, ◌∙◌}
use Rattle.nm_region.specs.Buffers.{indices_of}
use Rattle.vale_line.specs.Gots.{buffers_of}
use Rattle.vale_entry.specs.declared.entry.Entry.{Entry}
use Rattle.vale_port.specs.Lists.{ChangesSeat}
use Rattle.vale_port.specs.Seat.{seat_put}
use Rattle.vale_steps.proofs.putting.put_to_peer.Goals as goal

pub returns-clause-seats : goal.returns-clause-seats
returns-clause-seats c = λ session frames is.
    let taken = take c.args.putting.took c.args.pending.now.items in
    subst (λ (n : ℕ). ChangesSeat (seat_put (n + 1) session frames (indices_of (buffers_of taken))) c.args.ports.now.items c.args.putting.place c.take_at-back.new.ports.items)
    (c.len-number.ensures.len ∙ ap (λ (es : List Entry). length es) c.room_to_put.ensures.entries) (c.take_at-back.ensures.seats session frames is)
