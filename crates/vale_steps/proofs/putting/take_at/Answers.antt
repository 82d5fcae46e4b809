use Rattle.std.proofs.Common.{ℕ, ◌≡◌, length, take, drop, min, ap, sym, subst, ◌∙◌}
use Rattle.nm_region.specs.Buffers.{indices_of}
use Rattle.vale_line.specs.Gots.{buffers_of, frames_in}
use Rattle.vale_line.specs.Lines.{space_of as line_space}
use Rattle.vale_port.specs.Kept.{bytes_of}
use Rattle.vale_port.specs.Lists.{ChangesSeat}
use Rattle.vale_port.specs.Ports.{PortState}
use Rattle.vale_port.specs.Seat.{seat_put}
use Rattle.vale_steps.proofs.PutLists.{same-count}
use Rattle.vale_steps.proofs.putting.take_at.Goals as goal

same : (c : goal.After-put_at) → length c.put_at.result.items ≡ c.args.putting.took
same c =
    same-count c.args.ports.now.items c.args.putting.place (λ (p : PortState). min (length c.args.pending.now.items) (line_space p.line)) (length c.put_at.result.items) c.args.putting.took
    c.requires.place c.put_at.ensures.number c.requires.took

pub returns-clause-seats : goal.returns-clause-seats
returns-clause-seats c = λ session frames is.
    let pending = c.args.pending.now.items in
    subst (λ (n : ℕ). ChangesSeat (seat_put c.args.id.0 session frames (indices_of (buffers_of (take n pending)))) c.args.ports.now.items c.args.putting.place c.put_at.new.ports.items) (same c)
    (c.put_at.ensures.seats session frames (subst (λ (n : ℕ). bytes_of frames ≡ frames_in (take n pending)) (sym (same c)) is))

pub returns-clause-pending : goal.returns-clause-pending
returns-clause-pending c = c.put_at.ensures.pending ∙ ap (λ (n : ℕ). drop n c.args.pending.now.items) (same c)

pub returns-clause-idle : goal.returns-clause-idle
returns-clause-idle c = λ seats seat are here. c.put_at.ensures.idle seats seat are here ∙ ap (λ (n : ℕ). take n seat.held.idle) (same c)
