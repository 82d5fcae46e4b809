use Rattle.std.proofs.Common.{◌≡◌, ap, sym, ◌∙◌, subst}
use Rattle.nm_region.specs.Buffers.{indices_of}
use Rattle.vale_lease.specs.Leases.{out_count}
use Rattle.vale_line.specs.Lines.{leases_of}
use Rattle.vale_port.specs.Ports.{PortState, IsSeatOf}
use Rattle.vale_port.specs.Stored.{state_of}
use Rattle.vale_port.proofs.SeatTies.{clear_gives_all}
use Rattle.vale_port.proofs.port.Port.close.Goals as goal

pub returns-clause-held : goal.returns-clause-held
returns-clause-held c = λ seat is.
    let p : PortState = state_of c.self.inside in
    let was : IsSeatOf seat p = subst (IsSeatOf seat) (sym c.self.view_is) is in
    let none : out_count (leases_of c.self.inside.line.lots) ≡ 0 = ap (λ (q : PortState). out_count (leases_of q.line.lots)) c.self.view_is ∙ c.requires in
    ap indices_of c.clear-bufs.ensures.buffers ∙ (clear_gives_all seat p was c.clear-bufs.ensures.was none).0

pub returns-clause-unread : goal.returns-clause-unread
returns-clause-unread c = λ seat is.
    let p : PortState = state_of c.self.inside in
    let was : IsSeatOf seat p = subst (IsSeatOf seat) (sym c.self.view_is) is in
    let none : out_count (leases_of c.self.inside.line.lots) ≡ 0 = ap (λ (q : PortState). out_count (leases_of q.line.lots)) c.self.view_is ∙ c.requires in
    c.clear-bufs.ensures.unread ∙ (clear_gives_all seat p was c.clear-bufs.ensures.was none).1
