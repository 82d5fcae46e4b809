use Rattle.std.proofs.Common.{ℕ, ◌+◌, vec_capacity, ◌≡◌, ◌≤◌, List, ap, sym, ◌∙◌, subst, length, arith, rules}
use Rattle.nm_region.specs.Buffers.{indices_of}
use Rattle.vale_line.specs.declared.got.Got.{Got}
use Rattle.vale_line.specs.Lines.{LineState, out_of}
use Rattle.vale_port.specs.Ports.{PortState, IsSeatOf, Gives}
use Rattle.vale_port.specs.Seat.{seat_synced}
use Rattle.vale_port.specs.Stored.{state_of}
use Rattle.vale_port.proofs.Calls.{out-synced}
use Rattle.vale_port.proofs.SeatTies.{sync_is_sync}
use Rattle.vale_port.proofs.port.Port.sync.Goals as goal

few-back : (c : goal.After-sync) → length c.args.back.items ≤ out_of c.self.inside.line
few-back c = subst (λ (q : PortState). length c.args.back.items ≤ out_of q.line) (sym c.self.view_is) c.requires.returned

pub invariant_of-self : goal.invariant_of-self
invariant_of-self c =
    let line = c.self.inside.line in
    let back = c.args.back.items in
    let count : c.len.result ≡ length back = search rules in
    let ready = c.ready-ready.ensures.gots in
    let was = c.self.invariant in
    let out = was.out_is in
    let next = out-synced line back c.sync.ensures.was (few-back c) in
    let most : ℕ → Type 0 = λ size. c.self.inside.tx + c.self.inside.extra + size ≤ vec_capacity c.self.inside.numbers in
    record {
      out_is = omega (arith, count, ready, out, next) ∙ ap out_of (sym c.sync.ensures.line);
      none = was.none;
      room = subst most (sym (ap (λ (l : LineState). l.size) c.sync.ensures.line)) was.room;
    }

pub returns-clause-seat : goal.returns-clause-seat
returns-clause-seat c = λ seat is.
    let p : PortState = state_of c.self.inside in
    let back = c.args.back.items in
    let was : IsSeatOf seat p = subst (IsSeatOf seat) (sym c.self.view_is) is in
    let next = (sync_is_sync seat p back was c.sync.ensures.was (few-back c)).1 in
    subst (λ (l : LineState). IsSeatOf (seat_synced (indices_of back) seat) (record p { line = l })) (sym c.sync.ensures.line) next

pub returns-clause-gives : goal.returns-clause-gives
returns-clause-gives c = λ seat is.
    let p : PortState = state_of c.self.inside in
    let was : IsSeatOf seat p = subst (IsSeatOf seat) (sym c.self.view_is) is in
    let gives = (sync_is_sync seat p c.args.back.items was c.sync.ensures.was (few-back c)).0 in
    subst (λ (gots : List Got). Gives seat gots) (sym c.sync.ensures.got) gives
