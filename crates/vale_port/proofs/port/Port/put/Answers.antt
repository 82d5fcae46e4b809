use Rattle.std.proofs.Common.{◌≡◌, List, ap, sym, ◌∙◌, subst, length, take, drop, min, rules}
use Rattle.nm_region.specs.Buffers.{Buffer}
use Rattle.vale_line.specs.Lines.{LineState, with_put}
use Rattle.vale_line.specs.Lines.{space_of as line_space}
use Rattle.vale_port.specs.Laws.{line_after_put, with_line}
use Rattle.vale_port.specs.Ports.{PortState, IsSeatOf}
use Rattle.vale_port.specs.Stored.{state_of}
use Rattle.vale_port.proofs.Calls.{Taking, taking, line-taken, seat-taken, count-taken, lent-seat}
use Rattle.vale_port.proofs.port.Port.put.Goals as goal

-- what was handed out and what was taken
record Step (c : goal.After-destroy_empty-2) : Type 0 where
  takes : Taking (state_of c.self.inside) c.args.pending.now.items c.min-count.result (length c.give.new.back.items) c.give.new.back.items c.give.new.taken.items
  line : c.accept.new.self ≡ line_after_put c.args.id (take (length c.give.new.back.items) c.args.pending.now.items) c.self.inside.line

step : (c : goal.After-destroy_empty-2) → Step c
step c =
    let p : PortState = state_of c.self.inside in
    let pending = c.args.pending.now.items in
    let least : c.min-count.result ≡ min (length pending) (line_space p.line) = search rules in
    let back : c.give.new.back.items ≡ c.lend-lent.result.items = rw c.into_vecs-taken.ensures.back at c.give.ensures.back in
    let lent : c.give.new.back.items ≡ take c.min-count.result p.line.idle = search rules in
    let took : c.give.new.taken.items ≡ take (length c.lend-lent.result.items) pending = rw c.into_vecs-taken.ensures.taken at c.give.ensures.taken in
    let takes = taking p pending c.min-count.result c.give.new.back.items c.give.new.taken.items c.lend-lent.ensures.was least lent
    (took ∙ ap (λ (bufs : List Buffer). take (length bufs) pending) (sym back)) in
    let made : c.accept.new.self ≡ with_put c.args.id c.give.new.taken.items (record p.line { idle = drop c.min-count.result p.line.idle }) =
    c.accept.ensures.line ∙ ap (λ (l : LineState). with_put c.args.id c.give.new.taken.items l) c.lend-lent.ensures.line in
    record {
      takes = takes;
      line = line-taken p c.args.id pending c.min-count.result (length c.give.new.back.items) c.give.new.back.items c.give.new.taken.items c.accept.new.self takes made;
    }

pub returns-clause-count : goal.returns-clause-count
returns-clause-count c = (step c).takes.least ∙ ap (λ (q : PortState). min (length c.args.pending.now.items) (line_space q.line)) c.self.view_is

pub returns-clause-took : goal.returns-clause-took
returns-clause-took c = λ seat is.
    let was : IsSeatOf seat (state_of c.self.inside) = subst (IsSeatOf seat) (sym c.self.view_is) is in
    count-taken seat (state_of c.self.inside) (length c.args.pending.now.items) (length c.give.new.back.items) was c.lend-lent.ensures.was (step c).takes.least

pub returns-clause-seat : goal.returns-clause-seat
returns-clause-seat c = λ seat session frames is bytes.
    let p : PortState = state_of c.self.inside in
    let was : IsSeatOf seat p = subst (IsSeatOf seat) (sym c.self.view_is) is in
    let s = step c in
    seat-taken seat p c.args.id session frames c.args.pending.now.items c.min-count.result (length c.give.new.back.items) c.give.new.back.items c.give.new.taken.items
    c.accept.new.self was c.lend-lent.ensures.was c.requires.single c.requires.fits s.takes s.line bytes

pub returns-clause-line : goal.returns-clause-line
returns-clause-line c =
    let p : PortState = state_of c.self.inside in
    let taken = take (length c.give.new.back.items) c.args.pending.now.items in
    ap (λ (l : LineState). with_line l p) (step c).line ∙ ap (λ (q : PortState). with_line (line_after_put c.args.id taken q.line) q) c.self.view_is

pub returns-clause-back : goal.returns-clause-back
returns-clause-back c =
    (step c).takes.back_is ∙ ap (λ (q : PortState). take (length c.give.new.back.items) q.line.idle) c.self.view_is

pub returns-clause-idle : goal.returns-clause-idle
returns-clause-idle c = λ seat is.
    let was : IsSeatOf seat (state_of c.self.inside) = subst (IsSeatOf seat) (sym c.self.view_is) is in
    lent-seat seat (state_of c.self.inside) (length c.give.new.back.items) c.give.new.back.items was (step c).takes.back_is
