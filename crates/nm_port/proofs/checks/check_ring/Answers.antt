use Rattle.std.proofs.Common.{◌≡◌, ◌+◌}
use Rattle.nm_hold.specs.Holds.{buffers_of}
use Rattle.nm_port.specs.Sides.{AreMarkedOf, names_pushed}
use Rattle.nm_port.proofs.Judging.{blank_again}
use Rattle.nm_port.proofs.Pushes.{names-seen}
use Rattle.nm_port.proofs.checks.check_ring.Goals as goal
use Rattle.nm_port.proofs.checks.check_ring.Goals.{After-clear_marks}

-- the marks are blank again
blank : (c : After-clear_marks) → c.clear_marks.new.marks ≡ c.args.marks.now
blank c =
    let names = names_pushed c.args.ring.now in
    let marked : AreMarkedOf c.judge_pushed-judged.new.marks names = rw (names-seen c.args.hold.now c.args.port c.args.ring.now) at c.judge_pushed-judged.ensures.marks in
    blank_again c.args.marks.now c.judge_pushed-judged.new.marks c.clear_marks.new.marks names (buffers_of c.args.hold.now + 2) c.requires marked c.judge_pushed-judged.ensures.count c.clear_marks.ensures.count c.clear_marks.ensures.cleared

pub returns-clause-same : goal.returns-clause-same
returns-clause-same c = blank (goal.at.returns-clause-same c).After-clear_marks

pub returns-in_err-judged-clause-same : goal.returns-in_err-judged-clause-same
returns-in_err-judged-clause-same c = blank (goal.at.returns-in_err-judged-clause-same c).After-clear_marks
