use Rattle.std.proofs.Common.{◌≡◌, ◌-◌, ◌<◌, ◌∙◌, ap, length, sum_by, sym, arith}
use Rattle.std.proofs.lemmas.List.Sums.{sum_by_push}
use Rattle.vale_text.specs.Reading.{listed_in}
use Rattle.std.proofs.lemmas.Bool.{eqb-true}
use Rattle.vale_text.proofs.Reading.{above-zero, read-all, read-more, past-last, bad-line, missing-end, cut-shorter, count-more}
use Rattle.vale_text.proofs.reader.read_since.Goals as goal

pub returns-then-is_empty-clause-ok : goal.returns-then-is_empty-clause-ok
returns-then-is_empty-clause-ok c =
    let over : length c.in-Some.after.now ≡ 0 = eqb-true (length c.in-Some.after.now) 0 (sym c.is_empty.ensures ∙ c.if-is_empty.true) in
    rw (c.free_in-free.ensures) (read-all c.args.oldest c.in_ok-start.start.version c.in_ok-start.start.pool c.args.bytes.now c.loop-line.entries.items c.loop-line.rest.now c.in-Some.line.now c.in-Some.after.now (c.loop-line.at - 2) c.loop-line.invariant.read c.in-Some.ensures.some
    (omega (arith, c.loop-line.invariant.number)) (sym c.in_ok-is_end.ensures ∙ c.if-branch.true) over)

pub returns-then-branch-clause-bad : goal.returns-then-branch-clause-bad
returns-then-branch-clause-bad c =
    let more : 0 < length c.in-Some.after.now = above-zero (length c.in-Some.after.now) (sym c.is_empty.ensures ∙ c.if-is_empty.false) in
    past-last c.args.oldest c.in_ok-start.start.version c.in_ok-start.start.pool c.args.bytes.now c.loop-line.entries.items c.loop-line.rest.now c.in-Some.line.now c.in-Some.after.now c.loop-line.at (c.loop-line.at - 2) c.loop-line.invariant.read
    c.in-Some.ensures.some c.loop-line.invariant.number (omega (arith, c.loop-line.invariant.number)) (sym c.in_ok-is_end.ensures ∙ c.if-branch.true) more

pub returns-in-None-clause-bad : goal.returns-in-None-clause-bad
returns-in-None-clause-bad c =
    bad-line c.args.oldest c.in_ok-start.start.version c.in_ok-start.start.pool c.args.bytes.now c.loop-line.entries.items c.loop-line.rest.now c.in-Some.line.now c.in-Some.after.now c.loop-line.at (c.loop-line.at - 1) (c.loop-line.at - 2)
    c.loop-line.invariant.read c.in-Some.ensures.some c.loop-line.invariant.number (omega (arith, c.loop-line.invariant.number)) (omega (arith, c.loop-line.invariant.number))
    (sym c.in_ok-is_end.ensures ∙ c.if-branch.false) (sym c.in_ok-entry.ensures ∙ c.in-None.is)

pub loop-line-preserved : goal.loop-line-preserved
loop-line-preserved c =
    let shorter = cut-shorter c.loop-line.rest.now c.in-Some.line.now c.in-Some.after.now c.in-Some.ensures.some in
    record {
      read = rw (c.in_ok-push-in-Some-2.ensures.items) (read-more c.args.oldest c.in_ok-start.start.version c.in_ok-start.start.pool c.args.bytes.now c.loop-line.entries.items c.loop-line.rest.now c.in-Some.line.now c.in-Some.after.now (c.loop-line.at - 1)
          c.in-Some-2.entry c.loop-line.invariant.read c.in-Some.ensures.some (omega (arith, c.loop-line.invariant.number)) (omega (arith, c.loop-line.invariant.room, c.requires)) (sym c.in_ok-entry.ensures ∙ c.in-Some-2.is));
      number = rw (c.in_ok-push-in-Some-2.ensures.items) (count-more c.loop-line.entries.items c.in-Some-2.entry c.loop-line.at c.loop-line.invariant.number);
      room = omega (arith, c.loop-line.invariant.room, shorter);
      listed = omega (arith, ap (sum_by listed_in) c.in_ok-push-in-Some-2.ensures.items, sum_by_push listed_in c.loop-line.entries.items c.in-Some-2.entry, c.in_ok-left-in-Some-2.ensures, c.loop-line.invariant.listed);
    }

pub returns-clause-bad : goal.returns-clause-bad
returns-clause-bad c = missing-end c.args.oldest c.in_ok-start.start.version c.in_ok-start.start.pool c.args.bytes.now c.loop-line.entries.items c.loop-line.rest.now c.loop-line.at c.loop-line.invariant.read c.in_default.ensures.none c.loop-line.invariant.number
