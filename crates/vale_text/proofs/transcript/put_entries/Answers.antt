use Rattle.std.proofs.Common.{rules, ℕ, List, [], ◌++◌, sym, ap, subst, arith, take_all}
use Rattle.std.proofs.lemmas.List.{append-nil}
use Rattle.std.proofs.lemmas.Result.{err_from_is_err_and}
use Rattle.nm_io.specs.Held.{GrowsByPrefix}
use Rattle.nm_io.specs.Gathered.{Gathered}
use Rattle.nm_io.proofs.Gathering.{gathered_fails}
use Rattle.vale_entry.specs.declared.entry.Entry.{Entry}
use Rattle.vale_entry.specs.Transcript.{entry_lines}
use Rattle.vale_text.proofs.Entries.{entries_more, entries_fail, gathered_behind, grows_none}
use Rattle.vale_text.proofs.transcript.put_entries.Given as given
use Rattle.vale_text.proofs.transcript.put_entries.Goals.{After-loop-i}
use Rattle.vale_text.proofs.transcript.put_entries.Goals as goal

pub returns-in_err-put_entry-clause-gathers : goal.returns-in_err-put_entry-clause-gathers
returns-in_err-put_entry-clause-gathers g c =
    let p = err_from_is_err_and c.from_residual.result c.from_residual.ensures.1 in
    rw (p.1) (entries_fail (g.K.Sink.holds c.args.out.now) (g.K.Sink.holds c.loop-i.out) (g.K.Sink.holds c.put_entry.new.out) c.args.lines.now.bytes (c.loop-i.lines.bytes ++ c.loop-i.strip) c.args.entries.now c.loop-i.i c.index-entries-i.result c.loop-i-test.true c.index-entries-i.is c.loop-i.invariant.gathered c.in_err-put_entry.ensures.gathers)

pub loop-i-preserved : goal.loop-i-preserved
loop-i-preserved g c = record {
  gathered = entries_more (g.K.Sink.holds c.args.out.now) (g.K.Sink.holds c.loop-i.out) (g.K.Sink.holds c.put_entry.new.out) c.args.lines.now.bytes (c.loop-i.lines.bytes ++ c.loop-i.strip) (c.put_entry.new.lines.bytes ++ c.put_entry.new.strip) c.args.entries.now c.loop-i.i c.index-entries-i.result c.loop-i-test.true c.index-entries-i.is c.loop-i.invariant.gathered c.in_ok-put_entry.ensures.gathers;
  later = search rules;
}

pub loop-i-init : goal.loop-i-init
loop-i-init g c = record {
  gathered = gathered_behind (g.K.Sink.holds c.args.out.now) c.args.lines.now.bytes (c.args.lines.now.bytes ++ c.new-strip.result) [] (ap (λ (s : List ℕ). c.args.lines.now.bytes ++ s) c.new-strip.ensures);
  later = search rules;
}

-- all lines were gathered, on the strip too
all-lines : (g : given.Over) (c : After-loop-i g) → Gathered (g.K.Sink.holds c.args.out.now) (g.K.Sink.holds c.loop-i.out) c.args.lines.now.bytes (c.loop-i.lines.bytes ++ c.loop-i.strip) (entry_lines 2 1 c.args.entries.now)
all-lines g c =
    subst (λ (es : List Entry). Gathered (g.K.Sink.holds c.args.out.now) (g.K.Sink.holds c.loop-i.out) c.args.lines.now.bytes (c.loop-i.lines.bytes ++ c.loop-i.strip) (entry_lines 2 1 es))
    (take_all c.loop-i.i c.args.entries.now (omega (arith, c.loop-i-test.false))) c.loop-i.invariant.gathered

pub returns-clause-gathers : goal.returns-clause-gathers
returns-clause-gathers g c =
    subst (λ (bytes : List ℕ). Gathered (g.K.Sink.holds c.args.out.now) (g.K.Sink.holds c.loop-i.out) c.args.lines.now.bytes bytes (entry_lines 2 1 c.args.entries.now))
    (sym c.in_ok-gather_strip.ensures) (all-lines g (goal.at.returns-clause-gathers g c).After-loop-i)

pub returns-in_err-gather_strip-clause-gathers : goal.returns-in_err-gather_strip-clause-gathers
returns-in_err-gather_strip-clause-gathers g c =
    let held = g.K.Sink.holds c.loop-i.out in
    let page : List ℕ = c.loop-i.lines.bytes ++ c.loop-i.strip in
    let lines : List ℕ = entry_lines 2 1 c.args.entries.now in
    let none = gathered_fails (g.K.Sink.holds c.args.out.now) held held c.args.lines.now.bytes page lines [] (all-lines g (goal.at.returns-in_err-gather_strip-clause-gathers g c).After-loop-i) (grows_none held (page ++ [])) in
    rw ((err_from_is_err_and c.from_residual-in_err-gather_strip.result c.from_residual-in_err-gather_strip.ensures.1).1)
    (subst (λ (text : List ℕ). GrowsByPrefix (g.K.Sink.holds c.args.out.now) held (c.args.lines.now.bytes ++ text)) (append-nil lines) none)
