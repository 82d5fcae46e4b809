use Rattle.std.proofs.Common.{List, ℕ, [], ◌≡◌, ◌++◌, length, Option, subst}
use Rattle.std.proofs.lemmas.Result.{err_from_is_err_and}
use Rattle.nm_io.specs.Gathered.{Gathered}
use Rattle.nm_io.specs.Held.{GrowsByPrefix}
use Rattle.nm_io.proofs.Gathering.{gathered_more, gathered_fails, gathered_all, gathered_some, grows_past}
use Rattle.vale_entry.specs.Transcript.{entry_lines, end_line}
use Rattle.vale_text.proofs.transcript.put_rest.Goals as goal

-- the lines of the entries and the last one were gathered behind nothing
all-lines : {old middle new : Option (List ℕ)} {p q r lines last : List ℕ} → p ≡ []
    → Gathered old middle p q lines → Gathered middle new q r last
    → Gathered old new [] r (lines ++ last)
all-lines {old} {middle} {new} {p} {q} {r} {lines} {last} empty first second =
    subst (λ (bytes : List ℕ). Gathered old new bytes r (lines ++ last)) empty
    (gathered_more old middle new p q r lines last first second)

pub returns-in_err-put_line-clause-writes : goal.returns-in_err-put_line-clause-writes
returns-in_err-put_line-clause-writes g c =
    let old = g.K.Sink.holds c.args.out.now in
    let new = g.K.Sink.holds c.put_line.new.out in
    let lines : List ℕ = entry_lines 2 1 c.args.entries.now in
    let last : List ℕ = end_line (length c.args.entries.now) c.args.free in
    rw ((err_from_is_err_and c.from_residual-in_err-put_line.result c.from_residual-in_err-put_line.ensures.1).1)
    (subst (λ (bytes : List ℕ). GrowsByPrefix old new (bytes ++ (lines ++ last))) c.requires.empty
    (gathered_fails old (g.K.Sink.holds c.put_entries.new.out) new c.args.lines.now.bytes
    c.put_entries.new.lines.bytes lines last c.in_ok-put_entries.ensures.gathers
    c.in_err-put_line.ensures.gathers))

pub returns-in_err-put_gathered-clause-writes : goal.returns-in_err-put_gathered-clause-writes
returns-in_err-put_gathered-clause-writes g c =
    rw ((err_from_is_err_and c.from_residual-in_err-put_gathered.result c.from_residual-in_err-put_gathered.ensures.1).1)
    (gathered_some _ _ _ _ _ (all-lines c.requires.empty c.in_ok-put_entries.ensures.gathers
    c.in_ok-put_line.ensures.gathers) c.in_err-put_gathered.ensures.writes)

pub returns-clause-writes : goal.returns-clause-writes
returns-clause-writes g c =
    gathered_all _ _ _ _ _ (all-lines c.requires.empty c.in_ok-put_entries.ensures.gathers
    c.in_ok-put_line.ensures.gathers) c.in_ok-put_gathered.ensures.writes

pub returns-in_err-put_entries-clause-writes : goal.returns-in_err-put_entries-clause-writes
returns-in_err-put_entries-clause-writes g c =
    let old = g.K.Sink.holds c.args.out.now in
    let new = g.K.Sink.holds c.put_entries.new.out in
    let lines : List ℕ = entry_lines 2 1 c.args.entries.now in
    let last : List ℕ = end_line (length c.args.entries.now) c.args.free in
    rw ((err_from_is_err_and c.from_residual.result c.from_residual.ensures.1).1)
    (subst (λ (bytes : List ℕ). GrowsByPrefix old new (bytes ++ (lines ++ last))) c.requires.empty
    (grows_past old new c.args.lines.now.bytes lines last c.in_err-put_entries.ensures.gathers))
