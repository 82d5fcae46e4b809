use Rattle.std.proofs.Common.{List, ℕ, ◌≡◌, map, string_bytes, Option, Some, None, option_map, sym, ◌∙◌, ap, subst, arith}
use Rattle.nm_types.specs.declared.limits.TheConstants.Limits.{VERSION_2}
use Rattle.vale_run.specs.Run.{Io, io_of, script_name}
use Rattle.vale_run.specs.Load.{load_number}
use Rattle.vale_run.specs.Migrate.{text_name}
use Rattle.vale_run.specs.Complete.{Completes}
use Rattle.vale_run.proofs.Completing.{named-complete}
use Rattle.vale_run.proofs.Migrating.{named-migrates}
use Rattle.vale_run.proofs.command.run_leaving.Goals as goal

pub returns-in-Some-clause-completes : goal.returns-in-Some-clause-completes
returns-in-Some-clause-completes g c =
    let words : List (List ℕ) = map string_bytes c.args.words.now in
    let io : Io = io_of g.S.Shelf g.K.Sink c.args.shelf.now c.run_file.new.shelf c.args.out.now
    c.run_file.new.out in
    let is : Some c.in-Some.name.now ≡ script_name words =
    sym (ap (option_map (λ name. name.now)) c.in-Some.is) ∙ c.script_name.ensures in
    subst (λ (script : Option (List ℕ)). Completes script (load_number words) (text_name words) io c.run_file.result) is
    (named-complete VERSION_2 (omega arith) (omega arith) c.in-Some.name.now io c.run_file.result
    (load_number words) (text_name words) c.run_file.ensures.ends)

pub returns-in-Some-text_name-clause-completes : goal.returns-in-Some-text_name-clause-completes
returns-in-Some-text_name-clause-completes g c =
    let words : List (List ℕ) = map string_bytes c.args.words.now in
    let io : Io = io_of g.S.Shelf g.K.Sink c.args.shelf.now c.migrate_file.new.shelf c.args.out.now
    c.migrate_file.new.out in
    named-migrates (script_name words) (load_number words) (text_name words)
    c.in-Some-text_name.name.now io c.migrate_file.result
    (sym c.script_name.ensures ∙ ap (option_map (λ name. name.now)) c.in-None.is)
    (sym c.load_number.ensures ∙ c.in-None-load_number.is)
    (sym c.text_name.ensures ∙ ap (option_map (λ name. name.now)) c.in-Some-text_name.is)
    c.migrate_file.ensures.ends
