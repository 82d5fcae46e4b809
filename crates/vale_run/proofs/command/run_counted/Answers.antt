use Rattle.std.proofs.Common.{ℕ, ◌≤◌, List, length, Option, refl, sym, subst, arith}
use Rattle.std.specs.Str.Lines.{lines}
use Rattle.nm_io.specs.Files.{Files}
use Rattle.nm_types.specs.declared.limits.TheConstants.Limits.{VERSION_2}
use Rattle.vale_captures.specs.Inputs.{AreInputs, StopsReading}
use Rattle.vale_captures.proofs.Few.{plays-few}
use Rattle.vale_run.specs.Run.{Io, io_of, HasInputs}
use Rattle.nm_types.specs.Limits.{most_capture_bytes}
use Rattle.vale_run.proofs.Histories.{inputs-named}
use Rattle.vale_run.proofs.Endings.{stops-there, ends-input}
use Rattle.vale_run.proofs.Since.{ends-since}
use Rattle.vale_run.proofs.command.run_counted.Goals as goal

pub run_inputs-requires-clause-files : goal.run_inputs-requires-clause-files
run_inputs-requires-clause-files g c κs within =
    let read = c.in-Ok.ensures.read in
    inputs-named (g.S.Shelf.files c.args.shelf.now) c.args.script.now.files c.in-Ok.inputs read.0
    (subst (λ (names : List (List ℕ)). AreInputs (g.S.Shelf.files c.args.shelf.now) names
    c.in-Ok.inputs read.0) c.files.ensures read.1.0)

pub run_inputs-requires-clause-few : goal.run_inputs-requires-clause-few
run_inputs-requires-clause-few g c κs within =
    let read = c.in-Ok.ensures.read in
    let said = c.requires.said in
    let few : length (lines said.script) ≤ 10000 = said.few in
    let small : read.0 ≤ 67108864 = read.1.1 in
    plays-few (g.S.Shelf.files c.args.shelf.now) c.files.result.now c.in-Ok.inputs read.0
    said.script c.args.script.now said.says (omega (arith, few)) read.1.0 (omega (arith, small))

pub input_fault-requires : goal.input_fault-requires
input_fault-requires g c =
    stops-there (g.S.Shelf.files c.args.shelf.now) c.args.script.now.files most_capture_bytes
    (λ name. (
      g.S.Shelf.read_faults c.args.shelf.now name,
      g.S.Shelf.read_faults
          c.read_inputs.new.shelf name,
    )) c.in-Err.at c.in-Err.fault
    (subst (λ (names : List (List ℕ)). StopsReading (g.S.Shelf.files c.args.shelf.now) names
    most_capture_bytes (λ name. (
      g.S.Shelf.read_faults c.args.shelf.now name,
      g.S.Shelf.read_faults
          c.read_inputs.new.shelf name,
    )) (c.in-Err.at, c.in-Err.fault)) c.files.ensures
    c.in-Err.ensures.stops)

pub returns-in-Ok-clause-ends : goal.returns-in-Ok-clause-ends
returns-in-Ok-clause-ends g c = λ name counted.
    let read = c.in-Ok.ensures.read in
    let has : HasInputs (g.S.Shelf.files c.args.shelf.now) name c.args.script.now c.in-Ok.inputs =
    record {
      counted = counted;
      size = read.0;
      read = subst (λ (names : List (List ℕ)). AreInputs (g.S.Shelf.files c.args.shelf.now) names
          c.in-Ok.inputs read.0) c.files.ensures read.1.0;
      within = read.1.1;
    } in
    ends-since g.S.Shelf g.K.Sink c.args.shelf.now c.read_inputs.new.shelf c.run_inputs.new.shelf
    c.args.out.now c.run_inputs.new.out VERSION_2 name c.run_inputs.result
    c.read_inputs.ensures.files c.read_inputs.ensures.reads_later
    c.read_inputs.ensures.appends_later
    (c.run_inputs.ensures.ends name (subst
    (λ (files : Option Files). HasInputs files name c.args.script.now c.in-Ok.inputs)
    (sym c.read_inputs.ensures.files) has))

pub returns-in-Err-clause-ends : goal.returns-in-Err-clause-ends
returns-in-Err-clause-ends g c = λ name counted.
    let io : Io = io_of g.S.Shelf g.K.Sink c.args.shelf.now c.read_inputs.new.shelf c.args.out.now
    c.args.out.now in
    ends-input VERSION_2 io name c.args.script.now counted
    (record { sink = refl; shelf = c.read_inputs.ensures.files }) c.in-Err.at c.in-Err.fault
    c.input_fault.result
    (subst (λ (names : List (List ℕ)). StopsReading (g.S.Shelf.files c.args.shelf.now) names
    most_capture_bytes io.reads (c.in-Err.at, c.in-Err.fault)) c.files.ensures c.in-Err.ensures.stops)
    c.input_fault.ensures
