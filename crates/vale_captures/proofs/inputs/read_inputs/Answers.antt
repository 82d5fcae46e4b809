use Rattle.std.proofs.Common.{rules, ◌≡◌, ◌+◌, ◌-◌, ℕ, take, List, Option, arith, sym, ◌∙◌, subst}
use Rattle.nm_io.specs.Files.{Files}
use Rattle.vale_captures.specs.Inputs.{InputFile, IsInput, AreInputs, BlamesFile}
use Rattle.vale_captures.proofs.Reading.{inputs-taken, named-at, blames-since, stops-at}
use Rattle.vale_captures.proofs.inputs.read_inputs.Goals as goal

pub returns-in-Err-clause-stops : goal.returns-in-Err-clause-stops
returns-in-Err-clause-stops g c =
    let files = g.S.Shelf.files c.args.shelf.now in
    let names = c.args.names.now in
    let at = c.loop-at.at in
    let name = c.as_str.result.now in
    let size = c.loop-at.invariant.size in
    let before = g.S.Shelf.read_faults c.args.shelf.now name in
    let now = g.S.Shelf.read_faults c.read_input.new.shelf name in
    let left : c.loop-at.left ≡ c.args.limit - size = (let sum = c.loop-at.invariant.left in omega (arith, sum)) in
    let blames : BlamesFile files name (c.args.limit - size) (g.S.Shelf.read_faults c.loop-at.shelf name) now c.in-Err.fault =
    subst (λ (n : ℕ). BlamesFile files name n (g.S.Shelf.read_faults c.loop-at.shelf name) now c.in-Err.fault) left
    (subst (λ (f : Option Files). BlamesFile f name c.loop-at.left (g.S.Shelf.read_faults c.loop-at.shelf name) now c.in-Err.fault) c.loop-at.invariant.files c.in-Err.ensures.blames) in
    stops-at files names c.args.limit _ at c.in-Err.fault (record {
      before = c.loop-at.files.items;
      used = size;
      read = c.loop-at.invariant.read;
      within = let sum = c.loop-at.invariant.left in omega (arith, sum);
      name = name;
      there = named-at names at c.index-names-at.result name (omega (arith, c.loop-at-test.true)) c.index-names-at.is c.as_str.ensures;
      blames = blames-since files name (c.args.limit - size) before (g.S.Shelf.read_faults c.loop-at.shelf name) now c.in-Err.fault (c.loop-at.invariant.reads_later name) blames;
    })

pub loop-at-preserved : goal.loop-at-preserved
loop-at-preserved g c =
    let files = g.S.Shelf.files c.args.shelf.now in
    let names = c.args.names.now in
    let name = c.as_str.result.now in
    let size = c.loop-at.invariant.size in
    let one : IsInput files name c.in-Ok.input c.in-Ok.size = subst (λ (f : Option Files). IsInput f name c.in-Ok.input c.in-Ok.size) c.loop-at.invariant.files c.in-Ok.ensures.read in
    let more = inputs-taken files names c.loop-at.at c.loop-at.files.items size name c.in-Ok.input c.in-Ok.size
    (named-at names c.loop-at.at c.index-names-at.result name (omega (arith, c.loop-at-test.true)) c.index-names-at.is c.as_str.ensures)
    c.loop-at.invariant.read one in
    record {
      size = size + c.in-Ok.size;
      read = subst (λ (is : List InputFile). AreInputs files (take (c.loop-at.at + 1) names) is (size + c.in-Ok.size)) (sym c.in-Ok-push.ensures.items) more;
      left = let sum = c.loop-at.invariant.left in let within = c.in-Ok.ensures.within in omega (arith, sum, within);
      files = c.in-Ok.ensures.files ∙ c.loop-at.invariant.files;
      reads_later = search rules;
      appends_later = search rules;
    }
