use Rattle.std.proofs.Common.{rules, ◌≡◌, List, take, length, Option, refl, arith, sym, ap, ◌∙◌, subst}
use Rattle.std.proofs.lemmas.Option.{slice_get_read}
use Rattle.nm_io.specs.Files.{Files, appended_told, AppendsPrefix}
use Rattle.vale_captures.specs.Outputs.{OutputFile, StopsAtOutput, all_appended, has_failed, text_of}
use Rattle.vale_captures.proofs.Pages.{appended-next, taken-next, rose-since}
use Rattle.vale_captures.proofs.outputs.write_outputs.Goals as goal

pub returns-in-Err-clause-stops : goal.returns-in-Err-clause-stops
returns-in-Err-clause-stops g c =
    let old = g.S.Shelf.files c.args.shelf.now in
    let new = g.S.Shelf.files c.write.new.shelf in
    let k = c.loop-saved.saved-index in
    let o = c.saved-item.result in
    let items = c.as_slice-saved-items.result.now in
    let is : items ≡ c.args.outputs.now = c.as_slice-saved-items.ensures in
    subst (λ (outputs : List OutputFile). StopsAtOutput old new outputs (λ name. (g.S.Shelf.append_faults c.args.shelf.now name, g.S.Shelf.append_faults c.write.new.shelf name)) (has_failed c.in-Err.fault)) is (record {
      at = k;
      output = o;
      there = slice_get_read items (length items) k o refl (omega (arith, c.loop-saved-test.true)) c.saved-item.is;
      part = subst (λ (f : Option Files). AppendsPrefix f new o.file (text_of o)) c.loop-saved.invariant.files c.in-Err.ensures.appends;
      rose = λ failed. rose-since (g.S.Shelf.append_faults c.args.shelf.now o.file) (g.S.Shelf.append_faults c.loop-saved.shelf o.file) (g.S.Shelf.append_faults c.write.new.shelf o.file)
          (c.loop-saved.invariant.appends_later o.file) (c.in-Err.ensures.cause failed);
    })

pub loop-saved-preserved : goal.loop-saved-preserved
loop-saved-preserved g c =
    let old = g.S.Shelf.files c.args.shelf.now in
    let k = c.loop-saved.saved-index in
    let o = c.saved-item.result in
    let items = c.as_slice-saved-items.result.now in
    record {
      files = c.in-Ok.ensures.appends ∙ (ap (λ (f : Option Files). appended_told f o.file (text_of o)) c.loop-saved.invariant.files
          ∙ (sym (appended-next old (take k items) o) ∙ ap (all_appended old) (sym (taken-next items k o (slice_get_read items (length items) k o refl (omega (arith, c.loop-saved-test.true)) c.saved-item.is)))));
      reads_later = search rules;
      appends_later = search rules;
    }
