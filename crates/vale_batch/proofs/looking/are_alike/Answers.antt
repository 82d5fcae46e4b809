use Rattle.std.proofs.Common.{◌≡◌, Some, ◌∙◌, sym, subst, arith}
use Rattle.std.specs.Prelude.{All}
use Rattle.nm_types.specs.Frames.{Frame}
use Rattle.vale_batch.specs.Looking.{IsOneAlike}
use Rattle.vale_batch.proofs.looking.are_alike.Goals as goal

same : (frame other : Frame) → Some frame ≡ Some other → frame ≡ other
same frame other is = cc

pub returns : goal.returns
returns c = λ yes.
    let frame : Frame = record { bytes = c.get-no_learn.result.0.now; no_learn = c.get-no_learn.result.1 } in
    record {
      some = omega (arith, c.len.ensures, c.if-len-eq0.false);
      each = λ first here. subst (λ (f : Frame). All (IsOneAlike f) c.args.batch.now) (same frame first (sym c.get-no_learn.ensures ∙ here)) (c.all_alike.ensures yes);
    }
