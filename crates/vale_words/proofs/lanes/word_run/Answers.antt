use Rattle.std.proofs.Common.{refl, arith}
use Rattle.std.proofs.lemmas.Simd.{length-chunk}
use Rattle.vale_words.specs.Words.{is_graphic}
use Rattle.vale_words.proofs.Loads.{lanes_above, run_in}
use Rattle.vale_words.proofs.lanes.word_run.Goals as goal

pub returns : goal.returns
returns c =
    run_in is_graphic c.args.bytes.now c.args.at 16 _ _ c.requires (omega arith) c.type_inv.bytes c.first_set.ensures _
    (lanes_above _ _ 16 (length-chunk c.args.at 16 c.args.bytes.now c.requires)) refl
