use Rattle.std.proofs.Common.{eqb, ap, ◌∙◌, arith, w8}
use lib.Count.{ones}
use Rattle.std.proofs.lemmas.Simd.{bitmask_splat, ones-mask_l}
use Rattle.vale_script.specs.Grammar.{is_line_feed}
use Rattle.vale_script.proofs.feeds.line_feeds_in.Goals as goal

pub returns : goal.returns
returns c = ap ones (bitmask_splat w8 eqb c.args.block 64 10 c.requires (omega arith)) ∙ ones-mask_l is_line_feed c.args.block
