use Rattle.std.proofs.Common.{List, ℕ, ap}
use Rattle.nm_types.specs.Buffers.{cleared_but}
use Rattle.nm_region.specs.Buffers.{Buffer, region_of}
use Rattle.nm_region.proofs.Marks.{kept-new}
use Rattle.nm_region.proofs.buf.Buf.new.Goals as goal

pub invariant_of-result : goal.invariant_of-result
invariant_of-result c = kept-new c.args.index c.args.part.items c.args.part.at c.requires.none c.requires.place

pub returns : goal.returns
returns c = ap (λ (items : List ℕ). let b : Buffer = record { region = region_of c.args.part.at; index = c.args.index; bytes = cleared_but items } in b) c.requires.none
