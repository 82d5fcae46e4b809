use Rattle.std.proofs.Common.{◌≡◌, List, length, map, subst, ap, sym, ◌∙◌}
use Rattle.std.proofs.lemmas.List.{length-map}
use Rattle.nm_region.specs.Buffers.{Buffer}
use Rattle.vale_line.specs.declared.got.Got.{Got}
use Rattle.vale_line.specs.Cells.{gots_in, with_buffer}
use Rattle.vale_line.specs.Gots.{blank, buffers_of}
use Rattle.vale_line.specs.Lines.{new_line}
use Rattle.vale_line.proofs.CellLemmas.{gots-blank}
use Rattle.vale_line.proofs.Moving.{buffers-blank}
use Rattle.vale_line.proofs.RingLemmas.{AreBlank, blank-map}
use Rattle.vale_line.proofs.ring.Ring.new.Goals as goal

pub filled-requires-clause-full : goal.filled-requires-clause-full
filled-requires-clause-full c =
    let bufs = c.args.bufs.now.items in
    let are = c.in-Ok.ensures.cells in
    let gots : gots_in c.in-Ok.cells.items ≡ map blank bufs = ap gots_in are ∙ gots-blank bufs in
    ap length gots ∙ (length-map bufs blank ∙ sym (ap length are ∙ length-map bufs with_buffer))

pub filled-requires-clause-blank : goal.filled-requires-clause-blank
filled-requires-clause-blank c =
    let bufs = c.args.bufs.now.items in
    subst AreBlank (sym (ap gots_in c.in-Ok.ensures.cells ∙ gots-blank bufs)) (blank-map bufs)

pub returns-in-Ok-clause-line : goal.returns-in-Ok-clause-line
returns-in-Ok-clause-line c =
    let bufs = c.args.bufs.now.items in
    let gots : gots_in c.in-Ok.cells.items ≡ map blank bufs = ap gots_in c.in-Ok.ensures.cells ∙ gots-blank bufs in
    c.filled.ensures.line ∙ ap (λ (bs : List Buffer). new_line bs) (ap (λ (gs : List Got). buffers_of gs) gots ∙ buffers-blank bufs)
