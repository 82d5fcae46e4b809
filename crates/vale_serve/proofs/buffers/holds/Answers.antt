use Rattle.std.proofs.Common.{is_some, ap, ◌∙◌}
use Rattle.vale_serve.specs.Buffers.{is_buffer}
use Rattle.vale_serve.proofs.Places.{some-passes}
use Rattle.vale_serve.proofs.buffers.holds.Goals as goal

pub returns : goal.returns
returns c = c.is_some.ensures ∙ (ap is_some c.place_of.ensures ∙ some-passes (is_buffer c.args.index) c.args.bufs.now)
