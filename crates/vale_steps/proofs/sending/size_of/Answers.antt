use Rattle.std.proofs.Common.{List, ◌∙◌, ap}
use Rattle.nm_types.specs.Frames.{Frame, bytes_of_frames}
use Rattle.vale_steps.proofs.SentBatches.{bytes-few}
use Rattle.vale_steps.proofs.sending.size_of.Goals as goal

pub size-requires : goal.size-requires
size-requires c = rw c.batch.ensures (bytes-few c.args.batch.now c.requires)

pub returns : goal.returns
returns c = c.size.ensures ∙ ap (λ (frames : List Frame). bytes_of_frames frames) c.batch.ensures
