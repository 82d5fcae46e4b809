use Rattle.std.proofs.Common.{ap, ◌∙◌}
use Rattle.vale_gen.specs.Load.{put}
use Rattle.vale_gen.specs.Sheets.{Progress}
use Rattle.vale_gen.proofs.Frames.{number_more, put_is}
use Rattle.vale_gen.proofs.workload.Workload.next.Goals as goal

pub invariant_of-self : goal.invariant_of-self
invariant_of-self c = (
  c.self.invariant.0,
  c.next_number-self-inside.ensures
      ∙ number_more c.self.inside.n c.self.inside.user c.self.inside.frame c.self.inside.x c.self.invariant.1,
)

pub returns-clause-value : goal.returns-clause-value
returns-clause-value c =
    let s = c.self.inside in
    put_is s.n s.user s.frame c.next_number-self-inside.result s.port c.destination.result c.station.result c.frame_length.result c.self.invariant.0
    (c.next_number-self-inside.ensures ∙ number_more s.n s.user s.frame s.x c.self.invariant.1)
    c.destination.ensures c.station.ensures c.frame_length.ensures
    ∙ ap (λ (p : Progress). put p.n p.user p.frame) c.self.view_is
