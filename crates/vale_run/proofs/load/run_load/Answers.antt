use Rattle.std.proofs.Common.{ℕ, ◌∙◌, sym, subst}
use Rattle.nm_types.specs.declared.limits.TheConstants.Limits.{VERSION_2}
use Rattle.vale_run.specs.Load.{LoadEnds}
use Rattle.vale_run.specs.declared.status.Status.{Status}
use Rattle.vale_run.proofs.Loads.{play-of, ends-load, ends-stopped, stops-few}
use Rattle.vale_run.proofs.load.run_load.Goals as goal

pub stopped-requires : goal.stopped-requires
stopped-requires g c =
    let book = c.in-Ok-play_recorded.book in
    let played = c.in-Ok-play_recorded.played in
    let p = play-of c.args.n c.in-Ok.script c.from-inputs.result book played c.in-Ok.ensures.value
    (c.from-inputs.ensures ∙ c.new.ensures.items) c.in-Ok-play_recorded.ensures in
    stops-few c.args.n book played p c.in-Err.fault c.in-Err.is

pub returns-in-Ok-played-clause-ends : goal.returns-in-Ok-played-clause-ends
returns-in-Ok-played-clause-ends g c =
    let book = c.in-Ok-play_recorded.book in
    let played = c.in-Ok-play_recorded.played in
    let p = play-of c.args.n c.in-Ok.script c.from-inputs.result book played c.in-Ok.ensures.value
    (c.from-inputs.ensures ∙ c.new.ensures.items) c.in-Ok-play_recorded.ensures in
    ends-load c.args.n book played p c.in-Ok-played.field-0 c.in-Ok-played.is
    (g.K.Sink.faults c.args.out.now, g.K.Sink.faults c.write.new.out)
    (g.K.Sink.holds c.args.out.now) (g.K.Sink.holds c.write.new.out) c.write.result
    c.write.ensures.written

pub returns-clause-ends : goal.returns-clause-ends
returns-clause-ends g c =
    let book = c.in-Ok-play_recorded.book in
    let played = c.in-Ok-play_recorded.played in
    let counts : ℕ × ℕ = (g.K.Sink.faults c.args.out.now, g.K.Sink.faults c.args.out.now) in
    let holds = g.K.Sink.holds c.args.out.now in
    let p = play-of c.args.n c.in-Ok.script c.from-inputs.result book played c.in-Ok.ensures.value
    (c.from-inputs.ensures ∙ c.new.ensures.items) c.in-Ok-play_recorded.ensures in
    subst (λ (status : Status). LoadEnds VERSION_2 c.args.n counts holds holds status)
    (sym c.stopped.ensures) (ends-stopped c.args.n book played p c.in-Err.fault c.in-Err.is counts holds)
