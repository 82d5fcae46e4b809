use Rattle.std.proofs.Common.{◌≡◌, ap, ◌∙◌}
use Rattle.vale_gen.specs.Sheets.{Progress}
use Rattle.vale_gen.proofs.Frames.{frame_alone, frame_and_syncs}
use Rattle.vale_gen.proofs.workload.Workload.add_frame.Goals as goal
use Rattle.vale_gen.proofs.workload.Workload.add_frame.Goals.{then-followed+in_ok-add-2+in_ok-add-3, else-followed}

pub returns-clause-lines : goal.returns-clause-lines
returns-clause-lines c =
    let now = c.args.self.now in
    let user : c.self-2.inside.user ≡ now.user = ap (λ (p : Progress). p.user) (c.self-2.view_is ∙ c.next-put.ensures.next) in
    let frame : c.self.inside.frame ≡ now.frame = ap (λ (p : Progress). p.frame) c.self.view_is in
    elim c.if-followed.branch [
      | then-followed+in_ok-add-2+in_ok-add-3 w ↦
          w.sheet-is ∙ frame_and_syncs c.args.sheet.now c.add.new.self w.add-then-followed.new.self w.add-then-followed-2.new.self now
          c.self-2.inside.user c.self.inside.frame c.self-2.inside.port c.next-put.result c.is_followed-followed.result
          user frame c.self-2.invariant.0 c.next-put.ensures.value w.if-followed.true c.is_followed-followed.ensures
          c.in_ok-add.ensures w.in_ok-add-2.ensures w.in_ok-add-3.ensures
      | else-followed w ↦
          w.sheet-is ∙ frame_alone c.args.sheet.now c.add.new.self now
          c.self-2.inside.user c.self.inside.frame c.next-put.result c.is_followed-followed.result
          user frame c.next-put.ensures.value w.if-followed.false c.is_followed-followed.ensures c.in_ok-add.ensures
    ]
