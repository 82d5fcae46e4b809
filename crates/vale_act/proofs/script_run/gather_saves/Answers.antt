use Rattle.std.proofs.Common.{◌≡◌, ◌∙◌, ◌++◌, length, slice_get, Some, Vec, sym, ap, arith, le_refl}
use Rattle.std.specs.declared.alloc.Global.{Global}
use Rattle.vale_replay.specs.Machine.{Save}
use Rattle.std.proofs.lemmas.Option.{slice_get_read}
use Rattle.vale_act.specs.Seats.{files_in}
use Rattle.vale_act.proofs.AllSeats.{get-else, length-as}
use Rattle.vale_act.proofs.KeptPlays.{gather-step}
use Rattle.vale_act.proofs.script_run.gather_saves.Goals as goal

pub loop-place-preserved : goal.loop-place-preserved
loop-place-preserved c =
    let s = c.loop-place in
    let i = s.place in
    let files = c.index-lists-place.result in
    let here : slice_get s.lists i ≡ Some files = slice_get_read s.lists (length c.args.lists.now) i files (sym s.invariant.0) c.loop-place-test.true c.index-lists-place.is in
    let was : slice_get c.args.lists.now i ≡ Some files = sym (s.invariant.1 i (le_refl i)) ∙ here in (
      length-as s.lists i c.append.new.other ∙ s.invariant.0,
      λ k low. get-else s.lists i c.append.new.other k (λ e. omega (arith, e, low)) ∙ s.invariant.1 k (omega (arith, low)),
      gather-step files_in c.args.lists.now i files c.args.saves.now.items s.saves.items c.append.new.self.items was s.invariant.2
          (c.in_ok-append.ensures.items ∙ ap (λ (l : Vec Save Global). s.saves.items ++ l.items) (sym c.index-lists-place.is)),
    )
