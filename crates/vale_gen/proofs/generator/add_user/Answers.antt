use Rattle.std.proofs.Common.{◌+◌, sym, ap, ◌∙◌, arith, List}
use Rattle.vale_gen.specs.Load.{Deed}
use Rattle.vale_gen.specs.Sheets.{Sheet, Progress, with_deeds}
use Rattle.vale_gen.proofs.Adding.{with_none, no_deeds, deeds_length}
use Rattle.vale_gen.proofs.Frames.{user_more}
use Rattle.vale_gen.proofs.generator.add_user.Goals as goal

pub loop-init : goal.loop-init
loop-init c = record {
  sheet = sym (ap (λ (deeds : List Deed). with_deeds c.args.sheet.now deeds) (no_deeds c.args.n c.args.user) ∙ with_none c.args.sheet.now);
  work = c.in_ok-work.ensures;
}

pub loop-preserved : goal.loop-preserved
loop-preserved c = record {
  sheet = user_more c.args.sheet.now c.loop.sheet c.add_frame.new.sheet c.loop.work c.args.n c.args.user c.loop.counter c.loop.invariant.sheet c.loop.invariant.work c.in_ok-add_frame.ensures.lines;
  work = c.in_ok-add_frame.ensures.next ∙ ap (λ (p : Progress). record p { frame = p.frame + 1 }) c.loop.invariant.work;
}

pub add_frame-requires-clause-room : goal.add_frame-requires-clause-room
add_frame-requires-clause-room c =
    let next = ap (λ (s : Sheet). s.next) c.loop.invariant.sheet in
    let few = deeds_length c.args.n c.args.user c.loop.counter in
    let room = c.requires.room in
    omega (arith, next, few, room)
