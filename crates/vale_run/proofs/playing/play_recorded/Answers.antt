use Rattle.std.proofs.Common.{ℕ, ◌≡◌, ◌∙◌, List, map, IfOk, IfErr, sym, ap, subst}
use Rattle.vale_entry.specs.declared.entry.Entry.{Entry}
use Rattle.vale_entry.specs.World.{free_count}
use Rattle.vale_entry.specs.Legal.{world_of}
use Rattle.vale_book.specs.Recorded.{Recorded}
use Rattle.vale_fabric.specs.declared.kept.Fixed.{Fixed}
use Rattle.vale_fabric.specs.Fabrics.{Knowing, fixed_in, knowing}
use Rattle.vale_script.specs.Script.{Program}
use Rattle.vale_captures.specs.Inputs.{frames_of}
use Rattle.vale_act.specs.Plays.{PlaysScript, IsStoppedBy}
use Rattle.vale_run.proofs.playing.play_recorded.Goals as goal

pub returns : goal.returns
returns g c =
    let program : Program = c.args.script.now in
    let captures = map frames_of c.args.inputs.now in
    let book : Recorded = c.close.result in
    let fixed : Fixed = fixed_in c.in_ok-fabric.fabric in
    let v : Knowing = knowing c.play-pass.result.0 in
    let pool : fixed.pool ≡ program.pool = c.in_ok-fabric.ensures.pool ∙ c.pool.ensures in
    let same : program.pool ≡ book.pool = sym pool
    ∙ ap (λ (b : Recorded). b.pool) c.close.ensures.fixed in
    let seen : v.seen ≡ book.entries =
    (c.close.ensures.whole c.play-pass.ensures.whole.whole).all_seen in
    record {
      fixed = fixed;
      book_is = c.close.ensures.fixed;
      pool = pool;
      limits_are = c.in_ok-fabric.ensures.limits;
      roomy = c.close.ensures.roomy;
      few = c.close.ensures.few;
      back = subst (λ (n : ℕ). free_count (world_of n book.entries) ≡ n) same
          (subst (λ (h : List Entry). free_count (world_of program.pool h) ≡ program.pool) seen
          c.play-pass.ensures.empty.free);
      plays = subst (λ (h : List Entry). IfOk c.play-pass.result.1 (PlaysScript program captures h))
          seen c.play-pass.ensures.played;
      stops = subst
          (λ (h : List Entry). IfErr c.play-pass.result.1 (IsStoppedBy fixed program captures h)) seen
          c.play-pass.ensures.stopped;
    }
