use Rattle.std.proofs.Common.{Result, IfOk, IfErr, subst}
use Rattle.vale_entry.specs.declared.entry.Ask.TheVariants.{Enter}
use Rattle.vale_fabric.specs.Fabrics.{fixed_in, knowing}
use Rattle.nm_user.specs.Calls.{IsRefused}
use Rattle.vale_player.specs.Players.{HasEntered}
use Rattle.vale_act.proofs.Alone.{comes-there, comes-not}
use Rattle.vale_act.proofs.scene.Scene.come.Goals as goal

pub returns-in-Ok-clause-comes : goal.returns-in-Ok-clause-comes
returns-in-Ok-clause-comes g c =
    comes-there c.args.self.now.fabric.now c.args.number (knowing c.args.main.now) (knowing c.fork-pass.new.pass) (knowing c.fork-pass.result) c.in-Ok.player c.fork-pass.ensures.kept c.fork-pass.ensures.given
    (subst (λ r. IfOk r (HasEntered c.args.self.now.fabric.now (knowing c.fork-pass.result) c.args.number)) c.in-Ok.is c.enter.ensures.entered)

pub returns-in-Err-clause-not : goal.returns-in-Err-clause-not
returns-in-Err-clause-not g c =
    comes-not (fixed_in c.args.self.now.fabric.now) c.args.number (knowing c.args.main.now) (knowing c.fork-pass.new.pass) (knowing c.fork-pass.result) (knowing c.in-Err.pass) (knowing c.join.new.pass) c.in-Err.fault
    c.fork-pass.ensures.kept c.fork-pass.ensures.given
    (subst (λ r. IfErr r (λ refused. IsRefused (fixed_in c.args.self.now.fabric.now) (knowing c.fork-pass.result) (knowing refused.1) (Enter c.args.number) refused.0)) c.in-Err.is c.enter.ensures.stops)
    c.join.ensures.joined c.join.ensures.known c.join.ensures.whole
