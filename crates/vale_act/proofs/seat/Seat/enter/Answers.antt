use Rattle.std.proofs.Common.{◌≡◌, Ok, Err, None, IfOk, IfErr, sym, subst}
use Rattle.vale_script.specs.declared.script.Act.TheVariants as acts
use Rattle.vale_fabric.specs.Fabrics.{fixed_in, knowing}
use Rattle.vale_act.specs.Seats.{Comes, ComesNot, HasTold, KeepsNames, LineAt, Tells, line_tasks}
use Rattle.vale_act.specs.declared.seat.Seat.{Seat}
use Rattle.vale_act.specs.declared.seat.Seat.TheVariants.{There}
use Rattle.vale_act.proofs.Alone.{line-enters, line-not-enters}
use Rattle.vale_act.proofs.DepartingScript.{comes-leaving, stays-leaving}
use Rattle.vale_act.proofs.SaveNames.{kept-told}
use Rattle.vale_act.proofs.seat.Seat.enter.Goals as goal

pub returns-in-Ok-clause-line : goal.returns-in-Ok-clause-line
returns-in-Ok-clause-line g c records =
    let fabric = c.args.scene.now.fabric.now in
    let v = knowing c.args.main.now in
    let m = knowing c.come.new.main in
    let w = knowing c.tell.new.main in
    let comes = subst (λ r. IfOk r (Comes fabric c.args.number v m)) c.in-Ok.is c.come.ensures.comes in
    let tells = subst (λ (s : Seat). Tells m w s c.tell.new.self) c.replace.ensures.after c.tell.ensures.tells in
    subst (λ (s : Seat). LineAt (fixed_in fabric) c.args.number (line_tasks records acts.Enter) v w s c.tell.new.self (Ok tt)) (sym c.requires.away)
    (line-enters fabric c.args.number records v m w c.in-Ok.player c.tell.new.self comes tells)

pub returns-in-Err-clause-line : goal.returns-in-Err-clause-line
returns-in-Err-clause-line g c records =
    let fabric = c.args.scene.now.fabric.now in
    let v = knowing c.args.main.now in
    let w = knowing c.come.new.main in
    let not = subst (λ r. IfErr r (ComesNot (fixed_in fabric) c.args.number v w)) c.in-Err.is c.come.ensures.not in
    subst (λ (s : Seat). LineAt (fixed_in fabric) c.args.number (line_tasks records acts.Enter) v w s s (Err c.in-Err.fault)) (sym c.requires.away)
    (line-not-enters fabric c.args.number records v w c.in-Err.fault not)

pub returns-in-Ok-clause-leaves : goal.returns-in-Ok-clause-leaves
returns-in-Ok-clause-leaves g c =
    let fabric = c.args.scene.now.fabric.now in
    let v = knowing c.args.main.now in
    let m = knowing c.come.new.main in
    let w = knowing c.tell.new.main in
    comes-leaving fabric c.args.number v m w c.in-Ok.player c.args.self.now c.tell.new.self
    (subst (λ r. IfOk r (Comes fabric c.args.number v m)) c.in-Ok.is c.come.ensures.comes)
    (subst (λ (s : Seat). Tells m w s c.tell.new.self) c.replace.ensures.after c.tell.ensures.tells)

pub returns-in-Err-clause-leaves : goal.returns-in-Err-clause-leaves
returns-in-Err-clause-leaves g c =
    let fixed = fixed_in c.args.scene.now.fabric.now in
    let v = knowing c.args.main.now in
    let w = knowing c.come.new.main in
    stays-leaving fixed c.args.number v w c.in-Err.fault c.args.self.now
    (subst (λ r. IfErr r (ComesNot fixed c.args.number v w)) c.in-Err.is c.come.ensures.not)

pub returns-in-Ok-clause-keep : goal.returns-in-Ok-clause-keep
returns-in-Ok-clause-keep g c =
    let names = c.args.scene.now.names.now in
    let w = knowing c.tell.new.main in
    let player = c.in-Ok.player in
    let had = subst (λ r. IfOk r (λ p. p.names ≡ names)) c.in-Ok.is c.come.ensures.names in
    kept-told names w (There player None) c.tell.new.self (subst (λ (s : Seat). HasTold w s c.tell.new.self) c.replace.ensures.after c.tell.ensures.tells.seat) had

pub returns-in-Err-clause-keep : goal.returns-in-Err-clause-keep
returns-in-Err-clause-keep g c = subst (KeepsNames c.args.scene.now.names.now) (sym c.requires.away) tt
