use Rattle.std.proofs.Common.{◌≡◌, sym, ap, ◌∙◌, subst}
use Rattle.vale_fabric.specs.declared.kept.Fixed.{Fixed}
use Rattle.vale_fabric.specs.Fabrics.{fixed_in, knowing}
use Rattle.vale_act.specs.Units.{IsOn}
use Rattle.vale_act.specs.declared.seat.Seat.TheVariants.{There}
use Rattle.vale_act.proofs.Alone.{closes-away, closes-there}
use Rattle.vale_act.specs.Leaving.{ComesAloneAt}
use Rattle.vale_act.proofs.DepartingScript.{absent-leaving, leaver-leaving}
use Rattle.vale_act.proofs.KeptNotes.{both-left, saves-stay, saves-left}
use Rattle.vale_act.proofs.KeptPlays.{keeps-met, keeps-left}
use Rattle.vale_act.proofs.seat.Seat.close.Goals as goal

pub returns-in-Away-clause-closes : goal.returns-in-Away-clause-closes
returns-in-Away-clause-closes g c =
    closes-away (fixed_in c.args.fabric.now).pool (knowing c.args.main.now) (knowing c.meet.new.main) c.args.self.now c.meet.new.self c.replace.new.dest c.meet.ensures.meets
    (sym c.replace.ensures.value ∙ c.in-Away.is) c.replace.ensures.after

pub returns-in-There-clause-closes : goal.returns-in-There-clause-closes
returns-in-There-clause-closes g c =
    let is : c.meet.new.self ≡ There c.in-There.player c.in-There.fault = sym c.replace.ensures.value ∙ c.in-There.is in
    let on = subst (IsOn c.args.fabric.now) is c.meet.ensures.on.1 in
    closes-there (fixed_in c.args.fabric.now).pool (knowing c.args.main.now) (knowing c.meet.new.main) (knowing c.join.new.pass) (knowing c.leave-pass.result.0) c.args.self.now c.meet.new.self c.replace-in-There.new.dest
    c.in-There.player c.in-There.fault c.leave-pass.result.1 c.meet.ensures.meets is c.replace-in-There.ensures.after (ap (λ (f : Fixed). f.pool) on.1)
    c.leave-pass.ensures.left c.leave-pass.ensures.saves c.join.ensures.joined c.join.ensures.known c.join.ensures.whole

pub returns-in-Away-clause-leaves : goal.returns-in-Away-clause-leaves
returns-in-Away-clause-leaves g c =
    absent-leaving (knowing c.args.main.now) (knowing c.meet.new.main) c.args.self.now c.meet.new.self c.replace.new.dest c.meet.ensures.meets
    (subst ComesAloneAt (sym c.replace.ensures.after) tt)

pub returns-in-There-clause-leaves : goal.returns-in-There-clause-leaves
returns-in-There-clause-leaves g c =
    let is : c.meet.new.self ≡ There c.in-There.player c.in-There.fault = sym c.replace.ensures.value ∙ c.in-There.is in
    leaver-leaving (knowing c.args.main.now) (knowing c.meet.new.main) (knowing c.join.new.pass) (knowing c.leave-pass.result.0) c.args.self.now c.meet.new.self c.replace-in-There.new.dest
    c.in-There.player c.in-There.fault c.meet.ensures.meets is (subst ComesAloneAt (sym c.replace-in-There.ensures.after) tt)
    c.leave-pass.ensures.left c.join.ensures.joined c.join.ensures.known

pub returns-in-Gone-clause-leaves : goal.returns-in-Gone-clause-leaves
returns-in-Gone-clause-leaves g c =
    absent-leaving (knowing c.args.main.now) (knowing c.meet.new.main) c.args.self.now c.meet.new.self c.replace-in-Gone.new.dest c.meet.ensures.meets
    (subst ComesAloneAt (sym c.replace-in-Gone.ensures.after) tt)

pub returns-in-Away-clause-kept : goal.returns-in-Away-clause-kept
returns-in-Away-clause-kept g c =
    keeps-met (fixed_in c.args.fabric.now).pool (knowing c.args.main.now) (knowing c.meet.new.main) c.args.self.now c.meet.new.self c.args.kept.now c.meet.ensures.meets

pub returns-in-There-clause-kept : goal.returns-in-There-clause-kept
returns-in-There-clause-kept g c =
    let is : c.meet.new.self ≡ There c.in-There.player c.in-There.fault = sym c.replace.ensures.value ∙ c.in-There.is in
    let on = subst (IsOn c.args.fabric.now) is c.meet.ensures.on.1 in
    let pool = (fixed_in c.args.fabric.now).pool in
    let w = knowing c.join.new.pass in
    keeps-left pool c.in-There.player.session.fixed.pool (knowing c.args.main.now) (knowing c.meet.new.main) w (knowing c.leave-pass.result.0) c.args.self.now c.meet.new.self
    c.args.kept.now c.leave-pass.result.2 c.join-in-There.new.self c.meet.ensures.meets (ap (λ (f : Fixed). f.pool) on.1)
    c.join.ensures.known c.join.ensures.pass.2 c.leave-pass.ensures.whole c.join-in-There.ensures

pub returns-in-Gone-clause-kept : goal.returns-in-Gone-clause-kept
returns-in-Gone-clause-kept g c =
    keeps-met (fixed_in c.args.fabric.now).pool (knowing c.args.main.now) (knowing c.meet.new.main) c.args.self.now c.meet.new.self c.args.kept.now c.meet.ensures.meets

pub returns-in-Away-clause-saves : goal.returns-in-Away-clause-saves
returns-in-Away-clause-saves g c =
    saves-stay (knowing c.args.main.now) c.args.self.now c.meet.new.self c.replace.new.dest c.args.kept.now c.meet.ensures.meets.seat (c.replace.ensures.after ∙ (sym c.in-Away.is ∙ c.replace.ensures.value))

pub returns-in-There-clause-saves : goal.returns-in-There-clause-saves
returns-in-There-clause-saves g c was =
    saves-left c.replace-in-There.new.dest c.leave-pass.result.1 c.args.kept.now c.leave-pass.result.2 c.join-in-There.new.self c.replace-in-There.ensures.after c.join-in-There.ensures c.leave-pass.ensures.kept

pub returns-in-Gone-clause-saves : goal.returns-in-Gone-clause-saves
returns-in-Gone-clause-saves g c =
    saves-stay (knowing c.args.main.now) c.args.self.now c.meet.new.self c.replace-in-Gone.new.dest c.args.kept.now c.meet.ensures.meets.seat (c.replace-in-Gone.ensures.after ∙ (sym c.in-Gone.is ∙ c.replace.ensures.value))

pub returns-in-There-clause-more : goal.returns-in-There-clause-more
returns-in-There-clause-more g c = both-left c.args.kept.now c.leave-pass.result.2 c.join-in-There.new.self c.join-in-There.ensures
