use Rattle.std.proofs.Common.{ℕ, ◌≡◌, ◌-◌, Bool, List, [], ◌∷◌, ◌++◌, replicate, sym, ◌∙◌, subst, ap, arith}
use Rattle.vale_replay.specs.Tasks.{Task, PutFrame}
use Rattle.vale_player.specs.Syncing.{Leads, NeedsNone, NeedsNoneOrEnds}
use Rattle.vale_player.proofs.Doing.{still-self, still-then, does-line}
use Rattle.vale_player.proofs.Leading.{leads-self, leads-as}
use Rattle.vale_player.proofs.Playing.{same-next, leads-next, copies-end, copies-stop}
use Rattle.vale_player.proofs.PutCopies.{leads-through, leads-tasks, left-parts, passes-copies}
use Rattle.vale_player.proofs.player.Player.put.Goals as goal

pub returns-in_default-clause-does : goal.returns-in_default-clause-does
returns-in_default-clause-does g c =
    let p = c.args.self.now in
    let task : Task = PutFrame c.args.name.now c.args.frame.now in
    does-line p p (replicate c.args.count task)
    (passes-copies p c.args.name.now c.sender.ensures.there.side.sound (sym c.sender.ensures.sender ∙ c.in_default.is) c.args.frame.now c.args.count)

pub returns-in_default-clause-still : goal.returns-in_default-clause-still
returns-in_default-clause-still g c = still-self c.args.self.now

pub loop-left-init : goal.loop-left-init
loop-left-init g c =
    let p = c.args.self.now in
    let t = c.write_copies-put.new.self in
    let count = c.args.count in
    let put = c.write_copies-put.result in
    let task : Task = PutFrame c.args.name.now c.args.frame.now in
    let whole : List Task = replicate count task in
    let parted : Leads p p whole (replicate put task ++ replicate (count - put) task) =
    leads-as p p whole whole (replicate put task ++ replicate (count - put) task) (left-parts task count put c.write_copies-put.ensures.most) (leads-self p whole) in
    record {
      leads = leads-tasks p p t whole (replicate put task) (replicate (count - put) task) parted c.write_copies-put.ensures.does;
      named = c.write_copies-put.ensures.named;
      still = c.write_copies-put.ensures.still;
    }

pub loop-left-preserved : goal.loop-left-preserved
loop-left-preserved g c =
    let p = c.args.self.now in
    let q = c.loop-left.self in
    let r = c.make_room.new.self in
    let t = c.write_copies-left.new.self in
    let left = c.loop-left.left in
    let count = c.write_copies-left.result in
    let task : Task = PutFrame c.args.name.now c.args.frame.now in
    let whole : List Task = replicate c.args.count task in
    let more : List Task = replicate (left - 1) task in
    let leads = leads-next p q c.args.name.now c.args.frame.now c.args.count left c.loop-left-test.true c.loop-left.invariant.leads in
    let needs : NeedsNone q r task = subst (λ (b : Bool). NeedsNoneOrEnds q r task b) c.in-Ok-true.field-0-test c.in-Ok-true.ensures.room in
    let through : Leads p r whole (task ∷ more) = leads-through p q r whole task more leads needs.stays in
    let parted : Leads p r whole (replicate count task ++ replicate (left - count) task) =
    leads-as p r whole (task ∷ more) (replicate count task ++ replicate (left - count) task) (sym (same-next task left c.loop-left-test.true) ∙ left-parts task left count c.write_copies-left.ensures.most) through in
    record {
      leads = leads-tasks p r t whole (replicate count task) (replicate (left - count) task) parted c.write_copies-left.ensures.does;
      named = c.write_copies-left.ensures.named;
      still = still-then c.loop-left.invariant.still (still-then c.make_room.ensures.still c.write_copies-left.ensures.still);
    }

pub returns-in-Ok-false-clause-does : goal.returns-in-Ok-false-clause-does
returns-in-Ok-false-clause-does g c =
    let name = c.args.name.now in
    let bytes = c.args.frame.now in
    copies-end c.args.self.now c.loop-left.self name bytes c.args.count c.loop-left.left c.loop-left-test.true c.loop-left.invariant.leads c.make_room.new.self
    (subst (NeedsNoneOrEnds c.loop-left.self c.make_room.new.self (PutFrame name bytes)) c.in-Ok-false.field-0-test c.in-Ok-false.ensures.room)

pub returns-in-Err-clause-stops : goal.returns-in-Err-clause-stops
returns-in-Err-clause-stops g c =
    let bytes = c.args.frame.now in
    copies-stop c.args.self.now c.loop-left.self c.args.name.now bytes c.args.count c.loop-left.left c.loop-left-test.true c.loop-left.invariant.leads c.make_room.new.self
    c.in-Err.fault c.make_room.ensures.there c.in-Err.ensures.stops

pub returns-clause-does : goal.returns-clause-does
returns-clause-does g c =
    let p = c.args.self.now in
    let q = c.loop-left.self in
    let task : Task = PutFrame c.args.name.now c.args.frame.now in
    let whole : List Task = replicate c.args.count task in
    let none : c.loop-left.left ≡ 0 = omega (arith, c.loop-left-test.false) in
    does-line p q whole (leads-as p q whole (replicate c.loop-left.left task) [] (ap (λ (n : ℕ). replicate n task) none) c.loop-left.invariant.leads)
