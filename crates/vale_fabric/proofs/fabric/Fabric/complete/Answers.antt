use Rattle.std.proofs.Common.{ℕ, Option, IfSome, sym, subst}
use Rattle.vale_line.specs.Leased.{Leased}
use Rattle.vale_fabric.specs.Filling.{bytes_from}
use Rattle.vale_entry.specs.declared.entry.Ask.TheVariants.{Done}
use Rattle.vale_entry.specs.declared.entry.Reply.TheVariants.{Made}
use Rattle.vale_book.specs.Granting.{lease_id}
use Rattle.vale_fabric.specs.Fabrics.{fixed_in, knowing, AnswersIn}
use Rattle.vale_fabric.specs.Leases.{MayFillFrom}
use Rattle.vale_fabric.proofs.Passing.{passed-nothing, passed-lease}
use Rattle.vale_fabric.proofs.fabric.Fabric.complete.Goals as goal

pub done-requires-clause-region : goal.done-requires-clause-region
done-requires-clause-region g c =
    let held = subst (λ (l : Option Leased). IfSome l (λ (lease : Leased). MayFillFrom (fixed_in c.args.self.now) (knowing c.args.pass.now) lease (bytes_from c.args.frames) c.args.places.now)) c.in-Some.is c.requires.held in
    c.fill.ensures.region _ held.held.is.region_is

pub returns-in-Some-clause-some : goal.returns-in-Some-clause-some
returns-in-Some-clause-some g c =
    subst (λ (l : Option Leased). IfSome l (λ (lease : Leased). AnswersIn c.args.self.now c.args.pass.now c.done.new.pass (Done (lease_id lease.id)) Made)) (sym c.in-Some.is)
    (subst (λ (id : ℕ). AnswersIn c.args.self.now c.args.pass.now c.done.new.pass (Done (lease_id id)) Made) c.fill.ensures.id c.done.ensures.made)

pub returns-in-Some-clause-passed : goal.returns-in-Some-clause-passed
returns-in-Some-clause-passed g c = passed-lease c.args.user c.done.ensures.made.makes c.pass.ensures c.pass-in-Some.ensures c.pass-in-Some-2.ensures

pub returns-in_default-clause-passed : goal.returns-in_default-clause-passed
returns-in_default-clause-passed g c = passed-nothing c.args.user (knowing c.args.pass.now) _
