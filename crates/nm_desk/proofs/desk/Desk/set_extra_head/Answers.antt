use Rattle.std.proofs.Common.{sym, subst, refl}
use Rattle.nm_types.specs.OwnEdits.{with_head_of_chain}
use Rattle.vale_own.proofs.SideEditing.{edits-keep}
use Rattle.vale_own.specs.Recorded.{Recorded}
use Rattle.nm_desk.specs.declared.desk.Desk.TheInside.{Inside}
use Rattle.nm_desk.specs.Desks.{IsWhole, IsDeskOf, desk_seen}
use Rattle.nm_desk.proofs.Edits.{desk-lent}
use Rattle.nm_desk.proofs.desk.Desk.set_extra_head.Goals as goal
use Rattle.nm_desk.proofs.desk.Desk.set_extra_head.Goals.{in-Some, in_default}

pub invariant_of-self : goal.invariant_of-self
invariant_of-self c = elim c.match-self.branch [
  | in-Some w ↦ subst IsWhole (sym w.self-inside-is) (record { own = w.set_extra_head.new.self; own_is = refl })
  | in_default w ↦ subst IsWhole (sym w.self-inside-is) c.self.invariant
]

pub returns-clause-desk : goal.returns-clause-desk
returns-clause-desk c = elim c.match-self.branch [
  | in-Some w ↦ subst (λ (i : Inside). (b : Recorded) → IsDeskOf b c.args.self.now → IsDeskOf b (desk_seen i)) (sym w.self-inside-is)
      (desk-lent (with_head_of_chain c.args.port.0 c.args.idx) (edits-keep.head_of_chain c.args.port.0 c.args.idx) c.self.inside c.args.self.now w.in-Some.own w.set_extra_head.new.self c.self.view_is w.in-Some.is w.set_extra_head.ensures)
  | in_default w ↦ subst (λ (i : Inside). (b : Recorded) → IsDeskOf b c.args.self.now → IsDeskOf b (desk_seen i)) (sym w.self-inside-is)
      (λ b is. subst (IsDeskOf b) (sym c.self.view_is) is)
]
