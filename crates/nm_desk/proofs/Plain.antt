-- Calls that leave a desk's own side as it is.
use Rattle.std.proofs.Common.{◌≡◌, Some, option_map, Result, Ok, Err, OnOk, OnErr, IfOk, IfErr, refl, subst}
use Rattle.nm_types.specs.declared.id.Counts.{Counts}
use Rattle.nm_types.specs.declared.id.PortId.{PortId}
use Rattle.nm_types.specs.declared.fault.StepFault.{StepFault}
use Rattle.vale_entry.specs.declared.entry.Ask.{Ask}
use Rattle.vale_entry.specs.declared.entry.Ask.TheVariants.{Stat}
use Rattle.vale_entry.specs.declared.entry.Reply.{Reply}
use Rattle.vale_entry.specs.declared.entry.Reply.TheVariants.{Counted}
use Rattle.vale_entry.specs.Legal.{step, reply_of}
use Rattle.vale_own.specs.SideAsks.{MayAsk}
use Rattle.vale_own.proofs.SideAsking.{stat-asked}
use Rattle.vale_own.specs.Recorded.{Recorded, standing, after_ask, HasRoom, IsRefusal}
use Rattle.nm_desk.specs.Desks.{DeskState, IsDeskOf}
use Rattle.nm_desk.specs.Calls.{Made, MadeNone, IsOpenAt}
use Rattle.nm_desk.proofs.OneStep.{step-by, has-open}
use Rattle.nm_desk.proofs.Entered.{refused}

pub may-stat : (b : Recorded) (d : DeskState) (port : PortId) → IsDeskOf b d → IsOpenAt d port.0 → MayAsk b.pool b.entries d.id (Stat port)
may-stat b d port is at =
    let h = has-open d port at in
    subst (λ (id : PortId). MayAsk b.pool b.entries d.id (Stat id)) h.id_is (stat-asked b.pool b.entries d.id d.shut d.own h.port is.side h.is_open)

pub stat-made : (b new : Recorded) (d : DeskState) (port : PortId) (reply : Reply) → IsDeskOf b d → IsOpenAt d port.0
    → new ≡ after_ask b (Stat port) → option_map reply_of (step (standing b) (Stat port)) ≡ Some reply → HasRoom b (Stat port) → Made b new d d (Stat port) reply
stat-made b new d port reply is at made said room =
    step-by b new d d (Stat port) reply is (may-stat b d port is at) (λ mine. tt) made said room refl is.region

-- no entry was made
pub none-made : (b new : Recorded) (d : DeskState) (ask : Ask) (fault : StepFault) → IsRefusal b ask fault → new ≡ b → MadeNone b new d d ask fault
none-made b new d ask fault full same = record { refused = refused b new ask fault full same; same = refl }

-- the same of what the book answers

pub stat-answered : (b new : Recorded) (d : DeskState) (port : PortId) (r : Result Counts StepFault) → IsDeskOf b d → IsOpenAt d port.0
    → OnOk r (new ≡ after_ask b (Stat port)) → IfOk r (λ (counts : Counts). option_map reply_of (step (standing b) (Stat port)) ≡ Some (Counted counts)) → OnOk r (HasRoom b (Stat port))
    → IfOk r (λ (counts : Counts). Made b new d d (Stat port) (Counted counts))
stat-answered b new d port (Ok counts) is at made said room = stat-made b new d port (Counted counts) is at made said room
stat-answered b new d port (Err fault) is at made said room = made

pub none-answered : {X : Type 0} (b new : Recorded) (d : DeskState) (ask : Ask) (r : Result X StepFault) → IfErr r (IsRefusal b ask) → OnErr r (new ≡ b) → IfErr r (MadeNone b new d d ask)
none-answered b new d ask (Ok x) full same = full
none-answered b new d ask (Err fault) full same = none-made b new d ask fault full same
