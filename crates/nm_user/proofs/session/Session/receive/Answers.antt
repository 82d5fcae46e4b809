use Rattle.std.proofs.Common.{rules, arith, ◌≡◌, ◌∙◌, Bool, true, false, List, [], length, Some, None, refl, sym, ap, subst}
use Rattle.std.proofs.lemmas.Result.{IfOk-at_ok, IfErr-at_err}
use Rattle.nm_types.specs.declared.fault.StepFault.{StepFault}
use Rattle.nm_types.specs.declared.id.PortId.{PortId}
use Rattle.nm_types.specs.Faults.{sync_fault_of}
use Rattle.nm_types.specs.OwnPorts.{OwnState}
use Rattle.nm_types.specs.OwnSyncs.{own_after_receive}
use Rattle.nm_port.specs.Regions.{SideState, AllOf, AreOf}
use Rattle.vale_line.specs.declared.got.Got.{Got}
use Rattle.vale_line.specs.Gots.{buffers_of, frames_in}
use Rattle.vale_steps.specs.declared.reading.Synced.{Synced}
use Rattle.vale_fabric.specs.Fabrics.{Refuses, fixed_in, knowing}
use Rattle.vale_entry.specs.Legal.{kept_ask}
use Rattle.vale_fabric.specs.Passing.{completes}
use Rattle.vale_fabric.specs.Reading.{IsRead}
use Rattle.vale_fabric.proofs.Passing.{passed-by, passed-then}
use Rattle.nm_user.specs.declared.receiving.Received.{Received}
use Rattle.nm_user.specs.Sessions.{SessionState, IsThere, own_in, session_seen}
use Rattle.nm_user.specs.Receives.{IsReceived, ReceivesNot}
use Rattle.nm_user.specs.Syncs.{PassesBy}
use Rattle.nm_user.proofs.After.{there-still}
use Rattle.nm_user.proofs.Written.{region-of, seen_with}
use Rattle.nm_user.proofs.Receives.{ReadsHere, reading, reads-here, may-read, few-gone}
use Rattle.nm_user.proofs.ReceivesTold.{gots-region, can-publish, ends-so, there-so, received-so, received-at, unreceived, unreceived-at}
use Rattle.nm_user.proofs.session.Session.receive.Given as given
use Rattle.nm_user.proofs.session.Session.receive.Goals.{In-Some}
use Rattle.nm_user.proofs.session.Session.receive.Goals as goal

-- the own side was there, and the read is one that the session may make
had : (g : given.Over) (c : In-Some g) → c.self.inside.own ≡ Some c.in-Some.own
had g c = search rules

reads : (g : given.Over) (c : In-Some g) → ReadsHere (seen_with c.self.inside c.in-Some.own) c.args.port c.args.is_pipe
reads g c = reads-here c.args.port c.args.is_pipe c.self.view_is (ap own_in (had g c)) c.self.invariant.there c.requires.there c.requires.kind c.requires.passes

pub give_and_take-own-requires-clause-may : goal.give_and_take-own-requires-clause-may
give_and_take-own-requires-clause-may g c = may-read (reads g (goal.at.give_and_take-own-requires-clause-may g c).In-Some)

pub give_and_take-own-requires-clause-few : goal.give_and_take-own-requires-clause-few
give_and_take-own-requires-clause-few g c = few-gone (reads g (goal.at.give_and_take-own-requires-clause-few g c).In-Some)

-- what was refused left the own side as it was
kept : (g : given.Over) (c : goal.After-put_back g) → c.give_and_take-own.result.0 ≡ c.in-Some.own
kept g c = IfErr-at_err (λ (fault : StepFault). c.give_and_take-own.result.0 ≡ c.in-Some.own) c.in-Err.is c.give_and_take-own.ensures.same

own-kept : (g : given.Over) (c : goal.After-put_back g) → own_in c.put_back.new.away ≡ c.in-Some.own.own
own-kept g c = ap own_in c.put_back.ensures ∙ ap (λ (side : SideState). side.own) (kept g c)

full : (g : given.Over) (c : goal.After-put_back g)
    → Refuses (fixed_in c.self.inside.fabric.now) (knowing c.self.inside.pass) (knowing c.give_and_take-own.new.pass) (reading c.in-Some.own.own c.args.port c.args.is_pipe) c.in-Err.fault
full g c =
    IfErr-at_err (Refuses (fixed_in c.self.inside.fabric.now) (knowing c.self.inside.pass) (knowing c.give_and_take-own.new.pass) (reading c.in-Some.own.own c.args.port c.args.is_pipe))
    c.in-Err.is c.give_and_take-own.ensures.full

pub invariant_of-self : goal.invariant_of-self
invariant_of-self g c =
    let at = (goal.at.invariant_of-self g c).In-Some in
    record {
      pass = c.give_and_take-own.ensures.pass;
      own = c.give_and_take-own.result.0;
      own_is = c.put_back.ensures;
      region = subst (AllOf (fixed_in c.self.inside.fabric.now).region) (sym (kept g c)) (region-of c.self.inside c.in-Some.own c.self.invariant (had g at));
      there = subst (λ (o : OwnState). IsThere None (record (session_seen c.self.inside) { knows = knowing c.give_and_take-own.new.pass; own = o })) (sym (own-kept g c))
          (there-still (reads g at).there (full g c).none);
    }

pub returns-in-Err-clause-full : goal.returns-in-Err-clause-full
returns-in-Err-clause-full g c =
    let at = (goal.at.returns-in-Err-clause-full g c).In-Some in
    let said = sync_fault_of c.in-Err.fault in
    unreceived-at c.args.port said c.self.view_is (ap own_in (had g at))
    (subst (λ (o : OwnState). ReceivesNot (seen_with c.self.inside c.in-Some.own) (record (session_seen c.self.inside) { knows = knowing c.give_and_take-own.new.pass; own = o }) c.args.port.0 said) (sym (own-kept g c))
    (unreceived (reads g at).reads (full g c)))

pub publish_all-requires : goal.publish_all-requires
publish_all-requires g c =
    let s = seen_with c.self.inside c.in-Some.own in
    let w = knowing c.give_and_take-own.new.pass in
    let mid = c.give_and_take-own.result.0.own in
    let mid-is = IfOk-at_ok (λ (synced : Synced). mid ≡ own_after_receive c.args.port.0 [] s.own) c.in-Ok.is c.give_and_take-own.ensures.own in
    let read = IfOk-at_ok (IsRead s.fixed s.knows w (reading s.own c.args.port c.args.is_pipe) c.args.port) c.in-Ok.is c.give_and_take-own.ensures.read in
    record { come = can-publish s w c.args.port c.args.is_pipe c.in-Ok.synced (reads g (goal.at.publish_all-requires g c).In-Some) read mid mid-is }

pub frame_count-gave-requires : goal.frame_count-gave-requires
frame_count-gave-requires g c =
    let s = seen_with c.self.inside c.in-Some.own in
    let read = IfOk-at_ok (IsRead s.fixed s.knows (knowing c.give_and_take-own.new.pass) (reading s.own c.args.port c.args.is_pipe) c.args.port) c.in-Ok.is c.give_and_take-own.ensures.read in
    let few = read.few in
    omega (arith, few)

-- the session once what it gave is settled, and what it told
abbrev after : (g : given.Over) → goal.After-put_back-2 g → SessionState
after g c = record (session_seen c.self.inside) { knows = knowing c.settle.new.pass; own = own_in c.put_back-2.new.away }

abbrev told : (g : given.Over) → goal.After-put_back-2 g → Received
told g c = record { entry = c.entry-entry.result; gave = c.frame_count-gave.result; returned = c.give_and_take-own.result.1 }

received : (g : given.Over) (c : goal.After-put_back-2 g) → ReadsHere (seen_with c.self.inside c.in-Some.own) c.args.port c.args.is_pipe
    → AreOf (fixed_in c.self.inside.fabric.now).region (buffers_of c.in-Ok.synced.got.items) × IsThere None (after g c) × IsReceived (seen_with c.self.inside c.in-Some.own) (after g c) c.args.port.0 (told g c)
received g c k =
    let s = seen_with c.self.inside c.in-Some.own in
    let w = knowing c.give_and_take-own.new.pass in
    let x = knowing c.settle.new.pass in
    let mid-is = IfOk-at_ok (λ (synced : Synced). c.give_and_take-own.result.0.own ≡ own_after_receive c.args.port.0 [] s.own) c.in-Ok.is c.give_and_take-own.ensures.own in
    let read = IfOk-at_ok (IsRead s.fixed s.knows w (reading s.own c.args.port c.args.is_pipe) c.args.port) c.in-Ok.is c.give_and_take-own.ensures.read in
    let ends = ends-so s w c.args.port c.args.is_pipe c.in-Ok.synced k read c.settle.ensures.none c.settle.ensures.settles in
    let back = sym (ap own_in c.put_back-2.ensures) in (
      gots-region s w c.args.port c.args.is_pipe c.in-Ok.synced k read,
      subst (λ (o : OwnState). IsThere None (record s { knows = x; own = o })) back
          (there-so s w c.args.port c.args.is_pipe c.in-Ok.synced k read mid-is c.publish_all.ensures.own ends),
      subst (λ (o : OwnState). IsReceived s (record s { knows = x; own = o }) c.args.port.0 (told g c)) back
          (received-so s w c.args.port c.args.is_pipe c.in-Ok.synced k read mid-is c.publish_all.ensures.own (told g c) ends c.entry-entry.ensures (c.frame_count-gave.ensures ∙ ap (λ (gots : List Got). length (frames_in gots)) c.deref-2.ensures.value) c.give_and_take-own.ensures.returned),
    )

pub invariant_of-self-2 : goal.invariant_of-self-2
invariant_of-self-2 g c =
    let made = received g c (reads g (goal.at.invariant_of-self-2 g c).In-Some) in
    let region = (fixed_in c.self.inside.fabric.now).region in
    record {
      pass = c.settle.ensures.pass;
      own = c.publish_all.new.own;
      own_is = c.put_back-2.ensures;
      region = c.publish_all.ensures.region region (IfOk-at_ok (λ (synced : Synced). AllOf region c.give_and_take-own.result.0) c.in-Ok.is c.give_and_take-own.ensures.region) made.0;
      there = made.1;
    }

pub returns-clause-received : goal.returns-clause-received
returns-clause-received g c =
    let at = (goal.at.returns-clause-received g c).In-Some in
    received-at c.args.port (told g c) c.self.view_is (ap own_in (had g at)) (received g c (reads g at)).2

pub returns-in-Err-clause-there : goal.returns-in-Err-clause-there
returns-in-Err-clause-there g c = (invariant_of-self g c).there

pub returns-clause-there : goal.returns-clause-there
returns-clause-there g c = (invariant_of-self-2 g c).there

-- a read completes no lease
completes-none : (own : OwnState) (port : PortId) (pipe : Bool) → completes (kept_ask (reading own port pipe)) ≡ false
completes-none own port true = refl
completes-none own port false = refl

pub returns-clause-passed : goal.returns-clause-passed
returns-clause-passed g c =
    let gate = g.G.OwnGate in
    let s = seen_with c.self.inside c.in-Some.own in
    let read = IfOk-at_ok (IsRead s.fixed s.knows (knowing c.give_and_take-own.new.pass) (reading s.own c.args.port c.args.is_pipe) c.args.port) c.in-Ok.is c.give_and_take-own.ensures.read in
    subst (λ (x : SessionState). PassesBy x (after g c) (gate.passed c.args.gate.now) (gate.passed c.settle.new.gate)) c.self.view_is
    (passed-then (passed-by c.self.inside.user (gate.passed c.args.gate.now) read.made.makes (completes-none s.own c.args.port c.args.is_pipe)) c.settle.ensures.passed)
