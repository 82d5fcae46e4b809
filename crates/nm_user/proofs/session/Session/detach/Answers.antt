use Rattle.std.proofs.Common.{ap, sym, subst, refl, IsSome, None}
use Rattle.nm_types.specs.OwnPorts.{OwnState, port_with_id}
use Rattle.nm_region.specs.Buffers.{indices_of}
use Rattle.vale_fabric.specs.Fabrics.{fixed_in, knowing}
use Rattle.nm_user.specs.declared.leaving.Detached.{Detached}
use Rattle.nm_user.specs.Sessions.{SessionState, IsThere, session_seen, own_in}
use Rattle.nm_user.specs.Leaving.{IsDetached}
use Rattle.nm_user.proofs.Plain.{may}
use Rattle.nm_user.proofs.Written.{region-of}
use Rattle.nm_user.proofs.LeavingPorts.{shut-asks, shut-there, finishes-of, may-finish, own-finished, detached-there, is-detached}
use Rattle.nm_user.proofs.session.Session.detach.Given as given
use Rattle.nm_user.proofs.session.Session.detach.Goals as goal

pub shut-requires-clause-may : goal.shut-requires-clause-may
shut-requires-clause-may g c =
    let some = subst (λ (u : SessionState). IsSome (port_with_id u.own c.args.port.0)) (sym c.self.view_is) c.requires in
    may c.self.invariant.there (shut-asks c.args.port c.self.invariant.there some)

pub finish-unread-requires-clause-may : goal.finish-unread-requires-clause-may
finish-unread-requires-clause-may g c =
    let s = session_seen c.self.inside in
    let some = subst (λ (u : SessionState). IsSome (port_with_id u.own c.args.port.0)) (sym c.self.view_is) c.requires in
    let f = finishes-of s.own c.in-Some.own.own c.args.port (indices_of c.close_port.result.0.items) c.close_port.result.1 (ap own_in c.in-Some.is) some c.close_port.ensures.back c.close_port.ensures.chain in
    may-finish (shut-there c.args.port c.self.invariant.there some c.shut.ensures.made) f

pub finish-unread-requires-clause-region : goal.finish-unread-requires-clause-region
finish-unread-requires-clause-region g c = c.close_port.ensures.out (fixed_in c.self.inside.fabric.now).region (region-of c.self.inside c.in-Some.own c.self.invariant c.in-Some.is)

-- the session behind the two entries, and what they told
abbrev after : (g : given.Over) → goal.After-finish-unread g → SessionState
after g c = record (session_seen c.self.inside) { knows = knowing c.finish-unread.new.pass; own = c.close_port.new.self.own }

abbrev told : (g : given.Over) → goal.After-finish-unread g → Detached
told g c = record { unread = c.finish-unread.result; chain = c.close_port.result.1 }

closed : (g : given.Over) (c : goal.After-finish-unread g) → IsThere None (after g c) × IsDetached (session_seen c.self.inside) (after g c) c.args.port.0 (told g c)
closed g c =
    let s = session_seen c.self.inside in
    let w = knowing c.shut.new.pass in
    let x = knowing c.finish-unread.new.pass in
    let bufs = indices_of c.close_port.result.0.items in
    let some = subst (λ (u : SessionState). IsSome (port_with_id u.own c.args.port.0)) (sym c.self.view_is) c.requires in
    let f = finishes-of s.own c.in-Some.own.own c.args.port bufs c.close_port.result.1 (ap own_in c.in-Some.is) some c.close_port.ensures.back c.close_port.ensures.chain in
    let own = own-finished s.own c.in-Some.own.own c.close_port.new.self.own c.args.port bufs (ap own_in c.in-Some.is) c.close_port.ensures.back c.close_port.ensures.own in (
      subst (λ (o : OwnState). IsThere None (record s { knows = x; own = o })) (sym own)
          (detached-there s w x c.args.port bufs c.close_port.result.1 (told g c) c.self.invariant.there some c.shut.ensures.made f c.finish-unread.ensures.made),
      is-detached s w x c.args.port bufs c.close_port.result.1 (told g c) c.self.invariant.there some c.shut.ensures.made f c.finish-unread.ensures.made c.close_port.new.self.own refl own,
    )

pub invariant_of-self : goal.invariant_of-self
invariant_of-self g c = record {
  pass = c.finish-unread.ensures.pass;
  own = c.close_port.new.self;
  own_is = refl;
  region = c.close_port.ensures.region (fixed_in c.self.inside.fabric.now).region (region-of c.self.inside c.in-Some.own c.self.invariant c.in-Some.is);
  there = (closed g c).0;
}

pub returns-clause-detached : goal.returns-clause-detached
returns-clause-detached g c = subst (λ (u : SessionState). IsDetached u (after g c) c.args.port.0 (told g c)) c.self.view_is (closed g c).1

pub returns-clause-there : goal.returns-clause-there
returns-clause-there g c = (closed g c).0
