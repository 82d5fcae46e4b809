use Rattle.std.proofs.Common.{refl, ap, subst}
use Rattle.nm_types.specs.OwnSyncs.{own_after_send}
use Rattle.nm_port.specs.Regions.{SideState}
use Rattle.vale_fabric.specs.Fabrics.{knowing}
use Rattle.nm_user.specs.Sessions.{SessionState, own_in, session_seen}
use Rattle.nm_user.proofs.After.{there-still}
use Rattle.nm_user.proofs.Written.{region-of, region-kept}
use Rattle.nm_user.proofs.Sends.{ready, may-send, send-frames, unsent-at, send-ends, there-at, sent-at}
use Rattle.vale_fabric.proofs.Passing.{passed-by, passed-then}
use Rattle.nm_user.specs.Syncs.{PassesBy}
use Rattle.nm_user.proofs.session.Session.send_sync.Goals as goal

pub send-requires-clause-may : goal.send-requires-clause-may
send-requires-clause-may g c = may-send (ready c.args.port c.in_ok-batch.batch c.self.view_is (ap own_in c.in-Some.is) c.self.invariant.there c.requires c.in_ok-batch.ensures)

pub invariant_of-self-in-Err : goal.invariant_of-self-in-Err
invariant_of-self-in-Err g c =
    let k = ready c.args.port c.in_ok-batch.batch c.self.view_is (ap own_in c.in-Some.is) c.self.invariant.there c.requires c.in_ok-batch.ensures in
    record {
      pass = c.send.ensures.pass;
      own = c.in-Some.own;
      own_is = refl;
      region = region-of c.self.inside c.in-Some.own c.self.invariant c.in-Some.is;
      there = there-still k.there c.in-Err.ensures.full.none;
    }

pub returns-in-Err-clause-full : goal.returns-in-Err-clause-full
returns-in-Err-clause-full g c =
    let k = ready c.args.port c.in_ok-batch.batch c.self.view_is (ap own_in c.in-Some.is) c.self.invariant.there c.requires c.in_ok-batch.ensures in
    unsent-at c.self.view_is (ap own_in c.in-Some.is) k c.in-Err.ensures.full

pub settle-shares-requires-clause-fit : goal.settle-shares-requires-clause-fit
settle-shares-requires-clause-fit g c = send-frames (ready c.args.port c.in_ok-batch.batch c.self.view_is (ap own_in c.in-Some.is) c.self.invariant.there c.requires c.in_ok-batch.ensures)

pub invariant_of-self-2 : goal.invariant_of-self-2
invariant_of-self-2 g c =
    let k = ready c.args.port c.in_ok-batch.batch c.self.view_is (ap own_in c.in-Some.is) c.self.invariant.there c.requires c.in_ok-batch.ensures in
    let ends = send-ends c.in-Ok.offers k.there k.sends c.in-Ok.ensures.made c.in-Ok.ensures.offers c.settle-shares.ensures.none c.settle-shares.ensures.settles in
    record {
      pass = c.settle-shares.ensures.pass;
      own = c.sent.new.self;
      own_is = refl;
      region = region-kept c.self.inside c.in-Some.own c.sent.new.self (own_after_send c.args.port.0 c.in-Some.own.own) c.self.invariant c.in-Some.is c.sent.ensures;
      there = there-at (session_seen c.self.inside) c.in-Ok.offers k (ap (λ (side : SideState). side.own) c.sent.ensures) c.in-Ok.ensures.made ends;
    }

pub returns-clause-sent : goal.returns-clause-sent
returns-clause-sent g c =
    let k = ready c.args.port c.in_ok-batch.batch c.self.view_is (ap own_in c.in-Some.is) c.self.invariant.there c.requires c.in_ok-batch.ensures in
    let ends = send-ends c.in-Ok.offers k.there k.sends c.in-Ok.ensures.made c.in-Ok.ensures.offers c.settle-shares.ensures.none c.settle-shares.ensures.settles in
    sent-at c.in-Ok.offers (record { entry = c.entry-entry.result; pushed = c.pushed_count-pushed.result; short = c.short-short.result; lone = c.lone-lone.result; given = c.settle-shares.result.given; full = c.settle-shares.result.full; gone = c.settle-shares.result.gone })
    c.self.view_is (ap own_in c.in-Some.is) k (ap (λ (side : SideState). side.own) c.sent.ensures) c.in-Ok.ensures.made c.in-Ok.ensures.offers ends c.entry-entry.ensures c.pushed_count-pushed.ensures c.short-short.ensures c.lone-lone.ensures refl

pub returns-in-Err-clause-there : goal.returns-in-Err-clause-there
returns-in-Err-clause-there g c = (invariant_of-self-in-Err g c).there

pub returns-clause-there : goal.returns-clause-there
returns-clause-there g c = (invariant_of-self-2 g c).there

pub returns-clause-passed : goal.returns-clause-passed
returns-clause-passed g c =
    let t : SessionState = record (session_seen c.self.inside) { knows = knowing c.settle-shares.new.pass; own = c.sent.new.self.own } in
    let gate = g.G.OwnGate in
    subst (λ (s : SessionState). PassesBy s t (gate.passed c.args.gate.now) (gate.passed c.settle-shares.new.gate)) c.self.view_is
    (passed-then (passed-by c.self.inside.user _ c.in-Ok.ensures.made.makes refl) c.settle-shares.ensures.passed)
