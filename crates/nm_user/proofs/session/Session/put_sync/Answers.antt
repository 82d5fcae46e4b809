use Rattle.std.proofs.Common.{rules, ◌≡◌, ◌∙◌, Some, None, map, refl, sym, ap, subst}
use Rattle.std.specs.List.{AllByRecursion as Each}
use Rattle.std.proofs.lemmas.List.Elements.{All-from_recursion}
use Rattle.nm_types.specs.declared.id.PortId.{PortId}
use Rattle.nm_types.specs.OwnSyncs.{own_after_put}
use Rattle.nm_region.specs.Buffers.{indices_of}
use Rattle.nm_own.specs.Opening.{blank_arrivals}
use Rattle.nm_port.specs.Regions.{AllOf}
use Rattle.vale_line.specs.Gots.{buffers_of, IsSingle}
use Rattle.vale_entry.specs.Arrivals.{blank_arrival}
use Rattle.vale_fabric.specs.Fabrics.{fixed_in, knowing}
use Rattle.nm_user.specs.declared.sending.Sent.{Sent}
use Rattle.nm_user.specs.Sessions.{SessionState, IsThere, own_in, session_seen}
use Rattle.nm_user.specs.Offering.{IsOffering, CanTake, side_after_fault}
use Rattle.vale_fabric.proofs.LeaseFilling.{short-frames}
use Rattle.vale_fabric.proofs.Passing.{passed-by, passed-then}
use Rattle.nm_user.specs.Syncs.{IsPut, PassesBy, TransmitsNot}
use Rattle.nm_user.proofs.Written.{region-of, seen_with}
use Rattle.nm_user.proofs.TransmitsLent.{offers-still}
use Rattle.nm_user.proofs.TransmitsPut.{single-wrapped}
use Rattle.nm_user.proofs.TransmitsTold.{CanPut, can-put, may-put, not-at, put-at}
use Rattle.nm_user.proofs.TransmitsCome.{come-new, can-take}
use Rattle.nm_user.proofs.session.Session.put_sync.Given as given
use Rattle.nm_user.proofs.session.Session.put_sync.Goals.{In-Some, In-Ok, After-new-offering, After-settle-shares}
use Rattle.nm_user.proofs.session.Session.put_sync.Goals as goal

-- the own side was there, and the frames that it offers are those pushed
had : (g : given.Over) (c : In-Some g) → c.self.inside.own ≡ Some c.in-Some.own
had g c = search rules

all-of : (g : given.Over) (c : In-Some g) → AllOf (fixed_in c.self.inside.fabric.now).region c.in-Some.own
all-of g c = region-of c.self.inside c.in-Some.own c.self.invariant (had g c)

puts : (g : given.Over) (c : After-new-offering g) → CanPut (seen_with c.self.inside c.in-Some.own) c.args.port c.new-offering.result.pending.items
puts g c =
    let had : c.self.inside.own ≡ Some c.in-Some.own = search rules in
    let e = c.new-offering.ensures in
    can-put c.args.port c.new-offering.result.pending.items c.self.view_is (ap own_in had) c.self.invariant.there c.requires e.pending e.buffers e.bytes

pub pipe_put-requires-clause-may : goal.pipe_put-requires-clause-may
pipe_put-requires-clause-may g c = may-put (puts g (goal.at.pipe_put-requires-clause-may g c).After-new-offering)

pub pipe_put-requires-clause-region : goal.pipe_put-requires-clause-region
pipe_put-requires-clause-region g c =
    c.new-offering.ensures.out (fixed_in c.self.inside.fabric.now).region (all-of g (goal.at.pipe_put-requires-clause-region g c).In-Some)

pub pipe_put-requires-clause-single : goal.pipe_put-requires-clause-single
pipe_put-requires-clause-single g c =
    let gots = c.new-offering.result.pending.items in
    All-from_recursion IsSingle gots (subst (Each IsSingle) (sym c.new-offering.ensures.pending) (single-wrapped (buffers_of gots) _))

-- ---- it gave nothing

still : (g : given.Over) (c : goal.After-sync_fault_of g) → IsOffering c.in-Some.own (record c.new-offering.result { pending = c.pipe_put.new.pending })
still g c = offers-still c.in-Some.own c.new-offering.result c.pipe_put.new.pending c.new-offering.ensures.offering c.in-Err.ensures.kept

abbrev left : (g : given.Over) → goal.After-sync_fault_of g → SessionState
left g c = record (session_seen c.self.inside) { knows = knowing c.pipe_put.new.pass; own = own_in c.put_back.new.away }

refused : (g : given.Over) (c : goal.After-sync_fault_of g) → CanPut (seen_with c.self.inside c.in-Some.own) c.args.port c.new-offering.result.pending.items
    → IsThere None (left g c) × TransmitsNot c.args.self.now (left g c) c.args.port.0 c.sync_fault_of.result
refused g c k =
    let had : c.self.inside.own ≡ Some c.in-Some.own = search rules in
    let own-now : own_in c.put_back.new.away ≡ (side_after_fault c.in-Err.fault c.args.port.0 c.in-Some.own).own =
    ap own_in c.put_back.ensures
    ∙ (c.refused.ensures.own c.in-Some.own (still g c) ∙ ap (λ (p : PortId). (side_after_fault c.in-Err.fault p.0 c.in-Some.own).own) c.new-offering.ensures.port) in
    not-at c.in-Some.own c.in-Err.fault c.sync_fault_of.result c.self.view_is (ap own_in had) k c.in-Err.ensures.refused own-now c.sync_fault_of.ensures

pub invariant_of-self : goal.invariant_of-self
invariant_of-self g c =
    let at = goal.at.invariant_of-self g c in
    record {
      pass = c.pipe_put.ensures.pass;
      own = c.refused.result;
      own_is = c.put_back.ensures;
      region = c.refused.ensures.region c.in-Some.own (still g c) (fixed_in c.self.inside.fabric.now).region (all-of g at.In-Some);
      there = (refused g c (puts g at.After-new-offering)).0;
    }

pub returns-in-Err-clause-refused : goal.returns-in-Err-clause-refused
returns-in-Err-clause-refused g c = (refused g c (puts g (goal.at.returns-in-Err-clause-refused g c).After-new-offering)).1

-- ---- the other end took frames

taking : (g : given.Over) (c : In-Ok g) → CanPut (seen_with c.self.inside c.in-Some.own) c.args.port c.new-offering.result.pending.items
    → CanTake c.in-Some.own c.new-offering.result.pending.items (record c.new-offering.result { pending = c.pipe_put.new.pending }) c.in-Ok.put.back.items
taking g c k =
    let s = seen_with c.self.inside c.in-Some.own in
    let e = c.in-Ok.ensures in
    can-take {s = s} c.in-Some.own c.new-offering.result c.pipe_put.new.pending c.in-Ok.put refl c.new-offering.ensures.offering e.pending
    (come-new {s = s} {w = knowing c.pipe_put.new.pass} c.new-offering.result.pending.items c.in-Ok.put k.there k.puts_are e.made e.put)

pub taken-requires : goal.taken-requires
taken-requires g c =
    let at = goal.at.taken-requires g c in
    (c.in-Some.own, (c.new-offering.result.pending.items, taking g at.In-Ok (puts g at.After-new-offering)))

pub settle-shares-requires-clause-fit : goal.settle-shares-requires-clause-fit
settle-shares-requires-clause-fit g c = short-frames c.in-Ok.put.copies c.in-Ok.ensures.fit

abbrev after : (g : given.Over) → After-settle-shares g → SessionState
after g c = record (session_seen c.self.inside) { knows = knowing c.settle-shares.new.pass; own = own_in c.put_back-2.new.away }

abbrev told : (g : given.Over) → After-settle-shares g → Sent
told g c =
    let shares = c.settle-shares.result in
    record { entry = c.entry-entry.result; pushed = c.in-Ok.put.took; short = 0; lone = 0; given = shares.given; full = shares.full; gone = shares.gone }

put : (g : given.Over) (c : After-settle-shares g) → CanPut (seen_with c.self.inside c.in-Some.own) c.args.port c.new-offering.result.pending.items
    → CanTake c.in-Some.own c.new-offering.result.pending.items (record c.new-offering.result { pending = c.pipe_put.new.pending }) c.in-Ok.put.back.items
    → IsThere None (after g c) × IsPut c.args.self.now (after g c) c.args.port.0 (told g c)
put g c k t =
    let had : c.self.inside.own ≡ Some c.in-Some.own = search rules in
    let gots = c.new-offering.result.pending.items in
    let back = indices_of c.in-Ok.put.back.items in
    let own-now : own_in c.put_back-2.new.away ≡ own_after_put c.args.port.0 (map blank_arrival back) c.in-Some.own.own =
    ap own_in c.put_back-2.ensures ∙ (c.taken.ensures.own c.in-Some.own gots t ∙ ap (λ (p : PortId). own_after_put p.0 (blank_arrivals back) c.in-Some.own.own) c.new-offering.ensures.port) in
    put-at gots c.in-Ok.put (told g c) c.self.view_is (ap own_in had) k c.in-Ok.ensures.made c.in-Ok.ensures.put c.settle-shares.ensures.none c.settle-shares.ensures.settles own-now c.entry-entry.ensures refl refl refl refl

pub invariant_of-self-2 : goal.invariant_of-self-2
invariant_of-self-2 g c =
    let at = goal.at.invariant_of-self-2 g c in
    let k = puts g at.After-new-offering in
    let t = taking g at.In-Ok k in
    record {
      pass = c.settle-shares.ensures.pass;
      own = c.taken.result;
      own_is = c.put_back-2.ensures;
      region = c.taken.ensures.region c.in-Some.own c.new-offering.result.pending.items t (fixed_in c.self.inside.fabric.now).region (all-of g at.In-Some) c.in-Ok.ensures.put.is.back_of;
      there = (put g at.After-settle-shares k t).0;
    }

pub returns-clause-put : goal.returns-clause-put
returns-clause-put g c =
    let at = goal.at.returns-clause-put g c in
    let k = puts g at.After-new-offering in
    (put g at.After-settle-shares k (taking g at.In-Ok k)).1

pub returns-in-Err-clause-there : goal.returns-in-Err-clause-there
returns-in-Err-clause-there g c = (invariant_of-self g c).there

pub returns-clause-there : goal.returns-clause-there
returns-clause-there g c = (invariant_of-self-2 g c).there

pub returns-clause-passed : goal.returns-clause-passed
returns-clause-passed g c =
    let gate = g.G.OwnGate in
    let t = after g (goal.at.returns-clause-passed g c).After-settle-shares in
    subst (λ (s : SessionState). PassesBy s t (gate.passed c.args.gate.now) (gate.passed c.settle-shares.new.gate)) c.self.view_is
    (passed-then (passed-by c.self.inside.user _ c.in-Ok.ensures.made.makes refl) c.settle-shares.ensures.passed)
