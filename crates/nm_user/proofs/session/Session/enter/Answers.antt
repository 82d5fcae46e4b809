use Rattle.std.proofs.Common.{◌≡◌, None, refl, subst, sym, ◌∙◌, ap, ℕ}
use Rattle.nm_types.specs.OwnPorts.{OwnState, empty_own}
use Rattle.vale_fabric.specs.Fabrics.{fixed_in, knowing}
use Rattle.nm_port.specs.Regions.{SideState, AllOf}
use Rattle.nm_user.specs.Sessions.{IsThere}
use Rattle.nm_user.proofs.After.{there-come}
use Rattle.nm_user.proofs.session.Session.enter.Goals as goal

pub new-requires : goal.new-requires
new-requires g c = c.buffers.ensures.size

pub invariant_of-result : goal.invariant_of-result
invariant_of-result g c =
    let fixed = fixed_in c.args.fabric.now in
    let own : empty_own fixed.pool ≡ c.in-Ok.own.own = sym (ap (λ (s : SideState). s.own) c.in-Ok.ensures ∙ ap empty_own c.buffers.ensures.pool) in
    record {
      pass = c.enter.ensures.pass;
      own = c.in-Ok.own;
      own_is = refl;
      region = subst (AllOf fixed.region) (sym c.in-Ok.ensures) tt;
      there = subst (λ (o : OwnState). IsThere None (record { fabric = c.args.fabric.now; fixed = fixed; knows = knowing c.enter.new.pass; id = c.in-Ok-enter.id.0; user = c.args.user; own = o })) own
          (subst (λ (n : ℕ). IsThere None (record { fabric = c.args.fabric.now; fixed = fixed; knows = knowing c.enter.new.pass; id = n; user = c.args.user; own = empty_own fixed.pool })) (sym c.in-Ok-enter.ensures.id) (there-come c.in-Ok-enter.ensures.made.makes));
    }
