use Rattle.std.proofs.Common.{◌≡◌, ◌∙◌, ◌∷◌, List, fold, length, sym, ap, subst, arith}
use Rattle.std.specs.Vec.Iter.{into_iter_items}
use Rattle.nm_types.specs.OwnPorts.{OwnState}
use Rattle.nm_own.specs.PortPlaces.{place_with_id}
use Rattle.nm_own.proofs.PortPlaces.{place_stays}
use Rattle.nm_port.specs.Receives.{own_with_arrival}
use Rattle.nm_port.specs.Regions.{AreOf}
use Rattle.vale_line.specs.declared.got.Got.{Got}
use Rattle.vale_line.specs.Gots.{buffers_of}
use Rattle.nm_user.specs.Receiving.{arrival_in, arrivals_in, CanCome}
use Rattle.nm_user.proofs.receiving.publish_all.Goals as goal

pub loop-got-preserved : goal.loop-got-preserved
loop-got-preserved c =
    let id = c.args.port.0 in
    let was = c.loop-got in
    let rest = into_iter_items c.next.new.self in
    let first : into_iter_items was.coming ≡ c.in-Some.got ∷ rest = c.in-Some.ensures.cases.0 in
    let come = subst (λ (gs : List Got). CanCome id was.own.own (arrivals_in gs)) first was.invariant.come in
    record {
      place = was.invariant.place
          ∙ (sym (place_stays id was.own.own (arrival_in c.in-Some.got)) ∙ sym (ap (λ (o : OwnState). place_with_id o id) c.publish.ensures.own));
      count = let short = ap (λ (gs : List Got). length gs) first in let had = was.invariant.count in let fewer = c.in-Some.ensures.cases.1 in omega (arith, short, had, fewer);
      come = subst (λ (o : OwnState). CanCome id o (arrivals_in rest)) (sym c.publish.ensures.own) come.1;
      rest = ap (λ (o : OwnState). fold (own_with_arrival id) o (arrivals_in rest)) c.publish.ensures.own
          ∙ (sym (ap (λ (gs : List Got). fold (own_with_arrival id) was.own.own (arrivals_in gs)) first) ∙ was.invariant.rest);
      region = λ region all of.
          let had = was.invariant.region region all of in
          let both = subst (λ (gs : List Got). AreOf region (buffers_of gs)) first had.1 in
          (c.publish.ensures.region region had.0 both.0, both.1);
    }

pub returns-clause-region : goal.returns-clause-region
returns-clause-region c region all of = (c.loop-got.invariant.region region all of).0
