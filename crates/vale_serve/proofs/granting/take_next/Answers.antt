use Rattle.std.proofs.Common.{List, sym, ◌∙◌, ap, subst}
use Rattle.std.specs.Prelude.{Vec}
use Rattle.std.specs.declared.alloc.Global.{Global}
use Rattle.std.proofs.lemmas.Bool.{eq-eqb}
use Rattle.nm_types.specs.declared.id.PortId.{PortId}
use Rattle.vale_batch.specs.Wants.{wanted}
use Rattle.vale_entry.specs.Legal.{is_met}
use Rattle.vale_book.specs.Offering.{OffersState}
use Rattle.vale_book.specs.Leases.{IsLeaseBy}
use Rattle.vale_serve.specs.declared.users.Sent.{Sent}
use Rattle.vale_serve.specs.Filling.{IsFillable, IsFilledWith}
use Rattle.vale_serve.specs.Users.{contents, is_want_of}
use Rattle.vale_serve.proofs.Granted.{fillable}
use Rattle.vale_serve.proofs.granting.take_next.Goals as goal

pub filled-requires : goal.filled-requires
filled-requires c =
    let e = c.grant-granted.ensures in
    let parts = c.into_lease-want.ensures in
    let first = rw (← parts.want) at e.want in
    let gives : IsLeaseBy c.args.book.now c.args.sent.now.offers.entry _ c.in-Some.lease = rw (sym parts.lease ∙ c.in-Some.is) at e.lease in
    subst (λ (fs : List (Vec _ Global)). IsFillable c.in-Some.lease c.into_lease-want.result.0.places (contents fs)) (sym c.deref.ensures.value)
    (fillable c.args.book.now c.args.sent.now c.requires (wanted c.into_lease-want.result.0) _ c.in-Some.lease first gives)

pub returns-in-Some : goal.returns-in-Some
returns-in-Some c =
    let e = c.grant-granted.ensures in
    let parts = c.into_lease-want.ensures in
    let want = wanted c.into_lease-want.result.0 in
    let first = rw (← parts.want) at e.want in
    let gives : IsLeaseBy c.args.book.now c.args.sent.now.offers.entry _ c.in-Some.lease = rw (sym parts.lease ∙ c.in-Some.is) at e.lease in
    let filled = subst (λ (fs : List (Vec _ Global)). IsFilledWith c.in-Some.lease c.into_lease-want.result.0.places (contents fs) c.filled.result) c.deref.ensures.value
    (record { id = c.filled.ensures.id; to = c.filled.ensures.to; full = c.filled.ensures.full; empty = c.filled.ensures.empty; kept = c.filled.ensures.kept; region_is = c.filled.ensures.region_is }) in
    record {
      to = c.grant-granted.result.to;
      first = ap (is_met (is_want_of c.grant-granted.result.to.0)) e.want ∙ eq-eqb c.grant-granted.result.want.to.0 c.grant-granted.result.to.0 (ap (λ (p : PortId). p.0) (sym e.to));
      made = e.made;
      said = e.said;
      room = e.room;
      left_is = ap (λ (o : OffersState). let left : Sent = record { offers = o; frames = c.args.sent.now.frames } in left) e.offers;
      leased = record { given = c.in-Some.lease; want = want; first = first; gives = gives; filled = filled };
      none = tt;
    }
