use Rattle.std.proofs.Common.{ℕ, ◌+◌, ◌≡◌, List, IfSome, length, take, refl, sym, ◌∙◌, ap, subst, arith}
use Rattle.std.proofs.lemmas.List.{length-drop}
use Rattle.nm_types.specs.Frames.{Frame}
use Rattle.vale_fabric.specs.Filling.{bytes_from}
use Rattle.vale_book.specs.Offering.{OffersState}
use Rattle.vale_book.specs.Recorded.{standing}
use Rattle.vale_fabric.specs.Fabrics.{fixed_in, knowing, seen_by}
use Rattle.vale_book.specs.Leases.{StandOf}
use Rattle.vale_fabric.specs.Leases.{MayFillFrom}
use Rattle.vale_fabric.specs.Settling.{IsAtHand, frames_wanted, shared_in}
use Rattle.vale_fabric.proofs.GrantsSettle.{Rest, for-bytes, as-many-places, may-fill-from, settled-next}
use Rattle.vale_fabric.proofs.Passing.{passed-by, passed-then}
use Rattle.vale_fabric.proofs.fabric.Fabric.settle_next.Given as given
use Rattle.vale_fabric.proofs.fabric.Fabric.settle_next.Goals.{After-complete}
use Rattle.vale_fabric.proofs.fabric.Fabric.settle_next.Goals as goal

pub slice_bounds-places-end : goal.slice_bounds-places-end
slice_bounds-places-end g c =
    let given = c.grant-given.result.given in
    let places = c.grant-given.result.want.places in
    let held = for-bytes (seen_by c.args.self.now c.grant-given.new.pass) c.args.offers.now.session (standing (seen_by c.args.self.now c.args.pass.now)) c.args.offers.now (bytes_from c.args.frames)
    (take given places) c.grant-given.result.lease (c.requires.hand.stands c.requires.next) c.grant-given.ensures.fills in
    as-many-places (seen_by c.args.self.now c.grant-given.new.pass) c.args.offers.now.session (bytes_from c.args.frames) given places c.grant-given.result.lease c.grant-given.ensures.given held
    ∙ ap (λ (l : List ℕ). length (take given l)) (sym c.as_slice.ensures)

pub complete-requires-clause-held : goal.complete-requires-clause-held
complete-requires-clause-held g c =
    let given = c.grant-given.result.given in
    let held = for-bytes (seen_by c.args.self.now c.grant-given.new.pass) c.args.offers.now.session (standing (seen_by c.args.self.now c.args.pass.now)) c.args.offers.now (bytes_from c.args.frames)
    (take given c.grant-given.result.want.places) c.grant-given.result.lease (c.requires.hand.stands c.requires.next) c.grant-given.ensures.fills in
    subst (λ (l : List ℕ). IfSome c.grant-given.result.lease (λ lease. MayFillFrom (fixed_in c.args.self.now) (knowing c.grant-given.new.pass) lease (bytes_from c.args.frames) (take given l))) (sym c.as_slice.ensures)
    (may-fill-from c.args.offers.now.session (bytes_from c.args.frames) (take given c.grant-given.result.want.places) c.grant-given.result.lease c.grant-given.ensures.made.makes c.requires.hand.speaks held)

rest : (g : given.Over) (c : After-complete g) → Rest (fixed_in c.args.self.now) (knowing c.args.pass.now) (knowing c.complete.new.pass) c.args.offers.now (bytes_from c.args.frames)
    (record { given = c.grant-given.result.given; full = c.grant-given.result.full; gone = c.grant-given.result.gone })
rest g c =
    let call = c.grant-given.ensures in
    let said = c.grant-given.result in
    let o = c.args.offers.now in
    let stands = λ (frames : List Frame) (st : StandOf (standing (seen_by c.args.self.now c.args.pass.now)) o frames). subst (λ (x : OffersState). StandOf (standing (seen_by c.args.self.now c.grant-given.new.pass)) x frames) call.offers (call.frames frames st) in
    settled-next o (bytes_from c.args.frames) said.to said.given said.full said.gone said.lease c.requires.hand c.requires.next call.made call.given stands call.held c.complete.ensures.none c.complete.ensures.some

pub returns-clause-hand : goal.returns-clause-hand
returns-clause-hand g c =
    subst (λ (x : OffersState). IsAtHand (fixed_in c.args.self.now) (knowing c.complete.new.pass) x (bytes_from c.args.frames)) (sym c.grant-given.ensures.offers) (rest g (goal.at.returns-clause-hand g c).After-complete).hand

pub returns-clause-settling : goal.returns-clause-settling
returns-clause-settling g c = (rest g (goal.at.returns-clause-settling g c).After-complete).settling

pub returns-clause-all : goal.returns-clause-all
returns-clause-all g c =
    let said = c.grant-given.result in
    subst (λ (x : OffersState). shared_in (record { given = said.given; full = said.full; gone = said.gone }) + frames_wanted x.wants ≡ frames_wanted c.args.offers.now.wants) (sym c.grant-given.ensures.offers)
    (rest g (goal.at.returns-clause-all g c).After-complete).all

pub returns-clause-fewer : goal.returns-clause-fewer
returns-clause-fewer g c =
    let next = c.requires.next in
    let left = ap (λ (o : OffersState). length o.wants) c.grant-given.ensures.offers ∙ length-drop 1 c.args.offers.now.wants in
    omega (arith, left, next)

pub returns-clause-passed : goal.returns-clause-passed
returns-clause-passed g c = passed-then (passed-by c.args.user _ c.grant-given.ensures.made.makes refl) c.complete.ensures.passed
