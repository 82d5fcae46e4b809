use Rattle.std.proofs.Common.{ℕ, true, List, ap, sym, subst, length, drop, take}
use Rattle.std.specs.Prelude.{IfSome}
use Rattle.nm_types.specs.Frames.{Frame}
use Rattle.vale_line.specs.Leased.{Leased}
use Rattle.vale_batch.specs.Wants.{wanted}
use Rattle.vale_port.specs.Kept.{bytes_of}
use Rattle.vale_port.proofs.Calls.{IfSome-weaker}
use Rattle.vale_entry.specs.declared.entry.Ask.TheVariants.{Grant}
use Rattle.vale_entry.specs.declared.entry.Reply.TheVariants.{Shared}
use Rattle.vale_book.specs.Recorded.{Recorded, standing}
use Rattle.vale_book.specs.Offering.{OffersState, OffersStand}
use Rattle.vale_fabric.specs.Fabrics.{fixed_in, knowing, seen_by}
use Rattle.vale_book.specs.Leases.{IsHeldBy, IsHeldFor, IsLeaseBy, StandOf}
use Rattle.vale_fabric.proofs.Acting.{Acts, acted, goes-back}
use Rattle.vale_book.proofs.Said.{steps-said}
use Rattle.vale_fabric.proofs.Making.{Made, adds-by, answered}
use Rattle.vale_book.proofs.OffersHeld.{granter}
use Rattle.vale_book.proofs.LeasesHeld.{held-frames}
use Rattle.vale_fabric.proofs.OwnNow.{stand-now, stand-after, as-of}
use Rattle.vale_fabric.proofs.Lent.{as-lent}
use Rattle.vale_fabric.proofs.fabric.Fabric.grant.Given as given
use Rattle.vale_fabric.proofs.fabric.Fabric.grant.Goals.{After-deref_mut, After-give, After-grant-granted}
use Rattle.vale_fabric.proofs.fabric.Fabric.grant.Goals as goal

-- what the offers are of, at the book that was taken
stood : (g : given.Over) (c : After-deref_mut g) (frames : List Frame) → StandOf (standing (seen_by c.args.self.now c.args.pass.now)) c.args.offers.now frames → StandOf (standing c.deref_mut.result.now) c.args.offers.now frames
stood g c = stand-now c.args.offers.now (as-lent c.deref_mut.ensures.value c.take-book.ensures.taken) c.requires.speaks c.requires.next

first : (g : given.Over) (c : After-deref_mut g) → OffersStand (standing c.deref_mut.result.now) c.args.offers.now
first g c = (stood g c c.requires.stand.frames (as-of c.requires.stand)).stand

acts : (g : given.Over) (c : After-grant-granted g) → Acts c.deref_mut.result.now c.grant-granted.new.self (Grant c.args.offers.now.entry c.grant-granted.result.to)
acts g c =
    let call = c.grant-granted.ensures in
    let said = c.grant-granted.result in
    record { steps = steps-said (Shared said.given said.full said.gone) call.said; grown = call.made; room = call.room }

makes : (g : given.Over) (c : After-give g) → Made (fixed_in c.args.self.now) (knowing c.args.pass.now) (knowing c.give.new.pass) c.deref_mut.result.now c.grant-granted.new.self (Grant c.args.offers.now.entry c.grant-granted.result.to)
makes g c = acted (as-lent c.deref_mut.ensures.value c.take-book.ensures.taken) c.give.ensures.back (acts g c.before.before.before)

-- the lease is one of the session's own, for frames that are offered
fills : (g : given.Over) (c : After-give g) → IfSome c.grant-granted.result.lease (λ (lease : Leased). (frames : List Frame) → StandOf (standing (seen_by c.args.self.now c.args.pass.now)) c.args.offers.now frames
    → IsHeldFor (seen_by c.args.self.now c.give.new.pass) c.args.offers.now.session lease (bytes_of frames) (take c.grant-granted.result.given c.grant-granted.result.want.places))
fills g c =
    let granted = c.before.before.before in
    let call = c.grant-granted.ensures in
    let said = c.grant-granted.result in
    let o = c.args.offers.now in
    subst (λ (r : Recorded). IfSome said.lease (λ (lease : Leased). (frames : List Frame) → StandOf (standing (seen_by c.args.self.now c.args.pass.now)) o frames
    → IsHeldFor r o.session lease (bytes_of frames) (take said.given said.want.places))) (sym (makes g c).now)
    (held-frames o said.to (acts g granted).steps (λ (frames : List Frame). StandOf (standing (seen_by c.args.self.now c.args.pass.now)) o frames) said.lease said.given (wanted said.want)
    (as-lent c.deref_mut.ensures.value c.take-book.ensures.taken).legal call.made c.requires.next (stood g granted.before.before) (first g granted.before.before) call.want call.given call.lease)

pub grant-granted-requires-clause-stand : goal.grant-granted-requires-clause-stand
grant-granted-requires-clause-stand g c = first g (goal.at.grant-granted-requires-clause-stand g c).After-deref_mut

pub give-requires-clause-goes : goal.give-requires-clause-goes
give-requires-clause-goes g c =
    let at = goal.at.give-requires-clause-goes g c in
    let o = c.args.offers.now in
    let to = c.grant-granted.result.to in
    goes-back (as-lent c.deref_mut.ensures.value c.take-book.ensures.taken) true
    (λ a. adds-by (as-lent c.deref_mut.ensures.value c.take-book.ensures.taken) a.steps (granter (standing c.deref_mut.result.now) o to a.steps.makes c.requires.next (first g at.After-deref_mut) a.steps.is) c.requires.speaks a.grown)
    (acts g at.After-grant-granted)

pub returns-clause-made : goal.returns-clause-made
returns-clause-made g c = answered (makes g (goal.at.returns-clause-made g c).After-give) c.grant-granted.ensures.said

pub returns-clause-stand : goal.returns-clause-stand
returns-clause-stand g c =
    let at = goal.at.returns-clause-stand g c in
    let st = first g at.After-deref_mut in
    let a = acts g at.After-grant-granted in
    subst (OffersStand (standing (seen_by c.args.self.now c.give.new.pass))) (sym c.grant-granted.ensures.offers)
    (subst (λ (b : Recorded). OffersStand (standing b) (record c.args.offers.now { wants = drop 1 c.args.offers.now.wants })) (sym (makes g at.After-give).now)
    (stand-after c.args.offers.now c.grant-granted.result.to a.steps a.grown c.requires.next st.frames (as-of st)).stand)

pub returns-clause-frames : goal.returns-clause-frames
returns-clause-frames g c frames of =
    let at = goal.at.returns-clause-frames g c in
    let o = c.args.offers.now in
    let a = acts g at.After-grant-granted in
    subst (λ (x : OffersState). StandOf (standing (seen_by c.args.self.now c.give.new.pass)) x frames) (sym c.grant-granted.ensures.offers)
    (subst (λ (b : Recorded). StandOf (standing b) (record o { wants = drop 1 o.wants }) frames) (sym (makes g at.After-give).now)
    (stand-after o c.grant-granted.result.to a.steps a.grown c.requires.next frames (stood g at.After-deref_mut frames of)))

pub returns-clause-fills : goal.returns-clause-fills
returns-clause-fills g c = fills g (goal.at.returns-clause-fills g c).After-give

pub returns-clause-lease : goal.returns-clause-lease
returns-clause-lease g c =
    let m = makes g (goal.at.returns-clause-lease g c).After-give in
    let lease = c.grant-granted.result.lease in
    subst (λ (b : Recorded). IfSome lease (IsLeaseBy b c.args.offers.now.entry (length (seen_by c.args.self.now c.give.new.pass).entries))) (sym m.was)
    (subst (λ (n : ℕ). IfSome lease (IsLeaseBy c.deref_mut.result.now c.args.offers.now.entry n)) (sym (ap (λ (b : Recorded). length b.entries) m.now)) c.grant-granted.ensures.lease)

pub returns-clause-held : goal.returns-clause-held
returns-clause-held g c =
    IfSome-weaker {Q = IsHeldBy (seen_by c.args.self.now c.give.new.pass) c.args.offers.now.session} c.grant-granted.result.lease
    (λ lease held. (held c.requires.stand.frames (as-of c.requires.stand)).is) (fills g (goal.at.returns-clause-held g c).After-give)
