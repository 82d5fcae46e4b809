use Rattle.std.proofs.Common.{rules, ◌≡◌, ◌∙◌, [], List, ap}
use Rattle.nm_region.specs.Buffers.{Buffer, indices_of}
use Rattle.nm_types.specs.OwnSyncs.{own_after_put}
use Rattle.nm_own.specs.Opening.{blank_arrivals}
use Rattle.nm_port.specs.Regions.{SideState}
use Rattle.nm_user.proofs.TransmitsLent.{take-none}
use Rattle.nm_user.proofs.putting.Offering.refused.Goals as goal

pub taken-requires : goal.taken-requires
taken-requires c =
    let none : c.new.result.items ≡ [] = search rules in
    (c.requires.0, (c.args.self.pending.items, take-none c.requires.0 c.args.self c.new.result.items none c.requires.1))

pub returns-in-PeerGone-clause-own : goal.returns-in-PeerGone-clause-own
returns-in-PeerGone-clause-own c s is =
    let none : c.new.result.items ≡ [] = search rules in
    rw c.in-PeerGone.is (c.taken.ensures.own s c.args.self.pending.items (take-none s c.args.self c.new.result.items none is)
    ∙ ap (λ (came : List Buffer). own_after_put c.args.self.lent.port.0 (blank_arrivals (indices_of came)) s.own) none)

pub returns-in-PeerGone-clause-region : goal.returns-in-PeerGone-clause-region
returns-in-PeerGone-clause-region c s is region all =
    let none : c.new.result.items ≡ [] = search rules in
    c.taken.ensures.region s c.args.self.pending.items (take-none s c.args.self c.new.result.items none is) region all (rw none tt)

pub returns-in-RecordFull : goal.returns-in-RecordFull
returns-in-RecordFull c = record {
  own = λ s is. rw c.in-RecordFull.is (ap (λ (side : SideState). side.own) (c.undo.ensures s is));
  region = λ s is region all. rw (c.undo.ensures s is) all;
}

pub returns-in-NoMemory : goal.returns-in-NoMemory
returns-in-NoMemory c = record {
  own = λ s is. rw c.in-NoMemory.is (ap (λ (side : SideState). side.own) (c.undo-in-NoMemory.ensures s is));
  region = λ s is region all. rw (c.undo-in-NoMemory.ensures s is) all;
}
