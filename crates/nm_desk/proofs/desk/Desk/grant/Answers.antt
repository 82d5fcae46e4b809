use Rattle.vale_batch.specs.Wants.{wanted}
use Rattle.vale_entry.specs.declared.entry.Reply.TheVariants.{Shared}
use Rattle.nm_desk.proofs.Grants.{granted, held}
use Rattle.nm_desk.proofs.desk.Desk.grant.Goals as goal

pub returns-clause-made : goal.returns-clause-made
returns-clause-made c =
    let r = c.grant.result in
    granted c.args.book.now c.grant.new.self c.args.self.now c.args.offers.now r.to (Shared r.given r.full r.gone) c.requires.desk c.requires.stand c.requires.mine c.requires.next c.grant.ensures.made c.grant.ensures.said c.grant.ensures.room

pub returns-clause-held : goal.returns-clause-held
returns-clause-held c =
    let r = c.grant.result in
    held c.args.book.now c.grant.new.self c.args.self.now c.args.offers.now r.to (Shared r.given r.full r.gone) c.requires.desk c.requires.stand c.requires.mine c.requires.next c.grant.ensures.made c.grant.ensures.said
    r.lease r.given (wanted r.want) c.grant.ensures.want c.grant.ensures.given c.grant.ensures.lease
