use Rattle.nm_hold.proofs.Numbers.{row-put}
use Rattle.nm_hold.proofs.ports.displace_at.Goals as goal

pub replace_at-requires : goal.replace_at-requires
replace_at-requires c = rw c.replace_at-was.ensures.row (row-put c.args.place c.args.number c.args.row.now c.requires)
