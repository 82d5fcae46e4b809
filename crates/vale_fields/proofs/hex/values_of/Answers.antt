use Rattle.vale_fields.proofs.HexBlocks.{uppers-low, tables-are}
use Rattle.vale_fields.proofs.hex.values_of.Goals as goal

pub looked_up-requires-2-clause-low : goal.looked_up-requires-2-clause-low
looked_up-requires-2-clause-low c = uppers-low c.args.digits.now c.requires c.type_inv.digits

pub looked_up-requires-4-clause-low : goal.looked_up-requires-4-clause-low
looked_up-requires-4-clause-low c = uppers-low c.args.digits.now c.requires c.type_inv.digits

pub returns : goal.returns
returns c = tables-are c.args.digits.now c.looked_up.result c.looked_up-2.result c.looked_up-3.result c.looked_up-4.result c.requires c.type_inv.digits
    c.looked_up.ensures c.looked_up-2.ensures c.looked_up-3.ensures c.looked_up-4.ensures
