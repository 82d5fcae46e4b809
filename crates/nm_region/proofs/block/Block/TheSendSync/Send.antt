use denote.Param.Send.{IsSend}
use Rattle.nm_region.proofs.Crosses.{Block-send}
use Rattle.nm_region.specs.contracts.block.Block.{the_row}

pub send : IsSend the_row
send = Block-send
