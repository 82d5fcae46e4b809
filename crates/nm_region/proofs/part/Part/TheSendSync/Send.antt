use denote.Param.Send.{IsSend}
use Rattle.nm_region.proofs.Crosses.{Part-send}
use Rattle.nm_region.specs.contracts.part.Part.{the_row}

pub send : IsSend the_row
send = Part-send
