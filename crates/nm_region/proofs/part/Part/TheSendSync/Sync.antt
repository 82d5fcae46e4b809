use denote.Param.Send.{IsSync}
use Rattle.nm_region.proofs.Crosses.{Part-sync}
use Rattle.nm_region.specs.contracts.part.Part.{the_row}

pub sync : IsSync the_row
sync = Part-sync
