use denote.RattleType.{RattleType}
use denote.Param.Send.{IsSend}
use Rattle.nm_reach.proofs.Crosses.{spot-send}
use Rattle.nm_reach.specs.contracts.parts.Spot as C

pub send : (T : RattleType) → IsSend T → IsSend (C.the_row T)
send T s = spot-send T
