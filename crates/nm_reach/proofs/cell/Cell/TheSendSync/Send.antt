use denote.RattleType.{RattleType}
use denote.Param.Send.{IsSend}
use Rattle.nm_reach.proofs.Crosses.{cell-send}
use Rattle.nm_reach.specs.contracts.cell.Cell as C

pub send : (T : RattleType) → IsSend T → IsSend (C.the_row T)
send T s = cell-send T s
