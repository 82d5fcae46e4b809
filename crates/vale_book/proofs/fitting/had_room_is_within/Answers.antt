use Rattle.vale_book.proofs.fitting.had_room_is_within.Goals as goal
use Rattle.vale_book.proofs.FittingRooms.{had-within}

pub returns : goal.returns
returns c = had-within
