use Rattle.vale_book.proofs.fitting.prefix_had_room.Goals as goal
use Rattle.vale_book.proofs.FittingRooms.{had-take}

pub returns : goal.returns
returns c = had-take
