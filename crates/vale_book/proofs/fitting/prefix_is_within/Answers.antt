use Rattle.vale_book.proofs.fitting.prefix_is_within.Goals as goal
use Rattle.vale_book.proofs.FittingRooms.{take-within}

pub returns : goal.returns
returns c = take-within
