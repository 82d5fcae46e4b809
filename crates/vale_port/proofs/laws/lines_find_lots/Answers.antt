use Rattle.vale_port.proofs.SeatTies.{lots_are_lots, filled_is_out, size-seat, sizes_are_frame_sizes}
use Rattle.vale_port.proofs.laws.lines_find_lots.Goals as goal

pub returns-clause-lots : goal.returns-clause-lots
returns-clause-lots c = lots_are_lots

pub returns-clause-filled : goal.returns-clause-filled
returns-clause-filled c = filled_is_out

pub returns-clause-ring : goal.returns-clause-ring
returns-clause-ring c = size-seat

pub returns-clause-sizes : goal.returns-clause-sizes
returns-clause-sizes c = sizes_are_frame_sizes
