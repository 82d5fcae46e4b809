use Rattle.vale_parts.proofs.TablesKept.{found_open, fresh_nothing, fresh_size, sizes_kept, frames_learned, taken_back}
use Rattle.vale_parts.proofs.laws.tables_are_sound.Goals as goal

pub returns-clause-found : goal.returns-clause-found
returns-clause-found c = found_open

pub returns-clause-fresh : goal.returns-clause-fresh
returns-clause-fresh c = fresh_nothing

pub returns-clause-size : goal.returns-clause-size
returns-clause-size c = fresh_size

pub returns-clause-kept : goal.returns-clause-kept
returns-clause-kept c = sizes_kept

pub returns-clause-frame : goal.returns-clause-frame
returns-clause-frame c = frames_learned

pub returns-clause-back : goal.returns-clause-back
returns-clause-back c = taken_back
