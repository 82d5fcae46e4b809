use Rattle.vale_port.proofs.Lists.{each_port_stands, found_is_found, not_found_is_none, change_is_change, shut_is_shut, done_is_done_among, open_is_open_among, gone_is_gone, new_is_new}
use Rattle.vale_port.proofs.Places.{seat_change_is_change}
use Rattle.vale_port.proofs.laws.ports_are_kept.Goals as goal

pub returns-clause-each : goal.returns-clause-each
returns-clause-each c = each_port_stands

pub returns-clause-found : goal.returns-clause-found
returns-clause-found c = found_is_found

pub returns-clause-not_found : goal.returns-clause-not_found
returns-clause-not_found c = not_found_is_none

pub returns-clause-change : goal.returns-clause-change
returns-clause-change c = change_is_change

pub returns-clause-shut : goal.returns-clause-shut
returns-clause-shut c = shut_is_shut

pub returns-clause-done : goal.returns-clause-done
returns-clause-done c = done_is_done_among

pub returns-clause-open : goal.returns-clause-open
returns-clause-open c = open_is_open_among

pub returns-clause-gone : goal.returns-clause-gone
returns-clause-gone c = gone_is_gone

pub returns-clause-new : goal.returns-clause-new
returns-clause-new c = new_is_new

pub returns-clause-seat_change : goal.returns-clause-seat_change
returns-clause-seat_change c = seat_change_is_change
