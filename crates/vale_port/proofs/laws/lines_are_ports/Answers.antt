use Rattle.vale_port.proofs.SeatTies.{space_is_space, sizes_are_sizes, grant_is_grant, no_grant_is_none, done_is_done, sync_is_sync, put_is_put}
use Rattle.vale_port.proofs.laws.lines_are_ports.Goals as goal

pub returns-clause-space : goal.returns-clause-space
returns-clause-space c = space_is_space

pub returns-clause-sizes : goal.returns-clause-sizes
returns-clause-sizes c = sizes_are_sizes

pub returns-clause-grant : goal.returns-clause-grant
returns-clause-grant c = grant_is_grant

pub returns-clause-no_grant : goal.returns-clause-no_grant
returns-clause-no_grant c = no_grant_is_none

pub returns-clause-done : goal.returns-clause-done
returns-clause-done c = done_is_done

pub returns-clause-sync : goal.returns-clause-sync
returns-clause-sync c = sync_is_sync

pub returns-clause-put : goal.returns-clause-put
returns-clause-put c = put_is_put
