-- Worked examples of a session's own side, as theorems about the definitions: a pool of 64 buffers, and
-- two sessions with a port of 4 and 4 slots each. The first sends a frame that the second one reads,
-- gives back, and then closes its port.
use Rattle.std.specs.Prelude.{ℕ, ◌≡◌, ◌-◌, true, List, [], ◌∷◌, ◌++◌, take, map, slice_get, Option, Some, None, option_map, refl}
use Rattle.nm_types.specs.Names.{is_name, is_switch_port_name, is_pipe_name, is_monitor_name, switch_of, peer_name}
use Rattle.nm_types.specs.OwnPorts.{OwnState, empty_own, port_with_id}
use Rattle.nm_types.specs.OwnEdits.{with_all_back}
use Rattle.vale_entry.specs.declared.entry.Ask.TheVariants.{Sync, Shut, Finish}
use Rattle.vale_entry.specs.declared.entry.Entry.{Entry}
use Rattle.vale_entry.specs.declared.entry.Reply.TheVariants.{Made, Unread}
use Rattle.vale_entry.specs.Arrivals.{arrivals_of}
use Rattle.vale_entry.specs.OwnCalls.{rx_call, finish_call, own_after}
use Rattle.vale_entry.specs.RowWords.{entry, port, no_chain}
use Rattle.vale_entry.specs.Legal.{standing_of}
use Rattle.vale_own.specs.Own.{Own, own_of}
use Rattle.vale_own.specs.OwnAsks.{may_ask}
use Rattle.vale_own.specs.Rows.{run as read_run}
use Rattle.vale_own.specs.Side.{buffers_on, port_of_side}

abbrev run : List Entry
run =
    read_run
    ++ entry 2 (Shut (port 4)) Made
    ∷ entry 2 (Finish (port 4) (10 ∷ 11 ∷ 12 ∷ 13 ∷ []) no_chain) (Unread 0)
    ∷ []

abbrev own_at : ℕ → Own
own_at count = own_of 2 (standing_of 64 (take count run))

-- the second session's side after the entry of this number, which is its own
abbrev side_from : ℕ → Option Entry → OwnState → OwnState
side_from number None side = side
side_from number (Some e) side = own_after number e (arrivals_of (standing_of 64 (take (number - 1) run)) e.ask e.reply) side

abbrev side_after : ℕ → OwnState → OwnState
side_after number side = side_from number (slice_get run (number - 1)) side

abbrev opened : OwnState
opened = side_after 4 (empty_own 64)

abbrev read : OwnState
read = side_after 8 opened

-- it gives back what it read
abbrev given_back : OwnState
given_back = side_after 9 (with_all_back 4 read)

-- the ports are those that stand, and so are the buffers
opened_seen : ((own_at 4).ports ≡ map (port_of_side 2 None) opened.ports) × (buffers_on opened ≡ (own_at 4).buffers)
unfolding is_name is_switch_port_name is_pipe_name is_monitor_name switch_of peer_name
opened_seen = (refl, refl)

read_seen : ((own_at 8).ports ≡ map (port_of_side 2 None) read.ports) × (buffers_on read ≡ 10 ∷ 11 ∷ 12 ∷ 13 ∷ 14 ∷ [])
unfolding is_name is_switch_port_name is_pipe_name is_monitor_name switch_of peer_name
read_seen = (refl, refl)

-- the call that gives back is the one that the entry has, and may be asked
back_is_called : option_map (rx_call (with_all_back 4 read)) (port_with_id (with_all_back 4 read) 4) ≡ Some (Sync (port 4) (14 ∷ []))
unfolding is_name is_switch_port_name is_pipe_name is_monitor_name switch_of peer_name
back_is_called = refl

back_is_asked : may_ask 2 (own_at 8) (Sync (port 4) (14 ∷ [])) ≡ true
unfolding is_name is_switch_port_name is_pipe_name is_monitor_name switch_of peer_name
back_is_asked = refl

back_seen : ((own_at 9).ports ≡ map (port_of_side 2 None) given_back.ports) × (buffers_on given_back ≡ (own_at 9).buffers)
unfolding is_name is_switch_port_name is_pipe_name is_monitor_name switch_of peer_name
back_seen = (refl, refl)

-- a port that is shut stands still, and its detach names the buffers in its places
shut_ports : (own_at 10).ports ≡ map (port_of_side 2 (Some 4)) given_back.ports
unfolding is_name is_switch_port_name is_pipe_name is_monitor_name switch_of peer_name
shut_ports = refl

finish_is_called : option_map (finish_call given_back) (port_with_id given_back 4) ≡ Some (Finish (port 4) (10 ∷ 11 ∷ 12 ∷ 13 ∷ []) no_chain)
unfolding is_name is_switch_port_name is_pipe_name is_monitor_name switch_of peer_name
finish_is_called = refl

gone_ports : (own_at 11).ports ≡ map (port_of_side 2 None) (side_after 11 given_back).ports
unfolding is_name is_switch_port_name is_pipe_name is_monitor_name switch_of peer_name
gone_ports = refl
