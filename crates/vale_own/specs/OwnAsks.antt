-- Whether a session may ask something is told by what is its own.
use Rattle.std.specs.Prelude.{ℕ, Bool, false, ◌&&◌, ◌||◌, ◌==◌, nat_le, List, length, map, find, is_some}
use Rattle.std.specs.List.{list_all}
use Rattle.nm_types.specs.Frames.{Frame}
use Rattle.nm_types.specs.Limits.{most_batch}
use Rattle.nm_types.specs.Names.{is_name, is_switch_port_name, is_pipe_name, is_monitor_name}
use Rattle.nm_types.specs.Sendable.{is_sendable}
use Rattle.vale_entry.specs.declared.entry.Ask.{Ask}
use Rattle.vale_entry.specs.declared.entry.Ask.TheVariants.{Enter, Open, Send, Grant, Done, Sync, Reset, Shut, Finish, Leave, Put, PutKept, Get, Watch, Stat}
use Rattle.vale_entry.specs.declared.entry.Item.{Item}
use Rattle.vale_entry.specs.World.{Port, open_port, due_of}
use Rattle.vale_entry.specs.Offers.{is_offer_of}
use Rattle.vale_entry.specs.Delivery.{is_lease}
use Rattle.vale_entry.specs.Closing.{shutting_port}
use Rattle.vale_entry.specs.Monitors.{can_watch}
use Rattle.vale_entry.specs.Pipe.{indices_of, is_pipe_item}
use Rattle.vale_entry.specs.Holdings.{contains, are_distinct}
use Rattle.vale_entry.specs.Legal.{is_met, fits_u32, fits_chain, can_reset, is_offer_next}
use Rattle.vale_own.specs.Own.{Own, lot_of_lease, is_empty, is_settled_own}

-- these buffers are its own, each named once
abbrev pub holds_own : Own → List ℕ → Bool
holds_own own bufs = list_all (λ b. contains b own.buffers) bufs && are_distinct bufs

abbrev pub may_send : Own → List Frame → Port → Bool
may_send own frames port = is_switch_port_name port.name && (is_settled_own own && is_sendable frames)

-- no more buffers than are out
abbrev pub may_receive : Own → List ℕ → Port → Bool
may_receive own back port = is_settled_own own && (nat_le (length back) port.out && holds_own own back)

abbrev pub may_sync : Own → List ℕ → Port → Bool
may_sync own back port = (is_switch_port_name port.name || is_monitor_name port.name) && may_receive own back port

abbrev pub may_get : Own → List ℕ → Port → Bool
may_get own back port = is_pipe_name port.name && may_receive own back port

abbrev pub may_put : Own → List Item → Port → Bool
may_put own offered port =
    (is_pipe_name port.name && (is_settled_own own && (list_all is_pipe_item offered && holds_own own (indices_of offered)))) && nat_le (length offered) most_batch

abbrev pub may_shut : Own → Port → Bool
may_shut own port = is_settled_own own

-- as many buffers as the port is due; whether leases are out is not the session's own
abbrev pub may_finish : Own → List ℕ → Port → Bool
may_finish own bufs port = (length bufs == due_of port) && holds_own own bufs

abbrev pub may_open : Own → List ℕ → ℕ → ℕ → ℕ → Bool
may_open own name tx rx extra = own.there && (is_name name && (fits_u32 tx && (fits_u32 rx && fits_u32 extra)))

abbrev pub may_leave : Own → Bool
may_leave own = own.there && (is_empty own.ports && is_settled_own own)

abbrev pub may_ask : ℕ → Own → Ask → Bool
may_ask session own (Enter user) = false
may_ask session own (Open by name tx rx extra) = may_open own name tx rx extra && (by.0 == session)
may_ask session own (Send port frames) = is_met (may_send own frames) (open_port own.ports port.0)
may_ask session own (Grant origin to) = is_met (is_offer_next to.0) (find (is_offer_of origin) own.offers)
may_ask session own (Done lease) = is_some (find (is_lease lease.0) (map lot_of_lease own.leases))
may_ask session own (Sync port back) = is_met (may_sync own back) (open_port own.ports port.0)
may_ask session own (Reset port side fault) = is_met (can_reset side fault) (open_port own.ports port.0)
may_ask session own (Shut port) = is_met (may_shut own) (open_port own.ports port.0)
may_ask session own (Finish port bufs chain) = fits_chain chain && is_met (may_finish own bufs) (shutting_port own.ports port.0)
may_ask session own (Leave by) = may_leave own && (by.0 == session)
may_ask session own (Put port offered) = is_met (may_put own offered) (open_port own.ports port.0)
may_ask session own (PutKept port offered) = false
may_ask session own (Get port back) = is_met (may_get own back) (open_port own.ports port.0)
may_ask session own (Watch monitor target sides) = is_met (can_watch target) (open_port own.ports monitor.0)
may_ask session own (Stat port) = is_some (open_port own.ports port.0)
