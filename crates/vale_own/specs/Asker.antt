-- Whose an ask is.
use Rattle.std.specs.Prelude.{ℕ, Bool, true, false, ◌&&◌, ◌==◌, Option, Some, None, option_map}
use Rattle.vale_entry.specs.declared.entry.Ask.{Ask}
use Rattle.vale_entry.specs.declared.entry.Ask.TheVariants.{Enter, Open, Send, Grant, Done, Sync, Reset, Shut, Finish, Leave, Put, PutKept, Get, Watch, Stat}
use Rattle.vale_entry.specs.World.{Port, Lot, Offer, open_port}
use Rattle.vale_entry.specs.Grant.{first_offer}
use Rattle.vale_entry.specs.Delivery.{lease_at}
use Rattle.vale_entry.specs.Closing.{shutting_port}
use Rattle.vale_entry.specs.Legal.{Standing, is_enabled}

abbrev pub owner_of_port : Port → ℕ
owner_of_port port = port.session

abbrev pub owner_of_offer : Offer → ℕ
owner_of_offer offer = offer.session

abbrev pub owner_of_lot : Lot → ℕ
owner_of_lot lot = lot.session

-- the session that the ask names, or that of the port, of the entry's next offer or of the lease that
-- it names; a Finish names a shutting port, every other ask an open one; an Enter is nobody's
abbrev pub asker_of : Standing → Ask → Option ℕ
asker_of s (Enter user) = None
asker_of s (Open session name tx rx extra) = Some session.0
asker_of s (Send port frames) = option_map owner_of_port (open_port s.world.ports port.0)
asker_of s (Grant origin to) = option_map owner_of_offer (first_offer s.world origin)
asker_of s (Done lease) = option_map owner_of_lot (lease_at s.world.ports lease.0)
asker_of s (Sync port back) = option_map owner_of_port (open_port s.world.ports port.0)
asker_of s (Reset port side fault) = option_map owner_of_port (open_port s.world.ports port.0)
asker_of s (Shut port) = option_map owner_of_port (open_port s.world.ports port.0)
asker_of s (Finish port bufs chain) = option_map owner_of_port (shutting_port s.world.ports port.0)
asker_of s (Leave session) = Some session.0
asker_of s (Put port offered) = option_map owner_of_port (open_port s.world.ports port.0)
asker_of s (PutKept port offered) = option_map owner_of_port (open_port s.world.ports port.0)
asker_of s (Get port back) = option_map owner_of_port (open_port s.world.ports port.0)
asker_of s (Watch monitor target sides) = option_map owner_of_port (open_port s.world.ports monitor.0)
asker_of s (Stat port) = option_map owner_of_port (open_port s.world.ports port.0)

abbrev pub is_enter : Ask → Bool
is_enter (Enter user) = true
is_enter _ = false

abbrev pub is_asker : Option ℕ → ℕ → Bool
is_asker None session = false
is_asker (Some owner) session = owner == session

-- the ask is enabled, a Finish also where it waits, and is this session's
abbrev pub asks : Standing → ℕ → Ask → Bool
asks s session ask = is_enabled s ask && is_asker (asker_of s ask) session
