-- What an entry of a session makes of what is its own.
use Rattle.std.specs.Prelude.{ℕ, true, false, ◌+◌, ◌-◌, List, [], ◌∷◌, ◌++◌, filter, not, ◌==◌, length, take, drop}
use Rattle.std.specs.Option.{option_map_or}
use Rattle.nm_types.specs.Frames.{Frame, size_of_frames}
use Rattle.vale_entry.specs.declared.entry.Ask.{Ask}
use Rattle.vale_entry.specs.declared.entry.Ask.TheVariants.{Enter, Open, Send, Grant, Done, Sync, Shut, Finish, Leave, PutKept, Get}
use Rattle.vale_entry.specs.declared.entry.Item.{Item}
use Rattle.vale_entry.specs.declared.entry.Reply.{Reply}
use Rattle.vale_entry.specs.declared.entry.Reply.TheVariants.{Opened, Took}
use Rattle.vale_entry.specs.World.{Port, Offer, open_port, changed_at}
use Rattle.vale_entry.specs.Opening.{opened_port}
use Rattle.vale_entry.specs.Grant.{first_offer, granted_frames}
use Rattle.vale_entry.specs.Delivery.{ready_lots, delivered_frames}
use Rattle.vale_entry.specs.Closing.{shut, ports_without}
use Rattle.vale_entry.specs.Pipe.{peer_of, indices_of, frames_of_items}
use Rattle.vale_entry.specs.Holdings.{buffers_without, delivered_buffers, first_idle}
use Rattle.vale_entry.specs.Legal.{Standing, offers_of_send, offers_of_sync, offers_of_put}
use Rattle.vale_own.specs.Own.{Own, HeldLot}

abbrev pub nothing_own : Own
nothing_own = record { there = false; ports = []; offers = []; leases = []; buffers = [] }

-- a port more, and for it the smallest free buffers as transmit buffers and those behind the receive
-- ring's as extra ones
abbrev pub own_opened : Standing → ℕ → List ℕ → ℕ → ℕ → ℕ → Own → Own
own_opened s session name tx rx extra own = record own {
  ports = own.ports ++ opened_port (s.world.entry_count + 1) session name tx rx extra ∷ [];
  buffers = own.buffers ++ (take tx s.holdings.free ++ take extra (drop (tx + rx) s.holdings.free));
}

abbrev pub own_sent : Standing → List Frame → Own → Port → Own
own_sent s frames own port = record own { offers = own.offers ++ offers_of_send s.world port frames }

-- a lease of frames, if there are any
abbrev pub lease_of : ℕ → ℕ → List Frame → List ℕ → List HeldLot
lease_of number session [] buffers = []
lease_of number session (frame ∷ frames) buffers = (record { number = number; session = session; frames = frame ∷ frames; is_done = false }, buffers) ∷ []

-- its first offer less, and a lease more of the frames given, in the first idle buffers of the port
abbrev pub own_granted : Standing → Own → Offer → Own
own_granted s own offer = record own {
  offers = drop 1 own.offers;
  leases = own.leases ++ lease_of (s.world.entry_count + 1) offer.session (granted_frames s.world offer) (first_idle offer.to (size_of_frames (granted_frames s.world offer)) s.holdings.ports);
}

abbrev pub own_done : ℕ → Own → Own
own_done number own = record own { leases = filter (λ (lease : HeldLot). not (lease.0.number == number)) own.leases }

-- more is out by what came, and less by what was brought back
abbrev pub received_port : ℕ → ℕ → Port → Port
received_port came returned port = record port { out = port.out + came - returned }

abbrev pub own_received : Standing → List ℕ → Own → Port → Own
own_received s back own port = record own {
  ports = changed_at port.id (received_port (size_of_frames (delivered_frames port)) (length back)) own.ports;
  offers = own.offers ++ offers_of_sync s.world port;
  buffers = buffers_without back own.buffers ++ delivered_buffers port.id (length (ready_lots port)) s.holdings.ports;
}

-- the buffers of the frames taken go, and as many of the other end's first idle ones come
abbrev pub own_put : Standing → List Item → Own → Port → Port → Own
own_put s items own port peer = record own {
  offers = own.offers ++ offers_of_put s.world port (frames_of_items items);
  buffers = buffers_without (indices_of items) own.buffers ++ first_idle peer.id (length (indices_of items)) s.holdings.ports;
}

abbrev pub own_put_at : Standing → List Item → Own → Port → Own
own_put_at s items own port = option_map_or (own_put s items own port) (peer_of s.world.ports port) own

-- by what stands before the entry; what is not named here leaves it as it was
abbrev pub own_after_entry : Standing → Ask → Reply → Own → Own
own_after_entry s (Enter user) reply own = record nothing_own { there = true }
own_after_entry s (Open session name tx rx extra) Opened own = own_opened s session.0 name tx rx extra own
own_after_entry s (Send port frames) reply own = option_map_or (own_sent s frames own) (open_port s.world.ports port.0) own
own_after_entry s (Grant origin to) reply own = option_map_or (own_granted s own) (first_offer s.world origin) own
own_after_entry s (Done lease) reply own = own_done lease.0 own
own_after_entry s (Sync port back) reply own = option_map_or (own_received s back own) (open_port s.world.ports port.0) own
own_after_entry s (Get port back) reply own = option_map_or (own_received s back own) (open_port s.world.ports port.0) own
own_after_entry s (PutKept port offered) (Took items to) own = option_map_or (own_put_at s items own) (open_port s.world.ports port.0) own
own_after_entry s (Shut port) reply own = record own { ports = changed_at port.0 shut own.ports }
own_after_entry s (Finish port bufs chain) reply own = record own { ports = ports_without port.0 own.ports; buffers = buffers_without bufs own.buffers }
own_after_entry s (Leave session) reply own = record own { there = false; buffers = [] }
own_after_entry s _ reply own = own

-- the buffers that an entry gives up
abbrev pub given_up : Ask → Reply → List ℕ
given_up (Sync port back) reply = back
given_up (Get port back) reply = back
given_up (Finish port bufs chain) reply = bufs
given_up (PutKept port offered) (Took items to) = indices_of items
given_up _ reply = []
