-- What of all that stands is one session's own. Its own entries change it, and those of others do not.
use Rattle.std.specs.Prelude.{ℕ, Bool, true, false, ◌&&◌, ◌==◌, List, [], ◌∷◌, ◌++◌, map, filter, flat_map}
use Rattle.std.specs.List.{zip}
use Rattle.vale_entry.specs.World.{Port, Lot, Offer, is_session, is_owed_by}
use Rattle.vale_entry.specs.Closing.{is_port_of}
use Rattle.vale_entry.specs.Holdings.{PortBuffers, buffers_of_session}
use Rattle.vale_entry.specs.Legal.{Standing}

-- a port without its line, in which others queue their frames
abbrev pub port_alone : Port → Port
port_alone port = record port { line = [] }

abbrev pub is_offer_by : ℕ → Offer → Bool
is_offer_by session offer = offer.session == session

-- a lot with the buffers that are held for it
abbrev pub HeldLot : Type 0
HeldLot = Lot × List ℕ

abbrev pub lot_of_lease : HeldLot → Lot
lot_of_lease lease = lease.0

abbrev pub is_lease_of : ℕ → HeldLot → Bool
is_lease_of session lease = is_owed_by session lease.0

-- the lots in a port's line that the session was granted and has not done, each with its buffers
abbrev pub leases_at : ℕ → Port × PortBuffers → List HeldLot
leases_at session at = filter (is_lease_of session) (zip at.0.line at.1.lots)

-- whether the session is there, its ports, its offers in order, its leases in the order of the ports
-- and of their lines, and its buffers
pub record Own : Type 0 where
  pub there : Bool
  pub ports : List Port
  pub offers : List Offer
  pub leases : List HeldLot
  pub buffers : List ℕ

abbrev pub own_of : ℕ → Standing → Own
own_of session s = record {
  there = is_session s.world session;
  ports = filter (is_port_of session) (map port_alone s.world.ports);
  offers = filter (is_offer_by session) s.world.offers;
  leases = flat_map (leases_at session) (zip s.world.ports s.holdings.ports);
  buffers = buffers_of_session s.holdings.sessions session;
}

abbrev pub is_empty : {X : Type 0} → List X → Bool
is_empty [] = true
is_empty (x ∷ xs) = false

-- it has no offer and no lease
abbrev pub is_settled_own : Own → Bool
is_settled_own own = is_empty own.offers && is_empty own.leases

abbrev pub buffers_of_lease : HeldLot → List ℕ
buffers_of_lease lease = lease.1

-- the buffers that it holds, and those of its leases
abbrev pub all_buffers_of : Own → List ℕ
all_buffers_of own = own.buffers ++ flat_map buffers_of_lease own.leases
