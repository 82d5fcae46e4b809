-- The five owners of a buffer while a script is played: the pool, a lease, the kernel side of a
-- ring, a slot of a user, the list of a port's extra buffers.
use Rattle.std.specs.Prelude.{ℕ, true, false, not, ◌==◌, ◌≡◌, if◌then◌else◌, List, [], ◌∷◌, ◌++◌, length, map, filter, flat_map, replicate, count_by, take, slice_get, Option, Some, None}
use Rattle.std.specs.List.{range_with_len, AllByRecursion}
use Rattle.std.specs.Option.{option_map_or}
use Rattle.nm_types.specs.declared.id.SessionId.{SessionId}
use Rattle.nm_types.specs.declared.id.Side.TheVariants.{Tx}
use Rattle.nm_types.specs.Positions.{is_user_slot}
use Rattle.nm_types.specs.OwnPorts.{OwnRing, OwnPort, buffer_in}
use Rattle.vale_entry.specs.declared.entry.Entry.{Entry}
use Rattle.vale_entry.specs.World.{Port, Lot}
use Rattle.vale_entry.specs.Holdings.{PortBuffers, is_buffer_index, contains, buffers_of_session}
use Rattle.vale_entry.specs.Legal.{Standing, standing_of}
use Rattle.vale_own.specs.Side.{buffers_on}
use Rattle.vale_script.specs.Script.{Program}
use Rattle.vale_replay.specs.Machine.{Machine}
use Rattle.vale_replay.specs.Replay.{Cast, HasPlayed, IsUnderWay}
use Rattle.vale_replay.specs.Tasks.{Captures}

pub data Owner : Type 0 where
  Pool : Owner
  Lease : Owner
  KernelSlot : Owner
  UserSlot : Owner
  ExtraList : Owner

-- an owner once for each time that the buffer stands in its list
abbrev pub times_in : ℕ → List ℕ → ℕ
times_in b buffers = count_by (λ x. x == b) buffers

abbrev pub owner_of_each : ℕ → Owner → List ℕ → List Owner
owner_of_each b owner buffers = replicate (times_in b buffers) owner

-- a lot's buffers are its lease's until it is done, and then the kernel side's
abbrev pub owners_of_lots : ℕ → List Lot → List (List ℕ) → List Owner
owners_of_lots b [] buffers = []
owners_of_lots b (lot ∷ lots) [] = []
owners_of_lots b (lot ∷ lots) (held ∷ buffers) =
    owner_of_each b (if lot.is_done then KernelSlot else Lease) held ++ owners_of_lots b lots buffers

-- the kernel side of a port's receive ring
abbrev pub owners_at : ℕ → List Port → List PortBuffers → List Owner
owners_at b [] helds = []
owners_at b (port ∷ ports) [] = []
owners_at b (port ∷ ports) (held ∷ helds) =
    (owner_of_each b KernelSlot held.idle ++ owners_of_lots b port.line held.lots)
    ++ owners_at b ports helds

-- the places of a transmit ring: those of the user, and the others
abbrev pub user_places : OwnRing → List ℕ
user_places r = map (buffer_in Tx r) (filter (is_user_slot r.ring) (range_with_len 0 r.ring.size))

abbrev pub kernel_places : OwnRing → List ℕ
kernel_places r =
    map (buffer_in Tx r) (filter (λ at. not (is_user_slot r.ring at)) (range_with_len 0 r.ring.size))

abbrev pub owners_of_tx : ℕ → Option OwnRing → List Owner
owners_of_tx b None = []
owners_of_tx b (Some r) =
    owner_of_each b UserSlot (user_places r) ++ owner_of_each b KernelSlot (kernel_places r)

abbrev pub owners_of_port : ℕ → OwnPort → List Owner
owners_of_port b p =
    owners_of_tx b p.tx ++ (owner_of_each b UserSlot p.rx.held ++ owner_of_each b ExtraList p.extra)

abbrev pub owners_of_user : ℕ → Machine → List Owner
owners_of_user b user = flat_map (owners_of_port b) user.own.ports

abbrev pub owners_of : Standing → List Machine → ℕ → List Owner
owners_of s users b =
    owner_of_each b Pool s.holdings.free
    ++ (owners_at b s.world.ports s.holdings.ports ++ flat_map (owners_of_user b) users)

abbrev pub buffers_of_user : Standing → Machine → List ℕ
buffers_of_user s user =
    option_map_or (λ (session : SessionId). buffers_of_session s.holdings.sessions session.0) user.session []

-- the buffers in a user's places are those that its session holds
abbrev pub HoldsItsOwn : Standing → Machine → Type 0
HoldsItsOwn s user =
    (b : ℕ) → times_in b (buffers_on user.own) ≡ times_in b (buffers_of_user s user)

-- each user of a history under way holds what its session does
abbrev pub UsersHoldTheirOwn : Type 0
UsersHoldTheirOwn =
    (program : Program) (captures : Captures) (history : List Entry) (nows : Cast)
    → IsUnderWay program captures history nows
    → AllByRecursion (HoldsItsOwn (standing_of program.pool history)) nows.users

-- each buffer of the pool has just one owner, and no other index has any
abbrev pub AreOwnedOnce : ℕ → Standing → List Machine → Type 0
AreOwnedOnce pool s users =
    (b : ℕ) → length (owners_of s users b) ≡ (if is_buffer_index pool b then 1 else 0)

-- so it is wherever the users of a history are on their way
abbrev pub BuffersHaveOneOwner : Type 0
BuffersHaveOneOwner =
    (program : Program) (captures : Captures) (history : List Entry) (nows : Cast)
    → IsUnderWay program captures history nows
    → AreOwnedOnce program.pool (standing_of program.pool history) nows.users

-- Before each entry of the history, and after the last one, it has brought the users to states in
-- which each buffer has one owner.
abbrev pub AreAlwaysOwnedOnce : Program → Captures → List Entry → Type 0
AreAlwaysOwnedOnce program captures history =
    (count : ℕ)
    → (nows : Cast)
    × (IsUnderWay program captures (take count history) nows
    × AreOwnedOnce program.pool (standing_of program.pool (take count history)) nows.users)

abbrev pub BuffersAlwaysHaveOneOwner : Type 0
BuffersAlwaysHaveOneOwner =
    (program : Program) (captures : Captures) (history : List Entry) (nows : Cast)
    → IsUnderWay program captures history nows → AreAlwaysOwnedOnce program captures history

-- each buffer in this list has this owner, and no other
abbrev pub AreOwnedBy : Standing → List Machine → Owner → List ℕ → Type 0
AreOwnedBy s users owner buffers = (b : ℕ) → contains b buffers ≡ true → owners_of s users b ≡ owner ∷ []

-- Which owner a buffer has, by where it lies: a free one is the pool's; of a receive ring the idle ones and
-- those of a lot that is done are the kernel side's, and those of any other lot the lease's; a transmit ring's
-- places are its user's up to the pushed ones, which are the kernel side's; what was received is in slots of
-- the user, and a port's extra buffers are in its list.
pub record AreOwnedByName (s : Standing) (users : List Machine) : Type 0 where
  pub free : AreOwnedBy s users Pool s.holdings.free
  pub idle : (at : ℕ) (port : Port) (held : PortBuffers) → slice_get s.world.ports at ≡ Some port → slice_get s.holdings.ports at ≡ Some held
      → AreOwnedBy s users KernelSlot held.idle
  pub leased : (at : ℕ) (port : Port) (held : PortBuffers) → slice_get s.world.ports at ≡ Some port → slice_get s.holdings.ports at ≡ Some held
      → (n : ℕ) (lot : Lot) (buffers : List ℕ) → slice_get port.line n ≡ Some lot → slice_get held.lots n ≡ Some buffers
      → lot.is_done ≡ false → AreOwnedBy s users Lease buffers
  pub published : (at : ℕ) (port : Port) (held : PortBuffers) → slice_get s.world.ports at ≡ Some port → slice_get s.holdings.ports at ≡ Some held
      → (n : ℕ) (lot : Lot) (buffers : List ℕ) → slice_get port.line n ≡ Some lot → slice_get held.lots n ≡ Some buffers
      → lot.is_done ≡ true → AreOwnedBy s users KernelSlot buffers
  pub writable : (at : ℕ) (user : Machine) → slice_get users at ≡ Some user → (n : ℕ) (p : OwnPort) → slice_get user.own.ports n ≡ Some p
      → (r : OwnRing) → p.tx ≡ Some r → AreOwnedBy s users UserSlot (user_places r)
  pub pushed : (at : ℕ) (user : Machine) → slice_get users at ≡ Some user → (n : ℕ) (p : OwnPort) → slice_get user.own.ports n ≡ Some p
      → (r : OwnRing) → p.tx ≡ Some r → AreOwnedBy s users KernelSlot (kernel_places r)
  pub received : (at : ℕ) (user : Machine) → slice_get users at ≡ Some user → (n : ℕ) (p : OwnPort) → slice_get user.own.ports n ≡ Some p
      → AreOwnedBy s users UserSlot p.rx.held
  pub extra : (at : ℕ) (user : Machine) → slice_get users at ≡ Some user → (n : ℕ) (p : OwnPort) → slice_get user.own.ports n ≡ Some p
      → AreOwnedBy s users ExtraList p.extra

-- so it is wherever the users of a history are on their way
abbrev pub BuffersAreOwnedByName : Type 0
BuffersAreOwnedByName =
    (program : Program) (captures : Captures) (history : List Entry) (nows : Cast)
    → IsUnderWay program captures history nows
    → AreOwnedByName (standing_of program.pool history) nows.users

-- once a script is played to its end the pool owns all its buffers
abbrev pub BuffersComeBack : Type 0
BuffersComeBack =
    (program : Program) (captures : Captures) (history : List Entry) (cast : Cast) (b : ℕ)
    → HasPlayed program captures history cast
    → owners_of (standing_of program.pool history) cast.users b
    ≡ (if is_buffer_index program.pool b then Pool ∷ [] else [])
