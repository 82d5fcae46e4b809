-- A port that is closed: the buffers in its places go out in the order of the places, transmit slots,
-- receive slots of the user, extra positions.
use Rattle.std.specs.Prelude.{ℕ, Bool, ◌≡◌, ◌==◌, ◌+◌, ◌-◌, nat_lt, filter, not, if◌then◌else◌, List, [], ◌++◌, map, fold, Some, None}
use Rattle.std.specs.Option.{option_map_or}
use Rattle.std.specs.List.{range_with_len, list_any}
use Rattle.nm_types.specs.declared.place.Place.{Place}
use Rattle.nm_types.specs.declared.place.Place.TheVariants.{Tx, Rx, Extra}
use Rattle.nm_types.specs.Places.{is_same_place}
use Rattle.nm_types.specs.Positions.{RingState, dist, step_on}
use Rattle.nm_types.specs.OwnPorts.{OwnState, port_with_id, buffers_in}
use Rattle.nm_types.specs.OwnSyncs.{without_bytes_of}
use Rattle.nm_region.specs.Buffers.{Buffer, indices_of}
use Rattle.nm_hold.specs.declared.standing.Standing.{Standing}
use Rattle.nm_hold.specs.Holds.{HoldState, buffers_of, buffer_at, index_at, standing_at, IsHold}
use Rattle.nm_port.specs.declared.port.UserPort.{UserPort}
use Rattle.nm_port.specs.Sides.{number_at}
use Rattle.nm_port.specs.Own.{size_if, bytes_in_cell}

-- the port of an id among others, and the others
abbrev pub has_id : ℕ → UserPort → Bool
has_id id p = p.id.0 == id

abbrev pub others : ℕ → List UserPort → List UserPort
others id ports = filter (λ (p : UserPort). not (has_id id p)) ports

-- the buffers in the places of the port of this id
abbrev pub buffers_with_id : OwnState → ℕ → List ℕ
buffers_with_id s id = option_map_or buffers_in (port_with_id s id) []

abbrev pub user_count : RingState → ℕ
user_count ring = dist ring.size ring.accepted_head ring.last_tail

-- how many places of a port hold a buffer, and which one each is
abbrev pub place_count : UserPort → ℕ
place_count p = size_if p.tx + user_count p.rx.ring + p.extra

abbrev pub held_place : UserPort → ℕ → Place
held_place p k =
    if nat_lt k (size_if p.tx) then Tx p.id k
    else if nat_lt (k - size_if p.tx) (user_count p.rx.ring) then Rx p.id (step_on p.rx.ring.size p.rx.ring.accepted_head (k - size_if p.tx))
    else Extra p.id (k - size_if p.tx - user_count p.rx.ring)

-- the bytes of some buffers, in their order
abbrev pub bytes_of_buffers : List Buffer → List (List ℕ)
bytes_of_buffers bufs = map (λ (b : Buffer). b.bytes) bufs

abbrev pub held_places : UserPort → ℕ → List Place
held_places p count = map (held_place p) (range_with_len 0 count)

-- the buffers in some places have been taken out, behind others that were taken out before
pub record AreTaken (h now : HoldState) (places : List Place) (before after : List Buffer) : Type 0 where
  pub index : (q : Place) → index_at now q ≡ (if list_any (λ p. is_same_place p q) places then None else index_at h q)
  pub stood : (idx : ℕ) (s : Standing) → standing_at now idx ≡ Some s → standing_at h idx ≡ Some s
  pub bytes : map bytes_in_cell now.cells ≡ fold without_bytes_of (map bytes_in_cell h.cells) (map (number_at h) places)
  pub out : List Buffer
  pub joined : after ≡ before ++ out
  pub each : map Some out ≡ map (buffer_at h) (map (number_at h) places)
  pub indices : indices_of out ≡ map (number_at h) places
  pub ports : now.ports ≡ h.ports
  pub count : buffers_of now ≡ buffers_of h
  pub is_hold : IsHold now
