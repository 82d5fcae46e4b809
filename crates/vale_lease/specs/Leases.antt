-- The leases of a receive ring, oldest first. A lease stands for so many slots, and is done once they
-- are filled. The reader gets the slots of the longest prefix of done leases, so no lease overtakes an
-- earlier one.
use Rattle.std.specs.Prelude.{ℕ, Bool, false, not, ◌&&◌, ◌||◌, ◌==◌, ◌≡◌, ◌-◌, ◌^◌, ◌<◌, ◌≤◌, if◌then◌else◌, List, [], ◌∷◌, drop, Option, Some, None, count_by, sum_by}
use Rattle.std.specs.List.{list_any, prefix_len}
use Rattle.vale_lease.specs.declared.leases.LeaseSlots.{LeaseSlots}

-- the leases of a ring of so many slots
pub record LeaseRing : Type 0 where
  pub size : ℕ
  pub leases : List LeaseSlots

abbrev pub has_id : ℕ → LeaseSlots → Bool
has_id id lease = lease.id.0 == id

abbrev pub is_done : LeaseSlots → Bool
is_done lease = lease.is_done

abbrev pub is_out : LeaseSlots → Bool
is_out lease = not lease.is_done

abbrev pub is_out_as : ℕ → LeaseSlots → Bool
is_out_as id lease = has_id id lease && is_out lease

-- a lease of this id is there
abbrev pub is_there : ℕ → List LeaseSlots → Bool
is_there id leases = list_any (has_id id) leases

-- a lease of this id is there and not done
abbrev pub is_lease_out : ℕ → List LeaseSlots → Bool
is_lease_out id leases = list_any (is_out_as id) leases

abbrev pub slots_of : List LeaseSlots → ℕ
slots_of leases = sum_by (λ (l : LeaseSlots). l.slots) leases

-- what stands behind the longest prefix of done leases
abbrev pub behind_done : List LeaseSlots → List LeaseSlots
behind_done leases = drop (prefix_len is_done leases) leases

-- how many leases are not done
abbrev pub out_count : List LeaseSlots → ℕ
out_count leases = count_by is_out leases

-- the slots of the first lease, if that is done
abbrev pub first_done : List LeaseSlots → Option ℕ
first_done [] = None
first_done (lease ∷ leases) = if lease.is_done then Some lease.slots else None

-- the lease, done if it has this id
abbrev pub completed : ℕ → LeaseSlots → LeaseSlots
completed id lease = record lease { is_done = has_id id lease || lease.is_done }

-- no lease is empty, and no two have one id
abbrev pub AreLeases : List LeaseSlots → Type 0
AreLeases [] = Unit {0}
AreLeases (lease ∷ leases) = (1 ≤ lease.slots) × ((is_there lease.id.0 leases ≡ false) × AreLeases leases)

-- leases of a ring that keeps one slot back
pub record IsLeaseRing (ring : LeaseRing) : Type 0 where
  pub some : 1 ≤ ring.size
  pub few : ring.size < 2 ^ 32
  pub are_leases : AreLeases ring.leases
  pub within : slots_of ring.leases ≤ ring.size - 1
