-- The counts of the ports, by rising port.
use Rattle.std.specs.Prelude.{ℕ, Bool, not, true, ◌==◌, ◌≡◌, ◌≤◌, if◌then◌else◌, nat_lt, List, [], ◌∷◌, length, map, filter, find, Option, option_map, insert}
use Rattle.std.specs.List.{list_all, prefix_len}
use Rattle.nm_types.specs.Counters.{zero_counts, sum_of_counts}
use Rattle.nm_types.specs.Limits.{most_ports}
use Rattle.nm_types.specs.declared.id.Counts.{Counts}
use Rattle.nm_types.specs.declared.id.PortId.{PortId}
use Rattle.nm_count.specs.declared.tally.Tallied.{Tallied}

abbrev pub is_port : ℕ → Tallied → Bool
is_port port tallied = tallied.port.0 == port

-- the port's counts, if it has any
abbrev pub counts_of : List Tallied → ℕ → Option Counts
counts_of tally port = option_map (λ (t : Tallied). t.counts) (find (is_port port) tally)

abbrev pub is_before : ℕ → Tallied → Bool
is_before port tallied = nat_lt tallied.port.0 port

-- how many ports are lower than this one
abbrev pub rank_of : ℕ → List Tallied → ℕ
rank_of port tally = prefix_len (is_before port) tally

abbrev pub zero_tallied : PortId → Tallied
zero_tallied port = record { port = port; counts = zero_counts }

-- the tally with a new port at its place
abbrev pub tally_with : PortId → List Tallied → List Tallied
tally_with port tally = insert tally (rank_of port.0 tally) (zero_tallied port)

abbrev pub tallied_after_add : ℕ → Counts → Tallied → Tallied
tallied_after_add port more tallied = if is_port port tallied then record tallied { counts = sum_of_counts tallied.counts more } else tallied

abbrev pub tally_after_add : ℕ → Counts → List Tallied → List Tallied
tally_after_add port more tally = map (tallied_after_add port more) tally

abbrev pub tally_without : ℕ → List Tallied → List Tallied
tally_without port tally = filter (λ t. not (is_port port t)) tally

-- all these ports are higher than this one
abbrev pub are_after : ℕ → List Tallied → Bool
are_after port tally = list_all (λ (t : Tallied). nat_lt port t.port.0) tally

abbrev pub IsRising : List Tallied → Type 0
IsRising [] = Unit {0}
IsRising (t ∷ tally) = (are_after t.port.0 tally ≡ true) × IsRising tally

-- each port is there once, and there are no more ports than there can be at once
pub record IsTally (tally : List Tallied) : Type 0 where
  pub rising : IsRising tally
  pub few : length tally ≤ most_ports
