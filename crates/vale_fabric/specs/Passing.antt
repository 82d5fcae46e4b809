-- What is passed at a gate while offers are settled.
use Rattle.std.specs.Prelude.{ℕ, Bool, true, false, ◌≡◌, if◌then◌else◌, List, [], ◌∷◌, ◌++◌, flat_map, Option, Some, None}
use Rattle.nm_io.specs.declared.gate.Stage.{Stage}
use Rattle.nm_io.specs.declared.gate.Stage.TheVariants.{Granted, Filled, Done}
use Rattle.vale_entry.specs.declared.entry.Ask.{Ask}
use Rattle.vale_entry.specs.declared.entry.Ask.TheVariants as asks
use Rattle.vale_entry.specs.declared.entry.Entry.{Entry}
use Rattle.vale_fabric.specs.Fabrics.{Knowing}

-- which users have passed which stages of a gate, in their order; nothing of one that does not tell
abbrev pub Passed : Type 0
Passed = Option (List (ℕ × Stage))

abbrev pub passed_with : List (ℕ × Stage) → Passed → Passed
passed_with more None = None
passed_with more (Some before) = Some (before ++ more)

-- a user passes the stages of a lease
abbrev pub lease_stages : ℕ → List (ℕ × Stage)
lease_stages user = (user, Granted) ∷ (user, Filled) ∷ (user, Done) ∷ []

abbrev pub completes : Ask → Bool
completes (asks.Done lease) = true
completes _ = false

-- by the time that an entry is made it has passed those of the lease that the entry completes
abbrev pub stages_at : ℕ → ℕ × Entry → List (ℕ × Stage)
stages_at user made = if completes made.1.ask then lease_stages user else []

-- A pass made these entries, and the user passed at the gate the stages of the leases that they completed,
-- and nothing else.
pub record HasPassed (user : ℕ) (v w : Knowing) (before after : Passed) : Type 0 where
  pub added : List (ℕ × Entry)
  pub mine : w.mine ≡ v.mine ++ added
  pub passed : after ≡ passed_with (flat_map (stages_at user) added) before
