-- Leases, as the entries tell them: a Grant that gives something grants a lease under the number of
-- its entry, and a Done of that number ends it.
use Rattle.std.specs.Prelude.{ℕ, ◌==◌, ◌+◌, if◌then◌else◌, List, [], ◌∷◌, ◌++◌, count_by, sum_by, flat_map}
use Rattle.vale_entry.specs.declared.entry.Ask.{Ask}
use Rattle.vale_entry.specs.declared.entry.Ask.TheVariants.{Grant, Done}
use Rattle.vale_entry.specs.declared.entry.Reply.{Reply}
use Rattle.vale_entry.specs.declared.entry.Reply.TheVariants.{Shared}
use Rattle.vale_entry.specs.declared.entry.Entry.{Entry}
use Rattle.vale_entry.specs.World.{Port}
use Rattle.vale_entry.specs.Delivery.{is_lease}

-- the lease that an entry of this number grants
abbrev pub lease_of : ℕ → Ask → Reply → List ℕ
lease_of number (Grant origin to) (Shared given full gone) =
    if given == 0 then [] else number ∷ []
lease_of number _ _ = []

-- the leases that entries grant, of which the first has this number
abbrev pub leases_from : ℕ → List Entry → List ℕ
leases_from number [] = []
leases_from number (entry ∷ entries) =
    lease_of number entry.ask entry.reply ++ leases_from (number + 1) entries

abbrev pub leases_granted : List Entry → List ℕ
leases_granted history = leases_from 1 history

-- the lease that an ask ends
abbrev pub lease_ended : Ask → List ℕ
lease_ended (Done lease) = lease.0 ∷ []
lease_ended _ = []

abbrev pub ended_in : Entry → List ℕ
ended_in entry = lease_ended entry.ask

abbrev pub leases_ended : List Entry → List ℕ
leases_ended history = flat_map ended_in history

-- how often a number stands in a list
abbrev pub times : ℕ → List ℕ → ℕ
times number numbers = count_by (λ n. n == number) numbers

-- how many lots of this number are not done
abbrev pub leases_at : ℕ → Port → ℕ
leases_at number port = count_by (is_lease number) port.line

abbrev pub leases_standing : List Port → ℕ → ℕ
leases_standing ports number = sum_by (leases_at number) ports
