-- Bringing a record to its end: what was promised is made. First all offers are granted, those of the
-- oldest entry first; then all leases end, by rising number; then the sessions go, by rising number, each
-- after its ports, by rising number too.
use Rattle.std.specs.Prelude.{ℕ, ◌≡◌, if◌then◌else◌, List, [], ◌∷◌, ◌++◌, map, filter, find, flat_map, min, take, Option, Some, None, option_map}
use Rattle.std.specs.List.{reduce}
use Rattle.nm_types.specs.declared.id.Chain.{Chain}
use Rattle.vale_entry.specs.declared.entry.Ask.{Ask}
use Rattle.vale_entry.specs.declared.entry.Ask.TheVariants.{Grant, Done, Shut, Finish, Leave}
use Rattle.vale_entry.specs.declared.entry.Entry.{Entry}
use Rattle.vale_entry.specs.World.{World, Port, Lot, Offer, is_undone, due_of}
use Rattle.vale_entry.specs.Closing.{is_port_of}
use Rattle.vale_entry.specs.Delivery.{line_of}
use Rattle.vale_entry.specs.Grant.{first_offer}
use Rattle.vale_entry.specs.Holdings.{all_with_free, buffers_of_session}
use Rattle.vale_entry.specs.Legal.{Standing, Outcome, standing_of, step}
use Rattle.vale_book.specs.Recorded.{Recorded, standing, with_step}

-- a drive has no ring in which a chain of buffers could be found
abbrev pub no_chain : Chain
no_chain = record { found = 0; astray = 0 }

-- the smallest of numbers
abbrev pub least : List ℕ → Option ℕ
least numbers = reduce min numbers

-- these buffers, each at its place among the others
abbrev pub rising : List ℕ → List ℕ
rising buffers = all_with_free buffers []

-- a port is shut, and then it goes with the smallest ones of its session's buffers, as many as are due
abbrev pub bufs_ending : Standing → Port → List ℕ
bufs_ending s port = take (due_of port) (rising (buffers_of_session s.holdings.sessions port.session))

abbrev pub port_ending : Standing → Port → Ask
port_ending s port =
    if port.shutting then Finish (record { 0 = port.id }) (bufs_ending s port) no_chain
    else Shut (record { 0 = port.id })

-- a session leaves once it has no port
abbrev pub session_ending : Standing → ℕ → Option Port → Ask
session_ending s session (Some port) = port_ending s port
session_ending s session None = Leave (record { 0 = session })

abbrev pub sessions_ending : Standing → List ℕ → Option Ask
sessions_ending s [] = None
sessions_ending s (session ∷ sessions) = Some (session_ending s session (find (is_port_of session) s.world.ports))

abbrev pub leases_ending : Standing → Option ℕ → Option Ask
leases_ending s (Some lease) = Some (Done (record { 0 = lease }))
leases_ending s None = sessions_ending s s.world.sessions

abbrev pub grant_of : Offer → Ask
grant_of offer = Grant offer.origin (record { 0 = offer.to })

abbrev pub number_of_lot : Lot → ℕ
number_of_lot lot = lot.number

-- the numbers of the leases that are not done
abbrev pub undone_numbers : World → List ℕ
undone_numbers w = map number_of_lot (filter is_undone (flat_map line_of w.ports))

abbrev pub offers_ending : Standing → Option ℕ → Option Ask
offers_ending s (Some origin) = option_map grant_of (first_offer s.world origin)
offers_ending s None = leases_ending s (least (undone_numbers s.world))

abbrev pub origin_of : Offer → ℕ
origin_of offer = offer.origin

-- the ask that comes next on the way to the end, and none where nothing is left to do
abbrev pub next_ending : Standing → Option Ask
next_ending s = offers_ending s (least (map origin_of s.world.offers))

-- each of these entries, which follow a history, is the one that comes next on the way to the end
abbrev pub GoesToEnd : ℕ → List Entry → List Entry → Type 0
GoesToEnd pool history [] = Unit {0}
GoesToEnd pool history (entry ∷ entries) =
    (next_ending (standing_of pool history) ≡ Some entry.ask) × GoesToEnd pool (history ++ entry ∷ []) entries

-- a record that goes on from an earlier one, on the way to its end
pub record IsContinued (old new : Recorded) : Type 0 where
  pub more : List Entry
  pub is : new ≡ record old { entries = old.entries ++ more }
  pub goes : GoesToEnd old.pool old.entries more

-- the record was brought to its end, where each session has left and nothing is left to do
pub record IsEnded (old new : Recorded) : Type 0 where
  pub on : IsContinued old new
  pub over : next_ending (standing new) ≡ None
  pub left : (standing new).world.sessions ≡ []

-- the entry that comes next was made
pub record IsNextMade (old new : Recorded) : Type 0 where
  pub ask : Ask
  pub comes : next_ending (standing old) ≡ Some ask
  pub made : Outcome
  pub steps : step (standing old) ask ≡ Some made
  pub is : new ≡ with_step old ask made
