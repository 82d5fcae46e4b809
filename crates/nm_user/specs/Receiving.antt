-- The parts of frames of a port that is read, published one after another.
use Rattle.std.specs.Prelude.{ℕ, true, ◌≡◌, List, [], ◌∷◌, map}
use Rattle.nm_types.specs.OwnPorts.{OwnState, Arrival}
use Rattle.nm_own.specs.Opening.{IsNew}
use Rattle.nm_port.specs.Receives.{can_receive, own_with_arrival}
use Rattle.vale_line.specs.declared.got.Got.{Got}
use Rattle.vale_line.specs.Gots.{part_in}

-- a part of a frame in a buffer, as it comes to a session
abbrev pub arrival_in : Got → Arrival
arrival_in got = record { buffer = got.buf.index; bytes = part_in got; rest = got.rest }

abbrev pub arrivals_in : List Got → List Arrival
arrivals_in gots = map arrival_in gots

-- each of these parts finds a free slot, and is in a buffer that is new, once those before it came
abbrev pub CanCome : ℕ → OwnState → List Arrival → Type 0
CanCome id s [] = Unit {0}
CanCome id s (a ∷ came) = ((can_receive id s ≡ true) × IsNew s a.buffer) × CanCome id (own_with_arrival id s a) came
