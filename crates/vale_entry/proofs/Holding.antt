-- Who holds what, in the form that every entry keeps: each buffer of the pool is held once, and the
-- buffers held agree with the world.
use Rattle.std.proofs.Common.{ℕ, ◌+◌, ◌≤◌, ◌≡◌, Bool, true, false, cond, ◌==◌, List, ◌++◌, map, length, sum_by, flat_map, arith}
use Rattle.std.specs.List.{AllByRecursion as Each}
use Rattle.nm_types.specs.Frames.{size_of_frames}
use Rattle.vale_entry.specs.World.{Port, Lot, buffers_of}
use Rattle.vale_entry.specs.Holdings.{Holdings, PortBuffers, SessionBuffers, PortsAgree, all_buffers, buffers_at_port, buffers_held, is_buffer_index, due_of_session}
use Rattle.vale_entry.specs.Legal.{Standing, Outcome}
use Rattle.vale_entry.specs.Laws.{Rise, id_of_session}
use Rattle.vale_entry.proofs.ListLaws.{sum-flat_map}
use Rattle.vale_entry.proofs.Counting.{count_of, count_of-append}

abbrev pub whole : List ℕ → List ℕ
whole list = list

abbrev pub size_of_lot : Lot → ℕ
size_of_lot lot = size_of_frames lot.frames

-- how often a buffer is held
abbrev pub at_port : ℕ → PortBuffers → ℕ
at_port b held = count_of b (buffers_at_port held)

abbrev pub at_session : ℕ → SessionBuffers → ℕ
at_session b held = count_of b held.buffers

abbrev pub times_held : ℕ → Holdings → ℕ
times_held b x = count_of b x.free + sum_by (at_port b) x.ports + sum_by (at_session b) x.sessions

pub times-held : (b : ℕ) (x : Holdings) → count_of b (all_buffers x) ≡ times_held b x
times-held b x =
    let ports = flat_map buffers_at_port x.ports in
    let sessions = flat_map buffers_held x.sessions in
    let one = count_of-append b (x.free ++ ports) sessions in
    let two = count_of-append b x.free ports in
    let three = sum-flat_map (λ (y : ℕ). cond (y == b) 1 0) buffers_at_port x.ports in
    let four = sum-flat_map (λ (y : ℕ). cond (y == b) 1 0) buffers_held x.sessions in
    omega arith

-- a session holds what it is due
abbrev pub IsPaid : List Port → SessionBuffers → Type 0
IsPaid ports held = length held.buffers ≡ due_of_session ports held.session

pub record AreHeld (pool : ℕ) (sessions : List ℕ) (ports : List Port) (x : Holdings) : Type 0 where
  pub ports_agree : PortsAgree ports x.ports
  pub session_ids : map id_of_session x.sessions ≡ sessions
  pub dues : Each (IsPaid ports) x.sessions
  pub parted : (b : ℕ) → times_held b x ≡ cond (is_buffer_index pool b) 1 0

abbrev pub Held : Standing → Type 0
Held s = AreHeld s.world.pool s.world.sessions s.world.ports s.holdings

abbrev pub HeldNext : Outcome → Type 0
HeldNext made = Held made.next

-- the free buffers rise, so that the first are the smallest, and are what the ports leave of the
-- pool
pub record AreFree (pool : ℕ) (ports : List Port) (free : List ℕ) : Type 0 where
  pub rise : Rise 1 free (pool + 1)
  pub count : length free + sum_by buffers_of ports ≡ pool

abbrev pub HasFree : Standing → Type 0
HasFree s = AreFree s.world.pool s.world.ports s.holdings.free

pub once-by : (n : ℕ) (b : Bool) → n ≡ cond b 1 0 → n ≤ 1
once-by n true e = omega arith
once-by n false e = omega arith
