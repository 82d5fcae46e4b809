-- What a call does to a sink: the bytes that it puts by way of a strip, and the count of failures.
use Rattle.std.specs.Prelude.{ℕ, ◌≤◌, List, Result, OnErr}
use Rattle.nm_io.specs.Counts.{Rose}
use Rattle.nm_io.specs.Gathered.{Gathers}
use Rattle.nm_io.specs.declared.sink.Sink as sinks
use Rattle.vale_entry.specs.Transcript.{words_text}

-- all of these bytes, or by the call's failure a prefix
abbrev pub Puts : {K T E : Type 0} (k : sinks.Ghosts K) (out new_out : K) (strip new_strip : List ℕ) → Result T E → List ℕ → Type 0
Puts k out new_out strip new_strip result bytes = Gathers (k.holds out) (k.holds new_out) strip new_strip result bytes

-- these words, each behind a blank
abbrev pub PutsWords : {K T E : Type 0} (k : sinks.Ghosts K) (out new_out : K) (strip new_strip : List ℕ) → Result T E → List (List ℕ) → Type 0
PutsWords k out new_out strip new_strip result words = Puts k out new_out strip new_strip result (words_text words)

-- the count did not fall, and it rose if the call failed
pub record CountsFailures {K T E : Type 0} (k : sinks.Ghosts K) (out new_out : K) (result : Result T E) : Type 0 where
  pub later : k.faults out ≤ k.faults new_out
  pub cause : OnErr result (Rose (k.faults out) (k.faults new_out))
