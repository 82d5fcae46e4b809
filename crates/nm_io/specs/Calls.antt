use Rattle.std.specs.Prelude.{◌≡◌, ◌-◌, ◌^◌, ◌≤◌, ◌⊎◌, ℕ, List, Contains}
use Rattle.nm_io.specs.Counts.{raised}

-- the calls that an in-memory shelf or sink had: the numbers of those that are to fail, from 1 on, how
-- many bytes a call takes or gives at most, how many calls there were, how many failed, and how often
-- memory ran out
pub record CallState : Type 0 where
  pub fail : List ℕ
  pub piece : ℕ
  pub made : ℕ
  pub faults : ℕ
  pub wants : ℕ

-- before the first call, of which each takes or gives at most so many bytes
abbrev pub no_calls_in_pieces : List ℕ → ℕ → CallState
no_calls_in_pieces fail piece = record { fail = fail; piece = piece; made = 0; faults = 0; wants = 0 }

-- before the first call, of which each takes or gives any number of bytes
abbrev pub no_calls : List ℕ → CallState
no_calls fail = no_calls_in_pieces fail (2 ^ 64 - 1)

-- the next call is to fail
abbrev pub IsListed : CallState → Type 0
IsListed c = Contains c.fail (raised c.made)

-- a call was answered
abbrev pub after_call : CallState → CallState
after_call c = record c { made = raised c.made }

-- a call failed, but not because memory ran out
abbrev pub after_fault : CallState → CallState
after_fault c = record c { made = raised c.made; faults = raised c.faults }

-- a call failed and was counted, and the count of those that failed did not fall
pub record HasFailed (after old new : CallState) : Type 0 where
  pub counted : new ≡ after
  pub later : old.faults ≤ new.faults

-- memory ran out
abbrev pub after_want : CallState → CallState
after_want c = record c { wants = raised c.wants }

-- a call failed because memory ran out
abbrev pub after_refused : CallState → CallState
after_refused c = after_fault (after_want c)

-- a call was answered, which it is only if it is not to fail
abbrev pub WasAnswered : CallState → CallState → Type 0
WasAnswered old new = ¬ IsListed old × (new ≡ after_call old)

-- a call failed, as it was to fail or as memory ran out
abbrev pub WasRefused : CallState → CallState → Type 0
WasRefused old new = (IsListed old × (new ≡ after_fault old)) ⊎ (new ≡ after_refused old)
