-- The transcript that a run writes.
use Rattle.std.specs.Prelude.{ℕ, List}
use Rattle.nm_io.specs.Counts.{Rose}
use Rattle.vale_text.specs.declared.transcript.PutError.{PutError}
use Rattle.vale_text.specs.declared.transcript.PutError.TheVariants.{Failed, NoMemory}

-- why a transcript was not written whole: the sink's count of faults rose, or memory ran out
abbrev pub BlamesSink : ℕ → ℕ → PutError → Type 0
BlamesSink before now Failed = Rose before now
BlamesSink before now NoMemory = Unit {0}

-- whole lines in memory
pub record LineBytes : Type 0 where
  pub bytes : List ℕ
  pub faults : ℕ
