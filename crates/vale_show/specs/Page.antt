-- A text in memory, and how often there was none for it.
use Rattle.std.specs.Prelude.{ℕ, List, codes, decimal, Option, Some, None}

pub record PageState : Type 0 where
  pub bytes : List ℕ
  pub faults : ℕ

abbrev pub or_dash : Option ℕ → List ℕ
or_dash None = codes "-"
or_dash (Some number) = decimal number
