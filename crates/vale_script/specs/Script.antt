-- A script: the size of its pool, its users, the files that it plays, and its units.
use Rattle.std.specs.Prelude.{ℕ, List}
use Rattle.vale_script.specs.declared.script.Unit.{Unit}

pub record Program : Type 0 where
  pub pool : ℕ
  pub users : List (List ℕ)
  pub files : List (List ℕ)
  pub units : List Unit
