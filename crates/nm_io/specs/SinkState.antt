use Rattle.std.specs.Prelude.{ℕ, List}
use Rattle.nm_io.specs.Calls.{CallState}

-- a sink in memory: what it holds, and the calls that it had
pub record SinkState : Type 0 where
  pub bytes : List ℕ
  pub calls : CallState
