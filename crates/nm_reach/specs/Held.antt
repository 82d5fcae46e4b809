-- What a cell owns: what its value does, or nothing.
use Rattle.std.specs.Prelude.{Option, Some, None}
use base.Fml.{Fml, ftrue}

abbrev pub held_in : {X : Type 0} → (X → Fml) → Option X → Fml
held_in owns None = ftrue
held_in owns (Some x) = owns x
