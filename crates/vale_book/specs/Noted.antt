-- An entry that changes nothing else is recorded, where there is room.
use Rattle.std.specs.Prelude.{◌≡◌, [], ◌∷◌, ◌++◌, Result, OnOk, OnErr, IfErr}
use Rattle.nm_types.specs.declared.fault.StepFault.{StepFault}
use Rattle.vale_entry.specs.declared.entry.Entry.{Entry}
use Rattle.vale_entry.specs.Stored.{Stored, Fits, IsFull}

pub record IsNoted {T : Type 0} (old new : Stored) (entry : Entry) (result : Result T StepFault) : Type 0 where
  pub entries : OnOk result (new.entries ≡ old.entries ++ entry ∷ [])
  pub promised : new.promised ≡ old.promised
  pub limits : new.limits ≡ old.limits
  pub fits : OnOk result (Fits old 1 0)
  pub full : IfErr result (IsFull old 1 0)
  pub err : OnErr result (new.entries ≡ old.entries)
