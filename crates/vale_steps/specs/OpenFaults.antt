-- Which faults of an opening are recorded.
use Rattle.nm_types.specs.declared.fault.StepFault.TheVariants as steps
use Rattle.nm_types.specs.declared.fault.StepFault.{StepFault}
use Rattle.nm_types.specs.declared.fault.OpenFault.{OpenFault}
use Rattle.nm_types.specs.declared.fault.OpenFault.TheVariants.{BadSize, SwitchesFull, PortsFull, NameTaken, NoBuffers, RecordFull, NoMemory}

-- an opening is refused by the name, the sizes or the free buffers, or for want of room or memory
abbrev pub ByFault : (OpenFault → Type 0) → (StepFault → Type 0) → OpenFault → Type 0
ByFault recorded full BadSize = recorded BadSize
ByFault recorded full SwitchesFull = recorded SwitchesFull
ByFault recorded full PortsFull = recorded PortsFull
ByFault recorded full NameTaken = recorded NameTaken
ByFault recorded full (NoBuffers want have) = recorded (NoBuffers want have)
ByFault recorded full (RecordFull what used want) = full (steps.RecordFull what used want)
ByFault recorded full NoMemory = full steps.NoMemory

-- it is recorded
abbrev pub IsRecordedFault : OpenFault → Type 0
IsRecordedFault fault = ByFault (λ told. Unit {0}) (λ full. ⊥) fault
