-- What an opening is answered, and what stands in the record after it.
use Rattle.std.specs.Prelude.{◌≡◌}
use Rattle.nm_types.specs.declared.fault.OpenFault.{OpenFault}
use Rattle.vale_entry.specs.declared.entry.Ask.{Ask}
use Rattle.vale_entry.specs.declared.entry.Reply.TheVariants.{Refused}
pub use Rattle.vale_steps.specs.OpenFaults.{ByFault}
use Rattle.vale_own.specs.Recorded.{Recorded, IsRefusal, IsRecordedAs}

-- a refusal by the name, the sizes or the free buffers is an entry; want of room or memory is none
abbrev pub IsUnopened : Recorded → Recorded → Ask → OpenFault → Type 0
IsUnopened old new ask fault = ByFault (λ told. IsRecordedAs old new ask (Refused told)) (λ full. (new ≡ old) × IsRefusal old ask full) fault
