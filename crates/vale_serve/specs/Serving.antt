-- What an ask is answered by a drive.
use Rattle.std.specs.Prelude.{◌≡◌, Option, Result, Ok, Err}
use Rattle.nm_types.specs.declared.fault.StepFault.{StepFault}
use Rattle.vale_entry.specs.declared.entry.Ask.{Ask}
use Rattle.vale_entry.specs.declared.entry.Reply.{Reply}
use Rattle.vale_entry.specs.Legal.{reply_to}
use Rattle.vale_book.specs.Recorded.{Recorded, standing, after_ask, IsRefusal, HasRoom}

-- the definitions' reply, none where it is not enabled, and its entry, for which there was room; or
-- what is full, and no entry
abbrev pub IsServed : Recorded → Recorded → Ask → Result (Option Reply) StepFault → Type 0
IsServed old new ask (Ok reply) = (reply ≡ reply_to (standing old) ask) × (new ≡ after_ask old ask) × HasRoom old ask
IsServed old new ask (Err fault) = IsRefusal old ask fault × (new ≡ old)
