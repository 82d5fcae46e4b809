-- What a book stands for: the entries that were made over a pool of buffers, within limits.
use Rattle.std.specs.Prelude.{ℕ, ◌≡◌, ◌+◌, ◌<◌, ◌≤◌, List, [], ◌∷◌, ◌++◌, Option, Some, None, option_map}
use Rattle.nm_types.specs.declared.limits.Limits.{Limits}
use Rattle.nm_types.specs.declared.fault.Part.TheVariants.{Entries, Bytes}
use Rattle.nm_types.specs.declared.fault.StepFault.{StepFault}
use Rattle.nm_types.specs.declared.fault.StepFault.TheVariants.{RecordFull, NoMemory}
use Rattle.vale_entry.specs.declared.entry.Ask.{Ask}
use Rattle.vale_entry.specs.declared.entry.Entry.{Entry}
use Rattle.vale_entry.specs.declared.entry.Reply.{Reply}
pub use Rattle.vale_entry.specs.Legal.{entry_of}
use Rattle.vale_entry.specs.Legal.{Standing, Outcome, step, recorded_step, standing_of}
use Rattle.vale_entry.specs.Room.{room_used, bytes_of, frame_bytes}

-- the pool's size, the number of the region whose buffers it has, the limits, and the entries
pub record Recorded : Type 0 where
  pub pool : ℕ
  pub region : ℕ
  pub limits : Limits
  pub entries : List Entry

abbrev pub standing : Recorded → Standing
standing b = standing_of b.pool b.entries

-- the record with the entry of a step more
abbrev pub with_step : Recorded → Ask → Outcome → Recorded
with_step b ask made = record b { entries = b.entries ++ entry_of ask made ∷ [] }

abbrev pub after_outcome : Recorded → Ask → Option Outcome → Recorded
after_outcome b ask None = b
after_outcome b ask (Some made) = with_step b ask made

-- the record after an ask: with its entry where it makes one
abbrev pub after_ask : Recorded → Ask → Recorded
after_ask b ask = after_outcome b ask (step (standing b) ask)

abbrev pub IsFullFor : Recorded → Ask → Outcome → StepFault → Type 0
IsFullFor b ask made (RecordFull Entries used want) =
    (used ≡ room_used b.pool b.entries) × (want ≡ made.want) × (b.limits.entries < used + want)
IsFullFor b ask made (RecordFull Bytes used want) =
    (room_used b.pool b.entries + made.want ≤ b.limits.entries)
    × (used ≡ frame_bytes b.entries) × (want ≡ bytes_of ask made.reply) × (b.limits.bytes < used + want)
IsFullFor b ask made NoMemory = Unit {0}

-- the refusal says what of the record is full for the step of this ask
abbrev pub refused_by : Recorded → Ask → StepFault → Option Outcome → Type 0
refused_by b ask fault None = ⊥
refused_by b ask fault (Some made) = IsFullFor b ask made fault

abbrev pub IsRefusal : Recorded → Ask → StepFault → Type 0
IsRefusal b ask fault = refused_by b ask fault (step (standing b) ask)

-- the record has room for the step
abbrev pub HasRoomFor : Recorded → Ask → Outcome → Type 0
HasRoomFor b ask made = (room_used b.pool b.entries + made.want ≤ b.limits.entries)
    × (frame_bytes b.entries + bytes_of ask made.reply ≤ b.limits.bytes)

abbrev pub room_by : Recorded → Ask → Option Outcome → Type 0
room_by b ask None = Unit {0}
room_by b ask (Some made) = HasRoomFor b ask made

abbrev pub HasRoom : Recorded → Ask → Type 0
HasRoom b ask = room_by b ask (step (standing b) ask)

-- the step of the ask has this reply, and the record, which had room for it, has its entry
pub record IsRecordedAs (old new : Recorded) (ask : Ask) (reply : Reply) : Type 0 where
  pub reply_is : option_map (λ (made : Outcome). made.reply) (step (standing old) ask) ≡ Some reply
  pub entry : new ≡ after_ask old ask
  pub room : HasRoom old ask

-- what each entry records had room in the record of those before it
abbrev pub HadRoomFrom : Recorded → List Entry → Type 0
HadRoomFrom b [] = Unit {0}
HadRoomFrom b (entry ∷ entries) = room_by b entry.ask (recorded_step (standing b) entry.ask entry.reply) × HadRoomFrom (record b { entries = b.entries ++ entry ∷ [] }) entries

abbrev pub HadRoom : Recorded → Type 0
HadRoom b = HadRoomFrom (record b { entries = [] }) b.entries

-- what is stored and promised is within the limits
abbrev pub IsWithinLimits : Recorded → Type 0
IsWithinLimits b = (room_used b.pool b.entries ≤ b.limits.entries) × (frame_bytes b.entries ≤ b.limits.bytes)
