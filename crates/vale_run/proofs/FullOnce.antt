-- For a script without blocks one history alone comes to a call for which a record has no room.
use Rattle.std.proofs.Common.{ℕ, ◌+◌, ◌≡◌, ◌⊎◌, inl, inr, List, [], ◌∷◌, ◌++◌, append-nil, append_assoc, Option, Some, None, option_map, refl, sym, ◌∙◌, ap, subst, arith}
use Rattle.std.proofs.lemmas.Option.{same_Some}
use Rattle.vale_cost.proofs.RoomHistories.{bytes-kept}
use Rattle.nm_types.specs.declared.fault.Part.{Part}
use Rattle.nm_types.specs.declared.fault.Part.TheVariants.{Entries, Bytes}
use Rattle.nm_types.specs.declared.fault.StepFault.TheVariants.{RecordFull}
use Rattle.nm_types.specs.declared.limits.Limits.{Limits}
use Rattle.vale_entry.specs.declared.entry.Ask.{Ask}
use Rattle.vale_entry.specs.declared.entry.Entry.{Entry}
use Rattle.vale_entry.specs.Legal.{Outcome, entry_of, step, recorded_step, standing_of, kept_ask}
use Rattle.vale_own.specs.Recorded.{Recorded, standing, HasRoom, HadRoom, HadRoomFrom, IsFullFor, IsRefusal, refused_by, room_by, HasRoomFor}
use Rattle.vale_own.proofs.Rooms.{step-recorded}
use Rattle.vale_script.specs.Script.{Program}
use Rattle.vale_replay.specs.Tasks.{Captures}
use Rattle.vale_replay.specs.Laws.{HasNoBlock, BeginsWith}
use Rattle.vale_replay.specs.Replay.{Replays, ComesTo, entry_made}
use Rattle.vale_replay.proofs.OneHistory.{under-way, under-way-one}

abbrev pub record_of : ℕ → Limits → ℕ → List Entry → Recorded
record_of pool limits region entries = record { pool = pool; region = region; limits = limits; entries = entries }

-- each entry that a record has had room in the record of those before it
had-at : (pool : ℕ) (limits : Limits) (region : ℕ) (before part : List Entry) (entry : Entry) (rest : List Entry)
    → HadRoomFrom (record_of pool limits region before) (part ++ entry ∷ rest)
    → room_by (record_of pool limits region (before ++ part)) entry.ask (recorded_step (standing_of pool (before ++ part)) entry.ask entry.reply)
had-at pool limits region before [] entry rest had =
    subst (λ (es : List Entry). room_by (record_of pool limits region es) entry.ask (recorded_step (standing_of pool es) entry.ask entry.reply)) (sym (append-nil before)) had.0
had-at pool limits region before (first ∷ part) entry rest had =
    subst (λ (es : List Entry). room_by (record_of pool limits region es) entry.ask (recorded_step (standing_of pool es) entry.ask entry.reply)) (append_assoc before (first ∷ []) part)
    (had-at pool limits region (before ++ first ∷ []) part entry rest had.1)

-- a call that makes an entry for which there was room is refused by no such record
full-clash : (pool : ℕ) (limits : Limits) (region other : ℕ) (entries : List Entry) (call : Ask) (made : Outcome) (part : Part) (used want : ℕ)
    → HasRoomFor (record_of pool limits region entries) (kept_ask call) made → IsFullFor (record_of pool limits other entries) call made (RecordFull part used want) → ⊥
full-clash pool limits region other entries call made Entries used want room full = absurd (omega (arith, full.0, full.1, full.2, room.0))
full-clash pool limits region other entries call made Bytes used want room full =
    let same = bytes-kept call made.reply in
    absurd (omega (arith, full.1, full.2, full.3, room.1, same))

goes-clash : (pool : ℕ) (limits : Limits) (region other : ℕ) (whole part : List Entry) (call : Ask) (what : Part) (used want : ℕ)
    → HadRoom (record_of pool limits region whole) → BeginsWith pool whole part call → IsRefusal (record_of pool limits other part) call (RecordFull what used want) → ⊥
goes-clash pool limits region other whole part call what used want had begins refused = by (step (standing_of pool part) call) refl refused begins.made
  where
    begun : HadRoomFrom (record_of pool limits region []) (part ++ begins.entry ∷ begins.rest)
    begun = subst (HadRoomFrom (record_of pool limits region [])) begins.joined had

    by : (o : Option Outcome) → step (standing_of pool part) call ≡ o → refused_by (record_of pool limits other part) call (RecordFull what used want) o
        → option_map (entry_of call) o ≡ Some begins.entry → ⊥
    by None is refused e = refused
    by (Some made) is refused e =
        let same : entry_of call made ≡ begins.entry = same_Some (entry_of call made) begins.entry e in
        let room = had-at pool limits region [] part begins.entry begins.rest begun in
        let here : room_by (record_of pool limits region part) (kept_ask call) (recorded_step (standing_of pool part) (kept_ask call) made.reply) =
        subst (λ (x : Entry). room_by (record_of pool limits region part) x.ask (recorded_step (standing_of pool part) x.ask x.reply)) (sym same) room in
        full-clash pool limits region other part call made what used want
        (subst (room_by (record_of pool limits region part) (kept_ask call)) (step-recorded (standing_of pool part) call made is) here) refused

-- two refusals of one call are one
pub record SameRefusal (part other : Part) (count others : ℕ) : Type 0 where
  pub part_is : part ≡ other
  pub count_is : count ≡ others

same-full : (pool : ℕ) (limits : Limits) (region other : ℕ) (entries : List Entry) (call : Ask) (made : Outcome) (part parts : Part) (used want useds wants : ℕ)
    → IsFullFor (record_of pool limits region entries) call made (RecordFull part used want) → IsFullFor (record_of pool limits other entries) call made (RecordFull parts useds wants)
    → SameRefusal part parts (used + want) (useds + wants)
same-full pool limits region other entries call made Entries Entries used want useds wants one two = record { part_is = refl; count_is = omega (arith, one.0, one.1, two.0, two.1) }
same-full pool limits region other entries call made Bytes Bytes used want useds wants one two = record { part_is = refl; count_is = omega (arith, one.1, one.2, two.1, two.2) }
same-full pool limits region other entries call made Entries Bytes used want useds wants one two = absurd (omega (arith, one.0, one.1, one.2, two.0))
same-full pool limits region other entries call made Bytes Entries used want useds wants one two = absurd (omega (arith, two.0, two.1, two.2, one.0))

same-refused : (pool : ℕ) (limits : Limits) (region other : ℕ) (entries : List Entry) (call : Ask) (part parts : Part) (used want useds wants : ℕ)
    → IsRefusal (record_of pool limits region entries) call (RecordFull part used want) → IsRefusal (record_of pool limits other entries) call (RecordFull parts useds wants)
    → SameRefusal part parts (used + want) (useds + wants)
same-refused pool limits region other entries call part parts used want useds wants one two = by (step (standing_of pool entries) call) one two
  where
    by : (o : Option Outcome) → refused_by (record_of pool limits region entries) call (RecordFull part used want) o → refused_by (record_of pool limits other entries) call (RecordFull parts useds wants) o
        → SameRefusal part parts (used + want) (useds + wants)
    by None one two = absurd one
    by (Some made) one two = same-full pool limits region other entries call made part parts used want useds wants one two

-- A call that a history under way comes to, for which there is no room in the record that had room so far.
pub record IsFullFrom (program : Program) (captures : Captures) (limits : Limits) (region : ℕ) (entries : List Entry) (user : ℕ) (call : Ask) (part : Part) (used want : ℕ) : Type 0 where
  pub comes : ComesTo program captures entries user call
  pub roomy : HadRoom (record_of program.pool limits region entries)
  pub refused : IsRefusal (record_of program.pool limits region entries) call (RecordFull part used want)

module _ (program : Program) (captures : Captures) (none : HasNoBlock program) (limits : Limits) where
  pub not-played : (region other : ℕ) (history entries : List Entry) (user : ℕ) (call : Ask) (part : Part) (used want : ℕ)
      → Replays program captures history → HadRoom (record_of program.pool limits other history)
      → IsFullFrom program captures limits region entries user call part used want → ⊥
  not-played region other history entries user call part used want plays had full =
      goes-clash program.pool limits other region history entries call part used want had (under-way program captures history entries user call none plays full.comes) full.refused

  pub full-once : (region other : ℕ) (entries others : List Entry) (user next_user : ℕ) (call next : Ask) (part parts : Part) (used want useds wants : ℕ)
      → IsFullFrom program captures limits region entries user call part used want → IsFullFrom program captures limits other others next_user next parts useds wants
      → SameRefusal part parts (used + want) (useds + wants)
  full-once region other entries others user next_user call next part parts used want useds wants one two =
      by (under-way-one program captures entries others user call next_user next none one.comes two.comes)
    where
      by : ((entries ≡ others) × (call ≡ next)) ⊎ (BeginsWith program.pool entries others next ⊎ BeginsWith program.pool others entries call)
          → SameRefusal part parts (used + want) (useds + wants)
      by (inl same) =
          same-refused program.pool limits region other entries call part parts used want useds wants one.refused
          (subst (λ (a : Ask). IsRefusal (record_of program.pool limits other entries) a (RecordFull parts useds wants)) (sym same.1)
          (subst (λ (es : List Entry). IsRefusal (record_of program.pool limits other es) next (RecordFull parts useds wants)) (sym same.0) two.refused))
      by (inr (inl later)) = absurd (goes-clash program.pool limits region other entries others next parts useds wants one.roomy later two.refused)
      by (inr (inr later)) = absurd (goes-clash program.pool limits other region others entries call part used want two.roomy later one.refused)
