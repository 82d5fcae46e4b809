-- A run of a script without blocks, for which the record is full, ends by saying so.
use Rattle.std.proofs.Common.{ℕ, ◌+◌, ◌≤◌, ◌≡◌, ◌⊎◌, inl, inr, List, map, take, refl, sym, ◌∙◌, ap, ap₂, subst}
use Rattle.nm_types.specs.declared.fault.Part.{Part}
use Rattle.nm_types.specs.declared.fault.Part.TheVariants as parts
use Rattle.nm_types.specs.declared.fault.StepFault.TheVariants.{RecordFull}
use Rattle.nm_types.specs.declared.limits.Limits.{Limits}
use Rattle.vale_own.specs.Recorded.{HadRoom}
use Rattle.vale_script.specs.Script.{Program}
use Rattle.vale_captures.specs.Inputs.{InputFile, frames_of}
use Rattle.vale_replay.specs.Replay.{Replays}
use Rattle.vale_replay.proofs.Stopping.{users-stop}
use Rattle.vale_book.proofs.FittingRooms.{had-take}
use Rattle.vale_run.specs.Run.{Io, HistoryOf, StopsFull, Ends}
use Rattle.vale_run.specs.FullRecord.{IsFullAt, full_status, ComesBefore, FullIsTold}
use Rattle.vale_run.specs.declared.status.What.TheVariants.{Entries, Bytes}
use Rattle.vale_run.specs.declared.status.Status.{Status}
use Rattle.vale_run.specs.declared.status.Status.TheVariants.{Done, ReadFault, WriteFault, Over, NoMemory}
use Rattle.vale_run.proofs.Completing.{IsLate, end-late, one-ready}
use Rattle.vale_run.proofs.FullOnce.{IsFullFrom, SameRefusal, record_of, not-played, full-once}

module _ (limits : Limits) (io : Io) (name : List ℕ) (part : Part) (count : ℕ) (full : IsFullAt limits io name part count) where
  comes : IsFullFrom full.program (map frames_of full.played) limits full.region full.entries full.user full.call part full.used full.want
  comes = record { comes = full.comes; roomy = full.roomy; refused = full.refused }

  -- no history plays this script within the limits
  not-done : HistoryOf limits io.files name → ⊥
  not-done h =
      let one = one-ready io.files full.told name full.program full.played full.ready h.program h.played h.ready.has_inputs in
      let plays : Replays h.program (map frames_of h.played) h.entries = record { cast = h.cast; played = h.history.plays } in
      let mine = subst (λ (p : Program). Replays p (map frames_of h.played) h.entries) one.0 plays in
      let roomy = subst (λ (p : Program). HadRoom (record_of p.pool limits h.history.region h.entries)) one.0 h.history.roomy in
      not-played full.program (map frames_of full.played) full.no_block limits full.region h.history.region h.entries full.entries full.user full.call part full.used full.want
      (subst (λ (is : List InputFile). Replays full.program (map frames_of is) h.entries) one.1 mine) roomy comes

  -- and no other call is told to be without room
  same-stop : (other : Part) (others : ℕ) → StopsFull limits io.files name other others → (other ≡ part) × (others ≡ count)
  same-stop other others s = (sym same.part_is, s.counted ∙ sym same.count_is ∙ sym full.counted)
    where
      one : (s.program ≡ full.program) × (s.played ≡ full.played)
      one = one-ready io.files full.told name full.program full.played full.ready s.program s.played s.ready.has_inputs

      theirs : IsFullFrom s.program (map frames_of s.played) limits s.region (take s.before s.history) s.user s.call other s.used s.want
      theirs = record {
        comes = (users-stop s.program (map frames_of s.played) s.history s.before s.user s.call s.stopped).comes;
        roomy = had-take (record_of s.program.pool limits s.region s.history) s.before s.roomy;
        refused = s.refused;
      }

      ours : IsFullFrom full.program (map frames_of full.played) limits s.region (take s.before s.history) s.user s.call other s.used s.want
      ours = subst (λ (is : List InputFile). IsFullFrom full.program (map frames_of is) limits s.region (take s.before s.history) s.user s.call other s.used s.want) one.1
          (subst (λ (p : Program). IsFullFrom p (map frames_of s.played) limits s.region (take s.before s.history) s.user s.call other s.used s.want) one.0 theirs)

      same : SameRefusal part other (full.used + full.want) (s.used + s.want)
      same = full-once full.program (map frames_of full.played) full.no_block limits full.region s.region full.entries (take s.before s.history) full.user s.user full.call s.call part other full.used full.want s.used s.want comes ours

  late-told : (status : Status) → Ends limits io name status → IsLate status → (status ≡ full_status limits part count) ⊎ ComesBefore status
  late-told Done e late = absurd (not-done e.0)
  late-told WriteFault e late = absurd (not-done e.0)
  late-told NoMemory e late = inr tt
  late-told (ReadFault which) e late = inr tt
  late-told (Over Entries others limit) e late =
      let same = same-stop parts.Entries others e.0 in
      inl (ap₂ (λ (n : ℕ) (m : ℕ). Over Entries n m) same.1 e.1.0 ∙ ap (λ (p : Part). full_status limits p count) same.0)
  late-told (Over Bytes others limit) e late =
      let same = same-stop parts.Bytes others e.0 in
      inl (ap₂ (λ (n : ℕ) (m : ℕ). Over Bytes n m) same.1 e.1.0 ∙ ap (λ (p : Part). full_status limits p count) same.0)
  late-told _ e late = absurd late

pub full-told : FullIsTold
full-told limits io name part count status full ends =
    late-told limits io name part count full status ends (end-late limits io name full.told full.program full.played full.ready status ends)
