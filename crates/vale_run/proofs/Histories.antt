-- How what a run promises of its history comes from the play of its script.
use Rattle.std.proofs.Common.{ℕ, ◌+◌, ◌<◌, ◌≤◌, ◌^◌, ◌≡◌, inl, inr, List, [], ◌∷◌, ◌++◌, length, map, take, Option, Result, refl, sym, ◌∙◌, ap, subst, arith}
use Rattle.nm_io.specs.Files.{Files}
use Rattle.nm_types.specs.Limits.{most_entries, most_bytes}
use Rattle.nm_types.specs.declared.limits.Limits.{Limits}
use Rattle.nm_types.specs.declared.fault.Part.{Part}
use Rattle.nm_types.specs.declared.fault.Part.TheVariants as parts
use Rattle.nm_types.specs.declared.fault.StepFault.{StepFault}
use Rattle.nm_types.specs.declared.fault.StepFault.TheVariants.{RecordFull}
use Rattle.nm_types.specs.declared.fault.StepFault.TheVariants as faults
use Rattle.vale_entry.specs.declared.entry.Entry.{Entry}
use Rattle.vale_entry.specs.World.{free_count}
use Rattle.vale_entry.specs.Legal.{world_of, IsLegal}
use Rattle.vale_entry.specs.Transcript.{text_of, transcript_text}
use Rattle.vale_entry.proofs.Printable.{legal-printable}
use Rattle.vale_entry.proofs.Fitting.{legal-fits}
use Rattle.vale_text.proofs.Transcripts.{transcripts-tell}
use Rattle.vale_book.specs.Recorded.{Recorded, standing, IsRefusal, HadRoom}
use Rattle.vale_fabric.specs.declared.kept.Fixed.{Fixed}
use Rattle.vale_fabric.specs.Fabrics.{record_in}
use Rattle.vale_script.specs.Script.{Program}
use Rattle.vale_script.specs.Sound.{IsSound}
use Rattle.vale_captures.specs.Inputs.{InputFile, AreInputs, name_of, frames_of}
use Rattle.vale_captures.specs.Outputs.{OutputFile}
use Rattle.vale_replay.specs.Replay.{Cast, HasPlayed}
use Rattle.vale_replay.specs.Laws.{HaveLeft}
use Rattle.vale_replay.specs.Stops.{StopsAt}
use Rattle.vale_replay.proofs.Legal.{played-legal}
use Rattle.vale_replay.proofs.Leaving.{users-leave, all-back}
use Rattle.vale_replay.proofs.Owned.{always-owned-once}
use Rattle.vale_replay.proofs.Stopping.{users-stop}
use Rattle.vale_act.specs.Plays.{StopsScript, IsStoppedBy}
use Rattle.vale_book.proofs.FittingRooms.{had-take}
use Rattle.vale_book.proofs.FittingSums.{refusals-fit}
use Rattle.vale_run.specs.Run.{Io, IsReady, IsHistoryOf, HistoryOf, TellsHistory, StopsFull, WritesNothing, Ends, text_in, saved_in}
use Rattle.vale_run.specs.Writing.{IsFewUsed, IsPlayOf, stopped, Written}
use Rattle.vale_run.specs.declared.status.Status.{Status}
use Rattle.vale_run.specs.declared.status.Status.TheVariants.{Done, Usage, BadScript, ReadFault, WriteFault, BadPcap, Over, NoMemory, BadText}
use Rattle.vale_run.proofs.Deliveries.{delivers}

-- the text with the buffers that are free
pub text-is : (pool : ℕ) (entries : List Entry) (free : ℕ)
    → free ≡ free_count (world_of pool entries)
    → text_of 2 pool entries free ≡ transcript_text pool entries
text-is pool entries free e = ap (λ n. text_of 2 pool entries n) e

pub text-told : (book : Recorded) (pool : ℕ) (entries : List Entry) (free : ℕ) → pool ≡ book.pool
    → entries ≡ book.entries → free ≡ free_count (standing book).world
    → text_of 2 pool entries free ≡ transcript_text book.pool book.entries
text-told book pool entries free p e f =
    ap (λ (n : ℕ). text_of 2 n entries free) p ∙ ap (λ (h : List Entry). text_of 2 book.pool h free) e ∙
    text-is book.pool book.entries free f

-- the text tells the history
text-tells : (pool : ℕ) (history : List Entry) → pool < 2 ^ 32 → length history < 2 ^ 32
    → IsLegal pool history
    → TellsHistory pool history
text-tells pool history small few legal =
    λ buffers other less fewer lawful same.
    let told = transcripts-tell 2 2 buffers pool other history (free_count (world_of buffers other))
    (free_count (world_of pool history))
    (omega arith) (omega arith) (omega (arith, less)) (omega (arith, small)) (legal-printable buffers other lawful)
    (legal-printable pool history legal)
    (legal-fits buffers other lawful less fewer) (legal-fits pool history legal small few) same in
    (told.1, told.2)

-- the names of the captures that were read are those that were asked for
pub inputs-named : (files : Option Files) (names : List (List ℕ)) (played : List InputFile)
    (size : ℕ) → AreInputs files names played size → map name_of played ≡ names
inputs-named files [] [] size are = refl
inputs-named files [] (i ∷ is) size are = absurd are
inputs-named files (n ∷ ns) [] size are = absurd are
inputs-named files (n ∷ ns) (i ∷ is) size are =
    let rest : map name_of is ≡ ns = inputs-named files ns is are.1 are.2.1.0 in
    let first : i.file ≡ n = are.2.0.file in
    ap (λ (x : List ℕ). x ∷ map name_of is) first ∙ ap (λ (xs : List (List ℕ)). n ∷ xs) rest

-- the record of a run
abbrev pub run_record : Program → ℕ → Limits → List Entry → Recorded
run_record program region limits history = record
    { pool = program.pool; region = region; limits = limits; entries = history }

-- a record is that of a run, by what never changes of it
pub record-is : (program : Program) (limits : Limits) (fixed : Fixed) (history : List Entry)
    → fixed.pool ≡ program.pool → fixed.limits ≡ limits
    → record_in fixed history ≡ run_record program fixed.region limits history
record-is program limits fixed history pool are =
    ap (λ (p : ℕ). record_in (record fixed { pool = p }) history) pool
    ∙ ap (λ (l : Limits). run_record program fixed.region l history) are

pub book-is : (limits : Limits) (program : Program) (played : List InputFile) (book : Recorded)
    (ended : Result (List OutputFile) StepFault)
    (p : IsPlayOf limits program played book ended)
    → book ≡ run_record program p.fixed.region limits book.entries
book-is limits program played book ended p =
    sym p.book_is ∙ record-is program limits p.fixed book.entries p.pool p.limits_are

-- a history that plays the script
pub is-history : (limits : Limits) (region : ℕ) (program : Program) (played : List InputFile)
    (history : List Entry) (cast : Cast)
    → HadRoom (run_record program region limits history) → length history < 2 ^ 32
    → program.pool < 2 ^ 32
    → HasPlayed program (map frames_of played) history cast
    → IsHistoryOf limits program played history cast
is-history limits region program played history cast roomy few small plays =
    let captures = map frames_of played in
    let legal : IsLegal program.pool history = played-legal program captures history cast
    (inl plays) in
    let left : HaveLeft program.pool history cast.users = users-leave program captures history cast
    plays in
    record {
      legal = legal;
      plays = plays;
      told = text-tells program.pool history small few legal;
      region = region;
      roomy = roomy;
      delivers = delivers program.pool history legal left.no_session;
      owned = always-owned-once program captures history cast (inl plays);
      left = left;
      back = λ b. all-back program captures history cast b plays;
    }

-- a run that ended, and whose transcript was written
pub ends-written : (limits : Limits) (io : Io) (name : List ℕ)
    (run : HistoryOf limits io.files name) (status : Status)
    → Written (text_in run) (saved_in run) io status → Ends limits io name status
ends-written limits io name run Done w = (run, w)
ends-written limits io name run WriteFault w = (run, w)
ends-written limits io name run NoMemory w = inr (run, w)
ends-written limits io name run Usage w = absurd w
ends-written limits io name run (BadScript line cause) w = absurd w
ends-written limits io name run (ReadFault which) w = absurd w
ends-written limits io name run (BadPcap which offset cause) w = absurd w
ends-written limits io name run (BadText which line) w = absurd w
ends-written limits io name run (Over what count limit) w = absurd w

-- Where the record is full.

module _ (limits : Limits) (fixed : Fixed) (program : Program) (played : List InputFile)
    (history : List Entry)
    (pool : fixed.pool ≡ program.pool) (are : fixed.limits ≡ limits)
    (roomy : HadRoom (run_record program fixed.region limits history)) where
  pub stop-of : (fault : StepFault) (s : StopsScript fixed program (map frames_of played) history fault)
      → StopsAt program (map frames_of played) history s.count s.user s.call
  stop-of fault s = users-stop program (map frames_of played) history s.count s.user s.call
      s.stopped

  pub refusal-of : (fault : StepFault) (s : StopsScript fixed program (map frames_of played) history
      fault) → IsRefusal (run_record program fixed.region limits (take s.count history)) s.call
      fault
  refusal-of fault s = subst (λ (b : Recorded). IsRefusal b s.call fault)
      (record-is program limits fixed (take s.count history) pool are) s.refusal

  roomy-of : (count : ℕ) → HadRoom (run_record program fixed.region limits (take count history))
  roomy-of count = had-take (run_record program fixed.region limits history) count roomy

  stops-full : (files : Option Files) (name : List ℕ) → IsReady files name program played → IsSound program
      → (part : Part) (used want : ℕ)
      → StopsScript fixed program (map frames_of played) history (RecordFull part used want)
      → StopsFull limits files name part (used + want)
  stops-full files name ready sound part used want s =
      record {
        program = program;
        played = played;
        ready = ready;
        sound = sound;
        history = history;
        region = fixed.region;
        roomy = roomy;
        before = s.count;
        refused = refusal-of (RecordFull part used want) s;
        user = s.user;
        call = s.call;
        stopped = s.stopped;
        used = used;
        want = want;
        counted = refl;
      }

  pub few-used : (fault : StepFault) → limits.entries ≤ most_entries → limits.bytes ≤ most_bytes
      → IsStoppedBy fixed program (map frames_of played) history fault → IsFewUsed fault
  few-used (RecordFull part used want) entries bytes s =
      let stop = stop-of (RecordFull part used want) s in
      let legal : IsLegal program.pool (take s.count history) = played-legal program
      (map frames_of played) (take s.count history) stop.comes.nows (inr stop.comes.reached) in
      refusals-fit (run_record program fixed.region limits (take s.count history)) s.call part used
      want legal (roomy-of s.count) entries bytes (refusal-of (RecordFull part used want) s)
  few-used faults.NoMemory entries bytes s = tt

  pub ends-stopped : (io : Io) (name : List ℕ) (fault : StepFault)
      → IsReady io.files name program played → IsSound program → WritesNothing io
      → IsStoppedBy fixed program (map frames_of played) history fault
      → Ends limits io name (stopped limits fault)
  ends-stopped io name (RecordFull parts.Entries used want) ready sound nothing s =
      (stops-full io.files name ready sound parts.Entries used want s, (refl, nothing))
  ends-stopped io name (RecordFull parts.Bytes used want) ready sound nothing s =
      (stops-full io.files name ready sound parts.Bytes used want s, (refl, nothing))
  ends-stopped io name faults.NoMemory ready sound nothing s = inl nothing
