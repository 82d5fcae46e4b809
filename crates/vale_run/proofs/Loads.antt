-- How a load ends.
use Rattle.std.proofs.Common.{ℕ, ◌≡◌, List, [], take, Option, Result, Ok, Err, IfOk, IfErr, refl, sym, ◌∙◌, ap, subst, arith}
use Rattle.nm_types.specs.declared.limits.TheConstants.Limits.{VERSION_2}
use Rattle.nm_types.specs.declared.fault.Part.{Part}
use Rattle.nm_types.specs.declared.fault.StepFault.{StepFault}
use Rattle.nm_types.specs.declared.fault.StepFault.TheVariants.{RecordFull}
use Rattle.nm_types.specs.declared.fault.StepFault.TheVariants as faults
use Rattle.vale_book.specs.Recorded.{Recorded, HadRoom}
use Rattle.vale_script.specs.Script.{Program}
use Rattle.vale_captures.specs.Inputs.{InputFile}
use Rattle.vale_captures.specs.Outputs.{OutputFile}
use Rattle.vale_act.specs.Plays.{PlaysScript, IsStoppedBy, StopsScript}
use Rattle.vale_cost.proofs.RoomHistories.{not-refused}
use Rattle.vale_cost.proofs.RoomScripts.{few-fit}
use Rattle.vale_gen.specs.Load.{load_program}
use Rattle.vale_run.specs.Status.{WritesAnswer}
use Rattle.vale_run.specs.Load.{LoadOf, LoadEnds, load_text, text_in}
use Rattle.vale_run.specs.Writing.{IsFewUsed, IsPlayOf, stopped}
use Rattle.vale_run.specs.declared.status.Status.{Status}
use Rattle.vale_run.specs.declared.status.Status.TheVariants.{Done, Usage, BadScript, ReadFault, WriteFault, BadPcap, Over, NoMemory, BadText}
use Rattle.vale_run.proofs.Histories.{run_record, book-is, is-history, stop-of, refusal-of}
use Rattle.vale_run.proofs.LoadCosts.{load-fits}

-- what was played is the load of the number, without files
pub play-of : (n : ℕ) (script : Program) (inputs : List InputFile) (book : Recorded)
    (ended : Result (List OutputFile) StepFault) → script ≡ load_program n → inputs ≡ []
    → IsPlayOf VERSION_2 script inputs book ended → IsPlayOf VERSION_2 (load_program n) [] book ended
play-of n script inputs book ended is none p =
    subst (λ (i : List InputFile). IsPlayOf VERSION_2 (load_program n) i book ended) none
    (subst (λ (s : Program). IsPlayOf VERSION_2 s inputs book ended) is p)

module _ (n : ℕ) (book : Recorded) (ended : Result (List OutputFile) StepFault)
    (p : IsPlayOf VERSION_2 (load_program n) [] book ended) where
  roomy : HadRoom (run_record (load_program n) p.fixed.region VERSION_2 book.entries)
  roomy = subst HadRoom (book-is VERSION_2 (load_program n) [] book ended p) p.roomy

  -- a load that came to its end has a history that plays it
  load-of : (outputs : List OutputFile) → ended ≡ Ok outputs → LoadOf VERSION_2 n
  load-of outputs is =
      let plays : PlaysScript (load_program n) [] book.entries outputs = subst
      (λ r. IfOk r (PlaysScript (load_program n) [] book.entries)) is p.plays in
      record {
        entries = book.entries;
        cast = plays.cast;
        history = is-history VERSION_2 p.fixed.region (load_program n) [] book.entries plays.cast
            roomy p.few (omega arith) plays.played;
      }

  pool-is : book.pool ≡ (load_program n).pool
  pool-is = sym (ap (λ (b : Recorded). b.pool) p.book_is) ∙ p.pool

  -- its line was written
  ends-line : (load : LoadOf VERSION_2 n) (faults : ℕ × ℕ) (old new : Option (List ℕ))
      (status : Status) → WritesAnswer (text_in load) faults old new status
      → LoadEnds VERSION_2 n faults old new status
  ends-line load faults old new Done w = (load, w)
  ends-line load faults old new WriteFault w = (load, w)
  ends-line load faults old new NoMemory w = absurd w
  ends-line load faults old new Usage w = absurd w
  ends-line load faults old new (BadScript line cause) w = absurd w
  ends-line load faults old new (ReadFault which) w = absurd w
  ends-line load faults old new (BadPcap which offset cause) w = absurd w
  ends-line load faults old new (BadText which line) w = absurd w
  ends-line load faults old new (Over what count limit) w = absurd w

  pub ends-load : (outputs : List OutputFile) → ended ≡ Ok outputs → (faults : ℕ × ℕ)
      (old new : Option (List ℕ)) (status : Status)
      → WritesAnswer (load_text n book.pool book.entries) faults old new status
      → LoadEnds VERSION_2 n faults old new status
  unfolding load-of
  ends-load outputs is faults old new status w =
      ends-line (load-of outputs is) faults old new status
      (subst (λ (pool : ℕ). WritesAnswer (load_text n pool book.entries) faults old new status) pool-is
      w)

  -- and its record is never full
  never-full : (part : Part) (used want : ℕ) → ended ≡ Err (RecordFull part used want) → ⊥
  never-full part used want is =
      let fault = RecordFull part used want in
      let s : StopsScript p.fixed (load_program n) [] book.entries fault = subst
      (λ r. IfErr r (IsStoppedBy p.fixed (load_program n) [] book.entries)) is p.stops in
      let at = stop-of VERSION_2 p.fixed (load_program n) [] book.entries p.pool p.limits_are roomy
      fault s in
      let front = run_record (load_program n) p.fixed.region VERSION_2 (take s.count book.entries) in
      not-refused front s.call part used want
      (few-fit (load_program n) [] p.fixed.region VERSION_2 (take s.count book.entries) s.user
      s.call (load-fits n) at.comes)
      (refusal-of VERSION_2 p.fixed (load_program n) [] book.entries p.pool p.limits_are roomy fault
      s)

  -- so that where it stopped memory was wanting
  pub stops-few : (fault : StepFault) → ended ≡ Err fault → IsFewUsed fault
  stops-few (RecordFull part used want) is = absurd (never-full part used want is)
  stops-few faults.NoMemory is = tt

  pub ends-stopped : (fault : StepFault) → ended ≡ Err fault → (counts : ℕ × ℕ)
      (holds : Option (List ℕ)) → LoadEnds VERSION_2 n counts holds holds (stopped VERSION_2 fault)
  ends-stopped (RecordFull part used want) is counts holds = absurd (never-full part used want is)
  ends-stopped faults.NoMemory is counts holds = refl
