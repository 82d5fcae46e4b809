-- A run that nothing hinders is done, or memory was wanting: each other end has a cause that is not there.
use Rattle.std.proofs.Common.{ℕ, zero, suc, ◌+◌, ◌-◌, ◌<◌, ◌≤◌, ◌≡◌, ◌⊎◌, inl, inr, true, List, [], ◌∷◌, length, map, take, slice_get, string_bytes, Option, Some, None, IsSome, IfSome, IsSomeAnd, Result, Ok, Err, refl, sym, ◌∙◌, ap, subst, arith}
use Rattle.std.proofs.lemmas.Option.{same_Some}
use Rattle.std.specs.Str.Lines.{lines}
use Rattle.nm_io.specs.Files.{Files}
use Rattle.nm_types.specs.Limits.{most_entries, most_bytes, most_script_bytes, most_capture_bytes}
use Rattle.nm_types.specs.declared.limits.Limits.{Limits}
use Rattle.nm_types.specs.declared.fault.Part.{Part}
use Rattle.nm_types.specs.declared.fault.Part.TheVariants as parts
use Rattle.pcap_io.specs.declared.fault.PcapFault.{PcapFault}
use Rattle.pcap_io.specs.Capture.{IsCapture}
use Rattle.pcap_io.specs.Faults.{first_fault}
use Rattle.pcap_io.proofs.Captures.{same_capture, no_fault_of_capture}
use Rattle.vale_script.specs.Grammar.{Fault, script_of}
use Rattle.vale_script.specs.Script.{Program}
use Rattle.vale_captures.specs.declared.inputs.InputFault.{InputFault}
use Rattle.vale_captures.specs.declared.inputs.InputFault.TheVariants as inputs
use Rattle.vale_captures.specs.Counting.{counts_of, frames_played}
use Rattle.vale_captures.specs.Inputs.{InputFile, HasContents, IsInput, AreInputs, IsBadCapture, captured, frames_of}
use Rattle.vale_captures.specs.Outputs.{OutputFile}
use Rattle.vale_replay.proofs.Stopping.{users-stop}
use Rattle.vale_cost.specs.Completeness.{TasksFit}
use Rattle.vale_cost.specs.FewFrames.{IsLight}
use Rattle.vale_cost.proofs.RoomLines.{light-fit}
use Rattle.vale_cost.proofs.RoomScripts.{few-fit}
use Rattle.vale_cost.proofs.RoomHistories.{not-refused}
use Rattle.vale_run.specs.Run.{Io, HasRisen, IsScript, IsAccepted, HasInputs, IsReady, StopsAtInput, WritesPart, StopsFull, Ends, text_in, saved_in}
use Rattle.vale_run.specs.Complete.{NothingHinders, Completes}
use Rattle.vale_run.specs.declared.status.What.TheVariants.{Script, Lines, Counts, Inputs, Frames, Entries, Bytes, Text}
use Rattle.vale_run.specs.declared.status.Status.{Status}
use Rattle.vale_run.specs.declared.status.Status.TheVariants.{Done, Usage, BadScript, ReadFault, WriteFault, BadPcap, Over, NoMemory, BadText}
use Rattle.vale_run.proofs.Histories.{inputs-named}

-- ---- what a shelf tells of its files

ok-one : (p q : Program) (r : Result Program Fault) → r ≡ Ok p → r ≡ Ok q → p ≡ q
ok-one p q r one two = cc

none-bad : (p : Program) (fault : Fault) (r : Result Program Fault) → r ≡ Ok p → r ≡ Err fault → ⊥
none-bad p fault r one two = absurd cc

pub one-content : (files : Option Files) (told : IsSome files) (name a b : List ℕ) → HasContents files name a → HasContents files name b → a ≡ b
one-content None told name a b one two = absurd cc
one-content (Some all) told name a b one two = same_Some a b (sym one ∙ two)

pub not-longer : (files : Option Files) (told : IsSome files) (name a : List ℕ) (most : ℕ) → HasContents files name a → length a ≤ most
    → IfSome files (λ all. IsSomeAnd (all name) (λ b. most < length b)) → ⊥
not-longer None told name a most one short long = absurd cc
not-longer (Some all) told name a most one short long =
    let less : most < length a = subst (λ (found : Option (List ℕ)). IsSomeAnd found (λ b. most < length b)) one long in
    absurd (omega (arith, less, short))

module _ (files : Option Files) (told : IsSome files) where
  -- ---- one script

  one-script : (name s t : List ℕ) → IsScript files name s → IsScript files name t → s ≡ t
  one-script name s t one two = one-content files told name s t one.told two.told

  says-same : (name s : List ℕ) (p : Program) (a : IsAccepted files name p) → IsScript files name s → script_of s ≡ Ok p
  says-same name s p a is = ap script_of (one-script name s a.script is a.is_script) ∙ a.says

  one-program : (name : List ℕ) (p q : Program) → IsAccepted files name p → IsAccepted files name q → p ≡ q
  one-program name p q a b = ok-one p q (script_of b.script) (says-same name b.script p a b.is_script) b.says

  -- ---- one list of captures

  one-input : (name : List ℕ) (i j : InputFile) (m n : ℕ) → IsInput files name i m → IsInput files name j n → (i ≡ j) × (m ≡ n)
  one-input name i j m n one two =
      let same : one.contents ≡ two.contents = one-content files told name one.contents two.contents one.told two.told in
      let records : one.records ≡ two.records = same_capture one.contents one.records two.records one.capture
      (subst (λ (bytes : List ℕ). IsCapture bytes two.records) (sym same) two.capture) in
      let file : i.file ≡ j.file = one.file ∙ sym two.file in
      let frames : i.frames ≡ j.frames = one.frames ∙ ap (map captured) records ∙ sym two.frames in (
        ap (λ (f : List ℕ). record { file = f; frames = i.frames }) file ∙ ap (λ (fs : List (List ℕ)). record { file = j.file; frames = fs }) frames,
        one.sized ∙ ap length same ∙ sym two.sized,
      )

  one-played : (names : List (List ℕ)) (is js : List InputFile) (m n : ℕ) → AreInputs files names is m → AreInputs files names js n → (is ≡ js) × (m ≡ n)
  one-played [] [] [] m n one two = (refl, one ∙ sym two)
  one-played [] (i ∷ is) js m n one two = absurd one
  one-played [] [] (j ∷ js) m n one two = absurd two
  one-played (name ∷ names) [] js m n one two = absurd one
  one-played (name ∷ names) (i ∷ is) [] m n one two = absurd two
  one-played (name ∷ names) (i ∷ is) (j ∷ js) m n one two =
      let first = one-input name i j one.0 two.0 one.2.0 two.2.0 in
      let rest = one-played names is js one.1 two.1 one.2.1.0 two.2.1.0 in
      let same = first.1 in
      let others = rest.1 in
      let sum = one.2.1.1 in
      let total = two.2.1.1 in
      (ap (λ (x : InputFile). x ∷ is) first.0 ∙ ap (λ (xs : List InputFile). j ∷ xs) rest.0, omega (arith, same, others, sum, total))

  -- a file behind others that were read
  record IsRead (names : List (List ℕ)) (at used size : ℕ) (name : List ℕ) : Type 0 where
    input : InputFile
    more : ℕ
    is : IsInput files name input more
    within : used + more ≤ size

  read-at : (names : List (List ℕ)) (played before : List InputFile) (at used size : ℕ) (name : List ℕ)
      → AreInputs files names played size → AreInputs files (take at names) before used → slice_get names at ≡ Some name → IsRead names at used size name
  read-at [] played before at used size name all some there = absurd cc
  read-at (n ∷ names) [] before at used size name all some there = absurd all
  read-at (n ∷ names) (i ∷ played) [] zero used size name all some there =
      let same : n ≡ name = same_Some n name there in
      let sum = all.2.1.1 in
      record { input = i; more = all.0; is = subst (λ (x : List ℕ). IsInput files x i all.0) same all.2.0; within = omega (arith, sum, some) }
  read-at (n ∷ names) (i ∷ played) (b ∷ before) zero used size name all some there = absurd some
  read-at (n ∷ names) (i ∷ played) [] (suc at) used size name all some there = absurd some
  read-at (n ∷ names) (i ∷ played) (b ∷ before) (suc at) used size name all some there =
      let rest = read-at names played before at some.1 all.1 name all.2.1.0 some.2.1.0 there in
      let first = (one-input n i b all.0 some.0 all.2.0 some.2.0).1 in
      let sum = all.2.1.1 in
      let part = some.2.1.1 in
      let within = rest.within in
      record { input = rest.input; more = rest.more; is = rest.is; within = omega (arith, within, first, sum, part) }

  module _ (name : List ℕ) (program : Program) (played : List InputFile) (ready : IsReady files name program played) where
    accepted : IsAccepted files name program
    accepted = ready.has_inputs.counted.accepted

    pub one-ready : (p : Program) (is : List InputFile) → HasInputs files name p is → (p ≡ program) × (is ≡ played)
    one-ready p is other =
        let one : p ≡ program = one-program name p program other.counted.accepted accepted in
        let read : AreInputs files program.files is other.size = subst (λ (q : Program). AreInputs files q.files is other.size) one other.read in
        (one, (one-played program.files is played other.size ready.has_inputs.size read ready.has_inputs.read).0)

    -- the file where the reading stopped was read
    stopped-at : (reads : List ℕ → ℕ × ℕ) (fault : InputFault) (which : List ℕ) (s : StopsAtInput files reads name fault which)
        → IsRead s.program.files s.at s.stops.used ready.has_inputs.size s.stops.name
    stopped-at reads fault which s =
        let one : program ≡ s.program = one-program name program s.program accepted s.counted.accepted in
        read-at s.program.files played s.stops.before s.at s.stops.used ready.has_inputs.size s.stops.name
        (subst (λ (q : Program). AreInputs files q.files played ready.has_inputs.size) one ready.has_inputs.read) s.stops.read s.stops.there

    not-bad : (reads : List ℕ → ℕ × ℕ) (cause : PcapFault) (which : List ℕ) → StopsAtInput files reads name (inputs.BadPcap cause) which → ⊥
    not-bad reads cause which s =
        let r = stopped-at reads (inputs.BadPcap cause) which s in
        let bad : IsBadCapture files s.stops.name (most_capture_bytes - s.stops.used) (Some cause) = s.stops.blames in
        let same : bad.contents ≡ r.is.contents = one-content files told s.stops.name bad.contents r.is.contents bad.told r.is.told in
        let none : first_fault bad.contents ≡ None = ap first_fault same ∙ no_fault_of_capture r.is.contents r.is.records r.is.capture in
        let both : Some cause ≡ None = sym bad.first ∙ none in
        absurd cc

    not-long : (reads : List ℕ → ℕ × ℕ) (which : List ℕ) → StopsAtInput files reads name inputs.TooLong which → ⊥
    not-long reads which s =
        let r = stopped-at reads inputs.TooLong which s in
        let most : ready.has_inputs.size ≤ 67108864 = ready.has_inputs.within in
        let within = r.within in
        let sized = r.is.sized in
        not-longer files told s.stops.name r.is.contents (67108864 - s.stops.used) r.is.told (omega (arith, most, within, sized)) s.stops.blames

    -- the record has room for each call
    not-full : (limits : Limits) (part : Part) (count : ℕ) → most_entries ≤ limits.entries → most_bytes ≤ limits.bytes → IsLight program played → StopsFull limits files name part count → ⊥
    not-full limits part count entries bytes light s =
        let inputs-read = s.ready.has_inputs in
        let says = inputs-read.counted.accepted in
        let one = one-ready s.program s.played inputs-read in
        let lit : IsLight s.program s.played = subst (λ (p : Program). IsLight p s.played) (sym one.0) (subst (IsLight program) (sym one.1) light) in
        let fit : TasksFit s.program (map frames_of s.played) limits =
        light-fit says.script s.program s.played limits says.says says.few_lines (inputs-named files s.program.files s.played inputs-read.size inputs-read.read) lit entries bytes in
        let stop = users-stop s.program (map frames_of s.played) s.history s.before s.user s.call s.stopped in
        not-refused (record { pool = s.program.pool; region = s.region; limits = limits; entries = take s.before s.history }) s.call part s.used s.want
        (few-fit s.program (map frames_of s.played) s.region limits (take s.before s.history) s.user s.call fit stop.comes) s.refused

-- ---- ends that have another cause than a script that was read with its captures

abbrev pub IsLate : Status → Type 0
IsLate Done = Unit {0}
IsLate NoMemory = Unit {0}
IsLate WriteFault = Unit {0}
IsLate (ReadFault which) = Unit {0}
IsLate (Over Entries count limit) = Unit {0}
IsLate (Over Bytes count limit) = Unit {0}
IsLate _ = ⊥

module _ (limits : Limits) (io : Io) (name : List ℕ) (told : IsSome io.files) (program : Program) (played : List InputFile) (ready : IsReady io.files name program played) where
  own : IsAccepted io.files name program
  own = ready.has_inputs.counted.accepted

  not-many_lines : (script : List ℕ) (count : ℕ) → IsScript io.files name script → count ≡ length (lines script) → 10000 < count → ⊥
  not-many_lines script count is counted many =
      let same = ap (λ (s : List ℕ). length (lines s)) (one-script io.files told name script own.script is own.is_script) in
      let few : length (lines own.script) ≤ 10000 = own.few_lines in
      absurd (omega (arith, same, few, counted, many))

  not-many_counts : (other : Program) (count : ℕ) → IsAccepted io.files name other → count ≡ counts_of other → 1000000 < count → ⊥
  not-many_counts other count is counted many =
      let same = ap counts_of (one-program io.files told name other program is own) in
      let few : counts_of program ≤ 1000000 = ready.has_inputs.counted.few_counts in
      absurd (omega (arith, same, few, counted, many))

  not-many_frames : (other : Program) (others : List InputFile) (count : ℕ) → HasInputs io.files name other others → count ≡ frames_played other others → 1000000 < count → ⊥
  not-many_frames other others count has counted many =
      let one = one-ready io.files told name program played ready other others has in
      let same : frames_played other others ≡ frames_played program played = ap (λ (p : Program). frames_played p others) one.0 ∙ ap (frames_played program) one.1 in
      let few : frames_played program played ≤ 1000000 = ready.few_frames in
      absurd (omega (arith, same, few, counted, many))

  pub end-late : (status : Status) → Ends limits io name status → IsLate status
  end-late Done e = tt
  end-late NoMemory e = tt
  end-late WriteFault e = tt
  end-late (ReadFault which) e = tt
  end-late (Over Entries count limit) e = tt
  end-late (Over Bytes count limit) e = tt
  end-late Usage e = absurd e
  end-late (BadText which line) e = absurd e
  end-late (Over Text count limit) e = absurd e
  end-late (Over Script count limit) e = absurd (not-longer io.files told name own.script most_script_bytes own.is_script.told own.is_script.short e.1.1.0)
  end-late (Over Lines count limit) e = absurd (not-many_lines e.0 count e.1.0 e.1.1.0 e.1.1.1.0)
  end-late (BadScript line cause) e =
      absurd (none-bad program (record { line = line; cause = cause }) (script_of e.0) (says-same io.files told name e.0 program own e.1.0) e.1.1.1.0)
  end-late (Over Counts count limit) e = absurd (not-many_counts e.0 count e.1.0 e.1.1.0 e.1.1.1.0)
  end-late (Over Inputs count limit) e = absurd (not-long io.files told name program played ready io.reads e.0 e.1.0)
  end-late (BadPcap which offset cause) e = absurd (not-bad io.files told name program played ready io.reads cause (string_bytes which) e.0)
  end-late (Over Frames count limit) e = absurd (not-many_frames e.0 e.1.0 count e.1.1.0 e.1.1.1.0 e.1.1.1.1.0)

-- ---- each end but two

module _ (limits : Limits) (entries : most_entries ≤ limits.entries) (bytes : most_bytes ≤ limits.bytes) (io : Io) (name : List ℕ) (n : NothingHinders io name) where
  not-unread : (which : List ℕ) → ((which ≡ name) × HasRisen (io.reads name)) ⊎ StopsAtInput io.files io.reads name inputs.Failed which → ⊥
  not-unread which (inl one) = n.faultless.reads name one.1
  not-unread which (inr s) = n.faultless.reads s.stops.name s.stops.blames

  not-unwritten : (text : List ℕ) (saved : List OutputFile) → WritesPart text saved io true → ⊥
  not-unwritten text saved (inl w) = n.faultless.writes (w.rose refl)
  not-unwritten text saved (inr w) = n.faultless.appends w.shelf.output.file (w.shelf.rose refl)

  late-complete : (status : Status) → Ends limits io name status → IsLate status → (status ≡ Done) ⊎ (status ≡ NoMemory)
  late-complete Done e late = inl refl
  late-complete NoMemory e late = inr refl
  late-complete (ReadFault which) e late = absurd (not-unread (string_bytes which) e.0)
  late-complete (Over Entries count limit) e late = absurd (not-full io.files n.told name n.program n.played n.ready limits parts.Entries count entries bytes n.light e.0)
  late-complete (Over Bytes count limit) e late = absurd (not-full io.files n.told name n.program n.played n.ready limits parts.Bytes count entries bytes n.light e.0)
  late-complete WriteFault e late = absurd (not-unwritten (text_in e.0) (saved_in e.0) e.1)
  late-complete _ e late = absurd late

  end-complete : (status : Status) → Ends limits io name status → (status ≡ Done) ⊎ (status ≡ NoMemory)
  end-complete status e = late-complete status e (end-late limits io name n.told n.program n.played n.ready status e)

pub named-complete : (limits : Limits) → most_entries ≤ limits.entries → most_bytes ≤ limits.bytes → (name : List ℕ) (io : Io) (status : Status)
    → (load : Option ℕ) (text : Option (List ℕ)) → Ends limits io name status → Completes (Some name) load text io status
named-complete limits entries bytes name io status load text ends = λ n. end-complete limits entries bytes io name n status ends
