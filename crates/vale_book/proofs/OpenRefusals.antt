-- An opening is refused.
use Rattle.std.proofs.Common.{ℕ, Bool, true, false, ◌≡◌, ◌+◌, nat_lt, List, [], ◌∷◌, ◌++◌, cond, not, Option, Some, None, option_map, refl, sym, ◌∙◌, ap, subst, arith}
use Rattle.nm_types.specs.declared.id.SessionId.{SessionId}
use Rattle.nm_types.specs.declared.fault.StepFault.{StepFault}
use Rattle.nm_types.specs.declared.fault.StepFault.TheVariants as steps
use Rattle.nm_types.specs.declared.fault.OpenFault.{OpenFault}
use Rattle.nm_types.specs.declared.fault.OpenFault.TheVariants.{BadSize, SwitchesFull, PortsFull, NameTaken, NoBuffers, RecordFull, NoMemory}
use Rattle.nm_types.specs.Faults.{open_fault_of}
use Rattle.vale_entry.specs.declared.entry.Ask.{Ask}
use Rattle.vale_entry.specs.declared.entry.Ask.TheVariants.{Open}
use Rattle.vale_entry.specs.declared.entry.Entry.{Entry}
use Rattle.vale_entry.specs.declared.entry.Reply.TheVariants.{Refused}
use Rattle.vale_entry.specs.World.{World, free_count}
use Rattle.nm_types.specs.Openings.{finds_switches_full, finds_ports_full, finds_name_taken, open_refusal as names_refusal}
use Rattle.vale_entry.specs.Opening.{are_sizes, names_of, refusal_or_room, open_refusal}
use Rattle.vale_entry.specs.Legal.{Outcome, open_step_by, can_open}
use Rattle.vale_entry.specs.Stored.{Fits, IsFull}
use Rattle.vale_port.specs.declared.port.Opening.{Opening}
use Rattle.vale_parts.proofs.AllParts.{tables_stay}
use Rattle.vale_book.specs.declared.book.Book.TheInside.{Inside}
use Rattle.vale_book.specs.BookView.{recorded, parts_in, IsBook}
use Rattle.vale_own.specs.Recorded.{IsRefusal, IsRecordedAs}
use Rattle.vale_steps.specs.OpenFaults.{ByFault, IsRecordedFault}
use Rattle.vale_book.specs.OpenAnswers.{IsUnopened}
use Rattle.vale_steps.specs.OpenParts.{refusal_for, entry_for}
use Rattle.vale_book.proofs.Quiet.{quiet-moves}
use Rattle.vale_book.proofs.Moves.{Moves, Stays, before, fits-step, full-step, moved, stayed, record-moved, record-stayed, had-room}
use Rattle.vale_book.proofs.OpenMoves.{opening_of, open-made, refusal-is}

-- ---- Faults.

pub by-fault : (P P' : OpenFault → Type 0) (Q Q' : StepFault → Type 0) → ((told : OpenFault) → P told → P' told) → ((full : StepFault) → Q full → Q' full)
    → (fault : OpenFault) → ByFault P Q fault → ByFault P' Q' fault
by-fault P P' Q Q' f g BadSize is = f BadSize is
by-fault P P' Q Q' f g SwitchesFull is = f SwitchesFull is
by-fault P P' Q Q' f g PortsFull is = f PortsFull is
by-fault P P' Q Q' f g NameTaken is = f NameTaken is
by-fault P P' Q Q' f g (NoBuffers want have) is = f (NoBuffers want have) is
by-fault P P' Q Q' f g (RecordFull what used want) is = g (steps.RecordFull what used want) is
by-fault P P' Q Q' f g NoMemory is = g steps.NoMemory is

by-same : {X : Type 0} (fault : OpenFault) → ByFault (λ told. X) (λ full. X) fault → X
by-same BadSize is = is
by-same SwitchesFull is = is
by-same PortsFull is = is
by-same NameTaken is = is
by-same (NoBuffers want have) is = is
by-same (RecordFull what used want) is = is
by-same NoMemory is = is

pub by-full : (P : OpenFault → Type 0) (Q : StepFault → Type 0) (full : StepFault) → Q full → ByFault P Q (open_fault_of full)
by-full P Q (steps.RecordFull what used want) is = is
by-full P Q steps.NoMemory is = is

-- a refusal is one of five
abbrev IsRecordedIf : Option OpenFault → Type 0
IsRecordedIf None = Unit {0}
IsRecordedIf (Some fault) = IsRecordedFault fault

recorded-if : (b : Bool) (fault : OpenFault) (rest : Option OpenFault) → IsRecordedFault fault → IsRecordedIf rest → IsRecordedIf (cond b (Some fault) rest)
recorded-if true fault rest one more = one
recorded-if false fault rest one more = more

recorded-or : (refusal : Option OpenFault) (want have : ℕ) → IsRecordedIf refusal → IsRecordedIf (refusal_or_room refusal want have)
recorded-or (Some fault) want have one = one
recorded-or None want have one = recorded-if (nat_lt have want) (NoBuffers want have) None tt tt

refusal-recorded : (w : World) (name : List ℕ) (tx rx extra : ℕ) → IsRecordedIf (open_refusal w name tx rx extra)
refusal-recorded w name tx rx extra =
    let taken = recorded-if (finds_name_taken (names_of w.ports) name) NameTaken None tt tt in
    let ports = recorded-if (finds_ports_full (names_of w.ports) name) PortsFull (cond (finds_name_taken (names_of w.ports) name) (Some NameTaken) None) tt taken in
    let switches = recorded-if (finds_switches_full (names_of w.ports) name) SwitchesFull (cond (finds_ports_full (names_of w.ports) name) (Some PortsFull) (cond (finds_name_taken (names_of w.ports) name) (Some NameTaken) None)) tt ports in
    recorded-or (names_refusal (names_of w.ports) name tx rx extra) (tx + rx + extra) (free_count w)
    (recorded-if (not (are_sizes name tx rx extra)) BadSize (cond (finds_switches_full (names_of w.ports) name) (Some SwitchesFull) (cond (finds_ports_full (names_of w.ports) name) (Some PortsFull) (cond (finds_name_taken (names_of w.ports) name) (Some NameTaken) None))) tt switches)

pub refused-recorded : (b : Inside) (n : ℕ) (session : SessionId) (name : List ℕ) (tx rx extra : ℕ) (fault : OpenFault) → IsBook b
    → refusal_for b.names b.pool.free (opening_of n session name tx extra) rx ≡ Some fault → IsRecordedFault fault
refused-recorded b n session name tx rx extra fault k is =
    subst IsRecordedIf (refusal-is b n session name tx rx extra k ∙ is) (refusal-recorded (before b).world name tx rx extra)

-- ---- An entry of a refusal.

-- what a step makes of a book is in its record
pub recorded-as : (b next : Inside) (ask : Ask) (made : Outcome) → Moves b next ask made → IsRecordedAs (recorded b) (recorded next) ask made.reply
recorded-as b next ask made m = record {
  reply_is = ap (option_map (λ (o : Outcome). o.reply)) m.step_is;
  entry = record-moved b next ask made m;
  room = had-room b next ask made m;
}

-- the book without what was written to its record
abbrev pub unwritten : Inside → Inside → Inside
unwritten b next = record next { history = record next.history { entries = b.history.entries } }

-- a book whose record alone has changed
abbrev pub IsBeside : Inside → Inside → Type 0
IsBeside b next = Stays b (unwritten b next)

refused-moves : (b next : Inside) (n : ℕ) (session : SessionId) (name : List ℕ) (tx rx extra : ℕ) (fault : OpenFault) → IsBook b → can_open (before b).world session.0 name tx rx extra ≡ true
    → refusal_for b.names b.pool.free (opening_of n session name tx extra) rx ≡ Some fault → IsBeside b next
    → next.history.entries ≡ b.history.entries ++ entry_for (opening_of n session name tx extra) rx (Refused fault) ∷ [] → Fits b.history 1 0
    → Moves b next (Open session name tx rx extra) (open_step_by (Some fault) (before b) session.0 name tx rx extra)
refused-moves b next n session name tx rx extra fault k can is beside entries fits =
    let s = before b in
    let ask = Open session name tx rx extra in
    let same = beside.promised in
    quiet-moves b next ask (open_step_by (Some fault) s session.0 name tx rx extra) k (open-made s session name tx rx extra (Some fault) can (refusal-is b n session name tx rx extra k ∙ is)) k.stands.ports_are
    (record { names_next = refl; tables_wanted = tt; tables_next = sym (tables_stay s.world ask (parts_in b).tables refl); watches_next = λ port. refl; tally_next = refl; free_next = refl })
    entries beside.limits (omega (arith, same)) (fits-step b ask (open_step_by (Some fault) s session.0 name tx rx extra) k fits) (rw beside.sessions k.stands.sessions_are)
    beside.ports beside.parts beside.region beside.buffers

beside-stays : (b next : Inside) → IsBeside b next → next.history.entries ≡ b.history.entries → Stays b next
beside-stays b next beside entries = subst (λ (h : List Entry). Stays b (record next { history = record next.history { entries = h } })) (sym entries) beside

-- what a refusal says of the record
abbrev IsEntered : Inside → Inside → Opening → ℕ → OpenFault → OpenFault → Type 0
IsEntered b next opening rx fault told = (told ≡ fault) × (next.history.entries ≡ b.history.entries ++ entry_for opening rx (Refused fault) ∷ []) × Fits b.history 1 0

abbrev IsNotEntered : Inside → Inside → StepFault → Type 0
IsNotEntered b next full = (next.history.entries ≡ b.history.entries) × IsFull b.history 1 0 full

abbrev pub IsSaid : Inside → Inside → Opening → ℕ → OpenFault → OpenFault → Type 0
IsSaid b next opening rx fault answer = ByFault (IsEntered b next opening rx fault) (IsNotEntered b next) answer

pub refused-kept : (b next : Inside) (n : ℕ) (session : SessionId) (name : List ℕ) (tx rx extra : ℕ) (fault answer : OpenFault) → IsBook b → can_open (before b).world session.0 name tx rx extra ≡ true
    → refusal_for b.names b.pool.free (opening_of n session name tx extra) rx ≡ Some fault → IsBeside b next → IsSaid b next (opening_of n session name tx extra) rx fault answer → IsBook next
refused-kept b next n session name tx rx extra fault answer k can is beside said =
    by-same answer (by-fault (IsEntered b next (opening_of n session name tx extra) rx fault) (λ told. IsBook next) (IsNotEntered b next) (λ full. IsBook next)
    (λ told made. moved b next (Open session name tx rx extra) (open_step_by (Some fault) (before b) session.0 name tx rx extra) k (refused-moves b next n session name tx rx extra fault k can is beside made.1 made.2))
    (λ full none. stayed b next k (beside-stays b next beside none.0)) answer said)

pub refused-said : (b next : Inside) (n : ℕ) (session : SessionId) (name : List ℕ) (tx rx extra : ℕ) (fault answer : OpenFault) → IsBook b → can_open (before b).world session.0 name tx rx extra ≡ true
    → refusal_for b.names b.pool.free (opening_of n session name tx extra) rx ≡ Some fault → IsBeside b next → IsSaid b next (opening_of n session name tx extra) rx fault answer
    → IsUnopened (recorded b) (recorded next) (Open session name tx rx extra) answer
refused-said b next n session name tx rx extra fault answer k can is beside said =
    let s = before b in
    let ask = Open session name tx rx extra in
    let made : Outcome = open_step_by (Some fault) s session.0 name tx rx extra in
    by-fault (IsEntered b next (opening_of n session name tx extra) rx fault) (λ told. IsRecordedAs (recorded b) (recorded next) ask (Refused told)) (IsNotEntered b next) (λ full. (recorded next ≡ recorded b) × IsRefusal (recorded b) ask full)
    (λ told here. subst (λ (f : OpenFault). IsRecordedAs (recorded b) (recorded next) ask (Refused f)) (sym here.0)
    (recorded-as b next ask made (refused-moves b next n session name tx rx extra fault k can is beside here.1 here.2)))
    (λ full none. (
      record-stayed b next (beside-stays b next beside none.0),
      full-step b ask made full k (open-made s session name tx rx extra (Some fault) can (refusal-is b n session name tx rx extra k ∙ is)) none.1,
    )) answer said

-- ---- No room or memory for an opening.

pub full-said : (b next : Inside) (n : ℕ) (session : SessionId) (name : List ℕ) (tx rx extra : ℕ) (full : StepFault) → IsBook b → can_open (before b).world session.0 name tx rx extra ≡ true
    → refusal_for b.names b.pool.free (opening_of n session name tx extra) rx ≡ None → recorded next ≡ recorded b → IsFull b.history 3 0 full
    → IsUnopened (recorded b) (recorded next) (Open session name tx rx extra) (open_fault_of full)
full-said b next n session name tx rx extra full k can is same why =
    let s = before b in
    by-full (λ told. IsRecordedAs (recorded b) (recorded next) (Open session name tx rx extra) (Refused told)) (λ f. (recorded next ≡ recorded b) × IsRefusal (recorded b) (Open session name tx rx extra) f) full
    (same, full-step b (Open session name tx rx extra) (open_step_by None s session.0 name tx rx extra) full k (open-made s session name tx rx extra None can (refusal-is b n session name tx rx extra k ∙ is)) why)
