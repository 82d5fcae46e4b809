-- What is saved of a port, entry by entry.
use Rattle.std.proofs.Common.{ℕ, ◌+◌, ◌-◌, ◌<◌, ◌≡◌, ⊎_elim, List, [], ◌∷◌, ◌++◌, map, take, length, slice_get, Option, Some, None, refl, sym, ◌∙◌, ap, subst, arith}
use Rattle.std.specs.Option.{option_map_or}
use Rattle.std.proofs.lemmas.List.{length-take-le}
use Rattle.std.proofs.lemmas.List.Elements.{recursion_from_All}
use Rattle.std.proofs.lemmas.Option.{slice_get_within}
use Rattle.nm_types.specs.Frames.{Frame}
use Rattle.nm_types.specs.declared.fault.StepFault.{StepFault}
use Rattle.nm_types.specs.declared.fault.StepFault.TheVariants.{NoMemory}
use Rattle.vale_entry.specs.declared.entry.Ask.{Ask}
use Rattle.vale_entry.specs.declared.entry.Reply.TheVariants.{Gave}
use Rattle.vale_entry.specs.OwnCalls.{rx_call}
use Rattle.vale_entry.specs.declared.entry.Entry.{Entry}
use Rattle.vale_entry.specs.World.{World}
use Rattle.vale_entry.specs.Delivered.{read_by, of_entry_in}
use Rattle.vale_entry.specs.Legal.{IsLegal, world_of}
use Rattle.vale_entry.proofs.ListLaws.{each-at}
use Rattle.vale_entry.proofs.Worlds.{count-world_of}
use Rattle.vale_fabric.specs.declared.kept.Fixed.{Fixed}
use Rattle.vale_fabric.specs.Fabrics.{Knowing, Refuses, entry_by}
use Rattle.nm_user.specs.Sessions.{SessionState, IsThere}
use Rattle.nm_user.specs.Calls.{IsRefused}
use Rattle.nm_user.specs.Saving.{bytes_of_frame, frames_from, read_of}
use Rattle.nm_user.specs.PortReads.{IsPortOf, ReadsNot}
use Rattle.nm_user.proofs.SavingRead.{received-are-read}
use Rattle.nm_user.proofs.SavingHistory.{reads-none, told-stays, told-none}
use Rattle.nm_user.proofs.SavingSights.{adds-one, adds-sync, sight-stays, receive-grows}
use Rattle.vale_replay.specs.Saved.{SavedFrame, saved_from, saved_in, saved_frames}
use Rattle.vale_player.specs.Saving.{OthersSaveNothing, SavedStay, SavedBegin, SavedGrow, RingIsSaved, CallsSaveNothing, SyncsSaveNothing, RefusedSaveNothing}

-- where nothing is read nothing is saved
pub silent : (id : ℕ) (w : World) (e : Entry) → read_by id w e.ask e.reply ≡ [] → saved_in id w e ≡ []
silent id w e none = ap (saved_from (w.entry_count + 1) 0) none

pub others-save-nothing : OthersSaveNothing
others-save-nothing pool past e session id follows k none = silent id (world_of pool past) e (reads-none pool past e session id follows k none)

pub saved-stay : SavedStay
saved-stay pool past more session id legal k none =
    let each = recursion_from_All (ReadsNot session id) more none in
    told-stays (saved_in id) pool id (silent id) past more session legal k (λ at e here. each-at (ReadsNot session id) more at e each here)

pub saved-begin : SavedBegin
saved-begin pool history id few = told-none (saved_in id) pool id (silent id) history few

-- ---- a session's calls

pub calls-save-nothing : CallsSaveNothing
calls-save-nothing s t id ask reply there k made none =
    let pool = s.fixed.pool in
    let m = made.answers.makes in
    ap (λ (fixed : Fixed). saved_frames fixed.pool t.knows.seen id) made.fixed
    ∙ sight-stays (saved_in id) pool id (silent id) s t.knows _ there.come there.speaks m.legal m.told k (adds-one id (length t.knows.seen) m.session ask m.reply none)

pub syncs-save-nothing : SyncsSaveNothing
syncs-save-nothing s t id ask reply shares there after k sync none =
    let legal : IsLegal s.fixed.pool t.knows.seen = subst (λ (fixed : Fixed). IsLegal fixed.pool t.knows.seen) sync.fixed after.legal in
    ap (λ (fixed : Fixed). saved_frames fixed.pool t.knows.seen id) sync.fixed
    ∙ sight-stays (saved_in id) s.fixed.pool id (silent id) s t.knows _ there.come there.speaks legal sync.told k (adds-sync id 0 sync (λ other. none))

refused-same : (s : SessionState) (w : Knowing) (id : ℕ) (ask : Ask) (fault : StepFault) → IsThere None s → IsPortOf s.fixed.pool s.knows.seen s.id id → IsRefused s.fixed s.knows w ask fault
    → saved_frames s.fixed.pool w.seen id ≡ saved_frames s.fixed.pool s.knows.seen id
refused-same s w id ask fault there k refused =
    ⊎_elim (λ (same : (w ≡ s.knows) × (fault ≡ NoMemory)). ap (λ (v : Knowing). saved_frames s.fixed.pool v.seen id) same.0)
    (λ (r : Refuses s.fixed s.knows w ask fault). sight-stays (saved_in id) s.fixed.pool id (silent id) s w _ there.come there.speaks r.none.legal r.none.told k (λ at n e here other. absurd cc)) refused

pub refused-save-nothing : RefusedSaveNothing
refused-save-nothing s t id ask fault there k none =
    ap (λ (x : SessionState). saved_frames x.fixed.pool t.knows.seen id) none.same ∙ refused-same s t.knows id ask fault there k none.refused

-- ---- a receive sync

pub saved-grow : SavedGrow
saved-grow s t id received there after is =
    let sync = is.synced in
    let pool = t.fixed.pool in
    let n = received.entry in
    let entry : Entry = entry_by s.id (rx_call s.own is.at.port) (Gave received.gave is.to) in
    let stands = sync.told.stand 0 sync.number entry refl in
    let new : length s.knows.seen < n = subst (λ (m : ℕ). length s.knows.seen < m) (sym is.entry) stands.0 in
    let at : slice_get t.knows.seen (n - 1) ≡ Some entry = subst (λ (m : ℕ). slice_get t.knows.seen (m - 1) ≡ Some entry) (sym is.entry) stands.1 in
    let grown = receive-grows (saved_in id) pool id (silent id) refl there after is n refl entry at in
    let inside = slice_get_within t.knows.seen (n - 1) entry at in
    let before = take (n - 1) t.knows.seen in
    let count = count-world_of pool before in
    let cut = length-take-le (n - 1) t.knows.seen (omega (arith, inside)) in
    let counted : (world_of pool before).entry_count + 1 ≡ n = omega (arith, count, cut, new) in
    let read : read_by id (world_of pool before) entry.ask entry.reply ≡ read_of pool t.knows.seen id n = sym (ap (λ (o : Option Entry). option_map_or (of_entry_in read_by id (world_of pool before)) o []) at) in
    let saved : saved_in id (world_of pool before) entry ≡ saved_from n 0 (read_of pool t.knows.seen id n) =
    ap (λ (m : ℕ). saved_from m 0 (read_by id (world_of pool before) entry.ask entry.reply)) counted ∙ ap (saved_from n 0) read in
    grown ∙ (ap (λ (xs : List SavedFrame). saved_frames pool s.knows.seen id ++ xs) saved
    ∙ ap (λ (f : Fixed). saved_frames f.pool s.knows.seen id ++ saved_from n 0 (read_of pool t.knows.seen id n)) sync.fixed)

-- what is saved of frames is told by their bytes
abbrev saved_bytes : ℕ → ℕ → List (List ℕ) → List SavedFrame
saved_bytes number place [] = []
saved_bytes number place (bytes ∷ rest) = record { seconds = number; fraction = place; bytes = bytes } ∷ saved_bytes number (place + 1) rest

bytes-saved : (number place : ℕ) (frames : List Frame) → saved_from number place frames ≡ saved_bytes number place (map bytes_of_frame frames)
bytes-saved number place [] = refl
bytes-saved number place (frame ∷ frames) = ap (λ (xs : List SavedFrame). let made : SavedFrame = record { seconds = number; fraction = place; bytes = frame.bytes } in made ∷ xs) (bytes-saved number (place + 1) frames)

same-saved : (number : ℕ) (frames others : List Frame) → map bytes_of_frame frames ≡ map bytes_of_frame others → saved_from number 0 frames ≡ saved_from number 0 others
same-saved number frames others same = bytes-saved number 0 frames ∙ (ap (saved_bytes number 0) same ∙ sym (bytes-saved number 0 others))

pub ring-is-saved : RingIsSaved
ring-is-saved s t id received there after is =
    let frames = read_of t.fixed.pool t.knows.seen id received.entry in
    let found = frames_from t.own id is.at.port.rx.ring.tail in
    saved-grow s t id received there after is
    ∙ ap (λ (xs : List SavedFrame). saved_frames s.fixed.pool s.knows.seen id ++ xs) (same-saved received.entry frames found (sym (received-are-read s t id received there after is)))
