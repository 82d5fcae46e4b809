-- Each entry of a record had room in what stood before it: one entry more, and what follows for the
-- limits.
use Rattle.std.proofs.Common.{ℕ, List, [], ◌∷◌, ◌++◌, ◌≡◌, Option, Some, None, option_map, Result, Ok, Err, OnOk, OnErr, refl, true, sym, ◌∙◌, ap, subst, arith, length}
use Rattle.std.proofs.lemmas.List.{append-nil, append_assoc}
use Rattle.std.proofs.lemmas.List.Sums.{sum_by_push}
use Rattle.vale_entry.specs.declared.entry.Ask.{Ask}
use Rattle.vale_entry.specs.declared.entry.Ask.TheVariants.{Enter, Open, Send, Grant, Done, Sync, Reset, Shut, Finish, Leave, Put, PutKept, Get, Watch, Stat}
use Rattle.vale_entry.specs.declared.entry.Reply.{Reply}
use Rattle.vale_entry.specs.declared.entry.Entry.{Entry}
use Rattle.vale_entry.specs.Legal.{Standing, Outcome, step, recorded_step, session_and_reply, Follows, IsLegal, IsLegalFrom, kept_ask}
use Rattle.vale_entry.specs.Room.{bytes_of, bytes_of_entry}
use Rattle.vale_entry.proofs.HistoryLaws.{room-used}
use Rattle.vale_entry.proofs.Worlds.{standing-push, legal-push}
use Rattle.vale_entry.proofs.KeptPuts.{puts-kept}
use Rattle.vale_entry.proofs.Wants.{is_owed, want-owed}
use Rattle.vale_own.specs.Recorded.{Recorded, standing, entry_of, after_outcome, after_ask, room_by, HasRoom, HadRoomFrom, HadRoom, IsWithinLimits, HasRoomFor}
use Rattle.vale_entry.specs.declared.entry.Item.{Item}
use Rattle.nm_types.specs.declared.id.PortId.{PortId}

abbrev HadRoomFor : Recorded → Entry → List Entry → Type 0
HadRoomFor b entry h = room_by (record b { entries = h }) entry.ask (recorded_step (standing (record b { entries = h })) entry.ask entry.reply)

had-push : (b : Recorded) (entries : List Entry) (entry : Entry) → HadRoomFrom b entries
    → (let c : Recorded = record b { entries = b.entries ++ entries } in room_by c entry.ask (recorded_step (standing c) entry.ask entry.reply))
    → HadRoomFrom b (entries ++ entry ∷ [])
had-push b [] entry had room = (subst (HadRoomFor b entry) (append-nil b.entries) room, tt)
had-push b (e ∷ es) entry had room =
    (had.0, had-push (record b { entries = b.entries ++ e ∷ [] }) es entry had.1 (subst (HadRoomFor b entry) (sym (append_assoc b.entries (e ∷ []) es)) room))

-- an ask and how it is stored differ where it is a Put alone
kept-by : (P : Ask → Ask → Type 0) → ((port : PortId) (offered : List Item) → P (Put port offered) (PutKept port (length offered)))
    → ((ask : Ask) → P ask ask) → (ask : Ask) → P ask (kept_ask ask)
kept-by P put same (Put port offered) = put port offered
kept-by P put same (Enter user) = same (Enter user)
kept-by P put same (Open session name tx rx extra) = same (Open session name tx rx extra)
kept-by P put same (Send port frames) = same (Send port frames)
kept-by P put same (Grant origin to) = same (Grant origin to)
kept-by P put same (Done lease) = same (Done lease)
kept-by P put same (Sync port back) = same (Sync port back)
kept-by P put same (Reset port side fault) = same (Reset port side fault)
kept-by P put same (Shut port) = same (Shut port)
kept-by P put same (Finish port bufs chain) = same (Finish port bufs chain)
kept-by P put same (Leave session) = same (Leave session)
kept-by P put same (PutKept port offered) = same (PutKept port offered)
kept-by P put same (Get port back) = same (Get port back)
kept-by P put same (Watch monitor target sides) = same (Watch monitor target sides)
kept-by P put same (Stat port) = same (Stat port)

bytes-kept : (ask : Ask) (reply : Reply) → bytes_of (kept_ask ask) reply ≡ bytes_of ask reply
bytes-kept ask reply = kept-by (λ a k. bytes_of k reply ≡ bytes_of a reply) (λ port offered. refl) (λ a. refl) ask

owed-kept : (ask : Ask) → is_owed (kept_ask ask) ≡ is_owed ask
owed-kept ask = kept-by (λ a k. is_owed k ≡ is_owed a) (λ port offered. refl) (λ a. refl) ask

room-kept : (b : Recorded) (ask : Ask) (made : Outcome) → HasRoomFor b ask made → HasRoomFor b (kept_ask ask) made
room-kept b ask made room = (room.0, rw (bytes-kept ask made.reply) room.1)

-- what an ask makes is what its entry records
pub step-recorded : (s : Standing) (ask : Ask) (made : Outcome) → step s ask ≡ Some made
    → recorded_step s (kept_ask ask) made.reply ≡ Some made
step-recorded s (Enter user) made e = e
step-recorded s (Open session name tx rx extra) made e = e
step-recorded s (Send port frames) made e = e
step-recorded s (Grant origin to) made e = e
step-recorded s (Done lease) made e = e
step-recorded s (Sync port back) made e = e
step-recorded s (Reset port side fault) made e = e
step-recorded s (Shut port) made e = e
step-recorded s (Finish port bufs chain) made e = e
step-recorded s (Leave session) made e = e
step-recorded s (Put port offered) made e = puts-kept s port offered made e
step-recorded s (PutKept port offered) made e = absurd cc
step-recorded s (Get port back) made e = e
step-recorded s (Watch monitor target sides) made e = e
step-recorded s (Stat port) made e = e

-- the record after an ask that it had room for
pub had-after : (old new : Recorded) (ask : Ask) → HadRoom old → new ≡ after_ask old ask → HasRoom old ask → HadRoom new
had-after old new ask had made room = subst HadRoom (sym made) (by_outcome (step (standing old) ask) refl room)
  where
    by_outcome : (made : Option Outcome) → step (standing old) ask ≡ made → room_by old ask made → HadRoom (after_outcome old ask made)
    by_outcome None is room = had
    by_outcome (Some made) is room =
        had-push (record old { entries = [] }) old.entries (entry_of ask made) had (subst (room_by old (kept_ask ask)) (sym (step-recorded (standing old) ask made is)) (room-kept old ask made room))

-- whether it was made or not
pub had-made : {A E : Type 0} (r : Result A E) (old new : Recorded) (ask : Ask) → HadRoom old → OnOk r (new ≡ after_ask old ask) → OnOk r (HasRoom old ask) → OnErr r (new ≡ old)
    → HadRoom new
had-made (Ok a) old new ask had made room same = had-after old new ask had made room
had-made (Err e) old new ask had made room same = subst HadRoom (sym same) had

pub on_ok-always : {A E P : Type 0} (r : Result A E) → P → OnOk r P
on_ok-always (Ok a) here = here
on_ok-always (Err e) here = tt

-- What is stored and promised is within the limits.

abbrev reply-or : Reply → Option (ℕ × Reply) → Reply
reply-or reply None = reply
reply-or reply (Some made) = made.1

within-push : (b : Recorded) (entry : Entry) → IsLegal b.pool b.entries → Follows (standing b) entry → room_by b entry.ask (recorded_step (standing b) entry.ask entry.reply)
    → IsWithinLimits (record b { entries = b.entries ++ entry ∷ [] })
within-push b entry legal follows room = by_outcome (recorded_step (standing b) entry.ask entry.reply) refl room
  where
    by_outcome : (found : Option Outcome) → recorded_step (standing b) entry.ask entry.reply ≡ found → room_by b entry.ask found → IsWithinLimits (record b { entries = b.entries ++ entry ∷ [] })
    by_outcome None is room = let none : option_map session_and_reply None ≡ Some (entry.session.0, entry.reply) = ap (option_map session_and_reply) (sym is) ∙ follows in absurd cc
    by_outcome (Some made) is room =
        let same : Some (made.session, made.reply) ≡ Some (entry.session.0, entry.reply) = ap (option_map session_and_reply) (sym is) ∙ follows in
        let reply : made.reply ≡ entry.reply = ap (reply-or entry.reply) same in
        let law = room-used b.pool b.entries entry made legal follows is in
        let bytes = sum_by_push bytes_of_entry b.entries entry in
        let size = ap (bytes_of entry.ask) reply in
        (omega (arith, room.0, law), omega (arith, room.1, bytes, size))

within-from : (b : Recorded) (entries : List Entry) → IsLegal b.pool b.entries → IsLegalFrom (standing b) entries → IsWithinLimits b → HadRoomFrom b entries
    → IsWithinLimits (record b { entries = b.entries ++ entries })
within-from b [] legal rest within had = subst (λ (h : List Entry). IsWithinLimits (record b { entries = h })) (sym (append-nil b.entries)) within
within-from b (e ∷ es) legal rest within had =
    let more = b.entries ++ e ∷ [] in
    subst (λ (h : List Entry). IsWithinLimits (record b { entries = h })) (append_assoc b.entries (e ∷ []) es)
    (within-from (record b { entries = more }) es (legal-push b.pool b.entries e legal rest.0)
    (subst (λ (s : Standing). IsLegalFrom s es) (sym (standing-push b.pool b.entries e)) rest.1)
    (within-push b e legal rest.0 had.0) had.1)

pub within-had : (b : Recorded) → IsLegal b.pool b.entries → HadRoom b → IsWithinLimits b
within-had b legal had = within-from (record b { entries = [] }) b.entries tt legal (omega arith, omega arith) had

-- So there is room for what was promised.
pub room-owed : (b : Recorded) (ask : Ask) → IsLegal b.pool b.entries → HadRoom b → is_owed ask ≡ true → HasRoom b ask
room-owed b ask legal had owed = by_outcome (step (standing b) ask) refl
  where
    by_outcome : (made : Option Outcome) → step (standing b) ask ≡ made → room_by b ask made
    by_outcome None is = tt
    by_outcome (Some made) is =
        let within = within-had b legal had in
        let free = want-owed (standing b) (kept_ask ask) made (owed-kept ask ∙ owed) (step-recorded (standing b) ask made is) in
        let none : bytes_of ask made.reply ≡ 0 = sym (bytes-kept ask made.reply) ∙ free.1 in
        (omega (arith, within.0, free.0), omega (arith, within.1, none))
