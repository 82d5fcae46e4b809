-- Laws of a session's own side, as statements.
use Rattle.std.specs.Prelude.{ℕ, ◌≡◌, ◌≤◌, ◌<◌, ◌+◌, ◌==◌, List, [], ◌∷◌, ◌++◌, length, count_by, Option, Some, None, All, if◌then◌else◌}
use Rattle.nm_types.specs.Buffers.{IsBufferIndex}
use Rattle.nm_types.specs.OwnPorts.{OwnPort, OwnState, empty_own, bytes_at, port_with_id}
use Rattle.nm_types.specs.OwnSyncs.{buffers_of_arrivals}
use Rattle.vale_entry.specs.declared.entry.Ask.TheVariants.{Enter, Open, Sync, Get, PutKept}
use Rattle.vale_entry.specs.declared.entry.Ask.{Ask}
use Rattle.vale_entry.specs.declared.entry.Reply.TheVariants.{Opened}
use Rattle.vale_entry.specs.declared.entry.Entry.{Entry}
use Rattle.vale_entry.specs.declared.entry.Reply.{Reply}
use Rattle.vale_entry.specs.Arrivals.{arrivals_of}
use Rattle.vale_entry.specs.Holdings.{is_buffer_index}
use Rattle.vale_entry.specs.OwnCalls.{own_after}
use Rattle.vale_entry.specs.Legal.{standing_of, kept_items, IsLegal, Follows}
use Rattle.vale_own.specs.Own.{own_of}
use Rattle.vale_own.specs.Laws.{IsOfOther}
use Rattle.vale_own.specs.Side.{buffers_on, IsSoundSideOf, IsOfSide, shut_after}

-- a session that enters has a side without ports
abbrev pub SideBegins : Type 0
SideBegins = (pool : ℕ) (past : List Entry) (entry : Entry) (user : ℕ) → IsLegal pool past → Follows (standing_of pool past) entry → entry.ask ≡ Enter user
    → IsSoundSideOf pool entry.session.0 None (own_of entry.session.0 (standing_of pool (past ++ entry ∷ []))) (empty_own pool)

-- what its session has after an entry of the side is what the entry makes of the side
abbrev pub SideIsKept : Type 0
SideIsKept = (pool : ℕ) (past : List Entry) (entry : Entry) (shut : Option ℕ) (side : OwnState) → IsLegal pool past → Follows (standing_of pool past) entry
    → IsSoundSideOf pool entry.session.0 shut (own_of entry.session.0 (standing_of pool past)) side → IsOfSide shut side entry.ask entry.reply
    → IsSoundSideOf pool entry.session.0 (shut_after entry.ask shut) (own_of entry.session.0 (standing_of pool (past ++ entry ∷ [])))
    (own_after (length past + 1) entry (arrivals_of (standing_of pool past) entry.ask entry.reply) side)

-- the buffers that an entry brings and those that its session has are of the pool, each once
abbrev pub ArrivalsAreApart : Type 0
ArrivalsAreApart = (pool : ℕ) (past : List Entry) (entry : Entry) (b : ℕ) → IsLegal pool past → Follows (standing_of pool past) entry
    → count_by (λ y. y == b) (own_of entry.session.0 (standing_of pool past)).buffers + count_by (λ y. y == b) (buffers_of_arrivals (arrivals_of (standing_of pool past) entry.ask entry.reply))
    ≤ (if is_buffer_index pool b then 1 else 0)

-- a buffer of the pool that is in no place of the side, and has no bytes there
pub record IsNewTo (pool : ℕ) (side : OwnState) (b : ℕ) : Type 0 where
  pub index : IsBufferIndex pool b
  pub no_place : count_by (λ y. y == b) (buffers_on side) ≡ 0
  pub no_bytes : bytes_at side b ≡ []

-- so the buffers that an entry brings are new to the side
abbrev pub BuffersComeNew : Type 0
BuffersComeNew = (pool : ℕ) (past : List Entry) (entry : Entry) (shut : Option ℕ) (side : OwnState) → IsLegal pool past → Follows (standing_of pool past) entry
    → IsSoundSideOf pool entry.session.0 shut (own_of entry.session.0 (standing_of pool past)) side
    → All (IsNewTo pool side) (buffers_of_arrivals (arrivals_of (standing_of pool past) entry.ask entry.reply))

-- how many buffers an entry brings: for an opening those of its transmit slots and extra positions, for
-- a put one for each frame taken, and for a receive sync as many as the ring has room for
abbrev pub HasRoomFor : OwnState → ℕ → ℕ → Type 0
HasRoomFor side id count = (p : OwnPort) → port_with_id side id ≡ Some p → length p.rx.held + count < p.rx.ring.size

abbrev pub ComeAsMany : OwnState → Ask → Reply → ℕ → Type 0
ComeAsMany side (Open session name tx rx extra) Opened count = count ≡ tx + extra
ComeAsMany side (PutKept port offered) reply count = count ≡ length (kept_items reply)
ComeAsMany side (Sync port back) reply count = HasRoomFor side port.0 count
ComeAsMany side (Get port back) reply count = HasRoomFor side port.0 count
ComeAsMany side _ reply count = count ≡ 0

abbrev pub ArrivalsAreAsMany : Type 0
ArrivalsAreAsMany = (pool : ℕ) (past : List Entry) (entry : Entry) (shut : Option ℕ) (side : OwnState) → IsLegal pool past → Follows (standing_of pool past) entry
    → IsSoundSideOf pool entry.session.0 shut (own_of entry.session.0 (standing_of pool past)) side
    → ComeAsMany side entry.ask entry.reply (length (arrivals_of (standing_of pool past) entry.ask entry.reply))

-- entries of others leave a session's side its side
abbrev pub OthersKeepSide : Type 0
OthersKeepSide = (pool : ℕ) (past more : List Entry) (session : ℕ) (shut : Option ℕ) (side : OwnState) → IsLegal pool (past ++ more) → All (IsOfOther session) more
    → IsSoundSideOf pool session shut (own_of session (standing_of pool past)) side → IsSoundSideOf pool session shut (own_of session (standing_of pool (past ++ more))) side
