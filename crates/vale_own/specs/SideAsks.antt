-- The calls that a session makes of its own side are asks that it may make, and what they make, as
-- statements.
use Rattle.std.specs.Prelude.{ℕ, ◌≡◌, ◌<◌, ◌^◌, ◌+◌, true, false, List, [], ◌∷◌, ◌++◌, length, Option, Some, option_map}
use Rattle.std.specs.Option.{option_map_or}
use Rattle.std.specs.List.{AllByRecursion}
use Rattle.nm_types.specs.declared.fault.SyncFault.{SyncFault}
use Rattle.nm_types.specs.declared.id.Side.{Side}
use Rattle.nm_types.specs.Buffers.{IsPoolSize}
use Rattle.nm_types.specs.Slots.{SlotState}
use Rattle.nm_types.specs.declared.id.SessionId.{SessionId}
use Rattle.nm_types.specs.declared.id.Side.TheVariants.{Tx, Rx}
use Rattle.nm_types.specs.declared.id.Sides.{Sides}
use Rattle.nm_types.specs.Names.{is_name, is_monitor_name}
use Rattle.nm_types.specs.OwnPorts.{OwnRing, OwnPort, OwnState, port_with_id, ring_on, refusal_in}
use Rattle.vale_entry.specs.declared.entry.Ask.{Ask}
use Rattle.vale_entry.specs.declared.entry.Ask.TheVariants.{Open, Shut, Leave, Watch, Stat}
use Rattle.vale_entry.specs.declared.entry.Entry.{Entry}
use Rattle.vale_entry.specs.declared.entry.Reply.{Reply}
use Rattle.vale_entry.specs.Arrivals.{arrivals_of}
use Rattle.vale_entry.specs.OwnCalls.{tx_call, rx_call, finish_call, own_after}
use Rattle.vale_entry.specs.Legal.{standing_of, step, session_and_reply, kept_ask, entry_by, IsLegal, fits_u32, fits_fault}
use Rattle.vale_own.specs.Own.{own_of, is_settled_own}
use Rattle.vale_own.specs.OwnAsks.{may_ask}
use Rattle.vale_own.specs.Side.{is_shut, IsSoundSideOf, IsOfSide, shut_after}

-- a session and its side after a legal history
pub record HasSide (pool : ℕ) (past : List Entry) (session : ℕ) (shut : Option ℕ) (side : OwnState) : Type 0 where
  pub legal : IsLegal pool past
  pub of : IsSoundSideOf pool session shut (own_of session (standing_of pool past)) side

abbrev pub IsSettled : ℕ → List Entry → ℕ → Type 0
IsSettled pool past session = is_settled_own (own_of session (standing_of pool past)) ≡ true

abbrev pub MayAsk : ℕ → List Entry → ℕ → Ask → Type 0
MayAsk pool past session ask = may_ask session (own_of session (standing_of pool past)) ask ≡ true

-- a port of the side, open or shut
abbrev pub IsOpen : Option ℕ → OwnState → OwnPort → Type 0
IsOpen shut side p = (port_with_id side p.id.0 ≡ Some p) × (is_shut shut p.id.0 ≡ false)

abbrev pub IsShut : Option ℕ → OwnState → OwnPort → Type 0
IsShut shut side p = (port_with_id side p.id.0 ≡ Some p) × (is_shut shut p.id.0 ≡ true)

-- the numbers of a refusal, if there is one, fit their fields
abbrev pub RefusalFits : Option SyncFault → Type 0
RefusalFits refusal = option_map_or fits_fault refusal true ≡ true

-- they do where the pool has a pool's size, and the numbers of the ring's positions and slots fit theirs
abbrev pub SlotFits : SlotState → Type 0
SlotFits slot = (slot.buf_idx < 2 ^ 32) × (slot.len < 2 ^ 16)

pub record HasFields (r : OwnRing) : Type 0 where
  pub head : r.ring.head < 2 ^ 32
  pub cur : r.ring.cur < 2 ^ 32
  pub slots : AllByRecursion SlotFits r.slots

abbrev pub RefusalsFit : Type 0
RefusalsFit = (pool : ℕ) (past : List Entry) (session : ℕ) (shut : Option ℕ) (side : OwnState) (sd : Side) (p : OwnPort) (r : OwnRing) → HasSide pool past session shut side → IsPoolSize pool
    → port_with_id side p.id.0 ≡ Some p → ring_on sd p ≡ Some r → HasFields r → RefusalFits (refusal_in sd side p r)

-- a transmit sync: the frames pushed, or those offered to a pipe, can be sent; a refused one resets
abbrev pub TransmitMayBeAsked : Type 0
TransmitMayBeAsked = (pool : ℕ) (past : List Entry) (session : ℕ) (shut : Option ℕ) (side : OwnState) (p : OwnPort) (r : OwnRing) → HasSide pool past session shut side → IsSettled pool past session
    → IsOpen shut side p → p.tx ≡ Some r → RefusalFits (refusal_in Tx side p r) → MayAsk pool past session (tx_call side p r)

-- a receive sync: the buffers that it gives back are the session's; a refused one resets
abbrev pub ReceiveMayBeAsked : Type 0
ReceiveMayBeAsked = (pool : ℕ) (past : List Entry) (session : ℕ) (shut : Option ℕ) (side : OwnState) (p : OwnPort) → HasSide pool past session shut side → IsSettled pool past session
    → IsOpen shut side p → RefusalFits (refusal_in Rx side p p.rx) → MayAsk pool past session (rx_call side p)

abbrev pub ShutMayBeAsked : Type 0
ShutMayBeAsked = (pool : ℕ) (past : List Entry) (session : ℕ) (shut : Option ℕ) (side : OwnState) (p : OwnPort) → HasSide pool past session shut side → IsSettled pool past session
    → IsOpen shut side p → MayAsk pool past session (Shut p.id)

-- a detach of the port that is shut: it names the buffers in its places
abbrev pub FinishMayBeAsked : Type 0
FinishMayBeAsked = (pool : ℕ) (past : List Entry) (session : ℕ) (shut : Option ℕ) (side : OwnState) (p : OwnPort) → HasSide pool past session shut side
    → IsShut shut side p → MayAsk pool past session (finish_call side p)

abbrev pub StatMayBeAsked : Type 0
StatMayBeAsked = (pool : ℕ) (past : List Entry) (session : ℕ) (shut : Option ℕ) (side : OwnState) (p : OwnPort) → HasSide pool past session shut side
    → IsOpen shut side p → MayAsk pool past session (Stat p.id)

abbrev pub WatchMayBeAsked : Type 0
WatchMayBeAsked = (pool : ℕ) (past : List Entry) (session : ℕ) (shut : Option ℕ) (side : OwnState) (p : OwnPort) (target : List ℕ) (sides : Sides) → HasSide pool past session shut side
    → IsOpen shut side p → is_monitor_name p.name ≡ true → is_name target ≡ true → is_monitor_name target ≡ false → MayAsk pool past session (Watch p.id target sides)

abbrev pub OpenMayBeAsked : Type 0
OpenMayBeAsked = (pool : ℕ) (past : List Entry) (session : SessionId) (shut : Option ℕ) (side : OwnState) (name : List ℕ) (tx rx extra : ℕ) → HasSide pool past session.0 shut side
    → is_name name ≡ true → fits_u32 tx ≡ true → fits_u32 rx ≡ true → fits_u32 extra ≡ true → MayAsk pool past session.0 (Open session name tx rx extra)

-- a side without ports can be left
abbrev pub LeaveMayBeAsked : Type 0
LeaveMayBeAsked = (pool : ℕ) (past : List Entry) (session : SessionId) (shut : Option ℕ) (side : OwnState) → HasSide pool past session.0 shut side → IsSettled pool past session.0
    → side.ports ≡ [] → MayAsk pool past session.0 (Leave session)

-- What such a call makes.

-- the call makes an entry, of this session and with this reply
abbrev pub IsMade : ℕ → List Entry → ℕ → Ask → Reply → Type 0
IsMade pool past session ask reply = option_map session_and_reply (step (standing_of pool past) ask) ≡ Some (session, reply)

-- what a session may ask makes an entry of its own
abbrev pub CallsAreOwn : Type 0
CallsAreOwn = (pool : ℕ) (past : List Entry) (session by : ℕ) (ask : Ask) (reply : Reply) → IsLegal pool past → MayAsk pool past session ask → IsMade pool past by ask reply → by ≡ session

-- and a call of the side leaves the side, changed as its entry says, the session's
abbrev pub CallsKeepSide : Type 0
CallsKeepSide = (pool : ℕ) (past : List Entry) (session : ℕ) (shut : Option ℕ) (side : OwnState) (ask : Ask) (reply : Reply) → HasSide pool past session shut side → IsMade pool past session ask reply
    → IsOfSide shut side (kept_ask ask) reply
    → HasSide pool (past ++ entry_by session ask reply ∷ []) session (shut_after (kept_ask ask) shut)
    (own_after (length past + 1) (entry_by session ask reply) (arrivals_of (standing_of pool past) (kept_ask ask) reply) side)

-- The entry of a call that the side makes is of the side.

abbrev pub TransmitsAreOfSide : Type 0
TransmitsAreOfSide = (pool : ℕ) (past : List Entry) (session : ℕ) (shut : Option ℕ) (side : OwnState) (p : OwnPort) (r : OwnRing) (reply : Reply) → port_with_id side p.id.0 ≡ Some p → p.tx ≡ Some r
    → IsMade pool past session (tx_call side p r) reply → IsOfSide shut side (kept_ask (tx_call side p r)) reply

abbrev pub ReceivesAreOfSide : Type 0
ReceivesAreOfSide = (shut : Option ℕ) (side : OwnState) (p : OwnPort) (reply : Reply) → port_with_id side p.id.0 ≡ Some p → IsOfSide shut side (kept_ask (rx_call side p)) reply

abbrev pub FinishesAreOfSide : Type 0
FinishesAreOfSide = (shut : Option ℕ) (side : OwnState) (p : OwnPort) (reply : Reply) → port_with_id side p.id.0 ≡ Some p → IsOfSide shut side (kept_ask (finish_call side p)) reply
