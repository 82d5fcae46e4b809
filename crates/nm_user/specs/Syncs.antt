-- What a sync of a session does.
use Rattle.std.specs.Prelude.{ℕ, Bool, true, ◌≡◌, ◌⊎◌, ◌-◌, List, ◌∷◌, length, take, Option, Some, None, option_map, IsSome, IfSome}
use Rattle.std.specs.List.{AllByRecursion}
use Rattle.nm_types.specs.declared.fault.StepFault.{StepFault}
use Rattle.nm_types.specs.declared.fault.StepFault.TheVariants as steps
use Rattle.nm_types.specs.declared.fault.SyncFault.{SyncFault}
use Rattle.nm_types.specs.declared.fault.SyncFault.TheVariants.{PeerGone, RecordFull, NoMemory}
use Rattle.nm_types.specs.declared.id.Side.TheVariants.{Tx}
use Rattle.nm_types.specs.Names.{is_pipe_name}
use Rattle.nm_types.specs.OwnPorts.{OwnRing, OwnPort, OwnState, port_with_id, ring_at, pushed_count, refusal_in, refusal_at}
use Rattle.nm_turn.specs.Numbered.{numbered}
use Rattle.nm_turn.specs.Passes.{Told}
use Rattle.nm_turn.specs.Shares.{IsWhole}
use Rattle.vale_entry.specs.declared.entry.Ask.{Ask}
use Rattle.vale_entry.specs.declared.entry.Dest.{Dest}
use Rattle.vale_entry.specs.declared.entry.Item.{Item}
use Rattle.vale_entry.specs.declared.entry.Reply.{Reply}
use Rattle.vale_entry.specs.declared.entry.Reply.TheVariants.{Offered, Took}
use Rattle.vale_entry.specs.declared.entry.Reply.TheVariants as replies
use Rattle.vale_entry.specs.declared.entry.Entry.{Entry}
use Rattle.vale_entry.specs.Arrivals.{arrivals_of}
use Rattle.vale_entry.specs.OwnCalls.{own_by, tx_call}
use Rattle.vale_entry.specs.Legal.{kept_ask, session_and_reply, step}
use Rattle.vale_own.specs.Own.{own_of, is_settled_own}
use Rattle.vale_book.specs.Recorded.{Recorded, standing, HasRoom}
use Rattle.vale_fabric.specs.declared.settling.Shares.{Shares}
use Rattle.vale_fabric.specs.Roots.{root_of}
use Rattle.vale_fabric.specs.Fabrics.{record_in, entry_by}
use Rattle.vale_fabric.specs.Settling.{IsSettlingIn, AreShares}
use Rattle.vale_fabric.specs.Passing.{Passed, HasPassed}
use Rattle.nm_user.specs.declared.sending.Sent.{Sent}
use Rattle.nm_user.specs.Sessions.{SessionState, standing_seen}
use Rattle.nm_user.specs.Calls.{Made, MadeNone}

-- the book before the entry of a number, as the session has seen it since
abbrev pub before_number : SessionState → ℕ → Recorded
before_number s number = record_in s.fixed (take (number - 1) s.knows.seen)

-- the entry of this ask was made, with this reply, and behind it those that settle the session; what the
-- session has is what the entry makes of what it had
pub record Synced (s t : SessionState) (ask : Ask) (reply : Reply) (shares : Shares) : Type 0 where
  pub number : ℕ
  pub added : List (ℕ × Entry)
  pub told : Told root_of s.knows t.knows t.knows.seen ((number, entry_by s.id ask reply) ∷ added)
  pub steps : option_map session_and_reply (step (standing (before_number t number)) ask) ≡ Some (s.id, reply)
  pub room : HasRoom (before_number t number) ask
  pub settling : AllByRecursion (IsSettlingIn s.fixed s.id t.knows.seen) added
  pub shares_are : AreShares added shares
  pub whole : IsWhole s.knows.part → t.knows.mine ≡ numbered 1 t.knows.seen
  pub own : t.own ≡ own_by number (kept_ask ask) reply (arrivals_of (standing (before_number t number)) (kept_ask ask) reply) s.own
  pub fabric : t.fabric ≡ s.fabric
  pub fixed : t.fixed ≡ s.fixed
  pub id : t.id ≡ s.id
  pub user : t.user ≡ s.user
  pub settled : is_settled_own (own_of t.id (standing_seen t.fixed t.knows)) ≡ true

-- the session's user passed at a gate the stages of the leases that a call completed
abbrev pub PassesBy : SessionState → SessionState → Passed → Passed → Type 0
PassesBy s t before after = HasPassed s.user s.knows t.knows before after

-- the port of an id, with its transmit ring
pub record HasTx (own : OwnState) (id : ℕ) : Type 0 where
  pub port : OwnPort
  pub ring : OwnRing
  pub found : port_with_id own id ≡ Some port
  pub has : port.tx ≡ Some ring

-- the port has a transmit ring whose push no check refuses, and is a pipe's end or none
pub record PassesTx (is_pipe : Bool) (own : OwnState) (id : ℕ) : Type 0 where
  pub ring : IsSome (ring_at Tx own id)
  pub name : IfSome (port_with_id own id) (λ (p : OwnPort). is_pipe_name p.name ≡ is_pipe)
  pub passes : refusal_at Tx id own ≡ None

-- what the grants gave of a sync's frames
abbrev pub shares_in : Sent → Shares
shares_in sent = record { given = sent.given; full = sent.full; gone = sent.gone }

-- the frames pushed were sent, and what ports wanted of them was granted
pub record IsSent (s t : SessionState) (id : ℕ) (sent : Sent) : Type 0 where
  pub tx : HasTx s.own id
  pub to : List Dest
  pub synced : Synced s t (tx_call s.own tx.port tx.ring) (Offered sent.short sent.lone to) (shares_in sent)
  pub entry : sent.entry ≡ synced.number
  pub pushed : sent.pushed ≡ pushed_count tx.ring

-- they were not, and stay pushed
pub record IsUnsent (s t : SessionState) (id : ℕ) (fault : StepFault) : Type 0 where
  pub tx : HasTx s.own id
  pub none : MadeNone s t (tx_call s.own tx.port tx.ring) fault

-- the first frames offered to the other end of a pipe went there, with their buffers, and as many came
pub record IsPut (s t : SessionState) (id : ℕ) (sent : Sent) : Type 0 where
  pub tx : HasTx s.own id
  pub taken : List Item
  pub to : List Dest
  pub synced : Synced s t (tx_call s.own tx.port tx.ring) (Took taken to) (shares_in sent)
  pub entry : sent.entry ≡ synced.number
  pub pushed : sent.pushed ≡ length taken
  pub short : sent.short ≡ 0
  pub lone : sent.lone ≡ 0

-- a transmit sync of a switch's port, or of a pipe's end
abbrev pub IsTransmitted : SessionState → SessionState → ℕ → Sent → Type 0
IsTransmitted s t id sent = IsSent s t id sent ⊎ IsPut s t id sent

-- Why a sync of this call failed; `refusal` is that of its checks. That the other end of a pipe is gone
-- is an entry, and so is a reset. Want of room or memory is none, and changes nothing.
abbrev pub SyncsNot : SessionState → SessionState → Ask → Option SyncFault → SyncFault → Type 0
SyncsNot s t ask refusal PeerGone = (refusal ≡ None) × Made s t ask replies.PeerGone
SyncsNot s t ask refusal (RecordFull what used want) = MadeNone s t ask (steps.RecordFull what used want)
SyncsNot s t ask refusal NoMemory = MadeNone s t ask steps.NoMemory
SyncsNot s t ask refusal fault = (refusal ≡ Some fault) × Made s t ask replies.Made

pub record TransmitsNot (s t : SessionState) (id : ℕ) (fault : SyncFault) : Type 0 where
  pub tx : HasTx s.own id
  pub not : SyncsNot s t (tx_call s.own tx.port tx.ring) (refusal_in Tx s.own tx.port tx.ring) fault
