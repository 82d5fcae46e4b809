-- What a receive sync of a session does.
use Rattle.std.specs.Prelude.{ℕ, ◌≡◌, List, Some}
use Rattle.nm_types.specs.declared.fault.SyncFault.{SyncFault}
use Rattle.nm_types.specs.declared.id.Side.{Side}
use Rattle.nm_types.specs.declared.id.Side.TheVariants.{Tx, Rx}
use Rattle.nm_types.specs.OwnPorts.{OwnPort, OwnState, port_with_id, pushed_count, refusal_in}
use Rattle.vale_entry.specs.declared.entry.Dest.{Dest}
use Rattle.vale_entry.specs.declared.entry.Reply.TheVariants.{Gave}
use Rattle.vale_entry.specs.OwnCalls.{rx_call}
use Rattle.vale_fabric.specs.declared.settling.Shares.{Shares}
use Rattle.nm_user.specs.declared.receiving.Received.{Received}
use Rattle.nm_user.specs.Sessions.{SessionState}
use Rattle.nm_user.specs.Syncs.{Synced, SyncsNot, TransmitsNot}

pub record HasPort (own : OwnState) (id : ℕ) : Type 0 where
  pub port : OwnPort
  pub found : port_with_id own id ≡ Some port

-- the buffers of the slots pushed went back, and the frames that were ready came; what a monitor wants of
-- them was granted
pub record IsReceived (s t : SessionState) (id : ℕ) (received : Received) : Type 0 where
  pub at : HasPort s.own id
  pub to : List Dest
  pub shares : Shares
  pub synced : Synced s t (rx_call s.own at.port) (Gave received.gave to) shares
  pub entry : received.entry ≡ synced.number
  pub returned : received.returned ≡ pushed_count at.port.rx

pub record ReceivesNot (s t : SessionState) (id : ℕ) (fault : SyncFault) : Type 0 where
  pub at : HasPort s.own id
  pub not : SyncsNot s t (rx_call s.own at.port) (refusal_in Rx s.own at.port at.port.rx) fault

-- why a sync of a port's ring failed
abbrev pub RingNot : Side → SessionState → SessionState → ℕ → SyncFault → Type 0
RingNot Tx s t id fault = TransmitsNot s t id fault
RingNot Rx s t id fault = ReceivesNot s t id fault
