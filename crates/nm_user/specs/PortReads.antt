-- What a history that goes on tells of the reads at a session's port.
use Rattle.std.specs.Prelude.{ℕ, Bool, false, ◌≡◌, ◌≤◌, ◌==◌, List, ◌++◌, length, Some, None, All}
use Rattle.vale_entry.specs.declared.entry.Ask.{Ask}
use Rattle.vale_entry.specs.declared.entry.Ask.TheVariants.{Sync, Get}
use Rattle.vale_entry.specs.declared.entry.Entry.{Entry}
use Rattle.vale_entry.specs.World.{Port}
use Rattle.vale_entry.specs.Legal.{world_of, IsLegal}
use Rattle.vale_entry.specs.Delivered.{port_at, read_frames}
use Rattle.nm_user.specs.declared.receiving.Received.{Received}
use Rattle.nm_user.specs.Sessions.{SessionState, IsThere}
use Rattle.nm_user.specs.Receives.{HasPort, IsReceived}
use Rattle.nm_user.specs.Saving.{read_of}

-- whether an ask reads at a port
abbrev pub reads_at : ℕ → Ask → Bool
reads_at id (Sync port back) = port.0 == id
reads_at id (Get port back) = port.0 == id
reads_at id _ = false

-- after a history the port of an id is the session's, or has gone
pub record IsPortOf (pool : ℕ) (history : List Entry) (session id : ℕ) : Type 0 where
  pub given : id ≤ length history
  pub owner : (port : Port) → port_at (world_of pool history).ports id ≡ Some port → port.session ≡ session

-- the entry is another session's, or reads nothing there
abbrev pub ReadsNot : ℕ → ℕ → Entry → Type 0
ReadsNot session id entry = entry.session.0 ≡ session → reads_at id entry.ask ≡ false

-- a port of a session's own side is the session's
abbrev pub PortsAreOwn : Type 0
PortsAreOwn = (s : SessionState) (id : ℕ) → IsThere None s → HasPort s.own id → IsPortOf s.fixed.pool s.knows.seen s.id id

-- and stays so until it has gone; its id is never another's
abbrev pub PortsStayOwn : Type 0
PortsStayOwn = (pool : ℕ) (past more : List Entry) (session id : ℕ) → IsPortOf pool past session id → IsPortOf pool (past ++ more) session id

-- over entries that read nothing there, what was read there stays
abbrev pub ReadsStay : Type 0
ReadsStay =
    (pool : ℕ) (past more : List Entry) (session id : ℕ) → IsLegal pool (past ++ more) → IsPortOf pool past session id
    → All (ReadsNot session id) more → read_frames pool (past ++ more) id ≡ read_frames pool past id

-- a receive sync adds what its entry reads
abbrev pub ReadsGrow : Type 0
ReadsGrow =
    (s t : SessionState) (id : ℕ) (received : Received) → IsThere None s → IsThere None t → IsReceived s t id received
    → read_frames t.fixed.pool t.knows.seen id
    ≡ read_frames s.fixed.pool s.knows.seen id ++ read_of t.fixed.pool t.knows.seen id received.entry
