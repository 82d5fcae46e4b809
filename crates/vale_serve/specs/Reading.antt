-- A sync, or a get, of a session.
use Rattle.std.specs.Prelude.{ℕ, Bool, true, false, ◌≡◌, ◌≤◌, ◌&&◌, ◌||◌, nat_le, if◌then◌else◌, List, [], length, vec_capacity}
use Rattle.nm_types.specs.Names.{is_switch_port_name, is_pipe_name, is_monitor_name}
use Rattle.vale_book.specs.declared.asking.PortSeen.{PortSeen}
use Rattle.vale_book.specs.declared.asking.Ready.{Ready}
use Rattle.vale_serve.specs.declared.users.User.{User}
use Rattle.vale_serve.specs.declared.reading.ReadRoom.{ReadRoom}
use Rattle.vale_serve.specs.Buffers.{holds_all}
use Rattle.vale_serve.specs.Users.{is_settled_user}

-- a pipe end is read by a get, any other port by a sync
abbrev pub is_read_so : Bool → List ℕ → Bool
is_read_so true name = is_pipe_name name
is_read_so false name = is_switch_port_name name || is_monitor_name name

-- the session is settled, and brings back buffers of its own, no more than are out
abbrev pub can_read : Bool → List ℕ → User → PortSeen → Bool
can_read is_pipe back user seen =
    is_read_so is_pipe seen.name && (is_settled_user user && (nat_le (length back) seen.out && holds_all user.bufs.items back))

-- the frames that are ready, of these sizes, are copied where a monitor is offered them
abbrev pub copied_sizes : Ready → List ℕ → List ℕ
copied_sizes ready sizes = if ready.is_watched then sizes else []

-- memory for so many buffers that come back, and for what is offered
pub record IsReadRoom (sizes named : List ℕ) (room : ReadRoom) : Type 0 where
  pub none : room.back.items ≡ []
  pub back : length named ≤ vec_capacity room.back
  pub copies : room.copies ≡ sizes
  pub no_dests : room.to.items ≡ []
  pub dests : 1 ≤ vec_capacity room.to
