-- Frames that a session offers to a pipe's other end.
use Rattle.std.specs.Prelude.{ℕ, Bool, ◌≡◌, ◌≤◌, ◌==◌, ◌&&◌, nat_le, List, [], ◌++◌, length, Vec, vec_capacity, Option, Some, Result, Ok, Err}
use Rattle.std.specs.List.{list_all, AllByRecursion}
use Rattle.std.specs.declared.alloc.Global.{Global}
use Rattle.nm_types.specs.Limits.{most_batch}
use Rattle.nm_types.specs.Names.{is_pipe_name}
use Rattle.nm_types.specs.declared.fault.StepFault.{StepFault}
use Rattle.nm_types.specs.declared.fault.StepFault.TheVariants as steps
use Rattle.nm_region.specs.Buffers.{Buffer}
use Rattle.vale_line.specs.declared.got.Got.{Got}
use Rattle.vale_line.specs.Gots.{buffers_of, IsSingle}
use Rattle.vale_entry.specs.declared.entry.Item.{Item}
use Rattle.vale_entry.specs.declared.entry.Reply.{Reply}
use Rattle.vale_entry.specs.declared.entry.Reply.TheVariants as replies
use Rattle.vale_entry.specs.Pipe.{indices_of, frames_of_items, is_pipe_item}
use Rattle.vale_port.specs.Kept.{bytes_of}
use Rattle.vale_book.specs.BookView.{AreOf}
use Rattle.vale_book.specs.Offering.{OffersState}
use Rattle.vale_book.specs.Putting.{items_of}
use Rattle.vale_book.specs.declared.asking.PortSeen.{PortSeen}
use Rattle.vale_book.specs.declared.fault.PutFault.{PutFault}
use Rattle.vale_book.specs.declared.fault.PutFault.TheVariants.{PeerGone, RecordFull, NoMemory}
use Rattle.vale_serve.specs.declared.users.User.{User}
use Rattle.vale_serve.specs.declared.putting.PutRoom.{PutRoom}
use Rattle.vale_serve.specs.Buffers.{holds, holds_all}
use Rattle.vale_serve.specs.Exchange.{HasMore}
use Rattle.vale_serve.specs.Users.{contents, is_settled_user, HasSent}

-- the frame is in the buffer of this index
abbrev pub is_in : ℕ → Item → Bool
is_in index item = item.index == index

-- and its buffer is one of these
abbrev pub is_held : List Buffer → Item → Bool
is_held bufs item = holds bufs item.index

-- the bytes of the frames
abbrev pub bytes_in : List Item → List (List ℕ)
bytes_in items = bytes_of (frames_of_items items)

-- a settled session offers frames in buffers of its own from a pipe end
abbrev pub can_put : List Item → User → PortSeen → Bool
can_put offered user seen =
    (is_pipe_name seen.name
    && (is_settled_user user && (list_all is_pipe_item offered && holds_all user.bufs.items (indices_of offered))))
    && nat_le (length offered) most_batch

-- the frames lie in these buffers
pub record AreFramed (bufs : List Buffer) (offered : List Item) (gots : List Got) : Type 0 where
  pub items : items_of gots ≡ offered
  pub single : AllByRecursion IsSingle gots
  pub region_is : (region : ℕ) → AreOf region bufs → AreOf region (buffers_of gots)

-- copies of what is offered, and memory for the buffers that go
pub record IsPutRoom (offered : List Item) (room : PutRoom) : Type 0 where
  pub named : room.named.items ≡ indices_of offered
  pub items : room.items.items ≡ offered
  pub frames : contents room.frames.items ≡ bytes_in offered
  pub no_dests : room.to.items ≡ []
  pub dests : 1 ≤ vec_capacity room.to
  pub no_bufs : room.bufs.items ≡ []
  pub bufs : length offered ≤ vec_capacity room.bufs
  pub none : room.pending.items ≡ []
  pub pending : length offered ≤ vec_capacity room.pending

-- that the other end is not open is answered, and a fault of the record is an error
abbrev pub unput : PutFault → Result (Option Reply) StepFault
unput PeerGone = Ok (Some replies.PeerGone)
unput (RecordFull what used want) = Err (steps.RecordFull what used want)
unput NoMemory = Err steps.NoMemory

-- the session has the buffers of what was not taken and those that came, and what is offered of the
-- frames that were
pub record HasPut (old : User) (left : List Got) (back : List Buffer) (offers : OffersState) (frames : List (List ℕ)) (new : User) : Type 0 where
  pub between : User
  pub more : HasMore old (buffers_of left ++ back) between
  pub kept : Vec (Vec ℕ Global) Global
  pub kept_are : contents kept.items ≡ frames
  pub sent : HasSent between offers kept new
