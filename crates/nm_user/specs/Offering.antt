-- The frames that a put offers, in their buffers, which are lent out of an own side.
use Rattle.std.specs.Prelude.{ℕ, ◌≡◌, ◌≤◌, List, [], ◌∷◌, length}
use Rattle.std.specs.Vec.{vec_capacity}
use Rattle.nm_region.specs.Buffers.{Buffer}
use Rattle.nm_types.specs.declared.fault.SyncFault.{SyncFault}
use Rattle.nm_types.specs.declared.fault.SyncFault.TheVariants as sync
use Rattle.nm_types.specs.OwnSyncs.{own_after_put}
use Rattle.nm_own.specs.LentOffers.{IsLentOffers, CanBeTaken}
use Rattle.nm_port.specs.Regions.{SideState}
use Rattle.vale_line.specs.declared.got.Got.{Got}
use Rattle.vale_line.specs.Gots.{buffers_of}
use Rattle.vale_book.specs.declared.fault.PutFault.{PutFault}
use Rattle.vale_book.specs.declared.fault.PutFault.TheVariants.{PeerGone, RecordFull, NoMemory}
use Rattle.nm_user.specs.declared.putting.OfferRoom.TheInside.{Inside}
use Rattle.nm_user.specs.declared.putting.Offering.{Offering}

-- buffers, each with a frame of so many bytes in its first ones
abbrev pub gots_of : List Buffer → List ℕ → List Got
gots_of [] lens = []
gots_of (buf ∷ bufs) [] = []
gots_of (buf ∷ bufs) (len ∷ lens) = record { buf = buf; len = len; rest = 0 } ∷ gots_of bufs lens

-- the memory for frames of these lengths is not used yet
pub record IsOfferRoom (r : Inside) : Type 0 where
  pub notes : r.notes.items ≡ []
  pub bufs : r.bufs.items ≡ []
  pub pending : r.pending.items ≡ []
  pub notes_room : length r.lengths.items ≤ vec_capacity r.notes
  pub bufs_room : length r.lengths.items ≤ vec_capacity r.bufs
  pub pending_room : length r.lengths.items ≤ vec_capacity r.pending

-- what a session had, whose put is not made yet, and the frames that it offers, with room to take their
-- buffers back
pub record IsOffering (s : SideState) (o : Offering) : Type 0 where
  pub lent : IsLentOffers s (buffers_of o.pending.items) o.lent
  pub empty : o.bufs.items ≡ []
  pub room : length o.pending.items ≤ vec_capacity o.bufs

-- the first of these frames can be taken, for which these buffers came
pub record CanTake (s : SideState) (offered : List Got) (o : Offering) (came : List Buffer) : Type 0 where
  pub lent : CanBeTaken s (buffers_of offered) (buffers_of o.pending.items) came o.lent
  pub empty : o.bufs.items ≡ []
  pub room : length o.pending.items ≤ vec_capacity o.bufs

-- the refusal of a put, as a sync names it
abbrev pub sync_fault_of_put : PutFault → SyncFault
sync_fault_of_put PeerGone = sync.PeerGone
sync_fault_of_put (RecordFull what used want) = sync.RecordFull what used want
sync_fault_of_put NoMemory = sync.NoMemory

-- what stands after it: where the other end is gone the push is accepted
abbrev pub side_after_fault : PutFault → ℕ → SideState → SideState
side_after_fault PeerGone id s = record s { own = own_after_put id [] s.own }
side_after_fault (RecordFull what used want) id s = s
side_after_fault NoMemory id s = s
