-- What a whole history says of its frames and buffers.
use Rattle.std.specs.Prelude.{ℕ, ◌≡◌, ◌≢◌, ◌+◌, List, length, sum, take, slice_get, Some}
use Rattle.std.specs.List.{AllByRecursion}
use Rattle.nm_types.specs.Frames.{Frame, size_of_frames}
use Rattle.nm_types.specs.declared.id.PortId.{PortId}
use Rattle.vale_entry.specs.declared.entry.Ask.TheVariants.{Send}
use Rattle.vale_entry.specs.declared.entry.Entry.{Entry}
use Rattle.vale_entry.specs.World.{Port, open_port}
use Rattle.vale_entry.specs.Offers.{dests_in}
use Rattle.vale_entry.specs.Leases.{leases_granted, leases_ended, leases_standing}
use Rattle.vale_entry.specs.Counters.{counts_of}
use Rattle.vale_entry.specs.Counted.{counts_told}
use Rattle.vale_entry.specs.Holdings.{IsParted, Agrees}
use Rattle.vale_entry.specs.Legal.{world_of, holdings_of}
use Rattle.vale_entry.specs.Delivered.{port_at, brought_to, put_by, given_frames, given_counts, read_frames, read_counts, returned_counts, unread_counts}
use Rattle.vale_entry.specs.Fate.{wanted_at, offers_at, share_in, shares_at, granted_at, Pending, fates_at, puts_at, given_of, entries_of, brought_between}
use Rattle.vale_entry.specs.DeliveryLaws.{IsReadInOrder, IsBroughtFor, IsPutOnce, AreSharedOnce, HaveFates, HasCause, AreCounted, AreInSenderOrder, AreJustWanting, IsToldOfSend, AreDoneOnce}

-- before each entry, and after the last one, each buffer has exactly one owner: the pool, a port or a
-- session
pub record HaveOneOwner (pool : ℕ) (history : List Entry) : Type 0 where
  pub parted : IsParted pool (holdings_of pool history)
  pub agrees : Agrees (world_of pool history) (holdings_of pool history)

-- Each port has read what it was given, in order, but for the last frames, which its Finish counts. A
-- frame is given only where an entry wants it, or where a pipe's other end put it; every other wanted
-- frame was dropped for a cause, and counted. A sender's frames keep their order. A reply names just the
-- ports that want something of its entry; a frame that is short, or that no port of the switch wants, is
-- named for none and counted. A lease that was granted is done once. At every entry a port's counters are
-- what the entries before it tell, and what is out there is what it read less what it brought back.
pub record Delivers (pool : ℕ) (history : List Entry) : Type 0 where
  pub read_in_order : (port : ℕ) → IsReadInOrder (given_frames pool history port) (read_frames pool history port) (port_at (world_of pool history).ports port) (unread_counts history port)
  pub given_where_wanted : (port : ℕ) → AllByRecursion (IsBroughtFor pool history port) (brought_to pool history port)
  pub put_once : (number to : ℕ) → IsPutOnce (puts_at pool history number to) (wanted_at pool history number to)
  pub shared_once : (number to : ℕ) → AreSharedOnce (wanted_at pool history number to) (offers_at (world_of pool history) number to) (shares_at history number to) (granted_at pool history number to)
  pub dropped_counted : (number to : ℕ) → HaveFates (fates_at pool history number to) (wanted_at pool history number to) (shares_at history number to)
  pub dropped_for_cause : (count : ℕ) (entry : Entry) → slice_get history count ≡ Some entry → (number to : ℕ)
      → AllByRecursion (HasCause (open_port (world_of pool (take count history)).ports to) (wanted_at pool (take count history) number to)) (share_in number to entry)
  pub replies_count : (port : ℕ) → AreCounted (brought_to pool history port) (given_counts pool history port) (read_frames pool history port) (read_counts history port)
  pub in_sender_order : (from to : ℕ) → AreInSenderOrder (length history) (entries_of pool history from) (brought_between pool history from to) (λ number. given_of pool history number to)
  pub none_pending : (number to : ℕ) → AllByRecursion (λ fate. fate ≢ Pending) (fates_at pool history number to)
  pub named_wanting : (count : ℕ) (entry : Entry) → slice_get history count ≡ Some entry
      → AreJustWanting (world_of pool (take count history)) (wanted_at pool history (count + 1)) (dests_in entry.reply)
  pub short_and_lone : (count : ℕ) (entry : Entry) → slice_get history count ≡ Some entry → (from : PortId) (frames : List Frame) → entry.ask ≡ Send from frames
      → IsToldOfSend (world_of pool (take count history)) from.0 frames entry.reply
  pub put_as_told : (count : ℕ) (entry : Entry) → slice_get history count ≡ Some entry → (to : ℕ)
      → puts_at pool history (count + 1) to ≡ put_by to (world_of pool (take count history)) entry.ask entry.reply
  pub leases_done_once : (count : ℕ)
      → AreDoneOnce (length (take count history)) (leases_granted (take count history)) (leases_ended (take count history)) (leases_standing (world_of pool (take count history)).ports)
  pub out_counted : (count id : ℕ) (port : Port) → port_at (world_of pool (take count history)).ports id ≡ Some port
      → port.out + sum (returned_counts (take count history) id) ≡ size_of_frames (read_frames pool (take count history) id)
  pub counters_are_sums : (count id : ℕ) (port : Port) → port_at (world_of pool (take count history)).ports id ≡ Some port
      → counts_of (world_of pool (take count history)).counts id ≡ counts_told pool (take count history) id
  pub one_owner : (count : ℕ) → HaveOneOwner pool (take count history)
