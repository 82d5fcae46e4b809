-- The numbers of an entry fit where they are written or kept. `decimal` writes the last 64 digits
-- of a number, so it tells numbers below 2^64 apart. Those of a legal history are below 2^64, if it
-- has fewer than 2^32 entries and its pool fewer buffers.
use Rattle.std.specs.Prelude.{ℕ, ◌<◌, ◌^◌, List}
use Rattle.std.specs.List.{AllByRecursion}
use Rattle.nm_types.specs.Frames.{Frame}
use Rattle.nm_types.specs.declared.fault.OpenFault.{OpenFault}
use Rattle.nm_types.specs.declared.fault.OpenFault.TheVariants.{NoBuffers}
use Rattle.nm_types.specs.declared.fault.SyncFault.{SyncFault}
use Rattle.nm_types.specs.declared.fault.SyncFault.TheVariants.{HeadOut, CurOut, Indirect, IndexOut, NotHeld, Doubled, Unannounced, LongLen, Fragment}
use Rattle.nm_types.specs.declared.id.Counts.{Counts}
use Rattle.nm_types.specs.declared.id.PortId.{PortId}
use Rattle.vale_entry.specs.declared.entry.Dest.{Dest}
use Rattle.vale_entry.specs.declared.entry.Item.{Item}
use Rattle.vale_entry.specs.declared.entry.Ask.{Ask}
use Rattle.vale_entry.specs.declared.entry.Ask.TheVariants.{Enter, Open, Send, Grant, Done, Sync, Reset, Shut, Finish, PutKept, Get, Watch, Stat}
use Rattle.vale_entry.specs.declared.entry.Reply.{Reply}
use Rattle.vale_entry.specs.declared.entry.Reply.TheVariants.{Refused, Offered, Shared, Gave, Took, Unread, Watching, Watched, Counted}
use Rattle.vale_entry.specs.declared.entry.Entry.{Entry}

-- what fits: a fault's length, another number, a user's or a counter's number, what a Send sends,
-- and an item of a pipe
pub record Widths : Type 1 where
  pub IsLength : ℕ → Type 0
  pub IsNumber : ℕ → Type 0
  pub IsWide : ℕ → Type 0
  pub IsSent : PortId → List Frame → Type 0
  pub IsItem : Item → Type 0

abbrev pub DestFits : Widths → Dest → Type 0
DestFits w dest = w.IsNumber dest.to.0 × w.IsNumber dest.count

abbrev pub RefusalFits : Widths → OpenFault → Type 0
RefusalFits w (NoBuffers want have) = w.IsNumber want × w.IsNumber have
RefusalFits w _ = Unit {0}

abbrev pub FaultFits : Widths → SyncFault → Type 0
FaultFits w (HeadOut head from to) = w.IsNumber head × w.IsNumber from × w.IsNumber to
FaultFits w (CurOut cur from to) = w.IsNumber cur × w.IsNumber from × w.IsNumber to
FaultFits w (Indirect slot) = w.IsNumber slot
FaultFits w (IndexOut slot idx) = w.IsNumber slot × w.IsNumber idx
FaultFits w (NotHeld slot idx) = w.IsNumber slot × w.IsNumber idx
FaultFits w (Doubled slot idx) = w.IsNumber slot × w.IsNumber idx
FaultFits w (Unannounced slot idx was) = w.IsNumber slot × w.IsNumber idx × w.IsNumber was
FaultFits w (LongLen slot len) = w.IsNumber slot × w.IsLength len
FaultFits w (Fragment slot) = w.IsNumber slot
FaultFits w _ = Unit {0}

abbrev pub AskFits : Widths → Ask → Type 0
AskFits w (Enter user) = w.IsWide user
AskFits w (Open asked name tx rx extra) = w.IsNumber tx × w.IsNumber rx × w.IsNumber extra
AskFits w (Send port frames) = w.IsSent port frames
AskFits w (Grant origin to) = w.IsNumber origin × w.IsNumber to.0
AskFits w (Done lease) = w.IsNumber lease.0
AskFits w (Sync port back) = w.IsNumber port.0 × AllByRecursion w.IsNumber back
AskFits w (Reset port side fault) = w.IsNumber port.0 × FaultFits w fault
AskFits w (Shut port) = w.IsNumber port.0
AskFits w (Finish port bufs chain) =
    w.IsNumber port.0 × AllByRecursion w.IsNumber bufs × w.IsNumber chain.found
    × w.IsNumber chain.astray
AskFits w (PutKept port offered) = w.IsNumber port.0 × w.IsNumber offered
AskFits w (Get port back) = w.IsNumber port.0 × AllByRecursion w.IsNumber back
AskFits w (Watch monitor target sides) = w.IsNumber monitor.0
AskFits w (Stat port) = w.IsNumber port.0
AskFits w _ = Unit {0}

abbrev pub CountsFits : Widths → Counts → Type 0
CountsFits w counts =
    w.IsWide counts.sent × w.IsWide counts.short × w.IsWide counts.lone × w.IsWide counts.given
    × w.IsWide counts.full × w.IsWide counts.read

abbrev pub ReplyFits : Widths → Reply → Type 0
ReplyFits w (Refused fault) = RefusalFits w fault
ReplyFits w (Offered short lone to) =
    w.IsNumber short × w.IsNumber lone × AllByRecursion (DestFits w) to
ReplyFits w (Shared given full gone) = w.IsNumber given × w.IsNumber full × w.IsNumber gone
ReplyFits w (Gave count to) = w.IsNumber count × AllByRecursion (DestFits w) to
ReplyFits w (Took items to) = AllByRecursion w.IsItem items × AllByRecursion (DestFits w) to
ReplyFits w (Unread count) = w.IsNumber count
ReplyFits w (Watching target) = w.IsNumber target.0
ReplyFits w (Watched by) = w.IsNumber by.0
ReplyFits w (Counted counts) = CountsFits w counts
ReplyFits w _ = Unit {0}

-- each number of an entry fits
abbrev pub EntryFits : Widths → Entry → Type 0
EntryFits w entry = w.IsNumber entry.session.0 × AskFits w entry.ask × ReplyFits w entry.reply

-- in the text of a line each has 64 bits
abbrev pub FitsU64 : ℕ → Type 0
FitsU64 n = n < 2 ^ 64

abbrev pub FitsItem : Item → Type 0
FitsItem item = FitsU64 item.index

abbrev pub u64_widths : Widths
u64_widths = record {
  IsLength = FitsU64;
  IsNumber = FitsU64;
  IsWide = FitsU64;
  IsSent = λ port _. FitsU64 port.0;
  IsItem = FitsItem;
}

-- the numbers of an entry's line are below 2^64
abbrev pub FitsEntry : Entry → Type 0
FitsEntry entry = EntryFits u64_widths entry
