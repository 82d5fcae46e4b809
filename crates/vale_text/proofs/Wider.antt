-- What fits its fields fits 64 bits.
use Rattle.std.specs.List.{AllByRecursion as Each}
use Rattle.std.proofs.Common.{ℕ, List, arith}
use Rattle.nm_types.specs.declared.fault.OpenFault.{OpenFault}
use Rattle.nm_types.specs.declared.fault.OpenFault.TheVariants as refusals
use Rattle.nm_types.specs.declared.fault.SyncFault.{SyncFault}
use Rattle.nm_types.specs.declared.fault.SyncFault.TheVariants as faults
use Rattle.vale_entry.specs.declared.entry.Dest.{Dest}
use Rattle.vale_entry.specs.declared.entry.Item.{Item}
use Rattle.vale_entry.specs.declared.entry.Ask.{Ask}
use Rattle.vale_entry.specs.declared.entry.Ask.TheVariants as asks
use Rattle.vale_entry.specs.declared.entry.Reply.{Reply}
use Rattle.vale_entry.specs.declared.entry.Reply.TheVariants as replies
use Rattle.vale_entry.specs.declared.entry.Entry.{Entry}
use Rattle.vale_entry.proofs.Each.{each-weaker}
use Rattle.vale_entry.specs.Fits.{DestFits, RefusalFits, FaultFits, AskFits, ReplyFits, u64_widths}
use Rattle.vale_entry.specs.Fits as wide
use Rattle.vale_fields.specs.Widths.{Is16, Is32, FitsItem, FitsFields, field_widths}

pub wider : (n : ℕ) → Is32 n → wide.FitsU64 n
wider n h = omega (arith, h)

half-wider : (n : ℕ) → Is16 n → wide.FitsU64 n
half-wider n h = omega (arith, h)

numbers-wider : (ns : List ℕ) → Each Is32 ns → Each wide.FitsU64 ns
numbers-wider ns all = each-weaker Is32 wide.FitsU64 wider ns all

dests-wider : (ds : List Dest) → Each (DestFits field_widths) ds → Each (DestFits u64_widths) ds
dests-wider ds all = each-weaker (DestFits field_widths) (DestFits u64_widths) (λ d h. (wider d.to.0 h.0, wider d.count h.1)) ds all

items-wider : (is : List Item) → Each FitsItem is → Each wide.FitsItem is
items-wider is all = each-weaker FitsItem wide.FitsItem (λ i h. wider i.index h.0) is all

refusal-wider : (f : OpenFault) → RefusalFits field_widths f → RefusalFits u64_widths f
refusal-wider (refusals.NoBuffers want have) h = (wider want h.0, wider have h.1)
refusal-wider refusals.BadSize h = tt
refusal-wider refusals.SwitchesFull h = tt
refusal-wider refusals.PortsFull h = tt
refusal-wider refusals.NameTaken h = tt
refusal-wider (refusals.RecordFull what used want) h = tt
refusal-wider refusals.NoMemory h = tt

fault-wider : (f : SyncFault) → FaultFits field_widths f → FaultFits u64_widths f
fault-wider (faults.HeadOut a b c) h = (wider a h.0, wider b h.1, wider c h.2)
fault-wider (faults.CurOut a b c) h = (wider a h.0, wider b h.1, wider c h.2)
fault-wider (faults.Indirect a) h = wider a h
fault-wider (faults.IndexOut a b) h = (wider a h.0, wider b h.1)
fault-wider (faults.NotHeld a b) h = (wider a h.0, wider b h.1)
fault-wider (faults.Doubled a b) h = (wider a h.0, wider b h.1)
fault-wider (faults.Unannounced a b c) h = (wider a h.0, wider b h.1, wider c h.2)
fault-wider (faults.LongLen a b) h = (wider a h.0, half-wider b h.1)
fault-wider (faults.Fragment a) h = wider a h
fault-wider faults.PeerGone h = tt
fault-wider (faults.RecordFull what used want) h = tt
fault-wider faults.NoMemory h = tt

ask-wider : (a : Ask) → AskFits field_widths a → AskFits u64_widths a
ask-wider (asks.Enter user) h = h
ask-wider (asks.Open asked name tx rx extra) h = (wider tx h.0, wider rx h.1, wider extra h.2)
ask-wider (asks.Send port frames) h = wider port.0 h.0
ask-wider (asks.Grant origin to) h = (wider origin h.0, wider to.0 h.1)
ask-wider (asks.Done lease) h = wider lease.0 h
ask-wider (asks.Sync port back) h = (wider port.0 h.0, numbers-wider back h.1)
ask-wider (asks.Reset port side fault) h = (wider port.0 h.0, fault-wider fault h.1)
ask-wider (asks.Shut port) h = wider port.0 h
ask-wider (asks.Finish port bufs chain) h = (wider port.0 h.0, numbers-wider bufs h.1, wider chain.found h.2, wider chain.astray h.3)
ask-wider (asks.Leave left) h = tt
ask-wider (asks.Put port offered) h = tt
ask-wider (asks.PutKept port offered) h = (wider port.0 h.0, wider offered h.1)
ask-wider (asks.Get port back) h = (wider port.0 h.0, numbers-wider back h.1)
ask-wider (asks.Watch monitor target sides) h = wider monitor.0 h
ask-wider (asks.Stat port) h = wider port.0 h

reply-wider : (r : Reply) → ReplyFits field_widths r → ReplyFits u64_widths r
reply-wider replies.Made h = tt
reply-wider replies.Opened h = tt
reply-wider (replies.Refused fault) h = refusal-wider fault h
reply-wider (replies.Offered short lone to) h = (wider short h.0, wider lone h.1, dests-wider to h.2)
reply-wider (replies.Shared given full gone) h = (wider given h.0, wider full h.1, wider gone h.2)
reply-wider (replies.Gave count to) h = (wider count h.0, dests-wider to h.1)
reply-wider (replies.Took items to) h = (items-wider items h.0, dests-wider to h.1)
reply-wider replies.PeerGone h = tt
reply-wider (replies.Unread count) h = wider count h
reply-wider (replies.LeasesOut n) h = tt
reply-wider (replies.Watching target) h = wider target.0 h
reply-wider replies.NoTarget h = tt
reply-wider (replies.Watched by) h = wider by.0 h
reply-wider (replies.Counted counts) h = h

pub entry-wider : (e : Entry) → FitsFields e → wide.FitsEntry e
entry-wider e h = (wider e.session.0 h.0, ask-wider e.ask h.1, reply-wider e.reply h.2)
