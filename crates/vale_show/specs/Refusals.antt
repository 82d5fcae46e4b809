-- The entries that did nothing, in words: an opening or a sync that was refused, a put to a pipe whose
-- other end is not open, and a watch of nothing.
use Rattle.std.specs.Prelude.{ℕ, ◌+◌, List, [], ◌∷◌, ◌++◌, codes, decimal}
use Rattle.nm_types.specs.declared.fault.OpenFault.{OpenFault}
use Rattle.nm_types.specs.declared.fault.OpenFault.TheVariants as openings
use Rattle.nm_types.specs.declared.fault.SyncFault.{SyncFault}
use Rattle.nm_types.specs.declared.fault.SyncFault.TheVariants as syncs
use Rattle.nm_types.specs.declared.id.Side.{Side}
use Rattle.nm_types.specs.declared.id.Side.TheVariants.{Tx, Rx}
use Rattle.vale_entry.specs.declared.entry.Ask.{Ask}
use Rattle.vale_entry.specs.declared.entry.Ask.TheVariants.{Open, Reset, PutKept, Watch}
use Rattle.vale_entry.specs.declared.entry.Reply.{Reply}
use Rattle.vale_entry.specs.declared.entry.Reply.TheVariants.{Refused, PeerGone, NoTarget, Watched}
use Rattle.vale_entry.specs.declared.entry.Entry.{Entry}

-- Why an opening was refused. The last two make no entry.
unfoldable pub no_buffers_words : ℕ → ℕ → List ℕ
no_buffers_words want have = decimal want ++ codes " buffers are wanted, and " ++ decimal have ++ codes " are free\n"

abbrev pub open_words : OpenFault → List ℕ
open_words openings.BadSize = codes "a size is out of range\n"
open_words openings.SwitchesFull = codes "there are as many switches as there may be\n"
open_words openings.PortsFull = codes "there are as many ports of this kind as there may be\n"
open_words openings.NameTaken = codes "a port of this name is there\n"
open_words (openings.NoBuffers want have) = no_buffers_words want have
open_words (openings.RecordFull what used want) = codes "the record is full\n"
open_words openings.NoMemory = codes "out of memory\n"

-- Why a sync was refused. The last three make no entry of a reset.
unfoldable pub position_words : List ℕ → ℕ → ℕ → ℕ → List ℕ
position_words position at from to = position ++ codes " " ++ decimal at ++ codes " is not between " ++ decimal from ++ codes " and the tail " ++ decimal to ++ codes "\n"

unfoldable pub slot_words : ℕ → List ℕ → List ℕ
slot_words slot words = codes "slot " ++ decimal slot ++ words

unfoldable pub index_words : ℕ → ℕ → List ℕ → List ℕ
index_words slot idx words = codes "slot " ++ decimal slot ++ codes " names buffer " ++ decimal idx ++ words

unfoldable pub unannounced_words : ℕ → ℕ → ℕ → List ℕ
unannounced_words slot idx was =
    codes "slot " ++ decimal slot ++ codes " names buffer " ++ decimal idx ++ codes " in place of " ++ decimal was ++ codes " without NS_BUF_CHANGED\n"

unfoldable pub long_words : ℕ → ℕ → List ℕ
long_words slot len = codes "slot " ++ decimal slot ++ codes " has " ++ decimal len ++ codes " bytes, more than a buffer\n"

abbrev pub reset_words : SyncFault → List ℕ
reset_words (syncs.HeadOut head from to) = position_words (codes "head") head from to
reset_words (syncs.CurOut cur from to) = position_words (codes "cur") cur from to
reset_words (syncs.Indirect slot) = slot_words slot (codes " is marked NS_INDIRECT\n")
reset_words (syncs.IndexOut slot idx) = index_words slot idx (codes ", which is none of the pool\n")
reset_words (syncs.NotHeld slot idx) = index_words slot idx (codes ", which the session does not hold in a place\n")
reset_words (syncs.Doubled slot idx) = index_words slot idx (codes ", as an earlier slot does\n")
reset_words (syncs.Unannounced slot idx was) = unannounced_words slot idx was
reset_words (syncs.LongLen slot len) = long_words slot len
reset_words (syncs.Fragment slot) = slot_words slot (codes " is marked NS_MOREFRAG\n")
reset_words syncs.PeerGone = codes "the pipe's other end is not open\n"
reset_words (syncs.RecordFull what used want) = codes "the record is full\n"
reset_words syncs.NoMemory = codes "out of memory\n"

-- Which entry did nothing.
abbrev pub ring_words : Side → List ℕ
ring_words Tx = codes "transmit"
ring_words Rx = codes "receive"

unfoldable pub opening_start : ℕ → ℕ → List ℕ → List ℕ
opening_start number session name = codes "entry " ++ decimal number ++ codes ": session " ++ decimal session ++ codes " opens no " ++ name ++ codes ": "

unfoldable pub reset_start : ℕ → ℕ → ℕ → List ℕ → List ℕ
reset_start number session port ring =
    codes "entry " ++ decimal number ++ codes ": session " ++ decimal session ++ codes " syncs no " ++ ring ++ codes " ring of port " ++ decimal port ++ codes ": "

unfoldable pub peer_gone_line : ℕ → ℕ → ℕ → List ℕ
peer_gone_line number session port =
    codes "entry " ++ decimal number ++ codes ": session " ++ decimal session ++ codes " puts nothing from port " ++ decimal port ++ codes ": the pipe's other end is not open\n"

unfoldable pub no_target_line : ℕ → ℕ → ℕ → List ℕ → List ℕ
no_target_line number session monitor target =
    codes "entry " ++ decimal number ++ codes ": session " ++ decimal session ++ codes " watches nothing by port " ++ decimal monitor
    ++ codes ": no open port has the name " ++ target ++ codes "\n"

unfoldable pub watched_line : ℕ → ℕ → ℕ → List ℕ → ℕ → List ℕ
watched_line number session monitor target by =
    codes "entry " ++ decimal number ++ codes ": session " ++ decimal session ++ codes " watches nothing by port " ++ decimal monitor ++ codes ": " ++ target
    ++ codes " is watched by port " ++ decimal by ++ codes "\n"

abbrev pub opening_text : ℕ → ℕ → List ℕ → Reply → List ℕ
opening_text number session name (Refused fault) = opening_start number session name ++ open_words fault
opening_text number session name _ = []

abbrev pub reset_text : ℕ → ℕ → ℕ → Side → SyncFault → List ℕ
reset_text number session port side fault = reset_start number session port (ring_words side) ++ reset_words fault

abbrev pub put_text : ℕ → ℕ → ℕ → Reply → List ℕ
put_text number session port PeerGone = peer_gone_line number session port
put_text number session port _ = []

abbrev pub watch_text : ℕ → ℕ → ℕ → List ℕ → Reply → List ℕ
watch_text number session monitor target NoTarget = no_target_line number session monitor target
watch_text number session monitor target (Watched by) = watched_line number session monitor target by.0
watch_text number session monitor target _ = []

-- the line of an entry that did nothing, and no bytes of any other
abbrev pub refusal_text : ℕ → ℕ → Ask → Reply → List ℕ
refusal_text number session (Open asked name tx rx extra) reply = opening_text number session name reply
refusal_text number session (Reset port side fault) reply = reset_text number session port.0 side fault
refusal_text number session (PutKept port offered) reply = put_text number session port.0 reply
refusal_text number session (Watch monitor target sides) reply = watch_text number session monitor.0 target reply
refusal_text number session _ reply = []

-- those of entries of which the first has this number
abbrev pub refusal_texts : ℕ → List Entry → List ℕ
refusal_texts number [] = []
refusal_texts number (entry ∷ entries) =
    refusal_text number entry.session.0 entry.ask entry.reply ++ refusal_texts (number + 1) entries
