-- What scripts count and play, worked, as theorems that hold by computation.
use Rattle.std.specs.Prelude.{ℕ, ◌≡◌, ◌≤◌, false, true, if◌then◌else◌, List, [], ◌∷◌, length, map, replicate, codes, bytes_eq, Option, Some, None, IsSomeAnd, refl}
use Rattle.std.proofs.Common.{sym, subst, T}
use Rattle.std.proofs.Math.Facts.{leb_yes}
use Rattle.std.proofs.Math.Dec.{leb}
use Rattle.nm_io.specs.Files.{Files}
use Rattle.nm_io.specs.declared.read_error.ReadError.TheVariants as reads
use Rattle.nm_types.specs.declared.id.Mac.{Mac}
use Rattle.nm_types.specs.declared.id.Side.TheVariants.{Tx}
use Rattle.nm_types.specs.declared.id.Sides.TheVariants.{TR}
use Rattle.pcap_io.specs.declared.fault.PcapFault.{PcapFault}
use Rattle.pcap_io.specs.declared.fault.PcapFault.TheVariants as pcap
use Rattle.vale_script.specs.declared.script.Act.{Act}
use Rattle.vale_script.specs.declared.script.Act.TheVariants as acts
use Rattle.vale_script.specs.declared.script.Line.{Line}
use Rattle.vale_script.specs.declared.script.SlotField.TheVariants.{Len}
use Rattle.vale_script.specs.declared.script.Unit.TheVariants.{Single, Block}
use Rattle.vale_script.specs.Script.{Program}
use Rattle.vale_captures.specs.declared.inputs.InputFault.TheVariants.{Failed, TooLong, BadPcap, NoMemory}
use Rattle.vale_captures.specs.Counting.{count_of, counts_of, frames_by, frames_played}
use Rattle.vale_captures.specs.Faults.{fault_of_read, fault_of_capture}
use Rattle.vale_captures.specs.Inputs.{InputFile, IsBadCapture, StopsReading, records_in}

at_most : (m n : ℕ) → T (leb m n) → m ≤ n
at_most m n holds = leb_yes holds

abbrev port : List ℕ
port = codes "vale0:a"

abbrev nobody : Mac
nobody = record { 0 = replicate 6 0 }

abbrev puts : ℕ → Act
puts count = acts.Put port count nobody nobody 60 17

abbrev forwards : ℕ → Act
forwards count = acts.Fwd port port count

abbrev plays : List ℕ → Act
plays file = acts.Play port file 1

-- the frames that a line puts and those that it may forward are counted, no others
counted : map count_of (puts 3 ∷ forwards 5 ∷ puts 0 ∷ []) ≡ 3 ∷ 5 ∷ 0 ∷ []
counted = refl

not_counted : map count_of (acts.Enter ∷ acts.Open port 4 4 4 ∷ acts.Hex port (record { bytes = 1 ∷ []; no_learn = false }) ∷ plays port ∷ acts.Tx port ∷ acts.Rx port true ∷ acts.Poke port Tx 1 Len 1 ∷ acts.Move port Tx 1 1 ∷ acts.Swap port Tx 1 port Tx 1 false ∷ acts.Extra port 1 1 ∷ acts.Watch port port TR ∷ acts.Stat port ∷ acts.Save port port ∷ acts.Close port ∷ []) ≡ replicate 14 0
not_counted = refl

abbrev line : ℕ → Act → Line
line user act = record { at = 1; user = user; act = act }

abbrev worked : Program
worked = record {
  pool = 64;
  users = codes "a" ∷ codes "b" ∷ [];
  files = codes "f" ∷ codes "g" ∷ [];
  units = Single (line 1 (puts 3)) ∷ Single (line 1 (plays (codes "f"))) ∷ Block (line 1 (puts 40) ∷ line 2 (forwards 500) ∷ line 2 (plays (codes "g")) ∷ line 1 (plays (codes "f")) ∷ []) ∷ Single (line 2 (puts 6000)) ∷ [];
}

-- in blocks as outside, of all users
all_counted : counts_of worked ≡ 6543
all_counted = refl

-- one file of two records, one of which is too long to be put, and another one of three
abbrev files : List InputFile
files = record { file = codes "f"; frames = (1 ∷ []) ∷ replicate 131073 0 ∷ [] } ∷ record { file = codes "g"; frames = [] ∷ [] ∷ (1 ∷ 2 ∷ []) ∷ [] } ∷ record { file = codes "f"; frames = [] } ∷ []

-- the records of a file are those of the first one of its port
records_of_files : map (records_in files) (codes "g" ∷ codes "h" ∷ codes "F" ∷ []) ≡ ([] ∷ [] ∷ (1 ∷ 2 ∷ []) ∷ []) ∷ [] ∷ [] ∷ []
records_of_files = refl

-- each line that plays a file plays all of its records, however long
played_by : map (frames_by files) (plays (codes "f") ∷ plays (codes "g") ∷ plays (codes "h") ∷ puts 3 ∷ []) ≡ 2 ∷ 3 ∷ 0 ∷ 0 ∷ []
played_by = refl

all_played : frames_played worked files ≡ 7
all_played = refl

read_faults : map fault_of_read (reads.TooLong ∷ reads.Failed ∷ reads.NoMemory ∷ []) ≡ TooLong ∷ Failed ∷ NoMemory ∷ []
read_faults = refl

capture_faults : map fault_of_capture (pcap.NoMemory ∷ pcap.BadMagic 1 ∷ pcap.Truncated 24 ∷ []) ≡ NoMemory ∷ BadPcap (pcap.BadMagic 1) ∷ BadPcap (pcap.Truncated 24) ∷ []
capture_faults = refl

-- A capture that is bad is one that may be read: a longer one is too long, whatever stands in it.
bad_is_short : (all : Files) (name : List ℕ) (left : ℕ) (fault : Option PcapFault)
    → IsBadCapture (Some all) name left fault → IsSomeAnd (all name) (λ contents. length contents ≤ left)
bad_is_short all name left fault bad = subst (λ file. IsSomeAnd file (λ contents. length contents ≤ left)) (sym bad.told) bad.short

-- A file that is read, and the next one one byte too long, under a limit of 31 bytes for both together.

abbrev empty : List ℕ
empty = 0xd4 ∷ 0xc3 ∷ 0xb2 ∷ 0xa1 ∷ 2 ∷ 0 ∷ 4 ∷ 0 ∷ 0 ∷ 0 ∷ 0 ∷ 0 ∷ 0 ∷ 0 ∷ 0 ∷ 0 ∷ 0 ∷ 0 ∷ 4 ∷ 0 ∷ 1 ∷ 0 ∷ 0 ∷ 0 ∷ []

abbrev shelf : Files
shelf file = if bytes_eq file (codes "f") then Some empty else (if bytes_eq file (codes "g") then Some (replicate 8 7) else None)

-- of the second one 7 bytes may be read
stops_at_second : StopsReading (Some shelf) (codes "f" ∷ codes "g" ∷ []) 31 (λ file. (0, 0)) (1, TooLong)
stops_at_second = record {
  before = record { file = codes "f"; frames = [] } ∷ [];
  used = 24;
  read = (24, 0, (record { contents = empty; told = refl; records = []; capture = record { order = _; magic = refl; header = record { there = at_most 24 24 tt; major = refl; minor = refl; link = refl }; body = refl }; file = refl; frames = refl; sized = refl }, (refl, refl)));
  within = at_most 24 31 tt;
  name = codes "g";
  there = refl;
  blames = at_most 8 8 tt;
}
