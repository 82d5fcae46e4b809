-- Worked lines and scripts, as theorems that hold by computation.
use Rattle.std.specs.Prelude.{ℕ, ◌≡◌, true, false, List, [], ◌∷◌, ◌++◌, map, flat_map, replicate, codes, decimal, Option, Some, None, Result, Ok, Err, refl}
use Rattle.std.specs.List.{range_with_len}
use Rattle.std.specs.Fmt.{digits}
use Rattle.nm_types.specs.Names.{is_name, is_monitor_name}
use Rattle.nm_types.specs.declared.id.Mac.{Mac}
use Rattle.nm_types.specs.declared.id.Side.TheVariants as rings
use Rattle.nm_types.specs.declared.id.Sides.TheVariants as watched
use Rattle.nm_types.specs.declared.fault.LineCause.{LineCause}
use Rattle.nm_types.specs.declared.fault.LineCause.TheVariants.{Word, Count, Number, Name, User, Port, Order, Twice}
use Rattle.vale_words.specs.Words.{number_in, text_of, port_name, is_hex_byte, is_digits, frame_bytes, is_mac, mac_of}
use Rattle.vale_script.specs.declared.script.Act.{Act}
use Rattle.vale_script.specs.declared.script.Act.TheVariants as acts
use Rattle.vale_script.specs.declared.script.Line.{Line}
use Rattle.vale_script.specs.declared.script.SlotField.TheVariants as fields
use Rattle.vale_script.specs.declared.script.Unit.TheVariants.{Single, Block}
use Rattle.vale_script.specs.Counts.{is_open}
use Rattle.vale_script.specs.Forms.{verb_of}
use Rattle.vale_script.specs.Grammar.{Fault, script_of}
use Rattle.vale_script.specs.Keys.{packed, port_number}
use Rattle.vale_script.specs.Rules.{port_key}
use Rattle.vale_script.specs.Script.{Program}
use Rattle.vale_script.specs.Sound.{most_of}
use Rattle.vale_script.specs.Statements.{Statement, Nothing, Pool, NewUser, Begin, End, Does, line_said}

-- What a line says by its words alone.

said : List ℕ → Result Statement LineCause
unfolding verb_of number_in text_of port_name is_hex_byte is_digits frame_bytes is_mac mac_of is_name
said line = line_said line

abbrev does_a : Act → Result Statement LineCause
does_a act = Ok (Does (codes "a") act)

abbrev station : ℕ → Mac
station last = record { 0 = 2 ∷ 0 ∷ 0 ∷ 0 ∷ 0 ∷ last ∷ [] }

silent_lines : map said ([] ∷ codes " \t" ∷ codes "\t#" ∷ (35 ∷ 0 ∷ 255 ∷ []) ∷ codes "#tx a vale0:a" ∷ []) ≡ replicate 5 (Ok Nothing)
unfolding said
silent_lines = refl

declaring_lines : map said (codes "pool 7" ∷ codes "user a-1" ∷ codes "\tuser  \ta-1\t" ∷ codes "par" ∷ codes "end" ∷ []) ≡ Ok (Pool 7) ∷ Ok (NewUser (codes "a-1")) ∷ Ok (NewUser (codes "a-1")) ∷ Ok Begin ∷ Ok End ∷ []
unfolding said
declaring_lines = refl

opening_lines : map said (codes "open a vale0:a-b 2 3" ∷ codes "open a vale0:a-b 2 3 4" ∷ []) ≡ does_a (acts.Open (codes "vale0:a-b") 2 3 0) ∷ does_a (acts.Open (codes "vale0:a-b") 2 3 4) ∷ []
unfolding said
opening_lines = refl

-- the destination stands before the source
put_line : said (codes "put a vale0:a 3 02:00:00:00:00:0B 02:00:00:00:00:0a 60 1f") ≡ does_a (acts.Put (codes "vale0:a") 3 (station 11) (station 10) 60 31)
unfolding said
put_line = refl

frame_lines : map said (codes "hex a vale0:a 0102fF" ∷ codes "hex a vale0:a ." ∷ codes "play a vale0:a f.pcap 3" ∷ []) ≡ does_a (acts.Hex (codes "vale0:a") (record { bytes = 1 ∷ 2 ∷ 255 ∷ []; no_learn = false })) ∷ does_a (acts.Hex (codes "vale0:a") (record { bytes = []; no_learn = false })) ∷ does_a (acts.Play (codes "vale0:a") (codes "f.pcap") 3) ∷ []
unfolding said
frame_lines = refl

sync_lines : map said (codes "tx a vale0:a" ∷ codes "rx a vale0:a" ∷ codes "rx a vale0:a keep" ∷ []) ≡ does_a (acts.Tx (codes "vale0:a")) ∷ does_a (acts.Rx (codes "vale0:a") false) ∷ does_a (acts.Rx (codes "vale0:a") true) ∷ []
unfolding said
sync_lines = refl

forward_line : said (codes "fwd a vale0:a vale0:b 9") ≡ does_a (acts.Fwd (codes "vale0:a") (codes "vale0:b") 9)
unfolding said
forward_line = refl

poke_lines : map said (codes "poke a vale0:a tx 1 idx 5" ∷ codes "poke a vale0:a rx 2 len 6" ∷ codes "poke a vale0:a tx 3 flags 7" ∷ codes "poke a vale0:a rx 4 ptr 8" ∷ []) ≡ does_a (acts.Poke (codes "vale0:a") rings.Tx 1 fields.Idx 5) ∷ does_a (acts.Poke (codes "vale0:a") rings.Rx 2 fields.Len 6) ∷ does_a (acts.Poke (codes "vale0:a") rings.Tx 3 fields.Flags 7) ∷ does_a (acts.Poke (codes "vale0:a") rings.Rx 4 fields.Ptr 8) ∷ []
unfolding said
poke_lines = refl

place_lines : map said (codes "move a vale0:a rx 1 2" ∷ codes "extra a vale0:a 3 4" ∷ []) ≡ does_a (acts.Move (codes "vale0:a") rings.Rx 1 2) ∷ does_a (acts.Extra (codes "vale0:a") 3 4) ∷ []
unfolding said
place_lines = refl

swap_lines : map said (codes "swap a vale0:a tx 1 vale0:b rx 2" ∷ codes "swap a vale0:a rx 1 vale0:b tx 2 quiet" ∷ []) ≡ does_a (acts.Swap (codes "vale0:a") rings.Tx 1 (codes "vale0:b") rings.Rx 2 false) ∷ does_a (acts.Swap (codes "vale0:a") rings.Rx 1 (codes "vale0:b") rings.Tx 2 true) ∷ []
unfolding said
swap_lines = refl

watch_lines : map said (codes "watch a mon0 vale0:b t" ∷ codes "watch a mon0 vale0:b r" ∷ codes "watch a mon0 vale0:b tr" ∷ []) ≡ does_a (acts.Watch (codes "mon0") (codes "vale0:b") watched.T) ∷ does_a (acts.Watch (codes "mon0") (codes "vale0:b") watched.R) ∷ does_a (acts.Watch (codes "mon0") (codes "vale0:b") watched.TR) ∷ []
unfolding said
watch_lines = refl

last_lines : map said (codes "stat a vale0:a" ∷ codes "save a vale0:a f.pcap" ∷ codes "close a vale0:a" ∷ []) ≡ does_a (acts.Stat (codes "vale0:a")) ∷ does_a (acts.Save (codes "vale0:a") (codes "f.pcap")) ∷ does_a (acts.Close (codes "vale0:a")) ∷ []
unfolding said
last_lines = refl

-- What is wrong with a line by its words alone.

abbrev fault_of : {T F : Type 0} → Result T F → Option F
fault_of (Ok value) = None
fault_of (Err fault) = Some fault

faults_said : List (List ℕ) → List (Option LineCause)
unfolding said
faults_said lines = map (λ (line : List ℕ). fault_of (said line)) lines

-- both ends of each range are in it
in_range : faults_said (codes "pool 1" ∷ codes "pool 262144" ∷ codes "open a vale0:a 0 4294967295 0" ∷ codes "open a vale0:a 4294967295 0 4294967295" ∷ codes "put a vale0:a 0 00:00:00:00:00:00 00:00:00:00:00:00 0 00" ∷ codes "put a vale0:a 1000000 ff:ff:ff:ff:ff:ff ff:ff:ff:ff:ff:ff 2048 ff" ∷ codes "play a vale0:a f 1" ∷ codes "play a vale0:a f 4095" ∷ codes "fwd a vale0:a vale0:b 0" ∷ codes "fwd a vale0:a vale0:b 1000000" ∷ codes "poke a vale0:a tx 0 idx 4294967295" ∷ codes "poke a vale0:a tx 4294967295 len 65535" ∷ codes "poke a vale0:a tx 0 flags 65535" ∷ codes "poke a vale0:a tx 0 ptr 18446744073709551615" ∷ codes "move a vale0:a tx 0 4294967295" ∷ codes "move a vale0:a tx 4294967295 0" ∷ codes "swap a vale0:a tx 0 vale0:b tx 4294967295" ∷ codes "swap a vale0:a tx 4294967295 vale0:b tx 0" ∷ codes "extra a vale0:a 0 4294967295" ∷ codes "extra a vale0:a 4294967295 0" ∷ []) ≡ replicate 20 None
unfolding faults_said
in_range = refl

out_of_range : faults_said (codes "pool 0" ∷ codes "pool 262145" ∷ codes "open a vale0:a 4294967296 0" ∷ codes "open a vale0:a 0 4294967296" ∷ codes "open a vale0:a 0 0 4294967296" ∷ codes "put a vale0:a 1000001 00:00:00:00:00:00 00:00:00:00:00:00 0 00" ∷ codes "put a vale0:a 0 00:00:00:00:00:00 00:00:00:00:00:00 2049 00" ∷ codes "play a vale0:a f 0" ∷ codes "play a vale0:a f 4096" ∷ codes "fwd a vale0:a vale0:b 1000001" ∷ codes "poke a vale0:a tx 0 idx 4294967296" ∷ codes "poke a vale0:a tx 4294967296 len 0" ∷ codes "poke a vale0:a tx 0 len 65536" ∷ codes "poke a vale0:a tx 0 flags 65536" ∷ codes "poke a vale0:a tx 0 ptr 18446744073709551616" ∷ codes "move a vale0:a tx 0 4294967296" ∷ codes "move a vale0:a tx 4294967296 0" ∷ codes "swap a vale0:a tx 0 vale0:b tx 4294967296" ∷ codes "swap a vale0:a tx 4294967296 vale0:b tx 0" ∷ codes "extra a vale0:a 0 4294967296" ∷ codes "extra a vale0:a 4294967296 0" ∷ []) ≡ replicate 21 (Some Number)
unfolding faults_said
out_of_range = refl

bad_digits : faults_said (codes "pool x" ∷ codes "pool 000000000000000000001" ∷ codes "put a vale0:a 0 00:00:00:00:00:00 00:00:00:00:00:00 0 0" ∷ codes "put a vale0:a 0 00:00:00:00:00:00 00:00:00:00:00:00 0 0g" ∷ codes "hex a vale0:a 0" ∷ codes "hex a vale0:a 0g" ∷ codes "hex a vale0:a .." ∷ []) ≡ replicate 7 (Some Number)
unfolding faults_said
bad_digits = refl

-- an unknown first word, a fixed word that is none of its few, or a byte that no line may hold
bad_words : faults_said (codes "x" ∷ codes "Tx a vale0:a" ∷ codes "load 7" ∷ codes "rx a vale0:a Keep" ∷ codes "poke a vale0:a t 0 len 1" ∷ codes "poke a vale0:a tx 0 size 1" ∷ codes "move a vale0:a TX 0 0" ∷ codes "swap a vale0:a x 0 vale0:b tx 0" ∷ codes "swap a vale0:a tx 0 vale0:b x 0" ∷ codes "swap a vale0:a tx 0 vale0:b tx 0 loud" ∷ codes "watch a mon0 vale0:a rt" ∷ (codes "tx a vale0:a " ++ 127 ∷ []) ∷ (codes "tx a vale0:a" ++ 13 ∷ []) ∷ (codes "save a vale0:a f" ++ 128 ∷ []) ∷ []) ≡ replicate 14 (Some Word)
unfolding faults_said
bad_words = refl

too_few : faults_said (codes "pool" ∷ codes "user" ∷ codes "open a vale0:a 4" ∷ codes "put a vale0:a 0 00:00:00:00:00:00 00:00:00:00:00:00 0" ∷ codes "hex a vale0:a" ∷ codes "play a vale0:a f" ∷ codes "tx a" ∷ codes "rx a" ∷ codes "fwd a vale0:a vale0:b" ∷ codes "poke a vale0:a tx 0 len" ∷ codes "move a vale0:a tx 0" ∷ codes "swap a vale0:a tx 0 vale0:b tx" ∷ codes "extra a vale0:a 0" ∷ codes "watch a mon0 vale0:a" ∷ codes "stat a" ∷ codes "save a vale0:a" ∷ codes "close a" ∷ []) ≡ replicate 17 (Some Count)
unfolding faults_said
too_few = refl

too_many : faults_said (codes "pool 1 1" ∷ codes "user a b" ∷ codes "open a vale0:a 4 4 0 0" ∷ codes "put a vale0:a 0 00:00:00:00:00:00 00:00:00:00:00:00 0 00 0" ∷ codes "hex a vale0:a . ." ∷ codes "play a vale0:a f 1 1" ∷ codes "tx a vale0:a x" ∷ codes "rx a vale0:a keep keep" ∷ codes "fwd a vale0:a vale0:b 0 0" ∷ codes "poke a vale0:a tx 0 len 0 0" ∷ codes "move a vale0:a tx 0 0 0" ∷ codes "swap a vale0:a tx 0 vale0:b tx 0 quiet x" ∷ codes "extra a vale0:a 0 0 0" ∷ codes "watch a mon0 vale0:a t t" ∷ codes "stat a vale0:a x" ∷ codes "save a vale0:a f f" ∷ codes "close a vale0:a x" ∷ codes "par x" ∷ codes "end x" ∷ []) ≡ replicate 19 (Some Count)
unfolding faults_said
too_many = refl

-- no name of a user, or of a port, or no address
bad_names : faults_said (codes "user a.b" ∷ codes "user abcdefghijklmnopq" ∷ codes "tx a.b vale0:a" ∷ codes "tx a vale0" ∷ codes "tx a vale01234567890:a" ∷ codes "fwd a vale0:a vale0 1" ∷ codes "swap a vale0:a tx 0 vale0 tx 0" ∷ codes "watch a mon0 vale0 t" ∷ codes "watch a mon vale0:a t" ∷ codes "put a vale0:a 0 00:00:00:00:00 00:00:00:00:00:00 0 00" ∷ codes "put a vale0:a 0 00:00:00:00:00:00 00:00:00:00:00:0g 0 00" ∷ []) ≡ replicate 11 (Some Name)
unfolding faults_said
bad_names = refl

long_names : faults_said (codes "user abcdefghijklmnop" ∷ codes "tx a vale0123456789:a" ∷ []) ≡ None ∷ None ∷ []
unfolding faults_said
long_names = refl

-- Of two causes the word comes before the count, that before the number, and that before the name, wherever
-- in the line they stand; a fixed word is judged at its place in the longest form.
two_causes : faults_said (codes "rx a vale0:a Keep x" ∷ codes "poke a vale0:a x" ∷ codes "poke a vale0:a x 0 size x" ∷ codes "watch a.b mon0 vale0 x" ∷ (codes "tx a" ++ 127 ∷ []) ∷ codes "tx a.b" ∷ codes "pool 0 1" ∷ codes "poke a vale0:a tx x" ∷ codes "extra a vale0 x 0" ∷ codes "put a.b vale0 0 0 0 0 x" ∷ []) ≡ Some Word ∷ Some Word ∷ Some Word ∷ Some Word ∷ Some Word ∷ Some Count ∷ Some Count ∷ Some Count ∷ Some Number ∷ Some Number ∷ []
unfolding faults_said
two_causes = refl

-- What a script says.

read : List ℕ → Result Program Fault
unfolding said is_monitor_name digits
read script = script_of script

abbrev line : ℕ → ℕ → Act → Line
line at user act = record { at = at; user = user; act = act }

-- each line has its number, also behind lines that say nothing, and each user its own by order; a carriage
-- return before a line feed belongs to no line, and the last line may lack the line feed
whole_script : read (codes "pool 5\n# note\nuser a\r\nuser b-b\n\npar\nopen a vale0:a 4 4\nopen b-b vale0:b 4 4 1\nend\nclose b-b vale0:b") ≡ Ok (record {
  pool = 5;
  users = codes "a" ∷ codes "b-b" ∷ [];
  files = [];
  units = Single (line 3 1 acts.Enter) ∷ Single (line 4 2 acts.Enter) ∷ Block (line 7 1 (acts.Open (codes "vale0:a") 4 4 0) ∷ line 8 2 (acts.Open (codes "vale0:b") 4 4 1) ∷ []) ∷ Single (line 10 2 (acts.Close (codes "vale0:b"))) ∷ [];
})
unfolding read
whole_script = refl

-- a pool has 8,192 buffers where no line says how many
no_lines : read [] ≡ Ok (record { pool = 8192; users = []; files = []; units = [] })
unfolding read
no_lines = refl

-- each file is read once, in the order of its first line
two_files : read (codes "user a\nopen a vale0:a 4 4\nplay a vale0:a second 1\nplay a vale0:a first 1\nplay a vale0:a second 2\n") ≡ Ok (record {
  pool = 8192;
  users = codes "a" ∷ [];
  files = codes "second" ∷ codes "first" ∷ [];
  units = Single (line 1 1 acts.Enter) ∷ Single (line 2 1 (acts.Open (codes "vale0:a") 4 4 0)) ∷ Single (line 3 1 (acts.Play (codes "vale0:a") (codes "second") 1)) ∷ Single (line 4 1 (acts.Play (codes "vale0:a") (codes "first") 1)) ∷ Single (line 5 1 (acts.Play (codes "vale0:a") (codes "second") 2)) ∷ [];
})
unfolding read
two_files = refl

-- What is wrong with a script.

faults_read : List (List ℕ) → List (Option Fault)
unfolding read
faults_read scripts = map (λ (script : List ℕ). fault_of (read script)) scripts

abbrev bad : ℕ → LineCause → Option Fault
bad at cause = Some (record { line = at; cause = cause })

-- the sixth line, behind the openings of two users
faults_behind : List (List ℕ) → List (Option Fault)
unfolding faults_read
faults_behind lines = faults_read (map (λ (line : List ℕ). codes "user a\nuser b\nopen a vale0:a 4 4\nopen b vale0:b 4 4\nopen a mon0 0 4\n" ++ line) lines)

undeclared : faults_behind (codes "open c vale0:c 4 4" ∷ codes "tx A vale0:a" ∷ codes "watch c vale0:a mon0 t" ∷ []) ≡ replicate 3 (bad 6 User)
unfolding faults_behind
undeclared = refl

-- each line but `open` wants its ports to be open
not_open : faults_behind (codes "put a vale0:b 0 00:00:00:00:00:00 00:00:00:00:00:00 0 00" ∷ codes "hex a vale0:b ." ∷ codes "play a vale0:b f 1" ∷ codes "tx a vale0:b" ∷ codes "rx a vale0:b" ∷ codes "fwd a vale0:b vale0:a 1" ∷ codes "fwd a vale0:a vale0:b 1" ∷ codes "poke a vale0:b rx 0 len 0" ∷ codes "move a vale0:b rx 0 0" ∷ codes "swap a vale0:b rx 0 vale0:a rx 0" ∷ codes "swap a vale0:a rx 0 vale0:b rx 0" ∷ codes "extra a vale0:b 0 0" ∷ codes "watch a mon1 vale0:a t" ∷ codes "stat a vale0:b" ∷ codes "save a vale0:b f" ∷ codes "close a vale0:b" ∷ []) ≡ replicate 16 (bad 6 Port)
unfolding faults_behind
not_open = refl

-- a monitor has no transmit ring
no_transmit_ring : faults_behind (codes "put a mon0 0 00:00:00:00:00:00 00:00:00:00:00:00 0 00" ∷ codes "hex a mon0 ." ∷ codes "play a mon0 f 1" ∷ codes "tx a mon0" ∷ codes "fwd a vale0:a mon0 1" ∷ codes "poke a mon0 tx 0 len 0" ∷ codes "move a mon0 tx 0 0" ∷ codes "swap a mon0 tx 0 vale0:a tx 0" ∷ codes "swap a vale0:a tx 0 mon0 tx 0" ∷ []) ≡ replicate 9 (bad 6 Port)
unfolding faults_behind
no_transmit_ring = refl

watched_wrongly : faults_behind (codes "watch a vale0:a vale0:b t" ∷ codes "watch a mon0 mon1 t" ∷ []) ≡ replicate 2 (bad 6 Port)
unfolding faults_behind
watched_wrongly = refl

-- a name that another user has open may be opened, and a port be watched that nobody has open
well_used : faults_behind (codes "rx a mon0" ∷ codes "fwd a mon0 vale0:a 1" ∷ codes "poke a mon0 rx 0 len 0" ∷ codes "move a mon0 rx 0 0" ∷ codes "swap a mon0 rx 0 vale0:a tx 0" ∷ codes "extra a mon0 0 0" ∷ codes "stat a mon0" ∷ codes "save a mon0 f" ∷ codes "close a mon0" ∷ codes "watch a mon0 vale0:b t" ∷ codes "watch a mon0 vale9:z t" ∷ codes "open b vale0:a 4 4" ∷ codes "open a vale0:b 4 4" ∷ []) ≡ replicate 13 None
unfolding faults_behind
well_used = refl

-- a port is open up to its `close` line, and may be opened again
closed : faults_behind (codes "close a vale0:a\ntx a vale0:a" ∷ codes "close a vale0:a\nclose a vale0:a" ∷ codes "close a vale0:a\nopen a vale0:a 4 4\ntx a vale0:a" ∷ codes "close a vale0:a\ntx b vale0:b" ∷ []) ≡ bad 7 Port ∷ bad 7 Port ∷ None ∷ None ∷ []
unfolding faults_behind
closed = refl

twice : faults_behind (codes "user a" ∷ codes "open a vale0:a 4 4" ∷ []) ≡ replicate 2 (bad 6 Twice)
unfolding faults_behind
twice = refl

-- a file saved twice, or saved and played, or a port saved twice
saved_twice : faults_behind (codes "save a vale0:a f\nsave a mon0 f" ∷ codes "save a vale0:a f\nsave b vale0:b f" ∷ codes "save a vale0:a f\nplay a vale0:a f 1" ∷ codes "play a vale0:a f 1\nsave a vale0:a f" ∷ codes "save a vale0:a f\nsave a vale0:a g" ∷ []) ≡ replicate 5 (bad 7 Twice)
unfolding faults_behind
saved_twice = refl

-- a port that is opened again is another one
saved_once : faults_behind (codes "save a vale0:a f\nsave a mon0 g\nsave b vale0:b h" ∷ codes "play a vale0:a f 1\nplay b vale0:b f 1" ∷ codes "save a vale0:a f\nclose a vale0:a\nopen a vale0:a 4 4\nsave a vale0:a g" ∷ []) ≡ replicate 3 None
unfolding faults_behind
saved_once = refl

abbrev many_users : ℕ → List ℕ
many_users count = flat_map (λ (k : ℕ). codes "user u" ++ decimal k ++ codes "\n") (range_with_len 0 count)

sixty_five_users : faults_read (many_users 64 ∷ many_users 65 ∷ []) ≡ None ∷ bad 65 Twice ∷ []
unfolding faults_read
sixty_five_users = refl

-- `pool` comes before all other lines that say something
pool_first : faults_read (codes "# note\n\npool 5\nuser a" ∷ codes "user a\npool 5" ∷ codes "pool 5\npool 5" ∷ codes "par\nend\npool 5" ∷ []) ≡ None ∷ bad 2 Order ∷ bad 2 Order ∷ bad 3 Order ∷ []
unfolding faults_read
pool_first = refl

blocks : faults_read (codes "par\nend\npar\nend" ∷ codes "par\npool 5" ∷ codes "par\nuser a" ∷ codes "par\npar" ∷ codes "end" ∷ codes "par\nend\nend" ∷ []) ≡ None ∷ bad 2 Order ∷ bad 2 Order ∷ bad 2 Order ∷ bad 1 Order ∷ bad 3 Order ∷ []
unfolding faults_read
blocks = refl

-- a block without its end is bad at its `par` line, if no other line is
endless : faults_read (codes "user a\npar\n" ∷ codes "user a\npar\ntx a vale0:a\n" ∷ codes "par\nx\ny\n" ∷ []) ≡ bad 2 Order ∷ bad 3 Port ∷ bad 2 Word ∷ []
unfolding faults_read
endless = refl

-- Of two causes the name comes before the user, that before the port, and the port, as the order, before what
-- is done twice.
two_causes_read : faults_behind (codes "tx c vale0" ∷ codes "watch c mon0 mon1 t" ∷ codes "save c vale0:c f" ∷ codes "save a vale0:a f\nsave a vale0:c f" ∷ codes "play a vale0:a f 1\nsave b vale0:a f" ∷ codes "par\nuser a" ∷ []) ≡ bad 6 Name ∷ bad 6 User ∷ bad 6 User ∷ bad 7 Port ∷ bad 7 Port ∷ bad 7 Order ∷ []
unfolding faults_behind
two_causes_read = refl

-- What the code keeps.

greatest_fields : map most_of (fields.Idx ∷ fields.Len ∷ fields.Flags ∷ fields.Ptr ∷ []) ≡ 4294967295 ∷ 65535 ∷ 65535 ∷ 18446744073709551615 ∷ []
greatest_fields = refl

open_ends : map is_open ([] ∷ codes "a" ∷ codes "a\n" ∷ codes "\na" ∷ []) ≡ false ∷ true ∷ false ∷ true ∷ []
open_ends = refl

packed_names : map packed ([] ∷ (1 ∷ 2 ∷ []) ∷ (0 ∷ 0 ∷ 1 ∷ []) ∷ []) ≡ 0 ∷ 513 ∷ 65536 ∷ []
packed_names = refl

port_keys : port_key (codes "a") (codes "mon0") ≡ codes "a mon0"
unfolding text_of
port_keys = refl

port_numbers : port_number (1 ∷ 2 ∷ 32 ∷ 3 ∷ 4 ∷ []) ≡ (513, 1027)
port_numbers = refl
