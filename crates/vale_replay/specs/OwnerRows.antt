-- Which owner a buffer has, worked for a frame on its way from one user to another, and what a few lines
-- have their user do.
use Rattle.std.specs.Prelude.{ℕ, ◌≡◌, true, false, List, [], ◌∷◌, map, take, replicate, codes, Option, Some, None, Result, Ok, Err, refl}
use Rattle.nm_types.specs.Names.{is_name, is_switch_port_name, is_pipe_name, is_monitor_name, switch_of, peer_name}
use Rattle.nm_types.specs.declared.id.Mac.{Mac}
use Rattle.vale_entry.specs.Legal.{fresh_standing, standing_of}
use Rattle.vale_words.specs.Words.{number_in, text_of, port_name, is_hex_byte, is_digits, frame_bytes, is_mac, mac_of}
use Rattle.vale_script.specs.declared.script.Act.TheVariants as acts
use Rattle.vale_script.specs.Forms.{verb_of}
use Rattle.vale_script.specs.Grammar.{Fault, script_of}
use Rattle.vale_script.specs.Script.{Program}
use Rattle.vale_replay.specs.Owners.{Owner, Pool, Lease, KernelSlot, UserSlot, ExtraList, owners_of}
use Rattle.vale_replay.specs.Replay.{cast_of, units_of}
use Rattle.vale_replay.specs.Tasks.{Task, PutFrame, SendFrames, TakeFrames, ChangeOwn, ShutPort, FinishPort, EndLine, frame_of_put, most_to_play, fits_to_play, played, tasks_of_line, lines_left, records_of}
use Rattle.vale_replay.specs.Walk.{Stage, walk_units}

-- Two users of a pool of 64, with rings of 4 slots: the first one's port has the buffers 2 to 9, the second
-- one's 10 to 17, and 18 and 19 as its extra ones.

abbrev stage_by : ℕ → Result Program Fault → Option Stage
stage_by count (Err fault) = None
stage_by count (Ok program) = walk_units 100 (record { standing = fresh_standing program.pool; cast = cast_of program }) (take count (units_of program []))

-- what stands behind so many lines
stage_behind : ℕ → Option Stage
unfolding verb_of number_in text_of port_name is_hex_byte is_digits frame_bytes is_mac mac_of is_name is_switch_port_name is_pipe_name is_monitor_name switch_of peer_name
stage_behind count = stage_by count (script_of (codes "pool 64\nuser a\nuser b\nopen a vale0:a 4 4\nopen b vale0:b 4 4 2\nhex a vale0:a ffffffffffff02000000000a88b5\ntx a vale0:a\nrx b vale0:b\nclose a vale0:a\n"))

abbrev owners_at : List ℕ → Option Stage → List (List Owner)
owners_at buffers None = []
owners_at buffers (Some stage) = map (owners_of stage.standing stage.cast.users) buffers

-- The kernel side has one slot of a fresh transmit ring, and all of a receive ring. The free ones are the
-- pool's, and other indices are of no buffer.
opened_owners : owners_at (1 ∷ 2 ∷ 4 ∷ 5 ∷ 6 ∷ 9 ∷ 10 ∷ 12 ∷ 13 ∷ 14 ∷ 17 ∷ 18 ∷ 19 ∷ 20 ∷ 65 ∷ 66 ∷ []) (stage_behind 4) ≡ [] ∷ (UserSlot ∷ []) ∷ (UserSlot ∷ []) ∷ (KernelSlot ∷ []) ∷ (KernelSlot ∷ []) ∷ (KernelSlot ∷ []) ∷ (UserSlot ∷ []) ∷ (UserSlot ∷ []) ∷ (KernelSlot ∷ []) ∷ (KernelSlot ∷ []) ∷ (KernelSlot ∷ []) ∷ (ExtraList ∷ []) ∷ (ExtraList ∷ []) ∷ (Pool ∷ []) ∷ (Pool ∷ []) ∷ [] ∷ []
unfolding stage_behind
opened_owners = refl

-- with the history cut behind so many entries
abbrev owners_cut : ℕ → List ℕ → Option Stage → List (List Owner)
owners_cut count buffers None = []
owners_cut count buffers (Some stage) = map (owners_of (standing_of 64 (take count stage.standing.past)) stage.cast.users) buffers

-- A frame is sent: its slot is the kernel side's, and the slot behind it the user's. Once it is granted the
-- buffer that it goes to is the lease's, and the lease done it is the kernel side's again.
sent_owners : owners_at (2 ∷ 3 ∷ 5 ∷ 14 ∷ 15 ∷ []) (stage_behind 6) ≡ (KernelSlot ∷ []) ∷ (UserSlot ∷ []) ∷ (UserSlot ∷ []) ∷ (KernelSlot ∷ []) ∷ (KernelSlot ∷ []) ∷ []
unfolding stage_behind
sent_owners = refl

granted_owners : owners_cut 6 (2 ∷ 3 ∷ 5 ∷ 14 ∷ 15 ∷ []) (stage_behind 6) ≡ (KernelSlot ∷ []) ∷ (UserSlot ∷ []) ∷ (UserSlot ∷ []) ∷ (Lease ∷ []) ∷ (KernelSlot ∷ []) ∷ []
unfolding stage_behind
granted_owners = refl

offered_owners : owners_cut 5 (14 ∷ 15 ∷ []) (stage_behind 6) ≡ (KernelSlot ∷ []) ∷ (KernelSlot ∷ []) ∷ []
unfolding stage_behind
offered_owners = refl

-- read, it is in a slot of the user
read_owners : owners_at (14 ∷ 15 ∷ 18 ∷ []) (stage_behind 7) ≡ (UserSlot ∷ []) ∷ (KernelSlot ∷ []) ∷ (ExtraList ∷ []) ∷ []
unfolding stage_behind
read_owners = refl

-- a port that is closed leaves its buffers to the pool
closed_owners : owners_at (2 ∷ 5 ∷ 6 ∷ 9 ∷ 10 ∷ []) (stage_behind 8) ≡ (Pool ∷ []) ∷ (Pool ∷ []) ∷ (Pool ∷ []) ∷ (Pool ∷ []) ∷ (UserSlot ∷ []) ∷ []
unfolding stage_behind
closed_owners = refl

-- A `put` line's frame is the first bytes of both addresses, the type and the fill.

abbrev one_station : ℕ → Mac
one_station last = record { 0 = 2 ∷ 0 ∷ 0 ∷ 0 ∷ 0 ∷ last ∷ [] }

put_frames : map (λ (len : ℕ). frame_of_put (one_station 11) (one_station 10) len 17) (0 ∷ 5 ∷ 7 ∷ 13 ∷ 16 ∷ []) ≡ [] ∷ (2 ∷ 0 ∷ 0 ∷ 0 ∷ 0 ∷ []) ∷ (2 ∷ 0 ∷ 0 ∷ 0 ∷ 0 ∷ 11 ∷ 2 ∷ []) ∷ (2 ∷ 0 ∷ 0 ∷ 0 ∷ 0 ∷ 11 ∷ 2 ∷ 0 ∷ 0 ∷ 0 ∷ 0 ∷ 10 ∷ 136 ∷ []) ∷ (2 ∷ 0 ∷ 0 ∷ 0 ∷ 0 ∷ 11 ∷ 2 ∷ 0 ∷ 0 ∷ 0 ∷ 0 ∷ 10 ∷ 136 ∷ 181 ∷ 17 ∷ 17 ∷ []) ∷ []
put_frames = refl

-- a record that fills a buffer goes into a pipe, and a longer one to a switch alone
most_played : map most_to_play (codes "pipe0{" ∷ codes "pipe0}" ∷ codes "vale0:a" ∷ []) ≡ 2048 ∷ 2048 ∷ 131072 ∷ []
unfolding is_pipe_name
most_played = refl

record_fits : map (fits_to_play (codes "pipe0{")) (replicate 2048 0 ∷ replicate 2049 0 ∷ [] ∷ []) ≡ true ∷ false ∷ true ∷ []
unfolding is_pipe_name
record_fits = refl

abbrev port : List ℕ
port = codes "pipe0{"

abbrev puts : ℕ → Task
puts byte = PutFrame port (byte ∷ [])

-- a sync behind each two frames, and behind the last one if any was put since; records passed over do not
-- count
played_tasks : map (λ (frames : List (List ℕ)). played port 2 frames) ([] ∷ ((1 ∷ []) ∷ []) ∷ ((1 ∷ []) ∷ (2 ∷ []) ∷ []) ∷ ((1 ∷ []) ∷ replicate 2049 0 ∷ (2 ∷ []) ∷ (3 ∷ []) ∷ []) ∷ (replicate 2049 0 ∷ []) ∷ []) ≡ [] ∷ (puts 1 ∷ SendFrames port ∷ []) ∷ (puts 1 ∷ puts 2 ∷ SendFrames port ∷ []) ∷ (puts 1 ∷ puts 2 ∷ SendFrames port ∷ puts 3 ∷ SendFrames port ∷ []) ∷ [] ∷ []
unfolding is_pipe_name
played_tasks = refl

-- `rx` moves its positions first, `rx .. keep` does not; `close` shuts and then finishes
line_tasks : map (tasks_of_line (λ (file : List ℕ). [])) (acts.Rx port false ∷ acts.Rx port true ∷ acts.Close port ∷ acts.Put port 2 (one_station 11) (one_station 10) 1 17 ∷ []) ≡ (ChangeOwn (acts.Rx port false) ∷ TakeFrames port ∷ EndLine ∷ []) ∷ (TakeFrames port ∷ EndLine ∷ []) ∷ (ShutPort port ∷ FinishPort port ∷ EndLine ∷ []) ∷ (PutFrame port (2 ∷ []) ∷ PutFrame port (2 ∷ []) ∷ EndLine ∷ []) ∷ []
line_tasks = refl

-- a line that ends early leaves the lines behind it
rest_of_lines : lines_left (puts 1 ∷ SendFrames port ∷ EndLine ∷ puts 2 ∷ EndLine ∷ []) ≡ EndLine ∷ puts 2 ∷ EndLine ∷ []
rest_of_lines = refl

-- files and their captures stand in the same order
records_by_name : map (records_of (codes "f" ∷ codes "g" ∷ []) (((1 ∷ []) ∷ []) ∷ ((2 ∷ []) ∷ []) ∷ [])) (codes "g" ∷ codes "f" ∷ codes "h" ∷ []) ≡ ((2 ∷ []) ∷ []) ∷ ((1 ∷ []) ∷ []) ∷ [] ∷ []
records_by_name = refl
