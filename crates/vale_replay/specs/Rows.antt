-- Worked scripts, each with the transcript of the history that plays it, as theorems that hold by
-- computation.
use Rattle.std.specs.Prelude.{ℕ, ◌≡◌, List, [], ◌∷◌, ◌++◌, Option, Some, None, Result, Ok, Err, codes, refl, replicate}
use Rattle.std.specs.Fmt.{digits}
use Rattle.nm_types.specs.Names.{is_name, is_switch_port_name, is_pipe_name, is_monitor_name, switch_of, peer_name}
use Rattle.vale_entry.specs.Transcript.{transcript_text, start_line, end_line, text_of as told_text}
use Rattle.vale_script.specs.Grammar.{Fault, script_of}
use Rattle.vale_script.specs.Forms.{verb_of}
use Rattle.vale_words.specs.Words.{number_in, text_of, port_name, is_hex_byte, is_digits, frame_bytes, is_mac, mac_of}
use Rattle.vale_script.specs.Script.{Program}
use Rattle.vale_replay.specs.Saved.{SavedFile, saved_files}
use Rattle.vale_replay.specs.Walk.{Stage, walk}
use Rattle.vale_replay.specs.Tasks.{Captures}

abbrev transcript_at : ℕ → Option Stage → List ℕ
transcript_at pool None = []
transcript_at pool (Some stage) = transcript_text pool stage.standing.past

abbrev transcript_by : Captures → Result Program Fault → List ℕ
transcript_by captures (Err fault) = []
transcript_by captures (Ok program) = transcript_at program.pool (walk 1000 program captures)

-- the transcript of a script that plays these captures
transcript_of : Captures → List ℕ → List ℕ
unfolding verb_of number_in text_of port_name is_hex_byte is_digits frame_bytes is_mac mac_of is_name is_switch_port_name is_pipe_name is_monitor_name switch_of peer_name digits told_text start_line end_line
transcript_of captures script = transcript_by captures (script_of script)

-- One broadcast frame reaches the other port.
first_run : transcript_of [] (codes "pool 64\nuser a\nuser b\nopen a vale0:a 4 4\nopen b vale0:b 4 4\nput a vale0:a 1 ff:ff:ff:ff:ff:ff 02:00:00:00:00:0a 60 11\ntx a vale0:a\nrx b vale0:b\n") ≡ codes "vale 2 pool 64\n1 enter 1\n2 enter 2\n3 1 open vale0:a 4 4 0 = ok\n4 2 open vale0:b 4 4 0 = ok\n5 1 send 3 ffffffffffff02000000000a88b511111111111111111111111111111111111111111111111111111111111111111111111111111111111111111111 = short 0 lone 0 to 4*1\n6 1 grant 5 4 = given 1 full 0 gone 0\n7 1 done 6\n8 2 sync 4 - = gave 1 to -\n9 1 shut 3\n10 1 finish 3 2-5 found 0 astray 0 = unread 0\n11 1 leave\n12 2 shut 4\n13 2 finish 4 10-14 found 0 astray 0 = unread 0\n14 2 leave\nend 14 free 64\n"
unfolding transcript_of
first_run = refl

-- Positions that do not fit are refused, and the ring is reset.
refused_positions : transcript_of [] (codes "pool 64\nuser a\nopen a vale0:a 4 4\nmove a vale0:a rx 1 1\nrx a vale0:a keep\nmove a vale0:a tx 2 1\ntx a vale0:a\nmove a vale0:a tx 4 4\ntx a vale0:a\ntx a vale0:a\n") ≡ codes "vale 2 pool 64\n1 enter 1\n2 1 open vale0:a 4 4 0 = ok\n3 1 reset 2 rx headout 1 0 0\n4 1 reset 2 tx curout 1 2 3\n5 1 reset 2 tx headout 4 0 3\n6 1 send 2 - = short 0 lone 0 to -\n7 1 shut 2\n8 1 finish 2 2-5 found 0 astray 0 = unread 0\n9 1 leave\nend 9 free 64\n"
unfolding transcript_of
refused_positions = refl

-- A buffer that two pushed slots name is refused.
refused_twice : transcript_of [] (codes "pool 64\nuser a\nopen a vale0:a 4 4\nput a vale0:a 1 ff:ff:ff:ff:ff:ff 02:00:00:00:00:0a 14 00\nput a vale0:a 1 ff:ff:ff:ff:ff:ff 02:00:00:00:00:0a 14 00\npoke a vale0:a tx 1 idx 2\npoke a vale0:a tx 1 flags 1\ntx a vale0:a\nput a vale0:a 1 ff:ff:ff:ff:ff:ff 02:00:00:00:00:0a 14 00\ntx a vale0:a\n") ≡ codes "vale 2 pool 64\n1 enter 1\n2 1 open vale0:a 4 4 0 = ok\n3 1 reset 2 tx doubled 1 2\n4 1 send 2 ffffffffffff02000000000a88b5 = short 0 lone 1 to -\n5 1 shut 2\n6 1 finish 2 2-5 found 0 astray 0 = unread 0\n7 1 leave\nend 7 free 64\n"
unfolding transcript_of
refused_twice = refl

-- So is an index that no buffer has.
refused_index : transcript_of [] (codes "pool 64\nuser a\nopen a vale0:a 4 4\nput a vale0:a 1 ff:ff:ff:ff:ff:ff 02:00:00:00:00:0a 14 00\npoke a vale0:a tx 0 idx 1\ntx a vale0:a\nput a vale0:a 1 ff:ff:ff:ff:ff:ff 02:00:00:00:00:0a 14 00\ntx a vale0:a\n") ≡ codes "vale 2 pool 64\n1 enter 1\n2 1 open vale0:a 4 4 0 = ok\n3 1 reset 2 tx indexout 0 1\n4 1 send 2 ffffffffffff02000000000a88b5 = short 0 lone 1 to -\n5 1 shut 2\n6 1 finish 2 2-5 found 0 astray 0 = unread 0\n7 1 leave\nend 7 free 64\n"
unfolding transcript_of
refused_index = refl

-- A received buffer goes out again from the transmit ring.
swapped : transcript_of [] (codes "pool 64\nuser a\nuser b\nopen a vale0:a 4 4\nopen b vale0:b 4 4\nput a vale0:a 1 ff:ff:ff:ff:ff:ff 02:00:00:00:00:0a 14 00\ntx a vale0:a\nrx b vale0:b\nswap b vale0:b rx 0 vale0:b tx 0\npoke b vale0:b tx 0 len 14\nmove b vale0:b tx 1 1\ntx b vale0:b\nrx b vale0:b\n") ≡ codes "vale 2 pool 64\n1 enter 1\n2 enter 2\n3 1 open vale0:a 4 4 0 = ok\n4 2 open vale0:b 4 4 0 = ok\n5 1 send 3 ffffffffffff02000000000a88b5 = short 0 lone 0 to 4*1\n6 1 grant 5 4 = given 1 full 0 gone 0\n7 1 done 6\n8 2 sync 4 - = gave 1 to -\n9 2 send 4 ffffffffffff02000000000a88b5 = short 0 lone 0 to 3*1\n10 2 grant 9 3 = given 1 full 0 gone 0\n11 2 done 10\n12 2 sync 4 10 = gave 0 to -\n13 1 shut 3\n14 1 finish 3 2-5 found 0 astray 0 = unread 1\n15 1 leave\n16 2 shut 4\n17 2 finish 4 14,11-13 found 0 astray 0 = unread 0\n18 2 leave\nend 18 free 64\n"
unfolding transcript_of
swapped = refl

-- Without the mark of a changed buffer it is refused.
swapped_quietly : transcript_of [] (codes "pool 64\nuser a\nuser b\nopen a vale0:a 4 4\nopen b vale0:b 4 4\nput a vale0:a 1 ff:ff:ff:ff:ff:ff 02:00:00:00:00:0a 14 00\ntx a vale0:a\nrx b vale0:b\nswap b vale0:b rx 0 vale0:b tx 0 quiet\npoke b vale0:b tx 0 len 14\nmove b vale0:b tx 1 1\ntx b vale0:b\nrx b vale0:b\n") ≡ codes "vale 2 pool 64\n1 enter 1\n2 enter 2\n3 1 open vale0:a 4 4 0 = ok\n4 2 open vale0:b 4 4 0 = ok\n5 1 send 3 ffffffffffff02000000000a88b5 = short 0 lone 0 to 4*1\n6 1 grant 5 4 = given 1 full 0 gone 0\n7 1 done 6\n8 2 sync 4 - = gave 1 to -\n9 2 reset 4 tx unannounced 0 14 10\n10 2 reset 4 rx unannounced 0 10 14\n11 1 shut 3\n12 1 finish 3 2-5 found 0 astray 0 = unread 0\n13 1 leave\n14 2 shut 4\n15 2 finish 4 10-14 found 0 astray 0 = unread 0\n16 2 leave\nend 16 free 64\n"
unfolding transcript_of
swapped_quietly = refl

-- A chain of extra buffers that loses one.
lost_extra : transcript_of [] (codes "pool 64\nuser a\nopen a vale0:a 2 2 3\nextra a vale0:a 2 1\n") ≡ codes "vale 2 pool 64\n1 enter 1\n2 1 open vale0:a 2 2 3 = ok\n3 1 shut 2\n4 1 finish 2 2-3,6-8 found 2 astray 1 = unread 0\n5 1 leave\nend 5 free 64\n"
unfolding transcript_of
lost_extra = refl

-- An extra buffer sent, whose place the transmit buffer takes.
exchanged_extra : transcript_of [] (codes "pool 64\nuser a\nopen a vale0:a 2 2 3\npoke a vale0:a tx 0 idx 6\npoke a vale0:a tx 0 flags 1\nmove a vale0:a tx 1 1\ntx a vale0:a\nclose a vale0:a\n") ≡ codes "vale 2 pool 64\n1 enter 1\n2 1 open vale0:a 2 2 3 = ok\n3 1 send 2 . = short 1 lone 0 to -\n4 1 shut 2\n5 1 finish 2 6,3,2,7-8 found 0 astray 3 = unread 0\n6 1 leave\nend 6 free 64\n"
unfolding transcript_of
exchanged_extra = refl

-- A pipe whose other end is not open: the frames stay pushed.
peer_gone : transcript_of [] (codes "pool 64\nuser a\nopen a pipe0{ 4 4\nput a pipe0{ 2 ff:ff:ff:ff:ff:ff 02:00:00:00:00:0a 14 00\ntx a pipe0{\n") ≡ codes "vale 2 pool 64\n1 enter 1\n2 1 open pipe0{ 4 4 0 = ok\n3 1 put 2 2 = peergone\n4 1 shut 2\n5 1 finish 2 2-5 found 0 astray 0 = unread 0\n6 1 leave\nend 6 free 64\n"
unfolding transcript_of
peer_gone = refl

-- A pipe takes as many frames as the other end has room for.
pipe : transcript_of [] (codes "pool 64\nuser a\nuser b\nopen a pipe0{ 4 4\nopen b pipe0} 2 2\nput a pipe0{ 2 ff:ff:ff:ff:ff:ff 02:00:00:00:00:0a 14 00\ntx a pipe0{\nrx b pipe0}\ntx a pipe0{\nrx b pipe0}\ntx a pipe0{\n") ≡ codes "vale 2 pool 64\n1 enter 1\n2 enter 2\n3 1 open pipe0{ 4 4 0 = ok\n4 2 open pipe0} 2 2 0 = ok\n5 1 put 3 2 = took 2:ffffffffffff02000000000a88b5 to -\n6 2 get 4 - = gave 1 to -\n7 1 put 3 1 = took - to -\n8 2 get 4 2 = gave 0 to -\n9 1 put 3 1 = took 3:ffffffffffff02000000000a88b5 to -\n10 1 shut 3\n11 1 finish 3 12-13,4-5 found 0 astray 0 = unread 0\n12 1 leave\n13 2 shut 4\n14 2 finish 4 10-11 found 0 astray 0 = unread 1\n15 2 leave\nend 15 free 64\n"
unfolding transcript_of
pipe = refl

-- The other end comes later, and the frames are offered again.
peer_comes : transcript_of [] (codes "pool 64\nuser a\nopen a pipe0{ 4 4\nput a pipe0{ 1 ff:ff:ff:ff:ff:ff 02:00:00:00:00:0a 14 00\ntx a pipe0{\nuser b\nopen b pipe0} 4 4\ntx a pipe0{\n") ≡ codes "vale 2 pool 64\n1 enter 1\n2 1 open pipe0{ 4 4 0 = ok\n3 1 put 2 1 = peergone\n4 enter 2\n5 4 open pipe0} 4 4 0 = ok\n6 1 put 2 1 = took 2:ffffffffffff02000000000a88b5 to -\n7 1 shut 2\n8 1 finish 2 14,3-5 found 0 astray 0 = unread 0\n9 1 leave\n10 4 shut 5\n11 4 finish 5 10-13 found 0 astray 0 = unread 1\n12 4 leave\nend 12 free 64\n"
unfolding transcript_of
peer_comes = refl

-- A monitor of what a port sends.
transmit_monitor : transcript_of [] (codes "pool 64\nuser a\nuser b\nuser m\nopen a vale0:a 4 4\nopen b vale0:b 4 4\nopen m mon0 0 2\nwatch m mon0 vale0:a t\nput a vale0:a 2 ff:ff:ff:ff:ff:ff 02:00:00:00:00:0a 14 00\ntx a vale0:a\nrx m mon0\nwatch m mon0 vale0:a t\nwatch m mon0 vale9:x t\n") ≡ codes "vale 2 pool 64\n1 enter 1\n2 enter 2\n3 enter 3\n4 1 open vale0:a 4 4 0 = ok\n5 2 open vale0:b 4 4 0 = ok\n6 3 open mon0 0 2 0 = ok\n7 3 watch 6 vale0:a t = ok 4\n8 1 send 4 ffffffffffff02000000000a88b5,ffffffffffff02000000000a88b5 = short 0 lone 0 to 5*2,6*2\n9 1 grant 8 5 = given 2 full 0 gone 0\n10 1 done 9\n11 1 grant 8 6 = given 1 full 1 gone 0\n12 1 done 11\n13 3 sync 6 - = gave 1 to -\n14 3 watch 6 vale0:a t = watched 6\n15 3 watch 6 vale9:x t = notarget\n16 1 shut 4\n17 1 finish 4 2-5 found 0 astray 0 = unread 0\n18 1 leave\n19 2 shut 5\n20 2 finish 5 10-13 found 0 astray 0 = unread 2\n21 2 leave\n22 3 shut 6\n23 3 finish 6 18 found 0 astray 0 = unread 0\n24 3 leave\nend 24 free 64\n"
unfolding transcript_of
transmit_monitor = refl

-- A monitor of what a port receives.
receive_monitor : transcript_of [] (codes "pool 64\nuser a\nuser b\nuser m\nopen a vale0:a 4 4\nopen b vale0:b 4 4\nopen m mon0 0 2\nwatch m mon0 vale0:b r\nput a vale0:a 1 ff:ff:ff:ff:ff:ff 02:00:00:00:00:0a 14 00\ntx a vale0:a\nrx b vale0:b\nrx m mon0\n") ≡ codes "vale 2 pool 64\n1 enter 1\n2 enter 2\n3 enter 3\n4 1 open vale0:a 4 4 0 = ok\n5 2 open vale0:b 4 4 0 = ok\n6 3 open mon0 0 2 0 = ok\n7 3 watch 6 vale0:b r = ok 5\n8 1 send 4 ffffffffffff02000000000a88b5 = short 0 lone 0 to 5*1\n9 1 grant 8 5 = given 1 full 0 gone 0\n10 1 done 9\n11 2 sync 5 - = gave 1 to 6*1\n12 2 grant 11 6 = given 1 full 0 gone 0\n13 2 done 12\n14 3 sync 6 - = gave 1 to -\n15 1 shut 4\n16 1 finish 4 2-5 found 0 astray 0 = unread 0\n17 1 leave\n18 2 shut 5\n19 2 finish 5 10-14 found 0 astray 0 = unread 0\n20 2 leave\n21 3 shut 6\n22 3 finish 6 18 found 0 astray 0 = unread 0\n23 3 leave\nend 23 free 64\n"
unfolding transcript_of
receive_monitor = refl

-- A put into a full ring sends it first; a put whose sync is refused ends its line, and the next line goes on.
full_ring : transcript_of [] (codes "pool 64\nuser a\nuser b\nopen a vale0:a 3 4\nopen b vale0:b 4 2\nput a vale0:a 3 ff:ff:ff:ff:ff:ff 02:00:00:00:00:0a 14 00\npoke a vale0:a tx 2 idx 1\nput a vale0:a 4 ff:ff:ff:ff:ff:ff 02:00:00:00:00:0a 14 00\nhex a vale0:a 0102\ntx a vale0:a\nrx b vale0:b keep\nstat a vale0:a\nstat b vale0:b\n") ≡ codes "vale 2 pool 64\n1 enter 1\n2 enter 2\n3 1 open vale0:a 3 4 0 = ok\n4 2 open vale0:b 4 2 0 = ok\n5 1 send 3 ffffffffffff02000000000a88b5,ffffffffffff02000000000a88b5 = short 0 lone 0 to 4*2\n6 1 grant 5 4 = given 1 full 1 gone 0\n7 1 done 6\n8 1 reset 3 tx indexout 2 1\n9 1 send 3 0102 = short 1 lone 0 to -\n10 2 sync 4 - = gave 1 to -\n11 1 stat 3 = sent 3 short 1 lone 0 given 0 full 0 read 0\n12 2 stat 4 = sent 0 short 0 lone 0 given 1 full 1 read 1\n13 1 shut 3\n14 1 finish 3 2-4 found 0 astray 0 = unread 0\n15 1 leave\n16 2 shut 4\n17 2 finish 4 9-13 found 0 astray 0 = unread 0\n18 2 leave\nend 18 free 64\n"
unfolding transcript_of
full_ring = refl

-- A refused opening: its lines do nothing, and the name can be opened again after its close.
refused_opening : transcript_of [] (codes "pool 64\nuser a\nuser b\nopen a vale0:a 4 4\nopen b vale0:a 4 4\nput b vale0:a 2 ff:ff:ff:ff:ff:ff 02:00:00:00:00:0b 14 00\ntx b vale0:a\nstat b vale0:a\nswap b vale0:a tx 0 vale0:a tx 1\nclose b vale0:a\nclose a vale0:a\nopen b vale0:a 4 4 1\n") ≡ codes "vale 2 pool 64\n1 enter 1\n2 enter 2\n3 1 open vale0:a 4 4 0 = ok\n4 2 open vale0:a 4 4 0 = nametaken\n5 1 shut 3\n6 1 finish 3 2-5 found 0 astray 0 = unread 0\n7 2 open vale0:a 4 4 1 = ok\n8 1 leave\n9 2 shut 7\n10 2 finish 7 2-5,10 found 1 astray 0 = unread 0\n11 2 leave\nend 11 free 64\n"
unfolding transcript_of
refused_opening = refl

-- Frames forwarded without a copy, from a switch to a pipe.
forwarded : transcript_of [] (codes "pool 64\nuser a\nuser b\nopen a vale0:a 4 4\nopen b vale0:b 2 4\nopen b pipe1{ 4 2\nopen a pipe1} 2 3\nput a vale0:a 3 ff:ff:ff:ff:ff:ff 02:00:00:00:00:0a 14 07\ntx a vale0:a\nrx b vale0:b\nfwd b vale0:b pipe1{ 5\ntx b pipe1{\nrx a pipe1}\nrx b vale0:b\n") ≡ codes "vale 2 pool 64\n1 enter 1\n2 enter 2\n3 1 open vale0:a 4 4 0 = ok\n4 2 open vale0:b 2 4 0 = ok\n5 2 open pipe1{ 4 2 0 = ok\n6 1 open pipe1} 2 3 0 = ok\n7 1 send 3 ffffffffffff02000000000a88b5,ffffffffffff02000000000a88b5,ffffffffffff02000000000a88b5 = short 0 lone 0 to 4*3\n8 1 grant 7 4 = given 3 full 0 gone 0\n9 1 done 8\n10 2 sync 4 - = gave 3 to -\n11 2 put 5 3 = took 12:ffffffffffff02000000000a88b5,13:ffffffffffff02000000000a88b5 to -\n12 1 get 6 - = gave 2 to -\n13 2 sync 4 16-18 = gave 0 to -\n14 1 shut 3\n15 1 finish 3 2-5 found 0 astray 0 = unread 0\n16 1 shut 6\n17 1 finish 6 22-23,12-13 found 0 astray 0 = unread 0\n18 1 leave\n19 2 shut 4\n20 2 finish 4 10-11 found 0 astray 0 = unread 0\n21 2 shut 5\n22 2 finish 5 24-25,14,19 found 0 astray 0 = unread 0\n23 2 leave\nend 23 free 64\n"
unfolding transcript_of
forwarded = refl

-- Users of a block, one after another, as the walk has them. A history may hold their entries in another order
-- too.
block : transcript_of [] (codes "pool 64\nuser a\nuser b\nopen a vale0:a 4 4\nopen b vale0:b 4 4\npar\nput a vale0:a 2 ff:ff:ff:ff:ff:ff 02:00:00:00:00:0a 14 01\ntx a vale0:a\nrx b vale0:b\nend\n") ≡ codes "vale 2 pool 64\n1 enter 1\n2 enter 2\n3 1 open vale0:a 4 4 0 = ok\n4 2 open vale0:b 4 4 0 = ok\n5 1 send 3 ffffffffffff02000000000a88b5,ffffffffffff02000000000a88b5 = short 0 lone 0 to 4*2\n6 1 grant 5 4 = given 2 full 0 gone 0\n7 1 done 6\n8 2 sync 4 - = gave 2 to -\n9 1 shut 3\n10 1 finish 3 2-5 found 0 astray 0 = unread 0\n11 1 leave\n12 2 shut 4\n13 2 finish 4 10-15 found 0 astray 0 = unread 0\n14 2 leave\nend 14 free 64\n"
unfolding transcript_of
block = refl

abbrev small_frame : List ℕ
small_frame = 255 ∷ 255 ∷ 255 ∷ 255 ∷ 255 ∷ 255 ∷ 2 ∷ 0 ∷ 0 ∷ 0 ∷ 0 ∷ 10 ∷ 136 ∷ 181 ∷ []

abbrev capture : List (List ℕ)
capture = small_frame ∷ (small_frame ++ 1 ∷ []) ∷ small_frame ∷ (7 ∷ []) ∷ []

abbrev playing_script : List ℕ
playing_script = codes "pool 64\nuser a\nuser b\nopen a vale0:a 4 4\nopen b vale0:b 4 6\nsave b vale0:b out.pcap\nplay a vale0:a in.pcap 3\nrx b vale0:b\n"

-- A capture is played with a sync behind every three frames and behind the last.
played_capture : transcript_of (capture ∷ []) playing_script ≡ codes "vale 2 pool 64\n1 enter 1\n2 enter 2\n3 1 open vale0:a 4 4 0 = ok\n4 2 open vale0:b 4 6 0 = ok\n5 1 send 3 ffffffffffff02000000000a88b5,ffffffffffff02000000000a88b501,ffffffffffff02000000000a88b5 = short 0 lone 0 to 4*3\n6 1 grant 5 4 = given 3 full 0 gone 0\n7 1 done 6\n8 1 send 3 07 = short 1 lone 0 to -\n9 2 sync 4 - = gave 3 to -\n10 1 shut 3\n11 1 finish 3 2-5 found 0 astray 0 = unread 0\n12 1 leave\n13 2 shut 4\n14 2 finish 4 10-16 found 0 astray 0 = unread 0\n15 2 leave\nend 15 free 64\n"
unfolding transcript_of
played_capture = refl

abbrev saved_at_end : Program → Option Stage → List SavedFile
saved_at_end program None = []
saved_at_end program (Some stage) = saved_files program stage.standing.past stage.cast.users

abbrev saved_by_script : Captures → Result Program Fault → List SavedFile
saved_by_script captures (Err fault) = []
saved_by_script captures (Ok program) = saved_at_end program (walk 1000 program captures)

-- What the port gave stands in the file that it saves, each frame with its entry and its place there.
saved_capture : saved_by_script (capture ∷ []) (script_of playing_script) ≡ (record { file = codes "out.pcap"; frames = record { seconds = 9; fraction = 0; bytes = small_frame } ∷ record { seconds = 9; fraction = 1; bytes = small_frame ++ 1 ∷ [] } ∷ record { seconds = 9; fraction = 2; bytes = small_frame } ∷ [] }) ∷ []
unfolding verb_of number_in text_of port_name is_hex_byte is_digits frame_bytes is_mac mac_of is_name is_switch_port_name is_pipe_name is_monitor_name switch_of peer_name digits told_text start_line end_line
saved_capture = refl

abbrev three_frames : List (List ℕ)
three_frames = small_frame ∷ (small_frame ++ 1 ∷ []) ∷ (small_frame ++ 2 ∷ []) ∷ []

-- A put into a ring of one free slot sends before each further frame, and not behind the last.
small_ring : transcript_of [] (codes "pool 4\nuser a\nopen a vale0:a 2 2\nput a vale0:a 3 ff:ff:ff:ff:ff:ff 02:00:00:00:00:0a 14 00\n") ≡ codes "vale 2 pool 4\n1 enter 1\n2 1 open vale0:a 2 2 0 = ok\n3 1 send 2 ffffffffffff02000000000a88b5 = short 0 lone 1 to -\n4 1 send 2 ffffffffffff02000000000a88b5 = short 0 lone 1 to -\n5 1 shut 2\n6 1 finish 2 2-3 found 0 astray 0 = unread 0\n7 1 leave\nend 7 free 4\n"
unfolding transcript_of
small_ring = refl

-- What scripts make of three frames. A refused sync ends its line, a put or a capture, and the next line goes
-- on. Frames that nobody took stay pushed and are accepted; the other end takes one of them later. A monitor of
-- a pipe sees what was taken alone.
abbrev frames_played : List ℕ → List ℕ
frames_played script = transcript_of (three_frames ∷ []) script

three_played :
    (frames_played (codes "pool 4\nuser a\nopen a vale0:a 2 2\nmove a vale0:a tx 5 0\nput a vale0:a 2 ff:ff:ff:ff:ff:ff 02:00:00:00:00:0a 14 00\npoke a vale0:a tx 0 idx 9\nplay a vale0:a f 1\n") ≡ codes "vale 2 pool 4\n1 enter 1\n2 1 open vale0:a 2 2 0 = ok\n3 1 reset 2 tx headout 5 0 1\n4 1 reset 2 tx indexout 0 9\n5 1 shut 2\n6 1 finish 2 2-3 found 0 astray 0 = unread 0\n7 1 leave\nend 7 free 4\n")
    × (frames_played (codes "pool 9\nuser a\nopen a pipe0{ 3 2\nplay a pipe0{ f 1\nmove a pipe0{ tx 0 0\ntx a pipe0{\nput a pipe0{ 3 ff:ff:ff:ff:ff:ff 02:00:00:00:00:0a 14 00\nopen a pipe0} 2 2\ntx a pipe0{\n") ≡ codes "vale 2 pool 9\n1 enter 1\n2 1 open pipe0{ 3 2 0 = ok\n3 1 put 2 1 = peergone\n4 1 reset 2 tx headout 0 1 2\n5 1 put 2 2 = peergone\n6 1 open pipe0} 2 2 0 = ok\n7 1 put 2 2 = took 2:ffffffffffff02000000000a88b5 to -\n8 1 shut 2\n9 1 finish 2 9,3-4 found 0 astray 0 = unread 0\n10 1 shut 6\n11 1 finish 6 7-8 found 0 astray 0 = unread 1\n12 1 leave\nend 12 free 9\n")
    × (frames_played (codes "pool 12\nuser a\nopen a pipe0{ 3 2\nopen a pipe0} 2 2\nopen a mon0 0 2\nwatch a mon0 pipe0{ t\nplay a pipe0{ f 3\n") ≡ codes "vale 2 pool 12\n1 enter 1\n2 1 open pipe0{ 3 2 0 = ok\n3 1 open pipe0} 2 2 0 = ok\n4 1 open mon0 0 2 0 = ok\n5 1 watch 4 pipe0{ t = ok 2\n6 1 put 2 2 = took 2:ffffffffffff02000000000a88b5 to 4*1\n7 1 grant 6 4 = given 1 full 0 gone 0\n8 1 done 7\n9 1 put 2 2 = took - to -\n10 1 shut 2\n11 1 finish 2 9,3-4 found 0 astray 0 = unread 0\n12 1 shut 3\n13 1 finish 3 7-8 found 0 astray 0 = unread 1\n14 1 shut 4\n15 1 finish 4 - found 0 astray 0 = unread 1\n16 1 leave\nend 16 free 12\n")
unfolding transcript_of
three_played = (refl, refl, refl)

-- A refused opening, a save of it, and a later port of the name with a chain of extra buffers.
refused_size : transcript_of [] (codes "pool 7\nuser a\nopen a vale0:a 1 2\nsave a vale0:a g\nclose a vale0:a\nopen a vale0:a 2 2 3\nextra a vale0:a 2 1\n") ≡ codes "vale 2 pool 7\n1 enter 1\n2 1 open vale0:a 1 2 0 = badsize\n3 1 open vale0:a 2 2 3 = ok\n4 1 shut 3\n5 1 finish 3 2-3,6-8 found 2 astray 1 = unread 0\n6 1 leave\nend 6 free 7\n"
unfolding transcript_of
refused_size = refl

-- Two slots swapped and sent; a swap without marks is refused then, as the send took the marks away.
marks_taken : transcript_of [] (codes "pool 5\nuser a\nopen a vale0:a 3 2\nswap a vale0:a tx 0 vale0:a tx 1\nhex a vale0:a ffffffffffff02000000000a88b501\nhex a vale0:a ffffffffffff02000000000a88b502\ntx a vale0:a\nhex a vale0:a 03\ntx a vale0:a\nswap a vale0:a tx 0 vale0:a tx 1 quiet\nhex a vale0:a 04\ntx a vale0:a\n") ≡ codes "vale 2 pool 5\n1 enter 1\n2 1 open vale0:a 3 2 0 = ok\n3 1 send 2 ffffffffffff02000000000a88b501,ffffffffffff02000000000a88b502 = short 0 lone 2 to -\n4 1 send 2 03 = short 1 lone 0 to -\n5 1 reset 2 tx unannounced 0 2 3\n6 1 shut 2\n7 1 finish 2 3,2,4 found 0 astray 0 = unread 0\n8 1 leave\nend 8 free 5\n"
unfolding transcript_of
marks_taken = refl

-- A receive ring at positions that do not fit, with and without `keep`.
receive_positions : transcript_of [] (codes "pool 4\nuser a\nopen a vale0:a 2 2\nmove a vale0:a rx 1 1\nrx a vale0:a keep\nmove a vale0:a rx 1 1\nrx a vale0:a\n") ≡ codes "vale 2 pool 4\n1 enter 1\n2 1 open vale0:a 2 2 0 = ok\n3 1 reset 2 rx headout 1 0 0\n4 1 sync 2 - = gave 0 to -\n5 1 shut 2\n6 1 finish 2 2-3 found 0 astray 0 = unread 0\n7 1 leave\nend 7 free 4\n"
unfolding transcript_of
receive_positions = refl

-- One user with two ports of a switch, grants before completions, and ports closed in order.
three_ports : transcript_of [] (codes "pool 12\nuser a\nopen a vale0:a 2 2\nopen a vale0:b 2 2\nopen a vale0:c 2 2\nhex a vale0:a ffffffffffff02000000000a88b5\ntx a vale0:a\nrx a vale0:b\nfwd a vale0:b vale0:a 9\ntx a vale0:a\nrx a vale0:b\n") ≡ codes "vale 2 pool 12\n1 enter 1\n2 1 open vale0:a 2 2 0 = ok\n3 1 open vale0:b 2 2 0 = ok\n4 1 open vale0:c 2 2 0 = ok\n5 1 send 2 ffffffffffff02000000000a88b5 = short 0 lone 0 to 3*1,4*1\n6 1 grant 5 3 = given 1 full 0 gone 0\n7 1 done 6\n8 1 grant 5 4 = given 1 full 0 gone 0\n9 1 done 8\n10 1 sync 3 - = gave 1 to -\n11 1 send 2 ffffffffffff02000000000a88b5 = short 0 lone 0 to 3*1,4*1\n12 1 grant 11 3 = given 0 full 1 gone 0\n13 1 grant 11 4 = given 0 full 1 gone 0\n14 1 sync 3 3 = gave 0 to -\n15 1 shut 2\n16 1 finish 2 2,8 found 0 astray 0 = unread 0\n17 1 shut 3\n18 1 finish 3 6-7 found 0 astray 0 = unread 0\n19 1 shut 4\n20 1 finish 4 10-11 found 0 astray 0 = unread 1\n21 1 leave\nend 21 free 12\n"
unfolding transcript_of
three_ports = refl

-- A record that is longer than a buffer is passed over at a pipe's end.
passed_over : transcript_of ((small_frame ∷ replicate 2049 0 ∷ (small_frame ++ 1 ∷ []) ∷ []) ∷ []) (codes "pool 12\nuser a\nopen a pipe0{ 3 2\nopen a pipe0} 2 3\nplay a pipe0{ f 3\n") ≡ codes "vale 2 pool 12\n1 enter 1\n2 1 open pipe0{ 3 2 0 = ok\n3 1 open pipe0} 2 3 0 = ok\n4 1 put 2 2 = took 2:ffffffffffff02000000000a88b5,3:ffffffffffff02000000000a88b501 to -\n5 1 shut 2\n6 1 finish 2 9-10,4 found 0 astray 0 = unread 0\n7 1 shut 3\n8 1 finish 3 7-8 found 0 astray 0 = unread 2\n9 1 leave\nend 9 free 12\n"
unfolding transcript_of
passed_over = refl

-- A slot that is marked as going on makes one frame of two; the last one pushed may not be so marked.
marked_slots : transcript_of [] (codes "pool 64\nuser a\nopen a vale0:a 4 4\nput a vale0:a 2 ff:ff:ff:ff:ff:ff 02:00:00:00:00:0a 14 00\npoke a vale0:a tx 0 flags 32\ntx a vale0:a\nput a vale0:a 1 ff:ff:ff:ff:ff:ff 02:00:00:00:00:0a 14 00\npoke a vale0:a tx 2 flags 32\ntx a vale0:a\n") ≡ codes "vale 2 pool 64\n1 enter 1\n2 1 open vale0:a 4 4 0 = ok\n3 1 send 2 ffffffffffff02000000000a88b5ffffffffffff02000000000a88b5 = short 0 lone 1 to -\n4 1 reset 2 tx fragment 2\n5 1 shut 2\n6 1 finish 2 2-5 found 0 astray 0 = unread 0\n7 1 leave\nend 7 free 64\n"
unfolding transcript_of
marked_slots = refl

-- A frame of two slots is not forwarded to a pipe's end, and whole to a port of a switch.
forwarded_whole : transcript_of [] (codes "pool 64\nuser a\nopen a vale0:a 4 4\nopen a vale0:b 4 4\nopen a pipe0{ 4 4\nput a vale0:a 2 ff:ff:ff:ff:ff:ff 02:00:00:00:00:0a 14 00\ntx a vale0:a\nrx a vale0:b\npoke a vale0:b rx 0 flags 32\nfwd a vale0:b pipe0{ 9\ntx a pipe0{\nfwd a vale0:b vale0:b 9\ntx a vale0:b\n") ≡ codes "vale 2 pool 64\n1 enter 1\n2 1 open vale0:a 4 4 0 = ok\n3 1 open vale0:b 4 4 0 = ok\n4 1 open pipe0{ 4 4 0 = ok\n5 1 send 2 ffffffffffff02000000000a88b5,ffffffffffff02000000000a88b5 = short 0 lone 0 to 3*2\n6 1 grant 5 3 = given 2 full 0 gone 0\n7 1 done 6\n8 1 sync 3 - = gave 2 to -\n9 1 put 4 0 = peergone\n10 1 send 3 ffffffffffff02000000000a88b5ffffffffffff02000000000a88b5 = short 0 lone 0 to 2*1\n11 1 grant 10 2 = given 1 full 0 gone 0\n12 1 done 11\n13 1 shut 2\n14 1 finish 2 2-5 found 0 astray 0 = unread 1\n15 1 shut 3\n16 1 finish 3 14-15,12-13,10-11 found 0 astray 0 = unread 0\n17 1 shut 4\n18 1 finish 4 18-21 found 0 astray 0 = unread 0\n19 1 leave\nend 19 free 64\n"
unfolding transcript_of
forwarded_whole = refl
