-- Worked examples of a switch, as theorems that hold by computation.
use Rattle.std.specs.Prelude.{ℕ, ◌≡◌, ◌∷◌, ◌++◌, List, [], Some, map, take, codes, refl}
use Rattle.std.specs.List.{range_with_len}
use Rattle.std.specs.Fmt.{digits}
use Rattle.nm_types.specs.Addresses.{bucket_of}
use Rattle.nm_types.specs.Frames.{Frame}
use Rattle.nm_types.specs.Names.{is_name, is_switch_port_name, is_pipe_name, is_monitor_name, switch_of, peer_name}
use Rattle.nm_types.specs.declared.fault.OpenFault.TheVariants.{BadSize, SwitchesFull, NameTaken, NoBuffers}
use Rattle.vale_entry.specs.declared.entry.Ask.{Ask}
use Rattle.vale_entry.specs.declared.entry.Ask.TheVariants.{Open, Send, Grant, Sync, Shut, Finish}
use Rattle.vale_entry.specs.declared.entry.Entry.{Entry}
use Rattle.vale_entry.specs.declared.entry.Reply.TheVariants.{Made, Opened, Refused, Offered, Shared, Gave, Unread, LeasesOut}
use Rattle.vale_entry.specs.World.{World, Offer, free_count}
use Rattle.vale_entry.specs.Grant.{grant_reply, after_grant}
use Rattle.vale_entry.specs.Legal.{standing_of, world_of, holdings_of, reply_to}
use Rattle.vale_entry.specs.Delivered.{given_frames, read_frames, unread_counts}
use Rattle.vale_entry.specs.Fate.{Pending, Given, Full, Gone, fates_at, entries_of, brought_between}
use Rattle.vale_entry.specs.Transcript.{transcript_text, text_of, start_line, end_line}
use Rattle.vale_entry.specs.RowWords.{AreLegal, are_legal, entry, port, session, entered, opening, opened, completes, delivered, left, no_chain, dest, bytes, marked, mac, everyone, packet, frame_f, frame_h}

-- Two users with a port each, and three of them: what most runs begin with.
abbrev two_ports : List Entry
two_ports =
    entered 1
    ∷ entered 2
    ∷ opened 1 (codes "vale0:a") 4 4
    ∷ opened 2 (codes "vale0:b") 4 4
    ∷ []

abbrev three_ports : List Entry
three_ports =
    entered 1
    ∷ entered 2
    ∷ entered 3
    ∷ opened 1 (codes "vale0:a") 4 4
    ∷ opened 2 (codes "vale0:b") 4 4
    ∷ opened 3 (codes "vale0:c") 4 4
    ∷ []

-- and three ports of one user, with smaller rings
abbrev small_port : List ℕ → Entry
small_port name = opened 1 name 2 2

abbrev ports_of_one : List Entry
ports_of_one =
    entered 1 ∷ map small_port (codes "vale0:a" ∷ codes "vale0:b" ∷ codes "vale0:c" ∷ [])

-- the first user's frame to all, and then the second one's, of which each of the others is given one
abbrev flooded : Frame → List Entry
flooded frame =
    three_ports
    ++ entry 1 (Send (port 4) (frame ∷ [])) (Offered 0 0 (dest 5 1 ∷ dest 6 1 ∷ []))
    ∷ delivered 1 7 5 8
    ++ delivered 1 7 6 10

abbrev flooded_twice : Frame → Frame → List Entry
flooded_twice first second =
    flooded first
    ++ entry 2 (Send (port 5) (second ∷ [])) (Offered 0 0 (dest 4 1 ∷ dest 6 1 ∷ []))
    ∷ delivered 2 12 4 13
    ++ delivered 2 12 6 15

-- The first run: one broadcast frame, of 60 bytes, reaches the other port.
abbrev pub first_run_of : Frame → List Entry
first_run_of frame =
    two_ports
    ++ entry 1 (Send (port 3) (frame ∷ [])) (Offered 0 0 (dest 4 1 ∷ []))
    ∷ delivered 1 5 4 6
    ++ entry 2 (Sync (port 4) []) (Gave 1 [])
    ∷ []

abbrev pub first_run : List Entry
first_run = first_run_of frame_h

abbrev first_run_lines : List ℕ
first_run_lines =
    codes "vale 2 pool 8192\n1 enter 1\n2 enter 2\n3 1 open vale0:a 4 4 0 = ok\n"
    ++ codes "4 2 open vale0:b 4 4 0 = ok\n"
    ++ codes "5 1 send 3 ffffffffffff02000000000a88b511111111111111111111111111111111111111111"
    ++ codes "111111111111111111111111111111111111111111111111111 = short 0 lone 0 to 4*1\n"
    ++ codes "6 1 grant 5 4 = given 1 full 0 gone 0\n7 1 done 6\n8 2 sync 4 - = gave 1 to -\n"

first_run-text : transcript_text 8192 first_run ≡ first_run_lines ++ codes "end 8 free 8176\n"
unfolding digits text_of start_line end_line is_name is_switch_port_name is_pipe_name
    is_monitor_name switch_of
first_run-text = refl

-- A learned address: the frame to it goes to one port; the third got the broadcast alone.
abbrev pub learned_unicast : List Entry
learned_unicast =
    flooded frame_f
    ++ entry 2 (Send (port 5) (packet (mac 10) (mac 11) ∷ [])) (Offered 0 0 (dest 4 1 ∷ []))
    ∷ delivered 2 12 4 13
    ++ entry 1 (Sync (port 4) []) (Gave 1 [])
    ∷ entry 3 (Sync (port 6) []) (Gave 1 [])
    ∷ []

-- A frame of 13 bytes goes nowhere and is counted short.
abbrev pub short_frame : List Entry
short_frame =
    two_ports
    ++ entry 1 (Send (port 3) (bytes (take 13 frame_f.bytes) ∷ frame_f ∷ []))
    (Offered 1 0 (dest 4 1 ∷ []))
    ∷ []

-- A frame to the sender's own address is named for nobody and counted lone.
abbrev pub frame_to_itself : List Entry
frame_to_itself =
    take 7 (first_run_of frame_f)
    ++ entry 1 (Send (port 3) (packet (mac 10) (mac 10) ∷ [])) (Offered 0 1 [])
    ∷ []

-- Two addresses of one bucket: the newer hides the older.
abbrev pub bucket_shared_by_two_addresses : List Entry
bucket_shared_by_two_addresses =
    flooded_twice (packet everyone (mac 1)) (packet everyone (2 ∷ 0 ∷ 0 ∷ 1 ∷ 0 ∷ 0 ∷ []))
    ++ entry 3 (Send (port 6) (packet (mac 1) (mac 12) ∷ []))
    (Offered 0 0 (dest 4 1 ∷ dest 5 1 ∷ []))
    ∷ delivered 3 17 4 18
    ++ delivered 3 17 5 20
    ++ entry 3 (Send (port 6) (packet (2 ∷ 0 ∷ 0 ∷ 1 ∷ 0 ∷ 0 ∷ []) (mac 12) ∷ []))
    (Offered 0 0 (dest 5 1 ∷ []))
    ∷ []

-- A lot that is done waits for one granted before it.
abbrev pub published_in_lease_order : List Entry
published_in_lease_order =
    take 10 (flooded frame_f)
    ++ entry 2 (Send (port 5) (packet everyone (mac 11) ∷ []))
    (Offered 0 0 (dest 4 1 ∷ dest 6 1 ∷ []))
    ∷ delivered 2 11 4 12
    ++ delivered 2 11 6 14
    ++ entry 3 (Sync (port 6) []) (Gave 0 [])
    ∷ entry 1 (completes 10) Made
    ∷ entry 3 (Sync (port 6) []) (Gave 2 [])
    ∷ []

-- A ring of two slots takes one frame; the others are counted full.
abbrev pub ring_full : List Entry
ring_full =
    take 3 two_ports
    ++ opened 2 (codes "vale0:b") 2 2
    ∷ entry 1 (Send (port 3) (frame_f ∷ frame_f ∷ frame_f ∷ [])) (Offered 0 0 (dest 4 3 ∷ []))
    ∷ entry 1 (Grant 5 (port 4)) (Shared 1 2 0)
    ∷ entry 1 (completes 6) Made
    ∷ entry 2 (Sync (port 4) []) (Gave 1 [])
    ∷ entry 2 (Sync (port 4) (12 ∷ [])) (Gave 0 [])
    ∷ []

-- Openings that the pool or the sizes refuse: each is an entry.
abbrev pub refused_openings : List Entry
refused_openings =
    entered 1
    ∷ opened 1 (codes "vale0:a") 4 4
    ∷ entry 1 (opening 1 (codes "vale0:b") 2 2) (Refused (NoBuffers 4 2))
    ∷ entry 1 (opening 1 (codes "vale0:c") 1 2) (Refused BadSize)
    ∷ entry 1 (Open (session 1) (codes "vale0:d") 2 2 3) (Refused (NoBuffers 7 2))
    ∷ entry 1 (Open (session 1) (codes "vale0:e") 2 2 1025) (Refused BadSize)
    ∷ []

-- A fifth switch is refused, and a name that is there.
abbrev pub full_switches : List Entry
full_switches =
    entered 1
    ∷ entered 2
    ∷ map small_port
    (codes "vale0:a" ∷ codes "vale1:a" ∷ codes "vale2:a" ∷ codes "vale3:a" ∷ [])
    ++ entry 1 (opening 1 (codes "vale4:a") 2 2) (Refused SwitchesFull)
    ∷ entry 2 (opening 2 (codes "vale0:a") 2 2) (Refused NameTaken)
    ∷ opened 2 (codes "vale3:b") 2 2
    ∷ []

-- A frame whose destination is the source that it teaches itself is named for nobody: it is learned
-- first.
abbrev pub own_address_first : List Entry
own_address_first =
    two_ports
    ++ entry 1 (Send (port 3) (packet (mac 10) (mac 10) ∷ [])) (Offered 0 1 [])
    ∷ []

-- What one switch has learned, and its ports, are nothing to another.
abbrev pub two_switches : List Entry
two_switches =
    take 3 two_ports
    ++ opened 2 (codes "vale1:b") 4 4
    ∷ opened 2 (codes "vale1:c") 4 4
    ∷ entry 1 (Send (port 3) (frame_f ∷ [])) (Offered 0 1 [])
    ∷ entry 2 (Send (port 4) (packet (mac 10) (mac 11) ∷ [])) (Offered 0 0 (dest 5 1 ∷ []))
    ∷ []

-- A port that is shut is named for nothing: neither by a flood nor by its address.
abbrev pub shut_port_is_not_named : List Entry
shut_port_is_not_named =
    three_ports
    ++ entry 3 (Send (port 6) (packet (mac 12) (mac 12) ∷ [])) (Offered 0 1 [])
    ∷ entry 3 (Shut (port 6)) Made
    ∷ entry 1 (Send (port 4) (frame_f ∷ packet (mac 12) (mac 10) ∷ []))
    (Offered 0 0 (dest 5 2 ∷ []))
    ∷ []

-- The newest pair of a bucket hides the older one also once its port is shut: nothing older comes
-- back.
abbrev pub nothing_older_comes_back : List Entry
nothing_older_comes_back =
    ports_of_one
    ++ small_port (codes "vale0:d")
    ∷ entry 1 (Send (port 3) (packet (mac 1) (mac 1) ∷ [])) (Offered 0 1 [])
    ∷ entry 1 (Send (port 4) (packet (2 ∷ 0 ∷ 0 ∷ 1 ∷ 0 ∷ 0 ∷ [])
    (2 ∷ 0 ∷ 0 ∷ 1 ∷ 0 ∷ 0 ∷ []) ∷ []))
    (Offered 0 1 [])
    ∷ entry 1 (Shut (port 4)) Made
    ∷ entry 1 (Send (port 2) (packet (mac 1) (mac 10) ∷ []))
    (Offered 0 0 (dest 3 1 ∷ dest 5 1 ∷ []))
    ∷ []

-- A bucket is the xor of the address's three halves, modulo 1024: two addresses whose buckets
-- differ by 512 do not hide one another.
bucket_of_257 : bucket_of (2 ∷ 0 ∷ 3 ∷ 0 ∷ 4 ∷ 1 ∷ []) ≡ 257
bucket_of_257 = refl

bucket_of_769 : bucket_of (2 ∷ 0 ∷ 0 ∷ 0 ∷ 5 ∷ 1 ∷ []) ≡ 769
bucket_of_769 = refl

abbrev pub buckets_are_1024 : List Entry
buckets_are_1024 =
    ports_of_one
    ++ entry 1 (Send (port 2) (packet (mac 1) (mac 1) ∷ [])) (Offered 0 1 [])
    ∷ entry 1 (Send (port 3) (packet (2 ∷ 0 ∷ 0 ∷ 0 ∷ 2 ∷ 1 ∷ [])
    (2 ∷ 0 ∷ 0 ∷ 0 ∷ 2 ∷ 1 ∷ []) ∷ []))
    (Offered 0 1 [])
    ∷ entry 1 (Send (port 4) (packet (mac 1) (mac 12) ∷ [])) (Offered 0 0 (dest 2 1 ∷ []))
    ∷ []

-- A taken name is refused as such also where the pool has too few buffers.
abbrev pub name_before_buffers : List Entry
name_before_buffers =
    entered 1
    ∷ opened 1 (codes "vale0:a") 4 4
    ∷ entry 1 (opening 1 (codes "vale0:a") 2 2) (Refused NameTaken)
    ∷ []

-- Transmit slots take the smallest buffers, then receive slots, then extras.
abbrev pub extras_come_last : List Entry
extras_come_last =
    entered 1
    ∷ entry 1 (Open (session 1) (codes "vale0:a") 2 2 1) Opened
    ∷ entry 1 (Shut (port 2)) Made
    ∷ entry 1 (Finish (port 2) (2 ∷ 3 ∷ 6 ∷ []) (record { found = 1; astray = 0 })) (Unread 0)
    ∷ []

-- A group source is not learned: it hides no address of its bucket.
abbrev pub group_source : List Entry
group_source =
    flooded_twice frame_f (packet everyone (3 ∷ 0 ∷ 1 ∷ 0 ∷ 0 ∷ 10 ∷ []))
    ++ entry 3 (Send (port 6) (packet (mac 10) (mac 12) ∷ [])) (Offered 0 0 (dest 4 1 ∷ []))
    ∷ []

-- A frame marked no-learn teaches nothing.
abbrev pub no_learn_mark : List Entry
no_learn_mark =
    flooded (marked frame_f)
    ++ entry 2 (Send (port 5) (packet (mac 10) (mac 11) ∷ []))
    (Offered 0 0 (dest 4 1 ∷ dest 6 1 ∷ []))
    ∷ []

-- The first run with its closing: all buffers are free at the end.
abbrev pub first_run_whole : List Entry
first_run_whole = first_run ++ (
    entry 1 (Shut (port 3)) Made
    ∷ entry 1 (Finish (port 3) (2 ∷ 3 ∷ 4 ∷ 5 ∷ []) no_chain) (Unread 0)
    ∷ entry 1 (left 1) Made
    ∷ entry 2 (Shut (port 4)) Made
    ∷ entry 2 (Finish (port 4) (10 ∷ 11 ∷ 12 ∷ 13 ∷ 14 ∷ []) no_chain) (Unread 0)
    ∷ entry 2 (left 2) Made
    ∷ [])

first_run_whole-text : transcript_text 8192 first_run_whole
    ≡ first_run_lines
    ++ codes "9 1 shut 3\n10 1 finish 3 2-5 found 0 astray 0 = unread 0\n11 1 leave\n"
    ++ codes "12 2 shut 4\n13 2 finish 4 10-14 found 0 astray 0 = unread 0\n14 2 leave\n"
    ++ codes "end 14 free 8192\n"
unfolding digits text_of start_line end_line is_name is_switch_port_name is_pipe_name
    is_monitor_name switch_of
first_run_whole-text = refl

first_run_whole-free : (holdings_of 8192 first_run_whole).free ≡ range_with_len 2 8192
unfolding is_name is_switch_port_name is_pipe_name is_monitor_name switch_of peer_name
first_run_whole-free = refl

-- what ends the third user's port
abbrev finish_third : Ask
finish_third = Finish (port 6) (18 ∷ 19 ∷ 20 ∷ 21 ∷ []) no_chain

-- A port that was gone when its offer was granted gets nothing, though its name is open again.
abbrev pub offer_to_reopened_port : List Entry
offer_to_reopened_port = take 7 learned_unicast ++ (
    entry 3 (Shut (port 6)) Made
    ∷ entry 3 finish_third (Unread 0)
    ∷ opened 3 (codes "vale0:c") 4 4
    ∷ delivered 1 7 5 11
    ++ entry 1 (Grant 7 (port 6)) (Shared 0 0 1)
    ∷ [])

-- A port that is shut waits for the lease of another session; then its frame is counted unread.
abbrev pub lease_to_shut_port : List Entry
lease_to_shut_port = take 10 learned_unicast ++ (
    entry 3 (Shut (port 6)) Made
    ∷ [])

-- The same, once the lease is done.
abbrev pub finish_waits_for_leases : List Entry
finish_waits_for_leases = lease_to_shut_port ++ (
    entry 1 (completes 10) Made
    ∷ entry 3 finish_third (Unread 1)
    ∷ [])

finish_waits :
    (reply_to (standing_of 64 lease_to_shut_port) finish_third ≡ Some (LeasesOut 1))
    × (free_count (world_of 64 finish_waits_for_leases) ≡ 48)
unfolding is_name is_switch_port_name is_pipe_name is_monitor_name switch_of peer_name
finish_waits = (refl, refl)

-- An offer to a port that is not open: all its frames are gone, and the offer is granted.
abbrev pub after_first_send : World
after_first_send = world_of 64 (take 7 learned_unicast)

abbrev pub without_third_port : World
without_third_port = record after_first_send { ports = take 2 after_first_send.ports }

abbrev offer_to_third : Offer
offer_to_third = record { origin = 7; session = 1; to = 6; frames = frame_f ∷ [] }

offer_to_gone_port :
    (grant_reply without_third_port offer_to_third ≡ Shared 0 0 1)
    × ((after_grant without_third_port offer_to_third).ports ≡ without_third_port.ports)
unfolding is_name is_switch_port_name is_pipe_name is_monitor_name switch_of peer_name
offer_to_gone_port = (refl, refl)

-- Each entry of these histories, which begin with a pool of 64, of 10 or of 8192 buffers, is the one
-- that its ask makes.
abbrev runs : List (List Entry)
runs =
    learned_unicast
    ∷ short_frame
    ∷ frame_to_itself
    ∷ bucket_shared_by_two_addresses
    ∷ published_in_lease_order
    ∷ ring_full
    ∷ full_switches
    ∷ own_address_first
    ∷ two_switches
    ∷ shut_port_is_not_named
    ∷ nothing_older_comes_back
    ∷ buckets_are_1024
    ∷ group_source
    ∷ no_learn_mark
    ∷ offer_to_reopened_port
    ∷ finish_waits_for_leases
    ∷ []

abbrev runs_of_10 : List (List Entry)
runs_of_10 = refused_openings ∷ name_before_buffers ∷ extras_come_last ∷ []

abbrev runs_of_8192 : List (List Entry)
runs_of_8192 = first_run ∷ first_run_whole ∷ []

runs-legal : AreLegal 64 runs × AreLegal 10 runs_of_10 × AreLegal 8192 runs_of_8192
unfolding is_name is_switch_port_name is_pipe_name is_monitor_name switch_of peer_name
runs-legal =
    (are_legal 64 runs refl, are_legal 10 runs_of_10 refl, are_legal 8192 runs_of_8192 refl)

-- What was given, read and left unread in these histories, and what became of each frame: of three
-- frames one is given and read; a frame that waited for its lease is given and not read.
ring_full-frames :
    (given_frames 64 ring_full 4 ≡ frame_f ∷ [])
    × (read_frames 64 ring_full 4 ≡ frame_f ∷ [])
    × (fates_at 64 ring_full 5 4 ≡ Given ∷ Full ∷ Full ∷ [])
unfolding is_name is_switch_port_name is_pipe_name is_monitor_name switch_of peer_name
ring_full-frames = (refl, refl, refl)

finish_waits_for_leases-frames :
    (given_frames 64 finish_waits_for_leases 6 ≡ frame_f ∷ [])
    × (read_frames 64 finish_waits_for_leases 6 ≡ [])
    × (unread_counts finish_waits_for_leases 6 ≡ 1 ∷ [])
unfolding is_name is_switch_port_name is_pipe_name is_monitor_name switch_of peer_name
finish_waits_for_leases-frames = (refl, refl, refl)

-- what is offered waits; nothing comes of it for the port that was gone, nor for the one that has its
-- name
first_send-fates : fates_at 64 (take 7 learned_unicast) 7 6 ≡ Pending ∷ []
unfolding is_name is_switch_port_name is_pipe_name is_monitor_name switch_of peer_name
first_send-fates = refl

offer_to_reopened_port-frames :
    (fates_at 64 offer_to_reopened_port 7 6 ≡ Gone ∷ [])
    × (given_frames 64 offer_to_reopened_port 6 ++ given_frames 64 offer_to_reopened_port 10 ≡ [])
unfolding is_name is_switch_port_name is_pipe_name is_monitor_name switch_of peer_name
offer_to_reopened_port-frames = (refl, refl)

-- two senders of one port: each has its entry and its grant
published_in_lease_order-senders :
    (entries_of 64 published_in_lease_order 4
    ++ entries_of 64 published_in_lease_order 5
    ≡ 7 ∷ 11 ∷ [])
    × (brought_between 64 published_in_lease_order 4 6
    ≡ (record { origin = 7; frames = frame_f ∷ [] }) ∷ [])
unfolding is_name is_switch_port_name is_pipe_name is_monitor_name switch_of peer_name
published_in_lease_order-senders = (refl, refl)
