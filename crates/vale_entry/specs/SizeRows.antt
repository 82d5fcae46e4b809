-- Frames over several slots, numbers at the ends of their fields, and the two versions of a text, worked as
-- theorems that hold by computation.
use Rattle.std.specs.Prelude.{ℕ, ◌≡◌, ◌∷◌, List, [], true, false, map, replicate, length, codes, Some, None, refl}
use Rattle.std.specs.Fmt.{digits}
use Rattle.nm_types.specs.Frames.{Frame}
use Rattle.nm_types.specs.declared.fault.SyncFault.TheVariants as faults
use Rattle.vale_entry.specs.declared.entry.Ask.TheVariants.{Enter, Send, Grant, Finish, PutKept, Get, Leave, Put}
use Rattle.vale_entry.specs.declared.entry.Reply.TheVariants.{Made, Offered, Shared, Gave, Took, Unread}
use Rattle.vale_entry.specs.Counters.{count_sent, count_shared, count_put}
use Rattle.vale_entry.specs.Delivery.{delivered_frames, port_after_sync}
use Rattle.vale_entry.specs.Grant.{longest_fitting, grant_reply_at, room_back}
use Rattle.vale_entry.specs.Holdings.{with_lot_buffers, with_free}
use Rattle.vale_entry.specs.Legal.{fits_u16, fits_u32, fits_u64, fits_chain, fits_fault, fresh_standing, is_enabled}
use Rattle.vale_entry.specs.Pipe.{is_pipe_item, taken_count}
use Rattle.vale_entry.specs.Room.{bytes_of, owed_by_port}
use Rattle.vale_entry.specs.Transcript.{buffers_text, dests_rise, is_printable}
use Rattle.vale_entry.specs.World.{Port, Lot, space_of, due_of}
use Rattle.vale_entry.specs.RowWords.{port, session, dest, bytes, marked, item, no_chain, counters}

-- frames that take one slot, two and three
abbrev frame_of : ℕ → Frame
frame_of len = bytes (replicate len 7)

abbrev one : Frame
one = frame_of 2048

abbrev two : Frame
two = frame_of 2049

abbrev three : Frame
three = frame_of 4097

-- how many of these frames fit so many slots: none behind the first one that does not fit
abbrev fitting : List Frame → ℕ → ℕ
fitting frames room = length (longest_fitting room frames)

fitting_frames : map (fitting (one ∷ two ∷ one ∷ [])) (0 ∷ 1 ∷ 2 ∷ 3 ∷ 4 ∷ 9 ∷ []) ≡ 0 ∷ 1 ∷ 1 ∷ 2 ∷ 3 ∷ 3 ∷ []
fitting_frames = refl

fitting_long_first : map (fitting (three ∷ one ∷ [])) (1 ∷ 2 ∷ 3 ∷ 4 ∷ []) ≡ 0 ∷ 0 ∷ 1 ∷ 2 ∷ []
fitting_long_first = refl

abbrev lot : ℕ → Frame → Lot
lot number frame = record { number = number; session = 1; frames = frame ∷ []; is_done = true }

abbrev port_with : ℕ → List Lot → Port
port_with out line = record { id = 3; session = 2; name = codes "vale0:b"; tx = 4; rx = 8; extra = 2; shutting = false; out = out; line = line }

-- a receive ring of 8 has 7 slots, less the slots of the frames in its line and of those that are out
spaces : map space_of (port_with 0 [] ∷ port_with 0 (lot 6 one ∷ []) ∷ port_with 0 (lot 6 three ∷ []) ∷ port_with 2 (lot 6 three ∷ []) ∷ port_with 3 (lot 6 three ∷ lot 8 one ∷ []) ∷ []) ≡ 7 ∷ 6 ∷ 4 ∷ 2 ∷ 0 ∷ []
spaces = refl

granted : map (grant_reply_at (Some (port_with 2 (lot 6 three ∷ [])))) ((one ∷ one ∷ one ∷ []) ∷ (two ∷ one ∷ []) ∷ (three ∷ []) ∷ []) ≡ Shared 2 1 0 ∷ Shared 1 1 0 ∷ Shared 0 1 0 ∷ []
granted = refl

not_granted : grant_reply_at None (two ∷ one ∷ []) ≡ Shared 0 0 2
not_granted = refl

room_given_back : room_back [] ∷ room_back (one ∷ []) ∷ [] ≡ 1 ∷ 0 ∷ []
room_given_back = refl

-- a sync gives lots up to the first that is not done, and its slots are out, less those brought back
synced : port_after_sync 2 (port_with 3 (lot 6 two ∷ record (lot 7 one) { is_done = false } ∷ lot 8 one ∷ [])) ≡ port_with 3 (record (lot 7 one) { is_done = false } ∷ lot 8 one ∷ [])
synced = refl

delivered : delivered_frames (port_with 3 (lot 6 two ∷ record (lot 7 one) { is_done = false } ∷ lot 8 one ∷ [])) ≡ two ∷ []
delivered = refl

-- a port is finished with its transmit slots, what is out, and its extra buffers
due : due_of (port_with 3 []) ≡ 9
due = refl

-- a lot takes a buffer for each slot
held_lots : with_lot_buffers 3 (record { port = 3; idle = 14 ∷ 15 ∷ 16 ∷ 17 ∷ []; lots = (12 ∷ []) ∷ [] }) ≡ record { port = 3; idle = 17 ∷ []; lots = (12 ∷ []) ∷ (14 ∷ 15 ∷ 16 ∷ []) ∷ [] }
held_lots = refl

freed : map (λ (b : ℕ). with_free b (3 ∷ 7 ∷ [])) (2 ∷ 5 ∷ 9 ∷ []) ≡ (2 ∷ 3 ∷ 7 ∷ []) ∷ (3 ∷ 5 ∷ 7 ∷ []) ∷ (3 ∷ 7 ∷ 9 ∷ []) ∷ []
freed = refl

-- Counters count frames, not slots.

counted : count_sent (three ∷ one ∷ []) (Offered 1 2 (dest 4 1 ∷ [])) ∷ count_shared (Shared 3 4 5) ∷ count_put (Took (item 2 [] ∷ item 3 [] ∷ []) []) ∷ [] ≡ counters 2 1 2 0 0 0 ∷ counters 0 0 0 3 4 0 ∷ counters 2 0 0 0 0 0 ∷ []
counted = refl

-- A pipe takes frames of one slot, without a mark, as many as its other end has space for.

pipe_items : map is_pipe_item (item 2 (replicate 2048 7) ∷ item 2 (replicate 2049 7) ∷ record { index = 2; bytes = marked one } ∷ []) ≡ true ∷ false ∷ false ∷ []
pipe_items = refl

taken : taken_count (Some (port_with 2 (lot 6 three ∷ []))) 5 ∷ taken_count (Some (port_with 2 [])) 3 ∷ taken_count None 3 ∷ [] ≡ 2 ∷ 3 ∷ 0 ∷ []
taken = refl

-- Numbers at the ends of their fields.

sixteen_bits : map fits_u16 (0 ∷ 65535 ∷ 65536 ∷ []) ≡ true ∷ true ∷ false ∷ []
sixteen_bits = refl

thirty_two_bits : map fits_u32 (4294967295 ∷ 4294967296 ∷ []) ≡ true ∷ false ∷ []
thirty_two_bits = refl

sixty_four_bits : map fits_u64 (18446744073709551615 ∷ 18446744073709551616 ∷ []) ≡ true ∷ false ∷ []
sixty_four_bits = refl

users : map (λ (user : ℕ). is_enabled (fresh_standing 64) (Enter user)) (4294967296 ∷ 18446744073709551615 ∷ 18446744073709551616 ∷ []) ≡ true ∷ true ∷ false ∷ []
users = refl

chains : map fits_chain (record { found = 4294967295; astray = 65536 } ∷ record { found = 65536; astray = 4294967295 } ∷ record { found = 4294967296; astray = 0 } ∷ record { found = 0; astray = 4294967296 } ∷ []) ≡ true ∷ true ∷ false ∷ false ∷ []
chains = refl

long_lengths : map fits_fault (faults.LongLen 4294967295 65535 ∷ faults.LongLen 0 65536 ∷ faults.LongLen 4294967296 0 ∷ faults.Fragment 4294967295 ∷ faults.Fragment 4294967296 ∷ []) ≡ true ∷ false ∷ false ∷ true ∷ false ∷ []
long_lengths = refl

-- What a record counts: the bytes of frames that are sent, and of those that a pipe took.

kept_bytes : bytes_of (Send (port 3) (three ∷ one ∷ [])) (Offered 0 0 []) ∷ bytes_of (PutKept (port 3) 3) (Took (item 2 (1 ∷ 2 ∷ []) ∷ item 3 (3 ∷ []) ∷ []) []) ∷ bytes_of (PutKept (port 3) 3) (Took [] []) ∷ bytes_of (Get (port 3) (2 ∷ [])) (Gave 1 []) ∷ [] ≡ 6145 ∷ 3 ∷ 0 ∷ 0 ∷ []
kept_bytes = refl

owed_entries : owed_by_port (port_with 0 []) ∷ owed_by_port (record (port_with 0 []) { shutting = true }) ∷ [] ≡ 2 ∷ 1 ∷ []
owed_entries = refl

-- Spans of buffers in version 2, and the same one by one in version 1.

two_versions : buffers_text 2 (2 ∷ 3 ∷ 4 ∷ 9 ∷ 8 ∷ []) ∷ buffers_text 1 (2 ∷ 3 ∷ 4 ∷ 9 ∷ 8 ∷ []) ∷ buffers_text 1 [] ∷ [] ≡ codes "2-4,9,8" ∷ codes "2,3,4,9,8" ∷ codes "-" ∷ []
unfolding digits
two_versions = refl

-- Which asks and replies stand in a line.

rising : map dests_rise ([] ∷ (dest 4 1 ∷ []) ∷ (dest 4 1 ∷ dest 5 1 ∷ []) ∷ (dest 4 1 ∷ dest 4 1 ∷ []) ∷ (dest 4 1 ∷ dest 6 1 ∷ dest 5 1 ∷ []) ∷ []) ≡ true ∷ true ∷ true ∷ false ∷ false ∷ []
rising = refl

printable : is_printable 3 3 (Enter 7) Made ∷ is_printable 4 3 (Enter 7) Made ∷ is_printable 4 3 (Leave (session 3)) Made ∷ is_printable 4 3 (Leave (session 4)) Made ∷ is_printable 4 3 (PutKept (port 3) 1) (Took (item 2 [] ∷ []) []) ∷ is_printable 4 3 (PutKept (port 3) 1) (Took (record { index = 2; bytes = marked one } ∷ []) []) ∷ is_printable 4 3 (Put (port 3) []) (Took [] []) ∷ is_printable 4 3 (Grant 1 (port 3)) Made ∷ is_printable 4 3 (Finish (port 3) [] no_chain) (Unread 1) ∷ [] ≡ true ∷ false ∷ true ∷ false ∷ true ∷ false ∷ false ∷ false ∷ true ∷ []
printable = refl
