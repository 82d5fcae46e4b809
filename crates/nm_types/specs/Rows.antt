-- Worked addresses, names, slots, sizes and openings, as theorems that hold by computation.
use Rattle.std.specs.Prelude.{ℕ, ◌≡◌, ◌+◌, ◌*◌, ◌^◌, true, false, if◌then◌else◌, List, [], ◌∷◌, map, take, replicate, codes, Option, Some, None, refl}
use Rattle.nm_types.specs.declared.id.Side.TheVariants.{Tx, Rx}
use Rattle.nm_types.specs.declared.id.Counts.{Counts}
use Rattle.nm_types.specs.declared.name.Kind.TheVariants.{Vale, Master, Slave, Monitor}
use Rattle.nm_types.specs.declared.slot.Seen.{Seen}
use Rattle.nm_types.specs.declared.fault.OpenFault.{OpenFault}
use Rattle.nm_types.specs.declared.fault.OpenFault.TheVariants.{BadSize, SwitchesFull, PortsFull, NameTaken}
use Rattle.nm_types.specs.declared.refusal.SlotFault.TheVariants.{Indirect, IndexOut, NotHeld, Doubled, Unannounced, LongLen, Fragment}
use Rattle.nm_types.specs.Addresses.{is_short, destination_address, source_address, is_group, is_learnable, bucket_of}
use Rattle.nm_types.specs.Chain.{link_bytes, link_of, opened_links}
use Rattle.nm_types.specs.Counters.{sum_of_counts}
use Rattle.nm_types.specs.Ends.{frames_from}
use Rattle.nm_types.specs.Exchange.{swapped}
use Rattle.nm_types.specs.Frames.{Frame, size_of_frames, extended}
use Rattle.nm_types.specs.Limits.{most_ports, most_switches, most_switch_ports, most_pipe_ends, most_monitors, most_frame_bytes, most_frame_slots, buffer_bytes, most_entries, most_bytes, first_most_entries, first_most_bytes, most_text}
use Rattle.nm_types.specs.Names.{kind_of, is_switch_port_name, is_pipe_name, is_monitor_name, switch_of, peer_name}
use Rattle.nm_types.specs.Openings.{is_ring_size, are_sizes, open_refusal}
use Rattle.nm_types.specs.OwnEdits.{slot_with_part, sent_slot, stepped, all_stepped}
use Rattle.nm_types.specs.OwnPorts.{OwnRing}
use Rattle.nm_types.specs.Parts.{slots_of_length}
use Rattle.nm_types.specs.Reset.{reset_slot}
use Rattle.nm_types.specs.Sendable.{fits_buffer, is_frame, is_sendable}
use Rattle.nm_types.specs.Slots.{SlotState}
use Rattle.nm_types.specs.SyncChecks.{slot_refusal, is_closing, begun_after}

-- Addresses.

abbrev frame_of : List ℕ → Frame
frame_of bytes = record { bytes = bytes; no_learn = false }

-- the lowest bit of the first byte alone makes a group
groups : map is_group ((0 ∷ 1 ∷ []) ∷ (1 ∷ 0 ∷ []) ∷ (2 ∷ 1 ∷ []) ∷ (3 ∷ []) ∷ (254 ∷ []) ∷ (255 ∷ []) ∷ []) ≡ false ∷ true ∷ false ∷ true ∷ false ∷ true ∷ []
groups = refl

abbrev from_station : ℕ → List ℕ
from_station first = 255 ∷ 255 ∷ 255 ∷ 255 ∷ 255 ∷ 254 ∷ first ∷ 0 ∷ 0 ∷ 0 ∷ 0 ∷ 10 ∷ 136 ∷ 181 ∷ []

addresses : (destination_address (frame_of (from_station 2)) ≡ 255 ∷ 255 ∷ 255 ∷ 255 ∷ 255 ∷ 254 ∷ []) × (source_address (frame_of (from_station 2)) ≡ 2 ∷ 0 ∷ 0 ∷ 0 ∷ 0 ∷ 10 ∷ [])
addresses = (refl, refl)

-- a frame of fewer than 14 bytes is short, and teaches nothing, though it has both addresses
short_frames : map is_short (frame_of [] ∷ frame_of (take 12 (from_station 2)) ∷ frame_of (take 13 (from_station 2)) ∷ frame_of (from_station 2) ∷ []) ≡ true ∷ true ∷ true ∷ false ∷ []
short_frames = refl

taught : map is_learnable (frame_of (take 12 (from_station 2)) ∷ frame_of (take 13 (from_station 2)) ∷ frame_of (from_station 2) ∷ frame_of (from_station 0) ∷ []) ≡ false ∷ false ∷ true ∷ true ∷ []
taught = refl

-- nor does one from a group, or with the mark
not_taught : map is_learnable (frame_of (from_station 1) ∷ frame_of (from_station 3) ∷ record { bytes = from_station 2; no_learn = true } ∷ []) ≡ false ∷ false ∷ false ∷ []
not_taught = refl

-- 0200 xor 0000 xor 000a; 0200 xor 0401, of which the bits above the tenth do not count; ffff three times
buckets_of : map bucket_of ((2 ∷ 0 ∷ 0 ∷ 0 ∷ 0 ∷ 10 ∷ []) ∷ (2 ∷ 0 ∷ 4 ∷ 1 ∷ 0 ∷ 0 ∷ []) ∷ (2 ∷ 0 ∷ 0 ∷ 0 ∷ 0 ∷ 1 ∷ []) ∷ replicate 6 255 ∷ (0 ∷ 1 ∷ 2 ∷ 3 ∷ 0 ∷ 7 ∷ []) ∷ []) ≡ 522 ∷ 513 ∷ 513 ∷ 1023 ∷ 517 ∷ []
buckets_of = refl

-- Names, of at most 16 bytes; only a switch may have no name.

kinds : map kind_of (codes "vale0:a" ∷ codes "vale:a" ∷ codes "vale-_Z:9" ∷ codes "vale0123456789:a" ∷ codes "pipe-{" ∷ codes "pipe0}" ∷ codes "mon-" ∷ codes "mon0123456789abc" ∷ []) ≡ Some Vale ∷ Some Vale ∷ Some Vale ∷ Some Vale ∷ Some Master ∷ Some Slave ∷ Some Monitor ∷ Some Monitor ∷ []
kinds = refl

no_kinds : map kind_of ([] ∷ codes "vale" ∷ codes "vale0:" ∷ codes "vale0:a:b" ∷ codes "vale01234567890:a" ∷ codes "pipe{" ∷ codes "pipe0" ∷ codes "pipe0{}" ∷ codes "mon" ∷ codes "mon0123456789abcd" ∷ codes "mon.0" ∷ codes "Mon0" ∷ []) ≡ replicate 12 None
no_kinds = refl

name_parts : (switch_of (codes "vale0-1:a") ≡ codes "0-1") × ((peer_name (codes "pipe0{") ≡ codes "pipe0}") × (peer_name (codes "pipe0}") ≡ codes "pipe0{"))
unfolding switch_of peer_name
name_parts = (refl, (refl, refl))

-- The checks of a slot at position 3, in order: each of these slots is bad for one cause less.

abbrev slot : ℕ → ℕ → ℕ → SlotState
slot idx len flags = record { buf_idx = idx; len = len; flags = flags; ptr = 0 }

abbrev known : Seen
known = record { was = 2; top = 65; held = true; doubled = false; closing = true }

check_order : slot_refusal Tx (record known { held = false; doubled = true }) 3 (slot 1 2049 48) ∷ slot_refusal Tx (record known { held = false; doubled = true }) 3 (slot 1 2049 32) ∷ slot_refusal Tx (record known { held = false; doubled = true }) 3 (slot 4 2049 32) ∷ slot_refusal Tx (record known { doubled = true }) 3 (slot 4 2049 32) ∷ slot_refusal Tx known 3 (slot 4 2049 32) ∷ slot_refusal Tx known 3 (slot 4 2049 33) ∷ slot_refusal Tx known 3 (slot 4 2048 33) ∷ slot_refusal Tx known 3 (slot 4 2048 1) ∷ [] ≡ Some (Indirect 3) ∷ Some (IndexOut 3 1) ∷ Some (NotHeld 3 4) ∷ Some (Doubled 3 4) ∷ Some (Unannounced 3 4 2) ∷ Some (LongLen 3 2049) ∷ Some (Fragment 3) ∷ None ∷ []
check_order = refl

-- a slot fills its buffer; the buffer that stood there needs no mark; a frame may go on where it need not end
fitting_slots : slot_refusal Tx known 3 (slot 2 2048 0) ∷ slot_refusal Tx known 3 (slot 2 2049 0) ∷ slot_refusal Tx (record known { closing = false }) 3 (slot 2 2048 32) ∷ [] ≡ None ∷ Some (LongLen 3 2049) ∷ None ∷ []
fitting_slots = refl

-- lengths, indirect buffers and ends are not checked in a receive ring
receive_slots : slot_refusal Rx known 3 (slot 2 65535 48) ∷ slot_refusal Rx known 3 (slot 66 0 1) ∷ slot_refusal Rx known 3 (slot 4 0 0) ∷ [] ≡ None ∷ Some (IndexOut 3 66) ∷ Some (Unannounced 3 4 2) ∷ []
receive_slots = refl

index_ends : slot_refusal Tx known 3 (slot 0 0 1) ∷ slot_refusal Tx known 3 (slot 1 0 1) ∷ slot_refusal Tx known 3 (slot 65 0 1) ∷ slot_refusal Tx known 3 (slot 66 0 1) ∷ [] ≡ Some (IndexOut 3 0) ∷ Some (IndexOut 3 1) ∷ None ∷ Some (IndexOut 3 66) ∷ []
index_ends = refl

-- a frame ends in its 64th slot at the latest, in the last one pushed, and at a pipe in each
closing_slots : is_closing false 0 1 ∷ is_closing false 62 1 ∷ is_closing false 63 1 ∷ is_closing false 0 0 ∷ is_closing true 0 1 ∷ [] ≡ false ∷ false ∷ true ∷ true ∷ true ∷ []
closing_slots = refl

begun_slots : begun_after 5 (slot 2 0 32) ∷ begun_after 5 (slot 2 0 31) ∷ [] ≡ 6 ∷ 0 ∷ []
begun_slots = refl

-- What a put, a forward and a reset leave of a slot.

abbrev marked_slot : SlotState
marked_slot = record { buf_idx = 9; len = 5; flags = 65535; ptr = 7 }

-- all flags but those of a former frame, and the pointer
put_slots : slot_with_part false (1 ∷ []) marked_slot ∷ slot_with_part true (1 ∷ 2 ∷ []) marked_slot ∷ slot_with_part true [] (record marked_slot { flags = 0 }) ∷ [] ≡ record { buf_idx = 9; len = 1; flags = 65479; ptr = 7 } ∷ record { buf_idx = 9; len = 2; flags = 65511; ptr = 7 } ∷ record { buf_idx = 9; len = 0; flags = 32; ptr = 7 } ∷ []
put_slots = refl

-- of the received slot the buffer, its length and whether it goes on, of the free one the rest
forwarded_slots : sent_slot (record { buf_idx = 14; len = 60; flags = 40; ptr = 5 }) (record { buf_idx = 10; len = 9; flags = 4; ptr = 6 }) ∷ sent_slot (record { buf_idx = 14; len = 60; flags = 8; ptr = 5 }) (record { buf_idx = 10; len = 9; flags = 36; ptr = 6 }) ∷ [] ≡ record { buf_idx = 14; len = 60; flags = 37; ptr = 6 } ∷ record { buf_idx = 14; len = 60; flags = 5; ptr = 6 } ∷ []
forwarded_slots = refl

reset_slots : reset_slot Tx 2 marked_slot ∷ reset_slot Rx 2 marked_slot ∷ [] ≡ record { buf_idx = 2; len = 0; flags = 0; ptr = 0 } ∷ record { buf_idx = 2; len = 5; flags = 0; ptr = 0 } ∷ []
reset_slots = refl

abbrev ring_at : ℕ → ℕ → OwnRing
ring_at head cur = record { ring = record { size = 4; head = head; cur = cur; tail = 2; accepted_head = 1; last_tail = 2 }; slots = []; held = [] }

-- a put leaves cur at the new head, a forward moves each by one
moved_positions : stepped (ring_at 3 1) ∷ all_stepped (ring_at 3 1) ∷ all_stepped (ring_at 1 3) ∷ [] ≡ ring_at 0 0 ∷ ring_at 0 2 ∷ ring_at 2 0 ∷ []
moved_positions = refl

-- Sizes.

slot_counts : map slots_of_length (0 ∷ 1 ∷ 2048 ∷ 2049 ∷ 4096 ∷ 4097 ∷ 131072 ∷ []) ≡ 1 ∷ 1 ∷ 1 ∷ 2 ∷ 2 ∷ 3 ∷ 64 ∷ []
slot_counts = refl

frame_sizes : size_of_frames (frame_of [] ∷ frame_of (replicate 2048 0) ∷ frame_of (replicate 2049 0) ∷ []) ≡ 4
frame_sizes = refl

buffer_fits : map fits_buffer (frame_of (replicate 2048 0) ∷ frame_of (replicate 2049 0) ∷ []) ≡ true ∷ false ∷ []
buffer_fits = refl

long_frames : map is_frame (frame_of (replicate 131072 0) ∷ frame_of (replicate 131073 0) ∷ []) ≡ true ∷ false ∷ []
long_frames = refl

sendable : map is_sendable ([] ∷ replicate 4095 (frame_of []) ∷ replicate 4096 (frame_of []) ∷ (frame_of (replicate 2049 0) ∷ replicate 4093 (frame_of [])) ∷ (frame_of (replicate 2049 0) ∷ replicate 4094 (frame_of [])) ∷ []) ≡ true ∷ true ∷ false ∷ true ∷ false ∷ []
sendable = refl

frame_limits : (most_frame_bytes ≡ most_frame_slots * buffer_bytes) × (most_ports ≡ most_switches * most_switch_ports + most_pipe_ends + most_monitors)
frame_limits = (refl, refl)

record_limits : most_entries ∷ most_bytes ∷ first_most_entries ∷ first_most_bytes ∷ most_text ∷ [] ≡ 2 ^ 24 ∷ 2 ^ 30 ∷ 2 ^ 23 ∷ 2 ^ 29 ∷ 2 ^ 28 ∷ []
record_limits = refl

-- Openings.

ring_sizes : map is_ring_size (0 ∷ 1 ∷ 2 ∷ 4096 ∷ 4097 ∷ []) ≡ false ∷ false ∷ true ∷ true ∷ false ∷ []
ring_sizes = refl

-- a monitor has no transmit ring, and every other port has one
port_sizes : are_sizes (codes "vale0:a") 2 2 1024 ∷ are_sizes (codes "vale0:a") 2 2 1025 ∷ are_sizes (codes "vale0:a") 0 2 0 ∷ are_sizes (codes "vale0:a") 2 1 0 ∷ are_sizes (codes "mon0") 0 2 0 ∷ are_sizes (codes "mon0") 2 2 0 ∷ [] ≡ true ∷ false ∷ false ∷ false ∷ true ∷ false ∷ []
unfolding is_monitor_name
port_sizes = refl

refused : List (List ℕ) → List ℕ → Option OpenFault
unfolding is_switch_port_name is_pipe_name is_monitor_name switch_of
refused names name = open_refusal names name (if is_monitor_name name then 0 else 2) 2 0

abbrev four_switches : List (List ℕ)
four_switches = codes "vale0:a" ∷ codes "vale1:a" ∷ codes "vale2:a" ∷ codes "mon0" ∷ codes "vale3:a" ∷ codes "vale3:b" ∷ []

-- four switches have ports, so a fifth may have none
full_switches : map (refused four_switches) (codes "vale4:a" ∷ codes "vale3:c" ∷ codes "vale0:a" ∷ codes "pipe0{" ∷ codes "mon0" ∷ []) ≡ Some SwitchesFull ∷ None ∷ Some NameTaken ∷ None ∷ Some NameTaken ∷ []
unfolding refused
full_switches = refl

-- a full switch is told before a taken name, and no port of another one counts
full_ports : refused (replicate 253 (codes "vale0:a")) (codes "vale0:b") ∷ refused (replicate 254 (codes "vale0:a")) (codes "vale0:a") ∷ refused (replicate 254 (codes "vale0:a")) (codes "vale1:b") ∷ [] ≡ None ∷ Some PortsFull ∷ None ∷ []
unfolding refused
full_ports = refl

full_pipes : refused (replicate 31 (codes "pipe0{")) (codes "pipe1}") ∷ refused (replicate 32 (codes "pipe0{")) (codes "pipe1}") ∷ refused (replicate 32 (codes "pipe0{")) (codes "mon0") ∷ [] ≡ None ∷ Some PortsFull ∷ None ∷ []
unfolding refused
full_pipes = refl

full_monitors : refused (replicate 31 (codes "mon0")) (codes "mon1") ∷ refused (replicate 32 (codes "mon0")) (codes "mon1") ∷ refused (replicate 32 (codes "mon0")) (codes "pipe0{") ∷ [] ≡ None ∷ Some PortsFull ∷ None ∷ []
unfolding refused
full_monitors = refl

bad_size_first : open_refusal (codes "vale0:a" ∷ []) (codes "vale0:a") 1 2 0 ≡ Some BadSize
unfolding is_monitor_name
bad_size_first = refl

-- Links, exchanges, counters and runs.

links : (link_bytes 0x01020304 ≡ 4 ∷ 3 ∷ 2 ∷ 1 ∷ []) × (link_of (4 ∷ 3 ∷ 2 ∷ 1 ∷ 9 ∷ []) ≡ 0x01020304)
links = (refl, refl)

first_links : opened_links (6 ∷ 7 ∷ 8 ∷ []) ≡ 7 ∷ 8 ∷ 0 ∷ []
first_links = refl

exchanges : map (swapped 2 3) (2 ∷ 3 ∷ 4 ∷ []) ≡ 3 ∷ 2 ∷ 4 ∷ []
exchanges = refl

abbrev counted : ℕ → Counts
counted n = record { sent = n; short = 2 * n; lone = 3 * n; given = 4 * n; full = 5 * n; read = 6 * n }

counts_added : sum_of_counts (counted 1) (counted 10) ≡ counted 11
counts_added = refl

frames_of_run : frames_from (1 ∷ 2 ∷ 3 ∷ []) (1 ∷ 1 ∷ 3 ∷ []) (false ∷ true ∷ []) 0 ≡ frame_of (1 ∷ []) ∷ record { bytes = []; no_learn = true } ∷ frame_of (2 ∷ 3 ∷ []) ∷ []
frames_of_run = refl

more_of_last : extended (7 ∷ []) (frame_of (1 ∷ []) ∷ frame_of (2 ∷ []) ∷ []) ≡ frame_of (1 ∷ []) ∷ frame_of (2 ∷ 7 ∷ []) ∷ []
more_of_last = refl
