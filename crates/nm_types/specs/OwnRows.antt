-- Worked examples of what a session has of its own, as theorems about the definitions. The pool has 64
-- buffers; ports and buffers are numbered as a script that opens them would number them.
use Rattle.std.specs.Prelude.{ℕ, Bool, ◌≡◌, true, false, List, [], ◌∷◌, ◌++◌, length, map, replicate, codes, Option, Some, None, option_map, refl}
use Rattle.nm_types.specs.declared.id.Side.{Side}
use Rattle.nm_types.specs.declared.id.Side.TheVariants.{Tx, Rx}
use Rattle.nm_types.specs.declared.id.Chain.{Chain}
use Rattle.nm_types.specs.declared.slot.SlotWrite.TheVariants.{BufIdx, Len, Flags, Ptr}
use Rattle.nm_types.specs.declared.fault.SyncFault.{SyncFault}
use Rattle.nm_types.specs.declared.fault.SyncFault.TheVariants.{HeadOut, CurOut, Indirect, IndexOut, NotHeld, Doubled, Unannounced, LongLen, Fragment}
use Rattle.nm_types.specs.Positions.{RingState}
use Rattle.nm_types.specs.Frames.{Frame}
use Rattle.nm_types.specs.Names.{is_pipe_name}
use Rattle.nm_types.specs.Slots.{SlotState, part_flags, pushed_frames}
use Rattle.nm_types.specs.Parts.{HeldPart, cut_frame}
use Rattle.nm_types.specs.Chain.{linked}
use Rattle.nm_types.specs.OwnPorts.{OwnRing, OwnPort, OwnState, Arrival, empty_own, bytes_at, with_bytes, port_with_id, ring_at, buffers_in, named_of, refusal_at, pushed_on}
use Rattle.nm_types.specs.OwnSyncs.{own_after_open, own_after_send, own_after_put, own_after_receive, own_after_reset, own_after_finish, offered_slots, back_on, chain_in}
use Rattle.nm_types.specs.OwnEdits.{SlotPlace, with_positions, with_all_back, user_slot_at, with_user_slot, with_slot_field, with_slots_swapped, has_room, with_frame, with_forwarded, with_extra_link, with_head_of_chain}

abbrev arrival : ℕ → Arrival
arrival buffer = record { buffer = buffer; bytes = []; rest = 0 }

-- a broadcast from 02:00:00:00:00:0a
abbrev broadcast : List ℕ
broadcast = 255 ∷ 255 ∷ 255 ∷ 255 ∷ 255 ∷ 255 ∷ 2 ∷ 0 ∷ 0 ∷ 0 ∷ 0 ∷ 10 ∷ 136 ∷ 181 ∷ []

-- the first refusal of a sync of a port's ring; none where there is no such ring
abbrev refusal_on : Side → ℕ → OwnState → Option SyncFault
refusal_on side id s = refusal_at side id s

abbrev frames_on : ℕ → OwnState → List Frame
frames_on id s = pushed_frames (bytes_at s) (pushed_on Tx id s)

abbrev frame_of : List ℕ → Frame
frame_of bytes = record { bytes = bytes; no_learn = false }

abbrev held_on : Side → ℕ → OwnState → Option (List ℕ)
held_on side id s = option_map (λ (r : OwnRing). r.held) (ring_at side s id)

abbrev positions_on : Side → ℕ → OwnState → Option RingState
positions_on side id s = option_map (λ (r : OwnRing). r.ring) (ring_at side s id)

-- what a port's transmit ring holds, and its positions
abbrev transmit_on : ℕ → OwnState → Option (List ℕ) × Option RingState
transmit_on id s = (held_on Tx id s, positions_on Tx id s)

-- the refusals of a push of a port's transmit ring up to a head, from each of some states
abbrev push_refusals : ℕ → ℕ → List OwnState → List (Option SyncFault)
push_refusals id head = map (λ s. refusal_on Tx id (with_positions Tx id head head s))

abbrev positions : ℕ → ℕ → ℕ → ℕ → RingState
positions size head cur tail = record { size = size; head = head; cur = cur; tail = tail; accepted_head = head; last_tail = tail }

abbrev detached : OwnState → ℕ → Option (List ℕ × Chain)
detached s id = option_map (λ (p : OwnPort). (buffers_in p, chain_in s p)) (port_with_id s id)

abbrev chain : ℕ → ℕ → Chain
chain found astray = record { found = found; astray = astray }

-- One port of 4 and 4 slots: transmit buffers 2 to 5.

abbrev four_slots : OwnState
four_slots = own_after_open 2 (codes "vale0:a") 4 4 (map arrival (2 ∷ 3 ∷ 4 ∷ 5 ∷ [])) (empty_own 64)

opened_names_all_but_one : named_of four_slots ≡ 2 ∷ 3 ∷ 4 ∷ []
opened_names_all_but_one = refl

received_positions_out : refusal_on Rx 2 (with_positions Rx 2 1 1 four_slots) ≡ Some (HeadOut 1 0 0)
received_positions_out = refl

cur_behind_head : refusal_on Tx 2 (with_positions Tx 2 2 1 four_slots) ≡ Some (CurOut 1 2 3)
cur_behind_head = refl

head_no_slot : refusal_on Tx 2 (with_positions Tx 2 4 4 four_slots) ≡ Some (HeadOut 4 0 3)
head_no_slot = refl

-- a reset is as if nothing had been written, on either ring
received_reset : own_after_reset 2 Rx (with_positions Rx 2 1 1 four_slots) ≡ four_slots
received_reset = refl

positions_reset : own_after_reset 2 Tx (with_positions Tx 2 2 1 four_slots) ≡ four_slots
positions_reset = refl

nothing_pushed : frames_on 2 (own_after_reset 2 Tx (with_positions Tx 2 4 4 four_slots)) ≡ []
nothing_pushed = refl

abbrev one_put : OwnState
one_put = with_frame 2 broadcast four_slots

one_frame : frames_on 2 one_put ≡ frame_of broadcast ∷ []
one_frame = refl

-- the slot 0 of the frame put, changed
abbrev first_slot : ℕ → ℕ → ℕ → OwnState
first_slot idx len flags = with_user_slot Tx 2 0 (record { buf_idx = idx; len = len; flags = flags; ptr = 0 }) one_put

index_one : refusal_on Tx 2 (first_slot 1 14 0) ≡ Some (IndexOut 0 1)
index_one = refl

index_past_pool : refusal_on Tx 2 (first_slot 66 14 0) ≡ Some (IndexOut 0 66)
index_past_pool = refl

index_of_kernel_side : refusal_on Tx 2 (first_slot 6 14 0) ≡ Some (NotHeld 0 6)
index_of_kernel_side = refl

-- the buffer in the slot that the kernel side keeps is the session's, and no named one
index_of_kept_slot : refusal_on Tx 2 (first_slot 5 14 0) ≡ Some (NotHeld 0 5)
index_of_kept_slot = refl

long_frame : refusal_on Tx 2 (first_slot 2 2049 0) ≡ Some (LongLen 0 2049)
long_frame = refl

-- that a frame goes on is the last check
long_before_goes_on : refusal_on Tx 2 (first_slot 2 2049 32) ≡ Some (LongLen 0 2049)
long_before_goes_on = refl

indirect_slot : refusal_on Tx 2 (first_slot 2 14 16) ≡ Some (Indirect 0)
indirect_slot = refl

frame_goes_on : refusal_on Tx 2 (first_slot 2 14 32) ≡ Some (Fragment 0)
unfolding is_pipe_name
frame_goes_on = refl

-- within a slot the checks have an order, and the first slot refused is told
indirect_before_index : refusal_on Tx 2 (first_slot 1 2049 16) ≡ Some (Indirect 0)
indirect_before_index = refl

abbrev twice_named : OwnState
twice_named = with_user_slot Tx 2 1 (record { buf_idx = 2; len = 14; flags = 1; ptr = 0 }) (with_frame 2 broadcast one_put)

doubled_slot : refusal_on Tx 2 twice_named ≡ Some (Doubled 1 2)
unfolding is_pipe_name
doubled_slot = refl

abbrev put_again : OwnState
put_again = with_frame 2 broadcast (own_after_reset 2 Tx twice_named)

put_after_reset : refusal_on Tx 2 put_again ≡ None
unfolding is_pipe_name
put_after_reset = refl

sent_after_reset : frames_on 2 put_again ≡ frame_of broadcast ∷ []
sent_after_reset = refl

send_moves_tail : positions_on Tx 2 (own_after_send 2 put_again) ≡ Some (positions 4 1 1 0)
send_moves_tail = refl

-- a reset moves no buffer, and sets the slots to the buffers in their places
reset_moves_nothing : held_on Tx 2 (own_after_reset 2 Tx twice_named) ≡ Some (2 ∷ 3 ∷ 4 ∷ 5 ∷ [])
reset_moves_nothing = refl

reset_names_place : user_slot_at Tx (own_after_reset 2 Tx twice_named) 2 1 ≡ Some (record { buf_idx = 3; len = 0; flags = 0; ptr = 0 })
reset_names_place = refl

-- a frame that is put takes the marks of a former one away, and no others
put_over_marks : user_slot_at Tx (with_frame 2 broadcast (with_slot_field Tx 2 0 (Flags 57) four_slots)) 2 0 ≡ Some (record { buf_idx = 2; len = 14; flags = 1; ptr = 0 })
put_over_marks = refl

-- a full ring has no room, and a shorter frame leaves the old bytes behind it
three_put : has_room (with_frame 2 broadcast (with_frame 2 broadcast one_put)) 2 (length broadcast) ≡ false
three_put = refl

old_bytes_stay : frames_on 2 (with_user_slot Tx 2 0 (record { buf_idx = 2; len = 3; flags = 0; ptr = 0 }) (with_frame 2 (1 ∷ []) (with_positions Tx 2 0 0 one_put)))
    ≡ frame_of (1 ∷ 255 ∷ 255 ∷ []) ∷ []
old_bytes_stay = refl

-- Two slots whose buffers change places must both be announced: the places are those before the sync.

abbrev two_crossed : ℕ → OwnState
two_crossed flags =
    with_user_slot Tx 2 1 (record { buf_idx = 2; len = 1; flags = flags; ptr = 0 })
    (with_user_slot Tx 2 0 (record { buf_idx = 3; len = 2; flags = 1; ptr = 0 }) (with_positions Tx 2 2 2 four_slots))

crossed_announced_once : refusal_on Tx 2 (two_crossed 0) ≡ Some (Unannounced 1 2 3)
unfolding is_pipe_name
crossed_announced_once = refl

crossed_announced_twice : refusal_on Tx 2 (two_crossed 1) ≡ None
unfolding is_pipe_name
crossed_announced_twice = refl

-- each pushed place holds the buffer that its slot names, once, and is announced no longer
crossed_places : held_on Tx 2 (own_after_send 2 (two_crossed 1)) ≡ Some (3 ∷ 2 ∷ 4 ∷ 5 ∷ [])
crossed_places = refl

crossed_slot : user_slot_at Tx (own_after_send 2 (two_crossed 1)) 2 0 ≡ Some (record { buf_idx = 3; len = 2; flags = 0; ptr = 0 })
crossed_slot = refl

-- the other end of an exchange keeps naming the buffer that left, and meets that at its own sync
abbrev third_taken : ℕ → OwnState
third_taken head = own_after_send 2 (with_user_slot Tx 2 0 (record { buf_idx = 4; len = 0; flags = 1; ptr = 0 }) (with_positions Tx 2 head head four_slots))

third_place : held_on Tx 2 (third_taken 2) ≡ Some (4 ∷ 3 ∷ 2 ∷ 5 ∷ [])
third_place = refl

-- where the buffer stands in the slot that the kernel side keeps, it is no named one
third_refusals : push_refusals 2 3 (third_taken 2 ∷ third_taken 1 ∷ []) ≡ Some (Unannounced 2 4 2) ∷ Some (NotHeld 2 4) ∷ []
unfolding is_pipe_name
third_refusals = refl

-- A port that got a frame swaps the buffer into its transmit ring and sends it without copying it.

abbrev second_user : OwnState
second_user = own_after_receive 4 (record { buffer = 14; bytes = broadcast; rest = 0 } ∷ []) (own_after_open 4 (codes "vale0:b") 4 4 (map arrival (10 ∷ 11 ∷ 12 ∷ 13 ∷ [])) (empty_own 64))

got_frame : user_slot_at Rx second_user 4 0 ≡ Some (record { buf_idx = 14; len = 14; flags = 0; ptr = 0 })
got_frame = refl

abbrev slot_place : Side → SlotPlace
slot_place side = record { side = side; port = 4; at = 0 }

abbrev with_len : ℕ → Option SlotState → OwnState → OwnState
with_len len None s = s
with_len len (Some slot) s = with_user_slot Tx 4 0 (record slot { len = len }) s

abbrev swap_pushed : Bool → OwnState
swap_pushed announce = pushed_after (with_slots_swapped announce (slot_place Rx) (slot_place Tx) second_user)
  where
    pushed_after : OwnState → OwnState
    pushed_after s = with_positions Tx 4 1 1 (with_len 14 (user_slot_at Tx s 4 0) s)

swap_accepted : refusal_on Tx 4 (swap_pushed true) ≡ None
unfolding is_pipe_name
swap_accepted = refl

swap_frames : frames_on 4 (swap_pushed true) ≡ frame_of broadcast ∷ []
swap_frames = refl

abbrev swap_sent : OwnState
swap_sent = with_all_back 4 (own_after_send 4 (swap_pushed true))

swap_places : held_on Tx 4 swap_sent ≡ Some (14 ∷ 11 ∷ 12 ∷ 13 ∷ [])
swap_places = refl

-- the other slot was announced too, so its own sync accepts the exchange
swap_back : refusal_on Rx 4 swap_sent ≡ None
swap_back = refl

swap_gives_back : back_on 4 swap_sent ≡ 10 ∷ []
swap_gives_back = refl

swap_buffer_gone : bytes_at (own_after_receive 4 [] swap_sent) 10 ≡ []
swap_buffer_gone = refl

quiet_swap_refused : refusal_on Tx 4 (swap_pushed false) ≡ Some (Unannounced 0 14 10)
quiet_swap_refused = refl

quiet_swap_refused_there : refusal_on Rx 4 (with_all_back 4 (own_after_reset 4 Tx (swap_pushed false))) ≡ Some (Unannounced 0 10 14)
quiet_swap_refused_there = refl

-- forwarding does the same, with the length, and moves all four positions
abbrev forwarded : OwnState
forwarded = with_forwarded 9 4 4 second_user

forward_accepted : refusal_on Tx 4 forwarded ≡ None
unfolding is_pipe_name
forward_accepted = refl

forward_frames : frames_on 4 forwarded ≡ frame_of broadcast ∷ []
unfolding is_pipe_name
forward_frames = refl

forward_back : back_on 4 (own_after_send 4 forwarded) ≡ 10 ∷ []
unfolding is_pipe_name
forward_back = refl

-- the slot that goes on says so no longer
forward_ends : user_slot_at Tx (with_forwarded 9 4 4 (with_slot_field Tx 4 0 (Flags 32) second_user)) 4 0 ≡ Some (record { buf_idx = 14; len = 14; flags = 1; ptr = 0 })
unfolding is_pipe_name
forward_ends = refl

-- a received slot may say what it will
received_may_go_on : refusal_on Rx 4 (with_all_back 4 (with_slot_field Rx 4 0 (Flags 32) second_user)) ≡ None
received_may_go_on = refl

-- A ring of 2 slots and three extra buffers, 6, 7 and 8.

abbrev with_extras : OwnState
with_extras = own_after_open 2 (codes "vale0:a") 2 2 (map arrival (2 ∷ 3 ∷ 6 ∷ 7 ∷ 8 ∷ [])) (empty_own 64)

cur_behind_head_of_two : refusal_on Tx 2 (with_positions Tx 2 1 0 with_extras) ≡ Some (CurOut 0 1 1)
cur_behind_head_of_two = refl

greatest_head : refusal_on Tx 2 (with_positions Tx 2 4294967295 0 with_extras) ≡ Some (HeadOut 4294967295 0 1)
greatest_head = refl

all_extras_found : detached with_extras 2 ≡ Some (2 ∷ 3 ∷ 6 ∷ 7 ∷ 8 ∷ [], chain 3 0)
all_extras_found = refl

second_links_back : detached (with_extra_link 2 2 1 with_extras) 2 ≡ Some (2 ∷ 3 ∷ 6 ∷ 7 ∷ 8 ∷ [], chain 2 1)
second_links_back = refl

second_links_to_itself : detached (with_extra_link 2 2 2 with_extras) 2 ≡ Some (2 ∷ 3 ∷ 6 ∷ 7 ∷ 8 ∷ [], chain 2 1)
second_links_to_itself = refl

no_head : detached (with_extra_link 2 0 0 with_extras) 2 ≡ Some (2 ∷ 3 ∷ 6 ∷ 7 ∷ 8 ∷ [], chain 0 3)
no_head = refl

head_at_a_slot : detached (with_head_of_chain 2 2 with_extras) 2 ≡ Some (2 ∷ 3 ∷ 6 ∷ 7 ∷ 8 ∷ [], chain 0 3)
head_at_a_slot = refl

no_such_extra : with_extra_link 2 1 4 with_extras ≡ with_extras
no_such_extra = refl

-- an extra buffer that was sent stands in a slot, and the one that stood there is no part of the chain
abbrev extra_sent : OwnState
extra_sent = own_after_send 2 (with_user_slot Tx 2 0 (record { buf_idx = 6; len = 0; flags = 1; ptr = 0 }) (with_positions Tx 2 1 1 with_extras))

extra_exchanged : detached extra_sent 2 ≡ Some (6 ∷ 3 ∷ 2 ∷ 7 ∷ 8 ∷ [], chain 0 3)
extra_exchanged = refl

nothing_left : own_after_finish 2 (2 ∷ 3 ∷ 6 ∷ 7 ∷ 8 ∷ []) with_extras ≡ empty_own 64
nothing_left = refl

-- A pipe takes one of two frames, and then the other; the buffers 12 and 13 come for them.

abbrev pipe_pushed : OwnState
pipe_pushed = with_frame 3 broadcast (with_frame 3 broadcast (own_after_open 3 (codes "pipe0{") 4 4 (map arrival (2 ∷ 3 ∷ 4 ∷ 5 ∷ [])) (empty_own 64)))

abbrev one_taken : OwnState
one_taken = own_after_put 3 (arrival 12 ∷ []) pipe_pushed

one_taken_stands : transmit_on 3 one_taken ≡ (Some (12 ∷ 3 ∷ 4 ∷ 5 ∷ []), Some (positions 4 2 2 0))
one_taken_stands = refl

-- the frame that was not taken is offered again, and its buffer is named by nobody meanwhile
one_offered : option_map offered_slots (ring_at Tx one_taken 3) ≡ Some (1 ∷ [])
one_offered = refl

one_named : named_of one_taken ≡ 4 ∷ 5 ∷ []
one_named = refl

abbrev none_taken : OwnState
none_taken = own_after_put 3 [] one_taken

none_taken_offered : option_map offered_slots (ring_at Tx none_taken 3) ≡ Some (1 ∷ [])
none_taken_offered = refl

abbrev both_taken : OwnState
both_taken = own_after_put 3 (arrival 13 ∷ []) none_taken

both_taken_stands : transmit_on 3 both_taken ≡ (Some (12 ∷ 13 ∷ 4 ∷ 5 ∷ []), Some (positions 4 2 2 1))
both_taken_stands = refl

-- the slot of a frame that was taken keeps its length, and the buffer's bytes are zero
taken_slot : user_slot_at Tx (with_positions Tx 3 1 1 both_taken) 3 0 ≡ Some (record { buf_idx = 12; len = 14; flags = 0; ptr = 0 })
taken_slot = refl

taken_buffer_gone : bytes_at both_taken 2 ≡ []
taken_buffer_gone = refl

-- a frame that a pipe has not taken is in the kernel side's slot: its buffer is no named one
pending_not_named : refusal_on Tx 3 (with_user_slot Tx 3 2 (record { buf_idx = 3; len = 14; flags = 1; ptr = 0 }) (with_positions Tx 3 3 3 one_taken)) ≡ Some (NotHeld 2 3)
pending_not_named = refl

-- where the other end is gone the push is accepted, and both frames stay pushed
peer_gone_offered : option_map offered_slots (ring_at Tx (own_after_put 3 [] pipe_pushed) 3) ≡ Some (0 ∷ 1 ∷ [])
peer_gone_offered = refl

peer_gone_positions : positions_on Tx 3 (own_after_put 3 [] pipe_pushed) ≡ Some (record { size = 4; head = 2; cur = 2; tail = 3; accepted_head = 2; last_tail = 3 })
peer_gone_positions = refl

-- Two ports of one session: a slot of the first names a buffer in the second's places.

abbrev two_ports : OwnState
two_ports = own_after_open 3 (codes "vale0:c") 4 4 (map arrival (10 ∷ 11 ∷ 12 ∷ 13 ∷ [])) four_slots

abbrev across : ℕ → OwnState
across head = own_after_send 2 (with_user_slot Tx 2 0 (record { buf_idx = 11; len = 0; flags = 1; ptr = 0 }) (with_positions Tx 2 head head two_ports))

across_places : held_on Tx 2 (across 2) ≡ Some (11 ∷ 3 ∷ 4 ∷ 5 ∷ [])
across_places = refl

across_places_there : held_on Tx 3 (across 2) ≡ Some (10 ∷ 2 ∷ 12 ∷ 13 ∷ [])
across_places_there = refl

-- the slot there keeps naming the buffer that left
across_refusals : push_refusals 3 2 (across 2 ∷ across 1 ∷ []) ≡ Some (Unannounced 1 11 2) ∷ Some (NotHeld 1 11) ∷ []
unfolding is_pipe_name
across_refusals = refl

-- a detach names what stands in the port's places, wherever it came from
across_detached : detached (across 2) 3 ≡ Some (10 ∷ 2 ∷ 12 ∷ 13 ∷ [], chain 0 0)
across_detached = refl

-- a reset is of all the user's slots, pushed or not
unpushed_reset : own_after_reset 2 Tx (with_user_slot Tx 2 2 (record { buf_idx = 3; len = 9; flags = 8; ptr = 7 }) four_slots) ≡ four_slots
unpushed_reset = refl

-- a received frame's length stays in a reset, and its address does not
received_len_stays : own_after_reset 4 Rx (with_slot_field Rx 4 0 (BufIdx 10) (with_slot_field Rx 4 0 (Flags 1) (with_slot_field Rx 4 0 (Ptr 5) second_user))) ≡ second_user
received_len_stays = refl

received_len_written : user_slot_at Rx (own_after_reset 4 Rx (with_slot_field Rx 4 0 (Len 60) second_user)) 4 0 ≡ Some (record { buf_idx = 14; len = 60; flags = 0; ptr = 0 })
received_len_written = refl

-- no field is written of a slot that is not the user's
kept_slot_not_written : with_slot_field Tx 2 3 (Len 60) four_slots ≡ four_slots
kept_slot_not_written = refl

-- a push goes round the ring
abbrev gone_round : OwnState
gone_round = with_frame 2 broadcast (with_frame 2 broadcast (own_after_send 2 (with_positions Tx 2 3 3 four_slots)))

round_slots : option_map offered_slots (ring_at Tx gone_round 2) ≡ Some (3 ∷ 0 ∷ [])
round_slots = refl

round_positions : positions_on Tx 2 (own_after_send 2 gone_round) ≡ Some (positions 4 1 1 0)
round_positions = refl

-- a link may be any number of 32 bits
greatest_link : detached (with_bytes 6 (linked 4294967295 (bytes_at with_extras 6)) with_extras) 2 ≡ Some (2 ∷ 3 ∷ 6 ∷ 7 ∷ 8 ∷ [], chain 1 2)
greatest_link = refl

-- A frame of several slots: each but the last one says that it goes on, and the mark of the first one is
-- the frame's.

abbrev two_put : OwnState
two_put = with_frame 2 broadcast one_put

-- two slots of 14 bytes each, with these flags
abbrev two_flagged : ℕ → ℕ → OwnState
two_flagged first second = with_slot_field Tx 2 1 (Flags second) (with_slot_field Tx 2 0 (Flags first) two_put)

two_frames : frames_on 2 (two_flagged 8 0) ≡ record { bytes = broadcast; no_learn = true } ∷ frame_of broadcast ∷ []
two_frames = refl

one_of_two : frames_on 2 (two_flagged 32 0) ≡ frame_of (broadcast ++ broadcast) ∷ []
one_of_two = refl

first_mark_counts : frames_on 2 (two_flagged 40 0) ≡ record { bytes = broadcast ++ broadcast; no_learn = true } ∷ []
first_mark_counts = refl

second_mark_does_not : frames_on 2 (two_flagged 32 8) ≡ frame_of (broadcast ++ broadcast) ∷ []
second_mark_does_not = refl

two_accepted : refusal_on Tx 2 (two_flagged 32 0) ≡ None
unfolding is_pipe_name
two_accepted = refl

-- the last slot pushed may not go on
last_goes_on : refusal_on Tx 2 (two_flagged 0 32) ≡ Some (Fragment 1)
unfolding is_pipe_name
last_goes_on = refl

-- nor any slot at a pipe's end
pipe_goes_on : refusal_on Tx 3 (with_slot_field Tx 3 0 (Flags 32) pipe_pushed) ≡ Some (Fragment 0)
unfolding is_pipe_name
pipe_goes_on = refl

-- a frame of 4,097 bytes is received in three parts
abbrev cut_long : List HeldPart
cut_long = cut_frame (replicate 4097 7)

cut_lengths : map (λ (part : HeldPart). length part.bytes) cut_long ≡ 2048 ∷ 2048 ∷ 1 ∷ []
cut_lengths = refl

cut_rests : map (λ (part : HeldPart). part.rest) cut_long ≡ 2 ∷ 1 ∷ 0 ∷ []
cut_rests = refl

cut_flags : map part_flags (2 ∷ 1 ∷ 0 ∷ 63 ∷ []) ≡ 544 ∷ 288 ∷ 0 ∷ 16160 ∷ []
cut_flags = refl

-- received parts: the slot of each tells whether its frame goes on, and how many follow
abbrev two_received : OwnState
two_received = own_after_receive 4 (record { buffer = 14; bytes = broadcast; rest = 1 } ∷ record { buffer = 15; bytes = 1 ∷ 2 ∷ 3 ∷ []; rest = 0 } ∷ []) (own_after_open 4 (codes "vale0:b") 4 4 (map arrival (10 ∷ 11 ∷ 12 ∷ 13 ∷ [])) (empty_own 64))

first_part : user_slot_at Rx two_received 4 0 ≡ Some (record { buf_idx = 14; len = 14; flags = 288; ptr = 0 })
first_part = refl

last_part : user_slot_at Rx two_received 4 1 ≡ Some (record { buf_idx = 15; len = 3; flags = 0; ptr = 0 })
last_part = refl

-- forwarded as one frame
abbrev two_forwarded : OwnState
two_forwarded = with_forwarded 9 4 4 two_received

-- which is one, however many slots it has
one_forwarded_frames : frames_on 4 (with_forwarded 1 4 4 two_received) ≡ frame_of (broadcast ++ 1 ∷ 2 ∷ 3 ∷ []) ∷ []
unfolding is_pipe_name
one_forwarded_frames = refl

two_forwarded_frames : frames_on 4 two_forwarded ≡ frame_of (broadcast ++ 1 ∷ 2 ∷ 3 ∷ []) ∷ []
unfolding is_pipe_name
two_forwarded_frames = refl

two_forwarded_accepted : refusal_on Tx 4 two_forwarded ≡ None
unfolding is_pipe_name
two_forwarded_accepted = refl

two_forwarded_back : back_on 4 (own_after_send 4 two_forwarded) ≡ 10 ∷ 11 ∷ []
unfolding is_pipe_name
two_forwarded_back = refl

-- not where it does not end before the tail
abbrev endless : OwnState
endless = with_slot_field Rx 4 1 (Flags 32) two_received

not_forwarded_endless : with_forwarded 9 4 4 endless ≡ endless
not_forwarded_endless = refl

-- not to a pipe's end, each of whose slots is a frame, nor where the other ring has too few slots
abbrev with_pipe : OwnState → OwnState
with_pipe s = own_after_open 3 (codes "pipe0{") 4 4 (map arrival (2 ∷ 3 ∷ 4 ∷ 5 ∷ [])) s

not_forwarded_whole : with_forwarded 9 4 3 (with_pipe two_received) ≡ with_pipe two_received
unfolding is_pipe_name
not_forwarded_whole = refl

one_slot_forwarded_whole : frames_on 3 (with_forwarded 9 4 3 (with_pipe second_user)) ≡ frame_of broadcast ∷ []
unfolding is_pipe_name
one_slot_forwarded_whole = refl

not_forwarded_full : with_forwarded 9 4 4 (with_positions Tx 4 2 2 two_received) ≡ with_positions Tx 4 2 2 two_received
not_forwarded_full = refl

-- a frame of one byte more than a buffer: two slots
abbrev long_put : OwnState
long_put = with_frame 2 (replicate 2049 7) four_slots

long_put_first : user_slot_at Tx long_put 2 0 ≡ Some (record { buf_idx = 2; len = 2048; flags = 32; ptr = 0 })
long_put_first = refl

long_put_second : user_slot_at Tx long_put 2 1 ≡ Some (record { buf_idx = 3; len = 1; flags = 0; ptr = 0 })
long_put_second = refl

long_put_positions : positions_on Tx 2 long_put ≡ Some (record { size = 4; head = 2; cur = 2; tail = 3; accepted_head = 0; last_tail = 3 })
long_put_positions = refl

-- where one slot is left it is not put
long_not_put : with_frame 2 (replicate 2049 7) two_put ≡ two_put
long_not_put = refl
