-- Worked examples of the calls of a session, as theorems about the definitions: a pool of 64
-- buffers, two users, and a port of 4 and 4 slots each, a port `vale0:a` or `pipe0{` of the first
-- and `vale0:b` of the second.
use Rattle.std.specs.Prelude.{ℕ, ◌≡◌, ◌-◌, false, List, [], ◌∷◌, ◌++◌, length, map, replicate, take, slice_get, codes, Option, Some, None, option_map, option_and_then, refl}
use Rattle.nm_types.specs.declared.id.Side.{Side}
use Rattle.nm_types.specs.declared.id.Side.TheVariants.{Tx, Rx}
use Rattle.nm_types.specs.declared.fault.SyncFault.TheVariants.{HeadOut, CurOut, Unannounced}
use Rattle.nm_types.specs.Names.{is_name, is_switch_port_name, is_pipe_name, is_monitor_name, switch_of}
use Rattle.nm_types.specs.OwnPorts.{OwnPort, OwnState, Arrival, empty_own, port_with_id}
use Rattle.nm_types.specs.OwnEdits.{SlotPlace, with_positions, with_all_back, with_slots_swapped, with_frame, with_extra_link}
use Rattle.vale_entry.specs.declared.entry.Ask.{Ask}
use Rattle.vale_entry.specs.declared.entry.Ask.TheVariants.{Open, Send, Sync, Reset, Finish, Put, PutKept}
use Rattle.vale_entry.specs.declared.entry.Reply.TheVariants.{Opened, Offered, Gave, Took, PeerGone}
use Rattle.vale_entry.specs.declared.entry.Item.{Item}
use Rattle.vale_entry.specs.declared.entry.Entry.{Entry}
use Rattle.vale_entry.specs.Legal.{standing_of}
use Rattle.vale_entry.specs.Arrivals.{arrivals_of}
use Rattle.vale_entry.specs.RowWords.{entry, port, everyone, mac, frame_f}
use Rattle.vale_entry.specs.Rows.{first_run_of}
use Rattle.vale_entry.specs.OwnCalls.{tx_call, rx_call, finish_call, own_after}

abbrev item : ℕ → Item
item index = record { index = index; bytes = frame_f }

-- the call of a port of the session
abbrev tx_call_of : OwnState → OwnPort → Option Ask
tx_call_of s p = option_map (tx_call s p) p.tx

abbrev tx_call_at : ℕ → OwnState → Option Ask
tx_call_at id s = option_and_then (tx_call_of s) (port_with_id s id)

abbrev rx_call_at : ℕ → OwnState → Option Ask
rx_call_at id s = option_map (rx_call s) (port_with_id s id)

abbrev finish_call_at : ℕ → OwnState → Option Ask
finish_call_at id s = option_map (finish_call s) (port_with_id s id)

abbrev opening : ℕ → List ℕ → Ask
opening session name = Open (record { 0 = session }) name 4 4 0

abbrev history : List Entry
history = first_run_of frame_f

-- what a session has after the entry of this number, which is one of its own
abbrev own_from : ℕ → Option Entry → OwnState → OwnState
own_from number None s = s
own_from number (Some e) s =
    own_after number e
    (arrivals_of (standing_of 64 (take (number - 1) history)) e.ask e.reply) s

abbrev own_at : ℕ → OwnState → OwnState
own_at number s = own_from number (slice_get history (number - 1)) s

abbrev buffers : List Arrival → List ℕ
buffers came = map (λ (a : Arrival). a.buffer) came

-- the openings bring the transmit buffers, and the sync the frame in the first of the receive
-- ring's
openings_bring :
    buffers (arrivals_of (standing_of 64 (take 3 history)) (opening 2 (codes "vale0:b")) Opened)
    ≡ 10 ∷ 11 ∷ 12 ∷ 13 ∷ []
unfolding is_name is_switch_port_name is_pipe_name is_monitor_name switch_of
openings_bring = refl

sync_brings :
    arrivals_of (standing_of 64 (take 7 history)) (Sync (port 4) []) (Gave 1 [])
    ≡ record { buffer = 14; bytes = frame_f.bytes; rest = 0 } ∷ []
unfolding is_name is_switch_port_name is_pipe_name is_monitor_name switch_of
sync_brings = refl

-- and a frame of 2,049 bytes, in the first two, a part in each
abbrev long_history : List Entry
long_history = first_run_of (record { bytes = everyone ++ mac 10 ++ replicate 2037 17; no_learn = false })

abbrev what_came : Arrival → ℕ × ℕ × ℕ
what_came came = (came.buffer, length came.bytes, came.rest)

sync_brings_parts :
    map what_came (arrivals_of (standing_of 64 (take 7 long_history)) (Sync (port 4) []) (Gave 1 []))
    ≡ (14, 2048, 1) ∷ (15, 1, 0) ∷ []
unfolding is_name is_switch_port_name is_pipe_name is_monitor_name switch_of
sync_brings_parts = refl

-- the first user puts a frame, and sends it
abbrev first_user : OwnState
first_user = own_at 3 (empty_own 64)

sends_what_was_put :
    tx_call_at 3 (with_frame 3 frame_f.bytes first_user) ≡ Some (Send (port 3) (frame_f ∷ []))
unfolding is_name is_switch_port_name is_pipe_name is_monitor_name switch_of
sends_what_was_put = refl

sends_nothing_more :
    tx_call_at 3 (own_at 5 (with_frame 3 frame_f.bytes first_user)) ≡ Some (Send (port 3) [])
unfolding is_name is_switch_port_name is_pipe_name is_monitor_name switch_of
sends_nothing_more = refl

bad_positions_reset :
    tx_call_at 3 (with_positions Tx 3 2 1 first_user) ≡ Some (Reset (port 3) Tx (CurOut 1 2 3))
unfolding is_name is_switch_port_name is_pipe_name is_monitor_name switch_of
bad_positions_reset = refl

bad_positions_reset_there :
    rx_call_at 3 (with_positions Rx 3 1 1 first_user) ≡ Some (Reset (port 3) Rx (HeadOut 1 0 0))
unfolding is_name is_switch_port_name is_pipe_name is_monitor_name switch_of
bad_positions_reset_there = refl

-- the second user gets the frame, and gives its buffer back
abbrev second_user : OwnState
second_user = own_at 8 (own_at 4 (empty_own 64))

gives_back : rx_call_at 4 (with_all_back 4 second_user) ≡ Some (Sync (port 4) (14 ∷ []))
unfolding is_name is_switch_port_name is_pipe_name is_monitor_name switch_of
gives_back = refl

-- a swap that was not announced
abbrev slot_place : Side → SlotPlace
slot_place side = record { side = side; port = 4; at = 0 }

quiet_swap :
    tx_call_at 4
    (with_positions Tx 4 1 1 (with_slots_swapped false (slot_place Rx) (slot_place Tx) second_user))
    ≡ Some (Reset (port 4) Tx (Unannounced 0 14 10))
unfolding is_name is_switch_port_name is_pipe_name is_monitor_name switch_of
quiet_swap = refl

-- a detach names transmit slots, received buffers and extras, and what the chain of these found
names_all :
    finish_call_at 4 second_user
    ≡ Some (Finish (port 4) (10 ∷ 11 ∷ 12 ∷ 13 ∷ 14 ∷ []) (record { found = 0; astray = 0 }))
unfolding is_name is_switch_port_name is_pipe_name is_monitor_name switch_of
names_all = refl

abbrev with_extras : OwnState
with_extras = own_after 2 (entry 1 (Open (record { 0 = 1 }) (codes "vale0:a") 2 2 3) Opened)
    (arrivals_of (standing_of 64 (take 1 history))
    (Open (record { 0 = 1 }) (codes "vale0:a") 2 2 3) Opened)
    (empty_own 64)

chain_turns_back :
    finish_call_at 2 (with_extra_link 2 2 1 with_extras)
    ≡ Some (Finish (port 2) (2 ∷ 3 ∷ 6 ∷ 7 ∷ 8 ∷ []) (record { found = 2; astray = 1 }))
unfolding is_name is_switch_port_name is_pipe_name is_monitor_name switch_of
chain_turns_back = refl

-- a pipe is offered the frames that it did not take again; where the other end is gone they stay
-- pushed
abbrev pipe_user : OwnState
pipe_user = with_frame 3 frame_f.bytes (with_frame 3 frame_f.bytes
    (own_after 3 (entry 1 (opening 1 (codes "pipe0{")) Opened)
    (arrivals_of (standing_of 64 (take 2 history))
    (opening 1 (codes "pipe0{")) Opened) (empty_own 64)))

offers_both : tx_call_at 3 pipe_user ≡ Some (Put (port 3) (item 2 ∷ item 3 ∷ []))
unfolding is_name is_switch_port_name is_pipe_name is_monitor_name switch_of
offers_both = refl

offers_the_other :
    tx_call_at 3
    (own_after 5 (entry 1 (PutKept (port 3) 2) (Took (item 2 ∷ []) []))
    (record { buffer = 12; bytes = []; rest = 0 } ∷ []) pipe_user)
    ≡ Some (Put (port 3) (item 3 ∷ []))
unfolding is_name is_switch_port_name is_pipe_name is_monitor_name switch_of
offers_the_other = refl

offers_again :
    tx_call_at 3 (own_after 5 (entry 1 (PutKept (port 3) 2) PeerGone) [] pipe_user)
    ≡ Some (Put (port 3) (item 2 ∷ item 3 ∷ []))
unfolding is_name is_switch_port_name is_pipe_name is_monitor_name switch_of
offers_again = refl

no_arrivals : arrivals_of (standing_of 64 (take 4 history)) (Send (port 3) []) (Offered 0 0 []) ≡ []
unfolding is_name is_switch_port_name is_pipe_name is_monitor_name switch_of
no_arrivals = refl
