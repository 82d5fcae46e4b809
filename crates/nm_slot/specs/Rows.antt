-- Worked examples, as theorems about the definitions.
use Rattle.std.specs.Prelude.{ℕ, ◌≡◌, ◌==◌, ◌+◌, if◌then◌else◌, List, [], ◌∷◌, ◌++◌, map, Option, Some, None, refl, true, false}
use Rattle.std.specs.List.{range_with_len}
use Rattle.nm_types.specs.declared.id.Side.TheVariants.{Tx, Rx}
use Rattle.nm_types.specs.declared.place.Place.TheVariants as place
use Rattle.nm_types.specs.declared.fault.SyncFault.TheVariants.{HeadOut, CurOut, NotHeld, Doubled, Unannounced, Fragment}
use Rattle.nm_types.specs.declared.fault.SyncFault.{SyncFault}
use Rattle.nm_types.specs.Positions.{RingState, opened_tx, opened_rx, advanced, user_slots, pushed_slots, pending_slots}
use Rattle.nm_types.specs.Slots.{SlotState, Pushed, slot_after_push, published_slot, frame_at}
use Rattle.nm_types.specs.SyncChecks.{refusal_of, slots_refusal}
use Rattle.nm_types.specs.Reset.{reset_positions, slot_after_reset}
use Rattle.nm_types.specs.Places.{Held}
use Rattle.nm_types.specs.Exchange.{exchanged}
use Rattle.nm_types.specs.Chain.{linked, link_of, opened_links, chain_of}

abbrev named_slot : ℕ → ℕ → SlotState
named_slot idx flags = record { buf_idx = idx; len = 14; flags = flags; ptr = 0 }

abbrev pushed_at : ℕ → ℕ → ℕ → ℕ → Pushed
pushed_at at was idx flags = record { at = at; slot = named_slot idx flags; was = was }

abbrev at_positions : ℕ → ℕ → RingState → RingState
at_positions head cur ring = record ring { head = head; cur = cur }

-- the buffers that a session with a transmit ring of 4 slots names at first, of a pool of 64
abbrev named : List ℕ
named = 2 ∷ 3 ∷ 4 ∷ []

bad_positions_rx : refusal_of Rx false 64 named (at_positions 1 1 (opened_rx 4)) [] ≡ Some (HeadOut 1 0 0)
bad_positions_rx = refl

bad_positions_cur : refusal_of Tx false 64 named (at_positions 2 1 (opened_tx 4)) [] ≡ Some (CurOut 1 2 3)
bad_positions_cur = refl

bad_positions_head : refusal_of Tx false 64 named (at_positions 4 4 (opened_tx 4)) [] ≡ Some (HeadOut 4 0 3)
bad_positions_head = refl

-- the first bad slot is told, also before a worse one
doubled_slot : refusal_of Tx false 64 named (at_positions 3 3 (opened_tx 4)) (pushed_at 0 2 2 0 ∷ pushed_at 1 3 2 1 ∷ pushed_at 2 4 66 0 ∷ []) ≡ Some (Doubled 1 2)
doubled_slot = refl

foreign_slot : refusal_of Tx false 64 named (at_positions 1 1 (opened_tx 4)) (pushed_at 0 2 6 0 ∷ []) ≡ Some (NotHeld 0 6)
foreign_slot = refl

quiet_swap : refusal_of Tx false 64 named (at_positions 1 1 (opened_tx 4)) (pushed_at 0 2 4 0 ∷ []) ≡ Some (Unannounced 0 4 2)
quiet_swap = refl

announced_swap : refusal_of Tx false 64 named (at_positions 1 1 (opened_tx 4)) (pushed_at 0 2 4 1 ∷ []) ≡ None
announced_swap = refl

-- a pipe of 4 slots took one of three frames
pipe_pending : pending_slots (advanced (opened_tx 4) 3 3 0) ≡ 1 ∷ 2 ∷ []
pipe_pending = refl

pipe_user : user_slots (advanced (opened_tx 4) 3 3 0) ≡ 3 ∷ []
pipe_user = refl

fresh_pushed : pushed_slots (opened_tx 4) 2 ≡ 0 ∷ 1 ∷ []
fresh_pushed = refl

positions_after_reset : reset_positions (at_positions 2 1 (opened_tx 4)) ≡ opened_tx 4
positions_after_reset = refl

slot_of_user_after_reset : slot_after_reset Tx (opened_tx 4) 0 2 (named_slot 6 16) ≡ record { buf_idx = 2; len = 0; flags = 0; ptr = 0 }
slot_of_user_after_reset = refl

kept_slot_after_reset : slot_after_reset Tx (opened_tx 4) 3 5 (named_slot 6 16) ≡ named_slot 6 16
kept_slot_after_reset = refl

received_slot_after_reset : slot_after_reset Rx (advanced (opened_rx 4) 0 0 1) 0 6 (named_slot 9 1) ≡ published_slot 6 14 0
received_slot_after_reset = refl

changed_slot_after_push : slot_after_push (named_slot 4 9) ≡ named_slot 4 8
changed_slot_after_push = refl

marked_frame : frame_at (λ idx. idx ∷ 7 ∷ []) (record { buf_idx = 2; len = 1; flags = 8; ptr = 0 }) ≡ record { bytes = 2 ∷ []; no_learn = true }
marked_frame = refl

-- slots 0 and 1 hold 2 and 3; slot 0 takes 3
abbrev two_slots : ℕ → ℕ → List Held
two_slots a b = record { place = place.Tx (record { 0 = 1 }) 0; buffer = a } ∷ record { place = place.Tx (record { 0 = 1 }) 1; buffer = b } ∷ []

slots_exchanged : exchanged (two_slots 2 3) (place.Tx (record { 0 = 1 }) 0) 3 ≡ two_slots 3 2
slots_exchanged = refl

-- extras 6, 7 and 8, whose second one links back to the first
links_at_opening : opened_links (6 ∷ 7 ∷ 8 ∷ []) ≡ 7 ∷ 8 ∷ 0 ∷ []
links_at_opening = refl

chain_with_loop : chain_of (6 ∷ 7 ∷ 8 ∷ []) (λ idx. if idx == 6 then 7 else if idx == 7 then 6 else 0) 6 ≡ record { found = 2; astray = 1 }
chain_with_loop = refl

link_read_back : link_of (linked 65537 (9 ∷ 9 ∷ 9 ∷ 9 ∷ 9 ∷ [])) ≡ 65537
link_read_back = refl

-- a frame of 64 slots, and one more that goes on
abbrev many_named : List ℕ
many_named = range_with_len 2 66

abbrev going_on : ℕ → Pushed
going_on at = pushed_at at (at + 2) (at + 2) 32

abbrev many_pushed : ℕ → List Pushed
many_pushed count = map going_on (range_with_len 0 count) ++ pushed_at count (count + 2) (count + 2) 0 ∷ []

abbrev many_refusal : ℕ → Option SyncFault
many_refusal count = slots_refusal Tx false 128 many_named [] 0 (many_pushed count)

sixty_four_slots : many_refusal 63 ≡ None
sixty_four_slots = refl

sixty_five_slots : many_refusal 64 ≡ Some (Fragment 63)
sixty_five_slots = refl

-- the count begins again behind a frame that ended
abbrev forty_from : ℕ → List Pushed
forty_from at = map going_on (range_with_len at 39) ++ pushed_at (at + 39) (at + 41) (at + 41) 0 ∷ []

twice_forty_slots : slots_refusal Tx false 128 (range_with_len 2 80) [] 0 (forty_from 0 ++ forty_from 40) ≡ None
twice_forty_slots = refl
