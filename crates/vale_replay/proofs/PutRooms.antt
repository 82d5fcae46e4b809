-- A frame for which there is room is put without a call.
use Rattle.std.proofs.Common.{ℕ, ◌≡◌, Bool, true, false, cond, List, Option, Some, None, refl, sym, ◌∙◌, ap, length}
use Rattle.std.specs.Prelude.{option_and_then}
use Rattle.std.specs.Option.{option_map_or}
use Rattle.nm_types.specs.declared.id.Side.TheVariants.{Tx}
use Rattle.nm_types.specs.OwnPorts.{OwnRing, OwnPort, OwnState, port_with_name, port_with_id, ring_on}
use Rattle.nm_types.specs.OwnEdits.{has_slots, has_room}
use Rattle.nm_types.specs.Parts.{slots_of_bytes}
use Rattle.vale_entry.specs.OwnCalls.{tx_call}
use Rattle.vale_replay.specs.Machine.{has_room_at, put_call, room_call}

pub no-room-call : (own : OwnState) (bytes : List ℕ) (p : OwnPort) (tx : Option OwnRing) → option_map_or (has_slots (slots_of_bytes bytes)) tx false ≡ true → option_and_then (room_call own bytes p) tx ≡ None
no-room-call own bytes p None e = absurd cc
no-room-call own bytes p (Some r) e = ap (λ (b : Bool). cond b None (Some (tx_call own p r))) e

pub room-none : (own : OwnState) (name bytes : List ℕ) → ((p : OwnPort) → port_with_name own name ≡ Some p → port_with_id own p.id.0 ≡ Some p)
    → has_room_at own name bytes ≡ true → option_and_then (put_call own bytes) (port_with_name own name) ≡ None
room-none own name bytes found e = by (port_with_name own name) refl e
  where
    by : (o : Option OwnPort) → port_with_name own name ≡ o → option_map_or (λ (p : OwnPort). has_room own p.id.0 (length bytes)) o false ≡ true → option_and_then (put_call own bytes) o ≡ None
    by None named is = refl
    by (Some p) named is =
        let has : option_map_or (has_slots (slots_of_bytes bytes)) p.tx false ≡ true = sym (ap (λ (o : Option OwnPort). option_map_or (has_slots (slots_of_bytes bytes)) (option_and_then (ring_on Tx) o) false) (found p named)) ∙ is in
        no-room-call own bytes p p.tx has

-- a side that is changed or not has the ports that it had
pub same-ports : (b : Bool) (t s : OwnState) → t.ports ≡ s.ports → (cond b t s).ports ≡ s.ports
same-ports true t s same = same
same-ports false t s same = refl
