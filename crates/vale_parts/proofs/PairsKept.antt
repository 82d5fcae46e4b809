-- What a sender teaches is a pair of its switch.
use Rattle.std.proofs.Common.{ℕ, ◌≡◌, Bool, true, false, cond, List, [], ◌∷◌, map, Some, refl, ◌∙◌, ap, bytes_eq}
use Rattle.std.specs.List.{AllByRecursion as Each}
use Rattle.std.proofs.lemmas.Bool.{and_from}
use Rattle.std.proofs.lemmas.Slice.Eq.{bytes_eq-Decides}
use Rattle.nm_types.specs.Frames.{Frame}
use Rattle.nm_types.specs.Names.{switch_of, is_switch_port_name}
use Rattle.vale_entry.specs.World.{Port, Pair, open_port}
use Rattle.vale_entry.specs.Learning.{learned, learned_of_batch, is_learnable, source_address}
use Rattle.vale_entry.specs.Opening.{is_on_switch}
use Rattle.vale_entry.specs.Laws.{Rise, id_of_port, IsPairOf}
use Rattle.vale_entry.proofs.Each.{each-weaker}
use Rattle.vale_entry.proofs.Places.{open-place}
use Rattle.vale_entry.proofs.PortAt.{found-open, port_at-below}
use Rattle.vale_entry.proofs.Watched.{only-place}

abbrev pub name_of : Port → List ℕ
name_of port = port.name

learned_each : (P : Pair → Type 0) (sender : Port) → ((address : List ℕ) → P (record { switch = switch_of sender.name; address = address; port = sender.id })) → (frames : List Frame)
    → (pairs : List Pair) → Each P pairs → Each P (learned_of_batch sender pairs frames)
learned_each P sender holds [] pairs all = all
learned_each P sender holds (frame ∷ frames) pairs all =
    learned_each P sender holds frames (learned sender pairs frame) (by_test (is_learnable frame))
  where
    by_test : (b : Bool) → Each P (cond b (record { switch = switch_of sender.name; address = source_address frame; port = sender.id } ∷ pairs) pairs)
    by_test true = (holds (source_address frame), all)
    by_test false = all

-- what a port of a switch teaches
pub sender_pair : (ports : List Port) (count from : ℕ) (port : Port) → Rise 0 (map id_of_port ports) count → open_port ports from ≡ Some port → is_switch_port_name port.name ≡ true
    → (address : List ℕ) → IsPairOf count ports (record { switch = switch_of port.name; address = address; port = port.id })
sender_pair ports count from port r e named address =
    let place = open-place ports count from port r e in
    let low = port_at-below ports count from port r (found-open ports count from port r e) in
    let on : is_on_switch (switch_of port.name) port ≡ true = and_from (is_switch_port_name port.name) (bytes_eq (switch_of port.name) (switch_of port.name)) named ((bytes_eq-Decides (switch_of port.name) (switch_of port.name)).1 refl) in
    let only = only-place ports count place.place port r place.here in
    record {
      within = low;
      on_switch = each-weaker (λ (p : Port). p.id ≡ port.id → p ≡ port) (λ (p : Port). p.id ≡ port.id → is_on_switch (switch_of port.name) p ≡ true)
          (λ p same id. ap (is_on_switch (switch_of port.name)) (same id) ∙ on) ports only;
    }

pub learned-paired : (ports : List Port) (count from : ℕ) (port : Port) → Rise 0 (map id_of_port ports) count → open_port ports from ≡ Some port → is_switch_port_name port.name ≡ true
    → (frames : List Frame) (pairs : List Pair) → Each (IsPairOf count ports) pairs → Each (IsPairOf count ports) (learned_of_batch port pairs frames)
learned-paired ports count from port r e named frames pairs all = learned_each (IsPairOf count ports) port (sender_pair ports count from port r e named) frames pairs all
