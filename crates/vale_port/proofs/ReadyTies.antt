-- The frames that a sync gives, before it is made.
use Rattle.std.proofs.Common.{ℕ, ◌≡◌, List, [], ◌∷◌, length, map, refl, sym, ◌∙◌, ap}
use Rattle.std.proofs.lemmas.List.{length-map}
use Rattle.nm_types.specs.Frames.{Frame}
use Rattle.nm_types.specs.Parts.{slots_of_bytes}
use Rattle.vale_line.specs.Lines.{ready_frames}
use Rattle.vale_entry.specs.Delivery.{delivered_frames}
use Rattle.vale_port.specs.Kept.{bytes_of}
use Rattle.vale_port.specs.Ports.{PortState, IsSeatOf, sizes_of}
use Rattle.vale_port.specs.Seat.{Seat}
use Rattle.vale_port.proofs.LineTies.{given-lots}
use Rattle.vale_port.proofs.SeatTies.{ties-seat}

pub frames-ready : (seat : Seat) (p : PortState) → IsSeatOf seat p → ready_frames p.line.lots ≡ bytes_of (delivered_frames seat.port)
frames-ready seat p is = (given-lots p.line.lots seat.port.line seat.held.lots (ties-seat seat p is)).bytes

pub count-ready : (seat : Seat) (p : PortState) → IsSeatOf seat p → length (ready_frames p.line.lots) ≡ length (delivered_frames seat.port)
count-ready seat p is =
    ap (λ (fs : List (List ℕ)). length fs) (frames-ready seat p is) ∙ length-map (delivered_frames seat.port) (λ (f : Frame). f.bytes)

sizes-bytes : (frames : List Frame) → map slots_of_bytes (bytes_of frames) ≡ sizes_of frames
sizes-bytes [] = refl
sizes-bytes (f ∷ fs) = ap (λ (ns : List ℕ). slots_of_bytes f.bytes ∷ ns) (sizes-bytes fs)

pub sizes-ready : (seat : Seat) (p : PortState) → IsSeatOf seat p → map slots_of_bytes (ready_frames p.line.lots) ≡ sizes_of (delivered_frames seat.port)
sizes-ready seat p is = ap (map slots_of_bytes) (frames-ready seat p is) ∙ sizes-bytes (delivered_frames seat.port)
