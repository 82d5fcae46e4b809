-- What the kernel side of a port's receive ring shows of the world. A line and the world are both
-- seen as the size of the ring, the numbers of the idle buffers, and for each lot its number, its
-- slots, and once it is done its buffers and the parts of its frames in them.
use Rattle.std.specs.Prelude.{ℕ, ◌≡◌, if◌then◌else◌, List, [], ◌∷◌, map, Option, Some, None, option_map, length}
use Rattle.nm_types.specs.Frames.{Frame, size_of_frames}
use Rattle.nm_types.specs.Parts.{HeldPart, cut_frames}
use Rattle.nm_region.specs.Buffers.{indices_of}
use Rattle.vale_line.specs.declared.got.Got.{Got}
use Rattle.vale_line.specs.Gots.{buffers_of, held_parts}
use Rattle.vale_line.specs.Lines.{HeldLot, LineState}
use Rattle.vale_entry.specs.World.{Port, Lot}
use Rattle.vale_entry.specs.Holdings.{PortBuffers}

-- the buffers of a lot, and the parts of its frames
pub record KeptFrames : Type 0 where
  pub buffers : List ℕ
  pub parts : List HeldPart

pub record KeptLot : Type 0 where
  pub number : ℕ
  pub slots : ℕ
  pub given : Option KeptFrames

pub record KeptLine : Type 0 where
  pub size : ℕ
  pub idle : List ℕ
  pub lots : List KeptLot

-- The line's side.

abbrev pub kept_gots : List Got → KeptFrames
kept_gots gots = record { buffers = indices_of (buffers_of gots); parts = held_parts gots }

abbrev pub kept_lot : HeldLot → KeptLot
kept_lot lot = record { number = lot.id.0; slots = lot.slots; given = option_map kept_gots lot.gots }

abbrev pub kept_line : LineState → KeptLine
kept_line line = record { size = line.size; idle = indices_of line.idle; lots = map kept_lot line.lots }

-- The world's side.

abbrev pub bytes_of : List Frame → List (List ℕ)
bytes_of frames = map (λ (f : Frame). f.bytes) frames

abbrev pub world_frames : Lot → List ℕ → KeptFrames
world_frames lot buffers = record { buffers = buffers; parts = cut_frames (bytes_of lot.frames) }

abbrev pub world_lot : Lot → List ℕ → KeptLot
world_lot lot buffers = record {
  number = lot.number;
  slots = size_of_frames lot.frames;
  given = if lot.is_done then Some (world_frames lot buffers) else None;
}

abbrev pub world_lots : List Lot → List (List ℕ) → List KeptLot
world_lots [] lists = []
world_lots (lot ∷ lots) [] = []
world_lots (lot ∷ lots) (list ∷ lists) = world_lot lot list ∷ world_lots lots lists

abbrev pub world_line : Port → PortBuffers → KeptLine
world_line port held = record { size = port.rx; idle = held.idle; lots = world_lots port.line held.lots }

-- a line stands for a port and for the buffers of its kernel side
pub record IsLineOf (port : Port) (held : PortBuffers) (line : LineState) : Type 0 where
  pub same : kept_line line ≡ world_line port held
  pub as_many : length held.lots ≡ length port.line
