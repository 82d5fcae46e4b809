-- Copies of received frames, in memory that was kept for them.
use Rattle.std.specs.Prelude.{ℕ, ◌≡◌, ◌≤◌, ◌*◌, List, [], ◌∷◌, vec_capacity, Vec}
use Rattle.std.specs.declared.alloc.Global.{Global}
use Rattle.nm_types.specs.Limits.{buffer_bytes}
use Rattle.vale_serve.specs.declared.copying.CopyRoom.TheInside.{Inside}

-- memory for a frame of so many slots
abbrev pub IsFrameRoom : ℕ → Vec ℕ Global → Type 0
IsFrameRoom size room = (room.items ≡ []) × (buffer_bytes * size ≤ vec_capacity room)

-- for a frame of each of these sizes
abbrev pub AreFrameRooms : List (Vec ℕ Global) → List ℕ → Type 0
AreFrameRooms [] [] = Unit {0}
AreFrameRooms [] (size ∷ sizes) = ⊥
AreFrameRooms (room ∷ rooms) [] = ⊥
AreFrameRooms (room ∷ rooms) (size ∷ sizes) = IsFrameRoom size room × AreFrameRooms rooms sizes

abbrev pub IsCopyRoom : Inside → Type 0
IsCopyRoom room = AreFrameRooms room.rooms.items room.sizes.items
