-- A spot, a husk and a cell may go to another thread where the values may: they are facts, a right to
-- free memory, and a value or nothing.
use Rattle.std.specs.Prelude.{List, length, Option, Some, None}
use base.Shift.{Keyless}
use mir.Val.{Val}
use denote.RattleType.{RattleType}
use denote.Struct.Struct.{exits_of}
use denote.Struct.Declared as declared
use denote.Struct.Owning.{shape, fields, to}
use denote.Param.Send.{IsSend, AllSend, owning_send, struct_send, sendable}
use Rattle.std.specs.Vec.{with_items}
use Rattle.std.proofs.Crossing.{Vec-send}
use Rattle.std_alloc.proofs.SendSync.{lies, quiet}
use denote.Array.{Array}
use denote.Param.Send.{array_send}
use Rattle.nm_reach.specs.contracts.parts.Spot as Spot
use Rattle.nm_reach.specs.contracts.parts.Husk as Husk
use Rattle.nm_reach.specs.contracts.parts.Husk.TheInside as Inside
use Rattle.nm_reach.specs.contracts.cell.Cell as Cell
use Rattle.nm_reach.specs.contracts.cell.Cell.TheInside as InCell

pub spot-send : (T : RattleType) → IsSend (Spot.the_row T)
spot-send T =
    let O = Spot.the_type T in let all : AllSend (fields O) = (search sendable, tt) in
    owning_send O all (λ d. (tt, tt)) (λ k. quiet (to O) (exits_of k (fields O)) ((struct_send (shape O) all).leaving k))

pub husk-send : (T : RattleType) → IsSend T → IsSend (Husk.the_row T)
husk-send T s = record {
  owned = λ e vs. (
    (λ _. tt),
    λ v. (
      tt,
      λ xs. (
        (tt, lies (Array T (length xs)) (array_send T (length xs) s) e.field xs),
        (struct_send (declared.shape (Inside.the_type T)) (Vec-send T s, tt)).owned (with_items v.vec xs, tt) vs,
      ),
    ),
  );
  leaving = λ k x w. tt;
}

pub cell-send : (T : RattleType) → IsSend T → IsSend (Cell.the_row T)
cell-send T s = record { owned = owned; leaving = λ k x w. tt }
  where
    owned : (held : Option T.Denot) (vs : List Val) → Keyless ((Cell.the_row T).own_val held vs)
    owned None vs = ((λ _. tt), tt)
    owned (Some x) vs = ((λ _. tt), (struct_send (declared.shape (InCell.the_type T)) (s, tt)).owned (x, tt) vs)
