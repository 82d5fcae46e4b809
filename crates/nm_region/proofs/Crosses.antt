-- A block, its parts and its deed may go to another thread: they are memory, and a right to free it.
use Rattle.std.specs.Prelude.{ℕ, ◌+◌, Bool, true, false, List, [], ◌∷◌, length}
use base.Shift.{Keyless}
use denote.RattleType.{RattleType}
use denote.RawPtr.{Ptr, block_ptr, null_ptr}
use denote.Struct.Struct.{exits_of}
use denote.Struct.Owning.{shape, fields, to}
use denote.Array.{Array}
use denote.Builtin.{u8}
use denote.Param.Send.{IsSend, IsSync, AllSend, owning_send, struct_send, struct_sync, array_send, array_sync, sendable}
use Rattle.std.specs.declared.alloc.Allocator.{Ghosts}
use Rattle.std_alloc.proofs.SendSync.{FreesAnywhere, quiet, lies, seen}
use Rattle.std_alloc.specs.Vec.Ownership.{lodged}
use Rattle.nm_region.specs.Parts.{lead, parts, parts_at}
use Rattle.nm_region.specs.contracts.block.Block as Block
use Rattle.nm_region.specs.contracts.block.Deed as Deed
use Rattle.nm_region.specs.contracts.part.Part as Part

parts-Keyless : (s b o : ℕ) (home : List Bool) → Keyless (parts s b o home)
parts-Keyless s b o [] = tt
parts-Keyless s b o (true ∷ home) = (tt, parts-Keyless s b (o + s) home)
parts-Keyless s b o (false ∷ home) = parts-Keyless s b (o + s) home

at-Keyless : (p : Ptr) (home : List Bool) → Keyless (parts_at p home)
at-Keyless (block_ptr b o) home = (tt, parts-Keyless 2048 b (o + lead) home)
at-Keyless null_ptr home = tt

pub Block-send : IsSend Block.the_row
Block-send =
    let O = Block.the_type in let all : AllSend (fields O) = (search sendable, (search sendable, tt)) in
    owning_send O all (λ d. at-Keyless d.start d.home) (λ k. quiet (to O) (exits_of k (fields O)) ((struct_send (shape O) all).leaving k))

part-Keyless : (p : Ptr) (xs : List ℕ) → Keyless (lodged u8 p (length xs) 2048 xs)
part-Keyless (block_ptr b o) xs = (tt, (lies (Array u8 (length xs)) (array_send u8 (length xs) (search sendable)) (block_ptr b o) xs, (tt, tt)))
part-Keyless null_ptr xs = (tt, tt)

pub Part-send : IsSend Part.the_row
Part-send =
    let O = Part.the_type in let all : AllSend (fields O) = (search sendable, tt) in
    owning_send O all (λ d. part-Keyless d.at d.items) (λ k. quiet (to O) (exits_of k (fields O)) ((struct_send (shape O) all).leaving k))

pub Part-sync : IsSync Part.the_row
Part-sync =
    let O = Part.the_type in
    record { shared = λ d b o κ. ((struct_sync (shape O) (search sendable, tt)).shared (to O d) b o κ, (tt, seen (Array u8 (length d.items)) (array_sync u8 (length d.items) (search sendable)) d.at d.items κ)) }

module _ (A : RattleType) (g : Ghosts A.Denot) where
  pub Deed-send : FreesAnywhere A.Denot g → IsSend (Deed.the_row A g)
  Deed-send f =
      let O = Deed.the_type A g in let all : AllSend (fields O) = (search sendable, tt) in
      owning_send O all (λ d. f.frees d.alloc _ d.start) (λ k. quiet (to O) (exits_of k (fields O)) ((struct_send (shape O) all).leaving k))
