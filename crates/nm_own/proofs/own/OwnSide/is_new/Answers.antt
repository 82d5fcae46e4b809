use Rattle.std.proofs.Common.{Bool, ◌≡◌, ◌+◌, ◌∙◌, true, false, List, length, Option, Some, None, Bor, ap, refl, arith}
use Rattle.std.specs.Prelude.{is_none, is_some, not}
use Rattle.std.specs.Option.{option_copied}
use Rattle.std.proofs.lemmas.List.{length-replicate}
use Rattle.nm_types.specs.Buffers.{IsBufferIndex}
use Rattle.nm_region.specs.Buffers.{Buffer}
use Rattle.nm_hold.specs.Holds.{buffers_of}
use Rattle.nm_own.proofs.PutOne.{new_if}
use Rattle.nm_own.proofs.own.OwnSide.is_new.Goals as goal

none_copied : (o : Option (Bor Buffer)) (b : Bool) → is_some o ≡ not b → b ≡ is_none (option_copied o)
none_copied None true e = refl
none_copied None false e = absurd cc
none_copied (Some x) true e = absurd cc
none_copied (Some x) false e = refl

pub returns : goal.returns
returns c =
    let h = c.self.inside.hold in
    let marks : length c.self.inside.marks ≡ buffers_of h + 2 = ap (λ (m : List Bool). length m) c.self.invariant.blank ∙ length-replicate (buffers_of h + 2) false in
    let len : c.len.result ≡ length c.self.inside.marks = c.len.ensures in
    let index : IsBufferIndex (buffers_of h) c.args.idx = (omega (arith, c.if-idx-lt2.false), omega (arith, c.if-idx-len.false, marks, len)) in
    rw (← c.self.view_is) (new_if h c.self.inside.ports.items c.args.idx c.is_none.result c.self.invariant.whole (none_copied c.buffer.result c.is_none.result c.is_none.ensures ∙ ap is_none c.buffer.ensures.buffer) index)
