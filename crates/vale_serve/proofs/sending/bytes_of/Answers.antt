use Rattle.std.proofs.Common.{ℕ, ◌++◌, [], ◌∷◌, List, length, take, sym, ◌∙◌, ap, arith, length-append}
use Rattle.std.specs.Prelude.{Vec}
use Rattle.std.specs.declared.alloc.Global.{Global}
use Rattle.std.proofs.lemmas.List.{map-append}
use Rattle.vale_port.specs.Kept.{bytes_of}
use Rattle.vale_serve.specs.Users.{contents}
use Rattle.vale_serve.proofs.Sends.{bytes-more}
use Rattle.vale_serve.proofs.sending.bytes_of.Goals as goal

pub loop-i-preserved : goal.loop-i-preserved
loop-i-preserved c =
    let frame = c.in_ok-copy_of.field-0 in
    let more = bytes-more c.args.batch.now c.loop-i.i c.frame.result.now c.frame.ensures in
    let long = length-append c.loop-i.all.items (frame ∷ []) in
    let items = c.push_reserved.ensures.items in
    let size = ap (λ (xs : List (Vec ℕ Global)). length xs) items in
    let count = c.loop-i.invariant.count in
    let room = c.loop-i.invariant.room in
    let capacity = c.push_reserved.ensures.capacity in
    record {
      made = ap contents items ∙ (map-append (λ (v : Vec ℕ Global). v.items) c.loop-i.all.items (frame ∷ [])
          ∙ (ap (λ (xs : List (List ℕ)). xs ++ frame.items ∷ []) c.loop-i.invariant.made
          ∙ (ap (λ (bytes : List ℕ). bytes_of (take c.loop-i.i c.args.batch.now) ++ bytes ∷ []) c.in_ok-copy_of.ensures ∙ sym more)));
      count = omega (arith, size, long, count);
      room = rw capacity room;
    }
