use Rattle.std.proofs.Common.{◌≡◌, ◌+◌, ◌++◌, ◌∷◌, [], List, length, sym, ◌∙◌, ap, subst, arith, length-append}
use Rattle.nm_region.specs.Buffers.{Buffer}
use Rattle.vale_line.specs.declared.got.Got.{Got}
use Rattle.vale_serve.proofs.Framing.{FramedSoFar, framed-more, framed-end, pipe-at}
use Rattle.vale_serve.proofs.putting.all_framed.Goals as goal

pub framed-requires : goal.framed-requires
framed-requires c = pipe-at c.args.offered.now c.loop-i.i c.index-offered-i.result c.requires.pipe c.loop-i-test.true c.index-offered-i.is

pub loop-i-preserved : goal.loop-i-preserved
loop-i-preserved c =
    let k = c.loop-i.invariant in
    let offered = c.args.offered.now in
    let i = c.loop-i.i in
    let item = c.index-offered-i.result in
    let new = c.take_last.new.self.items in
    let buf = c.take_last.result in
    let is = c.take_last.ensures.items in
    let long = ap (λ (bs : List Buffer). length bs) is in
    let more = length-append new (buf ∷ []) in
    let step = framed-more c.args.bufs.items offered i c.loop-i.bufs.items new buf c.loop-i.pending.items item k.framed is c.loop-i-test.true c.index-offered-i.is
    (pipe-at offered i item c.requires.pipe c.loop-i-test.true c.index-offered-i.is) (omega (arith, long, more)) in
    let pushed : c.push_reserved.new.self.items ≡ _ = c.push_reserved.ensures.items ∙ ap (λ (g : Got). c.loop-i.pending.items ++ g ∷ []) c.framed.ensures in
    let count = k.count in
    let size = c.push_reserved.ensures.len in
    record {
      framed = subst (λ (gs : List Got). FramedSoFar c.args.bufs.items offered (i + 1) new gs) (sym pushed) step;
      count = omega (arith, count, size);
      room = rw c.push_reserved.ensures.capacity k.room;
    }

pub returns : goal.returns
returns c =
    let high = c.loop-i-test.false in
    let low = c.loop-i.auto.i-end in
    framed-end c.args.bufs.items c.args.offered.now c.loop-i.i c.loop-i.bufs.items c.loop-i.pending.items c.loop-i.invariant.framed (omega (arith, high, low))
