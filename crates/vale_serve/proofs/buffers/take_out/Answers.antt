use Rattle.std.proofs.Common.{◌++◌, ◌∷◌, [], List, take, get_or, refl, ap, arith, length, length-append}
use Rattle.std.proofs.lemmas.Option.{slice_get-get_or}
use Rattle.nm_region.specs.Buffers.{Buffer}
use Rattle.vale_serve.specs.Buffers.{AreTaken}
use Rattle.vale_serve.proofs.Taking.{still-holds, taken-more, take-next}
use Rattle.vale_serve.proofs.buffers.take_out.Goals as goal

pub take_one-requires : goal.take_one-requires
take_one-requires c =
    let i = c.loop-index.index-index in
    still-holds c.args.bufs.now.items c.loop-index.bufs.items c.args.named.now i (get_or c.args.named.now i 0) c.loop-index.to.items c.requires.there c.loop-index.invariant.taken
    (slice_get-get_or c.args.named.now i 0 c.loop-index-test.true)

pub loop-index-preserved : goal.loop-index-preserved
loop-index-preserved c =
    let i = c.loop-index.index-index in
    let named = c.args.named.now in
    let n = get_or named i 0 in
    let buf = c.take_one.result in
    let one = c.take_one.ensures.taken in
    let more : AreTaken c.args.bufs.now.items (take i named ++ n ∷ []) (c.loop-index.to.items ++ buf ∷ []) c.take_one.new.bufs.items =
    taken-more c.args.bufs.now.items c.loop-index.bufs.items c.take_one.new.bufs.items (take i named) n c.loop-index.to.items buf buf c.loop-index.invariant.taken one one.index_is refl in
    let items = c.push_reserved.ensures.items in
    let size = ap (λ (xs : List Buffer). length xs) items in
    let long = length-append c.loop-index.to.items (buf ∷ []) in
    let count = c.loop-index.invariant.count in
    let room = c.loop-index.invariant.room in
    let capacity = c.push_reserved.ensures.capacity in
    let had = c.loop-index.invariant.capacity in
    let kept = c.take_one.ensures.capacity in
    record {
      taken = rw (take-next named i n (slice_get-get_or named i 0 c.loop-index-test.true), items) more;
      count = omega (arith, size, long, count);
      room = rw capacity room;
      capacity = omega (arith, had, kept);
    }
