use Rattle.std.proofs.Common.{get_or, arith}
use Rattle.std.proofs.lemmas.Option.{slice_get-get_or}
use Rattle.vale_serve.proofs.Copied.{are-push}
use Rattle.vale_serve.proofs.copying.frame_rooms.Goals as goal

pub loop-i-preserved : goal.loop-i-preserved
loop-i-preserved c =
    let sizes = c.args.sizes.now in
    let i = c.loop-i.i in
    let k = c.loop-i.invariant in
    let count = k.count in
    let more = c.push_reserved.ensures.len in
    let is = c.in_ok-with_capacity.ensures in
    record {
      are = rw c.push_reserved.ensures.items (are-push c.loop-i.rooms.items sizes i (get_or sizes i 0) c.in_ok-with_capacity.field-0 k.are (slice_get-get_or sizes i 0 c.loop-i-test.true) (is.items, is.capacity));
      count = omega (arith, count, more);
      room = rw c.push_reserved.ensures.capacity k.room;
    }
