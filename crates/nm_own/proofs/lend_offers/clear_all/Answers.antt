use Rattle.std.proofs.Common.{◌<◌, length}
use Rattle.std.proofs.lemmas.List.Edits.{map_over_more}
use Rattle.nm_port.specs.Puts.{cleared}
use Rattle.nm_own.proofs.lend_offers.clear_all.Goals as goal

pub loop-buf-preserved : goal.loop-buf-preserved
loop-buf-preserved c =
    let inside : c.loop-buf.buf-index < length c.args.bufs.now = c.loop-buf-test.true in
    let more = map_over_more cleared c.args.bufs.now c.loop-buf.bufs c.loop-buf.buf-index c.buf-item.result inside c.loop-buf.invariant c.buf-item.is in
    rw (c.clear_behind.ensures, ← c.buf-item.is) more
