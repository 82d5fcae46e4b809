use Rattle.std.proofs.Common.{◌∙◌, sym, subst}
use Rattle.nm_types.specs.Buffers.{IsPoolSize}
use Rattle.nm_region.proofs.Named.{AreAllOf-opened}
use Rattle.vale_book.proofs.FreshBooks.{size-opened, whole-opened, fresh-book}
use Rattle.vale_book.proofs.book.Book.new.Goals as goal

pub new-requires-4-clause-size : goal.new-requires-4-clause-size
new-requires-4-clause-size c =
    subst IsPoolSize (sym (size-opened c.in_ok-region.region c.in_ok-region.all.items c.args.buffers c.in_ok-region.ensures.all c.in_ok-region.ensures.buffers)) c.requires.pool

pub new-requires-4-clause-whole : goal.new-requires-4-clause-whole
new-requires-4-clause-whole c = whole-opened c.in_ok-region.region c.in_ok-region.all.items c.in_ok-region.ensures.all

pub invariant_of-result : goal.invariant_of-result
invariant_of-result c = fresh-book _ c.in_ok-region.all.items (record {
  entries = c.new-in-Ok.ensures.entries;
  promised = c.new-in-Ok.ensures.promised;
  sessions = c.new-in-Ok-2.ensures.items;
  ports = c.new-in-Ok-3.ensures.items;
  names = c.in_ok-names.ensures;
  tables = c.new-in-Ok-4.ensures.items;
  watches = c.new-in-Ok-5.ensures;
  tally = c.in_ok-tally.ensures;
  pool = c.in-Ok.ensures.ok;
  bufs_are = c.in_ok-region.ensures.all;
  size = c.in_ok-region.ensures.buffers;
  few = rw c.new-in-Ok.ensures.limits c.requires.few;
  fits = c.requires.pool;
})

pub close-requires : goal.close-requires
close-requires c = AreAllOf-opened c.in_ok-region.region c.in-Err.all.items (c.in-Err.ensures.err ∙ c.in_ok-region.ensures.all)

pub returns-in-Ok-clause-pool : goal.returns-in-Ok-clause-pool
returns-in-Ok-clause-pool c = rw c.in-Ok.ensures.ok (size-opened c.in_ok-region.region c.in_ok-region.all.items c.args.buffers c.in_ok-region.ensures.all c.in_ok-region.ensures.buffers)
