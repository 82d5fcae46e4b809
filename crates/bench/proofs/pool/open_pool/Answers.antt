use Rattle.std.proofs.Common.{◌≡◌, [], length}
use Rattle.std.proofs.lemmas.Result.{IfOk-weaker}
use Rattle.nm_pool.specs.Free.{AreOut}
use Rattle.bench.proofs.Opened.{whole_opened, size_opened, out_opened, opened_err}
use Rattle.bench.proofs.pool.open_pool.Goals as goal

pub new-requires : goal.new-requires
new-requires c = record {
  size = size_opened c.args.region.now c.args.all.items c.requires.all c.requires.size;
  whole = whole_opened c.args.region.now c.args.all.items c.requires.all;
}

pub returns-clause-ok : goal.returns-clause-ok
returns-clause-ok c = IfOk-weaker c.new.result (λ pool. pool ≡ record { buffers = length c.args.all.items; free = c.args.all.items }) (AreOut c.args.region.now [])
    (λ pool is. out_opened c.args.region.now c.args.all.items pool c.requires.all is) c.new.ensures.ok

pub returns-clause-err : goal.returns-clause-err
returns-clause-err c = opened_err c.new.result c.args.region.now c.args.all.items c.requires.all c.new.ensures.err
