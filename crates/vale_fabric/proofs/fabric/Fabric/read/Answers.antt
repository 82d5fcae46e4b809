use Rattle.std.proofs.Common.{OnOk}
use Rattle.std.proofs.lemmas.Result.{IfOk-weaker}
use Rattle.nm_region.specs.Buffers.{indices_of}
use Rattle.vale_book.specs.Reading.{read_ask}
use Rattle.vale_book.specs.Recorded.{standing}
use Rattle.vale_fabric.proofs.Acting.{Acts, Tells, acts-told, if-acted, goes-told, refuses}
use Rattle.vale_fabric.proofs.AtHand.{low-pool}
use Rattle.vale_fabric.proofs.Lent.{as-lent}
use Rattle.vale_fabric.proofs.Making.{enabled-now}
use Rattle.vale_fabric.proofs.PortReads.{gave, no-enter, read-on, read-said, read-speaks}
use Rattle.vale_fabric.proofs.fabric.Fabric.read.Given as given
use Rattle.vale_fabric.proofs.fabric.Fabric.read.Goals.{After-read-synced}
use Rattle.vale_fabric.proofs.fabric.Fabric.read.Goals as goal

told : (g : given.Over) (c : After-read-synced g) → Tells c.deref_mut.result.now c.read-synced.new.self (read_ask c.args.is_pipe c.args.port (indices_of c.args.back.items)) gave c.read-synced.result
told g c =
    let e = c.read-synced.ensures in
    let said = IfOk-weaker c.read-synced.result _ _ (λ synced. read-said c.args.is_pipe (standing c.deref_mut.result.now) c.args.port (indices_of c.args.back.items) (gave synced)) e.said in
    record { said = said; made = e.made; room = e.room; same = e.err }

acts : (g : given.Over) (c : After-read-synced g) → OnOk c.read-synced.result (Acts c.deref_mut.result.now c.read-synced.new.self (read_ask c.args.is_pipe c.args.port (indices_of c.args.back.items)))
acts g c = acts-told c.deref_mut.result.now c.read-synced.new.self (read_ask c.args.is_pipe c.args.port (indices_of c.args.back.items)) c.read-synced.result (told g c)

pub read-synced-requires-clause-enabled : goal.read-synced-requires-clause-enabled
read-synced-requires-clause-enabled g c = enabled-now c.requires.may (as-lent c.deref_mut.ensures.value c.take-book.ensures.taken)

pub give-requires-clause-goes : goal.give-requires-clause-goes
give-requires-clause-goes g c =
    goes-told (as-lent c.deref_mut.ensures.value c.take-book.ensures.taken) c.read-synced.result c.is_ok.ensures.value c.requires.may (no-enter c.args.is_pipe c.args.port (indices_of c.args.back.items))
    (told g (goal.at.give-requires-clause-goes g c).After-read-synced)

pub returns-clause-read : goal.returns-clause-read
returns-clause-read g c =
    let e = c.read-synced.ensures in
    read-on c.args.is_pipe c.args.port (indices_of c.args.back.items) c.requires.may (as-lent c.deref_mut.ensures.value c.take-book.ensures.taken) c.give.ensures.back c.read-synced.result (low-pool c.args.self.now)
    (acts g (goal.at.returns-clause-read g c).After-read-synced) e.said e.got e.cut e.few e.offers

pub returns-clause-speaks : goal.returns-clause-speaks
returns-clause-speaks g c =
    let taken = as-lent c.deref_mut.ensures.value c.take-book.ensures.taken in
    let left = c.give.ensures.back in
    if-acted taken left c.read-synced.result (acts g (goal.at.returns-clause-speaks g c).After-read-synced) c.read-synced.ensures.offers
    (λ synced a offers. read-speaks c.args.is_pipe c.args.port (indices_of c.args.back.items) c.requires.may taken left synced a offers)

pub returns-clause-full : goal.returns-clause-full
returns-clause-full g c = refuses (read_ask c.args.is_pipe c.args.port (indices_of c.args.back.items)) (as-lent c.deref_mut.ensures.value c.take-book.ensures.taken) c.give.ensures.back c.read-synced.result (λ refused. refused.0) c.read-synced.ensures.err c.read-synced.ensures.full
