use Rattle.std.proofs.Common.{OnOk, refl, sym, subst}
use Rattle.vale_entry.specs.declared.entry.Ask.TheVariants.{Put}
use Rattle.vale_port.specs.Kept.{bytes_of}
use Rattle.vale_book.specs.Putting.{items_of, IsPut}
use Rattle.vale_book.specs.Recorded.{Recorded, standing}
use Rattle.vale_fabric.specs.Fabrics.{before}
use Rattle.vale_fabric.specs.Puts.{is_put_said}
use Rattle.vale_fabric.specs.Steps.{is_made}
use Rattle.vale_fabric.proofs.Acting.{Acts, ActsIf, acted, acts-of, if-acted, may-go}
use Rattle.vale_fabric.proofs.AtHand.{copies-are, hand-on, low-pool, puts-keep, puts-settled}
use Rattle.vale_fabric.proofs.Lent.{as-lent}
use Rattle.vale_book.proofs.Said.{said-by}
use Rattle.vale_fabric.proofs.Making.{answered, enabled-now, step-now}
use Rattle.vale_fabric.proofs.PutsMade.{puts-act, puts-not}
use Rattle.vale_book.proofs.PutsTold.{copies-fit, put-said}
use Rattle.vale_fabric.proofs.Speaking.{speaks-on}
use Rattle.vale_fabric.proofs.fabric.Fabric.pipe_put.Given as given
use Rattle.vale_fabric.proofs.fabric.Fabric.pipe_put.Goals.{After-pipe_put-put}
use Rattle.vale_fabric.proofs.fabric.Fabric.pipe_put.Goals as goal

did : (g : given.Over) (c : After-pipe_put-put g) → ActsIf (is_made is_put_said c.pipe_put-put.result) c.deref_mut.result.now c.pipe_put-put.new.self (Put c.args.port (items_of c.args.pending.now.items))
did g c =
    let e = c.pipe_put-put.ensures in
    puts-act c.deref_mut.result.now c.pipe_put-put.new.self c.pipe_put-put.result (step-now c.requires.may (as-lent c.deref_mut.ensures.value c.take-book.ensures.taken) tt) e.made e.room e.err

acts : (g : given.Over) (c : After-pipe_put-put g) → OnOk c.pipe_put-put.result (Acts c.deref_mut.result.now c.pipe_put-put.new.self (Put c.args.port (items_of c.args.pending.now.items)))
acts g c = acts-of c.deref_mut.result.now c.pipe_put-put.new.self (Put c.args.port (items_of c.args.pending.now.items)) is_put_said c.pipe_put-put.result (did g c)

pub pipe_put-put-requires-clause-enabled : goal.pipe_put-put-requires-clause-enabled
pipe_put-put-requires-clause-enabled g c = enabled-now c.requires.may (as-lent c.deref_mut.ensures.value c.take-book.ensures.taken)

pub give-requires-clause-goes : goal.give-requires-clause-goes
give-requires-clause-goes g c = may-go (as-lent c.deref_mut.ensures.value c.take-book.ensures.taken) c.is_put_said.ensures c.requires.may refl (did g (goal.at.give-requires-clause-goes g c).After-pipe_put-put)

pub returns-clause-made : goal.returns-clause-made
returns-clause-made g c =
    let taken = (as-lent c.deref_mut.ensures.value c.take-book.ensures.taken) in
    let back = c.give.ensures.back in
    if-acted taken back c.pipe_put-put.result (acts g (goal.at.returns-clause-made g c).After-pipe_put-put) c.pipe_put-put.ensures.put
    (λ put a is. answered (acted taken back a) (said-by a.steps (put-said a.steps taken.legal is)))

pub returns-clause-put : goal.returns-clause-put
returns-clause-put g c =
    let taken = (as-lent c.deref_mut.ensures.value c.take-book.ensures.taken) in
    let back = c.give.ensures.back in
    if-acted taken back c.pipe_put-put.result (acts g (goal.at.returns-clause-put g c).After-pipe_put-put) c.pipe_put-put.ensures.put
    (λ put a is.
    let m = acted taken back a in
    subst (λ (new : Recorded). IsPut (before c.args.self.now c.give.new.pass) new c.args.port c.args.pending.now.items put) (sym m.now)
    (subst (λ (old : Recorded). IsPut old c.pipe_put-put.new.self c.args.port c.args.pending.now.items put) (sym m.was) is))

pub returns-clause-fit : goal.returns-clause-fit
returns-clause-fit g c =
    if-acted (as-lent c.deref_mut.ensures.value c.take-book.ensures.taken) c.give.ensures.back c.pipe_put-put.result (acts g (goal.at.returns-clause-fit g c).After-pipe_put-put) c.pipe_put-put.ensures.put
    (λ put a is. copies-fit a.steps is)

pub returns-clause-speaks : goal.returns-clause-speaks
returns-clause-speaks g c =
    let taken = (as-lent c.deref_mut.ensures.value c.take-book.ensures.taken) in
    let back = c.give.ensures.back in
    if-acted taken back c.pipe_put-put.result (acts g (goal.at.returns-clause-speaks g c).After-pipe_put-put) c.pipe_put-put.ensures.put
    (λ put a is some. speaks-on put.offers c.requires.may taken refl a back is.is.offers.stand is.is.offers.entry some)

pub returns-clause-hand : goal.returns-clause-hand
returns-clause-hand g c =
    let taken = (as-lent c.deref_mut.ensures.value c.take-book.ensures.taken) in
    let back = c.give.ensures.back in
    let items = items_of c.args.pending.now.items in
    if-acted taken back c.pipe_put-put.result (acts g (goal.at.returns-clause-hand g c).After-pipe_put-put) c.pipe_put-put.ensures.put
    (λ put a is some.
    let has = copies-are c.pipe_put-put.new.self is.port.session _ _ put.copies put.offers is.is.offers is.is.copies some in
    hand-on put.offers (bytes_of put.copies) c.requires.may (low-pool c.args.self.now) taken refl a back has is.is.offers.entry
    (puts-settled c.requires.may.session c.args.port items) (puts-keep (standing c.deref_mut.result.now) c.args.port items _ a.steps.makes.reply _ (put-said a.steps taken.legal is)) some)

pub returns-clause-refused : goal.returns-clause-refused
returns-clause-refused g c =
    let taken = (as-lent c.deref_mut.ensures.value c.take-book.ensures.taken) in
    puts-not c.pipe_put-put.result taken (step-now c.requires.may taken tt) (did g (goal.at.returns-clause-refused g c).After-pipe_put-put) c.give.ensures.back c.pipe_put-put.ensures.refused
