use Rattle.std.proofs.Common.{◌≡◌, ◌++◌, ap, ◌∙◌, sym, subst}
use Rattle.nm_pool.specs.Free.{PoolState}
use Rattle.vale_parts.specs.FreeBuffers.{CanAllBeGiven, pool_with_all}
use Rattle.vale_steps.proofs.GivenBack.{can-front, can-rest, with-both}
use Rattle.vale_steps.proofs.opening.give_all.Goals as goal

pub give_back-requires : goal.give_back-requires
give_back-requires c =
    let taken = c.args.taken in
    can-front c.args.pool.now taken.tx.items taken.rx.items (can-front c.args.pool.now (taken.tx.items ++ taken.rx.items) taken.extra.items c.requires)

pub give_back-requires-2 : goal.give_back-requires-2
give_back-requires-2 c =
    let taken = c.args.taken in
    rw c.give_back.ensures (can-rest c.args.pool.now taken.tx.items taken.rx.items (can-front c.args.pool.now (taken.tx.items ++ taken.rx.items) taken.extra.items c.requires))

pub give_back-requires-3 : goal.give_back-requires-3
give_back-requires-3 c =
    let taken = c.args.taken in
    let both : c.give_back-2.new.pool ≡ pool_with_all (taken.tx.items ++ taken.rx.items) c.args.pool.now =
    c.give_back-2.ensures ∙ (ap (pool_with_all taken.rx.items) c.give_back.ensures ∙ sym (with-both c.args.pool.now taken.tx.items taken.rx.items)) in
    subst (λ (p : PoolState). CanAllBeGiven p taken.extra.items) (sym both) (can-rest c.args.pool.now (taken.tx.items ++ taken.rx.items) taken.extra.items c.requires)

pub returns : goal.returns
returns c =
    let taken = c.args.taken in
    let both : c.give_back-2.new.pool ≡ pool_with_all (taken.tx.items ++ taken.rx.items) c.args.pool.now =
    c.give_back-2.ensures ∙ (ap (pool_with_all taken.rx.items) c.give_back.ensures ∙ sym (with-both c.args.pool.now taken.tx.items taken.rx.items)) in
    c.give_back-3.ensures ∙ (ap (pool_with_all taken.extra.items) both ∙ sym (with-both c.args.pool.now (taken.tx.items ++ taken.rx.items) taken.extra.items))
