use Rattle.std.proofs.Common.{◌≡◌, ◌++◌, ◌∷◌, [], take, reverse, ap, sym, ◌∙◌, arith, rules}
use Rattle.std.proofs.lemmas.List.{append_assoc}
use Rattle.nm_pipe.proofs.Moved.{next-moved, popped}
use Rattle.nm_pipe.proofs.exchange.take_first.Goals as goal

pub loop-preserved : goal.loop-preserved
loop-preserved g c =
    let all = c.args.pending.now.items in
    let item = c.in-Some.item in
    let was : c.loop.pending.items ≡ c.pop.new.self.items ++ item ∷ [] = search rules in
    let seen = sym c.loop.invariant.pending ∙ popped c.loop.pending.items c.pop.new.self.items item was in
    let next = next-moved all c.loop.counter item (reverse c.pop.new.self.items) seen in
    let pushed : c.push_reserved.new.self.items ≡ c.loop.taken.items ++ item ∷ [] = search rules in
    let room = c.loop.invariant.room in
    let len = c.push_reserved.ensures.len in
    let capacity = c.push_reserved.ensures.capacity in
    let test = c.loop-test.true in
    record {
      taken = pushed
          ∙ (ap (λ xs. xs ++ item ∷ []) c.loop.invariant.taken
          ∙ (append_assoc c.args.taken.now.items (take c.loop.counter all) (item ∷ []) ∙ ap (λ xs. c.args.taken.now.items ++ xs) (sym next.front)));
      pending = next.behind;
      capacity = search rules;
      room = omega (arith, room, len, capacity, test);
    }
