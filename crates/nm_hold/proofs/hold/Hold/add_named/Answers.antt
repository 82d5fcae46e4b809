use Rattle.nm_hold.specs.declared.standing.Standing.{Standing}
use Rattle.nm_hold.proofs.Added.{Added, added}
use Rattle.nm_hold.proofs.hold.Hold.add_named.Goals as goal

abbrev standing : goal.After-replace → Standing
standing c = record { home = record { place = c.args.place; named = c.args.named }; buf = c.args.buf }

step : (c : goal.After-replace) → Added c.self.inside.cells c.self.inside.ports.tables (standing c) c.put.new.self c.replace.new.self.tables
step c =
    added c.self.inside.cells c.self.inside.ports.tables (standing c) c.index-idx.result c.put.new.self c.replace.new.self.tables c.self.invariant
    (rw (← c.self.view_is) at c.requires.belongs) (rw (← c.self.view_is) at c.requires.empty) (rw (← c.self.view_is) at c.requires.index) (rw (← c.self.view_is) at c.requires.apart) c.index-idx.ensures c.put.ensures c.replace.ensures.tables

pub invariant_of-self : goal.invariant_of-self
invariant_of-self c = (step c).whole

pub returns : goal.returns
returns c = let s = step c in record { cell = rw (← c.self.view_is) s.cell; places = λ p. rw (← c.self.view_is) (s.places p); hold = s.hold }
