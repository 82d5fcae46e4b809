use Rattle.std.proofs.Common.{◌≡◌, ◌-◌}
use Rattle.nm_types.specs.OwnEdits.{frames_forwarded}
use Rattle.nm_own.proofs.own.OwnSide.forward.Given as goal

abbrev pub invariant-loop : goal.invariant-loop
invariant-loop l = (frames_forwarded l.whole (l.count - l.counter) l.from.0 l.to.0 l.self.own ≡ frames_forwarded l.whole l.count l.from.0 l.to.0 l.fn.self.own) × (l.self.regions ≡ l.fn.self.regions)
