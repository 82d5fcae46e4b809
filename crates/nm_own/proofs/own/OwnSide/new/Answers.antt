use Rattle.std.proofs.Common.{rules}
use Rattle.nm_own.proofs.Filled.{fresh}
use Rattle.nm_port.proofs.Regions.{made_side}
use Rattle.nm_own.proofs.own.OwnSide.new.Goals as goal

pub invariant_of-result : goal.invariant_of-result
invariant_of-result c =
    let f = fresh c.in_ok-hold.hold c.args.buffers c.in_ok-hold.ensures c.requires in
    record {
      sided = rw c.new-3.ensures.items tt;
      rings = rw c.new-3.ensures.items tt;
      flagged = rw c.new-3.ensures.items f.flagged;
      hold = f.hold;
      places = rw c.new-3.ensures.items f.places;
      filled = rw c.new-3.ensures.items f.filled;
      whole = f.whole;
      blank = rw f.count (search rules);
      back = rw c.new-3.ensures.items tt;
    }

pub returns : goal.returns
returns c = rw (c.in_ok-hold.ensures, c.new-3.ensures.items) (made_side c.args.buffers)
