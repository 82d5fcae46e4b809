-- How a field and a right are kept.
use Rattle.nm_reach.specs.Sides.{IsRound}
use Rattle.nm_reach.specs.declared.reach.Reach.TheInside.{Inside}

abbrev pub IsReach : {T : Type 0} → Inside T → Type 0
IsReach r = IsRound r.sides.front.field r.size r.start r.sides
