use Rattle.vale_serve.proofs.granting.filled.Goals as goal

pub filled_from-requires : goal.filled_from-requires
filled_from-requires c = rw c.as_slice.ensures c.requires

pub returns : goal.returns
returns c =
    let e = c.filled_from.ensures in
    rw (← c.as_slice.ensures) (record { id = e.id; to = e.to; full = e.full; empty = e.empty; kept = e.kept; region_is = e.region_is })
