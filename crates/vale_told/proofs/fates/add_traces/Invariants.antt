use Rattle.std.proofs.Common.{◌≡◌, ◌++◌, map, take}
use Rattle.vale_told.specs.Fates.{trace_of}
use Rattle.vale_told.proofs.fates.add_traces.Given as goal

abbrev pub invariant-loop-dest : goal.invariant-loop-dest
invariant-loop-dest l =
    l.traces.items
    ≡ l.fn.traces.items
    ++ map (trace_of l.entries l.origin l.all l.place) (take l.dest-index l.dests)
