use Rattle.std.proofs.Common.{◌≡◌, ◌++◌, take, flat_map}
use Rattle.vale_show.specs.Frame.{trace_line}
use Rattle.vale_show.proofs.frame.add_traces.Given as goal

abbrev pub invariant-loop-trace : goal.invariant-loop-trace
invariant-loop-trace l =
    l.page.bytes ≡ l.fn.page.bytes ++ flat_map trace_line (take l.trace-index l.traces)
