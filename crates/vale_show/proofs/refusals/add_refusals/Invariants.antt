use Rattle.std.proofs.Common.{◌≡◌, ◌+◌, ◌++◌, drop}
use Rattle.vale_show.specs.Refusals.{refusal_texts}
use Rattle.vale_show.proofs.refusals.add_refusals.Given as goal

abbrev pub invariant-loop-i : goal.invariant-loop-i
invariant-loop-i l =
    l.fn.page.bytes ++ refusal_texts 1 l.entries
    ≡ l.page.bytes ++ refusal_texts (l.i + 1) (drop l.i l.entries)
