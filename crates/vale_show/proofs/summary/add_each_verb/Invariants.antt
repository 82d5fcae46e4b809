use Rattle.std.proofs.Common.{◌≡◌, ◌++◌, ℕ, List, take, flat_map, Bor}
use Rattle.vale_show.specs.Summary.{verb_text}
use Rattle.vale_show.proofs.summary.add_each_verb.Given as goal

abbrev pub invariant-loop-verb : goal.invariant-loop-verb
invariant-loop-verb l =
    l.page.bytes
    ≡ l.fn.page.bytes
    ++ flat_map (λ (verb : Bor (List ℕ)). verb_text l.entries verb.now) (take l.verb-index l.verbs)
