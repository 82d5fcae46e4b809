use Rattle.std.proofs.Common.{◌++◌, rules, ap, map, ◌∙◌}
use Rattle.std.proofs.lemmas.Iterator.Consumers.{YieldsList-from_filter}
use Rattle.std.proofs.lemmas.Iterator.Splits.{YieldsList-from_slice_split}
use Rattle.vale_words.specs.Words.{is_blank, has_bytes}
use Rattle.vale_words.proofs.Extends.{list_from_extend}
use Rattle.vale_words.proofs.words.cut_words.Goals as goal

pub returns : goal.returns
returns c =
    list_from_extend (λ w. w.now) c.in_ok-extend.ensures.ran
    (YieldsList-from_filter _ has_bytes
    (YieldsList-from_slice_split _ is_blank c.args.line.now (cc) (cc) (cc) (λ x b q k. search rules))
    c.filter.ensures.closure (λ x r q k. search rules))
    (λ xs e h. ap (map (λ w. w.now)) (h.0 ∙ ap (λ l. l ++ xs) c.clear.ensures.items) ∙ e)
