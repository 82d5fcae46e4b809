use Rattle.std.proofs.Common.{Bool, ◌&&◌, sym, ◌∙◌, ap}
use Rattle.vale_entry.specs.Holdings.{are_distinct}
use Rattle.vale_entry.specs.Pipe.{indices_of as item_indices}
use Rattle.vale_serve.proofs.Framing.{held-items}
use Rattle.vale_serve.proofs.putting.holds_items.Goals as goal

pub returns-then-are_held : goal.returns-then-are_held
returns-then-are_held c =
    let e = sym (held-items c.args.bufs.now c.args.items.now) ∙ (sym c.are_held.ensures ∙ c.if-are_held.true) in
    c.are_distinct.ensures ∙ sym (ap (λ (t : Bool). t && are_distinct (item_indices c.args.items.now)) e)

pub returns-else-are_held : goal.returns-else-are_held
returns-else-are_held c =
    let e = sym (held-items c.args.bufs.now c.args.items.now) ∙ (sym c.are_held.ensures ∙ c.if-are_held.false) in
    c.if-are_held.false ∙ sym (ap (λ (t : Bool). t && are_distinct (item_indices c.args.items.now)) e)
