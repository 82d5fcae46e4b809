use Rattle.std.proofs.Common.{ℕ, ◌≡◌, replicate, rules, arith}
use Rattle.std.proofs.lemmas.List.{length-replicate}
use Rattle.nm_hold.proofs.Owning.{cells_none, owners_none}
use Rattle.nm_hold.proofs.cells.Cells.new.Goals as goal

pub invariant_of-result : goal.invariant_of-result
invariant_of-result c =
    let items : c.in_ok-new.field-0 ≡ replicate c.args.count 0 = search rules in
    let long = length-replicate {A = ℕ} c.args.count 0 in
    let held = c.in_ok-with_capacity.ensures.items in
    rw items (record {
      owners = rw held (owners_none c.args.count);
      few = omega (arith, long, c.requires);
      space = omega (arith, long, c.in_ok-with_capacity.ensures.capacity);
    })

pub returns : goal.returns
returns c =
    let items : c.in_ok-new.field-0 ≡ replicate c.args.count 0 = search rules in
    rw items (cells_none c.args.count _)
