use Rattle.std.proofs.Common.{◌≡◌, ◌<◌, ◌∙◌, suc, length, refl, ap, arith}
use Rattle.nm_hold.specs.declared.cells.Owned.{Owned}
use Rattle.nm_hold.specs.Sparse.{cells_of, number_of, owners_in, standings_in}
use Rattle.nm_hold.proofs.Owned.{standings_long, standing_of, standings_set, owners_stay}
use Rattle.nm_hold.proofs.Owning.{standing_read, cells_lent}
use Rattle.nm_hold.proofs.cells.Cells.standing_mut.Goals as goal

pub invariant_of-self-lent : goal.invariant_of-self-lent
invariant_of-self-lent c w =
    let inv = c.self.invariant in
    record {
      owners = rw (owners_stay c.self.inside.held.items c.position_of-position.result c.index_mut.result.now w c.index_mut.ensures.value) inv.owners;
      few = inv.few;
      space = inv.space;
    }

pub returns : goal.returns
returns c =
    let at = c.self.inside.at in
    let held = c.self.inside.held.items in
    let k = c.position_of-position.result in
    let number : number_of at c.args.idx ≡ suc k = omega (arith, c.position_of-position.ensures.number) in
    let within : k < length (standings_in held) = omega (arith, c.position_of-position.ensures.within, standings_long held) in (
      (
        refl,
        λ w. (let put : Owned = record { index = c.index_mut.result.now.index; standing = w } in
            rw (← c.self.view_is) (ap (cells_of at) (standings_set held k put) ∙ cells_lent at (owners_in held) (standings_in held) c.args.idx k w c.self.invariant.owners number within)),
      ),
      record {
        writes_back = tt;
        standing = rw (← c.self.view_is) (standing_read at (standings_in held) c.args.idx k c.index_mut.result.now.standing number within (standing_of held k c.index_mut.result.now c.index_mut.ensures.value));
      },
    )
