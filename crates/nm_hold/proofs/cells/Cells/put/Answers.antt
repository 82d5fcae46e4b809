use Rattle.std.proofs.Common.{ℕ, ◌≡◌, ◌<◌, ◌∙◌, List, suc, length, ap, arith}
use Rattle.std.proofs.lemmas.List.{length-set, length-map}
use Rattle.nm_hold.specs.declared.cells.Owned.{Owned}
use Rattle.nm_hold.specs.Sparse.{named_by, owners_in, standings_in}
use Rattle.nm_hold.proofs.Owned.{both_long, owners_long, owners_push, standings_push}
use Rattle.nm_hold.proofs.Owning.{no_number, room_left, owners_put, cells_put}
use Rattle.nm_hold.proofs.cells.Cells.put.Goals as goal

pub push_reserved-requires : goal.push_reserved-requires
push_reserved-requires c =
    let inv = c.self.invariant in
    let at = c.self.inside.at in
    let held = c.self.inside.held.items in
    let within : c.args.idx < length at = omega (arith, rw (← c.self.view_is) at c.requires.within, length-map at (named_by (standings_in held))) in
    let free = no_number at (owners_in held) (standings_in held) c.args.idx inv.owners (both_long held) (rw (← c.self.view_is) at c.requires.empty) in
    omega (arith, room_left at (owners_in held) c.args.idx inv.owners within free, inv.space, owners_long held)

pub set-requires : goal.set-requires
set-requires c =
    let at = c.self.inside.at in
    omega (arith, rw (← c.self.view_is) at c.requires.within, length-map at (named_by (standings_in c.self.inside.held.items)))

pub invariant_of-self : goal.invariant_of-self
invariant_of-self c =
    let inv = c.self.invariant in
    let at = c.self.inside.at in
    let held = c.self.inside.held.items in
    let owned : Owned = record { index = c.args.idx; standing = c.args.standing } in
    let within : c.args.idx < length at = omega (arith, rw (← c.self.view_is) at c.requires.within, length-map at (named_by (standings_in held))) in
    let free = no_number at (owners_in held) (standings_in held) c.args.idx inv.owners (both_long held) (rw (← c.self.view_is) at c.requires.empty) in
    let number : c.len.result ≡ suc (length (owners_in held)) = omega (arith, c.len.ensures, c.push_reserved.ensures.len, owners_long held) in
    let count : length c.set.new.self ≡ length at = ap (λ (xs : List ℕ). length xs) c.set.ensures ∙ length-set at c.args.idx c.len.result in
    record {
      owners = rw (c.set.ensures, number, c.push_reserved.ensures.items, owners_push held owned) (owners_put at (owners_in held) c.args.idx inv.owners within free);
      few = omega (arith, count, inv.few);
      space = omega (arith, count, inv.space, c.push_reserved.ensures.capacity);
    }

pub returns : goal.returns
returns c =
    let inv = c.self.invariant in
    let at = c.self.inside.at in
    let held = c.self.inside.held.items in
    let owned : Owned = record { index = c.args.idx; standing = c.args.standing } in
    let within : c.args.idx < length at = omega (arith, rw (← c.self.view_is) at c.requires.within, length-map at (named_by (standings_in held))) in
    let number : c.len.result ≡ suc (length (owners_in held)) = omega (arith, c.len.ensures, c.push_reserved.ensures.len, owners_long held) in
    rw (← c.self.view_is, c.set.ensures, number, c.push_reserved.ensures.items, standings_push held owned) (cells_put at (owners_in held) (standings_in held) c.args.idx c.args.standing inv.owners (both_long held) within)
