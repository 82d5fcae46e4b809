use Rattle.std.proofs.Common.{ℕ, ◌≡◌, ◌≢◌, ◌<◌, ◌-◌, ◌+◌, ◌∙◌, suc, ap, sym, length, get_or, slice_set, Some, None, List, [], ◌∷◌, ◌++◌, arith}
use Rattle.std.specs.Prelude.{slice_index}
use Rattle.std.proofs.lemmas.List.{length-set}
use Rattle.nm_hold.specs.declared.cells.Owned.{Owned}
use Rattle.nm_hold.specs.Sparse.{cells_of, number_of, owners_in, standings_in, AreOwners}
use Rattle.nm_hold.specs.Standings.{buf_in}
use Rattle.nm_hold.specs.Holds.{cell_at}
use Rattle.nm_hold.proofs.Owned.{both_long, index_get, index_of, owners_long, owners_push, standing_get, standing_of, standings_long, standings_push}
use Rattle.nm_hold.proofs.Owning.{position, standing_read, last_owner, last_given, owners_taken, cells_taken, owners_ended, cells_ended, ended_read}
use Rattle.nm_hold.proofs.cells.Cells.take.Goals as goal

pub given-number-requires : goal.given-number-requires
given-number-requires c =
    let p = position c.self.inside.at (standings_in c.self.inside.held.items) c.args.idx (rw (← c.self.view_is) at c.requires) in
    omega (arith, p.number)

-- the facts of the step where what stands last goes, over the fields
record Ended (c : goal.After-take_last-buf) : Type 0 where
  owners : AreOwners (slice_set c.self.inside.at c.args.idx 0) (owners_in c.take_last-buf.new.self.items)
  cells : cells_of (slice_set c.self.inside.at c.args.idx 0) (standings_in c.take_last-buf.new.self.items)
      ≡ slice_set (cells_of c.self.inside.at (standings_in c.self.inside.held.items)) c.args.idx None
  standing : cell_at (cells_of c.self.inside.at (standings_in c.self.inside.held.items)) c.args.idx ≡ Some c.take_last-buf.result.standing

ended : (c : goal.After-take_last-buf) → Ended c
ended c =
    let own = c.self.invariant.owners in
    let at = c.self.inside.at in
    let all = c.self.inside.held.items in
    let left = c.take_last-buf.new.self.items in
    let out = c.take_last-buf.result in
    let are : owners_in all ≡ owners_in left ++ out.index ∷ [] = ap owners_in c.take_last-buf.ensures.items ∙ owners_push left out in
    let held : standings_in all ≡ standings_in left ++ out.standing ∷ [] = ap standings_in c.take_last-buf.ensures.items ∙ standings_push left out in
    let fewer : length left + 1 ≡ length all = omega (arith, c.take_last-buf.ensures.len) in
    let count : c.len.result ≡ length all = omega (arith, c.len.ensures) in
    let is : number_of at c.args.idx ≡ suc (length (owners_in left)) = omega (arith, c.given-number.ensures, c.if-number-len.true, count, fewer, owners_long left) in
    record {
      owners = owners_ended at (owners_in all) (owners_in left) c.args.idx out.index own is are;
      cells = cells_ended at (owners_in all) (owners_in left) c.args.idx out.index own is are (standings_in all) (standings_in left) out.standing (both_long all) held;
      standing = ended_read at (owners_in all) (owners_in left) c.args.idx out.index own is are (standings_in all) (standings_in left) out.standing (both_long all) held;
    }

pub invariant_of-self : goal.invariant_of-self
invariant_of-self c =
    let f = ended c in
    let inv = c.self.invariant in
    let count : length c.change.new.self ≡ length c.self.inside.at = ap (λ (xs : List ℕ). length xs) c.change.ensures ∙ length-set c.self.inside.at c.args.idx 0 in
    record {
      owners = rw c.change.ensures f.owners;
      few = omega (arith, count, inv.few);
      space = omega (arith, count, inv.space, c.take_last-buf.ensures.capacity);
    }

pub returns-then-number-len-clause-buffer : goal.returns-then-number-len-clause-buffer
returns-then-number-len-clause-buffer c = let f = ended c in rw (← c.self.view_is) (ap buf_in f.standing)

pub returns-then-number-len-clause-cells : goal.returns-then-number-len-clause-cells
returns-then-number-len-clause-cells c = let f = ended c in rw (← c.self.view_is, c.change.ensures) f.cells

pub change-requires-2 : goal.change-requires-2
change-requires-2 c =
    let at = c.self.inside.at in
    let held = c.self.inside.held.items in
    let p = position at (standings_in held) c.args.idx (rw (← c.self.view_is) at c.requires) in
    let count : c.len-2.result ≡ length (owners_in held) = omega (arith, c.len-2.ensures, owners_long held) in
    last_given at (owners_in held) c.args.idx p.k c.len-2.result c.index.result.now.index c.self.invariant.owners p.number count (index_of held (c.len-2.result - 1) c.index.result.now c.index.ensures)

pub swap_out-buf-requires : goal.swap_out-buf-requires
swap_out-buf-requires c =
    let at = c.self.inside.at in
    let held = c.self.inside.held.items in
    let p = position at (standings_in held) c.args.idx (rw (← c.self.view_is) at c.requires) in
    let number : c.given-number.result ≡ suc p.k = c.given-number.ensures ∙ p.number in
    omega (arith, number, p.within, standings_long held, c.if-number-len.false, c.len.ensures)

-- the facts of the step, over the fields
record Step (c : goal.After-swap_out-buf) : Type 0 where
  owners : AreOwners (slice_set (slice_set c.self.inside.at c.index.result.now.index c.given-number.result) c.args.idx 0) (owners_in c.swap_out-buf.new.held.items)
  cells : cells_of (slice_set (slice_set c.self.inside.at c.index.result.now.index c.given-number.result) c.args.idx 0) (standings_in c.swap_out-buf.new.held.items)
      ≡ slice_set (cells_of c.self.inside.at (standings_in c.self.inside.held.items)) c.args.idx None
  standing : cell_at (cells_of c.self.inside.at (standings_in c.self.inside.held.items)) c.args.idx ≡ Some c.swap_out-buf.result.standing

step : (c : goal.After-swap_out-buf) → Step c
step c =
    let inv = c.self.invariant in
    let at = c.self.inside.at in
    let all = c.self.inside.held.items in
    let left = c.swap_out-buf.new.held.items in
    let owners = owners_in all in
    let held = standings_in all in
    let idx = c.args.idx in
    let last = c.index.result.now.index in
    let new = owners_in left in
    let after = standings_in left in
    let out = c.swap_out-buf.result in
    let s = out.standing in
    let zeroth : Owned = record { index = 0; standing = s } in
    let p = position at held idx (rw (← c.self.view_is) at c.requires) in
    let k = p.k in
    let number : c.given-number.result ≡ suc p.k = c.given-number.ensures ∙ p.number in
    let spot : c.given-number.result - 1 ≡ k = omega (arith, number) in
    let count : c.len-2.result ≡ length owners = omega (arith, c.len-2.ensures, owners_long all) in
    let end = last_owner at owners idx k c.len-2.result last inv.owners p.number count (index_of all (c.len-2.result - 1) c.index.result.now c.index.ensures) in
    let fewer_all : length left + 1 ≡ length all = omega (arith, c.swap_out-buf.ensures.len) in
    let fewer : length new + 1 ≡ length owners = omega (arith, fewer_all, owners_long all, owners_long left) in
    let fewer_held : length after + 1 ≡ length held = omega (arith, fewer_all, standings_long all, standings_long left) in
    let last_spot : c.len-2.result - 1 ≡ length new = omega (arith, count, fewer) in
    let end_new : slice_index owners (length new) ≡ last = rw last_spot at end in
    let by = rw spot at c.swap_out-buf.ensures.by_index in
    let end_spot : c.self.inside.held.len - 1 ≡ length new = omega (arith, c.swap_out-buf.ensures.len, fewer_all, owners_long left) in
    let end_held : c.self.inside.held.len - 1 ≡ length after = omega (arith, c.swap_out-buf.ensures.len, fewer_all, standings_long left) in
    let moved = λ (h : k < length new).
    index_get left k zeroth ∙ (ap (λ (o : Owned). o.index) (by.0 zeroth (omega (arith, h, owners_long left, fewer_all))) ∙ (sym (index_get all (c.self.inside.held.len - 1) zeroth) ∙ (ap (λ (n : ℕ). get_or owners n 0) end_spot ∙ end_new))) in
    let kept = λ (j : ℕ) (differs : j ≢ k) (h : j < length new).
    index_get left j zeroth ∙ (ap (λ (o : Owned). o.index) (by.1 j zeroth differs (omega (arith, h, owners_long left, fewer_all))) ∙ sym (index_get all j zeroth)) in
    let moved_held = λ (h : k < length after).
    standing_get left k out ∙ (ap (λ (o : Owned). o.standing) (by.0 out (omega (arith, h, standings_long left, fewer_all))) ∙ (sym (standing_get all (c.self.inside.held.len - 1) out) ∙ ap (λ (n : ℕ). get_or held n s) end_held)) in
    let kept_held = λ (j : ℕ) (differs : j ≢ k) (h : j < length after).
    standing_get left j out ∙ (ap (λ (o : Owned). o.standing) (by.1 j out differs (omega (arith, h, standings_long left, fewer_all))) ∙ sym (standing_get all j out)) in
    record {
      owners = rw number (owners_taken at owners new idx k last inv.owners p.number fewer end_new moved kept);
      cells = rw number (cells_taken at owners new idx k last inv.owners p.number fewer end_new moved kept held after s (both_long all) fewer_held moved_held kept_held);
      standing = standing_read at held idx k s p.number p.within (standing_of all k out (rw spot at c.swap_out-buf.ensures.value));
    }

pub invariant_of-self-2 : goal.invariant_of-self-2
invariant_of-self-2 c =
    let f = step c in
    let inv = c.self.invariant in
    let at = c.self.inside.at in
    let count : length c.change-3.new.self ≡ length at =
    ap (λ (xs : List ℕ). length xs) (c.change-3.ensures ∙ ap (λ (xs : List ℕ). slice_set xs c.args.idx 0) c.change-2.ensures)
    ∙ (length-set (slice_set at c.index.result.now.index c.given-number.result) c.args.idx 0 ∙ length-set at c.index.result.now.index c.given-number.result) in
    record {
      owners = rw (c.change-3.ensures, c.change-2.ensures) f.owners;
      few = omega (arith, count, inv.few);
      space = omega (arith, count, inv.space, c.swap_out-buf.ensures.capacity);
    }

pub returns-clause-buffer : goal.returns-clause-buffer
returns-clause-buffer c = let f = step c in rw (← c.self.view_is) (ap buf_in f.standing)

pub returns-clause-cells : goal.returns-clause-cells
returns-clause-cells c = let f = step c in rw (← c.self.view_is, c.change-3.ensures, c.change-2.ensures) f.cells
