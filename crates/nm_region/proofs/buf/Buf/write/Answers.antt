use Rattle.std.proofs.Common.{◌≡◌, ◌≤◌, length, take, drop, ◌++◌, ap, sym, ◌∙◌, subst, arith}
use Rattle.std.specs.Prelude.{max}
use Rattle.std.proofs.Math.Nat.{le-max_left, le-max_right, max-le}
use Rattle.nm_region.specs.Marked.{IsMarked, written_front}
use Rattle.nm_region.proofs.Named.{written_over_is}
use Rattle.nm_region.proofs.Marks.{marked-front, length-front, kept-full, placed-still}
use Rattle.nm_region.proofs.buf.Buf.write.Goals as goal

pub invariant_of-self : goal.invariant_of-self
invariant_of-self c =
    let part = c.fill.new.part in
    let old = part.items in
    let room = c.put_front.new.room in
    let bytes = c.args.bytes.now in
    let used = c.self.inside.used in
    let m = c.max-self-inside.result in
    let size = c.fill.ensures.size in
    let mark : IsMarked used old = subst (IsMarked used) (sym c.fill.ensures.bytes) c.self.invariant.mark in
    let within = mark.within in
    let fits = c.requires in
    let is_max = c.max-self-inside.ensures in
    let front : room ≡ written_front bytes old = c.put_front.ensures ∙ ap (written_front bytes) c.bytes_mut.ensures.value in
    let count : length room ≡ length old = ap length front ∙ length-front bytes old (omega (arith, fits, size)) in
    let whole : take (length old) (room ++ drop (length room) old) ≡ written_front bytes old = written_over_is old room count ∙ front in
    let later : used ≤ m = (let most = le-max_left used (length bytes) in omega (arith, most, is_max)) in
    let long : length bytes ≤ m = (let most = le-max_right used (length bytes) in omega (arith, most, is_max)) in
    let most : m ≤ 2048 = (let both : max used (length bytes) ≤ 2048 = max-le within fits in omega (arith, both, is_max)) in
    let marked = subst (IsMarked m) (sym whole) (marked-front used m bytes old mark later long most) in
    kept-full m c.self.inside.index (take (length old) (room ++ drop (length room) old)) part.at marked.size marked
    (placed-still c.self.inside.index part.at c.self.inside.part.at c.fill.ensures.place c.self.invariant.place)
