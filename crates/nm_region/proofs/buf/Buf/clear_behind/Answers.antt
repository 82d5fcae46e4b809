use Rattle.std.proofs.Common.{ℕ, ◌≡◌, ◌<◌, ◌≤◌, Bool, true, List, length, take, drop, ◌++◌, refl, ap, sym, ◌∙◌, subst, arith}
use denote.RawPtr.{block_of}
use Rattle.nm_types.specs.Buffers.{cleared_but}
use Rattle.nm_region.specs.Buffers.{Buffer}
use Rattle.nm_region.specs.Marked.{IsMarked, IsKept, cleared_between}
use Rattle.nm_region.proofs.Named.{written_over_is}
use Rattle.nm_region.proofs.Marks.{cleared-behind, clear-behind, marked-cleared, full_is, kept-full, used-written, same-buffer}
use Rattle.nm_region.proofs.buf.Buf.clear_behind.Goals as goal

pub bytes_mut-requires : goal.bytes_mut-requires
bytes_mut-requires c =
    let some : 0 < c.self.inside.used = omega (arith, c.if-len-self.true) in
    (used-written c.self.inside.used c.self.inside.index c.self.inside.is_written c.self.inside.part.items c.self.inside.part.at c.self.invariant some).1

-- what lies in the part once the bytes behind are cleared
pub record Cleared (c : goal.After-self-then-len-self-1) : Type 0 where
  pub written : c.self.inside.is_written ≡ true
  pub full : length c.self.inside.part.items ≡ 2048
  pub mark : IsMarked c.self.inside.used c.self.inside.part.items
  pub there : take (length c.self.inside.part.items) (c.clear_between.new.bytes ++ drop (length c.clear_between.new.bytes) c.self.inside.part.items) ≡ cleared_but (take c.args.len c.self.inside.part.items)

cleared-there : (c : goal.After-self-then-len-self-1) → Cleared c
cleared-there c =
    let old = c.self.inside.part.items in
    let len = c.args.len in
    let used = c.self.inside.used in
    let room = c.clear_between.new.bytes in
    let before : len ≤ used = omega (arith, c.if-len-self.true) in
    let some : 0 < used = omega (arith, c.if-len-self.true) in
    let is = used-written used c.self.inside.index c.self.inside.is_written old c.self.inside.part.at c.self.invariant some in
    let full = is.1 in
    let mark : IsMarked used old = subst (IsMarked used) (full_is old full) c.self.invariant.mark in
    let cleared : room ≡ cleared_but (take len old) = c.clear_between.ensures ∙ (ap (cleared_between len used) c.bytes_mut.ensures.value ∙ cleared-behind len used old mark before) in
    let size = (marked-cleared len old full c.requires).size in
    let count : length room ≡ length old = ap length cleared ∙ (size ∙ sym full) in
    record { written = is.0; full = full; mark = mark; there = written_over_is old room count ∙ cleared }

pub invariant_of-self : goal.invariant_of-self
invariant_of-self c =
    let old = c.self.inside.part.items in
    let room = c.clear_between.new.bytes in
    let items = take (length old) (room ++ drop (length room) old) in
    let is = cleared-there c in
    let marked = subst (IsMarked c.args.len) (sym is.there) (marked-cleared c.args.len old is.full c.requires) in
    subst (λ (w : Bool). IsKept c.args.len c.self.inside.index w items c.self.inside.part.at) (sym is.written)
    (kept-full c.args.len c.self.inside.index items c.self.inside.part.at marked.size marked c.self.invariant.place)

pub returns-then-len-self : goal.returns-then-len-self
returns-then-len-self c =
    let part = c.self.inside.part in
    let len = c.args.len in
    let room = c.clear_between.new.bytes in
    let items = take (length part.items) (room ++ drop (length room) part.items) in
    let old = c.args.self.now in
    let is = cleared-there c in
    let size : length items ≡ 2048 = ap length is.there ∙ (marked-cleared len part.items is.full c.requires).size in
    let bytes : part.items ≡ old.bytes = sym (full_is part.items is.full) ∙ ap (λ (b : Buffer). b.bytes) c.self.view_is in
    same-buffer (record { region = block_of part.at; index = c.self.inside.index; bytes = cleared_but items }) (record { region = old.region; index = old.index; bytes = cleared_but (take len old.bytes) })
    (ap (λ (b : Buffer). b.region) c.self.view_is)
    (ap (λ (b : Buffer). b.index) c.self.view_is)
    (full_is items size ∙ (is.there ∙ ap (λ (bs : List ℕ). cleared_but (take len bs)) bytes))

pub returns-else-len-self : goal.returns-else-len-self
returns-else-len-self c =
    let len = c.args.len in
    let used = c.self.inside.used in
    let old = c.args.self.now in
    let mark : IsMarked used old.bytes = subst (IsMarked used) (ap (λ (b : Buffer). b.bytes) c.self.view_is) c.self.invariant.mark in
    let behind : used ≤ len = omega (arith, c.if-len-self.false) in
    same-buffer old (record { region = old.region; index = old.index; bytes = cleared_but (take len old.bytes) }) refl refl (clear-behind len used old.bytes mark behind c.requires)
