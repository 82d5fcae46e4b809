use Rattle.std.proofs.Common.{ℕ, ◌≡◌, ◌<◌, length, take, refl, sym, ◌∙◌, ap, subst, arith}
use Rattle.std.proofs.lemmas.List.{take_all}
use Rattle.vale_line.specs.Gots.{frames_in}
use Rattle.vale_book.proofs.LeaseBuffers.{begins-first}
use Rattle.vale_serve.specs.Copies.{IsFrameRoom}
use Rattle.vale_serve.specs.Users.{contents}
use Rattle.vale_serve.proofs.Copied.{copying, left-count, made-more, next-copied, set-left, size-here}
use Rattle.vale_serve.proofs.copying.CopyRoom.copy.Goals as goal

pub loop-i-init : goal.loop-i-init
loop-i-init c = record { made = refl; left = c.self.invariant; begins = begins-first c.args.gots.now c.requires.cut }

pub slice_bounds-join-end : goal.slice_bounds-join-end
slice_bounds-join-end c =
    let sizes = c.self.inside.sizes.items in
    let low : c.loop-i.i < length sizes = omega (arith, c.loop-i-test.true, c.len-i-end.ensures) in
    let here = size-here sizes c.loop-i.i c.index.result.now low c.index.ensures in
    (next-copied c.args.gots.now sizes c.loop-i.i c.loop-i.at c.index.result.now (rw (← c.self.view_is) at c.requires.sizes) here c.loop-i.invariant.begins).is.within

pub join-requires : goal.join-requires
join-requires c =
    let sizes = c.self.inside.sizes.items in
    let rooms = c.loop-i.rooms.items in
    let low : c.loop-i.i < length sizes = omega (arith, c.loop-i-test.true, c.len-i-end.ensures) in
    let here = size-here sizes c.loop-i.i c.index.result.now low c.index.ensures in
    let n = next-copied c.args.gots.now sizes c.loop-i.i c.loop-i.at c.index.result.now (rw (← c.self.view_is) at c.requires.sizes) here c.loop-i.invariant.begins in
    let count = left-count rooms sizes c.loop-i.i c.loop-i.invariant.left in
    let room = copying rooms sizes c.loop-i.i c.index.result.now c.index_mut.result.now c.loop-i.invariant.left (omega (arith, count, low)) c.index_mut.ensures.value here in
    subst (λ (k : ℕ). IsFrameRoom k c.index_mut.result.now) (sym n.is.count) room.is

pub loop-i-preserved : goal.loop-i-preserved
loop-i-preserved c =
    let sizes = c.self.inside.sizes.items in
    let rooms = c.loop-i.rooms.items in
    let i = c.loop-i.i in
    let low : i < length sizes = omega (arith, c.loop-i-test.true, c.len-i-end.ensures) in
    let here = size-here sizes i c.index.result.now low c.index.ensures in
    let n = next-copied c.args.gots.now sizes i c.loop-i.at c.index.result.now (rw (← c.self.view_is) at c.requires.sizes) here c.loop-i.invariant.begins in
    let count = left-count rooms sizes i c.loop-i.invariant.left in
    let room = copying rooms sizes i c.index.result.now c.index_mut.result.now c.loop-i.invariant.left (omega (arith, count, low)) c.index_mut.ensures.value here in
    record {
      made = made-more c.args.gots.now rooms i c.join.new.to n.bytes (omega (arith, count, low)) c.loop-i.invariant.made n.there (c.join.ensures ∙ n.is.joined);
      left = rw (set-left rooms i c.join.new.to) room.left;
      begins = n.is.next;
    }

pub returns : goal.returns
returns c =
    let sizes = c.self.inside.sizes.items in
    let rooms = c.loop-i.rooms.items in
    let i = c.loop-i.i in
    let end : i ≡ length sizes = omega (arith, c.loop-i.auto.i-end, c.loop-i-test.false, c.len-i-end.ensures) in
    let count = left-count rooms sizes i c.loop-i.invariant.left in
    rw (← c.self.view_is) (ap contents (sym (take_all i rooms (omega (arith, count, end)))) ∙ (c.loop-i.invariant.made ∙ ap (λ (n : ℕ). take n (frames_in c.args.gots.now)) end))
