use Rattle.std.proofs.Common.{ℕ, ◌≡◌, ◌≤◌, ◌<◌, ◌++◌, [], ◌∷◌, List, length, take, drop, refl, sym, ◌∙◌, ap, arith, rules}
use Rattle.nm_types.specs.Parts.{slots_of_bytes, HeldPart, cut_frames}
use Rattle.nm_region.specs.Buffers.{indices_of}
use Rattle.vale_line.specs.declared.got.Got.{Got}
use Rattle.vale_line.specs.Gots.{frames_in, held_parts}
use Rattle.vale_line.specs.Leased.{Leased, first_size, next_of}
use Rattle.vale_port.specs.Kept.{KeptFrames}
use Rattle.vale_book.proofs.LeaseBuffers.{keeps-start, keeps-more, keeps-none, keeps-indices, keeps-region}
use Rattle.vale_serve.specs.Filling.{placed, frames_for}
use Rattle.vale_serve.specs.Users.{contents}
use Rattle.vale_serve.proofs.Filling.{drop-next, drop-all, placed-more, size-at, next-frame}
use Rattle.vale_serve.proofs.granting.filled_from.Goals as goal

pub loop-i-init : goal.loop-i-init
loop-i-init c =
    let none : length (frames_in c.args.lease.filled) ≡ 0 = ap (λ (gots : List Got). length (frames_in gots)) c.requires.none in
    record {
      id = refl;
      to = refl;
      count = omega (arith, none, c.count-count.ensures);
      sizes = refl;
      frames = ap frames_in c.requires.none;
      buffers = keeps-start c.args.lease c.requires.none c.requires.buffers;
    }

pub fill-requires-clause-frame : goal.fill-requires-clause-frame
fill-requires-clause-frame c =
    let below : c.loop-i.i < length c.args.lease.sizes = omega (arith, c.loop-i-test.true, c.loop-i.invariant.count) in
    (next-frame c.args.frames.now c.args.places.now (length c.args.lease.sizes) c.loop-i.i c.index-frames-places.result c.deref.result.now
    below c.requires.enough c.requires.there c.requires.few (search rules) c.deref.ensures.value).fits

pub fill-requires-clause-next : goal.fill-requires-clause-next
fill-requires-clause-next c =
    let below : c.loop-i.i < length c.args.lease.sizes = omega (arith, c.loop-i-test.true, c.loop-i.invariant.count) in
    let n = next-frame c.args.frames.now c.args.places.now (length c.args.lease.sizes) c.loop-i.i c.index-frames-places.result c.deref.result.now
    below c.requires.enough c.requires.there c.requires.few (search rules) c.deref.ensures.value in
    size-at c.args.lease.sizes (frames_for c.args.lease c.args.places.now (contents c.args.frames.now)) c.loop-i.i c.deref.result.now c.requires.sizes n.is_for
    ∙ sym (ap first_size c.loop-i.invariant.sizes)

pub loop-i-preserved : goal.loop-i-preserved
loop-i-preserved c =
    let below : c.loop-i.i < length c.args.lease.sizes = omega (arith, c.loop-i-test.true, c.loop-i.invariant.count) in
    let places = c.args.places.now in
    let bytes = c.deref.result.now in
    let n = next-frame c.args.frames.now places (length c.args.lease.sizes) c.loop-i.i c.index-frames-places.result bytes
    below c.requires.enough c.requires.there c.requires.few (search rules) c.deref.ensures.value in
    let k = c.loop-i.invariant in
    let made = c.fill.ensures.lease in
    let size : slots_of_bytes bytes ≡ next_of c.loop-i.lease =
    size-at c.args.lease.sizes (frames_for c.args.lease places (contents c.args.frames.now)) c.loop-i.i bytes c.requires.sizes n.is_for ∙ sym (ap first_size k.sizes) in
    record {
      id = ap (λ (x : Leased). x.id) made ∙ k.id;
      to = ap (λ (x : Leased). x.to) made ∙ k.to;
      count = k.count;
      sizes = ap (λ (x : Leased). x.sizes) made ∙ (ap (drop 1) k.sizes ∙ drop-next c.args.lease.sizes c.loop-i.i);
      frames = c.fill.ensures.contents
          ∙ (ap (λ (fs : List (List ℕ)). fs ++ bytes ∷ []) k.frames ∙ sym (placed-more (contents c.args.frames.now) places c.loop-i.i n.p bytes n.place n.frame));
      buffers = keeps-more bytes k.buffers size made;
    }

pub returns : goal.returns
returns c =
    let k = c.loop-i.invariant in
    let l = c.loop-i.lease in
    let high = c.loop-i-test.false in
    let low = c.loop-i.auto.i-end in
    let count = k.count in
    let places = c.args.places.now in
    let all : length c.args.lease.sizes ≤ c.loop-i.i = omega (arith, high, count) in
    let end : c.loop-i.i ≡ length c.args.lease.sizes = omega (arith, high, low, count) in
    let full : l.sizes ≡ [] = k.sizes ∙ drop-all c.args.lease.sizes c.loop-i.i all in
    let frames : frames_in l.filled ≡ frames_for c.args.lease places (contents c.args.frames.now) = k.frames ∙ ap (λ (n : ℕ). placed (contents c.args.frames.now) (take n places)) end in
    let parts : held_parts l.filled ≡ cut_frames (frames_for c.args.lease places (contents c.args.frames.now)) = k.buffers.cut ∙ ap cut_frames frames in
    record {
      id = k.id;
      to = k.to;
      full = full;
      empty = keeps-none k.buffers full;
      kept = ap (λ (ns : List ℕ). let kept : KeptFrames = record { buffers = ns; parts = held_parts l.filled } in kept) (keeps-indices k.buffers full)
          ∙ ap (λ (ps : List HeldPart). let kept : KeptFrames = record { buffers = indices_of c.args.lease.empty; parts = ps } in kept) parts;
      region_is = λ region are. keeps-region k.buffers full region are;
    }
