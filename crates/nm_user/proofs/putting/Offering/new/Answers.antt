use Rattle.std.proofs.Common.{ℕ, ◌≡◌, ◌≤◌, ◌∙◌, List, drop, length, sym, ap, ap₂, subst, arith}
use Rattle.std.proofs.lemmas.List.{length-map}
use Rattle.std.specs.Vec.{vec_capacity}
use Rattle.nm_region.specs.Buffers.{Buffer, indices_of}
use Rattle.nm_port.specs.Closing.{bytes_of_buffers}
use Rattle.nm_own.specs.LentOffers.{IsLentOffers}
use Rattle.nm_port.specs.Regions.{AreOf}
use Rattle.vale_line.specs.Gots.{buffer_of, buffers_of}
use Rattle.nm_user.specs.Offering.{gots_of}
use Rattle.nm_user.proofs.ReceivesCome.{all-added}
use Rattle.nm_user.proofs.TransmitsLent.{lend-count, lent-are}
use Rattle.nm_user.proofs.putting.Offering.new.Goals as goal

pub wrap-requires-clause-count : goal.wrap-requires-clause-count
wrap-requires-clause-count c =
    lend-count c.args.own c.into_vecs-lengths.result.2.items c.lend_offered-lent.new.pending.items c.lend_offered-lent.result c.args.port c.deref.result.now
    c.into_vecs-lengths.ensures.bufs c.lend_offered-lent.ensures.lent c.lend_offered-lent.ensures.port (c.deref.ensures.value ∙ (c.into_vecs-lengths.ensures.lengths ∙ c.requires.room))

-- the buffers that were lent are those of the frames
lent : (c : goal.After-drop-lengths) → drop (length c.into_vecs-lengths.result.2.items) c.lend_offered-lent.new.pending.items ≡ buffers_of c.wrap.new.pending.items
lent c =
    let v = c.into_vecs-lengths in
    let l = c.lend_offered-lent in
    lent-are c.args.own v.result.2.items l.new.pending.items l.result c.args.port c.deref.result.now c.wrap.new.pending.items v.ensures.bufs l.ensures.lent l.ensures.port
    (c.deref.ensures.value ∙ (v.ensures.lengths ∙ c.requires.room)) c.wrap.ensures.pending

all-lent : (c : goal.After-drop-lengths) → c.lend_offered-lent.new.pending.items ≡ buffers_of c.wrap.new.pending.items
all-lent c = sym (all-added c.into_vecs-lengths.result.2.items c.lend_offered-lent.new.pending.items c.into_vecs-lengths.ensures.bufs) ∙ lent c

pub returns-clause-offering : goal.returns-clause-offering
returns-clause-offering c =
    let v = c.into_vecs-lengths in
    let l = c.lend_offered-lent in
    let new = l.new.pending.items in
    let gots = c.wrap.new.pending.items in
    let a : length (buffers_of gots) ≡ length gots = length-map gots buffer_of in
    let b : length new ≡ length (buffers_of gots) = ap (λ (bs : List Buffer). length bs) (all-lent c) in
    let count : length new ≡ length c.deref.result.now =
    lend-count c.args.own v.result.2.items new l.result c.args.port c.deref.result.now v.ensures.bufs l.ensures.lent l.ensures.port (c.deref.ensures.value ∙ (v.ensures.lengths ∙ c.requires.room)) in
    let d : length c.deref.result.now ≡ length c.args.room = ap (λ (ls : List ℕ). length ls) (c.deref.ensures.value ∙ v.ensures.lengths) in
    let e : length c.args.room ≤ vec_capacity v.result.2 = v.ensures.bufs_room in
    let f : vec_capacity l.new.pending ≡ vec_capacity v.result.2 = l.ensures.capacity in
    let h : vec_capacity c.wrap.new.bufs ≡ vec_capacity l.new.pending = c.wrap.ensures.capacity in
    let fits : length gots ≤ vec_capacity c.wrap.new.bufs = omega (arith, a, b, count, d, e, f, h) in
    record {
      lent = subst (λ (bs : List Buffer). IsLentOffers c.args.own bs l.result) (lent c) l.ensures.lent;
      empty = c.wrap.ensures.bufs;
      room = fits;
    }

pub returns-clause-pending : goal.returns-clause-pending
returns-clause-pending c =
    c.wrap.ensures.pending
    ∙ ap₂ (λ (bs : List Buffer) (ls : List ℕ). gots_of bs ls) (all-lent c) (c.deref.ensures.value ∙ (c.into_vecs-lengths.ensures.lengths ∙ c.requires.room))

pub returns-clause-buffers : goal.returns-clause-buffers
returns-clause-buffers c = ap indices_of (sym (lent c)) ∙ c.lend_offered-lent.ensures.buffers

pub returns-clause-bytes : goal.returns-clause-bytes
returns-clause-bytes c = ap bytes_of_buffers (sym (lent c)) ∙ c.lend_offered-lent.ensures.bytes

pub returns-clause-out : goal.returns-clause-out
returns-clause-out c region of = subst (AreOf region) (lent c) (c.lend_offered-lent.ensures.out region of)
