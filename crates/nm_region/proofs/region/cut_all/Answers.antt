use Rattle.std.proofs.Common.{ℕ, ◌≡◌, ◌≢◌, ◌+◌, ◌*◌, false, refl, sym, ap, ◌∙◌, length, get_or, map, arith}
use Rattle.std.specs.List.{range_with_len}
use Rattle.std.specs.Prelude.{List, ◌++◌, ◌∷◌, []}
use Rattle.std.proofs.lemmas.List.{length-set, get_or-set_other}
use Rattle.std.proofs.lemmas.List.FromFn.{map-range_with_len_more}
use denote.RawPtr.{Ptr, block_ptr, null_ptr, block_of, ◌+ₚ◌}
use Rattle.nm_types.specs.Buffers.{cleared}
use Rattle.nm_region.specs.Buffers.{Buffer, RegionState, opened_buffer}
use Rattle.nm_region.specs.Parts.{lead}
use Rattle.nm_region.proofs.Marks.{same-buffer}
use Rattle.nm_region.proofs.region.cut_all.Goals as goal

-- a pointer stays in its block
same-block : (p : Ptr) (n : ℕ) → block_of (p +ₚ n) ≡ block_of p
same-block (block_ptr b o) n = refl
same-block null_ptr n = refl

pub loop-at-preserved : goal.loop-at-preserved
loop-at-preserved c =
    let at = c.loop-at.at in
    let was = c.loop-at.block in
    let now = c.cut-rest.result.0 in
    let part = c.cut-rest.result.1 in
    let cut = c.cut-rest.ensures in
    let inv = c.loop-at.invariant in
    let r : RegionState = record { region = block_of c.args.block.start; buffers = c.args.n } in
    let region : block_of (part.at) ≡ r.region = ap block_of cut.4 ∙ (same-block was.start (at * 2048 + lead) ∙ ap block_of inv.start) in
    let made : c.new.result ≡ opened_buffer r (at + 2) = c.new.ensures ∙ same-buffer (record { region = block_of (part.at); index = at + 2; bytes = cleared }) (opened_buffer r (at + 2)) region refl refl in
    let next : 2 + at ≡ at + 2 = omega arith in
    record {
      start = cut.0 ∙ inv.start;
      size = cut.1 ∙ inv.size;
      count = ap length cut.2 ∙ (length-set was.home at false ∙ inv.count);
      home = λ k low high.
          let other : k ≢ at = λ e. omega (arith, low, e) in
          ap (λ home. get_or home k false) cut.2 ∙ (get_or-set_other was.home at k false false other ∙ inv.home k (omega (arith, low)) high);
      room = omega (arith, inv.room, c.push_reserved.ensures.capacity);
      made = omega (arith, inv.made, c.push_reserved.ensures.len);
      all = c.push_reserved.ensures.items ∙ (ap (λ (bufs : List Buffer). bufs ++ c.new.result ∷ []) inv.all
          ∙ (ap (λ (b : Buffer). map (opened_buffer r) (range_with_len 2 at) ++ b ∷ []) made ∙ sym (map-range_with_len_more (opened_buffer r) 2 at (at + 2) next)));
    }
