use Rattle.std.proofs.Common.{ℕ, ◌≡◌, Some, slice_get, get_or, sym, ◌∙◌, ap, arith, rules}
use Rattle.std.proofs.lemmas.Option.{slice_get-get_or}
use Rattle.nm_region.specs.Buffers.{Buffer, indices_of}
use Rattle.vale_drive.proofs.NextPorts.{set-length, written-next, index-at}
use Rattle.vale_drive.proofs.winding.write_indices.Goals as goal

pub loop-i-preserved : goal.loop-i-preserved
loop-i-preserved c =
    let test = c.loop-i-test.true in
    let size = c.loop-i.invariant.size in
    let few = c.requires in
    let buf = c.index-bufs-i.result in
    let is : buf ≡ get_or c.args.bufs.now c.loop-i.i buf = search rules in
    let here : slice_get c.args.bufs.now c.loop-i.i ≡ Some buf =
    slice_get-get_or c.args.bufs.now c.loop-i.i buf (omega (arith, test, size, few)) ∙ ap (λ (x : Buffer). Some x) (sym is) in
    record {
      size = set-length c.loop-i.numbers c.loop-i.i c.index.result ∙ size;
      written = written-next c.loop-i.numbers (indices_of c.args.bufs.now) c.loop-i.i c.index.result (omega (arith, test, size)) c.loop-i.invariant.written
          (index-at c.args.bufs.now c.loop-i.i buf here ∙ ap (λ (n : ℕ). Some n) (sym c.index.ensures));
    }
