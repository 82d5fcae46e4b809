use Rattle.std.proofs.Common.{◌≡◌, [], ◌∷◌, ◌++◌, ap, sym, ◌∙◌, List, arith, rules}
use Rattle.std.proofs.lemmas.List.{map-append, append_assoc, length-take}
use Rattle.std.proofs.lemmas.List.Elements.{All-push}
use Rattle.nm_region.specs.Buffers.{Buffer}
use Rattle.vale_line.specs.declared.got.Got.{Got}
use Rattle.vale_line.specs.Gots.{buffer_of, buffers_of, FitsPart, IsSingle}
use Rattle.switch_tests.proofs.lines.frames_of.Goals as goal

-- one more frame of one part
pub loop-buf-preserved : goal.loop-buf-preserved
loop-buf-preserved c =
    let gots = c.loop-buf.gots.items in
    let rest = c.pop_front.new.self.items in
    let got : Got = record { buf = c.in-Some.buf; len = 14; rest = 0 } in
    let added : c.push_reserved.new.self.items ≡ gots ++ got ∷ [] = c.push_reserved.ensures.items in
    let front : c.loop-buf.rest.items ≡ c.in-Some.buf ∷ rest = search rules in
    let alone : IsSingle got = search rules in
    record {
      moved = rw added (ap (λ (bs : List Buffer). bs ++ rest) (map-append buffer_of gots (got ∷ []))
          ∙ (append_assoc (buffers_of gots) (c.in-Some.buf ∷ []) rest
          ∙ (ap (λ (bs : List Buffer). buffers_of gots ++ bs) (sym front) ∙ c.loop-buf.invariant.moved)));
      single = rw added (All-push IsSingle gots got c.loop-buf.invariant.single alone);
      fits = rw added (All-push FitsPart gots got c.loop-buf.invariant.fits (let size = length-take 14 got.buf.bytes in omega (arith, size)));
      room = search rules;
    }
