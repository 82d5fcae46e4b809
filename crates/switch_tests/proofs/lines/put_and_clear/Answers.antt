use Rattle.std.proofs.Common.{false, ◌≡◌, ◌==◌, ◌++◌, List, [], ◌∷◌, length, take, drop, ap, ◌∙◌, refl, arith, rules}
use Rattle.std.proofs.lemmas.Bool.{ne_eqb}
use Rattle.std.proofs.lemmas.List.{append-nil}
use Rattle.nm_types.specs.declared.id.LeaseId.{LeaseId}
use Rattle.nm_region.specs.Buffers.{Buffer, opened_buffers}
use Rattle.vale_line.specs.declared.got.Got.{Got}
use Rattle.vale_line.specs.Gots.{buffers_of}
use Rattle.vale_line.specs.Lines.{LineState, held_gots, with_put}
use Rattle.vale_line.proofs.Moving.{rotated}
use Rattle.switch_tests.proofs.lines.put_and_clear.Goals as goal

abbrev all_of : LineState → List Buffer
all_of line = line.idle ++ buffers_of (held_gots line.lots)

-- what a line without lots holds once buffers were put
put-all : (line : LineState) (id : LeaseId) (gots : List Got) → line.lots ≡ [] → all_of (with_put id gots line) ≡ line.idle ++ buffers_of gots
put-all line id [] none = rw none refl
put-all line id (g ∷ gs) none =
    let some : (length (g ∷ gs) == 0) ≡ false = ne_eqb (length (g ∷ gs)) 0 (λ e. let wrong : length (g ∷ gs) ≡ 0 = e in omega (arith, wrong)) in
    rw (some, none) (ap (λ (all : List Got). line.idle ++ buffers_of all) (append-nil (g ∷ gs)))

pub close-requires : goal.close-requires
close-requires g c =
    let line = c.lend.new.self in
    let frames = c.frames_of-frames.result.items in
    let all : c.line_of-line.result.idle ≡ opened_buffers c.in-Ok.region = search rules in
    let none : line.lots ≡ [] = search rules in
    let idle : line.idle ≡ drop 2 (opened_buffers c.in-Ok.region) = ap (λ (l : LineState). l.idle) c.lend.ensures.line ∙ ap (λ (bs : List Buffer). drop 2 bs) all in
    let lent : buffers_of frames ≡ take 2 (opened_buffers c.in-Ok.region) = c.frames_of-frames.ensures.buffers ∙ (c.lend.ensures.lent ∙ ap (λ (bs : List Buffer). take 2 bs) all) in
    rotated c.in-Ok.region 2 c.clear-bufs.result.0.items
    (c.clear-bufs.ensures.buffers ∙ (ap all_of c.accept.ensures.line ∙ (put-all line (record { 0 = 5 }) frames none
    ∙ (ap (λ (bs : List Buffer). bs ++ buffers_of frames) idle ∙ ap (λ (bs : List Buffer). drop 2 (opened_buffers c.in-Ok.region) ++ bs) lent))))
