use Rattle.std.proofs.Common.{◌≡◌, ◌≤◌, ◌+◌, ◌-◌, ℕ, List, Option, length, take, map, ap, sym, ◌∙◌, subst, arith}
use Rattle.std.proofs.lemmas.List.{length-map, take_all}
use Rattle.nm_reach.specs.Fields.{Run, end_of}
use Rattle.vale_line.specs.declared.got.Got.{Got}
use Rattle.vale_line.specs.Cells.{gots_in}
use Rattle.vale_line.specs.Gots.{blank, buffers_of, buffer_of}
use Rattle.vale_line.specs.declared.ring.Ring.{Ring}
use Rattle.vale_line.specs.Lines.{out_of}
use Rattle.vale_line.specs.Rings.{IsAt, IsRing, ring_state}
use Rattle.vale_line.proofs.RingLemmas.{shifted, idle-count, ring_with}
use Rattle.vale_line.proofs.ring.Ring.shift.Goals as goal

-- what a whole run is once it was split off
whole : (i j : Run (Option Got)) → j ≡ record i { values = take (length i.values) i.values } → j ≡ i
whole i j e = e ∙ ap (λ (vs : List (Option Got)). record i { values = vs }) (take_all (length i.values) i.values (omega arith))

abbrev blanks : Run (Option Got) → List Got
blanks w = map blank (buffers_of (gots_in w.values))

few-moved : (r : Ring) (k : ℕ) → IsRing r → k ≤ out_of (ring_state r) → k ≤ r.lent + length r.given.values
few-moved r k is few =
    let count = idle-count r.lent r.idle.values is.lent is.full in
    let bufs = length-map (gots_in r.idle.values) buffer_of in
    let all = is.all in
    let within = is.lent_within in
    omega (arith, count, bufs, all, within, few)

pub moved-idle-requires-clause-few : goal.moved-idle-requires-clause-few
moved-idle-requires-clause-few c =
    let r = c.args.self.now in
    let few = few-moved r c.args.k c.requires.ring.ring c.requires.few in
    let len = c.len-given.ensures in
    let split = ap (λ (i : Run (Option Got)). length i.values) c.split_front-2.ensures.first in
    let kept = ap length (take_all c.len-given.result r.given.values (omega (arith, len))) in
    omega (arith, few, len, split, kept)

pub returns-clause-ring : goal.returns-clause-ring
returns-clause-ring c =
    let r = c.args.self.now in
    let is = c.requires.ring.ring in
    let m = c.moved-idle.ensures in
    let idle = c.moved-idle.result.idle in
    let given = c.moved-idle.result.given in
    let i = whole r.idle c.split_front.result (c.split_front.ensures.first ∙ ap (λ (n : ℕ). record r.idle { values = take n r.idle.values }) c.len-idle.ensures) in
    let g = whole r.given c.split_front-2.result (c.split_front-2.ensures.first ∙ ap (λ (n : ℕ). record r.given { values = take n r.given.values }) c.len-given.ensures) in
    let few = few-moved r c.args.k c.requires.ring.ring c.requires.few in
    let ring = shifted r c.args.k idle given is few
    (subst (λ (w : Run (Option Got)). IsAt w.field w.size w.start idle) i m.idle)
    (m.idle_count ∙ ap (λ (w : Run (Option Got)). c.args.k + (length w.values - r.lent)) i)
    m.lent m.full
    (m.gots ∙ ap (λ (w : Run (Option Got)). blanks w) i)
    (subst (λ (w : Run (Option Got)). IsAt w.field w.size (end_of idle) given) i m.given)
    (m.given_count ∙ (ap (λ (w : Run (Option Got)). length w.values + length c.split_front.result.values) g ∙ ap (λ (w : Run (Option Got)). length r.given.values + length w.values) i))
    m.given_empty in
    subst (λ (w : Run (Option Got)). IsRing (ring_with r.field w c.replace.new.dest r.lots c.args.k)) (sym c.replace-2.ensures.after)
    (subst (λ (w : Run (Option Got)). IsRing (ring_with r.field given w r.lots c.args.k)) (sym c.replace.ensures.after) ring)
