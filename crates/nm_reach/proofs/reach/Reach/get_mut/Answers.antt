use Rattle.std.proofs.Common.{◌≡◌, ◌+◌, ◌-◌, ◌<◌, ap, sym, ◌∙◌, refl, arith, length, slice_set, slice_index_or}
use Rattle.nm_reach.specs.Fields.{Run}
use Rattle.nm_reach.proofs.Lists.{set_low, set_high, get_low, get_high}
use Rattle.nm_reach.proofs.reach.Reach.get_mut.Goals as goal

pub returns-then-i-before : goal.returns-then-i-before
returns-then-i-before g c =
    let x = c.self.inside in
    let f = x.sides.front.values in
    let b = x.sides.back.values in
    let in' : c.args.i < length f = omega (arith, c.if-i-before.true, c.len-before.ensures.len) in (
      (refl, λ w. ap (λ vs. record { field = x.sides.front.field; size = x.size; start = x.start; values = vs }) (sym (set_low c.args.i f b w in')) ∙ ap (λ (r : Run g.row.T.Denot). record r { values = slice_set r.values c.args.i w }) c.self.view_is),
      record {
        writes_back = tt;
        value = c.get_mut.ensures.value ∙ sym (get_low c.args.i f b c.get_mut.result.now in') ∙ ap (λ (r : Run g.row.T.Denot). slice_index_or r.values c.args.i c.get_mut.result.now) c.self.view_is;
      },
    )

pub returns-else-i-before : goal.returns-else-i-before
returns-else-i-before g c =
    let x = c.self.inside in
    let f = x.sides.front.values in
    let b = x.sides.back.values in
    let j = c.args.i - c.len-before.result in
    let in' : c.args.i ≡ length f + j = omega (arith, c.if-i-before.false, c.len-before.ensures.len) in
    let got = c.get_mut-else-i-before in (
      (refl, λ w. ap (λ vs. record { field = x.sides.front.field; size = x.size; start = x.start; values = vs }) (sym (set_high c.args.i j f b w in')) ∙ ap (λ (r : Run g.row.T.Denot). record r { values = slice_set r.values c.args.i w }) c.self.view_is),
      record {
        writes_back = tt;
        value = got.ensures.value ∙ sym (get_high c.args.i j f b got.result.now in') ∙ ap (λ (r : Run g.row.T.Denot). slice_index_or r.values c.args.i got.result.now) c.self.view_is;
      },
    )
