use Rattle.std.proofs.Common.{◌≡◌, ◌++◌, List, ℕ, take, drop, ap, sym, ◌∙◌, arith, rules}
use Rattle.std.specs.Prelude.{sum}
use Rattle.std.proofs.lemmas.List.{append_assoc}
use Rattle.vale_line.proofs.FittingLemmas.{first-fits, sum-push, take-one}
use Rattle.vale_line.proofs.line.count_fitting.Goals as goal

pub loop-size-preserved : goal.loop-size-preserved
loop-size-preserved c =
    let rest = c.loop-size.rest.now in
    let want = c.args.want.now in
    let n = c.loop-size.count in
    let fits = first-fits c.loop-size.left c.in-Some.size rest (sym c.first_fitting.ensures ∙ c.in-Some.is) in
    let within = fits.within in
    let added = c.loop-size.invariant.added in
    let one = take-one want n c.in-Some.size (drop 1 rest) (c.loop-size.invariant.rest ∙ fits.is_first) in
    let behind : c.behind_first-rest.result.now ≡ drop 1 rest = search rules in
    let more = sum-push (take n want) c.in-Some.size in
    let total = ap sum one.0 in
    record {
      taken = rw (one.0, behind, append_assoc) (ap (λ (ns : List ℕ). take n want ++ ns) (sym fits.given) ∙ c.loop-size.invariant.taken);
      rest = one.1 ∙ sym behind;
      added = omega (arith, more, total, added, within);
      within = one.2;
    }
