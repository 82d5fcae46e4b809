use Rattle.std.proofs.Common.{◌≡◌, [], ◌∷◌, ℕ, List, length, map, ap, ◌∙◌}
use Rattle.std.specs.List.{range_with_len}
use Rattle.vale_batch.specs.declared.lists.Want.{Want}
use Rattle.vale_batch.specs.Wants.{size_of, wanted}
use Rattle.vale_batch.proofs.ToOne.{every-wanted, none-wanted, want_made}
use Rattle.vale_batch.proofs.lookup.Lookup.sole_wants.Goals as goal

pub returns-then-not-there : goal.returns-then-not-there
returns-then-not-there c =
    λ ports rising is. ap (λ (ws : List Want). map wanted ws) c.new.ensures.items
    ∙ none-wanted c.args.sole ports c.args.self.now.all c.requires.alone (is ∙ c.if-not-there.true) c.args.self.now.from

pub returns : goal.returns
returns c =
    let all = c.args.self.now.all in
    let want : Want = record { to = c.args.sole; places = c.own-places.result; sizes = c.in_ok-sizes.sizes } in
    let places : c.own-places.result ≡ range_with_len 0 (length all) =
    c.own-places.ensures ∙ (c.in_ok-places.ensures ∙ ap (λ (n : ℕ). range_with_len 0 n) c.len.ensures) in
    let is : wanted want ≡ want_made c.args.sole (range_with_len 0 (length all)) (map size_of all) =
    ap (λ (ns : List ℕ). want_made c.args.sole ns want.sizes) places
    ∙ ap (λ (ns : List ℕ). want_made c.args.sole (range_with_len 0 (length all)) ns) c.in_ok-sizes.ensures in
    λ ports rising there. ap (λ (ws : List Want). map wanted ws) c.in_ok-one_want.ensures
    ∙ every-wanted c.args.sole ports all c.requires.alone c.requires.some rising (there ∙ c.if-not-there.false) (wanted want) is c.args.self.now.from
