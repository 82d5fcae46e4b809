-- A name that is taken out again, and the room for one more.
use Rattle.std.proofs.Common.{ℕ, Bool, true, false, cond, not, ◌≡◌, ◌≤◌, ◌<◌, ◌+◌, List, [], ◌∷◌, ◌++◌, length, map, refl, sym, ◌∙◌, ap, arith, ◌==◌, length-append}
use Rattle.std.specs.List.{list_any, AllByRecursion as Each}
use Rattle.std.proofs.lemmas.Bool.{eq-eqb, ne_eqb, or_from, or_parts}
use Rattle.std.proofs.lemmas.List.{length-map}
use Rattle.std.proofs.lemmas.List.Sorted.{list_any-IsPermutation, length_permutation}
use Rattle.vale_names.specs.declared.port.NamedPort.{NamedPort}
use Rattle.vale_names.specs.Ports.{fresh_port, has_id}
use Rattle.vale_names.specs.Ports.{ports_without as names_without}
use Rattle.vale_entry.specs.World.{Port}
use Rattle.vale_entry.specs.Legal.{world_of}
use Rattle.vale_entry.specs.Laws.{id_of_port}
use Rattle.vale_entry.proofs.Each.{each-unmap}
use Rattle.vale_entry.proofs.Numbered.{world-numbered}
use Rattle.vale_parts.specs.Ids.{port_id}
use Rattle.vale_parts.specs.WorldNames.{named_port}
use Rattle.vale_parts.specs.NameLaws.{OpeningsAreUndone, OpeningsHaveRoom}
use Rattle.vale_parts.proofs.CountsKept.{each_under}

none_of : (high id : ℕ) (ports : List Port) → high < id → Each (λ (p : Port). p.id ≤ high) ports → list_any (has_id id) (map named_port ports) ≡ false
none_of high id [] up all = refl
none_of high id (p ∷ ps) up all =
    let miss : (p.id == id) ≡ false = ne_eqb p.id id (λ same. let here = all.0 in absurd (omega (arith, up, here, same))) in
    or_from (p.id == id) (list_any (has_id id) (map named_port ps)) miss (none_of high id ps up all.1)

kept_all : (id : ℕ) (names : List NamedPort) → list_any (has_id id) names ≡ false → names_without id names ≡ names
kept_all id [] none = refl
kept_all id (q ∷ qs) none =
    let parts = or_parts (has_id id q) (list_any (has_id id) qs) none in
    ap (λ (b : Bool). cond (not b) (q ∷ names_without id qs) (names_without id qs)) parts.0 ∙ ap (λ (rest : List NamedPort). q ∷ rest) (kept_all id qs parts.1)

-- without the one that stands between
out_of : (id : ℕ) (before after : List NamedPort) (port : NamedPort) → has_id id port ≡ true → list_any (has_id id) (before ++ after) ≡ false → names_without id (before ++ port ∷ after) ≡ before ++ after
out_of id [] after port own none =
    ap (λ (b : Bool). cond (not b) (port ∷ names_without id after) (names_without id after)) own ∙ kept_all id after none
out_of id (q ∷ qs) after port own none =
    let parts = or_parts (has_id id q) (list_any (has_id id) (qs ++ after)) none in
    ap (λ (b : Bool). cond (not b) (q ∷ names_without id (qs ++ port ∷ after)) (names_without id (qs ++ port ∷ after))) parts.0
    ∙ ap (λ (rest : List NamedPort). q ∷ rest) (out_of id qs after port own parts.1)

pub openings_undone : OpeningsAreUndone
openings_undone pool h names next name are joins =
    let w = world_of pool h in
    let id = w.entry_count + 1 in
    let up : w.entry_count < w.entry_count + 1 = omega arith in
    let under = each-unmap (λ (n : ℕ). n ≤ w.entry_count) id_of_port w.ports (each_under 0 (map id_of_port w.ports) w.entry_count (world-numbered pool h).ports_rise) in
    let none : list_any (has_id id) names ≡ false = sym (list_any-IsPermutation (has_id id) (map named_port w.ports) names are) ∙ none_of w.entry_count id w.ports up under in
    let split : list_any (has_id id) (joins.before ++ joins.after) ≡ false = ap (list_any (has_id id)) (sym joins.was) ∙ none in
    ap (names_without id) joins.is ∙ (out_of id joins.before joins.after (fresh_port name (port_id id)) (eq-eqb id id refl) split ∙ sym joins.was)

pub openings_room : OpeningsHaveRoom
openings_room w names next port are joins is =
    let few = is.few in
    let own = length-map w.ports named_port in
    let same = length_permutation (map named_port w.ports) names are in
    let was = ap (λ (qs : List NamedPort). length qs) joins.was in
    let now = ap (λ (qs : List NamedPort). length qs) joins.is in
    let one = length-append joins.before joins.after in
    let two = length-append joins.before (port ∷ joins.after) in
    omega (arith, few, own, same, was, now, one, two)
