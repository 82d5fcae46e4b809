-- A name is a word: it holds no blank and no line feed.
use Rattle.std.specs.List.{list_all}
use Rattle.std.proofs.Common.{ℕ, ◌≡◌, true, nat_lt, nat_le, List, [], ◌∷◌, arith}
use Rattle.std.proofs.lemmas.Bool.{and_parts, leb-true, ltb-true}
use Rattle.nm_types.specs.Names.{is_name}
use Rattle.nm_types.proofs.NameBytes.{is_graphic, are_graphic, name_graphic}
use Rattle.vale_fields.proofs.Cuts.{IsWord}

-- a word written out
pub literal : (w : List ℕ) → list_all (nat_lt 32) w ≡ true → IsWord w
literal [] h = tt
literal (x ∷ xs) h =
    let parts = and_parts (nat_lt 32 x) (list_all (nat_lt 32) xs) h in
    (ltb-true 32 x parts.0, literal xs parts.1)

graphic-word : (w : List ℕ) → are_graphic w ≡ true → IsWord w
graphic-word [] h = tt
graphic-word (x ∷ xs) h =
    let parts = and_parts (is_graphic x) (are_graphic xs) h in
    let low = leb-true 33 x (and_parts (nat_le 33 x) (nat_le x 126) parts.0).0 in
    (omega (arith, low), graphic-word xs parts.1)

pub name-word : (text : List ℕ) → is_name text ≡ true → IsWord text
name-word text h = graphic-word text (name_graphic text h)
