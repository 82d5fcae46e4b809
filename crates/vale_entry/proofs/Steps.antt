-- What every step keeps holds after every history.
use Rattle.std.proofs.Common.{ℕ, List, [], ◌∷◌, fold}
use Rattle.vale_entry.specs.declared.entry.Entry.{Entry}
use Rattle.vale_entry.specs.Legal.{Standing, after, standing_of, fresh_standing, IsLegalFrom, IsLegal, Follows}

pub standing-by :
    (P : Standing → Type 0) → ((s : Standing) (e : Entry) → P s → P (after s e))
    → (s : Standing) (h : List Entry) → P s
    → P (fold after s h)
standing-by P keeps s [] here = here
standing-by P keeps s (e ∷ es) here = standing-by P keeps (after s e) es (keeps s e here)

legal_from-by :
    (P : Standing → Type 0) → ((s : Standing) (e : Entry) → P s → Follows s e → P (after s e))
    → (s : Standing) (h : List Entry)
    → IsLegalFrom s h → P s → P (fold after s h)
legal_from-by P keeps s [] legal here = here
legal_from-by P keeps s (e ∷ es) legal here =
    legal_from-by P keeps (after s e) es legal.1 (keeps s e here legal.0)

-- the same for legal histories, where each entry is known to follow
pub legal-by :
    (P : Standing → Type 0) → ((s : Standing) (e : Entry) → P s → Follows s e → P (after s e))
    → (pool : ℕ) (h : List Entry)
    → IsLegal pool h → P (fresh_standing pool) → P (standing_of pool h)
legal-by P keeps pool h legal here = legal_from-by P keeps (fresh_standing pool) h legal here
