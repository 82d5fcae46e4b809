-- What the entries of a history tell, and what every legal history keeps, as one entry more comes.
use Rattle.std.proofs.Common.{ℕ, List, [], ◌∷◌, ◌++◌, ◌≡◌, sym, ◌∙◌, ap, subst, append_assoc, append-nil, flat_map, fold}
use Rattle.std.proofs.lemmas.Grind.{flat_map-append}
use Rattle.vale_entry.specs.declared.entry.Entry.{Entry}
use Rattle.vale_entry.specs.World.{World}
use Rattle.vale_entry.specs.Legal.{Standing, after, standing_of, world_of, fresh_standing, IsLegalFrom, IsLegal, Follows}
use Rattle.vale_entry.specs.Delivered.{told_from, told}
use Rattle.vale_entry.proofs.Worlds.{standing-push, legal-push}

told_from-push :
    {X : Type 0} (tell : World → Entry → List X) (s : Standing) (h : List Entry) (e : Entry)
    → told_from tell s (h ++ e ∷ []) ≡ told_from tell s h ++ tell (fold after s h).world e
told_from-push tell s [] e = append-nil (tell s.world e)
told_from-push tell s (d ∷ ds) e =
    ap (λ xs. tell s.world d ++ xs) (told_from-push tell (after s d) ds e)
    ∙ sym
    (append_assoc (tell s.world d) (told_from tell (after s d) ds)
    (tell (fold after (after s d) ds).world e))

pub told-push : {X : Type 0} (tell : World → Entry → List X) (pool : ℕ) (h : List Entry) (e : Entry)
    → told tell pool (h ++ e ∷ []) ≡ told tell pool h ++ tell (world_of pool h) e
told-push tell pool h e = told_from-push tell (fresh_standing pool) h e

pub flat_map-push :
    {X Y : Type 0} (f : X → List Y) (xs : List X) (x : X)
    → flat_map f (xs ++ x ∷ []) ≡ flat_map f xs ++ f x
flat_map-push f xs x =
    flat_map-append f xs (x ∷ []) ∙ ap (λ ys. flat_map f xs ++ ys) (append-nil (f x))

history_from : (pool : ℕ) (P : List Entry → Type 0)
    →
    ((h : List Entry) (e : Entry) → IsLegal pool h → Follows (standing_of pool h) e → P h
    → P (h ++ e ∷ []))
    → (past h : List Entry) → IsLegal pool past → IsLegalFrom (standing_of pool past) h → P past
    → P (past ++ h)
history_from pool P keeps past [] legal rest here = subst P (sym (append-nil past)) here
history_from pool P keeps past (e ∷ es) legal rest here =
    let more =
    subst (λ (s : Standing). IsLegalFrom s es) (sym (standing-push pool past e)) rest.1 in
    let later =
    history_from pool P keeps (past ++ e ∷ []) es (legal-push pool past e legal rest.0) more
    (keeps past e legal rest.0 here) in
    subst P (append_assoc past (e ∷ []) es) later

-- what each entry keeps that follows on a legal history holds of every legal history
pub history-by : (pool : ℕ) (P : List Entry → Type 0)
    →
    ((h : List Entry) (e : Entry) → IsLegal pool h → Follows (standing_of pool h) e → P h
    → P (h ++ e ∷ []))
    → P [] → (h : List Entry) → IsLegal pool h → P h
history-by pool P keeps none h legal = history_from pool P keeps [] h tt legal none
