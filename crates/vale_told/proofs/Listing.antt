-- Lists that are made entry by entry: what is made so far, and what the entries left stand for, are
-- the whole.
use Rattle.std.proofs.Common.{ℕ, suc, ◌+◌, ◌<◌, ◌≤◌, ◌≡◌, List, ◌∷◌, ◌++◌, length, drop, get_or, Option, sym, ◌∙◌, ap, append_assoc, append-nil, add-one, drop-cons, refl, Some}
use Rattle.std.proofs.lemmas.List.{drop_all}
use Rattle.std.specs.Option.{option_to_list}
use Rattle.vale_entry.specs.declared.entry.Ask.{Ask}
use Rattle.vale_entry.specs.declared.entry.Ask.TheVariants.{Enter, Open}
use Rattle.vale_entry.specs.declared.entry.Reply.{Reply}
use Rattle.vale_entry.specs.declared.entry.Reply.TheVariants.{Opened}
use Rattle.vale_entry.specs.declared.entry.Entry.{Entry}
use Rattle.vale_told.specs.declared.told.Told.{Told}
use Rattle.vale_told.specs.Ports.{port_by}
use Rattle.vale_told.specs.Users.{user_by}
use Rattle.vale_told.specs.Listed.{listed_from}

-- the first of the items that are left
pub drop-next :
    {X : Type 0} (xs : List X) (i : ℕ) (x : X) → i < length xs → x ≡ get_or xs i x
    → drop i xs ≡ x ∷ drop (i + 1) xs
drop-next xs i x within same =
    drop-cons xs i x within ∙ ap (λ y. y ∷ drop (suc i) xs) (sym same)
    ∙ ap (λ n. x ∷ drop n xs) (sym (add-one i))

pub listed-more :
    {X : Type 0} (pick : ℕ → Entry → Option X) (entries : List Entry) (i : ℕ) (entry : Entry)
    (whole items later : List X) → i < length entries → entry ≡ get_or entries i entry
    → whole ≡ items ++ listed_from pick (i + 1) (drop i entries)
    → later ≡ items ++ option_to_list (pick (i + 1) entry)
    → whole ≡ later ++ listed_from pick (i + 1 + 1) (drop (i + 1) entries)
listed-more pick entries i entry whole items later within same before now =
    before ∙ ap (λ es. items ++ listed_from pick (i + 1) es) (drop-next entries i entry within same)
    ∙ sym (append_assoc items (option_to_list (pick (i + 1) entry)) (listed_from pick (i + 1 + 1) (drop (i + 1) entries)))
    ∙ ap (λ xs. xs ++ listed_from pick (i + 1 + 1) (drop (i + 1) entries)) (sym now)

pub listed-all :
    {X : Type 0} (pick : ℕ → Entry → Option X) (entries : List Entry) (i : ℕ)
    (whole items : List X) → length entries ≤ i
    → whole ≡ items ++ listed_from pick (i + 1) (drop i entries) → items ≡ whole
listed-all pick entries i whole items past before =
    sym (before ∙ ap (λ es. items ++ listed_from pick (i + 1) es) (drop_all i entries past) ∙ append-nil items)

-- what is known of each port alike makes the same ports
pub port_by-same :
    (f g : ℕ → Told) → ((port : ℕ) → f port ≡ g port) → (number : ℕ) (ask : Ask) (reply : Reply)
    → port_by f number ask reply ≡ port_by g number ask reply
port_by-same f g same number (Open session name tx rx extra) Opened =
    ap (λ told. Some (record {
      id = number;
      session = session.0;
      name = name;
      tx = tx;
      rx = rx;
      extra = extra;
      told = told;
    })) (same number)
port_by-same f g same number _ _ = refl

pub user_by-same :
    (f g : ℕ → ℕ) → ((session : ℕ) → f session ≡ g session) → (number : ℕ) (ask : Ask)
    → user_by f number ask ≡ user_by g number ask
user_by-same f g same number (Enter user) =
    ap (λ count. Some (record { session = number; user = user; entries = count })) (same number)
user_by-same f g same number _ = refl
