use Rattle.std.proofs.Common.{◌≡◌, ℕ, Bool, true, false, cond, List, [], ◌∷◌, map, Option, Some, String, Vec, string_bytes, refl, sym, ap, ◌∙◌}
use Rattle.std.specs.Option.{option_map}
use Rattle.std.specs.declared.alloc.Global.{Global}
use Rattle.std.specs.BTreeMap.{BTreeMap, is_at}
use Rattle.std.specs.Cmp.Lexicographic.{slice_cmp}
use Rattle.std.specs.Ordering.{nat_cmp}
use Rattle.std.specs.Map.{lookup}
use Rattle.std.specs.Str.{bytes_eq}
use Rattle.std.proofs.lemmas.Map.Text.{is_eq-slice_cmp}
use Rattle.std.proofs.Math.Path.{fun_ext}
use Rattle.nm_io.specs.Files.{appended, replaced}
use Rattle.nm_io.specs.ShelfState.{files_of, files_in, seen_entry, seen_entries}

-- a choice under a function on options
option_map-cond : {T U : Type 0} (f : T → U) (b : Bool) (x : T) (o : Option T) → cond b (Some (f x)) (option_map f o) ≡ option_map f (cond b (Some x) o)
option_map-cond f true x o = refl
option_map-cond f false x o = refl

-- a file among the entries as they are seen is that of the map
lookup-seen : (name : List ℕ) (entries : List (String Global × Vec ℕ Global)) → lookup (bytes_eq name) (map seen_entry entries) ≡ option_map (λ v. v.items) (lookup (is_at (λ k. slice_cmp nat_cmp name (string_bytes k))) entries)
lookup-seen name [] = refl
lookup-seen name (e ∷ es) =
    ap (λ b. cond b (Some e.1.items) (lookup (bytes_eq name) (map seen_entry es))) (sym (is_eq-slice_cmp name (string_bytes e.0)))
    ∙ ap (cond (is_at (λ k. slice_cmp nat_cmp name (string_bytes k)) e.0) (Some e.1.items)) (lookup-seen name es)
    ∙ option_map-cond (λ v. v.items) (is_at (λ k. slice_cmp nat_cmp name (string_bytes k)) e.0) e.1 (lookup (is_at (λ k. slice_cmp nat_cmp name (string_bytes k))) es)

-- the files as the map tells them
files_of-seen : (stored : BTreeMap (String Global) (Vec ℕ Global)) → files_of (seen_entries stored) ≡ files_in stored
files_of-seen stored = fun_ext (λ name. lookup-seen name stored.entries)

-- what the functions over the map promise, of the entries as they are seen
pub seen_found : (stored : BTreeMap (String Global) (Vec ℕ Global)) (name : List ℕ) (found : Option (List ℕ)) → found ≡ files_in stored name → found ≡ files_of (seen_entries stored) name
seen_found stored name found same = same ∙ sym (ap (λ files. files name) (files_of-seen stored))

pub seen_same : (old new : BTreeMap (String Global) (Vec ℕ Global)) → files_in new ≡ files_in old → files_of (seen_entries new) ≡ files_of (seen_entries old)
seen_same old new same = files_of-seen new ∙ same ∙ sym (files_of-seen old)

pub seen_replaced : (old new : BTreeMap (String Global) (Vec ℕ Global)) (name bytes : List ℕ) → files_in new ≡ replaced (files_in old) name bytes → files_of (seen_entries new) ≡ replaced (files_of (seen_entries old)) name bytes
seen_replaced old new name bytes same = files_of-seen new ∙ same ∙ sym (ap (λ files. replaced files name bytes) (files_of-seen old))

pub seen_appended : (old new : BTreeMap (String Global) (Vec ℕ Global)) (name bytes : List ℕ) → files_in new ≡ appended (files_in old) name bytes → files_of (seen_entries new) ≡ appended (files_of (seen_entries old)) name bytes
seen_appended old new name bytes same = files_of-seen new ∙ same ∙ sym (ap (λ files. appended files name bytes) (files_of-seen old))

pub ruleset stores = (seen_found)
