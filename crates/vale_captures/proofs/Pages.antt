-- A capture on its way to a file by pages.
use Rattle.std.proofs.Common.{◌≡◌, ◌⊎◌, ◌+◌, ◌≤◌, inl, inr, ℕ, List, [], ◌∷◌, ◌++◌, length, take, drop, Option, Some, slice_get, flat_map, refl, sym, ap, ◌∙◌, subst, arith, le_refl, append_assoc, length-append}
use Rattle.std.proofs.lemmas.List.{append-nil, take-append-drop, take-append-le, take_all, take_more}
use Rattle.std.proofs.lemmas.Option.{get_or_from_slice_get, slice_get_within}
use Rattle.std.proofs.lemmas.Grind.{flat_map-append}
use Rattle.nm_io.specs.Counts.{Rose}
use Rattle.nm_io.specs.Files.{Files, appended_told, AppendsPrefix}
use Rattle.nm_io.proofs.Appending.{appended_told-appended_told, appends_longer, appends_more}
use Rattle.pcap_io.specs.declared.record.Record.{Record}
use Rattle.pcap_io.specs.Written.{header_text, record_text, capture_text}
use Rattle.vale_captures.specs.Outputs.{OutputFile, IsFlushed, all_appended, text_of}

-- of this text the first bytes are at the end of a file, and the others are left on the page
pub record HasGone (old now : Option Files) (name text left : List ℕ) : Type 0 where
  pub done : List ℕ
  pub whole : done ++ left ≡ text
  pub files : ((now ≡ old) × (done ≡ [])) ⊎ (now ≡ appended_told old name done)

-- ---- lists

pub taken-next : {X : Type 0} (xs : List X) (n : ℕ) (x : X) → slice_get xs n ≡ Some x → take (n + 1) xs ≡ take n xs ++ x ∷ []
taken-next {X} xs n x e =
    take_more xs n x (slice_get_within xs n x e)
    ∙ ap (λ (z : X). take n xs ++ z ∷ []) (get_or_from_slice_get xs n x x e)

-- ---- captures

abbrev one : Record → List ℕ
one r = record_text r.seconds r.fraction r.bytes

more-text : (xs ys : List Record) → capture_text (xs ++ ys) ≡ capture_text xs ++ flat_map one ys
more-text xs ys = ap (λ (t : List ℕ). header_text ++ t) (flat_map-append one xs ys) ∙ sym (append_assoc header_text (flat_map one xs) (flat_map one ys))

text-next : (rs : List Record) (k : ℕ) (r : Record) → slice_get rs k ≡ Some r → capture_text (take (k + 1) rs) ≡ capture_text (take k rs) ++ record_text r.seconds r.fraction r.bytes
text-next rs k r there =
    ap capture_text (taken-next rs k r there) ∙ (more-text (take k rs) (r ∷ []) ∙ ap (λ (t : List ℕ). capture_text (take k rs) ++ t) (append-nil (one r)))

text-longer : (old new : Option Files) (name : List ℕ) (rs : List Record) (k : ℕ) → AppendsPrefix old new name (capture_text (take k rs)) → AppendsPrefix old new name (capture_text rs)
text-longer old new name rs k part =
    let all : capture_text (take k rs) ++ flat_map one (drop k rs) ≡ capture_text rs = sym (more-text (take k rs) (drop k rs)) ∙ ap capture_text (take-append-drop k rs) in
    subst (AppendsPrefix old new name) all (appends_longer old new name (capture_text (take k rs)) (flat_map one (drop k rs)) part)

-- ---- what has gone

put-gone : (old now : Option Files) (name text left more : List ℕ) → HasGone old now name text left → HasGone old now name (text ++ more) (left ++ more)
put-gone old now name text left more g = record {
  done = g.done;
  whole = sym (append_assoc g.done left more) ∙ ap (λ (t : List ℕ). t ++ more) g.whole;
  files = g.files;
}

-- the next record was put on the page
pub record-gone : (old now : Option Files) (name left page : List ℕ) (rs : List Record) (k : ℕ)
    (r : Record) → slice_get rs k ≡ Some r → page ≡ left ++ one r
    → HasGone old now name (capture_text (take k rs)) left
    → HasGone old now name (capture_text (take (k + 1) rs)) page
record-gone old now name left page rs k r there is g =
    subst (λ (t : List ℕ). HasGone old now name t page) (sym (text-next rs k r there))
    (subst (HasGone old now name (capture_text (take k rs) ++ one r)) (sym is)
    (put-gone old now name (capture_text (take k rs)) left (one r) g))

pub all-went : (old middle new : Option Files) (name text left : List ℕ) → HasGone old middle name text left → new ≡ appended_told middle name left → new ≡ appended_told old name text
all-went old middle new name text left g is = by g.files
  where
    by : ((middle ≡ old) × (g.done ≡ [])) ⊎ (middle ≡ appended_told old name g.done) → new ≡ appended_told old name text
    by (inl none) =
        let left_is : left ≡ text = ap (λ (t : List ℕ). t ++ left) (sym none.1) ∙ g.whole in
        is ∙ (ap (λ (f : Option Files). appended_told f name left) none.0 ∙ ap (appended_told old name) left_is)
    by (inr some) = is ∙ (ap (λ (f : Option Files). appended_told f name left) some ∙ (appended_told-appended_told old name g.done left ∙ ap (appended_told old name) g.whole))

pub flushed-gone : (old middle new : Option Files) (name text left rest : List ℕ) → HasGone old middle name text left → IsFlushed middle new name left rest → HasGone old new name text rest
flushed-gone old middle new name text left rest g (inl same) = record {
  done = g.done;
  whole = ap (λ (t : List ℕ). g.done ++ t) same.1 ∙ g.whole;
  files = subst (λ (f : Option Files). ((f ≡ old) × (g.done ≡ [])) ⊎ (f ≡ appended_told old name g.done)) (sym same.0) g.files;
}
flushed-gone old middle new name text left rest g (inr went) = record {
  done = text;
  whole = ap (λ (t : List ℕ). text ++ t) went.1 ∙ append-nil text;
  files = inr (all-went old middle new name text left g went.0);
}

stops-gone : (old now : Option Files) (name text left : List ℕ) → HasGone old now name text left → AppendsPrefix old now name text
stops-gone old now name text left g = subst (AppendsPrefix old now name) g.whole (by g.files)
  where
    by : ((now ≡ old) × (g.done ≡ [])) ⊎ (now ≡ appended_told old name g.done) → AppendsPrefix old now name (g.done ++ left)
    by (inl none) = record { count = 0; within = omega arith; files = inl none.0 }
    by (inr some) = record {
      count = length g.done;
      within = omega (arith, length-append g.done left);
      files = inr (some ∙ ap (appended_told old name) (sym (take-append-le (length g.done) g.done left (le_refl (length g.done)) ∙ take_all (length g.done) g.done (le_refl (length g.done)))));
    }

stops-flush : (old middle new : Option Files) (name text left : List ℕ) → HasGone old middle name text left → AppendsPrefix middle new name left → AppendsPrefix old new name text
stops-flush old middle new name text left g part = by g.files
  where
    by : ((middle ≡ old) × (g.done ≡ [])) ⊎ (middle ≡ appended_told old name g.done) → AppendsPrefix old new name text
    by (inl none) =
        let left_is : left ≡ text = ap (λ (t : List ℕ). t ++ left) (sym none.1) ∙ g.whole in
        subst (AppendsPrefix old new name) left_is (subst (λ (f : Option Files). AppendsPrefix f new name left) none.0 part)
    by (inr some) = subst (AppendsPrefix old new name) g.whole (appends_more old middle new name g.done left some part)

-- no more records were put behind the first ones
pub page-kept : (old now : Option Files) (name left : List ℕ) (rs : List Record) (k : ℕ)
    → HasGone old now name (capture_text (take k rs)) left
    → AppendsPrefix old now name (capture_text rs)
page-kept old now name left rs k g =
    text-longer old now name rs k (stops-gone old now name (capture_text (take k rs)) left g)

-- the page of the first records did not go out
pub page-stops : (old middle new : Option Files) (name left : List ℕ) (rs : List Record) (k : ℕ)
    → HasGone old middle name (capture_text (take k rs)) left → AppendsPrefix middle new name left
    → AppendsPrefix old new name (capture_text rs)
page-stops old middle new name left rs k g part =
    text-longer old new name rs k
    (stops-flush old middle new name (capture_text (take k rs)) left g part)

-- ---- files one after another

pub appended-next : (files : Option Files) (outputs : List OutputFile) (output : OutputFile) → all_appended files (outputs ++ output ∷ []) ≡ appended_told (all_appended files outputs) output.file (text_of output)
appended-next files [] output = refl
appended-next files (o ∷ outputs) output = appended-next (appended_told files o.file (text_of o)) outputs output

-- a count that rose since later rose since earlier
pub rose-since : (first before now : ℕ) → first ≤ before → Rose before now → Rose first now
rose-since first before now le (inl up) = inl (omega (arith, le, up))
rose-since first before now le (inr most) = inr most
