-- Writing the spans of numbers, one after another.
use Rattle.std.proofs.Common.{◌≡◌, ◌≤◌, ◌<◌, ◌+◌, ◌-◌, ◌==◌, ℕ, suc, Bool, if◌then◌else◌, List, [], ◌∷◌, ◌++◌, length, map, drop, get_or, decimal, codes, Option, Result, refl, sym, ap, subst, ◌∙◌, arith, append_assoc, length-drop, drop-cons, get_or-drop, true, false, drop-drop}
use Rattle.std.specs.List.{flat_map}
use Rattle.std.proofs.lemmas.List.{append-nil}
use Rattle.std.proofs.lemmas.Grind.{flat_map-append}
use Rattle.std.proofs.lemmas.Bool.{eq-eqb, eqb-true, false_from_ne_true}
use Rattle.nm_io.specs.Held.{GrowsByPrefix}
use Rattle.nm_io.specs.Gathered.{Gathered, Gathers}
use Rattle.nm_io.proofs.Gathering.{gathered_more, gathered_fails, grows_past}
use Rattle.vale_entry.specs.declared.entry.Span.{Span}
use Rattle.vale_entry.specs.Spans.{single_span, spans_in, spans_of}
use Rattle.vale_entry.specs.Transcript.{span_text, buffers_text, list_text}
use Rattle.vale_strip.specs.Pieces.{behind}
use Rattle.vale_strip.specs.Spans.{IsRun, ArePlaced, AreAdded}
use Rattle.vale_strip.specs.Placed.{Placed}
use Rattle.vale_strip.proofs.Places.{placed-then}
use Rattle.vale_strip.proofs.Runs.{alone-first, first-of-run}
use Rattle.vale_strip.proofs.Strips.{adds, gathers_after, list_text-is}

-- some spans, each behind a comma, are on their way, and those of the rest are not yet
pub record AreWritten (old new : Option (List ℕ)) (p q : List ℕ) (version : ℕ) (numbers rest : List ℕ) (before now : ℕ) : Type 0 where
  pub done : List Span
  pub spans : spans_in version numbers ≡ done ++ spans_in version rest
  pub gathered : Gathered old new p q (flat_map (behind 44 span_text) done)
  pub later : before ≤ now

-- one span more
pub more-written : (old middle new : Option (List ℕ)) (p q r : List ℕ) (version : ℕ) (numbers rest others : List ℕ) (span : Span) (before now after : ℕ)
    → AreWritten old middle p q version numbers rest before now → spans_in version rest ≡ span ∷ spans_in version others
    → Gathered middle new q r (behind 44 span_text span) → now ≤ after → AreWritten old new p r version numbers others before after
more-written old middle new p q r version numbers rest others span before now after w next part later = record {
  done = w.done ++ span ∷ [];
  spans = w.spans ∙ (ap (λ (t : List Span). w.done ++ t) next ∙ sym (append_assoc w.done (span ∷ []) (spans_in version others)));
  gathered = subst (Gathered old new p r) (sym (text w.done span)) (gathered_more old middle new p q r (flat_map (behind 44 span_text) w.done) (behind 44 span_text span) w.gathered part);
  later = omega (arith, w.later, later);
}
  where
    text : (done : List Span) (span : Span) → flat_map (behind 44 span_text) (done ++ span ∷ []) ≡ flat_map (behind 44 span_text) done ++ behind 44 span_text span
    text done span =
        flat_map-append (behind 44 span_text) done (span ∷ []) ∙ ap (λ (t : List ℕ). flat_map (behind 44 span_text) done ++ t) (append-nil (behind 44 span_text span))

-- a span is not written
pub span-fails : (old middle new : Option (List ℕ)) (p q : List ℕ) (version : ℕ) (numbers rest others : List ℕ) (span : Span) (before now : ℕ)
    → AreWritten old middle p q version numbers rest before now → spans_in version rest ≡ span ∷ spans_in version others
    → GrowsByPrefix middle new (q ++ behind 44 span_text span) → GrowsByPrefix old new (p ++ flat_map (behind 44 span_text) (spans_in version numbers))
span-fails old middle new p q version numbers rest others span before now w next part =
    let f = behind 44 span_text in
    let front : List ℕ = flat_map f w.done ++ f span in
    let tail : List ℕ = flat_map f (spans_in version others) in
    let whole : front ++ tail ≡ flat_map f (spans_in version numbers) =
    append_assoc (flat_map f w.done) (f span) tail
    ∙ (sym (flat_map-append f w.done (span ∷ spans_in version others))
    ∙ ap (flat_map f) (ap (λ (t : List Span). w.done ++ t) (sym next) ∙ sym w.spans)) in
    subst (λ (t : List ℕ). GrowsByPrefix old new (p ++ t)) whole
    (grows_past old new p front tail (gathered_fails old middle new p q (flat_map f w.done) (f span) w.gathered part))

-- no numbers
pub no-buffers : (version : ℕ) (numbers : List ℕ) → numbers ≡ [] → 45 ∷ [] ≡ buffers_text version numbers
no-buffers version numbers none = sym (ap (buffers_text version) none ∙ by_version (version == 1))
  where
    by_version : (b : Bool) → list_text (map span_text (if b then map single_span [] else spans_of [])) ≡ 45 ∷ []
    by_version true = refl
    by_version false = refl

-- the first span is not written
pub buffers-fail : (old new : Option (List ℕ)) (p : List ℕ) (version : ℕ) (numbers others : List ℕ) (span : Span) → spans_in version numbers ≡ span ∷ spans_in version others
    → GrowsByPrefix old new (p ++ span_text span) → GrowsByPrefix old new (p ++ buffers_text version numbers)
buffers-fail old new p version numbers others span first part =
    subst (λ (t : List ℕ). GrowsByPrefix old new (p ++ t))
    (sym (list_text-is span_text span (spans_in version others)) ∙ ap (λ (t : List Span). list_text (map span_text t)) (sym first))
    (grows_past old new p (span_text span) (flat_map (behind 44 span_text) (spans_in version others)) part)

-- the first span, and then the others
pub buffers-written : {T E : Type 0} (old middle new : Option (List ℕ)) (p q r : List ℕ) (version : ℕ) (numbers others : List ℕ) (span : Span) (result : Result T E)
    → spans_in version numbers ≡ span ∷ spans_in version others → Gathered old middle p q (span_text span)
    → Gathers middle new q r result (flat_map (behind 44 span_text) (spans_in version others)) → Gathers old new p r result (buffers_text version numbers)
buffers-written old middle new p q r version numbers others span result first one more =
    subst (λ (t : List ℕ). Gathers old new p r result t)
    (sym (list_text-is span_text span (spans_in version others)) ∙ ap (λ (t : List Span). list_text (map span_text t)) (sym first))
    (gathers_after old middle new p q r (span_text span) (flat_map (behind 44 span_text) (spans_in version others)) result one more)

-- many spans more
pub many-written : (old middle new : Option (List ℕ)) (p q r s : List ℕ) (numbers rest others : List ℕ) (before now after : ℕ)
    → AreWritten old middle p q 2 numbers rest before now → Gathered middle new q r [] → AreAdded r s rest others → now ≤ after
    → AreWritten old new p s 2 numbers others before after
many-written old middle new p q r s numbers rest others before now after w room added later =
    let f = behind 44 span_text in
    let both : Gathered old new p s (flat_map f w.done ++ flat_map f added.done) =
    gathered_more old middle new p q s (flat_map f w.done) (flat_map f added.done) w.gathered (adds middle new q r s (flat_map f added.done) room added.added) in
    record {
      done = w.done ++ added.done;
      spans = w.spans ∙ (ap (λ (t : List Span). w.done ++ t) added.spans ∙ sym (append_assoc w.done added.done (spans_in 2 others)));
      gathered = subst (Gathered old new p s) (sym (flat_map-append f w.done added.done)) both;
      later = omega (arith, w.later, later);
    }

-- no room was made for them
pub many-fail : (old middle new : Option (List ℕ)) (p q : List ℕ) (numbers rest : List ℕ) (before now : ℕ)
    → AreWritten old middle p q 2 numbers rest before now → GrowsByPrefix middle new (q ++ []) → GrowsByPrefix old new (p ++ flat_map (behind 44 span_text) (spans_in 2 numbers))
many-fail old middle new p q numbers rest before now w part =
    let f = behind 44 span_text in
    let tail : List ℕ = flat_map f (spans_in 2 rest) in
    let whole : flat_map f w.done ++ tail ≡ flat_map f (spans_in 2 numbers) =
    sym (flat_map-append f w.done (spans_in 2 rest)) ∙ ap (flat_map f) (sym w.spans) in
    subst (λ (t : List ℕ). GrowsByPrefix old new (p ++ t)) whole
    (grows_past old new p (flat_map f w.done) tail (subst (λ (t : List ℕ). GrowsByPrefix old new (p ++ t)) (append-nil (flat_map f w.done)) (gathered_fails old middle new p q (flat_map f w.done) [] w.gathered part)))

-- The same at places of a buffer.

pub first-placed : (a b : List ℕ) (at end : ℕ) (numbers rest : List ℕ) (span : Span) → Placed a b at (behind 44 span_text span) end
    → spans_in 2 numbers ≡ span ∷ spans_in 2 rest → length rest < length numbers → ArePlaced a b at end numbers rest
first-placed a b at end numbers rest span p next fewer = record {
  done = span ∷ [];
  spans = next;
  placed = subst (λ (t : List ℕ). Placed a b at t end) (sym (append-nil (behind 44 span_text span))) p;
  fewer = omega (arith, fewer);
}

-- a number that has not its neighbour behind it
pub alone-placed : {a b : List ℕ} {at end : ℕ} (ns : List ℕ) (k n : ℕ) → k < length ns → get_or ns k 0 ≡ n → (get_or ns (k + 1) 0 ≡ n + 1 → ⊥)
    → Placed a b at (behind 44 decimal n) end → ArePlaced a b at end (drop k ns) (drop (k + 1) ns)
alone-placed {a} {b} {at} {end} ns k n inside is alone p =
    let next : k + 1 ≡ suc k = omega arith in
    let split : drop k ns ≡ n ∷ drop (k + 1) ns = drop-cons ns k 0 inside ∙ (λ i. is i ∷ drop (sym next i) ns) in
    let one : span_text (single_span n) ≡ decimal n = ap (λ (b : Bool). if b then decimal n else decimal n ++ codes "-" ++ decimal n) (eq-eqb n n refl) in
    let lone : get_or (drop (k + 1) ns) 0 0 ≡ n + 1 → ⊥ = λ same. alone (sym (get_or-drop (k + 1) ns 0 0 ∙ ap (λ (j : ℕ). get_or ns j 0) (omega arith)) ∙ same) in
    subst (λ (t : List ℕ). ArePlaced a b at end t (drop (k + 1) ns)) (sym split)
    (first-placed a b at end (n ∷ drop (k + 1) ns) (drop (k + 1) ns) (single_span n)
    (subst (λ (t : List ℕ). Placed a b at (44 ∷ t) end) (sym one) p) (alone-first n (drop (k + 1) ns) lone) (omega arith))

-- and one that has
pub run-placed : {a b c : List ℕ} {at mid end : ℕ} (ns : List ℕ) (k first last next : ℕ) → IsRun (drop k ns) first (next - k) → last ≡ first + (next - k - 1) → k < next → next ≤ length ns → first < last
    → Placed a b at (behind 44 decimal first) mid → Placed b c mid (behind 45 decimal last) end → ArePlaced a c at end (drop k ns) (drop next ns)
run-placed {a} {b} {c} {at} {mid} {end} ns k first last next run is inside within rises p q =
    let apart : (first == last) ≡ false = false_from_ne_true (first == last) (λ e. absurd (omega (arith, eqb-true first last e, rises))) in
    let text : behind 44 decimal first ++ behind 45 decimal last ≡ behind 44 span_text (record { first = first; last = last }) =
    ap (λ (t : List ℕ). 44 ∷ t) (sym (append_assoc (decimal first) (codes "-") (decimal last)))
    ∙ ap (λ (b : Bool). 44 ∷ (if b then decimal first else decimal first ++ codes "-" ++ decimal last)) (sym apart) in
    let there : k + (next - k) ≡ next = omega (arith, inside) in
    let rest : drop (next - k) (drop k ns) ≡ drop next ns = drop-drop (next - k) k ns ∙ ap (λ (j : ℕ). drop j ns) there in
    first-placed a c at end (drop k ns) (drop next ns) (record { first = first; last = last })
    (subst (λ (t : List ℕ). Placed a c at t end) text (placed-then p q))
    (first-of-run 2 (drop k ns) first (next - k) last (λ e. absurd cc) run is ∙ ap (λ (t : List ℕ). record { first = first; last = last } ∷ spans_in 2 t) rest)
    (omega (arith, length-drop k ns, length-drop next ns, inside, within))

-- and those of the rest
pub both-placed : (a b c : List ℕ) (at here end : ℕ) (numbers rest others : List ℕ) → ArePlaced a b at here numbers rest
    → ArePlaced b c here end rest others → ArePlaced a c at end numbers others
both-placed a b c at here end numbers rest others w v =
    let f = behind 44 span_text in
    record {
      done = w.done ++ v.done;
      spans = w.spans ∙ (ap (λ (t : List Span). w.done ++ t) v.spans ∙ sym (append_assoc w.done v.done (spans_in 2 others)));
      placed = subst (λ (t : List ℕ). Placed a c at t end) (sym (flat_map-append f w.done v.done)) (placed-then w.placed v.placed);
      fewer = omega (arith, w.fewer, v.fewer);
    }
