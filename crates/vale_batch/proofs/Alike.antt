-- Frames that are alike teach the table once, and all go where the first one goes.
use Rattle.std.proofs.Common.{ℕ, Bool, not, ◌&&◌, ◌+◌, ◌≡◌, ◌<◌, ◌≤◌, List, [], ◌∷◌, length, get_or, replicate, inl, inr, refl, sym, ◌∙◌, ap, subst, arith}
use Rattle.std.specs.Prelude.{All, Some, if◌then◌else◌, slice_get}
use Rattle.std.proofs.lemmas.Bool.{cases_order}
use Rattle.std.proofs.lemmas.List.Elements.{All-head, All-tail}
use Rattle.std.proofs.lemmas.Option.{get_or_from_slice_get}
use Rattle.nm_frag.proofs.PartLemmas.{slots-one}
use Rattle.nm_types.specs.Frames.{Frame}
use Rattle.nm_types.specs.Parts.{slots_of_length}
use Rattle.nm_types.specs.declared.id.PortId.{PortId}
use Rattle.vale_learn.specs.AddressTable.{Entries, learned, port_of_address}
use Rattle.vale_batch.specs.Addresses.{is_group, is_learnable, is_short, destination_address, source_address}
use Rattle.vale_batch.specs.declared.looking.Destination.{Destination}
use Rattle.vale_batch.specs.declared.looking.Destination.TheVariants.{Short, Others}
use Rattle.vale_batch.specs.declared.looking.Looked.{Looked}
use Rattle.vale_batch.specs.Looking.{destination_found, destination_of, learned_from, learned_of_batch, looked_one, looked_up, looked_up_batch, mac_of, AreAlike, IsAlike, IsOneAlike}
use Rattle.vale_batch.proofs.Following.{taught_once}

-- one frame more is alike
pub alike-more : (other frame : Frame) (frames : List Frame) (i : ℕ) → ((k : ℕ) (d : Frame) → k < i → IsOneAlike other (get_or frames k d))
    → slice_get frames i ≡ Some frame → IsOneAlike other frame → (k : ℕ) (d : Frame) → k < i + 1 → IsOneAlike other (get_or frames k d)
alike-more other frame frames i before here is = λ k d less. elim (cases_order k i) [
  | inl same ↦ subst (IsOneAlike other) (sym (ap (λ (n : ℕ). get_or frames n d) same ∙ get_or_from_slice_get frames i frame d here)) is
  | inr (inl lower) ↦ before k d lower
  | inr (inr higher) ↦ absurd (omega (arith, less, higher))
]

-- a frame teaches what one that is alike teaches, and goes where that goes

abbrev learnable_by : Bool → List ℕ → Bool → Bool
learnable_by short source mark = not short && (not (is_group source) && not mark)

same-learnable : (frame other : Frame) → IsAlike frame other → is_learnable frame ≡ is_learnable other
same-learnable frame other is =
    ap (λ (b : Bool). learnable_by b (source_address frame) frame.no_learn) (is.long ∙ sym is.other_long)
    ∙ (ap (λ (s : List ℕ). learnable_by (is_short other) s frame.no_learn) is.from ∙ ap (λ (b : Bool). learnable_by (is_short other) (source_address other) b) is.mark)

same-learned : (from : PortId) (entries : Entries) (frame other : Frame) → IsAlike frame other → learned_from from entries frame ≡ learned_from from entries other
same-learned from entries frame other is =
    ap (λ (b : Bool). if b then learned entries (mac_of (source_address frame)) from else entries) (same-learnable frame other is)
    ∙ ap (λ (s : List ℕ). if is_learnable other then learned entries (mac_of s) from else entries) is.from

abbrev destination_by : PortId → Entries → Bool → List ℕ → Destination
destination_by from entries short address = if short then Short else (if is_group address then Others else destination_found from (port_of_address entries address))

same-destination : (from : PortId) (entries : Entries) (frame other : Frame) → IsAlike frame other → destination_of from entries frame ≡ destination_of from entries other
same-destination from entries frame other is =
    ap (λ (b : Bool). destination_by from entries b (destination_address frame)) (is.long ∙ sym is.other_long)
    ∙ ap (λ (a : List ℕ). destination_by from entries (is_short other) a) is.to

abbrev looked_of : Destination → ℕ → Looked
looked_of to size = record { destination = to; size = size }

same-looked : (from : PortId) (entries : Entries) (other frame : Frame) → IsOneAlike other frame → looked_up from entries frame ≡ looked_one (destination_of from entries other)
same-looked from entries other frame is =
    ap (λ (to : Destination). looked_of to (slots_of_length (length frame.bytes))) (same-destination from entries frame other is.alike)
    ∙ ap (looked_of (destination_of from entries other)) (slots-one (length frame.bytes) is.one)

-- so do all frames

module _ (from : PortId) (first : Frame) where
  looked-alike : (entries now : Entries) (frames : List Frame) → learned_from from entries first ≡ now → learned_from from now first ≡ now → All (IsOneAlike first) frames
      → looked_up_batch from entries frames ≡ replicate (length frames) (looked_one (destination_of from now first))
  looked-alike entries now [] taught known all = refl
  looked-alike entries now (f ∷ fs) taught known all =
      let is = All-head (IsOneAlike first) f fs all in
      let after : learned_from from entries f ≡ now = same-learned from entries f first is.alike ∙ taught in
      let rest = looked-alike now now fs known known (All-tail (IsOneAlike first) f fs all) in
      ap (λ (t : Entries). looked_up from t f ∷ looked_up_batch from t fs) after
      ∙ (ap (λ (l : Looked). l ∷ looked_up_batch from now fs) (same-looked from now first f is)
      ∙ ap (λ (ls : List Looked). looked_one (destination_of from now first) ∷ ls) rest)

  stays-learned : (now : Entries) (frames : List Frame) → learned_from from now first ≡ now → All (IsOneAlike first) frames → learned_of_batch from now frames ≡ now
  stays-learned now [] known all = refl
  stays-learned now (f ∷ fs) known all =
      let is = All-head (IsOneAlike first) f fs all in
      let after : learned_from from now f ≡ now = same-learned from now f first is.alike ∙ known in
      ap (λ (t : Entries). learned_of_batch from t fs) after ∙ stays-learned now fs known (All-tail (IsOneAlike first) f fs all)

  learned-alike : (entries now : Entries) (frames : List Frame) → 1 ≤ length frames → learned_from from entries first ≡ now → learned_from from now first ≡ now → All (IsOneAlike first) frames
      → learned_of_batch from entries frames ≡ now
  learned-alike entries now [] some taught known all = absurd (omega (arith, some))
  learned-alike entries now (f ∷ fs) some taught known all =
      let is = All-head (IsOneAlike first) f fs all in
      let after : learned_from from entries f ≡ now = same-learned from entries f first is.alike ∙ taught in
      ap (λ (t : Entries). learned_of_batch from t fs) after ∙ stays-learned now fs known (All-tail (IsOneAlike first) f fs all)

  -- what the first one teaches and where it goes tells all
  pub record Leads (entries now : Entries) (frames : List Frame) : Type 0 where
    pub table : now ≡ learned_of_batch from entries frames
    pub all : replicate (length frames) (looked_one (destination_of from now first)) ≡ looked_up_batch from entries frames

  pub leads : (entries now : Entries) (frames : List Frame) → AreAlike frames → slice_get frames 0 ≡ Some first → now ≡ learned_from from entries first → Leads entries now frames
  leads entries now frames are here taught =
      let known : learned_from from now first ≡ now =
      ap (λ (t : Entries). learned_from from t first) taught ∙ (taught_once from entries first ∙ sym taught) in
      let each = are.each first here in
      record {
        table = sym (learned-alike entries now frames are.some (sym taught) known each);
        all = sym (looked-alike entries now frames (sym taught) known each);
      }

pub ruleset more = (alike-more)
