-- What the walks share. Assumes `Logic`.
use Rattle.std.proofs.Common.{◌≡◌, ℕ, zero, suc, List, [], ◌∷◌, refl}
use seplogic.Ra.Ura.{Ura}
use mir.Val.{Val, vstruct, vcons, vnil}
use base.Logic.{SProp}
use types.Logic.{Logic}
use types.Kit.{Goal, Seq, Step, step, Item, ‵, ◌$◌, move, drop, fsplit, fjoin, fpick, fpack, feq_l, feq_i}
use denote.Builtin.{unit}
use denote.RattleType.{RattleType, Valss}
use denote.Param.Laws.{Laws}
use denote.Signature.{Slot, plain}
use denote.Steps.{nothing}
use denote.Triple.Clauses.{Ended, Clauses}
use denote.Triple.End.{Kepts}
use denote.Triple.Walked.{Stays, stay_dropped, walk_of}
use denote.Struct.Struct.{within}
use Rattle.nm_reach.specs.Cells.{stands, values_at}
use Rattle.nm_reach.proofs.Lodging.{Good, plainly, tells}
use Rattle.nm_reach.specs.contracts.parts.Spot as Spot
use Rattle.nm_reach.specs.contracts.parts.Values as Values

abbrev pub slot_at : {n : ℕ} → ℕ → List (Slot n) → Slot n
slot_at k [] = plain (λ _. unit)
slot_at zero (s ∷ ss) = s
slot_at (suc k) (s ∷ ss) = slot_at k ss

-- nothing is had of what was passed, at the end
abbrev all_go : {n : ℕ} (ss : List (Slot n)) (ks : Kepts ss) → Stays ss ks
all_go [] ks = tt
all_go (s ∷ ss) ks = (stay_dropped s ks.0, all_go ss ks.1)

abbrev pub stays : (E : Ended) → Stays E.signature.params E.kept
stays E = all_go E.signature.params E.kept

abbrev pub at_end : {M : Type 1} {𝓤 : Ura M} (𝓛 : Logic 𝓤) (E : Ended) (c : Clauses 𝓤 E) → (walk_of 𝓛 E (stays E) c).Ghost → Val → SProp 𝓤
at_end 𝓛 E c z = (walk_of 𝓛 E (stays E) c).post z

abbrev pub none : Val
none = vstruct vnil

abbrev pub one : Val → Val
one u = vstruct (vcons u vnil)

-- a spot and values as the machine has them
abbrev pub spot_val : Val
spot_val = one none

abbrev pub values_val : Val
values_val = one spot_val

module _ {M : Type 1} {𝓤 : Ura M} {𝓛 : Logic 𝓤} {K : Type 0} {Γ : List (Item 𝓤)} {G : Goal 𝓤 𝓛.H} where
  pub none_made : K → Step K 𝓛 (‵ ((plainly []).own_val tt (none ∷ [])) ∷ Γ) G Γ G
  none_made t = step (λ s.
      nothing t $ feq_i t (List Val) (none ∷ []) (none ∷ []) refl $ fjoin t $
      fpack t (Valss []) (within (record { name = []; args = []; types = []; fields = [] }) tt (none ∷ [])) tt $ s)

  pub none_had : K → (vs : List Val) → (vs ≡ none ∷ [] → Seq K 𝓛 Γ G) → Seq K 𝓛 (‵ ((plainly []).own_val tt vs) ∷ Γ) G
  none_had t vs k = fpick t (λ vss. fsplit t $ feq_l t (λ e. drop t $ k e))

  pub one_made : K → (R : RattleType) (x : R.Denot) (u : Val) → Step K 𝓛 (‵ ((plainly (R ∷ [])).own_val (x, tt) (one u ∷ [])) ∷ Γ) G (‵ (R.own_val x (u ∷ [])) ∷ Γ) G
  one_made t R x u = step (λ s.
      nothing t $ move t (1 ∷ 0 ∷ []) $ fjoin t $ feq_i t (List Val) (one u ∷ []) (one u ∷ []) refl $ fjoin t $
      fpack t (Valss (R ∷ [])) (within (record { name = []; args = []; types = []; fields = R ∷ [] }) (x, tt) (one u ∷ [])) (u ∷ [], tt) $ s)

module _ {M : Type 1} {𝓤 : Ura M} {𝓛 : Logic 𝓤} {K : Type 0} {Γ : List (Item 𝓤)} {G : Goal 𝓤 𝓛.H} where
  -- a struct of one field, taken apart
  pub one_had : K → (R : RattleType) → Laws R → (x : R.Denot) (vs : List Val) → ((u : Val) → vs ≡ one u ∷ [] → Good R u → Seq K 𝓛 (‵ (R.own_val x (u ∷ [])) ∷ Γ) G)
      → Seq K 𝓛 (‵ ((plainly (R ∷ [])).own_val (x, tt) vs) ∷ Γ) G
  one_had t R L x vs k =
      fpick t (λ vss. fsplit t $ feq_l t (λ e. fsplit t $ move t (1 ∷ []) $ drop t $ tells t R L x vss.0 (λ u is good.
      k u (rw is at e) good)))

  pub spot_had : K → (R : RattleType) (x : (Spot.the_row R).Denot) (vs : List Val) → (vs ≡ spot_val ∷ [] → Seq K 𝓛 (‵ (stands R x.base x.size x.at x.ptr) ∷ Γ) G)
      → Seq K 𝓛 (‵ ((Spot.the_row R).own_val x vs) ∷ Γ) G
  spot_had t R x vs k =
      fsplit t $ fpick t (λ vss. fsplit t $ feq_l t (λ e. fsplit t $ none_had t vss.0 (λ is. drop t $ k (rw is at e))))

  pub spot_made : K → (R : RattleType) (x : (Spot.the_row R).Denot) → Step K 𝓛 (‵ ((Spot.the_row R).own_val x (spot_val ∷ [])) ∷ Γ) G (‵ (stands R x.base x.size x.at x.ptr) ∷ Γ) G
  spot_made t R x = step (λ s. none_made t $ one_made t (plainly []) tt none $ fjoin t $ s)

module _ {M : Type 1} {𝓤 : Ura M} {𝓛 : Logic 𝓤} {K : Type 0} {Γ : List (Item 𝓤)} {G : Goal 𝓤 𝓛.H} where
  -- [the spot; the values]
  pub values_had : K → (R : RattleType) (x : (Values.the_row R).Denot) (vs : List Val)
      → (vs ≡ values_val ∷ [] → Seq K 𝓛 (‵ (stands R x.spot.base x.spot.size x.spot.at x.spot.ptr) ∷ ‵ (values_at R x.spot.ptr x.items) ∷ Γ) G)
      → Seq K 𝓛 (‵ ((Values.the_row R).own_val x vs) ∷ Γ) G
  values_had t R x vs k =
      fsplit t $ fpick t (λ vss. fsplit t $ feq_l t (λ e. fsplit t $ spot_had t R x.spot vss.0 (λ is. move t (1 ∷ []) $ drop t $ k (rw is at e))))

  pub values_made : K → (R : RattleType) (x : (Values.the_row R).Denot)
      → Step K 𝓛 (‵ ((Values.the_row R).own_val x (values_val ∷ [])) ∷ Γ) G (‵ (stands R x.spot.base x.spot.size x.spot.at x.spot.ptr) ∷ ‵ (values_at R x.spot.ptr x.items) ∷ Γ) G
  values_made t R x = step (λ s. spot_made t R x.spot $ one_made t (Spot.the_row R) x.spot spot_val $ fjoin t $ s)
