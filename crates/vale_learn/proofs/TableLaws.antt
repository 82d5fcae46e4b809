-- What a table answers after it has learned and forgotten.
use Rattle.std.proofs.Common.{ℕ, zero, suc, true, List, ◌≡◌, ◌<◌, inl, inr, Option, Some, None, length, replicate, set, get_or, refl, sym, ◌∙◌, ap, arith, ◌==◌}
use Rattle.std.specs.Prelude.{bytes_eq}
use Rattle.std.proofs.lemmas.Bool.{cases_Bool, eqb-true, eqb-false}
use Rattle.std.proofs.lemmas.Slice.Eq.{bytes_eq-Decides}
use Rattle.std.proofs.lemmas.List.{get_or-set_other, set-get_or, set-set}
use Rattle.std.proofs.lemmas.Grind.{get_or-set_at}
use Rattle.std.proofs.Math.ListN.{get_or-map}
use Rattle.nm_types.specs.Limits.{buckets}
use Rattle.nm_types.specs.declared.id.Mac.{Mac}
use Rattle.nm_types.specs.declared.id.PortId.{PortId}
use Rattle.vale_learn.specs.declared.table.Station.{Station}
use Rattle.vale_learn.specs.AddressTable.{Entries, bucket_of, entry_of, port_if_address, without_port}
use Rattle.vale_learn.specs.Laws.{FoundWhereHeld, NoneFoundAtFirst, LearningReplaces, RestoringUndoesLearning, ForgettingBringsNothingBack, unless_port}

abbrev station : Mac → PortId → Station
station address port = record { address = address; port = port }

same_mac : (a b : Mac) → a.0 ≡ b.0 → a ≡ b
same_mac a b e = ap (λ (bytes : List ℕ). mac bytes) e
  where
    mac : List ℕ → Mac
    mac bytes = record { 0 = bytes }

found_held : (entry : Option Station) (address : Mac) (port : PortId) → port_if_address address.0 entry ≡ Some port → entry ≡ Some (station address port)
found_held None address port found = absurd (let wrong : None ≡ Some port = found in cc)
found_held (Some seen) address port found = elim (cases_Bool (bytes_eq seen.address.0 address.0)) [
  | inl same ↦
      let bytes : seen.address.0 ≡ address.0 = (bytes_eq-Decides seen.address.0 address.0).0 same in
      let is_address : seen.address ≡ address = same_mac seen.address address bytes in
      let told : Some seen.port ≡ Some port = rw same at found in
      let is_port : seen.port ≡ port = cc in
      ap (λ (a : Mac). Some (station a seen.port)) is_address ∙ ap (λ (p : PortId). Some (station address p)) is_port
  | inr other ↦ absurd (let wrong : None ≡ Some port = rw other at found in cc)
]

held_found : (entry : Option Station) (address : Mac) (port : PortId) → entry ≡ Some (station address port) → port_if_address address.0 entry ≡ Some port
held_found entry address port held =
    let same : bytes_eq address.0 address.0 ≡ true = (bytes_eq-Decides address.0 address.0).1 refl in
    ap (port_if_address address.0) held ∙ rw same refl

pub found_where_held : FoundWhereHeld
found_where_held entries address port = (found_held (entry_of entries address.0) address port, held_found (entry_of entries address.0) address port)

nothing_at : {X : Type 0} (x : X) (n i : ℕ) → get_or (replicate n x) i x ≡ x
nothing_at x zero i = refl
nothing_at x (suc n) zero = refl
nothing_at x (suc n) (suc i) = nothing_at x n i

abbrev nothing : Option Station
nothing = None

pub none_found_at_first : NoneFoundAtFirst
none_found_at_first address = ap (port_if_address address) (nothing_at nothing buckets (bucket_of address))

same_entry : (entries : Entries) (seen : Option Station) (i j : ℕ) → i < length entries → i ≡ j → get_or (set entries i seen) j None ≡ seen
same_entry entries seen i j within same = get_or-set_at entries i j seen None (sym same) within

pub learning_replaces : LearningReplaces
learning_replaces entries learned_address port address size =
    let at = bucket_of learned_address.0 in
    let within : bucket_of learned_address.0 < length entries = omega arith in
    elim (cases_Bool (bytes_eq learned_address.0 address)) [
      | inl same ↦
          let is_address : learned_address.0 ≡ address = (bytes_eq-Decides learned_address.0 address).0 same in
          let entry = same_entry entries (Some (station learned_address port)) (bucket_of learned_address.0) (bucket_of address) within (ap bucket_of is_address) in
          ap (port_if_address address) entry ∙ rw same refl
      | inr other ↦ elim (cases_Bool (bucket_of learned_address.0 == bucket_of address)) [
        | inl shared ↦
            let same : bucket_of learned_address.0 ≡ bucket_of address = eqb-true (bucket_of learned_address.0) (bucket_of address) shared in
            let entry = same_entry entries (Some (station learned_address port)) (bucket_of learned_address.0) (bucket_of address) within same in
            ap (port_if_address address) entry ∙ rw (other, shared) refl
        | inr apart ↦
            let differ = eqb-false (bucket_of learned_address.0) (bucket_of address) apart in
            let entry = get_or-set_other entries (bucket_of learned_address.0) (bucket_of address) (Some (station learned_address port)) None (λ same. differ (sym same)) in
            ap (port_if_address address) entry ∙ rw (other, apart) refl
      ]
    ]

pub restoring_undoes_learning : RestoringUndoesLearning
restoring_undoes_learning entries address port size =
    let at = bucket_of address.0 in
    set-set entries at (Some (station address port)) (entry_of entries address.0) ∙ set-get_or entries at None

forgotten_entry : (entry : Option Station) (port : PortId) (address : List ℕ) → port_if_address address (without_port port entry) ≡ unless_port port (port_if_address address entry)
forgotten_entry None port address = refl
forgotten_entry (Some seen) port address = elim (cases_Bool (seen.port.0 == port.0)) [
  | inl gone ↦ elim (cases_Bool (bytes_eq seen.address.0 address)) [
    | inl same ↦ rw (gone, same, gone) refl
    | inr other ↦ rw (gone, other) refl
  ]
  | inr stays ↦ elim (cases_Bool (bytes_eq seen.address.0 address)) [
    | inl same ↦ rw (stays, same, stays) refl
    | inr other ↦ rw (stays, other) refl
  ]
]

pub forgetting_brings_nothing_back : ForgettingBringsNothingBack
forgetting_brings_nothing_back entries port address =
    ap (port_if_address address) (get_or-map (without_port port) entries (bucket_of address) None)
    ∙ forgotten_entry (entry_of entries address) port address

pub ruleset table_laws = (found_where_held, none_found_at_first, learning_replaces, restoring_undoes_learning, forgetting_brings_nothing_back)
