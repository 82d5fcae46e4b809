-- `lodge` and `dislodge` at a call, for room of c bytes, and that two parts lie apart.
-- Assumes `Logic`, and `apart` a `Model` too.
use Rattle.std.proofs.Common.{◌≡◌, ◌≢◌, ℕ, ◌+◌, ◌-◌, ◌*◌, ◌^◌, ◌<◌, ◌≤◌, List, [], ◌∷◌, length, true, nat_eq, inl, inr, refl, sym, ap, ◌∙◌, arith, lit<, Vec}
use Rattle.std.specs.Prelude.{◌⊎◌}
use Rattle.std.proofs.lemmas.Bool.{cases_Bool, ne_eqb, not_from_false}
use Rattle.std.proofs.lemmas.Bool.Decides.{nat_tests}
use native.Mathlib.Nat.{add-zero}
use seplogic.Ra.Ura.{Ura}
use mir.Syntax.{w8, w64, ty_int}
use mir.Val.{Val, vint, vptr}
use base.Fraction.{full_share}
use base.Logic.{SProp, ent, sep, ex, guard, emp, via, never, never_e, id⊢}
use base.Fml.{Fml, ftrue, fsep, feq, flft, fat, froom}
use prog.Memory.{Memory}
use prog.Model.{Model}
use prog.Routine.{Routine}
use contract.Monad.{Fun, fact, fact_i}
use contract.BorrowLft.{◌⊑◌, ⊑_refl}
use types.Logic.{Logic, sem}
use types.Kit.{‵, raw, ◌⊛◌, some, later, ◌$◌, ◌∵◌, !, qed, by, move, keep, use0, use1, use2, drop, split, split3, join, pick, fsplit, fsplit3, fjoin, fjoin3, feq_l, feq_i, flt_l, flt_i, rewrite, check, show, await, updating, now, done}
use denote.Exit.{no, left}
use denote.RattleType.{RattleType}
use denote.Builtin.{u8, usize}
use denote.Array.{Array}
use denote.ArrayMemory.{Array-apart, Array-whole}
use denote.Index.{row}
use denote.Memory.{part_at}
use denote.Plain.{uint_out}
use denote.Param.{param}
use denote.Param.Laws.{Laws, of_field}
use denote.Param.Shared.{copy_shared}
use denote.RawPtr.{Ptr, block_ptr, null_ptr, block_of, count_of, lies_at, in_block, in_a_block}
use denote.RawPtr.Room.{past, past_bytes, room_glue}
use denote.Steps.{only, nothing, heard}
use denote.Struct.Field.{u8-field}
use denote.Struct.Laws.{u8-laws, u8-copy}
use denote.Triple.Spec.{triple_of}
use denote.Triple.Statement.{Contract}
use Rattle.std.specs.Allocator.{block_with_items}
use Rattle.std_alloc.specs.Vec.Ownership.{lodged, owns_if, has_block}
use Rattle.std_alloc.specs.declared.vec.lodged.Lodged.{Lodged}
use Rattle.std_alloc.specs.contracts.vec.Vec as V
use Rattle.std_alloc.specs.contracts.vec.lodged.Lodged as L
use Rattle.std_alloc.specs.contracts.vec.lodged.LodgedAllocator.TheImpl.{ghosts}
use Rattle.std_alloc.specs.contracts.vec.lodge as LG
use Rattle.std_alloc.specs.contracts.vec.lodged.Vec+T+Lodged.dislodge as DL
use Rattle.std_alloc.proofs.vec.Vec.TheLaws as vec_laws
use Rattle.std_alloc.proofs.vec.lodged.Lodged.TheLaws as lodged-laws
use Rattle.nm_region.specs.Parts.{bytes_of}
use Rattle.nm_region.specs.contracts.part.Part as P

abbrev pub byte_laws : Laws u8
byte_laws = of_field u8-field u8-laws refl (copy_shared u8-field u8-copy)

abbrev pub Housed : RattleType
Housed = V.the_row u8 L.the_row ghosts

abbrev pub housed-laws : Laws Housed
housed-laws = vec_laws.the_row_laws u8 L.the_row ghosts byte_laws lodged-laws.the_row_laws

-- the memory of a vector, which it has unless the capacity is 0
abbrev pub memory : Ptr → ℕ → ℕ → List ℕ → Fml
memory p n c xs = in_block p (owns_if (has_block c) (block_with_items (λ _ _. ftrue) u8 p n c xs))

live : (c : ℕ) → 0 < c → has_block c ≡ true
live c h = not_from_false _ (ne_eqb c 0 (λ e. omega arith))

module _ {M : Type 1} {𝓤 : Ura M} (𝓛 : Logic 𝓤) where
  open 𝓛 use {H}

  -- no byte needs no memory
  none_lie : (b o : ℕ) → ent 𝓤 (emp 𝓤) (sem 𝓛 (part_at (Array u8 0) full_share [] b o))
  none_lie b o = qed 𝓛 [] ∵ nothing ! $ feq_i ! ℕ (length {A = ℕ} []) 0 refl $ fjoin ! $ by ! (Array-whole 𝓛 u8 full_share 0 [] b o)

  -- bytes are room for as many
  bytes_room : (xs : List ℕ) (b o : ℕ) → ent 𝓤 (sem 𝓛 (row u8 full_share xs b o)) (H.room (bytes_of (length xs)) b o)
  bytes_room [] b o = 𝓛.laws.room_nil (ty_int w8) b o
  bytes_room (x ∷ xs) b o =
      qed 𝓛 (‵ (fsep (part_at u8 full_share x b o) (row u8 full_share xs b (o + 1))) ∷ []) ∵ fsplit ! $
      use1 𝓛 (‵ (fat full_share (ty_int w8) b o (vint w8 x))) (uint_out 𝓛 full_share w8 x b o) $ use1 𝓛 (‵ (froom (ty_int w8) b o)) (𝓛.laws.at_room (ty_int w8) b o (vint w8 x)) $ move ! (1 ∷ []) $
      use1 𝓛 (‵ (froom (bytes_of (length xs)) b (o + 1))) (bytes_room xs b (o + 1)) $ move ! (1 ∷ []) $ by ! (𝓛.laws.room_cons (ty_int w8) (length xs) b o)

  -- bytes, with the room behind them
  all_room : (b o n c : ℕ) (xs : List ℕ) → n ≤ c
      → ent 𝓤 (sem 𝓛 (fsep (part_at (Array u8 n) full_share xs b o) (froom (bytes_of (c - n)) b (o + n * 1)))) (H.room (bytes_of c) b o)
  all_room b o n c xs le =
      let far : o + n * 1 ≡ past (ty_int w8) n o = ap (λ (j : ℕ). o + j) (omega arith) ∙ sym (past_bytes n o) in
      let sum : n + (c - n) ≡ c = omega arith in
      qed 𝓛 (‵ (fsep (part_at (Array u8 n) full_share xs b o) (froom (bytes_of (c - n)) b (o + n * 1))) ∷ []) ∵ fsplit ! $
      use1 𝓛 (‵ (fsep (feq ℕ (length xs) n) (row u8 full_share xs b o))) (Array-apart 𝓛 u8 full_share tt n xs b o) $ fsplit ! $ feq_l ! (λ l.
      use1 𝓛 (‵ (froom (bytes_of (length xs)) b o)) (bytes_room xs b o) $ rewrite ! 0 (λ (k : ℕ). ‵ (froom (bytes_of k) b o)) l refl $
      rewrite ! 1 (λ (k : ℕ). ‵ (froom (bytes_of (c - n)) b k)) far refl $
      use2 𝓛 (‵ (froom (bytes_of (n + (c - n))) b o)) (room_glue 𝓛 (ty_int w8) n (c - n) b o) $
      rewrite ! 0 (λ (k : ℕ). ‵ (froom (bytes_of k) b o)) sum refl $ done !)

  -- whatever is written there, a vector's memory is room
  pub memory_room : (b o n c : ℕ) (xs : List ℕ) → n ≤ c → 0 < c → ent 𝓤 (sem 𝓛 (memory (block_ptr b o) n c xs)) (H.room (bytes_of c) b o)
  memory_room b o n c xs le filled =
      qed 𝓛 (‵ (memory (block_ptr b o) n c xs) ∷ []) ∵
      rewrite ! 0 (λ y. ‵ (owns_if y (block_with_items (λ _ _. ftrue) u8 (block_ptr b o) n c xs))) (live c filled) refl $
      fsplit3 ! $ keep ! (0 ∷ 1 ∷ []) $ fjoin ! $ by ! (all_room b o n c xs le)

  -- nothing lies at null
  pub nowhere : (n c : ℕ) (xs : List ℕ) → ent 𝓤 (sem 𝓛 (lodged u8 null_ptr n c xs)) (never 𝓤)
  nowhere n c xs = qed 𝓛 (‵ (lodged u8 null_ptr n c xs) ∷ []) ∵ fsplit ! $ drop ! $ by ! (id⊢ 𝓤 (never 𝓤))

  -- room is memory of which nothing is written
  pub unwritten : (b o c : ℕ) → 0 < c → c < 2 ^ 63 → ent 𝓤 (H.room (bytes_of c) b o) (sem 𝓛 (lodged u8 (block_ptr b o) 0 c []))
  unwritten b o c filled small =
      let p = block_ptr b o in
      let all : c ≡ c - 0 = omega arith in
      let here : o ≡ o + 0 * 1 = sym (add-zero o) in
      qed 𝓛 (‵ (froom (bytes_of c) b o) ∷ []) ∵ rewrite ! 0 (λ (k : ℕ). ‵ (froom (bytes_of k) b o)) all refl $ rewrite ! 0 (λ (j : ℕ). ‵ (froom (bytes_of (c - 0)) b j)) here refl $
      nothing ! $ use0 𝓛 (‵ (lies_at (Array u8 0) full_share p [])) (none_lie b o) $ move ! (0 ∷ 2 ∷ 1 ∷ []) $ fjoin3 ! $
      rewrite ! 0 (λ y. ‵ (owns_if y (block_with_items (λ _ _. ftrue) u8 p 0 c []))) (sym (live c filled)) refl $ flt_i ! (c * 1) (2 ^ 63) (omega arith) $ fjoin ! $ done !

module _ {M : Type 1} {𝓤 : Ura M} (𝓛 : Logic 𝓤) (at_mem : Memory → SProp 𝓤) (run : Routine → Fun 𝓤) where
  open 𝓛 use {H}

  abbrev pub Lodges : Contract 𝓤
  Lodges = triple_of 𝓛 (LG.signature u8) (LG.spec u8 𝓛 at_mem run)

  abbrev pub Dislodges : Contract 𝓤
  Dislodges = triple_of 𝓛 (DL.signature u8) (DL.spec u8 𝓛 at_mem run)

  module _ (b o c : ℕ) where
    abbrev pub at_lodge : Lodges.Ghost
    at_lodge = ((([], tt), (full_share, tt), tt, (block_ptr b o, (0, (c, tt))), (vptr b o ∷ [], (vint w64 0 ∷ [], (vint w64 c ∷ [], tt)))), [])

    abbrev pub IsLodged : Vec ℕ Lodged → Type 0
    IsLodged r = (r.items ≡ []) × (r.len ≡ 0) × (r.cap ≡ c) × (r.ptr ≡ block_ptr b o)

    pub lodge_goes : 0 < c → c < 2 ^ 63 → ent 𝓤 (sem 𝓛 (lodged u8 (block_ptr b o) 0 c [])) (Lodges.pre at_lodge)
    lodge_goes filled small =
        let Asked : Type 0 = (0 ≡ length {A = ℕ} []) × (0 ≤ c) × (c < 2 ^ 63) in
        qed 𝓛 (‵ (lodged u8 (block_ptr b o) 0 c []) ∷ []) ∵
        use0 𝓛 (raw (fact 𝓤 Asked)) (fact_i 𝓤 Asked (emp 𝓤) (refl, omega arith, small)) $ join ! $
        use0 𝓛 (raw (fact 𝓤 ([] ⊑ []))) (fact_i 𝓤 ([] ⊑ []) (emp 𝓤) (⊑_refl [])) $ join ! $
        nothing ! $ flt_i ! c (2 ^ 64) (omega arith) $ feq_i ! (List Val) (vint w64 c ∷ []) (vint w64 c ∷ []) refl $ fjoin ! $ fjoin ! $
        flt_i ! 0 (2 ^ 64) (omega arith) $ feq_i ! (List Val) (vint w64 0 ∷ []) (vint w64 0 ∷ []) refl $ fjoin ! $ fjoin ! $
        feq_i ! (List Val) (vptr b o ∷ []) (vptr b o ∷ []) refl $ fjoin ! $ nothing ! $ use0 𝓛 (‵ (flft [] full_share)) (𝓛.lfts.lft-nil full_share) $ join ! $ join ! $ done !

    pub lodge_gives : (v : Val) → ent 𝓤 (Lodges.post at_lodge v) (H.⇛ (ex 𝓤 (λ (r : Vec ℕ Lodged). guard 𝓤 (IsLodged r) (sem 𝓛 (Housed.own_val r (v ∷ []))))))
    lodge_gives v =
        qed 𝓛 (raw (Lodges.post at_lodge v) ∷ []) ∵ updating ! $
        use1 𝓛 (later (some (λ (r : Vec ℕ Lodged). ((‵ (flft [] full_share) ⊛ ‵ ftrue) ⊛ ‵ (Housed.own_val r (v ∷ [])))
        ⊛ some (λ (ws : Unit {0} × (Unit {0} × (Unit {0} × Unit {0}))). ‵ (fsep ftrue (fsep ftrue (fsep ftrue ftrue))) ⊛ raw (fact 𝓤 (IsLodged r)))))) (id⊢ 𝓤 _) $ await ! tt $ pick ! (λ r.
        split ! $ move ! (1 ∷ []) $ pick ! (λ ws. split ! $ drop ! $ heard ! (IsLodged r) (λ is. split ! $ drop ! $ now ! $
        show ! (λ (z : Vec ℕ Lodged). guard 𝓤 (IsLodged z) (sem 𝓛 (Housed.own_val z (v ∷ [])))) r $ check ! is $ done !)))

  module _ (d : Vec ℕ Lodged) (u : Val) where
    abbrev pub at_dislodge : Dislodges.Ghost
    at_dislodge = ((([], tt), (full_share, tt), tt, (d, tt), (u ∷ [], tt)), tt)

    pub dislodge_goes : ent 𝓤 (sem 𝓛 (Housed.own_val d (u ∷ []))) (Dislodges.pre at_dislodge)
    dislodge_goes =
        qed 𝓛 (‵ (Housed.own_val d (u ∷ [])) ∷ []) ∵ nothing ! $ use0 𝓛 (raw (fact 𝓤 ([] ⊑ []))) (fact_i 𝓤 ([] ⊑ []) (emp 𝓤) (⊑_refl [])) $ join ! $
        nothing ! $ move ! (2 ∷ 0 ∷ []) $ fjoin ! $ nothing ! $ use0 𝓛 (‵ (flft [] full_share)) (𝓛.lfts.lft-nil full_share) $ join ! $ join ! $ done !

    pub dislodge_gives : (v : Val) → ent 𝓤 (Dislodges.post at_dislodge v) (H.⇛ (guard 𝓤 ((v ≡ vint w64 d.len) × (d.len < 2 ^ 64)) (sem 𝓛 (lodged u8 d.ptr d.len d.cap d.items))))
    dislodge_gives v =
        qed 𝓛 (raw (Dislodges.post at_dislodge v) ∷ []) ∵ updating ! $
        use1 𝓛 (later (some (λ (r : ℕ). ((‵ (flft [] full_share) ⊛ ‵ ftrue) ⊛ ‵ (usize.own_val r (v ∷ [])))
        ⊛ some (λ (ws : Unit {0} × Unit {0}). ‵ (fsep (left ((V.the_row (param 0 u8) L.the_row ghosts).exit no) d ws.0) ftrue) ⊛ raw (fact 𝓤 (r ≡ d.len)) ⊛ ‵ (lodged u8 d.ptr d.len d.cap d.items))))) (id⊢ 𝓤 _) $ await ! tt $ pick ! (λ r.
        split ! $ move ! (1 ∷ []) $ pick ! (λ ws. split3 ! $ drop ! $ heard ! (r ≡ d.len) (λ is. move ! (1 ∷ []) $ split ! $ drop ! $ fsplit ! $ feq_l ! (λ e. flt_l ! (λ f. now ! $
        check ! (ap only e ∙ ap (vint w64) is, omega arith) $ done !)))))

same_or_not : (p q : Ptr) → (p ≡ q) ⊎ (p ≢ q)
same_or_not (block_ptr b o) (block_ptr b' o') = elim (cases_Bool (nat_eq b b')) [
  | inl e ↦ elim (cases_Bool (nat_eq o o')) [
    | inl f ↦ (let here : b ≡ b' = grind (arith, nat_tests) in let there : o ≡ o' = grind (arith, nat_tests) in inl (λ i. block_ptr (here i) (there i)))
    | inr f ↦ (let there : o ≢ o' = grind (arith, nat_tests) in inr (λ s. there (ap count_of s)))
  ]
  | inr e ↦ (let here : b ≢ b' = grind (arith, nat_tests) in inr (λ s. here (ap block_of s)))
]
same_or_not (block_ptr b o) null_ptr = inr (λ s. cc)
same_or_not null_ptr (block_ptr b o) = inr (λ s. cc)
same_or_not null_ptr null_ptr = inl refl

module _ {M : Type 1} {𝓤 : Ura M} (𝓛 : Logic 𝓤) (𝓜 : Model 𝓤 𝓛.H) (d e : P.the_row.Denot) (us vs : List Val) (few : length d.items ≤ 2048) (few' : length e.items ≤ 2048) where
  abbrev Two : SProp 𝓤
  Two = sep 𝓤 (sem 𝓛 (P.the_row.own_val d us)) (sem 𝓛 (P.the_row.own_val e vs))

  -- no byte is room of two
  clash : d.at ≡ e.at → ent 𝓤 Two (never 𝓤)
  clash same =
      let n = length d.items in
      let m = length e.items in
      qed 𝓛 (‵ (P.the_row.own_val d us) ∷ ‵ (P.the_row.own_val e vs) ∷ []) ∵ fsplit ! $ drop ! $ fsplit ! $ drop ! $
      in_a_block ! d.at (λ p. memory p n 2048 d.items) (id⊢ 𝓤 (never 𝓤)) (λ b o at.
      use1 𝓛 (‵ (froom (bytes_of 2048) b o)) (memory_room 𝓛 b o n 2048 d.items few (lit< tt)) $ move ! (1 ∷ []) $ fsplit ! $ drop ! $ fsplit ! $ drop ! $
      rewrite ! 0 (λ (p : Ptr). ‵ (memory p m 2048 e.items)) (sym same ∙ at) refl $
      use1 𝓛 (‵ (froom (bytes_of 2048) b o)) (memory_room 𝓛 b o m 2048 e.items few' (lit< tt)) $
      by ! (𝓜.room-room (bytes_of 2048) (bytes_of 2048) b o o o (omega arith, omega arith) (omega arith, omega arith)))

  -- two parts begin at two places
  pub apart : ent 𝓤 Two (fact 𝓤 (d.at ≢ e.at))
  apart = elim (same_or_not d.at e.at) [
    | inl s ↦ via 𝓤 (never 𝓤) (clash s) (never_e 𝓤 _)
    | inr n ↦ fact_i 𝓤 (d.at ≢ e.at) Two n
  ]
