-- `bytes` reads through a `&` to the part. Assumes `Logic`.
use Rattle.std.proofs.Common.{◌≡◌, ℕ, ◌+◌, ◌*◌, ◌^◌, List, [], ◌∷◌, length, refl, sym, ap, arith, lit<}
use seplogic.Ra.Ura.{Ura}
use mir.Syntax.{named}
use mir.Val.{Val}
use base.Logic.{SProp, ent, sep}
use base.Fml.{Lft, Fml, ftrue, fhide, flft}
use types.Logic.{Logic, sem}
use contract.Monad.{fact}
use contract.Running.{tables}
use types.Kit.{‵, raw, ◌⊛◌, at_ret, ◌$◌, ◌∵◌, !, qed, done, move, keep, drop, use1, split, join, fsplit, fjoin, feq_i, flt_i, suffices, frame}
use types.Part.{agg}
use types.Run.{stop, fld, load, look, of_opd, and_then, no_more, first, blocks, exec, returns, enter}
use types.ByLocal.{alloc_all, pass_all, free_all, look_at, get, through, sets, sets_last, env}
use denote.Memory.{hidden_shr}
use denote.Opens.{shr_dup, unhide, hide}
use denote.RattleType.{RattleType, RowLaws}
use denote.RawPtr.{RawPtr, InBlock, block_of, count_of, ptr_row_laws}
use denote.Ref.{ShrRef, shr_vals, shr_Tells}
use denote.Slice.{slice_val}
use denote.Steps.{nothing, heard}
use denote.Struct.Lending.{in_block_says, lent_out}
use denote.Struct.Owning.{shape, to}
use denote.Struct.Struct.{Struct, Struct-row_laws}
use denote.Triple.Walked.{Stays, walk_of, says, stay_dropped, Goes-dropped, ends_at}
use Rattle.std.proofs.alloc.Shapes.{after}
use Rattle.std.proofs.raw_atomic.Walks.{proved}
use Rattle.std_alloc.proofs.Words.{pointer_in, pointer_out}
use Rattle.nm_region.proofs.Walks.{slot_at, big}
use Rattle.nm_region.specs.contracts.part.Part as P
use Rattle.nm_region.specs.contracts.part.Part.bytes as f
use Rattle.nm_region.proofs.part.Part.bytes.Statement.{statement}
use Rattle.nm_region.proofs.part.Part.bytes.Code as code

abbrev R : RattleType
R = P.the_row

abbrev Words : RattleType
Words = Struct (shape P.the_type)

abbrev stayed : Stays f.ended.signature.params f.ended.kept
stayed = (stay_dropped (slot_at 0 f.ended.signature.params) f.ended.kept.0, tt)

module _ {M : Type 1} {𝓤 : Ura M} (𝓛 : Logic 𝓤) (κ : Lft) (b o : ℕ) (d : R.Denot) where
  abbrev S : Fml
  S = hidden_shr Words κ (to P.the_type d) b o

  laws : RowLaws Words
  laws = Struct-row_laws (shape P.the_type) (ptr_row_laws, tt)

  -- a `&` to the fields shows the pointer
  shows_at : ent 𝓤 (sem 𝓛 S) (sep 𝓤 (sem 𝓛 (hidden_shr RawPtr κ d.at b (o + 0))) (sem 𝓛 S))
  shows_at = qed 𝓛 (‵ S ∷ []) ∵ shr_dup ! Words laws (to P.the_type d) b o κ $ unhide ! $ fsplit ! $ fsplit ! $ hide ! $ keep ! (0 ∷ 3 ∷ []) $ done !

pub bytes_spec : {M : Type 1} → statement M
bytes_spec 𝓤 𝓛 𝓜 𝓡 wired =
    let c = f.clauses 𝓛 𝓜.mem 𝓡.returns in let W = walk_of 𝓛 f.ended stayed c in
    let 𝓣 = tables 𝓤 𝓛.H 𝓜 𝓡 𝓡.env in
    let fn = code.function in
    proved 𝓛 f.ended stayed c 𝓜 𝓡 (Goes-dropped 𝓛 1 (slot_at 0 f.ended.signature.params) f.ended.kept.0 (λ κs x w. refl), tt)
    f.Key.name fn (code.unfolded 𝓤 𝓛.H 𝓜 𝓡 wired)
    (λ κs. (shr_vals, tt)) (λ κs. (shr_Tells (named 0) κs.0 R, tt)) (λ κs qs bounds a _ are.
    let κ = κs.0 in let q = qs.0 in
    let b = a.0.ref_ptr.0 in let o = a.0.ref_ptr.1 in let d = a.0.now in let vs = shr_vals a.0 in
    let xs = d.items in let n = length xs in
    let y : W.Ghost = ((κs, qs, bounds, a, (vs, tt)), tt) in
    let Post : Val → SProp 𝓤 = W.post y in
    let Asked : Type 0 = n ≡ 2048 in
    let at : ℕ × ℕ = (block_of d.at, count_of d.at) in
    qed 𝓛 (((‵ (flft κ q) ⊛ ‵ ftrue) ⊛ (‵ ((ShrRef (named 0) κ R).own_val a.0 vs) ⊛ ‵ ftrue)) ∷ raw (fact 𝓤 Asked) ∷ []) ∵
    move ! (1 ∷ []) $ heard ! Asked (λ full.
    split ! $ split ! $ move ! (2 ∷ []) $ split ! $ keep ! (0 ∷ 2 ∷ []) $
    -- [the reference; the token]
    enter ! _ _ _ _ _ $ alloc_all ! (λ l. pass_all ! refl ((tt, tt), tt) $
    let En = env code.Mir.locals l in
    fsplit ! $ drop ! $
    use1 𝓛 (‵ (hidden_shr Words κ (to P.the_type d) b o) ⊛ ‵ (fhide (P.the_lent d d.at κ))) (lent_out 𝓛 P.struct P.the_codes P.the_heap P.the_lent κ d b o) $ split ! $
    move ! (1 ∷ []) $ unhide ! $ fsplit ! $ drop ! $ fsplit ! $ use1 𝓛 (raw (fact 𝓤 (InBlock d.at))) (in_block_says 𝓛 d.at) $ heard ! (InBlock d.at) (λ inb. fsplit ! $ drop ! $ hide ! $
    -- [the bytes; the fields; the token]
    move ! (1 ∷ 2 ∷ []) $ first ! $ blocks ! $
    pointer_in ! tt d.at inb b (o + 0) (shows_at 𝓛 κ b o d) (λ q'.
    sets ! (of_opd ! (load ! (through ! refl (fld ! refl (stop !))) (look ! 1 refl))) refl (tt, tt) $
    pointer_out ! tt d.at inb b (o + 0) $
    -- [the token; the fields; the bytes]
    sets_last ! (agg ! (and_then ! (get ! refl) (and_then ! (big ! (lit< tt)) (no_more !)))) refl (tt, (tt, (record { fits = lit< tt }, tt))) $
    exec ! 𝓣.C 𝓣.Λ En (after 1 fn.body) (at_ret En Post) $
    sets ! (of_opd ! (get ! refl)) refl (tt, (tt, (record { fits = lit< tt }, tt))) $
    move ! (2 ∷ []) $ flt_i ! (n * 1) (2 ^ 63) (omega (arith, full)) $ flt_i ! n (2 ^ 64) (omega (arith, full)) $ fjoin ! $
    feq_i ! (List Val) (slice_val at 2048 ∷ []) (slice_val at n ∷ []) (ap (λ (k : ℕ). slice_val at k ∷ []) (sym full)) $ fjoin ! $ fjoin ! $
    returns ! (look_at ! 0 refl) $ free_all ! refl $ keep ! (1 ∷ 0 ∷ []) $
    suffices ! _ (ends_at 𝓛 f.ended stayed c y (slice_val at 2048) (record { ref_ptr = at; now = xs }) (tt, tt) (tt, tt)) $ says ! refl $
    nothing ! $ move ! (1 ∷ 0 ∷ []) $ join ! $ frame ! $ nothing ! $ nothing ! $ fjoin ! $ done !)))))
