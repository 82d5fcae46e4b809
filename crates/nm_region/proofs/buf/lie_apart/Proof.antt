-- `lie_apart` opens both borrows: the parts own their memory at once. Assumes `Logic`.
use Rattle.std.proofs.Common.{◌≢◌, ◌≤◌, List, [], ◌∷◌, length, refl}
use mir.Syntax.{named}
use mir.Val.{Val, vunit, vptr}
use base.Fml.{ftrue, flft}
use contract.Monad.{fact}
use types.Kit.{‵, raw, ◌⊛◌, ◌$◌, ◌∵◌, !, qed, done, move, keep, drop, split, split3, join, fsplit, fsplit3, fjoin, fjoin3, feq_i, suffices, frame}
use types.Run.{unit_lit, of_opd, returns, enter}
use types.ByLocal.{alloc_all, pass_all, free_all, look_at, sets}
use denote.RattleType.{owns}
use denote.Ref.{MutRef, mut_vals, mut_Tells}
use denote.Signature.{plain}
use denote.Steps.{nothing, opens, closes, heard}
use denote.Triple.Walked.{Stays, walk_of, stay_ref, Goes-ref, ends_at}
use Rattle.std.proofs.raw_atomic.Walks.{proved}
use Rattle.std.proofs.mem.Facts.{says_two}
use Rattle.nm_region.proofs.Lodging.{apart}
use Rattle.nm_region.proofs.Walks.{learns}
use Rattle.nm_region.specs.contracts.buf.lie_apart as f
use Rattle.nm_region.specs.contracts.part.Part.{the_row as Part}
use Rattle.nm_region.proofs.buf.lie_apart.Statement.{statement}
use Rattle.nm_region.proofs.buf.lie_apart.Code as code

abbrev stayed : Stays f.ended.signature.params f.ended.kept
stayed = (stay_ref (0 ∷ []) tt (plain (λ _. Part)), (stay_ref (1 ∷ []) tt (plain (λ _. Part)), tt))

pub lie_apart_spec : {M : Type 1} → statement M
lie_apart_spec 𝓤 𝓛 𝓜 𝓡 wired =
    let c = f.clauses 𝓛 𝓜.mem 𝓡.returns in let W = walk_of 𝓛 f.ended stayed c in
    proved 𝓛 f.ended stayed c 𝓜 𝓡 (Goes-ref 𝓛 2 0 tt (plain (λ _. Part)), (Goes-ref 𝓛 2 1 tt (plain (λ _. Part)), tt))
    f.Key.name code.function (code.unfolded 𝓤 𝓛.H 𝓜 𝓡 wired)
    (λ κs. (mut_vals, (mut_vals, tt))) (λ κs. (mut_Tells (named 0) κs.0 Part, (mut_Tells (named 1) κs.1.0 Part, tt))) (λ κs qs bounds a _ are.
    let x = a.0 in let y = a.1.0 in let d = x.now in let e = y.now in
    let b = x.ref_ptr.0 in let o = x.ref_ptr.1 in let b' = y.ref_ptr.0 in let o' = y.ref_ptr.1 in
    let z : W.Ghost = ((κs, qs, bounds, a, (mut_vals x, (mut_vals y, tt))), tt) in
    let Asked : Type 0 = (length d.items ≤ 2048) × (length e.items ≤ 2048) in
    qed 𝓛 (((‵ (flft κs.0 qs.0) ⊛ ‵ (flft κs.1.0 qs.1.0) ⊛ ‵ ftrue) ⊛ ‵ (owns (MutRef (named 0) κs.0 Part ∷ MutRef (named 1) κs.1.0 Part ∷ []) a z.0.4)) ∷ raw (fact 𝓤 Asked) ∷ []) ∵
    move ! (1 ∷ []) $ heard ! Asked (λ asked. split ! $
    enter ! _ _ _ _ _ $ alloc_all ! (λ l. pass_all ! refl ((tt, tt), ((tt, tt), tt)) $
    move ! (1 ∷ []) $ fsplit ! $ fsplit3 ! $ drop ! $ move ! (2 ∷ []) $ fsplit ! $ fsplit3 ! $ drop ! $ move ! (5 ∷ []) $ split3 ! $
    move ! (6 ∷ 7 ∷ 0 ∷ []) $ opens ! tt Part {h = d} b o (λ us. move ! (7 ∷ 8 ∷ 5 ∷ []) $ opens ! tt Part {h = e} b' o' (λ vs.
    -- [b's cell; what b owns; its open borrow, in three entries; the same of a]
    move ! (6 ∷ 1 ∷ []) $ learns ! 2 (d.at ≢ e.at) (apart 𝓛 𝓜 d e us vs asked.0 asked.1) (λ two.
    move ! (2 ∷ 1 ∷ 3 ∷ 4 ∷ 5 ∷ []) $ closes ! tt Part e vs b' o' $ move ! (4 ∷ 3 ∷ 5 ∷ 6 ∷ 7 ∷ []) $ closes ! tt Part d us b o $
    sets ! (of_opd ! (unit_lit !)) refl (tt, tt) $ returns ! (look_at ! 0 refl) $ free_all ! refl $ keep ! (0 ∷ 1 ∷ 2 ∷ 3 ∷ 4 ∷ 5 ∷ []) $
    -- [two parts of a and its token; the same of b]
    suffices ! _ (ends_at 𝓛 f.ended stayed c z vunit tt (d, (e, tt)) (tt, (tt, tt))) $ says_two ! (two, (refl, refl)) $
    nothing ! $ move ! (6 ∷ 0 ∷ []) $ join ! $ move ! (3 ∷ 0 ∷ []) $ join ! $ frame ! $
    move ! (2 ∷ 3 ∷ []) $ feq_i ! (List Val) (vptr b' o' ∷ []) (vptr b' o' ∷ []) refl $ fjoin3 ! $ nothing ! $ move ! (1 ∷ 0 ∷ []) $ fjoin ! $
    move ! (1 ∷ 2 ∷ []) $ feq_i ! (List Val) (vptr b o ∷ []) (vptr b o ∷ []) refl $ fjoin3 ! $ fjoin ! $
    feq_i ! (List Val) (vunit ∷ []) (vunit ∷ []) refl $ move ! (1 ∷ 0 ∷ []) $ done !))))))
