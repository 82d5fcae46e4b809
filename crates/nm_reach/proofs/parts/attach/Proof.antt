-- `attach` hands the values to what waits for them. Assumes `Logic`.
use Rattle.std.proofs.Common.{◌≡◌, ℕ, List, [], ◌∷◌, ◌++◌, length, refl, sym, ap, ◌∙◌, subst}
use mir.Syntax.{Fn, a_type}
use mir.Val.{Val}
use mir.MapTy.{inst_fn}
use base.Logic.{SProp, emp, all_e, apply∗}
use base.Fml.{fsep, feq, fwand}
use prog.Wp.{WpFn}
use contract.BorrowLft.{◌⊑◌}
use contract.Monad.{fact, fact_i}
use contract.Running.{tables}
use types.Logic.{sem}
use types.Kit.{‵, raw, ◌⊛◌, prop, ◌$◌, ◌∵◌, !, qed, by, move, drop, use0, use1, use2, split, rewrite, regoal, fsplit, fjoin, fpick, feq_i, feq_l}
use types.Part.{whole, sub}
use types.Run.{stop, fld, of_opd, returns, enter}
use types.ByLocal.{alloc_all, pass_all, free_all, look_at, get, get_in, sets}
use denote.Laws.{Typed}
use denote.RattleType.{RattleType, owns}
use denote.Param.{param, layouts}
use denote.Param.Laws.{Laws, param_laws}
use denote.Signature.{types_at}
use denote.Steps.{nothing, heard}
use denote.Triple.Entry.{alive}
use Rattle.std.proofs.alloc.Calls.{Goes-blank}
use Rattle.std.proofs.raw_atomic.Walks.{proved_at, leaves}
use Rattle.std.specs.Ptr.{ptr_add}
use Rattle.nm_reach.specs.Cells.{values_at}
use Rattle.nm_reach.specs.Fields.{FieldState}
use Rattle.nm_reach.specs.contracts.parts.Husk as Husk
use Rattle.nm_reach.proofs.Walks.{slot_at, stays, at_end, one, values_val, one_had, values_had}
use Rattle.std.specs.Vec.{with_items}
use Rattle.std.proofs.lemmas.List.{with_items_is}
use Rattle.std.specs.contracts.alloc.Global as heap
use Rattle.std.proofs.alloc.Global.TheLaws as heap_laws
use Rattle.std.specs.contracts.impls.GlobalAllocator.TheImpl.{ghosts}
use Rattle.std_alloc.proofs.vec.Vec.TheLaws as vec_laws
use Rattle.nm_reach.proofs.Cells.{at_first}
use Rattle.nm_reach.proofs.Husks.{Whole}
use Rattle.nm_reach.proofs.Lodging.{plainly}
use Rattle.nm_reach.specs.contracts.parts.attach.{ended, clauses}
use Rattle.nm_reach.specs.contracts.parts.attach.Key.{name as #self}
use Rattle.nm_reach.proofs.parts.attach.Statement.{statement}
use Rattle.nm_reach.proofs.parts.attach.Code as compiled

pub attach_spec : {M : Type 1} → statement M
attach_spec 𝓤 𝓛 𝓜 𝓡 wired T L =
    let E = ended T in let c = clauses T 𝓛 𝓜.mem 𝓡.returns in
    let fn : Fn = inst_fn (layouts (a_type ∷ []) (T, tt)) compiled.function in
    proved_at 𝓛 E (stays E) c 𝓜 𝓡 (Goes-blank 𝓛 1 (slot_at 0 E.signature.params) E.kept.0 (λ κs x f. tt), (Goes-blank 𝓛 1 (slot_at 1 E.signature.params) E.kept.1.0 (λ κs x f. tt), tt)) (#self (layouts (a_type ∷ []) (T, tt))) fn (compiled.unfolded 𝓤 𝓛.H 𝓜 𝓡 wired (T, tt)) (λ z are.
    let a = z.0.3 in let vss = z.0.4 in let x = a.0 in let xs = x.items in let e = a.1.0 in
    let R : RattleType = param 0 T in let LR : Laws R = param_laws 0 T L in
    let C = (tables 𝓤 𝓛.H 𝓜 𝓡 𝓡.env).C in let Λ = (tables 𝓤 𝓛.H 𝓜 𝓡 𝓡.env).Λ in let Post : Val → SProp 𝓤 = at_end 𝓛 E c z in
    let Asked : Type 0 = (x.spot.base ≡ e.field) × (x.spot.at ≡ 0) × (length xs ≡ e.size) in
    qed 𝓛 ((raw (alive 𝓛 E.signature z.0.0 z.0.1) ⊛ ‵ (owns (types_at E.signature.params z.0.0) a vss)) ∷ (raw (fact 𝓤 (z.0.0.0 ⊑ T.lives)) ⊛ raw (fact 𝓤 Asked)) ∷ []) ∵
    move ! (1 ∷ []) $ split ! $ drop ! $ heard ! Asked (λ asked. split ! $ move ! (1 ∷ []) $
    fsplit ! $ values_had ! R x vss.0 (λ is₀. fsplit ! $ drop ! $ feq_l ! (λ there. move ! (1 ∷ []) $ fsplit ! $ fsplit ! $ fpick ! (λ typed. drop ! $ fpick ! (λ v. fsplit ! $ feq_l ! (λ same.
    let first : x.spot.ptr ≡ e.field = there ∙ (λ i. ptr_add R (asked.1 i) (asked.0 i)) ∙ at_first R e.field in
    let len : v.vec.len ≡ e.size = ap (λ (k : FieldState). k.size) same in
    let Given = λ (ys : List T.Denot). fsep (feq ℕ (length ys) e.size) (values_at R e.field ys) in
    let Back = λ (ys : List T.Denot). (plainly (Whole R ∷ [])).own_val (with_items v.vec ys, tt) vss.1.0 in
    -- [the way back; nothing; the values; the tokens]
    use1 𝓛 (‵ (fwand (Given xs) (Back xs))) (all_e 𝓤 (λ ys. sem 𝓛 (fwand (Given ys) (Back ys))) xs) $ move ! (2 ∷ []) $
    rewrite ! 0 (λ p. ‵ (values_at R p xs)) first refl $ feq_i ! ℕ (length xs) e.size asked.2 $ fjoin ! $
    use2 𝓛 (‵ (Back xs)) (apply∗ 𝓤 (sem 𝓛 (Given xs)) (sem 𝓛 (Back xs))) $ one_had ! (Whole R) (vec_laws.the_row_laws R heap.the_row ghosts LR heap_laws.the_row_laws) (with_items v.vec xs) vss.1.0 (λ u is₁ good.
    move ! (1 ∷ []) $ drop ! $
    regoal ! (λ (us : List Val). prop (WpFn 𝓤 𝓛.H C Λ fn (us ++ (vss.1.0 ++ [])) Post)) is₀ refl $
    regoal ! (λ (us : List Val). prop (WpFn 𝓤 𝓛.H C Λ fn ((values_val ∷ []) ++ (us ++ [])) Post)) is₁ refl $
    enter ! C Λ fn (values_val ∷ one u ∷ []) Post $ alloc_all ! (λ l. pass_all ! refl ((tt, ((tt, tt), tt)), ((subst (Typed (Husk.the_row R).mir) is₁ typed).0, tt)) $
    sets ! (of_opd ! (get_in ! (fld ! refl (stop !)) (sub ! 0 refl (whole !)))) refl good $
    sets ! (of_opd ! (get ! refl)) refl good $
    returns ! (look_at ! 0 refl) $ free_all ! refl $
    let w = with_items v.vec xs in
    let Said : Type 0 = (w.items ≡ xs) × (w.ptr ≡ e.field) × (w.cap ≡ e.capacity) in
    use0 𝓛 (raw (fact 𝓤 Said)) (fact_i 𝓤 Said (emp 𝓤) (with_items_is v.vec xs (asked.2 ∙ sym len), ap (λ (k : FieldState). k.field) same, ap (λ (k : FieldState). k.capacity) same)) $
    nothing ! $ nothing ! $ fjoin ! $ nothing ! $ fjoin ! $ move ! (3 ∷ 0 ∷ 2 ∷ 1 ∷ []) $
    by ! (leaves 𝓛 E (stays E) c z u w ((tt, tt), (tt, tt)) (tt, (tt, tt))))))))))))
