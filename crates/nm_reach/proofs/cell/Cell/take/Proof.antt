-- `take` reads the value and leaves its bytes, which are nothing's then. Assumes `Logic`.
use Rattle.std.proofs.Common.{◌≡◌, List, [], ◌∷◌, Option, Some, None, true, false, is_some, refl}
use mir.Syntax.{Fn, a_type, named}
use mir.Val.{Val}
use mir.MapTy.{inst_fn}
use base.Fraction.{full_share}
use base.Logic.{SProp, emp}
use base.Fml.{ftrue, flft}
use prog.Wp.{Env}
use contract.BorrowLft.{◌⊑◌}
use contract.Monad.{fact, fact_i}
use contract.Running.{tables}
use types.Kit.{‵, raw, ◌⊛◌, at_ret, ◌$◌, ◌∵◌, !, qed, by, move, keep, drop, use0, split, join, rewrite, fsplit, fsplit3, fjoin, fjoin3, fpick, fpack, feq_i}
use types.Part.{whole, sub}
use types.Run.{look_raw, stop, fld, load, addr, of_opd, first, blocks, exec, returns, enter}
use types.ByLocal.{alloc_all, pass_all, free_all, look_at, get, get_in, through, sets, sets_last, env}
use denote.Laws.{Typed}
use denote.Memory.{cell_at}
use denote.RattleType.{RattleType}
use denote.Ref.{MutRef, mut_vals, mut_Tells}
use denote.Param.{param, layout, layouts}
use denote.Param.Laws.{Laws, param_laws}
use denote.Signature.{plain}
use denote.Steps.{nothing, heard, opens, closes}
use denote.Struct.Struct.{as_fields}
use denote.Triple.Walked.{Stays, stay_ref, walk_of, Goes-ref}
use Rattle.std.proofs.raw_atomic.Walks.{proved, leaves}
use Rattle.std_alloc.proofs.VecSteps.Shapes.{after}
use Rattle.nm_reach.specs.contracts.cell.Cell as Cell
use Rattle.nm_reach.proofs.Walks.{one, one_had}
use Rattle.nm_reach.specs.contracts.cell.Cell.take.{ended, clauses}
use Rattle.nm_reach.specs.contracts.cell.Cell.take.Key.{name as #self}
use Rattle.nm_reach.proofs.cell.Cell.take.Statement.{statement}
use Rattle.nm_reach.proofs.cell.Cell.take.Code as compiled

held : {X : Type 0} → (h : Option X) → is_some h ≡ true → (x : X) × (h ≡ Some x)
held None e = absurd (let wrong : false ≡ true = e in cc)
held (Some x) e = (x, refl)

pub take_spec : {M : Type 1} → statement M
take_spec 𝓤 𝓛 𝓜 𝓡 wired T L =
    let E = ended T in let c = clauses T 𝓛 𝓜.mem 𝓡.returns in
    let fn : Fn = inst_fn (layouts (a_type ∷ []) (T, tt)) compiled.function in
    let R : RattleType = param 0 T in let LR : Laws R = param_laws 0 T L in let Row : RattleType = Cell.the_row R in
    let hs : Stays E.signature.params E.kept = (stay_ref (0 ∷ []) tt (plain (λ _. Row)), tt) in
    proved 𝓛 E hs c 𝓜 𝓡 (Goes-ref 𝓛 2 0 tt (plain (λ _. Row)), tt) (#self (layouts (a_type ∷ []) (T, tt))) fn (compiled.unfolded 𝓤 𝓛.H 𝓜 𝓡 wired (T, tt))
    (λ κs. (mut_vals, tt)) (λ κs. (mut_Tells (named 0) κs.0 Row, tt)) (λ κs qs bounds a g are.
    let r = a.0 in let h : Option T.Denot = r.now in let b = r.ref_ptr.0 in let o = r.ref_ptr.1 in let vs : List Val = mut_vals r in
    let C = (tables 𝓤 𝓛.H 𝓜 𝓡 𝓡.env).C in let Λ = (tables 𝓤 𝓛.H 𝓜 𝓡 𝓡.env).Λ in
    let y : (walk_of 𝓛 E hs c).Ghost = ((κs, qs, bounds, a, (vs, tt)), g) in let Post : Val → SProp 𝓤 = (walk_of 𝓛 E hs c).post y in
    let Asked : Type 0 = is_some h ≡ true in
    qed 𝓛 (((‵ (flft κs.0 qs.0) ⊛ (‵ (flft κs.1.0 qs.1.0) ⊛ ‵ ftrue)) ⊛ (‵ ((MutRef (named 0) κs.0 Row).own_val r vs) ⊛ ‵ ftrue)) ∷ (raw (fact 𝓤 (κs.1.0 ⊑ T.lives)) ⊛ raw (fact 𝓤 Asked)) ∷ []) ∵
    move ! (1 ∷ []) $ split ! $ drop ! $ heard ! Asked (λ asked. let there = held h asked in let x = there.0 in
    split ! $ split ! $ move ! (2 ∷ []) $ split ! $ keep ! (0 ∷ 2 ∷ 3 ∷ []) $
    -- [the reference; the token of its lifetime; that of the type's]
    enter ! C Λ fn vs Post $ alloc_all ! (λ l. pass_all ! refl ((tt, tt), tt) $ let En : Env 𝓤 𝓛.H = env fn.locals l in
    fsplit3 ! $ drop ! $ opens ! tt Row {h = h} b o (λ us. move ! (1 ∷ []) $
    rewrite ! 0 (λ (d : Option T.Denot). ‵ (Row.own_val d us)) there.1 refl $ fsplit ! $ fpick ! (λ typed. drop ! $ one_had ! R LR x us (λ u is good.
    let inner = as_fields (layout R ∷ []) (u ∷ []) (good, tt) in
    move ! (1 ∷ []) $ rewrite ! 0 (λ (ws : List Val). ‵ (cell_at full_share Row.mir ws b o)) is refl $
    -- [the cell; its value; the open borrow]
    sets ! (addr ! (through ! refl (stop !))) refl (tt, tt) $
    first ! $ blocks ! $ sets_last ! (of_opd ! (load ! (through ! refl (stop !)) (look_raw ! 0 refl))) refl inner $
    exec ! C Λ En (after 2 fn.body) (at_ret En Post) $
    sets ! (of_opd ! (get ! refl)) refl inner $
    sets ! (of_opd ! (get_in ! (fld ! refl (stop !)) (sub ! 0 refl (whole !)))) refl good $
    sets ! (of_opd ! (get ! refl)) refl good $
    nothing ! $ nothing ! $ fpack ! (Typed Row.mir (one u ∷ [])) (λ _. ftrue) (inner, tt) $ fjoin ! $
    move ! (1 ∷ 0 ∷ 3 ∷ 4 ∷ 5 ∷ []) $ closes ! tt Row None (one u ∷ []) b o $
    returns ! (look_at ! 0 refl) $ free_all ! refl $
    -- [the reference, in parts; the tokens; the value]
    feq_i ! (List Val) vs vs refl $ fjoin3 ! $ nothing ! $ move ! (1 ∷ 0 ∷ []) $ fjoin ! $ move ! (1 ∷ 3 ∷ []) $ join ! $
    let gone : Option T.Denot = None in let Was : Type 0 = h ≡ Some x in let Left : Type 0 = gone ≡ gone in
    use0 𝓛 (raw (fact 𝓤 Left)) (fact_i 𝓤 Left (emp 𝓤) refl) $ use0 𝓛 (raw (fact 𝓤 Was)) (fact_i 𝓤 Was (emp 𝓤) there.1) $ join ! $
    move ! (1 ∷ 2 ∷ 3 ∷ 0 ∷ []) $ by ! (leaves 𝓛 E hs c y u x (None, tt) (tt, tt))))))))
