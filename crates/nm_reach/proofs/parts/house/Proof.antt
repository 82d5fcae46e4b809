-- `house` hands the values to `lodge`. Assumes `Logic`.
use Rattle.std.proofs.Common.{◌≡◌, ◌+◌, ◌*◌, ◌^◌, ◌<◌, ◌≤◌, List, [], ◌∷◌, ◌++◌, length, refl, sym, ap, ◌∙◌, subst, arith, w64, Vec}
use mir.Syntax.{Fn, a_type}
use mir.Val.{Val, vint, vptr, vstruct, vcons, vnil}
use mir.MapTy.{inst_fn}
use base.Logic.{SProp, emp, id⊢, never}
use prog.Wp.{Env, WpFn}
use contract.BorrowLft.{◌⊑◌}
use contract.Monad.{fact, fact_i}
use contract.Running.{tables}
use types.Kit.{‵, raw, ◌⊛◌, some, given, later, prop, at_ret, ◌$◌, ◌∵◌, !, qed, by, move, drop, use0, use1, split, pick, learn, rewrite, regoal, fsplit, fjoin, feq_i, feq_l, flt_i, flt_l, await}
use types.Part.{whole, sub, agg}
use types.Run.{stop, fld, of_opd, no_more, and_then, first, blocks, exec, returns, enter}
use types.ByLocal.{alloc_all, pass_all, free_all, look_at, get, get_in, sets, lands_last, env}
use denote.RattleType.{RattleType, owns}
use denote.RawPtr.{Ptr, block_ptr, ptr_val, in_a_block}
use denote.Param.{param, layout, layouts}
use denote.Param.Laws.{Laws, param_laws}
use denote.Signature.{types_at}
use denote.Steps.{nothing, heard, only}
use denote.Struct.Struct.{as_fields}
use denote.Triple.Call.{calls_at_last}
use denote.Triple.Entry.{alive}
use denote.Triple.Table.{framed}
use Rattle.std.proofs.alloc.Calls.{Goes-blank}
use Rattle.std.proofs.raw_atomic.Walks.{proved_at, leaves}
use Rattle.std.specs.Mem.{type_size}
use Rattle.std.specs.Ptr.{ptr_add}
use Rattle.std.proofs.ptr.Rows.{times_below}
use Rattle.std.proofs.mem.Timeless.{timeless, timeless_laws}
use Rattle.std_alloc.proofs.VecSteps.Shapes.{after}
use Rattle.nm_reach.specs.Cells.{values_at}
use Rattle.nm_reach.specs.contracts.parts.Spot as Spot
use Rattle.nm_reach.proofs.Walks.{slot_at, stays, at_end, spot_val, values_val, spot_made, values_had}
use Rattle.std_alloc.specs.declared.vec.lodged.Lodged.{Lodged}
use Rattle.std_alloc.specs.Vec.Ownership.{lodged}
use Rattle.std_alloc.proofs.vec.lodge.Met as callee
use Rattle.nm_reach.proofs.Cells.{housed}
use Rattle.nm_reach.proofs.Lodging.{Row, row_laws, Good, tells, two_made, Lodges, at_lodge, Lodged_as, lodge_goes, lodge_gives}
use Rattle.nm_reach.specs.contracts.parts.house.{ended, clauses}
use Rattle.nm_reach.specs.contracts.parts.house.Key.{name as #self}
use Rattle.nm_reach.proofs.parts.house.Statement.{statement}
use Rattle.nm_reach.proofs.parts.house.Code as compiled

pub house_spec : {M : Type 1} → statement M
house_spec 𝓤 𝓛 𝓜 𝓡 wired T L =
    let E = ended T in let c = clauses T 𝓛 𝓜.mem 𝓡.returns in
    let fn : Fn = inst_fn (layouts (a_type ∷ []) (T, tt)) compiled.function in
    proved_at 𝓛 E (stays E) c 𝓜 𝓡 (Goes-blank 𝓛 1 (slot_at 0 E.signature.params) E.kept.0 (λ κs x f. tt), (Goes-blank 𝓛 1 (slot_at 1 E.signature.params) E.kept.1.0 (λ κs x f. tt), (Goes-blank 𝓛 1 (slot_at 2 E.signature.params) E.kept.1.1.0 (λ κs x f. tt), tt))) (#self (layouts (a_type ∷ []) (T, tt))) fn (compiled.unfolded 𝓤 𝓛.H 𝓜 𝓡 wired (T, tt)) (λ z are.
    let a = z.0.3 in let vss = z.0.4 in let p = a.0 in let n = a.1.0 in let x = a.1.1.0 in let s = x.spot in let xs = x.items in
    let R : RattleType = param 0 T in let LR : Laws R = param_laws 0 T L in
    let C = (tables 𝓤 𝓛.H 𝓜 𝓡 𝓡.env).C in let Λ = (tables 𝓤 𝓛.H 𝓜 𝓡 𝓡.env).Λ in let Post : Val → SProp 𝓤 = at_end 𝓛 E c z in
    let Asked : Type 0 = (s.ptr ≡ p) × (length xs ≡ n) × (n < 2 ^ 63) × (s.at + n ≤ s.size) in
    qed 𝓛 ((raw (alive 𝓛 E.signature z.0.0 z.0.1) ⊛ ‵ (owns (types_at E.signature.params z.0.0) a vss)) ∷ (raw (fact 𝓤 (z.0.0.0 ⊑ T.lives)) ⊛ raw (fact 𝓤 Asked)) ∷ []) ∵
    move ! (1 ∷ []) $ split ! $ drop ! $ heard ! Asked (λ asked. split ! $ move ! (1 ∷ []) $
    fsplit ! $ feq_l ! (λ is₀. fsplit ! $ fsplit ! $ feq_l ! (λ is₁. flt_l ! (λ fits. fsplit ! $ values_had ! R x vss.1.1.0 (λ is₂. move ! (2 ∷ []) $ drop ! $
    fsplit ! $ flt_l ! (λ small. feq_l ! (λ there.
    rewrite ! 0 (λ r. ‵ (values_at R r xs)) asked.0 refl $ in_a_block ! p (λ r. values_at R r xs) (id⊢ 𝓤 (never 𝓤)) (λ b o at.
    let y = at_lodge T 𝓛 𝓜.mem 𝓡.returns b o n n xs in
    let fine : n * type_size R < 2 ^ 63 = times_below n s.size (type_size R) (2 ^ 63) (let within = asked.3 in omega (arith, within)) small in
    regoal ! (λ (us : List Val). prop (WpFn 𝓤 𝓛.H C Λ fn (us ++ (vss.1.0 ++ (vss.1.1.0 ++ []))) Post)) (is₀ ∙ ap (λ r. ptr_val r ∷ []) at) refl $
    regoal ! (λ (us : List Val). prop (WpFn 𝓤 𝓛.H C Λ fn ((vptr b o ∷ []) ++ (us ++ (vss.1.1.0 ++ []))) Post)) is₁ refl $
    regoal ! (λ (us : List Val). prop (WpFn 𝓤 𝓛.H C Λ fn ((vptr b o ∷ []) ++ ((vint w64 n ∷ []) ++ (us ++ []))) Post)) is₂ refl $
    use1 𝓛 (‵ (lodged R (block_ptr b o) n n xs)) (housed T L 𝓛 b o n xs asked.1 fine) $
    enter ! C Λ fn (vptr b o ∷ vint w64 n ∷ values_val ∷ []) Post $ alloc_all ! (λ l. pass_all ! refl ((tt, tt), ((tt, record { fits = fits }), ((tt, ((tt, tt), tt)), tt))) $ let En : Env 𝓤 𝓛.H = env fn.locals l in
    sets ! (of_opd ! (get_in ! (fld ! refl (stop !)) (sub ! 0 refl (whole !)))) refl (tt, (tt, tt)) $
    first ! $ blocks ! $ use1 𝓛 (raw ((Lodges T 𝓛 𝓜.mem 𝓡.returns).pre y)) (lodge_goes T 𝓛 𝓜.mem 𝓡.returns b o n n xs (sym asked.1) (omega arith) asked.2) $
    calls_at_last ! (framed 𝓤 𝓛.H 𝓜 (tables 𝓤 𝓛.H 𝓜 𝓡 𝓡.env)) (Lodges T 𝓛 𝓜.mem 𝓡.returns) (callee.met 𝓤 𝓛 𝓜 𝓡 (compiled.calls-std_alloc::vec::lodge 𝓡.env wired) (timeless T) (timeless_laws T L)) y
    (and_then ! (get ! refl) (and_then ! (get ! refl) (and_then ! (get ! refl) (no_more !)))) (λ v.
    use1 𝓛 (later (some (λ (r : Vec T.Denot Lodged). given (Lodged_as T 𝓛 𝓜.mem 𝓡.returns b o n n xs r) (‵ ((Row R).own_val r (v ∷ [])))))) (lodge_gives T 𝓛 𝓜.mem 𝓡.returns b o n n xs v) $
    await ! tt $ pick ! (λ r. learn ! (λ is. tells ! (Row R) (row_laws R LR) r (v ∷ []) (λ u same good.
    let fit : Good (Row R) v = subst (Good (Row R)) (sym (ap only same)) good in
    rewrite ! 0 (λ w. ‵ ((Row R).own_val r (w ∷ []))) (sym (ap only same)) refl $ lands_last ! refl fit $
    exec ! C Λ En (after 2 fn.body) (at_ret En Post) $
    sets ! (of_opd ! (get ! refl)) refl fit $
    sets ! (of_opd ! (get ! refl)) refl fit $
    sets ! (agg ! (and_then ! (get ! refl) (and_then ! (get ! refl) (no_more !)))) refl (as_fields (layout (Row R) ∷ layout (Spot.the_row R) ∷ []) (v ∷ spot_val ∷ []) (fit, ((tt, (tt, tt)), tt))) $
    returns ! (look_at ! 0 refl) $ free_all ! refl $
    feq_i ! Ptr s.ptr (ptr_add R s.at s.base) there $ flt_i ! (s.size * type_size R) (2 ^ 63) small $ fjoin ! $ spot_made ! R s $ move ! (1 ∷ 0 ∷ []) $ two_made ! (Row R) (Spot.the_row R) r s v spot_val $
    let Said : Type 0 = (r.items ≡ xs) × (r.len ≡ n) × (r.cap ≡ n) × (r.ptr ≡ p) × (s ≡ s) in
    use0 𝓛 (raw (fact 𝓤 Said)) (fact_i 𝓤 Said (emp 𝓤) (is.0, is.1, is.2, is.3 ∙ sym at, refl)) $
    nothing ! $ nothing ! $ fjoin ! $ nothing ! $ fjoin ! $ nothing ! $ fjoin ! $ move ! (3 ∷ 0 ∷ 2 ∷ 1 ∷ []) $
    by ! (leaves 𝓛 E (stays E) c z (vstruct (vcons v (vcons spot_val vnil))) (r, s) (tt, (tt, ((tt, tt), tt))) (tt, (tt, (tt, tt))))))))))))))))))
