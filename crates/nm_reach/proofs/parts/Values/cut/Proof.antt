-- `cut` parts the cells, and tells where the second part begins. Assumes `Logic`.
use Rattle.std.proofs.Common.{◌≡◌, ℕ, ◌+◌, ◌*◌, ◌^◌, ◌<◌, ◌≤◌, List, [], ◌∷◌, ◌++◌, length, take, drop as drop_l, refl, sym, ap, ◌∙◌, subst, arith, w64}
use mir.Syntax.{Fn, a_type, ty_ptr}
use mir.Val.{Val, vint, vptr, vstruct, vcons, vnil}
use mir.MapTy.{inst_fn}
use base.Logic.{SProp, emp, id⊢, never}
use prog.Wp.{Env, WpFn}
use contract.BorrowLft.{◌⊑◌}
use contract.Monad.{fact, fact_i}
use contract.Running.{tables}
use types.Kit.{‵, raw, ◌⊛◌, prop, at_ret, ◌$◌, ◌∵◌, !, qed, by, move, drop, use0, use1, split, rewrite, regoal, fsplit, fjoin, feq_i, feq_l, flt_i, flt_l}
use types.Part.{whole, sub, agg}
use types.Run.{stop, fld, of_opd, bin, size_word, no_more, and_then, first, blocks, exec, returns, enter}
use types.ByLocal.{alloc_all, pass_all, free_all, look_at, get, get_in, is, sets, sets_last, env}
use denote.RattleType.{RattleType, owns}
use denote.RawPtr.{Ptr, RawPtr, block_ptr, ptr_val, in_a_block}
use denote.Param.{param, layout, layouts}
use denote.Signature.{types_at}
use denote.Steps.{nothing, heard}
use denote.Struct.Struct.{as_fields}
use denote.Triple.Entry.{alive}
use Rattle.std.proofs.alloc.Calls.{Goes-blank}
use Rattle.std.proofs.raw_atomic.Walks.{proved_at, leaves}
use Rattle.std.specs.Mem.{type_size}
use Rattle.std.specs.Ptr.{ptr_add}
use Rattle.std.proofs.ptr.Rows.{times_below}
use Rattle.std_alloc.proofs.VecSteps.Shapes.{after}
use Rattle.nm_reach.specs.Cells.{values_at}
use Rattle.nm_reach.specs.contracts.parts.Spot as Spot
use Rattle.nm_reach.specs.contracts.parts.Values as Values
use Rattle.nm_reach.proofs.Walks.{slot_at, stays, at_end, values_val, values_had, values_made}
use Rattle.nm_reach.proofs.Cells.{added, cut, uncapped}
use Rattle.nm_reach.proofs.Lodging.{three_made}
use Rattle.nm_reach.specs.contracts.parts.Values.cut.{ended, clauses}
use Rattle.nm_reach.specs.contracts.parts.Values.cut.Key.{name as #self}
use Rattle.nm_reach.proofs.parts.Values.cut.Statement.{statement}
use Rattle.nm_reach.proofs.parts.Values.cut.Code as compiled

pub cut_spec : {M : Type 1} → statement M
cut_spec 𝓤 𝓛 𝓜 𝓡 wired T L =
    let E = ended T in let c = clauses T 𝓛 𝓜.mem 𝓡.returns in
    let fn : Fn = inst_fn (layouts (a_type ∷ []) (T, tt)) compiled.function in
    proved_at 𝓛 E (stays E) c 𝓜 𝓡 (Goes-blank 𝓛 1 (slot_at 0 E.signature.params) E.kept.0 (λ κs x f. tt), (Goes-blank 𝓛 1 (slot_at 1 E.signature.params) E.kept.1.0 (λ κs x f. tt), (Goes-blank 𝓛 1 (slot_at 2 E.signature.params) E.kept.1.1.0 (λ κs x f. tt), tt))) (#self (layouts (a_type ∷ []) (T, tt))) fn (compiled.unfolded 𝓤 𝓛.H 𝓜 𝓡 wired (T, tt)) (λ z are.
    let a = z.0.3 in let vss = z.0.4 in let x = a.0 in let s = x.spot in let xs = x.items in let p = a.1.0 in let k = a.1.1.0 in
    let R : RattleType = param 0 T in
    let C = (tables 𝓤 𝓛.H 𝓜 𝓡 𝓡.env).C in let Λ = (tables 𝓤 𝓛.H 𝓜 𝓡 𝓡.env).Λ in let Post : Val → SProp 𝓤 = at_end 𝓛 E c z in
    let q : Ptr = ptr_add R k p in
    let front : (Values.the_row R).Denot = record { spot = s; items = take k xs } in
    let onward : (Spot.the_row R).Denot = record { marker = record {}; base = s.base; size = s.size; at = s.at + k; ptr = q } in
    let back : (Values.the_row R).Denot = record { spot = onward; items = drop_l k xs } in
    let Asked : Type 0 = (k ≤ length xs) × (s.at + length xs ≤ s.size) × (s.ptr ≡ p) in
    qed 𝓛 ((raw (alive 𝓛 E.signature z.0.0 z.0.1) ⊛ ‵ (owns (types_at E.signature.params z.0.0) a vss)) ∷ (raw (fact 𝓤 (z.0.0.0 ⊑ T.lives)) ⊛ raw (fact 𝓤 Asked)) ∷ []) ∵
    move ! (1 ∷ []) $ split ! $ drop ! $ heard ! Asked (λ asked. split ! $ move ! (1 ∷ []) $
    fsplit ! $ values_had ! R x vss.0 (λ is₀. move ! (2 ∷ []) $ fsplit ! $ feq_l ! (λ is₁. fsplit ! $ fsplit ! $ feq_l ! (λ is₂. flt_l ! (λ fits. drop ! $
    -- [the spot; the values; the tokens]
    fsplit ! $ flt_l ! (λ small. feq_l ! (λ there.
    rewrite ! 0 (λ r. ‵ (values_at R r xs)) asked.2 refl $ in_a_block ! p (λ r. values_at R r xs) (id⊢ 𝓤 (never 𝓤)) (λ b o at.
    use1 𝓛 (‵ (values_at R (block_ptr b o) (take k xs)) ⊛ ‵ (values_at R (block_ptr b (k * type_size R + o)) (drop_l k xs))) (cut T L 𝓛 b o k xs asked.0) $ split ! $
    let far : k * type_size R < 2 ^ 63 = times_below k s.size (type_size R) (2 ^ 63) (let upto = asked.0 in let within = asked.1 in omega (arith, upto, within)) small in
    let near : k * type_size R < 2 ^ 64 = omega (arith, far) in
    let there' : q ≡ ptr_add R (s.at + k) s.base = ap (ptr_add R k) (sym asked.2 ∙ there) ∙ added R s.at k s.base in
    rewrite ! 0 (λ r. ‵ (values_at R r (take k xs))) (sym (asked.2 ∙ at)) refl $ rewrite ! 1 (λ r. ‵ (values_at R r (drop_l k xs))) (ap (ptr_add R k) (sym at)) refl $
    feq_i ! Ptr s.ptr (ptr_add R s.at s.base) there $ flt_i ! (s.size * type_size R) (2 ^ 63) small $ fjoin ! $ move ! (0 ∷ 1 ∷ []) $ values_made ! R front $ move ! (1 ∷ []) $
    feq_i ! Ptr q (ptr_add R (s.at + k) s.base) there' $ flt_i ! (s.size * type_size R) (2 ^ 63) small $ fjoin ! $ values_made ! R back $ move ! (1 ∷ 0 ∷ []) $
    regoal ! (λ (us : List Val). prop (WpFn 𝓤 𝓛.H C Λ fn (us ++ (vss.1.0 ++ (vss.1.1.0 ++ []))) Post)) is₀ refl $
    regoal ! (λ (us : List Val). prop (WpFn 𝓤 𝓛.H C Λ fn ((values_val ∷ []) ++ (us ++ (vss.1.1.0 ++ []))) Post)) (is₁ ∙ ap (λ r. ptr_val r ∷ []) at) refl $
    regoal ! (λ (us : List Val). prop (WpFn 𝓤 𝓛.H C Λ fn ((values_val ∷ []) ++ ((vptr b o ∷ []) ++ (us ++ []))) Post)) is₂ refl $
    enter ! C Λ fn (values_val ∷ vptr b o ∷ vint w64 k ∷ []) Post $ alloc_all ! (λ l. pass_all ! refl ((tt, ((tt, tt), tt)), ((tt, tt), ((tt, record { fits = fits }), tt))) $ let En : Env 𝓤 𝓛.H = env fn.locals l in
    sets ! (of_opd ! (get_in ! (fld ! refl (stop !)) (sub ! 0 refl (whole !)))) refl (tt, (tt, tt)) $
    sets ! (of_opd ! (get_in ! (fld ! refl (stop !)) (sub ! 0 refl (whole !)))) refl (tt, tt) $
    sets ! (of_opd ! (get ! refl)) refl (tt, tt) $
    sets ! (agg ! (and_then ! (get ! refl) (no_more !))) refl (tt, (tt, tt)) $
    sets ! (agg ! (and_then ! (get ! refl) (no_more !))) refl (tt, ((tt, tt), tt)) $
    sets ! (of_opd ! (get ! refl)) refl (tt, tt) $
    sets ! (agg ! (and_then ! (get ! refl) (no_more !))) refl (tt, (tt, tt)) $
    sets ! (agg ! (and_then ! (get ! refl) (no_more !))) refl (tt, ((tt, tt), tt)) $
    sets ! (of_opd ! (get ! refl)) refl (tt, ((tt, tt), tt)) $
    sets ! (of_opd ! (get ! refl)) refl (tt, ((tt, tt), tt)) $
    first ! $ blocks ! $
    sets ! (of_opd ! (get ! refl)) refl (tt, tt) $
    sets ! (of_opd ! (get ! refl)) refl (tt, record { fits = fits }) $
    sets ! (is ! (bin ! (get ! refl) (size_word !) (record { fits = subst (λ (j : ℕ). j < 2 ^ 64) (sym (uncapped k (type_size R) near)) near })) (ap (vint w64) (uncapped k (type_size R) near))) refl (tt, record { fits = near }) $
    sets_last ! (bin ! (get ! refl) (get ! refl) tt) refl (tt, tt) $
    exec ! C Λ En (after 11 fn.body) (at_ret En Post) $
    sets ! (of_opd ! (get ! refl)) refl (tt, tt) $
    let m : Val = vptr b (k * type_size R + o) in
    let V : RattleType = Values.the_row R in
    let all : Val = vstruct (vcons values_val (vcons values_val (vcons m vnil))) in
    sets ! (agg ! (and_then ! (get ! refl) (and_then ! (get ! refl) (and_then ! (get ! refl) (no_more !))))) refl (as_fields (layout V ∷ layout V ∷ ty_ptr ∷ []) (values_val ∷ values_val ∷ m ∷ []) ((tt, ((tt, tt), tt)), ((tt, ((tt, tt), tt)), ((tt, tt), tt)))) $
    returns ! (look_at ! 0 refl) $ free_all ! refl $
    feq_i ! (List Val) (m ∷ []) (ptr_val q ∷ []) (sym (ap (λ r. ptr_val (ptr_add R k r) ∷ []) at)) $ move ! (1 ∷ 2 ∷ 0 ∷ []) $ three_made ! V V RawPtr front back q values_val values_val m $
    let Said : Type 0 = (s ≡ s) × (front.items ≡ take k xs) × (back.items ≡ drop_l k xs) × (s.base ≡ s.base) × (s.size ≡ s.size) × (s.at + k ≡ s.at + k) × (q ≡ q) in
    use0 𝓛 (raw (fact 𝓤 Said)) (fact_i 𝓤 Said (emp 𝓤) (refl, refl, refl, refl, refl, refl, refl)) $
    nothing ! $ nothing ! $ fjoin ! $ nothing ! $ fjoin ! $ nothing ! $ fjoin ! $ move ! (3 ∷ 0 ∷ 2 ∷ 1 ∷ []) $
    by ! (leaves 𝓛 E (stays E) c z all (front, back, q) ((tt, tt), (tt, (tt, tt))) (tt, (tt, (tt, tt))))))))))))))
