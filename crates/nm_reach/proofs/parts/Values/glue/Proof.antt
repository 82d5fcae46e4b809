-- `glue` takes the cells of two runs that meet for one. Assumes `Logic`.
use Rattle.std.proofs.Common.{◌≡◌, ◌+◌, ◌*◌, ◌^◌, List, [], ◌∷◌, ◌++◌, length, refl, sym, ap, ◌∙◌}
use mir.Syntax.{Fn, a_type}
use mir.Val.{Val}
use mir.MapTy.{inst_fn}
use base.Logic.{SProp, emp, id⊢, never}
use prog.Wp.{WpFn}
use contract.BorrowLft.{◌⊑◌}
use contract.Monad.{fact, fact_i}
use contract.Running.{tables}
use types.Kit.{‵, raw, ◌⊛◌, prop, ◌$◌, ◌∵◌, !, qed, by, move, drop, use0, use2, split, rewrite, regoal, fsplit, fjoin, feq_i, feq_l, flt_i, flt_l}
use types.Part.{whole, sub, agg}
use types.Run.{stop, fld, of_opd, no_more, and_then, returns, enter}
use types.ByLocal.{alloc_all, pass_all, free_all, look_at, get, get_in, sets}
use denote.RattleType.{RattleType, owns}
use denote.RawPtr.{Ptr, block_ptr, in_a_block}
use denote.Param.{param, layouts}
use denote.Signature.{types_at}
use denote.Steps.{nothing, heard}
use denote.Triple.Entry.{alive}
use Rattle.std.proofs.alloc.Calls.{Goes-blank}
use Rattle.std.proofs.raw_atomic.Walks.{proved_at, leaves}
use Rattle.std.specs.Mem.{type_size}
use Rattle.std.specs.Ptr.{ptr_add}
use Rattle.nm_reach.specs.Cells.{values_at}
use Rattle.nm_reach.specs.contracts.parts.Values as Values
use Rattle.nm_reach.proofs.Walks.{slot_at, stays, at_end, values_val, values_had, values_made}
use Rattle.nm_reach.proofs.Cells.{added, glue}
use Rattle.nm_reach.specs.contracts.parts.Values.glue.{ended, clauses}
use Rattle.nm_reach.specs.contracts.parts.Values.glue.Key.{name as #self}
use Rattle.nm_reach.proofs.parts.Values.glue.Statement.{statement}
use Rattle.nm_reach.proofs.parts.Values.glue.Code as compiled

pub glue_spec : {M : Type 1} → statement M
glue_spec 𝓤 𝓛 𝓜 𝓡 wired T L =
    let E = ended T in let c = clauses T 𝓛 𝓜.mem 𝓡.returns in
    let fn : Fn = inst_fn (layouts (a_type ∷ []) (T, tt)) compiled.function in
    proved_at 𝓛 E (stays E) c 𝓜 𝓡 (Goes-blank 𝓛 1 (slot_at 0 E.signature.params) E.kept.0 (λ κs x f. tt), (Goes-blank 𝓛 1 (slot_at 1 E.signature.params) E.kept.1.0 (λ κs x f. tt), tt)) (#self (layouts (a_type ∷ []) (T, tt))) fn (compiled.unfolded 𝓤 𝓛.H 𝓜 𝓡 wired (T, tt)) (λ z are.
    let a = z.0.3 in let vss = z.0.4 in let x = a.0 in let s = x.spot in let xs = x.items in let y = a.1.0 in let ys = y.items in let n = length xs in
    let R : RattleType = param 0 T in
    let C = (tables 𝓤 𝓛.H 𝓜 𝓡 𝓡.env).C in let Λ = (tables 𝓤 𝓛.H 𝓜 𝓡 𝓡.env).Λ in let Post : Val → SProp 𝓤 = at_end 𝓛 E c z in
    let r : (Values.the_row R).Denot = record { spot = s; items = xs ++ ys } in
    let Asked : Type 0 = (y.spot.base ≡ s.base) × (y.spot.at ≡ s.at + n) in
    qed 𝓛 ((raw (alive 𝓛 E.signature z.0.0 z.0.1) ⊛ ‵ (owns (types_at E.signature.params z.0.0) a vss)) ∷ (raw (fact 𝓤 (z.0.0.0 ⊑ T.lives)) ⊛ raw (fact 𝓤 Asked)) ∷ []) ∵
    move ! (1 ∷ []) $ split ! $ drop ! $ heard ! Asked (λ asked. split ! $ move ! (1 ∷ []) $
    fsplit ! $ values_had ! R x vss.0 (λ is₀. move ! (2 ∷ []) $ fsplit ! $ values_had ! R y vss.1.0 (λ is₁. move ! (2 ∷ []) $ drop ! $
    -- [the second spot; its values; the first spot; its values; the tokens]
    fsplit ! $ flt_l ! (λ small₁. feq_l ! (λ there₁. move ! (1 ∷ []) $ fsplit ! $ flt_l ! (λ small. feq_l ! (λ there. move ! (1 ∷ []) $
    -- [the first values; the second; the tokens]
    in_a_block ! s.ptr (λ p. values_at R p xs) (id⊢ 𝓤 (never 𝓤)) (λ b o at.
    let meets : y.spot.ptr ≡ ptr_add R n (block_ptr b o) =
    there₁ ∙ (λ i. ptr_add R (asked.1 i) (asked.0 i)) ∙ sym (added R s.at n s.base) ∙ ap (ptr_add R n) (sym there ∙ at) in
    rewrite ! 1 (λ p. ‵ (values_at R p ys)) meets refl $ use2 𝓛 (‵ (values_at R (block_ptr b o) (xs ++ ys))) (glue T L 𝓛 b o xs ys) $
    rewrite ! 0 (λ p. ‵ (values_at R p (xs ++ ys))) (sym at) refl $
    feq_i ! Ptr s.ptr (ptr_add R s.at s.base) there $ flt_i ! (s.size * type_size R) (2 ^ 63) small $ fjoin ! $ values_made ! R r $
    regoal ! (λ (us : List Val). prop (WpFn 𝓤 𝓛.H C Λ fn (us ++ (vss.1.0 ++ [])) Post)) is₀ refl $
    regoal ! (λ (us : List Val). prop (WpFn 𝓤 𝓛.H C Λ fn ((values_val ∷ []) ++ (us ++ [])) Post)) is₁ refl $
    enter ! C Λ fn (values_val ∷ values_val ∷ []) Post $ alloc_all ! (λ l. pass_all ! refl ((tt, ((tt, tt), tt)), ((tt, ((tt, tt), tt)), tt)) $
    sets ! (of_opd ! (get_in ! (fld ! refl (stop !)) (sub ! 0 refl (whole !)))) refl (tt, (tt, tt)) $
    sets ! (agg ! (and_then ! (get ! refl) (no_more !))) refl (tt, ((tt, tt), tt)) $
    returns ! (look_at ! 0 refl) $ free_all ! refl $
    let Said : Type 0 = (s ≡ s) × (r.items ≡ xs ++ ys) in
    use0 𝓛 (raw (fact 𝓤 Said)) (fact_i 𝓤 Said (emp 𝓤) (refl, refl)) $ nothing ! $ nothing ! $ fjoin ! $ nothing ! $ fjoin ! $ move ! (3 ∷ 0 ∷ 2 ∷ 1 ∷ []) $
    by ! (leaves 𝓛 E (stays E) c z values_val r ((tt, tt), ((tt, tt), tt)) (tt, (tt, tt)))))))))))))
