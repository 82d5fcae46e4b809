-- `detach` takes the values out, and leaves the way back. Assumes `Logic`.
use Rattle.std.proofs.Common.{◌≡◌, ◌*◌, ◌^◌, ◌<◌, List, [], ◌∷◌, ◌++◌, refl, sym}
use mir.Syntax.{Fn, a_type}
use mir.Val.{Val, vstruct, vcons, vnil}
use mir.MapTy.{inst_fn}
use base.Logic.{SProp, emp}
use base.Fml.{ftrue, flt}
use prog.Wp.{WpFn}
use contract.BorrowLft.{◌⊑◌}
use contract.Monad.{fact, fact_i}
use contract.Running.{tables}
use types.Kit.{‵, raw, ◌⊛◌, prop, ◌$◌, ◌∵◌, !, qed, by, move, drop, use0, use1, split, split3, regoal, fsplit, fjoin, fpack, feq_i}
use types.Part.{agg}
use types.Run.{of_opd, no_more, and_then, returns, enter}
use types.ByLocal.{alloc_all, pass_all, free_all, look_at, get, sets}
use denote.Laws.{Typed}
use denote.RattleType.{RattleType, owns}
use denote.RawPtr.{Ptr}
use denote.Param.{param, layout, layouts}
use denote.Param.Laws.{Laws, param_laws}
use denote.Signature.{types_at}
use denote.Steps.{nothing, heard}
use denote.Struct.Struct.{as_fields}
use denote.Triple.Entry.{alive}
use Rattle.std.proofs.alloc.Calls.{Goes-blank}
use Rattle.std.proofs.raw_atomic.Walks.{proved_at, leaves}
use Rattle.std.specs.Mem.{type_size}
use Rattle.std.specs.Ptr.{ptr_add}
use Rattle.nm_reach.specs.Cells.{values_at}
use Rattle.nm_reach.specs.Fields.{FieldState, husk_of}
use Rattle.nm_reach.specs.contracts.parts.Spot as Spot
use Rattle.nm_reach.specs.contracts.parts.Values as Values
use Rattle.nm_reach.specs.contracts.parts.Husk as Husk
use Rattle.nm_reach.proofs.Walks.{slot_at, stays, at_end, one, values_val, values_made}
use Rattle.std.specs.contracts.alloc.Global as heap
use Rattle.std.proofs.alloc.Global.TheLaws as heap_laws
use Rattle.std.specs.contracts.impls.GlobalAllocator.TheImpl.{ghosts}
use Rattle.std_alloc.proofs.vec.Vec.TheLaws as vec_laws
use Rattle.nm_reach.proofs.Cells.{at_first}
use Rattle.nm_reach.proofs.Husks.{Whole, carve}
use Rattle.nm_reach.proofs.Lodging.{tells, two_made}
use Rattle.nm_reach.specs.contracts.parts.detach.{ended, clauses}
use Rattle.nm_reach.specs.contracts.parts.detach.Key.{name as #self}
use Rattle.nm_reach.proofs.parts.detach.Statement.{statement}
use Rattle.nm_reach.proofs.parts.detach.Code as compiled

pub detach_spec : {M : Type 1} → statement M
detach_spec 𝓤 𝓛 𝓜 𝓡 wired T L =
    let E = ended T in let c = clauses T 𝓛 𝓜.mem 𝓡.returns in
    let fn : Fn = inst_fn (layouts (a_type ∷ []) (T, tt)) compiled.function in
    proved_at 𝓛 E (stays E) c 𝓜 𝓡 (Goes-blank 𝓛 1 (slot_at 0 E.signature.params) E.kept.0 (λ κs x f. tt), tt) (#self (layouts (a_type ∷ []) (T, tt))) fn (compiled.unfolded 𝓤 𝓛.H 𝓜 𝓡 wired (T, tt)) (λ z are.
    let a = z.0.3 in let vss = z.0.4 in let v = a.0 in let e : FieldState = husk_of v in
    let R : RattleType = param 0 T in let LR : Laws R = param_laws 0 T L in
    let C = (tables 𝓤 𝓛.H 𝓜 𝓡 𝓡.env).C in let Λ = (tables 𝓤 𝓛.H 𝓜 𝓡 𝓡.env).Λ in let Post : Val → SProp 𝓤 = at_end 𝓛 E c z in
    let spot : (Spot.the_row R).Denot = record { marker = record {}; base = v.ptr; size = v.len; at = 0; ptr = v.ptr } in
    let r : (Values.the_row R).Denot = record { spot = spot; items = v.items } in
    let Asked : Type 0 = 0 < v.len in
    qed 𝓛 ((raw (alive 𝓛 E.signature z.0.0 z.0.1) ⊛ ‵ (owns (types_at E.signature.params z.0.0) a vss)) ∷ (raw (fact 𝓤 (z.0.0.0 ⊑ T.lives)) ⊛ raw (fact 𝓤 Asked)) ∷ []) ∵
    move ! (1 ∷ []) $ split ! $ drop ! $ heard ! Asked (λ asked. split ! $ move ! (1 ∷ []) $
    fsplit ! $ tells ! (Whole R) (vec_laws.the_row_laws R heap.the_row ghosts LR heap_laws.the_row_laws) v vss.0 (λ u is good. move ! (1 ∷ []) $ drop ! $
    let inner = as_fields ((layout (Whole R)) ∷ []) (u ∷ []) (good, tt) in
    use1 𝓛 (‵ (values_at R v.ptr v.items) ⊛ (‵ (flt (v.len * type_size R) (2 ^ 63)) ⊛ ‵ (Husk.the_own R e (one u ∷ [])))) (carve R 𝓛 v u asked) $ split3 ! $
    feq_i ! Ptr v.ptr (ptr_add R 0 v.ptr) (sym (at_first R v.ptr)) $ move ! (2 ∷ 0 ∷ []) $ fjoin ! $ values_made ! R r $ move ! (1 ∷ []) $
    nothing ! $ fpack ! (Typed (Husk.the_row R).mir (one u ∷ [])) (λ _. ftrue) (inner, tt) $ fjoin ! $ move ! (1 ∷ 0 ∷ []) $ two_made ! (Values.the_row R) (Husk.the_row R) r e values_val (one u) $
    regoal ! (λ (us : List Val). prop (WpFn 𝓤 𝓛.H C Λ fn (us ++ []) Post)) is refl $
    enter ! C Λ fn (u ∷ []) Post $ alloc_all ! (λ l. pass_all ! refl (good, tt) $
    sets ! (agg ! (no_more !)) refl (tt, tt) $
    sets ! (agg ! (and_then ! (get ! refl) (no_more !))) refl (tt, (tt, tt)) $
    sets ! (agg ! (and_then ! (get ! refl) (no_more !))) refl (tt, ((tt, tt), tt)) $
    sets ! (of_opd ! (get ! refl)) refl good $
    sets ! (agg ! (and_then ! (get ! refl) (no_more !))) refl inner $
    sets ! (agg ! (and_then ! (get ! refl) (and_then ! (get ! refl) (no_more !)))) refl (as_fields (layout (Values.the_row R) ∷ layout (Husk.the_row R) ∷ []) (values_val ∷ one u ∷ []) ((tt, ((tt, tt), tt)), (inner, tt))) $
    returns ! (look_at ! 0 refl) $ free_all ! refl $
    let Said : Type 0 = (r.items ≡ v.items) × (v.ptr ≡ v.ptr) × (v.len ≡ v.len) × (0 ≡ 0) × (v.ptr ≡ v.ptr) × (e ≡ e) in
    use0 𝓛 (raw (fact 𝓤 Said)) (fact_i 𝓤 Said (emp 𝓤) (refl, refl, refl, refl, refl, refl)) $ nothing ! $ nothing ! $ fjoin ! $ move ! (3 ∷ 0 ∷ 2 ∷ 1 ∷ []) $
    by ! (leaves 𝓛 E (stays E) c z (vstruct (vcons values_val (vcons (one u) vnil))) (r, e) (tt, tt) (tt, tt))))))
