-- `nowhere` is the first cell, wherever its pointer leads. Assumes `Logic`.
use Rattle.std.proofs.Common.{◌≡◌, ◌*◌, ◌^◌, List, [], ◌∷◌, ◌++◌, refl, sym, arith}
use mir.Syntax.{Fn, a_type}
use mir.Val.{Val}
use mir.MapTy.{inst_fn}
use base.Logic.{SProp, emp}
use base.Fml.{ftrue}
use prog.Wp.{WpFn}
use contract.BorrowLft.{◌⊑◌}
use contract.Monad.{fact, fact_i}
use contract.Running.{tables}
use types.Kit.{‵, raw, ◌⊛◌, prop, ◌$◌, ◌∵◌, !, qed, by, move, drop, use0, split, regoal, fsplit, fjoin, feq_i, feq_l, flt_i}
use types.Part.{agg}
use types.Run.{no_more, and_then, returns, enter}
use types.ByLocal.{alloc_all, pass_all, free_all, look_at, get, sets}
use denote.RattleType.{RattleType, owns}
use denote.RawPtr.{Ptr, ptr_val}
use denote.Param.{param, layouts}
use denote.Signature.{types_at}
use denote.Steps.{nothing}
use denote.Triple.Entry.{alive}
use Rattle.std.proofs.alloc.Calls.{Goes-blank}
use Rattle.std.proofs.raw_atomic.Walks.{proved_at, leaves}
use Rattle.std.specs.Mem.{type_size}
use Rattle.std.specs.Ptr.{ptr_add}
use Rattle.nm_reach.specs.contracts.parts.Spot as Spot
use Rattle.nm_reach.proofs.Walks.{slot_at, stays, at_end, spot_val, spot_made}
use Rattle.std_alloc.proofs.RcSteps.{Ptr-Good}
use Rattle.nm_reach.proofs.Cells.{at_first}
use native.Mathlib.Nat.{zero-mul}
use Rattle.nm_reach.specs.contracts.parts.Spot.nowhere.{ended, clauses}
use Rattle.nm_reach.specs.contracts.parts.Spot.nowhere.Key.{name as #self}
use Rattle.nm_reach.proofs.parts.Spot.nowhere.Statement.{statement}
use Rattle.nm_reach.proofs.parts.Spot.nowhere.Code as compiled

pub nowhere_spec : {M : Type 1} → statement M
nowhere_spec 𝓤 𝓛 𝓜 𝓡 wired T L =
    let E = ended T in let c = clauses T 𝓛 𝓜.mem 𝓡.returns in
    let fn : Fn = inst_fn (layouts (a_type ∷ []) (T, tt)) compiled.function in
    proved_at 𝓛 E (stays E) c 𝓜 𝓡 (Goes-blank 𝓛 1 (slot_at 0 E.signature.params) E.kept.0 (λ κs x f. tt), tt) (#self (layouts (a_type ∷ []) (T, tt))) fn (compiled.unfolded 𝓤 𝓛.H 𝓜 𝓡 wired (T, tt)) (λ z are.
    let a = z.0.3 in let vss = z.0.4 in let p = a.0 in
    let R : RattleType = param 0 T in
    let C = (tables 𝓤 𝓛.H 𝓜 𝓡 𝓡.env).C in let Λ = (tables 𝓤 𝓛.H 𝓜 𝓡 𝓡.env).Λ in let Post : Val → SProp 𝓤 = at_end 𝓛 E c z in
    let s : (Spot.the_row R).Denot = record { marker = record {}; base = p; size = 0; at = 0; ptr = p } in
    let none' : 0 * type_size R ≡ 0 = zero-mul (type_size R) in
    qed 𝓛 ((raw (alive 𝓛 E.signature z.0.0 z.0.1) ⊛ ‵ (owns (types_at E.signature.params z.0.0) a vss)) ∷ (raw (fact 𝓤 (z.0.0.0 ⊑ T.lives)) ⊛ ‵ ftrue) ∷ []) ∵
    move ! (1 ∷ []) $ drop ! $ split ! $ move ! (1 ∷ []) $ fsplit ! $ feq_l ! (λ is. drop ! $
    regoal ! (λ (us : List Val). prop (WpFn 𝓤 𝓛.H C Λ fn (us ++ []) Post)) is refl $
    enter ! C Λ fn (ptr_val p ∷ []) Post $ alloc_all ! (λ l. pass_all ! refl (Ptr-Good p, tt) $
    sets ! (agg ! (no_more !)) refl (tt, tt) $
    sets ! (agg ! (and_then ! (get ! refl) (no_more !))) refl (tt, (tt, tt)) $
    returns ! (look_at ! 0 refl) $ free_all ! refl $
    feq_i ! Ptr p (ptr_add R 0 p) (sym (at_first R p)) $ flt_i ! (0 * type_size R) (2 ^ 63) (omega (arith, none')) $ fjoin ! $ spot_made ! R s $
    let Said : Type 0 = (p ≡ p) × (0 ≡ 0) × (0 ≡ 0) × (p ≡ p) in
    use0 𝓛 (raw (fact 𝓤 Said)) (fact_i 𝓤 Said (emp 𝓤) (refl, refl, refl, refl)) $ nothing ! $ nothing ! $ fjoin ! $ move ! (3 ∷ 0 ∷ 2 ∷ 1 ∷ []) $
    by ! (leaves 𝓛 E (stays E) c z spot_val s (tt, tt) (tt, tt)))))
