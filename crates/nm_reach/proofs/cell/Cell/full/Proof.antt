-- `full` makes a cell of its value. Assumes `Logic`.
use Rattle.std.proofs.Common.{◌≡◌, List, [], ◌∷◌, ◌++◌, Some, refl}
use mir.Syntax.{Fn, a_type}
use mir.Val.{Val}
use mir.MapTy.{inst_fn}
use base.Logic.{SProp, emp}
use base.Fml.{ftrue}
use prog.Wp.{WpFn}
use contract.BorrowLft.{◌⊑◌}
use contract.Monad.{fact, fact_i}
use contract.Running.{tables}
use types.Kit.{‵, raw, ◌⊛◌, prop, ◌$◌, ◌∵◌, !, qed, by, move, drop, use0, split, regoal, fsplit, fjoin, fpack}
use types.Part.{agg}
use types.Run.{of_opd, no_more, and_then, returns, enter}
use types.ByLocal.{alloc_all, pass_all, free_all, look_at, get, sets}
use denote.Laws.{Typed}
use denote.RattleType.{RattleType, owns}
use denote.Param.{param, layout, layouts}
use denote.Param.Laws.{Laws, param_laws}
use denote.Signature.{types_at}
use denote.Steps.{nothing}
use denote.Struct.Struct.{as_fields}
use denote.Triple.Entry.{alive}
use Rattle.std.proofs.alloc.Calls.{Goes-blank}
use Rattle.std.proofs.raw_atomic.Walks.{proved_at, leaves}
use Rattle.nm_reach.specs.contracts.cell.Cell as Cell
use Rattle.nm_reach.proofs.Walks.{slot_at, stays, at_end, one, one_made}
use Rattle.nm_reach.proofs.Lodging.{tells}
use Rattle.nm_reach.specs.contracts.cell.Cell.full.{ended, clauses}
use Rattle.nm_reach.specs.contracts.cell.Cell.full.Key.{name as #self}
use Rattle.nm_reach.proofs.cell.Cell.full.Statement.{statement}
use Rattle.nm_reach.proofs.cell.Cell.full.Code as compiled

pub full_spec : {M : Type 1} → statement M
full_spec 𝓤 𝓛 𝓜 𝓡 wired T L =
    let E = ended T in let c = clauses T 𝓛 𝓜.mem 𝓡.returns in
    let fn : Fn = inst_fn (layouts (a_type ∷ []) (T, tt)) compiled.function in
    proved_at 𝓛 E (stays E) c 𝓜 𝓡 (Goes-blank 𝓛 1 (slot_at 0 E.signature.params) E.kept.0 (λ κs x f. tt), tt) (#self (layouts (a_type ∷ []) (T, tt))) fn (compiled.unfolded 𝓤 𝓛.H 𝓜 𝓡 wired (T, tt)) (λ z are.
    let a = z.0.3 in let vss = z.0.4 in let x = a.0 in
    let R : RattleType = param 0 T in let LR : Laws R = param_laws 0 T L in
    let C = (tables 𝓤 𝓛.H 𝓜 𝓡 𝓡.env).C in let Λ = (tables 𝓤 𝓛.H 𝓜 𝓡 𝓡.env).Λ in let Post : Val → SProp 𝓤 = at_end 𝓛 E c z in
    let r : (Cell.the_row R).Denot = Some x in
    qed 𝓛 ((raw (alive 𝓛 E.signature z.0.0 z.0.1) ⊛ ‵ (owns (types_at E.signature.params z.0.0) a vss)) ∷ (raw (fact 𝓤 (z.0.0.0 ⊑ T.lives)) ⊛ ‵ ftrue) ∷ []) ∵
    move ! (1 ∷ []) $ drop ! $ split ! $ move ! (1 ∷ []) $ fsplit ! $ tells ! R LR x vss.0 (λ u is good. move ! (1 ∷ []) $ drop ! $
    let inner = as_fields (layout R ∷ []) (u ∷ []) (good, tt) in
    regoal ! (λ (us : List Val). prop (WpFn 𝓤 𝓛.H C Λ fn (us ++ []) Post)) is refl $
    enter ! C Λ fn (u ∷ []) Post $ alloc_all ! (λ l. pass_all ! refl (good, tt) $
    sets ! (of_opd ! (get ! refl)) refl good $
    sets ! (agg ! (and_then ! (get ! refl) (no_more !))) refl inner $
    returns ! (look_at ! 0 refl) $ free_all ! refl $
    one_made ! R x u $ nothing ! $ fpack ! (Typed (Cell.the_row R).mir (one u ∷ [])) (λ _. ftrue) (inner, tt) $ fjoin ! $
    let Said : Type 0 = r ≡ r in
    use0 𝓛 (raw (fact 𝓤 Said)) (fact_i 𝓤 Said (emp 𝓤) refl) $ nothing ! $ nothing ! $ fjoin ! $ move ! (3 ∷ 0 ∷ 2 ∷ 1 ∷ []) $
    by ! (leaves 𝓛 E (stays E) c z (one u) r (tt, tt) (tt, tt)))))
