-- `vacate` takes the values from `dislodge`. Assumes `Logic`.
use Rattle.std.proofs.Common.{◌≡◌, ◌^◌, ◌<◌, List, [], ◌∷◌, ◌++◌, refl, sym, w64}
use mir.Syntax.{Fn, a_type}
use mir.Val.{Val, vint}
use mir.MapTy.{inst_fn}
use base.Logic.{SProp, emp}
use prog.Wp.{WpFn}
use contract.BorrowLft.{◌⊑◌}
use contract.Monad.{fact, fact_i}
use contract.Running.{tables}
use types.Kit.{‵, raw, ◌⊛◌, given, later, prop, ◌$◌, ◌∵◌, !, qed, by, move, drop, use0, use1, split, learn, rewrite, regoal, fsplit, fjoin, await}
use types.Part.{agg}
use types.Run.{of_opd, no_more, and_then, returns, enter}
use types.ByLocal.{alloc_all, pass_all, free_all, look_at, get, sets, lands_as}
use denote.RattleType.{RattleType, owns}
use denote.Param.{param, layouts}
use denote.Param.Laws.{Laws, param_laws}
use denote.Signature.{types_at}
use denote.Steps.{nothing, heard}
use denote.Triple.Call.{calls_at}
use denote.Triple.Entry.{alive}
use denote.Triple.Table.{framed}
use Rattle.std.proofs.alloc.Calls.{Goes-blank}
use Rattle.std.proofs.raw_atomic.Walks.{proved_at, leaves}
use Rattle.std.proofs.mem.Timeless.{timeless, timeless_laws}
use Rattle.nm_reach.specs.Cells.{values_at}
use Rattle.nm_reach.specs.contracts.parts.Values as Values
use Rattle.nm_reach.proofs.Walks.{slot_at, stays, at_end, spot_val, values_val, spot_had, values_made}
use Rattle.std_alloc.specs.Vec.Ownership.{lodged}
use Rattle.std_alloc.proofs.vec.lodged.Vec+T+Lodged.dislodge.Met as callee
use Rattle.nm_reach.proofs.Cells.{vacated}
use Rattle.nm_reach.proofs.Lodging.{Row, row_laws, tells, Dislodges, at_dislodge, dislodge_goes, dislodge_gives}
use Rattle.nm_reach.specs.contracts.parts.vacate.{ended, clauses}
use Rattle.nm_reach.specs.contracts.parts.vacate.Key.{name as #self}
use Rattle.nm_reach.proofs.parts.vacate.Statement.{statement}
use Rattle.nm_reach.proofs.parts.vacate.Code as compiled

pub vacate_spec : {M : Type 1} → statement M
vacate_spec 𝓤 𝓛 𝓜 𝓡 wired T L =
    let E = ended T in let c = clauses T 𝓛 𝓜.mem 𝓡.returns in
    let fn : Fn = inst_fn (layouts (a_type ∷ []) (T, tt)) compiled.function in
    proved_at 𝓛 E (stays E) c 𝓜 𝓡 (Goes-blank 𝓛 1 (slot_at 0 E.signature.params) E.kept.0 (λ κs x f. tt), (Goes-blank 𝓛 1 (slot_at 1 E.signature.params) E.kept.1.0 (λ κs x f. tt), tt)) (#self (layouts (a_type ∷ []) (T, tt))) fn (compiled.unfolded 𝓤 𝓛.H 𝓜 𝓡 wired (T, tt)) (λ z are.
    let a = z.0.3 in let vss = z.0.4 in let v = a.0 in let s = a.1.0 in
    let R : RattleType = param 0 T in let LR : Laws R = param_laws 0 T L in
    let C = (tables 𝓤 𝓛.H 𝓜 𝓡 𝓡.env).C in let Λ = (tables 𝓤 𝓛.H 𝓜 𝓡 𝓡.env).Λ in let Post : Val → SProp 𝓤 = at_end 𝓛 E c z in
    let r : (Values.the_row R).Denot = record { spot = s; items = v.items } in
    let Asked : Type 0 = (s.ptr ≡ v.ptr) × (v.cap ≡ v.len) in
    qed 𝓛 ((raw (alive 𝓛 E.signature z.0.0 z.0.1) ⊛ ‵ (owns (types_at E.signature.params z.0.0) a vss)) ∷ (raw (fact 𝓤 (z.0.0.0 ⊑ T.lives)) ⊛ raw (fact 𝓤 Asked)) ∷ []) ∵
    move ! (1 ∷ []) $ split ! $ drop ! $ heard ! Asked (λ asked. split ! $ move ! (1 ∷ []) $
    fsplit ! $ tells ! (Row R) (row_laws R LR) v vss.0 (λ u is good. move ! (1 ∷ []) $ fsplit ! $ spot_had ! R s vss.1.0 (λ is₁. move ! (1 ∷ []) $ drop ! $ move ! (1 ∷ []) $
    -- [the vector; the spot; the tokens]
    let y = at_dislodge T 𝓛 𝓜.mem 𝓡.returns v u in
    regoal ! (λ (us : List Val). prop (WpFn 𝓤 𝓛.H C Λ fn (us ++ (vss.1.0 ++ [])) Post)) is refl $
    regoal ! (λ (us : List Val). prop (WpFn 𝓤 𝓛.H C Λ fn ((u ∷ []) ++ (us ++ [])) Post)) is₁ refl $
    enter ! C Λ fn (u ∷ spot_val ∷ []) Post $ alloc_all ! (λ l. pass_all ! refl (good, ((tt, (tt, tt)), tt)) $
    sets ! (of_opd ! (get ! refl)) refl good $ use1 𝓛 (raw ((Dislodges T 𝓛 𝓜.mem 𝓡.returns).pre y)) (dislodge_goes T 𝓛 𝓜.mem 𝓡.returns v u) $
    calls_at ! (framed 𝓤 𝓛.H 𝓜 (tables 𝓤 𝓛.H 𝓜 𝓡 𝓡.env)) (Dislodges T 𝓛 𝓜.mem 𝓡.returns) (callee.met 𝓤 𝓛 𝓜 𝓡 (compiled.calls-std_alloc::vec::lodged::Vec+T+Lodged::dislodge 𝓡.env wired) (timeless T) (timeless_laws T L)) y
    (and_then ! (get ! refl) (no_more !)) (λ w.
    use1 𝓛 (later (given ((w ≡ vint w64 v.len) × (v.len < 2 ^ 64)) (‵ (lodged R v.ptr v.len v.cap v.items)))) (dislodge_gives T 𝓛 𝓜.mem 𝓡.returns v u w) $ await ! tt $ learn ! (λ got.
    lands_as ! got.0 refl (tt, record { fits = got.1 }) $
    sets ! (agg ! (and_then ! (get ! refl) (no_more !))) refl (tt, ((tt, tt), tt)) $
    returns ! (look_at ! 0 refl) $ free_all ! refl $
    use1 𝓛 (‵ (values_at R v.ptr v.items)) (vacated T L 𝓛 v.ptr v.len v.cap v.items (sym v.ok.0) asked.1) $ rewrite ! 0 (λ p. ‵ (values_at R p v.items)) (sym asked.0) refl $ move ! (1 ∷ 0 ∷ []) $ values_made ! R r $
    let Said : Type 0 = (v.items ≡ v.items) × (s ≡ s) in
    use0 𝓛 (raw (fact 𝓤 Said)) (fact_i 𝓤 Said (emp 𝓤) (refl, refl)) $ nothing ! $ nothing ! $ fjoin ! $ nothing ! $ fjoin ! $ move ! (3 ∷ 0 ∷ 2 ∷ 1 ∷ []) $
    by ! (leaves 𝓛 E (stays E) c z values_val r (tt, (tt, tt)) (tt, (tt, tt))))))))))
