-- `located` reads the place off the token. Assumes `Logic`.
use Rattle.std.proofs.Common.{◌≡◌, List, [], ◌∷◌, ◌++◌, refl}
use mir.Syntax.{Fn}
use mir.Val.{Val}
use base.Logic.{SProp, emp}
use base.Fml.{ftrue}
use prog.Wp.{Env, WpFn}
use contract.Monad.{fact, fact_i}
use contract.Running.{tables}
use types.Kit.{‵, raw, ◌⊛◌, prop, ◌$◌, ◌∵◌, !, qed, by, move, drop, use0, split, regoal, fsplit, fjoin}
use types.Part.{whole, sub, agg}
use types.Run.{stop, fld, of_opd, no_more, and_then, returns, enter}
use types.ByLocal.{alloc_all, pass_all, free_all, look_at, get, get_in, sets, env}
use denote.RattleType.{owns}
use denote.RawPtr.{count_of}
use denote.Signature.{types_at}
use denote.Steps.{nothing}
use denote.Triple.Entry.{alive}
use denote.Triple.Walked.{Stays, stay_dropped, walk_of}
use Rattle.std.proofs.alloc.Calls.{Goes-blank}
use Rattle.std.proofs.raw_atomic.Walks.{proved_at, leaves}
use Rattle.nm_region.proofs.Walks.{slot_at, learns}
use Rattle.nm_region.proofs.Values.{deed_val, deed_own, deed_told, deed_made}
use Rattle.nm_region.specs.Parts.{bytes_of}
use Rattle.std.proofs.GlobalToken.{dealloc_token_start}
use Rattle.nm_region.specs.contracts.block.Deed+Global.located.{ended, clauses}
use Rattle.nm_region.specs.contracts.block.Deed+Global.located.Key.{name as #self}
use Rattle.nm_region.proofs.block.Deed+Global.located.Statement.{statement}
use Rattle.nm_region.proofs.block.Deed+Global.located.Code as compiled

pub located_spec : {M : Type 1} → statement M
located_spec 𝓤 𝓛 𝓜 𝓡 wired =
    let H = 𝓛.H in
    let En₀ = ended in
    let c₀ = clauses 𝓛 𝓜.mem 𝓡.returns in
    let fn : Fn = compiled.function in
    let stays : Stays En₀.signature.params En₀.kept = (stay_dropped (slot_at 0 En₀.signature.params) En₀.kept.0, tt) in
    let c = c₀ in
    let C = (tables 𝓤 H 𝓜 𝓡 𝓡.env).C in
    let Λ = (tables 𝓤 H 𝓜 𝓡 𝓡.env).Λ in
    proved_at 𝓛 En₀ stays c 𝓜 𝓡 (Goes-blank 𝓛 0 (slot_at 0 En₀.signature.params) En₀.kept.0 (λ κs x f. tt), tt) #self fn (compiled.unfolded 𝓤 H 𝓜 𝓡 wired) (λ z are.
    let Post : Val → SProp 𝓤 = (walk_of 𝓛 En₀ stays c).post z in
    let a = z.0.3 in
    let vss = z.0.4 in
    let x = a.0 in
    qed 𝓛 ((raw (alive 𝓛 En₀.signature z.0.0 z.0.1) ⊛ ‵ (owns (types_at En₀.signature.params z.0.0) a vss)) ∷ ‵ ftrue ∷ []) ∵ move ! (1 ∷ []) $ drop ! $ split ! $ move ! (1 ∷ []) $
    fsplit ! $ fsplit ! $ drop ! $ move ! (1 ∷ []) $ drop ! $ learns ! 1 (count_of x.start ≡ 0) (dealloc_token_start 𝓛 x.alloc (bytes_of x.size) x.start) (λ zero'.
    regoal ! (λ (us : List Val). prop (WpFn 𝓤 H C Λ fn us Post)) (λ i. (deed_told vss.0 are.0.0).0 i ++ []) refl $
    enter ! C Λ fn (deed_val ∷ []) Post $
    alloc_all ! (λ l. pass_all ! refl ((tt, (tt, tt)), tt) $ let En : Env 𝓤 𝓛.H = env fn.locals l in
    sets ! (of_opd ! (get_in ! (fld ! refl (stop !)) (sub ! 0 refl (whole !)))) refl (tt, tt) $
    sets ! (agg ! (and_then ! (get ! refl) (no_more !))) refl (tt, (tt, tt)) $
    returns ! (look_at ! 0 refl) $ free_all ! refl $
    use0 𝓛 (‵ (deed_own (deed_val ∷ []))) (deed_made 𝓛 tt) $ fjoin ! $ use0 𝓛 (raw (fact 𝓤 ((x ≡ x) × (count_of x.start ≡ 0)))) (fact_i 𝓤 ((x ≡ x) × (count_of x.start ≡ 0)) (emp 𝓤) (refl, zero')) $ nothing ! $ nothing ! $ fjoin ! $ move ! (3 ∷ 0 ∷ 2 ∷ 1 ∷ []) $
    by ! (leaves 𝓛 En₀ stays c z (deed_val) (x) (tt, tt) (tt, tt)))))
