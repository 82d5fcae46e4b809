-- `take_back` has the room of the part, whatever is written there. Assumes `Logic`.
use Rattle.std.proofs.Common.{◌≡◌, ℕ, ◌+◌, ◌*◌, ◌<◌, ◌≤◌, Bool, true, List, [], ◌∷◌, ◌++◌, length, refl, sym, ap, ◌∙◌, arith, lit<, w64}
use lib.ListN.{set, length-set}
use mir.Syntax.{Fn}
use mir.Val.{Val, vint}
use base.Logic.{SProp, id⊢, never, emp}
use base.Fml.{froom}
use prog.Wp.{Env, WpFn}
use contract.Monad.{fact, fact_i}
use contract.Running.{tables}
use types.Kit.{‵, raw, ◌⊛◌, prop, ◌$◌, ◌∵◌, !, qed, by, move, drop, use0, use1, use2, split, fsplit, fjoin, regoal, rewrite}
use types.Part.{whole, sub, agg}
use types.Run.{stop, fld, of_opd, and_then, no_more, returns, enter}
use types.ByLocal.{alloc_all, pass_all, free_all, look_at, get, get_in, sets, env}
use denote.RattleType.{owns}
use denote.RawPtr.{Ptr, block_ptr, in_a_block, ◌+ₚ◌}
use denote.Signature.{types_at}
use denote.Steps.{nothing, heard}
use denote.Triple.Entry.{alive}
use denote.Triple.Walked.{Stays, stay_dropped, walk_of, Goes-dropped}
use Rattle.std.proofs.alloc.Calls.{Goes-blank}
use Rattle.std.proofs.raw_atomic.Walks.{proved_at, leaves}
use Rattle.nm_region.specs.Parts.{bytes_of, lead, parts_at}
use Rattle.nm_region.proofs.Lodging.{memory, memory_room}
use Rattle.nm_region.proofs.Parts.{put_behind}
use Rattle.nm_region.proofs.Values.{block_val, block_own, block_told, block_made, part_val, part_told}
use Rattle.nm_region.proofs.Walks.{slot_at}
use Rattle.nm_region.specs.contracts.block.Block as block
use Rattle.nm_region.specs.contracts.block.Block.take_back.{ended, clauses}
use Rattle.nm_region.specs.contracts.block.Block.take_back.Key.{name as #self}
use Rattle.nm_region.proofs.block.Block.take_back.Statement.{statement}
use Rattle.nm_region.proofs.block.Block.take_back.Code as compiled

pub take_back_spec : {M : Type 1} → statement M
take_back_spec 𝓤 𝓛 𝓜 𝓡 wired =
    let H = 𝓛.H in
    let En₀ = ended in
    let c = clauses 𝓛 𝓜.mem 𝓡.returns in
    let fn : Fn = compiled.function in
    let stays : Stays En₀.signature.params En₀.kept = (stay_dropped (slot_at 0 En₀.signature.params) En₀.kept.0, (stay_dropped (slot_at 1 En₀.signature.params) En₀.kept.1.0, (stay_dropped (slot_at 2 En₀.signature.params) En₀.kept.1.1.0, tt))) in
    let C = (tables 𝓤 H 𝓜 𝓡 𝓡.env).C in
    let Λ = (tables 𝓤 H 𝓜 𝓡 𝓡.env).Λ in
    proved_at 𝓛 En₀ stays c 𝓜 𝓡 (Goes-blank 𝓛 0 (slot_at 0 En₀.signature.params) En₀.kept.0 (λ κs x f. tt), (Goes-blank 𝓛 0 (slot_at 1 En₀.signature.params) En₀.kept.1.0 (λ κs x f. tt), (Goes-dropped 𝓛 0 (slot_at 2 En₀.signature.params) En₀.kept.1.1.0 (λ κs x f. refl), tt))) #self fn (compiled.unfolded 𝓤 H 𝓜 𝓡 wired) (λ z are.
    let Post : Val → SProp 𝓤 = (walk_of 𝓛 En₀ stays c).post z in
    let a = z.0.3 in
    let vss = z.0.4 in
    let x = a.0 in
    let n = x.size in
    let d = a.1.0 in
    let k = a.1.1.0 in
    let told = block_told x.start n vss.0 are.0.0 in
    let fits = told.1 in
    let told' = part_told d.at vss.1.0 are.1.0.0 in
    let fk = are.1.1.0.1 in
    let home : List Bool = set x.home k true in
    let Asked : Type 0 = (k < length x.home) × (length d.items ≤ 2048) × (d.at ≡ x.start +ₚ (k * 2048 + lead)) in
    qed 𝓛 ((raw (alive 𝓛 En₀.signature z.0.0 z.0.1) ⊛ ‵ (owns (types_at En₀.signature.params z.0.0) a vss)) ∷ raw (fact 𝓤 Asked) ∷ []) ∵
    move ! (1 ∷ []) $ heard ! Asked (λ asked. split ! $ move ! (1 ∷ []) $
    fsplit ! $ fsplit ! $ drop ! $
    in_a_block ! x.start (λ p. parts_at p x.home) (id⊢ 𝓤 (never 𝓤)) (λ b o at. move ! (1 ∷ []) $ fsplit ! $ fsplit ! $ drop ! $ fsplit ! $ drop ! $
    let place : ℕ = o + lead + k * 2048 in
    let behind : o + (k * 2048 + lead) ≡ place = omega arith in
    let there : d.at ≡ block_ptr b place = asked.2 ∙ (ap (λ (p : Ptr). p +ₚ (k * 2048 + lead)) at ∙ ap (λ (j : ℕ). block_ptr b j) behind) in
    rewrite ! 0 (λ (p : Ptr). ‵ (memory p (length d.items) 2048 d.items)) there refl $
    use1 𝓛 (‵ (froom (bytes_of 2048) b place)) (memory_room 𝓛 b place (length d.items) 2048 d.items asked.1 (lit< tt)) $ move ! (1 ∷ []) $ drop ! $
    -- [the part; the lead and the other parts; the tokens]
    regoal ! (λ (us : List Val). prop (WpFn 𝓤 H C Λ fn us Post)) (λ i. (told.0 ∙ ap (λ (p : Ptr). block_val p n ∷ []) at) i ++ ((told' ∙ ap (λ (p : Ptr). part_val p ∷ []) there) i ++ (are.1.1.0.0 i ++ []))) refl $
    enter ! C Λ fn (block_val (block_ptr b o) n ∷ part_val (block_ptr b place) ∷ vint w64 k ∷ []) Post $
    alloc_all ! (λ l. pass_all ! refl ((tt, (tt, (record { fits = fits }, tt))), ((tt, (tt, tt)), ((tt, record { fits = fk }), tt))) $ let En : Env 𝓤 𝓛.H = env fn.locals l in
    sets ! (of_opd ! (get_in ! (fld ! refl (stop !)) (sub ! 0 refl (whole !)))) refl (tt, tt) $
    sets ! (of_opd ! (get_in ! (fld ! refl (stop !)) (sub ! 1 refl (whole !)))) refl (tt, record { fits = fits }) $
    sets ! (agg ! (and_then ! (get ! refl) (and_then ! (get ! refl) (no_more !)))) refl (tt, (tt, (record { fits = fits }, tt))) $
    returns ! (look_at ! 0 refl) $ free_all ! refl $
    let same : length home ≡ length x.home = length-set x.home k true in
    let y : (block.the_row).Denot = record { start = block_ptr b o; size = n; home = home; fits = (omega (arith, same, x.fits.0), x.fits.1) } in
    let Said : Type 0 = (block_ptr b o ≡ x.start) × (n ≡ n) × (home ≡ home) in
    use2 𝓛 (‵ (parts_at (block_ptr b o) home)) (put_behind 𝓛 2048 b lead x.home k o asked.0) $
    use0 𝓛 (‵ (block_own y.start n (block_val y.start n ∷ []))) (block_made 𝓛 y.start n fits) $ fjoin ! $
    use0 𝓛 (raw (fact 𝓤 Said)) (fact_i 𝓤 Said (emp 𝓤) (sym at, refl, refl)) $ nothing ! $ nothing ! $ fjoin ! $ nothing ! $ fjoin ! $ nothing ! $ fjoin ! $ move ! (3 ∷ 0 ∷ 2 ∷ 1 ∷ []) $
    by ! (leaves 𝓛 En₀ stays c z (block_val y.start n) y (tt, (tt, (tt, tt))) (tt, (tt, (tt, tt))))))))
