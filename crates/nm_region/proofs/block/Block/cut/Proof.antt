-- `cut` takes the room of one part out. Assumes `Logic`.
use Rattle.std.proofs.Common.{◌≡◌, ℕ, ◌+◌, ◌*◌, ◌^◌, ◌<◌, Bool, true, false, List, [], ◌∷◌, ◌++◌, length, get_or, refl, sym, ap, ◌∙◌, arith, lit<, w64}
use lib.ListN.{set, length-set}
use native.Mathlib.Nat.{add_comm}
use mir.Syntax.{Fn}
use mir.Val.{Val, vint}
use base.Logic.{SProp, id⊢, never, emp}
use base.Fml.{froom}
use prog.Wp.{Env, WpFn}
use contract.Monad.{fact, fact_i}
use contract.Running.{tables}
use types.Kit.{‵, raw, ◌⊛◌, prop, ◌$◌, ◌∵◌, !, qed, by, move, drop, use0, use1, use2, split, fsplit, fjoin, regoal, rewrite, at_ret}
use types.Part.{whole, sub, agg}
use types.Run.{stop, fld, bin, of_opd, and_then, no_more, first, blocks, exec, returns, enter}
use types.ByLocal.{alloc_all, pass_all, free_all, look_at, get, get_in, sets, sets_last, env}
use denote.RattleType.{owns}
use denote.Builtin.{u8}
use denote.RawPtr.{Ptr, block_ptr, in_a_block, ◌+ₚ◌}
use denote.Signature.{types_at}
use denote.Steps.{nothing, heard}
use denote.Struct.Tuple.{Tuple}
use denote.Triple.Entry.{alive}
use denote.Triple.Walked.{Stays, stay_dropped, walk_of, Goes-dropped}
use Rattle.std.proofs.alloc.Calls.{Goes-blank}
use Rattle.std.proofs.alloc.Shapes.{after}
use Rattle.std.proofs.raw_atomic.Walks.{proved_at, leaves}
use Rattle.std_alloc.proofs.Pairs.{pair_of, pair_val}
use Rattle.std_alloc.specs.Vec.Ownership.{lodged}
use Rattle.nm_region.specs.Parts.{bytes_of, lead, parts_at}
use Rattle.nm_region.proofs.Lodging.{unwritten}
use Rattle.nm_region.proofs.Parts.{taken_behind}
use Rattle.nm_region.proofs.Values.{block_val, block_own, block_told, block_made, part_val, part_own, part_made}
use Rattle.nm_region.proofs.Walks.{slot_at, big}
use Rattle.nm_region.specs.contracts.block.Block as block
use Rattle.nm_region.specs.contracts.part.Part as part
use Rattle.nm_region.specs.contracts.block.Block.cut.{ended, clauses}
use Rattle.nm_region.specs.contracts.block.Block.cut.Key.{name as #self}
use Rattle.nm_region.proofs.block.Block.cut.Statement.{statement}
use Rattle.nm_region.proofs.block.Block.cut.Code as compiled

pub cut_spec : {M : Type 1} → statement M
cut_spec 𝓤 𝓛 𝓜 𝓡 wired =
    let H = 𝓛.H in
    let En₀ = ended in
    let c = clauses 𝓛 𝓜.mem 𝓡.returns in
    let fn : Fn = compiled.function in
    let stays : Stays En₀.signature.params En₀.kept = (stay_dropped (slot_at 0 En₀.signature.params) En₀.kept.0, (stay_dropped (slot_at 1 En₀.signature.params) En₀.kept.1.0, tt)) in
    let C = (tables 𝓤 H 𝓜 𝓡 𝓡.env).C in
    let Λ = (tables 𝓤 H 𝓜 𝓡 𝓡.env).Λ in
    proved_at 𝓛 En₀ stays c 𝓜 𝓡 (Goes-blank 𝓛 0 (slot_at 0 En₀.signature.params) En₀.kept.0 (λ κs x f. tt), (Goes-dropped 𝓛 0 (slot_at 1 En₀.signature.params) En₀.kept.1.0 (λ κs x f. refl), tt)) #self fn (compiled.unfolded 𝓤 H 𝓜 𝓡 wired) (λ z are.
    let Post : Val → SProp 𝓤 = (walk_of 𝓛 En₀ stays c).post z in
    let a = z.0.3 in
    let vss = z.0.4 in
    let x = a.0 in
    let n = x.size in
    let k = a.1.0 in
    let told = block_told x.start n vss.0 are.0.0 in
    let fits = told.1 in
    let fk = are.1.0.1 in
    let home : List Bool = set x.home k false in
    let Asked : Type 0 = (k < length x.home) × (get_or x.home k false ≡ true) in
    qed 𝓛 ((raw (alive 𝓛 En₀.signature z.0.0 z.0.1) ⊛ ‵ (owns (types_at En₀.signature.params z.0.0) a vss)) ∷ raw (fact 𝓤 Asked) ∷ []) ∵
    move ! (1 ∷ []) $ heard ! Asked (λ asked. split ! $ move ! (1 ∷ []) $
    fsplit ! $ fsplit ! $ drop ! $ move ! (1 ∷ []) $ drop ! $
    in_a_block ! x.start (λ p. parts_at p x.home) (id⊢ 𝓤 (never 𝓤)) (λ b o at.
    let place : ℕ = k * 2048 + lead + o in
    let behind : o + lead + k * 2048 ≡ place = omega arith in
    use1 𝓛 (‵ (froom (bytes_of 2048) b (o + lead + k * 2048)) ⊛ ‵ (parts_at (block_ptr b o) home)) (taken_behind 𝓛 2048 b lead x.home k o asked.0 asked.1) $ split ! $
    rewrite ! 0 (λ (j : ℕ). ‵ (froom (bytes_of 2048) b j)) behind refl $
    -- [the room of the part; the lead and the other parts; the tokens]
    let far : k * 2048 < 2 ^ 64 = omega (arith, asked.0, x.fits.0, x.fits.1) in
    let further : k * 2048 + lead < 2 ^ 64 = omega (arith, asked.0, x.fits.0, x.fits.1) in
    regoal ! (λ (us : List Val). prop (WpFn 𝓤 H C Λ fn us Post)) (λ i. (told.0 ∙ ap (λ (p : Ptr). block_val p n ∷ []) at) i ++ (are.1.0.0 i ++ [])) refl $
    enter ! C Λ fn (block_val (block_ptr b o) n ∷ vint w64 k ∷ []) Post $
    alloc_all ! (λ l. pass_all ! refl ((tt, (tt, (record { fits = fits }, tt))), ((tt, record { fits = fk }), tt)) $ let En : Env 𝓤 𝓛.H = env fn.locals l in
    sets ! (of_opd ! (get_in ! (fld ! refl (stop !)) (sub ! 0 refl (whole !)))) refl (tt, tt) $
    sets ! (of_opd ! (get_in ! (fld ! refl (stop !)) (sub ! 1 refl (whole !)))) refl (tt, record { fits = fits }) $
    first ! $ blocks ! $
    sets ! (bin ! (get ! refl) (big ! (lit< tt)) (record { fits = far })) refl (tt, record { fits = far }) $
    sets ! (bin ! (get ! refl) (big ! (lit< tt)) (record { fits = further })) refl (tt, record { fits = further }) $
    sets_last ! (bin ! (get ! refl) (get ! refl) tt) refl (tt, tt) $
    exec ! C Λ En (after 3 fn.body) (at_ret En Post) $
    sets ! (of_opd ! (get ! refl)) refl (tt, tt) $
    sets ! (agg ! (and_then ! (get ! refl) (and_then ! (get ! refl) (no_more !)))) refl (tt, (tt, (record { fits = fits }, tt))) $
    sets ! (agg ! (and_then ! (get ! refl) (no_more !))) refl (tt, (tt, tt)) $
    let same : length home ≡ length x.home = length-set x.home k false in
    let y : (block.the_row).Denot = record { start = block_ptr b o; size = n; home = home; fits = (omega (arith, same, x.fits.0), x.fits.1) } in
    let r : (part.the_row).Denot = record { at = block_ptr b place; items = [] } in
    let w : Val = block_val y.start n in
    let v : Val = part_val r.at in
    sets ! (agg ! (and_then ! (get ! refl) (and_then ! (get ! refl) (no_more !)))) refl (tt, ((tt, (record { fits = fits }, tt)), ((tt, tt), tt))) $
    returns ! (look_at ! 0 refl) $ free_all ! refl $
    let there : r.at ≡ x.start +ₚ (k * 2048 + lead) = ap (λ (j : ℕ). block_ptr b j) (add_comm (k * 2048 + lead) o) ∙ ap (λ (p : Ptr). p +ₚ (k * 2048 + lead)) (sym at) in
    let Said : Type 0 = (y.start ≡ x.start) × (n ≡ n) × (home ≡ home) × (r.items ≡ r.items) × (r.at ≡ x.start +ₚ (k * 2048 + lead)) in
    use1 𝓛 (‵ (lodged u8 r.at 0 2048 [])) (unwritten 𝓛 b place 2048 (lit< tt) (lit< tt)) $
    use0 𝓛 (‵ (part_own r.at (v ∷ []))) (part_made 𝓛 r.at) $ fjoin ! $ move ! (1 ∷ []) $
    use0 𝓛 (‵ (block_own y.start n (w ∷ []))) (block_made 𝓛 y.start n fits) $ fjoin ! $
    use2 𝓛 (‵ ((Tuple (block.the_row ∷ part.the_row ∷ [])).own_val (y, r) (pair_val w v ∷ []))) (pair_of 𝓛 block.the_row part.the_row y r w v) $
    use0 𝓛 (raw (fact 𝓤 Said)) (fact_i 𝓤 Said (emp 𝓤) (sym at, refl, refl, refl, there)) $ nothing ! $ nothing ! $ fjoin ! $ nothing ! $ fjoin ! $ move ! (3 ∷ 0 ∷ 2 ∷ 1 ∷ []) $
    by ! (leaves 𝓛 En₀ stays c z (pair_val w v) (y, r) (tt, (tt, tt)) (tt, (tt, tt)))))))
