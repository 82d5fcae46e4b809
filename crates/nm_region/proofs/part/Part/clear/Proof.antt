-- `clear` has a vector over the part, which writes the zeros. Assumes `Logic`.
use Rattle.std.proofs.Common.{◌≡◌, ℕ, ◌^◌, ◌<◌, List, [], ◌∷◌, length, refl, sym, ap, ◌∙◌, subst, lit<, w64, Vec}
use mir.Syntax.{named}
use mir.Val.{Val, vint, vunit}
use base.Fraction.{full_share}
use base.Logic.{SProp, emp, id⊢}
use base.Fml.{ftrue, flft}
use contract.Monad.{fact, fact_i}
use contract.Running.{tables}
use types.Kit.{‵, raw, ◌⊛◌, later, some, given, at_ret, ◌$◌, ◌∵◌, !, qed, done, move, keep, drop, use0, use1, use2, split, join, pick, learn, await, rewrite, fsplit, fsplit3, fjoin, feq_i, suffices, frame, group}
use types.Part.{whole, sub, look_in}
use types.Run.{stop, fld, lit, unit_lit, load, of_opd, and_then, no_more, first, blocks, exec, returns, enter}
use types.ByLocal.{alloc_all, pass_all, free_all, look_at, get, through, sets, lands_as, lands_last, env}
use denote.Builtin.{u8}
use denote.Laws.{shows}
use denote.Memory.{cell_at}
use denote.RawPtr.{Ptr, block_ptr, in_a_block}
use denote.Ref.{MutRef, mut_vals, mut_Tells}
use denote.Signature.{plain}
use denote.Steps.{nothing, opens, closes, peeks, heard, only}
use denote.Triple.Call.{calls_at, calls_at_last}
use denote.Triple.Clauses.{lasts}
use denote.Triple.Spec.{triple_of}
use denote.Triple.Table.{framed}
use denote.Triple.Walked.{Stays, walk_of, says, stay_ref, Goes-ref, ends_at}
use Rattle.std.proofs.alloc.Shapes.{after}
use Rattle.std.proofs.raw_atomic.Walks.{proved}
use Rattle.std_alloc.specs.Vec.Ownership.{lodged}
use Rattle.std_alloc.specs.declared.vec.lodged.Lodged.{Lodged}
use Rattle.std_alloc.proofs.vec.lodge.Met as lodge
use Rattle.std_alloc.proofs.vec.lodged.Vec+T+Lodged.dislodge.Met as dislodge
use Rattle.nm_types.specs.Buffers.{cleared}
use Rattle.nm_region.proofs.Lodging.{byte_laws, Housed, housed-laws, nowhere, Lodges, at_lodge, IsLodged, lodge_goes, lodge_gives, Dislodges, at_dislodge, dislodge_goes, dislodge_gives}
use Rattle.nm_region.proofs.Walks.{Good, tells, big}
use Rattle.nm_region.specs.contracts.part.zeroed as g
use Rattle.nm_region.proofs.part.zeroed.Met as zeroed
use Rattle.nm_region.specs.contracts.part.Part.{the_row as R}
use Rattle.nm_region.proofs.part.Part.TheLaws.{lowers}
use Rattle.nm_region.specs.contracts.part.Part.clear as f
use Rattle.nm_region.proofs.part.Part.clear.Statement.{statement}
use Rattle.nm_region.proofs.part.Part.clear.Code as code

abbrev stayed : Stays f.ended.signature.params f.ended.kept
stayed = (stay_ref (0 ∷ []) tt (plain (λ _. R)), tt)

pub clear_spec : {M : Type 1} → statement M
clear_spec 𝓤 𝓛 𝓜 𝓡 wired =
    let c = f.clauses 𝓛 𝓜.mem 𝓡.returns in let W = walk_of 𝓛 f.ended stayed c in
    let 𝓣 = tables 𝓤 𝓛.H 𝓜 𝓡 𝓡.env in
    let fn = code.function in
    proved 𝓛 f.ended stayed c 𝓜 𝓡 (Goes-ref 𝓛 1 0 tt (plain (λ _. R)), tt)
    f.Key.name fn (code.unfolded 𝓤 𝓛.H 𝓜 𝓡 wired)
    (λ κs. (mut_vals, tt)) (λ κs. (mut_Tells (named 0) κs.0 R, tt)) (λ κs qs bounds a _ are.
    let b = a.0.ref_ptr.0 in let o = a.0.ref_ptr.1 in let h = a.0.now in let vs = mut_vals a.0 in
    let y : W.Ghost = ((κs, qs, bounds, a, (vs, tt)), tt) in
    let Post : Val → SProp 𝓤 = W.post y in
    let Asked : Type 0 = h.items ≡ [] in
    qed 𝓛 (((‵ (flft κs.0 qs.0) ⊛ ‵ ftrue) ⊛ (‵ ((MutRef (named 0) κs.0 R).own_val a.0 vs) ⊛ ‵ ftrue)) ∷ raw (fact 𝓤 Asked) ∷ []) ∵
    move ! (1 ∷ []) $ heard ! Asked (λ none.
    split ! $ split ! $ move ! (2 ∷ []) $ split ! $ keep ! (0 ∷ 2 ∷ []) $
    enter ! _ _ _ _ _ $ alloc_all ! (λ l. pass_all ! refl ((tt, tt), tt) $
    let En = env code.Mir.locals l in
    fsplit3 ! $ move ! (1 ∷ 2 ∷ 3 ∷ []) $ opens ! tt R b o (λ us.
    move ! (1 ∷ []) $ peeks ! R _ (shows 𝓛 R) h us (λ is. fsplit ! $ move ! (1 ∷ []) $
    in_a_block ! h.at (λ p. lodged u8 p (length h.items) 2048 h.items) (nowhere 𝓛 (length h.items) 2048 h.items) (λ b' o' e.
    let word = lowers.val_is h us is ∙ ap (λ (p : Ptr). lowers.lowered (record h { at = p }) ∷ []) e in
    let Cell = λ (ws : List Val). ‵ (cell_at full_share R.mir ws b o) in
    rewrite ! 2 Cell word refl $
    rewrite ! 0 (λ (xs : List ℕ). ‵ (lodged u8 (block_ptr b' o') (length xs) 2048 xs)) none refl $
    -- [the part; what the fields own; the struct's cell; the open borrow, in three entries]
    first ! $ blocks ! $
    sets ! (of_opd ! (load ! (through ! refl (fld ! refl (stop !))) (look_in ! 2 (sub ! 0 refl (whole !))))) refl (tt, tt) $
    use1 𝓛 (raw ((Lodges 𝓛 𝓜.mem 𝓡.returns).pre (at_lodge 𝓛 𝓜.mem 𝓡.returns b' o' 2048))) (lodge_goes 𝓛 𝓜.mem 𝓡.returns b' o' 2048 (lit< tt) (lit< tt)) $
    calls_at_last ! (framed 𝓤 𝓛.H 𝓜 𝓣) (Lodges 𝓛 𝓜.mem 𝓡.returns) (lodge.met 𝓤 𝓛 𝓜 𝓡 (code.calls-std_alloc::vec::lodge 𝓡.env wired) u8 byte_laws) (at_lodge 𝓛 𝓜.mem 𝓡.returns b' o' 2048)
    (and_then ! (get ! refl) (and_then ! (lit ! tt) (and_then ! (big ! (lit< tt)) (no_more !)))) (λ v.
    use1 𝓛 (later (some (λ (r : Vec ℕ Lodged). given (IsLodged 𝓛 𝓜.mem 𝓡.returns b' o' 2048 r) (‵ (Housed.own_val r (v ∷ [])))))) (lodge_gives 𝓛 𝓜.mem 𝓡.returns b' o' 2048 v) $
    await ! tt $ pick ! (λ r. learn ! (λ was. tells ! Housed housed-laws r (v ∷ []) (λ u same good.
    let fine : Good Housed v = subst (Good Housed) (sym (ap only same)) good in
    rewrite ! 0 (λ (w : Val). ‵ (Housed.own_val r (w ∷ []))) (sym (ap only same)) refl $ lands_last ! refl fine $
    exec ! 𝓣.C 𝓣.Λ En (after 1 fn.body) (at_ret En Post) $
    sets ! (of_opd ! (get ! refl)) refl fine $
    sets ! (of_opd ! (get ! refl)) refl fine $
    let G = triple_of 𝓛 g.signature (g.spec 𝓛 𝓜.mem 𝓡.returns) in
    let z : G.Ghost = ((tt, tt, tt, (r, tt), (v ∷ [], tt)), tt) in
    let Gave : Vec ℕ Lodged → Type 0 = λ s. (s.items ≡ cleared) × (s.cap ≡ 2048) × (s.ptr ≡ r.ptr) in
    let Needs : Type 0 = (r.items ≡ []) × (r.cap ≡ 2048) in
    nothing ! $ move ! (1 ∷ 0 ∷ []) $ join ! $ nothing ! $ join ! $ use0 𝓛 (raw (fact 𝓤 Needs)) (fact_i 𝓤 Needs (emp 𝓤) (was.0, was.2)) $ move ! (1 ∷ 0 ∷ []) $
    use2 𝓛 (raw (G.pre z)) (id⊢ 𝓤 _) $
    calls_at ! (framed 𝓤 𝓛.H 𝓜 𝓣) G (zeroed.met 𝓤 𝓛 𝓜 𝓡 (code.calls-nm_region::part::zeroed 𝓡.env wired)) z
    (and_then ! (get ! refl) (no_more !)) (λ v'.
    use1 𝓛 (later (some (λ (s : Vec ℕ Lodged). (‵ ftrue ⊛ ‵ (Housed.own_val s (v' ∷ []))) ⊛
    some (λ (ws : Unit {0} × Unit {0}). ‵ (lasts g.ended tt (r, tt) ws) ⊛ raw (fact 𝓤 (Gave s)))))) (id⊢ 𝓤 _) $
    await ! tt $ pick ! (λ s. split ! $ split ! $ drop ! $ move ! (1 ∷ []) $ pick ! (λ ws. split ! $ drop ! $ heard ! (Gave s) (λ gave.
    tells ! Housed housed-laws s (v' ∷ []) (λ u' same' good'.
    let fine' : Good Housed v' = subst (Good Housed) (sym (ap only same')) good' in
    rewrite ! 0 (λ (w : Val). ‵ (Housed.own_val s (w ∷ []))) (sym (ap only same')) refl $ lands_as ! refl refl fine' $
    use1 𝓛 (raw ((Dislodges 𝓛 𝓜.mem 𝓡.returns).pre (at_dislodge 𝓛 𝓜.mem 𝓡.returns s v'))) (dislodge_goes 𝓛 𝓜.mem 𝓡.returns s v') $
    calls_at ! (framed 𝓤 𝓛.H 𝓜 𝓣) (Dislodges 𝓛 𝓜.mem 𝓡.returns) (dislodge.met 𝓤 𝓛 𝓜 𝓡 (code.calls-std_alloc::vec::lodged::Vec+T+Lodged::dislodge 𝓡.env wired) u8 byte_laws) (at_dislodge 𝓛 𝓜.mem 𝓡.returns s v')
    (and_then ! (get ! refl) (no_more !)) (λ w.
    use1 𝓛 (later (given ((w ≡ vint w64 s.len) × (s.len < 2 ^ 64)) (‵ (lodged u8 s.ptr s.len s.cap s.items)))) (dislodge_gives 𝓛 𝓜.mem 𝓡.returns s v' w) $ await ! tt $ learn ! (λ got.
    lands_as ! got.0 refl (tt, record { fits = got.1 }) $
    sets ! (of_opd ! (unit_lit !)) refl (tt, tt) $
    let new : R.Denot = record h { items = s.items } in
    let at : s.ptr ≡ h.at = gave.2 ∙ (was.3 ∙ sym e) in
    rewrite ! 0 (λ (x : Ptr × ℕ × ℕ). ‵ (lodged u8 x.0 x.1 x.2 s.items)) (λ i. (at i, s.ok.0 i, gave.1 i)) refl $ rewrite ! 2 Cell (sym word) refl $
    move ! (1 ∷ []) $ fjoin ! $ move ! (1 ∷ []) $ closes ! tt R new us b o $
    -- [two parts of self; the token; self's first part]
    returns ! (look_at ! 0 refl) $ free_all ! refl $ move ! (3 ∷ []) $
    suffices ! _ (ends_at 𝓛 f.ended stayed c y vunit tt (new, tt) (tt, tt)) $ says ! (refl, gave.0) $
    group ! 3 $ nothing ! $ move ! (1 ∷ 0 ∷ []) $ join ! $ nothing ! $ move ! (2 ∷ 0 ∷ []) $ join ! $ frame ! $ frame ! $
    feq_i ! _ (vunit ∷ []) _ refl $ done !)))))))))))))))))
