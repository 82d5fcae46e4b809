-- `bytes_mut` asks whether the buffer is a named one, and then lends its bytes, or nothing.
use Rattle.std.proofs.Common.{◌≡◌, ◌∙◌, ℕ, List, [], ◌∷◌, length, true, false, refl, sym, ap, lit<, MutBor}
use Rattle.std.proofs.raw_atomic.Walks.{proved}
use mathlib.Core.Bool.{Bool}
use lib.Ieee.Bits.{is_true, is_false}
use base.Fraction.{full_share}
use base.Logic.{id⊢, wand, apply∗}
use base.Share
use base.Fml.{ftrue, flft, fdead, fres}
use mir.Syntax.{w32, named}
use mir.Val.{Val, of_list}
use contract.Monad.{fact, fact_i}
use contract.Running.{tables}
use types.Logic.{sem}
use types.Match.{live}
use types.Part.{agg}
use types.Kit.{‵, raw, ◌⊛◌, some, later, at_ret, ◌$◌, ◌∵◌, !, qed, done, move, keep, use0, use1, use2, use3, split, join, fsplit, fsplit3, fjoin, feq_l, pick, await, rewrite, suffices, frame}
use types.Run.{enter, of_opd, addr, lit, stop, no_more, and_then, first, branches, exec, returns}
use types.ByLocal.{alloc_all, pass_all, free_all, look_at, get, through, sets, sets_last, lands_as, env}
use types.Tokens.{lft_new, lft_end}
use denote.Builtin.{u8, u32, bool}
use denote.Exit.{no, yes}
use denote.Follow.{follows_by}
use denote.Laws.{shows}
use denote.Lend.{lends_again, comes_back, LentAgain}
use denote.Plain.{uint_Makes, uint_vals, uint_Tells}
use denote.Ref.{MutRef, mut_vals, mut_Tells}
use denote.Signature.{plain, named_lft}
use denote.RattleType.{RattleType}
use contract.BorrowLft.{meet_⊑_left, meet_⊑_right}
use denote.Slice.{MutSlice, slice_val, mut_slice_vals, mut_slice_Tells}
use denote.Steps.{nothing, owned, heard, only, peeks}
use denote.Triple.Call.{calls_at}
use denote.Triple.Clauses.{lasts}
use denote.Triple.Spec.{triple_of}
use denote.Triple.Table.{framed}
use denote.Triple.Walked.{Stays, walk_of, says, stay_dropped, Goes-dropped, Goes-spent_ref, ends_at}
use Rattle.std.proofs.VecSteps.Element.{Some-of, none_of}
use Rattle.std.specs.Prelude.{Option, Some, None, is_some, IsSome}
use Rattle.std.specs.contracts.option.Option as OP
use Rattle.nm_user.specs.Sessions.{SessionState}
use Rattle.nm_own.specs.ExtraChain.{named_bytes}
use Rattle.nm_user.specs.LentBytes.{LendsBytes}
use Rattle.nm_user.specs.contracts.session.Session.{the_row}
use Rattle.nm_user.specs.contracts.session.Session.bytes_mut as f
use Rattle.nm_user.specs.contracts.session.Session.finds_named as g
use Rattle.nm_user.specs.contracts.session.Session.lend as k
use Rattle.nm_user.proofs.session.Session.bytes_mut.Statement.{statement}
use Rattle.nm_user.proofs.session.Session.bytes_mut.Code as code
use Rattle.nm_user.proofs.session.Session.finds_named.Met.{met as finds_named_met}
use Rattle.nm_user.proofs.session.Session.lend.Met.{met as lend_met}

abbrev stayed : Stays f.ended.signature.params f.ended.kept
stayed = (stay_dropped _ no, (stay_dropped _ yes, tt))

nothing_there : {X : Type 0} (o : Option X) → is_some o ≡ false → o ≡ None
nothing_there None e = refl
nothing_there (Some x) e = absurd cc

pub bytes_mut_spec : {M : Type 1} → statement M
unfolding follows_by
bytes_mut_spec 𝓤 𝓛 𝓜 𝓡 wired =
    let c = f.clauses 𝓛 𝓜.mem 𝓡.returns in let W = walk_of 𝓛 f.ended stayed c in let 𝓣 = tables 𝓤 𝓛.H 𝓜 𝓡 𝓡.env in
    proved 𝓛 f.ended stayed c 𝓜 𝓡 (Goes-spent_ref 𝓛 2 (0 ∷ []) tt (plain (λ κs. the_row (named_lft 2 1 tt κs))), (Goes-dropped 𝓛 2 (plain (λ _. u32)) yes (λ κs x w. refl), tt))
    f.Key.name code.function (code.unfolded 𝓤 𝓛.H 𝓜 𝓡 wired)
    (λ κs. (mut_vals, (uint_vals w32, tt))) (λ κs. (mut_Tells (named 0) κs.0 (the_row (named_lft 2 1 tt κs)), (uint_Tells w32, tt))) (λ κs qs bounds a _ are.
    let R : RattleType = the_row (named_lft 2 1 tt κs) in let κ = κs.0 in let q = qs.0 in let μ = κs.1.0 in let p = qs.1.0 in let near = Share.left p in let far = Share.right p in let r = a.0 in let i = a.1.0 in let b = r.ref_ptr.0 in let o = r.ref_ptr.1 in let vs = mut_vals r in
    let fits = are.1.0.1 in
    let y : W.Ghost = ((κs, qs, bounds, a, (vs, (uint_vals w32 i, tt))), tt) in
    let Ref = λ (κ' : List ℕ) (x : MutBor SessionState). (MutRef (named 0) κ' R).own_val x vs in
    qed 𝓛 (((‵ (flft κ q) ⊛ ‵ (flft μ p) ⊛ ‵ ftrue) ⊛ ‵ (Ref κ r) ⊛ ‵ (u32.own_val i (uint_vals w32 i)) ⊛ ‵ ftrue) ∷ ‵ ftrue ∷ []) ∵
    split ! $ split ! $ move ! (1 ∷ []) $ split ! $ move ! (3 ∷ []) $ split ! $ keep ! (0 ∷ 4 ∷ 2 ∷ []) $
    enter ! _ _ _ _ _ $ alloc_all ! (λ l. pass_all ! refl ((tt, tt), ((tt, record { fits = fits }), tt)) $
    sets ! (addr ! (through ! refl (stop !))) refl (tt, tt) $
    -- the session is lent again, for as long as the question takes
    lft_new ! tt (λ α. move ! (3 ∷ []) $ use1 𝓛 (‵ (flft μ near) ⊛ ‵ (flft μ far)) (𝓛.lfts.lft_split μ p) $ split ! $ move ! (2 ∷ []) $
    use1 𝓛 (‵ (flft (α ∷ []) near) ⊛ raw (wand 𝓤 (𝓛.A.lft (α ∷ []) near) (𝓛.A.lft (α ∷ []) full_share))) (𝓛.lfts.lft_carve α near) $ split ! $ move ! (0 ∷ 2 ∷ []) $
    use2 𝓛 (‵ (flft (α ∷ μ) near)) (𝓛.lfts.lft_meet (α ∷ []) μ near) $ move ! (3 ∷ 4 ∷ []) $
    -- [the session; the token of κ; that of both α and μ; how α is whole again; what is left of μ]
    use2 𝓛 (later (some (λ (δ : ℕ). ‵ (Ref (α ∷ μ) (record r { ghost_name = δ })) ⊛ ‵ (LentAgain R κ (α ∷ μ) q r.ghost_name b o δ r.now))))
    (lends_again 𝓛 R (named 0) κ (α ∷ μ) q r.ghost_name b o (named 0) r.now) $ await ! tt $ pick ! (λ δ. split ! $
    let G = triple_of 𝓛 g.signature (g.spec 𝓛 𝓜.mem 𝓡.returns) in
    let z : G.Ghost = (((α ∷ μ, (μ, tt)), (near, (far, tt)), (meet_⊑_right (α ∷ []) μ, tt), (record r { ghost_name = δ }, (i, tt)), (vs, (uint_vals w32 i, tt))), tt) in
    nothing ! $ owned ! u32 _ (uint_Makes 𝓛 w32) i _ (refl, fits) $ join ! $ move ! (1 ∷ 0 ∷ []) $ join ! $
    nothing ! $ move ! (5 ∷ 0 ∷ []) $ join ! $ move ! (3 ∷ 0 ∷ []) $ join ! $ join ! $
    nothing ! $ move ! (1 ∷ 0 ∷ []) $ use2 𝓛 (raw (G.pre z)) (id⊢ 𝓤 _) $
    calls_at ! (framed 𝓤 𝓛.H 𝓜 (tables 𝓤 𝓛.H 𝓜 𝓡 𝓡.env)) G (finds_named_met 𝓤 𝓛 𝓜 𝓡 (code.calls-nm_user::session::Session::finds_named 𝓡.env wired)) z
    (and_then ! (get ! refl) (and_then ! (get ! refl) (no_more !))) (λ v.
    use1 𝓛 (later (some (λ (u : Bool). ((‵ (flft (α ∷ μ) near) ⊛ ‵ (flft μ far) ⊛ ‵ ftrue) ⊛ ‵ (bool.own_val u (v ∷ []))) ⊛
    some (λ (ws : SessionState × (Unit {0} × Unit {0})). ‵ (lasts g.ended z.0.0 z.0.3 ws) ⊛ (raw (fact 𝓤 (u ≡ is_some (named_bytes r.now.own i))) ⊛ raw (fact 𝓤 (ws.0 ≡ r.now))))))) (id⊢ 𝓤 _) $
    await ! tt $ pick ! (λ u. split ! $ split ! $ split ! $
    use1 𝓛 (‵ (flft (α ∷ []) near) ⊛ ‵ (flft μ near)) (𝓛.lfts.lft_unmeet (α ∷ []) μ near) $ split ! $ move ! (0 ∷ 6 ∷ []) $
    use2 𝓛 (‵ (flft (α ∷ []) full_share)) (apply∗ 𝓤 (𝓛.A.lft (α ∷ []) near) (𝓛.A.lft (α ∷ []) full_share)) $ lft_end ! tt $
    use1 𝓛 (‵ (fdead (α ∷ μ))) (𝓛.lfts.dead-incl (α ∷ μ) (α ∷ []) (meet_⊑_left (α ∷ []) μ)) $ move ! (2 ∷ []) $ split ! $ move ! (3 ∷ 0 ∷ []) $
    use2 𝓛 (‵ (flft μ p)) (𝓛.lfts.lft_join μ p) $ move ! (3 ∷ []) $ feq_l ! (λ is_u.
    lands_as ! (ap only is_u) refl (tt, tt) $
    move ! (3 ∷ []) $ pick ! (λ ws. split ! $ move ! (1 ∷ []) $ split ! $ heard ! _ (λ told. heard ! _ (λ same. fsplit ! $ fsplit ! $
    rewrite ! 0 (λ (h : SessionState). ‵ (fres δ (R.coded.code h))) same refl $
    move ! (5 ∷ 6 ∷ 0 ∷ []) $ use3 𝓛 (later (‵ (Ref κ r) ⊛ ‵ (flft κ q)))
    (comes_back 𝓛 R (named 0) κ (α ∷ μ) q r.ghost_name b o δ r.now r.now) $ await ! tt $ split ! $
    -- [the session as it was; the token of κ]
    first ! $ branches ! (get ! refl)
    -- a named one: `lend` has the session for good, and its bytes are handed on
    (λ t. sets ! (addr ! (through ! refl (stop !))) refl (tt, tt) $
    let K = triple_of 𝓛 k.signature (k.spec 𝓛 𝓜.mem 𝓡.returns) in
    let x : K.Ghost = ((κs, qs, bounds, a, (vs, (uint_vals w32 i, tt))), tt) in
    nothing ! $ owned ! u32 _ (uint_Makes 𝓛 w32) i _ (refl, fits) $ join ! $ move ! (1 ∷ 0 ∷ []) $ join ! $
    nothing ! $ move ! (5 ∷ 0 ∷ []) $ join ! $ move ! (2 ∷ 0 ∷ []) $ join ! $ join ! $
    nothing ! $ use1 𝓛 (raw (fact 𝓤 (IsSome (named_bytes r.now.own i)))) (fact_i 𝓤 (IsSome (named_bytes r.now.own i)) (sem 𝓛 ftrue) (sym told ∙ is_true u t)) $
    move ! (1 ∷ 0 ∷ []) $ use2 𝓛 (raw (K.pre x)) (id⊢ 𝓤 _) $
    calls_at ! (framed 𝓤 𝓛.H 𝓜 (tables 𝓤 𝓛.H 𝓜 𝓡 𝓡.env)) K (lend_met 𝓤 𝓛 𝓜 𝓡 (code.calls-nm_user::session::Session::lend 𝓡.env wired)) x
    (and_then ! (get ! refl) (and_then ! (get ! refl) (no_more !))) (λ v'.
    let Lent = MutSlice (named 0) κ u8 in
    use1 𝓛 (later (some (λ (s : MutBor (List ℕ)). ((‵ (flft κ q) ⊛ ‵ (flft μ p) ⊛ ‵ ftrue) ⊛ ‵ (Lent.own_val s (v' ∷ []))) ⊛
    some (λ (ws : Unit {0} × (Unit {0} × Unit {0})). ‵ (lasts k.ended κs a ws) ⊛ (‵ (LendsBytes r i s) ⊛ (raw (fact 𝓤 (named_bytes r.now.own i ≡ Some s.now)) ⊛ raw (fact 𝓤 (length s.now ≡ 2048)))))))) (id⊢ 𝓤 _) $
    await ! tt $ pick ! (λ s. split ! $ split ! $ split ! $ move ! (2 ∷ []) $
    peeks ! Lent _ (shows 𝓛 Lent) s (v' ∷ []) (λ is.
    let told' : v' ∷ [] ≡ mut_slice_vals s = mut_slice_Tells (named 0) κ u8 s (v' ∷ []) is in
    let w = slice_val s.ref_ptr (length s.now) in
    lands_as ! (ap only told') refl (tt, (tt, (record { fits = is.0.1.0 }, tt))) $
    rewrite ! 0 (λ (us : List Val). ‵ (Lent.own_val s us)) told' refl $
    sets_last ! (agg ! (and_then ! (lit ! tt) (and_then ! (get ! refl) (no_more !)))) refl (tt, (record { fits = lit< tt }, ((tt, (record { fits = is.0.1.0 }, tt)), tt))) $
    move ! (3 ∷ []) $ pick ! (λ ws'. split ! $ move ! (1 ∷ []) $ split ! $ move ! (1 ∷ []) $ split ! $ heard ! _ (λ bytes. heard ! _ (λ size.
    exec ! 𝓣.C 𝓣.Λ (env code.Mir.locals l) code.Mir.t-4 (at_ret _ (W.post y)) $
    sets ! (of_opd ! (get ! refl)) refl (tt, (record { fits = lit< tt }, ((tt, (record { fits = is.0.1.0 }, tt)), tt))) $
    returns ! (look_at ! 0 refl) $ free_all ! refl $ keep ! (2 ∷ 3 ∷ 4 ∷ 0 ∷ []) $
    use1 𝓛 (‵ ((OP.the_row Lent).own_val (Some s) (live 1 (of_list (w ∷ [])) ∷ []))) (Some-of 𝓛 Lent s w) $
    suffices ! _ (ends_at 𝓛 f.ended stayed c y (live 1 (of_list (w ∷ []))) (Some s) (tt, (tt, tt)) (tt, (tt, tt))) $
    nothing ! $ nothing ! $ fjoin ! $ nothing ! $ fjoin ! $ join ! $ move ! (1 ∷ 2 ∷ 0 ∷ []) $ join ! $ join ! $ frame ! $ frame ! $ says ! size $
    nothing ! $ use1 𝓛 (raw (fact 𝓤 (Some s.now ≡ named_bytes r.now.own i))) (fact_i 𝓤 (Some s.now ≡ named_bytes r.now.own i) (sem 𝓛 ftrue) (sym bytes)) $ done !)))))))
    -- no named one: the session ends as it is
    (λ t. sets_last ! (agg ! (and_then ! (lit ! tt) (no_more !))) refl (tt, (record { fits = lit< tt }, tt)) $
    exec ! 𝓣.C 𝓣.Λ (env code.Mir.locals l) code.Mir.t-4 (at_ret _ (W.post y)) $
    sets ! (of_opd ! (get ! refl)) refl (tt, (record { fits = lit< tt }, tt)) $
    returns ! (look_at ! 0 refl) $ free_all ! refl $ keep ! (0 ∷ 1 ∷ 4 ∷ []) $ fsplit3 ! $ keep ! (1 ∷ 3 ∷ 4 ∷ []) $
    use1 𝓛 (‵ (fres r.ghost_name (R.coded.code r.now))) (𝓛.names.obs-res r.ghost_name (R.coded.code r.now)) $ move ! (1 ∷ 2 ∷ []) $
    use0 𝓛 (‵ ((OP.the_row (MutSlice (named 0) κ u8)).own_val None (live 0 (of_list []) ∷ []))) (none_of 𝓛 (MutSlice (named 0) κ u8)) $
    suffices ! _ (ends_at 𝓛 f.ended stayed c y (live 0 (of_list [])) None (tt, (tt, tt)) (tt, (tt, tt))) $
    nothing ! $ nothing ! $ fjoin ! $ nothing ! $ fjoin ! $ join ! $ nothing ! $ move ! (3 ∷ 0 ∷ []) $ join ! $ move ! (2 ∷ 0 ∷ []) $ join ! $ join ! $ frame ! $ frame ! $ says ! tt $
    nothing ! $ use1 𝓛 (raw (fact 𝓤 (None ≡ named_bytes r.now.own i))) (fact_i 𝓤 (None ≡ named_bytes r.now.own i) (sem 𝓛 ftrue) (sym (nothing_there (named_bytes r.now.own i) (sym told ∙ is_false u t)))) $ done !)))))))))))
