-- `bytes_mut` lends the bytes, and the part follows them. Assumes `Logic`.
use Rattle.std.proofs.Common.{◌≡◌, ℕ, ◌-◌, ◌*◌, ◌^◌, ◌<◌, List, [], ◌∷◌, length, refl, sym, ap, ◌∙◌, subst, arith, lit<}
use seplogic.Ra.Ura.{Ura}
use mir.Syntax.{named}
use mir.Val.{Val}
use base.Fraction.{full_share}
use base.Logic.{SProp, ent, sep}
use base.Fml.{GName, Fml, ftrue, fsep, feq, flft}
use types.Logic.{Logic, sem}
use types.SemTy.{cells}
use contract.Monad.{fact}
use contract.Running.{tables}
use types.Kit.{‵, raw, ◌⊛◌, some, later, at_ret, ◌$◌, ◌∵◌, !, qed, by, done, move, keep, drop, use1, split, join, pick, await, group, rewrite, fsplit, fsplit3, fjoin, fjoin3, fpack, feq_i, feq_l, flt_i, flt_l, suffices, frame}
use types.Part.{whole, sub, look_in, agg}
use types.Run.{stop, fld, load, of_opd, and_then, no_more, first, blocks, exec, returns, enter}
use types.ByLocal.{alloc_all, pass_all, free_all, look_at, get, through, sets, sets_last, env}
use denote.Array.{Array}
use denote.ArrayMemory.{Array-apart, Array-whole}
use denote.Builtin.{u8}
use denote.Follow.{follows}
use denote.FollowSlice.{Elements, lends_Elements}
use denote.Index.{row, whole_in, whole_out}
use denote.Laws.{shows}
use denote.Memory.{mem, cell_at, part_at, part_of}
use denote.RawPtr.{Ptr, block_ptr, in_a_block, room_for, ◌+ₚ◌}
use denote.Ref.{MutBor, MutRef, mut_vals, mut_Tells}
use denote.Signature.{plain}
use denote.Slice.{MutSlice, slice_val}
use denote.Steps.{nothing, opens, peeks, heard}
use denote.Triple.Walked.{Stays, walk_of, says, stay_dropped, Goes-spent_ref, ends_at}
use Rattle.std.proofs.alloc.Shapes.{after}
use Rattle.std.proofs.raw_atomic.Walks.{proved}
use Rattle.std.specs.Allocator.{array_of}
use Rattle.std.specs.Mem.{type_size}
use Rattle.std_alloc.specs.Vec.Ownership.{lodged}
use Rattle.nm_region.proofs.Lodging.{nowhere}
use Rattle.nm_region.proofs.Named.{written_over_is}
use Rattle.nm_region.proofs.Values.{part_own}
use Rattle.nm_region.proofs.Walks.{slot_at, big}
use Rattle.nm_region.specs.LendingPart.{with_written}
use Rattle.nm_region.specs.contracts.part.Part.{the_row as R}
use Rattle.nm_region.proofs.part.Part.TheLaws.{lowers}
use Rattle.nm_region.specs.contracts.part.Part.bytes_mut as f
use Rattle.nm_region.proofs.part.Part.bytes_mut.Statement.{statement}
use Rattle.nm_region.proofs.part.Part.bytes_mut.Code as code

abbrev stayed : Stays f.ended.signature.params f.ended.kept
stayed = (stay_dropped (slot_at 0 f.ended.signature.params) f.ended.kept.0, tt)

module _ {M : Type 1} {𝓤 : Ura M} (𝓛 : Logic 𝓤) (rb ro : ℕ) (h : R.Denot) (us : List Val) (b o : ℕ) where
  -- the room behind the bytes, of which there is none in a part that is written
  abbrev Spare : Fml
  Spare = fsep (room_for (array_of u8 (2048 - length h.items)) (block_ptr b o +ₚ length h.items * type_size u8)) ftrue

  -- all but the bytes
  abbrev Rest : Fml
  Rest = fsep Spare (fsep (part_own h.at us) (cell_at full_share R.mir us rb ro))

  back : h.at ≡ block_ptr b o → (ws : List ℕ) → length ws ≡ length h.items
      → ent 𝓤 (sep 𝓤 (sem 𝓛 (cells (mem u8) ws b o)) (sem 𝓛 Rest)) (sem 𝓛 ((mem R).own_at (with_written h ws) rb ro))
  unfolding part_of
  back e ws same =
      let n = length h.items in
      let new = with_written h ws in
      let all : new.items ≡ ws = written_over_is h.items ws same in
      let long : length new.items ≡ n = ap length all ∙ same in
      qed 𝓛 (‵ (cells (mem u8) ws b o) ∷ ‵ Rest ∷ []) ∵ use1 𝓛 (‵ (row u8 full_share ws b o)) (whole_out 𝓛 u8 ws b o) $
      feq_i ! ℕ (length ws) n same $ fjoin ! $ use1 𝓛 (‵ (part_at (Array u8 n) full_share ws b o)) (Array-whole 𝓛 u8 full_share n ws b o) $
      move ! (1 ∷ []) $ fsplit3 ! $ move ! (3 ∷ 0 ∷ []) $ fjoin ! $ flt_i ! (2048 * 1) (2 ^ 63) (lit< tt) $ fjoin ! $
      rewrite ! 0 (λ (x : Ptr × ℕ × List ℕ). ‵ (lodged u8 x.0 x.1 2048 x.2)) (λ i. (sym e i, sym long i, sym all i)) refl $
      move ! (1 ∷ 0 ∷ []) $ fjoin ! $ move ! (1 ∷ 0 ∷ []) $ fjoin ! $
      fpack ! (List Val) (λ ws'. fsep (cell_at full_share R.mir ws' rb ro) (R.own_val new ws')) us $ done !

pub bytes_mut_spec : {M : Type 1} → statement M
bytes_mut_spec 𝓤 𝓛 𝓜 𝓡 wired =
    let c = f.clauses 𝓛 𝓜.mem 𝓡.returns in let W = walk_of 𝓛 f.ended stayed c in
    let 𝓣 = tables 𝓤 𝓛.H 𝓜 𝓡 𝓡.env in
    let fn = code.function in
    proved 𝓛 f.ended stayed c 𝓜 𝓡 (Goes-spent_ref 𝓛 1 (0 ∷ []) tt (plain (λ _. R)), tt)
    f.Key.name fn (code.unfolded 𝓤 𝓛.H 𝓜 𝓡 wired)
    (λ κs. (mut_vals, tt)) (λ κs. (mut_Tells (named 0) κs.0 R, tt)) (λ κs qs bounds a _ are.
    let κ = κs.0 in let q = qs.0 in let γ = a.0.ghost_name in
    let rb = a.0.ref_ptr.0 in let ro = a.0.ref_ptr.1 in let h = a.0.now in let vs = mut_vals a.0 in
    let xs = h.items in let n = length xs in
    let new = with_written h in
    let y : W.Ghost = ((κs, qs, bounds, a, (vs, tt)), tt) in
    let Post : Val → SProp 𝓤 = W.post y in
    let Asked : Type 0 = n ≡ 2048 in
    let exits : (v : Val) (r : MutBor (List ℕ)) → r.now ≡ xs → ent 𝓤 (sep 𝓤 (sem 𝓛 ((MutSlice (named 0) κ u8).own_val r (v ∷ []))) (sep 𝓤 (sem 𝓛 (flft κ q)) (sem 𝓛 (follows R (Array u8 0) γ r.ghost_name new)))) (Post v) = λ v r e.
    qed 𝓛 (‵ ((MutSlice (named 0) κ u8).own_val r (v ∷ [])) ∷ ‵ (flft κ q) ∷ ‵ (follows R (Array u8 0) γ r.ghost_name new) ∷ []) ∵
    suffices ! _ (ends_at 𝓛 f.ended stayed c y v r (tt, tt) (tt, tt)) $
    nothing ! $ nothing ! $ fjoin ! $ join ! $ nothing ! $ move ! (2 ∷ 0 ∷ []) $ join ! $ join ! $ frame ! $ says ! e $ done ! in
    qed 𝓛 (((‵ (flft κ q) ⊛ ‵ ftrue) ⊛ (‵ ((MutRef (named 0) κ R).own_val a.0 vs) ⊛ ‵ ftrue)) ∷ raw (fact 𝓤 Asked) ∷ []) ∵
    move ! (1 ∷ []) $ heard ! Asked (λ full.
    split ! $ split ! $ move ! (2 ∷ []) $ split ! $ keep ! (0 ∷ 2 ∷ []) $
    enter ! _ _ _ _ _ $ alloc_all ! (λ l. pass_all ! refl ((tt, tt), tt) $
    let En = env code.Mir.locals l in
    fsplit3 ! $ drop ! $ opens ! tt R {h = h} rb ro (λ us.
    move ! (1 ∷ []) $ peeks ! R _ (shows 𝓛 R) h us (λ is. fsplit ! $ move ! (1 ∷ []) $
    in_a_block ! h.at (λ p. lodged u8 p n 2048 xs) (nowhere 𝓛 n 2048 xs) (λ b o e.
    let word = lowers.val_is h us is ∙ ap (λ (p : Ptr). lowers.lowered (record h { at = p }) ∷ []) e in
    let Cell = λ (ws : List Val). ‵ (cell_at full_share R.mir ws rb ro) in
    rewrite ! 2 Cell word refl $
    -- [the part; what the fields own; the struct's cell; the open borrow, in three entries]
    first ! $ blocks ! $
    sets ! (of_opd ! (load ! (through ! refl (fld ! refl (stop !))) (look_in ! 2 (sub ! 0 refl (whole !))))) refl (tt, tt) $
    sets_last ! (agg ! (and_then ! (get ! refl) (and_then ! (big ! (lit< tt)) (no_more !)))) refl (tt, (tt, (record { fits = lit< tt }, tt))) $
    exec ! 𝓣.C 𝓣.Λ En (after 1 fn.body) (at_ret En Post) $
    sets ! (of_opd ! (get ! refl)) refl (tt, (tt, (record { fits = lit< tt }, tt))) $
    rewrite ! 2 Cell (sym word) refl $
    fsplit ! $ flt_l ! (λ fit. fsplit ! $ use1 𝓛 (‵ (fsep (feq ℕ n n) (row u8 full_share xs b o))) (Array-apart 𝓛 u8 full_share tt n xs b o) $ fsplit ! $ feq_l ! (λ _.
    use1 𝓛 (‵ (cells (mem u8) xs b o)) (whole_in 𝓛 u8 xs b o) $
    -- [the bytes; the room behind them; what the fields own; the struct's cell; the open borrow]
    move ! (1 ∷ 2 ∷ 3 ∷ []) $ fjoin3 ! $ move ! (2 ∷ 3 ∷ 4 ∷ 1 ∷ 0 ∷ []) $ group ! 5 $
    let code' = R.coded.code h in
    let roomy : n < 2 ^ 64 = omega (arith, full) in let fitting : n * 1 < 2 ^ 63 = omega (arith, full) in
    let rest = sem 𝓛 (Rest 𝓛 rb ro h us b o) in let way = back 𝓛 rb ro h us b o e in
    use1 𝓛 (later (some (λ (δ : GName). raw (Elements 𝓛 R u8 new (named 0) κ q rb ro b o γ xs (roomy, fitting) rest way δ))))
    (lends_Elements 𝓛 R u8 new (named 0) κ q rb ro b o γ xs (roomy, fitting) rest way code' code') $ await ! tt $ pick ! (λ δ.
    let r : MutBor (List ℕ) = record { ref_ptr = (b, o); ghost_name = δ; now = xs } in
    returns ! (look_at ! 0 refl) $ free_all ! refl $ keep ! (0 ∷ []) $
    by ! (subst (λ (k : ℕ). ent 𝓤 (Elements 𝓛 R u8 new (named 0) κ q rb ro b o γ xs (roomy, fitting) rest way δ) (Post (slice_val (b, o) k))) full (exits (slice_val (b, o) n) r refl)))))))))))
