-- A user that has come may leave.
use Rattle.std.proofs.Common.{ℕ, ◌+◌, ◌≡◌, true, List, [], ◌∷◌, ◌++◌, length, Some, None, Bool, false, inl, refl, sym, ◌∙◌, ap, subst, arith, length-append}
use Rattle.std.specs.Prelude.{option_map, if◌then◌else◌}
use Rattle.std.proofs.lemmas.Bool.{eq-eqb}
use Rattle.nm_turn.specs.Numbered.{Stands}
use Rattle.nm_turn.proofs.Numbered.{Stands-right}
use Rattle.nm_types.specs.declared.id.SessionId.{SessionId}
use Rattle.vale_entry.specs.declared.entry.Ask.TheVariants.{Enter, Leave}
use Rattle.vale_entry.specs.declared.entry.Entry.{Entry}
use Rattle.vale_entry.specs.declared.entry.Reply.{Reply}
use Rattle.vale_entry.specs.Legal.{Outcome, enter_step, fits_u64, session_and_reply, standing_of, IsLegal}
use Rattle.vale_entry.proofs.Worlds.{count-world_of}
use Rattle.vale_own.specs.Own.{Own, own_of}
use Rattle.vale_own.specs.OwnAsks.{may_ask}
use Rattle.vale_own.specs.OwnEntries.{nothing_own}
use Rattle.vale_own.proofs.Asking.{own-tells}
use Rattle.vale_own.proofs.OwnEntry.{own-entries}
use Rattle.vale_own.proofs.OwnKept.{legal-split}
use Rattle.vale_book.specs.Recorded.{standing}
use Rattle.vale_fabric.specs.declared.kept.Fixed.{Fixed}
use Rattle.vale_fabric.specs.Fabrics.{Knowing, before_in, earlier, entry_by, Makes, MayAsk}

entered-as : (can : Bool) (outcome : Outcome) (session : ℕ) (reply : Reply) → option_map session_and_reply (if can then Some outcome else None) ≡ Some (session, reply) → outcome.session ≡ session
entered-as false outcome session reply e = absurd cc
entered-as true outcome session reply e = let pair : session_and_reply outcome ≡ (session, reply) = cc in ap (λ (p : ℕ × Reply). p.0) pair

pub may-leave : {fixed : Fixed} {v w : Knowing} {user : ℕ} (id : SessionId) → id.0 ≡ length w.seen → Makes fixed v w (Enter user) → MayAsk fixed w (Leave id)
may-leave {fixed} {v} {w} {user} id number m =
    let e : Entry = entry_by m.session (Enter user) m.reply in
    let before = before_in fixed w in
    let count = count-world_of fixed.pool (earlier w.seen) in
    let whose : (enter_step (standing before)).session ≡ m.session = entered-as (fits_u64 user) (enter_step (standing before)) m.session m.reply m.steps in
    let long : length w.seen ≡ length (earlier w.seen) + 1 = ap length m.seen ∙ length-append (earlier w.seen) (e ∷ []) in
    let session : m.session ≡ id.0 = omega (arith, whose, count, long, number) in
    let parts = legal-split fixed.pool (earlier w.seen) (e ∷ []) (subst (IsLegal fixed.pool) m.seen m.legal) in
    let own : own_of id.0 (standing_of fixed.pool w.seen) ≡ record nothing_own { there = true } =
    ap (λ (h : List Entry). own_of id.0 (standing_of fixed.pool h)) m.seen
    ∙ subst (λ (n : ℕ). own_of n (standing_of fixed.pool (earlier w.seen ++ e ∷ [])) ≡ record nothing_own { there = true }) session (own-entries fixed.pool (earlier w.seen) e parts.0 parts.1.0) in
    record {
      session = id.0;
      may = own-tells fixed.pool w.seen id.0 (Leave id) m.legal ∙ (ap (λ (o : Own). may_ask id.0 o (Leave id)) own ∙ eq-eqb id.0 id.0 refl);
      speaks = subst (Stands id.0) (sym m.told.mine) (Stands-right id.0 v.mine ((length w.seen, e) ∷ []) (inl number));
    }

pub ruleset comers = (may-leave)
