-- The closing of a session's port is two turns of its user.
use Rattle.std.proofs.Common.{ℕ, suc, ◌+◌, ◌-◌, ◌<◌, ◌≤◌, ◌==◌, ◌≡◌, inl, inr, true, List, [], ◌∷◌, ◌++◌, take, slice_get, Some, option_map, refl, sym, ◌∙◌, ap, subst, arith}
use Rattle.std.proofs.lemmas.Bool.{eqb-true}
use Rattle.nm_types.specs.OwnPorts.{OwnPort, OwnState, port_with_name, buffers_in}
use Rattle.nm_types.specs.OwnSyncs.{own_after_finish}
use Rattle.nm_turn.specs.Numbered.{Stands}
use Rattle.vale_entry.specs.declared.entry.Ask.{Ask}
use Rattle.vale_entry.specs.declared.entry.Ask.TheVariants.{Shut}
use Rattle.vale_entry.specs.declared.entry.Entry.{Entry}
use Rattle.vale_entry.specs.declared.entry.Reply.{Reply}
use Rattle.vale_entry.specs.declared.entry.Reply.TheVariants as replies
use Rattle.vale_entry.specs.Legal.{IsLegal, standing_of, step, session_and_reply}
use Rattle.vale_entry.specs.OwnCalls.{finish_call}
use Rattle.vale_entry.proofs.ListLaws.{place-of}
use Rattle.vale_own.specs.Own.{own_of, is_settled_own}
use Rattle.vale_own.specs.OwnEntries.{own_after_entry}
use Rattle.vale_own.proofs.OwnEntry.{own-entries}
use Rattle.vale_own.proofs.OwnKept.{legal-split}
use Rattle.vale_fabric.specs.declared.kept.Fixed.{Fixed}
use Rattle.vale_fabric.specs.Fabrics.{entry_by}
use Rattle.nm_user.specs.Leaving.{IsMadeAt}
use Rattle.nm_user.specs.Sessions.{SessionState}
use Rattle.vale_replay.specs.Tasks.{FinishPort}
use Rattle.vale_replay.specs.Machine.{Machine, call_of_tasks, resting, with_tasks}
use Rattle.vale_replay.specs.Replay.{TakesTurn}
use Rattle.vale_replay.proofs.Legal.{take-one_more}
use Rattle.vale_player.specs.Laws.{DetachIsTurns}
use Rattle.vale_player.proofs.Syncs.{legal-at, others-at, own-before, own-behind, own-range}
use Rattle.vale_player.proofs.Turns.{GoesOn, TaskEntry, come-on, task-turn}
use Rattle.vale_player.proofs.Working.{added-rise}

made-at : (s t : SessionState) (number : ℕ) (ask : Ask) (reply : Reply) → t.fixed ≡ s.fixed → t.id ≡ s.id → IsMadeAt t number ask reply
    → option_map session_and_reply (step (standing_of s.fixed.pool (take (number - 1) t.knows.seen)) ask) ≡ Some (s.id, reply)
made-at s t number ask reply fixed id made =
    subst (λ (n : ℕ). option_map session_and_reply (step (standing_of s.fixed.pool (take (number - 1) t.knows.seen)) ask) ≡ Some (n, reply)) id
    (subst (λ (f : Fixed). option_map session_and_reply (step (standing_of f.pool (take (number - 1) t.knows.seen)) ask) ≡ Some (t.id, reply)) fixed made.steps)

-- a session that shuts a port stays settled
pub shut-settled : (pool : ℕ) (h : List Entry) (number : ℕ) (session : ℕ) (id : ℕ) → IsLegal pool (take number h) → 0 < number
    → slice_get h (number - 1) ≡ Some (entry_by session (Shut (record { 0 = id })) replies.Made) → is_settled_own (own_of session (standing_of pool (take (number - 1) h))) ≡ true
    → is_settled_own (own_of session (standing_of pool (take number h))) ≡ true
shut-settled pool h number session id legal some there settled =
    let past = take (number - 1) h in
    let e = entry_by session (Shut (record { 0 = id })) replies.Made in
    let count : suc (number - 1) ≡ number = omega (arith, some) in
    let grown : take number h ≡ past ++ e ∷ [] = ap (λ (n : ℕ). take n h) (sym count) ∙ take-one_more h (number - 1) e there in
    let parts = legal-split pool past (e ∷ []) (subst (IsLegal pool) grown legal) in
    let next : own_of session (standing_of pool (past ++ e ∷ [])) ≡ own_after_entry (standing_of pool past) e.ask e.reply (own_of session (standing_of pool past)) = own-entries pool past e parts.0 parts.1.0 in
    ap (λ (es : List Entry). is_settled_own (own_of session (standing_of pool es))) grown ∙ (ap is_settled_own next ∙ settled)

-- a number between two is neither
pub neither : (a b k : ℕ) (one two : Entry) → a ≤ k → k < b - 1 → Stands (k + 1) ((a, one) ∷ (b, two) ∷ []) → ⊥
neither a b k one two low high (inl e) = omega (arith, low, e)
neither a b k one two low high (inr (inl e)) = omega (arith, high, e)
neither a b k one two low high (inr (inr none)) = none

pub detach-turns : DetachIsTurns
detach-turns s t began first now name rest id told here there come has d named =
    let pool = s.fixed.pool in
    let h = t.knows.seen in
    let a = d.shut in
    let b = d.finish in
    let p = d.at.port in
    let one = entry_by s.id (Shut p.id) replies.Made in
    let two = entry_by s.id (finish_call s.own p) (replies.Unread told.unread) in
    let legal : IsLegal pool h = subst (λ (f : Fixed). IsLegal f.pool h) d.fixed there.legal in
    let at : (n : ℕ) → IsLegal pool (take n h) = legal-at s t.knows a one ((b, two) ∷ []) here legal d.told in
    let first-stands = d.told.stand 0 a one refl in
    let second-stands = d.told.stand 1 b two refl in
    let new = first-stands.0 in
    let rise = added-rise s.knows t.knows ((a, one) ∷ (b, two) ∷ []) d.told in
    let up = rise.1.0 in
    let mid : Machine = record now { tasks = FinishPort name ∷ rest } in
    let next : Machine = record now { own = t.own; tasks = rest } in
    let named-now : port_with_name now.own name ≡ Some p = ap (λ (o : OwnState). port_with_name o name) come.user.own ∙ named in
    let call-one : call_of_tasks now now.tasks ≡ Some (Shut p.id) = ap (call_of_tasks now) has ∙ ap (option_map (λ (q : OwnPort). Shut q.id)) named-now in
    let before : is_settled_own (own_of s.id (standing_of pool (take (a - 1) h))) ≡ true = ap is_settled_own (own-before s t.knows a one ((b, two) ∷ []) here legal d.told) ∙ here.settled in
    let e-one : TaskEntry pool h s.id a (Shut p.id) replies.Made = record { legal = at (a - 1); settled = before; steps = made-at s t a (Shut p.id) replies.Made d.fixed d.id_is d.shuts; there = first-stands.1 } in
    let turn-one = task-turn pool h s.id a (Shut p.id) replies.Made now now.own e-one come.user.session (record { settles = refl; enters = refl }) call-one refl in
    let goes : with_tasks a one now now.tasks ≡ mid = ap (with_tasks a one now) has in
    let shuts : TakesTurn pool h (resting now) a (resting mid) = subst (λ (m : Machine). TakesTurn pool h (resting now) a (resting m)) goes turn-one in
    let call-two : call_of_tasks mid mid.tasks ≡ Some (finish_call s.own p) = ap (λ (o : OwnState). option_map (finish_call o) (port_with_name o name)) come.user.own ∙ ap (option_map (finish_call s.own)) named in
    let shut-own = shut-settled pool h a s.id p.id.0 (at a) (omega (arith, new)) first-stands.1 before in
    let same = own-range pool h s.id a (b - 1) (omega (arith, up)) (at (b - 1))
    (λ k e low high there'. others-at s t.knows ((a, one) ∷ (b, two) ∷ []) here d.told k e (omega (arith, new, low)) there' (neither a b k one two low high)) in
    let e-two : TaskEntry pool h s.id b (finish_call s.own p) (replies.Unread told.unread) = record {
      legal = at (b - 1);
      settled = ap is_settled_own same ∙ shut-own;
      steps = made-at s t b (finish_call s.own p) (replies.Unread told.unread) d.fixed d.id_is d.finishes;
      there = second-stands.1;
    } in
    let number : p.id.0 ≡ id = eqb-true p.id.0 id (place-of (λ (q : OwnPort). q.id.0 == id) s.own.ports p d.at.found).passes in
    let own-two : t.own ≡ own_after_finish p.id.0 (buffers_in p) now.own =
    d.own ∙ (ap (λ (n : ℕ). own_after_finish n (buffers_in p) s.own) (sym number) ∙ ap (own_after_finish p.id.0 (buffers_in p)) (sym come.user.own)) in
    let finishes : TakesTurn pool h (resting mid) b (resting next) =
    task-turn pool h s.id b (finish_call s.own p) (replies.Unread told.unread) mid t.own e-two come.user.session (record { settles = refl; enters = refl }) call-two own-two in
    let settled : is_settled_own (own_of s.id (standing_of pool h)) ≡ true = subst (λ (i : ℕ). is_settled_own (own_of i (standing_of pool h)) ≡ true) d.id_is
    (subst (λ (f : Fixed). is_settled_own (own_of t.id (standing_of f.pool h)) ≡ true) d.fixed there.settled) in
    let on : GoesOn began s t first now next a one ((b, two) ∷ []) = record {
      come = come;
      told = d.told;
      turns = (resting mid, (shuts, (resting next, (finishes, refl))));
      session = come.user.session;
      own = refl;
      settled = ap is_settled_own (own-behind s t.knows a one ((b, two) ∷ []) here legal d.told) ∙ settled;
      fixed = d.fixed;
      id = d.id_is;
    } in
    come-on on
