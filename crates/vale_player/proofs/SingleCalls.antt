-- A call that makes one entry, or none, and its user.
use Rattle.std.proofs.Common.{ℕ, ◌≡◌, true, List, [], ◌∷◌, Option, None, Result, Ok, Err, inl, inr, ◌⊎◌, refl, sym, ◌∙◌, ap, subst}
use Rattle.nm_types.specs.declared.fault.StepFault.{StepFault}
use Rattle.nm_types.specs.declared.fault.StepFault.TheVariants.{NoMemory}
use Rattle.nm_types.specs.OwnPorts.{OwnState}
use Rattle.vale_entry.specs.declared.entry.Ask.{Ask}
use Rattle.vale_entry.specs.declared.entry.Reply.{Reply}
use Rattle.vale_entry.specs.Legal.{kept_ask}
use Rattle.vale_own.specs.Side.{IsOfSide, shut_after}
use Rattle.vale_fabric.specs.declared.fabric.Fabric.{Fabric}
use Rattle.vale_fabric.specs.Fabrics.{Knowing, Refuses}
use Rattle.nm_user.specs.Sessions.{SessionState, IsThere}
use Rattle.nm_user.specs.Calls.{Made, MadeNone}
use Rattle.nm_user.proofs.After.{IsQuiet, after_call, there-after, there-still}
use Rattle.vale_replay.specs.Tasks.{Task}
use Rattle.vale_replay.specs.Machine.{Save}
use Rattle.vale_player.specs.Users.{HasCome}
use Rattle.vale_player.specs.Lines.{user_with, TaskCalls, is_single}
use Rattle.vale_player.specs.Players.{PlayerState, machine_of, Does, HasCalled}
use Rattle.vale_player.proofs.Askers.{whose-task}
use Rattle.vale_player.proofs.LineLaws.{calls-done}
use Rattle.vale_player.proofs.TaskCalls.{task-call}
use Rattle.vale_player.proofs.Turns.{same-but}

-- it starts no offer, and shuts no port
pub record IsSmall (own : OwnState) (ask : Ask) : Type 0 where
  pub of : (r : Reply) → IsOfSide None own (kept_ask ask) r
  pub quiet : IsQuiet (kept_ask ask)
  pub shuts : shut_after (kept_ask ask) None ≡ None

called-is : (s t : SessionState) (ask : Ask) (reply : Reply) → Made s t ask reply → after_call s t.knows ask reply ≡ t
called-is s t ask reply made =
    ap (λ (f : Fabric). record (after_call s t.knows ask reply) { fabric = f }) (sym made.fabric)
    ∙ (ap (λ (n : ℕ). record (after_call s t.knows ask reply) { fabric = t.fabric; user = n }) (sym made.user)
    ∙ (ap (λ (o : OwnState). record { fabric = t.fabric; fixed = s.fixed; knows = t.knows; id = s.id; user = t.user; own = o }) (sym made.own)
    ∙ same-but s t made.fixed made.id))

module _ (number : ℕ) (saves : List Save) (s t : SessionState) (task : Task) (ask : Ask) (here : IsThere None s) (calls : TaskCalls number saves s task ask) where
  pub made-there : (reply : Reply) → IsSmall s.own ask → Made s t ask reply → IsThere None t
  made-there reply small made =
      let m = made.answers.makes in
      let mine : m.session ≡ s.id = whose-task here m (task-call (user_with number saves s []) (record { 0 = s.id }) (task ∷ []) ask here.side.sound refl calls) in
      let after = there-after here m mine (small.of m.reply) small.quiet in
      let same : after_call s t.knows ask m.reply ≡ t = ap (after_call s t.knows ask) made.answers.reply_is ∙ called-is s t ask reply made in
      subst (λ (shut : Option ℕ). IsThere shut t) small.shuts (subst (IsThere (shut_after (kept_ask ask) None)) same after)

pub none-there : (s t : SessionState) (ask : Ask) (fault : StepFault) → IsThere None s → MadeNone s t ask fault → IsThere None t
none-there s t ask fault here none = subst (IsThere None) (sym none.same) (by none.refused)
  where
    by : ((t.knows ≡ s.knows) × (fault ≡ NoMemory)) ⊎ Refuses s.fixed s.knows t.knows ask fault → IsThere None (record s { knows = t.knows })
    by (inl e) = subst (λ (w : Knowing). IsThere None (record s { knows = w })) (sym e.0) here
    by (inr refuses) = there-still here refuses.none

-- what follows of a call, from the entry that it made, or from that it made none
pub record Follows (s t : SessionState) (ask : Ask) (P : Result (Unit {0}) StepFault → Type 0) : Type 0 where
  pub made : (reply : Reply) → Made s t ask reply → P (Ok tt)
  pub none : (fault : StepFault) → MadeNone s t ask fault → P (Err fault)

-- the task is done, or the user has stopped at it; and it is there still
module _ (p q : PlayerState) (task : Task) (ask : Ask) (here : IsThere None p.session) (calls : TaskCalls p.number p.saves p.session task ask) (small : IsSmall p.session.own ask) where
  pub stands-by : Follows p.session q.session ask (λ r. IsThere None q.session)
  stands-by = record {
    made = λ reply made. made-there p.number p.saves p.session q.session task ask here calls reply small made;
    none = λ fault none. none-there p.session q.session ask fault here none;
  }

  module _ (same : q ≡ record p { session = q.session }) where
    does-single : (reply : Reply) → is_single task ≡ true → Made p.session q.session ask reply → Does p q (task ∷ [])
    does-single reply one made rest began first come =
        let done = calls-done p.number p.saves p.session q.session task ask reply here (stands-by.made reply made) one calls made rest began first come in
        subst (λ (x : PlayerState). HasCome began first x.session (machine_of x rest)) (sym same) done

    pub called-by : is_single task ≡ true → Follows p.session q.session ask (HasCalled p q task)
    called-by one = record {
      made = λ reply made. record {
        does = does-single reply one made;
        stops = tt;
        still = record { number = ap (λ (x : PlayerState). x.number) same; names = ap (λ (x : PlayerState). x.names) same; fabric = made.fabric; fixed = made.fixed };
        there = here;
      };
      none = λ fault none. record {
        does = tt;
        stops = record { ask = ask; calls = calls; none = none; same = same };
        still = record {
          number = ap (λ (x : PlayerState). x.number) same;
          names = ap (λ (x : PlayerState). x.names) same;
          fabric = ap (λ (x : SessionState). x.fabric) none.same;
          fixed = ap (λ (x : SessionState). x.fixed) none.same;
        };
        there = here;
      };
    }
