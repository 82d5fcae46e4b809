-- A user that has come as a session of a fabric.
use Rattle.std.proofs.Common.{ℕ, ◌≡◌, List, [], ◌∷◌, length, Some, None, refl, sym, subst}
use Rattle.nm_types.specs.OwnPorts.{OwnState, empty_own}
use Rattle.vale_entry.specs.declared.entry.Ask.TheVariants.{Enter}
use Rattle.vale_entry.specs.declared.entry.Reply.TheVariants as replies
use Rattle.vale_fabric.specs.declared.fabric.Fabric.{Fabric}
use Rattle.vale_fabric.specs.declared.kept.Fixed.{Fixed}
use Rattle.vale_fabric.specs.Fabrics.{Knowing, Answers, fixed_in}
use Rattle.nm_user.specs.Sessions.{SessionState, IsThere}
use Rattle.nm_user.proofs.After.{there-come}
use Rattle.vale_replay.specs.Tasks.{Task, Arrive}
use Rattle.vale_replay.specs.Machine.{Save, new_machine, resting}
use Rattle.vale_player.specs.Users.{HasCome}
use Rattle.vale_player.specs.Lines.{user_with}
use Rattle.vale_player.specs.Players.{HasEntered}
use Rattle.vale_player.proofs.Entering.{user-enters}

-- what is known of a session that has just come
module _ (fabric : Fabric) (began : Knowing) (number : ℕ) (s : SessionState) (made : Answers (fixed_in fabric) began s.knows (Enter number) replies.Made) (id : s.id ≡ length s.knows.seen)
    (of : s.fabric ≡ fabric) (fixed : s.fixed ≡ fixed_in fabric) (own : s.own ≡ empty_own s.fixed.pool) where
  pub comes-there : IsThere None s
  comes-there =
      let n = length s.knows.seen in
      let new = fixed_in fabric in
      let here : IsThere None (record { fabric = s.fabric; fixed = new; knows = s.knows; id = n; user = s.user; own = empty_own new.pool }) = there-come {fabric = s.fabric} made.makes in
      let at : IsThere None (record { fabric = s.fabric; fixed = s.fixed; knows = s.knows; id = n; user = s.user; own = empty_own s.fixed.pool }) =
      subst (λ (f : Fixed). IsThere None (record { fabric = s.fabric; fixed = f; knows = s.knows; id = n; user = s.user; own = empty_own f.pool })) (sym fixed) here in
      let has : IsThere None (record { fabric = s.fabric; fixed = s.fixed; knows = s.knows; id = n; user = s.user; own = s.own }) =
      subst (λ (o : OwnState). IsThere None (record { fabric = s.fabric; fixed = s.fixed; knows = s.knows; id = n; user = s.user; own = o })) (sym own) at in
      subst (λ (k : ℕ). IsThere None (record { fabric = s.fabric; fixed = s.fixed; knows = s.knows; id = k; user = s.user; own = s.own })) (sym id) has

  comes : (rest : List Task) → HasCome began (resting (record (new_machine (fixed_in fabric).pool number) { tasks = Arrive ∷ rest })) s (user_with number [] s rest)
  comes rest =
      let first = resting (record (new_machine s.fixed.pool number) { tasks = Arrive ∷ rest }) in
      let answers : Answers s.fixed began s.knows (Enter number) replies.Made = subst (λ (f : Fixed). Answers f began s.knows (Enter number) replies.Made) (sym fixed) made in
      let enters = user-enters began s (record (new_machine s.fixed.pool number) { tasks = Arrive ∷ rest }) rest comes-there answers id own refl refl refl in
      let has : HasCome began first s (user_with number [] s rest) =
      subst (λ (o : OwnState). HasCome began first s (record { number = number; session = Some (record { 0 = s.id }); own = o; saves = []; tasks = rest })) (sym own) enters in
      subst (λ (f : Fixed). HasCome began (resting (record (new_machine f.pool number) { tasks = Arrive ∷ rest })) s (user_with number [] s rest)) fixed has

  pub has-entered : (saves : List Save) (names : List (List ℕ)) → saves ≡ [] → HasEntered fabric began number (record { number = number; session = s; saves = saves; names = names })
  has-entered saves names none = record {
    number_is = refl;
    fabric_is = of;
    fixed_is = fixed;
    saves = none;
    comes = λ rest. subst (λ (held : List Save). HasCome began (resting (record (new_machine (fixed_in fabric).pool number) { tasks = Arrive ∷ rest })) s (user_with number held s rest)) (sym none) (comes rest);
  }
