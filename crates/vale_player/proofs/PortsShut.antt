-- A port that a user closes, and one that it has not.
use Rattle.std.proofs.Common.{ℕ, ◌≡◌, List, [], ◌∷◌, Some, None, option_map, refl, sym, ◌∙◌, ap, subst}
use Rattle.std.proofs.lemmas.Option.{same_Some}
use Rattle.nm_types.specs.declared.id.PortId.{PortId}
use Rattle.nm_types.specs.OwnPorts.{OwnPort, port_with_name}
use Rattle.nm_user.specs.declared.leaving.Detached.{Detached}
use Rattle.nm_user.specs.Leaving.{IsDetached}
use Rattle.nm_user.specs.Sessions.{IsThere}
use Rattle.vale_replay.specs.Tasks.{ShutPort, FinishPort}
use Rattle.vale_player.specs.Users.{HasCome}
use Rattle.vale_player.specs.Players.{PlayerState, machine_of, Does}
use Rattle.vale_player.proofs.Changes.{id-of}
use Rattle.vale_player.proofs.LineLaws.{detaches-done}
use Rattle.vale_player.proofs.PortCalls.{found-port, passes-on}

module _ (p q : PlayerState) (same : q ≡ record p { session = q.session }) (name : List ℕ) (port : PortId) (told : Detached) (d : IsDetached p.session q.session port.0 told) where
  pub closes-does : IsThere None p.session → IsThere None q.session → option_map id-of (port_with_name p.session.own name) ≡ Some port → Does p q (ShutPort name ∷ FinishPort name ∷ [])
  closes-does here there found rest began first come =
      let f = found-port p.session.own name port here.side.sound found in
      let at : d.at.port ≡ f.at = same_Some d.at.port f.at (sym d.at.found ∙ f.found) in
      let named : port_with_name p.session.own name ≡ Some d.at.port = f.named ∙ ap (λ (x : OwnPort). Some x) (sym at) in
      let done = detaches-done p.number p.saves p.session q.session name port.0 told here there d named rest began first come in
      subst (λ (x : PlayerState). HasCome began first x.session (machine_of x rest)) (sym same) done

pub closes-none : (p : PlayerState) (name : List ℕ) → option_map id-of (port_with_name p.session.own name) ≡ None → Does p p (ShutPort name ∷ FinishPort name ∷ [])
closes-none p name none rest began first come =
    passes-on p name (FinishPort name) refl none rest began first (passes-on p name (ShutPort name) refl none (FinishPort name ∷ rest) began first come)
