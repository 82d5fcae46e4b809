-- What a line changes at ports that are found by their names.
use Rattle.std.proofs.Common.{ℕ, ◌≡◌, List, Option, Some, None, option_map, sym, ◌∙◌, ap}
use Rattle.std.proofs.lemmas.Option.{same_Some}
use Rattle.nm_types.specs.declared.id.PortId.{PortId}
use Rattle.nm_types.specs.OwnPorts.{OwnPort, OwnState, port_with_name}
use Rattle.nm_user.specs.Sessions.{SessionState}
use Rattle.vale_script.specs.declared.script.Act.{Act}
use Rattle.vale_replay.specs.Edits.{at_port, change_found, changed_by}
use Rattle.vale_player.specs.Players.{PlayerState, with_act}

abbrev pub id-of : OwnPort → PortId
id-of p = p.id

pub changed-at : (own : OwnState) (name : List ℕ) (port : PortId) (change : ℕ → OwnState → OwnState)
    → option_map id-of (port_with_name own name) ≡ Some port → at_port name change own ≡ change port.0 own
changed-at own name port change is = by (port_with_name own name) is
  where
    by : (found : Option OwnPort) → option_map id-of found ≡ Some port → change_found change own found ≡ change port.0 own
    by None e = absurd cc
    by (Some p) e = ap (λ (id : PortId). change id.0 own) (same_Some p.id port e)

-- so the user has what the line makes of what it had
pub acted : (p : PlayerState) (t : SessionState) (act : Act) (own : OwnState) → t ≡ record p.session { own = own } → changed_by act p.session.own ≡ own → record p { session = t } ≡ with_act act p
acted p t act own made is = ap (λ (s : SessionState). record p { session = s }) (made ∙ ap (λ (o : OwnState). record p.session { own = o }) (sym is))
