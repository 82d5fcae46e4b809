-- The port of a name, as it is kept and as it is seen.
use Rattle.std.proofs.Common.{ℕ, ◌≡◌, List, [], ◌∷◌, Some, None, inl, inr, refl}
use Rattle.std.specs.Str.{bytes_eq}
use Rattle.std.proofs.lemmas.Bool.{cases_Bool}
use Rattle.std.proofs.lemmas.Option.{same_Some}
use Rattle.nm_types.specs.OwnPorts.{port_with_name}
use Rattle.nm_hold.specs.Holds.{HoldState}
use Rattle.nm_port.specs.declared.port.UserPort.{UserPort}
use Rattle.nm_port.specs.Own.{port_seen, own_seen}
use Rattle.nm_own.specs.PortNames.{port_named}

pub name_found : (h : HoldState) (ports : List UserPort) (name : List ℕ) (p : UserPort) → port_named ports name ≡ Some p → port_with_name (own_seen h ports) name ≡ Some (port_seen h p)
name_found h [] name p found = absurd cc
name_found h (x ∷ ports) name p found = elim (cases_Bool (bytes_eq name x.name)) [
  | inl here ↦ (let is : x ≡ p = same_Some x p (rw here at found) in rw (here, is) refl)
  | inr other ↦ rw other (name_found h ports name p (rw other at found))
]

pub lacks_name : (h : HoldState) (ports : List UserPort) (name : List ℕ) → port_named ports name ≡ None → port_with_name (own_seen h ports) name ≡ None
lacks_name h [] name e = refl
lacks_name h (x ∷ ports) name e = elim (cases_Bool (bytes_eq name x.name)) [
  | inl here ↦ absurd (let found = rw here at e in cc)
  | inr other ↦ rw other (lacks_name h ports name (rw other at e))
]
