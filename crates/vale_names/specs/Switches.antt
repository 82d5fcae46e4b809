-- The places of the switches. A place has the name of a port that was opened there last; all its ports
-- are on that port's switch, and no two places are for one switch.
use Rattle.std.specs.Prelude.{ℕ, Bool, true, false, ◌==◌, ◌≡◌, ◌≤◌, List, [], ◌∷◌, ◌++◌, length, position, Option, Some, None, bytes_eq, slice_index_or}
use Rattle.std.specs.List.{list_any, list_all}
use Rattle.std.specs.Option.{option_or}
use Rattle.nm_types.specs.Limits.{most_switch_ports}
use Rattle.nm_types.specs.Names.{switch_of}
use Rattle.nm_types.specs.Openings.{is_on_switch}
use Rattle.nm_types.specs.declared.fault.OpenFault.{OpenFault}
use Rattle.nm_types.specs.declared.fault.OpenFault.TheVariants.{SwitchesFull}
use Rattle.vale_names.specs.declared.port.NamedPort.{NamedPort}
use Rattle.vale_names.specs.declared.switch.Switch.{Switch}
use Rattle.vale_names.specs.Ports.{shut_in, ports_without}
use Rattle.vale_names.specs.Groups.{group_refusal}

abbrev pub is_label_of : List ℕ → Option (List ℕ) → Bool
is_label_of switch None = false
is_label_of switch (Some label) = bytes_eq (switch_of label) switch

-- the place is for this switch, though it may have no port
abbrev pub is_for : List ℕ → Switch → Bool
is_for switch place = is_label_of switch place.label

abbrev pub is_on_label : Option (List ℕ) → NamedPort → Bool
is_on_label None port = false
is_on_label (Some label) port = is_on_switch (switch_of label) port.name

abbrev pub shares_label : Option (List ℕ) → Switch → Bool
shares_label None place = false
shares_label (Some label) place = is_for (switch_of label) place

abbrev pub is_vacant : Switch → Bool
is_vacant place = length place.group.ports == 0

abbrev pub ports_on : List Switch → List NamedPort
ports_on [] = []
ports_on (place ∷ places) = place.group.ports ++ ports_on places

pub record IsPlace (place : Switch) : Type 0 where
  pub named : list_all (is_on_label place.label) place.group.ports ≡ true
  pub most : place.group.most ≡ most_switch_ports
  pub few : length place.group.ports ≤ most_switch_ports

abbrev pub ArePlaces : List Switch → Type 0
ArePlaces [] = Unit {0}
ArePlaces (place ∷ places) = IsPlace place × ((list_any (shares_label place.label) places ≡ false) × ArePlaces places)

-- the place of a switch, else one without ports
abbrev pub place_for : List Switch → List ℕ → Option ℕ
place_for places switch = option_or (position (is_for switch) places) (position is_vacant places)

abbrev pub shut_place : ℕ → Switch → Switch
shut_place id place = record place { group = record place.group { ports = shut_in id place.group.ports } }

abbrev pub place_without : ℕ → Switch → Switch
place_without id place = record place { group = record place.group { ports = ports_without id place.group.ports } }

abbrev pub no_place : Switch
no_place = record { label = None; group = record { ports = []; most = 0 } }

abbrev pub refusal_at : List Switch → List ℕ → Option ℕ → Option OpenFault
refusal_at places name None = Some SwitchesFull
refusal_at places name (Some at) = group_refusal (slice_index_or places at no_place).group name

abbrev pub place_refusal : List Switch → List ℕ → Option OpenFault
place_refusal places name = refusal_at places name (place_for places (switch_of name))
