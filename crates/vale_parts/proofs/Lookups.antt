-- A batch looked up in a table of its switch is named as the pairs name it.
use Rattle.std.proofs.Common.{ℕ, Bool, true, false, cond, not, ◌≡◌, ◌+◌, List, [], ◌∷◌, length, map, Option, Some, None, refl, sym, ◌∙◌, ap, subst, ◌==◌, ◌&&◌, ◌||◌, count_by, filter}
use Rattle.std.specs.List.{AllByRecursion as Each, list_any, list_all}
use Rattle.std.specs.Int.{div_ceil}
use Rattle.std.proofs.lemmas.Bool.{and_parts, eqb-true}
use Rattle.std.proofs.lemmas.List.Sums.{sum_by-cons}
use Rattle.nm_types.specs.Frames.{Frame}
use Rattle.nm_types.specs.Names.{switch_of, is_switch_port_name}
use Rattle.nm_types.specs.Sendable.{is_frame}
use Rattle.nm_types.specs.declared.id.PortId.{PortId}
use Rattle.nm_types.proofs.Tests.{or_none}
use Rattle.vale_learn.specs.AddressTable.{Entries}
use Rattle.vale_learn.specs.AddressTable.{port_of_address as table_port}
use Rattle.vale_batch.specs.declared.looking.Destination.{Destination as Lookup}
use Rattle.vale_batch.specs.declared.looking.Destination.TheVariants as lookups
use Rattle.vale_batch.specs.declared.looking.Looked.{Looked}
use Rattle.vale_batch.specs.Looking.{looked_up, looked_up_batch, learned_from}
use Rattle.vale_batch.specs.Looking.{destination_found as lookup_found}
use Rattle.vale_batch.specs.Wants.{is_short_at, is_lone_destination, is_other}
use Rattle.vale_batch.specs.Wants.{is_lone as is_lone_looked}
use Rattle.vale_entry.specs.World.{Port, Pair, is_open, open_port}
use Rattle.vale_entry.specs.Learning.{is_short, is_group, destination_address, learned, port_of_address}
use Rattle.vale_entry.specs.Lookup.{Destination, These, Others, Named, named_frames, destination_of, destination_found, names_some_port, is_lone, is_named, is_other_port}
use Rattle.vale_entry.specs.Offers.{frame_of}
use Rattle.vale_entry.specs.Laws.{Rise, id_of_port as number_of, IsPairOf}
use Rattle.vale_entry.proofs.Each.{each-all, each-weaker}
use Rattle.vale_entry.proofs.Places.{open-place}
use Rattle.vale_entry.proofs.Watched.{only-place}
use Rattle.vale_parts.specs.Ids.{id_of, port_id, id_of_port}
use Rattle.vale_parts.specs.SwitchPorts.{is_open_on, open_ports_on}
use Rattle.vale_parts.specs.Tables.{FindsPairs}
use Rattle.vale_parts.specs.Batches.{named_as, IsLookedAs, AreLookedAs}
use Rattle.vale_parts.proofs.SwitchPairs.{PortFound, found-port}
use Rattle.vale_parts.proofs.TableFinds.{IsTable, frame-finds, frame-size}
use Rattle.vale_parts.proofs.PairsKept.{learned-paired}

-- ---- one frame

module _ (sender : Port) where
  found_test : (to : PortId) (b : Bool) → named_as (cond b lookups.Nobody (lookups.Only to)) ≡ cond b (These []) (These (to.0 ∷ []))
  found_test to true = refl
  found_test to false = refl

  found_same : (found : Option PortId) (other : Option ℕ) → id_of found ≡ other → named_as (lookup_found (port_id sender.id) found) ≡ destination_found sender other
  found_same found other e = subst (λ (o : Option ℕ). named_as (lookup_found (port_id sender.id) found) ≡ destination_found sender o) e (own found)
    where
      own : (found : Option PortId) → named_as (lookup_found (port_id sender.id) found) ≡ destination_found sender (id_of found)
      own None = refl
      own (Some to) = found_test to (to.0 == sender.id)

  same_by : (short group : Bool) (found : Option PortId) (other : Option ℕ) → id_of found ≡ other
      → named_as (cond short lookups.Short (cond group lookups.Others (lookup_found (port_id sender.id) found))) ≡ cond short (These []) (cond group Others (destination_found sender other))
  same_by true group found other e = refl
  same_by false true found other e = refl
  same_by false false found other e = found_same found other e

  short_test : (to : PortId) (b : Bool) → is_short_at (cond b lookups.Nobody (lookups.Only to)) ≡ false
  short_test to true = refl
  short_test to false = refl

  short_found : (found : Option PortId) → is_short_at (lookup_found (port_id sender.id) found) ≡ false
  short_found None = refl
  short_found (Some to) = short_test to (to.0 == sender.id)

  short_by : (short group : Bool) (found : Option PortId) → is_short_at (cond short lookups.Short (cond group lookups.Others (lookup_found (port_id sender.id) found))) ≡ short
  short_by true group found = refl
  short_by false true found = refl
  short_by false false found = short_found found

  frame_named : (ports : List Port) (pairs : List Pair) (entries : Entries) (frame : Frame) → is_frame frame ≡ true → FindsPairs ports pairs (switch_of sender.name) entries
      → IsLookedAs (looked_up (port_id sender.id) entries frame) (record { frame = frame; destination = destination_of ports sender pairs frame })
  frame_named ports pairs entries frame fits finds = record {
    destination = same_by (is_short frame) (is_group (destination_address frame)) (table_port entries (destination_address frame)) (port_of_address ports pairs (switch_of sender.name) (destination_address frame)) (finds (destination_address frame));
    short = short_by (is_short frame) (is_group (destination_address frame)) (table_port entries (destination_address frame));
    size = refl;
  }

  -- ---- a batch
  pub batch_named : (ports : List Port) (pairs : List Pair) (entries : Entries) (frames : List Frame) → list_all is_frame frames ≡ true → IsTable entries → is_open ports sender.id ≡ true
      → FindsPairs ports pairs (switch_of sender.name) entries → AreLookedAs (looked_up_batch (port_id sender.id) entries frames) (named_frames ports sender pairs frames)
  batch_named ports pairs entries [] fits size up finds = tt
  batch_named ports pairs entries (frame ∷ frames) fits size up finds =
      let parts = and_parts (is_frame frame) (list_all is_frame frames) fits in
      let taught = frame-finds ports sender pairs entries frame size up finds in (
        frame_named ports (learned sender pairs frame) (learned_from (port_id sender.id) entries frame) frame parts.0 taught,
        batch_named ports (learned sender pairs frame) (learned_from (port_id sender.id) entries frame) frames parts.1 (frame-size (port_id sender.id) entries frame size) up taught,
      )

  pub frames_named : (ports : List Port) (pairs : List Pair) (frames : List Frame) → map frame_of (named_frames ports sender pairs frames) ≡ frames
  frames_named ports pairs [] = refl
  frames_named ports pairs (frame ∷ frames) = ap (λ (rest : List Frame). frame ∷ rest) (frames_named ports (learned sender pairs frame) frames)

  -- ---- whom a frame is named for

  abbrev pub NamesOpen : Destination → Port → Type 0
  NamesOpen destination port = is_named sender destination port ≡ true → is_open_on (switch_of sender.name) port ≡ true

  nobody_open : (port : Port) → NamesOpen (These []) port
  nobody_open port is = absurd cc

  others_open : (port : Port) → NamesOpen Others port
  others_open port is = (and_parts (not (port.id == sender.id)) (is_open_on (switch_of sender.name) port) is).1

  only_open : (ports : List Port) (high id : ℕ) → Rise 0 (map number_of ports) high → PortFound ports (switch_of sender.name) id → Each (NamesOpen (These (id ∷ []))) ports
  only_open ports high id r found =
      let place = open-place ports high id found.port r found.here in
      each-weaker (λ (p : Port). p.id ≡ found.port.id → p ≡ found.port) (NamesOpen (These (id ∷ [])))
      (λ p same is. ap (is_open_on (switch_of sender.name)) (same (eqb-true p.id id (sym (or_none (p.id == id)) ∙ is) ∙ sym found.id_is)) ∙ found.on) ports (only-place ports high place.place found.port r place.here)

  found_open : (ports : List Port) (high id : ℕ) (b : Bool) → Rise 0 (map number_of ports) high → PortFound ports (switch_of sender.name) id → Each (NamesOpen (cond b (These []) (These (id ∷ [])))) ports
  found_open ports high id true r found = each-all (NamesOpen (These [])) nobody_open ports
  found_open ports high id false r found = only_open ports high id r found

  open_by : (count high : ℕ) (ports : List Port) (pairs : List Pair) (address : List ℕ) → Rise 0 (map number_of ports) high → Each (IsPairOf count ports) pairs
      → (short group : Bool) (found : Option ℕ) → port_of_address ports pairs (switch_of sender.name) address ≡ found
      → Each (NamesOpen (cond short (These []) (cond group Others (destination_found sender found)))) ports
  open_by count high ports pairs address r all true group found e = each-all (NamesOpen (These [])) nobody_open ports
  open_by count high ports pairs address r all false true found e = each-all (NamesOpen Others) others_open ports
  open_by count high ports pairs address r all false false None e = each-all (NamesOpen Others) others_open ports
  open_by count high ports pairs address r all false false (Some id) e =
      found_open ports high id (id == sender.id) r (found-port count ports pairs (switch_of sender.name) address id all e)

  abbrev pub NamesOpenAt : List Port → Named → Type 0
  NamesOpenAt ports named = Each (NamesOpen named.destination) ports

  pub named_open : (count from : ℕ) (ports : List Port) → Rise 0 (map number_of ports) count → open_port ports from ≡ Some sender → is_switch_port_name sender.name ≡ true
      → (pairs : List Pair) (frames : List Frame) → Each (IsPairOf count ports) pairs → Each (NamesOpenAt ports) (named_frames ports sender pairs frames)
  named_open count from ports r e switched pairs [] all = tt
  named_open count from ports r e switched pairs (frame ∷ frames) all =
      let more : Each (IsPairOf count ports) (learned sender pairs frame) = learned-paired ports count from sender r e switched (frame ∷ []) pairs all in (
        open_by count count ports (learned sender pairs frame) (destination_address frame) r more (is_short frame) (is_group (destination_address frame))
            (port_of_address ports (learned sender pairs frame) (switch_of sender.name) (destination_address frame)) refl,
        named_open count from ports r e switched (learned sender pairs frame) frames more,
      )

  -- ---- frames for no port
  others_by : (port : Port) (ups : List Port) (any : Bool) (o : Bool) → is_open_on (switch_of sender.name) port ≡ o → list_any (is_other (port_id sender.id)) (map id_of_port ups) ≡ any
      → list_any (is_other (port_id sender.id)) (map id_of_port (cond o (port ∷ ups) ups)) ≡ (is_other_port sender port || any)
  others_by port ups any true t rest =
      ap (λ (b : Bool). not (port.id == sender.id) || b) rest ∙ (ap (λ (b : Bool). b || any) (sym (one_more (not (port.id == sender.id)) (is_open_on (switch_of sender.name) port) t)))
    where
      one_more : (a b : Bool) → b ≡ true → (a && b) ≡ a
      one_more true b t = t
      one_more false b t = refl
  others_by port ups any false t rest =
      rest ∙ ap (λ (b : Bool). b || any) (sym (none_more (not (port.id == sender.id)) (is_open_on (switch_of sender.name) port) t))
    where
      none_more : (a b : Bool) → b ≡ false → (a && b) ≡ false
      none_more true b t = t
      none_more false b t = refl

  others_same : (ports : List Port) → list_any (is_other (port_id sender.id)) (open_ports_on (switch_of sender.name) ports) ≡ list_any (is_other_port sender) ports
  others_same [] = refl
  others_same (port ∷ ports) =
      others_by port (filter (is_open_on (switch_of sender.name)) ports) (list_any (is_other_port sender) ports) (is_open_on (switch_of sender.name) port) refl (others_same ports)

  lone_by : (ports : List Port) (d : Lookup) (others : Bool) → others ≡ list_any (is_other_port sender) ports
      → is_lone_destination others d ≡ (not (is_short_at d) && not (names_some_port ports sender (named_as d)))
  lone_by ports lookups.Short others e = refl
  lone_by ports lookups.Nobody others e = refl
  lone_by ports (lookups.Only to) others e = refl
  lone_by ports lookups.Others others e = ap not e

  lone_same : (ports : List Port) (looked : Looked) (named : Named) → IsLookedAs looked named
      → is_lone_looked (port_id sender.id) (open_ports_on (switch_of sender.name) ports) looked ≡ is_lone ports sender named
  lone_same ports looked named same =
      lone_by ports looked.destination (list_any (is_other (port_id sender.id)) (open_ports_on (switch_of sender.name) ports)) (others_same ports)
      ∙ (ap (λ (b : Bool). not b && not (names_some_port ports sender (named_as looked.destination))) same.short
      ∙ ap (λ (d : Destination). not (is_short named.frame) && not (names_some_port ports sender d)) same.destination)

  abbrev one_if : Bool → ℕ
  one_if b = cond b 1 0

  pub lone_counted : (ports : List Port) (looked : List Looked) (named : List Named) → AreLookedAs looked named
      → count_by (is_lone_looked (port_id sender.id) (open_ports_on (switch_of sender.name) ports)) looked ≡ count_by (is_lone ports sender) named
  lone_counted ports [] [] all = refl
  lone_counted ports [] (n ∷ ns) all = absurd all
  lone_counted ports (l ∷ ls) [] all = absurd all
  lone_counted ports (l ∷ ls) (n ∷ ns) all =
      let here = lone_same ports l n all.0 in
      let rest = lone_counted ports ls ns all.1 in
      let left = sum_by-cons (λ (x : Looked). one_if (is_lone_looked (port_id sender.id) (open_ports_on (switch_of sender.name) ports) x)) l ls in
      let right = sum_by-cons (λ (x : Named). one_if (is_lone ports sender x)) n ns in
      left ∙ (ap (λ (k : ℕ). one_if (is_lone_looked (port_id sender.id) (open_ports_on (switch_of sender.name) ports) l) + k) rest
      ∙ (ap (λ (b : Bool). one_if b + count_by (is_lone ports sender) ns) here ∙ sym right))
