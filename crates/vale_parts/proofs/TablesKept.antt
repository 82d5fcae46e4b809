-- What each entry makes of the table of a switch keeps what it finds.
use Rattle.std.proofs.Common.{ℕ, ◌+◌, ◌≡◌, Bool, true, false, cond, ◌&&◌, List, [], ◌∷◌, ◌++◌, length, map, Option, Some, None, is_some, ◌⊎◌, refl, sym, ◌∙◌, ap, subst, arith, bytes_eq, inl, inr}
use Rattle.std.specs.List.{AllByRecursion as Each}
use Rattle.std.proofs.lemmas.Bool.{and_parts, and_cases, true≢false}
use Rattle.std.proofs.lemmas.Slice.Eq.{bytes_eq-Decides}
use Rattle.nm_types.specs.Limits.{buckets}
use Rattle.nm_types.specs.Frames.{Frame}
use Rattle.nm_types.specs.Names.{switch_of, is_switch_port_name}
use Rattle.nm_types.specs.Sendable.{is_sendable}
use Rattle.nm_types.specs.declared.id.PortId.{PortId}
use Rattle.vale_learn.specs.AddressTable.{Entries, forgotten, without_port}
use Rattle.vale_learn.specs.AddressTable.{port_of_address as table_port}
use Rattle.vale_learn.specs.declared.table.Station.{Station}
use Rattle.vale_learn.proofs.TableLaws.{none_found_at_first, restoring_undoes_learning}
use Rattle.vale_batch.specs.Looking.{learned_from}
use Rattle.std.proofs.lemmas.List.{length-map, length-replicate}
use Rattle.vale_batch.specs.Looking.{learned_of_batch as table_learned_batch}
use Rattle.vale_entry.specs.declared.entry.Ask.{Ask}
use Rattle.vale_entry.specs.declared.entry.Ask.TheVariants.{Send, Shut}
use Rattle.vale_entry.specs.declared.entry.Reply.{Reply}
use Rattle.vale_entry.specs.declared.entry.Entry.{Entry}
use Rattle.vale_entry.specs.World.{World, Port, Pair, open_port, is_open, is_settled, changed_at}
use Rattle.vale_entry.specs.Learning.{learned_of_batch, port_of_address}
use Rattle.vale_entry.specs.Opening.{opened_port, is_on_switch}
use Rattle.vale_entry.specs.Grant.{port_after_grant, granted_frames}
use Rattle.vale_entry.specs.Delivery.{port_after_done, port_after_sync}
use Rattle.vale_entry.specs.Closing.{shut, ports_without}
use Rattle.vale_entry.specs.Pipe.{frames_of_items, port_after_put}
use Rattle.vale_entry.specs.Legal.{Standing, after, standing_of, world_of, Follows, can_send, is_met}
use Rattle.vale_entry.proofs.Each.{each-all, each-weaker}
use Rattle.vale_entry.proofs.Places.{open-place}
use Rattle.vale_entry.proofs.Worlds.{standing-push}
use Rattle.vale_entry.proofs.Numbered.{Numbered, world-numbered}
use Rattle.vale_entry.proofs.Follows.{EachKind, Left, IsQuiet, refused_open, resets, finds_no_peer, finds_no_target, finds_watched, counts, Receives, by_sync, by_get, follows-by}
use Rattle.vale_parts.specs.Ids.{id_of, port_id}
use Rattle.vale_parts.specs.Tables.{FindsPairs, Finds, table_after}
use Rattle.vale_parts.specs.TableLaws.{TablesFollow, EmptyTablesServe, LastPortsEmptyTables, FoundPortsAreOpen, FreshTablesFindNothing, FreshTablesAreTables, TablesKeepTheirSize, FramesAreLearned, LearningIsTakenBack}
use Rattle.vale_parts.proofs.OpenPorts.{open-map, open-changed, open-pushed, open-without}
use Rattle.vale_parts.proofs.TableFinds.{IsTable, frame-size, frame-finds, batch-finds, other-finds, ports-find, forgotten-finds, elsewhere-finds, vacant-finds, vacant-nothing}
use Rattle.vale_parts.proofs.SwitchPairs.{found-port}
use Rattle.vale_entry.proofs.PairsOfSwitch.{pairs-of_switch}
use Rattle.vale_entry.specs.Laws.{IsPairOf, ArePairsOf}

quiet_table : (s : Standing) (switch : List ℕ) (entries : Entries) (ask : Ask) (session : ℕ) (reply : Reply) → IsQuiet s ask session reply → table_after s.world switch ask entries ≡ entries
quiet_table s switch entries _ _ _ (refused_open session name tx rx extra fault can e) = refl
quiet_table s switch entries _ _ _ _ = refl

read_table : (w : World) (switch : List ℕ) (entries : Entries) (ask : Ask) (at : PortId) (back : List ℕ) → Receives ask at back → table_after w switch ask entries ≡ entries
read_table w switch entries _ _ _ (by_sync at back) = refl
read_table w switch entries _ _ _ (by_get at back) = refl

-- ports that are all as open as they were
alike : (ports other : List Port) (pairs : List Pair) (switch : List ℕ) (entries : Entries) → ((id : ℕ) → is_open other id ≡ is_open ports id) → FindsPairs ports pairs switch entries → FindsPairs other pairs switch entries
alike ports other pairs switch entries same finds =
    ports-find ports other pairs switch entries (each-all (λ (pair : Pair). is_open other pair.port ≡ is_open ports pair.port) (λ pair. same pair.port) pairs) finds

opened : (count : ℕ) (ports : List Port) (new : Port) (pairs : List Pair) (switch : List ℕ) (entries : Entries) → new.id ≡ count + 1 → Each (IsPairOf count ports) pairs
    → FindsPairs ports pairs switch entries → FindsPairs (ports ++ new ∷ []) pairs switch entries
opened count ports new pairs switch entries id all finds =
    ports-find ports (ports ++ new ∷ []) pairs switch entries
    (each-weaker (IsPairOf count ports) (λ (pair : Pair). is_open (ports ++ new ∷ []) pair.port ≡ is_open ports pair.port)
    (λ pair here. open-pushed ports new pair.port (λ same. omega (arith, here.within, id, same))) pairs all) finds

sent_by : (ports : List Port) (pairs : List Pair) (switch : List ℕ) (entries : Entries) (from : PortId) (frames : List Frame) (port : Port) → IsTable entries → is_open ports port.id ≡ true
    → port.id ≡ from.0 → is_switch_port_name port.name ≡ true → FindsPairs ports pairs switch entries → (b : Bool) → is_on_switch switch port ≡ b
    → FindsPairs ports (learned_of_batch port pairs frames) switch (cond b (table_learned_batch from entries frames) entries)
sent_by ports pairs switch entries from frames port size up id named finds true on =
    let same : switch_of port.name ≡ switch = (bytes_eq-Decides (switch_of port.name) switch).0 (and_parts (is_switch_port_name port.name) (bytes_eq (switch_of port.name) switch) on).1 in
    let own : FindsPairs ports pairs (switch_of port.name) entries = subst (λ (s : List ℕ). FindsPairs ports pairs s entries) (sym same) finds in
    let taught = batch-finds ports port pairs entries frames size up own in
    let here = subst (λ (s : List ℕ). FindsPairs ports (learned_of_batch port pairs frames) s (table_learned_batch (port_id port.id) entries frames)) same taught in
    subst (λ (k : ℕ). FindsPairs ports (learned_of_batch port pairs frames) switch (table_learned_batch (port_id k) entries frames)) id here
sent_by ports pairs switch entries from frames port size up id named finds false off =
    other-finds ports port pairs switch entries frames (elsewhere (and_cases (is_switch_port_name port.name) (bytes_eq (switch_of port.name) switch) off)) finds
  where
    elsewhere : (is_switch_port_name port.name ≡ false) ⊎ (bytes_eq (switch_of port.name) switch ≡ false) → bytes_eq (switch_of port.name) switch ≡ false
    elsewhere (inl wrong) = absurd (true≢false (sym named ∙ wrong))
    elsewhere (inr apart) = apart

shut_by : (count : ℕ) (ports : List Port) (pairs : List Pair) (switch : List ℕ) (entries : Entries) (at : PortId) (port : Port) → Each (IsPairOf count ports) pairs → open_port ports at.0 ≡ Some port
    → port.id ≡ at.0 → FindsPairs ports pairs switch entries → (b : Bool) → is_on_switch switch port ≡ b
    → FindsPairs (changed_at port.id shut ports) pairs switch (cond b (forgotten entries at) entries)
shut_by count ports pairs switch entries at port all e id finds true on =
    subst (λ (k : ℕ). FindsPairs (changed_at k shut ports) pairs switch (forgotten entries at)) (sym id) (forgotten-finds ports pairs switch entries at finds)
shut_by count ports pairs switch entries at port all e id finds false off =
    subst (λ (k : ℕ). FindsPairs (changed_at k shut ports) pairs switch entries) (sym id) (elsewhere-finds count ports pairs switch entries port at.0 all e off finds)

module _ (s : Standing) (n : Numbered s) (all : ArePairsOf s.world) (switch : List ℕ) (entries : Entries) (size : IsTable entries) (finds : Finds s.world switch entries) where
  abbrev w : World
  w = s.world

  abbrev Kept : Entry → Standing → Type 0
  Kept e left = Finds left.world switch (table_after w switch e.ask entries)

  like : (other : List Port) → ((id : ℕ) → is_open other id ≡ is_open w.ports id) → FindsPairs other w.pairs switch entries
  like other same = alike w.ports other w.pairs switch entries same finds

  same_table : (entries next : Entries) (ports : List Port) (pairs : List Pair) → next ≡ entries → FindsPairs ports pairs switch entries → FindsPairs ports pairs switch next
  same_table entries next ports pairs same here = subst (FindsPairs ports pairs switch) (sym same) here

  sent : (from : PortId) (frames : List Frame) (port : Port) → open_port w.ports from.0 ≡ Some port → can_send w frames port ≡ true
      → FindsPairs w.ports (learned_of_batch port w.pairs frames) switch (cond (is_met (is_on_switch switch) (open_port w.ports from.0)) (table_learned_batch from entries frames) entries)
  sent from frames port e can =
      let place = open-place w.ports w.entry_count from.0 port n.ports_rise e in
      let named = (and_parts (is_switch_port_name port.name) (is_settled w port.session && is_sendable frames) can).0 in
      let up : is_open w.ports port.id ≡ true = ap (is_open w.ports) place.id_is ∙ ap (λ (found : Option Port). is_some found) e in
      let met : is_met (is_on_switch switch) (open_port w.ports from.0) ≡ is_on_switch switch port = ap (is_met (is_on_switch switch)) e in
      subst (λ (b : Bool). FindsPairs w.ports (learned_of_batch port w.pairs frames) switch (cond b (table_learned_batch from entries frames) entries)) (sym met)
      (sent_by w.ports w.pairs switch entries from frames port size up place.id_is named finds (is_on_switch switch port) refl)

  shuts_at : (at : PortId) (port : Port) → open_port w.ports at.0 ≡ Some port
      → FindsPairs (changed_at port.id shut w.ports) w.pairs switch (cond (is_met (is_on_switch switch) (open_port w.ports at.0)) (forgotten entries at) entries)
  shuts_at at port e =
      let place = open-place w.ports w.entry_count at.0 port n.ports_rise e in
      let met : is_met (is_on_switch switch) (open_port w.ports at.0) ≡ is_on_switch switch port = ap (is_met (is_on_switch switch)) e in
      subst (λ (b : Bool). FindsPairs (changed_at port.id shut w.ports) w.pairs switch (cond b (forgotten entries at) entries)) (sym met)
      (shut_by w.entry_count w.ports w.pairs switch entries at port all e place.id_is finds (is_on_switch switch port) refl)

  kinds : EachKind s (Left s Kept)
  kinds = record {
    enters = λ user fits. finds;
    quiet = λ ask session reply quiet. same_table entries (table_after w switch ask entries) w.ports w.pairs (quiet_table s switch entries ask session reply quiet) finds;
    opens = λ session name tx rx extra can refusal. opened w.entry_count w.ports (opened_port (w.entry_count + 1) session.0 name tx rx extra) w.pairs switch entries refl all finds;
    sends = λ from frames port e can settled. sent from frames port e can;
    grants = λ origin to offer first same.
        let change = port_after_grant (w.entry_count + 1) offer.session (granted_frames w offer) in
        like (changed_at offer.to change w.ports) (open-changed offer.to change (λ p. refl) (λ p. refl) w.ports);
    completes = λ lease lot e. like (map (port_after_done lease.0) w.ports) (open-map (port_after_done lease.0) (λ p. refl) (λ p. refl) w.ports);
    receives = λ ask at back port receives e can.
        same_table entries (table_after w switch ask entries) (changed_at port.id (port_after_sync (length back)) w.ports) w.pairs (read_table w switch entries ask at back receives)
        (like (changed_at port.id (port_after_sync (length back)) w.ports) (open-changed port.id (port_after_sync (length back)) (λ p. refl) (λ p. refl) w.ports));
    puts = λ at offered items port peer e can found.
        let change = port_after_put (w.entry_count + 1) port.session (frames_of_items items) in
        like (changed_at peer.id change w.ports) (open-changed peer.id change (λ p. refl) (λ p. refl) w.ports);
    watches = λ at target sides port found e can there none. finds;
    shuts = λ at port e settled. shuts_at at port e;
    finishes = λ at bufs chain port fits e can out. like (ports_without port.id w.ports) (open-without w.ports w.entry_count at.0 port n.ports_rise e);
    leaves = λ session can. finds;
  }

  pub kept : (e : Entry) → Follows s e → Kept e (after s e)
  kept e follows = follows-by s Kept e follows kinds

pub tables_follow : TablesFollow
tables_follow pool h e switch entries follows size finds =
    let s = standing_of pool h in
    subst (λ (t : Standing). Finds t.world switch (table_after s.world switch e.ask entries)) (sym (standing-push pool h e))
    (kept s (world-numbered pool h) (pairs-of_switch pool h) switch entries size finds e follows)

pub empty_serve : EmptyTablesServe
empty_serve pool h switch entries none nothing =
    let w = world_of pool h in vacant-finds w.entry_count w.ports w.pairs switch entries (pairs-of_switch pool h) none nothing

pub last_empty : LastPortsEmptyTables
last_empty pool h switch entries none finds =
    let w = world_of pool h in vacant-nothing w.entry_count w.ports w.pairs switch entries (pairs-of_switch pool h) none finds

-- ---- what tables have

found_id : (found : Option PortId) (id : PortId) (other : Option ℕ) → found ≡ Some id → id_of found ≡ other → other ≡ Some id.0
found_id found id other is same = sym same ∙ ap id_of is

pub found_open : FoundPortsAreOpen
found_open pool h switch entries a id finds is =
    let w = world_of pool h in
    let found = found-port w.entry_count w.ports w.pairs switch a id.0 (pairs-of_switch pool h) (found_id (table_port entries a) id (port_of_address w.ports w.pairs switch a) is (finds a)) in
    record { port = found.port; here = found.here; on = found.on }

pub fresh_nothing : FreshTablesFindNothing
fresh_nothing = none_found_at_first

pub fresh_size : FreshTablesAreTables
fresh_size = length-replicate buckets nothing
  where
    nothing : Option Station
    nothing = None

batch_size : (from : PortId) (entries : Entries) (frames : List Frame) → IsTable entries → IsTable (table_learned_batch from entries frames)
batch_size from entries [] size = size
batch_size from entries (f ∷ fs) size = batch_size from (learned_from from entries f) fs (frame-size from entries f size)

size_if : (b : Bool) (next entries : Entries) → IsTable next → IsTable entries → IsTable (cond b next entries)
size_if true next entries one two = one
size_if false next entries one two = two

pub sizes_kept : TablesKeepTheirSize
sizes_kept w switch (Send from frames) entries size =
    size_if (is_met (is_on_switch switch) (open_port w.ports from.0)) (table_learned_batch from entries frames) entries (batch_size from entries frames size) size
sizes_kept w switch (Shut at) entries size =
    size_if (is_met (is_on_switch switch) (open_port w.ports at.0)) (forgotten entries at) entries (length-map entries (without_port at) ∙ size) size
sizes_kept w switch _ entries size = size

pub frames_learned : FramesAreLearned
frames_learned ports sender pairs entries frame size up finds = frame-finds ports sender pairs entries frame size up finds

pub taken_back : LearningIsTakenBack
taken_back ports pairs switch entries address port size finds = subst (FindsPairs ports pairs switch) (sym (restoring_undoes_learning entries address port size)) finds
