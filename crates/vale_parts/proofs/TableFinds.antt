-- How a table's answers follow the pairs, as frames are learned, ports are shut and ports change.
use Rattle.std.proofs.Common.{ℕ, Bool, true, false, cond, not, ◌≡◌, List, [], ◌∷◌, length, find, Option, Some, None, inl, inr, refl, sym, ◌∙◌, ap, subst, ◌==◌, ◌&&◌, bytes_eq}
use Rattle.std.specs.List.{AllByRecursion as Each, list_any}
use Rattle.std.proofs.lemmas.Bool.{cases_Bool, eq-eqb, eqb-true, and_right, and_parts}
use Rattle.std.proofs.lemmas.Slice.Eq.{bytes_eq-Decides}
use Rattle.std.proofs.lemmas.List.{length-set}
use Rattle.nm_types.specs.Limits.{buckets}
use Rattle.nm_types.specs.Frames.{Frame}
use Rattle.nm_types.specs.Names.{switch_of}
use Rattle.nm_types.specs.declared.id.Mac.{Mac}
use Rattle.nm_types.specs.declared.id.PortId.{PortId}
use Rattle.vale_learn.specs.AddressTable.{Entries, learned as table_learned, forgotten, bucket_of}
use Rattle.vale_learn.specs.AddressTable.{port_of_address as table_port}
use Rattle.vale_learn.specs.Laws.{found_after_learning, unless_port}
use Rattle.vale_learn.proofs.TableLaws.{learning_replaces, forgetting_brings_nothing_back}
use Rattle.vale_batch.specs.Looking.{learned_from, mac_of}
use Rattle.vale_batch.specs.Looking.{learned_of_batch as table_learned_batch}
use Rattle.vale_entry.specs.World.{Port, Pair, open_port, is_open, changed_at}
use Rattle.vale_entry.specs.Learning.{port_of_pair, port_of_address, is_in_bucket, is_learnable, source_address, learned, learned_of_batch}
use Rattle.vale_entry.specs.Opening.{is_on_switch}
use Rattle.vale_entry.specs.Closing.{shut}
use Rattle.vale_entry.proofs.Each.{each-find, each-none}
use Rattle.vale_parts.specs.Ids.{id_of, port_id}
use Rattle.vale_parts.specs.SwitchPorts.{is_open_on}
use Rattle.vale_parts.specs.Tables.{FindsPairs, FindsNothing}
use Rattle.vale_parts.proofs.OpenPorts.{open-shut}
use Rattle.vale_parts.proofs.SwitchPairs.{found-port}
use Rattle.vale_entry.specs.Laws.{IsPairOf}

abbrev pub IsTable : Entries → Type 0
IsTable entries = length entries ≡ buckets

-- ---- learning

abbrev pair_at : List ℕ → Mac → PortId → Pair
pair_at switch address port = record { switch = switch; address = address.0; port = port.0 }

pub address-finds : (ports : List Port) (pairs : List Pair) (switch : List ℕ) (entries : Entries) (address : Mac) (port : PortId) → IsTable entries → is_open ports port.0 ≡ true
    → FindsPairs ports pairs switch entries → FindsPairs ports (pair_at switch address port ∷ pairs) switch (table_learned entries address port)
address-finds ports pairs switch entries address port size up finds = λ a.
    let pair : Pair = pair_at switch address port in
    let ends = ap id_of (learning_replaces entries address port a size) in
    let own : bytes_eq switch switch ≡ true = (bytes_eq-Decides switch switch).1 refl in
    ends ∙ elim (cases_Bool (bytes_eq address.0 a)) [
      | inl same ↦
          let equal : address.0 ≡ a = (bytes_eq-Decides address.0 a).0 same in
          let bucket : (bucket_of address.0 == bucket_of a) ≡ true = eq-eqb (bucket_of address.0) (bucket_of a) (ap bucket_of equal) in
          let left : id_of (found_after_learning entries address.0 port a) ≡ Some port.0 = rw same refl in
          let right : port_of_address ports (pair ∷ pairs) switch a ≡ Some port.0 = rw (bucket, own, same, up) refl in
          left ∙ sym right
      | inr other ↦ elim (cases_Bool (bucket_of address.0 == bucket_of a)) [
        | inl bucket ↦
            let left : id_of (found_after_learning entries address.0 port a) ≡ None = rw (other, bucket) refl in
            let right : port_of_address ports (pair ∷ pairs) switch a ≡ None = rw (bucket, own, other) refl in
            left ∙ sym right
        | inr apart ↦
            let left : id_of (found_after_learning entries address.0 port a) ≡ id_of (table_port entries a) = rw (other, apart) refl in
            let right : port_of_address ports (pair ∷ pairs) switch a ≡ port_of_address ports pairs switch a = rw apart refl in
            left ∙ (finds a ∙ sym right)
      ]
    ]

taught_by : (ports : List Port) (pairs : List Pair) (switch : List ℕ) (entries : Entries) (address : Mac) (port : PortId) (b : Bool) → IsTable entries → is_open ports port.0 ≡ true
    → FindsPairs ports pairs switch entries → FindsPairs ports (cond b (pair_at switch address port ∷ pairs) pairs) switch (cond b (table_learned entries address port) entries)
taught_by ports pairs switch entries address port true size up finds = address-finds ports pairs switch entries address port size up finds
taught_by ports pairs switch entries address port false size up finds = finds

-- a frame that a port of the switch sends
pub frame-finds : (ports : List Port) (sender : Port) (pairs : List Pair) (entries : Entries) (frame : Frame) → IsTable entries → is_open ports sender.id ≡ true
    → FindsPairs ports pairs (switch_of sender.name) entries
    → FindsPairs ports (learned sender pairs frame) (switch_of sender.name) (learned_from (port_id sender.id) entries frame)
frame-finds ports sender pairs entries frame size up finds =
    taught_by ports pairs (switch_of sender.name) entries (mac_of (source_address frame)) (port_id sender.id) (is_learnable frame) size up finds

size_by : (entries : Entries) (address : Mac) (port : PortId) (b : Bool) → IsTable entries → IsTable (cond b (table_learned entries address port) entries)
size_by entries address port true size = length-set entries (bucket_of address.0) (Some (record { address = address; port = port })) ∙ size
size_by entries address port false size = size

pub frame-size : (port : PortId) (entries : Entries) (frame : Frame) → IsTable entries → IsTable (learned_from port entries frame)
frame-size port entries frame size = size_by entries (mac_of (source_address frame)) port (is_learnable frame) size

pub batch-finds : (ports : List Port) (sender : Port) (pairs : List Pair) (entries : Entries) (frames : List Frame) → IsTable entries → is_open ports sender.id ≡ true
    → FindsPairs ports pairs (switch_of sender.name) entries
    → FindsPairs ports (learned_of_batch sender pairs frames) (switch_of sender.name) (table_learned_batch (port_id sender.id) entries frames)
batch-finds ports sender pairs entries [] size up finds = finds
batch-finds ports sender pairs entries (frame ∷ frames) size up finds =
    batch-finds ports sender (learned sender pairs frame) (learned_from (port_id sender.id) entries frame) frames
    (frame-size (port_id sender.id) entries frame size) up (frame-finds ports sender pairs entries frame size up finds)

-- what is learned at another switch
other_by : (ports : List Port) (pairs : List Pair) (pair : Pair) (switch a : List ℕ) (b : Bool) → bytes_eq pair.switch switch ≡ false
    → port_of_address ports (cond b (pair ∷ pairs) pairs) switch a ≡ port_of_address ports pairs switch a
other_by ports pairs pair switch a true other =
    let miss : is_in_bucket switch (bucket_of a) pair ≡ false = and_right (bucket_of pair.address == bucket_of a) (bytes_eq pair.switch switch) other in
    ap (λ (c : Bool). port_of_pair ports a (cond c (Some pair) (find (is_in_bucket switch (bucket_of a)) pairs))) miss
other_by ports pairs pair switch a false other = refl

pub other-finds : (ports : List Port) (sender : Port) (pairs : List Pair) (switch : List ℕ) (entries : Entries) (frames : List Frame) → bytes_eq (switch_of sender.name) switch ≡ false
    → FindsPairs ports pairs switch entries → FindsPairs ports (learned_of_batch sender pairs frames) switch entries
other-finds ports sender pairs switch entries [] other finds = finds
other-finds ports sender pairs switch entries (frame ∷ frames) other finds =
    other-finds ports sender (learned sender pairs frame) switch entries frames other
    (λ a. finds a ∙ sym (other_by ports pairs (record { switch = switch_of sender.name; address = source_address frame; port = sender.id }) switch a (is_learnable frame) other))

-- ---- ports that change

same_by : (ports other : List Port) (pairs : List Pair) (a : List ℕ) (test : Pair → Bool) → Each (λ (pair : Pair). is_open other pair.port ≡ is_open ports pair.port) pairs
    → (found : Option Pair) → find test pairs ≡ found → port_of_pair other a found ≡ port_of_pair ports a found
same_by ports other pairs a test all None e = refl
same_by ports other pairs a test all (Some pair) e =
    let same = each-find (λ (p : Pair). is_open other p.port ≡ is_open ports p.port) test pairs pair all e in
    ap (λ (b : Bool). cond (bytes_eq pair.address a && b) (Some pair.port) None) same

-- as long as the ports of the pairs stay as open as they are
pub ports-find : (ports other : List Port) (pairs : List Pair) (switch : List ℕ) (entries : Entries) → Each (λ (pair : Pair). is_open other pair.port ≡ is_open ports pair.port) pairs
    → FindsPairs ports pairs switch entries → FindsPairs other pairs switch entries
ports-find ports other pairs switch entries all finds =
    λ a. finds a ∙ sym (same_by ports other pairs a (is_in_bucket switch (bucket_of a)) all (find (is_in_bucket switch (bucket_of a)) pairs) refl)

-- ---- a port that is shut

abbrev pub unless : ℕ → Option ℕ → Option ℕ
unless gone None = None
unless gone (Some id) = cond (id == gone) None (Some id)

open_by : (b o : Bool) (id gone : ℕ) (g : Bool) → (id == gone) ≡ g → cond (b && (not g && o)) (Some id) None ≡ unless gone (cond (b && o) (Some id) None)
open_by false o id gone g e = refl
open_by true false id gone true e = refl
open_by true false id gone false e = refl
open_by true true id gone true e = sym (ap (λ (c : Bool). cond c None (Some id)) e)
open_by true true id gone false e = sym (ap (λ (c : Bool). cond c None (Some id)) e)

shut_pair : (ports : List Port) (gone : ℕ) (a : List ℕ) (found : Option Pair) → port_of_pair (changed_at gone shut ports) a found ≡ unless gone (port_of_pair ports a found)
shut_pair ports gone a None = refl
shut_pair ports gone a (Some pair) =
    ap (λ (b : Bool). cond (bytes_eq pair.address a && b) (Some pair.port) None) (open-shut ports gone pair.port)
    ∙ open_by (bytes_eq pair.address a) (is_open ports pair.port) pair.port gone (pair.port == gone) refl

address-shut : (ports : List Port) (pairs : List Pair) (switch : List ℕ) (gone : ℕ) (a : List ℕ) → port_of_address (changed_at gone shut ports) pairs switch a ≡ unless gone (port_of_address ports pairs switch a)
address-shut ports pairs switch gone a = shut_pair ports gone a (find (is_in_bucket switch (bucket_of a)) pairs)

id_unless : (gone : PortId) (found : Option PortId) → id_of (unless_port gone found) ≡ unless gone.0 (id_of found)
id_unless gone None = refl
id_unless gone (Some found) = by_test (found.0 == gone.0)
  where
    by_test : (b : Bool) → id_of (cond b None (Some found)) ≡ cond b None (Some found.0)
    by_test true = refl
    by_test false = refl

pub forgotten-finds : (ports : List Port) (pairs : List Pair) (switch : List ℕ) (entries : Entries) (gone : PortId) → FindsPairs ports pairs switch entries
    → FindsPairs (changed_at gone.0 shut ports) pairs switch (forgotten entries gone)
forgotten-finds ports pairs switch entries gone finds = λ a.
    ap id_of (forgetting_brings_nothing_back entries gone a)
    ∙ (id_unless gone (table_port entries a) ∙ (ap (unless gone.0) (finds a) ∙ sym (address-shut ports pairs switch gone.0 a)))

-- a port of another switch is found nowhere here
not_found : (count : ℕ) (ports : List Port) (pairs : List Pair) (switch : List ℕ) (gone : Port) (id : ℕ) (a : List ℕ) → Each (IsPairOf count ports) pairs → open_port ports id ≡ Some gone
    → is_on_switch switch gone ≡ false → (found : Option ℕ) → port_of_address ports pairs switch a ≡ found → unless id found ≡ found
not_found count ports pairs switch gone id a all here off None e = refl
not_found count ports pairs switch gone id a all here off (Some other) e = by_test (other == id) refl
  where
    by_test : (b : Bool) → (other == id) ≡ b → cond (other == id) None (Some other) ≡ Some other
    by_test false t = ap (λ (c : Bool). cond c None (Some other)) t
    by_test true t =
        let same : other ≡ id = eqb-true other id t in
        let found = found-port count ports pairs switch a other all e in
        let at : open_port ports id ≡ Some found.port = subst (λ (k : ℕ). open_port ports k ≡ Some found.port) same found.here in
        let both : Some gone ≡ Some found.port = sym here ∙ at in
        let equal : gone ≡ found.port = cc in
        let on = (and_parts (not found.port.shutting) (is_on_switch switch found.port) found.on).1 in
        let wrong : true ≡ false = sym on ∙ (ap (is_on_switch switch) (sym equal) ∙ off) in
        absurd cc

pub elsewhere-finds : (count : ℕ) (ports : List Port) (pairs : List Pair) (switch : List ℕ) (entries : Entries) (gone : Port) (id : ℕ) → Each (IsPairOf count ports) pairs
    → open_port ports id ≡ Some gone → is_on_switch switch gone ≡ false → FindsPairs ports pairs switch entries → FindsPairs (changed_at id shut ports) pairs switch entries
elsewhere-finds count ports pairs switch entries gone id all here off finds = λ a.
    finds a ∙ sym (address-shut ports pairs switch id a ∙ not_found count ports pairs switch gone id a all here off (port_of_address ports pairs switch a) refl)

-- ---- a switch without an open port

none_found : (count : ℕ) (ports : List Port) (pairs : List Pair) (switch a : List ℕ) → Each (IsPairOf count ports) pairs → list_any (is_open_on switch) ports ≡ false
    → (found : Option ℕ) → port_of_address ports pairs switch a ≡ found → found ≡ None
none_found count ports pairs switch a all none None e = refl
none_found count ports pairs switch a all none (Some id) e =
    let found = found-port count ports pairs switch a id all e in
    let off : is_open_on switch found.port ≡ false =
    each-find (λ (p : Port). is_open_on switch p ≡ false) (λ (p : Port). (p.id == id) && not p.shutting) ports found.port (each-none (is_open_on switch) ports none) found.here in
    let wrong : true ≡ false = sym found.on ∙ off in
    absurd cc

pub vacant-finds : (count : ℕ) (ports : List Port) (pairs : List Pair) (switch : List ℕ) (entries : Entries) → Each (IsPairOf count ports) pairs → list_any (is_open_on switch) ports ≡ false
    → FindsNothing entries → FindsPairs ports pairs switch entries
vacant-finds count ports pairs switch entries all none nothing = λ a.
    ap id_of (nothing a) ∙ sym (none_found count ports pairs switch a all none (port_of_address ports pairs switch a) refl)

no_id : (found : Option PortId) → id_of found ≡ None → found ≡ None
no_id None e = refl
no_id (Some id) e = absurd cc

pub vacant-nothing : (count : ℕ) (ports : List Port) (pairs : List Pair) (switch : List ℕ) (entries : Entries) → Each (IsPairOf count ports) pairs → list_any (is_open_on switch) ports ≡ false
    → FindsPairs ports pairs switch entries → FindsNothing entries
vacant-nothing count ports pairs switch entries all none finds = λ a.
    no_id (table_port entries a) (finds a ∙ none_found count ports pairs switch a all none (port_of_address ports pairs switch a) refl)
