-- A switch has few ports: an opening that would make them more is refused, and no other entry adds a
-- port or names one anew.
use Rattle.std.proofs.Common.{ℕ, ◌+◌, ◌≤◌, ◌≡◌, Bool, true, false, cond, not, ◌&&◌, ◌==◌, nat_le, List, [], ◌∷◌, ◌++◌, map, filter, Option, Some, None, refl, sym, ◌∙◌, ap, arith, length}
use Rattle.std.specs.Prelude.{count_by, bytes_eq}
use Rattle.std.proofs.lemmas.Bool.{and_parts, leb-false}
use Rattle.std.proofs.lemmas.List.Sums.{sum_by-cons, sum_by-append}
use Rattle.std.proofs.lemmas.Slice.Eq.{bytes_eq-Decides}
use Rattle.nm_types.specs.Limits.{most_switch_ports, most_pipe_ends, most_monitors}
use Rattle.nm_types.specs.declared.fault.OpenFault.{OpenFault}
use Rattle.nm_types.specs.declared.fault.OpenFault.TheVariants.{BadSize, SwitchesFull, PortsFull, NameTaken}
use Rattle.nm_types.specs.Names.{switch_of, is_switch_port_name, is_pipe_name, is_monitor_name}
use Rattle.nm_types.specs.Openings.{is_on_switch as is_name_on, finds_switches_full, finds_ports_full, finds_name_taken, open_refusal as names_refusal}
use Rattle.vale_entry.specs.declared.entry.Entry.{Entry}
use Rattle.vale_entry.specs.World.{World, Port, changed_if, changed_at, free_count}
use Rattle.vale_entry.specs.Opening.{is_on_switch, name_of_port, names_of, opened_port, are_sizes, refusal_or_room, open_refusal}
use Rattle.vale_entry.specs.Grant.{port_after_grant, granted_frames}
use Rattle.vale_entry.specs.Delivery.{port_after_done, port_after_sync}
use Rattle.vale_entry.specs.Closing.{shut}
use Rattle.vale_entry.specs.Pipe.{frames_of_items, port_after_put}
use Rattle.vale_entry.specs.declared.entry.Ask.{Ask}
use Rattle.vale_entry.specs.Legal.{Standing, Outcome, after, fresh_standing}
use Rattle.vale_entry.proofs.ListLaws.{sum-map_same}
use Rattle.vale_entry.proofs.Steps.{standing-by}
use Rattle.vale_entry.proofs.Follows.{EachKind, after-by}
use Rattle.vale_entry.proofs.Removals.{sum-filter_less}
use Rattle.vale_cost.specs.Completeness.{HaveFewPorts, SwitchesHaveFewPorts, one_if, opened_by}

abbrev pub on : List ℕ → List Port → ℕ
on switch ports = count_by (is_on_switch switch) ports

abbrev Few : List Port → Type 0
Few ports = HaveFewPorts most_switch_ports ports

on-cons : (switch : List ℕ) (p : Port) (ports : List Port) → on switch (p ∷ ports) ≡ one_if (is_on_switch switch p) + on switch ports
on-cons switch p ports = sum_by-cons (λ (q : Port). one_if (is_on_switch switch q)) p ports

on-map : (switch : List ℕ) (change : Port → Port) → ((p : Port) → (change p).name ≡ p.name) → (ports : List Port) → on switch (map change ports) ≡ on switch ports
on-map switch change names [] = refl
on-map switch change names (p ∷ ports) =
    let same : is_on_switch switch (change p) ≡ is_on_switch switch p = ap (λ (n : List ℕ). is_switch_port_name n && bytes_eq (switch_of n) switch) (names p) in
    let here : one_if (is_on_switch switch (change p)) ≡ one_if (is_on_switch switch p) = ap (λ (b : Bool). one_if b) same in
    let one = on-cons switch (change p) (map change ports) in
    let other = on-cons switch p ports in
    let rest = on-map switch change names ports in
    omega (arith, here, one, other, rest)

name-if : (b : Bool) (change : Port → Port) (p : Port) → (change p).name ≡ p.name → (changed_if b change p).name ≡ p.name
name-if true change p same = same
name-if false change p same = refl

few-mapped : (change : Port → Port) → ((p : Port) → (change p).name ≡ p.name) → (ports : List Port) → Few ports → Few (map change ports)
few-mapped change names ports few switch =
    let same = on-map switch change names ports in
    let here = few switch in
    omega (arith, same, here)

few-changed : (id : ℕ) (change : Port → Port) → ((p : Port) → (change p).name ≡ p.name) → (ports : List Port) → Few ports → Few (changed_at id change ports)
few-changed id change names ports few = few-mapped (λ (p : Port). changed_if (p.id == id) change p) (λ p. name-if (p.id == id) change p (names p)) ports few

few-filter : (test : Port → Bool) (ports : List Port) → Few ports → Few (filter test ports)
few-filter test ports few switch =
    let less = sum-filter_less (λ (p : Port). one_if (is_on_switch switch p)) test ports in
    let here = few switch in
    omega (arith, less, here)

-- an opening that is not refused finds fewer ports on its switch

refused-no : (r : Option OpenFault) (want have : ℕ) → refusal_or_room r want have ≡ None → r ≡ None
refused-no None want have e = refl
refused-no (Some fault) want have e = absurd cc

named-no : (sizes switches ports taken : Bool)
    → cond (not sizes) (Some BadSize) (cond switches (Some SwitchesFull) (cond ports (Some PortsFull) (cond taken (Some NameTaken) None))) ≡ None → ports ≡ false
named-no sizes switches false taken e = refl
named-no true true true taken e = absurd cc
named-no true false true taken e = absurd cc
named-no false switches true taken e = absurd cc

-- the names beside one of a switch's ports are those on its switch
room-on : (ports : List Port) (name : List ℕ) → is_switch_port_name name ≡ true → finds_ports_full (names_of ports) name ≡ nat_le most_switch_ports (on (switch_of name) ports)
room-on ports name named =
    let names = names_of ports in
    ap (λ (b : Bool). nat_le (cond b most_switch_ports (cond (is_pipe_name name) most_pipe_ends most_monitors)) (count_by (λ other. cond b (is_name_on (switch_of name) other) (cond (is_pipe_name name) (is_pipe_name other) (is_monitor_name other))) names)) named
    ∙ ap (nat_le most_switch_ports) (sum-map_same (λ (other : List ℕ). one_if (is_name_on (switch_of name) other)) (λ (p : Port). one_if (is_on_switch (switch_of name) p)) name_of_port (λ p. refl) ports)

few-opened : (w : World) (id session : ℕ) (name : List ℕ) (tx rx extra : ℕ) → open_refusal w name tx rx extra ≡ None → Few w.ports
    → Few (w.ports ++ opened_port id session name tx rx extra ∷ [])
few-opened w id session name tx rx extra none few switch = by_test (is_on_switch switch new) refl
  where
    new : Port
    new = opened_port id session name tx rx extra

    all : on switch (w.ports ++ new ∷ []) ≡ on switch w.ports + (one_if (is_on_switch switch new) + 0)
    all = sum_by-append (λ (q : Port). one_if (is_on_switch switch q)) w.ports (new ∷ [])
        ∙ ap (λ (n : ℕ). on switch w.ports + n) (on-cons switch new [])

    ports-full : finds_ports_full (names_of w.ports) name ≡ false
    ports-full = named-no (are_sizes name tx rx extra) (finds_switches_full (names_of w.ports) name) (finds_ports_full (names_of w.ports) name) (finds_name_taken (names_of w.ports) name)
        (refused-no (names_refusal (names_of w.ports) name tx rx extra) (tx + rx + extra) (free_count w) none)

    by_test : (b : Bool) → is_on_switch switch new ≡ b → on switch (w.ports ++ new ∷ []) ≤ most_switch_ports
    by_test false is =
        let here : one_if (is_on_switch switch new) ≡ 0 = ap (λ (b : Bool). one_if b) is in
        let old = few switch in
        omega (arith, all, here, old)
    by_test true is =
        let parts = and_parts (is_switch_port_name name) (bytes_eq (switch_of name) switch) is in
        let same : switch_of name ≡ switch = (bytes_eq-Decides (switch_of name) switch).0 parts.1 in
        let room : nat_le most_switch_ports (on (switch_of name) w.ports) ≡ false = sym (room-on w.ports name parts.0) ∙ ports-full in
        let less = leb-false most_switch_ports (on (switch_of name) w.ports) room in
        let at : on (switch_of name) w.ports ≡ on switch w.ports = ap (λ (s : List ℕ). on s w.ports) same in
        let here : one_if (is_on_switch switch new) ≡ 1 = ap (λ (b : Bool). one_if b) is in
        omega (arith, all, here, less, at)

few_kinds : (s : Standing) → Few s.world.ports → EachKind s (λ ask made. Few made.next.world.ports)
few_kinds s few = record {
  enters = λ user fits. few;
  quiet = λ ask session reply quiet. few;
  opens = λ session name tx rx extra can refusal. few-opened s.world (s.world.entry_count + 1) session.0 name tx rx extra refusal few;
  sends = λ from frames port e can settled. few;
  grants = λ origin to offer first same.
      few-changed offer.to (port_after_grant (s.world.entry_count + 1) offer.session (granted_frames s.world offer)) (λ p. refl) s.world.ports few;
  completes = λ lease lot e. few-mapped (port_after_done lease.0) (λ p. refl) s.world.ports few;
  receives = λ ask at back port receives e can. few-changed port.id (port_after_sync (length back)) (λ p. refl) s.world.ports few;
  puts = λ at offered items port peer e can found.
      few-changed peer.id (port_after_put (s.world.entry_count + 1) port.session (frames_of_items items)) (λ p. refl) s.world.ports few;
  watches = λ at target sides port found e can there none. few;
  shuts = λ at port e settled. few-changed port.id shut (λ p. refl) s.world.ports few;
  finishes = λ at bufs chain port fits e can out. few-filter (λ (p : Port). not (p.id == port.id)) s.world.ports few;
  leaves = λ session can. few;
}

-- an entry adds the ports that it opens, and no others

abbrev pub AddsOpened : World → Ask → Outcome → Type 0
AddsOpened w ask made = (switch : List ℕ) → on switch made.next.world.ports ≤ on switch w.ports + opened_by switch ask made.reply

on-changed : (switch : List ℕ) (id : ℕ) (change : Port → Port) → ((p : Port) → (change p).name ≡ p.name) → (ports : List Port) → on switch (changed_at id change ports) ≤ on switch ports + 0
on-changed switch id change names ports =
    let same = on-map switch (λ (p : Port). changed_if (p.id == id) change p) (λ p. name-if (p.id == id) change p (names p)) ports in
    omega (arith, same)

on-opened : (switch : List ℕ) (id session : ℕ) (name : List ℕ) (tx rx extra : ℕ) (ports : List Port)
    → on switch (ports ++ opened_port id session name tx rx extra ∷ []) ≤ on switch ports + one_if (is_name_on switch name)
on-opened switch id session name tx rx extra ports =
    let new = opened_port id session name tx rx extra in
    let all = sum_by-append (λ (q : Port). one_if (is_on_switch switch q)) ports (new ∷ []) in
    let one = on-cons switch new [] in
    omega (arith, all, one)

pub opened_kinds : (s : Standing) → EachKind s (AddsOpened s.world)
opened_kinds s = record {
  enters = λ user fits switch. omega arith;
  quiet = λ ask session reply quiet switch. omega arith;
  opens = λ session name tx rx extra can refusal switch. on-opened switch (s.world.entry_count + 1) session.0 name tx rx extra s.world.ports;
  sends = λ from frames port e can settled switch. omega arith;
  grants = λ origin to offer first same switch.
      on-changed switch offer.to (port_after_grant (s.world.entry_count + 1) offer.session (granted_frames s.world offer)) (λ p. refl) s.world.ports;
  completes = λ lease lot e switch. let same = on-map switch (port_after_done lease.0) (λ p. refl) s.world.ports in omega (arith, same);
  receives = λ ask at back port receives e can switch. let same = on-changed switch port.id (port_after_sync (length back)) (λ p. refl) s.world.ports in omega (arith, same);
  puts = λ at offered items port peer e can found switch.
      on-changed switch peer.id (port_after_put (s.world.entry_count + 1) port.session (frames_of_items items)) (λ p. refl) s.world.ports;
  watches = λ at target sides port found e can there none switch. omega arith;
  shuts = λ at port e settled switch. on-changed switch port.id shut (λ p. refl) s.world.ports;
  finishes = λ at bufs chain port fits e can out switch.
      let less = sum-filter_less (λ (p : Port). one_if (is_on_switch switch p)) (λ (p : Port). not (p.id == port.id)) s.world.ports in
      omega (arith, less);
  leaves = λ session can switch. omega arith;
}

abbrev FewAt : Standing → Type 0
FewAt s = Few s.world.ports

few_entry : (s : Standing) (e : Entry) → FewAt s → FewAt (after s e)
few_entry s e few = after-by s FewAt e few (few_kinds s few)

pub switches-few : SwitchesHaveFewPorts
switches-few pool h = standing-by FewAt few_entry (fresh_standing pool) h (λ switch. omega arith)
