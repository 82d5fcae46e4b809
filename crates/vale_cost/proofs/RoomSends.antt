-- A Send is offered at few ports: those of its switch, and its monitor's.
use Rattle.std.proofs.Common.{ℕ, suc, ◌+◌, ◌*◌, ◌≤◌, ◌≡◌, Bool, true, false, cond, not, ◌&&◌, ◌||◌, ◌==◌, List, [], ◌∷◌, map, length, Option, Some, None, refl, sym, ◌∙◌, ap, subst, arith}
use Rattle.std.specs.Prelude.{count_by, bytes_eq, find}
use Rattle.std.specs.List.{cons_option, AllByRecursion as Each}
use Rattle.std.proofs.lemmas.Bool.{and_parts, eqb-true, eqb-false}
use Rattle.std.proofs.lemmas.List.{length-map}
use Rattle.std.proofs.lemmas.List.Sums.{sum_by-cons}
use Rattle.std.proofs.lemmas.Slice.Eq.{bytes_eq-Decides}
use Rattle.nm_types.specs.Frames.{Frame}
use Rattle.nm_types.specs.Names.{switch_of}
use Rattle.vale_entry.specs.declared.entry.Entry.{Entry}
use Rattle.vale_entry.specs.World.{Port, Pair, is_open, open_port, transmit_monitor}
use Rattle.vale_entry.specs.Opening.{is_on_switch}
use Rattle.vale_entry.specs.Learning.{is_short, is_group, is_learnable, destination_address, source_address, learned, port_of_pair, port_of_address, is_in_bucket, bucket_of}
use Rattle.vale_entry.specs.Lookup.{Destination, These, Others, Named, named_frames, destination_of, destination_found, is_named}
use Rattle.vale_entry.specs.Offers.{offers_of, offer_to, dest_of, dests_of, wanted_frames, is_monitor}
use Rattle.vale_entry.specs.Laws.{Rise, id_of_port, IsPairOf}
use Rattle.vale_entry.specs.Legal.{Outcome, standing_of, world_of, send_step, can_send, named_of, offers_of_send, made_at}
use Rattle.vale_entry.proofs.Numbered.{world-numbered}
use Rattle.vale_entry.proofs.PairsOfSwitch.{pairs-of_switch}
use Rattle.vale_cost.specs.Completeness.{HaveFewPorts, SendsWantLittle, one_if, one_if_some}

-- ---- a frame is named for ports of the sender's switch

-- what a pair says of the ports that are not the sender's
abbrev IsOfSwitch : Port → List Port → Pair → Type 0
IsOfSwitch sender ports pair = (pair.port ≡ sender.id → ⊥) → Each (λ (p : Port). p.id ≡ pair.port → is_on_switch pair.switch p ≡ true) ports

find-each : {X : Type 0} (P : X → Type 0) (test : X → Bool) (xs : List X) (x : X) → Each P xs → find test xs ≡ Some x → P x × (test x ≡ true)
find-each P test [] x all e = absurd cc
find-each {X} P test (y ∷ ys) x all e = by (test y) refl e (find-each P test ys x all.1)
  where
    by : (b : Bool) → test y ≡ b → cond b (Some y) (find test ys) ≡ Some x → (find test ys ≡ Some x → P x × (test x ≡ true)) → P x × (test x ≡ true)
    by true is e' rest = let same : y ≡ x = cc in (subst P same all.0, ap test (sym same) ∙ is)
    by false is e' rest = rest e'

abbrev OnSwitch : Port → Destination → Port → Type 0
OnSwitch sender destination p = is_named sender destination p ≡ true → is_on_switch (switch_of sender.name) p ≡ true

nobody-on : (sender : Port) (ports : List Port) → Each (OnSwitch sender (These [])) ports
nobody-on sender [] = tt
nobody-on sender (p ∷ ports) = ((λ e. absurd cc), nobody-on sender ports)

others-on : (sender : Port) (ports : List Port) → Each (OnSwitch sender Others) ports
others-on sender [] = tt
others-on sender (p ∷ ports) = (
  (λ e. and_second (not (p.id == sender.id)) (not p.shutting) (is_on_switch (switch_of sender.name) p) e),
  others-on sender ports,
)
  where
    and_second : (x y z : Bool) → (x && (y && z)) ≡ true → z ≡ true
    and_second true true z e = e
    and_second true false z e = absurd cc
    and_second false y z e = absurd cc

only-on : (sender : Port) (id : ℕ) (ports : List Port) → Each (λ (p : Port). p.id ≡ id → is_on_switch (switch_of sender.name) p ≡ true) ports
    → Each (OnSwitch sender (These (id ∷ []))) ports
only-on sender id [] all = tt
only-on sender id (p ∷ ports) all = ((λ e. all.0 (eqb-true p.id id (only_one (p.id == id) e))), only-on sender id ports all.1)
  where
    only_one : (b : Bool) → (b || false) ≡ true → b ≡ true
    only_one true e = refl
    only_one false e = absurd cc

pair-on : (sender : Port) (ports : List Port) (address : List ℕ) (found : Option Pair)
    → ((pair : Pair) → found ≡ Some pair → IsOfSwitch sender ports pair × (pair.switch ≡ switch_of sender.name))
    → Each (OnSwitch sender (destination_found sender (port_of_pair ports address found))) ports
pair-on sender ports address None of = others-on sender ports
pair-on sender ports address (Some pair) of = by_open (bytes_eq pair.address address && is_open ports pair.port)
  where
    by_own : (b : Bool) → (pair.port == sender.id) ≡ b → Each (OnSwitch sender (cond b (These []) (These (pair.port ∷ [])))) ports
    by_own true is = nobody-on sender ports
    by_own false is =
        let both = of pair refl in
        only-on sender pair.port ports
        (subst (λ (s : List ℕ). Each (λ (p : Port). p.id ≡ pair.port → is_on_switch s p ≡ true) ports) both.1 (both.0 (eqb-false pair.port sender.id is)))

    by_open : (b : Bool) → Each (OnSwitch sender (destination_found sender (cond b (Some pair.port) None))) ports
    by_open true = by_own (pair.port == sender.id) refl
    by_open false = others-on sender ports

abbrev AllOfSwitch : Port → List Port → List Pair → Type 0
AllOfSwitch sender ports pairs = Each (IsOfSwitch sender ports) pairs

address-on : (sender : Port) (ports : List Port) (pairs : List Pair) (address : List ℕ) → AllOfSwitch sender ports pairs
    → Each (OnSwitch sender (destination_found sender (port_of_address ports pairs (switch_of sender.name) address))) ports
address-on sender ports pairs address all =
    pair-on sender ports address (find (is_in_bucket (switch_of sender.name) (bucket_of address)) pairs) found
  where
    found : (pair : Pair) → find (is_in_bucket (switch_of sender.name) (bucket_of address)) pairs ≡ Some pair → IsOfSwitch sender ports pair × (pair.switch ≡ switch_of sender.name)
    found pair e =
        let both = find-each (IsOfSwitch sender ports) (is_in_bucket (switch_of sender.name) (bucket_of address)) pairs pair all e in
        let parts = and_parts (bucket_of pair.address == bucket_of address) (bytes_eq pair.switch (switch_of sender.name)) both.1 in
        (both.0, (bytes_eq-Decides pair.switch (switch_of sender.name)).0 parts.1)

destination-on : (sender : Port) (ports : List Port) (pairs : List Pair) (frame : Frame) → AllOfSwitch sender ports pairs
    → Each (OnSwitch sender (destination_of ports sender pairs frame)) ports
destination-on sender ports pairs frame all = by_short (is_short frame)
  where
    by_group : (b : Bool) → Each (OnSwitch sender (cond b Others (destination_found sender (port_of_address ports pairs (switch_of sender.name) (destination_address frame))))) ports
    by_group true = others-on sender ports
    by_group false = address-on sender ports pairs (destination_address frame) all

    by_short : (b : Bool) → Each (OnSwitch sender (cond b (These []) (cond (is_group (destination_address frame)) Others (destination_found sender (port_of_address ports pairs (switch_of sender.name) (destination_address frame)))))) ports
    by_short true = nobody-on sender ports
    by_short false = by_group (is_group (destination_address frame))

learned-of : (sender : Port) (ports : List Port) (pairs : List Pair) (frame : Frame) → AllOfSwitch sender ports pairs → AllOfSwitch sender ports (learned sender pairs frame)
learned-of sender ports pairs frame all = by (is_learnable frame)
  where
    by : (b : Bool) → AllOfSwitch sender ports (cond b (record { switch = switch_of sender.name; address = source_address frame; port = sender.id } ∷ pairs) pairs)
    by true = ((λ other. absurd (other refl)), all)
    by false = all

abbrev NamedOn : Port → List Port → Named → Type 0
NamedOn sender ports named = Each (OnSwitch sender named.destination) ports

named-on : (sender : Port) (ports : List Port) (pairs : List Pair) (frames : List Frame) → AllOfSwitch sender ports pairs
    → Each (NamedOn sender ports) (named_frames ports sender pairs frames)
named-on sender ports pairs [] all = tt
named-on sender ports pairs (frame ∷ frames) all =
    let more = learned-of sender ports pairs frame all in
    (destination-on sender ports (learned sender pairs frame) frame more, named-on sender ports (learned sender pairs frame) frames more)

-- ---- so its offers are few

-- where nothing is named for a port, and it is not the monitor's, nothing is wanted there
none-wanted : (sender : Port) (monitor : Option ℕ) (p : Port) (named : List Named)
    → Each (λ (n : Named). OnSwitch sender n.destination p) named → is_on_switch (switch_of sender.name) p ≡ false → is_monitor monitor p ≡ false
    → wanted_frames sender monitor named p ≡ []
none-wanted sender monitor p [] all off other = refl
none-wanted sender monitor p (n ∷ named) all off other = by (is_named sender n.destination p) refl (none-wanted sender monitor p named all.1 off other)
  where
    by : (b : Bool) → is_named sender n.destination p ≡ b → wanted_frames sender monitor named p ≡ []
        → wanted_frames sender monitor (n ∷ named) p ≡ []
    by true is rest = let clash : true ≡ false = sym (all.0 is) ∙ off in absurd cc
    by false is rest = rw (is, other) rest

abbrev on : Port → List Port → ℕ
on sender ports = count_by (is_on_switch (switch_of sender.name)) ports

abbrev pub watching : Option ℕ → List Port → ℕ
watching monitor ports = count_by (is_monitor monitor) ports

-- of each frame what it is named for at the first port, and at the others
firsts : (sender p : Port) (ports : List Port) (named : List Named) → Each (NamedOn sender (p ∷ ports)) named → Each (λ (n : Named). OnSwitch sender n.destination p) named
firsts sender p ports [] all = tt
firsts sender p ports (n ∷ named) all = (all.0.0, firsts sender p ports named all.1)

others : (sender p : Port) (ports : List Port) (named : List Named) → Each (NamedOn sender (p ∷ ports)) named → Each (NamedOn sender ports) named
others sender p ports [] all = tt
others sender p ports (n ∷ named) all = (all.0.1, others sender p ports named all.1)

offers-few : (origin session : ℕ) (sender : Port) (monitor : Option ℕ) (named : List Named) (ports : List Port) → Each (NamedOn sender ports) named
    → length (offers_of origin session (wanted_frames sender monitor named) ports) ≤ on sender ports + watching monitor ports
offers-few origin session sender monitor named [] all = omega arith
offers-few origin session sender monitor named (p ∷ ports) all =
    by_test (is_on_switch (switch_of sender.name) p) (is_monitor monitor p) refl refl (offers-few origin session sender monitor named ports (others sender p ports named all))
  where
    here : on sender (p ∷ ports) ≡ one_if (is_on_switch (switch_of sender.name) p) + on sender ports
    here = sum_by-cons (λ (q : Port). one_if (is_on_switch (switch_of sender.name) q)) p ports

    there : watching monitor (p ∷ ports) ≡ one_if (is_monitor monitor p) + watching monitor ports
    there = sum_by-cons (λ (q : Port). one_if (is_monitor monitor q)) p ports

    one_more : (frames : List Frame)
        → length (cons_option (offer_to origin session p.id frames) (offers_of origin session (wanted_frames sender monitor named) ports))
        ≤ suc (length (offers_of origin session (wanted_frames sender monitor named) ports))
    one_more [] = omega arith
    one_more (frame ∷ frames) = omega arith

    by_test : (one other : Bool) → is_on_switch (switch_of sender.name) p ≡ one → is_monitor monitor p ≡ other
        → length (offers_of origin session (wanted_frames sender monitor named) ports) ≤ on sender ports + watching monitor ports
        → length (offers_of origin session (wanted_frames sender monitor named) (p ∷ ports)) ≤ on sender (p ∷ ports) + watching monitor (p ∷ ports)
    by_test true other is is' rest =
        let more = one_more (wanted_frames sender monitor named p) in
        let one : one_if (is_on_switch (switch_of sender.name) p) ≡ 1 = ap (λ (b : Bool). one_if b) is in
        omega (arith, rest, more, here, there, one)
    by_test false true is is' rest =
        let more = one_more (wanted_frames sender monitor named p) in
        let one : one_if (is_monitor monitor p) ≡ 1 = ap (λ (b : Bool). one_if b) is' in
        omega (arith, rest, more, here, there, one)
    by_test false false is is' rest =
        let none : wanted_frames sender monitor named p ≡ [] = none-wanted sender monitor p named (firsts sender p ports named all) is is' in
        let same : length (offers_of origin session (wanted_frames sender monitor named) (p ∷ ports)) ≡ length (offers_of origin session (wanted_frames sender monitor named) ports) =
        ap (λ (frames : List Frame). length (cons_option (offer_to origin session p.id frames) (offers_of origin session (wanted_frames sender monitor named) ports))) none in
        omega (arith, rest, same, here, there)

-- ids rise, so one port at most is the monitor's
none-behind : (id low : ℕ) (ports : List Port) (high : ℕ) → id ≤ low → Rise low (map id_of_port ports) high → watching (Some id) ports ≡ 0
none-behind id low [] high up rise = refl
none-behind id low (p ∷ ports) high up rise = by (p.id == id) refl (none-behind id p.id ports high (let more = rise.0 in omega (arith, up, more)) rise.1)
  where
    all : watching (Some id) (p ∷ ports) ≡ one_if (p.id == id) + watching (Some id) ports
    all = sum_by-cons (λ (q : Port). one_if (is_monitor (Some id) q)) p ports

    by : (b : Bool) → (p.id == id) ≡ b → watching (Some id) ports ≡ 0 → watching (Some id) (p ∷ ports) ≡ 0
    by true is rest = let same = eqb-true p.id id is in let more = rise.0 in absurd (omega (arith, same, more, up))
    by false is rest = let zero : one_if (p.id == id) ≡ 0 = ap (λ (b : Bool). one_if b) is in omega (arith, all, zero, rest)

pub one-watches : (monitor : Option ℕ) (low : ℕ) (ports : List Port) (high : ℕ) → Rise low (map id_of_port ports) high → watching monitor ports ≤ 1
one-watches None low [] high rise = omega arith
one-watches None low (p ∷ ports) high rise =
    let all = sum_by-cons (λ (q : Port). one_if (is_monitor None q)) p ports in
    let rest = one-watches None p.id ports high rise.1 in
    omega (arith, all, rest)
one-watches (Some id) low [] high rise = omega arith
one-watches (Some id) low (p ∷ ports) high rise = by (p.id == id) refl (one-watches (Some id) p.id ports high rise.1)
  where
    all : watching (Some id) (p ∷ ports) ≡ one_if (p.id == id) + watching (Some id) ports
    all = sum_by-cons (λ (q : Port). one_if (is_monitor (Some id) q)) p ports

    by : (b : Bool) → (p.id == id) ≡ b → watching (Some id) ports ≤ 1 → watching (Some id) (p ∷ ports) ≤ 1
    by true is rest =
        let same = eqb-true p.id id is in
        let none = none-behind id p.id ports high (omega (arith, same)) rise.1 in
        let one : one_if (p.id == id) ≡ 1 = ap (λ (b : Bool). one_if b) is in
        omega (arith, all, none, one)
    by false is rest = let zero : one_if (p.id == id) ≡ 0 = ap (λ (b : Bool). one_if b) is in omega (arith, all, zero, rest)

-- nothing is offered of no frames
no-offers : (origin session : ℕ) (sender : Port) (monitor : Option ℕ) (ports : List Port) → offers_of origin session (wanted_frames sender monitor []) ports ≡ []
no-offers origin session sender monitor [] = refl
no-offers origin session sender monitor (p ∷ ports) = no-offers origin session sender monitor ports

all-of : (sender : Port) (count : ℕ) (ports : List Port) (pairs : List Pair) → Each (IsPairOf count ports) pairs → AllOfSwitch sender ports pairs
all-of sender count ports [] all = tt
all-of sender count ports (pair ∷ pairs) all = ((λ other. all.0.on_switch), all-of sender count ports pairs all.1)

pub send-wants : (most pool : ℕ) (h : List Entry) (frames : List Frame) (port : Port) → HaveFewPorts most (world_of pool h).ports
    → (send_step (standing_of pool h) frames port).want ≤ 2 * most * one_if_some (length frames) + 3
send-wants most pool h [] port few-on =
    let w = world_of pool h in
    let none : length (dests_of (offers_of_send w port [])) ≡ 0 = ap (λ os. length (dests_of os)) (no-offers (w.entry_count + 1) port.session port (transmit_monitor w port.id) w.ports) in
    omega (arith, none)
send-wants most pool h (frame ∷ frames) port few-on =
    let w = world_of pool h in
    let named = named-on port w.ports w.pairs (frame ∷ frames) (all-of port w.entry_count w.ports w.pairs (pairs-of_switch pool h)) in
    let few = offers-few (w.entry_count + 1) port.session port (transmit_monitor w port.id) (named_of w port (frame ∷ frames)) w.ports named in
    let one = one-watches (transmit_monitor w port.id) 0 w.ports w.entry_count (world-numbered pool h).ports_rise in
    let at = few-on (switch_of port.name) in
    let same = length-map (offers_of_send w port (frame ∷ frames)) dest_of in
    let some : one_if_some (length (frame ∷ frames)) ≡ 1 = refl in
    let times : 2 * most * one_if_some (length (frame ∷ frames)) ≡ 2 * most * 1 = ap (λ (n : ℕ). 2 * most * n) some in
    omega (arith, few, one, at, same, times)

sent-by : (most pool : ℕ) (h : List Entry) (frames : List Frame) (found : Option Port) (made : Outcome) → HaveFewPorts most (world_of pool h).ports
    → made_at (can_send (world_of pool h) frames) (send_step (standing_of pool h) frames) found ≡ Some made → made.want ≤ 2 * most * one_if_some (length frames) + 3
sent-by most pool h frames None made few e = absurd cc
sent-by most pool h frames (Some port) made few e = by (can_send (world_of pool h) frames port) e
  where
    by : (b : Bool) → cond b (Some (send_step (standing_of pool h) frames port)) None ≡ Some made → made.want ≤ 2 * most * one_if_some (length frames) + 3
    by true e' =
        let same : send_step (standing_of pool h) frames port ≡ made = cc in
        subst (λ (m : Outcome). m.want ≤ 2 * most * one_if_some (length frames) + 3) same (send-wants most pool h frames port few)
    by false e' = absurd cc

pub sends-little : SendsWantLittle
sends-little most pool h port frames made few e = sent-by most pool h frames (open_port (world_of pool h).ports port.0) made few e
