-- The sizes of a port that is opened.
use Rattle.std.proofs.Common.{ℕ, List, ◌+◌, ◌≡◌, ◌≤◌, ◌==◌, ◌&&◌, not, nat_le, Bool, true, false, cond, min, length, take, length-take, refl, sym, arith, Option, Some, None, option_map}
use Rattle.std.proofs.lemmas.Bool.{and_parts, leb-true, eqb-true}
use Rattle.nm_types.specs.Limits.{least_ring, most_ring, most_extra}
use Rattle.nm_types.specs.Names.{is_monitor_name}
use Rattle.nm_types.specs.declared.fault.OpenFault.{OpenFault}
use Rattle.nm_types.specs.declared.fault.OpenFault.TheVariants.{BadSize}
use Rattle.vale_entry.specs.declared.entry.Reply.TheVariants.{Opened}
use Rattle.nm_types.specs.Openings.{open_refusal as names_refusal}
use Rattle.vale_entry.specs.Opening.{is_ring_size, are_sizes, names_of, open_refusal}
use Rattle.vale_entry.specs.Legal.{Standing, Outcome, can_open, open_step_by}
use Rattle.vale_book.proofs.RingSizes.{none-first}
use Rattle.vale_serve.specs.Opening.{most_given}

-- a name that is not refused has sizes in range
pub sizes_by : (b : Bool) (rest : Option OpenFault) → cond (not b) (Some BadSize) rest ≡ None → b ≡ true
sizes_by true rest e = refl
sizes_by false rest e = absurd cc

tx_few : (n tx : ℕ) (monitor : Bool) → n ≤ tx → cond monitor (tx == 0) (is_ring_size tx) ≡ true → n ≤ cond monitor 0 (min tx most_ring)
tx_few n tx true low e = let none = eqb-true tx 0 e in omega (arith, none, low)
tx_few n tx false low e = let most = leb-true tx most_ring (and_parts (nat_le least_ring tx) (nat_le tx most_ring) e).1 in omega (arith, low, most)

extra_few : (n extra : ℕ) → n ≤ extra → nat_le extra most_extra ≡ true → n ≤ min extra most_extra
extra_few n extra low e = let most = leb-true extra most_extra e in omega (arith, low, most)

sizes-fit : (names : List (List ℕ)) (name : List ℕ) (tx rx extra n m : ℕ) → None ≡ names_refusal names name tx rx extra → n ≤ tx → m ≤ extra
    → n + m ≤ most_given name tx extra
sizes-fit names name tx rx extra n m e low small =
    let sizes = sizes_by (are_sizes name tx rx extra) _ (sym e) in
    let rings = and_parts _ (is_ring_size rx && nat_le extra most_extra) sizes in
    let one = tx_few n tx (is_monitor_name name) low rings.0 in
    let two = extra_few m extra small (and_parts (is_ring_size rx) (nat_le extra most_extra) rings.1).1 in
    omega (arith, one, two)

-- what was answered so was not refused
opened_by : (s : Standing) (session : ℕ) (name : List ℕ) (tx rx extra : ℕ) (here : Bool) (refusal : Option OpenFault)
    → option_map (λ (made : Outcome). made.reply) (cond here (Some (open_step_by refusal s session name tx rx extra)) None) ≡ Some Opened → refusal ≡ None
opened_by s session name tx rx extra false refusal e = absurd cc
opened_by s session name tx rx extra true (Some fault) e = absurd cc
opened_by s session name tx rx extra true None e = refl

-- no more buffers are given than a ring and a list of extra buffers may have
pub opened-few : (s : Standing) (session : ℕ) (name : List ℕ) (tx rx extra : ℕ) (ring others : List ℕ)
    → option_map (λ (made : Outcome). made.reply) (cond (can_open s.world session name tx rx extra) (Some (open_step_by (open_refusal s.world name tx rx extra) s session name tx rx extra)) None) ≡ Some Opened
    → length (take tx ring) + length (take extra others) ≤ most_given name tx extra
opened-few s session name tx rx extra ring others e =
    let none = opened_by s session name tx rx extra (can_open s.world session name tx rx extra) (open_refusal s.world name tx rx extra) e in
    let one = length-take tx ring in
    let two = length-take extra others in
    sizes-fit (names_of s.world.ports) name tx rx extra (length (take tx ring)) (length (take extra others)) (sym (none-first (names_refusal (names_of s.world.ports) name tx rx extra) _ _ none))
    (omega (arith, one)) (omega (arith, two))
