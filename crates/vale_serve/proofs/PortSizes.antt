-- A port has rings and extra buffers within the limits, so that it is due few buffers.
use Rattle.std.proofs.Common.{ℕ, Bool, true, false, cond, not, ◌≡◌, ◌≤◌, ◌&&◌, ◌==◌, nat_le, List, length, Some, None, arith}
use Rattle.std.specs.Prelude.{find}
use Rattle.std.specs.List.{AllByRecursion as Each}
use Rattle.std.proofs.lemmas.Bool.{and_parts, leb-true, eqb-true}
use Rattle.nm_types.specs.Limits.{least_ring, most_ring, most_extra}
use Rattle.nm_types.specs.Names.{is_monitor_name}
use Rattle.vale_entry.specs.World.{World, Port, due_of}
use Rattle.nm_types.specs.Openings.{open_refusal as names_refusal}
use Rattle.vale_entry.specs.Opening.{is_ring_size, are_sizes, names_of, open_refusal}
use Rattle.vale_entry.specs.Delivery.{port_after_done, port_after_sync}
use Rattle.vale_entry.specs.Closing.{shut}
use Rattle.vale_entry.specs.Legal.{Standing, standing_of, world_of, IsLegal}
use Rattle.vale_entry.specs.declared.entry.Entry.{Entry}
use Rattle.vale_entry.proofs.Each.{each-append, each-changed_at, each-map, each-find}
use Rattle.vale_entry.proofs.Follows.{EachKind, after-by}
use Rattle.vale_entry.proofs.HistoryLaws.{history-stands}
use Rattle.vale_entry.proofs.Removals.{each-filter}
use Rattle.vale_entry.proofs.Steps.{legal-by}
use Rattle.vale_entry.proofs.Roomy.{HasRoom}
use Rattle.vale_book.proofs.RingSizes.{none-first}
use Rattle.vale_serve.specs.Users.{most_due}
use Rattle.vale_serve.proofs.Sizes.{sizes_by}

record HasSizes (port : Port) : Type 0 where
  tx : port.tx ≤ most_ring
  rx : port.rx ≤ most_ring
  extra : port.extra ≤ most_extra

tx-small : (tx : ℕ) (monitor : Bool) → cond monitor (tx == 0) (is_ring_size tx) ≡ true → tx ≤ most_ring
tx-small tx true e = let none = eqb-true tx 0 e in omega (arith, none)
tx-small tx false e = leb-true tx most_ring (and_parts (nat_le least_ring tx) (nat_le tx most_ring) e).1

abbrev Sizes : Standing → Type 0
Sizes s = Each HasSizes s.world.ports

opened-sizes : (w : World) (name : List ℕ) (tx rx extra : ℕ) → open_refusal w name tx rx extra ≡ None → (tx ≤ most_ring) × (rx ≤ most_ring) × (extra ≤ most_extra)
opened-sizes w name tx rx extra none =
    let sizes = sizes_by (are_sizes name tx rx extra) _ (none-first (names_refusal (names_of w.ports) name tx rx extra) _ _ none) in
    let rings = and_parts _ (is_ring_size rx && nat_le extra most_extra) sizes in
    let ring = and_parts (is_ring_size rx) (nat_le extra most_extra) rings.1 in
    (tx-small tx (is_monitor_name name) rings.0, leb-true rx most_ring (and_parts (nat_le least_ring rx) (nat_le rx most_ring) ring.0).1, leb-true extra most_extra ring.1)

sizes-kept : (s : Standing) → Sizes s → EachKind s (λ ask made. Sizes made.next)
sizes-kept s all =
    let ports = s.world.ports in
    record {
      opens = λ session name tx rx extra can none. each-append HasSizes ports _ all
          (let fit = opened-sizes s.world name tx rx extra none in record { tx = fit.0; rx = fit.1; extra = fit.2 }, tt);
      enters = λ user fits. all;
      quiet = λ ask session reply quiet. all;
      sends = λ from frames port found can settled. all;
      grants = λ origin to offer first other. each-changed_at HasSizes HasSizes offer.to _ (λ port here. here) (λ port here. record { tx = here.tx; rx = here.rx; extra = here.extra }) ports all;
      completes = λ lease lot found. each-map HasSizes HasSizes (port_after_done lease.0) (λ port here. record { tx = here.tx; rx = here.rx; extra = here.extra }) ports all;
      receives = λ ask at back port receives found can. each-changed_at HasSizes HasSizes port.id (port_after_sync (length back)) (λ p here. here) (λ p here. record { tx = here.tx; rx = here.rx; extra = here.extra }) ports all;
      puts = λ at offered items port peer here can found. each-changed_at HasSizes HasSizes peer.id _ (λ p here. here) (λ p here. record { tx = here.tx; rx = here.rx; extra = here.extra }) ports all;
      watches = λ at target sides port found here can there none. all;
      shuts = λ at port found settled. each-changed_at HasSizes HasSizes port.id shut (λ p here. here) (λ p here. record { tx = here.tx; rx = here.rx; extra = here.extra }) ports all;
      finishes = λ at bufs chain port fits found can out. each-filter HasSizes (λ (p : Port). not (p.id == port.id)) ports all;
      leaves = λ session can. all;
    }

sizes-small : (pool : ℕ) (h : List Entry) → IsLegal pool h → Sizes (standing_of pool h)
sizes-small pool h legal = legal-by Sizes (λ s e all follows. after-by s Sizes e all (sizes-kept s all)) pool h legal tt

pub due-few : (pool : ℕ) (h : List Entry) (test : Port → Bool) (port : Port) → IsLegal pool h → find test (world_of pool h).ports ≡ Some port → due_of port ≤ most_due
due-few pool h test port legal here =
    let ports = (world_of pool h).ports in
    let room : HasRoom port = each-find HasRoom test ports port (history-stands pool h legal).roomy.roomy here in
    let sizes : HasSizes port = each-find HasSizes test ports port (sizes-small pool h legal) here in
    let fits = room.fits in
    let tx = sizes.tx in
    let rx = sizes.rx in
    let extra = sizes.extra in
    omega (arith, fits, tx, rx, extra)
