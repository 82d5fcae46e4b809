-- A receive ring has at most `most_ring` slots, and one of them is always idle.
use Rattle.std.proofs.Common.{ℕ, Bool, true, false, cond, not, ◌≡◌, ◌≤◌, ◌<◌, ◌+◌, ◌&&◌, ◌==◌, nat_le, slice_get, List, length, Option, Some, None, refl, arith}
use Rattle.std.specs.List.{AllByRecursion as Each}
use Rattle.std.proofs.lemmas.Bool.{and_parts, leb-true}
use Rattle.nm_types.specs.Frames.{size_of_frames}
use Rattle.nm_types.specs.Limits.{least_ring, most_extra, most_ring}
use Rattle.nm_types.specs.declared.fault.OpenFault.{OpenFault}
use Rattle.nm_types.specs.declared.fault.OpenFault.TheVariants.{BadSize}
use Rattle.vale_entry.specs.declared.entry.Entry.{Entry}
use Rattle.vale_entry.specs.World.{World, Port, free_count}
use Rattle.nm_types.specs.Openings.{open_refusal as names_refusal}
use Rattle.vale_entry.specs.Opening.{is_ring_size, are_sizes, names_of, refusal_or_room, open_refusal}
use Rattle.vale_entry.specs.Delivery.{delivered_frames, port_after_done, port_after_sync}
use Rattle.vale_entry.specs.Closing.{shut}
use Rattle.vale_entry.specs.Legal.{Standing, standing_of, world_of, IsLegal}
use Rattle.vale_entry.proofs.Each.{each-append, each-changed_at, each-map}
use Rattle.vale_entry.proofs.Follows.{EachKind, after-by}
use Rattle.vale_entry.proofs.HistoryLaws.{history-stands}
use Rattle.vale_entry.proofs.ListLaws.{each-at}
use Rattle.vale_entry.proofs.Removals.{each-filter}
use Rattle.vale_entry.proofs.Roomy.{HasRoom, delivered-size}
use Rattle.vale_entry.proofs.Steps.{legal-by}

abbrev pub HasRing : Port → Type 0
HasRing port = port.rx ≤ most_ring

abbrev pub Rings : Standing → Type 0
Rings s = Each HasRing s.world.ports

pub none-first : (refusal : Option OpenFault) (want have : ℕ) → refusal_or_room refusal want have ≡ None → refusal ≡ None
none-first (Some fault) want have none = absurd cc
none-first None want have none = refl

sizes-first : (b : Bool) (rest : Option OpenFault) → cond (not b) (Some BadSize) rest ≡ None → b ≡ true
sizes-first true rest none = refl
sizes-first false rest none = absurd cc

opened-ring : (w : World) (name : List ℕ) (tx rx extra : ℕ) → open_refusal w name tx rx extra ≡ None → rx ≤ most_ring
opened-ring w name tx rx extra none =
    let sizes = sizes-first (are_sizes name tx rx extra) _ (none-first (names_refusal (names_of w.ports) name tx rx extra) (tx + rx + extra) (free_count w) none) in
    let ring = (and_parts (is_ring_size rx) (nat_le extra most_extra) (and_parts _ (is_ring_size rx && nat_le extra most_extra) sizes).1).0 in
    leb-true rx most_ring (and_parts (nat_le least_ring rx) (nat_le rx most_ring) ring).1

rings-kept : (s : Standing) → Rings s → EachKind s (λ ask made. Rings made.next)
rings-kept s all =
    let ports = s.world.ports in
    record {
      enters = λ user fits. all;
      quiet = λ ask session reply quiet. all;
      opens = λ session name tx rx extra can none. each-append HasRing ports _ all (opened-ring s.world name tx rx extra none, tt);
      sends = λ from frames port found can settled. all;
      grants = λ origin to offer first same. each-changed_at HasRing HasRing offer.to _ (λ port here. here) (λ port here. here) ports all;
      completes = λ lease lot found. each-map HasRing HasRing (port_after_done lease.0) (λ port here. here) ports all;
      receives = λ ask at back port receives found can. each-changed_at HasRing HasRing port.id (port_after_sync (length back)) (λ p here. here) (λ p here. here) ports all;
      puts = λ at offered items port peer here can found. each-changed_at HasRing HasRing peer.id _ (λ p here. here) (λ p here. here) ports all;
      watches = λ at target sides port found here can there none. all;
      shuts = λ at port found settled. each-changed_at HasRing HasRing port.id shut (λ p here. here) (λ p here. here) ports all;
      finishes = λ at bufs chain port fits found can out. each-filter HasRing (λ (p : Port). not (p.id == port.id)) ports all;
      leaves = λ session can. all;
    }

pub rings-small : (pool : ℕ) (h : List Entry) → IsLegal pool h → Rings (standing_of pool h)
rings-small pool h legal = legal-by Rings (λ s e all follows. after-by s Rings e all (rings-kept s all)) pool h legal tt

-- so no more slots are ready
pub delivered-few : (pool : ℕ) (h : List Entry) (place : ℕ) (port : Port) → IsLegal pool h → slice_get (world_of pool h).ports place ≡ Some port
    → size_of_frames (delivered_frames port) < most_ring
delivered-few pool h place port legal here =
    let ports = (world_of pool h).ports in
    let room : HasRoom port = each-at HasRoom ports place port (history-stands pool h legal).roomy.roomy here in
    let ring : port.rx ≤ most_ring = each-at HasRing ports place port (rings-small pool h legal) here in
    let fits = room.fits in
    let size = delivered-size port in
    omega (arith, ring, fits, size)
