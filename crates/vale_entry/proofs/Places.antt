-- A port's id is found at one place, so a change at the id is a change at the place; and likewise
-- for the buffers of ports and of sessions.
use Rattle.std.proofs.Common.{ℕ, zero, suc, ◌≡◌, Bool, ◌&&◌, find, true, false, cond, ◌==◌, List, [], ◌∷◌, map, take, flat_map, Some, refl, ◌∙◌, ap, subst, arith, not, slice_get, slice_set}
use Rattle.std.specs.List.{remove}
use Rattle.std.proofs.lemmas.Bool.{eq-eqb, ne_eqb, eqb-true, and_parts, not-true}
use Rattle.vale_entry.specs.declared.entry.Entry.{Entry}
use Rattle.vale_entry.specs.World.{Port, open_port, is_open_at, changed_if, changed_at}
use Rattle.vale_entry.specs.Closing.{is_shutting_at, shutting_port, ports_without}
use Rattle.vale_entry.specs.Holdings.{PortBuffers, SessionBuffers, changed_buffers, buffers_of_session, delivered_buffers, buffers_of_port, buffers_at_port, first_idle}
use Rattle.vale_entry.specs.Legal.{world_of}
use Rattle.vale_entry.specs.Laws.{Rise, id_of_port, id_of_held, id_of_session}
use Rattle.vale_entry.specs.Pipe.{is_peer, peer_of}
use Rattle.vale_entry.specs.Monitors.{is_open_as}
use Rattle.nm_types.specs.Names.{is_pipe_name, peer_name}
use Rattle.std.specs.Prelude.{bytes_eq}
use Rattle.vale_entry.proofs.ListLaws.{place-of}
use Rattle.vale_entry.proofs.Rising.{map-at_key, find-at_key, rise-slice_get}
use Rattle.vale_entry.proofs.Removals.{filter-at_key}
use Rattle.vale_entry.proofs.Numbered.{world-numbered}

pub changed_at-place : (change : Port → Port) (ports : List Port) (high i : ℕ) (port : Port)
    → Rise 0 (map id_of_port ports) high → slice_get ports i ≡ Some port
    → changed_at port.id change ports ≡ slice_set ports i (change port)
changed_at-place change ports high i port r e =
    let hit : changed_if (port.id == port.id) change port ≡ change port =
    rw (eq-eqb port.id port.id refl) refl in
    let all = map-at_key id_of_port (λ (p : Port). changed_if (p.id == port.id) change p) 0 ports
    high i port r e
    (λ p other. rw other refl) in
    all ∙ ap (slice_set ports i) hit

-- the test of a port of this id that is being shut, or that is not
abbrev is_shut_as : Bool → Port → Bool
is_shut_as true port = port.shutting
is_shut_as false port = not port.shutting

abbrev is_at : Bool → ℕ → Port → Bool
is_at shuts id port = (port.id == id) && is_shut_as shuts port

shut_as : (shuts : Bool) (port : Port) → is_shut_as shuts port ≡ true → port.shutting ≡ shuts
shut_as true port is = is
shut_as false port is = not-true port.shutting is

-- a port that such a search finds: where it stands, what a change at its id does, and what is left
-- without it
pub record PortPlace (shuts : Bool) (ports : List Port) (id : ℕ) (port : Port) : Type 0 where
  pub place : ℕ
  pub here : slice_get ports place ≡ Some port
  pub id_is : port.id ≡ id
  pub shutting_is : port.shutting ≡ shuts
  pub changes :
      (change : Port → Port) → changed_at id change ports ≡ slice_set ports place (change port)
  pub goes : ports_without port.id ports ≡ remove ports place

port-place :
    (shuts : Bool) (ports : List Port) (high id : ℕ) (port : Port)
    → Rise 0 (map id_of_port ports) high → find (is_at shuts id) ports ≡ Some port
    → PortPlace shuts ports id port
port-place shuts ports high id port r e =
    let found = place-of (is_at shuts id) ports port e in
    let tests = and_parts (port.id == id) (is_shut_as shuts port) found.passes in
    let same : port.id ≡ id = eqb-true port.id id tests.0 in
    record {
      place = found.place;
      here = found.here;
      id_is = same;
      shutting_is = shut_as shuts port tests.1;
      changes =
          λ change.
          subst (λ (k : ℕ). changed_at k change ports ≡ slice_set ports found.place (change port))
          same (changed_at-place change ports high found.place port r found.here);
      goes = filter-at_key id_of_port 0 ports high found.place port r found.here;
    }

pub open-place :
    (ports : List Port) (high id : ℕ) (port : Port) → Rise 0 (map id_of_port ports) high
    → open_port ports id ≡ Some port → PortPlace false ports id port
open-place = port-place false

pub shutting-place :
    (ports : List Port) (high id : ℕ) (port : Port) → Rise 0 (map id_of_port ports) high
    → shutting_port ports id ≡ Some port → PortPlace true ports id port
shutting-place = port-place true

-- the other end of a pipe that a search finds: where it stands, and what a change at its id does
pub record PeerPlace (ports : List Port) (peer : Port) : Type 0 where
  pub place : ℕ
  pub here : slice_get ports place ≡ Some peer
  pub is_pipe : is_pipe_name peer.name ≡ true
  pub stands_open : peer.shutting ≡ false
  pub changes :
      (change : Port → Port) → changed_at peer.id change ports ≡ slice_set ports place (change peer)

pub peer-place :
    (ports : List Port) (high : ℕ) (port peer : Port) → Rise 0 (map id_of_port ports) high
    → peer_of ports port ≡ Some peer → PeerPlace ports peer
peer-place ports high port peer r e =
    let found = place-of (is_peer port.name) ports peer e in
    let tests =
    and_parts (is_pipe_name peer.name) (is_open_as (peer_name port.name) peer) found.passes in
    let opens = and_parts (not peer.shutting) (bytes_eq peer.name (peer_name port.name)) tests.1 in
    record {
      place = found.place;
      here = found.here;
      is_pipe = tests.0;
      stands_open = not-true peer.shutting opens.0;
      changes = λ change. changed_at-place change ports high found.place peer r found.here;
    }

pub shutting_port-place : (ports : List Port) (high i : ℕ) (port : Port)
    → Rise 0 (map id_of_port ports) high → slice_get ports i ≡ Some port → port.shutting ≡ true
    → shutting_port ports port.id ≡ Some port
shutting_port-place ports high i port r e shuts =
    find-at_key id_of_port (is_shutting_at port.id) 0 ports high i port r e
    (rw (eq-eqb port.id port.id refl, shuts) refl) (λ p other. rw other refl)

pub open_port-place : (ports : List Port) (high i : ℕ) (port : Port)
    → Rise 0 (map id_of_port ports) high → slice_get ports i ≡ Some port → port.shutting ≡ false
    → open_port ports port.id ≡ Some port
open_port-place ports high i port r e open' =
    find-at_key id_of_port (is_open_at port.id) 0 ports high i port r e
    (rw (eq-eqb port.id port.id refl, open') refl) (λ p other. rw other refl)

pub open_port-world :
    (pool : ℕ) (h : List Entry) (i : ℕ) (port : Port)
    → slice_get (world_of pool h).ports i ≡ Some port → port.shutting ≡ false
    → open_port (world_of pool h).ports port.id ≡ Some port
open_port-world pool h i port e open' =
    open_port-place (world_of pool h).ports (world_of pool h).entry_count i port
    (world-numbered pool h).ports_rise e open'

pub changed_buffers-place :
    (change : PortBuffers → PortBuffers) (helds : List PortBuffers) (high i : ℕ)
    (held : PortBuffers)
    → Rise 0 (map id_of_held helds) high → slice_get helds i ≡ Some held
    → changed_buffers held.port change helds ≡ slice_set helds i (change held)
changed_buffers-place change helds high i held r e =
    let hit : cond (held.port == held.port) (change held) held ≡ change held =
    rw (eq-eqb held.port held.port refl) refl in
    let all = map-at_key id_of_held (λ (x : PortBuffers). cond (x.port == held.port) (change x) x) 0
    helds high i held r e
    (λ x other. rw other refl) in
    all ∙ ap (slice_set helds i) hit

buffers_of_session-from :
    (low : ℕ) (helds : List SessionBuffers) (high i : ℕ) (held : SessionBuffers)
    → Rise low (map id_of_session helds) high → slice_get helds i ≡ Some held
    → buffers_of_session helds held.session ≡ held.buffers
buffers_of_session-from low [] high i held r e = absurd cc
buffers_of_session-from low (x ∷ xs) high zero held r e =
    let same : x ≡ held = cc in
    let hit : (x.session == held.session) ≡ true =
    eq-eqb x.session held.session (ap id_of_session same) in
    rw hit (ap (λ (y : SessionBuffers). y.buffers) same)
buffers_of_session-from low (x ∷ xs) high (suc i) held r e =
    let above = rise-slice_get id_of_session x.session xs high i held r.1 e in
    let miss : (x.session == held.session) ≡ false =
    ne_eqb x.session held.session (λ k. omega arith) in
    rw miss (buffers_of_session-from x.session xs high i held r.1 e)

pub buffers_of_session-place : (helds : List SessionBuffers) (high i : ℕ) (held : SessionBuffers)
    → Rise 0 (map id_of_session helds) high → slice_get helds i ≡ Some held
    → buffers_of_session helds held.session ≡ held.buffers
buffers_of_session-place helds high i held r e = buffers_of_session-from 0 helds high i held r e

buffers_of_port-from : (low : ℕ) (helds : List PortBuffers) (high i : ℕ) (held : PortBuffers)
    → Rise low (map id_of_held helds) high → slice_get helds i ≡ Some held
    → buffers_of_port held.port helds ≡ buffers_at_port held
buffers_of_port-from low [] high i held r e = absurd cc
buffers_of_port-from low (x ∷ xs) high zero held r e =
    let same : x ≡ held = cc in
    let hit : (x.port == held.port) ≡ true = eq-eqb x.port held.port (ap id_of_held same) in
    rw hit (ap buffers_at_port same)
buffers_of_port-from low (x ∷ xs) high (suc i) held r e =
    let above = rise-slice_get id_of_held x.port xs high i held r.1 e in
    let miss : (x.port == held.port) ≡ false = ne_eqb x.port held.port (λ k. omega arith) in
    rw miss (buffers_of_port-from x.port xs high i held r.1 e)

pub buffers_of_port-place : (helds : List PortBuffers) (high i : ℕ) (held : PortBuffers)
    → Rise 0 (map id_of_held helds) high → slice_get helds i ≡ Some held
    → buffers_of_port held.port helds ≡ buffers_at_port held
buffers_of_port-place helds high i held r e = buffers_of_port-from 0 helds high i held r e

first_idle-from : (count low : ℕ) (helds : List PortBuffers) (high i : ℕ) (held : PortBuffers)
    → Rise low (map id_of_held helds) high → slice_get helds i ≡ Some held
    → first_idle held.port count helds ≡ take count held.idle
first_idle-from count low [] high i held r e = absurd cc
first_idle-from count low (x ∷ xs) high zero held r e =
    let same : x ≡ held = cc in
    let hit : (x.port == held.port) ≡ true = eq-eqb x.port held.port (ap id_of_held same) in
    rw hit (ap (λ (y : PortBuffers). take count y.idle) same)
first_idle-from count low (x ∷ xs) high (suc i) held r e =
    let above = rise-slice_get id_of_held x.port xs high i held r.1 e in
    let miss : (x.port == held.port) ≡ false = ne_eqb x.port held.port (λ k. omega arith) in
    rw miss (first_idle-from count x.port xs high i held r.1 e)

pub first_idle-place : (count : ℕ) (helds : List PortBuffers) (high i : ℕ) (held : PortBuffers)
    → Rise 0 (map id_of_held helds) high → slice_get helds i ≡ Some held
    → first_idle held.port count helds ≡ take count held.idle
first_idle-place count helds high i held r e = first_idle-from count 0 helds high i held r e

delivered_buffers-from : (lots low : ℕ) (helds : List PortBuffers) (high i : ℕ) (held : PortBuffers)
    → Rise low (map id_of_held helds) high → slice_get helds i ≡ Some held
    → delivered_buffers held.port lots helds ≡ flat_map (λ list. list) (take lots held.lots)
delivered_buffers-from lots low [] high i held r e = absurd cc
delivered_buffers-from lots low (x ∷ xs) high zero held r e =
    let same : x ≡ held = cc in
    let hit : (x.port == held.port) ≡ true = eq-eqb x.port held.port (ap id_of_held same) in
    rw hit (ap (λ (y : PortBuffers). flat_map (λ list. list) (take lots y.lots)) same)
delivered_buffers-from lots low (x ∷ xs) high (suc i) held r e =
    let above = rise-slice_get id_of_held x.port xs high i held r.1 e in
    let miss : (x.port == held.port) ≡ false = ne_eqb x.port held.port (λ k. omega arith) in
    rw miss (delivered_buffers-from lots x.port xs high i held r.1 e)

pub delivered_buffers-place :
    (lots : ℕ) (helds : List PortBuffers) (high i : ℕ) (held : PortBuffers)
    → Rise 0 (map id_of_held helds) high → slice_get helds i ≡ Some held
    → delivered_buffers held.port lots helds ≡ flat_map (λ list. list) (take lots held.lots)
delivered_buffers-place lots helds high i held r e =
    delivered_buffers-from lots 0 helds high i held r e
