-- The port of an id, open or shutting, as the ports change.
use Rattle.std.proofs.Common.{ℕ, ◌≡◌, ◌≤◌, Bool, true, false, cond, not, ◌&&◌, ◌==◌, List, [], ◌∷◌, ◌++◌, map, find, Option, Some, None, refl, sym, ◌∙◌, ap, subst, slice_get}
use Rattle.std.specs.Prelude.{option_map}
use Rattle.std.proofs.lemmas.Bool.{eq-eqb, eqb-true, ne_eqb}
use Rattle.vale_entry.specs.World.{Port, changed_if, changed_at, open_port}
use Rattle.vale_entry.specs.Closing.{shutting_port, ports_without}
use Rattle.vale_entry.specs.Laws.{Rise, id_of_port}
use Rattle.vale_entry.specs.Delivered.{has_id, port_at}
use Rattle.vale_entry.specs.Pipe.{peer_of}
use Rattle.vale_entry.proofs.Rising.{find-at_key, rise-bounds}
use Rattle.vale_entry.proofs.Places.{PortPlace, open-place, shutting-place, peer-place}

find_map_by :
    {X : Type 0} (f : X → X) (x : X) (rest more : Option X) (b : Bool) → more ≡ option_map f rest
    → cond b (Some (f x)) more ≡ option_map f (cond b (Some x) rest)
find_map_by f x rest more true e = refl
find_map_by f x rest more false e = e

-- a map that the test does not see
pub find-map :
    {X : Type 0} (f : X → X) (test : X → Bool) → ((x : X) → test (f x) ≡ test x) → (xs : List X)
    → find test (map f xs) ≡ option_map f (find test xs)
find-map f test same [] = refl
find-map f test same (x ∷ xs) =
    rw (same x)
    (find_map_by f x (find test xs) (find test (map f xs)) (test x) (find-map f test same xs))

abbrev pub first_of : {X : Type 0} → Option X → Option X → Option X
first_of None later = later
first_of (Some x) later = Some x

find_append_by :
    {X : Type 0} (x : X) (rest more later : Option X) (b : Bool) → more ≡ first_of rest later
    → cond b (Some x) more ≡ first_of (cond b (Some x) rest) later
find_append_by x rest more later true e = refl
find_append_by x rest more later false e = e

pub find-append :
    {X : Type 0} (test : X → Bool) (xs ys : List X)
    → find test (xs ++ ys) ≡ first_of (find test xs) (find test ys)
find-append test [] ys = refl
find-append test (x ∷ xs) ys =
    find_append_by x (find test xs) (find test (xs ++ ys)) (find test ys) (test x)
    (find-append test xs ys)

-- a change that keeps the ids
pub port_at-map :
    (change : Port → Port) → ((port : Port) → (change port).id ≡ port.id)
    → (ports : List Port) (id : ℕ)
    → port_at (map change ports) id ≡ option_map change (port_at ports id)
port_at-map change keeps ports id =
    find-map change (has_id id) (λ port. ap (λ (k : ℕ). k == id) (keeps port)) ports

changed_id :
    (b : Bool) (change : Port → Port) (port : Port) → (change port).id ≡ port.id
    → (changed_if b change port).id ≡ port.id
changed_id true change port keeps = keeps
changed_id false change port keeps = refl

pub port_at-changed :
    (at : ℕ) (change : Port → Port) → ((port : Port) → (change port).id ≡ port.id)
    → (ports : List Port) (id : ℕ)
    → port_at (changed_at at change ports) id
    ≡ option_map (λ (port : Port). changed_if (port.id == at) change port) (port_at ports id)
port_at-changed at change keeps ports id =
    port_at-map (λ (port : Port). changed_if (port.id == at) change port)
    (λ port. changed_id (port.id == at) change port (keeps port)) ports id

-- what is found has the id
found_id :
    (id : ℕ) (x port : Port) (rest : Option Port) (b : Bool) → (x.id == id) ≡ b
    → (rest ≡ Some port → port.id ≡ id) → cond b (Some x) rest ≡ Some port → port.id ≡ id
found_id id x port rest true t later e =
    let same : x ≡ port = cc in subst (λ (p : Port). p.id ≡ id) same (eqb-true x.id id t)
found_id id x port rest false t later e = later e

pub port_at-id :
    (ports : List Port) (id : ℕ) (port : Port) → port_at ports id ≡ Some port → port.id ≡ id
port_at-id [] id port e = absurd cc
port_at-id (x ∷ xs) id port e =
    found_id id x port (port_at xs id) (x.id == id) refl (port_at-id xs id port) e

-- where no port has the id none is open
none_open :
    (x : Port) (id : ℕ) (rest more : Option Port) (b : Bool) → (rest ≡ None → more ≡ None)
    → cond b (Some x) rest ≡ None
    → cond (b && not x.shutting) (Some x) more ≡ None
none_open x id rest more true later e = absurd cc
none_open x id rest more false later e = later e

pub open_port-none :
    (ports : List Port) (id : ℕ) → port_at ports id ≡ None → open_port ports id ≡ None
open_port-none [] id e = refl
open_port-none (x ∷ xs) id e =
    none_open x id (port_at xs id) (open_port xs id) (x.id == id) (open_port-none xs id) e

-- without the port of one id
other_by :
    (x : Port) (gone id : ℕ) (less all : List Port) (out : Bool) → (x.id == gone) ≡ out
    → (gone ≡ id → ⊥) → port_at less id ≡ port_at all id
    → port_at (cond (not out) (x ∷ less) less) id ≡ cond (x.id == id) (Some x) (port_at all id)
other_by x gone id less all true t other rest =
    let here : x.id ≡ gone = eqb-true x.id gone t in
    let miss : (x.id == id) ≡ false = ne_eqb x.id id (λ same. other (sym here ∙ same)) in
    rw miss rest
other_by x gone id less all false t other rest =
    ap (λ (found : Option Port). cond (x.id == id) (Some x) found) rest

pub port_at-without_other :
    (ports : List Port) (gone id : ℕ) → (gone ≡ id → ⊥)
    → port_at (ports_without gone ports) id ≡ port_at ports id
port_at-without_other [] gone id other = refl
port_at-without_other (x ∷ xs) gone id other =
    other_by x gone id (ports_without gone xs) xs (x.id == gone) refl other
    (port_at-without_other xs gone id other)

gone_by :
    (x : Port) (gone : ℕ) (less : List Port) (out : Bool) → (x.id == gone) ≡ out
    → port_at less gone ≡ None
    → port_at (cond (not out) (x ∷ less) less) gone ≡ None
gone_by x gone less true t rest = rest
gone_by x gone less false t rest = rw t rest

pub port_at-without :
    (ports : List Port) (gone : ℕ) → port_at (ports_without gone ports) gone ≡ None
port_at-without [] gone = refl
port_at-without (x ∷ xs) gone =
    gone_by x gone (ports_without gone xs) (x.id == gone) refl (port_at-without xs gone)

-- what is found later was found before, with what this reads of it
abbrev pub IsKeptAt : {X : Type 0} → (Port → X) → Option Port → Option Port → Type 0
IsKeptAt read found later =
    (port : Port) → later ≡ Some port
    → (old : Port) × ((found ≡ Some old) × (read old ≡ read port))

pub same_port : (x y : Port) → Some x ≡ Some y → x ≡ y
same_port x y e = cc

pub no_port : (port : Port) → None ≡ Some port → ⊥
no_port port e = absurd cc

pub kept-map :
    {X : Type 0} (read : Port → X) (change : Port → Port)
    → ((port : Port) → read (change port) ≡ read port)
    → (found later : Option Port) → later ≡ option_map change found → IsKeptAt read found later
kept-map read change keeps None later e port is = absurd (no_port port (sym e ∙ is))
kept-map read change keeps (Some old) later e port is =
    let changed : change old ≡ port = same_port (change old) port (sym e ∙ is) in
    (old, (refl, sym (keeps old) ∙ ap read changed))

pub kept-if :
    {X : Type 0} (read : Port → X) (b : Bool) (change : Port → Port) (port : Port)
    → read (change port) ≡ read port → read (changed_if b change port) ≡ read port
kept-if read true change port same = same
kept-if read false change port same = refl

-- an open port, or a shutting one, is the port of its id
pub port_at-place :
    (ports : List Port) (high i : ℕ) (port : Port) → Rise 0 (map id_of_port ports) high
    → slice_get ports i ≡ Some port
    → port_at ports port.id ≡ Some port
port_at-place ports high i port r e =
    find-at_key id_of_port (has_id port.id) 0 ports high i port r e (eq-eqb port.id port.id refl)
    (λ p other. other)

pub record Found (ports : List Port) (id : ℕ) (port : Port) : Type 0 where
  pub id_is : port.id ≡ id
  pub here : port_at ports id ≡ Some port

found-at :
    {shuts : Bool} {ports : List Port} {id : ℕ} {port : Port} (high : ℕ)
    → Rise 0 (map id_of_port ports) high → PortPlace shuts ports id port → Found ports id port
found-at {ports = ports} {port = port} high r p = record {
  id_is = p.id_is;
  here =
      subst (λ (k : ℕ). port_at ports k ≡ Some port) p.id_is
      (port_at-place ports high p.place port r p.here);
}

pub found-open :
    (ports : List Port) (high id : ℕ) (port : Port) → Rise 0 (map id_of_port ports) high
    → open_port ports id ≡ Some port → Found ports id port
found-open ports high id port r e = found-at high r (open-place ports high id port r e)

pub found-shutting :
    (ports : List Port) (high id : ℕ) (port : Port) → Rise 0 (map id_of_port ports) high
    → shutting_port ports id ≡ Some port → Found ports id port
found-shutting ports high id port r e = found-at high r (shutting-place ports high id port r e)

pub found-peer :
    (ports : List Port) (high : ℕ) (port peer : Port) → Rise 0 (map id_of_port ports) high
    → peer_of ports port ≡ Some peer → port_at ports peer.id ≡ Some peer
found-peer ports high port peer r e =
    let p = peer-place ports high port peer r e in port_at-place ports high p.place peer r p.here

-- an id is none of a later entry
key_below :
    (id : ℕ) (x port : Port) (rest : Option Port) (high : ℕ) (b : Bool) → x.id ≤ high
    → (rest ≡ Some port → port.id ≤ high) → cond b (Some x) rest ≡ Some port → port.id ≤ high
key_below id x port rest high true here later e =
    let same : x ≡ port = cc in subst (λ (p : Port). p.id ≤ high) same here
key_below id x port rest high false here later e = later e

below_from :
    (low : ℕ) (ports : List Port) (high id : ℕ) (port : Port) → Rise low (map id_of_port ports) high
    → port_at ports id ≡ Some port → port.id ≤ high
below_from low [] high id port r e = absurd cc
below_from low (x ∷ xs) high id port r e =
    key_below id x port (port_at xs id) high (x.id == id)
    (rise-bounds x.id (map id_of_port xs) high r.1) (below_from x.id xs high id port r.1) e

pub port_at-under :
    (ports : List Port) (high id : ℕ) (port : Port) → Rise 0 (map id_of_port ports) high
    → port_at ports id ≡ Some port → id ≤ high
port_at-under ports high id port r e =
    subst (λ (n : ℕ). n ≤ high) (port_at-id ports id port e) (below_from 0 ports high id port r e)

pub port_at-below :
    (ports : List Port) (high id : ℕ) (port : Port) → Rise 0 (map id_of_port ports) high
    → Found ports id port → port.id ≤ high
port_at-below ports high id port r found = below_from 0 ports high id port r found.here
