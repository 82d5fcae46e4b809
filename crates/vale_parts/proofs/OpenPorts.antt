-- Which ports are open once the ports have changed.
use Rattle.std.proofs.Common.{ℕ, ◌≡◌, Bool, true, false, cond, not, ◌&&◌, ◌||◌, ◌==◌, List, [], ◌∷◌, ◌++◌, map, find, Option, Some, None, is_some, refl, sym, ◌∙◌, ap, subst}
use Rattle.std.specs.Prelude.{option_map}
use Rattle.std.specs.List.{list_any}
use Rattle.std.proofs.lemmas.Bool.{eqb-true, eqb-false, ne_eqb, and_right}
use Rattle.vale_entry.specs.World.{Port, changed_if, changed_at, is_open_at, open_port, is_open}
use Rattle.vale_entry.specs.Closing.{shut, shutting_port, ports_without}
use Rattle.vale_entry.specs.Laws.{Rise, id_of_port}
use Rattle.vale_entry.specs.Delivered.{port_at}
use Rattle.vale_entry.proofs.Places.{open-place, shutting-place}
use Rattle.vale_entry.proofs.PortAt.{find-map, find-append, first_of, found-open, found-shutting, port_at-without, open_port-none}

some_of_map : {X : Type 0} (f : X → X) (found : Option X) → is_some (option_map f found) ≡ is_some found
some_of_map f None = refl
some_of_map f (Some x) = refl

abbrev pub Keeps : {X : Type 0} → (Port → X) → (Port → Port) → Type 0
Keeps see change = (port : Port) → see (change port) ≡ see port

abbrev pub number_of : Port → ℕ
number_of port = port.id

abbrev pub is_shutting : Port → Bool
is_shutting port = port.shutting

test_same : (change : Port → Port) → Keeps number_of change → Keeps is_shutting change → (id : ℕ) (port : Port) → is_open_at id (change port) ≡ is_open_at id port
test_same change ids shuts id port =
    ap (λ (k : ℕ). (k == id) && not (change port).shutting) (ids port) ∙ ap (λ (b : Bool). (port.id == id) && not b) (shuts port)

-- a change that keeps ids and what is shutting
pub open-map : (change : Port → Port) → Keeps number_of change → Keeps is_shutting change → (ports : List Port) (id : ℕ) → is_open (map change ports) id ≡ is_open ports id
open-map change ids shuts ports id =
    ap (λ (found : Option Port). is_some found) (find-map change (is_open_at id) (λ port. test_same change ids shuts id port) ports)
    ∙ some_of_map change (find (is_open_at id) ports)

pub kept-if : {X : Type 0} (see : Port → X) (change : Port → Port) → Keeps see change → (b : Bool) (port : Port) → see (changed_if b change port) ≡ see port
kept-if see change keeps true port = keeps port
kept-if see change keeps false port = refl

pub open-changed : (at : ℕ) (change : Port → Port) → Keeps number_of change → Keeps is_shutting change → (ports : List Port) (id : ℕ) → is_open (changed_at at change ports) id ≡ is_open ports id
open-changed at change ids shuts ports id =
    open-map (λ (port : Port). changed_if (port.id == at) change port) (λ port. kept-if number_of change ids (port.id == at) port) (λ port. kept-if is_shutting change shuts (port.id == at) port) ports id

-- one port more, of another id
first_alone : (found : Option Port) → first_of found None ≡ found
first_alone None = refl
first_alone (Some port) = refl

pub open-pushed : (ports : List Port) (new : Port) (id : ℕ) → (new.id ≡ id → ⊥) → is_open (ports ++ new ∷ []) id ≡ is_open ports id
open-pushed ports new id other =
    let miss : (new.id == id) ≡ false = ne_eqb new.id id other in
    let none : find (is_open_at id) (new ∷ []) ≡ None = ap (λ (b : Bool). cond (b && not new.shutting) (Some new) None) miss in
    ap (λ (found : Option Port). is_some found)
    (find-append (is_open_at id) ports (new ∷ []) ∙ (ap (first_of (find (is_open_at id) ports)) none ∙ first_alone (find (is_open_at id) ports)))

-- without a port that is shutting
other_by : (x : Port) (gone id : ℕ) (less all : List Port) (out : Bool) → (x.id == gone) ≡ out → (gone ≡ id → ⊥) → open_port less id ≡ open_port all id
    → open_port (cond (not out) (x ∷ less) less) id ≡ open_port (x ∷ all) id
other_by x gone id less all true t other rest =
    let here : x.id ≡ gone = eqb-true x.id gone t in
    let miss : (x.id == id) ≡ false = ne_eqb x.id id (λ same. other (sym here ∙ same)) in
    rest ∙ sym (ap (λ (b : Bool). cond (b && not x.shutting) (Some x) (open_port all id)) miss)
other_by x gone id less all false t other rest = ap (λ (found : Option Port). cond (is_open_at id x) (Some x) found) rest

open_other : (ports : List Port) (gone id : ℕ) → (gone ≡ id → ⊥) → open_port (ports_without gone ports) id ≡ open_port ports id
open_other [] gone id other = refl
open_other (x ∷ xs) gone id other = other_by x gone id (ports_without gone xs) xs (x.id == gone) refl other (open_other xs gone id other)

shutting_closed : (ports : List Port) (high at : ℕ) (port : Port) → Rise 0 (map id_of_port ports) high → shutting_port ports at ≡ Some port
    → (found : Option Port) → open_port ports port.id ≡ found → is_some found ≡ false
shutting_closed ports high at port r e None none = refl
shutting_closed ports high at port r e (Some other) some =
    let own = found-shutting ports high at port r e in
    let theirs = found-open ports high port.id other r some in
    let shuts = (shutting-place ports high at port r e).shutting_is in
    let stands = (open-place ports high port.id other r some).shutting_is in
    let first = own.here in
    let ids : port.id ≡ at = own.id_is in
    let second = theirs.here in
    absurd (closed port other at ids first second shuts stands)
  where
    closed : (port other : Port) (at : ℕ) → port.id ≡ at → port_at ports at ≡ Some port → port_at ports port.id ≡ Some other → port.shutting ≡ true → other.shutting ≡ false → ⊥
    closed port other at ids first second shuts stands =
        let both : port_at ports at ≡ Some other = subst (λ (k : ℕ). port_at ports k ≡ Some other) ids second in
        let same : Some port ≡ Some other = sym first ∙ both in
        let equal : port ≡ other = cc in
        let wrong : true ≡ false = sym shuts ∙ (ap is_shutting equal ∙ stands) in
        absurd cc

pub open-without : (ports : List Port) (high at : ℕ) (port : Port) → Rise 0 (map id_of_port ports) high → shutting_port ports at ≡ Some port
    → (id : ℕ) → is_open (ports_without port.id ports) id ≡ is_open ports id
open-without ports high at port r e id = by_id (port.id == id) refl
  where
    by_id : (same : Bool) → (port.id == id) ≡ same → is_open (ports_without port.id ports) id ≡ is_open ports id
    by_id true t =
        let here : port.id ≡ id = eqb-true port.id id t in
        let left : is_open (ports_without port.id ports) port.id ≡ false =
        ap (λ (found : Option Port). is_some found) (open_port-none (ports_without port.id ports) port.id (port_at-without ports port.id)) in
        let right : is_open ports port.id ≡ false = shutting_closed ports high at port r e (open_port ports port.id) refl in
        subst (λ (k : ℕ). is_open (ports_without port.id ports) k ≡ is_open ports k) here (left ∙ sym right)
    by_id false t = ap (λ (found : Option Port). is_some found) (open_other ports port.id id (eqb-false port.id id t))

-- once a port is shut
pub some_is_any : {X : Type 0} (test : X → Bool) (xs : List X) → is_some (find test xs) ≡ list_any test xs
some_is_any test [] = refl
some_is_any test (x ∷ xs) = some_by x (find test xs) (list_any test xs) (test x) (some_is_any test xs)
  where
    some_by : {X : Type 0} (x : X) (rest : Option X) (any : Bool) (b : Bool) → is_some rest ≡ any → is_some (cond b (Some x) rest) ≡ (b || any)
    some_by x rest any true e = refl
    some_by x rest any false e = e

shut_test : (port : Port) (gone id : ℕ) (b : Bool) → (port.id == gone) ≡ b → (out : Bool) → (id == gone) ≡ out
    → is_open_at id (changed_if b shut port) ≡ (not out && is_open_at id port)
shut_test port gone id true t true e = and_right (port.id == id) false refl
shut_test port gone id true t false e =
    let miss : (port.id == id) ≡ false = ne_eqb port.id id (λ same. eqb-false id gone e (sym same ∙ eqb-true port.id gone t)) in
    and_right (port.id == id) false refl ∙ sym (ap (λ (c : Bool). c && not port.shutting) miss)
shut_test port gone id false t true e =
    let miss : (port.id == id) ≡ false = ne_eqb port.id id (λ same. eqb-false port.id gone t (same ∙ eqb-true id gone e)) in
    ap (λ (c : Bool). c && not port.shutting) miss
shut_test port gone id false t false e = refl

any_shut : (gone id : ℕ) (out : Bool) → (id == gone) ≡ out → (ports : List Port) → list_any (is_open_at id) (changed_at gone shut ports) ≡ (not out && list_any (is_open_at id) ports)
any_shut gone id true e [] = refl
any_shut gone id false e [] = refl
any_shut gone id out e (port ∷ ports) =
    let here = shut_test port gone id (port.id == gone) refl out e in
    let rest = any_shut gone id out e ports in
    ap (λ (b : Bool). b || list_any (is_open_at id) (changed_at gone shut ports)) here
    ∙ (ap (λ (b : Bool). (not out && is_open_at id port) || b) rest ∙ joined out (is_open_at id port) (list_any (is_open_at id) ports))
  where
    joined : (out a b : Bool) → ((not out && a) || (not out && b)) ≡ (not out && (a || b))
    joined true a b = refl
    joined false a b = refl

pub open-shut : (ports : List Port) (gone id : ℕ) → is_open (changed_at gone shut ports) id ≡ (not (id == gone) && is_open ports id)
open-shut ports gone id =
    some_is_any (is_open_at id) (changed_at gone shut ports)
    ∙ (any_shut gone id (id == gone) refl ports ∙ sym (ap (λ (b : Bool). not (id == gone) && b) (some_is_any (is_open_at id) ports)))
