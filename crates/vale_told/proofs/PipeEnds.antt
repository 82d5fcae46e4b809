-- In a legal history the ends of pipes that the entries tell are those that are open.
use Rattle.std.proofs.Common.{ℕ, ◌≡◌, Bool, true, false, cond, not, ◌&&◌, ◌==◌, List, [], ◌∷◌, ◌++◌, map, filter, find, Option, Some, None, refl, sym, ◌∙◌, ap, bytes_eq}
use Rattle.std.specs.Prelude.{option_map}
use Rattle.nm_types.specs.Names.{is_pipe_name, peer_name}
use Rattle.vale_entry.specs.World.{Port, changed_if, changed_at, open_port}
use Rattle.vale_entry.specs.Closing.{shut, ports_without}
use Rattle.vale_entry.specs.Pipe.{is_peer, peer_of}
use Rattle.vale_entry.proofs.PortAt.{kept-if}
use Rattle.vale_told.specs.declared.ends.End.{End}
use Rattle.vale_told.specs.Ends.{has_id, has_name, has_other_id, id_of_end, peer_of_end, peer_among}

abbrev pub is_open_end : Port → Bool
is_open_end port = not port.shutting && is_pipe_name port.name

abbrev pub end_of : Port → End
end_of port = record { id = port.id; name = port.name; peer = peer_name port.name }

-- the ends that are open among these ports
abbrev pub ends_in : List Port → List End
ends_in [] = []
ends_in (port ∷ ports) = cond (is_open_end port) (end_of port ∷ ends_in ports) (ends_in ports)

append_if : (b : Bool) (end : End) (more front back : List End) → more ≡ front ++ back
    → cond b (end ∷ more) more ≡ cond b (end ∷ front) front ++ back
append_if true end more front back same = ap (λ ends. end ∷ ends) same
append_if false end more front back same = same

pub ends-append : (ports more : List Port) → ends_in (ports ++ more) ≡ ends_in ports ++ ends_in more
ends-append [] more = refl
ends-append (port ∷ ports) more =
    append_if (is_open_end port) (end_of port) (ends_in (ports ++ more)) (ends_in ports)
    (ends_in more) (ends-append ports more)

pub ends-map :
    (change : Port → Port) → ((port : Port) → is_open_end (change port) ≡ is_open_end port)
    → ((port : Port) → end_of (change port) ≡ end_of port)
    → (ports : List Port) → ends_in (map change ports) ≡ ends_in ports
ends-map change open' same [] = refl
ends-map change open' same (port ∷ ports) =
    ap
    (λ b. cond b (end_of (change port) ∷ ends_in (map change ports)) (ends_in (map change ports)))
    (open' port)
    ∙ ap
    (λ end. cond (is_open_end port) (end ∷ ends_in (map change ports)) (ends_in (map change ports)))
    (same port)
    ∙ ap (λ ends. cond (is_open_end port) (end_of port ∷ ends) ends)
    (ends-map change open' same ports)

pub ends-changed :
    (at : ℕ) (change : Port → Port) → ((port : Port) → is_open_end (change port) ≡ is_open_end port)
    → ((port : Port) → end_of (change port) ≡ end_of port)
    → (ports : List Port) → ends_in (changed_at at change ports) ≡ ends_in ports
ends-changed at change open' same ports =
    ends-map (λ (port : Port). changed_if (port.id == at) change port)
    (λ port. kept-if is_open_end (port.id == at) change port (open' port))
    (λ port. kept-if end_of (port.id == at) change port (same port)) ports

-- a Shut takes the end away

shut_at : (port : Port) (id : ℕ) (ends later : List End) (b o : Bool) → (port.id == id) ≡ b
    → is_open_end port ≡ o → filter (has_other_id id) ends ≡ later
    → filter (has_other_id id) (cond o (end_of port ∷ ends) ends)
    ≡ cond (is_open_end (changed_if b shut port)) (end_of (changed_if b shut port) ∷ later) later
shut_at port id ends later true true here is rest =
    ap
    (λ b. cond (not b) (end_of port ∷ filter (has_other_id id) ends) (filter (has_other_id id) ends))
    here
    ∙ rest
shut_at port id ends later true false here is rest = rest
shut_at port id ends later false true here is rest =
    ap
    (λ b. cond (not b) (end_of port ∷ filter (has_other_id id) ends) (filter (has_other_id id) ends))
    here
    ∙ ap (λ es. end_of port ∷ es) rest
    ∙ ap (λ o. cond o (end_of port ∷ later) later) (sym is)
shut_at port id ends later false false here is rest =
    rest ∙ ap (λ o. cond o (end_of port ∷ later) later) (sym is)

pub ends-shut : (ports : List Port) (id : ℕ)
    → filter (has_other_id id) (ends_in ports) ≡ ends_in (changed_at id shut ports)
ends-shut [] id = refl
ends-shut (port ∷ ports) id =
    shut_at port id (ends_in ports) (ends_in (changed_at id shut ports)) (port.id == id)
    (is_open_end port) refl refl (ends-shut ports id)

-- a port that goes is no open one

goes_at : (port : Port) (id : ℕ) (rest : Option Port) (less all : List Port) (b s : Bool)
    → port.shutting ≡ s → cond (b && not s) (Some port) rest ≡ None
    → (rest ≡ None → ends_in less ≡ ends_in all)
    → ends_in (cond (not b) (port ∷ less) less)
    ≡ cond (is_open_end port) (end_of port ∷ ends_in all) (ends_in all)
goes_at port id rest less all true true shuts none same =
    same none
    ∙ ap
    (λ s. cond (not s && is_pipe_name port.name) (end_of port ∷ ends_in all) (ends_in all))
    (sym shuts)
goes_at port id rest less all true false shuts none same = absurd cc
goes_at port id rest less all false s shuts none same =
    ap (λ ends. cond (is_open_end port) (end_of port ∷ ends) ends) (same none)

pub ends-without : (ports : List Port) (id : ℕ) → open_port ports id ≡ None
    → ends_in (ports_without id ports) ≡ ends_in ports
ends-without [] id none = refl
ends-without (port ∷ ports) id none =
    goes_at port id (open_port ports id) (ports_without id ports) ports (port.id == id)
    port.shutting refl none (ends-without ports id)

-- the other end

found_at : (x port : Port) (at : ℕ) (rest : Option Port) (ends : List End) (b s q : Bool)
    → (x.id == at) ≡ b → is_pipe_name x.name ≡ q
    → cond (b && not s) (Some x) rest ≡ Some port
    → is_pipe_name port.name ≡ true
    → (rest ≡ Some port → find (has_id at) ends ≡ Some (end_of port))
    → find (has_id at) (cond (not s && q) (end_of x ∷ ends) ends) ≡ Some (end_of port)
found_at x port at rest ends true true q here kind e pipe later = later e
found_at x port at rest ends true false true here kind e pipe later =
    let same : x ≡ port = cc in
    ap (λ b. cond b (Some (end_of x)) (find (has_id at) ends)) here ∙ ap (λ p. Some (end_of p)) same
found_at x port at rest ends true false false here kind e pipe later =
    let same : x ≡ port = cc in
    let is : true ≡ false = sym pipe ∙ ap (λ (p : Port). is_pipe_name p.name) (sym same) ∙ kind in
    absurd cc
found_at x port at rest ends false true q here kind e pipe later = later e
found_at x port at rest ends false false true here kind e pipe later =
    ap (λ b. cond b (Some (end_of x)) (find (has_id at) ends)) here ∙ later e
found_at x port at rest ends false false false here kind e pipe later = later e

find-end : (ports : List Port) (at : ℕ) (port : Port) → open_port ports at ≡ Some port
    → is_pipe_name port.name ≡ true → find (has_id at) (ends_in ports) ≡ Some (end_of port)
find-end [] at port e pipe = absurd cc
find-end (x ∷ xs) at port e pipe =
    found_at x port at (open_port xs at) (ends_in xs) (x.id == at) x.shutting (is_pipe_name x.name)
    refl refl e pipe (λ rest. find-end xs at port rest pipe)

abbrev pub id_of : Option Port → Option ℕ
id_of found = option_map (λ (port : Port). port.id) found

name_at : (x : Port) (name : List ℕ) (rest : Option Port) (ends : List End) (s q n : Bool)
    → bytes_eq x.name name ≡ n → id_of_end (find (has_name name) ends) ≡ id_of rest
    → id_of_end (find (has_name name) (cond (not s && q) (end_of x ∷ ends) ends))
    ≡ id_of (cond (q && (not s && n)) (Some x) rest)
name_at x name rest ends true true n is same = same
name_at x name rest ends true false n is same = same
name_at x name rest ends false true true is same =
    ap (λ b. id_of_end (cond b (Some (end_of x)) (find (has_name name) ends))) is
name_at x name rest ends false true false is same =
    ap (λ b. id_of_end (cond b (Some (end_of x)) (find (has_name name) ends))) is ∙ same
name_at x name rest ends false false n is same = same

find-name : (ports : List Port) (name : List ℕ)
    → id_of_end (find (has_name (peer_name name)) (ends_in ports)) ≡ id_of (find (is_peer name) ports)
find-name [] name = refl
find-name (x ∷ xs) name =
    name_at x (peer_name name) (find (is_peer name) xs) (ends_in xs) x.shutting
    (is_pipe_name x.name) (bytes_eq x.name (peer_name name)) refl (find-name xs name)

-- the other end of an open one
pub peer-told : (ports : List Port) (at : ℕ) (port : Port) → open_port ports at ≡ Some port
    → is_pipe_name port.name ≡ true
    → peer_among (ends_in ports) at ≡ id_of (peer_of ports port)
peer-told ports at port e pipe =
    ap (peer_of_end (ends_in ports)) (find-end ports at port e pipe) ∙ find-name ports port.name
