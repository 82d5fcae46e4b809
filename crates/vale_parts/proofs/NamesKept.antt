-- What each entry makes of the names keeps them those of the ports.
use Rattle.std.proofs.Common.{ℕ, Bool, true, false, cond, not, ◌≡◌, ◌+◌, List, [], ◌∷◌, ◌++◌, map, length, Some, refl, sym, ◌∙◌, ap, subst, ◌==◌, ◌&&◌, bytes_eq, IsPermutation}
use Rattle.std.proofs.lemmas.Bool.{and_parts, and_from, eqb-true, eq-eqb}
use Rattle.std.proofs.lemmas.List.{map-append}
use Rattle.std.proofs.lemmas.Slice.Eq.{bytes_eq-Decides}
use Rattle.std.proofs.lemmas.List.Sorted.{IsPermutation-cons, IsPermutation-middle, IsPermutation-to_front, IsPermutation-sym, IsPermutation-trans, IsPermutation-map}
use Rattle.nm_types.specs.declared.id.PortId.{PortId}
use Rattle.vale_names.specs.declared.port.NamedPort.{NamedPort}
use Rattle.vale_names.specs.Ports.{Joins, has_id, shut_at, shut_in}
use Rattle.vale_names.specs.Ports.{ports_without as names_without}
use Rattle.vale_entry.specs.declared.entry.Ask.{Ask}
use Rattle.vale_entry.specs.declared.entry.Reply.{Reply}
use Rattle.vale_entry.specs.declared.entry.Entry.{Entry}
use Rattle.vale_entry.specs.World.{World, Port, changed_if, changed_at, open_port}
use Rattle.vale_entry.specs.Opening.{opened_port}
use Rattle.vale_entry.specs.Grant.{port_after_grant, granted_frames}
use Rattle.vale_entry.specs.Delivery.{port_after_done, port_after_sync}
use Rattle.vale_entry.specs.Closing.{shut, shutting_port, ports_without}
use Rattle.vale_entry.specs.Pipe.{frames_of_items, port_after_put}
use Rattle.vale_entry.specs.Legal.{Standing, after, standing_of, Follows, sync_step}
use Rattle.vale_entry.proofs.Each.{map-changed_at}
use Rattle.vale_entry.proofs.Places.{open-place, shutting-place}
use Rattle.vale_entry.proofs.Worlds.{standing-push}
use Rattle.vale_entry.proofs.Numbered.{Numbered, world-numbered}
use Rattle.vale_entry.proofs.Follows.{EachKind, Left, IsQuiet, refused_open, resets, finds_no_peer, finds_no_target, finds_watched, counts, Receives, by_sync, by_get, follows-by}
use Rattle.vale_parts.specs.Ids.{port_id}
use Rattle.vale_parts.specs.WorldNames.{named_port, NamesAre, AreNamesAfter}
use Rattle.vale_parts.specs.NameLaws.{NamesFollow}
use Rattle.vale_parts.proofs.Permutations.{filter-permutation}

abbrev names_at : List Port → List NamedPort
names_at ports = map named_port ports

-- ---- ports told apart

abbrev bool_same : Bool → Bool → Bool
bool_same a b = cond a b (not b)

bool_sound : (a b : Bool) → bool_same a b ≡ true → a ≡ b
bool_sound true true e = refl
bool_sound false false e = refl
bool_sound true false e = absurd cc
bool_sound false true e = absurd cc

bool_own : (b : Bool) → bool_same b b ≡ true
bool_own true = refl
bool_own false = refl

abbrev port_same : NamedPort → NamedPort → Bool
port_same a b = bytes_eq a.name b.name && ((a.id.0 == b.id.0) && bool_same a.shutting b.shutting)

port_sound : (a b : NamedPort) → port_same a b ≡ true → a ≡ b
port_sound a b e =
    let one = and_parts (bytes_eq a.name b.name) ((a.id.0 == b.id.0) && bool_same a.shutting b.shutting) e in
    let two = and_parts (a.id.0 == b.id.0) (bool_same a.shutting b.shutting) one.1 in
    let name : a.name ≡ b.name = (bytes_eq-Decides a.name b.name).0 one.0 in
    let id : a.id.0 ≡ b.id.0 = eqb-true a.id.0 b.id.0 two.0 in
    let shutting : a.shutting ≡ b.shutting = bool_sound a.shutting b.shutting two.1 in
    ap (λ (n : List ℕ). named n a.id.0 a.shutting) name ∙ (ap (λ (k : ℕ). named b.name k a.shutting) id ∙ ap (λ (s : Bool). named b.name b.id.0 s) shutting)
  where
    named : List ℕ → ℕ → Bool → NamedPort
    named name id shutting = record { name = name; id = port_id id; shutting = shutting }

port_own : (a : NamedPort) → port_same a a ≡ true
port_own a =
    and_from (bytes_eq a.name a.name) ((a.id.0 == a.id.0) && bool_same a.shutting a.shutting) ((bytes_eq-Decides a.name a.name).1 refl)
    (and_from (a.id.0 == a.id.0) (bool_same a.shutting a.shutting) (eq-eqb a.id.0 a.id.0 refl) (bool_own a.shutting))

-- ---- the names of ports that change

map_same : (change : Port → Port) → ((port : Port) → named_port (change port) ≡ named_port port) → (ports : List Port) → names_at (map change ports) ≡ names_at ports
map_same change keeps [] = refl
map_same change keeps (p ∷ ps) = ap (λ (q : NamedPort). q ∷ names_at (map change ps)) (keeps p) ∙ ap (λ (qs : List NamedPort). named_port p ∷ qs) (map_same change keeps ps)

shut_by : (port : Port) (b : Bool) → named_port (changed_if b shut port) ≡ cond b (record (named_port port) { shutting = true }) (named_port port)
shut_by port true = refl
shut_by port false = refl

names_shut : (ports : List Port) (id : ℕ) → names_at (changed_at id shut ports) ≡ shut_in id (names_at ports)
names_shut [] id = refl
names_shut (p ∷ ps) id =
    ap (λ (q : NamedPort). q ∷ names_at (changed_at id shut ps)) (shut_by p (p.id == id)) ∙ ap (λ (qs : List NamedPort). shut_at id (named_port p) ∷ qs) (names_shut ps id)

kept_by : (port : Port) (rest : List Port) (names : List NamedPort) (b : Bool) → names_at rest ≡ names → names_at (cond b (port ∷ rest) rest) ≡ cond b (named_port port ∷ names) names
kept_by port rest names true e = ap (λ (qs : List NamedPort). named_port port ∷ qs) e
kept_by port rest names false e = e

names_less : (ports : List Port) (id : ℕ) → names_at (ports_without id ports) ≡ names_without id (names_at ports)
names_less [] id = refl
names_less (p ∷ ps) id = kept_by p (ports_without id ps) (names_without id (names_at ps)) (not (p.id == id)) (names_less ps id)

-- one port more
joined : (ports : List Port) (new : Port) (names next : List NamedPort) → IsPermutation (names_at ports) names → Joins names (named_port new) next → IsPermutation (names_at (ports ++ new ∷ [])) next
joined ports new names next permutes joins =
    let fresh = named_port new in
    let all = joins.before ++ joins.after in
    let old : IsPermutation (names_at ports) all = subst (IsPermutation (names_at ports)) joins.was permutes in
    let placed : IsPermutation (fresh ∷ all) next = subst (IsPermutation (fresh ∷ all)) (sym joins.is) (IsPermutation-sym (joins.before ++ fresh ∷ joins.after) (fresh ∷ all) (IsPermutation-middle joins.before fresh joins.after)) in
    let front : IsPermutation (names_at ports ++ fresh ∷ []) (fresh ∷ names_at ports) = IsPermutation-to_front (names_at ports) fresh in
    let whole : IsPermutation (names_at ports ++ fresh ∷ []) next =
    IsPermutation-trans (names_at ports ++ fresh ∷ []) (fresh ∷ names_at ports) next front
    (IsPermutation-trans (fresh ∷ names_at ports) (fresh ∷ all) next (IsPermutation-cons fresh (names_at ports) all old) placed) in
    subst (λ (qs : List NamedPort). IsPermutation qs next) (sym (map-append named_port ports (new ∷ []))) whole

-- ---- entry by entry

quiet_names : (s : Standing) (number : ℕ) (names next : List NamedPort) (ask : Ask) (session : ℕ) (reply : Reply) → IsQuiet s ask session reply → AreNamesAfter number ask reply names next → next ≡ names
quiet_names s number names next _ _ _ (refused_open session name tx rx extra fault can e) is = is
quiet_names s number names next _ _ _ _ is = is

read_names : (number : ℕ) (names next : List NamedPort) (ask : Ask) (at : PortId) (back : List ℕ) (reply : Reply) → Receives ask at back → AreNamesAfter number ask reply names next → next ≡ names
read_names number names next _ _ _ reply (by_sync at back) is = is
read_names number names next _ _ _ reply (by_get at back) is = is

module _ (s : Standing) (n : Numbered s) (names next : List NamedPort) (are : NamesAre s.world names) where
  abbrev w : World
  w = s.world

  abbrev Kept : Entry → Standing → Type 0
  Kept e left = AreNamesAfter (w.entry_count + 1) e.ask e.reply names next → NamesAre left.world next

  still : (ports : List Port) → names_at ports ≡ names_at w.ports → next ≡ names → IsPermutation (names_at ports) next
  still ports same is = subst (IsPermutation (names_at ports)) (sym is) (subst (λ (qs : List NamedPort). IsPermutation qs names) (sym same) are)

  changed : (id : ℕ) (change : Port → Port) → ((port : Port) → named_port (change port) ≡ named_port port) → next ≡ names → IsPermutation (names_at (changed_at id change w.ports)) next
  changed id change keeps is = still (changed_at id change w.ports) (map-changed_at named_port id change keeps w.ports) is

  shuts_at : (at : PortId) (port : Port) → open_port w.ports at.0 ≡ Some port → next ≡ shut_in at.0 names → IsPermutation (names_at (changed_at port.id shut w.ports)) next
  shuts_at at port e is =
      let id = (open-place w.ports w.entry_count at.0 port n.ports_rise e).id_is in
      let moved : IsPermutation (shut_in at.0 (names_at w.ports)) (shut_in at.0 names) = IsPermutation-map (shut_at at.0) (names_at w.ports) names are in
      let left : names_at (changed_at port.id shut w.ports) ≡ shut_in at.0 (names_at w.ports) = names_shut w.ports port.id ∙ ap (λ (k : ℕ). shut_in k (names_at w.ports)) id in
      subst (IsPermutation (names_at (changed_at port.id shut w.ports))) (sym is) (subst (λ (qs : List NamedPort). IsPermutation qs (shut_in at.0 names)) (sym left) moved)

  gone_at : (at : PortId) (port : Port) → shutting_port w.ports at.0 ≡ Some port → next ≡ names_without at.0 names → IsPermutation (names_at (ports_without port.id w.ports)) next
  gone_at at port e is =
      let id = (shutting-place w.ports w.entry_count at.0 port n.ports_rise e).id_is in
      let moved : IsPermutation (names_without at.0 (names_at w.ports)) (names_without at.0 names) =
      filter-permutation port_same port_sound port_own (λ (q : NamedPort). not (has_id at.0 q)) (names_at w.ports) names are in
      let left : names_at (ports_without port.id w.ports) ≡ names_without at.0 (names_at w.ports) = names_less w.ports port.id ∙ ap (λ (k : ℕ). names_without k (names_at w.ports)) id in
      subst (IsPermutation (names_at (ports_without port.id w.ports))) (sym is) (subst (λ (qs : List NamedPort). IsPermutation qs (names_without at.0 names)) (sym left) moved)

  kinds : EachKind s (Left s Kept)
  kinds = record {
    enters = λ user fits is. still w.ports refl is;
    quiet = λ ask session reply quiet is. still w.ports refl (quiet_names s (w.entry_count + 1) names next ask session reply quiet is);
    opens = λ session name tx rx extra can refusal joins. joined w.ports (opened_port (w.entry_count + 1) session.0 name tx rx extra) names next are joins;
    sends = λ from frames port e can settled is. still w.ports refl is;
    grants = λ origin to offer first same is. changed offer.to (port_after_grant (w.entry_count + 1) offer.session (granted_frames w offer)) (λ p. refl) is;
    completes = λ lease lot e is. still (map (port_after_done lease.0) w.ports) (map_same (port_after_done lease.0) (λ p. refl) w.ports) is;
    receives = λ ask at back port receives e can is.
        changed port.id (port_after_sync (length back)) (λ p. refl) (read_names (w.entry_count + 1) names next ask at back (sync_step s back port).reply receives is);
    puts = λ at offered items port peer e can found is. changed peer.id (port_after_put (w.entry_count + 1) port.session (frames_of_items items)) (λ p. refl) is;
    watches = λ at target sides port found e can there none is. still w.ports refl is;
    shuts = λ at port e settled is. shuts_at at port e is;
    finishes = λ at bufs chain port fits e can out is. gone_at at port e is;
    leaves = λ session can is. still w.ports refl is;
  }

  pub kept : (e : Entry) → Follows s e → Kept e (after s e)
  kept e follows = follows-by s Kept e follows kinds

pub names_follow : NamesFollow
names_follow pool h e names next follows are made =
    subst (λ (t : Standing). NamesAre t.world next) (sym (standing-push pool h e)) (kept (standing_of pool h) (world-numbered pool h) names next are e follows made)
