-- What is kept of ports goes on, and the ports of all notes are among it.
use Rattle.std.proofs.Common.{ℕ, ◌≡◌, ◌==◌, Bool, true, false, cond, List, [], ◌∷◌, ◌++◌, map, length, Option, Some, None, IsSome, IfSome, option_map, Result, Ok, Err, IfOk, IfErr, Vec, refl, sym, ap, subst, ◌∙◌}
use Rattle.std.specs.Prelude.{OnOk, find, bytes_eq, is_some}
use Rattle.std.specs.List.{AllByRecursion}
use Rattle.std.proofs.lemmas.Bool.{eq-eqb}
use Rattle.std.specs.declared.alloc.Global.{Global}
use Rattle.std.specs.Result.{result_ok}
use Rattle.nm_types.specs.declared.fault.NoMemory.{NoMemory}
use Rattle.nm_types.specs.declared.fault.OpenFault.{OpenFault}
use Rattle.nm_types.specs.declared.id.PortId.{PortId}
use Rattle.nm_types.specs.OwnPorts.{OwnPort, OwnState, port_with_name}
use Rattle.nm_types.specs.OwnSyncs.{buffers_of_arrivals, opened_port}
use Rattle.vale_entry.specs.declared.entry.Reply.TheVariants as replies
use Rattle.vale_entry.specs.Arrivals.{arrivals_of}
use Rattle.vale_book.specs.Recorded.{standing}
use Rattle.vale_fabric.specs.Fabrics.{before_in}
use Rattle.vale_entry.proofs.Each.{each-find, each-weaker}
use Rattle.nm_user.specs.declared.receiving.Received.{Received}
use Rattle.nm_user.specs.Sessions.{SessionState, IsThere}
use Rattle.nm_user.specs.Calls.{Made}
use Rattle.nm_user.specs.Ports.{OpensNot}
use Rattle.nm_user.specs.Receives.{HasPort}
use Rattle.nm_user.proofs.Opened.{opening}
use Rattle.vale_replay.specs.Machine.{Save}
use Rattle.vale_player.specs.Kept.{KeptFrames, AreKept, IsKeeping, Keeps, KeepsAll, KeepsMore, KeepsNamed, AreOrLost, SavesBy, grown_if, is_one_of, kept_opened, kept_received, new_records, ports_in, rx_tail}
use Rattle.vale_player.proofs.Changes.{id-of}
use Rattle.vale_player.proofs.PortCalls.{found-port}
use Rattle.vale_player.proofs.ReceivedFrames.{tail-is}
use Rattle.vale_player.proofs.PortNames.{SamePorts, named-stay, received-ports, untaken-ports, unopened-ports}
use Rattle.vale_player.proofs.KeptPorts.{grown-kept, untaken-kept, kept-stay, kept-then, begins-kept, open-saves}

pub each-then : {X : Type 0} (P : X → Type 0) (xs : List X) (x : X) → AllByRecursion P xs → P x → AllByRecursion P (xs ++ x ∷ [])
each-then {X} P [] x all one = (one, tt)
each-then {X} P (y ∷ xs) x all one = (all.0, each-then P xs x all.1 one)

-- ---- a port that was kept is kept

abbrev has_id : ℕ → KeptFrames → Bool
has_id id one = one.id == id

find-more : (test : KeptFrames → Bool) (kept more : List KeptFrames) → IsSome (find test kept) → IsSome (find test (kept ++ more))
find-more test [] more some = absurd cc
find-more test (k ∷ kept) more some = by (test k) some (find-more test kept more)
  where
    by : (b : Bool) → IsSome (cond b (Some k) (find test kept)) → (IsSome (find test kept) → IsSome (find test (kept ++ more))) → IsSome (cond b (Some k) (find test (kept ++ more)))
    by true s rest = s
    by false s rest = rest s

find-last : (id : ℕ) (kept : List KeptFrames) (k : KeptFrames) → has_id id k ≡ true → IsSome (find (has_id id) (kept ++ k ∷ []))
find-last id [] k is = ap (λ (b : Bool). is_some (cond b (Some k) None)) is
find-last id (x ∷ kept) k is = by (has_id id x) (find-last id kept k is)
  where
    by : (b : Bool) → IsSome (find (has_id id) (kept ++ k ∷ [])) → IsSome (cond b (Some x) (find (has_id id) (kept ++ k ∷ [])))
    by true rest = refl
    by false rest = rest

module _ (own : OwnState) (at tail : ℕ) (received : Received) where
  grown-id : (k : KeptFrames) → (grown_if own at tail received k).id ≡ k.id
  grown-id k = by (k.id == at)
    where
      by : (b : Bool) → (cond b (record k { records = k.records ++ new_records own at tail received }) k).id ≡ k.id
      by true = refl
      by false = refl

  find-grown : (id : ℕ) (kept : List KeptFrames) → IsSome (find (has_id id) kept) → IsSome (find (has_id id) (map (grown_if own at tail received) kept))
  find-grown id [] some = absurd cc
  find-grown id (k ∷ kept) some =
      let grown = grown_if own at tail received k in
      subst (λ (n : ℕ). IsSome (cond (n == id) (Some grown) (find (has_id id) (map (grown_if own at tail received) kept)))) (sym (grown-id k)) (by grown (k.id == id) some (find-grown id kept))
    where
      by : (grown : KeptFrames) (b : Bool) → IsSome (cond b (Some k) (find (has_id id) kept)) → (IsSome (find (has_id id) kept) → IsSome (find (has_id id) (map (grown_if own at tail received) kept)))
          → IsSome (cond b (Some grown) (find (has_id id) (map (grown_if own at tail received) kept)))
      by grown true s rest = refl
      by grown false s rest = rest s

received-keeps : (own : OwnState) (at tail : ℕ) (got : Option Received) (ports : List KeptFrames) (id : ℕ) → Keeps (Some ports) id → Keeps (Some (kept_received own at tail got ports)) id
received-keeps own at tail None ports id keeps = keeps
received-keeps own at tail (Some received) ports id keeps = find-grown own at tail received id ports keeps

opened-keeps : (names : List (List ℕ)) (name : List ℕ) (opened : Result PortId OpenFault) (ports : List KeptFrames) (id : ℕ) → Keeps (Some ports) id → Keeps (Some (kept_opened names name opened ports)) id
opened-keeps names name (Err fault) ports id keeps = keeps
opened-keeps names name (Ok port) ports id keeps = by (is_one_of names name)
  where
    new : KeptFrames
    new = record { id = port.0; records = [] }

    by : (b : Bool) → Keeps (Some (cond b (ports ++ new ∷ []) ports)) id
    by true = find-more (has_id id) ports (new ∷ []) keeps
    by false = keeps

-- ---- unless memory was wanting

some-is : {X : Type 0} {x y : X} → Some x ≡ Some y → x ≡ y
some-is e = cc

lost-more : (f : List KeptFrames → List KeptFrames) (old new : Option (List KeptFrames)) → ((ports : List KeptFrames) (id : ℕ) → Keeps (Some ports) id → Keeps (Some (f ports)) id)
    → AreOrLost (option_map f old) new → KeepsMore old new
lost-more f old None each is id keeps = tt
lost-more f None (Some now) each is id keeps = absurd cc
lost-more f (Some was) (Some now) each is id keeps = subst (λ (ports : List KeptFrames). Keeps (Some ports) id) (some-is is) (each was id keeps)

kept-or-lost : (s t : SessionState) (f : List KeptFrames → List KeptFrames) (old new : Option (List KeptFrames)) → ((ports : List KeptFrames) → AreKept s ports → AreKept t (f ports))
    → AreOrLost (option_map f old) new → IfSome old (AreKept s) → IfSome new (AreKept t)
kept-or-lost s t f old None each is all = tt
kept-or-lost s t f None (Some now) each is all = absurd cc
kept-or-lost s t f (Some was) (Some now) each is all = subst (AreKept t) (some-is is) (each was all)

-- what a call that may want memory has kept
pub ok-lost : (f : List KeptFrames → List KeptFrames) (ports old : Option (Vec KeptFrames Global)) (kept : Vec KeptFrames Global) (r : Result (Vec KeptFrames Global) NoMemory) → old ≡ Some kept → ports ≡ result_ok r
    → IfOk r (λ now. now.items ≡ f kept.items) → AreOrLost (option_map f (ports_in old)) (ports_in ports)
ok-lost f ports old kept r is made all =
    subst (λ (x : Option (Vec KeptFrames Global)). AreOrLost (option_map f (ports_in x)) (ports_in ports)) (sym is)
    (subst (λ (x : Option (Vec KeptFrames Global)). AreOrLost (Some (f kept.items)) (ports_in x)) (sym made) (by r all))
  where
    by : (r : Result (Vec KeptFrames Global) NoMemory) → IfOk r (λ now. now.items ≡ f kept.items) → AreOrLost (Some (f kept.items)) (ports_in (result_ok r))
    by (Ok now) same = ap (λ (x : List KeptFrames). Some x) (sym same)
    by (Err e) same = tt

-- ---- notes

pub keeps-all : (old new : Option (List KeptFrames)) (saves : List Save) → KeepsMore old new → KeepsAll old saves → KeepsAll new saves
keeps-all old new [] more all = tt
keeps-all old new (save ∷ saves) more all = (more save.port.0 all.0, keeps-all old new saves more all.1)

-- one more note, of a port that is kept
pub noted-keeping : (s : SessionState) (names : List (List ℕ)) (saves same after : List Save) (save : Save) (kept : Option (List KeptFrames)) → same ≡ saves → after ≡ same ++ save ∷ []
    → Keeps kept save.port.0 → IsKeeping s names saves kept → IsKeeping s names after kept
noted-keeping s names saves same after save kept is more keeps was =
    let behind : after ≡ saves ++ save ∷ [] = more ∙ ap (λ (list : List Save). list ++ save ∷ []) is in
    record {
      there = was.there;
      all = was.all;
      named = was.named;
      noted = subst (KeepsAll kept) (sym behind) (each-then (λ (x : Save). Keeps kept x.port.0) saves save was.noted keeps);
    }

-- a port that is found by one of the names is kept
pub found-kept : (s : SessionState) (names : List (List ℕ)) (saves : List Save) (kept : Option (List KeptFrames)) (name : List ℕ) (port : PortId) → IsKeeping s names saves kept
    → option_map id-of (port_with_name s.own name) ≡ Some port → is_one_of names name ≡ true → Keeps kept port.0
found-kept s names saves kept name port was found one =
    let f = found-port s.own name port was.there.side.sound found in
    let here = each-find (KeepsNamed names kept) (λ (p : OwnPort). bytes_eq name p.name) s.own.ports f.at was.named f.named in
    subst (λ (id : PortId). Keeps kept id.0) f.id_is (here (ap (is_one_of names) f.name_is ∙ one))

-- ports that were kept of the names are kept still
named-more : (names : List (List ℕ)) (old new : Option (List KeptFrames)) (ports : List OwnPort) → KeepsMore old new → AllByRecursion (KeepsNamed names old) ports → AllByRecursion (KeepsNamed names new) ports
named-more names old new ports more all = each-weaker (KeepsNamed names old) (KeepsNamed names new) (λ p keeps one. more p.id.0 (keeps one)) ports all

-- ---- a receive sync

received-kept : (s t : SessionState) (at : ℕ) (got : Option Received) → IsThere None s → SavesBy s t at got
    → (ports : List KeptFrames) → AreKept s ports → AreKept t (kept_received t.own at (rx_tail s.own at) got ports)
received-kept s t at None here saves ports all = untaken-kept s t at ports here saves all
received-kept s t at (Some received) here saves ports all =
    subst (λ (tail : ℕ). AreKept t (map (grown_if t.own at tail received) ports)) (sym (tail-is s.own at saves.0.at)) (grown-kept s t at received here saves.1 saves.0 ports all)

taken-ports : (s t : SessionState) (at : ℕ) (got : Option Received) → SavesBy s t at got → SamePorts s t
taken-ports s t at None saves = untaken-ports s t at saves
taken-ports s t at (Some received) saves = received-ports s t at received saves.0

pub received-keeping : (s t : SessionState) (at : ℕ) (got : Option Received) (names : List (List ℕ)) (saves : List Save) (old new : Option (List KeptFrames)) → IsThere None t → SavesBy s t at got
    → AreOrLost (option_map (kept_received t.own at (rx_tail s.own at) got) old) new → IsKeeping s names saves old → IsKeeping t names saves new
received-keeping s t at got names saves old new there by is was =
    let tail = rx_tail s.own at in
    let more : KeepsMore old new = lost-more (kept_received t.own at tail got) old new (received-keeps t.own at tail got) is in
    record {
      there = there;
      all = kept-or-lost s t (kept_received t.own at tail got) old new (received-kept s t at got was.there by) is was.all;
      named = named-stay names new s t (taken-ports s t at got by) (named-more names old new s.own.ports more was.named);
      noted = keeps-all old new saves more was.noted;
    }

-- ---- an opening

-- a port behind others is found by its id, or one of the others is
last-found : (id : ℕ) (ports : List OwnPort) (new : OwnPort) → (new.id.0 == id) ≡ true → (p : OwnPort) × (find (λ (q : OwnPort). q.id.0 == id) (ports ++ new ∷ []) ≡ Some p)
last-found id [] new is = (new, ap (λ (b : Bool). cond b (Some new) None) is)
last-found id (p ∷ ports) new is = by (p.id.0 == id) (last-found id ports new is)
  where
    by : (b : Bool) → ((q : OwnPort) × (find (λ (x : OwnPort). x.id.0 == id) (ports ++ new ∷ []) ≡ Some q)) → (q : OwnPort) × (cond b (Some p) (find (λ (x : OwnPort). x.id.0 == id) (ports ++ new ∷ [])) ≡ Some q)
    by true rest = (p, refl)
    by false rest = rest

opened-has : (s t : SessionState) (name : List ℕ) (tx rx extra : ℕ) → Made s t (opening s name tx rx extra) replies.Opened → HasPort t.own (length t.knows.seen)
opened-has s t name tx rx extra made =
    let id = length t.knows.seen in
    let found = last-found id s.own.ports _ (eq-eqb id id refl) in
    subst (λ (own : OwnState). HasPort own id) (sym made.own) (record { port = found.0; found = found.1 })

module _ (s t : SessionState) (here : IsThere None s) (there : IsThere None t) (name : List ℕ) (tx rx extra : ℕ) (names : List (List ℕ)) where
  opened-kept : (r : Result PortId OpenFault) → OnOk r (Made s t (opening s name tx rx extra) replies.Opened) → IfOk r (λ port. port.0 ≡ length t.knows.seen) → IfErr r (OpensNot s t (opening s name tx rx extra))
      → (ports : List KeptFrames) → AreKept s ports → AreKept t (kept_opened names name r ports)
  opened-kept (Err fault) made last not ports all = kept-stay s t ports (open-saves s t here name tx rx extra (Err fault) made not) all
  opened-kept (Ok port) made last not ports all = by (is_one_of names name)
    where
      stays : AreKept t ports
      stays = kept-stay s t ports (open-saves s t here name tx rx extra (Ok port) made not) all

      new : KeptFrames
      new = record { id = port.0; records = [] }

      by : (b : Bool) → AreKept t (cond b (ports ++ new ∷ []) ports)
      by true = kept-then t ports new stays (begins-kept t port.0 there (subst (HasPort t.own) (sym last) (opened-has s t name tx rx extra made)) last)
      by false = stays

  -- it is kept if it has one of the names
  begins-named : (port : PortId) (p : OwnPort) (old new : Option (List KeptFrames)) → p.id.0 ≡ port.0 → p.name ≡ name → AreOrLost (option_map (kept_opened names name (Ok port)) old) new → KeepsNamed names new p
  begins-named port p old None id is_name is one = tt
  begins-named port p None (Some now) id is_name is one = absurd cc
  begins-named port p (Some was) (Some now) id is_name is one =
      let begun : KeptFrames = record { id = port.0; records = [] } in
      let among : is_one_of names name ≡ true = ap (is_one_of names) (sym is_name) ∙ one in
      let behind : was ++ begun ∷ [] ≡ now = sym (ap (λ (b : Bool). cond b (was ++ begun ∷ []) was) among) ∙ some-is is in
      subst (λ (ports : List KeptFrames). Keeps (Some ports) p.id.0) behind (find-last p.id.0 was begun (eq-eqb port.0 p.id.0 (sym id)))

  opened-named : (r : Result PortId OpenFault) (old new : Option (List KeptFrames)) → OnOk r (Made s t (opening s name tx rx extra) replies.Opened) → IfOk r (λ port. port.0 ≡ length t.knows.seen)
      → IfErr r (OpensNot s t (opening s name tx rx extra)) → AreOrLost (option_map (kept_opened names name r) old) new → AllByRecursion (KeepsNamed names new) s.own.ports → AllByRecursion (KeepsNamed names new) t.own.ports
  opened-named (Err fault) old new made last not is all = named-stay names new s t (unopened-ports s t name tx rx extra fault not) all
  opened-named (Ok port) old new made last not is all =
      let came = arrivals_of (standing (before_in s.fixed t.knows)) (opening s name tx rx extra) replies.Opened in
      let begun : OwnPort = opened_port (length t.knows.seen) name tx rx (buffers_of_arrivals came) in
      subst (λ (o : OwnState). AllByRecursion (KeepsNamed names new) o.ports) (sym made.own)
      (each-then (KeepsNamed names new) s.own.ports begun all (begins-named port begun old new (sym last) refl is))

  pub opened-keeping : (r : Result PortId OpenFault) (saves : List Save) (old new : Option (List KeptFrames)) → OnOk r (Made s t (opening s name tx rx extra) replies.Opened) → IfOk r (λ port. port.0 ≡ length t.knows.seen)
      → IfErr r (OpensNot s t (opening s name tx rx extra)) → AreOrLost (option_map (kept_opened names name r) old) new → IsKeeping s names saves old → IsKeeping t names saves new
  opened-keeping r saves old new made last not is was =
      let more : KeepsMore old new = lost-more (kept_opened names name r) old new (opened-keeps names name r) is in
      record {
        there = there;
        all = kept-or-lost s t (kept_opened names name r) old new (opened-kept r made last not) is was.all;
        named = opened-named r old new made last not is (named-more names old new s.own.ports more was.named);
        noted = keeps-all old new saves more was.noted;
      }
