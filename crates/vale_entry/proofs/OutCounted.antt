-- What is out at a port is what it read less what was brought back.
use Rattle.std.proofs.Common.{ℕ, ◌+◌, ◌-◌, ◌<◌, ◌≤◌, ◌≡◌, Bool, true, false, cond, ◌==◌, List, [], ◌∷◌, ◌++◌, length, sum, Option, Some, None, refl, sym, ◌∙◌, ap, subst, arith, append-nil}
use Rattle.std.specs.Prelude.{option_map}
use Rattle.std.proofs.lemmas.List.Sums.{sum_by-append, sum_by_push}
use Rattle.std.proofs.lemmas.Bool.{eq-eqb, eqb-true, eqb-false, ne_eqb, leb-true}
use Rattle.nm_types.specs.Frames.{Frame, slots_of, size_of_frames}
use Rattle.vale_entry.specs.declared.entry.Entry.{Entry}
use Rattle.vale_entry.specs.World.{World, Port, open_port, changed_if, changed_at}
use Rattle.vale_entry.specs.Opening.{opened_port}
use Rattle.vale_entry.specs.Grant.{port_after_grant, granted_frames}
use Rattle.vale_entry.specs.Delivery.{port_after_done, port_after_sync, delivered_frames}
use Rattle.vale_entry.specs.Closing.{shut, ports_without}
use Rattle.vale_entry.specs.Pipe.{frames_of_items, port_after_put}
use Rattle.vale_entry.specs.Legal.{Standing, standing_of, world_of, sync_step, IsLegal, Follows}
use Rattle.vale_entry.specs.Delivered.{has_id, port_at, frames_at, read_by, read_frames, returned_by, returned_counts, of_entry, of_entry_in}
use Rattle.vale_entry.specs.DeliveryLaws.{OutIsCounted}
use Rattle.vale_entry.proofs.Worlds.{standing-push}
use Rattle.vale_entry.proofs.Told.{told-push, flat_map-push, history-by}
use Rattle.vale_entry.proofs.Follows.{EachKind, Left, follows-by}
use Rattle.vale_entry.proofs.Tells.{tells-nothing, tells-received, tells-put}
use Rattle.vale_entry.proofs.Numbered.{Numbered, world-numbered}
use Rattle.vale_entry.proofs.PortAt.{IsKeptAt, same_port, kept-map, kept-if, first_of, find-append, port_at-map, port_at-changed, port_at-id, port_at-under, port_at-without, port_at-without_other, Found, found-open}

-- the port of an id after so many entries, and what it read and brought back
pub record IsOut (id count : ℕ) (found : Option Port) (read : List Frame) (returned : List ℕ) :
    Type 0 where
  pub counted : (port : Port) → found ≡ Some port → port.out + sum returned ≡ size_of_frames read
  pub future : count < id → (read ≡ []) × (returned ≡ [])

abbrev OutAt : ℕ → World → List Frame → List ℕ → Type 0
OutAt id w read returned = IsOut id w.entry_count (port_at w.ports id) read returned

-- an entry that reads nothing here
out-still : (id count : ℕ) (found later : Option Port) (read : List Frame) (returned : List ℕ)
    → IsKeptAt (λ (p : Port). p.out) found later → IsOut id count found read returned → IsOut id (count + 1) later (read ++ []) (returned ++ [])
out-still id count found later read returned same k =
    rw (append-nil read, append-nil returned) (record {
      counted = λ port e.
          let old = same port e in
          let before = k.counted old.0 old.1.0 in
          omega (arith, before, old.1.1);
      future = λ above. k.future (omega (arith, above));
    })

abbrev KeptOut : ℕ → World → List Frame → List ℕ → Entry → Standing → Type 0
KeptOut id w read returned e left =
    OutAt id left.world (read ++ read_by id w e.ask e.reply)
    (returned ++ returned_by id e.ask e.reply)

module _ (s : Standing) (id : ℕ) (read : List Frame) (returned : List ℕ) (n : Numbered s)
    (k : OutAt id s.world read returned) where
  abbrev w : World
  w = s.world

  same : IsOut id (w.entry_count + 1) (port_at w.ports id) (read ++ []) (returned ++ [])
  same =
      out-still id w.entry_count (port_at w.ports id) (port_at w.ports id) read returned
      (λ port e. (port, (e, refl))) k

  changed :
      (at : ℕ) (change : Port → Port) → ((port : Port) → (change port).id ≡ port.id)
      → ((port : Port) → (change port).out ≡ port.out)
      → IsOut id (w.entry_count + 1) (port_at (changed_at at change w.ports) id) (read ++ [])
      (returned ++ [])
  changed at change ids outs =
      out-still id w.entry_count (port_at w.ports id) (port_at (changed_at at change w.ports) id)
      read returned
      (kept-map (λ (p : Port). p.out) (λ (p : Port). changed_if (p.id == at) change p)
      (λ p. kept-if (λ (q : Port). q.out) (p.id == at) change p (outs p)) (port_at w.ports id) _
      (port_at-changed at change ids w.ports id)) k

  opens :
      (new : Port) (later : Option Port) → new.out ≡ 0 → (b : Bool)
      → (b ≡ true → w.entry_count < id)
      → later ≡ first_of (port_at w.ports id) (cond b (Some new) None)
      → IsOut id (w.entry_count + 1) later (read ++ []) (returned ++ [])
  opens new later zero' b fresh e =
      rw (append-nil read, append-nil returned) (record {
        counted = λ port is. by_found (port_at w.ports id) b refl refl port (sym e ∙ is);
        future = λ above. k.future (omega (arith, above));
      })
    where
      by_found :
          (found : Option Port) (c : Bool) → port_at w.ports id ≡ found → b ≡ c → (port : Port)
          → first_of found (cond c (Some new) None) ≡ Some port
          → port.out + sum returned ≡ size_of_frames read
      by_found (Some old) c here t port is = k.counted port (here ∙ is)
      by_found None true here t port is =
          let same : new ≡ port = same_port new port is in
          let none = k.future (fresh t) in
          let out : port.out ≡ 0 = ap (λ (p : Port). p.out) (sym same) ∙ zero' in
          rw (none.0, none.1, out) refl
      by_found None false here t port is = absurd cc

  receives :
      (at : ℕ) (back : List ℕ) (port : Port) (found : Option Port) → found ≡ Some port
      → Found w.ports at port → length back ≤ port.out → (hit : Bool) → (at == id) ≡ hit
      → IsOut id (w.entry_count + 1)
      (port_at (changed_at port.id (port_after_sync (length back)) w.ports) id)
      (read ++ cond hit (frames_at delivered_frames found) [])
      (returned ++ cond hit (length back ∷ []) [])
  receives at back port found first place few true t = rw first (record {
    counted = λ p is.
        let mine : at ≡ id = eqb-true at id t in
        let here : port_at w.ports id ≡ Some port =
        subst (λ (n : ℕ). port_at w.ports n ≡ Some port) mine place.here in
        let later : port_at (changed_at port.id (port_after_sync (length back)) w.ports) id
        ≡ Some (port_after_sync (length back) port) =
        port_at-changed port.id (port_after_sync (length back)) (λ q. refl) w.ports id
        ∙
        (ap
        (option_map (λ (q : Port). changed_if (q.id == port.id) (port_after_sync (length back)) q))
        here
        ∙ ap (λ (b : Bool). Some (changed_if b (port_after_sync (length back)) port))
        (eq-eqb port.id port.id refl)) in
        let after' : port_after_sync (length back) port ≡ p =
        same_port (port_after_sync (length back) port) p (sym later ∙ is) in
        let out : p.out ≡ port.out + size_of_frames (delivered_frames port) - length back =
        ap (λ (q : Port). q.out) (sym after') in
        let before = k.counted port here in
        let sizes = sum_by-append slots_of read (delivered_frames port) in
        let total : sum (returned ++ length back ∷ []) ≡ sum returned + length back =
        sum_by_push (λ (m : ℕ). m) returned (length back) in
        omega (arith, out, before, sizes, total, few);
    future = λ above. absurd (past above);
  })
    where
      past : w.entry_count + 1 < id → ⊥
      past above =
          let mine : at ≡ id = eqb-true at id t in
          let here : port_at w.ports id ≡ Some port =
          subst (λ (n : ℕ). port_at w.ports n ≡ Some port) mine place.here in
          let below = port_at-under w.ports w.entry_count id port n.ports_rise here in
          omega (arith, above, below)
  receives at back port found first place few false t =
      out-still id w.entry_count (port_at w.ports id)
      (port_at (changed_at port.id (port_after_sync (length back)) w.ports) id) read returned
      (λ p is.
      other p
      (sym (port_at-changed port.id (port_after_sync (length back)) (λ q. refl) w.ports id) ∙ is)) k
    where
      other :
          (p : Port)
          → option_map
          (λ (q : Port). changed_if (q.id == port.id) (port_after_sync (length back)) q)
          (port_at w.ports id) ≡ Some p
          → (old : Port) × ((port_at w.ports id ≡ Some old) × (old.out ≡ p.out))
      other p is = by_found (port_at w.ports id) refl is
        where
          by_found :
              (o : Option Port) → port_at w.ports id ≡ o
              → option_map
              (λ (q : Port). changed_if (q.id == port.id) (port_after_sync (length back)) q) o
              ≡ Some p
              → (old : Port) × ((o ≡ Some old) × (old.out ≡ p.out))
          by_found None here e = absurd cc
          by_found (Some old) here e =
              let apart : (old.id == port.id) ≡ false =
              ne_eqb old.id port.id
              (λ e. eqb-false at id t (sym place.id_is ∙ (sym e ∙ port_at-id w.ports id old here)))
              in
              let same : changed_if (old.id == port.id) (port_after_sync (length back)) old ≡ p =
              same_port _ p e in
              let is : old ≡ p =
              ap (λ (b : Bool). changed_if b (port_after_sync (length back)) old) (sym apart) ∙ same
              in
              (old, (refl, ap (λ (q : Port). q.out) is))

  finishes :
      (gone : ℕ)
      → IsOut id (w.entry_count + 1) (port_at (ports_without gone w.ports) id) (read ++ [])
      (returned ++ [])
  finishes gone = by_test (gone == id) refl
    where
      by_test :
          (b : Bool) → (gone == id) ≡ b
          → IsOut id (w.entry_count + 1) (port_at (ports_without gone w.ports) id) (read ++ [])
          (returned ++ [])
      by_test true t =
          let none : port_at (ports_without gone w.ports) id ≡ None =
          subst (λ (n : ℕ). port_at (ports_without gone w.ports) n ≡ None) (eqb-true gone id t)
          (port_at-without w.ports gone) in
          out-still id w.entry_count (port_at w.ports id) (port_at (ports_without gone w.ports) id)
          read returned (λ p is. absurd (none_some p (sym none ∙ is))) k
        where
          none_some : (p : Port) → None ≡ Some p → ⊥
          none_some p e = absurd cc
      by_test false t =
          out-still id w.entry_count (port_at w.ports id) (port_at (ports_without gone w.ports) id)
          read returned
          (λ p is.
          (p, (sym (port_at-without_other w.ports gone id (eqb-false gone id t)) ∙ is, refl))) k

  kinds : EachKind s (Left s (KeptOut id w read returned))
  kinds = record {
    enters = λ user fits. same;
    quiet =
        λ ask session reply quiet. let tells = tells-nothing s ask session reply quiet in rw
        (tells.read id, tells.returned id) same;
    opens = λ session name tx rx extra can refusal.
        let new = opened_port (w.entry_count + 1) session.0 name tx rx extra in
        opens new _ refl (w.entry_count + 1 == id)
        (λ hit.
        let mine : w.entry_count + 1 ≡ id = eqb-true (w.entry_count + 1) id hit in omega
        (arith, mine)) (find-append (has_id id) w.ports (new ∷ []));
    sends = λ from frames port e can settled. same;
    grants =
        λ origin to offer first e.
        changed offer.to
        (port_after_grant (w.entry_count + 1) offer.session (granted_frames w offer)) (λ p. refl)
        (λ p. refl);
    completes = λ lease lot e.
        out-still id w.entry_count (port_at w.ports id) _ read returned
        (kept-map (λ (p : Port). p.out) (port_after_done lease.0) (λ p. refl) (port_at w.ports id) _
        (port_at-map (port_after_done lease.0) (λ p. refl) w.ports id)) k;
    receives = λ ask at back port receiving e can.
        let tells = tells-received s ask at back (sync_step s back port) receiving in
        rw (tells.read id, tells.returned id)
        (receives at.0 back port (open_port w.ports at.0) e
        (found-open w.ports w.entry_count at.0 port n.ports_rise e)
        (leb-true (length back) port.out can.few) (at.0 == id) refl);
    puts = λ at offered items port peer e can found.
        let tells = tells-put s at offered items port peer e found in
        rw (tells.read id, tells.returned id)
        (changed peer.id (port_after_put (w.entry_count + 1) port.session (frames_of_items items))
        (λ p. refl) (λ p. refl));
    watches = λ at target sides port found e can there none. same;
    shuts = λ at port e settled. changed port.id shut (λ p. refl) (λ p. refl);
    finishes = λ at bufs chain port fits e can out. finishes port.id;
    leaves = λ session can. same;
  }

out-is :
    (id : ℕ) (w v : World) (read got : List Frame) (returned counts : List ℕ) → w ≡ v → read ≡ got
    → returned ≡ counts → OutAt id v got counts → OutAt id w read returned
out-is id w v read got returned counts a b c k = rw (a, b, c) k

history-out :
    (pool id : ℕ) (h : List Entry) → IsLegal pool h
    → OutAt id (world_of pool h) (read_frames pool h id) (returned_counts h id)
history-out pool id h legal =
    history-by pool
    (λ (h : List Entry). OutAt id (world_of pool h) (read_frames pool h id) (returned_counts h id))
    keeps
    (record { counted = λ port e. absurd cc; future = λ above. (refl, refl) }) h legal
  where
    keeps :
        (h : List Entry) (e : Entry) → IsLegal pool h → Follows (standing_of pool h) e
        → OutAt id (world_of pool h) (read_frames pool h id) (returned_counts h id)
        → OutAt id (world_of pool (h ++ e ∷ [])) (read_frames pool (h ++ e ∷ []) id)
        (returned_counts (h ++ e ∷ []) id)
    keeps h e legal follows k =
        let next = follows-by (standing_of pool h)
        (KeptOut id (world_of pool h) (read_frames pool h id) (returned_counts h id)) e follows
        (kinds (standing_of pool h) id (read_frames pool h id) (returned_counts h id)
        (world-numbered pool h) k) in
        out-is id _ _ _ _ _ _ (ap (λ (s : Standing). s.world) (standing-push pool h e))
        (told-push (of_entry_in read_by id) pool h e) (flat_map-push (of_entry returned_by id) h e)
        next

pub out-counted : OutIsCounted
out-counted pool h legal id port e = (history-out pool id h legal).counted port e
