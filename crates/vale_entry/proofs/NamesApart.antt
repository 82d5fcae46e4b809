-- No two ports that are there bear one name: a name that is taken is refused.
use Rattle.std.proofs.Common.{ℕ, ◌+◌, ◌≡◌, Bool, true, false, cond, not, ◌==◌, List, [], ◌∷◌, ◌++◌, map, filter, length, Option, Some, None, refl, sym, subst, bytes_eq}
use Rattle.std.specs.List.{AllByRecursion as Each}
use Rattle.nm_types.specs.declared.fault.OpenFault.{OpenFault}
use Rattle.nm_types.specs.declared.fault.OpenFault.TheVariants.{BadSize, SwitchesFull, PortsFull, NameTaken}
use Rattle.nm_types.specs.Openings.{finds_switches_full, finds_ports_full, is_same_name, finds_name_taken, open_refusal as names_refusal}
use Rattle.vale_entry.specs.World.{World, Port, free_count, changed_if, changed_at}
use Rattle.vale_entry.specs.Opening.{are_sizes, name_of_port, names_of, refusal_or_room, open_refusal, opened_port}
use Rattle.vale_entry.specs.Grant.{port_after_grant, granted_frames}
use Rattle.vale_entry.specs.Delivery.{port_after_done, port_after_sync}
use Rattle.vale_entry.specs.Closing.{shut}
use Rattle.vale_entry.specs.Pipe.{frames_of_items, port_after_put}
use Rattle.vale_entry.specs.Legal.{Standing, standing_of, world_of, IsLegal, Follows}
use Rattle.vale_entry.specs.declared.entry.Entry.{Entry}
use Rattle.vale_entry.specs.Laws.{IsNamedApart, AreNamedApart, NamesDiffer}
use Rattle.vale_entry.proofs.Each.{each-none, each-append, each-map, each-unmap}
use Rattle.vale_entry.proofs.Removals.{each-filter}
use Rattle.vale_entry.proofs.Worlds.{standing-push}
use Rattle.vale_entry.proofs.Told.{history-by}
use Rattle.vale_entry.proofs.Follows.{EachKind, after-by}

-- why a name is not refused
free-name_by :
    (small full crowded taken : Bool)
    → cond (not small) (Some BadSize)
    (cond full (Some SwitchesFull) (cond crowded (Some PortsFull) (cond taken (Some NameTaken) None)))
    ≡ None
    → taken ≡ false
free-name_by false full crowded taken e = absurd cc
free-name_by true true crowded taken e = absurd cc
free-name_by true false true taken e = absurd cc
free-name_by true false false true e = absurd cc
free-name_by true false false false e = refl

unrefused-name :
    (refusal : Option OpenFault) (want have : ℕ) → refusal_or_room refusal want have ≡ None
    → refusal ≡ None
unrefused-name (Some fault) want have e = absurd cc
unrefused-name None want have e = refl

free-name :
    (w : World) (name : List ℕ) (tx rx extra : ℕ) → open_refusal w name tx rx extra ≡ None
    → Each (λ (p : Port). bytes_eq p.name name ≡ false) w.ports
free-name w name tx rx extra e =
    let names = names_of w.ports in
    let free =
    free-name_by (are_sizes name tx rx extra) (finds_switches_full names name)
    (finds_ports_full names name) (finds_name_taken names name)
    (unrefused-name (names_refusal names name tx rx extra) (tx + rx + extra) (free_count w) e) in
    each-unmap (λ (other : List ℕ). is_same_name name other ≡ false) name_of_port w.ports
    (each-none (is_same_name name) names free)

apart-push :
    (ports : List Port) (new : Port) → AreNamedApart ports
    → Each (λ (p : Port). bytes_eq p.name new.name ≡ false) ports → AreNamedApart (ports ++ new ∷ [])
apart-push [] new k free = (tt, tt)
apart-push (p ∷ ps) new k free =
    (each-append (IsNamedApart p) ps (new ∷ []) k.0 (free.0, tt), apart-push ps new k.1 free.1)

apart-map :
    (change : Port → Port) → ((p : Port) → (change p).name ≡ p.name) → (ports : List Port)
    → AreNamedApart ports → AreNamedApart (map change ports)
apart-map change names [] k = tt
apart-map change names (p ∷ ps) k = (
  each-map (IsNamedApart p) (IsNamedApart (change p)) change
      (λ q here. rw (names p, names q) here) ps k.0,
  apart-map change names ps k.1,
)

apart_if :
    (stays : Bool) (p : Port) (ps rest : List Port) → Each (IsNamedApart p) rest
    → AreNamedApart rest → AreNamedApart (cond stays (p ∷ rest) rest)
apart_if true p ps rest here k = (here, k)
apart_if false p ps rest here k = k

apart-filter :
    (test : Port → Bool) (ports : List Port) → AreNamedApart ports
    → AreNamedApart (filter test ports)
apart-filter test [] k = tt
apart-filter test (p ∷ ps) k =
    apart_if (test p) p ps (filter test ps) (each-filter (IsNamedApart p) test ps k.0)
    (apart-filter test ps k.1)

name_if :
    (hit : Bool) (change : Port → Port) (p : Port) → (change p).name ≡ p.name
    → (changed_if hit change p).name ≡ p.name
name_if true change p same = same
name_if false change p same = refl

apart-changed :
    (id : ℕ) (change : Port → Port) → ((p : Port) → (change p).name ≡ p.name) → (ports : List Port)
    → AreNamedApart ports → AreNamedApart (changed_at id change ports)
apart-changed id change names ports k =
    apart-map (λ (p : Port). changed_if (p.id == id) change p)
    (λ p. name_if (p.id == id) change p (names p)) ports k

abbrev Apart : Standing → Type 0
Apart s = AreNamedApart s.world.ports

apart_kinds : (s : Standing) → Apart s → EachKind s (λ ask made. Apart made.next)
apart_kinds s k = record {
  enters = λ user fits. k;
  quiet = λ ask session reply quiet. k;
  opens = λ session name tx rx extra can refusal.
      apart-push s.world.ports (opened_port (s.world.entry_count + 1) session.0 name tx rx extra) k
      (free-name s.world name tx rx extra refusal);
  sends = λ from frames port e can settled. k;
  grants =
      λ origin to offer first same.
      apart-changed offer.to
      (port_after_grant (s.world.entry_count + 1) offer.session (granted_frames s.world offer))
      (λ p. refl) s.world.ports k;
  completes = λ lease lot e. apart-map (port_after_done lease.0) (λ p. refl) s.world.ports k;
  receives =
      λ ask at back port receives e can. apart-changed port.id (port_after_sync (length back))
      (λ p. refl) s.world.ports k;
  puts = λ at offered items port peer e can found.
      apart-changed peer.id
      (port_after_put (s.world.entry_count + 1) port.session (frames_of_items items)) (λ p. refl)
      s.world.ports k;
  watches = λ at target sides port found e can there none. k;
  shuts = λ at port e settled. apart-changed port.id shut (λ p. refl) s.world.ports k;
  finishes =
      λ at bufs chain port fits e can out. apart-filter (λ (p : Port). not (p.id == port.id))
      s.world.ports k;
  leaves = λ session can. k;
}

pub names-differ : NamesDiffer
names-differ pool h legal =
    history-by pool (λ (h : List Entry). AreNamedApart (world_of pool h).ports) keeps tt h legal
  where
    keeps :
        (h : List Entry) (e : Entry) → IsLegal pool h → Follows (standing_of pool h) e
        → AreNamedApart (world_of pool h).ports → AreNamedApart (world_of pool (h ++ e ∷ [])).ports
    keeps h e legal follows k =
        subst (λ (s : Standing). Apart s) (sym (standing-push pool h e))
        (after-by (standing_of pool h) Apart e k (apart_kinds (standing_of pool h) k))
