-- Each lot bears the number of the entry of its session that brought it.
use Rattle.std.proofs.Common.{ℕ, zero, suc, ◌+◌, ◌-◌, ◌≡◌, Bool, true, false, not, ◌==◌, List, [], ◌∷◌, ◌++◌, length, Some, refl, sym, ◌∙◌, ap, subst, arith, slice_get}
use Rattle.std.specs.List.{AllByRecursion as Each}
use Rattle.nm_types.specs.Frames.{Frame}
use Rattle.vale_entry.specs.declared.entry.Ask.TheVariants.{Grant, PutKept}
use Rattle.vale_entry.specs.declared.entry.Entry.{Entry}
use Rattle.vale_entry.specs.World.{Port, Lot, changed_at}
use Rattle.vale_entry.specs.Opening.{opened_port}
use Rattle.vale_entry.specs.Grant.{with_lot, port_after_grant, granted_frames}
use Rattle.vale_entry.specs.Delivery.{done_if, lot_after_done, port_after_done, port_after_sync, ready_lots}
use Rattle.vale_entry.specs.Closing.{shut}
use Rattle.vale_entry.specs.Pipe.{frames_of_items, port_after_put}
use Rattle.vale_entry.specs.Legal.{Standing, standing_of, world_of, grant_step, put_step, IsLegal, Follows}
use Rattle.vale_entry.specs.Laws.{IsOfEntry, LotsAreOfEntries, brings_lot, is_grant}
use Rattle.vale_entry.proofs.Each.{each-weaker, each-append, each-map, each-drop, each-changed_at}
use Rattle.vale_entry.proofs.Removals.{each-filter}
use Rattle.vale_entry.proofs.Worlds.{standing-push, count-world_of}
use Rattle.vale_entry.proofs.Told.{history-by}
use Rattle.vale_entry.proofs.Follows.{EachKind, Left, entry_made, follows-by}

abbrev AreOf : List Entry → List Port → Type 0
AreOf h ports = Each (λ (p : Port). Each (IsOfEntry h) p.line) ports

-- the entries before stay, and the new one stands behind them
get-before :
    (h : List Entry) (e x : Entry) (i : ℕ) → slice_get h i ≡ Some x
    → slice_get (h ++ e ∷ []) i ≡ Some x
get-before [] e x i is = absurd cc
get-before (y ∷ ys) e x zero is = is
get-before (y ∷ ys) e x (suc i) is = get-before ys e x i is

get-last : (h : List Entry) (e : Entry) → slice_get (h ++ e ∷ []) (length h) ≡ Some e
get-last [] e = refl
get-last (y ∷ ys) e = get-last ys e

of-later :
    (h : List Entry) (e : Entry) (ports : List Port) → AreOf h ports → AreOf (h ++ e ∷ []) ports
of-later h e ports all =
    each-weaker (λ (p : Port). Each (IsOfEntry h) p.line)
    (λ (p : Port). Each (IsOfEntry (h ++ e ∷ [])) p.line)
    (λ p lots. each-weaker (IsOfEntry h) (IsOfEntry (h ++ e ∷ []))
    (λ lot k. record {
      entry = k.entry;
      counted = k.counted;
      here = get-before h e k.entry (lot.number - 1) k.here;
      session = k.session;
      brings = k.brings;
      leased = k.leased;
    }) p.line lots) ports all

with-lot :
    (h : List Entry) (number session : ℕ) (done : Bool) (frames : List Frame) (line : List Lot)
    →
    ((more : List Frame)
    → IsOfEntry h (record { number = number; session = session; frames = more; is_done = done }))
    → Each (IsOfEntry h) line → Each (IsOfEntry h) (with_lot number session done frames line)
with-lot h number session done [] line new all = all
with-lot h number session done (frame ∷ frames) line new all =
    each-append (IsOfEntry h) line _ all (new (frame ∷ frames), tt)

done-of : (h : List Entry) (b : Bool) (lot : Lot) → IsOfEntry h lot → IsOfEntry h (done_if b lot)
done-of h true lot k = record {
  entry = k.entry;
  counted = k.counted;
  here = k.here;
  session = k.session;
  brings = k.brings;
  leased = λ undone. absurd cc;
}
done-of h false lot k = k

abbrev Brings : List Entry → Entry → Standing → Type 0
Brings h e left = AreOf (h ++ e ∷ []) left.world.ports

module _ (s : Standing) (h : List Entry) (size : s.world.entry_count ≡ length h)
    (k : AreOf h s.world.ports) where
  abbrev ports : List Port
  ports = s.world.ports

  changed : (e : Entry) (id : ℕ) (change : Port → Port)
      →
      ((p : Port) → Each (IsOfEntry (h ++ e ∷ [])) p.line
      → Each (IsOfEntry (h ++ e ∷ [])) (change p).line)
      → AreOf (h ++ e ∷ []) (changed_at id change ports)
  changed e id change keeps =
      each-changed_at (λ (p : Port). Each (IsOfEntry (h ++ e ∷ [])) p.line)
      (λ (p : Port). Each (IsOfEntry (h ++ e ∷ [])) p.line) id change
      (λ p all. all) keeps ports (of-later h e ports k)

  here-is : (e : Entry) → slice_get (h ++ e ∷ []) (s.world.entry_count + 1 - 1) ≡ Some e
  here-is e =
      let place : s.world.entry_count + 1 - 1 ≡ length h = omega (arith, size) in
      ap (slice_get (h ++ e ∷ [])) place ∙ get-last h e

  of-now :
      (e : Entry) (session : ℕ) (done : Bool) (frames : List Frame) → e.session.0 ≡ session
      → brings_lot e.ask ≡ true → (done ≡ false → is_grant e.ask ≡ true)
      → IsOfEntry (h ++ e ∷ [])
      (record { number = s.world.entry_count + 1; session = session; frames = frames; is_done = done })
  of-now e session done frames mine brings leased = record {
    entry = e;
    counted = omega arith;
    here = here-is e;
    session = mine;
    brings = brings;
    leased = leased;
  }

  kinds : EachKind s (Left s (Brings h))
  kinds = record {
    enters = λ user fits. of-later h _ ports k;
    quiet = λ ask session reply quiet. of-later h _ ports k;
    opens = λ session name tx rx extra can refusal.
        each-append (λ (p : Port). Each (IsOfEntry (h ++ _ ∷ [])) p.line) ports
        (opened_port (s.world.entry_count + 1) session.0 name tx rx extra ∷ [])
        (of-later h _ ports k) (tt, tt);
    sends = λ from frames port e can settled. of-later h _ ports k;
    grants = λ origin to offer first same.
        let e : Entry = entry_made (Grant origin to) (grant_step s offer) in
        changed e offer.to
        (port_after_grant (s.world.entry_count + 1) offer.session (granted_frames s.world offer))
        (λ p all.
        with-lot (h ++ e ∷ []) (s.world.entry_count + 1) offer.session false
        (granted_frames s.world offer) p.line
        (λ more. of-now e offer.session false more refl refl (λ undone. refl)) all);
    completes = λ lease lot is.
        each-map (λ (p : Port). Each (IsOfEntry (h ++ _ ∷ [])) p.line)
        (λ (p : Port). Each (IsOfEntry (h ++ _ ∷ [])) p.line) (port_after_done lease.0)
        (λ p all.
        each-map (IsOfEntry (h ++ _ ∷ [])) (IsOfEntry (h ++ _ ∷ [])) (lot_after_done lease.0)
        (λ l here. done-of (h ++ _ ∷ []) (l.number == lease.0) l here) p.line all)
        ports (of-later h _ ports k);
    receives = λ ask at back port receives is can.
        changed _ port.id (port_after_sync (length back))
        (λ p all. each-drop (IsOfEntry (h ++ _ ∷ [])) (length (ready_lots p)) p.line all);
    puts = λ at offered items port peer is can found.
        let e : Entry = entry_made (PutKept at offered) (put_step s items port peer) in
        changed e peer.id
        (port_after_put (s.world.entry_count + 1) port.session (frames_of_items items))
        (λ p all.
        with-lot (h ++ e ∷ []) (s.world.entry_count + 1) port.session true (frames_of_items items)
        p.line
        (λ more. of-now e port.session true more refl refl (λ undone. absurd cc)) all);
    watches = λ at target sides port found is can there none. of-later h _ ports k;
    shuts = λ at port is settled. changed _ port.id shut (λ p all. all);
    finishes = λ at bufs chain port fits is can out.
        each-filter (λ (p : Port). Each (IsOfEntry (h ++ _ ∷ [])) p.line)
        (λ (p : Port). not (p.id == port.id)) ports (of-later h _ ports k);
    leaves = λ session can. of-later h _ ports k;
  }

pub lots-of_entries : LotsAreOfEntries
lots-of_entries pool h legal =
    history-by pool (λ (h : List Entry). AreOf h (world_of pool h).ports) keeps tt h legal
  where
    keeps :
        (h : List Entry) (e : Entry) → IsLegal pool h → Follows (standing_of pool h) e
        → AreOf h (world_of pool h).ports
        → AreOf (h ++ e ∷ []) (world_of pool (h ++ e ∷ [])).ports
    keeps h e legal follows k =
        let s = standing_of pool h in
        subst (λ (t : Standing). AreOf (h ++ e ∷ []) t.world.ports) (sym (standing-push pool h e))
        (follows-by s (Brings h) e follows (kinds s h (count-world_of pool h) k))
