-- A lot that is not done stands at the port to which the entry of its number granted it.
use Rattle.std.proofs.Common.{ℕ, zero, suc, ◌+◌, ◌-◌, ◌≡◌, Bool, true, false, not, ◌==◌, List, [], ◌∷◌, ◌++◌, length, Option, Some, None, refl, sym, ◌∙◌, ap, subst, arith, slice_get}
use Rattle.std.specs.List.{AllByRecursion as Each}
use Rattle.std.proofs.lemmas.Bool.{eqb-true, eq-eqb}
use Rattle.nm_types.specs.Frames.{Frame}
use Rattle.vale_entry.specs.declared.entry.Ask.TheVariants.{Grant}
use Rattle.vale_entry.specs.declared.entry.Entry.{Entry}
use Rattle.vale_entry.specs.World.{Port, Lot, changed_at, changed_if}
use Rattle.vale_entry.specs.Opening.{opened_port}
use Rattle.vale_entry.specs.Grant.{with_lot, port_after_grant, granted_frames}
use Rattle.vale_entry.specs.Delivery.{done_if, lot_after_done, port_after_done, port_after_sync, ready_lots}
use Rattle.vale_entry.specs.Closing.{shut}
use Rattle.vale_entry.specs.Pipe.{frames_of_items, port_after_put}
use Rattle.vale_entry.specs.Legal.{Standing, standing_of, world_of, is_met, grant_step, IsLegal, Follows}
use Rattle.vale_entry.proofs.Each.{each-weaker, each-append, each-map, each-drop}
use Rattle.vale_entry.proofs.Removals.{each-filter}
use Rattle.vale_entry.proofs.Worlds.{standing-push, count-world_of}
use Rattle.vale_entry.proofs.Told.{history-by}
use Rattle.vale_entry.proofs.Follows.{EachKind, Left, entry_made, follows-by}
use Rattle.vale_book.specs.Leases.{WasGranted, is_grant_to}

abbrev pub IsPlaced : List Entry → ℕ → Lot → Type 0
IsPlaced h id lot = lot.is_done ≡ false → WasGranted h lot.number id

abbrev pub HasPlaced : List Entry → Port → Type 0
HasPlaced h port = Each (IsPlaced h port.id) port.line

get-before : (h : List Entry) (e x : Entry) (i : ℕ) → slice_get h i ≡ Some x → slice_get (h ++ e ∷ []) i ≡ Some x
get-before [] e x i is = absurd cc
get-before (y ∷ ys) e x zero is = is
get-before (y ∷ ys) e x (suc i) is = get-before ys e x i is

pub get-last : (h : List Entry) (e : Entry) → slice_get (h ++ e ∷ []) (length h) ≡ Some e
get-last [] e = refl
get-last (y ∷ ys) e = get-last ys e

-- an entry that passes a test is there
pub met-there : (test : Entry → Bool) (found : Option Entry) → is_met test found ≡ true → (x : Entry) × (found ≡ Some x) × (test x ≡ true)
met-there test None is = absurd cc
met-there test (Some x) is = (x, refl, is)

granted-later : (h : List Entry) (e : Entry) (number id : ℕ) → WasGranted h number id → WasGranted (h ++ e ∷ []) number id
granted-later h e number id was =
    let x = met-there (is_grant_to id) (slice_get h (number - 1)) was in
    ap (is_met (is_grant_to id)) (get-before h e x.0 (number - 1) x.1) ∙ x.2

placed-later : (h : List Entry) (e : Entry) (ports : List Port) → Each (HasPlaced h) ports → Each (HasPlaced (h ++ e ∷ [])) ports
placed-later h e ports all =
    each-weaker (HasPlaced h) (HasPlaced (h ++ e ∷ [])) (λ p lots. each-weaker (IsPlaced h p.id) (IsPlaced (h ++ e ∷ []) p.id)
    (λ lot k undone. granted-later h e lot.number p.id (k undone)) p.line lots) ports all

with-lot : (h : List Entry) (id number session : ℕ) (done : Bool) (frames : List Frame) (line : List Lot) → (done ≡ false → WasGranted h number id)
    → Each (IsPlaced h id) line → Each (IsPlaced h id) (with_lot number session done frames line)
with-lot h id number session done [] line new all = all
with-lot h id number session done (frame ∷ frames) line new all = each-append (IsPlaced h id) line _ all (new, tt)

done-of : (h : List Entry) (id : ℕ) (b : Bool) (lot : Lot) → IsPlaced h id lot → IsPlaced h id (done_if b lot)
done-of h id true lot k = λ undone. absurd cc
done-of h id false lot k = k

changed : (h : List Entry) (id : ℕ) (change : Port → Port) → ((p : Port) → p.id ≡ id → HasPlaced h p → HasPlaced h (change p))
    → (ports : List Port) → Each (HasPlaced h) ports → Each (HasPlaced h) (changed_at id change ports)
changed h id change keeps ports all =
    each-map (HasPlaced h) (HasPlaced h) (λ (p : Port). changed_if (p.id == id) change p) (λ p here. by p (p.id == id) refl here) ports all
  where
    by : (p : Port) (b : Bool) → (p.id == id) ≡ b → HasPlaced h p → HasPlaced h (changed_if b change p)
    by p true t here = keeps p (eqb-true p.id id t) here
    by p false t here = here

abbrev Places : List Entry → Entry → Standing → Type 0
Places h e left = Each (HasPlaced (h ++ e ∷ [])) left.world.ports

module _ (s : Standing) (h : List Entry) (size : s.world.entry_count ≡ length h) (k : Each (HasPlaced h) s.world.ports) where
  later : (e : Entry) → Each (HasPlaced (h ++ e ∷ [])) s.world.ports
  later e = placed-later h e s.world.ports k

  granted-here : (e : Entry) (id : ℕ) → is_grant_to id e ≡ true → WasGranted (h ++ e ∷ []) (s.world.entry_count + 1) id
  granted-here e id is =
      let place : s.world.entry_count + 1 - 1 ≡ length h = omega (arith, size) in
      ap (is_met (is_grant_to id)) (ap (slice_get (h ++ e ∷ [])) place ∙ get-last h e) ∙ is

  kinds : EachKind s (Left s (Places h))
  kinds = record {
    enters = λ user fits. later _;
    quiet = λ ask session reply quiet. later _;
    opens = λ session name tx rx extra can refusal.
        each-append (HasPlaced (h ++ _ ∷ [])) s.world.ports (opened_port (s.world.entry_count + 1) session.0 name tx rx extra ∷ []) (later _) (tt, tt);
    sends = λ from frames port e can settled. later _;
    grants = λ origin to offer first same.
        let e : Entry = entry_made (Grant origin to) (grant_step s offer) in
        changed (h ++ e ∷ []) offer.to (port_after_grant (s.world.entry_count + 1) offer.session (granted_frames s.world offer))
        (λ p is all. with-lot (h ++ e ∷ []) p.id (s.world.entry_count + 1) offer.session false (granted_frames s.world offer) p.line
        (λ undone. granted-here e p.id (eq-eqb to.0 p.id (sym same ∙ sym is))) all) s.world.ports (later e);
    completes = λ lease lot is.
        each-map (HasPlaced (h ++ _ ∷ [])) (HasPlaced (h ++ _ ∷ [])) (port_after_done lease.0)
        (λ p all. each-map (IsPlaced (h ++ _ ∷ []) p.id) (IsPlaced (h ++ _ ∷ []) p.id) (lot_after_done lease.0) (λ l here. done-of (h ++ _ ∷ []) p.id (l.number == lease.0) l here) p.line all)
        s.world.ports (later _);
    receives = λ ask at back port receives is can.
        changed (h ++ _ ∷ []) port.id (port_after_sync (length back)) (λ p same all. each-drop (IsPlaced (h ++ _ ∷ []) p.id) (length (ready_lots p)) p.line all) s.world.ports (later _);
    puts = λ at offered items port peer is can found.
        changed (h ++ _ ∷ []) peer.id (port_after_put (s.world.entry_count + 1) port.session (frames_of_items items))
        (λ p same all. with-lot (h ++ _ ∷ []) p.id (s.world.entry_count + 1) port.session true (frames_of_items items) p.line (λ undone. absurd cc) all) s.world.ports (later _);
    watches = λ at target sides port found is can there none. later _;
    shuts = λ at port is settled. changed (h ++ _ ∷ []) port.id shut (λ p same all. all) s.world.ports (later _);
    finishes = λ at bufs chain port fits is can out. each-filter (HasPlaced (h ++ _ ∷ [])) (λ (p : Port). not (p.id == port.id)) s.world.ports (later _);
    leaves = λ session can. later _;
  }

pub lots-placed : (pool : ℕ) (h : List Entry) → IsLegal pool h → Each (HasPlaced h) (world_of pool h).ports
lots-placed pool h legal = history-by pool (λ (h : List Entry). Each (HasPlaced h) (world_of pool h).ports) keeps tt h legal
  where
    keeps : (h : List Entry) (e : Entry) → IsLegal pool h → Follows (standing_of pool h) e → Each (HasPlaced h) (world_of pool h).ports
        → Each (HasPlaced (h ++ e ∷ [])) (world_of pool (h ++ e ∷ [])).ports
    keeps h e legal follows k =
        let s = standing_of pool h in
        subst (λ (t : Standing). Each (HasPlaced (h ++ e ∷ [])) t.world.ports) (sym (standing-push pool h e))
        (follows-by s (Places h) e follows (kinds s h (count-world_of pool h) k))
