-- What the exchange of a push that no check refuses makes of a session's places: they hold the same
-- buffers, and each place pushed holds the one that its slot names.
use Rattle.std.proofs.Common.{ℕ, ◌<◌, ◌≤◌, ◌≡◌, Bool, true, false, cond, ◌==◌, nat_eq, List, [], ◌∷◌, map, fold, flat_map, length, Option, Some, None, option_map, refl, sym, ◌∙◌, ap, ap₂, arith}
use Rattle.std.specs.Option.{option_map_or}
use Rattle.std.specs.List.{AllByRecursion as Each, IsDistinct, list_all}
use Rattle.std.proofs.lemmas.Bool.{and_parts}
use Rattle.nm_types.specs.declared.id.Side.{Side}
use Rattle.nm_types.specs.declared.refusal.RingFault.{RingFault}
use Rattle.nm_types.specs.declared.refusal.RingFault.TheVariants.{HeadOut, CurOut}
use Rattle.nm_types.specs.SyncFaults.{ring_sync_fault}
use Rattle.nm_types.specs.Positions.{RingState, IsRing, FitsRing, dist, step_on, pushed_slots}
use Rattle.nm_types.specs.Slots.{Pushed, pushed_names}
use Rattle.nm_types.specs.SyncChecks.{is_beyond, ring_refusal, slots_refusal, contains_index, EachPasses}
use Rattle.nm_types.specs.OwnPorts.{OwnRing, OwnPort, OwnState, ring_on, ring_at, buffers_in, named_of, index_of, buffer_in, port_with_id, pushed_at, pushed_in, is_whole, refusal_in}
use Rattle.nm_types.specs.OwnSyncs.{buffer_on, after_slot, after_exchange}
use Rattle.nm_types.proofs.RingChecks.{Fits-from_beyond}
use Rattle.nm_types.proofs.RingSteps.{dist-below, step_on-below, slots_from-distinct}
use Rattle.nm_types.proofs.SlotChecks.{first_none, later_none, EachPasses-from_none, NamesOnce-from_passes}
use Rattle.vale_entry.specs.Holdings.{contains}
use Rattle.vale_entry.proofs.Counting.{count_of}
use Rattle.vale_entry.proofs.Each.{each-find}
use Rattle.vale_own.specs.Side.{buffers_on, IsSoundPort, IsSound}
use Rattle.vale_own.proofs.Renaming.{renamed, Renames, renames, renamed-names}
use Rattle.vale_own.proofs.Trading.{port_renamed, buffers-renamed, buffer-renamed, exchange-whole}
use Rattle.vale_own.proofs.SidePlaces.{each-slot, distinct-mapped, ring-sound, user-place, in-port, in-ports, all-named-counted, place-named, named-in-ports, positions-differ}

-- positions that no check refuses fit
pub ring-passes : (ring : RingState) → ring_refusal ring ring.head ring.cur ≡ None → FitsRing ring ring.head ring.cur
ring-passes ring e = by (is_beyond ring.size ring.accepted_head ring.last_tail ring.head) (is_beyond ring.size ring.head ring.last_tail ring.cur) refl refl e
  where
    by : (a b : Bool) → is_beyond ring.size ring.accepted_head ring.last_tail ring.head ≡ a → is_beyond ring.size ring.head ring.last_tail ring.cur ≡ b
        → cond a (Some (HeadOut ring.head ring.accepted_head ring.last_tail)) (cond b (Some (CurOut ring.cur ring.head ring.last_tail)) None) ≡ None → FitsRing ring ring.head ring.cur
    by true b is other h = absurd cc
    by false true is other h = absurd cc
    by false false is other h = Fits-from_beyond ring.size ring.accepted_head ring.last_tail ring.head ring.cur is other

ring-none : (o : Option RingFault) → option_map ring_sync_fault o ≡ None → o ≡ None
ring-none None e = refl
ring-none (Some fault) e = absurd cc

pub sync-fits : (side : Side) (s : OwnState) (p : OwnPort) (r : OwnRing) → refusal_in side s p r ≡ None → FitsRing r.ring r.ring.head r.ring.cur
sync-fits side s p r e =
    ring-passes r.ring (ring-none (ring_refusal r.ring r.ring.head r.ring.cur) (first_none (option_map ring_sync_fault (ring_refusal r.ring r.ring.head r.ring.cur)) (slots_refusal side (is_whole p) s.pool (named_of s) [] 0 (pushed_in side r)) e))

pub sync-passes : (side : Side) (s : OwnState) (p : OwnPort) (r : OwnRing) → refusal_in side s p r ≡ None → EachPasses side (is_whole p) s.pool (named_of s) [] 0 (pushed_in side r)
sync-passes side s p r e =
    EachPasses-from_none side (is_whole p) s.pool (named_of s) [] 0 (pushed_in side r) (later_none (option_map ring_sync_fault (ring_refusal r.ring r.ring.head r.ring.cur)) (slots_refusal side (is_whole p) s.pool (named_of s) [] 0 (pushed_in side r)) e)

-- what holds of each pushed slot, by its position
each-pushed : (side : Side) (r : OwnRing) (P : Pushed → Type 0) → (ats : List ℕ) → Each (λ (at : ℕ). P (pushed_at side r at)) ats → Each P (map (pushed_at side r) ats)
each-pushed side r P [] all = tt
each-pushed side r P (at ∷ ats) all = (all.0, each-pushed side r P ats all.1)

each-named : (named : List ℕ) (pushed : List Pushed) → list_all (contains_index named) (pushed_names pushed) ≡ true → Each (λ (x : Pushed). contains x.slot.buf_idx named ≡ true) pushed
each-named named [] e = tt
each-named named (x ∷ pushed) e = let parts = and_parts (contains_index named x.slot.buf_idx) (list_all (contains_index named) (pushed_names pushed)) e in (parts.0, each-named named pushed parts.1)

was-mapped : (side : Side) (r : OwnRing) (ats : List ℕ) → map (λ (x : Pushed). x.was) (map (pushed_at side r) ats) ≡ map (buffer_in side r) ats
was-mapped side r [] = refl
was-mapped side r (at ∷ ats) = ap (λ (bs : List ℕ). buffer_in side r at ∷ bs) (was-mapped side r ats)

names-mapped : (g : ℕ → ℕ) (pushed : List Pushed) → Each (λ (x : Pushed). g x.was ≡ x.slot.buf_idx) pushed → map g (map (λ (x : Pushed). x.was) pushed) ≡ pushed_names pushed
names-mapped g [] all = refl
names-mapped g (x ∷ pushed) all = ap₂ (λ (b : ℕ) (bs : List ℕ). b ∷ bs) all.0 (names-mapped g pushed all.1)

-- a push that no check refuses, at a ring of a port that is found
module _ (side : Side) (id : ℕ) (s : OwnState) (p : OwnPort) (r : OwnRing) (sound : IsSound s) (once : (b : ℕ) → count_of b (buffers_on s) ≤ 1) (found : port_with_id s id ≡ Some p) (has : ring_on side p ≡ Some r) (passes : refusal_in side s p r ≡ None) where
  abbrev pub named : ℕ → Bool
  named b = contains b (named_of s)

  abbrev pub pushed : List Pushed
  pushed = pushed_in side r

  -- what each buffer is renamed to
  abbrev pub traded : ℕ → ℕ
  traded = renamed (λ (x : ℕ). x) pushed

  pub sound-port : IsSoundPort p
  sound-port = each-find IsSoundPort (λ (q : OwnPort). q.id.0 == id) s.ports p sound.each found

  pub positions : IsRing r.ring
  positions = ring-sound side p r sound-port has

  pub fits : FitsRing r.ring r.ring.head r.ring.cur
  fits = sync-fits side s p r passes

  pub once-held : (b : ℕ) → count_of b r.held ≤ 1
  once-held b = let one = once b in let two = in-ports id s.ports p b found in let three = in-port side p r b has in omega (arith, one, two, three)

  -- a pushed position is the user's
  abbrev IsUsers : ℕ → Type 0
  IsUsers at = (at < r.ring.size) × (index_of side r.ring at < length r.held) × (named (buffer_in side r at) ≡ true)

  users : Each IsUsers (pushed_slots r.ring r.ring.head)
  users = each-slot IsUsers r.ring.size r.ring.accepted_head (dist r.ring.size r.ring.accepted_head r.ring.head) (λ k below.
      let reach = fits.head_reach in
      let less : k < dist r.ring.size r.ring.accepted_head r.ring.last_tail = omega (arith, below, reach) in (
        step_on-below r.ring.size r.ring.accepted_head k positions.accepted,
        user-place side p r k sound-port has less,
        named-in-ports id s.ports p (buffer_in side r (step_on r.ring.size r.ring.accepted_head k)) found (place-named side p r k sound-port has less),
      ))

  each-was : Each (λ (x : Pushed). named x.was ≡ true) pushed
  each-was = each-pushed side r (λ (x : Pushed). named x.was ≡ true) (pushed_slots r.ring r.ring.head) (weaker (pushed_slots r.ring r.ring.head) users)
    where
      weaker : (ats : List ℕ) → Each IsUsers ats → Each (λ (at : ℕ). named (buffer_in side r at) ≡ true) ats
      weaker [] all = tt
      weaker (at ∷ ats) all = (all.0.2, weaker ats all.1)

  each-there : Each (λ (x : Pushed). (f : ℕ → ℕ) → buffer_on side id (map (port_renamed f) s.ports) x.at ≡ f x.was) pushed
  each-there = each-pushed side r (λ (x : Pushed). (f : ℕ → ℕ) → buffer_on side id (map (port_renamed f) s.ports) x.at ≡ f x.was) (pushed_slots r.ring r.ring.head) (there (pushed_slots r.ring r.ring.head) users)
    where
      there : (ats : List ℕ) → Each IsUsers ats → Each (λ (at : ℕ). (f : ℕ → ℕ) → buffer_on side id (map (port_renamed f) s.ports) at ≡ f (buffer_in side r at)) ats
      there [] all = tt
      there (at ∷ ats) all = ((λ f. buffer-renamed side id at s.ports p r f found has all.0.1), there ats all.1)

  wases : IsDistinct nat_eq (map (λ (x : Pushed). x.was) pushed)
  wases =
      let within = dist-below r.ring.size r.ring.accepted_head r.ring.head positions.accepted in
      let ats = slots_from-distinct r.ring.size r.ring.accepted_head (dist r.ring.size r.ring.accepted_head r.ring.head) positions.accepted (omega arith) in
      rw (was-mapped side r (pushed_slots r.ring r.ring.head))
      (distinct-mapped (buffer_in side r) IsUsers (λ x y first second same. positions-differ side p r x y sound-port has once-held first.0 second.0 first.1 second.1 same) (pushed_slots r.ring r.ring.head) users ats)

  names : IsDistinct nat_eq (pushed_names pushed)
  names = (NamesOnce-from_passes side (is_whole p) s.pool (named_of s) [] 0 pushed (sync-passes side s p r passes)).distinct

  each-name : Each (λ (x : Pushed). named x.slot.buf_idx ≡ true) pushed
  each-name = each-named (named_of s) pushed (NamesOnce-from_passes side (is_whole p) s.pool (named_of s) [] 0 pushed (sync-passes side s p r passes)).held

  pub trades : Renames named (buffers_on s) traded
  trades = renames named (buffers_on s) once (λ b is. all-named-counted s.ports b sound.each is) (λ (x : ℕ). x) pushed nothing each-was each-name
    where
      same : (xs : List ℕ) → map (λ (x : ℕ). x) xs ≡ xs
      same [] = refl
      same (x ∷ xs) = ap (λ (ys : List ℕ). x ∷ ys) (same xs)

      nothing : Renames named (buffers_on s) (λ (x : ℕ). x)
      nothing = record { apart = λ x y e. e; counts = λ b. ap (count_of b) (same (buffers_on s)); stays = λ b is. is; fixed = λ b not. refl }

  pub each-holds : Each (λ (x : Pushed). traded x.was ≡ x.slot.buf_idx) pushed
  each-holds = renamed-names (λ (x : ℕ). x) pushed (λ x y e. e) wases names

  pub holds-names : map traded (map (buffer_in side r) (pushed_slots r.ring r.ring.head)) ≡ pushed_names pushed
  holds-names = ap (map traded) (sym (was-mapped side r (pushed_slots r.ring r.ring.head))) ∙ names-mapped traded pushed each-holds

  pub exchanged-ports : (after_exchange side id s).ports ≡ map (port_renamed traded) s.ports
  exchanged-ports = ap (λ (o : Option OwnRing). fold (after_slot side id) s.ports (option_map_or (pushed_in side) o [])) at ∙ exchange-whole side id s.ports pushed each-there
    where
      at : ring_at side s id ≡ Some r
      at = rw found has

  pub exchanged-counts : (b : ℕ) → count_of b (flat_map buffers_in (after_exchange side id s).ports) ≡ count_of b (buffers_on s)
  exchanged-counts b = ap (λ (ports : List OwnPort). count_of b (flat_map buffers_in ports)) exchanged-ports ∙ (ap (count_of b) (buffers-renamed traded s.ports) ∙ trades.counts b)
