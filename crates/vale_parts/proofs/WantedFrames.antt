-- The frames that a port wants of a batch stand at its places, and its sizes are their slots.
use Rattle.std.proofs.Common.{ℕ, zero, suc, Bool, true, false, cond, not, ◌≡◌, ◌+◌, List, [], ◌∷◌, length, map, filter, drop, slice_get, Option, Some, refl, sym, ◌∙◌, ap, arith, ◌==◌, ◌&&◌, ◌||◌}
use Rattle.std.specs.List.{AllByRecursion as Each, range_with_len}
use Rattle.std.proofs.lemmas.Bool.{or_from, or_right, false_from_ne_true}
use Rattle.nm_types.specs.Frames.{Frame, slots_of}
use Rattle.nm_types.specs.Names.{switch_of}
use Rattle.nm_types.proofs.Tests.{or_none}
use Rattle.vale_batch.specs.declared.looking.Destination.{Destination as Lookup}
use Rattle.vale_batch.specs.declared.looking.Destination.TheVariants as lookups
use Rattle.vale_batch.specs.declared.looking.Looked.{Looked}
use Rattle.vale_batch.specs.Wants.{is_for, goes_to, places_from, size_of}
use Rattle.vale_entry.specs.World.{Port}
use Rattle.vale_entry.specs.Lookup.{Destination, Named, is_named}
use Rattle.vale_entry.specs.Offers.{is_monitor, is_wanted_at, frame_of, wanted_frames}
use Rattle.vale_parts.specs.Ids.{port_id, id_of_port}
use Rattle.vale_parts.specs.SwitchPorts.{is_open_on}
use Rattle.vale_parts.specs.Batches.{named_as, IsLookedAs, AreLookedAs}
use Rattle.vale_parts.proofs.Lookups.{NamesOpen}

-- what stands at a place, and what is behind it
pub record IsFront {X : Type 0} (xs : List X) (n : ℕ) (x : X) (rest : List X) : Type 0 where
  pub here : slice_get xs n ≡ Some x
  pub behind : drop (n + 1) xs ≡ rest

pub drop-front : {X : Type 0} (xs : List X) (n : ℕ) (x : X) (rest : List X) → drop n xs ≡ x ∷ rest → IsFront xs n x rest
drop-front [] zero x rest e = absurd cc
drop-front [] (suc n) x rest e = absurd cc
drop-front (y ∷ ys) zero x rest e = record { here = cc; behind = cc }
drop-front (y ∷ ys) (suc n) x rest e =
    let later = drop-front ys n x rest e in
    let next : suc n + 1 ≡ suc (n + 1) = omega arith in
    record { here = later.here; behind = rw next (later.behind) }

pub both-cons : {X : Type 0} (x y : X) (xs ys : List X) → x ≡ y → xs ≡ ys → x ∷ xs ≡ y ∷ ys
both-cons x y xs ys head tail = ap (λ z. z ∷ xs) head ∙ ap (λ zs. y ∷ zs) tail

-- all frames, at all places
pub all-places : (whole : List Frame) (first : ℕ) (rest : List Frame) → drop first whole ≡ rest → map (slice_get whole) (range_with_len first (length rest)) ≡ map Some rest
all-places whole first [] e = refl
all-places whole first (frame ∷ rest) e =
    let front = drop-front whole first frame rest e in
    both-cons (slice_get whole first) (Some frame) (map (slice_get whole) (range_with_len (first + 1) (length rest))) (map Some rest) front.here (all-places whole (first + 1) rest front.behind)

-- the frames of a port, their places and sizes
pub record AreWanted (whole : List Frame) (places sizes : List ℕ) (frames : List Frame) : Type 0 where
  pub places_are : map (slice_get whole) places ≡ map Some frames
  pub sizes_are : sizes ≡ map slots_of frames

module _ (sender : Port) where
  goes_by : (port : Port) (d : Lookup) → is_open_on (switch_of sender.name) port ≡ true → is_for (port_id sender.id) d (id_of_port port) ≡ is_named sender (named_as d) port
  goes_by port lookups.Short up = refl
  goes_by port lookups.Nobody up = refl
  goes_by port (lookups.Only to) up = sym (or_none (port.id == to.0))
  goes_by port lookups.Others up = sym (one_more (not (port.id == sender.id)) (is_open_on (switch_of sender.name) port) up)
    where
      one_more : (a b : Bool) → b ≡ true → (a && b) ≡ a
      one_more true b t = t
      one_more false b t = refl

  goes_same : (monitor : Option ℕ) (port : Port) (looked : Looked) (named : Named) → is_open_on (switch_of sender.name) port ≡ true → is_monitor monitor port ≡ false → IsLookedAs looked named
      → goes_to (port_id sender.id) (id_of_port port) looked ≡ is_wanted_at sender monitor port named
  goes_same monitor port looked named up other same =
      goes_by port looked.destination up
      ∙ (ap (λ (d : Destination). is_named sender d port) same.destination ∙ sym (alone (is_named sender named.destination port) (is_monitor monitor port) other))
    where
      alone : (a b : Bool) → b ≡ false → (a || b) ≡ a
      alone true b t = refl
      alone false b t = t

  step_by : (whole : List Frame) (first : ℕ) (places sizes : List ℕ) (looked : Looked) (named : Named) (ns : List Named) (ls : List Looked) (b c : Bool) → b ≡ c → slice_get whole first ≡ Some named.frame → looked.size ≡ slots_of named.frame
      → AreWanted whole places (map size_of ls) (map frame_of ns)
      → AreWanted whole (cond b (first ∷ places) places) (map size_of (cond b (looked ∷ ls) ls)) (map frame_of (cond c (named ∷ ns) ns))
  step_by whole first places sizes looked named ns ls true true e here size rest = record {
    places_are = both-cons (slice_get whole first) (Some named.frame) (map (slice_get whole) places) (map Some (map frame_of ns)) here rest.places_are;
    sizes_are = both-cons looked.size (slots_of named.frame) (map size_of ls) (map slots_of (map frame_of ns)) size rest.sizes_are;
  }
  step_by whole first places sizes looked named ns ls false false e here size rest = rest
  step_by whole first places sizes looked named ns ls true false e here size rest = absurd cc
  step_by whole first places sizes looked named ns ls false true e here size rest = absurd cc

  pub wants_are : (whole : List Frame) (monitor : Option ℕ) (port : Port) → is_open_on (switch_of sender.name) port ≡ true → is_monitor monitor port ≡ false
      → (looked : List Looked) (named : List Named) (first : ℕ) → AreLookedAs looked named → drop first whole ≡ map frame_of named
      → AreWanted whole (places_from (port_id sender.id) (id_of_port port) first looked) (map size_of (filter (goes_to (port_id sender.id) (id_of_port port)) looked)) (wanted_frames sender monitor named port)
  wants_are whole monitor port up other [] [] first all e = record { places_are = refl; sizes_are = refl }
  wants_are whole monitor port up other [] (n ∷ ns) first all e = absurd all
  wants_are whole monitor port up other (l ∷ ls) [] first all e = absurd all
  wants_are whole monitor port up other (l ∷ ls) (n ∷ ns) first all e =
      let front = drop-front whole first n.frame (map frame_of ns) e in
      let rest = wants_are whole monitor port up other ls ns (first + 1) all.1 front.behind in
      step_by whole first (places_from (port_id sender.id) (id_of_port port) (first + 1) ls) [] l n (filter (is_wanted_at sender monitor port) ns) (filter (goes_to (port_id sender.id) (id_of_port port)) ls)
      (goes_to (port_id sender.id) (id_of_port port) l) (is_wanted_at sender monitor port n) (goes_same monitor port l n up other all.0) front.here all.0.size rest

  -- a port that is no open one of the switch wants nothing
  none_by : (n : Named) (ns : List Named) (b : Bool) → b ≡ false → map frame_of ns ≡ [] → map frame_of (cond b (n ∷ ns) ns) ≡ []
  none_by n ns true t e = absurd cc
  none_by n ns false t e = e

  pub none-wanted : (monitor : Option ℕ) (port : Port) → is_open_on (switch_of sender.name) port ≡ false → is_monitor monitor port ≡ false
      → (named : List Named) → Each (λ (n : Named). NamesOpen sender n.destination port) named → wanted_frames sender monitor named port ≡ []
  none-wanted monitor port down other [] all = refl
  none-wanted monitor port down other (n ∷ ns) all =
      let unnamed : is_named sender n.destination port ≡ false = false_from_ne_true (is_named sender n.destination port) (λ is. let wrong : true ≡ false = sym (all.0 is) ∙ down in cc) in
      none_by n (filter (is_wanted_at sender monitor port) ns) (is_wanted_at sender monitor port n) (or_from (is_named sender n.destination port) (is_monitor monitor port) unnamed other) (none-wanted monitor port down other ns all.1)

  -- the monitor wants all
  all_by : (n : Named) (ns : List Named) (rest : List Frame) (b : Bool) → b ≡ true → map frame_of ns ≡ rest → map frame_of (cond b (n ∷ ns) ns) ≡ n.frame ∷ rest
  all_by n ns rest true t e = ap (λ (fs : List Frame). n.frame ∷ fs) e
  all_by n ns rest false t e = absurd cc

  pub all-wanted : (monitor : Option ℕ) (port : Port) → is_monitor monitor port ≡ true → (named : List Named) → wanted_frames sender monitor named port ≡ map frame_of named
  all-wanted monitor port is [] = refl
  all-wanted monitor port is (n ∷ ns) =
      all_by n (filter (is_wanted_at sender monitor port) ns) (map frame_of ns) (is_wanted_at sender monitor port n) (or_right (is_named sender n.destination port) (is_monitor monitor port) is) (all-wanted monitor port is ns)
