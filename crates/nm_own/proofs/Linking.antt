-- The head of a port's list of extra buffers, and the links in these, over what is seen.
use Rattle.std.proofs.Common.{ℕ, zero, suc, ◌≡◌, ◌<◌, ◌≤◌, ◌&&◌, Bool, true, false, nat_eq, if◌then◌else◌, List, [], ◌∷◌, ◌++◌, length, map, get_or, Option, Some, None, inl, inr, refl, sym, ◌∙◌, ap, arith}
use Rattle.std.specs.Prelude.{nat_le, option_and_then, slice_index, flat_map}
use Rattle.std.specs.List.{range_with_len}
use Rattle.std.proofs.lemmas.Bool.{cases_Bool}
use Rattle.std.proofs.lemmas.Bool.Decides.{nat_tests}
use Rattle.std.proofs.lemmas.List.{length-map}
use Rattle.std.proofs.lemmas.Option.{slice_get-get_or, slice_get_past, same_Some}
use Rattle.std.proofs.lemmas.List.FromFn.{length-range_with_len, get_or-map-range_with_len}
use Rattle.std.proofs.lemmas.List.Folds.{list_any-append}
use Rattle.nm_types.specs.declared.place.Place.{Place}
use Rattle.nm_types.specs.declared.place.Place.TheVariants as place
use Rattle.nm_types.specs.Chain.{link_bytes, linked}
use Rattle.nm_types.specs.SyncChecks.{contains_index}
use Rattle.nm_types.specs.OwnPorts.{OwnPort, OwnState, bytes_at, with_bytes, port_with_id, port_if, named_in, user_buffers_if}
use Rattle.nm_types.specs.OwnEdits.{with_written, extra_number, with_head_of_chain, link_in, with_extra_link_in, with_extra_link}
use Rattle.nm_types.proofs.Tests.{or_second}
use Rattle.nm_hold.specs.Standings.{named_bytes_in}
use Rattle.nm_hold.specs.declared.standing.Standing.{Standing}
use Rattle.nm_hold.specs.Holds.{HoldState, buffers_of, standing_at, named_bytes_at, is_named_at, IsHold}
use Rattle.nm_port.specs.declared.port.UserPort.{UserPort}
use Rattle.nm_port.specs.Sides.{number_at}
use Rattle.nm_port.specs.Own.{extra_number_at, port_seen, own_seen, bytes_in_cell, bytes_in_hold, is_filled_in, AreFilled, AreFlagged, AreSided, AreRings}
use Rattle.nm_own.specs.ExtraChain.{extra_at, extra_numbered, port_headed_if, named_bytes}
use Rattle.nm_own.proofs.Filled.{is_named_seen}
use Rattle.nm_own.proofs.KeptPorts.{KeepsPort, keeps_port_if}
use Rattle.nm_port.proofs.Checked.{bytes_are_seen}

-- ports of which one has another head
module _ (id idx : ℕ) where
  abbrev headed : List UserPort → List UserPort
  headed ports = map (port_headed_if id idx) ports

  head_filled : (q : Place) (p : UserPort) → is_filled_in q (record p { extra_head = idx }) ≡ is_filled_in q p
  head_filled (place.Tx port at) p = refl
  head_filled (place.Rx port at) p = refl
  head_filled (place.Extra port at) p = refl

  pub head_keeps : KeepsPort (port_headed_if id idx)
  head_keeps = keeps_port_if id (λ (p : UserPort). record p { extra_head = idx }) (record {
    stays = record { sided = λ p is. is; places = λ p. refl; filled = head_filled; back = λ p room. room };
    rings = λ p are. are;
    named = λ p. refl;
  })

  pub seen_headed : (h : HoldState) (ports : List UserPort) → own_seen h (headed ports) ≡ with_head_of_chain id idx (own_seen h ports)
  seen_headed h ports = ap (λ (seen : List OwnPort). let s : OwnState = record { pool = buffers_of h; ports = seen; bytes = map bytes_in_cell h.cells } in s) (over ports)
    where
      over : (ports : List UserPort) → map (port_seen h) (headed ports) ≡ map (port_if id (λ (p : OwnPort). record p { extra_head = idx })) (map (port_seen h) ports)
      over [] = refl
      over (p ∷ ports) = elim (cases_Bool (nat_eq p.id.0 id)) [
        | inl here ↦ rw (here, over ports) refl
        | inr other ↦ rw (other, over ports) refl
      ]

-- an extra buffer is one that the user may name
in_list : (xs : List ℕ) (at : ℕ) → at < length xs → contains_index xs (get_or xs at 0) ≡ true
in_list [] at below = absurd (omega arith)
in_list (x ∷ xs) zero below = rw (same_self x) refl
  where
    same_self : (a : ℕ) → nat_eq a a ≡ true
    same_self a = grind (arith, nat_tests)
in_list (x ∷ xs) (suc at) below = or_second (nat_eq x (get_or xs at 0)) (contains_index xs (get_or xs at 0)) (in_list xs at (omega arith))

in_port : (p : OwnPort) (idx : ℕ) → contains_index p.extra idx ≡ true → contains_index (named_in p) idx ≡ true
in_port p idx e =
    list_any-append (λ b. nat_eq b idx) (user_buffers_if p.tx) (p.rx.held ++ p.extra)
    ∙ or_second (contains_index (user_buffers_if p.tx) idx) (contains_index (p.rx.held ++ p.extra) idx)
    (list_any-append (λ b. nat_eq b idx) p.rx.held p.extra ∙ or_second (contains_index p.rx.held idx) (contains_index p.extra idx) e)

extra_named : (ports : List OwnPort) (s : OwnState) (id : ℕ) (p : OwnPort) (at : ℕ) → s.ports ≡ ports → port_with_id s id ≡ Some p → at < length p.extra → contains_index (flat_map named_in ports) (slice_index p.extra at) ≡ true
extra_named ports s id p at are there below = over ports (ap (λ (all : List OwnPort). port_with_id (record s { ports = all }) id) (sym are) ∙ there)
  where
    over : (all : List OwnPort) → port_with_id (record s { ports = all }) id ≡ Some p → contains_index (flat_map named_in all) (slice_index p.extra at) ≡ true
    over [] e = absurd cc
    over (x ∷ all) e = list_any-append (λ b. nat_eq b (slice_index p.extra at)) (named_in x) (flat_map named_in all) ∙ (elim (cases_Bool (nat_eq x.id.0 id)) [
      | inl here ↦ (let is : x ≡ p = same_Some x p (rw here at e) in
          rw (in_port x (slice_index p.extra at) (ap (λ (y : OwnPort). contains_index y.extra (slice_index p.extra at)) is ∙ in_list p.extra at below)) refl)
      | inr other ↦ or_second (contains_index (named_in x) (slice_index p.extra at)) (contains_index (flat_map named_in all) (slice_index p.extra at)) (over all (rw other at e))
    ])

-- one link more
module _ (s : OwnState) (id to here next : ℕ) where
  numbered : (o : Option OwnPort) (number n : ℕ) → option_and_then (extra_numbered number) o ≡ Some n → (p : OwnPort) × (o ≡ Some p) × (nat_le number (length p.extra) ≡ true) × (extra_number p number ≡ n)
  numbered None number n e = absurd cc
  numbered (Some p) number n e = elim (cases_Bool (nat_le number (length p.extra))) [
    | inl within ↦ (p, refl, within, same_Some (extra_number p number) n (rw within at e))
    | inr past ↦ absurd (let none = rw past at e in cc)
  ]

  pub extra_linked : (from : ℕ) → 0 < from → option_and_then (extra_numbered from) (port_with_id s id) ≡ Some here → option_and_then (extra_numbered to) (port_with_id s id) ≡ Some next
      → with_written here (link_bytes next) s ≡ with_extra_link id from to s
  extra_linked zero e first second = absurd (omega arith)
  extra_linked (suc at) e first second =
      let a = numbered (port_with_id s id) (suc at) here first in
      let b = numbered (port_with_id s id) to next second in
      let same : a.0 ≡ b.0 = same_Some a.0 b.0 (sym a.1 ∙ b.1) in
      let within : nat_le to (length a.0.extra) ≡ true = ap (λ (p : OwnPort). nat_le to (length p.extra)) same ∙ b.2 in
      let is : extra_number a.0 to ≡ next = ap (λ (p : OwnPort). extra_number p to) same ∙ b.3 in
      let named = extra_named s.ports s id a.0 at refl a.1 (below at (length a.0.extra) a.2) in
      let link : with_written (slice_index a.0.extra at) (link_bytes next) s ≡ with_bytes (slice_index a.0.extra at) (linked next (bytes_at s (slice_index a.0.extra at))) s = rw named refl in
      ap (λ (i : ℕ). with_written i (link_bytes next) s) (sym a.3)
      ∙ (link ∙ sym (ap (with_extra_link_in id (suc at) to s) a.1 ∙ linked_in a.0 (nat_le (suc at) (length a.0.extra)) (nat_le to (length a.0.extra)) (extra_number a.0 to) a.2 within is))
    where
      linked_in : (p : OwnPort) (b c : Bool) (n : ℕ) → b ≡ true → c ≡ true → n ≡ next → (if b && c then link_in id p (suc at) n s else s) ≡ with_bytes (slice_index p.extra at) (linked next (bytes_at s (slice_index p.extra at))) s
      linked_in p b c n e f g = rw (e, f, g) refl

      below : (a b : ℕ) → nat_le (suc a) b ≡ true → a < b
      below a b e = grind (arith, nat_tests)

-- the bytes of a named buffer
pub named_bytes_seen : (h : HoldState) (ports : List UserPort) (idx : ℕ) → IsHold h → AreSided ports → AreRings ports → AreFlagged h ports → AreFilled h ports → named_bytes_at h idx ≡ named_bytes (own_seen h ports) idx
named_bytes_seen h ports idx is sided rings flagged filled =
    rw (← (is_named_seen h ports idx is sided rings flagged filled), bytes_are_seen h ports idx) (by_cell (standing_at h idx) refl)
  where
    by_named : (s : Standing) (b : Bool) → s.home.named ≡ b → named_bytes_in (Some s) ≡ (if s.home.named then Some s.buf.bytes else None)
    by_named s true e = rw e refl
    by_named s false e = rw e refl

    by_cell : (o : Option Standing) → standing_at h idx ≡ o → named_bytes_at h idx ≡ (if is_named_at h idx then Some (bytes_in_hold h idx) else None)
    by_cell None e = rw e refl
    by_cell (Some s) e = rw e (by_named s s.home.named refl)

-- an extra position of a port, as it is seen
module _ (h : HoldState) (p : UserPort) where
  extras_count : length (port_seen h p).extra ≡ p.extra
  extras_count = length-map (range_with_len 0 p.extra) (extra_number_at h p.id) ∙ length-range_with_len 0 p.extra

  le_true : (a b : ℕ) → a ≤ b → nat_le a b ≡ true
  le_true a b e = grind (arith, nat_tests)

  le_false : (a b : ℕ) → b < a → nat_le a b ≡ false
  le_false a b e = grind (arith, nat_tests)

  pub extra_seen : (at : ℕ) → at < p.extra → Some (number_at h (place.Extra p.id at)) ≡ extra_at at (port_seen h p)
  extra_seen at below =
      ap (λ (n : ℕ). Some n) (sym (get_or-map-range_with_len (extra_number_at h p.id) 0 p.extra at at 0 below (omega arith)))
      ∙ sym (slice_get-get_or (map (extra_number_at h p.id) (range_with_len 0 p.extra)) at 0 (omega (arith, below, extras_count)))

  pub no_extra : (at : ℕ) → p.extra ≤ at → None ≡ extra_at at (port_seen h p)
  no_extra at above = sym (slice_get_past (map (extra_number_at h p.id) (range_with_len 0 p.extra)) at (omega (arith, above, extras_count)))

  pub no_number : (number : ℕ) → p.extra < number → None ≡ extra_numbered number (port_seen h p)
  no_number number past = rw (extras_count, le_false number p.extra past) refl

  pub number_seen : (at : ℕ) → at < p.extra → Some (number_at h (place.Extra p.id at)) ≡ extra_numbered (suc at) (port_seen h p)
  number_seen at below =
      rw (extras_count, le_true (suc at) p.extra (omega arith)) (ap (λ (n : ℕ). Some n) (sym (get_or-map-range_with_len (extra_number_at h p.id) 0 p.extra at at 0 below (omega arith))))
