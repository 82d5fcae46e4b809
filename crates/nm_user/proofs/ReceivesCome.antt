-- Frames that came are published one after another.
use Rattle.std.proofs.Common.{ℕ, ◌+◌, ◌-◌, ◌<◌, ◌≤◌, ◌==◌, ◌≡◌, true, List, [], ◌∷◌, ◌++◌, map, fold, set, drop, length, reverse, get_or, sym, ap, subst, arith, refl, ◌∙◌, Some, None, length-append}
use Rattle.std.specs.Prelude.{option_and_then}
use Rattle.std.specs.List.{AllByRecursion as Each, zip}
use Rattle.std.proofs.lemmas.Bool.{eq-eqb}
use Rattle.std.proofs.lemmas.List.{map-append, reverse-append}
use Rattle.std.proofs.lemmas.List.Sums.{fold-append}
use Rattle.nm_types.specs.Positions.{kernel_count}
use Rattle.nm_types.specs.declared.id.Side.TheVariants.{Rx}
use Rattle.nm_types.specs.OwnPorts.{OwnPort, OwnState, Arrival, port_with_id, ring_at, ring_on, refusal_in, refusal_at}
use Rattle.nm_types.specs.OwnSyncs.{back_on, buffers_of_arrivals, own_after_receive, without_bytes_of}
use Rattle.nm_types.proofs.RingSteps.{dist_split}
use Rattle.nm_region.specs.Buffers.{Buffer, indices_of}
use Rattle.nm_own.specs.Opening.{IsNew}
use Rattle.nm_port.specs.Receives.{own_with_arrival}
use Rattle.nm_own.proofs.OwnLaws.{frames_come, room_for_frames}
use Rattle.vale_line.specs.declared.got.Got.{Got}
use Rattle.vale_line.specs.Gots.{buffers_of, held_parts}
use Rattle.vale_entry.specs.Arrivals.{part_arrival}
use Rattle.vale_entry.proofs.Counting.{count_of, count_of-cons, count_of-append}
use Rattle.vale_own.specs.Side.{IsRxRing}
use Rattle.vale_own.specs.SideLaws.{IsNewTo}
use Rattle.vale_own.proofs.SideExchange.{sync-fits}
use Rattle.vale_own.proofs.SideMoves.{one_if, set-blank, came-other}
use Rattle.nm_user.specs.Receiving.{arrival_in, arrivals_in, CanCome}

-- ---- bytes

gone-blank : (gone : List ℕ) (bytes : List (List ℕ)) (b : ℕ) → get_or bytes b [] ≡ [] → get_or (fold without_bytes_of bytes gone) b [] ≡ []
gone-blank [] bytes b e = e
gone-blank (x ∷ gone) bytes b e = gone-blank gone (set bytes x []) b (set-blank bytes x b e)

-- a buffer that is new to a side is new once others came
new-still : (id : ℕ) (s : OwnState) (done : List Arrival) (b : ℕ) → IsNewTo s.pool s b → count_of b (buffers_of_arrivals done) ≡ 0 → IsNew (own_after_receive id done s) b
new-still id s done b new none = (new.index, came-other done (fold without_bytes_of s.bytes (back_on id s)) b none ∙ gone-blank (back_on id s) s.bytes b new.no_bytes)

-- ---- one more

come-next : (id : ℕ) (s : OwnState) (done : List Arrival) (a : Arrival) → own_with_arrival id (own_after_receive id done s) a ≡ own_after_receive id (done ++ a ∷ []) s
come-next id s done a =
    ap (λ (x : OwnState). own_with_arrival id x a) (sym (frames_come id done s))
    ∙ (sym (fold-append (own_with_arrival id) (own_after_receive id [] s) done (a ∷ [])) ∙ frames_come id (done ++ a ∷ []) s)

module _ (id : ℕ) (s : OwnState) (p : OwnPort) (found : port_with_id s id ≡ Some p) (passes : refusal_in Rx s p p.rx ≡ None) (is : IsRxRing p.rx) where
  ring-is : ring_at Rx s id ≡ Some p.rx
  ring-is = ap (option_and_then (ring_on Rx)) found

  kernel-room : (n : ℕ) → length p.rx.held + n < p.rx.ring.size → 1 ≤ n → n - 1 < kernel_count p.rx.ring.size p.rx.ring.head p.rx.ring.last_tail
  kernel-room n few some =
      let ring = p.rx.ring in
      let fits = sync-fits Rx s p p.rx passes in
      let tail : ring.last_tail < ring.size = (let w = is.positions.within in let o = is.positions.one_tail in omega (arith, w, o)) in
      let split = dist_split ring.size ring.accepted_head ring.head ring.last_tail is.positions.accepted fits.head_within tail fits.head_reach in
      let held = is.held in
      omega (arith, split, held, few, some)

  pub can-come : (done came : List Arrival) → length p.rx.held + (length done + length came) < p.rx.ring.size → Each (IsNewTo s.pool s) (buffers_of_arrivals came)
      → ((b : ℕ) → count_of b (buffers_of_arrivals done) + count_of b (buffers_of_arrivals came) ≤ 1) → CanCome id (own_after_receive id done s) came
  can-come done [] few new once = tt
  can-come done (a ∷ came) few new once =
      let one = once a.buffer in
      let here : one_if (a.buffer == a.buffer) ≡ one_if true = ap one_if (eq-eqb a.buffer a.buffer refl) in
      let first = count_of-cons a.buffer a.buffer (buffers_of_arrivals came) in
      let none : count_of a.buffer (buffers_of_arrivals done) ≡ 0 = omega (arith, one, here, first) in
      let left = kernel-room (length done + 1) (omega (arith, few)) (omega arith) in
      let room : length done < kernel_count p.rx.ring.size p.rx.ring.head p.rx.ring.last_tail = omega (arith, left) in
      let refused : refusal_at Rx id s ≡ None = ap (option_and_then (λ (q : OwnPort). option_and_then (refusal_in Rx s q) (ring_on Rx q))) found ∙ passes in
      let long = length-append done (a ∷ []) in
      let rest = can-come (done ++ a ∷ []) came (omega (arith, few, long)) new.1 (λ b.
      let both = once b in
      let split = ap (count_of b) (map-append (λ (x : Arrival). x.buffer) done (a ∷ [])) ∙ count_of-append b (buffers_of_arrivals done) (a.buffer ∷ []) in
      let more = count_of-cons b a.buffer (buffers_of_arrivals came) in
      let single = count_of-cons b a.buffer [] in
      omega (arith, both, split, more, single)) in (
        (room_for_frames id done s p.rx ring-is is.positions refused room, new-still id s done a.buffer new.0 none),
        subst (λ (x : OwnState). CanCome id x came) (sym (come-next id s done a)) rest,
      )

-- ---- the parts in buffers

pub arrivals-are : (gots : List Got) → map part_arrival (zip (indices_of (buffers_of gots)) (held_parts gots)) ≡ arrivals_in gots
arrivals-are [] = refl
arrivals-are (g ∷ gs) = ap (λ (rest : List Arrival). arrival_in g ∷ rest) (arrivals-are gs)

-- ---- vectors

-- one that was empty has all that was added
pub all-added : (old new : List Buffer) → old ≡ [] → drop (length old) new ≡ new
all-added old new none = ap (λ (xs : List Buffer). drop (length xs) new) none

-- the last one comes first where the order is turned
pub last-first : (all rest : List Got) (got : Got) → all ≡ rest ++ got ∷ [] → reverse all ≡ got ∷ reverse rest
last-first all rest got e = ap (λ (xs : List Got). reverse xs) e ∙ reverse-append rest (got ∷ [])
