-- A round of a line, in which frames are granted, filled, completed and synced.
use Rattle.std.proofs.Common.{ℕ, zero, suc, ◌≡◌, ◌-◌, ◌≤◌, List, [], ◌∷◌, ◌++◌, length, take, drop, map, replicate, Some, inl, inr, refl, sym, subst, ◌∙◌, ap, arith}
use Rattle.std.specs.Prelude.{All, sum, nat_le, IsPermutation, ◌==◌}
use Rattle.std.proofs.lemmas.Bool.{cases_Bool, eq-eqb}
use Rattle.std.proofs.lemmas.List.{append-nil, append_assoc, length-append, length-take, length-drop, length-map, map-append, take-append-drop, length-take-le}
use Rattle.std.proofs.lemmas.List.Elements.{All-head, All-tail, All-nil, All-cons, All-replicate}
use Rattle.std.proofs.lemmas.List.Sorted.{IsPermutation-append_comm, IsPermutation-map, IsPermutation-trans}
use Rattle.nm_types.specs.declared.id.LeaseId.{LeaseId}
use Rattle.nm_frag.specs.Parts.{slots_of_length, parts_of}
use Rattle.nm_frag.proofs.PartLemmas.{length-parts, slots-one}
use Rattle.nm_region.proofs.Named.{AreAllOf-opened}
use Rattle.nm_region.specs.Buffers.{Buffer, RegionState, AreAllOf, name_of, names_of, region_names, opened_buffers}
use Rattle.vale_line.specs.declared.got.Got.{Got}
use Rattle.vale_line.specs.Fitting.{IsFrameSize, fitting_sizes}
use Rattle.vale_line.specs.Gots.{buffers_of, gots_of_parts, gots_with}
use Rattle.vale_line.specs.Leased.{Leased, buffer_count, first_size, next_of, with_frame}
use Rattle.vale_line.specs.Lines.{HeldLot, LineState, completed, new_line, opened_lot, with_lease, given_by_sync, done_lots, ready_gots, room_to_sync, space_of, granted_sizes, leased, out_of, slots_out}
use Rattle.vale_line.proofs.FittingLemmas.{sum-cons}
use Rattle.bench.specs.Rounds.{IsOne, IsAtRest}

-- a sync wants no more room than for what it gives
pub room-most : (lots : List HeldLot) → room_to_sync lots ≤ length (ready_gots lots)
room-most lots = elim (cases_Bool (length (done_lots lots) == 1)) [
  | inl here ↦ rw here (omega arith)
  | inr other ↦ rw other (omega arith)
]

-- frames of one slot, of those that fit
pub record AreOnes (most : ℕ) (sizes : List ℕ) : Type 0 where
  pub ones : All IsOne sizes
  pub few : length sizes ≤ most
  pub sum : sum sizes ≡ length sizes

pub fitting-ones : (room n : ℕ) → AreOnes n (fitting_sizes room (replicate n 1))
fitting-ones room zero = record { ones = All-nil IsOne; few = omega arith; sum = refl }
fitting-ones room (suc n) = elim (cases_Bool (nat_le 1 room)) [
  | inl here ↦
      let rest = fitting-ones (room - 1) n in
      let sizes = fitting_sizes (room - 1) (replicate n 1) in
      let few = rest.few in
      let same = rest.sum in
      let whole = sum-cons 1 sizes in
      rw here (record {
        ones = All-cons IsOne 1 sizes refl rest.ones;
        few = omega (arith, few);
        sum = omega (arith, whole, same);
      })
  | inr other ↦ rw other (record { ones = All-nil IsOne; few = omega arith; sum = refl })
]

pub sum-ones : (n : ℕ) → sum (replicate n 1) ≡ n
sum-ones zero = refl
sum-ones (suc n) = let rest = sum-ones n in let whole = sum-cons 1 (replicate n 1) in omega (arith, whole, rest)

pub sizes-ones : (n : ℕ) → All IsFrameSize (replicate n 1)
sizes-ones n = All-replicate IsFrameSize n 1 (omega arith, omega arith)

-- a frame takes the first buffers
names-parts : (parts : List (List ℕ)) (bufs : List Buffer) → names_of (buffers_of (gots_of_parts parts bufs)) ++ names_of (drop (length parts) bufs) ≡ names_of bufs
names-parts [] bufs = refl
names-parts (part ∷ parts) [] = refl
names-parts (part ∷ parts) (buf ∷ bufs) = ap (λ (rest : List (ℕ × ℕ)). name_of buf ∷ rest) (names-parts parts bufs)

-- a lease that is filled
pub record IsFilling (start lease : Leased) : Type 0 where
  pub id : lease.id ≡ start.id
  pub ones : All IsOne lease.sizes
  pub room : length lease.sizes ≡ length lease.empty
  pub names : names_of (buffers_of lease.filled) ++ names_of lease.empty ≡ names_of start.empty

pub filling-first : (start : Leased) → start.filled ≡ [] → All IsOne start.sizes → length start.sizes ≡ length start.empty → IsFilling start start
filling-first start none ones room = record { id = refl; ones = ones; room = room; names = rw none refl }

first-one : (sizes : List ℕ) → All IsOne sizes → 1 ≤ length sizes → first_size sizes ≡ 1
first-one [] ones some = absurd (omega (arith, some))
first-one (size ∷ sizes) ones some = All-head IsOne size sizes ones

rest-ones : (sizes : List ℕ) → All IsOne sizes → All IsOne (drop 1 sizes)
rest-ones [] ones = ones
rest-ones (size ∷ sizes) ones = All-tail IsOne size sizes ones

pub filling-next : (start lease : Leased) (bytes : List ℕ) → length bytes ≤ 2048 → IsFilling start lease → 1 ≤ length lease.sizes → slots_of_length (length bytes) ≡ next_of lease
filling-next start lease bytes small is some = slots-one (length bytes) small ∙ sym (first-one lease.sizes is.ones some)

pub filling-more : (start lease : Leased) (bytes : List ℕ) → length bytes ≤ 2048 → IsFilling start lease → IsFilling start (with_frame bytes lease)
filling-more start lease bytes small is =
    let one : slots_of_length (length bytes) ≡ 1 = slots-one (length bytes) small in
    let count : length (parts_of bytes) ≡ slots_of_length (length bytes) = length-parts (slots_of_length (length bytes)) bytes in
    let front = names_of (buffers_of lease.filled) in
    let added = names_of (buffers_of (gots_with bytes lease.empty)) in
    let left = names_of (drop (slots_of_length (length bytes)) lease.empty) in
    let parted : added ++ left ≡ names_of lease.empty =
    ap (λ (n : ℕ). added ++ names_of (drop n lease.empty)) (sym count) ∙ names-parts (parts_of bytes) lease.empty in
    let joined : names_of (buffers_of (lease.filled ++ gots_with bytes lease.empty)) ≡ front ++ added =
    ap names_of (map-append (λ (got : Got). got.buf) lease.filled (gots_with bytes lease.empty))
    ∙ map-append name_of (buffers_of lease.filled) (buffers_of (gots_with bytes lease.empty)) in
    let sizes = length-drop 1 lease.sizes in
    let empty = length-drop (slots_of_length (length bytes)) lease.empty in
    let same = is.room in
    record {
      id = is.id;
      ones = rest-ones lease.sizes is.ones;
      room = omega (arith, sizes, empty, same, one);
      names =
          ap (λ (ns : List (ℕ × ℕ)). ns ++ left) joined
          ∙ (append_assoc front added left ∙ (ap (λ (ns : List (ℕ × ℕ)). front ++ ns) parted ∙ is.names));
    }

pub filling-filled : (start lease new : Leased) (bytes : List ℕ) → length bytes ≤ 2048 → IsFilling start lease → new ≡ with_frame bytes lease → IsFilling start new
filling-filled start lease new bytes small is e = rw e (filling-more start lease bytes small is)

-- a lease in which all is filled
pub record IsFilled (start lease : Leased) : Type 0 where
  pub full : lease.sizes ≡ []
  pub count : buffer_count lease ≡ length start.empty
  pub names : names_of (buffers_of lease.filled) ≡ names_of start.empty

none-of : {X : Type 0} → (xs : List X) → length xs ≡ 0 → xs ≡ []
none-of [] is = refl
none-of (x ∷ xs) is = absurd (omega (arith, is))

length-names : (bufs : List Buffer) → length (names_of bufs) ≡ length bufs
length-names bufs = length-map bufs name_of

length-buffers : (gots : List Got) → length (buffers_of gots) ≡ length gots
length-buffers gots = length-map gots (λ (got : Got). got.buf)

pub length-named : (gots : List Got) (bufs : List Buffer) → names_of (buffers_of gots) ≡ names_of bufs → length gots ≡ length bufs
length-named gots bufs e =
    sym (length-buffers gots) ∙ (sym (length-names (buffers_of gots)) ∙ (ap length e ∙ length-names bufs))

pub filling-last : (start lease : Leased) → IsFilling start lease → length lease.sizes ≡ 0 → IsFilled start lease
filling-last start lease is last =
    let room = is.room in
    let none : lease.empty ≡ [] = none-of lease.empty (omega (arith, room, last)) in
    let names : names_of (buffers_of lease.filled) ≡ names_of start.empty =
    sym (append-nil (names_of (buffers_of lease.filled)))
    ∙ (ap (λ (bufs : List Buffer). names_of (buffers_of lease.filled) ++ names_of bufs) (sym none) ∙ is.names) in
    let count = length-named lease.filled start.empty names in
    record { full = none-of lease.sizes last; count = omega (arith, count, room, last); names = names }

-- the one lot of a round
done-one : (id : LeaseId) (n : ℕ) (gots : List Got) → map (completed id.0 gots) (opened_lot id n ∷ []) ≡ record { id = id; slots = n; gots = Some gots } ∷ []
done-one id n gots = rw (eq-eqb id.0 id.0 refl) refl

pub slots-one-out : (id : LeaseId) (n : ℕ) → slots_out id.0 (opened_lot id n ∷ []) ≡ Some n
slots-one-out id n = rw (eq-eqb id.0 id.0 refl) refl

-- a round, once its lot is done
pub record IsDone (region : RegionState) (done : LineState) (back : List Buffer) (filled : List Got) : Type 0 where
  pub ready : ready_gots done.lots ≡ filled
  pub returned : length back ≤ out_of done
  pub rest : IsAtRest region (given_by_sync back done) (buffers_of filled)

pub round-done : (region : RegionState) (line done : LineState) (back : List Buffer) (filled : List Got) (id : LeaseId) (n : ℕ) → IsAtRest region line back
    → done ≡ record (with_lease id n line) { lots = map (completed id.0 filled) (line.lots ++ opened_lot id n ∷ []) }
    → names_of (buffers_of filled) ≡ names_of (take n line.idle) → n ≤ length line.idle → IsDone region done back filled
round-done region line done back filled id n rest is names within =
    let lot : HeldLot = record { id = id; slots = n; gots = Some filled } in
    let lots : done.lots ≡ lot ∷ [] =
    ap (λ (l : LineState). l.lots) is ∙ (ap (λ (ls : List HeldLot). map (completed id.0 filled) (ls ++ opened_lot id n ∷ [])) rest.no_lots ∙ done-one id n filled) in
    let idle : done.idle ≡ drop n line.idle = ap (λ (l : LineState). l.idle) is in
    let size : done.size ≡ line.size = ap (λ (l : LineState). l.size) is in
    let behind = drop n line.idle in
    let front = take n line.idle in
    let taken : length front ≡ n = length-take-le n line.idle within in
    let count : length filled ≡ n = length-named filled front names ∙ taken in
    let left = length-drop n line.idle in
    let total = rest.count in
    let both = length-append behind back in
    let named : names_of ((behind ++ back) ++ buffers_of filled) ≡ names_of ((behind ++ back) ++ front) =
    map-append name_of (behind ++ back) (buffers_of filled)
    ∙ (ap (λ (ns : List (ℕ × ℕ)). names_of (behind ++ back) ++ ns) names ∙ sym (map-append name_of (behind ++ back) front)) in
    let whole : front ++ (behind ++ back) ≡ line.idle ++ back =
    sym (append_assoc front behind back) ∙ ap (λ (bufs : List Buffer). bufs ++ back) (take-append-drop n line.idle) in
    let old : IsPermutation (region_names region) (names_of (front ++ (behind ++ back))) = rw whole rest.all in
    let all : AreAllOf region ((behind ++ back) ++ buffers_of filled) =
    rw named (IsPermutation-trans (region_names region) (names_of (front ++ (behind ++ back))) (names_of ((behind ++ back) ++ front)) old
    (IsPermutation-map name_of (front ++ (behind ++ back)) ((behind ++ back) ++ front) (IsPermutation-append_comm front (behind ++ back)))) in
    let held = length-buffers filled in
    record {
      ready = rw lots (append-nil filled);
      returned = rw (lots, idle, size) (omega (arith, left, total, within));
      rest = record {
        no_lots = rw lots refl;
        count = rw (idle, size) (omega (arith, both, held, count, left, total, within));
        all = rw idle all;
      };
    }

-- what a round is granted
pub record IsGranted (line after : LineState) (lease : Leased) (id : LeaseId) : Type 0 where
  pub id_is : lease.id ≡ id.0
  pub ones : All IsOne lease.sizes
  pub room : length lease.sizes ≡ length lease.empty
  pub few : length lease.empty ≤ 64
  pub empty : lease.empty ≡ take (length lease.empty) line.idle
  pub within : length lease.empty ≤ length line.idle
  pub after_is : after ≡ with_lease id (length lease.empty) line

granted-ones : (line after : LineState) (lease : Leased) (id : LeaseId) (to : ℕ) → lease ≡ leased id to (granted_sizes (replicate 64 1) line) line
    → buffer_count lease ≡ sum (granted_sizes (replicate 64 1) line) → after ≡ with_lease id (sum (granted_sizes (replicate 64 1) line)) line → IsGranted line after lease id
granted-ones line after lease id to is count lot =
    let given = granted_sizes (replicate 64 1) line in
    let ones = fitting-ones (space_of line) 64 in
    let few = ones.few in
    let total = ones.sum in
    let sizes : lease.sizes ≡ given = ap (λ (l : Leased). l.sizes) is in
    let empty : lease.empty ≡ take (sum given) line.idle = ap (λ (l : Leased). l.empty) is in
    let none : length lease.filled ≡ 0 = ap (λ (l : Leased). length l.filled) is in
    let as_many : length lease.sizes ≡ length given = ap length sizes in
    let taken : length lease.empty ≡ length (take (sum given) line.idle) = ap length empty in
    let part = length-take (sum given) line.idle in
    let n : length lease.empty ≡ sum given = omega (arith, count, none) in
    record {
      id_is = ap (λ (l : Leased). l.id) is;
      ones = rw sizes (ones.ones);
      room = omega (arith, as_many, total, n);
      few = omega (arith, few, total, n);
      empty = empty ∙ ap (λ (k : ℕ). take k line.idle) (sym n);
      within = omega (arith, taken, part, n);
      after_is = lot ∙ ap (λ (k : ℕ). with_lease id k line) (sym n);
    }

-- the same of a want of frames of one slot each
pub round-granted : (want : List ℕ) → want ≡ replicate 64 1 → (line after : LineState) (lease : Leased) (id : LeaseId) (to : ℕ) → lease ≡ leased id to (granted_sizes want line) line
    → buffer_count lease ≡ sum (granted_sizes want line) → after ≡ with_lease id (sum (granted_sizes want line)) line → IsGranted line after lease id
round-granted want ones line after lease id to is count lot =
    granted-ones line after lease id to
    (subst (λ (sizes : List ℕ). lease ≡ leased id to (granted_sizes sizes line) line) ones is)
    (subst (λ (sizes : List ℕ). buffer_count lease ≡ sum (granted_sizes sizes line)) ones count)
    (subst (λ (sizes : List ℕ). after ≡ with_lease id (sum (granted_sizes sizes line)) line) ones lot)

pub round-lot : (line after : LineState) (lease full : Leased) (id : LeaseId) → line.lots ≡ [] → IsGranted line after lease id → full.id ≡ lease.id → buffer_count full ≡ length lease.empty
    → slots_out full.id after.lots ≡ Some (buffer_count full)
round-lot line after lease full id no_lots is same count =
    let n = length lease.empty in
    let lots : after.lots ≡ opened_lot id n ∷ [] =
    ap (λ (l : LineState). l.lots) is.after_is ∙ ap (λ (ls : List HeldLot). ls ++ opened_lot id n ∷ []) no_lots in
    ap (λ (k : ℕ). slots_out k after.lots) (same ∙ is.id_is)
    ∙ (ap (λ (ls : List HeldLot). slots_out id.0 ls) lots ∙ (slots-one-out id n ∙ ap (λ (k : ℕ). Some k) (sym count)))

-- a round, before its sync
pub record IsRound (region : RegionState) (done : LineState) (back : List Buffer) (full : Leased) : Type 0 where
  pub is_done : IsDone region done back full.filled
  pub few : length (ready_gots done.lots) ≤ 64

pub round-complete : (region : RegionState) (line after done : LineState) (back : List Buffer) (lease full : Leased) (id : LeaseId) → IsAtRest region line back → IsGranted line after lease id
    → full.id ≡ lease.id → names_of (buffers_of full.filled) ≡ names_of lease.empty → done ≡ record after { lots = map (completed full.id full.filled) after.lots } → IsRound region done back full
round-complete region line after done back lease full id rest is same names done_is =
    let n = length lease.empty in
    let done_all =
    round-done region line done back full.filled id n rest
    (done_is
    ∙ (ap (λ (k : ℕ). record after { lots = map (completed k full.filled) after.lots }) (same ∙ is.id_is)
    ∙ ap (λ (l : LineState). record l { lots = map (completed id.0 full.filled) l.lots }) is.after_is))
    (names ∙ ap names_of is.empty) is.within in
    let ready : length (ready_gots done.lots) ≡ length full.filled = ap length done_all.ready in
    let count = length-named full.filled lease.empty names in
    let few = is.few in
    record { is_done = done_all; few = omega (arith, ready, count, few) }

-- the line behind a sync that gave a round's buffers
pub round-rest : (region : RegionState) (done after : LineState) (back taken : List Buffer) (full : Leased) (got : List Got) → IsRound region done back full
    → after ≡ given_by_sync back done → got ≡ ready_gots done.lots → taken ≡ buffers_of got → IsAtRest region after taken
round-rest region done after back taken full got is after_is got_is taken_is =
    let bufs : taken ≡ buffers_of full.filled = taken_is ∙ ap buffers_of (got_is ∙ is.is_done.ready) in
    rw (after_is, bufs) is.is_done.rest

-- nothing is lost of an opened line, nor when it is closed
pub line_opened : (region : RegionState) (bufs : List Buffer) (line : LineState) → bufs ≡ opened_buffers region → line ≡ new_line bufs → IsAtRest region line []
line_opened region bufs line all is = rw is (record {
  no_lots = refl;
  count = omega arith;
  all = rw (append-nil bufs) (AreAllOf-opened region bufs all);
})

pub line_closing : (region : RegionState) (line : LineState) (back : List Buffer) → IsAtRest region line back → IsAtRest region (given_by_sync back line) []
line_closing region line back rest =
    let both = length-append line.idle back in
    let total = rest.count in
    record {
      no_lots = rw (rest.no_lots) refl;
      count = omega (arith, both, total);
      all = rw (append-nil (line.idle ++ back)) (rest.all);
    }
