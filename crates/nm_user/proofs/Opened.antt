-- A session's port that the fabric opened, and the one that its own side adds.
use Rattle.std.proofs.Common.{ℕ, ◌+◌, ◌^◌, ◌<◌, ◌≤◌, ◌≡◌, Bool, true, false, cond, ◌==◌, nat_eq, List, [], ◌∷◌, ◌++◌, map, take, drop, length, sym, ap, ap₂, subst, arith, refl, ◌∙◌, Option, Some, None, IfSome, inr}
use Rattle.std.specs.Prelude.{find, option_map, if◌then◌else◌}
use Rattle.std.specs.Option.{option_map_or}
use Rattle.std.specs.List.{AllByRecursion as Each, IsDistinct}
use Rattle.std.proofs.lemmas.Bool.{eq-eqb, ne_eqb, lt-ltb}
use Rattle.std.proofs.lemmas.List.{length-map}
use Rattle.std.proofs.lemmas.List.Elements.{recursion_from_All}
use Rattle.nm_types.specs.declared.fault.OpenFault.{OpenFault}
use Rattle.nm_types.specs.declared.fault.OpenFault.TheVariants.{BadSize, SwitchesFull, PortsFull, NameTaken, NoBuffers, RecordFull, NoMemory}
use Rattle.nm_types.specs.declared.id.PortSizes.{PortSizes}
use Rattle.nm_types.specs.Names.{is_name}
use Rattle.nm_types.specs.Openings.{are_sizes}
use Rattle.nm_types.specs.OwnPorts.{OwnPort, OwnState, port_with_id}
use Rattle.nm_types.specs.OwnSyncs.{buffers_of_arrivals, own_after_open}
use Rattle.nm_region.specs.Buffers.{Buffer, indices_of}
use Rattle.nm_port.specs.Regions.{SideState, AllOf, AreOf}
use Rattle.nm_own.specs.NewPorts.{NewPortState, HasRoomFor}
use Rattle.nm_own.specs.Opening.{IsNew, blank_arrivals}
use Rattle.vale_entry.specs.declared.entry.Ask.{Ask}
use Rattle.vale_entry.specs.declared.entry.Ask.TheVariants.{Open}
use Rattle.vale_entry.specs.declared.entry.Reply.{Reply}
use Rattle.vale_entry.specs.declared.entry.Reply.TheVariants.{Opened, Refused}
use Rattle.vale_entry.specs.Arrivals.{arrivals_of}
use Rattle.vale_entry.specs.Holdings.{is_buffer_index}
use Rattle.vale_entry.specs.Opening.{open_refusal}
use Rattle.vale_entry.specs.Legal.{Standing, standing_of, session_and_reply, open_step_by, can_open, fits_u32}
use Rattle.vale_entry.proofs.Counting.{count_of, count_of-cons}
use Rattle.vale_entry.proofs.HistoryLaws.{history-stands}
use Rattle.vale_entry.proofs.Worlds.{count-world_of}
use Rattle.vale_own.specs.Own.{Own, own_of}
use Rattle.vale_own.specs.Asker.{asks}
use Rattle.vale_own.specs.Side.{IsSoundSideOf, id_of}
use Rattle.vale_own.specs.SideLaws.{IsNewTo}
use Rattle.vale_own.proofs.Arriving.{arrivals-apart, buffers-come-new}
use Rattle.vale_own.proofs.Buffers.{blank-buffers}
use Rattle.vale_own.proofs.SideAsking.{open-asked}
use Rattle.vale_own.proofs.SideKept.{OpensWith, opens-with, ids-older}
use Rattle.vale_own.proofs.SideMoves.{one_if}
use Rattle.vale_own.proofs.SideOpens.{opened-allowed}
use Rattle.vale_own.proofs.Sounds.{sound-of}
use Rattle.vale_steps.specs.declared.opening.Opened.{Opened as OpenedPort}
use Rattle.vale_fabric.specs.Fabrics.{Knowing, Answers, before_in, earlier, entry_by}
use Rattle.vale_fabric.specs.Ports.{Hands, OpensNot as FabricOpensNot}
use Rattle.nm_user.specs.Sessions.{SessionState, IsThere, standing_seen, own_in}
use Rattle.nm_user.specs.Calls.{Made}
use Rattle.nm_user.specs.Ports.{OpensNot}
use Rattle.nm_user.specs.Opening.{IsReady, CanAdd, own_if}
use Rattle.nm_user.proofs.Later.{between, same-own}
use Rattle.nm_user.proofs.After.{after_call, there-still, whose, last}
use Rattle.nm_user.proofs.Plain.{has-side, asked, there-answered}

-- a session's opening
abbrev pub opening : SessionState → List ℕ → ℕ → ℕ → ℕ → Ask
opening s name tx rx extra = Open (record { 0 = s.id }) name tx rx extra

abbrev pub MayOpen : SessionState → List ℕ → ℕ → ℕ → ℕ → Type 0
MayOpen s name tx rx extra = asks (standing_seen s.fixed s.knows) s.id (opening s name tx rx extra) ≡ true

pub open-asks : {s : SessionState} (name : List ℕ) (tx rx extra : ℕ) → IsThere None s → is_name name ≡ true → tx < 2 ^ 32 → rx < 2 ^ 32 → extra < 2 ^ 32 → MayOpen s name tx rx extra
open-asks {s} name tx rx extra t named first second third =
    let one : fits_u32 tx ≡ true = lt-ltb tx (2 ^ 32) first in
    let two : fits_u32 rx ≡ true = lt-ltb rx (2 ^ 32) second in
    let three : fits_u32 extra ≡ true = lt-ltb extra (2 ^ 32) third in
    asked (opening s name tx rx extra) t (open-asked s.fixed.pool s.knows.seen (record { 0 = s.id }) None s.own name tx rx extra (has-side t) named one two three)

abbrev reply-in : Option (ℕ × Reply) → Reply
reply-in found = option_map_or (λ (made : ℕ × Reply). made.1) found Opened

-- an opening that is answered so was not refused
opened-none : (can : Bool) (refusal : Option OpenFault) (s : Standing) (session by : ℕ) (name : List ℕ) (tx rx extra : ℕ) (reply : Reply)
    → option_map session_and_reply (if can then Some (open_step_by refusal s session name tx rx extra) else None) ≡ Some (by, reply) → reply ≡ Opened → refusal ≡ None
opened-none false refusal s session by name tx rx extra reply e is = absurd cc
opened-none true None s session by name tx rx extra reply e is = refl
opened-none true (Some fault) s session by name tx rx extra reply e is = absurd (let bad : Refused fault ≡ Opened = ap reply-in e ∙ is in cc)

-- a port that is older has another id
none-older : (id : ℕ) (ports : List OwnPort) → Each (λ (n : ℕ). n < id) (map id_of ports) → find (λ (p : OwnPort). p.id.0 == id) ports ≡ None
none-older id [] all = refl
none-older id (p ∷ ports) all =
    let other : (p.id.0 == id) ≡ false = ne_eqb p.id.0 id (λ e. let less = all.0 in omega (arith, less, e)) in
    rw other (none-older id ports all.1)

-- buffers that come once each
none-same : (x : ℕ) (xs : List ℕ) → count_of x xs ≡ 0 → Each (λ y. nat_eq x y ≡ false) xs
none-same x [] none = tt
none-same x (y ∷ ys) none =
    let all = count_of-cons x y ys in
    (ne_eqb x y (λ e. let here : (y == x) ≡ true = eq-eqb y x (sym e) in let one : one_if (y == x) ≡ one_if true = ap one_if here in omega (arith, all, one, none)), none-same x ys (omega (arith, all, none)))

pub distinct-once : (xs : List ℕ) → ((b : ℕ) → count_of b xs ≤ 1) → IsDistinct nat_eq xs
unfolding IsDistinct
distinct-once [] once = tt
distinct-once (x ∷ xs) once =
    let all = count_of-cons x x xs in
    let here : one_if (x == x) ≡ one_if true = ap one_if (eq-eqb x x refl) in
    let one = once x in
    (none-same x xs (omega (arith, all, here, one)), distinct-once xs (λ b. let more = count_of-cons b x xs in let few = once b in omega (arith, more, few)))

pub once-by : (n m : ℕ) (is : Bool) → n + m ≤ cond is 1 0 → m ≤ 1
once-by n m true le = omega (arith, le)
once-by n m false le = omega (arith, le)

pub each-new : (pool : ℕ) (side : OwnState) (bs : List ℕ) → side.pool ≡ pool → Each (IsNewTo pool side) bs → Each (IsNew side) bs
each-new pool side [] is all = tt
each-new pool side (b ∷ bs) is all = ((rw is all.0.index, all.0.no_bytes), each-new pool side bs is all.1)

abbrev now_at : SessionState → Knowing → Standing
now_at s w = standing_of s.fixed.pool (earlier w.seen)

-- the buffers of an opened port
abbrev bufs_at : Standing → ℕ → ℕ → ℕ → List ℕ
bufs_at now tx rx extra = take tx now.holdings.free ++ take extra (drop (tx + rx) now.holdings.free)

-- what is known once the fabric has opened the port
pub record IsOpened (s : SessionState) (w : Knowing) (name : List ℕ) (tx rx extra number : ℕ) : Type 0 where
  pub sizes : are_sizes name tx rx extra ≡ true
  pub lists : OpensWith (now_at s w).holdings.free tx rx extra
  pub id : port_with_id s.own number ≡ None
  pub away : Each (IsNew s.own) (bufs_at (now_at s w) tx rx extra)
  pub once : IsDistinct nat_eq (bufs_at (now_at s w) tx rx extra)

-- a side that has something is there
side-there : (own : Option SideState) (has : OwnState) → own_if own ≡ Some has → (side : SideState) × (own ≡ Some side)
side-there None has is = absurd cc
side-there (Some side) has is = (side, refl)

own-there : (own : Option SideState) (has : OwnState) → own_if own ≡ Some has → own_in own ≡ has
own-there None has is = absurd cc
own-there (Some side) has is = let same : side.own ≡ has = cc in same

-- the session once its own side has the port
pub record IsAdded (s : SessionState) (w : Knowing) (own : Option SideState) (ask : Ask) : Type 0 where
  pub side : SideState
  pub side_is : own ≡ Some side
  pub there : IsThere None (record s { knows = w; own = own_in own })
  pub made : Made s (record s { knows = w; own = own_in own }) ask Opened

module _ (s : SessionState) (w : Knowing) (name : List ℕ) (tx rx extra : ℕ) (t : IsThere None s) (may : MayOpen s name tx rx extra) where
  abbrev ask : Ask
  ask = opening s name tx rx extra

  abbrev now : Standing
  now = now_at s w

  abbrev bufs : List ℕ
  bufs = bufs_at now tx rx extra

  pub is-opened : Answers s.fixed s.knows w ask Opened → IsOpened s w name tx rx extra (length w.seen)
  is-opened a =
      let pool = s.fixed.pool in
      let h = earlier w.seen in
      let m = a.makes in
      let e = entry_by m.session ask m.reply in
      let l = last m in
      let none = opened-none (can_open now.world s.id name tx rx extra) (open_refusal now.world name tx rx extra) now s.id m.session name tx rx extra m.reply m.steps a.reply_is in
      let stands = history-stands pool h l.legal in
      let b = between s.id m t.come t.speaks in
      let side : IsSoundSideOf pool s.id None (own_of s.id now) s.own = subst (λ (o : Own). IsSoundSideOf pool s.id None o s.own) (sym (same-own b)) t.side in
      let own-side : IsSoundSideOf pool m.session None (own_of m.session now) s.own = subst (λ (n : ℕ). IsSoundSideOf pool n None (own_of n now) s.own) (sym (whose t m refl may)) side in
      let come : buffers_of_arrivals (arrivals_of now ask m.reply) ≡ bufs = ap (λ (r : Reply). buffers_of_arrivals (arrivals_of now ask r)) a.reply_is ∙ blank-buffers bufs in
      let new = recursion_from_All (IsNewTo pool s.own) _ (buffers-come-new pool h e None s.own l.legal l.follows own-side) in
      let older = ids-older pool now None s.own stands (sound-of pool h l.legal) s.id side in
      let number : now.world.entry_count + 1 ≡ length w.seen = ap (λ (n : ℕ). n + 1) (count-world_of pool h) ∙ sym l.count in
      record {
        sizes = opened-allowed now.world name tx rx extra none;
        lists = opens-with pool now name tx rx extra stands none;
        id = none-older (length w.seen) s.own.ports (subst (λ (n : ℕ). Each (λ (k : ℕ). k < n) (map id_of s.own.ports)) number older);
        away = each-new pool s.own bufs side.of.pool_is (subst (Each (IsNewTo pool s.own)) come new);
        once = distinct-once bufs (λ x. once-by (count_of x (own_of m.session now).buffers) (count_of x bufs) (is_buffer_index pool x) (rw (← ap (count_of x) come) (arrivals-apart pool h e x l.legal l.follows)));
      }

  -- so its own side can add it
  module _ (a : Answers s.fixed s.knows w ask Opened) (opened : OpenedPort) (number : opened.port.0 ≡ length w.seen) (hands : Hands (before_in s.fixed w) tx rx extra opened) where
    came : indices_of opened.tx.items ++ indices_of opened.extra.items ≡ bufs
    came = ap₂ (λ (xs ys : List ℕ). xs ++ ys) hands.tx_are hands.extra_are

    pub can-add : (own : Option SideState) (new : Option NewPortState) (side : SideState) → own ≡ Some side → side.own ≡ s.own → IsReady s.own name tx rx extra new → CanAdd own new opened
    can-add own None side is same ready = absurd (let sizes = (is-opened a).sizes in cc)
    can-add own (Some port) side is same ready =
        let k = is-opened a in
        record {
          side = side;
          side_is = is;
          port = port;
          port_is = refl;
          tx = sym (length-map opened.tx.items (λ (b : Buffer). b.index)) ∙ (ap (λ (xs : List ℕ). length xs) hands.tx_are ∙ (k.lists.front ∙ sym (ap (λ z. z.tx) ready.1)));
          extra = sym (length-map opened.extra.items (λ (b : Buffer). b.index)) ∙ (ap (λ (xs : List ℕ). length xs) hands.extra_are ∙ (k.lists.behind ∙ sym (ap (λ z. z.extra) ready.1)));
          room = subst (λ (o : OwnState). HasRoomFor o port) (sym same) ready.2;
          id = subst (λ (o : OwnState). port_with_id o opened.port.0 ≡ None) (sym same) (subst (λ (n : ℕ). port_with_id s.own n ≡ None) (sym number) k.id);
          away = subst (λ (o : OwnState). Each (IsNew o) (indices_of opened.tx.items ++ indices_of opened.extra.items)) (sym same) (subst (Each (IsNew s.own)) (sym came) k.away);
          once = subst (IsDistinct nat_eq) (sym came) k.once;
        }

    abbrev added : ℕ → List ℕ → ℕ → ℕ → List ℕ → OwnState → Option OwnState
    added n label slots places idxs side = Some (own_after_open n label slots places (blank_arrivals idxs) side)

    own-added : (old own : Option SideState) (new : Option NewPortState) (side : SideState) → old ≡ Some side → side.own ≡ s.own → IsReady s.own name tx rx extra new
        → IfSome old (λ side. IfSome new (λ port. own_if own ≡ added opened.port.0 port.name port.sizes.tx port.sizes.rx (indices_of opened.tx.items ++ indices_of opened.extra.items) side.own))
        → own_if own ≡ Some (after_call s w ask Opened).own
    own-added old own None side was same ready made = absurd (let sizes = (is-opened a).sizes in cc)
    own-added old own (Some port) side was same ready made =
        let idxs = indices_of opened.tx.items ++ indices_of opened.extra.items in
        subst (λ (o : Option SideState). IfSome o (λ (at : SideState). own_if own ≡ added opened.port.0 port.name port.sizes.tx port.sizes.rx idxs at.own)) was made
        ∙ (ap (λ (o : OwnState). added opened.port.0 port.name port.sizes.tx port.sizes.rx idxs o) same
        ∙ (ap (λ (n : ℕ). added n port.name port.sizes.tx port.sizes.rx idxs s.own) number
        ∙ (ap (λ (label : List ℕ). added (length w.seen) label port.sizes.tx port.sizes.rx idxs s.own) ready.0
        ∙ (ap (λ (z : PortSizes). added (length w.seen) name z.tx z.rx idxs s.own) ready.1
        ∙ ap (λ (all : List ℕ). added (length w.seen) name tx rx all s.own) came))))

    pub is-added : (old own : Option SideState) (new : Option NewPortState) (side : SideState) → old ≡ Some side → side.own ≡ s.own → IsReady s.own name tx rx extra new
        → IfSome old (λ side. IfSome new (λ port. own_if own ≡ added opened.port.0 port.name port.sizes.tx port.sizes.rx (indices_of opened.tx.items ++ indices_of opened.extra.items) side.own))
        → IsAdded s w own ask
    is-added old own new side was same ready made =
        let has = own-added old own new side was same ready made in
        let there = side-there own _ has in
        let now = own-there own (after_call s w ask Opened).own has in
        record {
          side = there.0;
          side_is = there.1;
          there = subst (λ (o : OwnState). IsThere None (record s { knows = w; own = o })) (sym now) (there-answered t may a refl refl tt);
          made = record { answers = a; fabric = refl; fixed = refl; id = refl; user = refl; own = now };
        }

  pub unopened-there : (fault : OpenFault) → FabricOpensNot s.fixed s.knows w ask fault → IsThere None (record s { knows = w })
  unopened-there BadSize a = there-answered t may a refl refl tt
  unopened-there SwitchesFull a = there-answered t may a refl refl tt
  unopened-there PortsFull a = there-answered t may a refl refl tt
  unopened-there NameTaken a = there-answered t may a refl refl tt
  unopened-there (NoBuffers want have) a = there-answered t may a refl refl tt
  unopened-there (RecordFull what used want) a = there-still t a.none
  unopened-there NoMemory a = there-still t a.none

module _ (s : SessionState) (w : Knowing) (name : List ℕ) (tx rx extra : ℕ) where
  said : (fault : OpenFault) → Answers s.fixed s.knows w (opening s name tx rx extra) (Refused fault) → Made s (record s { knows = w }) (opening s name tx rx extra) (Refused fault)
  said fault a = record { answers = a; fabric = refl; fixed = refl; id = refl; user = refl; own = refl }

  pub unopened : (fault : OpenFault) → FabricOpensNot s.fixed s.knows w (opening s name tx rx extra) fault → OpensNot s (record s { knows = w }) (opening s name tx rx extra) fault
  unopened BadSize a = said BadSize a
  unopened SwitchesFull a = said SwitchesFull a
  unopened PortsFull a = said PortsFull a
  unopened NameTaken a = said NameTaken a
  unopened (NoBuffers want have) a = said (NoBuffers want have) a
  unopened (RecordFull what used want) a = record { refused = inr a; same = refl }
  unopened NoMemory a = record { refused = inr a; same = refl }

-- the buffers of a side that a port is added to are of the region of those that were there and those that came
pub opened-region : (region : ℕ) (old new : Option SideState) (was grown : SideState) (tx extra : List Buffer) → old ≡ Some was → new ≡ Some grown → AllOf region was
    → (IfSome old (AllOf region) → AreOf region tx → AreOf region extra → IfSome new (AllOf region)) → AreOf region tx × AreOf region extra → AllOf region grown
opened-region region old new was grown tx extra had has all grows come =
    let before : IfSome old (AllOf region) = subst (λ (o : Option SideState). IfSome o (AllOf region)) (sym had) all in
    subst (λ (o : Option SideState). IfSome o (AllOf region)) has (grows before come.0 come.1)
