-- A desk's port that the book opened, and the one that its own side adds.
use Rattle.std.proofs.Common.{ℕ, ◌+◌, ◌^◌, ◌<◌, ◌≤◌, ◌≡◌, Bool, true, false, cond, ◌==◌, nat_eq, List, [], ◌∷◌, ◌++◌, map, take, drop, length, sym, ap, ap₂, subst, arith, refl, ◌∙◌, Option, Some, None, IfSome}
use Rattle.std.specs.Prelude.{find, option_map, if◌then◌else◌}
use Rattle.std.specs.Option.{option_map_or}
use Rattle.std.specs.List.{AllByRecursion as Each, IsDistinct}
use Rattle.std.proofs.lemmas.Bool.{eq-eqb, ne_eqb, lt-ltb}
use Rattle.std.proofs.lemmas.List.{length-map}
use Rattle.std.proofs.lemmas.List.Elements.{recursion_from_All}
use Rattle.nm_types.specs.declared.fault.OpenFault.{OpenFault}
use Rattle.nm_types.specs.declared.fault.OpenFault.TheVariants.{BadSize, SwitchesFull, PortsFull, NameTaken, NoBuffers, RecordFull, NoMemory}
use Rattle.nm_types.specs.declared.id.PortSizes.{PortSizes}
use Rattle.nm_types.specs.Names.{is_name}
use Rattle.nm_types.specs.Openings.{are_sizes}
use Rattle.nm_types.specs.OwnPorts.{OwnPort, OwnState, port_with_id}
use Rattle.nm_types.specs.OwnSyncs.{buffers_of_arrivals, own_after_open}
use Rattle.nm_region.specs.Buffers.{Buffer, indices_of}
use Rattle.nm_port.specs.Regions.{SideState, AllOf, AreOf}
use Rattle.nm_own.specs.NewPorts.{NewPortState, HasRoomFor}
use Rattle.nm_own.specs.Opening.{IsNew, blank_arrivals}
use Rattle.vale_entry.specs.declared.entry.Ask.{Ask}
use Rattle.vale_entry.specs.declared.entry.Ask.TheVariants.{Open}
use Rattle.vale_entry.specs.declared.entry.Entry.{Entry}
use Rattle.vale_entry.specs.declared.entry.Reply.{Reply}
use Rattle.vale_entry.specs.declared.entry.Reply.TheVariants.{Opened, Refused}
use Rattle.vale_entry.specs.Arrivals.{arrivals_of}
use Rattle.vale_entry.specs.Holdings.{is_buffer_index}
use Rattle.vale_entry.specs.Opening.{open_refusal}
use Rattle.vale_entry.specs.Legal.{Standing, IsEnabled, session_and_reply, open_step_by, can_open, fits_u32, entry_by, Follows}
use Rattle.vale_entry.proofs.Counting.{count_of, count_of-cons}
use Rattle.vale_entry.proofs.HistoryLaws.{history-stands}
use Rattle.vale_entry.proofs.Worlds.{count-world_of}
use Rattle.vale_own.specs.Own.{own_of}
use Rattle.vale_own.specs.Recorded.{Recorded, standing, IsRecordedAs}
use Rattle.vale_own.specs.Side.{id_of}
use Rattle.vale_own.specs.SideAsks.{MayAsk, IsMade}
use Rattle.vale_own.specs.SideLaws.{IsNewTo}
use Rattle.vale_own.proofs.Arriving.{arrivals-apart, buffers-come-new}
use Rattle.vale_own.proofs.Buffers.{blank-buffers}
use Rattle.vale_own.proofs.SideAsking.{open-asked}
use Rattle.vale_own.proofs.SideKept.{OpensWith, opens-with, ids-older}
use Rattle.vale_own.proofs.SideMoves.{one_if}
use Rattle.vale_own.proofs.SideOpens.{opened-allowed}
use Rattle.vale_own.proofs.Sounds.{sound-of}
use Rattle.vale_steps.specs.declared.opening.Opened.{Opened as OpenedPort}
use Rattle.vale_book.specs.OpenAnswers.{IsUnopened}
use Rattle.nm_desk.specs.Desks.{DeskState, IsDeskOf, side_in, side_of, desk_of}
use Rattle.nm_desk.specs.Calls.{Made}
use Rattle.nm_desk.specs.Opening.{IsReady, CanAdd, OpensNot, own_if}
use Rattle.nm_desk.proofs.OneStep.{may-enabled, mine-by, step-of, step-by, grown, counted}
use Rattle.nm_desk.proofs.Plain.{none-made}

-- a desk's opening
abbrev pub opening : DeskState → List ℕ → ℕ → ℕ → ℕ → Ask
opening d name tx rx extra = Open (record { 0 = d.id }) name tx rx extra

pub may-open : (b : Recorded) (d : DeskState) (name : List ℕ) (tx rx extra : ℕ) → IsDeskOf b d → is_name name ≡ true → tx < 2 ^ 32 → rx < 2 ^ 32 → extra < 2 ^ 32 → MayAsk b.pool b.entries d.id (opening d name tx rx extra)
may-open b d name tx rx extra is named first second third =
    let one : fits_u32 tx ≡ true = lt-ltb tx (2 ^ 32) first in
    let two : fits_u32 rx ≡ true = lt-ltb rx (2 ^ 32) second in
    let three : fits_u32 extra ≡ true = lt-ltb extra (2 ^ 32) third in
    open-asked b.pool b.entries (record { 0 = d.id }) d.shut d.own name tx rx extra is.side named one two three

abbrev reply-in : Option (ℕ × Reply) → Reply
reply-in found = option_map_or (λ (made : ℕ × Reply). made.1) found Opened

-- an opening that is answered so was not refused
opened-none : (can : Bool) (refusal : Option OpenFault) (s : Standing) (session by : ℕ) (name : List ℕ) (tx rx extra : ℕ) (reply : Reply)
    → option_map session_and_reply (if can then Some (open_step_by refusal s session name tx rx extra) else None) ≡ Some (by, reply) → reply ≡ Opened → refusal ≡ None
opened-none false refusal s session by name tx rx extra reply e is = absurd cc
opened-none true None s session by name tx rx extra reply e is = refl
opened-none true (Some fault) s session by name tx rx extra reply e is = absurd (let bad : Refused fault ≡ Opened = ap reply-in e ∙ is in cc)

-- a port that is older has another id
none-older : (id : ℕ) (ports : List OwnPort) → Each (λ (n : ℕ). n < id) (map id_of ports) → find (λ (p : OwnPort). p.id.0 == id) ports ≡ None
none-older id [] all = refl
none-older id (p ∷ ports) all =
    let other : (p.id.0 == id) ≡ false = ne_eqb p.id.0 id (λ e. let less = all.0 in omega (arith, less, e)) in
    rw other (none-older id ports all.1)

-- buffers that come once each
none-same : (x : ℕ) (xs : List ℕ) → count_of x xs ≡ 0 → Each (λ y. nat_eq x y ≡ false) xs
none-same x [] none = tt
none-same x (y ∷ ys) none =
    let all = count_of-cons x y ys in
    (ne_eqb x y (λ e. let here : (y == x) ≡ true = eq-eqb y x (sym e) in let one : one_if (y == x) ≡ one_if true = ap one_if here in omega (arith, all, one, none)), none-same x ys (omega (arith, all, none)))

pub distinct-once : (xs : List ℕ) → ((b : ℕ) → count_of b xs ≤ 1) → IsDistinct nat_eq xs
unfolding IsDistinct
distinct-once [] once = tt
distinct-once (x ∷ xs) once =
    let all = count_of-cons x x xs in
    let here : one_if (x == x) ≡ one_if true = ap one_if (eq-eqb x x refl) in
    let one = once x in
    (none-same x xs (omega (arith, all, here, one)), distinct-once xs (λ b. let more = count_of-cons b x xs in let few = once b in omega (arith, more, few)))

pub once-by : (n m : ℕ) (is : Bool) → n + m ≤ cond is 1 0 → m ≤ 1
once-by n m true le = omega (arith, le)
once-by n m false le = omega (arith, le)

pub each-new : (pool : ℕ) (side : OwnState) (bs : List ℕ) → side.pool ≡ pool → Each (IsNewTo pool side) bs → Each (IsNew side) bs
each-new pool side [] is all = tt
each-new pool side (b ∷ bs) is all = ((rw is all.0.index, all.0.no_bytes), each-new pool side bs is all.1)

-- the buffers of an opened port
abbrev bufs_at : Standing → ℕ → ℕ → ℕ → List ℕ
bufs_at now tx rx extra = take tx now.holdings.free ++ take extra (drop (tx + rx) now.holdings.free)

-- what is known once the book has opened the port
record IsOpened (b : Recorded) (d : DeskState) (name : List ℕ) (tx rx extra : ℕ) : Type 0 where
  sizes : are_sizes name tx rx extra ≡ true
  lists : OpensWith (standing b).holdings.free tx rx extra
  id : port_with_id d.own (length b.entries + 1) ≡ None
  away : Each (IsNew d.own) (bufs_at (standing b) tx rx extra)
  once : IsDistinct nat_eq (bufs_at (standing b) tx rx extra)

-- a side that has something is there
side-there : (own : Option SideState) (has : OwnState) → own_if own ≡ Some has → (side : SideState) × ((own ≡ Some side) × (side.own ≡ has))
side-there None has is = absurd cc
side-there (Some side) has is = let same : side.own ≡ has = cc in (side, (refl, same))

module _ (b new : Recorded) (d : DeskState) (name : List ℕ) (tx rx extra : ℕ) (is : IsDeskOf b d) (whole : d.shut ≡ None) (may : MayAsk b.pool b.entries d.id (opening d name tx rx extra)) where
  abbrev ask : Ask
  ask = opening d name tx rx extra

  abbrev now : Standing
  now = standing b

  abbrev bufs : List ℕ
  bufs = bufs_at now tx rx extra

  pub enabled : IsEnabled (standing b) ask
  enabled = may-enabled b d ask is may

  is-opened : IsMade b.pool b.entries d.id ask Opened → IsOpened b d name tx rx extra
  is-opened mine =
      let pool = b.pool in
      let h = b.entries in
      let e : Entry = entry_by d.id ask Opened in
      let follows : Follows now e = mine in
      let none = opened-none (can_open now.world d.id name tx rx extra) (open_refusal now.world name tx rx extra) now d.id d.id name tx rx extra Opened mine refl in
      let stands = history-stands pool h is.side.legal in
      let come : buffers_of_arrivals (arrivals_of now ask Opened) ≡ bufs = blank-buffers bufs in
      let news = recursion_from_All (IsNewTo pool d.own) _ (buffers-come-new pool h e d.shut d.own is.side.legal follows is.side.of) in
      let older = ids-older pool now d.shut d.own stands (sound-of pool h is.side.legal) d.id is.side.of in
      let number : now.world.entry_count + 1 ≡ length h + 1 = ap (λ (n : ℕ). n + 1) (count-world_of pool h) in
      record {
        sizes = opened-allowed now.world name tx rx extra none;
        lists = opens-with pool now name tx rx extra stands none;
        id = none-older (length h + 1) d.own.ports (subst (λ (n : ℕ). Each (λ (k : ℕ). k < n) (map id_of d.own.ports)) number older);
        away = each-new pool d.own bufs is.side.of.of.pool_is (subst (Each (IsNewTo pool d.own)) come news);
        once = distinct-once bufs (λ x. once-by (count_of x (own_of d.id now).buffers) (count_of x bufs) (is_buffer_index pool x) (rw (← ap (count_of x) come) (arrivals-apart pool h e x is.side.legal follows)));
      }

  -- so its own side can add it
  module _ (opened : OpenedPort) (a : IsRecordedAs b new ask Opened) (at : opened.port.0 ≡ length new.entries)
      (tx_are : indices_of opened.tx.items ≡ take tx (standing b).holdings.free) (extra_are : indices_of opened.extra.items ≡ take extra (drop (tx + rx) (standing b).holdings.free)) where
    mine : IsMade b.pool b.entries d.id ask Opened
    mine = mine-by b d ask Opened is may a.reply_is

    number : opened.port.0 ≡ length b.entries + 1
    number = at ∙ counted b new d.id ask Opened (grown b new d.id ask Opened mine a.entry)

    came : indices_of opened.tx.items ++ indices_of opened.extra.items ≡ bufs
    came = ap₂ (λ (xs ys : List ℕ). xs ++ ys) tx_are extra_are

    pub can-add : (own : Option SideState) (port : Option NewPortState) (side : SideState) → own ≡ Some side → side.own ≡ d.own → IsReady d.own name tx rx extra port → CanAdd own port opened
    can-add own None side had same ready = absurd (let sizes = (is-opened mine).sizes in cc)
    can-add own (Some port) side had same ready =
        let k = is-opened mine in
        record {
          side = side;
          side_is = had;
          port = port;
          port_is = refl;
          tx = sym (length-map opened.tx.items (λ (x : Buffer). x.index)) ∙ (ap (λ (xs : List ℕ). length xs) tx_are ∙ (k.lists.front ∙ sym (ap (λ z. z.tx) ready.1)));
          extra = sym (length-map opened.extra.items (λ (x : Buffer). x.index)) ∙ (ap (λ (xs : List ℕ). length xs) extra_are ∙ (k.lists.behind ∙ sym (ap (λ z. z.extra) ready.1)));
          room = subst (λ (o : OwnState). HasRoomFor o port) (sym same) ready.2;
          id = subst (λ (o : OwnState). port_with_id o opened.port.0 ≡ None) (sym same) (subst (λ (n : ℕ). port_with_id d.own n ≡ None) (sym number) k.id);
          away = subst (λ (o : OwnState). Each (IsNew o) (indices_of opened.tx.items ++ indices_of opened.extra.items)) (sym same) (subst (Each (IsNew d.own)) (sym came) k.away);
          once = subst (IsDistinct nat_eq) (sym came) k.once;
        }

    abbrev added : ℕ → List ℕ → ℕ → ℕ → List ℕ → OwnState → Option OwnState
    added n label slots places idxs side = Some (own_after_open n label slots places (blank_arrivals idxs) side)

    own-added : (old own : Option SideState) (port : Option NewPortState) (side : SideState) → old ≡ Some side → side.own ≡ d.own → IsReady d.own name tx rx extra port
        → IfSome old (λ side. IfSome port (λ port. own_if own ≡ added opened.port.0 port.name port.sizes.tx port.sizes.rx (indices_of opened.tx.items ++ indices_of opened.extra.items) side.own))
        → own_if own ≡ added (length b.entries + 1) name tx rx bufs d.own
    own-added old own None side was same ready made = absurd (let sizes = (is-opened mine).sizes in cc)
    own-added old own (Some port) side was same ready made =
        let idxs = indices_of opened.tx.items ++ indices_of opened.extra.items in
        subst (λ (o : Option SideState). IfSome o (λ (s : SideState). own_if own ≡ added opened.port.0 port.name port.sizes.tx port.sizes.rx idxs s.own)) was made
        ∙ (ap (λ (o : OwnState). added opened.port.0 port.name port.sizes.tx port.sizes.rx idxs o) same
        ∙ (ap (λ (n : ℕ). added n port.name port.sizes.tx port.sizes.rx idxs d.own) number
        ∙ (ap (λ (label : List ℕ). added (length b.entries + 1) label port.sizes.tx port.sizes.rx idxs d.own) ready.0
        ∙ (ap (λ (z : PortSizes). added (length b.entries + 1) name z.tx z.rx idxs d.own) ready.1
        ∙ ap (λ (all : List ℕ). added (length b.entries + 1) name tx rx all d.own) came))))

    -- the desk once its own side has the port
    pub record IsAdded (own : Option SideState) : Type 0 where
      pub side : SideState
      pub side_is : own ≡ Some side
      pub made : Made b new d (desk_of d.id d.shut (side_in own)) ask Opened

    pub is-added : (old own : Option SideState) (port : Option NewPortState) (side : SideState) → old ≡ Some side → side ≡ side_of d → IsReady d.own name tx rx extra port
        → IfSome old (λ side. IfSome port (λ port. own_if own ≡ added opened.port.0 port.name port.sizes.tx port.sizes.rx (indices_of opened.tx.items ++ indices_of opened.extra.items) side.own))
        → (IfSome old (AllOf b.region) → AreOf b.region opened.tx.items → AreOf b.region opened.extra.items → IfSome own (AllOf b.region)) → AreOf b.region opened.tx.items × AreOf b.region opened.extra.items
        → IsAdded own
    is-added old own port side was same ready made grows come =
        let same-own : side.own ≡ d.own = ap (λ (s : SideState). s.own) same in
        let there = side-there own (own_after_open (length b.entries + 1) name tx rx (blank_arrivals bufs) d.own) (own-added old own port side was same-own ready made) in
        let before : IfSome old (AllOf b.region) = subst (λ (o : Option SideState). IfSome o (AllOf b.region)) (sym was) (subst (AllOf b.region) (sym same) is.region) in
        let all : AllOf b.region there.0 = subst (λ (o : Option SideState). IfSome o (AllOf b.region)) there.1.0 (grows before come.0 come.1) in
        let after : DeskState = desk_of d.id d.shut there.0 in
        record {
          side = there.0;
          side_is = there.1.0;
          made = subst (λ (o : Option SideState). Made b new d (desk_of d.id d.shut (side_in o)) ask Opened) (sym there.1.0)
              (step-of b new d after ask Opened is mine whole a.entry a.room (ap (λ (o : OwnState). record after { own = o }) there.1.1) all);
        }

  -- where the book refuses it
  said : (fault : OpenFault) → IsRecordedAs b new ask (Refused fault) → Made b new d d ask (Refused fault)
  said fault a = step-by b new d d ask (Refused fault) is may (λ m. whole) a.entry a.reply_is a.room refl is.region

  pub unopened : (fault : OpenFault) → IsUnopened b new ask fault → OpensNot b new d d ask fault
  unopened BadSize a = said BadSize a
  unopened SwitchesFull a = said SwitchesFull a
  unopened PortsFull a = said PortsFull a
  unopened NameTaken a = said NameTaken a
  unopened (NoBuffers want have) a = said (NoBuffers want have) a
  unopened (RecordFull what used want) a = none-made b new d ask _ a.1 a.0
  unopened NoMemory a = none-made b new d ask _ a.1 a.0
