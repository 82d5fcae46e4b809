-- The offers of an entry that was just made are at hand: its session, which was settled before, has no
-- others, and no lease.
use Rattle.std.proofs.Common.{ℕ, ◌+◌, ◌≤◌, ◌≡◌, Bool, true, false, ◌||◌, List, [], ◌∷◌, ◌++◌, length, sum_by, Option, Some, None, refl, sym, ◌∙◌, ap, subst, arith, nat_le, length-append}
use Rattle.std.specs.Option.{option_map_or}
use Rattle.std.proofs.lemmas.Bool.{and_parts}
use Rattle.nm_types.specs.Frames.{Frame}
use Rattle.nm_types.specs.Limits.{most_batch, most_pool}
use Rattle.nm_types.specs.Names.{is_pipe_name, is_switch_port_name, is_monitor_name}
use Rattle.nm_types.specs.declared.id.PortId.{PortId}
use Rattle.nm_turn.specs.Shares.{IsWhole}
use Rattle.vale_batch.specs.Wants.{Wanted}
use Rattle.vale_entry.specs.declared.entry.Ask.{Ask}
use Rattle.vale_entry.specs.declared.entry.Ask.TheVariants.{Send, Put, PutKept}
use Rattle.vale_entry.specs.declared.entry.Item.{Item}
use Rattle.vale_entry.specs.declared.entry.Reply.{Reply}
use Rattle.vale_entry.specs.declared.entry.Reply.TheVariants.{Took}
use Rattle.vale_entry.specs.World.{Offer, open_port}
use Rattle.vale_entry.specs.Pipe.{peer_of}
use Rattle.vale_entry.specs.Legal.{Standing, standing_of, world_of, kept_ask, is_met, IsLegal}
use Rattle.vale_entry.proofs.Worlds.{count-world_of}
use Rattle.vale_own.specs.Own.{Own, HeldLot, own_of, is_empty, is_settled_own}
use Rattle.vale_own.specs.OwnAsks.{may_ask, may_send, may_sync, may_get, may_put, may_receive}
use Rattle.vale_own.specs.OwnEntries.{own_after_entry, own_sent, own_received, own_put, own_put_at}
use Rattle.vale_own.specs.Asker.{is_enter}
use Rattle.vale_own.proofs.Asking.{own-tells}
use Rattle.vale_own.proofs.OwnEntry.{own-entries}
use Rattle.vale_own.proofs.OwnKept.{legal-split}
use Rattle.vale_own.proofs.Reading.{offers-left}
use Rattle.vale_parts.specs.Batches.{AreOffersOf}
use Rattle.vale_parts.specs.Offering.{offers_at, offers_started}
use Rattle.vale_parts.proofs.OffersKept.{offers_start}
use Rattle.vale_port.specs.Kept.{bytes_of}
use Rattle.vale_book.specs.Monitored.{IsOfferedTo}
use Rattle.vale_book.specs.Putting.{copied}
use Rattle.vale_book.specs.Offering.{OffersState}
use Rattle.vale_book.specs.Reading.{read_ask}
use Rattle.vale_book.specs.Recorded.{Recorded, standing, entry_of}
use Rattle.vale_fabric.specs.declared.kept.Fixed.{Fixed}
use Rattle.vale_fabric.specs.Fabrics.{Knowing, MayAsk, fixed_in}
use Rattle.vale_fabric.specs.declared.fabric.Fabric.{Fabric}
use Rattle.vale_fabric.specs.Settling.{HasBytes, IsAtHand}
use Rattle.vale_fabric.specs.Steps.{IsTaken, IsPutBack}
use Rattle.vale_fabric.proofs.Acting.{Acts, acted}
use Rattle.vale_fabric.proofs.FewWanted.{offered, few-started, wanted-sum}
use Rattle.vale_book.proofs.Said.{stored}
use Rattle.vale_fabric.proofs.Making.{whose-now, may-now}
use Rattle.vale_book.proofs.OffersHeld.{Next, next-of}
use Rattle.vale_fabric.proofs.Speaking.{speaks-on, offers-by}

-- ---- which asks are of settled sessions

met : {X : Type 0} (test : X → Bool) (found : Option X) → is_met test found ≡ true → (x : X) × (test x ≡ true)
met test None e = absurd cc
met test (Some x) e = (x, e)

abbrev pub IsOfSettled : ℕ → Ask → Type 0
IsOfSettled session ask = (own : Own) → may_ask session own ask ≡ true → is_settled_own own ≡ true

pub sends-settled : (session : ℕ) (port : PortId) (frames : List Frame) → IsOfSettled session (Send port frames)
sends-settled session port frames own e =
    let x = met (may_send own frames) (open_port own.ports port.0) e in
    let two = and_parts (is_switch_port_name x.0.name) _ x.1 in
    (and_parts (is_settled_own own) _ two.1).0

pub reads-settled : (session : ℕ) (pipe : Bool) (port : PortId) (back : List ℕ) → IsOfSettled session (read_ask pipe port back)
reads-settled session false port back own e =
    let x = met (may_sync own back) (open_port own.ports port.0) e in
    let two = and_parts (is_switch_port_name x.0.name || is_monitor_name x.0.name) (may_receive own back x.0) x.1 in
    (and_parts (is_settled_own own) _ two.1).0
reads-settled session true port back own e =
    let x = met (may_get own back) (open_port own.ports port.0) e in
    let two = and_parts (is_pipe_name x.0.name) (may_receive own back x.0) x.1 in
    (and_parts (is_settled_own own) _ two.1).0

pub puts-settled : (session : ℕ) (port : PortId) (items : List Item) → IsOfSettled session (Put port items)
puts-settled session port items own e =
    let x = met (may_put own items) (open_port own.ports port.0) e in
    let one = and_parts _ (nat_le (length items) most_batch) x.1 in
    let two = and_parts (is_pipe_name x.0.name) _ one.0 in
    (and_parts (is_settled_own own) _ two.1).0

-- ---- none of them brings a lease

abbrev pub KeepsLeases : Standing → Ask → Reply → Type 0
KeepsLeases s ask reply = (own : Own) → (own_after_entry s (kept_ask ask) reply own).leases ≡ own.leases

kept-at : {X : Type 0} (change : X → Own) (found : Option X) (own : Own) → ((x : X) → (change x).leases ≡ own.leases) → (option_map_or change found own).leases ≡ own.leases
kept-at change None own all = refl
kept-at change (Some x) own all = all x

pub sends-keep : (s : Standing) (port : PortId) (frames : List Frame) (reply : Reply) → KeepsLeases s (Send port frames) reply
sends-keep s port frames reply own = kept-at (own_sent s frames own) (open_port s.world.ports port.0) own (λ p. refl)

pub reads-keep : (s : Standing) (pipe : Bool) (port : PortId) (back : List ℕ) (reply : Reply) → KeepsLeases s (read_ask pipe port back) reply
reads-keep s true port back reply own = kept-at (own_received s back own) (open_port s.world.ports port.0) own (λ p. refl)
reads-keep s false port back reply own = kept-at (own_received s back own) (open_port s.world.ports port.0) own (λ p. refl)

pub puts-keep : (s : Standing) (port : PortId) (offered items : List Item) (reply : Reply) (to : _) → reply ≡ Took items to → KeepsLeases s (Put port offered) reply
puts-keep s port offered items reply to said own =
    subst (λ (r : Reply). (own_after_entry s (PutKept port (length offered)) r own).leases ≡ own.leases) (sym said)
    (kept-at (own_put_at s items own) (open_port s.world.ports port.0) own (λ p. kept-at (own_put s items own p) (peer_of s.world.ports p) own (λ peer. refl)))

-- ---- at hand

no-leases : (leases : List HeldLot) → is_empty leases ≡ true → leases ≡ []
no-leases [] e = refl
no-leases (l ∷ ls) e = absurd cc

offers-count : (frames : List Frame) (wants : List Wanted) (offers : List Offer) → AreOffersOf frames wants offers → length offers ≡ length wants
offers-count frames [] [] are = refl
offers-count frames [] (o ∷ os) are = absurd are
offers-count frames (w ∷ ws) [] are = absurd are
offers-count frames (w ∷ ws) (o ∷ os) are = let rest = offers-count frames ws os are.1 in omega (arith, rest)

-- a pool has at most `most_pool` buffers
pub low-pool : (fabric : Fabric) → (fixed_in fabric).pool ≤ most_pool
low-pool fabric =
    let is = fabric.pool in
    let most = fabric.size.1 in
    omega (arith, is, most)

pub hand-on : {fixed : Fixed} {v entered w : Knowing} {b after : Recorded} {ask : Ask} (o : OffersState) (bytes : List (List ℕ)) (may : MayAsk fixed v ask) → fixed.pool ≤ most_pool → IsTaken fixed v entered b
    → is_enter ask ≡ false → (acts : Acts b after ask) → IsPutBack entered w after → HasBytes (standing after) o bytes → o.entry ≡ length after.entries
    → IsOfSettled may.session ask → KeepsLeases (standing b) ask acts.steps.makes.reply → 1 ≤ length o.wants → IsAtHand fixed w o bytes
hand-on {fixed} {v} {entered} {w} {b} {after} {ask} o bytes may low taken other acts back has last settles keeps some =
    let session = may.session in
    let steps = acts.steps in
    let grown = acts.grown in
    let legal = back.legal in
    let m = acted taken back acts in
    let st = has.stand.stand in
    let s = standing b in
    let own = own_of session s in
    let whose : o.session ≡ session = offers-by o may taken other steps grown legal st last some in
    let settled = settles own (sym (own-tells b.pool b.entries session ask taken.legal) ∙ may-now may taken) in
    let none = no-leases own.leases (and_parts (is_empty own.offers) (is_empty own.leases) settled).1 in
    let e = entry_of ask steps.makes in
    let is = stored steps grown in
    let follows = (legal-split b.pool b.entries (e ∷ []) (subst (λ (r : Recorded). IsLegal r.pool r.entries) is legal)).1.0 in
    let mine = whose-now may taken other steps in
    let after_own : own_of session (standing after) ≡ own_after_entry s (kept_ask ask) steps.makes.reply own =
    ap (λ (r : Recorded). own_of session (standing r)) is
    ∙ subst (λ (k : ℕ). own_of k (standing_of b.pool (b.entries ++ e ∷ [])) ≡ own_after_entry s (kept_ask ask) steps.makes.reply (own_of k s)) mine (own-entries b.pool b.entries e taken.legal follows) in
    let leases : (own_of session (standing after)).leases ≡ [] = ap (λ (x : Own). x.leases) after_own ∙ (keeps own ∙ none) in
    let n : Next (standing after).world o = next-of (standing after) o some st in
    let left : offers_at (standing after).world o.entry ≡ (own_of o.session (standing after)).offers =
    offers-left after.pool after.entries o.entry n.offer legal n.first ∙ ap (λ (k : ℕ). (own_of k (standing after)).offers) n.by in
    let many : length (own_of o.session (standing after)).offers ≡ length o.wants =
    ap length (sym left) ∙ offers-count st.frames o.wants (offers_at (standing after).world o.entry) st.are in
    let pool : fixed.pool ≡ b.pool = ap (λ (r : Recorded). r.pool) taken.same in
    let count = count-world_of b.pool b.entries in
    let longer = length-append b.entries (e ∷ []) in
    let grew = ap (λ (r : Recorded). length r.entries) is in
    let number : o.entry ≡ (world_of b.pool b.entries).entry_count + 1 = omega (arith, last, grew, longer, count) in
    let first : offers_at (standing after).world o.entry ≡ offers_started (world_of b.pool b.entries) e.ask e.reply =
    ap (λ (r : Recorded). offers_at (standing r).world o.entry) is
    ∙ (ap (λ (k : ℕ). offers_at (world_of b.pool (b.entries ++ e ∷ [])) k) number ∙ offers_start b.pool b.entries e follows) in
    let sum = wanted-sum st.frames o.wants (offers_at (standing after).world o.entry) st.are ∙ ap (λ (os : List Offer). sum_by offered os) first in
    let most = few-started b.pool b.entries e (omega (arith, pool, low)) taken.legal follows in
    record {
      stands = λ next. subst (λ (r : Recorded). HasBytes (standing r) o bytes) (sym m.now) has;
      speaks = speaks-on o may taken other acts back st last some;
      leases = subst (λ (r : Recorded). (own_of o.session (standing r)).leases ≡ []) (sym m.now) (subst (λ (k : ℕ). (own_of k (standing after)).leases ≡ []) (sym whose) leases);
      as_many = subst (λ (r : Recorded). length (own_of o.session (standing r)).offers ≡ length o.wants) (sym m.now) many;
      few = omega (arith, sum, most);
      picked = m.makes.told.picked;
      legal = m.makes.legal;
      whole = λ is. m.makes.whole (subst IsWhole m.makes.told.part is);
    }

-- what is offered of the frames that a put took is its copies
pub copies-are : (new : Recorded) (session : ℕ) (monitor : Option ℕ) (frames copies : List Frame) (o : OffersState) → IsOfferedTo new session monitor frames o → copies ≡ copied monitor frames → 1 ≤ length o.wants
    → HasBytes (standing new) o (bytes_of copies)
copies-are new session None frames copies o is same some = let none = ap length is.wants in absurd (omega (arith, none, some))
copies-are new session (Some monitor) frames copies o is same some = record {
  frames = frames;
  stand = record { stand = is.stand; frames_are = is.frames_are };
  bytes_are = ap bytes_of (sym same);
}
