-- A session reads a port.
use Rattle.std.proofs.Common.{ℕ, ◌≡◌, ◌≤◌, ◌+◌, ◌&&◌, ◌||◌, nat_le, Bool, true, false, cond, List, [], ◌∷◌, ◌++◌, length, map, take, Option, Some, option_map, refl, sym, ◌∙◌, ap, ap₂, subst, arith, None}
use Rattle.std.specs.Prelude.{vec_capacity, Ok}
use Rattle.std.specs.Option.{option_map_or}
use Rattle.std.proofs.lemmas.Bool.{and_parts}
use Rattle.std.proofs.lemmas.List.{length-map}
use Rattle.nm_types.specs.Frames.{Frame, slots_of, size_of_frames}
use Rattle.nm_types.specs.Parts.{slots_of_bytes}
use Rattle.nm_types.specs.Names.{is_switch_port_name, is_pipe_name, is_monitor_name}
use Rattle.nm_types.specs.declared.fault.StepFault.TheVariants as faults
use Rattle.nm_types.specs.declared.id.PortId.{PortId}
use Rattle.nm_types.specs.declared.id.SessionId.{SessionId}
use Rattle.nm_region.specs.Buffers.{Buffer, indices_of}
use Rattle.vale_batch.specs.Wants.{Wanted}
use Rattle.vale_line.specs.declared.got.Got.{Got}
use Rattle.vale_line.specs.Gots.{buffers_of, frames_in, IsCut}
use Rattle.vale_line.proofs.CutLemmas.{cut-tells}
use Rattle.vale_entry.specs.declared.entry.Reply.{Reply}
use Rattle.vale_entry.specs.declared.entry.Reply.TheVariants.{Gave}
use Rattle.vale_entry.specs.World.{World, Port, Offer, open_port, is_settled, receive_monitor}
use Rattle.vale_entry.specs.Delivery.{ready_lots, delivered_frames}
use Rattle.vale_entry.specs.Holdings.{buffers_without, delivered_buffers, holds_all as all_held}
use Rattle.vale_entry.specs.Legal.{Standing, reply_to, kept_ask, is_met, is_enabled, can_receive, can_sync, can_get, offers_of_sync, IsLegal}
use Rattle.vale_own.specs.Asker.{asker_of, is_enter, owner_of_port}
use Rattle.vale_own.specs.Own.{Own, own_of}
use Rattle.vale_own.specs.OwnEntries.{own_received, own_after_entry, received_port}
use Rattle.vale_parts.specs.Batches.{dests_wanted}
use Rattle.vale_parts.specs.Offering.{offers_at, offers_started}
use Rattle.vale_port.specs.Kept.{bytes_of}
use Rattle.vale_port.specs.Ports.{sizes_of}
use Rattle.vale_port.proofs.SeatTies.{size-held}
use Rattle.vale_book.specs.Asking.{IsReady}
use Rattle.vale_book.specs.Offering.{OffersState}
use Rattle.vale_book.specs.Monitored.{IsOfferedTo}
use Rattle.vale_book.specs.Reading.{read_ask, IsGiven, IsGivenOf, IsOffered}
use Rattle.vale_book.specs.Recorded.{Recorded, standing, after_ask, IsRefusal, HasRoom}
use Rattle.vale_book.specs.declared.asking.PortSeen.{PortSeen}
use Rattle.vale_book.specs.declared.asking.Ready.{Ready}
use Rattle.vale_serve.specs.declared.users.User.{User}
use Rattle.vale_serve.specs.Buffers.{holds_all}
use Rattle.vale_serve.specs.Exchange.{HasTakenOut, HasRead}
use Rattle.vale_serve.specs.Reading.{can_read, copied_sizes}
use Rattle.vale_serve.specs.Replies.{dests_in, last_dests}
use Rattle.vale_serve.specs.Serving.{IsServed}
use Rattle.vale_serve.specs.Users.{HasOffers, AreSame, HasOwn, IsUser, IsAsker, SameUser, contents, sent_of, is_settled_user}
use Rattle.vale_serve.proofs.Acting.{IsPlain, Said, said, later, acts, mine-by, settled-user, settled-parts, last-told, no-memory, user-same, settled-same}
use Rattle.vale_serve.proofs.Asked.{steps-of}
use Rattle.vale_serve.proofs.Exchanges.{few-monitored, monitored-some, fresh-some, theirs, take-whole, exchanged, few-told}
use Rattle.vale_serve.proofs.Finishes.{own-once}
use Rattle.vale_serve.proofs.Opens.{same-append, same-by, indices-append}
use Rattle.vale_serve.proofs.Sessions.{comes_or_goes}
use Rattle.vale_serve.proofs.Taking.{holds-same, left-same}
use Rattle.vale_serve.proofs.Keeping.{ids-changed}

-- ---- the two asks

pub read-plain : (pipe : Bool) (at : PortId) (back : List ℕ) → IsPlain (read_ask pipe at back)
read-plain true at back = λ s. refl
read-plain false at back = λ s. refl

pub read-stays : (pipe : Bool) (at : PortId) (back : List ℕ) → comes_or_goes (kept_ask (read_ask pipe at back)) ≡ false
read-stays true at back = refl
read-stays false at back = refl

pub read-enters : (pipe : Bool) (at : PortId) (back : List ℕ) → is_enter (read_ask pipe at back) ≡ false
read-enters true at back = refl
read-enters false at back = refl

pub read-whose : (s : Standing) (pipe : Bool) (at : PortId) (back : List ℕ) → asker_of s (read_ask pipe at back) ≡ option_map owner_of_port (open_port s.world.ports at.0)
read-whose s true at back = refl
read-whose s false at back = refl

-- where no such port is open
pub read-missing : (s : Standing) (pipe : Bool) (at : PortId) (back : List ℕ) → open_port s.world.ports at.0 ≡ None → is_enabled s (read_ask pipe at back) ≡ false
read-missing s true at back none = ap (is_met (can_get s back)) none
read-missing s false at back none = ap (is_met (can_sync s back)) none

read-starts : (w : World) (pipe : Bool) (at : PortId) (back : List ℕ) (reply : Reply) → offers_started w (kept_ask (read_ask pipe at back)) reply ≡ option_map_or (offers_of_sync w) (open_port w.ports at.0) []
read-starts w true at back reply = refl
read-starts w false at back reply = refl

read-makes : (s : Standing) (pipe : Bool) (at : PortId) (back : List ℕ) (reply : Reply) (own : Own)
    → own_after_entry s (kept_ask (read_ask pipe at back)) reply own ≡ option_map_or (own_received s back own) (open_port s.world.ports at.0) own
read-makes s true at back reply own = refl
read-makes s false at back reply own = refl

-- ---- whether it may

receives : (b : Recorded) (user : User) (seen : PortSeen) (back : List ℕ) (found : Option Port) → IsLegal b.pool b.entries → IsUser b user → (asker : IsAsker user found seen)
    → can_receive (standing b) back asker.port ≡ (is_settled_user user && (nat_le (length back) seen.out && holds_all user.bufs.items back))
receives b user seen back found legal is asker =
    let own = own_of user.id.0 (standing b) in
    ap₂ (λ (s t : Bool). s && t) (ap (is_settled (standing b).world) asker.mine ∙ settled-user b user legal is)
    (ap₂ (λ (s t : Bool). s && t) (ap (nat_le (length back)) (sym asker.is_seen.out))
    (ap (λ (n : ℕ). all_held (standing b).holdings n back) asker.mine ∙ sym (holds-same user.bufs.items own.buffers back is.buffers)))

pub can-read-is : (b : Recorded) (user : User) (at : PortId) (seen : PortSeen) (pipe : Bool) (back : List ℕ) → IsLegal b.pool b.entries → IsUser b user
    → IsAsker user (open_port (standing b).world.ports at.0) seen → is_enabled (standing b) (read_ask pipe at back) ≡ can_read pipe back user seen
can-read-is b user at seen true back legal is asker =
    ap (is_met (can_get (standing b) back)) asker.found_is
    ∙ ap₂ (λ (s t : Bool). s && t) (ap is_pipe_name (sym asker.is_seen.name)) (receives b user seen back (open_port (standing b).world.ports at.0) legal is asker)
can-read-is b user at seen false back legal is asker =
    ap (is_met (can_sync (standing b) back)) asker.found_is
    ∙ ap₂ (λ (s t : Bool). s && t) (ap (λ (n : List ℕ). is_switch_port_name n || is_monitor_name n) (sym asker.is_seen.name))
    (receives b user seen back (open_port (standing b).world.ports at.0) legal is asker)

pub can-read-parts : (pipe : Bool) (back : List ℕ) (user : User) (seen : PortSeen) → can_read pipe back user seen ≡ true → (is_settled_user user ≡ true) × (holds_all user.bufs.items back ≡ true)
can-read-parts pipe back user seen e =
    let one = and_parts _ (is_settled_user user && (nat_le (length back) seen.out && holds_all user.bufs.items back)) e in
    let two = and_parts (is_settled_user user) (nat_le (length back) seen.out && holds_all user.bufs.items back) one.1 in
    (two.0, (and_parts (nat_le (length back) seen.out) (holds_all user.bufs.items back) two.1).1)

pub read-enabled : (b : Recorded) (user : User) (at : PortId) (seen : PortSeen) (pipe : Bool) (back : List ℕ) → IsLegal b.pool b.entries → IsUser b user
    → IsAsker user (open_port (standing b).world.ports at.0) seen → can_read pipe back user seen ≡ true → is_enabled (standing b) (read_ask pipe at back) ≡ true
read-enabled b user at seen pipe back legal is asker can = can-read-is b user at seen pipe back legal is asker ∙ can

pub read-refused : (b : Recorded) (user : User) (at : PortId) (seen : PortSeen) (pipe : Bool) (back : List ℕ) → IsLegal b.pool b.entries → IsUser b user
    → IsAsker user (open_port (standing b).world.ports at.0) seen → can_read pipe back user seen ≡ true → IsRefusal b (read_ask pipe at back) faults.NoMemory
read-refused b user at seen pipe back legal is asker can =
    let steps = steps-of b (read_ask pipe at back) (read-plain pipe at back) (read-enabled b user at seen pipe back legal is asker can) in
    no-memory b (read_ask pipe at back) steps.makes steps.is

-- ---- the sizes of frames

sizes-bytes : (frames : List Frame) → sizes_of frames ≡ map slots_of_bytes (bytes_of frames)
sizes-bytes [] = refl
sizes-bytes (f ∷ fs) = ap (λ (ns : List ℕ). slots_of f ∷ ns) (sizes-bytes fs)

-- a read that was made
pub record ReadOf (b after : Recorded) (user held : User) (pipe : Bool) (at : PortId) (back : List ℕ) (taken : List Buffer) (gots : List Got) (offers : OffersState) (ready : Ready) : Type 0 where
  pub legal : IsLegal b.pool b.entries
  pub is : IsUser b user
  pub port : Port
  pub here : open_port (standing b).world.ports at.0 ≡ Some port
  pub mine : port.session ≡ user.id.0
  pub settled : is_settled_user user ≡ true
  pub holds : holds_all user.bufs.items back ≡ true
  pub out : HasTakenOut user back taken held
  pub grew : after ≡ after_ask b (read_ask pipe at back)
  pub told : reply_to (standing b) (read_ask pipe at back) ≡ Some (Gave (length (frames_in gots)) (dests_wanted offers.wants))
  pub had : HasRoom b (read_ask pipe at back)
  pub given : IsGiven b at gots
  pub cut : IsCut gots
  pub offered : IsOffered b after at offers
  pub is_ready : IsReady (standing b).world port ready

pub read-of : (b after : Recorded) (old user held : User) (pipe : Bool) (at : PortId) (seen : PortSeen) (back : List ℕ) (taken : List Buffer) (gots : List Got) (offers : OffersState) (ready : Ready)
    → IsLegal b.pool b.entries → IsUser b old → IsAsker old (open_port (standing b).world.ports at.0) seen → can_read pipe back old seen ≡ true → SameUser old user → HasTakenOut user back taken held
    → after ≡ after_ask b (read_ask pipe at (indices_of taken)) → reply_to (standing b) (read_ask pipe at (indices_of taken)) ≡ Some (Gave (length (frames_in gots)) (dests_wanted offers.wants))
    → HasRoom b (read_ask pipe at (indices_of taken)) → IsGiven b at gots → IsCut gots → IsOffered b after at offers
    → ((port : Port) → open_port (standing b).world.ports at.0 ≡ Some port → IsReady (standing b).world port ready)
    → ReadOf b after user held pipe at back taken gots offers ready
read-of b after old user held pipe at seen back taken gots offers ready legal is asker can same out grew told had given cut offered is_ready =
    let parts = can-read-parts pipe back old seen can in
    let named = out.bufs.named_is in
    record {
      legal = legal;
      is = user-same b old user same is;
      port = asker.port;
      here = asker.found_is;
      mine = asker.mine ∙ ap (λ (i : SessionId). i.0) (sym same.id);
      settled = settled-same old user same ∙ parts.0;
      holds = ap (λ (bs : List Buffer). holds_all bs back) same.bufs ∙ parts.1;
      out = out;
      grew = subst (λ (ns : List ℕ). after ≡ after_ask b (read_ask pipe at ns)) named grew;
      told = subst (λ (ns : List ℕ). reply_to (standing b) (read_ask pipe at ns) ≡ Some (Gave (length (frames_in gots)) (dests_wanted offers.wants))) named told;
      had = subst (λ (ns : List ℕ). HasRoom b (read_ask pipe at ns)) named had;
      given = given;
      cut = cut;
      offered = offered;
      is_ready = is_ready asker.port asker.found_is;
    }

module _ {b after : Recorded} {user held : User} {pipe : Bool} {at : PortId} {back : List ℕ} {taken : List Buffer} {gots : List Got} {offers : OffersState} {ready : Ready}
    (r : ReadOf b after user held pipe at back taken gots offers ready) where
  abbrev w : World
  w = (standing b).world

  abbrev own : Own
  own = own_of user.id.0 (standing b)

  s : Said b (read_ask pipe at back) (Gave (length (frames_in gots)) (dests_wanted offers.wants))
  s = said b (read_ask pipe at back) (Gave (length (frames_in gots)) (dests_wanted offers.wants)) (sym (read-plain pipe at back (standing b)) ∙ r.told)

  g : IsGivenOf (standing b) b.region r.port gots
  g = r.given r.port r.here

  o : IsOfferedTo after r.port.session (receive_monitor (standing b).world r.port.id) (delivered_frames r.port) offers
  o = r.offered r.port r.here

  given_frames : frames_in gots ≡ bytes_of (delivered_frames r.port)
  given_frames = (cut-tells (bytes_of (delivered_frames r.port)) gots g.parts).are

  pub frames : length (frames_in gots) ≡ ready.frames
  frames = ap (λ (fs : List (List ℕ)). length fs) given_frames ∙ (length-map (delivered_frames r.port) (λ (f : Frame). f.bytes) ∙ sym r.is_ready.are.frames)

  pub count : length gots ≡ ready.buffers
  count = sym (size-held (delivered_frames r.port) gots g.parts) ∙ sym r.is_ready.are.buffers

  few : length offers.wants ≤ 1
  few = let most = few-monitored (receive_monitor w r.port.id) (delivered_frames r.port) in let wants = ap (λ (ws : List Wanted). length ws) o.wants in omega (arith, most, wants)

  told-dests : last_dests after.entries ≡ dests_wanted offers.wants
  told-dests = last-told b after (read_ask pipe at back) s.made r.grew s.is ∙ ap dests_in s.reply_is

  pub few-dests : length (last_dests after.entries) ≤ 1
  few-dests = few-told (last_dests after.entries) offers.wants told-dests few

  pub read-served : (reply : Reply) → reply ≡ Gave (length (frames_in gots)) (last_dests after.entries) → IsServed b after (read_ask pipe at back) (Ok (Some reply))
  read-served reply is = (ap (λ (x : Reply). Some x) (is ∙ ap (Gave (length (frames_in gots))) told-dests) ∙ sym r.told, r.grew, r.had)

  all-theirs : offers_at (standing after).world offers.entry ≡ (own_received (standing b) back (own_of user.id.0 (standing b)) r.port).offers
  all-theirs =
      let none : own.offers ≡ [] = subst (HasOffers own.offers) (settled-parts user r.settled).0 r.is.offers in
      theirs b after (read_ask pipe at back) s.made offers.entry s.is r.grew o.entry
      ∙ (read-starts w pipe at back s.made.reply
      ∙ (ap (λ (found : Option Port). option_map_or (offers_of_sync w) found []) r.here
      ∙ ap (λ (os : List Offer). os ++ offers_of_sync w r.port) (sym none)))

  module _ (sizes : List ℕ) (sizes-are : sizes ≡ copied_sizes ready (sizes_of (delivered_frames r.port))) where
    -- all are copied, or none
    sizes-by : (t : Bool) → ready.is_watched ≡ t → sizes ≡ map slots_of_bytes (take (length sizes) (frames_in gots))
    sizes-by false watched = let none : sizes ≡ [] = sizes-are ∙ ap (λ (t : Bool). cond t (sizes_of (delivered_frames r.port)) []) watched in subst (λ (ns : List ℕ). ns ≡ map slots_of_bytes (take (length ns) (frames_in gots))) (sym none) refl
    sizes-by true watched =
        let all : sizes ≡ map slots_of_bytes (frames_in gots) =
        sizes-are ∙ (ap (λ (t : Bool). cond t (sizes_of (delivered_frames r.port)) []) watched ∙ (sizes-bytes (delivered_frames r.port) ∙ ap (map slots_of_bytes) (sym given_frames))) in
        let count = ap (λ (ns : List ℕ). length ns) all ∙ length-map (frames_in gots) slots_of_bytes in
        all ∙ ap (map slots_of_bytes) (sym (ap (λ (n : ℕ). take n (frames_in gots)) count ∙ take-whole (frames_in gots)))

    pub sizes-told : sizes ≡ map slots_of_bytes (take (length sizes) (frames_in gots))
    sizes-told = sizes-by ready.is_watched refl

    copied : (copies : List (List ℕ)) → copies ≡ take (length sizes) (frames_in gots) → 1 ≤ length offers.wants → copies ≡ bytes_of o.stand.frames
    copied copies same some =
        let wants = ap (λ (ws : List Wanted). length ws) o.wants in
        let watched : ready.is_watched ≡ true = r.is_ready.watched ∙ monitored-some (receive_monitor w r.port.id) (delivered_frames r.port) (omega (arith, some, wants)) in
        let all = ap (λ (ns : List ℕ). length ns) (sizes-are ∙ ap (λ (t : Bool). cond t (sizes_of (delivered_frames r.port)) []) watched) ∙ length-map (delivered_frames r.port) slots_of in
        let count : length sizes ≡ length (frames_in gots) = all ∙ sym (ap (λ (fs : List (List ℕ)). length fs) given_frames ∙ length-map (delivered_frames r.port) (λ (f : Frame). f.bytes)) in
        same ∙ (ap (λ (n : ℕ). take n (frames_in gots)) count ∙ (take-whole (frames_in gots) ∙ (given_frames ∙ ap bytes_of (sym o.frames_are))))

    module _ (new : User) (has : HasRead held gots offers (length sizes) new) (room : length user.leases.items + 1 ≤ vec_capacity user.leases) where
      own-target : HasOwn after (own_received (standing b) back (own_of user.id.0 (standing b)) r.port) new
      own-target =
          let target' = own_received (standing b) back (own_of user.id.0 (standing b)) r.port in
          let left = left-same user.bufs.items held.bufs.items own.buffers back taken r.is.buffers r.out.bufs r.holds (λ n. own-once b user.id.0 n r.legal) in
          let came : indices_of (buffers_of gots) ≡ delivered_buffers r.port.id (length (ready_lots r.port)) (standing b).holdings.ports = g.buffers in
          let all : AreSame (indices_of (held.bufs.items ++ buffers_of gots)) target'.buffers =
          subst (λ (ns : List ℕ). AreSame ns target'.buffers) (sym (indices-append held.bufs.items (buffers_of gots)))
          (same-append (indices_of held.bufs.items) (indices_of (buffers_of gots)) (buffers_without back own.buffers) (delivered_buffers r.port.id (length (ready_lots r.port)) (standing b).holdings.ports) left
          (same-by _ _ came)) in
          exchanged b after own target' user held has.between new back taken (buffers_of gots) offers has.frames (later b after (read_ask pipe at back) r.grew) r.is r.out has.more has.sent
          (subst (λ (os : List Offer). HasOffers os (sent_of offers.wants offers has.frames)) all-theirs
          (fresh-some (standing after) offers has.frames o.stand (copied (contents has.frames.items) has.copied)))
          few room refl (ids-changed r.port.id (received_port (size_of_frames (delivered_frames r.port)) (length back)) (λ p. refl) own.ports) all g.region_is

      pub read-kept : IsUser after new
      read-kept =
          let whose : user.id.0 ≡ s.made.session =
          sym r.mine ∙ mine-by b (read_ask pipe at back) s.made (open_port w.ports at.0) r.port s.is (read-enters pipe at back) (read-whose (standing b) pipe at back) r.here in
          let id : new.id ≡ user.id = has.sent.id ∙ (has.more.id ∙ r.out.id) in
          acts b after (read_ask pipe at back) s.made new r.legal r.grew s.is (ap (λ (i : SessionId). i.0) id ∙ whose)
          (subst (λ (n : ℕ). HasOwn after (own_after_entry (standing b) (kept_ask (read_ask pipe at back)) s.made.reply (own_of n (standing b))) new) whose
          (subst (λ (o' : Own). HasOwn after o' new)
          (sym (read-makes (standing b) pipe at back s.made.reply own ∙ ap (λ (found : Option Port). option_map_or (own_received (standing b) back own) found own) r.here)) own-target))
