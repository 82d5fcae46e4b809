-- What an entry tells of frames brought, wanted and read, where its step is of a kind that several
-- asks have in common, and what a Put tells.
use Rattle.std.proofs.Common.{ℕ, ◌≡◌, ◌∙◌, ap, ◌+◌, ◌==◌, Bool, true, false, cond, List, [], ◌∷◌, Option, None, Some, refl, length, rules}
use Rattle.std.proofs.Math.Bool.{and-false, and-true}
use Rattle.nm_types.specs.Frames.{Frame}
use Rattle.nm_types.specs.declared.id.PortId.{PortId}
use Rattle.vale_entry.specs.declared.entry.Ask.{Ask}
use Rattle.vale_entry.specs.declared.entry.Ask.TheVariants.{PutKept}
use Rattle.vale_entry.specs.declared.entry.Item.{Item}
use Rattle.vale_entry.specs.declared.entry.Reply.{Reply}
use Rattle.vale_entry.specs.declared.entry.Entry.{Entry}
use Rattle.vale_entry.specs.World.{World, Port, open_port, transmit_monitor}
use Rattle.vale_entry.specs.Offers.{is_monitor, wanted_if, monitored_frames}
use Rattle.vale_entry.specs.Pipe.{peer_of, peer_of_found, is_port_at, puts_to_port, frames_of_items}
use Rattle.vale_entry.specs.Delivery.{delivered_frames}
use Rattle.vale_entry.specs.Delivered.{port_at, frames_at, granted_by, put_by, read_by, returned_by, unread_by, given_by, gave_by, count_gave}
use Rattle.vale_entry.specs.Fate.{wanted_of_sync, wanted_of_put, wanted_in, share_in, numbers_in}
use Rattle.vale_entry.specs.Legal.{Standing, Outcome, unchanged, put_step}
use Rattle.vale_entry.proofs.Follows.{Receives, by_sync, by_get, IsQuiet, finds_no_peer, entry_made}

-- an entry that tells nothing
pub record TellsNothing (w : World) (e : Entry) : Type 0 where
  pub granted : (port : ℕ) → granted_by port w e.ask e.reply ≡ []
  pub put : (port : ℕ) → put_by port w e.ask e.reply ≡ []
  pub read : (port : ℕ) → read_by port w e.ask e.reply ≡ []
  pub returned : (port : ℕ) → returned_by port e.ask e.reply ≡ []
  pub unread : (port : ℕ) → unread_by port e.ask e.reply ≡ []
  pub given : (port : ℕ) → given_by port w e.ask e.reply ≡ []
  pub gave : (port : ℕ) → gave_by port e.ask e.reply ≡ []
  pub wanted :
      (number to : ℕ)
      → wanted_in number to w e ≡ cond {A = List Frame} (w.entry_count + 1 == number) [] []
  pub shares : (number to : ℕ) → share_in number to e ≡ []
  pub sent : (port : ℕ) → numbers_in port w e ≡ []

same_if : {X : Type 0} (b : Bool) (x : X) → cond b x x ≡ x
same_if true x = refl
same_if false x = refl

none_if : (b : Bool) → wanted_if b [] ≡ []
none_if true = refl
none_if false = refl

-- nothing is wanted of nothing
none_wanted : (w : World) (to : ℕ) (found : Option Port) → wanted_of_put w [] to found ≡ []
none_wanted w to None = refl
none_wanted w to (Some port) = at_port (port_at w.ports to)
  where
    at_port :
        (at : Option Port) → frames_at (monitored_frames (transmit_monitor w port.id) []) at ≡ []
    at_port None = refl
    at_port (Some p) = none_if (is_monitor (transmit_monitor w port.id) p)

pub tells-nothing :
    (s : Standing) (ask : Ask) (session : ℕ) (reply : Reply) → IsQuiet s ask session reply
    → TellsNothing s.world (entry_made ask (unchanged s session reply))
tells-nothing s _ _ _ (finds_no_peer at offered sender e few gone) = record {
  granted = λ port. refl;
  put = λ port. same_if (puts_to_port s.world.ports at.0 port) [];
  read = λ port. refl;
  returned = λ port. refl;
  unread = λ port. refl;
  given = λ port. same_if (puts_to_port s.world.ports at.0 port) [];
  gave = λ port. refl;
  wanted =
      λ number to. ap (λ (xs : List Frame). cond (s.world.entry_count + 1 == number) xs [])
      (none_wanted s.world to (open_port s.world.ports at.0));
  shares = λ number to. refl;
  sent =
      λ port. ap (λ (b : Bool). cond b ((s.world.entry_count + 1) ∷ []) [])
      (and-false (at.0 == port));
}
tells-nothing s _ _ _ _ = search rules

-- an entry that gives what is ready at a port
pub record TellsReceived (w : World) (at : ℕ) (back : List ℕ) (e : Entry) : Type 0 where
  pub granted : (port : ℕ) → granted_by port w e.ask e.reply ≡ []
  pub put : (port : ℕ) → put_by port w e.ask e.reply ≡ []
  pub read :
      (port : ℕ)
      → read_by port w e.ask e.reply
      ≡ cond (at == port) (frames_at delivered_frames (open_port w.ports at)) []
  pub returned :
      (port : ℕ)
      → returned_by port e.ask e.reply ≡ cond (at == port) (length back ∷ []) []
  pub unread : (port : ℕ) → unread_by port e.ask e.reply ≡ []
  pub given : (port : ℕ) → given_by port w e.ask e.reply ≡ []
  pub gave : (port : ℕ) → gave_by port e.ask e.reply ≡ cond (at == port) (count_gave e.reply) []
  pub wanted :
      (number to : ℕ)
      → wanted_in number to w e ≡ cond (w.entry_count + 1 == number)
      (wanted_of_sync w to (open_port w.ports at)) []
  pub shares : (number to : ℕ) → share_in number to e ≡ []
  pub sent : (port : ℕ) → numbers_in port w e ≡ cond (at == port) ((w.entry_count + 1) ∷ []) []

pub tells-received :
    (s : Standing) (ask : Ask) (at : PortId) (back : List ℕ) (made : Outcome) → Receives ask at back
    → TellsReceived s.world at.0 back (entry_made ask made)
tells-received s _ _ _ made (by_sync at back) = search rules
tells-received s _ _ _ made (by_get at back) = search rules

-- a Put whose other end took these items
pub record TellsPut (w : World) (at : ℕ) (items : List Item) (peer : Port) (e : Entry) : Type 0
  where
    pub granted : (port : ℕ) → granted_by port w e.ask e.reply ≡ []
    pub put :
        (port : ℕ)
        → put_by port w e.ask e.reply ≡ cond (peer.id == port)
        (record { origin = w.entry_count + 1; frames = frames_of_items items } ∷ []) []
    pub read : (port : ℕ) → read_by port w e.ask e.reply ≡ []
    pub returned : (port : ℕ) → returned_by port e.ask e.reply ≡ []
    pub unread : (port : ℕ) → unread_by port e.ask e.reply ≡ []
    pub given :
        (port : ℕ)
        → given_by port w e.ask e.reply ≡ cond (peer.id == port) (length items ∷ []) []
    pub gave : (port : ℕ) → gave_by port e.ask e.reply ≡ []
    pub wanted :
        (number to : ℕ)
        → wanted_in number to w e ≡ cond (w.entry_count + 1 == number)
        (wanted_of_put w (frames_of_items items) to (open_port w.ports at)) []
    pub shares : (number to : ℕ) → share_in number to e ≡ []
    pub sent : (port : ℕ) → numbers_in port w e ≡ cond (at == port) ((w.entry_count + 1) ∷ []) []

pub goes-to :
    (ports : List Port) (at to : ℕ) (port peer : Port) → open_port ports at ≡ Some port
    → peer_of ports port ≡ Some peer → puts_to_port ports at to ≡ (peer.id == to)
goes-to ports at to port peer e found =
    ap (λ (o : Option Port). is_port_at to (peer_of_found ports o)) e ∙ ap (is_port_at to) found

pub tells-put :
    (s : Standing) (at : PortId) (offered : ℕ) (items : List Item) (port peer : Port)
    → open_port s.world.ports at.0 ≡ Some port → peer_of s.world.ports port ≡ Some peer
    → TellsPut s.world at.0 items peer
    (entry_made (PutKept at offered) (put_step s items port peer))
tells-put s at offered items port peer e found = record {
  granted = λ port. refl;
  put =
      λ to.
      ap
      (λ (b : Bool).
      cond b (record { origin = s.world.entry_count + 1; frames = frames_of_items items } ∷ []) [])
      (goes-to s.world.ports at.0 to port peer e found);
  read = λ port. refl;
  returned = λ port. refl;
  unread = λ port. refl;
  given =
      λ to. ap (λ (b : Bool). cond b (length items ∷ []) [])
      (goes-to s.world.ports at.0 to port peer e found);
  gave = λ port. refl;
  wanted = λ number to. refl;
  shares = λ number to. refl;
  sent =
      λ to. ap (λ (b : Bool). cond b ((s.world.entry_count + 1) ∷ []) []) (and-true (at.0 == to));
}
