-- Short and lone frames: one is lone exactly where it is long enough and named for no port of the
-- switch; a short one is named for none. A Send's reply counts them.
use Rattle.std.proofs.Common.{ℕ, ◌≡◌, Bool, true, false, cond, not, ◌&&◌, ◌||◌, ◌==◌, List, [], ◌∷◌, find, take, Option, Some, None, is_some, option_map, bytes_eq, refl, subst, ap}
use Rattle.std.specs.List.{AllByRecursion as Each, list_any}
use Rattle.std.proofs.lemmas.Bool.{and_parts, not-true}
use Rattle.nm_types.specs.Frames.{Frame}
use Rattle.nm_types.specs.Names.{switch_of}
use Rattle.vale_entry.specs.declared.entry.Ask.{Ask}
use Rattle.vale_entry.specs.declared.entry.Reply.{Reply}
use Rattle.vale_entry.specs.World.{Port, Pair, is_open, open_port}
use Rattle.vale_entry.specs.Learning.{is_short, is_group, destination_address, is_in_bucket, bucket_of, learned, port_of_pair, port_of_address}
use Rattle.vale_entry.specs.Lookup.{Destination, These, Others, destination_found, is_named, is_other_port, names_some_port}
use Rattle.vale_entry.specs.Legal.{Standing, Outcome, can_send, send_step, send_step_at, recorded_step, session_and_reply, fresh_standing, standing_of}
use Rattle.vale_entry.specs.DeliveryLaws.{ShortAndLoneAreForNobody, IsToldOfSend, SendsTellShortAndLone}
use Rattle.vale_entry.proofs.Each.{each-none, each-all}
use Rattle.vale_entry.proofs.Worlds.{follows-at}

abbrev ForNobody : List Port → Port → Destination → Type 0
ForNobody ports sender destination =
    Each (λ (port : Port). is_named sender destination port ≡ false) ports

for_nobody :
    (ports : List Port) (sender : Port) (destination : Destination)
    → not (names_some_port ports sender destination) ≡ true → ForNobody ports sender destination
for_nobody ports sender (These []) e = each-all (λ (port : Port). false ≡ false) (λ port. refl) ports
for_nobody ports sender (These (id ∷ ids)) e = absurd cc
for_nobody ports sender Others e =
    each-none (is_other_port sender) ports (not-true (list_any (is_other_port sender) ports) e)

-- a port that is open is named by its id
open_named :
    (ports : List Port) (id : ℕ) → is_open ports id ≡ true
    → Each (λ (port : Port). ((port.id == id) || false) ≡ false) ports → ⊥
open_named [] id there none = absurd cc
open_named (port ∷ ports) id there none =
    by_test (port.id == id) there none.0 (λ later. open_named ports id later none.1)
  where
    by_test :
        (b : Bool) → is_some (cond (b && not port.shutting) (Some port) (open_port ports id)) ≡ true
        → (b || false) ≡ false → (is_open ports id ≡ true → ⊥) → ⊥
    by_test true there none later = absurd cc
    by_test false there none later = later there

none_any :
    {X : Type 0} (test : X → Bool) (xs : List X) → Each (λ x. test x ≡ false) xs
    → list_any test xs ≡ false
none_any test [] all = refl
none_any test (x ∷ xs) all = rw all.0 (none_any test xs all.1)

-- the port of an address is open
address_open :
    (ports : List Port) (address : List ℕ) (found : Option Pair) (port : ℕ)
    → port_of_pair ports address found ≡ Some port → is_open ports port ≡ true
address_open ports address None port e = absurd cc
address_open ports address (Some pair) port e =
    by_test (bytes_eq pair.address address && is_open ports pair.port) refl e
  where
    by_test :
        (b : Bool) → (bytes_eq pair.address address && is_open ports pair.port) ≡ b
        → cond b (Some pair.port) None ≡ Some port → is_open ports port ≡ true
    by_test true t e =
        let same : pair.port ≡ port = cc in
        subst (λ (id : ℕ). is_open ports id ≡ true) same
        (and_parts (bytes_eq pair.address address) (is_open ports pair.port) t).1
    by_test false t e = absurd cc

-- who is named for nobody names no port
lone_others :
    (ports : List Port) (sender : Port) → ForNobody ports sender Others
    → not (names_some_port ports sender Others) ≡ true
lone_others ports sender none = rw (none_any (is_other_port sender) ports none) refl

lone_found :
    (ports : List Port) (sender : Port) (found : Option ℕ)
    → ((id : ℕ) → found ≡ Some id → is_open ports id ≡ true)
    → ForNobody ports sender (destination_found sender found)
    → not (names_some_port ports sender (destination_found sender found)) ≡ true
lone_found ports sender None there none = lone_others ports sender none
lone_found ports sender (Some id) there none = by_test (id == sender.id) none
  where
    by_test :
        (b : Bool) → ForNobody ports sender (cond b (These []) (These (id ∷ [])))
        → not (names_some_port ports sender (cond b (These []) (These (id ∷ [])))) ≡ true
    by_test true none = refl
    by_test false none = absurd (open_named ports id (there id refl) none)

-- where a frame that is long enough goes
abbrev long_destination : List Port → Port → List Pair → Frame → Bool → Destination
long_destination ports sender pairs frame group =
    cond group Others
    (destination_found sender
    (port_of_address ports pairs (switch_of sender.name) (destination_address frame)))

lone_long :
    (ports : List Port) (sender : Port) (pairs : List Pair) (frame : Frame) (group : Bool)
    → ForNobody ports sender (long_destination ports sender pairs frame group)
    → not (names_some_port ports sender (long_destination ports sender pairs frame group)) ≡ true
lone_long ports sender pairs frame true none = lone_others ports sender none
lone_long ports sender pairs frame false none =
    lone_found ports sender
    (port_of_address ports pairs (switch_of sender.name) (destination_address frame))
    (λ id e.
    address_open ports (destination_address frame)
    (find (is_in_bucket (switch_of sender.name) (bucket_of (destination_address frame))) pairs) id e)
    none

abbrev destination_by : List Port → Port → List Pair → Frame → Bool → Destination
destination_by ports sender pairs frame short =
    cond short (These [])
    (long_destination ports sender pairs frame (is_group (destination_address frame)))

-- a frame by whether it is short
pub record IsFor (ports : List Port) (sender : Port) (destination : Destination) (short : Bool)
    : Type 0 where
  pub short_for_nobody : short ≡ true → ForNobody ports sender destination
  pub lone_for_nobody :
      (not short && not (names_some_port ports sender destination)) ≡ true
      → ForNobody ports sender destination
  pub lone_is_long :
      (not short && not (names_some_port ports sender destination)) ≡ true → short ≡ false
  pub else_lone :
      short ≡ false → ForNobody ports sender destination
      → (not short && not (names_some_port ports sender destination)) ≡ true

is_for :
    (ports : List Port) (sender : Port) (pairs : List Pair) (frame : Frame) (short : Bool)
    → IsFor ports sender (destination_by ports sender pairs frame short) short
is_for ports sender pairs frame true = record {
  short_for_nobody = λ e. each-all (λ (port : Port). false ≡ false) (λ port. refl) ports;
  lone_for_nobody = λ e. absurd cc;
  lone_is_long = λ e. absurd cc;
  else_lone = λ e. absurd cc;
}
is_for ports sender pairs frame false = record {
  short_for_nobody = λ e. absurd cc;
  lone_for_nobody =
      λ e. for_nobody ports sender
      (long_destination ports sender pairs frame (is_group (destination_address frame))) e;
  lone_is_long = λ e. refl;
  else_lone =
      λ e none. lone_long ports sender pairs frame (is_group (destination_address frame)) none;
}

pub short-lone : ShortAndLoneAreForNobody
short-lone ports sender pairs [] = tt
short-lone ports sender pairs (frame ∷ frames) =
    let here = is_for ports sender (learned sender pairs frame) frame (is_short frame) in (
      record {
        short_for_nobody = here.short_for_nobody;
        lone_for_nobody = here.lone_for_nobody;
        lone_is_long = here.lone_is_long;
        else_lone = here.else_lone;
      },
      short-lone ports sender (learned sender pairs frame) frames,
    )

-- What a Send's reply tells.

told_by :
    (s : Standing) (from session : ℕ) (frames : List Frame) (reply : Reply) (found : Option Port)
    → open_port s.world.ports from ≡ found
    → option_map session_and_reply (send_step_at s frames found) ≡ Some (session, reply)
    → IsToldOfSend s.world from frames reply
told_by s from session frames reply None e is = absurd cc
told_by s from session frames reply (Some sender) e is =
    by_test (can_send s.world frames sender) is
  where
    same_reply :
        (made : Outcome) → option_map session_and_reply (Some made) ≡ Some (session, reply)
        → made.reply ≡ reply
    same_reply made is =
        let both : session_and_reply made ≡ (session, reply) = cc in
        ap (λ (p : ℕ × Reply). p.1) both

    by_test :
        (b : Bool)
        → option_map session_and_reply (cond b (Some (send_step s frames sender)) None)
        ≡ Some (session, reply)
        → IsToldOfSend s.world from frames reply
    by_test true is =
        let same = same_reply (send_step s frames sender) is in
        subst (λ (r : Reply). IsToldOfSend s.world from frames r) same (record {
          sender = sender;
          sender_is = e;
          told = refl;
          named = short-lone s.world.ports sender s.world.pairs frames;
        })
    by_test false is = absurd cc

pub sends-tell : SendsTellShortAndLone
sends-tell pool history legal count entry there from frames is =
    let s = standing_of pool (take count history) in
    let follows = follows-at (fresh_standing pool) history count entry legal there in
    told_by s from.0 entry.session.0 frames entry.reply (open_port s.world.ports from.0) refl
    (subst
    (λ (ask : Ask).
    option_map session_and_reply (recorded_step s ask entry.reply)
    ≡ Some (entry.session.0, entry.reply)) is follows)
