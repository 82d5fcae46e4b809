-- What was promised is not wanted again: a Grant, a Done, a Shut, a Finish and a Leave want no
-- room.
use Rattle.std.proofs.Common.{ℕ, ◌≡◌, Bool, true, false, cond, List, Option, Some, None, refl, sym, ◌∙◌, ap}
use Rattle.std.specs.Prelude.{option_map}
use Rattle.vale_entry.specs.declared.entry.Ask.{Ask}
use Rattle.vale_entry.specs.declared.entry.Ask.TheVariants.{Grant, Done, Shut, Finish, Leave}
use Rattle.vale_entry.specs.World.{Port, open_port}
use Rattle.vale_entry.specs.Grant.{first_offer}
use Rattle.vale_entry.specs.Delivery.{lease_at}
use Rattle.vale_entry.specs.Closing.{shutting_port, can_leave}
use Rattle.vale_entry.specs.Room.{bytes_of}
use Rattle.vale_entry.specs.Legal.{Standing, Outcome, recorded_step, made_at, is_offer_next, grant_step, done_step, can_shut, shut_step, fits_chain, can_go, finish_step, finish_step_at, leave_step}

-- the asks whose room is promised before they are made
abbrev pub is_owed : Ask → Bool
is_owed (Grant origin to) = true
is_owed (Done lease) = true
is_owed (Shut port) = true
is_owed (Finish port bufs chain) = true
is_owed (Leave session) = true
is_owed _ = false

none_if :
    (b : Bool) (made found : Outcome) → made.want ≡ 0 → cond b (Some made) None ≡ Some found
    → found.want ≡ 0
none_if true made found none e =
    let same : made ≡ found = cc in ap (λ (m : Outcome). m.want) (sym same) ∙ none
none_if false made found none e = absurd cc

none_at :
    {X : Type 0} (test : X → Bool) (make : X → Outcome) (found : Option X) (made : Outcome)
    → ((x : X) → (make x).want ≡ 0) → made_at test make found ≡ Some made → made.want ≡ 0
none_at test make None made none e = absurd cc
none_at test make (Some x) made none e = none_if (test x) (make x) made (none x) e

none_of :
    {X : Type 0} (make : X → Outcome) (found : Option X) (made : Outcome)
    → ((x : X) → (make x).want ≡ 0) → option_map make found ≡ Some made → made.want ≡ 0
none_of make None made none e = absurd cc
none_of make (Some x) made none e = none_if true (make x) made (none x) e

none_of_finish :
    (s : Standing) (bufs : List ℕ) (fits : Bool) (found : Option Port) (made : Outcome)
    → cond fits (finish_step_at s bufs found) None ≡ Some made → made.want ≡ 0
none_of_finish s bufs true found made e =
    none_at (can_go s bufs) (finish_step s bufs) found made (λ port. refl) e
none_of_finish s bufs false found made e = absurd cc

pub want-owed :
    (s : Standing) (ask : Ask) (made : Outcome) → is_owed ask ≡ true
    → recorded_step s ask made.reply ≡ Some made → (made.want ≡ 0) × (bytes_of ask made.reply ≡ 0)
want-owed s (Grant origin to) made owed e = (
  none_at (is_offer_next to.0) (grant_step s) (first_offer s.world origin) made (λ offer. refl) e,
  refl,
)
want-owed s (Done lease) made owed e =
    (none_of (done_step s lease.0) (lease_at s.world.ports lease.0) made (λ lot. refl) e, refl)
want-owed s (Shut port) made owed e = (
  none_at (can_shut s.world) (shut_step s) (open_port s.world.ports port.0) made (λ p. refl) e,
  refl,
)
want-owed s (Finish port bufs chain) made owed e =
    (none_of_finish s bufs (fits_chain chain) (shutting_port s.world.ports port.0) made e, refl)
want-owed s (Leave session) made owed e =
    (none_if (can_leave s.world session.0) (leave_step s session.0) made refl e, refl)
want-owed s _ made owed e = absurd cc
