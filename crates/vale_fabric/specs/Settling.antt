-- How a session that has offers is settled.
use Rattle.std.specs.Prelude.{ℕ, ◌≡◌, ◌+◌, ◌-◌, ◌<◌, ◌≤◌, ◌^◌, true, List, [], ◌∷◌, length, take, Option, Some, None, option_map}
use Rattle.std.specs.List.{AllByRecursion, sum_by}
use Rattle.nm_types.specs.Frames.{Frame}
use Rattle.nm_turn.specs.Numbered.{Stands, IsPicked, numbered}
use Rattle.nm_turn.specs.Passes.{Told}
use Rattle.nm_turn.specs.Shares.{IsWhole}
use Rattle.vale_entry.specs.declared.entry.Ask.{Ask}
use Rattle.vale_entry.specs.declared.entry.Ask.TheVariants.{Grant, Done}
use Rattle.vale_entry.specs.declared.entry.Reply.{Reply}
use Rattle.vale_entry.specs.declared.entry.Entry.{Entry}
use Rattle.vale_batch.specs.Wants.{Wanted}
use Rattle.vale_entry.specs.World.{Offer}
pub use Rattle.vale_entry.specs.Grant.{given_in, full_in, gone_in}
use Rattle.vale_entry.specs.Legal.{Standing, step, session_and_reply, IsLegal}
use Rattle.vale_own.specs.Own.{Own, HeldLot, own_of, is_settled_own}
use Rattle.vale_port.specs.Kept.{bytes_of}
use Rattle.vale_book.specs.Granting.{lease_id}
use Rattle.vale_book.specs.Offering.{OffersState}
use Rattle.vale_book.specs.Recorded.{standing, HasRoom}
use Rattle.vale_fabric.specs.declared.kept.Fixed.{Fixed}
use Rattle.vale_fabric.specs.declared.settling.Shares.{Shares}
use Rattle.vale_fabric.specs.Roots.{root_of}
use Rattle.vale_fabric.specs.Fabrics.{Knowing, record_in, seen_in, entry_by}
use Rattle.vale_book.specs.Leases.{StandOf}

-- what settles a session next: its first lease is done, or else its first offer is granted
abbrev pub settling_by : List HeldLot → List Offer → Option Ask
settling_by [] [] = None
settling_by [] (offer ∷ offers) = Some (Grant offer.origin (record { 0 = offer.to }))
settling_by (lease ∷ leases) offers = Some (Done (lease_id lease.0.number))

abbrev pub settling_ask : Own → Option Ask
settling_ask own = settling_by own.leases own.offers

-- the entry is the one that this ask makes in what stands before it
pub record IsSettling (fixed : Fixed) (session : ℕ) (before : List Entry) (entry : Entry) : Type 0 where
  pub ask : Ask
  pub reply : Reply
  pub next : settling_ask (own_of session (standing (record_in fixed before))) ≡ Some ask
  pub entry_is : entry ≡ entry_by session ask reply
  pub steps : option_map session_and_reply (step (standing (record_in fixed before)) ask) ≡ Some (session, reply)
  pub room : HasRoom (record_in fixed before) ask

abbrev pub IsSettlingIn : Fixed → ℕ → List Entry → ℕ × Entry → Type 0
IsSettlingIn fixed session history made = IsSettling fixed session (take (made.0 - 1) history) made.1

-- what entries granted

-- the sums over these entries' Grants
pub record AreShares (added : List (ℕ × Entry)) (shares : Shares) : Type 0 where
  pub given : shares.given ≡ sum_by (λ (made : ℕ × Entry). given_in made.1.reply) added
  pub full : shares.full ≡ sum_by (λ (made : ℕ × Entry). full_in made.1.reply) added
  pub gone : shares.gone ≡ sum_by (λ (made : ℕ × Entry). gone_in made.1.reply) added

abbrev pub both : Shares → Shares → Shares
both a b = record { given = a.given + b.given; full = a.full + b.full; gone = a.gone + b.gone }

-- the frames that a grant, or several, shared out
abbrev pub shared_in : Shares → ℕ
shared_in shares = shares.given + shares.full + shares.gone

-- how many frames are wanted still, counted once for each port that wants them
abbrev pub frames_wanted : List Wanted → ℕ
frames_wanted wants = sum_by (λ (want : Wanted). length want.places) wants

-- the entries that were added, each with its number, went on to settle the session
pub record Settling (fixed : Fixed) (v w : Knowing) (session : ℕ) (shares : Shares) : Type 0 where
  pub added : List (ℕ × Entry)
  pub told : Told root_of v w w.seen added
  pub each : AllByRecursion (IsSettlingIn fixed session w.seen) added
  pub shares_are : AreShares added shares
  pub legal : IsLegal fixed.pool w.seen
  pub whole : IsWhole v.part → w.mine ≡ numbered 1 w.seen

-- until it had no offer and no lease
pub record Settles (fixed : Fixed) (v w : Knowing) (session : ℕ) (shares : Shares) : Type 0 where
  pub settling : Settling fixed v w session shares
  pub settled : is_settled_own (own_of session (standing (seen_in fixed w))) ≡ true

-- the offers are of frames with these bytes
pub record HasBytes (s : Standing) (o : OffersState) (bytes : List (List ℕ)) : Type 0 where
  pub frames : List Frame
  pub stand : StandOf s o frames
  pub bytes_are : bytes_of frames ≡ bytes

-- by what a pass has seen, its session has these offers and no others, of frames with these bytes, and no
-- lease; so many frames are wanted that their sum fits its field
pub record IsAtHand (fixed : Fixed) (v : Knowing) (o : OffersState) (bytes : List (List ℕ)) : Type 0 where
  pub stands : 1 ≤ length o.wants → HasBytes (standing (seen_in fixed v)) o bytes
  pub speaks : Stands o.session v.mine
  pub leases : (own_of o.session (standing (seen_in fixed v))).leases ≡ []
  pub as_many : length (own_of o.session (standing (seen_in fixed v))).offers ≡ length o.wants
  pub few : frames_wanted o.wants < 2 ^ 32
  pub picked : IsPicked v.mine (numbered 1 v.seen)
  pub legal : IsLegal fixed.pool v.seen
  pub whole : IsWhole v.part → v.mine ≡ numbered 1 v.seen
