-- What an entry's offers that are not granted yet are, as its wants that are left.
use Rattle.std.specs.Prelude.{ℕ, ◌==◌, ◌≡◌, if◌then◌else◌, List, [], drop, filter, Some}
use Rattle.std.specs.Option.{option_map_or}
use Rattle.nm_types.specs.Frames.{Frame}
use Rattle.vale_batch.specs.Wants.{Wanted}
use Rattle.vale_entry.specs.declared.entry.Ask.{Ask}
use Rattle.vale_entry.specs.declared.entry.Ask.TheVariants.{Send, Grant, Sync, Get, PutKept}
use Rattle.vale_entry.specs.declared.entry.Reply.{Reply}
use Rattle.vale_entry.specs.declared.entry.Reply.TheVariants.{Took}
use Rattle.vale_entry.specs.World.{World, Port, Offer, open_port}
use Rattle.vale_entry.specs.Offers.{is_offer_of}
use Rattle.vale_entry.specs.Grant.{first_offer}
use Rattle.vale_entry.specs.Pipe.{frames_of_items}
use Rattle.vale_entry.specs.Legal.{offers_of_send, offers_of_sync, offers_of_put}
use Rattle.vale_parts.specs.Batches.{IsOfferOf, AreOffersOf}

-- the offers of the entry of this number
abbrev pub offers_at : World → ℕ → List Offer
offers_at w origin = filter (is_offer_of origin) w.offers

-- the frames that the entry brought, and what is wanted of them still
abbrev pub OffersAre : World → ℕ → List Frame → List Wanted → Type 0
OffersAre w origin frames wants = AreOffersOf frames wants (offers_at w origin)

-- a Grant takes the first
abbrev pub wants_after : ℕ → Ask → List Wanted → List Wanted
wants_after origin (Grant granted to) wants = if granted == origin then drop 1 wants else wants
wants_after origin _ wants = wants

-- the offers that an entry starts with
abbrev pub offers_started : World → Ask → Reply → List Offer
offers_started w (Send from frames) reply = option_map_or (λ (port : Port). offers_of_send w port frames) (open_port w.ports from.0) []
offers_started w (Sync at back) reply = option_map_or (offers_of_sync w) (open_port w.ports at.0) []
offers_started w (Get at back) reply = option_map_or (offers_of_sync w) (open_port w.ports at.0) []
offers_started w (PutKept at offered) (Took items to) = option_map_or (λ (port : Port). offers_of_put w port (frames_of_items items)) (open_port w.ports at.0) []
offers_started w _ _ = []

-- the offer that a Grant of the entry takes is that of a want
pub record IsNext (w : World) (origin : ℕ) (frames : List Frame) (want : Wanted) : Type 0 where
  pub offer : Offer
  pub first : first_offer w origin ≡ Some offer
  pub is : IsOfferOf frames want offer
