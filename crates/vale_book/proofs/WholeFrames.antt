-- What is offered are frames, no longer than frames are.
use Rattle.std.proofs.Common.{ℕ, ◌≡◌, true, List, Some}
use Rattle.std.specs.List.{list_all}
use Rattle.nm_types.specs.Sendable.{is_frame}
use Rattle.vale_entry.specs.declared.entry.Entry.{Entry}
use Rattle.vale_entry.specs.World.{Offer}
use Rattle.vale_entry.specs.Grant.{first_offer}
use Rattle.vale_entry.specs.Laws.{OfferHasFrames}
use Rattle.vale_entry.specs.Legal.{standing_of, IsLegal}
use Rattle.vale_entry.proofs.Each.{each-find}
use Rattle.vale_entry.proofs.LinesOfFrames.{lines-have_frames}

pub offer-whole : (pool : ℕ) (h : List Entry) (entry : ℕ) (offer : Offer) → IsLegal pool h → first_offer (standing_of pool h).world entry ≡ Some offer → list_all is_frame offer.frames ≡ true
offer-whole pool h entry offer legal first = each-find OfferHasFrames _ (standing_of pool h).world.offers offer (lines-have_frames pool h legal).offered first
