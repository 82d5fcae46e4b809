-- What a batch is wanted for, as its look-up tells it and as the offers of a send do.
use Rattle.std.specs.Prelude.{ℕ, ◌≡◌, nat_lt, if◌then◌else◌, List, [], ◌∷◌, length, map, Option, Some, None, slice_get}
use Rattle.std.specs.List.{range_with_len}
use Rattle.nm_types.specs.Frames.{Frame, slots_of}
use Rattle.vale_batch.specs.declared.looking.Destination.{Destination as Lookup}
use Rattle.vale_batch.specs.declared.looking.Destination.TheVariants as lookups
use Rattle.vale_batch.specs.declared.looking.Looked.{Looked}
use Rattle.vale_batch.specs.Wants.{Wanted, is_short_destination}
use Rattle.vale_entry.specs.declared.entry.Dest.{Dest}
use Rattle.vale_entry.specs.World.{Offer}
use Rattle.vale_entry.specs.Learning.{is_short}
use Rattle.vale_entry.specs.Lookup.{Destination, These, Others, Named}
use Rattle.vale_parts.specs.Ids.{port_id}

-- a short frame goes to nobody
abbrev pub named_as : Lookup → Destination
named_as lookups.Short = These []
named_as lookups.Nobody = These []
named_as (lookups.Only port) = These (port.0 ∷ [])
named_as lookups.Others = Others

-- a frame as it was looked up is the frame as it is named, in so many slots
pub record IsLookedAs (looked : Looked) (named : Named) : Type 0 where
  pub destination : named_as looked.destination ≡ named.destination
  pub short : is_short_destination looked ≡ is_short named.frame
  pub size : looked.size ≡ slots_of named.frame

abbrev pub AreLookedAs : List Looked → List Named → Type 0
AreLookedAs [] [] = Unit {0}
AreLookedAs [] (named ∷ others) = ⊥
AreLookedAs (looked ∷ rest) [] = ⊥
AreLookedAs (looked ∷ rest) (named ∷ others) = IsLookedAs looked named × AreLookedAs rest others

-- a port wants the frames of an offer to it: these stand at its places, and its sizes are their slots
pub record IsOfferOf (frames : List Frame) (want : Wanted) (offer : Offer) : Type 0 where
  pub to : want.to.0 ≡ offer.to
  pub places : map (slice_get frames) want.places ≡ map Some offer.frames
  pub sizes : want.sizes ≡ map slots_of offer.frames

-- each want in its turn is that of the offer in the same turn
abbrev pub AreOffersOf : List Frame → List Wanted → List Offer → Type 0
AreOffersOf frames [] [] = Unit {0}
AreOffersOf frames [] (offer ∷ offers) = ⊥
AreOffersOf frames (want ∷ wants) [] = ⊥
AreOffersOf frames (want ∷ wants) (offer ∷ offers) = IsOfferOf frames want offer × AreOffersOf frames wants offers

-- how many frames each port wants
abbrev pub dest_wanted : Wanted → Dest
dest_wanted want = record { to = want.to; count = length want.places }

abbrev pub dests_wanted : List Wanted → List Dest
dests_wanted wants = map dest_wanted wants

-- the want of a port that gets all frames
abbrev pub want_of_all : ℕ → List Frame → Wanted
want_of_all port frames = record { to = port_id port; places = range_with_len 0 (length frames); sizes = map slots_of frames }

-- wants by rising port, with one more at its place
abbrev pub with_want : Wanted → List Wanted → List Wanted
with_want want [] = want ∷ []
with_want want (first ∷ wants) = if nat_lt want.to.0 first.to.0 then want ∷ first ∷ wants else first ∷ with_want want wants

-- the wants of a batch with its monitor's, who wants all frames of it, if there are some
abbrev pub wants_monitored : Option ℕ → List Frame → List Wanted → List Wanted
wants_monitored None frames wants = wants
wants_monitored (Some monitor) [] wants = wants
wants_monitored (Some monitor) (frame ∷ frames) wants = with_want (want_of_all monitor (frame ∷ frames)) wants
