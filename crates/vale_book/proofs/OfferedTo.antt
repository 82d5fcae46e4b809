-- What an entry offers to a monitor alone.
use Rattle.std.proofs.Common.{ℕ, ◌≡◌, ◌+◌, List, [], ◌∷◌, ◌++◌, length, Option, refl, sym, ◌∙◌, ap, subst, length-append}
use Rattle.std.specs.List.{AllByRecursion as Each, cons_option}
use Rattle.nm_types.specs.declared.id.SessionId.{SessionId}
use Rattle.nm_types.specs.Frames.{Frame}
use Rattle.vale_batch.specs.Wants.{Wanted}
use Rattle.vale_entry.specs.declared.entry.Entry.{Entry}
use Rattle.vale_entry.specs.World.{World, Port}
use Rattle.vale_entry.specs.Legal.{Standing, standing_of, world_of}
use Rattle.vale_entry.specs.Offers.{offers_of, offer_to}
use Rattle.vale_parts.specs.Batches.{wants_monitored}
use Rattle.vale_parts.specs.Offering.{OffersAre, offers_at}
use Rattle.vale_book.specs.declared.book.Book.TheInside.{Inside}
use Rattle.vale_book.specs.BookView.{recorded}
use Rattle.vale_steps.specs.Monitored.{offers_to}
use Rattle.vale_book.specs.Monitored.{IsOfferedTo}
use Rattle.vale_steps.specs.Offering.{OffersState, IsOfferBy}
use Rattle.vale_own.specs.Recorded.{standing}

pub by-session : (origin session : ℕ) (wanted : Port → List Frame) (ports : List Port) → Each (IsOfferBy session) (offers_of origin session wanted ports)
by-session origin session wanted [] = tt
by-session origin session wanted (p ∷ ps) = by-frames (wanted p) (by-session origin session wanted ps)
  where
    by-frames : (frames : List Frame) → Each (IsOfferBy session) (offers_of origin session wanted ps)
        → Each (IsOfferBy session) (cons_option (offer_to origin session p.id frames) (offers_of origin session wanted ps))
    by-frames [] rest = rest
    by-frames (f ∷ fs) rest = (refl, rest)

-- the offers of the entry of this number, as they stand then
pub record StandOffered (w : World) (number session : ℕ) (frames : List Frame) (wants : List Wanted) : Type 0 where
  pub are : OffersAre w number frames wants
  pub by : Each (IsOfferBy session) (offers_at w number)

pub offered-to : (b next : Inside) (entry : Entry) (id : SessionId) (session : ℕ) (monitor : Option ℕ) (frames : List Frame) (wants : List Wanted) (offers : OffersState)
    → next.pool ≡ b.pool → next.history.entries ≡ b.history.entries ++ entry ∷ [] → offers ≡ offers_to (length b.history.entries + 1) id wants → session ≡ id.0
    → wants ≡ wants_monitored monitor frames [] → StandOffered (world_of b.pool.buffers (b.history.entries ++ entry ∷ [])) (length b.history.entries + 1) id.0 frames wants
    → IsOfferedTo (recorded next) session monitor frames offers
offered-to b next entry id session monitor frames wants offers pool entries offered own wanted stood =
    let h = b.history.entries in
    let same : standing (recorded next) ≡ standing_of b.pool.buffers (h ++ entry ∷ []) = rw (pool, entries) refl in
    let at : IsOfferedTo (recorded next) session monitor frames (offers_to (length h + 1) id wants) = record {
      entry = sym (length-append h (entry ∷ [])) ∙ ap (λ (es : List Entry). length es) (sym entries);
      session_is = sym own;
      short = refl;
      lone = refl;
      wants = wanted;
      stand = record {
        frames = frames;
        are = subst (λ (t : Standing). OffersAre t.world (length h + 1) frames wants) (sym same) stood.are;
        by = subst (λ (t : Standing). Each (IsOfferBy id.0) (offers_at t.world (length h + 1))) (sym same) stood.by;
      };
      frames_are = refl;
    } in
    subst (IsOfferedTo (recorded next) session monitor frames) (sym offered) at
