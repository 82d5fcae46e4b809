-- A Grant drops frames because the port is not open, or because one more does not fit.
use Rattle.std.proofs.Common.{ℕ, suc, ◌+◌, ◌-◌, ◌<◌, ◌≤◌, ◌≡◌, Bool, true, false, cond, ◌&&◌, ◌==◌, List, [], ◌∷◌, length, take, filter, Option, Some, None, refl, ◌∙◌, ap, subst, arith}
use Rattle.std.specs.Prelude.{nat_le}
use Rattle.std.specs.List.{AllByRecursion as Each}
use Rattle.std.proofs.lemmas.List.Sums.{sum_by-cons}
use Rattle.std.proofs.lemmas.Bool.{leb-true, leb-false, and_parts, eqb-true, eq-eqb}
use Rattle.nm_types.specs.Frames.{Frame, slots_of, size_of_frames}
use Rattle.vale_entry.specs.declared.entry.Entry.{Entry}
use Rattle.vale_entry.specs.World.{World, Port, Offer, open_port, space_of}
use Rattle.vale_entry.specs.Grant.{longest_fitting, first_offer, without_first, grant_reply}
use Rattle.vale_entry.specs.Legal.{Standing, standing_of, world_of, sync_step}
use Rattle.vale_entry.specs.Fate.{wanted_at, is_offer_to, offers_at, share_of, share_in}
use Rattle.vale_entry.specs.DeliveryLaws.{HasCause, FramesAreDroppedForCause}
use Rattle.vale_entry.proofs.Roomy.{longest_fitting-size}
use Rattle.vale_entry.proofs.Follows.{EachKind, Left, follows-by}
use Rattle.vale_entry.proofs.Tells.{tells-nothing, tells-received}
use Rattle.vale_entry.proofs.Shares.{fitting-front}
use Rattle.vale_entry.proofs.Offered.{first-origin, offers-granted}
use Rattle.vale_entry.proofs.SharedOnce.{share_at, share_of-reply, history-account}

-- where a prefix is the longest that fits, one frame more does not
next_by :
    (frame : Frame) (frames rest : List Frame) (room : ℕ) (b : Bool)
    → nat_le (slots_of frame) room ≡ b
    →
    (length rest < length frames
    → room - slots_of frame < size_of_frames (take (length rest + 1) frames))
    → length (cond b (frame ∷ rest) []) < length (frame ∷ frames)
    → room < size_of_frames (take (length (cond b (frame ∷ rest) []) + 1) (frame ∷ frames))
next_by frame frames rest room true t later few =
    let fits : slots_of frame ≤ room = leb-true (slots_of frame) room t in
    let more = later (omega (arith, few)) in
    let count : length (frame ∷ rest) + 1 ≡ suc (length rest + 1) = omega arith in
    let sum :
    size_of_frames (frame ∷ take (length rest + 1) frames)
    ≡ slots_of frame + size_of_frames (take (length rest + 1) frames) =
    sum_by-cons slots_of frame (take (length rest + 1) frames) in
    rw count (omega (arith, fits, more, sum))
next_by frame frames rest room false t later few =
    let none : room < slots_of frame = leb-false (slots_of frame) room t in
    let sum : size_of_frames (frame ∷ []) ≡ slots_of frame + size_of_frames [] =
    sum_by-cons slots_of frame [] in
    omega (arith, none, sum)

fitting-next :
    (room : ℕ) (frames : List Frame) → length (longest_fitting room frames) < length frames
    → room < size_of_frames (take (length (longest_fitting room frames) + 1) frames)
fitting-next room [] few = absurd (omega (arith, few))
fitting-next room (frame ∷ frames) few =
    next_by frame frames (longest_fitting (room - slots_of frame) frames) room
    (nat_le (slots_of frame) room) refl (fitting-next (room - slots_of frame) frames) few

share-cause :
    (found : Option Port) (frames : List Frame) → HasCause found frames (share_at found frames)
share-cause None frames = record {
  gone_closed = λ some. refl;
  full_open = λ some. absurd (omega (arith, some));
  given_fits = λ port e. absurd cc;
}
share-cause (Some port) frames = record {
  gone_closed = λ some. absurd (omega (arith, some));
  full_open = λ some. (port, (refl, fitting-next (space_of port) frames (omega (arith, some))));
  given_fits = λ other e.
      let same : port ≡ other = cc in
      subst
      (λ (p : Port).
      size_of_frames (take (length (longest_fitting (space_of port) frames)) frames) ≤ space_of p)
      same
      (subst (λ (given : List Frame). size_of_frames given ≤ space_of port)
      (fitting-front (space_of port) frames) (longest_fitting-size (space_of port) frames));
}

abbrev Caused : ℕ → ℕ → World → List Frame → Entry → Standing → Type 0
Caused number to w wanted e left =
    Each (HasCause (open_port w.ports to) wanted) (share_in number to e)

module _ (s : Standing) (number to : ℕ) (wanted : List Frame)
    (offered : Each (λ (offer : Offer). offer.frames ≡ wanted) (offers_at s.world number to)) where
  abbrev w : World
  w = s.world

  shared :
      (origin at : ℕ) (offer : Offer) → first_offer w origin ≡ Some offer → offer.to ≡ at
      → (hit : Bool) → ((origin == number) && (at == to)) ≡ hit
      → Each (HasCause (open_port w.ports to) wanted) (cond hit (share_of (grant_reply w offer)) [])
  shared origin at offer first same true t =
      rw (share_of-reply (open_port w.ports offer.to) offer.frames) (cause, tt)
    where
      tests : ((origin == number) ≡ true) × ((at == to) ≡ true)
      tests = and_parts (origin == number) (at == to) t

      mine : offer.origin ≡ number
      mine =
          first-origin origin w.offers offer first ∙ eqb-true origin number
          (and_parts (origin == number) (at == to) t).0

      here : offer.to ≡ to
      here = same ∙ eqb-true at to (and_parts (origin == number) (at == to) t).1

      hits : is_offer_to number to offer ≡ true
      hits = rw (mine, here, eq-eqb number number refl) (eq-eqb to to refl)

      stands :
          offers_at w number to
          ≡ offer ∷ filter (is_offer_to number to) (without_first origin w.offers)
      stands =
          offers-granted number to origin w.offers offer first
          ∙ ap
          (λ (b : Bool).
          cond b (offer ∷ filter (is_offer_to number to) (without_first origin w.offers))
          (filter (is_offer_to number to) (without_first origin w.offers))) hits

      frames : offer.frames ≡ wanted
      frames =
          (subst (λ (os : List Offer). Each (λ (o : Offer). o.frames ≡ wanted) os) stands offered).0

      cause :
          HasCause (open_port w.ports to) wanted
          (share_at (open_port w.ports offer.to) offer.frames)
      cause =
          subst
          (λ (id : ℕ).
          HasCause (open_port w.ports id) wanted
          (share_at (open_port w.ports offer.to) offer.frames)) here
          (subst
          (λ (xs : List Frame).
          HasCause (open_port w.ports offer.to) xs
          (share_at (open_port w.ports offer.to) offer.frames)) frames
          (share-cause (open_port w.ports offer.to) offer.frames))
  shared origin at offer first same false t = tt

  causes : EachKind s (Left s (Caused number to w wanted))
  causes = record {
    enters = λ user fits. tt;
    quiet =
        λ ask session reply quiet. rw ((tells-nothing s ask session reply quiet).shares number to)
        tt;
    opens = λ session name tx rx extra can refusal. tt;
    sends = λ from frames port e can settled. tt;
    grants =
        λ origin at offer first same. shared origin at.0 offer first same
        ((origin == number) && (at.0 == to)) refl;
    completes = λ lease lot e. tt;
    receives =
        λ ask at back port receives e can. rw
        ((tells-received s ask at back (sync_step s back port) receives).shares number to) tt;
    puts = λ at offered items port peer e can found. tt;
    watches = λ at target sides port found e can there none. tt;
    shuts = λ at port e settled. tt;
    finishes = λ at bufs chain port fits e can out. tt;
    leaves = λ session can. tt;
  }

pub dropped-cause : FramesAreDroppedForCause
dropped-cause pool h entry legal follows number to =
    follows-by (standing_of pool h)
    (Caused number to (world_of pool h) (wanted_at pool h number to)) entry follows
    (causes (standing_of pool h) number to (wanted_at pool h number to)
    (history-account pool h legal number to).offered)
