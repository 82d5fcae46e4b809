-- Units of one user.
use Rattle.std.proofs.Common.{ℕ, ◌+◌, ◌-◌, ◌≤◌, ◌≡◌, [], ◌∷◌, refl, subst, arith}
use Rattle.std.specs.Prelude.{◌==◌}
use Rattle.std.proofs.lemmas.Bool.{eq-eqb}
use Rattle.nm_types.proofs.Tests.{or_first}
use Rattle.nm_turn.specs.Numbered.{numbers}
use Rattle.vale_replay.specs.Machine.{Machine}
use Rattle.vale_act.specs.declared.seat.Seat.{Seat}
use Rattle.vale_act.specs.Units.{IsUserAt, ShareIsUnit, ShareStops}
use Rattle.vale_act.proofs.SharesCounts.{made-share, UserIn, user-in, users-set}

-- a user's number is one more than its place
at-place : (pool number : ℕ) (seat : Seat) (user : Machine) → 1 ≤ number → IsUserAt pool number seat user → IsUserAt pool (1 + (number - 1)) seat user
at-place pool number seat user some at = let same : number ≡ 1 + (number - 1) = omega (arith, some) in subst (λ (k : ℕ). IsUserAt pool k seat user) same at

of-place : (pool number : ℕ) (seat : Seat) (user : Machine) → 1 ≤ number → IsUserAt pool (1 + (number - 1)) seat user → IsUserAt pool number seat user
of-place pool number seat user some at = let same : 1 + (number - 1) ≡ number = omega (arith, some) in subst (λ (k : ℕ). IsUserAt pool k seat user) same at

pub share-unit : ShareIsUnit
share-unit pool share main next seats before after here some begins plays made = record {
  begins = begins;
  lists = numbers plays.added ∷ [];
  plays = λ cast are.
      let found : UserIn pool (1 + (share.user - 1)) before cast.users (share.user - 1) = user-in pool 1 seats cast.users (share.user - 1) before are here in
      let went = plays.plays found.user (of-place pool share.user before found.user some found.at) in
      (went.0 ∷ [], (((found.user, found.here, went.1.0), tt), users-set pool 1 seats cast.users (share.user - 1) after went.0 are (at-place pool share.user after went.0 some went.1.1)));
  inside = (plays.inside, tt);
  made = λ n. made-share n main next seats (share.user - 1) before after (numbers plays.added ∷ []) here (made n);
}

pub share-stops : ShareStops
share-stops fixed share count call fault main next seats before after here some begins stops made forward seen refusal = record {
  begins = begins;
  lists = numbers stops.replays.added ∷ [];
  works = λ cast are.
      let found : UserIn fixed.pool (1 + (share.user - 1)) before cast.users (share.user - 1) = user-in fixed.pool 1 seats cast.users (share.user - 1) before are here in
      let at = of-place fixed.pool share.user before found.user some found.at in
      let went = stops.replays.replays found.user at in
      (went.0 ∷ [], ((found.user, found.here, record { replays = went.1; smaller = λ less. absurd (omega (arith, less)); stops = λ is. stops.stops found.user at }), tt));
  inside = (stops.replays.inside, tt);
  made = λ n. made-share n main next seats (share.user - 1) before after (numbers stops.replays.added ∷ []) here (made n);
  of_unit = or_first (share.user == share.user) _ (eq-eqb share.user share.user refl);
  forward = forward;
  seen = seen;
  refusal = refusal;
}
