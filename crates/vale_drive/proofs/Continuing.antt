-- Entries that come next, one after another, each of which leaves one promised entry fewer.
use Rattle.std.proofs.Common.{ℕ, ◌≡◌, ◌<◌, Bool, true, false, cond, List, [], ◌∷◌, ◌++◌, map, find, Option, Some, None, option_map, refl, sym, ◌∙◌, ap, subst, arith, append-nil}
use Rattle.std.proofs.lemmas.List.{append_assoc}
use Rattle.std.proofs.lemmas.Option.{same_Some}
use Rattle.vale_entry.specs.declared.entry.Ask.{Ask}
use Rattle.vale_entry.specs.declared.entry.Ask.TheVariants.{Shut, Finish}
use Rattle.vale_entry.specs.declared.entry.Entry.{Entry}
use Rattle.vale_entry.specs.World.{Port, Offer}
use Rattle.vale_entry.specs.Legal.{Standing, recorded_step, standing_of, kept_ask, IsLegal, Follows}
use Rattle.vale_entry.specs.Room.{promised_of}
use Rattle.vale_entry.proofs.HistoryLaws.{room-promised}
use Rattle.vale_entry.proofs.Wants.{is_owed, want-owed}
use Rattle.vale_entry.specs.Closing.{is_port_of}
use Rattle.vale_entry.specs.Grant.{first_offer}
use Rattle.vale_book.specs.Recorded.{Recorded, standing, entry_of}
use Rattle.vale_own.proofs.Rooms.{step-recorded}
use Rattle.vale_drive.specs.Winding.{no_chain, least, bufs_ending, grant_of, origin_of, undone_numbers, session_ending, sessions_ending, leases_ending, offers_ending, next_ending, GoesToEnd, IsContinued, IsNextMade}
use Rattle.vale_serve.proofs.Keeping.{step-follows}

pub continued-same : (b : Recorded) → IsContinued b b
continued-same b = record { more = []; is = ap (λ (h : List Entry). let r : Recorded = record b { entries = h } in r) (sym (append-nil b.entries)); goes = tt }

goes-step : (pool : ℕ) (h more : List Entry) (entry : Entry) → GoesToEnd pool h more → next_ending (standing_of pool (h ++ more)) ≡ Some entry.ask → GoesToEnd pool h (more ++ entry ∷ [])
goes-step pool h [] entry goes next = (subst (λ (old : List Entry). next_ending (standing_of pool old) ≡ Some entry.ask) (append-nil h) next, tt)
goes-step pool h (first ∷ more) entry goes next =
    let along : next_ending (standing_of pool ((h ++ first ∷ []) ++ more)) ≡ Some entry.ask =
    subst (λ (old : List Entry). next_ending (standing_of pool old) ≡ Some entry.ask) (sym (append_assoc h (first ∷ []) more)) next in
    (goes.0, goes-step pool (h ++ first ∷ []) more entry goes.1 along)

-- ---- what comes next was promised

abbrev IsKnown : Ask → Type 0
IsKnown ask = (kept_ask ask ≡ ask) × (is_owed ask ≡ true)

session-known : (s : Standing) (session : ℕ) (found : Option Port) (ask : Ask) → session_ending s session found ≡ ask → IsKnown ask
session-known s session None ask e = subst IsKnown e (refl, refl)
session-known s session (Some port) ask e = by port.shutting e
  where
    by : (t : Bool) → cond t (Finish (record { 0 = port.id }) (bufs_ending s port) no_chain) (Shut (record { 0 = port.id })) ≡ ask → IsKnown ask
    by true e = subst IsKnown e (refl, refl)
    by false e = subst IsKnown e (refl, refl)

sessions-known : (s : Standing) (sessions : List ℕ) (ask : Ask) → sessions_ending s sessions ≡ Some ask → IsKnown ask
sessions-known s [] ask e = absurd cc
sessions-known s (session ∷ ss) ask e = session-known s session (find (is_port_of session) s.world.ports) ask (same_Some _ ask e)

leases-known : (s : Standing) (found : Option ℕ) (ask : Ask) → leases_ending s found ≡ Some ask → IsKnown ask
leases-known s None ask e = sessions-known s s.world.sessions ask e
leases-known s (Some lease) ask e = subst IsKnown (same_Some _ ask e) (refl, refl)

granted-known : (found : Option Offer) (ask : Ask) → option_map grant_of found ≡ Some ask → IsKnown ask
granted-known None ask e = absurd cc
granted-known (Some offer) ask e = subst IsKnown (same_Some _ ask e) (refl, refl)

offers-known : (s : Standing) (found : Option ℕ) (ask : Ask) → offers_ending s found ≡ Some ask → IsKnown ask
offers-known s None ask e = leases-known s (least (undone_numbers s.world)) ask e
offers-known s (Some origin) ask e = granted-known (first_offer s.world origin) ask e

next-known : (s : Standing) (ask : Ask) → next_ending s ≡ Some ask → IsKnown ask
next-known s ask comes = offers-known s (least (map origin_of s.world.offers)) ask comes

pub continued-next : (old b new : Recorded) → IsContinued old b → IsNextMade b new → IsContinued old new
continued-next old b new on n =
    let known = next-known (standing b) n.ask n.comes in
    let e = entry_of n.ask n.made in
    let comes : next_ending (standing_of old.pool (old.entries ++ on.more)) ≡ Some e.ask =
    subst (λ (r : Recorded). next_ending (standing r) ≡ Some e.ask) on.is (n.comes ∙ ap (λ (a : Ask). Some a) (sym known.0)) in
    record {
      more = on.more ++ e ∷ [];
      is = n.is
          ∙ (ap (λ (r : Recorded). let q : Recorded = record r { entries = r.entries ++ e ∷ [] } in q) on.is
          ∙ ap (λ (h : List Entry). let q : Recorded = record old { entries = h } in q) (append_assoc old.entries on.more (e ∷ [])));
      goes = goes-step old.pool old.entries on.more e on.goes comes;
    }

pub next-less : (b new : Recorded) → IsLegal b.pool b.entries → IsNextMade b new → promised_of (standing new).world < promised_of (standing b).world
next-less b new legal n =
    let known = next-known (standing b) n.ask n.comes in
    let e = entry_of n.ask n.made in
    let stored : recorded_step (standing b) (kept_ask n.ask) n.made.reply ≡ Some n.made = step-recorded (standing b) n.ask n.made n.steps in
    let follows : Follows (standing b) e = step-follows (standing b) n.ask n.made n.steps in
    let law = room-promised b.pool b.entries e n.made legal follows stored in
    let none = (want-owed (standing b) (kept_ask n.ask) n.made (ap is_owed known.0 ∙ known.1) stored).0 in
    subst (λ (r : Recorded). promised_of (standing r).world < promised_of (standing b).world) (sym n.is) (omega (arith, law, none))
