-- The turns of one user, one after another.
use Rattle.std.proofs.Common.{ℕ, ◌-◌, ◌<◌, ◌≤◌, ◌≡◌, Bool, true, false, cond, List, [], ◌∷◌, map, take, Option, Some, sym, ap, subst, arith}
use Rattle.std.specs.Option.{option_map_or}
use Rattle.std.specs.List.{AllByRecursion as Each}
use Rattle.std.proofs.lemmas.List.Sums.{sum_by-cons}
use Rattle.nm_types.specs.OwnPorts.{OwnPort, OwnState}
use Rattle.vale_entry.specs.declared.entry.Entry.{Entry}
use Rattle.vale_entry.specs.Arrivals.{arrivals_of}
use Rattle.vale_entry.specs.Laws.{Rise}
use Rattle.vale_entry.specs.OwnCalls.{own_after}
use Rattle.vale_entry.specs.Legal.{Outcome, IsLegal, standing_of, step, kept_ask, fresh_standing}
use Rattle.vale_entry.proofs.Rising.{rise-bounds}
use Rattle.vale_entry.proofs.Worlds.{legal-take}
use Rattle.vale_replay.specs.Machine.{Machine, answered, is_settling, resting, with_tasks}
use Rattle.vale_replay.specs.Replay.{TakesTurn, TakesTurns, entry_of}
use Rattle.vale_cost.specs.Completeness.{cost_by, cost_at, IsOpenedBy, SpendsAll, UsersSpend, IsPlainTask}
use Rattle.vale_replay.proofs.Behind.{behind-all}
use Rattle.vale_cost.proofs.RoomViews.{View, AreBelow, below-later, seen, views, tidy-of}
use Rattle.vale_cost.proofs.RoomRests.{ArePlain}
use Rattle.vale_cost.proofs.RoomSpends.{tidy-spends, turn-outcome}
use Rattle.vale_cost.proofs.RoomChains.{made-below}

pub plain-answered : (n : ℕ) (e : Entry) (own : OwnState) (u : Machine) (b : Bool) → ArePlain u.tasks → ArePlain (cond b u (with_tasks n e (record u { own = own }) u.tasks)).tasks
plain-answered n e own u true plain = plain
plain-answered n e own u false plain = behind-all IsPlainTask n e (record u { own = own }) u.tasks plain plain

abbrev BelowAt : ℕ → List Entry → ℕ → Machine → Machine → Entry → Type 0
BelowAt pool past number user after e =
    after ≡ resting (answered number e (arrivals_of (standing_of pool past) e.ask e.reply) user) → AreBelow number (views after.own)

turn-below : (pool : ℕ) (h : List Entry) (k : ℕ) (user : Machine) (n : ℕ) (after : Machine) → AreBelow k (views user.own) → k < n → ArePlain user.tasks
    → TakesTurn pool h user n after → AreBelow n (views after.own)
turn-below pool h k user n after below above plain turn =
    turn-outcome turn (BelowAt pool (take (n - 1) h) n user after) here turn.goes_on
  where
    here : (out : Outcome) → step (standing_of pool (take (n - 1) h)) turn.ask ≡ Some out → BelowAt pool (take (n - 1) h) n user after (entry_of turn.ask out)
    here out made goes =
        subst (λ (m : Machine). AreBelow n (views m.own)) (sym goes)
        (made-below pool (take (n - 1) h) k n user below above out turn.ask
        (plain-answered n (entry_of turn.ask out) (own_after n (entry_of turn.ask out) (arrivals_of (standing_of pool (take (n - 1) h)) (kept_ask turn.ask) out.reply) user.own) user (is_settling (kept_ask turn.ask)) plain)
        turn.asked made)

pub record Chain (h : List Entry) (user : Machine) (ns : List ℕ) (after : Machine) (high : ℕ) : Type 0 where
  pub spends : SpendsAll h user after ns
  pub below : AreBelow high (views after.own)

pub chain : (pool : ℕ) (h : List Entry) (low high : ℕ) (user : Machine) (ns : List ℕ) (after : Machine) → ((n : ℕ) → IsLegal pool (take n h)) → Rise low ns high
    → AreBelow low (views user.own) → ArePlain user.tasks → TakesTurns pool h user ns after → Chain h user ns after high
chain pool h low high user [] after legal rise below plain turns =
    subst (λ (m : Machine). Chain h user [] m high) (sym turns)
    (record { spends = record { spends = λ c. omega arith; plain = plain }; below = below-later low high (views user.own) (rise-bounds low [] high rise) below })
chain pool h low high user (n ∷ ns) after legal rise below plain turns =
    let next = turns.0 in
    let turn = turns.1.0 in
    let there = turn-below pool h low user n next below rise.0 plain turn in
    let one = tidy-spends pool h user n next (legal (n - 1)) below.tidy there.tidy plain turn in
    let rest = chain pool h n high next ns after legal rise.1 there one.plain turns.1.1 in
    record {
      spends = record {
        spends = λ c.
            (let here : cost_at c h n ≡ cost_by c turn.entry = ap (λ (o : Option Entry). option_map_or (cost_by c) o 0) turn.there in
            let all = sum_by-cons (cost_at c h) n ns in
            let first = one.spends c in
            let others = rest.spends.spends c in
            omega (arith, here, all, first, others));
        plain = rest.spends.plain;
      };
      below = rest.below;
    }

opened-ids : (low : ℕ) (ports : List OwnPort) → Each (IsOpenedBy low) ports → Each (λ (v : View). v.id ≤ low) (map seen ports)
opened-ids low [] all = tt
opened-ids low (p ∷ ports) all = (all.0, opened-ids low ports all.1)

pub users-spend : UsersSpend
users-spend pool h low high user ns after legal rise sound opened plain turns =
    (chain pool h low high user ns after (λ (n : ℕ). legal-take (fresh_standing pool) h n legal) rise (record { tidy = tidy-of user.own sound; ids = opened-ids low user.own.ports opened }) plain turns).spends
