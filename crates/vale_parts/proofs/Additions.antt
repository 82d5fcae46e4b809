-- Each addition to the tally fits, as the counters of the world do.
use Rattle.std.proofs.Common.{ℕ, Bool, true, false, cond, ◌≡◌, List, [], ◌∷◌, map, find, Option, Some, None, refl, sym, ◌∙◌, ap, subst, arith, ◌==◌}
use Rattle.std.specs.Prelude.{option_map}
use Rattle.std.specs.List.{AllByRecursion as Each}
use Rattle.std.proofs.lemmas.Bool.{eqb-true, eq-eqb}
use Rattle.nm_types.specs.declared.id.Counts.{Counts}
use Rattle.nm_types.specs.Counters.{sum_of_counts, SumFits}
use Rattle.nm_count.specs.declared.tally.Tallied.{Tallied}
use Rattle.nm_count.specs.Tallies.{is_port, counts_of, tally_after_add}
use Rattle.nm_count.specs.Laws.{sum_if_port}
use Rattle.nm_count.proofs.TallyLaws.{adding_sums}
use Rattle.vale_entry.specs.declared.entry.Ask.{Ask}
use Rattle.vale_entry.specs.declared.entry.Ask.TheVariants.{Send, Grant, Sync, PutKept, Get}
use Rattle.vale_entry.specs.declared.entry.Reply.{Reply}
use Rattle.vale_entry.specs.World.{World, Port, PortCounts}
use Rattle.vale_entry.specs.Pipe.{peer_at, is_port_at}
use Rattle.vale_entry.specs.Counters.{counts_if, counted_by, count_sent, count_shared, count_gave_at, count_put, count_taken_at}
use Rattle.vale_entry.specs.Legal.{world_of}
use Rattle.vale_parts.specs.WorldCounts.{counted_as}
use Rattle.vale_parts.specs.Adding.{FitsIn, FitsAtPeer, AddsFit}
use Rattle.vale_parts.specs.CountLaws.{AdditionsFit}
use Rattle.vale_parts.proofs.SumsFit.{sums_fit}

-- what an ask and its reply count fits at each port
abbrev AllFit : World → Ask → Reply → List Tallied → Type 0
AllFit w ask reply tally = Each (λ (c : PortCounts). SumFits c.counts (counted_by c.port w ask reply)) (map counted_as tally)

-- and so at a port that is found
fits_at : (w : World) (ask : Ask) (reply : Reply) (tally : List Tallied) (port : ℕ) → AllFit w ask reply tally → (c : Counts) → counts_of tally port ≡ Some c → SumFits c (counted_by port w ask reply)
fits_at w ask reply [] port all c e = absurd cc
fits_at w ask reply (t ∷ ts) port all c e = by_test (t.port.0 == port) refl (fits_at w ask reply ts port all.1 c) e
  where
    by_test : (b : Bool) → (t.port.0 == port) ≡ b → (counts_of ts port ≡ Some c → SumFits c (counted_by port w ask reply))
        → option_map (λ (x : Tallied). x.counts) (cond b (Some t) (find (is_port port) ts)) ≡ Some c → SumFits c (counted_by port w ask reply)
    by_test true t_is later e =
        let same : t.counts ≡ c = cc in
        let here = subst (λ (p : ℕ). SumFits t.counts (counted_by p w ask reply)) (eqb-true t.port.0 port t_is) all.0 in
        subst (λ (d : Counts). SumFits d (counted_by port w ask reply)) same here
    by_test false t_is later e = later e

own_port : (id : ℕ) (more : Counts) → counts_if (id == id) more ≡ more
own_port id more = ap (λ (b : Bool). counts_if b more) (eq-eqb id id refl)

one_fits : (w : World) (ask : Ask) (reply : Reply) (tally : List Tallied) (id : ℕ) (more : Counts) → AllFit w ask reply tally → counted_by id w ask reply ≡ counts_if (id == id) more → FitsIn tally id more
one_fits w ask reply tally id more all counted c e = subst (SumFits c) (counted ∙ own_port id more) (fits_at w ask reply tally id all c e)

-- a part of what fits
first_fits : (c one two : Counts) → SumFits c (sum_of_counts one two) → SumFits c one
first_fits c one two all = record
    { sent = omega (arith, all.sent); short = omega (arith, all.short); lone = omega (arith, all.lone); given = omega (arith, all.given); full = omega (arith, all.full); read = omega (arith, all.read) }

last_fits : (c one two : Counts) → SumFits c (sum_of_counts one two) → SumFits (sum_of_counts c one) two
last_fits c one two all = record
    { sent = omega (arith, all.sent); short = omega (arith, all.short); lone = omega (arith, all.lone); given = omega (arith, all.given); full = omega (arith, all.full); read = omega (arith, all.read) }

two_fits : (c one two : Counts) → SumFits c (sum_of_counts one two) → SumFits c two
two_fits c one two all = record
    { sent = omega (arith, all.sent); short = omega (arith, all.short); lone = omega (arith, all.lone); given = omega (arith, all.given); full = omega (arith, all.full); read = omega (arith, all.read) }

if_fits : (b : Bool) (c d put taken : Counts) → SumFits c (sum_of_counts (counts_if b put) taken) → cond b (sum_of_counts c put) c ≡ d → SumFits d taken
if_fits true c d put taken all same = subst (λ (x : Counts). SumFits x taken) same (last_fits c put taken all)
if_fits false c d put taken all same = subst (λ (x : Counts). SumFits x taken) same (two_fits c (counts_if false put) taken all)

-- at the other end, once its own was added
peer_by : (at peer : ℕ) (put taken : Counts) (tally : List Tallied) → ((c : Counts) → counts_of tally peer ≡ Some c → SumFits c (sum_of_counts (counts_if (at == peer) put) taken))
    → FitsIn (tally_after_add at put tally) peer taken
peer_by at peer put taken tally all d e = by_found (counts_of tally peer) refl (sym (adding_sums tally at put peer) ∙ e)
  where
    by_found : (found : Option Counts) → counts_of tally peer ≡ found → option_map (sum_if_port at peer put) found ≡ Some d → SumFits d taken
    by_found None is e = absurd cc
    by_found (Some c) is e =
        let same : cond (at == peer) (sum_of_counts c put) c ≡ d = cc in
        if_fits (at == peer) c d put taken (all c is) same

put_peer : (w : World) (ask : Ask) (reply : Reply) (at : ℕ) (put taken : Counts) (tally : List Tallied) (peer : Option Port) → AllFit w ask reply tally
    → ((port : ℕ) → counted_by port w ask reply ≡ sum_of_counts (counts_if (at == port) put) (counts_if (is_port_at port peer) taken))
    → FitsAtPeer (tally_after_add at put tally) peer taken
put_peer w ask reply at put taken tally None all counted = tt
put_peer w ask reply at put taken tally (Some peer) all counted =
    peer_by at peer.id put taken tally (λ c e.
    let same : counted_by peer.id w ask reply ≡ sum_of_counts (counts_if (at == peer.id) put) taken =
    counted peer.id ∙ ap (sum_of_counts (counts_if (at == peer.id) put)) (own_port peer.id taken) in
    subst (SumFits c) same (fits_at w ask reply tally peer.id all c e))

put_own : (w : World) (ask : Ask) (reply : Reply) (at : ℕ) (put more : Counts) (tally : List Tallied) → AllFit w ask reply tally → counted_by at w ask reply ≡ sum_of_counts (counts_if (at == at) put) more
    → FitsIn tally at put
put_own w ask reply at put more tally all counted c e =
    let same : counted_by at w ask reply ≡ sum_of_counts put more = counted ∙ ap (λ (x : Counts). sum_of_counts x more) (own_port at put) in
    first_fits c put more (subst (SumFits c) same (fits_at w ask reply tally at all c e))

adds_fit : (w : World) (ask : Ask) (reply : Reply) (tally : List Tallied) → AllFit w ask reply tally → AddsFit w ask reply tally
adds_fit w (Send from frames) reply tally all = one_fits w (Send from frames) reply tally from.0 (count_sent frames reply) all refl
adds_fit w (Grant origin to) reply tally all = one_fits w (Grant origin to) reply tally to.0 (count_shared reply) all refl
adds_fit w (Sync at back) reply tally all = one_fits w (Sync at back) reply tally at.0 (count_gave_at reply) all refl
adds_fit w (PutKept at offered) reply tally all = (
  put_own w (PutKept at offered) reply at.0 (count_put reply) (counts_if (is_port_at at.0 (peer_at w.ports at.0)) (count_taken_at reply)) tally all refl,
  put_peer w (PutKept at offered) reply at.0 (count_put reply) (count_taken_at reply) tally (peer_at w.ports at.0) all (λ port. refl),
)
adds_fit w (Get at back) reply tally all = one_fits w (Get at back) reply tally at.0 (count_gave_at reply) all refl
adds_fit w _ reply tally all = tt

pub additions_fit : AdditionsFit
additions_fit pool h e tally low legal follows most are =
    let w = world_of pool h in
    adds_fit w e.ask e.reply tally
    (subst (Each (λ (c : PortCounts). SumFits c.counts (counted_by c.port w e.ask e.reply))) (sym are) (sums_fit pool h e low legal follows most))
