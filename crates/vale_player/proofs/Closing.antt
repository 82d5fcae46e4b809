-- A session that closes its ports, one after another, and leaves plays the closing of its user.
use Rattle.std.proofs.Common.{ℕ, suc, ◌-◌, ◌<◌, ◌==◌, ◌≡◌, Bool, true, false, cond, not, List, [], ◌∷◌, ◌++◌, length, map, filter, find, flat_map, take, slice_get, Some, None, refl, sym, ◌∙◌, ap, subst, arith}
use Rattle.std.specs.Prelude.{bytes_eq, nat_eq}
use Rattle.std.specs.List.{AllByRecursion, IsDistinct}
use Rattle.std.proofs.lemmas.Bool.{eqb-true, eq-eqb, ne_eqb}
use Rattle.std.proofs.lemmas.Slice.Eq.{bytes_eq-Decides}
use Rattle.std.proofs.lemmas.Option.{same_Some}
use mathlib.Core.List.{IsPrefix}
use Rattle.nm_types.specs.OwnPorts.{OwnPort, OwnState, port_with_id, port_with_name, buffers_in}
use Rattle.nm_types.specs.OwnSyncs.{own_after_finish}
use Rattle.nm_turn.specs.Numbered.{Stands}
use Rattle.nm_turn.proofs.Numbered.{Stands-left}
use Rattle.nm_turn.proofs.Prefixes.{prefix_length, prefix_self, prefix_trans}
use Rattle.vale_entry.specs.declared.entry.Ask.TheVariants.{Shut, Leave}
use Rattle.vale_entry.specs.declared.entry.Entry.{Entry}
use Rattle.vale_entry.specs.declared.entry.Reply.TheVariants as replies
use Rattle.vale_entry.specs.Legal.{Follows, IsLegal, standing_of}
use Rattle.vale_entry.specs.OwnCalls.{finish_call}
use Rattle.vale_entry.proofs.ListLaws.{place-of}
use Rattle.vale_own.specs.Own.{Own, own_of, is_settled_own}
use Rattle.vale_own.specs.OwnEntries.{own_after_entry}
use Rattle.vale_own.specs.Side.{IsFinishCall, IsSoundSideOf, id_of}
use Rattle.vale_own.proofs.OwnEntry.{own-entries}
use Rattle.vale_own.proofs.OwnKept.{legal-split}
use Rattle.vale_own.proofs.SideKept.{side-kept}
use Rattle.vale_fabric.specs.declared.kept.Fixed.{Fixed}
use Rattle.vale_fabric.specs.Fabrics.{Knowing, Answers, entry_by}
use Rattle.nm_user.specs.declared.leaving.Detached.{Detached}
use Rattle.nm_user.specs.Leaving.{AreDetached, IsDetached, IsLeft}
use Rattle.nm_user.specs.Sessions.{SessionState, IsThere}
use Rattle.vale_replay.specs.Tasks.{Task, Depart}
use Rattle.vale_replay.specs.Machine.{Machine, closing_of}
use Rattle.vale_replay.proofs.Legal.{take-one_more}
use Rattle.vale_player.specs.Users.{HasCome, HasWorked}
use Rattle.vale_player.specs.Laws.{ClosingIsPlayed}
use Rattle.vale_player.proofs.Detaching.{detach-turns, neither, shut-settled}
use Rattle.vale_player.proofs.Leaving.{leave-turn}
use Rattle.vale_player.proofs.Syncs.{legal-at, others-at, own-before, own-behind, own-range}
use Rattle.vale_player.proofs.Turns.{same-but}
use Rattle.vale_player.proofs.Working.{added-rise}

-- ---- a session behind a detach

module _ (s t : SessionState) (id : ℕ) (told : Detached) (here : IsThere None s) (legal : IsLegal s.fixed.pool t.knows.seen) (d : IsDetached s t id told) where
  abbrev pool : ℕ
  pool = s.fixed.pool

  abbrev h : List Entry
  h = t.knows.seen

  abbrev p : OwnPort
  p = d.at.port

  abbrev one : Entry
  one = entry_by s.id (Shut p.id) replies.Made

  abbrev two : Entry
  two = entry_by s.id (finish_call s.own p) (replies.Unread told.unread)

  abbrev behind : List (ℕ × Entry)
  behind = (d.finish, two) ∷ []

  abbrev own-at : ℕ → Own
  own-at n = own_of s.id (standing_of pool (take n h))

  legal-to : (n : ℕ) → IsLegal pool (take n h)
  legal-to = legal-at s t.knows d.shut one behind here legal d.told

  new : length s.knows.seen < d.shut
  new = (d.told.stand 0 d.shut one refl).0

  up : d.shut < d.finish
  up = (added-rise s.knows t.knows ((d.shut, one) ∷ behind) d.told).1.0

  grown : (n : ℕ) (e : Entry) → 0 < n → slice_get h (n - 1) ≡ Some e → take n h ≡ take (n - 1) h ++ e ∷ []
  grown n e some there = let count : suc (n - 1) ≡ n = omega (arith, some) in ap (λ (k : ℕ). take k h) (sym count) ∙ take-one_more h (n - 1) e there

  follows : (n : ℕ) (e : Entry) → 0 < n → slice_get h (n - 1) ≡ Some e → Follows (standing_of pool (take (n - 1) h)) e
  follows n e some there = (legal-split pool (take (n - 1) h) (e ∷ []) (subst (IsLegal pool) (grown n e some there) (legal-to n))).1.0

  shut-there : slice_get h (d.shut - 1) ≡ Some one
  shut-there = (d.told.stand 0 d.shut one refl).1

  finish-there : slice_get h (d.finish - 1) ≡ Some two
  finish-there = (d.told.stand 1 d.finish two refl).1

  between : own-at (d.finish - 1) ≡ own-at d.shut
  between = own-range pool h s.id d.shut (d.finish - 1) (omega (arith, up)) (legal-to (d.finish - 1))
      (λ k e low high at. others-at s t.knows ((d.shut, one) ∷ behind) here d.told k e (omega (arith, new, low)) at (neither d.shut d.finish k one two low high))

  ends : own-at d.finish ≡ own_of s.id (standing_of pool h)
  ends = own-behind s t.knows d.shut one behind here legal d.told

  starts : own-at (d.shut - 1) ≡ own_of s.id (standing_of pool s.knows.seen)
  starts = own-before s t.knows d.shut one behind here legal d.told

  -- its side
  side-shut : IsSoundSideOf pool s.id (Some p.id.0) (own-at d.shut) s.own
  side-shut = subst (λ (es : List Entry). IsSoundSideOf pool s.id (Some p.id.0) (own_of s.id (standing_of pool es)) s.own) (sym (grown d.shut one (omega (arith, new)) shut-there))
      (side-kept pool (take (d.shut - 1) h) one None s.own (legal-to (d.shut - 1)) (follows d.shut one (omega (arith, new)) shut-there) (subst (λ (o : Own). IsSoundSideOf pool s.id None o s.own) (sym starts) here.side) refl)

  number : p.id.0 ≡ id
  number = eqb-true p.id.0 id (place-of (λ (q : OwnPort). q.id.0 == id) s.own.ports p d.at.found).passes

  found : port_with_id s.own p.id.0 ≡ Some p
  found = subst (λ (n : ℕ). port_with_id s.own n ≡ Some p) (sym number) d.at.found

  call : IsFinishCall s.own p.id.0 (finish_call s.own p)
  call = record { port = p; found = found; is = refl }

  side-finish : IsSoundSideOf pool s.id None (own-at d.finish) (own_after_finish p.id.0 (buffers_in p) s.own)
  side-finish = subst (λ (es : List Entry). IsSoundSideOf pool s.id None (own_of s.id (standing_of pool es)) (own_after_finish p.id.0 (buffers_in p) s.own)) (sym (grown d.finish two (omega (arith, up)) finish-there))
      (side-kept pool (take (d.finish - 1) h) two (Some p.id.0) s.own (legal-to (d.finish - 1)) (follows d.finish two (omega (arith, up)) finish-there)
      (subst (λ (o : Own). IsSoundSideOf pool s.id (Some p.id.0) o s.own) (sym between) side-shut) call)

  own-is : own_after_finish p.id.0 (buffers_in p) s.own ≡ t.own
  own-is = ap (λ (n : ℕ). own_after_finish n (buffers_in p) s.own) number ∙ sym d.own

  -- and it is settled
  settled-shut : is_settled_own (own-at d.shut) ≡ true
  settled-shut = shut-settled pool h d.shut s.id p.id.0 (legal-to d.shut) (omega (arith, new)) shut-there (ap is_settled_own starts ∙ here.settled)

  finished : own-at d.finish ≡ own_after_entry (standing_of pool (take (d.finish - 1) h)) two.ask two.reply (own-at (d.finish - 1))
  finished = ap (λ (es : List Entry). own_of s.id (standing_of pool es)) (grown d.finish two (omega (arith, up)) finish-there)
      ∙ own-entries pool (take (d.finish - 1) h) two (legal-to (d.finish - 1)) (follows d.finish two (omega (arith, up)) finish-there)

  settled-finish : is_settled_own (own-at d.finish) ≡ true
  settled-finish = ap is_settled_own finished ∙ (ap is_settled_own between ∙ settled-shut)

  there-at : IsThere None (record { fabric = t.fabric; fixed = s.fixed; knows = t.knows; id = s.id; user = t.user; own = t.own })
  there-at =
      let long = prefix_length s.knows.seen h d.told.begins in
      let come = here.come in
      record {
        come = omega (arith, long, come);
        speaks = subst (Stands s.id) (sym d.told.mine) (Stands-left s.id s.knows.mine ((d.shut, one) ∷ behind) here.speaks);
        legal = legal;
        side = subst (λ (o : OwnState). IsSoundSideOf pool s.id None (own_of s.id (standing_of pool h)) o) own-is
            (subst (λ (o : Own). IsSoundSideOf pool s.id None o (own_after_finish p.id.0 (buffers_in p) s.own)) ends side-finish);
        settled = ap is_settled_own (sym ends) ∙ settled-finish;
      }

  detached-there : IsThere None t
  detached-there = subst (IsThere None) (same-but s t d.fixed d.id_is) there-at

-- ---- its first port

head-named : (own : OwnState) (p : OwnPort) (ports : List OwnPort) → own.ports ≡ p ∷ ports → port_with_name own p.name ≡ Some p
head-named own p ports has =
    let same : bytes_eq p.name p.name ≡ true = (bytes_eq-Decides p.name p.name).1 refl in
    ap (find (λ (q : OwnPort). bytes_eq p.name q.name)) has ∙ ap (λ (b : Bool). cond b (Some p) (find (λ (q : OwnPort). bytes_eq p.name q.name) ports)) same

head-found : (own : OwnState) (p : OwnPort) (ports : List OwnPort) → own.ports ≡ p ∷ ports → port_with_id own p.id.0 ≡ Some p
head-found own p ports has =
    ap (find (λ (q : OwnPort). q.id.0 == p.id.0)) has ∙ ap (λ (b : Bool). cond b (Some p) (find (λ (q : OwnPort). q.id.0 == p.id.0) ports)) (eq-eqb p.id.0 p.id.0 refl)

other-id : (a b : ℕ) → nat_eq a b ≡ false → (b == a) ≡ false
other-id a b apart = ne_eqb b a (λ e. let same : nat_eq a b ≡ true = eq-eqb a b (sym e) in let clash : true ≡ false = sym same ∙ apart in absurd cc)

others-left : (id : ℕ) (ports : List OwnPort) → AllByRecursion (λ (n : ℕ). nat_eq id n ≡ false) (map id_of ports) → filter (λ (q : OwnPort). not (q.id.0 == id)) ports ≡ ports
others-left id [] apart = refl
others-left id (q ∷ ports) apart =
    let stays : not (q.id.0 == id) ≡ true = ap not (other-id id q.id.0 apart.0) in
    let rest = others-left id ports apart.1 in
    ap (λ (b : Bool). cond b (q ∷ filter (λ (x : OwnPort). not (x.id.0 == id)) ports) (filter (λ (x : OwnPort). not (x.id.0 == id)) ports)) stays ∙ ap (λ (xs : List OwnPort). q ∷ xs) rest

ports-left : (own : OwnState) (p : OwnPort) (ports : List OwnPort) (bufs : List ℕ) → own.ports ≡ p ∷ ports → IsDistinct nat_eq (map id_of own.ports) → (own_after_finish p.id.0 bufs own).ports ≡ ports
unfolding IsDistinct
ports-left own p ports bufs has distinct =
    let apart : IsDistinct nat_eq (map id_of (p ∷ ports)) = subst (λ (ps : List OwnPort). IsDistinct nat_eq (map id_of ps)) has distinct in
    let goes : not (p.id.0 == p.id.0) ≡ false = ap not (eq-eqb p.id.0 p.id.0 refl) in
    ap (filter (λ (q : OwnPort). not (q.id.0 == p.id.0))) has
    ∙ (ap (λ (b : Bool). cond b (p ∷ filter (λ (q : OwnPort). not (q.id.0 == p.id.0)) ports) (filter (λ (q : OwnPort). not (q.id.0 == p.id.0)) ports)) goes
    ∙ others-left p.id.0 ports apart.0)

-- ---- one port after another

begins-all : (ports : List OwnPort) (s t : SessionState) → AreDetached s ports t → IsPrefix s.knows.seen t.knows.seen
begins-all [] s t same = subst (λ (z : SessionState). IsPrefix s.knows.seen z.knows.seen) (sym same) (prefix_self s.knows.seen)
begins-all (p ∷ ports) s t all = prefix_trans s.knows.seen all.0.knows.seen t.knows.seen all.1.1.0.told.begins (begins-all ports all.0 t all.1.1.1)

fixed-all : (ports : List OwnPort) (s t : SessionState) → AreDetached s ports t → t.fixed ≡ s.fixed
fixed-all [] s t same = ap (λ (z : SessionState). z.fixed) same
fixed-all (p ∷ ports) s t all = fixed-all ports all.0 t all.1.1.1 ∙ all.1.1.0.fixed

record Closed (began : Knowing) (s t : SessionState) (first now : Machine) : Type 0 where
  there : IsThere None t
  come : HasCome began first t (record now { own = t.own; tasks = Depart ∷ [] })
  ports : t.own.ports ≡ []
  fixed : t.fixed ≡ s.fixed
  id : t.id ≡ s.id

closes : (ports : List OwnPort) (s t : SessionState) (began : Knowing) (first now : Machine) → IsThere None s → IsLegal s.fixed.pool t.knows.seen → AreDetached s ports t → s.own.ports ≡ ports
    → HasCome began first s now → now.tasks ≡ flat_map closing_of ports ++ Depart ∷ [] → Closed began s t first now
closes [] s t began first now here legal same none come has =
    let as-now : now ≡ record now { own = s.own; tasks = Depart ∷ [] } =
    ap (λ (o : OwnState). record now { own = o; tasks = now.tasks }) come.user.own ∙ ap (λ (ts : List Task). record now { own = s.own; tasks = ts }) has in
    let at : Closed began s s first now = record { there = here; come = subst (HasCome began first s) as-now come; ports = none; fixed = refl; id = refl } in
    subst (λ (z : SessionState). Closed began s z first now) (sym same) at
closes (p ∷ ports) s t began first now here legal all list come has =
    let mid = all.0 in
    let told = all.1.0 in
    let d = all.1.1.0 in
    let begins = begins-all ports mid t all.1.1.1 in
    let rest : List Task = flat_map closing_of ports ++ Depart ∷ [] in
    let legal-mid : IsLegal s.fixed.pool mid.knows.seen = (legal-split s.fixed.pool mid.knows.seen begins.0 (subst (IsLegal s.fixed.pool) (sym begins.1) legal)).0 in
    let there = detached-there s mid p.id.0 told here legal-mid d in
    let port : d.at.port ≡ p = same_Some d.at.port p (sym d.at.found ∙ head-found s.own p ports list) in
    let named : port_with_name s.own p.name ≡ Some d.at.port = head-named s.own p ports list ∙ ap (λ (q : OwnPort). Some q) (sym port) in
    let come-mid : HasCome began first mid (record now { own = mid.own; tasks = rest }) = detach-turns s mid began first now p.name rest p.id.0 told here there come has d named in
    let left : mid.own.ports ≡ ports = ap (λ (o : OwnState). o.ports) d.own ∙ ports-left s.own p ports (buffers_in d.at.port) list here.side.sound.apart in
    let r = closes ports mid t began first (record now { own = mid.own; tasks = rest }) there (subst (λ (f : Fixed). IsLegal f.pool t.knows.seen) (sym d.fixed) legal) all.1.1.1 left come-mid refl in
    record { there = r.there; come = r.come; ports = r.ports; fixed = r.fixed ∙ d.fixed; id = r.id ∙ d.id_is }

-- ---- and the session leaves

pub closing-played : ClosingIsPlayed
closing-played s w began first now here come has left =
    let last = left.last in
    let m = left.left.makes in
    let fixed = fixed-all s.own.ports s last left.detached in
    let all : IsLegal s.fixed.pool w.seen = subst (λ (f : Fixed). IsLegal f.pool w.seen) fixed m.legal in
    let legal : IsLegal s.fixed.pool last.knows.seen = (legal-split s.fixed.pool last.knows.seen m.told.begins.0 (subst (IsLegal s.fixed.pool) (sym m.told.begins.1) all)).0 in
    let tasks : now.tasks ≡ flat_map closing_of s.own.ports ++ Depart ∷ [] = has ∙ ap (λ (o : OwnState). flat_map closing_of o.ports ++ Depart ∷ []) come.user.own in
    let r = closes s.own.ports s last began first now here legal left.detached refl come tasks in
    let alone : IsLeft last w = record {
      last = last;
      detached = subst (λ (ports : List OwnPort). AreDetached last ports last) (sym r.ports) refl;
      left = subst (λ (n : ℕ). Answers last.fixed last.knows w (Leave (record { 0 = n })) replies.Made) (sym r.id) left.left;
    } in
    subst (λ (f : Fixed). HasWorked f.pool began w first (record now { session = None; own = last.own; tasks = [] })) r.fixed
    (leave-turn last w began first (record now { own = last.own; tasks = Depart ∷ [] }) r.there r.come refl r.ports alone)
