-- A session after its call.
use Rattle.std.proofs.Common.{ℕ, ◌+◌, ◌≤◌, ◌≡◌, Bool, true, false, List, [], ◌∷◌, ◌++◌, length, sym, ap, subst, arith, length-append, refl, ◌∙◌, Option, Some, None, inl, le_refl, ◌&&◌, append-nil}
use Rattle.std.specs.Prelude.{All, option_map, if◌then◌else◌}
use Rattle.std.specs.Option.{option_map_or}
use Rattle.std.proofs.lemmas.Bool.{eqb-true}
use Rattle.nm_types.specs.OwnPorts.{empty_own}
use Rattle.nm_turn.specs.Numbered.{Stands}
use Rattle.nm_turn.proofs.Numbered.{Stands-left, Stands-right}
use Rattle.vale_entry.specs.declared.entry.Ask.{Ask}
use Rattle.vale_entry.specs.declared.entry.Ask.TheVariants.{Enter, Open, Send, Grant, Done, Sync, Reset, Shut, Finish, Leave, Put, PutKept, Get, Watch, Stat}
use Rattle.vale_entry.specs.declared.entry.Reply.{Reply}
use Rattle.vale_entry.specs.declared.entry.Reply.TheVariants as replies
use Rattle.vale_entry.specs.declared.entry.Entry.{Entry}
use Rattle.vale_entry.specs.Arrivals.{arrivals_of}
use Rattle.vale_entry.specs.OwnCalls.{own_by}
use Rattle.vale_entry.specs.Legal.{Standing, Outcome, IsLegal, standing_of, kept_ask, step, session_and_reply, Follows, enter_step, fits_u64, is_enabled}
use Rattle.vale_entry.proofs.Worlds.{count-world_of}
use Rattle.vale_own.specs.Laws.{IsOfOther}
use Rattle.vale_own.specs.Own.{Own, own_of, is_settled_own}
use Rattle.vale_own.specs.OwnEntries.{own_after_entry}
use Rattle.vale_own.specs.Asker.{asks, asker_of, is_asker, is_enter}
use Rattle.vale_own.specs.Side.{IsSoundSideOf, IsOfSide, shut_after}
use Rattle.vale_own.proofs.OwnKept.{legal-split, own-kept}
use Rattle.vale_own.proofs.OwnEntry.{own-entries}
use Rattle.vale_own.proofs.SideKept.{side-kept, side-begins}
use Rattle.vale_own.proofs.Asking.{asks-stay}
use Rattle.vale_own.proofs.Askers.{askers-make-steps}
use Rattle.vale_book.specs.Recorded.{standing}
use Rattle.vale_fabric.specs.declared.fabric.Fabric.{Fabric}
use Rattle.vale_fabric.specs.declared.kept.Fixed.{Fixed}
use Rattle.vale_fabric.specs.Fabrics.{Knowing, Makes, MakesNone, before_in, earlier, entry_by}
use Rattle.nm_user.specs.Sessions.{SessionState, IsThere, standing_seen}
use Rattle.nm_user.proofs.Later.{between, between-none, same-own}

-- an entry that starts no offers
abbrev pub IsQuiet : Ask → Type 0
IsQuiet (Enter user) = ⊥
IsQuiet (Send port frames) = ⊥
IsQuiet (Sync port back) = ⊥
IsQuiet (Get port back) = ⊥
IsQuiet (PutKept port offered) = ⊥
IsQuiet (Grant origin to) = ⊥
IsQuiet (Done lease) = ⊥
IsQuiet _ = Unit {0}

settled-still : (s : Standing) (ask : Ask) (reply : Reply) (own : Own) → IsQuiet ask → is_settled_own own ≡ true → is_settled_own (own_after_entry s ask reply own) ≡ true
settled-still s (Enter user) reply own quiet e = absurd quiet
settled-still s (Send port frames) reply own quiet e = absurd quiet
settled-still s (Sync port back) reply own quiet e = absurd quiet
settled-still s (Get port back) reply own quiet e = absurd quiet
settled-still s (PutKept port offered) reply own quiet e = absurd quiet
settled-still s (Grant origin to) reply own quiet e = absurd quiet
settled-still s (Done lease) reply own quiet e = absurd quiet
settled-still s (Open session name tx rx extra) replies.Opened own quiet e = e
settled-still s (Open session name tx rx extra) reply own quiet e = e
settled-still s (Reset port side fault) reply own quiet e = e
settled-still s (Shut port) reply own quiet e = e
settled-still s (Finish port bufs chain) reply own quiet e = e
settled-still s (Leave session) reply own quiet e = e
settled-still s (Put port offered) reply own quiet e = e
settled-still s (Watch monitor target sides) reply own quiet e = e
settled-still s (Stat port) reply own quiet e = e

-- the entry is the last one, behind a legal history
pub record Last (fixed : Fixed) (w : Knowing) (entry : Entry) : Type 0 where
  pub legal : IsLegal fixed.pool (earlier w.seen)
  pub follows : Follows (standing_of fixed.pool (earlier w.seen)) entry
  pub count : length w.seen ≡ length (earlier w.seen) + 1

pub last : {fixed : Fixed} {v w : Knowing} {ask : Ask} (m : Makes fixed v w ask) → Last fixed w (entry_by m.session ask m.reply)
last {fixed} {v} {w} {ask} m =
    let e = entry_by m.session ask m.reply in
    let parts = legal-split fixed.pool (earlier w.seen) (e ∷ []) (subst (IsLegal fixed.pool) m.seen m.legal) in
    record { legal = parts.0; follows = parts.1.0; count = ap length m.seen ∙ length-append (earlier w.seen) (e ∷ []) }

-- what a session's call makes of it
abbrev pub after_call : SessionState → Knowing → Ask → Reply → SessionState
after_call s w ask reply = record s {
  knows = w;
  own = own_by (length w.seen) (kept_ask ask) reply (arrivals_of (standing (before_in s.fixed w)) (kept_ask ask) reply) s.own;
}

-- the session is there with what is on its own side, settled or not
pub record IsHere (shut : Option ℕ) (s : SessionState) : Type 0 where
  pub come : s.id ≤ length s.knows.seen
  pub speaks : Stands s.id s.knows.mine
  pub legal : IsLegal s.fixed.pool s.knows.seen
  pub side : IsSoundSideOf s.fixed.pool s.id shut (own_of s.id (standing_seen s.fixed s.knows)) s.own

module _ {shut : Option ℕ} {s : SessionState} {w : Knowing} {ask : Ask} (t : IsThere shut s) (m : Makes s.fixed s.knows w ask) (mine : m.session ≡ s.id) where
  abbrev pool : ℕ
  pool = s.fixed.pool

  abbrev before : List Entry
  before = earlier w.seen

  abbrev entry : Entry
  entry = entry_by m.session ask m.reply

  -- what was its own before the entry, and what is behind it
  own-before : own_of m.session (standing_of pool before) ≡ own_of s.id (standing_of pool s.knows.seen)
  own-before = ap (λ (n : ℕ). own_of n (standing_of pool before)) mine ∙ same-own (between s.id m t.come t.speaks)

  own-behind : own_of m.session (standing_of pool (before ++ entry ∷ [])) ≡ own_of s.id (standing_of pool w.seen)
  own-behind = ap (λ (n : ℕ). own_of n (standing_of pool (before ++ entry ∷ []))) mine ∙ ap (λ (z : List Entry). own_of s.id (standing_of pool z)) (sym m.seen)

  pub here-after : IsOfSide shut s.own (kept_ask ask) m.reply → IsHere (shut_after (kept_ask ask) shut) (after_call s w ask m.reply)
  here-after of =
      let l = last m in
      let side = subst (λ (o : Own). IsSoundSideOf pool s.id shut o s.own) (sym own-before) t.side in
      let kept = side-kept pool before entry shut s.own l.legal l.follows (subst (λ (n : ℕ). IsSoundSideOf pool n shut (own_of m.session (standing_of pool before)) s.own) (sym mine) side) of in
      record {
        come = omega (arith, l.count, t.come, (m.told.stand 0 (length w.seen) entry refl).0);
        speaks = subst (Stands s.id) (sym m.told.mine) (Stands-left s.id s.knows.mine _ t.speaks);
        legal = m.legal;
        side = subst (λ (n : ℕ). IsSoundSideOf pool s.id (shut_after (kept_ask ask) shut) (own_of s.id (standing_of pool w.seen)) (own_by n (kept_ask ask) m.reply (arrivals_of (standing_of pool before) (kept_ask ask) m.reply) s.own)) (sym l.count)
            (subst (λ (o : Own). IsSoundSideOf pool s.id (shut_after (kept_ask ask) shut) o (own_by (length before + 1) (kept_ask ask) m.reply (arrivals_of (standing_of pool before) (kept_ask ask) m.reply) s.own)) own-behind
            (subst (λ (n : ℕ). IsSoundSideOf pool n (shut_after (kept_ask ask) shut) (own_of m.session (standing_of pool (before ++ entry ∷ []))) (own_by (length before + 1) (kept_ask ask) m.reply (arrivals_of (standing_of pool before) (kept_ask ask) m.reply) s.own)) mine kept));
      }

  -- what the entry makes of the session's own
  pub own-next : own_of s.id (standing_of pool w.seen) ≡ own_after_entry (standing_of pool before) (kept_ask ask) m.reply (own_of s.id (standing_of pool s.knows.seen))
  own-next =
      let l = last m in
      sym own-behind ∙ (own-entries pool before entry l.legal l.follows ∙ ap (own_after_entry (standing_of pool before) (kept_ask ask) m.reply) own-before)

-- and so it is there, once it is settled
pub there-settled : {shut : Option ℕ} {s : SessionState} → IsHere shut s → is_settled_own (own_of s.id (standing_seen s.fixed s.knows)) ≡ true → IsThere shut s
there-settled {shut} {s} here settled = record { come = here.come; speaks = here.speaks; legal = here.legal; side = here.side; settled = settled }

pub there-after : {shut : Option ℕ} {s : SessionState} {w : Knowing} {ask : Ask} → IsThere shut s → (m : Makes s.fixed s.knows w ask) → m.session ≡ s.id
    → IsOfSide shut s.own (kept_ask ask) m.reply → IsQuiet (kept_ask ask) → IsThere (shut_after (kept_ask ask) shut) (after_call s w ask m.reply)
there-after {shut} {s} {w} {ask} t m whose of quiet =
    there-settled (here-after t m whose of)
    (ap is_settled_own (own-next t m whose) ∙ settled-still (standing_of s.fixed.pool (earlier w.seen)) (kept_ask ask) m.reply (own_of s.id (standing_of s.fixed.pool s.knows.seen)) quiet t.settled)

abbrev session-in : Option (ℕ × Reply) → ℕ
session-in found = option_map_or (λ (made : ℕ × Reply). made.0) found 0

entered-as : (fits : Bool) (s : Standing) (session : ℕ) (reply : Reply) → option_map session_and_reply (if fits then Some (enter_step s) else None) ≡ Some (session, reply) → session ≡ s.world.entry_count + 1
entered-as true s session reply e = sym (ap session-in e)
entered-as false s session reply e = absurd cc

-- a session that has just come has nothing
pub there-come : {fabric : Fabric} {fixed : Fixed} {v w : Knowing} {user number : ℕ} (m : Makes fixed v w (Enter user)) → IsThere None (record { fabric = fabric; fixed = fixed; knows = w; id = length w.seen; user = number; own = empty_own fixed.pool })
there-come {fabric} {fixed} {v} {w} {user} {number} m =
    let pool = fixed.pool in
    let e = entry_by m.session (Enter user) m.reply in
    let l = last m in
    let h = earlier w.seen in
    let at : m.session ≡ length w.seen = entered-as (fits_u64 user) (standing_of pool h) m.session m.reply m.steps ∙ (ap (λ (n : ℕ). n + 1) (count-world_of pool h) ∙ sym l.count) in
    let grown : own_of m.session (standing_of pool (h ++ e ∷ [])) ≡ own_of (length w.seen) (standing_of pool w.seen) = ap (λ (n : ℕ). own_of n (standing_of pool (h ++ e ∷ []))) at ∙ ap (λ (z : List Entry). own_of (length w.seen) (standing_of pool z)) (sym m.seen) in
    let begins = side-begins pool h e user l.legal l.follows refl in
    let made = own-entries pool h e l.legal l.follows in
    record {
      come = le_refl (length w.seen);
      speaks = subst (Stands (length w.seen)) (sym m.told.mine) (Stands-right (length w.seen) v.mine _ (inl refl));
      legal = m.legal;
      side = subst (λ (o : Own). IsSoundSideOf pool (length w.seen) None o (empty_own pool)) grown (subst (λ (n : ℕ). IsSoundSideOf pool n None (own_of m.session (standing_of pool (h ++ e ∷ []))) (empty_own pool)) at begins);
      settled = ap is_settled_own (sym grown ∙ made);
    }

and-first : (a b : Bool) → (a && b) ≡ true → a ≡ true
and-first true b e = refl
and-first false b e = absurd cc

and-second : (a b : Bool) → (a && b) ≡ true → b ≡ true
and-second true b e = e
and-second false b e = absurd cc

asker-is : (found : Option ℕ) (owner session : ℕ) → found ≡ Some owner → is_asker found session ≡ true → owner ≡ session
asker-is None owner session is e = absurd cc
asker-is (Some other) owner session is e = let same : other ≡ owner = cc in sym same ∙ eqb-true other session e

step-made : (found : Option Outcome) (session : ℕ) (reply : Reply) → option_map session_and_reply found ≡ Some (session, reply) → (made : Outcome) × ((found ≡ Some made) × (made.session ≡ session))
step-made None session reply e = absurd cc
step-made (Some made) session reply e = (made, (refl, ap session-in e))

-- the entry of a session's call is the session's
pub whose : {shut : Option ℕ} {s : SessionState} {w : Knowing} {ask : Ask} → IsThere shut s → (m : Makes s.fixed s.knows w ask) → is_enter ask ≡ false
    → asks (standing_seen s.fixed s.knows) s.id ask ≡ true → m.session ≡ s.id
whose {shut} {s} {w} {ask} t m other may =
    let pool = s.fixed.pool in
    let b = between s.id m t.come t.speaks in
    let now = standing_of pool (earlier w.seen) in
    let at : now ≡ standing_of pool (s.knows.seen ++ b.more) = ap (standing_of pool) b.is in
    let still : asks now s.id ask ≡ true = ap (λ (z : Standing). asks z s.id ask) at ∙ (asks-stay pool s.knows.seen b.more s.id ask b.legal b.others ∙ may) in
    let made = step-made (step now ask) m.session m.reply m.steps in
    sym made.1.1 ∙ asker-is (asker_of now ask) made.0.session s.id (askers-make-steps now ask made.0 other made.1.0) (and-second (is_enabled now ask) (is_asker (asker_of now ask) s.id) still)

-- a session whose pass has seen more by entries of others
pub there-later : {shut : Option ℕ} {s : SessionState} (w : Knowing) (more : List Entry) → IsThere shut s → w.seen ≡ s.knows.seen ++ more → All (IsOfOther s.id) more → IsLegal s.fixed.pool w.seen → Stands s.id w.mine
    → IsThere shut (record s { knows = w })
there-later {shut} {s} w more t is others legal speaks =
    let pool = s.fixed.pool in
    let all : IsLegal pool (s.knows.seen ++ more) = subst (IsLegal pool) is legal in
    let same : own_of s.id (standing_of pool w.seen) ≡ own_of s.id (standing_of pool s.knows.seen) = ap (λ (h : List Entry). own_of s.id (standing_of pool h)) is ∙ own-kept pool s.knows.seen more s.id all others in
    let long : length w.seen ≡ length s.knows.seen + length more = ap length is ∙ length-append s.knows.seen more in
    record {
      come = omega (arith, long, t.come);
      speaks = speaks;
      legal = legal;
      side = subst (λ (o : Own). IsSoundSideOf pool s.id shut o s.own) (sym same) t.side;
      settled = ap is_settled_own same ∙ t.settled;
    }

-- a call that made no entry leaves the session as it was
pub there-still : {shut : Option ℕ} {s : SessionState} {w : Knowing} → IsThere shut s → MakesNone s.fixed s.knows w → IsThere shut (record s { knows = w })
there-still {shut} {s} {w} t m =
    let b = between-none s.id m t.come t.speaks in
    there-later w b.0 t b.1.0 b.1.1 m.legal (subst (Stands s.id) (sym (m.told.mine ∙ append-nil s.knows.mine)) t.speaks)
