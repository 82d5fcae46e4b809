-- A user that comes begins with the entry of its Enter.
use Rattle.std.proofs.Common.{ℕ, ◌+◌, ◌≡◌, Bool, true, false, List, [], ◌∷◌, length, take, Option, Some, None, option_map, refl, sym, ◌∙◌, ap, subst, le_refl}
use Rattle.std.specs.Prelude.{option_and_then, if◌then◌else◌}
use Rattle.std.specs.Option.{option_or, option_map_or}
use Rattle.std.proofs.lemmas.List.{take_all}
use Rattle.nm_types.specs.declared.id.SessionId.{SessionId}
use Rattle.vale_entry.specs.declared.entry.Ask.TheVariants.{Enter}
use Rattle.vale_entry.specs.declared.entry.Entry.{Entry}
use Rattle.vale_entry.specs.declared.entry.Reply.{Reply}
use Rattle.vale_entry.specs.declared.entry.Reply.TheVariants as replies
use Rattle.vale_entry.specs.Legal.{Standing, standing_of, world_of, enter_step, fits_u64, session_and_reply}
use Rattle.vale_entry.proofs.Worlds.{count-world_of}
use Rattle.vale_own.specs.Own.{own_of, is_settled_own}
use Rattle.vale_fabric.specs.Fabrics.{earlier, entry_by}
use Rattle.nm_user.proofs.After.{last}
use Rattle.vale_replay.specs.Machine.{Machine, call_of_tasks, enter_call, resting, settling_call, with_tasks}
use Rattle.vale_replay.specs.Replay.{TakesTurn, TakesTurns}
use Rattle.vale_player.specs.Users.{HasCome}
use Rattle.vale_player.specs.Laws.{UserEnters}
use Rattle.vale_player.proofs.Resting.{rests}
use Rattle.vale_player.proofs.Turns.{made-entry}
use Rattle.vale_player.proofs.Working.{added-rise}

abbrev session-in : Option (ℕ × Reply) → ℕ
session-in found = option_map_or (λ (made : ℕ × Reply). made.0) found 0

entered-as : (fits : Bool) (s : Standing) (session : ℕ) (reply : Reply) → option_map session_and_reply (if fits then Some (enter_step s) else None) ≡ Some (session, reply) → session ≡ s.world.entry_count + 1
entered-as true s session reply e = sym (ap session-in e)
entered-as false s session reply e = absurd cc

abbrev as-session : ℕ → Option SessionId
as-session number = Some (record { 0 = number })

pub user-enters : UserEnters
user-enters began s user rest here a id own none empty has =
    let m = a.makes in
    let pool = s.fixed.pool in
    let h = s.knows.seen in
    let n = length h in
    let past = earlier h in
    let ask = Enter user.number in
    let at : m.session ≡ n = entered-as (fits_u64 user.number) (standing_of pool past) m.session m.reply m.steps ∙ (ap (λ (k : ℕ). k + 1) (count-world_of pool past) ∙ sym (last m).count) in
    let made = entry_by n ask replies.Made in
    let entry : entry_by m.session ask m.reply ≡ made = ap (λ (k : ℕ). entry_by k ask m.reply) at ∙ ap (entry_by n ask) a.reply_is in
    let w = world_of pool past in
    let call : call_of_tasks user user.tasks ≡ Some ask = ap (call_of_tasks user) has ∙ ap (enter_call user.number) none in
    let next : Machine = record user { session = Some (record { 0 = n }); tasks = rest } in
    let goes_on : with_tasks n made user user.tasks ≡ next = ap (with_tasks n made user) has in
    let turn : TakesTurn pool h user n (resting next) = record {
      ask = ask;
      asked = ap (λ (x : Option SessionId). option_or (option_and_then (settling_call w) x) (call_of_tasks user user.tasks)) none ∙ call;
      entry = made;
      made = made-entry (standing_of pool past) ask n replies.Made (m.steps ∙ (ap (λ (k : ℕ). Some (k, m.reply)) at ∙ ap (λ (r : Reply). Some (n, r)) a.reply_is));
      there = (m.told.stand 0 n (entry_by m.session ask m.reply) refl).1 ∙ ap (λ (e : Entry). Some e) entry;
      caller = refl;
      goes_on = ap resting (sym goes_on);
    } in
    let whole : take n h ≡ h = take_all n h (le_refl n) in
    let number : as-session n ≡ as-session s.id = ap as-session (sym id) in
    let come : HasCome began (resting user) s next = record {
      user = record { session = number; own = empty ∙ sym own };
      works = record {
        added = (n, entry_by m.session ask m.reply) ∷ [];
        mine = m.told.mine;
        begins = m.told.begins;
        part = m.told.part;
        rise = added-rise began s.knows ((n, entry_by m.session ask m.reply) ∷ []) m.told;
        turns = subst (λ (x : Machine). TakesTurns pool h x (n ∷ []) (resting next)) (sym (rests user ask call)) (resting next, (turn, refl));
      };
      settled = subst (λ (es : List Entry). is_settled_own (own_of s.id (standing_of pool es)) ≡ true) (sym whole) here.settled;
    } in
    subst (λ (x : Option SessionId). HasCome began (resting user) s (record user { session = x; tasks = rest })) number come
