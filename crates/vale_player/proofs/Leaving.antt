-- A session that leaves is its user's last turn.
use Rattle.std.proofs.Common.{◌≡◌, List, [], ◌∷◌, length, Some, None, option_map, refl, ◌∙◌, ap, subst}
use Rattle.nm_types.specs.OwnPorts.{OwnPort}
use Rattle.vale_entry.specs.declared.entry.Ask.{Ask}
use Rattle.vale_entry.specs.declared.entry.Ask.TheVariants.{Leave}
use Rattle.vale_entry.specs.declared.entry.Reply.TheVariants as replies
use Rattle.vale_fabric.specs.Fabrics.{Answers, entry_by}
use Rattle.nm_user.specs.Sessions.{SessionState}
use Rattle.nm_user.specs.Leaving.{AreDetached}
use Rattle.vale_replay.specs.Machine.{Machine, call_of_tasks, resting, with_tasks}
use Rattle.vale_replay.specs.Replay.{TakesTurn}
use Rattle.vale_player.specs.Users.{Works}
use Rattle.vale_player.specs.Laws.{LeaveIsTurn}
use Rattle.vale_player.proofs.Askers.{whose-task}
use Rattle.vale_player.proofs.Turns.{call-entry, call-of, task-turn}
use Rattle.vale_player.proofs.Working.{replays-of, works-then}

pub leave-turn : LeaveIsTurn
leave-turn s w began first now here come has none left =
    let ask : Ask = Leave (record { 0 = s.id }) in
    let same : left.last ≡ s = subst (λ (ports : List OwnPort). AreDetached s ports left.last) none left.detached in
    let a : Answers s.fixed s.knows w ask replies.Made = subst (λ (z : SessionState). Answers z.fixed z.knows w ask replies.Made) same left.left in
    let m = a.makes in
    let pool = s.fixed.pool in
    let h = w.seen in
    let n = length h in
    let t : SessionState = record s { knows = w } in
    let call : call_of_tasks now now.tasks ≡ Some ask = ap (call_of_tasks now) has ∙ ap (option_map Leave) come.user.session in
    let of = call-of s now ask here come.user call in
    let mine : m.session ≡ s.id = whose-task here m of in
    let entry = entry_by s.id ask replies.Made in
    let next : Machine = record now { session = None; tasks = [] } in
    let turn = task-turn pool h s.id n ask replies.Made now now.own (call-entry s t ask replies.Made here a mine) come.user.session of.plain call refl in
    let goes : with_tasks n entry now now.tasks ≡ next = ap (with_tasks n entry now) has in
    let leaves : TakesTurn pool h (resting now) n next = subst (λ (x : Machine). TakesTurn pool h (resting now) n (resting x)) goes turn in
    let works : Works pool began w first next = (works-then w ((n, entry_by m.session ask m.reply) ∷ []) next come.works m.told (next, (leaves, refl))).works in
    record { works = works; plays = record { replays = replays-of works; no_task = refl; ended = refl } }
