use Rattle.std.proofs.Common.{◌≡◌, List, IfOk, length, sym, ap, ◌∙◌, subst}
use Rattle.std.proofs.lemmas.List.{with_items_is}
use Rattle.vale_fabric.specs.Fabrics.{knowing}
use Rattle.vale_replay.specs.Replay.{user_count}
use Rattle.vale_player.specs.Inputs.{captures_of}
use Rattle.vale_act.specs.Seats.{AllAre, AreNew, AreSaves, IsEmpty}
use Rattle.vale_act.specs.declared.seat.Seat.{Seat}
use Rattle.vale_act.proofs.Begins.{begins-between}
use Rattle.vale_act.proofs.KeptNotes.{files-kept}
use Rattle.vale_act.proofs.Plays.{all-empty}
use Rattle.vale_act.proofs.Runnable.{sound-runs}
use Rattle.vale_act.proofs.DepartingScript.{new-leaving}
use Rattle.vale_act.proofs.SaveNames.{away-keep}
use Rattle.vale_act.proofs.scene.Scene.play_keeping.Goals as goal

pub run_script-done-requires-clause-start : goal.run_script-done-requires-clause-start
run_script-done-requires-clause-start g c κs outlives =
    let made = subst (λ r. IfOk r (λ seats. AreNew (length c.users-count.result.now) seats.items)) c.in-Ok-new_seats.is c.new_seats.ensures in
    let counted = subst (λ n. AreNew n c.in-Ok-new_seats.seats.items) (ap length c.users-count.ensures) made in
    let new : AreNew (user_count c.args.script.now) c.deref_mut.result.now = subst (λ (l : List Seat). AreNew (user_count c.args.script.now) l) (sym c.deref_mut.ensures.value) counted in
    record {
      between = begins-between c.args.script.now (captures_of c.args.self.now.inputs.now) (knowing c.args.pass) c.deref_mut.result.now new c.requires.whole c.requires.seen c.requires.mine;
      runnable = sound-runs c.args.script.now c.requires.sound;
      files = c.requires.files;
      pool = c.requires.pool;
    }

pub run_script-done-requires-clause-keep : goal.run_script-done-requires-clause-keep
run_script-done-requires-clause-keep g c κs outlives =
    let made = subst (λ r. IfOk r (λ seats. AreNew (length c.users-count.result.now) seats.items)) c.in-Ok-new_seats.is c.new_seats.ensures in
    let new : AreNew (length c.users-count.result.now) c.deref_mut.result.now = subst (λ (l : List Seat). AreNew (length c.users-count.result.now) l) (sym c.deref_mut.ensures.value) made in
    away-keep c.args.self.now.names.now c.deref_mut.result.now new.away

pub take_all_saves-saved-requires-clause-empty : goal.take_all_saves-saved-requires-clause-empty
take_all_saves-saved-requires-clause-empty g c =
    let seats = c.in-Ok-new_seats.seats in
    let left = c.run_script-done.new.seats in
    let long : length left ≡ seats.len = c.run_script-done.auto.seats ∙ (ap length c.deref_mut.ensures.value ∙ sym seats.ok.0) in
    subst (λ (l : List Seat). AllAre IsEmpty l) (sym c.deref_mut-2.ensures.value)
    (subst (λ (l : List Seat). AllAre IsEmpty l) (sym (with_items_is seats left long)) (all-empty left c.run_script-done.ensures.gone))

pub returns-in-Ok-done-clause-plays : goal.returns-in-Ok-done-clause-plays
returns-in-Ok-done-clause-plays g c =
    let seats = c.in-Ok-new_seats.seats in
    let left = c.run_script-done.new.seats in
    let files = c.take_all_saves-saved.result.items in
    let long : length left ≡ seats.len = c.run_script-done.auto.seats ∙ (ap length c.deref_mut.ensures.value ∙ sym seats.ok.0) in
    record {
      seats = left;
      played = c.in-Ok-done.ensures.plays;
      gone = all-empty left c.run_script-done.ensures.gone;
      saved = subst (λ (l : List Seat). AreSaves l files) (with_items_is seats left long)
          (subst (λ (l : List Seat). AreSaves l files) c.deref_mut-2.ensures.value c.take_all_saves-saved.ensures.saves);
    }

pub returns-in-Ok-done-clause-empty : goal.returns-in-Ok-done-clause-empty
returns-in-Ok-done-clause-empty g c =
    let made = subst (λ r. IfOk r (λ seats. AreNew (length c.users-count.result.now) seats.items)) c.in-Ok-new_seats.is c.new_seats.ensures in
    let new : AreNew (length c.users-count.result.now) c.deref_mut.result.now = subst (λ (l : List Seat). AreNew (length c.users-count.result.now) l) (sym c.deref_mut.ensures.value) made in
    c.run_script-done.ensures.empty (new-leaving (length c.users-count.result.now) (knowing c.args.pass) c.deref_mut.result.now c.requires.mine new)

pub returns-in-Err-clause-empty : goal.returns-in-Err-clause-empty
returns-in-Err-clause-empty g c =
    let made = subst (λ r. IfOk r (λ seats. AreNew (length c.users-count.result.now) seats.items)) c.in-Ok-new_seats.is c.new_seats.ensures in
    let new : AreNew (length c.users-count.result.now) c.deref_mut.result.now = subst (λ (l : List Seat). AreNew (length c.users-count.result.now) l) (sym c.deref_mut.ensures.value) made in
    c.run_script-done.ensures.empty (new-leaving (length c.users-count.result.now) (knowing c.args.pass) c.deref_mut.result.now c.requires.mine new)

pub returns-in-Ok-done-clause-saves : goal.returns-in-Ok-done-clause-saves
returns-in-Ok-done-clause-saves g c =
    let seats = c.in-Ok-new_seats.seats in
    let left = c.run_script-done.new.seats in
    let files = c.take_all_saves-saved.result.items in
    let long : length left ≡ seats.len = c.run_script-done.auto.seats ∙ (ap length c.deref_mut.ensures.value ∙ sym seats.ok.0) in
    files-kept c.run_script-done.new.kept left files
    (subst (λ (l : List Seat). AreSaves l files) (with_items_is seats left long)
    (subst (λ (l : List Seat). AreSaves l files) c.deref_mut-2.ensures.value c.take_all_saves-saved.ensures.saves)) c.run_script-done.ensures.saves
