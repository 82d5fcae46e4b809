use Rattle.std.proofs.Common.{ℕ, ◌≡◌, [], ◌∷◌, List, Ok, IfErr, replicate, sym, subst}
use Rattle.std.specs.Prelude.{OnOk}
use Rattle.vale_script.specs.declared.script.Act.TheVariants as acts
use Rattle.vale_replay.specs.Tasks.{Task, Arrive, ChangeOwn, OpenPort, PutFrame, WatchPort, ReadCounts, ShutPort, FinishPort, played, tasks_of}
use Rattle.vale_player.specs.Inputs.{records_in}
use Rattle.vale_player.specs.Players.{PlayerState, DoesLine, Stops, with_act}
use Rattle.vale_player.proofs.Doing.{does-line}
use Rattle.vale_player.proofs.PlayerLines.{arrived, changed, change-only, on-rings, single-done, does-as, stops-as, done-as}
use Rattle.vale_player.proofs.player.Player.act.Goals as goal

pub returns-in-Enter-clause-does : goal.returns-in-Enter-clause-does
returns-in-Enter-clause-does g c =
    let records = records_in c.args.inputs.now in
    let p = c.args.self.now in
    does-as records p p c.args.act.now acts.Enter (Ok tt) c.in-Enter.is (does-line p p (Arrive ∷ []) (arrived p))

pub returns-in-Open : goal.returns-in-Open
returns-in-Open g c =
    let p = c.args.self.now in
    let done = done-as (records_in c.args.inputs.now) p c.open.new.self c.args.act.now (acts.Open c.in-Open.name c.in-Open.tx c.in-Open.rx c.in-Open.extra) c.open.result c.in-Open.is
    (single-done p c.open.new.self (OpenPort c.in-Open.name c.in-Open.tx c.in-Open.rx c.in-Open.extra) c.open.result c.open.ensures) in
    record { does = done.does; stops = done.stops; still = done.still }

pub returns-in-Watch : goal.returns-in-Watch
returns-in-Watch g c =
    let p = c.args.self.now in
    let done = done-as (records_in c.args.inputs.now) p c.watch.new.self c.args.act.now (acts.Watch c.in-Watch.monitor c.in-Watch.target c.in-Watch.sides) c.watch.result c.in-Watch.is
    (single-done p c.watch.new.self (WatchPort c.in-Watch.monitor c.in-Watch.target c.in-Watch.sides) c.watch.result c.watch.ensures) in
    record { does = done.does; stops = done.stops; still = done.still }

pub returns-in-Stat : goal.returns-in-Stat
returns-in-Stat g c =
    let p = c.args.self.now in
    let done = done-as (records_in c.args.inputs.now) p c.stat.new.self c.args.act.now (acts.Stat c.in-Stat.name) c.stat.result c.in-Stat.is
    (single-done p c.stat.new.self (ReadCounts c.in-Stat.name) c.stat.result c.stat.ensures) in
    record { does = done.does; stops = done.stops; still = done.still }

pub returns-in-Save-clause-does : goal.returns-in-Save-clause-does
returns-in-Save-clause-does g c =
    let records = records_in c.args.inputs.now in
    let p = c.args.self.now in
    does-as records p c.note_file.new.self c.args.act.now (acts.Save c.in-Save.name c.in-Save.file) c.note_file.result c.in-Save.is c.note_file.ensures.does

pub returns-in-Close-clause-does : goal.returns-in-Close-clause-does
returns-in-Close-clause-does g c =
    let records = records_in c.args.inputs.now in
    let p = c.args.self.now in
    does-as records p c.close.new.self c.args.act.now (acts.Close c.in-Close.name) (Ok tt) c.in-Close.is
    (does-line p c.close.new.self (ShutPort c.in-Close.name ∷ FinishPort c.in-Close.name ∷ []) c.close.ensures.does)

pub returns-in-Put-clause-does : goal.returns-in-Put-clause-does
returns-in-Put-clause-does g c =
    let records = records_in c.args.inputs.now in
    let p = c.args.self.now in
    let put = c.in-Put in
    does-as records p c.put_filled.new.self c.args.act.now (acts.Put put.name put.count put.to put.from put.len put.fill) c.put_filled.result put.is c.put_filled.ensures.does

pub returns-in-Hex-clause-does : goal.returns-in-Hex-clause-does
returns-in-Hex-clause-does g c =
    let records = records_in c.args.inputs.now in
    let p = c.args.self.now in
    let hex = c.in-Hex in
    let one : ℕ = 1 in
    does-as records p c.put.new.self c.args.act.now (acts.Hex hex.name hex.bytes) c.put.result hex.is
    (subst (λ (bytes : List ℕ). OnOk c.put.result (DoesLine p c.put.new.self (replicate one (PutFrame hex.name bytes)))) c.bytes.ensures c.put.ensures.does)

pub returns-in-Play-clause-does : goal.returns-in-Play-clause-does
returns-in-Play-clause-does g c =
    let records = records_in c.args.inputs.now in
    let p = c.args.self.now in
    let play = c.in-Play in
    does-as records p c.play.new.self c.args.act.now (acts.Play play.name play.file play.batch) c.play.result play.is
    (subst (λ (frames : List (List ℕ)). OnOk c.play.result (DoesLine p c.play.new.self (played play.name play.batch frames))) c.records_played.ensures c.play.ensures.does)

pub returns-in-Play-clause-stops : goal.returns-in-Play-clause-stops
returns-in-Play-clause-stops g c =
    let records = records_in c.args.inputs.now in
    let p = c.args.self.now in
    let play = c.in-Play in
    stops-as records p c.play.new.self c.args.act.now (acts.Play play.name play.file play.batch) c.play.result play.is
    (subst (λ (frames : List (List ℕ)). IfErr c.play.result (Stops p c.play.new.self (played play.name play.batch frames))) c.records_played.ensures c.play.ensures.stops)

pub returns-in-Tx-clause-does : goal.returns-in-Tx-clause-does
returns-in-Tx-clause-does g c =
    let records = records_in c.args.inputs.now in
    let p = c.args.self.now in
    does-as records p c.tx.new.self c.args.act.now (acts.Tx c.in-Tx.name) c.tx.result c.in-Tx.is c.tx.ensures.does

pub returns-in-Rx-clause-does : goal.returns-in-Rx-clause-does
returns-in-Rx-clause-does g c =
    let records = records_in c.args.inputs.now in
    let p = c.args.self.now in
    does-as records p c.receive.new.self c.args.act.now (acts.Rx c.in-Rx.name c.in-Rx.keep) c.receive.result c.in-Rx.is c.receive.ensures.does

pub returns-in_default-clause-does : goal.returns-in_default-clause-does
returns-in_default-clause-does g c =
    let records = records_in c.args.inputs.now in
    let p = c.args.self.now in
    let act = c.args.act.now in
    let d = c.in_default in
    let tasks : tasks_of records act ≡ ChangeOwn act ∷ [] =
    change-only records act (on-rings act d.not-Enter d.not-Open d.not-Watch d.not-Stat d.not-Save d.not-Close) d.not-Put d.not-Hex d.not-Play d.not-Tx d.not-Rx in
    subst (λ (x : PlayerState). DoesLine p x (tasks_of records act)) (sym c.change.ensures)
    (subst (λ (ts : List Task). DoesLine p (with_act act p) ts) (sym tasks) (does-line p (with_act act p) (ChangeOwn act ∷ []) (changed p act)))
