use Rattle.std.proofs.Common.{Result, IfErr, sym, subst}
use Rattle.std.specs.Prelude.{OnOk}
use Rattle.nm_types.specs.declared.fault.StepFault.{StepFault}
use Rattle.vale_player.specs.declared.frames.SyncEnd.TheVariants as ends
use Rattle.vale_player.specs.Syncing.{sync_end_of, RxMadeNone}
use Rattle.vale_player.specs.Kept.{CameRx}
use Rattle.vale_player.proofs.Syncing.{got-ends, rx-ends, rx-none}
use Rattle.vale_player.proofs.KeptPorts.{came-on, none-on}
use Rattle.vale_player.proofs.frames.receive.Goals as goal

pub returns-in-Ok-clause-came : goal.returns-in-Ok-clause-came
returns-in-Ok-clause-came g c = record { end = ends.Passed; ends = got-ends c.args.session.now c.rx_sync.new.self c.args.port.0 c.in-Ok.received c.in-Ok.ensures.received }

pub returns-in-Ok-clause-saves : goal.returns-in-Ok-clause-saves
returns-in-Ok-clause-saves g c = (c.in-Ok.ensures.received, c.rx_sync.ensures.there)

pub returns-in-Err : goal.returns-in-Err
returns-in-Err g c =
    let s = c.args.session.now in
    let t = c.rx_sync.new.self in
    let id = c.args.port.0 in
    let fault = c.in-Err.fault in
    let end = sync_end_of fault in
    record {
      saves = record { fault = fault; not = c.in-Err.ensures.refused };
      came = subst (λ (r : Result (Unit {0}) StepFault). OnOk r (CameRx s t id)) (sym c.stop_of.ensures) (came-on s t id end (rx-ends s t id fault c.in-Err.ensures.refused));
      none = subst (λ (r : Result (Unit {0}) StepFault). IfErr r (RxMadeNone s t id)) (sym c.stop_of.ensures) (none-on s t id end (rx-none s t id fault c.in-Err.ensures.refused));
      there = c.rx_sync.ensures.there;
    }
