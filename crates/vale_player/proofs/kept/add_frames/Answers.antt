use Rattle.std.proofs.Common.{◌++◌, sym, subst, arith}
use Rattle.std.specs.List.{AllByRecursion}
use Rattle.vale_captures.specs.Outputs.{IsShortRecord}
use Rattle.vale_fabric.proofs.LeaseFilling.{fit-at}
use Rattle.vale_player.specs.Kept.{records_of}
use Rattle.vale_player.proofs.KeptPorts.{all-records, one-record-more}
use Rattle.vale_player.proofs.KeptSaves.{each-then}
use Rattle.vale_player.proofs.kept.add_frames.Goals as goal

pub record_of_frame-requires : goal.record_of_frame-requires
record_of_frame-requires c = fit-at c.args.frames.now c.loop-place.place c.frame-frame.result.now c.requires.received.fit c.frame-frame.ensures

pub loop-place-preserved : goal.loop-place-preserved
loop-place-preserved c =
    let frames = c.args.frames.now in
    let entry = c.args.received.entry in
    let made = c.in_ok-record_of_frame.field-0 in
    record {
      added = one-record-more frames entry c.loop-place.place c.frame-frame.result.now c.loop-place.records.items c.push.new.self.items made
          (c.args.records.now.items ++ records_of entry frames) c.frame-frame.ensures c.in_ok-record_of_frame.ensures.made c.in_ok-push.ensures.items c.loop-place.invariant.added;
      short = subst (AllByRecursion IsShortRecord) (sym c.in_ok-push.ensures.items) (each-then IsShortRecord c.loop-place.records.items made c.loop-place.invariant.short c.in_ok-record_of_frame.ensures.short);
    }

pub returns-clause-added : goal.returns-clause-added
returns-clause-added c =
    let frames = c.args.frames.now in
    let entry = c.args.received.entry in
    let count = c.requires.received.count in
    let past = c.loop-place-test.false in
    all-records frames entry c.loop-place.place c.loop-place.records.items (c.args.records.now.items ++ records_of entry frames) (omega (arith, count, past)) c.loop-place.invariant.added
