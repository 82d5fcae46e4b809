use Rattle.std.proofs.Common.{ℕ, ◌≤◌, ◌+◌, List, [], ◌∷◌, map, drop, Option, IfSome, sym, ◌∙◌, subst}
use Rattle.vale_replay.specs.Tasks.{Task, SendFrames, played}
use Rattle.vale_captures.specs.Inputs.{captured}
use Rattle.vale_player.specs.Syncing.{has_passed, Leads, playing, PlaysOn}
use Rattle.vale_player.proofs.Doing.{still-self, still-then, either-line}
use Rattle.vale_player.proofs.Leading.{leads-self, leads-leads, leads-line, leads-halts, leads-stops}
use Rattle.vale_player.proofs.Playing.{leads-record, leads-all, leads-last}
use Rattle.vale_player.proofs.PutCopies.{passes-played}
use Rattle.vale_player.proofs.player.Player.play.Goals as goal

pub returns-in_default-clause-does : goal.returns-in_default-clause-does
returns-in_default-clause-does g c =
    passes-played c.args.self.now c.args.name.now c.sender.ensures.there.side.sound (sym c.sender.ensures.sender ∙ c.in_default.is) c.args.batch (map captured c.args.records.now)

pub returns-in_default-clause-still : goal.returns-in_default-clause-still
returns-in_default-clause-still g c = still-self c.args.self.now

pub loop-record-init : goal.loop-record-init
loop-record-init g c =
    let p = c.args.self.now in
    record {
      leads = leads-self p (played c.args.name.now c.args.batch (map captured c.args.records.now));
      more = c.requires;
      named = sym c.sender.ensures.sender ∙ c.in-Some.is;
      still = still-self p;
    }

pub loop-record-preserved : goal.loop-record-preserved
loop-record-preserved g c =
    let p = c.args.self.now in
    let q = c.loop-record.self in
    let name = c.args.name.now in
    let batch = c.args.batch in
    let at = c.loop-record.record-index in
    let whole : List Task = played name batch (map captured c.args.records.now) in
    let r = c.play_one.new.self in
    let frames : List (List ℕ) = map captured (drop (at + 1) c.args.records.now) in
    let tasks : List Task = playing name batch c.loop-record.left (c.as_slice-bytes.result.now ∷ frames) in
    let leads = leads-record p q name batch c.loop-record.left c.args.records.now at whole c.loop-record.invariant.leads c.record-item.result c.as_slice-bytes.result.now c.loop-record-test.true c.record-item.is c.as_slice-bytes.ensures in
    let plays : Leads q r tasks (playing name batch c.in-Ok-Some.next frames) = subst (λ (o : Option ℕ). PlaysOn q r tasks name batch frames o) c.in-Ok-Some.field-0-is (c.in-Ok-Some.ensures.plays frames) in
    record {
      leads = leads-leads p q r whole tasks leads (playing name batch c.in-Ok-Some.next frames) plays;
      more = subst (λ (o : Option ℕ). IfSome o (λ n. 1 ≤ n)) c.in-Ok-Some.field-0-is c.in-Ok-Some.ensures.left;
      named = c.play_one.ensures.named;
      still = still-then c.loop-record.invariant.still c.in-Ok-Some.ensures.still;
    }

pub returns-in-Ok-None-clause-does : goal.returns-in-Ok-None-clause-does
returns-in-Ok-None-clause-does g c =
    let q = c.loop-record.self in
    let name = c.args.name.now in
    let batch = c.args.batch in
    let at = c.loop-record.record-index in
    let whole : List Task = played name batch (map captured c.args.records.now) in
    let frames : List (List ℕ) = map captured (drop (at + 1) c.args.records.now) in
    let tasks : List Task = playing name batch c.loop-record.left (c.as_slice-bytes.result.now ∷ frames) in
    let leads = leads-record c.args.self.now q name batch c.loop-record.left c.args.records.now at whole c.loop-record.invariant.leads c.record-item.result c.as_slice-bytes.result.now c.loop-record-test.true c.record-item.is c.as_slice-bytes.ensures in
    leads-line c.args.self.now q c.play_one.new.self whole tasks leads (subst (λ (o : Option ℕ). PlaysOn q c.play_one.new.self tasks name batch frames o) c.in-Ok-None.field-0-is (c.in-Ok-None.ensures.plays frames))

pub returns-in-Err-clause-stops : goal.returns-in-Err-clause-stops
returns-in-Err-clause-stops g c =
    let q = c.loop-record.self in
    let name = c.args.name.now in
    let at = c.loop-record.record-index in
    let whole : List Task = played name c.args.batch (map captured c.args.records.now) in
    let frames : List (List ℕ) = map captured (drop (at + 1) c.args.records.now) in
    let leads = leads-record c.args.self.now q name c.args.batch c.loop-record.left c.args.records.now at whole c.loop-record.invariant.leads c.record-item.result c.as_slice-bytes.result.now c.loop-record-test.true c.record-item.is c.as_slice-bytes.ensures in
    leads-halts c.args.self.now q c.play_one.new.self whole (playing name c.args.batch c.loop-record.left (c.as_slice-bytes.result.now ∷ frames)) leads c.in-Err.fault (c.in-Err.ensures.stops frames)

pub returns-then-left-batch-clause-does : goal.returns-then-left-batch-clause-does
returns-then-left-batch-clause-does g c =
    leads-all c.args.self.now c.loop-record.self c.args.name.now c.args.batch c.loop-record.left c.args.records.now c.loop-record.record-index
    (played c.args.name.now c.args.batch (map captured c.args.records.now)) c.loop-record.invariant.leads c.loop-record-test.false c.if-left-batch.true

pub returns-in-Ok-clause-does : goal.returns-in-Ok-clause-does
returns-in-Ok-clause-does g c =
    let q = c.loop-record.self in
    let name = c.args.name.now in
    let whole : List Task = played name c.args.batch (map captured c.args.records.now) in
    let leads = leads-last c.args.self.now q name c.args.batch c.loop-record.left c.args.records.now c.loop-record.record-index whole c.loop-record.invariant.leads c.loop-record-test.false c.if-left-batch.false in
    leads-line c.args.self.now q c.send.new.self whole (SendFrames name ∷ []) leads (either-line q c.send.new.self (SendFrames name ∷ []) (has_passed c.in-Ok.field-0) c.in-Ok.ensures.does)

pub returns-in-Err-send-clause-stops : goal.returns-in-Err-send-clause-stops
returns-in-Err-send-clause-stops g c =
    let q = c.loop-record.self in
    let name = c.args.name.now in
    let whole : List Task = played name c.args.batch (map captured c.args.records.now) in
    let leads = leads-last c.args.self.now q name c.args.batch c.loop-record.left c.args.records.now c.loop-record.record-index whole c.loop-record.invariant.leads c.loop-record-test.false c.if-left-batch.false in
    leads-stops c.args.self.now q c.send.new.self whole (SendFrames name) [] leads c.in-Err-send.fault c.send.ensures.there c.in-Err-send.ensures.stops
