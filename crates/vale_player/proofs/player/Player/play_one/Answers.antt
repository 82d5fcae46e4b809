use Rattle.std.proofs.Common.{ℕ, ◌≤◌, List, ◌∷◌, length, Option, IfSome, sym, subst, arith}
use Rattle.vale_replay.specs.Tasks.{Task, SendFrames}
use Rattle.vale_player.specs.Syncing.{has_passed, playing, PlaysOn}
use Rattle.vale_player.proofs.Leading.{leads-self, leads-as, leads-stops}
use Rattle.vale_player.proofs.Playing.{batch-some, plays-long, put-ends, put-goes, put-sends, put-stops-play, sent-plays, short-enough, too-long, most-fits}
use Rattle.vale_player.proofs.player.Player.play_one.Goals as goal

pub returns-then-bytes-most-clause-plays : goal.returns-then-bytes-most-clause-plays
returns-then-bytes-most-clause-plays g c frames =
    let p = c.args.self.now in
    let name = c.args.name.now in
    let whole : List Task = playing name c.args.batch c.args.left (c.args.bytes.now ∷ frames) in
    leads-as p p whole whole (playing name c.args.batch c.args.left frames) (plays-long name c.args.batch c.args.left c.args.bytes.now frames (too-long c.args.name.now c.args.most (length c.args.bytes.now) c.requires.most c.if-bytes-most.true)) (leads-self p whole)

pub returns-in-Ok-false-clause-plays : goal.returns-in-Ok-false-clause-plays
returns-in-Ok-false-clause-plays g c frames =
    put-ends c.args.self.now c.args.name.now c.args.batch c.args.left c.args.bytes.now frames (short-enough c.args.name.now c.args.most (length c.args.bytes.now) c.requires.most c.if-bytes-most.false) c.put_frame.new.self
    c.in-Ok-false.field-0 c.in-Ok-false.ensures.does c.in-Ok-false.field-0-test

pub returns-in-Err-clause-stops : goal.returns-in-Err-clause-stops
returns-in-Err-clause-stops g c frames =
    put-stops-play c.args.self.now c.args.name.now c.args.batch c.args.left c.args.bytes.now frames (short-enough c.args.name.now c.args.most (length c.args.bytes.now) c.requires.most c.if-bytes-most.false) c.put_frame.new.self
    c.in-Err.fault c.put_frame.ensures.there c.in-Err.ensures.stops

pub returns-then-left-ne1-clause-plays : goal.returns-then-left-ne1-clause-plays
returns-then-left-ne1-clause-plays g c frames =
    put-goes c.args.self.now c.args.name.now c.args.batch c.args.left c.args.bytes.now frames (short-enough c.args.name.now c.args.most (length c.args.bytes.now) c.requires.most c.if-bytes-most.false) c.put_frame.new.self
    c.in-Ok-true.field-0 c.in-Ok-true.ensures.does c.in-Ok-true.field-0-test c.if-left-ne1.true

pub returns-in-Ok-clause-plays : goal.returns-in-Ok-clause-plays
returns-in-Ok-clause-plays g c frames =
    let p = c.args.self.now in
    let q = c.put_frame.new.self in
    let r = c.send.new.self in
    let name = c.args.name.now in
    let batch = c.args.batch in
    let sends = put-sends p name batch c.args.left c.args.bytes.now frames (short-enough c.args.name.now c.args.most (length c.args.bytes.now) c.requires.most c.if-bytes-most.false) q c.in-Ok-true.field-0 c.in-Ok-true.ensures.does c.in-Ok-true.field-0-test c.if-left-ne1.false in
    let whole : List Task = playing name batch c.args.left (c.args.bytes.now ∷ frames) in
    subst (PlaysOn p r whole name batch frames) (sym c.next_batch.ensures) (sent-plays p q r name batch whole frames sends (has_passed c.in-Ok.end) c.in-Ok.ensures.does)

pub returns-in-Ok-clause-left : goal.returns-in-Ok-clause-left
returns-in-Ok-clause-left g c =
    subst (λ (next : Option ℕ). IfSome next (λ n. 1 ≤ n)) (sym c.next_batch.ensures) (batch-some (has_passed c.in-Ok.end) c.args.batch c.requires.batch)

pub returns-in-Err-send-clause-stops : goal.returns-in-Err-send-clause-stops
returns-in-Err-send-clause-stops g c frames =
    let q = c.put_frame.new.self in
    let name = c.args.name.now in
    let sends = put-sends c.args.self.now name c.args.batch c.args.left c.args.bytes.now frames (short-enough c.args.name.now c.args.most (length c.args.bytes.now) c.requires.most c.if-bytes-most.false) q c.in-Ok-true.field-0 c.in-Ok-true.ensures.does c.in-Ok-true.field-0-test c.if-left-ne1.false in
    leads-stops c.args.self.now q c.send.new.self (playing name c.args.batch c.args.left (c.args.bytes.now ∷ frames)) (SendFrames name) (playing name c.args.batch c.args.batch frames) sends
    c.in-Err-send.fault c.send.ensures.there c.in-Err-send.ensures.stops

pub put_frame-requires-clause-size : goal.put_frame-requires-clause-size
put_frame-requires-clause-size g c =
    let short = short-enough c.args.name.now c.args.most (length c.args.bytes.now) c.requires.most c.if-bytes-most.false in
    let most = most-fits c.args.name.now in
    omega (arith, short, most)
