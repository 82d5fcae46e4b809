use Rattle.std.proofs.Common.{[], ◌∷◌, sym, ◌∙◌}
use Rattle.vale_replay.specs.Tasks.{SendFrames}
use Rattle.vale_player.specs.Syncing.{has_passed}
use Rattle.vale_player.proofs.Doing.{either-line, does-line, stops-at, still-self}
use Rattle.vale_player.proofs.Leading.{passes-send}
use Rattle.vale_player.proofs.player.Player.tx.Goals as goal

pub returns-in_default-clause-does : goal.returns-in_default-clause-does
returns-in_default-clause-does g c =
    does-line c.args.self.now c.args.self.now (SendFrames c.args.name.now ∷ []) (passes-send c.args.self.now c.args.name.now (sym c.sender.ensures.sender ∙ c.in_default.is))

pub returns-in_default-clause-still : goal.returns-in_default-clause-still
returns-in_default-clause-still g c = still-self c.args.self.now

pub returns-in-Ok-clause-does : goal.returns-in-Ok-clause-does
returns-in-Ok-clause-does g c = either-line c.args.self.now c.send.new.self (SendFrames c.args.name.now ∷ []) (has_passed c.in-Ok.field-0) c.in-Ok.ensures.does

pub returns-in-Err-clause-stops : goal.returns-in-Err-clause-stops
returns-in-Err-clause-stops g c = stops-at c.args.self.now c.send.new.self (SendFrames c.args.name.now) [] c.in-Err.fault c.send.ensures.there c.in-Err.ensures.stops
