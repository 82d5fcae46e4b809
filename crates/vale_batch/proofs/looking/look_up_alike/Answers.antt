use Rattle.std.proofs.Common.{◌≡◌, List, length, replicate, sym, ◌∙◌, ap}
use Rattle.nm_types.specs.Frames.{Frame}
use Rattle.vale_batch.specs.declared.looking.Destination.{Destination}
use Rattle.vale_batch.specs.Looking.{looked_one}
use Rattle.vale_batch.proofs.Alike.{Leads, leads}
use Rattle.vale_batch.proofs.looking.look_up_alike.Goals.{In_ok-learn}
use Rattle.vale_batch.proofs.looking.look_up_alike.Goals as goal

abbrev first : In_ok-learn → Frame
first c = record { bytes = c.get-marked.result.0.now; no_learn = c.get-marked.result.1 }

told : (c : In_ok-learn) → Leads c.args.from (first c) c.args.table.now c.learn.new.table c.args.batch.now
told c = leads c.args.from (first c) c.args.table.now c.learn.new.table c.args.batch.now c.requires c.get-marked.ensures c.in_ok-learn.ensures.table

pub returns-clause-all : goal.returns-clause-all
returns-clause-all c =
    ap (λ (to : Destination). replicate (length c.args.batch.now) (looked_one to)) c.destination_of.ensures ∙ (told (goal.at.returns-clause-all c).In_ok-learn).all

pub returns-clause-table : goal.returns-clause-table
returns-clause-table c = (told (goal.at.returns-clause-table c).In_ok-learn).table
