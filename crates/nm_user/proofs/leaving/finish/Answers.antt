use Rattle.std.proofs.Common.{List, sym, subst, ◌∙◌}
use Rattle.nm_region.specs.Buffers.{Buffer, indices_of}
use Rattle.vale_entry.specs.declared.entry.Ask.TheVariants.{Finish}
use Rattle.vale_entry.specs.declared.entry.Reply.TheVariants.{Unread}
use Rattle.vale_fabric.specs.Fabrics.{MayAsk, Answers, fixed_in, knowing}
use Rattle.nm_user.proofs.LeavingPorts.{still-may, waits-on, made-at-last}
use Rattle.nm_user.proofs.leaving.finish.Goals as goal

pub finish-requires-clause-may : goal.finish-requires-clause-may
finish-requires-clause-may g c =
    subst (λ (bs : List Buffer). MayAsk (fixed_in c.args.fabric.now) (knowing c.loop.pass) (Finish c.args.port (indices_of bs) c.args.chain)) (sym c.loop.invariant.bufs)
    (still-may c.loop.invariant.waited c.requires.may)

pub returns-in-Ok-clause-made : goal.returns-in-Ok-clause-made
returns-in-Ok-clause-made g c =
    made-at-last c.loop.invariant.waited
    (subst (λ (bs : List Buffer). Answers (fixed_in c.args.fabric.now) (knowing c.loop.pass) (knowing c.finish.new.pass) (Finish c.args.port (indices_of bs) c.args.chain) (Unread c.in-Ok.unread)) c.loop.invariant.bufs
    c.in-Ok.ensures.made)

pub loop-preserved : goal.loop-preserved
loop-preserved g c = record {
  pass = c.finish.ensures.pass;
  waited = waits-on c.loop.invariant.waited c.in-Err.ensures.waits.none;
  bufs = c.in-Err.ensures.back ∙ c.loop.invariant.bufs;
}
