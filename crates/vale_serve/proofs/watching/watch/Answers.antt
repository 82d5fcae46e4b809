use Rattle.std.proofs.Common.{sym}
use Rattle.vale_entry.specs.declared.entry.Ask.TheVariants.{Watch}
use Rattle.vale_serve.proofs.Watches.{watched-as, watched-kept}
use Rattle.vale_serve.proofs.watching.watch.Goals as goal

pub returns-clause-kept : goal.returns-clause-kept
returns-clause-kept c =
    let b = c.args.book.now in
    let after = c.watch.new.self in
    let reply = c.in_ok-reply.reply in
    watched-kept b after c.args.user.now c.args.monitor c.args.seen c.args.target.now c.args.sides reply c.requires.legal c.requires.user c.requires.asker
    (watched-as b after (Watch c.args.monitor c.args.target.now c.args.sides) c.watch.result reply c.watch.ensures.watched c.watch.ensures.unwatched (sym c.in_ok-reply.ensures))
