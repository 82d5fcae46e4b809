use Rattle.std.proofs.Common.{◌+◌, ◌++◌, ap, ◌∙◌}
use Rattle.std.specs.Option.{option_to_list}
use Rattle.vale_told.specs.Users.{count_in, entries_of, user_entered, users_told}
use Rattle.vale_told.proofs.Listing.{listed-more, listed-all, user_by-same}
use Rattle.vale_told.proofs.entered.users.Goals as goal

pub loop-i-preserved : goal.loop-i-preserved
loop-i-preserved c =
    let entry = c.index-entries-i.result in
    listed-more (user_entered (entries_of c.args.entries.now)) c.args.entries.now c.loop-i.i entry
    (users_told c.args.entries.now) c.loop-i.users.items c.push_some.new.items.items
    c.loop-i-test.true c.index-entries-i.is c.loop-i.invariant
    (c.in_ok-push_some.ensures
    ∙ ap (λ found. c.loop-i.users.items ++ option_to_list found)
    (c.user_entered.ensures
    ∙ user_by-same (count_in c.in_ok-counts.counts) (entries_of c.args.entries.now) c.in_ok-counts.ensures (c.loop-i.i + 1) entry.ask))

pub returns : goal.returns
returns c =
    listed-all (user_entered (entries_of c.args.entries.now)) c.args.entries.now c.loop-i.i
    (users_told c.args.entries.now) c.loop-i.users.items c.loop-i-test.false c.loop-i.invariant
