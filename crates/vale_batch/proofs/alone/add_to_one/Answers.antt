use Rattle.std.proofs.Common.{◌≡◌, None, map, sym, rules}
use Rattle.vale_batch.specs.Wants.{owned, placed_at, with_placed}
use Rattle.vale_batch.proofs.Ranks.{rising-apart}
use Rattle.vale_batch.proofs.WantLemmas.{own_found, none_to, one-changed, none-changed}
use Rattle.vale_batch.proofs.alone.add_to_one.Goals as goal

pub returns-in_ok-push-in-Some : goal.returns-in_ok-push-in-Some
returns-in_ok-push-in-Some c =
    let all = c.args.all.now.items in
    let own = c.index_mut.result.now in
    let found = own_found c.args.to.0 all c.in-Some.at own c.in-Some.ensures.within c.in-Some.ensures.found in
    let pushed : owned c.push.new.self ≡ with_placed (placed_at c.args.place c.args.looked) (owned own) = search rules in
    one-changed c.args.to c.args.looked c.args.place all c.in-Some.at own c.push.new.self (rising-apart (map owned all) c.requires.rising) c.requires.only c.in-Some.ensures.within found c.index_mut.ensures.value pushed

pub returns-in-None : goal.returns-in-None
returns-in-None c =
    let none : c.place_near.result ≡ None = search rules in
    sym (none-changed c.args.to c.args.looked c.args.place c.args.all.now.items c.requires.only (none_to c.args.to.0 c.args.all.now.items (search rules)))
