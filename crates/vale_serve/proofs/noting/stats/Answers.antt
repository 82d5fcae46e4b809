use Rattle.std.proofs.Common.{◌≡◌, true, is_some, refl, sym, ap, subst}
use Rattle.vale_entry.specs.declared.entry.Ask.TheVariants.{Stat}
use Rattle.vale_entry.specs.Legal.{is_enabled}
use Rattle.vale_book.specs.Recorded.{Recorded, standing}
use Rattle.vale_serve.specs.Users.{IsUser}
use Rattle.vale_serve.proofs.Asked.{steps-of, mine-of, quiet-kept}
use Rattle.vale_serve.proofs.noting.stats.Goals as goal

pub stats-requires : goal.stats-requires
stats-requires c = ap is_some c.requires.mine.found_is

pub returns-in_err-counts-clause-kept : goal.returns-in_err-counts-clause-kept
returns-in_err-counts-clause-kept c = subst (λ (r : Recorded). IsUser r c.args.user.now) (sym c.in_err-counts.ensures.err) c.requires.user

pub returns-clause-kept : goal.returns-clause-kept
returns-clause-kept c =
    let b = c.args.book.now in
    let enabled : is_enabled (standing b) (Stat c.args.port) ≡ true = ap is_some c.requires.mine.found_is in
    let steps = steps-of b (Stat c.args.port) (λ s. refl) enabled in
    quiet-kept b c.stats.new.self c.args.user.now (Stat c.args.port) steps.makes c.requires.legal c.requires.user c.in_ok-counts.ensures.made steps.is
    (mine-of b c.args.user.now (Stat c.args.port) steps c.args.port c.requires.mine refl refl)
    (record { offers = refl; leases = refl; buffers = refl; ports = refl })
