use Rattle.std.proofs.Common.{◌≡◌, rules, sym, subst}
use Rattle.vale_script.specs.Sound.{IsSound}
use Rattle.vale_gen.specs.Load.{load_program}
use Rattle.vale_gen.proofs.Soundness.{load_sound}
use Rattle.vale_gen.proofs.generator.load.Goals as goal

pub returns-clause-sound : goal.returns-clause-sound
returns-clause-sound c =
    let value : c.new-2.result ≡ load_program c.args.n = search rules in
    subst IsSound (sym value) (load_sound c.args.n)
