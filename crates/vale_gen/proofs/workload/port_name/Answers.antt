use Rattle.std.proofs.Common.{ℕ, List, ◌++◌, ◌≡◌, true, codes, ap, ◌∙◌, arith}
use Rattle.std.proofs.lemmas.Fmt.{decimal_digit}
use Rattle.nm_types.specs.Names.{is_name}
use Rattle.vale_gen.specs.Load.{port_name}
use Rattle.vale_gen.proofs.Users.{is_named}
use Rattle.vale_gen.proofs.workload.port_name.Goals as goal

pub returns : goal.returns
returns c =
    c.in-Ok.ensures.ok.0 ∙ c.as_str.ensures.value ∙ c.in_ok-text.ensures.ok
    ∙ ap (λ (digits : List ℕ). codes "vale0:u" ++ digits) (decimal_digit c.args.user (omega (arith, c.requires.most)))

pub unreachable-requires : goal.unreachable-requires
unreachable-requires c =
    let text : c.as_str.result.now ≡ port_name c.args.user = c.as_str.ensures.value ∙ c.in_ok-text.ensures.ok
    ∙ ap (λ (digits : List ℕ). codes "vale0:u" ++ digits) (decimal_digit c.args.user (omega (arith, c.requires.most))) in
    let named : is_name c.as_str.result.now ≡ true = ap is_name text ∙ is_named c.args.user c.requires.least c.requires.most in
    let none = c.in-Err.ensures.bad in
    cc (named, none)
