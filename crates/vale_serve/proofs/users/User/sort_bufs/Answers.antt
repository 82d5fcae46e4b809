use Rattle.std.proofs.Common.{refl, rules}
use Rattle.std.proofs.lemmas.List.Sorted.{IsNonDecreasingBy-from_sort_by_key}
use Rattle.vale_serve.specs.Exchange.{index_of}
use Rattle.vale_serve.proofs.users.User.sort_bufs.Goals as goal

pub returns : goal.returns
returns c = record {
  id = refl;
  leases = refl;
  sent = refl;
  rooms = refl;
  bufs = c.sort_unstable_by_key.ensures.permutation;
  rise = IsNonDecreasingBy-from_sort_by_key index_of _ c.sort_unstable_by_key.ensures.sorted (λ a r q k. search rules);
}
