-- The laws of delivery, each under the name that a function's contract finds.
use Rattle.vale_entry.proofs.ReadInOrder.{read-prefix}
use Rattle.vale_entry.proofs.GivenOnly.{given-only}
use Rattle.vale_entry.proofs.Lone.{short-lone, sends-tell}
use Rattle.vale_entry.proofs.LeasesEnded.{leases-done_once}
use Rattle.vale_entry.proofs.Fates.{dropped-counted, none-pending}

pub ruleset delivery_laws = (read-prefix, given-only, short-lone, sends-tell, leases-done_once, dropped-counted, none-pending)
