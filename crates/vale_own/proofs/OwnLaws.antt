-- The laws of what is a session's own.
use Rattle.vale_own.proofs.Ahead.{grants-by-port}
use Rattle.vale_own.proofs.Buffers.{leases-hold, buffers-apart, buffers-go-and-come}
use Rattle.vale_own.proofs.Askers.{entries-are-of-askers}
use Rattle.vale_own.proofs.Asking.{own-tells, asks-stay}
use Rattle.vale_own.proofs.Coming.{there-come}
use Rattle.vale_own.proofs.Reading.{first-offers, first-leases, offers-left, settled-own, buffers-due}
use Rattle.vale_own.proofs.OneAsker.{entries-have-one-asker}
use Rattle.vale_own.proofs.OwnEntry.{own-entries}
use Rattle.vale_own.proofs.Arriving.{arrivals-apart}
use Rattle.vale_own.proofs.SideKept.{side-kept}
use Rattle.vale_own.proofs.SideAsking.{shut-asked, stat-asked, finish-asked, open-asked, leave-asked}
use Rattle.vale_own.proofs.SideSyncing.{transmit-asked, receive-asked}
use Rattle.vale_own.proofs.OwnKept.{own-kept}

pub ruleset own_laws = (own-kept, own-entries, own-tells, asks-stay, entries-have-one-asker, entries-are-of-askers)

pub ruleset reading_laws = (there-come, first-offers, first-leases, offers-left, settled-own, buffers-due, leases-hold, grants-by-port, buffers-apart, buffers-go-and-come)

pub ruleset side_laws = (arrivals-apart, side-kept)

pub ruleset asking_laws = (transmit-asked, receive-asked, shut-asked, finish-asked, stat-asked, open-asked, leave-asked)
