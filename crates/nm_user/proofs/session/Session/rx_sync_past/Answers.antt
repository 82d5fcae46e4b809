use Rattle.nm_user.proofs.Receives.{has-ring}
use Rattle.nm_user.proofs.session.Session.rx_sync_past.Goals as goal

pub check-requires : goal.check-requires
check-requires g c = has-ring c.args.self.now.own c.args.port.0 c.requires
