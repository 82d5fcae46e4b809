use Rattle.std.proofs.Common.{map, ap, sym}
use Rattle.nm_types.specs.declared.id.PortId.{PortId}
use Rattle.vale_batch.specs.Wants.{owned, is_only}
use Rattle.vale_batch.proofs.WantLemmas.{nobody-changed}
use Rattle.vale_batch.proofs.alone.add.Goals as goal

pub returns-in-Short : goal.returns-in-Short
returns-in-Short c = sym (nobody-changed c.args.looked c.args.place (map owned c.args.all.now.items) (λ (port : PortId). ap (is_only port) c.in-Short.is))

pub returns-in-Nobody : goal.returns-in-Nobody
returns-in-Nobody c = sym (nobody-changed c.args.looked c.args.place (map owned c.args.all.now.items) (λ (port : PortId). ap (is_only port) c.in-Nobody.is))

pub returns-in-Others : goal.returns-in-Others
returns-in-Others c = sym (nobody-changed c.args.looked c.args.place (map owned c.args.all.now.items) (λ (port : PortId). ap (is_only port) c.in-Others.is))
