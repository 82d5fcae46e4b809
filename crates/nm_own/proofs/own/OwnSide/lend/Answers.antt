use Rattle.std.proofs.Common.{◌≡◌, ◌∙◌, true, refl, sym}
use Rattle.nm_types.specs.SyncChecks.{contains_index}
use Rattle.nm_types.specs.OwnPorts.{OwnState, named_of}
use Rattle.nm_port.specs.Own.{own_seen}
use Rattle.nm_own.proofs.Filled.{is_named_seen}
use Rattle.nm_own.proofs.Linking.{named_bytes_seen}
use Rattle.nm_own.specs.WrittenBytes.{with_all_written}
use Rattle.nm_own.proofs.BytesLent.{kept_written, written_is_seen, lent_size}
use Rattle.nm_hold.specs.Holds.{with_written as hold_written}
use Rattle.nm_port.proofs.Regions.{same_side, regions_written}
use Rattle.nm_own.proofs.own.OwnSide.lend.Goals as goal

pub lend-requires : goal.lend-requires
lend-requires c =
    let kept = c.self.invariant in
    is_named_seen c.self.inside.hold c.self.inside.ports.items c.args.idx kept.hold kept.sided kept.rings kept.flagged kept.filled ∙ rw (← c.self.view_is) at c.requires

pub invariant_of-self-lent : goal.invariant_of-self-lent
invariant_of-self-lent c w =
    let named : contains_index (named_of (own_seen c.self.inside.hold c.self.inside.ports.items)) c.args.idx ≡ true = rw (← c.self.view_is) at c.requires in
    kept_written c.self.inside c.self.invariant c.args.idx w named _ refl refl refl

pub returns : goal.returns
returns c =
    let kept = c.self.invariant in
    let h = c.self.inside.hold in
    let ports = c.self.inside.ports.items in
    let named : contains_index (named_of (own_seen c.self.inside.hold c.self.inside.ports.items)) c.args.idx ≡ true = rw (← c.self.view_is) at c.requires in (
      (refl, λ w. same_side h (hold_written h c.args.idx w) ports ports c.args.self.now (λ (s : OwnState). with_all_written s c.args.idx w) c.self.view_is (regions_written h c.args.idx w) (written_is_seen c.self.inside kept c.args.idx w named)),
      record {
        writes_back = tt;
        size = lent_size h c.args.idx c.lend.result.now kept.whole c.lend.ensures.bytes;
        bytes = rw (← c.self.view_is) (sym (named_bytes_seen h ports c.args.idx kept.hold kept.sided kept.rings kept.flagged kept.filled) ∙ c.lend.ensures.bytes);
      },
    )
