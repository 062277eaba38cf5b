use Rattle.std.proofs.Common.{ap, ◌∙◌}
use Rattle.mk_txn.specs.LatestWrites.{VersionedValue}
use Rattle.mk_past.proofs.IndexLaws.{at-holds}
use Rattle.mk_past.proofs.index.Past.at.Goals as goal

pub returns-clause-version : goal.returns-clause-version
returns-clause-version c commits past =
    let h = at-holds c.args.self.now commits c.args.stamp c.args.key c.versions_of.result.now past c.versions_of.ensures in
    c.latest.ensures.version h.0 ∙ ap (λ (held : VersionedValue). held.version) h.1

pub returns-clause-value : goal.returns-clause-value
returns-clause-value c commits past =
    let h = at-holds c.args.self.now commits c.args.stamp c.args.key c.versions_of.result.now past c.versions_of.ensures in
    c.latest.ensures.value h.0 ∙ ap (λ (held : VersionedValue). held.value) h.1
