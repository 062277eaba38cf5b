use Rattle.std.proofs.Common.{ap}
use Rattle.mk_txn.specs.LatestWrites.{VersionedValue}
use Rattle.mk_past.specs.Pasts.{is_upto}
use Rattle.mk_past.proofs.IndexLaws.{latest-is}
use Rattle.mk_past.proofs.index.latest.Goals as goal

pub returns-then-end-gt0-clause-version : goal.returns-then-end-gt0-clause-version
returns-then-end-gt0-clause-version c parted =
    ap (λ (held : VersionedValue). held.version)
    (latest-is (is_upto c.args.stamp) c.args.versions.now c.versions_upto-end.result _ (c.versions_upto-end.ensures.part parted) c.if-end-gt0.true c.versions_upto-end.ensures.bound)

pub returns-then-end-gt0-clause-value : goal.returns-then-end-gt0-clause-value
returns-then-end-gt0-clause-value c parted =
    ap (λ (held : VersionedValue). held.value)
    (latest-is (is_upto c.args.stamp) c.args.versions.now c.versions_upto-end.result _ (c.versions_upto-end.ensures.part parted) c.if-end-gt0.true c.versions_upto-end.ensures.bound)
