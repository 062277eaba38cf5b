use Rattle.std.proofs.Common.{◌∙◌}
use Rattle.mk_merge.proofs.ClashingLaws.{reads-clash, writes-clash, clash-then, clash-else}
use Rattle.mk_merge.proofs.clashing.Commits.conflicts.Goals as goal

pub returns-then-reads_clash : goal.returns-then-reads_clash
returns-then-reads_clash c = clash-then c.args.txn.now c.args.self.now _ (c.reads_clash.ensures ∙ reads-clash c.args.txn.now c.args.self.now) c.if-reads_clash.true

pub returns-else-reads_clash : goal.returns-else-reads_clash
returns-else-reads_clash c =
    clash-else c.args.txn.now c.args.self.now _ _ (c.reads_clash.ensures ∙ reads-clash c.args.txn.now c.args.self.now) c.if-reads_clash.false (c.writes_clash.ensures ∙ writes-clash c.args.txn.now c.args.self.now)
