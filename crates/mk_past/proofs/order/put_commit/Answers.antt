use Rattle.std.proofs.Common.{sym, ◌∙◌}
use Rattle.mk_past.proofs.TableLaws.{put-there}
use Rattle.mk_past.proofs.order.put_commit.Goals as goal

pub returns-in_ok-insert-in-Some : goal.returns-in_ok-insert-in-Some
returns-in_ok-insert-in-Some c txns distinct ordered =
    put-there c.args.table.now.entries c.insert.new.self.entries c.in-Some.stamp c.args.line txns c.in-Some.is (sym c.is_committed.ensures ∙ c.if-is_committed.true)
    c.in_ok-insert-in-Some.ensures.entries distinct ordered
