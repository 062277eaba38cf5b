use Rattle.std.proofs.Common.{drop}
use Rattle.mk_words.specs.Bases.{commits_in}
use Rattle.mk_merge.proofs.EveryKey.{ComeToLeft}
use Rattle.mk_merge.proofs.rebuilding.lefts_at.Given as goal

abbrev pub invariant-loop-fated : goal.invariant-loop-fated
invariant-loop-fated l = ComeToLeft (commits_in l.list) (commits_in (drop l.fated-index l.list)) l.keys l.lefts.items
