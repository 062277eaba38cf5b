use Rattle.std.proofs.Common.{◌≡◌, drop}
use Rattle.mk_words.specs.Bases.{commits_in}
use Rattle.mk_merge_laws.specs.Lefts.{nothing_left, left_by}
use Rattle.mk_merge.proofs.rebuilding.left_at.Given as goal

-- with the commits that are left it comes to all of them
abbrev pub invariant-loop-fated : goal.invariant-loop-fated
invariant-loop-fated l = left_by l.key l.left (commits_in (drop l.fated-index l.list)) ≡ left_by l.key nothing_left (commits_in l.list)
