use Rattle.std.proofs.Common.{◌≡◌, ◌<◌, ℕ, false, length, get_or}
use Rattle.mk_follow.specs.Rules.{picks}
use Rattle.mk_follow.proofs.rule.Subscription.new.Given as goal

abbrev pub invariant-loop-key : goal.invariant-loop-key
invariant-loop-key g l = (length l.picked ≡ 256) × ((key : ℕ) → key < l.key → get_or l.picked key false ≡ picks l.rule key)
