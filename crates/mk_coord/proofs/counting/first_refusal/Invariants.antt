use Rattle.std.proofs.Common.{◌≡◌, drop}
use Rattle.mk_words.specs.Rulings.{first_refusal as refusal_of}
use Rattle.mk_coord.proofs.counting.first_refusal.Given as goal

abbrev pub invariant-loop-vote : goal.invariant-loop-vote
invariant-loop-vote l = refusal_of l.votes ≡ refusal_of (drop l.vote-index l.votes)
