use Rattle.std.proofs.Common.{ℕ, ◌-◌, ◌<◌, ◌≤◌, ◌≢◌, get_or, length}
use Rattle.mk_text.proofs.words.cut_word.Given as goal

abbrev pub invariant-find : goal.invariant-find
invariant-find l = record {
  within : l.place ≤ length l.word;
  before : (k : ℕ) → k < l.place → get_or l.word k 0 ≢ l.mark;
}

abbrev pub decreases-find : goal.decreases-find
decreases-find l = length l.word - l.place
