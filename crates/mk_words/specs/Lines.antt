-- The ranges of a global line's numbers, and the answers that each kind of line can have.
use Rattle.std.specs.Prelude.{ℕ, ◌^◌, Bool, true, false, ◌&&◌, nat_lt, nat_le}
use Rattle.mk_words.specs.declared.GlobalLine.{GlobalLine}
use Rattle.mk_words.specs.declared.GlobalLine.TheVariants.{Wipe, Ask, Promise, Merge, Adopt, Enter}
use Rattle.mk_words.specs.declared.GlobalAnswer.{GlobalAnswer}
use Rattle.mk_words.specs.declared.GlobalAnswer.TheVariants.{Ok as Done, Counts, Entered, Unasked, Unmade, Lacking, Old, WordFault, Short}

-- the epochs that a line can name; epoch 0 is there from the start
abbrev pub is_epoch : ℕ → Bool
is_epoch epoch = nat_le 1 epoch && nat_le epoch 1000

-- the line's replica is one of n, and its epoch is one that a line can name
abbrev pub line_fits : ℕ → GlobalLine → Bool
line_fits n (Wipe replica) = nat_lt replica n
line_fits n (Ask epoch) = is_epoch epoch
line_fits n (Promise epoch replica) = is_epoch epoch && nat_lt replica n
line_fits n (Merge epoch) = is_epoch epoch
line_fits n (Adopt epoch replica) = is_epoch epoch && nat_lt replica n
line_fits n (Enter epoch) = is_epoch epoch

-- an epoch word reads 0 or an epoch
abbrev pub is_word : ℕ → Bool
is_word word = nat_le word 1000

-- a count of replicas or of promises
abbrev pub is_few : ℕ → Bool
is_few k = nat_le k 7

-- the line can have an answer of this kind, with its numbers in range
abbrev pub can_answer : GlobalLine → GlobalAnswer → Bool
can_answer (Wipe replica) Done = true
can_answer (Ask epoch) Done = true
can_answer (Promise epoch replica) Done = true
can_answer (Promise epoch replica) Unasked = true
can_answer (Promise epoch replica) Lacking = true
can_answer (Promise epoch replica) (Old word) = is_word word
can_answer (Promise epoch replica) WordFault = true
can_answer (Merge epoch) (Counts commits aborts) = nat_lt commits (2 ^ 64) && nat_lt aborts (2 ^ 64)
can_answer (Merge epoch) (Short k) = is_few k
can_answer (Merge epoch) Lacking = true
can_answer (Merge epoch) (Old word) = is_word word
can_answer (Adopt epoch replica) Done = true
can_answer (Adopt epoch replica) Unmade = true
can_answer (Adopt epoch replica) (Old word) = is_word word
can_answer (Adopt epoch replica) WordFault = true
can_answer (Enter epoch) (Entered k) = is_few k
can_answer (Enter epoch) (Short k) = is_few k
can_answer _ _ = false
