-- Short forms in which the runs are written.
use Rattle.std.specs.Prelude.{ℕ}
use Rattle.mk_words.specs.declared.Act.{Act}
use Rattle.mk_words.specs.declared.Answer.{Answer}
use Rattle.mk_words.specs.declared.JournalEntry.{JournalEntry}
use Rattle.mk_words.specs.declared.GlobalLine.{GlobalLine}
use Rattle.mk_words.specs.declared.GlobalEntry.{GlobalEntry}
use Rattle.mk_words.specs.declared.GlobalAnswer.{GlobalAnswer}
use Rattle.mk_words.specs.declared.GlobalAnswer.TheVariants.{Ok as Done}
use Rattle.mk_words.specs.declared.Step.{Step}
use Rattle.mk_words.specs.declared.Step.TheVariants.{Key}

-- an act at a key of a replica, with its answer
abbrev pub key_step : ℕ → ℕ → Act → Answer → Step
key_step r key act answer = Key (record { replica = r; key = key; act = act }) answer

-- the same in the key's journal, by the first column
abbrev pub entry : Act → Answer → JournalEntry
entry act answer = record { seat = 0; act = act; answer = answer }

-- a global line with its answer
abbrev pub answered : GlobalLine → GlobalAnswer → GlobalEntry
answered line answer = record { line = line; answer = answer }

-- a global line that was done
abbrev pub done : GlobalLine → GlobalEntry
done line = answered line Done
