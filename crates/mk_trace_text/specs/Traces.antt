-- The text of a run.
use Rattle.std.specs.Prelude.{◌+◌, ℕ, List, [], ◌∷◌, ◌++◌, map}
use Rattle.mk_words.specs.declared.Step.{Step}
use Rattle.mk_words.specs.declared.JournalEntry.{JournalEntry}
use Rattle.mk_words.specs.declared.GlobalEntry.{GlobalEntry}
use Rattle.mk_history.specs.declared.RoundLog.{RoundLog}
use Rattle.mk_history.specs.Histories.{History}
use Rattle.mk_trace_lines.specs.TraceLines.{TraceLine, key_name, text_of}
use Rattle.mk_trace_lines.specs.TraceLines.TraceLine.{Opens, Sizes, Declares, Names, Begins, Heads, Logged, Marks, Kept, Changes, Changed, Ends}
use Rattle.mk_trace_text.specs.Begun.{seq_of, begun_after, begun_through, begun_in}

-- as many zeros as the list is long
abbrev pub zeros : List ℕ → List ℕ
zeros [] = []
zeros (n ∷ ns) = 0 ∷ zeros ns

-- a line for each client, the first of which has the name at this place
abbrev pub client_lines : List (List ℕ) → ℕ → List ℕ → List TraceLine
client_lines names place [] = []
client_lines names place (column ∷ columns) = Declares (key_name names place) column ∷ client_lines names (place + 1) columns

-- a line for each key
abbrev pub key_line : List ℕ → TraceLine
key_line name = Names name

-- a step; a step that begins an attempt names the client's next seq
abbrev pub step_line : List ℕ → Step → TraceLine
step_line begun step = Logged (seq_of begun step) step

-- the steps of a log
abbrev pub step_lines : List ℕ → List Step → List TraceLine
step_lines begun [] = []
step_lines begun (step ∷ steps) = step_line begun step ∷ step_lines (begun_after begun step) steps

-- a log that is not empty, below its heading
abbrev pub log_lines : List ℕ → ℕ → List Step → List TraceLine
log_lines begun column [] = []
log_lines begun column (step ∷ steps) = Heads column ∷ step_lines begun (step ∷ steps)

-- the logs of the columns from this one on
abbrev pub logs_lines : List ℕ → ℕ → List (List Step) → List TraceLine
logs_lines begun column [] = []
logs_lines begun column (log ∷ logs) = log_lines begun column log ++ logs_lines (begun_through begun log) (column + 1) logs

-- an entry of a journal
abbrev pub entry_line : JournalEntry → TraceLine
entry_line entry = Kept entry

-- a journal that is not empty, below its heading
abbrev pub journal_lines : ℕ → ℕ → List JournalEntry → List TraceLine
journal_lines replica key [] = []
journal_lines replica key (entry ∷ entries) = Marks replica key ∷ map entry_line (entry ∷ entries)

-- the journals of a replica from this key on
abbrev pub replica_lines : ℕ → ℕ → List (List JournalEntry) → List TraceLine
replica_lines replica key [] = []
replica_lines replica key (journal ∷ journals) = journal_lines replica key journal ++ replica_lines replica (key + 1) journals

-- the journals of the replicas from this one on
abbrev pub journals_lines : ℕ → List (List (List JournalEntry)) → List TraceLine
journals_lines replica [] = []
journals_lines replica (keys ∷ replicas) = replica_lines replica 0 keys ++ journals_lines (replica + 1) replicas

-- a global line with its answer
abbrev pub change_line : GlobalEntry → TraceLine
change_line entry = Changed entry

-- the global lines below their heading, where there are any
abbrev pub change_lines : List GlobalEntry → List TraceLine
change_lines [] = []
change_lines (entry ∷ entries) = Changes ∷ map change_line (entry ∷ entries)

-- a round: its logs, its journals and its global lines
abbrev pub round_lines : List ℕ → ℕ → RoundLog → List TraceLine
round_lines begun place round = Begins (place + 1) ∷ (logs_lines begun 0 round.logs ++ (journals_lines 0 round.journals ++ change_lines round.globals))

-- the rounds from this place on
abbrev pub rounds_lines : List ℕ → ℕ → List RoundLog → List TraceLine
rounds_lines begun place [] = []
rounds_lines begun place (round ∷ rounds) = round_lines begun place round ++ rounds_lines (begun_in begun round.logs) (place + 1) rounds

-- the lines before the rounds
abbrev pub head_lines : History → List TraceLine
head_lines run = Opens run.version ∷ Sizes run.faults ∷ (client_lines run.client_names 0 run.client_columns ++ map key_line run.key_names)

-- the lines of a run
abbrev pub trace_lines : History → List TraceLine
trace_lines run = head_lines run ++ (rounds_lines (zeros run.client_columns) 0 run.rounds ++ Ends ∷ [])

-- the text of a run
abbrev pub trace_text : History → List ℕ
trace_text run = text_of run.client_names run.key_names (trace_lines run)
