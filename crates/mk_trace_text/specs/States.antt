-- What the lines so far said, and what a line says.
use Rattle.std.specs.Prelude.{◌+◌, ℕ, zero, suc, ◌==◌, List, [], ◌∷◌, ◌++◌, length, max, replicate, if◌then◌else◌}
use Rattle.mk_quorum.specs.Sizes.{members}
use Rattle.mk_words.specs.declared.JournalEntry.{JournalEntry}
use Rattle.mk_history.specs.declared.RoundLog.{RoundLog}
use Rattle.mk_kept.specs.declared.head.Head.{Head}
use Rattle.mk_trace_lines.specs.TraceLines.{TraceLine}
use Rattle.mk_trace_lines.specs.TraceLines.TraceLine.{Opens, Sizes, Declares, Names, Begins, Heads, Logged, Marks, Kept, Changes, Changed, Ends}
use Rattle.mk_trace_text.specs.declared.section.Section.{Section}
use Rattle.mk_trace_text.specs.declared.section.Section.TheVariants as sections
use Rattle.mk_trace_text.specs.Begun.{begun_after}

-- what the lines so far said
pub record State : Type 0 where
  pub section : Section
  pub head : Head
  -- how many attempts each client has begun
  pub begun : List ℕ
  -- how many rounds began, and how many global lines there were
  pub count : ℕ
  pub changes : ℕ
  -- the last heading of a log, and the last one of a journal
  pub column : ℕ
  pub replica : ℕ
  pub key : ℕ
  -- the round that goes on, and the rounds that were read to their end and not handed out
  pub round : RoundLog
  pub rounds : List RoundLog

-- a round without tables
abbrev pub no_round : RoundLog
no_round = record { logs = []; journals = []; globals = [] }

-- a head that says nothing
abbrev pub no_head : Head
no_head =
    record {
      version = 0;
      size = 1;
      columns = 0;
      client_columns = [];
      client_names = record { names = []; limit = 64 };
      key_names = record { names = []; limit = 256 };
    }

-- no line was read
abbrev pub nothing : State
nothing =
    record {
      section = sections.Start;
      head = no_head;
      begun = [];
      count = 0;
      changes = 0;
      column = 0;
      replica = 0;
      key = 0;
      round = no_round;
      rounds = [];
    }

-- a round in which nothing was done yet: a log for each column, and a journal for each replica and key
abbrev pub fresh : Head → RoundLog
fresh head =
    record {
      logs = replicate head.columns [];
      journals = replicate (members head.size) (replicate (length head.key_names.names) []);
      globals = [];
    }

-- one more member of the list at this place
abbrev pub extended : {A : Type 0} → List (List A) → ℕ → A → List (List A)
extended [] place x = []
extended (xs ∷ rest) zero x = (xs ++ x ∷ []) ∷ rest
extended (xs ∷ rest) (suc place) x = xs ∷ extended rest place x

-- one more entry in the journal of this replica and key
abbrev pub journaled : List (List (List JournalEntry)) → ℕ → ℕ → JournalEntry → List (List (List JournalEntry))
journaled [] replica key entry = []
journaled (keys ∷ rest) zero key entry = extended keys key entry ∷ rest
journaled (keys ∷ rest) (suc replica) key entry = keys ∷ journaled rest replica key entry

-- the round that went on has been read to its end; before the first there is none
abbrev pub closed : State → List RoundLog
closed s = if s.count == 0 then s.rounds else s.rounds ++ s.round ∷ []

-- one more client
abbrev pub with_client : Head → List ℕ → ℕ → Head
with_client head name column =
    record head {
      columns = max (column + 1) head.columns;
      client_columns = head.client_columns ++ column ∷ [];
      client_names = record { names = head.client_names.names ++ name ∷ []; limit = head.client_names.limit };
    }

-- one more key
abbrev pub with_key : Head → List ℕ → Head
with_key head name = record head { key_names = record { names = head.key_names.names ++ name ∷ []; limit = head.key_names.limit } }

-- what was read with this line
abbrev pub after : State → TraceLine → State
after s (Opens version) = record s { section = sections.Opened; head = record s.head { version = version } }
after s (Sizes f) = record s { section = sections.Clients; head = record s.head { size = f } }
after s (Declares name column) = record s { head = with_client s.head name column; begun = s.begun ++ 0 ∷ [] }
after s (Names name) = record s { section = sections.Keys; head = with_key s.head name }
after s (Begins n) = record s { section = sections.Round; count = s.count + 1; round = fresh s.head; rounds = closed s }
after s (Heads column) = record s { section = sections.Column; column = column }
after s (Logged seq step) =
    record s { section = sections.Log; begun = begun_after s.begun step; round = record s.round { logs = extended s.round.logs s.column step } }
after s (Marks replica key) = record s { section = sections.Cell; replica = replica; key = key }
after s (Kept entry) =
    record s { section = sections.Journal; round = record s.round { journals = journaled s.round.journals s.replica s.key entry } }
after s Changes = record s { section = sections.Globals }
after s (Changed entry) =
    record s { section = sections.Changes; changes = s.changes + 1; round = record s.round { globals = s.round.globals ++ entry ∷ [] } }
after s Ends = record s { section = sections.Ended; round = no_round; rounds = closed s }
