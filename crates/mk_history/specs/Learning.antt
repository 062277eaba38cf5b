-- Who learns which outcome in a run, where and how: the list that agreement, the commits and the report go by.
use Rattle.std.specs.Prelude.{ℕ, ◌+◌, Bool, not, ◌&&◌, ◌==◌, List, [], ◌∷◌, ◌++◌, map, filter, find, Option, Some, None, if◌then◌else◌}
use Rattle.std.specs.List.{list_any}
use Rattle.std.specs.Option.{option_or, unwrap_or}
use Rattle.mk_txn.specs.declared.TxnId.{TxnId}
use Rattle.mk_txn.specs.declared.Outcome.{Outcome}
use Rattle.mk_txn.specs.Outcomes.{is_commit}
use Rattle.mk_txn.specs.Transactions.{Transaction, same_id}
use Rattle.mk_words.specs.Bases.{in_stamp_order, taught_by}
use Rattle.mk_words.specs.declared.GlobalEntry.{GlobalEntry}
use Rattle.mk_words.specs.declared.GlobalLine.{GlobalLine}
use Rattle.mk_words.specs.declared.GlobalLine.TheVariants.{Enter}
use Rattle.mk_words.specs.declared.GlobalAnswer.{GlobalAnswer}
use Rattle.mk_words.specs.declared.Step.{Step}
use Rattle.mk_model.specs.ColumnState.{ColumnState, AttemptState, Setting, Learning, Way}
use Rattle.mk_model.specs.ColumnState.Way.{ByVotes, ByAccepts, ByPick, ByMoved, ByTelling, ByFinishing}
use Rattle.mk_model.specs.Learnings.{learned_in_step}
use Rattle.mk_model.specs.Steps.{column_after}
use Rattle.mk_model.specs.EpochState.{made_for}
use Rattle.mk_model.specs.GlobalAnswers.{is_accepted}
use Rattle.mk_model.specs.GlobalSteps.{base_or_empty}
use Rattle.mk_history.specs.declared.Path.{Path}
use Rattle.mk_history.specs.declared.Path.TheVariants.{Fast, Slow, Takeover, Epoch, Moved}
use Rattle.mk_history.specs.declared.RoundLog.{RoundLog}
use Rattle.mk_history.specs.Histories.{History, log_of}
use Rattle.mk_history.specs.Wholes.{WholeState, first_state, setting_of, last_state, after_logs, after_global, after_round}

-- where something was learned; rounds and entries count from 1
pub data Place : Type 0 where
  InLog : (round column entry : ℕ) → Place
  InGlobals : (round entry : ℕ) → Place

-- an outcome that was learned, with a path of its own where it has one
pub record Found : Type 0 where
  pub place : Place
  pub id : TxnId
  pub outcome : Outcome
  pub own_path : Option Path

-- a member of the list of what was learned
pub record Learnt : Type 0 where
  pub place : Place
  pub id : TxnId
  pub outcome : Outcome
  pub path : Path

-- what was told, and a replica's finishing, have no path of their own
abbrev pub path_of : Way → Option Path
path_of ByVotes = Some Fast
path_of ByAccepts = Some Slow
path_of (ByPick view) = Some (Takeover view)
path_of (ByMoved epoch) = Some (Moved epoch)
path_of ByTelling = None
path_of ByFinishing = None

-- what was learned in a step
abbrev pub found : Place → Learning → Found
found place l = record { place = place; id = l.id; outcome = l.outcome; own_path = path_of l.way }

-- what is found along a column's log, from this entry on
abbrev pub found_in_log : ℕ → ℕ → ℕ → Setting → ColumnState → List Step → List Found
found_in_log round c entry setting column [] = []
found_in_log round c entry setting column (step ∷ steps) =
    map (found (InLog round c entry)) (learned_in_step setting column step)
    ++ found_in_log round c (entry + 1) setting (column_after setting column step) steps

-- what is found along the logs of these columns, the first of which has this number
abbrev pub found_in_logs : ℕ → Setting → RoundLog → ℕ → List ColumnState → List Found
found_in_logs number setting round c [] = []
found_in_logs number setting round c (column ∷ columns) =
    found_in_log number c 1 setting column (log_of round c) ++ found_in_logs number setting round (c + 1) columns

-- what an Enter teaches of one attempt
abbrev pub found_by_enter : Place → ℕ → TxnId × Outcome → Found
found_by_enter place epoch fate = record { place = place; id = fate.0; outcome = fate.1; own_path = Some (Epoch epoch) }

-- the first accepted Enter of an epoch teaches the outcomes of its base that its marks do not cover
abbrev pub found_by_line : Place → WholeState → List ℕ → GlobalAnswer → GlobalLine → List Found
found_by_line place state entered answer (Enter epoch) =
    if is_accepted answer && not (list_any (λ e. e == epoch) entered)
    then map (found_by_enter place epoch) (taught_by (base_or_empty (made_for epoch state.epochs)))
    else []
found_by_line place state entered answer _ = []

-- the epochs that were entered so far
abbrev pub entered_after : GlobalAnswer → List ℕ → GlobalLine → List ℕ
entered_after answer entered (Enter epoch) = if is_accepted answer then epoch ∷ entered else entered
entered_after answer entered _ = entered

-- the epochs that were entered after these lines
abbrev pub entered_through : List ℕ → List GlobalEntry → List ℕ
entered_through entered [] = entered
entered_through entered (line ∷ lines) = entered_through (entered_after line.answer entered line.line) lines

-- what is found along a round's global lines, from this entry on
abbrev pub found_in_globals : ℕ → ℕ → History → WholeState → List ℕ → List GlobalEntry → List Found
found_in_globals number entry run state entered [] = []
found_in_globals number entry run state entered (line ∷ lines) =
    found_by_line (InGlobals number entry) state entered line.answer line.line
    ++ found_in_globals number (entry + 1) run (after_global run state line) (entered_after line.answer entered line.line) lines

-- a round's columns in order of number, and then its global lines
abbrev pub found_in_round : ℕ → History → WholeState → List ℕ → RoundLog → List Found
found_in_round number run state entered round =
    found_in_logs number (setting_of run state) round 0 state.columns
    ++ found_in_globals number 1 run (after_logs run round state) entered round.globals

-- what is found along these rounds, the first of which has this number
abbrev pub found_from : ℕ → History → WholeState → List ℕ → List RoundLog → List Found
found_from number run state entered [] = []
found_from number run state entered (round ∷ rounds) =
    found_in_round number run state entered round
    ++ found_from (number + 1) run (after_round run round state) (entered_through entered round.globals) rounds

-- what is found along the run
abbrev pub all_found : History → List Found
all_found run = found_from 1 run (first_state run) [] run.rounds

-- the path by which the attempt was learned first; what has no path of its own never comes first in a legal run
abbrev pub first_path : TxnId → List Found → Option Path
first_path id [] = None
first_path id (f ∷ rest) = if same_id f.id id then option_or f.own_path (first_path id rest) else first_path id rest

-- a member with its own path, or with that of the first
abbrev pub with_path : List Found → Found → Learnt
with_path all f =
    record { place = f.place; id = f.id; outcome = f.outcome; path = unwrap_or (option_or f.own_path (first_path f.id all)) Fast }

-- all that anybody learns in a run, in order: by round, then by column and step, then by global line
abbrev pub learned : History → List Learnt
learned run = map (with_path (all_found run)) (all_found run)

-- the first learning of an attempt
abbrev pub first_learned : TxnId → List Learnt → Option Learnt
first_learned id learnings = find (λ l. same_id l.id id) learnings

-- the transactions of these attempts
abbrev pub stamped_in : List AttemptState → List Transaction
stamped_in [] = []
stamped_in (attempt ∷ attempts) = with_txn attempt.txn (stamped_in attempts)
  where
    with_txn : Option Transaction → List Transaction → List Transaction
    with_txn (Some txn) txns = txn ∷ txns
    with_txn None txns = txns

-- the transactions of these columns' attempts
abbrev pub stamped_by : List ColumnState → List Transaction
stamped_by [] = []
stamped_by (column ∷ columns) = stamped_in column.attempts ++ stamped_by columns

-- a commit of this attempt was learned
abbrev pub is_learned_commit : TxnId → Learnt → Bool
is_learned_commit id l = same_id l.id id && is_commit l.outcome

-- those of the transactions whose commit was learned, in order of stamp
abbrev pub committed : List Learnt → List Transaction → List Transaction
committed learnings txns = in_stamp_order (filter (λ txn. list_any (is_learned_commit txn.id) learnings) txns)

-- the transactions that are learned to commit, each once, in order of stamp
abbrev pub commits : History → List Transaction
commits run = committed (learned run) (stamped_by (last_state run).columns)
