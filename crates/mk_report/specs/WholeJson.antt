-- The JSON of a run, as a value and as a text.
use Rattle.std.specs.Prelude.{ℕ, List, [], ◌∷◌, ◌++◌, map, codes}
use Rattle.std.specs.List.{flat_map}
use Rattle.serde_json.specs.Data.{Data, number, unsigned}
use Rattle.serde_json.specs.Written.{compact_text}
use Rattle.mk_model.specs.OneCopy.{Copy}
use Rattle.mk_history.specs.declared.RoundLog.{RoundLog}
use Rattle.mk_run.specs.declared.line.AttemptLine.{AttemptLine}
use Rattle.mk_run.specs.declared.line.Tally.{Tally}
use Rattle.mk_run.specs.Attempts.{tally_of}
use Rattle.mk_report.specs.JsonValues.{list_data, object_data, attempt_data, round_data, stores_data}

-- attempts, global lines of all rounds, what the one copy holds, and how many attempts ended in which way
abbrev pub whole_data : Tally → Data → Data → Data → Data
whole_data tally attempts globals stores =
    object_data (
    (codes "aborts", number (unsigned tally.aborts))
    ∷ (codes "attempts", attempts)
    ∷ (codes "commits", number (unsigned tally.commits))
    ∷ (codes "globals", globals)
    ∷ (codes "opens", number (unsigned tally.opens))
    ∷ (codes "store", stores)
    ∷ []
    )

-- the same, of the lines of attempts, the rounds and the one copy
abbrev pub run_data : List (List ℕ) → List (List ℕ) → List AttemptLine → List RoundLog → Copy → Data
run_data clients keys lines rounds copy =
    whole_data (tally_of lines) (list_data (map (attempt_data clients keys) lines)) (list_data (flat_map round_data rounds)) (list_data (stores_data keys copy))

-- the compact text of that, and a line feed
abbrev pub json_text : List (List ℕ) → List (List ℕ) → List AttemptLine → List RoundLog → Copy → List ℕ
json_text clients keys lines rounds copy = compact_text (run_data clients keys lines rounds copy) ++ 10 ∷ []
