-- The global lines of a round, done one after the other.
use Rattle.std.specs.Prelude.{◌≡◌, ◌<◌, ℕ, true, List, [], ◌∷◌, ◌++◌, length}
use Rattle.std.specs.List.{list_all}
use Rattle.mk_lists.specs.Among.{Each}
use Rattle.mk_words.specs.Promises.{leader_of}
use Rattle.mk_words.specs.declared.GlobalEntry.{GlobalEntry}
use Rattle.mk_words.specs.declared.GlobalLine.{GlobalLine}
use Rattle.mk_words.specs.declared.GlobalLine.TheVariants.{Promise, Merge, Adopt}
use Rattle.mk_history.specs.declared.RoundLog.{RoundLog}
use Rattle.mk_history.specs.Legality.{EachRoundLegal, EachGlobalAnswered}
use Rattle.mk_history.specs.Shape.{IsRoundShape, global_fits}
use Rattle.mk_history.specs.Wholes.{WholeState, first_state, after_logs, globals_through}
use Rattle.mk_kept.specs.declared.head.Head.{Head}
use Rattle.mk_kept.specs.Heads.{history}
use Rattle.mk_script.specs.Scripts.{ScriptParts}
use Rattle.mk_script.specs.Whole.{IsWhole}
use Rattle.mk_driver.specs.Driven.{EachRoundTurned, lines_in, round_at}
use Rattle.mk_shape.specs.AttemptCounts.{FewAttempts}
use Rattle.mk_round.specs.Pasts.{run_of, state_behind}
use Rattle.mk_round.specs.Stores.{StoreView, HasWorked, AreDone}
use Rattle.mk_store.specs.Words.{WordsRead, FaultsAreCounted, faults_in}

-- the replica whose word goes with a line: that which promises or adopts, the leader of a merge, and any for the other lines
abbrev pub word_place : ℕ → GlobalLine → ℕ
word_place f (Promise epoch r) = r
word_place f (Adopt epoch r) = r
word_place f (Merge epoch) = leader_of f epoch
word_place f _ = 0

-- the state behind these rounds, the logs of one more, and these lines
abbrev pub state_within : ScriptParts → List RoundLog → RoundLog → List GlobalEntry → WholeState
state_within script done round entries = globals_through (run_of script []) (after_logs (run_of script []) round (state_behind script done)) entries

-- rounds of a script's run: they are legal, go by the script, and have the shape of a run's rounds
pub record AreRounds (script : ScriptParts) (done : List RoundLog) : Type 0 where
  pub legal : EachRoundLegal (run_of script []) (first_state (run_of script [])) done
  pub turned : EachRoundTurned script (run_of script []) [] (first_state (run_of script [])) done
  pub shapes : Each (IsRoundShape (run_of script [])) done

-- the columns have worked in the round behind these, whose global lines are next; each word reads what its replica has
pub record MayDoLines {W : Type 0} (kept : W → ℕ) (script : ScriptParts) (done : List RoundLog) (round : RoundLog) (head : Head) (store : StoreView)
    (lines : List GlobalLine) (words : List W) : Type 0 where
  pub head_is : history head [] ≡ run_of script []
  pub whole : IsWhole script
  pub left : length done < length script.rounds
  pub lines_are : lines ≡ (let its = round_at script (length done) in its.globals)
  pub rounds : AreRounds script done
  pub shape : IsRoundShape (run_of script []) round
  pub few : FewAttempts (done ++ round ∷ [])
  pub worked : HasWorked script done round store
  pub all : length words ≡ 7
  pub read : WordsRead kept (state_behind script done).epochs words

-- the lines were done: each got an answer that the state before it allows, and what the store and the words are is behind all of them
pub record WereDone {W : Type 0} (kept faults : W → ℕ) (script : ScriptParts) (done : List RoundLog) (round : RoundLog) (store new_store : StoreView)
    (lines : List GlobalLine) (words new_words : List W) (entries : List GlobalEntry) : Type 0 where
  pub lines_are : lines_in entries ≡ lines
  pub answered : EachGlobalAnswered (run_of script []) (after_logs (run_of script []) round (state_behind script done)) entries
  pub fit : list_all (global_fits (run_of script [])) entries ≡ true
  pub done_are : AreDone script done round entries store new_store
  pub all : length new_words ≡ length words
  pub read : WordsRead kept (state_within script done round entries).epochs new_words
  pub counted : FaultsAreCounted faults words new_words (λ r. faults_in r entries)
