-- Rounds that are past: one more of them, how many replicas and columns there are behind them.
use Rattle.std.proofs.Common.{◌≡◌, suc, ◌+◌, Bool, true, false, refl, arith, ap, ◌∙◌, List, [], ◌∷◌, ◌++◌, length, cond}
use Rattle.std.proofs.lemmas.List.{length-map, length-replicate}
use Rattle.mk_lists.specs.Among.{Each}
use Rattle.mk_quorum.specs.Sizes.{members}
use Rattle.mk_words.specs.declared.GlobalEntry.{GlobalEntry}
use Rattle.mk_script.specs.Scripts.{ScriptParts}
use Rattle.mk_model.specs.EpochState.{first_replica, view_of, views_of}
use Rattle.mk_model.specs.GlobalAnswers.{is_accepted}
use Rattle.mk_model.specs.GlobalSteps.{global_after}
use Rattle.mk_epoch_laws.proofs.Extending.{line_extends}
use Rattle.mk_history.specs.declared.RoundLog.{RoundLog}
use Rattle.mk_history.specs.Histories.{History}
use Rattle.mk_history.specs.Wholes.{WholeState, first_state, state_through, after_logs, after_global, after_round, globals_through, handed_in}
use Rattle.mk_run_laws.proofs.Lines.{state_through-append}
use Rattle.mk_run_laws.proofs.Ending.{first_length, rounds_length}
use Rattle.mk_driver.specs.Driven.{PastRound}
use Rattle.mk_driver_laws.specs.Enabled.{HasViews}
use Rattle.mk_round.specs.Pasts.{run_of, state_behind, views_behind, past_from, past_of}
use Rattle.mk_round.specs.Stores.{column_count}

-- ---- one round more

pub behind_more : (script : ScriptParts) (done : List RoundLog) (round : RoundLog) →
    state_behind script (done ++ round ∷ []) ≡ after_round (run_of script []) round (state_behind script done)
behind_more script done round = state_through-append (run_of script []) (first_state (run_of script [])) done (round ∷ [])

past_from_more : (script : ScriptParts) (state : WholeState) (done : List RoundLog) (round : RoundLog) →
    past_from script state (done ++ round ∷ [])
    ≡ past_from script state done ++ record { views = views_of (state_through (run_of script []) state done).epochs; round = round } ∷ []
past_from_more script state [] round = refl
past_from_more script state (first ∷ done) round =
    ap (λ (rounds : List PastRound). record { views = views_of state.epochs; round = first } ∷ rounds)
    (past_from_more script (after_round (run_of script []) first state) done round)

pub past_more : (script : ScriptParts) (done : List RoundLog) (round : RoundLog) →
    past_of script (done ++ round ∷ []) ≡ past_of script done ++ record { views = views_behind script done; round = round } ∷ []
past_more script done round = past_from_more script (first_state (run_of script [])) done round

past_from_length : (script : ScriptParts) (state : WholeState) (done : List RoundLog) → length (past_from script state done) ≡ length done
past_from_length script state [] = refl
past_from_length script state (first ∷ done) = ap suc (past_from_length script (after_round (run_of script []) first state) done)

pub past_length : (script : ScriptParts) (done : List RoundLog) → length (past_of script done) ≡ length done
past_length script done = past_from_length script (first_state (run_of script [])) done

pub length_more : {X : Type 0} (xs : List X) (x : X) → length (xs ++ x ∷ []) ≡ length xs + 1
length_more [] x = refl
length_more (y ∷ xs) x = let e = length_more xs x in omega (arith, e)

-- ---- replicas

-- as many replicas as there are members
abbrev pub HasAll : ScriptParts → WholeState → Type 0
HasAll script state = length state.epochs.replicas ≡ members script.size

all_after_line : (run : History) (state : WholeState) (entry : GlobalEntry) → length (after_global run state entry).epochs.replicas ≡ length state.epochs.replicas
all_after_line run state entry = by (is_accepted entry.answer)
  where
    by : (b : Bool) → length (cond b (global_after state.epochs (handed_in state entry.line) entry.line) state.epochs).replicas ≡ length state.epochs.replicas
    by true = (line_extends state.epochs (handed_in state entry.line) entry.line).same_length
    by false = refl

pub all_after_lines : (run : History) (state : WholeState) (entries : List GlobalEntry) →
    length (globals_through run state entries).epochs.replicas ≡ length state.epochs.replicas
all_after_lines run state [] = refl
all_after_lines run state (entry ∷ entries) = all_after_lines run (after_global run state entry) entries ∙ all_after_line run state entry

all_after_round : (script : ScriptParts) (round : RoundLog) (state : WholeState) → HasAll script state → HasAll script (after_round (run_of script []) round state)
all_after_round script round state has = all_after_lines (run_of script []) (after_logs (run_of script []) round state) round.globals ∙ has

all_through : (script : ScriptParts) (done : List RoundLog) (state : WholeState) → HasAll script state → HasAll script (state_through (run_of script []) state done)
all_through script [] state has = has
all_through script (round ∷ done) state has = all_through script done (after_round (run_of script []) round state) (all_after_round script round state has)

all_first : (script : ScriptParts) → HasAll script (first_state (run_of script []))
all_first script = length-replicate (members script.size) first_replica

pub all_behind : (script : ScriptParts) (done : List RoundLog) → HasAll script (state_behind script done)
all_behind script done = all_through script done (first_state (run_of script [])) (all_first script)

few : (script : ScriptParts) (state : WholeState) → HasAll script state → HasViews script (views_of state.epochs)
few script state has = let long = length-map state.epochs.replicas view_of in omega (arith, long, has)

few_from : (script : ScriptParts) (done : List RoundLog) (state : WholeState) → HasAll script state →
    Each (λ (past : PastRound). HasViews script past.views) (past_from script state done)
few_from script [] state has = tt
few_from script (round ∷ done) state has =
    (few script state has, few_from script done (after_round (run_of script []) round state) (all_after_round script round state has))

-- no round had more views than replicas
pub few_past : (script : ScriptParts) (done : List RoundLog) → Each (λ (past : PastRound). HasViews script past.views) (past_of script done)
few_past script done = few_from script done (first_state (run_of script [])) (all_first script)

pub few_behind : (script : ScriptParts) (done : List RoundLog) → HasViews script (views_behind script done)
few_behind script done = few script (state_behind script done) (all_behind script done)

-- ---- columns

pub columns_behind : (script : ScriptParts) (done : List RoundLog) → length (state_behind script done).columns ≡ column_count script
columns_behind script done = rounds_length (run_of script []) done (first_state (run_of script [])) ∙ first_length (run_of script [])
