-- What a judge keeps, and the rounds for which it stands.
use Rattle.std.specs.Prelude.{◌≡◌, ℕ, Bool, List, [], ◌∷◌, ◌++◌, length, unwrap_or, Option, None}
use Rattle.mk_history.specs.declared.RoundLog.{RoundLog}
use Rattle.mk_history.specs.Histories.{History}
use Rattle.mk_history.specs.Legality.{EachRoundLegal}
use Rattle.mk_history.specs.Shape.{HasShape}
use Rattle.mk_history.specs.Wholes.{first_state, state_through}
use Rattle.mk_kept.specs.declared.head.Head.{Head}
use Rattle.mk_kept.specs.Heads.{history}
use Rattle.mk_verdict.specs.declared.PlacedFlaw.{PlacedFlaw}
use Rattle.mk_verdict.specs.declared.Verdict.{Verdict}
use Rattle.mk_verdict.specs.declared.Verdict.TheVariants.{Legal}
use Rattle.mk_verdict.specs.Flaws.{flaw_of_round, flaw_from}
use Rattle.mk_words.specs.Bases.{BaseState}
use Rattle.mk_state.specs.Standings.{WholeView, IsAt}
use Rattle.mk_whole.specs.Standings.{IsItself, MayReplay}
use Rattle.mk_run.specs.declared.firsts.FirstLearning.{FirstLearning}
use Rattle.mk_run.specs.Firsts.{StandsForFound}
use Rattle.mk_run.specs.News.{entered_along, found_along, SameEpochs}

-- the machine, what was learned first, the epochs that were entered, and the columns of the clients
pub record WatchView : Type 0 where
  pub whole : WholeView BaseState
  pub firsts : List FirstLearning
  pub entered : List ℕ
  pub client_columns : List ℕ

-- these rounds of the run were replayed, and what was learned in them was noted
pub record HasReplayed (run : History) (watch : WatchView) (rounds : List RoundLog) : Type 0 where
  pub at : IsAt IsItself run watch.whole (state_through run (first_state run) rounds)
  pub firsts : StandsForFound watch.firsts (found_along run rounds)
  pub entered : SameEpochs watch.entered (entered_along [] rounds)
  pub client_columns : watch.client_columns ≡ run.client_columns

-- the round was replayed in every run of which it is the next round: this is its first flaw, and where it has none, what was
-- learned in it was noted
pub record IsReplayed (old : WatchView) (round : RoundLog) (found : Option PlacedFlaw) (new : WatchView) : Type 0 where
  pub flaw : (run : History) (done : List RoundLog) → MayReplay run done old.whole round → found ≡ flaw_of_round run (state_through run (first_state run) done) round
  pub after : found ≡ None → (run : History) (done : List RoundLog) → MayReplay run done old.whole round → HasReplayed run old done → HasReplayed run new (done ++ round ∷ [])

-- a judge: its head, what it replays, how many rounds were taken, the verdict on them, and whether it has found no memory
pub record JudgeView : Type 0 where
  pub head : Head
  pub watch : WatchView
  pub taken : ℕ
  pub verdict : Verdict
  pub failed : Bool

-- the verdict is that of these rounds of the run, and where they are legal they were replayed
pub record HasJudged (run : History) (judge : JudgeView) (rounds : List RoundLog) : Type 0 where
  pub verdict : judge.verdict ≡ unwrap_or (flaw_from 1 run (first_state run) rounds) Legal
  pub legal : judge.verdict ≡ Legal → EachRoundLegal run (first_state run) rounds × HasReplayed run judge.watch rounds

-- the judge stands for its head with these rounds: it has judged them in every run that begins so
pub record StandsForRounds (judge : JudgeView) (rounds : List RoundLog) : Type 0 where
  pub taken : judge.taken ≡ length rounds
  pub judged : (rest : List RoundLog) → HasShape (history judge.head (rounds ++ rest)) → HasJudged (history judge.head (rounds ++ rest)) judge rounds

-- the judge stands for these rounds and can take this one: with it they have the shape of a run
pub record MayTake (judge : JudgeView) (rounds : List RoundLog) (round : RoundLog) : Type 0 where
  pub stands : StandsForRounds judge rounds
  pub shape : HasShape (history judge.head (rounds ++ round ∷ []))
