-- A run cut within the global lines of one of its rounds is a run, so what holds at the end of every run holds there.
use Rattle.std.specs.Prelude.{◌≡◌, ℕ, List, [], ◌∷◌, ◌++◌, map}
use Rattle.mk_words.specs.declared.GlobalEntry.{GlobalEntry}
use Rattle.mk_model.specs.Logs.{reading_ended}
use Rattle.mk_history.specs.declared.RoundLog.{RoundLog}
use Rattle.mk_history.specs.Histories.{History}
use Rattle.mk_history.specs.Shape.{HasShape}
use Rattle.mk_history.specs.Legality.{IsLegal, IsLegalRound, EachRoundLegal}
use Rattle.mk_history.specs.Wholes.{WholeState, first_state, state_through, last_state, entries_of, marks_of}
use Rattle.mk_run_laws.specs.RunEvents.{moment_of}
use Rattle.mk_run_laws.specs.Ends.{whole_within}

-- the round with these global lines alone
abbrev pub cut_round : RoundLog → List GlobalEntry → RoundLog
cut_round round lines = record round { globals = lines }

-- the run that ends after these rounds and one more with these lines
abbrev pub cut : History → List RoundLog → RoundLog → List GlobalEntry → History
cut run done round lines = record run { rounds = done ++ cut_round round lines ∷ [] }

-- a legal round is legal with fewer lines
abbrev pub RoundsAreCut : Type 0
RoundsAreCut =
    (run : History) (round : RoundLog) (state : WholeState) (lines more : List GlobalEntry) → IsLegalRound run round state → round.globals ≡ lines ++ more →
    IsLegalRound run (cut_round round lines) state

-- a cut run is legal, and ends in what the whole was there, but that no attempt reads; so its replicas would hand in the same
pub record IsCutAt (run : History) (done : List RoundLog) (round : RoundLog) (lines : List GlobalEntry) : Type 0 where
  pub legal : IsLegal (cut run done round lines)
  pub epochs : (last_state (cut run done round lines)).epochs ≡ (whole_within run done round lines).epochs
  pub cells : (last_state (cut run done round lines)).cells ≡ (whole_within run done round lines).cells
  pub columns : (last_state (cut run done round lines)).columns ≡ map reading_ended (whole_within run done round lines).columns
  pub entries : (r : ℕ) → entries_of (last_state (cut run done round lines)).columns r ≡ entries_of (whole_within run done round lines).columns r
  pub marks : (r : ℕ) → marks_of (last_state (cut run done round lines)).columns r ≡ marks_of (whole_within run done round lines).columns r

abbrev pub CutsAreLegal : Type 0
CutsAreLegal =
    (run : History) (done : List RoundLog) (round : RoundLog) (lines : List GlobalEntry) → EachRoundLegal run (first_state run) done →
    IsLegalRound run (cut_round round lines) (state_through run (first_state run) done) → IsCutAt run done round lines

-- its moments are those of the run: the rounds before, and the last with any lines
pub record HasMoments (run : History) (done : List RoundLog) (round : RoundLog) (lines : List GlobalEntry) : Type 0 where
  pub before : (c : ℕ) → moment_of (cut run done round lines) c done ≡ moment_of run c done
  pub last : (c : ℕ) → moment_of (cut run done round lines) c (done ++ cut_round round lines ∷ []) ≡ moment_of run c (done ++ round ∷ [])
  pub whole : state_through (cut run done round lines) (first_state (cut run done round lines)) done ≡ state_through run (first_state run) done

abbrev pub CutsHaveMoments : Type 0
CutsHaveMoments = (run : History) (done : List RoundLog) (round : RoundLog) (lines : List GlobalEntry) → HasMoments run done round lines

-- and it has the shape of a run
abbrev pub CutsHaveShape : Type 0
CutsHaveShape =
    (run : History) (done rest : List RoundLog) (round : RoundLog) (lines more : List GlobalEntry) → HasShape run → run.rounds ≡ done ++ round ∷ rest →
    round.globals ≡ lines ++ more → HasShape (cut run done round lines)
