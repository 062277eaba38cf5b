-- What replicas may hand in: so at every place of a run a promise is one of which a base may be made.
use Rattle.std.specs.Prelude.{◌≡◌, ℕ, List, ◌∷◌, ◌++◌}
use Rattle.mk_words.specs.declared.GlobalEntry.{GlobalEntry}
use Rattle.mk_epoch_laws.specs.FitLaws.{MayHandIn, IsReached}
use Rattle.mk_history.specs.declared.RoundLog.{RoundLog}
use Rattle.mk_history.specs.Histories.{History}
use Rattle.mk_history.specs.Shape.{HasShape}
use Rattle.mk_history.specs.Legality.{IsLegal}
use Rattle.mk_history.specs.Wholes.{entries_of, last_state}
use Rattle.mk_run_laws.specs.Ends.{whole_within}

-- before each global line, and at the end of a round, each replica may hand in what it has
abbrev pub MayHandInWithin : Type 0
MayHandInWithin =
    (run : History) → HasShape run → IsLegal run → (done rest : List RoundLog) (round : RoundLog) → run.rounds ≡ done ++ round ∷ rest →
    (lines more : List GlobalEntry) → round.globals ≡ lines ++ more → (r : ℕ) →
    MayHandIn (whole_within run done round lines).epochs r (entries_of (whole_within run done round lines).columns r)

-- and so at the end of the run
abbrev pub EndsMayHandIn : Type 0
EndsMayHandIn = (run : History) → HasShape run → IsLegal run → (r : ℕ) → MayHandIn (last_state run).epochs r (entries_of (last_state run).columns r)

-- lines with which replicas hand in what they may lead to the epoch machine of a run
abbrev pub EndsAreReached : Type 0
EndsAreReached = (run : History) → HasShape run → IsLegal run → IsReached (last_state run).epochs
