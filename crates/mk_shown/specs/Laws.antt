-- What is gathered of a legal run is what is shown of it.
use Rattle.std.specs.Prelude.{◌≡◌, List, ◌++◌, length}
use Rattle.mk_history.specs.declared.RoundLog.{RoundLog}
use Rattle.mk_history.specs.Histories.{History}
use Rattle.mk_history.specs.Legality.{IsLegal}
use Rattle.mk_run.specs.Walking.{WalkView, HasWalked}
use Rattle.mk_feed_words.specs.Shown.{watermark_after}
use Rattle.mk_shown.specs.Gathering.{watermark_by}

-- once the first rounds were walked through, the watermark that is made of the columns is the one after these rounds
abbrev pub WatermarksAreShown : Type 0
WatermarksAreShown =
    (run : History) → IsLegal run → (done rest : List RoundLog) → run.rounds ≡ done ++ rest → (walk : WalkView) → HasWalked run walk done →
    watermark_by walk run.client_columns ≡ watermark_after run (length done)
