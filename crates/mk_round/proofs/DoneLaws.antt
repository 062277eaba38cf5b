-- A log that goes by the turns to its end, whose steps were enabled.
use Rattle.std.proofs.Common.{◌≡◌, List, [], ◌∷◌}
use Rattle.mk_script.specs.Scripts.{ScriptParts}
use Rattle.mk_words.specs.declared.Step.{Step}
use Rattle.mk_model.specs.ColumnState.{Setting}
use Rattle.mk_model.specs.Logs.{EachEnabled}
use Rattle.mk_driver.specs.declared.Next.TheVariants.{Over}
use Rattle.mk_driver.specs.Driven.{Standing, IsTurned, next_at, standing_after, standing_through}
use Rattle.mk_driver_laws.specs.Enabled.{IsDone}

pub done_by : (script : ScriptParts) (round : Setting) (standing : Standing) (log : List Step) →
    IsTurned script round standing log → EachEnabled round standing.column log → IsDone script round standing log
done_by script round standing [] turned enabled = tt
done_by script round standing (step ∷ log) turned enabled =
    (turned.0, enabled.0, done_by script round (standing_after script round standing step) log turned.1 enabled.1)

pub over_at_end : (script : ScriptParts) (round : Setting) (standing : Standing) (log : List Step) →
    IsTurned script round standing log → next_at script round (standing_through script round standing log) ≡ Over
over_at_end script round standing [] turned = turned
over_at_end script round standing (step ∷ log) turned = over_at_end script round (standing_after script round standing step) log turned.1
