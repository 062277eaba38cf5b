-- What a choice means: the step that it names is enabled, and the driver then fits the column after it.
use Rattle.std.proofs.Common.{◌≡◌, [], None}
use Rattle.mk_model.specs.ColumnState.{Setting, ColumnState}
use Rattle.mk_model.specs.Conditions.{blocked}
use Rattle.mk_model.specs.Steps.{column_after}
use Rattle.mk_driver.specs.declared.DriverState.{DriverState}
use Rattle.mk_driver.specs.declared.Next.{Next}
use Rattle.mk_driver.specs.declared.Next.TheVariants.{Step as StepNext, Key as KeyNext, Over}
use Rattle.mk_driver.specs.Turns.{Choice}
use Rattle.mk_driver_laws.proofs.Sure.{IsSureWithPlace}
use Rattle.mk_driver_laws.proofs.Reading.{NoneReads}
use Rattle.mk_driver_laws.proofs.DriverFits.{DriverFits, WholeFits}

-- what is named, and the driver then
abbrev pub NamedFits : Setting → ColumnState → Next → DriverState → Type 0
NamedFits round c (StepNext step) d = IsSureWithPlace round c step × (blocked round c step ≡ None → WholeFits (column_after round c step) d d.agenda)
NamedFits round c (KeyNext call) d = WholeFits c d d.agenda
NamedFits round c Over d = NoneReads c × DriverFits c [] d

abbrev pub ChoiceFits : Setting → ColumnState → Choice → Type 0
ChoiceFits round c chosen = NamedFits round c chosen.next chosen.driver
