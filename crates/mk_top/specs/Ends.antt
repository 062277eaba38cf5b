-- How a call of the program ends.
use Rattle.std.specs.Prelude.{ℕ, Bool, true, false, List, Option, Some, None, ⊤, if◌then◌else◌}
use Rattle.std.specs.Io.KnownBytes.{Appends}
use Rattle.mk_io.specs.Wholes.{AppendsPart}
use Rattle.mk_history.specs.Histories.{History}
use Rattle.mk_ending.specs.declared.why.Why.{Why}
use Rattle.mk_ending.specs.declared.why.Why.TheVariants.{SinkFault}
use Rattle.mk_ending.specs.declared.why.Grammar.TheVariants.{Script}
use Rattle.mk_ending.specs.Endings as endings
use Rattle.mk_top.specs.Asked.{IsUnmade}
use Rattle.mk_top.specs.Runs.{has_left}

-- the status of an ending: where a text was written whole, 6 if an attempt is left
abbrev pub status_by : Option Why → Bool → ℕ
status_by (Some why) left = endings.status_of Script why
status_by None left = if left then 6 else 0

-- the status of each ending
abbrev pub status_of : Option Why → Option History → ℕ
status_of why None = status_by why false
status_of why (Some run) = status_by why (has_left run)

-- there is a run at such an ending
abbrev pub has_run : Option Why → Bool
has_run None = true
has_run (Some SinkFault) = true
has_run _ = false

-- what was written of a text at such an ending
abbrev pub Tells : Option Why → Option (List ℕ) → Option (List ℕ) → List ℕ → Type 0
Tells None held new text = Appends held new text
Tells (Some why) held new text = AppendsPart held new text

-- why a call of a form of words wrote no whole text
abbrev pub IsOfForm : Why → Type 0
IsOfForm SinkFault = ⊤
IsOfForm why = IsUnmade why
