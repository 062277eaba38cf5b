-- A key call is named only where it is wanted, and tasks and parts name none.
use Rattle.std.proofs.Common.{◌≡◌, ◌∙◌, refl, sym, ap, List, [], ◌∷◌, Option, Some, None}
use Rattle.mk_faults.specs.Fates.{RuleLines}
use Rattle.mk_words.specs.declared.KeyCall.{KeyCall}
use Rattle.mk_model.specs.ColumnState.{Setting, ColumnState}
use Rattle.mk_model.specs.Conditions.{wanted}
use Rattle.mk_driver.specs.declared.Next.{Next}
use Rattle.mk_driver.specs.declared.Next.TheVariants.{Step as StepNext, Key as KeyNext, Over}
use Rattle.mk_driver.specs.declared.DriverState.{DriverState}
use Rattle.mk_driver.specs.declared.Part.{Part}
use Rattle.mk_driver.specs.declared.Task.{Task}
use Rattle.mk_driver.specs.Agenda.{Worked}
use Rattle.mk_driver.specs.Agenda.Worked.{Quiet, Names}
use Rattle.mk_driver.specs.Passing.{named_call}
use Rattle.mk_driver.specs.Turns.{Choice, choice, in_agenda, in_parts, or_next, tasks_of, unless_wanted, with_agenda, with_part, work_on}

module _ (rules : RuleLines) (round : Setting) (c : ColumnState) where
  -- what is named is no key call
  abbrev NamesNone : Choice → Type 0
  NamesNone chosen = named_call chosen.next ≡ None

  agenda_none : (end : DriverState → Choice) → ((d : DriverState) → NamesNone (end d)) → (tasks : List Task) (d : DriverState) → NamesNone (in_agenda rules round c end tasks d)
  agenda_none end h [] d = h (with_agenda [] d)
  agenda_none end h (task ∷ tasks) d = by (λ e. agenda_none end h tasks e) (work_on rules round c task (with_agenda tasks d))
    where
      by : ((e : DriverState) → NamesNone (in_agenda rules round c end tasks e)) → (worked : Worked) → NamesNone (or_next worked (in_agenda rules round c end tasks))
      by rest (Quiet e) = rest e
      by rest (Names step after e) = refl

  parts_none : (parts : List Part) (d : DriverState) → NamesNone (in_parts rules round c parts d)
  parts_none [] d = refl
  parts_none (part ∷ parts) d = agenda_none (in_parts rules round c parts) (parts_none parts) (tasks_of c d part) (with_part c part parts d)

  -- the key call that is named is the wanted one
  pub names_wanted : (d : DriverState) → (let chosen = choice rules round c d in named_call chosen.next) ≡ wanted c.work
  names_wanted d = by (wanted c.work)
    where
      by : (call : Option KeyCall) → (let chosen = unless_wanted rules round c call d in named_call chosen.next) ≡ call
      by (Some call) = refl
      by None = agenda_none (in_parts rules round c d.parts) (parts_none d.parts) d.agenda d

  pub named_wanted : (d : DriverState) (call : KeyCall) → (let chosen = choice rules round c d in chosen.next) ≡ KeyNext call → wanted c.work ≡ Some call
  named_wanted d call e = sym (names_wanted d) ∙ ap named_call e

  pub over_unwanted : (d : DriverState) → (let chosen = choice rules round c d in chosen.next) ≡ Over → wanted c.work ≡ None
  over_unwanted d e = sym (names_wanted d) ∙ ap named_call e
