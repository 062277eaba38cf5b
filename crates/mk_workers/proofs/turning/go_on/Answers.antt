use Rattle.std.proofs.Common.{◌≡◌, ◌∙◌, None, refl, sym, ap, subst}
use Rattle.mk_words.specs.declared.Step.TheVariants.{Key}
use Rattle.mk_model.specs.Conditions.{wanted}
use Rattle.mk_driver.specs.Driven.{IsNamed}
use Rattle.mk_driver.specs.Passing.{IfOver, named_call}
use Rattle.mk_driver.specs.Standings.{StandsAlike}
use Rattle.mk_workers.specs.Going.{NamesNothing}
use Rattle.mk_workers.specs.Seating.{locks_of}
use Rattle.mk_workers.proofs.SeatSteps.{seats_stepped}
use Rattle.mk_workers.proofs.Steppings.{call_there, elsewhere, faults_are, is_over, of_script_more, of_script_over, stepped_as}
use Rattle.mk_workers.proofs.turning.go_on.Goals as goal

pub next-requires : goal.next-requires
next-requires g c = faults_are _ _ _ _ _ c.requires.script

pub returns-in_ok-take_step-in-Step-clause-turned : goal.returns-in_ok-take_step-in-Step-clause-turned
returns-in_ok-take_step-in-Step-clause-turned g c =
    let was = c.args.worker.now in
    let named = c.in_ok-next.ensures in
    stepped_as c.args.shared.now.rules.now was.driver c.next.new.self was.column c.take_step.new.column c.stands_after_step.ensures c.in_ok-next.next c.in-Step.step named.named c.next.ensures.rest
    (λ script rounds views rules_are stands. named.turn script rounds views was.column.log rules_are stands) (subst (λ n. IsNamed n c.in-Step.step) (sym c.in-Step.is) refl) c.in_ok-take_step-in-Step.ensures.done

pub returns-in_ok-take_step-in-Step-clause-script : goal.returns-in_ok-take_step-in-Step-clause-script
returns-in_ok-take_step-in-Step-clause-script g c =
    let was = c.args.worker.now in
    let shared = c.args.shared.now in
    let named = c.in_ok-next.ensures in
    of_script_more shared.rules.now was.driver c.next.new.self was.column c.take_step.new.column c.has_come_after_step.ensures shared.replicas shared.keys c.requires.script
    (stepped_as shared.rules.now was.driver c.next.new.self was.column c.take_step.new.column c.stands_after_step.ensures c.in_ok-next.next c.in-Step.step named.named c.next.ensures.rest
    (λ script rounds views rules_are stands. named.turn script rounds views was.column.log rules_are stands) (subst (λ n. IsNamed n c.in-Step.step) (sym c.in-Step.is) refl) c.in_ok-take_step-in-Step.ensures.done)

pub returns-in_ok-take_step-in-Step-clause-seats : goal.returns-in_ok-take_step-in-Step-clause-seats
returns-in_ok-take_step-in-Step-clause-seats g c =
    let was = c.args.worker.now in
    let done = c.in_ok-take_step-in-Step.ensures.done in
    let none : wanted was.column.state.work ≡ None = sym c.in_ok-next.ensures.key ∙ ap named_call c.in-Step.is in
    seats_stepped (locks_of c.args.shared.now.locks.now) was.column c.take_step.new.column c.in-Step.step was.seats.items (elsewhere was.column.setting was.column.state c.in-Step.step none done.enabled)
    done c.requires.seats

pub key_step-requires-clause-there : goal.key_step-requires-clause-there
key_step-requires-clause-there g c =
    let was = c.args.worker.now in
    let shared = c.args.shared.now in
    call_there c.wanted_is_there.ensures shared.rules.now shared.replicas shared.keys was.driver was.column c.requires.script c.in-Key.call
    (sym c.in_ok-next.ensures.key ∙ ap named_call c.in-Key.is)

pub returns-in_ok-key_step-in-Key-clause-turned : goal.returns-in_ok-key_step-in-Key-clause-turned
returns-in_ok-key_step-in-Key-clause-turned g c =
    let was = c.args.worker.now in
    let named = c.in_ok-next.ensures in
    let done = c.in_ok-key_step-in-Key.ensures.done in
    stepped_as c.args.shared.now.rules.now was.driver c.next.new.self was.column c.key_step.new.column c.stands_after_step-in-Key.ensures c.in_ok-next.next (Key c.in-Key.call done.0) named.named c.next.ensures.rest
    (λ script rounds views rules_are stands. named.turn script rounds views was.column.log rules_are stands) (subst (λ n. IsNamed n (Key c.in-Key.call done.0)) (sym c.in-Key.is) refl) done.1

pub returns-in_ok-key_step-in-Key-clause-script : goal.returns-in_ok-key_step-in-Key-clause-script
returns-in_ok-key_step-in-Key-clause-script g c =
    let was = c.args.worker.now in
    let shared = c.args.shared.now in
    let named = c.in_ok-next.ensures in
    let done = c.in_ok-key_step-in-Key.ensures.done in
    of_script_more shared.rules.now was.driver c.next.new.self was.column c.key_step.new.column c.has_come_after_step-in-Key.ensures shared.replicas shared.keys c.requires.script
    (stepped_as shared.rules.now was.driver c.next.new.self was.column c.key_step.new.column c.stands_after_step-in-Key.ensures c.in_ok-next.next (Key c.in-Key.call done.0) named.named c.next.ensures.rest
    (λ script rounds views rules_are stands. named.turn script rounds views was.column.log rules_are stands) (subst (λ n. IsNamed n (Key c.in-Key.call done.0)) (sym c.in-Key.is) refl) done.1)

pub returns-in-Over-clause-turned : goal.returns-in-Over-clause-turned
returns-in-Over-clause-turned g c =
    let was = c.args.worker.now in
    let shared = c.args.shared.now in
    let rules = shared.rules.now in
    let named = c.in_ok-next.ensures in
    let again = subst (λ n. IfOver n (NamesNothing rules c.next.new.self was.column)) c.in-Over.is named.over in
    let alike = subst (λ n. IfOver n (StandsAlike rules was.driver c.next.new.self was.column)) c.in-Over.is named.over_stands in (
      refl,
      is_over rules shared.replicas shared.keys was.driver c.next.new.self was.column c.round_ends_idle.ensures c.requires.script c.next.ensures.rest again
          (λ script rounds views rules_are stands. sym c.in-Over.is ∙ named.turn script rounds views was.column.log rules_are stands) alike,
    )

pub returns-in-Over-clause-script : goal.returns-in-Over-clause-script
returns-in-Over-clause-script g c =
    let was = c.args.worker.now in
    let shared = c.args.shared.now in
    let rules = shared.rules.now in
    let named = c.in_ok-next.ensures in
    let again = subst (λ n. IfOver n (NamesNothing rules c.next.new.self was.column)) c.in-Over.is named.over in
    let alike = subst (λ n. IfOver n (StandsAlike rules was.driver c.next.new.self was.column)) c.in-Over.is named.over_stands in
    of_script_over rules shared.replicas shared.keys was.driver c.next.new.self was.column c.requires.script
    (is_over rules shared.replicas shared.keys was.driver c.next.new.self was.column c.round_ends_idle.ensures c.requires.script c.next.ensures.rest again
    (λ script rounds views rules_are stands. sym c.in-Over.is ∙ named.turn script rounds views was.column.log rules_are stands) alike)
