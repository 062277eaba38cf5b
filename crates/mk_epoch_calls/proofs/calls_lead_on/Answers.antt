use Rattle.mk_words.specs.declared.GlobalLine.TheVariants.{Merge}
use Rattle.mk_model.specs.GlobalSteps.{nothing_handed}
use Rattle.mk_epoch_calls.proofs.calls_lead_on.Goals as goal

pub returns-clause-does : goal.returns-clause-does
returns-clause-does g c state old new handed line answer reached stand fits does =
    let k = does state stand in
    record { after = k.0; step = k.1; reached = c.promises_fit.ensures.next state handed line answer k.0 reached fits k.1; stood_for = k.2 }

pub returns-clause-merges : goal.returns-clause-merges
returns-clause-merges g c state old new epoch answer reached stand merges =
    let k = merges state stand (c.promises_fit.ensures.fit state reached epoch) in
    record { after = k.0; step = k.1; reached = c.promises_fit.ensures.next state nothing_handed (Merge epoch) answer k.0 reached tt k.1; stood_for = k.2 }
