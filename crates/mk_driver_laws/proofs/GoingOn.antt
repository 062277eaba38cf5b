-- What was done so far goes on with each step and each round.
use Rattle.std.proofs.Common.{◌≡◌, ℕ, ◌+◌, List, [], ◌∷◌, ◌++◌, None}
use Rattle.mk_trim.specs.declared.ReplicaView.{ReplicaView}
use Rattle.mk_words.specs.declared.Step.{Step}
use Rattle.mk_script.specs.Scripts.{ScriptParts}
use Rattle.mk_model.specs.ColumnState.{Setting}
use Rattle.mk_model.specs.Conditions.{blocked}
use Rattle.mk_history.specs.Histories.{log_of}
use Rattle.mk_driver.specs.declared.Next.TheVariants.{Over}
use Rattle.mk_driver.specs.Driven.{Standing, PastRound, IsNamed, first_standing, next_at, round_ended, setting_in, standing_after, standing_begun, standing_past, standing_through}
use Rattle.mk_driver_laws.specs.Enabled.{IsDone, AreDone, HasComeAtFirst, HasComeAfterStep, HasComeAfterRound}

pub at_first : HasComeAtFirst
at_first script c views = record { past = tt; done = tt }

done_more : (script : ScriptParts) (round : Setting) (standing : Standing) (log : List Step) (step : Step) → IsDone script round standing log →
    IsNamed (next_at script round (standing_through script round standing log)) step →
    blocked round (let last = standing_through script round standing log in last.column) step ≡ None → IsDone script round standing (log ++ step ∷ [])
done_more script round standing [] step h named enabled = (named, enabled, tt)
done_more script round standing (first ∷ log) step h named enabled =
    (h.0, h.1, done_more script round (standing_after script round standing first) log step h.2 named enabled)

pub after_step : HasComeAfterStep
after_step script c rounds views log come step named enabled =
    record {
      past = come.past;
      done = done_more script (setting_in script views) (standing_past script c 0 (first_standing script c) rounds) log step come.done named enabled;
    }

are_more : (script : ScriptParts) (c number : ℕ) (standing : Standing) (rounds : List PastRound) (past : PastRound) → AreDone script c number standing rounds →
    IsDone script (setting_in script past.views) (standing_past script c number standing rounds) (log_of past.round c) →
    next_at script (setting_in script past.views) (standing_through script (setting_in script past.views) (standing_past script c number standing rounds) (log_of past.round c)) ≡ Over →
    AreDone script c number standing (rounds ++ past ∷ [])
are_more script c number standing [] past h done over = (done, over, tt)
are_more script c number standing (first ∷ rounds) past h done over =
    let round = setting_in script first.views in
    let last = standing_through script round (standing_begun script number standing) (log_of first.round c) in
    (h.0, h.1, are_more script c (number + 1) (round_ended script round first.round.globals last) rounds past h.2 done over)

pub after_round : HasComeAfterRound
after_round script c rounds past views come over =
    record { past = are_more script c 0 (first_standing script c) rounds past come.past come.done over; done = tt }
