use Rattle.mk_replay_laws.proofs.Ready as laws
use Rattle.mk_replay_laws.proofs.lines_are_ready.Goals as goal

pub returns : goal.returns
returns c =
    laws.lines_are_ready c.cuts_are_runs.ensures.cuts_are_legal c.cuts_are_runs.ensures.cuts_have_shape c.moments_are_of_runs.ensures.moments_of_rounds
    c.moments_are_of_runs.ensures.moments_have_settings c.columns_hold.ensures.items c.bases_have_members.ensures.members c.ends_are_reached.ensures.ends_may_hand_in
    c.ends_are_reached.ensures.reached
