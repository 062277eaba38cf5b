-- A validation: the checks up to the first refusal, then a release of each check that was passed, in their order.
use Rattle.std.specs.Prelude.{List, [], ◌∷◌, ◌++◌, map, Option, Some, None}
use Rattle.mk_txn.specs.declared.Conflict.{Conflict}
use Rattle.mk_txn.specs.declared.Vote.{Vote}
use Rattle.mk_txn.specs.declared.Vote.TheVariants.{Ok as VoteOk, Abort as VoteAbort}
use Rattle.mk_txn.specs.Transactions.{Transaction}
use Rattle.mk_words.specs.declared.Answer.{Answer}
use Rattle.mk_words.specs.declared.Answer.TheVariants.{Version, Okay, Refused, Done}
use Rattle.mk_words.specs.Checks.{KeyAct, checks, release_of}

-- the checks that were passed, those that are left, the first refusal, and the releases that it leaves to be done
pub record ValidationState : Type 0 where
  pub passed : List KeyAct
  pub left : List KeyAct
  pub refusal : Option Conflict
  pub releases : List KeyAct

-- a validation at its beginning
abbrev pub validation_of : Transaction → ValidationState
validation_of txn = record { passed = []; left = checks txn; refusal = None; releases = [] }

-- the first of these acts
abbrev pub first_of : List KeyAct → Option KeyAct
first_of [] = None
first_of (act ∷ acts) = Some act

-- the acts behind the first
abbrev pub rest_of : List KeyAct → List KeyAct
rest_of [] = []
rest_of (act ∷ acts) = acts

-- a check is next until one is refused, and then a release
abbrev pub next_by : ValidationState → Option Conflict → Option KeyAct
next_by state None = first_of state.left
next_by state (Some conflict) = first_of state.releases

-- the act that is next, where one is left
abbrev pub next_act : ValidationState → Option KeyAct
next_act state = next_by state state.refusal

-- a refusal ends the checks, and leaves a release of each that was passed
abbrev pub after_check : ValidationState → KeyAct → List KeyAct → Answer → ValidationState
after_check state check rest Okay = record state { passed = state.passed ++ check ∷ []; left = rest }
after_check state check rest (Refused reason stamp) =
    record state {
      left = rest;
      refusal = Some (record { key = check.0; reason = reason; stamp = stamp });
      releases = map release_of state.passed;
    }
after_check state check rest (Version version value) = state
after_check state check rest Done = state

-- the check that was next is answered
abbrev pub after_left : ValidationState → List KeyAct → Answer → ValidationState
after_left state [] answer = state
after_left state (check ∷ rest) answer = after_check state check rest answer

-- a check is answered until one is refused, and then a release
abbrev pub after_by : ValidationState → Answer → Option Conflict → ValidationState
after_by state answer None = after_left state state.left answer
after_by state answer (Some conflict) = record state { releases = rest_of state.releases }

-- the state once the next act was answered
abbrev pub after_answer : ValidationState → Answer → ValidationState
after_answer state answer = after_by state answer state.refusal

-- a refusal votes for abort, and names what refused
abbrev pub vote_by : Option Conflict → Vote
vote_by None = VoteOk
vote_by (Some conflict) = VoteAbort conflict

-- the vote of a validation to which nothing is left
abbrev pub vote_of : ValidationState → Vote
vote_of state = vote_by state.refusal

-- no vote while an act is left
abbrev pub vote_unless_left : ValidationState → Option KeyAct → Option Vote
vote_unless_left state (Some act) = None
vote_unless_left state None = Some (vote_of state)

-- the vote, which there is once nothing is left
abbrev pub vote_so_far : ValidationState → Option Vote
vote_so_far state = vote_unless_left state (next_act state)
