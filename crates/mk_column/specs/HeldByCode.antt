-- What the code keeps of a replica and of key calls, as the definitions say it.
use Rattle.std.specs.Prelude.{Bool, true, false, List, [], ◌∷◌, Option, Some, None}
use Rattle.mk_txn.specs.declared.Outcome.{Outcome}
use Rattle.mk_txn.specs.declared.Vote.{Vote}
use Rattle.mk_words.specs.declared.Entry.{Entry}
use Rattle.mk_record.specs.declared.RecordError.{RecordError}
use Rattle.mk_record.specs.declared.RecordError.TheVariants.{Finished, OldView}
use Rattle.mk_words.specs.declared.Told.{Told}
use Rattle.mk_words.specs.declared.Msg.{Msg}
use Rattle.mk_words.specs.declared.Body.{Body}
use Rattle.mk_words.specs.declared.Body.TheVariants.{Validate as ValidateBody, Voted, Accept, Accepted as AcceptedBody, Decide, Ask, Told as ToldBody, Moved as MovedBody}
use Rattle.mk_column.specs.declared.work.Work.{Work as KeptWork}
use Rattle.mk_column.specs.declared.work.Work.TheVariants.{Idle as KeptIdle, Fetching as KeptFetching, Validating as KeptValidating, Finishing as KeptFinishing}
use Rattle.mk_model.specs.ColumnState.{Work}
use Rattle.mk_model.specs.ColumnState.Work.{Idle, Fetching, Validating, Finishing}
use Rattle.mk_model.specs.Replicas.{Held, Reaction, reply, ignored, answering, told_of}

-- the key calls under way
abbrev pub work_of : KeptWork → Work
work_of KeptIdle = Idle
work_of (KeptFetching id replica key) = Fetching id replica key
work_of (KeptValidating txn replica epoch state) = Validating txn replica epoch state
work_of (KeptFinishing replica left) = Finishing replica left

-- the answer that is sent, where there is one
abbrev pub sent_of : Msg → Option Body → List Msg
sent_of msg None = []
sent_of msg (Some body) = reply msg body ∷ []

-- a replica that then holds this, answers so, and begins these key calls
abbrev pub reaction_with : Held → Msg → Option Body → KeptWork → Reaction
reaction_with held msg answer work = record { held = held; sent = sent_of msg answer; work = work_of work }

-- a final entry answers what it tells, and a higher view ignores the message
abbrev pub refused_with : Held → Msg → Told → RecordError → Reaction
refused_with held msg told (Finished outcome) = answering held msg (ToldBody told)
refused_with held msg told (OldView view) = ignored held

-- what an entry answers to a Validate: what it has where it is final, else its vote
abbrev pub answer_to_validate : Entry → Option Outcome → Option Vote → Option Body
answer_to_validate entry (Some outcome) vote = Some (ToldBody (told_of entry))
answer_to_validate entry None (Some vote) = Some (Voted vote)
answer_to_validate entry None None = None

-- the outcome is decided
abbrev pub is_decide : Body → Bool
is_decide (Decide outcome) = true
is_decide (ValidateBody mark) = false
is_decide (Voted vote) = false
is_decide (Accept outcome) = false
is_decide AcceptedBody = false
is_decide Ask = false
is_decide (ToldBody told) = false
is_decide (MovedBody moved) = false
