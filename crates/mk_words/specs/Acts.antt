-- Acts and answers: which are equal, and which answers an act can get.
use Rattle.std.specs.Prelude.{Bool, true, false, not, ◌&&◌}
use Rattle.mk_txn.specs.declared.Stamp.{Stamp}
use Rattle.mk_txn.specs.declared.Reason.{Reason}
use Rattle.mk_txn.specs.declared.Reason.TheVariants.{ReadStale, ReadPending, WriteLate, WritePending}
use Rattle.mk_txn.specs.Stamps.{same_stamp}
use Rattle.mk_txn.specs.Transactions.{same_value}
use Rattle.mk_words.specs.declared.Act.{Act}
use Rattle.mk_words.specs.declared.Act.TheVariants.{Get, CheckRead, CheckWrite, CommitRead, CommitWrite, ReleaseRead, ReleaseWrite}
use Rattle.mk_words.specs.declared.Answer.{Answer}
use Rattle.mk_words.specs.declared.Answer.TheVariants.{Version, Okay, Refused, Done}

-- whether two acts are equal
abbrev pub same_act : Act → Act → Bool
same_act Get Get = true
same_act (CheckRead ts version) (CheckRead ts' version') = same_stamp ts ts' && same_stamp version version'
same_act (CheckWrite ts) (CheckWrite ts') = same_stamp ts ts'
same_act (CommitRead ts) (CommitRead ts') = same_stamp ts ts'
same_act (CommitWrite ts value) (CommitWrite ts' value') = same_stamp ts ts' && same_value value value'
same_act (ReleaseRead ts) (ReleaseRead ts') = same_stamp ts ts'
same_act (ReleaseWrite ts) (ReleaseWrite ts') = same_stamp ts ts'
same_act _ _ = false

-- a read check is refused for the first two reasons, a write check for the last two
abbrev pub refuses_read : Reason → Bool
refuses_read ReadStale = true
refuses_read ReadPending = true
refuses_read WriteLate = false
refuses_read WritePending = false

-- the answer has a kind that the act can get
abbrev pub answer_fits : Act → Answer → Bool
answer_fits Get (Version version value) = true
answer_fits (CheckRead ts version) Okay = true
answer_fits (CheckRead ts version) (Refused reason stamp) = refuses_read reason
answer_fits (CheckWrite ts) Okay = true
answer_fits (CheckWrite ts) (Refused reason stamp) = not (refuses_read reason)
answer_fits (CommitRead ts) Done = true
answer_fits (CommitWrite ts value) Done = true
answer_fits (ReleaseRead ts) Done = true
answer_fits (ReleaseWrite ts) Done = true
answer_fits _ _ = false

-- the act checks a read or a write, and may let its stamp join a list
abbrev pub is_check : Act → Bool
is_check (CheckRead ts version) = true
is_check (CheckWrite ts) = true
is_check _ = false

-- the act checks a read or a write of the transaction of this stamp
abbrev pub is_check_of : Stamp → Act → Bool
is_check_of stamp (CheckRead ts version) = same_stamp ts stamp
is_check_of stamp (CheckWrite ts) = same_stamp ts stamp
is_check_of stamp _ = false

-- the act gives up a read of this stamp
abbrev pub releases_read : Stamp → Act → Bool
releases_read stamp (ReleaseRead ts) = same_stamp stamp ts
releases_read stamp _ = false

-- the act gives up a write of this stamp
abbrev pub releases_write : Stamp → Act → Bool
releases_write stamp (ReleaseWrite ts) = same_stamp stamp ts
releases_write stamp _ = false
