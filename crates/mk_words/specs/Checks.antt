-- The acts of a transaction at a replica's keys: its checks, and the acts of its end.
use Rattle.std.specs.Prelude.{ℕ, Bool, true, false, List, [], ◌++◌, map}
use Rattle.mk_txn.specs.declared.Outcome.{Outcome}
use Rattle.mk_txn.specs.declared.Outcome.TheVariants.{Commit, Abort}
use Rattle.mk_txn.specs.Transactions.{Transaction}
use Rattle.mk_words.specs.declared.Act.{Act}
use Rattle.mk_words.specs.declared.Act.TheVariants.{CheckRead, CheckWrite, CommitRead, CommitWrite, ReleaseRead, ReleaseWrite}

-- an act at a key
abbrev pub KeyAct : Type 0
KeyAct = ℕ × Act

-- the reads in order of mention, then the writes
abbrev pub checks : Transaction → List KeyAct
checks txn = map (λ item. (item.key, CheckRead txn.stamp item.version)) txn.reads ++ map (λ item. (item.key, CheckWrite txn.stamp)) txn.writes

-- each read and then each write is committed
abbrev pub commits_of : Transaction → List KeyAct
commits_of txn = map (λ item. (item.key, CommitRead txn.stamp)) txn.reads ++ map (λ item. (item.key, CommitWrite txn.stamp item.value)) txn.writes

-- each read and then each write is given up
abbrev pub releases_of : Transaction → List KeyAct
releases_of txn = map (λ item. (item.key, ReleaseRead txn.stamp)) txn.reads ++ map (λ item. (item.key, ReleaseWrite txn.stamp)) txn.writes

-- a commit is done whatever the vote was; an abort only gives up what an Ok vote holds
abbrev pub finish_acts : Transaction → Outcome → Bool → List KeyAct
finish_acts txn Commit voted_ok = commits_of txn
finish_acts txn (Abort cause) true = releases_of txn
finish_acts txn (Abort cause) false = []

-- what gives a check up again
abbrev pub release_of : KeyAct → KeyAct
release_of check = (check.0, released check.1)
  where
    released : Act → Act
    released (CheckRead ts version) = ReleaseRead ts
    released (CheckWrite ts) = ReleaseWrite ts
    released act = act
