-- The acts of a transaction by their kind.
use Rattle.std.specs.Prelude.{List}
use Rattle.mk_txn.specs.declared.Stamp.{Stamp}
use Rattle.mk_txn.specs.declared.ReadItem.{ReadItem}
use Rattle.mk_txn.specs.declared.WriteItem.{WriteItem}
use Rattle.mk_txn.specs.Transactions.{Transaction}
use Rattle.mk_words.specs.declared.Act.{Act}
use Rattle.mk_words.specs.declared.Act.TheVariants.{CheckRead, CheckWrite, CommitRead, CommitWrite, ReleaseRead, ReleaseWrite}
use Rattle.mk_valid.specs.declared.acts.Kind.{Kind}
use Rattle.mk_valid.specs.declared.acts.Kind.TheVariants.{Check, Commit, Release}
use Rattle.mk_words.specs.Checks.{KeyAct, checks, commits_of, releases_of}

-- what is done at a key that was read
abbrev pub read_act_of : Kind → Stamp → ReadItem → Act
read_act_of Check ts item = CheckRead ts item.version
read_act_of Commit ts item = CommitRead ts
read_act_of Release ts item = ReleaseRead ts

-- what is done at a key that is written
abbrev pub write_act_of : Kind → Stamp → WriteItem → Act
write_act_of Check ts item = CheckWrite ts
write_act_of Commit ts item = CommitWrite ts item.value
write_act_of Release ts item = ReleaseWrite ts

-- all acts of this kind
abbrev pub acts_of_kind : Kind → Transaction → List KeyAct
acts_of_kind Check txn = checks txn
acts_of_kind Commit txn = commits_of txn
acts_of_kind Release txn = releases_of txn
