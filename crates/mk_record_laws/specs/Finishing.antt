-- A commit that is final is done: once no key call is under way, each of its commits was done at the keys.
use Rattle.std.specs.Prelude.{◌≡◌, ℕ, Some}
use Rattle.mk_lists.specs.Among.{Among}
use Rattle.mk_txn.specs.declared.TxnId.{TxnId}
use Rattle.mk_txn.specs.declared.Outcome.TheVariants.{Commit}
use Rattle.mk_words.specs.declared.Answer.{Answer}
use Rattle.mk_words.specs.Checks.{KeyAct, commits_of}
use Rattle.mk_model.specs.ColumnState.Work.{Idle}
use Rattle.mk_column_laws.specs.Moments.{PastEntry}
use Rattle.mk_column_laws.specs.KeyActs.{WasDone, IsInEpoch}
use Rattle.mk_column_laws.specs.Laws.{AlwaysHolds}

-- where no key call is under way, an entry that is final with Commit has had its commits done, in the round in which it
-- became final
abbrev pub CommitsAreDone : Type 0
CommitsAreDone =
    AlwaysHolds (λ taught m. m.column.work ≡ Idle → (r : ℕ) (id : TxnId) (entry : PastEntry) (round epoch : ℕ) → m.past.entries r id ≡ Some entry →
    entry.last ≡ Some (Commit, round) → IsInEpoch m id epoch → (act : KeyAct) → Among act (commits_of entry.txn) → (answer : Answer) × WasDone m round r epoch act answer)
