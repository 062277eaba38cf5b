-- What epoch words read behind a run, and how often they failed in it.
use Rattle.std.specs.Prelude.{◌≡◌, ◌<◌, ◌≤◌, ℕ, ◌+◌, Bool, true, false, ◌&&◌, List, Some, slice_get, option_map, unwrap_or, sum_by, count_by}
use Rattle.mk_io.specs.Faults.{last_count}
use Rattle.mk_words.specs.declared.GlobalAnswer.{GlobalAnswer}
use Rattle.mk_words.specs.declared.GlobalAnswer.TheVariants.{WordFault}
use Rattle.mk_words.specs.declared.GlobalEntry.{GlobalEntry}
use Rattle.mk_model.specs.EpochState.{EpochState, ReplicaState}
use Rattle.mk_history.specs.declared.RoundLog.{RoundLog}
use Rattle.mk_state.specs.Words.{writes_word_of}

-- the word of this replica, and 0 where there is no such replica
abbrev pub word_of : EpochState → ℕ → ℕ
word_of state r = unwrap_or (option_map (λ (replica : ReplicaState). replica.word) (slice_get state.replicas r)) 0

-- each word reads what the replica of its number has, and 0 where there is no such replica
abbrev pub WordsRead : {W : Type 0} → (kept : W → ℕ) → EpochState → List W → Type 0
WordsRead {W = W} kept state words = (r : ℕ) (word : W) → slice_get words r ≡ Some word → kept word ≡ word_of state r

-- a word failed
abbrev pub is_fault : GlobalAnswer → Bool
is_fault WordFault = true
is_fault _ = false

-- this replica's word failed at the line
abbrev pub failed_at : ℕ → GlobalEntry → Bool
failed_at r entry = is_fault entry.answer && writes_word_of entry.line r

-- how often it failed at these lines
abbrev pub faults_in : ℕ → List GlobalEntry → ℕ
faults_in r entries = count_by (failed_at r) entries

-- and in these rounds
abbrev pub word_faults : ℕ → List RoundLog → ℕ
word_faults r rounds = sum_by (λ (round : RoundLog). faults_in r round.globals) rounds

-- Each word that ends below the last value of its count was so often found failing at most as its count rose.
abbrev pub FaultsAreCounted : {W : Type 0} → (faults : W → ℕ) → (old new : List W) → (failed : ℕ → ℕ) → Type 0
FaultsAreCounted {W = W} faults old new failed =
    (r : ℕ) (before after : W) → slice_get old r ≡ Some before → slice_get new r ≡ Some after → faults after < last_count → faults before + failed r ≤ faults after
