-- What was learned first of each attempt, as it is kept while learnings come.
use Rattle.std.specs.Prelude.{◌≡◌, ℕ, Bool, List, [], ◌∷◌, ◌++◌, Option, Some, None, find, option_map}
use Rattle.std.specs.Option.{option_or}
use Rattle.mk_lists.specs.Changed.{change}
use Rattle.mk_txn.specs.declared.TxnId.{TxnId}
use Rattle.mk_txn.specs.declared.Outcome.{Outcome}
use Rattle.mk_txn.specs.Transactions.{same_id}
use Rattle.mk_history.specs.declared.Path.{Path}
use Rattle.mk_history.specs.declared.Path.TheVariants.{Epoch}
use Rattle.mk_model.specs.ColumnState.{Learning}
use Rattle.mk_history.specs.Learning.{Found, first_path, path_of}
use Rattle.mk_run.specs.declared.firsts.FirstLearning.{FirstLearning}

-- the attempt that it is of
abbrev pub first_id : FirstLearning → TxnId
first_id first = first.id

-- it is of this attempt
abbrev pub is_first_of : TxnId → FirstLearning → Bool
is_first_of id first = same_id first.id id

-- that of this attempt
abbrev pub first_in : TxnId → List FirstLearning → Option FirstLearning
first_in id firsts = find (is_first_of id) firsts

-- that of this attempt is changed, and no other
abbrev pub change_first : TxnId → (FirstLearning → FirstLearning) → List FirstLearning → List FirstLearning
change_first id f firsts = change (is_first_of id) f firsts

-- the first path that is named stays
abbrev pub with_path : Option Path → FirstLearning → FirstLearning
with_path path first = record first { path = option_or first.path path }

-- a learning of an attempt of which this was learned before, or nothing
abbrev pub noted_after : FirstLearning → List FirstLearning → Option FirstLearning → List FirstLearning
noted_after learning firsts None = firsts ++ learning ∷ []
noted_after learning firsts (Some first) = change_first learning.id (with_path learning.path) firsts

-- one more learning
abbrev pub noted : FirstLearning → List FirstLearning → List FirstLearning
noted learning firsts = noted_after learning firsts (first_in learning.id firsts)

-- more learnings, in order
abbrev pub all_noted : List FirstLearning → List FirstLearning → List FirstLearning
all_noted [] firsts = firsts
all_noted (learning ∷ learnings) firsts = all_noted learnings (noted learning firsts)

-- what is kept of what was found
abbrev pub kept_of_found : Found → FirstLearning
kept_of_found f = record { id = f.id; outcome = f.outcome; path = f.own_path }

-- what is kept of what was learned in a column
abbrev pub kept_of_learning : Learning → FirstLearning
kept_of_learning l = record { id = l.id; outcome = l.outcome; path = path_of l.way }

-- what is kept of what the Enter of an epoch tells of an attempt
abbrev pub kept_by_enter : ℕ → TxnId × Outcome → FirstLearning
kept_by_enter epoch fate = record { id = fate.0; outcome = fate.1; path = Some (Epoch epoch) }

-- the outcome of this attempt that was found first, and the first path that is named
abbrev pub first_found : TxnId → List Found → Option FirstLearning
first_found id all = option_map (λ f. record { id = f.id; outcome = f.outcome; path = first_path id all }) (find (λ f. same_id f.id id) all)

-- this is kept of all that was found
abbrev pub StandsForFound : List FirstLearning → List Found → Type 0
StandsForFound firsts all = (id : TxnId) → first_in id firsts ≡ first_found id all
