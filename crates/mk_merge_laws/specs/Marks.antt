-- The marks that a base has.
use Rattle.std.specs.Prelude.{◌≡◌, ◌≤◌, ℕ, List, ◌∷◌, map}
use Rattle.mk_lists.specs.Among.{Among, Each}
use Rattle.mk_txn.specs.MarkMaps.{MarkMap, IsMarkMap, mark_of}
use Rattle.mk_words.specs.Promises.{PromiseState, base_of}
use Rattle.mk_words.specs.Merging.{merged_marks}

-- the marks of the base of these promises, and those that they hand in
abbrev pub mark_sources : List PromiseState → List MarkMap
mark_sources promises = (base_of promises).marks ∷ map (λ p. p.marks) promises

-- the mark of a client is the greatest of its sources: none has a greater one, and one of them has it
abbrev pub MarksAreGreatest : List PromiseState → Type 0
MarksAreGreatest promises =
    Each IsMarkMap (mark_sources promises) → (client : ℕ) →
    Each (λ marks. mark_of marks client ≤ mark_of (merged_marks promises) client) (mark_sources promises)
    × ((marks : MarkMap) × Among marks (mark_sources promises) × (mark_of marks client ≡ mark_of (merged_marks promises) client))
