-- What words read behind a global line, and how often they failed.
use Rattle.std.proofs.Common.{◌≡◌, ◌∙◌, ◌<◌, ◌≤◌, ◌+◌, ◌==◌, ℕ, zero, suc, Bool, true, false, cond, ◌&&◌, refl, sym, ap, subst, arith, inl, inr, List, [], ◌∷◌, length, replicate, Option, Some}
use Rattle.std.specs.Prelude.{slice_get, slice_set, unwrap_or, option_map}
use Rattle.std.proofs.lemmas.Bool.{cases_eq}
use Rattle.std.proofs.lemmas.Bool.Decides.{nat_tests}
use Rattle.std.proofs.lemmas.Option.{same_Some, none-some, slice_get_within}
use Rattle.mk_lists.specs.Among.{Each}
use Rattle.mk_lists.proofs.Places.{slice_get-set_same, slice_get-set_other}
use Rattle.mk_words.specs.Bases.{BaseState}
use Rattle.mk_words.specs.Promises.{leader_of}
use Rattle.mk_words.specs.declared.GlobalAnswer.{GlobalAnswer}
use Rattle.mk_words.specs.declared.GlobalAnswer.TheVariants.{Ok as Done, Counts, Entered, Unasked, Unmade, Lacking, Old, WordFault, Short}
use Rattle.mk_words.specs.declared.GlobalEntry.{GlobalEntry}
use Rattle.mk_words.specs.declared.GlobalLine.{GlobalLine}
use Rattle.mk_words.specs.declared.GlobalLine.TheVariants.{Wipe, Ask, Promise, Merge, Adopt, Enter}
use Rattle.mk_io.specs.Faults.{last_count, HasRisen}
use Rattle.mk_model.specs.EpochState.{EpochState, ReplicaState, first_replica, first_epochs}
use Rattle.mk_epoch.specs.declared.replica.Replica.{Replica}
use Rattle.mk_epoch.specs.Standing.{ReplicasView, AllStand, StandsFor, word_at}
use Rattle.mk_state.specs.Words.{IsWordFor, IsWordAfter, HasFaulted, KeepsWords, writes_word_of}
use Rattle.mk_store.specs.Words.{word_of, WordsRead, FaultsAreCounted, is_fault, failed_at, faults_in}
use Rattle.mk_store.specs.Globals.{word_place}

-- ---- words and states

each-word : {B : Type 0} (stands : B → BaseState → Type 0) (replicas : List (Replica B)) (states : List ReplicaState) (r : ℕ) → AllStand stands replicas states →
    word_at replicas r ≡ unwrap_or (option_map (λ (state : ReplicaState). state.word) (slice_get states r)) 0
each-word stands [] [] r h = refl
each-word stands [] (state ∷ states) r h = absurd h
each-word stands (replica ∷ replicas) [] r h = absurd h
each-word stands (replica ∷ replicas) (state ∷ states) zero h = h.0.word
each-word stands (replica ∷ replicas) (state ∷ states) (suc r) h = each-word stands replicas states r h.1

-- what is kept has the words of the state that it stands for
pub same-word : {B : Type 0} (stands : B → BaseState → Type 0) (epochs : ReplicasView B) (state : EpochState) (r : ℕ) → StandsFor stands epochs state →
    word_at epochs.replicas r ≡ word_of state r
same-word stands epochs state r h = each-word stands epochs.replicas state.replicas r h.replicas

no-word : (n r : ℕ) → unwrap_or (option_map (λ (state : ReplicaState). state.word) (slice_get (replicate n first_replica) r)) 0 ≡ 0
no-word zero r = refl
no-word (suc n) zero = refl
no-word (suc n) (suc r) = no-word n r

each-at : {W : Type 0} (P : W → Type 0) (words : List W) (r : ℕ) (word : W) → Each P words → slice_get words r ≡ Some word → P word
each-at P [] r word h e = absurd (none-some word e)
each-at P (x ∷ xs) zero word h e = subst P (same_Some x word e) h.0
each-at P (x ∷ xs) (suc r) word h e = each-at P xs r word h.1 e

-- words that read 0 read what the replicas have at first
pub words-first : {W : Type 0} (kept : W → ℕ) (f : ℕ) (words : List W) → Each (λ word. kept word ≡ 0) words → WordsRead kept (first_epochs f) words
words-first kept f words h r word e = each-at (λ w. kept w ≡ 0) words r word h e ∙ sym (no-word _ r)

-- ---- the word that goes with a line

-- it reads what its replica has
pub word-for : {B : Type 0} (stands : B → BaseState → Type 0) (line : GlobalLine) (epochs : ReplicasView B) (state : EpochState) (f number : ℕ) → StandsFor stands epochs state →
    f ≡ epochs.faults → number ≡ word_of state (word_place f line) → IsWordFor line epochs number
word-for stands (Promise epoch r) epochs state f number h size e = e ∙ sym (same-word stands epochs state r h)
word-for stands (Adopt epoch r) epochs state f number h size e = e ∙ sym (same-word stands epochs state r h)
word-for stands (Merge epoch) epochs state f number h size e =
    e ∙ sym (same-word stands epochs state (leader_of f epoch) h) ∙ ap (λ (n : ℕ). word_at epochs.replicas (leader_of n epoch)) size
word-for stands (Wipe r) epochs state f number h size e = tt
word-for stands (Ask epoch) epochs state f number h size e = tt
word-for stands (Enter epoch) epochs state f number h size e = tt

eq-same : (a b : ℕ) → (a == b) ≡ true → b ≡ a
eq-same a b e = grind (arith, nat_tests)

-- the line writes no word but that which goes with it
writes-its : (line : GlobalLine) (f r : ℕ) → writes_word_of line r ≡ true → r ≡ word_place f line
writes-its (Promise epoch replica) f r e = eq-same replica r e
writes-its (Adopt epoch replica) f r e = eq-same replica r e
writes-its (Merge epoch) f r e = absurd cc
writes-its (Wipe replica) f r e = absurd cc
writes-its (Ask epoch) f r e = absurd cc
writes-its (Enter epoch) f r e = absurd cc

module _ {B W : Type 0} (stands : B → BaseState → Type 0) (kept : W → ℕ) (sets : W → Option ℕ) (faults : W → ℕ) (line : GlobalLine) (answer : GlobalAnswer) (f : ℕ)
    (epochs new_epochs : ReplicasView B) (state next : EpochState) (words : List W) (old new : W) where
  -- a word of another replica, or of one that the line does not write, reads the same
  stays : (r : ℕ) → StandsFor stands epochs state → StandsFor stands new_epochs next → KeepsWords line epochs new_epochs → writes_word_of line r ≡ false → word_of state r ≡ word_of next r
  stays r h k keeps unwritten = sym (same-word stands epochs state r h) ∙ sym (keeps r unwritten) ∙ same-word stands new_epochs next r k

  other : (r : ℕ) (word : W) → StandsFor stands epochs state → StandsFor stands new_epochs next → KeepsWords line epochs new_epochs → kept word ≡ word_of state r →
      (r ≡ word_place f line → ⊥) → kept word ≡ word_of next r
  other r word h k keeps e ne = e ∙ stays r h k keeps (not_written (writes_word_of line r) refl)
    where
      not_written : (b : Bool) → writes_word_of line r ≡ b → writes_word_of line r ≡ false
      not_written true is = absurd (ne (writes-its line f r is))
      not_written false is = is

  its : StandsFor stands epochs state → StandsFor stands new_epochs next → KeepsWords line epochs new_epochs → IsWordFor line new_epochs (kept new) →
      IsWordAfter kept sets faults line answer old new → kept old ≡ word_of state (word_place f line) → kept new ≡ word_of next (word_place f line)
  its h k keeps reads after e = by line refl
    where
      kept_on : (l : GlobalLine) → line ≡ l → writes_word_of l (word_place f l) ≡ false → new ≡ old → kept new ≡ word_of next (word_place f line)
      kept_on l is unwritten same =
          ap kept same ∙ e ∙ stays (word_place f line) h k keeps (subst (λ (x : GlobalLine). writes_word_of x (word_place f x) ≡ false) (sym is) unwritten)

      by : (l : GlobalLine) → line ≡ l → kept new ≡ word_of next (word_place f line)
      by (Promise epoch r) is =
          subst (λ (x : GlobalLine). kept new ≡ word_of next (word_place f x)) (sym is)
          ((let read : IsWordFor (Promise epoch r) new_epochs (kept new) = subst (λ (x : GlobalLine). IsWordFor x new_epochs (kept new)) is reads in read) ∙ same-word stands new_epochs next r k)
      by (Adopt epoch r) is =
          subst (λ (x : GlobalLine). kept new ≡ word_of next (word_place f x)) (sym is)
          ((let read : IsWordFor (Adopt epoch r) new_epochs (kept new) = subst (λ (x : GlobalLine). IsWordFor x new_epochs (kept new)) is reads in read) ∙ same-word stands new_epochs next r k)
      by (Merge epoch) is = kept_on (Merge epoch) is refl (subst (λ (x : GlobalLine). IsWordAfter kept sets faults x answer old new) is after)
      by (Wipe r) is = kept_on (Wipe r) is refl (subst (λ (x : GlobalLine). IsWordAfter kept sets faults x answer old new) is after)
      by (Ask epoch) is = kept_on (Ask epoch) is refl (subst (λ (x : GlobalLine). IsWordAfter kept sets faults x answer old new) is after)
      by (Enter epoch) is = kept_on (Enter epoch) is refl (subst (λ (x : GlobalLine). IsWordAfter kept sets faults x answer old new) is after)

  -- behind the line each word reads what its replica has
  pub words-after : StandsFor stands epochs state → StandsFor stands new_epochs next → KeepsWords line epochs new_epochs → IsWordFor line new_epochs (kept new) →
      IsWordAfter kept sets faults line answer old new → slice_get words (word_place f line) ≡ Some old → WordsRead kept state words →
      WordsRead kept next (slice_set words (word_place f line) new)
  words-after h k keeps reads after at read r word e = elim (cases_eq r (word_place f line)) [
    | inl same ↦
        let place = word_place f line in
        let there : slice_get (slice_set words place new) place ≡ Some word = subst (λ (n : ℕ). slice_get (slice_set words place new) n ≡ Some word) same e in
        let is : new ≡ word = same_Some new word (sym (slice_get-set_same words place new (slice_get_within words place old at)) ∙ there) in
        subst (λ (n : ℕ). kept word ≡ word_of next n) (sym same) (sym (ap kept is) ∙ its h k keeps reads after (read place old at))
    | inr apart ↦
        let there : slice_get words r ≡ Some word = sym (slice_get-set_other words (word_place f line) r new apart) ∙ e in
        other r word h k keeps (read r word there) apart
  ]

-- ---- how often words failed

abbrev pub one-line : GlobalLine → GlobalAnswer → GlobalEntry
one-line line answer = record { line = line; answer = answer }

-- a count that rose, or stayed where nothing failed
risen : (before after : ℕ) → HasRisen before after → after < last_count → before + 1 ≤ after
risen before after h below = omega (arith, h, below)

-- at the word that goes with the line
counted-its : (line : GlobalLine) (answer : GlobalAnswer) (r before after : ℕ) → HasFaulted answer before after → after < last_count →
    before + faults_in r (one-line line answer ∷ []) ≤ after
counted-its line answer r before after h below = by answer h
  where
    no_fault : (a : GlobalAnswer) → is_fault a ≡ false → after ≡ before → before + faults_in r (one-line line a ∷ []) ≤ after
    no_fault a sound same =
        let none : failed_at r (one-line line a) ≡ false = ap (λ (b : Bool). b && writes_word_of line r) sound in
        let count : faults_in r (one-line line a ∷ []) ≡ 0 = ap (λ (b : Bool). 0 + cond b 1 0) none in
        omega (arith, same, count)

    fault : (b : Bool) → before + 1 ≤ after → before + (0 + cond b 1 0) ≤ after
    fault true k = omega (arith, k)
    fault false k = omega (arith, k)

    by : (a : GlobalAnswer) → HasFaulted a before after → before + faults_in r (one-line line a ∷ []) ≤ after
    by WordFault k = fault (writes_word_of line r) (risen before after k below)
    by Done k = no_fault Done refl k
    by (Counts commits aborts) k = no_fault (Counts commits aborts) refl k
    by (Entered n) k = no_fault (Entered n) refl k
    by Unasked k = no_fault Unasked refl k
    by Unmade k = no_fault Unmade refl k
    by Lacking k = no_fault Lacking refl k
    by (Old word) k = no_fault (Old word) refl k
    by (Short n) k = no_fault (Short n) refl k

-- at another's it fails not at all
counted-other : (line : GlobalLine) (answer : GlobalAnswer) (f r : ℕ) → (r ≡ word_place f line → ⊥) → faults_in r (one-line line answer ∷ []) ≡ 0
counted-other line answer f r ne = ap (λ (b : Bool). 0 + cond b 1 0) (by (writes_word_of line r) refl (is_fault answer))
  where
    by : (b : Bool) → writes_word_of line r ≡ b → (a : Bool) → (a && writes_word_of line r) ≡ false
    by true is a = absurd (ne (writes-its line f r is))
    by false is true = is
    by false is false = refl

-- behind the line
pub counted-after : {W : Type 0} (faults : W → ℕ) (line : GlobalLine) (answer : GlobalAnswer) (f : ℕ) (words : List W) (old new : W) →
    HasFaulted answer (faults old) (faults new) → slice_get words (word_place f line) ≡ Some old →
    FaultsAreCounted faults words (slice_set words (word_place f line) new) (λ r. faults_in r (one-line line answer ∷ []))
counted-after {W = W} faults line answer f words old new h at r before after was is below = elim (cases_eq r (word_place f line)) [
  | inl same ↦
      let place = word_place f line in
      let new_is : new ≡ after = same_Some new after (sym (slice_get-set_same words place new (slice_get_within words place old at))
      ∙ subst (λ (n : ℕ). slice_get (slice_set words place new) n ≡ Some after) same is) in
      let old_is : old ≡ before = same_Some old before (sym at ∙ subst (λ (n : ℕ). slice_get words n ≡ Some before) same was) in
      let here = subst (λ (w : W). HasFaulted answer (faults w) (faults after)) old_is (subst (λ (w : W). HasFaulted answer (faults old) (faults w)) new_is h) in
      counted-its line answer r (faults before) (faults after) here below
  | inr apart ↦
      let same : before ≡ after = same_Some before after (sym was ∙ sym (slice_get-set_other words (word_place f line) r new apart) ∙ is) in
      let none = counted-other line answer f r apart in
      let count : faults before ≡ faults after = ap faults same in
      omega (arith, none, count)
]

-- nothing failed yet
pub counted-none : {W : Type 0} (faults : W → ℕ) (words : List W) (failed : ℕ → ℕ) → ((r : ℕ) → failed r ≡ 0) → FaultsAreCounted faults words words failed
counted-none faults words failed none r before after was is below =
    let same : before ≡ after = same_Some before after (sym was ∙ is) in
    let count : faults before ≡ faults after = ap faults same in
    let zero_is = none r in
    omega (arith, count, zero_is)

some-at : {W : Type 0} (words : List W) (r : ℕ) → r < length words → (word : W) × (slice_get words r ≡ Some word)
some-at [] r h = absurd (omega (arith, h))
some-at (x ∷ xs) zero h = (x, refl)
some-at (x ∷ xs) (suc r) h = some-at xs r (omega (arith, h))

-- counts add up
pub counted-more : {W : Type 0} (faults : W → ℕ) (old mid new : List W) (first then both : ℕ → ℕ) → length mid ≡ length old → FaultsAreCounted faults old mid first →
    FaultsAreCounted faults mid new then → ((r : ℕ) → both r ≡ first r + then r) → FaultsAreCounted faults old new both
counted-more faults old mid new first then both all h k sum_is r before after was is below =
    let there = some-at mid r (let within = slice_get_within old r before was in omega (arith, within, all)) in
    let late = k r there.0 after there.1 is below in
    let early = h r before there.0 was there.1 (omega (arith, late, below)) in
    let sum = sum_is r in
    omega (arith, late, early, sum)
