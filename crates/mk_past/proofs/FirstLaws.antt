-- The first refused check, as far as one has come, and that there is one where a check was refused.
use Rattle.std.proofs.Common.{◌≡◌, ◌∙◌, ◌<◌, ◌≤◌, ◌+◌, ◌-◌, ℕ, zero, suc, Bool, true, false, refl, sym, ap, subst, arith, inl, inr, List, [], ◌∷◌, length, get_or, drop, Option, Some, None, if◌then◌else◌}
use Rattle.std.specs.Prelude.{is_some}
use Rattle.std.specs.Option.{option_or}
use Rattle.mk_lists.specs.Among.{Among}
use Rattle.mk_txn.specs.declared.Stamp.{Stamp}
use Rattle.mk_txn.specs.declared.Conflict.{Conflict}
use Rattle.mk_words.specs.declared.JournalEntry.{JournalEntry}
use Rattle.mk_history.specs.declared.RoundLog.{RoundLog}
use Rattle.mk_history.specs.Histories.{journal_of}
use Rattle.mk_verdict.specs.Flaws.{first_from}
use Rattle.mk_past.specs.declared.refusals.CheckPlace.{CheckPlace}
use Rattle.mk_past.specs.Refusals.{is_refusal, refusal_in_journal, refusal_at, refusal_in_round, refusal_in_rounds}
use Rattle.mk_past.proofs.IndexLaws.{drop-at}

none-not_some : {X : Type 0} (o : Option X) → false ≡ is_some o → o ≡ None
none-not_some None e = refl
none-not_some (Some x) e = absurd (cc e)

or-some : {X : Type 0} (o other : Option X) → true ≡ is_some o → o ≡ option_or o other
or-some None other e = absurd (cc e)
or-some (Some x) other e = refl

-- ---- by number

pub record FromSoFar {X : Type 0} (f : ℕ → Option X) (n i : ℕ) : Type 0 where
  pub first : first_from f 0 n ≡ first_from f i (n - i)

module _ {X : Type 0} (f : ℕ → Option X) (n i : ℕ) (h : FromSoFar f n i) where
  here : i < n → first_from f 0 n ≡ option_or (f i) (first_from f (i + 1) (n - (i + 1)))
  here within = (let e : n - i ≡ suc (n - (i + 1)) = omega (arith, within) in h.first ∙ ap (first_from f i) e)

  pub from-found : i < n → (o : Option X) → true ≡ is_some o → o ≡ f i → o ≡ first_from f 0 n
  from-found within o some is =
      or-some o (first_from f (i + 1) (n - (i + 1))) some ∙ ap (λ z. option_or z (first_from f (i + 1) (n - (i + 1)))) is ∙ sym (here within)

  pub from-more : i < n → (o : Option X) → false ≡ is_some o → o ≡ f i → FromSoFar f n (i + 1)
  from-more within o none is =
      record { first = here within ∙ ap (λ z. option_or z (first_from f (i + 1) (n - (i + 1)))) (sym is ∙ none-not_some o none) }

  pub from-end : n ≤ i → None ≡ first_from f 0 n
  from-end over = (let e : n - i ≡ 0 = omega (arith, over) in sym (h.first ∙ ap (first_from f i) e))

-- ---- by entry

module _ (stamp : Stamp) (conflict : Conflict) (round replica : ℕ) (journal : List JournalEntry) (i : ℕ) (entry : JournalEntry) (within : i < length journal) (is : entry ≡ get_or journal i entry) where
  abbrev chosen : Bool → Option CheckPlace
  chosen b = if b then Some (record { round = round; replica = replica; entry = i + 1 }) else refusal_in_journal stamp conflict round replica (i + 1 + 1) (drop (i + 1) journal)

  split : refusal_in_journal stamp conflict round replica (i + 1) (drop i journal) ≡ chosen (is_refusal stamp conflict entry)
  split = ap (refusal_in_journal stamp conflict round replica (i + 1)) (drop-at journal i entry within is)

  pub entry-found : true ≡ is_refusal stamp conflict entry → Some (record { round = round; replica = replica; entry = i + 1 }) ≡ refusal_in_journal stamp conflict round replica (i + 1) (drop i journal)
  entry-found e = ap chosen e ∙ sym split

  pub entry-more : false ≡ is_refusal stamp conflict entry → refusal_in_journal stamp conflict round replica (i + 1) (drop i journal) ≡ refusal_in_journal stamp conflict round replica (i + 1 + 1) (drop (i + 1) journal)
  entry-more e = split ∙ sym (ap chosen e)

-- ---- by round

module _ (stamp : Stamp) (conflict : Conflict) (replicas : ℕ) (rounds : List RoundLog) (i : ℕ) (round : RoundLog) (within : i < length rounds) (is : round ≡ get_or rounds i round) where
  opened : refusal_in_rounds stamp conflict replicas (i + 1) (drop i rounds)
      ≡ option_or (refusal_in_round stamp conflict replicas (i + 1) round) (refusal_in_rounds stamp conflict replicas (i + 1 + 1) (drop (i + 1) rounds))
  opened = ap (refusal_in_rounds stamp conflict replicas (i + 1)) (drop-at rounds i round within is)

  pub round-found : (o : Option CheckPlace) → true ≡ is_some o → o ≡ refusal_in_round stamp conflict replicas (i + 1) round → o ≡ refusal_in_rounds stamp conflict replicas (i + 1) (drop i rounds)
  round-found o some found =
      or-some o (refusal_in_rounds stamp conflict replicas (i + 1 + 1) (drop (i + 1) rounds)) some
      ∙ ap (λ z. option_or z (refusal_in_rounds stamp conflict replicas (i + 1 + 1) (drop (i + 1) rounds))) found ∙ sym opened

  pub round-more : (o : Option CheckPlace) → false ≡ is_some o → o ≡ refusal_in_round stamp conflict replicas (i + 1) round →
      refusal_in_rounds stamp conflict replicas (i + 1) (drop i rounds) ≡ refusal_in_rounds stamp conflict replicas (i + 1 + 1) (drop (i + 1) rounds)
  round-more o none found =
      opened ∙ ap (λ z. option_or z (refusal_in_rounds stamp conflict replicas (i + 1 + 1) (drop (i + 1) rounds))) (sym found ∙ none-not_some o none)

-- ---- one that is there is found

some-or : {X : Type 0} (a b : Option X) → is_some b ≡ true → is_some (option_or a b) ≡ true
some-or None b e = e
some-or (Some x) b e = refl

or-kept : {X : Type 0} (a b : Option X) → is_some a ≡ true → is_some (option_or a b) ≡ true
or-kept None b e = absurd (cc e)
or-kept (Some x) b e = refl

from-some : {X : Type 0} (f : ℕ → Option X) (k n i j : ℕ) → k + i ≡ j → i < n → is_some (f j) ≡ true → is_some (first_from f k n) ≡ true
from-some f k zero i j same lt e = absurd (omega (arith, lt))
from-some f k (suc n) zero j same lt e =
    let first : j ≡ k = omega (arith, same) in
    or-kept (f k) (first_from f (k + 1) n) (subst (λ (m : ℕ). is_some (f m) ≡ true) first e)
from-some f k (suc n) (suc i) j same lt e =
    let next : k + 1 + i ≡ j = omega (arith, same) in
    some-or (f k) (first_from f (k + 1) n) (from-some f (k + 1) n i j next (omega (arith, lt)) e)

journal-some : (stamp : Stamp) (conflict : Conflict) (round replica number : ℕ) (journal : List JournalEntry) (entry : JournalEntry) → Among entry journal → is_refusal stamp conflict entry ≡ true →
    is_some (refusal_in_journal stamp conflict round replica number journal) ≡ true
journal-some stamp conflict round replica number [] entry a e = absurd a
journal-some stamp conflict round replica number (first ∷ journal) entry (inl same) e =
    ap (λ b. is_some (if b then Some (record { round = round; replica = replica; entry = number }) else refusal_in_journal stamp conflict round replica (number + 1) journal))
    (subst (λ (x : JournalEntry). is_refusal stamp conflict x ≡ true) (sym same) e)
journal-some stamp conflict round replica number (first ∷ journal) entry (inr a) e =
    by (is_refusal stamp conflict first) (journal-some stamp conflict round replica (number + 1) journal entry a e)
  where
    by : (b : Bool) → is_some (refusal_in_journal stamp conflict round replica (number + 1) journal) ≡ true →
        is_some (if b then Some (record { round = round; replica = replica; entry = number }) else refusal_in_journal stamp conflict round replica (number + 1) journal) ≡ true
    by true more = refl
    by false more = more

zero_plus : (n : ℕ) → 0 + n ≡ n
zero_plus n = omega arith

pub rounds-some : (stamp : Stamp) (conflict : Conflict) (replicas number : ℕ) (rounds : List RoundLog) (round : RoundLog) (replica : ℕ) (entry : JournalEntry) → Among round rounds → replica < replicas →
    Among entry (journal_of round replica conflict.key) → is_refusal stamp conflict entry ≡ true → is_some (refusal_in_rounds stamp conflict replicas number rounds) ≡ true
rounds-some stamp conflict replicas number [] round replica entry a lt there e = absurd a
rounds-some stamp conflict replicas number (first ∷ rounds) round replica entry (inl same) lt there e =
    or-kept (refusal_in_round stamp conflict replicas number first) (refusal_in_rounds stamp conflict replicas (number + 1) rounds)
    (from-some (refusal_at stamp conflict number first) 0 replicas replica replica (zero_plus replica) lt
    (journal-some stamp conflict number replica 1 (journal_of first replica conflict.key) entry (subst (λ (r : RoundLog). Among entry (journal_of r replica conflict.key)) (sym same) there) e))
rounds-some stamp conflict replicas number (first ∷ rounds) round replica entry (inr a) lt there e =
    some-or (refusal_in_round stamp conflict replicas number first) (refusal_in_rounds stamp conflict replicas (number + 1) rounds)
    (rounds-some stamp conflict replicas (number + 1) rounds round replica entry a lt there e)
