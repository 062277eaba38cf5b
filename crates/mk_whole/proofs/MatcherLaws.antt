-- A journal's entries compared with each column's key steps in one walk: what is found is what the lists of each column say.
use Rattle.std.proofs.Common.{◌≡◌, ◌<◌, ◌≤◌, ℕ, zero, suc, ◌+◌, Bool, true, false, ◌==◌, cond, refl, sym, ap, subst, ◌∙◌, arith, inl, inr, List, [], ◌∷◌, ◌++◌, length, map, take, drop, get_or, Option, Some, None, if◌then◌else◌}
use Rattle.std.specs.Prelude.{nat_lt, filter, slice_get, slice_set, option_map}
use Rattle.std.specs.Option.{option_or}
use Rattle.std.proofs.lemmas.List.{drop_all, append-nil, take_more}
use Rattle.std.proofs.lemmas.List.Elements.{filter-append}
use Rattle.std.proofs.lemmas.Option.{slice_get_cases}
use Rattle.std.proofs.lemmas.Bool.Decides.{nat_tests}
use Rattle.mk_lists.specs.Among.{Each}
use Rattle.mk_lists.proofs.Places.{drop_read}
use Rattle.mk_words.specs.declared.JournalEntry.{JournalEntry}
use Rattle.mk_history.specs.Matching.{turns_in_journal}
use Rattle.mk_verdict.specs.declared.PlacedFlaw.{PlacedFlaw}
use Rattle.mk_verdict.specs.Flaws.{difference, first_from}
use Rattle.mk_verdict.specs.Sameness.{same_turn}
use Rattle.mk_whole.specs.Matches.{turn_of, unmatched_at, flaw_between}
use Rattle.mk_whole.specs.Matchers.{MatcherView, new_matcher, with_step, compared, with_entry, apart_at_end, changed_at, matchers_of, after_entries, flaw_at_end}
use Rattle.mk_whole.proofs.MatchLaws.{turns_filtered}

-- a place that is set to the image of what stands there
pub changed-there : {X : Type 0} (f : X → X) (xs : List X) (i : ℕ) (x d new : X) → i < length xs → x ≡ get_or xs i d → new ≡ f x → slice_set xs i new ≡ changed_at f i xs
changed-there f [] i x d new within is e = absurd (omega (arith, within))
changed-there f (y ∷ ys) zero x d new within is e = ap (λ z. z ∷ ys) (e ∙ ap f is)
changed-there f (y ∷ ys) (suc i) x d new within is e = ap (λ zs. y ∷ zs) (changed-there f ys i x d new (omega (arith, within)) is e)

pub changed-beyond : {X : Type 0} (f : X → X) (xs : List X) (i : ℕ) → length xs ≤ i → xs ≡ changed_at f i xs
changed-beyond f [] i past = refl
changed-beyond f (y ∷ ys) zero past = absurd (omega (arith, past))
changed-beyond f (y ∷ ys) (suc i) past = ap (λ zs. y ∷ zs) (changed-beyond f ys i (omega (arith, past)))

pub changed-length : {X : Type 0} (f : X → X) (xs : List X) (i : ℕ) → length (changed_at f i xs) ≡ length xs
changed-length f [] i = refl
changed-length f (y ∷ ys) zero = refl
changed-length f (y ∷ ys) (suc i) = ap suc (changed-length f ys i)

pub after-length : (matchers : List MatcherView) (journal : List JournalEntry) → length (after_entries matchers journal) ≡ length matchers
after-length matchers [] = refl
after-length matchers (entry ∷ journal) = after-length (changed_at (with_entry entry) entry.seat matchers) journal ∙ changed-length (with_entry entry) matchers entry.seat

pub count-of : (turns : List JournalEntry) (c n : ℕ) → length (matchers_of turns c n) ≡ n
count-of turns c zero = refl
count-of turns c (suc n) = ap suc (count-of turns (c + 1) n)

-- one column more, none of which has a key step
none-more : (c n : ℕ) → matchers_of [] c n ++ new_matcher [] ∷ [] ≡ matchers_of [] c (suc n)
none-more c zero = refl
none-more c (suc n) = ap (λ ms. new_matcher [] ∷ ms) (none-more (c + 1) n)

pub more-none : (n : ℕ) (matchers new : List MatcherView) (matcher : MatcherView) → new ≡ matchers ++ matcher ∷ [] → matcher ≡ new_matcher [] → matchers ≡ matchers_of [] 0 n →
    new ≡ matchers_of [] 0 (n + 1)
more-none n matchers new matcher is empty so_far =
    let more : suc n ≡ n + 1 = omega arith in
    is ∙ ap (λ m. matchers ++ m ∷ []) empty ∙ ap (λ ms. ms ++ new_matcher [] ∷ []) so_far ∙ none-more 0 n ∙ ap (matchers_of [] 0) more

module _ (turns : List JournalEntry) (turn : JournalEntry) where
  abbrev of : ℕ → JournalEntry → Bool
  of c other = other.seat == c

  apart-from : (c : ℕ) → (turn.seat == c) ≡ false → filter (of c) turns ≡ filter (of c) (turns ++ turn ∷ [])
  apart-from c e = sym (filter-append (of c) turns (turn ∷ []) ∙ ap (λ b. filter (of c) turns ++ cond b (turn ∷ []) []) e ∙ append-nil (filter (of c) turns))

  goes-to : (c : ℕ) → (turn.seat == c) ≡ true → filter (of c) turns ++ turn ∷ [] ≡ filter (of c) (turns ++ turn ∷ [])
  goes-to c e = sym (filter-append (of c) turns (turn ∷ []) ∙ ap (λ b. filter (of c) turns ++ cond b (turn ∷ []) []) e)

  step-below : (c n : ℕ) → turn.seat < c → matchers_of turns c n ≡ matchers_of (turns ++ turn ∷ []) c n
  step-below c zero below = refl
  step-below c (suc n) below =
      ap (λ ts. new_matcher ts ∷ matchers_of turns (c + 1) n) (apart-from c (grind (arith, nat_tests, below)))
      ∙ ap (λ ms. new_matcher (filter (of c) (turns ++ turn ∷ [])) ∷ ms) (step-below (c + 1) n (omega (arith, below)))

  pub step-added : (c i n : ℕ) → turn.seat ≡ c + i → changed_at (with_step turn) i (matchers_of turns c n) ≡ matchers_of (turns ++ turn ∷ []) c n
  step-added c i zero e = refl
  step-added c zero (suc n) e =
      ap (λ ts. new_matcher ts ∷ matchers_of turns (c + 1) n) (goes-to c (grind (arith, nat_tests, e)))
      ∙ ap (λ ms. new_matcher (filter (of c) (turns ++ turn ∷ [])) ∷ ms) (step-below (c + 1) n (omega (arith, e)))
  step-added c (suc i) (suc n) e =
      ap (λ ts. new_matcher ts ∷ changed_at (with_step turn) i (matchers_of turns (c + 1) n)) (apart-from c (grind (arith, nat_tests, e)))
      ∙ ap (λ ms. new_matcher (filter (of c) (turns ++ turn ∷ [])) ∷ ms) (step-added (c + 1) i n (omega (arith, e)))

-- the key step at a place is added to those before it
pub step-on : (turns : List JournalEntry) (i n : ℕ) (d : JournalEntry) (matchers new : List MatcherView) → i < length turns → matchers ≡ matchers_of (take i turns) 0 n →
    new ≡ changed_at (with_step (get_or turns i d)) (get_or turns i d).seat matchers → new ≡ matchers_of (take (i + 1) turns) 0 n
step-on turns i n d matchers new within so_far is =
    let turn = get_or turns i d in
    is
    ∙ ap (changed_at (with_step turn) turn.seat) so_far
    ∙ step-added (take i turns) turn 0 turn.seat n (omega arith)
    ∙ ap (λ ts. matchers_of ts 0 n) (sym (take_more turns i d within))

-- the first place at which a column's entries and key steps differ, where these entries are still to come
abbrev pub left_apart : ℕ → MatcherView → List JournalEntry → Option ℕ
left_apart c matcher journal = option_or matcher.apart (difference (matcher.same + 1) (turns_in_journal c journal) (map turn_of (drop matcher.same matcher.turns)))

-- so of each, the first of which is of the column of this number
abbrev pub each_left : ℕ → List MatcherView → List JournalEntry → List (Option ℕ)
each_left c [] journal = []
each_left c (matcher ∷ matchers) journal = left_apart c matcher journal ∷ each_left (c + 1) matchers journal

-- so many key steps are the same, of those that there are
abbrev pub IsWithin : MatcherView → Type 0
IsWithin matcher = matcher.same ≤ length matcher.turns

module _ (entry : JournalEntry) (journal : List JournalEntry) where
  module _ (c : ℕ) (turns : List JournalEntry) (same : ℕ) where
    abbrev here : MatcherView
    here = record { turns = turns; same = same; apart = None }

    abbrev on : List JournalEntry → Option ℕ
    on rest = difference (same + 1 + 1) (turns_in_journal c journal) (map turn_of rest)

    either : (b : Bool) → left_apart c (if b then record { turns = turns; same = same + 1; apart = None } else record { turns = turns; same = same; apart = Some (same + 1) }) journal
        ≡ (if b then on (drop (same + 1) turns) else Some (same + 1))
    either true = refl
    either false = refl

    compared-so : IsWithin here → left_apart c (compared entry here (slice_get turns same)) journal
        ≡ difference (same + 1) (turn_of entry ∷ turns_in_journal c journal) (map turn_of (drop same turns))
    compared-so within = elim ((slice_get_cases turns same).1) [
      | inl found ↦
          ap (λ o. left_apart c (compared entry here o) journal) found.2
          ∙ either (same_turn (turn_of entry) (turn_of found.0))
          ∙ ap (λ rest. difference (same + 1) (turn_of entry ∷ turns_in_journal c journal) (map turn_of rest)) (sym (drop_read turns same found.0 found.1 (sym found.3)))
      | inr past ↦
          let all : length turns ≡ same = omega (arith, within, past.0) in
          ap (λ o. left_apart c (compared entry here o) journal) past.1
          ∙ ap (λ n. Some (n + 1)) all
          ∙ ap (λ rest. difference (same + 1) (turn_of entry ∷ turns_in_journal c journal) (map turn_of rest)) (sym (drop_all same turns past.0))
    ]

    either-within : (b : Bool) → same < length turns → IsWithin (if b then record { turns = turns; same = same + 1; apart = None } else record { turns = turns; same = same; apart = Some (same + 1) })
    either-within true there = omega (arith, there)
    either-within false there = omega (arith, there)

  within-entry : (turns : List JournalEntry) (same : ℕ) (apart : Option ℕ) → same ≤ length turns → IsWithin (with_entry entry (record { turns = turns; same = same; apart = apart }))
  within-entry turns same (Some n) within = within
  within-entry turns same None within = elim ((slice_get_cases turns same).1) [
    | inl found ↦
        let kept : IsWithin (compared entry (here 0 turns same) (Some found.0)) = either-within 0 turns same (same_turn (turn_of entry) (turn_of found.0)) found.1 in
        subst (λ o. IsWithin (compared entry (here 0 turns same) o)) (sym found.2) kept
    | inr past ↦ subst (λ o. IsWithin (compared entry (here 0 turns same) o)) (sym past.1) within
  ]

  entry-so : (c : ℕ) (turns : List JournalEntry) (same : ℕ) (apart : Option ℕ) → same ≤ length turns →
      left_apart c (with_entry entry (record { turns = turns; same = same; apart = apart })) journal
      ≡ option_or apart (difference (same + 1) (turn_of entry ∷ turns_in_journal c journal) (map turn_of (drop same turns)))
  entry-so c turns same (Some n) within = refl
  entry-so c turns same None within = compared-so c turns same within

  own : (c : ℕ) → (entry.seat == c) ≡ true → turn_of entry ∷ turns_in_journal c journal ≡ turns_in_journal c (entry ∷ journal)
  own c e = ap (λ b. if b then turn_of entry ∷ turns_in_journal c journal else turns_in_journal c journal) (sym e)

  other : (c : ℕ) → (entry.seat == c) ≡ false → turns_in_journal c journal ≡ turns_in_journal c (entry ∷ journal)
  other c e = ap (λ b. if b then turn_of entry ∷ turns_in_journal c journal else turns_in_journal c journal) (sym e)

  by-own : (c : ℕ) (matcher : MatcherView) → IsWithin matcher → (entry.seat == c) ≡ true → left_apart c (with_entry entry matcher) journal ≡ left_apart c matcher (entry ∷ journal)
  by-own c matcher within e =
      entry-so c matcher.turns matcher.same matcher.apart within
      ∙ ap (λ ts. option_or matcher.apart (difference (matcher.same + 1) ts (map turn_of (drop matcher.same matcher.turns)))) (own c e)

  by-other : (c : ℕ) (matcher : MatcherView) → (entry.seat == c) ≡ false → left_apart c matcher journal ≡ left_apart c matcher (entry ∷ journal)
  by-other c matcher e = ap (λ ts. option_or matcher.apart (difference (matcher.same + 1) ts (map turn_of (drop matcher.same matcher.turns)))) (other c e)

  entry-below : (c : ℕ) (matchers : List MatcherView) → entry.seat < c → each_left c matchers journal ≡ each_left c matchers (entry ∷ journal)
  entry-below c [] below = refl
  entry-below c (m ∷ ms) below =
      ap (λ o. o ∷ each_left (c + 1) ms journal) (by-other c m (grind (arith, nat_tests, below)))
      ∙ ap (λ os. left_apart c m (entry ∷ journal) ∷ os) (entry-below (c + 1) ms (omega (arith, below)))

  entry-taken : (c i : ℕ) (matchers : List MatcherView) → entry.seat ≡ c + i → Each IsWithin matchers →
      each_left c (changed_at (with_entry entry) i matchers) journal ≡ each_left c matchers (entry ∷ journal)
  entry-taken c i [] e within = refl
  entry-taken c zero (m ∷ ms) e within =
      ap (λ o. o ∷ each_left (c + 1) ms journal) (by-own c m within.0 (grind (arith, nat_tests, e)))
      ∙ ap (λ os. left_apart c m (entry ∷ journal) ∷ os) (entry-below (c + 1) ms (omega (arith, e)))
  entry-taken c (suc i) (m ∷ ms) e within =
      ap (λ o. o ∷ each_left (c + 1) (changed_at (with_entry entry) i ms) journal) (by-other c m (grind (arith, nat_tests, e)))
      ∙ ap (λ os. left_apart c m (entry ∷ journal) ∷ os) (entry-taken (c + 1) i ms (omega (arith, e)) within.1)

  within-taken : (i : ℕ) (matchers : List MatcherView) → Each IsWithin matchers → Each IsWithin (changed_at (with_entry entry) i matchers)
  within-taken i [] within = within
  within-taken zero (m ∷ ms) within = (within-entry m.turns m.same m.apart within.0, within.1)
  within-taken (suc i) (m ∷ ms) within = (within.0, within-taken i ms within.1)

all-taken : (matchers : List MatcherView) (journal : List JournalEntry) → Each IsWithin matchers → each_left 0 (after_entries matchers journal) [] ≡ each_left 0 matchers journal
all-taken matchers [] within = refl
all-taken matchers (entry ∷ journal) within =
    all-taken (changed_at (with_entry entry) entry.seat matchers) journal (within-taken entry journal entry.seat matchers within)
    ∙ entry-taken entry journal 0 entry.seat matchers (omega arith) within

within-new : (turns : List JournalEntry) (c n : ℕ) → Each IsWithin (matchers_of turns c n)
within-new turns c zero = tt
within-new turns c (suc n) = (omega arith, within-new turns (c + 1) n)

-- what is left to find once no entry is to come
nothing-left : (turns : List JournalEntry) (same : ℕ) (b : Bool) → nat_lt same (length turns) ≡ b →
    (if b then Some (same + 1) else None) ≡ difference (same + 1) [] (map turn_of (drop same turns))
nothing-left turns same b e = elim ((slice_get_cases turns same).1) [
  | inl found ↦
      let there : b ≡ true = grind (arith, nat_tests, e, found.1) in
      ap (λ t. if t then Some (same + 1) else None) there
      ∙ ap (λ rest. difference (same + 1) [] (map turn_of rest)) (sym (drop_read turns same found.0 found.1 (sym found.3)))
  | inr past ↦
      let over : b ≡ false = grind (arith, nat_tests, e, past.0) in
      ap (λ t. if t then Some (same + 1) else None) over
      ∙ ap (λ rest. difference (same + 1) [] (map turn_of rest)) (sym (drop_all same turns past.0))
]

end-is : (c : ℕ) (matcher : MatcherView) → apart_at_end matcher ≡ left_apart c matcher []
end-is c matcher = ap (option_or matcher.apart) (nothing-left matcher.turns matcher.same (nat_lt matcher.same (length matcher.turns)) refl)

module _ (r key : ℕ) where
  -- the flaw of the first column with such a place; the first of these is that of the column of this number
  abbrev first_of : ℕ → List (Option ℕ) → Option PlacedFlaw
  first_of c [] = None
  first_of c (o ∷ os) = option_or (option_map (unmatched_at r key c) o) (first_of (c + 1) os)

  ends-are : (c : ℕ) (matchers : List MatcherView) → flaw_at_end r key c matchers ≡ first_of c (each_left c matchers [])
  ends-are c [] = refl
  ends-are c (m ∷ ms) =
      ap (λ o. option_or (option_map (unmatched_at r key c) o) (flaw_at_end r key (c + 1) ms)) (end-is c m)
      ∙ ap (option_or (option_map (unmatched_at r key c) (left_apart c m []))) (ends-are (c + 1) ms)

  starts-are : (journal turns : List JournalEntry) (c n : ℕ) → first_of c (each_left c (matchers_of turns c n) journal) ≡ first_from (flaw_between r key journal turns) c n
  starts-are journal turns c zero = refl
  starts-are journal turns c (suc n) =
      ap (λ ts. option_or (option_map (unmatched_at r key c) (difference 1 (turns_in_journal c journal) ts)) (first_of (c + 1) (each_left (c + 1) (matchers_of turns (c + 1) n) journal)))
      (turns_filtered c turns)
      ∙ ap (option_or (flaw_between r key journal turns c)) (starts-are journal turns (c + 1) n)

  pub walk-is : (journal turns : List JournalEntry) (n : ℕ) → flaw_at_end r key 0 (after_entries (matchers_of turns 0 n) journal) ≡ first_from (flaw_between r key journal turns) 0 n
  walk-is journal turns n =
      ends-are 0 (after_entries (matchers_of turns 0 n) journal)
      ∙ ap (first_of 0) (all-taken (matchers_of turns 0 n) journal (within-new turns 0 n))
      ∙ starts-are journal turns 0 n
