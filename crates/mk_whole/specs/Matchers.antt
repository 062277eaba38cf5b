-- A journal's entries compared with each column's key steps, as far as one has come.
use Rattle.std.specs.Prelude.{ℕ, zero, suc, ◌+◌, ◌==◌, List, [], ◌∷◌, ◌++◌, length, filter, slice_get, nat_lt, Option, Some, None, is_some, option_map, if◌then◌else◌}
use Rattle.std.specs.Option.{option_or}
use Rattle.mk_words.specs.declared.JournalEntry.{JournalEntry}
use Rattle.mk_verdict.specs.declared.PlacedFlaw.{PlacedFlaw}
use Rattle.mk_verdict.specs.Sameness.{same_turn}
use Rattle.mk_whole.specs.Matches.{turn_of, unmatched_at}

-- a column's key steps at a key, how many of its entries in the journal are the same, and the first place that is not
pub record MatcherView : Type 0 where
  pub turns : List JournalEntry
  pub same : ℕ
  pub apart : Option ℕ

-- before the first entry
abbrev pub new_matcher : List JournalEntry → MatcherView
new_matcher turns = record { turns = turns; same = 0; apart = None }

-- one key step more
abbrev pub with_step : JournalEntry → MatcherView → MatcherView
with_step turn matcher = record matcher { turns = matcher.turns ++ turn ∷ [] }

-- the column's next entry, where this is the next key step
abbrev pub compared : JournalEntry → MatcherView → Option JournalEntry → MatcherView
compared entry matcher (Some turn) =
    if same_turn (turn_of entry) (turn_of turn) then record matcher { same = matcher.same + 1 } else record matcher { apart = Some (matcher.same + 1) }
compared entry matcher None = record matcher { apart = Some (length matcher.turns + 1) }

-- behind the first difference nothing is compared
abbrev pub with_entry : JournalEntry → MatcherView → MatcherView
with_entry entry matcher = if is_some matcher.apart then matcher else compared entry matcher (slice_get matcher.turns matcher.same)

-- the first place at which the two differ, once there are no more entries
abbrev pub apart_at_end : MatcherView → Option ℕ
apart_at_end matcher = option_or matcher.apart (if nat_lt matcher.same (length matcher.turns) then Some (matcher.same + 1) else None)

-- a change at this place of a list, where it is one
abbrev pub changed_at : {X : Type 0} → (X → X) → ℕ → List X → List X
changed_at f i [] = []
changed_at f zero (x ∷ xs) = f x ∷ xs
changed_at f (suc i) (x ∷ xs) = x ∷ changed_at f i xs

-- the matchers of so many columns, from the one of this number on
abbrev pub matchers_of : List JournalEntry → ℕ → ℕ → List MatcherView
matchers_of turns c zero = []
matchers_of turns c (suc n) = new_matcher (filter (λ turn. turn.seat == c) turns) ∷ matchers_of turns (c + 1) n

-- after a journal each entry of which goes to its column's matcher
abbrev pub after_entries : List MatcherView → List JournalEntry → List MatcherView
after_entries matchers [] = matchers
after_entries matchers (entry ∷ journal) = after_entries (changed_at (with_entry entry) entry.seat matchers) journal

-- the flaw of the first column that is not matched; the first of these is of the column of this number
abbrev pub flaw_at_end : ℕ → ℕ → ℕ → List MatcherView → Option PlacedFlaw
flaw_at_end r key c [] = None
flaw_at_end r key c (matcher ∷ matchers) = option_or (option_map (unmatched_at r key c) (apart_at_end matcher)) (flaw_at_end r key (c + 1) matchers)
