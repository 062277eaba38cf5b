-- What stands at the place where ascending stamps, or spans, part settles what is found among all.
use Rattle.std.proofs.Common.{◌≡◌, ℕ, zero, suc, ◌+◌, ◌-◌, ◌<◌, ◌≤◌, Bool, true, false, refl, sym, ap, ◌∙◌, subst, arith, List, [], ◌∷◌, ◌++◌, length, get_or, take, drop, ◌||◌, ◌&&◌}
use Rattle.std.proofs.lemmas.Bool.{and_from}
use Rattle.std.proofs.lemmas.Bool.Decides.{nat_tests}
use Rattle.std.proofs.lemmas.List.{take-append-drop, take_more, drop_all}
use Rattle.std.proofs.lemmas.List.Folds.{list_any-append, list_any_at}
use Rattle.std.specs.List.{list_any, AllWithin}
use Rattle.std.specs.List.Sorted.{IsPartitionPoint}
use Rattle.mk_lists.specs.Among.{Each, Each-weaker}
use Rattle.mk_txn.specs.declared.Stamp.{Stamp}
use Rattle.mk_txn.specs.Stamps.{is_before}
use Rattle.mk_txn.specs.Clashes.{is_between}
use Rattle.mk_txn.proofs.StampOrder.{is_before-not_back, is_before-through, is_before-up, is_before-down}
use Rattle.mk_merge.specs.declared.spanning.Span.{Span}
use Rattle.mk_merge.specs.Ascending.{AscendsBy, IsAscending, has_between}
use Rattle.mk_merge.specs.Spanning.{spans_over, is_spanned, AreSpans}
use Rattle.mk_merge.proofs.AscendingLaws.{Each-front, Each-back, ascends-dropped, ascends-replaced, any-replaced}
use Rattle.mk_lists.proofs.Places.{drop_read}
use Rattle.mk_lists.proofs.Tests.{list_any-none}

-- ---- stamps

not_above : (low high s : Stamp) → is_before low s ≡ false → is_between low s high ≡ false
not_above low high s e = grind (arith, e)

is_above : (low high s : Stamp) → is_before low s ≡ true → is_between low s high ≡ is_before s high
is_above low high s e = grind (arith, e)

-- what does not come before the other does not come below what the other does not come below
not_below : (low high x s : Stamp) → is_before x high ≡ false → is_before s x ≡ false → is_between low s high ≡ false
not_below low high x s e h = grind (arith, nat_tests, e, h)

first-settles : (low high x : Stamp) (rest : List Stamp) → IsAscending (x ∷ rest) → is_before low x ≡ true → list_any (λ s. is_between low s high) (x ∷ rest) ≡ is_before x high
first-settles low high x rest h e = ap (λ b. b || list_any (λ s. is_between low s high) rest) (is_above low high x e) ∙ by_first (is_before x high) refl
  where
    or_none : (b : Bool) → (b || false) ≡ b
    or_none true = refl
    or_none false = refl

    by_first : (b : Bool) → is_before x high ≡ b → (is_before x high || list_any (λ s. is_between low s high) rest) ≡ is_before x high
    by_first true f = ap (λ b. b || list_any (λ s. is_between low s high) rest) f ∙ sym f
    by_first false f = ap (λ b. is_before x high || b) (list_any-none (λ s. is_between low s high) rest (Each-weaker (λ s. is_before s x ≡ false) (λ s. is_between low s high ≡ false) (λ s k. not_below low high x s f k) rest h.0)) ∙ or_none (is_before x high)

-- only those from the place on count
found-behind : {X : Type 0} (p : X → Bool) (xs : List X) (i : ℕ) → Each (λ x. p x ≡ false) (take i xs) → list_any p xs ≡ list_any p (drop i xs)
found-behind p xs i h = ap (list_any p) (sym (take-append-drop i xs)) ∙ list_any-append p (take i xs) (drop i xs) ∙ ap (λ b. b || list_any p (drop i xs)) (list_any-none p (take i xs) h)

upto-fails : (low high : Stamp) (xs : List Stamp) (i : ℕ) → IsPartitionPoint (λ s. is_before low s ≡ false) (λ s. is_before low s ≡ true) xs i → Each (λ s. is_between low s high ≡ false) (take i xs)
upto-fails low high xs i split = Each-weaker (λ s. is_before low s ≡ false) (λ s. is_between low s high ≡ false) (λ s e. not_above low high s e) (take i xs) (Each-front (λ s. is_before low s ≡ false) xs i split.0)

pub between-there : (low high : Stamp) (xs : List Stamp) (i : ℕ) (x : Stamp) → IsAscending xs → IsPartitionPoint (λ s. is_before low s ≡ false) (λ s. is_before low s ≡ true) xs i → i < length xs → x ≡ get_or xs i x → is_before x high ≡ has_between low high xs
between-there low high xs i x h split lt is =
    let here : drop i xs ≡ x ∷ drop (i + 1) xs = drop_read xs i x lt is in
    let above : is_before low x ≡ true = subst (λ s. is_before low s ≡ true) (sym is) (split.1 i x (omega arith) lt) in
    sym (found-behind (λ s. is_between low s high) xs i (upto-fails low high xs i split) ∙ ap (list_any (λ s. is_between low s high)) here ∙ first-settles low high x (drop (i + 1) xs) (subst IsAscending here (ascends-dropped (λ s. s) xs i h)) above)

pub between-nowhere : (low high : Stamp) (xs : List Stamp) (i : ℕ) → IsPartitionPoint (λ s. is_before low s ≡ false) (λ s. is_before low s ≡ true) xs i → length xs ≤ i → has_between low high xs ≡ false
between-nowhere low high xs i split past = found-behind (λ s. is_between low s high) xs i (upto-fails low high xs i split) ∙ ap (list_any (λ s. is_between low s high)) (drop_all i xs past)

-- a stamp put at its place
pub ascends-inserted : (s : Stamp) (xs : List Stamp) (i : ℕ) → IsPartitionPoint (λ x. is_before s x ≡ false) (λ x. is_before s x ≡ true) xs i → IsAscending xs → IsAscending (take i xs ++ s ∷ drop i xs)
ascends-inserted s xs i split h =
    ascends-replaced (λ x. x) s i i xs (omega arith) (Each-front (λ x. is_before s x ≡ false) xs i split.0)
    (Each-weaker (λ x. is_before s x ≡ true) (λ x. is_before x s ≡ false) (λ x e. is_before-not_back s x e) (drop i xs) (Each-back (λ x. is_before s x ≡ true) xs i split.1)) h

-- ---- spans

starts_late : (s : Stamp) (span : Span) → is_before span.version s ≡ false → spans_over s span ≡ false
starts_late s span e = grind (arith, e)

starts_early : (s : Stamp) (span : Span) → is_before span.version s ≡ true → spans_over s span ≡ is_before s span.reader
starts_early s span e = grind (arith, e)

-- one that does not reach up to a stamp is followed by the last that starts below it, which reaches farther
reaches_less : (s : Stamp) (span last : Span) → is_before s last.reader ≡ false → is_before last.reader span.reader ≡ false → spans_over s span ≡ false
reaches_less s span last e h = grind (arith, nat_tests, e, h)

-- the last is not before any in front of it
last-highest : (xs : List Span) (last : Span) → AscendsBy (λ (span : Span). span.reader) (xs ++ last ∷ []) → Each (λ (span : Span). is_before last.reader span.reader ≡ false) xs
last-highest [] last h = tt
last-highest (x ∷ xs) last h = (at_end xs h.0, last-highest xs last h.1)
  where
    at_end : (ys : List Span) → Each (λ (later : Span). is_before later.reader x.reader ≡ false) (ys ++ last ∷ []) → is_before last.reader x.reader ≡ false
    at_end [] k = k.0
    at_end (y ∷ ys) k = at_end ys k.1

ascends-taken : (xs : List Span) (n : ℕ) → AscendsBy (λ (span : Span). span.reader) xs → AscendsBy (λ (span : Span). span.reader) (take n xs)
ascends-taken xs zero h = tt
ascends-taken [] (suc n) h = tt
ascends-taken (x ∷ xs) (suc n) h = (Each-some xs n h.0, ascends-taken xs n h.1)
  where
    Each-some : (ys : List Span) (m : ℕ) → Each (λ (later : Span). is_before later.reader x.reader ≡ false) ys → Each (λ (later : Span). is_before later.reader x.reader ≡ false) (take m ys)
    Each-some ys zero k = tt
    Each-some [] (suc m) k = tt
    Each-some (y ∷ ys) (suc m) k = (k.0, Each-some ys m k.1)

last-settles : (s : Stamp) (xs : List Span) (last : Span) → AscendsBy (λ (span : Span). span.reader) (xs ++ last ∷ []) → is_before last.version s ≡ true → is_spanned s (xs ++ last ∷ []) ≡ is_before s last.reader
last-settles s xs last h e =
    list_any-append (spans_over s) xs (last ∷ []) ∙ ap (λ b. is_spanned s xs || (b || false)) (starts_early s last e) ∙ by_last (is_before s last.reader) refl
  where
    or_true : (b : Bool) → (b || (true || false)) ≡ true
    or_true true = refl
    or_true false = refl

    by_last : (b : Bool) → is_before s last.reader ≡ b → (is_spanned s xs || (b || false)) ≡ b
    by_last true f = or_true (is_spanned s xs)
    by_last false f = ap (λ b. b || (false || false)) (list_any-none (spans_over s) xs (Each-weaker (λ (span : Span). is_before last.reader span.reader ≡ false) (λ span. spans_over s span ≡ false) (λ span k. reaches_less s span last f k) xs (last-highest xs last h)))

-- only those in front of the place count
found-in_front : (s : Stamp) (xs : List Span) (i : ℕ) → AllWithin (λ span. is_before span.version s ≡ false) xs i (length xs) → is_spanned s xs ≡ is_spanned s (take i xs)
found-in_front s xs i h =
    ap (is_spanned s) (sym (take-append-drop i xs)) ∙ list_any-append (spans_over s) (take i xs) (drop i xs)
    ∙ ap (λ b. is_spanned s (take i xs) || b) (list_any-none (spans_over s) (drop i xs) (Each-weaker (λ span. is_before span.version s ≡ false) (λ span. spans_over s span ≡ false) (λ span e. starts_late s span e) (drop i xs) (Each-back (λ span. is_before span.version s ≡ false) xs i h)))
    ∙ or_none (is_spanned s (take i xs))
  where
    or_none : (b : Bool) → (b || false) ≡ b
    or_none true = refl
    or_none false = refl

reached-before : (s : Stamp) (xs : List Span) (k : ℕ) (last : Span) → AreSpans xs → IsPartitionPoint (λ span. is_before span.version s ≡ true) (λ span. is_before span.version s ≡ false) xs (k + 1) → k < length xs → last ≡ get_or xs k last → is_before s last.reader ≡ is_spanned s xs
reached-before s xs k last h split lt is =
    let front : take (k + 1) xs ≡ take k xs ++ last ∷ [] = take_more xs k last lt ∙ ap (λ x. take k xs ++ x ∷ []) (sym is) in
    let early : is_before last.version s ≡ true = subst (λ (x : Span). is_before x.version s ≡ true) (sym is) (split.0 k last (omega arith) (omega arith)) in
    sym (found-in_front s xs (k + 1) split.1 ∙ ap (is_spanned s) front ∙ last-settles s (take k xs) last (subst (AscendsBy (λ (span : Span). span.reader)) front (ascends-taken xs (k + 1) h.readers)) early)

pub reached-there : (s : Stamp) (xs : List Span) (i : ℕ) (last : Span) → AreSpans xs → IsPartitionPoint (λ span. is_before span.version s ≡ true) (λ span. is_before span.version s ≡ false) xs i → i ≤ length xs → 0 < i → last ≡ get_or xs (i - 1) last → is_before s last.reader ≡ is_spanned s xs
reached-there s xs i last h split le lt is = reached-before s xs (i - 1) last h (subst (IsPartitionPoint (λ span. is_before span.version s ≡ true) (λ span. is_before span.version s ≡ false) xs) (omega (arith, lt)) split) (omega (arith, le, lt)) is

pub reached-nowhere : (s : Stamp) (xs : List Span) (i : ℕ) → IsPartitionPoint (λ span. is_before span.version s ≡ true) (λ span. is_before span.version s ≡ false) xs i → i ≤ 0 → is_spanned s xs ≡ false
reached-nowhere s xs i split le = found-in_front s xs i split.1 ∙ ap (λ k. is_spanned s (take k xs)) (none i le)
  where
    none : (n : ℕ) → n ≤ 0 → n ≡ 0
    none n l = omega (arith, l)

-- ---- one more span

and_left : (a b : Bool) → (a && b) ≡ true → a ≡ true
and_left true b e = refl
and_left false b e = e

and_right : (a b : Bool) → (a && b) ≡ true → b ≡ true
and_right true b e = e
and_right false b e = absurd (cc e)

starts : (s : Stamp) (span : Span) → spans_over s span ≡ true → is_before span.version s ≡ true
starts s span e = and_left (is_before span.version s) (is_before s span.reader) e

ends : (s : Stamp) (span : Span) → spans_over s span ≡ true → is_before s span.reader ≡ true
ends s span e = and_right (is_before span.version s) (is_before s span.reader) e

inner : (s : Stamp) (span other : Span) → is_before span.version other.version ≡ false → is_before other.reader span.reader ≡ false → spans_over s span ≡ true → spans_over s other ≡ true
inner s span other low high e = and_from (is_before other.version s) (is_before s other.reader) (is_before-down other.version span.version s low (starts s span e)) (is_before-up s span.reader other.reader (ends s span e) high)

outer : (s : Stamp) (span other : Span) → is_before other.version span.version ≡ true → is_before span.reader other.reader ≡ true → spans_over s span ≡ true → spans_over s other ≡ true
outer s span other low high e = and_from (is_before other.version s) (is_before s other.reader) (is_before-through other.version span.version s low (starts s span e)) (is_before-through s span.reader other.reader (ends s span e) high)

module _ (y : Span) (xs : List Span) (i j : ℕ) (start : IsPartitionPoint (λ (span : Span). is_before span.version y.version ≡ true) (λ span. is_before span.version y.version ≡ false) xs i) (end : IsPartitionPoint (λ (span : Span). is_before y.reader span.reader ≡ false) (λ span. is_before y.reader span.reader ≡ true) xs j) where
  pub spanned-replaced : i ≤ j → (s : Stamp) → is_spanned s (take i xs ++ y ∷ drop j xs) ≡ (is_spanned s xs || spans_over s y)
  spanned-replaced le s =
      any-replaced (spans_over s) y (λ (span : Span). is_before span.version y.version ≡ false) (λ (span : Span). is_before y.reader span.reader ≡ false) (λ span low high. inner s span y low high) i j xs le
      (Each-back (λ (span : Span). is_before span.version y.version ≡ false) xs i start.1) (Each-front (λ (span : Span). is_before y.reader span.reader ≡ false) xs j end.0)

  pub spans-replaced : i ≤ j → AreSpans xs → AreSpans (take i xs ++ y ∷ drop j xs)
  spans-replaced le h = record {
    versions = ascends-replaced (λ (span : Span). span.version) y i j xs le
        (Each-weaker (λ (span : Span). is_before span.version y.version ≡ true) (λ (span : Span). is_before y.version span.version ≡ false) (λ span e. is_before-not_back span.version y.version e) (take i xs) (Each-front (λ (span : Span). is_before span.version y.version ≡ true) xs i start.0))
        (Each-later (λ (span : Span). is_before span.version y.version ≡ false) i j xs le (Each-back (λ (span : Span). is_before span.version y.version ≡ false) xs i start.1)) h.versions;
    readers = ascends-replaced (λ (span : Span). span.reader) y i j xs le
        (Each-earlier (λ (span : Span). is_before y.reader span.reader ≡ false) i j xs le (Each-front (λ (span : Span). is_before y.reader span.reader ≡ false) xs j end.0))
        (Each-weaker (λ (span : Span). is_before y.reader span.reader ≡ true) (λ (span : Span). is_before span.reader y.reader ≡ false) (λ span e. is_before-not_back y.reader span.reader e) (drop j xs) (Each-back (λ (span : Span). is_before y.reader span.reader ≡ true) xs j end.1)) h.readers;
  } where
    Each-later : (P : Span → Type 0) (m n : ℕ) (ys : List Span) → m ≤ n → Each P (drop m ys) → Each P (drop n ys)
    Each-later P zero zero ys l k = k
    Each-later P zero (suc n) [] l k = tt
    Each-later P zero (suc n) (z ∷ ys) l k = Each-later P zero n ys (omega arith) k.1
    Each-later P (suc m) zero ys l k = absurd (omega (arith, l))
    Each-later P (suc m) (suc n) [] l k = tt
    Each-later P (suc m) (suc n) (z ∷ ys) l k = Each-later P m n ys (omega (arith, l)) k

    Each-earlier : (P : Span → Type 0) (m n : ℕ) (ys : List Span) → m ≤ n → Each P (take n ys) → Each P (take m ys)
    Each-earlier P zero n ys l k = tt
    Each-earlier P (suc m) zero ys l k = absurd (omega (arith, l))
    Each-earlier P (suc m) (suc n) [] l k = tt
    Each-earlier P (suc m) (suc n) (z ∷ ys) l k = (k.0, Each-earlier P m n ys (omega (arith, l)) k.1)

  -- one that lies in another adds nothing
  pub spanned-already : i ≤ length xs → j < i → (s : Stamp) → is_spanned s xs ≡ (is_spanned s xs || spans_over s y)
  spanned-already le lt s = by_span (spans_over s y) refl
    where
      or_none : (b : Bool) → b ≡ (b || false)
      or_none true = refl
      or_none false = refl

      or_true : (b : Bool) → true ≡ (b || true)
      or_true true = refl
      or_true false = refl

      by_span : (b : Bool) → spans_over s y ≡ b → is_spanned s xs ≡ (is_spanned s xs || b)
      by_span true e =
          list_any_at (spans_over s) xs j y (omega (arith, le, lt)) (outer s y (get_or xs j y) (start.0 j y (omega arith) lt) (end.1 j y (omega arith) (omega (arith, le, lt))) e)
          ∙ or_true (is_spanned s xs)
      by_span false e = or_none (is_spanned s xs)
