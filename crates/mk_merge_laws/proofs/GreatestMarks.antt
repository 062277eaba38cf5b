-- The marks of a merge: of each client the greatest among its sources.
use Rattle.std.proofs.Common.{◌≡◌, ◌≤◌, ◌⊎◌, ◌∙◌, ℕ, refl, ap, inl, inr, arith, List, [], ◌∷◌, map}
use Rattle.std.specs.Prelude.{fold, max}
use Rattle.mk_lists.specs.Among.{Among, Each}
use Rattle.mk_txn.specs.MarkMaps.{MarkMap, IsMarkMap, mark_of, joined_marks}
use Rattle.mk_txn.proofs.MarkLaws.{IsMarkMap-joined, mark_of-joined}
use Rattle.mk_words.specs.Promises.{PromiseState, base_of}
use Rattle.mk_merge_laws.specs.Marks.{MarksAreGreatest}

left_below : (a b m : ℕ) → m ≡ max a b → a ≤ m
left_below a b m e = grind (arith, e)

right_below : (a b m : ℕ) → m ≡ max a b → b ≤ m
right_below a b m e = grind (arith, e)

one_of_two : (a b m : ℕ) → m ≡ max a b → (a ≡ m) ⊎ (b ≡ m)
one_of_two a b m e = grind (arith, e)

reaching : (a b c : ℕ) → a ≤ b → b ≤ c → a ≤ c
reaching a b c p q = omega (arith, p, q)

-- the marks of these promises joined to these
abbrev through : MarkMap → List PromiseState → MarkMap
through marks promises = fold (λ all p. joined_marks all p.marks) marks promises

-- of these marks and those of these promises, none is greater, and one is as great
abbrev IsGreatest : ℕ → MarkMap → List PromiseState → Type 0
IsGreatest client marks promises =
    Each (λ source. mark_of source client ≤ mark_of (through marks promises) client) (marks ∷ map (λ p. p.marks) promises)
    × ((source : MarkMap) × Among source (marks ∷ map (λ p. p.marks) promises) × (mark_of source client ≡ mark_of (through marks promises) client))

greatest : (client : ℕ) (marks : MarkMap) (promises : List PromiseState) → IsMarkMap marks → Each IsMarkMap (map (λ p. p.marks) promises) →
    IsGreatest client marks promises
greatest client marks [] h hs = ((omega arith, tt), (marks, inl refl, refl))
greatest client marks (p ∷ promises) h hs =
    let rest : IsGreatest client (joined_marks marks p.marks) promises = greatest client (joined_marks marks p.marks) promises (IsMarkMap-joined marks p.marks h) hs.1 in
    let joined : mark_of (joined_marks marks p.marks) client ≡ max (mark_of marks client) (mark_of p.marks client) = mark_of-joined marks p.marks client h hs.0 in
    let m : ℕ = mark_of (joined_marks marks p.marks) client in
    let last : ℕ = mark_of (through (joined_marks marks p.marks) promises) client in (
      (
        reaching (mark_of marks client) m last (left_below (mark_of marks client) (mark_of p.marks client) m joined) rest.0.0,
        (reaching (mark_of p.marks client) m last (right_below (mark_of marks client) (mark_of p.marks client) m joined) rest.0.0, rest.0.1),
      ),
      by joined rest.1.0 rest.1.1 rest.1.2,
    )
  where
    by : mark_of (joined_marks marks p.marks) client ≡ max (mark_of marks client) (mark_of p.marks client) → (source : MarkMap) →
        Among source (joined_marks marks p.marks ∷ map (λ q. q.marks) promises) →
        mark_of source client ≡ mark_of (through (joined_marks marks p.marks) promises) client →
        (x : MarkMap) × Among x (marks ∷ (p.marks ∷ map (λ q. q.marks) promises)) × (mark_of x client ≡ mark_of (through (joined_marks marks p.marks) promises) client)
    by joined source (inr later) is = (source, inr (inr later), is)
    by joined source (inl same) is =
        elim (one_of_two (mark_of marks client) (mark_of p.marks client) (mark_of (joined_marks marks p.marks) client) joined) [
          | inl left ↦ (marks, inl refl, left ∙ (ap (λ (s : MarkMap). mark_of s client) same ∙ is))
          | inr right ↦ (p.marks, inr (inl refl), right ∙ (ap (λ (s : MarkMap). mark_of s client) same ∙ is))
        ]

pub marks_greatest : (promises : List PromiseState) → MarksAreGreatest promises
marks_greatest promises hs client = greatest client (base_of promises).marks promises hs.0 hs.1
