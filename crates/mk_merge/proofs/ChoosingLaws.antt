-- The promises that count, found one after another.
use Rattle.std.proofs.Common.{◌≡◌, ℕ, zero, suc, ◌<◌, ◌≤◌, ◌+◌, ◌-◌, ◌%◌, max, Bool, true, false, not, refl, sym, ap, subst, ◌∙◌, List, [], ◌∷◌, ◌++◌, length, get_or, map, filter, take, drop, arith, append_assoc, ◌==◌, if◌then◌else◌}
use Rattle.std.proofs.lemmas.Bool.Decides.{nat_tests}
use Rattle.std.proofs.lemmas.List.{append-nil, drop_all}
use Rattle.std.specs.Borrow.{Bor}
use mathlib.Core.Bool.{beq}
use Rattle.mk_quorum.specs.Sizes.{members}
use Rattle.mk_merge.specs.declared.Promise.{Promise}
use Rattle.mk_merge.specs.Keepings.{chosen_of, counting_of, highest_of}
use Rattle.mk_lists.proofs.Places.{drop_read}

-- the promises that are borrowed
abbrev pub states_of : {B : Type 0} → List (Bor (Promise B)) → List (Promise B)
states_of promises = map (λ p. p.now) promises

-- ---- the highest adopted epoch

-- with the promises that are left it comes to the highest of all
abbrev pub ComesToHighest : {B : Type 0} → List (Bor (Promise B)) → ℕ → ℕ → Type 0
ComesToHighest all i epoch = max epoch (highest_of (states_of (drop i all))) ≡ highest_of (states_of all)

-- those of one adopted epoch
pub states-filter : {B : Type 0} → (adopted : ℕ) (found : List (Bor (Promise B))) → states_of (filter (λ p. p.now.adopted == adopted) found) ≡ filter (λ p. p.adopted == adopted) (states_of found)
states-filter adopted [] = refl
states-filter adopted (p ∷ found) = by_test (p.now.adopted == adopted) (states-filter adopted found)
  where
    by_test : (b : Bool) → states_of (filter (λ p. p.now.adopted == adopted) found) ≡ filter (λ p. p.adopted == adopted) (states_of found)
        → states_of (if b then p ∷ filter (λ p. p.now.adopted == adopted) found else filter (λ p. p.now.adopted == adopted) found)
        ≡ (if b then p.now ∷ filter (λ p. p.adopted == adopted) (states_of found) else filter (λ p. p.adopted == adopted) (states_of found))
    by_test true more = ap (λ ps. p.now ∷ ps) more
    by_test false more = more

-- ---- the leader's or the others

-- whether the promise is the leader's, or whether it is not
abbrev pub is_of : {B : Type 0} → ℕ → Bool → Promise B → Bool
is_of leader leads p = if leads then p.replica == leader else not (p.replica == leader)

-- with those that are left it comes to the first so many
abbrev pub ComesToSome : {B : Type 0} → ℕ → Bool → ℕ → List (Promise B) → ℕ → List (Promise B) → List (Promise B) → ℕ → Type 0
ComesToSome leader leads count all i begun found room = found ++ take room (filter (is_of leader leads) (drop i all)) ≡ begun ++ take count (filter (is_of leader leads) all)

is_of-hit : {B : Type 0} → (leader : ℕ) (leads : Bool) (p : Promise B) → (p.replica == leader) ≡ leads → is_of leader leads p ≡ true
is_of-hit leader true p e = e
is_of-hit leader false p e = ap not e

pub some-add : {B : Type 0} → (leader : ℕ) (leads : Bool) (count : ℕ) (all : List (Promise B)) (i : ℕ) (p : Promise B) (begun old new : List (Promise B)) (room : ℕ) → i < length all → p ≡ get_or all i p → (p.replica == leader) ≡ leads → 0 < room
    → new ≡ old ++ p ∷ [] → ComesToSome leader leads count all i begun old room → ComesToSome leader leads count all (i + 1) begun new (room - 1)
some-add leader leads count all i p begun old new zero within is other some pushed h = absurd (omega (arith, some))
some-add leader leads count all i p begun old new (suc room) within is other some pushed h =
    let more = filter (is_of leader leads) (drop (i + 1) all) in
    let one : suc room - 1 ≡ room = omega arith in
    ap (λ r. new ++ take r more) one
    ∙ ap (λ found. found ++ take room more) pushed
    ∙ append_assoc old (p ∷ []) (take room more)
    ∙ ap (λ b. old ++ take (suc room) (if b then p ∷ more else more)) (sym (is_of-hit leader leads p other))
    ∙ ap (λ left. old ++ take (suc room) (filter (is_of leader leads) left)) (sym (drop_read all i p within is))
    ∙ h

pub states-push : {B : Type 0} → (old new : List (Bor (Promise B))) (p : Bor (Promise B)) → new ≡ old ++ p ∷ [] → states_of new ≡ states_of old ++ p.now ∷ []
states-push {B = B} old new p is = ap states_of is ∙ appended old
  where
    appended : (xs : List (Bor (Promise B))) → states_of (xs ++ p ∷ []) ≡ states_of xs ++ p.now ∷ []
    appended [] = refl
    appended (x ∷ xs) = ap (λ ps. x.now ∷ ps) (appended xs)

pub same_lead : (a b : Bool) → not (beq a b) ≡ false → a ≡ b
same_lead true true e = refl
same_lead true false e = absurd (cc e)
same_lead false true e = absurd (cc e)
same_lead false false e = refl

-- the leader's promise and then the others
pub chosen-both : {B : Type 0} → (f epoch n count : ℕ) (all none one two : List (Promise B)) → n ≡ members f → count ≡ f → none ≡ []
    → one ≡ none ++ take 1 (filter (λ p. p.replica == epoch % n) all) → two ≡ one ++ take count (filter (λ p. not (p.replica == epoch % n)) all) → two ≡ chosen_of f epoch all
chosen-both f epoch n count all none one two n_is count_is empty first both =
    both
    ∙ (λ i. (first ∙ ap (λ xs. xs ++ take 1 (filter (λ p. p.replica == epoch % n) all)) empty) i ++ take (count_is i) (filter (λ p. not (p.replica == epoch % n)) all))
    ∙ ap (λ m. take 1 (filter (λ p. p.replica == epoch % m) all) ++ take f (filter (λ p. not (p.replica == epoch % m)) all)) n_is

pub counting-kept : {B : Type 0} → (found kept : List (Bor (Promise B))) (adopted : ℕ) (all : List (Promise B)) → kept ≡ filter (λ p. p.now.adopted == adopted) found → adopted ≡ highest_of (states_of found)
    → states_of found ≡ all → states_of kept ≡ counting_of all
counting-kept found kept adopted all is highest same =
    ap states_of is ∙ states-filter adopted found ∙ ap (λ a. filter (λ p. p.adopted == a) (states_of found)) highest ∙ ap counting_of same
