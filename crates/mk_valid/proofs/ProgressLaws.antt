-- Validations by the numbers of checks that were passed and given up.
use Rattle.std.proofs.Common.{◌≡◌, ℕ, zero, suc, ◌+◌, ◌<◌, refl, ap, ◌∙◌, arith, List, [], ◌∷◌, take, drop, map, Some, add-one}
use Rattle.std.specs.Prelude.{Option, slice_get}
use Rattle.std.proofs.lemmas.Option.{same_Some}
use Rattle.mk_txn.specs.declared.Conflict.{Conflict}
use Rattle.mk_words.specs.declared.Answer.{Answer}
use Rattle.mk_words.specs.Checks.{KeyAct, release_of}
use Rattle.mk_words.specs.Validations.{first_of, rest_of, next_act, after_answer}
use Rattle.mk_valid.specs.Progress.{validation_at}

pub rest_of-drop : (xs : List KeyAct) (p : ℕ) → rest_of (drop p xs) ≡ drop (suc p) xs
rest_of-drop [] zero = refl
rest_of-drop [] (suc p) = refl
rest_of-drop (y ∷ ys) zero = refl
rest_of-drop (y ∷ ys) (suc p) = rest_of-drop ys p

rest_of-map : (xs : List KeyAct) → rest_of (map release_of xs) ≡ map release_of (rest_of xs)
rest_of-map [] = refl
rest_of-map (x ∷ xs) = refl

first_of-released : (xs : List KeyAct) (p g : ℕ) (x : KeyAct) → g < p → slice_get xs g ≡ Some x
    → first_of (map release_of (drop g (take p xs))) ≡ Some (release_of x)
first_of-released xs zero g x h e = absurd (omega (arith, h))
first_of-released [] (suc p) g x h e = absurd (cc e)
first_of-released (y ∷ ys) (suc p) zero x h e = λ i. Some (release_of (same_Some y x e i))
first_of-released (y ∷ ys) (suc p) (suc g) x h e = first_of-released ys p g x (omega (arith, h)) e

-- the release that is next
pub next-release : (xs : List KeyAct) (p g : ℕ) (r : Option Conflict) (c : Conflict) (x : KeyAct) → r ≡ Some c → g < p → slice_get xs g ≡ Some x
    → next_act (validation_at xs p g r) ≡ Some (release_of x)
next-release xs p g r c x s h e = rw s (first_of-released xs p g x h e)

-- once a check was refused, each answer is one to a release
pub after-release : (xs : List KeyAct) (p g : ℕ) (r : Option Conflict) (c : Conflict) (answer : Answer) → r ≡ Some c
    → after_answer (validation_at xs p g r) answer ≡ validation_at xs p (g + 1) r
after-release xs p g r c answer s =
    let rest = rest_of-map (drop g (take p xs)) ∙ ap (map release_of) (rest_of-drop (take p xs) g) in
    rw (s, add-one g) (λ i. record { passed = take p xs; left = drop (suc p) xs; refusal = Some c; releases = rest i })
