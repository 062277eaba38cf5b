-- Tests that were passed, as facts, and facts as tests.
use Rattle.std.proofs.Common.{◌≡◌, ℕ, ◌<◌, ◌≤◌, Bool, true, false, cond, leb, ltb, not, List, [], ◌∷◌, ◌++◌, Option, Some, None, refl, arith, inl, inr}
use Rattle.std.specs.Prelude.{is_some}
use Rattle.std.specs.Str.{bytes_eq}
use Rattle.mk_spelling.specs.Fields.{named}
use Rattle.std.proofs.lemmas.Bool.Decides.{nat_tests}
use Rattle.mk_script.specs.declared.words.Section.{Section}
use Rattle.mk_script.specs.declared.words.Section.TheVariants as sections
use Rattle.mk_script.specs.Grammar.{IsInRounds, IsBehindPrelude}
use Rattle.mk_script.specs.Faults.{at_start, at_size, in_prelude, in_rounds, behind_prelude}

pub start_from : (x : Section) → at_start x ≡ true → x ≡ sections.Start
start_from sections.Start e = refl
start_from sections.Opened e = absurd cc
start_from sections.Prelude e = absurd cc
start_from sections.Round e = absurd cc
start_from sections.Globals e = absurd cc

pub size_from : (x : Section) → at_size x ≡ true → x ≡ sections.Opened
size_from sections.Start e = absurd cc
size_from sections.Opened e = refl
size_from sections.Prelude e = absurd cc
size_from sections.Round e = absurd cc
size_from sections.Globals e = absurd cc

pub prelude_from : (x : Section) → in_prelude x ≡ true → x ≡ sections.Prelude
prelude_from sections.Start e = absurd cc
prelude_from sections.Opened e = absurd cc
prelude_from sections.Prelude e = refl
prelude_from sections.Round e = absurd cc
prelude_from sections.Globals e = absurd cc

pub rounds_from : (x : Section) → in_rounds x ≡ true → IsInRounds x
rounds_from sections.Start e = absurd cc
rounds_from sections.Opened e = absurd cc
rounds_from sections.Prelude e = inl refl
rounds_from sections.Round e = inr refl
rounds_from sections.Globals e = absurd cc

pub behind_from : (x : Section) → behind_prelude x ≡ true → IsBehindPrelude x
behind_from sections.Start e = absurd cc
behind_from sections.Opened e = absurd cc
behind_from sections.Prelude e = inl (inl refl)
behind_from sections.Round e = inl (inr refl)
behind_from sections.Globals e = inr refl

pub to_rounds : (x : Section) → IsInRounds x → in_rounds x ≡ true
to_rounds x (inl e) = rw e refl
to_rounds x (inr e) = rw e refl

pub to_behind : (x : Section) → IsBehindPrelude x → behind_prelude x ≡ true
to_behind x (inl (inl e)) = rw e refl
to_behind x (inl (inr e)) = rw e refl
to_behind x (inr e) = rw e refl

pub none_from : {A : Type 0} (o : Option A) → not (is_some o) ≡ true → o ≡ None
none_from None e = refl
none_from (Some x) e = absurd cc

pub none_test : {A : Type 0} (o : Option A) → o ≡ None → not (is_some o) ≡ true
none_test o e = rw e refl

-- a value of the first list, else one of the second
abbrev pub one_or : {A : Type 0} → Option A → Option A → Option A
one_or None o = o
one_or (Some x) o = Some x

pub named_append : {A : Type 0} (text : A → List ℕ) (xs ys : List A) (word : List ℕ)
    → named text (xs ++ ys) word ≡ one_or (named text xs word) (named text ys word)
named_append text [] ys word = refl
named_append {A} text (x ∷ xs) ys word = here (bytes_eq (text x) word) (named_append text xs ys word)
  where
    here : (t : Bool) → named text (xs ++ ys) word ≡ one_or (named text xs word) (named text ys word)
        → cond t (Some x) (named text (xs ++ ys) word) ≡ one_or (cond t (Some x) (named text xs word)) (named text ys word)
    here true rest = refl
    here false rest = rest
