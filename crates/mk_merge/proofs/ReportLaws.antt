-- What is reported of an attempt, replica by replica.
use Rattle.std.proofs.Common.{◌≡◌, ℕ, suc, ◌<◌, ◌≤◌, ◌+◌, ◌-◌, Bool, true, false, refl, sym, ap, ◌∙◌, List, [], ◌∷◌, Option, Some, None, map, arith, nat_lt, if◌then◌else◌}
use Rattle.std.specs.Prelude.{option_and_then}
use Rattle.std.specs.Option.{option_or}
use Rattle.std.proofs.lemmas.Bool.Decides.{nat_tests}
use Rattle.mk_txn.specs.declared.TxnId.{TxnId}
use Rattle.mk_txn.specs.declared.Outcome.{Outcome}
use Rattle.mk_txn.specs.declared.Accepted.{Accepted}
use Rattle.mk_txn.specs.Outcomes.{higher, highest}
use Rattle.mk_words.specs.declared.Entry.{Entry}
use Rattle.mk_words.specs.Promises.{PromiseState}
use Rattle.mk_words.specs.Merging.{reported, reports_from, first_last}

-- the reports from a replica on, of which there is one more
reports-more : (ps : List PromiseState) (id : TxnId) (r end : ℕ) → r < end → reports_from ps id r (end - r) ≡ reported ps id r ∷ reports_from ps id (r + 1) (end - (r + 1))
reports-more ps id r end within = let more : end - r ≡ suc (end - (r + 1)) = omega (arith, within) in ap (reports_from ps id r) more

-- ---- the first final outcome

-- with the replicas that are left it comes to the first of all
abbrev pub ComesToLast : List PromiseState → TxnId → ℕ → ℕ → Type 0
ComesToLast ps id r end = first_last (reports_from ps id r (end - r)) ≡ first_last (reports_from ps id 0 end)

pub last-next : (ps : List PromiseState) (id : TxnId) (r end : ℕ) → r < end → None ≡ option_and_then (λ e. e.last) (reported ps id r) → ComesToLast ps id r end → ComesToLast ps id (r + 1) end
last-next ps id r end within is h =
    ap (λ o. option_or o (first_last (reports_from ps id (r + 1) (end - (r + 1))))) is ∙ sym (ap first_last (reports-more ps id r end within)) ∙ h

-- ---- the highest accepted outcome

higher-none : (a : Option Accepted) → higher a None ≡ a
higher-none None = refl
higher-none (Some a) = refl

higher-through : (a b c : Option Accepted) → higher a (higher b c) ≡ higher (higher a b) c
higher-through None b c = refl
higher-through (Some a) None c = refl
higher-through (Some a) (Some b) None = sym (higher-none (higher (Some a) (Some b)))
higher-through (Some a) (Some b) (Some c) = by_views (nat_lt a.view b.view) (nat_lt b.view c.view) (nat_lt a.view c.view) refl refl refl
  where
    by_views : (ab bc ac : Bool) → nat_lt a.view b.view ≡ ab → nat_lt b.view c.view ≡ bc → nat_lt a.view c.view ≡ ac
        → higher (Some a) (if bc then Some c else Some b) ≡ higher (if ab then Some b else Some a) (Some c)
    by_views true true ac e f g =
        let g' : nat_lt a.view c.view ≡ true = grind (arith, nat_tests, e, f) in
        ap (λ t. if t then Some c else Some a) g' ∙ sym (ap (λ t. if t then Some c else Some b) f)
    by_views true false ac e f g = ap (λ t. if t then Some b else Some a) e ∙ sym (ap (λ t. if t then Some c else Some b) f)
    by_views false true ac e f g = refl
    by_views false false ac e f g =
        let g' : nat_lt a.view c.view ≡ false = grind (arith, nat_tests, e, f) in
        ap (λ t. if t then Some b else Some a) e ∙ sym (ap (λ t. if t then Some c else Some a) g')

-- what each replica accepted
abbrev pub accepted_in : List (Option Entry) → List (Option Accepted)
accepted_in all = map (λ report. option_and_then (λ e. e.accepted) report) all

-- with the replicas that are left it comes to the highest of all
abbrev pub ComesToHighestView : List PromiseState → TxnId → ℕ → ℕ → Option Accepted → Type 0
ComesToHighestView ps id r end best = higher best (highest (accepted_in (reports_from ps id r (end - r)))) ≡ highest (accepted_in (reports_from ps id 0 end))

pub view-next : (ps : List PromiseState) (id : TxnId) (r end : ℕ) (old next new : Option Accepted) → r < end → next ≡ option_and_then (λ e. e.accepted) (reported ps id r) → new ≡ higher old next
    → ComesToHighestView ps id r end old → ComesToHighestView ps id (r + 1) end new
view-next ps id r end old next new within is made h =
    let rest = highest (accepted_in (reports_from ps id (r + 1) (end - (r + 1)))) in
    ap (λ best. higher best rest) (made ∙ ap (higher old) is)
    ∙ sym (higher-through old (option_and_then (λ e. e.accepted) (reported ps id r)) rest)
    ∙ sym (ap (λ all. higher old (highest (accepted_in all))) (reports-more ps id r end within))
    ∙ h
