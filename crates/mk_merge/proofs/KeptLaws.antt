-- What is kept of a base, put together from its list.
use Rattle.std.proofs.Common.{◌≡◌, ℕ, ◌<◌, ◌≤◌, ◌+◌, Bool, true, false, refl, sym, ap, subst, ◌∙◌, List, [], ◌∷◌, ◌++◌, length, get_or, drop, append_assoc, not, arith, if◌then◌else◌}
use Rattle.std.proofs.lemmas.Bool.Decides.{nat_tests}
use Rattle.std.proofs.lemmas.List.{append-nil, drop_all}
use Rattle.mk_lists.specs.Among.{Each, Each-append}
use Rattle.mk_txn.specs.declared.TxnId.{TxnId}
use Rattle.mk_txn.specs.declared.Outcome.{Outcome}
use Rattle.mk_txn.specs.MarkMaps.{MarkMap, IsMarkMap, joined_marks, covers}
use Rattle.mk_txn.specs.Transactions.{id_before}
use Rattle.mk_txn.proofs.MarkLaws.{IsMarkMap-joined, mark_of-joined, MarkMap-from_marks}
use Rattle.mk_words.specs.KeptOutcomes.{KeptOutcomes, Outcomes, put_outcome, with_outcome, not_covered, covered_by, nothing_kept}
use Rattle.mk_words.specs.declared.Fated.{Fated}
use Rattle.mk_words.specs.Bases.{IsInIdOrder, fates_in, kept_of}
use Rattle.mk_merge_laws.specs.Adding.{put_fates}
use Rattle.mk_lists.proofs.Places.{drop_read}

-- marks that join none are the marks
pub joined_marks-none : (marks : MarkMap) → IsMarkMap marks → joined_marks [] marks ≡ marks
joined_marks-none marks h =
    MarkMap-from_marks (joined_marks [] marks) marks (IsMarkMap-joined [] marks tt) h (λ client. grind (arith, nat_tests, mark_of-joined [] marks client tt h))

-- an outcome whose attempt is after all others stands at the end
put_outcome-last : (id : TxnId) (outcome : Outcome) (outcomes : Outcomes) → Each (λ first. id_before first.0 id ≡ true) outcomes → put_outcome id outcome outcomes ≡ outcomes ++ (id, outcome) ∷ []
put_outcome-last id outcome [] h = refl
put_outcome-last id outcome (first ∷ rest) h = grind (arith, put_outcome-last id outcome rest h.1, h.0)

-- each of the list is after all that are kept
abbrev AreAfter : List Fated → Outcomes → Type 0
AreAfter list outcomes = Each (λ (f : Fated). Each (λ first. id_before first.0 f.txn.id ≡ true) outcomes) list

put_fates-kept : (marks : MarkMap) (list : List Fated) (outcomes : Outcomes) → IsInIdOrder list → AreAfter list outcomes
    → put_fates list (record { outcomes = outcomes; marks = marks }) ≡ record { outcomes = outcomes ++ not_covered marks (fates_in list); marks = marks }
put_fates-kept marks [] outcomes order after = λ i. record { outcomes = sym (append-nil outcomes) i; marks = marks }
put_fates-kept marks (f ∷ list) outcomes order after =
    by_cover (covers marks f.txn.id) (put_fates-kept marks list outcomes order.1 after.1) (put_fates-kept marks list (outcomes ++ (f.txn.id, f.outcome) ∷ []) order.1 later)
  where
    later : AreAfter list (outcomes ++ (f.txn.id, f.outcome) ∷ [])
    later = both list order.0 after.1
      where
        both : (rest : List Fated) → Each (λ (g : Fated). id_before f.txn.id g.txn.id ≡ true) rest → AreAfter rest outcomes → AreAfter rest (outcomes ++ (f.txn.id, f.outcome) ∷ [])
        both [] h k = tt
        both (g ∷ rest) h k = (Each-append (λ first. id_before first.0 g.txn.id ≡ true) outcomes ((f.txn.id, f.outcome) ∷ []) k.0 (h.0, tt), both rest h.1 k.1)

    by_cover : (b : Bool)
        → put_fates list (record { outcomes = outcomes; marks = marks }) ≡ record { outcomes = outcomes ++ not_covered marks (fates_in list); marks = marks }
        → put_fates list (record { outcomes = outcomes ++ (f.txn.id, f.outcome) ∷ []; marks = marks }) ≡ record { outcomes = (outcomes ++ (f.txn.id, f.outcome) ∷ []) ++ not_covered marks (fates_in list); marks = marks }
        → put_fates list (record { outcomes = if b then outcomes else put_outcome f.txn.id f.outcome outcomes; marks = marks })
        ≡ record { outcomes = outcomes ++ (if not b then (f.txn.id, f.outcome) ∷ not_covered marks (fates_in list) else not_covered marks (fates_in list)); marks = marks }
    by_cover true same put = same
    by_cover false same put =
        ap (λ os. put_fates list (record { outcomes = os; marks = marks })) (put_outcome-last f.txn.id f.outcome outcomes after.0)
        ∙ put
        ∙ ap (λ os. record { outcomes = os; marks = marks }) (append_assoc outcomes ((f.txn.id, f.outcome) ∷ []) (not_covered marks (fates_in list)))

-- with those that are left it comes to what is kept of the base
abbrev pub ComesToKept : List Fated → MarkMap → List Fated → KeptOutcomes → Type 0
ComesToKept list marks left kept = put_fates left kept ≡ kept_of (record { list = list; marks = marks })

after_none : (list : List Fated) → AreAfter list []
after_none [] = tt
after_none (f ∷ list) = (tt, after_none list)

pub kept-begins : (list : List Fated) (marks : MarkMap) (kept : KeptOutcomes) → IsInIdOrder list → IsMarkMap marks → kept ≡ covered_by marks nothing_kept → ComesToKept list marks (drop 0 list) kept
kept-begins list marks kept order h is =
    ap (put_fates list) (is ∙ (λ i. record { outcomes = []; marks = joined_marks-none marks h i })) ∙ put_fates-kept marks list [] order (after_none list)

pub kept-next : (list : List Fated) (marks : MarkMap) (i : ℕ) (f : Fated) (old new : KeptOutcomes) → i < length list → f ≡ get_or list i f → new ≡ with_outcome f.txn.id f.outcome old
    → ComesToKept list marks (drop i list) old → ComesToKept list marks (drop (i + 1) list) new
kept-next list marks i f old new within is put e =
    ap (put_fates (drop (i + 1) list)) put ∙ subst (λ left. put_fates left old ≡ kept_of (record { list = list; marks = marks })) (drop_read list i f within is) e
