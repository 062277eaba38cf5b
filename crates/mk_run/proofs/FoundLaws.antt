-- What is found along logs is what columns list as learned, and what is found first.
use Rattle.std.proofs.Common.{◌≡◌, ◌∙◌, ◌+◌, ℕ, Bool, true, false, refl, sym, ap, List, [], ◌∷◌, ◌++◌, Option, Some, None, if◌then◌else◌, append_assoc, map}
use Rattle.std.specs.Prelude.{find, option_map, unwrap_or}
use Rattle.std.specs.Option.{option_or}
use Rattle.std.proofs.lemmas.List.{append-nil, map-append}
use Rattle.std.proofs.lemmas.Option.{same_Some, none-some}
use Rattle.mk_lists.proofs.Lookups.{find-map, find-passes}
use Rattle.mk_txn.specs.declared.TxnId.{TxnId}
use Rattle.mk_txn.specs.Transactions.{same_id}
use Rattle.mk_txn.proofs.IdOrder.{same_id-tells}
use Rattle.mk_words.specs.declared.Step.{Step}
use Rattle.mk_model.specs.ColumnState.{Setting, ColumnState, Learning}
use Rattle.mk_model.specs.Learnings.{learned_in_step}
use Rattle.mk_model.specs.Logs.{column_through}
use Rattle.mk_model.specs.Steps.{column_after}
use Rattle.mk_history.specs.declared.Path.{Path}
use Rattle.mk_history.specs.declared.Path.TheVariants.{Fast}
use Rattle.mk_history.specs.Histories.{History}
use Rattle.mk_history.specs.Learning.{Place, Found, Learnt, found, found_in_log, all_found, first_path, with_path}
use Rattle.mk_history.specs.Learning.Place.{InLog}
use Rattle.mk_run.specs.declared.firsts.FirstLearning.{FirstLearning}
use Rattle.mk_run.specs.Attempts.{first_in_run}
use Rattle.mk_run.specs.Firsts.{StandsForFound, kept_of_found, kept_of_learning}
use Rattle.mk_run.specs.Lines.{told_by, first_told}

-- ---- what is learned along a log

abbrev pub learned_along : Setting → ColumnState → List Step → List Learning
learned_along setting column [] = []
learned_along setting column (step ∷ steps) = learned_in_step setting column step ++ learned_along setting (column_after setting column step) steps

pub learned-through : (setting : Setting) (column : ColumnState) (steps : List Step) → (column_through setting column steps).learned ≡ column.learned ++ learned_along setting column steps
learned-through setting column [] = sym (append-nil column.learned)
learned-through setting column (step ∷ steps) =
    learned-through setting (column_after setting column step) steps
    ∙ append_assoc column.learned (learned_in_step setting column step) (learned_along setting (column_after setting column step) steps)

kept-found : (place : Place) (learnings : List Learning) → map kept_of_found (map (found place) learnings) ≡ map kept_of_learning learnings
kept-found place [] = refl
kept-found place (l ∷ learnings) = ap (λ rest. kept_of_learning l ∷ rest) (kept-found place learnings)

-- what is kept of what is found along a log is what is kept of what the column learns
pub found-along : (number c entry : ℕ) (setting : Setting) (column : ColumnState) (steps : List Step) →
    map kept_of_found (found_in_log number c entry setting column steps) ≡ map kept_of_learning (learned_along setting column steps)
found-along number c entry setting column [] = refl
found-along number c entry setting column (step ∷ steps) =
    let here = learned_in_step setting column step in
    let next = column_after setting column step in
    map-append kept_of_found (map (found (InLog number c entry)) here) (found_in_log number c (entry + 1) setting next steps)
    ∙ ap (λ (xs : List FirstLearning). xs ++ map kept_of_found (found_in_log number c (entry + 1) setting next steps)) (kept-found (InLog number c entry) here)
    ∙ ap (λ (xs : List FirstLearning). map kept_of_learning here ++ xs) (found-along number c (entry + 1) setting next steps)
    ∙ sym (map-append kept_of_learning here (learned_along setting next steps))

-- ---- what is found first

or_twice : (a b : Option Path) → option_or a (option_or a b) ≡ option_or a b
or_twice None b = refl
or_twice (Some x) b = refl

-- the path of what is found first comes first
own_path-first : (id : TxnId) (all : List Found) (f : Found) → find (λ g. same_id g.id id) all ≡ Some f → option_or f.own_path (first_path id all) ≡ first_path id all
own_path-first id [] f e = absurd (none-some f e)
own_path-first id (x ∷ all) f e = by_test (same_id x.id id) (own_path-first id all f) e
  where
    by_test : (b : Bool) → (find (λ g. same_id g.id id) all ≡ Some f → option_or f.own_path (first_path id all) ≡ first_path id all) →
        (if b then Some x else find (λ g. same_id g.id id) all) ≡ Some f →
        option_or f.own_path (if b then option_or x.own_path (first_path id all) else first_path id all) ≡ (if b then option_or x.own_path (first_path id all) else first_path id all)
    by_test true rest is =
        ap (λ (g : Found). option_or g.own_path (option_or x.own_path (first_path id all))) (sym (same_Some x f is)) ∙ or_twice x.own_path (first_path id all)
    by_test false rest is = rest is

-- what is kept of all that is found in a run tells what is learned first
pub told-first : (run : History) (firsts : List FirstLearning) → StandsForFound firsts (all_found run) → (id : TxnId) → first_told firsts id ≡ first_in_run run id
told-first run firsts stands id =
    let all = all_found run in
    ap (option_map told_by) (stands id)
    ∙ by_first (find (λ f. same_id f.id id) all) refl
    ∙ sym (ap (option_map (λ (l : Learnt). (l.outcome, l.path))) (find-map (λ (l : Learnt). same_id l.id id) (with_path all) all))
  where
    by_first : (o : Option Found) → find (λ f. same_id f.id id) (all_found run) ≡ o →
        option_map told_by (option_map (λ (f : Found). record { id = f.id; outcome = f.outcome; path = first_path id (all_found run) }) o)
        ≡ option_map (λ (l : Learnt). (l.outcome, l.path)) (option_map (with_path (all_found run)) o)
    by_first None is = refl
    by_first (Some f) is =
        let here : f.id ≡ id = same_id-tells f.id id (find-passes (λ g. same_id g.id id) (all_found run) f is) in
        let path : option_or f.own_path (first_path f.id (all_found run)) ≡ first_path id (all_found run) =
        ap (λ (i : TxnId). option_or f.own_path (first_path i (all_found run))) here ∙ own_path-first id (all_found run) f is in
        ap (λ (p : Option Path). Some (f.outcome, unwrap_or p Fast)) (sym path)
