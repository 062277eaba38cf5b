-- What is found first of an attempt is an Enter's, or what a column lists first of it, and that is at first hand.
use Rattle.std.proofs.Common.{◌≡◌, ◌<◌, ℕ, true, refl, inl, inr, sym, ap, ◌∙◌, List, [], Option, Some, None}
use Rattle.std.specs.Prelude.{find, is_some, option_map}
use Rattle.std.specs.Option.{option_or, unwrap_or}
use Rattle.std.proofs.lemmas.Option.{same_Some}
use Rattle.std.proofs.lemmas.List.{append-nil}
use Rattle.mk_lists.proofs.Lookups.{find-map}
use Rattle.mk_txn.specs.declared.TxnId.{TxnId}
use Rattle.mk_txn.specs.declared.Outcome.{Outcome}
use Rattle.mk_txn.specs.Transactions.{same_id}
use Rattle.mk_model.specs.ColumnState.{Learning, Way}
use Rattle.mk_model.specs.ColumnState.Way.{ByVotes, ByAccepts, ByPick, ByMoved, ByTelling, ByFinishing}
use Rattle.mk_record_laws.specs.Listed.{is_first_hand, FirstIsFirstHand}
use Rattle.mk_history.specs.declared.Path.{Path}
use Rattle.mk_history.specs.declared.Path.TheVariants.{Fast}
use Rattle.mk_history.specs.Learning.{Found, Learnt, path_of, all_found, first_path, with_path}
use Rattle.mk_run_laws.specs.Ends.{last_moment}
use Rattle.mk_run_laws.specs.Learnt.{FirstHasSource, without_place, with_way}
use Rattle.mk_run_laws.specs.Lifts.{MomentsOfRounds}
use Rattle.mk_run_laws.specs.RunLaws.{TeachingStays, RunsReachMoments}
use Rattle.mk_run_laws.specs.TaughtIn.{taught_in}
use Rattle.mk_safety.specs.FirstPaths.{FirstHasPath, IsFoundFirst, FirstPathIsOwn}

-- who learns at first hand has a path
has_path : (way : Way) → is_first_hand way ≡ true → is_some (path_of way) ≡ true
has_path ByVotes e = refl
has_path ByAccepts e = refl
has_path (ByPick view) e = refl
has_path (ByMoved epoch) e = refl
has_path ByTelling e = absurd (cc e)
has_path ByFinishing e = absurd (cc e)

pub first_has_path : FirstIsFirstHand → TeachingStays → RunsReachMoments → MomentsOfRounds → FirstHasSource → FirstHasPath
first_has_path first_hand teaching reach moments source run legal id f e = elim (source run id f e) [
  | inl own ↦ own
  | inr listed ↦ by listed
]
  where
    by : (c : ℕ) × (c < run.columns) × (k : Learning) × (find (λ k. same_id k.id id) (last_moment run c).column.learned ≡ Some k) × (without_place f ≡ with_way k) → is_some f.own_path ≡ true
    by (c, lt, k, found, same) =
        let m = last_moment run c in
        let reached = reach run legal c lt m (moments run c run.rounds [] (sym (append-nil run.rounds))) in
        let way = first_hand (taught_in run) (teaching run) m reached id k found in
        ap (λ (x : TxnId × (Outcome × Option Path)). is_some x.1.1) same ∙ has_path k.way way

-- ---- what is shown

pub first_path_is_own : FirstHasPath → FirstPathIsOwn
first_path_is_own first run legal id l e = by (find (λ f. same_id f.id id) (all_found run)) refl (sym (find-map (λ (x : Learnt). same_id x.id id) (with_path (all_found run)) (all_found run)) ∙ e)
  where
    own_is : (all : List Found) (f : Found) → is_some f.own_path ≡ true → f.own_path ≡ Some (with_path all f).path
    own_is all f has = case f.own_path has
      where
        case : (o : Option Path) → is_some o ≡ true → o ≡ Some (unwrap_or (option_or o (first_path f.id all)) Fast)
        case (Some path) k = refl
        case None k = absurd (cc k)

    by : (o : Option Found) → find (λ f. same_id f.id id) (all_found run) ≡ o → option_map (with_path (all_found run)) o ≡ Some l → IsFoundFirst run id l
    by None k is = absurd (cc is)
    by (Some f) k is =
        let same : with_path (all_found run) f ≡ l = same_Some (with_path (all_found run) f) l is in
        record {
          found = f;
          first = k;
          learnt = sym same;
          path = own_is (all_found run) f (first run legal id f k) ∙ ap (λ (x : Learnt). Some x.path) same;
        }
