-- So the watermark that is gathered after some rounds of a legal run is the one that is shown.
use Rattle.std.proofs.Common.{◌≡◌, ◌∙◌, ◌<◌, ◌||◌, ℕ, zero, suc, refl, sym, ap, arith, List, [], ◌∷◌, ◌++◌, Option, Some, None, find, length, map, take}
use Rattle.std.specs.Prelude.{option_map, is_some, slice_index_or}
use Rattle.std.specs.List.{list_any}
use Rattle.mk_lists.proofs.Lookups.{list_any-find}
use Rattle.mk_txn.specs.declared.Stamp.{Stamp}
use Rattle.mk_txn.specs.declared.TxnId.{TxnId}
use Rattle.mk_txn.specs.Transactions.{same_id}
use Rattle.mk_model.specs.ColumnState.{ColumnState, ClientState, Learning, new_column}
use Rattle.mk_model.specs.Learnings.{is_decision_of, decided}
use Rattle.mk_model.specs.Logs.{reading_ended}
use Rattle.mk_column.specs.ColumnByCode.{ColumnView}
use Rattle.mk_column_laws.specs.Identity.{Identity}
use Rattle.mk_history.specs.declared.RoundLog.{RoundLog}
use Rattle.mk_history.specs.Histories.{History, clients_of}
use Rattle.mk_history.specs.Legality.{IsLegal}
use Rattle.mk_history.specs.Learning.{Found, first_path}
use Rattle.mk_history.specs.Wholes.{first_state, state_through, column_of}
use Rattle.mk_record_laws.specs.Attempts.{AttemptsAreFound}
use Rattle.mk_run_laws.specs.Joins.{EndsJoin}
use Rattle.mk_run_laws.specs.Lifts.{MomentsOfRounds}
use Rattle.mk_run_laws.specs.RunEvents.{moment_of}
use Rattle.mk_run_laws.specs.RunLaws.{IdsInRuns, TeachingStays, RunsReachMoments}
use Rattle.mk_run_laws.specs.TaughtIn.{taught_in}
use Rattle.mk_run_laws.proofs.StampColumns.{numbers_then}
use Rattle.mk_state.specs.Handing.{states_in}
use Rattle.mk_run.specs.declared.firsts.FirstLearning.{FirstLearning}
use Rattle.mk_run.specs.Firsts.{first_in, first_found}
use Rattle.mk_run.specs.Lines.{view_at}
use Rattle.mk_run.specs.Walking.{told_along, WalkView, HasWalked}
use Rattle.mk_feed_words.specs.Feed.{earlier_stamp, least_to, least_over}
use Rattle.mk_feed_words.specs.MarkStamps.{mark_for, is_closed, stamped_of, mark_of_column}
use Rattle.mk_feed_words.specs.Shown.{settled_by, mark_at}
use Rattle.mk_shown.specs.Gathering.{gathered, closed_by, mark_by}
use Rattle.mk_shown.specs.Laws.{WatermarksAreShown}
use Rattle.mk_shown.proofs.GatherLaws.{gathered-part, stamped-part, gathered-alike, stamped-ended}
use Rattle.mk_shown.proofs.MemberLaws.{mark-same}
use Rattle.mk_shown.proofs.ToldLaws.{settled-told}

-- ---- lists

take-front : {X : Type 0} (xs ys : List X) → take (length xs) (xs ++ ys) ≡ xs
take-front [] ys = refl
take-front (x ∷ xs) ys = ap (λ (rest : List _). x ∷ rest) (take-front xs ys)

least_to-same : (f g : ℕ → Stamp) (n : ℕ) → ((c : ℕ) → c < suc n → f c ≡ g c) → least_to f n ≡ least_to g n
least_to-same f g zero h = h 0 (omega arith)
least_to-same f g (suc n) h =
    let before = least_to-same f g n (λ c lt. h c (omega (arith, lt))) in
    let last = h (suc n) (omega arith) in
    λ i. earlier_stamp (before i) (last i)

least_over-same : (f g : ℕ → Stamp) (n : ℕ) → ((c : ℕ) → c < n → f c ≡ g c) → least_over f n ≡ least_over g n
least_over-same f g zero h = refl
least_over-same f g (suc n) h = least_to-same f g n h

-- the column of a number as it is kept, once its reading has ended
column-is : (columns : List ColumnView) (c : ℕ) → c < length columns → slice_index_or (map reading_ended (states_in columns)) c (new_column 0 []) ≡ reading_ended (view_at columns c).state
column-is [] c lt = absurd (omega (arith, lt))
column-is (column ∷ columns) zero lt = refl
column-is (column ∷ columns) (suc c) lt = column-is columns c (omega (arith, lt))

-- ---- what is closed

told-found : (id : TxnId) (all : List Found) → is_some (first_found id all) ≡ list_any (λ f. same_id f.id id) all
told-found id all = by (find (λ f. same_id f.id id) all) ∙ sym (list_any-find (λ (f : Found). same_id f.id id) all)
  where
    found_of : Found → FirstLearning
    found_of f = record { id = f.id; outcome = f.outcome; path = first_path id all }

    by : (o : Option Found) → is_some (option_map found_of o) ≡ is_some o
    by None = refl
    by (Some f) = refl

closed-is : (run : History) (walk : WalkView) (done rest : List RoundLog) → run.rounds ≡ done ++ rest → HasWalked run walk done →
    (kept column : ColumnState) → kept.learned ≡ column.learned → (id : TxnId) → closed_by walk kept id ≡ is_closed (settled_by run (length done)) column id
closed-is run walk done rest split walked kept column learned id =
    let d : is_some (decided kept id) ≡ is_some (decided column id) = ap (λ (ls : List Learning). is_some (option_map (λ (l : Learning). l.outcome) (find (is_decision_of id) ls))) learned in
    let s : is_some (first_in id walk.settled) ≡ list_any (λ other. same_id other id) (settled_by run (length done)) =
    ap is_some (walked.settled id) ∙ told-found id (told_along run done) ∙ sym (settled-told run done rest split id) in
    λ i. d i || s i

-- ---- one column

module _ (found : AttemptsAreFound) (teaching : TeachingStays) (reach : RunsReachMoments) (ids : IdsInRuns) (moments : MomentsOfRounds) (ends : EndsJoin) where
  mark-shown : (run : History) → IsLegal run → (done rest : List RoundLog) → run.rounds ≡ done ++ rest → (walk : WalkView) → HasWalked run walk done → (c : ℕ) → c < run.columns →
      mark_by walk run.client_columns c (view_at walk.whole.columns c).state ≡ mark_of_column (settled_by run (length done)) (column_of (state_through run (first_state run) done) c)
  mark-shown run legal done rest split walk walked c lt =
      let settled = settled_by run (length done) in
      let state = state_through run (first_state run) done in
      let column = column_of state c in
      let kept = (view_at walk.whole.columns c).state in
      let m = moment_of run c done in
      let at = moments run c done rest split in
      let e = ends run c lt done in
      let clients = clients_of c 1 run.client_columns in
      let count = walked.at.sizes.columns in
      let is : column ≡ reading_ended kept =
      ap (λ (columns : List ColumnState). slice_index_or columns c (new_column 0 [])) (sym walked.at.columns) ∙ column-is walk.whole.columns c (omega (arith, count, lt)) in
      let numbers : map (λ (x : ClientState). x.number) m.column.clients ≡ clients = numbers_then run c m at in
      let closed = is_closed settled column in
      -- what is gathered of the column as it is kept is what is gathered at the moment
      let tests : gathered (closed_by walk kept) kept clients ≡ gathered closed kept clients =
      λ i. gathered (λ id. closed-is run walk done rest split walked kept column (ap (λ (x : ColumnState). x.learned) (sym is)) id i) kept clients in
      let ended : gathered closed column clients ≡ gathered closed kept clients =
      gathered-alike closed column kept (ap (λ (x : ColumnState). x.clients) is) (ap (λ (x : ColumnState). x.attempts) is) clients in
      let then : gathered closed column clients ≡ gathered closed m.column clients = gathered-alike closed column m.column e.clients e.attempts clients in
      -- which has the members that are stamped
      let identity : Identity m.column.clients m.column.attempts = ids run legal c lt m at in
      let there = found (taught_in run) (teaching run) m (reach run legal c lt m at) in
      let same = mark-same clients (gathered closed m.column clients) (stamped_of settled column m.column.attempts)
      (gathered-part m.column identity there settled column clients numbers) (stamped-part m.column identity there settled column clients numbers) in
      let stamped : stamped_of settled column column.attempts ≡ stamped_of settled column m.column.attempts =
      ap (stamped_of settled column) e.attempts ∙ stamped-ended settled column m.column.attempts in
      let own : map (λ (x : ClientState). x.number) column.clients ≡ clients = ap (map (λ (x : ClientState). x.number)) e.clients ∙ numbers in
      ap (mark_for clients) (tests ∙ sym ended ∙ then)
      ∙ same
      ∙ (λ i. mark_for (sym own i) (sym stamped i))

  pub watermarks-shown : WatermarksAreShown
  watermarks-shown run legal done rest split walk walked =
      let n = length done in
      let count = walked.at.sizes.columns in
      let front : take n run.rounds ≡ done = ap (take n) split ∙ take-front done rest in
      let each : (c : ℕ) → c < run.columns → mark_by walk run.client_columns c (view_at walk.whole.columns c).state ≡ mark_at run n c =
      λ c lt. mark-shown run legal done rest split walk walked c lt
      ∙ ap (λ (rounds : List RoundLog). mark_of_column (settled_by run n) (column_of (state_through run (first_state run) rounds) c)) (sym front) in
      ap (least_over (λ c. mark_by walk run.client_columns c (view_at walk.whole.columns c).state)) count
      ∙ least_over-same (λ c. mark_by walk run.client_columns c (view_at walk.whole.columns c).state) (mark_at run n) run.columns each
