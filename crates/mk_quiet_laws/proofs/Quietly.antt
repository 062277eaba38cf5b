-- Every attempt of a quiet script commits on the fast path.
use Rattle.std.proofs.Common.{◌≡◌, ◌⊎◌, ◌<◌, ◌∙◌, ℕ, zero, suc, ◌+◌, Bool, true, false, refl, arith, inl, inr, sym, ap, subst, List, [], ◌∷◌, ◌++◌, length, map, Option, Some, None, cond, ◌==◌, if◌then◌else◌}
use Rattle.std.specs.Prelude.{find, filter, flat_map, replicate, slice_get, slice_index_or, option_map}
use Rattle.std.proofs.lemmas.Option.{same_Some}
use Rattle.std.proofs.lemmas.List.{append-nil, map-append, length-map}
use Rattle.mk_lists.specs.Among.{Among, Each, Each-among, Among-append_left, Among-append_right}
use Rattle.mk_lists.proofs.Lookups.{find_tells, find-from_Among, find-map}
use Rattle.mk_lists.proofs.Members.{Among-map, Among-from_map, Among-filter}
use Rattle.mk_txn.specs.declared.TxnId.{TxnId}
use Rattle.mk_txn.specs.declared.Outcome.{Outcome}
use Rattle.mk_txn.specs.declared.Outcome.TheVariants.{Commit}
use Rattle.mk_txn.specs.Transactions.{Transaction, same_id}
use Rattle.mk_txn.proofs.IdOrder.{same_id-itself}
use Rattle.mk_words.specs.declared.Act.TheVariants.{Get}
use Rattle.mk_words.specs.declared.Answer.{Answer}
use Rattle.mk_words.specs.declared.JournalEntry.{JournalEntry}
use Rattle.mk_words.specs.Cells.{CellState, first_cell}
use Rattle.mk_words.specs.Journals.{EachAnswered}
use Rattle.mk_words.specs.Validations.{ValidationState}
use Rattle.mk_quorum.specs.Sizes.{members}
use Rattle.mk_trim.specs.declared.ReplicaView.{ReplicaView}
use Rattle.mk_script.specs.declared.lines.ClientLine.{ClientLine}
use Rattle.mk_script.specs.declared.lines.Round.{Round}
use Rattle.mk_script.specs.declared.lines.TxnLine.{TxnLine}
use Rattle.mk_script.specs.Scripts.{ScriptParts}
use Rattle.mk_script.specs.Whole.{IsWhole}
use Rattle.mk_script.specs.Quiet.{IsQuiet}
use Rattle.mk_faults.specs.Fates.{rules_of}
use Rattle.mk_words.specs.declared.KeyCall.{KeyCall}
use Rattle.mk_words.specs.declared.Step.{Step}
use Rattle.mk_words.specs.declared.Step.TheVariants.{Key}
use Rattle.mk_model.specs.ColumnState.{Setting, ColumnState, AttemptState, ClientState, Way, attempt_of, client_of, is_attempt, is_client, new_client, new_column, numbers_from}
use Rattle.mk_model.specs.ColumnState.Work.{Idle, Validating}
use Rattle.mk_model.specs.ColumnState.Way.{ByVotes, ByTelling, ByFinishing}
use Rattle.mk_model.specs.EpochState.{first_epochs, first_replica, views_of, view_of}
use Rattle.mk_model.specs.Learnings.{learning}
use Rattle.mk_model.specs.Logs.{EachEnabled, not_reading}
use Rattle.mk_model.specs.Replicas.{serves, is_serving}
use Rattle.mk_column_laws.specs.Moments.{Moment, PastAct, PastEntry, Taught, StaysTaught, IsReached, Event, moment_through, round_begun}
use Rattle.mk_column_laws.specs.Moments.Event.{NewRound, Doing}
use Rattle.mk_column_laws.specs.KeyActs.{ActOrigin}
use Rattle.mk_column_laws.specs.KeyActs.ActOrigin.{OfRead, OfCheck, OfRelease, OfCommit}
use Rattle.mk_column_laws.specs.Facts.{Facts}
use Rattle.mk_column_laws.proofs.Rounds.{reached_facts}
use Rattle.mk_history.specs.declared.Path.{Path}
use Rattle.mk_history.specs.declared.Path.TheVariants.{Fast}
use Rattle.mk_history.specs.declared.RoundLog.{RoundLog}
use Rattle.mk_history.specs.Histories.{History, log_of, journal_of, clients_of}
use Rattle.mk_history.specs.Learning.{Found, Learnt, path_of, all_found, with_path, learned}
use Rattle.mk_history.specs.Legality.{IsLegal, IsLegalRound, EachRoundLegal}
use Rattle.mk_history.specs.Matching.{Turn, turns_in_log}
use Rattle.mk_history.specs.Shape.{HasShape, IsRoundShape}
use Rattle.mk_history.specs.Wholes.{first_state, column_of, cell_of}
use Rattle.mk_run_laws.specs.Ends.{last_moment, client_column}
use Rattle.mk_run_laws.specs.Learnt.{is_in_column, without_place, with_way}
use Rattle.mk_run_laws.specs.RunEvents.{IsMomentOf, events_of, start_of}
use Rattle.mk_run_laws.specs.TaughtIn.{taught_in}
use Rattle.mk_run_laws.specs.Tenures.{dated_at, has_epoch}
use Rattle.mk_run_laws.proofs.Joined.{column_first, has_column}
use Rattle.mk_run_laws.proofs.LastMoments.{last_is_moment}
use Rattle.mk_run_laws.proofs.Ranges.{seat_in_range}
use Rattle.mk_run_laws.proofs.Turns.{entry_turn, turn_of_entry, turn_done, act_then, turn}
use Rattle.mk_driver.specs.declared.Next.TheVariants.{Over}
use Rattle.mk_driver.specs.declared.Part.TheVariants.{Resume as ResumePart}
use Rattle.mk_driver.specs.declared.Task.{Task}
use Rattle.mk_driver.specs.declared.Caller.{Caller}
use Rattle.mk_driver.specs.declared.Stage.{Stage}
use Rattle.mk_driver.specs.declared.Submission.{Submission}
use Rattle.mk_driver.specs.Agenda.{is_caller}
use Rattle.mk_driver.specs.Driven.{Standing, IsDriven, IsTurned, asked_more, callers_from, empty_round, is_for, next_at, round_at, standing_after, standing_through, submitted_by}
use Rattle.mk_driver.specs.Keeping.{IsRising}
use Rattle.mk_driver.specs.RisingNumbers.{callers_rise, asked_numbers}
use Rattle.mk_driver.specs.Settling.{seqs_of}
use Rattle.mk_driver.specs.Turns.{attempt_tasks, attempt_task, choice}
use Rattle.mk_driver_laws.proofs.Lookups.{each_map}
use Rattle.mk_quiet_laws.specs.CommitFast.{CommitsFast, QuietCommitsFast}
use Rattle.mk_quiet_laws.specs.QuietRounds.{IsOneRound, first_views, quiet_begun, quiet_moment, quiet_opening, quiet_setting}
use Rattle.mk_quiet_laws.specs.Sequence.{KeysAreClients, NoneIsRefused, QuietChecksAreOkay, Touches, IsClientsKey}
use Rattle.mk_quiet_laws.proofs.Calm.{IsCalmLearning, AllFirst, HasHeardNothing}
use Rattle.mk_quiet_laws.proofs.Course.{AllSettled, Ready, stage_of, stage_in}
use Rattle.mk_quiet_laws.proofs.Course.Focus.{Free}
use Rattle.mk_quiet_laws.proofs.FastPaths.{found_in_columns}
use Rattle.mk_quiet_laws.proofs.InOrder.{PlaceAt, Held, held_along}
use Rattle.mk_quiet_laws.proofs.KeysHeld.{KeysHeld, AttemptKeys, keys_along}
use Rattle.mk_quiet_laws.proofs.Lower.{Lower}
use Rattle.mk_quiet_laws.proofs.Older.{checks_touch, commits_touch, releases_touch, turns_at}
use Rattle.mk_quiet_laws.proofs.OneRound.{one_round, moments_are_standings, all_serve_first}
use Rattle.mk_quiet_laws.proofs.OwnAsked.{Asks, IsOwnSubmission, asked_asks, new_asks}
use Rattle.mk_quiet_laws.proofs.Places.{idle_unless, over_in}
use Rattle.mk_quiet_laws.proofs.Refusing.{own_entries, own_answered}
use Rattle.mk_model.proofs.Parts.{attempt_of-id}

-- ---- lists

-- at a place of a list
each_slot : {X : Type 0} (n r : ℕ) (x : X) → r < n → (d : X) → slice_index_or (replicate n x) r d ≡ x
each_slot zero r x lt d = absurd (omega (arith, lt))
each_slot (suc n) zero x lt d = refl
each_slot (suc n) (suc r) x lt d = each_slot n r x (omega (arith, lt)) d

any_slot : {X : Type 0} (n r : ℕ) (x : X) → slice_index_or (replicate n x) r x ≡ x
any_slot zero r x = refl
any_slot (suc n) zero x = refl
any_slot (suc n) (suc r) x = any_slot n r x

split_step : (step : Step) (log : List Step) → Among step log → (before : List Step) × ((rest : List Step) × (log ≡ before ++ step ∷ rest))
split_step step [] a = absurd a
split_step step (x ∷ log) (inl same) = ([], (log, ap (λ (y : Step). y ∷ log) same))
split_step step (x ∷ log) (inr a) = let s = split_step step log a in (x ∷ s.0, (s.1.0, ap (λ (ys : List Step). x ∷ ys) s.1.1))

-- ---- the replicas

firsts_in : (n r : ℕ) (view : ReplicaView) → slice_get (map view_of (replicate n first_replica)) r ≡ Some view → (is_serving view.phase ≡ true) × (view.epoch ≡ 0)
firsts_in zero r view e = absurd (cc e)
firsts_in (suc n) zero view e = let same = same_Some (view_of first_replica) view e in subst (λ (v : ReplicaView). (is_serving v.phase ≡ true) × (v.epoch ≡ 0)) same (refl, refl)
firsts_in (suc n) (suc r) view e = firsts_in n r view e

all_first : (script : ScriptParts) → AllFirst (first_views script)
all_first script r view e = firsts_in (members script.size) r view e

some_first : (script : ScriptParts) → (view : ReplicaView) × (slice_get (first_views script) 0 ≡ Some view)
some_first script = by (slice_get (first_views script) 0) refl (all_serve_first script 0 (omega arith))
  where
    by : (o : Option ReplicaView) → slice_get (first_views script) 0 ≡ o → serves 0 (slice_get (first_views script) 0) ≡ true → (view : ReplicaView) × (slice_get (first_views script) 0 ≡ Some view)
    by None e s = absurd (cc (sym s ∙ ap (serves 0) e))
    by (Some view) e s = (view, e)

has_first : (n r : ℕ) → r < n → has_epoch 0 (slice_get (replicate n first_replica) r) ≡ true
has_first zero r lt = absurd (omega (arith, lt))
has_first (suc n) zero lt = refl
has_first (suc n) (suc r) lt = has_first n r (omega (arith, lt))

-- ---- the clients at the start

all_rest : (column n : ℕ) (lines : List ClientLine) (submissions : List Submission) → Each (λ (x : Caller). x.under_way ≡ None) (map (asked_more submissions) (callers_from column n lines))
all_rest column n [] submissions = tt
all_rest column n (line ∷ lines) submissions = by (line.column == column) (all_rest column (n + 1) lines submissions)
  where
    by : (b : Bool) → Each (λ (x : Caller). x.under_way ≡ None) (map (asked_more submissions) (callers_from column (n + 1) lines)) →
        Each (λ (x : Caller). x.under_way ≡ None) (map (asked_more submissions)
        (if b then record { number = n; home = line.home; under_way = None; retries = []; lines = []; trials = [] } ∷ callers_from column (n + 1) lines else callers_from column (n + 1) lines))
    by true rest = (refl, rest)
    by false rest = rest

none_staged : (callers : List Caller) → Each (λ (x : Caller). x.under_way ≡ None) callers → (client : ℕ) (stage : Stage) → stage_of callers client ≡ Some stage → ⊥
none_staged callers h client stage e = by (find (is_caller client) callers) refl e
  where
    by : (o : Option Caller) → find (is_caller client) callers ≡ o → stage_in o ≡ Some stage → ⊥
    by None q z = cc z
    by (Some x) q z = let none = Each-among (λ (y : Caller). y.under_way ≡ None) x callers h (find_tells (is_caller client) callers x q).0 in cc (sym none ∙ z)

flat_none : {X : Type 0} (f : X → List Task) → ((x : X) → f x ≡ []) → (xs : List X) → flat_map f xs ≡ []
flat_none f h [] = refl
flat_none f h (x ∷ xs) = ap (λ (ts : List Task). ts ++ flat_map f xs) (h x) ∙ flat_none f h xs

no_seqs : (ns : List ℕ) (column : ColumnState) → column.clients ≡ map new_client ns → (client : ℕ) → attempt_tasks column ResumePart client ≡ []
no_seqs ns column is client =
    ap (λ (seqs : List ℕ). flat_map (λ (seq : ℕ). attempt_task column ResumePart (record { client = client; seq = seq })) seqs) none
  where
    by : (o : Option ℕ) → seqs_of (option_map new_client o) ≡ []
    by None = refl
    by (Some n) = refl

    none : seqs_of (client_of column client) ≡ []
    none = ap (λ (clients : List ClientState). seqs_of (find (is_client client) clients)) is ∙ ap seqs_of (find-map (is_client client) new_client ns) ∙ by (find (λ n. is_client client (new_client n)) ns)

-- ---- the end of the turns

turned_over : (script : ScriptParts) (round : Setting) (s : Standing) (log : List Step) → IsTurned script round s log → next_at script round (standing_through script round s log) ≡ Over
turned_over script round s [] h = h
turned_over script round s (step ∷ log) h = turned_over script round (standing_after script round s step) log h.1

module _ (laws : Lower) (script : ScriptParts) (whole : IsWhole script) (quiet : IsQuiet script) (run : History) (driven : IsDriven script run) (shape : HasShape run) (legal : IsLegal run) where
  one : IsOneRound script run
  one = one_round script run quiet driven

  round : RoundLog
  round = one.round

  legal_round : IsLegalRound run one.round (first_state run)
  legal_round = (subst (λ (rounds : List RoundLog). EachRoundLegal run (first_state run) rounds) one.rounds legal).0

  taught : Taught
  taught = taught_in run

  stays : StaysTaught (taught_in run)
  stays = laws.teaching run

  apart : (n k key : ℕ) → IsClientsKey quiet.txns n key → IsClientsKey quiet.txns k key → n ≡ k
  apart n k key a b = sym a.owner ∙ quiet.apart a.line b.line a.listed b.listed key a.names b.names ∙ b.owner

  round_is : round_at script 0 ≡ record { txns = quiet.txns; takeovers = []; globals = [] }
  round_is = ap (λ (rounds : List Round). slice_index_or rounds 0 empty_round) quiet.one_round

  -- ---- one column

  module _ (c : ℕ) (lt : c < run.columns) where
    opening : Moment
    opening = quiet_opening script run c

    -- each place of its log is a moment of the run
    is_moment : (log rest : List Step) → log_of one.round c ≡ log ++ rest → IsMomentOf run c (moment_through (quiet_opening script run c) (map Doing log))
    is_moment log rest split =
        record {
          events = NewRound (views_of (first_epochs run.faults)) [] ∷ map Doing log;
          later = map Doing rest;
          whole = ap (λ (es : List Event). NewRound (views_of (first_epochs run.faults)) [] ∷ es)
              (sym (map-append Doing log rest) ∙ ap (map Doing) (sym split) ∙ sym (append-nil (map Doing (log_of one.round c))))
              ∙ sym (ap (λ (rounds : List RoundLog). events_of run c rounds) one.rounds);
          leads = ap (λ (f : ℕ). moment_through (round_begun (views_of (first_epochs f)) [] (start_of run c)) (map Doing log)) driven.size;
        }

    begun : IsReached (taught_in run) (quiet_opening script run c)
    begun = laws.reach run legal c lt (quiet_opening script run c) (is_moment [] (log_of one.round c) refl)

    at_round : (quiet_opening script run c).round ≡ quiet_setting script
    at_round = (moments_are_standings script run driven c []).setting

    mine : ℕ → Type 0
    mine n = client_column run n ≡ c

    of_column : (log rest : List Step) → log_of one.round c ≡ log ++ rest → (id : TxnId) (a : AttemptState) → attempt_of (moment_through (quiet_opening script run c) (map Doing log)).column id ≡ Some a → client_column run id.client ≡ c
    of_column log rest split id a found = laws.ids_of run legal c lt (moment_through (quiet_opening script run c) (map Doing log)) (is_moment log rest split) id a found

    -- ---- keys

    first_asks : Asks quiet.txns (quiet_begun script c).driver
    first_asks = asked_asks quiet.txns (map (submitted_by script.retry) (round_at script 0).txns) (callers_from c 1 script.clients) (subst (λ (r : Round). Each (IsOwnSubmission quiet.txns) (map (submitted_by script.retry) r.txns)) (sym round_is) (all_own quiet.txns (λ line a. a)))
        (new_asks quiet.txns c 1 script.clients)
      where
        all_own : (lines : List TxnLine) → ((line : TxnLine) → Among line lines → Among line quiet.txns) → Each (IsOwnSubmission quiet.txns) (map (submitted_by script.retry) lines)
        all_own [] h = tt
        all_own (line ∷ lines) h = ((line, h line (inl refl), refl, refl), all_own lines (λ other a. h other (inr a)))

    keys_at : (log rest : List Step) → log_of one.round c ≡ log ++ rest → KeysHeld quiet.txns (moment_through (quiet_opening script run c) (map Doing log)).column
    keys_at log rest split =
        subst (KeysHeld quiet.txns) (sym (moments_are_standings script run driven c log).column)
        (keys_along quiet.txns script (quiet_setting script) (quiet_begun script c) log rest (subst (IsTurned script (quiet_setting script) (quiet_begun script c)) split (one.turns c lt))
        (record { attempts = tt; work = tt }) first_asks)

    keys_last : (id : TxnId) (a : AttemptState) (txn : Transaction) → attempt_of (last_moment run c).column id ≡ Some a → a.txn ≡ Some txn → (key : ℕ) → Touches txn key → IsClientsKey quiet.txns id.client key
    keys_last id a txn found stamped key touch =
        let k = keys_at (log_of one.round c) [] (sym (append-nil (log_of one.round c))) in
        let there = subst (λ (m : Moment). attempt_of m.column id ≡ Some a) (one.ends c) found in
        let column = (quiet_moment script run c (log_of one.round c)).column in
        subst (λ (i : TxnId). IsClientsKey quiet.txns i.client key) (attempt_of-id column id a there)
        ((Each-among (AttemptKeys quiet.txns) a column.attempts k.attempts (find_tells (is_attempt id) column.attempts a there).0).txn txn stamped key touch)

    -- ---- where the log begins

    first_ready : Ready (quiet_opening script run c).round.faults (quiet_opening script run c).column Free (quiet_begun script c).driver.callers
    first_ready =
        record {
          courses = λ id a e. absurd (cc e);
          focus_fits = tt;
          stages = λ client stage e. absurd (none_staged (quiet_begun script c).driver.callers (all_rest c 1 script.clients (map (submitted_by script.retry) (round_at script 0).txns)) client stage e);
          rising = subst IsRising (sym (asked_numbers (map (submitted_by script.retry) (round_at script 0).txns) (callers_from c 1 script.clients))) (callers_rise c 1 script.clients);
        }

    no_takeovers : (quiet_begun script c).driver.takeovers ≡ []
    no_takeovers = ap (λ (r : Round). filter (is_for (callers_from c 1 script.clients)) r.takeovers) round_is

    first_place : PlaceAt laws script whole quiet c (taught_in run) stays (quiet_opening script run c) begun at_round (all_serve_first script) (all_first script) (some_first script) [] (quiet_begun script c) (quiet_opening script run c)
    first_place =
        record {
          leads = refl;
          happens = tt;
          reached = begun;
          column = (moments_are_standings script run driven c []).column;
          setting = at_round;
          come = laws.come_first script c (first_views script);
          at = refl;
          waiting = record {
            sent = λ number low high. absurd (omega (arith, low, high));
            next = λ txn r epoch state e number lt. absurd (idle_validating txn r epoch state e);
            not_late = refl;
            not_held = refl;
          };
          course = inl (record {
            parts = refl;
            agenda = refl;
            takeovers = no_takeovers;
            ready = first_ready;
            idle = refl;
            resumes = flat_none (λ (caller : Caller). attempt_tasks (quiet_opening script run c).column ResumePart caller.number) (λ caller. no_seqs (clients_of c 1 run.client_columns) (quiet_opening script run c).column refl caller.number) (quiet_begun script c).driver.callers;
          });
          calm = record {
            link = tt;
            attempts = tt;
            clients = each_map HasHeardNothing new_client (λ n. refl) (clients_of c 1 run.client_columns);
            takeovers = refl;
            learned = tt;
          };
        }
      where
        idle_validating : (txn : Transaction) (r epoch : ℕ) (state : ValidationState) → Idle ≡ Validating txn r epoch state → ⊥
        idle_validating txn r epoch state e = cc e

    able : EachEnabled (quiet_opening script run c).round (quiet_opening script run c).column (log_of one.round c)
    able =
        subst (λ (x : ColumnState). EachEnabled (quiet_opening script run c).round x (log_of one.round c)) (has_column (first_state run) c (new_column run.faults (clients_of c 1 run.client_columns)) (column_first run c lt))
        (subst (λ (x : Setting). EachEnabled x (column_of (first_state run) c) (log_of one.round c)) (λ i. record { version = run.version; faults = run.faults; keys = length run.key_names; views = views_of (first_epochs (driven.size i)) })
        ((legal_round.logs c lt).enabled))

    range_at : (call : KeyCall) (answer : Answer) → Among (Key call answer) (log_of one.round c) → (call.replica < members run.faults) × (call.key < length run.key_names)
    range_at call answer a =
        let s = split_step (Key call answer) (log_of one.round c) a in
        let t : Among (turn call answer) (turns_in_log call.replica call.key (log_of one.round c)) =
        subst (λ (l : List Step). Among (turn call answer) (turns_in_log call.replica call.key l)) (sym s.1.1)
        (subst (Among (turn call answer)) (sym (turns_at call answer s.0 s.1.0)) (Among-append_right (turn call answer) (turns_in_log call.replica call.key s.0) (turn call answer ∷ turns_in_log call.replica call.key s.1.0) (inl refl))) in
        let act = act_then (quiet_opening script run c) call.replica call.key (turn call answer) in
        let done = turn_done (quiet_opening script run c) (log_of one.round c) call.replica call.key (turn call answer) t in
        laws.ranges run shape c run.rounds [] (sym (append-nil run.rounds)) act (subst (λ (m : Moment). Among act m.past.acts) (sym (one.ends c)) done)

  -- ---- journals

  -- what another column does at a client's key is a read at most
  foreign : (d : ℕ) (lt : d < run.columns) (c n r key : ℕ) → r < members run.faults → key < length run.key_names → client_column run n ≡ c → IsClientsKey quiet.txns n key → (d ≡ c → ⊥) →
      (e : JournalEntry) → e.seat ≡ d → Among e (journal_of one.round r key) → e.act ≡ Get
  foreign d lt c n r key rlt klt mine own other e seat a =
      let t = subst (Among (turn_of_entry e)) (legal_round.matched d r key lt rlt klt) (entry_turn d e (journal_of one.round r key) a seat) in
      let act = act_then (quiet_opening script run d) r key (turn_of_entry e) in
      let done = subst (λ (m : Moment). Among act m.past.acts) (sym (one.ends d)) (turn_done (quiet_opening script run d) (log_of one.round d) r key (turn_of_entry e) t) in
      let m = last_moment run d in
      let reached = laws.reach run legal d lt m (last_is_moment laws.moments run d) in
      by act refl refl (laws.origins (taught_in run) stays m reached act done).1
    where
      never : (id : TxnId) (a : AttemptState) (txn : Transaction) → attempt_of (last_moment run d).column id ≡ Some a → a.txn ≡ Some txn → Touches txn key → ⊥
      never id a txn found stamped touch =
          let k = keys_last d lt id a txn found stamped key touch in
          let clients = apart n id.client key own k in
          let column = laws.ids_of run legal d lt (last_moment run d) (last_is_moment laws.moments run d) id a found in
          other (sym column ∙ ap (client_column run) (sym clients) ∙ mine)

      facts : Facts (taught_in run) (last_moment run d)
      facts = reached_facts (taught_in run) stays (last_moment run d) (laws.reach run legal d lt (last_moment run d) (last_is_moment laws.moments run d))

      touched : (act : PastAct) → act.key ≡ key → (replica : ℕ) (id : TxnId) (entry : PastEntry) → (last_moment run d).past.entries replica id ≡ Some entry → Touches entry.txn act.key → ⊥
      touched act at replica id entry there touch =
          let f = facts.entries replica id entry there in
          never id f.attempt entry.txn f.found f.stamped (subst (Touches entry.txn) at touch)

      by : (act : PastAct) → act.key ≡ key → act.act ≡ e.act → ActOrigin (last_moment run d) act → e.act ≡ Get
      by act at is (OfRead q) = sym is ∙ q
      by act at is (OfCheck id entry there inep served mem) = absurd (touched act at act.replica id entry there (checks_touch entry.txn (act.key, act.act) mem))
      by act at is (OfRelease id entry there inep served mem why) = absurd (touched act at act.replica id entry there (releases_touch entry.txn (act.key, act.act) mem))
      by act at is (OfCommit id entry i there inep served mem last le) = absurd (touched act at act.replica id entry there (commits_touch entry.txn (act.key, act.act) mem))

  seat_there : (r key : ℕ) → r < members run.faults → (e : JournalEntry) → Among e (journal_of one.round r key) → e.seat < run.columns
  seat_there r key rlt e a =
      seat_in_range run r 0 key 1 (one.round ∷ []) (first_state run) (subst (λ (rounds : List RoundLog). Each (IsRoundShape run) rounds) one.rounds shape.rounds) (dated_at 1 e)
      (Among-append_left (dated_at 1 e) _ []
      (subst (λ (b : Bool). Among (dated_at 1 e) (cond b (map (dated_at 1) (journal_of one.round r key)) [])) (sym (has_first (members run.faults) r rlt)) (Among-map (dated_at 1) e (journal_of one.round r key) a)))

  replays : (c : ℕ) → c < run.columns → (r key n : ℕ) → r < members run.faults → key < length run.key_names → client_column run n ≡ c → IsClientsKey quiet.txns n key → EachAnswered first_cell (own_entries c (turns_in_log r key (log_of one.round c)))
  replays c lt r key n rlt klt mine own =
      subst (λ (ts : List Turn). EachAnswered first_cell (own_entries c ts)) (legal_round.matched c r key lt rlt klt)
      (own_answered c first_cell (journal_of one.round r key)
      (λ e a other. foreign e.seat (seat_there r key rlt e a) c n r key rlt klt mine own other e refl a)
      (subst (λ (cell : CellState). EachAnswered cell (journal_of one.round r key)) cell_is (legal_round.journals r key rlt klt)))
    where
      cell_is : cell_of (first_state run) r key ≡ first_cell
      cell_is = ap (λ (row : List CellState). slice_index_or row key first_cell) (each_slot (members run.faults) r (replicate (length run.key_names) first_cell) rlt []) ∙ any_slot (length run.key_names) key first_cell

  -- ---- at the end

  module _ (c : ℕ) (lt : c < run.columns) where
    abbrev At : List Step → Standing → Moment → Type 0
    At log s m = Held laws script whole quiet c (taught_in run) stays (quiet_opening script run c) (begun c lt) (at_round c lt) (all_serve_first script) (all_first script) (some_first script) log s m

    first_held : At [] (quiet_begun script c) (quiet_opening script run c)
    first_held =
        record {
          place = first_place c lt;
          okay = λ act a reason stamp e. a;
          earlier = λ x y a b found there same below. absurd (cc found);
          fresh = λ x y a found d same below item among written. absurd (cc found);
        }

    at_end : At (log_of one.round c) (standing_through script (quiet_setting script) (quiet_begun script c) (log_of one.round c)) (moment_through (quiet_opening script run c) (map Doing (log_of one.round c)))
    at_end =
        held_along laws script whole quiet c (taught_in run) stays (quiet_opening script run c) (begun c lt) (at_round c lt) (all_serve_first script) (all_first script) (some_first script)
        quiet.txns apart (length run.key_names) (log_of one.round c) (λ n. client_column run n ≡ c) refl (of_column c lt) (keys_at c lt) (range_at c lt) (replays c lt)
        [] (log_of one.round c) refl (quiet_begun script c) (quiet_opening script run c) first_held (one.turns c lt) (able c lt)

    over : next_at script (quiet_setting script) (standing_through script (quiet_setting script) (quiet_begun script c) (log_of one.round c)) ≡ Over
    over = turned_over script (quiet_setting script) (quiet_begun script c) (log_of one.round c) (one.turns c lt)

    settled : AllSettled (last_moment run c).round.faults (last_moment run c).column
    settled =
        let h = at_end in
        let p = h.place in
        let s = standing_through script (quiet_setting script) (quiet_begun script c) (log_of one.round c) in
        let m = moment_through (quiet_opening script run c) (map Doing (log_of one.round c)) in
        let over_here : (choice (rules_of script) m.round m.column s.driver).next ≡ Over =
        (λ i. (choice (rules_of script) (p.setting i) (p.column i) s.driver).next) ∙ over in
        let idle = idle_unless laws script whole quiet c (taught_in run) stays (quiet_opening script run c) (begun c lt) (at_round c lt) (all_serve_first script) (all_first script) (some_first script) (log_of one.round c) s m p Over over_here (λ call z. cc z) in
        subst (λ (n : Moment). AllSettled n.round.faults n.column) (sym (one.ends c))
        (over_in laws script whole quiet c (taught_in run) stays (quiet_opening script run c) (begun c lt) (at_round c lt) (all_serve_first script) (all_first script) (some_first script) (log_of one.round c) s m p h.okay idle over_here)

    calm_learned : Each IsCalmLearning (last_moment run c).column.learned
    calm_learned = subst (λ (n : Moment). Each IsCalmLearning n.column.learned) (sym (one.ends c)) at_end.place.calm.learned

  commits_fast : CommitsFast run
  commits_fast column among a there =
      let of = (laws.columns run run.rounds).only column among in
      let c = of.0 in
      let lt = of.1 in
      let m = last_moment run c in
      let reached = laws.reach run legal c lt m (last_is_moment laws.moments run c) in
      let ends = laws.ends run c lt run.rounds in
      let mapped = Among-from_map not_reading a m.column.attempts (subst (Among a) (ap (λ (x : ColumnState). x.attempts) (sym of.2) ∙ ends.attempts) there) in
      let found = laws.found (taught_in run) stays m reached mapped.0 mapped.1 in
      let id_is : (mapped.0).id ≡ a.id = ap (λ (x : AttemptState). x.id) mapped.2 in
      let learned_own = (settled c lt (mapped.0).id mapped.0 found).0 in
      let listed = (laws.listed (taught_in run) stays m reached (mapped.0).id).own mapped.0 Commit found learned_own in
      let l = laws.logs_learnt run c lt (learning (mapped.0).id listed.0 Commit) listed.1 in
      let same : same_id (l.0).id a.id ≡ true = ap (λ (i : TxnId). same_id i a.id) (l.2 ∙ id_is) ∙ same_id-itself a.id in
      let f = find-from_Among (λ (x : Learnt). same_id x.id a.id) (learned run) l.0 l.1 same in
      let is = laws.path_own run legal a.id f.0 f.1 in
      let k = fast_of f.0 is.found (find_tells (λ (x : Found). same_id x.id a.id) (all_found run) is.found is.first).0 is.learnt is.path in
      (f.0, f.1, k.0, k.1)
    where
      fast_of : (l : Learnt) (f : Found) → Among f (all_found run) → l ≡ with_path (all_found run) f → f.own_path ≡ Some l.path → (l.outcome ≡ Commit) × (l.path ≡ Fast)
      fast_of l f a is path =
          let place = found_in_columns run one.round one.rounds one.no_lines f a in
          let below : place.0 < run.columns = subst (λ (n : ℕ). place.0 < n) columns_count place.1 in
          let kept = Among-filter (λ (x : Found). is_in_column place.0 x.place) f (all_found run) a place.2 in
          let mapped = subst (Among (without_place f)) (laws.in_order run place.0 below) (Among-map without_place f (filter (λ (x : Found). is_in_column place.0 x.place) (all_found run)) kept) in
          let k = Among-from_map with_way (without_place f) (last_moment run place.0).column.learned mapped in
          let calm = Each-among IsCalmLearning k.0 (last_moment run place.0).column.learned (calm_learned place.0 below) k.1 in
          let outcome : (k.0).outcome ≡ f.outcome = ap (λ (x : TxnId × (Outcome × Option Path)). x.1.0) k.2 in
          let way : path_of (k.0).way ≡ Some l.path = ap (λ (x : TxnId × (Outcome × Option Path)). x.1.1) k.2 ∙ path in
          (ap (λ (x : Learnt). x.outcome) is ∙ sym outcome ∙ calm.commits, by (k.0).way calm.way way)
        where
          by : (way : Way) → (way ≡ ByVotes) ⊎ ((way ≡ ByTelling) ⊎ (way ≡ ByFinishing)) → path_of way ≡ Some l.path → l.path ≡ Fast
          by way (inl e) p = sym (same_Some Fast l.path (sym (ap path_of e) ∙ p))
          by way (inr (inl e)) p = absurd (cc (sym (ap path_of e) ∙ p))
          by way (inr (inr e)) p = absurd (cc (sym (ap path_of e) ∙ p))

          columns_count : length (first_state run).columns ≡ run.columns
          columns_count = length-map (numbers_from 0 run.columns) (λ (k : ℕ). new_column run.faults (clients_of k 1 run.client_columns)) ∙ count 0 run.columns
            where
              count : (k n : ℕ) → length (numbers_from k n) ≡ n
              count k zero = refl
              count k (suc n) = ap suc (count (k + 1) n)

pub quiet_commits_fast : Lower → QuietCommitsFast
quiet_commits_fast laws script run whole quiet driven shape legal = commits_fast laws script whole quiet run driven shape legal

-- ---- keys, and checks

pub keys_are_clients : Lower → KeysAreClients
keys_are_clients laws script run whole quiet driven shape legal c lt id a txn found stamped key touch =
    keys_last laws script whole quiet run driven shape legal c lt id a txn found stamped key touch

pub quiet_checks_are_okay : Lower → QuietChecksAreOkay
quiet_checks_are_okay laws script run whole quiet driven shape legal c lt =
    subst NoneIsRefused (sym ((one laws script whole quiet run driven shape legal).ends c)) (at_end laws script whole quiet run driven shape legal c lt).okay
