-- At every place of a quiet column's log no check was refused, and every attempt before another of its client is done.
use Rattle.std.proofs.Common.{◌≡◌, ◌⊎◌, ◌<◌, ◌≤◌, ◌∙◌, ℕ, zero, suc, Bool, true, false, refl, arith, inl, inr, sym, ap, subst, List, [], ◌∷◌, ◌++◌, length, map, Option, Some, None, ◌&&◌, ◌==◌}
use Rattle.std.specs.Prelude.{find, slice_get, is_some, option_map}
use Rattle.std.proofs.lemmas.Option.{same_Some}
use Rattle.std.proofs.lemmas.List.{append_assoc, append-nil}
use Rattle.std.proofs.lemmas.Bool.{and_parts, eqb-true}
use Rattle.std.proofs.lemmas.Bool.Decides.{nat_tests}
use Rattle.mk_lists.specs.Among.{Among, Each-among, Among-append, Among-append_left, Among-append_right}
use Rattle.mk_lists.proofs.Changes.{find-change}
use Rattle.mk_lists.proofs.Lookups.{find_tells}
use Rattle.mk_lists.proofs.Members.{Among-map, Among-from_map}
use Rattle.mk_txn.specs.declared.TxnId.{TxnId}
use Rattle.mk_txn.specs.declared.ReadItem.{ReadItem}
use Rattle.mk_txn.specs.declared.WriteItem.{WriteItem}
use Rattle.mk_txn.specs.declared.Stamp.{Stamp as StampType}
use Rattle.mk_txn.specs.declared.Value.{Value}
use Rattle.mk_txn.specs.declared.Reason.{Reason}
use Rattle.mk_txn.specs.declared.Outcome.{Outcome}
use Rattle.mk_txn.specs.declared.Outcome.TheVariants.{Commit}
use Rattle.mk_txn.specs.Stamps.{is_before}
use Rattle.mk_txn.specs.Transactions.{Transaction, same_id, write_keys}
use Rattle.mk_txn.proofs.IdOrder.{same_id-tells, same_id-itself}
use Rattle.mk_words.specs.declared.Act.{Act}
use Rattle.mk_words.specs.declared.Act.TheVariants.{Get, CheckRead, CheckWrite, CommitRead, CommitWrite, ReleaseRead, ReleaseWrite}
use Rattle.mk_words.specs.declared.Answer.{Answer}
use Rattle.mk_words.specs.declared.Answer.TheVariants.{Version, Okay, Refused, Done}
use Rattle.mk_words.specs.declared.JournalEntry.{JournalEntry}
use Rattle.mk_words.specs.declared.Body.TheVariants.{Decide}
use Rattle.mk_words.specs.Acts.{answer_fits, same_act}
use Rattle.mk_words.specs.Cells.{cell_answer, first_cell}
use Rattle.mk_words.specs.Checks.{KeyAct, checks, commits_of}
use Rattle.mk_words.specs.Journals.{EachAnswered, cell_through}
use Rattle.mk_words.specs.Pending.{has_stamp}
use Rattle.mk_words.specs.Rulings.{ruling}
use Rattle.mk_words.specs.declared.Ruling.TheVariants.{Fast}
use Rattle.mk_quorum.specs.Sizes.{members}
use Rattle.mk_quorum.specs.Slots.{passes}
use Rattle.mk_trim.specs.declared.ReplicaView.{ReplicaView}
use Rattle.mk_script.specs.declared.lines.TxnLine.{TxnLine}
use Rattle.mk_script.specs.Scripts.{ScriptParts}
use Rattle.mk_script.specs.Whole.{IsWhole}
use Rattle.mk_script.specs.Quiet.{IsQuiet}
use Rattle.mk_words.specs.declared.KeyCall.{KeyCall}
use Rattle.mk_words.specs.declared.Step.{Step}
use Rattle.mk_words.specs.declared.Step.TheVariants.{Begin, Unread, Read, Stamp, Validate, Take, Key, Rule, Again, Takeover, Pick as PickStep, Stop}
use Rattle.mk_model.specs.ColumnState.{Setting, AttemptState, ClientState, Work, attempt_of, client_of, is_attempt}
use Rattle.mk_model.specs.ColumnState.Work.{Idle, Fetching}
use Rattle.mk_model.specs.Conditions.{blocked, wanted, same_call}
use Rattle.mk_model.specs.Replicas.{serves}
use Rattle.mk_model.specs.Sending.{msg_of}
use Rattle.mk_model.specs.Steps.{answered, column_after, with_read, read_item, epoch_of}
use Rattle.mk_model.specs.Logs.{EachEnabled}
use Rattle.mk_model.proofs.Frames.{enabled}
use Rattle.mk_model.proofs.Parts.{attempt_of-id}
use Rattle.mk_column_laws.specs.Moments.{Moment, PastAct, PastEntry, Taught, StaysTaught, IsReached, act_of, moment_through, step_done}
use Rattle.mk_column_laws.specs.Moments.Event.{Doing}
use Rattle.mk_column_laws.specs.Moves.{AttemptMove, AttemptChange}
use Rattle.mk_column_laws.specs.Moves.AttemptMove.{AttemptStays, AttemptBegins, AttemptChanges}
use Rattle.mk_column_laws.specs.Moves.AttemptChange.{EndsReading, Reads, Stamps, RulesFast, RulesLearned, Proposes, Hears, Stops}
use Rattle.mk_column_laws.specs.Facts.{Facts, Grows}
use Rattle.mk_column_laws.specs.Identity.{Identity}
use Rattle.mk_column_laws.specs.KeyActs.{act_at}
use Rattle.mk_column_laws.specs.ActLaws.{ChecksFor, CommitsFor, IsNoCheckAfter, NoCheckFollows, CheckedBy}
use Rattle.mk_column_laws.proofs.Rounds.{reached_facts, event_moves}
use Rattle.mk_cause_laws.proofs.Tenured.{answer_there}
use Rattle.mk_history.specs.Matching.{Turn, turns_in_log}
use Rattle.mk_run_laws.proofs.Turns.{turn, turn_of_act, act_turn, turn_done, act_then}
use Rattle.mk_driver.specs.declared.Next.{Next}
use Rattle.mk_driver.specs.declared.Next.TheVariants.{Step as StepNext, Key as KeyNext, Over}
use Rattle.mk_driver.specs.Driven.{Standing, IsNamed, IsTurned, next_at, standing_after, standing_through}
use Rattle.mk_driver.specs.Turns.{choice}
use Rattle.mk_faults.specs.Fates.{rules_of}
use Rattle.mk_quiet_laws.specs.CaughtUp.{is_delivery}
use Rattle.mk_quiet_laws.specs.QuietRounds.{first_views, quiet_setting}
use Rattle.mk_quiet_laws.specs.Sequence.{NoneIsRefused, Touches, IsClientsKey}
use Rattle.mk_quiet_laws.proofs.Calm.{AllFirst}
use Rattle.mk_quiet_laws.proofs.CellCommitted.{write_is_gone, write_raises}
use Rattle.mk_quiet_laws.proofs.Course.{stage_of, stage_in, IsAtRest, IsSettledAll, StepCourse, IsNamedIn}
use Rattle.mk_quiet_laws.proofs.Course.Focus.{Free}
use Rattle.mk_quiet_laws.proofs.CourseSteps.{Keeps, IsKeeping, begin_keeps, rule_keeps}
use Rattle.mk_quiet_laws.proofs.KeysHeld.{KeysHeld, AttemptKeys, WorkKeys}
use Rattle.mk_quiet_laws.proofs.Lower.{Lower}
use Rattle.mk_quiet_laws.proofs.OneRound.{quiet_is_undisturbed}
use Rattle.mk_quiet_laws.proofs.Older.{IsAllDone, Earlier, Fresh, done_stays, same_done, older_there, checks_touch, commits_touch, checked_write, committed_write, checked_read, some_commit, writes_commit, only_checks, split_turn, turns_at, entries_at}
use Rattle.mk_quiet_laws.proofs.Places.{Place, named_is, named_in, place_next, unread_never, idle_unless, keeps, grown}
use Rattle.mk_quiet_laws.proofs.Refusing.{entry_of_turn, own_entries, not_itself, no_write_refusal, no_read_refusal}
use Rattle.mk_quiet_laws.proofs.TurnsDone.{acts_along, acts_are, act_at_turn, no_check_in, no_check_behind}
use Rattle.mk_quiet_laws.proofs.VotesCome.{took, calm_msg, calm_attempt}
use Rattle.mk_quiet_laws.proofs.WaitingSteps.{all_taken}

module _ (laws : Lower) (script : ScriptParts) (whole : IsWhole script) (quiet : IsQuiet script) (c : ℕ) (taught : Taught) (stays : StaysTaught taught)
    (opening : Moment) (begun : IsReached taught opening) (at_round : opening.round ≡ quiet_setting script)
    (serving : (r : ℕ) → r < members script.size → serves 0 (slice_get (first_views script) r) ≡ true) (first : AllFirst (first_views script)) (some_view : (view : ReplicaView) × (slice_get (first_views script) 0 ≡ Some view)) where
  abbrev pub PlaceAt : List Step → Standing → Moment → Type 0
  PlaceAt log s m = Place laws script whole quiet c taught stays opening begun at_round serving first some_view log s m

  -- what holds all along
  pub record Held (log : List Step) (s : Standing) (m : Moment) : Type 0 where
    pub place : PlaceAt log s m
    pub okay : NoneIsRefused m
    pub earlier : Earlier m
    pub fresh : Fresh m

  module _ (txns : List TxnLine) (apart : (n k key : ℕ) → IsClientsKey txns n key → IsClientsKey txns k key → n ≡ k) (keys : ℕ) (whole_log : List Step) (mine : ℕ → Type 0)
      (acts_none : opening.past.acts ≡ [])
      (of_column : (log rest : List Step) → whole_log ≡ log ++ rest → (id : TxnId) (a : AttemptState) → attempt_of (moment_through opening (map Doing log)).column id ≡ Some a → mine id.client)
      (keys_at : (log rest : List Step) → whole_log ≡ log ++ rest → KeysHeld txns (moment_through opening (map Doing log)).column)
      (ranges : (call : KeyCall) (answer : Answer) → Among (Key call answer) whole_log → (call.replica < members opening.round.faults) × (call.key < keys))
      (replays : (r key n : ℕ) → r < members opening.round.faults → key < keys → mine n → IsClientsKey txns n key → EachAnswered first_cell (own_entries c (turns_in_log r key whole_log))) where
    module _ (log rest : List Step) (step : Step) (split : whole_log ≡ log ++ step ∷ rest) (s : Standing) (m : Moment) (held : Held log s m)
        (named : IsNamed (next_at script (quiet_setting script) s) step) (can : blocked m.round m.column step ≡ None) where
      p : PlaceAt log s m
      p = held.place

      after : PlaceAt (log ++ step ∷ []) (standing_after script (quiet_setting script) s step) (step_done step m)
      after = place_next laws script whole quiet c taught stays opening begun at_round serving first some_view log s m p held.okay step named can

      grows_here : Grows m (step_done step m)
      grows_here = grown laws script whole quiet c taught stays opening begun at_round serving first some_view log s m p step can

      facts : Facts taught m
      facts = reached_facts taught stays m p.reached

      facts_next : Facts taught (step_done step m)
      facts_next = reached_facts taught stays (step_done step m) after.reached

      ids : Identity m.column.clients m.column.attempts
      ids = laws.ids taught stays m p.reached

      ids_next : Identity (step_done step m).column.clients (step_done step m).column.attempts
      ids_next = laws.ids taught stays (step_done step m) after.reached

      from_one : (y : TxnId) (b : AttemptState) → attempt_of (step_done step m).column y ≡ Some b → 1 ≤ y.seq
      from_one y b found = (ids_next.attempts y b found).from_one

      same_faults : m.round ≡ opening.round
      same_faults = p.setting ∙ sym at_round

      -- ---- what is named

      kind : (x : Next) → (choice (rules_of script) m.round m.column s.driver).next ≡ x → IsNamed x step →
          ((call : KeyCall) × ((answer : Answer) × (step ≡ Key call answer))) ⊎ ((choice (rules_of script) m.round m.column s.driver).next ≡ StepNext step)
      kind (StepNext other) q n = inr (q ∙ ap StepNext (sym n))
      kind (KeyNext call) q n = inl (by step n)
        where
          by : (x : Step) → IsNamed (KeyNext call) x → (call : KeyCall) × ((answer : Answer) × (x ≡ Key call answer))
          by (Key called answer) k = (called, (answer, refl))
          by _ k = absurd k
      kind Over q n = absurd n

      the_kind : ((call : KeyCall) × ((answer : Answer) × (step ≡ Key call answer))) ⊎ ((choice (rules_of script) m.round m.column s.driver).next ≡ StepNext step)
      the_kind = kind (choice (rules_of script) m.round m.column s.driver).next refl (named_is laws script whole quiet c taught stays opening begun at_round serving first some_view log s m p step named)

      keeps_then : IsKeeping step → Keeps m.column (column_after m.round m.column step)
      keeps_then k = keeps laws script whole quiet c taught stays opening begun at_round serving first some_view log s m p step can k

      -- ---- what is settled is done, once all was taken

      module _ (idle : m.column.work ≡ Idle) (all : (number : ℕ) → 1 ≤ number → number ≤ length m.column.link → Among (Take number) log) where
        final_at : (y : TxnId) (b : AttemptState) → attempt_of m.column y ≡ Some b → IsSettledAll m.round.faults m.column y b → (r : ℕ) → r < members m.round.faults →
            (entry : PastEntry) × (m.past.entries r y ≡ Some entry) × (b.txn ≡ Some entry.txn) × ((round : ℕ) × (entry.last ≡ Some (Commit, round)))
        final_at y b found settled r lt =
            let sent = settled.1 r lt in
            let t = took laws taught stays m p.reached p.calm opening begun
            (λ q below. subst (λ (x : Setting). serves 0 (slice_get x.views q) ≡ true) (sym at_round) (serving q (subst (λ (x : Setting). q < members x.faults) at_round below)))
            log p.happens p.leads same_faults all (msg_of sent.0 y r 0 (Decide Commit)) sent.1 in
            let f = facts.entries r y t.0 t.1 in
            (t.0, t.1, sym (ap (λ (x : AttemptState). x.txn) (same_Some f.attempt b (sym f.found ∙ found))) ∙ f.stamped, last_of t.0 t.1 (t.0).last refl t.2)
          where
            last_of : (entry : PastEntry) → m.past.entries r y ≡ Some entry → (o : Option (Outcome × ℕ)) → entry.last ≡ o → is_some entry.last ≡ true → (round : ℕ) × (entry.last ≡ Some (Commit, round))
            last_of entry there None e z = absurd (cc (sym z ∙ ap is_some e))
            last_of entry there (Some x) e z =
                let d = laws.final_sent taught stays m p.reached r y entry x.0 x.1 there (e ∙ (λ i. Some (x.0, x.1))) in
                let commit : x.0 ≡ Commit = (calm_msg laws taught stays m p.reached p.calm (msg_of d.2.0 y d.0 d.1 (Decide x.0)) d.2.1).body in
                (x.1, e ∙ (λ i. Some (commit i, x.1)))

        some_member : 0 < members m.round.faults
        some_member = omega arith

        done_now : (y : TxnId) (b : AttemptState) → attempt_of m.column y ≡ Some b → IsSettledAll m.round.faults m.column y b → IsAllDone m y
        done_now y b found settled =
            let zeroth = final_at y b found settled 0 some_member in
            record {
              attempt = b;
              txn = (zeroth.0).txn;
              found = found;
              stamped = zeroth.2;
              done = λ r lt act among.
                  let f = final_at y b found settled r lt in
                  let same : (f.0).txn ≡ (zeroth.0).txn = same_Some (f.0).txn (zeroth.0).txn (sym f.2 ∙ zeroth.2) in
                  let k = laws.done taught stays m p.reached idle r y f.0 f.3.0 0 f.1 f.3.1 (b, found, (calm_attempt laws taught stays m p.reached p.calm y b found).epoch) act
                  (subst (λ (t : Transaction). Among act (commits_of t)) (sym same) among) in
                  (f.3.0, (k.0, k.1));
            }

      -- ---- older attempts are done

      -- a client that begins has only settled attempts
      settled_before : (n : IsNamedIn m.round.faults m.column step (choice (rules_of script) m.round m.column s.driver).driver) → (client : ℕ) → n.focus ≡ Free → IsAtRest n.old client →
          (y : TxnId) (b : AttemptState) → attempt_of m.column y ≡ Some b → y.client ≡ client → IsSettledAll m.round.faults m.column y b
      settled_before n client free rests y b found own = elim (n.ready.courses y b found) [
        | inl done ↦ done
        | inr way ↦ elim way [
          | inl k ↦ absurd (cc (sym free ∙ k))
          | inr k ↦ elim k.1 [
            | inl here ↦ absurd (cc (sym free ∙ here))
            | inr st ↦ absurd (let none : stage_of n.old y.client ≡ None = ap (stage_of n.old) own ∙ ap stage_in rests.1 ∙ rests.2 in cc (sym none ∙ st))
          ]
        ]
      ]

      new_earlier : (x y : TxnId) (a b : AttemptState) → attempt_of m.column x ≡ None → attempt_of (step_done step m).column x ≡ Some a → attempt_of (step_done step m).column y ≡ Some b → x.client ≡ y.client → y.seq < x.seq →
          IsAllDone m y
      new_earlier x y a b none found there same below = elim the_kind [
        | inl k ↦ absurd (old_there (keeps_then (subst IsKeeping (sym k.1.1) tt)))
        | inr e ↦ (let idle = idle_unless laws script whole quiet c taught stays opening begun at_round serving first some_view log s m p (StepNext step) e (λ call z. cc z) in
            let n = named_in laws script whole quiet c taught stays opening begun at_round serving first some_view log s m p held.okay idle step e in
            by idle e n step refl can n.course)
      ]
        where
          old_there : Keeps m.column (column_after m.round m.column step) → ⊥
          old_there k = let o = k x a found in cc (sym none ∙ o.1)

          by : m.column.work ≡ Idle → (e : (choice (rules_of script) m.round m.column s.driver).next ≡ StepNext step) → (n : IsNamedIn m.round.faults m.column step (choice (rules_of script) m.round m.column s.driver).driver) →
              (z : Step) → z ≡ step → blocked m.round m.column z ≡ None → StepCourse m.round.faults m.column n.focus n.old n.new (choice (rules_of script) m.round m.column s.driver).driver.callers z → IsAllDone m y
          by idle e n (Begin client replica) is k h =
              let cl = h.2.0 in
              let known = h.2.1 in
              let found_z = subst (λ (w : Step). attempt_of (column_after m.round m.column w) x ≡ Some a) (sym is) found in
              let there_z = subst (λ (w : Step). attempt_of (column_after m.round m.column w) y ≡ Some b) (sym is) there in
              let x_is : x ≡ record { client = client; seq = cl.next_seq } = new_is client replica cl known found_z in
              let own : y.client ≡ client = sym same ∙ ap (λ (i : TxnId). i.client) x_is in
              let old = begin_keeps m.round m.column client replica cl known y (λ q. (let z = ap (λ (i : TxnId). i.seq) (q ∙ sym x_is) in absurd (omega (arith, z, below)))) b there_z in
              let taken = all_taken (rules_of script) (quiet_is_undisturbed script quiet).delivered m.round m.column s.driver log p.waiting idle step e (ap (λ (w : Step). is_delivery (StepNext w)) (sym is)) in
              done_now idle taken y old.0 old.1 (settled_before n client h.0 h.1 y old.0 old.1 own)
            where
              new_is : (client replica : ℕ) (cl : ClientState) → client_of m.column client ≡ Some cl → attempt_of (column_after m.round m.column (Begin client replica)) x ≡ Some a → x ≡ record { client = client; seq = cl.next_seq }
              new_is client replica cl known f = at (same_id x (record { client = client; seq = cl.next_seq })) refl
                where
                  at : (t : Bool) → same_id x (record { client = client; seq = cl.next_seq }) ≡ t → x ≡ record { client = client; seq = cl.next_seq }
                  at true t = same_id-tells x (record { client = client; seq = cl.next_seq }) t
                  at false t =
                      let old = begin_keeps m.round m.column client replica cl known x
                      (λ q. cc (sym t ∙ ap (λ (i : TxnId). same_id i (record { client = client; seq = cl.next_seq })) q ∙ same_id-itself (record { client = client; seq = cl.next_seq }))) a f in
                      absurd (cc (sym none ∙ old.1))
          by idle e n (Rule id) is k h =
              let r = h.4 in
              absurd (at r.0 r.1 r.3 (same_id x id) refl)
            where
              at : (r : AttemptState) → attempt_of m.column id ≡ Some r → ruling m.round.faults r.coord ≡ Fast Commit → (t : Bool) → same_id x id ≡ t → ⊥
              at r there_r fast true t = cc (sym none ∙ ap (attempt_of m.column) (same_id-tells x id t) ∙ there_r)
              at r there_r fast false t =
                  let old = rule_keeps m.round m.column id r there_r fast x (λ q. cc (sym t ∙ ap (λ (i : TxnId). same_id i id) q ∙ same_id-itself id)) a (subst (λ (w : Step). attempt_of (column_after m.round m.column w) x ≡ Some a) (sym is) found) in
                  cc (sym none ∙ old.1)
          by idle e n (Take number) is k h = absurd (old_there (keeps_then (subst IsKeeping is tt)))
          by idle e n (Read id key) is k h = absurd (old_there (keeps_then (subst IsKeeping is tt)))
          by idle e n (Stamp id clock writes) is k h = absurd (old_there (keeps_then (subst IsKeeping is tt)))
          by idle e n (Validate id) is k h = absurd (old_there (keeps_then (subst IsKeeping is tt)))
          by idle e n (Key call answer) is k h = absurd h
          by idle e n (Unread client) is k h = absurd (unread_never laws script whole quiet c taught stays opening begun at_round serving first some_view log s m p client k)
          by idle e n (Again id) is k h = absurd h
          by idle e n (Takeover id view) is k h = absurd h
          by idle e n (PickStep id view) is k h = absurd h
          by idle e n (Stop id) is k h = absurd h

      -- at m already
      done_before : (x y : TxnId) (a b : AttemptState) → attempt_of (step_done step m).column x ≡ Some a → attempt_of (step_done step m).column y ≡ Some b → x.client ≡ y.client → y.seq < x.seq → IsAllDone m y
      done_before x y a b found there same below = by (attempt_of m.column x) refl
        where
          by : (o : Option AttemptState) → attempt_of m.column x ≡ o → IsAllDone m y
          by None e = new_earlier x y a b e found there same below
          by (Some a0) e = let b0 = older_there m ids x y a0 e same (from_one y b there) below in held.earlier x y a0 b0.0 e b0.1 same below

      earlier_next : Earlier (step_done step m)
      earlier_next x y a b found there same below = done_stays m step grows_here y (done_before x y a b found there same below)

      -- ---- the acts of the log

      -- a commit that is done is a turn of the log
      in_log : (y : TxnId) (d : IsAllDone m y) (r : ℕ) → r < members m.round.faults → (act : KeyAct) → Among act (commits_of (d.txn)) → (t : Turn) × Among t (turns_in_log r act.0 log) × (t.act ≡ act.1)
      in_log y d r lt act among =
          let k = d.done r lt act among in
          let past = act_at k.0 r 0 act k.1.0 in
          elim (act_turn opening log past (subst (λ (n : Moment). Among past n.past.acts) (sym p.leads) k.1.1)) [
            | inl old ↦ absurd (subst (Among past) acts_none old)
            | inr new ↦ (turn_of_act past, new.1, refl)
          ]

      -- ---- what is read is fresh

      module _ (call : KeyCall) (answer : Answer) (is : step ≡ Key call answer) where
        split_key : whole_log ≡ log ++ Key call answer ∷ rest
        split_key = split ∙ ap (λ (w : Step). log ++ w ∷ rest) is

        range : (call.replica < members opening.round.faults) × (call.key < keys)
        range = ranges call answer (subst (Among (Key call answer)) (sym split_key) (Among-append_right (Key call answer) log (Key call answer ∷ rest) (inl refl)))

        range_here : call.replica < members m.round.faults
        range_here = subst (λ (x : Setting). call.replica < members x.faults) (sym same_faults) range.0

        can_key : blocked m.round m.column (Key call answer) ≡ None
        can_key = subst (λ (w : Step). blocked m.round m.column w ≡ None) is can

        -- the key's acts of this column replay
        answered_at : (n : ℕ) → mine n → IsClientsKey txns n call.key → EachAnswered first_cell (own_entries c (turns_in_log call.replica call.key log) ++ entry_of_turn c (turn call answer) ∷ own_entries c (turns_in_log call.replica call.key rest))
        answered_at n own key =
            subst (EachAnswered first_cell)
            (ap (λ (l : List Step). own_entries c (turns_in_log call.replica call.key l)) split_key ∙ ap (own_entries c) (turns_at call answer log rest)
            ∙ entries_at c (turns_in_log call.replica call.key log) (turn call answer) (turns_in_log call.replica call.key rest))
            (replays call.replica call.key n range.0 range.1 own key)

        mine_at : (id : TxnId) (a : AttemptState) → attempt_of m.column id ≡ Some a → mine id.client
        mine_at id a found = of_column log (step ∷ rest) split id a (subst (λ (n : Moment). attempt_of n.column id ≡ Some a) (sym p.leads) found)

      fresh_read : (x y : TxnId) (a : AttemptState) (r key : ℕ) → m.column.work ≡ Fetching x r key → attempt_of m.column x ≡ Some a → (d : IsAllDone m y) → x.client ≡ y.client → (call : KeyCall) (answer : Answer) → step ≡ Key call answer →
          (item : ReadItem) → Among item (read_item key answer) → Among item.key (write_keys (d.txn).writes) → is_before item.version (d.txn).stamp ≡ false
      fresh_read x y a r key work found d same call answer is item among written = by answer refl among
        where
          wants : (call.replica ≡ r) × (call.key ≡ key) × (call.act ≡ Get)
          wants =
              let h = (enabled m.round m.column (Key call answer) (can_key call answer is)).0 in
              let t : same_call call (record { replica = r; key = key; act = Get }) ≡ true = sym (ap (λ (w : Work). passes (same_call call) (wanted w)) work) ∙ h in
              let outer = and_parts (call.replica == r && call.key == key) (same_act call.act Get) t in
              let inner = and_parts (call.replica == r) (call.key == key) outer.0 in
              (eqb-true call.replica r inner.0, eqb-true call.key key inner.1, gets call.act outer.1)
            where
              gets : (act : Act) → same_act act Get ≡ true → act ≡ Get
              gets Get e = refl
              gets (CheckRead ts version) e = absurd (cc e)
              gets (CheckWrite ts) e = absurd (cc e)
              gets (CommitRead ts) e = absurd (cc e)
              gets (CommitWrite ts value) e = absurd (cc e)
              gets (ReleaseRead ts) e = absurd (cc e)
              gets (ReleaseWrite ts) e = absurd (cc e)

          own_key : IsClientsKey txns x.client call.key
          own_key =
              let k = subst (λ (n : Moment). KeysHeld txns n.column) p.leads (keys_at log (step ∷ rest) split) in
              subst (IsClientsKey txns x.client) (sym wants.1) (subst (WorkKeys txns) work k.work)

          by : (ans : Answer) → answer ≡ ans → Among item (read_item key ans) → is_before item.version (d.txn).stamp ≡ false
          by (Version version value) e (inr none) = absurd none
          by (Version version value) e (inl here) =
              let w = Among-from_map (λ (i : WriteItem). i.key) item.key (d.txn).writes written in
              let on : (w.0).key ≡ call.key = w.2 ∙ sym (ap (λ (i : ReadItem). i.key) here) ∙ sym wants.1 in
              let t = in_log y d call.replica (range_here call answer is) ((w.0).key, CommitWrite (d.txn).stamp (w.0).value) (writes_commit (d.txn) w.0 w.1) in
              let there = subst (λ (k : ℕ). Among t.0 (turns_in_log call.replica k log)) on t.1 in
              let sp = split_turn t.0 (turns_in_log call.replica call.key log) there in
              let above = write_raises laws.stamps_rise first_cell (own_entries c sp.0) (own_entries c sp.1.0) (entry_of_turn c t.0) (d.txn).stamp (w.0).value t.2 in
              let above_here : is_before (cell_through first_cell (own_entries c (turns_in_log call.replica call.key log))).wts (d.txn).stamp ≡ false =
              subst (λ (es : List JournalEntry). is_before (cell_through first_cell es).wts (d.txn).stamp ≡ false) (sym (ap (own_entries c) sp.1.1 ∙ entries_at c sp.0 t.0 sp.1.0)) above in
              let given = answer_there first_cell (own_entries c (turns_in_log call.replica call.key log)) (entry_of_turn c (turn call answer)) (own_entries c (turns_in_log call.replica call.key rest))
              (answered_at call answer is x.client (mine_at call answer is x a found) own_key) in
              let both : cell_answer (cell_through first_cell (own_entries c (turns_in_log call.replica call.key log))) Get ≡ Version version value =
              ap (cell_answer (cell_through first_cell (own_entries c (turns_in_log call.replica call.key log)))) (sym wants.2) ∙ given ∙ e in
              let wts : (cell_through first_cell (own_entries c (turns_in_log call.replica call.key log))).wts ≡ version = version_is _ _ version value both in
              subst (λ (v : StampType). is_before v (d.txn).stamp ≡ false) (wts ∙ ap (λ (i : ReadItem). i.version) here) above_here
            where
              version_is : (v : StampType) (u : Value) (version : StampType) (value : Value) → Version v u ≡ Version version value → v ≡ version
              version_is v u version value e = cc e
          by Okay e z = absurd z
          by (Refused reason stamp) e z = absurd z
          by Done e z = absurd z

      fresh_next : Fresh (step_done step m)
      fresh_next x y b found d same below item among written =
          by (attempt_of m.column x) refl ((event_moves taught stays m facts (Doing step) can).attempts x)
        where
          older : IsAllDone m y
          older = done_before x y b d.attempt found d.found same below

          txns_same : older.txn ≡ d.txn
          txns_same = same_done m step grows_here y older d

          at_old : (a : AttemptState) → attempt_of m.column x ≡ Some a → Among item a.reads → is_before item.version (d.txn).stamp ≡ false
          at_old a e k =
              subst (λ (t : Transaction). is_before item.version t.stamp ≡ false) txns_same
              (held.fresh x y a e older same below item k (subst (λ (t : Transaction). Among item.key (write_keys t.writes)) (sym txns_same) written))

          kept : (a z : AttemptState) → attempt_of m.column x ≡ Some a → attempt_of (step_done step m).column x ≡ Some z → z.reads ≡ a.reads → is_before item.version (d.txn).stamp ≡ false
          kept a z e n r = at_old a e (subst (Among item) (ap (λ (w : AttemptState). w.reads) (same_Some b z (sym found ∙ n)) ∙ r) among)

          idle_key : (r key : ℕ) → m.column.work ≡ Fetching x r key → (call : KeyCall) × ((answer : Answer) × (step ≡ Key call answer))
          idle_key r key work = elim the_kind [
            | inl k ↦ k
            | inr e ↦ absurd (let idle = idle_unless laws script whole quiet c taught stays opening begun at_round serving first some_view log s m p (StepNext step) e (λ call z. cc z) in cc (sym idle ∙ work))
          ]

          changed : (a z : AttemptState) → attempt_of m.column x ≡ Some a → attempt_of (step_done step m).column x ≡ Some z → AttemptChange m (step_done step m).column x a z → is_before item.version (d.txn).stamp ≡ false
          changed a z e n (EndsReading q) = kept a z e n (ap (λ (w : AttemptState). w.reads) q)
          changed a z e n (Stamps client clock stamp writes rd wf some k nx q) = kept a z e n (ap (λ (w : AttemptState). w.reads) q)
          changed a z e n (RulesFast outcome none r q l) = kept a z e n (ap (λ (w : AttemptState). w.reads) q)
          changed a z e n (RulesLearned outcome none r q) = kept a z e n (ap (λ (w : AttemptState). w.reads) q)
          changed a z e n (Proposes outcome none r q pr) = kept a z e n (ap (λ (w : AttemptState). w.reads) q)
          changed a z e n (Hears msg mem i v none q) = kept a z e n (ap (λ (w : AttemptState). w.reads) q)
          changed a z e n (Stops q) = kept a z e n (ap (λ (w : AttemptState). w.reads) q)
          changed a z e n (Reads r key given work q) =
              let k = idle_key r key work in
              let now : attempt_of (step_done step m).column x ≡ Some (with_read key k.1.0 a) =
              ap (λ (w : Step). attempt_of (column_after m.round m.column w) x) k.1.1 ∙ ap (λ (w : Work). find (is_attempt x) (answered k.1.0 w m.column).attempts) work
              ∙ find-change (is_attempt x) (with_read key k.1.0) m.column.attempts (λ w. refl) ∙ ap (option_map (with_read key k.1.0)) e in
              let mem = subst (λ (w : AttemptState). Among item w.reads) (same_Some b (with_read key k.1.0 a) (sym found ∙ now)) among in
              elim (Among-append item a.reads (read_item key k.1.0) mem) [
                | inl old ↦ at_old a e old
                | inr new ↦ subst (λ (t : Transaction). is_before item.version t.stamp ≡ false) txns_same
                    (fresh_read x y a r key work e older same k.0 k.1.0 k.1.1 item new (subst (λ (t : Transaction). Among item.key (write_keys t.writes)) (sym txns_same) written))
              ]

          by : (o : Option AttemptState) → attempt_of m.column x ≡ o → AttemptMove m (step_done step m).column x (attempt_of m.column x) (attempt_of (step_done step m).column x) → is_before item.version (d.txn).stamp ≡ false
          by o e (AttemptStays q) = at_old b (sym q ∙ found) among
          by o e (AttemptBegins a none n own coord unstamped reads home) = absurd (subst (Among item) (ap (λ (w : AttemptState). w.reads) (same_Some b a (sym found ∙ n)) ∙ reads) among)
          by o e (AttemptChanges a z q n change) = changed a z q n change

      -- ---- no check is refused

      -- an attempt that has this stamp, and touches the key
      record Owner (key : ℕ) (st : StampType) : Type 0 where
        y : TxnId
        attempt : AttemptState
        txn : Transaction
        found : attempt_of (step_done step m).column y ≡ Some attempt
        stamped : attempt.txn ≡ Some txn
        same_stamp : txn.stamp ≡ st
        touches : Touches txn key

      split_next : whole_log ≡ (log ++ step ∷ []) ++ rest
      split_next = split ∙ sym (append_assoc log (step ∷ []) rest)

      key_of_owner : (y : TxnId) (b : AttemptState) (txn : Transaction) → attempt_of (step_done step m).column y ≡ Some b → b.txn ≡ Some txn → (key : ℕ) → Touches txn key → IsClientsKey txns y.client key
      key_of_owner y b txn found stamped key touch =
          let k = subst (λ (n : Moment). KeysHeld txns n.column) after.leads (keys_at (log ++ step ∷ []) rest split_next) in
          subst (λ (i : TxnId). IsClientsKey txns i.client key) (attempt_of-id (step_done step m).column y b found)
          ((Each-among (AttemptKeys txns) b (step_done step m).column.attempts k.attempts (find_tells (is_attempt y) (step_done step m).column.attempts b found).0).txn txn stamped key touch)

      owner_of_entry : (r : ℕ) (y : TxnId) (e : PastEntry) → (step_done step m).past.entries r y ≡ Some e → (key : ℕ) (st : StampType) → e.txn.stamp ≡ st → Touches e.txn key → Owner key st
      owner_of_entry r y e there key st same touch =
          let f = facts_next.entries r y e there in
          record { y = y; attempt = f.attempt; txn = e.txn; found = f.found; stamped = f.stamped; same_stamp = same; touches = touch }

      no_check_last : (acts : List PastAct) (z act : PastAct) → NoCheckFollows (acts ++ act ∷ []) → Among z acts → IsNoCheckAfter z act
      no_check_last [] z act h a = absurd a
      no_check_last (w ∷ acts) z act h (inl same) = subst (λ (v : PastAct). IsNoCheckAfter v act) same (h.0 act (Among-append_right act acts (act ∷ []) (inl refl)))
      no_check_last (w ∷ acts) z act h (inr a) = no_check_last acts z act h.1 a

      not_commit_and_check : (st : StampType) (act : Act) → CommitsFor st act → ChecksFor st act → ⊥
      not_commit_and_check st act (inl p) (inl q) = absurd (cc (sym p ∙ q.1))
      not_commit_and_check st act (inl p) (inr q) = absurd (cc (sym p ∙ q))
      not_commit_and_check st act (inr p) (inl q) = absurd (cc (sym p.1 ∙ q.1))
      not_commit_and_check st act (inr p) (inr q) = absurd (cc (sym p.1 ∙ q))

      three_ways : (a b : ℕ) → (a < b) ⊎ ((a ≡ b) ⊎ (b < a))
      three_ways zero zero = inr (inl refl)
      three_ways zero (suc b) = inl (omega arith)
      three_ways (suc a) zero = inr (inr (omega arith))
      three_ways (suc a) (suc b) = elim (three_ways a b) [ inl k ↦ inl (omega (arith, k)) | inr k ↦ elim k [ inl e ↦ inr (inl (ap suc e)) | inr l ↦ inr (inr (omega (arith, l))) ] ]

      time_before : (s t : StampType) → s.time < t.time → is_before s t ≡ true
      time_before s t h = grind (arith, nat_tests, h)

      module _ (call : KeyCall) (answer : Answer) (is : step ≡ Key call answer) (ts : StampType) (chk : ChecksFor ts call.act) where
        act_here : PastAct
        act_here = act_at m.past.now call.replica (epoch_of (slice_get m.round.views call.replica)) (call.key, call.act) answer

        acts_next : (step_done step m).past.acts ≡ m.past.acts ++ act_at m.past.now call.replica (epoch_of (slice_get m.round.views call.replica)) (call.key, call.act) answer ∷ []
        acts_next = ap (λ (w : Step). m.past.acts ++ act_of m.round m.past.now w) is

        among_here : Among (act_at m.past.now call.replica (epoch_of (slice_get m.round.views call.replica)) (call.key, call.act) answer) (step_done step m).past.acts
        among_here =
            let act = act_at m.past.now call.replica (epoch_of (slice_get m.round.views call.replica)) (call.key, call.act) answer in
            subst (Among act) (sym acts_next) (Among-append_right act m.past.acts (act ∷ []) (inl refl))

        checked : CheckedBy (step_done step m) (act_at m.past.now call.replica (epoch_of (slice_get m.round.views call.replica)) (call.key, call.act) answer) ts
        checked = laws.checks taught stays (step_done step m) after.reached (act_at m.past.now call.replica (epoch_of (slice_get m.round.views call.replica)) (call.key, call.act) answer) ts among_here chk

        -- the attempt whose check it is
        x : TxnId
        x = checked.id

        own : Owner call.key ts
        own = owner_of_entry call.replica checked.id checked.entry checked.there call.key ts checked.same_stamp (checks_touch checked.entry.txn (call.key, call.act) checked.checked)

        own_key : IsClientsKey txns own.y.client call.key
        own_key = key_of_owner own.y own.attempt own.txn own.found own.stamped call.key own.touches

        -- it has committed nothing before
        no_commit : (z : PastAct) → Among z m.past.acts → call.replica ≡ z.replica → CommitsFor ts z.act → ⊥
        no_commit z a same commit =
            no_check_last m.past.acts z (act_at m.past.now call.replica (epoch_of (slice_get m.round.views call.replica)) (call.key, call.act) answer)
            (subst NoCheckFollows acts_next (laws.no_check taught stays (step_done step m) after.reached)) a ts same commit chk

        -- so it is not done
        not_done : IsAllDone (step_done step m) own.y → ⊥
        not_done d =
            let same : d.txn ≡ own.txn = same_Some d.txn own.txn (sym d.stamped ∙ ap (λ (a : AttemptState). a.txn) (same_Some d.attempt own.attempt (sym d.found ∙ own.found)) ∙ own.stamped) in
            let k = some_commit own.txn call.key own.touches in
            let lt : call.replica < members (step_done step m).round.faults = range_here call answer is in
            let t = d.done call.replica lt (call.key, k.0) (subst (λ (w : Transaction). Among (call.key, k.0) (commits_of w)) (sym same) k.1) in
            let past = act_at t.0 call.replica 0 (call.key, k.0) t.1.0 in
            let commit : CommitsFor ts k.0 = elim k.2 [
              | inl p ↦ inl (p ∙ ap CommitRead own.same_stamp)
              | inr p ↦ inr (p.0, p.1 ∙ ap (λ (w : StampType). CommitWrite w p.0) own.same_stamp)
            ] in
            elim (Among-append past m.past.acts (act_at m.past.now call.replica (epoch_of (slice_get m.round.views call.replica)) (call.key, call.act) answer ∷ []) (subst (Among past) acts_next t.1.1)) [
              | inl old ↦ no_commit past old refl commit
              | inr last ↦ elim last [
                | inl here ↦ not_commit_and_check ts k.0 commit (subst (ChecksFor ts) (ap (λ (w : PastAct). w.act) here) chk)
                | inr none ↦ none
              ]
            ]

        -- whoever touched the key is this attempt, or an older one of its client
        record Older (st : StampType) (o : Owner call.key st) : Type 0 where
          same_client : own.y.client ≡ o.y.client
          below : o.y.seq < own.y.seq

        compared : (st : StampType) (o : Owner call.key st) → (st ≡ ts) ⊎ ((is_before st ts ≡ true) × Older st o)
        compared st o = by (three_ways o.y.seq own.y.seq)
          where
            client : own.y.client ≡ o.y.client
            client = apart own.y.client o.y.client call.key own_key (key_of_owner o.y o.attempt o.txn o.found o.stamped call.key o.touches)

            by : (o.y.seq < own.y.seq) ⊎ ((o.y.seq ≡ own.y.seq) ⊎ (own.y.seq < o.y.seq)) → (st ≡ ts) ⊎ ((is_before st ts ≡ true) × Older st o)
            by (inl low) =
                let r = ids_next.rise o.y own.y o.attempt own.attempt o.txn own.txn o.found own.found o.stamped own.stamped (sym client) low in
                inr (subst (λ (w : StampType). is_before w ts ≡ true) o.same_stamp (subst (λ (w : StampType). is_before o.txn.stamp w ≡ true) own.same_stamp (time_before o.txn.stamp own.txn.stamp r)), record { same_client = client; below = low })
            by (inr (inl e)) =
                let back = sym client in
                let same : o.y ≡ own.y = λ i. record { client = back i; seq = e i } in
                let attempts : o.attempt ≡ own.attempt = same_Some o.attempt own.attempt (sym o.found ∙ ap (attempt_of (step_done step m).column) same ∙ own.found) in
                let one : o.txn ≡ own.txn = same_Some o.txn own.txn (sym o.stamped ∙ ap (λ (a : AttemptState). a.txn) attempts ∙ own.stamped) in
                inl (sym o.same_stamp ∙ ap (λ (w : Transaction). w.stamp) one ∙ own.same_stamp)
            by (inr (inr high)) = absurd (not_done (earlier_next o.y own.y o.attempt own.attempt o.found own.found (sym client) high))

        -- ---- what stands in the log at the key

        stands : (e : JournalEntry) → Among e (own_entries c (turns_in_log call.replica call.key log)) → (z : PastAct) × Among z m.past.acts × (z.replica ≡ call.replica) × (z.key ≡ call.key) × (z.act ≡ e.act)
        stands e a =
            let f = Among-from_map (entry_of_turn c) e (turns_in_log call.replica call.key log) a in
            let t = turn_done opening log call.replica call.key f.0 f.1 in
            (act_then opening call.replica call.key f.0, subst (λ (n : Moment). Among (act_then opening call.replica call.key f.0) n.past.acts) p.leads t, refl, refl, ap (λ (j : JournalEntry). j.act) f.2)

        in_next : (z : PastAct) → Among z m.past.acts → Among z (step_done step m).past.acts
        in_next z a = Among-append_left z m.past.acts (act_of m.round m.past.now step) a

        check_owner : (e : JournalEntry) → Among e (own_entries c (turns_in_log call.replica call.key log)) → (st : StampType) → ChecksFor st e.act → (o : Owner call.key st) × Among (call.key, e.act) (checks o.txn)
        unfolding owner_of_entry
        check_owner e a st k =
            let z = stands e a in
            let b = laws.checks taught stays (step_done step m) after.reached z.0 st (in_next z.0 z.1) (subst (ChecksFor st) (sym z.4) k) in
            let at : Among (call.key, e.act) (checks b.entry.txn) = subst (λ (w : KeyAct). Among w (checks b.entry.txn)) (λ i. (z.3 i, z.4 i)) b.checked in
            (owner_of_entry z.0.replica b.id b.entry b.there call.key st b.same_stamp (checks_touch b.entry.txn (call.key, e.act) at), at)

        commit_owner : (e : JournalEntry) → Among e (own_entries c (turns_in_log call.replica call.key log)) → (st : StampType) → CommitsFor st e.act → (o : Owner call.key st) × Among (call.key, e.act) (commits_of o.txn)
        unfolding owner_of_entry
        commit_owner e a st k =
            let z = stands e a in
            let b = laws.commits taught stays (step_done step m) after.reached z.0 st (in_next z.0 z.1) (subst (CommitsFor st) (sym z.4) k) in
            let at : Among (call.key, e.act) (commits_of b.entry.txn) = subst (λ (w : KeyAct). Among w (commits_of b.entry.txn)) (λ i. (z.3 i, z.4 i)) b.written in
            (owner_of_entry z.0.replica b.id b.entry b.there call.key st b.same_stamp (commits_touch b.entry.txn (call.key, e.act) at), at)

        known : (e : JournalEntry) → Among e (own_entries c (turns_in_log call.replica call.key log)) → (st : StampType) → ChecksFor st e.act ⊎ CommitsFor st e.act → (st ≡ ts) ⊎ (is_before st ts ≡ true)
        known e a st (inl k) = elim (compared st (check_owner e a st k).0) [ inl same ↦ inl same | inr o ↦ inr o.0 ]
        known e a st (inr k) = elim (compared st (commit_owner e a st k).0) [ inl same ↦ inl same | inr o ↦ inr o.0 ]

        -- an older attempt that is done, with its transaction
        done_older : (st : StampType) (o : Owner call.key st) → Older st o → (d : IsAllDone m o.y) × (d.txn ≡ o.txn)
        done_older st o old =
            let d = done_before own.y o.y own.attempt o.attempt own.found o.found old.same_client old.below in
            let b = grows_here.attempts o.y d.attempt d.found in
            let same : b.0 ≡ o.attempt = same_Some b.0 o.attempt (sym b.1 ∙ o.found) in
            (d, same_Some d.txn o.txn (sym (b.2.txn d.txn d.stamped) ∙ ap (λ (a : AttemptState). a.txn) same ∙ o.stamped))

        acts_of_log : m.past.acts ≡ acts_along opening.round opening.past.now log
        acts_of_log = sym (ap (λ (n : Moment). n.past.acts) p.leads) ∙ acts_are opening log ∙ ap (λ (l : List PastAct). l ++ acts_along opening.round opening.past.now log) acts_none

        gone : (e : JournalEntry) → Among e (own_entries c (turns_in_log call.replica call.key log)) → (st : StampType) → e.act ≡ CheckWrite st → is_before st ts ≡ true →
            has_stamp st (cell_through first_cell (own_entries c (turns_in_log call.replica call.key log))).writers ≡ false
        gone e a st k low =
            let o = check_owner e a st (inr k) in
            elim (compared st o.0) [
              | inl same ↦ absurd (not_itself st ts same low)
              | inr old ↦ (let d = done_older st o.0 old.1 in
                  let w = checked_write o.0.txn call.key st (subst (λ (z : Act). Among (call.key, z) (checks o.0.txn)) k o.1) in
                  let t = in_log o.0.y d.0 call.replica (range_here call answer is) ((w.0).key, CommitWrite d.0.txn.stamp (w.0).value)
                  (subst (λ (z : Transaction). Among ((w.0).key, CommitWrite z.stamp (w.0).value) (commits_of z)) (sym d.1) (writes_commit o.0.txn w.0 w.1)) in
                  let there = subst (λ (key : ℕ). Among t.0 (turns_in_log call.replica key log)) w.2 t.1 in
                  let sp = split_turn t.0 (turns_in_log call.replica call.key log) there in
                  let st_is : d.0.txn.stamp ≡ st = ap (λ (z : Transaction). z.stamp) d.1 ∙ o.0.same_stamp in
                  let commit : (t.0).act ≡ CommitWrite st (w.0).value = t.2 ∙ ap (λ (z : StampType). CommitWrite z (w.0).value) st_is in
                  subst (λ (es : List JournalEntry). has_stamp st (cell_through first_cell es).writers ≡ false) (sym (ap (own_entries c) sp.1.1 ∙ entries_at c sp.0 t.0 sp.1.0))
                  (write_is_gone first_cell (own_entries c sp.0) (own_entries c sp.1.0) (entry_of_turn c t.0) st (w.0).value commit (λ j b q. undone sp.0 t.0 sp.1.0 sp.1.1 (w.0).value commit j b q)))
            ]
          where
            undone : (bs : List Turn) (t : Turn) (ms : List Turn) → turns_in_log call.replica call.key log ≡ bs ++ t ∷ ms → (value : Value) → t.act ≡ CommitWrite st value → (j : JournalEntry) → Among j (own_entries c ms) → j.act ≡ CheckWrite st → ⊥
            undone bs t ms whole value commit j b q =
                let f = Among-from_map (entry_of_turn c) j ms b in
                let follows = no_check_in opening.round opening.past.now call.replica call.key log (subst NoCheckFollows acts_of_log (laws.no_check taught stays m p.reached)) in
                no_check_behind (act_at_turn opening.round opening.past.now call.replica call.key) bs t ms
                (subst (λ (xs : List Turn). NoCheckFollows (map (act_at_turn opening.round opening.past.now call.replica call.key) xs)) whole follows) f.0 f.1
                st refl (inr (value, commit)) (inr (ap (λ (z : JournalEntry). z.act) f.2 ∙ q))

        fresh_here : (version : StampType) → call.act ≡ CheckRead ts version → (e : JournalEntry) → Among e (own_entries c (turns_in_log call.replica call.key log)) → (st : StampType) (value : Value) → e.act ≡ CommitWrite st value →
            (st ≡ ts → ⊥) × (is_before st ts ≡ true → is_before version st ≡ false)
        unfolding own checked owner_of_entry
        fresh_here version k e a st value q = (
          λ same. (let z = stands e a in no_commit z.0 z.1 (sym z.2) (inr (value, z.4 ∙ q ∙ ap (λ (w : StampType). CommitWrite w value) same))),
          λ low. (let o = commit_owner e a st (inr (value, q)) in elim (compared st o.0) [
            | inl same ↦ absurd (not_itself st ts same low)
            | inr old ↦ (let w = committed_write o.0.txn call.key st value (subst (λ (z : Act). Among (call.key, z) (commits_of o.0.txn)) q o.1) in
                let i = checked_read checked.entry.txn call.key ts version (subst (λ (z : Act). Among (call.key, z) (checks checked.entry.txn)) k checked.checked) in
                let d = earlier_next own.y o.0.y own.attempt o.0.attempt own.found o.0.found old.1.same_client old.1.below in
                let one : d.txn ≡ o.0.txn = same_Some d.txn o.0.txn (sym d.stamped ∙ ap (λ (a : AttemptState). a.txn) (same_Some d.attempt o.0.attempt (sym d.found ∙ o.0.found)) ∙ o.0.stamped) in
                let reads = ((laws.got taught stays (step_done step m) after.reached).attempts own.y own.attempt own.found).txn_reads own.txn own.stamped in
                let key_is : (w.0).key ≡ (i.0).key = w.2 ∙ sym i.2 in
                let written : Among (i.0).key (write_keys d.txn.writes) =
                subst (λ (z : Transaction). Among (i.0).key (write_keys z.writes)) (sym one) (subst (λ (key : ℕ). Among key (write_keys o.0.txn.writes)) key_is (Among-map (λ (z : WriteItem). z.key) w.0 o.0.txn.writes w.1)) in
                let f = fresh_next own.y o.0.y own.attempt own.found d old.1.same_client old.1.below i.0 (subst (Among i.0) reads i.1) written in
                subst (λ (z : StampType). is_before version z ≡ false) (ap (λ (z : Transaction). z.stamp) one ∙ o.0.same_stamp) (subst (λ (z : StampType). is_before z d.txn.stamp ≡ false) i.3 f))
          ]),
        )

        not_refused : (reason : Reason) (stamp : StampType) → answer ≡ Refused reason stamp → ⊥
        not_refused reason stamp refused = by chk
          where
            answered : EachAnswered first_cell (own_entries c (turns_in_log call.replica call.key log) ++ entry_of_turn c (turn call answer) ∷ own_entries c (turns_in_log call.replica call.key rest))
            answered = answered_at call answer is own.y.client (of_column (log ++ step ∷ []) rest split_next own.y own.attempt (subst (λ (n : Moment). attempt_of n.column own.y ≡ Some own.attempt) (sym after.leads) own.found)) own_key

            by : ChecksFor ts call.act → ⊥
            by (inr k) =
                no_write_refusal laws.provenance laws.reads laws.writes (own_entries c (turns_in_log call.replica call.key log)) (own_entries c (turns_in_log call.replica call.key rest)) (entry_of_turn c (turn call answer)) answered ts known k
                reason stamp refused
            by (inl (version, k)) =
                no_read_refusal laws.provenance laws.reads laws.writes (own_entries c (turns_in_log call.replica call.key log)) (own_entries c (turns_in_log call.replica call.key rest)) (entry_of_turn c (turn call answer)) answered ts known version k gone
                (fresh_here version k) reason stamp refused

      okay_next : NoneIsRefused (step_done step m)
      okay_next act among reason stamp refused = elim (Among-append act m.past.acts (act_of m.round m.past.now step) among) [
        | inl old ↦ held.okay act old reason stamp refused
        | inr new ↦ by step refl new
      ]
        where
          by : (w : Step) → w ≡ step → Among act (act_of m.round m.past.now w) → ⊥
          by (Key call answer) is (inr none) = none
          by (Key call answer) is (inl same) =
              let answered : answer ≡ Refused reason stamp = ap (λ (z : PastAct). z.answer) same ∙ refused in
              let fits = (enabled m.round m.column (Key call answer) (can_key call answer (sym is))).1.0 in
              let k = only_checks call.act reason stamp (sym (ap (answer_fits call.act) answered) ∙ fits) in
              not_refused call answer (sym is) k.0 k.1 reason stamp answered
          by (Begin client replica) is z = z
          by (Unread client) is z = z
          by (Read id key) is z = z
          by (Stamp id clock writes) is z = z
          by (Validate id) is z = z
          by (Take number) is z = z
          by (Rule id) is z = z
          by (Again id) is z = z
          by (Takeover id view) is z = z
          by (PickStep id view) is z = z
          by (Stop id) is z = z

      held_next : Held (log ++ step ∷ []) (standing_after script (quiet_setting script) s step) (step_done step m)
      held_next = record { place = after; okay = okay_next; earlier = earlier_next; fresh = fresh_next }

    -- along the log
    pub held_along : (log rest : List Step) → whole_log ≡ log ++ rest → (s : Standing) (m : Moment) → Held log s m → IsTurned script (quiet_setting script) s rest → EachEnabled m.round m.column rest →
        Held whole_log (standing_through script (quiet_setting script) s rest) (moment_through m (map Doing rest))
    held_along log [] split s m held turned able = subst (λ (l : List Step). Held l s m) (sym (split ∙ append-nil log)) held
    held_along log (step ∷ rest) split s m held turned able =
        held_along (log ++ step ∷ []) rest (split ∙ sym (append_assoc log (step ∷ []) rest)) (standing_after script (quiet_setting script) s step) (step_done step m)
        (held_next log rest step split s m held turned.0 able.0) turned.1 able.1
