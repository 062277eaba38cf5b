-- Where what is learned comes from: the columns' lists, and the bases of entered epochs.
use Rattle.std.proofs.Common.{◌≡◌, ◌⊎◌, ◌<◌, ℕ, ◌+◌, Bool, true, false, refl, arith, inl, inr, sym, ap, ◌∙◌, List, [], ◌∷◌, ◌++◌, Option, Some, None, subst, cond, not}
use Rattle.std.specs.Prelude.{◌==◌, is_some, find}
use Rattle.std.proofs.lemmas.Bool.{eqb-true, not-true, not_from_false}
use Rattle.std.proofs.lemmas.Option.{same_Some, slice_get_within}
use Rattle.mk_lists.specs.Among.{Among, Among-append}
use Rattle.mk_lists.proofs.Members.{Among-filter, Among-from_filter, Among-from_map, Among-map}
use Rattle.mk_txn.specs.declared.TxnId.{TxnId}
use Rattle.mk_txn.specs.declared.Outcome.{Outcome}
use Rattle.mk_txn.specs.MarkMaps.{covers}
use Rattle.mk_words.specs.declared.Fated.{Fated}
use Rattle.mk_words.specs.Bases.{BaseState, fate_in, fates_in, taught_by, IsInIdOrder}
use Rattle.mk_words.specs.Promises.{PromiseState, chosen, counting}
use Rattle.mk_merge_laws.proofs.Adding.{fate-there, fate-member}
use Rattle.mk_words.specs.declared.GlobalEntry.{GlobalEntry}
use Rattle.mk_words.specs.declared.GlobalLine.{GlobalLine}
use Rattle.mk_words.specs.declared.GlobalLine.TheVariants.{Enter}
use Rattle.mk_model.specs.ColumnState.{ColumnState}
use Rattle.mk_model.specs.Logs.{reading_ended}
use Rattle.mk_model.specs.EpochState.{EpochState, MadeBase, promises_for, made_for, base_for}
use Rattle.mk_model.specs.GlobalAnswers.{is_accepted}
use Rattle.mk_model.specs.GlobalSteps.{base_or_empty, global_outcome, global_after}
use Rattle.mk_merge_laws.specs.Composition.{StandsInOrder}
use Rattle.mk_column_laws.specs.Moments.{replicas_reset}
use Rattle.mk_epoch_laws.specs.Turns.{Always, WasEntered}
use Rattle.mk_epoch_laws.specs.BaseLaws.{BasesMade, EnteredWasHeld, IsMade}
use Rattle.mk_history.specs.declared.RoundLog.{RoundLog}
use Rattle.mk_history.specs.Histories.{History}
use Rattle.mk_history.specs.Learning.{Found, Learnt, all_found, with_path, learned, found_in_logs, found_in_globals, found_from, entered_through}
use Rattle.mk_history.specs.Legality.{IsLegal, EachRoundLegal}
use Rattle.mk_history.specs.Teaching.{entered_round, entered_from}
use Rattle.mk_history.specs.Wholes.{WholeState, first_state, last_state, setting_of, handed_in, after_logs, after_global, globals_through, after_round, state_through}
use Rattle.mk_run_laws.specs.RunEvents.{turns_in, turns_of, moment_of}
use Rattle.mk_run_laws.specs.Ends.{turns_within}
use Rattle.mk_run_laws.specs.Learnt.{LearntFrom, LearntComesFrom, LogsAreLearnt, IsLearnt, BasesAreLearnt}
use Rattle.mk_run_laws.specs.Learnt.LearntFrom.{FromLog, FromBase}
use Rattle.mk_run_laws.proofs.Joined.{HasColumn, has_column, column_first}
use Rattle.mk_run_laws.proofs.Lines.{state_through-append, lines_are_turns, legal-first, legal-later}
use Rattle.mk_run_laws.proofs.Splitting.{globals_through-append, turns_in-append}
use Rattle.mk_run_laws.proofs.Splitting as splitting
use Rattle.mk_run_laws.proofs.Emptied.{emptied_before}
use Rattle.mk_run_laws.proofs.Ending.{begun_after, ends_join, rounds_length, first_length}
use Rattle.mk_run_laws.proofs.Teachings.{found_once}
use Rattle.mk_run_laws.proofs.Reaching.{made_found, base_made}
use Rattle.mk_run_laws.proofs.Served.{entered-right}
use Rattle.mk_run_laws.proofs.FoundLogs.{IsFound, AreListed, found_in_round_logs, listed_found}
use Rattle.mk_run_laws.proofs.FoundLines.{BaseTells, lines_found, here_tells, later_tells, FirstRound, first_round, made_stays_rounds, made_stays_globals}

-- ---- what a base tells

told_fate : (base : BaseState) (id : TxnId) (o : Outcome) → IsInIdOrder base.list → Among (id, o) (taught_by base) → (fate_in id base.list ≡ Some o) × (covers base.marks id ≡ false)
told_fate base id o ordered a =
    let f = Among-from_filter (λ (x : TxnId × Outcome). not (covers base.marks x.0)) (id, o) (fates_in base.list) a in
    let m = Among-from_map (λ (g : Fated). (g.txn.id, g.outcome)) (id, o) base.list f.0 in
    let there = fate-there base.list m.0 ordered m.1 in
    let same_id = ap (λ (x : TxnId × Outcome). x.0) m.2 in
    let same = ap (λ (x : TxnId × Outcome). x.1) m.2 in
    (ap (λ (i : TxnId). fate_in i base.list) (sym same_id) ∙ there ∙ ap Some same, not-true (covers base.marks id) f.1)

fate_told : (base : BaseState) (id : TxnId) (o : Outcome) → fate_in id base.list ≡ Some o → covers base.marks id ≡ false → Among (id, o) (taught_by base)
fate_told base id o e fresh =
    let m = fate-member id base.list o e in
    let pair : ◌≡◌ {A = TxnId × Outcome} ((m.0).txn.id, (m.0).outcome) (id, o) = λ i. (m.2 i, m.3 i) in
    let among = subst (λ (x : TxnId × Outcome). Among x (fates_in base.list)) pair (Among-map (λ (g : Fated). (g.txn.id, g.outcome)) m.0 base.list m.1) in
    Among-filter (λ (x : TxnId × Outcome). not (covers base.marks x.0)) (id, o) (fates_in base.list) among (not_from_false (covers base.marks id) fresh)

in_order : ((f epoch : ℕ) (ps : List PromiseState) → StandsInOrder f epoch ps) → (state : EpochState) → BasesMade state → (m : MadeBase) → Among m state.made → IsInIdOrder m.base.list
in_order ordered state bases m a =
    subst (λ (b : BaseState). IsInIdOrder b.list) (sym (bases.well m a).is_merged) (ordered state.faults m.epoch (counting (chosen state.faults m.epoch (promises_for m.epoch state))))

-- ---- all that is found

sources : (run : History) (n : ℕ) (rounds : List RoundLog) (state : WholeState) (entered : List ℕ) (f : Found) → Among f (found_from n run state entered rounds) →
    AreListed run state rounds f.id f.outcome ⊎ BaseTells run n state rounds f.id f.outcome
sources run n [] state entered f a = absurd a
sources run n (round ∷ rounds) state entered f a =
    let logs = found_in_logs n (setting_of run state) round 0 state.columns in
    let lines = found_in_globals n 1 run (after_logs run round state) entered round.globals in
    let rest = found_from (n + 1) run (after_round run round state) (entered_through entered round.globals) rounds in
    elim (Among-append f (logs ++ lines) rest a) [
      | inl here ↦ elim (Among-append f logs lines here) [
        | inl log ↦ inl (found_in_round_logs run n round rounds state f log)
        | inr line ↦ inr (here_tells run n round rounds state f.id f.outcome (lines_found run n 1 round.globals (after_logs run round state) entered f line))
      ]
      | inr later ↦ elim (sources run (n + 1) rounds (after_round run round state) (entered_through entered round.globals) f later) [
        | inl log ↦ inl log
        | inr line ↦ inr (later_tells run n round rounds state f.id f.outcome line)
      ]
    ]

entered_some : (run : History) (epoch j : ℕ) → entered_from epoch 1 run.rounds ≡ Some j → (i : ℕ) × (entered_round run epoch ≡ Some i)
entered_some run epoch j e = by (epoch == 0)
  where
    by : (b : Bool) → (i : ℕ) × (cond b (Some 0) (entered_from epoch 1 run.rounds) ≡ Some i)
    by true = (0, refl)
    by false = (j, e)

last_bases : Always BasesMade → (run : History) → IsLegal run → BasesMade (last_state run).epochs
last_bases bases run legal = let lines = lines_are_turns run run.rounds legal in subst BasesMade lines.1 (bases run.faults (turns_of run run.rounds) lines.0)

learnt_member : (run : History) (l : Learnt) → Among l (learned run) → (f : Found) × (Among f (all_found run) × ((f.id ≡ l.id) × (f.outcome ≡ l.outcome)))
learnt_member run l a =
    let m = Among-from_map (with_path (all_found run)) l (all_found run) a in
    (m.0, (m.1, (ap (λ (x : Learnt). x.id) m.2, ap (λ (x : Learnt). x.outcome) m.2)))

is_learnt : (run : History) (id : TxnId) (o : Outcome) → IsFound id o (all_found run) → IsLearnt run id o
is_learnt run id o (f, (a, same)) = (with_path (all_found run) f, Among-map (with_path (all_found run)) f (all_found run) a, same.0, same.1)

pub learnt_comes_from : Always BasesMade → ((f epoch : ℕ) (ps : List PromiseState) → StandsInOrder f epoch ps) → LearntComesFrom
learnt_comes_from bases ordered run legal l a =
    let m = learnt_member run l a in
    let f = m.0 in
    elim (sources run 1 run.rounds (first_state run) [] f m.1.0) [
      | inl listed ↦ from_log f m.1.1 listed
      | inr told ↦ from_base f m.1.1 told
    ]
  where
    from_log : (f : Found) → (f.id ≡ l.id) × (f.outcome ≡ l.outcome) → AreListed run (first_state run) run.rounds f.id f.outcome → LearntFrom run l
    from_log f same (c, (column, (has, (k, (among, is))))) =
        let state = last_state run in
        let long = rounds_length run run.rounds (first_state run) ∙ first_length run in
        let low = slice_get_within state.columns c column has in
        let lt : c < run.columns = omega (arith, low, long) in
        let lists = sym (ends_join run c lt run.rounds).learned in
        let here = subst (λ (y : ColumnState). Among k y.learned) (sym (has_column state c column has)) among in
        FromLog c lt k (subst (Among k) (sym lists) here) (is.0 ∙ same.0) (is.1 ∙ same.1)

    from_base : (f : Found) → (f.id ≡ l.id) × (f.outcome ≡ l.outcome) → BaseTells run 1 (first_state run) run.rounds f.id f.outcome → LearntFrom run l
    from_base f same (made, (among, (e, told))) =
        let j = entered_some run made.epoch e.0 e.1 in
        let fate = told_fate made.base f.id f.outcome (in_order ordered (last_state run).epochs (last_bases bases run legal) made among) told in
        FromBase made j.0 among j.1 (ap (λ (i : TxnId). fate_in i made.base.list) (sym same.0) ∙ fate.0 ∙ ap Some same.1)
        (ap (covers made.base.marks) (sym same.0) ∙ fate.1)

pub logs_are_learnt : LogsAreLearnt
logs_are_learnt run c lt k a =
    let state = last_state run in
    let late = reading_ended (replicas_reset (emptied_before [] run.rounds) (moment_of run c run.rounds).column) in
    let has : HasColumn state c late = begun_after run c lt run.rounds in
    let lists = ap (λ (y : ColumnState). y.learned) (sym (has_column state c late has)) ∙ (ends_join run c lt run.rounds).learned in
    elim (listed_found run run.rounds 1 (first_state run) [] c _ late (column_first run c lt) has k (subst (Among k) (sym lists) a)) [
      | inl none ↦ absurd none
      | inr f ↦ is_learnt run k.id k.outcome f
    ]

-- the base of an epoch is there where a line enters it
entered_base : Always BasesMade → EnteredWasHeld → (run : History) → IsLegal run → (made : MadeBase) → Among made (last_state run).epochs.made → 0 < made.epoch →
    (all : List Found) (p : FirstRound run made.epoch (first_state run) run.rounds all) →
    base_or_empty (made_for made.epoch (globals_through run (after_logs run p.round (state_through run (first_state run) p.done)) p.first.before).epochs) ≡ made.base
entered_base bases held run legal made there up all p =
    let epoch = made.epoch in
    let legal_whole = subst (EachRoundLegal run (first_state run)) p.split legal in
    let legal_done = legal-first run (first_state run) p.done (p.round ∷ p.rest) legal_whole in
    let fine = (legal-later run (first_state run) p.done (p.round ∷ p.rest) legal_whole).0 in
    let logs = after_logs run p.round (state_through run (first_state run) p.done) in
    let early = p.first.before in
    let line = p.first.line in
    let then = globals_through run logs early in
    let ends = globals_through run logs (early ++ line ∷ []) in
    let split = p.first.split ∙ one_more early line p.first.behind in
    let w = splitting.turns_within run p.done p.round (early ++ line ∷ []) p.first.behind legal_done fine split in
    let turns = turns_within run p.done p.round (early ++ line ∷ []) in
    let is_turn : WasEntered epoch (turns_in run logs (early ++ line ∷ [])) =
    subst (WasEntered epoch) (sym (turns_in-append run logs early (line ∷ []))) (entered-right epoch (turns_in run logs early) (turns_in run then (line ∷ [])) (inl (p.first.is_enter, p.first.accepted))) in
    let was = (held run.faults turns w.0 epoch (entered-right epoch (turns_of run p.done) (turns_in run logs (early ++ line ∷ [])) is_turn)).1 in
    let made_end = subst (λ (s : EpochState). IsMade s epoch) w.1 was in
    let whole = globals_through-append run logs early (line ∷ []) in
    let made_then : is_some (base_for epoch then.epochs) ≡ true =
    sym (same_bases then line epoch p.first.is_enter) ∙ ap (λ (s : WholeState). is_some (base_for epoch s.epochs)) (sym whole) ∙ made_end in
    by then (base_for epoch then.epochs) refl made_then (λ m a. after_lines p m a)
  where
    one_more : (one : List GlobalEntry) (x : GlobalEntry) (other : List GlobalEntry) → one ++ x ∷ other ≡ (one ++ x ∷ []) ++ other
    one_more [] x other = refl
    one_more (y ∷ one) x other = ap (λ (zs : List GlobalEntry). y ∷ zs) (one_more one x other)

    same_bases : (state : WholeState) (line : GlobalEntry) (epoch : ℕ) → line.line ≡ Enter epoch → is_some (base_for epoch (after_global run state line).epochs) ≡ is_some (base_for epoch state.epochs)
    same_bases state line epoch is =
        ap (λ (x : GlobalLine). is_some (base_for epoch (global_outcome state.epochs (handed_in state x) x line.answer))) is ∙ test (is_accepted line.answer)
      where
        test : (b : Bool) → is_some (base_for epoch (cond b (global_after state.epochs (handed_in state (Enter epoch)) (Enter epoch)) state.epochs)) ≡ is_some (base_for epoch state.epochs)
        test true = refl
        test false = refl

    after_lines : (p : FirstRound run made.epoch (first_state run) run.rounds all) (m : MadeBase) →
        Among m (globals_through run (after_logs run p.round (state_through run (first_state run) p.done)) p.first.before).epochs.made → Among m (last_state run).epochs.made
    after_lines p m a =
        let before = state_through run (first_state run) p.done in
        let logs = after_logs run p.round before in
        let lines = made_stays_globals run (p.first.line ∷ p.first.behind) (globals_through run logs p.first.before) m a in
        let same = sym (globals_through-append run logs p.first.before (p.first.line ∷ p.first.behind)) ∙ ap (globals_through run logs) (sym p.first.split) in
        let ended = subst (λ (s : WholeState). Among m s.epochs.made) same lines in
        let rounds = made_stays_rounds run p.rest (after_round run p.round before) m ended in
        let whole = sym (state_through-append run (first_state run) p.done (p.round ∷ p.rest)) ∙ ap (state_through run (first_state run)) (sym p.split) in
        subst (λ (s : WholeState). Among m s.epochs.made) whole rounds

    by : (state : WholeState) (o : Option BaseState) → base_for made.epoch state.epochs ≡ o → is_some o ≡ true → ((m : MadeBase) → Among m state.epochs.made → Among m (last_state run).epochs.made) →
        base_or_empty (made_for made.epoch state.epochs) ≡ made.base
    by state None k is stays = absurd (cc is)
    by state (Some base) k is stays =
        let e = base_made made.epoch state.epochs base up k in
        let f = made_found made.epoch state.epochs.made base e in
        let once = (last_bases bases run legal).once in
        let one = found_once (last_state run).epochs.made once f.0 (stays f.0 f.1) in
        let other = found_once (last_state run).epochs.made once made there in
        let same = same_Some f.0 made (sym one ∙ ap (λ (n : ℕ). find (λ (x : MadeBase). x.epoch == n) (last_state run).epochs.made) f.2 ∙ other) in
        ap base_or_empty e ∙ sym f.3 ∙ ap (λ (m : MadeBase). m.base) same

pub bases_are_learnt : Always BasesMade → EnteredWasHeld → BasesAreLearnt
bases_are_learnt bases held run legal made j id o there entered e fresh =
    let up = ((last_bases bases run legal).well made there).after_first in
    let p = first_round run made.epoch 1 j run.rounds (first_state run) [] (late up) refl in
    let told = fate_told made.base id o e fresh in
    let base = entered_base bases held run legal made there up (all_found run) p in
    is_learnt run id o (p.first.teaches (id, o) (subst (λ (b : BaseState). Among (id, o) (taught_by b)) (sym base) told))
  where
    late : 0 < made.epoch → entered_from made.epoch 1 run.rounds ≡ Some j
    late up = by (made.epoch == 0) refl entered
      where
        by : (b : Bool) → (made.epoch == 0) ≡ b → cond b (Some 0) (entered_from made.epoch 1 run.rounds) ≡ Some j → entered_from made.epoch 1 run.rounds ≡ Some j
        by true k e = absurd (let first = eqb-true made.epoch 0 k in omega (arith, first, up))
        by false k e = e
