-- The global lines of a run are turns with legal answers.
use Rattle.std.proofs.Common.{◌≡◌, ◌⊎◌, ◌<◌, ℕ, ◌+◌, refl, arith, sym, ap, ◌∙◌, List, [], ◌∷◌, ◌++◌, Some, subst, cond, Bool, true, false, length, inl, inr}
use Rattle.std.specs.List.{list_any}
use Rattle.std.proofs.lemmas.Bool.{eq-eqb}
use Rattle.std.proofs.lemmas.List.{append_assoc}
use Rattle.mk_words.specs.declared.GlobalEntry.{GlobalEntry}
use Rattle.mk_words.specs.declared.GlobalLine.{GlobalLine}
use Rattle.mk_words.specs.declared.GlobalLine.TheVariants.{Enter}
use Rattle.mk_model.specs.EpochState.{EpochState}
use Rattle.mk_model.specs.GlobalAnswers.{is_accepted}
use Rattle.mk_epoch_laws.specs.Turns.{GlobalTurn, after_turn, after_turns, EachAnswered, WasEntered}
use Rattle.mk_history.specs.declared.RoundLog.{RoundLog}
use Rattle.mk_history.specs.Histories.{History}
use Rattle.mk_history.specs.Legality.{EachGlobalAnswered, EachRoundLegal}
use Rattle.mk_history.specs.Wholes.{WholeState, first_state, after_logs, after_global, globals_through, after_round, state_through}
use Rattle.mk_history.specs.Teaching.{enters, entered_from}
use Rattle.mk_run_laws.specs.RunEvents.{turns_in, turns_from}
use Rattle.mk_run_laws.specs.RunLaws.{LinesAreTurns}

-- ---- lists of turns

pub after_turns-append : (state : EpochState) (one other : List GlobalTurn) → after_turns state (one ++ other) ≡ after_turns (after_turns state one) other
after_turns-append state [] other = refl
after_turns-append state (turn ∷ one) other = after_turns-append (after_turn state turn) one other

pub answered-join : (state : EpochState) (one other : List GlobalTurn) → EachAnswered state one → EachAnswered (after_turns state one) other → EachAnswered state (one ++ other)
answered-join state [] other h k = k
answered-join state (turn ∷ one) other h k = (h.0, answered-join (after_turn state turn) one other h.1 k)

pub answered-later : (state : EpochState) (one other : List GlobalTurn) → EachAnswered state (one ++ other) → EachAnswered (after_turns state one) other
answered-later state [] other h = h
answered-later state (turn ∷ one) other h = answered-later (after_turn state turn) one other h.1

entered-either : (e : ℕ) (one other : List GlobalTurn) → WasEntered e (one ++ other) → (WasEntered e one ⊎ WasEntered e other)
entered-either e [] other h = inr h
entered-either e (turn ∷ one) other (inl now) = inl (inl now)
entered-either e (turn ∷ one) other (inr later) = elim (entered-either e one other later) [ inl k ↦ inl (inr k) | inr k ↦ inr k ]

-- ---- lists of rounds

pub state_through-append : (run : History) (state : WholeState) (one other : List RoundLog) → state_through run state (one ++ other) ≡ state_through run (state_through run state one) other
state_through-append run state [] other = refl
state_through-append run state (round ∷ one) other = state_through-append run (after_round run round state) one other

pub legal-first : (run : History) (state : WholeState) (one other : List RoundLog) → EachRoundLegal run state (one ++ other) → EachRoundLegal run state one
legal-first run state [] other h = tt
legal-first run state (round ∷ one) other h = (h.0, legal-first run (after_round run round state) one other h.1)

pub legal-later : (run : History) (state : WholeState) (one other : List RoundLog) → EachRoundLegal run state (one ++ other) → EachRoundLegal run (state_through run state one) other
legal-later run state [] other h = h
legal-later run state (round ∷ one) other h = legal-later run (after_round run round state) one other h.1

pub turns_from-append : (run : History) (state : WholeState) (one other : List RoundLog) →
    turns_from run state (one ++ other) ≡ turns_from run state one ++ turns_from run (state_through run state one) other
turns_from-append run state [] other = refl
turns_from-append run state (round ∷ one) other =
    let here = turns_in run (after_logs run round state) round.globals in
    ap (λ (ts : List GlobalTurn). here ++ ts) (turns_from-append run (after_round run round state) one other)
    ∙ sym (append_assoc here (turns_from run (after_round run round state) one) (turns_from run (state_through run (after_round run round state) one) other))

-- ---- the epoch machine of the whole

pub lines-lead : (run : History) (entries : List GlobalEntry) (state : WholeState) → after_turns state.epochs (turns_in run state entries) ≡ (globals_through run state entries).epochs
lines-lead run [] state = refl
lines-lead run (entry ∷ entries) state = lines-lead run entries (after_global run state entry)

pub lines-answered : (run : History) (entries : List GlobalEntry) (state : WholeState) → EachGlobalAnswered run state entries → EachAnswered state.epochs (turns_in run state entries)
lines-answered run [] state h = tt
lines-answered run (entry ∷ entries) state h = (h.0, lines-answered run entries (after_global run state entry) h.1)

pub rounds-lead : (run : History) (rounds : List RoundLog) (state : WholeState) → after_turns state.epochs (turns_from run state rounds) ≡ (state_through run state rounds).epochs
rounds-lead run [] state = refl
rounds-lead run (round ∷ rounds) state =
    let here = turns_in run (after_logs run round state) round.globals in
    let later = turns_from run (after_round run round state) rounds in
    after_turns-append state.epochs here later
    ∙ ap (λ (e : EpochState). after_turns e later) (lines-lead run round.globals (after_logs run round state))
    ∙ rounds-lead run rounds (after_round run round state)

pub rounds-answered : (run : History) (rounds : List RoundLog) (state : WholeState) → EachRoundLegal run state rounds → EachAnswered state.epochs (turns_from run state rounds)
rounds-answered run [] state h = tt
rounds-answered run (round ∷ rounds) state h =
    let here = turns_in run (after_logs run round state) round.globals in
    let later = turns_from run (after_round run round state) rounds in
    answered-join state.epochs here later (lines-answered run round.globals (after_logs run round state) (h.0).globals)
    (subst (λ (e : EpochState). EachAnswered e later) (sym (lines-lead run round.globals (after_logs run round state))) (rounds-answered run rounds (after_round run round state) h.1))

pub lines_are_turns : LinesAreTurns
lines_are_turns run done legal = (rounds-answered run done (first_state run) legal, rounds-lead run done (first_state run))

-- ---- what was entered

pub enters-tells : (e : ℕ) (entry : GlobalEntry) → entry.line ≡ Enter e → is_accepted entry.answer ≡ true → enters e entry ≡ true
enters-tells e entry l is = by entry.line l
  where
    by : (line : GlobalLine) → line ≡ Enter e → enters e (record { line = line; answer = entry.answer }) ≡ true
    by line l = subst (λ (x : GlobalLine). enters e (record { line = x; answer = entry.answer }) ≡ true) (sym l) (let k = eq-eqb e e refl in grind (arith, k, is))

entered-in : (run : History) (e : ℕ) (entries : List GlobalEntry) (state : WholeState) → WasEntered e (turns_in run state entries) → list_any (enters e) entries ≡ true
entered-in run e [] state h = absurd h
entered-in run e (entry ∷ entries) state (inl now) = let k = enters-tells e entry now.0 now.1 in grind (arith, k)
entered-in run e (entry ∷ entries) state (inr later) = let k = entered-in run e entries (after_global run state entry) later in grind (arith, k)

pub entered-found : (run : History) (e : ℕ) (rounds : List RoundLog) (state : WholeState) (n : ℕ) → WasEntered e (turns_from run state rounds) →
    (i : ℕ) × (entered_from e n rounds ≡ Some i) × (i < n + length rounds)
entered-found run e [] state n h = absurd h
entered-found run e (round ∷ rounds) state n h = by (λ later. entered-found run e rounds (after_round run round state) (n + 1) later) (list_any (enters e) round.globals) refl
  where
    by : (WasEntered e (turns_from run (after_round run round state) rounds) → (i : ℕ) × (entered_from e (n + 1) rounds ≡ Some i) × (i < n + 1 + length rounds)) →
        (b : Bool) → list_any (enters e) round.globals ≡ b → (i : ℕ) × (cond b (Some n) (entered_from e (n + 1) rounds) ≡ Some i) × (i < n + length (round ∷ rounds))
    by again true k = (n, refl, omega arith)
    by again false k = elim (entered-either e (turns_in run (after_logs run round state) round.globals) (turns_from run (after_round run round state) rounds) h) [
      | inl now ↦ absurd (cc (sym k ∙ entered-in run e round.globals (after_logs run round state) now))
      | inr later ↦ (let f = again later in (f.0, f.1, (let lt = f.2 in omega (arith, lt))))
    ]

pub entered_from-append : (e n : ℕ) (one other : List RoundLog) (i : ℕ) → entered_from e n one ≡ Some i → entered_from e n (one ++ other) ≡ Some i
entered_from-append e n [] other i k = absurd (cc k)
entered_from-append e n (round ∷ one) other i k = by (entered_from-append e (n + 1) one other i) (list_any (enters e) round.globals) k
  where
    by : (entered_from e (n + 1) one ≡ Some i → entered_from e (n + 1) (one ++ other) ≡ Some i) →
        (b : Bool) → cond b (Some n) (entered_from e (n + 1) one) ≡ Some i → cond b (Some n) (entered_from e (n + 1) (one ++ other)) ≡ Some i
    by again true k = k
    by again false k = again k
