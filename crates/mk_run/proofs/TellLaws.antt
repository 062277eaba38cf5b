-- At each accepted Enter of a legal round its base was made, and stays: what is told of it at the round's end was told there.
use Rattle.std.proofs.Common.{◌≡◌, ◌∙◌, ℕ, Bool, true, false, refl, sym, ap, subst, arith, List, [], ◌∷◌, Some, if◌then◌else◌}
use Rattle.mk_quorum.specs.Sizes.{members}
use Rattle.mk_quorum.proofs.Meeting.{count_below-some}
use Rattle.mk_words.specs.Bases.{BaseState, taught_by}
use Rattle.mk_words.specs.declared.GlobalAnswer.{GlobalAnswer}
use Rattle.mk_words.specs.declared.GlobalEntry.{GlobalEntry}
use Rattle.mk_words.specs.declared.GlobalLine.{GlobalLine}
use Rattle.mk_words.specs.declared.GlobalLine.TheVariants.{Wipe, Ask, Promise, Merge, Adopt, Enter}
use Rattle.mk_model.specs.EpochState.{EpochState, made_for, ever_adopted}
use Rattle.mk_model.specs.GlobalAnswers.{is_accepted}
use Rattle.mk_model.specs.GlobalSteps.{IsAnswer, global_after, base_or_empty}
use Rattle.mk_epoch_laws.specs.Turns.{GlobalTurn}
use Rattle.mk_epoch_laws.proofs.EpochFacts.{EpochFacts}
use Rattle.mk_epoch_laws.proofs.Extending.{Extends, extends_itself, extends_further, line_extends, keeps_base}
use Rattle.mk_epoch_laws.proofs.FactsKept.{facts_first}
use Rattle.mk_epoch_laws.proofs.LineNews.{enter_done}
use Rattle.mk_epoch_laws.proofs.Resetting.{adoption_of}
use Rattle.mk_epoch_laws.proofs.Turning.{answer_given, facts_turn}
use Rattle.mk_history.specs.declared.RoundLog.{RoundLog}
use Rattle.mk_history.specs.Histories.{History}
use Rattle.mk_history.specs.Legality.{EachGlobalAnswered, EachRoundLegal, IsLegalRound}
use Rattle.mk_history.specs.Wholes.{WholeState, first_state, state_through, after_logs, after_global, after_round, globals_through, handed_in}
use Rattle.mk_run.specs.News.{told_in}
use Rattle.mk_run.proofs.RoundLaws.{TellsRightly, EachTellsRightly}

-- the turn of an entry in this state
abbrev turn_at : WholeState → GlobalEntry → GlobalTurn
turn_at state entry = record { handed = handed_in state entry.line; line = entry.line; answer = entry.answer }

entry_facts : (run : History) (state : WholeState) (entry : GlobalEntry) → EpochFacts state.epochs → IsAnswer state.epochs entry.line entry.answer → EpochFacts (after_global run state entry).epochs
entry_facts run state entry facts answered = facts_turn state.epochs facts (turn_at state entry) answered

lines_facts : (run : History) (state : WholeState) (lines : List GlobalEntry) → EpochFacts state.epochs → EachGlobalAnswered run state lines → EpochFacts (globals_through run state lines).epochs
lines_facts run state [] facts answered = facts
lines_facts run state (entry ∷ lines) facts answered = lines_facts run (after_global run state entry) lines (entry_facts run state entry facts answered.0) answered.1

rounds_facts : (run : History) (state : WholeState) (rounds : List RoundLog) → EpochFacts state.epochs → EachRoundLegal run state rounds → EpochFacts (state_through run state rounds).epochs
rounds_facts run state [] facts legal = facts
rounds_facts run state (round ∷ rounds) facts legal =
    rounds_facts run (after_round run round state) rounds (lines_facts run (after_logs run round state) round.globals facts legal.0.globals) legal.1

entry_extends : (run : History) (state : WholeState) (entry : GlobalEntry) → Extends state.epochs (after_global run state entry).epochs
entry_extends run state entry = by_answer (is_accepted entry.answer)
  where
    by_answer : (b : Bool) → Extends state.epochs (if b then global_after state.epochs (handed_in state entry.line) entry.line else state.epochs)
    by_answer true = line_extends state.epochs (handed_in state entry.line) entry.line
    by_answer false = extends_itself state.epochs

lines_extend : (run : History) (state : WholeState) (lines : List GlobalEntry) → Extends state.epochs (globals_through run state lines).epochs
lines_extend run state [] = extends_itself state.epochs
lines_extend run state (entry ∷ lines) =
    let next = after_global run state entry in
    extends_further state.epochs next.epochs (globals_through run next lines).epochs (entry_extends run state entry) (lines_extend run next lines)

-- the base of an epoch that a line enters was made
entered_made : (state : EpochState) → EpochFacts state → (epoch : ℕ) (answer : GlobalAnswer) → IsAnswer state (Enter epoch) answer → is_accepted answer ≡ true →
    (base : BaseState) × (made_for epoch state ≡ Some base)
entered_made state facts epoch answer answered accepted =
    let many = enter_done state epoch (answer_given state (Enter epoch) answer answered accepted) in
    let r = count_below-some (members state.faults) (ever_adopted epoch state) (omega (arith, many)) in
    let a = adoption_of epoch state r.0 r.2 in
    let b = facts.was_made a.0 a.1 in
    (b.0, subst (λ (n : ℕ). made_for n state ≡ Some b.0) a.2 b.1)

line_tells : (early late : EpochState) → EpochFacts early → Extends early late → (state : WholeState) → state.epochs ≡ early → (answer : GlobalAnswer) (line : GlobalLine) → IsAnswer early line answer →
    TellsRightly (told_in late) answer state line
line_tells early late facts more state is answer (Enter epoch) answered = λ accepted.
    let made = entered_made early facts epoch answer answered accepted in
    ap (λ o. taught_by (base_or_empty o)) (keeps_base early late more epoch made.0 made.1 ∙ sym made.1 ∙ ap (made_for epoch) (sym is))
line_tells early late facts more state is answer (Wipe r) answered = tt
line_tells early late facts more state is answer (Ask epoch) answered = tt
line_tells early late facts more state is answer (Promise epoch r) answered = tt
line_tells early late facts more state is answer (Merge epoch) answered = tt
line_tells early late facts more state is answer (Adopt epoch r) answered = tt

lines_tell : (run : History) (state : WholeState) (lines : List GlobalEntry) (late : EpochState) → EpochFacts state.epochs → EachGlobalAnswered run state lines →
    Extends (globals_through run state lines).epochs late → EachTellsRightly (told_in late) run state lines
lines_tell run state [] late facts answered more = tt
lines_tell run state (entry ∷ lines) late facts answered more =
    let next = after_global run state entry in
    let further = extends_further state.epochs (globals_through run next lines).epochs late (lines_extend run state (entry ∷ lines)) more in
    (line_tells state.epochs late facts further state refl entry.answer entry.line answered.0, lines_tell run next lines late (entry_facts run state entry facts answered.0) answered.1 more)

-- so all accepted Enters of a legal round behind legal rounds are told rightly by its end
pub round-tells : (run : History) (done : List RoundLog) (round : RoundLog) → EachRoundLegal run (first_state run) done → IsLegalRound run round (state_through run (first_state run) done) →
    EachTellsRightly (told_in (after_round run round (state_through run (first_state run) done)).epochs) run (after_logs run round (state_through run (first_state run) done)) round.globals
round-tells run done round legal now =
    let state = state_through run (first_state run) done in
    let begun = after_logs run round state in
    lines_tell run begun round.globals (after_round run round state).epochs
    (rounds_facts run (first_state run) done (facts_first run.faults) legal) now.globals (extends_itself (globals_through run begun round.globals).epochs)
