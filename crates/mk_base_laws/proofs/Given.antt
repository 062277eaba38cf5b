-- Each promise was given by a line of a round.
use Rattle.std.proofs.Common.{◌≡◌, ◌⊎◌, ◌<◌, Bool, true, false, refl, inl, inr, sym, ap, ◌∙◌, List, [], ◌∷◌, ◌++◌, subst, cond}
use Rattle.mk_lists.specs.Among.{Among}
use Rattle.mk_words.specs.declared.GlobalEntry.{GlobalEntry}
use Rattle.mk_words.specs.declared.GlobalLine.{GlobalLine}
use Rattle.mk_words.specs.declared.GlobalLine.TheVariants.{Promise}
use Rattle.mk_model.specs.EpochState.{ReplicaState, GivenPromise}
use Rattle.mk_model.specs.GlobalAnswers.{lacks, is_accepted}
use Rattle.mk_model.specs.GlobalSteps.{global_after, promise_of}
use Rattle.mk_epoch_laws.specs.WordLaws.{IsAt}
use Rattle.mk_epoch_laws.proofs.LineNews.{promise_news}
use Rattle.mk_epoch_laws.proofs.Turning.{answer_given}
use Rattle.mk_history.specs.declared.RoundLog.{RoundLog}
use Rattle.mk_history.specs.Histories.{History}
use Rattle.mk_history.specs.Legality.{EachGlobalAnswered, EachRoundLegal}
use Rattle.mk_history.specs.Wholes.{WholeState, first_state, handed_in, after_logs, after_global, globals_through, after_round, state_through}
use Rattle.mk_run_laws.proofs.Lines.{state_through-append}
use Rattle.mk_base_laws.specs.Giving.{PromisesWereGiven}
use Rattle.mk_base_laws.proofs.Walking.{legal_done}

-- one of these lines gave it
record GivenIn (run : History) (state : WholeState) (lines : List GlobalEntry) (given : GivenPromise) : Type 0 where
  before : List GlobalEntry
  entry : GlobalEntry
  more : List GlobalEntry
  in_lines : lines ≡ before ++ entry ∷ more
  line : entry.line ≡ Promise given.epoch given.promise.replica
  accepted : is_accepted entry.answer ≡ true
  replica : ReplicaState
  at : IsAt (globals_through run state before).epochs given.promise.replica replica
  has_state : lacks replica.phase ≡ false
  word_below : replica.word < given.epoch
  hands : promise_of given.promise.replica (handed_in (globals_through run state before) entry.line) replica ≡ given.promise

given_in_lines : (run : History) (lines : List GlobalEntry) (state : WholeState) → EachGlobalAnswered run state lines → (given : GivenPromise) →
    Among given (globals_through run state lines).epochs.promises → Among given state.epochs.promises ⊎ GivenIn run state lines given
given_in_lines run [] state answered given a = inl a
given_in_lines run (entry ∷ lines) state answered given a = elim (given_in_lines run lines (after_global run state entry) answered.1 given a) [
  | inl old ↦ by (is_accepted entry.answer) refl old
  | inr k ↦ inr (record {
    before = entry ∷ k.before;
    entry = k.entry;
    more = k.more;
    in_lines = ap (λ (es : List GlobalEntry). entry ∷ es) k.in_lines;
    line = k.line;
    accepted = k.accepted;
    replica = k.replica;
    at = k.at;
    has_state = k.has_state;
    word_below = k.word_below;
    hands = k.hands;
  })
]
  where
    by : (b : Bool) → is_accepted entry.answer ≡ b → Among given (cond b (global_after state.epochs (handed_in state entry.line) entry.line) state.epochs).promises →
        Among given state.epochs.promises ⊎ GivenIn run state (entry ∷ lines) given
    by false e m = inl m
    by true e m = elim (promise_news state.epochs (handed_in state entry.line) entry.line (answer_given state.epochs entry.line entry.answer answered.0 e) given m) [
      | inl old ↦ inl old
      | inr new ↦ inr (record {
        before = [];
        entry = entry;
        more = lines;
        in_lines = refl;
        line = new.0;
        accepted = e;
        replica = new.1.0;
        at = new.1.1;
        has_state = new.1.3;
        word_below = new.1.4;
        hands = new.1.2;
      })
    ]

-- a line of one of these rounds gave it
record GivenBy (run : History) (state : WholeState) (rounds : List RoundLog) (given : GivenPromise) : Type 0 where
  before : List RoundLog
  round : RoundLog
  later : List RoundLog
  split : rounds ≡ before ++ round ∷ later
  by_then : Among given (after_round run round (state_through run state before)).epochs.promises
  in_round : GivenIn run (after_logs run round (state_through run state before)) round.globals given

given_in_rounds : (run : History) (rounds : List RoundLog) (state : WholeState) → EachRoundLegal run state rounds → (given : GivenPromise) →
    Among given (state_through run state rounds).epochs.promises → Among given state.epochs.promises ⊎ GivenBy run state rounds given
given_in_rounds run [] state legal given a = inl a
given_in_rounds run (round ∷ rounds) state legal given a = elim (given_in_rounds run rounds (after_round run round state) legal.1 given a) [
  | inl old ↦ elim (given_in_lines run round.globals (after_logs run round state) (legal.0).globals given old) [
    | inl before ↦ inl before
    | inr now ↦ inr (record { before = []; round = round; later = rounds; split = refl; by_then = old; in_round = now })
  ]
  | inr k ↦ inr (record {
    before = round ∷ k.before;
    round = k.round;
    later = k.later;
    split = ap (λ (rs : List RoundLog). round ∷ rs) k.split;
    by_then = k.by_then;
    in_round = k.in_round;
  })
]

pub promises_were_given : PromisesWereGiven
promises_were_given run legal done rest split given a = elim (given_in_rounds run done (first_state run) (legal_done run legal done rest split) given a) [
  | inl none ↦ absurd none
  | inr k ↦
      let g = k.in_round in
      record {
        before = k.before;
        round = k.round;
        later = k.later;
        split = k.split;
        by_then = subst (λ (s : WholeState). Among given s.epochs.promises) (sym (state_through-append run (first_state run) k.before (k.round ∷ []))) k.by_then;
        lines = g.before;
        entry = g.entry;
        more = g.more;
        in_round = g.in_lines;
        line = g.line;
        accepted = g.accepted;
        replica = g.replica;
        at = g.at;
        has_state = g.has_state;
        word_below = g.word_below;
        hands = sym g.hands
            ∙ ap (λ (l : GlobalLine). promise_of given.promise.replica (handed_in (globals_through run (after_logs run k.round (state_through run (first_state run) k.before)) g.before) l) g.replica) g.line;
      }
]
