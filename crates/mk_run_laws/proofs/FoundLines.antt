-- What is found along global lines is what the bases of the epochs tell that the lines entered first.
use Rattle.std.proofs.Common.{◌≡◌, ℕ, ◌+◌, Bool, true, false, refl, arith, inl, inr, sym, ap, ◌∙◌, List, [], ◌∷◌, ◌++◌, Option, Some, None, subst, cond, not, ◌&&◌, ◌||◌, map}
use Rattle.std.specs.Prelude.{◌==◌}
use Rattle.std.specs.List.{list_any}
use Rattle.std.proofs.lemmas.Bool.{and_parts, or_parts}
use Rattle.mk_lists.specs.Among.{Among, Among-append, Among-append_left}
use Rattle.mk_lists.proofs.Members.{Among-from_map, Among-map}
use Rattle.mk_txn.specs.declared.TxnId.{TxnId}
use Rattle.mk_txn.specs.declared.Outcome.{Outcome}
use Rattle.mk_words.specs.Bases.{BaseState, taught_by}
use Rattle.mk_words.specs.declared.GlobalEntry.{GlobalEntry}
use Rattle.mk_words.specs.declared.GlobalLine.{GlobalLine}
use Rattle.mk_words.specs.declared.GlobalLine.TheVariants.{Wipe, Ask, Promise, Merge, Adopt, Enter}
use Rattle.mk_model.specs.EpochState.{EpochState, MadeBase, made_for}
use Rattle.mk_model.specs.GlobalAnswers.{is_accepted}
use Rattle.mk_model.specs.GlobalSteps.{HandedIn, base_or_empty, global_after}
use Rattle.mk_epoch_laws.proofs.Extending.{line_extends}
use Rattle.mk_history.specs.declared.RoundLog.{RoundLog}
use Rattle.mk_history.specs.Histories.{History}
use Rattle.mk_history.specs.Learning.{Place, Found, found_by_enter, found_by_line, found_in_logs, found_in_globals, found_from, entered_after, entered_through}
use Rattle.mk_history.specs.Learning.Place.{InGlobals}
use Rattle.mk_history.specs.Teaching.{enters, entered_from}
use Rattle.mk_history.specs.Wholes.{WholeState, setting_of, handed_in, after_logs, after_global, globals_through, after_round, state_through}
use Rattle.mk_run_laws.proofs.FoundLogs.{IsFound, found-left, found-right}
use Rattle.mk_run_laws.proofs.Lines.{enters-tells}
use Rattle.mk_run_laws.proofs.Reaching.{made_found}
use Rattle.mk_run_laws.proofs.Served.{is_enter_line}

-- ---- bases stay

made_stays_global : (run : History) (entry : GlobalEntry) (state : WholeState) (m : MadeBase) → Among m state.epochs.made → Among m (after_global run state entry).epochs.made
made_stays_global run entry state m a = by (is_accepted entry.answer)
  where
    handed : HandedIn
    handed = handed_in state entry.line

    by : (b : Bool) → Among m (cond b (global_after state.epochs handed entry.line) state.epochs).made
    by true = let more = (line_extends state.epochs handed entry.line).more_made in subst (Among m) (sym more.1) (Among-append_left m state.epochs.made more.0 a)
    by false = a

pub made_stays_globals : (run : History) (entries : List GlobalEntry) (state : WholeState) (m : MadeBase) → Among m state.epochs.made → Among m (globals_through run state entries).epochs.made
made_stays_globals run [] state m a = a
made_stays_globals run (entry ∷ entries) state m a = made_stays_globals run entries (after_global run state entry) m (made_stays_global run entry state m a)

pub made_stays_rounds : (run : History) (rounds : List RoundLog) (state : WholeState) (m : MadeBase) → Among m state.epochs.made → Among m (state_through run state rounds).epochs.made
made_stays_rounds run [] state m a = a
made_stays_rounds run (round ∷ rounds) state m a =
    made_stays_rounds run rounds (after_round run round state) m (made_stays_globals run round.globals (after_logs run round state) m a)

-- ---- what is found comes from a base

-- a base that was made tells it
abbrev pub IsToldBy : TxnId → Outcome → MadeBase → Type 0
IsToldBy id outcome made = Among (id, outcome) (taught_by made.base)

-- what a base tells that is there, or none
told_of : (epoch : ℕ) (state : EpochState) (fate : TxnId × Outcome) → Among fate (taught_by (base_or_empty (made_for epoch state))) →
    (m : MadeBase) × (Among m state.made × ((m.epoch ≡ epoch) × IsToldBy fate.0 fate.1 m))
told_of epoch state fate a = by (made_for epoch state) refl a
  where
    by : (o : Option BaseState) → made_for epoch state ≡ o → Among fate (taught_by (base_or_empty o)) →
        (m : MadeBase) × (Among m state.made × ((m.epoch ≡ epoch) × IsToldBy fate.0 fate.1 m))
    by None k a = absurd a
    by (Some base) k a =
        let f = made_found epoch state.made base k in
        (f.0, (f.1, (f.2, subst (λ (b : BaseState). Among fate (taught_by b)) (sym f.3) a)))

-- a base that was made by then, and whose epoch one of these lines entered, tells it
abbrev pub LineTells : History → WholeState → List GlobalEntry → TxnId → Outcome → Type 0
LineTells run state lines id outcome =
    (m : MadeBase) × (Among m (globals_through run state lines).epochs.made × ((list_any (enters m.epoch) lines ≡ true) × IsToldBy id outcome m))

line_found : (place : Place) (state : WholeState) (entered : List ℕ) (entry : GlobalEntry) (f : Found) → Among f (found_by_line place state entered entry.answer entry.line) →
    (m : MadeBase) × (Among m state.epochs.made × ((enters m.epoch entry ≡ true) × IsToldBy f.id f.outcome m))
line_found place state entered entry f a = by entry.line refl a
  where
    by : (line : GlobalLine) → entry.line ≡ line → Among f (found_by_line place state entered entry.answer line) →
        (m : MadeBase) × (Among m state.epochs.made × ((enters m.epoch entry ≡ true) × IsToldBy f.id f.outcome m))
    by (Wipe r) same a = absurd a
    by (Ask n) same a = absurd a
    by (Promise n r) same a = absurd a
    by (Merge n) same a = absurd a
    by (Adopt n r) same a = absurd a
    by (Enter epoch) same a = which (is_accepted entry.answer && not (list_any (λ e. e == epoch) entered)) refl a
      where
        which : (b : Bool) → (is_accepted entry.answer && not (list_any (λ e. e == epoch) entered)) ≡ b →
            Among f (cond b (map (found_by_enter place epoch) (taught_by (base_or_empty (made_for epoch state.epochs)))) []) →
            (m : MadeBase) × (Among m state.epochs.made × ((enters m.epoch entry ≡ true) × IsToldBy f.id f.outcome m))
        which false k a = absurd a
        which true k a =
            let accepted = (and_parts (is_accepted entry.answer) (not (list_any (λ e. e == epoch) entered)) k).0 in
            let g = Among-from_map (found_by_enter place epoch) f (taught_by (base_or_empty (made_for epoch state.epochs))) a in
            let t = told_of epoch state.epochs g.0 g.1 in (
              t.0,
              (
                t.1.0,
                (
                  enters-tells (t.0).epoch entry (same ∙ ap Enter (sym t.1.1.0)) accepted,
                  subst (λ (x : Found). IsToldBy x.id x.outcome t.0) g.2 t.1.1.1,
                ),
              ),
            )

pub lines_found : (run : History) (number n : ℕ) (lines : List GlobalEntry) (state : WholeState) (entered : List ℕ) (f : Found) →
    Among f (found_in_globals number n run state entered lines) → LineTells run state lines f.id f.outcome
lines_found run number n [] state entered f a = absurd a
lines_found run number n (line ∷ lines) state entered f a =
    let here = found_by_line (InGlobals number n) state entered line.answer line.line in
    let next = after_global run state line in
    let later = found_in_globals number (n + 1) run next (entered_after line.answer entered line.line) lines in
    elim (Among-append f here later a) [
      | inl now ↦ (
          let k = line_found (InGlobals number n) state entered line f now in
          (k.0, (made_stays_globals run (line ∷ lines) state k.0 k.1.0, (ap (λ (b : Bool). b || list_any (enters (k.0).epoch) lines) k.1.1.0, k.1.1.1)))
          )
      | inr then ↦ (
          let k = lines_found run number (n + 1) lines next (entered_after line.answer entered line.line) f then in
          (k.0, (k.1.0, (either (enters (k.0).epoch line) (list_any (enters (k.0).epoch) lines) k.1.1.0, k.1.1.1)))
          )
    ]
  where
    either : (a b : Bool) → b ≡ true → (a || b) ≡ true
    either true b e = refl
    either false b e = e

-- a base that was made by the end, and whose epoch was entered, tells it
abbrev pub BaseTells : History → ℕ → WholeState → List RoundLog → TxnId → Outcome → Type 0
BaseTells run n state rounds id outcome =
    (m : MadeBase) × (Among m (state_through run state rounds).epochs.made × (((j : ℕ) × (entered_from m.epoch n rounds ≡ Some j)) × IsToldBy id outcome m))

pub here_tells : (run : History) (n : ℕ) (round : RoundLog) (rounds : List RoundLog) (state : WholeState) (id : TxnId) (o : Outcome) →
    LineTells run (after_logs run round state) round.globals id o → BaseTells run n state (round ∷ rounds) id o
here_tells run n round rounds state id o (m, (a, (e, told))) =
    (m, (made_stays_rounds run rounds (after_round run round state) m a, ((n, ap (λ (b : Bool). cond b (Some n) (entered_from m.epoch (n + 1) rounds)) e), told)))

pub later_tells : (run : History) (n : ℕ) (round : RoundLog) (rounds : List RoundLog) (state : WholeState) (id : TxnId) (o : Outcome) →
    BaseTells run (n + 1) (after_round run round state) rounds id o → BaseTells run n state (round ∷ rounds) id o
later_tells run n round rounds state id o (m, (a, (e, told))) = (m, (a, (by (list_any (enters m.epoch) round.globals), told)))
  where
    by : (b : Bool) → (j : ℕ) × (cond b (Some n) (entered_from m.epoch (n + 1) rounds) ≡ Some j)
    by true = (n, refl)
    by false = e

-- ---- and what an entered base tells is found

-- a line that does not enter an epoch leaves it not entered
not_entered : (epoch : ℕ) (entry : GlobalEntry) (entered : List ℕ) → enters epoch entry ≡ false → list_any (λ e. e == epoch) entered ≡ false →
    list_any (λ e. e == epoch) (entered_after entry.answer entered entry.line) ≡ false
not_entered epoch entry entered apart before = by entry.line apart
  where
    by : (line : GlobalLine) → enters epoch (record { line = line; answer = entry.answer }) ≡ false → list_any (λ e. e == epoch) (entered_after entry.answer entered line) ≡ false
    by (Wipe r) e = before
    by (Ask n) e = before
    by (Promise n r) e = before
    by (Merge n) e = before
    by (Adopt n r) e = before
    by (Enter other) e = which (is_accepted entry.answer) (other == epoch) refl e
      where
        which : (b d : Bool) → (other == epoch) ≡ d → (d && b) ≡ false → list_any (λ e. e == epoch) (cond b (other ∷ entered) entered) ≡ false
        which false d k e = before
        which true true k e = absurd (cc e)
        which true false k e = ap (λ (b : Bool). b || list_any (λ e. e == epoch) entered) k ∙ before

-- the first of some lines that enters an epoch: the lines before it, itself and those behind it
pub record FirstLine (run : History) (epoch : ℕ) (state : WholeState) (lines : List GlobalEntry) (all : List Found) : Type 0 where
  pub before : List GlobalEntry
  pub line : GlobalEntry
  pub behind : List GlobalEntry
  pub split : lines ≡ before ++ line ∷ behind
  pub is_enter : line.line ≡ Enter epoch
  pub accepted : is_accepted line.answer ≡ true
  pub teaches : (fate : TxnId × Outcome) → Among fate (taught_by (base_or_empty (made_for epoch (globals_through run state before).epochs))) → IsFound fate.0 fate.1 all

pub first_line : (run : History) (epoch number n : ℕ) (lines : List GlobalEntry) (state : WholeState) (entered : List ℕ) →
    list_any (enters epoch) lines ≡ true → list_any (λ e. e == epoch) entered ≡ false → FirstLine run epoch state lines (found_in_globals number n run state entered lines)
first_line run epoch number n [] state entered some fresh = absurd (cc some)
first_line run epoch number n (line ∷ lines) state entered some fresh =
    by (λ e k. first_line run epoch number (n + 1) lines (after_global run state line) (entered_after line.answer entered line.line) e k) (enters epoch line) refl some
  where
    here : List Found
    here = found_by_line (InGlobals number n) state entered line.answer line.line

    later : List Found
    later = found_in_globals number (n + 1) run (after_global run state line) (entered_after line.answer entered line.line) lines

    teaches_here : line.line ≡ Enter epoch → is_accepted line.answer ≡ true → (fate : TxnId × Outcome) → Among fate (taught_by (base_or_empty (made_for epoch state.epochs))) → IsFound fate.0 fate.1 here
    teaches_here is accepted fate a =
        let told = taught_by (base_or_empty (made_for epoch state.epochs)) in
        let all = map (found_by_enter (InGlobals number n) epoch) told in
        let passes_test : (is_accepted line.answer && not (list_any (λ e. e == epoch) entered)) ≡ true = grind (arith, accepted, fresh) in
        let same : found_by_line (InGlobals number n) state entered line.answer line.line ≡ all =
        ap (found_by_line (InGlobals number n) state entered line.answer) is ∙ ap (λ (b : Bool). cond b all []) passes_test in
        subst (IsFound fate.0 fate.1) (sym same) (found_by_enter (InGlobals number n) epoch fate, (Among-map (found_by_enter (InGlobals number n) epoch) fate told a, (refl, refl)))

    by : (list_any (enters epoch) lines ≡ true → list_any (λ e. e == epoch) (entered_after line.answer entered line.line) ≡ false → FirstLine run epoch (after_global run state line) lines later) →
        (b : Bool) → enters epoch line ≡ b → (b || list_any (enters epoch) lines) ≡ true → FirstLine run epoch state (line ∷ lines) (here ++ later)
    by again true k some =
        let is = is_enter_line epoch line k in
        record {
          before = [];
          line = line;
          behind = lines;
          split = refl;
          is_enter = is.0;
          accepted = is.1;
          teaches = λ fate a. found-left fate.0 fate.1 here later (teaches_here is.0 is.1 fate a);
        }
    by again false k some =
        let f = again some (not_entered epoch line entered k fresh) in
        record {
          before = line ∷ f.before;
          line = f.line;
          behind = f.behind;
          split = ap (λ (ls : List GlobalEntry). line ∷ ls) f.split;
          is_enter = f.is_enter;
          accepted = f.accepted;
          teaches = λ fate a. found-right fate.0 fate.1 here later (f.teaches fate a);
        }

not_entered_through : (epoch : ℕ) (lines : List GlobalEntry) (entered : List ℕ) → list_any (enters epoch) lines ≡ false → list_any (λ e. e == epoch) entered ≡ false →
    list_any (λ e. e == epoch) (entered_through entered lines) ≡ false
not_entered_through epoch [] entered apart fresh = fresh
not_entered_through epoch (line ∷ lines) entered apart fresh =
    let k = or_parts (enters epoch line) (list_any (enters epoch) lines) apart in
    not_entered_through epoch lines (entered_after line.answer entered line.line) k.1 (not_entered epoch line entered k.0 fresh)

-- the first of some rounds that enters an epoch
pub record FirstRound (run : History) (epoch : ℕ) (state : WholeState) (rounds : List RoundLog) (all : List Found) : Type 0 where
  pub done : List RoundLog
  pub round : RoundLog
  pub rest : List RoundLog
  pub split : rounds ≡ done ++ round ∷ rest
  pub first : FirstLine run epoch (after_logs run round (state_through run state done)) round.globals all

pub first_round : (run : History) (epoch n j : ℕ) (rounds : List RoundLog) (state : WholeState) (entered : List ℕ) → entered_from epoch n rounds ≡ Some j →
    list_any (λ e. e == epoch) entered ≡ false → FirstRound run epoch state rounds (found_from n run state entered rounds)
first_round run epoch n j [] state entered e fresh = absurd (cc e)
first_round run epoch n j (round ∷ rounds) state entered e fresh =
    by (λ later k. first_round run epoch (n + 1) j rounds (after_round run round state) (entered_through entered round.globals) later k) (list_any (enters epoch) round.globals) refl e
  where
    logs : List Found
    logs = found_in_logs n (setting_of run state) round 0 state.columns

    lines : List Found
    lines = found_in_globals n 1 run (after_logs run round state) entered round.globals

    rest : List Found
    rest = found_from (n + 1) run (after_round run round state) (entered_through entered round.globals) rounds

    wider : (s : WholeState) (ls : List GlobalEntry) (one other : List Found) → ((id : TxnId) (o : Outcome) → IsFound id o one → IsFound id o other) →
        FirstLine run epoch s ls one → FirstLine run epoch s ls other
    wider s ls one other more f =
        record {
          before = f.before;
          line = f.line;
          behind = f.behind;
          split = f.split;
          is_enter = f.is_enter;
          accepted = f.accepted;
          teaches = λ fate a. more fate.0 fate.1 (f.teaches fate a);
        }

    by : (entered_from epoch (n + 1) rounds ≡ Some j → list_any (λ e. e == epoch) (entered_through entered round.globals) ≡ false → FirstRound run epoch (after_round run round state) rounds rest) →
        (b : Bool) → list_any (enters epoch) round.globals ≡ b → cond b (Some n) (entered_from epoch (n + 1) rounds) ≡ Some j → FirstRound run epoch state (round ∷ rounds) ((logs ++ lines) ++ rest)
    by again true k e =
        record {
          done = [];
          round = round;
          rest = rounds;
          split = refl;
          first = wider (after_logs run round state) round.globals lines ((logs ++ lines) ++ rest)
              (λ id o x. found-left id o (logs ++ lines) rest (found-right id o logs lines x))
              (first_line run epoch n 1 round.globals (after_logs run round state) entered k fresh);
        }
    by again false k e =
        let f = again e (not_entered_through epoch round.globals entered k fresh) in
        record {
          done = round ∷ f.done;
          round = f.round;
          rest = f.rest;
          split = ap (λ (rs : List RoundLog). round ∷ rs) f.split;
          first = wider (after_logs run f.round (state_through run (after_round run round state) f.done)) (f.round).globals rest ((logs ++ lines) ++ rest)
              (λ id o x. found-right id o (logs ++ lines) rest x) f.first;
        }
