-- Global lines that are replayed in order.
use Rattle.std.proofs.Common.{◌≡◌, ◌<◌, ◌≤◌, ℕ, zero, suc, ◌+◌, Bool, true, false, refl, sym, ap, subst, ◌∙◌, arith, List, [], ◌∷◌, length, drop, get_or, None, if◌then◌else◌}
use Rattle.std.specs.List.{list_all}
use Rattle.std.proofs.lemmas.Bool.{and_parts}
use Rattle.mk_lists.proofs.Places.{drop_read}
use Rattle.mk_quorum.specs.Sizes.{members}
use Rattle.mk_words.specs.Lines.{line_fits, can_answer}
use Rattle.mk_words.specs.declared.GlobalEntry.{GlobalEntry}
use Rattle.mk_history.specs.Histories.{History}
use Rattle.mk_history.specs.Shape.{global_fits}
use Rattle.mk_history.specs.Wholes.{WholeState, after_global, globals_through}
use Rattle.mk_verdict.specs.declared.Flaw.TheVariants.{Answer as WrongAnswer}
use Rattle.mk_verdict.specs.declared.Place.TheVariants.{Global}
use Rattle.mk_verdict.specs.Sameness.{may_answer}
use Rattle.mk_verdict.specs.Flaws.{flaw_at, flaw_of_globals}
use Rattle.mk_verdict.proofs.SameFacts.{may_answer-tells}
use Rattle.mk_words.specs.Bases.{BaseState}
use Rattle.mk_state.specs.Standings.{WholeView, IsWithin, MayDo}
use Rattle.mk_whole.specs.Standings.{LinesMayBeDone, IsItself}

-- so many of the lines were done, and led to this state
pub record LinesDone (run : History) (state : WholeState) (entries : List GlobalEntry) (place : ℕ) (whole : WholeView BaseState) : Type 0 where
  pub next : WholeState
  pub lines : LinesMayBeDone run next whole (drop place entries)
  pub flaw : flaw_of_globals run state 1 entries ≡ flaw_of_globals run next (place + 1) (drop place entries)
  pub through : globals_through run state entries ≡ globals_through run next (drop place entries)

pub none-done : (run : History) (state : WholeState) (entries : List GlobalEntry) (whole : WholeView BaseState) → LinesMayBeDone run state whole entries → LinesDone run state entries 0 whole
none-done run state entries whole h = record { next = state; lines = h; flaw = refl; through = refl }

-- the first of the lines can be done
first-may : (run : History) (state : WholeState) (whole : WholeView BaseState) (entry : GlobalEntry) (entries : List GlobalEntry) →
    LinesMayBeDone run state whole (entry ∷ entries) → MayDo IsItself run state whole entry.line
first-may run state whole entry entries h =
    let first = and_parts (global_fits run entry) (list_all (global_fits run) entries) h.fits in
    record {
      within = h.within;
      ready = h.ready [] (entry ∷ entries) refl tt;
      range = (and_parts (line_fits (members run.faults) entry.line) (can_answer entry.line entry.answer) first.0).0;
    }

-- and once it was, so can the others
others-may : (run : History) (state : WholeState) (whole new : WholeView BaseState) (entry : GlobalEntry) (entries : List GlobalEntry) →
    LinesMayBeDone run state whole (entry ∷ entries) → may_answer state.epochs entry.line entry.answer ≡ true → IsWithin IsItself run new (after_global run state entry) →
    LinesMayBeDone run (after_global run state entry) new entries
others-may run state whole new entry entries h ok within =
    record {
      within = within;
      fits = (and_parts (global_fits run entry) (list_all (global_fits run) entries) h.fits).1;
      ready = λ lines more e answered. h.ready (entry ∷ lines) more (ap (λ (rest : List GlobalEntry). entry ∷ rest) e) (may_answer-tells state.epochs entry.line entry.answer ok, answered);
    }

module _ (run : History) (state : WholeState) (entries : List GlobalEntry) (place : ℕ) (whole : WholeView BaseState) (entry : GlobalEntry)
    (there : place < length entries) (is : entry ≡ get_or entries place entry) (h : LinesDone run state entries place whole) where
  rest_is : drop place entries ≡ entry ∷ drop (place + 1) entries
  rest_is = drop_read entries place entry there is

  here : LinesMayBeDone run h.next whole (entry ∷ drop (place + 1) entries)
  here = subst (λ (rest : List GlobalEntry). LinesMayBeDone run h.next whole rest) rest_is h.lines

  pub next-may : MayDo IsItself run h.next whole entry.line
  next-may = first-may run h.next whole entry (drop (place + 1) entries) here

  flaw-here : flaw_of_globals run state 1 entries ≡
      (if may_answer h.next.epochs entry.line entry.answer then flaw_of_globals run (after_global run h.next entry) (place + 1 + 1) (drop (place + 1) entries) else flaw_at (Global (place + 1)) WrongAnswer)
  flaw-here = h.flaw ∙ ap (flaw_of_globals run h.next (place + 1)) rest_is

  -- a line that cannot have its answer is the first such
  pub flaw-found : may_answer h.next.epochs entry.line entry.answer ≡ false → flaw_of_globals run state 1 entries ≡ flaw_at (Global (place + 1)) WrongAnswer
  flaw-found refused =
      flaw-here
      ∙ ap (λ (b : Bool). if b then flaw_of_globals run (after_global run h.next entry) (place + 1 + 1) (drop (place + 1) entries) else flaw_at (Global (place + 1)) WrongAnswer) refused

  -- one more was done
  pub one-more : may_answer h.next.epochs entry.line entry.answer ≡ true → (new : WholeView BaseState) → IsWithin IsItself run new (after_global run h.next entry) → LinesDone run state entries (place + 1) new
  one-more ok new within =
      record {
        next = after_global run h.next entry;
        lines = others-may run h.next whole new entry (drop (place + 1) entries) here ok within;
        flaw = flaw-here
            ∙ ap (λ (b : Bool). if b then flaw_of_globals run (after_global run h.next entry) (place + 1 + 1) (drop (place + 1) entries) else flaw_at (Global (place + 1)) WrongAnswer) ok;
        through = h.through ∙ ap (globals_through run h.next) rest_is;
      }

drop-none : {X : Type 0} (xs : List X) (n : ℕ) → length xs ≤ n → drop n xs ≡ []
drop-none [] zero over = refl
drop-none [] (suc n) over = refl
drop-none (x ∷ xs) zero over = absurd (omega (arith, over))
drop-none (x ∷ xs) (suc n) over = drop-none xs n (omega (arith, over))

module _ (run : History) (state : WholeState) (entries : List GlobalEntry) (place : ℕ) (whole : WholeView BaseState) (over : length entries ≤ place)
    (h : LinesDone run state entries place whole) where
  pub no-flaw : flaw_of_globals run state 1 entries ≡ None
  no-flaw = h.flaw ∙ ap (flaw_of_globals run h.next (place + 1)) (drop-none entries place over)

  pub all-done : IsWithin IsItself run whole (globals_through run state entries)
  all-done =
      subst (λ (s : WholeState). IsWithin IsItself run whole s) (sym (h.through ∙ ap (globals_through run h.next) (drop-none entries place over))) h.lines.within
