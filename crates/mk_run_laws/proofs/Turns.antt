-- The key steps of a log and the entries of a journal, as acts with answers.
use Rattle.std.proofs.Common.{◌≡◌, ◌⊎◌, ℕ, Bool, true, false, refl, arith, inl, inr, sym, ap, ◌∙◌, List, [], ◌∷◌, subst, cond, ◌&&◌, map}
use Rattle.std.specs.Prelude.{slice_get, ◌==◌}
use Rattle.std.proofs.lemmas.Bool.{and_parts, eq-eqb, eqb-true}
use Rattle.mk_lists.specs.Among.{Among, Among-append, Among-append_left, Among-append_right}
use Rattle.mk_words.specs.declared.JournalEntry.{JournalEntry}
use Rattle.mk_words.specs.declared.Answer.{Answer}
use Rattle.mk_words.specs.declared.KeyCall.{KeyCall}
use Rattle.mk_words.specs.declared.Step.{Step}
use Rattle.mk_words.specs.declared.Step.TheVariants.{Begin, Unread, Read, Stamp, Validate, Take, Key, Rule, Again, Takeover, Pick, Stop}
use Rattle.mk_model.specs.ColumnState.{Setting}
use Rattle.mk_model.specs.Steps.{epoch_of}
use Rattle.mk_column_laws.specs.Moments.{Moment, PastAct, Event, act_of, after_event, moment_through, step_done}
use Rattle.mk_column_laws.specs.Moments.Event.{NewRound, Doing}
use Rattle.mk_history.specs.Matching.{Turn, turns_in_log, turns_in_journal}

abbrev pub turn : KeyCall → Answer → Turn
turn call answer = record { act = call.act; answer = answer }

abbrev pub turn_of_entry : JournalEntry → Turn
turn_of_entry entry = record { act = entry.act; answer = entry.answer }

abbrev pub turn_of_act : PastAct → Turn
turn_of_act act = record { act = act.act; answer = act.answer }

-- ---- journals

pub entry_turn : (c : ℕ) (entry : JournalEntry) (journal : List JournalEntry) → Among entry journal → entry.seat ≡ c → Among (turn_of_entry entry) (turns_in_journal c journal)
entry_turn c entry [] a e = absurd a
entry_turn c entry (x ∷ journal) a e = by (x.seat == c) refl (entry_turn c entry journal) a
  where
    by : (b : Bool) → (x.seat == c) ≡ b → (Among entry journal → entry.seat ≡ c → Among (turn_of_entry entry) (turns_in_journal c journal)) → Among entry (x ∷ journal) →
        Among (turn_of_entry entry) (cond b (turn_of_entry x ∷ turns_in_journal c journal) (turns_in_journal c journal))
    by true k again (inl same) = inl (ap turn_of_entry same)
    by true k again (inr a) = inr (again a e)
    by false k again (inl same) = absurd (cc (sym k ∙ eq-eqb x.seat c (ap (λ (y : JournalEntry). y.seat) same ∙ e)))
    by false k again (inr a) = again a e

pub turn_entry : (c : ℕ) (t : Turn) (journal : List JournalEntry) → Among t (turns_in_journal c journal) → (entry : JournalEntry) × Among entry journal × (entry.seat ≡ c) × (turn_of_entry entry ≡ t)
turn_entry c t [] a = absurd a
turn_entry c t (x ∷ journal) a = by (x.seat == c) refl (turn_entry c t journal) a
  where
    by : (b : Bool) → (x.seat == c) ≡ b → (Among t (turns_in_journal c journal) → (entry : JournalEntry) × Among entry journal × (entry.seat ≡ c) × (turn_of_entry entry ≡ t)) →
        Among t (cond b (turn_of_entry x ∷ turns_in_journal c journal) (turns_in_journal c journal)) →
        (entry : JournalEntry) × Among entry (x ∷ journal) × (entry.seat ≡ c) × (turn_of_entry entry ≡ t)
    by true k again (inl same) = (x, inl refl, eqb-true x.seat c k, same)
    by true k again (inr a) = let f = again a in (f.0, inr f.1, f.2, f.3)
    by false k again a = let f = again a in (f.0, inr f.1, f.2, f.3)

-- ---- logs

-- the step is a key step at this key, with this turn
abbrev pub IsTurnOf : (r key : ℕ) → Turn → Step → Type 0
IsTurnOf r key t step = (call : KeyCall) × ((answer : Answer) × ((step ≡ Key call answer) × (call.replica ≡ r) × (call.key ≡ key) × (turn call answer ≡ t)))

pub first_turn : (r key : ℕ) (t : Turn) (step : Step) (log : List Step) → Among t (turns_in_log r key (step ∷ log)) → IsTurnOf r key t step ⊎ Among t (turns_in_log r key log)
first_turn r key t (Key call answer) log a = by (call.replica == r && call.key == key) refl a
  where
    by : (b : Bool) → (call.replica == r && call.key == key) ≡ b → Among t (cond b (turn call answer ∷ turns_in_log r key log) (turns_in_log r key log)) →
        IsTurnOf r key t (Key call answer) ⊎ Among t (turns_in_log r key log)
    by true k (inl same) = let both = and_parts (call.replica == r) (call.key == key) k in inl (call, (answer, (refl, eqb-true call.replica r both.0, eqb-true call.key key both.1, same)))
    by true k (inr a) = inr a
    by false k a = inr a
first_turn r key t (Begin client replica) log a = inr a
first_turn r key t (Unread client) log a = inr a
first_turn r key t (Read id k) log a = inr a
first_turn r key t (Stamp id clock writes) log a = inr a
first_turn r key t (Validate id) log a = inr a
first_turn r key t (Take number) log a = inr a
first_turn r key t (Rule id) log a = inr a
first_turn r key t (Again id) log a = inr a
first_turn r key t (Takeover id view) log a = inr a
first_turn r key t (Pick id view) log a = inr a
first_turn r key t (Stop id) log a = inr a

later_turn : (r key : ℕ) (t : Turn) (step : Step) (log : List Step) → Among t (turns_in_log r key log) → Among t (turns_in_log r key (step ∷ log))
later_turn r key t (Key call answer) log a = by (call.replica == r && call.key == key)
  where
    by : (b : Bool) → Among t (cond b (turn call answer ∷ turns_in_log r key log) (turns_in_log r key log))
    by true = inr a
    by false = a
later_turn r key t (Begin client replica) log a = a
later_turn r key t (Unread client) log a = a
later_turn r key t (Read id k) log a = a
later_turn r key t (Stamp id clock writes) log a = a
later_turn r key t (Validate id) log a = a
later_turn r key t (Take number) log a = a
later_turn r key t (Rule id) log a = a
later_turn r key t (Again id) log a = a
later_turn r key t (Takeover id view) log a = a
later_turn r key t (Pick id view) log a = a
later_turn r key t (Stop id) log a = a

-- the act of a step is a turn of the log that it begins
step_turn : (round : Setting) (now : ℕ) (act : PastAct) (step : Step) (log : List Step) → Among act (act_of round now step) → (act.round ≡ now) × Among (turn_of_act act) (turns_in_log act.replica act.key (step ∷ log))
step_turn round now act (Key call answer) log (inl same) = subst IsThere same (refl, here)
  where
    IsThere : PastAct → Type 0
    IsThere x = (x.round ≡ now) × Among (turn_of_act x) (turns_in_log x.replica x.key (Key call answer ∷ log))

    here : Among (turn call answer) (cond (call.replica == call.replica && call.key == call.key) (turn call answer ∷ turns_in_log call.replica call.key log) (turns_in_log call.replica call.key log))
    here = by (call.replica == call.replica && call.key == call.key) (let p = eq-eqb call.replica call.replica refl in let q = eq-eqb call.key call.key refl in grind (arith, p, q))
      where
        by : (b : Bool) → b ≡ true → Among (turn call answer) (cond b (turn call answer ∷ turns_in_log call.replica call.key log) (turns_in_log call.replica call.key log))
        by true k = inl refl
        by false k = absurd (cc k)
step_turn round now act (Key call answer) log (inr none) = absurd none
step_turn round now act (Begin client replica) log a = absurd a
step_turn round now act (Unread client) log a = absurd a
step_turn round now act (Read id k) log a = absurd a
step_turn round now act (Stamp id clock writes) log a = absurd a
step_turn round now act (Validate id) log a = absurd a
step_turn round now act (Take number) log a = absurd a
step_turn round now act (Rule id) log a = absurd a
step_turn round now act (Again id) log a = absurd a
step_turn round now act (Takeover id view) log a = absurd a
step_turn round now act (Pick id view) log a = absurd a
step_turn round now act (Stop id) log a = absurd a

-- ---- acts of moments

pub acts_stay : (m : Moment) (events : List Event) (act : PastAct) → Among act m.past.acts → Among act (moment_through m events).past.acts
acts_stay m [] act a = a
acts_stay m (NewRound views resets ∷ events) act a = acts_stay (after_event (NewRound views resets) m) events act a
acts_stay m (Doing step ∷ events) act a =
    acts_stay (step_done step m) events act (Among-append_left act m.past.acts (act_of m.round m.past.now step) a)

-- an act at this key of this replica, in the round of the moment
abbrev pub act_then : Moment → (r key : ℕ) → Turn → PastAct
act_then m r key t = record { round = m.past.now; replica = r; epoch = epoch_of (slice_get m.round.views r); key = key; act = t.act; answer = t.answer }

pub turn_done : (m : Moment) (log : List Step) (r key : ℕ) (t : Turn) → Among t (turns_in_log r key log) → Among (act_then m r key t) (moment_through m (map Doing log)).past.acts
turn_done m [] r key t a = absurd a
turn_done m (step ∷ log) r key t a = elim (first_turn r key t step log a) [
  | inr later ↦ turn_done (step_done step m) log r key t later
  | inl here ↦ acts_stay (step_done step m) (map Doing log) (act_then m r key t) (Among-append_right (act_then m r key t) m.past.acts (act_of m.round m.past.now step) (by here))
]
  where
    by : IsTurnOf r key t step → Among (act_then m r key t) (act_of m.round m.past.now step)
    by (call, (answer, (is, at, on, same))) =
        subst (λ (s : Step). Among (act_then m r key t) (act_of m.round m.past.now s)) (sym is)
        (inl (λ i. act_then m (at i) (on i) (same i)))

pub act_turn : (m : Moment) (log : List Step) (act : PastAct) → Among act (moment_through m (map Doing log)).past.acts →
    Among act m.past.acts ⊎ ((act.round ≡ m.past.now) × Among (turn_of_act act) (turns_in_log act.replica act.key log))
act_turn m [] act a = inl a
act_turn m (step ∷ log) act a = elim (act_turn (step_done step m) log act a) [
  | inr later ↦ inr (later.0, later_turn act.replica act.key (turn_of_act act) step log later.1)
  | inl before ↦ elim (Among-append act m.past.acts (act_of m.round m.past.now step) before) [
    | inl old ↦ inl old
    | inr here ↦ inr (step_turn m.round m.past.now act step log here)
  ]
]
