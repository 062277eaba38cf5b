-- The acts of a column's log at one key of a replica are those that the column remembers of it, in order.
use Rattle.std.proofs.Common.{◌≡◌, ◌∙◌, ℕ, Bool, true, false, refl, inl, inr, sym, ap, List, [], ◌∷◌, ◌++◌, map, cond, ◌&&◌, ◌==◌}
use Rattle.std.specs.Prelude.{slice_get}
use Rattle.std.proofs.lemmas.List.{append-nil, append_assoc}
use Rattle.std.proofs.lemmas.Bool.{and_parts, eqb-true}
use Rattle.mk_lists.specs.Among.{Among}
use Rattle.mk_words.specs.declared.Step.{Step}
use Rattle.mk_words.specs.declared.Step.TheVariants.{Begin, Unread, Read, Stamp, Validate, Take, Key, Rule, Again, Takeover, Pick, Stop}
use Rattle.mk_model.specs.ColumnState.{Setting}
use Rattle.mk_model.specs.Steps.{epoch_of}
use Rattle.mk_column_laws.specs.Moments.{Moment, PastAct, act_of, moment_through, step_done}
use Rattle.mk_column_laws.specs.Moments.Event.{Doing}
use Rattle.mk_column_laws.specs.ActLaws.{IsNoCheckAfter, NoCheckFollows}
use Rattle.mk_history.specs.Matching.{Turn, turns_in_log}
use Rattle.mk_run_laws.specs.Tenures.{StandsIn}
use Rattle.mk_run_laws.proofs.Turns.{turn}
use Rattle.mk_cause_laws.proofs.Tenured.{no_check_within}

-- the acts of a log, as they are remembered
abbrev pub acts_along : Setting → ℕ → List Step → List PastAct
acts_along round now [] = []
acts_along round now (step ∷ log) = act_of round now step ++ acts_along round now log

pub acts_are : (m : Moment) (log : List Step) → (moment_through m (map Doing log)).past.acts ≡ m.past.acts ++ acts_along m.round m.past.now log
acts_are m [] = sym (append-nil m.past.acts)
acts_are m (step ∷ log) = acts_are (step_done step m) log ∙ append_assoc m.past.acts (act_of m.round m.past.now step) (acts_along m.round m.past.now log)

-- a turn as it is remembered
abbrev pub act_at_turn : Setting → ℕ → ℕ → ℕ → Turn → PastAct
act_at_turn round now r key t = record { round = now; replica = r; epoch = epoch_of (slice_get round.views r); key = key; act = t.act; answer = t.answer }

stands_more : (xs ys : List PastAct) (y : PastAct) → StandsIn xs ys → StandsIn xs (y ∷ ys)
stands_more [] ys y s = tt
stands_more (x ∷ xs) ys y s = inr s

pub turns_stand : (round : Setting) (now r key : ℕ) (log : List Step) → StandsIn (map (act_at_turn round now r key) (turns_in_log r key log)) (acts_along round now log)
turns_stand round now r key [] = tt
turns_stand round now r key (Key call answer ∷ log) = by (call.replica == r && call.key == key) refl (turns_stand round now r key log)
  where
    act : PastAct
    act = record { round = now; replica = call.replica; epoch = epoch_of (slice_get round.views call.replica); key = call.key; act = call.act; answer = answer }

    by : (b : Bool) → (call.replica == r && call.key == key) ≡ b → StandsIn (map (act_at_turn round now r key) (turns_in_log r key log)) (acts_along round now log) →
        StandsIn (map (act_at_turn round now r key) (cond b (turn call answer ∷ turns_in_log r key log) (turns_in_log r key log))) (act ∷ acts_along round now log)
    by true k rest =
        let both = and_parts (call.replica == r) (call.key == key) k in
        let at = eqb-true call.replica r both.0 in
        let on = eqb-true call.key key both.1 in
        inl ((λ i. record { round = now; replica = at i; epoch = epoch_of (slice_get round.views (at i)); key = on i; act = call.act; answer = answer }), rest)
    by false k rest = stands_more (map (act_at_turn round now r key) (turns_in_log r key log)) (acts_along round now log) act rest
turns_stand round now r key (Begin client replica ∷ log) = turns_stand round now r key log
turns_stand round now r key (Unread client ∷ log) = turns_stand round now r key log
turns_stand round now r key (Read id k ∷ log) = turns_stand round now r key log
turns_stand round now r key (Stamp id clock writes ∷ log) = turns_stand round now r key log
turns_stand round now r key (Validate id ∷ log) = turns_stand round now r key log
turns_stand round now r key (Take number ∷ log) = turns_stand round now r key log
turns_stand round now r key (Rule id ∷ log) = turns_stand round now r key log
turns_stand round now r key (Again id ∷ log) = turns_stand round now r key log
turns_stand round now r key (Takeover id view ∷ log) = turns_stand round now r key log
turns_stand round now r key (Pick id view ∷ log) = turns_stand round now r key log
turns_stand round now r key (Stop id ∷ log) = turns_stand round now r key log

-- of two turns the later is no check of what the first commits
pub no_check_behind : (f : Turn → PastAct) (before : List Turn) (t : Turn) (middle : List Turn) → NoCheckFollows (map f (before ++ t ∷ middle)) → (later : Turn) → Among later middle → IsNoCheckAfter (f t) (f later)
no_check_behind f [] t middle h later a = h.0 (f later) (mapped middle a)
  where
    mapped : (ts : List Turn) → Among later ts → Among (f later) (map f ts)
    mapped [] b = absurd b
    mapped (x ∷ ts) (inl same) = inl (ap f same)
    mapped (x ∷ ts) (inr b) = inr (mapped ts b)
no_check_behind f (x ∷ before) t middle h later a = no_check_behind f before t middle h.1 later a

pub no_check_in : (round : Setting) (now r key : ℕ) (log : List Step) → NoCheckFollows (acts_along round now log) → NoCheckFollows (map (act_at_turn round now r key) (turns_in_log r key log))
no_check_in round now r key log h = no_check_within (map (act_at_turn round now r key) (turns_in_log r key log)) (acts_along round now log) (turns_stand round now r key log) h

-- turns of a log and a log behind it
pub turns_append : (r key : ℕ) (one other : List Step) → turns_in_log r key (one ++ other) ≡ turns_in_log r key one ++ turns_in_log r key other
turns_append r key [] other = refl
turns_append r key (Key call answer ∷ one) other = by (call.replica == r && call.key == key) (turns_append r key one other)
  where
    by : (b : Bool) → turns_in_log r key (one ++ other) ≡ turns_in_log r key one ++ turns_in_log r key other →
        cond b (turn call answer ∷ turns_in_log r key (one ++ other)) (turns_in_log r key (one ++ other)) ≡ cond b (turn call answer ∷ turns_in_log r key one) (turns_in_log r key one) ++ turns_in_log r key other
    by true e = ap (λ (ts : List Turn). turn call answer ∷ ts) e
    by false e = e
turns_append r key (Begin client replica ∷ one) other = turns_append r key one other
turns_append r key (Unread client ∷ one) other = turns_append r key one other
turns_append r key (Read id k ∷ one) other = turns_append r key one other
turns_append r key (Stamp id clock writes ∷ one) other = turns_append r key one other
turns_append r key (Validate id ∷ one) other = turns_append r key one other
turns_append r key (Take number ∷ one) other = turns_append r key one other
turns_append r key (Rule id ∷ one) other = turns_append r key one other
turns_append r key (Again id ∷ one) other = turns_append r key one other
turns_append r key (Takeover id view ∷ one) other = turns_append r key one other
turns_append r key (Pick id view ∷ one) other = turns_append r key one other
turns_append r key (Stop id ∷ one) other = turns_append r key one other
