-- More passes than the rest of one and two whole ones name nothing more.
use Rattle.std.proofs.Common.{◌≡◌, ◌⊎◌, inl, inr, ℕ, zero, suc, ◌+◌, ◌-◌, ◌<◌, Bool, true, false, List, [], ◌∷◌, refl, sym, subst, ap, length, arith, if◌then◌else◌}
use Rattle.std.specs.Prelude.{Option, Some, None, slice_get}
use Rattle.std.proofs.lemmas.Bool.Decides.{nat_tests}
use Rattle.mk_lists.specs.Among.{Among}
use Rattle.mk_lists.specs.Changed.{change}
use Rattle.mk_txn.specs.declared.TxnId.{TxnId}
use Rattle.mk_txn.specs.declared.Outcome.{Outcome}
use Rattle.mk_words.specs.declared.Ruling.{Ruling}
use Rattle.mk_words.specs.declared.Ruling.TheVariants.{Fast, Propose, Learned, Short, Unaccepted}
use Rattle.mk_words.specs.Rulings.{ruling}
use Rattle.mk_script.specs.declared.lines.Point.{Point}
use Rattle.mk_script.specs.declared.lines.Point.TheVariants.{Read as AfterRead, Votes as AfterVotes, Accepts as AfterAccepts}
use Rattle.mk_words.specs.declared.Step.{Step}
use Rattle.mk_model.specs.ColumnState.{Setting, ColumnState, AttemptState, ClientState, attempt_of, client_of, numbers_from}
use Rattle.mk_driver.specs.declared.DriverState.{DriverState}
use Rattle.mk_driver.specs.declared.Caller.{Caller}
use Rattle.mk_driver.specs.declared.Request.{Request}
use Rattle.mk_driver.specs.declared.Stage.{Stage}
use Rattle.mk_driver.specs.declared.Task.{Task}
use Rattle.mk_driver.specs.Agenda.{Worked, is_caller}
use Rattle.mk_driver.specs.Stages.{Turn, turn_of, turn_by, begin_next, begin_of, begin_by, reader_for, stage_after, stage_three, stage_four, ruled_by, closed_by, left, resting, next_request}
use Rattle.mk_driver.specs.Stages.Turn.{Nothing, Silent, Steps}
use Rattle.mk_driver.specs.Passes.{after_turn, in_pass, after_passes}
use Rattle.mk_driver.specs.Turns.{Choice, or_next}

-- no attempt of the client at a place is under way
abbrev pub IsResting : Option Caller → Type 0
IsResting (Some caller) = caller.under_way ≡ None
IsResting None = Unit {0}

abbrev pub RestsAt : DriverState → ℕ → Type 0
RestsAt driver place = IsResting (slice_get driver.callers place)

rests_still : (n place : ℕ) (xs : List Caller) → IsResting (slice_get xs place) → IsResting (slice_get (change (is_caller n) resting xs) place)
rests_still n place [] h = tt
rests_still n zero (x ∷ xs) h = head (is_caller n x)
  where
    head : (b : Bool) → IsResting (Some (if b then resting x else x))
    head true = refl
    head false = h
rests_still n (suc place) (x ∷ xs) h = rests_still n place xs h

rests_now : (caller : Caller) (place : ℕ) (xs : List Caller) → slice_get xs place ≡ Some caller →
    IsResting (slice_get (change (is_caller caller.number) resting xs) place)
rests_now caller place [] e = tt
rests_now caller zero (x ∷ xs) e = head (is_caller caller.number x) refl
  where
    head : (b : Bool) → is_caller caller.number x ≡ b → IsResting (Some (if b then resting x else x))
    head true t = refl
    head false t = grind (arith, nat_tests)
rests_now caller (suc place) (x ∷ xs) e = rests_now caller place xs e

-- the turn of a client without an attempt under way: nothing, or a step
module _ (P : Turn → Type 0) (nothing : P Nothing) (steps : (step : Step) (after : List Task) (driver : DriverState) → P (Steps step after driver)) where
  begin_by_cases : (client : ClientState) (caller : Caller) (reader : Option ℕ) (driver : DriverState) → P (begin_by client caller reader driver)
  begin_by_cases client caller (Some replica) driver = steps _ _ _
  begin_by_cases client caller None driver = steps _ _ _

  begin_of_cases : (round : Setting) (client : Option ClientState) (caller : Caller) (driver : DriverState) → P (begin_of round client caller driver)
  begin_of_cases round (Some client) caller driver = begin_by_cases client caller (reader_for round caller.home client.heard) driver
  begin_of_cases round None caller driver = nothing

  begin_next_cases : (round : Setting) (column : ColumnState) (caller : Caller) (request : Option Request) (driver : DriverState) →
      P (begin_next round column caller request driver)
  begin_next_cases round column caller (Some request) driver =
      begin_of_cases round (client_of column caller.number) caller driver
  begin_next_cases round column caller None driver = nothing

  resting_by_cases : (round : Setting) (column : ColumnState) (caller : Caller) (stage : Option Stage) (driver : DriverState) → stage ≡ None →
      P (turn_by round column caller stage driver)
  resting_by_cases round column caller (Some stage) driver e = cc
  resting_by_cases round column caller None driver e = begin_next_cases round column caller (next_request caller) driver

  resting_cases : (round : Setting) (column : ColumnState) (caller : Option Caller) (driver : DriverState) → IsResting caller →
      P (turn_of round column caller driver)
  resting_cases round column (Some caller) driver h = resting_by_cases round column caller caller.under_way driver h
  resting_cases round column None driver h = nothing

-- the turn of any client
module _ (P : Turn → Type 0) (steps : (step : Step) (after : List Task) (driver : DriverState) → P (Steps step after driver)) where
  stage_cases : (round : Setting) (column : ColumnState) (caller : Caller) (id : TxnId) (point : Point) (attempt : Option AttemptState) (driver : DriverState) →
      P (Silent (left caller driver)) → P (stage_after round column caller id point attempt driver)
  stage_cases round column caller id AfterRead (Some attempt) driver silent = steps _ _ _
  stage_cases round column caller id AfterVotes (Some attempt) driver silent = by_learned attempt.coord.learned
    where
      by_ruling : (r : Ruling) → P (ruled_by column caller id r driver)
      by_ruling (Fast outcome) = steps _ _ _
      by_ruling (Propose outcome) = steps _ _ _
      by_ruling (Learned outcome) = silent
      by_ruling (Short k) = silent
      by_ruling (Unaccepted k) = silent

      by_learned : (o : Option Outcome) → P (stage_three round column caller id attempt.coord o driver)
      by_learned (Some outcome) = silent
      by_learned None = by_ruling (ruling round.faults attempt.coord)
  stage_cases round column caller id AfterAccepts (Some attempt) driver silent = by_learned attempt.coord.learned
    where
      by_ruling : (r : Ruling) → P (closed_by column caller id r driver)
      by_ruling (Fast outcome) = silent
      by_ruling (Propose outcome) = silent
      by_ruling (Learned outcome) = steps _ _ _
      by_ruling (Short k) = silent
      by_ruling (Unaccepted k) = silent

      by_learned : (o : Option Outcome) → P (stage_four round column caller id attempt.coord o driver)
      by_learned (Some outcome) = silent
      by_learned None = by_ruling (ruling round.faults attempt.coord)
  stage_cases round column caller id point None driver silent = silent

  turn_by_cases : (round : Setting) (column : ColumnState) (caller : Caller) (stage : Option Stage) (driver : DriverState) →
      (stage ≡ None → P Nothing) → P (Silent (left caller driver)) → P (turn_by round column caller stage driver)
  turn_by_cases round column caller (Some stage) driver nothing silent =
      stage_cases round column caller stage.id stage.reached (attempt_of column stage.id) driver silent
  turn_by_cases round column caller None driver nothing silent =
      begin_next_cases P (nothing refl) steps round column caller (next_request caller) driver

  turn_cases : (round : Setting) (column : ColumnState) (caller : Option Caller) (driver : DriverState) →
      (IsResting caller → P Nothing) → ((c : Caller) → caller ≡ Some c → P (Silent (left c driver))) → P (turn_of round column caller driver)
  turn_cases round column (Some caller) driver nothing silent = turn_by_cases round column caller caller.under_way driver nothing (silent caller refl)
  turn_cases round column None driver nothing silent = nothing tt

-- where all rest, what comes after the pass counts for this pass's end alone
rest_pass : (round : Setting) (column : ColumnState) (one other : Bool → DriverState → Worked) (places : List ℕ) (did : Bool) (driver : DriverState) →
    ((place : ℕ) → RestsAt driver place) → one did driver ≡ other did driver →
    in_pass round column one places did driver ≡ in_pass round column other places did driver
rest_pass round column one other [] did driver h e = e
rest_pass round column one other (place ∷ places) did driver h e =
    resting_cases
    (λ turn. after_turn place turn did (in_pass round column one places) driver ≡ after_turn place turn did (in_pass round column other places) driver)
    (rest_pass round column one other places did driver h e) (λ step after changed. refl)
    round column (slice_get driver.callers place) driver (h place)

-- after a whole pass without a step all rest
whole_pass : (round : Setting) (column : ColumnState) (one other : Bool → DriverState → Worked) →
    ((did : Bool) (driver : DriverState) → ((place : ℕ) → RestsAt driver place) → one did driver ≡ other did driver) →
    (places : List ℕ) (did : Bool) (driver : DriverState) → ((place : ℕ) → RestsAt driver place ⊎ Among place places) →
    in_pass round column one places did driver ≡ in_pass round column other places did driver
whole_pass round column one other agree [] did driver h =
    agree did driver (λ place. elim (h place) [ inl r ↦ r | inr a ↦ absurd a ])
whole_pass round column one other agree (q ∷ places) did driver h =
    turn_cases
    (λ turn. after_turn q turn did (in_pass round column one places) driver ≡ after_turn q turn did (in_pass round column other places) driver)
    (λ step after changed. refl) round column (slice_get driver.callers q) driver
    (λ rests. whole_pass round column one other agree places did driver (λ place. kept rests place (h place)))
    (λ caller e. whole_pass round column one other agree places true (left caller driver) (λ place. gone caller e place (h place)))
  where
    kept : RestsAt driver q → (place : ℕ) → RestsAt driver place ⊎ Among place (q ∷ places) → RestsAt driver place ⊎ Among place places
    kept rests place (inl r) = inl r
    kept rests place (inr (inl e)) = inl (subst (λ p. RestsAt driver p) e rests)
    kept rests place (inr (inr a)) = inr a

    gone : (caller : Caller) → slice_get driver.callers q ≡ Some caller → (place : ℕ) → RestsAt driver place ⊎ Among place (q ∷ places) →
        RestsAt (left caller driver) place ⊎ Among place places
    gone caller e place (inl r) = inl (rests_still caller.number place driver.callers r)
    gone caller e place (inr (inl d)) = inl (subst (λ p. RestsAt (left caller driver) p) d (rests_now caller q driver.callers e))
    gone caller e place (inr (inr a)) = inr a

all_places : (xs : List Caller) (place from : ℕ) → IsResting (slice_get xs place) ⊎ Among (from + place) (numbers_from from (length xs))
all_places [] place from = inl tt
all_places (x ∷ xs) zero from = inr (inl (omega arith))
all_places (x ∷ xs) (suc place) from =
    elim (all_places xs place (from + 1)) [ inl r ↦ inl r | inr a ↦ inr (inr (subst (λ n. Among n (numbers_from (from + 1) (length xs))) (omega arith) a)) ]

every_place : (driver : DriverState) (place : ℕ) → RestsAt driver place ⊎ Among place (numbers_from 0 (length driver.callers))
every_place driver place =
    subst (λ n. RestsAt driver place ⊎ Among n (numbers_from 0 (length driver.callers))) (omega arith) (all_places driver.callers place 0)

last_pass : (k : ℕ) (round : Setting) (column : ColumnState) (did : Bool) (driver : DriverState) → ((place : ℕ) → RestsAt driver place) →
    after_passes (suc k) round column did driver ≡ after_passes 1 round column did driver
last_pass k round column false driver h = refl
last_pass k round column true driver h =
    rest_pass round column (after_passes k round column) (after_passes 0 round column) (numbers_from 0 (length driver.callers)) false driver h (ends k)
  where
    ends : (k : ℕ) → after_passes k round column false driver ≡ after_passes 0 round column false driver
    ends k = refl

two_passes : (k : ℕ) (round : Setting) (column : ColumnState) (did : Bool) (driver : DriverState) →
    after_passes (suc (suc k)) round column did driver ≡ after_passes 2 round column did driver
two_passes k round column false driver = refl
two_passes k round column true driver =
    whole_pass round column (after_passes (suc k) round column) (after_passes 1 round column) (last_pass k round column)
    (numbers_from 0 (length driver.callers)) false driver (every_place driver)

-- a further pass has as many passes after it as the first had
pub pass_over : (round : Setting) (column : ColumnState) (driver : DriverState) →
    after_passes 2 round column true driver
    ≡ in_pass round column (after_passes 2 round column) (numbers_from 0 (length driver.callers - 0)) false driver
pass_over round column driver =
    let same : length driver.callers ≡ length driver.callers - 0 = omega arith in
    subst
    (λ k. after_passes 2 round column true driver ≡ in_pass round column (after_passes 2 round column) (numbers_from 0 k) false driver)
    same (sym (two_passes 1 round column true driver))

pub passes_left : (round : Setting) (column : ColumnState) (pass : ℕ) (driver : DriverState) → pass < 2 →
    after_passes (2 - pass) round column true driver
    ≡ in_pass round column (after_passes (2 - (pass + 1)) round column) (numbers_from 0 (length driver.callers - 0)) false driver
passes_left round column pass driver h =
    let left : suc (2 - (pass + 1)) ≡ 2 - pass = omega (arith, h) in
    let same : length driver.callers ≡ length driver.callers - 0 = omega arith in
    subst
    (λ k. after_passes k round column true driver ≡ in_pass round column (after_passes (2 - (pass + 1)) round column) (numbers_from 0 (length driver.callers - 0)) false driver)
    left
    (ap (λ k. in_pass round column (after_passes (2 - (pass + 1)) round column) (numbers_from 0 k) false driver) same)

-- the same for what comes after
pub passes_left_next : (round : Setting) (column : ColumnState) (pass : ℕ) (did : Bool) (driver : DriverState) → did ≡ true → pass < 2 → (end : DriverState → Choice) →
    or_next (after_passes (2 - pass) round column did driver) end
    ≡ or_next (in_pass round column (after_passes (2 - (pass + 1)) round column) (numbers_from 0 (length driver.callers - 0)) false driver) end
passes_left_next round column pass did driver t h end = rw t (ap (λ w. or_next w end) (passes_left round column pass driver h))

pub pass_over_next : (round : Setting) (column : ColumnState) (did : Bool) (driver : DriverState) → did ≡ true → (end : DriverState → Choice) →
    or_next (after_passes 2 round column did driver) end
    ≡ or_next (in_pass round column (after_passes 2 round column) (numbers_from 0 (length driver.callers - 0)) false driver) end
pass_over_next round column did driver t end = rw t (ap (λ w. or_next w end) (pass_over round column driver))
