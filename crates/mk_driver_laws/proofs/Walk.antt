-- What the driver names is enabled, and afterwards its tasks and clients mean of the column what they meant before: each task.
use Rattle.std.proofs.Common.{◌≡◌, ◌⊎◌, ◌∙◌, ◌<◌, ◌≤◌, ℕ, zero, suc, ◌+◌, ◌-◌, Bool, true, false, refl, sym, subst, ap, arith, inl, inr, List, [], ◌∷◌, ◌++◌, length, Option, Some, None, not, ◌&&◌, nat_lt, if◌then◌else◌}
use Rattle.std.specs.Prelude.{is_some, is_none, slice_get, nat_le}
use Rattle.std.proofs.lemmas.Bool.Decides.{nat_tests}
use Rattle.std.proofs.lemmas.Bool.{and_from, and_parts}
use Rattle.mk_lists.specs.Among.{Each, Each-weaker}
use Rattle.mk_txn.specs.declared.TxnId.{TxnId}
use Rattle.mk_txn.specs.declared.Outcome.{Outcome}
use Rattle.mk_txn.specs.declared.Outcome.TheVariants.{Commit, Abort}
use Rattle.mk_txn.specs.Transactions.{same_id}
use Rattle.mk_txn.proofs.IdOrder.{same_id-tells}
use Rattle.mk_words.specs.declared.Msg.{Msg}
use Rattle.mk_words.specs.Links.{message}
use Rattle.mk_script.specs.declared.lines.Point.{Point}
use Rattle.mk_script.specs.declared.lines.Fate.{Fate}
use Rattle.mk_script.specs.declared.lines.Fate.TheVariants.{Deliver as DeliverFate, Lose, Twice, Late as LateFate, NextRound}
use Rattle.mk_faults.specs.Fates.{RuleLines, fate_at}
use Rattle.mk_words.specs.declared.Step.{Step}
use Rattle.mk_words.specs.declared.Step.TheVariants.{Validate, Take as TakeStep, Rule, Again, Takeover as TakeoverStep, Pick, Stop}
use Rattle.mk_model.specs.ColumnState.{Setting, ColumnState, AttemptState, attempt_of, numbers_from}
use Rattle.mk_model.specs.Conditions.{blocked, conditions, is_idle}
use Rattle.mk_model.specs.Steps.{column_after}
use Rattle.mk_driver.specs.declared.DriverState.{DriverState}
use Rattle.mk_driver.specs.declared.Part.{Part}
use Rattle.mk_driver.specs.declared.Task.{Task}
use Rattle.mk_driver.specs.declared.Task.TheVariants.{Deliver, DeliverSince, Take, Late, Settle, SettleTakeover}
use Rattle.mk_driver.specs.declared.Caller.{Caller}
use Rattle.mk_driver.specs.Keeping.{IsRising}
use Rattle.mk_driver.specs.Agenda.{Worked, is_caller, change_caller, in_order, with_late, with_late_by, with_held}
use Rattle.mk_driver.specs.Agenda.Worked.{Quiet, Names}
use Rattle.mk_driver.specs.Delivery.{follow_ups, taking, taking_by, by_fate, delivering, delivering_from, taking_late, done_with, tried_again, noticed}
use Rattle.mk_driver.specs.Settling.{was_validated, settle_by, settle_takeover_by, takeover_by, resume_with, resume_if, resume_by}
use Rattle.mk_driver.specs.Stages.{at_stage, stopping, reach_by}
use Rattle.mk_driver_laws.proofs.Sure.{IsSureWithPlace}
use Rattle.mk_driver_laws.proofs.Lookups.{passes-from_some}
use Rattle.mk_driver_laws.proofs.Conditions.{none_fails}
use Rattle.mk_driver_laws.proofs.ColumnMoves.{WasSent, stops, validates, ColumnFits, Moves, stays_unsent}
use Rattle.mk_driver_laws.proofs.Taking.{step_moves}
use Rattle.mk_driver_laws.proofs.Reading.{NoneReads, begins, step_reads}
use Rattle.mk_driver_laws.proofs.Frames.{is_going, IsUnsent, link_grows, stays_going, stays_live}
use Rattle.mk_driver_laws.proofs.DriverFits.{WholeFits, whole_plain, InLink, Rests, RestsAt, PlainFits, Behind, ReachFits, DriverFits, behind_fit, plain_front, behind_more, numbers_more, tasks_more, callers_same, rests_same, numbers_same, callers_at, Spared, callers_kept}

some_at : {X : Type 0} (xs : List X) (place : ℕ) → place < length xs → is_some (slice_get xs place) ≡ true
some_at [] place h = absurd (omega (arith, h))
some_at (x ∷ xs) zero h = refl
some_at (x ∷ xs) (suc place) h = some_at xs place (omega (arith, h))

-- the message of a number in the link is there
message_there : (link : List Msg) (number : ℕ) → InLink (length link) number → is_some (message link number) ≡ true
message_there link number h =
    let low = h.0 in let high = h.1 in
    let first : nat_le 1 number ≡ true = grind (arith, nat_tests, low) in
    let some = some_at link (number - 1) (omega (arith, low, high)) in
    grind (arith, first, some)

module _ (round : Setting) (c : ColumnState) (k : ColumnFits round.faults c) where
  -- the column after a step
  abbrev pub Stepped : Step → ColumnState
  Stepped step = column_after round c step

  pub moves_there : (step : Step) → blocked round c step ≡ None → Moves round.faults c (Stepped step) step
  moves_there step b = step_moves round c step k b

  -- a step that stops nothing, and validates only what was validated before
  abbrev pub SparesAll : Step → Type 0
  SparesAll step = ((id : TxnId) → stops step id ≡ false) × ((id : TxnId) → IsUnsent c id → validates step id ≡ false)

  pub harmless_after : (step : Step) → SparesAll step → blocked round c step ≡ None → (tasks : List Task) (d : DriverState) → DriverFits c tasks d → DriverFits (Stepped step) tasks d
  harmless_after step h b tasks d fits =
      let m = moves_there step b in
      let grows = link_grows round.faults c (Stepped step) step m in
      record {
        tasks_fit = tasks_more c (Stepped step) d.callers d.callers grows (λ n r. r) (λ id. stays_going round.faults c (Stepped step) step m id (h.0 id))
            (λ id. stays_live round.faults c (Stepped step) step m id (h.0 id)) (λ id u. stays_unsent round.faults c (Stepped step) step k m id (h.1 id u) u) tasks fits.tasks_fit;
        late = numbers_more (length c.link) (length (Stepped step).link) grows d.late fits.late;
        held = numbers_more (length c.link) (length (Stepped step).link) grows d.held fits.held;
        callers = callers_kept c (Stepped step) step (λ id. stays_live round.faults c (Stepped step) step m id) (λ id. stays_unsent round.faults c (Stepped step) step k m id) d.callers
            (each_all d.callers) fits.callers;
        rising = fits.rising;
      }
    where
      each_all : (xs : List Caller) → Each (Spared c step) xs
      each_all [] = tt
      each_all (x ∷ xs) = ((λ stage e o. (h.0 stage.id, h.1 stage.id)), each_all xs)

  -- a step of an attempt of a client of which none is under way
  pub own_after : (step : Step) (id : TxnId) → ((other : TxnId) → (stops step other ≡ false) ⊎ (other ≡ id)) → ((other : TxnId) → (validates step other ≡ false) ⊎ (other ≡ id)) →
      blocked round c step ≡ None → (tasks : List Task) (d : DriverState) → Behind (length c.link) tasks → RestsAt id.client d.callers → DriverFits c tasks d → DriverFits (Stepped step) tasks d
  own_after step id s v b tasks d behind rests fits =
      let m = moves_there step b in
      let grows = link_grows round.faults c (Stepped step) step m in
      record {
        tasks_fit = behind_fit (Stepped step) d.callers tasks (behind_more (length c.link) (length (Stepped step).link) grows tasks behind);
        late = numbers_more (length c.link) (length (Stepped step).link) grows d.late fits.late;
        held = numbers_more (length c.link) (length (Stepped step).link) grows d.held fits.held;
        callers = callers_kept c (Stepped step) step (λ i. stays_live round.faults c (Stepped step) step m i) (λ i. stays_unsent round.faults c (Stepped step) step k m i) d.callers
            (Each-weaker (Rests id.client) (Spared c step) spared d.callers rests) fits.callers;
        rising = fits.rising;
      }
    where
      spared : (x : Caller) → Rests id.client x → Spared c step x
      spared x r stage e o = (
        elim (s stage.id) [ inl q ↦ q | inr q ↦ absurd (busy q) ],
        λ u. elim (v stage.id) [ inl q ↦ q | inr q ↦ absurd (busy q) ],
      )
        where
          busy : stage.id ≡ id → ⊥
          busy q = let own : x.number ≡ id.client = sym o ∙ ap (λ (i : TxnId). i.client) q in cc (sym e ∙ r own)

module _ (rules : RuleLines) (round : Setting) (c : ColumnState) (k : ColumnFits round.faults c) (idle : is_idle c.work ≡ true) (none : NoneReads c) where
  -- the column after a step
  abbrev pub After : Step → ColumnState
  After step = column_after round c step

  pub moved : (step : Step) → blocked round c step ≡ None → Moves round.faults c (After step) step
  moved step b = step_moves round c step k b

  abbrev pub IsHarmless : Step → Type 0
  IsHarmless step = ((id : TxnId) → stops step id ≡ false) × ((id : TxnId) → IsUnsent c id → validates step id ≡ false)

  after_harmless : (step : Step) → IsHarmless step → blocked round c step ≡ None → (tasks : List Task) (d : DriverState) → DriverFits c tasks d → DriverFits (After step) tasks d
  after_harmless step h b tasks d fits = harmless_after round c k step h b tasks d fits

  -- a step of an attempt of a client of which none is under way
  pub after_own : (step : Step) (id : TxnId) → ((other : TxnId) → (stops step other ≡ false) ⊎ (other ≡ id)) → ((other : TxnId) → (validates step other ≡ false) ⊎ (other ≡ id)) →
      blocked round c step ≡ None → (tasks : List Task) (d : DriverState) → Behind (length c.link) tasks → RestsAt id.client d.callers → DriverFits c tasks d → DriverFits (After step) tasks d
  after_own step id s v b tasks d behind rests fits = own_after round c k step id s v b tasks d behind rests fits

  -- what comes of a task
  abbrev pub WorkedFits : List Task → Worked → Type 0
  WorkedFits tasks (Quiet d) = (d.agenda ≡ tasks) × DriverFits c tasks d
  WorkedFits tasks (Names step after d) = IsSureWithPlace round c step × (blocked round c step ≡ None → WholeFits (After step) d (after ++ d.agenda))

  -- plain tasks in front
  pub front : (after : List Task) (d : DriverState) → Each (PlainFits (length c.link)) after → DriverFits c d.agenda d → DriverFits c (after ++ d.agenda) d
  front after d a fits =
      record { tasks_fit = plain_front c d.callers after d.agenda a fits.tasks_fit; late = fits.late; held = fits.held; callers = fits.callers; rising = fits.rising }

  pub plain_named : (tasks : List Task) (step : Step) (after : List Task) (d : DriverState) → IsHarmless step → begins step ≡ false → IsSureWithPlace round c step → Each (PlainFits (length c.link)) after →
      DriverFits c d.agenda d → WorkedFits tasks (Names step after d)
  plain_named tasks step after d h q sure a fits =
      (sure, λ b. whole_plain (After step) (after ++ d.agenda) d (step_reads (λ i. ⊥) round c step q none) (after_harmless step h b (after ++ d.agenda) d (front after d a fits)))

  -- ---- messages

  takes : (number : ℕ) → InLink (length c.link) number → blocked round c (TakeStep number) ≡ None
  takes number h = none_fails 1 (conditions round c (TakeStep number)) (idle, (message_there c.link number h, tt))

  taking_fits : (tasks : List Task) (number : ℕ) (msg : Option Msg) (after : List Task) (d : DriverState) → InLink (length c.link) number → Each (PlainFits (length c.link)) after →
      DriverFits c d.agenda d → WorkedFits tasks (taking_by c number msg after d)
  taking_fits tasks number (Some msg) after d h a fits =
      plain_named tasks (TakeStep number) (follow_ups c msg.id ++ after) d ((λ id. refl), λ id u. refl) refl (takes number h) (tt, (tt, a)) fits
  taking_fits tasks number None after d h a fits = plain_named tasks (TakeStep number) after d ((λ id. refl), λ id u. refl) refl (takes number h) a fits

  in_order_fits : (n number : ℕ) (xs : List ℕ) → InLink n number → Each (InLink n) xs → Each (InLink n) (in_order number xs)
  in_order_fits n number [] h q = (h, tt)
  in_order_fits n number (x ∷ xs) h q = head (in_order_fits n number xs h q.1) (nat_lt number x)
    where
      head : Each (InLink n) (in_order number xs) → (b : Bool) → Each (InLink n) (if b then number ∷ (x ∷ xs) else x ∷ in_order number xs)
      head rest true = (h, q)
      head rest false = (q.0, rest)

  -- a driver whose agenda is this
  abbrev pub Done : List Task → DriverState → Type 0
  Done tasks d = (d.agenda ≡ tasks) × DriverFits c tasks d

  pub at_agenda : (tasks : List Task) (d : DriverState) → Done tasks d → DriverFits c d.agenda d
  at_agenda tasks d h = subst (λ (ts : List Task). DriverFits c ts d) (sym h.0) h.1

  held_done : (tasks : List Task) (number : ℕ) (d : DriverState) → InLink (length c.link) number → Done tasks d → Done tasks (with_held number d)
  held_done tasks number d h g =
      let fits = g.1 in
      (g.0, record { tasks_fit = fits.tasks_fit; late = fits.late; held = in_order_fits (length c.link) number d.held h fits.held; callers = fits.callers; rising = fits.rising })

  late_done : (tasks : List Task) (number : ℕ) (parts : List Part) (d : DriverState) → InLink (length c.link) number → Done tasks d → Done tasks (with_late_by parts number d)
  late_done tasks number [] d h g = held_done tasks number d h g
  late_done tasks number (part ∷ parts) d h g =
      let fits = g.1 in
      (g.0, record { tasks_fit = fits.tasks_fit; late = in_order_fits (length c.link) number d.late h fits.late; held = fits.held; callers = fits.callers; rising = fits.rising })

  by_fate_fits : (tasks : List Task) (end number : ℕ) (fate : Fate) (next : DriverState → Worked) (d : DriverState) →
      end ≤ length c.link + 1 → InLink (length c.link) number → ((e : DriverState) → Done tasks e → WorkedFits tasks (next e)) → Done tasks d →
      WorkedFits tasks (by_fate c end number fate next d)
  by_fate_fits tasks end number DeliverFate next d e h f g =
      taking_fits tasks number (message c.link number) (Deliver (number + 1) end ∷ []) d h ((omega arith, e), tt) (at_agenda tasks d g)
  by_fate_fits tasks end number Twice next d e h f g =
      taking_fits tasks number (message c.link number) (Take number ∷ (Deliver (number + 1) end ∷ [])) d h (h, ((omega arith, e), tt)) (at_agenda tasks d g)
  by_fate_fits tasks end number Lose next d e h f g = f d g
  by_fate_fits tasks end number LateFate next d e h f g = f (with_late number d) (late_done tasks number d.parts d h g)
  by_fate_fits tasks end number NextRound next d e h f g = f (with_held number d) (held_done tasks number d h g)

  delivering_fits : (tasks : List Task) (end : ℕ) (numbers : List ℕ) (d : DriverState) →
      end ≤ length c.link + 1 → Each (InLink (length c.link)) numbers → Done tasks d → WorkedFits tasks (delivering rules c end numbers d)
  delivering_fits tasks end [] d e h g = g
  delivering_fits tasks end (number ∷ numbers) d e h g =
      by_fate_fits tasks end number (fate_at rules c.link number) (delivering rules c end numbers) d e h.0
      (λ x j. delivering_fits tasks end numbers x e h.1 j) g

  numbers_fit : (n first m : ℕ) → 0 < first → (0 < m → first + m ≤ n + 1) → Each (InLink n) (numbers_from first m)
  numbers_fit n first zero h e = tt
  numbers_fit n first (suc m) h e =
      let room : first + suc m ≤ n + 1 = e (omega arith) in
      ((h, omega (arith, room)), numbers_fit n (first + 1) m (omega arith) (λ p. omega (arith, room)))

  pub delivering_from_fits : (tasks : List Task) (first end : ℕ) (d : DriverState) → 0 < first → end ≤ length c.link + 1 → Done tasks d →
      WorkedFits tasks (delivering_from rules c first end d)
  delivering_from_fits tasks first end d h e g =
      delivering_fits tasks end (numbers_from first (end - first)) d e
      (numbers_fit (length c.link) first (end - first) h (λ p. omega (arith, p, e))) g

  pub take_fits : (tasks : List Task) (number : ℕ) (d : DriverState) → InLink (length c.link) number → Done tasks d → WorkedFits tasks (taking c number [] d)
  take_fits tasks number d h g = taking_fits tasks number (message c.link number) [] d h tt (at_agenda tasks d g)

  pub late_fits : (tasks : List Task) (numbers : List ℕ) (d : DriverState) → Each (InLink (length c.link)) numbers → Done tasks d → WorkedFits tasks (taking_late c numbers d)
  late_fits tasks [] d h g = g
  late_fits tasks (number ∷ numbers) d h g =
      let fits = at_agenda tasks d g in
      taking_fits tasks number (message c.link number) (Late ∷ []) (record d { late = numbers }) h.0 (tt, tt)
      (record { tasks_fit = fits.tasks_fit; late = h.1; held = fits.held; callers = fits.callers; rising = fits.rising })

  -- clients that keep their number and their attempt under way
  pub same_callers : (tasks : List Task) (n : ℕ) (f : Caller → Caller) (d : DriverState) → ((x : Caller) → (f x).number ≡ x.number) → ((x : Caller) → (f x).under_way ≡ x.under_way) →
      Done tasks d → Done tasks (change_caller n f d)
  same_callers tasks n f d number under_way g =
      let fits = g.1 in (
        g.0,
        record {
          tasks_fit = tasks_more c c d.callers (change_caller n f d).callers (omega arith) (λ m r. rests_same m (is_caller n) f number under_way d.callers r) (λ id e. e) (λ id e. e) (λ id e. e) tasks fits.tasks_fit;
          late = fits.late;
          held = fits.held;
          callers = callers_same c (is_caller n) f number under_way d.callers fits.callers;
          rising = subst IsRising (sym (numbers_same (is_caller n) f number d.callers)) fits.rising;
        },
      )

  pub noticed_fits : (tasks : List Task) (id : TxnId) (outcome : Option Outcome) (d : DriverState) → Done tasks d → Done tasks (noticed id outcome d)
  noticed_fits tasks id (Some (Abort cause)) d g = same_callers tasks id.client (tried_again id.seq) d (λ x. refl) (λ x. refl) g
  noticed_fits tasks id (Some Commit) d g = same_callers tasks id.client (done_with id.seq) d (λ x. refl) (λ x. refl) g
  noticed_fits tasks id None d g = g

  -- ---- settling

  pub settle_fits : (tasks : List Task) (id : TxnId) (b : Option ℕ) (d : DriverState) → blocked round c (Rule id) ≡ b → Done tasks d → WorkedFits tasks (settle_by c id b d)
  settle_fits tasks id None d e g =
      plain_named tasks (Rule id) (follow_ups c id ++ Settle id ∷ []) d ((λ i. refl), λ i u. refl) refl e (tt, (tt, (tt, tt))) (at_agenda tasks d g)
  settle_fits tasks id (Some condition) d e g = g

  pub settle_takeover_fits : (tasks : List Task) (id : TxnId) (view : ℕ) (b : Option ℕ) (d : DriverState) → blocked round c (Pick id view) ≡ b → Done tasks d →
      WorkedFits tasks (settle_takeover_by c id view b d)
  settle_takeover_fits tasks id view None d e g =
      plain_named tasks (Pick id view) (DeliverSince (length c.link) ∷ (SettleTakeover id view ∷ [])) d ((λ i. refl), λ i u. refl) refl e (tt, (tt, tt)) (at_agenda tasks d g)
  settle_takeover_fits tasks id view (Some condition) d e g = g

  pub takeover_fits : (tasks : List Task) (id : TxnId) (view : ℕ) (b : Option ℕ) (d : DriverState) → blocked round c (TakeoverStep id view) ≡ b → Done tasks d →
      WorkedFits tasks (takeover_by c id view b d)
  takeover_fits tasks id view None d e g =
      plain_named tasks (TakeoverStep id view) (DeliverSince (length c.link) ∷ (SettleTakeover id view ∷ [])) d ((λ i. refl), λ i u. refl) refl e (tt, (tt, tt)) (at_agenda tasks d g)
  takeover_fits tasks id view (Some condition) d e g = g

  -- ---- resuming

  resume_sent_fits : (tasks : List Task) (id : TxnId) (a : AttemptState) (o : Option Outcome) (d : DriverState) → attempt_of c id ≡ Some a → a.coord.proposed ≡ o →
      WasSent c.link id → not a.stopped ≡ true → is_none a.coord.learned ≡ true → Done tasks d → WorkedFits tasks (resume_with c id o d)
  resume_sent_fits tasks id a (Some outcome) d e o w s l g =
      plain_named tasks (Again id) (DeliverSince (length c.link) ∷ (Settle id ∷ [])) d ((λ i. refl), λ i u. refl) refl
      (none_fails 1 (conditions round c (Again id)) (
        idle,
        (
          k.stamped id w,
          (
            passes-from_some is_going (attempt_of c id) a e s,
            (passes-from_some (λ x. is_some x.coord.proposed && is_none x.coord.learned) (attempt_of c id) a e (and_from (is_some a.coord.proposed) (is_none a.coord.learned) (ap is_some o) l), tt),
          ),
        ),
      ))
      (tt, (tt, tt)) (at_agenda tasks d g)
  resume_sent_fits tasks id a None d e o w s l g =
      plain_named tasks (Validate id) (DeliverSince (length c.link) ∷ (Settle id ∷ [])) d ((λ i. refl), harmless) refl
      (none_fails 1 (conditions round c (Validate id)) (
        idle,
        (
          k.stamped id w,
          (
            passes-from_some is_going (attempt_of c id) a e s,
            (passes-from_some (λ x. is_none x.coord.proposed && is_none x.coord.learned) (attempt_of c id) a e (and_from (is_none a.coord.proposed) (is_none a.coord.learned) (ap is_none o) l), tt),
          ),
        ),
      ))
      (tt, (tt, tt)) (at_agenda tasks d g)
    where
      harmless : (i : TxnId) → IsUnsent c i → same_id id i ≡ false
      harmless i u = by (same_id id i) refl
        where
          by : (b : Bool) → same_id id i ≡ b → same_id id i ≡ false
          by false q = q
          by true q = let same = same_id-tells id i q in let sent : WasSent c.link i = subst (λ (x : TxnId). WasSent c.link x) same w in absurd (cc (sym u ∙ sent))

  pub resume_fits : (tasks : List Task) (id : TxnId) (o : Option AttemptState) (d : DriverState) → attempt_of c id ≡ o → Done tasks d → WorkedFits tasks (resume_by c id o d)
  resume_fits tasks id None d e g = g
  resume_fits tasks id (Some a) d e g = by (was_validated c id && not a.stopped && is_none a.coord.learned) refl
    where
      by : (b : Bool) → (was_validated c id && not a.stopped && is_none a.coord.learned) ≡ b → WorkedFits tasks (resume_if c id a b d)
      by true t =
          let last = and_parts (was_validated c id && not a.stopped) (is_none a.coord.learned) t in
          let firsts = and_parts (was_validated c id) (not a.stopped) last.0 in
          resume_sent_fits tasks id a a.coord.proposed d e refl firsts.0 firsts.1 last.1 g
      by false t = g

  -- ---- stop lines

  stop_fits : (tasks : List Task) (id : TxnId) (b : Option ℕ) (d : DriverState) → blocked round c (Stop id) ≡ b → Done tasks d → Behind (length c.link) tasks →
      RestsAt id.client d.callers → WorkedFits tasks (stopping id b d)
  stop_fits tasks id None d e g behind rests = (
    e,
    λ b. whole_plain (After (Stop id)) d.agenda d (step_reads (λ i. ⊥) round c (Stop id) refl none)
        (subst (λ (ts : List Task). DriverFits (After (Stop id)) ts d) (sym g.0)
        (after_own (Stop id) id other (λ i. inl refl) b tasks d behind rests g.1)),
  )
    where
      other : (i : TxnId) → (same_id id i ≡ false) ⊎ (i ≡ id)
      other i = by (same_id id i) refl
        where
          by : (b : Bool) → same_id id i ≡ b → (same_id id i ≡ false) ⊎ (i ≡ id)
          by false q = inl q
          by true q = inr (sym (same_id-tells id i q))
  stop_fits tasks id (Some condition) d e g behind rests = g

  pub reach_fits : (tasks : List Task) (id : TxnId) (point : Point) (b : Bool) (d : DriverState) → Done tasks d → Behind (length c.link) tasks → ReachFits c d.callers id point →
      WorkedFits tasks (reach_by round c id point b d)
  reach_fits tasks id point true d g behind reach = stop_fits tasks id (blocked round c (Stop id)) d refl g behind reach.1
  reach_fits tasks id point false d g behind reach =
      let fits = g.1 in (
        g.0,
        record {
          tasks_fit = behind_fit c (change_caller id.client (at_stage (record { id = id; reached = point })) d).callers tasks behind;
          late = fits.late;
          held = fits.held;
          callers = callers_at c (record { id = id; reached = point }) d.callers reach.0 fits.callers;
          rising = subst IsRising (sym (numbers_same (is_caller id.client) (at_stage (record { id = id; reached = point })) (λ x. refl) d.callers)) fits.rising;
        },
      )
