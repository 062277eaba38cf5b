-- What a client does in its turn is enabled, and what follows it.
use Rattle.std.proofs.Common.{arith, ◌+◌, zero, suc, ◌<◌, cond, ◌≡◌, ◌⊎◌, ◌∙◌, ℕ, Bool, true, false, refl, sym, subst, ap, inl, inr, List, [], ◌∷◌, ◌++◌, length, Option, Some, None, not, ◌&&◌}
use Rattle.std.specs.Prelude.{find, slice_set, replicate, option_map, ◌==◌, ◌-◌, is_some, is_none, slice_get}
use Rattle.std.proofs.lemmas.Bool.Decides.{nat_tests}
use Rattle.std.proofs.lemmas.List.{length-append, length-replicate}
use Rattle.std.proofs.lemmas.Bool.{and_parts}
use Rattle.mk_lists.specs.Changed.{change}
use Rattle.mk_lists.specs.Among.{Each}
use Rattle.mk_lists.proofs.Changes.{find-change}
use Rattle.mk_lists.proofs.Places.{slice_get-set_same}
use Rattle.mk_quorum.proofs.Slots.{passes-at}
use Rattle.mk_txn.specs.declared.TxnId.{TxnId}
use Rattle.mk_txn.specs.declared.Outcome.{Outcome}
use Rattle.mk_txn.specs.Transactions.{same_id}
use Rattle.mk_txn.proofs.IdOrder.{same_id-tells}
use Rattle.mk_words.specs.declared.Ruling.{Ruling}
use Rattle.mk_words.specs.declared.Ruling.TheVariants.{Fast, Propose, Learned, Short, Unaccepted}
use Rattle.mk_words.specs.Rulings.{CoordState, ruling}
use Rattle.mk_script.specs.declared.lines.Point.{Point}
use Rattle.mk_script.specs.declared.lines.Point.TheVariants.{Read as AfterRead, Votes as AfterVotes, Accepts as AfterAccepts}
use Rattle.mk_faults.specs.Fates.{RuleLines}
use Rattle.mk_words.specs.declared.Step.{Step}
use Rattle.mk_words.specs.declared.Step.TheVariants.{Begin, Unread, Validate, Rule}
use Rattle.mk_model.specs.ColumnState.{Setting, ColumnState, AttemptState, ClientState, attempt_of, client_of}
use Rattle.mk_model.specs.Conditions.{blocked, conditions, is_idle, is_stamped, on_attempt, acts_on}
use Rattle.mk_model.specs.Steps.{column_after}
use Rattle.mk_driver.specs.declared.DriverState.{DriverState}
use Rattle.mk_driver.specs.declared.Task.{Task}
use Rattle.mk_driver.specs.declared.Task.TheVariants.{DeliverSince, Notice, Fetch, Reach, Turns}
use Rattle.mk_driver.specs.declared.Caller.{Caller}
use Rattle.mk_driver.specs.declared.Request.{Request}
use Rattle.mk_driver.specs.declared.Stage.{Stage}
use Rattle.mk_driver.specs.Keeping.{numbers_of, IsRising}
use Rattle.mk_driver.specs.Agenda.{trial_by, asked, with_place, is_caller, change_caller}
use Rattle.mk_driver.specs.Delivery.{follow_ups}
use Rattle.mk_driver.specs.Stages.{Turn, turn_of, turn_by, begin_next, begin_of, begin_by, reader_for, next_request, without_request_by, without_request, begun, resting, left, ruled_by, closed_by, stage_three, stage_four, validated, stage_after}
use Rattle.mk_driver.specs.Stages.Turn.{Nothing, Silent, Steps}
use Rattle.mk_driver_laws.proofs.Sure.{IsSureWithPlace}
use Rattle.mk_driver_laws.proofs.Lookups.{passes-from_some}
use Rattle.mk_driver_laws.proofs.Conditions.{none_fails}
use Rattle.mk_driver_laws.proofs.ColumnMoves.{stops, validates, ColumnFits, stays_unsent}
use Rattle.mk_driver_laws.proofs.Beginnings.{begin_sure, unread_sure}
use Rattle.mk_driver_laws.proofs.Reading.{NoneReads, begins, step_reads, begun_reads}
use Rattle.mk_driver_laws.proofs.Frames.{begun_reading, is_going, is_live, IsGoing, IsLive, IsUnsent, link_grows, stays_live, begun_going, begun_unsent}
use Rattle.mk_driver_laws.proofs.ReadKeys.{begin_goes}
use Rattle.mk_driver_laws.proofs.DriverFits.{WholeFits, whole_plain, StageFits, UnderWayFits, RestsAt, Behind, TasksFit, DriverFits, behind_fit, behind_more, numbers_same, rests_left, rests_same, callers_left, caller_at, rests_there}
use Rattle.mk_driver_laws.proofs.Walk.{After, Done, moved, after_own, same_callers}

-- other tasks are left
pub retask : (c : ColumnState) (tasks others : List Task) (d : DriverState) → DriverFits c tasks d → TasksFit c d.callers others → DriverFits c others d
retask c tasks others d h t = record { tasks_fit = t; late = h.late; held = h.held; callers = h.callers; rising = h.rising }

-- a begun transaction keeps its client
pub kept_by : (requests : List Request) (x : Caller) → ((without_request_by requests x).number ≡ x.number) × ((without_request_by requests x).under_way ≡ x.under_way)
kept_by [] x = (refl, refl)
kept_by (request ∷ requests) x = (refl, refl)

-- the client at a place is the one that is found
found_there : (xs : List Caller) (place : ℕ) (x : Caller) → IsRising (numbers_of xs) → slice_get xs place ≡ Some x → find (is_caller x.number) xs ≡ Some x
found_there [] place x r e = absurd (cc e)
found_there (y ∷ ys) zero x r e =
    let same : y ≡ x = cc e in
    let is : (y.number == x.number) ≡ true = (let n : y.number ≡ x.number = ap (λ (z : Caller). z.number) same in grind (arith, nat_tests, n)) in
    ap (λ (b : Bool). cond b (Some y) (find (is_caller x.number) ys)) is ∙ ap (λ (z : Caller). Some z) same
found_there (y ∷ ys) (suc place) x r e =
    let below : y.number < x.number = below_place ys place x y.number r.0 e in
    let is : (y.number == x.number) ≡ false = grind (arith, nat_tests, below) in
    ap (λ (b : Bool). cond b (Some y) (find (is_caller x.number) ys)) is ∙ found_there ys place x r.1 e
  where
    below_place : (zs : List Caller) (p : ℕ) (z : Caller) (n : ℕ) → Each (λ m. n < m) (numbers_of zs) → slice_get zs p ≡ Some z → n < z.number
    below_place [] p z n h q = absurd (cc q)
    below_place (w ∷ zs) zero z n h q = let same : w ≡ z = cc q in subst (λ (v : Caller). n < v.number) same h.0
    below_place (w ∷ zs) (suc p) z n h q = below_place zs p z n h.1 q

-- what is asked for of an attempt that is begun
trial_begun : (seq : ℕ) (caller : Caller) (request : Request) (xs : List Caller) → find (is_caller caller.number) xs ≡ Some caller → next_request caller ≡ Some request →
    trial_by seq (find (is_caller caller.number) (change (is_caller caller.number) (begun seq) xs)) ≡ Some request
trial_begun seq caller request xs found q =
    ap (trial_by seq) (find-change (is_caller caller.number) (begun seq) xs (λ x. ap (λ (n : ℕ). n == caller.number) (kept_by x.retries x).0) ∙ ap (option_map (begun seq)) found)
    ∙ ap asked (slice_get-set_same places seq (next_request caller) room) ∙ q
  where
    trials : List (Option Request)
    trials = (without_request caller).trials

    places : List (Option Request)
    places = with_place seq trials

    room : seq < length places
    room =
        let all = length-append trials (replicate (seq + 1 - length trials) None) in
        let more = length-replicate (seq + 1 - length trials) (None_request) in
        omega (arith, all, more)
      where
        None_request : Option Request
        None_request = None

module _ (rules : RuleLines) (round : Setting) (c : ColumnState) (k : ColumnFits round.faults c) (idle : is_idle c.work ≡ true) (none : NoneReads c) (tasks : List Task) (behind : Behind (length c.link) tasks) where
  abbrev pub TurnFits : Turn → Type 0
  TurnFits Nothing = Unit {0}
  TurnFits (Silent d) = Done rules round c k idle none tasks d
  TurnFits (Steps step after d) =
      IsSureWithPlace round c step × (blocked round c step ≡ None → (place : ℕ) → WholeFits (column_after_of step) d ((after ++ Turns place true ∷ []) ++ d.agenda))
    where
      column_after_of : Step → ColumnState
      column_after_of step = After rules round c k idle none step

  left_done : (caller : Caller) (d : DriverState) → Done rules round c k idle none tasks d → Done rules round c k idle none tasks (left caller d)
  left_done caller d g =
      let fits = g.1 in (
        g.0,
        record {
          tasks_fit = behind_fit c (left caller d).callers tasks behind;
          late = fits.late;
          held = fits.held;
          callers = callers_left c caller.number d.callers fits.callers;
          rising = subst IsRising (sym (numbers_same (is_caller caller.number) resting (λ x. refl) d.callers)) fits.rising;
        },
      )

  -- a step of an attempt whose client rests now
  own_step : (step : Step) (id : TxnId) (d : DriverState) → ((other : TxnId) → stops step other ≡ false) → ((other : TxnId) → (validates step other ≡ false) ⊎ (other ≡ id)) →
      RestsAt id.client d.callers → Done rules round c k idle none tasks d → blocked round c step ≡ None → DriverFits (After rules round c k idle none step) tasks d
  own_step step id d s v rests g b = after_own rules round c k idle none step id (λ i. inl (s i)) v b tasks d behind rests g.1

  later : (step : Step) → blocked round c step ≡ None → Behind (length (After rules round c k idle none step).link) tasks
  later step b =
      behind_more (length c.link) (length (After rules round c k idle none step).link) (link_grows round.faults c (After rules round c k idle none step) step (moved rules round c k idle none step b)) tasks behind

  at_tasks : (step : Step) (front : List Task) (d : DriverState) → begins step ≡ false → d.agenda ≡ tasks → DriverFits (After rules round c k idle none step) (front ++ tasks) d →
      WholeFits (After rules round c k idle none step) d (front ++ d.agenda)
  at_tasks step front d q e h =
      whole_plain (After rules round c k idle none step) (front ++ d.agenda) d (step_reads (λ i. ⊥) round c step q none)
      (subst (λ (ts : List Task). DriverFits (After rules round c k idle none step) (front ++ ts) d) (sym e) h)

  rests_now : (caller : Caller) (id : TxnId) (d : DriverState) → id.client ≡ caller.number → RestsAt id.client (left caller d).callers
  rests_now caller id d own = subst (λ (n : ℕ). RestsAt n (left caller d).callers) (sym own) (rests_left caller.number d.callers)

  -- ---- validating

  validates_own : (id other : TxnId) → (same_id id other ≡ false) ⊎ (other ≡ id)
  validates_own id other = by (same_id id other) refl
    where
      by : (b : Bool) → same_id id other ≡ b → (same_id id other ≡ false) ⊎ (other ≡ id)
      by false q = inl q
      by true q = inr (sym (same_id-tells id other q))

  live_stamped : (id : TxnId) (a : AttemptState) → attempt_of c id ≡ Some a → IsLive c id → on_attempt c id is_stamped ≡ true
  live_stamped id a e h = passes-from_some is_stamped (attempt_of c id) a e (and_parts (is_some a.txn) (not a.stopped) (passes-at is_live (attempt_of c id) a e h)).0

  live_going : (id : TxnId) (a : AttemptState) → attempt_of c id ≡ Some a → IsLive c id → IsGoing c id
  live_going id a e h = passes-from_some is_going (attempt_of c id) a e (and_parts (is_some a.txn) (not a.stopped) (passes-at is_live (attempt_of c id) a e h)).1

  validate_enabled : (id : TxnId) (a : AttemptState) → attempt_of c id ≡ Some a → IsLive c id → IsUnsent c id → blocked round c (Validate id) ≡ None
  validate_enabled id a e h u =
      none_fails 1 (conditions round c (Validate id)) (
        idle,
        (
          live_stamped id a e h,
          (
            live_going id a e h,
            (passes-from_some (λ x. is_none x.coord.proposed && is_none x.coord.learned) (attempt_of c id) a e clean, tt),
          ),
        ),
      )
    where
      clean : (is_none a.coord.proposed && is_none a.coord.learned) ≡ true
      clean =
          let fits = k.attempts id a e in
          elim fits.coord [
            | inl q ↦ ap (λ (x : CoordState). is_none x.proposed && is_none x.learned) q
            | inr w ↦ absurd (cc (sym u ∙ w))
          ]

  validated_fits : (caller : Caller) (id : TxnId) (a : AttemptState) (d : DriverState) → attempt_of c id ≡ Some a → id.client ≡ caller.number → IsLive c id → IsUnsent c id →
      Done rules round c k idle none tasks d → TurnFits (validated c caller id d)
  validated_fits caller id a d e own h u g =
      let gone = left_done caller d g in
      let rests = rests_now caller id d own in (
        validate_enabled id a e h u,
        λ b place.
            at_tasks (Validate id) (DeliverSince (length c.link) ∷ (Reach id AfterVotes ∷ (Turns place true ∷ []))) (left caller d) refl gone.0
            (retask (After rules round c k idle none (Validate id)) tasks (DeliverSince (length c.link) ∷ (Reach id AfterVotes ∷ (Turns place true ∷ tasks))) (left caller d)
            (own_step (Validate id) id (left caller d) (λ i. refl) (validates_own id) rests gone b)
            ((stays_live round.faults c (After rules round c k idle none (Validate id)) (Validate id) (moved rules round c k idle none (Validate id) b) id refl h, rests), (tt, later (Validate id) b))),
      )

  -- ---- ruling

  rule_enabled : (id : TxnId) (a : AttemptState) (r : Ruling) → attempt_of c id ≡ Some a → IsLive c id → a.coord.learned ≡ None → ruling round.faults a.coord ≡ r → acts_on r ≡ true →
      blocked round c (Rule id) ≡ None
  rule_enabled id a r e h l q t =
      none_fails 1 (conditions round c (Rule id)) (
        idle,
        (
          live_stamped id a e h,
          (
            live_going id a e h,
            (
              passes-from_some (λ x. is_none x.coord.learned) (attempt_of c id) a e (ap is_none l),
              (passes-from_some (λ x. acts_on (ruling round.faults x.coord)) (attempt_of c id) a e (ap acts_on q ∙ t), tt),
            ),
          ),
        ),
      )

  rule_fits : (caller : Caller) (id : TxnId) (d : DriverState) → id.client ≡ caller.number → blocked round c (Rule id) ≡ None → Done rules round c k idle none tasks d →
      TurnFits (Steps (Rule id) (follow_ups c id) (left caller d))
  rule_fits caller id d own sure g =
      let gone = left_done caller d g in (
        sure,
        λ b place.
            at_tasks (Rule id) (Notice id ∷ (DeliverSince (length c.link) ∷ (Turns place true ∷ []))) (left caller d) refl gone.0
            (retask (After rules round c k idle none (Rule id)) tasks (Notice id ∷ (DeliverSince (length c.link) ∷ (Turns place true ∷ tasks))) (left caller d)
            (own_step (Rule id) id (left caller d) (λ i. refl) (λ i. inl refl) (rests_now caller id d own) gone b)
            (later (Rule id) b)),
      )

  propose_fits : (caller : Caller) (id : TxnId) (d : DriverState) → id.client ≡ caller.number → IsLive c id → blocked round c (Rule id) ≡ None → Done rules round c k idle none tasks d →
      TurnFits (Steps (Rule id) (follow_ups c id ++ Reach id AfterAccepts ∷ []) (left caller d))
  propose_fits caller id d own h sure g =
      let gone = left_done caller d g in
      let rests = rests_now caller id d own in (
        sure,
        λ b place.
            at_tasks (Rule id) (Notice id ∷ (DeliverSince (length c.link) ∷ (Reach id AfterAccepts ∷ (Turns place true ∷ [])))) (left caller d) refl gone.0
            (retask (After rules round c k idle none (Rule id)) tasks (Notice id ∷ (DeliverSince (length c.link) ∷ (Reach id AfterAccepts ∷ (Turns place true ∷ tasks)))) (left caller d)
            (own_step (Rule id) id (left caller d) (λ i. refl) (λ i. inl refl) rests gone b)
            ((stays_live round.faults c (After rules round c k idle none (Rule id)) (Rule id) (moved rules round c k idle none (Rule id) b) id refl h, rests), (tt, later (Rule id) b))),
      )

  ruled_fits : (caller : Caller) (id : TxnId) (a : AttemptState) (r : Ruling) (d : DriverState) → attempt_of c id ≡ Some a → id.client ≡ caller.number → IsLive c id →
      a.coord.learned ≡ None → ruling round.faults a.coord ≡ r → Done rules round c k idle none tasks d → TurnFits (ruled_by c caller id r d)
  ruled_fits caller id a (Fast outcome) d e own h l q g = rule_fits caller id d own (rule_enabled id a (Fast outcome) e h l q refl) g
  ruled_fits caller id a (Propose outcome) d e own h l q g = propose_fits caller id d own h (rule_enabled id a (Propose outcome) e h l q refl) g
  ruled_fits caller id a (Learned outcome) d e own h l q g = left_done caller d g
  ruled_fits caller id a (Short m) d e own h l q g = left_done caller d g
  ruled_fits caller id a (Unaccepted m) d e own h l q g = left_done caller d g

  closed_fits : (caller : Caller) (id : TxnId) (a : AttemptState) (r : Ruling) (d : DriverState) → attempt_of c id ≡ Some a → id.client ≡ caller.number → IsLive c id →
      a.coord.learned ≡ None → ruling round.faults a.coord ≡ r → Done rules round c k idle none tasks d → TurnFits (closed_by c caller id r d)
  closed_fits caller id a (Learned outcome) d e own h l q g = rule_fits caller id d own (rule_enabled id a (Learned outcome) e h l q refl) g
  closed_fits caller id a (Fast outcome) d e own h l q g = left_done caller d g
  closed_fits caller id a (Propose outcome) d e own h l q g = left_done caller d g
  closed_fits caller id a (Short m) d e own h l q g = left_done caller d g
  closed_fits caller id a (Unaccepted m) d e own h l q g = left_done caller d g

  three_fits : (caller : Caller) (id : TxnId) (a : AttemptState) (o : Option Outcome) (d : DriverState) → attempt_of c id ≡ Some a → id.client ≡ caller.number → IsLive c id →
      a.coord.learned ≡ o → Done rules round c k idle none tasks d → TurnFits (stage_three round c caller id a.coord o d)
  three_fits caller id a (Some outcome) d e own h l g = left_done caller d g
  three_fits caller id a None d e own h l g = ruled_fits caller id a (ruling round.faults a.coord) d e own h l refl g

  four_fits : (caller : Caller) (id : TxnId) (a : AttemptState) (o : Option Outcome) (d : DriverState) → attempt_of c id ≡ Some a → id.client ≡ caller.number → IsLive c id →
      a.coord.learned ≡ o → Done rules round c k idle none tasks d → TurnFits (stage_four round c caller id a.coord o d)
  four_fits caller id a (Some outcome) d e own h l g = left_done caller d g
  four_fits caller id a None d e own h l g = closed_fits caller id a (ruling round.faults a.coord) d e own h l refl g

  stage_fits : (caller : Caller) (id : TxnId) (point : Point) (o : Option AttemptState) (d : DriverState) → attempt_of c id ≡ o → id.client ≡ caller.number → StageFits c id point →
      Done rules round c k idle none tasks d → TurnFits (stage_after round c caller id point o d)
  stage_fits caller id AfterRead (Some a) d e own h g = validated_fits caller id a d e own h.0 h.1 g
  stage_fits caller id AfterVotes (Some a) d e own h g = three_fits caller id a a.coord.learned d e own h refl g
  stage_fits caller id AfterAccepts (Some a) d e own h g = four_fits caller id a a.coord.learned d e own h refl g
  stage_fits caller id AfterRead None d e own h g = left_done caller d g
  stage_fits caller id AfterVotes None d e own h g = left_done caller d g
  stage_fits caller id AfterAccepts None d e own h g = left_done caller d g

  -- ---- beginning

  begin_fits : (client : ClientState) (caller : Caller) (reader : Option ℕ) (d : DriverState) → reader_for round caller.home client.heard ≡ reader → client_of c caller.number ≡ Some client → RestsAt caller.number d.callers →
      ((seq : ℕ) → (request : Request) × (trial_by seq (find (is_caller caller.number) (change_caller caller.number (begun seq) d).callers) ≡ Some request)) →
      Done rules round c k idle none tasks d → TurnFits (begin_by client caller reader d)
  begin_fits client caller (Some replica) d q e rests trial g =
      let changed = same_callers rules round c k idle none tasks caller.number (begun client.next_seq) d (λ x. (kept_by x.retries x).0) (λ x. (kept_by x.retries x).1) g in
      let still = rests_same caller.number (is_caller caller.number) (begun client.next_seq) (λ x. (kept_by x.retries x).0) (λ x. (kept_by x.retries x).1) d.callers rests in (
        begin_sure round c caller.number caller.home replica client idle e none q,
        λ b place. subst (λ (ts : List Task). WholeFits new (change_caller caller.number (begun client.next_seq) d) (Fetch id ∷ (Turns place true ∷ ts))) (sym changed.0) (
          (
            begun_going round c k caller.number replica client e,
            stays_unsent round.faults c new step k (moved rules round c k idle none step b) id refl (begun_unsent round.faults c k caller.number client e),
            still,
            (let asked = trial client.next_seq in begin_goes round c k (change_caller caller.number (begun client.next_seq) d).callers caller.number replica client asked.0 e idle asked.1),
            begun_reading round c k caller.number replica client e,
          ),
          begun_reads round c caller.number replica client e none,
          (tt, later step b),
          retask new tasks (Turns place true ∷ tasks) (change_caller caller.number (begun client.next_seq) d)
              (own_step step id (change_caller caller.number (begun client.next_seq) d) (λ i. refl) (λ i. inl refl) still changed b) (later step b),
        ),
      )
    where
      id : TxnId
      id = record { client = caller.number; seq = client.next_seq }

      step : Step
      step = Begin caller.number replica

      new : ColumnState
      new = column_after round c (Begin caller.number replica)
  begin_fits client caller None d q e rests trial g =
      let changed = same_callers rules round c k idle none tasks caller.number without_request d (λ x. (kept_by x.retries x).0) (λ x. (kept_by x.retries x).1) g in
      let still = rests_same caller.number (is_caller caller.number) without_request (λ x. (kept_by x.retries x).0) (λ x. (kept_by x.retries x).1) d.callers rests in (
        (λ few. unread_sure round c caller.number caller.home client idle e none q few),
        λ b place.
            at_tasks (Unread caller.number) (Turns place true ∷ []) (change_caller caller.number without_request d) refl changed.0
            (retask (After rules round c k idle none (Unread caller.number)) tasks (Turns place true ∷ tasks) (change_caller caller.number without_request d)
            (own_step (Unread caller.number) (record { client = caller.number; seq = 0 }) (change_caller caller.number without_request d) (λ i. refl) (λ i. inl refl) still changed b)
            (later (Unread caller.number) b)),
      )

  begin_of_fits : (client : Option ClientState) (caller : Caller) (d : DriverState) → client_of c caller.number ≡ client → RestsAt caller.number d.callers →
      ((seq : ℕ) → (request : Request) × (trial_by seq (find (is_caller caller.number) (change_caller caller.number (begun seq) d).callers) ≡ Some request)) →
      Done rules round c k idle none tasks d → TurnFits (begin_of round client caller d)
  begin_of_fits (Some client) caller d e rests trial g = begin_fits client caller (reader_for round caller.home client.heard) d refl e rests trial g
  begin_of_fits None caller d e rests trial g = tt

  begin_next_fits : (caller : Caller) (request : Option Request) (d : DriverState) → next_request caller ≡ request → find (is_caller caller.number) d.callers ≡ Some caller →
      RestsAt caller.number d.callers → Done rules round c k idle none tasks d → TurnFits (begin_next round c caller request d)
  begin_next_fits caller (Some request) d q found rests g = begin_of_fits (client_of c caller.number) caller d refl rests (λ seq. (request, trial_begun seq caller request d.callers found q)) g
  begin_next_fits caller None d q found rests g = tt

  turn_by_fits : (place : ℕ) (caller : Caller) (u : Option Stage) (d : DriverState) → slice_get d.callers place ≡ Some caller → caller.under_way ≡ u → UnderWayFits c caller.number u →
      Done rules round c k idle none tasks d → TurnFits (turn_by round c caller u d)
  turn_by_fits place caller (Some stage) d e q h g = stage_fits caller stage.id stage.reached (attempt_of c stage.id) d refl h.0 h.1 g
  turn_by_fits place caller None d e q h g =
      let fits = g.1 in
      begin_next_fits caller (next_request caller) d refl (found_there d.callers place caller fits.rising e) (rests_there d.callers place caller fits.rising e q) g

  pub turn_fits : (place : ℕ) (o : Option Caller) (d : DriverState) → slice_get d.callers place ≡ o → Done rules round c k idle none tasks d → TurnFits (turn_of round c o d)
  turn_fits place (Some caller) d e g = let fits = g.1 in turn_by_fits place caller caller.under_way d e refl (caller_at c d.callers place caller fits.callers e) g
  turn_fits place None d e g = tt
