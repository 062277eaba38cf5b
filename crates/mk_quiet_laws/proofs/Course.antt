-- Where the attempts of a quiet column are: done, or on their way, each as its client or the task in hand has it.
use Rattle.std.proofs.Common.{◌≡◌, ◌⊎◌, ◌<◌, ◌∙◌, ℕ, ◌==◌, Bool, true, false, refl, inl, inr, sym, ap, subst, List, [], ◌∷◌, Option, Some, None}
use Rattle.std.specs.Prelude.{find, option_map}
use Rattle.std.proofs.lemmas.Bool.{eqb-true, eq-eqb}
use Rattle.mk_lists.specs.Changed.{change}
use Rattle.mk_lists.proofs.Changes.{find-change, find-change_other}
use Rattle.mk_txn.specs.declared.TxnId.{TxnId}
use Rattle.mk_txn.specs.declared.Outcome.TheVariants.{Commit}
use Rattle.mk_words.specs.declared.Body.TheVariants.{Validate as ValidateBody, Decide}
use Rattle.mk_words.specs.Rulings.{ruling}
use Rattle.mk_words.specs.declared.Ruling.TheVariants.{Fast}
use Rattle.mk_quorum.specs.Sizes.{members}
use Rattle.mk_script.specs.declared.lines.Point.{Point}
use Rattle.mk_script.specs.declared.lines.Point.TheVariants.{Read as AfterRead, Votes as AfterVotes, Accepts as AfterAccepts}
use Rattle.mk_client.specs.Wanted.{next_wanted}
use Rattle.mk_client.specs.Computed.{writes_of}
use Rattle.mk_words.specs.declared.Step.{Step}
use Rattle.mk_words.specs.declared.Step.TheVariants.{Begin, Unread, Read, Stamp, Validate, Take, Key, Rule, Again, Takeover, Pick as PickStep, Stop}
use Rattle.mk_model.specs.ColumnState.{ColumnState, AttemptState, ClientState, attempt_of, client_of}
use Rattle.mk_model.specs.Sending.{Sent}
use Rattle.mk_driver.specs.declared.Part.{Part}
use Rattle.mk_driver.specs.declared.Part.TheVariants.{Takeovers as TakeoversPart, Late as LatePart, Settle as SettlePart}
use Rattle.mk_driver.specs.declared.Task.{Task}
use Rattle.mk_driver.specs.declared.Task.TheVariants.{Deliver, DeliverSince, Take as TakeTask, Notice, Fetch, Reach, Resume, Turns, Takeover as TakeoverTask, Late, Settle, SettleTakeover}
use Rattle.mk_driver.specs.declared.DriverState.{DriverState}
use Rattle.mk_driver.specs.declared.Caller.{Caller}
use Rattle.mk_driver.specs.declared.Request.{Request}
use Rattle.mk_driver.specs.declared.Stage.{Stage}
use Rattle.mk_driver.specs.Keeping.{IsRising, numbers_of}
use Rattle.mk_driver.specs.Agenda.{is_caller, trial_by}
use Rattle.mk_driver.specs.Stages.{resting, begun}

-- ---- the task in hand

-- none, or an attempt's that fetches, or that has come to a point
pub data Focus : Type 0 where
  Free : Focus
  Fetches : (id : TxnId) → Focus
  Reaches : (id : TxnId) (point : Point) → Focus

-- the clients' turns come last, from the first client on where none has done anything
abbrev pub IsTurns : List Task → Type 0
IsTurns (Turns place did ∷ []) = did ≡ false → place ≡ 0
IsTurns _ = ⊥

-- messages, then the task in hand, then the turns
abbrev pub InCourse : Focus → List Task → Type 0
InCourse focus [] = ⊥
InCourse focus (Deliver first end ∷ tasks) = InCourse focus tasks
InCourse focus (DeliverSince sent ∷ tasks) = InCourse focus tasks
InCourse focus (TakeTask number ∷ tasks) = InCourse focus tasks
InCourse focus (Notice id ∷ tasks) = InCourse focus tasks
InCourse focus (Fetch id ∷ tasks) = (focus ≡ Fetches id) × IsTurns tasks
InCourse focus (Reach id point ∷ tasks) = (focus ≡ Reaches id point) × IsTurns tasks
InCourse focus (Turns place did ∷ tasks) = (focus ≡ Free) × IsTurns (Turns place did ∷ tasks)
InCourse focus (Resume id ∷ tasks) = ⊥
InCourse focus (TakeoverTask id view ∷ tasks) = ⊥
InCourse focus (Late ∷ tasks) = ⊥
InCourse focus (Settle id ∷ tasks) = ⊥
InCourse focus (SettleTakeover id view ∷ tasks) = ⊥

-- the parts after the turns
abbrev pub later_parts : List Part
later_parts = TakeoversPart ∷ (LatePart ∷ (SettlePart ∷ []))

-- ---- clients

abbrev pub stage_in : Option Caller → Option Stage
stage_in (Some caller) = caller.under_way
stage_in None = None

-- the stage of the client's attempt under way
abbrev pub stage_of : List Caller → ℕ → Option Stage
stage_of callers client = stage_in (find (is_caller client) callers)

-- the client is there, and none of its attempts is under way
abbrev pub IsAtRest : List Caller → ℕ → Type 0
IsAtRest callers client = (x : Caller) × (find (is_caller client) callers ≡ Some x) × (x.under_way ≡ None)

abbrev pub stage_at : TxnId → Point → Stage
stage_at id point = record { id = id; reached = point }

-- ---- attempts

-- its own coordinator committed, and told every replica
abbrev pub IsSettledAll : ℕ → ColumnState → TxnId → AttemptState → Type 0
IsSettledAll f c id a = (a.coord.learned ≡ Some Commit) × ((r : ℕ) → r < members f → Sent c.link id r 0 (Decide Commit))

-- every replica was sent its Validate
abbrev pub IsAskedAll : ℕ → ColumnState → TxnId → Type 0
IsAskedAll f c id = (mark : ℕ) × ((r : ℕ) → r < members f → Sent c.link id r 0 (ValidateBody mark))

-- it is there, and its own coordinator has not learned
abbrev pub IsUnlearned : ColumnState → TxnId → Type 0
IsUnlearned c id = (a : AttemptState) × (attempt_of c id ≡ Some a) × (a.coord.learned ≡ None)

-- so far it has come at a point
abbrev pub PointFits : ℕ → ColumnState → TxnId → Point → Type 0
PointFits f c id AfterRead = IsUnlearned c id
PointFits f c id AfterVotes = IsUnlearned c id × IsAskedAll f c id
PointFits f c id AfterAccepts = ⊥

abbrev pub FocusFits : ℕ → ColumnState → List Caller → Focus → Type 0
FocusFits f c callers Free = Unit {0}
FocusFits f c callers (Fetches id) = IsAtRest callers id.client × IsUnlearned c id
FocusFits f c callers (Reaches id point) = IsAtRest callers id.client × PointFits f c id point

-- it is the one in hand, or its client's under way
abbrev pub IsOnItsWay : Focus → List Caller → TxnId → Type 0
IsOnItsWay focus callers id = (focus ≡ Fetches id) ⊎ ((point : Point) × ((focus ≡ Reaches id point) ⊎ (stage_of callers id.client ≡ Some (stage_at id point))))

abbrev pub HasCourse : ℕ → ColumnState → Focus → List Caller → TxnId → AttemptState → Type 0
HasCourse f c focus callers id a = IsSettledAll f c id a ⊎ IsOnItsWay focus callers id

-- what holds of the task in hand, the clients and the column, wherever something may be named
pub record Ready (f : ℕ) (c : ColumnState) (focus : Focus) (callers : List Caller) : Type 0 where
  pub courses : (id : TxnId) (a : AttemptState) → attempt_of c id ≡ Some a → HasCourse f c focus callers id a
  pub focus_fits : FocusFits f c callers focus
  pub stages : (client : ℕ) (stage : Stage) → stage_of callers client ≡ Some stage → (stage.id.client ≡ client) × PointFits f c stage.id stage.reached
  pub rising : IsRising (numbers_of callers)

-- ---- steps

-- what the attempt in hand was asked for
pub record IsAskedFor (c : ColumnState) (callers : List Caller) (id : TxnId) : Type 0 where
  pub attempt : AttemptState
  pub request : Request
  pub found : attempt_of c id ≡ Some attempt
  pub asked : trial_by id.seq (find (is_caller id.client) callers) ≡ Some request

-- what a step that is named makes of the task in hand and of the clients
abbrev pub StepCourse : ℕ → ColumnState → Focus → List Caller → Focus → List Caller → Step → Type 0
StepCourse f c focus old new callers (Take number) = (new ≡ focus) × (callers ≡ old)
StepCourse f c focus old new callers (Read id key) =
    (focus ≡ Fetches id) × (new ≡ Fetches id) × (callers ≡ old)
    × ((asked : IsAskedFor c old id) × (next_wanted asked.request.items asked.attempt.reads ≡ Some key))
StepCourse f c focus old new callers (Stamp id clock writes) =
    (focus ≡ Fetches id) × (new ≡ Reaches id AfterRead) × (callers ≡ old)
    × ((asked : IsAskedFor c old id) × (writes ≡ writes_of asked.request.items asked.attempt.reads))
StepCourse f c focus old new callers (Begin client replica) =
    (focus ≡ Free) × IsAtRest old client
    × ((cl : ClientState) × (client_of c client ≡ Some cl) × (new ≡ Fetches (record { client = client; seq = cl.next_seq }))
    × (callers ≡ change (is_caller client) (begun cl.next_seq) old))
StepCourse f c focus old new callers (Unread client) = Unit {0}
StepCourse f c focus old new callers (Validate id) =
    (focus ≡ Free) × (stage_of old id.client ≡ Some (stage_at id AfterRead)) × (new ≡ Reaches id AfterVotes)
    × (callers ≡ change (is_caller id.client) resting old)
StepCourse f c focus old new callers (Rule id) =
    (focus ≡ Free) × (stage_of old id.client ≡ Some (stage_at id AfterVotes)) × (new ≡ Free)
    × (callers ≡ change (is_caller id.client) resting old)
    × ((a : AttemptState) × (attempt_of c id ≡ Some a) × (a.coord.learned ≡ None) × (ruling f a.coord ≡ Fast Commit))
StepCourse f c focus old new callers (Key call answer) = ⊥
StepCourse f c focus old new callers (Again id) = ⊥
StepCourse f c focus old new callers (Takeover id view) = ⊥
StepCourse f c focus old new callers (PickStep id view) = ⊥
StepCourse f c focus old new callers (Stop id) = ⊥

-- a step was named where all was ready, and the driver goes on so
pub record IsNamedIn (f : ℕ) (c : ColumnState) (step : Step) (d : DriverState) : Type 0 where
  pub focus : Focus
  pub old : List Caller
  pub ready : Ready f c focus old
  pub new : Focus
  pub course : StepCourse f c focus old new d.callers step
  pub agenda : InCourse new d.agenda
  pub parts : d.parts ≡ later_parts
  pub takeovers : d.takeovers ≡ []

-- every attempt is done
abbrev pub AllSettled : ℕ → ColumnState → Type 0
AllSettled f c = (id : TxnId) (a : AttemptState) → attempt_of c id ≡ Some a → IsSettledAll f c id a

-- ---- lookups

module _ (g : Caller → Caller) (number : (x : Caller) → (g x).number ≡ x.number) where
  pub find_here : (n : ℕ) (xs : List Caller) → find (is_caller n) (change (is_caller n) g xs) ≡ option_map g (find (is_caller n) xs)
  find_here n xs = find-change (is_caller n) g xs (λ x. ap (λ (m : ℕ). m == n) (number x))

  pub find_else : (n m : ℕ) (xs : List Caller) → (m ≡ n → ⊥) → find (is_caller m) (change (is_caller n) g xs) ≡ find (is_caller m) xs
  find_else n m xs apart = find-change_other (is_caller n) (is_caller m) g xs (λ x t. other x t) (λ x. ap (λ (k : ℕ). k == m) (number x))
    where
      other : (x : Caller) → is_caller n x ≡ true → is_caller m x ≡ false
      other x t = by (is_caller m x) refl
        where
          by : (b : Bool) → is_caller m x ≡ b → is_caller m x ≡ false
          by false e = e
          by true e = absurd (apart (sym (eqb-true x.number m e) ∙ eqb-true x.number n t))

  -- where the attempt under way stays as well, every client's does
  pub stage_kept : ((x : Caller) → (g x).under_way ≡ x.under_way) → (n m : ℕ) (xs : List Caller) → stage_of (change (is_caller n) g xs) m ≡ stage_of xs m
  stage_kept under n m xs = by (m == n) refl
    where
      mapped : (o : Option Caller) → stage_in (option_map g o) ≡ stage_in o
      mapped None = refl
      mapped (Some x) = under x

      by : (b : Bool) → (m == n) ≡ b → stage_of (change (is_caller n) g xs) m ≡ stage_of xs m
      by true e = subst (λ (k : ℕ). stage_of (change (is_caller k) g xs) m ≡ stage_of xs m) (eqb-true m n e) (ap stage_in (find_here m xs) ∙ mapped (find (is_caller m) xs))
      by false e = ap stage_in (find_else n m xs (λ same. absurd (cc (sym (eq-eqb m n same) ∙ e))))

-- two clients' numbers are the same or not
pub same_or_not : (m n : ℕ) → (m ≡ n) ⊎ (m ≡ n → ⊥)
same_or_not m n = by (m == n) refl
  where
    by : (b : Bool) → (m == n) ≡ b → (m ≡ n) ⊎ (m ≡ n → ⊥)
    by true e = inl (eqb-true m n e)
    by false e = inr (λ same. absurd (cc (sym (eq-eqb m n same) ∙ e)))
