-- What the tasks and the clients of a driver mean about its column.
use Rattle.std.proofs.Common.{◌≡◌, ◌⊎◌, inl, inr, ◌∙◌, ◌<◌, ◌≤◌, ℕ, zero, suc, ◌+◌, Bool, true, false, refl, sym, subst, ap, arith, List, [], ◌∷◌, ◌++◌, length, Option, Some, None, if◌then◌else◌}
use Rattle.std.specs.Prelude.{slice_get, ◌==◌}
use Rattle.std.proofs.lemmas.Bool.Decides.{nat_tests}
use Rattle.mk_lists.specs.Among.{Each, Each-weaker}
use Rattle.mk_lists.specs.Changed.{change, Each-change}
use Rattle.mk_txn.specs.declared.TxnId.{TxnId}
use Rattle.mk_script.specs.declared.lines.Point.{Point}
use Rattle.mk_script.specs.declared.lines.Point.TheVariants.{Read as AfterRead, Votes as AfterVotes, Accepts as AfterAccepts}
use Rattle.mk_words.specs.declared.Step.{Step}
use Rattle.mk_model.specs.ColumnState.{ColumnState}
use Rattle.mk_driver.specs.declared.Task.{Task}
use Rattle.mk_driver.specs.declared.Task.TheVariants.{Deliver, DeliverSince, Take, Notice, Fetch, Reach, Resume, Turns, Takeover, Late, Settle, SettleTakeover}
use Rattle.mk_driver.specs.declared.DriverState.{DriverState}
use Rattle.mk_driver.specs.declared.Caller.{Caller}
use Rattle.mk_driver.specs.declared.Stage.{Stage}
use Rattle.mk_driver.specs.Keeping.{IsRising, numbers_of}
use Rattle.mk_driver.specs.Agenda.{is_caller}
use Rattle.mk_driver.specs.Stages.{resting, at_stage}
use Rattle.mk_driver_laws.proofs.Lookups.{member-slice_get}
use Rattle.mk_driver_laws.proofs.ColumnMoves.{stops, validates}
use Rattle.mk_driver_laws.proofs.Reading.{NoneReads, OneReads}
use Rattle.mk_driver_laws.proofs.Frames.{IsReading, IsGoing, IsLive, IsUnsent}
use Rattle.mk_driver_laws.proofs.ReadKeys.{FetchKeys}

-- the number is one of a message in a link of this length
abbrev pub InLink : ℕ → ℕ → Type 0
InLink n number = (0 < number) × (number ≤ n)

-- an attempt that has done this stage
abbrev pub StageFits : ColumnState → TxnId → Point → Type 0
StageFits c id AfterRead = IsLive c id × IsUnsent c id
StageFits c id AfterVotes = IsLive c id
StageFits c id AfterAccepts = IsLive c id

-- a client's attempt under way is its own
abbrev pub UnderWayFits : ColumnState → ℕ → Option Stage → Type 0
UnderWayFits c number None = Unit {0}
UnderWayFits c number (Some stage) = (stage.id.client ≡ number) × StageFits c stage.id stage.reached

abbrev pub CallerFits : ColumnState → Caller → Type 0
CallerFits c caller = UnderWayFits c caller.number caller.under_way

-- no attempt of the client of this number is under way
abbrev pub Rests : ℕ → Caller → Type 0
Rests number caller = caller.number ≡ number → caller.under_way ≡ None

abbrev pub RestsAt : ℕ → List Caller → Type 0
RestsAt number callers = Each (Rests number) callers

-- a task that is of no client's turn
abbrev pub PlainFits : ℕ → Task → Type 0
PlainFits n (Deliver first end) = (0 < first) × (end ≤ n + 1)
PlainFits n (Take number) = InLink n number
PlainFits n (Fetch id) = ⊥
PlainFits n (Reach id point) = ⊥
PlainFits n (Turns place did) = ⊥
PlainFits n (DeliverSince sent) = Unit {0}
PlainFits n (Notice id) = Unit {0}
PlainFits n (Resume id) = Unit {0}
PlainFits n (Takeover id view) = Unit {0}
PlainFits n Late = Unit {0}
PlainFits n (Settle id) = Unit {0}
PlainFits n (SettleTakeover id view) = Unit {0}

-- a task behind the one that belongs to an attempt under way
abbrev pub BehindFits : ℕ → Task → Type 0
BehindFits n (Turns place did) = Unit {0}
BehindFits n (Deliver first end) = (0 < first) × (end ≤ n + 1)
BehindFits n (Take number) = InLink n number
BehindFits n (Fetch id) = ⊥
BehindFits n (Reach id point) = ⊥
BehindFits n (DeliverSince sent) = Unit {0}
BehindFits n (Notice id) = Unit {0}
BehindFits n (Resume id) = Unit {0}
BehindFits n (Takeover id view) = Unit {0}
BehindFits n Late = Unit {0}
BehindFits n (Settle id) = Unit {0}
BehindFits n (SettleTakeover id view) = Unit {0}

abbrev pub Behind : ℕ → List Task → Type 0
Behind n tasks = Each (BehindFits n) tasks

-- an attempt that reads was asked for something, and has read the first keys of it
abbrev pub FetchFits : ColumnState → List Caller → TxnId → Type 0
FetchFits c callers id =
    IsGoing c id × IsUnsent c id × RestsAt id.client callers × FetchKeys c callers id × IsReading c id

abbrev pub ReachFits : ColumnState → List Caller → TxnId → Point → Type 0
ReachFits c callers id point = StageFits c id point × RestsAt id.client callers

-- at most one task belongs to an attempt under way, and none comes behind the turns
abbrev pub TasksFit : ColumnState → List Caller → List Task → Type 0
TasksFit c callers [] = Unit {0}
TasksFit c callers (Fetch id ∷ tasks) = ⊥
TasksFit c callers (Reach id point ∷ tasks) = ReachFits c callers id point × Behind (length c.link) tasks
TasksFit c callers (Turns place did ∷ tasks) = Behind (length c.link) tasks
TasksFit c callers (Deliver first end ∷ tasks) = PlainFits (length c.link) (Deliver first end) × TasksFit c callers tasks
TasksFit c callers (DeliverSince sent ∷ tasks) = TasksFit c callers tasks
TasksFit c callers (Take number ∷ tasks) = InLink (length c.link) number × TasksFit c callers tasks
TasksFit c callers (Notice id ∷ tasks) = TasksFit c callers tasks
TasksFit c callers (Resume id ∷ tasks) = TasksFit c callers tasks
TasksFit c callers (Takeover id view ∷ tasks) = TasksFit c callers tasks
TasksFit c callers (Late ∷ tasks) = TasksFit c callers tasks
TasksFit c callers (Settle id ∷ tasks) = TasksFit c callers tasks
TasksFit c callers (SettleTakeover id view ∷ tasks) = TasksFit c callers tasks

-- what holds of a driver with these tasks left
pub record DriverFits (c : ColumnState) (tasks : List Task) (d : DriverState) : Type 0 where
  pub tasks_fit : TasksFit c d.callers tasks
  pub late : Each (InLink (length c.link)) d.late
  pub held : Each (InLink (length c.link)) d.held
  pub callers : Each (CallerFits c) d.callers
  pub rising : IsRising (numbers_of d.callers)

-- ---- tasks

pub behind_fit : (c : ColumnState) (callers : List Caller) (tasks : List Task) → Behind (length c.link) tasks → TasksFit c callers tasks
behind_fit c callers [] h = tt
behind_fit c callers (Fetch id ∷ tasks) h = absurd h.0
behind_fit c callers (Reach id point ∷ tasks) h = absurd h.0
behind_fit c callers (Turns place did ∷ tasks) h = h.1
behind_fit c callers (Deliver first end ∷ tasks) h = (h.0, behind_fit c callers tasks h.1)
behind_fit c callers (DeliverSince sent ∷ tasks) h = behind_fit c callers tasks h.1
behind_fit c callers (Take number ∷ tasks) h = (h.0, behind_fit c callers tasks h.1)
behind_fit c callers (Notice id ∷ tasks) h = behind_fit c callers tasks h.1
behind_fit c callers (Resume id ∷ tasks) h = behind_fit c callers tasks h.1
behind_fit c callers (Takeover id view ∷ tasks) h = behind_fit c callers tasks h.1
behind_fit c callers (Late ∷ tasks) h = behind_fit c callers tasks h.1
behind_fit c callers (Settle id ∷ tasks) h = behind_fit c callers tasks h.1
behind_fit c callers (SettleTakeover id view ∷ tasks) h = behind_fit c callers tasks h.1

-- plain tasks come in front
pub plain_front : (c : ColumnState) (callers : List Caller) (after tasks : List Task) → Each (PlainFits (length c.link)) after → TasksFit c callers tasks →
    TasksFit c callers (after ++ tasks)
plain_front c callers [] tasks h k = k
plain_front c callers (Fetch id ∷ after) tasks h k = absurd h.0
plain_front c callers (Reach id point ∷ after) tasks h k = absurd h.0
plain_front c callers (Turns place did ∷ after) tasks h k = absurd h.0
plain_front c callers (Deliver first end ∷ after) tasks h k = (h.0, plain_front c callers after tasks h.1 k)
plain_front c callers (DeliverSince sent ∷ after) tasks h k = plain_front c callers after tasks h.1 k
plain_front c callers (Take number ∷ after) tasks h k = (h.0, plain_front c callers after tasks h.1 k)
plain_front c callers (Notice id ∷ after) tasks h k = plain_front c callers after tasks h.1 k
plain_front c callers (Resume id ∷ after) tasks h k = plain_front c callers after tasks h.1 k
plain_front c callers (Takeover id view ∷ after) tasks h k = plain_front c callers after tasks h.1 k
plain_front c callers (Late ∷ after) tasks h k = plain_front c callers after tasks h.1 k
plain_front c callers (Settle id ∷ after) tasks h k = plain_front c callers after tasks h.1 k
plain_front c callers (SettleTakeover id view ∷ after) tasks h k = plain_front c callers after tasks h.1 k

behind_one : (n m : ℕ) → n ≤ m → (task : Task) → BehindFits n task → BehindFits m task
behind_one n m e (Deliver first end) h = (h.0, omega (arith, e, h))
behind_one n m e (DeliverSince sent) h = tt
behind_one n m e (Take number) h = (h.0, omega (arith, e, h))
behind_one n m e (Notice id) h = tt
behind_one n m e (Fetch id) h = h
behind_one n m e (Reach id point) h = h
behind_one n m e (Resume id) h = tt
behind_one n m e (Turns place did) h = tt
behind_one n m e (Takeover id view) h = tt
behind_one n m e Late h = tt
behind_one n m e (Settle id) h = tt
behind_one n m e (SettleTakeover id view) h = tt

pub behind_more : (n m : ℕ) → n ≤ m → (tasks : List Task) → Behind n tasks → Behind m tasks
behind_more n m e tasks h = Each-weaker (BehindFits n) (BehindFits m) (behind_one n m e) tasks h

pub numbers_more : (n m : ℕ) → n ≤ m → (numbers : List ℕ) → Each (InLink n) numbers → Each (InLink m) numbers
numbers_more n m e numbers h = Each-weaker (InLink n) (InLink m) (λ number j. (j.0, omega (arith, e, j))) numbers h

-- the tasks once clients or the column changed, where those at rest are so still and the attempts are
pub tasks_more : (c new : ColumnState) (old callers : List Caller) → length c.link ≤ length new.link →
    ((n : ℕ) → RestsAt n old → RestsAt n callers) → ((id : TxnId) → IsGoing c id → IsGoing new id) → ((id : TxnId) → IsLive c id → IsLive new id) →
    ((id : TxnId) → IsUnsent c id → IsUnsent new id) → (tasks : List Task) → TasksFit c old tasks → TasksFit new callers tasks
tasks_more c new old callers g r going live unsent [] h = tt
tasks_more c new old callers g r going live unsent (Fetch id ∷ tasks) h = h
tasks_more c new old callers g r going live unsent (Reach id AfterRead ∷ tasks) h =
    (((live id h.0.0.0, unsent id h.0.0.1), r id.client h.0.1), behind_more (length c.link) (length new.link) g tasks h.1)
tasks_more c new old callers g r going live unsent (Reach id AfterVotes ∷ tasks) h =
    ((live id h.0.0, r id.client h.0.1), behind_more (length c.link) (length new.link) g tasks h.1)
tasks_more c new old callers g r going live unsent (Reach id AfterAccepts ∷ tasks) h =
    ((live id h.0.0, r id.client h.0.1), behind_more (length c.link) (length new.link) g tasks h.1)
tasks_more c new old callers g r going live unsent (Turns place did ∷ tasks) h = behind_more (length c.link) (length new.link) g tasks h
tasks_more c new old callers g r going live unsent (Deliver first end ∷ tasks) h =
    ((h.0.0, (let low = h.0.1 in omega (arith, g, low))), tasks_more c new old callers g r going live unsent tasks h.1)
tasks_more c new old callers g r going live unsent (DeliverSince sent ∷ tasks) h = tasks_more c new old callers g r going live unsent tasks h
tasks_more c new old callers g r going live unsent (Take number ∷ tasks) h =
    ((h.0.0, (let low = h.0.1 in omega (arith, g, low))), tasks_more c new old callers g r going live unsent tasks h.1)
tasks_more c new old callers g r going live unsent (Notice id ∷ tasks) h = tasks_more c new old callers g r going live unsent tasks h
tasks_more c new old callers g r going live unsent (Resume id ∷ tasks) h = tasks_more c new old callers g r going live unsent tasks h
tasks_more c new old callers g r going live unsent (Takeover id view ∷ tasks) h = tasks_more c new old callers g r going live unsent tasks h
tasks_more c new old callers g r going live unsent (Late ∷ tasks) h = tasks_more c new old callers g r going live unsent tasks h
tasks_more c new old callers g r going live unsent (Settle id ∷ tasks) h = tasks_more c new old callers g r going live unsent tasks h
tasks_more c new old callers g r going live unsent (SettleTakeover id view ∷ tasks) h = tasks_more c new old callers g r going live unsent tasks h

-- ---- clients

-- clients that keep their number and their attempt under way
pub callers_same : (c : ColumnState) (p : Caller → Bool) (f : Caller → Caller) → ((x : Caller) → (f x).number ≡ x.number) → ((x : Caller) → (f x).under_way ≡ x.under_way) →
    (xs : List Caller) → Each (CallerFits c) xs → Each (CallerFits c) (change p f xs)
callers_same c p f n u xs h =
    Each-change p f (CallerFits c)
    (λ x t k. subst (λ (m : ℕ). UnderWayFits c m (f x).under_way) (sym (n x)) (subst (λ (s : Option Stage). UnderWayFits c x.number s) (sym (u x)) k)) xs h

pub rests_same : (m : ℕ) (p : Caller → Bool) (f : Caller → Caller) → ((x : Caller) → (f x).number ≡ x.number) → ((x : Caller) → (f x).under_way ≡ x.under_way) →
    (xs : List Caller) → RestsAt m xs → RestsAt m (change p f xs)
rests_same m p f n u xs h = Each-change p f (Rests m) (λ x t k e. u x ∙ k (sym (n x) ∙ e)) xs h

pub numbers_same : (p : Caller → Bool) (f : Caller → Caller) → ((x : Caller) → (f x).number ≡ x.number) → (xs : List Caller) → numbers_of (change p f xs) ≡ numbers_of xs
numbers_same p f n [] = refl
numbers_same p f n (x ∷ xs) = head (p x) (numbers_same p f n xs)
  where
    head : (b : Bool) → numbers_of (change p f xs) ≡ numbers_of xs → (if b then f x else x).number ∷ numbers_of (change p f xs) ≡ x.number ∷ numbers_of xs
    head true e = λ i. n x i ∷ e i
    head false e = λ i. x.number ∷ e i

-- the client of this number rests
pub rests_left : (n : ℕ) (xs : List Caller) → RestsAt n (change (is_caller n) resting xs)
rests_left n [] = tt
rests_left n (x ∷ xs) = (head (is_caller n x) refl, rests_left n xs)
  where
    head : (b : Bool) → is_caller n x ≡ b → Rests n (if b then resting x else x)
    head true e = λ q. refl
    head false e = λ q. absurd (apart q e)
      where
        apart : x.number ≡ n → (x.number == n) ≡ false → ⊥
        apart q z = let w : (x.number == n) ≡ true = grind (arith, nat_tests, q) in cc (sym w ∙ z)

pub callers_left : (c : ColumnState) (n : ℕ) (xs : List Caller) → Each (CallerFits c) xs → Each (CallerFits c) (change (is_caller n) resting xs)
callers_left c n xs h = Each-change (is_caller n) resting (CallerFits c) (λ x t k. tt) xs h

-- where the client rests whose attempt is this
pub callers_at : (c : ColumnState) (stage : Stage) (xs : List Caller) → StageFits c stage.id stage.reached → Each (CallerFits c) xs →
    Each (CallerFits c) (change (is_caller stage.id.client) (at_stage stage) xs)
callers_at c stage xs s h = Each-change (is_caller stage.id.client) (at_stage stage) (CallerFits c) (λ x t k. (own x t, s)) xs h
  where
    own : (x : Caller) → is_caller stage.id.client x ≡ true → stage.id.client ≡ x.number
    own x t = grind (arith, nat_tests, t)

pub each_numbers : (P : ℕ → Type 0) (xs : List Caller) → Each P (numbers_of xs) → Each (λ (x : Caller). P x.number) xs
each_numbers P [] h = tt
each_numbers P (x ∷ xs) h = (h.0, each_numbers P xs h.1)

pub caller_at : (c : ColumnState) (xs : List Caller) (place : ℕ) (x : Caller) → Each (CallerFits c) xs → slice_get xs place ≡ Some x → CallerFits c x
caller_at c xs place x h e = member-slice_get (CallerFits c) xs place x h e

-- the client at this place rests, and there is no other of its number
pub rests_there : (xs : List Caller) (place : ℕ) (x : Caller) → IsRising (numbers_of xs) → slice_get xs place ≡ Some x → x.under_way ≡ None → RestsAt x.number xs
rests_there [] place x r e u = tt
rests_there (y ∷ ys) zero x r e u =
    let same : y ≡ x = cc e in (
      subst (λ (z : Caller). Rests z.number y) same (λ q. ap (λ (z : Caller). z.under_way) same ∙ u),
      Each-weaker (λ (z : Caller). y.number < z.number) (Rests x.number)
          (λ z below q. (let there : y.number ≡ x.number = ap (λ (w : Caller). w.number) same in absurd (omega (arith, below, q, there)))) ys (each_numbers (λ m. y.number < m) ys r.0),
    )
rests_there (y ∷ ys) (suc place) x r e u =
    let below : y.number < x.number = member-slice_get (λ (z : Caller). y.number < z.number) ys place x (each_numbers (λ m. y.number < m) ys r.0) e in
    ((λ q. absurd (omega (arith, below, q))), rests_there ys place x r.1 e u)

-- ---- steps

-- the step leaves the attempt under way of this client alone
abbrev pub Spared : ColumnState → Step → Caller → Type 0
Spared c step caller =
    (stage : Stage) → caller.under_way ≡ Some stage → stage.id.client ≡ caller.number →
    (stops step stage.id ≡ false) × (IsUnsent c stage.id → validates step stage.id ≡ false)

pub callers_kept : (c new : ColumnState) (step : Step) → ((id : TxnId) → stops step id ≡ false → IsLive c id → IsLive new id) →
    ((id : TxnId) → validates step id ≡ false → IsUnsent c id → IsUnsent new id) → (xs : List Caller) → Each (Spared c step) xs → Each (CallerFits c) xs → Each (CallerFits new) xs
callers_kept c new step live unsent [] s h = tt
callers_kept c new step live unsent (x ∷ xs) s h = (head x.under_way s.0 h.0, callers_kept c new step live unsent xs s.1 h.1)
  where
    stage_kept : (id : TxnId) (point : Point) → (stops step id ≡ false) × (IsUnsent c id → validates step id ≡ false) → StageFits c id point → StageFits new id point
    stage_kept id AfterRead z k = (live id z.0 k.0, unsent id (z.1 k.1) k.1)
    stage_kept id AfterVotes z k = live id z.0 k
    stage_kept id AfterAccepts z k = live id z.0 k

    head : (u : Option Stage) →
        ((stage : Stage) → u ≡ Some stage → stage.id.client ≡ x.number → (stops step stage.id ≡ false) × (IsUnsent c stage.id → validates step stage.id ≡ false)) →
        UnderWayFits c x.number u → UnderWayFits new x.number u
    head None z k = tt
    head (Some stage) z k = (k.0, stage_kept stage.id stage.reached (z stage refl k.0) k.1)

-- ---- attempts that read

-- where an attempt reads, its task comes first; and else none reads
abbrev pub WholeFits : ColumnState → DriverState → List Task → Type 0
WholeFits c d (Fetch id ∷ tasks) = FetchFits c d.callers id × OneReads id c × Behind (length c.link) tasks × DriverFits c tasks d
WholeFits c d tasks = NoneReads c × DriverFits c tasks d

pub whole_plain : (c : ColumnState) (tasks : List Task) (d : DriverState) → NoneReads c → DriverFits c tasks d → WholeFits c d tasks
whole_plain c [] d n h = (n, h)
whole_plain c (Fetch id ∷ tasks) d n h = absurd h.tasks_fit
whole_plain c (Reach id point ∷ tasks) d n h = (n, h)
whole_plain c (Turns place did ∷ tasks) d n h = (n, h)
whole_plain c (Deliver first end ∷ tasks) d n h = (n, h)
whole_plain c (DeliverSince sent ∷ tasks) d n h = (n, h)
whole_plain c (Take number ∷ tasks) d n h = (n, h)
whole_plain c (Notice id ∷ tasks) d n h = (n, h)
whole_plain c (Resume id ∷ tasks) d n h = (n, h)
whole_plain c (Takeover id view ∷ tasks) d n h = (n, h)
whole_plain c (Late ∷ tasks) d n h = (n, h)
whole_plain c (Settle id ∷ tasks) d n h = (n, h)
whole_plain c (SettleTakeover id view ∷ tasks) d n h = (n, h)

-- the first task is that of an attempt that reads
pub record FetchFirst (c : ColumnState) (d : DriverState) (tasks : List Task) : Type 0 where
  pub id : TxnId
  pub rest : List Task
  pub first : tasks ≡ Fetch id ∷ rest
  pub fetch : FetchFits c d.callers id
  pub one : OneReads id c
  pub behind : Behind (length c.link) rest
  pub driver : DriverFits c rest d

pub whole_split : (c : ColumnState) (tasks : List Task) (d : DriverState) → WholeFits c d tasks → FetchFirst c d tasks ⊎ (NoneReads c × DriverFits c tasks d)
whole_split c [] d h = inr h
whole_split c (Fetch id ∷ tasks) d h = inl (record { id = id; rest = tasks; first = refl; fetch = h.0; one = h.1; behind = h.2; driver = h.3 })
whole_split c (Reach id point ∷ tasks) d h = inr h
whole_split c (Turns place did ∷ tasks) d h = inr h
whole_split c (Deliver first end ∷ tasks) d h = inr h
whole_split c (DeliverSince sent ∷ tasks) d h = inr h
whole_split c (Take number ∷ tasks) d h = inr h
whole_split c (Notice id ∷ tasks) d h = inr h
whole_split c (Resume id ∷ tasks) d h = inr h
whole_split c (Takeover id view ∷ tasks) d h = inr h
whole_split c (Late ∷ tasks) d h = inr h
whole_split c (Settle id ∷ tasks) d h = inr h
whole_split c (SettleTakeover id view ∷ tasks) d h = inr h
