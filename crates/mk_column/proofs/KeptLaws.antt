-- What a column keeps while an attempt is changed at its place, and while messages, learnings and takeovers are joined.
use Rattle.std.proofs.Common.{◌≡◌, ℕ, ◌+◌, ◌<◌, ◌≤◌, Bool, true, false, cond, refl, sym, ap, subst, ◌∙◌, ◌||◌, ◌&&◌, ◌==◌, List, [], ◌∷◌, length, Option, Some, None, IsSome}
use Rattle.std.specs.Prelude.{map, option_map}
use Rattle.std.specs.List.{list_any}
use Rattle.mk_lists.specs.Among.{Each, Each-weaker}
use Rattle.mk_lists.proofs.Options.{None-from_map}
use Rattle.mk_txn.specs.declared.TxnId.{TxnId}
use Rattle.mk_txn.specs.Transactions.{same_id}
use Rattle.mk_words.specs.declared.Msg.{Msg}
use Rattle.mk_quorum.specs.Sizes.{members}
use Rattle.mk_quorum.specs.Slots.{passes}
use Rattle.mk_trim.specs.SettledAttempts.{SettledAttempts, is_settled as is_kept_settled}
use Rattle.mk_column.specs.declared.clients.Client.{Client}
use Rattle.mk_column.specs.declared.learned.Learned.{Learned}
use Rattle.mk_column.specs.declared.work.Work.{Work as KeptWork}
use Rattle.mk_column.specs.declared.work.Work.TheVariants.{Idle as KeptIdle, Fetching as KeptFetching, Validating as KeptValidating, Finishing as KeptFinishing}
use Rattle.mk_model.specs.ColumnState.{Learning, is_settled}
use Rattle.std.proofs.lemmas.Bool.{false≢true}
use Rattle.std.proofs.lemmas.Option.{none-some}
use Rattle.mk_words.specs.Checks.{KeyAct}
use Rattle.mk_words.specs.Validations.{next_act}
use Rattle.mk_model.specs.ColumnState.{Work}
use Rattle.mk_model.specs.ColumnState.Work.{Idle, Fetching, Validating, Finishing}
use Rattle.mk_model.specs.Replicas.{Held, finishing}
use Rattle.mk_model.specs.Conditions.{is_validate_of, is_idle, wanted, call_at}
use Rattle.mk_column.specs.HeldByCode.{work_of}
use Rattle.mk_column.specs.AttemptsByCode.{BegunView, begun_of, is_begun, change_begun}
use Rattle.mk_column.specs.TakeoversByCode.{BackupView}
use Rattle.mk_column.specs.ClientsByCode.{kept_client}
use Rattle.mk_column.specs.Readings.{may_join}
use Rattle.mk_column.specs.ColumnByCode.{Kept, AttemptFits, ClientFits, IsKept, MayRead, WorkFits, first_decision, learning_of_kept}
use Rattle.mk_column.proofs.ListLaws.{Each-turn, find-change, passes-changed, changed_member, list_any-kept}

-- where no key call is under way, nothing is to be kept of it
pub idle-fits : (n : ℕ) (attempts : List BegunView) (replicas : List Held) (work : KeptWork) → is_idle (work_of work) ≡ true → WorkFits n attempts replicas work
idle-fits n attempts replicas KeptIdle e = tt
idle-fits n attempts replicas (KeptFetching id replica key) e = absurd (cc e)
idle-fits n attempts replicas (KeptValidating txn replica epoch state) e = absurd (cc e)
idle-fits n attempts replicas (KeptFinishing replica left) e = absurd (cc e)

-- where no key call is wanted, none is under way
pub wanted-none : (n : ℕ) (attempts : List BegunView) (replicas : List Held) (work : KeptWork) → WorkFits n attempts replicas work
    → wanted (work_of work) ≡ None → is_idle (work_of work) ≡ true
wanted-none n attempts replicas KeptIdle h e = refl
wanted-none n attempts replicas (KeptFetching id replica key) h e = absurd (none-some _ (sym e))
wanted-none n attempts replicas (KeptValidating txn replica epoch state) h e = by_act (next_act state) h.2 e
  where
    by_act : (o : Option KeyAct) → IsSome o → option_map (call_at replica) o ≡ None → is_idle (Validating txn replica epoch state) ≡ true
    by_act None k none = absurd (false≢true k)
    by_act (Some act) k none = absurd (none-some (call_at replica act) (sym none))
wanted-none n attempts replicas (KeptFinishing replica []) h e = absurd (false≢true h)
wanted-none n attempts replicas (KeptFinishing replica (act ∷ acts)) h e = absurd (none-some (call_at replica act) (sym e))

-- the work is an end at the keys of which an act is left, or none
abbrev Ends : Work → Type 0
Ends Idle = Unit {0}
Ends (Fetching id replica key) = ⊥
Ends (Validating txn replica epoch state) = ⊥
Ends (Finishing replica left) = IsSome (wanted (Finishing replica left))

-- an end at the keys that goes on keeps what it has to
pub finishing-fits : (n : ℕ) (attempts : List BegunView) (replicas : List Held) (r : ℕ) (acts : List KeyAct) (work : KeptWork)
    → work_of work ≡ finishing r acts → WorkFits n attempts replicas work
finishing-fits n attempts replicas r acts work is = by_work work (subst Ends (sym is) (ends acts))
  where
    ends : (left : List KeyAct) → Ends (finishing r left)
    ends [] = tt
    ends (act ∷ left) = refl

    by_work : (w : KeptWork) → Ends (work_of w) → WorkFits n attempts replicas w
    by_work KeptIdle k = tt
    by_work (KeptFetching id replica key) k = absurd k
    by_work (KeptValidating txn replica epoch state) k = absurd k
    by_work (KeptFinishing replica left) k = k

-- where no key call is under way, replicas may change
pub IsKept-reset : (f : ℕ) (kept : Kept) (ends : SettledAttempts) (replicas : List Held) → length replicas ≡ members f
    → wanted (work_of kept.work) ≡ None → IsKept f kept ends → IsKept f (record kept { replicas = replicas }) ends
IsKept-reset f kept ends replicas long none h =
    record {
      replicas = long;
      attempts = h.attempts;
      takeovers = h.takeovers;
      clients = h.clients;
      sent = h.sent;
      settled = h.settled;
      decisions = h.decisions;
      validates = h.validates;
      homes = h.homes;
      takers = h.takers;
      work = idle-fits (members f) kept.attempts replicas kept.work (wanted-none (members f) kept.attempts kept.replicas kept.work h.work none);
    }

-- a change that leaves an attempt's number and whether it reads
pub record KeepsPlace (g : BegunView → BegunView) : Type 0 where
  pub id : (b : BegunView) → (g b).state.id ≡ b.state.id
  pub reading : (b : BegunView) → (g b).state.reading ≡ b.state.reading

-- a change that leaves what an attempt read
abbrev pub KeepsReads : (BegunView → BegunView) → Type 0
KeepsReads g = (b : BegunView) → (g b).state.reads ≡ b.state.reads

module _ (id : TxnId) (g : BegunView → BegunView) (keeps : KeepsPlace g) where
  -- what is found after the change is what was found, changed where it is the attempt
  pub begun-turned : (other : TxnId) (all : List BegunView)
      → begun_of other (change_begun id g all) ≡ option_map (changed_member (is_begun id) g) (begun_of other all)
  begun-turned other all = find-change (is_begun id) g (is_begun other) (λ b. ap (λ i. same_id i other) (keeps.id b)) all

  pub none-before : (other : TxnId) (all : List BegunView) → begun_of other (change_begun id g all) ≡ None → begun_of other all ≡ None
  none-before other all e = None-from_map (changed_member (is_begun id) g) (begun_of other all) (sym (begun-turned other all) ∙ e)

  pub some-after : (other : TxnId) (all : List BegunView) → IsSome (begun_of other all) → IsSome (begun_of other (change_begun id g all))
  some-after other all h = subst IsSome (sym (begun-turned other all)) (by_found (begun_of other all) h)
    where
      by_found : (o : Option BegunView) → IsSome o → IsSome (option_map (changed_member (is_begun id) g) o)
      by_found None e = absurd (cc e)
      by_found (Some b) e = refl

  -- a client keeps what it keeps
  client-turned : (all : List BegunView) (client : Client) → ClientFits all client → ClientFits (change_begun id g all) client
  client-turned all client h =
      let reads = λ (b : BegunView). b.state.reading && b.state.id.client == client.number in
      record {
        reading =
            h.reading
            ∙ sym (list_any-kept (is_begun id) g reads (λ b. ap (λ r. r && (g b).state.id.client == client.number) (keeps.reading b) ∙ ap (λ i. b.state.reading && i.client == client.number) (keeps.id b)) all);
        last_time = h.last_time;
        next_seq =
            Each-turn (is_begun id) g _ _ (λ b t fits. subst (λ i. i.client ≡ client.number → i.seq < client.next_seq) (sym (keeps.id b)) fits)
            (λ b t fits. fits) all h.next_seq;
        last =
            Each-turn (is_begun id) g _ _
            (λ b t fits. subst (λ i. i.client ≡ client.number → (g b).state.reading ≡ true → i.seq + 1 ≡ client.next_seq) (sym (keeps.id b)) (λ of reads. fits of (sym (keeps.reading b) ∙ reads)))
            (λ b t fits. fits) all h.last;
      }

  clients-turned : (all : List BegunView) (clients : List Client) → Each (ClientFits all) clients → Each (ClientFits (change_begun id g all)) clients
  clients-turned all clients h = Each-weaker (ClientFits all) (ClientFits (change_begun id g all)) (client-turned all) clients h

  -- what may be read may be read after a change that leaves what was read
  room-after : KeepsReads g → (key : ℕ) (other : TxnId) (all : List BegunView) → MayRead key (begun_of other all)
      → MayRead key (begun_of other (change_begun id g all))
  room-after same key other all h = subst (MayRead key) (sym (begun-turned other all)) (by_found (begun_of other all) h)
    where
      by_test : (t : Bool) (b : BegunView) → may_join key b.state.reads ≡ true → may_join key (cond t (g b) b).state.reads ≡ true
      by_test true b room = ap (may_join key) (same b) ∙ room
      by_test false b room = room

      by_found : (o : Option BegunView) → MayRead key o → MayRead key (option_map (changed_member (is_begun id) g) o)
      by_found None room = room
      by_found (Some b) room = by_test (is_begun id b) b room

  -- the key calls keep what they keep
  pub work-turned : KeepsReads g → (n : ℕ) (all : List BegunView) (replicas : List Held) (work : KeptWork) → WorkFits n all replicas work
      → WorkFits n (change_begun id g all) replicas work
  work-turned same n all replicas KeptIdle h = tt
  work-turned same n all replicas (KeptFetching other replica key) h = room-after same key other all h
  work-turned same n all replicas (KeptValidating txn replica epoch state) h = h
  work-turned same n all replicas (KeptFinishing replica left) h = h

  -- what is to be shown of a changed attempt, of the others, of the key calls, and of what was sent, learned and settled
  pub record Turned (f : ℕ) (kept : Kept) (link : List Msg) (learned : List Learning) (ends : SettledAttempts) : Type 0 where
    pub here : (b : BegunView) → is_begun id b ≡ true → AttemptFits f kept.link (map learning_of_kept kept.learned) b → AttemptFits f link learned (g b)
    pub other : (b : BegunView) → is_begun id b ≡ false → AttemptFits f kept.link (map learning_of_kept kept.learned) b → AttemptFits f link learned b
    pub sent : Each (λ (msg : Msg). msg.replica < members f) link
    pub work : WorkFits (members f) (change_begun id g kept.attempts) kept.replicas kept.work
    pub settled : (q : TxnId)
        → is_kept_settled ends q ≡ ((q.seq == 0) || passes (λ (begun : BegunView). is_settled begun.state) (begun_of q (change_begun id g kept.attempts)))
    pub decisions : (q : TxnId) → begun_of q kept.attempts ≡ None → first_decision learned q ≡ None
    pub validates : (q : TxnId) → begun_of q kept.attempts ≡ None → list_any (is_validate_of q) link ≡ false

  -- a column keeps what it keeps when an attempt is changed
  pub IsKept-turned : (f : ℕ) (kept : Kept) (old ends : SettledAttempts) (attempts : List BegunView) (link : List Msg) (learned : List Learned)
      → attempts ≡ change_begun id g kept.attempts → Turned f kept link (map learning_of_kept learned) ends → IsKept f kept old
      → IsKept f (record kept { attempts = attempts; link = link; learned = learned }) ends
  IsKept-turned f kept old ends attempts link learned is t h =
      subst (λ all. IsKept f (record kept { attempts = all; link = link; learned = learned }) ends) (sym is)
      (record {
        replicas = h.replicas;
        attempts =
            Each-turn (is_begun id) g (AttemptFits f kept.link (map learning_of_kept kept.learned))
            (AttemptFits f link (map learning_of_kept learned)) t.here t.other kept.attempts h.attempts;
        takeovers = h.takeovers;
        clients = clients-turned kept.attempts kept.clients h.clients;
        sent = t.sent;
        settled = t.settled;
        decisions = λ q none. t.decisions q (none-before q kept.attempts none);
        validates = λ q none. t.validates q (none-before q kept.attempts none);
        homes =
            Each-turn (is_begun id) g _ _ (λ b e there. subst (λ i. IsSome (kept_client i.client kept.clients)) (sym (keeps.id b)) there)
            (λ b e there. there) kept.attempts h.homes;
        work = t.work;
        takers =
            Each-weaker (λ (backup : BackupView). IsSome (begun_of backup.of.id kept.attempts))
            (λ (backup : BackupView). IsSome (begun_of backup.of.id (change_begun id g kept.attempts)))
            (λ backup k. some-after backup.of.id kept.attempts k) kept.takeovers h.takers;
      })

  -- a settling that stays is found as before
  pub settled-turned : (ends : SettledAttempts) (all : List BegunView) → ((b : BegunView) → is_settled (g b).state ≡ is_settled b.state)
      → ((q : TxnId) → is_kept_settled ends q ≡ ((q.seq == 0) || passes (λ (begun : BegunView). is_settled begun.state) (begun_of q all)))
      → (q : TxnId) → is_kept_settled ends q ≡ ((q.seq == 0) || passes (λ (begun : BegunView). is_settled begun.state) (begun_of q (change_begun id g all)))
  settled-turned ends all same h q =
      h q
      ∙ ap (λ b. (q.seq == 0) || b) (sym (ap (passes (λ (begun : BegunView). is_settled begun.state)) (begun-turned q all) ∙ passes-changed (is_begun id) g (λ begun. is_settled begun.state) same (begun_of q all)))

-- a change that leaves all that is kept of an attempt
pub record IsGentle (g : BegunView → BegunView) : Type 0 where
  pub place : KeepsPlace g
  pub faults : (b : BegunView) → (g b).faults ≡ b.faults
  pub validated : (b : BegunView) → (g b).validated ≡ b.validated
  pub decided : (b : BegunView) → (g b).decided ≡ b.decided
  pub txn : (b : BegunView) → (g b).state.txn ≡ b.state.txn

-- what is kept of an attempt stays, whatever else is changed of it
pub fits-gentle : (f : ℕ) (link : List Msg) (learned : List Learning) (g : BegunView → BegunView) (b : BegunView) → IsGentle g → AttemptFits f link learned b
    → AttemptFits f link learned (g b)
fits-gentle f link learned g b gentle h =
    record {
      faults = gentle.faults b ∙ h.faults;
      validated = gentle.validated b ∙ h.validated ∙ ap (λ i. list_any (is_validate_of i) link) (sym (gentle.place.id b));
      decided = gentle.decided b ∙ h.decided ∙ ap (first_decision learned) (sym (gentle.place.id b));
      named = λ txn e. h.named txn (sym (gentle.txn b) ∙ e) ∙ sym (gentle.place.id b);
      acts = λ txn e. h.acts txn (sym (gentle.txn b) ∙ e);
      unstamped = λ reads. gentle.txn b ∙ h.unstamped (sym (gentle.place.reading b) ∙ reads);
      seq = subst (λ i. i.seq ≤ 16384) (sym (gentle.place.id b)) h.seq;
    }

-- a column keeps what it keeps when an attempt is changed gently, where the key calls do
pub IsKept-changed : (f : ℕ) (id : TxnId) (g : BegunView → BegunView) (kept : Kept) (ends : SettledAttempts) (attempts : List BegunView) → IsGentle g
    → ((b : BegunView) → is_settled (g b).state ≡ is_settled b.state)
    → WorkFits (members f) (change_begun id g kept.attempts) kept.replicas kept.work → attempts ≡ change_begun id g kept.attempts → IsKept f kept ends
    → IsKept f (record kept { attempts = attempts }) ends
IsKept-changed f id g kept ends attempts gentle same work is h =
    IsKept-turned id g gentle.place f kept ends ends attempts kept.link kept.learned is
    (record {
      here = λ b e fits. fits-gentle f kept.link (map learning_of_kept kept.learned) g b gentle fits;
      other = λ b e fits. fits;
      sent = h.sent;
      work = work;
      settled = settled-turned id g gentle.place ends kept.attempts same h.settled;
      decisions = h.decisions;
      validates = h.validates;
    })
    h

-- the same where the change leaves what the attempt read, so that the key calls keep what they keep
pub IsKept-gentle : (f : ℕ) (id : TxnId) (g : BegunView → BegunView) (kept : Kept) (ends : SettledAttempts) (attempts : List BegunView) → IsGentle g
    → KeepsReads g → ((b : BegunView) → is_settled (g b).state ≡ is_settled b.state)
    → attempts ≡ change_begun id g kept.attempts → IsKept f kept ends → IsKept f (record kept { attempts = attempts }) ends
IsKept-gentle f id g kept ends attempts gentle reads same is h =
    IsKept-changed f id g kept ends attempts gentle same (work-turned id g gentle.place reads (members f) kept.attempts kept.replicas kept.work h.work) is h
