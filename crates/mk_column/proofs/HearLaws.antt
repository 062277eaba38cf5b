-- What a column keeps when an own coordinator takes an answer.
use Rattle.std.proofs.Common.{◌≡◌, ◌<◌, ℕ, Bool, true, false, cond, refl, sym, subst, ap, ◌∙◌, List, [], ◌∷◌, ◌++◌, Option, Some, None, ◌&&◌, ◌==◌}
use Rattle.std.specs.Prelude.{option_map, not, Result, Ok, Err, OnOk, IsSome, IsSomeAnd, if◌then◌else◌}
use Rattle.std.specs.Option.{option_or}
use Rattle.std.proofs.lemmas.Bool.{false≢true}
use Rattle.std.proofs.lemmas.List.{append-nil}
use Rattle.mk_lists.specs.Among.{Each, Each-weaker}
use Rattle.mk_lists.specs.Changed.{change}
use Rattle.mk_lists.proofs.EachMember.{Each-find}
use Rattle.mk_txn.specs.declared.TxnId.{TxnId}
use Rattle.mk_txn.specs.declared.Outcome.{Outcome}
use Rattle.mk_quorum.specs.Sizes.{members}
use Rattle.mk_quorum.specs.Slots.{passes}
use Rattle.mk_trim.specs.SettledAttempts.{SettledAttempts}
use Rattle.mk_words.specs.Links.{goes_to_replica}
use Rattle.mk_words.specs.declared.Msg.{Msg}
use Rattle.mk_words.specs.declared.Told.{Told}
use Rattle.mk_words.specs.declared.Body.{Body}
use Rattle.mk_words.specs.declared.Body.TheVariants.{Validate as ValidateBody, Voted, Accept, Accepted as AcceptedBody, Decide, Ask, Told as ToldBody, Moved as MovedBody}
use Rattle.mk_column.specs.declared.clients.Client.{Client}
use Rattle.mk_column.specs.ClientsByCode.{client_state, client_states, kept_client, change_kept, client_heard}
use Rattle.mk_model.specs.ColumnState.{Setting, ColumnState, AttemptState, ClientState, Learning, Way, is_settled, attempt_of, is_attempt, is_client, takeover_of, change_client, change_attempt}
use Rattle.mk_model.specs.ColumnState.Way.{ByMoved, ByTelling}
use Rattle.mk_model.specs.Answers.{listens, heard_of, moved_outcome, attempt_answered, own_answered, takeover_heard, is_led, answer_taken}
use Rattle.mk_model.specs.Learnings.{learning_of, by_message, is_heard}
use Rattle.mk_column.specs.StepsByCode.{taught_where, taught_in, heard_at, heard_taken, counts}
use Rattle.mk_column.specs.AttemptsByCode.{BegunView, on_state, begun_of, is_begun}
use Rattle.mk_column.specs.ColumnByCode.{Kept, IsKept, AttemptFits, ClientFits}
use Rattle.mk_column.proofs.ListLaws.{Each-turn, find-change, map-change, changed_member}
use Rattle.mk_column.proofs.KeptLaws.{IsGentle, KeepsReads}

-- what changes nothing of a member changes nothing of the list
pub change-same : {X : Type 0} (p : X → Bool) (f : X → X) → ((x : X) → f x ≡ x) → (xs : List X) → change p f xs ≡ xs
change-same p f same [] = refl
change-same p f same (x ∷ xs) = ap (λ y. y ∷ change p f xs) (by_test (p x)) ∙ ap (λ ys. x ∷ ys) (change-same p f same xs)
  where
    by_test : (b : Bool) → cond b (f x) x ≡ x
    by_test true = same x
    by_test false = refl

-- ---- a vote or an accept

pub count-gentle : (r : ℕ) (body : Body) → counts body ≡ true → IsGentle (on_state (attempt_answered r body))
count-gentle r (Voted vote) e =
    record { place = record { id = λ b. refl; reading = λ b. refl }; faults = λ b. refl; validated = λ b. refl; decided = λ b. refl; txn = λ b. refl }
count-gentle r AcceptedBody e =
    record { place = record { id = λ b. refl; reading = λ b. refl }; faults = λ b. refl; validated = λ b. refl; decided = λ b. refl; txn = λ b. refl }
count-gentle r (ValidateBody mark) e = absurd (false≢true e)
count-gentle r (Accept outcome) e = absurd (false≢true e)
count-gentle r (Decide outcome) e = absurd (false≢true e)
count-gentle r Ask e = absurd (false≢true e)
count-gentle r (ToldBody told) e = absurd (false≢true e)
count-gentle r (MovedBody moved) e = absurd (false≢true e)

pub count-reads : (r : ℕ) (body : Body) → counts body ≡ true → KeepsReads (on_state (attempt_answered r body))
count-reads r (Voted vote) e b = refl
count-reads r AcceptedBody e b = refl
count-reads r (ValidateBody mark) e b = refl
count-reads r (Accept outcome) e b = refl
count-reads r (Decide outcome) e b = refl
count-reads r Ask e b = refl
count-reads r (ToldBody told) e b = absurd (false≢true e)
count-reads r (MovedBody moved) e b = absurd (false≢true e)

pub count-settled : (r : ℕ) (body : Body) → counts body ≡ true → (b : BegunView) → is_settled (on_state (attempt_answered r body) b).state ≡ is_settled b.state
count-settled r (Voted vote) e b = refl
count-settled r AcceptedBody e b = refl
count-settled r (ValidateBody mark) e b = refl
count-settled r (Accept outcome) e b = refl
count-settled r (Decide outcome) e b = refl
count-settled r Ask e b = refl
count-settled r (ToldBody told) e b = absurd (false≢true e)
count-settled r (MovedBody moved) e b = absurd (false≢true e)

pub count-there : (f : ℕ) (link : List Msg) (learned : List Learning) (id : TxnId) (r : ℕ) (all : List BegunView) → Each (AttemptFits f link learned) all
    → IsSome (begun_of id all) → r < members f → IsSomeAnd (begun_of id all) (λ begun. r < members begun.faults)
count-there f link learned id r all h there within = by_found (begun_of id all) refl there
  where
    by_found : (o : Option BegunView) → begun_of id all ≡ o → IsSome o → IsSomeAnd o (λ begun. r < members begun.faults)
    by_found None found k = absurd (false≢true k)
    by_found (Some b) found k = subst (λ n. r < members n) (sym (Each-find (AttemptFits f link learned) (is_begun id) all b h found).faults) within

-- ---- a client that hears

pub IsKept-heard : (f : ℕ) (kept : Kept) (ends : SettledAttempts) (n epoch : ℕ) (clients : List Client)
    → clients ≡ change_kept n (client_heard epoch) kept.clients → IsKept f kept ends → IsKept f (record kept { clients = clients }) ends
IsKept-heard f kept ends n epoch clients is h =
    let home : (m : ℕ) → IsSome (kept_client m kept.clients) → IsSome (kept_client m clients) =
    λ m k. subst (λ cs. IsSome (kept_client m cs)) (sym is) (home-heard m kept.clients k) in
    record {
      replicas = h.replicas;
      attempts = h.attempts;
      takeovers = h.takeovers;
      clients = subst (Each (ClientFits kept.attempts)) (sym is)
          (Each-turn (λ (c : Client). c.number == n) (client_heard epoch) (ClientFits kept.attempts) (ClientFits kept.attempts) (λ c e k. record { reading = k.reading; last_time = k.last_time; next_seq = k.next_seq; last = k.last }) (λ c e k. k) kept.clients h.clients);
      sent = h.sent;
      settled = h.settled;
      decisions = h.decisions;
      validates = h.validates;
      homes =
          Each-weaker (λ (b : BegunView). IsSome (kept_client b.state.id.client kept.clients))
          (λ (b : BegunView). IsSome (kept_client b.state.id.client clients)) (λ b k. home b.state.id.client k) kept.attempts h.homes;
      work = h.work;
      takers = h.takers;
    }
  where
    home-heard : (m : ℕ) (cs : List Client) → IsSome (kept_client m cs) → IsSome (kept_client m (change_kept n (client_heard epoch) cs))
    home-heard m cs k =
        subst IsSome (sym (find-change (λ (c : Client). c.number == n) (client_heard epoch) (λ (c : Client). c.number == m) (λ c. refl) cs))
        (from (kept_client m cs) k)
      where
        from : (o : Option Client) → IsSome o → IsSome (option_map (changed_member (λ (c : Client). c.number == n) (client_heard epoch)) o)
        from None j = absurd (false≢true j)
        from (Some c) j = refl

pub clients-heard : (n epoch : ℕ) (all : List Client)
    → client_states (change_kept n (client_heard epoch) all) ≡ change (is_client n) (heard_at epoch) (client_states all)
clients-heard n epoch all =
    map-change (λ (c : Client). c.number == n) (client_heard epoch) (is_client n) (heard_at epoch) client_state (λ c. refl) (λ c. refl) all

-- ---- as the definitions have it

or_none : (o : Option Outcome) → option_or o None ≡ o
or_none None = refl
or_none (Some x) = refl

pub untaught-state : (id : TxnId) (way : Way) (column : ColumnState) → column ≡ taught_in id way None column
untaught-state id way column =
    λ i. record column {
      attempts =
          sym
          (change-same (is_attempt id) (taught_where None) (λ a. ap (λ o. record a { coord = record a.coord { learned = o } }) (or_none a.coord.learned)) column.attempts) i;
      learned = sym (append-nil column.learned) i;
    }

-- what an answer teaches an own coordinator that listens
abbrev pub teaches : TxnId → Body → List Learning
teaches id (ToldBody told) = learning_of id ByTelling told.last
teaches id (MovedBody moved) = learning_of id (ByMoved moved.to) (moved_outcome moved)
teaches id _ = []

heard-own : (round : Setting) (column : ColumnState) (msg : Msg) (b : Bool) → (msg.view == 0) ≡ true → listens (attempt_of column msg.id) ≡ b
    → is_heard round column msg ≡ b
heard-own round column msg b own hears =
    ap
    (λ t. if t then listens (attempt_of column msg.id) else (is_led round msg.epoch msg.view && passes (λ t. not t.closed) (takeover_of column msg.id msg.view))) own
    ∙ hears

-- one that listens
pub own-state : (round : Setting) (column : ColumnState) (msg : Msg) → (msg.view == 0) ≡ true → listens (attempt_of column msg.id) ≡ true → (body : Body)
    → goes_to_replica body ≡ false → msg.body ≡ body
    → record (change_client msg.id.client (heard_of body) (change_attempt msg.id (attempt_answered msg.replica body) column)) { learned = column.learned ++ teaches msg.id body } ≡ heard_taken round msg column
own-state round column msg own hears body goes is =
    let takes : answer_taken round msg column ≡ change_client msg.id.client (heard_of body) (change_attempt msg.id (attempt_answered msg.replica body) column) =
    ap (λ b. if b then own_answered msg column else takeover_heard round msg column) own
    ∙ ap (λ b. if b then change_client msg.id.client (heard_of msg.body) (change_attempt msg.id (attempt_answered msg.replica msg.body) column) else column) hears
    ∙ ap (λ said. change_client msg.id.client (heard_of said) (change_attempt msg.id (attempt_answered msg.replica said) column)) is in
    (λ i. record (change_client msg.id.client (heard_of body) (change_attempt msg.id (attempt_answered msg.replica body) column)) { learned = column.learned ++ (learns body goes ∙ ap (by_message round column msg) (sym is)) i })
    ∙ sym (ap (λ (col : ColumnState). record col { learned = column.learned ++ by_message round column msg msg.body }) takes)
  where
    learns : (said : Body) → goes_to_replica said ≡ false → teaches msg.id said ≡ by_message round column msg said
    learns (ToldBody told) e = sym (ap (λ t. if t then learning_of msg.id ByTelling told.last else []) (heard-own round column msg true own hears))
    learns (MovedBody moved) e =
        sym (ap (λ t. if t then learning_of msg.id (ByMoved moved.to) (moved_outcome moved) else []) (heard-own round column msg true own hears))
    learns (Voted vote) e = refl
    learns AcceptedBody e = refl
    learns (ValidateBody mark) e = refl
    learns (Accept outcome) e = refl
    learns (Decide outcome) e = absurd (false≢true (sym e))
    learns Ask e = refl

-- what no client hears changes no client
pub unheard-state : (n : ℕ) (clients : List ClientState) → change (is_client n) (λ (c : ClientState). c) clients ≡ clients
unheard-state n clients = change-same (is_client n) (λ (c : ClientState). c) (λ c. refl) clients

quiet-own : (id : TxnId) (n : ℕ) (g : AttemptState → AttemptState) (column : ColumnState) (before after : List Learning) (body : Body)
    → ((c : ClientState) → heard_of body c ≡ c) → before ≡ after
    → record (change_attempt id g column) { learned = before } ≡ record (change_client n (heard_of body) (change_attempt id g column)) { learned = after }
quiet-own id n g column before after body same learns =
    λ i. record (change_attempt id g column) { clients = sym (change-same (is_client n) (heard_of body) same column.clients) i; learned = learns i }

-- an own coordinator that is told
pub told-own : (round : Setting) (column : ColumnState) (msg : Msg) → (msg.view == 0) ≡ true → listens (attempt_of column msg.id) ≡ true → (told : Told)
    → msg.body ≡ ToldBody told
    → taught_in msg.id ByTelling told.last column ≡ heard_taken round msg column
told-own round column msg own hears told is =
    quiet-own msg.id msg.id.client (taught_where told.last) column (column.learned ++ learning_of msg.id ByTelling told.last)
    (column.learned ++ learning_of msg.id ByTelling told.last) (ToldBody told) (λ c. refl) refl
    ∙ own-state round column msg own hears (ToldBody told) refl is

counts-quiet : (body : Body) → counts body ≡ true → (c : ClientState) → heard_of body c ≡ c
counts-quiet (Voted vote) e c = refl
counts-quiet AcceptedBody e c = refl
counts-quiet (ValidateBody mark) e c = refl
counts-quiet (Accept outcome) e c = refl
counts-quiet (Decide outcome) e c = refl
counts-quiet Ask e c = refl
counts-quiet (ToldBody told) e c = refl
counts-quiet (MovedBody moved) e c = absurd (false≢true e)

counts-nothing : (id : TxnId) (body : Body) → counts body ≡ true → teaches id body ≡ []
counts-nothing id (Voted vote) e = refl
counts-nothing id AcceptedBody e = refl
counts-nothing id (ValidateBody mark) e = refl
counts-nothing id (Accept outcome) e = refl
counts-nothing id (Decide outcome) e = refl
counts-nothing id Ask e = refl
counts-nothing id (ToldBody told) e = absurd (false≢true e)
counts-nothing id (MovedBody moved) e = absurd (false≢true e)

-- an own coordinator that counts
pub counted-own : (round : Setting) (column : ColumnState) (msg : Msg) → (msg.view == 0) ≡ true → listens (attempt_of column msg.id) ≡ true
    → goes_to_replica msg.body ≡ false → counts msg.body ≡ true
    → change_attempt msg.id (attempt_answered msg.replica msg.body) column ≡ heard_taken round msg column
counted-own round column msg own hears goes counted =
    quiet-own msg.id msg.id.client (attempt_answered msg.replica msg.body) column column.learned (column.learned ++ teaches msg.id msg.body) msg.body
    (counts-quiet msg.body counted)
    (sym (append-nil column.learned) ∙ ap (λ all. column.learned ++ all) (sym (counts-nothing msg.id msg.body counted)))
    ∙ own-state round column msg own hears msg.body goes refl

-- what holds where a call answers Ok, as it follows
pub ok-then : {T E : Type 0} (r : Result T E) (P Q : Type 0) → (P → Q) → OnOk r P → OnOk r Q
ok-then (Ok x) P Q f h = f h
ok-then (Err x) P Q f h = tt
