-- What a column keeps when a key call is answered or a replica takes a message.
use Rattle.std.proofs.Common.{◌≡◌, ◌<◌, ℕ, zero, suc, true, false, refl, sym, subst, ap, ◌∙◌, List, [], ◌∷◌, ◌++◌, Option, Some, None, ◌||◌, length, get_or, arith}
use Rattle.std.specs.Prelude.{find, map, option_map, slice_set, slice_index_or, IsSomeAnd}
use Rattle.std.specs.List.{list_any}
use Rattle.std.proofs.lemmas.List.{map-set, append-nil}
use Rattle.std.proofs.lemmas.List.Folds.{list_any-append}
use Rattle.std.proofs.Math.Seq.{map-set_same}
use Rattle.std.proofs.lemmas.Bool.{false≢true}
use Rattle.std.proofs.lemmas.Option.{same_Some, none-some}
use Rattle.std.proofs.Math.Bool.{or-false}
use Rattle.mk_lists.specs.Among.{Each, Each-append, Each-weaker}
use Rattle.mk_txn.specs.declared.TxnId.{TxnId}
use Rattle.mk_txn.specs.declared.ReadItem.{ReadItem}
use Rattle.mk_txn.specs.declared.Vote.{Vote}
use Rattle.mk_txn.specs.Transactions.{Transaction}
use Rattle.mk_words.specs.Entries.{change_entry, with_vote}
use Rattle.mk_words.specs.declared.Answer.{Answer}
use Rattle.mk_words.specs.declared.Msg.{Msg}
use Rattle.mk_words.specs.Checks.{KeyAct}
use Rattle.mk_words.specs.Validations.{ValidationState, next_act, after_answer, vote_of, vote_unless_left}
use Rattle.mk_quorum.specs.Sizes.{members}
use Rattle.mk_trim.specs.SettledAttempts.{SettledAttempts}
use Rattle.mk_column.specs.declared.work.Work.{Work as KeptWork}
use Rattle.mk_column.specs.declared.work.Work.TheVariants.{Idle as KeptIdle, Fetching as KeptFetching, Validating as KeptValidating}
use Rattle.mk_model.specs.ColumnState.{Setting, ColumnState, AttemptState, Learning, attempt_of, is_attempt, entries_at}
use Rattle.mk_model.specs.ColumnState.Work.{Fetching}
use Rattle.mk_words.specs.declared.Step.TheVariants.{Read}
use Rattle.mk_model.specs.Replicas.{Held}
use Rattle.mk_column.specs.HeldByCode.{work_of}
use Rattle.mk_quorum.specs.Slots.{passes}
use Rattle.mk_model.specs.Conditions.{is_validate_of, may_read}
use Rattle.mk_model.specs.Steps.{answered, validated, voted_msg, on_some, column_after}
use Rattle.mk_column.specs.AttemptsByCode.{BegunView, begun_of, change_begun, on_state, states_of}
use Rattle.mk_column.specs.ColumnByCode.{Kept, IsKept, AttemptFits, MayRead, WorkFits, learning_of_kept, column_of}
use Rattle.mk_column.proofs.ColumnLaws.{attempt-found}
use Rattle.mk_column.proofs.KeptLaws.{IsGentle, IsKept-changed}

-- key calls that begin leave what the column keeps, where what is to be kept of them is there
pub IsKept-worked : (f : ℕ) (kept : Kept) (ends : SettledAttempts) (work : KeptWork) → IsKept f kept ends
    → WorkFits (members f) kept.attempts kept.replicas work → IsKept f (record kept { work = work }) ends
IsKept-worked f kept ends work h fits =
    record {
      replicas = h.replicas;
      attempts = h.attempts;
      takeovers = h.takeovers;
      clients = h.clients;
      sent = h.sent;
      settled = h.settled;
      decisions = h.decisions;
      validates = h.validates;
      homes = h.homes;
      takers = h.takers;
      work = fits;
    }

-- key calls that are over leave nothing to be kept of them
pub IsKept-idle : (f : ℕ) (kept : Kept) (ends : SettledAttempts) → IsKept f kept ends → IsKept f (record kept { work = KeptIdle }) ends
IsKept-idle f kept ends h = IsKept-worked f kept ends KeptIdle h tt

-- one more read leaves what is kept of an attempt
read-gentle : (item : ReadItem) → IsGentle (on_state (λ a. record a { reads = a.reads ++ item ∷ [] }))
read-gentle item =
    record { place = record { id = λ b. refl; reading = λ b. refl }; faults = λ b. refl; validated = λ b. refl; decided = λ b. refl; txn = λ b. refl }

-- a column keeps what it keeps when a key is read
pub IsKept-read : (f : ℕ) (id : TxnId) (item : ReadItem) (kept : Kept) (ends : SettledAttempts) (attempts : List BegunView)
    → attempts ≡ change_begun id (on_state (λ a. record a { reads = a.reads ++ item ∷ [] })) kept.attempts → IsKept f kept ends
    → IsKept f (record kept { attempts = attempts; work = KeptIdle }) ends
IsKept-read f id item kept ends attempts is h =
    IsKept-changed f id _ (record kept { work = KeptIdle }) ends attempts (read-gentle item) (λ b. refl) tt is (IsKept-idle f kept ends h)

-- messages other than Validates leave whether a Validate was sent
pub none_validates : (id : TxnId) (link sent : List Msg) → list_any (is_validate_of id) sent ≡ false
    → list_any (is_validate_of id) link ≡ list_any (is_validate_of id) (link ++ sent)
none_validates id link sent e =
    sym (or-false (list_any (is_validate_of id) link)) ∙ ap (λ b. list_any (is_validate_of id) link || b) (sym e)
    ∙ sym (list_any-append (is_validate_of id) link sent)

-- a column keeps what it keeps when a replica changes and answers
pub IsKept-replied : (f : ℕ) (kept : Kept) (ends : SettledAttempts) (replicas : List Held) (sent : List Msg) (work : KeptWork) → IsKept f kept ends
    → length replicas ≡ members f → Each (λ (msg : Msg). msg.replica < members f) sent
    → ((id : TxnId) → list_any (is_validate_of id) sent ≡ false) → WorkFits (members f) kept.attempts replicas work
    → IsKept f (record kept { replicas = replicas; link = kept.link ++ sent; work = work }) ends
IsKept-replied f kept ends replicas sent work h long within none fits =
    let learned = map learning_of_kept kept.learned in
    record {
      replicas = long;
      attempts =
          Each-weaker (AttemptFits f kept.link learned) (AttemptFits f (kept.link ++ sent) learned)
          (fits-replied f kept.link sent learned none) kept.attempts h.attempts;
      takeovers = h.takeovers;
      clients = h.clients;
      sent = Each-append (λ (msg : Msg). msg.replica < members f) kept.link sent h.sent within;
      settled = h.settled;
      decisions = h.decisions;
      validates = λ id away. sym (none_validates id kept.link sent (none id)) ∙ h.validates id away;
      homes = h.homes;
      takers = h.takers;
      work = fits;
    }
  where
    fits-replied : (f : ℕ) (link sent : List Msg) (learned : List Learning) → ((id : TxnId) → list_any (is_validate_of id) sent ≡ false) → (b : BegunView)
        → AttemptFits f link learned b → AttemptFits f (link ++ sent) learned b
    fits-replied f link sent learned none b k =
        record {
          faults = k.faults;
          validated = k.validated ∙ none_validates b.state.id link sent (none b.state.id);
          decided = k.decided;
          named = k.named;
          acts = k.acts;
          unstamped = k.unstamped;
          seq = k.seq;
        }

-- what a list of images has at a place
pub index-map : {X Y : Type 0} (f : X → Y) (xs : List X) (n : ℕ) (d : X) (e : Y) → n < length xs → slice_index_or (map f xs) n e ≡ f (get_or xs n d)
index-map f [] n d e h = absurd (omega arith)
index-map f (x ∷ xs) zero d e h = refl
index-map f (x ∷ xs) (suc n) d e h = index-map f xs n d e (omega arith)

-- a vote that there is leaves no act
pub record IsVoted (state : ValidationState) (vote : Vote) : Type 0 where
  pub over : next_act state ≡ None
  pub gives : vote ≡ vote_of state

vote-over : (state : ValidationState) (vote : Vote) → vote_unless_left state (next_act state) ≡ Some vote → IsVoted state vote
vote-over state vote e = by_left (next_act state) refl e
  where
    by_left : (o : Option KeyAct) → next_act state ≡ o → vote_unless_left state o ≡ Some vote → IsVoted state vote
    by_left (Some act) is k = absurd (none-some vote k)
    by_left None is k = record { over = is; gives = sym (same_Some (vote_of state) vote k) }

-- the vote is set and sent
pub vote-state : (kept : Kept) (txn : Transaction) (r epoch : ℕ) (state : ValidationState) (answer : Answer) (vote : Vote) (old new : Held) (link : List Msg) (work : KeptWork)
    → kept.work ≡ KeptValidating txn r epoch state
    → vote_unless_left (after_answer state answer) (next_act (after_answer state answer)) ≡ Some vote → r < length kept.replicas
    → old ≡ get_or kept.replicas r old → new ≡ record old { entries = change_entry txn.id (with_vote vote) old.entries }
    → link ≡ kept.link ++ voted_msg txn r epoch vote ∷ [] → work ≡ KeptIdle
    → column_of (record kept { replicas = slice_set kept.replicas r new; link = link; work = work }) ≡ answered answer (work_of kept.work) (column_of kept)
vote-state kept txn r epoch state answer vote old new link work working voted within is_old is_new sent idle =
    let column = column_of kept in
    let next = after_answer state answer in
    let over = vote-over next vote voted in
    let there : entries_at column r ≡ old.entries =
    index-map (λ (held : Held). held.entries) kept.replicas r old [] within ∙ ap (λ (held : Held). held.entries) (sym is_old) in
    let entries : new.entries ≡ change_entry txn.id (with_vote (vote_of next)) (entries_at column r) =
    ap (λ (held : Held). held.entries) is_new ∙ ap (λ v. change_entry txn.id (with_vote v) old.entries) over.gives
    ∙ ap (change_entry txn.id (with_vote (vote_of next))) (sym there) in
    let records : map (λ (held : Held). held.entries) (slice_set kept.replicas r new) ≡ slice_set column.records r
    (change_entry txn.id (with_vote (vote_of next)) (entries_at column r)) =
    map-set (λ (held : Held). held.entries) kept.replicas r new ∙ ap (slice_set column.records r) entries in
    let marks : map (λ (held : Held). held.marks) (slice_set kept.replicas r new) ≡ column.marks =
    map-set_same (λ (held : Held). held.marks) kept.replicas r new old
    (ap (λ (held : Held). held.marks) (is_new ∙ ap (λ (held : Held). record old { marks = held.marks; entries = change_entry txn.id (with_vote vote) old.entries }) is_old)) in
    (λ i. record column {
      records = records i;
      marks = marks i;
      link = (sent ∙ ap (λ v. kept.link ++ voted_msg txn r epoch v ∷ []) over.gives) i;
      work = work_of (idle i);
    })
    ∙ ap (λ o. validated txn r epoch next o column) (sym over.over)
    ∙ ap (λ w. answered answer (work_of w) column) (sym working)

-- an attempt that may read the key is there, and may read it
pub room-there : (key : ℕ) (id : TxnId) (all : List BegunView) → MayRead key (begun_of id all)
    → IsSomeAnd (find (is_attempt id) (states_of all)) (λ a. may_read key a ≡ true)
room-there key id all h = subst (λ o. IsSomeAnd o (λ a. may_read key a ≡ true)) (sym (attempt-found id all)) (from (begun_of id all) h)
  where
    from : (o : Option BegunView) → MayRead key o → IsSomeAnd (option_map (λ (b : BegunView). b.state) o) (λ a. may_read key a ≡ true)
    from None k = k
    from (Some b) k = k

-- the attempt that may read the key is kept so
pub room-kept : (key : ℕ) (id : TxnId) (all : List BegunView) (column : ColumnState) → column.attempts ≡ states_of all
    → IsSomeAnd (attempt_of column id) (λ a. may_read key a ≡ true) → MayRead key (begun_of id all)
room-kept key id all column is h =
    from (begun_of id all) (subst (λ o. IsSomeAnd o (λ a. may_read key a ≡ true)) (ap (find (is_attempt id)) is ∙ attempt-found id all) h)
  where
    from : (o : Option BegunView) → IsSomeAnd (option_map (λ (b : BegunView). b.state) o) (λ a. may_read key a ≡ true) → MayRead key o
    from None k = k
    from (Some b) k = k

-- a test that an attempt passes is one that it may read the key
pub room-passes : (key : ℕ) (o : Option AttemptState) → passes (may_read key) o ≡ true → IsSomeAnd o (λ a. may_read key a ≡ true)
room-passes key None e = absurd (false≢true e)
room-passes key (Some a) e = e

-- the key's value is asked for
pub read-state : (round : Setting) (kept : Kept) (id : TxnId) (key : ℕ) (begun : BegunView) (replica : ℕ) → begun_of id kept.attempts ≡ Some begun
    → replica ≡ begun.state.replica
    → column_of (record kept { work = KeptFetching id replica key }) ≡ column_after round (column_of kept) (Read id key)
read-state round kept id key begun replica found is =
    let column = column_of kept in
    let there : find (is_attempt id) column.attempts ≡ Some begun.state = attempt-found id kept.attempts ∙ ap (option_map (λ (b : BegunView). b.state)) found in
    (λ i. record column { work = Fetching id (is i) key; learned = sym (append-nil column.learned) i })
    ∙ sym (ap (λ (o : Option AttemptState). let after = on_some (λ a col. record col { work = Fetching id a.replica key }) o column in record after { learned = column.learned ++ [] }) there)
