-- What a column keeps in its steps: messages are sent, a Validate is, an outcome is learned, a takeover begins or changes.
use Rattle.std.proofs.Common.{◌≡◌, ℕ, zero, suc, ◌+◌, ◌*◌, ◌<◌, ◌≤◌, Bool, true, false, cond, refl, sym, ap, subst, ◌∙◌, ◌||◌, ◌&&◌, ◌==◌, not, arith, List, [], ◌∷◌, ◌++◌, Option, Some, None, IsSome}
use Rattle.std.specs.Prelude.{find, map, option_map, is_some}
use Rattle.std.specs.Option.{option_or}
use Rattle.std.specs.List.{list_any}
use Rattle.std.proofs.lemmas.Bool.{false≢true}
use Rattle.std.proofs.lemmas.List.Folds.{list_any-append, find-append}
use Rattle.std.proofs.Math.Bool.{or_assoc}
use Rattle.std.proofs.Math.Bool.{or-false, or-true}
use Rattle.mk_lists.specs.Among.{Each, Each-append, Each-weaker}
use Rattle.mk_lists.specs.Changed.{Each-change}
use Rattle.mk_lists.proofs.Lookups.{find-passes}
use Rattle.mk_lists.proofs.Tests.{list_any-map}
use Rattle.mk_txn.specs.declared.TxnId.{TxnId}
use Rattle.mk_txn.specs.declared.Outcome.{Outcome}
use Rattle.mk_txn.specs.Transactions.{same_id}
use Rattle.mk_txn.proofs.IdOrder.{same_id-tells, same_id-itself}
use Rattle.mk_words.specs.declared.Msg.{Msg}
use Rattle.mk_words.specs.declared.Body.{Body}
use Rattle.mk_words.specs.declared.Body.TheVariants.{Validate as ValidateBody, Voted, Accept, Accepted as AcceptedBody, Decide, Ask, Told as ToldBody, Moved as MovedBody}
use Rattle.mk_words.specs.declared.MsgKind.TheVariants.{Validate}
use Rattle.mk_words.specs.Links.{kind_of}
use Rattle.mk_quorum.specs.Sizes.{members}
use Rattle.mk_quorum.specs.Slots.{passes}
use Rattle.mk_trim.specs.SettledAttempts.{SettledAttempts, AlsoSettles}
use Rattle.mk_column.specs.declared.learned.Learned.{Learned}
use Rattle.mk_model.specs.ColumnState.{AttemptState, TakeoverOf, is_takeover, Learning, Way, is_settled, to_all, numbers_from}
use Rattle.mk_model.specs.Conditions.{is_validate_of}
use Rattle.mk_model.specs.Learnings.{learning, is_decision_of, is_finishing}
use Rattle.mk_model.specs.Steps.{proposing, taught}
use Rattle.mk_column.specs.AttemptsByCode.{BegunView, begun_of, is_begun, change_begun, on_state}
use Rattle.mk_column.specs.TakeoversByCode.{BackupView, change_backup, on_backup}
use Rattle.mk_column.specs.declared.backup.ViewId.{ViewId}
use Rattle.mk_column.specs.ColumnByCode.{Kept, AttemptFits, IsKept, first_decision, learning_of_kept, own_learned}
use Rattle.mk_column.proofs.ListLaws.{changed_member}
use Rattle.mk_column.proofs.KeptLaws.{KeepsPlace, Turned, IsKept-turned, begun-turned, some-after, settled-turned, work-turned, fits-gentle, IsGentle}

-- ---- messages

-- no Validate is among these
abbrev pub IsQuiet : List Msg → Type 0
IsQuiet msgs = (q : TxnId) → list_any (is_validate_of q) msgs ≡ false

quiet-append : (link msgs : List Msg) (q : TxnId) (b : Bool) → list_any (is_validate_of q) msgs ≡ b
    → list_any (is_validate_of q) (link ++ msgs) ≡ (list_any (is_validate_of q) link || b)
quiet-append link msgs q b e = list_any-append (is_validate_of q) link msgs ∙ ap (λ t. list_any (is_validate_of q) link || t) e

pub IsKept-sends : (f : ℕ) (kept : Kept) (ends : SettledAttempts) (link msgs : List Msg) → link ≡ kept.link ++ msgs → IsQuiet msgs
    → Each (λ (msg : Msg). msg.replica < members f) msgs → IsKept f kept ends → IsKept f (record kept { link = link }) ends
IsKept-sends f kept ends link msgs is quiet there h =
    subst (λ all. IsKept f (record kept { link = all }) ends) (sym is)
    (record {
      replicas = h.replicas;
      attempts =
          Each-weaker (AttemptFits f kept.link (map learning_of_kept kept.learned)) (AttemptFits f (kept.link ++ msgs) (map learning_of_kept kept.learned))
          (λ b fits. fits_more b fits) kept.attempts h.attempts;
      takeovers = h.takeovers;
      clients = h.clients;
      sent = Each-append (λ (msg : Msg). msg.replica < members f) kept.link msgs h.sent there;
      settled = h.settled;
      decisions = h.decisions;
      validates = λ q none. same q ∙ h.validates q none;
      homes = h.homes;
      work = h.work;
      takers = h.takers;
    })
  where
    same : (q : TxnId) → list_any (is_validate_of q) (kept.link ++ msgs) ≡ list_any (is_validate_of q) kept.link
    same q = quiet-append kept.link msgs q false (quiet q) ∙ or-false (list_any (is_validate_of q) kept.link)

    fits_more : (b : BegunView) → AttemptFits f kept.link (map learning_of_kept kept.learned) b
        → AttemptFits f (kept.link ++ msgs) (map learning_of_kept kept.learned) b
    fits_more b fits =
        record { faults = fits.faults; validated = fits.validated ∙ sym (same b.state.id); decided = fits.decided; named = fits.named; acts = fits.acts; unstamped = fits.unstamped; seq = fits.seq }

same-back : (a b : TxnId) → same_id a b ≡ same_id b a
same-back a b = by_test (same_id a b) (same_id b a) refl refl
  where
    by_test : (t u : Bool) → same_id a b ≡ t → same_id b a ≡ u → same_id a b ≡ same_id b a
    by_test true u e d = e ∙ sym (ap (λ x. same_id x a) (sym (same_id-tells a b e)) ∙ same_id-itself a)
    by_test false true e d = absurd (false≢true (sym e ∙ ap (λ x. same_id a x) (same_id-tells b a d) ∙ same_id-itself a))
    by_test false false e d = e ∙ sym d

-- an attempt of which there is none is not one that is known
unknown_apart : (id q : TxnId) (all : List BegunView) → begun_of q all ≡ None → IsSome (begun_of id all) → same_id id q ≡ false
unknown_apart id q all none known = by_test (same_id id q) refl
  where
    by_test : (b : Bool) → same_id id q ≡ b → same_id id q ≡ false
    by_test false e = e
    by_test true e = absurd (false≢true (subst IsSome (ap (λ i. begun_of i all) (same_id-tells id q e) ∙ none) known))

-- a Validate of an attempt is sent, and its flag set
pub validates-gentle : KeepsPlace (λ (b : BegunView). record b { validated = true })
validates-gentle = record { id = λ b. refl; reading = λ b. refl }

pub IsKept-validates : (f : ℕ) (id : TxnId) (kept : Kept) (ends : SettledAttempts) (attempts : List BegunView) (link msgs : List Msg)
    → attempts ≡ change_begun id (λ b. record b { validated = true }) kept.attempts → link ≡ kept.link ++ msgs
    → list_any (is_validate_of id) msgs ≡ true → ((q : TxnId) → same_id id q ≡ false → list_any (is_validate_of q) msgs ≡ false)
    → Each (λ (msg : Msg). msg.replica < members f) msgs → IsSome (begun_of id kept.attempts)
    → IsKept f kept ends → IsKept f (record kept { attempts = attempts; link = link }) ends
IsKept-validates f id kept ends attempts link msgs is sends heard others there known h =
    let learned = map learning_of_kept kept.learned in
    let apart : (q : TxnId) → same_id id q ≡ false → list_any (is_validate_of q) (kept.link ++ msgs) ≡ list_any (is_validate_of q) kept.link =
    λ q e. quiet-append kept.link msgs q false (others q e) ∙ or-false (list_any (is_validate_of q) kept.link) in
    let here : (b : BegunView) → is_begun id b ≡ true → AttemptFits f kept.link learned b → AttemptFits f (kept.link ++ msgs) learned
    (record b { validated = true }) =
    λ b e fits. record {
      faults = fits.faults;
      validated =
          sym
          (ap (λ i. list_any (is_validate_of i) (kept.link ++ msgs)) (same_id-tells b.state.id id e) ∙ quiet-append kept.link msgs id true heard ∙ or-true (list_any (is_validate_of id) kept.link));
      decided = fits.decided;
      named = fits.named;
      acts = fits.acts;
      unstamped = fits.unstamped;
      seq = fits.seq;
    } in
    let other : (b : BegunView) → is_begun id b ≡ false → AttemptFits f kept.link learned b → AttemptFits f (kept.link ++ msgs) learned b =
    λ b e fits. record { faults = fits.faults; validated = fits.validated ∙ sym (apart b.state.id (sym (same-back b.state.id id) ∙ e)); decided = fits.decided; named = fits.named; acts = fits.acts; unstamped = fits.unstamped; seq = fits.seq } in
    subst (λ all. IsKept f (record kept { attempts = attempts; link = all }) ends) (sym sends)
    (IsKept-turned id (λ b. record b { validated = true }) validates-gentle f kept ends ends attempts (kept.link ++ msgs) kept.learned is
    (record {
      here = here;
      other = other;
      sent = Each-append (λ (msg : Msg). msg.replica < members f) kept.link msgs h.sent there;
      work = work-turned id (λ b. record b { validated = true }) validates-gentle (λ b. refl) (members f) kept.attempts kept.replicas kept.work h.work;
      settled = settled-turned id (λ b. record b { validated = true }) validates-gentle ends kept.attempts (λ b. refl) h.settled;
      decisions = h.decisions;
      validates = λ q none. apart q (unknown_apart id q kept.attempts none known) ∙ h.validates q none;
    })
    h)

-- ---- to all replicas

none-pass : {X : Type 0} (p : X → Bool) → ((x : X) → p x ≡ false) → (xs : List X) → list_any p xs ≡ false
none-pass p h [] = refl
none-pass p h (x ∷ xs) = ap (λ b. b || list_any p xs) (h x) ∙ none-pass p h xs

-- a message to all with a body that is not a Validate
pub to_all-quiet : (f epoch : ℕ) (id : TxnId) (view : ℕ) (body : Body)
    → ((q : TxnId) (r : ℕ) → is_validate_of q (record { epoch = epoch; id = id; replica = r; view = view; body = body }) ≡ false)
    → IsQuiet (to_all f epoch id view body)
to_all-quiet f epoch id view body h q =
    list_any-map (is_validate_of q) (λ r. record { epoch = epoch; id = id; replica = r; view = view; body = body }) (numbers_from 0 (members f))
    ∙ none-pass _ (h q) (numbers_from 0 (members f))

each-below : (P : Msg → Type 0) (g : ℕ → Msg) (end r n : ℕ) → r + n ≤ end → ((k : ℕ) → k < end → P (g k)) → Each P (map g (numbers_from r n))
each-below P g end r zero le h = tt
each-below P g end r (suc n) le h = (h r (omega (arith, le)), each-below P g end (r + 1) n (omega (arith, le)) h)

pub to_all-there : (f epoch : ℕ) (id : TxnId) (view : ℕ) (body : Body) → Each (λ (msg : Msg). msg.replica < members f) (to_all f epoch id view body)
to_all-there f epoch id view body =
    each-below (λ (msg : Msg). msg.replica < members f) (λ r. record { epoch = epoch; id = id; replica = r; view = view; body = body }) (members f) 0
    (members f) (omega arith) (λ k lt. lt)

-- a Validate to all is one of its attempt, and of no other
pub to_all-heard : (f epoch : ℕ) (id : TxnId) (mark : ℕ) → list_any (is_validate_of id) (to_all f epoch id 0 (ValidateBody mark)) ≡ true
to_all-heard f epoch id mark =
    let one : members f ≡ suc (2 * f) = omega arith in
    ap
    (λ n. list_any (is_validate_of id) (map (λ r. record { epoch = epoch; id = id; replica = r; view = 0; body = ValidateBody mark }) (numbers_from 0 n))) one
    ∙ ap (λ b. b || list_any (is_validate_of id) (map (λ r. record { epoch = epoch; id = id; replica = r; view = 0; body = ValidateBody mark }) (numbers_from 1 (2 * f)))) (same_id-itself id)

pub to_all-apart : (f epoch : ℕ) (id : TxnId) (mark : ℕ) (q : TxnId) → same_id id q ≡ false
    → list_any (is_validate_of q) (to_all f epoch id 0 (ValidateBody mark)) ≡ false
to_all-apart f epoch id mark q e =
    list_any-map (is_validate_of q) (λ r. record { epoch = epoch; id = id; replica = r; view = 0; body = ValidateBody mark }) (numbers_from 0 (members f))
    ∙ none-pass _ (λ r. e) (numbers_from 0 (members f))

-- a message of another kind is no Validate
pub other-kind : (epoch : ℕ) (id : TxnId) (view : ℕ) (body : Body) → (kind_of body ≡ Validate → ⊥) → (q : TxnId) (r : ℕ)
    → is_validate_of q (record { epoch = epoch; id = id; replica = r; view = view; body = body }) ≡ false
other-kind epoch id view (ValidateBody mark) h q r = absurd (h refl)
other-kind epoch id view (Voted vote) h q r = refl
other-kind epoch id view (Accept outcome) h q r = refl
other-kind epoch id view AcceptedBody h q r = refl
other-kind epoch id view (Decide outcome) h q r = refl
other-kind epoch id view Ask h q r = refl
other-kind epoch id view (ToldBody told) h q r = refl
other-kind epoch id view (MovedBody moved) h q r = refl

-- ---- an own coordinator learns

pub proposing-gentle : (outcome : Outcome) → IsGentle (on_state (proposing outcome))
proposing-gentle outcome =
    record { place = record { id = λ b. refl; reading = λ b. refl }; faults = λ b. refl; validated = λ b. refl; decided = λ b. refl; txn = λ b. refl }

pub taught-gentle : (outcome : Outcome) → IsGentle (on_state (taught outcome))
taught-gentle outcome =
    record { place = record { id = λ b. refl; reading = λ b. refl }; faults = λ b. refl; validated = λ b. refl; decided = λ b. refl; txn = λ b. refl }

-- an attempt that has learned is settled
taught-settled : (outcome : Outcome) (a : AttemptState) → is_settled (taught outcome a) ≡ true
taught-settled outcome a = by_learned a.coord.learned ∙ or-true a.unread
  where
    by_learned : (o : Option Outcome) → (a.unread || is_some (option_or o (Some outcome))) ≡ (a.unread || true)
    by_learned None = refl
    by_learned (Some x) = refl

-- where a known attempt is settled, those are settled that were, and it
settles-found : (id : TxnId) (outcome : Outcome) (all : List BegunView) (q : TxnId) → IsSome (begun_of id all)
    → passes (λ (b : BegunView). is_settled b.state) (begun_of q (change_begun id (on_state (taught outcome)) all)) ≡ (passes (λ (b : BegunView). is_settled b.state) (begun_of q all) || same_id id q)
settles-found id outcome all q known =
    ap (passes (λ (b : BegunView). is_settled b.state)) (begun-turned id (on_state (taught outcome)) (taught-gentle outcome).place q all)
    ∙ by_found (begun_of q all) refl
  where
    turned : BegunView → BegunView
    turned b = changed_member (is_begun id) (on_state (taught outcome)) b

    here : (b : BegunView) (t : Bool) → is_begun id b ≡ t → is_settled (turned b).state ≡ (is_settled b.state || t)
    here b true e = ap (λ t. is_settled (cond t (on_state (taught outcome) b) b).state) e ∙ taught-settled outcome b.state ∙ sym (or-true (is_settled b.state))
    here b false e = ap (λ t. is_settled (cond t (on_state (taught outcome) b) b).state) e ∙ sym (or-false (is_settled b.state))

    by_found : (o : Option BegunView) → begun_of q all ≡ o
        → passes (λ (b : BegunView). is_settled b.state) (option_map turned o) ≡ (passes (λ (b : BegunView). is_settled b.state) o || same_id id q)
    by_found None e = sym (unknown_apart id q all e known)
    by_found (Some b) e =
        let of_q : b.state.id ≡ q = same_id-tells b.state.id q (find-passes (is_begun q) all b e) in
        here b (same_id b.state.id id) refl ∙ ap (λ t. is_settled b.state || t) (same-back b.state.id id ∙ ap (same_id id) of_q)

pub IsKept-settles : (f : ℕ) (id : TxnId) (outcome : Outcome) (kept : Kept) (old ends : SettledAttempts) (attempts : List BegunView)
    → attempts ≡ change_begun id (on_state (taught outcome)) kept.attempts → AlsoSettles old ends id → IsSome (begun_of id kept.attempts)
    → IsKept f kept old → IsKept f (record kept { attempts = attempts }) ends
IsKept-settles f id outcome kept old ends attempts is settles known h =
    let g = on_state (taught outcome) in
    let learned = map learning_of_kept kept.learned in
    IsKept-turned id g (taught-gentle outcome).place f kept old ends attempts kept.link kept.learned is
    (record {
      here = λ b e fits. fits-gentle f kept.link learned g b (taught-gentle outcome) fits;
      other = λ b e fits. fits;
      sent = h.sent;
      work = work-turned id g (taught-gentle outcome).place (λ b. refl) (members f) kept.attempts kept.replicas kept.work h.work;
      settled =
          λ q. settles q ∙ ap (λ b. b || same_id id q) (h.settled q)
          ∙ or_assoc (q.seq == 0) (passes (λ (b : BegunView). is_settled b.state) (begun_of q kept.attempts)) (same_id id q)
          ∙ ap (λ b. (q.seq == 0) || b) (sym (settles-found id outcome kept.attempts q known));
      decisions = h.decisions;
      validates = h.validates;
    })
    h

-- ---- an outcome is learned, not by finishing

-- the first decision where one more was learned
decision-more : (ls : List Learning) (l : Learning) (q : TxnId) (b : Bool) → is_decision_of q l ≡ b
    → first_decision (ls ++ l ∷ []) q ≡ option_or (first_decision ls q) (cond b (Some l.outcome) None)
decision-more ls l q b e =
    ap (option_map (λ (x : Learning). x.outcome))
    (find-append (is_decision_of q) ls (l ∷ []) ∙ ap (λ t. option_or (find (is_decision_of q) ls) (cond t (Some l) None)) e)
    ∙ by_found (find (is_decision_of q) ls) b
  where
    by_found : (o : Option Learning) (t : Bool)
        → option_map (λ (x : Learning). x.outcome) (option_or o (cond t (Some l) None)) ≡ option_or (option_map (λ (x : Learning). x.outcome) o) (cond t (Some l.outcome) None)
    by_found None true = refl
    by_found None false = refl
    by_found (Some x) t = refl

or_none : {X : Type 0} (o : Option X) → option_or o None ≡ o
or_none None = refl
or_none (Some x) = refl

deciding-place : (outcome : Outcome) → KeepsPlace (λ b. record b { decided = option_or b.decided (Some outcome) })
deciding-place outcome = record { id = λ b. refl; reading = λ b. refl }

pub IsKept-decides : (f : ℕ) (id : TxnId) (way : Way) (outcome : Outcome) (kept : Kept) (ends : SettledAttempts) (attempts : List BegunView) (learned : List Learned)
    → attempts ≡ change_begun id (λ b. record b { decided = option_or b.decided (Some outcome) }) kept.attempts
    → map learning_of_kept learned ≡ map learning_of_kept kept.learned ++ learning id way outcome ∷ [] → is_finishing way ≡ false
    → IsSome (begun_of id kept.attempts) → IsKept f kept ends → IsKept f (record kept { attempts = attempts; learned = learned }) ends
IsKept-decides f id way outcome kept ends attempts learned is more by known h =
    let g : BegunView → BegunView = λ b. record b { decided = option_or b.decided (Some outcome) } in
    let before = map learning_of_kept kept.learned in
    let l = learning id way outcome in
    let one : (q : TxnId) (t : Bool) → same_id id q ≡ t → is_decision_of q l ≡ t = λ q t e. ap (λ w. same_id id q && not w) by ∙ and_true (same_id id q) ∙ e in
    let apart : (q : TxnId) → same_id id q ≡ false → first_decision (before ++ l ∷ []) q ≡ first_decision before q =
    λ q e. decision-more before l q false (one q false e) ∙ or_none (first_decision before q) in
    let here : (b : BegunView) → is_begun id b ≡ true → AttemptFits f kept.link before b → AttemptFits f kept.link (before ++ l ∷ []) (g b) =
    λ b e fits. record {
      faults = fits.faults;
      validated = fits.validated;
      decided =
          ap (λ o. option_or o (Some outcome)) fits.decided
          ∙ sym (decision-more before l b.state.id true (one b.state.id true (sym (same-back b.state.id id) ∙ e)));
      named = fits.named;
      acts = fits.acts;
      unstamped = fits.unstamped;
      seq = fits.seq;
    } in
    let other : (b : BegunView) → is_begun id b ≡ false → AttemptFits f kept.link before b → AttemptFits f kept.link (before ++ l ∷ []) b =
    λ b e fits. record { faults = fits.faults; validated = fits.validated; decided = fits.decided ∙ sym (apart b.state.id (sym (same-back b.state.id id) ∙ e)); named = fits.named; acts = fits.acts; unstamped = fits.unstamped; seq = fits.seq } in
    IsKept-turned id g (deciding-place outcome) f kept ends ends attempts kept.link learned is
    (subst (λ all. Turned id g (deciding-place outcome) f kept kept.link all ends) (sym more)
    (record {
      here = here;
      other = other;
      sent = h.sent;
      work = work-turned id g (deciding-place outcome) (λ b. refl) (members f) kept.attempts kept.replicas kept.work h.work;
      settled = settled-turned id g (deciding-place outcome) ends kept.attempts (λ b. refl) h.settled;
      decisions = λ q none. apart q (unknown_apart id q kept.attempts none known) ∙ h.decisions q none;
      validates = h.validates;
    }))
    h
  where
    and_true : (b : Bool) → (b && not false) ≡ b
    and_true true = refl
    and_true false = refl

-- ---- an own coordinator learns an outcome, not by finishing

pub IsKept-learns : (f : ℕ) (id : TxnId) (way : Way) (outcome : Outcome) (kept : Kept) (old ends : SettledAttempts) (attempts : List BegunView) (learned : List Learned)
    → attempts ≡ own_learned id outcome kept.attempts → AlsoSettles old ends id
    → map learning_of_kept learned ≡ map learning_of_kept kept.learned ++ learning id way outcome ∷ [] → is_finishing way ≡ false
    → IsSome (begun_of id kept.attempts) → IsKept f kept old → IsKept f (record kept { attempts = attempts; learned = learned }) ends
IsKept-learns f id way outcome kept old ends attempts learned is settles more by there h =
    let between = change_begun id (on_state (taught outcome)) kept.attempts in
    let then : IsSome (begun_of id between) = some-after id (on_state (taught outcome)) (taught-gentle outcome).place id kept.attempts there in
    IsKept-decides f id way outcome (record kept { attempts = between }) ends attempts learned is more by then
    (IsKept-settles f id outcome kept old ends between refl settles there h)

-- ---- a message that is not a Validate is sent to all

pub IsKept-tells : (f epoch : ℕ) (id : TxnId) (view : ℕ) (body : Body) (kept : Kept) (ends : SettledAttempts) (link : List Msg)
    → link ≡ kept.link ++ to_all f epoch id view body → (kind_of body ≡ Validate → ⊥) → IsKept f kept ends
    → IsKept f (record kept { link = link }) ends
IsKept-tells f epoch id view body kept ends link is other h =
    IsKept-sends f kept ends link (to_all f epoch id view body) is (to_all-quiet f epoch id view body (other-kind epoch id view body other))
    (to_all-there f epoch id view body) h

-- ---- takeovers are changed, or one is joined

pub IsKept-takeovers : (f : ℕ) (kept : Kept) (ends : SettledAttempts) (takeovers : List BackupView) → Each (λ backup. backup.faults ≡ f) takeovers
    → Each (λ backup. IsSome (begun_of backup.of.id kept.attempts)) takeovers → IsKept f kept ends → IsKept f (record kept { takeovers = takeovers }) ends
IsKept-takeovers f kept ends takeovers made known h =
    record {
      replicas = h.replicas;
      attempts = h.attempts;
      takeovers = made;
      clients = h.clients;
      sent = h.sent;
      settled = h.settled;
      decisions = h.decisions;
      validates = h.validates;
      homes = h.homes;
      work = h.work;
      takers = known;
    }

pub IsKept-takeover_changed : (f : ℕ) (view_id : ViewId) (g : TakeoverOf → TakeoverOf) (kept : Kept) (ends : SettledAttempts) (takeovers : List BackupView)
    → ((t : TakeoverOf) → (g t).id ≡ t.id) → takeovers ≡ change_backup view_id (on_backup g) kept.takeovers → IsKept f kept ends
    → IsKept f (record kept { takeovers = takeovers }) ends
IsKept-takeover_changed f view_id g kept ends takeovers keeps is h =
    let here : BackupView → Bool = λ backup. is_takeover view_id.id view_id.view backup.of in
    IsKept-takeovers f kept ends takeovers
    (subst (Each (λ (backup : BackupView). backup.faults ≡ f)) (sym is) (Each-change here (on_backup g) (λ backup. backup.faults ≡ f) (λ backup t made. made) kept.takeovers h.takeovers))
    (subst (Each (λ (backup : BackupView). IsSome (begun_of backup.of.id kept.attempts))) (sym is)
    (Each-change here (on_backup g) (λ backup. IsSome (begun_of backup.of.id kept.attempts)) (λ backup t known. subst (λ i. IsSome (begun_of i kept.attempts)) (sym (keeps backup.of)) known) kept.takeovers h.takers))
    h

pub IsKept-takes_over : (f : ℕ) (backup : BackupView) (kept : Kept) (ends : SettledAttempts) (takeovers : List BackupView)
    → takeovers ≡ kept.takeovers ++ backup ∷ [] → backup.faults ≡ f → IsSome (begun_of backup.of.id kept.attempts) → IsKept f kept ends
    → IsKept f (record kept { takeovers = takeovers }) ends
IsKept-takes_over f backup kept ends takeovers is made known h =
    IsKept-takeovers f kept ends takeovers
    (subst (Each (λ (b : BackupView). b.faults ≡ f)) (sym is) (Each-append (λ (b : BackupView). b.faults ≡ f) kept.takeovers (backup ∷ []) h.takeovers (made, tt)))
    (subst (Each (λ (b : BackupView). IsSome (begun_of b.of.id kept.attempts))) (sym is) (Each-append (λ (b : BackupView). IsSome (begun_of b.of.id kept.attempts)) kept.takeovers (backup ∷ []) h.takers (known, tt)))
    h
