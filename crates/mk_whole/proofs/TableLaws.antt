-- What the table of key steps has of each column's log.
use Rattle.std.proofs.Common.{◌≡◌, ◌<◌, ℕ, zero, suc, ◌+◌, Bool, true, false, ◌&&◌, ◌==◌, refl, sym, ap, ◌∙◌, arith, List, [], ◌∷◌, ◌++◌, length, get_or, append_assoc, replicate, Some, if◌then◌else◌}
use Rattle.std.specs.Prelude.{slice_get, slice_index_or}
use Rattle.std.proofs.lemmas.Bool.Decides.{nat_tests}
use Rattle.std.proofs.lemmas.List.{append-nil, length-replicate}
use Rattle.std.proofs.lemmas.Option.{slice_get-get_or, get_or_from_slice_get}
use Rattle.mk_lists.specs.Among.{Each}
use Rattle.mk_lists.proofs.Places.{slice_get-replicate}
use Rattle.mk_words.specs.declared.JournalEntry.{JournalEntry}
use Rattle.mk_words.specs.declared.Step.{Step}
use Rattle.mk_words.specs.declared.Step.TheVariants.{Begin, Unread, Read, Stamp as StampStep, Validate, Take, Key, Rule, Again, Takeover, Pick, Stop}
use Rattle.mk_history.specs.Matching.{Turn, turns_in_log, turns_in_journal}
use Rattle.mk_whole.specs.Turns.{turns_at, after_step, after_steps, after_all_steps}
use Rattle.mk_whole.proofs.TurnLaws.{HasPlaces, StepWithin, turns-append, put-places, put-at}

-- a turn of a seat, kept or not
seat_one : (c d : ℕ) (turn : JournalEntry) (b : Bool) → turn.seat ≡ c →
    turns_in_journal d (if b then turn ∷ [] else []) ≡ (if c == d then (if b then record { act = turn.act; answer = turn.answer } ∷ [] else []) else [])
seat_one c d turn b is = by b (c == d) refl
  where
    by : (b t : Bool) → (c == d) ≡ t →
        turns_in_journal d (if b then turn ∷ [] else []) ≡ (if c == d then (if b then record { act = turn.act; answer = turn.answer } ∷ [] else []) else [])
    by true t e = ap (λ seat. if seat == d then record { act = turn.act; answer = turn.answer } ∷ [] else []) is
    by false true e = sym (ap (λ t. if t then [] else []) e)
    by false false e = sym (ap (λ t. if t then [] else []) e)

-- the key steps of a log are those of its first step and those of the rest
log_split : (s k : ℕ) (step : Step) (steps : List Step) → turns_in_log s k (step ∷ steps) ≡ turns_in_log s k (step ∷ []) ++ turns_in_log s k steps
log_split s k (Key call answer) steps = by (call.replica == s && call.key == k)
  where
    by : (b : Bool) → (if b then record { act = call.act; answer = answer } ∷ turns_in_log s k steps else turns_in_log s k steps)
        ≡ (if b then record { act = call.act; answer = answer } ∷ [] else []) ++ turns_in_log s k steps
    by true = refl
    by false = refl
log_split s k (Begin client replica) steps = refl
log_split s k (Unread client) steps = refl
log_split s k (Read id key) steps = refl
log_split s k (StampStep id clock writes) steps = refl
log_split s k (Validate id) steps = refl
log_split s k (Take number) steps = refl
log_split s k (Rule id) steps = refl
log_split s k (Again id) steps = refl
log_split s k (Takeover id view) steps = refl
log_split s k (Pick id view) steps = refl
log_split s k (Stop id) steps = refl

-- where nothing is added
nothing_added : (t : Bool) (ts : List Turn) → ts ≡ ts ++ (if t then [] else [])
nothing_added true ts = sym (append-nil ts)
nothing_added false ts = sym (append-nil ts)

-- two parts that are added where a test holds
added_twice : (t : Bool) (ts one rest : List Turn) → (ts ++ (if t then one else [])) ++ (if t then rest else []) ≡ ts ++ (if t then one ++ rest else [])
added_twice true ts one rest = append_assoc ts one rest
added_twice false ts one rest = append-nil (ts ++ [])

module _ (n keys c : ℕ) where
  pub step-places : (table : List (List (List JournalEntry))) (step : Step) → HasPlaces n keys table → StepWithin n keys step → HasPlaces n keys (after_step c table step)
  step-places table (Key call answer) h w = put-places n keys table h call.replica call.key (record { seat = c; act = call.act; answer = answer }) w.0 w.1
  step-places table (Begin client replica) h w = h
  step-places table (Unread client) h w = h
  step-places table (Read id key) h w = h
  step-places table (StampStep id clock writes) h w = h
  step-places table (Validate id) h w = h
  step-places table (Take number) h w = h
  step-places table (Rule id) h w = h
  step-places table (Again id) h w = h
  step-places table (Takeover id view) h w = h
  step-places table (Pick id view) h w = h
  step-places table (Stop id) h w = h

  pub steps-places : (table : List (List (List JournalEntry))) (steps : List Step) → HasPlaces n keys table → Each (StepWithin n keys) steps → HasPlaces n keys (after_steps c table steps)
  steps-places table [] h w = h
  steps-places table (step ∷ steps) h w = steps-places (after_step c table step) steps (step-places table step h w.0) w.1

  module _ (d s k : ℕ) where
    pub step-turns : (table : List (List (List JournalEntry))) (step : Step) → HasPlaces n keys table → StepWithin n keys step →
        turns_in_journal d (turns_at (after_step c table step) s k) ≡ turns_in_journal d (turns_at table s k) ++ (if c == d then turns_in_log s k (step ∷ []) else [])
    step-turns table (Key call answer) h w =
        let turn : JournalEntry = record { seat = c; act = call.act; answer = answer } in
        ap (turns_in_journal d) (put-at n keys table h call.replica call.key turn w.0 w.1 s k)
        ∙ turns-append d (turns_at table s k) (if call.replica == s && call.key == k then turn ∷ [] else [])
        ∙ ap (λ ts. turns_in_journal d (turns_at table s k) ++ ts) (seat_one c d turn (call.replica == s && call.key == k) refl)
    step-turns table (Begin client replica) h w = nothing_added (c == d) (turns_in_journal d (turns_at table s k))
    step-turns table (Unread client) h w = nothing_added (c == d) (turns_in_journal d (turns_at table s k))
    step-turns table (Read id key) h w = nothing_added (c == d) (turns_in_journal d (turns_at table s k))
    step-turns table (StampStep id clock writes) h w = nothing_added (c == d) (turns_in_journal d (turns_at table s k))
    step-turns table (Validate id) h w = nothing_added (c == d) (turns_in_journal d (turns_at table s k))
    step-turns table (Take number) h w = nothing_added (c == d) (turns_in_journal d (turns_at table s k))
    step-turns table (Rule id) h w = nothing_added (c == d) (turns_in_journal d (turns_at table s k))
    step-turns table (Again id) h w = nothing_added (c == d) (turns_in_journal d (turns_at table s k))
    step-turns table (Takeover id view) h w = nothing_added (c == d) (turns_in_journal d (turns_at table s k))
    step-turns table (Pick id view) h w = nothing_added (c == d) (turns_in_journal d (turns_at table s k))
    step-turns table (Stop id) h w = nothing_added (c == d) (turns_in_journal d (turns_at table s k))

    pub steps-turns : (table : List (List (List JournalEntry))) (steps : List Step) → HasPlaces n keys table → Each (StepWithin n keys) steps →
        turns_in_journal d (turns_at (after_steps c table steps) s k) ≡ turns_in_journal d (turns_at table s k) ++ (if c == d then turns_in_log s k steps else [])
    steps-turns table [] h w = nothing_added (c == d) (turns_in_journal d (turns_at table s k))
    steps-turns table (step ∷ steps) h w =
        steps-turns (after_step c table step) steps (step-places table step h w.0) w.1
        ∙ ap (λ ts. ts ++ (if c == d then turns_in_log s k steps else [])) (step-turns table step h w.0)
        ∙ added_twice (c == d) (turns_in_journal d (turns_at table s k)) (turns_in_log s k (step ∷ [])) (turns_in_log s k steps)
        ∙ ap (λ ts. turns_in_journal d (turns_at table s k) ++ (if c == d then ts else [])) (sym (log_split s k step steps))

-- what logs, the first of which is of column c, say of column d at a key
abbrev pub said_in : ℕ → ℕ → ℕ → ℕ → List (List Step) → List Turn
said_in c d s k [] = []
said_in c d s k (log ∷ logs) = (if c == d then turns_in_log s k log else []) ++ said_in (c + 1) d s k logs

module _ (n keys d s k : ℕ) where
  pub all-turns : (c : ℕ) (table : List (List (List JournalEntry))) (logs : List (List Step)) → HasPlaces n keys table → Each (Each (StepWithin n keys)) logs →
      turns_in_journal d (turns_at (after_all_steps c table logs) s k) ≡ turns_in_journal d (turns_at table s k) ++ said_in c d s k logs
  all-turns c table [] h w = sym (append-nil (turns_in_journal d (turns_at table s k)))
  all-turns c table (log ∷ logs) h w =
      all-turns (c + 1) (after_steps c table log) logs (steps-places n keys c table log h w.0) w.1
      ∙ ap (λ ts. ts ++ said_in (c + 1) d s k logs) (steps-turns n keys c d s k table log h w.0)
      ∙ append_assoc (turns_in_journal d (turns_at table s k)) (if c == d then turns_in_log s k log else []) (said_in (c + 1) d s k logs)

  differs : (c : ℕ) → d < c → (c == d) ≡ false
  differs c below = by (c == d) refl
    where
      by : (t : Bool) → (c == d) ≡ t → t ≡ false
      by true e = absurd (let same : c ≡ d = grind (arith, nat_tests, e) in omega (arith, same, below))
      by false e = refl

  said-before : (c : ℕ) (logs : List (List Step)) → d < c → said_in c d s k logs ≡ []
  said-before c [] below = refl
  said-before c (log ∷ logs) below =
      ap (λ t. (if t then turns_in_log s k log else []) ++ said_in (c + 1) d s k logs) (differs c below) ∙ said-before (c + 1) logs (omega (arith, below))

  pub said-at : (c i : ℕ) (logs : List (List Step)) (log : List Step) → c + i ≡ d → slice_get logs i ≡ Some log → said_in c d s k logs ≡ turns_in_log s k log
  said-at c i [] log same e = absurd (cc e)
  said-at c zero (here ∷ logs) log same e =
      let is : (c == d) ≡ true = grind (arith, nat_tests, same) in
      let found : here ≡ log = cc in
      ap (λ t. (if t then turns_in_log s k here else []) ++ said_in (c + 1) d s k logs) is
      ∙ ap (λ ts. turns_in_log s k here ++ ts) (said-before (c + 1) logs (omega (arith, same)))
      ∙ append-nil (turns_in_log s k here)
      ∙ ap (turns_in_log s k) found
  said-at c (suc i) (here ∷ logs) log same e =
      let apart : (d == c) ≡ false = grind (arith, nat_tests, same) in
      let isnt : (c == d) ≡ false = grind (arith, nat_tests, same) in
      ap (λ t. (if t then turns_in_log s k here else []) ++ said_in (c + 1) d s k logs) isnt ∙ said-at (c + 1) i logs log (omega (arith, same)) e

-- a table of so many empty places
pub empty-places : (n keys : ℕ) → HasPlaces n keys (replicate n (replicate keys []))
empty-places n keys =
    record {
      replicas = length-replicate n (replicate keys []);
      keys_each = λ r below.
          ap (λ (row : List (List JournalEntry)). length row) (get_or_from_slice_get (replicate n (replicate keys [])) r (replicate keys []) [] (slice_get-replicate n r (replicate keys []) below))
          ∙ length-replicate keys [];
    }

pub empty-turns : (n keys s k : ℕ) → s < n → k < keys → turns_at (replicate n (replicate keys [])) s k ≡ []
empty-turns n keys s k there within =
    ap (λ (row : List (List JournalEntry)). slice_index_or row k [])
    (get_or_from_slice_get (replicate n (replicate keys [])) s (replicate keys []) [] (slice_get-replicate n s (replicate keys []) there))
    ∙ get_or_from_slice_get (replicate keys []) k [] [] (slice_get-replicate keys k [] within)

-- the table of all logs has of each column at each key its log's key steps
pub table-is : (n keys : ℕ) (logs : List (List Step)) → Each (Each (StepWithin n keys)) logs → (d s k : ℕ) → d < length logs → s < n → k < keys →
    turns_in_journal d (turns_at (after_all_steps 0 (replicate n (replicate keys [])) logs) s k) ≡ turns_in_log s k (slice_index_or logs d [])
table-is n keys logs w d s k below there within =
    all-turns n keys d s k 0 (replicate n (replicate keys [])) logs (empty-places n keys) w
    ∙ ap (λ es. turns_in_journal d es ++ said_in 0 d s k logs) (empty-turns n keys s k there within)
    ∙ said-at n keys d s k 0 d logs (get_or logs d []) (omega arith) (slice_get-get_or logs d [] below)
