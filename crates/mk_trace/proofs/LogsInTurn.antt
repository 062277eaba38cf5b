-- The lines of the logs of a round may come one behind the other.
use Rattle.std.proofs.Common.{◌≡◌, ◌≢◌, ℕ, zero, suc, ◌+◌, ◌-◌, ◌≤◌, ◌<◌, Bool, true, false, cond, eqb, List, [], ◌∷◌, ◌++◌, length, map, get_or, replicate, Option, Some, None, refl, sym, ap, subst, arith, append_assoc}
use Rattle.std.specs.Prelude.{sum, count_by}
use Rattle.std.specs.List.{list_all}
use Rattle.std.proofs.lemmas.Bool.{and_parts}
use Rattle.std.proofs.lemmas.Bool.Decides.{nat_tests}
use Rattle.std.proofs.lemmas.List.{append-nil, length-append}
use Rattle.std.proofs.lemmas.List.Sums.{sum_by-cons}
use Rattle.std.proofs.lemmas.Option.{same_Some}
use Rattle.mk_words.specs.declared.Step.{Step}
use Rattle.mk_words.specs.declared.Step.TheVariants as steps
use Rattle.mk_history.specs.declared.RoundLog.{RoundLog}
use Rattle.mk_history.specs.Histories.{History}
use Rattle.mk_history.specs.Shape.{client_fits, replica_fits, step_fits, begins_of}
use Rattle.mk_kept.specs.Heads.{history}
use Rattle.mk_trace_lines.specs.TraceLines.{TraceLine}
use Rattle.mk_trace_lines.specs.TraceLines.TraceLine.{Heads}
use Rattle.mk_trace_text.specs.declared.section.Section.{Section}
use Rattle.mk_trace_text.specs.declared.section.Section.TheVariants as sections
use Rattle.mk_trace_text.specs.Begun.{raised, begun_of, beginner, begun_after, begun_through, begun_in}
use Rattle.mk_trace_text.specs.Traces.{step_line, step_lines, log_lines, logs_lines}
use Rattle.mk_trace_text.specs.States.{State, extended, after}
use Rattle.mk_trace_text.specs.Grammar.{in_log}
use Rattle.mk_trace.proofs.GrownTables.{one_if, sum-cons}
use Rattle.mk_trace.proofs.StepsAgain.{client_range}
use Rattle.mk_trace.proofs.Suited.{IsSound}
use Rattle.mk_trace.proofs.InTurn.{IsNext, Leads, then, first, none_left}

-- ---- tables

pub extended_at : {A : Type 0} (done : List (List A)) (xs : List A) (rest : List (List A)) (x : A)
    → extended (done ++ xs ∷ rest) (length done) x ≡ done ++ (xs ++ x ∷ []) ∷ rest
extended_at [] xs rest x = refl
extended_at (d ∷ done) xs rest x = ap (λ (l : List (List _)). d ∷ l) (extended_at done xs rest x)

-- ---- how many attempts may still begin

-- each client has room for as many attempts more
abbrev pub Room : List ℕ → (ℕ → ℕ) → Type 0
Room begun more = (client : ℕ) → 1 ≤ client → begun_of begun client + more client ≤ 16384

raised_up : (ns : List ℕ) (i j : ℕ) → get_or (raised ns i) j 0 ≤ get_or ns j 0 + 1
raised_up [] i j = omega arith
raised_up (n ∷ ns) zero zero = omega arith
raised_up (n ∷ ns) zero (suc j) = omega arith
raised_up (n ∷ ns) (suc i) zero = omega arith
raised_up (n ∷ ns) (suc i) (suc j) = raised_up ns i j

raised_other : (ns : List ℕ) (i j : ℕ) → i ≢ j → get_or (raised ns i) j 0 ≤ get_or ns j 0
raised_other [] i j apart = omega arith
raised_other (n ∷ ns) zero zero apart = absurd (apart refl)
raised_other (n ∷ ns) zero (suc j) apart = omega arith
raised_other (n ∷ ns) (suc i) zero apart = omega arith
raised_other (n ∷ ns) (suc i) (suc j) apart = raised_other ns i j (λ e. apart (ap suc e))

raised_most : (begun : List ℕ) (d c : ℕ) → 1 ≤ d → 1 ≤ c → begun_of (raised begun (d - 1)) c ≤ begun_of begun c + one_if (eqb d c)
raised_most begun d c low high = here (eqb d c) refl
  where
    here : (b : Bool) → eqb d c ≡ b → begun_of (raised begun (d - 1)) c ≤ begun_of begun c + cond b 1 0
    here true e = raised_up begun (d - 1) (c - 1)
    here false e =
        let other : d ≢ c = (λ same. apart same) in
        let less = raised_other begun (d - 1) (c - 1) (λ same. other (omega (arith, same, low, high))) in
        omega (arith, less)
      where
        apart : d ≡ c → ⊥
        apart same = grind (arith, nat_tests)

-- the client whose attempt a step begins has a number
begins_low : (run : History) (step : Step) → step_fits run step ≡ true → (client : ℕ) → beginner step ≡ Some client → 1 ≤ client
begins_low run (steps.Begin c r) fits client is =
    subst (λ (n : ℕ). 1 ≤ n) (same_Some c client is) (client_range run c (and_parts (client_fits run c) (replica_fits run r) fits).0).0
begins_low run (steps.Unread c) fits client is = subst (λ (n : ℕ). 1 ≤ n) (same_Some c client is) (client_range run c fits).0
begins_low run (steps.Read id key) fits client is = absurd cc
begins_low run (steps.Stamp id clock writes) fits client is = absurd cc
begins_low run (steps.Validate id) fits client is = absurd cc
begins_low run (steps.Take number) fits client is = absurd cc
begins_low run (steps.Key call answer) fits client is = absurd cc
begins_low run (steps.Rule id) fits client is = absurd cc
begins_low run (steps.Again id) fits client is = absurd cc
begins_low run (steps.Takeover id view) fits client is = absurd cc
begins_low run (steps.Pick id view) fits client is = absurd cc
begins_low run (steps.Stop id) fits client is = absurd cc

begun_most : (begun : List ℕ) (step : Step) (c : ℕ) → 1 ≤ c → ((client : ℕ) → beginner step ≡ Some client → 1 ≤ client)
    → begun_of (begun_after begun step) c ≤ begun_of begun c + one_if (begins_of c step)
begun_most begun (steps.Begin d r) c low by = raised_most begun d c (by d refl) low
begun_most begun (steps.Unread d) c low by = raised_most begun d c (by d refl) low
begun_most begun (steps.Read id key) c low by = omega arith
begun_most begun (steps.Stamp id clock writes) c low by = omega arith
begun_most begun (steps.Validate id) c low by = omega arith
begun_most begun (steps.Take number) c low by = omega arith
begun_most begun (steps.Key call answer) c low by = omega arith
begun_most begun (steps.Rule id) c low by = omega arith
begun_most begun (steps.Again id) c low by = omega arith
begun_most begun (steps.Takeover id view) c low by = omega arith
begun_most begun (steps.Pick id view) c low by = omega arith
begun_most begun (steps.Stop id) c low by = omega arith

-- how many attempts of a client steps begin
abbrev pub begins : List Step → ℕ → ℕ
begins steps client = count_by (begins_of client) steps

begins-cons : (step : Step) (xs : List Step) (c : ℕ) → begins (step ∷ xs) c ≡ one_if (begins_of c step) + begins xs c
begins-cons step xs c = sum_by-cons (λ (x : Step). cond (begins_of c x) 1 0) step xs

room_after : (begun : List ℕ) (step : Step) (xs : List Step) (more : ℕ → ℕ) → ((client : ℕ) → beginner step ≡ Some client → 1 ≤ client)
    → Room begun (λ c. begins (step ∷ xs) c + more c) → Room (begun_after begun step) (λ c. begins xs c + more c)
room_after begun step xs more by h c low =
    let a = begun_most begun step c low by in
    let b = begins-cons step xs c in
    let k = h c low in
    omega (arith, a, b, k)

one_same : (c : ℕ) → 1 ≤ one_if (eqb c c)
one_same c = here (eqb c c) refl
  where
    here : (b : Bool) → eqb c c ≡ b → 1 ≤ cond b 1 0
    here true e = omega arith
    here false e = absurd (grind (arith, nat_tests))

step_few : (run : History) (begun : List ℕ) (step : Step) (xs : List Step) (more : ℕ → ℕ) → step_fits run step ≡ true
    → Room begun (λ c. begins (step ∷ xs) c + more c) → (client : ℕ) → beginner step ≡ Some client → begun_of begun client + 1 ≤ 16384
step_few run begun (steps.Begin c r) xs more fits h client is =
    let low = begins_low run (steps.Begin c r) fits c refl in
    let k = h c low in
    let b = begins-cons (steps.Begin c r) xs c in
    let o = one_same c in
    subst (λ (n : ℕ). begun_of begun n + 1 ≤ 16384) (same_Some c client is) (omega (arith, k, b, o))
step_few run begun (steps.Unread c) xs more fits h client is =
    let low = begins_low run (steps.Unread c) fits c refl in
    let k = h c low in
    let b = begins-cons (steps.Unread c) xs c in
    let o = one_same c in
    subst (λ (n : ℕ). begun_of begun n + 1 ≤ 16384) (same_Some c client is) (omega (arith, k, b, o))
step_few run begun (steps.Read id key) xs more fits h client is = absurd cc
step_few run begun (steps.Stamp id clock writes) xs more fits h client is = absurd cc
step_few run begun (steps.Validate id) xs more fits h client is = absurd cc
step_few run begun (steps.Take number) xs more fits h client is = absurd cc
step_few run begun (steps.Key call answer) xs more fits h client is = absurd cc
step_few run begun (steps.Rule id) xs more fits h client is = absurd cc
step_few run begun (steps.Again id) xs more fits h client is = absurd cc
step_few run begun (steps.Takeover id view) xs more fits h client is = absurd cc
step_few run begun (steps.Pick id view) xs more fits h client is = absurd cc
step_few run begun (steps.Stop id) xs more fits h client is = absurd cc

-- ---- the steps of a log

-- in the log behind these, whose steps so far are xs
abbrev steps_at : State → Section → List (List Step) → List (List Step) → List ℕ → List Step → State
steps_at b x done rest begun xs =
    record b { section = x; column = length done; begun = begun; round = record b.round { logs = done ++ xs ∷ rest } }

-- behind a heading of a round, or a log of this column
abbrev pub log_at : State → Option ℕ → List ℕ → List (List Step) → State
log_at b None begun logs = record b { section = sections.Round; begun = begun; round = record b.round { logs = logs } }
log_at b (Some column) begun logs = record b { section = sections.Log; column = column; begun = begun; round = record b.round { logs = logs } }

abbrev IsUpTo : ℕ → Option ℕ → Type 0
IsUpTo n None = Unit {0}
IsUpTo n (Some column) = column < n

-- how many attempts of a client logs begin
abbrev pub begins_through : List (List Step) → ℕ → ℕ
begins_through logs client = sum (map (count_by (begins_of client)) logs)

module _ (all : List RoundLog) (b : State) (sound : IsSound b.head) where
  abbrev To : State → List TraceLine → State → Type 0
  To s lines t = Leads b.head.client_names.names b.head.key_names.names all s lines t

  step_next : (x : Section) → in_log x ≡ true → (done rest : List (List Step)) (begun : List ℕ) (xs : List Step) (step : Step) (more : List Step) (others : ℕ → ℕ)
      → step_fits (history b.head all) step ≡ true → Room begun (λ c. begins (step ∷ more) c + others c)
      → IsNext b.head.client_names.names b.head.key_names.names all (steps_at b x done rest begun xs) (step_line begun step)
  step_next x at done rest begun xs step more others fits room = record {
    sound = sound;
    suits = (at, fits, refl, step_few (history b.head all) begun step more others fits room);
    spelled = refl;
  }

  step_leaves : (x : Section) (done rest : List (List Step)) (begun : List ℕ) (xs : List Step) (step : Step)
      → after (steps_at b x done rest begun xs) (step_line begun step) ≡ steps_at b sections.Log done rest (begun_after begun step) (xs ++ step ∷ [])
  step_leaves x done rest begun xs step =
      ap (λ (logs : List (List Step)). record b { section = sections.Log; column = length done; begun = begun_after begun step; round = record b.round { logs = logs } })
      (extended_at done xs rest step)

  steps_lead : (done rest : List (List Step)) (begun : List ℕ) (xs more : List Step) (others : ℕ → ℕ) → list_all (step_fits (history b.head all)) more ≡ true
      → Room begun (λ c. begins more c + others c)
      → To (steps_at b sections.Log done rest begun xs) (step_lines begun more) (steps_at b sections.Log done rest (begun_through begun more) (xs ++ more))
      × Room (begun_through begun more) others
  steps_lead done rest begun xs [] others fits room = (
    none_left b.head.client_names.names b.head.key_names.names all (steps_at b sections.Log done rest begun xs) (steps_at b sections.Log done rest begun (xs ++ []))
        (ap (steps_at b sections.Log done rest begun) (sym (append-nil xs))),
    λ c low. (let k = room c low in omega (arith, k)),
  )
  steps_lead done rest begun xs (step ∷ more) others fits room =
      let q = and_parts (step_fits (history b.head all) step) (list_all (step_fits (history b.head all)) more) fits in
      let by = begins_low (history b.head all) step q.0 in
      let next = begun_after begun step in
      let k = steps_lead done rest next (xs ++ step ∷ []) more others q.1 (room_after begun step more others by room) in
      let m = steps_at b sections.Log done rest next (xs ++ step ∷ []) in
      let t = steps_at b sections.Log done rest (begun_through next more) (xs ++ step ∷ more) in
      let last : To m (step_lines next more) t =
      subst (λ (l : List Step). To m (step_lines next more) (steps_at b sections.Log done rest (begun_through next more) l)) (append_assoc xs (step ∷ []) more) k.0 in (
        first b.head.client_names.names b.head.key_names.names all (steps_at b sections.Log done rest begun xs) m t (step_line begun step) (step_lines next more)
            (step_next sections.Log refl done rest begun xs step more others q.0 room)
            (step_leaves sections.Log done rest begun xs step)
            last,
        k.1,
      )

  -- ---- the logs of a round

  heading_next : (w : Option ℕ) (begun : List ℕ) (logs : List (List Step)) (n : ℕ) → IsUpTo n w → n < b.head.columns
      → IsNext b.head.client_names.names b.head.key_names.names all (log_at b w begun logs) (Heads n)
  heading_next None begun logs n up low = record { sound = sound; suits = (refl, low, tt); spelled = refl }
  heading_next (Some column) begun logs n up low = record { sound = sound; suits = (refl, low, up); spelled = refl }

  heading_leaves : (w : Option ℕ) (begun : List ℕ) (done rest : List (List Step)) (xs : List Step)
      → after (log_at b w begun (done ++ xs ∷ rest)) (Heads (length done)) ≡ steps_at b sections.Column done rest begun xs
  heading_leaves None begun done rest xs = refl
  heading_leaves (Some column) begun done rest xs = refl

  -- a log that is not there, or its heading and its steps
  log_leads : (w : Option ℕ) (begun : List ℕ) (done rest : List (List Step)) (log : List Step) (others : ℕ → ℕ) → IsUpTo (length done) w
      → length done < b.head.columns → list_all (step_fits (history b.head all)) log ≡ true → Room begun (λ c. begins log c + others c)
      → (y : Option ℕ) × IsUpTo (suc (length done)) y
      × To (log_at b w begun (done ++ [] ∷ rest)) (log_lines begun (length done) log) (log_at b y (begun_through begun log) (done ++ log ∷ rest))
      × Room (begun_through begun log) others
  log_leads w begun done rest [] others up low fits room = (
    w,
    higher w up,
    none_left b.head.client_names.names b.head.key_names.names all (log_at b w begun (done ++ [] ∷ rest)) (log_at b w begun (done ++ [] ∷ rest)) refl,
    λ c least. (let k = room c least in omega (arith, k)),
  )
    where
      higher : (w : Option ℕ) → IsUpTo (length done) w → IsUpTo (suc (length done)) w
      higher None h = tt
      higher (Some column) h = omega (arith, h)
  log_leads w begun done rest (step ∷ more) others up low fits room =
      let q = and_parts (step_fits (history b.head all) step) (list_all (step_fits (history b.head all)) more) fits in
      let by = begins_low (history b.head all) step q.0 in
      let next = begun_after begun step in
      let k = steps_lead done rest next (step ∷ []) more others q.1 (room_after begun step more others by room) in
      let s = log_at b w begun (done ++ [] ∷ rest) in
      let h = steps_at b sections.Column done rest begun [] in
      let m = steps_at b sections.Log done rest next (step ∷ []) in
      let t = steps_at b sections.Log done rest (begun_through next more) (step ∷ more) in (
        Some (length done),
        omega arith,
        first b.head.client_names.names b.head.key_names.names all s h t (Heads (length done)) (step_line begun step ∷ step_lines next more)
            (heading_next w begun (done ++ [] ∷ rest) (length done) up low)
            (heading_leaves w begun done rest [])
            (first b.head.client_names.names b.head.key_names.names all h m t (step_line begun step) (step_lines next more)
            (step_next sections.Column refl done rest begun [] step more others q.0 room)
            (step_leaves sections.Column done rest begun [] step)
            k.0),
        k.1,
      )

  pub logs_lead : (w : Option ℕ) (begun : List ℕ) (done todo : List (List Step)) (others : ℕ → ℕ) → IsUpTo (length done) w
      → length done + length todo ≤ b.head.columns → list_all (list_all (step_fits (history b.head all))) todo ≡ true
      → Room begun (λ c. begins_through todo c + others c)
      → (y : Option ℕ)
      × To (log_at b w begun (done ++ replicate (length todo) [])) (logs_lines begun (length done) todo) (log_at b y (begun_in begun todo) (done ++ todo))
      × Room (begun_in begun todo) others
  logs_lead w begun done [] others up low fits room = (
    w,
    none_left b.head.client_names.names b.head.key_names.names all (log_at b w begun (done ++ [])) (log_at b w begun (done ++ [])) refl,
    λ c least. (let k = room c least in omega (arith, k)),
  )
  logs_lead w begun done (log ∷ logs) others up low fits room =
      let run = history b.head all in
      let q = and_parts (list_all (step_fits run) log) (list_all (list_all (step_fits run)) logs) fits in
      let rest = replicate (length logs) [] in
      let one = log_leads w begun done rest log (λ c. begins_through logs c + others c) up (omega (arith, low)) q.0
      (λ c least. (let k = room c least in let e = sum-cons (begins log c) (map (count_by (begins_of c)) logs) in omega (arith, k, e))) in
      let later = begun_through begun log in
      let longer = length-append done (log ∷ []) in
      let k = logs_lead one.0 later (done ++ log ∷ []) logs others (further one.0 (length done) (length (done ++ log ∷ [])) longer one.1) (omega (arith, low, longer)) q.1 one.3 in
      let s = log_at b w begun (done ++ [] ∷ rest) in
      let m = log_at b one.0 later (done ++ log ∷ rest) in
      let t = log_at b k.0 (begun_in later logs) (done ++ log ∷ logs) in
      let from : To m (logs_lines later (length done + 1) logs) t =
      subst (λ (n : ℕ). To m (logs_lines later n logs) t) longer
      (subst (λ (l : List (List Step)). To (log_at b one.0 later l) (logs_lines later (length (done ++ log ∷ [])) logs) t) (append_assoc done (log ∷ []) rest)
      (subst (λ (l : List (List Step)). To (log_at b one.0 later ((done ++ log ∷ []) ++ rest)) (logs_lines later (length (done ++ log ∷ [])) logs) (log_at b k.0 (begun_in later logs) l)) (append_assoc done (log ∷ []) logs) k.1)) in (
        k.0,
        then b.head.client_names.names b.head.key_names.names all s m t (log_lines begun (length done) log) (logs_lines later (length done + 1) logs) one.2 from,
        k.2,
      )
    where
      further : (w : Option ℕ) (n m : ℕ) → m ≡ n + 1 → IsUpTo (suc n) w → IsUpTo m w
      further None n m e h = tt
      further (Some column) n m e h = omega (arith, e, h)
