-- At every time that named steps lead to, each client has as many places left as it can still begin attempts, and so the named step is enabled.
use Rattle.std.proofs.Common.{◌≡◌, ◌∙◌, ◌≤◌, ℕ, zero, suc, ◌+◌, ◌*◌, Bool, true, false, refl, sym, subst, ap, arith, List, [], ◌∷◌, map, None, if◌then◌else◌}
use Rattle.std.specs.Prelude.{◌==◌, sum_by, slice_index_or}
use Rattle.std.proofs.lemmas.Nat.{mul-le}
use Rattle.std.proofs.lemmas.List.Sums.{sum_by-cons}
use Rattle.mk_lists.specs.Among.{Each}
use Rattle.mk_trim.specs.declared.ReplicaView.{ReplicaView}
use Rattle.mk_words.specs.declared.GlobalEntry.{GlobalEntry}
use Rattle.mk_words.specs.declared.GlobalLine.{GlobalLine}
use Rattle.mk_words.specs.declared.GlobalLine.TheVariants.{Wipe, Ask, Promise, Merge, Adopt, Enter}
use Rattle.mk_model.specs.GlobalAnswers.{is_accepted}
use Rattle.mk_script.specs.Scripts.{ScriptParts, txn_count}
use Rattle.mk_script.specs.Whole.{IsWhole}
use Rattle.mk_script.specs.declared.lines.ClientLine.{ClientLine}
use Rattle.mk_script.specs.declared.lines.Round.{Round}
use Rattle.mk_faults.specs.Fates.{rules_of}
use Rattle.mk_words.specs.declared.Step.{Step}
use Rattle.mk_words.specs.declared.Step.TheVariants.{Key}
use Rattle.mk_model.specs.ColumnState.{Setting, ColumnState, ClientState, new_client}
use Rattle.mk_model.specs.Steps.{column_after}
use Rattle.mk_history.specs.Histories.{log_of, clients_of}
use Rattle.mk_driver.specs.RisingNumbers.{callers_rise, asked_numbers}
use Rattle.mk_driver.specs.declared.DriverState.{DriverState}
use Rattle.mk_driver.specs.declared.Caller.{Caller}
use Rattle.mk_driver.specs.declared.Submission.{Submission}
use Rattle.mk_driver.specs.declared.Next.{Next}
use Rattle.mk_driver.specs.declared.Next.TheVariants.{Step as StepNext, Key as KeyNext, Over}
use Rattle.mk_driver.specs.Keeping.{IsRising}
use Rattle.mk_driver.specs.Turns.{Choice, choice}
use Rattle.mk_driver.specs.Driven.{Standing, PastRound, IsNamed, asked_more, callers_from, client_columns_of, empty_round, first_standing, next_at, reset_by_line, reset_by_lines, round_at, round_ended, setting_in, standing_after, standing_at, standing_begun, standing_past, standing_through, submitted_by}
use Rattle.mk_driver_laws.specs.Enabled.{IsDone, AreDone, NamedIsEnabled}
use Rattle.mk_driver_laws.proofs.Lookups.{each_map}
use Rattle.mk_driver_laws.proofs.Sure.{is_sure}
use Rattle.mk_driver_laws.proofs.Remaining.{remaining, asked_remains}
use Rattle.mk_driver_laws.proofs.Places.{HasRoom, RoomFor, Placed, room_more, placed_after}
use Rattle.mk_driver_laws.proofs.PlaceChoices.{NamedPlaced, choice_placed}
use Rattle.mk_driver_laws.proofs.Standing.{named_with_place}

-- ---- how many attempts a script asks for

-- the lines of so many rounds
abbrev pub lines_before : ℕ → List Round → ℕ
lines_before zero rounds = 0
lines_before (suc n) [] = 0
lines_before (suc n) (round ∷ rounds) = txn_count round + lines_before n rounds

lines_next : (n : ℕ) (rounds : List Round) → lines_before (suc n) rounds ≡ lines_before n rounds + txn_count (slice_index_or rounds n empty_round)
lines_next zero [] = refl
lines_next zero (round ∷ rounds) = omega arith
lines_next (suc n) [] = refl
lines_next (suc n) (round ∷ rounds) = let rest = lines_next n rounds in omega (arith, rest)

lines_all : (n : ℕ) (rounds : List Round) → lines_before n rounds ≤ sum_by txn_count rounds
lines_all zero rounds = omega arith
lines_all (suc n) [] = omega arith
lines_all (suc n) (round ∷ rounds) =
    let rest = lines_all n rounds in let all = sum_by-cons txn_count round rounds in omega (arith, rest, all)

-- where so many rounds have begun: each of their lines is at most one attempt, and one for each try, and places begin with 1
abbrev pub limit_of : ScriptParts → ℕ → ℕ
limit_of script n = 1 + lines_before n script.rounds * (1 + script.retry)

-- never beyond the last place
limit_low : (script : ScriptParts) → IsWhole script → (n : ℕ) → limit_of script n ≤ 16385
limit_low script whole n =
    let head = whole.head in
    let rounds = whole.rounds in
    let retry : 1 + script.retry ≤ 4 = (let high = head.retry_high in omega (arith, high)) in
    let lines : lines_before n script.rounds ≤ 4096 = (let all = lines_all n script.rounds in let high = rounds.txns_few in omega (arith, all, high)) in
    let product = mul-le (lines_before n script.rounds) (1 + script.retry) 4096 4 lines retry in
    omega (arith, product)

limit_next : (script : ScriptParts) (n : ℕ) → limit_of script (n + 1) ≡ limit_of script n + txn_count (round_at script n) * (1 + script.retry)
limit_next script n =
    let more = lines_next n script.rounds in
    let both : (lines_before n script.rounds + txn_count (round_at script n)) * (1 + script.retry) ≡ lines_before n script.rounds * (1 + script.retry) + txn_count (round_at script n) * (1 + script.retry) = grind arith in
    let one : n + 1 ≡ suc n = omega arith in
    ap (limit_of script) one ∙ ap (λ (k : ℕ). 1 + k * (1 + script.retry)) more ∙ omega (arith, both)

-- ---- a step

abbrev pub StandingPlaced : ℕ → Standing → Type 0
StandingPlaced limit standing = let column = standing.column in let driver = standing.driver in Placed limit column.clients driver.callers

step_placed : (limit : ℕ) → limit ≤ 16385 → (script : ScriptParts) (views : List ReplicaView) (standing : Standing) (step : Step) → StandingPlaced limit standing →
    IsNamed (next_at script (setting_in script views) standing) step → StandingPlaced limit (standing_after script (setting_in script views) standing step)
step_placed limit few script views standing step h named =
    by chosen.next chosen.driver (choice_placed limit few (rules_of script) round standing.column standing.driver h) step named
  where
    round : Setting
    round = setting_in script views

    chosen : Choice
    chosen = choice (rules_of script) round standing.column standing.driver

    by : (next : Next) (d : DriverState) → NamedPlaced limit round standing.column next d → (step : Step) → IsNamed next step →
        Placed limit (column_after round standing.column step).clients d.callers
    by (StepNext other) d k step n = subst (λ (s : Step). Placed limit (column_after round standing.column s).clients d.callers) (sym n) k.1
    by (KeyNext call) d k (Key called answer) n = placed_after limit round standing.column (Key called answer) refl d.callers k
    by Over d k step n = absurd n
    by (KeyNext call) d k _ n = absurd n

through_placed : (limit : ℕ) → limit ≤ 16385 → (script : ScriptParts) (views : List ReplicaView) (standing : Standing) (log : List Step) → StandingPlaced limit standing →
    IsDone script (setting_in script views) standing log → StandingPlaced limit (standing_through script (setting_in script views) standing log)
through_placed limit few script views standing [] h done = h
through_placed limit few script views standing (step ∷ steps) h done =
    through_placed limit few script views (standing_after script (setting_in script views) standing step) steps (step_placed limit few script views standing step h done.0) done.2

-- ---- the end of a round

line_clients : (line : GlobalLine) (c : ColumnState) → (reset_by_line line c).clients ≡ c.clients
line_clients (Wipe r) c = refl
line_clients (Adopt epoch r) c = refl
line_clients (Ask epoch) c = refl
line_clients (Promise epoch r) c = refl
line_clients (Merge epoch) c = refl
line_clients (Enter epoch) c = refl

lines_clients : (entries : List GlobalEntry) (c : ColumnState) → (reset_by_lines entries c).clients ≡ c.clients
lines_clients [] c = refl
lines_clients (entry ∷ entries) c =
    head (is_accepted entry.answer) (lines_clients entries (reset_by_line entry.line c) ∙ line_clients entry.line c) (lines_clients entries c)
  where
    head : (b : Bool) → (reset_by_lines entries (reset_by_line entry.line c)).clients ≡ c.clients → (reset_by_lines entries c).clients ≡ c.clients →
        (reset_by_lines entries (if b then reset_by_line entry.line c else c)).clients ≡ c.clients
    head true one other = one
    head false one other = other

ended_placed : (limit : ℕ) → limit ≤ 16385 → (script : ScriptParts) (views : List ReplicaView) (globals : List GlobalEntry) (standing : Standing) → StandingPlaced limit standing →
    next_at script (setting_in script views) standing ≡ Over → StandingPlaced limit (round_ended script (setting_in script views) globals standing)
ended_placed limit few script views globals standing h over =
    subst (λ (clients : List ClientState). Placed limit clients callers) (sym (lines_clients globals standing.column))
    (subst (λ (next : Next). NamedPlaced limit round standing.column next chosen.driver) over (choice_placed limit few (rules_of script) round standing.column standing.driver h))
  where
    round : Setting
    round = setting_in script views

    chosen : Choice
    chosen = choice (rules_of script) round standing.column standing.driver

    callers : List Caller
    callers = let driver = chosen.driver in driver.callers

-- ---- the beginning of a round

asked_room : (limit other : ℕ) (clients : List ClientState) (submissions : List Submission) → ((x : Caller) → remaining (asked_more submissions x) + limit ≤ remaining x + other) →
    (xs : List Caller) → Each (RoomFor limit clients) xs → Each (RoomFor other clients) (map (asked_more submissions) xs)
asked_room limit other clients submissions e [] h = tt
asked_room limit other clients submissions e (x ∷ xs) h =
    (room_more limit other x.number (remaining x) (remaining (asked_more submissions x)) clients (e x) h.0, asked_room limit other clients submissions e xs h.1)

begun_placed : (script : ScriptParts) (n : ℕ) (standing : Standing) → StandingPlaced (limit_of script n) standing → StandingPlaced (limit_of script (n + 1)) (standing_begun script n standing)
begun_placed script n standing h =
    record {
      rising = subst IsRising (sym (asked_numbers submissions callers)) h.rising;
      room = asked_room (limit_of script n) (limit_of script (n + 1)) clients submissions asked callers h.room;
    }
  where
    round : Round
    round = round_at script n

    submissions : List Submission
    submissions = map (submitted_by script.retry) round.txns

    callers : List Caller
    callers = let driver = standing.driver in driver.callers

    clients : List ClientState
    clients = let column = standing.column in column.clients

    asked : (x : Caller) → remaining (asked_more submissions x) + limit_of script n ≤ remaining x + limit_of script (n + 1)
    asked x =
        let more = asked_remains script.retry round.txns x in
        let next = limit_next script n in
        omega (arith, more, next)

-- ---- the first round

new_room : (x : Caller) → remaining x ≡ 0 → (numbers : List ℕ) → RoomFor 1 (map new_client numbers) x
new_room x none numbers = each_map (λ (cl : ClientState). HasRoom 1 x.number (remaining x) cl.number cl.next_seq) new_client (λ n q. omega (arith, none)) numbers

first_room : (numbers : List ℕ) (column n : ℕ) (lines : List ClientLine) → Each (RoomFor 1 (map new_client numbers)) (callers_from column n lines)
first_room numbers column n [] = tt
first_room numbers column n (line ∷ lines) = head (line.column == column) (first_room numbers column (n + 1) lines)
  where
    head : (b : Bool) → Each (RoomFor 1 (map new_client numbers)) (callers_from column (n + 1) lines) →
        Each (RoomFor 1 (map new_client numbers))
        (if b then record { number = n; home = line.home; under_way = None; retries = []; lines = []; trials = [] } ∷ callers_from column (n + 1) lines
        else callers_from column (n + 1) lines)
    head true rest = (new_room (record { number = n; home = line.home; under_way = None; retries = []; lines = []; trials = [] }) refl numbers, rest)
    head false rest = rest

first_placed : (script : ScriptParts) (c : ℕ) → StandingPlaced (limit_of script 0) (first_standing script c)
first_placed script c =
    record {
      rising = callers_rise c 1 script.clients;
      room = subst (λ (limit : ℕ). Each (RoomFor limit (map new_client numbers)) (callers_from c 1 script.clients)) first (first_room numbers c 1 script.clients);
    }
  where
    numbers : List ℕ
    numbers = clients_of c 1 (client_columns_of script)

    first : 1 ≡ limit_of script 0
    first = omega arith

-- ---- all rounds

placed_more : (limit other : ℕ) → limit ≤ other → (standing : Standing) → StandingPlaced limit standing → StandingPlaced other standing
placed_more limit other e standing h = record { rising = h.rising; room = all callers h.room }
  where
    callers : List Caller
    callers = let driver = standing.driver in driver.callers

    clients : List ClientState
    clients = let column = standing.column in column.clients

    all : (xs : List Caller) → Each (RoomFor limit clients) xs → Each (RoomFor other clients) xs
    all [] h = tt
    all (x ∷ xs) h = (room_more limit other x.number (remaining x) (remaining x) clients (omega (arith, e)) h.0, all xs h.1)

past_placed : (script : ScriptParts) → IsWhole script → (c n : ℕ) (standing : Standing) (rounds : List PastRound) → StandingPlaced (limit_of script n) standing →
    AreDone script c n standing rounds → StandingPlaced 16385 (standing_past script c n standing rounds)
past_placed script whole c n standing [] h done =
    placed_more (limit_of script (n + 1)) 16385 (limit_low script whole (n + 1)) (standing_begun script n standing) (begun_placed script n standing h)
past_placed script whole c n standing (past ∷ rounds) h done =
    let limit = limit_of script (n + 1) in
    let few = limit_low script whole (n + 1) in
    let round = setting_in script past.views in
    let begun = standing_begun script n standing in
    let last = standing_through script round begun (log_of past.round c) in
    past_placed script whole c (n + 1) (round_ended script round past.round.globals last) rounds
    (ended_placed limit few script past.views past.round.globals last
    (through_placed limit few script past.views begun (log_of past.round c) (begun_placed script n standing h) done.0) done.1)
    done.2

-- wherever the turns name a step, it is enabled
pub named_is_enabled : NamedIsEnabled
named_is_enabled script whole c rounds views log come step e =
    let standing = standing_at script c rounds views log in
    let round = setting_in script views in
    let placed : StandingPlaced 16385 standing =
    through_placed 16385 (omega arith) script views (standing_past script c 0 (first_standing script c) rounds) log
    (past_placed script whole c 0 (first_standing script c) rounds (first_placed script c) come.past) come.done in
    let named = subst (λ (next : Next). NamedPlaced 16385 round standing.column next (let chosen = choice (rules_of script) round standing.column standing.driver in chosen.driver)) e
    (choice_placed 16385 (omega arith) (rules_of script) round standing.column standing.driver placed) in
    is_sure round standing.column step (named_with_place script whole c rounds views log come step e) named.0
