-- That the run of a script has the shape of a run.
use Rattle.std.proofs.Common.{◌≡◌, ◌⊎◌, ◌∙◌, ◌<◌, ◌≤◌, ◌+◌, ℕ, zero, suc, true, refl, sym, ap, subst, arith, inl, inr, List, [], ◌∷◌, ◌++◌, length, map, ◌*◌, length-append}
use Rattle.std.specs.Prelude.{nat_le, nat_lt, sum, sum_by, slice_get, slice_index_or, Some}
use Rattle.std.proofs.lemmas.Option.{same_Some}
use Rattle.std.specs.List.{AllByRecursion}
use Rattle.std.proofs.lemmas.Bool.{and_from}
use Rattle.std.proofs.lemmas.Bool.Decides.{nat_tests}
use Rattle.std.proofs.lemmas.List.{length-map, map-append}
use Rattle.std.proofs.lemmas.List.Sums.{sum_by-cons}
use Rattle.mk_lists.specs.Among.{Each}
use Rattle.mk_quorum.specs.Sizes.{members}
use Rattle.mk_words.specs.Lines.{line_fits, is_epoch}
use Rattle.mk_words.specs.declared.GlobalEntry.{GlobalEntry}
use Rattle.mk_words.specs.declared.GlobalLine.{GlobalLine}
use Rattle.mk_words.specs.declared.GlobalLine.TheVariants.{Wipe, Ask, Promise, Merge, Adopt, Enter}
use Rattle.mk_model.specs.EpochState.{views_of}
use Rattle.mk_history.specs.declared.RoundLog.{RoundLog}
use Rattle.mk_history.specs.Histories.{History}
use Rattle.mk_history.specs.Shape.{HasShape, IsRoundShape, begins_in}
use Rattle.mk_history.specs.Wholes.{WholeState, first_state, after_round}
use Rattle.mk_script.specs.declared.lines.ClientLine.{ClientLine}
use Rattle.mk_script.specs.declared.lines.Round.{Round}
use Rattle.mk_script.specs.Grammar.{GlobalFits}
use Rattle.mk_script.specs.Scripts.{ScriptParts, global_count}
use Rattle.mk_script.specs.Whole.{RoundsAt, IsWhole}
use Rattle.mk_driver.specs.Driven.{PastRound, EachRoundTurned, lines_in, round_at, empty_round}
use Rattle.mk_run_laws.specs.Cuts.{cut_round}
use Rattle.mk_run_laws.proofs.Cutting.{shapes_same}
use Rattle.mk_shape.specs.AttemptCounts.{FewAttempts}
use Rattle.mk_round.specs.Pasts.{run_of}
use Rattle.mk_store.proofs.NameLaws.{keys-named, clients-named, columns-few}

-- ---- how many global lines

-- each round has no more global lines than the script's round at its place
abbrev pub AreFewer : List RoundLog → List Round → Type 0
AreFewer [] lines = Unit {0}
AreFewer (round ∷ rounds) [] = ⊥
AreFewer (round ∷ rounds) (line ∷ lines) = (length round.globals ≤ length line.globals) × AreFewer rounds lines

fewer-sum : (rounds : List RoundLog) (lines : List Round) → AreFewer rounds lines → sum (map (λ round. length round.globals) rounds) ≤ sum_by global_count lines
fewer-sum [] lines h = omega arith
fewer-sum (round ∷ rounds) [] h = absurd h
fewer-sum (round ∷ rounds) (line ∷ lines) h =
    let counts = map (λ (r : RoundLog). length r.globals) rounds in
    let one : sum (length round.globals ∷ counts) ≡ length round.globals + sum counts = sum_by-cons (λ (n : ℕ). n) (length round.globals) counts in
    let two : sum_by global_count (line ∷ lines) ≡ length line.globals + sum_by global_count lines = sum_by-cons global_count line lines in
    let here : length round.globals ≤ length line.globals = h.0 in
    let rest : sum counts ≤ sum_by global_count lines = fewer-sum rounds lines h.1 in
    let goal : sum (length round.globals ∷ counts) ≤ sum_by global_count (line ∷ lines) = omega (arith, one, two, here, rest) in
    goal

pub fewer-push : (done : List RoundLog) (lines : List Round) (round : RoundLog) → AreFewer done lines → length done < length lines →
    length round.globals ≤ length (let its = slice_index_or lines (length done) empty_round in its.globals) → AreFewer (done ++ round ∷ []) lines
fewer-push [] [] round h left le = absurd (omega (arith, left))
fewer-push [] (line ∷ lines) round h left le = (le, tt)
fewer-push (r ∷ done) [] round h left le = absurd h
fewer-push (r ∷ done) (line ∷ lines) round h left le = (h.0, fewer-push done lines round h.1 (omega (arith, left)) le)

turned-fewer : (script : ScriptParts) (run : History) (before : List PastRound) (state : WholeState) (done : List RoundLog) (lines : List Round) →
    EachRoundTurned script run before state done → ((i : ℕ) → slice_index_or lines i empty_round ≡ round_at script (length before + i)) → length done ≤ length lines →
    AreFewer done lines
turned-fewer script run before state [] lines h at few = tt
turned-fewer script run before state (round ∷ done) [] h at few = absurd (omega (arith, few))
turned-fewer script run before state (round ∷ done) (line ∷ lines) h at few =
    (here, turned-fewer script run (before ++ past ∷ []) (after_round run round state) done lines h.2 next (omega (arith, few)))
  where
    past : PastRound
    past = record { views = views_of state.epochs; round = round }

    zero_more : length before + 0 ≡ length before
    zero_more = omega arith

    line_is : line ≡ round_at script (length before)
    line_is = at 0 ∙ ap (round_at script) zero_more

    long : length (lines_in round.globals) ≡ length line.globals
    long = ap (λ (ls : List GlobalLine). length ls) h.1 ∙ sym (ap (λ (r : Round). length r.globals) line_is)

    here : length round.globals ≤ length line.globals
    here = let same : length (lines_in round.globals) ≡ length round.globals = length-map round.globals (λ (entry : GlobalEntry). entry.line) in omega (arith, long, same)

    next : (i : ℕ) → slice_index_or lines i empty_round ≡ round_at script (length (before ++ past ∷ []) + i)
    next i =
        let count : length before + suc i ≡ length (before ++ past ∷ []) + i = (let k = length-append before (past ∷ []) in omega (arith, k)) in
        at (suc i) ∙ ap (round_at script) count

-- rounds that go by a script have no more lines than it
pub rounds-fewer : (script : ScriptParts) (done : List RoundLog) → EachRoundTurned script (run_of script []) [] (first_state (run_of script [])) done →
    length done ≤ length script.rounds → AreFewer done script.rounds
rounds-fewer script done h few =
    turned-fewer script (run_of script []) [] (first_state (run_of script [])) done script.rounds h (λ i. let same : i ≡ 0 + i = omega arith in ap (round_at script) same) few

-- ---- the lines of a script

below : (size r : ℕ) → r ≤ 2 * size → nat_lt r (members size) ≡ true
below size r h = grind (arith, nat_tests)

epoch_is : (epoch : ℕ) → 1 ≤ epoch → epoch ≤ 1000 → is_epoch epoch ≡ true
epoch_is epoch low high =
    let from : nat_le 1 epoch ≡ true = grind (arith, nat_tests) in
    let to : nat_le epoch 1000 ≡ true = grind (arith, nat_tests) in
    and_from (nat_le 1 epoch) (nat_le epoch 1000) from to

pub line-fits : (size : ℕ) (line : GlobalLine) → GlobalFits size line → line_fits (members size) line ≡ true
line-fits size (Wipe r) h = below size r h
line-fits size (Ask epoch) h = epoch_is epoch h.0 h.1
line-fits size (Promise epoch r) h = and_from (is_epoch epoch) (nat_lt r (members size)) (epoch_is epoch h.0 h.1) (below size r h.2)
line-fits size (Merge epoch) h = epoch_is epoch h.0 h.1
line-fits size (Adopt epoch r) h = and_from (is_epoch epoch) (nat_lt r (members size)) (epoch_is epoch h.0 h.1) (below size r h.2)
line-fits size (Enter epoch) h = epoch_is epoch h.0 h.1

all-lines : (size : ℕ) (lines : List GlobalLine) (i : ℕ) (line : GlobalLine) → AllByRecursion (GlobalFits size) lines → slice_get lines i ≡ Some line → GlobalFits size line
all-lines size [] i line h e = absurd cc
all-lines size (x ∷ xs) zero line h e = subst (GlobalFits size) (same_Some x line e) h.0
all-lines size (x ∷ xs) (suc i) line h e = all-lines size xs i line h.1 e

all-rounds : (version size : ℕ) (clients : List ClientLine) (keys : List (List ℕ)) (rounds : List Round) (after : List (List ℕ)) (i : ℕ) → RoundsAt version size clients keys rounds after →
    i < length rounds → AllByRecursion (GlobalFits size) (let its = slice_index_or rounds i empty_round in its.globals)
all-rounds version size clients keys [] after i h left = absurd (omega (arith, left))
all-rounds version size clients keys (round ∷ rounds) after zero h left = h.1.globals
all-rounds version size clients keys (round ∷ rounds) after (suc i) h left = all-rounds version size clients h.0 rounds after i h.2 (omega (arith, left))

-- each line of a script has its numbers in range
pub script-line-fits : (script : ScriptParts) (number i : ℕ) (line : GlobalLine) → IsWhole script → number < length script.rounds →
    slice_get (let its = round_at script number in its.globals) i ≡ Some line → line_fits (members script.size) line ≡ true
script-line-fits script number i line whole left at =
    line-fits script.size line
    (all-lines script.size (let its = round_at script number in its.globals) i line
    (all-rounds script.version script.size script.clients [] script.rounds script.keys number whole.rounds.numbered left) at)

-- ---- the shape

one-or-two : (version : ℕ) → 1 ≤ version → version ≤ 2 → (version ≡ 1) ⊎ (version ≡ 2)
one-or-two zero low high = absurd (omega (arith, low))
one-or-two (suc zero) low high = inl refl
one-or-two (suc (suc zero)) low high = inr refl
one-or-two (suc (suc (suc n))) low high = absurd (omega (arith, high))

-- a run of rounds that are no more than the script's
pub run-shape : (script : ScriptParts) (rounds : List RoundLog) → IsWhole script → 1 ≤ length rounds → length rounds ≤ length script.rounds → AreFewer rounds script.rounds →
    FewAttempts rounds → Each (IsRoundShape (run_of script [])) rounds → HasShape (run_of script rounds)
run-shape script rounds whole some within fewer few shapes =
    let clients : length (map (λ (line : ClientLine). line.name) script.clients) ≡ length script.clients = length-map script.clients (λ (line : ClientLine). line.name) in
    let columns : length (map (λ (line : ClientLine). line.column) script.clients) ≡ length script.clients = length-map script.clients (λ (line : ClientLine). line.column) in
    let few_clients : length script.clients ≤ 64 = whole.prelude.clients_few in
    let few_rounds : length script.rounds ≤ 16 = whole.rounds.few in
    let globals : sum_by global_count script.rounds ≤ 256 = whole.rounds.globals_few in
    let sum_is : sum (map (λ (round : RoundLog). length round.globals) rounds) ≤ sum_by global_count script.rounds = fewer-sum rounds script.rounds fewer in
    record {
      version = one-or-two script.version whole.head.version_low whole.head.version_high;
      faults = (whole.head.size_low, whole.head.size_high);
      columns = refl;
      few_columns = columns-few script whole;
      clients = clients ∙ sym columns;
      few_clients = omega (arith, clients, few_clients);
      few_keys = whole.rounds.keys_few;
      named_clients = (clients-named script whole).named;
      named_keys = (keys-named script whole).named;
      distinct_clients = (clients-named script whole).distinct;
      distinct_keys = (keys-named script whole).distinct;
      some_round = some;
      few_rounds = omega (arith, within, few_rounds);
      few_globals = omega (arith, globals, sum_is);
      few_attempts = few;
      rounds = shapes_same (run_of script []) rounds rounds shapes;
    }

-- a round with other lines begins as many attempts
pub begun-cut : (done : List RoundLog) (round : RoundLog) (entries : List GlobalEntry) (client : ℕ) →
    sum (map (begins_in client) (done ++ round ∷ [])) ≡ sum (map (begins_in client) (done ++ cut_round round entries ∷ []))
begun-cut done round entries client =
    ap (λ (counts : List ℕ). sum counts) (map-append (begins_in client) done (round ∷ []) ∙ sym (map-append (begins_in client) done (cut_round round entries ∷ [])))

pub few-cut : (done : List RoundLog) (round : RoundLog) (entries : List GlobalEntry) → FewAttempts (done ++ round ∷ []) → FewAttempts (done ++ cut_round round entries ∷ [])
few-cut done round entries few client = subst (λ (n : ℕ). n ≤ 16384) (begun-cut done round entries client) (few client)
