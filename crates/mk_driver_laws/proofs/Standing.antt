-- At every time that named steps lead to, the driver's tasks and clients mean of the column what they should.
use Rattle.std.proofs.Common.{inl, inr, ◌≡◌, ◌∙◌, ◌<◌, ◌≤◌, ℕ, ◌+◌, Bool, true, false, refl, sym, subst, ap, arith, List, [], ◌∷◌, map, length, Option, Some, None, if◌then◌else◌}
use Rattle.std.specs.Prelude.{find, option_map, ◌==◌}
use Rattle.std.specs.List.{list_any}
use Rattle.mk_lists.specs.Among.{Each, Each-weaker}
use Rattle.mk_txn.specs.declared.TxnId.{TxnId}
use Rattle.mk_trim.specs.declared.ReplicaView.{ReplicaView}
use Rattle.mk_words.specs.declared.GlobalEntry.{GlobalEntry}
use Rattle.mk_words.specs.declared.GlobalLine.{GlobalLine}
use Rattle.mk_words.specs.declared.GlobalLine.TheVariants.{Wipe, Ask, Promise, Merge, Adopt, Enter}
use Rattle.mk_model.specs.GlobalAnswers.{is_accepted}
use Rattle.mk_words.specs.declared.Msg.{Msg}
use Rattle.mk_quorum.specs.Slots.{passes}
use Rattle.mk_script.specs.declared.lines.Point.{Point}
use Rattle.mk_script.specs.declared.lines.Point.TheVariants.{Read as AfterRead, Votes as AfterVotes, Accepts as AfterAccepts}
use Rattle.mk_script.specs.Scripts.{ScriptParts}
use Rattle.mk_script.specs.Whole.{IsWhole}
use Rattle.mk_script.specs.declared.lines.ClientLine.{ClientLine}
use Rattle.mk_faults.specs.Fates.{rules_of}
use Rattle.mk_words.specs.declared.Answer.{Answer}
use Rattle.mk_words.specs.declared.KeyCall.{KeyCall}
use Rattle.mk_words.specs.declared.Step.{Step}
use Rattle.mk_words.specs.declared.Step.TheVariants.{Key}
use Rattle.mk_model.specs.ColumnState.{Setting, ColumnState, AttemptState, attempt_of, is_attempt, new_column}
use Rattle.mk_model.specs.Conditions.{blocked, is_stamped, is_validate_of}
use Rattle.mk_model.specs.Steps.{column_after}
use Rattle.mk_model.specs.Logs.{not_reading, reading_ended, replica_reset}
use Rattle.mk_history.specs.Histories.{log_of, clients_of}
use Rattle.mk_driver.specs.RisingNumbers.{callers_rise, asked_numbers}
use Rattle.mk_driver.specs.declared.DriverState.{DriverState}
use Rattle.mk_driver.specs.declared.Caller.{Caller}
use Rattle.mk_driver.specs.declared.Stage.{Stage}
use Rattle.mk_driver.specs.declared.Submission.{Submission}
use Rattle.mk_driver.specs.declared.Next.{Next}
use Rattle.mk_driver.specs.declared.Next.TheVariants.{Step as StepNext, Key as KeyNext, Over}
use Rattle.mk_driver.specs.declared.Task.{Task}
use Rattle.mk_driver.specs.declared.Task.TheVariants.{Take}
use Rattle.mk_driver.specs.Keeping.{IsRising, numbers_of}
use Rattle.mk_driver.specs.Turns.{Choice, choice}
use Rattle.mk_driver.specs.Driven.{Standing, PastRound, IsNamed, asked_more, callers_from, client_columns_of, first_standing, lines_of_round, next_at, reset_by_line, reset_by_lines, round_at, round_ended, setting_in, standing_after, standing_at, standing_begun, standing_past, standing_through, turn}
use Rattle.mk_driver_laws.specs.Enabled.{IsDone, AreDone, HasCome}
use Rattle.mk_driver_laws.proofs.Sure.{IsSureWithPlace}
use Rattle.mk_driver_laws.proofs.ColumnMoves.{Moves, stays_unsent, AttemptFits, ColumnFits, column_fits}
use Rattle.mk_driver_laws.proofs.Taking.{step_moves}
use Rattle.mk_driver_laws.proofs.Frames.{key_keeps, link_grows, stays_going, is_live, IsLive}
use Rattle.mk_driver_laws.proofs.DriverFits.{WholeFits, whole_plain, whole_split, behind_more, InLink, StageFits, UnderWayFits, CallerFits, TasksFit, DriverFits}
use Rattle.mk_driver_laws.proofs.Walk.{harmless_after}
use Rattle.mk_driver_laws.proofs.Named.{NamedFits}
use Rattle.mk_driver_laws.proofs.Reading.{Reads, step_reads}
use Rattle.mk_driver_laws.proofs.Choices.{choice_fits}
use Rattle.mk_driver_laws.proofs.Requests.{round_asks}
use Rattle.mk_driver_laws.proofs.ReadKeys.{key_goes}
use Rattle.mk_driver_laws.proofs.Asked.{Asks, asked_asks, choice_asks, new_asks}

-- a column and a driver with these tasks left
pub record StandingFits (f keys : ℕ) (tasks : List Task) (standing : Standing) : Type 0 where
  pub column : ColumnFits f standing.column
  pub driver : WholeFits standing.column standing.driver tasks
  pub asks : Asks keys standing.driver

abbrev pub Fits : ScriptParts → Standing → Type 0
Fits script standing = let driver = standing.driver in StandingFits script.size (length script.keys) driver.agenda standing

-- ---- a step

-- a key call is answered
key_fits : (round : Setting) (c : ColumnState) → ColumnFits round.faults c → (call : KeyCall) (answer : Answer) → blocked round c (Key call answer) ≡ None →
    (tasks : List Task) (d : DriverState) → WholeFits c d tasks → WholeFits (column_after round c (Key call answer)) d tasks
key_fits round c k call answer b tasks d h =
    elim (whole_split c tasks d h) [
      | inl f ↦ (let id = f.id in let fetch = f.fetch in let rest = f.rest in
          subst (λ (ts : List Task). WholeFits new d ts) (sym f.first) (
            (stays_going round.faults c new step m id refl fetch.0, stays_unsent round.faults c new step k m id refl fetch.1, fetch.2, key_goes round c d.callers id call answer b fetch.3, key_keeps round c call answer id fetch.4),
            step_reads (λ other. other ≡ id) round c step refl f.one,
            behind_more (length c.link) (length new.link) (link_grows round.faults c new step m) rest f.behind,
            harmless_after round c k step ((λ i. refl), λ i u. refl) b rest d f.driver,
          ))
      | inr n ↦ whole_plain new tasks d (step_reads (λ i. ⊥) round c step refl n.0) (harmless_after round c k step ((λ i. refl), λ i u. refl) b tasks d n.1)
    ]
  where
    step : Step
    step = Key call answer

    new : ColumnState
    new = column_after round c step

    m : Moves round.faults c new step
    m = step_moves round c step k b

step_fits : (script : ScriptParts) (views : List ReplicaView) (standing : Standing) (step : Step) → Fits script standing →
    IsNamed (next_at script (setting_in script views) standing) step → blocked (setting_in script views) standing.column step ≡ None →
    Fits script (standing_after script (setting_in script views) standing step)
step_fits script views standing step fits named b =
    record {
      column = column_fits script.size standing.column (column_after round standing.column step) step fits.column (step_moves round standing.column step fits.column b);
      driver = by chosen.next chosen.driver (choice_fits (rules_of script) round standing.column fits.column standing.driver fits.asks fits.driver) step named b;
      asks = choice_asks (rules_of script) round standing.column (length script.keys) standing.driver fits.asks;
    }
  where
    round : Setting
    round = setting_in script views

    chosen : Choice
    chosen = choice (rules_of script) round standing.column standing.driver

    by : (next : Next) (d : DriverState) → NamedFits round standing.column next d → (step : Step) → IsNamed next step → blocked round standing.column step ≡ None →
        WholeFits (column_after round standing.column step) d d.agenda
    by (StepNext other) d h step n b =
        subst (λ (s : Step). WholeFits (column_after round standing.column s) d d.agenda) (sym n)
        (h.1 (subst (λ (s : Step). blocked round standing.column s ≡ None) n b))
    by (KeyNext call) d h (Key called answer) n b = key_fits round standing.column fits.column called answer b d.agenda d h
    by Over d h step n b = absurd n
    by (KeyNext call) d h _ n b = absurd n

through_fits : (script : ScriptParts) (views : List ReplicaView) (standing : Standing) (log : List Step) → Fits script standing →
    IsDone script (setting_in script views) standing log → Fits script (standing_through script (setting_in script views) standing log)
through_fits script views standing [] fits done = fits
through_fits script views standing (step ∷ steps) fits done =
    through_fits script views (standing_after script (setting_in script views) standing step) steps (step_fits script views standing step fits done.0 done.1) done.2

-- ---- the end of a round

find_map : {X : Type 0} (p : X → Bool) (f : X → X) (xs : List X) → ((x : X) → p (f x) ≡ p x) → find p (map f xs) ≡ option_map f (find p xs)
find_map p f [] same = refl
find_map p f (x ∷ xs) same = grind (arith, same x, find_map p f xs same)

-- the attempts and the messages stay, but that none reads
pub record IsAtEnd (c new : ColumnState) : Type 0 where
  pub fits : (f : ℕ) → ColumnFits f c → ColumnFits f new
  pub link : new.link ≡ c.link
  pub live : (id : TxnId) → IsLive c id → IsLive new id

pub ended_after : (c : ColumnState) → IsAtEnd c (reading_ended c)
ended_after c = record { fits = fits; link = refl; live = live }
  where
    found : (id : TxnId) → attempt_of (reading_ended c) id ≡ option_map not_reading (attempt_of c id)
    found id = find_map (is_attempt id) not_reading c.attempts (λ x. refl)

    mapped : (test : AttemptState → Bool) → ((x : AttemptState) → test (not_reading x) ≡ test x) → (o : Option AttemptState) → passes test o ≡ true → passes test (option_map not_reading o) ≡ true
    mapped test same (Some x) e = same x ∙ e
    mapped test same None e = e

    kept : (test : AttemptState → Bool) → ((x : AttemptState) → test (not_reading x) ≡ test x) → (id : TxnId) → passes test (attempt_of c id) ≡ true → passes test (attempt_of (reading_ended c) id) ≡ true
    kept test same id e = subst (λ (o : Option AttemptState). passes test o ≡ true) (sym (found id)) (mapped test same (attempt_of c id) e)

    live : (id : TxnId) → IsLive c id → IsLive (reading_ended c) id
    live id e = kept is_live (λ x. refl) id e

    before : (id : TxnId) (a : AttemptState) → attempt_of (reading_ended c) id ≡ Some a → (x : AttemptState) × (attempt_of c id ≡ Some x) × (not_reading x ≡ a)
    before id a e = by (attempt_of c id) refl (sym (found id) ∙ e)
      where
        by : (o : Option AttemptState) → attempt_of c id ≡ o → option_map not_reading (attempt_of c id) ≡ Some a → (x : AttemptState) × (attempt_of c id ≡ Some x) × (not_reading x ≡ a)
        by None q z = absurd (cc (sym z ∙ ap (option_map not_reading) q))
        by (Some x) q z = let same : not_reading x ≡ a = cc (sym (ap (option_map not_reading) q) ∙ z) in (x, q, same)

    fits : (f : ℕ) → ColumnFits f c → ColumnFits f (reading_ended c)
    fits f k =
        record {
          attempts = λ id a e. (let b = before id a e in let h = k.attempts id b.0 b.1 in
              subst (λ (x : AttemptState). AttemptFits f c.link id x) b.2 (record { coord = h.coord; acts = h.acts }));
          stamped = λ id w. kept is_stamped (λ x. refl) id (k.stamped id w);
          sent = k.sent;
          takeovers = k.takeovers;
          work = k.work;
          below = λ id a e. (let b = before id a e in k.below id b.0 b.1);
        }

reset_after : (r : ℕ) (c : ColumnState) → IsAtEnd c (replica_reset r c)
reset_after r c =
    record {
      fits = λ f k. record { attempts = k.attempts; stamped = k.stamped; sent = k.sent; takeovers = k.takeovers; work = k.work; below = k.below };
      link = refl;
      live = λ id e. e;
    }

same_end : (c : ColumnState) → IsAtEnd c c
same_end c = record { fits = λ f k. k; link = refl; live = λ id e. e }

then_end : (a b c : ColumnState) → IsAtEnd a b → IsAtEnd b c → IsAtEnd a c
then_end a b c h k = record { fits = λ f x. k.fits f (h.fits f x); link = k.link ∙ h.link; live = λ id e. k.live id (h.live id e) }

line_after : (line : GlobalLine) (c : ColumnState) → IsAtEnd c (reset_by_line line c)
line_after (Wipe r) c = reset_after r c
line_after (Adopt epoch r) c = reset_after r c
line_after (Ask epoch) c = same_end c
line_after (Promise epoch r) c = same_end c
line_after (Merge epoch) c = same_end c
line_after (Enter epoch) c = same_end c

lines_after : (entries : List GlobalEntry) (c : ColumnState) → IsAtEnd c (reset_by_lines entries c)
lines_after [] c = same_end c
lines_after (entry ∷ entries) c =
    head (is_accepted entry.answer)
    (then_end c (reset_by_line entry.line c) (reset_by_lines entries (reset_by_line entry.line c)) (line_after entry.line c) (lines_after entries (reset_by_line entry.line c)))
    (lines_after entries c)
  where
    head : (b : Bool) → IsAtEnd c (reset_by_lines entries (reset_by_line entry.line c)) → IsAtEnd c (reset_by_lines entries c) →
        IsAtEnd c (reset_by_lines entries (if b then reset_by_line entry.line c else c))
    head true one other = one
    head false one other = other

driver_at_end : (c new : ColumnState) → IsAtEnd c new → (d : DriverState) → DriverFits c [] d → DriverFits new [] d
driver_at_end c new end d h =
    record {
      tasks_fit = tt;
      late = subst (λ (n : ℕ). Each (InLink n) d.late) (sym (ap length end.link)) h.late;
      held = subst (λ (n : ℕ). Each (InLink n) d.held) (sym (ap length end.link)) h.held;
      callers = Each-weaker (CallerFits c) (CallerFits new) (λ x. caller x.number x.under_way) d.callers h.callers;
      rising = h.rising;
    }
  where
    stage : (id : TxnId) (point : Point) → StageFits c id point → StageFits new id point
    stage id AfterRead z =
        (end.live id z.0, subst (λ (l : List Msg). list_any (is_validate_of id) l ≡ false) (sym end.link) z.1)
    stage id AfterVotes z = end.live id z
    stage id AfterAccepts z = end.live id z

    caller : (n : ℕ) (u : Option Stage) → UnderWayFits c n u → UnderWayFits new n u
    caller n None z = tt
    caller n (Some s) z = (z.0, stage s.id s.reached z.1)

none_end : (xs : List AttemptState) → Reads (λ id. ⊥) (map not_reading xs)
none_end [] = tt
none_end (x ∷ xs) = ((λ r. cc r), none_end xs)

-- where nothing is named any more, no task is left
ended_fits : (script : ScriptParts) (views : List ReplicaView) (globals : List GlobalEntry) (standing : Standing) → Fits script standing →
    next_at script (setting_in script views) standing ≡ Over → StandingFits script.size (length script.keys) [] (round_ended script (setting_in script views) globals standing)
ended_fits script views globals standing fits over =
    record {
      column = end.fits script.size fits.column;
      driver = (
        none_end (reset_by_lines globals standing.column).attempts,
        driver_at_end standing.column (reading_ended (reset_by_lines globals standing.column)) end chosen.driver (at_over over_fits),
      );
      asks = choice_asks (rules_of script) round standing.column (length script.keys) standing.driver fits.asks;
    }
  where
    round : Setting
    round = setting_in script views

    chosen : Choice
    chosen = choice (rules_of script) round standing.column standing.driver

    over_fits : NamedFits round standing.column Over chosen.driver
    over_fits = subst (λ (next : Next). NamedFits round standing.column next chosen.driver) over (choice_fits (rules_of script) round standing.column fits.column standing.driver fits.asks fits.driver)

    at_over : NamedFits round standing.column Over chosen.driver → DriverFits standing.column [] chosen.driver
    at_over h = h.1

    end : IsAtEnd standing.column (reading_ended (reset_by_lines globals standing.column))
    end = then_end standing.column (reset_by_lines globals standing.column) (reading_ended (reset_by_lines globals standing.column))
        (lines_after globals standing.column) (ended_after (reset_by_lines globals standing.column))

-- ---- the beginning of a round

held_fit : (c : ColumnState) (callers : List Caller) (numbers : List ℕ) → Each (InLink (length c.link)) numbers → TasksFit c callers (map (λ number. Take number) numbers)
held_fit c callers [] h = tt
held_fit c callers (number ∷ numbers) h = (h.0, held_fit c callers numbers h.1)

asked_callers : (c : ColumnState) (submissions : List Submission) (xs : List Caller) → Each (CallerFits c) xs → Each (CallerFits c) (map (asked_more submissions) xs)
asked_callers c submissions [] h = tt
asked_callers c submissions (x ∷ xs) h = (h.0, asked_callers c submissions xs h.1)

begun_fits : (script : ScriptParts) → IsWhole script → (number : ℕ) (standing : Standing) → StandingFits script.size (length script.keys) [] standing → Fits script (standing_begun script number standing)
begun_fits script whole number standing h =
    let d = h.driver.1 in
    let lines = lines_of_round script (round_at script number) in
    let begun = standing_begun script number standing in
    record {
      column = h.column;
      driver = whole_plain standing.column (map (λ number. Take number) standing.driver.held) begun.driver h.driver.0 (record {
        tasks_fit = held_fit standing.column _ standing.driver.held d.held;
        late = d.late;
        held = tt;
        callers = asked_callers standing.column lines.submissions standing.driver.callers d.callers;
        rising = subst IsRising (sym (asked_numbers lines.submissions standing.driver.callers)) d.rising;
      });
      asks = asked_asks (length script.keys) lines.submissions standing.driver.callers (round_asks script whole number) h.asks;
    }

-- ---- the first round

first_callers : (c : ColumnState) (column n : ℕ) (lines : List ClientLine) → Each (CallerFits c) (callers_from column n lines)
first_callers c column n [] = tt
first_callers c column n (line ∷ lines) = head (line.column == column) (first_callers c column (n + 1) lines)
  where
    head : (b : Bool) → Each (CallerFits c) (callers_from column (n + 1) lines) →
        Each (CallerFits c) (if b then record { number = n; home = line.home; under_way = None; retries = []; lines = []; trials = [] } ∷ callers_from column (n + 1) lines
        else callers_from column (n + 1) lines)
    head true rest = (tt, rest)
    head false rest = rest

first_fits : (script : ScriptParts) (c : ℕ) → StandingFits script.size (length script.keys) [] (first_standing script c)
first_fits script c =
    record {
      column = record {
        attempts = λ id a e. absurd (cc e);
        stamped = λ id w. absurd (cc w);
        sent = tt;
        takeovers = λ id view t e. absurd (cc e);
        work = tt;
        below = λ id a e. absurd (cc e);
      };
      driver = (
        tt,
        record {
          tasks_fit = tt;
          late = tt;
          held = tt;
          callers = first_callers (new_column script.size (clients_of c 1 (client_columns_of script))) c 1 script.clients;
          rising = callers_rise c 1 script.clients;
        },
      );
      asks = new_asks (length script.keys) c 1 script.clients;
    }

past_fits : (script : ScriptParts) → IsWhole script → (c number : ℕ) (standing : Standing) (rounds : List PastRound) → StandingFits script.size (length script.keys) [] standing →
    AreDone script c number standing rounds → Fits script (standing_past script c number standing rounds)
past_fits script whole c number standing [] h done = begun_fits script whole number standing h
past_fits script whole c number standing (past ∷ rounds) h done =
    past_fits script whole c (number + 1) _ rounds
    (ended_fits script past.views past.round.globals _
    (through_fits script past.views (standing_begun script number standing) (log_of past.round c) (begun_fits script whole number standing h) done.0) done.1)
    done.2

-- what holds of driver and column wherever named steps lead to
pub come_fits : (script : ScriptParts) → IsWhole script → (c : ℕ) (rounds : List PastRound) (views : List ReplicaView) (log : List Step) →
    HasCome script c rounds views log → Fits script (standing_at script c rounds views log)
come_fits script whole c rounds views log come =
    through_fits script views (standing_past script c 0 (first_standing script c) rounds) log
    (past_fits script whole c 0 (first_standing script c) rounds (first_fits script c) come.past) come.done

-- wherever the turns name a step, it is enabled once its client is known to have a place left
pub named_with_place : (script : ScriptParts) → IsWhole script → (c : ℕ) (rounds : List PastRound) (views : List ReplicaView) (log : List Step) →
    HasCome script c rounds views log → (step : Step) → turn script c rounds views log ≡ StepNext step →
    IsSureWithPlace (setting_in script views) (let standing = standing_at script c rounds views log in standing.column) step
named_with_place script whole c rounds views log come step e =
    let standing = standing_at script c rounds views log in
    let fits = come_fits script whole c rounds views log come in
    let named = subst (λ (next : Next). NamedFits (setting_in script views) standing.column next (let chosen = choice (rules_of script) (setting_in script views) standing.column standing.driver in chosen.driver)) e
    (choice_fits (rules_of script) (setting_in script views) standing.column fits.column standing.driver fits.asks fits.driver) in
    named.0
