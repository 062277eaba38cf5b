-- What a driver with its column stands for, from step to step and from round to round.
use Rattle.std.proofs.Common.{◌≡◌, ℕ, zero, suc, ◌+◌, ◌∙◌, List, [], ◌∷◌, ◌++◌, refl, sym, subst, ap, length, map, drop, arith}
use Rattle.std.specs.Prelude.{◌<◌, slice_index_or, slice_get, IsSome, None}
use Rattle.mk_trim.specs.declared.ReplicaView.{ReplicaView}
use Rattle.mk_script.specs.Scripts.{ScriptParts}
use Rattle.mk_faults.specs.Fates.{RuleLines, rules_of}
use Rattle.mk_words.specs.declared.Step.{Step}
use Rattle.mk_model.specs.ColumnState.{Setting, ColumnState}
use Rattle.mk_model.specs.Conditions.{wanted}
use Rattle.mk_column.specs.ColumnByCode.{ColumnView}
use Rattle.mk_model.specs.Steps.{column_after}
use Rattle.mk_model.specs.Logs.{reading_ended}
use Rattle.mk_history.specs.Histories.{log_of}
use Rattle.mk_driver.specs.declared.Next.{Next}
use Rattle.mk_driver.specs.declared.Next.TheVariants.{Over}
use Rattle.mk_driver.specs.declared.DriverState.{DriverState}
use Rattle.mk_driver.specs.declared.RoundLines.{RoundLines}
use Rattle.mk_driver.specs.Turns.{Choice, choice, unless_wanted, in_agenda, in_parts, with_agenda}
use Rattle.mk_driver.specs.Drivers.{DriverView}
use Rattle.mk_driver.specs.Driven.{Standing, PastRound, turn, setting_in, lines_of_round, begun_round, begun_with, round_at, empty_round, standing_at, standing_past, standing_through, standing_after, standing_begun, round_ended, first_standing, new_driver, reset_by_lines}
use Rattle.mk_driver.specs.Standings.{Stands, chosen, IsStepped, IsFirst, IsNextRound}

-- what is named is what the turns name
pub names_turn : (script : ScriptParts) (rules : RuleLines) (view : DriverView) (column : ColumnView) (rounds : List PastRound) (views : List ReplicaView) (log : List Step)
    (next : Next) (driver : DriverState) → rules ≡ rules_of script → Stands script view column rounds views log →
    choice rules column.setting column.state view.driver ≡ record { next = next; driver = driver } → next ≡ turn script view.column rounds views log
names_turn script rules view column rounds views log next driver r s e =
    ap (λ (x : Choice). x.next) (sym e ∙ ap (λ rs. choice rs column.setting column.state view.driver) r ∙ s.named)

-- a driver that names the same stands for the same
pub stands_still : (script : ScriptParts) (rules : RuleLines) (view new : DriverView) (column : ColumnView) (rounds : List PastRound) (views : List ReplicaView) (log : List Step) →
    rules ≡ rules_of script → new ≡ record view { driver = new.driver } →
    choice rules column.setting column.state view.driver ≡ choice rules column.setting column.state new.driver →
    Stands script view column rounds views log → Stands script new column rounds views log
stands_still script rules view new column rounds views log r n e s =
    subst (λ v. Stands script v column rounds views log) (sym n)
    (record {
      size = s.size;
      round = s.round;
      lines = s.lines;
      number = s.number;
      setting = s.setting;
      state = s.state;
      named = subst (λ rs. choice rs column.setting column.state new.driver ≡ choice rs column.setting column.state view.driver) r (sym e) ∙ s.named;
    })

-- with no task and no part left, nothing is named, however often
pub over_again : (rules : RuleLines) (round : Setting) (column : ColumnState) (driver : DriverState) → wanted column.work ≡ None → driver.agenda ≡ [] → driver.parts ≡ [] →
    choice rules round column driver ≡ record { next = Over; driver = driver }
over_again rules round column driver w a p =
    ap (λ call. unless_wanted rules round column call driver) w
    ∙ ap (λ tasks. in_agenda rules round column (in_parts rules round column driver.parts) tasks driver) a
    ∙ ap (λ parts. in_parts rules round column parts (with_agenda [] driver)) p
    ∙ (λ i. record { next = Over; driver = record driver { agenda = sym a i } })

-- so a driver that names nothing stands for what it stood for before it was asked
pub stands_over : (script : ScriptParts) (rules : RuleLines) (view new : DriverView) (column : ColumnView) (rounds : List PastRound) (views : List ReplicaView) (log : List Step) →
    rules ≡ rules_of script → new ≡ record view { driver = new.driver } →
    choice rules column.setting column.state view.driver ≡ record { next = Over; driver = new.driver } →
    choice rules column.setting column.state new.driver ≡ record { next = Over; driver = new.driver } →
    Stands script view column rounds views log → Stands script new column rounds views log
stands_over script rules view new column rounds views log r n e o s =
    stands_still script rules view new column rounds views log r n (e ∙ sym o) s

through-more : (script : ScriptParts) (round : Setting) (standing : Standing) (log : List Step) (step : Step) →
    standing_through script round standing (log ++ step ∷ []) ≡ standing_after script round (standing_through script round standing log) step
through-more script round standing [] step = refl
through-more script round standing (first ∷ log) step = through-more script round (standing_after script round standing first) log step

-- after a step
pub stepped : (script : ScriptParts) (rounds : List PastRound) (views : List ReplicaView) (log : List Step) (step : Step) (driver new_driver : DriverView) (column new_column : ColumnView) →
    Stands script driver column rounds views log → IsStepped script step driver new_driver column new_column → Stands script new_driver new_column rounds views (log ++ step ∷ [])
stepped script rounds views log step driver new_driver column new_column s t =
    let before = standing_at script driver.column rounds views log in
    let setting = setting_in script views in
    let past = standing_past script driver.column 0 (first_standing script driver.column) rounds in
    let more : standing_at script driver.column rounds views (log ++ step ∷ []) ≡ standing_after script setting before step = through-more script setting past log step in
    let kept : new_driver.driver ≡ (let c = chosen script views before in c.driver) = ap (λ (x : Choice). x.driver) (sym t.named ∙ s.named) in
    let state : new_column.state ≡ column_after setting before.column step =
    t.state ∙ ap (λ x. column_after x column.state step) s.setting ∙ ap (λ x. column_after setting x step) s.state in
    subst (λ v. Stands script v new_column rounds views (log ++ step ∷ [])) (sym t.rest)
    (record {
      size = s.size;
      round = s.round;
      lines = s.lines;
      number = t.number ∙ s.number;
      setting = t.setting ∙ s.setting;
      state = state ∙ sym (ap (λ (x : Standing). x.column) more);
      named =
          ap (λ x. choice (rules_of script) x new_column.state new_driver.driver) (t.setting ∙ s.setting)
          ∙ ap (λ x. choice (rules_of script) setting x new_driver.driver) state
          ∙ ap (λ x. choice (rules_of script) setting (column_after setting before.column step) x) kept
          ∙ sym (ap (λ (x : Standing). choice (rules_of script) setting x.column x.driver) more);
    })

-- ---- rounds

map-drop : {X Y : Type 0} (f : X → Y) (n : ℕ) (d : X) (y : Y) (ys : List Y) (xs : List X) → drop n (map f xs) ≡ y ∷ ys → f (slice_index_or xs n d) ≡ y
map-drop f zero d y ys [] e = absurd (cc e)
map-drop f (suc n) d y ys [] e = absurd (cc e)
map-drop f zero d y ys (x ∷ xs) e = cc e
map-drop f (suc n) d y ys (x ∷ xs) e = map-drop f n d y ys xs e

drop-next : {Y : Type 0} (n : ℕ) (y : Y) (ys xs : List Y) → drop n xs ≡ y ∷ ys → drop (suc n) xs ≡ ys
drop-next zero y ys [] e = absurd (cc e)
drop-next (suc n) y ys [] e = absurd (cc e)
drop-next zero y ys (x ∷ xs) e = cc e
drop-next (suc n) y ys (x ∷ xs) e = drop-next n y ys xs e

drop-more : {Y : Type 0} (n : ℕ) (y : Y) (ys xs : List Y) → drop n xs ≡ y ∷ ys → drop (n + 1) xs ≡ ys
drop-more n y ys xs e =
    let next : suc n ≡ n + 1 = omega arith in
    subst (λ k. drop k xs ≡ ys) next (drop-next n y ys xs e)

-- a list of which so many are dropped has a first where it has more
left-past : {X Y : Type 0} (f : X → Y) (n : ℕ) (xs : List X) → n < length xs → IsSome (slice_get (drop n (map f xs)) 0)
left-past f n [] h = absurd (omega (arith, h))
left-past f zero (x ∷ xs) h = refl
left-past f (suc n) (x ∷ xs) h = left-past f n xs (omega (arith, h))

-- the lines of a round are left where the script has a round more
pub left_in : (script : ScriptParts) (n : ℕ) → n < length script.rounds → IsSome (slice_get (drop n (map (lines_of_round script) script.rounds)) 0)
left_in script n h = left-past (lines_of_round script) n script.rounds h

-- so they are for a driver that stands
pub left_where : (script : ScriptParts) (rounds : List PastRound) (views : List ReplicaView) (log : List Step) (driver : DriverView) (column : ColumnView) →
    Stands script driver column rounds views log → length rounds + 1 < length script.rounds → IsSome (slice_get driver.rounds 0)
left_where script rounds views log driver column s h =
    rw s.lines (left_in script driver.round (rw s.round h))

-- the lines with which a round begins are those of the script's round
begun-lines : (script : ScriptParts) (n : ℕ) (lines : RoundLines) (rest : List RoundLines) (driver : DriverState) →
    drop n (map (lines_of_round script) script.rounds) ≡ lines ∷ rest → begun_with lines driver ≡ begun_round script (round_at script n) driver
begun-lines script n lines rest driver e =
    ap (λ l. begun_with l driver) (sym (map-drop (lines_of_round script) n empty_round lines rest script.rounds e))

-- at the first round
pub at_first : (script : ScriptParts) (views : List ReplicaView) (driver : DriverView) (column : ColumnView) (number : ℕ) →
    IsFirst script number views driver column → Stands script driver column [] views []
at_first script views driver column number f =
    let standing = standing_at script number [] views [] in
    subst (λ v. Stands script v column [] views []) (sym f.driver_is)
    (record {
      size = refl;
      round = refl;
      lines = sym (drop-more 0 f.lines f.rest (map (lines_of_round script) script.rounds) f.rounds);
      number = f.number_is;
      setting = f.setting;
      state = f.state;
      named =
          ap (λ x. choice (rules_of script) x column.state (begun_with f.lines (new_driver script number))) f.setting
          ∙ ap (λ x. choice (rules_of script) (setting_in script views) x (begun_with f.lines (new_driver script number))) f.state
          ∙ ap (λ x. choice (rules_of script) (setting_in script views) standing.column x) (begun-lines script 0 f.lines f.rest (new_driver script number) f.rounds);
    })

past-more : (script : ScriptParts) (c number : ℕ) (standing : Standing) (rounds : List PastRound) (past : PastRound) →
    standing_past script c number standing (rounds ++ past ∷ [])
    ≡ standing_begun script (number + (length rounds + 1))
    (round_ended script (setting_in script past.views) past.round.globals
    (standing_through script (setting_in script past.views) (standing_past script c number standing rounds) (log_of past.round c)))
past-more script c number standing [] past = refl
past-more script c number standing (first ∷ rounds) past =
    let next =
    round_ended script (setting_in script first.views) first.round.globals
    (standing_through script (setting_in script first.views) (standing_begun script number standing) (log_of first.round c)) in
    let same : (number + 1) + (length rounds + 1) ≡ number + (suc (length rounds) + 1) = omega arith in
    past-more script c (number + 1) next rounds past
    ∙ ap (λ k. standing_begun script k
    (round_ended script (setting_in script past.views) past.round.globals
    (standing_through script (setting_in script past.views) (standing_past script c (number + 1) next rounds) (log_of past.round c)))) same

length-more : (rounds : List PastRound) (past : PastRound) → length (rounds ++ past ∷ []) ≡ length rounds + 1
length-more [] past = refl
length-more (first ∷ rounds) past = let e = length-more rounds past in omega (arith, e)

-- after a later beginning
pub rounded : (script : ScriptParts) (rounds : List PastRound) (past : PastRound) (views : List ReplicaView) (driver new_driver : DriverView) (column new_column : ColumnView) →
    Stands script driver column rounds past.views (log_of past.round driver.column) → IsNextRound script past views driver new_driver column new_column →
    Stands script new_driver new_column (rounds ++ past ∷ []) views []
rounded script rounds past views driver new_driver column new_column s t =
    let c = driver.column in
    let before = standing_at script c rounds past.views (log_of past.round c) in
    let ended = round_ended script (setting_in script past.views) past.round.globals before in
    let number : driver.round ≡ 0 + (length rounds + 1) = omega (arith, s.round) in
    let more : standing_at script c (rounds ++ past ∷ []) views [] ≡ standing_begun script driver.round ended =
    past-more script c 0 (first_standing script c) rounds past ∙ ap (λ k. standing_begun script k ended) (sym number) in
    let there : drop driver.round (map (lines_of_round script) script.rounds) ≡ t.lines ∷ t.rest = sym s.lines ∙ t.rounds in
    let kept : driver.driver ≡ ended.driver = ap (λ (x : Choice). x.driver) (sym t.over ∙ s.named) in
    let state : new_column.state ≡ ended.column = t.state ∙ ap (λ x. reading_ended (reset_by_lines past.round.globals x)) s.state in
    let began : begun_with t.lines driver.driver ≡ begun_round script (round_at script driver.round) ended.driver =
    begun-lines script driver.round t.lines t.rest driver.driver there ∙ ap (λ x. begun_round script (round_at script driver.round) x) kept in
    subst (λ v. Stands script v new_column (rounds ++ past ∷ []) views []) (sym t.driver_is)
    (record {
      size = s.size;
      round = ap (λ n. n + 1) (s.round ∙ sym (length-more rounds past));
      lines = sym (drop-more driver.round t.lines t.rest (map (lines_of_round script) script.rounds) there);
      number = t.number ∙ s.number;
      setting = t.setting;
      state = state ∙ sym (ap (λ (x : Standing). x.column) more);
      named =
          ap (λ x. choice (rules_of script) x new_column.state (begun_with t.lines driver.driver)) t.setting
          ∙ ap (λ x. choice (rules_of script) (setting_in script views) x (begun_with t.lines driver.driver)) state
          ∙ ap (λ x. choice (rules_of script) (setting_in script views) ended.column x) began
          ∙ sym (ap (λ (x : Standing). choice (rules_of script) (setting_in script views) x.column x.driver) more);
    })
