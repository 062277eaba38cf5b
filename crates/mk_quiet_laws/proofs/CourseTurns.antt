-- The turns of quiet clients: none is silent, so a pass in which nothing is named finds every client at rest.
use Rattle.std.proofs.Common.{◌≡◌, ◌<◌, ◌≤◌, ◌∙◌, ℕ, zero, suc, ◌+◌, ◌-◌, ◌==◌, Bool, true, false, refl, arith, inl, inr, sym, ap, subst, List, [], ◌∷◌, ◌++◌, length, Option, Some, None, cond}
use Rattle.std.specs.Prelude.{find, slice_get, nat_lt}
use Rattle.std.proofs.lemmas.Bool.Decides.{nat_tests}
use Rattle.std.proofs.lemmas.Option.{same_Some}
use Rattle.mk_lists.specs.Among.{Among, Each}
use Rattle.mk_lists.specs.Changed.{change}
use Rattle.mk_txn.specs.declared.TxnId.{TxnId}
use Rattle.mk_txn.specs.declared.Outcome.{Outcome}
use Rattle.mk_txn.specs.declared.Outcome.TheVariants.{Commit}
use Rattle.mk_words.specs.declared.Ruling.{Ruling}
use Rattle.mk_words.specs.declared.Ruling.TheVariants.{Fast}
use Rattle.mk_words.specs.Rulings.{ruling}
use Rattle.mk_script.specs.declared.lines.Point.{Point}
use Rattle.mk_script.specs.declared.lines.Point.TheVariants.{Read as AfterRead, Votes as AfterVotes, Accepts as AfterAccepts}
use Rattle.mk_words.specs.declared.Step.{Step}
use Rattle.mk_model.specs.ColumnState.{Setting, ColumnState, AttemptState, ClientState, attempt_of, client_of, numbers_from}
use Rattle.mk_driver.specs.declared.Task.{Task}
use Rattle.mk_driver.specs.declared.Task.TheVariants.{Turns}
use Rattle.mk_driver.specs.declared.DriverState.{DriverState}
use Rattle.mk_driver.specs.declared.Caller.{Caller}
use Rattle.mk_driver.specs.declared.Request.{Request}
use Rattle.mk_driver.specs.declared.Stage.{Stage}
use Rattle.mk_driver.specs.Keeping.{IsRising, numbers_of}
use Rattle.mk_driver.specs.Agenda.{Worked, is_caller}
use Rattle.mk_driver.specs.Agenda.Worked.{Quiet, Names}
use Rattle.mk_driver.specs.Passes.{after_turn, in_pass, after_passes, turns}
use Rattle.mk_driver.specs.Stages.{Turn, turn_of, turn_by, begin_next, begin_of, begin_by, reader_for, next_request, stage_after, stage_three, ruled_by, validated, resting}
use Rattle.mk_driver.specs.Stages.Turn.{Nothing, Silent, Steps}
use Rattle.mk_quiet_laws.proofs.Course.{Focus, IsTurns, InCourse, stage_of, stage_in, stage_at, IsUnlearned, PointFits, Ready, StepCourse, IsAskedAll}
use Rattle.mk_quiet_laws.proofs.Course.Focus.{Free, Fetches, Reaches}

-- the client at a place is the one that is found
pub found_there : (xs : List Caller) (place : ℕ) (x : Caller) → IsRising (numbers_of xs) → slice_get xs place ≡ Some x → find (is_caller x.number) xs ≡ Some x
found_there [] place x r e = absurd (cc e)
found_there (y ∷ ys) zero x r e =
    let same : y ≡ x = cc e in
    let is : (y.number == x.number) ≡ true = (let n : y.number ≡ x.number = ap (λ (z : Caller). z.number) same in grind (arith, nat_tests, n)) in
    ap (λ (b : Bool). cond b (Some y) (find (is_caller x.number) ys)) is ∙ ap (λ (z : Caller). Some z) same
found_there (y ∷ ys) (suc place) x r e =
    let below : y.number < x.number = below_place ys place x y.number r.0 e in
    let is : (y.number == x.number) ≡ false = grind (arith, nat_tests, below) in
    ap (λ (b : Bool). cond b (Some y) (find (is_caller x.number) ys)) is ∙ found_there ys place x r.1 e
  where
    below_place : (zs : List Caller) (p : ℕ) (z : Caller) (n : ℕ) → Each (λ m. n < m) (numbers_of zs) → slice_get zs p ≡ Some z → n < z.number
    below_place [] p z n h q = absurd (cc q)
    below_place (w ∷ zs) zero z n h q = let same : w ≡ z = cc q in subst (λ (v : Caller). n < v.number) same h.0
    below_place (w ∷ zs) (suc p) z n h q = below_place zs p z n h.1 q

-- the client at this place, if any, has no attempt under way
abbrev pub RestsIn : List Caller → ℕ → Type 0
RestsIn callers place = (x : Caller) → slice_get callers place ≡ Some x → x.under_way ≡ None

-- what is named in a turn, and the task that is then in hand
pub record TurnNames (f : ℕ) (c : ColumnState) (d : DriverState) (step : Step) (after : List Task) (changed : DriverState) : Type 0 where
  pub new : Focus
  pub course : StepCourse f c Free d.callers new changed.callers step
  pub agenda : (place : ℕ) → InCourse new (after ++ Turns place true ∷ [])
  pub parts : changed.parts ≡ d.parts
  pub same_agenda : changed.agenda ≡ d.agenda
  pub same_takeovers : changed.takeovers ≡ d.takeovers

module _ (round : Setting) (c : ColumnState)
    (ruled : (id : TxnId) (a : AttemptState) → attempt_of c id ≡ Some a → a.coord.learned ≡ None → IsAskedAll round.faults c id → ruling round.faults a.coord ≡ Fast Commit) where
  -- nothing, and at rest, or a step
  abbrev pub TurnGoes : DriverState → Option Caller → Turn → Type 0
  TurnGoes d o Nothing = (x : Caller) → o ≡ Some x → x.under_way ≡ None
  TurnGoes d o (Silent changed) = ⊥
  TurnGoes d o (Steps step after changed) = TurnNames round.faults c d step after changed

  later_turns : (place : ℕ) → IsTurns (Turns place true ∷ [])
  later_turns place z = absurd (cc z)

  module _ (d : DriverState) (caller : Caller) (ready : Ready round.faults c Free d.callers) (there : find (is_caller caller.number) d.callers ≡ Some caller) where
    stage_is : stage_of d.callers caller.number ≡ caller.under_way
    stage_is = ap stage_in there

    abbrev Goes : Turn → Type 0
    Goes t = TurnGoes d (Some caller) t

    -- ---- at rest

    module _ (rests : caller.under_way ≡ None) where
      nothing : (x : Caller) → Some caller ≡ Some x → x.under_way ≡ None
      nothing x e = subst (λ (y : Caller). y.under_way ≡ None) (same_Some caller x e) rests

      begins_goes : (client : ClientState) → client_of c caller.number ≡ Some client → (o : Option ℕ) → Goes (begin_by client caller o d)
      begins_goes client known (Some replica) =
          record {
            new = Fetches (record { client = caller.number; seq = client.next_seq });
            course = (refl, (caller, there, rests), (client, known, refl, refl));
            agenda = λ place. (refl, later_turns place);
            parts = refl;
            same_agenda = refl;
            same_takeovers = refl;
          }
      begins_goes client known None =
          record { new = Free; course = tt; agenda = λ place. (refl, later_turns place); parts = refl; same_agenda = refl; same_takeovers = refl }

      next_goes : (o : Option Request) → Goes (begin_next round c caller o d)
      next_goes None = nothing
      next_goes (Some request) = by (client_of c caller.number) refl
        where
          by : (o : Option ClientState) → client_of c caller.number ≡ o → Goes (begin_of round o caller d)
          by None e = nothing
          by (Some client) e = begins_goes client e (reader_for round caller.home client.heard)

    -- ---- under way

    module _ (id : TxnId) (own : id.client ≡ caller.number) (a : AttemptState) (found : attempt_of c id ≡ Some a) where
      stage_there : (point : Point) → stage_of d.callers caller.number ≡ Some (stage_at id point) → stage_of d.callers id.client ≡ Some (stage_at id point)
      stage_there point e = ap (stage_of d.callers) own ∙ e

      validates_goes : stage_of d.callers caller.number ≡ Some (stage_at id AfterRead) → Goes (validated c caller id d)
      validates_goes e =
          record {
            new = Reaches id AfterVotes;
            course = (refl, stage_there AfterRead e, refl, ap (λ (n : ℕ). change (is_caller n) resting d.callers) (sym own));
            agenda = λ place. (refl, later_turns place);
            parts = refl;
            same_agenda = refl;
            same_takeovers = refl;
          }

      rules_goes : stage_of d.callers caller.number ≡ Some (stage_at id AfterVotes) → a.coord.learned ≡ None → ruling round.faults a.coord ≡ Fast Commit → (r : Ruling) → ruling round.faults a.coord ≡ r →
          Goes (ruled_by c caller id r d)
      rules_goes e none fast r is =
          subst (λ (x : Ruling). Goes (ruled_by c caller id x d)) (sym fast ∙ is) (record {
            new = Free;
            course = (refl, stage_there AfterVotes e, refl, ap (λ (n : ℕ). change (is_caller n) resting d.callers) (sym own), (a, found, none, fast));
            agenda = λ place. (refl, later_turns place);
            parts = refl;
            same_agenda = refl;
            same_takeovers = refl;
          })

      three_goes : stage_of d.callers caller.number ≡ Some (stage_at id AfterVotes) → IsAskedAll round.faults c id → a.coord.learned ≡ None → (o : Option Outcome) → a.coord.learned ≡ o →
          Goes (stage_three round c caller id a.coord o d)
      three_goes e asked none (Some outcome) is = absurd (cc (sym none ∙ is))
      three_goes e asked none None is = rules_goes e none (ruled id a found none asked) (ruling round.faults a.coord) refl

    unlearned_at : (id : TxnId) (a : AttemptState) → attempt_of c id ≡ Some a → IsUnlearned c id → a.coord.learned ≡ None
    unlearned_at id a found u = subst (λ (x : AttemptState). x.coord.learned ≡ None) (same_Some u.0 a (sym u.1 ∙ found)) u.2

    stage_goes : (id : TxnId) (point : Point) → id.client ≡ caller.number → PointFits round.faults c id point → stage_of d.callers caller.number ≡ Some (stage_at id point) →
        Goes (stage_after round c caller id point (attempt_of c id) d)
    stage_goes id AfterRead own fits e = subst (λ (o : Option AttemptState). Goes (stage_after round c caller id AfterRead o d)) (sym fits.1) (validates_goes id own fits.0 fits.1 e)
    stage_goes id AfterVotes own fits e =
        let u = fits.0 in
        subst (λ (o : Option AttemptState). Goes (stage_after round c caller id AfterVotes o d)) (sym u.1) (three_goes id own u.0 u.1 e fits.1 u.2 (u.0).coord.learned refl)
    stage_goes id AfterAccepts own fits e = absurd fits

    caller_goes : Goes (turn_by round c caller caller.under_way d)
    caller_goes = by caller.under_way refl
      where
        by : (s : Option Stage) → caller.under_way ≡ s → Goes (turn_by round c caller s d)
        by None e = next_goes e (next_request caller)
        by (Some stage) e =
            let k = ready.stages caller.number stage (stage_is ∙ e) in
            stage_goes stage.id stage.reached k.0 k.1 (stage_is ∙ e ∙ (λ i. Some (record { id = stage.id; reached = stage.reached })))

  turn_goes : (d : DriverState) → Ready round.faults c Free d.callers → (place : ℕ) → TurnGoes d (slice_get d.callers place) (turn_of round c (slice_get d.callers place) d)
  turn_goes d ready place = by (slice_get d.callers place) refl
    where
      by : (o : Option Caller) → slice_get d.callers place ≡ o → TurnGoes d o (turn_of round c o d)
      by None e = λ x z. absurd (cc z)
      by (Some caller) e = caller_goes d caller ready (found_there d.callers place caller ready.rising e)

  -- ---- passes

  module _ (d : DriverState) (ready : Ready round.faults c Free d.callers) (P : Worked → Type 0)
      (named : (step : Step) (tasks : List Task) (changed : DriverState) (new : Focus) → StepCourse round.faults c Free d.callers new changed.callers step → InCourse new tasks →
      changed.parts ≡ d.parts → changed.agenda ≡ d.agenda → changed.takeovers ≡ d.takeovers → P (Names step tasks changed)) where
    in_pass_goes : (end : Bool → DriverState → Worked) (places : List ℕ) (did : Bool) → ((((place : ℕ) → Among place places → RestsIn d.callers place)) → P (end did d)) →
        P (in_pass round c end places did d)
    in_pass_goes end [] did quiet = quiet (λ place a. absurd a)
    in_pass_goes end (place ∷ places) did quiet =
        by (turn_of round c (slice_get d.callers place) d) (turn_goes d ready place)
        (λ rests. in_pass_goes end places did (λ more. quiet (λ other a. elim a [ inl same ↦ subst (RestsIn d.callers) same rests | inr later ↦ more other later ])))
      where
        by : (t : Turn) → TurnGoes d (slice_get d.callers place) t → (RestsIn d.callers place → P (in_pass round c end places did d)) → P (after_turn place t did (in_pass round c end places) d)
        by Nothing g again = again g
        by (Silent changed) g again = absurd g
        by (Steps step after changed) g again = named step (after ++ Turns (place + 1) true ∷ []) changed g.new g.course (g.agenda (place + 1)) g.parts g.same_agenda g.same_takeovers

    place_among : (k first n : ℕ) → first ≤ k → k < first + n → Among k (numbers_from first n)
    place_among k first zero low high = absurd (omega (arith, low, high))
    place_among k first (suc n) low high = by (λ a b. place_among k (first + 1) n a b) (first == k) refl
      where
        by : (first + 1 ≤ k → k < first + 1 + n → Among k (numbers_from (first + 1) n)) → (b : Bool) → (first == k) ≡ b → Among k (numbers_from first (suc n))
        by again true e = inl (grind (arith, nat_tests, e))
        by again false e = let apart : first < k = grind (arith, nat_tests, e, low) in inr (again (omega (arith, apart)) (omega (arith, high)))

    beyond : (xs : List Caller) (place : ℕ) → length xs ≤ place → slice_get xs place ≡ None
    beyond [] place le = refl
    beyond (x ∷ xs) zero le = absurd (omega (arith, le))
    beyond (x ∷ xs) (suc place) le = beyond xs place (omega (arith, le))

    all_places : ((place : ℕ) → Among place (numbers_from 0 (length d.callers)) → RestsIn d.callers place) → (place : ℕ) → RestsIn d.callers place
    all_places h place = by (nat_lt place (length d.callers)) refl
      where
        by : (b : Bool) → nat_lt place (length d.callers) ≡ b → RestsIn d.callers place
        by true e = h place (place_among place 0 (length d.callers) (omega arith) (grind (arith, nat_tests, e)))
        by false e = λ x z. absurd (cc (sym z ∙ beyond d.callers place (grind (arith, nat_tests, e))))

    -- the turns: a step, or every client rests
    pub turns_go : (place : ℕ) (did : Bool) → (did ≡ false → place ≡ 0) → (((k : ℕ) → RestsIn d.callers k) → P (Quiet d)) → P (turns round c place did d)
    turns_go place did from quiet = in_pass_goes (after_passes 2 round c) (numbers_from place (length d.callers - place)) did (λ rest. by did refl rest)
      where
        by : (b : Bool) → did ≡ b → ((k : ℕ) → Among k (numbers_from place (length d.callers - place)) → RestsIn d.callers k) → P (after_passes 2 round c b d)
        by false e rest =
            let whole : length d.callers - 0 ≡ length d.callers = omega arith in
            quiet (all_places (subst (λ (n : ℕ). (k : ℕ) → Among k (numbers_from 0 n) → RestsIn d.callers k) whole
            (subst (λ (n : ℕ). (k : ℕ) → Among k (numbers_from n (length d.callers - n)) → RestsIn d.callers k) (from e) rest)))
        by true e rest = in_pass_goes (after_passes 1 round c) (numbers_from 0 (length d.callers)) false (λ all. quiet (all_places all))
