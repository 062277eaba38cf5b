-- The fields of the argument, from an epoch machine and what a run gives beside it.
use Rattle.std.proofs.Common.{◌≡◌, ◌⊎◌, ◌≤◌, ◌<◌, ℕ, Bool, true, false, refl, arith, inl, inr, sym, ap, ◌∙◌, [], Option, Some, None, subst, ◌&&◌}
use Rattle.std.specs.Prelude.{is_some, option_and_then}
use Rattle.mk_lists.specs.Among.{Among}
use Rattle.mk_txn.specs.declared.TxnId.{TxnId}
use Rattle.mk_txn.specs.declared.Accepted.{Accepted}
use Rattle.mk_txn.specs.declared.Cause.TheVariants.{Epoch as ByEpoch}
use Rattle.mk_txn.specs.declared.Outcome.{Outcome}
use Rattle.mk_txn.specs.declared.Outcome.TheVariants.{Commit, Abort}
use Rattle.mk_txn.specs.Clashes.{conflict}
use Rattle.mk_txn.specs.Outcomes.{is_commit}
use Rattle.mk_words.specs.declared.Entry.{Entry}
use Rattle.mk_quorum.specs.Counts.{count_below}
use Rattle.mk_quorum.specs.Sizes.{members, majority_of, hint_of}
use Rattle.mk_quorum.specs.Slots.{passes}
use Rattle.mk_quorum.proofs.Counting.{count_below-same}
use Rattle.mk_words.specs.declared.Fated.{Fated}
use Rattle.mk_words.specs.Bases.{BaseState, fate_in}
use Rattle.mk_words.specs.Merging.{merged_from}
use Rattle.mk_merge_laws.specs.Composition.{made_fate}
use Rattle.mk_model.specs.EpochState.{EpochState, base_for}
use Rattle.mk_model.specs.Force.{InForce, source_of}
use Rattle.mk_epoch_laws.specs.WordLaws.{EverHad}
use Rattle.mk_epoch_laws.specs.BaseLaws.{IsMade, IsHeld, counted_for}
use Rattle.mk_epoch_laws.specs.PathLaws.{outcome_in, AddsItsSource}
use Rattle.mk_fate_laws.specs.Composing.{has_promise, AreHandedIn, Counts, is_ok_entry, IsUnfinishedAt, IsUnacceptedAt, IsOpen, IsFinal, IsAccepted, IsRejected, IsDropped, Composed, BasesSay}
use Rattle.mk_fate_laws.specs.Composing as composing
use Rattle.mk_fate_laws.specs.Composing.Composed.{Finally, ByAcceptance, Taken, Rejected as GaveWay, Dropped as FellAway}
use Rattle.mk_fate_laws.specs.InBases.{commits_at, PathsGive, is_taken, is_counted, PromisersOf, PromisersCount, BasesAreComposed, OutcomesInBases, TakenFitInBases}
use Rattle.mk_fate_laws.proofs.Fields.{VoteFields, Decided, Support, BaseFields, TaughtBefore, IsNext, JoinFields, IsUnfinished, IsUnaccepted, counted_oks, Hinted, How, StandFields}
use Rattle.mk_fate_laws.proofs.Fields.How.{WasFinal, WasAccepted, WasTaken, WasRejected, WasDropped}

pub commit_is : (x : Option Outcome) → passes is_commit x ≡ true → x ≡ Some Commit
commit_is None k = absurd (cc k)
commit_is (Some Commit) k = refl
commit_is (Some (Abort cause)) k = absurd (cc k)

-- ---- bases

-- what a run gives of its bases
pub record RunBases (X : Type 0) (state : EpochState) : Type 1 where
  pub id_of : X → TxnId
  pub epoch_of : TxnId → ℕ
  pub paths : PathsGive state epoch_of
  pub Entered : ℕ → Type 0
  pub made_in : ℕ → ℕ
  pub entered_in : ℕ → ℕ
  pub entered_held : (e : ℕ) → Entered e → IsHeld state e
  pub force_time : (e later : ℕ) → InForce state e → 0 < e → Entered later → source_of state e < later → made_in e ≤ entered_in later
  pub begun : (x : X) → (epoch_of (id_of x) ≡ 0) ⊎ Entered (epoch_of (id_of x))
  pub above : (e : ℕ) → ((later : ℕ) × Entered later × (e < later)) ⊎ ((later : ℕ) → Entered later → e < later → ⊥)

-- what a majority ever adopted is in force
pub held_force : (state : EpochState) (e : ℕ) → IsHeld state e → InForce state e
held_force state e (inl first) = inl first
held_force state e (inr many) = inr ([], many)

pub commits_some : (state : EpochState) (e : ℕ) (id : TxnId) → commits_at state e id ≡ true → is_some (outcome_in state e id) ≡ true
commits_some state e id c = by (outcome_in state e id) c
  where
    by : (x : Option Outcome) → passes is_commit x ≡ true → is_some x ≡ true
    by None k = k
    by (Some o) k = refl

module _ {X : Type 0} (state : EpochState) (run : RunBases X state) where
  pub begun_held : (x : X) → IsHeld state (run.epoch_of (run.id_of x))
  begun_held x = elim (run.begun x) [ inl first ↦ inl first | inr entered ↦ run.entered_held (run.epoch_of (run.id_of x)) entered ]

  abbrev pub base_fields : BaseFields X
  base_fields =
      record {
        source = source_of state;
        InForce = InForce state;
        Entered = run.Entered;
        made_in = run.made_in;
        entered_in = run.entered_in;
        epoch_of = λ x. run.epoch_of (run.id_of x);
        commits = λ e x. commits_at state e (run.id_of x);
        below = run.paths.below;
        source_force = λ e force up. run.paths.source_force e force;
        entered_force = λ e entered. held_force state e (run.entered_held e entered);
        force_time = run.force_time;
        line = λ one other x p q low high. run.paths.line one other (run.id_of x) p q low high;
        under = λ e x force lt. run.paths.under e (run.epoch_of (run.id_of x)) force (begun_held x) lt;
        commits_below = λ e x force c. run.paths.listed_below e (run.id_of x) (run.paths.made e force) (commits_some state e (run.id_of x) c);
        begun = run.begun;
        above = run.above;
      }

-- ---- votes

-- the base of this epoch has these members
abbrev pub InBase : EpochState → ℕ → Fated → Type 0
InBase state e member = (base : BaseState) × (base_for e state ≡ Some base) × Among member base.list

-- what a run gives of votes and of what replicas have, in terms of the bases
pub record RunVotes (X : Type 0) (state : EpochState) (run : RunBases X state) : Type 1 where
  pub v : VoteFields X
  pub same_faults : v.f ≡ state.faults
  -- what the replica has of the attempt
  pub has : X → ℕ → Option Entry
  pub ok_is : (x : X) (r : ℕ) → v.ok x r ≡ passes is_ok_entry (has x r)
  pub final_of : (x : X) (r : ℕ) (o : Bool) (round : ℕ) → v.Final x r o round →
      (entry : Entry) × (outcome : Outcome) × (has x r ≡ Some entry) × (entry.last ≡ Some outcome) × (is_commit outcome ≡ o)
  pub final_at : (x : X) (r : ℕ) (entry : Entry) (outcome : Outcome) → has x r ≡ Some entry → entry.last ≡ Some outcome → (round : ℕ) × v.Final x r (is_commit outcome) round
  pub accepted_of : (x : X) (r view : ℕ) (o : Bool) → v.Accepted x r view o →
      (entry : Entry) × (kept : Accepted) × (has x r ≡ Some entry) × (entry.accepted ≡ Some kept) × (kept.view ≡ view) × (is_commit kept.outcome ≡ o)
  pub accepted_at : (x : X) (r : ℕ) (entry : Entry) (kept : Accepted) → has x r ≡ Some entry → entry.accepted ≡ Some kept → v.Accepted x r kept.view (is_commit kept.outcome)
  -- the promises that count hand it in
  pub handed : (e : ℕ) (x : X) → IsNext (base_fields state run) e x → AreHandedIn (counted_for state e) (run.id_of x) (has x)
  -- who voted or accepted had the attempt's epoch
  pub had_voted : (x : X) (r : ℕ) → v.ok x r ≡ true → EverHad state r (run.epoch_of (run.id_of x))
  pub had_accepted : (x : X) (view r : ℕ) → v.has_accepted x view r ≡ true → EverHad state r (run.epoch_of (run.id_of x))
  pub final_time : (e : ℕ) (x : X) (r : ℕ) (o : Bool) (round : ℕ) → IsNext (base_fields state run) e x → is_counted state e r ≡ true → v.Final x r o round → round ≤ run.made_in e
  pub accepted_support : (e : ℕ) (x : X) (r view : ℕ) → IsNext (base_fields state run) e x → is_counted state e r ≡ true → v.Accepted x r view true → Support v x (run.made_in e)
  pub backed : (x : X) (r : ℕ) (o : Bool) (round : ℕ) → v.Final x r o round →
      (Decided v x o × (o ≡ true → Support v x round)) ⊎ TaughtBefore (base_fields state run) x o round
  pub clashing : (x y : X) (r : ℕ) → v.Conflict x y → run.epoch_of (run.id_of x) ≡ run.epoch_of (run.id_of y) → v.ok x r ≡ true → v.ok y r ≡ true →
      ((round : ℕ) × v.Final x r false round × (round ≤ v.voted_in y r)) ⊎ ((round : ℕ) × v.Final y r false round × (round ≤ v.voted_in x r))
  pub vote_base : (x y : X) (r : ℕ) → v.ok x r ≡ true → commits_at state (run.epoch_of (run.id_of x)) (run.id_of y) ≡ true → v.Conflict x y → ⊥
  -- each member of a base is an attempt, and conflict of two is that of their transactions there
  pub placed : (e : ℕ) (member : Fated) → InBase state e member → (x : X) × (run.id_of x ≡ member.txn.id)
  pub conflict_of : (e : ℕ) (one other : Fated) (x y : X) → InBase state e one → InBase state e other → run.id_of x ≡ one.txn.id → run.id_of y ≡ other.txn.id →
      conflict one.txn other.txn ≡ true → v.Conflict x y
  pub conflict_in : (e : ℕ) (one other : Fated) (x y : X) → InBase state e one → InBase state e other → run.id_of x ≡ one.txn.id → run.id_of y ≡ other.txn.id →
      v.Conflict x y → conflict one.txn other.txn ≡ true

module _ {X : Type 0} (state : EpochState) (run : RunBases X state) (votes : RunVotes X state run) (count : PromisersCount state) where
  abbrev b : BaseFields X
  b = base_fields state run

  pub promisers : (e : ℕ) → InForce state e → 0 < e → PromisersOf state e
  promisers e force up = count e (run.paths.made e force) up

  pub majority_is : (e : ℕ) → InForce state e → 0 < e → count_below (members votes.v.f) (is_taken state e) ≡ majority_of votes.v.f
  majority_is e force up = subst (λ (f : ℕ). count_below (members f) (is_taken state e) ≡ majority_of f) (sym votes.same_faults) (promisers e force up).majority

  abbrev pub join_fields : JoinFields X
  join_fields =
      record {
        v = votes.v;
        b = base_fields state run;
        promised = is_taken state;
        counts = is_counted state;
        majority = λ e force up. let k = majority_is e force up in omega (arith, k);
        no_more = λ e force up. let k = majority_is e force up in omega (arith, k);
        counted = λ e r force up c. (promisers e force up).counted r c;
        sees_vote = λ e x r next taken ok. (promisers e next.force next.after_first).sees r taken (subst (EverHad state r) next.of_source (votes.had_voted x r ok));
        sees_accept = λ e x view r next taken accepted. (promisers e next.force next.after_first).sees r taken (subst (EverHad state r) next.of_source (votes.had_accepted x view r accepted));
        final_time = votes.final_time;
        accepted_support = votes.accepted_support;
        backed = votes.backed;
        clashing = votes.clashing;
        vote_base = votes.vote_base;
      }

  -- ---- of what a base is composed

  module _ (e : ℕ) (x : X) (next : IsNext b e x) where
    abbrev id : TxnId
    id = run.id_of x

    is_made : IsMade state e
    is_made = run.paths.made e next.force

    -- counted replicas that have an entry
    unfinished : IsUnfinishedAt (counted_for state e) (votes.has x) → IsUnfinished join_fields e x
    unfinished none r o round c final =
        let k = votes.final_of x r o round final in
        cc (sym k.3 ∙ none r k.0 (c, k.2))

    unaccepted : IsUnacceptedAt (counted_for state e) (votes.has x) → IsUnaccepted join_fields e x
    unaccepted none r view o c accepted =
        let k = votes.accepted_of x r view o accepted in
        cc (sym k.3 ∙ none r k.0 (c, k.2))

    at_unfinished : IsUnfinished join_fields e x → IsUnfinishedAt (counted_for state e) (votes.has x)
    at_unfinished none r entry c = by entry.last refl
      where
        by : (o : Option Outcome) → entry.last ≡ o → entry.last ≡ None
        by None k = k
        by (Some outcome) k = let f = votes.final_at x r entry outcome c.1 k in absurd (none r (is_commit outcome) f.0 c.0 f.1)

    at_unaccepted : IsUnaccepted join_fields e x → IsUnacceptedAt (counted_for state e) (votes.has x)
    at_unaccepted none r entry c = by entry.accepted refl
      where
        by : (o : Option Accepted) → entry.accepted ≡ o → entry.accepted ≡ None
        by None k = k
        by (Some kept) k = absurd (none r kept.view (is_commit kept.outcome) c.0 (votes.accepted_at x r entry kept c.1 k))

    oks_same : counted_oks join_fields e x ≡ composing.counted_oks votes.v.f (counted_for state e) (votes.has x)
    oks_same =
        count_below-same (members votes.v.f) (λ r. votes.v.ok x r && is_counted state e r) (λ r. passes is_ok_entry (votes.has x r) && has_promise (counted_for state e) r)
        (λ r lt. ap (λ (ok : Bool). ok && is_counted state e r) (votes.ok_is x r))

    hint_there : hint_of state.faults ≤ composing.counted_oks state.faults (counted_for state e) (votes.has x) → hint_of votes.v.f ≤ counted_oks join_fields e x
    hint_there h =
        let k = subst (λ (f : ℕ). hint_of f ≤ composing.counted_oks f (counted_for state e) (votes.has x)) (sym votes.same_faults) h in
        let same = oks_same in
        omega (arith, k, same)

    there_hint : hint_of votes.v.f ≤ counted_oks join_fields e x → hint_of state.faults ≤ composing.counted_oks state.faults (counted_for state e) (votes.has x)
    there_hint h =
        let same = oks_same in
        subst (λ (f : ℕ). hint_of f ≤ composing.counted_oks f (counted_for state e) (votes.has x)) votes.same_faults (omega (arith, h, same))

    few_there : composing.counted_oks state.faults (counted_for state e) (votes.has x) < hint_of state.faults → counted_oks join_fields e x < hint_of votes.v.f
    few_there h =
        let k = subst (λ (f : ℕ). composing.counted_oks f (counted_for state e) (votes.has x) < hint_of f) (sym votes.same_faults) h in
        let same = oks_same in
        omega (arith, k, same)

  module _ (adds : AddsItsSource state run.epoch_of) (composed : OutcomesInBases state) (fit : TakenFitInBases state) (bases : BasesAreComposed state) (say : BasesSay) where
    says : (e : ℕ) (id : TxnId) → IsMade state e → 0 < e → outcome_in state e id ≡ made_fate state.faults e (counted_for state e) id
    says e id is up = ap (option_and_then (λ (base : BaseState). fate_in id base.list)) (bases e is up)

    commits_as : (e : ℕ) (id : TxnId) (o : Outcome) → IsMade state e → 0 < e → made_fate state.faults e (counted_for state e) id ≡ Some o → commits_at state e id ≡ is_commit o
    commits_as e id o is up fate = ap (passes is_commit) (says e id is up ∙ fate)

    in_base : (e : ℕ) (member : Fated) → IsMade state e → 0 < e → Among member (merged_from state.faults e (counted_for state e)).list → InBase state e member
    in_base e member is up a = (merged_from state.faults e (counted_for state e), bases e is up, a)

    pub how : (e : ℕ) (x : X) → IsNext b e x → How join_fields e x
    how e x next = by (composed run.epoch_of adds e (run.id_of x) is up next.of_source (votes.has x) (votes.handed e x next))
      where
        is : IsMade state e
        is = run.paths.made e next.force

        up : 0 < e
        up = next.after_first

        commits : (o : Outcome) → made_fate state.faults e (counted_for state e) (run.id_of x) ≡ Some o → commits_at state e (run.id_of x) ≡ is_commit o
        commits o fate = commits_as e (run.id_of x) o is up fate

        candidate : IsOpen (counted_for state e) (votes.has x) → hint_of state.faults ≤ composing.counted_oks state.faults (counted_for state e) (votes.has x) → Hinted join_fields e x
        candidate open_still h = record { unfinished = unfinished e x next open_still.unfinished; unaccepted = unaccepted e x next open_still.unaccepted; hinted = hint_there e x next h }

        finally : IsFinal state.faults e (counted_for state e) (run.id_of x) (votes.has x) → How join_fields e x
        finally f =
            let k = votes.final_at x f.replica f.entry f.outcome f.counts.1 f.final in
            WasFinal (record { replica = f.replica; round = k.0; outcome = is_commit f.outcome; counts = f.counts.0; final = k.1; stands = commits f.outcome f.fate })

        accepted : IsAccepted state.faults e (counted_for state e) (run.id_of x) (votes.has x) → How join_fields e x
        accepted a =
            WasAccepted (record {
              unfinished = unfinished e x next a.unfinished;
              replica = a.replica;
              view = a.kept.view;
              outcome = is_commit a.kept.outcome;
              counts = a.counts.0;
              accepted = votes.accepted_at x a.replica a.entry a.kept a.counts.1 a.accepted;
              highest = (λ r u o c held.
                  let k = votes.accepted_of x r u o held in
                  let low = a.highest r k.0 k.1 (c, k.2) k.3 in
                  let same = k.4 in
                  omega (arith, low, same));
              stands = commits a.kept.outcome a.fate;
            })

        gave_way : IsRejected state.faults e (counted_for state e) (run.id_of x) (votes.has x) → How join_fields e x
        gave_way g =
            let one = in_base e g.rejected is up g.rejected_there in
            let other = in_base e g.commit is up g.commit_there in
            let y = votes.placed e g.commit other in
            let said = (say state.faults e (counted_for state e)).said g.commit g.commit_there in
            WasRejected (record {
              candidate = candidate g.open_still g.hinted;
              stands = commits (Abort (ByEpoch e)) g.fate;
              other = y.0;
              commit = subst (λ (i : TxnId). commits_at state e i ≡ true) (sym y.1) (commits_as e g.commit.txn.id g.commit.outcome is up said ∙ ap is_commit g.commits);
              conflict = votes.conflict_of e g.rejected g.commit x y.0 one other (sym g.of_attempt) y.1 g.in_conflict;
            })

        fell_away : IsDropped state.faults e (counted_for state e) (run.id_of x) (votes.has x) → How join_fields e x
        fell_away d =
            WasDropped (record {
              unfinished = unfinished e x next d.open_still.unfinished;
              unaccepted = unaccepted e x next d.open_still.unaccepted;
              few = few_there e x next d.few;
              stands = stands d.fate;
            })
          where
            stands : (made_fate state.faults e (counted_for state e) (run.id_of x) ≡ None) ⊎ (made_fate state.faults e (counted_for state e) (run.id_of x) ≡ Some (Abort (ByEpoch e))) → commits_at state e (run.id_of x) ≡ false
            stands (inl none) = ap (passes is_commit) (says e (run.id_of x) is up ∙ none)
            stands (inr aborts) = commits (Abort (ByEpoch e)) aborts

        by : Composed state.faults e (counted_for state e) (run.id_of x) (votes.has x) → How join_fields e x
        by (Finally f) = finally f
        by (ByAcceptance a) = accepted a
        by (Taken open_still h fate) = WasTaken (candidate open_still h) (commits Commit fate)
        by (GaveWay g) = gave_way g
        by (FellAway d) = fell_away d

    -- the member by which an attempt commits
    commit_member : (e : ℕ) (x : X) → IsMade state e → 0 < e → commits_at state e (run.id_of x) ≡ true →
        (member : Fated) × Among member (merged_from state.faults e (counted_for state e)).list × (member.txn.id ≡ run.id_of x) × (member.outcome ≡ Commit)
    commit_member e x is up c =
        (say state.faults e (counted_for state e)).member_of (run.id_of x) Commit (sym (says e (run.id_of x) is up) ∙ commit_is (outcome_in state e (run.id_of x)) c)

    pub taken_fits : (e : ℕ) (x y : X) → IsNext b e x → Hinted join_fields e x → commits_at state e (run.id_of x) ≡ true → commits_at state e (run.id_of y) ≡ true → votes.v.Conflict x y → ⊥
    taken_fits e x y next h cx cy clash =
        let is = run.paths.made e next.force in
        let up = next.after_first in
        let p = commit_member e x is up cx in
        let q = commit_member e y is up cy in
        let open_still : IsOpen (counted_for state e) (votes.has x) = record { unfinished = at_unfinished e x next h.unfinished; unaccepted = at_unaccepted e x next h.unaccepted } in
        let apart = fit run.epoch_of adds e (run.id_of x) up next.of_source (votes.has x) (votes.handed e x next) open_still (there_hint e x next h.hinted)
        (merged_from state.faults e (counted_for state e)) (bases e is up) p.0 q.0 p.1 p.2 p.3 q.1 q.3 in
        let meets = votes.conflict_in e p.0 q.0 x y (in_base e p.0 is up p.1) (in_base e q.0 is up q.1) (sym p.2) (sym q.2) clash in
        cc (sym meets ∙ apart)

    abbrev pub stand_fields : StandFields X
    stand_fields =
        record {
          j = join_fields;
          how = how;
          from_source = λ e y force up c. run.paths.commits_from e (run.id_of y) (run.paths.made e force) up c;
          taken_fits = taken_fits;
        }
