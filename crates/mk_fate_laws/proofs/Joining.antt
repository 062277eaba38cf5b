-- Votes, promises and bases of a run together, as fields of the argument.
use Rattle.std.proofs.Common.{◌≡◌, ◌⊎◌, ◌≤◌, ◌<◌, ℕ, Bool, true, false, refl, arith, inl, inr, sym, ap, ◌∙◌, List, [], ◌∷◌, ◌++◌, Option, Some, None, subst, ◌||◌}
use Rattle.std.specs.Prelude.{is_some, length, option_map, option_and_then, find}
use Rattle.std.specs.Option.{unwrap_or}
use Rattle.std.proofs.lemmas.List.{append-nil, length_push}
use Rattle.std.proofs.lemmas.Option.{same_Some}
use Rattle.mk_lists.specs.Among.{Among}
use Rattle.mk_lists.proofs.Lookups.{find_tells}
use Rattle.mk_column_laws.proofs.Histories.{undated-some}
use Rattle.mk_run_laws.proofs.LastMoments.{last_is_moment, same_column}
use Rattle.mk_txn.specs.declared.TxnId.{TxnId}
use Rattle.mk_txn.specs.declared.Vote.{Vote}
use Rattle.mk_txn.specs.declared.Vote.TheVariants.{Ok as VoteOk}
use Rattle.mk_txn.specs.declared.Accepted.{Accepted}
use Rattle.mk_txn.specs.declared.Cause.TheVariants.{Epoch as ByEpoch}
use Rattle.mk_txn.specs.declared.Outcome.{Outcome}
use Rattle.mk_txn.specs.declared.Outcome.TheVariants.{Commit, Abort}
use Rattle.mk_txn.specs.Clashes.{clashes, conflict}
use Rattle.mk_txn.specs.Outcomes.{is_ok_vote, is_commit, agrees}
use Rattle.mk_txn.specs.Transactions.{Transaction, same_id}
use Rattle.mk_txn.proofs.ClashFacts.{Clash-from_test}
use Rattle.mk_txn.proofs.IdOrder.{same_id-tells}
use Rattle.mk_words.specs.declared.Entry.{Entry}
use Rattle.mk_words.specs.Entries.{is_entry_of, entry_of}
use Rattle.mk_quorum.specs.Counts.{count_below}
use Rattle.mk_quorum.specs.Sizes.{members, majority_of}
use Rattle.mk_quorum.specs.Slots.{passes}
use Rattle.mk_words.specs.declared.Fated.{Fated}
use Rattle.mk_words.specs.Bases.{BaseState, empty_base, fate_in}
use Rattle.mk_words.specs.Promises.{PromiseState, counting}
use Rattle.mk_merge_laws.proofs.Adding.{fate-member, commits-member}
use Rattle.mk_merge_laws.proofs.Fitting.{fit-apart}
use Rattle.mk_merge_laws.specs.Composition.{ConflictIsMutual}
use Rattle.mk_model.specs.ColumnState.{AttemptState, attempt_of}
use Rattle.mk_model.specs.Deciding.{has_accepted, IsDecided}
use Rattle.mk_column_laws.specs.Moments.{PastEntry}
use Rattle.mk_column_laws.specs.Moves.{undated, entry_of_past}
use Rattle.mk_column_laws.specs.Facts.{EntryFacts, IsSupported}
use Rattle.mk_column_laws.proofs.Choices.{accept_sent}
use Rattle.mk_model.specs.EpochState.{EpochState, GivenPromise, MadeBase, base_for}
use Rattle.mk_model.specs.Force.{source_of}
use Rattle.mk_epoch_laws.specs.Turns.{Always, AlwaysLater}
use Rattle.mk_epoch_laws.specs.WordLaws.{EverHad}
use Rattle.mk_epoch_laws.specs.BaseLaws.{BasesStay, KeptGrows, taken_for, counted_for}
use Rattle.mk_epoch_laws.proofs.Paths.{made_or_first}
use Rattle.mk_history.specs.declared.RoundLog.{RoundLog}
use Rattle.mk_history.specs.Histories.{History}
use Rattle.mk_history.specs.Wholes.{first_state, last_state}
use Rattle.mk_history.specs.Shape.{HasShape}
use Rattle.mk_history.specs.Legality.{IsLegal, EachRoundLegal}
use Rattle.mk_history.specs.Teaching.{stands_in}
use Rattle.mk_run_laws.specs.RunEvents.{moment_of, turns_of}
use Rattle.mk_run_laws.specs.TaughtIn.{taught_in}
use Rattle.mk_run_laws.specs.RunLaws.{RoundsJoin, TaughtMeans}
use Rattle.mk_run_laws.specs.Voting.{VotedOk, IsAbortedBy, ClashingVotes}
use Rattle.mk_run_laws.specs.Ends.{epochs_after, last_moment, run_epoch}
use Rattle.mk_run_laws.specs.Dates.{ServersHad, MadeAt, made_round}
use Rattle.mk_run_laws.specs.Joins.{EpochsJoin}
use Rattle.mk_run_laws.specs.Lifts.{IdsAreOfColumns}
use Rattle.mk_run_laws.proofs.Voted.{is_moment}
use Rattle.mk_base_laws.specs.Freezing.{IsFrozen, PromisesFreeze, PromisedAreOfEpoch}
use Rattle.mk_base_laws.specs.Supports.{PromisedSupport}
use Rattle.mk_base_laws.specs.Members.{BaseMembers}
use Rattle.mk_base_laws.specs.VotesFit.{VotesFitBase}
use Rattle.mk_fate_laws.specs.Composing.{AreHandedIn}
use Rattle.mk_fate_laws.specs.InBases.{commits_at, is_counted, PromisersOf, PromisersCount}
use Rattle.mk_fate_laws.proofs.Fields.{VoteFields, Decided, Support, TaughtBefore, IsNext}
use Rattle.mk_fate_laws.proofs.Building.{RunBases, base_fields, InBase, RunVotes, commit_is}
use Rattle.mk_fate_laws.proofs.Votes.{MomentLaws, agrees-commit, has_at, ok_at, voted_at, FinalAt, AcceptedAt, ok_entry, voted_there, support_of, decided_at}
use Rattle.mk_fate_laws.proofs.Placing.{Placed, at_end, ConflictOf, last_laws, last_faults, run_votes}
use Rattle.mk_fate_laws.proofs.Dating.{DateSide, at_last, until_last, run_bases}

-- the laws on which it rests, beside those of the bases
pub record JoinSide : Type 0 where
  pub dates : DateSide
  pub mutual_conflict : ConflictIsMutual
  pub count : Always PromisersCount
  pub stay : AlwaysLater BasesStay
  pub joined : RoundsJoin
  pub ids : IdsAreOfColumns
  pub epochs : EpochsJoin
  pub had : ServersHad
  pub taught : TaughtMeans
  pub freeze : PromisesFreeze
  pub promised : PromisedAreOfEpoch
  pub support : PromisedSupport
  pub members : BaseMembers
  pub fit : VotesFitBase
  pub clash : ClashingVotes

-- what is remembered of an entry that a record has
pub remembered : (o : Option PastEntry) (entry : Entry) → option_map entry_of_past o ≡ Some entry → (p : PastEntry) × (o ≡ Some p) × (entry_of_past p ≡ entry)
remembered None entry e = absurd (cc e)
remembered (Some p) entry e = (p, refl, same_Some (entry_of_past p) entry e)

ok_is : (v : Vote) → is_ok_vote v ≡ true → v ≡ VoteOk
ok_is VoteOk e = refl
ok_is (Rattle.mk_txn.specs.declared.Vote.TheVariants.Abort c) e = absurd (cc e)

last_or_none : {X : Type 0} (xs : List X) → (xs ≡ []) ⊎ ((init : List X) × (x : X) × (xs ≡ init ++ x ∷ []))
last_or_none [] = inl refl
last_or_none {X} (x ∷ xs) = elim (last_or_none xs) [
  | inl none ↦ inr ([], x, ap (λ (ys : List X). x ∷ ys) none)
  | inr k ↦ inr (x ∷ k.0, k.1, ap (λ (ys : List X). x ∷ ys) k.2)
]

module _ (side : JoinSide) (run : History) (shape : HasShape run) (legal : IsLegal run) where
  abbrev pub e_end : EpochState
  e_end = (last_state run).epochs

  abbrev pub bs : RunBases (Placed run) e_end
  bs = run_bases side.dates run legal

  abbrev pub vs : VoteFields (Placed run)
  vs = run_votes side.dates.columns side.mutual_conflict run legal

  abbrev pub Next : ℕ → Placed run → Type 0
  Next e x = IsNext (base_fields e_end bs) e x

  pub laws_of : (x : Placed run) → MomentLaws (taught_in run) (at_end run x)
  laws_of x = last_laws side.dates.columns run legal x.column x.in_run

  -- how many rounds a moment has seen
  now_is : (c : ℕ) → c < run.columns → (done : List RoundLog) → (moment_of run c done).past.now ≡ length done
  now_is c lt done = elim (last_or_none done) [
    | inl none ↦ subst (λ (ds : List RoundLog). (moment_of run c ds).past.now ≡ length ds) (sym none) refl
    | inr k ↦ subst (λ (ds : List RoundLog). (moment_of run c ds).past.now ≡ length ds) (sym k.2) ((side.joined run c lt k.0 k.1).2 ∙ sym (length_push k.0 k.1))
  ]

  -- an attempt with an entry is stamped with the entry's transaction, and the run's epoch of it is its own
  module _ (x : Placed run) (r : ℕ) (entry : PastEntry) (there : (at_end run x).past.entries r x.id ≡ Some entry) where
    facts_of : EntryFacts (taught_in run) (at_end run x) r x.id entry
    facts_of = (laws_of x).facts.entries r x.id entry there

    same_attempt : facts_of.attempt ≡ x.attempt
    same_attempt = same_Some facts_of.attempt x.attempt (sym facts_of.found ∙ x.found)

    pub is_stamped : x.attempt.txn ≡ Some entry.txn
    is_stamped = ap (λ (a : AttemptState). a.txn) (sym same_attempt) ∙ facts_of.stamped

    pub own_epoch : run_epoch run x.id ≡ x.attempt.epoch
    own_epoch = side.epochs run legal x.column x.in_run x.id x.attempt x.found (ap is_some is_stamped)

    -- its replica had the epoch
    had_epoch : EverHad e_end r (run_epoch run x.id)
    had_epoch =
        let d = side.dates in
        let m = at_end run x in
        let s = (d.served run legal x.column x.in_run m (last_is_moment d.columns.moments run x.column)).ever r facts_of.attempt.epoch facts_of.served in
        let then = side.had run legal s.0 r facts_of.attempt.epoch s.2 in
        let now = (until_last d run legal KeptGrows d.grow s.0 s.2.rest s.2.split).had r facts_of.attempt.epoch then in
        subst (EverHad e_end r) (ap (λ (a : AttemptState). a.epoch) same_attempt ∙ sym own_epoch) now

  pub had_voted : (x : Placed run) (r : ℕ) → ok_at (at_end run x) x.id r ≡ true → EverHad e_end r (run_epoch run x.id)
  had_voted x r ok = let k = ok_entry (at_end run x) x.id r ok in had_epoch x r k.0 k.1

  pub had_accepted : (x : Placed run) (view r : ℕ) → has_accepted (at_end run x).column.link x.id view r ≡ true → EverHad e_end r (run_epoch run x.id)
  had_accepted x view r is =
      let k = (laws_of x).accepted_true x.id r view (accept_sent (at_end run x).column.link x.id view r is) in
      had_epoch x r k.entry k.found

  -- ---- what is found in promises

  -- two attempts of one number are one
  pub one_place : (x : Placed run) (c : ℕ) → c < run.columns → (id : TxnId) (a : AttemptState) → attempt_of (last_moment run c).column id ≡ Some a → id ≡ x.id → a ≡ x.attempt
  one_place x c lt id a found same =
      let columns = side.dates.columns in
      let there : attempt_of (last_moment run c).column x.id ≡ Some a = subst (λ (i : TxnId). attempt_of (last_moment run c).column i ≡ Some a) same found in
      let columns_are : x.column ≡ c = same_column columns.moments side.ids run legal x.column c x.in_run lt x.id x.attempt a x.found there in
      same_Some a x.attempt (sym there ∙ subst (λ (d : ℕ). attempt_of (last_moment run d).column x.id ≡ Some x.attempt) columns_are x.found)

  -- what counts for a base
  pub promisers : (e : ℕ) (x : Placed run) → Next e x → PromisersOf e_end e
  promisers e x next = at_last side.dates run legal PromisersCount side.count e (bs.paths.made e next.force) next.after_first

  pub handed_in : (e : ℕ) (x : Placed run) → Next e x → AreHandedIn (counted_for e_end e) x.id (has_at (at_end run x) x.id)
  handed_in e x next p a = by x.attempt.txn refl
    where
      g : Among (record { epoch = e; promise = p }) e_end.promises × (p.adopted ≡ source_of e_end e)
      g = (promisers e x next).given p a

      all : run.rounds ≡ run.rounds ++ []
      all = sym (append-nil run.rounds)

      -- of an attempt without a transaction nothing is handed in
      none_handed : x.attempt.txn ≡ None → (o : Option Entry) → entry_of x.id p.entries ≡ o → o ≡ None
      none_handed k None is = refl
      none_handed k (Some entry) is =
          let f = find_tells (is_entry_of x.id) p.entries entry is in
          let of = side.promised run legal run.rounds [] all (record { epoch = e; promise = p }) g.0 entry f.0 in
          let same = one_place x of.column of.in_run entry.txn.id of.attempt of.found (same_id-tells entry.txn.id x.id f.1) in
          absurd (cc (sym k ∙ ap (λ (b : AttemptState). b.txn) (sym same) ∙ of.stamped))

      -- and nothing remembered
      none_there : x.attempt.txn ≡ None → (o : Option PastEntry) → (at_end run x).past.entries p.replica x.id ≡ o → option_map entry_of_past o ≡ None
      none_there k None is = refl
      none_there k (Some entry) is = absurd (cc (sym k ∙ is_stamped x p.replica entry is))

      by : (t : Option Transaction) → x.attempt.txn ≡ t → entry_of x.id p.entries ≡ has_at (at_end run x) x.id p.replica
      by None k = none_handed k (entry_of x.id p.entries) refl ∙ sym (none_there k ((at_end run x).past.entries p.replica x.id) refl)
      by (Some txn) k =
          let own = side.epochs run legal x.column x.in_run x.id x.attempt x.found (ap is_some k) in
          (side.freeze run legal run.rounds [] all (record { epoch = e; promise = p }) g.0 x.column x.in_run x.id x.attempt x.found (sym own ∙ next.of_source ∙ sym g.1)).handed

  -- ---- before the base was made

  -- a counted promise was given by then, and of an attempt with an entry all of it stays
  module _ (e : ℕ) (x : Placed run) (next : Next e x) (r : ℕ) (counts : is_counted e_end e r ≡ true) (entry : PastEntry) (there : (at_end run x).past.entries r x.id ≡ Some entry) where
    abbrev m_at : MadeAt run e (made_round run e)
    m_at = side.dates.made_was run e (bs.paths.made e next.force)

    abbrev early : EpochState
    early = epochs_after run m_at.done

    abbrev p : (p : PromiseState) × Among p (counted_for e_end e) × (p.replica ≡ r)
    p = (promisers e x next).each r counts

    abbrev g : GivenPromise
    g = record { epoch = e; promise = p.0 }

    same_taken : taken_for e_end e ≡ taken_for early e
    same_taken = elim (made_or_first early e m_at.made) [
      | inl first ↦ absurd (let up = next.after_first in omega (arith, first, up))
      | inr m ↦ (
          let k = (until_last side.dates run legal BasesStay side.stay m_at.done m_at.rest m_at.split m.0 m.1).1 in
          subst (λ (n : ℕ). taken_for e_end n ≡ taken_for early n) m.2 k)
    ]

    given_early : Among g early.promises
    given_early =
        let s = side.dates.splits run m_at.done m_at.rest (subst (EachRoundLegal run (first_state run)) m_at.split legal) in
        let count = subst PromisersCount s.to_done (side.count run.faults (turns_of run m_at.done) s.early) in
        ((count e m_at.made next.after_first).given p.0 (subst (λ (ps : List PromiseState). Among p.0 (counting ps)) same_taken p.1)).0

    of_epoch : x.attempt.epoch ≡ p.0.adopted
    of_epoch = sym (own_epoch x r entry there) ∙ next.of_source ∙ sym ((promisers e x next).given p.0 p.1).1

    frozen : IsFrozen run m_at.done g x.column x.id
    frozen = side.freeze run legal m_at.done m_at.rest m_at.split g given_early x.column x.in_run x.id x.attempt x.found of_epoch

    there_early : (moment_of run x.column m_at.done).past.entries r x.id ≡ Some entry
    there_early =
        subst (λ (n : ℕ). (moment_of run x.column m_at.done).past.entries n x.id ≡ Some entry) p.2
        (sym frozen.stays ∙ subst (λ (n : ℕ). (at_end run x).past.entries n x.id ≡ Some entry) (sym p.2) there)

    pub final_early : (outcome : Outcome) (round : ℕ) → entry.last ≡ Some (outcome, round) → round ≤ made_round run e
    final_early outcome round is =
        let c = side.dates.columns in
        let m = moment_of run x.column m_at.done in
        let of = is_moment run m_at.done m_at.rest m_at.split x.column in
        let facts = (c.facts (taught_in run) (c.stays run) m (c.reach run legal x.column x.in_run m of)).entries r x.id entry there_early in
        let low = (facts.last outcome round is).0 in
        let now = now_is x.column x.in_run m_at.done in
        let rounds = m_at.rounds in
        omega (arith, low, now, rounds)

    pub accepted_early : (kept : Accepted) → entry.accepted ≡ Some kept → is_commit kept.outcome ≡ true → IsSupported (last_moment run x.column) x.id (made_round run e)
    accepted_early kept has commits =
        let handed = frozen.handed ∙ ap (λ (n : ℕ). option_map entry_of_past ((moment_of run x.column m_at.done).past.entries n x.id)) p.2 ∙ ap (option_map entry_of_past) there_early in
        subst (IsSupported (last_moment run x.column) x.id) m_at.rounds
        (side.support run legal m_at.done m_at.rest m_at.split g given_early x.column x.in_run x.id x.attempt x.found of_epoch (entry_of_past entry) kept handed has commits)

  -- ---- what outcomes rest on

  pub support_at : (x : Placed run) (round : ℕ) → IsSupported (at_end run x) x.id round → Support vs x round
  support_at x round s =
      let k = support_of (at_end run x) x.id round s in
      record {
        voters = k.0;
        enough = subst (λ (f : ℕ). majority_of f ≤ count_below (members f) k.0) (last_faults side.dates.columns run legal x.column) k.1;
        each = k.2;
      }

  pub commits_as : (e : ℕ) (id : TxnId) (base : BaseState) → base_for e e_end ≡ Some base → commits_at e_end e id ≡ is_commit (stands_in base e id)
  commits_as e id base is = ap (λ (o : Option BaseState). passes is_commit (option_and_then (λ (b : BaseState). fate_in id b.list) o)) is ∙ by (fate_in id base.list)
    where
      by : (o : Option Outcome) → passes is_commit o ≡ is_commit (unwrap_or o (Abort (ByEpoch e)))
      by (Some o) = refl
      by None = refl

  pub decided_in : (x : Placed run) (o : Outcome) → IsDecided (at_end run x).round.faults (at_end run x).column x.id o → Decided vs x (is_commit o)
  decided_in x o d = elim (decided_at (taught_in run) (at_end run x) (laws_of x) x.id o d) [
    | inl fast ↦ inl fast
    | inr k ↦ inr (record {
      view = k.0;
      proposed = k.1;
      accepted = subst (λ (f : ℕ). majority_of f ≤ count_below (members f) (has_accepted (at_end run x).column.link x.id k.0)) (last_faults side.dates.columns run legal x.column) k.2;
    })
  ]

  pub taught_before : (x : Placed run) (a : AttemptState) (o : Outcome) (round : ℕ) → attempt_of (at_end run x).column x.id ≡ Some a → is_some a.txn ≡ true →
      taught_in run x.id a.epoch o round ≡ true → TaughtBefore (base_fields e_end bs) x (is_commit o) round
  taught_before x a o round found stamped teaches =
      let own_id = attempt_id (at_end run x).column.attempts a found in
      let k = side.taught run legal a o round (subst (λ (i : TxnId). taught_in run i a.epoch o round ≡ true) (sym own_id) teaches) in
      let own = side.epochs run legal x.column x.in_run x.id a found stamped in
      let round_is = ap (λ (j : Option ℕ). unwrap_or j 0) k.entered in
      let early = k.earlier in
      let up = k.above in
      record {
        epoch = k.epoch;
        entered = (k.entered_in, k.entered);
        earlier = omega (arith, round_is, early);
        above = omega (arith, own, up);
        teaches =
            commits_as k.epoch x.id k.base k.made
            ∙ agrees-commit (stands_in k.base k.epoch x.id) o (subst (λ (i : TxnId). agrees (stands_in k.base k.epoch i) o ≡ true) own_id k.teaches);
      }
    where
      attempt_id : (list : List AttemptState) (a : AttemptState) → find (λ (b : AttemptState). same_id b.id x.id) list ≡ Some a → a.id ≡ x.id
      attempt_id list a is = same_id-tells a.id x.id (find_tells (λ (b : AttemptState). same_id b.id x.id) list a is).1

  pub backed : (x : Placed run) (r : ℕ) (o : Bool) (round : ℕ) → FinalAt (at_end run x) x.id r o round →
      (Decided vs x o × (o ≡ true → Support vs x round)) ⊎ TaughtBefore (base_fields e_end bs) x o round
  backed x r o round f = elim (((laws_of x).backing x.id).final r f.entry f.outcome round f.there f.last).1 [
    | inl d ↦ inl (subst (Decided vs x) f.commits (decided_in x f.outcome d.0), λ is. support_at x round (d.1 (f.commits ∙ is)))
    | inr t ↦ (
        let same = same_Some t.0 x.attempt (sym t.1 ∙ x.found) in
        let stamped = ap is_some (ap (λ (a : AttemptState). a.txn) same ∙ is_stamped x r f.entry f.there) in
        inr (subst (λ (b : Bool). TaughtBefore (base_fields e_end bs) x b round) f.commits (taught_before x t.0 f.outcome round t.1 stamped t.2)))
  ]

  -- ---- of two attempts that conflict

  aborted : (x : Placed run) (r : ℕ) (entry : PastEntry) (limit : ℕ) → (at_end run x).past.entries r x.id ≡ Some entry → IsAbortedBy entry limit →
      (round : ℕ) × FinalAt (at_end run x) x.id r false round × (round ≤ limit)
  aborted x r entry limit there (cause, (round, (last, early))) = (round, record { entry = entry; there = there; outcome = Abort cause; last = last; commits = refl }, early)

  all_split : run.rounds ≡ run.rounds ++ []
  all_split = sym (append-nil run.rounds)

  voted_ok : (x : Placed run) (r : ℕ) → (ok : ok_at (at_end run x) x.id r ≡ true) → let k = ok_entry (at_end run x) x.id r ok in VotedOk (moment_of run x.column run.rounds) r (run_epoch run x.id) x.id k.0 k.2.1
  voted_ok x r ok =
      let k = ok_entry (at_end run x) x.id r ok in
      record {
        there = k.1;
        vote = k.3 ∙ ap (λ (v : Vote). Some (v, k.2.1)) (ok_is k.2.0 k.4);
        in_epoch = (x.attempt, x.found, sym (own_epoch x r k.0 k.1));
      }

  clash_one : (x y : Placed run) (r : ℕ) (one other : Transaction) → x.attempt.txn ≡ Some one → y.attempt.txn ≡ Some other → clashes one other ≡ true →
      run_epoch run x.id ≡ run_epoch run y.id → ok_at (at_end run x) x.id r ≡ true → ok_at (at_end run y) y.id r ≡ true →
      ((round : ℕ) × FinalAt (at_end run x) x.id r false round × (round ≤ voted_at (at_end run y) y.id r)) ⊎ ((round : ℕ) × FinalAt (at_end run y) y.id r false round × (round ≤ voted_at (at_end run x) x.id r))
  clash_one x y r one other of_one of_other clash same ok also =
      let k = ok_entry (at_end run x) x.id r ok in
      let l = ok_entry (at_end run y) y.id r also in
      let x_round = (voted_there (at_end run x) x.id r k.0 k.2 k.1 k.3).2 in
      let y_round = (voted_there (at_end run y) y.id r l.0 l.2 l.1 l.3).2 in
      let reader : one ≡ k.0.txn = same_Some one k.0.txn (sym of_one ∙ is_stamped x r k.0 k.1) in
      let writer : other ≡ l.0.txn = same_Some other l.0.txn (sym of_other ∙ is_stamped y r l.0 l.1) in
      let c = Clash-from_test k.0.txn l.0.txn (subst (λ (t : Transaction). clashes k.0.txn t ≡ true) writer (subst (λ (t : Transaction). clashes t other ≡ true) reader clash)) in
      elim (side.clash run shape legal run.rounds [] all_split x.column y.column r (run_epoch run x.id) x.in_run y.in_run x.id y.id k.0 l.0 k.2.1 l.2.1 (voted_ok x r ok)
      (subst (λ (n : ℕ). VotedOk (moment_of run y.column run.rounds) r n y.id l.0 l.2.1) (sym same) (voted_ok y r also)) c) [
        | inl a ↦ (let f = aborted x r k.0 l.2.1 k.1 a in inl (f.0, f.1, (let early = f.2 in omega (arith, early, y_round))))
        | inr a ↦ (let f = aborted y r l.0 k.2.1 l.1 a in inr (f.0, f.1, (let early = f.2 in omega (arith, early, x_round))))
      ]

  pub clashing : (x y : Placed run) (r : ℕ) → ConflictOf run x y → run_epoch run x.id ≡ run_epoch run y.id → ok_at (at_end run x) x.id r ≡ true → ok_at (at_end run y) y.id r ≡ true →
      ((round : ℕ) × FinalAt (at_end run x) x.id r false round × (round ≤ voted_at (at_end run y) y.id r)) ⊎ ((round : ℕ) × FinalAt (at_end run y) y.id r false round × (round ≤ voted_at (at_end run x) x.id r))
  clashing x y r k same ok also = elim (either (clashes k.one k.other) (clashes k.other k.one) k.conflicts) [
    | inl c ↦ clash_one x y r k.one k.other k.of_one k.of_other c same ok also
    | inr c ↦ elim (clash_one y x r k.other k.one k.of_other k.of_one c (sym same) also ok) [ inl a ↦ inr a | inr a ↦ inl a ]
  ]
    where
      either : (a b : Bool) → (a || b) ≡ true → (a ≡ true) ⊎ (b ≡ true)
      either true b e = inl refl
      either false b e = inr e

  -- ---- members of bases

  -- an attempt that a base lists has the transaction that stands there
  member_place : (made : MadeBase) → Among made e_end.made → (f : Fated) → Among f made.base.list → (x : Placed run) → x.id ≡ f.txn.id → x.attempt.txn ≡ Some f.txn
  member_place made a f b x same =
      let k = side.members run legal made a f b in
      ap (λ (t : AttemptState). t.txn) (sym (one_place x k.column k.in_run f.txn.id k.attempt k.found (sym same))) ∙ k.stamped

  -- what an epoch's base lists stands in one that was made
  in_made : (e : ℕ) (f : Fated) → InBase e_end e f → (made : MadeBase) × Among made e_end.made × Among f made.base.list
  in_made e f (base, is, a) = elim (made_or_first e_end e (ap is_some is)) [
    | inl first ↦ absurd (none e first base is a)
    | inr m ↦ (m.0, m.1, subst (λ (s : BaseState). Among f s.list) (same_Some base m.0.base (sym is ∙ m.3)) a)
  ]
    where
      none : (n : ℕ) → n ≡ 0 → (base : BaseState) → base_for n e_end ≡ Some base → Among f base.list → ⊥
      none n first base is a =
          let empty : base_for 0 e_end ≡ Some base = subst (λ (k : ℕ). base_for k e_end ≡ Some base) first is in
          subst (λ (s : BaseState). Among f s.list) (sym (same_Some empty_base base empty)) a

  pub place_of : (e : ℕ) (f : Fated) → InBase e_end e f → (x : Placed run) × (x.id ≡ f.txn.id)
  place_of e f there =
      let m = in_made e f there in
      let k = side.members run legal m.0 m.1 f m.2 in
      (record { column = k.column; in_run = k.in_run; id = f.txn.id; attempt = k.attempt; found = k.found }, refl)

  pub txn_of : (e : ℕ) (f : Fated) → InBase e_end e f → (x : Placed run) → x.id ≡ f.txn.id → x.attempt.txn ≡ Some f.txn
  txn_of e f there x same = let m = in_made e f there in member_place m.0 m.1 f m.2 x same

  pub conflict_of : (e : ℕ) (one other : Fated) (x y : Placed run) → InBase e_end e one → InBase e_end e other → x.id ≡ one.txn.id → y.id ≡ other.txn.id →
      conflict one.txn other.txn ≡ true → ConflictOf run x y
  conflict_of e one other x y p q same also clash =
      record { one = one.txn; other = other.txn; of_one = txn_of e one p x same; of_other = txn_of e other q y also; conflicts = clash }

  pub conflict_in : (e : ℕ) (one other : Fated) (x y : Placed run) → InBase e_end e one → InBase e_end e other → x.id ≡ one.txn.id → y.id ≡ other.txn.id →
      ConflictOf run x y → conflict one.txn other.txn ≡ true
  conflict_in e one other x y p q same also k =
      let left : k.one ≡ one.txn = same_Some k.one one.txn (sym k.of_one ∙ txn_of e one p x same) in
      let right : k.other ≡ other.txn = same_Some k.other other.txn (sym k.of_other ∙ txn_of e other q y also) in
      subst (λ (t : Transaction). conflict one.txn t ≡ true) right (subst (λ (t : Transaction). conflict t k.other ≡ true) left k.conflicts)

  -- an Ok vote conflicts with no commit of its epoch's base
  pub vote_base : (x y : Placed run) (r : ℕ) → ok_at (at_end run x) x.id r ≡ true → commits_at e_end (run_epoch run x.id) y.id ≡ true → ConflictOf run x y → ⊥
  vote_base x y r ok commits k = by (base_for (run_epoch run x.id) e_end) refl commits
    where
      e : ℕ
      e = run_epoch run x.id

      by : (o : Option BaseState) → base_for (run_epoch run x.id) e_end ≡ o → passes is_commit (option_and_then (λ (b : BaseState). fate_in y.id b.list) o) ≡ true → ⊥
      by None is c = cc c
      by (Some base) is c =
          let f = fate-member y.id base.list Commit (commit_is (fate_in y.id base.list) c) in
          let entry = ok_entry (at_end run x) x.id r ok in
          let fits = side.fit run shape legal run.rounds [] all_split x.column r (run_epoch run x.id) x.in_run x.id entry.0 entry.2.1 base (voted_ok x r ok) is in
          let committed = commits-member base.list f.0 f.1 (ap is_commit f.3) in
          let apart = fit-apart base entry.0.txn f.0.txn fits committed in
          let left : k.one ≡ entry.0.txn = same_Some k.one entry.0.txn (sym k.of_one ∙ is_stamped x r entry.0 entry.1) in
          let right : k.other ≡ f.0.txn = same_Some k.other f.0.txn (sym k.of_other ∙ txn_of (run_epoch run x.id) f.0 (base, is, f.1) y (sym f.2)) in
          cc (sym (subst (λ (t : Transaction). conflict entry.0.txn t ≡ true) right (subst (λ (t : Transaction). conflict t k.other ≡ true) left k.conflicts)) ∙ apart)

  -- ---- all of it

  pub final_of : (x : Placed run) (r : ℕ) (o : Bool) (round : ℕ) → FinalAt (at_end run x) x.id r o round →
      (entry : Entry) × (outcome : Outcome) × (has_at (at_end run x) x.id r ≡ Some entry) × (entry.last ≡ Some outcome) × (is_commit outcome ≡ o)
  final_of x r o round f = (entry_of_past f.entry, f.outcome, ap (option_map entry_of_past) f.there, ap undated f.last, f.commits)

  pub final_at : (x : Placed run) (r : ℕ) (entry : Entry) (outcome : Outcome) → has_at (at_end run x) x.id r ≡ Some entry → entry.last ≡ Some outcome →
      (round : ℕ) × FinalAt (at_end run x) x.id r (is_commit outcome) round
  final_at x r entry outcome has is =
      let p = remembered ((at_end run x).past.entries r x.id) entry has in
      let d = undated-some p.0.last outcome (ap (λ (e : Entry). e.last) p.2 ∙ is) in
      (d.0, record { entry = p.0; there = p.1; outcome = outcome; last = d.1; commits = refl })

  pub accepted_of : (x : Placed run) (r view : ℕ) (o : Bool) → AcceptedAt (at_end run x) x.id r view o →
      (entry : Entry) × (kept : Accepted) × (has_at (at_end run x) x.id r ≡ Some entry) × (entry.accepted ≡ Some kept) × (kept.view ≡ view) × (is_commit kept.outcome ≡ o)
  accepted_of x r view o a = (entry_of_past a.entry, a.kept, ap (option_map entry_of_past) a.there, a.accepted, a.in_view, a.commits)

  pub accepted_at : (x : Placed run) (r : ℕ) (entry : Entry) (kept : Accepted) → has_at (at_end run x) x.id r ≡ Some entry → entry.accepted ≡ Some kept →
      AcceptedAt (at_end run x) x.id r kept.view (is_commit kept.outcome)
  accepted_at x r entry kept has is =
      let p = remembered ((at_end run x).past.entries r x.id) entry has in
      record { entry = p.0; there = p.1; kept = kept; accepted = ap (λ (e : Entry). e.accepted) p.2 ∙ is; in_view = refl; commits = refl }

  abbrev pub run_joins : RunVotes (Placed run) e_end bs
  run_joins =
      record {
        v = vs;
        same_faults = sym (until_last side.dates run legal KeptGrows side.dates.grow [] run.rounds refl).same_faults;
        has = λ x r. has_at (at_end run x) x.id r;
        ok_is = λ x r. refl;
        final_of = final_of;
        final_at = final_at;
        accepted_of = accepted_of;
        accepted_at = accepted_at;
        handed = handed_in;
        had_voted = had_voted;
        had_accepted = had_accepted;
        final_time = λ e x r o round next counts f. final_early e x next r counts f.entry f.there f.outcome round f.last;
        accepted_support = λ e x r view next counts a. support_at x (made_round run e) (accepted_early e x next r counts a.entry a.there a.kept a.accepted a.commits);
        backed = backed;
        clashing = clashing;
        vote_base = vote_base;
        placed = place_of;
        conflict_of = conflict_of;
        conflict_in = conflict_in;
      }
