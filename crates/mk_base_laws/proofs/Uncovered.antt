-- What a replica has an entry of was begun after the base of its epoch was made, so that base's marks do not cover it.
use Rattle.std.proofs.Common.{◌≡◌, ◌<◌, ◌≤◌, ℕ, ◌+◌, Bool, true, false, refl, arith, inl, inr, sym, ap, ◌∙◌, List, [], ◌∷◌, ◌++◌, Option, Some, None, subst, length}
use Rattle.std.specs.Prelude.{is_some}
use Rattle.std.proofs.lemmas.Option.{same_Some}
use Rattle.std.proofs.lemmas.List.{append_assoc}
use Rattle.mk_txn.specs.declared.TxnId.{TxnId}
use Rattle.mk_txn.specs.MarkMaps.{covers}
use Rattle.mk_txn.specs.Transactions.{Transaction}
use Rattle.mk_words.specs.declared.Entry.{Entry}
use Rattle.mk_words.specs.Entries.{entry_of}
use Rattle.mk_words.specs.Bases.{BaseState, empty_base}
use Rattle.mk_words.specs.declared.GlobalEntry.{GlobalEntry}
use Rattle.mk_model.specs.ColumnState.{ColumnState, AttemptState, attempt_of, entries_at}
use Rattle.mk_column_laws.specs.Moments.{Moment, PastEntry}
use Rattle.mk_column_laws.specs.Moves.{entry_of_past}
use Rattle.mk_model.specs.EpochState.{ReplicaState, base_for}
use Rattle.mk_epoch_laws.specs.WordLaws.{IsAt}
use Rattle.mk_epoch_laws.proofs.EpochFacts.{EpochFacts}
use Rattle.mk_epoch_laws.proofs.Extending.{Extends, extends_further, keeps_base_for}
use Rattle.mk_epoch_laws.proofs.Paths.{made_or_first}
use Rattle.mk_record_laws.specs.Attempts.{UnreadIsNotStamped, RoundsStay, BegunStays}
use Rattle.mk_history.specs.declared.RoundLog.{RoundLog}
use Rattle.mk_history.specs.Histories.{History}
use Rattle.mk_history.specs.Legality.{IsLegal}
use Rattle.mk_history.specs.Wholes.{first_state, column_of, after_logs, state_through}
use Rattle.mk_run_laws.specs.RunEvents.{IsMomentOf, emptied_in, moment_of}
use Rattle.mk_run_laws.specs.RunLaws.{ReadsInRuns, IdsInRuns}
use Rattle.mk_run_laws.specs.Dates.{ServedAt}
use Rattle.mk_run_laws.specs.Ends.{epochs_after, whole_within}
use Rattle.mk_run_laws.proofs.Emptied.{before_rounds}
use Rattle.mk_run_laws.proofs.Joined.{lines_reset}
use Rattle.mk_run_laws.proofs.Reaching.{append-one, length-one}
use Rattle.mk_run_laws.proofs.Voted.{is_moment}
use Rattle.mk_base_laws.specs.Marks.{SettledIn, BaseMarks, NoEntryCovered}
use Rattle.mk_base_laws.proofs.Lower.{Lower}
use Rattle.mk_base_laws.proofs.Walking.{at_moment, between, facts_after_rounds, later_extends}
use Rattle.mk_base_laws.proofs.Resetting.{before_reset, attempt_reset}
use Rattle.mk_base_laws.proofs.Keeping.{facts_lines, extends_lines}
use Rattle.mk_base_laws.proofs.Owned.{owned_in, lines_answered}
use Rattle.mk_base_laws.proofs.Frozen.{first_part}
use Rattle.mk_base_laws.proofs.Marked.{covers_nothing}

-- a moment after some rounds has their number
pub now_is : (laws : Lower) (run : History) → IsLegal run → (c : ℕ) → c < run.columns → (done rest : List RoundLog) → run.rounds ≡ done ++ rest → (moment_of run c done).past.now ≡ length done
now_is laws run legal c lt done rest split = (before_rounds run legal c lt laws.phases laws.held laws.stay laws.entered done rest split).now

-- an entry that a column has before a line, as its moment has it
pub record Entered (run : History) (done : List RoundLog) (round : RoundLog) (c r : ℕ) (id : TxnId) (entry : Entry) (replica : ReplicaState) : Type 0 where
  pub past : PastEntry
  pub there : (moment_of run c (done ++ round ∷ [])).past.entries r id ≡ Some past
  pub as_past : entry ≡ entry_of_past past
  pub attempt : AttemptState
  pub found : attempt_of (moment_of run c (done ++ round ∷ [])).column id ≡ Some attempt
  pub stamped : attempt.txn ≡ Some entry.txn
  pub same_epoch : attempt.epoch ≡ replica.adopted

module _ (laws : Lower) (run : History) (legal : IsLegal run) (done rest : List RoundLog) (round : RoundLog) (split : run.rounds ≡ done ++ round ∷ rest)
    (lines more : List GlobalEntry) (part : round.globals ≡ lines ++ more) where
  pub then_is : (c : ℕ) → IsMomentOf run c (moment_of run c (done ++ round ∷ []))
  then_is c = is_moment run (done ++ round ∷ []) rest (split ∙ append-one done round rest) c

  pub entered : (c : ℕ) → c < run.columns → (r : ℕ) (id : TxnId) (entry : Entry) → entry_of id (entries_at (column_of (whole_within run done round lines) c) r) ≡ Some entry →
      (replica : ReplicaState) → IsAt (whole_within run done round lines).epochs r replica → Entered run done round c r id entry replica
  entered c lt r id entry there replica at =
      let m = moment_of run c (done ++ round ∷ []) in
      let k = then_is c in
      let o = owned_in laws run legal c lt done rest round split lines more part r id entry there in
      let one : o.replica ≡ replica = same_Some o.replica replica (sym o.at ∙ at) in
      let was = before_reset (emptied_in lines) m.column r id entry (ap (λ (x : ColumnState). entry_of id (entries_at x r)) (sym (lines_reset run c lt done round lines)) ∙ there) in
      let p = at_moment laws run legal c lt
      (λ taught n. (q : ℕ) (i : TxnId) (x : Entry) → entry_of i (entries_at n.column q) ≡ Some x → (past : PastEntry) × (n.past.entries q i ≡ Some past) × (x ≡ entry_of_past past))
      laws.past m k r id entry was.1 in
      let f = (laws.facts run legal c lt m k).entries r id p.0 p.1 in
      let found = sym (attempt_reset (emptied_in lines) m.column id) ∙ ap (λ (x : ColumnState). attempt_of x id) (sym (lines_reset run c lt done round lines)) ∙ o.found in
      let same : f.attempt ≡ o.attempt = same_Some f.attempt o.attempt (sym f.found ∙ found) in
      record {
        past = p.0;
        there = p.1;
        as_past = p.2;
        attempt = o.attempt;
        found = found;
        stamped = ap (λ (x : AttemptState). x.txn) (sym same) ∙ f.stamped ∙ ap (λ (x : Entry). Some x.txn) (sym p.2);
        same_epoch = o.same_epoch ∙ ap (λ (x : ReplicaState). x.adopted) one;
      }

  pub facts_within : EpochFacts (whole_within run done round lines).epochs
  facts_within =
      let logs = after_logs run round (state_through run (first_state run) done) in
      facts_lines run lines logs (facts_after_rounds run legal done (round ∷ rest) split) (lines_answered run legal done rest round split lines more part)

  -- from the end of earlier rounds to there
  pub extends_within : (before mid : List RoundLog) → done ≡ before ++ mid → Extends (epochs_after run before) (whole_within run done round lines).epochs
  extends_within before mid same =
      let logs = after_logs run round (state_through run (first_state run) done) in
      extends_further (epochs_after run before) (epochs_after run done) (whole_within run done round lines).epochs
      (subst (λ (rs : List RoundLog). Extends (epochs_after run before) (epochs_after run rs)) (sym same)
      (later_extends run legal before mid (round ∷ rest) (split ∙ ap (λ (rs : List RoundLog). rs ++ round ∷ rest) same)))
      (extends_lines run lines logs)

module _ (laws : Lower) (reads : ReadsInRuns) (unread : UnreadIsNotStamped) (begun : BegunStays) (ids : IdsInRuns) (marks : BaseMarks)
    (run : History) (legal : IsLegal run) (done rest : List RoundLog) (round : RoundLog) (split : run.rounds ≡ done ++ round ∷ rest)
    (lines more : List GlobalEntry) (part : round.globals ≡ lines ++ more) (c : ℕ) (lt : c < run.columns) (r : ℕ) (id : TxnId) (entry : Entry)
    (there : entry_of id (entries_at (column_of (whole_within run done round lines) c) r) ≡ Some entry) (replica : ReplicaState) (at : IsAt (whole_within run done round lines).epochs r replica) where
  e : Entered run done round c r id entry replica
  e = entered laws run legal done rest round split lines more part c lt r id entry there replica at

  m : Moment
  m = moment_of run c (done ++ round ∷ [])

  k : IsMomentOf run c (moment_of run c (done ++ round ∷ []))
  k = then_is laws run legal done rest round split lines more part c

  from_one : 1 ≤ id.seq
  from_one = ((ids run legal c lt (moment_of run c (done ++ round ∷ [])) k).attempts id e.attempt e.found).from_one

  -- its home replica served the epoch in the round in which it was begun
  home : (moment_of run c (done ++ round ∷ [])).past.served_in ((moment_of run c (done ++ round ∷ [])).past.begun_in id) e.attempt.replica e.attempt.epoch ≡ true
  home = elim ((reads run legal c lt (moment_of run c (done ++ round ∷ [])) k).attempts id e.attempt e.found).home [
    | inr served ↦ served
    | inl is ↦
        let none = at_moment laws run legal c lt (λ taught n. (i : TxnId) (a : AttemptState) → attempt_of n.column i ≡ Some a → a.unread ≡ true → (a.txn ≡ None) × (a.reading ≡ false))
        unread (moment_of run c (done ++ round ∷ [])) k id e.attempt e.found is in
        absurd (nothing (sym none.0 ∙ e.stamped))
  ]
    where
      nothing : ◌≡◌ {A = Option Transaction} None (Some entry.txn) → ⊥
      nothing x = cc x

  -- by the rounds before that one its base was made, and then the attempt was not there
  before_begun : (early : List RoundLog) → length early + 1 ≡ (moment_of run c (done ++ round ∷ [])).past.begun_in id → (moment_of run c (done ++ round ∷ [])).past.begun_in id ≤ (moment_of run c (done ++ round ∷ [])).past.now →
      ServedAt run early e.attempt.replica e.attempt.epoch → covers replica.base.marks id ≡ true → ⊥
  before_begun early len late s covered =
      let now = now_is laws run legal c lt (done ++ round ∷ []) rest (split ∙ append-one done round rest) in
      let one = length-one done round in
      let mid = first_part run.rounds early s.rest done (round ∷ rest) s.split split (omega (arith, len, late, now, one)) in
      let facts = facts_after_rounds run legal early s.rest s.split in
      let own = (facts.each e.attempt.replica s.replica s.at).own_base in
      let here = ((facts_within laws run legal done rest round split lines more part).each r replica at).own_base in
      let epoch : s.replica.adopted ≡ replica.adopted = s.adopted ∙ e.same_epoch in
      let kept = keeps_base_for (epochs_after run early) (whole_within run done round lines).epochs (extends_within laws run legal done rest round split lines more part early mid.0 mid.1)
      s.replica.adopted s.replica.base own in
      let same : s.replica.base ≡ replica.base = same_Some s.replica.base replica.base (sym kept ∙ ap (λ (n : ℕ). base_for n (whole_within run done round lines).epochs) epoch ∙ here) in
      let covers_it = ap (λ (b : BaseState). covers b.marks id) same ∙ covered in
      elim (made_or_first (epochs_after run early) s.replica.adopted (ap is_some own)) [
        | inl first ↦
            let empty : empty_base ≡ s.replica.base = same_Some empty_base s.replica.base (ap (λ (n : ℕ). base_for n (epochs_after run early)) (sym first) ∙ own) in
            covers_nothing id from_one (ap (λ (b : BaseState). covers b.marks id) empty ∙ covers_it)
        | inr made ↦
            let base : made.0.base ≡ s.replica.base = same_Some made.0.base s.replica.base (sym made.3 ∙ own) in
            not_there early mid.0 mid.1 s.rest s.split len (marks run legal early s.rest s.split made.0 made.1 id from_one (ap (λ (b : BaseState). covers b.marks id) base ∙ covers_it))
      ]
    where
      not_there : (early mid : List RoundLog) → done ≡ early ++ mid → (others : List RoundLog) → run.rounds ≡ early ++ others →
          length early + 1 ≡ (moment_of run c (done ++ round ∷ [])).past.begun_in id → SettledIn run early id → ⊥
      not_there early mid same others split_early len s =
          let theirs = laws.ids run legal s.column s.in_run (moment_of run s.column early) (is_moment run early others split_early s.column) id s.attempt s.found in
          let ours = laws.ids run legal c lt (moment_of run c (done ++ round ∷ [])) k id e.attempt e.found in
          let found = subst (λ (n : ℕ). attempt_of (moment_of run n early).column id ≡ Some s.attempt) (sym theirs ∙ ours) s.found in
          let whole : done ++ round ∷ [] ≡ early ++ (mid ++ round ∷ []) = ap (λ (rs : List RoundLog). rs ++ round ∷ []) same ∙ append_assoc early mid (round ∷ []) in
          let stay = between laws run legal c lt RoundsStay begun early (mid ++ round ∷ []) rest (split ∙ append-one done round rest ∙ ap (λ (rs : List RoundLog). rs ++ rest) whole) in
          let begins = ap (λ (rs : List RoundLog). (moment_of run c rs).past.begun_in id) whole ∙ stay.begun id s.attempt found in
          let low = ((reads run legal c lt (moment_of run c early) (is_moment run early others split_early c)).attempts id s.attempt found).begun in
          let now = now_is laws run legal c lt early others split_early in
          omega (arith, len, begins, low, now)

  uncovered : covers replica.base.marks id ≡ false
  uncovered = by (covers replica.base.marks id) refl
    where
      by : (b : Bool) → covers replica.base.marks id ≡ b → b ≡ false
      by false x = refl
      by true x =
          let s = (laws.served run legal c lt (moment_of run c (done ++ round ∷ [])) k).in_round ((moment_of run c (done ++ round ∷ [])).past.begun_in id) e.attempt.replica e.attempt.epoch home in
          absurd (before_begun s.0 s.1 s.2 s.3 x)

pub no_entry_covered : Lower → ReadsInRuns → UnreadIsNotStamped → BegunStays → IdsInRuns → BaseMarks → NoEntryCovered
no_entry_covered laws reads unread begun ids marks run legal done rest round split lines more part c lt r id entry there replica at =
    uncovered laws reads unread begun ids marks run legal done rest round split lines more part c lt r id entry there replica at
