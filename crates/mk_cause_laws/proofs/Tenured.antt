-- The tenure in which a check stands: what stands before it, and the base that it opens with.
use Rattle.std.proofs.Common.{◌≡◌, ◌<◌, ℕ, Bool, true, false, refl, arith, inl, inr, sym, ap, ◌∙◌, List, [], ◌∷◌, ◌++◌, Option, Some, None, subst, cond, not}
use Rattle.std.specs.Prelude.{slice_get, is_some, ◌==◌}
use Rattle.std.proofs.lemmas.Option.{same_Some}
use Rattle.std.proofs.lemmas.Bool.{and_parts, eq-eqb, eqb-true}
use Rattle.mk_lists.specs.Among.{Among, Among-append_right}
use Rattle.mk_run_laws.proofs.LastMoments.{last_always}
use Rattle.mk_txn.specs.Outcomes.{is_commit}
use Rattle.mk_txn.specs.Transactions.{Transaction}
use Rattle.mk_words.specs.declared.JournalEntry.{JournalEntry}
use Rattle.mk_words.specs.Cells.{CellState, cell_answer}
use Rattle.mk_words.specs.Journals.{cell_through, EachAnswered}
use Rattle.mk_words.specs.Cells.{cell_after}
use Rattle.mk_words.specs.declared.Fated.{Fated}
use Rattle.mk_words.specs.Bases.{BaseState, empty_base, commits_in}
use Rattle.mk_column_laws.specs.Moments.{PastAct}
use Rattle.mk_column_laws.specs.ActLaws.{IsNoCheckAfter, NoCheckFollows}
use Rattle.mk_model.specs.EpochState.{EpochState, ReplicaState, first_epochs, base_for}
use Rattle.mk_model.specs.GlobalAnswers.{lacks}
use Rattle.mk_epoch_laws.specs.Turns.{after_turns}
use Rattle.mk_epoch_laws.specs.BaseLaws.{BasesMade, BasesHeld, KeptGrows}
use Rattle.mk_epoch_laws.proofs.Paths.{made_or_first}
use Rattle.mk_history.specs.declared.RoundLog.{RoundLog}
use Rattle.mk_history.specs.Histories.{History}
use Rattle.mk_history.specs.Legality.{IsLegal, EachRoundLegal}
use Rattle.mk_history.specs.Wholes.{first_state, last_state}
use Rattle.mk_run_laws.specs.RunEvents.{turns_of}
use Rattle.mk_run_laws.specs.Ends.{epochs_after}
use Rattle.mk_run_laws.specs.Lifts.{IsOfJournal}
use Rattle.mk_run_laws.specs.Tenures.{DatedEntry, has_epoch, act_in, acts_in, StandsIn}
use Rattle.mk_run_laws.proofs.Lines.{legal-first}
use Rattle.mk_cause_laws.proofs.Lower.{Lower}
use Rattle.mk_cause_laws.proofs.Owned.{IsOf}

-- ---- lists

stands-member : (xs ys : List PastAct) (x : PastAct) → StandsIn xs ys → Among x xs → Among x ys
stands-member [] ys x s a = absurd a
stands-member (y ∷ xs) [] x s a = absurd s
stands-member (y ∷ xs) (z ∷ ys) x (inl here) (inl same) = inl (here.0 ∙ same)
stands-member (y ∷ xs) (z ∷ ys) x (inl here) (inr a) = inr (stands-member xs ys x here.1 a)
stands-member (y ∷ xs) (z ∷ ys) x (inr s) a = inr (stands-member (y ∷ xs) ys x s a)

-- what holds of a list holds of those that stand in it
pub no_check_within : (xs ys : List PastAct) → StandsIn xs ys → NoCheckFollows ys → NoCheckFollows xs
no_check_within [] ys s n = tt
no_check_within (x ∷ xs) [] s n = absurd s
no_check_within (x ∷ xs) (y ∷ ys) (inl here) n =
    ((λ later a. subst (λ (z : PastAct). IsNoCheckAfter z later) here.0 (n.0 later (stands-member xs ys later here.1 a))), no_check_within xs ys here.1 n.1)
no_check_within (x ∷ xs) (y ∷ ys) (inr s) n = no_check_within (x ∷ xs) ys s n.1

module _ (c r epoch key : ℕ) where
  acts-member : (d : DatedEntry) (ds : List DatedEntry) → Among d ds → d.entry.seat ≡ c → Among (act_in r epoch key d) (acts_in c r epoch key ds)
  acts-member d [] a own = absurd a
  acts-member d (x ∷ ds) (inl same) own =
      subst (λ (b : Bool). Among (act_in r epoch key d) (cond b (act_in r epoch key x ∷ acts_in c r epoch key ds) (acts_in c r epoch key ds)))
      (sym (eq-eqb x.entry.seat c (ap (λ (y : DatedEntry). y.entry.seat) same ∙ own))) (inl (ap (act_in r epoch key) same))
  acts-member d (x ∷ ds) (inr a) own = by (x.entry.seat == c) (acts-member d ds a own)
    where
      by : (b : Bool) → Among (act_in r epoch key d) (acts_in c r epoch key ds) →
          Among (act_in r epoch key d) (cond b (act_in r epoch key x ∷ acts_in c r epoch key ds) (acts_in c r epoch key ds))
      by true m = inr m
      by false m = m

  -- of two entries of a column the later one is no check of what the first commits
  pub no_check_after : (before rest : List DatedEntry) (first d : DatedEntry) → Among first before → first.entry.seat ≡ c → d.entry.seat ≡ c →
      NoCheckFollows (acts_in c r epoch key (before ++ d ∷ rest)) → IsNoCheckAfter (act_in r epoch key first) (act_in r epoch key d)
  no_check_after [] rest first d a own mine n = absurd a
  no_check_after (x ∷ before) rest first d (inl same) own mine n =
      let here = eq-eqb x.entry.seat c (ap (λ (y : DatedEntry). y.entry.seat) same ∙ own) in
      let later = acts_in c r epoch key (before ++ d ∷ rest) in
      let k : NoCheckFollows (act_in r epoch key x ∷ later) = subst (λ (b : Bool). NoCheckFollows (cond b (act_in r epoch key x ∷ later) later)) here n in
      subst (λ (y : DatedEntry). IsNoCheckAfter (act_in r epoch key y) (act_in r epoch key d)) same
      (k.0 (act_in r epoch key d) (acts-member d (before ++ d ∷ rest) (Among-append_right d before (d ∷ rest) (inl refl)) mine))
  no_check_after (x ∷ before) rest first d (inr a) own mine n = no_check_after before rest first d a own mine (by (x.entry.seat == c) n)
    where
      by : (b : Bool) → NoCheckFollows (cond b (act_in r epoch key x ∷ acts_in c r epoch key (before ++ d ∷ rest)) (acts_in c r epoch key (before ++ d ∷ rest))) →
          NoCheckFollows (acts_in c r epoch key (before ++ d ∷ rest))
      by true k = k.1
      by false k = k

-- an entry has the answer that the cell gives where those before it lead
pub answer_there : (opening : CellState) (before : List JournalEntry) (entry : JournalEntry) (rest : List JournalEntry) → EachAnswered opening (before ++ entry ∷ rest) →
    cell_answer (cell_through opening before) entry.act ≡ entry.answer
answer_there opening [] entry rest h = h.0
answer_there opening (x ∷ before) entry rest h = answer_there (cell_after opening x.act) before entry rest h.1

pub commit_listed : (list : List Fated) (txn : Transaction) → Among txn (commits_in list) → (f : Fated) × Among f list × (f.txn ≡ txn)
commit_listed [] txn a = absurd a
commit_listed (f ∷ list) txn a = by (is_commit f.outcome) (commit_listed list txn) a
  where
    by : (b : Bool) → (Among txn (commits_in list) → (g : Fated) × Among g list × (g.txn ≡ txn)) → Among txn (cond b (f.txn ∷ commits_in list) (commits_in list)) →
        (g : Fated) × Among g (f ∷ list) × (g.txn ≡ txn)
    by true again (inl same) = (f, inl refl, same)
    by true again (inr m) = let k = again m in (k.0, inr k.1, k.2)
    by false again m = let k = again m in (k.0, inr k.1, k.2)

-- ---- bases

-- a replica that has an epoch's state
epoch_there : (epoch : ℕ) (o : Option ReplicaState) → has_epoch epoch o ≡ true → (replica : ReplicaState) × (o ≡ Some replica) × (replica.adopted ≡ epoch)
epoch_there epoch None h = absurd (cc h)
epoch_there epoch (Some replica) h =
    let both = and_parts (not (lacks replica.phase)) (replica.adopted == epoch) h in
    (replica, refl, eqb-true replica.adopted epoch both.1)

module _ (laws : Lower) (run : History) (legal : IsLegal run) where
  -- the epoch of a tenure with an entry has a base
  pub base_of_tenure : (r epoch key : ℕ) (d : DatedEntry) → IsOfJournal run run.rounds r epoch key d → (base : BaseState) × (base_for epoch (last_state run).epochs ≡ Some base)
  base_of_tenure r epoch key d j =
      let more = j.round ∷ j.rest in
      let whole : EachRoundLegal run (first_state run) (j.done ++ more) = subst (EachRoundLegal run (first_state run)) j.split legal in
      let l = laws.lines run j.done (legal-first run (first_state run) j.done more whole) in
      let held = subst BasesHeld l.1 (laws.held run.faults (turns_of run j.done) l.0) in
      let x = epoch_there epoch (slice_get (epochs_after run j.done).replicas r) j.had in
      let s = laws.split run j.done more whole in
      let grows : KeptGrows (epochs_after run j.done) (epochs_after run (j.done ++ more)) =
      subst (λ (e : EpochState). KeptGrows e (epochs_after run (j.done ++ more))) s.to_done
      (subst (KeptGrows (after_turns (first_epochs run.faults) (turns_of run j.done))) s.to_end (laws.grows run.faults (turns_of run j.done) s.more s.early s.late)) in
      let base = grows.bases (x.0).adopted (x.0).base (held.by_replica r x.0 x.1) in (
        (x.0).base,
        subst (λ (e : ℕ). base_for e (last_state run).epochs ≡ Some (x.0).base) x.2
            (subst (λ (rounds : List RoundLog). base_for (x.0).adopted (epochs_after run rounds) ≡ Some (x.0).base) (sym j.split) base),
      )

  -- what it lists are transactions of attempts of epochs below
  pub owned_by_base : (epoch : ℕ) (base : BaseState) → base_for epoch (last_state run).epochs ≡ Some base → (f : Fated) → Among f base.list →
      (o : IsOf run f.txn) × (o.attempt.epoch < epoch)
  owned_by_base epoch base is f a =
      let state = (last_state run).epochs in
      elim (made_or_first state epoch (ap is_some is)) [
        | inl first ↦ absurd (
            let none : empty_base ≡ base = same_Some empty_base base (subst (λ (e : ℕ). base_for e state ≡ Some base) first is) in
            subst (λ (b : BaseState). Among f b.list) (sym none) a
            )
        | inr m ↦ (
            let same : base ≡ (m.0).base = same_Some base (m.0).base (sym is ∙ m.3) in
            let of = laws.members run legal m.0 m.1 f (subst (λ (b : BaseState). Among f b.list) same a) in
            let well = (last_always laws.lines run legal BasesMade laws.made).well m.0 m.1 in
            let low = of.below in
            let earlier = well.on_earlier in
            let number = m.2 in
            let own : IsOf run f.txn = record { column = of.column; in_run = of.in_run; id = f.txn.id; attempt = of.attempt; found = of.found; stamped = of.stamped } in
            (own, omega (arith, low, earlier, number))
            )
      ]
