-- How an attempt gets its outcome in a base: from the laws of the merge.
use Rattle.std.proofs.Common.{◌≡◌, ◌⊎◌, ◌≤◌, ◌<◌, ℕ, Bool, true, false, refl, arith, inl, inr, sym, ap, ◌∙◌, List, [], ◌∷◌, Option, Some, None, subst, ◌&&◌, ◌==◌, ◌||◌}
use Rattle.std.specs.Prelude.{is_some}
use Rattle.std.proofs.lemmas.Bool.{and_from, and_parts, eq-eqb, eqb-true, cases_lt}
use Rattle.std.proofs.lemmas.Option.{same_Some}
use Rattle.mk_lists.specs.Among.{Among, Each, Each-among}
use Rattle.mk_lists.proofs.Tests.{Among-from_list_any, list_any-from_Among}
use Rattle.mk_txn.specs.declared.TxnId.{TxnId}
use Rattle.mk_txn.specs.declared.Cause.TheVariants.{Epoch as ByEpoch}
use Rattle.mk_txn.specs.declared.Outcome.{Outcome}
use Rattle.mk_txn.specs.declared.Outcome.TheVariants.{Commit, Abort}
use Rattle.mk_txn.specs.Clashes.{clashes, conflict}
use Rattle.mk_txn.specs.Transactions.{Transaction, same_id, id_before}
use Rattle.mk_txn.proofs.StampOrder.{is_before-itself, test-from_Before}
use Rattle.mk_txn.proofs.IdOrder.{id_before-itself, same_id-tells, same_id-itself}
use Rattle.mk_txn.proofs.ClashFacts.{Clash-from_test}
use Rattle.mk_words.specs.declared.Entry.{Entry}
use Rattle.mk_words.specs.Entries.{entry_of}
use Rattle.mk_quorum.specs.Sizes.{members, hint_of}
use Rattle.mk_quorum.specs.Slots.{passes}
use Rattle.mk_quorum.proofs.Counting.{count_below-weaker}
use Rattle.mk_quorum.proofs.Meeting.{count_below-some}
use Rattle.mk_words.specs.declared.Fated.{Fated}
use Rattle.mk_words.specs.Bases.{IsInIdOrder, fate_in}
use Rattle.mk_words.specs.Promises.{PromiseState, base_of}
use Rattle.mk_words.specs.Merging.{merged_from, ok_reports}
use Rattle.mk_merge_laws.proofs.Adding.{fate-there, fate-member}
use Rattle.mk_merge_laws.specs.Composition.{AreOfReplicas, Report, IsNew, IsUnfinished, IsUnaccepted, IsUnsettled, IsCandidate, made_fate, reported_ok, OldFatesStay, FinalFatesStay, AcceptedFatesStay, UnsettledFates, NothingElse, StandsInOrder, RejectedConflict, CandidatesFit, OkReportsMean}
use Rattle.mk_fate_laws.specs.Composing.{has_promise, AreHandedIn, Counts, is_ok_entry, counted_oks, IsUnfinishedAt, IsUnacceptedAt, IsOpen, IsRejected, IsDropped, Composed, OutcomesAreComposed, TakenFit, CommitsComeFrom, BasesSay}
use Rattle.mk_fate_laws.specs.Composing.Composed.{Finally, ByAcceptance, Taken, Rejected, Dropped}

-- ---- reports are what those that count have

module _ (ps : List PromiseState) (id : TxnId) (has : ℕ → Option Entry) (handed : AreHandedIn ps id has) where
  report_counts : (report : Report ps id) → Counts ps has report.promise.replica report.entry
  report_counts report = (
    list_any-from_Among (λ (p : PromiseState). p.replica == report.promise.replica) ps report.promise report.given (eq-eqb report.promise.replica report.promise.replica refl),
    sym (handed report.promise report.given) ∙ report.handed,
  )

  report_of : (r : ℕ) (entry : Entry) → Counts ps has r entry → (report : Report ps id) × (report.promise.replica ≡ r) × (report.entry ≡ entry)
  report_of r entry c =
      let p = Among-from_list_any (λ (q : PromiseState). q.replica == r) ps c.0 in
      let same = eqb-true p.0.replica r p.2 in
      (record { promise = p.0; entry = entry; given = p.1; handed = handed p.0 p.1 ∙ ap has same ∙ c.1 }, same, refl)

  unfinished_at : IsUnfinished ps id → IsUnfinishedAt ps has
  unfinished_at none r entry c = let k = report_of r entry c in sym (ap (λ (e : Entry). e.last) k.2) ∙ none k.0

  unaccepted_at : IsUnaccepted ps id → IsUnacceptedAt ps has
  unaccepted_at none r entry c = let k = report_of r entry c in sym (ap (λ (e : Entry). e.accepted) k.2) ∙ none k.0

  at_unfinished : IsUnfinishedAt ps has → IsUnfinished ps id
  at_unfinished none report = none report.promise.replica report.entry (report_counts report)

  at_unaccepted : IsUnacceptedAt ps has → IsUnaccepted ps id
  at_unaccepted none report = none report.promise.replica report.entry (report_counts report)

  -- the Ok votes that count are those that were reported
  module _ (f : ℕ) (of : AreOfReplicas f ps) (mean : OkReportsMean f ps) where
    ok_at : (r : ℕ) → reported_ok ps id r ≡ true → (passes is_ok_entry (has r) && has_promise ps r) ≡ true
    ok_at r e =
        let k = (mean of id).0 r e in
        let c = report_counts k.0 in
        subst (λ (n : ℕ). (passes is_ok_entry (has n) && has_promise ps n) ≡ true) k.1
        (and_from (passes is_ok_entry (has k.0.promise.replica)) (has_promise ps k.0.promise.replica) (ap (passes is_ok_entry) c.1 ∙ k.2) c.0)

    entry_there : (x : Option Entry) → passes is_ok_entry x ≡ true → (entry : Entry) × (x ≡ Some entry) × (is_ok_entry entry ≡ true)
    entry_there None e = absurd (cc e)
    entry_there (Some entry) e = (entry, refl, e)

    at_ok : (r : ℕ) → (passes is_ok_entry (has r) && has_promise ps r) ≡ true → (report : Report ps id) × (report.promise.replica ≡ r) × (reported_ok ps id r ≡ true)
    at_ok r e =
        let b = and_parts (passes is_ok_entry (has r)) (has_promise ps r) e in
        let x = entry_there (has r) b.0 in
        let k = report_of r x.0 (b.1, x.1) in
        let ok = (mean of id).1 k.0 (ap is_ok_entry k.2 ∙ x.2) in
        (k.0, k.1, subst (λ (n : ℕ). reported_ok ps id n ≡ true) k.1 ok)

    no_fewer : ok_reports f ps id ≤ counted_oks f ps has
    no_fewer = count_below-weaker (members f) (reported_ok ps id) (λ r. passes is_ok_entry (has r) && has_promise ps r) (λ r lt e. ok_at r e)

    no_more : counted_oks f ps has ≤ ok_reports f ps id
    no_more = count_below-weaker (members f) (λ r. passes is_ok_entry (has r) && has_promise ps r) (reported_ok ps id) (λ r lt e. (at_ok r e).2)

    -- where a hint voted Ok the attempt was reported
    hint_reported : hint_of f ≤ counted_oks f ps has → Report ps id
    hint_reported h =
        let m = count_below-some (members f) (λ r. passes is_ok_entry (has r) && has_promise ps r) (omega (arith, h)) in
        (at_ok m.0 m.2).0

    candidate_at : IsNew ps id → IsOpen ps has → hint_of f ≤ counted_oks f ps has → IsCandidate f ps id
    candidate_at new open_still h =
        record {
          unsettled = record { new = new; unfinished = at_unfinished open_still.unfinished; unaccepted = at_unaccepted open_still.unaccepted };
          hinted = (let less = no_more in omega (arith, h, less));
        }

-- ---- one looks for a report with something

-- a report has it, or none does
abbrev Picked : {A : Type 0} → (Entry → Option A) → List PromiseState → TxnId → Type 0
Picked {A} pick ps id = ((report : Report ps id) × ((a : A) × (pick report.entry ≡ Some a))) ⊎ ((report : Report ps id) → pick report.entry ≡ None)

abbrev further : (p : PromiseState) (ps : List PromiseState) (id : TxnId) → Report ps id → Report (p ∷ ps) id
further p ps id report = record { promise = report.promise; entry = report.entry; given = inr report.given; handed = report.handed }

search : {A : Type 0} (pick : Entry → Option A) (id : TxnId) (ps : List PromiseState) → Picked pick ps id
search pick id [] = inr (λ report. absurd report.given)
search {A} pick id (p ∷ ps) = by (search pick id ps) (entry_of id p.entries) refl
  where
    here : (entry : Entry) → entry_of id p.entries ≡ Some entry → ((report : Report ps id) → pick report.entry ≡ None) → (x : Option A) → pick entry ≡ x → Picked pick (p ∷ ps) id
    here entry e none (Some a) k = inl (record { promise = p; entry = entry; given = inl refl; handed = e }, (a, k))
    here entry e none None k = inr (λ report. at report report.given)
      where
        at : (report : Report (p ∷ ps) id) → Among report.promise (p ∷ ps) → pick report.entry ≡ None
        at report (inl same) =
            let one : ◌≡◌ {A = Option Entry} (Some entry) (Some report.entry) = sym e ∙ ap (λ (q : PromiseState). entry_of id q.entries) same ∙ report.handed in
            sym (ap pick (same_Some entry report.entry one)) ∙ k
        at report (inr a) = none (record { promise = report.promise; entry = report.entry; given = a; handed = report.handed })

    by : Picked pick ps id → (x : Option Entry) → entry_of id p.entries ≡ x → Picked pick (p ∷ ps) id
    by (inl found) x e = inl (further p ps id found.0, found.1)
    by (inr none) (Some entry) e = here entry e none (pick entry) refl
    by (inr none) None e = inr (λ report. at report report.given)
      where
        at : (report : Report (p ∷ ps) id) → Among report.promise (p ∷ ps) → pick report.entry ≡ None
        at report (inl same) = absurd (cc (sym e ∙ ap (λ (q : PromiseState). entry_of id q.entries) same ∙ report.handed))
        at report (inr a) = none (record { promise = report.promise; entry = report.entry; given = a; handed = report.handed })

-- ---- the ways

module _ (f epoch : ℕ) (ps : List PromiseState) (of : AreOfReplicas f ps) (id : TxnId) (new : IsNew ps id) (has : ℕ → Option Entry) (handed : AreHandedIn ps id has)
    (final_stay : FinalFatesStay f epoch ps) (accepted_stay : AcceptedFatesStay f epoch ps) (unsettled : UnsettledFates f epoch ps) (nothing_else : NothingElse f epoch ps)
    (rejected_conflict : RejectedConflict f epoch ps) (mean : OkReportsMean f ps) where
  old_not : is_some (fate_in id (base_of ps).list) ≡ true → ⊥
  old_not e = cc (sym e ∙ ap is_some new)

  rejected : IsOpen ps has → hint_of f ≤ counted_oks f ps has → made_fate f epoch ps id ≡ Some (Abort (ByEpoch epoch)) → IsRejected f epoch ps id has
  rejected open_still h fate =
      let x = fate-member id (merged_from f epoch ps).list (Abort (ByEpoch epoch)) fate in
      let y = rejected_conflict x.0 (ByEpoch epoch) x.1 (subst (IsCandidate f ps) (sym x.2) (candidate_at ps id has handed f of mean new open_still h)) x.3 in
      record {
        open_still = open_still;
        hinted = h;
        fate = fate;
        rejected = x.0;
        rejected_there = x.1;
        of_attempt = x.2;
        commit = y.0;
        commit_there = y.1;
        commits = y.2;
        in_conflict = y.3;
      }

  dropped : IsOpen ps has → counted_oks f ps has < hint_of f → IsDropped f epoch ps id has
  dropped open_still few = record { open_still = open_still; few = few; fate = by (made_fate f epoch ps id) refl }
    where
      u : IsUnsettled ps id
      u = record { new = new; unfinished = at_unfinished ps id has handed open_still.unfinished; unaccepted = at_unaccepted ps id has handed open_still.unaccepted }

      reported : Report ps id → (made_fate f epoch ps id ≡ None) ⊎ (made_fate f epoch ps id ≡ Some (Abort (ByEpoch epoch)))
      reported report = elim (unsettled id u report) [
        | inl c ↦ absurd (let h = c.1 in let more = no_fewer ps id has handed f of mean in omega (arith, h, more, few))
        | inr a ↦ inr a
      ]

      by : (x : Option Outcome) → made_fate f epoch ps id ≡ x → (made_fate f epoch ps id ≡ None) ⊎ (made_fate f epoch ps id ≡ Some (Abort (ByEpoch epoch)))
      by None e = inl e
      by (Some o) e = elim (nothing_else id (ap is_some e)) [
        | inl old ↦ absurd (old_not old)
        | inr report ↦ reported report
      ]

  open_ways : IsOpen ps has → Composed f epoch ps id has
  open_ways open_still = elim (cases_lt (counted_oks f ps has) (hint_of f)) [
    | inr h ↦ elim (unsettled id (candidate_at ps id has handed f of mean new open_still h).unsettled (hint_reported ps id has handed f of mean h)) [
      | inl c ↦ Taken open_still h c.0
      | inr a ↦ Rejected (rejected open_still h a)
    ]
    | inl few ↦ Dropped (dropped open_still few)
  ]

  composed : Composed f epoch ps id has
  composed = elim (search (λ (e : Entry). e.last) id ps) [
    | inl found ↦ (
        let k = final_stay of id new found.0 found.1.0 found.1.1 in
        Finally (record { replica = k.0.promise.replica; entry = k.0.entry; counts = report_counts ps id has handed k.0; outcome = k.1; final = k.2; fate = k.3 }))
    | inr unfinished ↦ elim (search (λ (e : Entry). e.accepted) id ps) [
      | inl found ↦ (
          let k = accepted_stay of id new unfinished found.0 found.1.0 found.1.1 in
          ByAcceptance (record {
            unfinished = unfinished_at ps id has handed unfinished;
            replica = k.0.promise.replica;
            entry = k.0.entry;
            counts = report_counts ps id has handed k.0;
            kept = k.1;
            accepted = k.2;
            highest = (λ r other lower c l. let m = report_of ps id has handed r other c in k.3 m.0 lower (ap (λ (e : Entry). e.accepted) m.2 ∙ l));
            fate = k.4;
          }))
      | inr unaccepted ↦ open_ways (record { unfinished = unfinished_at ps id has handed unfinished; unaccepted = unaccepted_at ps id has handed unaccepted })
    ]
  ]

pub outcomes_are_composed : ((f epoch : ℕ) (ps : List PromiseState) → FinalFatesStay f epoch ps) → ((f epoch : ℕ) (ps : List PromiseState) → AcceptedFatesStay f epoch ps) →
    ((f epoch : ℕ) (ps : List PromiseState) → UnsettledFates f epoch ps) → ((f epoch : ℕ) (ps : List PromiseState) → NothingElse f epoch ps) →
    ((f epoch : ℕ) (ps : List PromiseState) → RejectedConflict f epoch ps) → ((f : ℕ) (ps : List PromiseState) → OkReportsMean f ps) → OutcomesAreComposed
outcomes_are_composed final_stay accepted_stay unsettled nothing_else rejected_conflict mean f epoch ps of id new has handed =
    composed f epoch ps of id new has handed (final_stay f epoch ps) (accepted_stay f epoch ps) (unsettled f epoch ps) (nothing_else f epoch ps) (rejected_conflict f epoch ps) (mean f ps)

-- ---- what was taken fits

conflict_not_itself : (t : Transaction) → conflict t t ≡ false
conflict_not_itself t = by (clashes t t) refl
  where
    by : (b : Bool) → clashes t t ≡ b → (b || b) ≡ false
    by false e = refl
    by true e = let k = Clash-from_test t t e in absurd (cc (sym (test-from_Before t.stamp t.stamp k.below_reader) ∙ is_before-itself t.stamp))

before_itself : (id : TxnId) → id_before id id ≡ true → ⊥
before_itself id e = cc (sym e ∙ id_before-itself id)

-- one of the list has one number
one_member : (f epoch : ℕ) (ps : List PromiseState) → StandsInOrder f epoch ps → (x y : Fated) → Among x (merged_from f epoch ps).list → Among y (merged_from f epoch ps).list → x.txn.id ≡ y.txn.id → x ≡ y
one_member f epoch ps order x y a b same = go (merged_from f epoch ps).list order x y a b same
  where
    not_first : (first : Fated) (rest : List Fated) (z : Fated) → Each (λ later. id_before first.txn.id later.txn.id ≡ true) rest → Among z rest → first.txn.id ≡ z.txn.id → ⊥
    not_first first rest z h a same =
        let low = Each-among (λ (later : Fated). id_before first.txn.id later.txn.id ≡ true) z rest h a in
        before_itself first.txn.id (subst (λ (i : TxnId). id_before first.txn.id i ≡ true) (sym same) low)

    go : (list : List Fated) → IsInIdOrder list → (x y : Fated) → Among x list → Among y list → x.txn.id ≡ y.txn.id → x ≡ y
    go [] h x y a b same = absurd a
    go (first ∷ rest) h x y (inl e) (inl k) same = sym e ∙ k
    go (first ∷ rest) h x y (inl e) (inr b) same = absurd (not_first first rest y h.0 b (ap (λ (z : Fated). z.txn.id) e ∙ same))
    go (first ∷ rest) h x y (inr a) (inl k) same = absurd (not_first first rest x h.0 a (ap (λ (z : Fated). z.txn.id) k ∙ sym same))
    go (first ∷ rest) h x y (inr a) (inr b) same = go rest h.1 x y a b same

same_or_not : (a b : TxnId) → (a ≡ b) ⊎ (a ≡ b → ⊥)
same_or_not a b = by (same_id a b) refl
  where
    by : (c : Bool) → same_id a b ≡ c → (a ≡ b) ⊎ (a ≡ b → ⊥)
    by true e = inl (same_id-tells a b e)
    by false e = inr (λ k. cc (sym (subst (λ (i : TxnId). same_id a i ≡ true) k (same_id-itself a)) ∙ e))

pub taken_fits : ((f epoch : ℕ) (ps : List PromiseState) → StandsInOrder f epoch ps) → ((f epoch : ℕ) (ps : List PromiseState) → CandidatesFit f epoch ps) →
    ((f : ℕ) (ps : List PromiseState) → OkReportsMean f ps) → TakenFit
taken_fits in_order fit mean f epoch ps of id new has handed open_still h x y a same commits b also = elim (same_or_not x.txn.id y.txn.id) [
  | inl one ↦ subst (λ (z : Fated). conflict x.txn z.txn ≡ false) (one_member f epoch ps (in_order f epoch ps) x y a b one) (conflict_not_itself x.txn)
  | inr apart ↦ fit f epoch ps x y a (subst (IsCandidate f ps) (sym same) (candidate_at ps id has handed f of (mean f ps) new open_still h)) commits b also apart
]

-- ---- what commits comes from the base below or was handed in

pub commits_come_from : ((f epoch : ℕ) (ps : List PromiseState) → OldFatesStay f epoch ps) → ((f epoch : ℕ) (ps : List PromiseState) → NothingElse f epoch ps) → CommitsComeFrom
commits_come_from old_stay nothing_else f epoch ps id commits = by (fate_in id (base_of ps).list) refl
  where
    by : (x : Option Outcome) → fate_in id (base_of ps).list ≡ x → (fate_in id (base_of ps).list ≡ Some Commit) ⊎ (IsNew ps id × Report ps id)
    by (Some o) e =
        let one : ◌≡◌ {A = Option Outcome} (Some o) (Some Commit) = sym (old_stay f epoch ps id o e) ∙ commits in
        inl (e ∙ one)
    by None e = elim (nothing_else f epoch ps id (ap is_some commits)) [
      | inl old ↦ absurd (cc (sym old ∙ ap is_some e))
      | inr report ↦ inr (e, report)
    ]

pub bases_say : ((f epoch : ℕ) (ps : List PromiseState) → StandsInOrder f epoch ps) → BasesSay
bases_say in_order f epoch ps =
    record {
      said = λ member a. fate-there (merged_from f epoch ps).list member (in_order f epoch ps) a;
      member_of = λ id outcome e. fate-member id (merged_from f epoch ps).list outcome e;
    }
