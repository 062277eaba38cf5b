-- Where each outcome of a merge comes from, and how candidates give way.
use Rattle.std.proofs.Common.{◌≡◌, ◌⊎◌, ◌≤◌, ℕ, Bool, true, false, refl, arith, inl, inr, sym, ap, ◌∙◌, List, ◌++◌, Option, Some, None, subst, cond, ◌&&◌}
use Rattle.std.specs.Prelude.{filter, flat_map, map, option_map, option_and_then, is_some, is_none, nat_le}
use Rattle.std.specs.List.{list_any}
use Rattle.std.specs.Option.{option_or}
use Rattle.std.proofs.lemmas.Bool.Decides.{nat_tests}
use Rattle.std.proofs.lemmas.Bool.{and_parts}
use Rattle.mk_lists.specs.Among.{Among, Among-append, Among-append_left, Among-append_right}
use Rattle.mk_lists.proofs.Tests.{Among-from_list_any, list_any-from_Among}
use Rattle.mk_lists.proofs.Lookups.{find-from_Among, find_tells}
use Rattle.mk_lists.proofs.Members.{Among-filter, Among-flat_map, Among-from_filter, Among-from_flat_map, Among-from_map, Among-map}
use Rattle.mk_lists.proofs.Options.{None-from_is_none}
use Rattle.mk_txn.specs.declared.TxnId.{TxnId}
use Rattle.mk_txn.specs.declared.Accepted.{Accepted}
use Rattle.mk_txn.specs.declared.Cause.TheVariants.{Epoch as ByEpoch}
use Rattle.mk_txn.specs.declared.Outcome.{Outcome}
use Rattle.mk_txn.specs.declared.Outcome.TheVariants.{Commit, Abort}
use Rattle.mk_txn.specs.Clashes.{conflict}
use Rattle.mk_txn.specs.Outcomes.{is_commit, highest}
use Rattle.mk_txn.specs.Transactions.{Transaction, same_id}
use Rattle.mk_txn.proofs.IdOrder.{same_id-tells, same_id-itself}
use Rattle.mk_txn.proofs.OutcomeLaws.{is_commit-tells}
use Rattle.mk_words.specs.declared.Entry.{Entry}
use Rattle.mk_words.specs.Entries.{is_entry_of}
use Rattle.mk_quorum.specs.Sizes.{members, hint_of}
use Rattle.mk_quorum.specs.Slots.{passes}
use Rattle.mk_words.specs.declared.Fated.{Fated}
use Rattle.mk_words.specs.Bases.{fate_in, fated}
use Rattle.mk_words.specs.Promises.{PromiseState, base_of}
use Rattle.mk_words.specs.Merging.{merged_from, fate_by, settled_fate, settled_commits, candidates, taken, reported_txns, reported, reports, first_last, highest_accepted, ok_reports}
use Rattle.mk_merge_laws.specs.Composition.{Report, IsNew, IsUnfinished, IsUnaccepted, IsUnsettled, made_fate, OldFatesStay, FinalFatesStay, AcceptedFatesStay, UnsettledFates, NothingElse, StandsInOrder, RejectedConflict, CandidatesFit}
use Rattle.mk_merge_laws.proofs.Reports.{report_of, reported_at, report_within, first_last-some, first_last-none, highest-some, highest-none, highest-above}
use Rattle.mk_merge_laws.proofs.Orders.{ascend_ordered, one_of_id, ordered_from, ordered_there, by_stamp_there, by_stamp_from, fated_in_order, fate_there, fate_of_member, fate_given}
use Rattle.mk_merge_laws.proofs.Taking.{taken_stays, taken_from, taken_or_conflicts, taken_fit}

-- the commits of the merge
abbrev commits_of : ℕ → List PromiseState → List Transaction
commits_of f ps = taken (settled_commits f ps) (candidates f ps)

-- the fate of a reported transaction
abbrev fate_for : ℕ → ℕ → List PromiseState → Transaction → Outcome
fate_for f epoch ps txn = fate_by epoch txn (commits_of f ps) (settled_fate f ps txn.id)

-- the fate that goes by a number and by what is settled of it
abbrev fate_of : ℕ → List Transaction → TxnId → Option Outcome → Outcome
fate_of epoch commits id (Some outcome) = outcome
fate_of epoch commits id None = cond (list_any (λ c. same_id c.id id) commits) Commit (Abort (ByEpoch epoch))

fate_of-number : (epoch : ℕ) (t : Transaction) (commits : List Transaction) (settled : Option Outcome) → fate_by epoch t commits settled ≡ fate_of epoch commits t.id settled
fate_of-number epoch t commits (Some outcome) = refl
fate_of-number epoch t commits None = refl

module _ (f epoch : ℕ) (ps : List PromiseState) where
  -- the fate of a reported transaction goes by its number
  fate_at : (id : TxnId) (t : Transaction) → Among t (reported_txns ps) → same_id t.id id ≡ true → made_fate f epoch ps id ≡ Some (fate_for f epoch ps t)
  fate_at id t a e =
      fate_given id (fate_for f epoch ps) (fate_for f epoch ps t)
      (λ u k. let same = same_id-tells u.id id k ∙ sym (same_id-tells t.id id e) in
      fate_of-number epoch u (commits_of f ps) (settled_fate f ps u.id)
      ∙ ap (λ (i : TxnId). fate_of epoch (commits_of f ps) i (settled_fate f ps i)) same
      ∙ sym (fate_of-number epoch t (commits_of f ps) (settled_fate f ps t.id))) (reported_txns ps) t a e

  -- an attempt of the base stands among the transactions
  old_there : (id : TxnId) (o : Outcome) → fate_in id (base_of ps).list ≡ Some o → (t : Transaction) × Among t (reported_txns ps) × (same_id t.id id ≡ true)
  old_there id o e =
      let k = fate_there id (base_of ps).list o e in
      ordered_there id k.0.txn (map (λ x. x.txn) (base_of ps).list ++ flat_map (λ p. map (λ y. y.txn) p.entries) ps)
      (Among-append_left k.0.txn (map (λ x. x.txn) (base_of ps).list) (flat_map (λ p. map (λ y. y.txn) p.entries) ps)
      (Among-map (λ (x : Fated). x.txn) k.0 (base_of ps).list k.1)) k.2

  -- and so does one that was reported
  reported_there : (id : TxnId) → Report ps id → (t : Transaction) × Among t (reported_txns ps) × (same_id t.id id ≡ true)
  reported_there id report =
      let k = find_tells (is_entry_of id) report.promise.entries report.entry report.handed in
      ordered_there id report.entry.txn (map (λ x. x.txn) (base_of ps).list ++ flat_map (λ p. map (λ y. y.txn) p.entries) ps)
      (Among-append_right report.entry.txn (map (λ x. x.txn) (base_of ps).list) (flat_map (λ p. map (λ y. y.txn) p.entries) ps)
      (Among-flat_map (λ (p : PromiseState). map (λ (y : Entry). y.txn) p.entries) report.entry.txn report.promise ps report.given
      (Among-map (λ (y : Entry). y.txn) report.entry report.promise.entries k.0))) k.1

  -- what is settled of a reported attempt is its fate
  made_settled : (id : TxnId) (t : Transaction) (o : Outcome) → Among t (reported_txns ps) → same_id t.id id ≡ true → settled_fate f ps id ≡ Some o → made_fate f epoch ps id ≡ Some o
  made_settled id t o a e settled =
      fate_at id t a e
      ∙ ap (λ (x : Option Outcome). Some (fate_by epoch t (commits_of f ps) x)) (ap (settled_fate f ps) (same_id-tells t.id id e) ∙ settled)

  pub old_stay : OldFatesStay f epoch ps
  old_stay id o e =
      let t = old_there id o e in
      made_settled id t.0 o t.1 t.2 (ap (λ (x : Option Outcome). option_or x (option_or (first_last (reports f ps id)) (highest_accepted (reports f ps id)))) e)

  -- what is settled of a new attempt
  settled_new : (id : TxnId) → IsNew ps id → settled_fate f ps id ≡ option_or (first_last (reports f ps id)) (highest_accepted (reports f ps id))
  settled_new id new = ap (λ (x : Option Outcome). option_or x (option_or (first_last (reports f ps id)) (highest_accepted (reports f ps id)))) new

  pub final_stay : FinalFatesStay f epoch ps
  final_stay of id new report o last = by (first_last (reports f ps id)) refl
    where
      by : (x : Option Outcome) → first_last (reports f ps id) ≡ x →
          (source : Report ps id) × (kept : Outcome) × (source.entry.last ≡ Some kept) × (made_fate f epoch ps id ≡ Some kept)
      by None e =
          let k = first_last-none ps id 0 (members f) e report.promise.replica (omega arith) (let w = report_within f ps id of report in omega (arith, w)) report.entry (reported_at ps id of.different report) in
          absurd (cc (sym k ∙ last))
      by (Some kept) e =
          let k = first_last-some ps id 0 (members f) kept e in
          let r = report_of ps id k.0 k.1 k.2 in
          let t = reported_there id r.0 in (
            r.0,
            kept,
            ap (λ (x : Entry). x.last) r.2 ∙ k.3,
            made_settled id t.0 kept t.1 t.2 (settled_new id new ∙ ap (λ (x : Option Outcome). option_or x (highest_accepted (reports f ps id))) e),
          )

  -- an unfinished attempt has no final outcome in any slot
  no_last : (id : TxnId) → IsUnfinished ps id → first_last (reports f ps id) ≡ None
  no_last id unfinished = by (first_last (reports f ps id)) refl
    where
      by : (x : Option Outcome) → first_last (reports f ps id) ≡ x → x ≡ None
      by None e = refl
      by (Some o) e =
          let k = first_last-some ps id 0 (members f) o e in
          let r = report_of ps id k.0 k.1 k.2 in
          absurd (cc (sym (unfinished r.0) ∙ ap (λ (x : Entry). x.last) r.2 ∙ k.3))

  abbrev accepted_reports : TxnId → List (Option Accepted)
  accepted_reports id = map (λ report. option_and_then (λ e. e.accepted) report) (reports f ps id)

  pub accepted_stay : AcceptedFatesStay f epoch ps
  accepted_stay of id new unfinished report a accepted = by (highest (accepted_reports id)) refl
    where
      at : (other : Report ps id) (b : Accepted) → other.entry.accepted ≡ Some b → option_and_then (λ (e : Entry). e.accepted) (reported ps id other.promise.replica) ≡ Some b
      at other b e = ap (option_and_then (λ (x : Entry). x.accepted)) (reported_at ps id of.different other) ∙ e

      by : (x : Option Accepted) → highest (accepted_reports id) ≡ x →
          (source : Report ps id) × (kept : Accepted) × (source.entry.accepted ≡ Some kept)
          × ((other : Report ps id) (lower : Accepted) → other.entry.accepted ≡ Some lower → lower.view ≤ kept.view) × (made_fate f epoch ps id ≡ Some kept.outcome)
      by None e =
          let w = report_within f ps id of report in
          let k = highest-none ps id 0 (members f) e report.promise.replica (omega arith) (omega (arith, w)) in
          absurd (cc (sym k ∙ at report a accepted))
      by (Some kept) e =
          let k = highest-some ps id 0 (members f) kept e in
          let r = report_of ps id k.0 k.1 k.2 in
          let t = reported_there id r.0 in (
            r.0,
            kept,
            ap (λ (x : Entry). x.accepted) r.2 ∙ k.3,
            (λ other lower l. let w = report_within f ps id of other in highest-above ps id 0 (members f) kept e other.promise.replica (omega arith) (omega (arith, w)) lower (at other lower l)),
            made_settled id t.0 kept.outcome t.1 t.2
                (settled_new id new ∙ ap (λ (x : Option Outcome). option_or x (highest_accepted (reports f ps id))) (no_last id unfinished) ∙ ap (option_map (λ (x : Accepted). x.outcome)) e),
          )

  no_accepted : (id : TxnId) → IsUnaccepted ps id → highest (accepted_reports id) ≡ None
  no_accepted id unaccepted = by (highest (accepted_reports id)) refl
    where
      by : (x : Option Accepted) → highest (accepted_reports id) ≡ x → x ≡ None
      by None e = refl
      by (Some a) e =
          let k = highest-some ps id 0 (members f) a e in
          let r = report_of ps id k.0 k.1 k.2 in
          absurd (cc (sym (unaccepted r.0) ∙ ap (λ (x : Entry). x.accepted) r.2 ∙ k.3))

  -- nothing is settled of an unsettled attempt
  unsettled_none : (id : TxnId) → IsUnsettled ps id → settled_fate f ps id ≡ None
  unsettled_none id u =
      settled_new id u.new ∙ ap (λ (x : Option Outcome). option_or x (highest_accepted (reports f ps id))) (no_last id u.unfinished)
      ∙ ap (option_map (λ (x : Accepted). x.outcome)) (no_accepted id u.unaccepted)

  -- what is settled of each commit by the first rules
  settled_commit : (c : Transaction) → Among c (settled_commits f ps) → Among c (reported_txns ps) × (settled_fate f ps c.id ≡ Some Commit)
  settled_commit c a =
      let k = Among-from_filter (λ (txn : Transaction). passes is_commit (settled_fate f ps txn.id)) c (reported_txns ps) a in
      (k.0, by (settled_fate f ps c.id) k.1)
    where
      by : (x : Option Outcome) → passes is_commit x ≡ true → x ≡ Some Commit
      by None e = absurd (cc e)
      by (Some o) e = ap Some (is_commit-tells o e)

  -- a candidate is reported, unsettled and hinted
  candidate_is : (c : Transaction) → Among c (candidates f ps) → Among c (reported_txns ps) × (settled_fate f ps c.id ≡ None) × (hint_of f ≤ ok_reports f ps c.id)
  candidate_is c a =
      let k = Among-from_filter (λ (txn : Transaction). is_none (settled_fate f ps txn.id) && nat_le (hint_of f) (ok_reports f ps txn.id)) c (reported_txns ps)
      (by_stamp_from c (filter (λ txn. is_none (settled_fate f ps txn.id) && nat_le (hint_of f) (ok_reports f ps txn.id)) (reported_txns ps)) a) in
      let b = and_parts (is_none (settled_fate f ps c.id)) (nat_le (hint_of f) (ok_reports f ps c.id)) k.1 in
      (k.0, None-from_is_none (settled_fate f ps c.id) b.0, grind (arith, nat_tests, b.1))

  pub unsettled : UnsettledFates f epoch ps
  unsettled id u report = by (list_any (λ c. same_id c.id t.0.id) (commits_of f ps)) refl
    where
      t : (x : Transaction) × Among x (reported_txns ps) × (same_id x.id id ≡ true)
      t = reported_there id report

      none : settled_fate f ps t.0.id ≡ None
      none = ap (settled_fate f ps) (same_id-tells t.0.id id t.2) ∙ unsettled_none id u

      fate : made_fate f epoch ps id ≡ Some (cond (list_any (λ c. same_id c.id t.0.id) (commits_of f ps)) Commit (Abort (ByEpoch epoch)))
      fate = fate_at id t.0 t.1 t.2 ∙ ap (λ (x : Option Outcome). Some (fate_by epoch t.0 (commits_of f ps) x)) none

      by : (b : Bool) → list_any (λ c. same_id c.id t.0.id) (commits_of f ps) ≡ b →
          ((made_fate f epoch ps id ≡ Some Commit) × (hint_of f ≤ ok_reports f ps id)) ⊎ (made_fate f epoch ps id ≡ Some (Abort (ByEpoch epoch)))
      by false e = inr (fate ∙ ap (λ (b : Bool). Some (cond b Commit (Abort (ByEpoch epoch)))) e)
      by true e =
          let c = Among-from_list_any (λ (x : Transaction). same_id x.id t.0.id) (commits_of f ps) e in
          let same : c.0.id ≡ id = same_id-tells c.0.id t.0.id c.2 ∙ same_id-tells t.0.id id t.2 in
          inl (
            fate ∙ ap (λ (b : Bool). Some (cond b Commit (Abort (ByEpoch epoch)))) e,
            elim (taken_from c.0 (settled_commits f ps) (candidates f ps) c.1) [
              | inl settled ↦ absurd (cc (sym (settled_commit c.0 settled).1 ∙ ap (settled_fate f ps) same ∙ unsettled_none id u))
              | inr candidate ↦ subst (λ (i : TxnId). hint_of f ≤ ok_reports f ps i) same (candidate_is c.0 candidate).2
            ],
          )

  -- a member of the list is a reported transaction with its fate
  member_is : (x : Fated) → Among x (merged_from f epoch ps).list → (t : Transaction) × Among t (reported_txns ps) × (fated t (fate_for f epoch ps t) ≡ x)
  member_is x a = Among-from_map (λ (txn : Transaction). fated txn (fate_for f epoch ps txn)) x (reported_txns ps) a

  pub nothing_else : NothingElse f epoch ps
  nothing_else id some = by (made_fate f epoch ps id) refl some
    where
      from : (t : Transaction) → Among t (reported_txns ps) → same_id t.id id ≡ true → (is_some (fate_in id (base_of ps).list) ≡ true) ⊎ Report ps id
      from t a e = elim (Among-append t (map (λ x. x.txn) (base_of ps).list) (flat_map (λ p. map (λ y. y.txn) p.entries) ps) (ordered_from t (map (λ x. x.txn) (base_of ps).list ++ flat_map (λ p. map (λ y. y.txn) p.entries) ps) a)) [
        | inl old ↦
            let x = Among-from_map (λ (y : Fated). y.txn) t (base_of ps).list old in
            let k = fate_of_member id (base_of ps).list x.0 x.1 (subst (λ (y : Transaction). same_id y.id id ≡ true) (sym x.2) e) in
            inl (ap is_some k.1)
        | inr new ↦
            let p = Among-from_flat_map (λ (q : PromiseState). map (λ (y : Entry). y.txn) q.entries) t ps new in
            let y = Among-from_map (λ (z : Entry). z.txn) t p.0.entries p.2 in
            let k = find-from_Among (is_entry_of id) p.0.entries y.0 y.1 (subst (λ (z : Transaction). same_id z.id id ≡ true) (sym y.2) e) in
            inr (record { promise = p.0; entry = k.0; given = p.1; handed = k.1 })
      ]

      by : (o : Option Outcome) → made_fate f epoch ps id ≡ o → is_some o ≡ true → (is_some (fate_in id (base_of ps).list) ≡ true) ⊎ Report ps id
      by None e some = absurd (cc some)
      by (Some o) e some =
          let x = fate_there id (merged_from f epoch ps).list o e in
          let t = member_is x.0 x.1 in
          from t.0 t.1 (subst (λ (y : Fated). same_id y.txn.id id ≡ true) (sym t.2) x.2)

  pub in_order : StandsInOrder f epoch ps
  in_order = fated_in_order (fate_for f epoch ps) (reported_txns ps) (ascend_ordered (map (λ x. x.txn) (base_of ps).list ++ flat_map (λ p. map (λ y. y.txn) p.entries) ps))

  -- a commit that was taken stands in the list as one
  commit_stands : (c : Transaction) → Among c (commits_of f ps) → Among (fated c Commit) (merged_from f epoch ps).list
  commit_stands c a = elim (taken_from c (settled_commits f ps) (candidates f ps) a) [
    | inl settled ↦ let k = settled_commit c settled in stands k.0 (ap (fate_by epoch c (commits_of f ps)) k.1)
    | inr candidate ↦
        let k = candidate_is c candidate in
        let there = list_any-from_Among (λ (x : Transaction). same_id x.id c.id) (commits_of f ps) c a (same_id-itself c.id) in
        stands k.0 (ap (fate_by epoch c (commits_of f ps)) k.1 ∙ ap (λ (b : Bool). cond b Commit (Abort (ByEpoch epoch))) there)
  ]
    where
      stands : Among c (reported_txns ps) → fate_for f epoch ps c ≡ Commit → Among (fated c Commit) (merged_from f epoch ps).list
      stands b e = subst (λ (o : Outcome). Among (fated c o) (merged_from f epoch ps).list) e (Among-map (λ (txn : Transaction). fated txn (fate_for f epoch ps txn)) c (reported_txns ps) b)

  -- a reported transaction that commits was taken
  commit_taken : (t : Transaction) → Among t (reported_txns ps) → fate_for f epoch ps t ≡ Commit → Among t (commits_of f ps)
  commit_taken t a e = by (settled_fate f ps t.id) refl
    where
      by : (x : Option Outcome) → settled_fate f ps t.id ≡ x → Among t (commits_of f ps)
      by (Some o) k =
          let commits : Commit ≡ o = sym e ∙ ap (fate_by epoch t (commits_of f ps)) k in
          taken_stays t (settled_commits f ps) (candidates f ps)
          (Among-filter (λ (txn : Transaction). passes is_commit (settled_fate f ps txn.id)) t (reported_txns ps) a (ap (passes is_commit) k ∙ ap is_commit (sym commits)))
      by None k = taken_by (list_any (λ c. same_id c.id t.id) (commits_of f ps)) refl
        where
          taken_by : (b : Bool) → list_any (λ c. same_id c.id t.id) (commits_of f ps) ≡ b → Among t (commits_of f ps)
          taken_by false n =
              absurd (cc (sym e ∙ ap (fate_by epoch t (commits_of f ps)) k ∙ ap (λ (b : Bool). cond b Commit (Abort (ByEpoch epoch))) n))
          taken_by true n =
              let c = Among-from_list_any (λ (x : Transaction). same_id x.id t.id) (commits_of f ps) n in
              let reported_c : Among c.0 (reported_txns ps) = elim (taken_from c.0 (settled_commits f ps) (candidates f ps) c.1) [
                | inl settled ↦ (settled_commit c.0 settled).0
                | inr candidate ↦ (candidate_is c.0 candidate).0
              ] in
              let same = one_of_id (reported_txns ps) (ascend_ordered (map (λ x. x.txn) (base_of ps).list ++ flat_map (λ p. map (λ y. y.txn) p.entries) ps)) c.0 t reported_c a (same_id-tells c.0.id t.id c.2) in
              subst (λ (x : Transaction). Among x (commits_of f ps)) same c.1

  pub rejected_conflict : RejectedConflict f epoch ps
  rejected_conflict x cause a candidate aborts = elim (taken_or_conflicts t.0 (settled_commits f ps) (candidates f ps) is_candidate) [
    | inl was_taken ↦
        let there = list_any-from_Among (λ (c : Transaction). same_id c.id t.0.id) (commits_of f ps) t.0 was_taken (same_id-itself t.0.id) in
        let commits : fate_for f epoch ps t.0 ≡ Commit = ap (fate_by epoch t.0 (commits_of f ps)) none ∙ ap (λ (b : Bool). cond b Commit (Abort (ByEpoch epoch))) there in
        absurd (cc (sym commits ∙ ap (λ (y : Fated). y.outcome) t.2 ∙ aborts))
    | inr k ↦ (fated k.0 Commit, commit_stands k.0 k.1, refl, subst (λ (y : Fated). conflict y.txn k.0 ≡ true) t.2 k.2)
  ]
    where
      t : (y : Transaction) × Among y (reported_txns ps) × (fated y (fate_for f epoch ps y) ≡ x)
      t = member_is x a

      same : x.txn.id ≡ t.0.id
      same = ap (λ (y : Fated). y.txn.id) (sym t.2)

      none : settled_fate f ps t.0.id ≡ None
      none = ap (settled_fate f ps) (sym same) ∙ unsettled_none x.txn.id candidate.unsettled

      hinted : nat_le (hint_of f) (ok_reports f ps t.0.id) ≡ true
      hinted = let h = subst (λ (i : TxnId). hint_of f ≤ ok_reports f ps i) same candidate.hinted in grind (arith, nat_tests, h)

      is_candidate : Among t.0 (candidates f ps)
      is_candidate =
          by_stamp_there t.0 (filter (λ txn. is_none (settled_fate f ps txn.id) && nat_le (hint_of f) (ok_reports f ps txn.id)) (reported_txns ps))
          (Among-filter (λ (txn : Transaction). is_none (settled_fate f ps txn.id) && nat_le (hint_of f) (ok_reports f ps txn.id)) t.0 (reported_txns ps) t.1
          (ap (λ (o : Option Outcome). is_none o && nat_le (hint_of f) (ok_reports f ps t.0.id)) none ∙ hinted))

  pub candidates_fit : CandidatesFit f epoch ps
  candidates_fit x y a candidate commits b also apart =
      let t = member_is x a in
      let u = member_is y b in
      let same = ap (λ (z : Fated). z.txn.id) t.2 in
      let none = ap (settled_fate f ps) same ∙ unsettled_none x.txn.id candidate.unsettled in
      let fits = taken_fit (λ z. settled_fate f ps z.id ≡ None) (settled_commits f ps) (candidates f ps) (λ v w c d r e. absurd (cc (sym (settled_commit v c).1 ∙ r))) t.0 u.0
      (commit_taken t.0 t.1 (ap (λ (z : Fated). z.outcome) t.2 ∙ commits)) (commit_taken u.0 u.1 (ap (λ (z : Fated). z.outcome) u.2 ∙ also)) none
      (λ e. apart (sym same ∙ ap (λ (z : Transaction). z.id) e ∙ ap (λ (z : Fated). z.txn.id) u.2)) in
      subst (λ (z : Fated). conflict z.txn y.txn ≡ false) t.2 (subst (λ (z : Fated). conflict t.0 z.txn ≡ false) u.2 fits)
