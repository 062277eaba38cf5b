-- What the slots of replicas hold is what the promises report.
use Rattle.std.proofs.Common.{◌≡◌, ◌⊎◌, ◌<◌, ◌≤◌, ◌+◌, ℕ, zero, suc, Bool, true, false, refl, arith, inl, inr, sym, ap, ◌∙◌, List, [], ◌∷◌, Option, Some, None, subst, cond, map}
use Rattle.std.specs.Prelude.{find, option_and_then, nat_lt, ◌==◌}
use Rattle.std.specs.Option.{option_or}
use Rattle.std.proofs.lemmas.Bool.Decides.{nat_tests}
use Rattle.std.proofs.lemmas.Bool.{eq-eqb, eqb-true}
use Rattle.std.proofs.lemmas.Option.{same_Some}
use Rattle.mk_lists.specs.Among.{Among, AllDistinct, Each-among}
use Rattle.mk_lists.proofs.Lookups.{find_tells}
use Rattle.mk_lists.proofs.Members.{Among-map}
use Rattle.mk_txn.specs.declared.TxnId.{TxnId}
use Rattle.mk_txn.specs.declared.Accepted.{Accepted}
use Rattle.mk_txn.specs.declared.Outcome.{Outcome}
use Rattle.mk_txn.specs.Outcomes.{higher, highest, is_ok_vote}
use Rattle.mk_txn.proofs.OutcomeLaws.{higher-cases}
use Rattle.mk_words.specs.declared.Entry.{Entry}
use Rattle.mk_words.specs.Entries.{entry_of}
use Rattle.mk_quorum.specs.Sizes.{members}
use Rattle.mk_quorum.specs.Slots.{passes}
use Rattle.mk_words.specs.Promises.{PromiseState}
use Rattle.mk_words.specs.Merging.{reported, reports_from, first_last}
use Rattle.mk_merge_laws.specs.Composition.{Report, AreOfReplicas, OkReportsMean}

-- a replica's report, from its slot
pub report_of : (ps : List PromiseState) (id : TxnId) (r : ℕ) (e : Entry) → reported ps id r ≡ Some e → (report : Report ps id) × (report.promise.replica ≡ r) × (report.entry ≡ e)
report_of ps id r e is = by (find (λ p. p.replica == r) ps) refl is
  where
    by : (o : Option PromiseState) → find (λ p. p.replica == r) ps ≡ o → option_and_then (λ p. entry_of id p.entries) o ≡ Some e →
        (report : Report ps id) × (report.promise.replica ≡ r) × (report.entry ≡ e)
    by None found is = absurd (cc is)
    by (Some p) found is =
        let k = find_tells (λ (q : PromiseState). q.replica == r) ps p found in
        (record { promise = p; entry = e; given = k.0; handed = is }, eqb-true p.replica r k.1, refl)

found_among : (ps : List PromiseState) (p : PromiseState) → AllDistinct (map (λ (q : PromiseState). q.replica) ps) → Among p ps → find (λ q. q.replica == p.replica) ps ≡ Some p
found_among [] p d a = absurd a
found_among (q ∷ ps) p d a = by (found_among ps p d.1) (q.replica == p.replica) refl a
  where
    by : (Among p ps → find (λ q. q.replica == p.replica) ps ≡ Some p) → (b : Bool) → (q.replica == p.replica) ≡ b → Among p (q ∷ ps) → cond b (Some q) (find (λ q. q.replica == p.replica) ps) ≡ Some p
    by again true e (inl same) = ap Some same
    by again true e (inr b) =
        absurd (d.0 (subst (λ (n : ℕ). Among n (map (λ (x : PromiseState). x.replica) ps)) (sym (eqb-true q.replica p.replica e)) (Among-map (λ (x : PromiseState). x.replica) p ps b)))
    by again false e (inl same) = absurd (cc (sym e ∙ eq-eqb q.replica p.replica (ap (λ (x : PromiseState). x.replica) same)))
    by again false e (inr b) = again b

-- a report stands in its replica's slot
pub reported_at : (ps : List PromiseState) (id : TxnId) → AllDistinct (map (λ (q : PromiseState). q.replica) ps) → (report : Report ps id) → reported ps id report.promise.replica ≡ Some report.entry
reported_at ps id d report = ap (option_and_then (λ (p : PromiseState). entry_of id p.entries)) (found_among ps report.promise d report.given) ∙ report.handed

pub report_within : (f : ℕ) (ps : List PromiseState) (id : TxnId) → AreOfReplicas f ps → (report : Report ps id) → report.promise.replica < members f
report_within f ps id of report = Each-among (λ (p : PromiseState). p.replica < members f) report.promise ps of.within report.given

-- the first final outcome is a replica's
pub first_last-some : (ps : List PromiseState) (id : TxnId) (r n : ℕ) (o : Outcome) → first_last (reports_from ps id r n) ≡ Some o → (k : ℕ) × (e : Entry) × (reported ps id k ≡ Some e) × (e.last ≡ Some o)
first_last-some ps id r zero o is = absurd (cc is)
first_last-some ps id r (suc n) o is = by (first_last-some ps id (r + 1) n o) (reported ps id r) refl is
  where
    last_of : (e : Entry) (l : Option Outcome) → e.last ≡ l → reported ps id r ≡ Some e → (first_last (reports_from ps id (r + 1) n) ≡ Some o → (k : ℕ) × (x : Entry) × (reported ps id k ≡ Some x) × (x.last ≡ Some o)) →
        option_or l (first_last (reports_from ps id (r + 1) n)) ≡ Some o → (k : ℕ) × (x : Entry) × (reported ps id k ≡ Some x) × (x.last ≡ Some o)
    last_of e None k at again is = again is
    last_of e (Some p) k at again is = (r, e, at, k ∙ is)

    by : (first_last (reports_from ps id (r + 1) n) ≡ Some o → (k : ℕ) × (e : Entry) × (reported ps id k ≡ Some e) × (e.last ≡ Some o)) → (x : Option Entry) → reported ps id r ≡ x →
        option_or (option_and_then (λ e. e.last) x) (first_last (reports_from ps id (r + 1) n)) ≡ Some o → (k : ℕ) × (e : Entry) × (reported ps id k ≡ Some e) × (e.last ≡ Some o)
    by again None at is = again is
    by again (Some e) at is = last_of e e.last refl at again is

-- where there is none, no replica among them has one
pub first_last-none : (ps : List PromiseState) (id : TxnId) (r n : ℕ) → first_last (reports_from ps id r n) ≡ None → (k : ℕ) → r ≤ k → k < r + n → (e : Entry) → reported ps id k ≡ Some e → e.last ≡ None
first_last-none ps id r zero is k low high e at = absurd (omega (arith, low, high))
first_last-none ps id r (suc n) is k low high e at = by (λ rest lower. first_last-none ps id (r + 1) n rest k lower (omega (arith, high)) e at) (reported ps id r) refl is
  where
    here_or_later : (x : Option Entry) → reported ps id r ≡ x → (first_last (reports_from ps id (r + 1) n) ≡ None → r + 1 ≤ k → e.last ≡ None) →
        first_last (reports_from ps id (r + 1) n) ≡ None → (k ≡ r → e.last ≡ None) → e.last ≡ None
    here_or_later x _ again rest here = elim (at_or_above k r low) [ inl same ↦ here same | inr above ↦ again rest above ]
      where
        at_or_above : (a b : ℕ) → b ≤ a → (a ≡ b) ⊎ (b + 1 ≤ a)
        at_or_above a b le = grind (arith, le)

    last_of : (y : Entry) (l : Option Outcome) → y.last ≡ l → reported ps id r ≡ Some y → (first_last (reports_from ps id (r + 1) n) ≡ None → r + 1 ≤ k → e.last ≡ None) →
        option_or l (first_last (reports_from ps id (r + 1) n)) ≡ None → e.last ≡ None
    last_of y (Some p) q here again is = absurd (cc is)
    last_of y None q here again is = here_or_later (Some y) here again is
        (λ same. ap (λ (x : Entry). x.last) (same_Some e y (sym at ∙ ap (reported ps id) same ∙ here)) ∙ q)

    by : (first_last (reports_from ps id (r + 1) n) ≡ None → r + 1 ≤ k → e.last ≡ None) → (x : Option Entry) → reported ps id r ≡ x →
        option_or (option_and_then (λ y. y.last) x) (first_last (reports_from ps id (r + 1) n)) ≡ None → e.last ≡ None
    by again None here is = here_or_later None here again is (λ same. absurd (cc (sym at ∙ ap (reported ps id) same ∙ here)))
    by again (Some y) here is = last_of y y.last refl here again is

abbrev accepted_from : List PromiseState → TxnId → ℕ → ℕ → List (Option Accepted)
accepted_from ps id r n = map (λ report. option_and_then (λ e. e.accepted) report) (reports_from ps id r n)

higher-above : (a b : Option Accepted) (c d : Accepted) → higher a b ≡ Some c → (a ≡ Some d) ⊎ (b ≡ Some d) → d.view ≤ c.view
higher-above None b c d is (inl none) = absurd (cc none)
higher-above None b c d is (inr at) = let same = ap (λ (x : Accepted). x.view) (same_Some d c (sym at ∙ is)) in omega (arith, same)
higher-above (Some a) None c d is (inl at) = let same = ap (λ (x : Accepted). x.view) (same_Some d c (sym at ∙ is)) in omega (arith, same)
higher-above (Some a) None c d is (inr none) = absurd (cc none)
higher-above (Some a) (Some b) c d is at = by (nat_lt a.view b.view) refl is (elim at [ inl x ↦ inl (same_Some a d x) | inr x ↦ inr (same_Some b d x) ])
  where
    by : (t : Bool) → nat_lt a.view b.view ≡ t → cond t (Some b) (Some a) ≡ Some c → (a ≡ d) ⊎ (b ≡ d) → d.view ≤ c.view
    by true k is (inl x) = let p = ap (λ (y : Accepted). y.view) x in let q = ap (λ (y : Accepted). y.view) (same_Some b c is) in grind (arith, nat_tests, k, p, q)
    by true k is (inr x) = let p = ap (λ (y : Accepted). y.view) x in let q = ap (λ (y : Accepted). y.view) (same_Some b c is) in omega (arith, p, q)
    by false k is (inl x) = let p = ap (λ (y : Accepted). y.view) x in let q = ap (λ (y : Accepted). y.view) (same_Some a c is) in omega (arith, p, q)
    by false k is (inr x) = let p = ap (λ (y : Accepted). y.view) x in let q = ap (λ (y : Accepted). y.view) (same_Some a c is) in grind (arith, nat_tests, k, p, q)

higher-none : (a b : Option Accepted) → higher a b ≡ None → (a ≡ None) × (b ≡ None)
higher-none None b is = (refl, is)
higher-none (Some a) None is = absurd (cc is)
higher-none (Some a) (Some b) is = by (nat_lt a.view b.view) is
  where
    by : (t : Bool) → cond t (Some b) (Some a) ≡ None → (Some a ≡ None) × (Some b ≡ None)
    by true is = absurd (cc is)
    by false is = absurd (cc is)

accepted_of : (ps : List PromiseState) (id : TxnId) (k : ℕ) (a : Accepted) → option_and_then (λ (e : Entry). e.accepted) (reported ps id k) ≡ Some a → (e : Entry) × (reported ps id k ≡ Some e) × (e.accepted ≡ Some a)
accepted_of ps id k a is = by (reported ps id k) refl is
  where
    by : (x : Option Entry) → reported ps id k ≡ x → option_and_then (λ (e : Entry). e.accepted) x ≡ Some a → (e : Entry) × (reported ps id k ≡ Some e) × (e.accepted ≡ Some a)
    by None at is = absurd (cc is)
    by (Some e) at is = (e, at, is)

-- the highest accepted outcome is a replica's
pub highest-some : (ps : List PromiseState) (id : TxnId) (r n : ℕ) (a : Accepted) → highest (accepted_from ps id r n) ≡ Some a → (k : ℕ) × (e : Entry) × (reported ps id k ≡ Some e) × (e.accepted ≡ Some a)
highest-some ps id r zero a is = absurd (cc is)
highest-some ps id r (suc n) a is = elim (higher-cases (option_and_then (λ (e : Entry). e.accepted) (reported ps id r)) (highest (accepted_from ps id (r + 1) n)) a is) [
  | inl here ↦ let k = accepted_of ps id r a here in (r, k.0, k.1, k.2)
  | inr later ↦ highest-some ps id (r + 1) n a later
]

at_or_above : (a b : ℕ) → b ≤ a → (a ≡ b) ⊎ (b + 1 ≤ a)
at_or_above a b le = grind (arith, le)

-- where there is none, no replica among them accepted
pub highest-none : (ps : List PromiseState) (id : TxnId) (r n : ℕ) → highest (accepted_from ps id r n) ≡ None → (k : ℕ) → r ≤ k → k < r + n → option_and_then (λ (e : Entry). e.accepted) (reported ps id k) ≡ None
highest-none ps id r zero is k low high = absurd (omega (arith, low, high))
highest-none ps id r (suc n) is k low high =
    let both = higher-none (option_and_then (λ (e : Entry). e.accepted) (reported ps id r)) (highest (accepted_from ps id (r + 1) n)) is in
    elim (at_or_above k r low) [
      | inl same ↦ ap (λ (j : ℕ). option_and_then (λ (e : Entry). e.accepted) (reported ps id j)) same ∙ both.0
      | inr above ↦ highest-none ps id (r + 1) n both.1 k above (omega (arith, high))
    ]

-- it is not below any other's
pub highest-above : (ps : List PromiseState) (id : TxnId) (r n : ℕ) (a : Accepted) → highest (accepted_from ps id r n) ≡ Some a → (k : ℕ) → r ≤ k → k < r + n → (b : Accepted) →
    option_and_then (λ (e : Entry). e.accepted) (reported ps id k) ≡ Some b → b.view ≤ a.view
highest-above ps id r zero a is k low high b at = absurd (omega (arith, low, high))
highest-above ps id r (suc n) a is k low high b at = elim (at_or_above k r low) [
  | inl same ↦ higher-above here later a b is (inl (ap (λ (j : ℕ). option_and_then (λ (e : Entry). e.accepted) (reported ps id j)) (sym same) ∙ at))
  | inr above ↦ by later refl (λ c e. highest-above ps id (r + 1) n c e k above (omega (arith, high)) b at) above
]
  where
    here : Option Accepted
    here = option_and_then (λ (e : Entry). e.accepted) (reported ps id r)

    later : Option Accepted
    later = highest (accepted_from ps id (r + 1) n)

    by : (x : Option Accepted) → highest (accepted_from ps id (r + 1) n) ≡ x → ((c : Accepted) → highest (accepted_from ps id (r + 1) n) ≡ Some c → b.view ≤ c.view) → r + 1 ≤ k → b.view ≤ a.view
    by None e again above = absurd (cc (sym (highest-none ps id (r + 1) n e k above (omega (arith, high))) ∙ at))
    by (Some c) e again above = let up = again c e in let over = higher-above here (highest (accepted_from ps id (r + 1) n)) a c is (inr e) in omega (arith, up, over)

pub ok_reports_mean : (f : ℕ) (ps : List PromiseState) → OkReportsMean f ps
ok_reports_mean f ps of id = (λ r is. told r (reported ps id r) refl is, λ report ok. ap (passes (λ (e : Entry). passes is_ok_vote e.vote)) (reported_at ps id of.different report) ∙ ok)
  where
    told : (r : ℕ) (x : Option Entry) → reported ps id r ≡ x → passes (λ (e : Entry). passes is_ok_vote e.vote) x ≡ true → (report : Report ps id) × (report.promise.replica ≡ r) × (passes is_ok_vote report.entry.vote ≡ true)
    told r None at is = absurd (cc is)
    told r (Some e) at is = let k = report_of ps id r e at in (k.0, k.1, subst (λ (x : Entry). passes is_ok_vote x.vote ≡ true) (sym k.2) is)
