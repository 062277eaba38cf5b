-- What is told of a run for the words `at` and `why`.
use Rattle.std.proofs.Common.{◌≡◌, ◌∙◌, ◌∷◌, ◌++◌, ℕ, refl, sym, ap, subst, append_assoc, map, List, Option, Some, None}
use Rattle.std.specs.Borrow.{Bor}
use Rattle.std.specs.List.{flat_map}
use Rattle.std.proofs.lemmas.Option.{none-some}
use Rattle.mk_lists.specs.Among.{Among}
use Rattle.mk_lists.proofs.Lookups.{find_tells}
use Rattle.mk_txn.specs.declared.Stamp.{Stamp}
use Rattle.mk_txn.specs.declared.Value.{Value}
use Rattle.mk_txn.specs.declared.TxnId.{TxnId}
use Rattle.mk_txn.specs.LatestWrites.{VersionedValue}
use Rattle.mk_txn.specs.Transactions.{same_id}
use Rattle.mk_txn.proofs.IdOrder.{same_id-tells}
use Rattle.mk_history.specs.Histories.{History}
use Rattle.mk_run.specs.declared.line.AttemptLine.{AttemptLine}
use Rattle.mk_run.specs.Attempts.{outcomes_of}
use Rattle.mk_model.specs.OneCopy.{Copy, version_in}
use Rattle.mk_report.specs.Seen.{seen_entry}
use Rattle.mk_report.specs.StoreTexts.{held_text, entry_text}
use Rattle.mk_past.specs.declared.reasons.Reasoned.{Reasoned}
use Rattle.mk_past.specs.Reasons.{line_of_id, reason_of_line, reason_of, HasAttempt}
use Rattle.mk_tool.specs.Asking.{HasNamed}

-- the line of a key goes by its version and its value
pub held-is : (name : List ℕ) (held : VersionedValue) (version : Stamp) (value : Value) → version ≡ held.version → value ≡ held.value →
    held_text name (record { version = version; value = value }) ≡ held_text name held
held-is name held version value v w = λ i. held_text name (record { version = v i; value = w i })

-- the lines of a table's entries in a copy
abbrev lines : Copy → List (Bor (List ℕ) × ℕ) → List ℕ
lines copy entries = flat_map (entry_text copy) (map seen_entry entries)

-- one more line was written
pub line-next : (copy : Copy) (out new all : List ℕ) (entries rest : List (Bor (List ℕ) × ℕ)) (entry : Bor (List ℕ) × ℕ) (version : Stamp) (value : Value) → entries ≡ entry ∷ rest →
    version ≡ (version_in copy entry.1).version → value ≡ (version_in copy entry.1).value → new ≡ out ++ held_text entry.0.now (record { version = version; value = value }) →
    out ++ lines copy entries ≡ all → new ++ lines copy rest ≡ all
line-next copy out new all entries rest entry version value steps v w put so =
    let held = version_in copy entry.1 in
    ap (λ (o : List ℕ). o ++ lines copy rest) (put ∙ ap (λ (t : List ℕ). out ++ t) (held-is entry.0.now held version value v w))
    ∙ append_assoc out (held_text entry.0.now held) (lines copy rest)
    ∙ ap (λ (es : List (Bor (List ℕ) × ℕ)). out ++ lines copy es) (sym steps)
    ∙ so

-- an attempt that has a reason is the run's
pub has-attempt : (run : History) (id : TxnId) (reason : Reasoned) → reason_of run id ≡ Some reason → ((line : AttemptLine) → Among line (outcomes_of run) → HasAttempt run line.id) → HasAttempt run id
has-attempt run id reason is only = by (line_of_id id (outcomes_of run)) refl
  where
    by : (l : Option AttemptLine) → line_of_id id (outcomes_of run) ≡ l → HasAttempt run id
    by None e = absurd (none-some reason (sym (ap (reason_of_line run) e) ∙ is))
    by (Some line) e =
        let f = find_tells (λ (l : AttemptLine). same_id l.id id) (outcomes_of run) line e in
        subst (HasAttempt run) (same_id-tells line.id id f.1) (only line f.0)

-- the run has the attempt of a name
pub has-named : (run : History) (named : Option TxnId) (id : TxnId) → named ≡ Some id → HasAttempt run id → HasNamed named run
has-named run named id there has = subst (λ (o : Option TxnId). HasNamed o run) (sym there) has
