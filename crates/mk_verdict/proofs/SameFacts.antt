-- The tests for one answer, and the facts.
use Rattle.std.proofs.Common.{◌≡◌, ◌⊎◌, ℕ, Bool, true, false, ◌&&◌, ◌||◌, ◌==◌, refl, inl, inr, ap, subst, arith}
use Rattle.std.proofs.lemmas.Bool.Decides.{nat_tests}
use Rattle.std.proofs.lemmas.Bool.{and_parts, and_from, or_cases, or_left, or_right}
use Rattle.mk_txn.specs.declared.Stamp.{Stamp}
use Rattle.mk_txn.specs.declared.Value.{Value}
use Rattle.mk_txn.specs.declared.Reason.{Reason}
use Rattle.mk_txn.specs.declared.Reason.TheVariants.{ReadStale, ReadPending, WriteLate, WritePending}
use Rattle.mk_txn.specs.Stamps.{same_stamp}
use Rattle.mk_txn.specs.Transactions.{same_value}
use Rattle.mk_txn.proofs.StampOrder.{same_stamp-tells, same_stamp-itself}
use Rattle.mk_txn.proofs.ValueFacts.{same_value-tells, same_value-itself}
use Rattle.mk_words.specs.declared.Act.{Act}
use Rattle.mk_words.specs.declared.Act.TheVariants.{Get, CheckRead, CheckWrite, CommitRead, CommitWrite, ReleaseRead, ReleaseWrite}
use Rattle.mk_words.specs.declared.Answer.{Answer}
use Rattle.mk_words.specs.declared.Answer.TheVariants.{Version, Okay, Refused, Done}
use Rattle.mk_words.specs.declared.GlobalLine.{GlobalLine}
use Rattle.mk_words.specs.declared.GlobalAnswer.{GlobalAnswer}
use Rattle.mk_words.specs.declared.GlobalAnswer.TheVariants.{Ok as GlobalDone, Counts, Entered, Unasked, Unmade, Lacking, Old, WordFault, Short}
use Rattle.mk_words.specs.Acts.{same_act}
use Rattle.mk_model.specs.EpochState.{EpochState}
use Rattle.mk_model.specs.GlobalAnswers.{global_answer, writes_word}
use Rattle.mk_model.specs.GlobalSteps.{IsAnswer}
use Rattle.mk_history.specs.Matching.{Turn}
use Rattle.mk_verdict.specs.Sameness.{same_reason, same_answer, same_turn, same_global, may_answer}

pub same_reason-tells : (a b : Reason) → same_reason a b ≡ true → a ≡ b
same_reason-tells ReadStale ReadStale e = refl
same_reason-tells ReadPending ReadPending e = refl
same_reason-tells WriteLate WriteLate e = refl
same_reason-tells WritePending WritePending e = refl
same_reason-tells _ _ e = absurd (cc e)

pub same_reason-itself : (a : Reason) → same_reason a a ≡ true
same_reason-itself ReadStale = refl
same_reason-itself ReadPending = refl
same_reason-itself WriteLate = refl
same_reason-itself WritePending = refl

pub same_answer-tells : (a b : Answer) → same_answer a b ≡ true → a ≡ b
same_answer-tells (Version s v) (Version s' v') e =
    let p = same_stamp-tells s s' (and_parts (same_stamp s s') (same_value v v') e).0 in
    let q = same_value-tells v v' (and_parts (same_stamp s s') (same_value v v') e).1 in
    λ i. Version (p i) (q i)
same_answer-tells Okay Okay e = refl
same_answer-tells (Refused r s) (Refused r' s') e =
    let p = same_reason-tells r r' (and_parts (same_reason r r') (same_stamp s s') e).0 in
    let q = same_stamp-tells s s' (and_parts (same_reason r r') (same_stamp s s') e).1 in
    λ i. Refused (p i) (q i)
same_answer-tells Done Done e = refl
same_answer-tells _ _ e = absurd (cc e)

pub same_answer-itself : (a : Answer) → same_answer a a ≡ true
same_answer-itself (Version s v) = and_from (same_stamp s s) (same_value v v) (same_stamp-itself s) (same_value-itself v)
same_answer-itself Okay = refl
same_answer-itself (Refused r s) = and_from (same_reason r r) (same_stamp s s) (same_reason-itself r) (same_stamp-itself s)
same_answer-itself Done = refl

pub same_act-tells : (a b : Act) → same_act a b ≡ true → a ≡ b
same_act-tells Get Get e = refl
same_act-tells (CheckRead ts v) (CheckRead ts' v') e =
    let p = same_stamp-tells ts ts' (and_parts (same_stamp ts ts') (same_stamp v v') e).0 in
    let q = same_stamp-tells v v' (and_parts (same_stamp ts ts') (same_stamp v v') e).1 in
    λ i. CheckRead (p i) (q i)
same_act-tells (CheckWrite ts) (CheckWrite ts') e = ap CheckWrite (same_stamp-tells ts ts' e)
same_act-tells (CommitRead ts) (CommitRead ts') e = ap CommitRead (same_stamp-tells ts ts' e)
same_act-tells (CommitWrite ts v) (CommitWrite ts' v') e =
    let p = same_stamp-tells ts ts' (and_parts (same_stamp ts ts') (same_value v v') e).0 in
    let q = same_value-tells v v' (and_parts (same_stamp ts ts') (same_value v v') e).1 in
    λ i. CommitWrite (p i) (q i)
same_act-tells (ReleaseRead ts) (ReleaseRead ts') e = ap ReleaseRead (same_stamp-tells ts ts' e)
same_act-tells (ReleaseWrite ts) (ReleaseWrite ts') e = ap ReleaseWrite (same_stamp-tells ts ts' e)
same_act-tells _ _ e = absurd (cc e)

pub same_act-itself : (a : Act) → same_act a a ≡ true
same_act-itself Get = refl
same_act-itself (CheckRead ts v) = and_from (same_stamp ts ts) (same_stamp v v) (same_stamp-itself ts) (same_stamp-itself v)
same_act-itself (CheckWrite ts) = same_stamp-itself ts
same_act-itself (CommitRead ts) = same_stamp-itself ts
same_act-itself (CommitWrite ts v) = and_from (same_stamp ts ts) (same_value v v) (same_stamp-itself ts) (same_value-itself v)
same_act-itself (ReleaseRead ts) = same_stamp-itself ts
same_act-itself (ReleaseWrite ts) = same_stamp-itself ts

pub same_turn-tells : (a b : Turn) → same_turn a b ≡ true → a ≡ b
same_turn-tells a b e =
    let p = same_act-tells a.act b.act (and_parts (same_act a.act b.act) (same_answer a.answer b.answer) e).0 in
    let q = same_answer-tells a.answer b.answer (and_parts (same_act a.act b.act) (same_answer a.answer b.answer) e).1 in
    λ i. record { act = p i; answer = q i }

pub same_turn-itself : (a : Turn) → same_turn a a ≡ true
same_turn-itself a = and_from (same_act a.act a.act) (same_answer a.answer a.answer) (same_act-itself a.act) (same_answer-itself a.answer)

pub same_global-tells : (a b : GlobalAnswer) → same_global a b ≡ true → a ≡ b
same_global-tells GlobalDone GlobalDone e = refl
same_global-tells (Counts c a) (Counts c' a') e =
    let p : c ≡ c' = grind (arith, nat_tests, and_parts (c == c') (a == a') e) in
    let q : a ≡ a' = grind (arith, nat_tests, and_parts (c == c') (a == a') e) in
    λ i. Counts (p i) (q i)
same_global-tells (Entered k) (Entered k') e = (let p : k ≡ k' = grind (arith, nat_tests, e) in ap Entered p)
same_global-tells Unasked Unasked e = refl
same_global-tells Unmade Unmade e = refl
same_global-tells Lacking Lacking e = refl
same_global-tells (Old w) (Old w') e = (let p : w ≡ w' = grind (arith, nat_tests, e) in ap Old p)
same_global-tells WordFault WordFault e = refl
same_global-tells (Short k) (Short k') e = (let p : k ≡ k' = grind (arith, nat_tests, e) in ap Short p)
same_global-tells _ _ e = absurd (cc e)

same_number-itself : (k : ℕ) → (k == k) ≡ true
same_number-itself k = grind (arith, nat_tests)

pub same_global-itself : (a : GlobalAnswer) → same_global a a ≡ true
same_global-itself GlobalDone = refl
same_global-itself (Counts c a) = and_from (c == c) (a == a) (same_number-itself c) (same_number-itself a)
same_global-itself (Entered k) = same_number-itself k
same_global-itself Unasked = refl
same_global-itself Unmade = refl
same_global-itself Lacking = refl
same_global-itself (Old w) = same_number-itself w
same_global-itself WordFault = refl
same_global-itself (Short k) = same_number-itself k

equal-same_global : (a b : GlobalAnswer) → a ≡ b → same_global a b ≡ true
equal-same_global a b e = subst (λ (c : GlobalAnswer). same_global a c ≡ true) e (same_global-itself a)

pub may_answer-tells : (state : EpochState) (line : GlobalLine) (answer : GlobalAnswer) → may_answer state line answer ≡ true → IsAnswer state line answer
may_answer-tells state line answer e =
    let given = global_answer state line in
    let faults = same_global answer WordFault in
    let writes = writes_word line in
    let done = same_global given GlobalDone in
    elim (or_cases (same_global answer given) (faults && writes && done) e) [
      | inl same ↦ inl (same_global-tells answer given same)
      | inr fault ↦
          let both = and_parts (faults && writes) done fault in
          let first = and_parts faults writes both.0 in
          inr (same_global-tells answer WordFault first.0, first.1, same_global-tells given GlobalDone both.1)
    ]

pub may_answer-from : (state : EpochState) (line : GlobalLine) (answer : GlobalAnswer) → IsAnswer state line answer → may_answer state line answer ≡ true
may_answer-from state line answer (inl same) =
    or_left (same_global answer (global_answer state line))
    (same_global answer WordFault && writes_word line && same_global (global_answer state line) GlobalDone)
    (equal-same_global answer (global_answer state line) same)
may_answer-from state line answer (inr fault) =
    let given = global_answer state line in
    let faults = same_global answer WordFault in
    let writes = writes_word line in
    let done = same_global given GlobalDone in
    or_right (same_global answer given) (faults && writes && done)
    (and_from (faults && writes) done (and_from faults writes (equal-same_global answer WordFault fault.0) fault.1) (equal-same_global given GlobalDone fault.2))
