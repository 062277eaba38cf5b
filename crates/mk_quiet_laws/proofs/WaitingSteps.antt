-- What waits goes on waiting, step by step.
use Rattle.std.proofs.Common.{◌≡◌, ◌⊎◌, ◌<◌, ◌≤◌, ◌∙◌, ℕ, zero, suc, ◌+◌, true, false, refl, arith, inl, inr, sym, ap, subst, List, [], ◌∷◌, ◌++◌, length, Option, Some, None}
use Rattle.std.proofs.lemmas.List.{length-append}
use Rattle.mk_lists.specs.Among.{Among, Among-append_left}
use Rattle.mk_txn.specs.Transactions.{Transaction}
use Rattle.mk_words.specs.declared.Answer.{Answer}
use Rattle.mk_words.specs.declared.Msg.{Msg}
use Rattle.mk_words.specs.Checks.{KeyAct}
use Rattle.mk_words.specs.Validations.{ValidationState, next_act, after_answer}
use Rattle.mk_script.specs.declared.lines.Fate.TheVariants.{Deliver as DeliverFate}
use Rattle.mk_faults.specs.Fates.{RuleLines, fate_at}
use Rattle.mk_words.specs.declared.KeyCall.{KeyCall}
use Rattle.mk_words.specs.declared.Step.{Step}
use Rattle.mk_words.specs.declared.Step.TheVariants.{Take, Key}
use Rattle.mk_model.specs.ColumnState.{Setting, ColumnState, Work}
use Rattle.mk_model.specs.ColumnState.Work.{Idle, Fetching, Validating, Finishing}
use Rattle.mk_model.specs.Conditions.{wanted}
use Rattle.mk_model.specs.Steps.{answered, validated, column_after, is_validating}
use Rattle.mk_driver.specs.declared.Next.{Next}
use Rattle.mk_driver.specs.declared.Next.TheVariants.{Step as StepNext, Over}
use Rattle.mk_driver.specs.declared.DriverState.{DriverState}
use Rattle.mk_driver.specs.Driven.{Standing}
use Rattle.mk_driver.specs.Turns.{Choice, choice, unless_wanted}
use Rattle.mk_quiet_laws.specs.CaughtUp.{is_delivery}
use Rattle.mk_quiet_laws.specs.Waiting.{Waits, IsWaiting}
use Rattle.mk_quiet_laws.proofs.Walked.{Good, GoodNext, named_good}
use Rattle.mk_quiet_laws.proofs.Silent.{silent_still}
use Rattle.mk_quiet_laws.proofs.NamedSteps.{waits_then}

-- a driver beside a column
abbrev pub beside : DriverState → ColumnState → Standing
beside d c = record { driver = d; column = c }

module _ (rules : RuleLines) (delivered : (link : List Msg) (number : ℕ) → fate_at rules link number ≡ DeliverFate) (round : Setting) (c : ColumnState) (d : DriverState) (log : List Step)
    (w : IsWaiting (beside d c) log) where
  abbrev pub chosen : Choice
  chosen = choice rules round c d

  -- what is named where no key call is under way
  pub good : c.work ≡ Idle → Good rules delivered round c log chosen
  good idle =
      subst (λ (o : Option KeyCall). Good rules delivered round c log (unless_wanted rules round c o d)) (sym (ap wanted idle))
      (named_good rules delivered round c log d w.not_late w.not_held w.sent)

  abbrev GoodAt : Next → Type 0
  GoodAt next = GoodNext rules delivered round c log next chosen.driver

  good_step : c.work ≡ Idle → (step : Step) → chosen.next ≡ StepNext step → GoodAt (StepNext step)
  good_step idle step named = subst GoodAt named (good idle)

  -- but for takes, all was taken before
  pub all_taken : c.work ≡ Idle → (step : Step) → chosen.next ≡ StepNext step → is_delivery (StepNext step) ≡ false → (number : ℕ) → 1 ≤ number → number ≤ length c.link → Among (Take number) log
  all_taken idle step named other = (good_step idle step named).1.1.1.1 other

  pub all_over : c.work ≡ Idle → chosen.next ≡ Over → (number : ℕ) → 1 ≤ number → number ≤ length c.link → Among (Take number) log
  all_over idle named = subst GoodAt named (good idle)

  pub step_waits : c.work ≡ Idle → (step : Step) → chosen.next ≡ StepNext step → length c.link ≤ length (column_after round c step).link →
      IsWaiting (beside chosen.driver (column_after round c step)) (log ++ step ∷ [])
  step_waits idle step named grows =
      let g = good_step idle step named in
      record {
        sent = waits_then c (column_after round c step).link log step chosen.driver.agenda (λ s. (silent_still round c idle step s).0) g.1.1.0 g.1.1.1.0;
        next = λ txn r epoch state is number lt. elim g.1.1.0 [
          | inl s ↦ absurd (still txn r epoch state is (silent_still round c idle step s).1)
          | inr k ↦ k number (omega (arith, grows, lt))
        ];
        not_late = g.0;
        not_held = g.1.0;
      }
    where
      still : (txn : Transaction) (r epoch : ℕ) (state : ValidationState) → (column_after round c step).work ≡ Validating txn r epoch state → is_validating (column_after round c step).work ≡ false → ⊥
      still txn r epoch state is none = cc (sym none ∙ ap is_validating is)

  -- ---- key calls

  -- a vote is sent where a validation ends, and else nothing
  abbrev Voted : ColumnState → Type 0
  Voted new = (new.link ≡ c.link) ⊎ ((is_validating c.work ≡ true) × (length new.link ≡ length c.link + 1))

  validated_voted : (txn : Transaction) (r epoch : ℕ) (state after : ValidationState) (o : Option KeyAct) → c.work ≡ Validating txn r epoch state → Voted (validated txn r epoch after o c)
  validated_voted txn r epoch state after (Some act) e = inl refl
  validated_voted txn r epoch state after None e = inr (ap is_validating e, length-append c.link _)

  key_voted : (answer : Answer) (work : Work) → c.work ≡ work → Voted (answered answer work c)
  key_voted answer Idle e = inl refl
  key_voted answer (Fetching id r key) e = inl refl
  key_voted answer (Validating txn r epoch state) e = let after = after_answer state answer in validated_voted txn r epoch state after (next_act after) e
  key_voted answer (Finishing r []) e = inl refl
  key_voted answer (Finishing r (act ∷ acts)) e = inl refl

  -- a validation goes on only where one was under way
  validated_goes : (txn : Transaction) (r epoch : ℕ) (state after : ValidationState) (o : Option KeyAct) → c.work ≡ Validating txn r epoch state → is_validating c.work ≡ true
  validated_goes txn r epoch state after o e = ap is_validating e

  key_goes : (answer : Answer) (work : Work) → c.work ≡ work → is_validating (answered answer work c).work ≡ true → is_validating c.work ≡ true
  key_goes answer Idle e v = v
  key_goes answer (Fetching id r key) e v = absurd (cc v)
  key_goes answer (Validating txn r epoch state) e v = ap is_validating e
  key_goes answer (Finishing r []) e v = absurd (cc v)
  key_goes answer (Finishing r (act ∷ [])) e v = absurd (cc v)
  key_goes answer (Finishing r (act ∷ (other ∷ acts))) e v = absurd (cc v)

  next_waits : is_validating c.work ≡ true → (number : ℕ) → length c.link < number → Waits number d.agenda
  next_waits v number lt = by c.work refl v
    where
      by : (work : Work) → c.work ≡ work → is_validating work ≡ true → Waits number d.agenda
      by Idle e v = absurd (cc v)
      by (Fetching id r key) e v = absurd (cc v)
      by (Validating txn r epoch state) e v = w.next txn r epoch state e number lt
      by (Finishing r left) e v = absurd (cc v)

  pub key_waits : (call : KeyCall) (answer : Answer) → IsWaiting (beside d (column_after round c (Key call answer))) (log ++ Key call answer ∷ [])
  key_waits call answer =
      record {
        sent = λ number low high. sent number low high (key_voted answer c.work refl);
        next = λ txn r epoch state is number lt. next_waits (key_goes answer c.work refl (ap is_validating is)) number (elim (key_voted answer c.work refl) [
          | inl same ↦ (let e = ap (λ (l : List Msg). length l) same in omega (arith, e, lt))
          | inr more ↦ (let e = more.1 in omega (arith, e, lt))
        ]);
        not_late = w.not_late;
        not_held = w.not_held;
      }
    where
      step : Step
      step = Key call answer

      old : (number : ℕ) → 1 ≤ number → number ≤ length c.link → Among (Take number) (log ++ step ∷ []) ⊎ Waits number d.agenda
      old number low high = elim (w.sent number low high) [ inl t ↦ inl (Among-append_left (Take number) log (step ∷ []) t) | inr x ↦ inr x ]

      within : (a b : ℕ) → (a ≤ b) ⊎ (b < a)
      within zero b = inl (omega arith)
      within (suc a) zero = inr (omega arith)
      within (suc a) (suc b) = elim (within a b) [ inl k ↦ inl (omega (arith, k)) | inr k ↦ inr (omega (arith, k)) ]

      sent : (number : ℕ) → 1 ≤ number → number ≤ length (answered answer c.work c).link → Voted (answered answer c.work c) → Among (Take number) (log ++ step ∷ []) ⊎ Waits number d.agenda
      sent number low high (inl same) = old number low (let e = ap (λ (l : List Msg). length l) same in omega (arith, e, high))
      sent number low high (inr more) = elim (within number (length c.link)) [
        | inl before ↦ old number low before
        | inr new ↦ inr (next_waits more.0 number new)
      ]
