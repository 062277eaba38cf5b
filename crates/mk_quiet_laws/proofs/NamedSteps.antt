-- After a step that was named each message was taken or waits.
use Rattle.std.proofs.Common.{◌≡◌, ◌⊎◌, ◌<◌, ◌≤◌, ℕ, zero, suc, arith, inl, inr, ap, List, [], ◌∷◌, ◌++◌, length}
use Rattle.mk_lists.specs.Among.{Among, Among-append_left, Among-append_right}
use Rattle.mk_words.specs.declared.Msg.{Msg}
use Rattle.mk_words.specs.declared.Step.{Step}
use Rattle.mk_words.specs.declared.Step.TheVariants.{Take as TakeStep}
use Rattle.mk_model.specs.ColumnState.{ColumnState}
use Rattle.mk_driver.specs.declared.Task.{Task}
use Rattle.mk_quiet_laws.specs.Waiting.{Waits}
use Rattle.mk_quiet_laws.proofs.TaskWork.{IsSilent, Covers}

within : (a b : ℕ) → (a ≤ b) ⊎ (b < a)
within zero b = inl (omega arith)
within (suc a) zero = inr (omega arith)
within (suc a) (suc b) = elim (within a b) [ inl k ↦ inl (omega (arith, k)) | inr k ↦ inr (omega (arith, k)) ]

-- the link may become what it will, but for a silent step
pub waits_then : (column : ColumnState) (link : List Msg) (log : List Step) (step : Step) (agenda : List Task) → (IsSilent column step → link ≡ column.link) → Covers column step agenda →
    ((number : ℕ) → 1 ≤ number → number ≤ length column.link → Among (TakeStep number) log ⊎ ((step ≡ TakeStep number) ⊎ Waits number agenda)) →
    (number : ℕ) → 1 ≤ number → number ≤ length link → Among (TakeStep number) (log ++ step ∷ []) ⊎ Waits number agenda
waits_then column link log step agenda still covers known number low high = by (within number (length column.link))
  where
    by : (number ≤ length column.link) ⊎ (length column.link < number) → Among (TakeStep number) (log ++ step ∷ []) ⊎ Waits number agenda
    by (inl old) = elim (known number low old) [
      | inl taken ↦ inl (Among-append_left (TakeStep number) log (step ∷ []) taken)
      | inr rest ↦ elim rest [
        | inl same ↦ inl (Among-append_right (TakeStep number) log (step ∷ []) (inl same))
        | inr w ↦ inr w
      ]
    ]
    by (inr new) = elim covers [
      | inl silent ↦ absurd (let same = ap (λ (l : List Msg). length l) (still silent) in omega (arith, same, high, new))
      | inr w ↦ inr (w number new)
    ]
