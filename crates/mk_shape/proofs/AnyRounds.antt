-- What a run of a head says of single numbers does not depend on its rounds.
use Rattle.std.proofs.Common.{◌≡◌, ◌∙◌, Bool, ◌^◌, ◌&&◌, List, [], ◌∷◌, refl, ap}
use Rattle.std.specs.Prelude.{nat_le, nat_lt}
use Rattle.std.specs.List.{list_all}
use Rattle.mk_txn.specs.declared.Value.{Value}
use Rattle.mk_txn.specs.declared.Value.TheVariants.{Number, Absent}
use Rattle.mk_txn.specs.declared.WriteItem.{WriteItem}
use Rattle.mk_words.specs.declared.Act.{Act}
use Rattle.mk_words.specs.declared.Act.TheVariants.{Get, CheckRead, CheckWrite, CommitRead, CommitWrite, ReleaseRead, ReleaseWrite}
use Rattle.mk_words.specs.declared.Answer.{Answer}
use Rattle.mk_words.specs.declared.Answer.TheVariants.{Version, Okay, Refused, Done}
use Rattle.mk_words.specs.declared.JournalEntry.{JournalEntry}
use Rattle.mk_words.specs.declared.Step.{Step}
use Rattle.mk_words.specs.declared.Step.TheVariants.{Begin, Unread, Read, Stamp as StampStep, Validate, Take, Key, Rule, Again, Takeover, Pick, Stop}
use Rattle.mk_words.specs.Acts.{answer_fits}
use Rattle.mk_history.specs.declared.RoundLog.{RoundLog}
use Rattle.mk_history.specs.Shape.{stamp_fits, value_fits, act_in_range, answer_in_range, turn_fits, id_fits, key_fits, replica_fits, write_fits, step_fits, entry_fits}
use Rattle.mk_kept.specs.declared.head.Head.{Head}
use Rattle.mk_kept.specs.Heads.{history}

pub same_tests : {X : Type 0} (p q : X → Bool) → ((x : X) → p x ≡ q x) → (xs : List X) → list_all p xs ≡ list_all q xs
same_tests p q same [] = refl
same_tests p q same (x ∷ xs) = ap (λ b. b && list_all p xs) (same x) ∙ ap (λ b. q x && b) (same_tests p q same xs)

module _ (head : Head) (rounds : List RoundLog) where
  value_any : (value : Value) → value_fits (history head []) value ≡ value_fits (history head rounds) value
  value_any (Number n) = refl
  value_any Absent = refl

  act_any : (act : Act) → act_in_range (history head []) act ≡ act_in_range (history head rounds) act
  act_any Get = refl
  act_any (CheckRead ts version) = refl
  act_any (CheckWrite ts) = refl
  act_any (CommitRead ts) = refl
  act_any (CommitWrite ts value) = ap (λ b. stamp_fits ts && b) (value_any value)
  act_any (ReleaseRead ts) = refl
  act_any (ReleaseWrite ts) = refl

  answer_any : (answer : Answer) → answer_in_range (history head []) answer ≡ answer_in_range (history head rounds) answer
  answer_any (Version version value) = ap (λ b. stamp_fits version && b) (value_any value)
  answer_any (Refused reason stamp) = refl
  answer_any Okay = refl
  answer_any Done = refl

  turn_any : (act : Act) (answer : Answer) → turn_fits (history head []) act answer ≡ turn_fits (history head rounds) act answer
  turn_any act answer =
      ap (λ b. answer_fits act answer && b && answer_in_range (history head []) answer) (act_any act)
      ∙ ap (λ b. answer_fits act answer && act_in_range (history head rounds) act && b) (answer_any answer)

  write_any : (item : WriteItem) → write_fits (history head []) item ≡ write_fits (history head rounds) item
  write_any item = ap (λ b. key_fits (history head rounds) item.key && b) (value_any item.value)

  step_any : (step : Step) → step_fits (history head []) step ≡ step_fits (history head rounds) step
  step_any (Begin client replica) = refl
  step_any (Unread client) = refl
  step_any (Read id key) = refl
  step_any (StampStep id clock writes) =
      ap (λ b. id_fits (history head rounds) id && nat_le clock (2 ^ 61) && b)
      (same_tests (write_fits (history head [])) (write_fits (history head rounds)) write_any writes)
  step_any (Validate id) = refl
  step_any (Take number) = refl
  step_any (Key call answer) =
      ap (λ b. replica_fits (history head rounds) call.replica && key_fits (history head rounds) call.key && b) (turn_any call.act answer)
  step_any (Rule id) = refl
  step_any (Again id) = refl
  step_any (Takeover id view) = refl
  step_any (Pick id view) = refl
  step_any (Stop id) = refl

  entry_any : (entry : JournalEntry) → entry_fits (history head []) entry ≡ entry_fits (history head rounds) entry
  entry_any entry = ap (λ b. nat_lt entry.seat head.columns && b) (turn_any entry.act entry.answer)

  pub steps_any : (logs : List (List Step)) → list_all (list_all (step_fits (history head []))) logs ≡ list_all (list_all (step_fits (history head rounds))) logs
  steps_any = same_tests _ _ (same_tests _ _ step_any)

  pub entries_any : (journals : List (List (List JournalEntry)))
      → list_all (list_all (list_all (entry_fits (history head [])))) journals ≡ list_all (list_all (list_all (entry_fits (history head rounds)))) journals
  entries_any = same_tests _ _ (same_tests _ _ (same_tests _ _ entry_any))
