-- Words that a line can have, and a line of such words.
use Rattle.std.proofs.Common.{◌≡◌, ◌⊎◌, ℕ, ◌+◌, ◌-◌, ◌^◌, ◌≤◌, ◌<◌, Bool, true, false, eqb, leb, ltb, not, ◌&&◌, List, [], ◌∷◌, ◌++◌, length, map, Option, Some, None, Result, Ok, Err, refl, sym, ap, subst, ◌∙◌, arith, inl, inr}
use Rattle.std.specs.Fmt.{decimal}
use Rattle.std.specs.Prelude.{is_some}
use Rattle.std.specs.List.{list_all, list_any, join_with_byte, AllByRecursion}
use Rattle.std.proofs.lemmas.Bool.{and_from, and_parts}
use Rattle.std.proofs.lemmas.Bool.Decides.{nat_tests}
use Rattle.std.proofs.lemmas.Fmt.{decimal_digit}
use Rattle.std.proofs.lemmas.List.Folds.{list_all-append}
use Rattle.mk_spelling.specs.declared.fault.TextFault.{TextFault}
use Rattle.mk_spelling.specs.declared.fault.TextFault.TheVariants as faults
use Rattle.mk_spelling.specs.Words.{cut, is_name, is_letter, is_name_byte, are_name_bytes, is_number, number, is_printable, is_empty, are_digits}
use Rattle.mk_spelling.specs.Fields.{◌>>=◌, ◌>>◌, need, found, place}
use Rattle.mk_spelling.proofs.Cuts.{Lacks, Lacks-from_test}
use Rattle.mk_spelling.proofs.FieldLaws.{ok_is}
use Rattle.mk_spelling.proofs.Joins.{words_joined}
use Rattle.mk_spelling.proofs.Numbers.{number-again, decimal_digits, all_from_number}
use Rattle.mk_quorum.specs.Sizes.{members}
use Rattle.mk_txn.specs.declared.TxnId.{TxnId}
use Rattle.mk_txn.specs.declared.Stamp.{Stamp}
use Rattle.mk_txn.specs.declared.Value.{Value}
use Rattle.mk_txn.specs.declared.Value.TheVariants.{Number, Absent}
use Rattle.mk_txn.specs.declared.WriteItem.{WriteItem}
use Rattle.mk_txn.specs.declared.Reason.{Reason}
use Rattle.mk_txn.specs.declared.Reason.TheVariants as reasons
use Rattle.mk_words.specs.declared.Act.{Act}
use Rattle.mk_words.specs.declared.Act.TheVariants as acts
use Rattle.mk_words.specs.declared.Answer.{Answer}
use Rattle.mk_words.specs.declared.Answer.TheVariants as answers
use Rattle.mk_words.specs.declared.KeyCall.{KeyCall}
use Rattle.mk_words.specs.declared.JournalEntry.{JournalEntry}
use Rattle.mk_words.specs.declared.GlobalLine.{GlobalLine}
use Rattle.mk_words.specs.declared.GlobalLine.TheVariants as globals
use Rattle.mk_words.specs.declared.GlobalAnswer.{GlobalAnswer}
use Rattle.mk_words.specs.declared.GlobalAnswer.TheVariants as said
use Rattle.mk_words.specs.declared.Step.{Step}
use Rattle.mk_words.specs.declared.Step.TheVariants as steps
use Rattle.mk_words.specs.Lines.{is_epoch, line_fits, can_answer}
use Rattle.mk_history.specs.declared.RoundLog.{RoundLog}
use Rattle.mk_history.specs.Histories.{History}
use Rattle.mk_history.specs.Shape.{stamp_fits, value_fits, act_in_range, answer_in_range, turn_fits, client_fits, id_fits, key_fits, replica_fits, view_fits, write_fits, step_fits, entry_fits, global_fits}
use Rattle.mk_kept.specs.declared.head.Head.{Head}
use Rattle.mk_kept.specs.Heads.{history}
use Rattle.mk_trace_lines.specs.declared.words.Replier.{Replier}
use Rattle.mk_trace_lines.specs.declared.words.Replier.TheVariants as repliers
use Rattle.mk_trace_lines.specs.LineWords.{reason_text}
use Rattle.mk_trace_lines.specs.TraceLines.{TraceLine, client_name, key_name, attempt_text, stamp_text, value_text, write_text, act_words, answer_words, turn_words, step_words, reply_words, change_words, line_words, spelling}
use Rattle.mk_trace_lines.specs.TraceLines.TraceLine.{Opens, Sizes, Declares, Names, Begins, Heads, Logged, Marks, Kept, Changes, Changed, Ends}
use Rattle.mk_trace_text.specs.declared.section.Section.{Section}
use Rattle.mk_trace_text.specs.declared.section.Section.TheVariants as sections
use Rattle.mk_trace_text.specs.Begun.{begun_of, beginner, seq_of}
use Rattle.mk_trace_text.specs.States.{State}
use Rattle.mk_trace_text.specs.Grammar as spec
use Rattle.mk_trace_text.specs.Grammar.{at_start, at_size, in_clients, in_keys, before_column, before_cell, at_end, before_round, in_log, in_journal, in_changes, is_text_of, is_up_to, named_place, key_up_to, next_seq, column_ascends, cell_up_to, cell_ascends, version_named, attempt_of, key_of, replica_of, alone_of, viewed_of, changed, epoch_of, member_of, begins_with_digit, by_words, line_of}
use Rattle.mk_trace.proofs.FitLaws.{Between, ltb-from}
use Rattle.mk_trace.proofs.FieldsAgain.{leb-low, ltb-low, eqb-from, digits_again, text_of_again, below_again, stamp_low, AreNames, key_there, client_there, key_again, attempt_again, attempt_cut, replica_again}
use Rattle.mk_trace.proofs.TurnsAgain.{turn_parts, turn_again, promise_again, merge_again, adopt_again, enter_again, ReplyAgain, writes_again}

-- ---- words that a line can have

-- printable, and no space
abbrev pub is_ink : ℕ → Bool
is_ink b = leb 33 b && leb b 126

-- it has bytes, and no space among them
abbrev pub IsPlain : List ℕ → Type 0
IsPlain w = (list_all is_ink w ≡ true) × (is_empty w ≡ false)

pub wider : (p q : ℕ → Bool) → ((x : ℕ) → p x ≡ true → q x ≡ true) → (xs : List ℕ) → list_all p xs ≡ true → list_all q xs ≡ true
wider p q h [] e = refl
wider p q h (x ∷ xs) e =
    let k = and_parts (p x) (list_all p xs) e in
    and_from (q x) (list_all q xs) (h x k.0) (wider p q h xs k.1)

pub ink_printed : (x : ℕ) → is_ink x ≡ true → (leb 32 x && leb x 126) ≡ true
ink_printed x e = grind (arith, nat_tests)

pub digit_ink : (x : ℕ) → (leb 48 x && leb x 57) ≡ true → is_ink x ≡ true
digit_ink x e = grind (arith, nat_tests)

pub name_ink : (x : ℕ) → is_name_byte x ≡ true → is_ink x ≡ true
name_ink x e = grind (arith, nat_tests)

pub letter_ink : (x : ℕ) → is_letter x ≡ true → is_ink x ≡ true
letter_ink x e = grind (arith, nat_tests)

pub ink_append : (a b : List ℕ) → list_all is_ink a ≡ true → list_all is_ink b ≡ true → list_all is_ink (a ++ b) ≡ true
ink_append a b h k = list_all-append is_ink a b ∙ and_from (list_all is_ink a) (list_all is_ink b) h k

pub some_number : (w : List ℕ) → is_number w ≡ true → is_empty w ≡ false
some_number [] e = absurd cc
some_number (b ∷ bs) e = refl

pub plain_decimal : (n : ℕ) → n < 2 ^ 64 → IsPlain (decimal n)
plain_decimal n h =
    (wider (λ b. leb 48 b && leb b 57) is_ink digit_ink (decimal n) (decimal_digits n h), some_number (decimal n) (digits_again n h).0)

pub plain_name : (w : List ℕ) → is_name w ≡ true → IsPlain w
plain_name [] e = absurd cc
plain_name (b ∷ bs) e =
    let h = and_parts (is_letter b && leb (length bs) 15) (are_name_bytes bs) e in
    let k = and_parts (is_letter b) (leb (length bs) 15) h.0 in
    (and_from (is_ink b) (list_all is_ink bs) (letter_ink b k.0) (wider is_name_byte is_ink name_ink bs h.1), refl)

pub some_append : (a b : List ℕ) → is_empty a ≡ false → is_empty (a ++ b) ≡ false
some_append [] b h = absurd cc
some_append (x ∷ a) b h = refl

-- two words around a byte
pub plain_pair : (a b : List ℕ) (mark : ℕ) → is_ink mark ≡ true → IsPlain a → IsPlain b → IsPlain (a ++ mark ∷ b)
plain_pair a b mark m h k =
    (ink_append a (mark ∷ b) h.0 (and_from (is_ink mark) (list_all is_ink b) m k.0), some_append a (mark ∷ b) h.1)

pub plain_stamp : (t : Stamp) → stamp_fits t ≡ true → IsPlain (stamp_text t)
plain_stamp t fits =
    let q = stamp_low t fits in
    plain_pair (decimal t.time) (decimal t.client) 46 refl (plain_decimal t.time (omega (arith, q.0))) (plain_decimal t.client (omega (arith, q.1)))

pub plain_value : (run : History) (v : Value) → value_fits run v ≡ true → IsPlain (value_text v)
plain_value run (Number n) fits = plain_decimal n (ltb-low n (2 ^ 64) fits)
plain_value run Absent fits = (refl, refl)

pub plain_reason : (reason : Reason) → IsPlain (reason_text reason)
plain_reason reasons.ReadStale = (refl, refl)
plain_reason reasons.ReadPending = (refl, refl)
plain_reason reasons.WriteLate = (refl, refl)
plain_reason reasons.WritePending = (refl, refl)

pub plain_append : (a b : List (List ℕ)) → AllByRecursion IsPlain a → AllByRecursion IsPlain b → AllByRecursion IsPlain (a ++ b)
plain_append [] b h k = k
plain_append (w ∷ a) b h k = (h.0, plain_append a b h.1 k)

pub plain_act : (run : History) (act : Act) → act_in_range run act ≡ true → AllByRecursion IsPlain (act_words act)
plain_act run acts.Get e = ((refl, refl), tt)
plain_act run (acts.CheckRead ts version) e =
    let q = and_parts (stamp_fits ts) (stamp_fits version) e in
    ((refl, refl), (plain_stamp ts q.0, (plain_stamp version q.1, tt)))
plain_act run (acts.CheckWrite ts) e = ((refl, refl), (plain_stamp ts e, tt))
plain_act run (acts.CommitRead ts) e = ((refl, refl), (plain_stamp ts e, tt))
plain_act run (acts.CommitWrite ts v) e =
    let q = and_parts (stamp_fits ts) (value_fits run v) e in
    ((refl, refl), (plain_stamp ts q.0, (plain_value run v q.1, tt)))
plain_act run (acts.ReleaseRead ts) e = ((refl, refl), (plain_stamp ts e, tt))
plain_act run (acts.ReleaseWrite ts) e = ((refl, refl), (plain_stamp ts e, tt))

pub plain_answer : (run : History) (answer : Answer) → answer_in_range run answer ≡ true → AllByRecursion IsPlain (answer_words answer)
plain_answer run (answers.Version version v) e =
    let q = and_parts (stamp_fits version) (value_fits run v) e in
    (plain_stamp version q.0, (plain_value run v q.1, tt))
plain_answer run answers.Okay e = ((refl, refl), tt)
plain_answer run (answers.Refused reason stamp) e = (plain_reason reason, (plain_stamp stamp e, tt))
plain_answer run answers.Done e = tt

pub plain_turn : (run : History) (act : Act) (answer : Answer) → turn_fits run act answer ≡ true → AllByRecursion IsPlain (turn_words act answer)
plain_turn run act answer fits =
    let q = turn_parts run act answer fits in
    plain_append (act_words act) (answer_words answer) (plain_act run act q.1) (plain_answer run answer q.2)

-- ---- a line of such words

pub none_empty : (ws : List (List ℕ)) → AllByRecursion IsPlain ws → list_any is_empty ws ≡ false
none_empty [] h = refl
none_empty (w ∷ ws) h = rw (h.0.1, none_empty ws h.1) refl

pub each_lacks : (ws : List (List ℕ)) → AllByRecursion IsPlain ws → AllByRecursion (Lacks 32) ws
each_lacks [] h = tt
each_lacks (w ∷ ws) h = (Lacks-from_test is_ink w 32 h.0.0 refl, each_lacks ws h.1)

pub printed_join : (ws : List (List ℕ)) → AllByRecursion IsPlain ws → is_printable (join_with_byte 32 ws) ≡ true
printed_join [] h = refl
printed_join (w ∷ []) h = wider is_ink (λ b. leb 32 b && leb b 126) ink_printed w h.0.0
printed_join (w ∷ v ∷ ws) h =
    let rest = join_with_byte 32 (v ∷ ws) in
    list_all-append (λ b. leb 32 b && leb b 126) w (32 ∷ rest)
    ∙ and_from (list_all (λ b. leb 32 b && leb b 126) w) (list_all (λ b. leb 32 b && leb b 126) (32 ∷ rest))
    (wider is_ink (λ b. leb 32 b && leb b 126) ink_printed w h.0.0) (printed_join (v ∷ ws) h.1)

-- a line by its words
abbrev pub by_line : State → List (List ℕ) → Result TraceLine TextFault
by_line s [] = Err faults.Form
by_line s (w ∷ ws) = by_words s w ws

pub line_of_words : (s : State) (w : List ℕ) (ws : List (List ℕ)) → AllByRecursion IsPlain (w ∷ ws) → line_of s (join_with_byte 32 (w ∷ ws)) ≡ by_words s w ws
line_of_words s w ws h =
    rw (printed_join (w ∷ ws) h, words_joined w ws (each_lacks (w ∷ ws) h), none_empty (w ∷ ws) h) refl
