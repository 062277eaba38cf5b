-- Tests that are passed, and the lines that may come next.
use Rattle.std.proofs.Common.{◌≡◌, ◌⊎◌, ℕ, ◌+◌, ◌-◌, ◌^◌, ◌≤◌, ◌<◌, Bool, true, false, eqb, leb, ltb, not, ◌&&◌, List, [], ◌∷◌, ◌++◌, length, map, Option, Some, None, Result, Ok, Err, refl, sym, ap, subst, ◌∙◌, arith, inl, inr}
use Rattle.std.specs.Fmt.{decimal}
use Rattle.std.specs.Prelude.{is_some}
use Rattle.std.specs.List.{list_all, list_any, join_with_byte, AllByRecursion}
use Rattle.std.proofs.lemmas.Bool.{and_from, and_parts}
use Rattle.std.proofs.lemmas.Bool.Decides.{nat_tests}
use Rattle.std.proofs.lemmas.Fmt.{decimal_digit}
use Rattle.std.proofs.lemmas.List.Folds.{list_all-append}
use Rattle.mk_spelling.specs.declared.fault.TextFault.{TextFault}
use Rattle.mk_spelling.specs.declared.fault.TextFault.TheVariants as faults
use Rattle.mk_spelling.specs.Words.{cut, is_name, is_letter, is_name_byte, are_name_bytes, is_number, number, is_printable, is_empty, are_digits}
use Rattle.mk_spelling.specs.Fields.{◌>>=◌, ◌>>◌, need, found, place}
use Rattle.mk_spelling.proofs.Cuts.{Lacks, Lacks-from_test}
use Rattle.mk_spelling.proofs.FieldLaws.{ok_is}
use Rattle.mk_spelling.proofs.Joins.{words_joined}
use Rattle.mk_spelling.proofs.Numbers.{number-again, decimal_digits, all_from_number}
use Rattle.mk_quorum.specs.Sizes.{members}
use Rattle.mk_txn.specs.declared.TxnId.{TxnId}
use Rattle.mk_txn.specs.declared.Stamp.{Stamp}
use Rattle.mk_txn.specs.declared.Value.{Value}
use Rattle.mk_txn.specs.declared.Value.TheVariants.{Number, Absent}
use Rattle.mk_txn.specs.declared.WriteItem.{WriteItem}
use Rattle.mk_txn.specs.declared.Reason.{Reason}
use Rattle.mk_txn.specs.declared.Reason.TheVariants as reasons
use Rattle.mk_words.specs.declared.Act.{Act}
use Rattle.mk_words.specs.declared.Act.TheVariants as acts
use Rattle.mk_words.specs.declared.Answer.{Answer}
use Rattle.mk_words.specs.declared.Answer.TheVariants as answers
use Rattle.mk_words.specs.declared.KeyCall.{KeyCall}
use Rattle.mk_words.specs.declared.JournalEntry.{JournalEntry}
use Rattle.mk_words.specs.declared.GlobalLine.{GlobalLine}
use Rattle.mk_words.specs.declared.GlobalLine.TheVariants as globals
use Rattle.mk_words.specs.declared.GlobalAnswer.{GlobalAnswer}
use Rattle.mk_words.specs.declared.GlobalAnswer.TheVariants as said
use Rattle.mk_words.specs.declared.Step.{Step}
use Rattle.mk_words.specs.declared.Step.TheVariants as steps
use Rattle.mk_words.specs.Lines.{is_epoch, line_fits, can_answer}
use Rattle.mk_history.specs.declared.RoundLog.{RoundLog}
use Rattle.mk_history.specs.Histories.{History}
use Rattle.mk_history.specs.Shape.{stamp_fits, value_fits, act_in_range, answer_in_range, turn_fits, client_fits, id_fits, key_fits, replica_fits, view_fits, write_fits, step_fits, entry_fits, global_fits}
use Rattle.mk_kept.specs.declared.head.Head.{Head}
use Rattle.mk_kept.specs.Heads.{history}
use Rattle.mk_trace_lines.specs.declared.words.Replier.{Replier}
use Rattle.mk_trace_lines.specs.declared.words.Replier.TheVariants as repliers
use Rattle.mk_trace_lines.specs.LineWords.{reason_text}
use Rattle.mk_trace_lines.specs.TraceLines.{TraceLine, client_name, key_name, attempt_text, stamp_text, value_text, write_text, act_words, answer_words, turn_words, step_words, reply_words, change_words, line_words, spelling}
use Rattle.mk_trace_lines.specs.TraceLines.TraceLine.{Opens, Sizes, Declares, Names, Begins, Heads, Logged, Marks, Kept, Changes, Changed, Ends}
use Rattle.mk_trace_text.specs.declared.section.Section.{Section}
use Rattle.mk_trace_text.specs.declared.section.Section.TheVariants as sections
use Rattle.mk_trace_text.specs.Begun.{begun_of, beginner, seq_of}
use Rattle.mk_trace_text.specs.States.{State}
use Rattle.mk_trace_text.specs.Grammar as spec
use Rattle.mk_trace_text.specs.Grammar.{at_start, at_size, in_clients, in_keys, before_column, before_cell, at_end, before_round, in_log, in_journal, in_changes, is_text_of, is_up_to, named_place, key_up_to, next_seq, column_ascends, cell_up_to, cell_ascends, version_named, attempt_of, key_of, replica_of, alone_of, viewed_of, changed, epoch_of, member_of, begins_with_digit, by_words, line_of}
use Rattle.mk_trace.proofs.FitLaws.{Between, ltb-from}
use Rattle.mk_trace.proofs.FieldsAgain.{leb-low, ltb-low, eqb-from, digits_again, text_of_again, below_again, stamp_low, AreNames, key_there, client_there, key_again, attempt_again, attempt_cut, replica_again}
use Rattle.mk_trace.proofs.TurnsAgain.{turn_parts, turn_again, promise_again, merge_again, adopt_again, enter_again, ReplyAgain, writes_again}

-- ---- tests that are passed

-- it reads this
pub record Reads {A : Type 0} (r : Result A TextFault) (x : A) : Type 0 where
  pub is : r ≡ Ok x

pub done_again : {A : Type 0} {x : A} → Reads (Ok x) x
done_again = record { is = refl }

pub is_read : {A : Type 0} {r : Result A TextFault} {x : A} → Reads r x → r ≡ Ok x
is_read h = h.is

pub says : {A : Type 0} {r : Result A TextFault} {x : A} → r ≡ Ok x → Reads r x
says e = record { is = e }

pub need_again : {B : Type 0} (b : Bool) (fault : TextFault) {r : Result B TextFault} {y : B} → b ≡ true → Reads r y → Reads (need b fault >> r) y
need_again true fault e h = h
need_again false fault e h = absurd cc

pub bind_again : {A B : Type 0} {r : Result A TextFault} (f : A → Result B TextFault) {x : A} {y : B} → r ≡ Ok x → Reads (f x) y → Reads (r >>= f) y
bind_again {r = Ok z} f {x = x} {y = y} e h = subst (λ (w : _). Reads (f w) y) (sym (ok_is z x e)) h
bind_again {r = Err fault} f e h = absurd cc

pub found_again : {A : Type 0} (fault : TextFault) {o : Option A} {x : A} → o ≡ Some x → found fault o ≡ Ok x
found_again fault e = ap (found fault) e

-- ---- lines that may come next

-- the heading of this column stands behind the last one
abbrev pub IsColumnBehind : State → Section → ℕ → Type 0
IsColumnBehind s sections.Log column = s.column < column
IsColumnBehind s _ column = Unit {0}

-- so does that of this replica and key
abbrev pub IsCellBehind : State → Section → ℕ → ℕ → Type 0
IsCellBehind s sections.Journal replica key = (s.replica < replica) ⊎ ((replica ≡ s.replica) × (s.key < key))
IsCellBehind s _ replica key = Unit {0}

-- the attempt that a step begins is one of 16384
abbrev pub IsFew : State → Step → Type 0
IsFew s step = (client : ℕ) → beginner step ≡ Some client → begun_of s.begun client + 1 ≤ 16384

-- the line may come next, in a run of these rounds
abbrev pub Suits : List RoundLog → State → TraceLine → Type 0
Suits all s (Opens v) = (at_start s.section ≡ true) × ((v ≡ 1) ⊎ (v ≡ 2))
Suits all s (Sizes f) = (at_size s.section ≡ true) × Between 1 3 f
Suits all s (Declares name column) =
    (in_clients s.section ≡ true) × (is_name name ≡ true) × (column ≤ 7) × (length s.head.client_names.names < 64)
    × (place name s.head.client_names.names ≡ None)
Suits all s (Names name) =
    (in_keys s.section ≡ true) × (is_name name ≡ true) × (length s.head.key_names.names < 256) × (place name s.head.key_names.names ≡ None)
Suits all s (Begins n) = (before_round s.section ≡ true) × (s.count < 16) × (n ≡ s.count + 1)
Suits all s (Heads column) = (before_column s.section ≡ true) × (column < s.head.columns) × IsColumnBehind s s.section column
Suits all s (Logged seq step) =
    (in_log s.section ≡ true) × (step_fits (history s.head all) step ≡ true) × (seq ≡ seq_of s.begun step) × IsFew s step
Suits all s (Marks replica key) =
    (before_cell s.section ≡ true) × (replica_fits (history s.head all) replica ≡ true) × (key < length s.head.key_names.names)
    × IsCellBehind s s.section replica key
Suits all s (Kept entry) = (in_journal s.section ≡ true) × (entry_fits (history s.head all) entry ≡ true)
Suits all s Changes = before_cell s.section ≡ true
Suits all s (Changed entry) = (in_changes s.section ≡ true) × (s.changes < 256) × (global_fits (history s.head all) entry ≡ true)
Suits all s Ends = at_end s.section ≡ true

-- what the lines of a head have said
pub record IsSound (head : Head) : Type 0 where
  pub small : head.size ≤ 3
  pub few_columns : head.columns ≤ 8
  pub clients : AreNames head.client_names.names
  pub keys : AreNames head.key_names.names
