-- The lines of the head, and headings, are read again as they are written.
use Rattle.std.proofs.Common.{◌≡◌, ◌⊎◌, ℕ, ◌+◌, ◌-◌, ◌^◌, ◌≤◌, ◌<◌, Bool, true, false, eqb, leb, ltb, not, ◌&&◌, List, [], ◌∷◌, ◌++◌, length, map, Option, Some, None, Result, Ok, Err, refl, sym, ap, subst, ◌∙◌, arith, inl, inr}
use Rattle.std.specs.Fmt.{decimal}
use Rattle.std.specs.Prelude.{is_some}
use Rattle.std.specs.List.{list_all, list_any, join_with_byte, AllByRecursion}
use Rattle.std.proofs.lemmas.Bool.{and_from, and_parts}
use Rattle.std.proofs.lemmas.Bool.Decides.{nat_tests}
use Rattle.std.proofs.lemmas.Fmt.{decimal_digit}
use Rattle.std.proofs.lemmas.List.Folds.{list_all-append}
use Rattle.mk_spelling.specs.declared.fault.TextFault.{TextFault}
use Rattle.mk_spelling.specs.declared.fault.TextFault.TheVariants as faults
use Rattle.mk_spelling.specs.Words.{cut, is_name, is_letter, is_name_byte, are_name_bytes, is_number, number, is_printable, is_empty, are_digits}
use Rattle.mk_spelling.specs.Fields.{◌>>=◌, ◌>>◌, need, found, place}
use Rattle.mk_spelling.proofs.Cuts.{Lacks, Lacks-from_test}
use Rattle.mk_spelling.proofs.FieldLaws.{ok_is}
use Rattle.mk_spelling.proofs.Joins.{words_joined}
use Rattle.mk_spelling.proofs.Numbers.{number-again, decimal_digits, all_from_number}
use Rattle.mk_quorum.specs.Sizes.{members}
use Rattle.mk_txn.specs.declared.TxnId.{TxnId}
use Rattle.mk_txn.specs.declared.Stamp.{Stamp}
use Rattle.mk_txn.specs.declared.Value.{Value}
use Rattle.mk_txn.specs.declared.Value.TheVariants.{Number, Absent}
use Rattle.mk_txn.specs.declared.WriteItem.{WriteItem}
use Rattle.mk_txn.specs.declared.Reason.{Reason}
use Rattle.mk_txn.specs.declared.Reason.TheVariants as reasons
use Rattle.mk_words.specs.declared.Act.{Act}
use Rattle.mk_words.specs.declared.Act.TheVariants as acts
use Rattle.mk_words.specs.declared.Answer.{Answer}
use Rattle.mk_words.specs.declared.Answer.TheVariants as answers
use Rattle.mk_words.specs.declared.KeyCall.{KeyCall}
use Rattle.mk_words.specs.declared.JournalEntry.{JournalEntry}
use Rattle.mk_words.specs.declared.GlobalLine.{GlobalLine}
use Rattle.mk_words.specs.declared.GlobalLine.TheVariants as globals
use Rattle.mk_words.specs.declared.GlobalAnswer.{GlobalAnswer}
use Rattle.mk_words.specs.declared.GlobalAnswer.TheVariants as said
use Rattle.mk_words.specs.declared.Step.{Step}
use Rattle.mk_words.specs.declared.Step.TheVariants as steps
use Rattle.mk_words.specs.Lines.{is_epoch, line_fits, can_answer}
use Rattle.mk_history.specs.declared.RoundLog.{RoundLog}
use Rattle.mk_history.specs.Histories.{History}
use Rattle.mk_history.specs.Shape.{stamp_fits, value_fits, act_in_range, answer_in_range, turn_fits, client_fits, id_fits, key_fits, replica_fits, view_fits, write_fits, step_fits, entry_fits, global_fits}
use Rattle.mk_kept.specs.declared.head.Head.{Head}
use Rattle.mk_kept.specs.Heads.{history}
use Rattle.mk_trace_lines.specs.declared.words.Replier.{Replier}
use Rattle.mk_trace_lines.specs.declared.words.Replier.TheVariants as repliers
use Rattle.mk_trace_lines.specs.LineWords.{reason_text}
use Rattle.mk_trace_lines.specs.TraceLines.{TraceLine, client_name, key_name, attempt_text, stamp_text, value_text, write_text, act_words, answer_words, turn_words, step_words, reply_words, change_words, line_words, spelling}
use Rattle.mk_trace_lines.specs.TraceLines.TraceLine.{Opens, Sizes, Declares, Names, Begins, Heads, Logged, Marks, Kept, Changes, Changed, Ends}
use Rattle.mk_trace_text.specs.declared.section.Section.{Section}
use Rattle.mk_trace_text.specs.declared.section.Section.TheVariants as sections
use Rattle.mk_trace_text.specs.Begun.{begun_of, beginner, seq_of}
use Rattle.mk_trace_text.specs.States.{State}
use Rattle.mk_trace_text.specs.Grammar as spec
use Rattle.mk_trace_text.specs.Grammar.{at_start, at_size, in_clients, in_keys, before_column, before_cell, at_end, before_round, in_log, in_journal, in_changes, is_text_of, is_up_to, named_place, key_up_to, next_seq, column_ascends, cell_up_to, cell_ascends, version_named, attempt_of, key_of, replica_of, alone_of, viewed_of, changed, epoch_of, member_of, begins_with_digit, by_words, line_of}
use Rattle.mk_trace.proofs.FitLaws.{Between, ltb-from}
use Rattle.mk_trace.proofs.FieldsAgain.{leb-low, ltb-low, eqb-from, digits_again, text_of_again, below_again, stamp_low, AreNames, key_there, client_there, key_again, attempt_again, attempt_cut, replica_again}
use Rattle.mk_trace.proofs.TurnsAgain.{turn_parts, turn_again, promise_again, merge_again, adopt_again, enter_again, ReplyAgain, writes_again}
use Rattle.mk_trace.proofs.Suited.{IsCellBehind, IsColumnBehind, IsSound, bind_again, done_again, found_again, is_read, need_again}

-- ---- the head

pub version_again : (v : ℕ) → (v ≡ 1) ⊎ (v ≡ 2) → version_named (decimal v) ≡ Some v
version_again v (inl e) = subst (λ (n : ℕ). version_named (decimal n) ≡ Some n) (sym e) (rw (decimal_digit 1 (omega arith)) refl)
version_again v (inr e) = subst (λ (n : ℕ). version_named (decimal n) ≡ Some n) (sym e) (rw (decimal_digit 2 (omega arith)) refl)

pub fresh_name : (o : Option ℕ) → o ≡ None → not (is_some o) ≡ true
fresh_name None e = refl
fresh_name (Some n) e = absurd cc

pub opens_again : (s : State) (v : ℕ) → at_start s.section ≡ true → (v ≡ 1) ⊎ (v ≡ 2) → spec.version_line s (decimal v ∷ []) ≡ Ok (Opens v)
opens_again s v at h = is_read (need_again (at_start s.section) _ at (bind_again _ (found_again faults.Unknown (version_again v h)) done_again))

pub sizes_again : (s : State) (f : ℕ) → at_size s.section ≡ true → Between 1 3 f → spec.size_line s (decimal f ∷ []) ≡ Ok (Sizes f)
sizes_again s f at h = is_read (need_again (at_size s.section) _ at (bind_again _ (number-again 1 3 f (omega arith) h.0 h.1) done_again))

pub declares_again : (s : State) (name : List ℕ) (c : ℕ) → in_clients s.section ≡ true → is_name name ≡ true → c ≤ 7 → length s.head.client_names.names < 64
    → place name s.head.client_names.names ≡ None → spec.client_line s (name ∷ decimal c ∷ []) ≡ Ok (Declares name c)
declares_again s name c at well low few new =
    is_read (need_again (in_clients s.section) _ at (need_again (is_name name) _ well
    (bind_again _ (number-again 0 7 c (omega arith) (omega arith) low)
    (need_again (ltb (length s.head.client_names.names) 64) _ (ltb-from (length s.head.client_names.names) 64 few)
    (need_again (not (is_some (place name s.head.client_names.names))) _ (fresh_name (place name s.head.client_names.names) new) done_again)))))

pub names_again : (s : State) (name : List ℕ) → in_keys s.section ≡ true → is_name name ≡ true → length s.head.key_names.names < 256
    → place name s.head.key_names.names ≡ None → spec.name_line s name ≡ Ok (Names name)
names_again s name at well few new =
    is_read (need_again (in_keys s.section) _ at (need_again (is_name name) _ well
    (need_again (ltb (length s.head.key_names.names) 256) _ (ltb-from (length s.head.key_names.names) 256 few)
    (need_again (not (is_some (place name s.head.key_names.names))) _ (fresh_name (place name s.head.key_names.names) new) done_again))))

-- ---- headings

pub begins_again : (s : State) (n : ℕ) → before_round s.section ≡ true → s.count < 16 → n ≡ s.count + 1 → spec.round_line s (decimal n ∷ []) ≡ Ok (Begins n)
begins_again s n at few e =
    subst (λ (k : ℕ). spec.round_line s (decimal k ∷ []) ≡ Ok (Begins k)) (sym e)
    (is_read (need_again (before_round s.section) _ at
    (need_again (is_text_of (s.count + 1) (decimal (s.count + 1))) _ (text_of_again (s.count + 1) (omega (arith, few)))
    (need_again (ltb s.count 16) _ (ltb-from s.count 16 few) done_again))))

pub column_behind : (s : State) (x : Section) (c : ℕ) → c < 2 ^ 64 → IsColumnBehind s x c → column_ascends s x (decimal c) ≡ true
column_behind s sections.Log c fits h =
    let d = digits_again c fits in
    let above : leb c s.column ≡ false = grind (arith, nat_tests) in
    rw (d.0, d.1, above) refl
column_behind s sections.Start c fits h = refl
column_behind s sections.Opened c fits h = refl
column_behind s sections.Clients c fits h = refl
column_behind s sections.Keys c fits h = refl
column_behind s sections.Round c fits h = refl
column_behind s sections.Column c fits h = refl
column_behind s sections.Cell c fits h = refl
column_behind s sections.Journal c fits h = refl
column_behind s sections.Globals c fits h = refl
column_behind s sections.Changes c fits h = refl
column_behind s sections.Ended c fits h = refl

pub heads_again : (s : State) (c : ℕ) → IsSound s.head → before_column s.section ≡ true → c < s.head.columns → IsColumnBehind s s.section c
    → spec.column_line s (decimal c ∷ []) ≡ Ok (Heads c)
heads_again s c sound at low behind =
    let fits : c < 2 ^ 64 = omega (arith, low, sound.few_columns) in
    is_read (need_again (before_column s.section) _ at
    (need_again (column_ascends s s.section (decimal c)) _ (column_behind s s.section c fits behind)
    (bind_again _ (below_again s.head.columns c fits (ltb-from c s.head.columns low)) done_again)))

pub cell_apart : (s : State) (r k : ℕ) → r < 2 ^ 64 → AreNames s.head.key_names.names → k < length s.head.key_names.names
    → (s.replica < r) ⊎ ((r ≡ s.replica) × (s.key < k)) → not (cell_up_to s (decimal r) (key_name s.head.key_names.names k)) ≡ true
cell_apart s r k fits names low (inl h) =
    let d = digits_again r fits in
    let less : ltb r s.replica ≡ false = grind (arith, nat_tests) in
    let same : eqb r s.replica ≡ false = grind (arith, nat_tests) in
    rw (d.0, d.1, less, same) refl
cell_apart s r k fits names low (inr h) =
    let d = digits_again r fits in
    let q = key_there s.head.key_names.names names k low in
    let less : ltb r s.replica ≡ false = (let e = h.0 in grind (arith, nat_tests)) in
    let same : eqb r s.replica ≡ true = eqb-from r s.replica h.0 in
    let above : leb k s.key ≡ false = (let e = h.1 in grind (arith, nat_tests)) in
    rw (d.0, d.1, less, same, q.0, q.1, above) refl

pub cell_behind : (s : State) (x : Section) (r k : ℕ) → r < 2 ^ 64 → AreNames s.head.key_names.names → k < length s.head.key_names.names → IsCellBehind s x r k
    → cell_ascends s x (decimal r) (key_name s.head.key_names.names k) ≡ true
cell_behind s sections.Journal r k fits names low h = cell_apart s r k fits names low h
cell_behind s sections.Start r k fits names low h = refl
cell_behind s sections.Opened r k fits names low h = refl
cell_behind s sections.Clients r k fits names low h = refl
cell_behind s sections.Keys r k fits names low h = refl
cell_behind s sections.Round r k fits names low h = refl
cell_behind s sections.Column r k fits names low h = refl
cell_behind s sections.Log r k fits names low h = refl
cell_behind s sections.Cell r k fits names low h = refl
cell_behind s sections.Globals r k fits names low h = refl
cell_behind s sections.Changes r k fits names low h = refl
cell_behind s sections.Ended r k fits names low h = refl

pub replica_low : (run : History) (r : ℕ) → run.faults ≤ 3 → replica_fits run r ≡ true → r < 7
replica_low run r small fits = (let lt = ltb-low r (members run.faults) fits in omega (arith, lt, small))

pub marks_again : (s : State) (all : List RoundLog) (r k : ℕ) → IsSound s.head → before_cell s.section ≡ true → replica_fits (history s.head all) r ≡ true
    → k < length s.head.key_names.names → IsCellBehind s s.section r k
    → spec.cell_line s (decimal r ∷ key_name s.head.key_names.names k ∷ []) ≡ Ok (Marks r k)
marks_again s all r k sound at fits low behind =
    let small = replica_low (history s.head all) r sound.small fits in
    is_read (need_again (before_cell s.section) _ at
    (need_again (cell_ascends s s.section (decimal r) (key_name s.head.key_names.names k)) _
    (cell_behind s s.section r k (omega (arith, small)) sound.keys low behind)
    (bind_again _ (replica_again s (history s.head all) r refl sound.small fits) (bind_again _ (key_again s sound.keys k low) done_again))))
