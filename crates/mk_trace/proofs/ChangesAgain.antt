-- Global lines are read again as they are written.
use Rattle.std.proofs.Common.{◌≡◌, ◌⊎◌, ℕ, ◌+◌, ◌-◌, ◌^◌, ◌≤◌, ◌<◌, Bool, true, false, eqb, leb, ltb, not, ◌&&◌, List, [], ◌∷◌, ◌++◌, length, map, Option, Some, None, Result, Ok, Err, refl, sym, ap, subst, ◌∙◌, arith, inl, inr}
use Rattle.std.specs.Fmt.{decimal}
use Rattle.std.specs.Prelude.{is_some}
use Rattle.std.specs.List.{list_all, list_any, join_with_byte, AllByRecursion}
use Rattle.std.proofs.lemmas.Bool.{and_from, and_parts}
use Rattle.std.proofs.lemmas.Bool.Decides.{nat_tests}
use Rattle.std.proofs.lemmas.Fmt.{decimal_digit}
use Rattle.std.proofs.lemmas.List.Folds.{list_all-append}
use Rattle.mk_spelling.specs.declared.fault.TextFault.{TextFault}
use Rattle.mk_spelling.specs.declared.fault.TextFault.TheVariants as faults
use Rattle.mk_spelling.specs.Words.{cut, is_name, is_letter, is_name_byte, are_name_bytes, is_number, number, is_printable, is_empty, are_digits}
use Rattle.mk_spelling.specs.Fields.{◌>>=◌, ◌>>◌, need, found, place}
use Rattle.mk_spelling.proofs.Cuts.{Lacks, Lacks-from_test}
use Rattle.mk_spelling.proofs.FieldLaws.{ok_is}
use Rattle.mk_spelling.proofs.Joins.{words_joined}
use Rattle.mk_spelling.proofs.Numbers.{number-again, decimal_digits, all_from_number}
use Rattle.mk_quorum.specs.Sizes.{members}
use Rattle.mk_txn.specs.declared.TxnId.{TxnId}
use Rattle.mk_txn.specs.declared.Stamp.{Stamp}
use Rattle.mk_txn.specs.declared.Value.{Value}
use Rattle.mk_txn.specs.declared.Value.TheVariants.{Number, Absent}
use Rattle.mk_txn.specs.declared.WriteItem.{WriteItem}
use Rattle.mk_txn.specs.declared.Reason.{Reason}
use Rattle.mk_txn.specs.declared.Reason.TheVariants as reasons
use Rattle.mk_words.specs.declared.Act.{Act}
use Rattle.mk_words.specs.declared.Act.TheVariants as acts
use Rattle.mk_words.specs.declared.Answer.{Answer}
use Rattle.mk_words.specs.declared.Answer.TheVariants as answers
use Rattle.mk_words.specs.declared.KeyCall.{KeyCall}
use Rattle.mk_words.specs.declared.JournalEntry.{JournalEntry}
use Rattle.mk_words.specs.declared.GlobalLine.{GlobalLine}
use Rattle.mk_words.specs.declared.GlobalLine.TheVariants as globals
use Rattle.mk_words.specs.declared.GlobalAnswer.{GlobalAnswer}
use Rattle.mk_words.specs.declared.GlobalAnswer.TheVariants as said
use Rattle.mk_words.specs.declared.Step.{Step}
use Rattle.mk_words.specs.declared.Step.TheVariants as steps
use Rattle.mk_words.specs.Lines.{is_epoch, line_fits, can_answer}
use Rattle.mk_history.specs.declared.RoundLog.{RoundLog}
use Rattle.mk_history.specs.Histories.{History}
use Rattle.mk_history.specs.Shape.{stamp_fits, value_fits, act_in_range, answer_in_range, turn_fits, client_fits, id_fits, key_fits, replica_fits, view_fits, write_fits, step_fits, entry_fits, global_fits}
use Rattle.mk_kept.specs.declared.head.Head.{Head}
use Rattle.mk_kept.specs.Heads.{history}
use Rattle.mk_trace_lines.specs.declared.words.Replier.{Replier}
use Rattle.mk_trace_lines.specs.declared.words.Replier.TheVariants as repliers
use Rattle.mk_trace_lines.specs.LineWords.{reason_text}
use Rattle.mk_trace_lines.specs.TraceLines.{TraceLine, client_name, key_name, attempt_text, stamp_text, value_text, write_text, act_words, answer_words, turn_words, step_words, reply_words, change_words, line_words, spelling}
use Rattle.mk_trace_lines.specs.TraceLines.TraceLine.{Opens, Sizes, Declares, Names, Begins, Heads, Logged, Marks, Kept, Changes, Changed, Ends}
use Rattle.mk_trace_text.specs.declared.section.Section.{Section}
use Rattle.mk_trace_text.specs.declared.section.Section.TheVariants as sections
use Rattle.mk_trace_text.specs.Begun.{begun_of, beginner, seq_of}
use Rattle.mk_trace_text.specs.States.{State}
use Rattle.mk_trace_text.specs.Grammar as spec
use Rattle.mk_trace_text.specs.Grammar.{at_start, at_size, in_clients, in_keys, before_column, before_cell, at_end, before_round, in_log, in_journal, in_changes, is_text_of, is_up_to, named_place, key_up_to, next_seq, column_ascends, cell_up_to, cell_ascends, version_named, attempt_of, key_of, replica_of, alone_of, viewed_of, changed, epoch_of, member_of, begins_with_digit, by_words, line_of}
use Rattle.mk_trace.proofs.FitLaws.{Between, ltb-from}
use Rattle.mk_trace.proofs.FieldsAgain.{leb-low, ltb-low, eqb-from, digits_again, text_of_again, below_again, stamp_low, AreNames, key_there, client_there, key_again, attempt_again, attempt_cut, replica_again}
use Rattle.mk_trace.proofs.TurnsAgain.{turn_parts, turn_again, promise_again, merge_again, adopt_again, enter_again, ReplyAgain, writes_again}
use Rattle.mk_trace.proofs.PlainWords.{by_line}
use Rattle.mk_trace.proofs.Suited.{IsSound, bind_again, done_again, is_read, need_again, says}
use Rattle.mk_trace.proofs.StepsAgain.{ok_line}

-- ---- global lines

pub change_done : (s : State) (line : GlobalLine) (answer : GlobalAnswer) → s.changes < 256 → changed s line answer ≡ Ok (Changed (record { line = line; answer = answer }))
change_done s line answer few = is_read (need_again (ltb s.changes 256) _ (ltb-from s.changes 256 few) done_again)

pub epoch_number : (n : ℕ) → is_epoch n ≡ true → number 1 1000 (decimal n) ≡ Ok n
epoch_number n e =
    let q = and_parts (leb 1 n) (leb n 1000) e in
    number-again 1 1000 n (omega arith) (leb-low 1 n q.0) (leb-low n 1000 q.1)

pub epoch_again : (s : State) (replier : Replier) (n : ℕ) (a : GlobalAnswer) → in_changes s.section ≡ true → is_epoch n ≡ true → ReplyAgain replier a
    → epoch_of replier s (decimal n ∷ reply_words a) ≡ Ok (n, a)
epoch_again s replier n a at e r =
    is_read (bind_again _ r.form (need_again (in_changes s.section) _ at (bind_again _ (epoch_number n e) (bind_again _ r.reply done_again))))

pub member_again : (s : State) (all : List RoundLog) (replier : Replier) (n k : ℕ) (a : GlobalAnswer) → IsSound s.head → in_changes s.section ≡ true → is_epoch n ≡ true
    → replica_fits (history s.head all) k ≡ true → ReplyAgain replier a → member_of replier s (decimal n ∷ decimal k ∷ reply_words a) ≡ Ok (n, k, a)
member_again s all replier n k a sound at e fits r =
    is_read (bind_again _ r.form (need_again (in_changes s.section) _ at (bind_again _ (epoch_number n e)
    (bind_again _ (replica_again s (history s.head all) k refl sound.small fits) (bind_again _ r.reply done_again)))))

pub change_again : (s : State) (all : List RoundLog) (line : GlobalLine) (a : GlobalAnswer) → IsSound s.head → in_changes s.section ≡ true → s.changes < 256
    → line_fits (members s.head.size) line ≡ true → can_answer line a ≡ true
    → by_line s (change_words (record { line = line; answer = a })) ≡ Ok (Changed (record { line = line; answer = a }))
change_again s all (globals.Wipe replica) a sound at few fits can =
    is_read (need_again (in_changes s.section) _ at
    (bind_again _ (replica_again s (history s.head all) replica refl sound.small fits) (says (change_done s (globals.Wipe replica) said.Ok few))))
    ∙ ap (λ (x : GlobalAnswer). ok_line (Changed (record { line = globals.Wipe replica; answer = x }))) (plain_done a can)
  where
    plain_done : (a : GlobalAnswer) → can_answer (globals.Wipe replica) a ≡ true → said.Ok ≡ a
    plain_done said.Ok e = refl
    plain_done (said.Counts n m) e = absurd cc
    plain_done (said.Entered k) e = absurd cc
    plain_done said.Unasked e = absurd cc
    plain_done said.Unmade e = absurd cc
    plain_done said.Lacking e = absurd cc
    plain_done (said.Old word) e = absurd cc
    plain_done said.WordFault e = absurd cc
    plain_done (said.Short k) e = absurd cc
change_again s all (globals.Ask epoch) a sound at few fits can =
    is_read (need_again (in_changes s.section) _ at (bind_again _ (epoch_number epoch fits) (says (change_done s (globals.Ask epoch) said.Ok few))))
    ∙ ap (λ (x : GlobalAnswer). ok_line (Changed (record { line = globals.Ask epoch; answer = x }))) (plain_done a can)
  where
    plain_done : (a : GlobalAnswer) → can_answer (globals.Ask epoch) a ≡ true → said.Ok ≡ a
    plain_done said.Ok e = refl
    plain_done (said.Counts n m) e = absurd cc
    plain_done (said.Entered k) e = absurd cc
    plain_done said.Unasked e = absurd cc
    plain_done said.Unmade e = absurd cc
    plain_done said.Lacking e = absurd cc
    plain_done (said.Old word) e = absurd cc
    plain_done said.WordFault e = absurd cc
    plain_done (said.Short k) e = absurd cc
change_again s all (globals.Promise epoch replica) a sound at few fits can =
    let q = and_parts (is_epoch epoch) (ltb replica (members s.head.size)) fits in
    is_read (bind_again _ (member_again s all repliers.Promise epoch replica a sound at q.0 q.1 (promise_again epoch replica a can)) (says (change_done s (globals.Promise epoch replica) a few)))
change_again s all (globals.Merge epoch) a sound at few fits can =
    is_read (bind_again _ (epoch_again s repliers.Merge epoch a at fits (merge_again epoch a can)) (says (change_done s (globals.Merge epoch) a few)))
change_again s all (globals.Adopt epoch replica) a sound at few fits can =
    let q = and_parts (is_epoch epoch) (ltb replica (members s.head.size)) fits in
    is_read (bind_again _ (member_again s all repliers.Adopt epoch replica a sound at q.0 q.1 (adopt_again epoch replica a can)) (says (change_done s (globals.Adopt epoch replica) a few)))
change_again s all (globals.Enter epoch) a sound at few fits can =
    is_read (bind_again _ (epoch_again s repliers.Enter epoch a at fits (enter_again epoch a can)) (says (change_done s (globals.Enter epoch) a few)))
