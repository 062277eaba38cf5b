-- A line that may come next is read again as it is written.
use Rattle.std.proofs.Common.{◌≡◌, ◌⊎◌, ℕ, ◌+◌, ◌-◌, ◌^◌, ◌≤◌, ◌<◌, Bool, true, false, eqb, leb, ltb, not, ◌&&◌, List, [], ◌∷◌, ◌++◌, length, map, Option, Some, None, Result, Ok, Err, refl, sym, ap, subst, ◌∙◌, arith, inl, inr}
use Rattle.std.specs.Fmt.{decimal}
use Rattle.std.specs.Prelude.{is_some}
use Rattle.std.specs.List.{list_all, list_any, join_with_byte, AllByRecursion}
use Rattle.std.proofs.lemmas.Bool.{and_from, and_parts}
use Rattle.std.proofs.lemmas.Bool.Decides.{nat_tests}
use Rattle.std.proofs.lemmas.Fmt.{decimal_digit}
use Rattle.std.proofs.lemmas.List.Folds.{list_all-append}
use Rattle.mk_spelling.specs.declared.fault.TextFault.{TextFault}
use Rattle.mk_spelling.specs.declared.fault.TextFault.TheVariants as faults
use Rattle.mk_spelling.specs.Words.{cut, is_name, is_letter, is_name_byte, are_name_bytes, is_number, number, is_printable, is_empty, are_digits}
use Rattle.mk_spelling.specs.Fields.{◌>>=◌, ◌>>◌, need, found, place}
use Rattle.mk_spelling.proofs.Cuts.{Lacks, Lacks-from_test}
use Rattle.mk_spelling.proofs.FieldLaws.{ok_is}
use Rattle.mk_spelling.proofs.Joins.{words_joined}
use Rattle.mk_spelling.proofs.Numbers.{number-again, decimal_digits, all_from_number}
use Rattle.mk_quorum.specs.Sizes.{members}
use Rattle.mk_txn.specs.declared.TxnId.{TxnId}
use Rattle.mk_txn.specs.declared.Stamp.{Stamp}
use Rattle.mk_txn.specs.declared.Value.{Value}
use Rattle.mk_txn.specs.declared.Value.TheVariants.{Number, Absent}
use Rattle.mk_txn.specs.declared.WriteItem.{WriteItem}
use Rattle.mk_txn.specs.declared.Reason.{Reason}
use Rattle.mk_txn.specs.declared.Reason.TheVariants as reasons
use Rattle.mk_words.specs.declared.Act.{Act}
use Rattle.mk_words.specs.declared.Act.TheVariants as acts
use Rattle.mk_words.specs.declared.Answer.{Answer}
use Rattle.mk_words.specs.declared.Answer.TheVariants as answers
use Rattle.mk_words.specs.declared.KeyCall.{KeyCall}
use Rattle.mk_words.specs.declared.JournalEntry.{JournalEntry}
use Rattle.mk_words.specs.declared.GlobalLine.{GlobalLine}
use Rattle.mk_words.specs.declared.GlobalLine.TheVariants as globals
use Rattle.mk_words.specs.declared.GlobalAnswer.{GlobalAnswer}
use Rattle.mk_words.specs.declared.GlobalAnswer.TheVariants as said
use Rattle.mk_words.specs.declared.Step.{Step}
use Rattle.mk_words.specs.declared.Step.TheVariants as steps
use Rattle.mk_words.specs.Lines.{is_epoch, line_fits, can_answer}
use Rattle.mk_history.specs.declared.RoundLog.{RoundLog}
use Rattle.mk_history.specs.Histories.{History}
use Rattle.mk_history.specs.Shape.{stamp_fits, value_fits, act_in_range, answer_in_range, turn_fits, client_fits, id_fits, key_fits, replica_fits, view_fits, write_fits, step_fits, entry_fits, global_fits}
use Rattle.mk_kept.specs.declared.head.Head.{Head}
use Rattle.mk_kept.specs.Heads.{history}
use Rattle.mk_trace_lines.specs.declared.words.Replier.{Replier}
use Rattle.mk_trace_lines.specs.declared.words.Replier.TheVariants as repliers
use Rattle.mk_trace_lines.specs.LineWords.{reason_text}
use Rattle.mk_trace_lines.specs.TraceLines.{TraceLine, client_name, key_name, attempt_text, stamp_text, value_text, write_text, act_words, answer_words, turn_words, step_words, reply_words, change_words, line_words, spelling}
use Rattle.mk_trace_lines.specs.TraceLines.TraceLine.{Opens, Sizes, Declares, Names, Begins, Heads, Logged, Marks, Kept, Changes, Changed, Ends}
use Rattle.mk_trace_text.specs.declared.section.Section.{Section}
use Rattle.mk_trace_text.specs.declared.section.Section.TheVariants as sections
use Rattle.mk_trace_text.specs.Begun.{begun_of, beginner, seq_of}
use Rattle.mk_trace_text.specs.States.{State}
use Rattle.mk_trace_text.specs.Grammar as spec
use Rattle.mk_trace_text.specs.Grammar.{at_start, at_size, in_clients, in_keys, before_column, before_cell, at_end, before_round, in_log, in_journal, in_changes, is_text_of, is_up_to, named_place, key_up_to, next_seq, column_ascends, cell_up_to, cell_ascends, version_named, attempt_of, key_of, replica_of, alone_of, viewed_of, changed, epoch_of, member_of, begins_with_digit, by_words, line_of}
use Rattle.mk_trace.proofs.FitLaws.{Between, ltb-from}
use Rattle.mk_trace.proofs.FieldsAgain.{leb-low, ltb-low, eqb-from, digits_again, text_of_again, below_again, stamp_low, AreNames, key_there, client_there, key_again, attempt_again, attempt_cut, replica_again}
use Rattle.mk_trace.proofs.TurnsAgain.{turn_parts, turn_again, promise_again, merge_again, adopt_again, enter_again, ReplyAgain, writes_again}
use Rattle.mk_trace.proofs.PlainWords.{IsPlain, by_line, line_of_words, plain_decimal, plain_name, plain_pair, plain_turn, plain_value, printed_join}
use Rattle.mk_trace.proofs.Suited.{IsSound, Suits, done_again, is_read, need_again}
use Rattle.mk_trace.proofs.HeadingsAgain.{begins_again, declares_again, heads_again, marks_again, names_again, opens_again, replica_low, sizes_again}
use Rattle.mk_trace.proofs.StepsAgain.{client_range, id_range, kept_again, step_again}
use Rattle.mk_trace.proofs.ChangesAgain.{change_again}

-- ---- any line

pub digit_first : (w : List ℕ) → is_number w ≡ true → begins_with_digit w ≡ true
digit_first [] e = absurd cc
digit_first (b ∷ bs) e = (and_parts (leb 48 b && leb b 57) (are_digits bs) (all_from_number (b ∷ bs) e)).0

pub by_digit : (s : State) (first : List ℕ) (ws : List (List ℕ)) → begins_with_digit first ≡ true → by_words s first ws ≡ spec.entry_line s first ws
by_digit s first ws e = rw e refl

pub words_again : (s : State) (all : List RoundLog) (line : TraceLine) → IsSound s.head → Suits all s line
    → by_line s (line_words s.head.client_names.names s.head.key_names.names line) ≡ Ok line
words_again s all (Opens v) sound h = opens_again s v h.0 h.1
words_again s all (Sizes f) sound h = sizes_again s f h.0 h.1
words_again s all (Declares name c) sound h = declares_again s name c h.0 h.1 h.2 h.3 h.4
words_again s all (Names name) sound h = names_again s name h.0 h.1 h.2 h.3
words_again s all (Begins n) sound h = begins_again s n h.0 h.1 h.2
words_again s all (Heads c) sound h = heads_again s c sound h.0 h.1 h.2
words_again s all (Logged seq step) sound h = step_again s all seq step sound h
words_again s all (Marks r k) sound h = marks_again s all r k sound h.0 h.1 h.2 h.3
words_again s all (Kept entry) sound h =
    let q = and_parts (ltb entry.seat s.head.columns) (turn_fits (history s.head all) entry.act entry.answer) h.1 in
    let low = ltb-low entry.seat s.head.columns q.0 in
    by_digit s (decimal entry.seat) (turn_words entry.act entry.answer) (digit_first (decimal entry.seat) (digits_again entry.seat (omega (arith, low, sound.few_columns))).0)
    ∙ kept_again s all entry sound h.0 h.1
words_again s all Changes sound h = is_read (need_again (before_cell s.section) _ h done_again)
words_again s all (Changed entry) sound h =
    let q = and_parts (line_fits (members s.head.size) entry.line) (can_answer entry.line entry.answer) h.2 in
    change_again s all entry.line entry.answer sound h.0 h.1 q.0 q.1
words_again s all Ends sound h = is_read (need_again (at_end s.section) _ h done_again)

pub plain_id : (s : State) (all : List RoundLog) (id : TxnId) → IsSound s.head → id_fits (history s.head all) id ≡ true
    → IsPlain (attempt_text s.head.client_names.names id.client id.seq)
plain_id s all id sound fits =
    let q = id_range (history s.head all) id fits in
    plain_pair (client_name s.head.client_names.names id.client) (decimal id.seq) 46 refl
    (plain_name (client_name s.head.client_names.names id.client) (client_there s.head.client_names.names sound.clients id.client q.0 q.1).0)
    (plain_decimal id.seq (omega (arith, q.3)))

pub plain_key : (s : State) (k : ℕ) → IsSound s.head → k < length s.head.key_names.names → IsPlain (key_name s.head.key_names.names k)
plain_key s k sound low = plain_name (key_name s.head.key_names.names k) (key_there s.head.key_names.names sound.keys k low).0

pub plain_replica : (s : State) (all : List RoundLog) (r : ℕ) → IsSound s.head → replica_fits (history s.head all) r ≡ true → IsPlain (decimal r)
plain_replica s all r sound fits = (let low = replica_low (history s.head all) r sound.small fits in plain_decimal r (omega (arith, low)))

pub plain_writes : (s : State) (all : List RoundLog) (writes : List WriteItem) → IsSound s.head → list_all (write_fits (history s.head all)) writes ≡ true
    → AllByRecursion IsPlain (map (write_text s.head.key_names.names) writes)
plain_writes s all [] sound fits = tt
plain_writes s all (item ∷ writes) sound fits =
    let run = history s.head all in
    let p = and_parts (write_fits run item) (list_all (write_fits run) writes) fits in
    let q = and_parts (key_fits run item.key) (value_fits run item.value) p.0 in (
      plain_pair (key_name s.head.key_names.names item.key) (value_text item.value) 61 refl (plain_key s item.key sound (ltb-low item.key (length s.head.key_names.names) q.0)) (plain_value run item.value q.1),
      plain_writes s all writes sound p.1,
    )

pub plain_next : (s : State) (all : List RoundLog) (c seq : ℕ) → IsSound s.head → client_fits (history s.head all) c ≡ true → seq ≤ 16384
    → IsPlain (attempt_text s.head.client_names.names c seq)
plain_next s all c seq sound client few =
    let q = client_range (history s.head all) c client in
    plain_pair (client_name s.head.client_names.names c) (decimal seq) 46 refl
    (plain_name (client_name s.head.client_names.names c) (client_there s.head.client_names.names sound.clients c q.0 q.1).0)
    (plain_decimal seq (omega (arith, few)))

pub plain_view : (view : ℕ) → view_fits view ≡ true → IsPlain (decimal view)
plain_view view e = (let low = leb-low view 15 (and_parts (leb 1 view) (leb view 15) e).1 in plain_decimal view (omega (arith, low)))

pub plain_step : (s : State) (all : List RoundLog) (seq : ℕ) (step : Step) → IsSound s.head → Suits all s (Logged seq step)
    → AllByRecursion IsPlain (step_words s.head.client_names.names s.head.key_names.names seq step)
plain_step s all seq (steps.Begin c r) sound h =
    let q = and_parts (client_fits (history s.head all) c) (replica_fits (history s.head all) r) h.1 in
    let few = h.3 c refl in
    ((refl, refl), (plain_next s all c seq sound q.0 (omega (arith, h.2, few)), (plain_replica s all r sound q.1, tt)))
plain_step s all seq (steps.Unread c) sound h =
    let few = h.3 c refl in
    ((refl, refl), (plain_next s all c seq sound h.1 (omega (arith, h.2, few)), tt))
plain_step s all seq (steps.Read id k) sound h =
    let q = and_parts (id_fits (history s.head all) id) (key_fits (history s.head all) k) h.1 in
    ((refl, refl), (plain_id s all id sound q.0, (plain_key s k sound (ltb-low k (length s.head.key_names.names) q.1), tt)))
plain_step s all seq (steps.Stamp id clock writes) sound h =
    let run = history s.head all in
    let p = and_parts (id_fits run id && leb clock (2 ^ 61)) (list_all (write_fits run) writes) h.1 in
    let q = and_parts (id_fits run id) (leb clock (2 ^ 61)) p.0 in
    let low = leb-low clock (2 ^ 61) q.1 in
    ((refl, refl), (plain_id s all id sound q.0, (plain_decimal clock (omega (arith, low)), plain_writes s all writes sound p.1)))
plain_step s all seq (steps.Validate id) sound h = ((refl, refl), (plain_id s all id sound h.1, tt))
plain_step s all seq (steps.Take n) sound h =
    let q = and_parts (leb 1 n) (ltb n (2 ^ 64)) h.1 in
    ((refl, refl), (plain_decimal n (ltb-low n (2 ^ 64) q.1), tt))
plain_step s all seq (steps.Key call answer) sound h =
    let run = history s.head all in
    let p = and_parts (replica_fits run call.replica && key_fits run call.key) (turn_fits run call.act answer) h.1 in
    let q = and_parts (replica_fits run call.replica) (key_fits run call.key) p.0 in
    ((refl, refl), (plain_replica s all call.replica sound q.0, (plain_key s call.key sound (ltb-low call.key (length s.head.key_names.names) q.1), plain_turn run call.act answer p.1)))
plain_step s all seq (steps.Rule id) sound h = ((refl, refl), (plain_id s all id sound h.1, tt))
plain_step s all seq (steps.Again id) sound h = ((refl, refl), (plain_id s all id sound h.1, tt))
plain_step s all seq (steps.Takeover id view) sound h =
    let q = and_parts (id_fits (history s.head all) id) (view_fits view) h.1 in
    ((refl, refl), (plain_id s all id sound q.0, (plain_view view q.1, tt)))
plain_step s all seq (steps.Pick id view) sound h =
    let q = and_parts (id_fits (history s.head all) id) (view_fits view) h.1 in
    ((refl, refl), (plain_id s all id sound q.0, (plain_view view q.1, tt)))
plain_step s all seq (steps.Stop id) sound h = ((refl, refl), (plain_id s all id sound h.1, tt))

pub plain_epoch : (n : ℕ) → is_epoch n ≡ true → IsPlain (decimal n)
plain_epoch n e = (let low = leb-low n 1000 (and_parts (leb 1 n) (leb n 1000) e).1 in plain_decimal n (omega (arith, low)))

-- the numbers of an answer that some line can have
pub plain_reply : (line : GlobalLine) (a : GlobalAnswer) → can_answer line a ≡ true → AllByRecursion IsPlain (reply_words a)
plain_reply line said.Ok e = ((refl, refl), tt)
plain_reply (globals.Merge epoch) (said.Counts n m) e =
    let q = and_parts (ltb n (2 ^ 64)) (ltb m (2 ^ 64)) e in
    ((refl, refl), (plain_decimal n (ltb-low n (2 ^ 64) q.0), (plain_decimal m (ltb-low m (2 ^ 64) q.1), tt)))
plain_reply (globals.Wipe r) (said.Counts n m) e = absurd cc
plain_reply (globals.Ask epoch) (said.Counts n m) e = absurd cc
plain_reply (globals.Promise epoch r) (said.Counts n m) e = absurd cc
plain_reply (globals.Adopt epoch r) (said.Counts n m) e = absurd cc
plain_reply (globals.Enter epoch) (said.Counts n m) e = absurd cc
plain_reply (globals.Enter epoch) (said.Entered k) e = (let low = leb-low k 7 e in ((refl, refl), (plain_decimal k (omega (arith, low)), tt)))
plain_reply (globals.Wipe r) (said.Entered k) e = absurd cc
plain_reply (globals.Ask epoch) (said.Entered k) e = absurd cc
plain_reply (globals.Promise epoch r) (said.Entered k) e = absurd cc
plain_reply (globals.Merge epoch) (said.Entered k) e = absurd cc
plain_reply (globals.Adopt epoch r) (said.Entered k) e = absurd cc
plain_reply line said.Unasked e = ((refl, refl), tt)
plain_reply line said.Unmade e = ((refl, refl), tt)
plain_reply line said.Lacking e = ((refl, refl), tt)
plain_reply (globals.Promise epoch r) (said.Old word) e = (let low = leb-low word 1000 e in ((refl, refl), (plain_decimal word (omega (arith, low)), tt)))
plain_reply (globals.Merge epoch) (said.Old word) e = (let low = leb-low word 1000 e in ((refl, refl), (plain_decimal word (omega (arith, low)), tt)))
plain_reply (globals.Adopt epoch r) (said.Old word) e = (let low = leb-low word 1000 e in ((refl, refl), (plain_decimal word (omega (arith, low)), tt)))
plain_reply (globals.Wipe r) (said.Old word) e = absurd cc
plain_reply (globals.Ask epoch) (said.Old word) e = absurd cc
plain_reply (globals.Enter epoch) (said.Old word) e = absurd cc
plain_reply line said.WordFault e = ((refl, refl), tt)
plain_reply (globals.Merge epoch) (said.Short k) e = (let low = leb-low k 7 e in ((refl, refl), (plain_decimal k (omega (arith, low)), tt)))
plain_reply (globals.Enter epoch) (said.Short k) e = (let low = leb-low k 7 e in ((refl, refl), (plain_decimal k (omega (arith, low)), tt)))
plain_reply (globals.Wipe r) (said.Short k) e = absurd cc
plain_reply (globals.Ask epoch) (said.Short k) e = absurd cc
plain_reply (globals.Promise epoch r) (said.Short k) e = absurd cc
plain_reply (globals.Adopt epoch r) (said.Short k) e = absurd cc

pub plain_change : (s : State) (all : List RoundLog) (line : GlobalLine) (a : GlobalAnswer) → IsSound s.head → line_fits (members s.head.size) line ≡ true
    → can_answer line a ≡ true → AllByRecursion IsPlain (change_words (record { line = line; answer = a }))
plain_change s all (globals.Wipe r) a sound fits can = ((refl, refl), (plain_replica s all r sound fits, tt))
plain_change s all (globals.Ask epoch) a sound fits can = ((refl, refl), (plain_epoch epoch fits, tt))
plain_change s all (globals.Promise epoch r) a sound fits can =
    let q = and_parts (is_epoch epoch) (ltb r (members s.head.size)) fits in
    ((refl, refl), (plain_epoch epoch q.0, (plain_replica s all r sound q.1, plain_reply (globals.Promise epoch r) a can)))
plain_change s all (globals.Merge epoch) a sound fits can = ((refl, refl), (plain_epoch epoch fits, plain_reply (globals.Merge epoch) a can))
plain_change s all (globals.Adopt epoch r) a sound fits can =
    let q = and_parts (is_epoch epoch) (ltb r (members s.head.size)) fits in
    ((refl, refl), (plain_epoch epoch q.0, (plain_replica s all r sound q.1, plain_reply (globals.Adopt epoch r) a can)))
plain_change s all (globals.Enter epoch) a sound fits can = ((refl, refl), (plain_epoch epoch fits, plain_reply (globals.Enter epoch) a can))

pub version_low : (v : ℕ) → (v ≡ 1) ⊎ (v ≡ 2) → v < 2 ^ 64
version_low v (inl e) = omega (arith, e)
version_low v (inr e) = omega (arith, e)

pub plain_line : (s : State) (all : List RoundLog) (line : TraceLine) → IsSound s.head → Suits all s line
    → AllByRecursion IsPlain (line_words s.head.client_names.names s.head.key_names.names line)
plain_line s all (Opens v) sound h = ((refl, refl), (plain_decimal v (version_low v h.1), tt))
plain_line s all (Sizes f) sound h = ((refl, refl), (plain_decimal f (omega (arith, h.1.1)), tt))
plain_line s all (Declares name c) sound h = ((refl, refl), (plain_name name h.1, (plain_decimal c (omega (arith, h.2)), tt)))
plain_line s all (Names name) sound h = ((refl, refl), (plain_name name h.1, tt))
plain_line s all (Begins n) sound h = ((refl, refl), (plain_decimal n (omega (arith, h.1, h.2)), tt))
plain_line s all (Heads c) sound h = ((refl, refl), (plain_decimal c (omega (arith, h.1, sound.few_columns)), tt))
plain_line s all (Logged seq step) sound h = plain_step s all seq step sound h
plain_line s all (Marks r k) sound h = ((refl, refl), (plain_replica s all r sound h.1, (plain_key s k sound h.2, tt)))
plain_line s all (Kept entry) sound h =
    let q = and_parts (ltb entry.seat s.head.columns) (turn_fits (history s.head all) entry.act entry.answer) h.1 in
    let low = ltb-low entry.seat s.head.columns q.0 in
    (plain_decimal entry.seat (omega (arith, low, sound.few_columns)), plain_turn (history s.head all) entry.act entry.answer q.1)
plain_line s all Changes sound h = ((refl, refl), tt)
plain_line s all (Changed entry) sound h =
    let q = and_parts (line_fits (members s.head.size) entry.line) (can_answer entry.line entry.answer) h.2 in
    plain_change s all entry.line entry.answer sound q.0 q.1
plain_line s all Ends sound h = ((refl, refl), tt)

-- a line by its words, whatever they are
pub spelled : (s : State) (ws : List (List ℕ)) (line : TraceLine) → AllByRecursion IsPlain ws → by_line s ws ≡ Ok line → line_of s (join_with_byte 32 ws) ≡ Ok line
spelled s [] line h e = absurd cc
spelled s (w ∷ ws) line h e = line_of_words s w ws h ∙ e

-- a line that may come next is read as it is written
pub line_again : (s : State) (all : List RoundLog) (line : TraceLine) → IsSound s.head → Suits all s line
    → line_of s (spelling s.head.client_names.names s.head.key_names.names line) ≡ Ok line
line_again s all line sound h =
    spelled s (line_words s.head.client_names.names s.head.key_names.names line) line (plain_line s all line sound h) (words_again s all line sound h)

-- and holds no line feed
pub line_lacks : (s : State) (all : List RoundLog) (line : TraceLine) → IsSound s.head → Suits all s line
    → Lacks 10 (spelling s.head.client_names.names s.head.key_names.names line)
line_lacks s all line sound h =
    Lacks-from_test (λ b. leb 32 b && leb b 126) (spelling s.head.client_names.names s.head.key_names.names line) 10
    (printed_join (line_words s.head.client_names.names s.head.key_names.names line) (plain_line s all line sound h)) refl
