-- The lines of logs and journals are read again as they are written.
use Rattle.std.proofs.Common.{◌≡◌, ◌⊎◌, ℕ, ◌+◌, ◌-◌, ◌^◌, ◌≤◌, ◌<◌, Bool, true, false, eqb, leb, ltb, not, ◌&&◌, List, [], ◌∷◌, ◌++◌, length, map, Option, Some, None, Result, Ok, Err, refl, sym, ap, subst, ◌∙◌, arith, inl, inr}
use Rattle.std.specs.Fmt.{decimal}
use Rattle.std.specs.Prelude.{is_some}
use Rattle.std.specs.List.{list_all, list_any, join_with_byte, AllByRecursion}
use Rattle.std.proofs.lemmas.Bool.{and_from, and_parts}
use Rattle.std.proofs.lemmas.Bool.Decides.{nat_tests}
use Rattle.std.proofs.lemmas.Fmt.{decimal_digit}
use Rattle.std.proofs.lemmas.List.Folds.{list_all-append}
use Rattle.mk_spelling.specs.declared.fault.TextFault.{TextFault}
use Rattle.mk_spelling.specs.declared.fault.TextFault.TheVariants as faults
use Rattle.mk_spelling.specs.Words.{cut, is_name, is_letter, is_name_byte, are_name_bytes, is_number, number, is_printable, is_empty, are_digits}
use Rattle.mk_spelling.specs.Fields.{◌>>=◌, ◌>>◌, need, found, place}
use Rattle.mk_spelling.proofs.Cuts.{Lacks, Lacks-from_test}
use Rattle.mk_spelling.proofs.FieldLaws.{ok_is}
use Rattle.mk_spelling.proofs.Joins.{words_joined}
use Rattle.mk_spelling.proofs.Numbers.{number-again, decimal_digits, all_from_number}
use Rattle.mk_quorum.specs.Sizes.{members}
use Rattle.mk_txn.specs.declared.TxnId.{TxnId}
use Rattle.mk_txn.specs.declared.Stamp.{Stamp}
use Rattle.mk_txn.specs.declared.Value.{Value}
use Rattle.mk_txn.specs.declared.Value.TheVariants.{Number, Absent}
use Rattle.mk_txn.specs.declared.WriteItem.{WriteItem}
use Rattle.mk_txn.specs.declared.Reason.{Reason}
use Rattle.mk_txn.specs.declared.Reason.TheVariants as reasons
use Rattle.mk_words.specs.declared.Act.{Act}
use Rattle.mk_words.specs.declared.Act.TheVariants as acts
use Rattle.mk_words.specs.declared.Answer.{Answer}
use Rattle.mk_words.specs.declared.Answer.TheVariants as answers
use Rattle.mk_words.specs.declared.KeyCall.{KeyCall}
use Rattle.mk_words.specs.declared.JournalEntry.{JournalEntry}
use Rattle.mk_words.specs.declared.GlobalLine.{GlobalLine}
use Rattle.mk_words.specs.declared.GlobalLine.TheVariants as globals
use Rattle.mk_words.specs.declared.GlobalAnswer.{GlobalAnswer}
use Rattle.mk_words.specs.declared.GlobalAnswer.TheVariants as said
use Rattle.mk_words.specs.declared.Step.{Step}
use Rattle.mk_words.specs.declared.Step.TheVariants as steps
use Rattle.mk_words.specs.Lines.{is_epoch, line_fits, can_answer}
use Rattle.mk_history.specs.declared.RoundLog.{RoundLog}
use Rattle.mk_history.specs.Histories.{History}
use Rattle.mk_history.specs.Shape.{stamp_fits, value_fits, act_in_range, answer_in_range, turn_fits, client_fits, id_fits, key_fits, replica_fits, view_fits, write_fits, step_fits, entry_fits, global_fits}
use Rattle.mk_kept.specs.declared.head.Head.{Head}
use Rattle.mk_kept.specs.Heads.{history}
use Rattle.mk_trace_lines.specs.declared.words.Replier.{Replier}
use Rattle.mk_trace_lines.specs.declared.words.Replier.TheVariants as repliers
use Rattle.mk_trace_lines.specs.LineWords.{reason_text}
use Rattle.mk_trace_lines.specs.TraceLines.{TraceLine, client_name, key_name, attempt_text, stamp_text, value_text, write_text, act_words, answer_words, turn_words, step_words, reply_words, change_words, line_words, spelling}
use Rattle.mk_trace_lines.specs.TraceLines.TraceLine.{Opens, Sizes, Declares, Names, Begins, Heads, Logged, Marks, Kept, Changes, Changed, Ends}
use Rattle.mk_trace_text.specs.declared.section.Section.{Section}
use Rattle.mk_trace_text.specs.declared.section.Section.TheVariants as sections
use Rattle.mk_trace_text.specs.Begun.{begun_of, beginner, seq_of}
use Rattle.mk_trace_text.specs.States.{State}
use Rattle.mk_trace_text.specs.Grammar as spec
use Rattle.mk_trace_text.specs.Grammar.{at_start, at_size, in_clients, in_keys, before_column, before_cell, at_end, before_round, in_log, in_journal, in_changes, is_text_of, is_up_to, named_place, key_up_to, next_seq, column_ascends, cell_up_to, cell_ascends, version_named, attempt_of, key_of, replica_of, alone_of, viewed_of, changed, epoch_of, member_of, begins_with_digit, by_words, line_of}
use Rattle.mk_trace.proofs.FitLaws.{Between, ltb-from}
use Rattle.mk_trace.proofs.FieldsAgain.{leb-low, ltb-low, eqb-from, digits_again, text_of_again, below_again, stamp_low, AreNames, key_there, client_there, key_again, attempt_again, attempt_cut, replica_again}
use Rattle.mk_trace.proofs.TurnsAgain.{turn_parts, turn_again, promise_again, merge_again, adopt_again, enter_again, ReplyAgain, writes_again}
use Rattle.mk_trace.proofs.PlainWords.{by_line}
use Rattle.mk_trace.proofs.Suited.{IsSound, Suits, bind_again, done_again, found_again, is_read, need_again, says}

-- ---- steps

pub client_range : (run : History) (c : ℕ) → client_fits run c ≡ true → (1 ≤ c) × (c ≤ length run.client_names)
client_range run c e =
    let q = and_parts (leb 1 c) (leb c (length run.client_names)) e in
    (leb-low 1 c q.0, leb-low c (length run.client_names) q.1)

pub id_range : (run : History) (id : TxnId) → id_fits run id ≡ true → (1 ≤ id.client) × (id.client ≤ length run.client_names) × (1 ≤ id.seq) × (id.seq ≤ 16384)
id_range run id e =
    let p = and_parts (client_fits run id.client && leb 1 id.seq) (leb id.seq 16384) e in
    let q = and_parts (client_fits run id.client) (leb 1 id.seq) p.0 in
    let c = client_range run id.client q.0 in
    (c.0, c.1, leb-low 1 id.seq q.1, leb-low id.seq 16384 p.1)

pub id_again : (s : State) (all : List RoundLog) (id : TxnId) → IsSound s.head → id_fits (history s.head all) id ≡ true
    → attempt_of s (client_name s.head.client_names.names id.client, decimal id.seq) ≡ Ok id
id_again s all id sound fits =
    let q = id_range (history s.head all) id fits in
    attempt_again s sound.clients id q.0 q.1 q.2 q.3

pub text_next : (s : State) (c seq : ℕ) → IsSound s.head → 1 ≤ c → c ≤ length s.head.client_names.names → seq ≡ begun_of s.begun c + 1 → seq ≤ 16384
    → is_text_of (next_seq s (client_name s.head.client_names.names c)) (decimal seq) ≡ true
text_next s c seq sound low high e few =
    let q = client_there s.head.client_names.names sound.clients c low high in
    let next : next_seq s (client_name s.head.client_names.names c) ≡ begun_of s.begun c + 1 = rw (q.0, q.1) refl in
    ap (λ (n : ℕ). is_text_of n (decimal seq)) (next ∙ sym e) ∙ text_of_again seq (omega (arith, few))

pub begin_again : (s : State) (all : List RoundLog) (seq c r : ℕ) → IsSound s.head → in_log s.section ≡ true → client_fits (history s.head all) c ≡ true
    → replica_fits (history s.head all) r ≡ true → seq ≡ begun_of s.begun c + 1 → begun_of s.begun c + 1 ≤ 16384
    → spec.begin_line s (attempt_text s.head.client_names.names c seq ∷ decimal r ∷ []) ≡ Ok (Logged seq (steps.Begin c r))
begin_again s all seq c r sound at client fits e few =
    let q = client_range (history s.head all) c client in
    let low : seq ≤ 16384 = omega (arith, e, few) in
    let first : 1 ≤ seq = omega (arith, e) in
    is_read (bind_again _ (found_again faults.Form (attempt_cut s.head.client_names.names sound.clients c seq q.0 q.1))
    (need_again (in_log s.section) _ at
    (need_again (is_text_of (next_seq s (client_name s.head.client_names.names c)) (decimal seq)) _ (text_next s c seq sound q.0 q.1 e low)
    (bind_again _ (attempt_again s sound.clients (record { client = c; seq = seq }) q.0 q.1 first low)
    (bind_again _ (replica_again s (history s.head all) r refl sound.small fits) done_again)))))

pub unread_again : (s : State) (all : List RoundLog) (seq c : ℕ) → IsSound s.head → in_log s.section ≡ true → client_fits (history s.head all) c ≡ true
    → seq ≡ begun_of s.begun c + 1 → begun_of s.begun c + 1 ≤ 16384
    → spec.unread_line s (attempt_text s.head.client_names.names c seq ∷ []) ≡ Ok (Logged seq (steps.Unread c))
unread_again s all seq c sound at client e few =
    let q = client_range (history s.head all) c client in
    let low : seq ≤ 16384 = omega (arith, e, few) in
    let first : 1 ≤ seq = omega (arith, e) in
    is_read (bind_again _ (found_again faults.Form (attempt_cut s.head.client_names.names sound.clients c seq q.0 q.1))
    (need_again (in_log s.section) _ at
    (need_again (is_text_of (next_seq s (client_name s.head.client_names.names c)) (decimal seq)) _ (text_next s c seq sound q.0 q.1 e low)
    (bind_again _ (attempt_again s sound.clients (record { client = c; seq = seq }) q.0 q.1 first low) done_again))))

pub id_cut : (s : State) (all : List RoundLog) (id : TxnId) → IsSound s.head → id_fits (history s.head all) id ≡ true
    → found faults.Form (cut 46 (attempt_text s.head.client_names.names id.client id.seq)) ≡ Ok (client_name s.head.client_names.names id.client, decimal id.seq)
id_cut s all id sound fits =
    let q = id_range (history s.head all) id fits in
    found_again faults.Form (attempt_cut s.head.client_names.names sound.clients id.client id.seq q.0 q.1)

pub read_again : (s : State) (all : List RoundLog) (id : TxnId) (k : ℕ) → IsSound s.head → in_log s.section ≡ true → id_fits (history s.head all) id ≡ true
    → k < length s.head.key_names.names
    → spec.read_line s (attempt_text s.head.client_names.names id.client id.seq ∷ key_name s.head.key_names.names k ∷ []) ≡ Ok (Logged 0 (steps.Read id k))
read_again s all id k sound at fits low =
    is_read (bind_again _ (id_cut s all id sound fits) (need_again (in_log s.section) _ at
    (bind_again _ (id_again s all id sound fits) (bind_again _ (key_again s sound.keys k low) done_again))))

pub stamped_again : (s : State) (all : List RoundLog) (id : TxnId) (clock : ℕ) (writes : List WriteItem) → IsSound s.head → in_log s.section ≡ true
    → id_fits (history s.head all) id ≡ true → clock ≤ 2 ^ 61 → list_all (write_fits (history s.head all)) writes ≡ true
    → spec.stamp_line s (attempt_text s.head.client_names.names id.client id.seq ∷ decimal clock ∷ map (write_text s.head.key_names.names) writes)
    ≡ Ok (Logged 0 (steps.Stamp id clock writes))
stamped_again s all id clock writes sound at fits low ok =
    let w = writes_again s all writes sound.keys ok in
    is_read (bind_again _ (id_cut s all id sound fits)
    (need_again (spec.are_writes (map (write_text s.head.key_names.names) writes)) _ w.0
    (need_again (in_log s.section) _ at
    (bind_again _ (id_again s all id sound fits)
    (bind_again _ (number-again 0 (2 ^ 61) clock (omega arith) (omega arith) low) (bind_again _ w.1 done_again))))))

pub alone_again : (s : State) (all : List RoundLog) (id : TxnId) → IsSound s.head → in_log s.section ≡ true → id_fits (history s.head all) id ≡ true
    → alone_of s (attempt_text s.head.client_names.names id.client id.seq ∷ []) ≡ Ok id
alone_again s all id sound at fits =
    is_read (bind_again _ (id_cut s all id sound fits) (need_again (in_log s.section) _ at (says (id_again s all id sound fits))))

pub viewed_again : (s : State) (all : List RoundLog) (id : TxnId) (view : ℕ) → IsSound s.head → in_log s.section ≡ true → id_fits (history s.head all) id ≡ true
    → view_fits view ≡ true → viewed_of s (attempt_text s.head.client_names.names id.client id.seq ∷ decimal view ∷ []) ≡ Ok (id, view)
viewed_again s all id view sound at fits ok =
    let q = and_parts (leb 1 view) (leb view 15) ok in
    is_read (bind_again _ (id_cut s all id sound fits) (need_again (in_log s.section) _ at
    (bind_again _ (id_again s all id sound fits) (bind_again _ (number-again 1 15 view (omega arith) (leb-low 1 view q.0) (leb-low view 15 q.1)) done_again))))

pub take_again : (s : State) (n : ℕ) → in_log s.section ≡ true → 1 ≤ n → n < 2 ^ 64 → spec.take_line s (decimal n ∷ []) ≡ Ok (Logged 0 (steps.Take n))
take_again s n at low high =
    is_read (need_again (in_log s.section) _ at (bind_again _ (number-again 1 (2 ^ 64 - 1) n (omega arith) low (omega (arith, high))) done_again))

pub turned_again : (s : State) (all : List RoundLog) (call : KeyCall) (answer : Answer) → IsSound s.head → in_log s.section ≡ true
    → replica_fits (history s.head all) call.replica ≡ true → call.key < length s.head.key_names.names → turn_fits (history s.head all) call.act answer ≡ true
    → spec.turn_line s (decimal call.replica) (key_name s.head.key_names.names call.key ∷ turn_words call.act answer) ≡ Ok (Logged 0 (steps.Key call answer))
turned_again s all call answer sound at fits low ok =
    let t = turn_again (history s.head all) call.act answer ok in
    is_read (bind_again _ t.form (need_again (in_log s.section) _ at
    (bind_again _ (replica_again s (history s.head all) call.replica refl sound.small fits)
    (bind_again _ (key_again s sound.keys call.key low) (bind_again _ t.turn done_again)))))

pub kept_again : (s : State) (all : List RoundLog) (entry : JournalEntry) → IsSound s.head → in_journal s.section ≡ true → entry_fits (history s.head all) entry ≡ true
    → spec.entry_line s (decimal entry.seat) (turn_words entry.act entry.answer) ≡ Ok (Kept entry)
kept_again s all entry sound at fits =
    let q = and_parts (ltb entry.seat s.head.columns) (turn_fits (history s.head all) entry.act entry.answer) fits in
    let t = turn_again (history s.head all) entry.act entry.answer q.1 in
    let low = ltb-low entry.seat s.head.columns q.0 in
    is_read (bind_again _ t.form (need_again (in_journal s.section) _ at
    (bind_again _ (below_again s.head.columns entry.seat (omega (arith, low, sound.few_columns)) q.0) (bind_again _ t.turn done_again))))

abbrev pub ok_line : TraceLine → Result TraceLine TextFault
ok_line line = Ok line

-- a step that begins no attempt has no seq of its own
pub at_zero : (seq : ℕ) (step : Step) → seq ≡ 0 → ok_line (Logged 0 step) ≡ Ok (Logged seq step)
at_zero seq step e = ap (λ (n : ℕ). ok_line (Logged n step)) (sym e)

pub step_again : (s : State) (all : List RoundLog) (seq : ℕ) (step : Step) → IsSound s.head → Suits all s (Logged seq step)
    → by_line s (step_words s.head.client_names.names s.head.key_names.names seq step) ≡ Ok (Logged seq step)
step_again s all seq (steps.Begin c r) sound h =
    let q = and_parts (client_fits (history s.head all) c) (replica_fits (history s.head all) r) h.1 in
    begin_again s all seq c r sound h.0 q.0 q.1 h.2 (h.3 c refl)
step_again s all seq (steps.Unread c) sound h = unread_again s all seq c sound h.0 h.1 h.2 (h.3 c refl)
step_again s all seq (steps.Read id k) sound h =
    let q = and_parts (id_fits (history s.head all) id) (key_fits (history s.head all) k) h.1 in
    read_again s all id k sound h.0 q.0 (ltb-low k (length s.head.key_names.names) q.1) ∙ at_zero seq (steps.Read id k) h.2
step_again s all seq (steps.Stamp id clock writes) sound h =
    let run = history s.head all in
    let p = and_parts (id_fits run id && leb clock (2 ^ 61)) (list_all (write_fits run) writes) h.1 in
    let q = and_parts (id_fits run id) (leb clock (2 ^ 61)) p.0 in
    stamped_again s all id clock writes sound h.0 q.0 (leb-low clock (2 ^ 61) q.1) p.1 ∙ at_zero seq (steps.Stamp id clock writes) h.2
step_again s all seq (steps.Validate id) sound h =
    is_read (bind_again _ (alone_again s all id sound h.0 h.1) done_again) ∙ at_zero seq (steps.Validate id) h.2
step_again s all seq (steps.Take n) sound h =
    let q = and_parts (leb 1 n) (ltb n (2 ^ 64)) h.1 in
    take_again s n h.0 (leb-low 1 n q.0) (ltb-low n (2 ^ 64) q.1) ∙ at_zero seq (steps.Take n) h.2
step_again s all seq (steps.Key call answer) sound h =
    let run = history s.head all in
    let p = and_parts (replica_fits run call.replica && key_fits run call.key) (turn_fits run call.act answer) h.1 in
    let q = and_parts (replica_fits run call.replica) (key_fits run call.key) p.0 in
    turned_again s all call answer sound h.0 q.0 (ltb-low call.key (length s.head.key_names.names) q.1) p.1 ∙ at_zero seq (steps.Key call answer) h.2
step_again s all seq (steps.Rule id) sound h =
    is_read (bind_again _ (alone_again s all id sound h.0 h.1) done_again) ∙ at_zero seq (steps.Rule id) h.2
step_again s all seq (steps.Again id) sound h =
    is_read (bind_again _ (alone_again s all id sound h.0 h.1) done_again) ∙ at_zero seq (steps.Again id) h.2
step_again s all seq (steps.Takeover id view) sound h =
    let q = and_parts (id_fits (history s.head all) id) (view_fits view) h.1 in
    is_read (bind_again _ (viewed_again s all id view sound h.0 q.0 q.1) done_again) ∙ at_zero seq (steps.Takeover id view) h.2
step_again s all seq (steps.Pick id view) sound h =
    let q = and_parts (id_fits (history s.head all) id) (view_fits view) h.1 in
    is_read (bind_again _ (viewed_again s all id view sound h.0 q.0 q.1) done_again) ∙ at_zero seq (steps.Pick id view) h.2
step_again s all seq (steps.Stop id) sound h =
    is_read (bind_again _ (alone_again s all id sound h.0 h.1) done_again) ∙ at_zero seq (steps.Stop id) h.2
