-- Each kind of line fits what was read above it.
use Rattle.std.proofs.Common.{◌≡◌, ◌⊎◌, ℕ, suc, ◌+◌, ◌-◌, ◌^◌, ◌≤◌, Bool, true, false, cond, eqb, leb, ltb, not, ◌&&◌, List, [], ◌∷◌, length, get_or, Option, Some, None, Result, Ok, Err, refl, sym, subst, ◌∙◌, arith, inl, inr}
use Rattle.std.specs.Prelude.{is_some}
use Rattle.std.specs.List.{list_all, list_any}
use Rattle.std.specs.Str.{bytes_eq}
use Rattle.std.proofs.lemmas.Bool.{and_from, and_parts, eqb-true}
use Rattle.std.proofs.lemmas.Bool.Decides.{nat_tests}
use Rattle.std.proofs.lemmas.Option.{same_Some}
use Rattle.mk_lists.specs.Among.{Each}
use Rattle.mk_spelling.specs.declared.fault.TextFault.{TextFault}
use Rattle.mk_spelling.specs.declared.fault.TextFault.TheVariants as faults
use Rattle.mk_spelling.specs.Words.{words, cut, is_name, is_number, value, number, is_printable, is_empty, none_left}
use Rattle.mk_spelling.specs.Fields.{◌>>=◌, found, named, place, one_on, one_of, two_of}
use Rattle.mk_quorum.specs.Sizes.{members}
use Rattle.mk_txn.specs.declared.TxnId.{TxnId}
use Rattle.mk_txn.specs.declared.Stamp.{Stamp}
use Rattle.mk_txn.specs.declared.Reason.{Reason}
use Rattle.mk_words.specs.declared.Act.{Act}
use Rattle.mk_words.specs.declared.Act.TheVariants as acts
use Rattle.mk_words.specs.declared.Answer.{Answer}
use Rattle.mk_words.specs.declared.Answer.TheVariants as answers
use Rattle.mk_words.specs.declared.Step.{Step}
use Rattle.mk_words.specs.declared.Step.TheVariants as steps
use Rattle.mk_words.specs.declared.GlobalLine.{GlobalLine}
use Rattle.mk_words.specs.declared.GlobalLine.TheVariants as globals
use Rattle.mk_words.specs.declared.GlobalAnswer.{GlobalAnswer}
use Rattle.mk_words.specs.declared.GlobalAnswer.TheVariants.{Ok as Done}
use Rattle.mk_words.specs.Acts.{answer_fits, refuses_read}
use Rattle.mk_words.specs.Lines.{is_epoch, line_fits, can_answer}
use Rattle.mk_history.specs.declared.RoundLog.{RoundLog}
use Rattle.mk_history.specs.Histories.{History}
use Rattle.mk_history.specs.Shape.{stamp_fits, value_fits, act_in_range, answer_in_range, turn_fits, client_fits, id_fits, key_fits, replica_fits, view_fits, write_fits, step_fits, entry_fits, global_fits}
use Rattle.mk_kept.specs.declared.head.Head.{Head}
use Rattle.mk_kept.specs.Heads.{history}
use Rattle.mk_trace_lines.specs.declared.words.Keyword.{Keyword}
use Rattle.mk_trace_lines.specs.declared.words.Keyword.TheVariants as keywords
use Rattle.mk_trace_lines.specs.declared.words.Replier.{Replier}
use Rattle.mk_trace_lines.specs.declared.words.Replier.TheVariants as repliers
use Rattle.mk_trace_lines.specs.declared.words.ReplyWord.TheVariants as replies
use Rattle.mk_trace_lines.specs.LineWords.{keyword_text, keyword_list, reason_text, check_reasons, reply_text, reply_list}
use Rattle.mk_trace_lines.specs.TraceLines.{TraceLine}
use Rattle.mk_trace_lines.specs.TraceLines.TraceLine.{Opens, Sizes, Declares, Names, Begins, Heads, Logged, Marks, Kept, Changes, Changed, Ends}
use Rattle.mk_trace_lines.specs.ActShapes.{AnswerShape, ActShape, first_of, act_shape, answer_of, turn_of}
use Rattle.mk_trace_lines.specs.ActShapes.AnswerShape.{OkayShape, RefusedShape}
use Rattle.mk_trace_lines.specs.ActShapes.ActShape.{GetShape, CheckReadShape, CheckWriteShape, CommitReadShape, CommitWriteShape, ReleaseReadShape, ReleaseWriteShape}
use Rattle.mk_trace_lines.specs.Replies.{ReplyShape, reply_shape, reply_of, suits, shape_behind}
use Rattle.mk_trace_lines.specs.Replies.ReplyShape.{OneWord, OneNumber, TwoNumbers}
use Rattle.mk_trace_text.specs.Begun.{begun_of, beginner}
use Rattle.mk_trace_text.specs.States.{State}
use Rattle.mk_trace_text.specs.Grammar as spec
use Rattle.mk_trace_text.specs.Grammar.{at_start, at_size, in_clients, in_keys, before_column, before_cell, at_end, before_round, in_log, in_journal, in_changes, is_text_of, below, named_place, client_number, attempt_of, key_of, next_at, next_seq, replica_of, column_ascends, cell_ascends, version_text, versions, version_named, are_writes, writes_of, alone_of, viewed_of, changed, epoch_of, member_of, begins_with_digit, by_keyword, by_words, line_of}
use Rattle.mk_trace.proofs.FitLaws.{Gives, need_law, bind_law, done_law, failed_law, weaker_law, self_law, found_law, Between, number_law, below_law, leb-from, ltb-from, stamp_law, value_law, attempt_law, key_law, replica_law, writes_law}

-- the attempt that a step begins is its client's next one, and one of 16384
abbrev pub BeginsFit : State → Step → Type 0
BeginsFit s step = (client : ℕ) → beginner step ≡ Some client → begun_of s.begun client + 1 ≤ 16384

-- what holds of a line that is read
abbrev pub Fits : State → TraceLine → Type 0
Fits s (Opens v) = (at_start s.section ≡ true) × ((v ≡ 1) ⊎ (v ≡ 2))
Fits s (Sizes f) = (at_size s.section ≡ true) × Between 1 3 f
Fits s (Declares name column) =
    (in_clients s.section ≡ true) × (is_name name ≡ true) × (column ≤ 7) × (ltb (length s.head.client_names.names) 64 ≡ true)
    × (not (is_some (place name s.head.client_names.names)) ≡ true)
Fits s (Names name) =
    (in_keys s.section ≡ true) × (is_name name ≡ true) × (ltb (length s.head.key_names.names) 256 ≡ true)
    × (not (is_some (place name s.head.key_names.names)) ≡ true)
Fits s (Begins n) = (before_round s.section ≡ true) × (ltb s.count 16 ≡ true)
Fits s (Heads column) = before_column s.section ≡ true
Fits s (Logged seq step) =
    (in_log s.section ≡ true) × ((rounds : List RoundLog) → step_fits (history s.head rounds) step ≡ true) × BeginsFit s step
Fits s (Marks replica key) = before_cell s.section ≡ true
Fits s (Kept entry) = (in_journal s.section ≡ true) × ((rounds : List RoundLog) → entry_fits (history s.head rounds) entry ≡ true)
Fits s Changes = before_cell s.section ≡ true
Fits s (Changed entry) =
    (in_changes s.section ≡ true) × (ltb s.changes 256 ≡ true) × ((rounds : List RoundLog) → global_fits (history s.head rounds) entry ≡ true)
Fits s Ends = at_end s.section ≡ true

-- what all named values have, the one that is found has
named_each : {A : Type 0} (P : A → Type 0) (text : A → List ℕ) (xs : List A) (word : List ℕ) (x : A) → Each P xs → named text xs word ≡ Some x → P x
named_each P text [] word x h e = absurd cc
named_each {A} P text (y ∷ ys) word x h e = here (bytes_eq (text y) word) (named_each P text ys word x h.1) e
  where
    here : (t : Bool) → (named text ys word ≡ Some x → P x) → cond t (Some y) (named text ys word) ≡ Some x → P x
    here true ih k = subst P (same_Some y x k) h.0
    here false ih k = ih k

-- ---- the head

version_line_law : (s : State) (ws : List (List ℕ)) → Gives (Fits s) (spec.version_line s ws)
version_line_law s ws =
    bind_law (self_law (found faults.Form (one_of ws))) (λ word is. need_law (at_start s.section) _ (λ at.
    bind_law (found_law faults.Unknown (version_named word)) (λ v e.
    done_law (at, named_each (λ (n : ℕ). (n ≡ 1) ⊎ (n ≡ 2)) version_text versions word v (inl refl, (inr refl, tt)) e))))

size_line_law : (s : State) (ws : List (List ℕ)) → Gives (Fits s) (spec.size_line s ws)
size_line_law s ws =
    bind_law (self_law (found faults.Form (one_of ws))) (λ word is. need_law (at_size s.section) _ (λ at.
    bind_law (number_law 1 3 word) (λ f h. done_law (at, h))))

client_line_law : (s : State) (ws : List (List ℕ)) → Gives (Fits s) (spec.client_line s ws)
client_line_law s ws =
    bind_law (self_law (found faults.Form (two_of ws))) (λ w is. need_law (in_clients s.section) _ (λ at. need_law (is_name w.0) _ (λ well.
    bind_law (number_law 0 7 w.1) (λ c h.
    need_law (ltb (length s.head.client_names.names) 64) _ (λ few. need_law (not (is_some (place w.0 s.head.client_names.names))) _ (λ new.
    done_law (at, well, h.1, few, new)))))))

name_line_law : (s : State) (word : List ℕ) → Gives (Fits s) (spec.name_line s word)
name_line_law s word =
    need_law (in_keys s.section) _ (λ at. need_law (is_name word) _ (λ well.
    need_law (ltb (length s.head.key_names.names) 256) _ (λ few. need_law (not (is_some (place word s.head.key_names.names))) _ (λ new.
    done_law (at, well, few, new)))))

-- ---- headings

round_line_law : (s : State) (ws : List (List ℕ)) → Gives (Fits s) (spec.round_line s ws)
round_line_law s ws =
    bind_law (self_law (found faults.Form (one_of ws))) (λ word is. need_law (before_round s.section) _ (λ at.
    need_law (is_text_of (s.count + 1) word) _ (λ text. need_law (ltb s.count 16) _ (λ few. done_law (at, few)))))

column_line_law : (s : State) (ws : List (List ℕ)) → Gives (Fits s) (spec.column_line s ws)
column_line_law s ws =
    bind_law (self_law (found faults.Form (one_of ws))) (λ word is. need_law (before_column s.section) _ (λ at.
    need_law (column_ascends s s.section word) _ (λ up. bind_law (below_law s.head.columns word) (λ c h. done_law at))))

cell_line_law : (s : State) (ws : List (List ℕ)) → Gives (Fits s) (spec.cell_line s ws)
cell_line_law s ws =
    bind_law (self_law (found faults.Form (two_of ws))) (λ w is. need_law (before_cell s.section) _ (λ at.
    need_law (cell_ascends s s.section w.0 w.1) _ (λ up.
    bind_law (replica_law s w.0) (λ replica h. bind_law (key_law s w.1) (λ key k. done_law at)))))

global_line_law : (s : State) (ws : List (List ℕ)) → Gives (Fits s) (spec.global_line s ws)
global_line_law s ws = need_law (none_left ws) _ (λ none. need_law (before_cell s.section) _ (λ at. done_law at))

end_line_law : (s : State) (ws : List (List ℕ)) → Gives (Fits s) (spec.end_line s ws)
end_line_law s ws = need_law (none_left ws) _ (λ none. need_law (at_end s.section) _ (λ at. done_law at))

-- ---- steps

none_begin : (s : State) (step : Step) → beginner step ≡ None → BeginsFit s step
none_begin s step e client h = absurd (cc (e, h))

begun_law : (s : State) (p : List ℕ × List ℕ) → is_text_of (next_seq s p.0) p.1 ≡ true
    → Gives (λ id. ((rounds : List RoundLog) → id_fits (history s.head rounds) id ≡ true) × (begun_of s.begun id.client + 1 ≤ 16384)) (attempt_of s p)
begun_law s p text = both (attempt_of s p) (attempt_law s p) next
  where
    both : (r : Result TxnId TextFault) → Gives (λ id. (rounds : List RoundLog) → id_fits (history s.head rounds) id ≡ true) r
        → Gives (λ id. begun_of s.begun id.client + 1 ≤ 16384) r
        → Gives (λ id. ((rounds : List RoundLog) → id_fits (history s.head rounds) id ≡ true) × (begun_of s.begun id.client + 1 ≤ 16384)) r
    both (Ok id) a b = done_law (a.is, b.is)
    both (Err e) a b = failed_law

    at : (o : Option ℕ) → (v : ℕ) → v ≤ 16384 → v ≡ next_at s.begun o → (client : ℕ) → one_on o ≡ Some client → begun_of s.begun client + 1 ≤ 16384
    at None v small e client k = absurd cc
    at (Some n) v small e client k =
        let same : suc n ≡ client = same_Some (suc n) client k in
        let back : suc n - 1 ≡ n = omega arith in
        subst (λ (c : ℕ). begun_of s.begun c + 1 ≤ 16384) same
        (subst (λ (k : ℕ). get_or s.begun k 0 + 1 ≤ 16384) (sym back) (subst (λ (x : ℕ). x ≤ 16384) e small))

    value_is : value p.1 ≡ next_seq s p.0
    value_is = eqb-true (value p.1) (next_seq s p.0) (and_parts (is_number p.1) (eqb (value p.1) (next_seq s p.0)) text).1

    place_is : is_name p.0 ≡ true → next_seq s p.0 ≡ next_at s.begun (place p.0 s.head.client_names.names)
    place_is well = rw well refl

    seq_law : Gives (λ n. (n ≡ value p.1) × (n ≤ 16384)) (number 1 16384 p.1)
    seq_law = exact (is_number p.1) (leb 1 (value p.1) && leb (value p.1) 16384) refl
      where
        exact : (a : Bool) (b : Bool) → (leb 1 (value p.1) && leb (value p.1) 16384) ≡ b
            → Gives (λ n. (n ≡ value p.1) × (n ≤ 16384)) (cond a (cond b (Ok (value p.1)) (Err faults.Large)) (Err faults.Number))
        exact true true e = done_law (refl, (let q = and_parts (leb 1 (value p.1)) (leb (value p.1) 16384) e in grind (arith, nat_tests)))
        exact true false e = failed_law
        exact false b e = failed_law

    next : Gives (λ id. begun_of s.begun id.client + 1 ≤ 16384) (attempt_of s p)
    next =
        bind_law seq_law (λ seq q. need_law (is_name p.0) _ (λ well. bind_law (found_law faults.Unknown (client_number s p.0)) (λ client is.
        done_law (at (place p.0 s.head.client_names.names) seq q.1 (q.0 ∙ value_is ∙ place_is well) client is))))

-- the client of an attempt in range
client_of : (s : State) (rounds : List RoundLog) (id : TxnId) → id_fits (history s.head rounds) id ≡ true → client_fits (history s.head rounds) id.client ≡ true
client_of s rounds id h =
    (and_parts (client_fits (history s.head rounds) id.client) (leb 1 id.seq)
    (and_parts (client_fits (history s.head rounds) id.client && leb 1 id.seq) (leb id.seq 16384) h).0).0

begin_line_law : (s : State) (ws : List (List ℕ)) → Gives (Fits s) (spec.begin_line s ws)
begin_line_law s ws =
    bind_law (self_law (found faults.Form (two_of ws))) (λ w is. bind_law (self_law (found faults.Form (cut 46 w.0))) (λ p parts.
    need_law (in_log s.section) _ (λ at. need_law (is_text_of (next_seq s p.0) p.1) _ (λ text.
    bind_law (begun_law s p text) (λ id h. bind_law (replica_law s w.1) (λ replica k.
    done_law (
      at,
      (λ rounds.
          and_from (client_fits (history s.head rounds) id.client) (replica_fits (history s.head rounds) replica) (client_of s rounds id (h.0 rounds)) (k rounds)),
      λ client e. subst (λ (c : ℕ). begun_of s.begun c + 1 ≤ 16384) (same_Some id.client client e) h.1,
    )))))))

unread_line_law : (s : State) (ws : List (List ℕ)) → Gives (Fits s) (spec.unread_line s ws)
unread_line_law s ws =
    bind_law (self_law (found faults.Form (one_of ws))) (λ word is. bind_law (self_law (found faults.Form (cut 46 word))) (λ p parts.
    need_law (in_log s.section) _ (λ at. need_law (is_text_of (next_seq s p.0) p.1) _ (λ text.
    bind_law (begun_law s p text) (λ id h.
    done_law (
      at,
      (λ rounds. client_of s rounds id (h.0 rounds)),
      λ client e. subst (λ (c : ℕ). begun_of s.begun c + 1 ≤ 16384) (same_Some id.client client e) h.1,
    ))))))

read_line_law : (s : State) (ws : List (List ℕ)) → Gives (Fits s) (spec.read_line s ws)
read_line_law s ws =
    bind_law (self_law (found faults.Form (two_of ws))) (λ w is. bind_law (self_law (found faults.Form (cut 46 w.0))) (λ p parts.
    need_law (in_log s.section) _ (λ at.
    bind_law (attempt_law s p) (λ id h. bind_law (key_law s w.1) (λ key k.
    done_law (
      at,
      (λ rounds. and_from (id_fits (history s.head rounds) id) (key_fits (history s.head rounds) key) (h rounds) (k rounds)),
      none_begin s (steps.Read id key) refl,
    ))))))

stamp_line_law : (s : State) (ws : List (List ℕ)) → Gives (Fits s) (spec.stamp_line s ws)
stamp_line_law s ws =
    bind_law (self_law (found faults.Form (first_of ws))) (λ w is. bind_law (self_law (found faults.Form (cut 46 w.0))) (λ p parts.
    bind_law (self_law (found faults.Form (first_of w.1))) (λ c more. need_law (are_writes c.1) _ (λ form. need_law (in_log s.section) _ (λ at.
    bind_law (attempt_law s p) (λ id h. bind_law (number_law 0 (2 ^ 61) c.0) (λ clock k. bind_law (writes_law s c.1) (λ writes all.
    done_law (
      at,
      (λ rounds.
          and_from (id_fits (history s.head rounds) id && leb clock (2 ^ 61)) (list_all (write_fits (history s.head rounds)) writes)
          (and_from (id_fits (history s.head rounds) id) (leb clock (2 ^ 61)) (h rounds) (leb-from clock (2 ^ 61) k.1))
          (all rounds)),
      none_begin s (steps.Stamp id clock writes) refl,
    )))))))))

alone_of_law : (s : State) (ws : List (List ℕ))
    → Gives (λ id. (in_log s.section ≡ true) × ((rounds : List RoundLog) → id_fits (history s.head rounds) id ≡ true)) (alone_of s ws)
alone_of_law s ws =
    bind_law (self_law (found faults.Form (one_of ws))) (λ word is. bind_law (self_law (found faults.Form (cut 46 word))) (λ p parts.
    need_law (in_log s.section) _ (λ at. weaker_law (λ id h. (at, h)) (attempt_law s p))))

-- a line of an attempt alone
alone_line_law : (make : TxnId → Step) (s : State) (ws : List (List ℕ))
    → ((run : History) (id : TxnId) → id_fits run id ≡ true → step_fits run (make id) ≡ true) → ((id : TxnId) → beginner (make id) ≡ None)
    → Gives (Fits s) (spec.alone_line make s ws)
alone_line_law make s ws fits none =
    bind_law (alone_of_law s ws) (λ id h. done_law (h.0, (λ rounds. fits (history s.head rounds) id (h.1 rounds)), none_begin s (make id) (none id)))

viewed_of_law : (s : State) (ws : List (List ℕ))
    → Gives (λ r. (in_log s.section ≡ true) × ((rounds : List RoundLog) → id_fits (history s.head rounds) r.0 ≡ true) × (view_fits r.1 ≡ true)) (viewed_of s ws)
viewed_of_law s ws =
    bind_law (self_law (found faults.Form (two_of ws))) (λ w is. bind_law (self_law (found faults.Form (cut 46 w.0))) (λ p parts.
    need_law (in_log s.section) _ (λ at. bind_law (attempt_law s p) (λ id h. bind_law (number_law 1 15 w.1) (λ view k.
    done_law (at, h, and_from (leb 1 view) (leb view 15) (leb-from 1 view k.0) (leb-from view 15 k.1)))))))

-- a line of an attempt and a view
view_line_law : (make : TxnId → ℕ → Step) (s : State) (ws : List (List ℕ))
    → ((run : History) (id : TxnId) (view : ℕ) → id_fits run id ≡ true → view_fits view ≡ true → step_fits run (make id view) ≡ true)
    → ((id : TxnId) (view : ℕ) → beginner (make id view) ≡ None) → Gives (Fits s) (spec.view_line make s ws)
view_line_law make s ws fits none =
    bind_law (viewed_of_law s ws) (λ r h.
    done_law (h.0, (λ rounds. fits (history s.head rounds) r.0 r.1 (h.1 rounds) h.2), none_begin s (make r.0 r.1) (none r.0 r.1)))

take_line_law : (s : State) (ws : List (List ℕ)) → Gives (Fits s) (spec.take_line s ws)
take_line_law s ws =
    bind_law (self_law (found faults.Form (one_of ws))) (λ word is. need_law (in_log s.section) _ (λ at.
    bind_law (number_law 1 (2 ^ 64 - 1) word) (λ n h.
    done_law (
      at,
      (λ rounds. and_from (leb 1 n) (ltb n (2 ^ 64)) (leb-from 1 n h.0) (ltb-from n (2 ^ 64) (omega (arith, h.1)))),
      none_begin s (steps.Take n) refl,
    ))))

-- ---- acts with answers

abbrev AnswerFits : Act → Answer → Type 0
AnswerFits act a = (answer_fits act a ≡ true) × ((run : History) → answer_in_range run a ≡ true)

read_answer_law : (shape : AnswerShape) (ts version : Stamp) → Gives (AnswerFits (acts.CheckRead ts version)) (answer_of true shape)
read_answer_law OkayShape ts version = done_law (refl, λ run. refl)
read_answer_law (RefusedShape word parts) ts version =
    bind_law (found_law faults.Unknown (named reason_text (check_reasons true) word)) (λ reason e. bind_law (stamp_law parts) (λ other h.
    done_law (named_each (λ (r : Reason). refuses_read r ≡ true) reason_text (check_reasons true) word reason (refl, (refl, tt)) e, λ run. h)))

write_answer_law : (shape : AnswerShape) (ts : Stamp) → Gives (AnswerFits (acts.CheckWrite ts)) (answer_of false shape)
write_answer_law OkayShape ts = done_law (refl, λ run. refl)
write_answer_law (RefusedShape word parts) ts =
    bind_law (found_law faults.Unknown (named reason_text (check_reasons false) word)) (λ reason e. bind_law (stamp_law parts) (λ other h.
    done_law (named_each (λ (r : Reason). not (refuses_read r) ≡ true) reason_text (check_reasons false) word reason (refl, (refl, tt)) e, λ run. h)))

turn_fit : (run : History) (act : Act) (answer : Answer) → answer_fits act answer ≡ true → act_in_range run act ≡ true → answer_in_range run answer ≡ true
    → turn_fits run act answer ≡ true
turn_fit run act answer a b c =
    and_from (answer_fits act answer && act_in_range run act) (answer_in_range run answer) (and_from (answer_fits act answer) (act_in_range run act) a b) c

turn_law : (head : Head) (shape : ActShape) → Gives (λ t. (rounds : List RoundLog) → turn_fits (history head rounds) t.0 t.1 ≡ true) (turn_of head.version shape)
turn_law head (GetShape parts word) =
    bind_law (stamp_law parts) (λ seen h. bind_law (value_law head word) (λ v k.
    done_law (λ rounds. turn_fit (history head rounds) acts.Get (answers.Version seen v) refl refl (and_from (stamp_fits seen) (value_fits (history head rounds) v) h (k rounds)))))
turn_law head (CheckReadShape parts version answer) =
    bind_law (stamp_law parts) (λ ts h. bind_law (stamp_law version) (λ read k. bind_law (read_answer_law answer ts read) (λ said a.
    done_law (λ rounds. turn_fit (history head rounds) (acts.CheckRead ts read) said a.0 (and_from (stamp_fits ts) (stamp_fits read) h k) (a.1 (history head rounds))))))
turn_law head (CheckWriteShape parts answer) =
    bind_law (stamp_law parts) (λ ts h. bind_law (write_answer_law answer ts) (λ said a.
    done_law (λ rounds. turn_fit (history head rounds) (acts.CheckWrite ts) said a.0 h (a.1 (history head rounds)))))
turn_law head (CommitReadShape parts) =
    bind_law (stamp_law parts) (λ ts h. done_law (λ rounds. turn_fit (history head rounds) (acts.CommitRead ts) answers.Done refl h refl))
turn_law head (CommitWriteShape parts word) =
    bind_law (stamp_law parts) (λ ts h. bind_law (value_law head word) (λ v k.
    done_law (λ rounds. turn_fit (history head rounds) (acts.CommitWrite ts v) answers.Done refl (and_from (stamp_fits ts) (value_fits (history head rounds) v) h (k rounds)) refl)))
turn_law head (ReleaseReadShape parts) =
    bind_law (stamp_law parts) (λ ts h. done_law (λ rounds. turn_fit (history head rounds) (acts.ReleaseRead ts) answers.Done refl h refl))
turn_law head (ReleaseWriteShape parts) =
    bind_law (stamp_law parts) (λ ts h. done_law (λ rounds. turn_fit (history head rounds) (acts.ReleaseWrite ts) answers.Done refl h refl))

turn_line_law : (s : State) (first : List ℕ) (ws : List (List ℕ)) → Gives (Fits s) (spec.turn_line s first ws)
turn_line_law s first ws =
    bind_law (self_law (found faults.Form (first_of ws))) (λ w is. bind_law (self_law (act_shape w.1)) (λ shape form.
    need_law (in_log s.section) _ (λ at. bind_law (replica_law s first) (λ replica h. bind_law (key_law s w.0) (λ key k. bind_law (turn_law s.head shape) (λ turn t.
    done_law (
      at,
      (λ rounds.
          and_from (replica_fits (history s.head rounds) replica && key_fits (history s.head rounds) key) (turn_fits (history s.head rounds) turn.0 turn.1)
          (and_from (replica_fits (history s.head rounds) replica) (key_fits (history s.head rounds) key) (h rounds) (k rounds))
          (t rounds)),
      none_begin s (steps.Key (record { replica = replica; key = key; act = turn.0 }) turn.1) refl,
    )))))))

key_line_law : (s : State) (ws : List (List ℕ)) → Gives (Fits s) (spec.key_line s ws)
key_line_law s ws = bind_law (self_law (found faults.Form (first_of ws))) (λ w is. at w (none_left w.1))
  where
    at : (w : List ℕ × List (List ℕ)) (t : Bool) → Gives (Fits s) (cond t (spec.name_line s w.0) (spec.turn_line s w.0 w.1))
    at w true = name_line_law s w.0
    at w false = turn_line_law s w.0 w.1

entry_line_law : (s : State) (first : List ℕ) (ws : List (List ℕ)) → Gives (Fits s) (spec.entry_line s first ws)
entry_line_law s first ws =
    bind_law (self_law (act_shape ws)) (λ shape form. need_law (in_journal s.section) _ (λ at.
    bind_law (below_law s.head.columns first) (λ c h. bind_law (turn_law s.head shape) (λ turn t.
    done_law (at, λ rounds. and_from (ltb c s.head.columns) (turn_fits (history s.head rounds) turn.0 turn.1) h (t rounds))))))

-- ---- global lines

epoch_fits : (n : ℕ) → Between 1 1000 n → is_epoch n ≡ true
epoch_fits n h = and_from (leb 1 n) (leb n 1000) (leb-from 1 n h.0) (leb-from n 1000 h.1)

changed_law : (s : State) (line : GlobalLine) (answer : GlobalAnswer) → in_changes s.section ≡ true → line_fits (members s.head.size) line ≡ true
    → can_answer line answer ≡ true → Gives (Fits s) (changed s line answer)
changed_law s line answer at fits can =
    need_law (ltb s.changes 256) _ (λ few. done_law (at, few, λ rounds. and_from (line_fits (members s.head.size) line) (can_answer line answer) fits can))

wipe_line_law : (s : State) (ws : List (List ℕ)) → Gives (Fits s) (spec.wipe_line s ws)
wipe_line_law s ws =
    bind_law (self_law (found faults.Form (one_of ws))) (λ word is. need_law (in_changes s.section) _ (λ at.
    bind_law (replica_law s word) (λ replica h. changed_law s (globals.Wipe replica) Done at (h []) refl)))

ask_line_law : (s : State) (ws : List (List ℕ)) → Gives (Fits s) (spec.ask_line s ws)
ask_line_law s ws =
    bind_law (self_law (found faults.Form (one_of ws))) (λ word is. need_law (in_changes s.section) _ (λ at.
    bind_law (number_law 1 1000 word) (λ epoch h. changed_law s (globals.Ask epoch) Done at (epoch_fits epoch h) refl)))

-- the line of such a replier
abbrev line_by : Replier → ℕ → ℕ → GlobalLine
line_by repliers.Promise epoch replica = globals.Promise epoch replica
line_by repliers.Merge epoch replica = globals.Merge epoch
line_by repliers.Adopt epoch replica = globals.Adopt epoch replica
line_by repliers.Enter epoch replica = globals.Enter epoch

abbrev CanAnswer : Replier → GlobalAnswer → Type 0
CanAnswer replier a = (epoch replica : ℕ) → can_answer (line_by replier epoch replica) a ≡ true

reply_law : (replier : Replier) (shape : ReplyShape) → suits replier shape ≡ true → Gives (CanAnswer replier) (reply_of shape)
reply_law repliers.Promise (OneWord replies.Ok) e = done_law (λ epoch replica. refl)
reply_law repliers.Promise (OneWord replies.Unasked) e = done_law (λ epoch replica. refl)
reply_law repliers.Promise (OneWord replies.Unmade) e = absurd cc
reply_law repliers.Promise (OneWord replies.Lacking) e = done_law (λ epoch replica. refl)
reply_law repliers.Promise (OneWord replies.Old) e = absurd cc
reply_law repliers.Promise (OneWord replies.WordFault) e = done_law (λ epoch replica. refl)
reply_law repliers.Promise (OneWord replies.Short) e = absurd cc
reply_law repliers.Promise (OneNumber replies.Ok n) e = absurd cc
reply_law repliers.Promise (OneNumber replies.Unasked n) e = absurd cc
reply_law repliers.Promise (OneNumber replies.Unmade n) e = absurd cc
reply_law repliers.Promise (OneNumber replies.Lacking n) e = absurd cc
reply_law repliers.Promise (OneNumber replies.Old n) e = bind_law (number_law 0 1000 n) (λ k h. done_law (λ epoch replica. leb-from k 1000 h.1))
reply_law repliers.Promise (OneNumber replies.WordFault n) e = absurd cc
reply_law repliers.Promise (OneNumber replies.Short n) e = absurd cc
reply_law repliers.Promise (TwoNumbers replies.Ok n m) e = absurd cc
reply_law repliers.Promise (TwoNumbers replies.Unasked n m) e = absurd cc
reply_law repliers.Promise (TwoNumbers replies.Unmade n m) e = absurd cc
reply_law repliers.Promise (TwoNumbers replies.Lacking n m) e = absurd cc
reply_law repliers.Promise (TwoNumbers replies.Old n m) e = absurd cc
reply_law repliers.Promise (TwoNumbers replies.WordFault n m) e = absurd cc
reply_law repliers.Promise (TwoNumbers replies.Short n m) e = absurd cc
reply_law repliers.Merge (OneWord replies.Ok) e = absurd cc
reply_law repliers.Merge (OneWord replies.Unasked) e = absurd cc
reply_law repliers.Merge (OneWord replies.Unmade) e = absurd cc
reply_law repliers.Merge (OneWord replies.Lacking) e = done_law (λ epoch replica. refl)
reply_law repliers.Merge (OneWord replies.Old) e = absurd cc
reply_law repliers.Merge (OneWord replies.WordFault) e = absurd cc
reply_law repliers.Merge (OneWord replies.Short) e = absurd cc
reply_law repliers.Merge (OneNumber replies.Ok n) e = absurd cc
reply_law repliers.Merge (OneNumber replies.Unasked n) e = absurd cc
reply_law repliers.Merge (OneNumber replies.Unmade n) e = absurd cc
reply_law repliers.Merge (OneNumber replies.Lacking n) e = absurd cc
reply_law repliers.Merge (OneNumber replies.Old n) e = bind_law (number_law 0 1000 n) (λ k h. done_law (λ epoch replica. leb-from k 1000 h.1))
reply_law repliers.Merge (OneNumber replies.WordFault n) e = absurd cc
reply_law repliers.Merge (OneNumber replies.Short n) e = bind_law (number_law 0 7 n) (λ k h. done_law (λ epoch replica. leb-from k 7 h.1))
reply_law repliers.Merge (TwoNumbers replies.Ok n m) e = bind_law (number_law 0 (2 ^ 64 - 1) n) (λ commits c. bind_law (number_law 0 (2 ^ 64 - 1) m) (λ aborts a. done_law (λ epoch replica. and_from (ltb commits (2 ^ 64)) (ltb aborts (2 ^ 64)) (ltb-from commits (2 ^ 64) (omega (arith, c.1))) (ltb-from aborts (2 ^ 64) (omega (arith, a.1))))))
reply_law repliers.Merge (TwoNumbers replies.Unasked n m) e = absurd cc
reply_law repliers.Merge (TwoNumbers replies.Unmade n m) e = absurd cc
reply_law repliers.Merge (TwoNumbers replies.Lacking n m) e = absurd cc
reply_law repliers.Merge (TwoNumbers replies.Old n m) e = absurd cc
reply_law repliers.Merge (TwoNumbers replies.WordFault n m) e = absurd cc
reply_law repliers.Merge (TwoNumbers replies.Short n m) e = absurd cc
reply_law repliers.Adopt (OneWord replies.Ok) e = done_law (λ epoch replica. refl)
reply_law repliers.Adopt (OneWord replies.Unasked) e = absurd cc
reply_law repliers.Adopt (OneWord replies.Unmade) e = done_law (λ epoch replica. refl)
reply_law repliers.Adopt (OneWord replies.Lacking) e = absurd cc
reply_law repliers.Adopt (OneWord replies.Old) e = absurd cc
reply_law repliers.Adopt (OneWord replies.WordFault) e = done_law (λ epoch replica. refl)
reply_law repliers.Adopt (OneWord replies.Short) e = absurd cc
reply_law repliers.Adopt (OneNumber replies.Ok n) e = absurd cc
reply_law repliers.Adopt (OneNumber replies.Unasked n) e = absurd cc
reply_law repliers.Adopt (OneNumber replies.Unmade n) e = absurd cc
reply_law repliers.Adopt (OneNumber replies.Lacking n) e = absurd cc
reply_law repliers.Adopt (OneNumber replies.Old n) e = bind_law (number_law 0 1000 n) (λ k h. done_law (λ epoch replica. leb-from k 1000 h.1))
reply_law repliers.Adopt (OneNumber replies.WordFault n) e = absurd cc
reply_law repliers.Adopt (OneNumber replies.Short n) e = absurd cc
reply_law repliers.Adopt (TwoNumbers replies.Ok n m) e = absurd cc
reply_law repliers.Adopt (TwoNumbers replies.Unasked n m) e = absurd cc
reply_law repliers.Adopt (TwoNumbers replies.Unmade n m) e = absurd cc
reply_law repliers.Adopt (TwoNumbers replies.Lacking n m) e = absurd cc
reply_law repliers.Adopt (TwoNumbers replies.Old n m) e = absurd cc
reply_law repliers.Adopt (TwoNumbers replies.WordFault n m) e = absurd cc
reply_law repliers.Adopt (TwoNumbers replies.Short n m) e = absurd cc
reply_law repliers.Enter (OneWord replies.Ok) e = absurd cc
reply_law repliers.Enter (OneWord replies.Unasked) e = absurd cc
reply_law repliers.Enter (OneWord replies.Unmade) e = absurd cc
reply_law repliers.Enter (OneWord replies.Lacking) e = absurd cc
reply_law repliers.Enter (OneWord replies.Old) e = absurd cc
reply_law repliers.Enter (OneWord replies.WordFault) e = absurd cc
reply_law repliers.Enter (OneWord replies.Short) e = absurd cc
reply_law repliers.Enter (OneNumber replies.Ok n) e = bind_law (number_law 0 7 n) (λ k h. done_law (λ epoch replica. leb-from k 7 h.1))
reply_law repliers.Enter (OneNumber replies.Unasked n) e = absurd cc
reply_law repliers.Enter (OneNumber replies.Unmade n) e = absurd cc
reply_law repliers.Enter (OneNumber replies.Lacking n) e = absurd cc
reply_law repliers.Enter (OneNumber replies.Old n) e = absurd cc
reply_law repliers.Enter (OneNumber replies.WordFault n) e = absurd cc
reply_law repliers.Enter (OneNumber replies.Short n) e = bind_law (number_law 0 7 n) (λ k h. done_law (λ epoch replica. leb-from k 7 h.1))
reply_law repliers.Enter (TwoNumbers replies.Ok n m) e = absurd cc
reply_law repliers.Enter (TwoNumbers replies.Unasked n m) e = absurd cc
reply_law repliers.Enter (TwoNumbers replies.Unmade n m) e = absurd cc
reply_law repliers.Enter (TwoNumbers replies.Lacking n m) e = absurd cc
reply_law repliers.Enter (TwoNumbers replies.Old n m) e = absurd cc
reply_law repliers.Enter (TwoNumbers replies.WordFault n m) e = absurd cc
reply_law repliers.Enter (TwoNumbers replies.Short n m) e = absurd cc

reply_shape_law : (replier : Replier) (ws : List (List ℕ)) → Gives (λ shape. suits replier shape ≡ true) (reply_shape replier ws)
reply_shape_law replier ws =
    bind_law (self_law (found faults.Form (first_of ws))) (λ w is. bind_law (self_law (found faults.Form (named reply_text reply_list w.0))) (λ word e.
    bind_law (self_law (shape_behind word w.1)) (λ shape form. need_law (suits replier shape) _ (λ fits. done_law fits))))

epoch_of_law : (replier : Replier) (s : State) (ws : List (List ℕ))
    → Gives (λ m. (in_changes s.section ≡ true) × (is_epoch m.0 ≡ true) × CanAnswer replier m.1) (epoch_of replier s ws)
epoch_of_law replier s ws =
    bind_law (self_law (found faults.Form (first_of ws))) (λ w is. bind_law (reply_shape_law replier w.1) (λ shape fits.
    need_law (in_changes s.section) _ (λ at. bind_law (number_law 1 1000 w.0) (λ epoch h. bind_law (reply_law replier shape fits) (λ answer can.
    done_law (at, epoch_fits epoch h, can))))))

member_of_law : (replier : Replier) (s : State) (ws : List (List ℕ))
    → Gives (λ m. (in_changes s.section ≡ true) × (is_epoch m.0 ≡ true) × (ltb m.1 (members s.head.size) ≡ true) × CanAnswer replier m.2) (member_of replier s ws)
member_of_law replier s ws =
    bind_law (self_law (found faults.Form (first_of ws))) (λ w is. bind_law (self_law (found faults.Form (first_of w.1))) (λ r more.
    bind_law (reply_shape_law replier r.1) (λ shape fits. need_law (in_changes s.section) _ (λ at.
    bind_law (number_law 1 1000 w.0) (λ epoch h. bind_law (replica_law s r.0) (λ replica k. bind_law (reply_law replier shape fits) (λ answer can.
    done_law (at, epoch_fits epoch h, k [], can))))))))

promise_line_law : (s : State) (ws : List (List ℕ)) → Gives (Fits s) (spec.promise_line s ws)
promise_line_law s ws = bind_law (member_of_law repliers.Promise s ws) (λ m h.
    changed_law s (globals.Promise m.0 m.1) m.2 h.0 (and_from (is_epoch m.0) (ltb m.1 (members s.head.size)) h.1 h.2) (h.3 m.0 m.1))

merge_line_law : (s : State) (ws : List (List ℕ)) → Gives (Fits s) (spec.merge_line s ws)
merge_line_law s ws = bind_law (epoch_of_law repliers.Merge s ws) (λ m h. changed_law s (globals.Merge m.0) m.1 h.0 h.1 (h.2 m.0 0))

adopt_line_law : (s : State) (ws : List (List ℕ)) → Gives (Fits s) (spec.adopt_line s ws)
adopt_line_law s ws = bind_law (member_of_law repliers.Adopt s ws) (λ m h.
    changed_law s (globals.Adopt m.0 m.1) m.2 h.0 (and_from (is_epoch m.0) (ltb m.1 (members s.head.size)) h.1 h.2) (h.3 m.0 m.1))

enter_line_law : (s : State) (ws : List (List ℕ)) → Gives (Fits s) (spec.enter_line s ws)
enter_line_law s ws = bind_law (epoch_of_law repliers.Enter s ws) (λ m h. changed_law s (globals.Enter m.0) m.1 h.0 h.1 (h.2 m.0 0))

-- ---- any line

by_keyword_law : (s : State) (keyword : Keyword) (ws : List (List ℕ)) → Gives (Fits s) (by_keyword s keyword ws)
by_keyword_law s keywords.Opening ws = version_line_law s ws
by_keyword_law s keywords.Size ws = size_line_law s ws
by_keyword_law s keywords.Client ws = client_line_law s ws
by_keyword_law s keywords.Key ws = key_line_law s ws
by_keyword_law s keywords.Round ws = round_line_law s ws
by_keyword_law s keywords.Column ws = column_line_law s ws
by_keyword_law s keywords.Cell ws = cell_line_law s ws
by_keyword_law s keywords.Globals ws = global_line_law s ws
by_keyword_law s keywords.End ws = end_line_law s ws
by_keyword_law s keywords.Begin ws = begin_line_law s ws
by_keyword_law s keywords.Unread ws = unread_line_law s ws
by_keyword_law s keywords.Read ws = read_line_law s ws
by_keyword_law s keywords.Stamp ws = stamp_line_law s ws
by_keyword_law s keywords.Validate ws = alone_line_law spec.validate_step s ws (λ run id h. h) (λ id. refl)
by_keyword_law s keywords.Take ws = take_line_law s ws
by_keyword_law s keywords.Rule ws = alone_line_law spec.rule_step s ws (λ run id h. h) (λ id. refl)
by_keyword_law s keywords.Again ws = alone_line_law spec.again_step s ws (λ run id h. h) (λ id. refl)
by_keyword_law s keywords.Stop ws = alone_line_law spec.stop_step s ws (λ run id h. h) (λ id. refl)
by_keyword_law s keywords.Takeover ws = view_line_law spec.takeover_step s ws (λ run id view h k. and_from (id_fits run id) (view_fits view) h k) (λ id view. refl)
by_keyword_law s keywords.Pick ws = view_line_law spec.pick_step s ws (λ run id view h k. and_from (id_fits run id) (view_fits view) h k) (λ id view. refl)
by_keyword_law s keywords.Wipe ws = wipe_line_law s ws
by_keyword_law s keywords.Ask ws = ask_line_law s ws
by_keyword_law s keywords.Promise ws = promise_line_law s ws
by_keyword_law s keywords.Merge ws = merge_line_law s ws
by_keyword_law s keywords.Adopt ws = adopt_line_law s ws
by_keyword_law s keywords.Enter ws = enter_line_law s ws

by_words_law : (s : State) (first : List ℕ) (ws : List (List ℕ)) → Gives (Fits s) (by_words s first ws)
by_words_law s first ws = at (begins_with_digit first)
  where
    at : (t : Bool) → Gives (Fits s) (cond t (spec.entry_line s first ws) (found faults.Form (named keyword_text keyword_list first) >>= λ keyword. by_keyword s keyword ws))
    at true = entry_line_law s first ws
    at false = bind_law (self_law (found faults.Form (named keyword_text keyword_list first))) (λ keyword is. by_keyword_law s keyword ws)

-- a line that is read fits what was read above it
pub line_law : (s : State) (bytes : List ℕ) → Gives (Fits s) (line_of s bytes)
line_law s bytes =
    need_law (is_printable bytes) _ (λ plain. need_law (not (list_any is_empty (words bytes))) _ (λ full.
    bind_law (self_law (found faults.Form (first_of (words bytes)))) (λ w is. by_words_law s w.0 w.1)))
