-- A line that is read is spelled as the line that it is, and stands behind those above it.
use Rattle.std.proofs.Common.{◌≡◌, ◌⊎◌, ℕ, suc, ◌+◌, ◌-◌, ◌*◌, ◌^◌, ◌≤◌, ◌<◌, Bool, true, false, cond, eqb, leb, ltb, not, ◌&&◌, ◌||◌, List, [], ◌∷◌, length, get_or, Option, Some, None, refl, sym, ap, subst, ◌∙◌, arith, inl, inr}
use Rattle.std.specs.Fmt.{decimal}
use Rattle.std.specs.Prelude.{is_some}
use Rattle.std.specs.List.{list_any, join_with_byte}
use Rattle.std.specs.Str.{bytes_eq}
use Rattle.std.proofs.lemmas.Bool.{eqb-true}
use Rattle.std.proofs.lemmas.Bool.Decides.{nat_tests}
use Rattle.std.proofs.lemmas.Option.{same_Some}
use Rattle.std.proofs.lemmas.Fmt.{decimal_digit}
use Rattle.mk_spelling.specs.declared.fault.TextFault.TheVariants as faults
use Rattle.mk_spelling.specs.Words.{words, cut, is_name, is_number, value, number, is_printable, is_empty, none_left}
use Rattle.mk_spelling.specs.Fields.{◌>>=◌, found, named, place, one_on, one_of, two_of}
use Rattle.mk_spelling.proofs.FieldLaws.{named-back}
use Rattle.mk_spelling.proofs.Joins.{joined_words}
use Rattle.mk_spelling.proofs.Numbers.{number-back}
use Rattle.mk_spelling.proofs.PlaceLaws.{place_below}
use Rattle.mk_quorum.specs.Sizes.{members}
use Rattle.mk_txn.specs.declared.TxnId.{TxnId}
use Rattle.mk_words.specs.declared.Step.{Step}
use Rattle.mk_words.specs.declared.GlobalLine.{GlobalLine}
use Rattle.mk_words.specs.declared.GlobalLine.TheVariants as globals
use Rattle.mk_words.specs.declared.GlobalAnswer.{GlobalAnswer}
use Rattle.mk_words.specs.declared.GlobalAnswer.TheVariants.{Ok as Done}
use Rattle.mk_trace_lines.specs.declared.words.Keyword.{Keyword}
use Rattle.mk_trace_lines.specs.declared.words.Keyword.TheVariants as keywords
use Rattle.mk_trace_lines.specs.declared.words.Replier.{Replier}
use Rattle.mk_trace_lines.specs.declared.words.Replier.TheVariants as repliers
use Rattle.mk_trace_lines.specs.LineWords.{keyword_text, keyword_list}
use Rattle.mk_trace_lines.specs.TraceLines.{TraceLine, key_name, attempt_text, reply_words, change_words, line_words, spelling}
use Rattle.mk_trace_lines.specs.TraceLines.TraceLine.{Begins, Heads, Logged, Marks}
use Rattle.mk_trace_lines.specs.ActShapes.{first_of}
use Rattle.mk_trace_text.specs.declared.section.Section.{Section}
use Rattle.mk_trace_text.specs.declared.section.Section.TheVariants as sections
use Rattle.mk_trace_text.specs.Begun.{begun_of, seq_of}
use Rattle.mk_trace_text.specs.States.{State}
use Rattle.mk_trace_text.specs.Grammar as spec
use Rattle.mk_trace_text.specs.Grammar.{at_start, at_size, in_clients, in_keys, before_column, before_cell, at_end, before_round, in_log, in_journal, in_changes, is_text_of, is_up_to, named_place, key_up_to, next_at, next_seq, column_ascends, cell_up_to, cell_ascends, version_text, versions, version_named, are_writes, attempt_of, alone_of, viewed_of, changed, epoch_of, member_of, begins_with_digit, by_keyword, by_words, line_of}
use Rattle.mk_trace.proofs.FitLaws.{Gives, need_law, bind_law, done_law, weaker_law, self_law, found_law}
use Rattle.mk_trace.proofs.FieldsAgain.{ltb-low, digits_again}
use Rattle.mk_trace.proofs.Suited.{IsColumnBehind, IsCellBehind}
use Rattle.mk_trace.proofs.FieldsBack.{one_back, two_back, first_back, none_back, number_is, below_is, text_is, text_back, cut_is, key_is, attempt_is, writes_are, act_shape_is, turn_is, reply_shape_is, reply_is}

-- where a line stands
abbrev pub Stands : State → TraceLine → Type 0
Stands s (Begins n) = n ≡ s.count + 1
Stands s (Heads column) = (column < s.head.columns) × IsColumnBehind s s.section column
Stands s (Logged seq step) = seq ≡ seq_of s.begun step
Stands s (Marks replica key) = (replica < members s.head.size) × (key < length s.head.key_names.names) × IsCellBehind s s.section replica key
Stands s _ = Unit {0}

-- the words are those of the line, which stands where it may
abbrev pub IsLine : State → List (List ℕ) → TraceLine → Type 0
IsLine s ws line = (ws ≡ line_words s.head.client_names.names s.head.key_names.names line) × Stands s line

abbrev one_word : List ℕ → List (List ℕ)
one_word w = w ∷ []

abbrev behind : Keyword → List (List ℕ) → List (List ℕ)
behind keyword ws = keyword_text keyword ∷ ws

-- ---- the head

version_is : (w : List ℕ) (v : ℕ) → version_named w ≡ Some v → w ≡ decimal v
version_is w v e = named-back version_text versions w v e ∙ digit v (member v e)
  where
    digit : (v : ℕ) → (v ≡ 1) ⊎ (v ≡ 2) → version_text v ≡ decimal v
    digit v (inl k) = subst (λ (n : ℕ). version_text n ≡ decimal n) (sym k) (sym (decimal_digit 1 (omega arith)))
    digit v (inr k) = subst (λ (n : ℕ). version_text n ≡ decimal n) (sym k) (sym (decimal_digit 2 (omega arith)))

    member : (v : ℕ) → version_named w ≡ Some v → (v ≡ 1) ⊎ (v ≡ 2)
    member v h = at (bytes_eq (version_text 1) w) (bytes_eq (version_text 2) w) h
      where
        at : (a b : Bool) → cond a (Some 1) (cond b (Some 2) None) ≡ Some v → (v ≡ 1) ⊎ (v ≡ 2)
        at true b k = inl (sym (same_Some 1 v k))
        at false true k = inr (sym (same_Some 2 v k))
        at false false k = absurd cc

opens_is : (s : State) (ws : List (List ℕ)) → Gives (IsLine s (behind keywords.Opening ws)) (spec.version_line s ws)
opens_is s ws =
    bind_law (found_law faults.Form (one_of ws)) (λ w e. need_law (at_start s.section) _ (λ at.
    bind_law (found_law faults.Unknown (version_named w)) (λ v k.
    done_law (ap (behind keywords.Opening) (one_back ws w e ∙ ap one_word (version_is w v k)), tt))))

sizes_is : (s : State) (ws : List (List ℕ)) → Gives (IsLine s (behind keywords.Size ws)) (spec.size_line s ws)
sizes_is s ws =
    bind_law (found_law faults.Form (one_of ws)) (λ w e. need_law (at_size s.section) _ (λ at.
    bind_law (number_is 1 3 w (omega arith)) (λ f k. done_law (ap (behind keywords.Size) (one_back ws w e ∙ ap one_word k), tt))))

declares_is : (s : State) (ws : List (List ℕ)) → Gives (IsLine s (behind keywords.Client ws)) (spec.client_line s ws)
declares_is s ws =
    bind_law (found_law faults.Form (two_of ws)) (λ w e. need_law (in_clients s.section) _ (λ at. need_law (is_name w.0) _ (λ well.
    bind_law (number_is 0 7 w.1 (omega arith)) (λ c k.
    need_law (ltb (length s.head.client_names.names) 64) _ (λ few. need_law (not (is_some (place w.0 s.head.client_names.names))) _ (λ new.
    done_law (ap (behind keywords.Client) (two_back ws w e ∙ ap (λ (x : List ℕ). w.0 ∷ x ∷ []) k), tt)))))))

names_is : (s : State) (w : List ℕ) → Gives (IsLine s (behind keywords.Key (w ∷ []))) (spec.name_line s w)
names_is s w =
    need_law (in_keys s.section) _ (λ at. need_law (is_name w) _ (λ well.
    need_law (ltb (length s.head.key_names.names) 256) _ (λ few. need_law (not (is_some (place w s.head.key_names.names))) _ (λ new. done_law (refl, tt)))))

-- ---- headings

begins_is : (s : State) (ws : List (List ℕ)) → Gives (IsLine s (behind keywords.Round ws)) (spec.round_line s ws)
begins_is s ws =
    bind_law (found_law faults.Form (one_of ws)) (λ w e. need_law (before_round s.section) _ (λ at.
    need_law (is_text_of (s.count + 1) w) _ (λ text. need_law (ltb s.count 16) _ (λ few.
    (let low = ltb-low s.count 16 few in
    done_law (ap (behind keywords.Round) (one_back ws w e ∙ ap one_word (text_back (s.count + 1) w (omega (arith, low)) text)), refl))))))

column_behind : (s : State) (x : Section) (w : List ℕ) (c : ℕ) → w ≡ decimal c → c < 2 ^ 64 → column_ascends s x w ≡ true → IsColumnBehind s x c
column_behind s sections.Log w c e fits h =
    above (leb c s.column) refl (subst (λ (x : List ℕ). not (is_up_to s.column x) ≡ true) e h)
  where
    at : (a : Bool) → a ≡ true → (v : ℕ) → v ≡ c → leb c s.column ≡ true → not (a && leb v s.column) ≡ true → ⊥
    at true e v same low k = absurd (cc (ap (λ (n : ℕ). leb n s.column) same ∙ low, k))
    at false e v same low k = absurd cc

    above : (b : Bool) → leb c s.column ≡ b → not (is_up_to s.column (decimal c)) ≡ true → s.column < c
    above true low k = (let d = digits_again c fits in absurd (at (is_number (decimal c)) d.0 (value (decimal c)) d.1 low k))
    above false low k = grind (arith, nat_tests)
column_behind s sections.Start w c e fits h = tt
column_behind s sections.Opened w c e fits h = tt
column_behind s sections.Clients w c e fits h = tt
column_behind s sections.Keys w c e fits h = tt
column_behind s sections.Round w c e fits h = tt
column_behind s sections.Column w c e fits h = tt
column_behind s sections.Cell w c e fits h = tt
column_behind s sections.Journal w c e fits h = tt
column_behind s sections.Globals w c e fits h = tt
column_behind s sections.Changes w c e fits h = tt
column_behind s sections.Ended w c e fits h = tt

heads_is : (s : State) (ws : List (List ℕ)) → s.head.columns ≤ 8 → Gives (IsLine s (behind keywords.Column ws)) (spec.column_line s ws)
heads_is s ws few =
    bind_law (found_law faults.Form (one_of ws)) (λ w e. need_law (before_column s.section) _ (λ at.
    need_law (column_ascends s s.section w) _ (λ up. bind_law (below_is s.head.columns w (omega (arith, few))) (λ c k.
    done_law (ap (behind keywords.Column) (one_back ws w e ∙ ap one_word k.0), (k.1, column_behind s s.section w c k.0 (let low = k.1 in omega (arith, low, few)) up))))))

cell_cases : (a b c : Bool) → not (a || (b && c)) ≡ true → (a ≡ false) × ((b && c) ≡ false)
cell_cases true b c e = absurd cc
cell_cases false true true e = absurd cc
cell_cases false true false e = (refl, refl)
cell_cases false false c e = (refl, refl)

cell_apart : (s : State) (w : List ℕ) (r k : ℕ) → r < 2 ^ 64 → is_name w ≡ true → place w s.head.key_names.names ≡ Some k
    → not (cell_up_to s (decimal r) w) ≡ true → (s.replica < r) ⊎ ((r ≡ s.replica) × (s.key < k))
cell_apart s w r k fits well there h = by (ltb r s.replica) (eqb r s.replica) refl refl (leb k s.key) refl (at (is_number (decimal r)) d.0 (value (decimal r)) d.1 (named_place s.head.key_names.names w) its h)
  where
    d : (is_number (decimal r) ≡ true) × (value (decimal r) ≡ r)
    d = digits_again r fits

    its : named_place s.head.key_names.names w ≡ Some k
    its = rw (well, there) refl

    at : (a : Bool) → a ≡ true → (v : ℕ) → v ≡ r → (o : Option ℕ) → o ≡ Some k
        → not (a && (ltb v s.replica || (eqb v s.replica && key_up_to s.key o))) ≡ true → not (ltb r s.replica || (eqb r s.replica && leb k s.key)) ≡ true
    at true e v same o found h =
        subst (λ (p : Option ℕ). not (ltb r s.replica || (eqb r s.replica && key_up_to s.key p)) ≡ true) found
        (subst (λ (n : ℕ). not (ltb n s.replica || (eqb n s.replica && key_up_to s.key o)) ≡ true) same h)
    at false e v same o found h = absurd cc

    by : (a b : Bool) → ltb r s.replica ≡ a → eqb r s.replica ≡ b → (c : Bool) → leb k s.key ≡ c → not (ltb r s.replica || (eqb r s.replica && leb k s.key)) ≡ true
        → (s.replica < r) ⊎ ((r ≡ s.replica) × (s.key < k))
    by true b ea eb c ec h = absurd (cc (ea, (cell_cases (ltb r s.replica) (eqb r s.replica) (leb k s.key) h).0))
    by false true ea eb true ec h =
        absurd (cc (subst (λ (x : Bool). (x && leb k s.key) ≡ false) eb (cell_cases (ltb r s.replica) (eqb r s.replica) (leb k s.key) h).1, ec))
    by false true ea eb false ec h = inr (eqb-true r s.replica eb, grind (arith, nat_tests))
    by false false ea eb c ec h = inl (grind (arith, nat_tests))

cell_behind : (s : State) (x : Section) (v w : List ℕ) (r k : ℕ) → v ≡ decimal r → r < 2 ^ 64 → is_name w ≡ true → place w s.head.key_names.names ≡ Some k
    → cell_ascends s x v w ≡ true → IsCellBehind s x r k
cell_behind s sections.Journal v w r k e fits well there h =
    cell_apart s w r k fits well there (subst (λ (x : List ℕ). not (cell_up_to s x w) ≡ true) e h)
cell_behind s sections.Start v w r k e fits well there h = tt
cell_behind s sections.Opened v w r k e fits well there h = tt
cell_behind s sections.Clients v w r k e fits well there h = tt
cell_behind s sections.Keys v w r k e fits well there h = tt
cell_behind s sections.Round v w r k e fits well there h = tt
cell_behind s sections.Column v w r k e fits well there h = tt
cell_behind s sections.Log v w r k e fits well there h = tt
cell_behind s sections.Cell v w r k e fits well there h = tt
cell_behind s sections.Globals v w r k e fits well there h = tt
cell_behind s sections.Changes v w r k e fits well there h = tt
cell_behind s sections.Ended v w r k e fits well there h = tt

-- the digits of a replica, and its range
replica_is : (s : State) (w : List ℕ) → s.head.size ≤ 3 → Gives (λ r. (w ≡ decimal r) × (r < members s.head.size)) (spec.replica_of s w)
replica_is s w small =
    weaker_law (λ r e. (let k = number-back 0 (2 * s.head.size) w r (omega (arith, small)) e in (k.0, (let high = k.2 in omega (arith, high)))))
    (self_law (number 0 (2 * s.head.size) w))

marks_is : (s : State) (ws : List (List ℕ)) → s.head.size ≤ 3 → Gives (IsLine s (behind keywords.Cell ws)) (spec.cell_line s ws)
marks_is s ws small =
    bind_law (found_law faults.Form (two_of ws)) (λ w e. need_law (before_cell s.section) _ (λ at.
    need_law (cell_ascends s s.section w.0 w.1) _ (λ up.
    bind_law (replica_is s w.0 small) (λ r h. bind_law (key_is s w.1) (λ k q.
    done_law (
      ap (behind keywords.Cell) (two_back ws w e ∙ ap (λ (x : List ℕ). x ∷ w.1 ∷ []) h.0 ∙ ap (λ (x : List ℕ). decimal r ∷ x ∷ []) q.0),
      (
        h.1,
        place_below w.1 s.head.key_names.names k q.1,
        cell_behind s s.section w.0 w.1 r k h.0 (let low = h.1 in omega (arith, low, small)) q.2 q.1 up,
      ),
    ))))))

changes_is : (s : State) (ws : List (List ℕ)) → Gives (IsLine s (behind keywords.Globals ws)) (spec.global_line s ws)
changes_is s ws = need_law (none_left ws) _ (λ none. need_law (before_cell s.section) _ (λ at. done_law (ap (behind keywords.Globals) (none_back ws none), tt)))

ends_is : (s : State) (ws : List (List ℕ)) → Gives (IsLine s (behind keywords.End ws)) (spec.end_line s ws)
ends_is s ws = need_law (none_left ws) _ (λ none. need_law (at_end s.section) _ (λ at. done_law (ap (behind keywords.End) (none_back ws none), tt)))

-- ---- steps

-- the seq that a line names is its client's next one
seq_is : (s : State) (p : List ℕ × List ℕ) (id : TxnId) → is_text_of (next_seq s p.0) p.1 ≡ true → p.1 ≡ decimal id.seq → id.seq ≤ 16384
    → one_on (place p.0 s.head.client_names.names) ≡ Some id.client → is_name p.0 ≡ true → id.seq ≡ begun_of s.begun id.client + 1
seq_is s p id text digits few client well =
    sym (digits_again id.seq (omega (arith, few))).1 ∙ ap value (sym digits) ∙ text_is (next_seq s p.0) p.1 text ∙ next
    ∙ at (place p.0 s.head.client_names.names) id.client client
  where
    next : next_seq s p.0 ≡ next_at s.begun (place p.0 s.head.client_names.names)
    next = rw well refl

    at : (o : Option ℕ) (c : ℕ) → one_on o ≡ Some c → next_at s.begun o ≡ begun_of s.begun c + 1
    at None c e = absurd cc
    at (Some n) c e =
        let same : suc n ≡ c = same_Some (suc n) c e in
        let back : n ≡ c - 1 = omega (arith, same) in
        ap (λ (k : ℕ). get_or s.begun k 0 + 1) back

begin_is : (s : State) (ws : List (List ℕ)) → s.head.size ≤ 3 → Gives (IsLine s (behind keywords.Begin ws)) (spec.begin_line s ws)
begin_is s ws small =
    bind_law (found_law faults.Form (two_of ws)) (λ w e. bind_law (found_law faults.Form (cut 46 w.0)) (λ p parts.
    need_law (in_log s.section) _ (λ at. need_law (is_text_of (next_seq s p.0) p.1) _ (λ text.
    bind_law (attempt_is s p) (λ id h. bind_law (replica_is s w.1 small) (λ r k.
    done_law (
      ap (behind keywords.Begin)
          (two_back ws w e ∙ ap (λ (x : List ℕ). x ∷ w.1 ∷ []) (cut_is 46 w.0 p parts ∙ h.0)
          ∙ ap (λ (x : List ℕ). attempt_text s.head.client_names.names id.client id.seq ∷ x ∷ []) k.0),
      seq_is s p id text h.1 h.4 h.2 h.3,
    )))))))

unread_is : (s : State) (ws : List (List ℕ)) → Gives (IsLine s (behind keywords.Unread ws)) (spec.unread_line s ws)
unread_is s ws =
    bind_law (found_law faults.Form (one_of ws)) (λ w e. bind_law (found_law faults.Form (cut 46 w)) (λ p parts.
    need_law (in_log s.section) _ (λ at. need_law (is_text_of (next_seq s p.0) p.1) _ (λ text.
    bind_law (attempt_is s p) (λ id h.
    done_law (ap (behind keywords.Unread) (one_back ws w e ∙ ap one_word (cut_is 46 w p parts ∙ h.0)), seq_is s p id text h.1 h.4 h.2 h.3))))))

read_is : (s : State) (ws : List (List ℕ)) → Gives (IsLine s (behind keywords.Read ws)) (spec.read_line s ws)
read_is s ws =
    bind_law (found_law faults.Form (two_of ws)) (λ w e. bind_law (found_law faults.Form (cut 46 w.0)) (λ p parts.
    need_law (in_log s.section) _ (λ at. bind_law (attempt_is s p) (λ id h. bind_law (key_is s w.1) (λ k q.
    done_law (
      ap (behind keywords.Read)
          (two_back ws w e ∙ ap (λ (x : List ℕ). x ∷ w.1 ∷ []) (cut_is 46 w.0 p parts ∙ h.0)
          ∙ ap (λ (x : List ℕ). attempt_text s.head.client_names.names id.client id.seq ∷ x ∷ []) q.0),
      refl,
    ))))))

stamped_is : (s : State) (ws : List (List ℕ)) → Gives (IsLine s (behind keywords.Stamp ws)) (spec.stamp_line s ws)
stamped_is s ws =
    bind_law (found_law faults.Form (first_of ws)) (λ w e. bind_law (found_law faults.Form (cut 46 w.0)) (λ p parts.
    bind_law (found_law faults.Form (first_of w.1)) (λ c more. need_law (are_writes c.1) _ (λ form. need_law (in_log s.section) _ (λ at.
    bind_law (attempt_is s p) (λ id h. bind_law (number_is 0 (2 ^ 61) c.0 (omega arith)) (λ clock k. bind_law (writes_are s c.1) (λ writes q.
    done_law (
      ap (behind keywords.Stamp)
          (first_back ws w e ∙ ap (λ (x : List ℕ). x ∷ w.1) (cut_is 46 w.0 p parts ∙ h.0)
          ∙ ap (λ (x : List (List ℕ)). attempt_text s.head.client_names.names id.client id.seq ∷ x)
          (first_back w.1 c more ∙ ap (λ (x : List ℕ). x ∷ c.1) k ∙ ap (λ (x : List (List ℕ)). decimal clock ∷ x) q)),
      refl,
    )))))))))

alone_of_is : (s : State) (ws : List (List ℕ)) → Gives (λ id. ws ≡ attempt_text s.head.client_names.names id.client id.seq ∷ []) (alone_of s ws)
alone_of_is s ws =
    bind_law (found_law faults.Form (one_of ws)) (λ w e. bind_law (found_law faults.Form (cut 46 w)) (λ p parts.
    need_law (in_log s.section) _ (λ at. weaker_law (λ id h. one_back ws w e ∙ ap one_word (cut_is 46 w p parts ∙ h.0)) (attempt_is s p))))

-- a line of an attempt alone
alone_line_is : (keyword : Keyword) (make : TxnId → Step) (s : State) (ws : List (List ℕ))
    → ((id : TxnId) → behind keyword (attempt_text s.head.client_names.names id.client id.seq ∷ []) ≡ line_words s.head.client_names.names s.head.key_names.names (Logged 0 (make id)))
    → ((id : TxnId) → 0 ≡ seq_of s.begun (make id)) → Gives (IsLine s (behind keyword ws)) (spec.alone_line make s ws)
alone_line_is keyword make s ws spelled none =
    bind_law (alone_of_is s ws) (λ id h. done_law (ap (behind keyword) h ∙ spelled id, none id))

viewed_of_is : (s : State) (ws : List (List ℕ)) → Gives (λ r. ws ≡ attempt_text s.head.client_names.names r.0.client r.0.seq ∷ decimal r.1 ∷ []) (viewed_of s ws)
viewed_of_is s ws =
    bind_law (found_law faults.Form (two_of ws)) (λ w e. bind_law (found_law faults.Form (cut 46 w.0)) (λ p parts.
    need_law (in_log s.section) _ (λ at. bind_law (attempt_is s p) (λ id h. bind_law (number_is 1 15 w.1 (omega arith)) (λ view k.
    done_law (two_back ws w e ∙ ap (λ (x : List ℕ). x ∷ w.1 ∷ []) (cut_is 46 w.0 p parts ∙ h.0)
    ∙ ap (λ (x : List ℕ). attempt_text s.head.client_names.names id.client id.seq ∷ x ∷ []) k))))))

-- a line of an attempt and a view
view_line_is : (keyword : Keyword) (make : TxnId → ℕ → Step) (s : State) (ws : List (List ℕ))
    → ((id : TxnId) (view : ℕ) → behind keyword (attempt_text s.head.client_names.names id.client id.seq ∷ decimal view ∷ []) ≡ line_words s.head.client_names.names s.head.key_names.names (Logged 0 (make id view)))
    → ((id : TxnId) (view : ℕ) → 0 ≡ seq_of s.begun (make id view)) → Gives (IsLine s (behind keyword ws)) (spec.view_line make s ws)
view_line_is keyword make s ws spelled none =
    bind_law (viewed_of_is s ws) (λ r h. done_law (ap (behind keyword) h ∙ spelled r.0 r.1, none r.0 r.1))

take_is : (s : State) (ws : List (List ℕ)) → Gives (IsLine s (behind keywords.Take ws)) (spec.take_line s ws)
take_is s ws =
    bind_law (found_law faults.Form (one_of ws)) (λ w e. need_law (in_log s.section) _ (λ at.
    bind_law (number_is 1 (2 ^ 64 - 1) w (omega arith)) (λ n k. done_law (ap (behind keywords.Take) (one_back ws w e ∙ ap one_word k), refl))))

turned_is : (s : State) (first : List ℕ) (ws : List (List ℕ)) → s.head.size ≤ 3 → Gives (IsLine s (behind keywords.Key (first ∷ ws))) (spec.turn_line s first ws)
turned_is s first ws small =
    bind_law (found_law faults.Form (first_of ws)) (λ w e. bind_law (act_shape_is w.1) (λ shape form.
    need_law (in_log s.section) _ (λ at. bind_law (replica_is s first small) (λ r h. bind_law (key_is s w.0) (λ k q. bind_law (turn_is s.head.version shape) (λ turn t.
    done_law (
      ap (behind keywords.Key)
          (ap (λ (x : List ℕ). x ∷ ws) h.0 ∙ ap (λ (x : List (List ℕ)). decimal r ∷ x) (first_back ws w e)
          ∙ ap (λ (x : List ℕ). decimal r ∷ x ∷ w.1) q.0 ∙ ap (λ (x : List (List ℕ)). decimal r ∷ key_name s.head.key_names.names k ∷ x) (form ∙ t)),
      refl,
    )))))))

key_line_is : (s : State) (ws : List (List ℕ)) → s.head.size ≤ 3 → Gives (IsLine s (behind keywords.Key ws)) (spec.key_line s ws)
key_line_is s ws small = bind_law (found_law faults.Form (first_of ws)) (λ w e. at w (none_left w.1) refl (first_back ws w e))
  where
    at : (w : List ℕ × List (List ℕ)) (b : Bool) → none_left w.1 ≡ b → ws ≡ w.0 ∷ w.1
        → Gives (IsLine s (behind keywords.Key ws)) (cond b (spec.name_line s w.0) (spec.turn_line s w.0 w.1))
    at w true n e =
        weaker_law (λ line h. (ap (behind keywords.Key) (e ∙ ap (λ (x : List (List ℕ)). w.0 ∷ x) (none_back w.1 n)) ∙ h.0, h.1)) (names_is s w.0)
    at w false n e = weaker_law (λ line h. (ap (behind keywords.Key) e ∙ h.0, h.1)) (turned_is s w.0 w.1 small)

kept_is : (s : State) (first : List ℕ) (ws : List (List ℕ)) → s.head.columns ≤ 8 → Gives (IsLine s (first ∷ ws)) (spec.entry_line s first ws)
kept_is s first ws few =
    bind_law (act_shape_is ws) (λ shape form. need_law (in_journal s.section) _ (λ at.
    bind_law (below_is s.head.columns first (omega (arith, few))) (λ c h. bind_law (turn_is s.head.version shape) (λ turn t.
    done_law (ap (λ (x : List ℕ). x ∷ ws) h.0 ∙ ap (λ (x : List (List ℕ)). decimal c ∷ x) (form ∙ t), tt)))))

-- ---- global lines

changed_is : (s : State) (line : GlobalLine) (answer : GlobalAnswer) (ws : List (List ℕ)) → ws ≡ change_words (record { line = line; answer = answer })
    → Gives (IsLine s ws) (changed s line answer)
changed_is s line answer ws e = need_law (ltb s.changes 256) _ (λ few. done_law (e, tt))

wipe_is : (s : State) (ws : List (List ℕ)) → s.head.size ≤ 3 → Gives (IsLine s (behind keywords.Wipe ws)) (spec.wipe_line s ws)
wipe_is s ws small =
    bind_law (found_law faults.Form (one_of ws)) (λ w e. need_law (in_changes s.section) _ (λ at.
    bind_law (replica_is s w small) (λ r h. changed_is s (globals.Wipe r) Done (behind keywords.Wipe ws) (ap (behind keywords.Wipe) (one_back ws w e ∙ ap one_word h.0)))))

ask_is : (s : State) (ws : List (List ℕ)) → Gives (IsLine s (behind keywords.Ask ws)) (spec.ask_line s ws)
ask_is s ws =
    bind_law (found_law faults.Form (one_of ws)) (λ w e. need_law (in_changes s.section) _ (λ at.
    bind_law (number_is 1 1000 w (omega arith)) (λ epoch h. changed_is s (globals.Ask epoch) Done (behind keywords.Ask ws) (ap (behind keywords.Ask) (one_back ws w e ∙ ap one_word h)))))

epoch_of_is : (replier : Replier) (s : State) (ws : List (List ℕ)) → Gives (λ m. ws ≡ decimal m.0 ∷ reply_words m.1) (epoch_of replier s ws)
epoch_of_is replier s ws =
    bind_law (found_law faults.Form (first_of ws)) (λ w e. bind_law (reply_shape_is replier w.1) (λ shape form.
    need_law (in_changes s.section) _ (λ at. bind_law (number_is 1 1000 w.0 (omega arith)) (λ epoch h. bind_law (reply_is replier shape form.1) (λ answer k.
    done_law (first_back ws w e ∙ ap (λ (x : List ℕ). x ∷ w.1) h ∙ ap (λ (x : List (List ℕ)). decimal epoch ∷ x) (form.0 ∙ k)))))))

member_of_is : (replier : Replier) (s : State) (ws : List (List ℕ)) → s.head.size ≤ 3 → Gives (λ m. ws ≡ decimal m.0 ∷ decimal m.1 ∷ reply_words m.2) (member_of replier s ws)
member_of_is replier s ws small =
    bind_law (found_law faults.Form (first_of ws)) (λ w e. bind_law (found_law faults.Form (first_of w.1)) (λ r more.
    bind_law (reply_shape_is replier r.1) (λ shape form. need_law (in_changes s.section) _ (λ at.
    bind_law (number_is 1 1000 w.0 (omega arith)) (λ epoch h. bind_law (replica_is s r.0 small) (λ replica q. bind_law (reply_is replier shape form.1) (λ answer k.
    done_law (first_back ws w e ∙ ap (λ (x : List ℕ). x ∷ w.1) h
    ∙ ap (λ (x : List (List ℕ)). decimal epoch ∷ x) (first_back w.1 r more ∙ ap (λ (x : List ℕ). x ∷ r.1) q.0 ∙ ap (λ (x : List (List ℕ)). decimal replica ∷ x) (form.0 ∙ k))))))))))

promise_is : (s : State) (ws : List (List ℕ)) → s.head.size ≤ 3 → Gives (IsLine s (behind keywords.Promise ws)) (spec.promise_line s ws)
promise_is s ws small =
    bind_law (member_of_is repliers.Promise s ws small) (λ m h. changed_is s (globals.Promise m.0 m.1) m.2 (behind keywords.Promise ws) (ap (behind keywords.Promise) h))

merge_is : (s : State) (ws : List (List ℕ)) → Gives (IsLine s (behind keywords.Merge ws)) (spec.merge_line s ws)
merge_is s ws = bind_law (epoch_of_is repliers.Merge s ws) (λ m h. changed_is s (globals.Merge m.0) m.1 (behind keywords.Merge ws) (ap (behind keywords.Merge) h))

adopt_is : (s : State) (ws : List (List ℕ)) → s.head.size ≤ 3 → Gives (IsLine s (behind keywords.Adopt ws)) (spec.adopt_line s ws)
adopt_is s ws small =
    bind_law (member_of_is repliers.Adopt s ws small) (λ m h. changed_is s (globals.Adopt m.0 m.1) m.2 (behind keywords.Adopt ws) (ap (behind keywords.Adopt) h))

enter_is : (s : State) (ws : List (List ℕ)) → Gives (IsLine s (behind keywords.Enter ws)) (spec.enter_line s ws)
enter_is s ws = bind_law (epoch_of_is repliers.Enter s ws) (λ m h. changed_is s (globals.Enter m.0) m.1 (behind keywords.Enter ws) (ap (behind keywords.Enter) h))

-- ---- any line

by_keyword_is : (s : State) (keyword : Keyword) (ws : List (List ℕ)) → s.head.size ≤ 3 → s.head.columns ≤ 8 → Gives (IsLine s (behind keyword ws)) (by_keyword s keyword ws)
by_keyword_is s keywords.Opening ws small few = opens_is s ws
by_keyword_is s keywords.Size ws small few = sizes_is s ws
by_keyword_is s keywords.Client ws small few = declares_is s ws
by_keyword_is s keywords.Key ws small few = key_line_is s ws small
by_keyword_is s keywords.Round ws small few = begins_is s ws
by_keyword_is s keywords.Column ws small few = heads_is s ws few
by_keyword_is s keywords.Cell ws small few = marks_is s ws small
by_keyword_is s keywords.Globals ws small few = changes_is s ws
by_keyword_is s keywords.End ws small few = ends_is s ws
by_keyword_is s keywords.Begin ws small few = begin_is s ws small
by_keyword_is s keywords.Unread ws small few = unread_is s ws
by_keyword_is s keywords.Read ws small few = read_is s ws
by_keyword_is s keywords.Stamp ws small few = stamped_is s ws
by_keyword_is s keywords.Validate ws small few = alone_line_is keywords.Validate spec.validate_step s ws (λ id. refl) (λ id. refl)
by_keyword_is s keywords.Take ws small few = take_is s ws
by_keyword_is s keywords.Rule ws small few = alone_line_is keywords.Rule spec.rule_step s ws (λ id. refl) (λ id. refl)
by_keyword_is s keywords.Again ws small few = alone_line_is keywords.Again spec.again_step s ws (λ id. refl) (λ id. refl)
by_keyword_is s keywords.Stop ws small few = alone_line_is keywords.Stop spec.stop_step s ws (λ id. refl) (λ id. refl)
by_keyword_is s keywords.Takeover ws small few = view_line_is keywords.Takeover spec.takeover_step s ws (λ id view. refl) (λ id view. refl)
by_keyword_is s keywords.Pick ws small few = view_line_is keywords.Pick spec.pick_step s ws (λ id view. refl) (λ id view. refl)
by_keyword_is s keywords.Wipe ws small few = wipe_is s ws small
by_keyword_is s keywords.Ask ws small few = ask_is s ws
by_keyword_is s keywords.Promise ws small few = promise_is s ws small
by_keyword_is s keywords.Merge ws small few = merge_is s ws
by_keyword_is s keywords.Adopt ws small few = adopt_is s ws small
by_keyword_is s keywords.Enter ws small few = enter_is s ws

by_words_is : (s : State) (first : List ℕ) (ws : List (List ℕ)) → s.head.size ≤ 3 → s.head.columns ≤ 8 → Gives (IsLine s (first ∷ ws)) (by_words s first ws)
by_words_is s first ws small few = at (begins_with_digit first)
  where
    at : (t : Bool) → Gives (IsLine s (first ∷ ws)) (cond t (spec.entry_line s first ws) (found faults.Form (named keyword_text keyword_list first) >>= λ keyword. by_keyword s keyword ws))
    at true = kept_is s first ws few
    at false =
        bind_law (found_law faults.Form (named keyword_text keyword_list first)) (λ keyword e.
        weaker_law (λ line h. (ap (λ (x : List ℕ). x ∷ ws) (named-back keyword_text keyword_list first keyword e) ∙ h.0, h.1)) (by_keyword_is s keyword ws small few))

-- a line that is read is spelled so
pub line_is : (s : State) (bytes : List ℕ) → s.head.size ≤ 3 → s.head.columns ≤ 8
    → Gives (λ line. (bytes ≡ spelling s.head.client_names.names s.head.key_names.names line) × Stands s line) (line_of s bytes)
line_is s bytes small few =
    need_law (is_printable bytes) _ (λ plain. need_law (not (list_any is_empty (words bytes))) _ (λ full.
    bind_law (found_law faults.Form (first_of (words bytes))) (λ w e.
    weaker_law (λ line h. (joined_words bytes (words bytes) refl ∙ ap (join_with_byte 32) (first_back (words bytes) w e ∙ h.0), h.1))
    (by_words_is s w.0 w.1 small few))))
