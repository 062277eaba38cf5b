-- Fields of a line: what is read was written so.
use Rattle.std.proofs.Common.{◌≡◌, ℕ, suc, ◌-◌, ◌^◌, ◌≤◌, ◌<◌, Bool, true, false, cond, eqb, leb, ltb, ◌&&◌, List, [], ◌∷◌, ◌++◌, map, Option, Some, None, Result, Ok, Err, refl, sym, ap, ◌∙◌, arith}
use Rattle.std.specs.Fmt.{decimal}
use Rattle.std.specs.Prelude.{unwrap_or}
use Rattle.std.specs.Str.{bytes_eq}
use Rattle.std.proofs.lemmas.Bool.{and_parts, eqb-true}
use Rattle.std.proofs.lemmas.Bool.Decides.{nat_tests}
use Rattle.std.proofs.lemmas.Option.{same_Some}
use Rattle.std.proofs.lemmas.Slice.Eq.{bytes_eq-Decides}
use Rattle.mk_spelling.specs.declared.fault.TextFault.{TextFault}
use Rattle.mk_spelling.specs.declared.fault.TextFault.TheVariants as faults
use Rattle.mk_spelling.specs.Words.{cut, is_name, is_number, value, ranged, number, none_left}
use Rattle.mk_spelling.specs.Fields.{◌>>=◌, named, place, one_on, one_of, two_of}
use Rattle.mk_spelling.proofs.Cuts.{IsCut-from_cut}
use Rattle.mk_spelling.proofs.FieldLaws.{named-back}
use Rattle.mk_spelling.proofs.Numbers.{number-back}
use Rattle.mk_spelling.proofs.PlaceLaws.{place-get}
use Rattle.mk_txn.specs.declared.Value.TheVariants.{Number, Absent}
use Rattle.mk_trace_lines.specs.declared.words.ActWord.{ActWord}
use Rattle.mk_trace_lines.specs.declared.words.ActWord.TheVariants as words
use Rattle.mk_trace_lines.specs.declared.words.Replier.{Replier}
use Rattle.mk_trace_lines.specs.declared.words.Replier.TheVariants as repliers
use Rattle.mk_trace_lines.specs.declared.words.ReplyWord.{ReplyWord}
use Rattle.mk_trace_lines.specs.declared.words.ReplyWord.TheVariants as replies
use Rattle.mk_trace_lines.specs.LineWords.{act_text, act_list, reason_text, check_reasons, okay_text, none_text, reply_text, reply_list}
use Rattle.mk_trace_lines.specs.TraceLines.{client_name, key_name, attempt_text, stamp_text, value_text, write_text, answer_words, turn_words, reply_words}
use Rattle.mk_trace_lines.specs.ActShapes as shapes
use Rattle.mk_trace_lines.specs.ActShapes.{Parts, AnswerShape, ActShape, first_of, stamp_parts, answer_shape, alone, act_shape, stamp_of, value_of, is_none, answer_of, turn_of}
use Rattle.mk_trace_lines.specs.ActShapes.AnswerShape.{OkayShape, RefusedShape}
use Rattle.mk_trace_lines.specs.ActShapes.ActShape.{GetShape, CheckReadShape, CheckWriteShape, CommitReadShape, CommitWriteShape, ReleaseReadShape, ReleaseWriteShape}
use Rattle.mk_trace_lines.specs.Replies as reply_shapes
use Rattle.mk_trace_lines.specs.Replies.{ReplyShape, reply_shape, reply_of, suits}
use Rattle.mk_trace_lines.specs.Replies.ReplyShape.{OneWord, OneNumber, TwoNumbers}
use Rattle.mk_trace_text.specs.States.{State}
use Rattle.mk_trace_text.specs.Grammar.{is_text_of, below, client_number, attempt_of, key_of, write_word, writes_of}
use Rattle.mk_trace.proofs.FitLaws.{Gives, need_law, bind_law, done_law, failed_law, weaker_law, self_law, found_law}
use Rattle.mk_trace.proofs.FieldsAgain.{ltb-low, ranged_again}

-- ---- just so many words

pub one_back : (ws : List (List ℕ)) (a : List ℕ) → one_of ws ≡ Some a → ws ≡ a ∷ []
one_back [] a e = absurd cc
one_back (w ∷ []) a e = ap (λ (x : List ℕ). x ∷ []) (same_Some w a e)
one_back (w ∷ v ∷ ws) a e = absurd cc

pub two_back : (ws : List (List ℕ)) (p : List ℕ × List ℕ) → two_of ws ≡ Some p → ws ≡ p.0 ∷ p.1 ∷ []
two_back [] p e = absurd cc
two_back (w ∷ []) p e = absurd cc
two_back (w ∷ v ∷ []) p e = ap (λ (x : List ℕ × List ℕ). x.0 ∷ x.1 ∷ []) (same_Some (w, v) p e)
two_back (w ∷ v ∷ u ∷ ws) p e = absurd cc

pub first_back : (ws : List (List ℕ)) (p : List ℕ × List (List ℕ)) → first_of ws ≡ Some p → ws ≡ p.0 ∷ p.1
first_back [] p e = absurd cc
first_back (w ∷ ws) p e = ap (λ (x : List ℕ × List (List ℕ)). x.0 ∷ x.1) (same_Some (w, ws) p e)

pub none_back : (ws : List (List ℕ)) → none_left ws ≡ true → ws ≡ []
none_back [] e = refl
none_back (w ∷ ws) e = absurd cc

-- ---- numbers

pub number_is : (low high : ℕ) (w : List ℕ) → high < 2 ^ 64 → Gives (λ n. w ≡ decimal n) (number low high w)
number_is low high w fits = weaker_law (λ n e. (number-back low high w n fits e).0) (self_law (number low high w))

-- a number is the digits of its value
pub digits_back : (w : List ℕ) → is_number w ≡ true → value w < 2 ^ 64 → w ≡ decimal (value w)
digits_back w e fits = (number-back 0 (2 ^ 64 - 1) w (value w) (omega arith) whole).0
  where
    at : (a : Bool) → a ≡ true → (r : Result ℕ TextFault) → r ≡ Ok (value w) → cond a r (Err faults.Number) ≡ Ok (value w)
    at true e r h = h
    at false e r h = absurd cc

    whole : number 0 (2 ^ 64 - 1) w ≡ Ok (value w)
    whole = at (is_number w) e (ranged 0 (2 ^ 64 - 1) (value w)) (ranged_again (2 ^ 64 - 1) (value w) (omega (arith, fits)))

pub below_is : (n : ℕ) (w : List ℕ) → n ≤ 2 ^ 63 → Gives (λ k. (w ≡ decimal k) × (k < n)) (below n w)
below_is n w few =
    need_law (is_number w) _ (λ is. need_law (ltb (value w) n) _ (λ small.
    (let low = ltb-low (value w) n small in done_law (digits_back w is (omega (arith, low, few)), low))))

pub text_is : (n : ℕ) (w : List ℕ) → is_text_of n w ≡ true → value w ≡ n
text_is n w e = eqb-true (value w) n (and_parts (is_number w) (eqb (value w) n) e).1

pub text_back : (n : ℕ) (w : List ℕ) → n < 2 ^ 64 → is_text_of n w ≡ true → w ≡ decimal n
text_back n w fits e =
    let same = text_is n w e in
    digits_back w (and_parts (is_number w) (eqb (value w) n) e).0 (omega (arith, same, fits)) ∙ ap decimal same

-- ---- stamps and values

abbrev pub joined : List ℕ × List ℕ → List ℕ
joined p = p.0 ++ 46 ∷ p.1

pub cut_is : (mark : ℕ) (w : List ℕ) (p : List ℕ × List ℕ) → cut mark w ≡ Some p → w ≡ p.0 ++ mark ∷ p.1
cut_is mark w p e = (IsCut-from_cut mark w p e).parts

stamp_parts_is : (w : List ℕ) → Gives (λ p. w ≡ joined p) (stamp_parts w)
stamp_parts_is w = weaker_law (λ p e. cut_is 46 w p e) (found_law faults.Form (cut 46 w))

ranged_is : (high n : ℕ) → Gives (λ k. (k ≡ n) × (k ≤ high)) (ranged 0 high n)
ranged_is high n = here (leb 0 n) (leb n high) refl
  where
    here : (a b : Bool) → leb n high ≡ b → Gives (λ k. (k ≡ n) × (k ≤ high)) (cond (a && b) (Ok n) (Err faults.Large))
    here true true e = done_law (refl, grind (arith, nat_tests))
    here true false e = failed_law
    here false b e = failed_law

stamp_is : (p : Parts) → Gives (λ t. joined p ≡ stamp_text t) (stamp_of p)
stamp_is p =
    need_law (is_number p.0) _ (λ a. need_law (is_number p.1) _ (λ b.
    bind_law (ranged_is (2 ^ 62) (value p.0)) (λ time t. bind_law (ranged_is 64 (value p.1)) (λ client c.
    done_law (both p.0 p.1 time client (digits_back p.0 a (omega (arith, t)) ∙ ap decimal (sym t.0)) (digits_back p.1 b (omega (arith, c)) ∙ ap decimal (sym c.0)))))))
  where
    both : (x y : List ℕ) (time client : ℕ) → x ≡ decimal time → y ≡ decimal client → x ++ 46 ∷ y ≡ decimal time ++ 46 ∷ decimal client
    both x y time client e k = ap (λ (z : List ℕ). z ++ 46 ∷ y) e ∙ ap (λ (z : List ℕ). decimal time ++ 46 ∷ z) k

pub value_is : (version : ℕ) (w : List ℕ) → Gives (λ v. w ≡ value_text v) (value_of version w)
value_is version w = here (eqb version 2) (is_none w) refl
  where
    here : (a b : Bool) → is_none w ≡ b → Gives (λ v. w ≡ value_text v) (cond (a && b) (Ok Absent) (number 0 (2 ^ 64 - 1) w >>= λ n. Ok (Number n)))
    here true true e = done_law (sym ((bytes_eq-Decides none_text w).0 e))
    here true false e = bind_law (number_is 0 (2 ^ 64 - 1) w (omega arith)) (λ n h. done_law h)
    here false b e = bind_law (number_is 0 (2 ^ 64 - 1) w (omega arith)) (λ n h. done_law h)

-- ---- names

pub key_name_is : (names : List (List ℕ)) (w : List ℕ) (k : ℕ) → place w names ≡ Some k → w ≡ key_name names k
key_name_is names w k e = sym (ap (λ (o : Option (List ℕ)). unwrap_or o []) (place-get w names k e))

pub client_name_is : (names : List (List ℕ)) (w : List ℕ) (c : ℕ) → one_on (place w names) ≡ Some c → w ≡ client_name names c
client_name_is names w c e = here (place w names) refl e
  where
    here : (o : Option ℕ) → place w names ≡ o → one_on o ≡ Some c → w ≡ client_name names c
    here None p h = absurd cc
    here (Some k) p h =
        let same : suc k ≡ c = same_Some (suc k) c h in
        let back : k ≡ c - 1 = omega (arith, same) in
        key_name_is names w k p ∙ ap (key_name names) back

pub key_is : (s : State) (w : List ℕ)
    → Gives (λ k. (w ≡ key_name s.head.key_names.names k) × (place w s.head.key_names.names ≡ Some k) × (is_name w ≡ true)) (key_of s w)
key_is s w = need_law (is_name w) _ (λ well. weaker_law (λ k e. (key_name_is s.head.key_names.names w k e, e, well)) (found_law faults.Unknown (place w s.head.key_names.names)))

pub attempt_is : (s : State) (p : List ℕ × List ℕ)
    → Gives (λ id. (joined p ≡ attempt_text s.head.client_names.names id.client id.seq) × (p.1 ≡ decimal id.seq)
    × (one_on (place p.0 s.head.client_names.names) ≡ Some id.client) × (is_name p.0 ≡ true) × (id.seq ≤ 16384)) (attempt_of s p)
attempt_is s p =
    bind_law (weaker_law (λ n e. number-back 1 16384 p.1 n (omega arith) e) (self_law (number 1 16384 p.1))) (λ seq q.
    need_law (is_name p.0) _ (λ well. bind_law (found_law faults.Unknown (client_number s p.0)) (λ client is.
    done_law (both p.0 p.1 (client_name s.head.client_names.names client) (decimal seq) (client_name_is s.head.client_names.names p.0 client is) q.0, q.0, is, well, q.2))))
  where
    both : (x y a b : List ℕ) → x ≡ a → y ≡ b → x ++ 46 ∷ y ≡ a ++ 46 ∷ b
    both x y a b e k = ap (λ (z : List ℕ). z ++ 46 ∷ y) e ∙ ap (λ (z : List ℕ). a ++ 46 ∷ z) k

-- ---- writes

write_is : (s : State) (w : List ℕ) → Gives (λ item. w ≡ write_text s.head.key_names.names item) (write_word s w)
write_is s w =
    bind_law (found_law faults.Form (cut 61 w)) (λ p e. bind_law (value_is s.head.version p.1) (λ v h. bind_law (key_is s p.0) (λ k q.
    done_law (cut_is 61 w p e ∙ ap (λ (x : List ℕ). x ++ 61 ∷ p.1) q.0 ∙ ap (λ (x : List ℕ). key_name s.head.key_names.names k ++ 61 ∷ x) h))))

pub writes_are : (s : State) (ws : List (List ℕ)) → Gives (λ items. ws ≡ map (write_text s.head.key_names.names) items) (writes_of s ws)
writes_are s [] = done_law refl
writes_are s (w ∷ ws) =
    bind_law (write_is s w) (λ item e. bind_law (writes_are s ws) (λ items k.
    done_law (ap (λ (x : List ℕ). x ∷ ws) e ∙ ap (λ (x : List (List ℕ)). write_text s.head.key_names.names item ∷ x) k)))

-- ---- acts with answers

-- the words of a form
abbrev said_words : AnswerShape → List (List ℕ)
said_words OkayShape = okay_text ∷ []
said_words (RefusedShape reason stamp) = reason ∷ joined stamp ∷ []

abbrev pub shape_words : ActShape → List (List ℕ)
shape_words (GetShape version w) = act_text words.Get ∷ joined version ∷ w ∷ []
shape_words (CheckReadShape ts version answer) = act_text words.CheckRead ∷ joined ts ∷ joined version ∷ said_words answer
shape_words (CheckWriteShape ts answer) = act_text words.CheckWrite ∷ joined ts ∷ said_words answer
shape_words (CommitReadShape ts) = act_text words.CommitRead ∷ joined ts ∷ []
shape_words (CommitWriteShape ts w) = act_text words.CommitWrite ∷ joined ts ∷ w ∷ []
shape_words (ReleaseReadShape ts) = act_text words.ReleaseRead ∷ joined ts ∷ []
shape_words (ReleaseWriteShape ts) = act_text words.ReleaseWrite ∷ joined ts ∷ []

abbrev two_words : List ℕ → List ℕ → List (List ℕ)
two_words a b = a ∷ b ∷ []

answer_shape_is : (ws : List (List ℕ)) → Gives (λ a. ws ≡ said_words a) (answer_shape ws)
answer_shape_is ws = bind_law (found_law faults.Form (first_of ws)) (λ w e. at w (none_left w.1) refl (first_back ws w e))
  where
    okay : (w : List ℕ × List (List ℕ)) → none_left w.1 ≡ true → ws ≡ w.0 ∷ w.1 → (b : Bool) → bytes_eq okay_text w.0 ≡ b
        → Gives (λ a. ws ≡ said_words a) (cond b (Ok OkayShape) (Err faults.Form))
    okay w n e true h =
        done_law (e ∙ ap (λ (x : List (List ℕ)). w.0 ∷ x) (none_back w.1 n) ∙ ap (λ (x : List ℕ). x ∷ []) (sym ((bytes_eq-Decides okay_text w.0).0 h)))
    okay w n e false h = failed_law

    at : (w : List ℕ × List (List ℕ)) (b : Bool) → none_left w.1 ≡ b → ws ≡ w.0 ∷ w.1
        → Gives (λ a. ws ≡ said_words a) (cond b (shapes.okay_shape w.0) (shapes.refused_shape w.0 w.1))
    at w true n e = okay w n e (bytes_eq okay_text w.0) refl
    at w false n e =
        bind_law (found_law faults.Form (one_of w.1)) (λ last k. bind_law (stamp_parts_is last) (λ p h.
        done_law (e ∙ ap (λ (x : List (List ℕ)). w.0 ∷ x) (one_back w.1 last k) ∙ ap (λ (x : List ℕ). two_words w.0 x) h)))

alone_is : (ws : List (List ℕ)) → Gives (λ p. ws ≡ joined p ∷ []) (alone ws)
alone_is ws = bind_law (found_law faults.Form (one_of ws)) (λ w e. weaker_law (λ p h. one_back ws w e ∙ ap (λ (x : List ℕ). x ∷ []) h) (stamp_parts_is w))

-- two words, the first of which is a stamp
stamp_first_is : (ws : List (List ℕ)) (w : List ℕ × List ℕ) (p : Parts) → two_of ws ≡ Some w → w.0 ≡ joined p → ws ≡ joined p ∷ w.1 ∷ []
stamp_first_is ws w p e h = two_back ws w e ∙ ap (λ (x : List ℕ). x ∷ w.1 ∷ []) h

shape_behind_is : (word : ActWord) (ws : List (List ℕ)) → Gives (λ shape. act_text word ∷ ws ≡ shape_words shape) (shapes.shape_behind word ws)
shape_behind_is words.Get ws =
    bind_law (found_law faults.Form (two_of ws)) (λ w e. bind_law (stamp_parts_is w.0) (λ p h.
    done_law (ap (λ (x : List (List ℕ)). act_text words.Get ∷ x) (stamp_first_is ws w p e h))))
shape_behind_is words.CheckRead ws =
    bind_law (found_law faults.Form (first_of ws)) (λ w e. bind_law (stamp_parts_is w.0) (λ p h.
    bind_law (found_law faults.Form (first_of w.1)) (λ v k. bind_law (stamp_parts_is v.0) (λ q l. bind_law (answer_shape_is v.1) (λ a m.
    done_law (
    ap (λ (x : List (List ℕ)). act_text words.CheckRead ∷ x)
    (first_back ws w e ∙ ap (λ (x : List ℕ). x ∷ w.1) h ∙ ap (λ (x : List (List ℕ)). joined p ∷ x) (first_back w.1 v k)
    ∙ ap (λ (x : List ℕ). joined p ∷ x ∷ v.1) l ∙ ap (λ (x : List (List ℕ)). joined p ∷ joined q ∷ x) m)))))))
shape_behind_is words.CheckWrite ws =
    bind_law (found_law faults.Form (first_of ws)) (λ w e. bind_law (stamp_parts_is w.0) (λ p h. bind_law (answer_shape_is w.1) (λ a m.
    done_law (
    ap (λ (x : List (List ℕ)). act_text words.CheckWrite ∷ x)
    (first_back ws w e ∙ ap (λ (x : List ℕ). x ∷ w.1) h ∙ ap (λ (x : List (List ℕ)). joined p ∷ x) m)))))
shape_behind_is words.CommitRead ws = bind_law (alone_is ws) (λ p h. done_law (ap (λ (x : List (List ℕ)). act_text words.CommitRead ∷ x) h))
shape_behind_is words.CommitWrite ws =
    bind_law (found_law faults.Form (two_of ws)) (λ w e. bind_law (stamp_parts_is w.0) (λ p h.
    done_law (ap (λ (x : List (List ℕ)). act_text words.CommitWrite ∷ x) (stamp_first_is ws w p e h))))
shape_behind_is words.ReleaseRead ws = bind_law (alone_is ws) (λ p h. done_law (ap (λ (x : List (List ℕ)). act_text words.ReleaseRead ∷ x) h))
shape_behind_is words.ReleaseWrite ws = bind_law (alone_is ws) (λ p h. done_law (ap (λ (x : List (List ℕ)). act_text words.ReleaseWrite ∷ x) h))

pub act_shape_is : (ws : List (List ℕ)) → Gives (λ shape. ws ≡ shape_words shape) (act_shape ws)
act_shape_is ws =
    bind_law (found_law faults.Form (first_of ws)) (λ w e. bind_law (found_law faults.Form (named act_text act_list w.0)) (λ word h.
    weaker_law (λ shape k. first_back ws w e ∙ ap (λ (x : List ℕ). x ∷ w.1) (named-back act_text act_list w.0 word h) ∙ k) (shape_behind_is word w.1)))

said_is : (read : Bool) (shape : AnswerShape) → Gives (λ a. said_words shape ≡ answer_words a) (answer_of read shape)
said_is read OkayShape = done_law refl
said_is read (RefusedShape word stamp) =
    bind_law (found_law faults.Unknown (named reason_text (check_reasons read) word)) (λ reason e. bind_law (stamp_is stamp) (λ other h.
    done_law (ap (λ (x : List ℕ). two_words x (joined stamp)) (named-back reason_text (check_reasons read) word reason e) ∙ ap (λ (x : List ℕ). two_words (reason_text reason) x) h)))

pub turn_is : (version : ℕ) (shape : ActShape) → Gives (λ t. shape_words shape ≡ turn_words t.0 t.1) (turn_of version shape)
turn_is version (GetShape stamp w) =
    bind_law (stamp_is stamp) (λ seen h. bind_law (value_is version w) (λ v k.
    done_law (ap (λ (x : List ℕ). act_text words.Get ∷ x ∷ w ∷ []) h ∙ ap (λ (x : List ℕ). act_text words.Get ∷ stamp_text seen ∷ x ∷ []) k)))
turn_is version (CheckReadShape stamp seen answer) =
    bind_law (stamp_is stamp) (λ ts h. bind_law (stamp_is seen) (λ read k. bind_law (said_is true answer) (λ a m.
    done_law (ap (λ (x : List ℕ). act_text words.CheckRead ∷ x ∷ joined seen ∷ said_words answer) h
    ∙ ap (λ (x : List ℕ). act_text words.CheckRead ∷ stamp_text ts ∷ x ∷ said_words answer) k
    ∙ ap (λ (x : List (List ℕ)). act_text words.CheckRead ∷ stamp_text ts ∷ stamp_text read ∷ x) m))))
turn_is version (CheckWriteShape stamp answer) =
    bind_law (stamp_is stamp) (λ ts h. bind_law (said_is false answer) (λ a m.
    done_law (ap (λ (x : List ℕ). act_text words.CheckWrite ∷ x ∷ said_words answer) h
    ∙ ap (λ (x : List (List ℕ)). act_text words.CheckWrite ∷ stamp_text ts ∷ x) m)))
turn_is version (CommitReadShape stamp) = bind_law (stamp_is stamp) (λ ts h. done_law (ap (λ (x : List ℕ). act_text words.CommitRead ∷ x ∷ []) h))
turn_is version (CommitWriteShape stamp w) =
    bind_law (stamp_is stamp) (λ ts h. bind_law (value_is version w) (λ v k.
    done_law (ap (λ (x : List ℕ). act_text words.CommitWrite ∷ x ∷ w ∷ []) h ∙ ap (λ (x : List ℕ). act_text words.CommitWrite ∷ stamp_text ts ∷ x ∷ []) k)))
turn_is version (ReleaseReadShape stamp) = bind_law (stamp_is stamp) (λ ts h. done_law (ap (λ (x : List ℕ). act_text words.ReleaseRead ∷ x ∷ []) h))
turn_is version (ReleaseWriteShape stamp) = bind_law (stamp_is stamp) (λ ts h. done_law (ap (λ (x : List ℕ). act_text words.ReleaseWrite ∷ x ∷ []) h))

-- ---- answers of global lines

abbrev pub reply_shape_words : ReplyShape → List (List ℕ)
reply_shape_words (OneWord word) = reply_text word ∷ []
reply_shape_words (OneNumber word n) = reply_text word ∷ n ∷ []
reply_shape_words (TwoNumbers word n m) = reply_text word ∷ n ∷ m ∷ []

behind_is : (word : ReplyWord) (ws : List (List ℕ)) → Gives (λ shape. reply_text word ∷ ws ≡ reply_shape_words shape) (reply_shapes.shape_behind word ws)
behind_is word [] = done_law refl
behind_is word (n ∷ []) = done_law refl
behind_is word (n ∷ m ∷ more) = need_law (none_left more) _ (λ none. done_law (ap (λ (x : List (List ℕ)). reply_text word ∷ n ∷ m ∷ x) (none_back more none)))

pub reply_shape_is : (replier : Replier) (ws : List (List ℕ)) → Gives (λ shape. (ws ≡ reply_shape_words shape) × (suits replier shape ≡ true)) (reply_shape replier ws)
reply_shape_is replier ws =
    bind_law (found_law faults.Form (first_of ws)) (λ w e. bind_law (found_law faults.Form (named reply_text reply_list w.0)) (λ word h.
    bind_law (behind_is word w.1) (λ shape k. need_law (suits replier shape) _ (λ fits.
    done_law (first_back ws w e ∙ ap (λ (x : List ℕ). x ∷ w.1) (named-back reply_text reply_list w.0 word h) ∙ k, fits)))))

-- two numbers stand behind ok alone
two_behind_ok : (replier : Replier) (word : ReplyWord) (n m : List ℕ) → suits replier (TwoNumbers word n m) ≡ true → word ≡ replies.Ok
two_behind_ok repliers.Merge replies.Ok n m e = refl
two_behind_ok repliers.Merge replies.Unasked n m e = absurd cc
two_behind_ok repliers.Merge replies.Unmade n m e = absurd cc
two_behind_ok repliers.Merge replies.Lacking n m e = absurd cc
two_behind_ok repliers.Merge replies.Old n m e = absurd cc
two_behind_ok repliers.Merge replies.WordFault n m e = absurd cc
two_behind_ok repliers.Merge replies.Short n m e = absurd cc
two_behind_ok repliers.Promise replies.Ok n m e = absurd cc
two_behind_ok repliers.Promise replies.Unasked n m e = absurd cc
two_behind_ok repliers.Promise replies.Unmade n m e = absurd cc
two_behind_ok repliers.Promise replies.Lacking n m e = absurd cc
two_behind_ok repliers.Promise replies.Old n m e = absurd cc
two_behind_ok repliers.Promise replies.WordFault n m e = absurd cc
two_behind_ok repliers.Promise replies.Short n m e = absurd cc
two_behind_ok repliers.Adopt replies.Ok n m e = absurd cc
two_behind_ok repliers.Adopt replies.Unasked n m e = absurd cc
two_behind_ok repliers.Adopt replies.Unmade n m e = absurd cc
two_behind_ok repliers.Adopt replies.Lacking n m e = absurd cc
two_behind_ok repliers.Adopt replies.Old n m e = absurd cc
two_behind_ok repliers.Adopt replies.WordFault n m e = absurd cc
two_behind_ok repliers.Adopt replies.Short n m e = absurd cc
two_behind_ok repliers.Enter replies.Ok n m e = absurd cc
two_behind_ok repliers.Enter replies.Unasked n m e = absurd cc
two_behind_ok repliers.Enter replies.Unmade n m e = absurd cc
two_behind_ok repliers.Enter replies.Lacking n m e = absurd cc
two_behind_ok repliers.Enter replies.Old n m e = absurd cc
two_behind_ok repliers.Enter replies.WordFault n m e = absurd cc
two_behind_ok repliers.Enter replies.Short n m e = absurd cc

numbered_is : (word : ReplyWord) (n : List ℕ) → Gives (λ a. reply_text word ∷ n ∷ [] ≡ reply_words a) (reply_shapes.numbered_reply word n)
numbered_is replies.Ok n = bind_law (number_is 0 7 n (omega arith)) (λ k h. done_law (ap (λ (x : List ℕ). reply_text replies.Ok ∷ x ∷ []) h))
numbered_is replies.Old n = bind_law (number_is 0 1000 n (omega arith)) (λ k h. done_law (ap (λ (x : List ℕ). reply_text replies.Old ∷ x ∷ []) h))
numbered_is replies.Short n = bind_law (number_is 0 7 n (omega arith)) (λ k h. done_law (ap (λ (x : List ℕ). reply_text replies.Short ∷ x ∷ []) h))
numbered_is replies.Unasked n = failed_law
numbered_is replies.Unmade n = failed_law
numbered_is replies.Lacking n = failed_law
numbered_is replies.WordFault n = failed_law

plain_is : (word : ReplyWord) → Gives (λ a. reply_text word ∷ [] ≡ reply_words a) (reply_shapes.plain_reply word)
plain_is replies.Ok = done_law refl
plain_is replies.Unasked = done_law refl
plain_is replies.Unmade = done_law refl
plain_is replies.Lacking = done_law refl
plain_is replies.WordFault = done_law refl
plain_is replies.Old = failed_law
plain_is replies.Short = failed_law

pub reply_is : (replier : Replier) (shape : ReplyShape) → suits replier shape ≡ true → Gives (λ a. reply_shape_words shape ≡ reply_words a) (reply_of shape)
reply_is replier (OneWord word) e = plain_is word
reply_is replier (OneNumber word n) e = numbered_is word n
reply_is replier (TwoNumbers word n m) e =
    bind_law (number_is 0 (2 ^ 64 - 1) n (omega arith)) (λ commits h. bind_law (number_is 0 (2 ^ 64 - 1) m (omega arith)) (λ aborts k.
    done_law (ap (λ (x : ReplyWord). reply_text x ∷ n ∷ m ∷ []) (two_behind_ok replier word n m e)
    ∙ ap (λ (x : List ℕ). reply_text replies.Ok ∷ x ∷ m ∷ []) h ∙ ap (λ (x : List ℕ). reply_text replies.Ok ∷ decimal commits ∷ x ∷ []) k)))
