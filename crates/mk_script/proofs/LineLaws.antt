-- A line that passes the tests is a line of the grammar.
use Rattle.std.proofs.Common.{◌≡◌, ◌≢◌, ℕ, ◌+◌, ◌*◌, ◌<◌, ◌≤◌, ◌^◌, Bool, true, false, cond, leb, ltb, not, List, [], ◌∷◌, ◌++◌, length, map, Option, Some, None, Result, Ok, refl, sym, ap, ◌∙◌, arith, inl, inr}
use Rattle.std.specs.Prelude.{is_some}
use Rattle.std.specs.Fmt.{decimal}
use Rattle.std.specs.Str.{bytes_eq}
use Rattle.std.specs.List.{list_any}
use Rattle.std.proofs.lemmas.Bool.{eqb-true, leb-true, ltb-true, not-true}
use Rattle.std.proofs.lemmas.Fmt.{decimal_digit}
use Rattle.mk_spelling.specs.declared.fault.TextFault.{TextFault}
use Rattle.mk_spelling.specs.declared.fault.TextFault.TheVariants as faults
use Rattle.mk_spelling.specs.Words.{words, cut, is_name, number, is_printable, is_empty}
use Rattle.mk_spelling.specs.Fields.{◌>>=◌, ◌>>◌, need, found, named, place}
use Rattle.mk_spelling.proofs.Cuts.{IsCut-from_cut}
use Rattle.mk_spelling.proofs.Numbers.{number-back}
use Rattle.mk_spelling.proofs.FieldLaws.{bind_ok, need_ok, found_ok, ok_is, named-back}
use Rattle.mk_spelling.proofs.Joins.{joined_words}
use Rattle.mk_txn.specs.declared.TxnId.{TxnId}
use Rattle.mk_words.specs.declared.MsgKind.{MsgKind}
use Rattle.mk_words.specs.declared.GlobalLine.{GlobalLine}
use Rattle.mk_words.specs.declared.GlobalLine.TheVariants as globals
use Rattle.mk_script.specs.declared.words.Keyword.{Keyword}
use Rattle.mk_script.specs.declared.words.Keyword.TheVariants as keywords
use Rattle.mk_script.specs.declared.lines.Fate.{Fate}
use Rattle.mk_script.specs.declared.lines.Fate.TheVariants as fates
use Rattle.mk_script.specs.declared.lines.Point.{Point}
use Rattle.mk_script.specs.declared.lines.FaultLine.{FaultLine}
use Rattle.mk_script.specs.declared.lines.StopLine.{StopLine}
use Rattle.mk_script.specs.Scripts.{State, names_of, client_number, txn_count, takeover_count, global_count, total}
use Rattle.mk_script.specs.Grammar.{Mention, Line, id_text, mention_text, global_words, line_words, keys_after, same_message, same_attempt, IsAttempt, GlobalFits, Fits, after, IsPassedOver, Says}
use Rattle.mk_script.specs.LineWords.{kind_text, fate_text, point_text, keyword_text, version_text, versions, kind_list, fate_list, point_list, keyword_list}
use Rattle.mk_script.specs.Grammar.Line.{Opens, Sizes, Declares, Retries, Injects, Halts, Tries, TakesOver, Changes, NextRound}
use Rattle.mk_script.specs.Faults.{at_start, at_size, in_prelude, in_rounds, behind_prelude, attempt_of, ask_line, merge_line, enter_line, promise_line, adopt_line, version_result, size_result, client_result, retry_result, fault_result, stop_result, txn_result, takeover_result, global_result, wipe_result, epoch_result, member_result, round_result, by_keyword, by_words, is_passed_over, counted_result, line_result}
use Rattle.mk_script.specs.ItemShapes.{are_items, mentions_of}
use Rattle.mk_script.proofs.Shapes.{mentions-back}
use Rattle.mk_script.proofs.Passed.{start_from, size_from, prelude_from, rounds_from, behind_from, none_from}

-- these words are a line that fits, and leaves t
abbrev IsOf : State → Keyword → List (List ℕ) → State → Type 0
IsOf s k ws t = (line : Line) × (keyword_text k ∷ ws ≡ line_words line) × Fits s line × (t ≡ after s line)

-- ---- fields

one_or_two : (word : List ℕ) (v : ℕ) → named version_text versions word ≡ Some v → (1 ≤ v) × (v ≤ 2)
one_or_two word v e = here (bytes_eq (version_text 1) word) (bytes_eq (version_text 2) word) e
  where
    here : (a b : Bool) → cond a (Some 1) (cond b (Some 2) None) ≡ Some v → (1 ≤ v) × (v ≤ 2)
    here true b h = let k : v ≡ 1 = cc in (omega arith, omega arith)
    here false true h = let k : v ≡ 2 = cc in (omega arith, omega arith)
    here false false h = absurd cc

-- no word is the fate Deliver
injected : (word : List ℕ) (fate : Fate) → named fate_text fate_list word ≡ Some fate → fate ≢ fates.Deliver
injected word fates.Lose e = λ h. absurd cc
injected word fates.Twice e = λ h. absurd cc
injected word fates.Late e = λ h. absurd cc
injected word fates.NextRound e = λ h. absurd cc
injected word fates.Deliver e =
    here (bytes_eq (fate_text fates.Lose) word) (bytes_eq (fate_text fates.Twice) word) (bytes_eq (fate_text fates.Late) word) (bytes_eq (fate_text fates.NextRound) word) e
  where
    here : (a b c d : Bool)
        → cond a (Some fates.Lose) (cond b (Some fates.Twice) (cond c (Some fates.Late) (cond d (Some fates.NextRound) None))) ≡ Some fates.Deliver
        → fates.Deliver ≢ fates.Deliver
    here true b c d h = absurd cc
    here false true c d h = absurd cc
    here false false true d h = absurd cc
    here false false false true h = absurd cc
    here false false false false h = absurd cc

-- the parts of an id that was read
record IsRead (s : State) (p : List ℕ × List ℕ) (id : TxnId) : Type 0 where
  attempt : IsAttempt s p.0 id
  seq : p.1 ≡ decimal id.seq

attempt-back : (s : State) (p : List ℕ × List ℕ) (id : TxnId) → attempt_of s p ≡ Ok id → IsRead s p id
attempt-back s p id e =
    let made = λ (seq client : ℕ). made_of client seq in
    let known = λ (seq : ℕ). found faults.Unknown (client_number s p.0) >>= made seq in
    let well = λ (seq : ℕ). need (is_name p.0) faults.Name >> known seq in
    let a = bind_ok (number 1 16384 p.1) well id e in
    let n = need_ok (is_name p.0) faults.Name (known a.0) id a.2 in
    let k = bind_ok (found faults.Unknown (client_number s p.0)) (made a.0) id n.1 in
    let sn = number-back 1 16384 p.1 a.0 (omega arith) a.1 in
    let cn = found_ok faults.Unknown (client_number s p.0) k.0 k.1 in
    let same = ok_is (id_of k.0 a.0) id k.2 in
    let seq_is = ap (λ (x : TxnId). x.seq) same in
    record {
      attempt =
          record { low = omega (arith, sn.1, seq_is); high = omega (arith, sn.2, seq_is); well_named = n.0; declared = cn ∙ ap (λ (x : TxnId). some_number x.client) same };
      seq = sn.0 ∙ ap decimal seq_is;
    }
  where
    some_number : ℕ → Option ℕ
    some_number n = Some n

    id_of : ℕ → ℕ → TxnId
    id_of client seq = record { client = client; seq = seq }

    made_of : ℕ → ℕ → Result TxnId TextFault
    made_of client seq = Ok (record { client = client; seq = seq })

-- ---- each kind of line

version-back : (s : State) (ws : List (List ℕ)) (t : State) → version_result s ws ≡ Ok t → IsOf s keywords.Meerkat ws t
version-back s [] t e = absurd cc
version-back s (word ∷ x ∷ ws) t e = absurd cc
version-back s (word ∷ []) t e =
    let a = need_ok (at_start s.section) faults.Order (found faults.Unknown (named version_text versions word) >>= λ v. Ok (after s (Opens v))) t e in
    let b = bind_ok (found faults.Unknown (named version_text versions word)) (λ v. Ok (after s (Opens v))) t a.1 in
    let v = found_ok faults.Unknown (named version_text versions word) b.0 b.1 in
    (Opens b.0, ap (λ (w : List ℕ). keyword_text keywords.Meerkat ∷ w ∷ []) (named-back version_text versions word b.0 v ∙ sym (decimal_digit b.0 (let r = one_or_two word b.0 v in omega arith))), (let r = one_or_two word b.0 v in (start_from s.section a.0, r.0, r.1)), sym (ok_is _ t b.2))

size-back : (s : State) (ws : List (List ℕ)) (t : State) → size_result s ws ≡ Ok t → IsOf s keywords.Size ws t
size-back s [] t e = absurd cc
size-back s (word ∷ x ∷ ws) t e = absurd cc
size-back s (word ∷ []) t e =
    let a = need_ok (at_size s.section) faults.Order (number 1 3 word >>= λ f. Ok (after s (Sizes f))) t e in
    let b = bind_ok (number 1 3 word) (λ f. Ok (after s (Sizes f))) t a.1 in
    let n = number-back 1 3 word b.0 (omega arith) b.1 in
    (Sizes b.0, ap (λ (w : List ℕ). keyword_text keywords.Size ∷ w ∷ []) n.0, (size_from s.section a.0, n.1, n.2), sym (ok_is _ t b.2))

client-back : (s : State) (ws : List (List ℕ)) (t : State) → s.size ≤ 3 → client_result s ws ≡ Ok t → IsOf s keywords.Client ws t
client-back s [] t sized e = absurd cc
client-back s (a ∷ []) t sized e = absurd cc
client-back s (a ∷ b ∷ []) t sized e = absurd cc
client-back s (a ∷ b ∷ c ∷ d ∷ ws) t sized e = absurd cc
client-back s (name ∷ column ∷ home ∷ []) t sized e =
    let new = not (is_some (place name (names_of s.clients))) in
    let ends = λ (c h : ℕ). need new faults.Twice >> Ok (after s (Declares name c h)) in
    let counted = λ (c h : ℕ). need (ltb (length s.clients) 64) faults.Many >> ends c h in
    let homed = λ (c : ℕ). number 0 (2 * s.size) home >>= λ h. counted c h in
    let a = need_ok (in_prelude s.section) faults.Order (need (is_name name) faults.Name >> (number 0 7 column >>= homed)) t e in
    let b = need_ok (is_name name) faults.Name (number 0 7 column >>= homed) t a.1 in
    let c = bind_ok (number 0 7 column) homed t b.1 in
    let h = bind_ok (number 0 (2 * s.size) home) (counted c.0) t c.2 in
    let m = need_ok (ltb (length s.clients) 64) faults.Many (ends c.0 h.0) t h.2 in
    let w = need_ok new faults.Twice (Ok (after s (Declares name c.0 h.0))) t m.1 in
    let cn = number-back 0 7 column c.0 (omega arith) c.1 in
    let hn = number-back 0 (2 * s.size) home h.0 (omega arith) h.1 in (
      Declares name c.0 h.0,
      ap (λ (x : List ℕ). keyword_text keywords.Client ∷ name ∷ x ∷ home ∷ []) cn.0
          ∙ ap (λ (x : List ℕ). keyword_text keywords.Client ∷ name ∷ decimal c.0 ∷ x ∷ []) hn.0,
      record { section = prelude_from s.section a.0; well_named = b.0; column_fits = cn.2; home_fits = hn.2; few = ltb-true _ 64 m.0; fresh = none_from _ w.0 },
      sym (ok_is _ t w.1),
    )

retry-back : (s : State) (ws : List (List ℕ)) (t : State) → retry_result s ws ≡ Ok t → IsOf s keywords.Retry ws t
retry-back s [] t e = absurd cc
retry-back s (word ∷ x ∷ ws) t e = absurd cc
retry-back s (word ∷ []) t e =
    let ends = λ (n : ℕ). need (not (is_some s.retry)) faults.Twice >> Ok (after s (Retries n)) in
    let a = need_ok (in_prelude s.section) faults.Order (number 0 3 word >>= ends) t e in
    let b = bind_ok (number 0 3 word) ends t a.1 in
    let w = need_ok (not (is_some s.retry)) faults.Twice (Ok (after s (Retries b.0))) t b.2 in
    let n = number-back 0 3 word b.0 (omega arith) b.1 in
    (Retries b.0, ap (λ (w : List ℕ). keyword_text keywords.Retry ∷ w ∷ []) n.0, (prelude_from s.section a.0, n.2, none_from _ w.0), sym (ok_is _ t w.1))

fault-back : (s : State) (ws : List (List ℕ)) (t : State) → s.size ≤ 3 → fault_result s ws ≡ Ok t → IsOf s keywords.Fault ws t
fault-back s [] t sized e = absurd cc
fault-back s (a ∷ []) t sized e = absurd cc
fault-back s (a ∷ b ∷ []) t sized e = absurd cc
fault-back s (a ∷ b ∷ c ∷ []) t sized e = absurd cc
fault-back s (a ∷ b ∷ c ∷ d ∷ []) t sized e = absurd cc
fault-back s (a ∷ b ∷ c ∷ d ∷ x ∷ y ∷ ws) t sized e = absurd cc
fault-back s (kind_word ∷ id_word ∷ replica_word ∷ nth_word ∷ fate_word ∷ []) t sized e =
    let line = λ (kind : MsgKind) (id : TxnId) (replica nth : ℕ) (fate : Fate). fault_of kind id replica nth fate in
    let parts = λ (p : List ℕ × List ℕ). need (in_prelude s.section) faults.Order >> kinds_of p in
    let x = bind_ok (found faults.Form (cut 46 id_word)) parts t e in
    let p = x.0 in
    let cut_is = IsCut-from_cut 46 id_word p (found_ok faults.Form (cut 46 id_word) p x.1) in
    let a = need_ok (in_prelude s.section) faults.Order (kinds_of p) t x.2 in
    let k = bind_ok (found faults.Unknown (named kind_text kind_list kind_word)) (ids_of p) t a.1 in
    let i = bind_ok (attempt_of s p) (replicas_of p k.0) t k.2 in
    let r = bind_ok (number 0 (2 * s.size) replica_word) (nths_of p k.0 i.0) t i.2 in
    let n = bind_ok (number 1 255 nth_word) (fates_of p k.0 i.0 r.0) t r.2 in
    let f = bind_ok (found faults.Unknown (named fate_text fate_list fate_word)) (counted_of p k.0 i.0 r.0 n.0) t n.2 in
    let fault = fault_of k.0 i.0 r.0 n.0 f.0 in
    let m = need_ok (ltb (length s.faults + length s.stops) 1024) faults.Many (new_of p fault) t f.2 in
    let w = need_ok (not (list_any (same_message fault) s.faults)) faults.Twice (Ok (after s (Injects p.0 fault))) t m.1 in
    let kn = named-back kind_text kind_list kind_word k.0 (found_ok faults.Unknown (named kind_text kind_list kind_word) k.0 k.1) in
    let id = attempt-back s p i.0 i.1 in
    let rn = number-back 0 (2 * s.size) replica_word r.0 (omega arith) r.1 in
    let nn = number-back 1 255 nth_word n.0 (omega arith) n.1 in
    let found_fate = found_ok faults.Unknown (named fate_text fate_list fate_word) f.0 f.1 in
    let fn = named-back fate_text fate_list fate_word f.0 found_fate in
    let id_is : id_word ≡ id_text p.0 i.0.seq = cut_is.parts ∙ ap (λ (x : List ℕ). p.0 ++ 46 ∷ x) id.seq in (
      Injects p.0 fault,
      ap (λ (x : List ℕ). keyword_text keywords.Fault ∷ x ∷ id_word ∷ replica_word ∷ nth_word ∷ fate_word ∷ []) kn
          ∙ ap (λ (x : List ℕ). keyword_text keywords.Fault ∷ kind_text k.0 ∷ x ∷ replica_word ∷ nth_word ∷ fate_word ∷ []) id_is
          ∙ ap (λ (x : List ℕ). keyword_text keywords.Fault ∷ kind_text k.0 ∷ id_text p.0 i.0.seq ∷ x ∷ nth_word ∷ fate_word ∷ []) rn.0
          ∙ ap (λ (x : List ℕ). keyword_text keywords.Fault ∷ kind_text k.0 ∷ id_text p.0 i.0.seq ∷ decimal r.0 ∷ x ∷ fate_word ∷ []) nn.0
          ∙ ap (λ (x : List ℕ). keyword_text keywords.Fault ∷ kind_text k.0 ∷ id_text p.0 i.0.seq ∷ decimal r.0 ∷ decimal n.0 ∷ x ∷ []) fn,
      record { section = prelude_from s.section a.0; attempt = id.attempt; replica_fits = rn.2; nth_low = nn.1; nth_high = nn.2; injected = injected fate_word f.0 found_fate; few = ltb-true _ 1024 m.0; fresh = not-true _ w.0 },
      sym (ok_is _ t w.1),
    )
  where
    fault_of : MsgKind → TxnId → ℕ → ℕ → Fate → FaultLine
    fault_of kind id replica nth fate = record { kind = kind; id = id; replica = replica; nth = nth; fate = fate }

    new_of : List ℕ × List ℕ → FaultLine → Result State TextFault
    new_of p fault = need (not (list_any (same_message fault) s.faults)) faults.Twice >> Ok (after s (Injects p.0 fault))

    counted_of : List ℕ × List ℕ → MsgKind → TxnId → ℕ → ℕ → Fate → Result State TextFault
    counted_of p kind id replica nth fate = need (ltb (length s.faults + length s.stops) 1024) faults.Many >> new_of p (fault_of kind id replica nth fate)

    fates_of : List ℕ × List ℕ → MsgKind → TxnId → ℕ → ℕ → Result State TextFault
    fates_of p kind id replica nth = found faults.Unknown (named fate_text fate_list fate_word) >>= λ fate. counted_of p kind id replica nth fate

    nths_of : List ℕ × List ℕ → MsgKind → TxnId → ℕ → Result State TextFault
    nths_of p kind id replica = number 1 255 nth_word >>= λ nth. fates_of p kind id replica nth

    replicas_of : List ℕ × List ℕ → MsgKind → TxnId → Result State TextFault
    replicas_of p kind id = number 0 (2 * s.size) replica_word >>= λ replica. nths_of p kind id replica

    ids_of : List ℕ × List ℕ → MsgKind → Result State TextFault
    ids_of p kind = attempt_of s p >>= λ id. replicas_of p kind id

    kinds_of : List ℕ × List ℕ → Result State TextFault
    kinds_of p = found faults.Unknown (named kind_text kind_list kind_word) >>= λ kind. ids_of p kind

stop-back : (s : State) (ws : List (List ℕ)) (t : State) → stop_result s ws ≡ Ok t → IsOf s keywords.Stop ws t
stop-back s [] t e = absurd cc
stop-back s (a ∷ []) t e = absurd cc
stop-back s (a ∷ b ∷ c ∷ ws) t e = absurd cc
stop-back s (id_word ∷ word ∷ []) t e =
    let x = bind_ok (found faults.Form (cut 46 id_word)) (λ (p : List ℕ × List ℕ). need (in_prelude s.section) faults.Order >> ids_of p) t e in
    let p = x.0 in
    let cut_is = IsCut-from_cut 46 id_word p (found_ok faults.Form (cut 46 id_word) p x.1) in
    let a = need_ok (in_prelude s.section) faults.Order (ids_of p) t x.2 in
    let i = bind_ok (attempt_of s p) (points_of p) t a.1 in
    let q = bind_ok (found faults.Unknown (named point_text point_list word)) (counted_of p i.0) t i.2 in
    let stop = stop_of i.0 q.0 in
    let m = need_ok (ltb (length s.faults + length s.stops) 1024) faults.Many (new_of p stop) t q.2 in
    let w = need_ok (not (list_any (same_attempt stop) s.stops)) faults.Twice (Ok (after s (Halts p.0 stop))) t m.1 in
    let id = attempt-back s p i.0 i.1 in
    let pn = named-back point_text point_list word q.0 (found_ok faults.Unknown (named point_text point_list word) q.0 q.1) in
    let id_is : id_word ≡ id_text p.0 i.0.seq = cut_is.parts ∙ ap (λ (x : List ℕ). p.0 ++ 46 ∷ x) id.seq in (
      Halts p.0 stop,
      ap (λ (x : List ℕ). keyword_text keywords.Stop ∷ x ∷ word ∷ []) id_is ∙ ap (λ (x : List ℕ). keyword_text keywords.Stop ∷ id_text p.0 i.0.seq ∷ x ∷ []) pn,
      record { section = prelude_from s.section a.0; attempt = id.attempt; few = ltb-true _ 1024 m.0; fresh = not-true _ w.0 },
      sym (ok_is _ t w.1),
    )
  where
    stop_of : TxnId → Point → StopLine
    stop_of id point = record { id = id; point = point }

    new_of : List ℕ × List ℕ → StopLine → Result State TextFault
    new_of p stop = need (not (list_any (same_attempt stop) s.stops)) faults.Twice >> Ok (after s (Halts p.0 stop))

    counted_of : List ℕ × List ℕ → TxnId → Point → Result State TextFault
    counted_of p id point = need (ltb (length s.faults + length s.stops) 1024) faults.Many >> new_of p (stop_of id point)

    points_of : List ℕ × List ℕ → TxnId → Result State TextFault
    points_of p id = found faults.Unknown (named point_text point_list word) >>= λ point. counted_of p id point

    ids_of : List ℕ × List ℕ → Result State TextFault
    ids_of p = attempt_of s p >>= λ id. points_of p id

txn-back : (s : State) (ws : List (List ℕ)) (t : State) → txn_result s ws ≡ Ok t → IsOf s keywords.Txn ws t
txn-back s [] t e = absurd cc
txn-back s (a ∷ []) t e = absurd cc
txn-back s (a ∷ b ∷ []) t e = absurd cc
txn-back s (name ∷ clock ∷ first ∷ more) t e =
    let items = first ∷ more in
    let ends = λ (client time : ℕ) (ms : List Mention). need (ltb (total txn_count s) 4096) faults.Many >> Ok (after s (Tries name client time ms)) in
    let keyed = λ (client time : ℕ) (ms : List Mention). need (leb (length (keys_after s.keys ms)) 256) faults.Many >> ends client time ms in
    let counted = λ (client time : ℕ) (ms : List Mention). need (leb (length ms) 16) faults.Many >> keyed client time ms in
    let read = λ (client time : ℕ). mentions_of items >>= counted client time in
    let timed = λ (client : ℕ). number 0 (2 ^ 61) clock >>= read client in
    let known = found faults.Unknown (client_number s name) >>= timed in
    let well = need (is_name name) faults.Name >> known in
    let shaped = are_items s.version items in
    let f = need_ok shaped faults.Form (need (in_rounds s.section) faults.Order >> well) t e in
    let a = need_ok (in_rounds s.section) faults.Order well t f.1 in
    let n = need_ok (is_name name) faults.Name known t a.1 in
    let k = bind_ok (found faults.Unknown (client_number s name)) timed t n.1 in
    let client = k.0 in
    let c = bind_ok (number 0 (2 ^ 61) clock) (read client) t k.2 in
    let time = c.0 in
    let r = bind_ok (mentions_of items) (counted client time) t c.2 in
    let ms = r.0 in
    let m1 = need_ok (leb (length ms) 16) faults.Many (keyed client time ms) t r.2 in
    let m2 = need_ok (leb (length (keys_after s.keys ms)) 256) faults.Many (ends client time ms) t m1.1 in
    let m3 = need_ok (ltb (total txn_count s) 4096) faults.Many (Ok (after s (Tries name client time ms))) t m2.1 in
    let tn = number-back 0 (2 ^ 61) clock time (omega arith) c.1 in
    let cn = found_ok faults.Unknown (client_number s name) k.0 k.1 in
    let mn = mentions-back s.version items ms f.0 r.1 in (
      Tries name client time ms,
      ap (λ (x : List ℕ). keyword_text keywords.Txn ∷ name ∷ x ∷ items) tn.0
          ∙ ap (λ (x : List (List ℕ)). keyword_text keywords.Txn ∷ name ∷ decimal time ∷ x) mn.0,
      record { section = rounds_from s.section a.0; well_named = n.0; declared = cn; clock_fits = tn.2; mentions_fit = mn.1; some = some_mention ms (mn.0); few = leb-true _ 16 m1.0; keys = leb-true _ 256 m2.0; txns = ltb-true _ 4096 m3.0 },
      sym (ok_is _ t m3.1),
    )
  where
    some_mention : (ms : List Mention) → first ∷ more ≡ map mention_text ms → 0 < length ms
    some_mention [] h = absurd cc
    some_mention (m ∷ ms) h = omega arith

takeover-back : (s : State) (ws : List (List ℕ)) (t : State) → takeover_result s ws ≡ Ok t → IsOf s keywords.Takeover ws t
takeover-back s [] t e = absurd cc
takeover-back s (a ∷ []) t e = absurd cc
takeover-back s (a ∷ b ∷ c ∷ ws) t e = absurd cc
takeover-back s (id_word ∷ word ∷ []) t e =
    let x = bind_ok (found faults.Form (cut 46 id_word)) (λ (p : List ℕ × List ℕ). need (in_rounds s.section) faults.Order >> ids_of p) t e in
    let p = x.0 in
    let cut_is = IsCut-from_cut 46 id_word p (found_ok faults.Form (cut 46 id_word) p x.1) in
    let a = need_ok (in_rounds s.section) faults.Order (ids_of p) t x.2 in
    let i = bind_ok (attempt_of s p) (views_of p) t a.1 in
    let v = bind_ok (number 1 15 word) (counted_of p i.0) t i.2 in
    let m = need_ok (ltb (total takeover_count s) 1024) faults.Many (Ok (after s (TakesOver p.0 i.0 v.0))) t v.2 in
    let id = attempt-back s p i.0 i.1 in
    let vn = number-back 1 15 word v.0 (omega arith) v.1 in
    let id_is : id_word ≡ id_text p.0 i.0.seq = cut_is.parts ∙ ap (λ (x : List ℕ). p.0 ++ 46 ∷ x) id.seq in (
      TakesOver p.0 i.0 v.0,
      ap (λ (x : List ℕ). keyword_text keywords.Takeover ∷ x ∷ word ∷ []) id_is
          ∙ ap (λ (x : List ℕ). keyword_text keywords.Takeover ∷ id_text p.0 i.0.seq ∷ x ∷ []) vn.0,
      record { section = rounds_from s.section a.0; attempt = id.attempt; view_low = vn.1; view_high = vn.2; few = ltb-true _ 1024 m.0 },
      sym (ok_is _ t m.1),
    )
  where
    counted_of : List ℕ × List ℕ → TxnId → ℕ → Result State TextFault
    counted_of p id view = need (ltb (total takeover_count s) 1024) faults.Many >> Ok (after s (TakesOver p.0 id view))

    views_of : List ℕ × List ℕ → TxnId → Result State TextFault
    views_of p id = number 1 15 word >>= λ view. counted_of p id view

    ids_of : List ℕ × List ℕ → Result State TextFault
    ids_of p = attempt_of s p >>= λ id. views_of p id

-- a global line whose fields fit
global-back : (s : State) (k : Keyword) (ws : List (List ℕ)) (line : GlobalLine) (t : State) → keyword_text k ∷ ws ≡ global_words line
    → behind_prelude s.section ≡ true → GlobalFits s.size line → global_result s line ≡ Ok t → IsOf s k ws t
global-back s k ws line t text section fits e =
    let m = need_ok (ltb (total global_count s) 256) faults.Many (Ok (after s (Changes line))) t e in
    (Changes line, text, record { section = behind_from s.section section; fits = fits; few = ltb-true _ 256 m.0 }, sym (ok_is _ t m.1))

wipe-back : (s : State) (ws : List (List ℕ)) (t : State) → s.size ≤ 3 → wipe_result s ws ≡ Ok t → IsOf s keywords.Wipe ws t
wipe-back s [] t sized e = absurd cc
wipe-back s (word ∷ x ∷ ws) t sized e = absurd cc
wipe-back s (word ∷ []) t sized e =
    let ends = λ (replica : ℕ). global_result s (globals.Wipe replica) in
    let a = need_ok (behind_prelude s.section) faults.Order (number 0 (2 * s.size) word >>= ends) t e in
    let b = bind_ok (number 0 (2 * s.size) word) ends t a.1 in
    let n = number-back 0 (2 * s.size) word b.0 (omega arith) b.1 in
    global-back s keywords.Wipe (word ∷ []) (globals.Wipe b.0) t (ap (λ (w : List ℕ). keyword_text keywords.Wipe ∷ w ∷ []) n.0) a.0 n.2 b.2

-- a line of an epoch
record IsEpoch (make : ℕ → GlobalLine) (s : State) (ws : List (List ℕ)) (t : State) : Type 0 where
  epoch : ℕ
  text : ws ≡ decimal epoch ∷ []
  low : 1 ≤ epoch
  high : epoch ≤ 1000
  section : behind_prelude s.section ≡ true
  leaves : global_result s (make epoch) ≡ Ok t

epoch-back : (make : ℕ → GlobalLine) (s : State) (ws : List (List ℕ)) (t : State) → epoch_result make s ws ≡ Ok t → IsEpoch make s ws t
epoch-back make s [] t e = absurd cc
epoch-back make s (word ∷ x ∷ ws) t e = absurd cc
epoch-back make s (word ∷ []) t e =
    let ends = λ (epoch : ℕ). global_result s (make epoch) in
    let a = need_ok (behind_prelude s.section) faults.Order (number 1 1000 word >>= ends) t e in
    let b = bind_ok (number 1 1000 word) ends t a.1 in
    let n = number-back 1 1000 word b.0 (omega arith) b.1 in
    record { epoch = b.0; text = ap (λ (w : List ℕ). w ∷ []) n.0; low = n.1; high = n.2; section = a.0; leaves = b.2 }

-- a line of an epoch and a replica
record IsMember (make : ℕ → ℕ → GlobalLine) (s : State) (ws : List (List ℕ)) (t : State) : Type 0 where
  epoch : ℕ
  replica : ℕ
  text : ws ≡ decimal epoch ∷ decimal replica ∷ []
  low : 1 ≤ epoch
  high : epoch ≤ 1000
  replica_fits : replica ≤ 2 * s.size
  section : behind_prelude s.section ≡ true
  leaves : global_result s (make epoch replica) ≡ Ok t

member-back : (make : ℕ → ℕ → GlobalLine) (s : State) (ws : List (List ℕ)) (t : State) → s.size ≤ 3 → member_result make s ws ≡ Ok t → IsMember make s ws t
member-back make s [] t sized e = absurd cc
member-back make s (a ∷ []) t sized e = absurd cc
member-back make s (a ∷ b ∷ c ∷ ws) t sized e = absurd cc
member-back make s (word ∷ replica_word ∷ []) t sized e =
    let ends = λ (epoch replica : ℕ). global_result s (make epoch replica) in
    let replicas = λ (epoch : ℕ). number 0 (2 * s.size) replica_word >>= ends epoch in
    let a = need_ok (behind_prelude s.section) faults.Order (number 1 1000 word >>= replicas) t e in
    let b = bind_ok (number 1 1000 word) replicas t a.1 in
    let c = bind_ok (number 0 (2 * s.size) replica_word) (ends b.0) t b.2 in
    let n = number-back 1 1000 word b.0 (omega arith) b.1 in
    let r = number-back 0 (2 * s.size) replica_word c.0 (omega arith) c.1 in
    record { epoch = b.0; replica = c.0; text = ap (λ (w : List ℕ). w ∷ replica_word ∷ []) n.0 ∙ ap (λ (w : List ℕ). decimal b.0 ∷ w ∷ []) r.0; low = n.1; high = n.2; replica_fits = r.2; section = a.0; leaves = c.2 }

ask-back : (s : State) (ws : List (List ℕ)) (t : State) → epoch_result ask_line s ws ≡ Ok t → IsOf s keywords.Ask ws t
ask-back s ws t e =
    let h = epoch-back ask_line s ws t e in global-back s keywords.Ask ws (globals.Ask h.epoch) t (ap (λ (x : List (List ℕ)). keyword_text keywords.Ask ∷ x) h.text) h.section (h.low, h.high) h.leaves

merge-back : (s : State) (ws : List (List ℕ)) (t : State) → epoch_result merge_line s ws ≡ Ok t → IsOf s keywords.Merge ws t
merge-back s ws t e =
    let h = epoch-back merge_line s ws t e in global-back s keywords.Merge ws (globals.Merge h.epoch) t (ap (λ (x : List (List ℕ)). keyword_text keywords.Merge ∷ x) h.text) h.section (h.low, h.high) h.leaves

enter-back : (s : State) (ws : List (List ℕ)) (t : State) → epoch_result enter_line s ws ≡ Ok t → IsOf s keywords.Enter ws t
enter-back s ws t e =
    let h = epoch-back enter_line s ws t e in global-back s keywords.Enter ws (globals.Enter h.epoch) t (ap (λ (x : List (List ℕ)). keyword_text keywords.Enter ∷ x) h.text) h.section (h.low, h.high) h.leaves

promise-back : (s : State) (ws : List (List ℕ)) (t : State) → s.size ≤ 3 → member_result promise_line s ws ≡ Ok t → IsOf s keywords.Promise ws t
promise-back s ws t sized e =
    let h = member-back promise_line s ws t sized e in global-back s keywords.Promise ws (globals.Promise h.epoch h.replica) t (ap (λ (x : List (List ℕ)). keyword_text keywords.Promise ∷ x) h.text) h.section (h.low, h.high, h.replica_fits) h.leaves

adopt-back : (s : State) (ws : List (List ℕ)) (t : State) → s.size ≤ 3 → member_result adopt_line s ws ≡ Ok t → IsOf s keywords.Adopt ws t
adopt-back s ws t sized e =
    let h = member-back adopt_line s ws t sized e in global-back s keywords.Adopt ws (globals.Adopt h.epoch h.replica) t (ap (λ (x : List (List ℕ)). keyword_text keywords.Adopt ∷ x) h.text) h.section (h.low, h.high, h.replica_fits) h.leaves

round-back : (s : State) (ws : List (List ℕ)) (t : State) → round_result s ws ≡ Ok t → IsOf s keywords.Round ws t
round-back s (x ∷ ws) t e = absurd cc
round-back s [] t e =
    let a = need_ok (behind_prelude s.section) faults.Order (need (ltb (length s.rounds) 15) faults.Many >> Ok (after s NextRound)) t e in
    let m = need_ok (ltb (length s.rounds) 15) faults.Many (Ok (after s NextRound)) t a.1 in
    (NextRound, refl, (behind_from s.section a.0, ltb-true _ 15 m.0), sym (ok_is _ t m.1))

keyword-back : (s : State) (k : Keyword) (ws : List (List ℕ)) (t : State) → s.size ≤ 3 → by_keyword s k ws ≡ Ok t → IsOf s k ws t
keyword-back s keywords.Meerkat ws t sized e = version-back s ws t e
keyword-back s keywords.Size ws t sized e = size-back s ws t e
keyword-back s keywords.Client ws t sized e = client-back s ws t sized e
keyword-back s keywords.Retry ws t sized e = retry-back s ws t e
keyword-back s keywords.Fault ws t sized e = fault-back s ws t sized e
keyword-back s keywords.Stop ws t sized e = stop-back s ws t e
keyword-back s keywords.Txn ws t sized e = txn-back s ws t e
keyword-back s keywords.Takeover ws t sized e = takeover-back s ws t e
keyword-back s keywords.Wipe ws t sized e = wipe-back s ws t sized e
keyword-back s keywords.Ask ws t sized e = ask-back s ws t e
keyword-back s keywords.Promise ws t sized e = promise-back s ws t sized e
keyword-back s keywords.Merge ws t sized e = merge-back s ws t e
keyword-back s keywords.Adopt ws t sized e = adopt-back s ws t sized e
keyword-back s keywords.Enter ws t sized e = enter-back s ws t e
keyword-back s keywords.Round ws t sized e = round-back s ws t e

abbrev IsSomeLine : State → List (List ℕ) → State → Type 0
IsSomeLine s ws t = (line : Line) × (ws ≡ line_words line) × Fits s line × (t ≡ after s line)

words-back : (s : State) (ws : List (List ℕ)) (t : State) → s.size ≤ 3 → by_words s ws ≡ Ok t → IsSomeLine s ws t
words-back s [] t sized e = absurd cc
words-back s (first ∷ ws) t sized e =
    let b = bind_ok (found faults.Form (named keyword_text keyword_list first)) (λ k. by_keyword s k ws) t e in
    let f = named-back keyword_text keyword_list first b.0 (found_ok faults.Form (named keyword_text keyword_list first) b.0 b.1) in
    let l = keyword-back s b.0 ws t sized b.2 in
    (l.0, ap (λ (x : List ℕ). x ∷ ws) f ∙ l.1, l.2, l.3)

passed_from : (bytes : List ℕ) → is_passed_over bytes ≡ true → IsPassedOver bytes
passed_from [] e = tt
passed_from (b ∷ bs) e = eqb-true b 35 e

-- what the tests let through is in the grammar
pub Says-from_result : (s : State) (bytes : List ℕ) (t : State) → s.size ≤ 3 → line_result s bytes ≡ Ok t → Says s bytes t
Says-from_result s bytes t sized e =
    let p = need_ok (is_printable bytes) faults.Byte (cond (is_passed_over bytes) (Ok s) (counted_result s (words bytes))) t e in
    here (is_passed_over bytes) refl p.0 p.1
  where
    here : (x : Bool) → is_passed_over bytes ≡ x → is_printable bytes ≡ true → cond x (Ok s) (counted_result s (words bytes)) ≡ Ok t → Says s bytes t
    here true x p h = inl (p, passed_from bytes x, sym (ok_is s t h))
    here false x p h =
        let c = need_ok (not (list_any is_empty (words bytes))) faults.Form (by_words s (words bytes)) t h in
        let l = words-back s (words bytes) t sized c.1 in
        inr (record { line = l.0; text = joined_words bytes (line_words l.0) l.1; fits = l.2; leaves = l.3 })
