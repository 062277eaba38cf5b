-- Words behind spaces.
use Rattle.std.proofs.Common.{◌≡◌, ℕ, List, [], ◌∷◌, ◌++◌, map, refl, sym, ap, ◌∙◌, append_assoc}
use Rattle.std.specs.Prelude.{codes}
use Rattle.std.specs.List.{join_with_byte, flat_map}
use Rattle.std.specs.Fmt.{decimal}
use Rattle.std.proofs.lemmas.List.{append-nil}
use Rattle.mk_txn.specs.declared.TxnId.{TxnId}
use Rattle.mk_txn.specs.declared.WriteItem.{WriteItem}
use Rattle.mk_words.specs.declared.KeyCall.{KeyCall}
use Rattle.mk_words.specs.declared.Answer.{Answer}
use Rattle.mk_words.specs.declared.GlobalLine.{GlobalLine}
use Rattle.mk_words.specs.declared.GlobalLine.TheVariants as globals
use Rattle.mk_words.specs.declared.Step.TheVariants.{Stamp as StampStep, Key as KeyStep}
use Rattle.mk_trace_lines.specs.declared.words.Keyword.TheVariants as keywords
use Rattle.mk_trace_lines.specs.LineWords.{keyword_text}
use Rattle.mk_trace_lines.specs.TraceLines.{spaced, ended, spelling, attempt_text, write_text, spaced_write, key_name, turn_text, turn_words, stamped_text, global_words}
use Rattle.mk_trace_lines.specs.TraceLines.TraceLine.{Logged}

-- a first word, and each of the others behind a space
pub joined : (w : List ℕ) (ws : List (List ℕ)) → join_with_byte 32 (w ∷ ws) ≡ w ++ spaced ws
joined w [] = sym (append-nil w)
joined w (v ∷ ws) = ap (λ (x : List ℕ). w ++ 32 ∷ x) (joined v ws)

pub spaced-append : (a b : List (List ℕ)) → spaced (a ++ b) ≡ spaced a ++ spaced b
spaced-append [] b = refl
spaced-append (w ∷ a) b = ap (λ (x : List ℕ). 32 ∷ (w ++ x)) (spaced-append a b) ∙ ap (λ (x : List ℕ). 32 ∷ x) (sym (append_assoc w (spaced a) (spaced b)))

spaced-writes : (keys : List (List ℕ)) (writes : List WriteItem) → spaced (map (write_text keys) writes) ≡ flat_map (spaced_write keys) writes
spaced-writes keys [] = refl
spaced-writes keys (item ∷ writes) = ap (λ (x : List ℕ). (32 ∷ write_text keys item) ++ x) (spaced-writes keys writes)

-- a key step's line
pub turn_spelled : (clients keys : List (List ℕ)) (seq : ℕ) (call : KeyCall) (answer : Answer)
    → spelling clients keys (Logged seq (KeyStep call answer)) ≡ turn_text keys call answer
turn_spelled clients keys seq call answer =
    ap (λ (x : List ℕ). codes "key " ++ (decimal call.replica ++ 32 ∷ x)) (joined (key_name keys call.key) (turn_words call.act answer))

-- a stamp's line
pub stamp_spelled : (clients keys : List (List ℕ)) (seq : ℕ) (id : TxnId) (clock : ℕ) (writes : List WriteItem)
    → spelling clients keys (Logged seq (StampStep id clock writes)) ≡ stamped_text clients keys id clock writes
stamp_spelled clients keys seq id clock writes =
    ap (λ (x : List ℕ). codes "stamp " ++ (attempt_text clients id.client id.seq ++ 32 ∷ x))
    (joined (decimal clock) (map (write_text keys) writes) ∙ ap (λ (x : List ℕ). decimal clock ++ x) (spaced-writes keys writes))

-- two lists of words, the first of which is not empty
pub joined_append : (w : List ℕ) (a b : List (List ℕ)) → join_with_byte 32 (w ∷ (a ++ b)) ≡ join_with_byte 32 (w ∷ a) ++ spaced b
joined_append w a b =
    joined w (a ++ b) ∙ ap (λ (x : List ℕ). w ++ x) (spaced-append a b) ∙ sym (append_assoc w (spaced a) (spaced b))
    ∙ ap (λ (x : List ℕ). x ++ spaced b) (sym (joined w a))

-- a global line and the words of its answer
pub joined_global : (line : GlobalLine) (ws : List (List ℕ)) → join_with_byte 32 (global_words line ++ ws) ≡ join_with_byte 32 (global_words line) ++ spaced ws
joined_global (globals.Wipe replica) ws = joined_append (keyword_text keywords.Wipe) (decimal replica ∷ []) ws
joined_global (globals.Ask epoch) ws = joined_append (keyword_text keywords.Ask) (decimal epoch ∷ []) ws
joined_global (globals.Promise epoch replica) ws = joined_append (keyword_text keywords.Promise) (decimal epoch ∷ decimal replica ∷ []) ws
joined_global (globals.Merge epoch) ws = joined_append (keyword_text keywords.Merge) (decimal epoch ∷ []) ws
joined_global (globals.Adopt epoch replica) ws = joined_append (keyword_text keywords.Adopt) (decimal epoch ∷ decimal replica ∷ []) ws
joined_global (globals.Enter epoch) ws = joined_append (keyword_text keywords.Enter) (decimal epoch ∷ []) ws

-- a first word, the others and a line feed, written one behind the other
pub entry_bytes : (out w : List ℕ) (ws : List (List ℕ)) (a b c : List ℕ) → a ≡ out ++ w → b ≡ a ++ spaced ws → c ≡ b ++ 10 ∷ [] → c ≡ out ++ ended (join_with_byte 32 (w ∷ ws))
entry_bytes out w ws a b c ea eb ec =
    ec ∙ ap (λ (x : List ℕ). x ++ 10 ∷ []) (eb ∙ ap (λ (x : List ℕ). x ++ spaced ws) ea ∙ append_assoc out w (spaced ws))
    ∙ append_assoc out (w ++ spaced ws) (10 ∷ []) ∙ ap (λ (x : List ℕ). out ++ ended x) (sym (joined w ws))
