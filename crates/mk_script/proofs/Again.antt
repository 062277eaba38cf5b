-- A line of the grammar passes the tests.
use Rattle.std.proofs.Common.{◌≡◌, ◌≢◌, ℕ, zero, suc, ◌*◌, ◌<◌, ◌≤◌, ◌^◌, Bool, true, false, not, List, [], ◌∷◌, ◌++◌, length, map, Some, Ok, refl, sym, ap, ◌∙◌, arith, inl, inr}
use Rattle.std.specs.Fmt.{decimal}
use Rattle.std.specs.List.{list_any, join_with_byte, AllByRecursion}
use Rattle.std.proofs.lemmas.Fmt.{decimal_digit, decimal_nonempty}
use Rattle.std.proofs.lemmas.Bool.{le-leb, lt-ltb, not_from_false}
use Rattle.mk_spelling.specs.Words.{words, cut, is_name, is_printable, is_empty}
use Rattle.mk_spelling.specs.Fields.{named}
use Rattle.mk_spelling.proofs.Cuts.{Lacks, Lacks-name, Lacks-append, cut-parts}
use Rattle.mk_spelling.proofs.Numbers.{number-again, Lacks-decimal}
use Rattle.mk_spelling.proofs.Joins.{words_joined}
use Rattle.mk_txn.specs.declared.TxnId.{TxnId}
use Rattle.mk_proc.specs.declared.ProcKind.{ProcKind}
use Rattle.mk_proc.specs.declared.ProcKind.TheVariants as procs
use Rattle.mk_words.specs.declared.MsgKind.{MsgKind}
use Rattle.mk_words.specs.declared.MsgKind.TheVariants as kinds
use Rattle.mk_words.specs.declared.GlobalLine.{GlobalLine}
use Rattle.mk_words.specs.declared.GlobalLine.TheVariants as globals
use Rattle.mk_script.specs.declared.words.Keyword.{Keyword}
use Rattle.mk_script.specs.declared.words.Keyword.TheVariants as keywords
use Rattle.mk_script.specs.declared.lines.Fate.{Fate}
use Rattle.mk_script.specs.declared.lines.Fate.TheVariants as fates
use Rattle.mk_script.specs.declared.lines.Point.{Point}
use Rattle.mk_script.specs.declared.lines.Point.TheVariants as points
use Rattle.mk_script.specs.declared.lines.FaultLine.{FaultLine}
use Rattle.mk_script.specs.declared.lines.StopLine.{StopLine}
use Rattle.mk_script.specs.Scripts.{State}
use Rattle.mk_script.specs.Grammar.{Mention, Line, id_text, mention_text, global_words, line_words, spelling, after, Fits, IsMention, IsAttempt, IsFault, IsStop, IsTxn, IsTakeover, IsGlobal, GlobalFits, IsPassedOver, Says}
use Rattle.mk_script.specs.LineWords.{kind_text, fate_text, point_text, proc_text, keyword_text, version_text, versions, kind_list, fate_list, point_list}
use Rattle.mk_script.specs.Grammar.Mention.{Reads, Writes, Computes, Deletes}
use Rattle.mk_script.specs.Grammar.Line.{Opens, Sizes, Declares, Retries, Injects, Halts, Tries, TakesOver, Changes, NextRound}
use Rattle.mk_script.specs.Faults.{attempt_of, fault_result, stop_result, txn_result, takeover_result, by_words, is_passed_over, line_result}
use Rattle.mk_script.proofs.Shapes.{mentions-again}
use Rattle.mk_script.proofs.Printable.{printed_line}
use Rattle.mk_script.proofs.Passed.{to_rounds, to_behind, none_test}

-- ---- words

pub record IsWord (w : List ℕ) : Type 0 where
  pub lacks : Lacks 32 w
  pub some : is_empty w ≡ false

some_from_length : (w : List ℕ) → 0 < length w → is_empty w ≡ false
some_from_length [] h = absurd (omega arith)
some_from_length (b ∷ bs) h = refl

IsWord-decimal : (n : ℕ) → n < 2 ^ 64 → IsWord (decimal n)
IsWord-decimal n h = record { lacks = Lacks-decimal n 32 h refl; some = some_from_length (decimal n) (decimal_nonempty n h) }

some_name : (name : List ℕ) → is_name name ≡ true → is_empty name ≡ false
some_name [] h = absurd cc
some_name (b ∷ bs) h = refl

IsWord-name : (name : List ℕ) → is_name name ≡ true → IsWord name
IsWord-name name h = record { lacks = Lacks-name name 32 h refl; some = some_name name h }

some_append : (a b : List ℕ) → is_empty b ≡ false → is_empty (a ++ b) ≡ false
some_append [] b h = h
some_append (x ∷ a) b h = refl

IsWord-keyword : (k : Keyword) → IsWord (keyword_text k)
IsWord-keyword keywords.Meerkat = record { lacks = (refl, (refl, (refl, (refl, (refl, (refl, (refl, tt))))))); some = refl }
IsWord-keyword keywords.Size = record { lacks = (refl, (refl, (refl, (refl, tt)))); some = refl }
IsWord-keyword keywords.Client = record { lacks = (refl, (refl, (refl, (refl, (refl, (refl, tt)))))); some = refl }
IsWord-keyword keywords.Retry = record { lacks = (refl, (refl, (refl, (refl, (refl, tt))))); some = refl }
IsWord-keyword keywords.Fault = record { lacks = (refl, (refl, (refl, (refl, (refl, tt))))); some = refl }
IsWord-keyword keywords.Stop = record { lacks = (refl, (refl, (refl, (refl, tt)))); some = refl }
IsWord-keyword keywords.Txn = record { lacks = (refl, (refl, (refl, tt))); some = refl }
IsWord-keyword keywords.Takeover = record { lacks = (refl, (refl, (refl, (refl, (refl, (refl, (refl, (refl, tt)))))))); some = refl }
IsWord-keyword keywords.Wipe = record { lacks = (refl, (refl, (refl, (refl, tt)))); some = refl }
IsWord-keyword keywords.Ask = record { lacks = (refl, (refl, (refl, tt))); some = refl }
IsWord-keyword keywords.Promise = record { lacks = (refl, (refl, (refl, (refl, (refl, (refl, (refl, tt))))))); some = refl }
IsWord-keyword keywords.Merge = record { lacks = (refl, (refl, (refl, (refl, (refl, tt))))); some = refl }
IsWord-keyword keywords.Adopt = record { lacks = (refl, (refl, (refl, (refl, (refl, tt))))); some = refl }
IsWord-keyword keywords.Enter = record { lacks = (refl, (refl, (refl, (refl, (refl, tt))))); some = refl }
IsWord-keyword keywords.Round = record { lacks = (refl, (refl, (refl, (refl, (refl, tt))))); some = refl }

IsWord-point : (p : Point) → IsWord (point_text p)
IsWord-point points.Read = record { lacks = (refl, (refl, (refl, (refl, tt)))); some = refl }
IsWord-point points.Votes = record { lacks = (refl, (refl, (refl, (refl, (refl, tt))))); some = refl }
IsWord-point points.Accepts = record { lacks = (refl, (refl, (refl, (refl, (refl, (refl, (refl, tt))))))); some = refl }

IsWord-fate : (f : Fate) → IsWord (fate_text f)
IsWord-fate fates.Deliver = record { lacks = (refl, (refl, (refl, (refl, (refl, (refl, (refl, tt))))))); some = refl }
IsWord-fate fates.Lose = record { lacks = (refl, (refl, (refl, (refl, tt)))); some = refl }
IsWord-fate fates.Twice = record { lacks = (refl, (refl, (refl, (refl, (refl, tt))))); some = refl }
IsWord-fate fates.Late = record { lacks = (refl, (refl, (refl, (refl, tt)))); some = refl }
IsWord-fate fates.NextRound = record { lacks = (refl, (refl, (refl, (refl, tt)))); some = refl }

IsWord-kind : (k : MsgKind) → IsWord (kind_text k)
IsWord-kind kinds.Validate = record { lacks = (refl, (refl, (refl, (refl, (refl, (refl, (refl, (refl, tt)))))))); some = refl }
IsWord-kind kinds.Vote = record { lacks = (refl, (refl, (refl, (refl, tt)))); some = refl }
IsWord-kind kinds.Accept = record { lacks = (refl, (refl, (refl, (refl, (refl, (refl, tt)))))); some = refl }
IsWord-kind kinds.Accepted = record { lacks = (refl, (refl, (refl, (refl, (refl, (refl, (refl, (refl, tt)))))))); some = refl }
IsWord-kind kinds.Decide = record { lacks = (refl, (refl, (refl, (refl, (refl, (refl, tt)))))); some = refl }
IsWord-kind kinds.Ask = record { lacks = (refl, (refl, (refl, tt))); some = refl }
IsWord-kind kinds.Told = record { lacks = (refl, (refl, (refl, (refl, tt)))); some = refl }
IsWord-kind kinds.Moved = record { lacks = (refl, (refl, (refl, (refl, (refl, tt))))); some = refl }

IsWord-id : (s : State) (name : List ℕ) (id : TxnId) → IsAttempt s name id → IsWord (id_text name id.seq)
IsWord-id s name id h =
    let small : id.seq < 2 ^ 64 = omega (arith, h.high) in
    record { lacks = Lacks-append 32 name (46 ∷ decimal id.seq) (Lacks-name name 32 h.well_named refl) (refl, Lacks-decimal id.seq 32 small refl); some = some_append name (46 ∷ decimal id.seq) refl }

proc_lacks : (proc : ProcKind) → Lacks 32 (proc_text proc)
proc_lacks procs.Add = (refl, (refl, (refl, tt)))
proc_lacks procs.Sum = (refl, (refl, (refl, tt)))
proc_lacks procs.Max = (refl, (refl, (refl, tt)))

IsWord-mention : (version : ℕ) (m : Mention) → IsMention version m → IsWord (mention_text m)
IsWord-mention version (Reads key) h = record { lacks = (refl, (refl, Lacks-name key 32 h.well_named refl)); some = refl }
IsWord-mention version (Deletes key) h = record { lacks = (refl, (refl, Lacks-name key 32 h.well_named refl)); some = refl }
IsWord-mention version (Writes key n) h =
    record { lacks = (refl, (refl, Lacks-append 32 key (61 ∷ decimal n) (Lacks-name key 32 h.well_named refl) (refl, Lacks-decimal n 32 h.fits refl))); some = refl }
IsWord-mention version (Computes key proc n) h = record {
  lacks = (
    refl,
    (
      refl,
      Lacks-append 32 key (61 ∷ (proc_text proc ++ 40 ∷ (decimal n ++ 41 ∷ []))) (Lacks-name key 32 h.well_named refl)
          (refl, Lacks-append 32 (proc_text proc) (40 ∷ (decimal n ++ 41 ∷ [])) (proc_lacks proc) (refl, Lacks-append 32 (decimal n) (41 ∷ []) (Lacks-decimal n 32 h.fits refl) (refl, tt))),
    ),
  );
  some = refl;
}

words_mentions : (version : ℕ) (ms : List Mention) → AllByRecursion (IsMention version) ms → AllByRecursion IsWord (map mention_text ms)
words_mentions version [] h = tt
words_mentions version (m ∷ ms) h = (IsWord-mention version m h.0, words_mentions version ms h.1)

global_are_words : (size : ℕ) (line : GlobalLine) → size ≤ 3 → GlobalFits size line → AllByRecursion IsWord (global_words line)
global_are_words size (globals.Wipe replica) sized h = (IsWord-keyword keywords.Wipe, (IsWord-decimal replica (omega (arith, h)), tt))
global_are_words size (globals.Ask epoch) sized h = (IsWord-keyword keywords.Ask, (IsWord-decimal epoch (omega (arith, h.1)), tt))
global_are_words size (globals.Promise epoch replica) sized h =
    (IsWord-keyword keywords.Promise, (IsWord-decimal epoch (omega (arith, h.1)), (IsWord-decimal replica (omega (arith, h.2)), tt)))
global_are_words size (globals.Merge epoch) sized h = (IsWord-keyword keywords.Merge, (IsWord-decimal epoch (omega (arith, h.1)), tt))
global_are_words size (globals.Adopt epoch replica) sized h =
    (IsWord-keyword keywords.Adopt, (IsWord-decimal epoch (omega (arith, h.1)), (IsWord-decimal replica (omega (arith, h.2)), tt)))
global_are_words size (globals.Enter epoch) sized h = (IsWord-keyword keywords.Enter, (IsWord-decimal epoch (omega (arith, h.1)), tt))

line_are_words : (s : State) (line : Line) → s.size ≤ 3 → Fits s line → AllByRecursion IsWord (line_words line)
line_are_words s (Opens v) sized h = (IsWord-keyword keywords.Meerkat, (IsWord-decimal v (omega (arith, h.2)), tt))
line_are_words s (Sizes f) sized h = (IsWord-keyword keywords.Size, (IsWord-decimal f (omega (arith, h.2)), tt))
line_are_words s (Declares name column home) sized h =
    (IsWord-keyword keywords.Client, (IsWord-name name h.well_named, (IsWord-decimal column (omega (arith, h.column_fits)), (IsWord-decimal home (omega (arith, h.home_fits)), tt))))
line_are_words s (Retries n) sized h = (IsWord-keyword keywords.Retry, (IsWord-decimal n (omega (arith, h.1)), tt))
line_are_words s (Injects name fault) sized h =
    (IsWord-keyword keywords.Fault, (IsWord-kind fault.kind, (IsWord-id s name fault.id h.attempt, (IsWord-decimal fault.replica (omega (arith, h.replica_fits)), (IsWord-decimal fault.nth (omega (arith, h.nth_high)), (IsWord-fate fault.fate, tt))))))
line_are_words s (Halts name stop) sized h = (IsWord-keyword keywords.Stop, (IsWord-id s name stop.id h.attempt, (IsWord-point stop.point, tt)))
line_are_words s (Tries name client clock ms) sized h =
    (IsWord-keyword keywords.Txn, (IsWord-name name h.well_named, (IsWord-decimal clock (omega (arith, h.clock_fits)), words_mentions s.version ms h.mentions_fit)))
line_are_words s (TakesOver name id view) sized h =
    (IsWord-keyword keywords.Takeover, (IsWord-id s name id h.attempt, (IsWord-decimal view (omega (arith, h.view_high)), tt)))
line_are_words s (Changes line) sized h = global_are_words s.size line sized h.fits
line_are_words s NextRound sized h = (IsWord-keyword keywords.Round, tt)

each_lacks : (ws : List (List ℕ)) → AllByRecursion IsWord ws → AllByRecursion (Lacks 32) ws
each_lacks [] h = tt
each_lacks (w ∷ ws) h = (h.0.lacks, each_lacks ws h.1)

none_empty : (ws : List (List ℕ)) → AllByRecursion IsWord ws → list_any is_empty ws ≡ false
none_empty [] h = refl
none_empty (w ∷ ws) h = rw (h.0.some, none_empty ws h.1) refl

-- ---- each kind of line

point_again : (p : Point) → named point_text point_list (point_text p) ≡ Some p
point_again points.Read = refl
point_again points.Votes = refl
point_again points.Accepts = refl

kind_again : (k : MsgKind) → named kind_text kind_list (kind_text k) ≡ Some k
kind_again kinds.Validate = refl
kind_again kinds.Vote = refl
kind_again kinds.Accept = refl
kind_again kinds.Accepted = refl
kind_again kinds.Decide = refl
kind_again kinds.Ask = refl
kind_again kinds.Told = refl
kind_again kinds.Moved = refl

fate_again : (f : Fate) → f ≢ fates.Deliver → named fate_text fate_list (fate_text f) ≡ Some f
fate_again fates.Deliver h = absurd (h refl)
fate_again fates.Lose h = refl
fate_again fates.Twice h = refl
fate_again fates.Late h = refl
fate_again fates.NextRound h = refl

version_again : (v : ℕ) → 1 ≤ v → v ≤ 2 → named version_text versions (decimal v) ≡ Some v
version_again zero low high = absurd (omega arith)
version_again (suc zero) low high = rw (decimal_digit 1 (omega arith)) refl
version_again (suc (suc zero)) low high = rw (decimal_digit 2 (omega arith)) refl
version_again (suc (suc (suc v))) low high = absurd (omega arith)

attempt-again : (s : State) (name : List ℕ) (id : TxnId) → IsAttempt s name id → attempt_of s (name, decimal id.seq) ≡ Ok id
attempt-again s name id h = rw (number-again 1 16384 id.seq (omega arith) h.low h.high, h.well_named, h.declared) refl

id-cut : (s : State) (name : List ℕ) (id : TxnId) → IsAttempt s name id → cut 46 (id_text name id.seq) ≡ Some (name, decimal id.seq)
id-cut s name id h = cut-parts 46 name (decimal id.seq) (Lacks-name name 46 h.well_named refl)

-- the words behind the first one
abbrev words_behind : List (List ℕ) → List (List ℕ)
words_behind [] = []
words_behind (w ∷ ws) = ws

fault-again : (s : State) (name : List ℕ) (fault : FaultLine) → s.size ≤ 3 → IsFault s name fault
    → fault_result s (words_behind (line_words (Injects name fault))) ≡ Ok (after s (Injects name fault))
fault-again s name fault sized h =
    rw (id-cut s name fault.id h.attempt, h.section, kind_again fault.kind, attempt-again s name fault.id h.attempt, number-again 0 (2 * s.size) fault.replica (omega arith) (omega arith) h.replica_fits, number-again 1 255 fault.nth (omega arith) h.nth_low h.nth_high, fate_again fault.fate h.injected, lt-ltb _ 1024 h.few, not_from_false _ h.fresh) refl

stop-again : (s : State) (name : List ℕ) (stop : StopLine) → IsStop s name stop
    → stop_result s (words_behind (line_words (Halts name stop))) ≡ Ok (after s (Halts name stop))
stop-again s name stop h =
    rw (id-cut s name stop.id h.attempt, h.section, attempt-again s name stop.id h.attempt, point_again stop.point, lt-ltb _ 1024 h.few, not_from_false _ h.fresh) refl

txn-again : (s : State) (name : List ℕ) (client clock : ℕ) (ms : List Mention) → IsTxn s name client clock ms
    → txn_result s (name ∷ decimal clock ∷ map mention_text ms) ≡ Ok (after s (Tries name client clock ms))
txn-again s name client clock [] h = absurd (omega (arith, h.some))
txn-again s name client clock (m ∷ ms) h =
    let r = mentions-again s.version (m ∷ ms) h.mentions_fit in
    rw (r.1, to_rounds s.section h.section, h.well_named, h.declared, number-again 0 (2 ^ 61) clock (omega arith) (omega arith) h.clock_fits, r.0, le-leb _ 16 h.few, le-leb _ 256 h.keys, lt-ltb _ 4096 h.txns) refl

takeover-again : (s : State) (name : List ℕ) (id : TxnId) (view : ℕ) → IsTakeover s name id view
    → takeover_result s (words_behind (line_words (TakesOver name id view))) ≡ Ok (after s (TakesOver name id view))
takeover-again s name id view h =
    rw (id-cut s name id h.attempt, to_rounds s.section h.section, attempt-again s name id h.attempt, number-again 1 15 view (omega arith) h.view_low h.view_high, lt-ltb _ 1024 h.few) refl

global-again : (s : State) (line : GlobalLine) → s.size ≤ 3 → IsGlobal s line → by_words s (global_words line) ≡ Ok (after s (Changes line))
global-again s (globals.Wipe replica) sized h =
    rw (to_behind s.section h.section, number-again 0 (2 * s.size) replica (omega arith) (omega arith) h.fits, lt-ltb _ 256 h.few) refl
global-again s (globals.Ask epoch) sized h =
    rw (to_behind s.section h.section, number-again 1 1000 epoch (omega arith) h.fits.0 h.fits.1, lt-ltb _ 256 h.few) refl
global-again s (globals.Promise epoch replica) sized h =
    rw (to_behind s.section h.section, number-again 1 1000 epoch (omega arith) h.fits.0 h.fits.1, number-again 0 (2 * s.size) replica (omega arith) (omega arith) h.fits.2, lt-ltb _ 256 h.few) refl
global-again s (globals.Merge epoch) sized h =
    rw (to_behind s.section h.section, number-again 1 1000 epoch (omega arith) h.fits.0 h.fits.1, lt-ltb _ 256 h.few) refl
global-again s (globals.Adopt epoch replica) sized h =
    rw (to_behind s.section h.section, number-again 1 1000 epoch (omega arith) h.fits.0 h.fits.1, number-again 0 (2 * s.size) replica (omega arith) (omega arith) h.fits.2, lt-ltb _ 256 h.few) refl
global-again s (globals.Enter epoch) sized h =
    rw (to_behind s.section h.section, number-again 1 1000 epoch (omega arith) h.fits.0 h.fits.1, lt-ltb _ 256 h.few) refl

words-again : (s : State) (line : Line) → s.size ≤ 3 → Fits s line → by_words s (line_words line) ≡ Ok (after s line)
words-again s (Opens v) sized h = rw (h.0, version_again v h.1 h.2) refl
words-again s (Sizes f) sized h = rw (h.0, number-again 1 3 f (omega arith) h.1 h.2) refl
words-again s (Declares name column home) sized h =
    rw (h.section, h.well_named, number-again 0 7 column (omega arith) (omega arith) h.column_fits, number-again 0 (2 * s.size) home (omega arith) (omega arith) h.home_fits, lt-ltb _ 64 h.few, none_test _ h.fresh) refl
words-again s (Retries n) sized h = rw (h.0, number-again 0 3 n (omega arith) (omega arith) h.1, none_test _ h.2) refl
words-again s (Injects name fault) sized h = fault-again s name fault sized h
words-again s (Halts name stop) sized h = stop-again s name stop h
words-again s (Tries name client clock ms) sized h = txn-again s name client clock ms h
words-again s (TakesOver name id view) sized h = takeover-again s name id view h
words-again s (Changes line) sized h = global-again s line sized h
words-again s NextRound sized h = rw (to_behind s.section h.0, lt-ltb _ 15 h.1) refl

-- a keyword does not begin with #
not_passed : (line : Line) → is_passed_over (spelling line) ≡ false
not_passed (Opens v) = refl
not_passed (Sizes f) = refl
not_passed (Declares name column home) = refl
not_passed (Retries n) = refl
not_passed (Injects name fault) = refl
not_passed (Halts name stop) = refl
not_passed (Tries name client clock ms) = refl
not_passed (TakesOver name id view) = refl
not_passed (Changes (globals.Wipe replica)) = refl
not_passed (Changes (globals.Ask epoch)) = refl
not_passed (Changes (globals.Promise epoch replica)) = refl
not_passed (Changes (globals.Merge epoch)) = refl
not_passed (Changes (globals.Adopt epoch replica)) = refl
not_passed (Changes (globals.Enter epoch)) = refl
not_passed NextRound = refl

words_of_spelling : (ws : List (List ℕ)) → is_passed_over (join_with_byte 32 ws) ≡ false → AllByRecursion IsWord ws → words (join_with_byte 32 ws) ≡ ws
words_of_spelling [] some h = absurd cc
words_of_spelling (w ∷ ws) some h = words_joined w ws (each_lacks (w ∷ ws) h)

pub result_of_line : (s : State) (line : Line) → s.size ≤ 3 → Fits s line → is_printable (spelling line) ≡ true
    → line_result s (spelling line) ≡ Ok (after s line)
result_of_line s line sized h p =
    let each = line_are_words s line sized h in
    let cut_again : words (spelling line) ≡ line_words line = words_of_spelling (line_words line) (not_passed line) each in
    rw (p, not_passed line, cut_again, none_empty (line_words line) each) (words-again s line sized h)

passed_to : (bytes : List ℕ) → IsPassedOver bytes → is_passed_over bytes ≡ true
passed_to [] h = refl
passed_to (b ∷ bs) h = rw h refl

pub result-from_Says : (s : State) (bytes : List ℕ) (t : State) → s.size ≤ 3 → Says s bytes t → line_result s bytes ≡ Ok t
result-from_Says s bytes t sized (inl h) = rw (h.0, passed_to bytes h.1, h.2) refl
result-from_Says s bytes t sized (inr h) =
    ap (line_result s) h.text ∙ result_of_line s h.line sized h.fits (printed_line s h.line sized h.fits) ∙ ap (λ (x : State). Ok x) (sym h.leaves)
