-- The spelling of a line is printable.
use Rattle.std.proofs.Common.{◌≡◌, ℕ, ◌<◌, ◌≤◌, ◌^◌, Bool, true, leb, ◌&&◌, List, [], ◌∷◌, ◌++◌, map, length, refl, ◌∙◌, arith}
use Rattle.std.specs.Fmt.{decimal}
use Rattle.std.specs.List.{list_all, join_with_byte, AllByRecursion}
use Rattle.std.proofs.lemmas.Bool.Decides.{nat_tests}
use Rattle.std.proofs.lemmas.List.Folds.{list_all-append}
use Rattle.mk_spelling.specs.Words.{is_name, is_letter, is_name_byte, are_name_bytes, is_printable}
use Rattle.std.proofs.lemmas.Bool.{and_parts}
use Rattle.mk_spelling.proofs.Numbers.{decimal_digits}
use Rattle.mk_txn.specs.declared.TxnId.{TxnId}
use Rattle.mk_proc.specs.declared.ProcKind.{ProcKind}
use Rattle.mk_proc.specs.declared.ProcKind.TheVariants as procs
use Rattle.mk_words.specs.declared.MsgKind.{MsgKind}
use Rattle.mk_words.specs.declared.MsgKind.TheVariants as kinds
use Rattle.mk_words.specs.declared.GlobalLine.{GlobalLine}
use Rattle.mk_words.specs.declared.GlobalLine.TheVariants as globals
use Rattle.mk_script.specs.declared.lines.Fate.{Fate}
use Rattle.mk_script.specs.declared.lines.Fate.TheVariants as fates
use Rattle.mk_script.specs.declared.lines.Point.{Point}
use Rattle.mk_script.specs.declared.lines.Point.TheVariants as points
use Rattle.mk_script.specs.Scripts.{State}
use Rattle.mk_script.specs.Grammar.{Mention, Line, spelling, line_words, global_words, id_text, mention_text, IsMention, IsAttempt, GlobalFits, Fits}
use Rattle.mk_script.specs.LineWords.{kind_text, fate_text, point_text, proc_text}
use Rattle.mk_script.specs.Grammar.Mention.{Reads, Writes, Computes, Deletes}
use Rattle.mk_script.specs.Grammar.Line.{Opens, Sizes, Declares, Retries, Injects, Halts, Tries, TakesOver, Changes, NextRound}

abbrev IsPrinted : List ℕ → Type 0
IsPrinted word = is_printable word ≡ true

printed_append : (a b : List ℕ) → IsPrinted a → IsPrinted b → IsPrinted (a ++ b)
printed_append a b h k = list_all-append (λ x. leb 32 x && leb x 126) a b ∙ rw (h, k) refl

printed_cons : (x : ℕ) (b : List ℕ) → (leb 32 x && leb x 126) ≡ true → IsPrinted b → IsPrinted (x ∷ b)
printed_cons x b h k = rw (h, k) refl

wider : (p q : ℕ → Bool) → ((x : ℕ) → p x ≡ true → q x ≡ true) → (xs : List ℕ) → list_all p xs ≡ true → list_all q xs ≡ true
wider p q h [] e = refl
wider p q h (x ∷ xs) e =
    let k = and_parts (p x) (list_all p xs) e in
    rw (h x k.0, wider p q h xs k.1) refl

printed_decimal : (n : ℕ) → n < 2 ^ 64 → IsPrinted (decimal n)
printed_decimal n h = wider (λ b. leb 48 b && leb b 57) (λ b. leb 32 b && leb b 126) (λ x e. grind (arith, nat_tests)) (decimal n) (decimal_digits n h)

name_byte_printed : (x : ℕ) → is_name_byte x ≡ true → (leb 32 x && leb x 126) ≡ true
name_byte_printed x e = grind (arith, nat_tests)

printed_name : (name : List ℕ) → is_name name ≡ true → IsPrinted name
printed_name [] e = refl
printed_name (b ∷ bs) e =
    let h = and_parts (is_letter b && leb (length bs) 15) (are_name_bytes bs) e in
    let k = and_parts (is_letter b) (leb (length bs) 15) h.0 in
    printed_cons b bs (name_byte_printed b (rw k.0 refl)) (wider is_name_byte (λ b. leb 32 b && leb b 126) name_byte_printed bs h.1)

printed_proc : (proc : ProcKind) → IsPrinted (proc_text proc)
printed_proc procs.Add = refl
printed_proc procs.Sum = refl
printed_proc procs.Max = refl

printed_point : (point : Point) → IsPrinted (point_text point)
printed_point points.Read = refl
printed_point points.Votes = refl
printed_point points.Accepts = refl

printed_kind : (kind : MsgKind) → IsPrinted (kind_text kind)
printed_kind kinds.Validate = refl
printed_kind kinds.Vote = refl
printed_kind kinds.Accept = refl
printed_kind kinds.Accepted = refl
printed_kind kinds.Decide = refl
printed_kind kinds.Ask = refl
printed_kind kinds.Told = refl
printed_kind kinds.Moved = refl

printed_fate : (fate : Fate) → IsPrinted (fate_text fate)
printed_fate fates.Deliver = refl
printed_fate fates.Lose = refl
printed_fate fates.Twice = refl
printed_fate fates.Late = refl
printed_fate fates.NextRound = refl

printed_id : (s : State) (name : List ℕ) (id : TxnId) → IsAttempt s name id → IsPrinted (id_text name id.seq)
printed_id s name id h =
    let small : id.seq < 2 ^ 64 = omega (arith, h.high) in
    printed_append name (46 ∷ decimal id.seq) (printed_name name h.well_named) (printed_cons 46 (decimal id.seq) refl (printed_decimal id.seq small))

printed_mention : (version : ℕ) (m : Mention) → IsMention version m → IsPrinted (mention_text m)
printed_mention version (Reads key) h = printed_append (114 ∷ 58 ∷ []) key refl (printed_name key h.well_named)
printed_mention version (Deletes key) h = printed_append (100 ∷ 58 ∷ []) key refl (printed_name key h.well_named)
printed_mention version (Writes key n) h =
    printed_append (119 ∷ 58 ∷ []) (key ++ 61 ∷ decimal n) refl (printed_append key (61 ∷ decimal n) (printed_name key h.well_named) (printed_cons 61 (decimal n) refl (printed_decimal n h.fits)))
printed_mention version (Computes key proc n) h =
    printed_append (99 ∷ 58 ∷ []) (key ++ 61 ∷ (proc_text proc ++ 40 ∷ (decimal n ++ 41 ∷ []))) refl
    (printed_append key (61 ∷ (proc_text proc ++ 40 ∷ (decimal n ++ 41 ∷ []))) (printed_name key h.well_named)
    (printed_cons 61 (proc_text proc ++ 40 ∷ (decimal n ++ 41 ∷ [])) refl
    (printed_append (proc_text proc) (40 ∷ (decimal n ++ 41 ∷ [])) (printed_proc proc)
    (printed_cons 40 (decimal n ++ 41 ∷ []) refl (printed_append (decimal n) (41 ∷ []) (printed_decimal n h.fits) refl)))))

printed_mentions : (version : ℕ) (ms : List Mention) → AllByRecursion (IsMention version) ms → AllByRecursion IsPrinted (map mention_text ms)
printed_mentions version [] h = tt
printed_mentions version (m ∷ ms) h = (printed_mention version m h.0, printed_mentions version ms h.1)

printed_join : (ws : List (List ℕ)) → AllByRecursion IsPrinted ws → IsPrinted (join_with_byte 32 ws)
printed_join [] h = refl
printed_join (w ∷ []) h = h.0
printed_join (w ∷ v ∷ ws) h =
    printed_append w (32 ∷ join_with_byte 32 (v ∷ ws)) h.0 (printed_cons 32 (join_with_byte 32 (v ∷ ws)) refl (printed_join (v ∷ ws) h.1))

printed_global : (size : ℕ) (line : GlobalLine) → size ≤ 3 → GlobalFits size line → IsPrinted (spelling (Changes line))
printed_global size (globals.Wipe replica) sized h = printed_join (global_words (globals.Wipe replica)) (refl, (printed_decimal replica (omega (arith, h)), tt))
printed_global size (globals.Ask epoch) sized h = printed_join (global_words (globals.Ask epoch)) (refl, (printed_decimal epoch (omega (arith, h.1)), tt))
printed_global size (globals.Promise epoch replica) sized h =
    printed_join (global_words (globals.Promise epoch replica)) (refl, (printed_decimal epoch (omega (arith, h.1)), (printed_decimal replica (omega (arith, h.2)), tt)))
printed_global size (globals.Merge epoch) sized h = printed_join (global_words (globals.Merge epoch)) (refl, (printed_decimal epoch (omega (arith, h.1)), tt))
printed_global size (globals.Adopt epoch replica) sized h =
    printed_join (global_words (globals.Adopt epoch replica)) (refl, (printed_decimal epoch (omega (arith, h.1)), (printed_decimal replica (omega (arith, h.2)), tt)))
printed_global size (globals.Enter epoch) sized h = printed_join (global_words (globals.Enter epoch)) (refl, (printed_decimal epoch (omega (arith, h.1)), tt))

pub printed_line : (s : State) (line : Line) → s.size ≤ 3 → Fits s line → IsPrinted (spelling line)
printed_line s (Opens v) sized h = printed_join (line_words (Opens v)) (refl, (printed_decimal v (omega (arith, h.2)), tt))
printed_line s (Sizes f) sized h = printed_join (line_words (Sizes f)) (refl, (printed_decimal f (omega (arith, h.2)), tt))
printed_line s (Declares name column home) sized h =
    printed_join (line_words (Declares name column home)) (refl, (printed_name name h.well_named, (printed_decimal column (omega (arith, h.column_fits)), (printed_decimal home (omega (arith, h.home_fits)), tt))))
printed_line s (Retries n) sized h = printed_join (line_words (Retries n)) (refl, (printed_decimal n (omega (arith, h.1)), tt))
printed_line s (Injects name fault) sized h =
    printed_join (line_words (Injects name fault)) (refl, (printed_kind fault.kind, (printed_id s name fault.id h.attempt, (printed_decimal fault.replica (omega (arith, h.replica_fits)), (printed_decimal fault.nth (omega (arith, h.nth_high)), (printed_fate fault.fate, tt))))))
printed_line s (Halts name stop) sized h =
    printed_join (line_words (Halts name stop)) (refl, (printed_id s name stop.id h.attempt, (printed_point stop.point, tt)))
printed_line s (Tries name client clock ms) sized h =
    printed_join (line_words (Tries name client clock ms)) (refl, (printed_name name h.well_named, (printed_decimal clock (omega (arith, h.clock_fits)), printed_mentions s.version ms h.mentions_fit)))
printed_line s (TakesOver name id view) sized h =
    printed_join (line_words (TakesOver name id view)) (refl, (printed_id s name id h.attempt, (printed_decimal view (omega (arith, h.view_high)), tt)))
printed_line s (Changes line) sized h = printed_global s.size line sized h.fits
printed_line s NextRound sized h = refl
