-- The lines that are written behind a report, one after the other.
use Rattle.std.proofs.Common.{◌≡◌, ◌∙◌, ◌<◌, ◌+◌, ◌-◌, ℕ, suc, Bool, cond, sym, ap, subst, arith, add_assoc, append_assoc, List, [], ◌∷◌, ◌++◌, map, length, take, drop, get_or, drop-cons, add-one, if◌then◌else◌}
use Rattle.std.specs.Prelude.{count_by}
use Rattle.std.specs.Borrow.{Bor}
use Rattle.std.specs.List.{flat_map}
use Rattle.std.proofs.lemmas.List.{length-take-le, take-append-drop, take_more}
use Rattle.std.proofs.lemmas.List.Sums.{sum_by-cons}
use Rattle.mk_txn.specs.declared.Stamp.{Stamp}
use Rattle.mk_txn.specs.declared.Value.{Value}
use Rattle.mk_txn.specs.LatestWrites.{VersionedValue}
use Rattle.mk_model.specs.ColumnState.{numbers_from}
use Rattle.mk_model.specs.OneCopy.{Copy, version_in}
use Rattle.mk_history.specs.declared.RoundLog.{RoundLog}
use Rattle.mk_history.specs.Histories.{History}
use Rattle.mk_history.specs.Legality.{IsLegal}
use Rattle.mk_history.specs.Learning.{commits}
use Rattle.mk_history.specs.Shape.{HasShape}
use Rattle.mk_report.specs.Seen.{seen_entry}
use Rattle.mk_run.specs.Walking.{WalkView, HasWalked, MayWalk}
use Rattle.mk_past.specs.Pasts.{copy_at}
use Rattle.mk_feed_words.specs.Shown.{watermark_after}
use Rattle.mk_shown.specs.FollowTexts.{written_in, shown_text, shown_line, followed_text, followed_entry}
use Rattle.mk_shown.specs.Gathering.{watermark_by}
use Rattle.mk_shown.specs.Laws.{WatermarksAreShown}

-- ---- how many keys were written

one-more : (p : ℕ → Bool) (key : ℕ) (rest : List ℕ) → count_by p (key ∷ rest) ≡ (if p key then 1 else 0) + count_by p rest
one-more p key rest = sum_by-cons (λ x. cond {A = ℕ} (p x) 1 0) key rest

pub written-next : (p : ℕ → Bool) (count one key end : ℕ) → key < end → one ≡ (if p key then 1 else 0) →
    (count + one) + count_by p (numbers_from (key + 1) (end - (key + 1))) ≡ count + count_by p (numbers_from key (end - key))
written-next p count one key end lt is =
    add_assoc count one (count_by p (numbers_from (key + 1) (end - (key + 1))))
    ∙ ap (λ (n : ℕ). count + (n + count_by p (numbers_from (key + 1) (end - (key + 1))))) is
    ∙ ap (λ (n : ℕ). count + n) (sym (one-more p key (numbers_from (key + 1) (end - (key + 1)))))
    ∙ ap (λ (n : ℕ). count + count_by p (numbers_from key n)) left
  where
    left : suc (end - (key + 1)) ≡ end - key
    left = omega (arith, lt)

-- ---- the lines of the picture

-- the line of a key goes by its version and its value
followed-is : (name : List ℕ) (held : VersionedValue) (version : Stamp) (value : Value) → version ≡ held.version → value ≡ held.value →
    followed_text name (record { version = version; value = value }) ≡ followed_text name held
followed-is name held version value v w = λ i. followed_text name (record { version = v i; value = w i })

-- the lines of a table's entries in a picture
abbrev lines : Copy → List (Bor (List ℕ) × ℕ) → List ℕ
lines picture entries = flat_map (followed_entry picture) (map seen_entry entries)

-- one more line was written
pub line-next : (picture : Copy) (out new all : List ℕ) (entries rest : List (Bor (List ℕ) × ℕ)) (entry : Bor (List ℕ) × ℕ) (version : Stamp) (value : Value) → entries ≡ entry ∷ rest →
    version ≡ (version_in picture entry.1).version → value ≡ (version_in picture entry.1).value → new ≡ out ++ followed_text entry.0.now (record { version = version; value = value }) →
    out ++ lines picture entries ≡ all → new ++ lines picture rest ≡ all
line-next picture out new all entries rest entry version value steps v w put so =
    let held = version_in picture entry.1 in
    ap (λ (o : List ℕ). o ++ lines picture rest) (put ∙ ap (λ (t : List ℕ). out ++ t) (followed-is entry.0.now held version value v w))
    ∙ append_assoc out (followed_text entry.0.now held) (lines picture rest)
    ∙ ap (λ (es : List (Bor (List ℕ) × ℕ)). out ++ lines picture es) (sym steps)
    ∙ so

-- ---- the lines of the rounds

rounds_here : (rounds : List RoundLog) (i : ℕ) (d : RoundLog) → i < length rounds → rounds ≡ take i rounds ++ get_or rounds i d ∷ drop (i + 1) rounds
rounds_here rounds i d lt =
    sym (take-append-drop i rounds)
    ∙ ap (λ (rest : List RoundLog). take i rounds ++ rest) (drop-cons rounds i d lt ∙ ap (λ (n : ℕ). get_or rounds i d ∷ drop n rounds) (sym (add-one i)))

-- the next round of a run, and the lines with its own
module _ (run : History) (items : List RoundLog) (i : ℕ) (round : RoundLog) (same : items ≡ run.rounds) (within : i < length items) (at : round ≡ get_or items i round) where
  pub rounds-within : i < length run.rounds
  rounds-within = (let count = ap (λ (rs : List RoundLog). length rs) same in omega (arith, within, count))

  here : round ≡ get_or run.rounds i round
  here = at ∙ ap (λ (rs : List RoundLog). get_or rs i round) same

  with_it : take i run.rounds ++ round ∷ [] ≡ take (i + 1) run.rounds
  with_it = ap (λ (r : RoundLog). take i run.rounds ++ r ∷ []) here ∙ sym (take_more run.rounds i round rounds-within)

  split : run.rounds ≡ take i run.rounds ++ round ∷ drop (i + 1) run.rounds
  split = rounds_here run.rounds i round rounds-within ∙ ap (λ (r : RoundLog). take i run.rounds ++ r ∷ drop (i + 1) run.rounds) (sym here)

  pub may-walk : (walk : WalkView) → HasShape run → IsLegal run → HasWalked run walk (take i run.rounds) → MayWalk run (take i run.rounds) walk round
  may-walk walk shape legal was = record { rest = drop (i + 1) run.rounds; shape = shape; legal = legal; rounds = split; walked = was }

  pub walked-more : (new : WalkView) → HasWalked run new (take i run.rounds ++ round ∷ []) → HasWalked run new (take (i + 1) run.rounds)
  walked-more new was = subst (λ (rs : List RoundLog). HasWalked run new rs) with_it was

  -- the line of the round is what is shown after it
  pub line-is : WatermarksAreShown → IsLegal run → (walk : WalkView) → HasWalked run walk (take (i + 1) run.rounds) → (client_columns : List ℕ) → client_columns ≡ run.client_columns → (keys : ℕ) → keys ≡ length run.key_names →
      shown_text (i + 1) (watermark_by walk client_columns) (written_in (copy_at (watermark_by walk client_columns) (commits run)) keys) ≡ shown_line run (i + 1)
  line-is shown legal walk was client_columns clients_are keys keys_are =
      let done = take (i + 1) run.rounds in
      let number : length done ≡ i + 1 = length-take-le (i + 1) run.rounds (let lt = rounds-within in omega (arith, lt)) in
      let is : watermark_by walk client_columns ≡ watermark_after run (i + 1) =
      ap (watermark_by walk) clients_are ∙ shown run legal done (drop (i + 1) run.rounds) (sym (take-append-drop (i + 1) run.rounds)) walk was ∙ ap (watermark_after run) number in
      λ j. shown_text (i + 1) (is j) (written_in (copy_at (is j) (commits run)) (keys_are j))

-- one more line of a round
pub round-next : (f : ℕ → List ℕ) (out new all line : List ℕ) (i end : ℕ) → i < end → new ≡ out ++ line → line ≡ f (i + 1) →
    out ++ flat_map f (numbers_from (i + 1) (end - i)) ≡ all → new ++ flat_map f (numbers_from (i + 1 + 1) (end - (i + 1))) ≡ all
round-next f out new all line i end lt put is so =
    let rest = flat_map f (numbers_from (i + 1 + 1) (end - (i + 1))) in
    let count : suc (end - (i + 1)) ≡ end - i = omega (arith, lt) in
    ap (λ (o : List ℕ). o ++ rest) (put ∙ ap (λ (l : List ℕ). out ++ l) is)
    ∙ append_assoc out (f (i + 1)) rest
    ∙ ap (λ (n : ℕ). out ++ flat_map f (numbers_from (i + 1) n)) count
    ∙ so
