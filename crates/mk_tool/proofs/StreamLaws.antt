-- Rounds that are judged while their trace is read.
use Rattle.std.proofs.Common.{◌<◌, Result, Ok, Err, OnOk, drop, drop_at, ◌≡◌, ◌∙◌, ◌+◌, ◌≤◌, ℕ, false, refl, sym, ap, subst, arith, List, [], ◌∷◌, ◌++◌, length, length-append, append_assoc, Option, Some, None}
use Rattle.std.proofs.lemmas.Option.{same_Some}
use Rattle.std.specs.Borrow.{Bor}
use Rattle.std.specs.Option.{IsSome, option_copied}
use Rattle.std.specs.Io.KnownBytes.{Consumes, IsAtEnd, Keeps}
use Rattle.std.proofs.KnownBytes.{Consumes-trans, Consumes-kept}
use Rattle.std.proofs.lemmas.List.{append-nil}
use Rattle.mk_io.specs.Wholes.{TakesAll, TakesCount}
use Rattle.mk_spelling.specs.declared.fault.TextFault.{TextFault}
use Rattle.mk_trace.specs.declared.error.TraceError.TheVariants as errors
use Rattle.mk_history.specs.declared.RoundLog.{RoundLog}
use Rattle.mk_history.specs.Shape.{HasShape}
use Rattle.mk_kept.specs.declared.head.Head.{Head}
use Rattle.mk_kept.specs.Heads.{history}
use Rattle.mk_run.specs.Judging.{JudgeView, StandsForRounds}
use Rattle.mk_trace_text.specs.Grammar.{head_of, seen_head}
use Rattle.mk_trace.specs.Pieces.{Reading, started, fed, finished}
use Rattle.mk_trace.specs.Answers.{with_rounds, fed_behind, HeadIs, Takes, Finishes, run_of, run_text, answer_with}
use Rattle.mk_history.specs.Histories.{History}
use Rattle.mk_verdict.specs.declared.Verdict.{Verdict}
use Rattle.mk_verdict.specs.Flaws.{verdict_of}
use Rattle.mk_tool.specs.VerdictTexts.{check_text}
use Rattle.mk_tool.specs.Streams.{JudgedSo, IsJudged, IsAllJudged, IsJudgement}
use Rattle.mk_tool.proofs.JudgedLaws.{first-shape}

-- how many rounds were read and not handed out
abbrev pub rounds_left : Option Reading → ℕ
rounds_left None = 0
rounds_left (Some r) = length r.state.rounds

-- the law of the rounds so far
abbrev pub SoFar : Type 0
SoFar = (text : List ℕ) (taken : List RoundLog) (r : Reading) → fed started text ≡ with_rounds taken r → 1 ≤ length (taken ++ r.state.rounds) →
    HasShape (history r.state.head (taken ++ r.state.rounds)) × (head_of r.state ≡ Some r.state.head)

-- a round was handed out behind these, and comes to the judge next
pub record IsNext (reader : Option Reading) (judge : Option JudgeView) (text : List ℕ) (rounds : List RoundLog) (round : RoundLog) : Type 0 where
  pub reading : Reading
  pub is : reader ≡ Some reading
  pub read : fed started text ≡ with_rounds (rounds ++ round ∷ []) reading
  pub head : head_of reading.state ≡ Some reading.state.head
  pub judged : JudgedSo judge (Some reading.state.head) rounds
  pub shape : HasShape (history reading.state.head (rounds ++ round ∷ []))

same_read : (rounds : List RoundLog) (round : RoundLog) (a b : Reading) → a.state ≡ record b.state { rounds = round ∷ b.state.rounds } → b ≡ record a { state = b.state } →
    with_rounds rounds a ≡ with_rounds (rounds ++ round ∷ []) b
same_read rounds round a b states same =
    ap (λ s. record a { state = record s { rounds = rounds ++ s.rounds } }) states
    ∙ ap (λ (rs : List RoundLog). record a { state = record b.state { rounds = rs } }) (sym (append_assoc rounds (round ∷ []) b.state.rounds))
    ∙ sym (ap (λ (r : Reading). record r { state = record b.state { rounds = (rounds ++ round ∷ []) ++ b.state.rounds } }) same)

-- the head of a reading is that of the one before, of which a round was handed out
same_head : (round : RoundLog) (a b : Reading) → a.state ≡ record b.state { rounds = round ∷ b.state.rounds } → head_of a.state ≡ head_of b.state
same_head round a b states = ap head_of states

behind : SoFar → (a b : Reading) (judge : Option JudgeView) (text : List ℕ) (rounds : List RoundLog) (round : RoundLog) →
    a.state ≡ record b.state { rounds = round ∷ b.state.rounds } → b ≡ record a { state = b.state } →
    fed started text ≡ with_rounds rounds a → JudgedSo judge (head_of a.state) rounds → IsNext (Some b) judge text rounds round
behind law a b judge text rounds round states same read judged =
    let here = read ∙ same_read rounds round a b states same in
    let count = length-append rounds (round ∷ []) in
    let all = length-append (rounds ++ round ∷ []) b.state.rounds in
    let told = law text (rounds ++ round ∷ []) b here (omega (arith, count, all)) in
    record {
      reading = b;
      is = refl;
      read = here;
      head = told.1;
      judged = subst (λ (h : Option Head). JudgedSo judge h rounds) (same_head round a b states ∙ told.1) judged;
      shape = first-shape b.state.head rounds b.state.rounds round
          (subst (λ (rs : List RoundLog). HasShape (history b.state.head rs)) (append_assoc rounds (round ∷ []) b.state.rounds) told.0);
    }

pub next : SoFar → (old new : Option Reading) (judge : Option JudgeView) (text : List ℕ) (rounds : List RoundLog) (round : RoundLog) →
    Takes (Some round) old new → IsJudged old judge text rounds → IsNext new judge text rounds round
next law None new judge text rounds round takes h = let none = h.is in absurd cc
next law (Some a) None judge text rounds round takes h = absurd takes
next law (Some a) (Some b) judge text rounds round takes h =
    let same = same_Some a h.reading h.is in
    behind law a b judge text rounds round takes.0 takes.1
    (h.read ∙ ap (λ (r : Reading). with_rounds rounds r) (sym same))
    (subst (λ (r : Reading). JudgedSo judge (head_of r.state) rounds) (sym same) h.judged)

-- the round was judged
pub judged : (reader : Option Reading) (old new : Option JudgeView) (text : List ℕ) (rounds : List RoundLog) (round : RoundLog) →
    (h : IsNext reader old text rounds round) → JudgedSo new (Some h.reading.state.head) (rounds ++ round ∷ []) → IsJudged reader new text (rounds ++ round ∷ [])
judged reader old new text rounds round h so = record {
  reading = h.reading;
  is = h.is;
  read = h.read;
  judged = subst (λ (o : Option Head). JudgedSo new o (rounds ++ round ∷ [])) (sym h.head) so;
}

-- none is left
pub none_left : (old new : Option Reading) (judge : Option JudgeView) (text : List ℕ) (rounds : List RoundLog) →
    Takes None old new → IsJudged old judge text rounds → IsAllJudged new judge text
none_left None new judge text rounds takes h = let none = h.is in absurd cc
none_left (Some a) None judge text rounds takes h = absurd takes
none_left (Some a) (Some b) judge text rounds takes h =
    let same = same_Some a h.reading h.is in
    let all : b ≡ a = takes.1 ∙ ap (λ s. record a { state = s }) takes.0.1 in
    record {
      rounds = rounds;
      so = record {
        reading = a;
        is = ap (λ (r : Reading). Some r) all;
        read = h.read ∙ ap (λ (r : Reading). with_rounds rounds r) (sym same);
        judged = subst (λ (r : Reading). JudgedSo judge (head_of r.state) rounds) (sym same) h.judged;
      };
      none = takes.0.0;
    }

-- a piece was read
pub piece_read : ((text piece : List ℕ) (taken : List RoundLog) (r : Reading) → fed started text ≡ with_rounds taken r → fed started (text ++ piece) ≡ with_rounds taken (fed r piece)) →
    ((text piece : List ℕ) (taken : List RoundLog) (r : Reading) (head : Head) → fed started text ≡ with_rounds taken r → head_of r.state ≡ Some head → head_of (fed r piece).state ≡ Some head) →
    (old new : Option Reading) (judge : Option JudgeView) (text piece : List ℕ) → new ≡ fed_behind old piece → (h : IsAllJudged old judge text) →
    IsJudged new judge (text ++ piece) h.rounds
piece_read follows stays None new judge text piece is h = let none = h.so.is in absurd cc
piece_read follows stays (Some a) new judge text piece is h =
    let same = same_Some a h.so.reading h.so.is in
    let read = h.so.read ∙ ap (λ (r : Reading). with_rounds h.rounds r) (sym same) in
    record {
      reading = fed a piece;
      is = is;
      read = follows text piece h.rounds a read;
      judged = at judge read (subst (λ (r : Reading). JudgedSo judge (head_of r.state) h.rounds) (sym same) h.so.judged);
    }
  where
    at : (judge : Option JudgeView) → fed started text ≡ with_rounds h.rounds a → JudgedSo judge (head_of a.state) h.rounds → JudgedSo judge (head_of (fed a piece).state) h.rounds
    at None read so = so
    at (Some j) read so = (so.0, stays text piece h.rounds a j.head read so.1, so.2)

-- no byte was read
pub begun : (reader : Option Reading) → reader ≡ Some started → IsAllJudged reader None []
begun reader is = record {
  rounds = [];
  so = record { reading = started; is = is; read = refl; judged = refl };
  none = refl;
}

-- one is left less
pub fewer : (old new : Option Reading) (judge : Option JudgeView) (text : List ℕ) (rounds : List RoundLog) (round : RoundLog) →
    Takes (Some round) old new → IsJudged old judge text rounds → rounds_left new < rounds_left old
fewer None new judge text rounds round takes h = let none = h.is in absurd cc
fewer (Some a) None judge text rounds round takes h = absurd takes
fewer (Some a) (Some b) judge text rounds round takes h =
    let count = ap (λ s. length s.rounds) takes.0 in
    omega (arith, count)

-- ---- the head that is told

told_some : (head : Option (Bor Head)) (h : Head) → seen_head head ≡ Some h → IsSome head
told_some None h e = absurd cc
told_some (Some b) h e = refl

told_is : (head : Option (Bor Head)) (b : Bor Head) (h : Head) → head ≡ Some b → seen_head head ≡ Some h → h ≡ b.now
told_is head b h is e = same_Some h b.now (sym e ∙ ap seen_head is)

-- a call tells the head of a reading, where the head was read
module _ (head : Option (Bor Head)) (reader : Option Reading) (reading : Reading) (told : HeadIs head reader) (is : reader ≡ Some reading) (h : Head) (there : head_of reading.state ≡ Some h) where
  seen : seen_head head ≡ Some h
  seen = subst (HeadIs head) is told ∙ there

  pub head_some : IsSome head
  head_some = told_some head h seen

  pub head_is : (b : Bor Head) → head ≡ Some b → h ≡ b.now
  head_is b e = told_is head b h e seen

-- what the judge is shown a round by
pub shows : (reader : Option Reading) (judge : Option JudgeView) (text : List ℕ) (rounds : List RoundLog) (round : RoundLog) (n : IsNext reader judge text rounds round) (h : Head) →
    n.reading.state.head ≡ h → JudgedSo judge (Some h) rounds × HasShape (history h (rounds ++ round ∷ []))
shows reader judge text rounds round n h same =
    (subst (λ (x : Head). JudgedSo judge (Some x) rounds) same n.judged, subst (λ (x : Head). HasShape (history x (rounds ++ round ∷ []))) same n.shape)

pub judged_by : (reader : Option Reading) (old new : Option JudgeView) (text : List ℕ) (rounds : List RoundLog) (round : RoundLog) (n : IsNext reader old text rounds round) (h : Head) →
    n.reading.state.head ≡ h → JudgedSo new (Some h) (rounds ++ round ∷ []) → IsJudged reader new text (rounds ++ round ∷ [])
judged_by reader old new text rounds round n h same so =
    judged reader old new text rounds round n (subst (λ (x : Head). JudgedSo new (Some x) (rounds ++ round ∷ [])) (sym same) so)

pub on_ok_map : {A E P Q : Type 0} (result : Result A E) → (P → Q) → OnOk result P → OnOk result Q
on_ok_map (Ok a) f p = f p
on_ok_map (Err e) f p = tt

-- ---- the end of a text

-- the law of the answer at the end
abbrev pub Told : Type 0
Told = (text : List ℕ) (taken : List RoundLog) (r : Reading) → fed started text ≡ with_rounds taken r → run_text text ≡ run_of (answer_with taken (finished r))

pub refused : Told → (reader : Option Reading) (judge : Option JudgeView) (text : List ℕ) (line : ℕ) (why : TextFault) →
    Finishes (Err (errors.BadLine line why)) reader → IsAllJudged reader judge text → run_text text ≡ Err (line, why)
refused law reader judge text line why finishes h =
    let end : finished h.so.reading ≡ Err (line, why) = subst (Finishes (Err (errors.BadLine line why))) h.so.is finishes in
    law text h.rounds h.so.reading h.so.read ∙ ap (λ answer. run_of (answer_with h.rounds answer)) end

-- the law of the rounds of a text that is read
abbrev pub ReadRounds : Type 0
ReadRounds = (text : List ℕ) (taken : List RoundLog) (r : Reading) → fed started text ≡ with_rounds taken r → finished r ≡ Ok r.state → HasShape (history r.state.head (taken ++ r.state.rounds))

-- the text is a trace, and all its rounds were judged
pub record IsDone (reader : Option Reading) (judge : Option JudgeView) (text : List ℕ) : Type 0 where
  pub reading : Reading
  pub is : reader ≡ Some reading
  pub judge_view : JudgeView
  pub judge_is : judge ≡ Some judge_view
  pub rounds : List RoundLog
  pub there : head_of reading.state ≡ Some judge_view.head
  pub stands : StandsForRounds judge_view rounds
  pub works : judge_view.failed ≡ false
  pub shape : HasShape (history judge_view.head rounds)
  pub trace : run_text text ≡ Ok (history judge_view.head rounds)

done_with : (reader : Option Reading) (judge : Option JudgeView) (text : List ℕ) (reading : Reading) (rounds : List RoundLog) → reader ≡ Some reading →
    head_of reading.state ≡ Some reading.state.head → JudgedSo judge (head_of reading.state) rounds → HasShape (history reading.state.head rounds) →
    run_text text ≡ Ok (history reading.state.head rounds) → IsDone reader judge text
done_with reader None text reading rounds is there judged shape trace =
    let some = shape.some_round in
    let none = ap length judged in
    absurd (omega (arith, some, none))
done_with reader (Some judge) text reading rounds is there judged shape trace =
    let same = same_Some reading.state.head judge.head (sym there ∙ judged.1) in
    record {
      reading = reading;
      is = is;
      judge_view = judge;
      judge_is = refl;
      rounds = rounds;
      there = judged.1;
      stands = judged.0;
      works = judged.2;
      shape = subst (λ (x : Head). HasShape (history x rounds)) same shape;
      trace = trace ∙ ap (λ (x : Head). ok_run (history x rounds)) same;
    }
  where
    ok_run : History → Result History (ℕ × TextFault)
    ok_run run = Ok run

pub done : Told → ReadRounds → SoFar → (reader : Option Reading) (judge : Option JudgeView) (text : List ℕ) → Finishes (Ok tt) reader → IsAllJudged reader judge text → IsDone reader judge text
done told read so_far reader judge text finishes h =
    let r = h.so.reading in
    let end : finished r ≡ Ok r.state = subst (Finishes (Ok tt)) h.so.is finishes in
    let all : h.rounds ++ r.state.rounds ≡ h.rounds = ap (λ (rs : List RoundLog). h.rounds ++ rs) h.none ∙ append-nil h.rounds in
    let shape = subst (λ (rs : List RoundLog). HasShape (history r.state.head rs)) all (read text h.rounds r h.so.read end) in
    let some = shape.some_round in
    let count = ap (λ (rs : List RoundLog). length rs) all in
    let there = so_far text h.rounds r h.so.read (omega (arith, some, count)) in
    done_with reader judge text r h.rounds h.so.is there.1 h.so.judged shape
    (told text h.rounds r h.so.read ∙ ap (λ answer. run_of (answer_with h.rounds answer)) end ∙ ap (λ (rs : List RoundLog). ok_run (history r.state.head rs)) all)
  where
    ok_run : History → Result History (ℕ × TextFault)
    ok_run run = Ok run

-- ---- the bytes of a source

-- what was consumed was taken
counted : (old new : Option (List ℕ)) (bytes : List ℕ) (count : ℕ) → length bytes ≡ count → Consumes old new bytes → TakesCount old new count
counted None new bytes count n c = tt
counted (Some left) None bytes count n c = absurd c
counted (Some left) (Some rest) bytes count n c =
    let all : length left ≡ length bytes + length rest = ap length c ∙ length-append bytes rest in
    (omega (arith, all, n), ap some_bytes (sym (ap (drop count) c ∙ drop_at bytes rest count n)))
  where
    some_bytes : List ℕ → Option (List ℕ)
    some_bytes bytes = Some bytes

pub counted_two : (old mid new : Option (List ℕ)) (front part : List ℕ) (count : ℕ) → Consumes old mid front → Consumes mid new part → length front + length part ≡ count → TakesCount old new count
counted_two old mid new front part count c d n =
    counted old new (front ++ part) count (length-append front part ∙ n) (Consumes-trans old mid new front part c d)

-- a source at its end gave all that it had
pub all_taken : (old new : Option (List ℕ)) (bytes : List ℕ) → Consumes old new bytes → IsAtEnd new → TakesAll old new bytes
all_taken None new bytes c e = tt
all_taken (Some left) None bytes c e = absurd c
all_taken (Some left) (Some rest) bytes c e = (sym (c ∙ ap (λ (r : List ℕ). bytes ++ r) e ∙ append-nil bytes), ap some_bytes e)
  where
    some_bytes : List ℕ → Option (List ℕ)
    some_bytes bytes = Some bytes

-- so many bytes came from a source, and were judged
pub record IsSoFar (old new : Option (List ℕ)) (count : ℕ) (reader : Option Reading) (judge : Option JudgeView) : Type 0 where
  pub text : List ℕ
  pub counted : length text ≡ count
  pub consumed : Consumes old new text
  pub judged : IsAllJudged reader judge text

-- more bytes came, and were judged
pub so_far_more : (old mid new : Option (List ℕ)) (count more : ℕ) (reader reader' : Option Reading) (judge judge' : Option JudgeView) (part : List ℕ) → (s : IsSoFar old mid count reader judge) →
    Consumes mid new part → length part ≡ more → IsAllJudged reader' judge' (s.text ++ part) → IsSoFar old new (count + more) reader' judge'
so_far_more old mid new count more reader reader' judge judge' part s consumed size judged =
    let all = length-append s.text part in
    let before = s.counted in
    record {
      text = s.text ++ part;
      counted = omega (arith, all, before, size);
      consumed = Consumes-trans old mid new s.text part s.consumed consumed;
      judged = judged;
    }

-- so many were taken, and no more where a read failed
pub taken_so_far : (old mid new : Option (List ℕ)) (count : ℕ) (reader : Option Reading) (judge : Option JudgeView) → IsSoFar old mid count reader judge → Keeps mid new → TakesCount old new count
taken_so_far old mid new count reader judge s kept = counted old new s.text count s.counted (Consumes-kept old mid new s.text s.consumed kept)

pub taken_with : (old mid new : Option (List ℕ)) (count more all : ℕ) (reader : Option Reading) (judge : Option JudgeView) (part : List ℕ) → IsSoFar old mid count reader judge →
    Consumes mid new part → length part ≡ more → count + more ≡ all → TakesCount old new all
taken_with old mid new count more all reader judge part s consumed size total =
    let before = s.counted in
    counted_two old mid new s.text part all s.consumed consumed (omega (arith, before, size, total))

-- ---- what the judge says at the end

pub copied_some : {A : Type 0} (o : Option (Bor A)) (x : A) → option_copied o ≡ Some x → IsSome o
copied_some None x e = absurd cc
copied_some (Some b) x e = refl

pub copied_is : {A : Type 0} (o : Option (Bor A)) (b : Bor A) (x : A) → o ≡ Some b → option_copied o ≡ Some x → x ≡ b.now
copied_is o b x is e = same_Some x b.now (sym e ∙ ap option_copied is)

-- what a judge with this head says of the text
module _ (reader : Option Reading) (judge : Option JudgeView) (text : List ℕ) (d : IsDone reader judge text) (head : Head) (j : JudgeView) (heads : d.judge_view.head ≡ head) (same : d.judge_view ≡ j) where
  pub its_stands : StandsForRounds j d.rounds
  its_stands = subst (λ (v : JudgeView). StandsForRounds v d.rounds) same d.stands

  pub its_shape : HasShape (history head d.rounds)
  its_shape = subst (λ (h : Head). HasShape (history h d.rounds)) heads d.shape

  pub its_head : j.head ≡ head
  its_head = sym (ap (λ (v : JudgeView). v.head) same) ∙ heads

  pub its_some : 1 ≤ j.taken
  its_some =
      let count = its_stands.taken in
      let some = its_shape.some_round in
      omega (arith, count, some)

  pub its_works : j.failed ≡ false
  its_works = subst (λ (v : JudgeView). v.failed ≡ false) same d.works

  pub its_judgement : (verdict : Verdict) (bytes : List ℕ) → verdict ≡ verdict_of (history head d.rounds) → bytes ≡ check_text (history head d.rounds) → IsJudgement text verdict bytes
  its_judgement verdict bytes verdict_is text_is = record {
    run = history head d.rounds;
    shape = its_shape;
    trace = d.trace ∙ ap (λ (h : Head). ok_run (history h d.rounds)) heads;
    verdict_is = verdict_is;
    text_is = text_is;
  }
    where
      ok_run : History → Result History (ℕ × TextFault)
      ok_run run = Ok run
