-- The rounds that were read to their end, while more may come.
use Rattle.std.proofs.Common.{◌≡◌, ℕ, zero, suc, ◌≤◌, Bool, true, false, cond, eqb, List, [], ◌∷◌, ◌++◌, length, Option, Some, None, Result, Ok, Err, refl, sym, ap, subst, ◌∙◌, arith}
use Rattle.std.proofs.lemmas.Bool.{eqb-true}
use Rattle.std.proofs.lemmas.List.{length-append}
use Rattle.mk_lists.proofs.EachMember.{Each-append_left}
use Rattle.mk_spelling.specs.declared.fault.TextFault.{TextFault}
use Rattle.mk_spelling.specs.Lines.{Refusal}
use Rattle.mk_spelling.proofs.FieldLaws.{ok_is}
use Rattle.mk_history.specs.declared.RoundLog.{RoundLog}
use Rattle.mk_history.specs.Shape.{IsRoundShape, begins_in, HasShape}
use Rattle.mk_kept.specs.declared.head.Head.{Head}
use Rattle.mk_kept.specs.Heads.{history}
use Rattle.mk_trace_text.specs.declared.section.Section.{Section}
use Rattle.mk_trace_text.specs.declared.section.Section.TheVariants as sections
use Rattle.mk_trace_text.specs.States.{State, after}
use Rattle.mk_trace_lines.specs.TraceLines.{TraceLine}
use Rattle.mk_trace_lines.specs.TraceLines.TraceLine.{Opens, Sizes, Declares, Names, Begins, Heads, Logged, Marks, Kept, Changes, Changed, Ends}
use Rattle.mk_trace_text.specs.Grammar.{line_of, taken, line_result, head_of}
use Rattle.mk_trace.specs.Pieces.{Reading, started, ended_line, byte_behind, fed_byte, fed}
use Rattle.mk_trace.specs.Answers.{with_rounds}
use Rattle.mk_trace.proofs.FitLaws.{Gives}
use Rattle.mk_trace.proofs.LineFits.{Fits, line_law}
use Rattle.mk_trace.proofs.GrownTables.{sum-push}
use Rattle.mk_trace.proofs.HandedOut.{fed_lifted}
use Rattle.mk_trace.proofs.HeadStays.{in_rounds, head_at}
use Rattle.mk_trace.proofs.KeepLaws.{InHead, InRound, KeptIn, IsKept, globals_in, some_count, nothing_kept, kept_byte, kept_fed}

-- ---- their shape

-- the rounds above the one that goes on
front : (s : State) → InRound s → 1 ≤ length s.rounds → HasShape (history s.head s.rounds)
front s h some = record {
  version = h.version;
  faults = h.head.size;
  columns = h.head.columns;
  few_columns = h.head.few_columns;
  clients = h.head.clients;
  few_clients = h.head.few_clients;
  few_keys = h.head.few_keys;
  named_clients = h.head.named_clients;
  named_keys = h.head.named_keys;
  distinct_clients = h.head.distinct_clients;
  distinct_keys = h.head.distinct_keys;
  some_round = some;
  few_rounds = (let n = length-append s.rounds (s.round ∷ []) in omega (arith, n, h.count, h.few));
  few_globals = (let n = sum-push globals_in s.rounds s.round in omega (arith, n, h.changed, h.few_changes));
  few_attempts = λ client.
      (let n = sum-push (begins_in client) s.rounds s.round in
      let a = h.attempts client in
      let b = h.begun client in
      omega (arith, n, a, b));
  rounds = Each-append_left (IsRoundShape (history s.head s.rounds)) s.rounds (s.round ∷ []) (h.shapes s.rounds);
}

-- a head that was read to its end
head_there : (s : State) → 1 ≤ s.count → head_of s ≡ Some s.head
head_there s some = here (eqb s.count 0) refl
  where
    here : (b : Bool) → eqb s.count 0 ≡ b → cond b None (Some s.head) ≡ Some s.head
    here true e = let z = eqb-true s.count 0 e in absurd (omega (arith, z, some))
    here false e = refl

abbrev IsSoFar : State → Type 0
IsSoFar s = HasShape (history s.head s.rounds) × (1 ≤ s.count)

-- before the first round none was read
none_yet : (s : State) → InHead s → 1 ≤ length s.rounds → IsSoFar s
none_yet s h some = let n = ap length h.rounds in absurd (omega (arith, n, some))

some_yet : (s : State) → InRound s → 1 ≤ length s.rounds → IsSoFar s
some_yet s h some = (front s h some, some_count s h)

so_far : (s : State) → IsKept s → 1 ≤ length s.rounds → IsSoFar s
so_far s h some = at s.section h
  where
    at : (x : Section) → KeptIn x s → IsSoFar s
    at sections.Start k = none_yet s k some
    at sections.Opened k = none_yet s k.0 some
    at sections.Clients k = none_yet s k.0 some
    at sections.Keys k = none_yet s k.0 some
    at sections.Round k = some_yet s k some
    at sections.Column k = some_yet s k some
    at sections.Log k = some_yet s k some
    at sections.Cell k = some_yet s k some
    at sections.Journal k = some_yet s k some
    at sections.Globals k = some_yet s k some
    at sections.Changes k = some_yet s k some
    at sections.Ended k = k

-- what was kept of a text, of which rounds were handed out
kept_with : (text : List ℕ) (taken : List RoundLog) (r : Reading) → fed started text ≡ with_rounds taken r → IsKept (with_rounds taken r).state
kept_with text taken r e = subst (λ (x : Reading). IsKept x.state) e (kept_fed started text nothing_kept)

pub shaped_so_far : (text : List ℕ) (taken : List RoundLog) (r : Reading) → fed started text ≡ with_rounds taken r → 1 ≤ length (taken ++ r.state.rounds)
    → HasShape (history r.state.head (taken ++ r.state.rounds)) × (head_of r.state ≡ Some r.state.head)
shaped_so_far text taken r e some =
    let h = so_far (with_rounds taken r).state (kept_with text taken r e) some in
    (h.0, head_there r.state h.1)

-- ---- the head stays

-- behind the first heading of a round
abbrev IsBehind : State → State → Type 0
IsBehind s t = (t.head ≡ s.head) × (1 ≤ t.count)

-- what was kept says whether a round has begun
in_there : (s : State) → IsKept s → 1 ≤ s.count → in_rounds s.section ≡ true
in_there s h some = at s.section h
  where
    none : (x : Section) → InHead s → in_rounds x ≡ true
    none x k = let n = k.count in absurd (omega (arith, n, some))

    at : (x : Section) → KeptIn x s → in_rounds x ≡ true
    at sections.Start k = none sections.Start k
    at sections.Opened k = none sections.Opened k.0
    at sections.Clients k = none sections.Clients k.0
    at sections.Keys k = none sections.Keys k.0
    at sections.Round k = refl
    at sections.Column k = refl
    at sections.Log k = refl
    at sections.Cell k = refl
    at sections.Journal k = refl
    at sections.Globals k = refl
    at sections.Changes k = refl
    at sections.Ended k = refl

-- no line takes a round back
count_after : (s : State) (line : TraceLine) → 1 ≤ s.count → 1 ≤ (after s line).count
count_after s (Begins n) some = omega (arith, some)
count_after s (Opens v) some = some
count_after s (Sizes f) some = some
count_after s (Declares name column) some = some
count_after s (Names name) some = some
count_after s (Heads column) some = some
count_after s (Logged seq step) some = some
count_after s (Marks replica key) some = some
count_after s (Kept entry) some = some
count_after s Changes some = some
count_after s (Changed entry) some = some
count_after s Ends some = some

behind_line : (s : State) (line : TraceLine) → IsKept s → Fits s line → 1 ≤ s.count → IsBehind s (after s line)
behind_line s line h k some =
    let one = head_at s line k (in_there s h some) in
    (one.0, count_after s line some)

behind_taken : (s : State) (r : Result TraceLine TextFault) (t : State) → Gives (Fits s) r → taken s r ≡ Ok t → IsKept s → 1 ≤ s.count → IsBehind s t
behind_taken s (Ok line) t g e h some = subst (IsBehind s) (ok_is (after s line) t e) (behind_line s line h g.is some)
behind_taken s (Err fault) t g e h some = absurd cc

behind_ended : (s : State) (n : ℕ) (bytes : List ℕ) → IsKept s → 1 ≤ s.count → IsBehind s (ended_line s n (line_result s bytes)).state
behind_ended s n bytes h some = here (line_result s bytes) refl
  where
    here : (r : Result State TextFault) → line_result s bytes ≡ r → IsBehind s (ended_line s n r).state
    here (Ok t) e = behind_taken s (line_of s bytes) t (line_law s bytes) e h some
    here (Err why) e = (refl, some)

behind_byte : (s : State) (fault : Option Refusal) (n : ℕ) (held : List ℕ) (b : ℕ) → IsKept s → 1 ≤ s.count → IsBehind s (byte_behind s fault n held b).state
behind_byte s (Some refusal) n held b h some = (refl, some)
behind_byte s None n held b h some = here (eqb b 10)
  where
    here : (t : Bool) → IsBehind s (cond t (ended_line s n (line_result s held)) (record { state = s; fault = None; number = n; held = held ++ b ∷ [] })).state
    here true = behind_ended s n held h some
    here false = (refl, some)

stays : (r : Reading) (bytes : List ℕ) → IsKept r.state → 1 ≤ r.state.count → IsBehind r.state (fed r bytes).state
stays r [] h some = (refl, some)
stays r (b ∷ bs) h some =
    let first = behind_byte r.state r.fault r.number r.held b h some in
    let rest = stays (fed_byte r b) bs (kept_byte r.state r.fault r.number r.held b h) first.1 in
    (rest.0 ∙ first.0, rest.1)

there_count : (s : State) (head : Head) → head_of s ≡ Some head → 1 ≤ s.count
there_count s head e = at s.count refl
  where
    none_at : ℕ → Option Head
    none_at n = cond (eqb n 0) None (Some s.head)

    at : (n : ℕ) → s.count ≡ n → 1 ≤ s.count
    at zero k = let none = ap none_at k in absurd (cc (e, none))
    at (suc n) k = omega (arith, k)

pub head_stays : (text piece : List ℕ) (taken : List RoundLog) (r : Reading) (head : Head) → fed started text ≡ with_rounds taken r → head_of r.state ≡ Some head
    → head_of (fed r piece).state ≡ Some head
head_stays text piece taken r head e there =
    let some = there_count r.state head there in
    let whole = stays (with_rounds taken r) piece (kept_with text taken r e) some in
    let b = subst (λ (x : Reading). IsBehind r.state x.state) (fed_lifted taken r piece) whole in
    head_there (fed r piece).state b.1 ∙ ap (λ (h : Head). some_head h) (b.0 ∙ is_head r.state head some there)
  where
    some_head : Head → Option Head
    some_head h = Some h

    is_head : (s : State) (head : Head) → 1 ≤ s.count → head_of s ≡ Some head → s.head ≡ head
    is_head s head some there = some_is s.head head (sym (head_there s some) ∙ there)
      where
        some_is : (a b : Head) → Some a ≡ Some b → a ≡ b
        some_is a b e = cc
