-- The lines of lists with one member more.
use Rattle.std.proofs.Common.{◌≡◌, ℕ, zero, suc, ◌+◌, ◌<◌, List, [], ◌∷◌, ◌++◌, length, map, take, get_or, refl, sym, ap, ◌∙◌, arith, append_assoc}
use Rattle.std.proofs.lemmas.List.{append-nil, take_more, length-take-le, map-append, length-map}
use Rattle.mk_words.specs.declared.Step.{Step}
use Rattle.mk_words.specs.declared.JournalEntry.{JournalEntry}
use Rattle.mk_history.specs.declared.RoundLog.{RoundLog}
use Rattle.mk_trace_lines.specs.TraceLines.{TraceLine, key_name, text_of, line_text}
use Rattle.mk_trace_lines.specs.TraceLines.TraceLine.{Declares, Names}
use Rattle.mk_trace_text.specs.Begun.{begun_after, begun_through, begun_in}
use Rattle.mk_trace_text.specs.Traces.{zeros, client_lines, key_line, step_line, step_lines, log_lines, logs_lines, journal_lines, replica_lines, journals_lines, round_lines, rounds_lines}

pub text-append : (clients keys : List (List ℕ)) (a b : List TraceLine) → text_of clients keys (a ++ b) ≡ text_of clients keys a ++ text_of clients keys b
text-append clients keys [] b = refl
text-append clients keys (line ∷ a) b =
    ap (λ (x : List ℕ). line_text clients keys line ++ x) (text-append clients keys a b)
    ∙ sym (append_assoc (line_text clients keys line) (text_of clients keys a) (text_of clients keys b))

right_zero : (n : ℕ) → n ≡ n + 0
right_zero n = omega arith

shifted : (n m : ℕ) → (n + 1) + m ≡ n + suc m
shifted n m = omega arith

zero_plus : (n k : ℕ) → n ≡ k → 0 + n ≡ k
zero_plus n k e = omega (arith, e)

pub client_lines-more : (names : List (List ℕ)) (n : ℕ) (xs : List ℕ) (x : ℕ)
    → client_lines names n (xs ++ x ∷ []) ≡ client_lines names n xs ++ Declares (key_name names (n + length xs)) x ∷ []
client_lines-more names n [] x = ap (λ (k : ℕ). Declares (key_name names k) x ∷ []) (right_zero n)
client_lines-more names n (y ∷ ys) x =
    ap (λ (l : List TraceLine). Declares (key_name names n) y ∷ l)
    (client_lines-more names (n + 1) ys x ∙ ap (λ (k : ℕ). client_lines names (n + 1) ys ++ Declares (key_name names k) x ∷ []) (shifted n (length ys)))

pub step_lines-more : (begun : List ℕ) (xs : List Step) (x : Step) → step_lines begun (xs ++ x ∷ []) ≡ step_lines begun xs ++ step_line (begun_through begun xs) x ∷ []
step_lines-more begun [] x = refl
step_lines-more begun (y ∷ ys) x = ap (λ (l : List TraceLine). step_line begun y ∷ l) (step_lines-more (begun_after begun y) ys x)

pub begun_through-more : (begun : List ℕ) (xs : List Step) (x : Step) → begun_through begun (xs ++ x ∷ []) ≡ begun_after (begun_through begun xs) x
begun_through-more begun [] x = refl
begun_through-more begun (y ∷ ys) x = begun_through-more (begun_after begun y) ys x

begun_in-more : (begun : List ℕ) (xs : List (List Step)) (x : List Step) → begun_in begun (xs ++ x ∷ []) ≡ begun_through (begun_in begun xs) x
begun_in-more begun [] x = refl
begun_in-more begun (y ∷ ys) x = begun_in-more (begun_through begun y) ys x

logs_lines-more : (begun : List ℕ) (n : ℕ) (xs : List (List Step)) (x : List Step)
    → logs_lines begun n (xs ++ x ∷ []) ≡ logs_lines begun n xs ++ log_lines (begun_in begun xs) (n + length xs) x
logs_lines-more begun n [] x = append-nil (log_lines begun n x) ∙ ap (λ (k : ℕ). log_lines begun k x) (right_zero n)
logs_lines-more begun n (y ∷ ys) x =
    let b = begun_through begun y in
    ap (λ (l : List TraceLine). log_lines begun n y ++ l)
    (logs_lines-more b (n + 1) ys x ∙ ap (λ (k : ℕ). logs_lines b (n + 1) ys ++ log_lines (begun_in b ys) k x) (shifted n (length ys)))
    ∙ sym (append_assoc (log_lines begun n y) (logs_lines b (n + 1) ys) (log_lines (begun_in b ys) (n + suc (length ys)) x))

replica_lines-more : (replica n : ℕ) (xs : List (List JournalEntry)) (x : List JournalEntry)
    → replica_lines replica n (xs ++ x ∷ []) ≡ replica_lines replica n xs ++ journal_lines replica (n + length xs) x
replica_lines-more replica n [] x = append-nil (journal_lines replica n x) ∙ ap (λ (k : ℕ). journal_lines replica k x) (right_zero n)
replica_lines-more replica n (y ∷ ys) x =
    ap (λ (l : List TraceLine). journal_lines replica n y ++ l)
    (replica_lines-more replica (n + 1) ys x ∙ ap (λ (k : ℕ). replica_lines replica (n + 1) ys ++ journal_lines replica k x) (shifted n (length ys)))
    ∙ sym (append_assoc (journal_lines replica n y) (replica_lines replica (n + 1) ys) (journal_lines replica (n + suc (length ys)) x))

journals_lines-more : (n : ℕ) (xs : List (List (List JournalEntry))) (x : List (List JournalEntry))
    → journals_lines n (xs ++ x ∷ []) ≡ journals_lines n xs ++ replica_lines (n + length xs) 0 x
journals_lines-more n [] x = append-nil (replica_lines n 0 x) ∙ ap (λ (k : ℕ). replica_lines k 0 x) (right_zero n)
journals_lines-more n (y ∷ ys) x =
    ap (λ (l : List TraceLine). replica_lines n 0 y ++ l)
    (journals_lines-more (n + 1) ys x ∙ ap (λ (k : ℕ). journals_lines (n + 1) ys ++ replica_lines k 0 x) (shifted n (length ys)))
    ∙ sym (append_assoc (replica_lines n 0 y) (journals_lines (n + 1) ys) (replica_lines (n + suc (length ys)) 0 x))

-- what the rounds begin
abbrev pub begun_by : List ℕ → List RoundLog → List ℕ
begun_by begun [] = begun
begun_by begun (round ∷ rounds) = begun_by (begun_in begun round.logs) rounds

pub begun_by-more : (begun : List ℕ) (xs : List RoundLog) (x : RoundLog) → begun_by begun (xs ++ x ∷ []) ≡ begun_in (begun_by begun xs) x.logs
begun_by-more begun [] x = refl
begun_by-more begun (y ∷ ys) x = begun_by-more (begun_in begun y.logs) ys x

pub rounds_lines-more : (begun : List ℕ) (n : ℕ) (xs : List RoundLog) (x : RoundLog)
    → rounds_lines begun n (xs ++ x ∷ []) ≡ rounds_lines begun n xs ++ round_lines (begun_by begun xs) (n + length xs) x
rounds_lines-more begun n [] x = append-nil (round_lines begun n x) ∙ ap (λ (k : ℕ). round_lines begun k x) (right_zero n)
rounds_lines-more begun n (y ∷ ys) x =
    let b = begun_in begun y.logs in
    ap (λ (l : List TraceLine). round_lines begun n y ++ l)
    (rounds_lines-more b (n + 1) ys x ∙ ap (λ (k : ℕ). rounds_lines b (n + 1) ys ++ round_lines (begun_by b ys) k x) (shifted n (length ys)))
    ∙ sym (append_assoc (round_lines begun n y) (rounds_lines b (n + 1) ys) (round_lines (begun_by b ys) (n + suc (length ys)) x))

-- ---- one member more of a list that is gone through

-- written so far, and what comes behind it
pub grown : (clients keys : List (List ℕ)) (out old new : List ℕ) (a b c : List TraceLine)
    → old ≡ out ++ text_of clients keys a → new ≡ old ++ text_of clients keys b → c ≡ a ++ b → new ≡ out ++ text_of clients keys c
grown clients keys out old new a b c eo en ec =
    en ∙ ap (λ (x : List ℕ). x ++ text_of clients keys b) eo ∙ append_assoc out (text_of clients keys a) (text_of clients keys b)
    ∙ ap (λ (x : List ℕ). out ++ x) (sym (ap (text_of clients keys) ec ∙ text-append clients keys a b))

pub clients_turn : (names : List (List ℕ)) (xs : List ℕ) (i d : ℕ) → i < length xs
    → client_lines names 0 (take (i + 1) xs) ≡ client_lines names 0 (take i xs) ++ Declares (key_name names i) (get_or xs i d) ∷ []
clients_turn names xs i d lt =
    ap (client_lines names 0) (take_more xs i d lt) ∙ client_lines-more names 0 (take i xs) (get_or xs i d)
    ∙ ap (λ (k : ℕ). client_lines names 0 (take i xs) ++ Declares (key_name names k) (get_or xs i d) ∷ []) (zero_plus (length (take i xs)) i (length-take-le i xs (omega arith)))

pub steps_turn : (begun : List ℕ) (xs : List Step) (i : ℕ) (d : Step) → i < length xs
    → step_lines begun (take (i + 1) xs) ≡ step_lines begun (take i xs) ++ step_line (begun_through begun (take i xs)) (get_or xs i d) ∷ []
steps_turn begun xs i d lt = ap (step_lines begun) (take_more xs i d lt) ∙ step_lines-more begun (take i xs) (get_or xs i d)

pub begun_turn : (begun : List ℕ) (xs : List Step) (i : ℕ) (d : Step) → i < length xs
    → begun_through begun (take (i + 1) xs) ≡ begun_after (begun_through begun (take i xs)) (get_or xs i d)
begun_turn begun xs i d lt = ap (begun_through begun) (take_more xs i d lt) ∙ begun_through-more begun (take i xs) (get_or xs i d)

map_turn : {V W : Type 0} (items : V → W) (vs : List V) (i : ℕ) (d : V) → i < length vs
    → map items (take (i + 1) vs) ≡ map items (take i vs) ++ items (get_or vs i d) ∷ []
map_turn items vs i d lt = ap (map items) (take_more vs i d lt) ∙ map-append items (take i vs) (get_or vs i d ∷ [])

map_length : {V W : Type 0} (items : V → W) (vs : List V) (i : ℕ) → i < length vs → length (map items (take i vs)) ≡ i
map_length items vs i lt = length-map (take i vs) items ∙ length-take-le i vs (omega arith)

pub logs_turn : {V : Type 0} (items : V → List Step) (begun : List ℕ) (vs : List V) (i : ℕ) (d : V) → i < length vs
    → logs_lines begun 0 (map items (take (i + 1) vs)) ≡ logs_lines begun 0 (map items (take i vs)) ++ log_lines (begun_in begun (map items (take i vs))) i (items (get_or vs i d))
logs_turn items begun vs i d lt =
    let before = map items (take i vs) in
    ap (logs_lines begun 0) (map_turn items vs i d lt) ∙ logs_lines-more begun 0 before (items (get_or vs i d))
    ∙ ap (λ (k : ℕ). logs_lines begun 0 before ++ log_lines (begun_in begun before) k (items (get_or vs i d))) (zero_plus (length (map items (take i vs))) i (map_length items vs i lt))

pub logs_begun_turn : {V : Type 0} (items : V → List Step) (begun : List ℕ) (vs : List V) (i : ℕ) (d : V) → i < length vs
    → begun_in begun (map items (take (i + 1) vs)) ≡ begun_through (begun_in begun (map items (take i vs))) (items (get_or vs i d))
logs_begun_turn items begun vs i d lt =
    ap (begun_in begun) (map_turn items vs i d lt) ∙ begun_in-more begun (map items (take i vs)) (items (get_or vs i d))

pub replica_turn : {V : Type 0} (items : V → List JournalEntry) (replica : ℕ) (vs : List V) (i : ℕ) (d : V) → i < length vs
    → replica_lines replica 0 (map items (take (i + 1) vs)) ≡ replica_lines replica 0 (map items (take i vs)) ++ journal_lines replica i (items (get_or vs i d))
replica_turn items replica vs i d lt =
    let before = map items (take i vs) in
    ap (replica_lines replica 0) (map_turn items vs i d lt) ∙ replica_lines-more replica 0 before (items (get_or vs i d))
    ∙ ap (λ (k : ℕ). replica_lines replica 0 before ++ journal_lines replica k (items (get_or vs i d))) (zero_plus (length (map items (take i vs))) i (map_length items vs i lt))

pub journals_turn : {V : Type 0} (items : V → List (List JournalEntry)) (vs : List V) (i : ℕ) (d : V) → i < length vs
    → journals_lines 0 (map items (take (i + 1) vs)) ≡ journals_lines 0 (map items (take i vs)) ++ replica_lines i 0 (items (get_or vs i d))
journals_turn items vs i d lt =
    let before = map items (take i vs) in
    ap (journals_lines 0) (map_turn items vs i d lt) ∙ journals_lines-more 0 before (items (get_or vs i d))
    ∙ ap (λ (k : ℕ). journals_lines 0 before ++ replica_lines k 0 (items (get_or vs i d))) (zero_plus (length (map items (take i vs))) i (map_length items vs i lt))

pub rounds_turn : (begun : List ℕ) (xs : List RoundLog) (i : ℕ) (d : RoundLog) → i < length xs
    → rounds_lines begun 0 (take (i + 1) xs) ≡ rounds_lines begun 0 (take i xs) ++ round_lines (begun_by begun (take i xs)) i (get_or xs i d)
rounds_turn begun xs i d lt =
    ap (rounds_lines begun 0) (take_more xs i d lt) ∙ rounds_lines-more begun 0 (take i xs) (get_or xs i d)
    ∙ ap (λ (k : ℕ). rounds_lines begun 0 (take i xs) ++ round_lines (begun_by begun (take i xs)) k (get_or xs i d)) (zero_plus (length (take i xs)) i (length-take-le i xs (omega arith)))

pub rounds_begun_turn : (begun : List ℕ) (xs : List RoundLog) (i : ℕ) (d : RoundLog) → i < length xs
    → begun_by begun (take (i + 1) xs) ≡ begun_in (begun_by begun (take i xs)) (get_or xs i d).logs
rounds_begun_turn begun xs i d lt = ap (begun_by begun) (take_more xs i d lt) ∙ begun_by-more begun (take i xs) (get_or xs i d)

-- written so far, and one line
pub grown_line : (clients keys : List (List ℕ)) (out old new : List ℕ) (a c : List TraceLine) (line : TraceLine)
    → old ≡ out ++ text_of clients keys a → new ≡ old ++ line_text clients keys line → c ≡ a ++ line ∷ [] → new ≡ out ++ text_of clients keys c
grown_line clients keys out old new a c line eo en ec =
    grown clients keys out old new a (line ∷ []) c eo (en ∙ ap (λ (x : List ℕ). old ++ x) (sym (append-nil (line_text clients keys line)))) ec

key_name-get : (names : List (List ℕ)) (i : ℕ) → i < length names → key_name names i ≡ get_or names i []
key_name-get [] i lt = absurd (omega arith)
key_name-get (n ∷ ns) zero lt = refl
key_name-get (n ∷ ns) (suc i) lt = key_name-get ns i (omega arith)

pub keys_turn : (names : List (List ℕ)) (i : ℕ) → i < length names
    → map key_line (take (i + 1) names) ≡ map key_line (take i names) ++ Names (key_name names i) ∷ []
keys_turn names i lt =
    map_turn key_line names i [] lt ∙ ap (λ (n : List ℕ). map key_line (take i names) ++ Names n ∷ []) (sym (key_name-get names i lt))

-- ---- what is written in one turn

pub clients_goes : (clients keys : List (List ℕ)) (out old new : List ℕ) (xs : List ℕ) (i d x : ℕ) → i < length xs → x ≡ get_or xs i d
    → old ≡ out ++ text_of clients keys (client_lines clients 0 (take i xs)) → new ≡ old ++ line_text clients keys (Declares (key_name clients i) x)
    → new ≡ out ++ text_of clients keys (client_lines clients 0 (take (i + 1) xs))
clients_goes clients keys out old new xs i d x lt ex eo en =
    grown_line clients keys out old new (client_lines clients 0 (take i xs)) (client_lines clients 0 (take (i + 1) xs)) (Declares (key_name clients i) x) eo en
    (clients_turn clients xs i d lt ∙ ap (λ (y : ℕ). client_lines clients 0 (take i xs) ++ Declares (key_name clients i) y ∷ []) (sym ex))

pub steps_goes : (clients keys : List (List ℕ)) (out old new begun b c : List ℕ) (xs : List Step) (i : ℕ) (d x : Step) → i < length xs → x ≡ get_or xs i d
    → old ≡ out ++ text_of clients keys (step_lines begun (take i xs)) → b ≡ begun_through begun (take i xs)
    → new ≡ old ++ text_of clients keys (step_line b x ∷ []) → c ≡ begun_after b x
    → (new ≡ out ++ text_of clients keys (step_lines begun (take (i + 1) xs))) × (c ≡ begun_through begun (take (i + 1) xs))
steps_goes clients keys out old new begun b c xs i d x lt ex eo eb en ec =
    let before = begun_through begun (take i xs) in
    let lines = step_lines begun (take i xs) in (
      grown clients keys out old new lines (step_line b x ∷ []) (step_lines begun (take (i + 1) xs)) eo en
          (steps_turn begun xs i d lt ∙ ap (λ (y : Step). lines ++ step_line before y ∷ []) (sym ex) ∙ ap (λ (y : List ℕ). lines ++ step_line y x ∷ []) (sym eb)),
      ec ∙ ap (λ (y : List ℕ). begun_after y x) eb ∙ ap (begun_after before) ex ∙ sym (begun_turn begun xs i d lt),
    )

pub logs_goes : {V : Type 0} (items : V → List Step) (clients keys : List (List ℕ)) (out old new begun b c : List ℕ) (vs : List V) (i : ℕ) (d x : V) → i < length vs → x ≡ get_or vs i d
    → old ≡ out ++ text_of clients keys (logs_lines begun 0 (map items (take i vs))) → b ≡ begun_in begun (map items (take i vs))
    → new ≡ old ++ text_of clients keys (log_lines b i (items x)) → c ≡ begun_through b (items x)
    → (new ≡ out ++ text_of clients keys (logs_lines begun 0 (map items (take (i + 1) vs)))) × (c ≡ begun_in begun (map items (take (i + 1) vs)))
logs_goes items clients keys out old new begun b c vs i d x lt ex eo eb en ec =
    let before = begun_in begun (map items (take i vs)) in
    let lines = logs_lines begun 0 (map items (take i vs)) in (
      grown clients keys out old new lines (log_lines b i (items x)) (logs_lines begun 0 (map items (take (i + 1) vs))) eo en
          (logs_turn items begun vs i d lt ∙ ap (λ (y : List Step). lines ++ log_lines before i y) (ap items (sym ex)) ∙ ap (λ (y : List ℕ). lines ++ log_lines y i (items x)) (sym eb)),
      ec ∙ ap (λ (y : List ℕ). begun_through y (items x)) eb ∙ ap (begun_through before) (ap items ex) ∙ sym (logs_begun_turn items begun vs i d lt),
    )

pub replica_goes : {V : Type 0} (items : V → List JournalEntry) (clients keys : List (List ℕ)) (out old new : List ℕ) (replica : ℕ) (vs : List V) (i : ℕ) (d x : V) → i < length vs → x ≡ get_or vs i d
    → old ≡ out ++ text_of clients keys (replica_lines replica 0 (map items (take i vs))) → new ≡ old ++ text_of clients keys (journal_lines replica i (items x))
    → new ≡ out ++ text_of clients keys (replica_lines replica 0 (map items (take (i + 1) vs)))
replica_goes items clients keys out old new replica vs i d x lt ex eo en =
    let lines = replica_lines replica 0 (map items (take i vs)) in
    grown clients keys out old new lines (journal_lines replica i (items x)) (replica_lines replica 0 (map items (take (i + 1) vs))) eo en
    (replica_turn items replica vs i d lt ∙ ap (λ (y : List JournalEntry). lines ++ journal_lines replica i y) (ap items (sym ex)))

pub journals_goes : {V : Type 0} (items : V → List (List JournalEntry)) (clients keys : List (List ℕ)) (out old new : List ℕ) (vs : List V) (i : ℕ) (d x : V) → i < length vs → x ≡ get_or vs i d
    → old ≡ out ++ text_of clients keys (journals_lines 0 (map items (take i vs))) → new ≡ old ++ text_of clients keys (replica_lines i 0 (items x))
    → new ≡ out ++ text_of clients keys (journals_lines 0 (map items (take (i + 1) vs)))
journals_goes items clients keys out old new vs i d x lt ex eo en =
    let lines = journals_lines 0 (map items (take i vs)) in
    grown clients keys out old new lines (replica_lines i 0 (items x)) (journals_lines 0 (map items (take (i + 1) vs))) eo en
    (journals_turn items vs i d lt ∙ ap (λ (y : List (List JournalEntry)). lines ++ replica_lines i 0 y) (ap items (sym ex)))

pub rounds_goes : (clients keys : List (List ℕ)) (out old new begun b c : List ℕ) (xs : List RoundLog) (i : ℕ) (d x : RoundLog) → i < length xs → x ≡ get_or xs i d
    → old ≡ out ++ text_of clients keys (rounds_lines begun 0 (take i xs)) → b ≡ begun_by begun (take i xs)
    → new ≡ old ++ text_of clients keys (round_lines b i x) → c ≡ begun_in b x.logs
    → (new ≡ out ++ text_of clients keys (rounds_lines begun 0 (take (i + 1) xs))) × (c ≡ begun_by begun (take (i + 1) xs))
rounds_goes clients keys out old new begun b c xs i d x lt ex eo eb en ec =
    let before = begun_by begun (take i xs) in
    let lines = rounds_lines begun 0 (take i xs) in (
      grown clients keys out old new lines (round_lines b i x) (rounds_lines begun 0 (take (i + 1) xs)) eo en
          (rounds_turn begun xs i d lt ∙ ap (λ (y : RoundLog). lines ++ round_lines before i y) (sym ex) ∙ ap (λ (y : List ℕ). lines ++ round_lines y i x) (sym eb)),
      ec ∙ ap (λ (y : List ℕ). begun_in y x.logs) eb ∙ ap (λ (y : RoundLog). begun_in before y.logs) ex ∙ sym (rounds_begun_turn begun xs i d lt),
    )

pub zeros-more : (xs : List ℕ) (x : ℕ) → zeros (xs ++ x ∷ []) ≡ zeros xs ++ 0 ∷ []
zeros-more [] x = refl
zeros-more (y ∷ ys) x = ap (λ (l : List ℕ). 0 ∷ l) (zeros-more ys x)

pub zeros_turn : (xs : List ℕ) (i : ℕ) → i < length xs → zeros (take (i + 1) xs) ≡ zeros (take i xs) ++ 0 ∷ []
zeros_turn xs i lt = ap zeros (take_more xs i 0 lt) ∙ zeros-more (take i xs) (get_or xs i 0)
