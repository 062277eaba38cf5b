-- The lines that are printed of a script say that script.
use Rattle.std.proofs.Common.{◌≡◌, ℕ, zero, suc, ◌+◌, ◌-◌, ◌<◌, ◌≤◌, Bool, true, false, cond, eqb, List, [], ◌∷◌, ◌++◌, length, map, Option, Some, None, refl, sym, ap, subst, ◌∙◌, arith, append_assoc, inl, inr}
use Rattle.std.specs.Prelude.{sum_by, Result, Ok, Err, IfOk, OnOk, Vec}
use Rattle.std.specs.Global.{Global}
use Rattle.std.specs.List.{flat_map, AllByRecursion}
use Rattle.std.proofs.lemmas.Bool.{eqb-true}
use Rattle.std.proofs.lemmas.List.{append-nil, length-append}
use Rattle.std.proofs.lemmas.List.Concat.{flat_map-cons}
use Rattle.std.proofs.lemmas.List.Sums.{sum_by-append, sum_by-cons}
use Rattle.mk_spelling.specs.Fields.{place, one_on}
use Rattle.std.proofs.lemmas.Option.{same_Some}
use Rattle.mk_names.specs.NameLists.{with_name}
use Rattle.mk_txn.specs.declared.TxnId.{TxnId}
use Rattle.mk_script.specs.declared.words.Section.{Section}
use Rattle.mk_script.specs.declared.words.Section.TheVariants as sections
use Rattle.mk_script.specs.declared.lines.ClientLine.{ClientLine}
use Rattle.mk_script.specs.declared.lines.FaultLine.{FaultLine}
use Rattle.mk_script.specs.declared.lines.StopLine.{StopLine}
use Rattle.mk_script.specs.declared.lines.TxnLine.{TxnLine}
use Rattle.mk_script.specs.declared.lines.TakeoverLine.{TakeoverLine}
use Rattle.mk_words.specs.declared.GlobalLine.{GlobalLine}
use Rattle.mk_script.specs.declared.lines.Round.{Round}
use Rattle.mk_script.specs.Scripts.{ScriptParts, State, nothing, no_lines, or_zero, names_of, txn_count, takeover_count, global_count}
use Rattle.mk_script.specs.Grammar.{Mention, Line, spelling, key_of, IsInRounds, IsBehindPrelude, IsAttempt, Fits, GlobalFits, after, keys_after, number_of, item_of, Say}
use Rattle.mk_script.specs.Grammar.Mention.{Reads, Writes, Computes, Deletes}
use Rattle.mk_script.specs.Grammar.Line.{Opens, Sizes, Retries, Tries, NextRound}
use Rattle.mk_script.specs.Texts.{ended, IsScript}
use Rattle.mk_script.specs.Parsed.{script_text}
use Rattle.mk_script.specs.Printed.{client_name, key_name, mention_in, client_line, retry_lines, fault_line, stop_line, txn_line, takeover_line, global_line, round_lines, next_lines, rounds_lines, lines_of, line_text, text_of, print_text}
use Rattle.mk_script.specs.Whole.{Prefixed, IsClientBehind, IsOwned, IsAttemptOf, IsFaultBehind, IsStopBehind, IsTxnAt, TxnsAt, IsTakeoverOf, IsRoundAt, RoundsAt, AreRounds, IsWhole}
use Rattle.mk_script.specs.GrownKeys.{keys_grow, added_place}
use Rattle.mk_spelling.proofs.PlaceLaws.{place_stays, place-get}
use Rattle.mk_script.proofs.WholeLaws.{small_after, text_from_IsScript}

-- ---- lines that fit one behind the other

abbrev EachFits : State → List Line → Type 0
EachFits s [] = Unit {0}
EachFits s (line ∷ lines) = Fits s line × EachFits (after s line) lines

abbrev after_all : State → List Line → State
after_all s [] = s
after_all s (line ∷ lines) = after_all (after s line) lines

-- the lines fit behind s, and leave t
record Leads (s : State) (lines : List Line) (t : State) : Type 0 where
  fits : EachFits s lines
  leaves : after_all s lines ≡ t

fits-append : (a b : List Line) (s : State) → EachFits s a → EachFits (after_all s a) b → EachFits s (a ++ b)
fits-append [] b s h k = k
fits-append (line ∷ a) b s h k = (h.0, fits-append a b (after s line) h.1 k)

after_all-append : (a b : List Line) (s : State) → after_all s (a ++ b) ≡ after_all (after_all s a) b
after_all-append [] b s = refl
after_all-append (line ∷ a) b s = after_all-append a b (after s line)

then : (s m t : State) (a b : List Line) → Leads s a m → Leads m b t → Leads s (a ++ b) t
then s m t a b h k = record {
  fits = fits-append a b s h.fits (subst (λ (x : State). EachFits x b) (sym h.leaves) k.fits);
  leaves = after_all-append a b s ∙ ap (λ (x : State). after_all x b) h.leaves ∙ k.leaves;
}

first : (s t : State) (line : Line) (lines : List Line) → Fits s line → Leads (after s line) lines t → Leads s (line ∷ lines) t
first s t line lines h k = record { fits = (h, k.fits); leaves = k.leaves }

-- the lines of a list, where each member's line adds it to the state
each : {A : Type 0} (line : A → Line) (state : List A → State) (P : List A → A → Type 0) (n : ℕ)
    → ((before : List A) (x : A) → P before x → length before < n → Fits (state before) (line x) × (after (state before) (line x) ≡ state (before ++ x ∷ [])))
    → (before xs : List A) → Prefixed P before xs → length before + length xs ≤ n → Leads (state before) (map line xs) (state (before ++ xs))
each line state P n step before [] h few = record { fits = tt; leaves = ap state (sym (append-nil before)) }
each {A} line state P n step before (x ∷ xs) h few =
    let k = step before x h.0 (omega (arith, few)) in
    let rest = each line state P n step (before ++ x ∷ []) xs h.1 (omega (arith, few, length-append before (x ∷ []))) in
    record {
      fits = (k.0, subst (λ (s : State). EachFits s (map line xs)) (sym k.1) rest.fits);
      leaves = ap (λ (s : State). after_all s (map line xs)) k.1 ∙ rest.leaves ∙ ap state (append_assoc before (x ∷ []) xs);
    }

-- ---- names by number

-- a client's number gives its name
owner_name : (clients : List ClientLine) (n : ℕ) (h : IsOwned clients n) → client_name clients n ≡ h.name
owner_name clients n h = here (place h.name (names_of clients)) refl h.number
  where
    here : (o : Option ℕ) → place h.name (names_of clients) ≡ o → one_on o ≡ Some n → client_name clients n ≡ h.name
    here None p e = absurd cc
    here (Some k) p e =
        let same : suc k ≡ n = same_Some (suc k) n e in
        let less : n - 1 ≡ k = omega arith in
        rw (less, place-get h.name (names_of clients) k p) refl

-- an attempt of a declared client may be named
attempt_fits : (s : State) (id : TxnId) → IsAttemptOf s.clients id → IsAttempt s (client_name s.clients id.client) id
attempt_fits s id h =
    let name = owner_name s.clients id.client h.owner in
    subst (λ (x : List ℕ). IsAttempt s x id) (sym name) (record { low = h.low; high = h.high; well_named = h.owner.well_named; declared = h.owner.number })

-- ---- keys by number

-- a mentioned key has a place
mentioned_place : (keys : List (List ℕ)) (ms : List Mention) (m : Mention) → (n : ℕ) × (place (key_of m) (keys_after keys (m ∷ ms)) ≡ Some n)
mentioned_place keys ms m =
    let p = added_place (key_of m) keys in
    let g = keys_grow (with_name keys (key_of m)) ms in
    (p.0, rw g.1 (place_stays (key_of m) (with_name keys (key_of m)) g.0 p.0 p.1))

-- all keys are those known now and more
record IsMore (keys all : List (List ℕ)) : Type 0 where
  more : List (List ℕ)
  all_are : all ≡ keys ++ more

key_back : (w : List ℕ) (keys all : List (List ℕ)) (n : ℕ) → place w keys ≡ Some n → IsMore keys all → key_name all (number_of keys w) ≡ w
key_back w keys all n p h =
    let there : place w all ≡ Some n = ap (place w) h.all_are ∙ place_stays w keys h.more n p in
    rw (p, place-get w all n there) refl

mention_back : (m : Mention) (keys all : List (List ℕ)) (n : ℕ) → place (key_of m) keys ≡ Some n → IsMore keys all → mention_in all (item_of keys m) ≡ m
mention_back (Reads key) keys all n p h = ap (λ (x : List ℕ). Reads x) (key_back key keys all n p h)
mention_back (Writes key v) keys all n p h = ap (λ (x : List ℕ). Writes x v) (key_back key keys all n p h)
mention_back (Computes key proc v) keys all n p h = ap (λ (x : List ℕ). Computes x proc v) (key_back key keys all n p h)
mention_back (Deletes key) keys all n p h = ap (λ (x : List ℕ). Deletes x) (key_back key keys all n p h)

-- the items of a line, with the keys known behind it, are its mentions
mentions_back : (keys : List (List ℕ)) (ms : List Mention) (last all : List (List ℕ)) → last ≡ keys_after keys ms → IsMore last all
    → map (mention_in all) (map (item_of last) ms) ≡ ms
mentions_back keys [] last all e h = refl
mentions_back keys (m ∷ ms) last all e h =
    let p = mentioned_place keys ms m in
    let one = mention_back m last all p.0 (ap (place (key_of m)) e ∙ p.1) h in
    let rest = mentions_back (with_name keys (key_of m)) ms last all e h in
    ap (λ (x : Mention). x ∷ map (mention_in all) (map (item_of last) ms)) one ∙ ap (λ (x : List Mention). m ∷ x) rest

more_again : (a b c : List (List ℕ)) → IsMore a b → IsMore b c → IsMore a c
more_again a b c h k =
    record { more = h.more ++ k.more; all_are = k.all_are ∙ ap (λ (x : List (List ℕ)). x ++ k.more) h.all_are ∙ append_assoc a h.more k.more }

same_more : (a b : List (List ℕ)) → b ≡ a → IsMore a b
same_more a b e = record { more = []; all_are = e ∙ sym (append-nil a) }

txn_more : (version : ℕ) (clients : List ClientLine) (keys : List (List ℕ)) (txn : TxnLine) (last : List (List ℕ)) → IsTxnAt version clients keys txn last
    → IsMore keys last
txn_more version clients keys txn last h = let g = keys_grow keys h.mentions in record { more = g.0; all_are = h.grown ∙ g.1 }

txns_more : (version : ℕ) (clients : List ClientLine) (keys : List (List ℕ)) (txns : List TxnLine) (last : List (List ℕ))
    → TxnsAt version clients keys txns last → IsMore keys last
txns_more version clients keys [] last h = same_more keys last h
txns_more version clients keys (t ∷ ts) last h = more_again keys h.0 last (txn_more version clients keys t h.0 h.1) (txns_more version clients h.0 ts last h.2)

rounds_more : (version size : ℕ) (clients : List ClientLine) (keys : List (List ℕ)) (rounds : List Round) (last : List (List ℕ))
    → RoundsAt version size clients keys rounds last → IsMore keys last
rounds_more version size clients keys [] last h = same_more keys last h
rounds_more version size clients keys (r ∷ rs) last h =
    more_again keys h.0 last (txns_more version clients keys r.txns h.0 h.1.txns) (rounds_more version size clients h.0 rs last h.2)

-- ---- the prelude

-- what is read when the prelude is
abbrev prelude_state : ℕ → ℕ → List ClientLine → Option ℕ → List FaultLine → List StopLine → State
prelude_state version size clients retry faults stops =
    record { section = sections.Prelude; version = version; size = size; clients = clients; keys = []; retry = retry; faults = faults; stops = stops; rounds = []; round = no_lines }

clients_lead : (version size : ℕ) (clients : List ClientLine) → Prefixed (IsClientBehind size) [] clients → length clients ≤ 64
    → Leads (prelude_state version size [] None [] []) (map client_line clients) (prelude_state version size clients None [] [])
clients_lead version size clients h few =
    each client_line (λ (cs : List ClientLine). prelude_state version size cs None [] []) (IsClientBehind size) 64
    (λ (before : List ClientLine) (x : ClientLine) (p : IsClientBehind size before x) (b : length before < 64). (record { section = refl; well_named = p.well_named; column_fits = p.column_fits; home_fits = p.home_fits; few = b; fresh = p.fresh }, refl))
    [] clients h (omega (arith, few))

retry_leads : (version size : ℕ) (clients : List ClientLine) (retry : ℕ) → retry ≤ 3
    → (o : Option ℕ) × (or_zero o ≡ retry)
    × Leads (prelude_state version size clients None [] []) (retry_lines retry) (prelude_state version size clients o [] [])
retry_leads version size clients retry high = here (eqb retry 0) refl
  where
    here : (b : Bool) → eqb retry 0 ≡ b
        → (o : Option ℕ) × (or_zero o ≡ retry) × Leads (prelude_state version size clients None [] []) (cond b [] (Retries retry ∷ [])) (prelude_state version size clients o [] [])
    here true e = (None, sym (eqb-true retry 0 e), record { fits = tt; leaves = refl })
    here false e = (Some retry, refl, record { fits = ((refl, high, refl), tt); leaves = refl })

faults_lead : (version size : ℕ) (clients : List ClientLine) (retry : Option ℕ) (faults : List FaultLine) → Prefixed (IsFaultBehind size clients) [] faults
    → length faults ≤ 1024
    → Leads (prelude_state version size clients retry [] []) (map (fault_line clients) faults) (prelude_state version size clients retry faults [])
faults_lead version size clients retry faults h few =
    each (fault_line clients) (λ (fs : List FaultLine). prelude_state version size clients retry fs []) (IsFaultBehind size clients) 1024
    (λ (before : List FaultLine) (x : FaultLine) (p : IsFaultBehind size clients before x) (b : length before < 1024).
    (record { section = refl; attempt = attempt_fits (prelude_state version size clients retry before []) x.id p.attempt; replica_fits = p.replica_fits; nth_low = p.nth_low; nth_high = p.nth_high; injected = p.injected; few = omega (arith, b); fresh = p.fresh }, refl))
    [] faults h (omega (arith, few))

stops_lead : (version size : ℕ) (clients : List ClientLine) (retry : Option ℕ) (faults : List FaultLine) (stops : List StopLine)
    → Prefixed (IsStopBehind clients) [] stops → length faults + length stops ≤ 1024
    → Leads (prelude_state version size clients retry faults []) (map (stop_line clients) stops) (prelude_state version size clients retry faults stops)
stops_lead version size clients retry faults stops h few =
    each (stop_line clients) (λ (ss : List StopLine). prelude_state version size clients retry faults ss) (IsStopBehind clients) (length stops)
    (λ (before : List StopLine) (x : StopLine) (p : IsStopBehind clients before x) (b : length before < length stops).
    (record { section = refl; attempt = attempt_fits (prelude_state version size clients retry faults before) x.id p.attempt; few = omega (arith, b, few); fresh = p.fresh }, refl))
    [] stops h (omega arith)

-- ---- rounds

-- the rounds of a state, and the keys known in it
abbrev at : State → Section → List (List ℕ) → List Round → Round → State
at b x keys ended round = record b { section = x; keys = keys; rounds = ended; round = round }

-- the lines of a list, where a line may change the section
each_in : {A : Type 0} (line : A → Line) (state : Section → List A → State) (Here : Section → Type 0) (to : Section) → Here to → (P : A → Type 0) (n : ℕ)
    → ((x : Section) → Here x → (before : List A) (a : A) → P a → length before < n → Fits (state x before) (line a) × (after (state x before) (line a) ≡ state to (before ++ a ∷ [])))
    → (x : Section) → Here x → (before xs : List A) → AllByRecursion P xs → length before + length xs ≤ n → (y : Section) × Here y
    × Leads (state x before) (map line xs) (state y (before ++ xs))
each_in line state Here to ok P n step x p before [] h few = (x, p, record { fits = tt; leaves = ap (state x) (sym (append-nil before)) })
each_in {A} line state Here to ok P n step x p before (a ∷ xs) h few =
    let k = step x p before a h.0 (omega (arith, few)) in
    let rest = each_in line state Here to ok P n step to ok (before ++ a ∷ []) xs h.1 (omega (arith, few, length-append before (a ∷ []))) in (
      rest.0,
      rest.1,
      record {
        fits = (k.0, subst (λ (s : State). EachFits s (map line xs)) (sym k.1) rest.2.fits);
        leaves = ap (λ (s : State). after_all s (map line xs)) k.1 ∙ rest.2.leaves ∙ ap (state rest.0) (append_assoc before (a ∷ []) xs);
      },
    )

abbrev txn_round : List TxnLine → Round
txn_round txns = record { txns = txns; takeovers = []; globals = [] }

txns_lead : (b : State) (all : List (List ℕ)) (ended : List Round) → length all ≤ 256 → (txns before : List TxnLine) (x : Section) → IsInRounds x
    → (keys last : List (List ℕ))
    → TxnsAt b.version b.clients keys txns last → IsMore last all → sum_by txn_count ended + (length before + length txns) ≤ 4096
    → (y : Section) × IsInRounds y
    × Leads (at b x keys ended (txn_round before)) (map (txn_line b.clients all) txns) (at b y last ended (txn_round (before ++ txns)))
txns_lead b all ended keys_few [] before x p keys last h more few =
    (x, p, record { fits = tt; leaves = λ i. at b x (sym h i) ended (txn_round (sym (append-nil before) i)) })
txns_lead b all ended keys_few (t ∷ ts) before x p keys last h more few =
    let s = at b x keys ended (txn_round before) in
    let one = h.1 in
    let ms = one.mentions in
    let name = owner_name b.clients t.client one.owner in
    let mid_more = more_again h.0 last all (txns_more b.version b.clients h.0 ts last h.2) more in
    let now_more : IsMore (keys_after keys ms) all = subst (λ (k : List (List ℕ)). IsMore k all) one.grown mid_more in
    let items_are : map (mention_in all) t.items ≡ ms = ap (map (mention_in all)) one.items ∙ mentions_back keys ms (keys_after keys ms) all refl now_more in
    let keys_fit : length (keys_after keys ms) ≤ 256 = omega (arith, keys_few, ap length now_more.all_are, length-append (keys_after keys ms) now_more.more) in
    let named : Fits s (Tries one.owner.name t.client t.clock ms) =
    record { section = p; well_named = one.owner.well_named; declared = one.owner.number; clock_fits = one.clock_fits; mentions_fit = one.fit; some = one.some; few = one.few; keys = keys_fit; txns = omega (arith, few) } in
    let fits : Fits s (txn_line b.clients all t) =
    subst (λ (m : List Mention). Fits s (Tries (client_name b.clients t.client) t.client t.clock m)) (sym items_are) (subst (λ (n : List ℕ). Fits s (Tries n t.client t.clock ms)) (sym name) named) in
    let made : after s (Tries (client_name b.clients t.client) t.client t.clock ms) ≡ at b sections.Round h.0 ended (txn_round (before ++ t ∷ [])) =
    λ i. at b sections.Round (sym one.grown i) ended (txn_round (before ++ record { client = t.client; clock = t.clock; items = sym one.items i } ∷ [])) in
    let leaves : after s (txn_line b.clients all t) ≡ at b sections.Round h.0 ended (txn_round (before ++ t ∷ [])) =
    ap (λ (m : List Mention). after s (Tries (client_name b.clients t.client) t.client t.clock m)) items_are ∙ made in
    let rest = txns_lead b all ended keys_few ts (before ++ t ∷ []) sections.Round (inr refl) h.0 last h.2 more (omega (arith, few, length-append before (t ∷ []))) in (
      rest.0,
      rest.1,
      record {
        fits = (fits, subst (λ (x : State). EachFits x (map (txn_line b.clients all) ts)) (sym leaves) rest.2.fits);
        leaves =
            ap (λ (x : State). after_all x (map (txn_line b.clients all) ts)) leaves ∙ rest.2.leaves
            ∙ ap (λ (l : List TxnLine). at b rest.0 last ended (txn_round l)) (append_assoc before (t ∷ []) ts);
      },
    )

-- how many lines of each kind there may be in a round behind these
record AreFew (ended : List Round) (round : Round) : Type 0 where
  txns : sum_by txn_count ended + txn_count round ≤ 4096
  takeovers : sum_by takeover_count ended + takeover_count round ≤ 1024
  globals : sum_by global_count ended + global_count round ≤ 256

round_leads : (b : State) (all : List (List ℕ)) (ended : List Round) → length all ≤ 256 → (x : Section) → IsInRounds x
    → (keys : List (List ℕ)) (round : Round) (last : List (List ℕ))
    → IsRoundAt b.version b.size b.clients keys round last → IsMore last all → AreFew ended round
    → (y : Section) × IsBehindPrelude y × Leads (at b x keys ended no_lines) (round_lines b.clients all round) (at b y last ended round)
round_leads b all ended keys_few x p keys round last h more few =
    let ts = txns_lead b all ended keys_few round.txns [] x p keys last h.txns more (omega (arith, few.txns)) in
    let taken = λ (z : Section) (ks : List TakeoverLine). at b z last ended (record { txns = round.txns; takeovers = ks; globals = [] }) in
    let ks = each_in (takeover_line b.clients) taken IsInRounds sections.Round (inr refl) (IsTakeoverOf b.clients) (length round.takeovers)
    (λ (z : Section) (q : IsInRounds z) (before : List TakeoverLine) (a : TakeoverLine) (o : IsTakeoverOf b.clients a) (l : length before < length round.takeovers).
    (record { section = q; attempt = attempt_fits (taken z before) a.id o.attempt; view_low = o.view_low; view_high = o.view_high; few = omega (arith, l, few.takeovers) }, refl))
    ts.0 ts.1 [] round.takeovers h.takeovers (omega arith) in
    let changed = λ (z : Section) (gs : List GlobalLine). at b z last ended (record { txns = round.txns; takeovers = round.takeovers; globals = gs }) in
    let gs = each_in global_line changed IsBehindPrelude sections.Globals (inr refl) (GlobalFits b.size) (length round.globals)
    (λ (z : Section) (q : IsBehindPrelude z) (before : List GlobalLine) (a : GlobalLine) (o : GlobalFits b.size a) (l : length before < length round.globals).
    (record { section = q; fits = o; few = omega (arith, l, few.globals) }, refl))
    ks.0 (inl ks.1) [] round.globals h.globals (omega arith) in (
      gs.0,
      gs.1,
      then (at b x keys ended no_lines) (taken ts.0 []) (changed gs.0 round.globals) (map (txn_line b.clients all) round.txns) (map (takeover_line b.clients) round.takeovers ++ map global_line round.globals) ts.2
          (then (taken ts.0 []) (changed ks.0 []) (changed gs.0 round.globals) (map (takeover_line b.clients) round.takeovers) (map global_line round.globals) ks.2 gs.2),
    )

part_sum : (f : Round → ℕ) (before : List Round) (cur next : Round) (more rounds : List Round) → before ++ cur ∷ next ∷ more ≡ rounds
    → sum_by f (before ++ cur ∷ []) + f next ≤ sum_by f rounds
part_sum f before cur next more rounds e =
    omega (arith, ap (sum_by f) e, sum_by-append f before (cur ∷ next ∷ more), sum_by-append f before (cur ∷ []), sum_by-cons f cur (next ∷ more), sum_by-cons f next more, sum_by-cons f cur [])

head_sum : (f : Round → ℕ) (r : Round) (rs : List Round) (n : ℕ) → sum_by f (r ∷ rs) ≤ n → sum_by f [] + f r ≤ n
head_sum f r rs n h = omega (arith, h, sum_by-cons f r rs)

-- what the rounds leave
record AreLed (b : State) (s : State) (lines : List Line) (last : List (List ℕ)) (rounds : List Round) : Type 0 where
  section : Section
  behind : IsBehindPrelude section
  ended : List Round
  cur : Round
  are : ended ++ cur ∷ [] ≡ rounds
  leads : Leads s lines (at b section last ended cur)

next_rounds_lead : (b : State) (all : List (List ℕ)) (rounds : List Round) → AreRounds b.version b.size b.clients all rounds
    → (rs ended : List Round) (cur : Round) → ended ++ cur ∷ rs ≡ rounds
    → (x : Section) → IsBehindPrelude x → (keys last : List (List ℕ)) → RoundsAt b.version b.size b.clients keys rs last → IsMore last all
    → AreLed b (at b x keys ended cur) (flat_map (next_lines b.clients all) rs) last rounds
next_rounds_lead b all rounds w [] ended cur e x p keys last h more =
    record { section = x; behind = p; ended = ended; cur = cur; are = e; leads = record { fits = tt; leaves = λ i. at b x (sym h i) ended cur } }
next_rounds_lead b all rounds w (r ∷ rs) ended cur e x p keys last h more =
    let before = ended ++ cur ∷ [] in
    let few : AreFew before r = record {
      txns = omega (arith, part_sum txn_count ended cur r rs rounds e, w.txns_few);
      takeovers = omega (arith, part_sum takeover_count ended cur r rs rounds e, w.takeovers_few);
      globals = omega (arith, part_sum global_count ended cur r rs rounds e, w.globals_few);
    } in
    let short : length ended < 15 = omega (arith, w.few, ap length e, length-append ended (cur ∷ r ∷ rs)) in
    let mid_more = more_again h.0 last all (rounds_more b.version b.size b.clients h.0 rs last h.2) more in
    let one = round_leads b all before w.keys_few sections.Round (inr refl) keys r h.0 h.1 mid_more few in
    let rest = next_rounds_lead b all rounds w rs before r (append_assoc ended (cur ∷ []) (r ∷ rs) ∙ e) one.0 one.1 h.0 last h.2 more in
    let s = at b x keys ended cur in
    let both = then (after s NextRound) (at b one.0 h.0 before r) (at b rest.section last rest.ended rest.cur) (round_lines b.clients all r) (flat_map (next_lines b.clients all) rs) one.2 rest.leads in
    let whole = first s (at b rest.section last rest.ended rest.cur) NextRound (round_lines b.clients all r ++ flat_map (next_lines b.clients all) rs) (p, short) both in
    record {
      section = rest.section;
      behind = rest.behind;
      ended = rest.ended;
      cur = rest.cur;
      are = rest.are;
      leads = subst (λ (l : List Line). Leads s l (at b rest.section last rest.ended rest.cur)) (sym (flat_map-cons (next_lines b.clients all) r rs)) whole;
    }

rounds_lead : (b : State) (all : List (List ℕ)) (rounds : List Round) → AreRounds b.version b.size b.clients all rounds
    → AreLed b (at b sections.Prelude [] [] no_lines) (rounds_lines b.clients all rounds) all rounds
rounds_lead b all [] w = absurd (omega (arith, w.some))
rounds_lead b all (r ∷ rs) w =
    let h = w.numbered in
    let few : AreFew [] r =
    record { txns = head_sum txn_count r rs 4096 w.txns_few; takeovers = head_sum takeover_count r rs 1024 w.takeovers_few; globals = head_sum global_count r rs 256 w.globals_few } in
    let one = round_leads b all [] w.keys_few sections.Prelude (inl refl) [] r h.0 h.1 (rounds_more b.version b.size b.clients h.0 rs all h.2) few in
    let rest = next_rounds_lead b all (r ∷ rs) w rs [] r refl one.0 one.1 h.0 all h.2 (same_more all all refl) in
    record {
      section = rest.section;
      behind = rest.behind;
      ended = rest.ended;
      cur = rest.cur;
      are = rest.are;
      leads =
          then (at b sections.Prelude [] [] no_lines) (at b one.0 h.0 [] r) (at b rest.section all rest.ended rest.cur) (round_lines b.clients all r) (flat_map (next_lines b.clients all) rs) one.2 rest.leads;
    }

-- ---- the whole script

-- lines that fit, one behind the other, say what they leave
said : (lines : List Line) (s : State) → s.size ≤ 3 → EachFits s lines → Say s (map spelling lines) (after_all s lines)
said [] s sized h = refl
said (line ∷ lines) s sized h =
    let small = small_after s line sized h.0 in
    (after s line, inr (record { line = line; text = refl; fits = h.0; leaves = refl }), said lines (after s line) small h.1)

text_is : (lines : List Line) → text_of lines ≡ flat_map ended (map spelling lines)
text_is [] = refl
text_is (line ∷ lines) =
    flat_map-cons line_text line lines ∙ ap (λ (x : List ℕ). line_text line ++ x) (text_is lines)
    ∙ sym (flat_map-cons ended (spelling line) (map spelling lines))

-- the text that is printed of a script stands for it
pub IsScript-print_text : (s : ScriptParts) → IsWhole s → IsScript (print_text s) s
IsScript-print_text s w =
    let opened = after nothing (Opens s.version) in
    let sized = prelude_state s.version s.size [] None [] [] in
    let r = retry_leads s.version s.size s.clients s.retry w.head.retry_high in
    let b = prelude_state s.version s.size s.clients r.0 s.faults s.stops in
    let led = rounds_lead b s.keys s.rounds w.rounds in
    let last = at b led.section s.keys led.ended led.cur in
    let round_text = rounds_lines s.clients s.keys s.rounds in
    let stop_text = map (stop_line s.clients) s.stops in
    let fault_text = map (fault_line s.clients) s.faults in
    let retry_text = retry_lines s.retry in
    let faults_in = prelude_state s.version s.size s.clients r.0 s.faults [] in
    let retry_in = prelude_state s.version s.size s.clients r.0 [] [] in
    let clients_in = prelude_state s.version s.size s.clients None [] [] in
    let from_stops = then faults_in b last stop_text round_text (stops_lead s.version s.size s.clients r.0 s.faults s.stops w.prelude.stops_fit w.prelude.few) led.leads in
    let from_faults = then retry_in faults_in last fault_text (stop_text ++ round_text) (faults_lead s.version s.size s.clients r.0 s.faults w.prelude.faults_fit (omega (arith, w.prelude.few))) from_stops in
    let from_retry = then clients_in retry_in last retry_text (fault_text ++ (stop_text ++ round_text)) r.2 from_faults in
    let from_clients = then sized clients_in last (map client_line s.clients) (retry_text ++ (fault_text ++ (stop_text ++ round_text))) (clients_lead s.version s.size s.clients w.prelude.clients_fit w.prelude.clients_few) from_retry in
    let from_size = first opened last (Sizes s.size) (map client_line s.clients ++ (retry_text ++ (fault_text ++ (stop_text ++ round_text)))) (refl, w.head.size_low, w.head.size_high) from_clients in
    let all = first nothing last (Opens s.version) (Sizes s.size ∷ (map client_line s.clients ++ (retry_text ++ (fault_text ++ (stop_text ++ round_text))))) (refl, w.head.version_low, w.head.version_high) from_size in
    let says = said (lines_of s) nothing (omega arith) all.fits in
    record {
      lines = map spelling (lines_of s);
      text = text_is (lines_of s);
      last = last;
      says = subst (λ (t : State). Say nothing (map spelling (lines_of s)) t) all.leaves says;
      sized = led.behind;
      whole =
          λ i. record { version = s.version; size = s.size; clients = s.clients; keys = s.keys; retry = sym r.1 i; faults = s.faults; stops = s.stops; rounds = sym led.are i };
    }

pub stands : {E : Type 0} (r : Result (Vec ℕ Global) E) (s : ScriptParts) → IfOk r (λ bytes. bytes.items ≡ print_text s) → OnOk r (IsWhole s)
    → IfOk r (λ bytes. IsScript bytes.items s)
stands (Ok bytes) s text whole = subst (λ (b : List ℕ). IsScript b s) (sym text) (IsScript-print_text s whole)
stands (Err e) s text whole = tt

-- and it is parsed to it
pub parsed : {E : Type 0} (r : Result (Vec ℕ Global) E) (s : ScriptParts) → IfOk r (λ bytes. IsScript bytes.items s)
    → IfOk r (λ bytes. script_text bytes.items ≡ Ok s)
parsed (Ok bytes) s h = text_from_IsScript bytes.items s h
parsed (Err e) s h = tt
