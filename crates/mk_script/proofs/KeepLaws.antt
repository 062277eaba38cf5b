-- Each line keeps what holds of every script.
use Rattle.std.proofs.Common.{◌≡◌, ℕ, ◌+◌, ◌≤◌, List, [], ◌∷◌, ◌++◌, length, map, Option, Some, None, Result, Ok, Err, refl, sym, ap, subst, ◌∙◌, arith, append_assoc, inl, inr}
use Rattle.std.specs.Prelude.{sum_by, IfOk}
use Rattle.std.specs.List.{AllByRecursion}
use Rattle.std.proofs.lemmas.List.{append-nil, length-append, map_push}
use Rattle.std.proofs.lemmas.List.Sums.{sum_by-append}
use Rattle.mk_spelling.specs.Fields.{place, one_on}
use Rattle.mk_script.specs.declared.words.Section.{Section}
use Rattle.mk_script.specs.declared.words.Section.TheVariants as sections
use Rattle.mk_script.specs.declared.lines.ClientLine.{ClientLine}
use Rattle.mk_script.specs.declared.lines.FaultLine.{FaultLine}
use Rattle.mk_script.specs.declared.lines.StopLine.{StopLine}
use Rattle.mk_script.specs.declared.lines.TxnLine.{TxnLine}
use Rattle.mk_script.specs.declared.lines.TakeoverLine.{TakeoverLine}
use Rattle.mk_txn.specs.declared.TxnId.{TxnId}
use Rattle.mk_script.specs.declared.lines.Round.{Round}
use Rattle.mk_script.specs.Scripts.{ScriptParts, State, nothing, no_lines, script_of, name_of, names_of, txn_count, takeover_count, global_count}
use Rattle.mk_script.specs.Grammar.{Line, IsBehindPrelude, IsAttempt, Fits, after, keys_after, item_of, GlobalFits, Says, Say}
use Rattle.mk_script.specs.Texts.{IsScript}
use Rattle.mk_script.specs.Grammar.Line.{Opens, Sizes, Declares, Retries, Injects, Halts, Tries, TakesOver, Changes, NextRound}
use Rattle.mk_script.specs.Whole.{Prefixed, IsClientBehind, IsOwned, IsAttemptOf, IsFaultBehind, IsStopBehind, IsTxnAt, TxnsAt, IsTakeoverOf, IsRoundAt, RoundsAt, AreRounds, IsWhole}
use Rattle.mk_script.specs.declared.parsing.ScriptError.{ScriptError}
use Rattle.mk_script.specs.Parsed.{Answers, script_text}
use Rattle.mk_spelling.proofs.PlaceLaws.{place_stays}
use Rattle.mk_script.proofs.WholeLaws.{found_law}

-- ---- lists

Prefixed-snoc : {A : Type 0} (P : List A → A → Type 0) (before xs : List A) (x : A) → Prefixed P before xs → P (before ++ xs) x
    → Prefixed P before (xs ++ x ∷ [])
Prefixed-snoc {A} P before [] x h k = (subst (λ (l : List A). P l x) (append-nil before) k, tt)
Prefixed-snoc {A} P before (y ∷ ys) x h k =
    (h.0, Prefixed-snoc P (before ++ y ∷ []) ys x h.1 (subst (λ (l : List A). P l x) (sym (append_assoc before (y ∷ []) ys)) k))

Prefixed-weaker : {A : Type 0} (P Q : List A → A → Type 0) → ((before : List A) (x : A) → P before x → Q before x) → (before xs : List A)
    → Prefixed P before xs → Prefixed Q before xs
Prefixed-weaker P Q f before [] h = tt
Prefixed-weaker P Q f before (x ∷ xs) h = (f before x h.0, Prefixed-weaker P Q f (before ++ x ∷ []) xs h.1)

all-snoc : {A : Type 0} (P : A → Type 0) (xs : List A) (x : A) → AllByRecursion P xs → P x → AllByRecursion P (xs ++ x ∷ [])
all-snoc P [] x h k = (k, tt)
all-snoc P (y ∷ ys) x h k = (h.0, all-snoc P ys x h.1 k)

-- ---- clients that are declared later change no number

number_stays : (name : List ℕ) (names more : List (List ℕ)) (n : ℕ) → one_on (place name names) ≡ Some n → one_on (place name (names ++ more)) ≡ Some n
number_stays name names more n e = here (place name names) refl e
  where
    here : (o : Option ℕ) → place name names ≡ o → one_on o ≡ Some n → one_on (place name (names ++ more)) ≡ Some n
    here None p h = absurd cc
    here (Some k) p h = rw (place_stays name names more k p) h

owned_stays : (clients : List ClientLine) (client : ClientLine) (n : ℕ) → IsOwned clients n → IsOwned (clients ++ client ∷ []) n
owned_stays clients client n h = record {
  name = h.name;
  well_named = h.well_named;
  number =
      ap (λ (names : List (List ℕ)). one_on (place h.name names)) (map_push name_of clients client)
      ∙ number_stays h.name (names_of clients) (client.name ∷ []) n h.number;
}

fault_stays : (size : ℕ) (clients : List ClientLine) (client : ClientLine) (before : List FaultLine) (fault : FaultLine)
    → IsFaultBehind size clients before fault → IsFaultBehind size (clients ++ client ∷ []) before fault
fault_stays size clients client before fault h = record {
  attempt = record { low = h.attempt.low; high = h.attempt.high; owner = owned_stays clients client fault.id.client h.attempt.owner };
  replica_fits = h.replica_fits;
  nth_low = h.nth_low;
  nth_high = h.nth_high;
  injected = h.injected;
  fresh = h.fresh;
}

stop_stays : (clients : List ClientLine) (client : ClientLine) (before : List StopLine) (stop : StopLine) → IsStopBehind clients before stop
    → IsStopBehind (clients ++ client ∷ []) before stop
stop_stays clients client before stop h = record {
  attempt = record { low = h.attempt.low; high = h.attempt.high; owner = owned_stays clients client stop.id.client h.attempt.owner };
  fresh = h.fresh;
}

-- ---- rounds

txns-snoc : (version : ℕ) (clients : List ClientLine) (keys : List (List ℕ)) (txns : List TxnLine) (mid : List (List ℕ)) (txn : TxnLine) (last : List (List ℕ))
    → TxnsAt version clients keys txns mid → IsTxnAt version clients mid txn last → TxnsAt version clients keys (txns ++ txn ∷ []) last
txns-snoc version clients keys [] mid txn last h k = (last, subst (λ (x : List (List ℕ)). IsTxnAt version clients x txn last) h k, refl)
txns-snoc version clients keys (t ∷ ts) mid txn last h k = (h.0, h.1, txns-snoc version clients h.0 ts mid txn last h.2 k)

-- the rounds before the last one, and the last one
record IsSplit (version size : ℕ) (clients : List ClientLine) (keys : List (List ℕ)) (rounds : List Round) (round : Round) (last : List (List ℕ)) : Type 0 where
  mid : List (List ℕ)
  ended : RoundsAt version size clients keys rounds mid
  here : IsRoundAt version size clients mid round last

split : (version size : ℕ) (clients : List ClientLine) (keys : List (List ℕ)) (rounds : List Round) (round : Round) (last : List (List ℕ))
    → RoundsAt version size clients keys (rounds ++ round ∷ []) last → IsSplit version size clients keys rounds round last
split version size clients keys [] round last h =
    record { mid = keys; ended = refl; here = subst (λ (x : List (List ℕ)). IsRoundAt version size clients keys round x) (sym h.2) h.1 }
split version size clients keys (r ∷ rs) round last h =
    let k = split version size clients h.0 rs round last h.2 in
    record { mid = k.mid; ended = (h.0, h.1, k.ended); here = k.here }

join : (version size : ℕ) (clients : List ClientLine) (keys : List (List ℕ)) (rounds : List Round) (mid : List (List ℕ)) (round : Round) (last : List (List ℕ))
    → RoundsAt version size clients keys rounds mid → IsRoundAt version size clients mid round last → RoundsAt version size clients keys (rounds ++ round ∷ []) last
join version size clients keys [] mid round last h k = (last, subst (λ (x : List (List ℕ)). IsRoundAt version size clients x round last) h k, refl)
join version size clients keys (r ∷ rs) mid round last h k = (h.0, h.1, join version size clients h.0 rs mid round last h.2 k)

sum-snoc : (f : Round → ℕ) (rounds : List Round) (round : Round) → sum_by f (rounds ++ round ∷ []) ≡ sum_by f rounds + f round
sum-snoc f rounds round = sum_by-append f rounds (round ∷ []) ∙ ap (λ (n : ℕ). sum_by f rounds + n) (omega arith)

-- one round without lines
empty_rounds : (version size : ℕ) (clients : List ClientLine) → AreRounds version size clients [] (no_lines ∷ [])
empty_rounds version size clients = record {
  numbered = ([], record { txns = refl; takeovers = tt; globals = tt }, refl);
  some = omega arith;
  few = omega arith;
  keys_few = omega arith;
  txns_few = omega arith;
  takeovers_few = omega arith;
  globals_few = omega arith;
}

-- the last round is changed
changed : (version size : ℕ) (clients : List ClientLine) (keys new : List (List ℕ)) (rounds : List Round) (round next : Round)
    → AreRounds version size clients keys (rounds ++ round ∷ [])
    → ((mid : List (List ℕ)) → IsRoundAt version size clients mid round keys → IsRoundAt version size clients mid next new) → length new ≤ 256
    → sum_by txn_count rounds + txn_count next ≤ 4096 → sum_by takeover_count rounds + takeover_count next ≤ 1024 → sum_by global_count rounds + global_count next ≤ 256
    → AreRounds version size clients new (rounds ++ next ∷ [])
changed version size clients keys new rounds round next h step few txns takeovers globals =
    let k = split version size clients [] rounds round keys h.numbered in
    let same : length (rounds ++ round ∷ []) ≡ length (rounds ++ next ∷ []) = length-append rounds (round ∷ []) ∙ sym (length-append rounds (next ∷ [])) in
    record {
      numbered = join version size clients [] rounds k.mid next new k.ended (step k.mid k.here);
      some = omega (arith, h.some, same);
      few = omega (arith, h.few, same);
      keys_few = few;
      txns_few = rw (sum-snoc txn_count rounds next) txns;
      takeovers_few = rw (sum-snoc takeover_count rounds next) takeovers;
      globals_few = rw (sum-snoc global_count rounds next) globals;
    }

-- ---- what holds by section

abbrev KeptIn : Section → State → Type 0
KeptIn sections.Start s = s ≡ nothing
KeptIn sections.Opened s = (version : ℕ) × (1 ≤ version) × (version ≤ 2) × (s ≡ record nothing { section = sections.Opened; version = version })
KeptIn sections.Prelude s = IsWhole (script_of s) × (s.rounds ≡ []) × (s.round ≡ no_lines) × (s.keys ≡ [])
KeptIn sections.Round s = IsWhole (script_of s)
KeptIn sections.Globals s = IsWhole (script_of s)

abbrev pub IsKept : State → Type 0
IsKept s = KeptIn s.section s

in_section : (s : State) (x : Section) → s.section ≡ x → IsKept s → KeptIn x s
in_section s x e h = subst (λ (y : Section). KeptIn y s) e h

pub whole_from : (s : State) → IsBehindPrelude s.section → IsKept s → IsWhole (script_of s)
whole_from s (inl (inl e)) h = (in_section s sections.Prelude e h).0
whole_from s (inl (inr e)) h = in_section s sections.Round e h
whole_from s (inr e) h = in_section s sections.Globals e h

-- an attempt that was read is one of a declared client
attempt_kept : (s : State) (name : List ℕ) (id : TxnId) → IsAttempt s name id → IsAttemptOf s.clients id
attempt_kept s name id h = record { low = h.low; high = h.high; owner = record { name = name; well_named = h.well_named; number = h.declared } }

-- the prelude goes on
in_prelude : (s t : State) → s.section ≡ sections.Prelude → t.section ≡ s.section → t.rounds ≡ s.rounds → t.round ≡ s.round → t.keys ≡ s.keys → IsKept s
    → (IsWhole (script_of s) → IsWhole (script_of t)) → IsKept t
in_prelude s t e section rounds round keys h f =
    let k = in_section s sections.Prelude e h in
    subst (λ (y : Section). KeptIn y t) (sym (section ∙ e)) (f k.0, rounds ∙ k.1, round ∙ k.2, keys ∙ k.3)

-- ---- each kind of line

kept_after : (s : State) (line : Line) → IsKept s → Fits s line → IsKept (after s line)
kept_after s (Opens v) h k = (v, k.1, k.2, ap (λ (x : State). after x (Opens v)) (in_section s sections.Start k.0 h))
kept_after s (Sizes f) h k =
    let o = in_section s sections.Opened k.0 h in
    subst (λ (x : State). KeptIn sections.Prelude (after x (Sizes f))) (sym o.3) (
      record {
        head = record { version_low = o.1; version_high = o.2; size_low = k.1; size_high = k.2; retry_high = omega arith };
        prelude = record { clients_fit = tt; clients_few = omega arith; faults_fit = tt; stops_fit = tt; few = omega arith };
        rounds = empty_rounds o.0 f [];
      },
      refl,
      refl,
      refl,
    )
kept_after s (Declares name column home) h k =
    let p = in_section s sections.Prelude k.section h in
    let w = p.0 in
    let client : ClientLine = record { name = name; column = column; home = home } in
    let clients = s.clients ++ client ∷ [] in
    let rounds_are : s.rounds ++ s.round ∷ [] ≡ no_lines ∷ [] =
    ap (λ (r : Round). s.rounds ++ r ∷ []) p.2 ∙ ap (λ (rs : List Round). rs ++ no_lines ∷ []) p.1 in
    let rounds = subst (λ (rs : List Round). AreRounds s.version s.size clients [] rs) (sym rounds_are) (empty_rounds s.version s.size clients) in
    let whole : IsWhole (script_of (after s (Declares name column home))) = record {
      head = w.head;
      prelude = record {
        clients_fit =
            Prefixed-snoc (IsClientBehind s.size) [] s.clients client w.prelude.clients_fit (record { well_named = k.well_named; column_fits = k.column_fits; home_fits = k.home_fits; fresh = k.fresh });
        clients_few = omega (arith, k.few, length-append s.clients (client ∷ []));
        faults_fit =
            Prefixed-weaker (IsFaultBehind s.size s.clients) (IsFaultBehind s.size clients) (fault_stays s.size s.clients client) [] s.faults w.prelude.faults_fit;
        stops_fit = Prefixed-weaker (IsStopBehind s.clients) (IsStopBehind clients) (stop_stays s.clients client) [] s.stops w.prelude.stops_fit;
        few = w.prelude.few;
      };
      rounds = subst (λ (ks : List (List ℕ)). AreRounds s.version s.size clients ks (s.rounds ++ s.round ∷ [])) (sym p.3) rounds;
    } in
    subst (λ (y : Section). KeptIn y (after s (Declares name column home))) (sym k.section) (whole, p.1, p.2, p.3)
kept_after s (Retries n) h k =
    in_prelude s (after s (Retries n)) k.0 refl refl refl refl h (λ w. record {
      head =
          record { version_low = w.head.version_low; version_high = w.head.version_high; size_low = w.head.size_low; size_high = w.head.size_high; retry_high = k.1 };
      prelude = w.prelude;
      rounds = w.rounds;
    })
kept_after s (Injects name fault) h k =
    in_prelude s (after s (Injects name fault)) k.section refl refl refl refl h (λ w. record {
      head = w.head;
      prelude = record {
        clients_fit = w.prelude.clients_fit;
        clients_few = w.prelude.clients_few;
        faults_fit =
            Prefixed-snoc (IsFaultBehind s.size s.clients) [] s.faults fault w.prelude.faults_fit (record { attempt = attempt_kept s name fault.id k.attempt; replica_fits = k.replica_fits; nth_low = k.nth_low; nth_high = k.nth_high; injected = k.injected; fresh = k.fresh });
        stops_fit = w.prelude.stops_fit;
        few = omega (arith, k.few, length-append s.faults (fault ∷ []));
      };
      rounds = w.rounds;
    })
kept_after s (Halts name stop) h k =
    in_prelude s (after s (Halts name stop)) k.section refl refl refl refl h (λ w. record {
      head = w.head;
      prelude = record {
        clients_fit = w.prelude.clients_fit;
        clients_few = w.prelude.clients_few;
        faults_fit = w.prelude.faults_fit;
        stops_fit =
            Prefixed-snoc (IsStopBehind s.clients) [] s.stops stop w.prelude.stops_fit (record { attempt = attempt_kept s name stop.id k.attempt; fresh = k.fresh });
        few = omega (arith, k.few, length-append s.stops (stop ∷ []));
      };
      rounds = w.rounds;
    })
kept_after s (Tries name client clock ms) h k =
    let w = whole_from s (inl k.section) h in
    let keys = keys_after s.keys ms in
    let txn : TxnLine = record { client = client; clock = clock; items = map (item_of keys) ms } in
    let next : Round = record s.round { txns = s.round.txns ++ txn ∷ [] } in
    let at : IsTxnAt s.version s.clients s.keys txn keys =
    record { owner = record { name = name; well_named = k.well_named; number = k.declared }; clock_fits = k.clock_fits; mentions = ms; fit = k.mentions_fit; some = k.some; few = k.few; items = refl; grown = refl } in
    record {
      head = w.head;
      prelude = w.prelude;
      rounds = changed s.version s.size s.clients s.keys keys s.rounds s.round next w.rounds
          (λ (mid : List (List ℕ)) (r : IsRoundAt s.version s.size s.clients mid s.round s.keys). record { txns = txns-snoc s.version s.clients mid s.round.txns s.keys txn keys r.txns at; takeovers = r.takeovers; globals = r.globals })
          k.keys
          (omega (arith, k.txns, length-append s.round.txns (txn ∷ [])))
          (omega (arith, w.rounds.takeovers_few, sum-snoc takeover_count s.rounds s.round))
          (omega (arith, w.rounds.globals_few, sum-snoc global_count s.rounds s.round));
    }
kept_after s (TakesOver name id view) h k =
    let w = whole_from s (inl k.section) h in
    let takeover : TakeoverLine = record { id = id; view = view } in
    let next : Round = record s.round { takeovers = s.round.takeovers ++ takeover ∷ [] } in
    record {
      head = w.head;
      prelude = w.prelude;
      rounds = changed s.version s.size s.clients s.keys s.keys s.rounds s.round next w.rounds
          (λ (mid : List (List ℕ)) (r : IsRoundAt s.version s.size s.clients mid s.round s.keys). record { txns = r.txns; takeovers = all-snoc (IsTakeoverOf s.clients) s.round.takeovers takeover r.takeovers (record { attempt = attempt_kept s name id k.attempt; view_low = k.view_low; view_high = k.view_high }); globals = r.globals })
          w.rounds.keys_few
          (omega (arith, w.rounds.txns_few, sum-snoc txn_count s.rounds s.round))
          (omega (arith, k.few, length-append s.round.takeovers (takeover ∷ [])))
          (omega (arith, w.rounds.globals_few, sum-snoc global_count s.rounds s.round));
    }
kept_after s (Changes line) h k =
    let w = whole_from s k.section h in
    let next : Round = record s.round { globals = s.round.globals ++ line ∷ [] } in
    record {
      head = w.head;
      prelude = w.prelude;
      rounds = changed s.version s.size s.clients s.keys s.keys s.rounds s.round next w.rounds
          (λ (mid : List (List ℕ)) (r : IsRoundAt s.version s.size s.clients mid s.round s.keys). record { txns = r.txns; takeovers = r.takeovers; globals = all-snoc (GlobalFits s.size) s.round.globals line r.globals k.fits })
          w.rounds.keys_few
          (omega (arith, w.rounds.txns_few, sum-snoc txn_count s.rounds s.round))
          (omega (arith, w.rounds.takeovers_few, sum-snoc takeover_count s.rounds s.round))
          (omega (arith, k.few, length-append s.round.globals (line ∷ [])));
    }
kept_after s NextRound h k =
    let w = whole_from s k.0 h in
    let ended = s.rounds ++ s.round ∷ [] in
    let one_more : length (ended ++ no_lines ∷ []) ≡ length s.rounds + 2 =
    omega (arith, length-append ended (no_lines ∷ []), length-append s.rounds (s.round ∷ [])) in
    record {
      head = w.head;
      prelude = w.prelude;
      rounds = record {
        numbered = join s.version s.size s.clients [] ended s.keys no_lines s.keys w.rounds.numbered (record { txns = refl; takeovers = tt; globals = tt });
        some = omega (arith, one_more);
        few = omega (arith, one_more, k.1);
        keys_few = w.rounds.keys_few;
        txns_few = omega (arith, w.rounds.txns_few, sum-snoc txn_count ended no_lines);
        takeovers_few = omega (arith, w.rounds.takeovers_few, sum-snoc takeover_count ended no_lines);
        globals_few = omega (arith, w.rounds.globals_few, sum-snoc global_count ended no_lines);
      };
    }

kept_says : (s : State) (bytes : List ℕ) (t : State) → IsKept s → Says s bytes t → IsKept t
kept_says s bytes t h (inl k) = subst (λ (x : State). IsKept x) (sym k.2) h
kept_says s bytes t h (inr k) = subst (λ (x : State). IsKept x) (sym k.leaves) (kept_after s k.line h k.fits)

pub kept_say : (lines : List (List ℕ)) (s t : State) → IsKept s → Say s lines t → IsKept t
kept_say [] s t h k = subst (λ (x : State). IsKept x) (sym k) h
kept_say (line ∷ lines) s t h k = kept_say lines k.0 t (kept_says s line k.0 h k.1) k.2

-- what has a text keeps what holds of every script
pub IsWhole-from_text : (bytes : List ℕ) (s : ScriptParts) → IsScript bytes s → IsWhole s
IsWhole-from_text bytes s h =
    let kept = kept_say h.lines nothing h.last refl h.says in
    subst (λ (x : ScriptParts). IsWhole x) (sym h.whole) (whole_from h.last h.sized kept)

pub whole_law : (r : Result ScriptParts ScriptError) (bytes : List ℕ) → Answers r (script_text bytes) → IfOk r (λ s. IsWhole s)
whole_law (Ok s) bytes h = IsWhole-from_text bytes s (found_law (Ok s) bytes h)
whole_law (Err e) bytes h = tt
