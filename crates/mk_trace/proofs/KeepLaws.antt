-- What was read so far has the shape of a run.
use Rattle.std.proofs.Common.{◌≡◌, ◌⊎◌, ℕ, zero, suc, ◌+◌, ◌-◌, ◌≤◌, ◌<◌, max, Bool, true, false, cond, eqb, leb, ltb, not, List, [], ◌∷◌, ◌++◌, length, map, get_or, replicate, Option, Some, None, Result, Ok, Err, refl, sym, ap, subst, ◌∙◌, arith, inl, inr}
use Rattle.std.specs.Prelude.{is_some, sum}
use Rattle.std.specs.List.{list_all}
use Rattle.std.proofs.lemmas.Bool.{and_parts, eqb-true}
use Rattle.std.proofs.lemmas.Bool.Decides.{nat_tests}
use Rattle.std.proofs.lemmas.List.{length-append, length-replicate}
use Rattle.mk_lists.specs.Among.{Each, Each-append, AllDistinct}
use Rattle.mk_lists.proofs.EachMember.{Each-append_left}
use Rattle.mk_lists.proofs.Distinct.{AllDistinct-push}
use Rattle.mk_spelling.specs.Words.{is_name}
use Rattle.mk_spelling.specs.Fields.{◌>>◌, need, place}
use Rattle.std.proofs.lemmas.Option.{same_Some}
use Rattle.mk_words.specs.declared.Step.{Step}
use Rattle.mk_words.specs.declared.Step.TheVariants as steps
use Rattle.mk_words.specs.declared.JournalEntry.{JournalEntry}
use Rattle.mk_words.specs.declared.GlobalEntry.{GlobalEntry}
use Rattle.mk_history.specs.declared.RoundLog.{RoundLog}
use Rattle.mk_history.specs.Histories.{History}
use Rattle.mk_history.specs.Shape.{columns_of, client_fits, replica_fits, step_fits, entry_fits, global_fits, IsRoundShape, begins_of, begins_in, HasShape}
use Rattle.mk_quorum.specs.Sizes.{members}
use Rattle.mk_kept.specs.declared.head.Head.{Head}
use Rattle.mk_kept.specs.Heads.{history}
use Rattle.mk_trace_text.specs.declared.section.Section.{Section}
use Rattle.mk_trace_text.specs.declared.section.Section.TheVariants as sections
use Rattle.mk_trace_text.specs.Begun.{raised, begun_of, beginner, begun_after}
use Rattle.mk_trace_text.specs.States.{State, nothing, no_head, fresh, extended, journaled, closed, with_client, with_key, after}
use Rattle.mk_trace_lines.specs.TraceLines.{TraceLine}
use Rattle.mk_trace_lines.specs.TraceLines.TraceLine.{Opens, Sizes, Declares, Names, Begins, Heads, Logged, Marks, Kept, Changes, Changed, Ends}
use Rattle.mk_trace_text.specs.Grammar.{at_start, at_size, in_clients, in_keys, before_column, before_cell, at_end, before_round, in_log, in_journal, in_changes, line_of, taken, line_result, ended}
use Rattle.mk_trace.specs.Pieces.{Reading, started, ended_line, byte_behind, fed_byte, fed, finished}
use Rattle.mk_spelling.specs.declared.fault.TextFault.{TextFault}
use Rattle.mk_spelling.specs.declared.fault.TextFault.TheVariants as faults
use Rattle.mk_spelling.specs.Lines.{Refusal, go_on}
use Rattle.mk_spelling.proofs.FieldLaws.{ok_is}
use Rattle.mk_trace.proofs.FitLaws.{Between, Gives}
use Rattle.mk_trace.proofs.LineFits.{Fits, line_law}
use Rattle.mk_trace.proofs.GrownTables.{columns-push, not_among, each_replicate, all_replicate, extended-length, all-push, extended-all, journaled-length, journaled-keys, journaled-all, sum-push, one_if, logs-push, fresh_none}

-- ---- the head

abbrev pub IsVersion : ℕ → Type 0
IsVersion v = (v ≡ 1) ⊎ (v ≡ 2)

pub record IsHead (head : Head) : Type 0 where
  pub size : Between 1 3 head.size
  pub columns : head.columns ≡ columns_of head.client_columns
  pub few_columns : head.columns ≤ 8
  pub clients : length head.client_names.names ≡ length head.client_columns
  pub few_clients : length head.client_names.names ≤ 64
  pub few_keys : length head.key_names.names ≤ 256
  pub named_clients : Each (λ name. is_name name ≡ true) head.client_names.names
  pub named_keys : Each (λ name. is_name name ≡ true) head.key_names.names
  pub distinct_clients : AllDistinct head.client_names.names
  pub distinct_keys : AllDistinct head.key_names.names

no_head_law : IsHead no_head
no_head_law = record {
  size = (omega arith, omega arith);
  columns = refl;
  few_columns = omega arith;
  clients = refl;
  few_clients = omega arith;
  few_keys = omega arith;
  named_clients = tt;
  named_keys = tt;
  distinct_clients = tt;
  distinct_keys = tt;
}

small : (m n : ℕ) → ltb m n ≡ true → m < n
small m n e = grind (arith, nat_tests)

max_few : (a b n : ℕ) → a ≤ n → b ≤ n → max a b ≤ n
max_few a b n h k = omega (arith, h, k)

client_head : (head : Head) (name : List ℕ) (c : ℕ) → IsHead head → is_name name ≡ true → c ≤ 7 → ltb (length head.client_names.names) 64 ≡ true
    → not (is_some (place name head.client_names.names)) ≡ true → IsHead (with_client head name c)
client_head head name c h well low few new = record {
  size = h.size;
  columns = ap (max (c + 1)) h.columns ∙ sym (columns-push head.client_columns c);
  few_columns = max_few (c + 1) head.columns 8 (omega (arith, low)) h.few_columns;
  clients =
      length-append head.client_names.names (name ∷ []) ∙ ap (λ (n : ℕ). n + 1) h.clients ∙ sym (length-append head.client_columns (c ∷ []));
  few_clients = let k = small (length head.client_names.names) 64 few in omega (arith, k, length-append head.client_names.names (name ∷ []));
  few_keys = h.few_keys;
  named_clients = Each-append (λ (w : List ℕ). is_name w ≡ true) head.client_names.names (name ∷ []) h.named_clients (well, tt);
  named_keys = h.named_keys;
  distinct_clients = AllDistinct-push head.client_names.names name h.distinct_clients (not_among head.client_names.names name new);
  distinct_keys = h.distinct_keys;
}

key_head : (head : Head) (name : List ℕ) → IsHead head → is_name name ≡ true → ltb (length head.key_names.names) 256 ≡ true
    → not (is_some (place name head.key_names.names)) ≡ true → IsHead (with_key head name)
key_head head name h well few new = record {
  size = h.size;
  columns = h.columns;
  few_columns = h.few_columns;
  clients = h.clients;
  few_clients = h.few_clients;
  few_keys = let k = small (length head.key_names.names) 256 few in omega (arith, k, length-append head.key_names.names (name ∷ []));
  named_clients = h.named_clients;
  named_keys = Each-append (λ (w : List ℕ). is_name w ≡ true) head.key_names.names (name ∷ []) h.named_keys (well, tt);
  distinct_clients = h.distinct_clients;
  distinct_keys = AllDistinct-push head.key_names.names name h.distinct_keys (not_among head.key_names.names name new);
}

-- ---- rounds

abbrev pub ShapesAt : Head → List RoundLog → Type 0
ShapesAt head rounds = (all : List RoundLog) → Each (IsRoundShape (history head all)) rounds

-- a round in which nothing was done
fresh_shape : (head : Head) (all : List RoundLog) → IsRoundShape (history head all) (fresh head)
fresh_shape head all =
    let run = history head all in
    let keys : List (List JournalEntry) = replicate (length head.key_names.names) [] in
    record {
      logs = length-replicate head.columns [];
      journals = length-replicate (members head.size) keys;
      keys = each_replicate (λ (r : List (List JournalEntry)). length r ≡ length head.key_names.names) (members head.size) keys
          (length-replicate (length head.key_names.names) []);
      steps = all_replicate (list_all (step_fits run)) head.columns [] refl;
      entries = all_replicate (list_all (list_all (entry_fits run))) (members head.size) keys
          (all_replicate (list_all (entry_fits run)) (length head.key_names.names) [] refl);
      globals = refl;
    }

logged_shape : (run : History) (round : RoundLog) (i : ℕ) (step : Step) → IsRoundShape run round → step_fits run step ≡ true
    → IsRoundShape run (record round { logs = extended round.logs i step })
logged_shape run round i step h fits = record {
  logs = extended-length round.logs i step ∙ h.logs;
  journals = h.journals;
  keys = h.keys;
  steps = extended-all (step_fits run) round.logs i step h.steps fits;
  entries = h.entries;
  globals = h.globals;
}

kept_shape : (run : History) (round : RoundLog) (i key : ℕ) (entry : JournalEntry) → IsRoundShape run round → entry_fits run entry ≡ true
    → IsRoundShape run (record round { journals = journaled round.journals i key entry })
kept_shape run round i key entry h fits = record {
  logs = h.logs;
  journals = journaled-length round.journals i key entry ∙ h.journals;
  keys = journaled-keys (length run.key_names) round.journals i key entry h.keys;
  steps = h.steps;
  entries = journaled-all (entry_fits run) round.journals i key entry h.entries fits;
  globals = h.globals;
}

changed_shape : (run : History) (round : RoundLog) (entry : GlobalEntry) → IsRoundShape run round → global_fits run entry ≡ true
    → IsRoundShape run (record round { globals = round.globals ++ entry ∷ [] })
changed_shape run round entry h fits = record {
  logs = h.logs;
  journals = h.journals;
  keys = h.keys;
  steps = h.steps;
  entries = h.entries;
  globals = all-push (global_fits run) round.globals entry h.globals fits;
}

-- ---- how many attempts were begun

raised-length : (ns : List ℕ) (i : ℕ) → length (raised ns i) ≡ length ns
raised-length [] i = refl
raised-length (n ∷ ns) zero = refl
raised-length (n ∷ ns) (suc i) = ap suc (raised-length ns i)

raised_low : (ns : List ℕ) (i j : ℕ) → get_or ns j 0 ≤ 16384 → get_or ns j 0 ≤ get_or (raised ns i) j 0
raised_low [] i j h = omega arith
raised_low (n ∷ ns) zero zero h = omega (arith, h)
raised_low (n ∷ ns) zero (suc j) h = omega arith
raised_low (n ∷ ns) (suc i) zero h = omega arith
raised_low (n ∷ ns) (suc i) (suc j) h = raised_low ns i j h

raised_at : (ns : List ℕ) (i : ℕ) → i < length ns → get_or ns i 0 + 1 ≤ 16384 → get_or (raised ns i) i 0 ≡ get_or ns i 0 + 1
raised_at [] i lt h = absurd (omega (arith, lt))
raised_at (n ∷ ns) zero lt h = omega (arith, h)
raised_at (n ∷ ns) (suc i) lt h = raised_at ns i (omega (arith, lt)) h

raised_high : (ns : List ℕ) (i j : ℕ) → get_or ns i 0 + 1 ≤ 16384 → get_or ns j 0 ≤ 16384 → get_or (raised ns i) j 0 ≤ 16384
raised_high [] i j k h = h
raised_high (n ∷ ns) zero zero k h = omega (arith, k)
raised_high (n ∷ ns) zero (suc j) k h = h
raised_high (n ∷ ns) (suc i) zero k h = h
raised_high (n ∷ ns) (suc i) (suc j) k h = raised_high ns i j k h

-- the client that begins an attempt is one of those that are counted, and may begin one more
abbrev MayBegin : List ℕ → Step → Type 0
MayBegin begun step = (client : ℕ) → beginner step ≡ Some client → (1 ≤ client) × (client ≤ length begun) × (begun_of begun client + 1 ≤ 16384)

one_more : (begun : List ℕ) (c k : ℕ) → (1 ≤ c) × (c ≤ length begun) × (begun_of begun c + 1 ≤ 16384) → begun_of begun k ≤ 16384
    → begun_of begun k + one_if (eqb c k) ≤ begun_of (raised begun (c - 1)) k
one_more begun c k h few = here (eqb c k) refl
  where
    at : (d : ℕ) → c ≡ d → begun_of begun d + 1 ≤ begun_of (raised begun (c - 1)) d
    at d e = subst (λ (n : ℕ). begun_of begun n + 1 ≤ begun_of (raised begun (c - 1)) n) e
        (let same = raised_at begun (c - 1) (omega (arith, h.0, h.1)) h.2 in omega (arith, same))

    low : begun_of begun k ≤ begun_of (raised begun (c - 1)) k
    low = raised_low begun (c - 1) (k - 1) few

    here : (b : Bool) → eqb c k ≡ b → begun_of begun k + cond b 1 0 ≤ begun_of (raised begun (c - 1)) k
    here true e = at k (eqb-true c k e)
    here false e = omega (arith, low)

begun-more : (begun : List ℕ) (step : Step) (k : ℕ) → MayBegin begun step → begun_of begun k ≤ 16384
    → begun_of begun k + one_if (begins_of k step) ≤ begun_of (begun_after begun step) k
begun-more begun (steps.Begin c replica) k may few = one_more begun c k (may c refl) few
begun-more begun (steps.Unread c) k may few = one_more begun c k (may c refl) few
begun-more begun (steps.Read id key) k may few = omega arith
begun-more begun (steps.Stamp id clock writes) k may few = omega arith
begun-more begun (steps.Validate id) k may few = omega arith
begun-more begun (steps.Take number) k may few = omega arith
begun-more begun (steps.Key call answer) k may few = omega arith
begun-more begun (steps.Rule id) k may few = omega arith
begun-more begun (steps.Again id) k may few = omega arith
begun-more begun (steps.Takeover id view) k may few = omega arith
begun-more begun (steps.Pick id view) k may few = omega arith
begun-more begun (steps.Stop id) k may few = omega arith

begun-few : (begun : List ℕ) (step : Step) (k : ℕ) → MayBegin begun step → begun_of begun k ≤ 16384 → begun_of (begun_after begun step) k ≤ 16384
begun-few begun (steps.Begin c replica) k may few = raised_high begun (c - 1) (k - 1) (may c refl).2 few
begun-few begun (steps.Unread c) k may few = raised_high begun (c - 1) (k - 1) (may c refl).2 few
begun-few begun (steps.Read id key) k may few = few
begun-few begun (steps.Stamp id clock writes) k may few = few
begun-few begun (steps.Validate id) k may few = few
begun-few begun (steps.Take number) k may few = few
begun-few begun (steps.Key call answer) k may few = few
begun-few begun (steps.Rule id) k may few = few
begun-few begun (steps.Again id) k may few = few
begun-few begun (steps.Takeover id view) k may few = few
begun-few begun (steps.Pick id view) k may few = few
begun-few begun (steps.Stop id) k may few = few

begun-length : (begun : List ℕ) (step : Step) → length (begun_after begun step) ≡ length begun
begun-length begun (steps.Begin c replica) = raised-length begun (c - 1)
begun-length begun (steps.Unread c) = raised-length begun (c - 1)
begun-length begun (steps.Read id key) = refl
begun-length begun (steps.Stamp id clock writes) = refl
begun-length begun (steps.Validate id) = refl
begun-length begun (steps.Take number) = refl
begun-length begun (steps.Key call answer) = refl
begun-length begun (steps.Rule id) = refl
begun-length begun (steps.Again id) = refl
begun-length begun (steps.Takeover id view) = refl
begun-length begun (steps.Pick id view) = refl
begun-length begun (steps.Stop id) = refl

client_range : (run : History) (c : ℕ) → client_fits run c ≡ true → (1 ≤ c) × (c ≤ length run.client_names)
client_range run c e =
    let q = and_parts (leb 1 c) (leb c (length run.client_names)) e in
    (low 1 c q.0, low c (length run.client_names) q.1)
  where
    low : (m n : ℕ) → leb m n ≡ true → m ≤ n
    low m n t = grind (arith, nat_tests)

may_begin : (run : History) (begun : List ℕ) (step : Step) → length begun ≡ length run.client_names → step_fits run step ≡ true
    → ((client : ℕ) → beginner step ≡ Some client → begun_of begun client + 1 ≤ 16384) → MayBegin begun step
may_begin run begun (steps.Begin c replica) e fits h client is =
    let q = client_range run c (and_parts (client_fits run c) (replica_fits run replica) fits).0 in
    subst (λ (d : ℕ). (1 ≤ d) × (d ≤ length begun) × (begun_of begun d + 1 ≤ 16384)) (same_Some c client is) (q.0, omega (arith, q.1, e), h c refl)
may_begin run begun (steps.Unread c) e fits h client is =
    let q = client_range run c fits in
    subst (λ (d : ℕ). (1 ≤ d) × (d ≤ length begun) × (begun_of begun d + 1 ≤ 16384)) (same_Some c client is) (q.0, omega (arith, q.1, e), h c refl)
may_begin run begun (steps.Read id key) e fits h client is = absurd cc
may_begin run begun (steps.Stamp id clock writes) e fits h client is = absurd cc
may_begin run begun (steps.Validate id) e fits h client is = absurd cc
may_begin run begun (steps.Take number) e fits h client is = absurd cc
may_begin run begun (steps.Key call answer) e fits h client is = absurd cc
may_begin run begun (steps.Rule id) e fits h client is = absurd cc
may_begin run begun (steps.Again id) e fits h client is = absurd cc
may_begin run begun (steps.Takeover id view) e fits h client is = absurd cc
may_begin run begun (steps.Pick id view) e fits h client is = absurd cc
may_begin run begun (steps.Stop id) e fits h client is = absurd cc

-- ---- what holds by section

abbrev pub globals_in : RoundLog → ℕ
globals_in round = length round.globals

pub record InHead (s : State) : Type 0 where
  pub head : IsHead s.head
  pub counts : length s.begun ≡ length s.head.client_names.names
  pub zeros : (client : ℕ) → begun_of s.begun client ≡ 0
  pub count : s.count ≡ 0
  pub rounds : s.rounds ≡ []
  pub changes : s.changes ≡ 0

-- the rounds, with the one that goes on
abbrev pub every : State → List RoundLog
every s = s.rounds ++ s.round ∷ []

pub record InRound (s : State) : Type 0 where
  pub head : IsHead s.head
  pub version : IsVersion s.head.version
  pub counts : length s.begun ≡ length s.head.client_names.names
  pub begun : (client : ℕ) → begun_of s.begun client ≤ 16384
  pub attempts : (client : ℕ) → sum (map (begins_in client) (every s)) ≤ begun_of s.begun client
  pub count : length (every s) ≡ s.count
  pub few : s.count ≤ 16
  pub changed : sum (map globals_in (every s)) ≡ s.changes
  pub few_changes : s.changes ≤ 256
  pub shapes : ShapesAt s.head (every s)

abbrev pub KeptIn : Section → State → Type 0
KeptIn sections.Start s = InHead s
KeptIn sections.Opened s = InHead s × IsVersion s.head.version
KeptIn sections.Clients s = InHead s × IsVersion s.head.version
KeptIn sections.Keys s = InHead s × IsVersion s.head.version
KeptIn sections.Round s = InRound s
KeptIn sections.Column s = InRound s
KeptIn sections.Log s = InRound s
KeptIn sections.Cell s = InRound s
KeptIn sections.Journal s = InRound s
KeptIn sections.Globals s = InRound s
KeptIn sections.Changes s = InRound s
KeptIn sections.Ended s = HasShape (history s.head s.rounds) × (1 ≤ s.count)

abbrev pub IsKept : State → Type 0
IsKept s = KeptIn s.section s

pub nothing_kept : IsKept nothing
nothing_kept = record { head = no_head_law; counts = refl; zeros = none; count = refl; rounds = refl; changes = refl }
  where
    none : (client : ℕ) → begun_of [] client ≡ 0
    none client = refl

-- where a test is passed in rounds alone
in_round : (test : Section → Bool) → test sections.Start ≡ false → test sections.Opened ≡ false → test sections.Clients ≡ false
    → test sections.Keys ≡ false → test sections.Ended ≡ false → (s : State) (x : Section) → test x ≡ true → KeptIn x s → InRound s
in_round test a b c d e s sections.Start t h = absurd (cc (a, t))
in_round test a b c d e s sections.Opened t h = absurd (cc (b, t))
in_round test a b c d e s sections.Clients t h = absurd (cc (c, t))
in_round test a b c d e s sections.Keys t h = absurd (cc (d, t))
in_round test a b c d e s sections.Round t h = h
in_round test a b c d e s sections.Column t h = h
in_round test a b c d e s sections.Log t h = h
in_round test a b c d e s sections.Cell t h = h
in_round test a b c d e s sections.Journal t h = h
in_round test a b c d e s sections.Globals t h = h
in_round test a b c d e s sections.Changes t h = h
in_round test a b c d e s sections.Ended t h = absurd (cc (e, t))

pub from_start : (s : State) (x : Section) → at_start x ≡ true → KeptIn x s → InHead s
from_start s sections.Start t h = h
from_start s sections.Opened t h = absurd cc
from_start s sections.Clients t h = absurd cc
from_start s sections.Keys t h = absurd cc
from_start s sections.Round t h = absurd cc
from_start s sections.Column t h = absurd cc
from_start s sections.Log t h = absurd cc
from_start s sections.Cell t h = absurd cc
from_start s sections.Journal t h = absurd cc
from_start s sections.Globals t h = absurd cc
from_start s sections.Changes t h = absurd cc
from_start s sections.Ended t h = absurd cc

pub from_size : (s : State) (x : Section) → at_size x ≡ true → KeptIn x s → InHead s × IsVersion s.head.version
from_size s sections.Start t h = absurd cc
from_size s sections.Opened t h = h
from_size s sections.Clients t h = absurd cc
from_size s sections.Keys t h = absurd cc
from_size s sections.Round t h = absurd cc
from_size s sections.Column t h = absurd cc
from_size s sections.Log t h = absurd cc
from_size s sections.Cell t h = absurd cc
from_size s sections.Journal t h = absurd cc
from_size s sections.Globals t h = absurd cc
from_size s sections.Changes t h = absurd cc
from_size s sections.Ended t h = absurd cc

pub from_clients : (s : State) (x : Section) → in_clients x ≡ true → KeptIn x s → (x ≡ sections.Clients) × InHead s × IsVersion s.head.version
from_clients s sections.Start t h = absurd cc
from_clients s sections.Opened t h = absurd cc
from_clients s sections.Clients t h = (refl, h.0, h.1)
from_clients s sections.Keys t h = absurd cc
from_clients s sections.Round t h = absurd cc
from_clients s sections.Column t h = absurd cc
from_clients s sections.Log t h = absurd cc
from_clients s sections.Cell t h = absurd cc
from_clients s sections.Journal t h = absurd cc
from_clients s sections.Globals t h = absurd cc
from_clients s sections.Changes t h = absurd cc
from_clients s sections.Ended t h = absurd cc

pub from_keys : (s : State) (x : Section) → in_keys x ≡ true → KeptIn x s → InHead s × IsVersion s.head.version
from_keys s sections.Start t h = absurd cc
from_keys s sections.Opened t h = absurd cc
from_keys s sections.Clients t h = h
from_keys s sections.Keys t h = h
from_keys s sections.Round t h = absurd cc
from_keys s sections.Column t h = absurd cc
from_keys s sections.Log t h = absurd cc
from_keys s sections.Cell t h = absurd cc
from_keys s sections.Journal t h = absurd cc
from_keys s sections.Globals t h = absurd cc
from_keys s sections.Changes t h = absurd cc
from_keys s sections.Ended t h = absurd cc

from_rounds : (s : State) (x : Section) → before_round x ≡ true → KeptIn x s → (InHead s × IsVersion s.head.version) ⊎ InRound s
from_rounds s sections.Start t h = absurd cc
from_rounds s sections.Opened t h = absurd cc
from_rounds s sections.Clients t h = inl h
from_rounds s sections.Keys t h = inl h
from_rounds s sections.Round t h = inr h
from_rounds s sections.Column t h = absurd cc
from_rounds s sections.Log t h = inr h
from_rounds s sections.Cell t h = absurd cc
from_rounds s sections.Journal t h = inr h
from_rounds s sections.Globals t h = absurd cc
from_rounds s sections.Changes t h = inr h
from_rounds s sections.Ended t h = absurd cc

-- the rounds before the one that begins
record HasRounds (s : State) (rounds : List RoundLog) : Type 0 where
  head : IsHead s.head
  version : IsVersion s.head.version
  counts : length s.begun ≡ length s.head.client_names.names
  begun : (client : ℕ) → begun_of s.begun client ≤ 16384
  attempts : (client : ℕ) → sum (map (begins_in client) rounds) ≤ begun_of s.begun client
  count : length rounds ≡ s.count
  changed : sum (map globals_in rounds) ≡ s.changes
  few_changes : s.changes ≤ 256
  shapes : ShapesAt s.head rounds

pub closed_head : (s : State) → InHead s → closed s ≡ []
closed_head s h = at s.count h.count
  where
    at : (n : ℕ) → n ≡ 0 → cond (eqb n 0) s.rounds (s.rounds ++ s.round ∷ []) ≡ []
    at zero e = h.rounds
    at (suc n) e = absurd (omega (arith, e))

pub some_count : (s : State) → InRound s → 1 ≤ s.count
some_count s h = omega (arith, h.count, length-append s.rounds (s.round ∷ []))

pub closed_round : (s : State) → InRound s → closed s ≡ every s
closed_round s h = here (eqb s.count 0) refl
  where
    here : (b : Bool) → eqb s.count 0 ≡ b → cond b s.rounds (s.rounds ++ s.round ∷ []) ≡ every s
    here true e = let z = eqb-true s.count 0 e in absurd (omega (arith, z, some_count s h))
    here false e = refl

rounds_head : (s : State) → InHead s → IsVersion s.head.version → HasRounds s []
rounds_head s h v = record {
  head = h.head;
  version = v;
  counts = h.counts;
  begun = λ client. (let z = h.zeros client in omega (arith, z));
  attempts = λ client. omega arith;
  count = sym h.count;
  changed = sym h.changes;
  few_changes = (let z = h.changes in omega (arith, z));
  shapes = λ all. tt;
}

rounds_round : (s : State) → InRound s → HasRounds s (every s)
rounds_round s h = record {
  head = h.head;
  version = h.version;
  counts = h.counts;
  begun = h.begun;
  attempts = h.attempts;
  count = h.count;
  changed = h.changed;
  few_changes = h.few_changes;
  shapes = h.shapes;
}

begins_kept : (s : State) (n : ℕ) → HasRounds s (closed s) → ltb s.count 16 ≡ true → InRound (after s (Begins n))
begins_kept s n h few = record {
  head = h.head;
  version = h.version;
  counts = h.counts;
  begun = h.begun;
  attempts = λ client.
      (let a = h.attempts client in
      let b = sum-push (begins_in client) (closed s) (fresh s.head) in
      let c = fresh_none client s.head.columns in
      less (sum (map (begins_in client) (closed s ++ fresh s.head ∷ []))) (sum (map (begins_in client) (closed s))) (begins_in client (fresh s.head)) (begun_of s.begun client) b c a);
  count = length-append (closed s) (fresh s.head ∷ []) ∙ ap (λ (m : ℕ). m + 1) h.count;
  few = (let k = small s.count 16 few in omega (arith, k));
  changed = sum-push globals_in (closed s) (fresh s.head) ∙ plus_none (sum (map globals_in (closed s))) ∙ h.changed;
  few_changes = h.few_changes;
  shapes = λ all. Each-append (IsRoundShape (history s.head all)) (closed s) (fresh s.head ∷ []) (h.shapes all) (fresh_shape s.head all, tt);
}
  where
    less : (x y z n : ℕ) → x ≡ y + z → z ≡ 0 → y ≤ n → x ≤ n
    less x y z n a b c = omega (arith, a, b, c)

    plus_none : (x : ℕ) → x + 0 ≡ x
    plus_none x = omega arith

-- the round that goes on is changed
grown : (s : State) (begun : List ℕ) (round : RoundLog) (changes : ℕ) → InRound s → length begun ≡ length s.begun
    → ((client : ℕ) → begun_of begun client ≤ 16384)
    → ((client : ℕ) → begun_of s.begun client + begins_in client round ≤ begun_of begun client + begins_in client s.round)
    → globals_in round + s.changes ≡ globals_in s.round + changes → changes ≤ 256
    → ((all : List RoundLog) → IsRoundShape (history s.head all) s.round → IsRoundShape (history s.head all) round)
    → InRound (record s { begun = begun; round = round; changes = changes })
grown s begun round changes h same few more counted low shape = record {
  head = h.head;
  version = h.version;
  counts = same ∙ h.counts;
  begun = few;
  attempts = λ client.
      (let a = h.attempts client in
      let b = sum-push (begins_in client) s.rounds s.round in
      let c = sum-push (begins_in client) s.rounds round in
      let m = more client in
      omega (arith, a, b, c, m));
  count = length-append s.rounds (round ∷ []) ∙ sym (length-append s.rounds (s.round ∷ [])) ∙ h.count;
  few = h.few;
  changed =
      (let a = h.changed in
      let b = sum-push globals_in s.rounds s.round in
      let c = sum-push globals_in s.rounds round in
      omega (arith, a, b, c, counted));
  few_changes = low;
  shapes = λ all.
      let P = IsRoundShape (history s.head all) in
      Each-append P s.rounds (round ∷ []) (Each-append_left P s.rounds (s.round ∷ []) (h.shapes all)) (shape all (last P s.rounds s.round (h.shapes all)), tt);
}
  where
    last : (P : RoundLog → Type 0) (rounds : List RoundLog) (round : RoundLog) → Each P (rounds ++ round ∷ []) → P round
    last P [] r e = e.0
    last P (x ∷ xs) r e = last P xs r e.1

-- what is not kept in the section stays
moved : (s t : State) → t.head ≡ s.head → t.begun ≡ s.begun → t.count ≡ s.count → t.changes ≡ s.changes → t.rounds ≡ s.rounds → t.round ≡ s.round
    → InRound s → InRound t
moved s t head begun count changes rounds round h = record {
  head = subst IsHead (sym head) h.head;
  version = subst (λ (x : Head). IsVersion x.version) (sym head) h.version;
  counts = ap length begun ∙ h.counts ∙ ap (λ (x : Head). length x.client_names.names) (sym head);
  begun = subst (λ (x : List ℕ). (client : ℕ) → begun_of x client ≤ 16384) (sym begun) h.begun;
  attempts = rw (begun, rounds, round) h.attempts;
  count = rw (count, rounds, round) h.count;
  few = rw count h.few;
  changed = rw (changes, rounds, round) h.changed;
  few_changes = rw changes h.few_changes;
  shapes = rw (head, rounds, round) h.shapes;
}

zeros-push : (begun : List ℕ) → ((client : ℕ) → begun_of begun client ≡ 0) → (client : ℕ) → begun_of (begun ++ 0 ∷ []) client ≡ 0
zeros-push begun h client = at begun (client - 1) (λ place. subst (λ (n : ℕ). get_or begun n 0 ≡ 0) (back place) (h (place + 1)))
  where
    back : (place : ℕ) → (place + 1) - 1 ≡ place
    back place = omega arith

    at : (ns : List ℕ) (place : ℕ) → ((n : ℕ) → get_or ns n 0 ≡ 0) → get_or (ns ++ 0 ∷ []) place 0 ≡ 0
    at [] zero f = refl
    at [] (suc n) f = refl
    at (n ∷ ns) zero f = f zero
    at (n ∷ ns) (suc m) f = at ns m (λ k. f (suc k))

whole : (s : State) → InRound s → HasShape (history s.head (every s))
whole s h = record {
  version = h.version;
  faults = h.head.size;
  columns = h.head.columns;
  few_columns = h.head.few_columns;
  clients = h.head.clients;
  few_clients = h.head.few_clients;
  few_keys = h.head.few_keys;
  named_clients = h.head.named_clients;
  named_keys = h.head.named_keys;
  distinct_clients = h.head.distinct_clients;
  distinct_keys = h.head.distinct_keys;
  some_round = omega (arith, length-append s.rounds (s.round ∷ []));
  few_rounds = omega (arith, h.count, h.few);
  few_globals = omega (arith, h.changed, h.few_changes);
  few_attempts = λ client. (let a = h.attempts client in let b = h.begun client in omega (arith, a, b));
  rounds = h.shapes (every s);
}

-- each kind of line keeps it
kept_after : (s : State) (line : TraceLine) → IsKept s → Fits s line → IsKept (after s line)
kept_after s (Opens v) h k =
    let b = from_start s s.section k.0 h in
    (record { head = same_head s v b.head; counts = b.counts; zeros = b.zeros; count = b.count; rounds = b.rounds; changes = b.changes }, k.1)
  where
    same_head : (s : State) (v : ℕ) → IsHead s.head → IsHead (record s.head { version = v })
    same_head s v h = record { size = h.size; columns = h.columns; few_columns = h.few_columns; clients = h.clients; few_clients = h.few_clients; few_keys = h.few_keys; named_clients = h.named_clients; named_keys = h.named_keys; distinct_clients = h.distinct_clients; distinct_keys = h.distinct_keys }
kept_after s (Sizes f) h k =
    let b = from_size s s.section k.0 h in
    (record { head = sized s f k.1 b.0.head; counts = b.0.counts; zeros = b.0.zeros; count = b.0.count; rounds = b.0.rounds; changes = b.0.changes }, b.1)
  where
    sized : (s : State) (f : ℕ) → Between 1 3 f → IsHead s.head → IsHead (record s.head { size = f })
    sized s f z h = record { size = z; columns = h.columns; few_columns = h.few_columns; clients = h.clients; few_clients = h.few_clients; few_keys = h.few_keys; named_clients = h.named_clients; named_keys = h.named_keys; distinct_clients = h.distinct_clients; distinct_keys = h.distinct_keys }
kept_after s (Declares name column) h k =
    let b = from_clients s s.section k.0 h in
    let new : InHead (after s (Declares name column)) = record {
      head = client_head s.head name column b.1.head k.1 k.2 k.3 k.4;
      counts = length-append s.begun (0 ∷ []) ∙ ap (λ (n : ℕ). n + 1) b.1.counts ∙ sym (length-append s.head.client_names.names (name ∷ []));
      zeros = zeros-push s.begun b.1.zeros;
      count = b.1.count;
      rounds = b.1.rounds;
      changes = b.1.changes;
    } in
    subst (λ (x : Section). KeptIn x (after s (Declares name column))) (sym b.0) (new, b.2)
kept_after s (Names name) h k =
    let b = from_keys s s.section k.0 h in
    (record { head = key_head s.head name b.0.head k.1 k.2 k.3; counts = b.0.counts; zeros = b.0.zeros; count = b.0.count; rounds = b.0.rounds; changes = b.0.changes }, b.1)
kept_after s (Begins n) h k = at (from_rounds s s.section k.0 h)
  where
    at : (InHead s × IsVersion s.head.version) ⊎ InRound s → InRound (after s (Begins n))
    at (inl b) = begins_kept s n (subst (HasRounds s) (sym (closed_head s b.0)) (rounds_head s b.0 b.1)) k.1
    at (inr b) = begins_kept s n (subst (HasRounds s) (sym (closed_round s b)) (rounds_round s b)) k.1
kept_after s (Heads column) h k =
    moved s (after s (Heads column)) refl refl refl refl refl refl (in_round before_column refl refl refl refl refl s s.section k h)
kept_after s (Logged seq step) h k =
    let b = in_round in_log refl refl refl refl refl s s.section k.0 h in
    let may = may_begin (history s.head []) s.begun step b.counts (k.1 []) k.2 in
    let round = record s.round { logs = extended s.round.logs s.column step } in
    let next = grown s (begun_after s.begun step) round s.changes b (begun-length s.begun step)
    (λ client. begun-few s.begun step client may (b.begun client))
    (λ client.
    (let a = begun-more s.begun step client may (b.begun client) in
    let l = logs-push (begins_of client) s.round.logs s.column step in
    omega (arith, a, l)))
    refl b.few_changes
    (λ all r. logged_shape (history s.head all) s.round s.column step r (k.1 all)) in
    moved (record s { begun = begun_after s.begun step; round = round; changes = s.changes }) (after s (Logged seq step)) refl refl refl refl refl refl next
kept_after s (Marks replica key) h k =
    moved s (after s (Marks replica key)) refl refl refl refl refl refl (in_round before_cell refl refl refl refl refl s s.section k h)
kept_after s (Kept entry) h k =
    let b = in_round in_journal refl refl refl refl refl s s.section k.0 h in
    let round = record s.round { journals = journaled s.round.journals s.replica s.key entry } in
    let next = grown s s.begun round s.changes b refl b.begun (λ client. omega arith) refl b.few_changes
    (λ all r. kept_shape (history s.head all) s.round s.replica s.key entry r (k.1 all)) in
    moved (record s { begun = s.begun; round = round; changes = s.changes }) (after s (Kept entry)) refl refl refl refl refl refl next
kept_after s Changes h k =
    moved s (after s Changes) refl refl refl refl refl refl (in_round before_cell refl refl refl refl refl s s.section k h)
kept_after s (Changed entry) h k =
    let b = in_round in_changes refl refl refl refl refl s s.section k.0 h in
    let round = record s.round { globals = s.round.globals ++ entry ∷ [] } in
    let few = small s.changes 256 k.1 in
    let more = length-append s.round.globals (entry ∷ []) in
    let next = grown s s.begun round (s.changes + 1) b refl b.begun (λ client. omega arith) (omega (arith, more)) (omega (arith, few))
    (λ all r. changed_shape (history s.head all) s.round entry r (k.2 all)) in
    moved (record s { begun = s.begun; round = round; changes = s.changes + 1 }) (after s (Changed entry)) refl refl refl refl refl refl next
kept_after s Ends h k =
    let b = in_round at_end refl refl refl refl refl s s.section k h in
    (subst (λ (x : List RoundLog). HasShape (history s.head x)) (sym (closed_round s b)) (whole s b), some_count s b)

kept_taken : (s : State) (r : Result TraceLine TextFault) (t : State) → Gives (Fits s) r → taken s r ≡ Ok t → IsKept s → IsKept t
kept_taken s (Ok line) t g e h = subst (λ (x : State). IsKept x) (ok_is (after s line) t e) (kept_after s line h g.is)
kept_taken s (Err fault) t g e h = absurd cc

-- so does each line that is read
pub kept_line : (s : State) (bytes : List ℕ) (t : State) → line_result s bytes ≡ Ok t → IsKept s → IsKept t
kept_line s bytes t e h = kept_taken s (line_of s bytes) t (line_law s bytes) e h

-- ---- pieces

kept_ended : (s : State) (n : ℕ) (bytes : List ℕ) → IsKept s → IsKept (ended_line s n (line_result s bytes)).state
kept_ended s n bytes h = here (line_result s bytes) refl
  where
    here : (r : Result State TextFault) → line_result s bytes ≡ r → IsKept (ended_line s n r).state
    here (Ok t) e = kept_line s bytes t e h
    here (Err why) e = h

pub kept_byte : (s : State) (fault : Option Refusal) (n : ℕ) (held : List ℕ) (b : ℕ) → IsKept s → IsKept (byte_behind s fault n held b).state
kept_byte s (Some refusal) n held b h = h
kept_byte s None n held b h = here (eqb b 10)
  where
    here : (t : Bool) → IsKept (cond t (ended_line s n (line_result s held)) (record { state = s; fault = None; number = n; held = held ++ b ∷ [] })).state
    here true = kept_ended s n held h
    here false = h

pub kept_fed : (r : Reading) (bytes : List ℕ) → IsKept r.state → IsKept (fed r bytes).state
kept_fed r [] h = h
kept_fed r (b ∷ bs) h = kept_fed (fed_byte r b) bs (kept_byte r.state r.fault r.number r.held b h)

-- a text that may end has read a run
pub ended_shape : (s : State) → ended s.section ≡ true → IsKept s → HasShape (history s.head s.rounds)
ended_shape s e h = at s.section e h
  where
    at : (x : Section) → ended x ≡ true → KeptIn x s → HasShape (history s.head s.rounds)
    at sections.Start e h = absurd cc
    at sections.Opened e h = absurd cc
    at sections.Clients e h = absurd cc
    at sections.Keys e h = absurd cc
    at sections.Round e h = absurd cc
    at sections.Column e h = absurd cc
    at sections.Log e h = absurd cc
    at sections.Cell e h = absurd cc
    at sections.Journal e h = absurd cc
    at sections.Globals e h = absurd cc
    at sections.Changes e h = absurd cc
    at sections.Ended e h = h.0

pub finished_ended : (s : State) (fault : Option Refusal) (n : ℕ) (held : List ℕ) (t : State)
    → finished (record { state = s; fault = fault; number = n; held = held }) ≡ Ok t → ended s.section ≡ true
finished_ended s (Some refusal) n held t e = absurd cc
finished_ended s None n held t e = here (eqb (length held) 0) (ended s.section) refl e
  where
    here : (a b : Bool) → ended s.section ≡ b → cond a (go_on n (need b faults.Order >> Ok s) (λ x. Ok x)) (Err (n, faults.Cut)) ≡ Ok t → ended s.section ≡ true
    here true true b k = b
    here true false b k = absurd cc
    here false a b k = absurd cc

-- what was read of a whole text has the shape of a run
pub shapes_read : (bytes : List ℕ) (t : State) → finished (fed started bytes) ≡ Ok t → HasShape (history (fed started bytes).state.head (fed started bytes).state.rounds)
shapes_read bytes t e =
    let r = fed started bytes in
    ended_shape r.state (finished_ended r.state r.fault r.number r.held t e) (kept_fed started bytes nothing_kept)
