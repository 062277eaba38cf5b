-- The lines of a run may come one behind the other, and leave that run.
use Rattle.std.proofs.Common.{◌≡◌, ℕ, zero, suc, ◌+◌, ◌-◌, ◌≤◌, ◌<◌, Bool, true, false, cond, eqb, List, [], ◌∷◌, ◌++◌, length, map, get_or, replicate, Option, Some, None, refl, sym, ap, subst, ◌∙◌, arith, append_assoc}
use Rattle.std.specs.Prelude.{sum}
use Rattle.std.specs.List.{list_all}
use Rattle.std.proofs.lemmas.Bool.{eqb-true}
use Rattle.std.proofs.lemmas.List.{append-nil}
use Rattle.mk_lists.specs.Among.{Each}
use Rattle.mk_quorum.specs.Sizes.{members}
use Rattle.mk_words.specs.declared.Step.{Step}
use Rattle.mk_words.specs.declared.GlobalEntry.{GlobalEntry}
use Rattle.mk_history.specs.declared.RoundLog.{RoundLog}
use Rattle.mk_history.specs.Histories.{History}
use Rattle.mk_history.specs.Shape.{columns_of, global_fits, IsRoundShape, begins_in, HasShape}
use Rattle.mk_kept.specs.declared.head.Head.{Head}
use Rattle.mk_kept.specs.Heads.{history}
use Rattle.mk_trace_lines.specs.TraceLines.{TraceLine}
use Rattle.mk_trace_lines.specs.TraceLines.TraceLine.{Opens, Sizes, Begins, Ends}
use Rattle.mk_trace_text.specs.declared.section.Section.{Section}
use Rattle.mk_trace_text.specs.declared.section.Section.TheVariants as sections
use Rattle.mk_trace_text.specs.Begun.{begun_of, begun_in}
use Rattle.mk_trace_text.specs.Traces.{zeros, client_lines, key_line, logs_lines, journals_lines, change_lines, round_lines, rounds_lines, trace_lines}
use Rattle.mk_trace_text.specs.States.{State, nothing, closed, after}
use Rattle.mk_trace_text.specs.Grammar.{before_round, before_cell, at_end, ended}
use Rattle.mk_trace.proofs.GrownTables.{sum-cons}
use Rattle.mk_trace.proofs.KeepLaws.{globals_in}
use Rattle.mk_trace.proofs.Suited.{IsSound, IsCellBehind}
use Rattle.mk_trace.proofs.InTurn.{IsNext, Leads, then, first, none_left, NamesHold, headed, clients_lead, keys_lead}
use Rattle.mk_trace.proofs.LogsInTurn.{Room, log_at, logs_lead}
use Rattle.mk_trace.proofs.CellsInTurn.{Cells, cell_at, journals_lead, changes_lead}

-- what the last lines of a round leave behind b
record TailLed (all : List RoundLog) (b : State) (lines : List TraceLine) (round : RoundLog) : Type 0 where
  state : State
  leads : Leads b.head.client_names.names b.head.key_names.names all b lines state
  head : state.head ≡ b.head
  begun : state.begun ≡ b.begun
  count : state.count ≡ b.count
  changes : state.changes ≡ b.changes + length round.globals
  ends : at_end state.section ≡ true
  round_is : state.round ≡ round
  rounds : state.rounds ≡ b.rounds

change_tail : (all : List RoundLog) (b : State) (round : RoundLog) → IsSound b.head → before_cell b.section ≡ true → at_end b.section ≡ true
    → b.round.logs ≡ round.logs → b.round.journals ≡ round.journals → b.round.globals ≡ []
    → list_all (global_fits (history b.head all)) round.globals ≡ true → b.changes + length round.globals ≤ 256
    → TailLed all b (change_lines round.globals) round
change_tail all b round sound ready ends logs journals globals fits few =
    let k = changes_lead all b sound ready round.globals ends fits few in
    let t : State = record b { section = k.section; changes = b.changes + length round.globals; round = record b.round { globals = round.globals } } in
    let bare : State = record b { round = record b.round { globals = [] } } in
    let same : b ≡ bare = ap (λ (gs : List GlobalEntry). state_with b gs) globals in
    record {
      state = t;
      leads = subst (λ (s : State). Leads b.head.client_names.names b.head.key_names.names all s (change_lines round.globals) t) (sym same) k.leads;
      head = refl;
      begun = refl;
      count = refl;
      changes = refl;
      ends = k.ends;
      round_is =
          ap (λ (l : List (List Step)). record { logs = l; journals = b.round.journals; globals = round.globals }) logs
          ∙ ap (λ (l : List Cells). record { logs = round.logs; journals = l; globals = round.globals }) journals;
      rounds = refl;
    }
  where
    state_with : State → List GlobalEntry → State
    state_with b gs = record b { round = record b.round { globals = gs } }

cell_tail : (all : List RoundLog) (b : State) (round : RoundLog) → IsSound b.head → before_cell b.section ≡ true → at_end b.section ≡ true
    → ((s : State) (replica key : ℕ) → IsCellBehind s b.section replica key) → b.round.logs ≡ round.logs
    → b.round.journals ≡ replicate (members b.head.size) (replicate (length b.head.key_names.names) []) → b.round.globals ≡ []
    → IsRoundShape (history b.head all) round → b.changes + length round.globals ≤ 256
    → TailLed all b (journals_lines 0 round.journals ++ change_lines round.globals) round
cell_tail all b round sound ready ends free logs journals globals shape few =
    let bare : Cells = replicate (length b.head.key_names.names) [] in
    let k = journals_lead all b sound ready free None [] round.journals tt (let e = shape.journals in omega (arith, e)) shape.keys shape.entries in
    let same : b ≡ cell_at b None (replicate (length round.journals) bare) =
    ap (cell_at b None) (journals ∙ ap (λ (n : ℕ). replicate n bare) (sym shape.journals)) in
    at k.0 (subst (λ (s : State). Leads b.head.client_names.names b.head.key_names.names all s (journals_lines 0 round.journals) (cell_at b k.0 round.journals)) (sym same) k.1)
  where
    both : (m : State) → m.head ≡ b.head → m.begun ≡ b.begun → m.count ≡ b.count → m.changes ≡ b.changes → m.rounds ≡ b.rounds
        → Leads b.head.client_names.names b.head.key_names.names all b (journals_lines 0 round.journals) m
        → TailLed all m (change_lines round.globals) round → TailLed all b (journals_lines 0 round.journals ++ change_lines round.globals) round
    both m head begun count changes rounds front back =
        let rest : Leads b.head.client_names.names b.head.key_names.names all m (change_lines round.globals) back.state =
        subst (λ (h : Head). Leads h.client_names.names h.key_names.names all m (change_lines round.globals) back.state) head back.leads in
        record {
          state = back.state;
          leads = then b.head.client_names.names b.head.key_names.names all b m back.state (journals_lines 0 round.journals) (change_lines round.globals) front rest;
          head = back.head ∙ head;
          begun = back.begun ∙ begun;
          count = back.count ∙ count;
          changes = back.changes ∙ ap (λ (n : ℕ). n + length round.globals) changes;
          ends = back.ends;
          round_is = back.round_is;
          rounds = back.rounds ∙ rounds;
        }

    at : (y : Option (ℕ × ℕ)) → Leads b.head.client_names.names b.head.key_names.names all b (journals_lines 0 round.journals) (cell_at b y round.journals)
        → TailLed all b (journals_lines 0 round.journals ++ change_lines round.globals) round
    at None front =
        let m = cell_at b None round.journals in
        both m refl refl refl refl refl front (change_tail all m round sound ready ends logs refl globals shape.globals few)
    at (Some p) front =
        let m = cell_at b (Some p) round.journals in
        both m refl refl refl refl refl front (change_tail all m round sound refl refl logs refl globals shape.globals few)

-- what a round leaves behind s
record RoundLed (all : List RoundLog) (s : State) (round : RoundLog) : Type 0 where
  state : State
  leads : Leads s.head.client_names.names s.head.key_names.names all s (round_lines s.begun s.count round) state
  head : state.head ≡ s.head
  begun : state.begun ≡ begun_in s.begun round.logs
  count : state.count ≡ s.count + 1
  changes : state.changes ≡ s.changes + length round.globals
  ends : at_end state.section ≡ true
  rounds : closed state ≡ closed s ++ round ∷ []

closed_more : (t : State) (n : ℕ) → t.count ≡ n + 1 → closed t ≡ t.rounds ++ t.round ∷ []
closed_more t n e = here (eqb t.count 0) refl
  where
    here : (b : Bool) → eqb t.count 0 ≡ b → cond b t.rounds (t.rounds ++ t.round ∷ []) ≡ t.rounds ++ t.round ∷ []
    here true z = let none = eqb-true t.count 0 z in absurd (omega (arith, none, e))
    here false z = refl

round_leads : (all : List RoundLog) (s : State) (round : RoundLog) (others : ℕ → ℕ) → IsSound s.head → before_round s.section ≡ true → s.count < 16
    → IsRoundShape (history s.head all) round → Room s.begun (λ c. begins_in c round + others c) → s.changes + length round.globals ≤ 256
    → RoundLed all s round × Room (begun_in s.begun round.logs) others
round_leads all s round others sound ready few shape room low =
    let clients = s.head.client_names.names in
    let keys = s.head.key_names.names in
    let b = after s (Begins (s.count + 1)) in
    let k = logs_lead all b sound None s.begun [] round.logs others tt (let e = shape.logs in omega (arith, e)) shape.steps room in
    let same : b ≡ log_at b None s.begun (replicate (length round.logs) []) =
    ap (λ (n : ℕ). log_at b None s.begun (replicate n [])) (sym shape.logs) in
    let front = subst (λ (m : State). Leads clients keys all m (logs_lines s.begun 0 round.logs) (log_at b k.0 (begun_in s.begun round.logs) round.logs)) (sym same) k.1 in
    (at k.0 front, k.2)
  where
    finish : (m : State) → m.head ≡ s.head → m.begun ≡ begun_in s.begun round.logs → m.count ≡ s.count + 1 → m.changes ≡ s.changes → m.rounds ≡ closed s
        → Leads s.head.client_names.names s.head.key_names.names all (after s (Begins (s.count + 1))) (logs_lines s.begun 0 round.logs) m
        → TailLed all m (journals_lines 0 round.journals ++ change_lines round.globals) round → RoundLed all s round
    finish m head begun count changes rounds front back =
        let clients = s.head.client_names.names in
        let keys = s.head.key_names.names in
        let rest : Leads clients keys all m (journals_lines 0 round.journals ++ change_lines round.globals) back.state =
        subst (λ (h : Head). Leads h.client_names.names h.key_names.names all m (journals_lines 0 round.journals ++ change_lines round.globals) back.state) head back.leads in
        record {
          state = back.state;
          leads = first clients keys all s (after s (Begins (s.count + 1))) back.state (Begins (s.count + 1))
              (logs_lines s.begun 0 round.logs ++ (journals_lines 0 round.journals ++ change_lines round.globals))
              (record { sound = sound; suits = (ready, few, refl); spelled = refl })
              refl
              (then clients keys all (after s (Begins (s.count + 1))) m back.state (logs_lines s.begun 0 round.logs) (journals_lines 0 round.journals ++ change_lines round.globals) front rest);
          head = back.head ∙ head;
          begun = back.begun ∙ begun;
          count = back.count ∙ count;
          changes = back.changes ∙ ap (λ (n : ℕ). n + length round.globals) changes;
          ends = back.ends;
          rounds = closed_more back.state s.count (back.count ∙ count) ∙ ap (λ (l : List RoundLog). l ++ back.state.round ∷ []) (back.rounds ∙ rounds)
              ∙ ap (λ (r : RoundLog). closed s ++ r ∷ []) back.round_is;
        }

    at : (y : Option ℕ)
        → Leads s.head.client_names.names s.head.key_names.names all (after s (Begins (s.count + 1))) (logs_lines s.begun 0 round.logs)
        (log_at (after s (Begins (s.count + 1))) y (begun_in s.begun round.logs) round.logs)
        → RoundLed all s round
    at None front =
        let m = log_at (after s (Begins (s.count + 1))) None (begun_in s.begun round.logs) round.logs in
        finish m refl refl refl refl refl front (cell_tail all m round sound refl refl (λ x replica key. tt) refl refl refl shape low)
    at (Some column) front =
        let m = log_at (after s (Begins (s.count + 1))) (Some column) (begun_in s.begun round.logs) round.logs in
        finish m refl refl refl refl refl front (cell_tail all m round sound refl refl (λ x replica key. tt) refl refl refl shape low)

-- ---- rounds

round_after_end : (x : Section) → at_end x ≡ true → before_round x ≡ true
round_after_end sections.Start e = absurd cc
round_after_end sections.Opened e = absurd cc
round_after_end sections.Clients e = absurd cc
round_after_end sections.Keys e = absurd cc
round_after_end sections.Round e = refl
round_after_end sections.Column e = absurd cc
round_after_end sections.Log e = refl
round_after_end sections.Cell e = absurd cc
round_after_end sections.Journal e = refl
round_after_end sections.Globals e = absurd cc
round_after_end sections.Changes e = refl
round_after_end sections.Ended e = absurd cc

-- what rounds leave behind s
record RoundsLed (all : List RoundLog) (head : Head) (s : State) (rounds : List RoundLog) : Type 0 where
  state : State
  leads : Leads head.client_names.names head.key_names.names all s (rounds_lines s.begun s.count rounds) state
  head_is : state.head ≡ head
  ends : at_end state.section ≡ true
  every : closed state ≡ closed s ++ rounds

rounds_lead : (all : List RoundLog) (head : Head) → IsSound head → (rounds : List RoundLog) (s : State) → s.head ≡ head → before_round s.section ≡ true
    → (rounds ≡ [] → at_end s.section ≡ true) → Each (IsRoundShape (history head all)) rounds → s.count + length rounds ≤ 16
    → Room s.begun (λ c. sum (map (begins_in c) rounds)) → s.changes + sum (map globals_in rounds) ≤ 256 → RoundsLed all head s rounds
rounds_lead all head sound [] s same ready ends shapes few room low = record {
  state = s;
  leads = none_left head.client_names.names head.key_names.names all s s refl;
  head_is = same;
  ends = ends refl;
  every = sym (append-nil (closed s));
}
rounds_lead all head sound (round ∷ rounds) s same ready ends shapes few room low =
    let sum_of = sum-cons (globals_in round) (map globals_in rounds) in
    let both = round_leads all s round (λ c. sum (map (begins_in c) rounds)) (subst (λ (h : Head). IsSound h) (sym same) sound) ready (omega (arith, few))
    (subst (λ (h : Head). IsRoundShape (history h all) round) (sym same) shapes.0)
    (λ c least. (let k = room c least in let e = sum-cons (begins_in c round) (map (begins_in c) rounds) in omega (arith, k, e)))
    (omega (arith, low, sum_of)) in
    let one = both.0 in
    let m = one.state in
    let more = rounds_lead all head sound rounds m (one.head ∙ same) (round_after_end m.section one.ends) (λ e. one.ends) shapes.1
    (let e = one.count in omega (arith, few, e))
    (subst (λ (b : List ℕ). Room b (λ c. sum (map (begins_in c) rounds))) (sym one.begun) both.1)
    (let e = one.changes in omega (arith, low, e, sum_of)) in
    let front : Leads head.client_names.names head.key_names.names all s (round_lines s.begun s.count round) m =
    subst (λ (h : Head). Leads h.client_names.names h.key_names.names all s (round_lines s.begun s.count round) m) same one.leads in
    let back : Leads head.client_names.names head.key_names.names all m (rounds_lines (begun_in s.begun round.logs) (s.count + 1) rounds) more.state =
    subst (λ (n : ℕ). Leads head.client_names.names head.key_names.names all m (rounds_lines (begun_in s.begun round.logs) n rounds) more.state) one.count
    (subst (λ (b : List ℕ). Leads head.client_names.names head.key_names.names all m (rounds_lines b m.count rounds) more.state) one.begun more.leads) in
    record {
      state = more.state;
      leads = then head.client_names.names head.key_names.names all s m more.state (round_lines s.begun s.count round) (rounds_lines (begun_in s.begun round.logs) (s.count + 1) rounds) front back;
      head_is = more.head_is;
      ends = more.ends;
      every = more.every ∙ ap (λ (l : List RoundLog). l ++ rounds) one.rounds ∙ append_assoc (closed s) (round ∷ []) rounds;
    }

-- ---- the run

zeros_none : (columns : List ℕ) (client : ℕ) → begun_of (zeros columns) client ≡ 0
zeros_none columns client = at columns (client - 1)
  where
    at : (ns : List ℕ) (place : ℕ) → get_or (zeros ns) place 0 ≡ 0
    at [] place = refl
    at (n ∷ ns) zero = refl
    at (n ∷ ns) (suc place) = at ns place

-- what the lines of a run leave
pub record RunLed (run : History) : Type 0 where
  pub state : State
  pub leads : Leads run.client_names run.key_names run.rounds nothing (trace_lines run) state
  pub ends : ended state.section ≡ true
  pub run_is : history state.head state.rounds ≡ run

pub run_leads : (run : History) → HasShape run → RunLed run
run_leads run h =
    let clients = run.client_names in
    let keys = run.key_names in
    let columns = run.client_columns in
    let all = run.rounds in
    let few : columns_of columns ≤ 8 = (let e = h.columns in let k = h.few_columns in omega (arith, e, k)) in
    let named : NamesHold clients = record { named = h.named_clients; distinct = h.distinct_clients } in
    let keyed : NamesHold keys = record { named = h.named_keys; distinct = h.distinct_keys } in
    let opened = after nothing (Opens run.version) in
    let sized = headed sections.Clients run.version run.faults [] [] [] in
    let declared = headed sections.Clients run.version run.faults columns clients [] in
    let c = clients_lead keys all run.version run.faults clients columns h.faults.1 named h.few_clients few [] clients [] columns refl refl h.clients in
    let k = keys_lead all run.version run.faults columns clients keys h.faults.1 named keyed h.few_keys few sections.Clients refl refl [] keys refl in
    let ready = headed k.0 run.version run.faults columns clients keys in
    let sound : IsSound ready.head = record {
      small = h.faults.1;
      few_columns = few;
      clients = record { named = h.named_clients; distinct = h.distinct_clients };
      keys = record { named = h.named_keys; distinct = h.distinct_keys };
    } in
    let same : history ready.head all ≡ run =
    ap (λ (n : ℕ). history (record ready.head { columns = n }) all) (sym h.columns) in
    let r = rounds_lead all ready.head sound run.rounds ready refl k.1 (λ e. absurd (none run.rounds e h.some_round))
    (subst (λ (x : History). Each (IsRoundShape x) run.rounds) (sym same) h.rounds)
    (let x = h.few_rounds in omega (arith, x))
    (λ client least. (let z = zeros_none columns client in let x = h.few_attempts client in omega (arith, z, x)))
    (let x = h.few_globals in omega (arith, x)) in
    let last = after r.state Ends in
    let end_next : IsNext clients keys all r.state Ends = record { sound = subst (λ (x : Head). IsSound x) (sym r.head_is) sound; suits = r.ends; spelled = refl } in
    let from_rounds : Leads clients keys all ready (rounds_lines (zeros columns) 0 run.rounds ++ Ends ∷ []) last =
    then clients keys all ready r.state last (rounds_lines (zeros columns) 0 run.rounds) (Ends ∷ []) r.leads
    (first clients keys all r.state last last Ends [] end_next refl (none_left clients keys all last last refl)) in
    let from_keys : Leads clients keys all declared (map key_line keys ++ (rounds_lines (zeros columns) 0 run.rounds ++ Ends ∷ [])) last =
    then clients keys all declared ready last (map key_line keys) (rounds_lines (zeros columns) 0 run.rounds ++ Ends ∷ []) k.2 from_rounds in
    let rest = rounds_lines (zeros columns) 0 run.rounds ++ Ends ∷ [] in
    let from_clients : Leads clients keys all sized (client_lines clients 0 columns ++ (map key_line keys ++ rest)) last =
    then clients keys all sized declared last (client_lines clients 0 columns) (map key_line keys ++ rest) c from_keys in
    let regrouped : Leads clients keys all sized ((client_lines clients 0 columns ++ map key_line keys) ++ rest) last =
    subst (λ (l : List TraceLine). Leads clients keys all sized l last) (sym (append_assoc (client_lines clients 0 columns) (map key_line keys) rest)) from_clients in
    let from_size : Leads clients keys all opened (Sizes run.faults ∷ ((client_lines clients 0 columns ++ map key_line keys) ++ rest)) last =
    first clients keys all opened sized last (Sizes run.faults) ((client_lines clients 0 columns ++ map key_line keys) ++ rest)
    (record { sound = bare_opened; suits = (refl, h.faults); spelled = refl }) refl regrouped in
    record {
      state = last;
      leads = first clients keys all nothing opened last (Opens run.version) (Sizes run.faults ∷ ((client_lines clients 0 columns ++ map key_line keys) ++ rest))
          (record { sound = bare; suits = (refl, h.version); spelled = refl }) refl from_size;
      ends = refl;
      run_is = ap (λ (x : Head). history x (closed r.state)) r.head_is ∙ ap (history ready.head) r.every ∙ same;
    }
  where
    none : (rounds : List RoundLog) → rounds ≡ [] → 1 ≤ length rounds → ⊥
    none rounds e some = (let z = ap length e in omega (arith, z, some))

    bare : IsSound nothing.head
    bare = record { small = omega arith; few_columns = omega arith; clients = record { named = tt; distinct = tt }; keys = record { named = tt; distinct = tt } }

    bare_opened : IsSound (after nothing (Opens run.version)).head
    bare_opened = record { small = omega arith; few_columns = omega arith; clients = record { named = tt; distinct = tt }; keys = record { named = tt; distinct = tt } }
