-- What the tables of a column tell of its state.
use Rattle.std.proofs.Common.{◌≡◌, ℕ, false, refl, sym, ap, ◌∙◌, ◌&&◌, ◌==◌, not, arith, List, [], Some, None}
use Rattle.std.specs.Prelude.{find, map, option_map, is_some, slice_set}
use Rattle.std.specs.List.{list_any}
use Rattle.std.proofs.lemmas.Bool.Decides.{nat_tests}
use Rattle.std.proofs.lemmas.List.{map-set}
use Rattle.mk_lists.specs.Among.{Each}
use Rattle.mk_lists.proofs.Lookups.{find-map, find-passes}
use Rattle.mk_lists.proofs.EachMember.{Each-find}
use Rattle.mk_lists.proofs.Tests.{list_any-map}
use Rattle.mk_txn.specs.declared.TxnId.{TxnId}
use Rattle.mk_txn.proofs.IdOrder.{same_id-tells}
use Rattle.mk_model.specs.ColumnState.{ColumnState, AttemptState, Learning, TakeoverOf, ClientState, client_of, is_attempt, is_takeover, is_client}
use Rattle.mk_quorum.specs.Slots.{passes}
use Rattle.mk_words.specs.Rulings.{ruling}
use Rattle.mk_words.specs.Picks.{pick}
use Rattle.mk_model.specs.Conditions.{acts_on, picks_one, is_validate_of, may_begin, heard_by}
use Rattle.mk_column.specs.declared.backup.ViewId.{ViewId}
use Rattle.mk_column.specs.declared.clients.Client.{Client}
use Rattle.mk_column.specs.ClientsByCode.{client_state, client_states, kept_client}
use Rattle.mk_model.specs.Replicas.{Held}
use Rattle.mk_model.specs.Logs.{replica_reset}
use Rattle.mk_column.specs.ColumnByCode.{ColumnView, AttemptFits, ClientFits, has_reading, first_decision}
use Rattle.mk_words.specs.declared.Msg.{Msg}
use Rattle.mk_column.specs.AttemptsByCode.{BegunView, begun_of, is_begun, states_of}
use Rattle.mk_column.specs.TakeoversByCode.{BackupView, backup_of, takeovers_of}

pub attempt-found : (id : TxnId) (all : List BegunView) → find (is_attempt id) (states_of all) ≡ option_map (λ begun. begun.state) (begun_of id all)
attempt-found id all = find-map (is_attempt id) (λ (begun : BegunView). begun.state) all

pub takeover-found : (id : TxnId) (view : ℕ) (all : List BackupView)
    → find (is_takeover id view) (takeovers_of all) ≡ option_map (λ backup. backup.of) (backup_of (record { id = id; view = view }) all)
takeover-found id view all = find-map (is_takeover id view) (λ (backup : BackupView). backup.of) all

-- what an attempt keeps, it keeps under its number
pub fits-found : (f : ℕ) (link : List Msg) (learned : List Learning) (id : TxnId) (all : List BegunView) (begun : BegunView)
    → Each (AttemptFits f link learned) all → begun_of id all ≡ Some begun → begun.decided ≡ first_decision learned id
fits-found f link learned id all begun h found =
    (Each-find (AttemptFits f link learned) (is_begun id) all begun h found).decided
    ∙ ap (first_decision learned) (same_id-tells begun.state.id id (find-passes (is_begun id) all begun found))

-- the own coordinator's ruling of an attempt that is found
pub ruling-found : (f : ℕ) (link : List Msg) (learned : List Learning) (id : TxnId) (all : List BegunView) (begun : BegunView)
    → Each (AttemptFits f link learned) all → begun_of id all ≡ Some begun
    → passes (λ a. acts_on (ruling f a.coord)) (find (is_attempt id) (states_of all)) ≡ acts_on (ruling begun.faults begun.state.coord)
ruling-found f link learned id all begun h found =
    ap (passes (λ (a : AttemptState). acts_on (ruling f a.coord))) (attempt-found id all ∙ ap (option_map (λ (b : BegunView). b.state)) found)
    ∙ ap (λ n. acts_on (ruling n begun.state.coord)) (sym (Each-find (AttemptFits f link learned) (is_begun id) all begun h found).faults)

pub ruling-none : (f : ℕ) (id : TxnId) (all : List BegunView) → begun_of id all ≡ None
    → passes (λ a. acts_on (ruling f a.coord)) (find (is_attempt id) (states_of all)) ≡ false
ruling-none f id all none =
    ap (passes (λ (a : AttemptState). acts_on (ruling f a.coord))) (attempt-found id all ∙ ap (option_map (λ (b : BegunView). b.state)) none)

-- the pick of a takeover that is found
pub pick-found : (f : ℕ) (view_id : ViewId) (all : List BackupView) (backup : BackupView) → Each (λ b. b.faults ≡ f) all → backup_of view_id all ≡ Some backup
    → passes (λ t. picks_one (pick f t.state)) (find (is_takeover view_id.id view_id.view) (takeovers_of all)) ≡ picks_one (pick backup.faults backup.of.state)
pick-found f view_id all backup h found =
    ap (passes (λ (t : TakeoverOf). picks_one (pick f t.state))) (takeover-found view_id.id view_id.view all ∙ ap (option_map (λ (b : BackupView). b.of)) found)
    ∙ ap (λ n. picks_one (pick n backup.of.state)) (sym (Each-find (λ (b : BackupView). b.faults ≡ f) (λ b. is_takeover view_id.id view_id.view b.of) all backup h found))

pub pick-none : (f : ℕ) (view_id : ViewId) (all : List BackupView) → backup_of view_id all ≡ None
    → passes (λ t. picks_one (pick f t.state)) (find (is_takeover view_id.id view_id.view) (takeovers_of all)) ≡ false
pick-none f view_id all none =
    ap (passes (λ (t : TakeoverOf). picks_one (pick f t.state))) (takeover-found view_id.id view_id.view all ∙ ap (option_map (λ (b : BackupView). b.of)) none)

-- whether a Validate of an attempt that is found was sent
pub validated-found : (f : ℕ) (link : List Msg) (learned : List Learning) (id : TxnId) (all : List BegunView) (begun : BegunView)
    → Each (AttemptFits f link learned) all → begun_of id all ≡ Some begun
    → begun.validated ≡ list_any (is_validate_of id) link
validated-found f link learned id all begun h found =
    (Each-find (AttemptFits f link learned) (is_begun id) all begun h found).validated
    ∙ ap (λ n. list_any (is_validate_of n) link) (same_id-tells begun.state.id id (find-passes (is_begun id) all begun found))

-- a client that is found has the number that was asked for
pub client-number : (n : ℕ) (all : List Client) (client : Client) → kept_client n all ≡ Some client → client.number ≡ n
client-number n all client found = grind (arith, nat_tests, find-passes (λ (c : Client). c.number == n) all client found)

pub client-found : (number : ℕ) (all : List Client) → find (is_client number) (client_states all) ≡ option_map client_state (kept_client number all)
client-found number all = find-map (is_client number) client_state all

-- a client that is found may begin where it does not read
pub may_begin-found : (number : ℕ) (column : ColumnState) (clients : List Client) (attempts : List BegunView) (client : Client)
    → column.clients ≡ client_states clients → column.attempts ≡ states_of attempts
    → Each (ClientFits attempts) clients → kept_client number clients ≡ Some client → may_begin column number ≡ not client.reading
may_begin-found number column clients attempts client is_clients is_attempts h found =
    let here : find (is_client number) column.clients ≡ Some (client_state client) =
    ap (find (is_client number)) is_clients ∙ client-found number clients ∙ ap (option_map client_state) found in
    let reads : client.reading ≡ has_reading number attempts =
    (Each-find (ClientFits attempts) (λ c. c.number == number) clients client h found).reading ∙ ap (λ n. has_reading n attempts) (client-number number clients client found) in
    let any : list_any (λ a. a.reading && a.id.client == number) column.attempts ≡ client.reading =
    ap (list_any (λ (a : AttemptState). a.reading && a.id.client == number)) is_attempts
    ∙ list_any-map (λ (a : AttemptState). a.reading && a.id.client == number) (λ (b : BegunView). b.state) attempts ∙ sym reads in
    ap (λ o. is_some o && not (list_any (λ (a : AttemptState). a.reading && a.id.client == number) column.attempts)) here ∙ ap not any

pub may_begin-none : (number : ℕ) (column : ColumnState) (clients : List Client) → column.clients ≡ client_states clients → kept_client number clients ≡ None
    → may_begin column number ≡ false
may_begin-none number column clients is_clients none =
    ap (λ o. is_some o && not (list_any (λ (a : AttemptState). a.reading && a.id.client == number) column.attempts))
    (ap (find (is_client number)) is_clients ∙ client-found number clients ∙ ap (option_map client_state) none)

pub heard-found : (column : ColumnState) (number : ℕ) (client : ClientState) → client_of column number ≡ Some client → heard_by column number ≡ client.heard
heard-found column number client found = rw found refl

pub heard-none : (column : ColumnState) (number : ℕ) → client_of column number ≡ None → heard_by column number ≡ 0
heard-none column number none = rw none refl

pub ruling-some : (f : ℕ) (link : List Msg) (learned : List Learning) (id : TxnId) (all : List BegunView) (begun : BegunView)
    → Each (AttemptFits f link learned) all → begun_of id all ≡ Some begun
    → option_map (λ a. ruling f a.coord) (find (is_attempt id) (states_of all)) ≡ Some (ruling begun.faults begun.state.coord)
ruling-some f link learned id all begun h found =
    ap (option_map (λ (a : AttemptState). ruling f a.coord)) (attempt-found id all ∙ ap (option_map (λ (b : BegunView). b.state)) found)
    ∙ ap (λ n. Some (ruling n begun.state.coord)) (sym (Each-find (AttemptFits f link learned) (is_begun id) all begun h found).faults)

-- a column one of whose replicas is reset
pub reset-view : (old now : ColumnView) (replicas : List Held) (r : ℕ) (empty : Held) → empty ≡ record { entries = []; marks = [] }
    → old.state.records ≡ map (λ held. held.entries) replicas → old.state.marks ≡ map (λ held. held.marks) replicas → old ≡ now
    → record old { state = record old.state { records = map (λ held. held.entries) (slice_set replicas r empty); marks = map (λ held. held.marks) (slice_set replicas r empty) } } ≡ record now { state = replica_reset r now.state }
reset-view old now replicas r empty is records marks same =
    let of_records : map (λ held. held.entries) (slice_set replicas r empty) ≡ slice_set old.state.records r [] =
    map-set (λ (held : Held). held.entries) replicas r empty ∙ ap (λ (held : Held). slice_set (map (λ (h : Held). h.entries) replicas) r held.entries) is
    ∙ ap (λ all. slice_set all r []) (sym records) in
    let of_marks : map (λ held. held.marks) (slice_set replicas r empty) ≡ slice_set old.state.marks r [] =
    map-set (λ (held : Held). held.marks) replicas r empty ∙ ap (λ (held : Held). slice_set (map (λ (h : Held). h.marks) replicas) r held.marks) is
    ∙ ap (λ all. slice_set all r []) (sym marks) in
    ap (λ all. record old { state = record old.state { records = all; marks = map (λ (held : Held). held.marks) (slice_set replicas r empty) } }) of_records
    ∙ ap (λ all. record old { state = record old.state { records = slice_set old.state.records r []; marks = all } }) of_marks
    ∙ ap (λ (column : ColumnView). record column { state = replica_reset r column.state }) same
