-- What a step makes of the tables of a column.
use Rattle.std.proofs.Common.{◌≡◌, ℕ, Bool, true, refl, sym, ap, subst, ◌∙◌, List, [], ◌++◌, Option, Some, None, IsSome}
use Rattle.std.specs.Prelude.{find, option_map, IsSomeAnd}
use Rattle.std.specs.Option.{option_or}
use Rattle.std.proofs.lemmas.List.{append-nil}
use Rattle.mk_lists.specs.Among.{Each}
use Rattle.mk_lists.specs.Changed.{change}
use Rattle.mk_lists.proofs.EachMember.{Each-find}
use Rattle.mk_model.proofs.Parts.{attempt_of-id}
use Rattle.mk_words.specs.declared.Ruling.{Ruling}
use Rattle.mk_words.specs.declared.Ruling.TheVariants.{Fast, Learned, Propose, Short, Unaccepted}
use Rattle.mk_words.specs.Rulings.{ruling}
use Rattle.mk_words.specs.declared.Msg.{Msg}
use Rattle.mk_txn.specs.declared.TxnId.{TxnId}
use Rattle.std.proofs.lemmas.Option.{none-some, same_Some}
use Rattle.mk_txn.specs.declared.Outcome.{Outcome}
use Rattle.mk_words.specs.declared.Body.TheVariants.{Accept, Decide}
use Rattle.mk_quorum.specs.Slots.{passes}
use Rattle.mk_column.specs.declared.Attempt.{Attempt}
use Rattle.mk_model.specs.ColumnState.{ColumnState, Setting, AttemptState, Learning, is_attempt, attempt_of, change_attempt, send, to_all}
use Rattle.mk_column.specs.ColumnState.{shown}
use Rattle.mk_words.specs.declared.Step.{Step}
use Rattle.mk_words.specs.declared.Step.TheVariants.{Stop, Again, Rule}
use Rattle.mk_model.specs.ColumnState.Way.{ByVotes, ByAccepts}
use Rattle.mk_model.specs.Learnings.{learning, by_ruling, by_rule}
use Rattle.mk_model.specs.Steps.{column_after, on_some, sent_again, ruled, taught, proposing, with_learning}
use Rattle.mk_column.specs.ColumnByCode.{ColumnView, AttemptFits, own_learned}
use Rattle.mk_model.specs.Conditions.{blocked, is_stamped}
use Rattle.mk_column.specs.AttemptsByCode.{BegunView, begun_of, is_begun, states_of, change_begun, on_state}
use Rattle.mk_column.proofs.ColumnLaws.{attempt-found}
use Rattle.mk_model.proofs.Frames.{enabled}
use Rattle.mk_column.proofs.KeptLaws.{IsGentle}
use Rattle.mk_column.proofs.ListLaws.{map-change, map-kept}

-- an attempt of which something holds is there
pub there-from_passes : {X : Type 0} (test : X → Bool) (o : Option X) → passes test o ≡ true → IsSome o
there-from_passes test None e = absurd (cc e)
there-from_passes test (Some x) e = refl

pub some-from_map : {X Y : Type 0} (f : X → Y) (o : Option X) → IsSome (option_map f o) → IsSome o
some-from_map f None e = absurd (cc e)
some-from_map f (Some x) e = refl

pub begun-there : (id : TxnId) (all : List BegunView) (column : ColumnState) → column.attempts ≡ states_of all → IsSome (attempt_of column id)
    → IsSome (begun_of id all)
begun-there id all column is h =
    some-from_map (λ (b : BegunView). b.state) (begun_of id all) (subst IsSome (ap (find (is_attempt id)) is ∙ attempt-found id all) h)

-- the states after one of them is changed
pub states-changed : (id : TxnId) (h : AttemptState → AttemptState) (all : List BegunView)
    → states_of (change_begun id (on_state h) all) ≡ change (is_attempt id) h (states_of all)
states-changed id h all = map-change (is_begun id) (on_state h) (is_attempt id) h (λ (b : BegunView). b.state) (λ b. refl) (λ b. refl) all

-- the states stay where a flag of an attempt is set
pub states-kept : (id : TxnId) (g : BegunView → BegunView) (all : List BegunView) → ((b : BegunView) → (g b).state ≡ b.state)
    → states_of (change_begun id g all) ≡ states_of all
states-kept id g all keeps = map-kept (is_begun id) g (λ (b : BegunView). b.state) keeps all

-- the states once an own coordinator has learned
pub states-learned : (id : TxnId) (outcome : Outcome) (all : List BegunView)
    → states_of (own_learned id outcome all) ≡ change (is_attempt id) (taught outcome) (states_of all)
states-learned id outcome all =
    states-kept id (λ b. record b { decided = option_or b.decided (Some outcome) }) (change_begun id (on_state (taught outcome)) all) (λ b. refl)
    ∙ states-changed id (taught outcome) all

-- the view after a step, by what the step makes of the state
pub step-view : (old now : ColumnView) (step : Step) (state : ColumnState) → state ≡ column_after old.setting old.state step → old ≡ now
    → record old { state = state } ≡ record now { state = column_after now.setting now.state step }
step-view old now step state is same =
    ap (λ after. record old { state = after }) is ∙ ap (λ (column : ColumnView). record column { state = column_after column.setting column.state step }) same

-- nothing is learned in most steps
pub none-learned : (column : ColumnState) (learned : List Learning) → record column { learned = learned } ≡ record column { learned = learned ++ [] }
none-learned column learned = ap (λ all. record column { learned = all }) (sym (append-nil learned))

-- a stopped attempt keeps what an attempt keeps
pub stop-gentle : IsGentle (on_state (λ a. record a { stopped = true }))
stop-gentle = record { place = record { id = λ b. refl; reading = λ b. refl }; faults = λ b. refl; validated = λ b. refl; decided = λ b. refl; txn = λ b. refl }

-- a step that is enabled has its attempt
pub stop-there : (round : Setting) (column : ColumnState) (id : TxnId) → blocked round column (Stop id) ≡ None → IsSome (attempt_of column id)
stop-there round column id e = there-from_passes is_stamped (attempt_of column id) (enabled round column (Stop id) e).1.0

pub stop-state : (round : Setting) (column : ColumnState) (id : TxnId) (attempts : List AttemptState)
    → attempts ≡ change (is_attempt id) (λ a. record a { stopped = true }) column.attempts
    → record column { attempts = attempts } ≡ column_after round column (Stop id)
stop-state round column id attempts is =
    ap (λ all. record column { attempts = all }) is ∙ none-learned (change_attempt id (λ a. record a { stopped = true }) column) column.learned

pub again-state : (round : Setting) (column : ColumnState) (id : TxnId) (s : Attempt) (outcome : Outcome) → option_map shown (attempt_of column id) ≡ Some s
    → s.proposed ≡ Some outcome
    → send (to_all round.faults s.epoch id 0 (Accept outcome)) column ≡ column_after round column (Again id)
again-state round column id s outcome found proposed = by_found (attempt_of column id) refl found
  where
    by_found : (o : Option AttemptState) → attempt_of column id ≡ o → option_map shown o ≡ Some s
        → send (to_all round.faults s.epoch id 0 (Accept outcome)) column ≡ record (on_some (sent_again round.faults) o column) { learned = column.learned ++ [] }
    by_found None there e = absurd (none-some s e)
    by_found (Some a) there e =
        let is : shown a ≡ s = same_Some (shown a) s e in
        let value : Some outcome ≡ a.coord.proposed = sym (ap (λ (x : Attempt). x.proposed) is ∙ proposed) in
        ap (λ (x : Attempt). send (to_all round.faults x.epoch id 0 (Accept outcome)) column) (sym is)
        ∙ ap (λ i. send (to_all round.faults a.epoch i 0 (Accept outcome)) column) (sym (attempt_of-id column id a there))
        ∙ none-learned (send (to_all round.faults a.epoch a.id 0 (Accept outcome)) column) column.learned
        ∙ ap (λ o. record (on_some (λ x col. send (to_all round.faults a.epoch a.id 0 (Accept x)) col) o column) { learned = column.learned ++ [] }) value

-- what the ruling of an attempt is, it is of what is kept of the attempt
pub ruling-there : (f : ℕ) (link : List Msg) (learned : List Learning) (id : TxnId) (all : List BegunView) (r : Ruling) → Each (AttemptFits f link learned) all
    → IsSomeAnd (find (is_attempt id) (states_of all)) (λ a. ruling f a.coord ≡ r)
    → IsSomeAnd (begun_of id all) (λ begun. ruling begun.faults begun.state.coord ≡ r)
ruling-there f link learned id all r h is =
    by_found (begun_of id all) refl (subst (λ o. IsSomeAnd o (λ (a : AttemptState). ruling f a.coord ≡ r)) (attempt-found id all) is)
  where
    by_found : (o : Option BegunView) → begun_of id all ≡ o → IsSomeAnd (option_map (λ (b : BegunView). b.state) o) (λ a. ruling f a.coord ≡ r)
        → IsSomeAnd o (λ begun. ruling begun.faults begun.state.coord ≡ r)
    by_found None e given = given
    by_found (Some b) e given = ap (λ n. ruling n b.state.coord) (Each-find (AttemptFits f link learned) (is_begun id) all b h e).faults ∙ given

-- ---- what is done by a ruling

abbrev pub ruled_by : ℕ → ℕ → TxnId → Ruling → ColumnState → ColumnState
ruled_by f epoch id (Fast outcome) column =
    send (to_all f epoch id 0 (Decide outcome)) (with_learning (learning id ByVotes outcome) (change_attempt id (taught outcome) column))
ruled_by f epoch id (Learned outcome) column =
    send (to_all f epoch id 0 (Decide outcome)) (with_learning (learning id ByAccepts outcome) (change_attempt id (taught outcome) column))
ruled_by f epoch id (Propose outcome) column = change_attempt id (proposing outcome) (send (to_all f epoch id 0 (Accept outcome)) column)
ruled_by f epoch id (Short k) column = column
ruled_by f epoch id (Unaccepted k) column = column

ruled_by-is : (f : ℕ) (id : TxnId) (a : AttemptState) (r : Ruling) (column : ColumnState)
    → ruled_by f a.epoch id r column ≡ record (ruled f (record a { id = id }) r column) { learned = column.learned ++ by_ruling id r }
ruled_by-is f id a (Fast outcome) column = refl
ruled_by-is f id a (Learned outcome) column = refl
ruled_by-is f id a (Propose outcome) column = none-learned (ruled_by f a.epoch id (Propose outcome) column) column.learned
ruled_by-is f id a (Short k) column = none-learned column column.learned
ruled_by-is f id a (Unaccepted k) column = none-learned column column.learned

pub rule-state : (round : Setting) (column : ColumnState) (id : TxnId) (s : Attempt) (r : Ruling) → option_map shown (attempt_of column id) ≡ Some s
    → option_map (λ a. ruling round.faults a.coord) (attempt_of column id) ≡ Some r
    → ruled_by round.faults s.epoch id r column ≡ column_after round column (Rule id)
rule-state round column id s r found is = by_found (attempt_of column id) refl found is
  where
    by_found : (o : Option AttemptState) → attempt_of column id ≡ o → option_map shown o ≡ Some s → option_map (λ a. ruling round.faults a.coord) o ≡ Some r
        → ruled_by round.faults s.epoch id r column ≡ record (on_some (λ (a : AttemptState) col. ruled round.faults a (ruling round.faults a.coord) col) o column) { learned = column.learned ++ by_rule round id o }
    by_found None there e d = absurd (none-some s e)
    by_found (Some a) there e d =
        ap (λ (x : Attempt). ruled_by round.faults x.epoch id r column) (sym (same_Some (shown a) s e))
        ∙ ruled_by-is round.faults id a r column
        ∙ ap (λ i. record (ruled round.faults (record a { id = i }) r column) { learned = column.learned ++ by_ruling id r }) (sym (attempt_of-id column id a there))
        ∙ ap (λ x. record (ruled round.faults a x column) { learned = column.learned ++ by_ruling id x }) (sym (same_Some (ruling round.faults a.coord) r d))
