-- What the tables of a column tell of its takeovers, and what is done by a pick.
use Rattle.std.proofs.Common.{◌≡◌, ℕ, ◌<◌, Bool, true, false, cond, not, ◌&&◌, ◌==◌, refl, sym, ap, subst, ◌∙◌, List, [], ◌∷◌, ◌++◌, Option, Some, None, IsSome}
use Rattle.std.specs.Prelude.{find, is_some, option_map, IsSomeAnd}
use Rattle.std.proofs.lemmas.Option.{none-some, same_Some}
use Rattle.std.proofs.lemmas.Bool.{cond-false}
use Rattle.mk_lists.specs.Among.{Each}
use Rattle.mk_lists.specs.Changed.{change}
use Rattle.mk_lists.proofs.EachMember.{Each-find}
use Rattle.mk_lists.proofs.Lookups.{find-passes}
use Rattle.mk_lists.proofs.Options.{None-from_map}
use Rattle.mk_lists.proofs.Changes.{change-none}
use Rattle.mk_model.proofs.Parts.{attempt_of-id}
use Rattle.mk_txn.specs.declared.TxnId.{TxnId}
use Rattle.mk_words.specs.declared.Body.{Body}
use Rattle.mk_words.specs.declared.Body.TheVariants.{Validate as ValidateBody, Voted, Accept, Accepted as AcceptedBody, Decide, Ask, Told as ToldBody, Moved as MovedBody}
use Rattle.mk_words.specs.declared.Msg.{Msg}
use Rattle.mk_words.specs.Links.{goes_to_replica}
use Rattle.mk_quorum.specs.Sizes.{members}
use Rattle.mk_quorum.specs.Slots.{passes}
use Rattle.mk_model.specs.Answers.{is_led, takeover_answered, takeover_heard, answer_taken}
use Rattle.mk_words.specs.declared.Pick.{Pick}
use Rattle.mk_words.specs.declared.Pick.TheVariants.{Known, Learned as PickLearned, Propose as PickPropose, Short as PickShort, Unaccepted as PickUnaccepted, Unclear}
use Rattle.mk_words.specs.Picks.{pick}
use Rattle.mk_column.specs.declared.Attempt.{Attempt}
use Rattle.mk_column.specs.declared.backup.ViewId.{ViewId}
use Rattle.mk_words.specs.declared.Step.TheVariants.{Takeover, Pick as PickStep}
use Rattle.mk_model.specs.ColumnState.{ColumnState, Setting, AttemptState, TakeoverOf, Learning, attempt_of, takeover_of, is_takeover, change_takeover, send, to_all}
use Rattle.mk_column.specs.ColumnState.{shown}
use Rattle.mk_model.specs.ColumnState.Way.{ByTelling, ByPick}
use Rattle.mk_model.specs.Learnings.{learning, by_pick, by_takeover, by_message, is_heard}
use Rattle.mk_model.specs.Steps.{column_after, on_some, picked, picking, taken_over, closing, takeover_proposing, with_learning}
use Rattle.mk_column.specs.StepsByCode.{heard_taken}
use Rattle.mk_column.specs.TakeoversByCode.{BackupView, backup_of, backup_begun, takeovers_of, change_backup, on_backup}
use Rattle.mk_column.proofs.ColumnLaws.{takeover-found}
use Rattle.mk_txn.specs.Transactions.{same_id}
use Rattle.mk_txn.proofs.IdOrder.{same_id-tells}
use Rattle.mk_column.specs.AttemptsByCode.{BegunView, begun_of}
use Rattle.mk_column.proofs.ListLaws.{map-change}
use Rattle.mk_column.proofs.StepLaws.{some-from_map, none-learned}

pub backup-there : (view_id : ViewId) (all : List BackupView) (column : ColumnState) → column.takeovers ≡ takeovers_of all
    → IsSome (takeover_of column view_id.id view_id.view) → IsSome (backup_of view_id all)
backup-there view_id all column is h =
    some-from_map (λ (b : BackupView). b.of) (backup_of view_id all)
    (subst IsSome (ap (find (is_takeover view_id.id view_id.view)) is ∙ takeover-found view_id.id view_id.view all) h)

pub backup-none : (view_id : ViewId) (all : List BackupView) (column : ColumnState) → column.takeovers ≡ takeovers_of all
    → takeover_of column view_id.id view_id.view ≡ None → backup_of view_id all ≡ None
backup-none view_id all column is none =
    None-from_map (λ (b : BackupView). b.of) (backup_of view_id all)
    (sym (ap (find (is_takeover view_id.id view_id.view)) is ∙ takeover-found view_id.id view_id.view all) ∙ none)

pub pick-there : (f : ℕ) (view_id : ViewId) (all : List BackupView) (p : Pick) → Each (λ b. b.faults ≡ f) all
    → IsSomeAnd (find (is_takeover view_id.id view_id.view) (takeovers_of all)) (λ t. pick f t.state ≡ p)
    → IsSomeAnd (backup_of view_id all) (λ b. pick b.faults b.of.state ≡ p)
pick-there f view_id all p h is =
    by_found (backup_of view_id all) refl (subst (λ o. IsSomeAnd o (λ (t : TakeoverOf). pick f t.state ≡ p)) (takeover-found view_id.id view_id.view all) is)
  where
    by_found : (o : Option BackupView) → backup_of view_id all ≡ o → IsSomeAnd (option_map (λ (b : BackupView). b.of) o) (λ t. pick f t.state ≡ p)
        → IsSomeAnd o (λ b. pick b.faults b.of.state ≡ p)
    by_found None e given = given
    by_found (Some b) e given =
        ap (λ n. pick n b.of.state) (Each-find (λ (x : BackupView). x.faults ≡ f) (λ x. is_takeover view_id.id view_id.view x.of) all b h e) ∙ given

pub pick-some : (f : ℕ) (view_id : ViewId) (all : List BackupView) (b : BackupView) → Each (λ b. b.faults ≡ f) all → backup_of view_id all ≡ Some b
    → option_map (λ t. pick f t.state) (find (is_takeover view_id.id view_id.view) (takeovers_of all)) ≡ Some (pick b.faults b.of.state)
pick-some f view_id all b h found =
    ap (option_map (λ (t : TakeoverOf). pick f t.state)) (takeover-found view_id.id view_id.view all ∙ ap (option_map (λ (x : BackupView). x.of)) found)
    ∙ ap (λ n. Some (pick n b.of.state)) (sym (Each-find (λ (x : BackupView). x.faults ≡ f) (λ x. is_takeover view_id.id view_id.view x.of) all b h found))

-- the takeovers after one of them is changed
pub takeovers-changed : (view_id : ViewId) (h : TakeoverOf → TakeoverOf) (all : List BackupView)
    → takeovers_of (change_backup view_id (on_backup h) all) ≡ change (is_takeover view_id.id view_id.view) h (takeovers_of all)
takeovers-changed view_id h all =
    map-change (λ (b : BackupView). is_takeover view_id.id view_id.view b.of) (on_backup h) (is_takeover view_id.id view_id.view) h (λ (b : BackupView). b.of)
    (λ b. refl) (λ b. refl) all

-- ---- what is done by a pick

abbrev pub picked_by : ℕ → ℕ → TxnId → ℕ → Pick → ColumnState → ColumnState
picked_by f epoch id view (Known outcome) column =
    send (to_all f epoch id view (Decide outcome)) (with_learning (learning id ByTelling outcome) (change_takeover id view closing column))
picked_by f epoch id view (PickLearned outcome) column =
    send (to_all f epoch id view (Decide outcome)) (with_learning (learning id (ByPick view) outcome) (change_takeover id view closing column))
picked_by f epoch id view (PickPropose outcome) column =
    change_takeover id view (takeover_proposing outcome) (send (to_all f epoch id view (Accept outcome)) column)
picked_by f epoch id view (PickShort k) column = column
picked_by f epoch id view (PickUnaccepted k) column = column
picked_by f epoch id view (Unclear ok not_ok) column = column

picked_by-is : (f : ℕ) (id : TxnId) (view : ℕ) (a : AttemptState) (p : Pick) (column : ColumnState)
    → picked_by f a.epoch id view p column ≡ record (picked f view (record a { id = id }) p column) { learned = column.learned ++ by_pick id view p }
picked_by-is f id view a (Known outcome) column = refl
picked_by-is f id view a (PickLearned outcome) column = refl
picked_by-is f id view a (PickPropose outcome) column = none-learned (picked_by f a.epoch id view (PickPropose outcome) column) column.learned
picked_by-is f id view a (PickShort k) column = none-learned column column.learned
picked_by-is f id view a (PickUnaccepted k) column = none-learned column column.learned
picked_by-is f id view a (Unclear ok not_ok) column = none-learned column column.learned

-- the pick is that of the takeover that is found
picked-found : (round : Setting) (id : TxnId) (view : ℕ) (a : AttemptState) (p : Pick) (column : ColumnState) (o : Option TakeoverOf)
    → option_map (λ t. pick round.faults t.state) o ≡ Some p
    → record (picked round.faults view a p column) { learned = column.learned ++ by_pick id view p }
    ≡ record
    (on_some (λ (t : TakeoverOf) col. picked round.faults view a (pick round.faults t.state) col) o column) { learned = column.learned ++ by_takeover round id view o }
picked-found round id view a p column None e = absurd (none-some p e)
picked-found round id view a p column (Some t) e =
    ap (λ x. record (picked round.faults view a x column) { learned = column.learned ++ by_pick id view x }) (sym (same_Some (pick round.faults t.state) p e))

pub pick-state : (round : Setting) (column : ColumnState) (id : TxnId) (view : ℕ) (s : Attempt) (p : Pick) → option_map shown (attempt_of column id) ≡ Some s
    → option_map (λ t. pick round.faults t.state) (takeover_of column id view) ≡ Some p
    → picked_by round.faults s.epoch id view p column ≡ column_after round column (PickStep id view)
pick-state round column id view s p found is = by_found (attempt_of column id) refl found
  where
    by_found : (o : Option AttemptState) → attempt_of column id ≡ o → option_map shown o ≡ Some s
        → picked_by round.faults s.epoch id view p column ≡ record (on_some (picking round view) o column) { learned = column.learned ++ by_takeover round id view (takeover_of column id view) }
    by_found None there e = absurd (none-some s e)
    by_found (Some a) there e =
        ap (λ (x : Attempt). picked_by round.faults x.epoch id view p column) (sym (same_Some (shown a) s e))
        ∙ picked_by-is round.faults id view a p column
        ∙ picked-found round id view (record a { id = id }) p column (takeover_of column id view) is
        ∙ ap (λ i. record (picking round view (record a { id = i }) column) { learned = column.learned ++ by_takeover round id view (takeover_of column id view) }) (sym (attempt_of-id column id a there))

pub takeover-state : (round : Setting) (column : ColumnState) (id : TxnId) (view : ℕ) (s : Attempt) → option_map shown (attempt_of column id) ≡ Some s
    → send (to_all round.faults s.epoch id view Ask) (record column { takeovers = column.takeovers ++ (backup_begun round.faults id view).of ∷ [] }) ≡ column_after round column (Takeover id view)
takeover-state round column id view s found = by_found (attempt_of column id) refl found
  where
    begun : ℕ → TxnId → ColumnState
    begun epoch i = send (to_all round.faults epoch i view Ask) (record column { takeovers = column.takeovers ++ (backup_begun round.faults i view).of ∷ [] })

    by_found : (o : Option AttemptState) → attempt_of column id ≡ o → option_map shown o ≡ Some s
        → begun s.epoch id ≡ record (on_some (taken_over round.faults view) o column) { learned = column.learned ++ [] }
    by_found None there e = absurd (none-some s e)
    by_found (Some a) there e =
        ap (λ (x : Attempt). begun x.epoch id) (sym (same_Some (shown a) s e)) ∙ ap (begun a.epoch) (sym (attempt_of-id column id a there))
        ∙ none-learned (begun a.epoch a.id) column.learned

-- ---- what is heard

-- a takeover that is there is made for the column's replicas
pub backup-sized : (f r : ℕ) (view_id : ViewId) (all : List BackupView) → Each (λ b. b.faults ≡ f) all → r < members f → IsSome (backup_of view_id all)
    → IsSomeAnd (backup_of view_id all) (λ b. r < members b.faults)
backup-sized f r view_id all h lt there = by_found (backup_of view_id all) refl there
  where
    by_found : (o : Option BackupView) → backup_of view_id all ≡ o → IsSome o → IsSomeAnd o (λ b. r < members b.faults)
    by_found None e k = absurd (cc k)
    by_found (Some b) e k =
        subst (λ n. r < members n) (sym (Each-find (λ (x : BackupView). x.faults ≡ f) (λ x. is_takeover view_id.id view_id.view x.of) all b h e)) lt

-- an answer that is not heard teaches nothing
pub unheard-teaches : (round : Setting) (column : ColumnState) (msg : Msg) (body : Body) → goes_to_replica body ≡ false → is_heard round column msg ≡ false
    → by_message round column msg body ≡ []
unheard-teaches round column msg (Voted vote) goes e = refl
unheard-teaches round column msg AcceptedBody goes e = refl
unheard-teaches round column msg (ToldBody told) goes e = cond-false _ _ _ e
unheard-teaches round column msg (MovedBody moved) goes e = cond-false _ _ _ e
unheard-teaches round column msg (ValidateBody mark) goes e = absurd (cc goes)
unheard-teaches round column msg (Accept outcome) goes e = absurd (cc goes)
unheard-teaches round column msg (Decide outcome) goes e = absurd (cc goes)
unheard-teaches round column msg Ask goes e = absurd (cc goes)

-- a view above 0 whose takeover is not there or not led hears nothing
pub unheard-state : (round : Setting) (column : ColumnState) (msg : Msg) → (msg.view == 0) ≡ false → goes_to_replica msg.body ≡ false
    → (is_led round msg.epoch msg.view && is_some (takeover_of column msg.id msg.view)) ≡ false
    → column ≡ heard_taken round msg column
unheard-state round column msg above goes e = by_led (is_led round msg.epoch msg.view) (takeover_of column msg.id msg.view) refl refl e
  where
    to_takeover : answer_taken round msg column ≡ takeover_heard round msg column
    to_takeover = cond-false _ _ _ above

    silent : column ≡ takeover_heard round msg column → is_heard round column msg ≡ false → column ≡ heard_taken round msg column
    silent same unheard =
        none-learned column column.learned
        ∙ ap (λ (l : List Learning). record column { learned = column.learned ++ l }) (sym (unheard-teaches round column msg msg.body goes unheard))
        ∙ ap (λ (after : ColumnState). record after { learned = column.learned ++ by_message round column msg msg.body }) (same ∙ sym to_takeover)

    by_led : (b : Bool) (o : Option TakeoverOf) → is_led round msg.epoch msg.view ≡ b → takeover_of column msg.id msg.view ≡ o → (b && is_some o) ≡ false
        → column ≡ heard_taken round msg column
    by_led false o led there k =
        silent (sym (cond-false _ _ _ led)) (cond-false _ _ _ above ∙ ap (λ b. b && passes (λ t. not t.closed) (takeover_of column msg.id msg.view)) led)
    by_led true None led there k =
        silent (sym (ap (λ b. cond b (change_takeover msg.id msg.view (takeover_answered msg.replica msg.body) column) column) led
        ∙ ap (λ (all : List TakeoverOf). record column { takeovers = all }) (change-none (is_takeover msg.id msg.view) (takeover_answered msg.replica msg.body) column.takeovers there)))
        (cond-false _ _ _ above ∙ ap (λ b. b && passes (λ t. not t.closed) (takeover_of column msg.id msg.view)) led ∙ ap (passes (λ (t : TakeoverOf). not t.closed)) there)
    by_led true (Some t) led there k = absurd (cc k)

-- the attempt of a takeover that is there is known
pub taker-known : (view_id : ViewId) (all : List BackupView) (attempts : List BegunView) → Each (λ b. IsSome (begun_of b.of.id attempts)) all
    → IsSome (backup_of view_id all) → IsSome (begun_of view_id.id attempts)
taker-known view_id all attempts h there = by_found (backup_of view_id all) refl there
  where
    first-of : (a b : Bool) → (a && b) ≡ true → a ≡ true
    first-of true b e = refl
    first-of false b e = absurd (cc e)

    by_found : (o : Option BackupView) → backup_of view_id all ≡ o → IsSome o → IsSome (begun_of view_id.id attempts)
    by_found None e k = absurd (cc k)
    by_found (Some b) e k =
        let here =
        first-of (same_id b.of.id view_id.id) (b.of.state.view == view_id.view)
        (find-passes (λ (x : BackupView). is_takeover view_id.id view_id.view x.of) all b e) in
        subst (λ i. IsSome (begun_of i attempts)) (same_id-tells b.of.id view_id.id here)
        (Each-find (λ (x : BackupView). IsSome (begun_of x.of.id attempts)) (λ x. is_takeover view_id.id view_id.view x.of) all b h e)
