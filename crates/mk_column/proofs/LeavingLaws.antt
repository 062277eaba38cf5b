-- How an attempt stands that nobody learned, from what the tables keep.
use Rattle.std.proofs.Common.{◌≡◌, ◌∙◌, ◌<◌, ◌+◌, ℕ, Bool, true, false, refl, sym, ap, subst, List, [], ◌∷◌, ◌++◌, Option, Some, None, if◌then◌else◌, take, length, get_or, add-one}
use Rattle.std.specs.Prelude.{option_map}
use Rattle.std.specs.Option.{option_or}
use Rattle.std.proofs.lemmas.Option.{same_Some, none-some}
use Rattle.std.proofs.Math.Seq.{take-suc}
use Rattle.mk_lists.specs.Among.{Each}
use Rattle.mk_txn.specs.declared.TxnId.{TxnId}
use Rattle.mk_txn.specs.Transactions.{same_id}
use Rattle.mk_model.specs.ColumnState.{ColumnState, AttemptState, TakeoverOf, attempt_of}
use Rattle.mk_history.specs.declared.Left.{Left}
use Rattle.mk_history.specs.declared.Left.TheVariants.{Unread}
use Rattle.mk_history.specs.Leaving.{left_of, left_in_takeover, left_unless_taken_over, last_takeover}
use Rattle.mk_column.specs.TakeoversByCode.{BackupView, last_backup, takeovers_of}

pub last_backup-seen : (id : TxnId) (all : List BackupView) → option_map (λ (b : BackupView). b.of) (last_backup id all) ≡ last_takeover id (takeovers_of all)
last_backup-seen id [] = refl
last_backup-seen id (b ∷ rest) =
    by_last (last_backup id rest) (same_id b.of.id id)
    ∙ ap (λ (o : Option TakeoverOf). option_or o (if same_id b.of.id id then Some b.of else None)) (last_backup-seen id rest)
  where
    by_last : (o : Option BackupView) (here : Bool) →
        option_map (λ (x : BackupView). x.of) (option_or o (if here then Some b else None)) ≡ option_or (option_map (λ (x : BackupView). x.of) o) (if here then Some b.of else None)
    by_last (Some x) here = refl
    by_last None true = refl
    by_last None false = refl

pub last_backup-Each : (P : BackupView → Type 0) (id : TxnId) (all : List BackupView) (b : BackupView) → Each P all → last_backup id all ≡ Some b → P b
last_backup-Each P id [] b h e = absurd (none-some b e)
last_backup-Each P id (x ∷ rest) b h e = by_last (last_backup id rest) (λ y found. last_backup-Each P id rest y h.1 found) (same_id x.of.id id) e
  where
    by_last : (o : Option BackupView) → ((y : BackupView) → o ≡ Some y → P y) → (here : Bool) → option_or o (if here then Some x else None) ≡ Some b → P b
    by_last (Some y) later here is = subst P (same_Some y b is) (later y refl)
    by_last None later true is = subst P (same_Some x b is) h.0
    by_last None later false is = absurd (none-some b is)

-- a takeover of the attempt that begins is the last
pub last_backup-push : (id : TxnId) (all : List BackupView) (b : BackupView) → last_backup id (all ++ b ∷ []) ≡ (if same_id b.of.id id then Some b else last_backup id all)
last_backup-push id [] b = by_here (same_id b.of.id id)
  where
    by_here : (here : Bool) → option_or None (if here then Some b else None) ≡ (if here then Some b else None)
    by_here true = refl
    by_here false = refl
last_backup-push id (x ∷ rest) b =
    ap (λ (o : Option BackupView). option_or o (if same_id x.of.id id then Some x else None)) (last_backup-push id rest b)
    ∙ by_here (same_id b.of.id id)
  where
    by_here : (here : Bool) →
        option_or (if here then Some b else last_backup id rest) (if same_id x.of.id id then Some x else None)
        ≡ (if here then Some b else option_or (last_backup id rest) (if same_id x.of.id id then Some x else None))
    by_here true = refl
    by_here false = refl

-- one place further
pub last_backup-next : (id : TxnId) (all : List BackupView) (i : ℕ) (d : BackupView) → i < length all →
    last_backup id (take (i + 1) all) ≡ (if same_id (get_or all i d).of.id id then Some (get_or all i d) else last_backup id (take i all))
last_backup-next id all i d lt =
    ap (λ (n : ℕ). last_backup id (take n all)) (add-one i) ∙ ap (last_backup id) (take-suc all i d lt) ∙ last_backup-push id (take i all) (get_or all i d)

-- the last takeover after one more, by the test whether it is of the attempt
pub next-last : (id : TxnId) (all : List BackupView) (i : ℕ) (item : BackupView) (here : Bool) (last before : Option BackupView) → i < length all → item ≡ get_or all i item →
    here ≡ same_id item.of.id id → before ≡ last_backup id (take i all) → last ≡ (if here then Some item else before) → last ≡ last_backup id (take (i + 1) all)
next-last id all i item here last before lt at tested so_far is =
    is
    ∙ ap (λ (t : Bool). if t then Some item else before) tested
    ∙ ap (λ (o : Option BackupView). if same_id item.of.id id then Some item else o) so_far
    ∙ ap (λ (x : BackupView). if same_id x.of.id id then Some x else last_backup id (take i all)) at
    ∙ sym (last_backup-next id all i item lt)

pub left-taken : (f : ℕ) (state : ColumnState) (id : TxnId) (a : AttemptState) (t : TakeoverOf) (left : Left) → attempt_of state id ≡ Some a → a.unread ≡ false →
    last_takeover a.id state.takeovers ≡ Some t → left ≡ left_in_takeover f t.state t.state.proposed → option_map (λ (x : AttemptState). left_of f state x) (attempt_of state id) ≡ Some left
left-taken f state id a t left there read last is =
    ap (option_map (λ (x : AttemptState). left_of f state x)) there
    ∙ ap (λ (u : Bool). Some (if u then Unread else left_unless_taken_over f a (last_takeover a.id state.takeovers))) read
    ∙ ap (λ (o : Option TakeoverOf). Some (left_unless_taken_over f a o)) last
    ∙ sym (ap Some is)

pub left-alone : (f : ℕ) (state : ColumnState) (id : TxnId) (a : AttemptState) (left : Left) → attempt_of state id ≡ Some a → a.unread ≡ false →
    last_takeover a.id state.takeovers ≡ None → left ≡ left_unless_taken_over f a None → option_map (λ (x : AttemptState). left_of f state x) (attempt_of state id) ≡ Some left
left-alone f state id a left there read last is =
    ap (option_map (λ (x : AttemptState). left_of f state x)) there
    ∙ ap (λ (u : Bool). Some (if u then Unread else left_unless_taken_over f a (last_takeover a.id state.takeovers))) read
    ∙ ap (λ (o : Option TakeoverOf). Some (left_unless_taken_over f a o)) last
    ∙ sym (ap Some is)

pub left-unread : (f : ℕ) (state : ColumnState) (id : TxnId) (a : AttemptState) → attempt_of state id ≡ Some a → a.unread ≡ true →
    option_map (λ (x : AttemptState). left_of f state x) (attempt_of state id) ≡ Some Unread
left-unread f state id a there unread =
    ap (option_map (λ (x : AttemptState). left_of f state x)) there
    ∙ ap (λ (u : Bool). Some (if u then Unread else left_unless_taken_over f a (last_takeover a.id state.takeovers))) unread
