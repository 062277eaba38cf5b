-- That the attempt and the view of a takeover tell which it is, and that an answer leaves them.
use Rattle.std.proofs.Common.{◌≡◌, ℕ, Bool, true, false, cond, refl, ap, arith}
use Rattle.std.proofs.lemmas.Bool.Decides.{nat_tests}
use Rattle.mk_column.specs.declared.backup.ViewId.{ViewId}
use Rattle.mk_words.specs.declared.Body.{Body}
use Rattle.mk_model.specs.Answers.{state_answered, takeover_answered}
use Rattle.mk_model.proofs.Parts.{state_answered-view}
use Rattle.mk_column.specs.TakeoversByCode.{BackupView, on_backup, view_id_of, same_view_id}

pub same_view_id-tells : (a b : ViewId) → same_view_id a b ≡ true → a ≡ b
same_view_id-tells a b h =
    let c : a.id.client ≡ b.id.client = grind (arith, nat_tests, h) in
    let s : a.id.seq ≡ b.id.seq = grind (arith, nat_tests, h) in
    let v : a.view ≡ b.view = grind (arith, nat_tests, h) in
    λ i. record { id = record { client = c i; seq = s i }; view = v i }

pub same_view_id-itself : (a : ViewId) → same_view_id a a ≡ true
same_view_id-itself a = grind (arith, nat_tests)

-- an answer leaves the takeover's attempt and view
pub view_id-answered : (r : ℕ) (body : Body) (backup : BackupView) → view_id_of (on_backup (takeover_answered r body) backup) ≡ view_id_of backup
view_id-answered r body backup = by_test backup.of.closed
  where
    by_test : (b : Bool) → view_id_of (on_backup (λ of. cond b of (record of { state = state_answered r body of.state })) backup) ≡ view_id_of backup
    by_test true = refl
    by_test false = ap (λ view. record { id = backup.of.id; view = view }) (state_answered-view r body backup.of.state)
