use Rattle.std.proofs.Common.{◌∙◌, ◌-◌, ap, length}
use Rattle.std.specs.Prelude.{slice_get}
use Rattle.mk_follow.specs.Commits.{CommitsState}
use Rattle.mk_follow.proofs.CommitLaws.{copied-among}
use Rattle.mk_follow.proofs.commits.Commits.last.Goals as goal

pub returns-clause-among : goal.returns-clause-among
returns-clause-among c =
    copied-among c.last.result c.args.self.now.commits _
    (c.last.ensures.value ∙ ap (λ xs. slice_get xs (length c.deref.result.now - 1)) (c.deref.ensures.value ∙ ap (λ (s : CommitsState). s.commits) c.self.view_is))
