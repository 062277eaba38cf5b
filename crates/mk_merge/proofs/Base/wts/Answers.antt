use Rattle.std.proofs.Common.{List, ap, ◌∙◌}
use Rattle.mk_words.specs.declared.Fated.{Fated}
use Rattle.mk_words.specs.Bases.{commits_in}
use Rattle.mk_merge_laws.specs.Lefts.{LeftState, nothing_left, left_by}
use Rattle.mk_merge_laws.proofs.Lefts.{wts-rebuilt}
use Rattle.mk_merge.proofs.Base.wts.Goals as goal

pub returns : goal.returns
returns c =
    ap (λ (left : LeftState). left.latest.version) (c.left_at-2.view_is ∙ (c.left_at.ensures ∙ ap (λ (list : List Fated). left_by c.args.key nothing_left (commits_in list)) c.list.ensures.value))
    ∙ wts-rebuilt c.args.self.now c.args.key
