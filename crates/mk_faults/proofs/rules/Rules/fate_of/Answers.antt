use Rattle.std.proofs.Common.{◌≡◌, ap, ◌∙◌}
use Rattle.std.specs.Option.{unwrap_or}
use Rattle.std.specs.Map.{lookup}
use Rattle.mk_script.specs.declared.lines.Fate.TheVariants.{Deliver}
use Rattle.mk_faults.specs.Indexes.{same_target}
use Rattle.mk_faults.specs.Fates.{fate_of}
use Rattle.mk_faults.proofs.IndexLaws.{fate-kept}
use Rattle.mk_faults.proofs.rules.Rules.fate_of.Goals as goal

pub returns : goal.returns
returns c =
    let kept : c.unwrap_or.result ≡ unwrap_or (lookup (same_target c.new-target.result) c.self.inside.fates.entries) Deliver =
    c.unwrap_or.ensures ∙ ap (λ o. unwrap_or o Deliver) (c.copied.ensures ∙ c.get.ensures.value) in
    kept ∙ ap (λ t. unwrap_or (lookup (same_target t) c.self.inside.fates.entries) Deliver) c.new-target.ensures
    ∙ ap (λ o. unwrap_or o Deliver) (fate-kept c.self.inside.faults.items c.self.inside.fates.entries c.self.invariant.fated c.args.kind c.args.id c.args.replica c.args.nth)
    ∙ ap (λ rules. fate_of rules c.args.kind c.args.id c.args.replica c.args.nth) c.self.view_is
