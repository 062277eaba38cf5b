use Rattle.std.proofs.Common.{◌≡◌, ◌∙◌, sym, ap}
use Rattle.std.specs.Prelude.{nat_le}
use Rattle.std.specs.List.{list_all}
use Rattle.mk_shape.proofs.CountLaws.{few_from_counts, counts_from_few}
use Rattle.mk_shape.proofs.attempts.Attempts.are_few.Goals as goal

pub returns : goal.returns
returns c run rounds counts few fits =
    let all : c.are_few.result ≡ list_all (λ count. nat_le count 16384) c.args.self.now
    = c.are_few.ensures ∙ ap (list_all (λ count. nat_le count 16384)) c.self.view_is in (
      (λ passed. few_from_counts run c.args.self.now rounds counts few fits (sym all ∙ passed)),
      (λ h. all ∙ counts_from_few c.args.self.now rounds counts h),
    )
