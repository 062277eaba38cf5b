use Rattle.std.proofs.Common.{◌∙◌, ℕ, ap}
use Rattle.std.specs.List.{count_by}
use Rattle.mk_run.specs.declared.line.Tally.{Tally}
use Rattle.mk_run.specs.Attempts.{is_committed, is_aborted}
use Rattle.mk_report.proofs.report.tally.Goals as goal

pub returns : goal.returns
returns c =
    let xs = c.args.lines.now in
    let commits = count_by (λ line. is_committed line.state) xs in
    let aborts = count_by (λ line. is_aborted line.state) xs in
    let counted : ℕ → ℕ → ℕ → Tally = λ x y z. record { commits = x; aborts = y; opens = z } in
    ap (λ (n : ℕ). counted n c.count_aborts-aborts.result c.count_opens-opens.result) c.count_commits-commits.ensures
    ∙ ap (λ (n : ℕ). counted commits n c.count_opens-opens.result) c.count_aborts-aborts.ensures
    ∙ ap (λ (n : ℕ). counted commits aborts n) c.count_opens-opens.ensures
