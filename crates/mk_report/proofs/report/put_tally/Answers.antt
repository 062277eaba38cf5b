use Rattle.std.proofs.Common.{◌≡◌, ◌++◌, subst}
use Rattle.std.specs.Prelude.{OnOk}
use Rattle.std.specs.String.{string_bytes}
use Rattle.mk_run.specs.declared.line.Tally.{Tally}
use Rattle.mk_report.specs.ReportTexts.{end_text}
use Rattle.mk_report.proofs.report.put_tally.Goals as goal

pub returns : goal.returns
returns c =
    subst (λ (t : Tally). OnOk c.put_end.result (string_bytes c.put_end.new.out ≡ string_bytes c.args.out.now ++ end_text t.commits t.aborts t.opens))
    c.tally-counted.ensures c.put_end.ensures
