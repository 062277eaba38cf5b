use Rattle.mk_merge_laws.proofs.Composed as laws
use Rattle.mk_merge_laws.proofs.Reports as reports
use Rattle.mk_merge_laws.proofs.Taking as taking
use Rattle.mk_merge_laws.proofs.candidates_give_way.Goals as goal

pub returns : goal.returns
returns c =
    record {
      rejected_conflict = laws.rejected_conflict;
      candidates_fit = laws.candidates_fit;
      ok_reports_mean = reports.ok_reports_mean;
      conflict_is_mutual = taking.conflict_is_mutual;
    }
