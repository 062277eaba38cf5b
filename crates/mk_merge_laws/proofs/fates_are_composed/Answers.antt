use Rattle.mk_merge_laws.proofs.Composed as laws
use Rattle.mk_merge_laws.proofs.GreatestMarks.{marks_greatest}
use Rattle.mk_merge_laws.proofs.fates_are_composed.Goals as goal

pub returns : goal.returns
returns c =
    record {
      old_stay = laws.old_stay;
      final_stay = laws.final_stay;
      accepted_stay = laws.accepted_stay;
      unsettled = laws.unsettled;
      nothing_else = laws.nothing_else;
      in_order = laws.in_order;
      marks = marks_greatest;
    }
