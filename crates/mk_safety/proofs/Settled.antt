-- What a base's marks cover was settled by the end of the run's last log, and so it is at the run's end.
use Rattle.std.proofs.Common.{sym, [], subst}
use Rattle.std.proofs.lemmas.List.{append-nil}
use Rattle.mk_lists.specs.Among.{Among}
use Rattle.mk_lists.proofs.Lookups.{find_tells}
use Rattle.mk_lists.proofs.Members.{Among-map}
use Rattle.mk_txn.proofs.IdOrder.{same_id-tells}
use Rattle.mk_model.specs.ColumnState.{is_attempt}
use Rattle.mk_model.specs.Logs.{not_reading}
use Rattle.mk_history.specs.Safety.{IsSettled}
use Rattle.mk_history.specs.Wholes.{last_state, column_of}
use Rattle.mk_run_laws.specs.Ends.{last_moment}
use Rattle.mk_run_laws.specs.Joins.{EndsJoin, ColumnsAreNumbered}
use Rattle.mk_base_laws.specs.Marks.{SettledIn, BaseMarks}
use Rattle.mk_safety.specs.Settled.{MarksAreCovered}

pub marks_are_covered : BaseMarks → EndsJoin → ColumnsAreNumbered → MarksAreCovered
marks_are_covered marks join columns run legal base id there one covered =
    settled (marks run legal run.rounds [] (sym (append-nil run.rounds)) base there id one covered)
  where
    settled : SettledIn run run.rounds id → IsSettled run id
    settled s =
        let m = last_moment run s.column in
        let f = find_tells (is_attempt id) m.column.attempts s.attempt s.found in
        record {
          column = column_of (last_state run) s.column;
          in_run = (columns run run.rounds).there s.column s.in_run;
          attempt = not_reading s.attempt;
          in_column = subst (Among (not_reading s.attempt)) (sym (join run s.column s.in_run run.rounds).attempts) (Among-map not_reading s.attempt m.column.attempts f.0);
          same_attempt = same_id-tells s.attempt.id id f.1;
          settled = s.settled;
        }
