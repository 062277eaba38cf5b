use Rattle.mk_column_laws.proofs.TheLaws as laws
use Rattle.mk_column_laws.proofs.events_are_sorted.Goals as goal

pub returns : goal.returns
returns c =
    record {
      events_move = laws.events_move;
      columns_grow = laws.columns_grow;
      facts_hold = laws.facts_hold;
      entries_change_where_served = laws.entries_change_where_served;
      records_match = laws.records_match;
      records_kept = laws.records_kept;
      record_is_past = laws.record_is_past;
    }
