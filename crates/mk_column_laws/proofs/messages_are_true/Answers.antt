use Rattle.mk_column_laws.proofs.TheLaws as laws
use Rattle.mk_column_laws.proofs.messages_are_true.Goals as goal

pub returns : goal.returns
returns c =
    record {
      messages_are_of = laws.messages_are_of;
      accept_is_proposal = laws.accept_is_proposal;
      one_proposal = laws.one_proposal;
      voted_true = laws.voted_true;
      accepted_true = laws.accepted_true;
      told_true = laws.told_true;
      moved_true = laws.moved_true;
      moved_is_later = laws.moved_is_later;
      counts_backed = laws.counts_backed;
      accepted_was_proposed = laws.accepted_was_proposed;
      final_was_sent = laws.final_was_sent;
    }
