use Rattle.mk_thread_laws.proofs.Sending.{column_send, driver_send}
use Rattle.mk_thread_laws.proofs.Sharing.{rules_sync}
use Rattle.mk_thread_laws.proofs.columns_cross.Goals as goal

pub returns-clause-column : goal.returns-clause-column
returns-clause-column c = column_send

pub returns-clause-driver : goal.returns-clause-driver
returns-clause-driver c = driver_send

pub returns-clause-rules : goal.returns-clause-rules
returns-clause-rules c = rules_sync
