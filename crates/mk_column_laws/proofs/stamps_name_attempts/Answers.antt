use Rattle.mk_column_laws.proofs.IdentitySteps as laws
use Rattle.mk_column_laws.proofs.Readings as readings
use Rattle.mk_column_laws.proofs.Itemed as items
use Rattle.mk_column_laws.proofs.stamps_name_attempts.Goals as goal

pub returns : goal.returns
returns c = record { ids_once = laws.ids_once; stamps_name = laws.stamps_name; reads_were_got = readings.reads_were_got; items_fit = items.items_fit }
