use Rattle.mk_cell.proofs.cell.Cell.act.Given as goal

-- the counter's ledger is the one that is made for it
abbrev pub ghosts-act_on : goal.ghosts-act_on
ghosts-act_on a = record { name = a.blank.name; parts = a.blank.parts }
