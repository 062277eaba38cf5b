use Rattle.mk_base_tests.proofs.cell.stamps_stand_in_order.Given as goal

-- the counter's ledger is the one that is made for it
abbrev pub ghosts-find : goal.ghosts-find
ghosts-find g a = record { name = a.blank.name; parts = a.blank.parts }
