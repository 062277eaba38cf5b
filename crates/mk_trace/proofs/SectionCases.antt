-- The places at which a line may come.
use Rattle.std.proofs.Common.{◌≡◌, ◌⊎◌, true, refl, inl, inr}
use Rattle.mk_trace_text.specs.declared.section.Section.{Section}
use Rattle.mk_trace_text.specs.declared.section.Section.TheVariants as sections
use Rattle.mk_trace_text.specs.Grammar.{at_start, at_size, in_clients, in_keys, before_column, before_cell, at_end, before_round, in_log, in_journal, in_changes}

pub start_is : (x : Section) → at_start x ≡ true → (x ≡ sections.Start)
start_is sections.Start e = refl
start_is sections.Opened e = absurd cc
start_is sections.Clients e = absurd cc
start_is sections.Keys e = absurd cc
start_is sections.Round e = absurd cc
start_is sections.Column e = absurd cc
start_is sections.Log e = absurd cc
start_is sections.Cell e = absurd cc
start_is sections.Journal e = absurd cc
start_is sections.Globals e = absurd cc
start_is sections.Changes e = absurd cc
start_is sections.Ended e = absurd cc

pub size_is : (x : Section) → at_size x ≡ true → (x ≡ sections.Opened)
size_is sections.Start e = absurd cc
size_is sections.Opened e = refl
size_is sections.Clients e = absurd cc
size_is sections.Keys e = absurd cc
size_is sections.Round e = absurd cc
size_is sections.Column e = absurd cc
size_is sections.Log e = absurd cc
size_is sections.Cell e = absurd cc
size_is sections.Journal e = absurd cc
size_is sections.Globals e = absurd cc
size_is sections.Changes e = absurd cc
size_is sections.Ended e = absurd cc

pub clients_are : (x : Section) → in_clients x ≡ true → (x ≡ sections.Clients)
clients_are sections.Start e = absurd cc
clients_are sections.Opened e = absurd cc
clients_are sections.Clients e = refl
clients_are sections.Keys e = absurd cc
clients_are sections.Round e = absurd cc
clients_are sections.Column e = absurd cc
clients_are sections.Log e = absurd cc
clients_are sections.Cell e = absurd cc
clients_are sections.Journal e = absurd cc
clients_are sections.Globals e = absurd cc
clients_are sections.Changes e = absurd cc
clients_are sections.Ended e = absurd cc

pub keys_are : (x : Section) → in_keys x ≡ true → (x ≡ sections.Clients) ⊎ (x ≡ sections.Keys)
keys_are sections.Start e = absurd cc
keys_are sections.Opened e = absurd cc
keys_are sections.Clients e = inl refl
keys_are sections.Keys e = inr refl
keys_are sections.Round e = absurd cc
keys_are sections.Column e = absurd cc
keys_are sections.Log e = absurd cc
keys_are sections.Cell e = absurd cc
keys_are sections.Journal e = absurd cc
keys_are sections.Globals e = absurd cc
keys_are sections.Changes e = absurd cc
keys_are sections.Ended e = absurd cc

pub column_are : (x : Section) → before_column x ≡ true → (x ≡ sections.Round) ⊎ (x ≡ sections.Log)
column_are sections.Start e = absurd cc
column_are sections.Opened e = absurd cc
column_are sections.Clients e = absurd cc
column_are sections.Keys e = absurd cc
column_are sections.Round e = inl refl
column_are sections.Column e = absurd cc
column_are sections.Log e = inr refl
column_are sections.Cell e = absurd cc
column_are sections.Journal e = absurd cc
column_are sections.Globals e = absurd cc
column_are sections.Changes e = absurd cc
column_are sections.Ended e = absurd cc

pub cell_are : (x : Section) → before_cell x ≡ true → (x ≡ sections.Round) ⊎ ((x ≡ sections.Log) ⊎ (x ≡ sections.Journal))
cell_are sections.Start e = absurd cc
cell_are sections.Opened e = absurd cc
cell_are sections.Clients e = absurd cc
cell_are sections.Keys e = absurd cc
cell_are sections.Round e = inl refl
cell_are sections.Column e = absurd cc
cell_are sections.Log e = inr (inl refl)
cell_are sections.Cell e = absurd cc
cell_are sections.Journal e = inr (inr refl)
cell_are sections.Globals e = absurd cc
cell_are sections.Changes e = absurd cc
cell_are sections.Ended e = absurd cc

pub end_are : (x : Section) → at_end x ≡ true → (x ≡ sections.Round) ⊎ ((x ≡ sections.Log) ⊎ ((x ≡ sections.Journal) ⊎ (x ≡ sections.Changes)))
end_are sections.Start e = absurd cc
end_are sections.Opened e = absurd cc
end_are sections.Clients e = absurd cc
end_are sections.Keys e = absurd cc
end_are sections.Round e = inl refl
end_are sections.Column e = absurd cc
end_are sections.Log e = inr (inl refl)
end_are sections.Cell e = absurd cc
end_are sections.Journal e = inr (inr (inl refl))
end_are sections.Globals e = absurd cc
end_are sections.Changes e = inr (inr (inr refl))
end_are sections.Ended e = absurd cc

pub log_are : (x : Section) → in_log x ≡ true → (x ≡ sections.Column) ⊎ (x ≡ sections.Log)
log_are sections.Start e = absurd cc
log_are sections.Opened e = absurd cc
log_are sections.Clients e = absurd cc
log_are sections.Keys e = absurd cc
log_are sections.Round e = absurd cc
log_are sections.Column e = inl refl
log_are sections.Log e = inr refl
log_are sections.Cell e = absurd cc
log_are sections.Journal e = absurd cc
log_are sections.Globals e = absurd cc
log_are sections.Changes e = absurd cc
log_are sections.Ended e = absurd cc

pub journal_are : (x : Section) → in_journal x ≡ true → (x ≡ sections.Cell) ⊎ (x ≡ sections.Journal)
journal_are sections.Start e = absurd cc
journal_are sections.Opened e = absurd cc
journal_are sections.Clients e = absurd cc
journal_are sections.Keys e = absurd cc
journal_are sections.Round e = absurd cc
journal_are sections.Column e = absurd cc
journal_are sections.Log e = absurd cc
journal_are sections.Cell e = inl refl
journal_are sections.Journal e = inr refl
journal_are sections.Globals e = absurd cc
journal_are sections.Changes e = absurd cc
journal_are sections.Ended e = absurd cc

pub changes_are : (x : Section) → in_changes x ≡ true → (x ≡ sections.Globals) ⊎ (x ≡ sections.Changes)
changes_are sections.Start e = absurd cc
changes_are sections.Opened e = absurd cc
changes_are sections.Clients e = absurd cc
changes_are sections.Keys e = absurd cc
changes_are sections.Round e = absurd cc
changes_are sections.Column e = absurd cc
changes_are sections.Log e = absurd cc
changes_are sections.Cell e = absurd cc
changes_are sections.Journal e = absurd cc
changes_are sections.Globals e = inl refl
changes_are sections.Changes e = inr refl
changes_are sections.Ended e = absurd cc

pub round_are : (x : Section) → before_round x ≡ true → (x ≡ sections.Clients) ⊎ ((x ≡ sections.Keys) ⊎ (at_end x ≡ true))
round_are sections.Start e = absurd cc
round_are sections.Opened e = absurd cc
round_are sections.Clients e = inl refl
round_are sections.Keys e = inr (inl refl)
round_are sections.Round e = inr (inr refl)
round_are sections.Column e = absurd cc
round_are sections.Log e = inr (inr refl)
round_are sections.Cell e = absurd cc
round_are sections.Journal e = inr (inr refl)
round_are sections.Globals e = absurd cc
round_are sections.Changes e = inr (inr refl)
round_are sections.Ended e = absurd cc
