-- The logs that are taken from columns, as far as one has come.
use Rattle.std.proofs.Common.{◌≡◌, ℕ, ◌+◌, sym, ap, ◌∙◌, List, [], ◌∷◌, ◌++◌, Some, map, take}
use Rattle.std.specs.Prelude.{slice_get}
use Rattle.std.specs.Global.{Vec}
use Rattle.std.proofs.lemmas.List.{map-append}
use Rattle.mk_words.specs.declared.Step.{Step}
use Rattle.mk_column.specs.ColumnByCode.{ColumnView}
use Rattle.mk_workers.specs.Worked.{logs_of}
use Rattle.mk_round.proofs.Loops.{take_next}

-- what lists hold
abbrev pub items_of : List (Vec Step) → List (List Step)
items_of logs = map (λ (log : Vec Step). log.items) logs

pub logs_more : (columns : List ColumnView) (i : ℕ) (column : ColumnView) (logs more : List (Vec Step)) (log : Vec Step) → items_of logs ≡ logs_of (take i columns) →
    slice_get columns i ≡ Some column → log.items ≡ column.log → more ≡ logs ++ log ∷ [] → items_of more ≡ logs_of (take (i + 1) columns)
logs_more columns i column logs more log so_far at is more_is =
    ap items_of more_is
    ∙ map-append (λ (l : Vec Step). l.items) logs (log ∷ [])
    ∙ ap (λ (ls : List (List Step)). ls ++ log.items ∷ []) so_far
    ∙ ap (λ (l : List Step). logs_of (take i columns) ++ l ∷ []) is
    ∙ sym (map-append (λ (c : ColumnView). c.log) (take i columns) (column ∷ []))
    ∙ ap logs_of (sym (take_next columns i column at))
