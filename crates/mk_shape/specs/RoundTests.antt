-- The tests of a round's shape.
use Rattle.std.specs.Prelude.{Bool, ◌&&◌, ◌==◌, length}
use Rattle.std.specs.List.{list_all}
use Rattle.mk_quorum.specs.Sizes.{members}
use Rattle.mk_history.specs.declared.RoundLog.{RoundLog}
use Rattle.mk_history.specs.Histories.{History}
use Rattle.mk_history.specs.Shape.{step_fits, entry_fits, global_fits}

-- one test for each part of the shape of a round
abbrev pub round_tests : History → RoundLog → Bool
round_tests run round =
    (length round.logs == run.columns)
    && (((length round.journals == members run.faults) && list_all (λ keys. length keys == length run.key_names) round.journals)
    && (list_all (list_all (step_fits run)) round.logs
    && (list_all (list_all (list_all (entry_fits run))) round.journals && list_all (global_fits run) round.globals)))
