use Rattle.std.proofs.Common.{◌≡◌, arith, sym, ◌∙◌, ap, subst, List, [], map, length, replicate}
use Rattle.std.proofs.lemmas.List.{length-map}
use Rattle.std.proofs.lemmas.Result.{IfOk-weaker}
use Rattle.mk_lists.specs.Among.{Each}
use Rattle.mk_quorum.specs.Sizes.{members}
use Rattle.mk_words.specs.declared.JournalEntry.{JournalEntry}
use Rattle.mk_words.specs.declared.Step.{Step}
use Rattle.mk_verdict.specs.Flaws.{flaw_of_logs, flaw_of_journals, flaw_of_matches}
use Rattle.mk_whole.specs.Pairs.{first_in}
use Rattle.mk_whole.specs.Turns.{after_all_steps}
use Rattle.mk_whole.specs.Logs.{flaw_in_column}
use Rattle.mk_state.specs.Cells.{states_of}
use Rattle.mk_whole.specs.Journals.{flaw_at_replica, AreEven}
use Rattle.mk_whole.proofs.PairLaws.{none-not_some}
use Rattle.mk_whole.proofs.WorkLaws.{work-logs, work-journals, matches-by, work-even, flaw-first, flaw-second, flaw-third, rows-few}
use Rattle.mk_whole.proofs.working.replay_work.Goals as goal

pub returns-then-is_some-clause-flaw : goal.returns-then-is_some-clause-flaw
returns-then-is_some-clause-flaw c run state h =
    flaw-first (flaw_of_logs run state c.args.round.now) (flaw_of_journals run state c.args.round.now) (flaw_of_matches run c.args.round.now) c.in_ok-of_logs.of_logs
    (c.in_ok-of_logs.ensures.flaw
    ∙ ap (λ (logs : List (List Step)). first_in flaw_in_column 0 c.args.columns.now.items logs) c.as_slice.ensures
    ∙ work-logs run state c.args.size c.args.keys c.args.columns.now.items (map (λ row. states_of row.items) c.args.cells.now.items) c.args.round.now h)
    (sym c.if-is_some.true ∙ c.is_some.ensures)

pub replay_journals-requires-clause-keys : goal.replay_journals-requires-clause-keys
replay_journals-requires-clause-keys c =
    subst (λ (journals : List (List (List JournalEntry))). AreEven (map (λ row. states_of row.items) c.args.cells.now.items) journals) (sym c.as_slice-journals.ensures)
    (work-even c.requires.0 c.requires.1 c.args.size c.args.keys c.args.columns.now.items (map (λ row. states_of row.items) c.args.cells.now.items) c.args.round.now c.requires.2)

pub returns-then-is_some-2-clause-flaw : goal.returns-then-is_some-2-clause-flaw
returns-then-is_some-2-clause-flaw c run state h =
    flaw-second (flaw_of_logs run state c.args.round.now) (flaw_of_journals run state c.args.round.now) (flaw_of_matches run c.args.round.now) c.in_ok-of_logs.of_logs
    c.in_ok-of_journals.of_journals
    (c.in_ok-of_logs.ensures.flaw
    ∙ ap (λ (logs : List (List Step)). first_in flaw_in_column 0 c.args.columns.now.items logs) c.as_slice.ensures
    ∙ work-logs run state c.args.size c.args.keys c.args.columns.now.items (map (λ row. states_of row.items) c.args.cells.now.items) c.args.round.now h)
    (sym c.if-is_some.false ∙ c.is_some.ensures)
    (c.in_ok-of_journals.ensures.flaw
    ∙ ap (λ (journals : List (List (List JournalEntry))). first_in flaw_at_replica 0 (map (λ row. states_of row.items) c.args.cells.now.items) journals) c.as_slice-journals.ensures
    ∙ work-journals run state c.args.size c.args.keys c.args.columns.now.items (map (λ row. states_of row.items) c.args.cells.now.items) c.args.round.now h)
    (sym c.if-is_some-2.true ∙ c.is_some-2.ensures)

pub match_journals-requires-clause-keys : goal.match_journals-requires-clause-keys
match_journals-requires-clause-keys c =
    rows-few (λ row. row.items) (λ key. key.items) (length c.requires.0.key_names) c.as_slice-journals.result.now c.requires.2.few_keys
    (subst (λ (journals : List (List (List JournalEntry))). Each (λ row. length row ≡ length c.requires.0.key_names) journals) (sym c.as_slice-journals.ensures) c.requires.2.shape.keys)

pub returns-clause-flaw : goal.returns-clause-flaw
returns-clause-flaw c =
    IfOk-weaker c.match_journals.result _ _
    (λ flaw e run state h.
    flaw-third (flaw_of_logs run state c.args.round.now) (flaw_of_journals run state c.args.round.now) (flaw_of_matches run c.args.round.now) c.in_ok-of_logs.of_logs
    c.in_ok-of_journals.of_journals flaw
    (c.in_ok-of_logs.ensures.flaw
    ∙ ap (λ (logs : List (List Step)). first_in flaw_in_column 0 c.args.columns.now.items logs) c.as_slice.ensures
    ∙ work-logs run state c.args.size c.args.keys c.args.columns.now.items (map (λ row. states_of row.items) c.args.cells.now.items) c.args.round.now h)
    (sym c.if-is_some.false ∙ c.is_some.ensures)
    (c.in_ok-of_journals.ensures.flaw
    ∙ ap (λ (journals : List (List (List JournalEntry))). first_in flaw_at_replica 0 (map (λ row. states_of row.items) c.args.cells.now.items) journals) c.as_slice-journals.ensures
    ∙ work-journals run state c.args.size c.args.keys c.args.columns.now.items (map (λ row. states_of row.items) c.args.cells.now.items) c.args.round.now h)
    (sym c.if-is_some-2.false ∙ c.is_some-2.ensures)
    (e
    ∙ matches-by run state c.args.size c.args.keys c.args.columns.now.items (map (λ row. states_of row.items) c.args.cells.now.items) c.args.round.now h c.len-count.result
    (length c.as_slice-journals.result.now) (map (λ row. map (λ journal. journal.items) row.items) c.as_slice-journals.result.now) c.replay_logs.new.turns
    (omega (arith, c.len-count.ensures, c.args.columns.now.ok, h.count))
    c.as_slice-journals.ensures
    (c.in_ok-of_logs.ensures.turns (none-not_some c.in_ok-of_logs.of_logs (sym c.if-is_some.false ∙ c.is_some.ensures))
    ∙ ap (λ (table : List (List (List JournalEntry))). after_all_steps 0 table (map (λ log. log.items) c.as_slice.result.now))
    (c.in_ok-turns.ensures ∙ ap (λ n. replicate n (replicate c.args.keys [])) c.n.ensures ∙ ap (λ f. replicate (members f) (replicate c.args.keys [])) h.faults
    ∙ ap (λ keys. replicate (members run.faults) (replicate keys [])) h.keys_are)
    ∙ ap (λ (logs : List (List Step)). after_all_steps 0 (replicate (members run.faults) (replicate (length run.key_names) [])) logs) c.as_slice.ensures)
    (sym (length-map c.as_slice-journals.result.now (λ row. map (λ journal. journal.items) row.items)))))
    c.match_journals.ensures
