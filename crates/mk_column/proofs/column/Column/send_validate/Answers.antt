use Rattle.std.proofs.Common.{◌++◌, IsSome, true, refl, sym, ap, ◌∙◌}
use Rattle.mk_words.specs.declared.Body.TheVariants.{Validate as ValidateBody}
use Rattle.mk_column.specs.contracts.column.Column.{the_view}
use Rattle.mk_model.specs.ColumnState.{to_all, send}
use Rattle.mk_column.specs.AttemptsByCode.{begun_of, states_of}
use Rattle.mk_column.specs.ColumnByCode.{ColumnView}
use Rattle.mk_column.proofs.KeptSteps.{IsKept-validates, to_all-there, to_all-heard, to_all-apart}
use Rattle.mk_column.proofs.StepLaws.{begun-there, states-kept}
use Rattle.mk_column.proofs.column.Column.send_validate.Goals as goal

pub validate-requires : goal.validate-requires
validate-requires c =
    begun-there c.args.id c.self.inside.parts.attempts c.args.self.now.state (ap (λ column. column.state.attempts) (sym c.self.view_is)) c.requires

pub invariant_of-self-2 : goal.invariant_of-self-2
invariant_of-self-2 c =
    let msgs = to_all c.self.inside.size c.args.epoch c.args.id 0 (ValidateBody c.args.mark) in
    let there : IsSome (begun_of c.args.id c.self.inside.parts.attempts) =
    begun-there c.args.id c.self.inside.parts.attempts c.args.self.now.state (ap (λ column. column.state.attempts) (sym c.self.view_is)) c.requires in
    IsKept-validates _ c.args.id _ _ _ _ msgs c.validate.ensures (c.send_to_all.ensures ∙ ap (λ all. all ++ msgs) c.reserve.ensures.same)
    (to_all-heard c.self.inside.size c.args.epoch c.args.id c.args.mark) (to_all-apart c.self.inside.size c.args.epoch c.args.id c.args.mark)
    (to_all-there _ _ _ _ _) there c.self.invariant

pub returns-clause-ok : goal.returns-clause-ok
returns-clause-ok c =
    let old = the_view c.self.inside in
    let msgs = to_all c.self.inside.size c.args.epoch c.args.id 0 (ValidateBody c.args.mark) in
    ap (λ all. record old { state = record old.state { attempts = all; link = c.send_to_all.new.link.messages } })
    (ap states_of c.validate.ensures ∙ states-kept c.args.id (λ b. record b { validated = true }) c.self.inside.parts.attempts (λ b. refl))
    ∙ ap (λ all. record old { state = record old.state { link = all } }) (c.send_to_all.ensures ∙ ap (λ all. all ++ msgs) c.reserve.ensures.same)
    ∙ ap (λ (column : ColumnView). record column { state = send (to_all column.setting.faults c.args.epoch c.args.id 0 (ValidateBody c.args.mark)) column.state }) c.self.view_is
