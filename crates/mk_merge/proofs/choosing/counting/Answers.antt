use Rattle.std.proofs.Common.{ap, ◌∙◌, rules, ◌==◌}
use Rattle.std.proofs.lemmas.Fn.{filter_same}
use Rattle.mk_merge.specs.Keepings.{highest_of}
use Rattle.mk_merge.proofs.ChoosingLaws.{counting-kept, states_of}
use Rattle.mk_merge.proofs.choosing.counting.Goals as goal

pub returns : goal.returns
returns g c =
    counting-kept c.in_ok-found.found.items c.retain.new.self.items c.highest-adopted.result _
    (filter_same _ (λ p. p.now.adopted == c.highest-adopted.result) _ (λ x b f t. search rules) _ _ c.retain.ensures.filtered)
    (c.highest-adopted.ensures ∙ ap (λ xs. highest_of (states_of xs)) c.as_slice.ensures.value) c.in_ok-found.ensures
