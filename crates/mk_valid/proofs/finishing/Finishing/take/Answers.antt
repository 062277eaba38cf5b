use Rattle.std.proofs.Common.{◌∙◌, sym, ap, drop, add-one}
use Rattle.mk_words.specs.Validations.{rest_of}
use Rattle.mk_valid.proofs.ProgressLaws.{rest_of-drop}
use Rattle.mk_valid.proofs.finishing.Finishing.take.Goals as goal

pub returns-then-self-len : goal.returns-then-self-len
returns-then-self-len c =
    let acts = c.self.inside.acts.items in
    let done = c.self.inside.done in
    ap (λ k. drop k acts) (add-one done) ∙ (sym (rest_of-drop acts done) ∙ ap rest_of c.self.view_is)
