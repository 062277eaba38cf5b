use Rattle.std.proofs.Common.{List, ℕ, Option, Bor, sym, ap, ◌∙◌}
use Rattle.mk_spelling.specs.Words as spec
use Rattle.mk_spelling.specs.Words.{none_left}
use Rattle.mk_spelling.proofs.Cuts.{some_left}
use Rattle.mk_text.proofs.words.none_left.Goals as goal

pub returns-in-Some : goal.returns-in-Some
returns-in-Some c = sym (ap (λ (o : Option (Bor (List ℕ))). none_left (spec.words_behind o)) c.in-Some.is ∙ some_left c.in-Some.field-0.now)
