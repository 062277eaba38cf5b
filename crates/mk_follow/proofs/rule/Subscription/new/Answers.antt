use Rattle.std.proofs.Common.{◌≡◌, ◌<◌, ◌+◌, ℕ, Bool, false, List, length, set, get_or, sym, ◌∙◌, subst, arith, of_calls}
use Rattle.std.proofs.lemmas.List.{length-set}
use Rattle.std.proofs.lemmas.List.Edits.{fill_by_more}
use Rattle.mk_follow.specs.Rules.{picks}
use Rattle.mk_follow.proofs.rule.Subscription.new.Goals as goal

filled : (f : ℕ → Bool) (xs : List Bool) (i : ℕ) (y : Bool) → i < length xs → ((k : ℕ) → k < i → get_or xs k false ≡ f k) → y ≡ f i → (k : ℕ) → k < i + 1 → get_or (set xs i y) k false ≡ f k
filled f xs i y inside before here = subst (λ (b : Bool). (k : ℕ) → k < i + 1 → get_or (set xs i b) k false ≡ f k) (sym here) (fill_by_more f xs i false inside before)

pub loop-key-preserved : goal.loop-key-preserved
loop-key-preserved g c =
    let i = c.loop-key.key in
    let xs = c.loop-key.picked in
    let small : i < 256 = omega arith in (
      length-set xs i c.test.result ∙ c.loop-key.invariant.0,
      filled (picks c.args.rule) xs i c.test.result (omega arith) c.loop-key.invariant.1 ((c.requires i small).1 c.test.result (search of_calls)),
    )
