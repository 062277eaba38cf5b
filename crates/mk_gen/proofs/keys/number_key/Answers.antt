use Rattle.std.proofs.Common.{◌≡◌, ◌∙◌, List, ℕ, Err, true, refl, sym, ap, subst, arith}
use Rattle.mk_spelling.specs.Words.{is_name}
use Rattle.mk_names.specs.NameLists.{NameList, IsBeyond, with_name}
use Rattle.mk_names.specs.declared.names.NameError.TheVariants as errors
use Rattle.mk_gen.specs.Generated.{AreKeyNames, key_name}
use Rattle.mk_gen.proofs.NumberNames.{number_name, named_more, not_beyond}
use Rattle.mk_gen.proofs.keys.number_key.Goals as goal

pub returns-in-Ok-clause-named : goal.returns-in-Ok-clause-named
returns-in-Ok-clause-named c =
    let text : c.deref.result.now ≡ key_name c.args.key = c.deref.ensures ∙ c.in_ok-name.ensures.ok in
    let grown = named_more 256 c.args.key c.args.names.now.names c.requires.named c.requires.below in
    let new : c.intern.new.self.names ≡ with_name c.args.names.now.names (key_name c.args.key) =
    ap (λ (n : NameList). n.names) c.in-Ok.ensures.names ∙ ap (λ (w : List ℕ). with_name c.args.names.now.names w) text in
    subst (λ (x : List (List ℕ)). AreKeyNames 256 x) (sym new) grown

pub unreachable-requires : goal.unreachable-requires
unreachable-requires c =
    let text : c.deref.result.now ≡ key_name c.args.key = c.deref.ensures ∙ c.in_ok-name.ensures.ok in
    let was : c.intern.result ≡ Err errors.BadName = cc in
    let bad = c.intern.ensures.bad_name.0 was in
    let good : is_name c.deref.result.now ≡ true = ap is_name text ∙ number_name 107 c.args.key refl (omega (arith, c.requires.below)) in
    cc (bad, good)

pub unreachable-requires-in-Err-Full : goal.unreachable-requires-in-Err-Full
unreachable-requires-in-Err-Full c =
    let text : c.deref.result.now ≡ key_name c.args.key = c.deref.ensures ∙ c.in_ok-name.ensures.ok in
    let was : c.intern.result ≡ Err errors.Full = cc in
    let beyond = c.intern.ensures.full.0 was in
    not_beyond c.args.names.now c.args.key c.requires.limit c.requires.named c.requires.below (subst (λ (w : List ℕ). IsBeyond c.args.names.now w) text beyond)
