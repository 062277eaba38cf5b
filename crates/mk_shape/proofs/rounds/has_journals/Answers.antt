use Rattle.std.proofs.Common.{◌∙◌, ap, ◌&&◌, eqb, length}
use Rattle.std.specs.List.{list_all}
use Rattle.mk_quorum.specs.Sizes.{members}
use Rattle.mk_shape.proofs.RoundLaws.{lengths_kept}
use Rattle.mk_shape.proofs.rounds.has_journals.Goals as goal

pub returns : goal.returns
returns c =
    c.have_journals.ensures
    ∙ ap (λ n. eqb (length c.as_slice.result.now) n && list_all (λ row. eqb (length row.items) c.len-keys.result) c.as_slice.result.now) c.n-members.ensures
    ∙ ap (λ n. eqb (length c.as_slice.result.now) (members c.args.head.now.size) && list_all (λ row. eqb (length row.items) n) c.as_slice.result.now) c.len-keys.ensures.count
    ∙ lengths_kept (λ keys. keys.items) (λ key. key.items) (members c.args.head.now.size) (length c.args.head.now.key_names.names) c.as_slice.result.now
    ∙ ap (λ rows. eqb (length rows) (members c.args.head.now.size) && list_all (λ keys. eqb (length keys) (length c.args.head.now.key_names.names)) rows) c.as_slice.ensures
