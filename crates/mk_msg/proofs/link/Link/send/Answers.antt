use Rattle.std.proofs.Common.{◌≡◌, ◌+◌, ◌++◌, ◌∷◌, [], Some, cond, sym, ap, ◌∙◌, arith, rules, length}
use Rattle.std.specs.Map.{lookup}
use Rattle.mk_msg.specs.declared.link.Stream.{Stream}
use Rattle.mk_words.specs.Links.{kind_of, count_of, place_in}
use Rattle.mk_msg.specs.Indexes.{stream_of, same_stream}
use Rattle.mk_msg.proofs.IndexLaws.{count_of-le, IsIndexed-sent}
use Rattle.mk_msg.proofs.link.Link.send.Goals as goal

pub overflow_add-place : goal.overflow_add-place
overflow_add-place c =
    let few = count_of-le c.reserve.new.self.messages c.kind-kind.result c.args.msg.id c.args.msg.replica in
    let view : c.reserve.new.self.messages ≡ c.self.inside.messages.items = ap (λ link. link.messages) (sym c.self.view_is) in
    let number : c.len-number.result ≡ length c.self.inside.messages.items + 1 = search rules in
    omega (arith, c.count-before.ensures, few, ap length view, number, c.len-number.type_inv)

pub invariant_of-self : goal.invariant_of-self
invariant_of-self c =
    let messages = c.self.inside.messages.items in
    let places = c.self.inside.places.items in
    let old = c.self.inside.counts.entries in
    let stream : c.new-stream.result ≡ stream_of (kind_of c.args.msg.body) c.args.msg.id c.args.msg.replica =
    c.new-stream.ensures ∙ ap (λ kind. stream_of kind c.args.msg.id c.args.msg.replica) c.kind-kind.ensures in
    let view : c.reserve.new.self.messages ≡ messages = ap (λ link. link.messages) (sym c.self.view_is) in
    let place : c.count-before.result + 1 ≡ place_in messages c.args.msg + 1 =
    ap (λ n. n + 1) (c.count-before.ensures ∙ ap (λ ms. count_of ms c.kind-kind.result c.args.msg.id c.args.msg.replica) view ∙ ap (λ kind. count_of messages kind c.args.msg.id c.args.msg.replica) c.kind-kind.ensures) in
    let puts : (q : Stream) → lookup (same_stream q) c.insert.new.self.entries ≡ cond (same_stream c.new-stream.result q) (Some (c.count-before.result + 1)) (lookup (same_stream q) old) = search rules in
    let pushed : c.push.new.self.items ≡ messages ++ c.args.msg ∷ [] = search rules in
    let placed : c.push-2.new.self.items ≡ places ++ (c.count-before.result + 1) ∷ [] = search rules in
    rw (pushed, placed) (IsIndexed-sent messages c.args.msg places old c.insert.new.self.entries c.new-stream.result (c.count-before.result + 1) stream place puts c.self.invariant)
