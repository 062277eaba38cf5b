use Rattle.std.proofs.Common.{◌≡◌, ◌++◌, ℕ, List, ap, ◌∙◌}
use Rattle.std.specs.Fmt.{decimal}
use Rattle.std.specs.List.{flat_map}
use Rattle.std.specs.String.{string_bytes}
use Rattle.mk_proc.specs.declared.Item.{Item}
use Rattle.mk_script.specs.Printed.{client_name, item_text, txn_head}
use Rattle.mk_script.proofs.PrintedLaws.{txn_bytes}
use Rattle.mk_script.proofs.printing.put_txn.Goals as goal

pub returns : goal.returns
returns c =
    let out = string_bytes c.args.out.now in
    let keys = c.args.keys.now.names in
    let name = client_name c.args.clients.now c.args.txn.now.client in
    let head : string_bytes c.put_txn_head.new.out ≡ out ++ txn_head name c.args.txn.now.clock =
    c.in_ok-put_txn_head.ensures ∙ ap (λ (x : List ℕ). out ++ txn_head x c.args.txn.now.clock) c.client_name.ensures in
    let items : string_bytes c.put_items.new.out ≡ string_bytes c.put_txn_head.new.out ++ flat_map (item_text keys) c.args.txn.now.items =
    c.in_ok-put_items.ensures ∙ ap (λ (x : List Item). string_bytes c.put_txn_head.new.out ++ flat_map (item_text keys) x) c.as_slice.ensures in
    txn_bytes out name (decimal c.args.txn.now.clock) keys c.args.txn.now.items (string_bytes c.put_txn_head.new.out) (string_bytes c.put_items.new.out) (string_bytes c.writeln.new.self) head items c.in_ok-writeln.ensures.bytes
