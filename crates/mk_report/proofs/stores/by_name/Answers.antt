use Rattle.std.proofs.Common.{◌<◌, length, arith}
use Rattle.mk_report.specs.StoreTexts.{by_name}
use Rattle.mk_report.proofs.NameTables.{table_step}
use Rattle.mk_report.proofs.stores.by_name.Goals as goal

pub each-preserved : goal.each-preserved
each-preserved c =
    let within : c.each.number < length c.args.names.now.names = omega (arith, c.each-test.true, c.len-number-end.ensures.count) in
    table_step c.args.names.now.names c.each.number c.each.table.entries c.insert.new.self.entries c.name_of.result (by_name c.args.names.now.names) within c.name_of.ensures c.in_ok-insert.ensures.entries c.each.invariant
