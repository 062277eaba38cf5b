use Rattle.std.proofs.Common.{◌∙◌, ap}
use Rattle.serde_json.specs.Written.{has_float}
use Rattle.mk_report.proofs.NoFloats.{run-none}
use Rattle.mk_report.proofs.whole_json.json_bytes.Goals as goal

pub text_of-requires : goal.text_of-requires
text_of-requires c =
    ap has_float c.in_ok-value.ensures ∙ run-none c.args.clients.now.names c.args.keys.now.names c.args.lines.now c.args.rounds.now c.args.copy.now
