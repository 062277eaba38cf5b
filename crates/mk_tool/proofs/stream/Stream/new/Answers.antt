use Rattle.mk_tool.proofs.StreamLaws.{begun}
use Rattle.mk_tool.proofs.stream.Stream.new.Goals as goal

pub returns : goal.returns
returns c = begun c.new.result c.new.ensures
