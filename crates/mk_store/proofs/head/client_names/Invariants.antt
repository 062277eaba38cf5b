-- The names so far.
use Rattle.std.proofs.Common.{◌≡◌, take}
use Rattle.mk_script.specs.Scripts.{names_of}
use Rattle.mk_store.proofs.head.client_names.Given as goal

abbrev pub invariant-loop-line : goal.invariant-loop-line
invariant-loop-line l = l.names ≡ record { names = names_of (take l.line-index l.clients); limit = 64 }
