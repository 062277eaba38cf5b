-- The lines so far were done.
use Rattle.std.proofs.Common.{List, take}
use Rattle.mk_history.specs.declared.RoundLog.{RoundLog}
use Rattle.mk_script.specs.Scripts.{ScriptParts}
use Rattle.mk_store.specs.Globals.{MayDoLines, WereDone}
use Rattle.mk_store.proofs.globals.do_lines.Given as goal

abbrev pub invariant-loop-line : goal.invariant-loop-line
invariant-loop-line g l =
    (script : ScriptParts) (done : List RoundLog) (round : RoundLog) → MayDoLines g.W.EpochWord.kept script done round l.head l.fn.store l.lines l.fn.words →
    WereDone g.W.EpochWord.kept g.W.EpochWord.faults script done round l.fn.store l.store (take l.line-index l.lines) l.fn.words l.words l.entries.items
