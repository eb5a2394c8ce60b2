-- The search of the whole table is the search of the lines not yet passed.
use Rattle.std.proofs.Common.{◌≡◌, drop}
use Rattle.lines.specs.Lines.{printed, sought_from, find_line}
use Rattle.lines.proofs.find_line.Given as goal

abbrev pub invariant-loop-index : goal.invariant-loop-index
invariant-loop-index l = find_line l.number ≡ sought_from l.number l.index (drop l.index printed)
