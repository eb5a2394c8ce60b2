-- Each turn passes one line more, which has no word, is kept, or ends the pass.
use Prim.Native.Nat.{◌+◌, ◌-◌}
use lib.ListN.{length}
use Rattle.icgem_decimal.specs.Decimal.{value_of}
use Rattle.icgem_data.proofs.Pass.{Passed}
use Rattle.icgem_data.proofs.read_lines.Given as goal

abbrev pub invariant-loop-at : goal.invariant-loop-at
invariant-loop-at l = Passed l.text l.from (value_of l.degree) l.at l.lines l.initial.starts l.starts l.initial.c l.initial.s l.c l.s

abbrev pub decreases-loop-at : goal.decreases-loop-at
decreases-loop-at l = length l.text + 1 - l.at
