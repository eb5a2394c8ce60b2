-- Each turn passes a line without the key.
use Prim.Native.Nat.{◌-◌}
use lib.ListN.{length}
use Rattle.icgem_header.proofs.Lines.{Reached}
use Rattle.icgem_header.proofs.find_line.Given as goal

abbrev pub invariant-loop-at : goal.invariant-loop-at
invariant-loop-at l = Reached l.key l.text l.at

abbrev pub decreases-loop-at : goal.decreases-loop-at
decreases-loop-at l = length l.text - l.at
