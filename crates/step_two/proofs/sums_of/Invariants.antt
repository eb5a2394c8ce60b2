-- Each loop keeps the sums of the lines passed, to the end of its band.
use Rattle.step_two.specs.Inner.{Running}
use Rattle.step_two.proofs.sums_of.Given as goal

abbrev pub invariant-loop-i : goal.invariant-loop-i
invariant-loop-i l = Running l.love l.selection l.hour.cosines l.hour.sines l.i l.sums

abbrev pub invariant-loop-i-2 : goal.invariant-loop-i-2
invariant-loop-i-2 l = Running l.love l.selection l.hour.cosines l.hour.sines l.i l.sums

abbrev pub invariant-loop-i-3 : goal.invariant-loop-i-3
invariant-loop-i-3 l = Running l.love l.selection l.hour.cosines l.hour.sines l.i l.sums
