-- The sums are what the records read so far add up to, one after the other.
use Rattle.std.proofs.Common.{◌≡◌, Ok}
use Rattle.own.specs.Inner.{summed_to}
use Rattle.own.proofs.sums_of.Given as goal

abbrev pub invariant-loop-line : goal.invariant-loop-line
invariant-loop-line l = summed_to l.phases l.lines l.line-index ≡ Ok l.sums
