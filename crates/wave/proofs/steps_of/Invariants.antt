-- The steps that are left, from the h so far, are all the steps from 1.
use Rattle.std.proofs.Common.{◌≡◌, ◌^◌, ◌≤◌, drop}
use Rattle.wave.specs.Wave.{steps}
use Rattle.wave.proofs.steps_of.Given as goal

abbrev pub invariant-loop-d : goal.invariant-loop-d
invariant-loop-d l = (l.h ≤ 2 ^ 32) × (steps l.y l.h (drop l.d-index l.divisors) ≡ steps l.y (2 ^ 32) l.divisors)
