-- The product is at most 7/8 of 2^64, so that half the divisor can be added; the quotient is at most 2^32.
use Rattle.wave.specs.Wave.{step}
use Rattle.std.proofs.Common.{rules}
use Rattle.wave.proofs.step_of.Goals as goal

pub returns : goal.returns
unfolding step
returns c = search rules
