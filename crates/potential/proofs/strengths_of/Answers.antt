-- The same operations, in the same order.
use mathlib.Core.Path.{refl}
use lib.Ieee.{of_bits, round}
use Rattle.potential.specs.Inner.{strengths}
use Rattle.potential.proofs.strengths_of.Goals as goal

pub returns : goal.returns
unfolding strengths of_bits round
returns c = refl
