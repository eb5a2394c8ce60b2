-- Each literal has the bits of its decimal, rounded.
use mathlib.Core.Path.{refl}
use lib.Ieee.{of_bits, round}
use Rattle.constants.specs.Love.{loves3}
use Rattle.constants.proofs.loves_3.Goals as goal

pub returns : goal.returns
unfolding loves3 of_bits round
returns c = refl
