-- Each literal has the digits of its row.
use mathlib.Core.Path.{refl}
use lib.Ieee.{of_bits, round}
use Rattle.constants.specs.Norms.{roots, norms}
use Rattle.constants.proofs.norms_of.Goals as goal

pub returns : goal.returns
unfolding norms roots of_bits round
returns c = refl
