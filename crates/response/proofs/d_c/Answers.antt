-- The same operations in the same order.
use mathlib.Core.Path.{refl}
use lib.Ieee.{of_bits, round}
use Rattle.response.proofs.d_c.Goals as goal

pub returns : goal.returns
unfolding of_bits round
returns c = refl
