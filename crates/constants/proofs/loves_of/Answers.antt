-- Each literal has the bits of its decimal, rounded.
use lib.Ieee.{of_bits, neg, round}
use Rattle.constants.specs.Love.{loves}
use Rattle.constants.proofs.loves_of.Goals as goal

pub returns-in-Elastic : goal.returns-in-Elastic
unfolding loves of_bits neg round
returns-in-Elastic c = rw c.in-Elastic.is

pub returns-in-Anelastic : goal.returns-in-Anelastic
unfolding loves of_bits neg round
returns-in-Anelastic c = rw c.in-Anelastic.is
