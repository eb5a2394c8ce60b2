-- Each is its own sum over the divisor of its degree.
use lib.Ieee.{of_bits, round}
use Rattle.potential.specs.Potential.{shared}
use Rattle.potential.proofs.shared_of.Goals as goal

pub returns : goal.returns
unfolding shared of_bits round
returns c = λ i. record {
  t20 = c.divided.ensures i;
  t21 = c.divided-2.ensures i;
  t22 = c.divided-3.ensures i;
  t30 = c.divided-4.ensures i;
  t31 = c.divided-5.ensures i;
  t32 = c.divided-6.ensures i;
  t33 = c.divided-7.ensures i;
}
