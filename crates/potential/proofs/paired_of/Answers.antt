-- Each is its own t times the power of its order.
use Rattle.potential.specs.Inner.{paired}
use Rattle.potential.proofs.paired_of.Goals as goal

pub returns : goal.returns
unfolding paired
returns c = λ i. record {
  t20 = c.times.ensures i;
  t21 = c.times-2.ensures i;
  t22 = c.times-3.ensures i;
  t30 = c.times-4.ensures i;
  t31 = c.times-5.ensures i;
  t32 = c.times-6.ensures i;
  t33 = c.times-7.ensures i;
}
