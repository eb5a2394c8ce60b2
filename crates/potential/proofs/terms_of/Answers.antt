-- The two halves together, on the factors and powers that the calls give, are the terms.
use Rattle.powers.specs.Powers.{powers}
use Rattle.potential.specs.Potential.{terms}
use Rattle.potential.specs.Inner.{strengths, paired}
use Rattle.potential.proofs.terms_of.Goals as goal

pub returns : goal.returns
unfolding terms paired strengths powers
returns c = rw (c.paired_of.ensures, c.powers_of.ensures, c.strengths_of-t.ensures, c.norms_of.ensures)
