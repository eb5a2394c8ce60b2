-- The digits in base ten are the decimal ones.
use Rattle.doodson.specs.Doodson.{multipliers_in, multipliers_written}
use Rattle.doodson.proofs.multipliers_in.Goals as goal

pub returns : goal.returns
unfolding multipliers_in multipliers_written
returns c = c.multipliers_written.ensures
