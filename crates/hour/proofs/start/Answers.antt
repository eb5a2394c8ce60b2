-- The hour of all phases zero.
use Rattle.hour.specs.Hour.{start_hour}
use Rattle.hour.proofs.start.Goals as goal

pub returns : goal.returns
unfolding start_hour
returns c = c.set_to.ensures
