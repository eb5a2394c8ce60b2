-- Each order follows from the one before.
use Rattle.powers.proofs.Steps.{in_turn}
use Rattle.powers.proofs.powers_of.Goals as goal

pub returns : goal.returns
returns c = in_turn _ _ _ _ _ _ c.even_power-p0.ensures c.odd_power-p1.ensures c.next_of-p2.ensures c.next_of-p3.ensures
