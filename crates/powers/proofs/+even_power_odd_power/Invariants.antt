-- The order is what falls.
use Rattle.powers.proofs.+even_power_odd_power.Given as goal

abbrev pub decreases-even_power : goal.decreases-even_power
decreases-even_power l = l.m

abbrev pub decreases-odd_power : goal.decreases-odd_power
decreases-odd_power l = l.m
