-- Each order falls back on the order before, whose E and F are what the recurrences say.
use native.Mathlib.Omega.{arith}
use Rattle.powers.proofs.Steps.{started, raised}
use Rattle.powers.proofs.+even_power_odd_power.Goals as goal

pub even_power-returns-then-m-eq0 : goal.even_power-returns-then-m-eq0
even_power-returns-then-m-eq0 t c = started _ _ _ c.if-m-eq0.true

pub even_power-returns-else-m-eq0 : goal.even_power-returns-else-m-eq0
even_power-returns-else-m-eq0 t c = raised _ _ _ (omega arith) _ _ c.odd_power.ensures c.next_of.ensures

pub odd_power-returns : goal.odd_power-returns
odd_power-returns t c = raised _ _ _ (omega arith) _ _ c.even_power.ensures c.next_of.ensures
