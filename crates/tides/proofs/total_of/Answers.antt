-- Each turn adds one more wave.
use native.Mathlib.Omega.{arith}
use Rattle.whole.proofs.Counted.{weight_none, weight_more}
use Rattle.tides.proofs.total_of.Goals as goal

pub loop-f-init : goal.loop-f-init
loop-f-init c = (weight_none _, omega arith)

pub loop-f-preserved : goal.loop-f-preserved
loop-f-preserved c =
    let l = c.loop-f in
    (weight_more _ l.f l.invariant.0 c.from-sum.ensures, omega (arith, c.requires.1.each l.f (omega arith)))
