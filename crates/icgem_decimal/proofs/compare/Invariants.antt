-- The digits passed are alike.
use Rattle.icgem_decimal.proofs.Order.{Agree}
use Rattle.icgem_decimal.proofs.compare.Given as goal

abbrev pub invariant-loop-i : goal.invariant-loop-i
invariant-loop-i l = Agree l.n l.a l.b l.i
