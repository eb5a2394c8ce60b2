-- A number that is a million or more stays so with every digit.
use Rattle.std.proofs.Common.{◌≡◌, ◌++◌, min, take}
use Rattle.icgem_decimal.specs.Decimal.{value_of}
use Rattle.icgem_decimal.proofs.Numeral.capped.Given as goal

abbrev pub invariant-loop-i : goal.invariant-loop-i
invariant-loop-i l = l.n ≡ min (value_of (take l.i (l.self.whole.now ++ l.self.fraction.now))) 1000000
