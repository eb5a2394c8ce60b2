-- The digits passed are read.
use Rattle.std.proofs.Common.{◌≡◌, ◌<◌, ◌^◌, ◌++◌, take}
use Rattle.icgem_decimal.specs.Decimal.{value_of}
use Rattle.icgem_decimal.proofs.Numeral.first.Given as goal

abbrev pub invariant-loop-i : goal.invariant-loop-i
invariant-loop-i l = record {
  fits : l.n < 2 ^ 64;
  read : l.n ≡ value_of (take l.i (l.self.whole.now ++ l.self.fraction.now));
}
