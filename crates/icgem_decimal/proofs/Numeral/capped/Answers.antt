-- A number that is a million or more stays so with every digit.
use Rattle.std.proofs.Common.{◌++◌, refl, arith, length-append}
use Rattle.icgem_decimal.specs.Decimal.{read_on}
use Rattle.icgem_decimal.proofs.Digits.{value_next}
use Rattle.icgem_decimal.proofs.Numeral.capped.Goals as goal

pub loop-i-init : goal.loop-i-init
unfolding read_on
loop-i-init c = refl

pub loop-i-preserved : goal.loop-i-preserved
loop-i-preserved c =
    let text = c.args.self.whole.now ++ c.args.self.fraction.now in
    let n = length-append c.args.self.whole.now c.args.self.fraction.now in
    omega (
      arith,
      value_next text c.loop-i.i (omega (arith, c.loop-i-test.true, c.len-i-end.ensures)),
      c.min-n.ensures,
      c.from.ensures,
      c.byte_at.ensures.value,
      c.loop-i.invariant,
    )
