-- Each byte of the two texts is a digit.
use Rattle.icgem_decimal.proofs.Digits.{digit_front, digit_behind}
use Rattle.icgem_decimal.proofs.Numeral.byte_at.Goals as goal

pub returns-then-i-self-clause-digit : goal.returns-then-i-self-clause-digit
returns-then-i-self-clause-digit c = digit_front _ _ _ c.args.self.are_digits c.if-i-self.true

pub returns-else-i-self-clause-digit : goal.returns-else-i-self-clause-digit
returns-else-i-self-clause-digit c = digit_behind _ _ _ c.args.self.are_digits c.if-i-self.false c.requires
