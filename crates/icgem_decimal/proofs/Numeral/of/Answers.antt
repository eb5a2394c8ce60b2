-- A whole number is of digits.
use Rattle.std.proofs.Common.{sym, ◌∙◌}
use Rattle.icgem_decimal.proofs.Digits.{whole-digits}
use Rattle.icgem_decimal.proofs.Numeral.of.Goals as goal

pub invariant_of-result : goal.invariant_of-result
invariant_of-result c = record { are_digits = whole-digits _ (sym c.is_whole.ensures ∙ c.if-is_whole.true) }
