-- By what stands behind the letter.
use Rattle.std.proofs.Common.{ap, ◌∙◌}
use Rattle.icgem_decimal.specs.Decimal.{is_letter, is_minus, unsigned}
use Rattle.icgem_decimal.proofs.Pieces.{rest_none, rest_some}
use Rattle.icgem_decimal.proofs.Words.{exponent_none, exponent_zero, exponent_told}
use Rattle.icgem_decimal.proofs.exponent_of.Goals as goal

pub returns-in_default-clause-exponent : goal.returns-in_default-clause-exponent
returns-in_default-clause-exponent c = exponent_none _ (rest_none c.parted.ensures is_letter (λ k b e. e) c.in_default.is)

pub returns-in_default-clause-parts : goal.returns-in_default-clause-parts
returns-in_default-clause-parts c = exponent_zero _ (rest_none c.parted.ensures is_letter (λ k b e. e) c.in_default.is)

pub returns-in_err-numeral-clause-exponent : goal.returns-in_err-numeral-clause-exponent
returns-in_err-numeral-clause-exponent c =
    rw c.from_residual.ensures
    (exponent_told _ (rest_some c.parted.ensures is_letter (λ k b e. e) c.in-Some.is) c.without_sign.ensures c.in_err-numeral.ensures.whole)

pub returns-clause-exponent : goal.returns-clause-exponent
returns-clause-exponent c =
    exponent_told _ (rest_some c.parted.ensures is_letter (λ k b e. e) c.in-Some.is) c.without_sign.ensures c.in_ok-numeral.ensures.whole

pub returns-clause-parts : goal.returns-clause-parts
returns-clause-parts c =
    let t = rest_some c.parted.ensures is_letter (λ k b e. e) c.in-Some.is in
    let p = c.in_ok-numeral.ensures.parts in
    (c.is_minus.ensures ∙ ap is_minus t.1, rw (p.0, p.1 ∙ c.without_sign.ensures ∙ ap unsigned t.1) at c.capped.ensures)
