-- Each byte is a digit.
use Rattle.std.proofs.Common.{◌∙◌, rules}
use borrow.Author.Tests.{tests}
use Rattle.std.proofs.lemmas.Iterator.{YieldsList-from_slice}
use Rattle.std.proofs.lemmas.Iterator.Search.{all_from_yields_List}
use Rattle.icgem_decimal.specs.Decimal.{is_digit}
use Rattle.icgem_decimal.proofs.Digits.{all_listed}
use Rattle.icgem_decimal.proofs.all_digits.Goals as goal

pub returns : goal.returns
returns c = all_from_yields_List is_digit _ _ _ c.all.ensures.ran (YieldsList-from_slice c.args.text.now cc) (λ x b q k. search (rules, tests)) ∙ all_listed _
