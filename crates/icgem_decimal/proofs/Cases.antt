-- Worked examples: words that are decimals, their values in units of 10^-15, and words that are none.
use Rattle.std.proofs.Common.{◌≡◌, true, false, pos, negsuc, refl}
use Rattle.text.specs.Text.{ascii}
use Rattle.whole.specs.Nearest.{signed, nearest}
use Rattle.icgem_words.specs.Words.{on_first, pieces}
use Rattle.icgem_decimal.specs.Decimal.{all_digits, is_empty, is_whole, read_on, value_of, is_minus, unsigned, is_exponent, is_mantissa, is_decimal, exponent_up, exponent_down, in_units}

pub record Values : Type 0 where
  pub one : in_units 15 (ascii "1.0") ≡ pos 1000000000000000
  pub dot_first : in_units 15 (ascii ".5") ≡ pos 500000000000000
  pub dot_last : in_units 15 (ascii "5.") ≡ pos 5000000000000000
  pub plus : in_units 15 (ascii "+5") ≡ pos 5000000000000000
  pub small : in_units 15 (ascii "-0.0000000000000006") ≡ negsuc 0
  pub half : in_units 15 (ascii "0.5D-15") ≡ pos 1
  pub half_below_zero : in_units 15 (ascii "-0.5e-15") ≡ negsuc 0
  pub below_half : in_units 15 (ascii "4.9e-16") ≡ pos 0
  pub carried : in_units 15 (ascii "0.9999999999999995d0") ≡ pos 1000000000000000
  pub zeros_before : value_of (ascii "0002190") ≡ 2190

pub values : Values
unfolding ascii pieces on_first read_on is_minus unsigned exponent_up exponent_down in_units signed nearest
values = record {
  one = refl;
  dot_first = refl;
  dot_last = refl;
  plus = refl;
  small = refl;
  half = refl;
  half_below_zero = refl;
  below_half = refl;
  carried = refl;
  zeros_before = refl;
}

pub record Shapes : Type 0 where
  pub whole : is_decimal (ascii "7") ≡ true
  pub dot_first : is_decimal (ascii "-.5") ≡ true
  pub dot_last : is_decimal (ascii "5.D+02") ≡ true
  pub nothing : is_decimal (ascii "") ≡ false
  pub dot_alone : is_decimal (ascii ".") ≡ false
  pub letter_alone : is_decimal (ascii "1e") ≡ false
  pub letter_first : is_decimal (ascii "e5") ≡ false
  pub two_letters : is_decimal (ascii "1e5e5") ≡ false
  pub two_dots : is_decimal (ascii "1.2.3") ≡ false
  pub two_signs : is_decimal (ascii "+-5") ≡ false
  pub dot_after_letter : is_decimal (ascii "1e0.5") ≡ false

pub shapes : Shapes
unfolding ascii pieces on_first all_digits is_empty is_whole unsigned is_exponent is_mantissa
shapes = record {
  whole = refl;
  dot_first = refl;
  dot_last = refl;
  nothing = refl;
  dot_alone = refl;
  letter_alone = refl;
  letter_first = refl;
  two_letters = refl;
  two_dots = refl;
  two_signs = refl;
  dot_after_letter = refl;
}
