-- The least and the largest number of the machine, and numbers about zero.
use mathlib.Core.Path.{◌≡◌, refl}
use lib.IntN.{pos, negsuc}
use Rattle.text.specs.Text.{ascii, digits, decimal, number}

pub record Numbers : Type 0 where
  pub least : number (negsuc 9223372036854775807) ≡ ascii "-9223372036854775808"
  pub below_zero : number (negsuc 0) ≡ ascii "-1"
  pub zero : number (pos 0) ≡ ascii "0"
  pub ten : number (pos 10) ≡ ascii "10"
  pub largest : number (pos 9223372036854775807) ≡ ascii "9223372036854775807"

pub numbers : Numbers
unfolding ascii digits decimal number
numbers = record { least = refl; below_zero = refl; zero = refl; ten = refl; largest = refl }
