-- A number by its sign and its size.
use mathlib.Core.Path.{◌≡◌, refl}
use mathlib.Core.List.{◌++◌}
use Prim.Native.Nat.{suc, ◌^◌, ◌≤◌}
use native.Mathlib.Omega.{arith}
use borrow.Author.Tests.{le-ltb}
use lib.IntN.{ℤ, pos, negsuc, nat_abs}
use lib.ListN.{length}
use lib.Signed.{lt_z}
use Rattle.text.specs.Text.{ascii, decimal, number, sign}
use Rattle.text.proofs.Decimals.{decimal_most}

pub signed_number : (z : ℤ) → number z ≡ sign (lt_z z (pos 0)) ++ decimal (nat_abs z)
unfolding number sign
signed_number (pos n) = rw (le-ltb n 0 (omega arith)) refl
signed_number (negsuc n) = refl

-- a number of the machine has a sign and 19 digits at most
pub number_most : (z : ℤ) → nat_abs z ≤ 2 ^ 63 → length (number z) ≤ 20
unfolding ascii number
number_most (pos n) h = omega (arith, decimal_most n h)
number_most (negsuc n) h = omega (arith, decimal_most (suc n) h)
