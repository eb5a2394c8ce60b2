-- A number with decimals has its sign, its whole part, a dot and its decimals.
use mathlib.Core.Path.{◌≡◌, refl}
use mathlib.Core.Bool.{Bool, true, false}
use Prim.Native.Nat.{◌+◌, ◌/◌, ◌^◌}
use native.Mathlib.Omega.{arith}
use lib.ListN.{length, length-append}
use mir.Val.{bool_byte}
use Rattle.text.specs.Text.{ascii, decimal, fixed_point, sign}
use Rattle.text.proofs.Columns.{fixed_length}
use Rattle.columns.specs.declared.Fixed.{Fixed}
use Rattle.columns.specs.Fixed.{fixed}

pub sized : (x : Fixed) → length (fixed x) ≡ length (sign x.negative) + length (decimal (x.size / 10 ^ x.decimals)) + 1 + x.decimals
unfolding fixed
sized x = omega (arith, length-append (sign x.negative) (fixed_point x.decimals x.size), fixed_length x.decimals x.size)

-- a minus sign is as many bytes as the machine's byte of its test says
pub sign_sized : (negative : Bool) → bool_byte negative ≡ length (sign negative)
unfolding sign ascii
sign_sized true = refl
sign_sized false = refl
