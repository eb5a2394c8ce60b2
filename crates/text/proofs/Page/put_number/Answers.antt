-- The sign and then the size in decimal.
use mathlib.Core.Path.{◌≡◌}
use Prim.Native.Nat.{◌+◌}
use native.Mathlib.Omega.{arith}
use lib.IntN.{ℤ, pos, nat_abs}
use lib.ListN.{length, length-append}
use lib.Signed.{lt_z}
use mir.Facts.{to_z-of_z}
use Rattle.text.specs.Text.{decimal, number, sign}
use Rattle.text.proofs.Puts.{puts_then}
use Rattle.text.proofs.Numbers.{signed_number}
use Rattle.text.proofs.Page.put_number.Goals as goal

sized : (z : ℤ) → length (number z) ≡ length (sign (lt_z z (pos 0))) + length (decimal (nat_abs z))
sized z = rw (signed_number z) (length-append (sign (lt_z z (pos 0))) (decimal (nat_abs z)))

pub put_sign-requires : goal.put_sign-requires
put_sign-requires c = rw (to_z-of_z c.ranges.z) (omega (arith, c.requires, sized c.args.z))

pub put_decimal-requires : goal.put_decimal-requires
put_decimal-requires c =
    let signed = rw (to_z-of_z c.ranges.z) at c.put_sign.ensures in
    rw (c.unsigned_abs.ensures.value, to_z-of_z c.ranges.z) (omega (arith, c.requires, sized c.args.z, signed.put.next_is, signed.same_room))

pub returns : goal.returns
returns c =
    let same = to_z-of_z c.ranges.z in
    rw (signed_number c.args.z) (puts_then (rw same at c.put_sign.ensures) (rw (c.unsigned_abs.ensures.value, same) at c.put_decimal.ensures))
