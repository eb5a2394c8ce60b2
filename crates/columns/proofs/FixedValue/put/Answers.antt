-- The sign, the whole part, the dot, the decimals.
use native.Mathlib.Omega.{arith}
use Rattle.text.specs.Text.{ascii, fixed_point}
use Rattle.text.proofs.Puts.{puts_then}
use Rattle.columns.specs.Fixed.{fixed}
use Rattle.columns.proofs.Sizes.{sized}
use Rattle.columns.proofs.FixedValue.put.Goals as goal

pub put_sign-requires : goal.put_sign-requires
put_sign-requires c = omega (arith, c.requires, sized c.args.self.now)

pub put_decimal-requires : goal.put_decimal-requires
put_decimal-requires c = rw c.whole.ensures (omega (arith, c.requires, sized c.args.self.now, c.put_sign.ensures.put.next_is, c.put_sign.ensures.same_room))

pub put_byte-requires : goal.put_byte-requires
put_byte-requires c =
    let whole = rw c.whole.ensures at c.put_decimal.ensures in
    omega (arith, c.requires, sized c.args.self.now, c.put_sign.ensures.put.next_is, c.put_sign.ensures.same_room, whole.put.next_is, whole.same_room)

pub put_last-requires : goal.put_last-requires
put_last-requires c =
    let whole = rw c.whole.ensures at c.put_decimal.ensures in
    omega (arith, c.requires, sized c.args.self.now, c.put_sign.ensures.put.next_is, c.put_sign.ensures.same_room, whole.put.next_is, whole.same_room, c.put_byte.ensures.put.next_is, c.put_byte.ensures.same_room)

pub returns : goal.returns
unfolding fixed fixed_point ascii
returns c =
    let whole = rw c.whole.ensures at c.put_decimal.ensures in
    puts_then c.put_sign.ensures (puts_then (puts_then whole c.put_byte.ensures) c.put_last.ensures)
