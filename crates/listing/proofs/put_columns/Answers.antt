-- Each turn puts one column more, which takes 21 bytes at most.
use native.Mathlib.Omega.{arith}
use lib.IntN.{pos}
use lib.ListN.{get_or}
use lib.Signed.{mag, nat_abs-le}
use Prim.Native.Nat.{◌^◌, ◌<◌}
use mir.Syntax.{w64}
use Rattle.text.proofs.Numbers.{number_most}
use Rattle.whole.proofs.Machine.{back}
use Rattle.listing.proofs.Columns.{upto_none, upto_next}
use Rattle.std.proofs.Common.{rules}
use Rattle.listing.proofs.put_columns.Goals as goal

pub loop-count-init : goal.loop-count-init
loop-count-init c = upto_none _ _

pub put_number-requires : goal.put_number-requires
put_number-requires c =
    let z = get_or c.args.counts.now c.loop-count.count-index (pos 0) in
    let held : mag z < 2 ^ 63 = search rules in
    rw (back w64 z held) (omega (arith, c.requires, c.loop-count.invariant.within, c.loop-count.invariant.puts.same_room, c.put_byte.ensures.put.next_is, c.put_byte.ensures.same_room, number_most z (nat_abs-le z held)))

pub loop-count-preserved : goal.loop-count-preserved
loop-count-preserved c =
    let z = get_or c.args.counts.now c.loop-count.count-index (pos 0) in
    let held : mag z < 2 ^ 63 = search rules in
    upto_next c.args.counts.now c.loop-count.invariant (omega arith) (nat_abs-le z held) c.put_byte.ensures (rw (back w64 z held) at c.put_number.ensures)
