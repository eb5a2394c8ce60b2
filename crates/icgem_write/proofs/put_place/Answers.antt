-- Each column after the other. A coefficient comes back from the machine as it is.
use native.Mathlib.Omega.{arith}
use mir.Facts.{to_z-of_z}
use Rattle.text.specs.Text.{ascii}
use Rattle.text.proofs.Puts.{puts_then}
use Rattle.icgem_write.specs.Written.{place_line}
use Rattle.icgem_write.proofs.put_place.Goals as goal

pub returns : goal.returns
unfolding place_line ascii
returns c =
    let first = rw (c.coefficient.ensures, to_z-of_z c.ranges.c) at c.put-3.ensures.put in
    let second = rw (c.coefficient-2.ensures, to_z-of_z c.ranges.s) at c.put-4.ensures.put in
    record {
      puts = puts_then (puts_then (puts_then (puts_then (puts_then c.put_word.ensures (rw c.from.ensures at c.put.ensures.put)) (rw c.from-2.ensures at c.put-2.ensures.put)) first) second) c.put_byte.ensures;
      next_at = omega (arith, c.put_word.ensures.put.next_is, c.put.ensures.filled, c.put-2.ensures.filled, c.put-3.ensures.filled, c.put-4.ensures.filled, c.put_byte.ensures.put.next_is);
    }
