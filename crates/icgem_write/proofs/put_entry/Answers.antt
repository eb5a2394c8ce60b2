-- The keyword, the value at the end of the columns left, the line feed.
use native.Mathlib.Omega.{arith}
use Rattle.text.specs.Text.{ascii}
use Rattle.text.proofs.Puts.{puts_then}
use Rattle.icgem_write.specs.Written.{entry}
use Rattle.icgem_write.proofs.put_entry.Goals as goal

pub returns : goal.returns
unfolding entry ascii
returns g c = record {
  puts = puts_then (puts_then c.put_word.ensures c.put.ensures.put) c.put_byte.ensures;
  next_at = omega (arith, c.put_word.ensures.put.next_is, c.put.ensures.filled, c.put_byte.ensures.put.next_is, c.requires.within);
}
