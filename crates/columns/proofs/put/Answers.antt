-- Spaces for the columns that the text leaves, then the text.
use native.Mathlib.Omega.{arith}
use Prim.Native.Nat.{◌-◌}
use Rattle.text.specs.Text.{padded}
use Rattle.text.proofs.Puts.{puts_then}
use Rattle.text.proofs.Columns.{spaces_length}
use Rattle.columns.proofs.put.Goals as goal

pub put-requires : goal.put-requires
put-requires g c =
    omega (arith, c.requires.room, c.requires.within, c.len.ensures, c.put_spaces.ensures.put.next_is, c.put_spaces.ensures.same_room, spaces_length (c.args.columns - c.len.result))

pub returns-clause-put : goal.returns-clause-put
unfolding padded
returns-clause-put g c = rw (← c.len.ensures) (puts_then c.put_spaces.ensures c.put.ensures)

pub returns-clause-filled : goal.returns-clause-filled
returns-clause-filled g c =
    omega (arith, c.requires.within, c.len.ensures, c.put_spaces.ensures.put.next_is, spaces_length (c.args.columns - c.len.result), c.put.ensures.put.next_is)
